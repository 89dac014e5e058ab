-- Laws that the proofs of the finish cite: what the answers of the test and of the writer do to the machine and the turns of a row's loop.
use Rattle.std.proofs.Common.{ℕ, suc, ◌+◌, ◌-◌, ◌≤◌, ◌<◌, sym, arith, ◌≡◌, ap, ◌∙◌, refl, Bool, true, false, List}
use Rattle.std.specs.Prelude.{Result, Ok, Err}
use Rattle.meter.specs.Meter.{Out}
use Rattle.unification.specs.Arena as A
use Rattle.unification.specs.Put as P
use Rattle.unifier.specs.declared.Halt.{Halt}
use Rattle.unifier.specs.declared.Halt.TheVariants as Ha
use Rattle.unifier.specs.Answers.{told}
use Rattle.write.specs.declared.WriteError.{WriteError}
use Rattle.write.specs.declared.WriteError.TheVariants as Wr
use Rattle.write.specs.Answers.{laid}
use Rattle.forms.specs.Forms.{test, then}
use Rattle.machine.specs.Machine.{Mach, on_st, left_of, stopped_of, bytes_of, over_of, list_of}
use Rattle.machine.specs.Still.{test_no, test_eq}
use Rattle.machine.specs.declared.Machine.{Machine}
use Rattle.machine.specs.Seen.{machine, halted, stop_number, Kept}
use Rattle.finisher.specs.Finisher.{most, told_by, settle_of, laid_by, spell_of, each_of}

-- ---- the test's answers
abbrev pub told_next : Result Bool Halt → ℕ → ℕ → ℕ → ℕ → Mach → Mach
told_next (Ok true) l q p x m = on_st (left_of l) m
told_next (Ok false) l q p x m = list_of q p x (on_st (left_of l) m)
told_next (Err h) l q p x m = on_st (stopped_of (stop_number (halted h))) m

by_told : (r : Result Bool Halt) (l q p x : ℕ) (m : Mach) → told_by (told r l) q p x m ≡ told_next r l q p x m
unfolding told_by then
by_told (Ok true) l q p x m = refl
by_told (Ok false) l q p x m = refl
by_told (Err Ha.Spent) l q p x m = refl
by_told (Err Ha.Broken) l q p x m = refl

pub settles : (m : Machine) (t q p x : ℕ) (r : Result Bool Halt) (l : ℕ) → told r l ≡ A.solved (machine m).arena m.nodes t m.budget → settle_of t q p x (machine m) ≡ told_next r l q p x (machine m)
unfolding settle_of test
settles m t q p x r l e = ap (λ (o : Out A.U Bool). told_by o q p x (machine m)) (sym e) ∙ by_told r l q p x (machine m)

-- ---- the writer's answers: page is the output after it
abbrev pub paged : List ℕ → Mach → Mach
paged page m = record { st = m.st; arena = m.arena; book = m.book; out = page }

abbrev pub laid_next : Result ℕ WriteError → Mach → Mach
laid_next (Ok n) m = on_st (bytes_of n) m
laid_next (Err Wr.Full) m = on_st over_of m
laid_next (Err Wr.Spent) m = on_st (stopped_of 2) m
laid_next (Err Wr.Broken) m = on_st (stopped_of 2) m

by_laid : (r : Result ℕ WriteError) (l : ℕ) (page : List ℕ) (m : Mach) → laid_by (laid r l page) m ≡ laid_next r (paged page m)
unfolding laid_by then
by_laid (Ok n) l page m = refl
by_laid (Err Wr.Full) l page m = refl
by_laid (Err Wr.Spent) l page m = refl
by_laid (Err Wr.Broken) l page m = refl

pub spells : (m : Machine) (t : ℕ) (r : Result ℕ WriteError) (l : ℕ) (page : List ℕ) → m.over ≡ false → laid r l page ≡ P.put (machine m).arena m.nodes (m.output.now, m.bytes, t) most
    → spell_of t (machine m) ≡ laid_next r (paged page (machine m))
unfolding spell_of
spells m t r l page o e =
    test_eq 0 0 _ _ refl ∙ test_no m.over _ _ o ∙ ap (λ (x : Out P.Page P.Sheet). laid_by x (machine m)) (sym e) ∙ by_laid r l page (machine m)

-- ---- rows, by the turns that are left
pub each_end : (f : ℕ → Mach → Mach) (u i : ℕ) (m : Mach) → u ≤ i → each_of f (u - i) i m ≡ m
unfolding each_of
each_end f u i m l = let e : u - i ≡ 0 = omega arith in rw e

pub each_turn : (f : ℕ → Mach → Mach) (u i : ℕ) (m : Mach) → i < u → each_of f (u - i) i m ≡ each_of f (u - (i + 1)) (i + 1) (f i m)
unfolding each_of
each_turn f u i m l = let e : u - i ≡ suc (u - (i + 1)) = omega arith in rw e

pub ruleset turns = (each_end, each_turn)

pub kept_then : {a b c : Machine} → Kept a b → Kept b c → Kept a c
kept_then x y = record { formula = y.formula ∙ x.formula; environment = y.environment ∙ x.environment; arena = y.arena ∙ x.arena; book = y.book ∙ x.book; output = y.output ∙ x.output }
