-- Small facts for the proofs of this crate.
use Rattle.std.proofs.Common.{◌≡◌, ◌∙◌, ap, ap₂, arith, List, ℕ, suc, ◌+◌, ◌≤◌, ◌<◌, ◌-◌, get_or, eqb, Bool, true, false, refl}
use Rattle.forms.specs.Forms.{test, then}
use Rattle.machine.specs.Machine.{Mach, cell, put_of}
use Rattle.machine.specs.Still.{test_eq}
use Rattle.finisher.specs.Finisher.{clean_of, write_answer_of}
use Rattle.runner.specs.Begin.{entered_from}
use Rattle.memory.specs.Memory.{cleared}
use Rattle.runner.specs.Answers.{Answer, told, called}
use Rattle.runner.specs.declared.Verdict.TheVariants.{Typed, Problems}
use Rattle.runner.specs.Run.{Judged, judged, judge_of, verdict_of}

-- the environment's types: one more, and none left
pub entered_more : (types : List ℕ) (x : ℕ) (m : Mach) → x < 256 → entered_from types x (256 - x) m ≡ entered_from types (x + 1) (256 - (x + 1)) (put_of (cell 3392 1 x 0) (get_or types x 0) m)
unfolding entered_from
entered_more types x m l = let e : 256 - x ≡ suc (256 - (x + 1)) = omega arith in ap (λ (k : ℕ). entered_from types x k m) e

pub entered_end : (types : List ℕ) (x : ℕ) (m : Mach) → 256 ≤ x → entered_from types x (256 - x) m ≡ m
unfolding entered_from
entered_end types x m l = let e : 256 - x ≡ 0 = omega arith in ap (λ (k : ℕ). entered_from types x k m) e

pub ruleset turns = (entered_more, entered_end)

-- the answer, by whether nothing is listed
by_over : (over empty : Bool) (x y : Judged) → test over (λ _. x) (λ _. test empty (λ _. y) (λ _. x)) ≡ test (test over (λ _. false) (λ _. empty)) (λ _. y) (λ _. x)
unfolding test
by_over true empty x y = refl
by_over false empty x y = refl

pub judge_clean : (budget : ℕ) (m : Mach) → m.st.stop ≡ 0
    → judge_of budget m ≡ test (clean_of m.st) (λ _. then (write_answer_of m) λ w. judged (verdict_of Typed budget w.st) w.out) (λ _. judged (verdict_of Problems budget m.st) m.out)
unfolding judge_of clean_of
judge_clean budget m h = test_eq m.st.stop 0 _ _ h ∙ by_over m.st.over (eqb m.st.bytes 0) _ _

-- what is left behind
pub closes : (a : Answer) (n : ℕ) (out out' work work' : List ℕ) → n ≡ (told a).size → out' ≡ cleared n out → work' ≡ cleared 0 work → called a out' work' ≡ called a (cleared (told a).size out) (cleared 0 work)
closes a n out out' work work' e f g = ap₂ (λ (x y : List ℕ). called a x y) (f ∙ ap (λ (k : ℕ). cleared k out) e) g
