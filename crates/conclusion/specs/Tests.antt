-- The finish's tests: the machine, going through a row of references, ends as `ask` ends on the questions that the row stands for.
-- After this file a reader knows that the tests cost and list what inference says they do, and change nothing else.
use Rattle.std.specs.Prelude.{ℕ, suc, ◌+◌, Bool, eqb, length}
use Rattle.std.proofs.Math.Path.{◌≡◌, refl, ap, subst}
use Rattle.std.proofs.Common.{sym, ◌∙◌, arith, eq-eqb}
use Rattle.std.proofs.Math.Bool.{true, false}
use mathlib.Core.List.{List, [], ◌∷◌, ◌++◌}
use Rattle.meter.specs.Meter.{Out, spent, halt, done, Why, M, ret, on, ◌>>=◌}
use Rattle.types.specs.Ty.{Ty}
use Rattle.unification.specs.Arena.{U, solved}
use Rattle.inference.specs.Answer.{Problem, spell_problem, spell_problems}
use Rattle.inference.specs.Finish.{Finding, found, unsolved, Question, Findings, noted, ask}
use Rattle.inference.specs.Finish as F
use Rattle.inference.proofs.Cost as C
use Rattle.machine.specs.State.{State}
use Rattle.forms.specs.Forms.{then}
use Rattle.machine.specs.Machine.{Mach, with_st, left_of, stopped_of, list_of}
use Rattle.finisher.specs.Finisher.{told_by, settle_of, each_of}
use Rattle.simulation.specs.Relation.{Wrote}
use Rattle.machine.specs.Still.{Halted, test_yes}
use Rattle.finisher.specs.Still.{still_each}
use Rattle.simulation.specs.Steps.{nil_right}
use Rattle.simulation.specs.Output.{assoc, Spoke, list_spoke}

-- the machine with another budget and another output: all that the finish changes
abbrev pub ended : ℕ → ℕ → Bool → List ℕ → Mach → Mach
ended r n o out m = record {
  st = record { at = m.st.at; from = m.st.from; last = m.st.last; nodes = m.st.nodes; budget = r; slots = m.st.slots; met = m.st.met; bound = m.st.bound; bytes = n; over = o; stop = m.st.stop };
  arena = m.arena;
  book = m.book;
  out = out;
}

-- stopped with a number
abbrev pub halted : ℕ → Mach → Mach
halted k m = with_st (record { at = m.st.at; from = m.st.from; last = m.st.last; nodes = m.st.nodes; budget = m.st.budget; slots = m.st.slots; met = m.st.met; bound = m.st.bound; bytes = m.st.bytes; over = m.st.over; stop = k }) m

-- ---- one reference: what each outcome of its test does
module _ (t : ℕ) (q : Problem) (m : Mach) (g : m.st.stop ≡ 0) where
  told_as_lem : (o : Out U Bool) → solved m.arena m.st.nodes t m.st.budget ≡ o → settle_of t q.kind q.place q.name m ≡ told_by o q.kind q.place q.name m
  unfolding settle_of
  told_as_lem o e = test_yes (eqb m.st.stop 0) _ _ (eq-eqb m.st.stop 0 g) ∙ ap (λ (x : Out U Bool). told_by x q.kind q.place q.name m) e

  left_as : (l : ℕ) → with_st (left_of l m.st) m ≡ ended l m.st.bytes m.st.over m.out m
  unfolding left_of
  left_as l = ap (λ (v : State). with_st v m) (test_yes (eqb m.st.stop 0) _ _ (eq-eqb m.st.stop 0 g))

  stopped_as : (k : ℕ) → with_st (stopped_of k m.st) m ≡ halted k m
  unfolding stopped_of
  stopped_as k = ap (λ (v : State). with_st v m) (test_yes (eqb m.st.stop 0) _ _ (eq-eqb m.st.stop 0 g))

  pub settle_yes : (l : ℕ) → solved m.arena m.st.nodes t m.st.budget ≡ done true l → settle_of t q.kind q.place q.name m ≡ ended l m.st.bytes m.st.over m.out m
  unfolding told_by then
  settle_yes l e = told_as_lem (done true l) e ∙ left_as l

  pub settle_no : (l : ℕ) → solved m.arena m.st.nodes t m.st.budget ≡ done false l
      → settle_of t q.kind q.place q.name m ≡ list_of q.kind q.place q.name (ended l m.st.bytes m.st.over m.out m)
  unfolding told_by then
  settle_no l e = told_as_lem (done false l) e ∙ ap (list_of q.kind q.place q.name) (left_as l)

  pub settle_spent : (u : U) → solved m.arena m.st.nodes t m.st.budget ≡ spent u → settle_of t q.kind q.place q.name m ≡ halted 7 m
  unfolding told_by then
  settle_spent u e = told_as_lem (spent u) e ∙ stopped_as 7

  pub settle_halt : (w : Why) (u : U) → solved m.arena m.st.nodes t m.st.budget ≡ halt w u → settle_of t q.kind q.place q.name m ≡ halted 2 m
  unfolding told_by then
  settle_halt w u e = told_as_lem (halt w u) e ∙ stopped_as 2

-- ---- the machine after bytes P, with r units left
pub record Stood (room : ℕ) (m : Mach) (P : List ℕ) (r : ℕ) (m' : Mach) : Type 0 where
  pub bytes : ℕ
  pub over : Bool
  pub out : List ℕ
  pub is : m' ≡ ended r bytes over out m
  pub wrote : Wrote room P bytes over out

pub stood_as : (room : ℕ) (m : Mach) (P Q : List ℕ) (r : ℕ) (m' : Mach) → P ≡ Q → Stood room m P r m' → Stood room m Q r m'
stood_as room m P Q r m' e s = subst (λ (l : List ℕ). Stood room m l r m') e s

-- where the tests end: P are the bytes before them
abbrev pub Tested : ℕ → Mach → List ℕ → Mach → Out U Findings → Type 0
Tested room m P m' (done f r) = Stood room m (P ++ spell_problems f.problems) r m'
Tested room m P m' (spent e) = m'.st.stop ≡ 7
Tested room m P m' (halt w e) = m'.st.stop ≡ 2

module _ (room : ℕ) (m : Mach) (g : m.st.stop ≡ 0) (f : ℕ → Mach → Mach) (still : (j : ℕ) (x : Mach) → Halted x → f j x ≡ x) where
  -- from number j on, f tests the references of these questions
  abbrev pub Asks : ℕ → List Question → Type 0
  Asks j [] = Unit {0}
  Asks j (q ∷ qs) =
      ((r n : ℕ) (o : Bool) (out : List ℕ) → f j (ended r n o out m) ≡ settle_of q.ref q.problem.kind q.problem.place q.problem.name (ended r n o out m)) × Asks (j + 1) qs

  found-more : (P : List ℕ) (m' : Mach) (q : Question) (T : Ty) (o : Out U Findings) → Tested room m P m' o → Tested room m P m' (on o (λ f. ret (noted q (found T) f)))
  unfolding on ret noted
  found-more P m' q T (done x r) h = h
  found-more P m' q T (spent e) h = h
  found-more P m' q T (halt w e) h = h

  unsolved-more : (P : List ℕ) (m' : Mach) (q : Question) (o : Out U Findings) → Tested room m (P ++ spell_problem q.problem) m' o → Tested room m P m' (on o (λ f. ret (noted q unsolved f)))
  unfolding on ret noted spell_problems
  unsolved-more P m' q (done x r) h = stood_as room m _ _ r m' (assoc P (spell_problem q.problem) (spell_problems x.problems)) h
  unsolved-more P m' q (spent e) h = h
  unsolved-more P m' q (halt w e) h = h

  -- the row's end, where the first test ended so
  module _ (q : Question) (qs : List Question) (j b : ℕ) (n : ℕ) (o : Bool) (out P : List ℕ)
      (here : f j (ended b n o out m) ≡ settle_of q.ref q.problem.kind q.problem.place q.problem.name (ended b n o out m))
      (w : Wrote room P n o out)
      (rec : (b n : ℕ) (o : Bool) (out P : List ℕ) → Wrote room P n o out → Tested room m P (each_of f (length qs) (j + 1) (ended b n o out m)) (ask m.arena m.st.nodes qs b)) where
    abbrev rest : Finding → M U Findings
    rest x = ask m.arena m.st.nodes qs >>= λ f. ret (noted q x f)

    first : (x : Finding) (l : ℕ) → F.test m.arena m.st.nodes q.ref b ≡ done x l → ask m.arena m.st.nodes (q ∷ qs) b ≡ on (ask m.arena m.st.nodes qs l) (λ f. ret (noted q x f))
    unfolding ask ◌>>=◌ on
    first x l e = ap (λ (y : Out U Finding). on y rest) e

    cut_short : F.test m.arena m.st.nodes q.ref b ≡ spent tt → ask m.arena m.st.nodes (q ∷ qs) b ≡ spent tt
    unfolding ask ◌>>=◌ on
    cut_short e = ap (λ (y : Out U Finding). on y rest) e

    cut_off : (v : Why) → F.test m.arena m.st.nodes q.ref b ≡ halt v tt → ask m.arena m.st.nodes (q ∷ qs) b ≡ halt v tt
    unfolding ask ◌>>=◌ on
    cut_off v e = ap (λ (y : Out U Finding). on y rest) e

    by : (c : Out U Bool) → solved m.arena m.st.nodes q.ref b ≡ c → Tested room m P (each_of f (suc (length qs)) j (ended b n o out m)) (ask m.arena m.st.nodes (q ∷ qs) b)
    unfolding each_of
    by (done true l) e =
        let y = C.test_yes m.arena m.st.nodes q.ref b l e in
        let z : f j (ended b n o out m) ≡ ended l n o out m = here ∙ settle_yes q.ref q.problem (ended b n o out m) g l e in
        let t = found-more P _ q y.0 _ (rec l n o out P w) in
        subst (λ (a : Out U Findings). Tested room m P (each_of f (length qs) (j + 1) (f j (ended b n o out m))) a) (sym (first (found y.0) l y.2))
        (subst (λ (a : Mach). Tested room m P (each_of f (length qs) (j + 1) a) (on (ask m.arena m.st.nodes qs l) (λ f. ret (noted q (found y.0) f)))) (sym z) t)
    by (done false l) e =
        let y = C.test_no m.arena m.st.nodes q.ref b l e in
        let s : Spoke room (P ++ spell_problem q.problem) (ended l n o out m) (list_of q.problem.kind q.problem.place q.problem.name (ended l n o out m)) = list_spoke room q.problem (ended l n o out m) P g w in
        let z : f j (ended b n o out m) ≡ ended l s.bytes s.over s.out m = here ∙ settle_no q.ref q.problem (ended b n o out m) g l e ∙ s.is in
        let t = unsolved-more P _ q _ (rec l s.bytes s.over s.out (P ++ spell_problem q.problem) s.wrote) in
        subst (λ (a : Out U Findings). Tested room m P (each_of f (length qs) (j + 1) (f j (ended b n o out m))) a) (sym (first unsolved l y))
        (subst (λ (a : Mach). Tested room m P (each_of f (length qs) (j + 1) a) (on (ask m.arena m.st.nodes qs l) (λ f. ret (noted q unsolved f)))) (sym z) t)
    by (spent u) e =
        let y = C.test-spent m.arena m.st.nodes q.ref b e in
        let z : f j (ended b n o out m) ≡ halted 7 (ended b n o out m) = here ∙ settle_spent q.ref q.problem (ended b n o out m) g u e in
        let k : ask m.arena m.st.nodes (q ∷ qs) b ≡ spent tt = cut_short y in
        let i = ap (each_of f (length qs) (j + 1)) z ∙ still_each f still (length qs) (j + 1) (halted 7 (ended b n o out m)) (λ c. (let v : ◌≡◌ {A = ℕ} 7 0 = c in omega arith)) in
        subst (λ (a : Out U Findings). Tested room m P (each_of f (length qs) (j + 1) (f j (ended b n o out m))) a) (sym k) (ap (λ (a : Mach). a.st.stop) i)
    by (halt v u) e =
        let y = C.test-halt m.arena m.st.nodes q.ref b v e in
        let z : f j (ended b n o out m) ≡ halted 2 (ended b n o out m) = here ∙ settle_halt q.ref q.problem (ended b n o out m) g v u e in
        let k : ask m.arena m.st.nodes (q ∷ qs) b ≡ halt v tt = cut_off v y in
        let i = ap (each_of f (length qs) (j + 1)) z ∙ still_each f still (length qs) (j + 1) (halted 2 (ended b n o out m)) (λ c. (let v : ◌≡◌ {A = ℕ} 2 0 = c in omega arith)) in
        subst (λ (a : Out U Findings). Tested room m P (each_of f (length qs) (j + 1) (f j (ended b n o out m))) a) (sym k) (ap (λ (a : Mach). a.st.stop) i)

  pub each_tests : (qs : List Question) (j b n : ℕ) (o : Bool) (out P : List ℕ) → Asks j qs → Wrote room P n o out
      → Tested room m P (each_of f (length qs) j (ended b n o out m)) (ask m.arena m.st.nodes qs b)
  unfolding each_of ask ret spell_problems
  each_tests [] j b n o out P h w = record { bytes = n; over = o; out = out; is = refl; wrote = subst (λ (l : List ℕ). Wrote room l n o out) (sym (nil_right P)) w }
  each_tests (q ∷ qs) j b n o out P h w =
      by q qs j b n o out P (h.0 b n o out) w (λ b n o out P w. each_tests qs (j + 1) b n o out P h.1 w) (solved m.arena m.st.nodes q.ref b) refl
