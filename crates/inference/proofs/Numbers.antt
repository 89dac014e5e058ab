-- The theorems of specs/Numbers.antt, whose head says what they give: `rows`, `number_2`, `number_8`.
use Rattle.std.specs.Prelude.{ℕ, ◌-◌, ◌≤◌, ◌<◌, ◌≢◌, ◌↔◌, Bool, List, ◌++◌, length}
use Rattle.std.proofs.Math.Path.{◌≡◌, refl, sym, ap, ap₂, subst}
use Rattle.std.proofs.Common.{◌∙◌, length-append, le-leb, eq-eqb, ne_eqb}
use Rattle.std.proofs.Math.Bool.{true, false}
use native.Mathlib.Omega.{arith}
use Rattle.std.proofs.Math.Decide.{dec_le, ℕ_discrete}
use Rattle.std.proofs.lemmas.List.{length-replicate}
use Rattle.std.proofs.lemmas.Bool.{lt-leb}
use Rattle.meter.specs.Meter.{Out, done}
use Rattle.types.specs.declared.Fault.TheVariants.{Malformed, Beyond}
use Rattle.formula.specs.Tree.{Formula}
use Rattle.formula.specs.Environment.{Entries, lookup}
use Rattle.formula.specs.Parse.{Parsed, parsed, too_long, faulty, parse_of}
use Rattle.formula.specs.EnvParse.{environment_of}
use Rattle.unification.specs.Arena.{U}
use Rattle.inference.specs.Answer.{Answer, refused, written}
use Rattle.inference.specs.Finish.{Outcome, typed, failed}
use Rattle.inference.specs.Infer.{either, zeros, sized, fitting, answer, answered, blamed, formed, infer_of, output_after, work_after}
use Rattle.inference.specs.Sizes.{long-environment, long-formula}
use Rattle.inference.proofs.Sizes.{sized-holds}
use Rattle.inference.specs.Conclude.{Ended, ended-spent, ended_full, ended-done}
use Rattle.inference.proofs.Conclude.{concluded-ends}
use Rattle.inference.specs.Numbers.{Row, row_8, row_0_1, ending, Walks, row_6, row_7, row_3, row_5_environment, row_4, row_5_formula, SizesHold, row_2, TooLong}

-- ---- the rows
module _ (formula environment : List ℕ) (names capacity budget room work : ℕ) where
  abbrev A : Answer
  A = infer_of formula environment names capacity budget room work

  -- a row holds: by the sizes, by what was read, by how the walk ended, by the room
  fitted : (w : Walks formula environment names capacity budget room work) (o : Outcome) (left : ℕ) → ending formula environment names capacity budget room work w ≡ done o left → Dec ((answer (budget - left) o).size ≤ room) → Row formula environment names capacity budget room work (fitting room (answer (budget - left) o))
  unfolding fitting either
  fitted w o left e (yes l) = subst (λ (c : Bool). Row formula environment names capacity budget room work (either c (answer (budget - left) o) (refused 8 0))) (sym (le-leb (answer (budget - left) o).size room l)) (row_0_1 w o left e l)
  fitted w o left e (no l) = subst (λ (c : Bool). Row formula environment names capacity budget room work (either c (answer (budget - left) o) (refused 8 0))) (sym (lt-leb (answer (budget - left) o).size room (omega arith))) (row_8 w o left e (omega arith))

  ended : (w : Walks formula environment names capacity budget room work) (o : Out U Outcome) → ending formula environment names capacity budget room work w ≡ o → Ended (lookup w.entries) w.tree capacity o → Row formula environment names capacity budget room work (answered budget room o)
  unfolding answered
  ended w o e ended-spent = row_7 w e
  ended w o e (ended_full l) = row_6 w e
  ended w o e (ended-done l q left c) = fitted w q left e (dec_le (answer (budget - left) q).size room)

  read : SizesHold formula environment names capacity budget room work → (es : Parsed Entries) (t : Parsed Formula) → environment_of names environment ≡ es → parse_of names formula ≡ t → Row formula environment names capacity budget room work (formed capacity budget room es t)
  unfolding formed blamed
  read s too_long t e e' = absurd (long-environment names environment e s.environment_short)
  read s (faulty (Malformed p)) t e e' = row_3 s p e
  read s (faulty (Beyond p)) t e e' = row_5_environment s p e
  read s (parsed es) too_long e e' = absurd (long-formula names formula e' s.formula_short)
  read s (parsed es) (faulty (Malformed p)) e e' = row_4 s es e p e'
  read s (parsed es) (faulty (Beyond p)) e e' = row_5_formula s es e p e'
  read s (parsed es) (parsed f) e e' = ended (record { sizes = s; entries = es; tree = f; environment_read = e; formula_read = e' }) _ refl (concluded-ends (lookup es) f capacity budget)

  sizes : (c : Bool) → sized (length formula) (length environment) names capacity work ≡ c → Row formula environment names capacity budget room work (either c (formed capacity budget room (environment_of names environment) (parse_of names formula)) (refused 2 0))
  unfolding either
  sizes true e = read ((sized-holds (length formula) (length environment) names capacity work).1 e) (environment_of names environment) (parse_of names formula) refl refl
  sizes false e = row_2 (λ s. (let z : ◌≡◌ {A = Bool} true false = sym ((sized-holds (length formula) (length environment) names capacity work).0 s) ∙ e in let y : ◌≡◌ {A = ℕ} 0 1 = cc in omega arith))

  first-row : Row formula environment names capacity budget room work A
  unfolding infer_of
  first-row = sizes (sized (length formula) (length environment) names capacity work) refl

  -- and no other answer is given where a row holds
  sized-answer : SizesHold formula environment names capacity budget room work → A ≡ formed capacity budget room (environment_of names environment) (parse_of names formula)
  unfolding infer_of either
  sized-answer s = rw ((sized-holds (length formula) (length environment) names capacity work).0 s) refl

  pub walks-answer : (w : Walks formula environment names capacity budget room work) → A ≡ answered budget room (ending formula environment names capacity budget room work w)
  unfolding formed
  walks-answer w = sized-answer w.sizes ∙ ap₂ (formed capacity budget room) w.environment_read w.formula_read

  not_sized : (SizesHold formula environment names capacity budget room work → ⊥) → (c : Bool) → sized (length formula) (length environment) names capacity work ≡ c → either c (formed capacity budget room (environment_of names environment) (parse_of names formula)) (refused 2 0) ≡ refused 2 0
  unfolding either
  not_sized h true e = absurd (h ((sized-holds (length formula) (length environment) names capacity work).1 e))
  not_sized h false e = refl

  row-given : (a : Answer) → Row formula environment names capacity budget room work a → A ≡ a
  unfolding infer_of formed blamed answered fitting either
  row-given a (row_2 h) = not_sized h (sized (length formula) (length environment) names capacity work) refl
  row-given a (row_3 s p e) = sized-answer s ∙ ap (λ (g : Parsed Entries). formed capacity budget room g (parse_of names formula)) e
  row-given a (row_5_environment s p e) = sized-answer s ∙ ap (λ (g : Parsed Entries). formed capacity budget room g (parse_of names formula)) e
  row-given a (row_4 s es e p e') = sized-answer s ∙ ap₂ (formed capacity budget room) e e'
  row-given a (row_5_formula s es e p e') = sized-answer s ∙ ap₂ (formed capacity budget room) e e'
  row-given a (row_6 w e) = walks-answer w ∙ ap (answered budget room) e
  row-given a (row_7 w e) = walks-answer w ∙ ap (answered budget room) e
  row-given a (row_8 w o left e l) = walks-answer w ∙ ap (answered budget room) e ∙ ap (λ (c : Bool). either c (answer (budget - left) o) (refused 8 0)) (lt-leb (answer (budget - left) o).size room l)
  row-given a (row_0_1 w o left e l) = walks-answer w ∙ ap (answered budget room) e ∙ ap (λ (c : Bool). either c (answer (budget - left) o) (refused 8 0)) (le-leb (answer (budget - left) o).size room l)

  -- an answer is given exactly if its row is the first to hold
  pub rows : (a : Answer) → Row formula environment names capacity budget room work a ↔ (infer_of formula environment names capacity budget room work ≡ a)
  rows a = (row-given a, λ e. subst (Row formula environment names capacity budget room work) e first-row)

  -- ---- by number
  outcome-number : (steps : ℕ) (o : Outcome) → (answer steps o).number ≤ 1
  unfolding answer written
  outcome-number steps (typed es ss) = omega arith
  outcome-number steps (failed ps) = omega arith

  two-sizes : (a : Answer) → Row formula environment names capacity budget room work a → a.number ≡ 2 → SizesHold formula environment names capacity budget room work → ⊥
  unfolding refused
  two-sizes a (row_2 h) e s = h s
  two-sizes a (row_3 s p q) e s' = omega arith
  two-sizes a (row_5_environment s p q) e s' = omega arith
  two-sizes a (row_4 s es q p q') e s' = omega arith
  two-sizes a (row_5_formula s es q p q') e s' = omega arith
  two-sizes a (row_6 w q) e s' = omega arith
  two-sizes a (row_7 w q) e s' = omega arith
  two-sizes a (row_8 w o left q l) e s' = omega arith
  two-sizes a (row_0_1 w o left q l) e s' = let n = outcome-number (budget - left) o in omega arith

  -- B1: 2 exactly if a size is wrong, at place 0
  pub number_2 : ((infer_of formula environment names capacity budget room work).number ≡ 2) ↔ (SizesHold formula environment names capacity budget room work → ⊥)
  unfolding refused
  number_2 = (two-sizes A first-row, λ h. ap (λ (a : Answer). a.number) (row-given (refused 2 0) (row_2 h)))

  pub number_2_place : (infer_of formula environment names capacity budget room work).number ≡ 2 → infer_of formula environment names capacity budget room work ≡ refused 2 0
  number_2_place e = row-given (refused 2 0) (row_2 (two-sizes A first-row e))

  eight_long : (a : Answer) → Row formula environment names capacity budget room work a → a.number ≡ 8 → TooLong formula environment names capacity budget room work
  unfolding refused
  eight_long a (row_2 h) e = absurd (omega arith)
  eight_long a (row_3 s p q) e = absurd (omega arith)
  eight_long a (row_5_environment s p q) e = absurd (omega arith)
  eight_long a (row_4 s es q p q') e = absurd (omega arith)
  eight_long a (row_5_formula s es q p q') e = absurd (omega arith)
  eight_long a (row_6 w q) e = absurd (omega arith)
  eight_long a (row_7 w q) e = absurd (omega arith)
  eight_long a (row_8 w o left q l) e = (w, o, left, q, l)
  eight_long a (row_0_1 w o left q l) e = let n = outcome-number (budget - left) o in absurd (omega arith)

  -- B6: 8 exactly if the finished answer is longer than the output, after everything else
  pub number_8 : ((infer_of formula environment names capacity budget room work).number ≡ 8) ↔ TooLong formula environment names capacity budget room work
  unfolding refused
  number_8 = (eight_long A first-row, λ h. ap (λ (a : Answer). a.number) (row-given (refused 8 0) (row_8 h.0 h.1 h.2 h.3 h.4)))

  -- ---- A4: what an answer consists of
  outcome-size : (steps : ℕ) (o : Outcome) → (answer steps o).size ≡ length (answer steps o).bytes
  unfolding answer written
  outcome-size steps (typed es ss) = refl
  outcome-size steps (failed ps) = refl

  row-size : (a : Answer) → Row formula environment names capacity budget room work a → a.size ≡ length a.bytes
  unfolding refused
  row-size a (row_2 h) = refl
  row-size a (row_3 s p q) = refl
  row-size a (row_5_environment s p q) = refl
  row-size a (row_4 s es q p q') = refl
  row-size a (row_5_formula s es q p q') = refl
  row-size a (row_6 w q) = refl
  row-size a (row_7 w q) = refl
  row-size a (row_8 w o left q l) = refl
  row-size a (row_0_1 w o left q l) = outcome-size (budget - left) o

  row_fits : (a : Answer) → Row formula environment names capacity budget room work a → a.size ≤ room
  unfolding refused
  row_fits a (row_2 h) = omega arith
  row_fits a (row_3 s p q) = omega arith
  row_fits a (row_5_environment s p q) = omega arith
  row_fits a (row_4 s es q p q') = omega arith
  row_fits a (row_5_formula s es q p q') = omega arith
  row_fits a (row_6 w q) = omega arith
  row_fits a (row_7 w q) = omega arith
  row_fits a (row_8 w o left q l) = omega arith
  row_fits a (row_0_1 w o left q l) = l

  row_refuses : (a : Answer) → Row formula environment names capacity budget room work a → 1 < a.number → a ≡ refused a.number a.place
  unfolding refused
  row_refuses a (row_2 h) e = refl
  row_refuses a (row_3 s p q) e = refl
  row_refuses a (row_5_environment s p q) e = refl
  row_refuses a (row_4 s es q p q') e = refl
  row_refuses a (row_5_formula s es q p q') e = refl
  row_refuses a (row_6 w q) e = refl
  row_refuses a (row_7 w q) e = refl
  row_refuses a (row_8 w o left q l) e = refl
  row_refuses a (row_0_1 w o left q l) e = let n = outcome-number (budget - left) o in absurd (omega arith)

  -- the length is that of the bytes, and they fit the output
  pub answer-size : (infer_of formula environment names capacity budget room work).size ≡ length (infer_of formula environment names capacity budget room work).bytes
  answer-size = row-size A first-row

  pub answer-fits : (infer_of formula environment names capacity budget room work).size ≤ room
  answer-fits = row_fits A first-row

  -- a refusal has no bytes, length 0 and steps 0
  pub refusal : 1 < (infer_of formula environment names capacity budget room work).number
      → infer_of formula environment names capacity budget room work ≡ refused (infer_of formula environment names capacity budget room work).number (infer_of formula environment names capacity budget room work).place
  refusal l = row_refuses A first-row l

-- ---- output and work afterwards
pub after_2 : (a : Answer) → a.number ≡ 2 → (output work : List ℕ) → (output_after a output ≡ output) × (work_after a work ≡ work)
unfolding output_after work_after either
after_2 a e output work = rw (eq-eqb a.number 2 e) (refl, refl)

pub after-other : (a : Answer) → a.number ≢ 2 → (output work : List ℕ) → (output_after a output ≡ a.bytes ++ zeros (length output - length a.bytes)) × (work_after a work ≡ zeros (length work))
unfolding output_after work_after either
after-other a e output work = rw (ne_eqb a.number 2 e) (refl, refl)

-- A5: nothing that output or work held enters, number 2 aside
pub after_same : (a : Answer) → a.number ≢ 2 → (output output' work work' : List ℕ) → length output ≡ length output' → length work ≡ length work'
    → (output_after a output ≡ output_after a output') × (work_after a work ≡ work_after a work')
after_same a e output output' work work' p q =
    let x = after-other a e output work in
    let y = after-other a e output' work' in
    (x.0 ∙ ap (λ (n : ℕ). a.bytes ++ zeros (n - length a.bytes)) p ∙ sym y.0, x.1 ∙ ap zeros q ∙ sym y.1)

-- output and work keep their lengths
bytes-length : (a : Answer) (output : List ℕ) → length a.bytes ≤ length output → length (a.bytes ++ zeros (length output - length a.bytes)) ≡ length output
bytes-length a output l =
    let p = length-append a.bytes (zeros (length output - length a.bytes)) in
    let q = length-replicate {A = ℕ} (length output - length a.bytes) 0 in
    omega arith

pub after_lengths : (formula environment : List ℕ) (names capacity budget : ℕ) (output work : List ℕ)
    → (length (output_after (infer_of formula environment names capacity budget (length output) (length work)) output) ≡ length output)
    × (length (work_after (infer_of formula environment names capacity budget (length output) (length work)) work) ≡ length work)
after_lengths formula environment names capacity budget output work = at (ℕ_discrete a.number 2)
  where
    a : Answer
    a = infer_of formula environment names capacity budget (length output) (length work)

    at : Dec (a.number ≡ 2) → (length (output_after a output) ≡ length output) × (length (work_after a work) ≡ length work)
    at (yes e) = let h = after_2 a e output work in (ap length h.0, ap length h.1)
    at (no e) =
        let h = after-other a e output work in
        let s = answer-size formula environment names capacity budget (length output) (length work) in
        let f = answer-fits formula environment names capacity budget (length output) (length work) in
        (ap length h.0 ∙ bytes-length a output (omega arith), ap length h.1 ∙ length-replicate {A = ℕ} (length work) 0)
