-- Budget, capacity and room: what they decide, and that more of any of them never changes an answer.
--
-- After this file a reader may believe: 6 and 7 come as the walk meets them (`nodes_fit`, `nodes_full`); the steps of an answer 0 or 1
-- are the least budget for it, a smaller one gives 7; and a larger budget, a larger capacity with its work memory and a longer
-- output change nothing of it (`enough`, `too_little`).
use Prim.Native.Nat.{ℕ, ◌+◌, ◌-◌, ◌≤◌, ◌<◌}
use Rattle.std.specs.Prelude.{◌≡◌, refl, Bool, List, length}
use Rattle.std.proofs.Math.Path.{sym, ap, ap₂, subst}
use Rattle.std.proofs.Common.{◌∙◌, le-leb}
use native.Mathlib.Omega.{arith}
use Rattle.std.proofs.Math.Decide.{dec_lt}
use Rattle.meter.specs.Meter.{Out, spent, halt, done, full, Exact}
use Rattle.formula.specs.Tree.{Formula}
use Rattle.formula.specs.Environment.{Env, lookup}
use Rattle.unification.specs.Arena.{U}
use Rattle.inference.specs.Answer.{Answer, refused, written}
use Rattle.inference.specs.Finish.{Outcome, typed, failed}
use Rattle.inference.specs.Infer.{either, concluded, fitting, answer, answered, infer_of}
use Rattle.inference.specs.Conclude.{size, Concluded, Ended, ended-spent, ended_full, ended-done}
use Rattle.inference.proofs.Conclude.{concluded_wider, concluded-exact, concluded_full, concluded-ends}
use Rattle.inference.specs.Sizes.{Sized}
use Rattle.inference.specs.Numbers.{Walks, Row, row_2, row_3, row_4, row_5_environment, row_5_formula, row_6, row_7, row_8, row_0_1}
use Rattle.inference.proofs.Numbers.{walks-answer, rows}

-- ---- what a formula's conclusion is and costs, whatever the capacity and the budget
module _ (Γ : Env) (f : Formula) where
  conclusion : Exact (λ _. U) (Concluded Γ f) (concluded (size Γ f) Γ f)
  conclusion = concluded-exact Γ f (size Γ f) (omega arith)

  pub price : ℕ
  price = conclusion.cost

  pub outcome : Outcome
  outcome = conclusion.answer

  -- what the arena after the walk says of it
  pub outcome-holds : Concluded Γ f outcome
  unfolding outcome
  outcome-holds = conclusion.holds

  pub price-enough : (capacity left : ℕ) → size Γ f ≤ capacity → concluded capacity Γ f (price + left) ≡ done outcome left
  unfolding price outcome
  price-enough capacity left l = ap (λ (m : ℕ → Out U Outcome). m (conclusion.cost + left)) (concluded_wider Γ f capacity l) ∙ conclusion.enough left

  pub price-short : (capacity budget : ℕ) → size Γ f ≤ capacity → budget < price → concluded capacity Γ f budget ≡ spent tt
  unfolding price
  price-short capacity budget l q = ap (λ (m : ℕ → Out U Outcome). m budget) (concluded_wider Γ f capacity l) ∙ (conclusion.short budget q).1

  -- the least budget with which a capacity that is too small is used up
  pub fill : (capacity : ℕ) → capacity < size Γ f → ℕ
  fill capacity l = (concluded_full Γ f capacity l).0

  pub fill-enough : (capacity : ℕ) (l : capacity < size Γ f) (more : ℕ) → concluded capacity Γ f (fill capacity l + more) ≡ halt full tt
  unfolding fill
  fill-enough capacity l more = (concluded_full Γ f capacity l).1.from more

  pub fill-short : (capacity : ℕ) (l : capacity < size Γ f) (budget : ℕ) → budget < fill capacity l → concluded capacity Γ f budget ≡ spent tt
  unfolding fill
  fill-short capacity l budget q = ((concluded_full Γ f capacity l).1.short budget q).1

  -- an outcome is the conclusion's, at its price
  only-outcome : (capacity budget : ℕ) (o : Outcome) (left : ℕ) → size Γ f ≤ capacity → concluded capacity Γ f budget ≡ done o left → Dec (budget < price) → (o ≡ outcome) × (budget ≡ price + left)
  only-outcome capacity budget o left l e (yes q) = let z : spent tt ≡ done o left = sym (price-short capacity budget l q) ∙ e in let y : ◌≡◌ {A = ℕ} 0 1 = cc in absurd (omega arith)
  only-outcome capacity budget o left l e (no q) =
      let p : budget ≡ price + (budget - price) = omega arith in
      let z : done outcome (budget - price) ≡ done o left = sym (price-enough capacity (budget - price) l) ∙ ap (concluded capacity Γ f) (sym p) ∙ e in
      let y : budget - price ≡ left = cc in
      (cc, omega arith)

  pub outcome-only : (capacity budget : ℕ) (o : Outcome) (left : ℕ) → concluded capacity Γ f budget ≡ done o left → (size Γ f ≤ capacity) × (o ≡ outcome) × (budget ≡ price + left)
  outcome-only capacity budget o left e =
      let l = fits (concluded capacity Γ f budget) (concluded-ends Γ f capacity budget) e in
      let z = only-outcome capacity budget o left l e (dec_lt budget price) in
      (l, z.0, z.1)
    where
      fits : (q : Out U Outcome) → Ended Γ f capacity q → q ≡ done o left → size Γ f ≤ capacity
      fits q ended-spent h = let y : ◌≡◌ {A = ℕ} 0 1 = cc in absurd (omega arith)
      fits q (ended_full l) h = let y : ◌≡◌ {A = ℕ} 0 1 = cc in absurd (omega arith)
      fits q (ended-done l o' left' c) h = l

-- ---- B5
module _ (formula environment : List ℕ) (names capacity budget room work : ℕ) (w : Walks formula environment names capacity budget room work) where
  abbrev Γ : Env
  Γ = lookup w.entries

  abbrev A : Answer
  A = infer_of formula environment names capacity budget room work

  -- the nodes fit: 7 below the price, from it on the conclusion
  pub nodes_fit : size Γ w.tree ≤ capacity
      → (budget < price Γ w.tree → infer_of formula environment names capacity budget room work ≡ refused 7 0)
      × (price Γ w.tree ≤ budget → infer_of formula environment names capacity budget room work ≡ fitting room (answer (price Γ w.tree) (outcome Γ w.tree)))
  unfolding answered
  nodes_fit l = (
    λ q. walks-answer formula environment names capacity budget room work w ∙ ap (answered budget room) (price-short Γ w.tree capacity budget l q),
    λ q. (let c : ℕ = price Γ w.tree in
        let p : budget ≡ price Γ w.tree + (budget - price Γ w.tree) = omega arith in
        let s : budget - (budget - price Γ w.tree) ≡ price Γ w.tree = omega arith in
        walks-answer formula environment names capacity budget room work w
        ∙ ap (λ (b : ℕ). answered budget room (concluded capacity Γ w.tree b)) p
        ∙ ap (answered budget room) (price-enough Γ w.tree capacity (budget - price Γ w.tree) l)
        ∙ ap (λ (n : ℕ). fitting room (answer n (outcome Γ w.tree))) s),
  )

  -- they do not: 7 until the capacity is used, then 6
  pub nodes_full : (l : capacity < size Γ w.tree)
      → (budget < fill Γ w.tree capacity l → infer_of formula environment names capacity budget room work ≡ refused 7 0)
      × (fill Γ w.tree capacity l ≤ budget → infer_of formula environment names capacity budget room work ≡ refused 6 0)
  unfolding answered
  nodes_full l = (
    λ q. walks-answer formula environment names capacity budget room work w ∙ ap (answered budget room) (fill-short Γ w.tree capacity l budget q),
    λ q. (let p : budget ≡ fill Γ w.tree capacity l + (budget - fill Γ w.tree capacity l) = omega arith in
        walks-answer formula environment names capacity budget room work w
        ∙ ap (λ (b : ℕ). answered budget room (concluded capacity Γ w.tree b)) p
        ∙ ap (answered budget room) (fill-enough Γ w.tree capacity l (budget - fill Γ w.tree capacity l))),
  )

-- the steps that an answer tells are those it was made with
pub answer-steps : (n : ℕ) (o : Outcome) → (answer n o).steps ≡ n
unfolding answer written
answer-steps n (typed es ss) = refl
answer-steps n (failed ps) = refl

-- ---- E7: an answer 0 or 1
module _ (formula environment : List ℕ) (names capacity budget room work : ℕ) (graded : (infer_of formula environment names capacity budget room work).number ≤ 1) where
  abbrev B : Answer
  B = infer_of formula environment names capacity budget room work

  -- it is a conclusion, and it fits
  pub record Given : Type 0 where
    pub walks : Walks formula environment names capacity budget room work
    pub fits : size (lookup walks.entries) walks.tree ≤ capacity
    pub whole : (answer (price (lookup walks.entries) walks.tree) (outcome (lookup walks.entries) walks.tree)).size ≤ room
    pub is : B ≡ answer (price (lookup walks.entries) walks.tree) (outcome (lookup walks.entries) walks.tree)

  given-row : (a : Answer) → Row formula environment names capacity budget room work a → a.number ≤ 1 → B ≡ a → Given
  unfolding refused
  given-row a (row_2 h) n e = absurd (omega arith)
  given-row a (row_3 s p q) n e = absurd (omega arith)
  given-row a (row_5_environment s p q) n e = absurd (omega arith)
  given-row a (row_4 s es q p q') n e = absurd (omega arith)
  given-row a (row_5_formula s es q p q') n e = absurd (omega arith)
  given-row a (row_6 w q) n e = absurd (omega arith)
  given-row a (row_7 w q) n e = absurd (omega arith)
  given-row a (row_8 w o left q l) n e = absurd (omega arith)
  given-row a (row_0_1 w o left q l) n e =
      let z = outcome-only (lookup w.entries) w.tree capacity budget o left q in
      let b = z.2 in
      let s : budget - left ≡ price (lookup w.entries) w.tree = omega arith in
      let i : answer (budget - left) o ≡ answer (price (lookup w.entries) w.tree) (outcome (lookup w.entries) w.tree) = ap₂ answer s z.1 in
      record { walks = w; fits = z.0; whole = subst (λ (x : Answer). x.size ≤ room) i l; is = e ∙ i }

  pub given : Given
  given = given-row B ((rows formula environment names capacity budget room work B).1 refl) graded refl

  steps-price : B.steps ≡ price (lookup given.walks.entries) given.walks.tree
  steps-price = ap (λ (a : Answer). a.steps) given.is ∙ answer-steps _ _

  module _ (capacity' budget' room' work' : ℕ) (sizes : Sized (length formula) (length environment) names capacity' work') (wider : capacity ≤ capacity') where
    abbrev walks' : Walks formula environment names capacity' budget' room' work'
    walks' = record {
      sizes = sizes;
      entries = given.walks.entries;
      tree = given.walks.tree;
      environment_read = given.walks.environment_read;
      formula_read = given.walks.formula_read;
    }

    -- its steps or more, as much capacity or more, as much output or more: the same answer
    pub enough : (infer_of formula environment names capacity budget room work).steps ≤ budget' → room ≤ room'
        → infer_of formula environment names capacity' budget' room' work' ≡ infer_of formula environment names capacity budget room work
    unfolding fitting either
    enough q r =
        let f = given.fits in
        let h = given.whole in
        let s = steps-price in
        (nodes_fit formula environment names capacity' budget' room' work' walks' (omega arith)).1 (omega arith)
        ∙ ap (λ (c : Bool). either c (answer (price (lookup given.walks.entries) given.walks.tree) (outcome (lookup given.walks.entries) given.walks.tree)) (refused 8 0))
        (le-leb (answer (price (lookup given.walks.entries) given.walks.tree) (outcome (lookup given.walks.entries) given.walks.tree)).size room' (omega arith))
        ∙ sym given.is

    -- fewer than its steps: 7
    pub too_little : budget' < (infer_of formula environment names capacity budget room work).steps → infer_of formula environment names capacity' budget' room' work' ≡ refused 7 0
    too_little q =
        let f = given.fits in
        let s = steps-price in
        (nodes_fit formula environment names capacity' budget' room' work' walks' (omega arith)).0 (omega arith)
