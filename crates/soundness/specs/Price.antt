-- Budgets, exactly: from which one on an answer is given, and which smaller ones are refused 7 or 6.
-- The numbers come from `inference`: `size` is how many nodes the walk of a formula makes, `price` the units that its outcome takes,
-- `fill` the units after which a capacity that is too small is used up.
use Rattle.std.specs.Prelude.{ℕ, ◌+◌, ◌*◌, ◌≤◌, ◌<◌, ◌≡◌, refl, ◌⊎◌, ◌↔◌, Bool, true, false, List, length, leb}
use Rattle.std.proofs.Common.{sym, ◌∙◌, subst, inl, inr}
use Rattle.std.proofs.Math.Path.{ap}
use native.Mathlib.Omega.{arith}
use Rattle.std.proofs.Math.Decide.{dec_lt}
use Rattle.formula.specs.Tree.{Formula}
use Rattle.formula.specs.Environment.{Entries, lookup}
use Rattle.inference.specs.Answer.{Answer, refused, written}
use Rattle.inference.specs.Finish.{Outcome, typed, failed}
use Rattle.inference.specs.Infer.{either, fitting, answer, infer_of}
use Rattle.inference.specs.Numbers.{Sized}
use Rattle.inference.specs.Conclude.{size}
use Rattle.inference.proofs.Budget.{price, outcome, fill, nodes_fit, nodes_full, given, enough, too_little}
use Rattle.soundness.specs.Calls.{Reads, walks, answer-is}

-- ---- an answer 0 or 1
module _ (formula environment : List ℕ) (names capacity budget room work : ℕ) (judged : (infer_of formula environment names capacity budget room work).number ≤ 1) where
  wider_sizes : (capacity' work' : ℕ) → capacity ≤ capacity' → capacity' ≤ 32768 → 3 * capacity' + 4096 ≤ work' → Sized (length formula) (length environment) names capacity' work'
  wider_sizes capacity' work' c m w =
      let s = (given formula environment names capacity budget room work judged).walks.sizes in
      let p = s.capacity_some in
      record { formula_short = s.formula_short; environment_short = s.environment_short; names_few = s.names_few; capacity_some = omega arith; capacity_small = m; work_long = w }

  own-sizes : Sized (length formula) (length environment) names capacity work
  own-sizes = (given formula environment names capacity budget room work judged).walks.sizes

  pub more_same : (capacity' budget' room' work' : ℕ) → capacity ≤ capacity' → capacity' ≤ 32768 → 3 * capacity' + 4096 ≤ work'
      → (infer_of formula environment names capacity budget room work).steps ≤ budget' → room ≤ room'
      → infer_of formula environment names capacity' budget' room' work' ≡ infer_of formula environment names capacity budget room work
  more_same capacity' budget' room' work' c m w b r = enough formula environment names capacity budget room work judged capacity' budget' room' work' (wider_sizes capacity' work' c m w) c b r

  pub fewer_seven : (budget' : ℕ) → budget' < (infer_of formula environment names capacity budget room work).steps → infer_of formula environment names capacity budget' room work ≡ refused 7 0
  fewer_seven budget' b = too_little formula environment names capacity budget room work judged capacity budget' room work own-sizes (omega arith) b

  pub least_steps : (budget' : ℕ) → (infer_of formula environment names capacity budget' room work ≡ infer_of formula environment names capacity budget room work)
      ↔ ((infer_of formula environment names capacity budget room work).steps ≤ budget')
  unfolding refused
  least_steps budget' = (
    λ e. at e (dec_lt budget' (infer_of formula environment names capacity budget room work).steps),
    λ b. enough formula environment names capacity budget room work judged capacity budget' room work own-sizes (omega arith) b (omega arith),
  )
    where
      at : infer_of formula environment names capacity budget' room work ≡ infer_of formula environment names capacity budget room work
          → Dec (budget' < (infer_of formula environment names capacity budget room work).steps) → (infer_of formula environment names capacity budget room work).steps ≤ budget'
      at e (yes l) = let q : 7 ≡ (infer_of formula environment names capacity budget room work).number = ap (λ (a : Answer). a.number) (sym (fewer_seven budget' l) ∙ e) in absurd (omega arith)
      at e (no l) = omega arith

-- ---- any well formed call with the sizes of row 2
outcome-below : (steps : ℕ) (o : Outcome) → (answer steps o).number < 2
unfolding answer written
outcome-below steps (typed es ss) = omega arith
outcome-below steps (failed ps) = omega arith

outcome-steps : (steps : ℕ) (o : Outcome) → (answer steps o).steps ≡ steps
unfolding answer written
outcome-steps steps (typed es ss) = refl
outcome-steps steps (failed ps) = refl

fitting-number : (room steps : ℕ) (o : Outcome) → ((fitting room (answer steps o)).number < 2) ⊎ ((fitting room (answer steps o)).number ≡ 8)
unfolding fitting either refused
fitting-number room steps o = go (leb (answer steps o).size room)
  where
    go : (c : Bool) → ((either c (answer steps o) (refused 8 0)).number < 2) ⊎ ((either c (answer steps o) (refused 8 0)).number ≡ 8)
    go true = inl (outcome-below steps o)
    go false = inr refl

module _ (formula environment : List ℕ) (names capacity budget room work : ℕ) (es : Entries) (f : Formula) (reads : Reads formula environment names es f) (sizes : Sized (length formula) (length environment) names capacity work) where
  abbrev A : Answer
  A = infer_of formula environment names capacity budget room work

  not_six_seven : {n : ℕ} → (n < 2) ⊎ (n ≡ 8) → (n ≡ 6) ⊎ (n ≡ 7) → ⊥
  not_six_seven (inl l) (inl e) = omega arith
  not_six_seven (inl l) (inr e) = omega arith
  not_six_seven (inr l) (inl e) = omega arith
  not_six_seven (inr l) (inr e) = omega arith

  -- the nodes fit and the price is there: an answer, unless it is longer than the output
  pub fits-answered : size (lookup es) f ≤ capacity → price (lookup es) f ≤ budget
      → ((infer_of formula environment names capacity budget room work).number < 2) ⊎ ((infer_of formula environment names capacity budget room work).number ≡ 8)
  fits-answered l q = subst (λ (a : Answer). (a.number < 2) ⊎ (a.number ≡ 8)) (sym ((nodes_fit formula environment names capacity budget room work (walks formula environment names capacity budget room work es f reads sizes) l).1 q))
      (fitting-number room (price (lookup es) f) (outcome (lookup es) f))

  numbered : (n : ℕ) → A ≡ refused n 0 → A.number ≡ n
  unfolding refused
  numbered n e = ap (λ (a : Answer). a.number) e

  -- the nodes fit: 7 exactly below the price, and never 6
  pub fits_seven : size (lookup es) f ≤ capacity → ((infer_of formula environment names capacity budget room work).number ≡ 7) ↔ (budget < price (lookup es) f)
  fits_seven l = (
    λ e. at e (dec_lt budget (price (lookup es) f)),
    λ b. numbered 7 ((nodes_fit formula environment names capacity budget room work (walks formula environment names capacity budget room work es f reads sizes) l).0 b),
  )
    where
      at : A.number ≡ 7 → Dec (budget < price (lookup es) f) → budget < price (lookup es) f
      at e (yes b) = b
      at e (no b) = absurd (not_six_seven (fits-answered l (omega arith)) (inr e))

  pub fits_six : size (lookup es) f ≤ capacity → (infer_of formula environment names capacity budget room work).number ≡ 6 → ⊥
  fits_six l e = at (dec_lt budget (price (lookup es) f))
    where
      at : Dec (budget < price (lookup es) f) → ⊥
      at (yes b) = let q = numbered 7 ((nodes_fit formula environment names capacity budget room work (walks formula environment names capacity budget room work es f reads sizes) l).0 b) in omega arith
      at (no b) = not_six_seven (fits-answered l (omega arith)) (inl e)

  -- they do not fit: 7 exactly until the capacity is used, then 6
  module _ (l : capacity < size (lookup es) f) where
    until : budget < fill (lookup es) f capacity l → A.number ≡ 7
    until b = numbered 7 ((nodes_full formula environment names capacity budget room work (walks formula environment names capacity budget room work es f reads sizes) l).0 b)

    then : fill (lookup es) f capacity l ≤ budget → A.number ≡ 6
    then b = numbered 6 ((nodes_full formula environment names capacity budget room work (walks formula environment names capacity budget room work es f reads sizes) l).1 b)

    pub full_seven : ((infer_of formula environment names capacity budget room work).number ≡ 7) ↔ (budget < fill (lookup es) f capacity l)
    full_seven = (λ e. at e (dec_lt budget (fill (lookup es) f capacity l)), until)
      where
        at : A.number ≡ 7 → Dec (budget < fill (lookup es) f capacity l) → budget < fill (lookup es) f capacity l
        at e (yes b) = b
        at e (no b) = let q = then (omega arith) in absurd (omega arith)

    pub full_six : ((infer_of formula environment names capacity budget room work).number ≡ 6) ↔ (fill (lookup es) f capacity l ≤ budget)
    full_six = (λ e. at e (dec_lt budget (fill (lookup es) f capacity l)), then)
      where
        at : A.number ≡ 6 → Dec (budget < fill (lookup es) f capacity l) → fill (lookup es) f capacity l ≤ budget
        at e (yes b) = let q = until b in absurd (omega arith)
        at e (no b) = omega arith

-- the steps of an answer 0 or 1 are the price
pub steps-price : (formula environment : List ℕ) (names capacity budget room work : ℕ) (es : Entries) (f : Formula) → Reads formula environment names es f
    → (judged : (infer_of formula environment names capacity budget room work).number ≤ 1) → (infer_of formula environment names capacity budget room work).steps ≡ price (lookup es) f
steps-price formula environment names capacity budget room work es f reads judged =
    ap (λ (a : Answer). a.steps) (answer-is formula environment names capacity budget room work es f reads judged) ∙ outcome-steps (price (lookup es) f) (outcome (lookup es) f)
