-- Sums of so many numbers: one summand changed, one or two taken out, one moved to another.
use Rattle.std.specs.Prelude.{ℕ, zero, suc, ◌+◌, ◌≤◌, ◌<◌, ◌≡◌, refl, ◌≢◌, Bool, true, false, eqb}
use Rattle.std.proofs.Common.{sym, ◌∙◌, eq-eqb, ne_eqb}
use Rattle.std.proofs.Math.Path.{ap}
use native.Mathlib.Omega.{arith}
use Rattle.std.proofs.Math.Decide.{ℕ_discrete}

unfoldable pub sum : (ℕ → ℕ) → ℕ → ℕ
sum f zero = 0
sum f (suc k) = f k + sum f k

pub sum_same : (f g : ℕ → ℕ) (k : ℕ) → ((z : ℕ) → z < k → g z ≡ f z) → sum g k ≡ sum f k
unfolding sum
sum_same f g zero h = refl
sum_same f g (suc k) h = let p = h k (omega arith) in let q = sum_same f g k (λ z l. h z (omega arith)) in omega arith

module _ (f g : ℕ → ℕ) (x : ℕ) (h : (z : ℕ) → z ≢ x → g z ≡ f z) where
  sum_step : (k : ℕ) → x < suc k → (x < k → sum g k + f x ≡ sum f k + g x) → Dec (k ≡ x) → sum g (suc k) + f x ≡ sum f (suc k) + g x
  unfolding sum
  sum_step k l ih (yes e) =
      let p : g k ≡ g x = ap g e in
      let q : f k ≡ f x = ap f e in
      let r = sum_same f g k (λ z zl. h z (λ (w : z ≡ x). omega arith)) in
      omega arith
  sum_step k l ih (no e) = let p = h k e in let q = ih (omega arith) in omega arith

  -- one summand changed
  sum_one : (k : ℕ) → x < k → sum g k + f x ≡ sum f k + g x
  sum_one zero l = absurd (omega arith)
  sum_one (suc k) l = sum_step k l (sum_one k) (ℕ_discrete k x)

abbrev pub pickℕ : Bool → ℕ → ℕ → ℕ
pickℕ true a b = a
pickℕ false a b = b

-- f without its summand at x; a summand is no more than the sum, and neither are two together
pub without : (ℕ → ℕ) → ℕ → ℕ → ℕ
without f x z = pickℕ (eqb z x) 0 (f z)

module _ (f : ℕ → ℕ) (x k : ℕ) (l : x < k) where
  pub without-here : without f x x ≡ 0
  unfolding without
  without-here = ap (λ c. pickℕ c 0 (f x)) (eq-eqb x x refl)

  pub without_other : (z : ℕ) → z ≢ x → without f x z ≡ f z
  unfolding without
  without_other z q = ap (λ c. pickℕ c 0 (f z)) (ne_eqb z x q)

  pub sum-without : sum (without f x) k + f x ≡ sum f k
  sum-without = let p = sum_one f (without f x) x without_other k l in let q = without-here in omega arith

  pub summand : f x ≤ sum f k
  summand = let p = sum-without in omega arith

pub summands : (f : ℕ → ℕ) (x y k : ℕ) → x < k → y < k → x ≢ y → f x + f y ≤ sum f k
summands f x y k xl yl ne =
    let p = sum-without f x k xl in
    let q = summand (without f x) y k yl in
    let r = without_other f x k xl y (λ e. ne (sym e)) in
    omega arith

-- x's share goes to y, or is lost
module _ (f g : ℕ → ℕ) (x y k : ℕ) (xl : x < k) (yl : y < k) (ne : x ≢ y) (gx : g x ≡ 0) (gy : g y ≤ f x + f y) (h : (z : ℕ) → z ≢ x → z ≢ y → g z ≡ f z) where
  from_mid : (z : ℕ) → z ≢ y → Dec (z ≡ x) → g z ≡ without f x z
  from_mid z q (yes e) = ap g e ∙ gx ∙ sym (ap (without f x) e ∙ without-here f x k xl)
  from_mid z q (no e) = h z e q ∙ sym (without_other f x k xl z e)

  pub sum_moved : sum g k ≤ sum f k
  sum_moved =
      let p = sum-without f x k xl in
      let q = sum_one (without f x) g y (λ z e. from_mid z e (ℕ_discrete z x)) k yl in
      let s = without_other f x k xl y (λ e. ne (sym e)) in
      omega arith
