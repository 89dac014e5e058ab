-- How a specification is put together, and how an answer follows it: one law for each way that the code can go. The forms are shut, so that an
-- answer's blanks are found.
use Rattle.std.specs.Prelude.{ℕ, ◌<◌, ◌≤◌, eqb, ltb, leb, ◌≡◌, Bool, true, false}
use Rattle.std.proofs.Common.{lt-ltb, le-ltb, le-leb, eq-eqb, ne_eqb, ap, ◌∙◌}
use Rattle.std.proofs.lemmas.Bool.{lt-leb}

-- a test; a branch is a function of nothing, so that only the branch that is taken is computed
unfoldable pub test : {A : Type 0} → Bool → (Unit {0} → A) → (Unit {0} → A) → A
test true a b = a tt
test false a b = b tt

-- a step, and what its outcome leads to
unfoldable pub then : {A B : Type 0} → A → (A → B) → B
then s f = f s

pub step : {A B : Type 0} (s s' : A) (f : A → B) (x : B) → s' ≡ s → x ≡ f s' → x ≡ then s f
unfolding then
step s s' f x e h = h ∙ ap f e

pub yes_if : {A : Type 0} (b : Bool) (x : A) (a c : Unit {0} → A) → b ≡ true → x ≡ a tt → x ≡ test b a c
unfolding test
yes_if b x a c e h = rw e h

pub no_if : {A : Type 0} (b : Bool) (x : A) (a c : Unit {0} → A) → b ≡ false → x ≡ c tt → x ≡ test b a c
unfolding test
no_if b x a c e h = rw e h

-- a test of numbers, from the fact that a branch has
pub yes_eq : {A : Type 0} (m n : ℕ) (x : A) (a c : Unit {0} → A) → m ≡ n → x ≡ a tt → x ≡ test (eqb m n) a c
yes_eq m n x a c h k = yes_if (eqb m n) x a c (eq-eqb m n h) k

pub no_eq : {A : Type 0} (m n : ℕ) (x : A) (a c : Unit {0} → A) → (m ≡ n → ⊥) → x ≡ c tt → x ≡ test (eqb m n) a c
no_eq m n x a c h k = no_if (eqb m n) x a c (ne_eqb m n h) k

pub yes_lt : {A : Type 0} (m n : ℕ) (x : A) (a c : Unit {0} → A) → m < n → x ≡ a tt → x ≡ test (ltb m n) a c
yes_lt m n x a c h k = yes_if (ltb m n) x a c (lt-ltb m n h) k

pub no_lt : {A : Type 0} (m n : ℕ) (x : A) (a c : Unit {0} → A) → n ≤ m → x ≡ c tt → x ≡ test (ltb m n) a c
no_lt m n x a c h k = no_if (ltb m n) x a c (le-ltb m n h) k

pub yes_le : {A : Type 0} (m n : ℕ) (x : A) (a c : Unit {0} → A) → m ≤ n → x ≡ a tt → x ≡ test (leb m n) a c
yes_le m n x a c h k = yes_if (leb m n) x a c (le-leb m n h) k

pub no_le : {A : Type 0} (m n : ℕ) (x : A) (a c : Unit {0} → A) → n < m → x ≡ c tt → x ≡ test (leb m n) a c
no_le m n x a c h k = no_if (leb m n) x a c (lt-leb m n h) k
