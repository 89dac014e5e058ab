-- Finite trees over unknowns: what a node of an acyclic arena stands for.
-- Evaluation under a valuation, substitution, occurrence, groundness, and how they meet: substituting what is absent changes nothing; a ground tree has one
-- value, any other has two; an unknown inside a tree that is not itself weighs less than the tree, so no finite type equates the two.
use Rattle.std.specs.Prelude.{ℕ, suc, ◌+◌, ◌≤◌, ◌<◌, ◌≡◌, refl, ◌≢◌, Bool, true, false, ◌&&◌, ◌||◌, eqb}
use Rattle.std.proofs.Common.{ap, ap₂, arith, eqb-true, eq-eqb, ne_eqb}
use Rattle.types.specs.Ty.{Atom, Ty, base, pow, prod}

pub data Tm : Type 0 where
  var : ℕ → Tm
  tbase : Atom → Tm
  tpow : Tm → Tm
  tprod : Tm → Tm → Tm

abbrev pub pick_tm : Bool → Tm → Tm → Tm
pick_tm true s t = s
pick_tm false s t = t

unfoldable pub eval : (ℕ → Ty) → Tm → Ty
eval σ (var x) = σ x
eval σ (tbase p) = base p
eval σ (tpow s) = pow (eval σ s)
eval σ (tprod s t) = prod (eval σ s) (eval σ t)

-- s for the unknown v
unfoldable pub sub : ℕ → Tm → Tm → Tm
sub v s (var x) = pick_tm (eqb x v) s (var x)
sub v s (tbase p) = tbase p
sub v s (tpow t) = tpow (sub v s t)
sub v s (tprod t u) = tprod (sub v s t) (sub v s u)

unfoldable pub has : ℕ → Tm → Bool
has v (var x) = eqb x v
has v (tbase p) = false
has v (tpow t) = has v t
has v (tprod t u) = has v t || has v u

unfoldable pub ground : Tm → Bool
ground (var x) = false
ground (tbase p) = true
ground (tpow t) = ground t
ground (tprod t u) = ground t && ground u

unfoldable pub size : Tm → ℕ
size (var x) = 1
size (tbase p) = 1
size (tpow t) = suc (size t)
size (tprod t u) = suc (size t + size u)

unfoldable pub weight : Ty → ℕ
weight (base p) = 1
weight (pow t) = suc (weight t)
weight (prod t u) = suc (weight t + weight u)

or_left : (a b : Bool) → a || b ≡ false → a ≡ false
or_left true b e = e
or_left false b e = refl

or_right : (a b : Bool) → a || b ≡ false → b ≡ false
or_right true b e = cc
or_right false b e = e

pub and_left : (a b : Bool) → a && b ≡ true → a ≡ true
and_left true b e = refl
and_left false b e = cc

pub and_right : (a b : Bool) → a && b ≡ true → b ≡ true
and_right true b e = e
and_right false b e = cc

pub sub_same : (v : ℕ) (s : Tm) → sub v s (var v) ≡ s
unfolding sub
sub_same v s = ap (λ c. pick_tm c s (var v)) (eq-eqb v v refl)

pub sub-other : (v x : ℕ) (s : Tm) → x ≢ v → sub v s (var x) ≡ var x
unfolding sub
sub-other v x s h = ap (λ c. pick_tm c s (var x)) (ne_eqb x v h)

pub sub-absent : (v : ℕ) (s t : Tm) → has v t ≡ false → sub v s t ≡ t
unfolding sub has
sub-absent v s (var x) h = ap (λ c. pick_tm c s (var x)) h
sub-absent v s (tbase p) h = refl
sub-absent v s (tpow t) h = ap tpow (sub-absent v s t h)
sub-absent v s (tprod t u) h = ap₂ tprod (sub-absent v s t (or_left (has v t) (has v u) h)) (sub-absent v s u (or_right (has v t) (has v u) h))

or_cases : {X : Type 0} (a b : Bool) → a || b ≡ true → (a ≡ true → X) → (b ≡ true → X) → X
or_cases true b e f g = f refl
or_cases false b e f g = g e

-- an unknown of t weighs no more than t
pub has-weight : (σ : ℕ → Ty) (v : ℕ) (t : Tm) → has v t ≡ true → weight (σ v) ≤ weight (eval σ t)
unfolding has eval weight
has-weight σ v (var x) h = let e : x ≡ v = eqb-true x v h in rw e (omega arith)
has-weight σ v (tbase p) h = let z : ◌≡◌ {A = ℕ} 0 1 = cc in absurd (omega arith)
has-weight σ v (tpow t) h = let q = has-weight σ v t h in omega arith
has-weight σ v (tprod t u) h = or_cases (has v t) (has v u) h
    (λ e. (let q = has-weight σ v t e in omega arith))
    (λ e. (let q = has-weight σ v u e in omega arith))

pub ground-same : (σ σ' : ℕ → Ty) (t : Tm) → ground t ≡ true → eval σ t ≡ eval σ' t
unfolding ground eval
ground-same σ σ' (var x) h = cc
ground-same σ σ' (tbase p) h = refl
ground-same σ σ' (tpow t) h = ap pow (ground-same σ σ' t h)
ground-same σ σ' (tprod t u) h = ap₂ prod (ground-same σ σ' t (and_left (ground t) (ground u) h)) (ground-same σ σ' u (and_right (ground t) (ground u) h))

and_cases : {X : Type 0} (a b : Bool) → a && b ≡ false → (a ≡ false → X) → (b ≡ false → X) → X
and_cases true b e f g = g e
and_cases false b e f g = f refl

-- two valuations that differ at every unknown differ at a tree that has one
pub ground_differs : (σ σ' : ℕ → Ty) → ((x : ℕ) → σ x ≢ σ' x) → (t : Tm) → ground t ≡ false → eval σ t ≢ eval σ' t
unfolding ground eval
ground_differs σ σ' d (var x) h e = d x e
ground_differs σ σ' d (tbase p) h e = let z : ◌≡◌ {A = ℕ} 0 1 = cc in omega arith
ground_differs σ σ' d (tpow t) h e = ground_differs σ σ' d t h (cc)
ground_differs σ σ' d (tprod t u) h e = and_cases (ground t) (ground u) h
    (λ q. ground_differs σ σ' d t q (cc))
    (λ q. ground_differs σ σ' d u q (cc))

-- an unknown of t other than t itself weighs less than t
pub has_proper : (σ : ℕ → Ty) (v : ℕ) (t : Tm) → has v t ≡ true → t ≢ var v → weight (σ v) < weight (eval σ t)
unfolding has eval weight
has_proper σ v (var x) h d = absurd (d (ap var (eqb-true x v h)))
has_proper σ v (tbase p) h d = let z : ◌≡◌ {A = ℕ} 0 1 = cc in absurd (omega arith)
has_proper σ v (tpow t) h d = let q = has-weight σ v t h in omega arith
has_proper σ v (tprod t u) h d = or_cases (has v t) (has v u) h
    (λ e. (let q = has-weight σ v t e in omega arith))
    (λ e. (let q = has-weight σ v u e in omega arith))
