-- Pieces of the walk put together: what the parts ask, and what they leave, carries over to the whole.
-- `Tame`: how many slots a piece fills, and that it loses no name. `Sound`: what an assignment that meets a piece's operations
-- must satisfy. `Complete`: types for a piece's nodes with which its operations are met.
-- Theorems that rest on what must-fail edits change stand in proofs/Triple.antt.
use Prim.Native.Nat.{ℕ, suc, ◌+◌}
use Rattle.std.specs.Prelude.{◌≡◌, Bool, true, false, eqb}
use Rattle.std.proofs.Math.Path.{refl, sym, ap, ap₂, subst}
use Rattle.std.proofs.Common.{◌∙◌, arith, eqb-true, eq-eqb}
use mathlib.Core.List.{List, [], ◌∷◌, ◌++◌}
use Rattle.std.proofs.Math.ListN.{length, length-append}
use Rattle.types.specs.Ty.{Ty}
use Rattle.formula.specs.Environment.{holds, Env}
use Rattle.unification.specs.Arena.{decode}
use Rattle.unification.specs.Good.{Assignment, Says}
use Rattle.unification.specs.Ops.{Op, pay, make, compare, list, nodes, Meets}
use Rattle.walk.specs.Writer.{Met, Row, Found, at, absent, found, find, Walk, W, done, glue, ◌>>=◌, enter, own, node, same}
use Rattle.walk.specs.Tables.{Carries}

-- ---- appended lists
pub nodes-append : (os qs : List Op) → nodes (os ++ qs) ≡ nodes os + nodes qs
nodes-append [] qs = omega arith
nodes-append (pay ∷ os) qs = nodes-append os qs
nodes-append (make k a b ∷ os) qs = let e = nodes-append os qs in omega arith
nodes-append (compare a b p ∷ os) qs = nodes-append os qs
nodes-append (list q p ∷ os) qs = nodes-append os qs

abbrev Two : Assignment → ℕ → List Op → List Op → Type 0
Two σ n os qs = Meets σ n os × Meets σ (n + nodes os) qs

shift : (σ : Assignment) (n m : ℕ) (qs : List Op) → n ≡ m → Meets σ n qs → Meets σ m qs
shift σ n m qs e h = rw (sym e) h

pub meets-split : (σ : Assignment) (n : ℕ) (os qs : List Op) → Meets σ n (os ++ qs) → Two σ n os qs
meets-split σ n [] qs h = (tt, shift σ n (n + 0) qs (omega arith) h)
meets-split σ n (pay ∷ os) qs h = meets-split σ n os qs h
meets-split σ n (make k a b ∷ os) qs h = let p = meets-split σ (suc n) os qs h.1 in ((h.0, p.0), shift σ (suc n + nodes os) (n + suc (nodes os)) qs (omega arith) p.1)
meets-split σ n (compare a b q ∷ os) qs h = let p = meets-split σ n os qs h.1 in ((h.0, p.0), p.1)
meets-split σ n (list q p ∷ os) qs h = absurd h

pub meets_join : (σ : Assignment) (n : ℕ) (os qs : List Op) → Meets σ n os → Meets σ (n + nodes os) qs → Meets σ n (os ++ qs)
meets_join σ n [] qs h g = shift σ (n + 0) n qs (omega arith) g
meets_join σ n (pay ∷ os) qs h g = meets_join σ n os qs h g
meets_join σ n (make k a b ∷ os) qs h g = (h.0, meets_join σ (suc n) os qs h.1 (shift σ (n + suc (nodes os)) (suc n + nodes os) qs (omega arith) g))
meets_join σ n (compare a b q ∷ os) qs h g = (h.0, meets_join σ n os qs h.1 g)
meets_join σ n (list q p ∷ os) qs h g = absurd h

move : (f : ℕ → Ty) (k m : ℕ) (vs : List Ty) → k ≡ m → Carries f k vs → Carries f m vs
move f k m vs e h = rw (sym e) h

pub carries_split : (f : ℕ → Ty) (k : ℕ) (us vs : List Ty) → Carries f k (us ++ vs) → Carries f k us × Carries f (k + length us) vs
carries_split f k [] vs h = (tt, move f k (k + 0) vs (omega arith) h)
carries_split f k (u ∷ us) vs h = let p = carries_split f (suc k) us vs h.1 in ((h.0, p.0), move f (suc k + length us) (k + suc (length us)) vs (omega arith) p.1)

pub carries_join : (f : ℕ → Ty) (k : ℕ) (us vs : List Ty) → Carries f k us → Carries f (k + length us) vs → Carries f k (us ++ vs)
carries_join f k [] vs h g = move f (k + 0) k vs (omega arith) g
carries_join f k (u ∷ us) vs h g = (h.0, carries_join f (suc k) us vs h.1 (move f (k + suc (length us)) (suc k + length us) vs (omega arith) g))

-- the types that an assignment gives to references, to slots
unfoldable pub each_type : Assignment → List ℕ → List Ty
each_type σ [] = []
each_type σ (x ∷ xs) = σ x ∷ each_type σ xs

unfoldable pub slot_types : Assignment → List (ℕ × ℕ) → List Ty
slot_types σ [] = []
slot_types σ (x ∷ xs) = σ x.0 ∷ slot_types σ xs

slot_types-append : (σ : Assignment) (xs ys : List (ℕ × ℕ)) → slot_types σ (xs ++ ys) ≡ slot_types σ xs ++ slot_types σ ys
unfolding slot_types
slot_types-append σ [] ys = refl
slot_types-append σ (x ∷ xs) ys = ap (λ (zs : List Ty). σ x.0 ∷ zs) (slot_types-append σ xs ys)

pub slot_types-length : (σ : Assignment) (xs : List (ℕ × ℕ)) → length (slot_types σ xs) ≡ length xs
unfolding slot_types
slot_types-length σ [] = refl
slot_types-length σ (x ∷ xs) = ap suc (slot_types-length σ xs)

-- ---- names
found-true : (c : Bool) (r : ℕ) (f : Found) → c ≡ true → found c r f ≡ at r
unfolding found
found-true true r f e = refl
found-true false r f e = cc

found-false : (c : Bool) (r : ℕ) (f : Found) → c ≡ false → found c r f ≡ f
unfolding found
found-false true r f e = cc
found-false false r f e = refl

pub find-left : (x r : ℕ) (row more : Row) → find x row ≡ at r → find x (row ++ more) ≡ at r
unfolding find found
find-left x r [] more e = let z : ◌≡◌ {A = ℕ} 0 1 = cc in absurd (omega arith)
find-left x r (m ∷ row) more e = go (λ h. find-left x r row more h) (eqb x m.name) e
  where
    go : (find x row ≡ at r → find x (row ++ more) ≡ at r) → (c : Bool) → found c m.ref (find x row) ≡ at r → found c m.ref (find x (row ++ more)) ≡ at r
    go ih true h = h
    go ih false h = ih h

pub find-new : (x r p : ℕ) (row : Row) → find x row ≡ absent → find x (row ++ (record { name = x; ref = r; place = p } ∷ [])) ≡ at r
unfolding find found
find-new x r p [] e = found-true (eqb x x) r absent (eq-eqb x x refl)
find-new x r p (m ∷ row) e = go (λ h. find-new x r p row h) (eqb x m.name) e
  where
    go : (find x row ≡ absent → find x (row ++ (record { name = x; ref = r; place = p } ∷ [])) ≡ at r) → (c : Bool) → found c m.ref (find x row) ≡ absent → found c m.ref (find x (row ++ (record { name = x; ref = r; place = p } ∷ []))) ≡ at r
    go ih true h = let z : ◌≡◌ {A = ℕ} 0 1 = cc in absurd (omega arith)
    go ih false h = ih h

-- a name found in a longer row was there, or is the new one
pub data Either (x s : ℕ) (row : Row) (m : Met) : Type 0 where
  there : find x row ≡ at s → Either x s row m
  here : x ≡ m.name → s ≡ m.ref → Either x s row m

at_one : (r s : ℕ) → at r ≡ at s → r ≡ s
at_one r s e = cc

pub find-either : (x s : ℕ) (row : Row) (m : Met) → find x (row ++ (m ∷ [])) ≡ at s → Either x s row m
unfolding find found
find-either x s [] m e = go (eqb x m.name) refl e
  where
    go : (c : Bool) → eqb x m.name ≡ c → found c m.ref absent ≡ at s → Either x s [] m
    go true q h = here (eqb-true x m.name q) (sym (at_one m.ref s h))
    go false q h = let z : ◌≡◌ {A = ℕ} 0 1 = cc in absurd (omega arith)
find-either x s (y ∷ row) m e = go (λ h. find-either x s row m h) (eqb x y.name) refl e
  where
    up : eqb x y.name ≡ false → Either x s row m → Either x s (y ∷ row) m
    up q (there h) = there (found-false (eqb x y.name) y.ref (find x row) q ∙ h)
    up q (here h g) = here h g

    go : (find x (row ++ (m ∷ [])) ≡ at s → Either x s row m) → (c : Bool) → eqb x y.name ≡ c → found c y.ref (find x (row ++ (m ∷ []))) ≡ at s → Either x s (y ∷ row) m
    go ih true q h = there (found-true (eqb x y.name) y.ref (find x row) q ∙ h)
    go ih false q h = up q (ih h)

-- every name found stands for its type
abbrev pub Reads : Assignment → (ℕ → Ty) → Row → Type 0
Reads σ ρ row = (x r : ℕ) → find x row ≡ at r → σ r ≡ ρ x

-- every name found that the environment holds stands for the environment's type
abbrev pub Lifted : Env → Assignment → Row → Type 0
Lifted Γ σ row = (x r : ℕ) (t : Ty) → find x row ≡ at r → Γ x ≡ holds t → σ r ≡ t

-- ---- the bookkeeping of a piece: its number of slots; no name is lost; names that the environment holds are lifted
pub record Tame {A : Type 0} (Γ : Env) (c : ℕ) (m : W A) : Type 0 where
  pub counts : (n : ℕ) (row : Row) → length (m n row).slots ≡ c
  pub keeps : (n : ℕ) (row : Row) (x r : ℕ) → find x row ≡ at r → find x (m n row).row ≡ at r
  pub lifts : (n : ℕ) (row : Row) (σ : Assignment) → Lifted Γ σ row → Meets σ n (m n row).ops → Lifted Γ σ (m n row).row

module _ {A : Type 0} {Γ : Env} where
  pub tame_eq : {c d : ℕ} {m : W A} → c ≡ d → Tame Γ c m → Tame Γ d m
  tame_eq e t = record { counts = λ n row. t.counts n row ∙ e; keeps = t.keeps; lifts = t.lifts }

  pub tame_done : (x : A) → Tame Γ 0 (done x)
  unfolding done
  tame_done x = record { counts = λ n row. refl; keeps = λ n row x r h. h; lifts = λ n row σ h q. h }

  pub tame_enter : {c : ℕ} {m : W A} → Tame Γ c m → Tame Γ c (enter m)
  unfolding enter
  tame_enter t = record { counts = t.counts; keeps = t.keeps; lifts = t.lifts }

pub tame_bind : {A B : Type 0} {Γ : Env} {c d : ℕ} {m : W A} {f : A → W B} → Tame Γ c m → ((x : A) → Tame Γ d (f x)) → Tame Γ (c + d) (m >>= f)
unfolding ◌>>=◌ glue
tame_bind {m = m} {f = f} t u = record {
  counts = λ n row. length-append (m n row).slots _ ∙ ap₂ ◌+◌ (t.counts n row) ((u (m n row).result).counts (n + nodes (m n row).ops) (m n row).row);
  keeps = λ n row x r h. (u (m n row).result).keeps _ _ x r (t.keeps n row x r h);
  lifts = λ n row σ h q. (let p = meets-split σ n (m n row).ops (f (m n row).result (n + nodes (m n row).ops) (m n row).row).ops q in
      (u (m n row).result).lifts _ _ σ (t.lifts n row σ h p.0) p.1);
}

module _ {Γ : Env} where
  pub tame_own : {c : ℕ} {m : W ℕ} (p : ℕ) → Tame Γ c m → Tame Γ (suc c) (own p m)
  unfolding own
  tame_own p t = record { counts = λ n row. ap suc (t.counts n row); keeps = t.keeps; lifts = t.lifts }

  pub tame_node : (k x y : ℕ) → Tame Γ 0 (node k x y)
  unfolding node
  tame_node k x y = record { counts = λ n row. refl; keeps = λ n row x r h. h; lifts = λ n row σ h q. h }

  pub tame_same : (x y p : ℕ) → Tame Γ 0 (same x y p)
  unfolding same
  tame_same x y p = record { counts = λ n row. refl; keeps = λ n row x r h. h; lifts = λ n row σ h q. h }

-- ---- what an assignment σ, slot types τ and name types ρ have to do with a piece
module _ (σ : Assignment) (τ ρ : ℕ → Ty) where
  pub record Sat {A : Type 0} (n k : ℕ) (x : Walk A) : Type 0 where
    pub met : Meets σ n x.ops
    pub filled : Carries τ k (slot_types σ x.slots)
    pub named : Reads σ ρ x.row

  pub record Sound {A : Type 0} (m : W A) (Q : ℕ → A → Type 0) : Type 0 where
    pub gives : (n k : ℕ) (row : Row) → Sat n k (m n row) → Q k (m n row).result

  pub sound-map : {A : Type 0} {m : W A} {Q S : ℕ → A → Type 0} → Sound m Q → ((k : ℕ) (x : A) → Q k x → S k x) → Sound m S
  sound-map g h = record { gives = λ n k row s. h k _ (g.gives n k row s) }

  pub sound-bind : {A B : Type 0} {Γ : Env} {c d : ℕ} {m : W A} {f : A → W B} {Q : ℕ → A → Type 0} {S : A → ℕ → B → Type 0}
      → Tame Γ c m → ((x : A) → Tame Γ d (f x)) → Sound m Q → ((x : A) → Sound (f x) (S x)) → Sound (m >>= f) (λ k y. (x : A) × Q k x × S x (k + c) y)
  unfolding ◌>>=◌ glue
  sound-bind {A = A} {c = c} {m = m} {f = f} t u g h = record {
    gives = λ n k row s. (
        let q = meets-split σ n (m n row).ops (f (m n row).result (n + nodes (m n row).ops) (m n row).row).ops s.met in
        let w = carries_split τ k (slot_types σ (m n row).slots) (slot_types σ (f (m n row).result (n + nodes (m n row).ops) (m n row).row).slots)
        (subst (Carries τ k) (slot_types-append σ (m n row).slots (f (m n row).result (n + nodes (m n row).ops) (m n row).row).slots) s.filled) in (
          (m n row).result,
          g.gives n k row (record { met = q.0; filled = w.0; named = λ z r e. s.named z r ((u (m n row).result).keeps _ _ z r e) }),
          (h (m n row).result).gives (n + nodes (m n row).ops) (k + c) (m n row).row
              (record {
                met = q.1;
                filled = move τ (k + length (slot_types σ (m n row).slots)) (k + c) (slot_types σ (f (m n row).result (n + nodes (m n row).ops) (m n row).row).slots)
                    (ap (λ (z : ℕ). k + z) (slot_types-length σ (m n row).slots ∙ t.counts n row)) w.1;
                named = s.named;
              }),
        ));
  }

  pub sound-enter : {A : Type 0} {m : W A} {Q : ℕ → A → Type 0} → Sound m Q → Sound (enter m) Q
  unfolding enter
  sound-enter g = record { gives = λ n k row s. g.gives n k row (record { met = s.met; filled = s.filled; named = s.named }) }

  -- an expression's own slot
  pub sound-own : {m : W ℕ} {Q : ℕ → ℕ → Type 0} (p : ℕ) → Sound m Q → Sound (own p m) (λ k x. Q (suc k) x × (σ x ≡ τ k))
  unfolding own slot_types
  sound-own p g = record { gives = λ n k row s. (g.gives n (suc k) row (record { met = s.met; filled = s.filled.1; named = s.named }), sym s.filled.0) }

  pub sound-node : (k x y : ℕ) → Sound (node k x y) (λ j r. Says σ r (decode k x y))
  unfolding node
  sound-node k x y = record { gives = λ n j row s. s.met.0 }

  pub sound-same : (x y p : ℕ) → Sound (same x y p) (λ j r. σ x ≡ σ y)
  unfolding same
  sound-same x y p = record { gives = λ n j row s. s.met.0 }

  pub sound-done : {A : Type 0} (x : A) → Sound (done x) (λ j y. y ≡ x)
  unfolding done
  sound-done x = record { gives = λ n j row s. refl }

-- ---- the other way: types for the nodes of a piece, so that every assignment with them does what the piece asks
module _ (τ ρ : ℕ → Ty) where
  pub record Complete {A : Type 0} (k : ℕ) (m : W A) (C : Assignment → Type 0) (D : Assignment → A → Type 0) : Type 0 where
    pub takes : (n : ℕ) (row : Row) → (vs : List Ty) × (length vs ≡ nodes (m n row).ops)
        × ((σ : Assignment) → Carries σ n vs → Reads σ ρ row → C σ → Sat σ τ ρ n k (m n row) × D σ (m n row).result)

  pub complete_bind : {A B : Type 0} {Γ : Env} {c k : ℕ} {m : W A} {f : A → W B} {C : Assignment → Type 0} {D : Assignment → A → Type 0} {E : Assignment → B → Type 0}
      → Tame Γ c m → Complete k m C D → ((x : A) → Complete (k + c) (f x) (λ σ. C σ × D σ x) E) → Complete k (m >>= f) C E
  unfolding ◌>>=◌ glue
  complete_bind {c = c} {k = k} {m = m} {f = f} t g h = record {
    takes = λ n row. (
        let p = g.takes n row in
        let q = (h (m n row).result).takes (n + nodes (m n row).ops) (m n row).row in
        let y = f (m n row).result (n + nodes (m n row).ops) (m n row).row in (
          p.0 ++ q.0,
          length-append p.0 q.0 ∙ ap₂ ◌+◌ p.1 q.1 ∙ sym (nodes-append (m n row).ops y.ops),
          λ σ v r c0. (
              let w = carries_split σ n p.0 q.0 v in
              let a = p.2 σ w.0 r c0 in
              let b = q.2 σ (move σ (n + length p.0) (n + nodes (m n row).ops) q.0 (ap (λ (z : ℕ). n + z) p.1) w.1) a.0.named (c0, a.1) in (
                record {
                  met = meets_join σ n (m n row).ops y.ops a.0.met b.0.met;
                  filled = subst (Carries τ k) (sym (slot_types-append σ (m n row).slots y.slots))
                      (carries_join τ k (slot_types σ (m n row).slots) (slot_types σ y.slots) a.0.filled
                      (move τ (k + c) (k + length (slot_types σ (m n row).slots)) (slot_types σ y.slots) (ap (λ (z : ℕ). k + z) (sym (slot_types-length σ (m n row).slots ∙ t.counts n row))) b.0.filled));
                  named = b.0.named;
                },
                b.1,
              )),
        ));
  }

  pub complete_enter : {A : Type 0} {k : ℕ} {m : W A} {C : Assignment → Type 0} {D : Assignment → A → Type 0} → Complete k m C D → Complete k (enter m) C D
  unfolding enter
  complete_enter g = record { takes = λ n row. (let p = g.takes n row in (p.0, p.1, λ σ v r c. (let a = p.2 σ v r c in (record { met = a.0.met; filled = a.0.filled; named = a.0.named }, a.1)))) }

  pub complete_own : {k : ℕ} {m : W ℕ} {C : Assignment → Type 0} (p : ℕ) → Complete (suc k) m C (λ σ x. σ x ≡ τ k) → Complete k (own p m) C (λ σ x. σ x ≡ τ k)
  unfolding own slot_types
  complete_own p0 g = record { takes = λ n row. (let p = g.takes n row in (p.0, p.1, λ σ v r c. (let a = p.2 σ v r c in (record { met = a.0.met; filled = (sym a.1, a.0.filled); named = a.0.named }, a.1)))) }

  pub complete_done : {A : Type 0} {k : ℕ} (x : A) {C : Assignment → Type 0} {D : Assignment → A → Type 0} → ((σ : Assignment) → C σ → D σ x) → Complete k (done x) C D
  unfolding done slot_types
  complete_done x h = record { takes = λ n row. ([], refl, λ σ v r c. (record { met = tt; filled = tt; named = r }, h σ c)) }

  pub complete_node : {j : ℕ} (k x y : ℕ) (t : Ty) {C : Assignment → Type 0} → ((σ : Assignment) (n : ℕ) → C σ → σ n ≡ t → Says σ n (decode k x y)) → Complete j (node k x y) C (λ σ r. σ r ≡ t)
  unfolding node slot_types
  complete_node k x y t h = record { takes = λ n row. (t ∷ [], refl, λ σ v r c. (record { met = (h σ n c v.0, tt); filled = tt; named = r }, v.0)) }

  pub complete_same : {j : ℕ} (x y p : ℕ) {C : Assignment → Type 0} → ((σ : Assignment) → C σ → σ x ≡ σ y) → Complete j (same x y p) C (λ σ r. Unit {0})
  unfolding same slot_types
  complete_same x y p h = record { takes = λ n row. ([], refl, λ σ v r c. (record { met = (h σ c, tt); filled = tt; named = r }, tt)) }

  pub complete_map : {A : Type 0} {k : ℕ} {m : W A} {C C' : Assignment → Type 0} {D D' : Assignment → A → Type 0} → ((σ : Assignment) → C' σ → C σ) → ((σ : Assignment) (x : A) → C' σ → D σ x → D' σ x) → Complete k m C D → Complete k m C' D'
  complete_map u w g = record { takes = λ n row. (let p = g.takes n row in (p.0, p.1, λ σ v r c. (let a = p.2 σ v r (u σ c) in (a.0, w σ _ c a.1)))) }
