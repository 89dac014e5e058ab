-- Every reference of the walk is to a node already made, and every unknown is made with rank 0: the operations never leave the arena, and chains of
-- bindings stay short in it.
-- Theorems that rest on what must-fail edits change stand in proofs/Safe.antt.
use Prim.Native.Nat.{ℕ, suc, ◌+◌, ◌≤◌, ◌<◌}
use Rattle.std.specs.Prelude.{◌≡◌, true, ◌&&◌, leb}
use Rattle.std.proofs.Math.Path.{refl, subst}
use Rattle.std.proofs.Common.{sym}
use mathlib.Core.List.{List, [], ◌∷◌, ◌++◌}
use native.Mathlib.Omega.{arith}
use borrow.Author.Tests.{ltb-true}
use Rattle.types.specs.Ty.{bool, int, given, Ty, base, pow, prod}
use Rattle.unification.specs.Trees.{and_left, and_right}
use Rattle.unification.specs.Good.{Proper}
use Rattle.unification.specs.Ops.{Op, pay, make, compare, list, nodes, Sound}
use Rattle.typing.specs.Equations.{a, b, c, d, R}
use Rattle.walk.specs.Writer.{Row, at, find, W, done, glue, ◌>>=◌, enter, own, node, same, enrol, BOOLEAN, INTEGER, GIVEN, POWER, PRODUCT}
use Rattle.walk.specs.Scripts.{Ref, arg, new, Item, an_unknown, a_bool, an_int, a_power, a_pair, equal, Script, pick, play, perform}
use Rattle.walk.specs.Walk.{Mode, loose, each, links, atom, lift}
use Rattle.walk.specs.Tables.{made, ref_ok, scoped, fits}
use Rattle.walk.specs.Triple.{nodes-append, Either, find-either, there, here}

abbrev pub RowIn : ℕ → Row → Type 0
RowIn n row = (x r : ℕ) → find x row ≡ at r → r < n

abbrev pub SlotsIn : ℕ → List (ℕ × ℕ) → Type 0
SlotsIn n [] = Unit {0}
SlotsIn n (s ∷ ss) = (s.0 < n) × SlotsIn n ss

abbrev pub AllIn : ℕ → List ℕ → Type 0
AllIn n [] = Unit {0}
AllIn n (x ∷ xs) = (x < n) × AllIn n xs

abbrev pub ModeIn : ℕ → Mode → Type 0
ModeIn n loose = Unit {0}
ModeIn n (each x) = x < n
ModeIn n (links way x) = x < n

slots-up : (n m : ℕ) (ss : List (ℕ × ℕ)) → n ≤ m → SlotsIn n ss → SlotsIn m ss
slots-up n m [] l h = tt
slots-up n m (s ∷ ss) l h = (let q = h.0 in omega arith, slots-up n m ss l h.1)

slots_join : (n : ℕ) (ss ts : List (ℕ × ℕ)) → SlotsIn n ss → SlotsIn n ts → SlotsIn n (ss ++ ts)
slots_join n [] ts h g = g
slots_join n (s ∷ ss) ts h g = (h.0, slots_join n ss ts h.1 g)

pub all_up : (n m : ℕ) (xs : List ℕ) → n ≤ m → AllIn n xs → AllIn m xs
all_up n m [] l h = tt
all_up n m (x ∷ xs) l h = (let q = h.0 in omega arith, all_up n m xs l h.1)

shift : (n m : ℕ) (qs : List Op) → n ≡ m → Sound n qs → Sound m qs
shift n m qs e h = rw (sym e) h

ops_join : (n : ℕ) (os qs : List Op) → Sound n os → Sound (n + nodes os) qs → Sound n (os ++ qs)
ops_join n [] qs h g = shift (n + 0) n qs (omega arith) g
ops_join n (pay ∷ os) qs h g = ops_join n os qs h g
ops_join n (make k a b ∷ os) qs h g = (h.0, ops_join (suc n) os qs h.1 (shift (n + suc (nodes os)) (suc n + nodes os) qs (omega arith) g))
ops_join n (compare a b p ∷ os) qs h g = (h.0, h.1, ops_join n os qs h.2 g)
ops_join n (list q p ∷ os) qs h g = ops_join n os qs h g

pub record Safe {A : Type 0} (b : ℕ) (m : W A) (Q : ℕ → A → Type 0) : Type 0 where
  pub safe : (n : ℕ) → b ≤ n → (row : Row) → RowIn n row →
      Sound n (m n row).ops × RowIn (n + nodes (m n row).ops) (m n row).row × SlotsIn (n + nodes (m n row).ops) (m n row).slots × Q (n + nodes (m n row).ops) (m n row).result

abbrev pub Nothing : {A : Type 0} → ℕ → A → Type 0
Nothing n x = Unit {0}

abbrev pub Below : ℕ → ℕ → Type 0
Below n x = x < n

pub safe-bind : {A B : Type 0} {b : ℕ} {m : W A} {f : A → W B} {Q : ℕ → A → Type 0} {R : ℕ → B → Type 0} → Safe b m Q → ((x : A) (c : ℕ) → b ≤ c → Q c x → Safe c (f x) R) → Safe b (m >>= f) R
unfolding ◌>>=◌ glue
safe-bind {b = b} {m = m} {f = f} {R = R} g h = record {
  safe = λ n l row r. (
      let p = g.safe n l row r in
      let n1 : ℕ = n + nodes (m n row).ops in
      let q = (h (m n row).result (n + nodes (m n row).ops) (omega arith) p.3).safe (n + nodes (m n row).ops) (omega arith) (m n row).row p.1 in
      let y = f (m n row).result (n + nodes (m n row).ops) (m n row).row in
      let e : n + nodes (m n row).ops + nodes y.ops ≡ n + nodes ((m n row).ops ++ y.ops) = (let z = nodes-append (m n row).ops y.ops in omega arith) in (
        ops_join n (m n row).ops y.ops p.0 q.0,
        subst (λ (i : ℕ). RowIn i y.row) e q.1,
        subst (λ (i : ℕ). SlotsIn i ((m n row).slots ++ y.slots)) e (slots_join _ (m n row).slots y.slots (slots-up (n + nodes (m n row).ops) _ (m n row).slots (omega arith) p.2) q.2),
        subst (λ (i : ℕ). R i y.result) e q.3,
      ));
}

module _ {A : Type 0} where
  pub safe-done : {b : ℕ} {Q : ℕ → A → Type 0} (x : A) → ((n : ℕ) → b ≤ n → Q n x) → Safe b (done x) Q
  unfolding done
  safe-done {Q = Q} x h = record { safe = λ n l row r. (let e : n ≡ n + 0 = omega arith in (tt, subst (λ (i : ℕ). RowIn i row) e r, tt, subst (λ (i : ℕ). Q i x) e (h n l))) }

  pub safe-enter : {b : ℕ} {m : W A} {Q : ℕ → A → Type 0} → Safe b m Q → Safe b (enter m) Q
  unfolding enter
  safe-enter g = record { safe = g.safe }

  pub safe-up : {b c : ℕ} {m : W A} {Q : ℕ → A → Type 0} → b ≤ c → Safe b m Q → Safe c m Q
  safe-up l g = record { safe = λ n k row r. g.safe n (omega arith) row r }

  pub safe-map : {b : ℕ} {m : W A} {Q S : ℕ → A → Type 0} → Safe b m Q → ((n : ℕ) (x : A) → Q n x → S n x) → Safe b m S
  safe-map g h = record { safe = λ n k row r. (let p = g.safe n k row r in (p.0, p.1, p.2, h _ _ p.3)) }

pub safe-own : {b : ℕ} {m : W ℕ} (p : ℕ) → Safe b m Below → Safe b (own p m) Below
unfolding own
safe-own p g = record { safe = λ n l row r. (let q = g.safe n l row r in (q.0, q.1, (q.3, q.2), q.3)) }

pub safe-node : {b : ℕ} (k x y : ℕ) → ((n : ℕ) → b ≤ n → Proper n k x y) → Safe b (node k x y) Below
unfolding node
safe-node k x y h = record { safe = λ n l row r. ((h n l, tt), λ z s e. (let q = r z s e in omega arith), tt, omega arith) }

pub safe-same : {b : ℕ} (x y p : ℕ) → x < b → y < b → Safe b (same x y p) Nothing
unfolding same
safe-same x y p h g = record { safe = λ n l row r. ((omega arith, omega arith, tt), λ z s e. (let q = r z s e in omega arith), tt, tt) }

pub safe-enrol : {b : ℕ} (x p r : ℕ) → r < b → Safe b (enrol x p r) Below
unfolding enrol
safe-enrol {b = b} x p r h = record { safe = λ n l row i. (tt, λ z s e. go n l row i z s (find-either z s row _ e), tt, omega arith) }
  where
    go : (n : ℕ) → b ≤ n → (row : Row) → RowIn n row → (z s : ℕ) → Either z s row (record { name = x; ref = r; place = p }) → s < n + 0
    go n l row i z s (there e) = let q = i z s e in omega arith
    go n l row i z s (here e d) = omega arith

pub safe-lift : {b : ℕ} (t : Ty) → Safe b (lift t) Below
unfolding lift atom
safe-lift (base bool) = safe-node BOOLEAN 0 0 (λ n l. (tt, λ _. refl))
safe-lift (base int) = safe-node INTEGER 0 0 (λ n l. (tt, λ _. refl))
safe-lift (base (given x)) = safe-node GIVEN x 0 (λ n l. (tt, λ _. refl))
safe-lift (pow t) = safe-bind (safe-lift t) (λ x c l q. safe-node POWER x 0 (λ n k. (omega arith, λ _. refl)))
safe-lift (prod t u) = safe-bind (safe-lift t) (λ x c l q. safe-bind (safe-lift u) (λ y d k w. safe-node PRODUCT x y (λ n j. ((omega arith, omega arith), λ e. cc))))

-- ---- scripts
module _ (k b : ℕ) (args places : ℕ → ℕ) (inside : (i : ℕ) → leb 1 i && leb i k ≡ true → args i < b) where
  ref_in : (n m : ℕ) → b ≤ n → (x : Ref) → ref_ok k m x ≡ true → pick args n x < n + m
  unfolding pick ref_ok
  ref_in n m l (arg i) e = let q = inside i e in omega arith
  ref_in n m l (new j) e = let q = ltb-true j m e in omega arith

  play_in : (is : List Item) (n m c : ℕ) → b ≤ n → c ≡ n + m → scoped k m is ≡ true → Sound c (play args places n is)
  unfolding play scoped
  play_in [] n m c l e s = tt
  play_in (an_unknown ∷ is) n m c l e s = ((tt, λ _. refl), play_in is n (suc m) (suc c) l (omega arith) s)
  play_in (a_bool ∷ is) n m c l e s = ((tt, λ _. refl), play_in is n (suc m) (suc c) l (omega arith) s)
  play_in (an_int ∷ is) n m c l e s = ((tt, λ _. refl), play_in is n (suc m) (suc c) l (omega arith) s)
  play_in (a_power x ∷ is) n m c l e s =
      let ox = ref_in n m l x (and_left (ref_ok k m x) (scoped k (suc m) is) s) in
      ((omega arith, λ _. refl), play_in is n (suc m) (suc c) l (omega arith) (and_right (ref_ok k m x) (scoped k (suc m) is) s))
  play_in (a_pair x y ∷ is) n m c l e s =
      let so = and_right (ref_ok k m x) (ref_ok k m y && scoped k (suc m) is) s in
      let ox = ref_in n m l x (and_left (ref_ok k m x) (ref_ok k m y && scoped k (suc m) is) s) in
      let oy = ref_in n m l y (and_left (ref_ok k m y) (scoped k (suc m) is) so) in
      (((omega arith, omega arith), λ e. cc), play_in is n (suc m) (suc c) l (omega arith) (and_right (ref_ok k m y) (scoped k (suc m) is) so))
  play_in (equal x y w ∷ is) n m c l e s =
      let so = and_right (ref_ok k m x) (ref_ok k m y && scoped k m is) s in
      let ox = ref_in n m l x (and_left (ref_ok k m x) (ref_ok k m y && scoped k m is) s) in
      let oy = ref_in n m l y (and_left (ref_ok k m y) (scoped k m is) so) in
      (omega arith, omega arith, play_in is n m c l e (and_right (ref_ok k m y) (scoped k m is) so))

  made-nodes : (is : List Item) (n m : ℕ) → made m is ≡ m + nodes (play args places n is)
  unfolding made play
  made-nodes [] n m = omega arith
  made-nodes (an_unknown ∷ is) n m = let e = made-nodes is n (suc m) in omega arith
  made-nodes (a_bool ∷ is) n m = let e = made-nodes is n (suc m) in omega arith
  made-nodes (an_int ∷ is) n m = let e = made-nodes is n (suc m) in omega arith
  made-nodes (a_power x ∷ is) n m = let e = made-nodes is n (suc m) in omega arith
  made-nodes (a_pair x y ∷ is) n m = let e = made-nodes is n (suc m) in omega arith
  made-nodes (equal x y w ∷ is) n m = made-nodes is n m

  pub safe-items : (is : List Item) (g : Ref) → scoped k 0 is ≡ true → Safe b (perform is g args places) Nothing
  unfolding perform
  safe-items is g s = record { safe = λ n l row r. (play_in is n 0 n l (omega arith) s, λ z t e. (let q = r z t e in omega arith), tt, tt) }

  pub safe_script : (s : Script) → fits k s ≡ true → Safe b (perform s.items s.gives args places) Below
  unfolding perform fits
  safe_script s ok = record {
    safe = λ n l row r. (
        let e = made-nodes s.items n 0 in
        let q = ref_in n (made 0 s.items) l s.gives (and_right (scoped k 0 s.items) (ref_ok k (made 0 s.items) s.gives) ok) in
        (play_in s.items n 0 n l (omega arith) (and_left (scoped k 0 s.items) (ref_ok k (made 0 s.items) s.gives) ok), λ z t e. (let q = r z t e in omega arith), tt, omega arith));
  }
