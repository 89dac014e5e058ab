-- What the walk keeps of a formula, read off its tree: the places of the slots, and the names that the environment lacks in order of
-- first meeting, each with its first place. After this file a reader knows that the walk's slots and row of names are those of the tree.
-- Theorems that rest on what must-fail edits change stand in proofs/Names.antt.
use Prim.Native.Nat.{ℕ}
use Rattle.std.proofs.Math.Path.{◌≡◌, refl, sym}
use Rattle.std.proofs.Common.{◌∙◌, ap, ap₂, arith, eqb-true}
use Rattle.std.specs.Prelude.{Bool}
use Rattle.std.proofs.Math.Bool.{true, false}
use mathlib.Core.List.{List, [], ◌∷◌, ◌++◌, append-nil}
use Rattle.std.proofs.Math.Dec.{eqb}
use Rattle.formula.specs.Environment.{Entry, lacks, holds, Env}
use Rattle.typing.specs.Equations.{first_of}
use Rattle.typing.specs.Typings.{places, has, meet, meet_all}
use Rattle.walk.specs.Writer.{Met, Row, Found, at, absent, found, find, W, done, glue, ◌>>=◌, enter, own, node, same}
use Rattle.walk.specs.Scripts.{Ref, Item, perform}

-- ---- the walk's row, without the names that the environment holds; the places of its slots
unfoldable pub unheld : Entry → Met → List (ℕ × ℕ)
unheld lacks m = (m.name, m.place) ∷ []
unheld (holds t) m = []

unfoldable pub row_lacking : Env → Row → List (ℕ × ℕ)
unfolding unheld
row_lacking Γ [] = []
row_lacking Γ (m ∷ ms) = unheld (Γ m.name) m ++ row_lacking Γ ms

unfoldable pub slot_places : List (ℕ × ℕ) → List ℕ
slot_places [] = []
slot_places (s ∷ ss) = s.1 ∷ slot_places ss

meet-append : (xs ys zs : List (ℕ × ℕ)) → meet_all xs (ys ++ zs) ≡ meet_all (meet_all xs ys) zs
unfolding meet_all
meet-append xs [] zs = refl
meet-append xs (y ∷ ys) zs = meet-append (meet xs y) ys zs

pub place-append : (ss ts : List (ℕ × ℕ)) → slot_places (ss ++ ts) ≡ slot_places ss ++ slot_places ts
unfolding slot_places
place-append [] ts = refl
place-append (s ∷ ss) ts = ap (λ (zs : List ℕ). s.1 ∷ zs) (place-append ss ts)

-- ---- a name that the environment lacks is found in the row exactly if it stands in what is left of it
pub first-true : {A : Type 0} (c : Bool) (x y : A) → c ≡ true → first_of c x y ≡ x
unfolding first_of
first-true true x y e = refl
first-true false x y e = cc

pub first-false : {A : Type 0} (c : Bool) (x y : A) → c ≡ false → first_of c x y ≡ y
unfolding first_of
first-false true x y e = cc
first-false false x y e = refl

passed : (x : ℕ) (e : Entry) (m : Met) (xs : List (ℕ × ℕ)) → eqb x m.name ≡ false → has x (unheld e m ++ xs) ≡ has x xs
unfolding unheld has
passed x lacks m xs h = first-false (eqb x m.name) true (has x xs) h
passed x (holds t) m xs h = refl

hit : (x : ℕ) (e : Entry) (m : Met) (xs : List (ℕ × ℕ)) → eqb x m.name ≡ true → e ≡ lacks → has x (unheld e m ++ xs) ≡ true
unfolding unheld has
hit x lacks m xs h g = first-true (eqb x m.name) true (has x xs) h
hit x (holds t) m xs h g = let z : ◌≡◌ {A = ℕ} 0 1 = cc in absurd (omega arith)

module _ (Γ : Env) where
  pub has-found : (x : ℕ) (row : Row) (r : ℕ) → Γ x ≡ lacks → find x row ≡ at r → has x (row_lacking Γ row) ≡ true
  unfolding find found row_lacking
  has-found x [] r l e = let z : ◌≡◌ {A = ℕ} 0 1 = cc in absurd (omega arith)
  has-found x (m ∷ row) r l e = go (has-found x row r l) (eqb x m.name) refl e
    where
      go : (find x row ≡ at r → has x (row_lacking Γ row) ≡ true) → (c : Bool) → eqb x m.name ≡ c → found c m.ref (find x row) ≡ at r → has x (unheld (Γ m.name) m ++ row_lacking Γ row) ≡ true
      go ih true q h = hit x (Γ m.name) m (row_lacking Γ row) q (ap Γ (sym (eqb-true x m.name q)) ∙ l)
      go ih false q h = passed x (Γ m.name) m (row_lacking Γ row) q ∙ ih h

  pub has-absent : (x : ℕ) (row : Row) → find x row ≡ absent → has x (row_lacking Γ row) ≡ false
  unfolding find found has row_lacking
  has-absent x [] e = refl
  has-absent x (m ∷ row) e = go (has-absent x row) (eqb x m.name) refl e
    where
      go : (find x row ≡ absent → has x (row_lacking Γ row) ≡ false) → (c : Bool) → eqb x m.name ≡ c → found c m.ref (find x row) ≡ absent → has x (unheld (Γ m.name) m ++ row_lacking Γ row) ≡ false
      go ih true q h = let z : ◌≡◌ {A = ℕ} 0 1 = cc in absurd (omega arith)
      go ih false q h = passed x (Γ m.name) m (row_lacking Γ row) q ∙ ih h

  pub has-row : (x : ℕ) (row : Row) → has x (row_lacking Γ row) ≡ true → (r : ℕ) × (find x row ≡ at r)
  has-row x row h = go (find x row) refl
    where
      go : (f : Found) → find x row ≡ f → (r : ℕ) × (find x row ≡ at r)
      go (at r) e = (r, e)
      go absent e = let z : ◌≡◌ {A = Bool} true false = sym h ∙ has-absent x row e in absurd_bool z
        where
          absurd_bool : ◌≡◌ {A = Bool} true false → (r : ℕ) × (find x row ≡ at r)
          absurd_bool q = let z : ◌≡◌ {A = ℕ} 0 1 = cc in absurd (omega arith)

-- ---- what a piece adds: places of slots, meetings of names
pub record Static {A : Type 0} (Γ : Env) (ps : List ℕ) (ns : List (ℕ × ℕ)) (m : W A) : Type 0 where
  pub placed : (n : ℕ) (row : Row) → slot_places (m n row).slots ≡ ps
  pub named : (n : ℕ) (row : Row) → row_lacking Γ (m n row).row ≡ meet_all (row_lacking Γ row) ns

pub static_bind : {A B : Type 0} {Γ : Env} {ps qs : List ℕ} {ns os : List (ℕ × ℕ)} {m : W A} {f : A → W B} → Static Γ ps ns m → ((x : A) → Static Γ qs os (f x)) → Static Γ (ps ++ qs) (ns ++ os) (m >>= f)
unfolding ◌>>=◌ glue
static_bind {Γ = Γ} {ns = ns} {os = os} {m = m} {f = f} t u = record {
  placed = λ n row. place-append (m n row).slots _ ∙ ap₂ ◌++◌ (t.placed n row) ((u (m n row).result).placed _ _);
  named = λ n row. (u (m n row).result).named _ _ ∙ ap (λ (zs : List (ℕ × ℕ)). meet_all zs os) (t.named n row) ∙ sym (meet-append (row_lacking Γ row) ns os);
}

pub static_eq : {A : Type 0} {Γ : Env} {ps qs : List ℕ} {ns os : List (ℕ × ℕ)} {m : W A} → ps ≡ qs → ns ≡ os → Static Γ ps ns m → Static Γ qs os m
static_eq {Γ = Γ} e h t = record { placed = λ n row. t.placed n row ∙ e; named = λ n row. t.named n row ∙ ap (meet_all (row_lacking Γ row)) h }

-- the tail adds nothing
pub static_last : {A B : Type 0} {Γ : Env} {ps : List ℕ} {ns : List (ℕ × ℕ)} {m : W A} {f : A → W B} → Static Γ ps ns m → ((x : A) → Static Γ [] [] (f x)) → Static Γ ps ns (m >>= f)
static_last {ps = ps} {ns = ns} t u = static_eq (append-nil ps) (append-nil ns) (static_bind t u)

pub static_done : {A : Type 0} {Γ : Env} (x : A) → Static Γ [] [] (done x)
unfolding done slot_places meet_all
static_done x = record { placed = λ n row. refl; named = λ n row. refl }

pub static_node : {Γ : Env} (k x y : ℕ) → Static Γ [] [] (node k x y)
unfolding node slot_places meet_all
static_node k x y = record { placed = λ n row. refl; named = λ n row. refl }

pub static_same : {Γ : Env} (x y p : ℕ) → Static Γ [] [] (same x y p)
unfolding same slot_places meet_all
static_same x y p = record { placed = λ n row. refl; named = λ n row. refl }

pub static_perform : {Γ : Env} (is : List Item) (g : Ref) (args places : ℕ → ℕ) → Static Γ [] [] (perform is g args places)
unfolding perform slot_places meet_all
static_perform is g args places = record { placed = λ n row. refl; named = λ n row. refl }

pub static_enter : {A : Type 0} {Γ : Env} {ps : List ℕ} {ns : List (ℕ × ℕ)} {m : W A} → Static Γ ps ns m → Static Γ ps ns (enter m)
unfolding enter
static_enter t = record { placed = t.placed; named = t.named }

pub static_own : {Γ : Env} {ps : List ℕ} {ns : List (ℕ × ℕ)} {m : W ℕ} (p : ℕ) → Static Γ ps ns m → Static Γ (p ∷ ps) ns (own p m)
unfolding own slot_places
static_own p t = record { placed = λ n row. ap (λ (zs : List ℕ). p ∷ zs) (t.placed n row); named = t.named }
