-- What the walk lists of its own is what the tree excludes: an index with no declaration, an application, an ascription to 4F,
-- with their problems and places, in that order, and nothing else. Such a formula has no typing.
-- Theorems that rest on what must-fail edits change stand in proofs/Excluded.antt.
use Prim.Native.Nat.{ℕ, suc, ◌+◌}
use Rattle.std.specs.Prelude.{◌≡◌, Bool, true, false, ltb, length}
use Rattle.std.proofs.Math.Path.{refl}
use Rattle.std.proofs.Common.{arith, lt-ltb, le-ltb, ltb-true, ltb-false}
use mathlib.Core.List.{List, [], ◌∷◌}
use Rattle.unification.specs.Ops.{listed}
use Rattle.walk.specs.Writer.{Row, W}
use Rattle.walk.specs.Walk.{over}

-- a piece lists ps, and hands on something of which Q holds
pub record Lists {A : Type 0} (ps : List (ℕ × ℕ)) (m : W A) (Q : A → Type 0) : Type 0 where
  pub told : (n : ℕ) (row : Row) → listed (m n row).ops ≡ ps
  pub hands : (n : ℕ) (row : Row) → Q (m n row).result

-- an index
pub below_next : (i n : ℕ) → ltb (suc i) (suc n) ≡ ltb i n
below_next i n = go (ltb i n) refl
  where
    go : (c : Bool) → ltb i n ≡ c → ltb (suc i) (suc n) ≡ c
    go true e = let q = ltb-true i n e in lt-ltb (suc i) (suc n) (omega arith)
    go false e = let q = ltb-false i n e in le-ltb (suc i) (suc n) (omega arith)

pub over-length : (xs B : List ℕ) → length (over xs B) ≡ length xs + length B
unfolding over
over-length [] B = omega arith
over-length (x ∷ xs) B = let e = over-length xs (x ∷ B) in omega arith

abbrev pub Long : ℕ → List ℕ → Type 0
Long n xs = length xs ≡ n
