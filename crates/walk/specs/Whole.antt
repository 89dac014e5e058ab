-- The comparisons of a formula are met by exactly its typings: promise E2.
-- After this file a reader knows that the rules of the language and the operations of the walk say the same of every formula.
-- Theorems that rest on what must-fail edits change stand in proofs/Whole.antt.
use Prim.Native.Nat.{ℕ, suc}
use Rattle.std.specs.Prelude.{◌≡◌, refl}
use mathlib.Core.List.{List, [], ◌∷◌}
use native.Mathlib.Omega.{arith}
use Rattle.types.specs.Ty.{bool, Ty, base}
use Rattle.formula.specs.Environment.{Entry, lacks, holds, Env}
use Rattle.formula.specs.Tree.{Formula}
use Rattle.unification.specs.Good.{Assignment}
use Rattle.typing.specs.Typings.{from_list}
use Rattle.walk.specs.Writer.{Found, at, absent, find}
use Rattle.walk.specs.Walk.{walked}
use Rattle.walk.specs.Tables.{Carries}
use Rattle.walk.specs.Triple.{slot_types, Reads}

-- ---- typings and assignments
-- σ reads τ and ρ: the slots and the names met have these types
pub record ReadsAs (Γ : Env) (f : Formula) (σ : Assignment) (τ ρ : ℕ → Ty) : Type 0 where
  pub slots : Carries τ 0 (slot_types σ (walked Γ f).slots)
  pub names : Reads σ ρ (walked Γ f).row

carries_later : (f : ℕ → Ty) (k : ℕ) (vs : List Ty) → Carries (λ i. f (suc i)) k vs → Carries f (suc k) vs
carries_later f k [] h = tt
carries_later f k (v ∷ vs) h = (h.0, carries_later f (suc k) vs h.1)

pub carries_own : (vs : List Ty) → Carries (from_list vs) 0 vs
unfolding from_list
carries_own [] = tt
carries_own (v ∷ vs) = (refl, carries_later (from_list (v ∷ vs)) 0 vs (carries_own vs))

pub none_found : (x r : ℕ) → find x [] ≡ at r → ⊥
unfolding find
none_found x r e = let z : ◌≡◌ {A = ℕ} 0 1 = cc in omega arith

-- ---- and every assignment that meets them reads as some typing
unfoldable pub found_type : Assignment → Found → Ty
found_type σ (at r) = σ r
found_type σ absent = base bool

unfoldable pub entry_type : Entry → Ty → Ty
entry_type lacks t = t
entry_type (holds u) t = u

unfoldable pub slots_read : Env → Formula → Assignment → ℕ → Ty
slots_read Γ f σ = from_list (slot_types σ (walked Γ f).slots)

unfoldable pub names_read : Env → Formula → Assignment → ℕ → Ty
names_read Γ f σ x = entry_type (Γ x) (found_type σ (find x (walked Γ f).row))
