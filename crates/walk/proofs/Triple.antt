-- The theorems of specs/Triple.antt: `tame_problem`, `sound-problem`.
use Prim.Native.Nat.{ℕ}
use Rattle.std.proofs.Math.Path.{refl}
use Rattle.types.specs.Ty.{Ty}
use Rattle.formula.specs.Environment.{Env}
use Rattle.unification.specs.Good.{Assignment}
use Rattle.walk.specs.Writer.{problem}
use Rattle.walk.specs.Triple.{Tame, Sound}

module _ {Γ : Env} where
  pub tame_problem : (q p : ℕ) → Tame Γ 0 (problem q p)
  unfolding problem
  tame_problem q p = record { counts = λ n row. refl; keeps = λ n row x r h. h; lifts = λ n row σ h q. h }

-- ---- what an assignment σ, slot types τ and name types ρ have to do with a piece
module _ (σ : Assignment) (τ ρ : ℕ → Ty) where
  pub sound-problem : (q p : ℕ) → Sound σ τ ρ (problem q p) (λ j r. ⊥)
  unfolding problem
  sound-problem q p = record { gives = λ n j row s. s.met }
