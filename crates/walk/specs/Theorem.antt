-- The comparisons of an expression or predicate ask exactly what its typing rules say: what they ask is a typing, and every typing is met.
-- Theorems that rest on what must-fail edits change stand in proofs/Theorem.antt.
use Rattle.std.specs.Prelude.{ℕ, suc, ◌≡◌, true}
use Rattle.std.proofs.Math.Path.{refl}
use Rattle.types.specs.Ty.{Ty}
use Rattle.formula.specs.Environment.{holds, Env}
use Rattle.unification.specs.Good.{Assignment}
use Rattle.walk.specs.Writer.{W}
use Rattle.walk.specs.Scripts.{never_script}
use Rattle.walk.specs.Walk.{expr}
use Rattle.walk.specs.Tables.{made, ref_ok, scoped, fits}
use Rattle.walk.specs.Triple.{Sound, sound-enter, sound-own, Complete, complete_enter, complete_own}

pub never-fits : fits 0 never_script ≡ true
unfolding fits scoped ref_ok made never_script
never-fits = refl

module _ (Γ : Env) (σ : Assignment) (τ ρ : ℕ → Ty) where
  pub sound-expr : {m : W ℕ} {Q : ℕ → ℕ → Type 0} (p : ℕ) → Sound σ τ ρ m Q → Sound σ τ ρ (expr Γ p m) (λ k x. Q (suc k) x × (σ x ≡ τ k))
  unfolding expr
  sound-expr p g = sound-enter σ τ ρ (sound-own σ τ ρ p g)

-- ---- every typing is met
module _ (Γ : Env) (τ ρ : ℕ → Ty) (agrees : (x : ℕ) (t : Ty) → Γ x ≡ holds t → ρ x ≡ t) where
  pub complete_expr : {k : ℕ} {m : W ℕ} {C : Assignment → Type 0} (p : ℕ) → Complete τ ρ (suc k) m C (λ σ x. σ x ≡ τ k) → Complete τ ρ k (expr Γ p m) C (λ σ x. σ x ≡ τ k)
  unfolding expr
  complete_expr p g = complete_enter τ ρ (complete_own τ ρ p g)
