-- What the outcome of a formula says of its typings: one, several or none.
-- After this file a reader may believe that the finish, over the arena that the walk leaves, tells the three apart, and that the
-- types it hands out are the typing's, in the order in which a typing is told.
-- Theorems that rest on what must-fail edits change stand in proofs/Verdict.antt.
use Rattle.std.specs.Prelude.{ℕ, ◌≡◌, ◌⊎◌}
use mathlib.Core.List.{List, []}
use Rattle.types.specs.Ty.{Ty}
use Rattle.formula.specs.Environment.{Env}
use Rattle.formula.specs.Tree.{Formula}
use Rattle.typing.specs.Rules.{Typing}
use Rattle.typing.specs.Typings.{One, None, Several, name_entries, slot_entries, excluded_of}
use Rattle.unification.specs.Ops.{In}
use Rattle.inference.specs.Answer.{Problem}
use Rattle.inference.specs.Finish.{Outcome, typed, failed}
use Rattle.soundness.specs.Listing.{AllOf, SomeOf, Clash, Untyped, Unfit, problem_of}

-- a problem that only the walk lists
abbrev pub OfWalk : Problem → Type 0
OfWalk p = Clash p ⊎ Unfit p

pub data Verdict (Γ : Env) (f : Formula) : Outcome → Type 0 where
  one : (es ss : List (ℕ × Ty)) → One Γ f → ((τ ρ : ℕ → Ty) → Typing Γ f τ ρ → (es ≡ name_entries Γ f ρ) × (ss ≡ slot_entries f τ)) → Verdict Γ f (typed es ss)
  several : (ps : List Problem) → Several Γ f → AllOf Untyped ps → Verdict Γ f (failed ps)
  none : (ps : List Problem) → None Γ f → SomeOf OfWalk ps → (excluded_of f ≡ [] → SomeOf Clash ps)
      → ((z : ℕ × ℕ) → In z (excluded_of f) → SomeOf (λ p. p ≡ problem_of z) ps) → Verdict Γ f (failed ps)
