-- What a walk that was run says of a formula's typings: none, one or several.
-- `s` is the arena after the walk's operations were run from an empty one, all of them, within capacity and budget.
-- Theorems that rest on what must-fail edits change stand in proofs/Verdict.antt.
use Rattle.std.specs.Prelude.{ℕ}
use Rattle.std.proofs.Math.Path.{◌≡◌}
use mathlib.Core.List.{List, [], ◌∷◌}
use Rattle.types.specs.Ty.{Ty}
use Rattle.formula.specs.Environment.{lacks, Env}
use Rattle.formula.specs.Tree.{Formula}
use Rattle.unification.specs.Arena.{Words, node_at}
use Rattle.unification.specs.Good.{Assignment, Good, extend}
use Rattle.unification.specs.Ops.{Bench, Admitted, Ran}
use Rattle.walk.specs.Writer.{at, find}
use Rattle.walk.specs.Walk.{walked}

-- ---- the walk, run from an empty arena
unfoldable pub start : Words → Bench
start ws = record { count = 0; words = ws; problems = [] }

module _ (Γ : Env) (f : Formula) (cap : ℕ) (ws : Words) (s : Bench) (ran : Ran cap (start ws) (walked Γ f).ops s) where
  -- one type for a reference in all assignments that the arena admits
  abbrev pub Fixed : ℕ → Type 0
  Fixed t = (σ σ' : Assignment) → Admitted s σ → Admitted s σ' → σ t ≡ σ' t

  abbrev pub SlotsFixed : List (ℕ × ℕ) → Type 0
  SlotsFixed [] = Unit {0}
  SlotsFixed (x ∷ xs) = Fixed x.0 × SlotsFixed xs

  abbrev pub NamesFixed : Type 0
  NamesFixed = (x r : ℕ) → find x (walked Γ f).row ≡ at r → Γ x ≡ lacks → Fixed r

  -- the test for unknowns answers whether a reference has one type
  abbrev pub G : Good s.count (node_at s.words s.count)
  G = ran.ready.good

  -- ---- none, one or several, in three lines
  abbrev pub AllFixed : Type 0
  AllFixed = SlotsFixed (walked Γ f).slots × NamesFixed

  -- ---- every remaining unknown read as ℤ, or as BOOL: two typings, that differ wherever the test for unknowns says no
  unfoldable pub reading : Ty → Assignment
  reading t = extend s.count (node_at s.words s.count) G (λ x. t)
