-- The makers belong to histories: whatever they answer, at every budget, the arena stays one that public calls reach.
--
-- `build-reached`: a maker of one node makes it, or the words stand. `relate-reached`, `lift-reached`: a relation and a type that is lifted are several nodes. Where one of
-- them is refused, those before it have been written past the caller's count, and this count stays; the caller's arena is then reached again (`Again`): its counted words
-- are as they were, and what lies past them is no part of its history (`retold` of Past.antt).
-- Theorems that rest on what must-fail edits change stand in proofs/Histories.antt.
use Prim.Native.Nat.{ℕ, suc, ◌+◌, ◌≤◌}
use Rattle.std.specs.Prelude.{◌≡◌, length}
use Rattle.meter.specs.Meter.{Out, spent, halt, done}
use Rattle.unification.specs.Arena.{Words}
use Rattle.unification.specs.Laws.{Reached}
use Rattle.unification.specs.Lift.{Raised}
use Rattle.unification.specs.Frame.{Alike}

-- after a maker: a node was made, and the arena of one node more is reached; or nothing was, and the words stand
abbrev pub After : ℕ → Words → Out Words (ℕ × Words) → Type 0
After n ws (spent vs) = ⊥
After n ws (halt w vs) = vs ≡ ws
After n ws (done o r) = (o.0 ≡ n) × Reached (suc n) o.1

-- ---- makers of several nodes
-- the counted words as they were, and as many words in all
pub record Keeps (n : ℕ) (ws vs : Words) : Type 0 where
  pub alike : Alike n ws vs
  pub long : length vs ≡ length ws

-- the caller's arena again: nothing is other than it was but words past the count, and the arena is reached
abbrev pub Again : ℕ → Words → Words → Type 0
Again n ws vs = Keeps n ws vs × Reached n vs

-- after a relation: two nodes were made, the second is answered, and the arena of two nodes more is reached; or the caller's arena is reached again
abbrev pub AfterTwo : ℕ → Words → Out Words (ℕ × Words) → Type 0
AfterTwo n ws (spent vs) = ⊥
AfterTwo n ws (halt w vs) = Again n ws vs
AfterTwo n ws (done o r) = (o.0 ≡ suc n) × Keeps n ws o.1 × Reached (suc (suc n)) o.1

-- after a lifting: its root was made last, and the arena up to it is reached; or the caller's arena is reached again
abbrev pub AfterLift : ℕ → Words → Out Words Raised → Type 0
AfterLift n ws (spent vs) = ⊥
AfterLift n ws (halt w vs) = Again n ws vs
AfterLift n ws (done o r) = (n ≤ o.0) × Keeps n ws o.2 × Reached (o.0 + 1) o.2
