-- What lies past the counted nodes is no part of an arena's history.
--
-- `reached-alike`: words that agree on its nodes with those of a reached arena are reached too. `retold`: by a history that asks the same of an assignment (`asks`),
-- in which every comparison succeeded if every one did (`succeeds`), and one failed if one did (`fails`).
-- Theorems that rest on what must-fail edits change stand in proofs/Past.antt.
use Prim.Native.Nat.{ℕ}
use Rattle.std.specs.Prelude.{◌↔◌}
use Rattle.unification.specs.Arena.{Words}
use Rattle.unification.specs.Good.{Assignment}
use Rattle.unification.specs.Laws.{Reached}
use Rattle.unification.specs.History.{Asks, AllUnified, SomeFailed}

-- a history of the words vs that tells what R tells
pub record Retold {n : ℕ} {ws : Words} (R : Reached n ws) (vs : Words) : Type 0 where
  pub reached : Reached n vs
  pub asks : (σ : Assignment) → Asks reached σ ↔ Asks R σ
  pub succeeds : AllUnified R → AllUnified reached
  pub fails : SomeFailed R → SomeFailed reached
