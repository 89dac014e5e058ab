use Rattle.std.proofs.Common.{◌≤◌}
use Rattle.replay.proofs.Fields.bytes.Given as goal

abbrev pub invariant-loop-cell : goal.invariant-loop-cell
invariant-loop-cell l = l.length ≤ l.cell-index
