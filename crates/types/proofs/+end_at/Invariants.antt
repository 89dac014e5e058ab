use Rattle.std.proofs.Common.{◌≡◌, ◌≤◌}
use Rattle.types.specs.Record.{type_at}
use Rattle.types.specs.Code.{end_of}
use Rattle.types.proofs.+end_at.Given as goal

abbrev pub decreases-end_at : goal.decreases-end_at
decreases-end_at l = l.left

abbrev pub invariant-loop-left : goal.invariant-loop-left
invariant-loop-left l = (end_of (type_at l.left l.names l.s l.at.0) ≡ end_of (type_at l.initial.left l.names l.s l.initial.at.0)) × (l.left ≤ l.initial.left)

abbrev pub decreases-loop-left : goal.decreases-loop-left
decreases-loop-left l = l.left
