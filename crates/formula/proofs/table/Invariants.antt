use Rattle.formula.specs.EnvSteps.{Going}
use Rattle.formula.specs.EnvParse.{entries_from}
use Rattle.std.proofs.Common.{◌-◌, [], length}
use Rattle.formula.proofs.table.Given as goal

abbrev pub invariant-loop-at : goal.invariant-loop-at
invariant-loop-at l = Going l.names l.s (entries_from (length l.s) l.names l.s [] 0) l.types l.at.0

abbrev pub decreases-loop-at : goal.decreases-loop-at
decreases-loop-at l = length l.s - l.at.0
