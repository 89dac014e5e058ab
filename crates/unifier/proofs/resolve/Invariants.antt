use Rattle.std.proofs.Common.{◌≡◌}
use Rattle.unification.specs.Tasks.{arrive}
use Rattle.unifier.proofs.resolve.Given as goal

abbrev pub invariant-loop-node : goal.invariant-loop-node
invariant-loop-node l = arrive l.words l.count l.at.0 l.left ≡ arrive l.words l.count l.initial.at.0 l.budget

abbrev pub decreases-loop-node : goal.decreases-loop-node
decreases-loop-node l = l.left
