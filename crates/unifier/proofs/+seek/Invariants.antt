use Rattle.std.proofs.Common.{◌≡◌, ◌≤◌}
use Rattle.unification.specs.Arena.{occurs}
use Rattle.unifier.proofs.+seek.Given as goal

abbrev pub decreases-seek : goal.decreases-seek
decreases-seek l = l.left.now

abbrev pub invariant-loop-reached : goal.invariant-loop-reached
invariant-loop-reached l = (occurs l.words l.count l.sought.0 l.below.0 l.left ≡ occurs l.words l.count l.sought.0 l.initial.below.0 l.initial.left) × (l.left ≤ l.initial.left)

abbrev pub decreases-loop-reached : goal.decreases-loop-reached
decreases-loop-reached l = l.left
