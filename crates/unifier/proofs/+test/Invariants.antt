use Rattle.std.proofs.Common.{◌≡◌, ◌≤◌}
use Rattle.unification.specs.Arena.{solved}
use Rattle.unifier.proofs.+test.Given as goal

abbrev pub decreases-test : goal.decreases-test
decreases-test l = l.left.now

abbrev pub invariant-loop-reached : goal.invariant-loop-reached
invariant-loop-reached l = (solved l.words l.count l.below.0 l.left ≡ solved l.words l.count l.initial.below.0 l.initial.left) × (l.left ≤ l.initial.left)

abbrev pub decreases-loop-reached : goal.decreases-loop-reached
decreases-loop-reached l = l.left
