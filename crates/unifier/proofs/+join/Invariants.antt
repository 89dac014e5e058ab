use Rattle.std.proofs.Common.{◌≡◌, ◌≤◌}
use Rattle.unification.specs.Arena.{unify}
use Rattle.unifier.proofs.+join.Given as goal

abbrev pub decreases-join : goal.decreases-join
decreases-join l = l.left.now

abbrev pub invariant-loop-v : goal.invariant-loop-v
invariant-loop-v l = (unify l.count (l.words, l.one.0, l.other.0) l.left ≡ unify l.count (l.initial.words, l.initial.one.0, l.initial.other.0) l.initial.left) × (l.left ≤ l.initial.left)

abbrev pub decreases-loop-v : goal.decreases-loop-v
decreases-loop-v l = l.left
