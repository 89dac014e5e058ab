use Rattle.std.proofs.Common.{arith, length-set, rules}
use Rattle.unification.specs.Arena.{bind_at}
use Rattle.unifier.proofs.link.Goals as goal

pub bounds-words-at-2 : goal.bounds-words-at-2
bounds-words-at-2 c = simp length-set (omega arith)

pub returns : goal.returns
unfolding bind_at
returns c = search rules
