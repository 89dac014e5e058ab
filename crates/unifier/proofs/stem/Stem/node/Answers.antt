use Rattle.std.proofs.Common.{refl}
use Rattle.types.specs.Code.{atom_is}
use Rattle.unifier.proofs.stem.Stem.node.Goals as goal

pub returns-in-64 : goal.returns-in-64
unfolding atom_is
returns-in-64 c = rw c.in-64.is refl

pub returns-in-65 : goal.returns-in-65
unfolding atom_is
returns-in-65 c = rw c.in-65.is refl

pub returns-in-66 : goal.returns-in-66
unfolding atom_is
returns-in-66 c = rw c.in-66.is refl
