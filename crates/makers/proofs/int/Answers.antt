use Rattle.types.specs.Code.{atom_is}
use Rattle.makers.proofs.int.Goals as goal

pub returns : goal.returns
unfolding atom_is
returns c = c.make.ensures
