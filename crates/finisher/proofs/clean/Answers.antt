use Rattle.std.proofs.Common.{arith}
use Rattle.std.proofs.lemmas.Grind.{common_steps}
use Rattle.forms.specs.Forms.{test}
use Rattle.finisher.specs.Finisher.{clean_of}
use Rattle.finisher.proofs.clean.Goals as goal

pub returns-then-not-walk : goal.returns-then-not-walk
unfolding clean_of test
returns-then-not-walk c = grind (arith, common_steps)

pub returns-else-not-walk : goal.returns-else-not-walk
unfolding clean_of test
returns-else-not-walk c = grind (arith, common_steps)
