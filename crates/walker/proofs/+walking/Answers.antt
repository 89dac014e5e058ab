use Rattle.std.proofs.Common.{arith}
use Rattle.forms.specs.Forms.{test, then}
use Rattle.machine.specs.Machine.{placed_of}
use Rattle.machine.specs.Scripts.{parts_of}
use Rattle.walker.specs.Walk.{body_by}
use Rattle.walker.proofs.+walking.Goals as goal

pub body-returns-in-Atomic-clause-value : goal.body-returns-in-Atomic-clause-value
unfolding body_by parts_of placed_of test then
body-returns-in-Atomic-clause-value t c = grind arith
