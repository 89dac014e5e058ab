use Rattle.std.proofs.Common.{sym, ap}
use Rattle.forms.specs.Forms.{test}
use Rattle.operators.specs.Operators.{check_binary_of}
use Rattle.operators.proofs.check_binary.Goals as goal

pub returns-in-20 : goal.returns-in-20
unfolding check_binary_of test
returns-in-20 c = sym (ap check_binary_of c.in-20.is)

pub returns-in-25 : goal.returns-in-25
unfolding check_binary_of test
returns-in-25 c = sym (ap check_binary_of c.in-25.is)
