use Rattle.std.proofs.Common.{sym, ap}
use Rattle.forms.specs.Forms.{test}
use Rattle.operators.specs.Operators.{check_unary_of}
use Rattle.operators.proofs.check_unary.Goals as goal

pub returns-in-9 : goal.returns-in-9
unfolding check_unary_of test
returns-in-9 c = sym (ap check_unary_of c.in-9.is)
