use Rattle.std.proofs.Common.{sym, ap}
use Rattle.forms.specs.Forms.{test}
use Rattle.operators.specs.Operators.{check_atomic_of}
use Rattle.operators.proofs.check_atomic.Goals as goal

pub returns-in-10 : goal.returns-in-10
unfolding check_atomic_of test
returns-in-10 c = sym (ap check_atomic_of c.in-10.is)
