use Rattle.std.proofs.Common.{arith}
use Rattle.forms.specs.Forms.{test}
use Rattle.machine.specs.Machine.{stopped_of}
use Rattle.machine.proofs.Laws.{makes}
use Rattle.machine.proofs.Machine.make.Goals as goal

pub returns-in_err-r-clause-value : goal.returns-in_err-r-clause-value
unfolding stopped_of test
returns-in_err-r-clause-value c = grind (arith, makes c.args.self.now c.args.node c.make.result c.make.new.words c.make.ensures)

pub returns-clause-value : goal.returns-clause-value
returns-clause-value c = grind (arith, makes c.args.self.now c.args.node c.make.result c.make.new.words c.make.ensures)
