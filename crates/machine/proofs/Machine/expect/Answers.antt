use Rattle.std.proofs.Common.{arith}
use Rattle.forms.specs.Forms.{test}
use Rattle.machine.specs.Machine.{stopped_of, left_of}
use Rattle.machine.proofs.Laws.{expects}
use Rattle.machine.proofs.Machine.expect.Goals as goal

pub returns-in_err-verdict-clause-value : goal.returns-in_err-verdict-clause-value
unfolding stopped_of left_of test
returns-in_err-verdict-clause-value c = grind (arith, expects c.args.self.now c.args.a.0 c.args.b.0 c.args.place.0 c.unify.result c.unify.new.left c.unify.new.words c.unify.ensures.answer)

pub returns-in-Done-clause-value : goal.returns-in-Done-clause-value
unfolding stopped_of left_of test
returns-in-Done-clause-value c = grind (arith, expects c.args.self.now c.args.a.0 c.args.b.0 c.args.place.0 c.unify.result c.unify.new.left c.unify.new.words c.unify.ensures.answer)

pub returns-in-Mismatch-clause-value : goal.returns-in-Mismatch-clause-value
unfolding stopped_of left_of test
returns-in-Mismatch-clause-value c = grind (arith, expects c.args.self.now c.args.a.0 c.args.b.0 c.args.place.0 c.unify.result c.unify.new.left c.unify.new.words c.unify.ensures.answer)

pub returns-in-Circular-clause-value : goal.returns-in-Circular-clause-value
unfolding stopped_of left_of test
returns-in-Circular-clause-value c = grind (arith, expects c.args.self.now c.args.a.0 c.args.b.0 c.args.place.0 c.unify.result c.unify.new.left c.unify.new.words c.unify.ensures.answer)
