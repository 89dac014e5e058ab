use Rattle.std.proofs.Common.{arith}
use Rattle.forms.specs.Forms.{test}
use Rattle.machine.specs.Machine.{stopped_of, left_of}
use Rattle.machine.specs.Seen.{problem_number, name_number}
use Rattle.finisher.proofs.Laws.{settles}
use Rattle.finisher.proofs.settle.Goals as goal

pub returns-in_err-solved-clause-value : goal.returns-in_err-solved-clause-value
unfolding stopped_of left_of test
returns-in_err-solved-clause-value c = grind (arith, settles c.args.walk.now c.args.t.0 (problem_number c.args.problem) c.args.place.0 (name_number c.args.name) c.solved.result c.solved.new.left c.solved.ensures.answer)

pub returns-then-not-solved-clause-value : goal.returns-then-not-solved-clause-value
unfolding stopped_of left_of test
returns-then-not-solved-clause-value c = grind (arith, settles c.args.walk.now c.args.t.0 (problem_number c.args.problem) c.args.place.0 (name_number c.args.name) c.solved.result c.solved.new.left c.solved.ensures.answer)

pub returns-else-not-solved-clause-value : goal.returns-else-not-solved-clause-value
unfolding stopped_of left_of test
returns-else-not-solved-clause-value c = grind (arith, settles c.args.walk.now c.args.t.0 (problem_number c.args.problem) c.args.place.0 (name_number c.args.name) c.solved.result c.solved.new.left c.solved.ensures.answer)
