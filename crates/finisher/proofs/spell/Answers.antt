use Rattle.std.proofs.Common.{arith}
use Rattle.forms.specs.Forms.{test}
use Rattle.machine.specs.Machine.{stopped_of, bytes_of, over_of}
use Rattle.machine.specs.Still.{tests}
use Rattle.finisher.specs.Finisher.{spell_of}
use Rattle.finisher.proofs.Laws.{spells}
use Rattle.finisher.proofs.spell.Goals as goal

pub returns-then-walk-clause-value : goal.returns-then-walk-clause-value
unfolding spell_of
returns-then-walk-clause-value c = grind (arith, tests)

pub returns-in-Ok-clause-value : goal.returns-in-Ok-clause-value
unfolding stopped_of bytes_of over_of test
returns-in-Ok-clause-value c = let e = rw c.take-arena.ensures.value at c.put-laid.ensures.answer in grind (arith, spells c.args.walk.now c.args.t.0 c.put-laid.result c.put-laid.new.left c.put-laid.new.page c.if-walk.false e)

pub returns-in-Err-Full-clause-value : goal.returns-in-Err-Full-clause-value
unfolding stopped_of bytes_of over_of test
returns-in-Err-Full-clause-value c = let e = rw c.take-arena.ensures.value at c.put-laid.ensures.answer in grind (arith, spells c.args.walk.now c.args.t.0 c.put-laid.result c.put-laid.new.left c.put-laid.new.page c.if-walk.false e)

pub returns-in-Err-Spent-clause-value : goal.returns-in-Err-Spent-clause-value
unfolding stopped_of bytes_of over_of test
returns-in-Err-Spent-clause-value c = let e = rw c.take-arena.ensures.value at c.put-laid.ensures.answer in grind (arith, spells c.args.walk.now c.args.t.0 c.put-laid.result c.put-laid.new.left c.put-laid.new.page c.if-walk.false e)
