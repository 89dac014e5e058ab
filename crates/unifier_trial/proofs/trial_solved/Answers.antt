use Rattle.unifier_trial.specs.Numbers.{told_as}
use Rattle.unifier_trial.proofs.trial_solved.Goals as goal

pub returns-then-known : goal.returns-then-known
unfolding told_as
returns-then-known c = rw c.if-known.true at c.in-Ok.ensures.answer

pub returns-else-known : goal.returns-else-known
unfolding told_as
returns-else-known c = rw c.if-known.false at c.in-Ok.ensures.answer

pub returns-in-Err-Spent : goal.returns-in-Err-Spent
unfolding told_as
returns-in-Err-Spent c = rw c.in-Err-Spent.field-0-is at c.in-Err-Spent.ensures.answer

pub returns-in-Err-Broken : goal.returns-in-Err-Broken
unfolding told_as
returns-in-Err-Broken c = rw c.in-Err-Broken.field-0-is at c.in-Err-Broken.ensures.answer
