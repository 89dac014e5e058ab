use Rattle.unifier_trial.specs.Numbers.{unified_as}
use Rattle.unifier_trial.proofs.trial_unify.Goals as goal

pub returns-in-Done : goal.returns-in-Done
unfolding unified_as
returns-in-Done c = rw c.in-Done.is at c.in-Ok.ensures.answer

pub returns-in-Mismatch : goal.returns-in-Mismatch
unfolding unified_as
returns-in-Mismatch c = rw c.in-Mismatch.is at c.in-Ok.ensures.answer

pub returns-in-Circular : goal.returns-in-Circular
unfolding unified_as
returns-in-Circular c = rw c.in-Circular.is at c.in-Ok.ensures.answer

pub returns-in-Err-Spent : goal.returns-in-Err-Spent
unfolding unified_as
returns-in-Err-Spent c = rw c.in-Err-Spent.field-0-is at c.in-Err-Spent.ensures.answer

pub returns-in-Err-Broken : goal.returns-in-Err-Broken
unfolding unified_as
returns-in-Err-Broken c = rw c.in-Err-Broken.field-0-is at c.in-Err-Broken.ensures.answer
