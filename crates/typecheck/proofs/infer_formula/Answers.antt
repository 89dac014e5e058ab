use Rattle.std.proofs.Common.{◌∙◌, sym}
use Rattle.typecheck.proofs.Calls.{formula-refused, formula-good}
use Rattle.typecheck.proofs.infer_formula.Goals as goal

pub returns-in-Err : goal.returns-in-Err
returns-in-Err c = formula-refused _ c.args.formula.now c.args.environment.now c.args.types.now c.args.capacity c.args.budget c.args.output.now c.args.work.now _ c.refuse.result c.refuse.new.output c.refuse.new.work (sym c.check_formula.ensures ∙ c.in-Err.is) c.refuse.ensures

pub returns-in-Ok : goal.returns-in-Ok
returns-in-Ok c = formula-good _ c.args.formula.now c.args.environment.now c.args.types.now c.args.capacity c.args.budget c.args.output.now c.args.work.now c.walk-answer.result c.close.result c.walk-answer.new.output c.walk-answer.new.work c.close.new.output c.close.new.work (sym c.check_formula.ensures ∙ c.in-Ok.is) c.walk-answer.ensures c.walk-answer.auto.work c.close.ensures
