use Rattle.std.proofs.Common.{◌∙◌, sym, arith, rules}
use Rattle.assembly.specs.Entry.{oversized_call}
use Rattle.inference.proofs.Sizes.{sized-holds}
use Rattle.typecheck.proofs.Calls.{infer_refused, infer_good}
use Rattle.typecheck.proofs.infer.Goals as goal

pub infer_formula-requires : goal.infer_formula-requires
infer_formula-requires c = (let z = (sized-holds _ _ _ _ _).1 (sym c.fits.ensures ∙ c.if-not-fits.false) in z.capacity_small)

pub returns-in-Err : goal.returns-in-Err
returns-in-Err c = infer_refused c.args.formula.now c.args.environment.now c.args.names c.args.capacity c.args.budget c.args.output.now c.args.work.now c.check_environment-tested.result c.check_environment-tested.ensures (λ i. omega (arith, c.type_inv.formula i)) (λ i. omega (arith, c.type_inv.environment i)) (search rules) (sym c.fits.ensures ∙ c.if-not-fits.false) _ c.refuse.result c.refuse.new.output c.refuse.new.work c.in-Err.is c.refuse.ensures c.refuse.auto.output

pub returns-in-Ok : goal.returns-in-Ok
returns-in-Ok c = infer_good c.args.formula.now c.args.environment.now c.args.names c.args.capacity c.args.budget c.args.output.now c.args.work.now c.check_environment-tested.result c.check_environment-tested.ensures (λ i. omega (arith, c.type_inv.formula i)) (λ i. omega (arith, c.type_inv.environment i)) (search rules) (sym c.fits.ensures ∙ c.if-not-fits.false) c.infer_formula.result c.infer_formula.new.output c.infer_formula.new.work c.in-Ok.is c.infer_formula.ensures c.infer_formula.auto.output

pub returns-then-not-fits : goal.returns-then-not-fits
returns-then-not-fits c = oversized_call c.args.formula.now c.args.environment.now c.args.names c.args.capacity c.args.budget c.args.output.now c.args.work.now (sym c.fits.ensures ∙ c.if-not-fits.true)
