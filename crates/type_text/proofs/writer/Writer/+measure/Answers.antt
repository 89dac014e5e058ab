-- `measure` follows `type_at` level by level and spends each operand's bytes; the levels left are the number that falls.
use Rattle.std.proofs.Common.{sym, ap, ◌∙◌, Some}
use Rattle.std.proofs.lemmas.Result.{err_from_is_err_and}
use Rattle.types.specs.Steps.{type-deep, type-atom, type-power, type-product}
use Rattle.type_text.specs.Measure.{measured_as, measured_missing, measured_deep, measured_atom, measured_power, measured_left-stop, measured_product}
use Rattle.type_text.proofs.writer.Writer.+measure.Goals as goal

pub returns-in_err-head : goal.returns-in_err-head
returns-in_err-head t c = let p = err_from_is_err_and c.from_residual.result c.from_residual.ensures.1 in rw (p.1, p.2) (measured_missing _ _ _ _ _ _ _ _ c.head_at.ensures _ (sym c.ok_or.ensures.value ∙ c.in_err-head.was))

pub returns-then-left-eq0 : goal.returns-then-left-eq0
returns-then-left-eq0 t c = measured_as _ _ _ _ _ _ (type-deep _ _ _ _ _ c.head_at.ensures c.if-left-eq0.true _ c.in_ok-head.ensures.ok_part) (measured_deep _ _ _ _)

pub returns-in_err-first-in-Product : goal.returns-in_err-first-in-Product
returns-in_err-first-in-Product t c = let p = err_from_is_err_and c.from_residual-in_err-first-in-Product.result c.from_residual-in_err-first-in-Product.ensures.1 in rw (p.1, p.2) (measured_as _ _ _ _ _ _ (type-product _ _ _ _ _ c.head_at.ensures c.if-left-eq0.false _ (c.in_ok-head.ensures.ok_part ∙ ap Some c.in-Product.is)) (measured_left-stop _ _ _ _ _ _ _ c.signs.ensures c.spend-in-Product.ensures c.measure-in-Product.ensures _ _ c.in_err-first-in-Product.was))

pub returns-in-Atomic : goal.returns-in-Atomic
returns-in-Atomic t c = measured_as _ _ _ _ _ _ (type-atom _ _ _ _ _ c.head_at.ensures c.if-left-eq0.false _ _ (c.in_ok-head.ensures.ok_part ∙ ap Some c.in-Atomic.is)) (measured_atom _ _ _ _ _ _ _ c.atom_width.ensures c.spend.ensures)

pub returns-in-Power : goal.returns-in-Power
returns-in-Power t c = measured_as _ _ _ _ _ _ (type-power _ _ _ _ _ c.head_at.ensures c.if-left-eq0.false _ (c.in_ok-head.ensures.ok_part ∙ ap Some c.in-Power.is)) (measured_power _ _ _ _ _ _ c.spend-in-Power.ensures c.measure.ensures)

pub returns-in_ok-first-in-Product : goal.returns-in_ok-first-in-Product
returns-in_ok-first-in-Product t c = measured_as _ _ _ _ _ _ (type-product _ _ _ _ _ c.head_at.ensures c.if-left-eq0.false _ (c.in_ok-head.ensures.ok_part ∙ ap Some c.in-Product.is)) (measured_product _ _ _ _ _ _ _ c.signs.ensures c.spend-in-Product.ensures c.measure-in-Product.ensures _ _ _ c.in_ok-first-in-Product.was c.measure-in-Product-2.ensures)
