-- `scan_operand` and `scan_product` follow the parse. The depth left falls from a product to the operands inside its brackets; × is a loop.
use Rattle.std.proofs.Common.{ap, ◌∙◌, Some}
use Rattle.std.proofs.lemmas.Result.{err_from_is_err_and}
use borrow.Enum.Refused.{opened}
use Rattle.type_text.proofs.Laws.{operand_else, times_else}
use Rattle.type_grammar.specs.Parse.{operand_by}
use Rattle.type_text.specs.Scan.{scan_on, operand-deep, operand-leaf, operand-none, power-stop, power-open, power-done, open-stop, open-open, open-done, product-stop, product-go, times-other, times-stop, times-go, times-within}
use Rattle.type_text.proofs.reader.Reader.+scanning.Goals as goal

pub scan_operand-returns-then-c-eq0 : goal.scan_operand-returns-then-c-eq0
scan_operand-returns-then-c-eq0 t c = operand-deep _ _ _ _ _ c.if-c-eq0.true

pub scan_operand-returns-in_err-found-in-Some-Power : goal.scan_operand-returns-in_err-found-in-Some-Power
scan_operand-returns-in_err-found-in-Some-Power t c = let p = err_from_is_err_and c.from_residual.result c.from_residual.ensures.1 in rw (p.1, p.2) (power-stop _ _ _ _ c.if-c-eq0.false _ c.token.ensures c.args.room _ (c.in-Some-Power.is ∙ ap Some c.in-Some-Power.field-0-is) _ c.spend-in-Some-Power.ensures _ c.scan_product.ensures _ c.in_err-found-in-Some-Power.was)

pub scan_operand-returns-in_err-close-in-Some-Power : goal.scan_operand-returns-in_err-close-in-Some-Power
scan_operand-returns-in_err-close-in-Some-Power t c = let p = err_from_is_err_and c.from_residual-in_err-close-in-Some-Power.result c.from_residual-in_err-close-in-Some-Power.ensures.1 in rw (p.1, p.2) (power-open _ _ _ _ c.if-c-eq0.false _ c.token.ensures c.args.room _ (c.in-Some-Power.is ∙ ap Some c.in-Some-Power.field-0-is) _ c.spend-in-Some-Power.ensures _ c.scan_product.ensures _ c.in_ok-found-in-Some-Power.was _ c.close.ensures _ c.in_err-close-in-Some-Power.was)

pub scan_operand-returns-in_err-found-in-Some-Open : goal.scan_operand-returns-in_err-found-in-Some-Open
scan_operand-returns-in_err-found-in-Some-Open t c = let p = err_from_is_err_and c.from_residual-in_err-found-in-Some-Open.result c.from_residual-in_err-found-in-Some-Open.ensures.1 in rw (p.1, p.2) (open-stop _ _ _ _ c.if-c-eq0.false _ c.token.ensures c.args.room _ (c.in-Some-Open.is ∙ ap Some c.in-Some-Open.field-0-is) _ c.scan_product-in-Some-Open.ensures _ c.in_err-found-in-Some-Open.was)

pub scan_operand-returns-in_err-close-in-Some-Open : goal.scan_operand-returns-in_err-close-in-Some-Open
scan_operand-returns-in_err-close-in-Some-Open t c = let p = err_from_is_err_and c.from_residual-in_err-close-in-Some-Open.result c.from_residual-in_err-close-in-Some-Open.ensures.1 in rw (p.1, p.2) (open-open _ _ _ _ c.if-c-eq0.false _ c.token.ensures c.args.room _ (c.in-Some-Open.is ∙ ap Some c.in-Some-Open.field-0-is) _ c.scan_product-in-Some-Open.ensures _ c.in_ok-found-in-Some-Open.was _ c.close-in-Some-Open.ensures _ c.in_err-close-in-Some-Open.was)

pub scan_operand-returns-in-Some-Leaf : goal.scan_operand-returns-in-Some-Leaf
scan_operand-returns-in-Some-Leaf t c = operand-leaf _ _ _ _ c.if-c-eq0.false _ c.token.ensures c.args.room _ _ _ _ (c.in-Some-Leaf.is ∙ ap Some c.in-Some-Leaf.field-0-is) c.atom_record_width.ensures c.spend.ensures

pub scan_operand-returns-in_ok-close-in-Some-Power : goal.scan_operand-returns-in_ok-close-in-Some-Power
scan_operand-returns-in_ok-close-in-Some-Power t c = power-done _ _ _ _ c.if-c-eq0.false _ c.token.ensures c.args.room _ (c.in-Some-Power.is ∙ ap Some c.in-Some-Power.field-0-is) _ c.spend-in-Some-Power.ensures _ c.scan_product.ensures _ c.in_ok-found-in-Some-Power.was _ c.close.ensures _ _ c.in_ok-close-in-Some-Power.was c.deeper.ensures

pub scan_operand-returns-in_ok-close-in-Some-Open : goal.scan_operand-returns-in_ok-close-in-Some-Open
scan_operand-returns-in_ok-close-in-Some-Open t c = open-done _ _ _ _ c.if-c-eq0.false _ c.token.ensures c.args.room _ (c.in-Some-Open.is ∙ ap Some c.in-Some-Open.field-0-is) _ c.scan_product-in-Some-Open.ensures _ c.in_ok-found-in-Some-Open.was _ c.close-in-Some-Open.ensures _ c.in_ok-close-in-Some-Open.was

pub scan_operand-returns-in_default : goal.scan_operand-returns-in_default
scan_operand-returns-in_default t c = operand-none _ _ _ _ c.if-c-eq0.false _ c.token.ensures c.args.room (operand_else _ _ _ _ _ c.in_default.in_default-own.keys4 (cc))

pub scan_operand-returns-in_default-2 : goal.scan_operand-returns-in_default-2
unfolding operand_by
scan_operand-returns-in_default-2 t c = operand-none _ _ _ _ c.if-c-eq0.false _ c.token.ensures c.args.room (ap (operand_by _ _ _) c.in_default.is)

pub scan_product-returns-in_err-found : goal.scan_product-returns-in_err-found
scan_product-returns-in_err-found t c = let p = err_from_is_err_and c.from_residual.result c.from_residual.ensures.1 in rw (p.1, p.2) (product-stop _ _ _ _ _ _ c.scan_operand.ensures _ c.in_err-found.was)

pub scan_product-loop-q-init : goal.scan_product-loop-q-init
scan_product-loop-q-init t c = product-go _ _ _ _ _ _ c.scan_operand.ensures _ c.in_ok-found.was

pub scan_product-returns-in_err-next : goal.scan_product-returns-in_err-next
scan_product-returns-in_err-next t c = let p = err_from_is_err_and c.from_residual-in_err-next.result c.from_residual-in_err-next.ensures.1 in rw (p.1, p.2) (times-stop _ _ _ _ _ _ _ _ c.token.ensures _ (c.in-Some-Times.is ∙ ap Some c.in-Some-Times.field-0-is) c.loop-q.invariant _ c.spend.ensures _ c.scan_operand-in-Some-Times.ensures _ c.in_err-next.was)

pub scan_product-loop-q-preserved : goal.scan_product-loop-q-preserved
scan_product-loop-q-preserved t c = times-go _ _ _ _ _ _ _ _ c.token.ensures _ (c.in-Some-Times.is ∙ ap Some c.in-Some-Times.field-0-is) c.loop-q.invariant _ c.spend.ensures _ c.scan_operand-in-Some-Times.ensures _ c.in_ok-next.was _ _ c.max.ensures c.deeper.ensures

pub scan_product-loop-q-smaller : goal.scan_product-loop-q-smaller
scan_product-loop-q-smaller t c = times-within _ _ _ _ _ _ _ _ c.token.ensures _ (c.in-Some-Times.is ∙ ap Some c.in-Some-Times.field-0-is) c.loop-q.invariant _ c.spend.ensures _ c.scan_operand-in-Some-Times.ensures _ c.in_ok-next.was

pub scan_product-returns-in_default : goal.scan_product-returns-in_default
scan_product-returns-in_default t c = times-other _ _ _ _ _ _ _ _ c.token.ensures c.loop-q.invariant (times_else _ _ _ _ _ (opened c.in_default.in_default-own.keys2) (cc))

pub scan_product-returns-in_default-2 : goal.scan_product-returns-in_default-2
unfolding scan_on
scan_product-returns-in_default-2 t c = times-other _ _ _ _ _ _ _ _ c.token.ensures c.loop-q.invariant (λ next. ap (scan_on next _ _ _) c.in_default.is)
