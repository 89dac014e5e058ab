-- `read` meets each refusal in its order, and writes only once everything is known to fit.
use Rattle.std.proofs.Common.{arith, ap, not, ◌∙◌, Err}
use Rattle.std.proofs.lemmas.Result.{err_from_is_err_and}
use Rattle.type_text.specs.Read.{read_table, read-stop, read-left-over, read-deep, read_no_room, read-ready, read_done}
use Rattle.type_text.proofs.read.Goals as goal

pub returns-then-not-table_is_good-clause-value : goal.returns-then-not-table_is_good-clause-value
returns-then-not-table_is_good-clause-value c = (read_table c.args.text.now c.args.table.now c.args.page.now _ c.table_is_good.ensures (ap not c.if-not-table_is_good.true)).0

pub returns-then-not-table_is_good-clause-page_after : goal.returns-then-not-table_is_good-clause-page_after
returns-then-not-table_is_good-clause-page_after c = (read_table c.args.text.now c.args.table.now c.args.page.now _ c.table_is_good.ensures (ap not c.if-not-table_is_good.true)).1

pub returns-in_err-found-clause-value : goal.returns-in_err-found-clause-value
returns-in_err-found-clause-value c = let p = err_from_is_err_and c.from_residual.result c.from_residual.ensures.1 in (read-stop c.args.text.now c.args.table.now c.args.page.now _ c.table_is_good.ensures (ap not c.if-not-table_is_good.false) _ _ c.new-c.ensures _ c.scan_product.ensures _ c.from_residual.result c.in_err-found.was (p.1 ∙ ap Err p.2)).0

pub returns-in_err-found-clause-page_after : goal.returns-in_err-found-clause-page_after
returns-in_err-found-clause-page_after c = let p = err_from_is_err_and c.from_residual.result c.from_residual.ensures.1 in (read-stop c.args.text.now c.args.table.now c.args.page.now _ c.table_is_good.ensures (ap not c.if-not-table_is_good.false) _ _ c.new-c.ensures _ c.scan_product.ensures _ c.from_residual.result c.in_err-found.was (p.1 ∙ ap Err p.2)).1

pub returns-then-found-text-clause-value : goal.returns-then-found-text-clause-value
returns-then-found-text-clause-value c = (read-left-over c.args.text.now c.args.table.now c.args.page.now _ c.table_is_good.ensures (ap not c.if-not-table_is_good.false) _ _ c.new-c.ensures _ c.scan_product.ensures _ c.in_ok-found.was c.if-found-text.true).0

pub returns-then-found-text-clause-page_after : goal.returns-then-found-text-clause-page_after
returns-then-found-text-clause-page_after c = (read-left-over c.args.text.now c.args.table.now c.args.page.now _ c.table_is_good.ensures (ap not c.if-not-table_is_good.false) _ _ c.new-c.ensures _ c.scan_product.ensures _ c.in_ok-found.was c.if-found-text.true).1

pub returns-then-found-gt-MAX_DEPTH-clause-value : goal.returns-then-found-gt-MAX_DEPTH-clause-value
returns-then-found-gt-MAX_DEPTH-clause-value c = (read-deep c.args.text.now c.args.table.now c.args.page.now _ c.table_is_good.ensures (ap not c.if-not-table_is_good.false) _ _ c.new-c.ensures _ c.scan_product.ensures _ c.in_ok-found.was c.if-found-text.false (omega (arith, c.if-found-gt-MAX_DEPTH.true))).0

pub returns-then-found-gt-MAX_DEPTH-clause-page_after : goal.returns-then-found-gt-MAX_DEPTH-clause-page_after
returns-then-found-gt-MAX_DEPTH-clause-page_after c = (read-deep c.args.text.now c.args.table.now c.args.page.now _ c.table_is_good.ensures (ap not c.if-not-table_is_good.false) _ _ c.new-c.ensures _ c.scan_product.ensures _ c.in_ok-found.was c.if-found-text.false (omega (arith, c.if-found-gt-MAX_DEPTH.true))).1

pub returns-then-is_none-clause-value : goal.returns-then-is_none-clause-value
returns-then-is_none-clause-value c = (read_no_room c.args.text.now c.args.table.now c.args.page.now _ c.table_is_good.ensures (ap not c.if-not-table_is_good.false) _ _ c.new-c.ensures _ c.scan_product.ensures _ c.in_ok-found.was c.if-found-text.false (omega (arith, c.if-found-gt-MAX_DEPTH.false)) c.if-is_none.ensures).0

pub returns-then-is_none-clause-page_after : goal.returns-then-is_none-clause-page_after
returns-then-is_none-clause-page_after c = (read_no_room c.args.text.now c.args.table.now c.args.page.now _ c.table_is_good.ensures (ap not c.if-not-table_is_good.false) _ _ c.new-c.ensures _ c.scan_product.ensures _ c.in_ok-found.was c.if-found-text.false (omega (arith, c.if-found-gt-MAX_DEPTH.false)) c.if-is_none.ensures).1

pub lay_product-laid-requires : goal.lay_product-laid-requires
lay_product-laid-requires c = read-ready c.args.text.now c.args.table.now c.args.page.now _ c.table_is_good.ensures (ap not c.if-not-table_is_good.false) _ _ c.new-c.ensures _ c.scan_product.ensures _ c.in_ok-found.was c.if-found-text.false (omega (arith, c.if-found-gt-MAX_DEPTH.false)) c.if-is_none.ensures

pub returns-clause-value : goal.returns-clause-value
returns-clause-value c = (read_done c.args.text.now c.args.table.now c.args.page.now _ c.table_is_good.ensures (ap not c.if-not-table_is_good.false) _ _ c.new-c.ensures _ c.scan_product.ensures _ c.in_ok-found.was c.if-found-text.false (omega (arith, c.if-found-gt-MAX_DEPTH.false)) c.if-is_none.ensures _ _ _ c.lay_product-laid.ensures).0

pub returns-clause-page_after : goal.returns-clause-page_after
returns-clause-page_after c = (read_done c.args.text.now c.args.table.now c.args.page.now _ c.table_is_good.ensures (ap not c.if-not-table_is_good.false) _ _ c.new-c.ensures _ c.scan_product.ensures _ c.in_ok-found.was c.if-found-text.false (omega (arith, c.if-found-gt-MAX_DEPTH.false)) c.if-is_none.ensures _ _ _ c.lay_product-laid.ensures).1
