-- `write` meets each refusal in its order, and writes only once everything is known to fit.
use Rattle.std.proofs.Common.{arith, rules, ap, not, ◌∙◌, Err}
use Rattle.std.proofs.lemmas.Result.{err_from_is_err_and}
use Rattle.type_text.specs.Put.{lent-ready}
use Rattle.type_text.specs.Write.{write_table, write_position, write_fault, write_left-over, write_no_room, write_ready, write_done}
use Rattle.type_text.proofs.write.Goals as goal

pub returns-then-not-table_is_good-clause-value : goal.returns-then-not-table_is_good-clause-value
returns-then-not-table_is_good-clause-value c = (write_table c.args.bytes.now c.args.table.now c.args.page.now c.args.position _ c.table_is_good.ensures (ap not c.if-not-table_is_good.true)).0

pub returns-then-not-table_is_good-clause-page_after : goal.returns-then-not-table_is_good-clause-page_after
returns-then-not-table_is_good-clause-page_after c = (write_table c.args.bytes.now c.args.table.now c.args.page.now c.args.position _ c.table_is_good.ensures (ap not c.if-not-table_is_good.true)).1

pub returns-then-position-page-clause-value : goal.returns-then-position-page-clause-value
returns-then-position-page-clause-value c = (write_position c.args.bytes.now c.args.table.now c.args.page.now c.args.position _ c.table_is_good.ensures (ap not c.if-not-table_is_good.false) (search rules)).0

pub returns-then-position-page-clause-page_after : goal.returns-then-position-page-clause-page_after
returns-then-position-page-clause-page_after c = (write_position c.args.bytes.now c.args.table.now c.args.page.now c.args.position _ c.table_is_good.ensures (ap not c.if-not-table_is_good.false) (search rules)).1

pub returns-in_err-measured-clause-value : goal.returns-in_err-measured-clause-value
returns-in_err-measured-clause-value c = let p = err_from_is_err_and c.from_residual.result c.from_residual.ensures.1 in (write_fault c.args.bytes.now c.args.table.now c.args.page.now c.args.position _ c.table_is_good.ensures (ap not c.if-not-table_is_good.false) (omega (arith, c.if-position-page.false)) _ c.count_names.ensures _ c.measure.ensures _ c.from_residual.result c.in_err-measured.was (p.1 ∙ ap Err p.2)).0

pub returns-in_err-measured-clause-page_after : goal.returns-in_err-measured-clause-page_after
returns-in_err-measured-clause-page_after c = let p = err_from_is_err_and c.from_residual.result c.from_residual.ensures.1 in (write_fault c.args.bytes.now c.args.table.now c.args.page.now c.args.position _ c.table_is_good.ensures (ap not c.if-not-table_is_good.false) (omega (arith, c.if-position-page.false)) _ c.count_names.ensures _ c.measure.ensures _ c.from_residual.result c.in_err-measured.was (p.1 ∙ ap Err p.2)).1

pub returns-then-measured-bytes-clause-value : goal.returns-then-measured-bytes-clause-value
returns-then-measured-bytes-clause-value c = (write_left-over c.args.bytes.now c.args.table.now c.args.page.now c.args.position _ c.table_is_good.ensures (ap not c.if-not-table_is_good.false) (omega (arith, c.if-position-page.false)) _ c.count_names.ensures _ c.measure.ensures _ c.in_ok-measured.was c.if-measured-bytes.true).0

pub returns-then-measured-bytes-clause-page_after : goal.returns-then-measured-bytes-clause-page_after
returns-then-measured-bytes-clause-page_after c = (write_left-over c.args.bytes.now c.args.table.now c.args.page.now c.args.position _ c.table_is_good.ensures (ap not c.if-not-table_is_good.false) (omega (arith, c.if-position-page.false)) _ c.count_names.ensures _ c.measure.ensures _ c.in_ok-measured.was c.if-measured-bytes.true).1

pub returns-then-is_none-clause-value : goal.returns-then-is_none-clause-value
returns-then-is_none-clause-value c = (write_no_room c.args.bytes.now c.args.table.now c.args.page.now c.args.position _ c.table_is_good.ensures (ap not c.if-not-table_is_good.false) (omega (arith, c.if-position-page.false)) _ c.count_names.ensures _ c.measure.ensures _ c.in_ok-measured.was c.if-measured-bytes.false c.if-is_none.ensures).0

pub returns-then-is_none-clause-page_after : goal.returns-then-is_none-clause-page_after
returns-then-is_none-clause-page_after c = (write_no_room c.args.bytes.now c.args.table.now c.args.page.now c.args.position _ c.table_is_good.ensures (ap not c.if-not-table_is_good.false) (omega (arith, c.if-position-page.false)) _ c.count_names.ensures _ c.measure.ensures _ c.in_ok-measured.was c.if-measured-bytes.false c.if-is_none.ensures).1

pub put-put-requires : goal.put-put-requires
put-put-requires c = lent-ready c.args.page.now (write_ready c.args.bytes.now c.args.table.now c.args.page.now c.args.position _ c.table_is_good.ensures (ap not c.if-not-table_is_good.false) (omega (arith, c.if-position-page.false)) _ c.count_names.ensures _ c.measure.ensures _ c.in_ok-measured.was c.if-measured-bytes.false c.if-is_none.ensures)

pub returns-clause-value : goal.returns-clause-value
returns-clause-value c = (write_done c.args.bytes.now c.args.table.now c.args.page.now c.args.position _ c.table_is_good.ensures (ap not c.if-not-table_is_good.false) (omega (arith, c.if-position-page.false)) _ c.count_names.ensures _ c.measure.ensures _ c.in_ok-measured.was c.if-measured-bytes.false c.if-is_none.ensures _ _ _ c.put-put.ensures).0

pub returns-clause-page_after : goal.returns-clause-page_after
returns-clause-page_after c = (write_done c.args.bytes.now c.args.table.now c.args.page.now c.args.position _ c.table_is_good.ensures (ap not c.if-not-table_is_good.false) (omega (arith, c.if-position-page.false)) _ c.count_names.ensures _ c.measure.ensures _ c.in_ok-measured.was c.if-measured-bytes.false c.if-is_none.ensures _ _ _ c.put-put.ensures).1
