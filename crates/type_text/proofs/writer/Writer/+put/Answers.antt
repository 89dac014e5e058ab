-- `put` writes what `measure` counted. The number that falls is the levels left, a right operand coming before its own inside.
use Rattle.std.proofs.Common.{ap, arith, ◌∙◌, Some}
use Rattle.type_text.specs.Put.{weight, some_level, put-unknown, atom-fits, atom-end, power_nested, brackets_nested, nested_fits, nested_ready, nested_sum, nested_room, nested_end, product-ready, product-room, product-next, product-sum, product-end, lent-ready, lent-end}
use Rattle.type_text.proofs.writer.Writer.+put.Goals as goal

pub put_atom-n-requires : goal.put_atom-n-requires
put_atom-n-requires t c = atom-fits _ _ _ _ _ _ c.args.page.now _ c.head_at.ensures _ _ (c.in-Some-Atomic.is ∙ ap Some c.in-Some-Atomic.field-0-is) c.requires

pub copy-n-requires : goal.copy-n-requires
copy-n-requires t c = nested_fits _ _ _ _ _ _ c.args.page.now _ _ _ (power_nested _ _ _ _ _ _ c.args.page.now _ c.head_at.ensures _ (c.in-Some-Power.is ∙ ap Some c.in-Some-Power.field-0-is)) c.requires

pub overflow_sub-left : goal.overflow_sub-left
overflow_sub-left t c = omega (arith, some_level _ _ _ _ _ _ c.requires.stands)

pub put-w-requires : goal.put-w-requires
put-w-requires t c = (omega (arith, c.decreases, some_level _ _ _ _ _ _ c.requires.stands), lent-ready c.copy-n.new.page (nested_ready _ _ _ _ _ _ c.args.page.now _ _ _ (power_nested _ _ _ _ _ _ c.args.page.now _ c.head_at.ensures _ (c.in-Some-Power.is ∙ ap Some c.in-Some-Power.field-0-is)) c.requires _ _ c.copy-n.ensures))

pub overflow_add-m : goal.overflow_add-m
overflow_add-m t c = omega (arith, nested_sum _ _ _ _ _ _ c.args.page.now _ _ _ (power_nested _ _ _ _ _ _ c.args.page.now _ c.head_at.ensures _ (c.in-Some-Power.is ∙ ap Some c.in-Some-Power.field-0-is)) c.requires _ _ c.copy-n.ensures _ _ _ (lent-end c.copy-n.new.page (nested_ready _ _ _ _ _ _ c.args.page.now _ _ _ (power_nested _ _ _ _ _ _ c.args.page.now _ c.head_at.ensures _ (c.in-Some-Power.is ∙ ap Some c.in-Some-Power.field-0-is)) c.requires _ _ c.copy-n.ensures) _ _ _ c.put-w.ensures))

pub copy-k-requires : goal.copy-k-requires
copy-k-requires t c = nested_room _ _ _ _ _ _ c.args.page.now _ _ _ (power_nested _ _ _ _ _ _ c.args.page.now _ c.head_at.ensures _ (c.in-Some-Power.is ∙ ap Some c.in-Some-Power.field-0-is)) c.requires _ _ c.copy-n.ensures _ _ _ (lent-end c.copy-n.new.page (nested_ready _ _ _ _ _ _ c.args.page.now _ _ _ (power_nested _ _ _ _ _ _ c.args.page.now _ c.head_at.ensures _ (c.in-Some-Power.is ∙ ap Some c.in-Some-Power.field-0-is)) c.requires _ _ c.copy-n.ensures) _ _ _ c.put-w.ensures)

pub copy-n-requires-in-Right : goal.copy-n-requires-in-Right
copy-n-requires-in-Right t c = nested_fits _ _ _ _ _ _ c.args.page.now _ _ _ (brackets_nested _ _ _ _ _ _ c.args.page.now _ c.head_at.ensures _ (c.in-Some-Product.is ∙ ap Some c.in-Some-Product.field-0-is) c.in-Right.is) c.requires

pub put-w-requires-in-Right : goal.put-w-requires-in-Right
put-w-requires-in-Right t c = (omega (arith, c.decreases, ap weight c.in-Right.is), lent-ready c.copy-n-in-Right.new.page (nested_ready _ _ _ _ _ _ c.args.page.now _ _ _ (brackets_nested _ _ _ _ _ _ c.args.page.now _ c.head_at.ensures _ (c.in-Some-Product.is ∙ ap Some c.in-Some-Product.field-0-is) c.in-Right.is) c.requires _ _ c.copy-n-in-Right.ensures))

pub overflow_add-m-in-Right : goal.overflow_add-m-in-Right
overflow_add-m-in-Right t c = omega (arith, nested_sum _ _ _ _ _ _ c.args.page.now _ _ _ (brackets_nested _ _ _ _ _ _ c.args.page.now _ c.head_at.ensures _ (c.in-Some-Product.is ∙ ap Some c.in-Some-Product.field-0-is) c.in-Right.is) c.requires _ _ c.copy-n-in-Right.ensures _ _ _ (lent-end c.copy-n-in-Right.new.page (nested_ready _ _ _ _ _ _ c.args.page.now _ _ _ (brackets_nested _ _ _ _ _ _ c.args.page.now _ c.head_at.ensures _ (c.in-Some-Product.is ∙ ap Some c.in-Some-Product.field-0-is) c.in-Right.is) c.requires _ _ c.copy-n-in-Right.ensures) _ _ _ c.put-w-in-Right.ensures))

pub copy-k-requires-in-Right : goal.copy-k-requires-in-Right
copy-k-requires-in-Right t c = nested_room _ _ _ _ _ _ c.args.page.now _ _ _ (brackets_nested _ _ _ _ _ _ c.args.page.now _ c.head_at.ensures _ (c.in-Some-Product.is ∙ ap Some c.in-Some-Product.field-0-is) c.in-Right.is) c.requires _ _ c.copy-n-in-Right.ensures _ _ _ (lent-end c.copy-n-in-Right.new.page (nested_ready _ _ _ _ _ _ c.args.page.now _ _ _ (brackets_nested _ _ _ _ _ _ c.args.page.now _ c.head_at.ensures _ (c.in-Some-Product.is ∙ ap Some c.in-Some-Product.field-0-is) c.in-Right.is) c.requires _ _ c.copy-n-in-Right.ensures) _ _ _ c.put-w-in-Right.ensures)

pub overflow_sub-left-in-Plain : goal.overflow_sub-left-in-Plain
overflow_sub-left-in-Plain t c = omega (arith, some_level _ _ _ _ _ _ c.requires.stands)

pub put-a-requires : goal.put-a-requires
put-a-requires t c = (omega (arith, c.decreases, some_level _ _ _ _ _ _ c.requires.stands), product-ready _ _ _ _ _ _ c.args.page.now _ c.head_at.ensures _ (c.in-Some-Product.is ∙ ap Some c.in-Some-Product.field-0-is) c.in-Plain.is c.requires)

pub copy-k-requires-in-Plain : goal.copy-k-requires-in-Plain
copy-k-requires-in-Plain t c = product-room _ _ _ _ _ _ c.args.page.now _ c.head_at.ensures _ (c.in-Some-Product.is ∙ ap Some c.in-Some-Product.field-0-is) c.in-Plain.is c.requires _ _ _ c.put-a.ensures

pub overflow_sub-left-in-Plain-2 : goal.overflow_sub-left-in-Plain-2
overflow_sub-left-in-Plain-2 t c = omega (arith, some_level _ _ _ _ _ _ c.requires.stands)

pub put-b-requires : goal.put-b-requires
put-b-requires t c = (omega (arith, c.decreases, some_level _ _ _ _ _ _ c.requires.stands), lent-ready c.copy-k-in-Plain.new.page (product-next _ _ _ _ _ _ c.args.page.now _ c.head_at.ensures _ (c.in-Some-Product.is ∙ ap Some c.in-Some-Product.field-0-is) c.in-Plain.is c.requires _ _ _ c.put-a.ensures _ _ c.copy-k-in-Plain.ensures))

pub overflow_add-result-in-Plain : goal.overflow_add-result-in-Plain
overflow_add-result-in-Plain t c = omega (arith, product-sum _ _ _ _ _ _ c.args.page.now _ c.head_at.ensures _ (c.in-Some-Product.is ∙ ap Some c.in-Some-Product.field-0-is) c.in-Plain.is c.requires _ _ _ c.put-a.ensures _ _ c.copy-k-in-Plain.ensures _ _ _ (lent-end c.copy-k-in-Plain.new.page (product-next _ _ _ _ _ _ c.args.page.now _ c.head_at.ensures _ (c.in-Some-Product.is ∙ ap Some c.in-Some-Product.field-0-is) c.in-Plain.is c.requires _ _ _ c.put-a.ensures _ _ c.copy-k-in-Plain.ensures) _ _ _ c.put-b.ensures))

pub returns-in-None : goal.returns-in-None
returns-in-None t c = put-unknown _ _ _ _ _ _ c.args.page.now _ c.head_at.ensures c.in-None.is c.requires

pub returns-in-Some-Atomic : goal.returns-in-Some-Atomic
returns-in-Some-Atomic t c = atom-end _ _ _ _ _ _ c.args.page.now _ c.head_at.ensures _ _ (c.in-Some-Atomic.is ∙ ap Some c.in-Some-Atomic.field-0-is) _ _ c.put_atom-n.ensures

pub returns-in-Some-Power : goal.returns-in-Some-Power
returns-in-Some-Power t c = nested_end _ _ _ _ _ _ c.args.page.now _ _ _ (power_nested _ _ _ _ _ _ c.args.page.now _ c.head_at.ensures _ (c.in-Some-Power.is ∙ ap Some c.in-Some-Power.field-0-is)) c.requires _ _ c.copy-n.ensures _ _ _ (lent-end c.copy-n.new.page (nested_ready _ _ _ _ _ _ c.args.page.now _ _ _ (power_nested _ _ _ _ _ _ c.args.page.now _ c.head_at.ensures _ (c.in-Some-Power.is ∙ ap Some c.in-Some-Power.field-0-is)) c.requires _ _ c.copy-n.ensures) _ _ _ c.put-w.ensures) _ _ c.copy-k.ensures

pub returns-in-Right : goal.returns-in-Right
returns-in-Right t c = nested_end _ _ _ _ _ _ c.args.page.now _ _ _ (brackets_nested _ _ _ _ _ _ c.args.page.now _ c.head_at.ensures _ (c.in-Some-Product.is ∙ ap Some c.in-Some-Product.field-0-is) c.in-Right.is) c.requires _ _ c.copy-n-in-Right.ensures _ _ _ (lent-end c.copy-n-in-Right.new.page (nested_ready _ _ _ _ _ _ c.args.page.now _ _ _ (brackets_nested _ _ _ _ _ _ c.args.page.now _ c.head_at.ensures _ (c.in-Some-Product.is ∙ ap Some c.in-Some-Product.field-0-is) c.in-Right.is) c.requires _ _ c.copy-n-in-Right.ensures) _ _ _ c.put-w-in-Right.ensures) _ _ c.copy-k-in-Right.ensures

pub returns-in-Plain : goal.returns-in-Plain
returns-in-Plain t c = product-end _ _ _ _ _ _ c.args.page.now _ c.head_at.ensures _ (c.in-Some-Product.is ∙ ap Some c.in-Some-Product.field-0-is) c.in-Plain.is c.requires _ _ _ c.put-a.ensures _ _ c.copy-k-in-Plain.ensures _ _ _ (lent-end c.copy-k-in-Plain.new.page (product-next _ _ _ _ _ _ c.args.page.now _ c.head_at.ensures _ (c.in-Some-Product.is ∙ ap Some c.in-Some-Product.field-0-is) c.in-Plain.is c.requires _ _ _ c.put-a.ensures _ _ c.copy-k-in-Plain.ensures) _ _ _ c.put-b.ensures)
