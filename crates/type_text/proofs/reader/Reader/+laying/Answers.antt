-- The second pass lays the record of the type that the parse found. Its loop keeps: what is still to come makes the whole type of the one whose record stands in the page.
use Rattle.std.proofs.Common.{rules, arith, refl, ap, ◌∙◌, Some}
use Rattle.std.specs.Result.{result_unwrap_or}
use borrow.Enum.Refused.{opened}
use Rattle.type_grammar.specs.Parse.{operand_by, times_on}
use Rattle.type_text.proofs.Laws.{operand_else, times-over}
use Rattle.type_text.specs.Lay.{lay-lent-ready, lay-lent-end, lay-deep, lay-none, lay-leaf-fits, leaf-small, lay-leaf-end, lay-power-fits, lay-power-ready, lay-power-sum, lay-power-end, lay_open_ready, lay_open_end, lay-first, going_start, going_else, going-room, going-ready, going-sum, going-within, going_on}
use Rattle.type_text.proofs.reader.Reader.+laying.Goals as goal

pub lay_operand-lay_atom-n-requires-clause-a_in_bounds : goal.lay_operand-lay_atom-n-requires-clause-a_in_bounds
lay_operand-lay_atom-n-requires-clause-a_in_bounds t c = lay-leaf-fits _ _ _ _ _ c.token.ensures c.args.page.now _ _ (c.in-Some-Leaf.is ∙ ap Some c.in-Some-Leaf.field-0-is) c.requires

pub lay_operand-lay_atom-n-requires-clause-small : goal.lay_operand-lay_atom-n-requires-clause-small
lay_operand-lay_atom-n-requires-clause-small t c = leaf-small c.args.self.now.table.now _ _ _ c.token.ensures _ _ (c.in-Some-Leaf.is ∙ ap Some c.in-Some-Leaf.field-0-is)

pub lay_operand-overflow_sub-inside : goal.lay_operand-overflow_sub-inside
lay_operand-overflow_sub-inside t c = lay-deep _ _ _ _ _ _ c.requires

pub lay_operand-copy-n-requires : goal.lay_operand-copy-n-requires
lay_operand-copy-n-requires t c = lay-power-fits _ _ _ _ _ c.token.ensures c.args.page.now _ (c.in-Some-Power.is ∙ ap Some c.in-Some-Power.field-0-is) c.requires

pub lay_operand-lay_product-w-requires : goal.lay_operand-lay_product-w-requires
lay_operand-lay_product-w-requires t c = (omega (arith, c.decreases, lay-deep _ _ _ _ _ _ c.requires), lay-lent-ready c.copy-n.new.page (lay-power-ready _ _ _ _ _ c.token.ensures c.args.page.now _ (c.in-Some-Power.is ∙ ap Some c.in-Some-Power.field-0-is) c.requires _ _ c.copy-n.ensures))

pub lay_operand-overflow_add-result : goal.lay_operand-overflow_add-result
lay_operand-overflow_add-result t c = omega (arith, lay-power-sum _ _ _ _ _ c.token.ensures c.args.page.now _ (c.in-Some-Power.is ∙ ap Some c.in-Some-Power.field-0-is) c.requires _ _ _ _ _ c.copy-n.ensures (lay-lent-end c.copy-n.new.page (lay-power-ready _ _ _ _ _ c.token.ensures c.args.page.now _ (c.in-Some-Power.is ∙ ap Some c.in-Some-Power.field-0-is) c.requires _ _ c.copy-n.ensures) _ _ _ c.lay_product-w.ensures))

pub lay_operand-overflow_sub-inside-in-Some-Open : goal.lay_operand-overflow_sub-inside-in-Some-Open
lay_operand-overflow_sub-inside-in-Some-Open t c = lay-deep _ _ _ _ _ _ c.requires

pub lay_operand-lay_product-w-requires-in-Some-Open : goal.lay_operand-lay_product-w-requires-in-Some-Open
lay_operand-lay_product-w-requires-in-Some-Open t c = (omega (arith, c.decreases, lay-deep _ _ _ _ _ _ c.requires), lay_open_ready _ _ _ _ _ c.token.ensures c.args.page.now _ (c.in-Some-Open.is ∙ ap Some c.in-Some-Open.field-0-is) c.requires)

pub lay_operand-returns-in-Some-Leaf : goal.lay_operand-returns-in-Some-Leaf
lay_operand-returns-in-Some-Leaf t c = lay-leaf-end _ _ _ _ _ c.token.ensures c.args.page.now _ _ (c.in-Some-Leaf.is ∙ ap Some c.in-Some-Leaf.field-0-is) _ _ c.lay_atom-n.ensures

pub lay_operand-returns-in-Some-Power : goal.lay_operand-returns-in-Some-Power
lay_operand-returns-in-Some-Power t c = lay-power-end _ _ _ _ _ c.token.ensures c.args.page.now _ (c.in-Some-Power.is ∙ ap Some c.in-Some-Power.field-0-is) _ _ _ _ _ _ c.copy-n.ensures (lay-lent-end c.copy-n.new.page (lay-power-ready _ _ _ _ _ c.token.ensures c.args.page.now _ (c.in-Some-Power.is ∙ ap Some c.in-Some-Power.field-0-is) c.requires _ _ c.copy-n.ensures) _ _ _ c.lay_product-w.ensures) (c.unwrap_or.ensures ∙ ap (λ x. result_unwrap_or x c.lay_product-w.result.end) c.close.ensures)

pub lay_operand-returns-in-Some-Open : goal.lay_operand-returns-in-Some-Open
lay_operand-returns-in-Some-Open t c = lay_open_end _ _ _ _ _ c.token.ensures c.args.page.now _ (c.in-Some-Open.is ∙ ap Some c.in-Some-Open.field-0-is) _ _ _ _ c.lay_product-w-in-Some-Open.ensures (c.unwrap_or-in-Some-Open.ensures ∙ ap (λ x. result_unwrap_or x c.lay_product-w-in-Some-Open.result.end) c.close-in-Some-Open.ensures)

pub lay_operand-returns-in_default : goal.lay_operand-returns-in_default
lay_operand-returns-in_default t c = lay-none _ _ _ _ _ c.token.ensures c.args.page.now (operand_else _ _ _ _ _ c.in_default.in_default-own.keys4 (cc))

pub lay_operand-returns-in_default-2 : goal.lay_operand-returns-in_default-2
unfolding operand_by
lay_operand-returns-in_default-2 t c = lay-none _ _ _ _ _ c.token.ensures c.args.page.now (ap (operand_by _ _ _) c.in_default.is)

pub lay_product-lay_operand-w-requires : goal.lay_product-lay_operand-w-requires
lay_product-lay_operand-w-requires t c = (omega (arith, c.decreases), lay-first _ _ _ _ c.args.page.now c.requires)

pub lay_product-loop-q-init : goal.lay_product-loop-q-init
lay_product-loop-q-init t c = (going_start _ _ _ _ _ _ _ _ c.lay_operand-w.ensures, refl)

pub lay_product-lead-requires : goal.lay_product-lead-requires
lay_product-lead-requires t c = going-room _ _ _ _ _ _ _ _ c.loop-q.invariant.0 _ c.token.ensures _ (c.in-Some-Times.is ∙ ap Some c.in-Some-Times.field-0-is) c.requires

pub lay_product-overflow_add-m : goal.lay_product-overflow_add-m
lay_product-overflow_add-m t c = omega (arith, c.loop-q.invariant.1, c.lay_operand-w.auto, going-room _ _ _ _ _ _ _ _ c.loop-q.invariant.0 _ c.token.ensures _ (c.in-Some-Times.is ∙ ap Some c.in-Some-Times.field-0-is) c.requires)

pub lay_product-slice_bounds-lay_operand-count : goal.lay_product-slice_bounds-lay_operand-count
lay_product-slice_bounds-lay_operand-count t c = let R = going-ready _ _ _ _ _ _ _ _ c.loop-q.invariant.0 _ c.token.ensures _ (c.in-Some-Times.is ∙ ap Some c.in-Some-Times.field-0-is) c.requires _ c.lead.ensures in omega (arith, R.fits)

pub lay_product-slice_bounds-lay_operand-start : goal.lay_product-slice_bounds-lay_operand-start
lay_product-slice_bounds-lay_operand-start t c = let R = going-ready _ _ _ _ _ _ _ _ c.loop-q.invariant.0 _ c.token.ensures _ (c.in-Some-Times.is ∙ ap Some c.in-Some-Times.field-0-is) c.requires _ c.lead.ensures in omega (arith, R.fits)

pub lay_product-lay_operand-b-requires : goal.lay_product-lay_operand-b-requires
lay_product-lay_operand-b-requires t c = (omega (arith, c.decreases), lay-lent-ready c.lead.new.page (going-ready _ _ _ _ _ _ _ _ c.loop-q.invariant.0 _ c.token.ensures _ (c.in-Some-Times.is ∙ ap Some c.in-Some-Times.field-0-is) c.requires _ c.lead.ensures))

pub lay_product-overflow_add-width : goal.lay_product-overflow_add-width
lay_product-overflow_add-width t c = omega (arith, going-sum _ _ _ _ _ _ _ _ c.loop-q.invariant.0 _ c.token.ensures _ (c.in-Some-Times.is ∙ ap Some c.in-Some-Times.field-0-is) c.requires _ c.lead.ensures _ _ _ (lay-lent-end c.lead.new.page (going-ready _ _ _ _ _ _ _ _ c.loop-q.invariant.0 _ c.token.ensures _ (c.in-Some-Times.is ∙ ap Some c.in-Some-Times.field-0-is) c.requires _ c.lead.ensures) _ _ _ c.lay_operand-b.ensures))

pub lay_product-loop-q-smaller : goal.lay_product-loop-q-smaller
lay_product-loop-q-smaller t c = going-within _ _ _ _ _ _ _ _ c.loop-q.invariant.0 _ c.token.ensures _ (c.in-Some-Times.is ∙ ap Some c.in-Some-Times.field-0-is) c.requires _ c.lead.ensures _ _ _ (lay-lent-end c.lead.new.page (going-ready _ _ _ _ _ _ _ _ c.loop-q.invariant.0 _ c.token.ensures _ (c.in-Some-Times.is ∙ ap Some c.in-Some-Times.field-0-is) c.requires _ c.lead.ensures) _ _ _ c.lay_operand-b.ensures)

pub lay_product-loop-q-preserved : goal.lay_product-loop-q-preserved
lay_product-loop-q-preserved t c = (going_on _ _ _ _ _ _ _ _ c.loop-q.invariant.0 _ c.token.ensures _ (c.in-Some-Times.is ∙ ap Some c.in-Some-Times.field-0-is) c.requires _ c.lead.ensures _ _ _ (lay-lent-end c.lead.new.page (going-ready _ _ _ _ _ _ _ _ c.loop-q.invariant.0 _ c.token.ensures _ (c.in-Some-Times.is ∙ ap Some c.in-Some-Times.field-0-is) c.requires _ c.lead.ensures) _ _ _ c.lay_operand-b.ensures), search rules)

pub lay_product-returns-in_default : goal.lay_product-returns-in_default
lay_product-returns-in_default t c = going_else _ _ _ _ _ _ _ _ c.loop-q.invariant.0 _ c.token.ensures (times-over _ _ _ (opened c.in_default.in_default-own.keys2) (cc))

pub lay_product-returns-in_default-2 : goal.lay_product-returns-in_default-2
unfolding times_on
lay_product-returns-in_default-2 t c = going_else _ _ _ _ _ _ _ _ c.loop-q.invariant.0 _ c.token.ensures (λ more u. ap (times_on more u _) c.in_default.is)
