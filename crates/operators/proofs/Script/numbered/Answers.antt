use Rattle.std.proofs.Common.{sym, ap, ◌∙◌}
use Rattle.std.specs.List.{slice_get}
use Rattle.std.proofs.lemmas.Option.{slice_get_past, slice_get-get_or}
use Rattle.operators.specs.Scripts.{in_order, numbered}
use Rattle.operators.proofs.Script.numbered.Goals as goal

pub returns-then-i-lt43 : goal.returns-then-i-lt43
unfolding numbered in_order
returns-then-i-lt43 c = sym (slice_get-get_or in_order c.from-i.result _ c.if-i-lt43.true) ∙ ap (slice_get in_order) c.from-i.ensures

pub returns : goal.returns
unfolding numbered in_order
returns c = sym (slice_get_past in_order c.from-i.result c.if-i-lt43.false) ∙ ap (slice_get in_order) c.from-i.ensures
