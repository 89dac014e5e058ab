use Rattle.std.proofs.Common.{arith}
use Rattle.forms.specs.Forms.{then}
use Rattle.machine.specs.Scripts.{play_of}
use Rattle.machine.specs.Seen.{still, stopped_at, stop_number, stop_number_not}
use Rattle.machine.proofs.Laws.{items_stop}
use Rattle.machine.proofs.Machine.play_parts.Goals as goal

pub returns-in_err-perform-clause-value : goal.returns-in_err-perform-clause-value
unfolding play_of then
returns-in_err-perform-clause-value c = grind (arith, still, c.items-item-items.ensures, items_stop _ c.items-item-items.result.now c.loop-item.item-index _ _ (stopped_at (stop_number _) c.perform.new.self) _ c.loop-item-test.true c.in_err-perform.ensures.value (stop_number_not _) c.loop-item.invariant.walked)
