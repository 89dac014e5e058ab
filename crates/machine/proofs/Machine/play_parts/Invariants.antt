use Rattle.std.proofs.Common.{◌≡◌, drop}
use Rattle.machine.specs.Scripts.{items_of}
use Rattle.machine.specs.Seen.{machine, Kept}
use Rattle.machine.proofs.Machine.play_parts.Given as goal

abbrev pub invariant-loop-item : goal.invariant-loop-item
invariant-loop-item l = record { walked : items_of l.p (drop l.item-index l.item-items) (machine l.self) ≡ items_of l.p l.item-items (machine l.initial.self); kept : Kept l.initial.self l.self }
