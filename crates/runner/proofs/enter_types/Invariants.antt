use Rattle.std.proofs.Common.{◌≡◌, ◌-◌}
use Rattle.machine.specs.Seen.{machine, Kept}
use Rattle.runner.specs.Begin.{entered_from}
use Rattle.runner.proofs.enter_types.Given as goal

abbrev pub invariant-loop-x : goal.invariant-loop-x
invariant-loop-x l = record { entered : entered_from l.types l.x (256 - l.x) (machine l.walk) ≡ entered_from l.types 0 256 (machine l.initial.walk); kept : Kept l.initial.walk l.walk }
