use Rattle.std.proofs.Common.{◌≡◌, ◌-◌}
use Rattle.machine.specs.Seen.{machine, Kept}
use Rattle.walker.specs.Root.{shares_from}
use Rattle.walker.proofs.shares.Given as goal

abbrev pub invariant-loop-i : goal.invariant-loop-i
invariant-loop-i l = record { walked : shares_from l.first l.until l.place.0 (l.until - l.i) l.i (machine l.walk) ≡ shares_from l.first l.until l.place.0 l.until 0 (machine l.initial.walk); kept : Kept l.initial.walk l.walk }
