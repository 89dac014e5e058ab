use Rattle.std.proofs.Common.{◌≡◌, ◌-◌}
use Rattle.types.specs.Limits.{max_depth}
use Rattle.machine.specs.Seen.{machine, Kept}
use Rattle.machine.specs.Types.{times_of}
use Rattle.walker.specs.Walk.{expr_of}
use Rattle.walker.specs.Root.{pair_by}
use Rattle.walker.proofs.pairs.Given as goal

abbrev pub invariant-loop : goal.invariant-loop
invariant-loop l = record { walked : times_of (pair_by (expr_of max_depth l.initial.walk.formula.now l.initial.walk.environment.now)) (l.n - l.counter) (machine l.walk) ≡ times_of (pair_by (expr_of max_depth l.initial.walk.formula.now l.initial.walk.environment.now)) (l.n - l.initial.counter) (machine l.initial.walk); kept : Kept l.initial.walk l.walk }
