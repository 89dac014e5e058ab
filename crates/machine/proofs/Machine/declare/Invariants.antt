use Rattle.std.proofs.Common.{◌-◌, ◌≡◌}
use Rattle.machine.specs.Types.{declaration_of, times_of}
use Rattle.machine.specs.Seen.{machine, Kept}
use Rattle.machine.proofs.Machine.declare.Given as goal

abbrev pub invariant-loop : goal.invariant-loop
invariant-loop l = record { walked : times_of (declaration_of l.initial.self.formula.now l.initial.self.environment.now) (l.n - l.counter) (machine l.self) ≡ times_of (declaration_of l.initial.self.formula.now l.initial.self.environment.now) l.n (machine l.initial.self); kept : Kept l.initial.self l.self }
