use Rattle.std.proofs.Common.{◌≡◌, ◌-◌, ◌≤◌}
use Rattle.types.specs.Record.{reach}
use Rattle.formula.specs.Reader.{forget}
use Rattle.formula.specs.Parse.{targets_at}
use Rattle.formula.proofs.Reader.read_targets.Given as goal

abbrev pub invariant-loop : goal.invariant-loop
invariant-loop l = (forget (targets_at l.self.names (reach l.self.s.now) (l.n - l.counter) l.st) ≡ forget (targets_at l.self.names (reach l.self.s.now) l.n l.initial.st)) × (l.counter ≤ l.n)
