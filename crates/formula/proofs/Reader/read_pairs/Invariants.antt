use Rattle.std.proofs.Common.{◌≡◌, ◌-◌, ◌≤◌}
use Rattle.types.specs.Record.{reach}
use Rattle.formula.specs.Reader.{forget}
use Rattle.formula.specs.Parse.{pairs_at}
use Rattle.formula.proofs.Reader.read_pairs.Given as goal

abbrev pub invariant-loop : goal.invariant-loop
invariant-loop l = (forget (pairs_at l.left l.self.names (reach l.self.s.now) (l.n - l.counter) l.st) ≡ forget (pairs_at l.left l.self.names (reach l.self.s.now) l.n l.initial.st)) × (l.counter ≤ l.n)
