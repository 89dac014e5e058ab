use Rattle.std.proofs.Common.{◌≡◌, ◌-◌, ◌≤◌}
use Rattle.types.specs.Record.{reach}
use Rattle.formula.specs.Reader.{forget}
use Rattle.formula.specs.Parse.{decls_at}
use Rattle.formula.proofs.Reader.read_decls.Given as goal

abbrev pub invariant-loop : goal.invariant-loop
invariant-loop l = (forget (decls_at l.self.names (reach l.self.s.now) l.left (l.n - l.counter) l.st) ≡ forget (decls_at l.self.names (reach l.self.s.now) l.left l.n l.initial.st)) × (l.counter ≤ l.n)
