use Rattle.types.specs.Record.{reach}
use Rattle.std.proofs.Common.{◌≤◌, ◌+◌, ◌-◌, ◌*◌, ◌≡◌}
use Rattle.formula.specs.Reader.{forget}
use Rattle.formula.specs.Parse.{exprs_at, preds_at}
use Rattle.formula.proofs.Reader.+reading.Given as goal

abbrev pub decreases-read_expr : goal.decreases-read_expr
decreases-read_expr l = l.left * 2

abbrev pub decreases-read_exprs : goal.decreases-read_exprs
decreases-read_exprs l = l.left * 2 + 1

abbrev pub decreases-read_pred : goal.decreases-read_pred
decreases-read_pred l = l.left * 2

abbrev pub decreases-read_preds : goal.decreases-read_preds
decreases-read_preds l = l.left * 2 + 1

abbrev pub invariant-read_exprs-loop : goal.invariant-read_exprs-loop
invariant-read_exprs-loop l = (forget (exprs_at l.left l.self.names (reach l.self.s.now) (l.n - l.counter) l.st) ≡ forget (exprs_at l.left l.self.names (reach l.self.s.now) l.n l.initial.st)) × (l.counter ≤ l.n)

abbrev pub invariant-read_preds-loop : goal.invariant-read_preds-loop
invariant-read_preds-loop l = (forget (preds_at l.left l.self.names (reach l.self.s.now) (l.n - l.counter) l.st) ≡ forget (preds_at l.left l.self.names (reach l.self.s.now) l.n l.initial.st)) × (l.counter ≤ l.n)
