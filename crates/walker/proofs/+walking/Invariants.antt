use Rattle.std.proofs.Common.{◌≡◌, ◌+◌, ◌*◌, ◌-◌}
use Rattle.machine.specs.Seen.{machine, Kept}
use Rattle.machine.specs.Types.{times_of}
use Rattle.walker.specs.Walk.{children_by, expr_of, pred_of}
use Rattle.walker.proofs.+walking.Given as goal

abbrev pub decreases-all : goal.decreases-all
decreases-all l = l.left * 7 + 4

abbrev pub decreases-ascribed : goal.decreases-ascribed
decreases-ascribed l = l.left * 7 + 2

abbrev pub decreases-body : goal.decreases-body
decreases-body l = l.left * 7 + 6

abbrev pub decreases-each : goal.decreases-each
decreases-each l = l.left * 7 + 3

abbrev pub decreases-explicit : goal.decreases-explicit
decreases-explicit l = l.left * 7 + 0

abbrev pub decreases-expr : goal.decreases-expr
decreases-expr l = l.left * 7 + 1

abbrev pub decreases-one : goal.decreases-one
decreases-one l = l.left * 7 + 2

abbrev pub decreases-owned : goal.decreases-owned
decreases-owned l = l.left * 7 + 0

abbrev pub decreases-pbody : goal.decreases-pbody
decreases-pbody l = l.left * 7 + 6

abbrev pub decreases-pquant : goal.decreases-pquant
decreases-pquant l = l.left * 7 + 2

abbrev pub decreases-pred : goal.decreases-pred
decreases-pred l = l.left * 7 + 1

abbrev pub decreases-preds : goal.decreases-preds
decreases-preds l = l.left * 7 + 2

abbrev pub decreases-quant : goal.decreases-quant
decreases-quant l = l.left * 7 + 4

abbrev pub decreases-two : goal.decreases-two
decreases-two l = l.left * 7 + 2

abbrev pub invariant-each-loop : goal.invariant-each-loop
invariant-each-loop l = record { walked : children_by (expr_of l.left l.initial.walk.formula.now l.initial.walk.environment.now) l.plan (l.n - l.counter) l.y (machine l.walk) ≡ children_by (expr_of l.left l.initial.walk.formula.now l.initial.walk.environment.now) l.plan l.n l.initial.y (machine l.initial.walk); kept : Kept l.initial.walk l.walk }

abbrev pub invariant-preds-loop : goal.invariant-preds-loop
invariant-preds-loop l = record { walked : times_of (pred_of l.left l.initial.walk.formula.now l.initial.walk.environment.now) (l.n - l.counter) (machine l.walk) ≡ times_of (pred_of l.left l.initial.walk.formula.now l.initial.walk.environment.now) l.n (machine l.initial.walk); kept : Kept l.initial.walk l.walk }
