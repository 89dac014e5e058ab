use Rattle.std.proofs.Common.{◌≡◌, ◌≢◌, ◌-◌, Err, sym, arith}
use Rattle.unification.specs.Code.{reach-short, reach-done}
use Rattle.unifier.specs.declared.Halt.TheVariants.{Spent}
use Rattle.unifier.specs.Answers.{arrived}
use Rattle.unifier.proofs.Laws.{reach-halted}
use Rattle.unifier.proofs.visit.Goals as goal

pub returns-in_err-reached : goal.returns-in_err-reached
unfolding arrived
returns-in_err-reached c =
    let r : c.from_residual.result ≡ Err c.in_err-reached.field-0.0 = grind arith in
    rw r (reach-halted _ _ _ _ _ c.in_err-reached.ensures)

pub returns-in_err-left : goal.returns-in_err-left
unfolding arrived
returns-in_err-left c =
    let z : c.in_ok-reached.reached.left ≡ 0 = grind arith in
    let r : c.from_residual-in_err-left.result ≡ Err Spent = grind arith in
    rw r (sym (reach-short _ _ _ _ _ _ (sym c.in_ok-reached.ensures) z))

pub returns : goal.returns
unfolding arrived
returns c =
    let z : c.in_ok-reached.reached.left ≢ 0 = grind arith in
    let r : c.in_ok-left.left ≡ c.in_ok-reached.reached.left - 1 = grind arith in
    rw r (sym (reach-done _ _ _ _ _ _ (sym c.in_ok-reached.ensures) z))
