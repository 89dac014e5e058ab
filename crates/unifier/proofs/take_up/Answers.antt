use Rattle.std.proofs.Common.{◌≡◌, ◌≢◌, ◌+◌, Err, sym, ap, ◌∙◌, arith, rules}
use Rattle.meter.specs.Meter.{done}
use Rattle.unification.specs.Code.{take_none}
use Rattle.unifier.specs.declared.Halt.TheVariants.{Spent}
use Rattle.unifier.specs.Answers.{arrived}
use Rattle.unifier.proofs.Laws.{take-left-halted, take-right-halted, take-one, take-two}
use Rattle.unifier.proofs.take_up.Goals as goal

pub returns-in_err-paid : goal.returns-in_err-paid
returns-in_err-paid c =
    let z : c.args.left.now ≡ 0 = grind arith in
    let r : c.from_residual.result ≡ Err Spent = grind arith in
    rw r (sym (take_none _ _ _ _ _ z))

pub returns-in_err-first : goal.returns-in_err-first
unfolding arrived
returns-in_err-first c =
    let p : c.args.left.now ≡ c.in_ok-paid.paid + 1 = grind arith in
    let r : c.from_residual-in_err-first.result ≡ Err c.in_err-first.field-0.0 = grind arith in
    rw r (take-left-halted _ _ _ _ _ _ p _ c.in_err-first.ensures)

pub returns-in_err-second : goal.returns-in_err-second
unfolding arrived
returns-in_err-second c =
    let p : c.args.left.now ≡ c.in_ok-paid.paid + 1 = grind arith in
    let r : c.from_residual-in_err-second.result ≡ Err c.in_err-second.field-0.0 = grind arith in
    rw r (take-right-halted _ _ _ _ _ _ p _ _ c.in_ok-first.ensures _ c.in_err-second.ensures)

pub returns-then-eq : goal.returns-then-eq
unfolding arrived
returns-then-eq c =
    let p : c.args.left.now ≡ c.in_ok-paid.paid + 1 = grind arith in
    let e : c.in_ok-first.first.at.0 ≡ c.in_ok-second.second.at.0 = search rules in
    take-one _ _ _ _ _ _ p _ _ c.in_ok-first.ensures _ _ c.in_ok-second.ensures e

pub returns : goal.returns
unfolding arrived
returns c =
    let p : c.args.left.now ≡ c.in_ok-paid.paid + 1 = grind arith in
    let e : c.in_ok-first.first.at.0 ≢ c.in_ok-second.second.at.0 = search rules in
    ap (λ t. done t c.in_ok-second.second.left) c.compare.ensures ∙ take-two _ _ _ _ _ _ p _ _ c.in_ok-first.ensures _ _ c.in_ok-second.ensures e
