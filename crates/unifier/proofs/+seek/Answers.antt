use Rattle.std.proofs.Common.{◌≡◌, ◌≢◌, Err, refl, sym, arith, ◌∙◌, rules}
use Rattle.unification.specs.Code.{occurs-here, occurs-power, occurs-pair_yes, occurs-pair_no, occurs-leaf, occurs-left, reach-left}
use Rattle.unifier.specs.Answers.{stem_is, arrived}
use Rattle.unifier.proofs.Laws.{occurs-halted, occurs-left-halted}
use Rattle.unifier.proofs.+seek.Goals as goal

pub loop-reached-init : goal.loop-reached-init
loop-reached-init t c = (refl, omega arith)

pub returns-in_err-reached : goal.returns-in_err-reached
unfolding arrived
returns-in_err-reached t c =
    let r : c.from_residual.result ≡ Err c.in_err-reached.field-0.0 = grind arith in
    rw r (occurs-halted _ _ _ _ _ _ c.in_err-reached.ensures ∙ c.loop-reached.invariant.0)

pub returns-then-eq : goal.returns-then-eq
unfolding arrived stem_is
returns-then-eq t c =
    let e : c.in_ok-reached.reached.at.0 ≡ c.args.sought.0 = search rules in
    sym (occurs-here _ _ _ _ _ _ _ _ (sym c.in_ok-reached.ensures) e) ∙ c.loop-reached.invariant.0

pub loop-reached-smaller-in-67 : goal.loop-reached-smaller-in-67
unfolding arrived stem_is
loop-reached-smaller-in-67 t c = reach-left _ _ _ _ _ _ (sym c.in_ok-reached.ensures)

pub loop-reached-preserved-in-67 : goal.loop-reached-preserved-in-67
unfolding arrived stem_is
loop-reached-preserved-in-67 t c =
    let d : c.in_ok-reached.reached.at.0 ≢ c.args.sought.0 = search rules in (
      sym (occurs-power _ _ _ _ _ _ _ _ _ (sym c.in_ok-reached.ensures) _ d c.in-67.is) ∙ c.loop-reached.invariant.0,
      omega (arith, reach-left _ _ _ _ _ _ (sym c.in_ok-reached.ensures), c.loop-reached.invariant.1),
    )

pub seek-requires : goal.seek-requires
unfolding arrived stem_is
seek-requires t c = (omega (arith, reach-left _ _ _ _ _ _ (sym c.in_ok-reached.ensures), c.loop-reached.invariant.1, c.decreases), tt)

pub returns-in_err-found-in-68 : goal.returns-in_err-found-in-68
unfolding arrived stem_is
returns-in_err-found-in-68 t c =
    let d : c.in_ok-reached.reached.at.0 ≢ c.args.sought.0 = search rules in
    let r : c.from_residual-in_err-found-in-68.result ≡ Err c.in_err-found-in-68.field-0.0 = grind arith in
    rw r (occurs-left-halted _ _ _ _ _ _ _ _ _ (sym c.in_ok-reached.ensures) _ d c.in-68.is _ c.in_err-found-in-68.ensures ∙ c.loop-reached.invariant.0)

pub returns-then-found : goal.returns-then-found
unfolding arrived stem_is
returns-then-found t c =
    let d : c.in_ok-reached.reached.at.0 ≢ c.args.sought.0 = search rules in
    let e = rw c.if-found.true at c.in_ok-found-in-68.ensures in
    rw c.if-found.true (sym (occurs-pair_yes _ _ _ _ _ _ _ _ _ (sym c.in_ok-reached.ensures) _ d _ c.in-68.is (sym e)) ∙ c.loop-reached.invariant.0)

pub loop-reached-smaller : goal.loop-reached-smaller
unfolding arrived stem_is
loop-reached-smaller t c = omega (arith, reach-left _ _ _ _ _ _ (sym c.in_ok-reached.ensures), occurs-left _ _ _ _ _ _ _ (sym c.in_ok-found-in-68.ensures))

pub loop-reached-preserved : goal.loop-reached-preserved
unfolding arrived stem_is
loop-reached-preserved t c =
    let d : c.in_ok-reached.reached.at.0 ≢ c.args.sought.0 = search rules in
    let e = rw c.if-found.false at c.in_ok-found-in-68.ensures in (
      sym (occurs-pair_no _ _ _ _ _ _ _ _ _ (sym c.in_ok-reached.ensures) _ d _ c.in-68.is (sym e)) ∙ c.loop-reached.invariant.0,
      omega (arith, reach-left _ _ _ _ _ _ (sym c.in_ok-reached.ensures), occurs-left _ _ _ _ _ _ _ (sym c.in_ok-found-in-68.ensures), c.loop-reached.invariant.1),
    )

pub returns-in_default : goal.returns-in_default
unfolding arrived stem_is
returns-in_default t c =
    let d : c.in_ok-reached.reached.at.0 ≢ c.args.sought.0 = search rules in
    sym (occurs-leaf _ _ _ _ _ _ _ _ _ (sym c.in_ok-reached.ensures) _ d c.in_default.in_default-own.rest.0.1 c.in_default.in_default-own.rest.1) ∙ c.loop-reached.invariant.0
