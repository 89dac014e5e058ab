use Rattle.std.proofs.Common.{◌≡◌, Err, refl, sym, arith, ◌∙◌}
use Rattle.unification.specs.Code.{solved-free, solved-power, solved-pair_yes, solved-pair_no, solved-leaf, solved-left, reach-left}
use Rattle.unifier.specs.Answers.{stem_is, arrived}
use Rattle.unifier.proofs.Laws.{solved-halted, solved-left-halted}
use Rattle.unifier.proofs.+test.Goals as goal

pub returns-in_err-reached : goal.returns-in_err-reached
unfolding arrived
returns-in_err-reached t c =
    let r : c.from_residual.result ≡ Err c.in_err-reached.field-0.0 = grind arith in
    rw r (solved-halted _ _ _ _ _ c.in_err-reached.ensures ∙ c.loop-reached.invariant.0)

pub loop-reached-init : goal.loop-reached-init
loop-reached-init t c = (refl, omega arith)

pub returns-in-78 : goal.returns-in-78
unfolding arrived stem_is
returns-in-78 t c = sym (solved-free _ _ _ _ _ _ _ _ _ (sym c.in_ok-reached.ensures) c.in-78.is) ∙ c.loop-reached.invariant.0

pub loop-reached-smaller-in-67 : goal.loop-reached-smaller-in-67
unfolding arrived stem_is
loop-reached-smaller-in-67 t c = reach-left _ _ _ _ _ _ (sym c.in_ok-reached.ensures)

pub loop-reached-preserved-in-67 : goal.loop-reached-preserved-in-67
unfolding arrived stem_is
loop-reached-preserved-in-67 t c = (
  sym (solved-power _ _ _ _ _ _ _ _ _ (sym c.in_ok-reached.ensures) c.in-67.is) ∙ c.loop-reached.invariant.0,
  omega (arith, reach-left _ _ _ _ _ _ (sym c.in_ok-reached.ensures), c.loop-reached.invariant.1),
)

pub test-requires : goal.test-requires
unfolding arrived stem_is
test-requires t c = (omega (arith, reach-left _ _ _ _ _ _ (sym c.in_ok-reached.ensures), c.loop-reached.invariant.1, c.decreases), tt)

pub returns-in_err-test-in-68 : goal.returns-in_err-test-in-68
unfolding arrived stem_is
returns-in_err-test-in-68 t c =
    let r : c.from_residual-in_err-test-in-68.result ≡ Err c.in_err-test-in-68.field-0.0 = grind arith in
    rw r (solved-left-halted _ _ _ _ _ _ _ _ _ (sym c.in_ok-reached.ensures) c.in-68.is _ c.in_err-test-in-68.ensures ∙ c.loop-reached.invariant.0)

pub returns-then-not-branch : goal.returns-then-not-branch
unfolding arrived stem_is
returns-then-not-branch t c =
    let e = rw c.if-not-branch.true at c.in_ok-test-in-68.ensures in
    sym (solved-pair_no _ _ _ _ _ _ _ _ _ (sym c.in_ok-reached.ensures) _ c.in-68.is (sym e)) ∙ c.loop-reached.invariant.0

pub loop-reached-smaller : goal.loop-reached-smaller
unfolding arrived stem_is
loop-reached-smaller t c = omega (arith, reach-left _ _ _ _ _ _ (sym c.in_ok-reached.ensures), solved-left _ _ _ _ _ _ (sym c.in_ok-test-in-68.ensures))

pub loop-reached-preserved : goal.loop-reached-preserved
unfolding arrived stem_is
loop-reached-preserved t c =
    let e = rw c.if-not-branch.false at c.in_ok-test-in-68.ensures in (
      sym (solved-pair_yes _ _ _ _ _ _ _ _ _ (sym c.in_ok-reached.ensures) _ c.in-68.is (sym e)) ∙ c.loop-reached.invariant.0,
      omega (arith, reach-left _ _ _ _ _ _ (sym c.in_ok-reached.ensures), solved-left _ _ _ _ _ _ (sym c.in_ok-test-in-68.ensures), c.loop-reached.invariant.1),
    )

pub returns-in_default : goal.returns-in_default
unfolding arrived stem_is
returns-in_default t c = sym (solved-leaf _ _ _ _ _ _ _ _ _ (sym c.in_ok-reached.ensures) c.in_default.in_default-own.rest.0.0.1 c.in_default.in_default-own.rest.0.1 c.in_default.in_default-own.rest.1) ∙ c.loop-reached.invariant.0
