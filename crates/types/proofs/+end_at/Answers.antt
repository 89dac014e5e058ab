-- `end_at` follows `type_at` level by level: what is left to read ends where the whole ends, and the levels left are the number that falls.
use Rattle.std.proofs.Common.{arith, refl, sym, ap, ◌∙◌, Some}
use Rattle.std.proofs.lemmas.Result.{err_from_is_err_and}
use Rattle.types.specs.Steps.{type-wrong, type-deep, type-atom, type-power, type-product, atom-inside, power-inside, product_inside, end-got, end-malformed, end-deep, end-power, end-left, end-product}
use Rattle.types.proofs.+end_at.Goals as goal

pub loop-left-init : goal.loop-left-init
loop-left-init t c = (refl, omega arith)

pub returns-in-Some : goal.returns-in-Some
returns-in-Some t c = end-deep _ _ (type-deep _ _ _ _ _ c.head_at.ensures c.if-left-eq0.true _ c.in-Some.is) ∙ c.loop-left.invariant.0

pub returns-in-None : goal.returns-in-None
returns-in-None t c = end-malformed _ _ (type-wrong _ _ _ _ _ c.head_at.ensures c.in-None.is) ∙ c.loop-left.invariant.0

pub returns-in_default : goal.returns-in_default
returns-in_default t c = end-malformed _ _ (type-wrong _ _ _ _ _ c.head_at-in-loop-left.ensures c.in_default.is) ∙ c.loop-left.invariant.0

pub overflow_cast-result : goal.overflow_cast-result
overflow_cast-result t c = omega (arith, atom-inside 0 _ _ _ _ c.head_at-in-loop-left.ensures c.in-Atomic.field-0 c.in-Atomic.e (c.in-Some-head_at.is ∙ ap Some c.in-Atomic.is), c.requires)

pub returns-in-Atomic : goal.returns-in-Atomic
returns-in-Atomic t c = end-got _ _ _ (type-atom _ _ _ _ _ c.head_at-in-loop-left.ensures c.if-left-eq0.false _ _ (c.in-Some-head_at.is ∙ ap Some c.in-Atomic.is)) ∙ c.loop-left.invariant.0

pub overflow_cast-at-in-Power : goal.overflow_cast-at-in-Power
overflow_cast-at-in-Power t c = omega (arith, power-inside 0 _ _ _ _ c.head_at-in-loop-left.ensures c.in-Power.e (c.in-Some-head_at.is ∙ ap Some c.in-Power.is), c.requires)

pub loop-left-smaller-in-Power : goal.loop-left-smaller-in-Power
loop-left-smaller-in-Power t c = omega (arith, c.if-left-eq0.false)

pub loop-left-preserved-in-Power : goal.loop-left-preserved-in-Power
loop-left-preserved-in-Power t c = (
  end-power _ _ _ (type-power _ _ _ _ _ c.head_at-in-loop-left.ensures c.if-left-eq0.false _ (c.in-Some-head_at.is ∙ ap Some c.in-Power.is)) refl ∙ c.loop-left.invariant.0,
  omega (arith, c.loop-left.invariant.1),
)

pub overflow_cast-e : goal.overflow_cast-e
overflow_cast-e t c = omega (arith, product_inside 0 _ _ _ _ c.head_at-in-loop-left.ensures c.in-Product.e (c.in-Some-head_at.is ∙ ap Some c.in-Product.is), c.requires)

pub end_at-requires : goal.end_at-requires
end_at-requires t c = (omega (arith, c.if-left-eq0.false, c.loop-left.invariant.1, c.decreases), c.requires)

pub returns-in_err-at-in-Product : goal.returns-in_err-at-in-Product
returns-in_err-at-in-Product t c =
    let p = err_from_is_err_and c.from_residual.result c.from_residual.ensures.1 in
    rw (p.1, p.2) (end-left _ _ _ (type-product _ _ _ _ _ c.head_at-in-loop-left.ensures c.if-left-eq0.false _ (c.in-Some-head_at.is ∙ ap Some c.in-Product.is)) _ c.end_at.ensures _ c.in_err-at-in-Product.was) ∙ c.loop-left.invariant.0

pub loop-left-smaller : goal.loop-left-smaller
loop-left-smaller t c = omega (arith, c.if-left-eq0.false)

pub loop-left-preserved : goal.loop-left-preserved
loop-left-preserved t c = (
  end-product _ _ _ (type-product _ _ _ _ _ c.head_at-in-loop-left.ensures c.if-left-eq0.false _ (c.in-Some-head_at.is ∙ ap Some c.in-Product.is)) _ c.end_at.ensures _ c.in_ok-at-in-Product.was _ refl ∙ c.loop-left.invariant.0,
  omega (arith, c.loop-left.invariant.1),
)
