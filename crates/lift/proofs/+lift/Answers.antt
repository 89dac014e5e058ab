use Rattle.std.proofs.Common.{◌≡◌, Some, None, Err, sym, arith, ◌∙◌}
use Rattle.types.specs.declared.Head.TheVariants.{Atomic, Power, Product}
use Rattle.types.specs.Code.{head_is}
use Rattle.unification.specs.Lift.{lift_by, lift-none, crown-done, power-done, right-done, lift-small}
use Rattle.makers.specs.declared.MakeError.TheVariants.{Broken}
use Rattle.lift.proofs.Laws.{headed, crown-error, power-error, left-error, right-error}
use Rattle.lift.proofs.+lift.Goals as goal

pub returns-then-left-eq0 : goal.returns-then-left-eq0
returns-then-left-eq0 t c = sym (lift-none _ _ _ _ _ _ c.if-left-eq0.true)

pub returns-in_err-head : goal.returns-in_err-head
unfolding head_is lift_by
returns-in_err-head t c =
    let n : c.head_at.result ≡ None = grind arith in
    let r : c.from_residual.result ≡ Err Broken = grind arith in
    rw r (headed _ _ _ _ _ _ c.if-left-eq0.false _ _ c.head_at.ensures n)

pub returns-in_err-root-in-Atomic : goal.returns-in_err-root-in-Atomic
unfolding head_is lift_by
returns-in_err-root-in-Atomic t c =
    let h : c.head_at.result ≡ Some (Atomic c.in-Atomic.a c.in-Atomic.end) = grind arith in
    let r : c.from_residual-in_err-root-in-Atomic.result ≡ Err c.in_err-root-in-Atomic.field-0.0 = grind arith in
    rw r (crown-error _ _ _ _ _ _ c.in_err-root-in-Atomic.ensures ∙ headed _ _ _ _ _ _ c.if-left-eq0.false _ _ c.head_at.ensures h)

pub returns-in_ok-root-in-Atomic : goal.returns-in_ok-root-in-Atomic
unfolding head_is lift_by
returns-in_ok-root-in-Atomic t c =
    let h : c.head_at.result ≡ Some (Atomic c.in-Atomic.a c.in-Atomic.end) = grind arith in
    sym (crown-done _ _ _ _ _ _ (sym c.in_ok-root-in-Atomic.ensures)) ∙ headed _ _ _ _ _ _ c.if-left-eq0.false _ _ c.head_at.ensures h

pub returns-in_err-x-in-Power : goal.returns-in_err-x-in-Power
unfolding head_is
returns-in_err-x-in-Power t c =
    let h : c.head_at.result ≡ Some (Power c.in-Power.part) = grind arith in
    let r : c.from_residual-in_err-x-in-Power.result ≡ Err c.in_err-x-in-Power.field-0.0 = grind arith in
    rw r (power-error _ _ _ _ _ _ c.in_err-x-in-Power.ensures ∙ headed _ _ _ _ _ _ c.if-left-eq0.false _ _ c.head_at.ensures h)

pub overflow_add-x : goal.overflow_add-x
overflow_add-x t c = omega (arith, lift-small _ _ _ _ _ _ _ (sym c.in_ok-x-in-Power.ensures))

pub returns-in_err-root-in-Power : goal.returns-in_err-root-in-Power
unfolding head_is
returns-in_err-root-in-Power t c =
    let h : c.head_at.result ≡ Some (Power c.in-Power.part) = grind arith in
    let r : c.from_residual-in_err-root-in-Power.result ≡ Err c.in_err-root-in-Power.field-0.0 = grind arith in
    rw r (crown-error _ _ _ _ _ _ c.in_err-root-in-Power.ensures ∙ sym (power-done _ _ _ _ _ (sym c.in_ok-x-in-Power.ensures)) ∙ headed _ _ _ _ _ _ c.if-left-eq0.false _ _ c.head_at.ensures h)

pub returns-in_ok-root-in-Power : goal.returns-in_ok-root-in-Power
unfolding head_is
returns-in_ok-root-in-Power t c =
    let h : c.head_at.result ≡ Some (Power c.in-Power.part) = grind arith in
    sym (crown-done _ _ _ _ _ _ (sym c.in_ok-root-in-Power.ensures)) ∙ sym (power-done _ _ _ _ _ (sym c.in_ok-x-in-Power.ensures)) ∙ headed _ _ _ _ _ _ c.if-left-eq0.false _ _ c.head_at.ensures h

pub returns-in_err-x-in-Product : goal.returns-in_err-x-in-Product
unfolding head_is
returns-in_err-x-in-Product t c =
    let h : c.head_at.result ≡ Some (Product c.in-Product.part) = grind arith in
    let r : c.from_residual-in_err-x-in-Product.result ≡ Err c.in_err-x-in-Product.field-0.0 = grind arith in
    rw r (left-error _ _ _ _ _ _ c.in_err-x-in-Product.ensures ∙ headed _ _ _ _ _ _ c.if-left-eq0.false _ _ c.head_at.ensures h)

pub overflow_add-x-in-Product : goal.overflow_add-x-in-Product
overflow_add-x-in-Product t c = omega (arith, lift-small _ _ _ _ _ _ _ (sym c.in_ok-x-in-Product.ensures))

pub returns-in_err-y-in-Product : goal.returns-in_err-y-in-Product
unfolding head_is
returns-in_err-y-in-Product t c =
    let h : c.head_at.result ≡ Some (Product c.in-Product.part) = grind arith in
    let r : c.from_residual-in_err-y-in-Product.result ≡ Err c.in_err-y-in-Product.field-0.0 = grind arith in
    rw r (right-error _ _ _ _ _ _ _ c.in_ok-x-in-Product.ensures c.in_err-y-in-Product.ensures ∙ headed _ _ _ _ _ _ c.if-left-eq0.false _ _ c.head_at.ensures h)

pub overflow_add-y : goal.overflow_add-y
overflow_add-y t c = omega (arith, lift-small _ _ _ _ _ _ _ (sym c.in_ok-y-in-Product.ensures))

pub returns-in_err-root-in-Product : goal.returns-in_err-root-in-Product
unfolding head_is
returns-in_err-root-in-Product t c =
    let h : c.head_at.result ≡ Some (Product c.in-Product.part) = grind arith in
    let r : c.from_residual-in_err-root-in-Product.result ≡ Err c.in_err-root-in-Product.field-0.0 = grind arith in
    rw r (crown-error _ _ _ _ _ _ c.in_err-root-in-Product.ensures ∙ sym (right-done _ _ _ _ _ _ (sym c.in_ok-x-in-Product.ensures) (sym c.in_ok-y-in-Product.ensures)) ∙ headed _ _ _ _ _ _ c.if-left-eq0.false _ _ c.head_at.ensures h)

pub returns-in_ok-root-in-Product : goal.returns-in_ok-root-in-Product
unfolding head_is
returns-in_ok-root-in-Product t c =
    let h : c.head_at.result ≡ Some (Product c.in-Product.part) = grind arith in
    sym (crown-done _ _ _ _ _ _ (sym c.in_ok-root-in-Product.ensures)) ∙ sym (right-done _ _ _ _ _ _ (sym c.in_ok-x-in-Product.ensures) (sym c.in_ok-y-in-Product.ensures)) ∙ headed _ _ _ _ _ _ c.if-left-eq0.false _ _ c.head_at.ensures h
