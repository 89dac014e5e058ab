use Rattle.std.proofs.Common.{◌≡◌, Err, sym, arith, ◌∙◌}
use Rattle.unification.specs.Code.{reach-left}
use Rattle.unification.specs.Put.{put-none, put-left}
use Rattle.write.specs.Answers.{error_of}
use Rattle.write.proofs.Laws.{seen, put-halted, put_unknown, put_boolean, put_integer, put_named, put-named_full, put_power, put_product, put-left-error}
use Rattle.write.proofs.+lay.Goals as goal

pub returns-then-page-at : goal.returns-then-page-at
returns-then-page-at t c = sym (put-none _ _ _ _ _ _ c.if-page-at.true)

pub returns-in_err-reached : goal.returns-in_err-reached
returns-in_err-reached t c =
    let r : c.from_residual.result ≡ Err (error_of c.in_err-reached.field-0.0) = grind arith in
    rw r (put-halted _ _ _ _ _ _ _ c.if-page-at.false _ c.in_err-reached.ensures)

pub returns-then-page-at-lt3 : goal.returns-then-page-at-lt3
returns-then-page-at-lt3 t c = put-named_full _ _ _ _ _ _ _ c.if-page-at.false _ c.node.result (seen c.in_ok-reached.reached c.node.result _ c.node.ensures c.in_ok-reached.ensures) _ c.in-Leaf-Given.is _ c.in-Leaf-Given.field-0-is (omega (arith, c.if-page-at-lt3.true, c.if-page-at.false))

pub lay-requires : goal.lay-requires
lay-requires t c = (omega (arith, reach-left _ _ _ _ _ _ (sym (seen c.in_ok-reached.reached c.node.result _ c.node.ensures c.in_ok-reached.ensures)), c.decreases), tt)

pub lay-requires-in-Product : goal.lay-requires-in-Product
lay-requires-in-Product t c = (omega (arith, reach-left _ _ _ _ _ _ (sym (seen c.in_ok-reached.reached c.node.result _ c.node.ensures c.in_ok-reached.ensures)), c.decreases), tt)

pub returns-in_err-middle-in-Product : goal.returns-in_err-middle-in-Product
returns-in_err-middle-in-Product t c =
    let r : c.from_residual-in_err-middle-in-Product.result ≡ Err c.in_err-middle-in-Product.field-0.0 = grind arith in
    rw r (put-left-error _ _ _ _ _ _ _ c.if-page-at.false _ c.node.result (seen c.in_ok-reached.reached c.node.result _ c.node.ensures c.in_ok-reached.ensures) _ _ c.in-Product.is _ c.lay-in-Product.new.left _ c.in_err-middle-in-Product.ensures)

pub lay-requires-in-Product-2 : goal.lay-requires-in-Product-2
lay-requires-in-Product-2 t c = (omega (arith, reach-left _ _ _ _ _ _ (sym (seen c.in_ok-reached.reached c.node.result _ c.node.ensures c.in_ok-reached.ensures)), put-left _ _ _ _ _ _ (sym c.in_ok-middle-in-Product.ensures), c.decreases), tt)

pub returns-in-Unknown : goal.returns-in-Unknown
returns-in-Unknown t c = put_unknown _ _ _ _ _ _ _ c.if-page-at.false _ c.node.result (seen c.in_ok-reached.reached c.node.result _ c.node.ensures c.in_ok-reached.ensures) c.in-Unknown.is

pub returns-in-Leaf-Bool : goal.returns-in-Leaf-Bool
returns-in-Leaf-Bool t c = put_boolean _ _ _ _ _ _ _ c.if-page-at.false _ c.node.result (seen c.in_ok-reached.reached c.node.result _ c.node.ensures c.in_ok-reached.ensures) _ c.in-Leaf-Bool.is c.in-Leaf-Bool.field-0-is

pub returns-in-Leaf-Integer : goal.returns-in-Leaf-Integer
returns-in-Leaf-Integer t c = put_integer _ _ _ _ _ _ _ c.if-page-at.false _ c.node.result (seen c.in_ok-reached.reached c.node.result _ c.node.ensures c.in_ok-reached.ensures) _ c.in-Leaf-Integer.is c.in-Leaf-Integer.field-0-is

pub returns-else-page-at-lt3 : goal.returns-else-page-at-lt3
returns-else-page-at-lt3 t c = rw c.to_le_bytes.ensures (put_named _ _ _ _ _ _ _ c.if-page-at.false _ c.node.result (seen c.in_ok-reached.reached c.node.result _ c.node.ensures c.in_ok-reached.ensures) _ c.in-Leaf-Given.is _ c.in-Leaf-Given.field-0-is (omega (arith, c.if-page-at-lt3.false, c.if-page-at.false)))

pub returns-in-Power : goal.returns-in-Power
returns-in-Power t c = c.lay.ensures ∙ put_power _ _ _ _ _ _ _ c.if-page-at.false _ c.node.result (seen c.in_ok-reached.reached c.node.result _ c.node.ensures c.in_ok-reached.ensures) _ c.in-Power.is

pub returns-in_ok-middle-in-Product : goal.returns-in_ok-middle-in-Product
returns-in_ok-middle-in-Product t c = c.lay-in-Product-2.ensures ∙ put_product _ _ _ _ _ _ _ c.if-page-at.false _ c.node.result (seen c.in_ok-reached.reached c.node.result _ c.node.ensures c.in_ok-reached.ensures) _ _ c.in-Product.is _ _ _ c.in_ok-middle-in-Product.ensures
