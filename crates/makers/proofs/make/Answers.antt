use Rattle.std.proofs.Common.{sym, lt-ltb, le-ltb, ◌∙◌}
use Rattle.types.specs.Code.{atom_is}
use Rattle.unification.specs.Arena.{choose}
use Rattle.unification.specs.Make.{build, build-power, build-pair}
use Rattle.makers.proofs.make.Goals as goal

pub returns-in-Unknown : goal.returns-in-Unknown
unfolding build
returns-in-Unknown c = rw c.in-Unknown.is c.push.ensures

pub returns-in-Leaf-Bool : goal.returns-in-Leaf-Bool
unfolding build atom_is
returns-in-Leaf-Bool c = rw (c.in-Leaf-Bool.is, rw c.in-Leaf-Bool.is at c.in-Leaf-Bool.field-0-is) c.push-in-Leaf-Bool.ensures

pub returns-in-Leaf-Integer : goal.returns-in-Leaf-Integer
unfolding build atom_is
returns-in-Leaf-Integer c = rw (c.in-Leaf-Integer.is, rw c.in-Leaf-Integer.is at c.in-Leaf-Integer.field-0-is) c.push-in-Leaf-Integer.ensures

pub returns-in-Leaf-Given : goal.returns-in-Leaf-Given
unfolding build atom_is
returns-in-Leaf-Given c = rw (c.in-Leaf-Given.is, rw c.in-Leaf-Given.is at c.in-Leaf-Given.field-0-is) c.push-in-Leaf-Given.ensures

pub returns-in-Power : goal.returns-in-Power
returns-in-Power c = rw c.in-Power.is (c.push-in-Power.ensures ∙ sym (build-power _ _ _ c.if-base-count.true))

pub returns-in-Product : goal.returns-in-Product
returns-in-Product c = rw c.in-Product.is (c.push-in-Product.ensures ∙ sym (build-pair _ _ _ _ c.if-left-count.true c.if-right-count.true))

pub returns-in_default : goal.returns-in_default
unfolding build choose
returns-in_default c = simp (c.in-Power.is, le-ltb _ _ c.if-base-count.false)

pub returns-in_default-2 : goal.returns-in_default-2
unfolding build choose
returns-in_default-2 c = simp (c.in-Product.is, lt-ltb _ _ c.if-left-count.true, le-ltb _ _ c.if-right-count.false)

pub returns-in_default-3 : goal.returns-in_default-3
unfolding build choose
returns-in_default-3 c = simp (c.in-Product.is, le-ltb _ _ c.if-left-count.false)
