-- `head_at` answers the head that stands at an offset: one law of `specs/Steps` for each kind of record.
use Rattle.std.proofs.Common.{rules, sym, ◌∙◌}
use Rattle.types.specs.Steps.{head-none, head-bool, head-integer, head-given, head-power, head-product, head-other}
use Rattle.types.proofs.head_at.Goals as goal

pub returns-in_err-get : goal.returns-in_err-get
returns-in_err-get c = rw c.from_residual.ensures (head-none _ _ _ c.in_err-get.ensures.lookup.3)

pub returns-in-64 : goal.returns-in-64
returns-in-64 c = head-bool _ _ _ c.in_ok-get.ensures.lookup.3.0 (sym (c.in_ok-get.ensures.lookup.3.1 0) ∙ c.in-64.is)

pub returns-in-65 : goal.returns-in-65
returns-in-65 c = head-integer _ _ _ c.in_ok-get.ensures.lookup.3.0 (sym (c.in_ok-get.ensures.lookup.3.1 0) ∙ c.in-65.is)

pub returns-in-66 : goal.returns-in-66
returns-in-66 c = head-given _ _ _ c.in_ok-get.ensures.lookup.3.0 _ (sym (c.in_ok-get.ensures.lookup.3.1 0) ∙ c.in-66.is) c.given_at.ensures

pub returns-in-67 : goal.returns-in-67
returns-in-67 c = head-power _ _ _ c.in_ok-get.ensures.lookup.3.0 (sym (c.in_ok-get.ensures.lookup.3.1 0) ∙ c.in-67.is)

pub returns-in-68 : goal.returns-in-68
returns-in-68 c = head-product _ _ _ c.in_ok-get.ensures.lookup.3.0 (sym (c.in_ok-get.ensures.lookup.3.1 0) ∙ c.in-68.is)

pub returns-in_default : goal.returns-in_default
returns-in_default c = head-other _ _ _ c.in_ok-get.ensures.lookup.3.0 (search rules) (search rules) (search rules) (search rules) (search rules)
