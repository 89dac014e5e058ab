use Rattle.unification.specs.Code.{task_right, task_plain}
use Rattle.std.proofs.Common.{inl, inr, sym, eq-eqb, ne_eqb}
use Rattle.unification.specs.Kinds.{no_seventh}
use Rattle.unification.specs.Arena.{meet, same_atom, verdict_of}
use Rattle.unification.specs.Kinds.{meet-differ}
use Rattle.unification.specs.Tasks.{task_of}
use Rattle.unifier.specs.Answers.{stem_is}
use Rattle.unifier.proofs.compare.Goals as goal

pub returns-then-x-eq-UNKNOWN : goal.returns-then-x-eq-UNKNOWN
unfolding task_of meet stem_is same_atom verdict_of
returns-then-x-eq-UNKNOWN c = rw c.if-x-eq-UNKNOWN.true

pub returns-then-y-eq-UNKNOWN : goal.returns-then-y-eq-UNKNOWN
unfolding stem_is
returns-then-y-eq-UNKNOWN c = sym (task_right _ _ _ _ _ _ _ _ c.args.first.node.is_root c.if-x-eq-UNKNOWN.false c.if-y-eq-UNKNOWN.true)

pub returns-then-x-y : goal.returns-then-x-y
unfolding task_of stem_is
returns-then-x-y c = rw (meet-differ _ _ _ _ _ _ c.if-x-eq-UNKNOWN.false c.if-y-eq-UNKNOWN.false c.if-x-y.true)

pub returns-then-x-y-2 : goal.returns-then-x-y-2
unfolding task_of meet stem_is same_atom verdict_of
returns-then-x-y-2 c = rw (sym c.if-x-y.false, c.in-66.is, eq-eqb _ _ c.if-x-y-2.true)

pub returns-else-x-y-2 : goal.returns-else-x-y-2
unfolding task_of meet stem_is same_atom verdict_of
returns-else-x-y-2 c = rw (sym c.if-x-y.false, c.in-66.is, ne_eqb _ _ c.if-x-y-2.false)

pub returns-in-67 : goal.returns-in-67
unfolding task_of meet stem_is same_atom verdict_of
returns-in-67 c = rw (sym c.if-x-y.false, c.in-67.is)

pub returns-in-68 : goal.returns-in-68
unfolding task_of meet stem_is same_atom verdict_of
returns-in-68 c = rw (sym c.if-x-y.false, c.in-68.is)

pub returns-in-64-to-65 : goal.returns-in-64-to-65
unfolding stem_is
returns-in-64-to-65 c = sym (task_plain _ _ _ _ _ _ _ _ c.in-64-to-65.if-kind-lt64-own.false c.in-64-to-65.if-kind-lt66-own.true c.if-x-y.false)

pub returns-in_default : goal.returns-in_default
unfolding stem_is
returns-in_default c = absurd (no_seventh _ _ _ c.args.first.node.is_root c.if-x-eq-UNKNOWN.false c.in_default.in_default-own.rest.0.0.1 c.in_default.in_default-own.rest.0.1 c.in_default.in_default-own.rest.1 (inl c.in_default.if-kind-lt64-own.true))

pub returns-in_default-2 : goal.returns-in_default-2
unfolding stem_is
returns-in_default-2 c = absurd (no_seventh _ _ _ c.args.first.node.is_root c.if-x-eq-UNKNOWN.false c.in_default.in_default-own.rest.0.0.1 c.in_default.in_default-own.rest.0.1 c.in_default.in_default-own.rest.1 (inr c.in_default.if-kind-lt66-own.false))
