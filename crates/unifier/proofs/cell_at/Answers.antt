use Rattle.std.proofs.Common.{refl, sym, lt-ltb, le-ltb, ◌∙◌}
use Rattle.unification.specs.Kinds.{node-here, bad-below, bad_above}
use Rattle.unification.specs.Arena.{node_at, inside}
use Rattle.unifier.specs.Answers.{stem_is, cell_is}
use Rattle.unifier.proofs.cell_at.Goals as goal

pub returns-then-count-t : goal.returns-then-count-t
unfolding node_at inside cell_is
returns-then-count-t c = simp (le-ltb _ _ c.if-count-t.true)

pub returns-then-words-at : goal.returns-then-words-at
unfolding node_at inside cell_is
returns-then-words-at c = simp (lt-ltb _ _ c.if-count-t.false, le-ltb _ _ c.if-words-at.true)

pub returns-in-77 : goal.returns-in-77
unfolding cell_is
returns-in-77 c = sym (node-here _ _ _ c.if-count-t.false c.if-words-at.false ∙ rw c.in-77.is refl)

pub returns-in-78 : goal.returns-in-78
unfolding cell_is stem_is
returns-in-78 c = sym (node-here _ _ _ c.if-count-t.false c.if-words-at.false)

pub returns-in_default : goal.returns-in_default
unfolding cell_is
returns-in_default c = sym (node-here _ _ _ c.if-count-t.false c.if-words-at.false ∙ bad-below _ _ _ c.in_default.in_default-own.rest.0.1 c.in_default.in_default-own.rest.1 c.in_default.if-kind-lt64-own.true)

pub returns-in_default-2 : goal.returns-in_default-2
unfolding cell_is
returns-in_default-2 c = sym (node-here _ _ _ c.if-count-t.false c.if-words-at.false ∙ bad_above _ _ _ c.in_default.in_default-own.rest.0.1 c.in_default.in_default-own.rest.1 c.in_default.if-kind-lt69-own.false)
