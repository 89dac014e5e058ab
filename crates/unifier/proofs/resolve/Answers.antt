use Rattle.std.proofs.Common.{◌∙◌, refl, sym, ap, arith, ◌≡◌, Some}
use Rattle.unification.specs.Code.{arrive-here, arrive_broken, arrive-short, arrive-next}
use Rattle.unifier.specs.Answers.{stem_is, cell_is, arrived}
use Rattle.unifier.specs.declared.Cell.TheVariants.{Is, Link}
use Rattle.unifier.proofs.resolve.Goals as goal

pub loop-node-init : goal.loop-node-init
loop-node-init c = refl

pub returns-in-None : goal.returns-in-None
unfolding cell_is arrived
returns-in-None c = sym (arrive_broken _ _ _ _ (sym c.cell_at.ensures ∙ ap cell_is c.in-None.is)) ∙ c.loop-node.invariant

pub returns-in-Some-Is : goal.returns-in-Some-Is
unfolding cell_is arrived stem_is
returns-in-Some-Is c =
    let n : c.cell_at.result ≡ Some (Is c.in-Some-Is.node) = grind arith in
    sym (arrive-here _ _ _ _ _ (sym c.cell_at.ensures ∙ ap cell_is n) c.in-Some-Is.node.is_root) ∙ c.loop-node.invariant

pub returns-then-left-eq0 : goal.returns-then-left-eq0
unfolding cell_is arrived
returns-then-left-eq0 c =
    let n : c.cell_at.result ≡ Some (Link c.in-Some-Link.next) = grind arith in
    sym (arrive-short _ _ _ _ _ (sym c.cell_at.ensures ∙ ap cell_is n) c.if-left-eq0.true) ∙ c.loop-node.invariant

pub loop-node-preserved : goal.loop-node-preserved
unfolding cell_is
loop-node-preserved c =
    let n : c.cell_at.result ≡ Some (Link c.in-Some-Link.next) = grind arith in
    sym (arrive-next _ _ _ _ _ (sym c.cell_at.ensures ∙ ap cell_is n) c.if-left-eq0.false) ∙ c.loop-node.invariant
