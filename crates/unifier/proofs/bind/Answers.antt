use Rattle.std.proofs.Common.{◌≡◌, Err, sym, ap, ◌∙◌, arith}
use Rattle.unification.specs.Arena.{Words, bind_at, merge_at}
use Rattle.unification.proofs.Merge.{merge_plain, merge_below, merge_above, merge_last, merge_level}
use Rattle.unification.proofs.CodeLaws.{assign_circular}
use Rattle.unifier.proofs.Laws.{assign-halted, assign-merged}
use Rattle.unifier.proofs.bind.Goals.{then-mine-other+then-other-lt32, else-mine-other, else-mine-other-via-then-mine-other+else-other-lt32, else-mine-other-via-else-mine-other}
use Rattle.unifier.proofs.bind.Goals as goal

pub returns-then-words-q-ne-UNKNOWN : goal.returns-then-words-q-ne-UNKNOWN
returns-then-words-q-ne-UNKNOWN c = assign-merged _ _ _ _ _ _ _ (rw c.if-branch.false at c.in_ok-seek.ensures) (c.link.ensures ∙ sym (merge_plain _ _ _ _ c.if-words-q-ne-UNKNOWN.true))

pub returns-then-other-mine : goal.returns-then-other-mine
returns-then-other-mine c = assign-merged _ _ _ _ _ _ _ (rw c.if-branch.false at c.in_ok-seek.ensures) (c.link-then-other-mine.ensures ∙ sym (merge_below _ _ _ _ c.requires.t_lt_count c.requires.t_in_bounds (omega (arith, c.if-words-q-ne-UNKNOWN.false)) c.if-other-mine.true))

pub returns-in_err-seek : goal.returns-in_err-seek
returns-in_err-seek c =
    let r : c.from_residual.result ≡ Err c.in_err-seek.field-0.0 = grind arith in
    rw r (assign-halted _ _ _ _ _ _ c.in_err-seek.ensures)

pub returns-then-branch : goal.returns-then-branch
returns-then-branch c = sym (assign_circular _ _ _ _ _ _ (sym (rw c.if-branch.true at c.in_ok-seek.ensures)))

pub returns : goal.returns
returns c =
    let k = c.requires.t_lt_count in
    let i = c.requires.t_in_bounds in
    let b : (ws : Words) → c.if-mine-other.words ≡ ws → bind_at ws c.args.v.0 c.args.t.0 ≡ merge_at c.args.words.now c.args.count c.args.v.0 c.args.t.0 → c.link-2.new.words ≡ merge_at c.args.words.now c.args.count c.args.v.0 c.args.t.0 = λ ws e h. c.link-2.ensures ∙ ap (λ (us : Words). bind_at us c.args.v.0 c.args.t.0) e ∙ h in
    assign-merged _ _ _ _ _ _ _ (rw c.if-branch.false at c.in_ok-seek.ensures) (elim c.if-mine-other.branch [
      | then-mine-other+then-other-lt32 w ↦ b _ w.words-is (sym (merge_level _ _ _ _ k i (omega (arith, c.if-words-q-ne-UNKNOWN.false)) (omega (arith, w.if-mine-other.true)) w.if-other-lt32.true))
      | else-mine-other w ↦ b _ w.words-is (elim w.else-mine-other.branch [
        | else-mine-other-via-then-mine-other+else-other-lt32 x ↦ sym (merge_last _ _ _ _ k i (omega (arith, c.if-words-q-ne-UNKNOWN.false)) (omega (arith, x.if-mine-other.true)) (omega (arith, x.if-other-lt32.false)))
        | else-mine-other-via-else-mine-other x ↦ sym (merge_above _ _ _ _ k i (omega (arith, c.if-words-q-ne-UNKNOWN.false)) (omega (arith, x.if-mine-other.false, c.if-other-mine.false)))
      ])
    ])
