use Rattle.std.proofs.Common.{◌≡◌, ◌-◌, length, replicate, arith, sym, ◌∙◌, refl}
use Rattle.std.proofs.lemmas.List.{length-replicate}
use Rattle.std.proofs.lemmas.Slice.{put_mid-paste}
use Rattle.memory.proofs.Laws.{all_same, paste-end}
use Rattle.memory.proofs.refill.Goals as goal

pub returns-after-loop-item : goal.returns-after-loop-item
returns-after-loop-item g c =
    let n = length c.args.items.now - c.args.from in
    let e : n ≡ length (replicate n c.args.value) = sym (length-replicate _ _) in
    put_mid-paste c.args.from n c.args.items.now _ (replicate n c.args.value) n (all_same c.args.value n _ (omega arith) (λ k h. c.loop-item.invariant k (omega arith))) refl e
    ∙ paste-end c.args.items.now c.args.from (replicate n c.args.value) n e refl (omega arith)
