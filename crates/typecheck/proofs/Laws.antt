-- Small facts for the proofs of this crate.
use Rattle.std.proofs.Common.{ℕ, ◌+◌, ◌-◌, ◌<◌, sym, ap, ap₂, arith, List, ◌++◌, ◌≡◌, ◌∙◌, length, take, drop, replicate, le_of_lt, length-take-le, drop_of_length-le}
use Rattle.std.proofs.Math.Decide.{dec_lt}
use Rattle.std.proofs.Math.Seq.{take_all, take_at, drop_at}
use Rattle.std.proofs.lemmas.List.{append-nil, length-drop}
use Rattle.machine.specs.Machine.{mach, whole, start_of}
use Rattle.memory.specs.Memory.{cleared}
use Prim.Native.Nat.{min}

-- the smaller of two lengths
pub take_least : (n a : ℕ) (l : List ℕ) → n ≡ min (length l) a → take n l ≡ take a l
take_least n a l e = go (dec_lt a (length l))
  where
    go : Dec (a < length l) → take n l ≡ take a l
    go (yes q) = let k : n ≡ a = omega arith in ap (λ (i : ℕ). take i l) k
    go (no q) = let k : n ≡ length l = omega arith in ap (λ (i : ℕ). take i l) k ∙ take_all (length l) l (omega arith) ∙ sym (take_all a l (omega arith))

-- the words split at k, the arena's size or all of them: they are the two parts of the words cleared from there
record Split (size k : ℕ) (w : List ℕ) : Type 0 where
  pub arena : take k w ≡ take size (cleared size w)
  pub book : cleared 0 (drop k w) ≡ drop size (cleared size w)

split : (size k : ℕ) (w : List ℕ) → k ≡ min (length w) size → Split size k w
split size k w e = go (dec_lt size (length w))
  where
    zeros : List ℕ
    zeros = replicate (length w - size) 0

    go : Dec (size < length w) → Split size k w
    go (yes q) =
        let s : k ≡ size = omega arith in
        let u : length (drop size w) - 0 ≡ length w - size = omega (arith, length-drop size w) in
        let l : length (take size w) ≡ size = length-take-le size w (le_of_lt q) in
        record {
          arena = ap (λ (i : ℕ). take i w) s ∙ sym (take_at (take size w) zeros size l);
          book = ap (λ (i : ℕ). cleared 0 (drop i w)) s ∙ ap (λ (i : ℕ). replicate i 0) u ∙ sym (drop_at (take size w) zeros size l);
        }
    go (no q) =
        let s : k ≡ length w = omega arith in
        let z : length w - size ≡ 0 = omega arith in
        let f : cleared size w ≡ w = ap (λ (i : ℕ). take size w ++ replicate i 0) z ∙ append-nil (take size w) ∙ take_all size w (omega arith) in
        record {
          arena = ap (λ (i : ℕ). take i w) s ∙ take_all (length w) w (omega arith) ∙ sym (take_all size w (omega arith)) ∙ ap (take size) (sym f);
          book = ap (cleared 0) (drop_of_length-le w {i = k} (omega arith)) ∙ sym (drop_of_length-le w {i = size} (omega arith)) ∙ ap (drop size) (sym f);
        }

-- the machine that the walk begins with, over the first n words
pub begins : (size n k budget : ℕ) (work book out : List ℕ) → n ≡ min (length work) (size + 4096) → k ≡ min n size → book ≡ cleared 0 (drop k (take n work))
    → whole (start_of budget) (take k (take n work)) book out ≡ mach size (start_of budget) (cleared size (take (size + 4096) work)) out
begins size n k budget work book out e f g =
    let l : length (take n work) ≡ n = length-take-le n work (omega arith) in
    let s = split size k (take n work) (f ∙ ap (λ (i : ℕ). min i size) (sym l)) in
    ap₂ (λ (a b : List ℕ). whole (start_of budget) a b out) s.arena (g ∙ s.book)
    ∙ ap (λ (w : List ℕ). mach size (start_of budget) (cleared size w) out) (take_least n (size + 4096) work e)
