-- Where the bytes of a stream are known: going past them, and that they lie inside.
use Rattle.std.specs.Prelude.{ℕ, ◌+◌, ◌≤◌, ◌<◌, ◌≡◌, List, ◌++◌, length, drop}
use Rattle.std.proofs.Common.{sym, ◌∙◌, ap, arith, length-drop, length-append, drop-drop}
use Rattle.std.proofs.Math.Seq.{drop-append_seam}

-- past the bytes known
pub drop_past : (s xs ys : List ℕ) (p : ℕ) → drop p s ≡ xs ++ ys → drop (p + length xs) s ≡ ys
drop_past s xs ys p e = sym (drop-drop (length xs) p s) ∙ ap (drop (length xs)) e ∙ drop-append_seam xs ys

-- bytes that are there lie inside
pub end-inside : (s xs ys : List ℕ) (p : ℕ) → 0 < length xs → drop p s ≡ xs ++ ys → p + length xs ≤ length s
end-inside s xs ys p l e =
    let a = length-drop p s in
    let b : length (drop p s) ≡ length xs + length ys = ap length e ∙ length-append xs ys in
    omega arith
