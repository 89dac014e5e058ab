-- A list in which one value stands everywhere, laid over a list's end.
use Rattle.std.specs.Prelude.{ℕ, zero, suc, ◌+◌, ◌-◌, ◌≤◌, ◌<◌, ◌≡◌, refl, List, [], ◌∷◌, ◌++◌, length, take, drop, replicate, get_or}
use Rattle.std.proofs.Common.{ap, ◌∙◌, append-nil, arith, drop_of_length-le}
use Rattle.std.proofs.Math.Seq.{paste}
use Rattle.std.proofs.lemmas.List.Edits.{paste_all}

pub all_same : {X : Type 0} (v : X) (n : ℕ) (ys : List X) → length ys ≡ n → ((k : ℕ) → k < n → get_or ys k v ≡ v) → ys ≡ replicate n v
all_same v zero [] e f = refl
all_same v zero (y ∷ ys) e f = absurd (omega arith)
all_same v (suc n) [] e f = absurd (omega arith)
all_same {X} v (suc n) (y ∷ ys) e f =
    let g : y ≡ v = f 0 (omega arith) in
    let h : ys ≡ replicate n v = all_same v n ys (omega arith) (λ k b. f (suc k) (omega arith)) in
    rw (g, h) refl

pub paste-end : {X : Type 0} (l : List X) (from : ℕ) (zs : List X) (n : ℕ) → n ≡ length zs → n ≡ length l - from → from ≤ length l → paste l from zs n ≡ take from l ++ zs
paste-end {X} l from zs n e f h =
    let g : drop (from + n) l ≡ [] = drop_of_length-le l {i = from + n} (omega arith) in
    paste_all l from zs n e ∙ rw g (ap (λ (r : List X). take from l ++ r) (append-nil zs))
