-- The canonical text of a type denotes it. So reading what was written gives the type (`text-is-read`),
-- and two types share a text only if they are equal (`text-one`).
use Rattle.std.specs.Prelude.{ℕ, zero, suc, ◌+◌, ◌≤◌, max, ◌≡◌, List, ◌++◌, length}
use Rattle.std.proofs.Common.{arith}
use Rattle.types.specs.Ty.{Ty, base, pow, prod, Below}
use Rattle.types.specs.Record.{got}
use Rattle.name_table.specs.Laws.{Usable}
use Rattle.type_grammar.specs.Text.{power_open, bracket_close, times, text, bracketed, nest, nest_right}
use Rattle.type_grammar.specs.Grammar.{Denotes, leaf, in_power, in_brackets, single, further, whole, operand}
use Rattle.type_grammar.specs.Parse.{parse}
use Rattle.type_grammar.specs.Reads.{denoted_is-read, denotes-one}

canonical : (ns : List (List ℕ)) (t : Ty) → Below (length ns) t → ((d : ℕ) → nest t ≤ d → Denotes ns whole d (text ns t) t) × ((d : ℕ) → nest_right t (nest t) ≤ d → Denotes ns operand d (bracketed t (text ns t)) t)
unfolding Below nest nest_right text bracketed
canonical ns (base a) k = (λ d h. single (leaf k), λ d h. leaf k)
canonical ns (pow t) k =
    let ih = canonical ns t k in
    let f : (d : ℕ) → suc (nest t) ≤ d → Denotes ns operand d (power_open ++ (text ns t ++ bracket_close)) (pow t) =
    λ d h. deeper d h (λ e g. in_power (ih.0 e g)) in
    (λ d h. single (f d h), f)
  where
    deeper : {n : ℕ} {x : List ℕ} {u : Ty} (d : ℕ) → suc n ≤ d → ((e : ℕ) → n ≤ e → Denotes ns operand (suc e) x u) → Denotes ns operand d x u
    deeper zero h f = absurd (omega arith)
    deeper (suc d) h f = f d (omega arith)
canonical ns (prod a b) k =
    let f : (d : ℕ) → max (nest a) (nest_right b (nest b)) ≤ d → Denotes ns whole d (text ns a ++ (times ++ bracketed b (text ns b))) (prod a b) =
    λ d h. further ((canonical ns a k.0).0 d (omega arith)) ((canonical ns b k.1).1 d (omega arith)) in
    (f, λ d h. deeper d h (λ e g. in_brackets (f e g)))
  where
    deeper : {n : ℕ} {x : List ℕ} {u : Ty} (d : ℕ) → suc n ≤ d → ((e : ℕ) → n ≤ e → Denotes ns operand (suc e) x u) → Denotes ns operand d x u
    deeper zero h f = absurd (omega arith)
    deeper (suc d) h f = f d (omega arith)

pub text-denotes : (ns : List (List ℕ)) (t : Ty) → Below (length ns) t → (d : ℕ) → nest t ≤ d → Denotes ns whole d (text ns t) t
text-denotes ns t k = (canonical ns t k).0

-- with at most 32 brackets open, reading what was written gives the type
pub text-is-read : (ns : List (List ℕ)) → Usable ns → (t : Ty) → Below (length ns) t → nest t ≤ 32 → parse ns (text ns t) ≡ got t (length (text ns t))
text-is-read ns u t k h = denoted_is-read ns u (text ns t) t (text-denotes ns t k 32 h)

-- two types share a text only if they are equal
pub text-one : (ns : List (List ℕ)) → Usable ns → (t v : Ty) → Below (length ns) t → Below (length ns) v → text ns t ≡ text ns v → t ≡ v
text-one ns u t v k l e =
    let d = nest t + nest v in
    denotes-one ns u d (text ns v) t v (rw e at (text-denotes ns t k d (omega arith))) (text-denotes ns v l d (omega arith))
