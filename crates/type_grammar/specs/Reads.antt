-- Every text that denotes a type is read to it (`whole-is-read`, `denoted_is-read`); so a text denotes one type at most (`denotes-one`).
use Prim.Native.Nat.{ℕ, zero, suc, ◌+◌, ◌-◌, ◌≤◌}
use Rattle.std.proofs.Common.{add-zero, zero-add, sym, ◌∙◌, eq-eqb}
use native.Mathlib.Omega.{arith}
use Rattle.std.specs.Prelude.{◌≡◌, refl, Bool, true, false, ◌&&◌, get_or, Option, Some, None}
use Rattle.std.proofs.Math.Path.{ap}
use mathlib.Core.List.{List, [], ◌∷◌, ◌++◌, append_assoc, append-nil}
use Rattle.std.proofs.Math.ListN.{length, drop, length-append, length-drop}
use Rattle.std.proofs.Math.Seq.{drop-length}
use Rattle.types.specs.Ty.{Atom, Ty, base, pow, prod, AtomBelow, bool-below, int-below, given_below, Below}
use Rattle.types.specs.Ty as T
use Rattle.types.specs.Record.{TypeAt, got, and_then}
use Rattle.types.specs.Code.{atom_is}
use Rattle.types.specs.Spellings.{past}
use Rattle.types.specs.declared.Atom as C
use Rattle.types.specs.declared.Atom.TheVariants as A
use Rattle.name_table.specs.Words.{between, letter, word_byte, all_word, is_word, same}
use Rattle.name_table.specs.Laws.{Usable}
use Rattle.type_grammar.specs.declared.Token.{Token}
use Rattle.type_grammar.specs.declared.Token.TheVariants.{Leaf, Power, Open, Close, Times}
use Rattle.type_grammar.specs.Text.{power_open, bracket_open, bracket_close, times, text_atom}
use Rattle.type_grammar.specs.Token.{starts, word_of, name_token, word_token, word_token_at, sign_token, token_of, token_at}
use Rattle.type_grammar.specs.Grammar.{Denotes, leaf, in_power, in_brackets, single, further, Sort, whole, operand}
use Rattle.type_grammar.specs.Parse.{closing, operand_by, times_by, times_on, product_by, operand_of, product_of, ends_at, parse}

-- ---- words

and_left : (a b : Bool) → (a && b) ≡ true → a ≡ true
and_left true b e = refl
and_left false b e = e

and_right : (a b : Bool) → (a && b) ≡ true → b ≡ true
and_right true b e = e
and_right false b e = absurd (let y : ◌≡◌ {A = ℕ} 0 1 = cc in omega arith)

letter-word : (c : ℕ) → letter c ≡ true → word_byte c ≡ true
unfolding word_byte
letter-word c e = rw e

pub word-append : (w rest : List ℕ) → all_word w ≡ true → word_of rest ≡ [] → word_of (w ++ rest) ≡ w
unfolding word_of all_word
word-append [] rest e h = h
word-append (c ∷ w) rest e h = rw (and_left (word_byte c) (all_word w) e) (ap (λ (l : List ℕ). c ∷ l) (word-append w rest (and_right (word_byte c) (all_word w) e) h))

word_token_lem : (ns : List (List ℕ)) (p : ℕ) (w rest : List ℕ) → is_word w ≡ true → word_of rest ≡ [] → token_of ns p (w ++ rest) ≡ word_token ns p w
unfolding token_of is_word all_word
word_token_lem ns p [] rest e h = absurd (let y : ◌≡◌ {A = ℕ} 0 1 = cc in omega arith)
word_token_lem ns p (c ∷ w) rest e h =
    let l = and_left (letter c) (all_word w) e in
    rw l (ap (word_token ns p) (word-append (c ∷ w) rest (rw (letter-word c l) (and_right (letter c) (all_word w) e)) h))

-- ---- tokens

-- an atom as the code has it
unfoldable pub code_atom : Atom → C.Atom
code_atom T.bool = A.Bool
code_atom T.int = A.Integer
code_atom (T.given n) = A.Given (record { 0 = n })

pub atom-is : (a : Atom) → atom_is (code_atom a) ≡ a
unfolding atom_is code_atom
atom-is T.bool = refl
atom-is T.int = refl
atom-is (T.given n) = refl

pub atom_token : (ns : List (List ℕ)) → Usable ns → {a : Atom} → AtomBelow (length ns) a → (p : ℕ) (rest : List ℕ) → word_of rest ≡ [] → token_of ns p (text_atom ns a ++ rest) ≡ Some (Leaf (code_atom a) (p + length (text_atom ns a)))
unfolding text_atom token_of word_token_at word_token sign_token word_of letter word_byte between starts same name_token code_atom
atom_token ns u bool-below p rest h = rw h
atom_token ns u int-below p rest h = refl
atom_token ns u (given_below {n} k) p rest h =
    word_token_lem ns p (get_or ns n []) rest (u.word n k) h
    ∙ rw (u.unreserved n k, u.found n k)

pub power_token : (ns : List (List ℕ)) (p : ℕ) (rest : List ℕ) → token_of ns p (power_open ++ rest) ≡ Some (Power (p + 4))
unfolding token_of sign_token letter between starts
power_token ns p rest = refl

pub open_token : (ns : List (List ℕ)) (p : ℕ) (rest : List ℕ) → token_of ns p (bracket_open ++ rest) ≡ Some (Open (p + 1))
unfolding token_of sign_token letter between starts
open_token ns p rest = refl

pub close_token : (ns : List (List ℕ)) (p : ℕ) (rest : List ℕ) → token_of ns p (bracket_close ++ rest) ≡ Some (Close (p + 1))
unfolding token_of sign_token letter between starts
close_token ns p rest = refl

pub times_token : (ns : List (List ℕ)) (p : ℕ) (rest : List ℕ) → token_of ns p (times ++ rest) ≡ Some (Times (p + 2))
unfolding token_of sign_token letter between starts
times_token ns p rest = refl

close_ends : (rest : List ℕ) → word_of (bracket_close ++ rest) ≡ []
unfolding word_of letter word_byte between
close_ends rest = refl

times-ends : (rest : List ℕ) → word_of (times ++ rest) ≡ []
unfolding word_of letter word_byte between
times-ends rest = refl

nothing_ends : word_of [] ≡ []
unfolding word_of
nothing_ends = refl

-- ---- places

-- the token at a place
pub token_here : (ns : List (List ℕ)) (s : List ℕ) (p : ℕ) (l : List ℕ) (k : Option Token) → drop p s ≡ l → token_of ns p l ≡ k → token_at ns s p ≡ k
unfolding token_at
token_here ns s p l k h e = ap (token_of ns p) h ∙ e

-- ---- reading

-- the products of a derivation at its own level
unfoldable pub turns : {ns : List (List ℕ)} {pl : Sort} {d : ℕ} {x : List ℕ} {t : Ty} → Denotes ns pl d x t → ℕ
turns (leaf k) = 0
turns (in_power w) = 0
turns (in_brackets w) = 0
turns (single o) = 0
turns (further w o) = suc (turns w)

turns-few : {ns : List (List ℕ)} {pl : Sort} {d : ℕ} {x : List ℕ} {t : Ty} (w : Denotes ns pl d x t) → turns w ≤ length x
unfolding turns
turns-few (leaf k) = omega arith
turns-few (in_power w) = omega arith
turns-few (in_brackets w) = omega arith
turns-few (single o) = omega arith
turns-few (further {x = x} {y = y} w o) = omega (arith, turns-few w, length-append x (times ++ y))

times_close : (rd : ℕ → TypeAt) (tok : ℕ → Option Token) (n : ℕ) (t : Ty) (e q : ℕ) → tok e ≡ Some (Close q) → times_by rd tok n t e ≡ got t e
unfolding times_by times_on
times_close rd tok zero t e q h = refl
times_close rd tok (suc n) t e q h = rw h

times-end : (rd : ℕ → TypeAt) (tok : ℕ → Option Token) (n : ℕ) (t : Ty) (e : ℕ) → tok e ≡ None → times_by rd tok n t e ≡ got t e
unfolding times_by times_on
times-end rd tok zero t e h = refl
times-end rd tok (suc n) t e h = rw h

times_more : (rd : ℕ → TypeAt) (tok : ℕ → Option Token) (n : ℕ) (t b : Ty) (e q f : ℕ) → tok e ≡ Some (Times q) → rd q ≡ got b f → times_by rd tok (suc n) t e ≡ times_by rd tok n (prod t b) f
unfolding times_by times_on and_then
times_more rd tok n t b e q f h g = rw (h, g)

product-first : (rd : ℕ → TypeAt) (tok : ℕ → Option Token) (n p : ℕ) (t : Ty) (e : ℕ) → rd p ≡ got t e → product_by rd tok n p ≡ times_by rd tok n t e
unfolding product_by and_then
product-first rd tok n p t e h = rw h

module _ (ns : List (List ℕ)) (s : List ℕ) (d p q : ℕ) where
  operand-leaf : (a : C.Atom) → token_at ns s p ≡ Some (Leaf a q) → operand_of (suc d) ns s p ≡ got (base (atom_is a)) q
  unfolding operand_of operand_by
  operand-leaf a h = rw h

  operand-power : (t : Ty) (e f : ℕ) → token_at ns s p ≡ Some (Power q) → product_of d ns s q ≡ got t e → token_at ns s e ≡ Some (Close f) → operand_of (suc d) ns s p ≡ got (pow t) f
  unfolding operand_of operand_by product_of and_then closing
  operand-power t e f h g k = rw (h, g, k)

  operand_open : (t : Ty) (e f : ℕ) → token_at ns s p ≡ Some (Open q) → product_of d ns s q ≡ got t e → token_at ns s e ≡ Some (Close f) → operand_of (suc d) ns s p ≡ got t f
  unfolding operand_of operand_by product_of and_then closing
  operand_open t e f h g k = rw (h, g, k)

-- an operand's bytes are read to its type; a product's, by as many turns as it has products, up to where the turns go on
unfoldable pub Reads : List (List ℕ) → List ℕ → Sort → ℕ → List ℕ → Ty → ℕ → Type 0
Reads ns s operand d x t k =
    (p : ℕ) (rest : List ℕ) → drop p s ≡ x ++ rest → word_of rest ≡ [] → operand_of (suc d) ns s p ≡ got t (p + length x)
Reads ns s whole d x t k =
    (n p : ℕ) (rest : List ℕ) → drop p s ≡ x ++ rest → word_of rest ≡ []
    → product_by (operand_of (suc d) ns s) (token_at ns s) (n + k) p ≡ times_by (operand_of (suc d) ns s) (token_at ns s) n t (p + length x)

module _ (ns : List (List ℕ)) (s : List ℕ) where
  -- a product up to its bracket
  inner_reads : {d : ℕ} {x : List ℕ} {t : Ty} (w : Denotes ns whole d x t) → Reads ns s whole d x t (turns w) → (q : ℕ) (rest : List ℕ) → drop q s ≡ x ++ (bracket_close ++ rest) → product_of (suc d) ns s q ≡ got t (q + length x)
  unfolding Reads product_of
  inner_reads {d} {x} {t} w ih q rest h =
      let few : turns w ≤ length s = omega (arith, turns-few w, length-append x (bracket_close ++ rest), ap length h, length-drop q s) in
      let e : (length s - turns w) + turns w ≡ length s = omega arith in
      let r = ih (length s - turns w) q (bracket_close ++ rest) h (close_ends rest) in
      ap (λ (n : ℕ). product_by (operand_of (suc d) ns s) (token_at ns s) n q) (sym e)
      ∙ r
      ∙ times_close _ _ _ _ _ _ (token_here ns s _ _ _ (past s q x _ h) (close_token ns _ rest))

  pub reads : Usable ns → {pl : Sort} {d : ℕ} {x : List ℕ} {t : Ty} (w : Denotes ns pl d x t) → Reads ns s pl d x t (turns w)
  unfolding Reads turns
  reads u (leaf {a = a} k) = λ p rest h r. operand-leaf ns s _ p _ (code_atom a) (token_here ns s p _ _ h (atom_token ns u k p rest r)) ∙ ap (λ (b : Atom). got (base b) (p + length (text_atom ns a))) (atom-is a)
  reads u (in_power {d = d} {x = x} {t = t} w) = λ p rest h r.
      let h' : drop p s ≡ power_open ++ (x ++ (bracket_close ++ rest)) = h ∙ ap (λ (l : List ℕ). power_open ++ l) (append_assoc x bracket_close rest) in
      let g = past s p power_open _ h' in
      operand-power ns s (suc d) p (p + 4) t (p + 4 + length x) (p + 4 + length x + 1)
      (token_here ns s p _ _ h' (power_token ns p _))
      (inner_reads w (reads u w) (p + 4) rest g)
      (token_here ns s _ _ _ (past s (p + 4) x _ g) (close_token ns _ rest))
      ∙ ap (got (pow t)) (omega (arith, length-append x bracket_close))
  reads u (in_brackets {d = d} {x = x} {t = t} w) = λ p rest h r.
      let h' : drop p s ≡ bracket_open ++ (x ++ (bracket_close ++ rest)) = h ∙ ap (λ (l : List ℕ). bracket_open ++ l) (append_assoc x bracket_close rest) in
      let g = past s p bracket_open _ h' in
      operand_open ns s (suc d) p (p + 1) t (p + 1 + length x) (p + 1 + length x + 1)
      (token_here ns s p _ _ h' (open_token ns p _))
      (inner_reads w (reads u w) (p + 1) rest g)
      (token_here ns s _ _ _ (past s (p + 1) x _ g) (close_token ns _ rest))
      ∙ ap (got t) (omega (arith, length-append x bracket_close))
  reads u (single {d = d} {x = x} {t = t} o) = λ n p rest h r.
      ap (λ (m : ℕ). product_by (operand_of (suc d) ns s) (token_at ns s) m p) (add-zero n)
      ∙ product-first _ _ n p t _ (reads u o p rest h r)
  reads u (further {d = d} {x = x} {y = y} {t = a} {u = b} w o) = λ n p rest h r.
      let h' : drop p s ≡ x ++ (times ++ (y ++ rest)) = h ∙ append_assoc x (times ++ y) rest in
      let g = past s p x _ h' in
      let k = past s (p + length x) times _ g in
      ap (λ (m : ℕ). product_by (operand_of (suc d) ns s) (token_at ns s) m p) (let e : n + suc (turns w) ≡ suc n + turns w = omega arith in e)
      ∙ reads u w (suc n) p (times ++ (y ++ rest)) h' (times-ends _)
      ∙ times_more _ _ n a b (p + length x) (p + length x + 2) (p + length x + 2 + length y)
      (token_here ns s _ _ _ g (times_token ns _ _))
      (reads u o (p + length x + 2) rest k r)
      ∙ ap (times_by (operand_of (suc d) ns s) (token_at ns s) n (prod a b)) (omega (arith, length-append x (times ++ y)))

nothing_token : (ns : List (List ℕ)) (p : ℕ) → token_of ns p [] ≡ None
unfolding token_of
nothing_token ns p = refl

-- a whole text, at any limit of brackets
pub whole-is-read : (ns : List (List ℕ)) → Usable ns → (d : ℕ) (x : List ℕ) (t : Ty) → Denotes ns whole d x t → product_of (suc d) ns x 0 ≡ got t (length x)
unfolding product_of Reads
whole-is-read ns u d x t w =
    let e : (length x - turns w) + turns w ≡ length x = omega (arith, turns-few w) in
    let r = reads ns x u w (length x - turns w) 0 [] (sym (append-nil x)) nothing_ends in
    let z = token_here ns x (0 + length x) [] None (ap (λ (n : ℕ). drop n x) (zero-add (length x)) ∙ drop-length x) (nothing_token ns _) in
    ap (λ (n : ℕ). product_by (operand_of (suc d) ns x) (token_at ns x) n 0) (sym e) ∙ r ∙ times-end _ _ _ _ _ z ∙ ap (got t) (zero-add (length x))

-- a text that denotes a type, with at most 32 brackets open, is read to it
pub denoted_is-read : (ns : List (List ℕ)) → Usable ns → (x : List ℕ) (t : Ty) → Denotes ns whole 32 x t → parse ns x ≡ got t (length x)
unfolding parse and_then ends_at
denoted_is-read ns u x t w = rw (whole-is-read ns u 32 x t w, eq-eqb (length x) (length x) refl)

-- a text denotes one type at most
pub denotes-one : (ns : List (List ℕ)) → Usable ns → (d : ℕ) (x : List ℕ) (t v : Ty) → Denotes ns whole d x t → Denotes ns whole d x v → t ≡ v
denotes-one ns u d x t v w z =
    let p = whole-is-read ns u d x t w in
    let q = whole-is-read ns u d x v z in
    cc
