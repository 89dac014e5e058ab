-- What the reader accepts denotes the type that it finds (`accepted_denotes`): with `specs/Reads`, it accepts exactly the grammar (`accepts_exactly`).
-- A token stands where it is found: its bytes are those of the text (`token_stands`).
use Prim.Native.Nat.{ℕ, zero, suc, ◌+◌, ◌≤◌, ◌<◌}
use Rattle.std.proofs.Common.{arith, ◌∙◌, subst, drop-drop, eqb-true, length-drop}
use Rattle.std.specs.Prelude.{◌≡◌, ◌↔◌, Bool, true, false, length, eqb, Option, Some, None}
use Rattle.std.proofs.Math.Path.{refl, sym, ap}
use mathlib.Core.List.{List, [], ◌∷◌, ◌++◌, append_assoc, append-nil}
use Rattle.std.proofs.Math.ListN.{drop, length-append}
use Rattle.std.proofs.Math.Seq.{drop-length}
use Rattle.types.specs.Ty.{Ty, base, pow, prod, AtomBelow, bool-below, int-below, given_below}
use Rattle.types.specs.Record.{pick, TypeAt, got, malformed, deep, and_then}
use Rattle.types.specs.Code.{atom_is}
use Rattle.types.specs.declared.Atom as C
use Rattle.types.specs.declared.Atom.TheVariants as A
use Rattle.types.specs.declared.Name.{Name}
use Rattle.name_table.specs.Words.{letter, word_byte, same}
use Rattle.name_table.specs.Table.{boolean, find}
use Rattle.name_table.specs.Laws.{same-is, found-is, Usable}
use Rattle.type_grammar.specs.declared.Token.{Token}
use Rattle.type_grammar.specs.declared.Token.TheVariants.{Leaf, Power, Open, Close, Times}
use Rattle.type_grammar.specs.Text.{integer, power_open, bracket_open, bracket_close, times, text_atom}
use Rattle.type_grammar.specs.Token.{starts, word_of, name_token, word_token, word_token_at, sign_token, token_of, token_at}
use Rattle.type_grammar.specs.Grammar.{Denotes, leaf, in_power, in_brackets, single, further, Sort, whole, operand}
use Rattle.type_grammar.specs.Parse.{closing, operand_by, times_by, times_on, product_by, operand_of, product_of, ends_at, parse}
use Rattle.type_grammar.specs.Reads.{denoted_is-read}

-- ---- tokens stand in the text

-- the bytes l, from place p on, begin with the token k
unfoldable pub Begins : List (List ℕ) → ℕ → List ℕ → Option Token → Type 0
Begins ns p l (Some (Leaf a q)) = AtomBelow (length ns) (atom_is a) × (q ≡ p + length (text_atom ns (atom_is a))) × (l ≡ text_atom ns (atom_is a) ++ drop (length (text_atom ns (atom_is a))) l)
Begins ns p l (Some (Power q)) = (q ≡ p + 4) × (l ≡ power_open ++ drop 4 l)
Begins ns p l (Some (Open q)) = (q ≡ p + 1) × (l ≡ bracket_open ++ drop 1 l)
Begins ns p l (Some (Close q)) = (q ≡ p + 1) × (l ≡ bracket_close ++ drop 1 l)
Begins ns p l (Some (Times q)) = (q ≡ p + 2) × (l ≡ times ++ drop 2 l)
Begins ns p l None = Unit {0}

starts_is : (x l : List ℕ) → starts x l ≡ true → l ≡ x ++ drop (length x) l
unfolding starts
starts_is [] l e = refl
starts_is (a ∷ x) [] e = absurd (let z : ◌≡◌ {A = ℕ} 0 1 = cc in omega arith)
starts_is (a ∷ x) (b ∷ l) e = go (eqb a b) refl e (λ h. starts_is x l h)
  where
    go : (c : Bool) → eqb a b ≡ c → pick c (starts x l) false ≡ true → (starts x l ≡ true → l ≡ x ++ drop (length x) l) → b ∷ l ≡ a ∷ (x ++ drop (length x) l)
    go true h k rec = let i = eqb-true a b h in let j = rec k in cc
    go false h k rec = absurd (let z : ◌≡◌ {A = ℕ} 0 1 = cc in omega arith)

word-is : (l : List ℕ) → l ≡ word_of l ++ drop (length (word_of l)) l
unfolding word_of
word-is [] = refl
word-is (c ∷ l) = go (word_byte c) (word-is l)
  where
    go : (b : Bool) → l ≡ word_of l ++ drop (length (word_of l)) l → c ∷ l ≡ pick b (c ∷ word_of l) [] ++ drop (length (pick b (c ∷ word_of l) [])) (c ∷ l)
    go true h = ap (λ (m : List ℕ). c ∷ m) h
    go false h = refl

name-stands : (ns : List (List ℕ)) (p : ℕ) (l w : List ℕ) → l ≡ w ++ drop (length w) l → (f : Option Name) → find ns w ≡ f → Begins ns p l (name_token f (p + length w))
unfolding Begins name_token atom_is text_atom
name-stands ns p l w h (Some k) e = let r = found-is ns w k.0 e in (given_below r.0, rw r.1, rw r.1 h)
name-stands ns p l w h None e = tt

bool-stands : (ns : List (List ℕ)) (p : ℕ) (l w : List ℕ) → l ≡ w ++ drop (length w) l → w ≡ boolean → Begins ns p l (Some (Leaf A.Bool (p + length w)))
unfolding Begins atom_is text_atom
bool-stands ns p l w h e = (bool-below, ap (λ (x : List ℕ). p + length x) e, rw e at h)

word_stands : (ns : List (List ℕ)) (p : ℕ) (l w : List ℕ) → l ≡ w ++ drop (length w) l → Begins ns p l (word_token ns p w)
unfolding word_token word_token_at
word_stands ns p l w h = go (same boolean w) refl
  where
    go : (c : Bool) → same boolean w ≡ c → Begins ns p l (pick c (Some (Leaf A.Bool (p + length w))) (name_token (find ns w) (p + length w)))
    go true e = bool-stands ns p l w h (sym (same-is boolean w e))
    go false e = name-stands ns p l w h (find ns w) refl

sign_stands : (ns : List (List ℕ)) (p : ℕ) (l : List ℕ) → Begins ns p l (sign_token p l)
unfolding sign_token Begins atom_is text_atom
sign_stands ns p l = on1 (starts integer l) refl
  where
    on5 : (c : Bool) → starts times l ≡ c → Begins ns p l (pick c (Some (Times (p + 2))) None)
    on5 true e = (refl, starts_is times l e)
    on5 false e = tt

    on4 : (c : Bool) → starts bracket_close l ≡ c → Begins ns p l (pick c (Some (Close (p + 1))) (pick (starts times l) (Some (Times (p + 2))) None))
    on4 true e = (refl, starts_is bracket_close l e)
    on4 false e = on5 (starts times l) refl

    on3 : (c : Bool) → starts bracket_open l ≡ c → Begins ns p l (pick c (Some (Open (p + 1))) (pick (starts bracket_close l) (Some (Close (p + 1))) (pick (starts times l) (Some (Times (p + 2))) None)))
    on3 true e = (refl, starts_is bracket_open l e)
    on3 false e = on4 (starts bracket_close l) refl

    on2 : (c : Bool) → starts power_open l ≡ c → Begins ns p l (pick c (Some (Power (p + 4))) (pick (starts bracket_open l) (Some (Open (p + 1))) (pick (starts bracket_close l) (Some (Close (p + 1))) (pick (starts times l) (Some (Times (p + 2))) None))))
    on2 true e = (refl, starts_is power_open l e)
    on2 false e = on3 (starts bracket_open l) refl

    on1 : (c : Bool) → starts integer l ≡ c → Begins ns p l (pick c (Some (Leaf A.Integer (p + 3))) (pick (starts power_open l) (Some (Power (p + 4))) (pick (starts bracket_open l) (Some (Open (p + 1))) (pick (starts bracket_close l) (Some (Close (p + 1))) (pick (starts times l) (Some (Times (p + 2))) None)))))
    on1 true e = (int-below, refl, starts_is integer l e)
    on1 false e = on2 (starts power_open l) refl

pub token_begins : (ns : List (List ℕ)) (p : ℕ) (l : List ℕ) → Begins ns p l (token_of ns p l)
unfolding token_of Begins
token_begins ns p [] = tt
token_begins ns p (c ∷ l) = go (letter c)
  where
    go : (b : Bool) → Begins ns p (c ∷ l) (pick b (word_token ns p (word_of (c ∷ l))) (sign_token p (c ∷ l)))
    go true = word_stands ns p (c ∷ l) (word_of (c ∷ l)) (word-is (c ∷ l))
    go false = sign_stands ns p (c ∷ l)

pub token_stands : (ns : List (List ℕ)) (s : List ℕ) (p : ℕ) (k : Option Token) → token_at ns s p ≡ k → Begins ns p (drop p s) k
unfolding token_at
token_stands ns s p k e = rw e at (token_begins ns p (drop p s))

-- ---- what is read denotes its type

stop-got : {A : Type 0} (p : ℕ) (t : Ty) (e : ℕ) → malformed p ≡ got t e → A
stop-got p t e h = absurd (let z : ◌≡◌ {A = ℕ} 0 1 = cc in omega arith)

deep-got : {A : Type 0} (p : ℕ) (t : Ty) (e : ℕ) → deep p ≡ got t e → A
deep-got p t e h = absurd (let z : ◌≡◌ {A = ℕ} 0 1 = cc in omega arith)

pub and_first : (x : TypeAt) (g : Ty → ℕ → TypeAt) (t : Ty) (f : ℕ) → and_then x g ≡ got t f → (u : Ty) × (e : ℕ) × (x ≡ got u e) × (g u e ≡ got t f)
unfolding and_then
and_first (got u e) g t f h = (u, e, refl, h)
and_first (malformed p) g t f h = stop-got p t f h
and_first (deep p) g t f h = deep-got p t f h

pub closing-got : (u : Ty) (e : ℕ) (k : Option Token) (t : Ty) (f : ℕ) → closing u e k ≡ got t f → (k ≡ Some (Close f)) × (u ≡ t)
unfolding closing
closing-got u e (Some (Close q)) t f h = (ap (λ (x : ℕ). Some (Close x)) (let a : q ≡ f = cc in a), (let b : u ≡ t = cc in b))
closing-got u e (Some (Leaf a q)) t f h = stop-got e t f h
closing-got u e (Some (Power q)) t f h = stop-got e t f h
closing-got u e (Some (Open q)) t f h = stop-got e t f h
closing-got u e (Some (Times q)) t f h = stop-got e t f h
closing-got u e None t f h = stop-got e t f h

-- between p and e stand bytes that denote the type t
pub record Read (ns : List (List ℕ)) (p : Sort) (d : ℕ) (s : List ℕ) (at : ℕ) (t : Ty) (e : ℕ) : Type 0 where
  pub bytes : List ℕ
  pub here : drop at s ≡ bytes ++ drop e s
  pub ends : e ≡ at + length bytes
  pub denotes : Denotes ns p d bytes t

module _ (ns : List (List ℕ)) (s : List ℕ) (d : ℕ) where
  -- the text goes on past a sign
  beyond : (p q : ℕ) (x : List ℕ) → q ≡ p + length x → drop p s ≡ x ++ drop (length x) (drop p s) → drop p s ≡ x ++ drop q s
  beyond p q x e h = h ∙ ap (λ (l : List ℕ). x ++ l) (drop-drop (length x) p s ∙ ap (λ (n : ℕ). drop n s) (sym e))

  read-leaf : (p q : ℕ) (a : C.Atom) → token_at ns s p ≡ Some (Leaf a q) → Read ns operand d s p (base (atom_is a)) q
  unfolding Begins
  read-leaf p q a k =
      let b : Begins ns p (drop p s) (Some (Leaf a q)) = token_stands ns s p (Some (Leaf a q)) k in
      record { bytes = text_atom ns (atom_is a); here = beyond p q (text_atom ns (atom_is a)) b.1 b.2; ends = b.1; denotes = leaf b.0 }

  -- what stands between an opening sign and the closing bracket
  read_nested : (o : List ℕ) (p q : ℕ) (u : Ty) (e f : ℕ) → q ≡ p + length o → drop p s ≡ o ++ drop q s → (w : Read ns whole d s q u e) → token_at ns s e ≡ Some (Close f) → (t : Ty) → Denotes ns operand (suc d) (o ++ (w.bytes ++ bracket_close)) t → Read ns operand (suc d) s p t f
  unfolding Begins
  read_nested o p q u e f eq h w k t den =
      let b : Begins ns e (drop e s) (Some (Close f)) = token_stands ns s e (Some (Close f)) k in
      let x = w.bytes in
      let c : drop e s ≡ bracket_close ++ drop f s = beyond e f bracket_close b.0 b.1 in
      record {
        bytes = o ++ (x ++ bracket_close);
        here = h ∙ ap (λ (l : List ℕ). o ++ l) (w.here ∙ ap (λ (l : List ℕ). x ++ l) c ∙ sym (append_assoc x bracket_close (drop f s)))
            ∙ sym (append_assoc o (x ++ bracket_close) (drop f s));
        ends = let i = b.0 in let j = w.ends in omega (arith, length-append o (x ++ bracket_close), length-append x bracket_close);
        denotes = den;
      }

  read-further : (p e : ℕ) (u v : Ty) (q f : ℕ) (w : Read ns whole d s p u e) → token_at ns s e ≡ Some (Times q) → (y : Read ns operand d s q v f) → Read ns whole d s p (prod u v) f
  unfolding Begins
  read-further p e u v q f w k y =
      let b : Begins ns e (drop e s) (Some (Times q)) = token_stands ns s e (Some (Times q)) k in
      let a = w.bytes in let c = y.bytes in
      let g : drop e s ≡ times ++ (c ++ drop f s) = beyond e q times b.0 b.1 ∙ ap (λ (l : List ℕ). times ++ l) y.here in
      record {
        bytes = a ++ (times ++ c);
        here = w.here ∙ ap (λ (l : List ℕ). a ++ l) g ∙ sym (append_assoc a (times ++ c) (drop f s));
        ends = let i = b.0 in let j = w.ends in let m = y.ends in omega (arith, length-append a (times ++ c));
        denotes = further w.denotes y.denotes;
      }

  module _ (rec : (q : ℕ) (t : Ty) (e : ℕ) → operand_of (suc d) ns s q ≡ got t e → Read ns operand d s q t e) (p : ℕ) where
    read-on : (more : ℕ → TypeAt) (u : Ty) (e : ℕ) (t : Ty) (f : ℕ) → Read ns whole d s p u e → ((q : ℕ) → token_at ns s e ≡ Some (Times q) → more q ≡ got t f → Read ns whole d s p t f) → (k : Option Token) → token_at ns s e ≡ k → times_on more u e k ≡ got t f → Read ns whole d s p t f
    unfolding times_on
    read-on more u e t f w go (Some (Times q)) g h = go q g h
    read-on more u e t f w go (Some (Close q)) g h = let a : u ≡ t = cc in let b : e ≡ f = cc in rw (← a, ← b) w
    read-on more u e t f w go (Some (Leaf c q)) g h = let a : u ≡ t = cc in let b : e ≡ f = cc in rw (← a, ← b) w
    read-on more u e t f w go (Some (Power q)) g h = let a : u ≡ t = cc in let b : e ≡ f = cc in rw (← a, ← b) w
    read-on more u e t f w go (Some (Open q)) g h = let a : u ≡ t = cc in let b : e ≡ f = cc in rw (← a, ← b) w
    read-on more u e t f w go None g h = let a : u ≡ t = cc in let b : e ≡ f = cc in rw (← a, ← b) w

    read-times : (n : ℕ) (u : Ty) (e : ℕ) (t : Ty) (f : ℕ) → Read ns whole d s p u e → times_by (operand_of (suc d) ns s) (token_at ns s) n u e ≡ got t f → Read ns whole d s p t f
    unfolding times_by
    read-times zero u e t f w h = let a : u ≡ t = cc in let b : e ≡ f = cc in rw (← a, ← b) w
    read-times (suc n) u e t f w h =
        read-on (λ q. and_then (operand_of (suc d) ns s q) λ v g. times_by (operand_of (suc d) ns s) (token_at ns s) n (prod u v) g) u e t f w
        (λ q g i.
        let r = and_first (operand_of (suc d) ns s q) (λ v j. times_by (operand_of (suc d) ns s) (token_at ns s) n (prod u v) j) t f i in
        read-times n (prod u r.0) r.1 t f (read-further p e u r.0 q r.1 w g (rec q r.0 r.1 r.2)) r.3)
        (token_at ns s e) refl h

    read-product : (t : Ty) (f : ℕ) → product_of (suc d) ns s p ≡ got t f → Read ns whole d s p t f
    unfolding product_of product_by
    read-product t f h =
        let r = and_first (operand_of (suc d) ns s p) (λ u e. times_by (operand_of (suc d) ns s) (token_at ns s) (length s) u e) t f h in
        let o = rec p r.0 r.1 r.2 in
        read-times (length s) r.0 r.1 t f (record { bytes = o.bytes; here = o.here; ends = o.ends; denotes = single o.denotes }) r.3

-- what an inner product denotes: none is read where no operand may nest
unfoldable pub Under : List (List ℕ) → List ℕ → ℕ → ℕ → Ty → ℕ → Type 0
Under ns s zero q u e = ⊥
Under ns s (suc d) q u e = Read ns whole d s q u e

module _ (ns : List (List ℕ)) (s : List ℕ) where
  in_power_lem : (d p q : ℕ) (u : Ty) (e f : ℕ) → token_at ns s p ≡ Some (Power q) → Under ns s d q u e → token_at ns s e ≡ Some (Close f) → Read ns operand d s p (pow u) f
  unfolding Under Begins
  in_power_lem zero p q u e f k w c = absurd w
  in_power_lem (suc d) p q u e f k w c =
      let b : Begins ns p (drop p s) (Some (Power q)) = token_stands ns s p (Some (Power q)) k in
      read_nested ns s d power_open p q u e f b.0 (beyond ns s d p q power_open b.0 b.1) w c (pow u) (in_power w.denotes)

  in_brackets_lem : (d p q : ℕ) (u : Ty) (e f : ℕ) → token_at ns s p ≡ Some (Open q) → Under ns s d q u e → token_at ns s e ≡ Some (Close f) → Read ns operand d s p u f
  unfolding Under Begins
  in_brackets_lem zero p q u e f k w c = absurd w
  in_brackets_lem (suc d) p q u e f k w c =
      let b : Begins ns p (drop p s) (Some (Open q)) = token_stands ns s p (Some (Open q)) k in
      read_nested ns s d bracket_open p q u e f b.0 (beyond ns s d p q bracket_open b.0 b.1) w c u (in_brackets w.denotes)

  module _ (d p : ℕ) (t : Ty) (e : ℕ) (under : (q : ℕ) (u : Ty) (f : ℕ) → product_of d ns s q ≡ got u f → Under ns s d q u f) where
    operand-by : (k : Option Token) → token_at ns s p ≡ k → operand_by (λ q. product_of d ns s q) (token_at ns s) p k ≡ got t e → Read ns operand d s p t e
    unfolding operand_by
    operand-by (Some (Leaf a q)) k h = let x : base (atom_is a) ≡ t = cc in let y : q ≡ e = cc in rw (← x, ← y) (read-leaf ns s d p q a k)
    operand-by (Some (Power q)) k h =
        let r = and_first (product_of d ns s q) (λ u f. closing (pow u) f (token_at ns s f)) t e h in
        let c = closing-got (pow r.0) r.1 (token_at ns s r.1) t e r.3 in
        rw (← c.1) (in_power_lem d p q r.0 r.1 e k (under q r.0 r.1 r.2) c.0)
    operand-by (Some (Open q)) k h =
        let r = and_first (product_of d ns s q) (λ u f. closing u f (token_at ns s f)) t e h in
        let c = closing-got r.0 r.1 (token_at ns s r.1) t e r.3 in
        rw (← c.1) (in_brackets_lem d p q r.0 r.1 e k (under q r.0 r.1 r.2) c.0)
    operand-by (Some (Close q)) k h = stop-got p t e h
    operand-by (Some (Times q)) k h = stop-got p t e h
    operand-by None k h = stop-got p t e h

  none-under : (q : ℕ) (u : Ty) (f : ℕ) → product_of zero ns s q ≡ got u f → Under ns s zero q u f
  unfolding product_of product_by operand_of and_then
  none-under q u f h = deep-got q u f h

  one-under : (d : ℕ) → ((q : ℕ) (t : Ty) (e : ℕ) → operand_of (suc d) ns s q ≡ got t e → Read ns operand d s q t e) → (q : ℕ) (u : Ty) (f : ℕ) → product_of (suc d) ns s q ≡ got u f → Under ns s (suc d) q u f
  unfolding Under
  one-under d rec q u f h = read-product ns s d rec q u f h

  pub operand-denotes : (d p : ℕ) (t : Ty) (e : ℕ) → operand_of (suc d) ns s p ≡ got t e → Read ns operand d s p t e
  unfolding operand_of product_of
  operand-denotes zero p t e h = operand-by zero p t e none-under (token_at ns s p) refl h
  operand-denotes (suc d) p t e h = operand-by (suc d) p t e (one-under d (operand-denotes d)) (token_at ns s p) refl h

  pub product-denotes : (d p : ℕ) (t : Ty) (e : ℕ) → product_of (suc d) ns s p ≡ got t e → Read ns whole d s p t e
  product-denotes d p t e h = read-product ns s d (operand-denotes d) p t e h

-- × moves on, within the text
pub times_moves : (ns : List (List ℕ)) (s : List ℕ) (p q : ℕ) → token_at ns s p ≡ Some (Times q) → (p < q) × (q ≤ length s)
unfolding Begins
times_moves ns s p q k =
    let b : Begins ns p (drop p s) (Some (Times q)) = token_stands ns s p (Some (Times q)) k in
    let w : length (drop p s) ≡ 2 + length (drop 2 (drop p s)) = ap length b.1 ∙ length-append times (drop 2 (drop p s)) in
    (omega (arith, b.0), omega (arith, b.0, w, length-drop p s))

-- an operand does not end before it begins
pub operand_moves : (left : ℕ) (ns : List (List ℕ)) (s : List ℕ) (p : ℕ) (t : Ty) (e : ℕ) → operand_of left ns s p ≡ got t e → p ≤ e
unfolding operand_of
operand_moves zero ns s p t e h = deep-got p t e h
operand_moves (suc d) ns s p t e h = let r = operand-denotes ns s d p t e h in omega (arith, r.ends)

-- ---- a whole text

pub ends-got : (n : ℕ) (u : Ty) (f : ℕ) (t : Ty) (e : ℕ) → ends_at n u f ≡ got t e → (f ≡ n) × (u ≡ t) × (f ≡ e)
unfolding ends_at
ends-got n u f t e h = go (eqb f n) refl h
  where
    go : (b : Bool) → eqb f n ≡ b → pick b (got u f) (malformed f) ≡ got t e → (f ≡ n) × (u ≡ t) × (f ≡ e)
    go true k g = (eqb-true f n k, (let x : u ≡ t = cc in x), (let y : f ≡ e = cc in y))
    go false k g = stop-got f t e g

pub accepted_denotes : (ns : List (List ℕ)) (s : List ℕ) (t : Ty) (e : ℕ) → parse ns s ≡ got t e → (e ≡ length s) × Denotes ns whole 32 s t
unfolding parse
accepted_denotes ns s t e h =
    let r = and_first (product_of 33 ns s 0) (ends_at (length s)) t e h in
    let x = ends-got (length s) r.0 r.1 t e r.3 in
    let w = product-denotes ns s 32 0 r.0 r.1 r.2 in
    let all : s ≡ w.bytes = w.here ∙ ap (λ (n : ℕ). w.bytes ++ drop n s) x.0 ∙ ap (λ (l : List ℕ). w.bytes ++ l) (drop-length s) ∙ append-nil w.bytes in
    (sym x.2 ∙ x.0, subst (λ (l : List ℕ). Denotes ns whole 32 l t) (sym all) (subst (λ (v : Ty). Denotes ns whole 32 w.bytes v) x.1 w.denotes))

-- the reader takes exactly the texts that denote a type with at most 32 brackets open, to that type
pub accepts_exactly : (ns : List (List ℕ)) → Usable ns → (s : List ℕ) (t : Ty) → (parse ns s ≡ got t (length s)) ↔ Denotes ns whole 32 s t
accepts_exactly ns u s t = (λ h. (accepted_denotes ns s t (length s) h).1, λ w. denoted_is-read ns u s t w)
