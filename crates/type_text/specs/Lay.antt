-- The reader's second pass: the record of a text that was taken is put into a page.
use Rattle.std.specs.Prelude.{ℕ, zero, suc, ◌+◌, ◌-◌, ◌≤◌, ◌<◌, ◌%◌, ◌/◌, ◌≡◌, refl, List, [], ◌∷◌, ◌++◌, get_or, take, drop, set, Option, Some, None}
use native.Mathlib.Omega.{arith}
use Rattle.std.proofs.Common.{take_all, length-drop, take-take, ◌∙◌, length-append, drop_of_length-le, take_at, drop_at, length-take-le, drop-drop}
use Rattle.std.proofs.Math.Path.{sym, ap}
use Rattle.std.proofs.Math.ListN.{length}
use Rattle.std.specs.Int.{to_le_bytes, w32}
use Rattle.std.specs.Result.{result_unwrap_or}
use Rattle.types.specs.Ty.{Ty, base, pow, prod, spell, spell_atom, AtomBelow, bool-below, int-below, given_below}
use Rattle.types.specs.Ty as T
use Rattle.types.specs.Record.{TypeAt, got, malformed, deep, and_then}
use Rattle.types.specs.Code.{atom_is}
use Rattle.types.specs.Steps.{drop-next}
use Rattle.types.specs.declared.Name.{Name}
use Rattle.types.specs.declared.Atom.{Atom}
use Rattle.types.specs.declared.Atom.TheVariants as A
use Rattle.name_table.specs.Table.{names_of, names}
use Rattle.type_grammar.specs.declared.Token.{Token}
use Rattle.type_grammar.specs.declared.Token.TheVariants.{Leaf, Power, Open, Close, Times}
use Rattle.type_grammar.specs.Token.{token_at}
use Rattle.type_grammar.specs.Parse.{closing, operand_by, times_by, times_on, operand_of, product_of}
use Rattle.type_grammar.specs.Accepts.{and_first, closing-got, Begins, token_stands, times_moves, operand_moves}
use Rattle.type_text.specs.Page.{Splice, splice_as, splice_length, splice_join, splice_lent}
use Rattle.type_text.specs.Scan.{closed_at, operand_at, product_is}

-- the first n bytes of a page moved one place on, behind a kind
unfoldable pub led_by : ℕ → ℕ → List ℕ → List ℕ
led_by k n page = k ∷ (take n page ++ drop (n + 1) page)

-- where the text goes on behind a closing bracket, which the first pass has found
abbrev pub after_close : ℕ → Option Token → ℕ
after_close e k = result_unwrap_or (closed_at e k) e

-- a text denotes a type, whose record fits into a page of n bytes from a place on
pub record LayReady (x : TypeAt) (from n : ℕ) : Type 0 where
  pub type : Ty
  pub end : ℕ
  pub stands : x ≡ got type end
  pub fits : from + length (spell type) ≤ n

-- the record was put into the page from a place on
unfoldable pub Laid : TypeAt → ℕ → List ℕ → List ℕ → ℕ → ℕ → Type 0
Laid x from old new e n = (t : Ty) (f : ℕ) → x ≡ got t f → (e ≡ f) × Splice from (spell t) old new n

malformed-got : (p : ℕ) (t : Ty) (e : ℕ) → malformed p ≡ got t e → ⊥
malformed-got p t e h = let z : ◌≡◌ {A = ℕ} 0 1 = cc in omega arith

deep-got : (p : ℕ) (t : Ty) (e : ℕ) → deep p ≡ got t e → ⊥
deep-got p t e h = let z : ◌≡◌ {A = ℕ} 0 1 = cc in omega arith

-- ---- lending

module _ {x : TypeAt} {from : ℕ} (old : List ℕ) where
  pub lay-lent-ready : LayReady x from (length old) → LayReady x 0 (length (take (length old - from) (drop from old)))
  lay-lent-ready R =
      let all : length (take (length old - from) (drop from old)) ≡ length old - from = ap length (take_all (length old - from) (drop from old) (omega (arith, length-drop from old))) ∙ length-drop from old in
      record { type = R.type; end = R.end; stands = R.stands; fits = omega (arith, R.fits) }

  pub lay-lent-end : LayReady x from (length old) → (part : List ℕ) (e n : ℕ) → Laid x 0 (take (length old - from) (drop from old)) part e n → Laid x from old (take from old ++ (part ++ drop (length old - from) (drop from old))) e n
  unfolding Laid
  lay-lent-end R part e n w = λ t f st. let z = w t f st in (z.0, splice_lent from _ old part _ n (omega (arith, R.fits)) z.1 refl)

-- ---- moving one place on

pub lead_is : (page part turned : List ℕ) (n kind : ℕ) → n + 1 ≤ length page → part ≡ take (n + 1) page → turned ≡ drop (length part - 1) part ++ take (length part - 1) part → set (turned ++ drop (n + 1) page) 0 kind ≡ led_by kind n page
unfolding led_by
lead_is page part turned n kind h e g =
    let w : length part ≡ n + 1 = ap length e ∙ length-take-le (n + 1) page h in
    let z : n + 1 - 1 ≡ n = omega arith in
    let a : drop n part ≡ get_or part n 0 ∷ drop (n + 1) part = drop-next part n (omega arith) in
    let b : drop (n + 1) part ≡ [] = drop_of_length-le part {i = n + 1} (omega arith) in
    let t : take n part ≡ take n page = ap (take n) e ∙ take-take n (n + 1) page (omega arith) in
    rw (g, w, z, a, b, t)

pub splice_lead : (x old page new : List ℕ) (k n : ℕ) → Splice 0 x old page n → n + 1 ≤ length page → new ≡ led_by k n page → Splice 0 (k ∷ x) old new (n + 1)
unfolding led_by
splice_lead x old page new k n s h e =
    let c = s.count in
    let z : 0 + length x ≡ length x = omega arith in
    let p : page ≡ x ++ drop (length x) old = s.page ∙ rw z in
    let a : take n page ≡ x = ap (take n) p ∙ take_at x (drop (length x) old) n (sym c) in
    let b : drop (n + 1) page ≡ drop (0 + length (k ∷ x)) old =
    sym (drop-drop 1 n page) ∙ ap (drop 1) (ap (drop n) p ∙ drop_at x (drop (length x) old) n (sym c)) ∙ drop-drop 1 (length x) old
    ∙ ap (λ (m : ℕ). drop m old) (let y : length x + 1 ≡ 0 + suc (length x) = omega arith in y) in
    record { count = omega arith; room = omega (arith, splice_length _ _ _ _ _ s); page = e ∙ rw (a, b) }

-- ---- operands

operand-never : (ns : List (List ℕ)) (s : List ℕ) (p : ℕ) (t : Ty) (f : ℕ) (left : ℕ) → operand_of left ns s p ≡ got t f → left ≡ 0 → ⊥
unfolding operand_of
operand-never ns s p t f left h z = deep-got p t f (rw z at h)

pub lay-deep : (left : ℕ) (ns : List (List ℕ)) (s : List ℕ) (p from n : ℕ) → LayReady (operand_of left ns s p) from n → 1 ≤ left
lay-deep left ns s p from n R = omega (arith, operand-never ns s p R.type R.end left R.stands)

in_brackets_lem : (x : TypeAt) (wrap : Ty → Ty) (tok : ℕ → Option Token) (t : Ty) (f : ℕ) → and_then x (λ u e. closing (wrap u) e (tok e)) ≡ got t f → (u : Ty) × (e : ℕ) × (x ≡ got u e) × (tok e ≡ Some (Close f)) × (wrap u ≡ t)
unfolding and_then
in_brackets_lem (got u e) wrap tok t f h = let w = closing-got (wrap u) e (tok e) t f h in (u, e, refl, w.0, w.1)
in_brackets_lem (malformed p) wrap tok t f h = absurd (malformed-got p t f h)
in_brackets_lem (deep p) wrap tok t f h = absurd (deep-got p t f h)

after_is : (e : ℕ) (k : Option Token) (f : ℕ) → k ≡ Some (Close f) → after_close e k ≡ f
unfolding closed_at
after_is e k f h = rw h

module _ (left : ℕ) (ns : List (List ℕ)) (s : List ℕ) (p : ℕ) (k : Option Token) (ek : k ≡ token_at ns s p) (old : List ℕ) where
  known : (t : Ty) (f : ℕ) → operand_of left ns s p ≡ got t f → operand_by (product_of (left - 1) ns s) (token_at ns s) p k ≡ got t f
  known t f h = sym (operand_at left ns s p (λ z. operand-never ns s p t f left h z) k ek) ∙ h

  pub lay-none : operand_by (product_of (left - 1) ns s) (token_at ns s) p k ≡ malformed p → Laid (operand_of left ns s p) 0 old old p 0
  unfolding Laid
  lay-none g = λ t f h. absurd (malformed-got p t f (sym g ∙ known t f h))

  module _ (a : Atom) (e : ℕ) (q : k ≡ Some (Leaf a e)) where
    leaf-is : (t : Ty) (f : ℕ) → operand_of left ns s p ≡ got t f → (e ≡ f) × (spell_atom (atom_is a) ≡ spell t)
    unfolding operand_by spell
    leaf-is t f h =
        let g : got (base (atom_is a)) e ≡ got t f = ap (operand_by (product_of (left - 1) ns s) (token_at ns s) p) (sym q) ∙ known t f h in
        ((let i : e ≡ f = cc in i), ap spell (let j : base (atom_is a) ≡ t = cc in j))

    pub lay-leaf-fits : LayReady (operand_of left ns s p) 0 (length old) → length (spell_atom (atom_is a)) ≤ length old
    lay-leaf-fits R = omega (arith, R.fits, ap length (leaf-is R.type R.end R.stands).1)

    pub lay-leaf-end : (new : List ℕ) (n : ℕ) → Splice 0 (spell_atom (atom_is a)) old new n → Laid (operand_of left ns s p) 0 old new e n
    unfolding Laid
    lay-leaf-end new n w = λ t f h. let z = leaf-is t f h in (z.0, splice_as _ _ _ _ _ w _ z.1)

  module _ (q : ℕ) (h : k ≡ Some (Power q)) where
    power-is : (t : Ty) (f : ℕ) → operand_of left ns s p ≡ got t f → (u : Ty) × (e : ℕ) × (product_of (left - 1) ns s q ≡ got u e) × (token_at ns s e ≡ Some (Close f)) × (pow u ≡ t)
    unfolding operand_by
    power-is t f g = in_brackets_lem (product_of (left - 1) ns s q) pow (token_at ns s) t f (ap (operand_by (product_of (left - 1) ns s) (token_at ns s) p) (sym h) ∙ known t f g)

    power_width : (t u : Ty) → pow u ≡ t → length (spell t) ≡ 1 + length (spell u)
    unfolding spell
    power_width t u e = ap (λ (x : Ty). length (spell x)) (sym e) ∙ omega arith

    module _ (R : LayReady (operand_of left ns s p) 0 (length old)) where
      pub lay-power-fits : 0 + 1 ≤ length old
      lay-power-fits = let w = power-is R.type R.end R.stands in omega (arith, R.fits, power_width R.type w.0 w.4)

      pub lay-power-ready : (mid : List ℕ) (n : ℕ) → Splice 0 (0x43 ∷ []) old mid n → LayReady (product_of (left - 1) ns s q) n (length mid)
      lay-power-ready mid n c =
          let w = power-is R.type R.end R.stands in
          record { type = w.0; end = w.1; stands = w.2; fits = omega (arith, R.fits, c.count, splice_length _ _ _ _ _ c, power_width R.type w.0 w.4) }

      pub lay-power-sum : (mid new : List ℕ) (n e m : ℕ) → Splice 0 (0x43 ∷ []) old mid n → Laid (product_of (left - 1) ns s q) n mid new e m → n + m ≤ length old
      unfolding Laid
      lay-power-sum mid new n e m c l =
          let w = power-is R.type R.end R.stands in
          let z = (l w.0 w.1 w.2).1 in
          omega (arith, R.fits, c.count, z.count, power_width R.type w.0 w.4)

    pub lay-power-end : (mid new : List ℕ) (n e m c : ℕ) → Splice 0 (0x43 ∷ []) old mid n → Laid (product_of (left - 1) ns s q) n mid new e m → c ≡ after_close e (token_at ns s e) → Laid (operand_of left ns s p) 0 old new c (n + m)
    unfolding Laid spell
    lay-power-end mid new n e m c x l ec = λ t f g.
        let w = power-is t f g in
        let z = l w.0 w.1 w.2 in
        let j = splice_join _ _ _ _ _ x _ _ _ _ (let y : n ≡ 0 + n = omega arith in y) z.1 in
        (ec ∙ rw z.0 (after_is w.1 (token_at ns s w.1) f w.3), splice_as _ _ _ _ _ j _ (ap spell w.4))

  module _ (q : ℕ) (h : k ≡ Some (Open q)) where
    open_is : (t : Ty) (f : ℕ) → operand_of left ns s p ≡ got t f → (u : Ty) × (e : ℕ) × (product_of (left - 1) ns s q ≡ got u e) × (token_at ns s e ≡ Some (Close f)) × (u ≡ t)
    unfolding operand_by
    open_is t f g = in_brackets_lem (product_of (left - 1) ns s q) (λ u. u) (token_at ns s) t f (ap (operand_by (product_of (left - 1) ns s) (token_at ns s) p) (sym h) ∙ known t f g)

    pub lay_open_ready : LayReady (operand_of left ns s p) 0 (length old) → LayReady (product_of (left - 1) ns s q) 0 (length old)
    lay_open_ready R =
        let w = open_is R.type R.end R.stands in
        record { type = w.0; end = w.1; stands = w.2; fits = omega (arith, R.fits, ap (λ (x : Ty). length (spell x)) w.4) }

    pub lay_open_end : (new : List ℕ) (e m c : ℕ) → Laid (product_of (left - 1) ns s q) 0 old new e m → c ≡ after_close e (token_at ns s e) → Laid (operand_of left ns s p) 0 old new c m
    unfolding Laid
    lay_open_end new e m c l ec = λ t f g.
        let w = open_is t f g in
        let z = l w.0 w.1 w.2 in
        (ec ∙ rw z.0 (after_is w.1 (token_at ns s w.1) f w.3), splice_as _ _ _ _ _ z.1 _ (ap spell w.4))

-- ---- products

on-grows : (more : ℕ → TypeAt) (u : Ty) (e : ℕ) (k : Option Token) (t : Ty) (f : ℕ) → ((q : ℕ) → more q ≡ got t f → length (spell u) ≤ length (spell t)) → times_on more u e k ≡ got t f → length (spell u) ≤ length (spell t)
unfolding times_on
on-grows more u e (Some (Times q)) t f h g = h q g
on-grows more u e (Some (Close q)) t f h g = omega (arith, ap (λ (x : Ty). length (spell x)) (let j : u ≡ t = cc in j))
on-grows more u e (Some (Leaf a q)) t f h g = omega (arith, ap (λ (x : Ty). length (spell x)) (let j : u ≡ t = cc in j))
on-grows more u e (Some (Power q)) t f h g = omega (arith, ap (λ (x : Ty). length (spell x)) (let j : u ≡ t = cc in j))
on-grows more u e (Some (Open q)) t f h g = omega (arith, ap (λ (x : Ty). length (spell x)) (let j : u ≡ t = cc in j))
on-grows more u e None t f h g = omega (arith, ap (λ (x : Ty). length (spell x)) (let j : u ≡ t = cc in j))

product_width : (u b : Ty) → length (spell (prod u b)) ≡ 1 + length (spell u) + length (spell b)
unfolding spell
product_width u b = omega (arith, length-append (spell u) (spell b))

-- a product's record is no shorter than its first operands'
times-grows : (rd : ℕ → TypeAt) (tok : ℕ → Option Token) (n : ℕ) (u : Ty) (e : ℕ) (t : Ty) (f : ℕ) → times_by rd tok n u e ≡ got t f → length (spell u) ≤ length (spell t)
unfolding times_by
times-grows rd tok zero u e t f h = omega (arith, ap (λ (x : Ty). length (spell x)) (let j : u ≡ t = cc in j))
times-grows rd tok (suc n) u e t f h =
    on-grows _ u e (tok e) t f (λ q g. let w = and_first (rd q) (λ b c. times_by rd tok n (prod u b) c) t f g in
    omega (arith, product_width u w.0, times-grows rd tok n (prod u w.0) w.1 t f w.3)) h

times_zero : (rd : ℕ → TypeAt) (tok : ℕ → Option Token) (u : Ty) (e : ℕ) → times_by rd tok zero u e ≡ got u e
unfolding times_by
times_zero rd tok u e = refl

times-suc : (rd : ℕ → TypeAt) (tok : ℕ → Option Token) (n : ℕ) (u : Ty) (e : ℕ) → times_by rd tok (suc n) u e ≡ times_on (λ q. and_then (rd q) (λ b c. times_by rd tok n (prod u b) c)) u e (tok e)
unfolding times_by
times-suc rd tok n u e = refl

-- so far: what is still to come makes the whole type of the one whose record stands in the page
unfoldable pub Going : ℕ → List (List ℕ) → List ℕ → ℕ → List ℕ → List ℕ → ℕ → ℕ → Type 0
Going left ns s p old page e n =
    (t : Ty) (f : ℕ) → product_of left ns s p ≡ got t f
    → (u : Ty) × (turns : ℕ) × (length s ≤ e + turns) × (times_by (operand_of left ns s) (token_at ns s) turns u e ≡ got t f) × Splice 0 (spell u) old page n

module _ (left : ℕ) (ns : List (List ℕ)) (s : List ℕ) (p : ℕ) (old : List ℕ) where
  parts : (t : Ty) (f : ℕ) → product_of left ns s p ≡ got t f → (u : Ty) × (e : ℕ) × (operand_of left ns s p ≡ got u e) × (times_by (operand_of left ns s) (token_at ns s) (length s) u e ≡ got t f)
  parts t f h = and_first (operand_of left ns s p) (λ u e. times_by (operand_of left ns s) (token_at ns s) (length s) u e) t f (sym (product_is left ns s p) ∙ h)

  pub lay-first : LayReady (product_of left ns s p) 0 (length old) → LayReady (operand_of left ns s p) 0 (length old)
  lay-first R =
      let w = parts R.type R.end R.stands in
      record { type = w.0; end = w.1; stands = w.2; fits = omega (arith, R.fits, times-grows _ _ (length s) w.0 w.1 R.type R.end w.3) }

  pub going_start : (page : List ℕ) (e n : ℕ) → Laid (operand_of left ns s p) 0 old page e n → Going left ns s p old page e n
  unfolding Going Laid
  going_start page e n l = λ t f h.
      let w = parts t f h in
      let z = l w.0 w.1 w.2 in
      (w.0, length s, omega arith, ap (times_by (operand_of left ns s) (token_at ns s) (length s) w.0) z.0 ∙ w.3, z.1)

  module _ (page : List ℕ) (e n : ℕ) (G : Going left ns s p old page e n) (k : Option Token) (ek : k ≡ token_at ns s e) where
    on : (m : ℕ) (u t : Ty) (f : ℕ) → times_by (operand_of left ns s) (token_at ns s) (suc m) u e ≡ got t f → times_on (λ q. and_then (operand_of left ns s q) (λ b c. times_by (operand_of left ns s) (token_at ns s) m (prod u b) c)) u e k ≡ got t f
    on m u t f h = ap (times_on _ u e) ek ∙ sym (times-suc (operand_of left ns s) (token_at ns s) m u e) ∙ h

    pub going_else : ((more : ℕ → TypeAt) (u : Ty) → times_on more u e k ≡ got u e) → Laid (product_of left ns s p) 0 old page e n
    unfolding Going Laid
    going_else c = λ t f h.
        let w = G t f h in
        let g : got w.0 e ≡ got t f = ended w.1 w.0 t f w.3 in
        ((let i : e ≡ f = cc in i), splice_as _ _ _ _ _ w.4 _ (ap spell (let j : w.0 ≡ t = cc in j)))
      where
        ended : (turns : ℕ) (u t : Ty) (f : ℕ) → times_by (operand_of left ns s) (token_at ns s) turns u e ≡ got t f → got u e ≡ got t f
        ended zero u t f g = sym (times_zero (operand_of left ns s) (token_at ns s) u e) ∙ g
        ended (suc m) u t f g = sym (c _ u) ∙ on m u t f g

    module _ (q : ℕ) (h : k ≡ Some (Times q)) where
      inside : (e < q) × (q ≤ length s)
      inside = times_moves ns s e q (sym ek ∙ h)

      next : (turns : ℕ) (u t : Ty) (f : ℕ) → length s ≤ e + turns → times_by (operand_of left ns s) (token_at ns s) turns u e ≡ got t f → (m : ℕ) × (b : Ty) × (c : ℕ) × (length s ≤ c + m) × (operand_of left ns s q ≡ got b c) × (times_by (operand_of left ns s) (token_at ns s) m (prod u b) c ≡ got t f) × (e < c)
      unfolding times_on
      next zero u t f a g = absurd (omega (arith, inside))
      next (suc m) u t f a g =
          let w = and_first (operand_of left ns s q) (λ b c. times_by (operand_of left ns s) (token_at ns s) m (prod u b) c) t f (ap (times_on _ u e) (sym h) ∙ on m u t f g) in
          let z = operand_moves left ns s q w.0 w.1 w.2 in
          (m, w.0, w.1, omega (arith, inside), w.2, w.3, omega (arith, inside))

      module _ (R : LayReady (product_of left ns s p) 0 (length old)) where
        here : (u : Ty) × (turns : ℕ) × (length s ≤ e + turns) × (times_by (operand_of left ns s) (token_at ns s) turns u e ≡ got R.type R.end) × Splice 0 (spell u) old page n
        unfolding Going
        here = G R.type R.end R.stands

        further : (m : ℕ) × (b : Ty) × (c : ℕ) × (length s ≤ c + m) × (operand_of left ns s q ≡ got b c) × (times_by (operand_of left ns s) (token_at ns s) m (prod here.0 b) c ≡ got R.type R.end) × (e < c)
        further = next here.1 here.0 R.type R.end here.2 here.3

        wide : 1 + n + length (spell further.1) ≤ length old
        wide = omega (arith, R.fits, here.4.count, product_width here.0 further.1, times-grows _ _ further.0 (prod here.0 further.1) further.2 R.type R.end further.5)

        pub going-room : n + 1 ≤ length page
        going-room = omega (arith, wide, splice_length _ _ _ _ _ here.4)

        module _ (led : List ℕ) (el : led ≡ led_by 0x44 n page) where
          pub going-ready : LayReady (operand_of left ns s q) (n + 1) (length led)
          going-ready =
              record { type = further.1; end = further.2; stands = further.4; fits = omega (arith, wide, splice_length _ _ _ _ _ (splice_lead _ _ _ _ 0x44 n here.4 going-room el)) }

          module _ (new : List ℕ) (c m : ℕ) (l : Laid (operand_of left ns s q) (n + 1) led new c m) where
            pub going-sum : n + 1 + m ≤ length old
            unfolding Laid
            going-sum = omega (arith, wide, (l further.1 further.2 further.4).1.count)

            pub going-within : length s - c < length s - e
            unfolding Laid
            going-within = omega (arith, (l further.1 further.2 further.4).0, further.6, inside)

            pub going_on : Going left ns s p old new c (n + 1 + m)
            unfolding Going Laid spell
            going_on = λ t f g.
                let w = G t f g in
                let v = next w.1 w.0 t f w.2 w.3 in
                let x = l v.1 v.2 v.4 in
                let a = splice_lead _ _ _ _ 0x44 n w.4 going-room el in (
                  prod w.0 v.1,
                  v.0,
                  omega (arith, v.3, x.0),
                  ap (times_by (operand_of left ns s) (token_at ns s) v.0 (prod w.0 v.1)) x.0 ∙ v.5,
                  splice_join _ _ _ _ _ a _ _ _ _ (let y : n + 1 ≡ 0 + (n + 1) = omega arith in y) x.1,
                )

-- ---- atoms

-- a name's number has two bytes
unfoldable pub Small : T.Atom → Type 0
Small T.bool = Unit {0}
Small T.int = Unit {0}
Small (T.given n) = n < 65536

names_few : (f : ℕ) (l : List ℕ) → length (names_of f l) ≤ f
unfolding names_of
names_few zero l = omega arith
names_few (suc f) [] = omega arith
names_few (suc f) (k ∷ l) = omega (arith, names_few f (drop (k - 128) l))

below-small : (n : ℕ) {a : T.Atom} → n ≤ 256 → AtomBelow n a → Small a
unfolding Small
below-small n h bool-below = tt
below-small n h int-below = tt
below-small n h (given_below k) = omega arith

-- the atom of a token is small
pub leaf-small : (tab s : List ℕ) (p : ℕ) (k : Option Token) → k ≡ token_at (names tab) s p → (a : Atom) (e : ℕ) → k ≡ Some (Leaf a e) → Small (atom_is a)
unfolding Begins
leaf-small tab s p k ek a e h =
    let b : Begins (names tab) p (drop p s) (Some (Leaf a e)) = token_stands (names tab) s p (Some (Leaf a e)) (sym ek ∙ h) in
    below-small (length (names tab)) (names_few 256 tab) b.0

module _ (a : Atom) where
  pub spell-bool : a ≡ A.Bool → (0x40 ∷ []) ≡ spell_atom (atom_is a)
  unfolding spell_atom atom_is
  spell-bool e = sym (rw e)

  pub spell-integer : a ≡ A.Integer → (0x41 ∷ []) ≡ spell_atom (atom_is a)
  unfolding spell_atom atom_is
  spell-integer e = sym (rw e)

  module _ (n : Name) (e : a ≡ A.Given n) (h : Small (atom_is a)) where
    given-small : n.0 < 65536
    unfolding Small atom_is
    given-small = let s : Small (atom_is (A.Given n)) = rw e at h in s

    spell-given : (0x42 ∷ n.0 % 256 ∷ n.0 / 256 % 256 ∷ []) ≡ spell_atom (atom_is a)
    unfolding spell_atom atom_is
    spell-given = let z : n.0 / 256 % 256 ≡ n.0 / 256 = omega (arith, given-small) in rw z (sym (rw e))

    pub spell-bytes : (b : List ℕ) → b ≡ to_le_bytes w32 n.0 → (0x42 ∷ get_or b 0 0 ∷ get_or b 1 0 ∷ []) ≡ spell_atom (atom_is a)
    spell-bytes b g = rw g spell-given
