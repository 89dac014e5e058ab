-- Writing a type's text into a page: what each step leaves to do, and that the steps together put the text and nothing else.
use Rattle.std.specs.Prelude.{ℕ, ◌+◌, ◌-◌, ◌≤◌, ◌≡◌, refl, length, take, drop, Option, Some, None}
use native.Mathlib.Omega.{arith}
use Rattle.std.proofs.Math.Path.{sym, ap}
use Rattle.std.proofs.Common.{take_all, length-drop, ◌∙◌, length-append}
use mathlib.Core.List.{List, ◌++◌, append_assoc}
use Rattle.types.specs.Ty.{Ty, base, pow, prod}
use Rattle.types.specs.Record.{TypeAt, got, malformed, deep, and_then, head_of, deep_by, type_at}
use Rattle.types.specs.Record as R
use Rattle.types.specs.Code.{atom_is, head_is}
use Rattle.types.specs.Steps.{type-wrong, type-atom, type-power, type-product}
use Rattle.types.specs.declared.Atom.{Atom}
use Rattle.types.specs.declared.Head.{Head}
use Rattle.types.specs.declared.Head.TheVariants.{Atomic, Power, Product}
use Rattle.type_grammar.specs.Text.{power_open, bracket_open, bracket_close, times, text_atom}
use Rattle.type_text.specs.declared.writer.Side.{Side}
use Rattle.type_text.specs.declared.writer.Side.TheVariants.{Right, Plain}
use Rattle.type_text.specs.Page.{Splice, splice_as, splice_length, splice_join, splice_lent}
use Rattle.type_text.specs.Measure.{text_in, text_in-atom, text_in-power, text_in-right, text_in-product, in_plain}

-- a type stands at p, and its text fits into a page of n bytes from a place on
pub record Ready (ns : List (List ℕ)) (count : ℕ) (r : List ℕ) (p left : ℕ) (side : Side) (from n : ℕ) : Type 0 where
  pub type : Ty
  pub end : ℕ
  pub stands : type_at left count r p ≡ got type end
  pub fits : from + length (text_in ns side type) ≤ n

-- the text of the type that stands at p was put into a page from a place on
unfoldable pub Written : List (List ℕ) → ℕ → List ℕ → ℕ → ℕ → Side → ℕ → List ℕ → List ℕ → ℕ → ℕ → Type 0
Written ns count r p left side from old new e n =
    (t : Ty) (f : ℕ) → type_at left count r p ≡ got t f → (e ≡ f) × Splice from (text_in ns side t) old new n

-- a right operand comes before its own brackets' inside
abbrev pub weight : Side → ℕ
weight Right = 1
weight Plain = 0

stop-got : (p : ℕ) (t : Ty) (e : ℕ) → malformed p ≡ got t e → ⊥
stop-got p t e h = let z : ◌≡◌ {A = ℕ} 0 1 = cc in omega arith

deep-got : (p : ℕ) (t : Ty) (e : ℕ) → deep p ≡ got t e → ⊥
deep-got p t e h = let z : ◌≡◌ {A = ℕ} 0 1 = cc in omega arith

-- no type stands where no depth is left
deep-never : (p : ℕ) (k : R.Head) (t : Ty) (e : ℕ) → deep_by p k ≡ got t e → ⊥
unfolding deep_by
deep-never p R.wrong t e h = stop-got p t e h
deep-never p (R.atomic a f) t e h = deep-got p t e h
deep-never p (R.power f) t e h = deep-got p t e h
deep-never p (R.product f) t e h = deep-got p t e h

pub some_level : (left count : ℕ) (r : List ℕ) (p : ℕ) (t : Ty) (e : ℕ) → type_at left count r p ≡ got t e → left ≡ 0 → ⊥
unfolding type_at
some_level left count r p t e h z = deep-never p (head_of count p (drop p r)) t e (rw z at h)

-- what stands at p is spelled with one more record in front of what stands at e, and its text is that one's in brackets
unfoldable pub Nested : List (List ℕ) → ℕ → List ℕ → ℕ → ℕ → Side → ℕ → ℕ → List ℕ → Type 0
Nested ns count r p left side e l o =
    (t : Ty) (f : ℕ) → type_at left count r p ≡ got t f
    → (u : Ty) × (type_at l count r e ≡ got u f) × (text_in ns side t ≡ o ++ (text_in ns Plain u ++ bracket_close))

and_power : (x : TypeAt) (t : Ty) (f : ℕ) → and_then x (λ u g. got (pow u) g) ≡ got t f → (u : Ty) × (x ≡ got u f) × (t ≡ pow u)
unfolding and_then
and_power (got u g) t f h = (u, ap (got u) (let e : g ≡ f = cc in e), (let e : t ≡ pow u = cc in e))
and_power (malformed p) t f h = absurd (stop-got p t f h)
and_power (deep p) t f h = absurd (deep-got p t f h)

and_right : (a : Ty) (x : TypeAt) (t : Ty) (f : ℕ) → and_then x (λ b g. got (prod a b) g) ≡ got t f → (b : Ty) × (x ≡ got b f) × (t ≡ prod a b)
unfolding and_then
and_right a (got b g) t f h = (b, ap (got b) (let e : g ≡ f = cc in e), (let e : t ≡ prod a b = cc in e))
and_right a (malformed p) t f h = absurd (stop-got p t f h)
and_right a (deep p) t f h = absurd (deep-got p t f h)

and_product : (x : TypeAt) (y : ℕ → TypeAt) (t : Ty) (f : ℕ) → and_then x (λ a g. and_then (y g) (λ b e. got (prod a b) e)) ≡ got t f → (a : Ty) × (g : ℕ) × (b : Ty) × (x ≡ got a g) × (y g ≡ got b f) × (t ≡ prod a b)
unfolding and_then
and_product (got a g) y t f h = let k = and_right a (y g) t f h in (a, g, k.0, refl, k.1, k.2)
and_product (malformed p) y t f h = absurd (stop-got p t f h)
and_product (deep p) y t f h = absurd (deep-got p t f h)

module _ (ns : List (List ℕ)) (count : ℕ) (r : List ℕ) (p left : ℕ) (side : Side) (old : List ℕ) where
  module _ (k : Option Head) (ek : head_is k ≡ head_of count p (drop p r)) where
    pub put-unknown : k ≡ None → Ready ns count r p left side 0 (length old) → Written ns count r p left side 0 old old p 0
    unfolding Written
    put-unknown e R = λ t f h. absurd (stop-got p t f (sym (type-wrong left count r p k ek e) ∙ h))

    module _ (a : Atom) (e : ℕ) (q : k ≡ Some (Atomic a e)) where
      atom-is : (t : Ty) (f : ℕ) → type_at left count r p ≡ got t f → (e ≡ f) × (text_atom ns (atom_is a) ≡ text_in ns side t)
      atom-is t f h =
          let g : got (base (atom_is a)) e ≡ got t f = sym (type-atom left count r p k ek (λ z. some_level left count r p t f h z) a e q) ∙ h in
          let et : base (atom_is a) ≡ t = cc in
          ((let i : e ≡ f = cc in i), sym (text_in-atom ns side (atom_is a)) ∙ ap (text_in ns side) et)

      pub atom-fits : Ready ns count r p left side 0 (length old) → length (text_atom ns (atom_is a)) ≤ length old
      atom-fits R = omega (arith, R.fits, ap length (atom-is R.type R.end R.stands).1)

      pub atom-end : (new : List ℕ) (n : ℕ) → Splice 0 (text_atom ns (atom_is a)) old new n → Written ns count r p left side 0 old new e n
      unfolding Written
      atom-end new n s = λ t f h. let w = atom-is t f h in (w.0, splice_as _ _ _ _ _ s _ w.1)

    pub power_nested : (e : ℕ) → k ≡ Some (Power e) → Nested ns count r p left side e (left - 1) power_open
    unfolding Nested
    power_nested e q = λ t f h.
        let w = and_power (type_at (left - 1) count r e) t f (sym (type-power left count r p k ek (λ z. some_level left count r p t f h z) e q) ∙ h) in
        (w.0, w.1, ap (text_in ns side) w.2 ∙ text_in-power ns side w.0 ∙ ap (λ (x : List ℕ). power_open ++ (x ++ bracket_close)) (in_plain ns w.0))

    module _ (e : ℕ) (q : k ≡ Some (Product e)) where
      pair : (t : Ty) (f : ℕ) → type_at left count r p ≡ got t f → (a : Ty) × (g : ℕ) × (b : Ty) × (type_at (left - 1) count r e ≡ got a g) × (type_at (left - 1) count r g ≡ got b f) × (t ≡ prod a b)
      pair t f h = and_product (type_at (left - 1) count r e) (type_at (left - 1) count r) t f (sym (type-product left count r p k ek (λ z. some_level left count r p t f h z) e q) ∙ h)

      pub brackets_nested : side ≡ Right → Nested ns count r p left side p left bracket_open
      unfolding Nested
      brackets_nested er = λ t f h.
          let w = pair t f h in (
            t,
            h,
            ap (λ (b : Side). text_in ns b t) er ∙ ap (text_in ns Right) w.5 ∙ text_in-right ns w.0 w.2
                ∙ ap (λ (x : List ℕ). bracket_open ++ (x ++ bracket_close)) (in_plain ns (prod w.0 w.2) ∙ ap (text_in ns Plain) (sym w.5)),
          )

      module _ (er : side ≡ Plain) where
        pair-text : (t : Ty) (a b : Ty) → t ≡ prod a b → text_in ns side t ≡ text_in ns Plain a ++ (times ++ text_in ns Right b)
        pair-text t a b et =
            ap (λ (z : Side). text_in ns z t) er ∙ ap (text_in ns Plain) et ∙ text_in-product ns a b
            ∙ ap (λ (x : List ℕ). x ++ (times ++ text_in ns Right b)) (in_plain ns a)

        pair_width : (t : Ty) (a b : Ty) → t ≡ prod a b → length (text_in ns side t) ≡ length (text_in ns Plain a) + 2 + length (text_in ns Right b)
        pair_width t a b et = ap length (pair-text t a b et) ∙ omega (arith, length-append (text_in ns Plain a) (times ++ text_in ns Right b))

        module _ (R : Ready ns count r p left side 0 (length old)) where
          pub product-ready : Ready ns count r e (left - 1) Plain 0 (length old)
          product-ready =
              let w = pair R.type R.end R.stands in
              record { type = w.0; end = w.1; stands = w.3; fits = omega (arith, R.fits, pair_width R.type w.0 w.2 w.5) }

          module _ (mid : List ℕ) (f n : ℕ) (first : Written ns count r e (left - 1) Plain 0 old mid f n) where
            first-is : let w = pair R.type R.end R.stands in (f ≡ w.1) × Splice 0 (text_in ns Plain w.0) old mid n
            unfolding Written
            first-is = let w = pair R.type R.end R.stands in first w.0 w.1 w.3

            pub product-room : n + 2 ≤ length mid
            product-room =
                let w = pair R.type R.end R.stands in
                let s = first-is.1 in
                omega (arith, R.fits, s.count, splice_length _ _ _ _ _ s, pair_width R.type w.0 w.2 w.5)

            module _ (mid2 : List ℕ) (j : ℕ) (sign : Splice n times mid mid2 j) where
              pub product-next : Ready ns count r f (left - 1) Right (n + j) (length mid2)
              product-next =
                  let w = pair R.type R.end R.stands in
                  let s = first-is.1 in
                  record {
                    type = w.2;
                    end = R.end;
                    stands = ap (type_at (left - 1) count r) first-is.0 ∙ w.4;
                    fits = omega (arith, R.fits, s.count, sign.count, splice_length _ _ _ _ _ s, splice_length _ _ _ _ _ sign, pair_width R.type w.0 w.2 w.5);
                  }

              module _ (new : List ℕ) (g m : ℕ) (second : Written ns count r f (left - 1) Right (n + j) mid2 new g m) where
                pub product-sum : n + j + m ≤ length old
                unfolding Written
                product-sum =
                    let w = pair R.type R.end R.stands in
                    let s = first-is.1 in
                    let z = (second w.2 R.end (ap (type_at (left - 1) count r) first-is.0 ∙ w.4)).1 in
                    omega (arith, R.fits, s.count, sign.count, z.count, pair_width R.type w.0 w.2 w.5)

                pub product-end : Written ns count r p left side 0 old new g (n + j + m)
                unfolding Written
                product-end = λ t h st.
                    let w = pair t h st in
                    let one = first w.0 w.1 w.3 in
                    let two = second w.2 h (ap (type_at (left - 1) count r) one.0 ∙ w.4) in
                    let s1 = splice_join _ _ _ _ _ one.1 _ _ _ _ (let z : n ≡ 0 + n = omega arith in z) sign in
                    let s2 = splice_join _ _ _ _ _ s1 _ _ _ _ (let z : n + j ≡ 0 + (n + j) = omega arith in z) two.1 in
                    (two.0, splice_as _ _ _ _ _ s2 _ (append_assoc (text_in ns Plain w.0) times (text_in ns Right w.2) ∙ sym (pair-text t w.0 w.2 w.5)))

  -- ---- between an opening sign and the closing bracket
  module _ (e l : ℕ) (o : List ℕ) (N : Nested ns count r p left side e l o) where
    nested_width : (t u : Ty) → text_in ns side t ≡ o ++ (text_in ns Plain u ++ bracket_close) → length (text_in ns side t) ≡ length o + length (text_in ns Plain u) + 1
    nested_width t u x = ap length x ∙ omega (arith, length-append o (text_in ns Plain u ++ bracket_close), length-append (text_in ns Plain u) bracket_close)

    module _ (R : Ready ns count r p left side 0 (length old)) where
      inner : (u : Ty) × (type_at l count r e ≡ got u R.end) × (text_in ns side R.type ≡ o ++ (text_in ns Plain u ++ bracket_close))
      unfolding Nested
      inner = N R.type R.end R.stands

      pub nested_fits : 0 + length o ≤ length old
      nested_fits = omega (arith, R.fits, nested_width R.type inner.0 inner.2)

      module _ (mid : List ℕ) (n : ℕ) (s : Splice 0 o old mid n) where
        pub nested_ready : Ready ns count r e l Plain n (length mid)
        nested_ready =
            record {
              type = inner.0;
              end = R.end;
              stands = inner.1;
              fits = omega (arith, R.fits, s.count, splice_length _ _ _ _ _ s, nested_width R.type inner.0 inner.2);
            }

        module _ (mid2 : List ℕ) (f m : ℕ) (w : Written ns count r e l Plain n mid mid2 f m) where
          inner_is : (f ≡ R.end) × Splice n (text_in ns Plain inner.0) mid mid2 m
          unfolding Written
          inner_is = w inner.0 R.end inner.1

          pub nested_sum : n + m + 1 ≤ length old
          nested_sum = omega (arith, R.fits, s.count, inner_is.1.count, nested_width R.type inner.0 inner.2)

          pub nested_room : n + m + 1 ≤ length mid2
          nested_room = omega (arith, nested_sum, splice_length _ _ _ _ _ s, splice_length _ _ _ _ _ inner_is.1)

          pub nested_end : (new : List ℕ) (j : ℕ) → Splice (n + m) bracket_close mid2 new j → Written ns count r p left side 0 old new f (n + m + j)
          unfolding Written Nested
          nested_end new j c = λ t h st.
              let v = N t h st in
              let i = w v.0 h v.1 in
              let s1 = splice_join _ _ _ _ _ s _ _ _ _ (let z : n ≡ 0 + n = omega arith in z) i.1 in
              let s2 = splice_join _ _ _ _ _ s1 _ _ _ _ (let z : n + m ≡ 0 + (n + m) = omega arith in z) c in
              (i.0, splice_as _ _ _ _ _ s2 _ (append_assoc o (text_in ns Plain v.0) bracket_close ∙ sym v.2))

-- ---- the page's tail is lent

module _ {ns : List (List ℕ)} {count : ℕ} {r : List ℕ} {p left : ℕ} {side : Side} {from : ℕ} (old : List ℕ) where
  pub lent-ready : Ready ns count r p left side from (length old) → Ready ns count r p left side 0 (length (take (length old - from) (drop from old)))
  lent-ready R =
      let all : length (take (length old - from) (drop from old)) ≡ length old - from = ap length (take_all (length old - from) (drop from old) (omega (arith, length-drop from old))) ∙ length-drop from old in
      record { type = R.type; end = R.end; stands = R.stands; fits = omega (arith, R.fits) }

  pub lent-end : Ready ns count r p left side from (length old) → (part : List ℕ) (e n : ℕ) → Written ns count r p left side 0 (take (length old - from) (drop from old)) part e n → Written ns count r p left side from old (take from old ++ (part ++ drop (length old - from) (drop from old))) e n
  unfolding Written
  lent-end R part e n w = λ t f st. let z = w t f st in (z.0, splice_lent from _ old part _ n (omega (arith, R.fits)) z.1 refl)
