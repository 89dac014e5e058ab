-- One step of each definition over type records, in the order of the code that follows it.
use Rattle.std.specs.Prelude.{Option, Some, None, Result, Ok, Err, ℕ, zero, suc, ◌+◌, ◌-◌, ◌*◌, ◌≤◌, ◌<◌, ◌≡◌, Bool, true, false, get_or, take, drop, leb, ltb, eqb}
use Rattle.std.specs.Option.{ok_or}
use Rattle.std.specs.Bool.{then_some}
use Rattle.std.proofs.Common.{add-one, ◌∙◌, drop_of_length-le, length-drop, length-take, drop-cons, take_all, length-take-le}
use native.Mathlib.Omega.{arith}
use Rattle.std.proofs.Math.Path.{refl, sym, ap}
use mathlib.Core.List.{List, [], ◌∷◌}
use Rattle.std.proofs.Math.ListN.{length}
use borrow.Author.Tests.{ne_eqb, leb-true, leb-false}
use Rattle.types.specs.declared.Atom.{Atom}
use Rattle.types.specs.declared.Atom.TheVariants.{Bool as BOOL, Integer, Given}
use Rattle.types.specs.declared.Head.{Head}
use Rattle.types.specs.declared.Head.TheVariants.{Atomic, Power, Product}
use Rattle.types.specs.declared.Fault.{Fault}
use Rattle.types.specs.declared.Fault.TheVariants.{Malformed, Beyond}
use Rattle.types.specs.declared.Place.{Place}
use Rattle.types.specs.Ty as T
use Rattle.types.specs.Record as R
use Rattle.types.specs.Record.{reach, given_of, head_of, TypeAt, got, malformed, deep, and_then, deep_by, type_by, type_at, pick}
use Rattle.types.specs.Code.{atom_is, head_is, end_of}

pub drop-next : (l : List ℕ) (i : ℕ) → i < length l → drop i l ≡ get_or l i 0 ∷ drop (i + 1) l
drop-next l i h = rw (add-one i) (drop-cons l i 0 h)

-- ---- heads

pub head-none : (names : ℕ) (s : List ℕ) (p : ℕ) → length s ≤ p → head_is None ≡ head_of names p (drop p s)
unfolding head_of head_is
head-none names s p h = sym (rw (drop_of_length-le s h))

module _ (names : ℕ) (s : List ℕ) (p : ℕ) (h : p < length s) where
  head-next : head_of names p (drop p s) ≡ head_of names p (get_or s p 0 ∷ drop (p + 1) s)
  head-next = ap (head_of names p) (drop-next s p h)

  pub head-bool : get_or s p 0 ≡ 0x40 → head_is (Some (Atomic BOOL (p + 1))) ≡ head_of names p (drop p s)
  unfolding head_of head_is atom_is
  head-bool e = sym (head-next ∙ rw e)

  pub head-integer : get_or s p 0 ≡ 0x41 → head_is (Some (Atomic Integer (p + 1))) ≡ head_of names p (drop p s)
  unfolding head_of head_is atom_is
  head-integer e = sym (head-next ∙ rw e)

  pub head-given : (k : Option Head) → get_or s p 0 ≡ 0x42 → head_is k ≡ given_of names p (drop (p + 1) s) → head_is k ≡ head_of names p (drop p s)
  unfolding head_of
  head-given k e g = g ∙ sym (head-next ∙ rw e)

  pub head-power : get_or s p 0 ≡ 0x43 → head_is (Some (Power (p + 1))) ≡ head_of names p (drop p s)
  unfolding head_of head_is
  head-power e = sym (head-next ∙ rw e)

  pub head-product : get_or s p 0 ≡ 0x44 → head_is (Some (Product (p + 1))) ≡ head_of names p (drop p s)
  unfolding head_of head_is
  head-product e = sym (head-next ∙ rw e)

  pub head-other : (get_or s p 0 ≡ 0x40 → ⊥) → (get_or s p 0 ≡ 0x41 → ⊥) → (get_or s p 0 ≡ 0x42 → ⊥) → (get_or s p 0 ≡ 0x43 → ⊥) → (get_or s p 0 ≡ 0x44 → ⊥) → head_is None ≡ head_of names p (drop p s)
  unfolding head_of head_is
  head-other a b c d e = sym (head-next ∙ rw (ne_eqb _ 0x40 a, ne_eqb _ 0x41 b, ne_eqb _ 0x42 c, ne_eqb _ 0x43 d, ne_eqb _ 0x44 e))

  pub given-short : length s - p < 3 → head_is None ≡ given_of names p (drop (p + 1) s)
  unfolding given_of head_is
  given-short k = go (drop (p + 1) s) (length-drop (p + 1) s)
    where
      go : (l : List ℕ) → length l ≡ length s - (p + 1) → R.wrong ≡ given_of names p l
      go [] e = refl
      go (x ∷ []) e = refl
      go (x ∷ y ∷ l) e = absurd (omega arith)

  module _ (lo hi : ℕ) (room : 3 ≤ length s - p) (el : lo ≡ get_or s (p + 1) 0) (eh : hi ≡ get_or s (p + 2) 0) where
    given_both : given_of names p (drop (p + 1) s) ≡ pick (ltb (lo + hi * 256) names) (R.atomic (T.given (lo + hi * 256)) (p + 3)) R.wrong
    unfolding given_of
    given_both =
        let e : p + 1 + 1 ≡ p + 2 = omega arith in
        rw (drop-next s (p + 1) (omega arith), e, drop-next s (p + 2) (omega arith), el, eh)

    pub given-told : (n : ℕ) → n ≡ lo + hi * 256 → (k : Option Head) → k ≡ then_some (ltb n names) (Atomic (Given (record { 0 = n })) (p + 3)) → head_is k ≡ given_of names p (drop (p + 1) s)
    unfolding head_is atom_is
    given-told n e k q = ap head_is q ∙ (go (ltb n names) ∙ sym (given_both ∙ ap (λ (m : ℕ). pick (ltb m names) (R.atomic (T.given m) (p + 3)) R.wrong) (sym e)))
      where
        go : (b : Bool) → head_is (then_some b (Atomic (Given (record { 0 = n })) (p + 3))) ≡ pick b (R.atomic (T.given n) (p + 3)) R.wrong
        go true = refl
        go false = refl

-- a record that is there ends inside the bytes
unfoldable pub Inside : ℕ → R.Head → Type 0
Inside n (R.atomic a e) = e ≤ n
Inside n (R.power e) = e ≤ n
Inside n (R.product e) = e ≤ n
Inside n R.wrong = Unit {0}

inside-given : (names p : ℕ) (l : List ℕ) (n : ℕ) → p + 1 + length l ≤ n → Inside n (given_of names p l)
unfolding Inside given_of
inside-given names p [] n h = tt
inside-given names p (lo ∷ []) n h = tt
inside-given names p (lo ∷ hi ∷ l) n h = go (ltb (lo + hi * 256) names)
  where
    go : (c : Bool) → Inside n (pick c (R.atomic (T.given (lo + hi * 256)) (p + 3)) R.wrong)
    go true = omega arith
    go false = tt

inside-pick : (n : ℕ) (c : Bool) (a b : R.Head) → Inside n a → Inside n b → Inside n (pick c a b)
inside-pick n true a b h k = h
inside-pick n false a b h k = k

inside-head : (names p : ℕ) (l : List ℕ) (n : ℕ) → p + length l ≤ n → Inside n (head_of names p l)
unfolding Inside head_of
inside-head names p [] n h = tt
inside-head names p (k ∷ l) n h =
    inside-pick n (eqb k 0x40) _ _ (omega arith) (inside-pick n (eqb k 0x41) _ _ (omega arith)
    (inside-pick n (eqb k 0x42) _ _ (inside-given names p l n (omega arith))
    (inside-pick n (eqb k 0x43) _ _ (omega arith) (inside-pick n (eqb k 0x44) _ _ (omega arith) tt))))

pub head-inside : (names : ℕ) (s : List ℕ) (p : ℕ) → Inside (length s) (head_of names p (drop p s))
unfolding Inside head_of
head-inside names s p = go (leb p (length s)) refl
  where
    go : (c : Bool) → leb p (length s) ≡ c → Inside (length s) (head_of names p (drop p s))
    go true e = inside-head names p (drop p s) (length s) (omega (arith, leb-true p (length s) e, length-drop p s))
    go false e = rw (drop_of_length-le s {i = p} (omega (arith, leb-false p (length s) e))) tt

-- ---- the type at a place

wrong-zero : (names : ℕ) (s : List ℕ) (p : ℕ) → head_of names p (drop p s) ≡ R.wrong → type_at zero names s p ≡ malformed p
unfolding type_at deep_by
wrong-zero names s p e = rw e

wrong-suc : (left names : ℕ) (s : List ℕ) (p : ℕ) → head_of names p (drop p s) ≡ R.wrong → type_at (suc left) names s p ≡ malformed p
unfolding type_at type_by
wrong-suc left names s p e = rw e

suc-atom : (left names : ℕ) (s : List ℕ) (p : ℕ) (a : T.Atom) (e : ℕ) → head_of names p (drop p s) ≡ R.atomic a e → type_at (suc left) names s p ≡ got (T.base a) e
unfolding type_at type_by
suc-atom left names s p a e g = rw g

suc-power : (left names : ℕ) (s : List ℕ) (p : ℕ) (e : ℕ) → head_of names p (drop p s) ≡ R.power e → type_at (suc left) names s p ≡ and_then (type_at left names s e) (λ t f. got (T.pow t) f)
unfolding type_at type_by
suc-power left names s p e g = rw g

suc-product : (left names : ℕ) (s : List ℕ) (p : ℕ) (e : ℕ) → head_of names p (drop p s) ≡ R.product e → type_at (suc left) names s p ≡ and_then (type_at left names s e) (λ t f. and_then (type_at left names s f) (λ u g. got (T.prod t u) g))
unfolding type_at type_by
suc-product left names s p e g = rw g

module _ (left names : ℕ) (s : List ℕ) (p : ℕ) (h : Option Head) (eh : head_is h ≡ head_of names p (drop p s)) where
  pub type-wrong : h ≡ None → type_at left names s p ≡ malformed p
  unfolding head_is
  type-wrong e = go left
    where
      q : head_of names p (drop p s) ≡ R.wrong
      q = sym eh ∙ ap head_is e

      go : (n : ℕ) → type_at n names s p ≡ malformed p
      go zero = wrong-zero names s p q
      go (suc n) = wrong-suc n names s p q

  -- no level is left, for a record of any kind
  pub type-deep : left ≡ 0 → (k : Head) → h ≡ Some k → type_at left names s p ≡ deep p
  unfolding type_at deep_by head_is
  type-deep z (Atomic a e) q = rw (z, sym eh ∙ ap head_is q)
  type-deep z (Power e) q = rw (z, sym eh ∙ ap head_is q)
  type-deep z (Product e) q = rw (z, sym eh ∙ ap head_is q)

  -- a level is left
  module _ (z : left ≡ 0 → ⊥) where
    step : left ≡ suc (left - 1)
    step = omega (arith, z)

    pub type-atom : (a : Atom) (e : ℕ) → h ≡ Some (Atomic a e) → type_at left names s p ≡ got (T.base (atom_is a)) e
    unfolding head_is
    type-atom a e q = ap (λ (n : ℕ). type_at n names s p) step ∙ suc-atom (left - 1) names s p (atom_is a) e (sym eh ∙ ap head_is q)

    pub type-power : (e : ℕ) → h ≡ Some (Power e) → type_at left names s p ≡ and_then (type_at (left - 1) names s e) (λ t f. got (T.pow t) f)
    unfolding head_is
    type-power e q = ap (λ (n : ℕ). type_at n names s p) step ∙ suc-power (left - 1) names s p e (sym eh ∙ ap head_is q)

    pub type-product : (e : ℕ) → h ≡ Some (Product e) → type_at left names s p ≡ and_then (type_at (left - 1) names s e) (λ t f. and_then (type_at (left - 1) names s f) (λ u g. got (T.prod t u) g))
    unfolding head_is
    type-product e q = ap (λ (n : ℕ). type_at n names s p) step ∙ suc-product (left - 1) names s p e (sym eh ∙ ap head_is q)

  pub atom-inside : (a : Atom) (e : ℕ) → h ≡ Some (Atomic a e) → e ≤ length s
  unfolding head_is Inside
  atom-inside a e q = let g : head_of names p (drop p s) ≡ R.atomic (atom_is a) e = sym eh ∙ ap head_is q in let i : Inside (length s) (R.atomic (atom_is a) e) = rw g at (head-inside names s p) in i

  pub power-inside : (e : ℕ) → h ≡ Some (Power e) → e ≤ length s
  unfolding head_is Inside
  power-inside e q = let g : head_of names p (drop p s) ≡ R.power e = sym eh ∙ ap head_is q in let i : Inside (length s) (R.power e) = rw g at (head-inside names s p) in i

  pub product_inside : (e : ℕ) → h ≡ Some (Product e) → e ≤ length s
  unfolding head_is Inside
  product_inside e q = let g : head_of names p (drop p s) ≡ R.product e = sym eh ∙ ap head_is q in let i : Inside (length s) (R.product e) = rw g at (head-inside names s p) in i

-- ---- the end of a type

pub end-got : (t : T.Ty) (e : ℕ) (x : TypeAt) → x ≡ got t e → ◌≡◌ {A = Result Place (Fault Place)} (Ok (record { 0 = e })) (end_of x)
unfolding end_of
end-got t e x h = sym (ap end_of h)

pub end-malformed : (p : ℕ) (x : TypeAt) → x ≡ malformed p → ◌≡◌ {A = Result Place (Fault Place)} (Err (Malformed (record { 0 = p }))) (end_of x)
unfolding end_of
end-malformed p x h = sym (ap end_of h)

pub end-deep : (p : ℕ) (x : TypeAt) → x ≡ deep p → ◌≡◌ {A = Result Place (Fault Place)} (Err (Beyond (record { 0 = p }))) (end_of x)
unfolding end_of
end-deep p x h = sym (ap end_of h)

-- where no record stands, what `ok_or` makes of the head is the fault
pub end-missing : (left names : ℕ) (s : List ℕ) (p : ℕ) (h : Option Head) → head_is h ≡ head_of names p (drop p s) → (f : Fault Place) → ok_or h (Malformed (record { 0 = p })) ≡ Err f → Err f ≡ end_of (type_at left names s p)
unfolding end_of
end-missing left names s p None eh f e =
    let o : f ≡ Malformed (record { 0 = p }) = cc in
    rw o (end-malformed p _ (type-wrong left names s p None eh refl))
end-missing left names s p (Some k) eh f e = absurd (let o : ◌≡◌ {A = ℕ} 0 1 = cc in omega arith)

power-end : (x : TypeAt) → end_of x ≡ end_of (and_then x (λ t f. got (T.pow t) f))
unfolding end_of and_then
power-end (got t f) = refl
power-end (malformed p) = refl
power-end (deep p) = refl

pub end-power : (r : Result Place (Fault Place)) (x y : TypeAt) → x ≡ and_then y (λ t f. got (T.pow t) f) → r ≡ end_of y → r ≡ end_of x
end-power r x y h e = e ∙ power-end y ∙ sym (ap end_of h)

left-fault : (y : TypeAt) (z : ℕ → TypeAt) (f : Fault Place) → Err f ≡ end_of y → Err f ≡ end_of (and_then y (λ t g. and_then (z g) (λ u h. got (T.prod t u) h)))
unfolding end_of and_then
left-fault (got t g) z f e = absurd (let o : ◌≡◌ {A = ℕ} 0 1 = cc in omega arith)
left-fault (malformed q) z f e = e
left-fault (deep q) z f e = e

right_end : (t : T.Ty) (x : TypeAt) → end_of x ≡ end_of (and_then x (λ u g. got (T.prod t u) g))
unfolding end_of and_then
right_end t (got u g) = refl
right_end t (malformed p) = refl
right_end t (deep p) = refl

both_end : (y : TypeAt) (z : ℕ → TypeAt) (p : Place) → Ok p ≡ end_of y → end_of (z p.0) ≡ end_of (and_then y (λ t f. and_then (z f) (λ u g. got (T.prod t u) g)))
unfolding end_of and_then
both_end (got t f) z p e = let o : p ≡ record { 0 = f } = cc in ap (λ (k : Place). end_of (z k.0)) o ∙ right_end t (z f)
both_end (malformed q) z p e = absurd (let o : ◌≡◌ {A = ℕ} 0 1 = cc in omega arith)
both_end (deep q) z p e = absurd (let o : ◌≡◌ {A = ℕ} 0 1 = cc in omega arith)

module _ (x y : TypeAt) (z : ℕ → TypeAt) (h : x ≡ and_then y (λ t f. and_then (z f) (λ u g. got (T.prod t u) g))) (r : Result Place (Fault Place)) (e : r ≡ end_of y) where
  pub end-left : (f : Fault Place) → r ≡ Err f → Err f ≡ end_of x
  end-left f k = left-fault y z f (sym k ∙ e) ∙ sym (ap end_of h)

  pub end-product : (p : Place) → r ≡ Ok p → (q : Result Place (Fault Place)) → q ≡ end_of (z p.0) → q ≡ end_of x
  end-product p k q g = g ∙ both_end y z p (sym k ∙ e) ∙ sym (ap end_of h)

-- bytes that places can number are all there
pub in_reach : (left names : ℕ) (s : List ℕ) (p : ℕ) → length s ≤ 4294967295 → type_at left names (reach s) p ≡ type_at left names s p
unfolding reach
in_reach left names s p h = ap (λ (l : List ℕ). type_at left names l p) (take_all 4294967295 s h)

pub taken : (n : ℕ) (s : List ℕ) → length (take n s) ≤ n
taken n s = omega (arith, length-take n s)

pub taken-all : (n : ℕ) (s : List ℕ) → n < length s → n ≡ length (take n s)
taken-all n s h = sym (length-take-le n s (omega arith))
