-- What a fault's place means: the first record, in stream order, that is malformed or lies too deep.
-- `Way` is the part of a type that stands before one of its records: everything on it is well formed, shallow enough and of known names.
-- `malformed_means` and `deep_means`, with their converses, say that `type_at` refuses exactly where a way leads to a bad record.
use Prim.Native.Nat.{ℕ, zero, suc, ◌+◌, ◌<◌}
use Rattle.std.proofs.Common.{add-zero, arith, ◌∙◌, drop-drop}
use Rattle.std.proofs.Math.Path.{◌≡◌, refl, sym, ap}
use Rattle.std.specs.Prelude.{◌≢◌, length}
use mathlib.Core.List.{List, [], ◌∷◌, ◌++◌, append_assoc}
use Rattle.std.proofs.Math.ListN.{drop, length-append}
use Rattle.types.specs.Ty.{Ty, pow, prod, depth, spell, Below}
use Rattle.types.specs.Record.{Head, atomic, power, product, wrong, head_of, TypeAt, got, malformed, deep, and_then, deep_by, type_by, type_at}
use Rattle.types.specs.Spellings.{past, Bytes, Begins, Stands, head-begins, head-power, head-product, bytes_drop, read-stands, spelled-is-read}

-- the way from a type's record down to one of its records
pub data Way : Type 0 where
  here : Way
  into : Way → Way
  first : Way → Way
  second : Ty → Way → Way

-- the bytes before that record
unfoldable pub before : Way → List ℕ
before here = []
before (into w) = 0x43 ∷ before w
before (first w) = 0x44 ∷ before w
before (second t w) = 0x44 ∷ (spell t ++ before w)

-- how deep it lies
unfoldable pub level : Way → ℕ
level here = 0
level (into w) = suc (level w)
level (first w) = suc (level w)
level (second t w) = suc (level w)

-- the types passed by have few enough levels, and names below the count
unfoldable pub Clear : ℕ → ℕ → Way → Type 0
Clear left names here = Unit {0}
Clear zero names (into w) = ⊥
Clear zero names (first w) = ⊥
Clear zero names (second t w) = ⊥
Clear (suc left) names (into w) = Clear left names w
Clear (suc left) names (first w) = Clear left names w
Clear (suc left) names (second t w) = (depth t < left) × Below names t × Clear left names w

-- a way leads from p to the record at q
pub record Leads (left names : ℕ) (s : List ℕ) (p q : ℕ) : Type 0 where
  pub way : Way
  pub clear : Clear left names way
  pub place : q ≡ p + length (before way)
  pub bytes : drop p s ≡ before way ++ drop q s

-- ---- from a way to a fault

-- what a record answers at the end of a way, the type above it answers
unfoldable pub Same : TypeAt → TypeAt → Type 0
Same (got t e) y = Unit {0}
Same (malformed p) y = y ≡ malformed p
Same (deep p) y = y ≡ deep p

same_self : (x : TypeAt) → Same x x
unfolding Same
same_self (got t q) = tt
same_self (malformed q) = refl
same_self (deep q) = refl

same_then : (x y : TypeAt) (f : Ty → ℕ → TypeAt) → Same x y → Same x (and_then y f)
unfolding Same and_then
same_then (got t e) y f h = tt
same_then (malformed p) y f h = rw h
same_then (deep p) y f h = rw h

-- the levels left at the end of a way
unfoldable pub below : ℕ → Way → ℕ
below left here = left
below zero (into w) = zero
below zero (first w) = zero
below zero (second t w) = zero
below (suc left) (into w) = below left w
below (suc left) (first w) = below left w
below (suc left) (second t w) = below left w

at-power : (left names : ℕ) (s : List ℕ) (p : ℕ) (l : List ℕ) → drop p s ≡ 0x43 ∷ l → type_at (suc left) names s p ≡ and_then (type_at left names s (p + 1)) (λ t f. got (pow t) f)
unfolding type_at type_by
at-power left names s p l e = rw (e, head-power names p l)

at-product : (left names : ℕ) (s : List ℕ) (p : ℕ) (l : List ℕ) → drop p s ≡ 0x44 ∷ l → type_at (suc left) names s p ≡ and_then (type_at left names s (p + 1)) (λ t f. and_then (type_at left names s f) (λ u g. got (prod t u) g))
unfolding type_at type_by
at-product left names s p l e = rw (e, head-product names p l)

then-got : (x : TypeAt) (t : Ty) (e : ℕ) (f : Ty → ℕ → TypeAt) → x ≡ got t e → and_then x f ≡ f t e
unfolding and_then
then-got x t e f h = rw h

same-to : (x y z : TypeAt) → y ≡ z → Same x z → Same x y
same-to x y z e h = rw e h

pub way-fault : (w : Way) (left names : ℕ) (s : List ℕ) (p : ℕ) → Clear left names w → drop p s ≡ before w ++ drop (p + length (before w)) s → Same (type_at (below left w) names s (p + length (before w))) (type_at left names s p)
unfolding Clear before below
way-fault here left names s p c e = rw (add-zero p) (same_self (type_at left names s p))
way-fault (into w) zero names s p c e = absurd c
way-fault (first w) zero names s p c e = absurd c
way-fault (second t w) zero names s p c e = absurd c
way-fault (into w) (suc left) names s p c e =
    let z : p + suc (length (before w)) ≡ p + 1 + length (before w) = omega arith in
    let n : drop (p + 1) s ≡ before w ++ drop (p + 1 + length (before w)) s = past s p (0x43 ∷ []) _ e ∙ ap (λ (k : ℕ). before w ++ drop k s) z in
    rw z (same-to _ _ _ (at-power left names s p _ e) (same_then _ _ _ (way-fault w left names s (p + 1) c n)))
way-fault (first w) (suc left) names s p c e =
    let z : p + suc (length (before w)) ≡ p + 1 + length (before w) = omega arith in
    let n : drop (p + 1) s ≡ before w ++ drop (p + 1 + length (before w)) s = past s p (0x44 ∷ []) _ e ∙ ap (λ (k : ℕ). before w ++ drop k s) z in
    rw z (same-to _ _ _ (at-product left names s p _ e) (same_then _ _ _ (way-fault w left names s (p + 1) c n)))
way-fault (second t w) (suc left) names s p c e =
    let f = p + 1 + length (spell t) in
    let z : p + suc (length (spell t ++ before w)) ≡ f + length (before w) = omega (arith, length-append (spell t) (before w)) in
    let m : drop (p + 1) s ≡ spell t ++ (before w ++ drop (f + length (before w)) s) =
    past s p (0x44 ∷ []) _ e ∙ append_assoc (spell t) (before w) _ ∙ ap (λ (k : ℕ). spell t ++ (before w ++ drop k s)) z in
    let n : drop f s ≡ before w ++ drop (f + length (before w)) s = past s (p + 1) (spell t) _ m in
    let l : type_at left names s (p + 1) ≡ got t f = spelled-is-read names s t c.1 left (p + 1) _ c.0 m in
    rw z (same-to _ _ _ (at-product left names s p _ e ∙ then-got _ t f _ l) (same_then _ _ _ (way-fault w left names s f c.2 n)))

-- ---- from a fault to a way

-- why the record at p, read in so many levels, gives an answer
unfoldable pub Why : ℕ → ℕ → List ℕ → ℕ → TypeAt → Type 0
Why left names s p (got t e) = Unit {0}
Why left names s p (malformed q) = Leads left names s p q × (head_of names q (drop q s) ≡ wrong)
Why left names s p (deep q) = (l : Leads left names s p q) × (level l.way ≡ left) × (head_of names q (drop q s) ≢ wrong)

stay : (left names : ℕ) (s : List ℕ) (p : ℕ) → Leads left names s p p
unfolding Clear before
stay left names s p = record { way = here; clear = tt; place = sym (add-zero p); bytes = refl }

module _ (left names : ℕ) (s : List ℕ) (p e : ℕ) where
  go_into : Begins names p (drop p s) (power e) → {q : ℕ} → Leads left names s e q → Leads (suc left) names s p q
  unfolding Begins Clear before
  go_into b l =
      record {
        way = into l.way;
        clear = l.clear;
        place = let h = l.place in let g = b.0 in omega arith;
        bytes = b.1 ∙ ap (λ (m : List ℕ). 0x43 ∷ m) (drop-drop 1 p s ∙ ap (λ (n : ℕ). drop n s) (sym b.0) ∙ l.bytes);
      }

  module _ (b : Begins names p (drop p s) (product e)) where
    go_first : {q : ℕ} → Leads left names s e q → Leads (suc left) names s p q
    unfolding Begins Clear before
    go_first l =
        record {
          way = first l.way;
          clear = l.clear;
          place = let h = l.place in let g = b.0 in omega arith;
          bytes = b.1 ∙ ap (λ (m : List ℕ). 0x44 ∷ m) (drop-drop 1 p s ∙ ap (λ (n : ℕ). drop n s) (sym b.0) ∙ l.bytes);
        }

    go_second : (t : Ty) (f : ℕ) → Stands left names s e t f → {q : ℕ} → Leads left names s f q → Leads (suc left) names s p q
    unfolding Begins Clear before
    go_second t f w {q} l =
        record {
          way = second t l.way;
          clear = (w.shallow, w.below, l.clear);
          place = let h = l.place in let g = b.0 in let i = w.ends in omega (arith, length-append (spell t) (before l.way));
          bytes = b.1 ∙ ap (λ (m : List ℕ). 0x44 ∷ m)
              (drop-drop 1 p s ∙ ap (λ (n : ℕ). drop n s) (sym b.0) ∙ w.bytes
              ∙ ap (λ (m : List ℕ). spell t ++ m) l.bytes ∙ sym (append_assoc (spell t) (before l.way) (drop q s)));
        }

  why-power : Begins names p (drop p s) (power e) → (x : TypeAt) → Why left names s e x → Why (suc left) names s p (and_then x λ t f. got (pow t) f)
  unfolding Why and_then level go_into
  why-power b (got t f) h = tt
  why-power b (malformed q) h = (go_into b h.0, h.1)
  why-power b (deep q) h = (go_into b h.0, ap suc h.1, h.2)

  why-right : Begins names p (drop p s) (product e) → (t : Ty) (f : ℕ) → Stands left names s e t f → (x : TypeAt) → Why left names s f x → Why (suc left) names s p (and_then x λ u g. got (prod t u) g)
  unfolding Why and_then level go_second
  why-right b t f w (got u g) h = tt
  why-right b t f w (malformed q) h = (go_second b t f w h.0, h.1)
  why-right b t f w (deep q) h = (go_second b t f w h.0, ap suc h.1, h.2)

  why-product : Bytes s → Begins names p (drop p s) (product e) → ((q : ℕ) → Why left names s q (type_at left names s q)) → (x : TypeAt) → type_at left names s e ≡ x → Why left names s e x → Why (suc left) names s p (and_then x λ t f. and_then (type_at left names s f) λ u g. got (prod t u) g)
  unfolding Why and_then level go_first
  why-product w b rec (got t f) g h = why-right b t f (read-stands left names s w e t f g) (type_at left names s f) (rec f)
  why-product w b rec (malformed q) g h = (go_first b h.0, h.1)
  why-product w b rec (deep q) g h = (go_first b h.0, ap suc h.1, h.2)

module _ (names : ℕ) (s : List ℕ) (p : ℕ) where
  why-deep : (h : Head) → head_of names p (drop p s) ≡ h → Why zero names s p (deep_by p h)
  unfolding Why deep_by level stay
  why-deep (atomic a e) g = (stay zero names s p, refl, λ k. let z : ◌≡◌ {A = ℕ} 0 1 = cc in omega arith)
  why-deep (power e) g = (stay zero names s p, refl, λ k. let z : ◌≡◌ {A = ℕ} 0 1 = cc in omega arith)
  why-deep (product e) g = (stay zero names s p, refl, λ k. let z : ◌≡◌ {A = ℕ} 0 1 = cc in omega arith)
  why-deep wrong g = (stay zero names s p, g)

  why-by : (left : ℕ) → Bytes s → ((q : ℕ) → Why left names s q (type_at left names s q)) → (h : Head) → head_of names p (drop p s) ≡ h → Begins names p (drop p s) h → Why (suc left) names s p (type_by (type_at left names s) p h)
  unfolding Why type_by
  why-by left w rec (atomic a e) g b = tt
  why-by left w rec (power e) g b = why-power left names s p e b (type_at left names s e) (rec e)
  why-by left w rec (product e) g b = why-product left names s p e w b rec (type_at left names s e) refl (rec e)
  why-by left w rec wrong g b = (stay (suc left) names s p, g)

pub why : (left names : ℕ) (s : List ℕ) → Bytes s → (p : ℕ) → Why left names s p (type_at left names s p)
unfolding type_at
why zero names s w p = why-deep names s p (head_of names p (drop p s)) refl
why (suc left) names s w p =
    why-by names s p left w (why left names s w) (head_of names p (drop p s)) refl (head-begins names p (drop p s) (bytes_drop s w p))

-- ---- both ways together

pub malformed_means : (left names : ℕ) (s : List ℕ) → Bytes s → (p q : ℕ) → type_at left names s p ≡ malformed q → Leads left names s p q × (head_of names q (drop q s) ≡ wrong)
unfolding Why
malformed_means left names s w p q e = let z : Why left names s p (malformed q) = rw e at (why left names s w p) in z

pub deep_means : (left names : ℕ) (s : List ℕ) → Bytes s → (p q : ℕ) → type_at left names s p ≡ deep q → (l : Leads left names s p q) × (level l.way ≡ left) × (head_of names q (drop q s) ≢ wrong)
unfolding Why
deep_means left names s w p q e = let z : Why left names s p (deep q) = rw e at (why left names s w p) in z

wrong-any : (left names : ℕ) (s : List ℕ) (q : ℕ) → head_of names q (drop q s) ≡ wrong → type_at left names s q ≡ malformed q
unfolding type_at deep_by type_by
wrong-any zero names s q e = rw e
wrong-any (suc left) names s q e = rw e

right-deep : (names : ℕ) (s : List ℕ) (q : ℕ) → head_of names q (drop q s) ≢ wrong → type_at zero names s q ≡ deep q
unfolding type_at deep_by
right-deep names s q n = go (head_of names q (drop q s)) n
  where
    go : (h : Head) → h ≢ wrong → deep_by q h ≡ deep q
    go (atomic a e) k = refl
    go (power e) k = refl
    go (product e) k = refl
    go wrong k = absurd (k refl)

none_below : (w : Way) (left names : ℕ) → Clear left names w → level w ≡ left → below left w ≡ 0
unfolding Clear level below
none_below here left names c e = sym e
none_below (into w) zero names c e = refl
none_below (first w) zero names c e = refl
none_below (second t w) zero names c e = refl
none_below (into w) (suc left) names c e = none_below w left names c (omega arith)
none_below (first w) (suc left) names c e = none_below w left names c (omega arith)
none_below (second t w) (suc left) names c e = none_below w left names c.2 (omega arith)

module _ (left names : ℕ) (s : List ℕ) (p q : ℕ) (l : Leads left names s p q) where
  led : Same (type_at (below left l.way) names s q) (type_at left names s p)
  led = rw l.place (way-fault l.way left names s p l.clear (rw l.place at l.bytes))

  pub means_malformed : head_of names q (drop q s) ≡ wrong → type_at left names s p ≡ malformed q
  unfolding Same
  means_malformed e = let z : Same (malformed q) (type_at left names s p) = rw (wrong-any (below left l.way) names s q e) at led in z

  pub means_deep : level l.way ≡ left → head_of names q (drop q s) ≢ wrong → type_at left names s p ≡ deep q
  unfolding Same
  means_deep e n = let z : Same (deep q) (type_at left names s p) = rw (none_below l.way left names l.clear e, right-deep names s q n) at led in z
