-- What the library's calls over words, records and tables come to, in the words of the definitions.
use Prim.Native.Nat.{ℕ, zero, suc, ◌+◌, ◌-◌, ◌≤◌, ◌<◌}
use Rattle.std.proofs.Common.{◌∙◌, length-drop}
use native.Mathlib.Omega.{arith}
use Rattle.std.specs.Prelude.{◌≡◌, Bool, false, ◌&&◌, ◌||◌, Option, Some, None, get_or, take, drop, leb, ltb, min, map, cond}
use Rattle.std.specs.Char.{is_ascii_alphabetic, is_ascii_alphanumeric}
use Rattle.std.specs.List.{list_all, position_from, slice_get, enumerate_from}
use Rattle.std.specs.Cmp.Lexicographic.{pointwise}
use Rattle.std.proofs.Math.Path.{refl, sym, ap, subst}
use Rattle.std.proofs.Math.Bool.{true}
use mathlib.Core.List.{List, [], ◌∷◌}
use Rattle.std.proofs.Math.ListN.{length}
use Rattle.std.proofs.Math.Dec.{eqb}
use Rattle.std.proofs.lemmas.List.{take_min, drop_min, drop-drop, length-take, length-take-le, length-map}
use borrow.Author.Tests.{lt-ltb, le-ltb, leb-true, leb-false, eqb-true, eqb-false, eq-eqb, ne_eqb}
use denote.Ref.{Bor}
use Rattle.types.specs.declared.Name.{Name}
use Rattle.name_table.specs.Words.{between, letter, word_byte, all_word, is_word, same}
use Rattle.name_table.specs.Table.{boolean, at, shift, seek, find, records_of, records, names_of, names, Part, Named, good_from, good_on, good_name, good_table}

-- ---- bytes of words

pub letter_is : (c : ℕ) → is_ascii_alphabetic c ≡ letter c
unfolding letter between
letter_is c = refl

or_order : (d u l e : Bool) → (((d || u) || l) || e) ≡ ((u || l) || (d || e))
or_order true true l e = refl
or_order true false true e = refl
or_order true false false e = refl
or_order false true l e = refl
or_order false false true e = refl
or_order false false false e = refl

pub word_byte_is : (c : ℕ) → (is_ascii_alphanumeric c || eqb c 0x5F) ≡ word_byte c
unfolding word_byte letter between
word_byte_is c = or_order (leb 0x30 c && leb c 0x39) (leb 0x41 c && leb c 0x5A) (leb 0x61 c && leb c 0x7A) (eqb c 0x5F)

pub all_word_is : (w : List ℕ) → list_all word_byte w ≡ all_word w
unfolding all_word
all_word_is [] = refl
all_word_is (c ∷ w) = ap (λ (b : Bool). word_byte c && b) (all_word_is w)

pub same_is : (a b : List ℕ) → pointwise eqb a b ≡ same a b
unfolding same
same_is [] [] = refl
same_is [] (y ∷ b) = refl
same_is (x ∷ a) [] = refl
same_is (x ∷ a) (y ∷ b) = ap (λ (c : Bool). eqb x y && c) (same_is a b)

pub is-word-none : (w : List ℕ) → length w ≡ 0 → false ≡ is_word w
unfolding is_word
is-word-none [] h = refl
is-word-none (c ∷ w) h = absurd (omega arith)

pub is-word-some : (w : List ℕ) (c : ℕ) (l : List ℕ) (b : Bool) → w ≡ c ∷ l → b ≡ list_all word_byte l → (letter c && b) ≡ is_word w
unfolding is_word
is-word-some w c l b e h = rw (e, h, all_word_is l)

-- ---- the records of a table

records_stay : (f g : ℕ) (l : List ℕ) → length l ≤ f → length l ≤ g → records_of f l ≡ records_of g l
unfolding records_of
records_stay zero zero l h k = refl
records_stay zero (suc g) [] h k = refl
records_stay zero (suc g) (x ∷ l) h k = absurd (omega arith)
records_stay (suc f) zero [] h k = refl
records_stay (suc f) zero (x ∷ l) h k = absurd (omega arith)
records_stay (suc f) (suc g) [] h k = refl
records_stay (suc f) (suc g) (x ∷ l) h k =
    let n = length-drop (x - 128) l in
    ap (λ (r : List (ℕ × List ℕ)). (x, take (x - 128) l) ∷ r) (records_stay f g (drop (x - 128) l) (omega arith) (omega arith))

-- the first record: its kind, what it keeps of the rest for its name, and the rest of that
pub record-first : (l : List ℕ) (k : ℕ) (r name rest : List ℕ) (n : ℕ) → l ≡ k ∷ r → n ≡ min (k - 128) (length r) → name ≡ take n r → rest ≡ drop n r → records l ≡ (k, name) ∷ records rest
unfolding records_of
record-first l k r name rest n el en ename erest =
    let a : name ≡ take (k - 128) r = rw (ename, en) (take_min (k - 128) r) in
    let b : rest ≡ drop (k - 128) r = rw (erest, en) (drop_min (k - 128) r) in
    let m = length-drop (k - 128) r in
    rw (el, a, b) (ap (λ (x : List (ℕ × List ℕ)). (k, take (k - 128) r) ∷ x) (records_stay (length r) (length (drop (k - 128) r)) (drop (k - 128) r) (omega arith) (omega arith)))

pub records_short : (f : ℕ) (l : List ℕ) → length (records_of f l) ≤ length l
unfolding records_of
records_short zero l = omega arith
records_short (suc f) [] = omega arith
records_short (suc f) (k ∷ l) = omega (arith, records_short f (drop (k - 128) l), length-drop (k - 128) l)

pub records-none : (l : List ℕ) → length l ≡ 0 → records l ≡ []
unfolding records_of
records-none [] h = refl
records-none (k ∷ l) h = absurd (omega arith)

names_taken : (f g : ℕ) (l : List ℕ) → length l ≤ g → map (λ (r : ℕ × List ℕ). r.1) (take f (records_of g l)) ≡ names_of f l
unfolding names_of records_of
names_taken zero zero l h = refl
names_taken zero (suc g) l h = refl
names_taken (suc f) zero [] h = refl
names_taken (suc f) zero (k ∷ l) h = absurd (omega arith)
names_taken (suc f) (suc g) [] h = refl
names_taken (suc f) (suc g) (k ∷ l) h =
    let n = length-drop (k - 128) l in
    ap (λ (x : List (List ℕ)). take (k - 128) l ∷ x) (names_taken f g (drop (k - 128) l) (omega arith))

-- the names of a table are those of its first 256 records
pub names_are : (t : List ℕ) → map (λ (r : ℕ × List ℕ). r.1) (take 256 (records t)) ≡ names t
names_are t = names_taken 256 (length t) t (omega arith)

pub names_counted : (t : List ℕ) → length (take 256 (records t)) ≡ length (names t)
names_counted t = sym (length-map (take 256 (records t)) (λ (r : ℕ × List ℕ). r.1)) ∙ ap length (names_are t)

-- ---- the number of a word, and the name of a number

shift_zero : (i : ℕ) → shift i (at 0) ≡ at i
unfolding shift
shift_zero i = ap at (omega arith)

shift-shift : (i : ℕ) (f : Option Name) → shift i (shift 1 f) ≡ shift (i + 1) f
unfolding shift
shift-shift i (Some k) = ap at (omega arith)
shift-shift i None = refl

unshifted : (f : Option Name) → shift 0 f ≡ f
unfolding shift
unshifted (Some k) = ap at (omega arith)
unshifted None = refl

-- the number of what stands at a place
abbrev pub numbered : Option ℕ → Option Name
numbered (Some k) = at k
numbered None = None

-- a record has the name w
abbrev pub has_name : List ℕ → ℕ × List ℕ → Bool
has_name w r = pointwise eqb r.1 w

found_from : (rs : List (ℕ × List ℕ)) (w : List ℕ) (i : ℕ) → numbered (position_from (has_name w) i rs) ≡ shift i (find (map (λ (r : ℕ × List ℕ). r.1) rs) w)
unfolding find seek shift
found_from [] w i = refl
found_from (r ∷ rs) w i = rw (← same_is r.1 w) (go (has_name w r) (found_from rs w (i + 1)))
  where
    go : (b : Bool) → numbered (position_from (has_name w) (i + 1) rs) ≡ shift (i + 1) (find (map (λ (x : ℕ × List ℕ). x.1) rs) w) → numbered (cond b (Some i) (position_from (has_name w) (i + 1) rs)) ≡ shift i (seek b (find (map (λ (x : ℕ × List ℕ). x.1) rs) w))
    go true h = sym (shift_zero i)
    go false h = h ∙ sym (shift-shift i (find (map (λ (x : ℕ × List ℕ). x.1) rs) w))

pub found : (t w : List ℕ) (p : Option ℕ) → p ≡ position_from (has_name w) 0 (take 256 (records t)) → numbered p ≡ find (names t) w
found t w p e = ap numbered e ∙ found_from (take 256 (records t)) w 0 ∙ unshifted _ ∙ ap (λ (ns : List (List ℕ)). find ns w) (names_are t)

named-at : (rs : List (ℕ × List ℕ)) (n : ℕ) (p : ℕ × List ℕ) → Some p ≡ slice_get rs n → (n < length rs) × (p.1 ≡ get_or (map (λ (r : ℕ × List ℕ). r.1) rs) n [])
named-at [] n p e = absurd (let y : ◌≡◌ {A = ℕ} 0 1 = cc in omega arith)
named-at (r ∷ rs) zero p e = (omega arith, cc)
named-at (r ∷ rs) (suc n) p e = let h = named-at rs n p e in (omega (arith, h.0), h.1)

unnamed-at : (rs : List (ℕ × List ℕ)) (n : ℕ) → None ≡ slice_get rs n → length rs ≤ n
unnamed-at [] n e = omega arith
unnamed-at (r ∷ rs) zero e = absurd (let y : ◌≡◌ {A = ℕ} 0 1 = cc in omega arith)
unnamed-at (r ∷ rs) (suc n) e = omega (arith, unnamed-at rs n e)

-- a name stands behind its kind, and behind the records before that
name_part : (f : ℕ) (l : List ℕ) (n : ℕ) → n < length (names_of f l) → Part l (get_or (names_of f l) n [])
unfolding names_of Part
name_part zero l n h = absurd (omega arith)
name_part (suc f) [] n h = absurd (omega arith)
name_part (suc f) (k ∷ l) zero h =
    let m = min (k - 128) (length l) in
    let y : suc m - 1 ≡ m = omega arith in
    (1, suc m, omega arith, omega arith, ap (λ (x : ℕ). take x l) y ∙ take_min (k - 128) l)
name_part (suc f) (k ∷ l) (suc n) h =
    let p = name_part f (drop (k - 128) l) n (omega arith) in
    let m = min (k - 128) (length l) in
    let y : suc (m + p.1) - suc (m + p.0) ≡ p.1 - p.0 = omega arith in
    let z : drop (m + p.0) l ≡ drop p.0 (drop (k - 128) l) = sym (drop-drop p.0 m l) ∙ ap (drop p.0) (drop_min (k - 128) l) in
    (suc (m + p.0), suc (m + p.1), omega (arith, p.2), omega (arith, p.3, length-drop (k - 128) l), ap (λ (x : ℕ). take x (drop (m + p.0) l)) y ∙ ap (take (p.1 - p.0)) z ∙ p.4)

pub named : (t : List ℕ) (n k : ℕ) (w : Bor (List ℕ)) → Some (k, w.now) ≡ slice_get (take 256 (records t)) n → Named t n (Some w)
unfolding Named
named t n k w e =
    let h = named-at (take 256 (records t)) n (k, w.now) e in
    let below : n < length (names t) = omega (arith, h.0, names_counted t) in
    let is : w.now ≡ get_or (names t) n [] = h.1 ∙ ap (λ (ns : List (List ℕ)). get_or ns n []) (names_are t) in
    (below, is, subst (Part t) (sym is) (name_part 256 t n below))

pub unnamed : (t : List ℕ) (n : ℕ) → None ≡ slice_get (take 256 (records t)) n → Named t n None
unfolding Named
unnamed t n e = omega (arith, unnamed-at (take 256 (records t)) n e, names_counted t)

-- a part of the bytes is no longer than they are
pub part-within : (t w : List ℕ) → Part t w → length w ≤ length t
unfolding Part
part-within t w p = omega (arith, ap length p.4, length-take (p.1 - p.0) (drop p.0 t), length-drop p.0 t)

-- and so a name is no longer than its table
pub named-within : (t : List ℕ) (n : ℕ) (w : Bor (List ℕ)) → Named t n (Some w) → length w.now ≤ length t
unfolding Named
named-within t n w h = part-within t w.now h.2

-- ---- one name

eqb_turned : (x y : ℕ) → eqb x y ≡ eqb y x
eqb_turned x y = go (eqb y x) refl
  where
    go : (b : Bool) → eqb y x ≡ b → eqb x y ≡ b
    go true e = eq-eqb x y (sym (eqb-true y x e))
    go false e = ne_eqb x y (λ q. eqb-false y x e (sym q))

same_turned : (a b : List ℕ) → same a b ≡ same b a
unfolding same
same_turned [] [] = refl
same_turned [] (y ∷ b) = refl
same_turned (x ∷ a) [] = refl
same_turned (x ∷ a) (y ∷ b) = rw (eqb_turned x y, same_turned a b)

pub boolean_is : (w l : List ℕ) → l ≡ boolean → pointwise eqb w l ≡ same boolean w
boolean_is w l e = rw e (same_is w boolean ∙ same_turned w boolean)

-- ---- a good table

-- record i of a table whose names are ns is good
abbrev pub good_record : List (List ℕ) → ℕ × (ℕ × List ℕ) → Bool
good_record ns p = ltb p.0 256 && (ltb 0x80 p.1.0 && (leb p.1.0 0xC0 && (eqb (length p.1.1) (p.1.0 - 128) && good_name ns p.0 p.1.1)))

whole : (n : ℕ) (l : List ℕ) → eqb (length (take n l)) n ≡ leb n (length l)
whole n l = go (leb n (length l)) refl
  where
    go : (b : Bool) → leb n (length l) ≡ b → eqb (length (take n l)) n ≡ b
    go true e = eq-eqb _ _ (length-take-le n l (leb-true n (length l) e))
    go false e = ne_eqb _ _ (λ q. omega (arith, length-take n l, leb-false n (length l) e))

and_order : (a b c d e : Bool) → (((a && b) && c) && (d && e)) ≡ ((a && (b && (c && d))) && e)
and_order true true true d e = refl
and_order true true false d e = refl
and_order true false c d e = refl
and_order false b c d e = refl

good-first : (ns : List (List ℕ)) (i g k : ℕ) (l : List ℕ) → list_all (good_record ns) (enumerate_from i (records_of (suc g) (k ∷ l))) ≡ ((ltb i 256 && (leb 0x81 k && (leb k 0xC0 && (eqb (length (take (k - 128) l)) (k - 128) && good_name ns i (take (k - 128) l))))) && list_all (good_record ns) (enumerate_from (i + 1) (records_of g (drop (k - 128) l))))
unfolding records_of
good-first ns i g k l = refl

good_records : (ns : List (List ℕ)) (f i g : ℕ) (l : List ℕ) → length l ≤ g → i + f ≡ 256 → list_all (good_record ns) (enumerate_from i (records_of g l)) ≡ good_from ns f i l
unfolding good_from good_on records_of between
good_records ns zero i zero [] h e = refl
good_records ns (suc f) i zero [] h e = refl
good_records ns f i zero (k ∷ l) h e = absurd (omega arith)
good_records ns zero i (suc g) [] h e = refl
good_records ns (suc f) i (suc g) [] h e = refl
good_records ns zero i (suc g) (k ∷ l) h e =
    let z : ltb i 256 ≡ false = le-ltb i 256 (omega arith) in
    good-first ns i g k l ∙ rw z
good_records ns (suc f) i (suc g) (k ∷ l) h e =
    let n = length-drop (k - 128) l in
    let z : ltb i 256 ≡ true = lt-ltb i 256 (omega arith) in
    good-first ns i g k l
    ∙ rw (z, whole (k - 128) l, good_records ns f (i + 1) g (drop (k - 128) l) (omega arith) (omega arith))
    (sym (and_order (leb 0x81 k) (leb k 0xC0) (leb (k - 128) (length l)) (good_name ns i (take (k - 128) l)) (good_from ns f (i + 1) (drop (k - 128) l))))

pub good : (t : List ℕ) (b : Bool) → b ≡ list_all (good_record (names t)) (enumerate_from 0 (records t)) → (leb (length t) 16384 && b) ≡ good_table t
unfolding good_table
good t b e = ap (λ (c : Bool). leb (length t) 16384 && c) (e ∙ good_records (names t) 256 0 (length t) t (omega arith) refl)
