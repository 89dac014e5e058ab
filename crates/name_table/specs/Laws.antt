-- A table is good exactly if it spells a row of good names (`table-good`, `good-is-table`), and these are the names that the code finds:
-- every name of a good table is found at its own number (`Usable`), and what is found is a name of the table (`found-is`).
use Rattle.std.specs.Prelude.{ℕ, zero, suc, ◌+◌, ◌-◌, ◌≤◌, ◌<◌, ◌≡◌, refl, ◌≢◌, Bool, true, false, ◌&&◌, Option, Some, None, List, [], ◌∷◌, ◌++◌, length, get_or, take, drop}
use Rattle.std.proofs.Common.{arith, sym, ap, ◌∙◌, length-append, take-append-drop, length-take-le, eq-eqb, le-leb, leb-true, eqb-true}
use Rattle.std.proofs.Math.Seq.{take-append_seam, drop-append_seam}
use Rattle.std.proofs.lemmas.Bool.{not-true}
use Rattle.types.specs.declared.Name.{Name}
use Rattle.name_table.specs.Words.{between, is_word, same}
use Rattle.name_table.specs.Table.{boolean, at, shift, seek, find, table_of, Table, names_of, names, is_at, good_name, good_on, good_from, good_table}

true-false : true ≡ false → ⊥
true-false e = let y : ◌≡◌ {A = ℕ} 0 1 = cc in omega arith

both : (a b : Bool) → (a && b) ≡ true → (a ≡ true) × (b ≡ true)
both true b e = (refl, e)
both false b e = absurd (true-false (sym e))

same_refl : (w : List ℕ) → same w w ≡ true
unfolding same
same_refl [] = refl
same_refl (c ∷ w) = rw (eq-eqb c c refl) (same_refl w)

pub same-is : (a b : List ℕ) → same a b ≡ true → a ≡ b
unfolding same
same-is [] [] e = refl
same-is [] (y ∷ b) e = absurd (true-false (sym e))
same-is (x ∷ a) [] e = absurd (true-false (sym e))
same-is (x ∷ a) (y ∷ b) e = let p = both _ _ e in let h = eqb-true x y p.0 in let g = same-is a b p.1 in cc

same_not : (a b : List ℕ) → a ≢ b → same a b ≡ false
same_not a b n = go (same a b) refl
  where
    go : (c : Bool) → same a b ≡ c → c ≡ false
    go true e = absurd (n (same-is a b e))
    go false e = refl

not_same : (a b : List ℕ) → same a b ≡ false → a ≢ b
not_same a b e h = true-false (sym (same_refl b) ∙ ap (λ (x : List ℕ). same x b) (sym h) ∙ e)

-- ---- the first name that is the same

find_at : (ns : List (List ℕ)) (w : List ℕ) (k : ℕ) → k < length ns → ((j : ℕ) → j < k → same (get_or ns j []) w ≡ false) → same (get_or ns k []) w ≡ true → find ns w ≡ at k
unfolding find seek shift
find_at [] w k h d e = absurd (omega arith)
find_at (n ∷ ns) w zero h d e = rw e
find_at (n ∷ ns) w (suc k) h d e =
    rw (d 0 (omega arith), find_at ns w k (omega arith) (λ j g. d (suc j) (omega arith)) e) (ap at (let z : 1 + k ≡ suc k = omega arith in z))

number : Option Name → ℕ
number (Some k) = k.0
number None = 0

at_one : (j k : ℕ) → at j ≡ at k → j ≡ k
unfolding number
at_one j k e = ap number e

shift-at : (f : Option Name) (k : ℕ) → shift 1 f ≡ at k → (j : ℕ) × (f ≡ at j) × (k ≡ suc j)
unfolding shift
shift-at (Some j) k e = (j.0, refl, omega (arith, at_one (1 + j.0) k e))
shift-at None k e = absurd (let y : ◌≡◌ {A = ℕ} 0 1 = cc in omega arith)

zero-at : (k j : ℕ) (f : Option Name) → seek true f ≡ at k → j < k → ⊥
unfolding seek
zero-at k j f q h = omega (arith, at_one 0 k q)

later-at : (k : ℕ) (f : Option Name) → seek false f ≡ at k → (j : ℕ) × (f ≡ at j) × (k ≡ suc j)
unfolding seek
later-at k f q = shift-at f k q

find_first : (ns : List (List ℕ)) (w : List ℕ) (k : ℕ) → find ns w ≡ at k → (j : ℕ) → j < k → same (get_or ns j []) w ≡ false
unfolding find
find_first [] w k e j h = absurd (let y : ◌≡◌ {A = ℕ} 0 1 = cc in omega arith)
find_first (n ∷ ns) w k e j h = go (same n w) refl e (λ m q i g. find_first ns w m q i g) j h
  where
    go : (b : Bool) → same n w ≡ b → seek b (find ns w) ≡ at k → ((m : ℕ) → find ns w ≡ at m → (i : ℕ) → i < m → same (get_or ns i []) w ≡ false) → (j : ℕ) → j < k → same (get_or (n ∷ ns) j []) w ≡ false
    go true s q ih j h = absurd (zero-at k j (find ns w) q h)
    go false s q ih zero h = s
    go false s q ih (suc j) h = let l = later-at k (find ns w) q in ih l.0 l.1 j (omega (arith, l.2))

-- what is found is a name of the row
pub found-is : (ns : List (List ℕ)) (w : List ℕ) (k : ℕ) → find ns w ≡ at k → (k < length ns) × (get_or ns k [] ≡ w)
unfolding find seek
found-is [] w k e = absurd (let y : ◌≡◌ {A = ℕ} 0 1 = cc in omega arith)
found-is (n ∷ ns) w k e = go (same n w) refl e (λ m q. found-is ns w m q)
  where
    go : (b : Bool) → same n w ≡ b → seek b (find ns w) ≡ at k → ((m : ℕ) → find ns w ≡ at m → (m < length ns) × (get_or ns m [] ≡ w)) → (k < length (n ∷ ns)) × (get_or (n ∷ ns) k [] ≡ w)
    go true s q rec = let z : k ≡ 0 = sym (at_one 0 k q) in rw z (omega arith, same-is n w s)
    go false s q rec = let l = later-at k (find ns w) q in let r = rec l.0 l.1 in rw l.2 (omega (arith, r.0), r.1)

-- ---- a good table is usable

-- what the laws of type text ask of a row of names
pub record Usable (ns : List (List ℕ)) : Type 0 where
  pub word : (k : ℕ) → k < length ns → is_word (get_or ns k []) ≡ true
  pub unreserved : (k : ℕ) → k < length ns → same boolean (get_or ns k []) ≡ false
  pub found : (k : ℕ) → k < length ns → find ns (get_or ns k []) ≡ at k

pub table-usable : (bytes : List ℕ) (ns : List (List ℕ)) → Table bytes ns → Usable ns
table-usable bytes ns t =
    record {
      word = t.word;
      unreserved = λ k h. same_not boolean (get_or ns k []) (λ e. t.unreserved k h (sym e));
      found = λ k h. find_at ns (get_or ns k []) k h (λ j g. same_not _ _ (t.distinct j k g h)) (same_refl (get_or ns k []));
    }

-- ---- the names of a table that spells them

pub names_of_table : (ns : List (List ℕ)) (f : ℕ) → length ns ≤ f → names_of f (table_of ns) ≡ ns
unfolding names_of table_of
names_of_table [] zero h = refl
names_of_table [] (suc f) h = refl
names_of_table (n ∷ ns) zero h = absurd (omega arith)
names_of_table (n ∷ ns) (suc f) h =
    let z : 128 + length n - 128 ≡ length n = omega arith in
    rw (z, take-append_seam n (table_of ns), drop-append_seam n (table_of ns), names_of_table ns f (omega arith))

good_of_table : (all ns : List (List ℕ)) (f i : ℕ) → length ns ≤ f → ((k : ℕ) → k < length ns → good_name all (i + k) (get_or ns k []) ≡ true) → ((k : ℕ) → k < length ns → (1 ≤ length (get_or ns k [])) × (length (get_or ns k []) ≤ 64)) → good_from all f i (table_of ns) ≡ true
unfolding good_from good_on table_of between
good_of_table all [] zero i h g s = refl
good_of_table all [] (suc f) i h g s = refl
good_of_table all (n ∷ ns) zero i h g s = absurd (omega arith)
good_of_table all (n ∷ ns) (suc f) i h g s =
    let z : 128 + length n - 128 ≡ length n = omega arith in
    let w = s 0 (omega arith) in
    let e : i + 0 ≡ i = omega arith in
    let g0 : good_name all i n ≡ true = (ap (λ (x : ℕ). good_name all x n) (sym e)) ∙ g 0 (omega arith) in
    rw (
      z,
      le-leb 0x81 (128 + length n) (omega (arith, w.0)),
      le-leb (128 + length n) 0xC0 (omega (arith, w.1)),
      take-append_seam n (table_of ns),
      drop-append_seam n (table_of ns),
      le-leb (length n) (length (n ++ table_of ns)) (omega (arith, length-append n (table_of ns))),
      g0,
    )
    (good_of_table all ns f (i + 1) (omega arith) (λ k q. ap (λ (x : ℕ). good_name all x (get_or ns k [])) (let y : i + 1 + k ≡ i + suc k = omega arith in y) ∙ g (suc k) (omega arith)) (λ k q. s (suc k) (omega arith)))

pub word_some : (w : List ℕ) → is_word w ≡ true → 1 ≤ length w
unfolding is_word
word_some [] e = absurd (true-false (sym e))
word_some (c ∷ w) e = omega arith

name-good : (ns : List (List ℕ)) (k : ℕ) (w : List ℕ) → is_word w ≡ true → same boolean w ≡ false → find ns w ≡ at k → good_name ns k w ≡ true
unfolding good_name is_at
name-good ns k w a b c = rw (a, b, c, eq-eqb k k refl)

-- what spells a row of good names is taken, and its names are found
pub table-good : (bytes : List ℕ) (ns : List (List ℕ)) → Table bytes ns → (good_table bytes ≡ true) × (names bytes ≡ ns)
unfolding good_table
table-good bytes ns t =
    let e : names bytes ≡ ns = ap (names_of 256) t.spells ∙ names_of_table ns 256 t.few in
    let u = table-usable bytes ns t in
    let g : good_from ns 256 0 (table_of ns) ≡ true =
    good_of_table ns ns 256 0 t.few
    (λ k h. ap (λ (x : ℕ). good_name ns x (get_or ns k [])) (let y : 0 + k ≡ k = omega arith in y) ∙ name-good ns k (get_or ns k []) (t.word k h) (u.unreserved k h) (u.found k h))
    (λ k h. (word_some (get_or ns k []) (t.word k h), t.short k h)) in
    (rw (le-leb (length bytes) 16384 t.small, e) (ap (good_from ns 256 0) t.spells ∙ g), e)

-- ---- what is taken spells a row of good names

record Spelt (all : List (List ℕ)) (f i : ℕ) (l : List ℕ) : Type 0 where
  spells : l ≡ table_of (names_of f l)
  few : length (names_of f l) ≤ f
  good : (k : ℕ) → k < length (names_of f l) → (good_name all (i + k) (get_or (names_of f l) k []) ≡ true) × (length (get_or (names_of f l) k []) ≤ 64)

spelt-next : (all : List (List ℕ)) (f i k : ℕ) (l : List ℕ) → 0x81 ≤ k → k ≤ 0xC0 → k - 128 ≤ length l → good_name all i (take (k - 128) l) ≡ true → Spelt all f (i + 1) (drop (k - 128) l) → Spelt all (suc f) i (k ∷ l)
unfolding names_of table_of
spelt-next all f i k l a b c g s =
    let w : length (take (k - 128) l) ≡ k - 128 = length-take-le (k - 128) l c in
    let z : 128 + length (take (k - 128) l) ≡ k = omega arith in
    record {
      spells = sym (rw z (ap (λ (x : List ℕ). k ∷ x) (ap (λ (x : List ℕ). take (k - 128) l ++ x) (sym s.spells) ∙ take-append-drop (k - 128) l)));
      few = omega (arith, s.few);
      good = each;
    }
  where
    each : (j : ℕ) → j < length (names_of (suc f) (k ∷ l)) → (good_name all (i + j) (get_or (names_of (suc f) (k ∷ l)) j []) ≡ true) × (length (get_or (names_of (suc f) (k ∷ l)) j []) ≤ 64)
    each zero h = (ap (λ (x : ℕ). good_name all x (take (k - 128) l)) (let y : i + 0 ≡ i = omega arith in y) ∙ g, omega (arith, length-take-le (k - 128) l c))
    each (suc j) h = let r = s.good j (omega arith) in (ap (λ (x : ℕ). good_name all x (get_or (names_of f (drop (k - 128) l)) j [])) (let y : i + suc j ≡ i + 1 + j = omega arith in y) ∙ r.0, r.1)

spelt : (all : List (List ℕ)) (f i : ℕ) (l : List ℕ) → good_from all f i l ≡ true → Spelt all f i l
unfolding good_from good_on names_of table_of between
spelt all zero i [] e = record { spells = refl; few = omega arith; good = λ k h. absurd (omega arith) }
spelt all zero i (k ∷ l) e = absurd (true-false (sym e))
spelt all (suc f) i [] e = record { spells = refl; few = omega arith; good = λ k h. absurd (omega arith) }
spelt all (suc f) i (k ∷ l) e =
    let p = both _ _ e in
    let q = both _ _ p.0 in
    let r = both _ _ q.0 in
    let s = both _ _ p.1 in
    spelt-next all f i k l (leb-true 0x81 k r.0) (leb-true k 0xC0 r.1) (leb-true (k - 128) (length l) q.1) s.0 (spelt all f (i + 1) (drop (k - 128) l) s.1)

name-parts : (ns : List (List ℕ)) (k : ℕ) (w : List ℕ) → good_name ns k w ≡ true → (is_word w ≡ true) × (same boolean w ≡ false) × (is_at k (find ns w) ≡ true)
unfolding good_name
name-parts ns k w e = let p = both _ _ e in let q = both _ _ p.1 in (p.0, not-true _ q.0, q.1)

is-at : (k : ℕ) (f : Option Name) → is_at k f ≡ true → f ≡ at k
unfolding is_at
is-at k (Some j) e = ap at (eqb-true j.0 k e)
is-at k None e = absurd (true-false (sym e))

-- and nothing else is taken
pub good-is-table : (bytes : List ℕ) → good_table bytes ≡ true → Table bytes (names bytes)
unfolding good_table
good-is-table bytes e =
    let p = both _ _ e in
    let s = spelt (names bytes) 256 0 bytes p.1 in
    let part : (k : ℕ) → k < length (names bytes) → (is_word (get_or (names bytes) k []) ≡ true) × (same boolean (get_or (names bytes) k []) ≡ false) × (is_at k (find (names bytes) (get_or (names bytes) k [])) ≡ true) =
    λ k h. name-parts (names bytes) k (get_or (names bytes) k []) (ap (λ (x : ℕ). good_name (names bytes) x (get_or (names bytes) k [])) (let y : k ≡ 0 + k = omega arith in y) ∙ (s.good k h).0) in
    record {
      spells = s.spells;
      small = leb-true (length bytes) 16384 p.0;
      few = s.few;
      word = λ k h. (part k h).0;
      short = λ k h. (s.good k h).1;
      unreserved = λ k h e. not_same boolean _ (part k h).1 (sym e);
      distinct = λ j k g h. not_same _ _ (find_first (names bytes) (get_or (names bytes) k []) k (is-at k _ (part k h).2) j g);
    }
