-- `type_at` accepts exactly the spellings of types: a spelling of few enough levels and of names below the count is read to its type,
-- and what is read is spelled there. A spelling has one type, and no spelling begins another (`spell_one`).
-- What a fault's place means stands in `Faults`.
use Rattle.std.specs.Prelude.{ℕ, zero, suc, ◌+◌, ◌*◌, ◌/◌, ◌%◌, ◌<◌, Bool, true, false, length, get_or, ltb, eqb}
use Rattle.std.proofs.Common.{arith, ◌∙◌, get_or-drop, lt-ltb, ltb-true, eqb-true}
use Rattle.std.proofs.Math.Path.{◌≡◌, refl, sym, ap}
use mathlib.Core.List.{List, [], ◌∷◌, ◌++◌, append_assoc}
use Rattle.std.proofs.Math.ListN.{drop, length-append}
use Rattle.std.proofs.Math.Seq.{drop-drop, drop-append_seam}
use Rattle.types.specs.Ty.{Atom, bool, int, given, Ty, base, pow, prod, depth, spell, spell_atom, AtomBelow, bool-below, int-below, given_below, Below}
use Rattle.types.specs.Record.{Head, atomic, power, product, wrong, pick, given_of, head_of, TypeAt, got, malformed, deep, and_then, deep_by, type_by, type_at}

-- ---- places

-- past x
pub past : (s : List ℕ) (p : ℕ) (x rest : List ℕ) → drop p s ≡ x ++ rest → drop (p + length x) s ≡ rest
past s p x rest h = sym (drop-drop (length x) p s) ∙ ap (drop (length x)) h ∙ drop-append_seam x rest

-- each element is a byte; a slice's list has this
pub Bytes : List ℕ → Type 0
Bytes s = (i : ℕ) → get_or s i 0 < 256

pub bytes-at : (s : List ℕ) → ((i : ℕ) → get_or s i 0 < 256) → Bytes s
unfolding Bytes
bytes-at s h = h

pub bytes_drop : (s : List ℕ) → Bytes s → (p : ℕ) → Bytes (drop p s)
unfolding Bytes
bytes_drop s h p = λ i. rw (get_or-drop p s i 0) (h (p + i))

-- ---- what a head says

-- the bytes l begin with a record whose head is h
unfoldable pub Begins : ℕ → ℕ → List ℕ → Head → Type 0
Begins names p l (atomic a e) = AtomBelow names a × (e ≡ p + length (spell_atom a)) × (l ≡ spell_atom a ++ drop (length (spell_atom a)) l)
Begins names p l (power e) = (e ≡ p + 1) × (l ≡ 0x43 ∷ drop 1 l)
Begins names p l (product e) = (e ≡ p + 1) × (l ≡ 0x44 ∷ drop 1 l)
Begins names p l wrong = Unit {0}

given-begins : (names p : ℕ) (lo hi : ℕ) (l : List ℕ) → lo < 256 → (c : Bool) → ltb (lo + hi * 256) names ≡ c → Begins names p (0x42 ∷ lo ∷ hi ∷ l) (pick c (atomic (given (lo + hi * 256)) (p + 3)) wrong)
unfolding Begins spell_atom
given-begins names p lo hi l h true e =
    let a : (lo + hi * 256) % 256 ≡ lo = omega arith in
    let b : (lo + hi * 256) / 256 ≡ hi = omega arith in
    (given_below (ltb-true (lo + hi * 256) names e), refl, sym (rw (a, b)))
given-begins names p lo hi l h false e = tt

two_begin : (names p : ℕ) (l : List ℕ) → Bytes (0x42 ∷ l) → Begins names p (0x42 ∷ l) (given_of names p l)
unfolding Begins given_of Bytes
two_begin names p [] h = tt
two_begin names p (lo ∷ []) h = tt
two_begin names p (lo ∷ hi ∷ l) h = given-begins names p lo hi l (h 1) (ltb (lo + hi * 256) names) refl

pub head-begins : (names p : ℕ) (l : List ℕ) → Bytes l → Begins names p l (head_of names p l)
unfolding Begins head_of spell_atom
head-begins names p [] h = tt
head-begins names p (k ∷ l) h = go (eqb k 0x40) refl
  where
    on44 : (c : Bool) → eqb k 0x44 ≡ c → Begins names p (k ∷ l) (pick c (product (p + 1)) wrong)
    on44 true e = (refl, rw (eqb-true k 0x44 e))
    on44 false e = tt

    on43 : (c : Bool) → eqb k 0x43 ≡ c → Begins names p (k ∷ l) (pick c (power (p + 1)) (pick (eqb k 0x44) (product (p + 1)) wrong))
    on43 true e = (refl, rw (eqb-true k 0x43 e))
    on43 false e = on44 (eqb k 0x44) refl

    on42 : (c : Bool) → eqb k 0x42 ≡ c → Begins names p (k ∷ l) (pick c (given_of names p l) (pick (eqb k 0x43) (power (p + 1)) (pick (eqb k 0x44) (product (p + 1)) wrong)))
    on42 true e = rw (eqb-true k 0x42 e) (two_begin names p l (rw (eqb-true k 0x42 e) at h))
    on42 false e = on43 (eqb k 0x43) refl

    on41 : (c : Bool) → eqb k 0x41 ≡ c → Begins names p (k ∷ l) (pick c (atomic int (p + 1)) (pick (eqb k 0x42) (given_of names p l) (pick (eqb k 0x43) (power (p + 1)) (pick (eqb k 0x44) (product (p + 1)) wrong))))
    on41 true e = (int-below, refl, rw (eqb-true k 0x41 e))
    on41 false e = on42 (eqb k 0x42) refl

    go : (c : Bool) → eqb k 0x40 ≡ c → Begins names p (k ∷ l) (pick c (atomic bool (p + 1)) (pick (eqb k 0x41) (atomic int (p + 1)) (pick (eqb k 0x42) (given_of names p l) (pick (eqb k 0x43) (power (p + 1)) (pick (eqb k 0x44) (product (p + 1)) wrong)))))
    go true e = (bool-below, refl, rw (eqb-true k 0x40 e))
    go false e = on41 (eqb k 0x41) refl

pub head-atom : (names : ℕ) {a : Atom} → AtomBelow names a → (p : ℕ) (rest : List ℕ) → head_of names p (spell_atom a ++ rest) ≡ atomic a (p + length (spell_atom a))
unfolding head_of given_of spell_atom
head-atom names bool-below p rest = refl
head-atom names int-below p rest = refl
head-atom names (given_below {n} k) p rest =
    let e : n % 256 + n / 256 * 256 ≡ n = omega arith in
    rw (e, lt-ltb n names k)

pub head-power : (names p : ℕ) (l : List ℕ) → head_of names p (0x43 ∷ l) ≡ power (p + 1)
unfolding head_of
head-power names p l = refl

pub head-product : (names p : ℕ) (l : List ℕ) → head_of names p (0x44 ∷ l) ≡ product (p + 1)
unfolding head_of
head-product names p l = refl

-- ---- what is spelled is read

pub spelled-is-read : (names : ℕ) (s : List ℕ) (t : Ty) → Below names t → (left p : ℕ) (rest : List ℕ) → depth t < left → drop p s ≡ spell t ++ rest → type_at left names s p ≡ got t (p + length (spell t))
unfolding Below depth spell type_at type_by and_then
spelled-is-read names s (base a) k zero p rest h e = absurd (omega arith)
spelled-is-read names s (base a) k (suc left) p rest h e = rw (e, head-atom names k p rest)
spelled-is-read names s (pow t) k zero p rest h e = absurd (omega arith)
spelled-is-read names s (pow t) k (suc left) p rest h e =
    rw (e, head-power names p (spell t ++ rest), spelled-is-read names s t k left (p + 1) rest (omega arith) (past s p (0x43 ∷ []) (spell t ++ rest) e))
    (ap (got (pow t)) (let z : p + 1 + length (spell t) ≡ p + suc (length (spell t)) = omega arith in z))
spelled-is-read names s (prod t u) k zero p rest h e = absurd (omega arith)
spelled-is-read names s (prod t u) k (suc left) p rest h e =
    let e1 : drop (p + 1) s ≡ spell t ++ (spell u ++ rest) = past s p (0x44 ∷ []) ((spell t ++ spell u) ++ rest) e ∙ append_assoc (spell t) (spell u) rest in
    rw (
      e,
      head-product names p ((spell t ++ spell u) ++ rest),
      spelled-is-read names s t k.0 left (p + 1) (spell u ++ rest) (omega arith) e1,
      spelled-is-read names s u k.1 left (p + 1 + length (spell t)) rest (omega arith) (past s (p + 1) (spell t) (spell u ++ rest) e1),
    )
    (ap (got (prod t u)) (let z : p + 1 + length (spell t) + length (spell u) ≡ p + suc (length (spell t ++ spell u)) = omega (arith, length-append (spell t) (spell u)) in z))

-- ---- what is read is spelled

-- the record of the type t stands at p and ends at e, in at most `left` levels and with names below the count
pub record Stands (left names : ℕ) (s : List ℕ) (p : ℕ) (t : Ty) (e : ℕ) : Type 0 where
  pub shallow : depth t < left
  pub below : Below names t
  pub ends : e ≡ p + length (spell t)
  pub bytes : drop p s ≡ spell t ++ drop e s

pub stands-is-read : (left names : ℕ) (s : List ℕ) (p : ℕ) (t : Ty) (e : ℕ) → Stands left names s p t e → type_at left names s p ≡ got t e
stands-is-read left names s p t e w = spelled-is-read names s t w.below left p (drop e s) w.shallow w.bytes ∙ ap (got t) (sym w.ends)

module _ (left names : ℕ) (s : List ℕ) (p : ℕ) where
  stands-atom : (a : Atom) (e : ℕ) → Begins names p (drop p s) (atomic a e) → Stands (suc left) names s p (base a) e
  unfolding Begins depth Below spell
  stands-atom a e b =
      record {
        shallow = omega arith;
        below = b.0;
        ends = b.1;
        bytes = b.2 ∙ ap (λ (l : List ℕ). spell_atom a ++ l) (drop-drop (length (spell_atom a)) p s ∙ ap (λ (n : ℕ). drop n s) (sym b.1));
      }

  stands-power : (q : ℕ) (t : Ty) (e : ℕ) → Begins names p (drop p s) (power q) → Stands left names s q t e → Stands (suc left) names s p (pow t) e
  unfolding Begins depth Below spell
  stands-power q t e b w =
      let here : drop 1 (drop p s) ≡ drop q s = drop-drop 1 p s ∙ ap (λ (n : ℕ). drop n s) (sym b.0) in
      record {
        shallow = let h = w.shallow in omega arith;
        below = w.below;
        ends = let h = w.ends in let g = b.0 in omega arith;
        bytes = b.1 ∙ ap (λ (l : List ℕ). 0x43 ∷ l) (here ∙ w.bytes);
      }

  stands-product : (q : ℕ) (t u : Ty) (f e : ℕ) → Begins names p (drop p s) (product q) → Stands left names s q t f → Stands left names s f u e → Stands (suc left) names s p (prod t u) e
  unfolding Begins depth Below spell
  stands-product q t u f e b w v =
      let here : drop 1 (drop p s) ≡ drop q s = drop-drop 1 p s ∙ ap (λ (n : ℕ). drop n s) (sym b.0) in
      let both : drop q s ≡ (spell t ++ spell u) ++ drop e s = w.bytes ∙ ap (λ (l : List ℕ). spell t ++ l) v.bytes ∙ sym (append_assoc (spell t) (spell u) (drop e s)) in
      record {
        shallow = let h = w.shallow in let g = v.shallow in omega arith;
        below = (w.below, v.below);
        ends = let h = w.ends in let i = v.ends in let g = b.0 in omega (arith, length-append (spell t) (spell u));
        bytes = b.1 ∙ ap (λ (l : List ℕ). 0x44 ∷ l) (here ∙ both);
      }

module _ (left names : ℕ) (s : List ℕ) (rec : (q : ℕ) (t : Ty) (e : ℕ) → type_at left names s q ≡ got t e → Stands left names s q t e) (p : ℕ) (t : Ty) (e : ℕ) where
  read-power : (q : ℕ) → Begins names p (drop p s) (power q) → (x : TypeAt) → type_at left names s q ≡ x → (and_then x λ t f. got (pow t) f) ≡ got t e → Stands (suc left) names s p t e
  unfolding and_then
  read-power q b (got u f) g r =
      let z = stands-power left names s p q u f b (rec q u f g) in
      let y : pow u ≡ t = cc in let x : f ≡ e = cc in
      rw (← y, ← x) z
  read-power q b (malformed f) g r = absurd (let z : ◌≡◌ {A = ℕ} 0 1 = cc in omega arith)
  read-power q b (deep f) g r = absurd (let z : ◌≡◌ {A = ℕ} 0 1 = cc in omega arith)

  read_right : (q : ℕ) (u : Ty) (f : ℕ) → Begins names p (drop p s) (product q) → type_at left names s q ≡ got u f → (x : TypeAt) → type_at left names s f ≡ x → (and_then x λ v g. got (prod u v) g) ≡ got t e → Stands (suc left) names s p t e
  unfolding and_then
  read_right q u f b l (got v g) h r =
      let z = stands-product left names s p q u v f g b (rec q u f l) (rec f v g h) in
      let y : prod u v ≡ t = cc in let x : g ≡ e = cc in
      rw (← y, ← x) z
  read_right q u f b l (malformed g) h r = absurd (let z : ◌≡◌ {A = ℕ} 0 1 = cc in omega arith)
  read_right q u f b l (deep g) h r = absurd (let z : ◌≡◌ {A = ℕ} 0 1 = cc in omega arith)

  read-product : (q : ℕ) → Begins names p (drop p s) (product q) → (x : TypeAt) → type_at left names s q ≡ x → (and_then x λ u f. and_then (type_at left names s f) λ v g. got (prod u v) g) ≡ got t e → Stands (suc left) names s p t e
  unfolding and_then
  read-product q b (got u f) g r = read_right q u f b g (type_at left names s f) refl r
  read-product q b (malformed f) g r = absurd (let z : ◌≡◌ {A = ℕ} 0 1 = cc in omega arith)
  read-product q b (deep f) g r = absurd (let z : ◌≡◌ {A = ℕ} 0 1 = cc in omega arith)

  read_by : (h : Head) → Begins names p (drop p s) h → type_by (type_at left names s) p h ≡ got t e → Stands (suc left) names s p t e
  unfolding type_by
  read_by (atomic a q) b r =
      let z = stands-atom left names s p a q b in
      let y : base a ≡ t = cc in let x : q ≡ e = cc in
      rw (← y, ← x) z
  read_by (power q) b r = read-power q b (type_at left names s q) refl r
  read_by (product q) b r = read-product q b (type_at left names s q) refl r
  read_by wrong b r = absurd (let z : ◌≡◌ {A = ℕ} 0 1 = cc in omega arith)

none_deep : (p : ℕ) (t : Ty) (e : ℕ) (h : Head) → deep_by p h ≡ got t e → ⊥
unfolding deep_by
none_deep p t e (atomic a q) r = let z : ◌≡◌ {A = ℕ} 0 1 = cc in omega arith
none_deep p t e (power q) r = let z : ◌≡◌ {A = ℕ} 0 1 = cc in omega arith
none_deep p t e (product q) r = let z : ◌≡◌ {A = ℕ} 0 1 = cc in omega arith
none_deep p t e wrong r = let z : ◌≡◌ {A = ℕ} 0 1 = cc in omega arith

pub read-stands : (left names : ℕ) (s : List ℕ) → Bytes s → (p : ℕ) (t : Ty) (e : ℕ) → type_at left names s p ≡ got t e → Stands left names s p t e
unfolding type_at
read-stands zero names s w p t e r = absurd (none_deep p t e (head_of names p (drop p s)) r)
read-stands (suc left) names s w p t e r =
    read_by left names s (read-stands left names s w) p t e (head_of names p (drop p s)) (head-begins names p (drop p s) (bytes_drop s w p)) r

-- ---- a spelling has one type, and none begins another

cons_head : {x y : ℕ} {l m : List ℕ} → x ∷ l ≡ y ∷ m → x ≡ y
cons_head e = cc

cons_tail : {x y : ℕ} {l m : List ℕ} → x ∷ l ≡ y ∷ m → l ≡ m
cons_tail e = cc

differ : {A : Type 0} {x y : ℕ} {l m : List ℕ} → (x ≡ y → ⊥) → x ∷ l ≡ y ∷ m → A
differ h e = absurd (h (cons_head e))

pub spell_one : (t u : Ty) (r q : List ℕ) → spell t ++ r ≡ spell u ++ q → (t ≡ u) × (r ≡ q)
unfolding spell spell_atom
spell_one (base bool) (base bool) r q e = (refl, cons_tail e)
spell_one (base int) (base int) r q e = (refl, cons_tail e)
spell_one (base (given n)) (base (given m)) r q e =
    let a : n % 256 ≡ m % 256 = cc in
    let b : n / 256 ≡ m / 256 = cc in
    let c : n ≡ m = omega arith in
    (ap (λ (k : ℕ). base (given k)) c, cons_tail (cons_tail (cons_tail e)))
spell_one (base bool) (base int) r q e = differ (λ z. omega arith) e
spell_one (base bool) (base (given m)) r q e = differ (λ z. omega arith) e
spell_one (base bool) (pow u) r q e = differ (λ z. omega arith) e
spell_one (base bool) (prod u v) r q e = differ (λ z. omega arith) e
spell_one (base int) (base bool) r q e = differ (λ z. omega arith) e
spell_one (base int) (base (given m)) r q e = differ (λ z. omega arith) e
spell_one (base int) (pow u) r q e = differ (λ z. omega arith) e
spell_one (base int) (prod u v) r q e = differ (λ z. omega arith) e
spell_one (base (given n)) (base bool) r q e = differ (λ z. omega arith) e
spell_one (base (given n)) (base int) r q e = differ (λ z. omega arith) e
spell_one (base (given n)) (pow u) r q e = differ (λ z. omega arith) e
spell_one (base (given n)) (prod u v) r q e = differ (λ z. omega arith) e
spell_one (pow t) (base bool) r q e = differ (λ z. omega arith) e
spell_one (pow t) (base int) r q e = differ (λ z. omega arith) e
spell_one (pow t) (base (given m)) r q e = differ (λ z. omega arith) e
spell_one (pow t) (pow u) r q e = let h = spell_one t u r q (cons_tail e) in (ap pow h.0, h.1)
spell_one (pow t) (prod u v) r q e = differ (λ z. omega arith) e
spell_one (prod t v) (base bool) r q e = differ (λ z. omega arith) e
spell_one (prod t v) (base int) r q e = differ (λ z. omega arith) e
spell_one (prod t v) (base (given m)) r q e = differ (λ z. omega arith) e
spell_one (prod t v) (pow u) r q e = differ (λ z. omega arith) e
spell_one (prod t v) (prod u w) r q e =
    let f = sym (append_assoc (spell t) (spell v) r) ∙ cons_tail e ∙ append_assoc (spell u) (spell w) q in
    let h = spell_one t u (spell v ++ r) (spell w ++ q) f in
    let g = spell_one v w r q h.1 in
    (let a = h.0 in let b = g.0 in cc, g.1)
