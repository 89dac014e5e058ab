-- The test of an environment, step by step, as the code takes it.
use Prim.Native.Nat.{ℕ, zero, suc, ◌+◌, ◌*◌, ◌-◌, ◌≤◌, ◌<◌}
use native.Mathlib.Omega.{arith}
use Rattle.std.proofs.Common.{sub-one, ◌∙◌, length-drop, length-append, get_or-set_same, get_or-set_other}
use Rattle.std.proofs.Math.Decide.{ℕ_discrete}
use Rattle.std.specs.Prelude.{◌≡◌, Bool, true, false, drop, replicate, min, ltb, eqb, Option, Some, None, Result, Ok, Err}
use Rattle.std.proofs.Math.Path.{refl, sym, ap, subst}
use mathlib.Core.List.{List, [], ◌∷◌, ◌++◌}
use Rattle.std.proofs.Math.ListN.{length, get_or, set, length-set}
use Rattle.std.proofs.lemmas.List.{get_or-replicate}
use borrow.Author.Tests.{eq-eqb, ne_eqb, eqb-true, eqb-false, lt-ltb, le-ltb, ltb-true, ltb-false}
use Rattle.types.specs.declared.Place.{Place}
use Rattle.types.specs.Ty.{Ty, spell}
use Rattle.types.specs.Record.{TypeAt, got, malformed, deep, type_at, reach}
use Rattle.types.specs.Code.{end_of}
use Rattle.types.specs.Spellings.{read-stands, bytes-at}
use Rattle.types.specs.declared.Fault.{Fault}
use Rattle.types.specs.declared.Fault.TheVariants.{Malformed}
use Rattle.formula.specs.declared.FormError.TheVariants.{TooLong, At}
use Rattle.formula.specs.declared.Entered.{Entered}
use Rattle.formula.specs.Environment.{Entry, lacks, holds, Entries, first, lookup, spell_entry, spell_entries}
use Rattle.heads.specs.Reads.{reach-all, same_part}
use Rattle.heads.specs.Heads.{pick, place, byte_of, byte_at, on_part, word_at, name_at}
use Rattle.formula.specs.Parse.{Parsed, parsed, too_long, faulty, form_of}
use Rattle.formula.specs.EnvParse.{entry_at, typed_by, fresh_by, entry_by, entries_from, capped, environment_of, places_from, Cell, Table}
use Rattle.formula.specs.EnvTold.{empty, blank, answer_of, told_of}
use Rattle.types.specs.Limits.{max_bytes, max_depth, max_names}

-- ---- where a body ends

byte_end : (s : List ℕ) (p : Place) (b : ℕ) (e : Place) → byte_at s p ≡ Some (b, e) → (e.0 ≡ p.0 + 1) × (e.0 ≤ length s)
unfolding byte_at byte_of
byte_end s p b e = go (drop p.0 s) refl
  where
    go : (l : List ℕ) → drop p.0 s ≡ l → byte_of p.0 l ≡ Some (b, e) → (e.0 ≡ p.0 + 1) × (e.0 ≤ length s)
    go [] k h = let y : ◌≡◌ {A = ℕ} 0 1 = cc in absurd (omega arith)
    go (x ∷ l) k h =
        let y = ap (λ (q : Place). q.0) (same_part x b (place (p.0 + 1)) e h).1 in
        let z = length-drop p.0 s in
        let w : length (drop p.0 s) ≡ suc (length l) = rw k in
        (sym y, omega arith)

word_end : (s : List ℕ) (p : Place) (n : ℕ) (e : Place) → word_at s p ≡ Some (n, e) → (e.0 ≡ p.0 + 2) × (e.0 ≤ length s)
unfolding word_at on_part
word_end s p n e = go (byte_at s p) refl
  where
    on : (lo : ℕ) (q : Place) → q.0 ≡ p.0 + 1 → (b : Option (ℕ × Place)) → byte_at s q ≡ b → (on_part {A = Option (ℕ × Place)} None b λ hi r. Some (lo + hi * 256, r)) ≡ Some (n, e) → (e.0 ≡ p.0 + 2) × (e.0 ≤ length s)
    on lo q i None k h = let y : ◌≡◌ {A = ℕ} 0 1 = cc in absurd (omega arith)
    on lo q i (Some (hi, r)) k h = let y = (same_part (lo + hi * 256) n r e h).1 in rw (← y) (let z = byte_end s q hi r k in let j = z.0 in (omega arith, z.1))

    go : (b : Option (ℕ × Place)) → byte_at s p ≡ b → (on_part {A = Option (ℕ × Place)} None b λ lo q. on_part None (byte_at s q) λ hi r. Some (lo + hi * 256, r)) ≡ Some (n, e) → (e.0 ≡ p.0 + 2) × (e.0 ≤ length s)
    go None k h = let y : ◌≡◌ {A = ℕ} 0 1 = cc in absurd (omega arith)
    go (Some (lo, q)) k h = on lo q (byte_end s p lo q k).0 (byte_at s q) refl h

name-end : (names : ℕ) (s : List ℕ) (p : Place) (n : ℕ) (e : Place) → name_at names s p ≡ Some (n, e) → (n < names) × (e.0 ≡ p.0 + 2) × (e.0 ≤ length s)
unfolding name_at on_part
name-end names s p n e = go (word_at s p) refl
  where
    on : (m : ℕ) (q : Place) → word_at s p ≡ Some (m, q) → (b : Bool) → ltb m names ≡ b → pick {A = Option (ℕ × Place)} b (Some (m, q)) None ≡ Some (n, e) → (n < names) × (e.0 ≡ p.0 + 2) × (e.0 ≤ length s)
    on m q k true l h = let y = same_part m n q e h in rw (← y.0, ← y.1) (let w = word_end s p m q k in (ltb-true m names l, w.0, w.1))
    on m q k false l h = let y : ◌≡◌ {A = ℕ} 0 1 = cc in absurd (omega arith)

    go : (b : Option (ℕ × Place)) → word_at s p ≡ b → (on_part {A = Option (ℕ × Place)} None b λ m q. pick (ltb m names) (Some (m, q)) None) ≡ Some (n, e) → (n < names) × (e.0 ≡ p.0 + 2) × (e.0 ≤ length s)
    go None k h = let y : ◌≡◌ {A = ℕ} 0 1 = cc in absurd (omega arith)
    go (Some (m, q)) k h = on m q k (ltb m names) refl h

pub entry-end : (names : ℕ) (s : List ℕ) (p : Place) (n : ℕ) (e : Place) → entry_at names s p ≡ Some (n, e) → (n < names) × (e.0 ≡ p.0 + 3) × (e.0 ≤ length s)
unfolding entry_at on_part
entry-end names s p n e = go (byte_at s p) refl
  where
    on : (q : Place) → q.0 ≡ p.0 + 1 → (b : Bool) → pick b (name_at names s q) None ≡ Some (n, e) → (n < names) × (e.0 ≡ p.0 + 3) × (e.0 ≤ length s)
    on q i true h = let w = name-end names s q n e h in let j = w.1 in (w.0, omega arith, w.2)
    on q i false h = let y : ◌≡◌ {A = ℕ} 0 1 = cc in absurd (omega arith)

    go : (b : Option (ℕ × Place)) → byte_at s p ≡ b → (on_part {A = Option (ℕ × Place)} None b λ k q. pick (eqb k 0x50) (name_at names s q) None) ≡ Some (n, e) → (n < names) × (e.0 ≡ p.0 + 3) × (e.0 ≤ length s)
    go None j h = let y : ◌≡◌ {A = ℕ} 0 1 = cc in absurd (omega arith)
    go (Some (k, q)) j h = on q (byte_end s p k q j).0 (eqb k 0x50) h

pub entry_below : (names : ℕ) (s : List ℕ) (p : Place) (x : ℕ × Place) → entry_at names s p ≡ Some x → x.0 < names
entry_below names s p x h = (entry-end names s p x.0 x.1 h).0

pub capped-most : (names : ℕ) → capped names ≤ max_names
unfolding capped
capped-most names = go (ltb max_names names) refl
  where
    go : (b : Bool) → ltb max_names names ≡ b → pick b max_names names ≤ max_names
    go true e = omega arith
    go false e = ltb-false max_names names e

capped_min : (names : ℕ) → capped names ≡ min names max_names
unfolding capped
capped_min names = go (ltb max_names names) refl
  where
    go : (b : Bool) → ltb max_names names ≡ b → pick b max_names names ≡ min names max_names
    go true e = let l = ltb-true max_names names e in omega arith
    go false e = let l = ltb-false max_names names e in omega arith

-- ---- one more entry

pub lookup-other : (es : Entries) (n : ℕ) (t : Ty) (m : ℕ) → (n ≡ m → ⊥) → lookup (es ++ ((n, t) ∷ [])) m ≡ lookup es m
unfolding lookup first
lookup-other [] n t m h = rw (ne_eqb n m h)
lookup-other (e ∷ es) n t m h = ap (first (eqb e.0 m) (holds e.1)) (lookup-other es n t m h)

pub lookup-last : (es : Entries) (n : ℕ) (t : Ty) → lookup es n ≡ lacks → lookup (es ++ ((n, t) ∷ [])) n ≡ holds t
unfolding lookup first
lookup-last [] n t h = rw (eq-eqb n n refl)
lookup-last (e ∷ es) n t h = go (eqb e.0 n) h (lookup-last es n t)
  where
    go : (b : Bool) → first b (holds e.1) (lookup es n) ≡ lacks → (lookup es n ≡ lacks → lookup (es ++ ((n, t) ∷ [])) n ≡ holds t) → first b (holds e.1) (lookup (es ++ ((n, t) ∷ [])) n) ≡ holds t
    go true k rec = let y : ◌≡◌ {A = ℕ} 0 1 = cc in absurd (omega arith)
    go false k rec = rec k

spell_last : (es : Entries) (n : ℕ) (t : Ty) → length (spell_entries (es ++ ((n, t) ∷ []))) ≡ length (spell_entries es) + 3 + length (spell t)
unfolding spell_entries spell_entry
spell_last [] n t = let h = length-append (spell t) [] in omega arith
spell_last (e ∷ es) n t =
    let h = length-append (spell_entry e) (spell_entries es) in
    let k = length-append (spell_entry e) (spell_entries (es ++ ((n, t) ∷ []))) in
    let r = spell_last es n t in
    omega arith

places-last : (es : Entries) (p n : ℕ) (t : Ty) (cells : List ℕ) → places_from p (es ++ ((n, t) ∷ [])) cells ≡ set (places_from p es cells) n (p + length (spell_entries es) + 4)
unfolding places_from spell_entries
places-last [] p n t cells = let h : p + 4 ≡ p + 0 + 4 = omega arith in ap (set cells n) h
places-last (e ∷ es) p n t cells =
    let h = length-append (spell_entry e) (spell_entries es) in
    let k : p + length (spell_entry e) + length (spell_entries es) + 4 ≡ p + length (spell_entry e ++ spell_entries es) + 4 = omega arith in
    places-last es (p + length (spell_entry e)) n t (set cells e.0 (p + 4)) ∙ ap (set (places_from (p + length (spell_entry e)) es (set cells e.0 (p + 4))) n) k

-- ---- one entry, as the code reads it: the table tells which names were seen

unfoldable pub entered_by : ℕ → Place → Result Place (Fault Place) → Result Entered (Fault Place)
entered_by n e (Ok f) = Ok (record { name = n; at = e; end = f })
entered_by n e (Err f) = Err f

unfoldable pub entered_at : ℕ → List ℕ → List ℕ → Place → Result Entered (Fault Place)
entered_at names s cells p = on_part (Err (Malformed p)) (entry_at names s p) λ n e. pick (eqb (get_or cells n 0) 0) (entered_by n e (end_of (type_at max_depth names s e.0))) (Err (Malformed p))

-- every byte has a place
pub entered_reach : (names : ℕ) (s cells : List ℕ) (p : Place) → length s ≤ max_bytes → entered_at names (reach s) cells p ≡ entered_at names s cells p
entered_reach names s cells p h = ap (λ (l : List ℕ). entered_at names l cells p) (reach-all s (omega arith))

-- ---- the loop

-- between entries: some were seen, the table tells of them, and the rest decides the whole
pub record Going (names : ℕ) (s : List ℕ) (all : Parsed Entries) (cells : List ℕ) (p : ℕ) : Type 0 where
  pub seen : Entries
  pub turns : ℕ
  pub enough : length s ≤ p + turns
  pub rest : entries_from turns names s seen p ≡ all
  pub begins : p ≡ length (spell_entries seen)
  pub built : cells ≡ places_from 0 seen empty
  pub table : Table names s seen cells
  pub size : length cells ≡ max_names

pub going_start : (names : ℕ) (s : List ℕ) → Going names s (entries_from (length s) names s [] 0) (replicate 256 0) 0
unfolding lookup Cell spell_entries places_from
going_start names s = record { seen = []; turns = length s; enough = omega arith; rest = refl; begins = refl; built = refl; table = record { tells = λ n h. get_or-replicate 256 n 0 0 h }; size = refl }

module _ (names : ℕ) (s : List ℕ) (all : Parsed Entries) (cells : List ℕ) (p : ℕ) (g : Going names s all cells p) where
  going_end : length s ≤ p → parsed g.seen ≡ all
  unfolding entries_from
  going_end h = go g.turns g.rest
    where
      go : (t : ℕ) → entries_from t names s g.seen p ≡ all → parsed g.seen ≡ all
      go zero k = sym (rw (le-ltb p (length s) h)) ∙ k
      go (suc t) k = sym (rw (le-ltb p (length s) h)) ∙ k

  module _ (h : p < length s) where
    some_turns : g.turns ≡ 0 → ⊥
    some_turns z = let e = g.enough in omega arith

    on-entry : (w : Option (ℕ × Place)) → entry_at names s (place p) ≡ w → entry_by names s (λ es q. entries_from (g.turns - 1) names s es q) g.seen p w ≡ all
    unfolding entries_from
    on-entry w e = go g.turns some_turns g.rest
      where
        go : (t : ℕ) → (t ≡ 0 → ⊥) → entries_from t names s g.seen p ≡ all → entry_by names s (λ es q. entries_from (t - 1) names s es q) g.seen p w ≡ all
        go zero y k = absurd (y refl)
        go (suc t) y k = sym (rw (sub-one, lt-ltb p (length s) h, e)) ∙ k

    on_none : entry_at names s (place p) ≡ None → faulty (Malformed (place p)) ≡ all
    unfolding entry_by
    on_none e = on-entry None e

    module _ (n : ℕ) (e : Place) (w : entry_at names s (place p) ≡ Some (n, e)) (small : names ≤ max_names) where
      -- what the table says of this name
      on-name : (x : Entry) → lookup g.seen n ≡ x → fresh_by names s (λ es q. entries_from (g.turns - 1) names s es q) g.seen p n e x ≡ all
      unfolding entry_by
      on-name x k = sym (rw k) ∙ on-entry (Some (n, e)) w

      cell : (x : Entry) → lookup g.seen n ≡ x → Cell names s x (get_or cells n 0)
      cell x k = rw k at (g.table.tells n (let y = (entry-end names s (place p) n e w).0 in omega arith))

      again : (get_or cells n 0 ≡ 0 → ⊥) → faulty (Malformed (place p)) ≡ all
      unfolding fresh_by Cell
      again y = go (lookup g.seen n) refl
        where
          go : (x : Entry) → lookup g.seen n ≡ x → faulty (Malformed (place p)) ≡ all
          go lacks k = absurd (y (cell lacks k))
          go (holds t) k = on-name (holds t) k

      fresh : get_or cells n 0 ≡ 0 → lookup g.seen n ≡ lacks
      unfolding Cell
      fresh y = go (lookup g.seen n) refl
        where
          go : (x : Entry) → lookup g.seen n ≡ x → lookup g.seen n ≡ lacks
          go lacks k = k
          go (holds t) k = let c = cell (holds t) k in let i = c.2 in absurd (omega arith)

      module _ (y : get_or cells n 0 ≡ 0) where
        on-type : (x : TypeAt) → type_at max_depth names s e.0 ≡ x → typed_by (λ es q. entries_from (g.turns - 1) names s es q) g.seen n x ≡ all
        unfolding fresh_by
        on-type x k = sym (rw k) ∙ on-name lacks (fresh y)

        cells_next : (t : Ty) (f : ℕ) → type_at max_depth names s e.0 ≡ got t f → (m : ℕ) → m < max_names → Cell names s (lookup (g.seen ++ ((n, t) ∷ [])) m) (get_or (set cells n (e.0 + 1)) m 0)
        unfolding Cell
        cells_next t f j m b = go (ℕ_discrete n m)
          where
            size_is : n < length cells
            size_is = let i = (entry-end names s (place p) n e w).0 in let k = g.size in omega arith

            go : Dec (n ≡ m) → Cell names s (lookup (g.seen ++ ((n, t) ∷ [])) m) (get_or (set cells n (e.0 + 1)) m 0)
            go (yes k) = rw (← k, lookup-last g.seen n t (fresh y), get_or-set_same cells n (e.0 + 1) 0 size_is) (e.0, f, (let i : e.0 + 1 ≡ suc e.0 = omega arith in i), j)
            go (no k) = rw (lookup-other g.seen n t m k, get_or-set_other cells n m (e.0 + 1) 0 (λ i. k (sym i))) (g.table.tells m b)

        next : ((i : ℕ) → get_or s i 0 < 256) → (t : Ty) (f : ℕ) → type_at max_depth names s e.0 ≡ got t f → (p < f) × Going names s all (set cells n (e.0 + 1)) f
        unfolding typed_by
        next bytes t f j =
            let here = (entry-end names s (place p) n e w).1 in
            let at = g.begins in
            let ends = (read-stands max_depth names s (bytes-at s bytes) e.0 t f j).ends in
            let long = spell_last g.seen n t in
            let i : e.0 + 1 ≡ 0 + length (spell_entries g.seen) + 4 = omega arith in
            let least = g.enough in (
              omega arith,
              record {
                seen = g.seen ++ ((n, t) ∷ []);
                turns = g.turns - 1;
                enough = omega arith;
                rest = on-type (got t f) j;
                begins = omega arith;
                built = ap (λ (k : ℕ). set cells n k) i ∙ ap (λ (l : List ℕ). set l n (0 + length (spell_entries g.seen) + 4)) g.built ∙ sym (places-last g.seen 0 n t empty);
                table = record { tells = cells_next t f j };
                size = length-set cells n (e.0 + 1) ∙ g.size;
              },
            )

    -- one turn of the loop: the whole is decided, or one more entry was seen
    unfoldable pub Turn : Result Entered (Fault Place) → Type 0
    Turn (Err f) = faulty f ≡ all
    Turn (Ok x) = (x.name < names) × (x.at.0 ≤ length s) × (p < x.end.0) × Going names s all (set cells x.name (x.at.0 + 1)) x.end.0

    pub turn : names ≤ max_names → ((i : ℕ) → get_or s i 0 < 256) → Turn (entered_at names s cells (place p))
    unfolding entered_at entered_by on_part end_of typed_by Turn
    turn small bytes = go (entry_at names s (place p)) refl
      where
        by : (n : ℕ) (e : Place) (w : entry_at names s (place p) ≡ Some (n, e)) (y : get_or cells n 0 ≡ 0) (x : TypeAt) → type_at max_depth names s e.0 ≡ x → Turn (entered_by n e (end_of x))
        by n e w y (got t f) k = let i = entry-end names s (place p) n e w in let j = next n e w small y bytes t f k in (i.0, i.2, j.0, j.1)
        by n e w y (malformed q) k = on-type n e w small y (malformed q) k
        by n e w y (deep q) k = on-type n e w small y (deep q) k

        on : (n : ℕ) (e : Place) → entry_at names s (place p) ≡ Some (n, e) → (c : Bool) → eqb (get_or cells n 0) 0 ≡ c → Turn (pick {A = Result Entered (Fault Place)} c (entered_by n e (end_of (type_at max_depth names s e.0))) (Err (Malformed (place p))))
        on n e w true k = by n e w (eqb-true (get_or cells n 0) 0 k) (type_at max_depth names s e.0) refl
        on n e w false k = again n e w small (eqb-false (get_or cells n 0) 0 k)

        go : (w : Option (ℕ × Place)) → entry_at names s (place p) ≡ w → Turn (on_part (Err (Malformed (place p))) w λ n e. pick (eqb (get_or cells n 0) 0) (entered_by n e (end_of (type_at max_depth names s e.0))) (Err (Malformed (place p))))
        go None e = on_none e
        go (Some (n, e)) w = on n e w (eqb (get_or cells n 0) 0) refl

  -- ---- the answer

  pub told_end : length s ≤ p → Ok cells ≡ told_of all
  unfolding told_of
  told_end h = ap (λ (l : List ℕ). Ok l) g.built ∙ ap told_of (going_end h)

  -- of a stream that is not too long every byte has a place
  module _ (h : p < length s) (small : names ≤ max_names) (bytes : (i : ℕ) → get_or s i 0 < 256) (short : length s ≤ max_bytes) where
    reached : (x : Result Entered (Fault Place)) → entered_at names (reach s) cells (place p) ≡ x → entered_at names s cells (place p) ≡ x
    reached x k = sym (entered_reach names s cells (place p) short) ∙ k

    pub told_wrong : (f : Fault Place) → entered_at names (reach s) cells (place p) ≡ Err f → Err (At f) ≡ told_of all
    unfolding told_of Turn
    told_wrong f k = ap told_of (subst (Turn h) (reached (Err f) k) (turn h small bytes))

    pub turn-next : (x : Entered) → entered_at names (reach s) cells (place p) ≡ Ok x → (x.name < names) × (x.at.0 ≤ length s) × (p < x.end.0) × Going names s all (set cells x.name (x.at.0 + 1)) x.end.0
    unfolding Turn
    turn-next x k = subst (Turn h) (reached (Ok x) k) (turn h small bytes)

module _ (names : ℕ) (s : List ℕ) where
  pub told_long : max_bytes < length s → told_of (environment_of names s) ≡ Err TooLong
  unfolding environment_of told_of
  told_long h = rw (lt-ltb max_bytes (length s) h)

  pub told_whole : (n : ℕ) → n ≡ min names max_names → length s ≤ max_bytes → told_of (entries_from (length s) n s [] 0) ≡ told_of (environment_of names s)
  unfolding environment_of
  told_whole n e h = rw (e, ← capped_min names, le-ltb max_bytes (length s) h)

-- ---- what the answer says

pub answer-form : (x : Parsed Entries) → (answer_of x).form ≡ form_of x
unfolding answer_of blank form_of
answer-form (parsed es) = refl
answer-form too_long = refl
answer-form (faulty f) = refl

module _ (names : ℕ) (s : List ℕ) (small : names ≤ max_names) (bytes : (i : ℕ) → get_or s i 0 < 256) (all : Parsed Entries) (es : Entries) (e : all ≡ parsed es) where
  last-told : (cells : List ℕ) (p : ℕ) → Going names s all cells p → length s ≤ p → Table names s es (places_from 0 es empty)
  last-told cells p g h =
      let k = going_end names s all cells p g h ∙ e in
      let i : g.seen ≡ es = cc in
      subst (λ (fs : Entries). Table names s fs (places_from 0 fs empty)) i (subst (λ (l : List ℕ). Table names s g.seen l) g.built g.table)

  never : (f : Fault Place) → faulty f ≡ all → Table names s es (places_from 0 es empty)
  never f k = let z = k ∙ e in let i : ◌≡◌ {A = ℕ} 0 1 = cc in absurd (omega arith)

  turn-told : (cells : List ℕ) (p : ℕ) (g : Going names s all cells p) (h : p < length s) → ((cells : List ℕ) (q : ℕ) → p < q → Going names s all cells q → Table names s es (places_from 0 es empty)) → Table names s es (places_from 0 es empty)
  unfolding Turn
  turn-told cells p g h rec = go (entered_at names s cells (place p)) (turn names s all cells p g h small bytes)
    where
      go : (x : Result Entered (Fault Place)) → Turn names s all cells p g h x → Table names s es (places_from 0 es empty)
      go (Err f) k = never f k
      go (Ok x) k = rec (set cells x.name (x.at.0 + 1)) x.end.0 k.2 k.3

  -- most: the bytes that are left
  all_told : (most : ℕ) (cells : List ℕ) (p : ℕ) → length s ≤ p + most → Going names s all cells p → Table names s es (places_from 0 es empty)
  all_told zero cells p l g = last-told cells p g (omega arith)
  all_told (suc most) cells p l g = go (all_told most) (ltb p (length s)) refl
    where
      go : ((cells : List ℕ) (q : ℕ) → length s ≤ q + most → Going names s all cells q → Table names s es (places_from 0 es empty)) → (c : Bool) → ltb p (length s) ≡ c → Table names s es (places_from 0 es empty)
      go rec true k = turn-told cells p g (ltb-true p (length s) k) (λ cells q m. rec cells q (omega arith))
      go rec false k = last-told cells p g (ltb-false p (length s) k)

-- the table of an accepted stream says of each name what the environment does
pub answer-table : (names : ℕ) (s : List ℕ) → ((i : ℕ) → get_or s i 0 < 256) → (es : Entries) → environment_of names s ≡ parsed es → Table (capped names) s es (answer_of (environment_of names s)).types
unfolding environment_of answer_of
answer-table names s bytes es e = go (ltb max_bytes (length s)) refl e
  where
    told : entries_from (length s) (capped names) s [] 0 ≡ parsed es → Table (capped names) s es (answer_of (entries_from (length s) (capped names) s [] 0)).types
    told k = rw k (all_told (capped names) s (capped-most names) bytes (entries_from (length s) (capped names) s [] 0) es k (length s) empty 0 (omega arith) (going_start (capped names) s))

    go : (c : Bool) → ltb max_bytes (length s) ≡ c → pick c too_long (entries_from (length s) (capped names) s [] 0) ≡ parsed es → Table (capped names) s es (answer_of (pick c too_long (entries_from (length s) (capped names) s [] 0))).types
    go true k e = let i : ◌≡◌ {A = ℕ} 0 1 = cc in absurd (omega arith)
    go false k e = told e
