-- The theorems of specs/ExactEnvironment.antt: `entry-says`, `spelled-entries-parsed`, `parsed-entries-spelled`, `entries_once`, `good-is-entries`.
use Prim.Native.Nat.{ℕ, zero, suc, ◌+◌, ◌/◌, ◌%◌, ◌≤◌, ◌<◌}
use native.Mathlib.Omega.{arith}
use Rattle.std.proofs.Math.Path.{◌≡◌, refl, sym, ap}
use Rattle.std.proofs.Common.{◌∙◌, le-ltb, lt-ltb, ltb-false, ne_eqb}
use Rattle.std.specs.Prelude.{Bool, get_or, eqb, Option, Some, None, Ok}
use Rattle.std.proofs.Math.Bool.{true, false}
use mathlib.Core.List.{List, [], ◌∷◌, ◌++◌, append_assoc, append-nil}
use Rattle.std.proofs.Math.ListN.{length, drop, drop_of_length-le, length-drop}
use Rattle.std.proofs.Math.Dec.{ltb}
use Rattle.types.specs.declared.Place.{Place}
use Rattle.types.specs.Ty as T
use Rattle.types.specs.Ty.{Ty}
use Rattle.types.specs.Record.{TypeAt, got, malformed, deep, type_at}
use Rattle.types.specs.Spellings.{past, spelled-is-read, read-stands, bytes-at}
use Rattle.types.specs.declared.Fault.TheVariants.{Malformed}
use Rattle.formula.specs.Environment.{Entry, lacks, holds, Entries, first, lookup, Distinct, spell_entry, spell_entries}
use Rattle.heads.specs.Heads.{pick, place, on_part, name_at}
use Rattle.formula.specs.Parse.{Parsed, parsed, too_long, faulty, form_of}
use Rattle.formula.specs.EnvParse.{entry_at, typed_by, fresh_by, entry_by, entries_from, capped, environment_of}
use Rattle.types.specs.Limits.{max_bytes, max_depth}
use Rattle.formula_laws.specs.Fits.{FitsTy}
use Rattle.formula_laws.specs.Says.{Stand, stand_join, on_byte_lem, on-name, choose, same_word}
use Rattle.formula_laws.specs.Complete.{byte_here, name-here, after_one, after-three}
use Rattle.formula_laws.specs.ExactEnvironment.{differs, EntrySays, Rest, FitsEntries, distinct-last, SpelledEntries}

-- what stands before an entry of distinct entries lacks its name
away : (es : Entries) (e : ℕ × Ty) (fs : Entries) (n : ℕ) → lookup (es ++ (e ∷ fs)) n ≡ lacks → n ≡ e.0 → ⊥
away [] e fs n h z = (differs e fs n h).0 (sym z)
away (y ∷ es) e fs n h z = away es e fs n (differs y (es ++ (e ∷ fs)) n h).1 z

before-lacks : (es : Entries) (e : ℕ × Ty) (fs : Entries) → Distinct (es ++ (e ∷ fs)) → lookup es e.0 ≡ lacks
unfolding Distinct lookup first
before-lacks [] e fs d = refl
before-lacks (x ∷ es) e fs d = rw (ne_eqb x.0 e.0 (away es e fs x.0 d.0)) (before-lacks es e fs d.1)

pub entry-says : (names : ℕ) (s : List ℕ) (bytes : (i : ℕ) → get_or s i 0 < 256) (p : ℕ) → EntrySays names s p (entry_at names s (place p))
unfolding entry_at EntrySays
entry-says names s bytes p =
    on_byte_lem s bytes Q None (place p) (λ k q. pick (eqb k 0x50) (name_at names s q) None) tt
    (λ k q a x. choose Q k 0x50 _ _ (λ h. same_word Q (name_at names s q) (on-name s bytes Q None names q (λ n e. Some (n, e)) tt (λ n e b z. (b, stand_join s p q.0 e.0 (0x50 ∷ []) _ (rw h at x) z)))) tt)
  where
    Q : Option (ℕ × Place) → Type 0
    Q = EntrySays names s p

entry_here : (names : ℕ) (s : List ℕ) (p n : ℕ) (r : List ℕ) → n < names → drop p s ≡ 0x50 ∷ n % 256 ∷ n / 256 ∷ r → entry_at names s (place p) ≡ Some (n, (place (p + 3)))
unfolding entry_at on_part
entry_here names s p n r l h =
    let q : p + 1 + 2 ≡ p + 3 = omega arith in
    rw (byte_here s p 0x50 _ h, name-here s (p + 1) names n r l (after_one s p _ _ h), q)

-- ---- what is parsed is spelled
module _ (names : ℕ) (s : List ℕ) (bytes : (i : ℕ) → get_or s i 0 < 256) where
  unfoldable ToldBy : Entries → ℕ → Parsed Entries → Type 0
  ToldBy seen p (parsed es) = Rest names s bytes seen p es
  ToldBy seen p too_long = Unit {0}
  ToldBy seen p (faulty f) = Unit {0}

  ended : (seen : Entries) (p : ℕ) → Distinct seen → length s ≤ p → Rest names s bytes seen p seen
  unfolding spell_entries FitsEntries
  ended seen p d h = record { rest = []; split = sym (append-nil seen); spelled = drop_of_length-le s h; distinct = d; fits = tt }

  one_more : (seen : Entries) (p n : ℕ) (t : Ty) (e f : ℕ) (es : Entries) → n < names → Stand s p (0x50 ∷ n % 256 ∷ n / 256 ∷ []) e → type_at max_depth names s e ≡ got t f → Rest names s bytes (seen ++ ((n, t) ∷ [])) f es → Rest names s bytes seen p es
  unfolding spell_entries spell_entry FitsEntries FitsTy
  one_more seen p n t e f es l x k r =
      let w = read-stands max_depth names s (bytes-at s bytes) e t f k in
      let m = w.shallow in
      record {
        rest = (n, t) ∷ r.rest;
        split = r.split ∙ append_assoc seen ((n, t) ∷ []) r.rest;
        spelled = x.bytes ∙ ap (λ (y : List ℕ). 0x50 ∷ n % 256 ∷ n / 256 ∷ y) (w.bytes ∙ ap (λ (y : List ℕ). T.spell t ++ y) r.spelled);
        distinct = r.distinct;
        fits = (l, (omega arith, w.below), r.fits);
      }

  more-told : (seen : Entries) (p n : ℕ) (t : Ty) (e f : ℕ) → n < names → Stand s p (0x50 ∷ n % 256 ∷ n / 256 ∷ []) e → type_at max_depth names s e ≡ got t f → (x : Parsed Entries) → ToldBy (seen ++ ((n, t) ∷ [])) f x → ToldBy seen p x
  unfolding ToldBy
  more-told seen p n t e f l y k (parsed es) r = one_more seen p n t e f es l y k r
  more-told seen p n t e f l y k too_long r = tt
  more-told seen p n t e f l y k (faulty x) r = tt

  module _ (k : Entries → ℕ → Parsed Entries) (rec : (es : Entries) (q : ℕ) → Distinct es → ToldBy es q (k es q)) (seen : Entries) (p : ℕ) (d : Distinct seen) where
    typed-told : (n : ℕ) (e : ℕ) → n < names → Stand s p (0x50 ∷ n % 256 ∷ n / 256 ∷ []) e → lookup seen n ≡ lacks → (x : TypeAt) → type_at max_depth names s e ≡ x → ToldBy seen p (typed_by k seen n x)
    unfolding typed_by ToldBy
    typed-told n e l y z (got t f) h = more-told seen p n t e f l y h (k (seen ++ ((n, t) ∷ [])) f) (rec (seen ++ ((n, t) ∷ [])) f (distinct-last seen n t d z))
    typed-told n e l y z (malformed q) h = tt
    typed-told n e l y z (deep q) h = tt

    fresh-told : (n : ℕ) (e : Place) → n < names → Stand s p (0x50 ∷ n % 256 ∷ n / 256 ∷ []) e.0 → (x : Entry) → lookup seen n ≡ x → ToldBy seen p (fresh_by names s k seen p n e x)
    unfolding fresh_by ToldBy
    fresh-told n e l y (holds t) z = tt
    fresh-told n e l y lacks z = typed-told n e.0 l y z (type_at max_depth names s e.0) refl

    entry-told : (w : Option (ℕ × Place)) → EntrySays names s p w → ToldBy seen p (entry_by names s k seen p w)
    unfolding entry_by ToldBy EntrySays
    entry-told None x = tt
    entry-told (Some (n, e)) x = fresh-told n e x.0 x.1 (lookup seen n) refl

  from_told : (turns : ℕ) (seen : Entries) (p : ℕ) → Distinct seen → ToldBy seen p (entries_from turns names s seen p)
  unfolding entries_from ToldBy
  from_told zero seen p d = go (ltb p (length s)) refl
    where
      go : (c : Bool) → ltb p (length s) ≡ c → ToldBy seen p (pick c (faulty (Malformed (place p))) (parsed seen))
      go true k = tt
      go false k = ended seen p d (ltb-false p (length s) k)
  from_told (suc turns) seen p d = go (λ es q. entries_from turns names s es q) (from_told turns) (ltb p (length s)) refl
    where
      go : (k : Entries → ℕ → Parsed Entries) → ((es : Entries) (q : ℕ) → Distinct es → ToldBy es q (k es q)) → (c : Bool) → ltb p (length s) ≡ c → ToldBy seen p (pick c (entry_by names s k seen p (entry_at names s (place p))) (parsed seen))
      go k rec true h = entry-told k rec seen p d (entry_at names s (place p)) (entry-says names s bytes p)
      go k rec false h = ended seen p d (ltb-false p (length s) h)

-- ---- what is spelled is parsed
module _ (names : ℕ) (s : List ℕ) where
  end-here : (turns : ℕ) (seen : Entries) (p : ℕ) → length s ≤ p → entries_from turns names s seen p ≡ parsed seen
  unfolding entries_from
  end-here zero seen p h = rw (le-ltb p (length s) h)
  end-here (suc turns) seen p h = rw (le-ltb p (length s) h)

  within : (p : ℕ) (b : ℕ) (l : List ℕ) → drop p s ≡ b ∷ l → p < length s
  within p b l h = let k = length-drop p s in let j : length (drop p s) ≡ suc (length l) = ap length h in omega arith

  from-here : (rest : Entries) (turns : ℕ) (seen : Entries) (p : ℕ) → length s ≤ p + turns → Distinct (seen ++ rest) → FitsEntries names rest → drop p s ≡ spell_entries rest → entries_from turns names s seen p ≡ parsed (seen ++ rest)
  unfolding entries_from entry_by fresh_by typed_by spell_entries spell_entry FitsEntries FitsTy
  from-here [] turns seen p l d f h = end-here turns seen p (let k = length-drop p s in let j : length (drop p s) ≡ 0 = ap length h in omega arith) ∙ (rw (append-nil seen))
  from-here (e ∷ rest) zero seen p l d f h = absurd (let w = within p _ _ h in omega arith)
  from-here (e ∷ rest) (suc turns) seen p l d f h =
      let w = within p _ _ h in
      let x : drop (p + 3) s ≡ T.spell e.1 ++ spell_entries rest = after-three s p _ _ _ _ h in
      let m = f.1.0 in
      let y = append_assoc seen (e ∷ []) rest in
      rw (lt-ltb p (length s) w, entry_here names s p e.0 _ f.0 h, before-lacks seen e rest d, spelled-is-read names s e.1 f.1.1 max_depth (p + 3) (spell_entries rest) (omega arith) x)
      (from-here rest turns (seen ++ (e ∷ [])) (p + 3 + length (T.spell e.1)) (omega arith) (rw y d) f.2 (past s (p + 3) (T.spell e.1) (spell_entries rest) x) ∙ ap parsed y)

pub spelled-entries-parsed : (names : ℕ) (s : List ℕ) (es : Entries) → SpelledEntries names s es → environment_of names s ≡ parsed es
unfolding environment_of
spelled-entries-parsed names s es w = rw (le-ltb max_bytes (length s) w.short) (from-here (capped names) s es (length s) [] 0 (omega arith) w.distinct w.fits w.bytes)

module _ (names : ℕ) (s : List ℕ) (bytes : (i : ℕ) → get_or s i 0 < 256) (es : Entries) where
  by-rest : length s ≤ max_bytes → (x : Parsed Entries) → ToldBy (capped names) s bytes [] 0 x → x ≡ parsed es → SpelledEntries names s es
  unfolding ToldBy
  by-rest l (parsed fs) r e =
      let i : fs ≡ es = cc in
      let j : r.rest ≡ es = sym r.split ∙ i in
      record { short = l; bytes = r.spelled ∙ ap spell_entries j; distinct = rw i at r.distinct; fits = rw j at r.fits }
  by-rest l too_long r e = absurd (let z : ◌≡◌ {A = ℕ} 0 1 = cc in omega arith)
  by-rest l (faulty f) r e = absurd (let z : ◌≡◌ {A = ℕ} 0 1 = cc in omega arith)

  pub parsed-entries-spelled : environment_of names s ≡ parsed es → SpelledEntries names s es
  unfolding environment_of Distinct
  parsed-entries-spelled e = go (ltb max_bytes (length s)) refl e
    where
      go : (c : Bool) → ltb max_bytes (length s) ≡ c → pick c too_long (entries_from (length s) (capped names) s [] 0) ≡ parsed es → SpelledEntries names s es
      go true k e = absurd (let z : ◌≡◌ {A = ℕ} 0 1 = cc in omega arith)
      go false k e = by-rest (ltb-false max_bytes (length s) k) (entries_from (length s) (capped names) s [] 0) (from_told (capped names) s bytes (length s) [] 0 tt) e

pub entries_once : (names : ℕ) (s : List ℕ) (es fs : Entries) → SpelledEntries names s es → SpelledEntries names s fs → es ≡ fs
entries_once names s es fs v w =
    let h = spelled-entries-parsed names s es v in
    let k = spelled-entries-parsed names s fs w in
    let e : parsed es ≡ parsed fs = sym h ∙ k in
    cc

-- Good exactly where the stream spells an environment
good-entries : (x : Parsed Entries) → form_of x ≡ Ok tt → (es : Entries) × (x ≡ parsed es)
unfolding form_of
good-entries (parsed a) e = (a, refl)
good-entries too_long e = absurd (let z : ◌≡◌ {A = ℕ} 0 1 = cc in omega arith)
good-entries (faulty f) e = absurd (let z : ◌≡◌ {A = ℕ} 0 1 = cc in omega arith)

pub good-is-entries : (names : ℕ) (s : List ℕ) → ((i : ℕ) → get_or s i 0 < 256) → form_of (environment_of names s) ≡ Ok tt → (es : Entries) × (environment_of names s ≡ parsed es) × SpelledEntries names s es
good-is-entries names s bytes e =
    let h = good-entries (environment_of names s) e in
    (h.0, h.1, parsed-entries-spelled names s bytes h.0 h.1)
