-- The theorems of specs/EnvironmentMeans.antt, whose head says what they give: `environment-told`, `told-environment`, `environment_beyond_means`.
use Rattle.heads.specs.Reads.{same_part}
use Prim.Native.Nat.{ℕ, zero, suc, ◌+◌, ◌≤◌, ◌<◌}
use native.Mathlib.Omega.{arith}
use Rattle.std.proofs.Math.Path.{◌≡◌, refl, ap}
use Rattle.std.proofs.Common.{sym, ◌∙◌, drop_of_length-le}
use Rattle.std.specs.Prelude.{Bool, get_or, drop, Option, Some, None}
use Rattle.std.proofs.Math.Bool.{true, false}
use mathlib.Core.List.{List, [], ◌∷◌, ◌++◌}
use Rattle.std.proofs.Math.ListN.{length}
use Rattle.std.proofs.Math.Dec.{ltb}
use borrow.Author.Tests.{le-ltb, lt-ltb, ltb-true, ltb-false}
use Rattle.types.specs.declared.Place.{Place}
use Rattle.types.specs.Ty.{Ty}
use Rattle.types.specs.Record.{TypeAt, got, malformed, deep, type_at}
use Rattle.types.specs.Spellings.{read-stands, bytes-at}
use Rattle.types.specs.Faults.{malformed_means, deep_means, means_malformed, means_deep}
use Rattle.types.specs.Limits.{max_bytes, max_depth}
use Rattle.types.specs.declared.Fault.{Fault}
use Rattle.types.specs.declared.Fault.TheVariants.{Malformed, Beyond}
use Rattle.formula.specs.Environment.{Entry, lacks, holds, Entries, lookup}
use Rattle.heads.specs.Heads.{pick, place}
use Rattle.formula.specs.Parse.{Parsed, parsed, too_long, faulty}
use Rattle.formula.specs.EnvParse.{entry_at, typed_by, fresh_by, entry_by, entries_from, capped, environment_of}
use Rattle.formula_laws.specs.ExactEnvironment.{EntrySays}
use Rattle.formula_laws.proofs.ExactEnvironment.{entry-says}
use Rattle.formula_laws.specs.EnvironmentMeans.{Stops, Enters, after_entry, bad-type, deep-type, second-entry, no_entry, EntryFault, at_start, DeepType}

module _ (names : ℕ) (s : List ℕ) where
  unfoldable ToldBy : Parsed Entries → Type 0
  ToldBy (parsed es) = Unit {0}
  ToldBy too_long = Unit {0}
  ToldBy (faulty f) = Stops names s f

  module _ (bytes : (i : ℕ) → get_or s i 0 < 256) where
    some : (p b : ℕ) (l : List ℕ) → drop p s ≡ b ∷ l → p < length s
    some p b l e = go (ltb p (length s)) refl
      where
        go : (c : Bool) → ltb p (length s) ≡ c → p < length s
        go true j = ltb-true p (length s) j
        go false j = absurd (let y : [] ≡ b ∷ l = sym (drop_of_length-le s (ltb-false p (length s) j)) ∙ e in let z : ◌≡◌ {A = ℕ} 0 1 = cc in omega arith)

    -- an entry has a byte or more
    entry-inside : (p n : ℕ) (e : Place) → entry_at names s (place p) ≡ Some (n, e) → (p < length s) × (e.0 ≡ p + 3)
    unfolding EntrySays
    entry-inside p n e i = go (entry_at names s (place p)) i (entry-says names s bytes p)
      where
        go : (w : Option (ℕ × Place)) → w ≡ Some (n, e) → EntrySays names s p w → (p < length s) × (e.0 ≡ p + 3)
        go None j x = absurd (let z : ◌≡◌ {A = ℕ} 0 1 = cc in omega arith)
        go (Some (m, q)) j x =
            let o = ap (λ (r : Place). r.0) (same_part m n q e j).1 in
            let z = x.1.ends in
            (some p _ _ x.1.bytes, omega arith)

    module _ (k : Entries → ℕ → Parsed Entries) (turns : ℕ) (rec : (es : Entries) (q : ℕ) → Enters names s es q → length s ≤ q + turns → ToldBy (k es q)) (seen : Entries) (p : ℕ) (h : Enters names s seen p) (l : length s ≤ p + suc turns) where
      typed-told : (n : ℕ) (e : Place) → entry_at names s (place p) ≡ Some (n, e) → lookup seen n ≡ lacks → (x : TypeAt) → type_at max_depth names s e.0 ≡ x → ToldBy (typed_by k seen n x)
      unfolding typed_by ToldBy
      typed-told n e i j (got t f) m =
          let a = (entry-inside p n e i).1 in
          let b = (read-stands max_depth names s (bytes-at s bytes) e.0 t f m).ends in
          rec (seen ++ ((n, t) ∷ [])) f (after_entry h i j m) (omega arith)
      typed-told n e i j (malformed q) m = let y = malformed_means max_depth names s (bytes-at s bytes) e.0 q m in record { seen = seen; entry = p; enters = h; fault = bad-type i j y.0 y.1 }
      typed-told n e i j (deep q) m = let y = deep_means max_depth names s (bytes-at s bytes) e.0 q m in record { seen = seen; entry = p; enters = h; fault = deep-type i j y.0 y.1 y.2 }

      fresh-told : (n : ℕ) (e : Place) → entry_at names s (place p) ≡ Some (n, e) → (x : Entry) → lookup seen n ≡ x → ToldBy (fresh_by names s k seen p n e x)
      unfolding fresh_by ToldBy
      fresh-told n e i (holds t) j = record { seen = seen; entry = p; enters = h; fault = second-entry i j }
      fresh-told n e i lacks j = typed-told n e i j (type_at max_depth names s e.0) refl

      entry-told : p < length s → (w : Option (ℕ × Place)) → entry_at names s (place p) ≡ w → ToldBy (entry_by names s k seen p w)
      unfolding entry_by ToldBy
      entry-told m None i = record { seen = seen; entry = p; enters = h; fault = no_entry m i }
      entry-told m (Some (n, e)) i = fresh-told n e i (lookup seen n) refl

    from_told : (turns : ℕ) (seen : Entries) (p : ℕ) → Enters names s seen p → length s ≤ p + turns → ToldBy (entries_from turns names s seen p)
    unfolding entries_from ToldBy
    from_told zero seen p h l = go (ltb p (length s)) refl
      where
        go : (c : Bool) → ltb p (length s) ≡ c → ToldBy (pick c (faulty (Malformed (place p))) (parsed seen))
        go true j = absurd (let z = ltb-true p (length s) j in omega arith)
        go false j = tt
    from_told (suc turns) seen p h l = go (λ es q. entries_from turns names s es q) (from_told turns) (ltb p (length s)) refl
      where
        go : (k : Entries → ℕ → Parsed Entries) → ((es : Entries) (q : ℕ) → Enters names s es q → length s ≤ q + turns → ToldBy (k es q)) → (c : Bool) → ltb p (length s) ≡ c → ToldBy (pick c (entry_by names s k seen p (entry_at names s (place p))) (parsed seen))
        go k rec true j = entry-told k turns rec seen p h l (ltb-true p (length s) j) (entry_at names s (place p)) refl
        go k rec false j = tt

    -- ---- and back
    turn : (turns : ℕ) (seen : Entries) (p : ℕ) → p < length s → (w : Option (ℕ × Place)) → entry_at names s (place p) ≡ w → entries_from (suc turns) names s seen p ≡ entry_by names s (λ es q. entries_from turns names s es q) seen p w
    unfolding entries_from
    turn turns seen p l w i = rw (lt-ltb p (length s) l, i)

    typed-turn : (turns : ℕ) (seen : Entries) (p n : ℕ) (e : Place) (x : TypeAt) → entry_at names s (place p) ≡ Some (n, e) → lookup seen n ≡ lacks → type_at max_depth names s e.0 ≡ x → entries_from (suc turns) names s seen p ≡ typed_by (λ es q. entries_from turns names s es q) seen n x
    unfolding entry_by fresh_by
    typed-turn turns seen p n e x i j m = turn turns seen p (entry-inside p n e i).0 (Some (n, e)) i ∙ go (lookup seen n) j
      where
        go : (y : Entry) → y ≡ lacks → fresh_by names s (λ es q. entries_from turns names s es q) seen p n e y ≡ typed_by (λ es q. entries_from turns names s es q) seen n x
        go y k = rw (k, m)

    second-turn : (turns : ℕ) (seen : Entries) (p n : ℕ) (e : Place) (t : Ty) → entry_at names s (place p) ≡ Some (n, e) → lookup seen n ≡ holds t → entries_from (suc turns) names s seen p ≡ faulty (Malformed (place p))
    unfolding entry_by fresh_by
    second-turn turns seen p n e t i j = turn turns seen p (entry-inside p n e i).0 (Some (n, e)) i ∙ go (lookup seen n) j
      where
        go : (y : Entry) → y ≡ holds t → fresh_by names s (λ es q. entries_from turns names s es q) seen p n e y ≡ faulty (Malformed (place p))
        go y k = rw k

    fault-inside : (seen : Entries) (p : ℕ) (f : Fault Place) → EntryFault names s seen p f → p < length s
    fault-inside seen p f (no_entry l i) = l
    fault-inside seen p f (second-entry {n} {e} i j) = (entry-inside p n e i).0
    fault-inside seen p f (bad-type {n} {q} {e} i j l h) = (entry-inside p n e i).0
    fault-inside seen p f (deep-type {n} {q} {e} i j l h m) = (entry-inside p n e i).0

    entry_stops : (turns : ℕ) (seen : Entries) (p : ℕ) (f : Fault Place) → EntryFault names s seen p f → entries_from (suc turns) names s seen p ≡ faulty f
    unfolding entry_by typed_by
    entry_stops turns seen p f (no_entry l i) = turn turns seen p l None i
    entry_stops turns seen p f (second-entry {n} {e} {t} i j) = second-turn turns seen p n e t i j
    entry_stops turns seen p f (bad-type {n} {q} {e} i j l h) = typed-turn turns seen p n e (malformed q) i j (means_malformed max_depth names s e.0 q l h)
    entry_stops turns seen p f (deep-type {n} {q} {e} i j l h m) = typed-turn turns seen p n e (deep q) i j (means_deep max_depth names s e.0 q l h m)

    arrives : (seen : Entries) (p : ℕ) → Enters names s seen p → (turns : ℕ) × (length s ≤ p + turns) × (entries_from (length s) names s [] 0 ≡ entries_from turns names s seen p)
    unfolding typed_by
    arrives seen p at_start = (length s, omega arith, refl)
    arrives seen p (after_entry {seen = before} {p = q} {n} {f} {e} {t} h i j m) = let r = arrives before q h in go r.0 r.1 r.2
      where
        go : (turns : ℕ) → length s ≤ q + turns → entries_from (length s) names s [] 0 ≡ entries_from turns names s before q → (k : ℕ) × (length s ≤ f + k) × (entries_from (length s) names s [] 0 ≡ entries_from k names s (before ++ ((n, t) ∷ [])) f)
        go zero l x = absurd (let z = (entry-inside q n e i).0 in omega arith)
        go (suc turns) l x =
            let a = (entry-inside q n e i).1 in
            let b = (read-stands max_depth names s (bytes-at s bytes) e.0 t f m).ends in
            (turns, omega arith, x ∙ typed-turn turns before q n e (got t f) i j m)

    stops_there : (f : Fault Place) → Stops names s f → entries_from (length s) names s [] 0 ≡ faulty f
    stops_there f x = let r = arrives x.seen x.entry x.enters in go r.0 r.1 r.2
      where
        go : (turns : ℕ) → length s ≤ x.entry + turns → entries_from (length s) names s [] 0 ≡ entries_from turns names s x.seen x.entry → entries_from (length s) names s [] 0 ≡ faulty f
        go zero l y = absurd (let z = fault-inside x.seen x.entry f x.fault in omega arith)
        go (suc turns) l y = y ∙ entry_stops turns x.seen x.entry f x.fault

-- ---- whole environments
module _ (names : ℕ) (s : List ℕ) (bytes : (i : ℕ) → get_or s i 0 < 256) where
  pub environment-told : (f : Fault Place) → environment_of names s ≡ faulty f → Stops (capped names) s f
  unfolding environment_of ToldBy
  environment-told f e = go (ltb max_bytes (length s)) e
    where
      by : (x : Parsed Entries) → ToldBy (capped names) s x → x ≡ faulty f → Stops (capped names) s f
      by (parsed es) r e = absurd (let z : ◌≡◌ {A = ℕ} 0 1 = cc in omega arith)
      by too_long r e = absurd (let z : ◌≡◌ {A = ℕ} 0 1 = cc in omega arith)
      by (faulty g) r e = let z : g ≡ f = cc in rw (← z) r

      go : (c : Bool) → pick c too_long (entries_from (length s) (capped names) s [] 0) ≡ faulty f → Stops (capped names) s f
      go true e = absurd (let z : ◌≡◌ {A = ℕ} 0 1 = cc in omega arith)
      go false e = by (entries_from (length s) (capped names) s [] 0) (from_told (capped names) s bytes (length s) [] 0 at_start (omega arith)) e

  pub told-environment : (f : Fault Place) → length s ≤ max_bytes → Stops (capped names) s f → environment_of names s ≡ faulty f
  unfolding environment_of
  told-environment f l x = rw (le-ltb max_bytes (length s) l) (stops_there (capped names) s bytes f x)

  pub environment_beyond_means : (p : Place) → environment_of names s ≡ faulty (Beyond p) → DeepType names s bytes p
  environment_beyond_means p e = go (Beyond p) x.fault refl
    where
      x : Stops (capped names) s (Beyond p)
      x = environment-told (Beyond p) e

      go : (f : Fault Place) → EntryFault (capped names) s x.seen x.entry f → f ≡ Beyond p → DeepType names s bytes p
      go f (no_entry l i) y = absurd (let z : ◌≡◌ {A = ℕ} 0 1 = cc in omega arith)
      go f (second-entry i j) y = absurd (let z : ◌≡◌ {A = ℕ} 0 1 = cc in omega arith)
      go f (bad-type i j l h) y = absurd (let z : ◌≡◌ {A = ℕ} 0 1 = cc in omega arith)
      go f (deep-type {n} {q} {e = r} i j l h m) y =
          let z : place q ≡ p = cc in
          rw (← z) (record { seen = x.seen; entry = x.entry; enters = x.enters; name = n; type = r; stands = i; fresh = j; leads = l; depth = h; well = m })
