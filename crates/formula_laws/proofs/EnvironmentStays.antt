-- An environment's fault stays: a stream that begins with the same bytes, up to the fault's place and four bytes more (no head is longer), has the
-- same fault at the same place (`environment-stays`). So with four bytes of the record there, no bytes after them help.
use Prim.Native.Nat.{ℕ, zero, suc, ◌+◌, ◌≤◌, ◌<◌}
use native.Mathlib.Omega.{arith}
use Rattle.std.proofs.Math.Decide.{dec_le}
use Rattle.std.proofs.Math.Path.{◌≡◌, sym, ap}
use Rattle.std.specs.Prelude.{refl, Bool, true, false, length, get_or, ltb, eqb, Option, Some, None}
use Rattle.std.proofs.Common.{◌∙◌, lt-ltb, le-ltb}
use mathlib.Core.List.{List, [], ◌∷◌, ◌++◌}
use Rattle.types.specs.declared.Place.{Place}
use Rattle.types.specs.Record.{TypeAt, got, malformed, deep, type_at}
use Rattle.types.specs.declared.Fault.{Fault}
use Rattle.types.specs.declared.Fault.TheVariants.{Malformed}
use Rattle.formula.specs.Environment.{Entry, lacks, holds, Entries, lookup}
use Rattle.heads.specs.Heads.{pick, place}
use Rattle.formula.specs.Parse.{Parsed, parsed, too_long, faulty}
use Rattle.formula.specs.EnvParse.{entry_at, typed_by, fresh_by, entry_by, entries_from, capped, environment_of}
use Rattle.types.specs.Limits.{max_bytes, max_depth}
use Rattle.formula_laws.specs.ExactEnvironment.{EntrySays}
use Rattle.formula_laws.proofs.ExactEnvironment.{entry-says}
use Rattle.formula_laws.specs.Stays.{at_fault, on_byte_same, name-same, RepT, type_rep}

-- where g is a fault, g' is the same one, as far as m bytes show it; and the fault is not behind p
unfoldable RepE : ℕ → ℕ → Parsed Entries → Parsed Entries → Type 0
RepE m p (parsed es) g' = Unit {0}
RepE m p too_long g' = Unit {0}
RepE m p (faulty f) g' = (p ≤ at_fault f) × (at_fault f + 4 ≤ m → g' ≡ faulty f)

-- past the bytes that are the same nothing is claimed of g'
far : (m p : ℕ) (g g' g'' : Parsed Entries) → m < p + 4 → RepE m p g g' → RepE m p g g''
unfolding RepE
far m p (parsed es) g' g'' h r = tt
far m p too_long g' g'' h r = tt
far m p (faulty f) g' g'' h r = (r.0, λ l. absurd (let i = r.0 in omega arith))

ended : (m p : ℕ) (es : Entries) (g' : Parsed Entries) → RepE m p (parsed es) g'
unfolding RepE
ended m p es g' = tt

here : (m p : ℕ) → RepE m p (faulty (Malformed (place p))) (faulty (Malformed (place p)))
unfolding RepE at_fault
here m p = (omega arith, λ l. refl)

module _ (names : ℕ) (s s' : List ℕ) (m : ℕ) (short : m ≤ length s) (short' : m ≤ length s') (agree : (i : ℕ) → i < m → get_or s i 0 ≡ get_or s' i 0) (bytes : (i : ℕ) → get_or s i 0 < 256) where
  entry-same : (p : Place) → p.0 + 4 ≤ m → entry_at names s p ≡ entry_at names s' p
  unfolding entry_at
  entry-same p h =
      on_byte_same names s s' m short short' agree bytes None p _ _ (omega arith)
      (λ k q e. ap (λ (w : Option (ℕ × Place)). pick (eqb k 0x50) w None) (name-same names s s' m short short' agree bytes q (omega arith)))

  -- one entry at p, where the two readers agree after it
  module _ (k k' : Entries → ℕ → Parsed Entries) (seen : Entries) (p : ℕ) (rec : (es : Entries) (q : ℕ) → p < q → RepE m q (k es q) (k' es q)) where
    -- the type is read up to f
    after : (es : Entries) (n f : ℕ) (x : TypeAt) → p ≤ f → (f + 4 ≤ m → typed_by k' seen n x ≡ k' es f) → (g : Parsed Entries) → RepE m f g (k' es f) → RepE m p g (typed_by k' seen n x)
    unfolding RepE
    after es n f x h e (parsed fs) r = tt
    after es n f x h e too_long r = tt
    after es n f x h e (faulty g) r = (let i = r.0 in omega arith, λ l. e (let i = r.0 in omega arith) ∙ r.1 l)

    typed_rep : (n e : ℕ) → p < e → (x x' : TypeAt) → RepT names s s' m short short' agree bytes e x x' → RepE m p (typed_by k seen n x) (typed_by k' seen n x')
    unfolding RepT RepE typed_by at_fault
    typed_rep n e h (got t f) x' r =
        let i = r.0 in
        after (seen ++ ((n, t) ∷ [])) n f x' (omega arith) (λ l. ap (typed_by k' seen n) (r.1 l)) (k (seen ++ ((n, t) ∷ [])) f) (rec (seen ++ ((n, t) ∷ [])) f (omega arith))
    typed_rep n e h (malformed q) x' r = (let i = r.0 in omega arith, λ l. rw (r.1 l))
    typed_rep n e h (deep q) x' r = (let i = r.0 in omega arith, λ l. rw (r.1 l))

    fresh_rep : (n : ℕ) (e : Place) → p < e.0 → (x : Entry) → RepE m p (fresh_by names s k seen p n e x) (fresh_by names s' k' seen p n e x)
    unfolding fresh_by
    fresh_rep n e h (holds t) = here m p
    fresh_rep n e h lacks = typed_rep n e.0 h (type_at max_depth names s e.0) (type_at max_depth names s' e.0) (type_rep names s s' m short short' agree bytes max_depth e.0)

    entry-by_rep : (w : Option (ℕ × Place)) → EntrySays names s p w → RepE m p (entry_by names s k seen p w) (entry_by names s' k' seen p w)
    unfolding entry_by EntrySays
    entry-by_rep None x = here m p
    entry-by_rep (Some (n, e)) x = fresh_rep n e (let i = x.1.ends in omega arith) (lookup seen n)

    entry_rep : RepE m p (entry_by names s k seen p (entry_at names s (place p))) (entry_by names s' k' seen p (entry_at names s' (place p)))
    entry_rep = go (dec_le (p + 4) m)
      where
        self : RepE m p (entry_by names s k seen p (entry_at names s (place p))) (entry_by names s' k' seen p (entry_at names s (place p)))
        self = entry-by_rep (entry_at names s (place p)) (entry-says names s bytes p)

        go : Dec (p + 4 ≤ m) → RepE m p (entry_by names s k seen p (entry_at names s (place p))) (entry_by names s' k' seen p (entry_at names s' (place p)))
        go (yes h) = rw (← entry-same (place p) h) self
        go (no h) = far m p _ _ _ (omega arith) self

  -- where s ends nothing is claimed; where s' ends the bytes that are the same end too
  on-left : (p : ℕ) (c : Bool) (es : Entries) (g g' : Parsed Entries) → RepE m p g g' → RepE m p (pick c g (parsed es)) g'
  on-left p true es g g' r = r
  on-left p false es g g' r = ended m p es g'

  on-right : (p : ℕ) (es : Entries) (g g' : Parsed Entries) → RepE m p g g' → RepE m p g (pick (ltb p (length s')) g' (parsed es))
  on-right p es g g' r = go (dec_le (p + 4) m)
    where
      go : Dec (p + 4 ≤ m) → RepE m p g (pick (ltb p (length s')) g' (parsed es))
      go (yes h) = rw (lt-ltb p (length s') (omega arith)) r
      go (no h) = far m p _ _ _ (omega arith) r

  -- each stream in turns enough for its own length
  from_rep : (turns turns' : ℕ) (seen : Entries) (p : ℕ) → length s ≤ p + turns → length s' ≤ p + turns' → RepE m p (entries_from turns names s seen p) (entries_from turns' names s' seen p)
  unfolding entries_from
  from_rep zero turns' seen p l l' = rw (le-ltb p (length s) (omega arith)) (ended m p seen _)
  from_rep (suc turns) zero seen p l l' =
      on-left p (ltb p (length s)) seen _ _
      (far m p _ _ _ (omega arith) (entry_rep (λ es q. entries_from turns names s es q) (λ es q. entries_from (length s') names s' es q) seen p (λ es q h. from_rep turns (length s') es q (omega arith) (omega arith))))
  from_rep (suc turns) (suc turns') seen p l l' =
      on-left p (ltb p (length s)) seen _ _
      (on-right p seen _ _ (entry_rep (λ es q. entries_from turns names s es q) (λ es q. entries_from turns' names s' es q) seen p (λ es q h. from_rep turns turns' es q (omega arith) (omega arith))))

  by_rep : (f : Fault Place) → at_fault f + 4 ≤ m → (g g' : Parsed Entries) → RepE m 0 g g' → g ≡ faulty f → g' ≡ faulty f
  unfolding RepE
  by_rep f h (parsed es) g' r e = absurd (let z : ◌≡◌ {A = ℕ} 0 1 = cc in omega arith)
  by_rep f h too_long g' r e = absurd (let z : ◌≡◌ {A = ℕ} 0 1 = cc in omega arith)
  by_rep f h (faulty x) g' r e =
      let z : x ≡ f = cc in
      let i : at_fault x + 4 ≤ m = rw z h in
      r.1 i ∙ e

module _ (names : ℕ) (s s' : List ℕ) (m : ℕ) (short : m ≤ length s) (short' : m ≤ length s') (agree : (i : ℕ) → i < m → get_or s i 0 ≡ get_or s' i 0) (bytes : (i : ℕ) → get_or s i 0 < 256) where
  -- the same fault
  pub environment-stays : (f : Fault Place) → at_fault f + 4 ≤ m → length s ≤ max_bytes → length s' ≤ max_bytes → environment_of names s ≡ faulty f → environment_of names s' ≡ faulty f
  unfolding environment_of
  environment-stays f h l l' e =
      let e' : entries_from (length s) (capped names) s [] 0 ≡ faulty f = sym (rw (le-ltb max_bytes (length s) l)) ∙ e in
      rw (le-ltb max_bytes (length s') l')
      (by_rep (capped names) s s' m short short' agree bytes f h (entries_from (length s) (capped names) s [] 0) (entries_from (length s') (capped names) s' [] 0) (from_rep (capped names) s s' m short short' agree bytes (length s) (length s') [] 0 (omega arith) (omega arith)) e')
