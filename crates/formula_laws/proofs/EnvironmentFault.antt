-- The theorems of specs/EnvironmentFault.antt, whose head says what they give: `environment_completes`, `environment-none`.
use Prim.Native.Nat.{ℕ, zero, suc, ◌+◌, ◌/◌, ◌%◌, ◌<◌}
use native.Mathlib.Omega.{arith}
use Rattle.std.proofs.Math.Path.{◌≡◌, refl, sym, ap}
use Rattle.std.proofs.Common.{◌∙◌}
use Rattle.std.specs.Prelude.{Bool, get_or, ltb, Option, Some, None}
use Rattle.std.proofs.Math.Bool.{true, false}
use mathlib.Core.List.{List, [], ◌∷◌, ◌++◌, append_assoc, append-nil}
use Rattle.std.proofs.Math.ListN.{length, take, drop, length-append}
use Rattle.std.proofs.Math.Seq.{take_at}
use Rattle.types.specs.declared.Place.{Place}
use Rattle.types.specs.Ty as T
use Rattle.types.specs.Ty.{Ty}
use Rattle.types.specs.Record.{TypeAt, got, malformed, deep, type_at}
use Rattle.types.specs.Spellings.{read-stands, bytes-at}
use Rattle.types.specs.Faults.{Leads, malformed_means, deep_means}
use Rattle.types.specs.declared.Fault.{Fault}
use Rattle.types.specs.declared.Fault.TheVariants.{Malformed}
use Rattle.formula.specs.Environment.{Entry, lacks, holds, Entries, lookup, Distinct, spell_entry, spell_entries}
use Rattle.heads.specs.Heads.{pick, place}
use Rattle.formula.specs.Parse.{Parsed, parsed, too_long, faulty}
use Rattle.formula.specs.EnvParse.{entry_at, typed_by, fresh_by, entry_by, entries_from, capped, environment_of}
use Rattle.types.specs.Limits.{max_bytes, max_depth}
use Rattle.formula_laws.specs.Says.{Stand}
use Rattle.formula_laws.specs.Faults.{upto-here, upto-first, upto-after, TypeUp, lead_up}
use Rattle.formula_laws.specs.FaultPlace.{fault_place}
use Rattle.formula_laws.specs.ExactEnvironment.{SpelledEntries, distinct-last, EntrySays}
use Rattle.formula_laws.proofs.ExactEnvironment.{entry-says, spelled-entries-parsed}
use Rattle.formula_laws.specs.EnvironmentFault.{More, ShapeEntries, EntriesComplete}

module _ (names : ℕ) (s : List ℕ) (bytes : (i : ℕ) → get_or s i 0 < 256) where
  unfoldable FaultBy : Entries → ℕ → Parsed Entries → Type 0
  FaultBy seen p (parsed es) = Unit {0}
  FaultBy seen p too_long = Unit {0}
  FaultBy seen p (faulty f) = More names s bytes seen p (fault_place f)

  at_entry : (seen : Entries) (p : ℕ) → Distinct seen → More names s bytes seen p p
  unfolding ShapeEntries
  at_entry seen p d = record { rest = []; distinct = rw (append-nil seen) d; shape = tt; upto = upto-here s p _ }

  in_type : (seen : Entries) (p n e q : ℕ) → Distinct seen → lookup seen n ≡ lacks → n < names → Stand s p (0x50 ∷ n % 256 ∷ n / 256 ∷ []) e → Leads max_depth names s e q → More names s bytes seen p q
  unfolding ShapeEntries spell_entries spell_entry TypeUp
  in_type seen p n e q d z l x w =
      let u = lead_up names s bytes max_depth (record { at = place e; slots = 0; opened = 0 }) q w in
      record { rest = (n, u.0) ∷ []; distinct = distinct-last seen n u.0 d z; shape = (l, u.1, tt); upto = upto-after s x (upto-first s u.2 []) }

  after-type : (seen : Entries) (p n : ℕ) (t : Ty) (e f : ℕ) → n < names → Stand s p (0x50 ∷ n % 256 ∷ n / 256 ∷ []) e → type_at max_depth names s e ≡ got t f → (x : Parsed Entries) → FaultBy (seen ++ ((n, t) ∷ [])) f x → FaultBy seen p x
  unfolding FaultBy ShapeEntries spell_entries spell_entry
  after-type seen p n t e f l y k (parsed es) r = tt
  after-type seen p n t e f l y k too_long r = tt
  after-type seen p n t e f l y k (faulty g) r =
      let w = read-stands max_depth names s (bytes-at s bytes) e t f k in
      let a = append_assoc seen ((n, t) ∷ []) r.rest in
      let v : Stand s e (T.spell t) f = record { ends = w.ends; bytes = w.bytes } in
      record { rest = (n, t) ∷ r.rest; distinct = rw a at r.distinct; shape = (l, w.below, r.shape); upto = upto-after s y (upto-after s v r.upto) }

  module _ (k : Entries → ℕ → Parsed Entries) (rec : (es : Entries) (q : ℕ) → Distinct es → FaultBy es q (k es q)) (seen : Entries) (p : ℕ) (d : Distinct seen) where
    typed-fault : (n e : ℕ) → n < names → Stand s p (0x50 ∷ n % 256 ∷ n / 256 ∷ []) e → lookup seen n ≡ lacks → (x : TypeAt) → type_at max_depth names s e ≡ x → FaultBy seen p (typed_by k seen n x)
    unfolding typed_by FaultBy fault_place
    typed-fault n e l y z (got t f) h = after-type seen p n t e f l y h (k (seen ++ ((n, t) ∷ [])) f) (rec (seen ++ ((n, t) ∷ [])) f (distinct-last seen n t d z))
    typed-fault n e l y z (malformed q) h = in_type seen p n e q d z l y (malformed_means max_depth names s (bytes-at s bytes) e q h).0
    typed-fault n e l y z (deep q) h = in_type seen p n e q d z l y (deep_means max_depth names s (bytes-at s bytes) e q h).0

    fresh-fault : (n : ℕ) (e : Place) → n < names → Stand s p (0x50 ∷ n % 256 ∷ n / 256 ∷ []) e.0 → (x : Entry) → lookup seen n ≡ x → FaultBy seen p (fresh_by names s k seen p n e x)
    unfolding fresh_by FaultBy fault_place
    fresh-fault n e l y (holds t) z = at_entry seen p d
    fresh-fault n e l y lacks z = typed-fault n e.0 l y z (type_at max_depth names s e.0) refl

    entry-fault : (w : Option (ℕ × Place)) → EntrySays names s p w → FaultBy seen p (entry_by names s k seen p w)
    unfolding entry_by FaultBy EntrySays fault_place
    entry-fault None x = at_entry seen p d
    entry-fault (Some (n, e)) x = fresh-fault n e x.0 x.1 (lookup seen n) refl

  from-fault : (turns : ℕ) (seen : Entries) (p : ℕ) → Distinct seen → FaultBy seen p (entries_from turns names s seen p)
  unfolding entries_from FaultBy fault_place
  from-fault zero seen p d = go (ltb p (length s))
    where
      go : (c : Bool) → FaultBy seen p (pick c (faulty (Malformed (place p))) (parsed seen))
      go true = at_entry seen p d
      go false = tt
  from-fault (suc turns) seen p d = go (λ es q. entries_from turns names s es q) (from-fault turns) (ltb p (length s))
    where
      go : (k : Entries → ℕ → Parsed Entries) → ((es : Entries) (q : ℕ) → Distinct es → FaultBy es q (k es q)) → (c : Bool) → FaultBy seen p (pick c (entry_by names s k seen p (entry_at names s (place p))) (parsed seen))
      go k rec true = entry-fault k rec seen p d (entry_at names s (place p)) (entry-says names s bytes p)
      go k rec false = tt

module _ (names : ℕ) (s : List ℕ) (bytes : (i : ℕ) → get_or s i 0 < 256) (f : Fault Place) where
  by-more : (x : Parsed Entries) → FaultBy (capped names) s bytes [] 0 x → x ≡ faulty f → EntriesComplete (capped names) s (fault_place f)
  unfolding FaultBy
  by-more (parsed es) r e = absurd (let z : ◌≡◌ {A = ℕ} 0 1 = cc in omega arith)
  by-more too_long r e = absurd (let z : ◌≡◌ {A = ℕ} 0 1 = cc in omega arith)
  by-more (faulty g) r e =
      let z : g ≡ f = cc in
      let q = fault_place g in
      let u = r.upto in
      let i = u.stand.ends in
      let b : s ≡ u.read ++ drop q s = u.stand.bytes in
      let l : length s ≡ length u.read + length (drop q s) = ap length b ∙ length-append u.read (drop q s) in
      let t : take q s ≡ u.read = ap (take q) b ∙ take_at u.read (drop q s) q (let y : length u.read ≡ q = omega arith in y) in
      rw (← z) (record { entries = r.rest; more = u.rest; distinct = r.distinct; shape = r.shape; bytes = ap (λ (x : List ℕ). x ++ u.rest) t ∙ sym u.word; inside = omega arith })

  pub environment_completes : environment_of names s ≡ faulty f → EntriesComplete (capped names) s (fault_place f)
  unfolding environment_of Distinct
  environment_completes e = go (ltb max_bytes (length s)) e
    where
      go : (c : Bool) → pick c too_long (entries_from (length s) (capped names) s [] 0) ≡ faulty f → EntriesComplete (capped names) s (fault_place f)
      go true e = absurd (let z : ◌≡◌ {A = ℕ} 0 1 = cc in omega arith)
      go false e = by-more (entries_from (length s) (capped names) s [] 0) (from-fault (capped names) s bytes (length s) [] 0 tt) e

pub environment-none : (names : ℕ) (s : List ℕ) (f : Fault Place) → environment_of names s ≡ faulty f → (es : Entries) → SpelledEntries names s es → ⊥
environment-none names s f e es w =
    let h = spelled-entries-parsed names s es w in
    let k : faulty f ≡ parsed es = sym e ∙ h in
    let z : ◌≡◌ {A = ℕ} 0 1 = cc in
    omega arith
