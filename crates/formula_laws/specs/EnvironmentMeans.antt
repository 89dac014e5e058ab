-- What the number of an environment's fault means. `Enters`: from the start up to a place stand entries of distinct names, each type inside the limits.
-- `EntryFault`: no entry stands there; or its name has an entry already; or its type has a malformed record, or a well-formed one at depth 65.
-- Only the last is told as a limit. `environment-told` and `told-environment` say it exactly: an environment that is not too long has the fault of the
-- entry at which it stops, and no other (`environment_beyond_means` reads the limit off).
-- Theorems that rest on what must-fail edits change stand in proofs/EnvironmentMeans.antt.
use Prim.Native.Nat.{ℕ, ◌<◌}
use Rattle.std.proofs.Math.Path.{◌≡◌}
use Rattle.std.specs.Prelude.{◌≢◌, get_or, drop, Some, None}
use mathlib.Core.List.{List, [], ◌∷◌, ◌++◌}
use Rattle.std.proofs.Math.ListN.{length}
use Rattle.types.specs.declared.Place.{Place}
use Rattle.types.specs.Ty.{Ty}
use Rattle.types.specs.Record.{wrong, head_of, got, type_at}
use Rattle.types.specs.Faults.{level, Leads}
use Rattle.types.specs.Limits.{max_depth}
use Rattle.types.specs.declared.Fault.{Fault}
use Rattle.types.specs.declared.Fault.TheVariants.{Malformed, Beyond}
use Rattle.formula.specs.Environment.{lacks, holds, Entries, lookup}
use Rattle.heads.specs.Heads.{place}
use Rattle.formula.specs.EnvParse.{entry_at, capped}

module _ (names : ℕ) (s : List ℕ) where
  -- the entries seen stand before p
  pub data Enters : Entries → ℕ → Type 0 where
    at_start : Enters [] 0
    after_entry : {seen : Entries} {p n f : ℕ} {e : Place} {t : Ty} → Enters seen p → entry_at names s (place p) ≡ Some (n, e) → lookup seen n ≡ lacks → type_at max_depth names s e.0 ≡ got t f → Enters (seen ++ ((n, t) ∷ [])) f

  -- the fault of the entry at p, after those seen; an entry has depth 0, its type depth 1
  pub data EntryFault (seen : Entries) (p : ℕ) : Fault Place → Type 0 where
    no_entry : p < length s → entry_at names s (place p) ≡ None → EntryFault seen p (Malformed (place p))
    second-entry : {n : ℕ} {e : Place} {t : Ty} → entry_at names s (place p) ≡ Some (n, e) → lookup seen n ≡ holds t → EntryFault seen p (Malformed (place p))
    bad-type : {n q : ℕ} {e : Place} → entry_at names s (place p) ≡ Some (n, e) → lookup seen n ≡ lacks → Leads max_depth names s e.0 q → head_of names q (drop q s) ≡ wrong → EntryFault seen p (Malformed (place q))
    deep-type : {n q : ℕ} {e : Place} → entry_at names s (place p) ≡ Some (n, e) → lookup seen n ≡ lacks → (l : Leads max_depth names s e.0 q) → level l.way ≡ max_depth → head_of names q (drop q s) ≢ wrong → EntryFault seen p (Beyond (place q))

  pub record Stops (f : Fault Place) : Type 0 where
    pub seen : Entries
    pub entry : ℕ
    pub enters : Enters seen entry
    pub fault : EntryFault seen entry f

-- ---- whole environments
module _ (names : ℕ) (s : List ℕ) (bytes : (i : ℕ) → get_or s i 0 < 256) where
  -- a limit: the entry stands and its name is new; in its type a well-formed record lies 64 records deep, at depth 65 with the entry
  pub record DeepType (p : Place) : Type 0 where
    pub seen : Entries
    pub entry : ℕ
    pub enters : Enters (capped names) s seen entry
    pub name : ℕ
    pub type : Place
    pub stands : entry_at (capped names) s (place entry) ≡ Some (name, type)
    pub fresh : lookup seen name ≡ lacks
    pub leads : Leads max_depth (capped names) s type.0 p.0
    pub depth : level leads.way ≡ max_depth
    pub well : head_of (capped names) p.0 (drop p.0 s) ≢ wrong
