-- An environment is accepted exactly if its bytes are the spelling of entries with distinct names inside the limits; those entries are unique.
-- Theorems that rest on what must-fail edits change stand in proofs/ExactEnvironment.antt.
use Rattle.types.specs.declared.Place.{Place}
use Prim.Native.Nat.{ℕ, ◌/◌, ◌%◌, ◌≤◌, ◌<◌}
use native.Mathlib.Omega.{arith}
use Rattle.std.proofs.Math.Path.{◌≡◌, refl, sym}
use Rattle.std.proofs.Common.{◌∙◌}
use Rattle.std.specs.Prelude.{Bool, get_or, eqb, Option, Some, None}
use Rattle.std.proofs.Math.Bool.{true, false}
use mathlib.Core.List.{List, [], ◌∷◌, ◌++◌}
use Rattle.std.proofs.Math.ListN.{length, drop}
use Rattle.std.proofs.lemmas.Bool.{eqb-false}
use Rattle.types.specs.Ty.{Ty}
use Rattle.formula.specs.Environment.{lacks, holds, Entries, first, lookup, Distinct, spell_entries}
use Rattle.formula.specs.EnvParse.{capped}
use Rattle.formula.specs.EnvSteps.{lookup-other}
use Rattle.types.specs.Limits.{max_bytes}
use Rattle.formula_laws.specs.Fits.{FitsTy}
use Rattle.formula_laws.specs.Says.{Stand}

-- each name below the count, each type inside the limits: an entry has depth 0, its type's record depth 1
unfoldable pub FitsEntries : ℕ → Entries → Type 0
FitsEntries names [] = Unit {0}
FitsEntries names (e ∷ es) = (e.0 < names) × FitsTy names 1 e.1 × FitsEntries names es

-- the stream s is the spelling of the entries es, inside the limits
pub record SpelledEntries (names : ℕ) (s : List ℕ) (es : Entries) : Type 0 where
  pub short : length s ≤ max_bytes
  pub bytes : s ≡ spell_entries es
  pub distinct : Distinct es
  pub fits : FitsEntries (capped names) es

-- ---- distinct names
pub differs : (e : ℕ × Ty) (es : Entries) (n : ℕ) → lookup (e ∷ es) n ≡ lacks → (e.0 ≡ n → ⊥) × (lookup es n ≡ lacks)
unfolding lookup first
differs e es n h = go (eqb e.0 n) refl h
  where
    go : (c : Bool) → eqb e.0 n ≡ c → first c (holds e.1) (lookup es n) ≡ lacks → (e.0 ≡ n → ⊥) × (lookup es n ≡ lacks)
    go true k h = absurd (let z : ◌≡◌ {A = ℕ} 0 1 = cc in omega arith)
    go false k h = (eqb-false e.0 n k, h)

pub distinct-last : (es : Entries) (n : ℕ) (t : Ty) → Distinct es → lookup es n ≡ lacks → Distinct (es ++ ((n, t) ∷ []))
unfolding Distinct lookup
distinct-last [] n t d h = (refl, tt)
distinct-last (e ∷ es) n t d h =
    let k = differs e es n h in
    (lookup-other es n t e.0 (λ z. k.0 (sym z)) ∙ d.0, distinct-last es n t d.1 k.1)

-- ---- an entry's head
unfoldable pub EntrySays : ℕ → List ℕ → ℕ → Option (ℕ × Place) → Type 0
EntrySays names s p None = Unit {0}
EntrySays names s p (Some (n, e)) = (n < names) × Stand s p (0x50 ∷ n % 256 ∷ n / 256 ∷ []) e.0

-- ---- what is parsed is spelled
module _ (names : ℕ) (s : List ℕ) (bytes : (i : ℕ) → get_or s i 0 < 256) where
  -- the entries after those seen
  pub record Rest (seen : Entries) (p : ℕ) (es : Entries) : Type 0 where
    pub rest : Entries
    pub split : es ≡ seen ++ rest
    pub spelled : drop p s ≡ spell_entries rest
    pub distinct : Distinct es
    pub fits : FitsEntries names rest
