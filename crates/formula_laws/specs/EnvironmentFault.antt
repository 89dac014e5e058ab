-- What the place of an environment's fault means: the bytes before it begin the spelling of entries with distinct names, limits on depth aside
-- (`environment_completes`), and the stream itself spells no environment inside the limits (`environment-none`).
-- Theorems that rest on what must-fail edits change stand in proofs/EnvironmentFault.antt.
use Prim.Native.Nat.{ℕ, ◌≤◌, ◌<◌}
use Rattle.std.proofs.Math.Path.{◌≡◌}
use Rattle.std.specs.Prelude.{get_or}
use mathlib.Core.List.{List, [], ◌∷◌, ◌++◌}
use Rattle.std.proofs.Math.ListN.{length, take}
use Rattle.types.specs.Ty as T
use Rattle.formula.specs.Environment.{Entries, Distinct, spell_entries}
use Rattle.formula_laws.specs.Faults.{UpTo}

-- each name below the count, in entries and types
unfoldable pub ShapeEntries : ℕ → Entries → Type 0
ShapeEntries names [] = Unit {0}
ShapeEntries names (e ∷ es) = (e.0 < names) × T.Below names e.1 × ShapeEntries names es

pub record EntriesComplete (names : ℕ) (s : List ℕ) (p : ℕ) : Type 0 where
  pub entries : Entries
  pub more : List ℕ
  pub distinct : Distinct entries
  pub shape : ShapeEntries names entries
  pub bytes : take p s ++ more ≡ spell_entries entries
  pub inside : p ≤ length s

module _ (names : ℕ) (s : List ℕ) (bytes : (i : ℕ) → get_or s i 0 < 256) where
  -- after the entries seen, the bytes from p up to q begin these
  pub record More (seen : Entries) (p q : ℕ) : Type 0 where
    pub rest : Entries
    pub distinct : Distinct (seen ++ rest)
    pub shape : ShapeEntries names rest
    pub upto : UpTo s p q (spell_entries rest)
