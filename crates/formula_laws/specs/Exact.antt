-- A stream is accepted exactly if it is the spelling of a formula inside the limits; that formula is unique, and its places are the offsets of its records.
-- `parse_of` yields it, and `check_formula` answers Good exactly there: its contract is `form_of (parse_of names s)`.
-- Theorems that rest on what must-fail edits change stand in proofs/Exact.antt.
use Rattle.std.specs.Prelude.{ℕ, ◌≤◌, length}
use Rattle.std.proofs.Math.Path.{◌≡◌}
use mathlib.Core.List.{List}
use Rattle.formula.specs.Tree.{Formula}
use Rattle.formula.specs.Spell.{spell_formula, PlacedFormula}
use Rattle.types.specs.Limits.{max_bytes}
use Rattle.formula_laws.specs.Fits.{FitsFormula}

-- the stream s is the spelling of the formula a, inside the limits
pub record Spelled (names : ℕ) (s : List ℕ) (a : Formula) : Type 0 where
  pub short : length s ≤ max_bytes
  pub bytes : s ≡ spell_formula a
  pub placed : PlacedFormula 0 a
  pub fits : FitsFormula names a
