-- What the place of a fault means, for a whole stream: the bytes before it begin a well-formed formula (`fault_completes`), limits aside,
-- and the stream itself spells no formula inside the limits (`faulty-none`). So the fault is no earlier than its place.
-- Where no name is known no assignment can be completed, so a name is asked for where the first byte is 0x30 or above.
-- Theorems that rest on what must-fail edits change stand in proofs/FaultPlace.antt.
use Rattle.types.specs.declared.Place.{Place}
use Rattle.std.specs.Prelude.{ℕ, ◌≤◌, List, ◌++◌, length, take}
use Rattle.std.proofs.Math.Path.{◌≡◌}
use Rattle.types.specs.declared.Fault.{Fault}
use Rattle.types.specs.declared.Fault.TheVariants.{Malformed, Beyond}
use Rattle.formula.specs.Tree.{Formula}
use Rattle.formula.specs.Spell.{spell_formula}
use Rattle.formula_laws.specs.Shape.{ShapeFormula}

unfoldable pub fault_place : Fault Place → ℕ
fault_place (Malformed p) = p.0
fault_place (Beyond p) = p.0

-- the bytes before p, with more after them, spell a well-formed formula
pub record Completes (names : ℕ) (s : List ℕ) (p : ℕ) : Type 0 where
  pub formula : Formula
  pub more : List ℕ
  pub shape : ShapeFormula names formula
  pub bytes : take p s ++ more ≡ spell_formula formula
  pub inside : p ≤ length s
