-- Types, their depth, and the records that spell them.
-- After this file a reader knows what a type is, which bytes spell it, and when its given names lie below a count of names.
use Rattle.std.specs.Prelude.{ℕ, suc, ◌/◌, ◌%◌, ◌<◌, max, List, [], ◌∷◌, ◌++◌}

-- a type without parts; a given set is known by its name's number
pub data Atom : Type 0 where
  bool : Atom
  int : Atom
  given : ℕ → Atom

pub data Ty : Type 0 where
  base : Atom → Ty
  pow : Ty → Ty
  prod : Ty → Ty → Ty

-- how deep the deepest record lies below the type's own, which counts 0
unfoldable pub depth : Ty → ℕ
depth (base a) = 0
depth (pow t) = suc (depth t)
depth (prod t u) = suc (max (depth t) (depth u))

-- ---- records: a byte of kind, a name's two bytes (the lower first), then the parts

unfoldable pub spell_atom : Atom → List ℕ
spell_atom bool = 0x40 ∷ []
spell_atom int = 0x41 ∷ []
spell_atom (given n) = 0x42 ∷ n % 256 ∷ n / 256 ∷ []

unfoldable pub spell : Ty → List ℕ
spell (base a) = spell_atom a
spell (pow t) = 0x43 ∷ spell t
spell (prod t u) = 0x44 ∷ (spell t ++ spell u)

-- ---- each given name is below the count of names

pub data AtomBelow (names : ℕ) : Atom → Type 0 where
  bool-below : AtomBelow names bool
  int-below : AtomBelow names int
  given_below : {n : ℕ} → n < names → AtomBelow names (given n)

unfoldable pub Below : ℕ → Ty → Type 0
Below names (base a) = AtomBelow names a
Below names (pow t) = Below names t
Below names (prod t u) = Below names t × Below names u
