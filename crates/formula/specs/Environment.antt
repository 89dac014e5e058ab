-- An environment: entries with distinct names, what it says of a name, and the bytes that spell it.
-- After this file a reader knows what `Env`, `lookup` and `spell_entries` mean.
use Rattle.std.specs.Prelude.{ℕ, ◌/◌, ◌%◌, ◌≡◌, Bool, true, false, List, [], ◌∷◌, ◌++◌, eqb}
use Rattle.types.specs.Ty as T
use Rattle.types.specs.Ty.{Ty}

-- what an environment says of a name
pub data Entry : Type 0 where
  lacks : Entry
  holds : Ty → Entry

abbrev pub Env : Type 0
Env = ℕ → Entry

-- entries in the order of the stream: name and type
abbrev pub Entries : Type 0
Entries = List (ℕ × Ty)

unfoldable pub first : Bool → Entry → Entry → Entry
first true x y = x
first false x y = y

-- the first entry of that name
unfoldable pub lookup : Entries → Env
unfolding first
lookup [] x = lacks
lookup (e ∷ es) x = first (eqb e.0 x) (holds e.1) (lookup es x)

-- no name twice
unfoldable pub Distinct : Entries → Type 0
Distinct [] = Unit {0}
Distinct (e ∷ es) = (lookup es e.0 ≡ lacks) × Distinct es

-- 50, the name's two bytes, its type
unfoldable pub spell_entry : ℕ × Ty → List ℕ
spell_entry e = 0x50 ∷ e.0 % 256 ∷ e.0 / 256 ∷ T.spell e.1

unfoldable pub spell_entries : Entries → List ℕ
spell_entries [] = []
spell_entries (e ∷ es) = spell_entry e ++ spell_entries es
