-- The canonical text of a type, and the fixed byte strings that it is made of.
-- `text` is the one definition that the writer writes and the reader is shown to read back.
use Rattle.std.specs.Prelude.{ℕ, suc, max, List, [], ◌∷◌, ◌++◌, get_or}
use Rattle.types.specs.Ty.{Atom, bool, int, given, Ty, base, pow, prod}
use Rattle.name_table.specs.Table.{boolean}

-- ℤ
abbrev pub integer : List ℕ
integer = 0xE2 ∷ 0x84 ∷ 0xA4 ∷ []

-- ℙ with its opening bracket: one token
abbrev pub power_open : List ℕ
power_open = 0xE2 ∷ 0x84 ∷ 0x99 ∷ 0x28 ∷ []

abbrev pub bracket_open : List ℕ
bracket_open = 0x28 ∷ []

abbrev pub bracket_close : List ℕ
bracket_close = 0x29 ∷ []

-- ×
abbrev pub times : List ℕ
times = 0xC3 ∷ 0x97 ∷ []

-- ---- canonical text, for names in the order of their numbers

unfoldable pub text_atom : List (List ℕ) → Atom → List ℕ
text_atom ns bool = boolean
text_atom ns int = integer
text_atom ns (given n) = get_or ns n []

-- products lean left: only a right operand that is a product is bracketed
unfoldable pub bracketed : Ty → List ℕ → List ℕ
bracketed (prod t u) x = bracket_open ++ (x ++ bracket_close)
bracketed (base a) x = x
bracketed (pow t) x = x

unfoldable pub text : List (List ℕ) → Ty → List ℕ
text ns (base a) = text_atom ns a
text ns (pow t) = power_open ++ (text ns t ++ bracket_close)
text ns (prod t u) = text ns t ++ (times ++ bracketed u (text ns u))

-- the most brackets that are open at an operand of the text
unfoldable pub nest_right : Ty → ℕ → ℕ
nest_right (prod t u) n = suc n
nest_right (base a) n = n
nest_right (pow t) n = n

unfoldable pub nest : Ty → ℕ
nest (base a) = 0
nest (pow t) = suc (nest t)
nest (prod t u) = max (nest t) (nest_right u (nest u))
