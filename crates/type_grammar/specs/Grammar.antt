-- The texts that denote a type: canonical text with any number of extra brackets.
-- `Denotes` is the grammar that the reader is held to. It knows nothing of tokens, places or the order of reading.
use Rattle.std.specs.Prelude.{ℕ, suc, List, ◌++◌, length}
use Rattle.types.specs.Ty.{Atom, Ty, base, pow, prod, AtomBelow}
use Rattle.type_grammar.specs.Text.{power_open, bracket_open, bracket_close, times, text_atom}

-- where a text stands: whole, as in a text of its own or between brackets; or as an operand of ×
pub data Sort : Type 0 where
  whole : Sort
  operand : Sort

-- Denotes ns p d x t: as a p, where d more brackets may be opened, the bytes x denote the type t
pub data Denotes (ns : List (List ℕ)) : Sort → ℕ → List ℕ → Ty → Type 0 where
  leaf : {d : ℕ} {a : Atom} → AtomBelow (length ns) a → Denotes ns operand d (text_atom ns a) (base a)
  in_power : {d : ℕ} {x : List ℕ} {t : Ty} → Denotes ns whole d x t → Denotes ns operand (suc d) (power_open ++ (x ++ bracket_close)) (pow t)
  in_brackets : {d : ℕ} {x : List ℕ} {t : Ty} → Denotes ns whole d x t → Denotes ns operand (suc d) (bracket_open ++ (x ++ bracket_close)) t
  single : {d : ℕ} {x : List ℕ} {t : Ty} → Denotes ns operand d x t → Denotes ns whole d x t
  further : {d : ℕ} {x y : List ℕ} {t u : Ty} → Denotes ns whole d x t → Denotes ns operand d y u → Denotes ns whole d (x ++ (times ++ y)) (prod t u)
