-- What an answer of the inference entry is: a number, a place, a length, steps, and the bytes it writes.
-- After this file a reader can write down the bytes of any answer, entry by entry, as the format's records 50, 51 and 60.
use Rattle.std.specs.Prelude.{ℕ, ◌/◌, ◌%◌, List, [], ◌∷◌, ◌++◌, length}
use Rattle.types.specs.Ty.{Ty, spell}

-- ---- problems: the problem's number, its place, and the name of a problem 3
pub record Problem : Type 0 where
  pub kind : ℕ
  pub place : ℕ
  pub name : ℕ

-- what stands for no name
abbrev pub nameless : ℕ
nameless = 0xFFFF

-- a number in two bytes and in four, the lowest first
unfoldable pub two : ℕ → List ℕ
two n = n % 256 ∷ n / 256 % 256 ∷ []

unfoldable pub four : ℕ → List ℕ
four n = n % 256 ∷ n / 256 % 256 ∷ n / 65536 % 256 ∷ n / 16777216 % 256 ∷ []

-- 60: the problem's number, its place, its name
unfoldable pub spell_problem : Problem → List ℕ
spell_problem q = 0x60 ∷ q.kind ∷ (four q.place ++ two q.name)

unfoldable pub spell_problems : List Problem → List ℕ
spell_problems [] = []
spell_problems (q ∷ qs) = spell_problem q ++ spell_problems qs

-- 51: a slot's place and its type
unfoldable pub spell_slot : ℕ × Ty → List ℕ
spell_slot s = 0x51 ∷ (four s.0 ++ spell s.1)

unfoldable pub spell_slots : List (ℕ × Ty) → List ℕ
spell_slots [] = []
spell_slots (s ∷ ss) = spell_slot s ++ spell_slots ss

-- ---- answers
pub record Answer : Type 0 where
  pub number : ℕ
  pub place : ℕ
  pub size : ℕ  -- the length
  pub steps : ℕ
  pub bytes : List ℕ

-- a refusal has a number and a place, and nothing else
unfoldable pub refused : ℕ → ℕ → Answer
refused number place = record { number = number; place = place; size = 0; steps = 0; bytes = [] }

-- an answer that is written: number 0 or 1, after so many steps
unfoldable pub written : ℕ → ℕ → List ℕ → Answer
written number steps bytes = record { number = number; place = 0; size = length bytes; steps = steps; bytes = bytes }
