-- Type records in a stream: what stands at a place.
-- `type_at` reads one record with its parts, at any place of any bytes; `specs/Spellings` says that it finds exactly the spellings of types.
use Rattle.std.specs.Prelude.{ℕ, zero, suc, ◌+◌, ◌*◌, Bool, true, false, List, [], ◌∷◌, take, drop, ltb, eqb}
use Rattle.types.specs.Ty.{Atom, bool, int, given, Ty, base, pow, prod}

-- the bytes that a place can number: whatever follows them is as if it were not there
unfoldable pub reach : List ℕ → List ℕ
reach s = take 4294967295 s

-- what a record begins with, and the place after its body
pub data Head : Type 0 where
  atomic : Atom → ℕ → Head
  power : ℕ → Head
  product : ℕ → Head
  wrong : Head

abbrev pub pick : {A : Type 0} → Bool → A → A → A
pick true a b = a
pick false a b = b

-- a given set's name, in the two bytes that go on: it must be below the count of names
unfoldable pub given_of : ℕ → ℕ → List ℕ → Head
given_of names p [] = wrong
given_of names p (lo ∷ []) = wrong
given_of names p (lo ∷ hi ∷ l) = pick (ltb (lo + hi * 256) names) (atomic (given (lo + hi * 256)) (p + 3)) wrong

-- the record at place p, where the bytes go on with a list
unfoldable pub head_of : ℕ → ℕ → List ℕ → Head
head_of names p [] = wrong
head_of names p (k ∷ l) =
    pick (eqb k 0x40) (atomic bool (p + 1))
    (pick (eqb k 0x41) (atomic int (p + 1))
    (pick (eqb k 0x42) (given_of names p l)
    (pick (eqb k 0x43) (power (p + 1))
    (pick (eqb k 0x44) (product (p + 1)) wrong))))

-- a type and the place after its record; or the first fault: a record that is malformed, or one that lies too deep
pub data TypeAt : Type 0 where
  got : Ty → ℕ → TypeAt
  malformed : ℕ → TypeAt
  deep : ℕ → TypeAt

unfoldable pub and_then : TypeAt → (Ty → ℕ → TypeAt) → TypeAt
and_then (got t e) f = f t e
and_then (malformed p) f = malformed p
and_then (deep p) f = deep p

-- no level is left: a record that is well formed itself is too deep, and its parts do not matter
unfoldable pub deep_by : ℕ → Head → TypeAt
deep_by p wrong = malformed p
deep_by p (atomic a e) = deep p
deep_by p (power e) = deep p
deep_by p (product e) = deep p

-- a record by its head, where rd reads a part
unfoldable pub type_by : (ℕ → TypeAt) → ℕ → Head → TypeAt
type_by rd p wrong = malformed p
type_by rd p (atomic a e) = got (base a) e
type_by rd p (power e) = and_then (rd e) λ t f. got (pow t) f
type_by rd p (product e) = and_then (rd e) λ t f. and_then (rd f) λ u g. got (prod t u) g

-- the type record at place p of the bytes s, in at most `left` levels of records, this one included:
-- 65 for a type on its own, since its record counts depth 0 and 64 is the last depth allowed
unfoldable pub type_at : ℕ → ℕ → List ℕ → ℕ → TypeAt
type_at zero names s p = deep_by p (head_of names p (drop p s))
type_at (suc left) names s p = type_by (type_at left names s) p (head_of names p (drop p s))
