-- The table's own numbers: how many operators each kind of record has, and the fewest children that a record may have.
use Rattle.std.specs.Prelude.{ℕ}

-- ---- operators of a kind of record

abbrev pub atomic_operators : ℕ
atomic_operators = 12

abbrev pub binary_operators : ℕ
binary_operators = 27

abbrev pub associative_operators : ℕ
associative_operators = 7

abbrev pub unary_operators : ℕ
unary_operators = 11

abbrev pub quantifiers : ℕ
quantifiers = 3

abbrev pub relations : ℕ
relations = 12

-- ---- the fewest children

-- of an extension and of a multiple predicate
abbrev pub least_listed : ℕ
least_listed = 1

-- of an associative expression and of a junction
abbrev pub least_joined : ℕ
least_joined = 2
