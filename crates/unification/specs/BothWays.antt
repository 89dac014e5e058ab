-- One comparison by the rules in both directions, computed: two unknowns, the left one of rank 1. This unifier binds the right one, the Rust the left one, for the
-- same units. So the directions that `Direction` and `Runs` speak of are two.
-- Theorems that rest on what must-fail edits change stand in proofs/BothWays.antt.
use Rattle.std.specs.Prelude.{[], ◌∷◌}
use Rattle.unification.specs.Arena.{Words}

abbrev pub two_ranks : Words
two_ranks = 0x4E ∷ 0 ∷ 1 ∷ 0x4E ∷ 0 ∷ 0 ∷ []

abbrev pub right_bound : Words
right_bound = 0x4E ∷ 0 ∷ 1 ∷ 0x4D ∷ 0 ∷ 0 ∷ []

abbrev pub left_bound_words : Words
left_bound_words = 0x4D ∷ 1 ∷ 1 ∷ 0x4E ∷ 0 ∷ 0 ∷ []
