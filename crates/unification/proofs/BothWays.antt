-- The theorems of specs/BothWays.antt: `by_rank`, `as_the_rust`.
use Rattle.std.specs.Prelude.{ℕ, ◌≡◌, refl, false}
use Rattle.std.proofs.Common.{arith}
use Rattle.unification.specs.Arena.{free, node_at, merge_at, left_bound, meet, unified}
use Rattle.unification.specs.ByRule.{ends, at-root, Occurs, absent, Apart, Tells, binds_left}
use Rattle.unification.specs.BothWays.{two_ranks, right_bound, left_bound_words}

apart : Apart two_ranks 2 0 1 (0, free) (1, free) 0
unfolding node_at
apart = record { left_cost = 0; right_cost = 0; left = at-root refl tt; right = at-root refl tt; apart = λ e. omega arith; cost = refl }

not_within : Occurs two_ranks 2 0 1 (ends false) 1
unfolding node_at
not_within = absent {r = 1} {c = 0} {nd = free} (at-root refl tt) (λ (e : ◌≡◌ {A = ℕ} 1 0). omega arith) tt

pub by_rank : Tells merge_at 2 two_ranks 0 1 (ends unified) right_bound 2
unfolding merge_at meet
by_rank = binds_left apart refl not_within

pub as_the_rust : Tells left_bound 2 two_ranks 0 1 (ends unified) left_bound_words 2
unfolding left_bound merge_at meet
as_the_rust = binds_left apart refl not_within
