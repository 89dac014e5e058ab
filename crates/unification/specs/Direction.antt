-- Which of two unknowns is bound changes nothing that is answered.
--
-- A direction is any rule that makes an unknown and another node one by a single binding, of the unknown or, where the other is an unknown too, of that one
-- (`OneBinding`): this unifier's `merge_at`, the Rust's `left_bound`, or another. `tells-outcome`: whatever the direction, a derivation's success admits precisely the
-- earlier assignments that equate the two references, and its failure is given only where none does. `follows_suit`: from arenas that admit the same assignments,
-- what the rules derive by one direction they derive by every other, with the same verdict, mismatch and circularity told apart, and arenas that admit the same
-- again. Only the price may differ.
-- Theorems that rest on what must-fail edits change stand in proofs/Direction.antt.
use Rattle.std.specs.Prelude.{ℕ, ◌*◌, ◌≤◌, ◌<◌, length}
use Rattle.std.proofs.Math.Path.{◌≡◌}
use Rattle.unification.specs.Arena.{Node, Words, node_at, Direction, Verdict}
use Rattle.unification.specs.Good.{Assignment, Good, Root}
use Rattle.unification.specs.Merge.{Merged}
use Rattle.unification.specs.Unifies.{Allows}
use Rattle.unification.specs.ByRule.{ends, Tells}
use Rattle.unification.specs.Shapes.{Same}

-- ---- directions
abbrev pub OneBinding : Direction → Type 0
OneBinding by = (ws : Words) (n v t : ℕ) → 3 * n ≤ length ws → v < n → t < n → Merged n ws v t (by ws n v t)

-- ---- what the rules of following and of the occurs check say in an arena in solved form
module _ (n : ℕ) (ws : Words) (G : Good n (node_at ws n)) where
  pub record Reaches (t : ℕ) (o : ℕ × Node) : Type 0 where
    pub inside : o.0 < n
    pub node : node_at ws n o.0 ≡ o.1
    pub root : Root o.1
    pub tree : G.tree o.0 ≡ G.tree t
    pub equal : (σ : Assignment) → Allows n ws σ → σ t ≡ σ o.0

-- ---- what is derived by one direction is derived by another
module _ (by by' : Direction) (one : OneBinding by) (one' : OneBinding by') (n : ℕ) where
  -- the same verdict from the words us, and words that admit what ws' admit
  pub record Also (us : Words) (a b : ℕ) (v : Verdict) (ws' : Words) : Type 0 where
    pub words : Words
    pub price : ℕ
    pub told : Tells by' n us a b (ends v) words price
    pub same : Same n ws' words
