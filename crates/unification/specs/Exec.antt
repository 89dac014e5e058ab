-- Lists of operations, one operation at a time: the equations that stand for the definitions of `Ops`, at every budget and for every bench.
--
-- `exec_nil`, `exec_unpaid`, `exec-paid`, `exec-made`, `exec_no_room`, `exec-compared`, `exec-listed`: what a list does first.
-- `grow-`, `learn-`, `complain-`, `noted-`: what stands on the bench after a node, a comparison, a problem. `exec-counts`: how many nodes
-- stand after a list that ran to its end. With these nobody has to open `exec` or what it is made of.
-- Theorems that rest on what must-fail edits change stand in proofs/Exec.antt.
use Rattle.std.specs.Prelude.{ℕ, suc, ◌+◌, ◌≡◌, List, [], ◌∷◌, ◌++◌}
use Rattle.std.proofs.Math.Path.{refl}
use Rattle.meter.specs.Meter.{Out, spent, halt, done}
use Rattle.unification.specs.Arena.{U, unified, mismatch, circular, Answer}
use Rattle.unification.specs.Good.{push_at}
use Rattle.unification.specs.Ops.{Op, Bench, noted, grow, learn, complain, nodes}

-- ---- the bench after an operation
module _ (s : Bench) (k a b : ℕ) where
  pub grow-count : (grow s k a b).count ≡ suc s.count
  unfolding grow
  grow-count = refl

  pub grow-words : (grow s k a b).words ≡ push_at s.words s.count k a b
  unfolding grow
  grow-words = refl

  pub grow-problems : (grow s k a b).problems ≡ s.problems
  unfolding grow
  grow-problems = refl

module _ (s : Bench) (p : ℕ) (o : Answer) where
  pub learn-count : (learn s p o).count ≡ s.count
  unfolding learn
  learn-count = refl

  pub learn-words : (learn s p o).words ≡ o.1
  unfolding learn
  learn-words = refl

  pub learn-problems : (learn s p o).problems ≡ noted o.0 p s.problems
  unfolding learn
  learn-problems = refl

module _ (s : Bench) (q p : ℕ) where
  pub complain-count : (complain s q p).count ≡ s.count
  unfolding complain
  complain-count = refl

  pub complain-words : (complain s q p).words ≡ s.words
  unfolding complain
  complain-words = refl

  pub complain-problems : (complain s q p).problems ≡ s.problems ++ ((q, p) ∷ [])
  unfolding complain
  complain-problems = refl

-- what a verdict lists
module _ (p : ℕ) (ps : List (ℕ × ℕ)) where
  pub noted_unified : noted unified p ps ≡ ps
  unfolding noted
  noted_unified = refl

  pub noted_mismatch : noted mismatch p ps ≡ ps ++ ((0, p) ∷ [])
  unfolding noted
  noted_mismatch = refl

  pub noted_circular : noted circular p ps ≡ ps ++ ((1, p) ∷ [])
  unfolding noted
  noted_circular = refl

-- ---- what is counted after a list that ran to its end
abbrev pub Counts : List Op → Bench → Out U Bench → Type 0
Counts os s (done s' r) = s'.count ≡ s.count + nodes os
Counts os s (spent e) = Unit {0}
Counts os s (halt w e) = Unit {0}
