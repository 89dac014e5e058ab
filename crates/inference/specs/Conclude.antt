-- Where the nodes fit, a conclusion is reached: it has one outcome and one price, whatever the capacity and the budget.
-- Where they do not fit, the capacity is used up from some budget on, and below it the budget is spent.
-- After this file a reader knows when the walk and the finish end by 6, by 7, or with an outcome; that no reference of theirs leaves
-- the arena, so that the layer's own 2 never comes up; and what the outcome says of the assignments that the arena admits.
-- Theorems that rest on what must-fail edits change stand in proofs/Conclude.antt.
use Rattle.std.specs.Prelude.{ℕ, ◌+◌, ◌*◌, ◌≤◌, ◌<◌, ◌≡◌, length}
use Rattle.std.proofs.Common.{arith}
use mathlib.Core.List.{List, [], ◌∷◌, ◌++◌}
use Rattle.std.proofs.lemmas.List.{length-replicate}
use Rattle.meter.specs.Meter.{Out, spent, halt, done, full}
use Rattle.types.specs.Ty.{Ty}
use Rattle.formula.specs.Environment.{Env}
use Rattle.formula.specs.Tree.{Formula}
use Rattle.unification.specs.Arena.{U, node_at}
use Rattle.unification.specs.Good.{Assignment, Admits}
use Rattle.unification.specs.Ops.{Bench, Ran, Sound, nodes}
use Rattle.walk.specs.Writer.{Row}
use Rattle.walk.specs.Walk.{walked}
use Rattle.walk.specs.Safe.{RowIn, SlotsIn}
use Rattle.walk.proofs.Safe.{safe-formula}
use Rattle.walk.specs.Whole.{none_found}
use Rattle.walk.specs.Verdict.{start}
use Rattle.inference.specs.Answer.{Problem}
use Rattle.inference.specs.Finish.{Finding, found, unsolved, Question, Findings, noted, names, slots, Outcome, failed, settled, walk_problems}
use Rattle.inference.specs.Infer.{zeros}

-- ---- what a test finds, in terms of the assignments that are admitted
-- a type that all of them give; or there are two that differ
abbrev pub Judge : (Assignment → Type 0) → ℕ → Finding → Type 0
Judge A t (found T) = (σ : Assignment) → A σ → σ t ≡ T
Judge A t unsolved = ((σ σ' : Assignment) → A σ → A σ' → σ t ≡ σ' t) → ⊥

-- ---- findings question by question
pub data Told (J : ℕ → Finding → Type 0) : List Question → Findings → Type 0 where
  told_none : Told J [] (record { types = []; problems = [] })
  told : {q : Question} {qs : List Question} {x : Finding} {f : Findings} → J q.ref x → Told J qs f → Told J (q ∷ qs) (noted q x f)

-- ---- the finish: what an outcome says, s being the arena after the walk
module _ (s : Bench) where
  abbrev pub Judged : ℕ → Finding → Type 0
  Judged = Judge (λ σ. Admits s.count (node_at s.words s.count) σ)

  -- slots are tested where nothing is listed
  abbrev pub SlotsTold : List Problem → List (ℕ × Ty) → List (ℕ × ℕ) → Outcome → Type 0
  SlotsTold [] entries ss o = (g : Findings) × Told Judged (slots ss) g × (o ≡ settled g.problems entries g.types)
  SlotsTold (p ∷ ps) entries ss o = o ≡ failed (p ∷ ps)

  abbrev pub Finished : Env → Row → List (ℕ × ℕ) → Outcome → Type 0
  Finished Γ row ss o = (f : Findings) × Told Judged (names Γ row) f × SlotsTold (walk_problems s.problems ++ f.problems) f.types ss o

-- ---- the conclusion
module _ (Γ : Env) (f : Formula) where
  -- how many nodes the walk makes
  abbrev pub size : ℕ
  size = nodes (walked Γ f).ops

  pub safe : Sound 0 (walked Γ f).ops × RowIn (0 + size) (walked Γ f).row × SlotsIn (0 + size) (walked Γ f).slots × Unit {0}
  unfolding walked
  safe = (safe-formula Γ f).safe 0 (omega arith) [] (λ x r e. absurd (none_found x r e))

  -- the arena after the walk, and what is made of it
  abbrev pub Concluded : Outcome → Type 0
  Concluded o = (s : Bench) × Ran size (start (zeros (3 * size))) (walked Γ f).ops s × Finished s Γ (walked Γ f).row (walked Γ f).slots o

  pub long : 3 * size ≤ length (zeros (3 * size))
  long = rw (length-replicate {A = ℕ} (3 * size) 0) (omega arith)

  -- at every capacity and budget: spent, full where the nodes do not fit, or an outcome where they do; never broken
  pub data Ended (capacity : ℕ) : Out U Outcome → Type 0 where
    ended-spent : Ended capacity (spent tt)
    ended_full : capacity < size → Ended capacity (halt full tt)
    ended-done : size ≤ capacity → (o : Outcome) (left : ℕ) → Concluded o → Ended capacity (done o left)
