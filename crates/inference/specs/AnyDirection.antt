-- Which of two unknowns is bound is nowhere to be seen in an answer.
--
-- `outcome-found`: let a formula's operations be run by the unifier's rules in any direction, that of the Rust (which binds the left one) or another, and let the
-- finish be asked over the arena that this leaves. From some budget on it answers, and what it answers is `outcome`, the one that `infer_of` gives: the same types, or
-- the same problems in the same order at the same places. `outcome-run`: there is such a run. (What may differ is the price.)
-- Theorems that rest on what must-fail edits change stand in proofs/AnyDirection.antt.
use Prim.Native.Nat.{◌+◌, ◌*◌}
use Rattle.std.proofs.Common.{arith}
use Rattle.meter.specs.Meter.{Exact}
use Rattle.formula.specs.Environment.{Env}
use Rattle.formula.specs.Tree.{Formula}
use Rattle.unification.specs.Arena.{U, Direction}
use Rattle.unification.specs.Trees.{var}
use Rattle.unification.specs.Ops.{Bench, Ran, exec}
use Rattle.unification.specs.Direction.{OneBinding}
use Rattle.unification.specs.Runs.{Runs, over}
use Rattle.unification.proofs.Runs.{some-run}
use Rattle.walk.specs.Walk.{walked}
use Rattle.walk.specs.Verdict.{start}
use Rattle.walk.proofs.Verdict.{walk_runs}
use Rattle.inference.specs.Infer.{zeros}
use Rattle.inference.specs.Conclude.{size, safe, long}

-- ---- the outcome of a formula
module _ (Γ : Env) (f : Formula) where
  abbrev pub empty : Bench
  empty = start (zeros (3 * size Γ f))

  pub walk : Exact (λ _. U) (Ran (size Γ f) empty (walked Γ f).ops) (exec (size Γ f) (walked Γ f).ops empty)
  walk = walk_runs Γ f (size Γ f) (zeros (3 * size Γ f)) (long Γ f) (omega arith)

  -- the formula's operations, run from an empty arena by the rules in this direction, leave t
  abbrev pub Leaves : Direction → Bench → Type 0
  Leaves by t = Runs by (walked Γ f).ops (start (zeros (3 * size Γ f))) t

  module _ (by : Direction) (one : OneBinding by) where
    pub outcome-run : (t : Bench) × Leaves by t
    unfolding start
    outcome-run =
        let r = long Γ f in
        let z = some-run by one (size Γ f) (walked Γ f).ops empty (long Γ f) (record { tree = λ x. var x; rank = λ x. 0; fits = λ x l. absurd (omega arith) }) (safe Γ f).0 (omega arith) (walk.cost + 0) walk.answer 0 (walk.enough 0) in
        (over walk.answer z.0, z.1)
