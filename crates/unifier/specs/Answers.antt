-- How the code's answers are read: each as a node, a task or a verdict, or as an outcome of the definitions of crate `unification`.
--
-- `spent` is number 7, `halt broken` 2, `halt full` 6; `done` has the answer and the budget left.
-- Where a function changes the words, the reading takes them as they are at exit, so that one equation says answer and words.
use Rattle.std.specs.Prelude.{◌≡◌, ℕ, Bool, Option, Some, None, Result, Ok, Err}
use Rattle.meter.specs.Meter.{Out, spent, halt, done, broken}
use Rattle.unification.specs.Arena as S
use Rattle.unification.specs.Tasks as T
use Rattle.unifier.specs.declared.stem.Stem.{Stem}
use Rattle.unifier.specs.declared.Cell.{Cell}
use Rattle.unifier.specs.declared.Cell.TheVariants.{Link, Is}
use Rattle.unifier.specs.declared.Halt.{Halt}
use Rattle.unifier.specs.declared.Halt.TheVariants.{Spent, Broken}
use Rattle.unifier.specs.declared.Reached.{Reached}
use Rattle.unifier.specs.declared.Pair.{Pair}
use Rattle.unifier.specs.declared.Pair.TheVariants as P
use Rattle.unifier.specs.declared.Verdict.{Verdict}
use Rattle.unifier.specs.declared.Verdict.TheVariants as V

unfoldable pub stem_is : Stem → S.Node
stem_is x = S.decode x.kind x.a x.b

unfoldable pub cell_is : Option Cell → S.Node
cell_is (Some (Link t)) = S.link t.0
cell_is (Some (Is x)) = stem_is x
cell_is None = S.bad

abbrev pub task_is : Pair → T.Task
task_is P.Same = T.same
task_is P.Clash = T.differ
task_is (P.Bind v t) = T.bind v.0 t.0
task_is (P.One x y) = T.one x.0 y.0
task_is (P.Two x z y w) = T.two x.0 z.0 y.0 w.0

abbrev pub verdict_is : Verdict → S.Verdict
verdict_is V.Done = S.unified
verdict_is V.Mismatch = S.mismatch
verdict_is V.Circular = S.circular

-- no answer, where the state e stands
abbrev pub halted : {E A : Type 0} → Halt → E → Out E A
halted Spent e = spent e
halted Broken e = halt broken e

unfoldable pub arrived : Result Reached Halt → Out S.U (ℕ × S.Node)
arrived (Ok r) = done (r.at.0, stem_is r.node) r.left
arrived (Err h) = halted h tt

abbrev pub told : Result Bool Halt → ℕ → Out S.U Bool
told (Ok b) l = done b l
told (Err h) l = halted h tt

abbrev pub taken : Result Pair Halt → ℕ → Out S.U T.Task
taken (Ok p) l = done (task_is p) l
taken (Err h) l = halted h tt

abbrev pub settled : Result Verdict Halt → ℕ → S.Words → Out S.Words S.Answer
settled (Ok v) l ws = done (verdict_is v, ws) l
settled (Err h) l ws = halted h ws

-- where there is no answer, the budget is what it was
abbrev pub spared : {A : Type 0} → Result A Halt → ℕ → ℕ → Type 0
spared (Ok a) b l = Unit
spared (Err h) b l = l ≡ b
