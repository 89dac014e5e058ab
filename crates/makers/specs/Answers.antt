-- How a maker's answer is read: as an outcome of the definitions of crate `unification`.
--
-- `halt full` is number 6, `halt broken` 2. The reading takes the words as they are at exit, so that one equation says answer and words.
use Rattle.std.specs.Prelude.{ℕ, Result, Ok, Err}
use Rattle.meter.specs.Meter.{broken, full, M, ret, fail}
use Rattle.unification.specs.Arena as S
use Rattle.types.specs.declared.NodeRef.{NodeRef}
use Rattle.makers.specs.declared.MakeError.{MakeError}
use Rattle.makers.specs.declared.MakeError.TheVariants as Ma

-- a maker pays nothing: the outcome at every budget
abbrev pub made : Result NodeRef MakeError → S.Words → M S.Words (ℕ × S.Words)
made (Ok t) ws = ret (t.0, ws)
made (Err Ma.Full) ws = fail full ws
made (Err Ma.Broken) ws = fail broken ws
