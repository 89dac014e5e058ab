-- How a lifting's answers are read: each case as an outcome of `lift_of` of crate `unification`, with the words as they are at exit. Lifting pays nothing.
use Rattle.std.specs.Prelude.{ℕ, Result, Ok, Err}
use Rattle.meter.specs.Meter.{M, ret, fail, broken, full}
use Rattle.types.specs.declared.NodeRef.{NodeRef}
use Rattle.unification.specs.Arena.{Words}
use Rattle.unification.specs.Lift.{Raised}
use Rattle.makers.specs.declared.MakeError.{MakeError}
use Rattle.makers.specs.declared.MakeError.TheVariants.{Full, Broken}

abbrev pub raised : Result (NodeRef × ℕ) MakeError → Words → M Words Raised
raised (Ok o) ws = ret (o.0.0, o.1, ws)
raised (Err Full) ws = fail full ws
raised (Err Broken) ws = fail broken ws
