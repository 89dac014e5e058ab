-- How the writer's answers are read: each case as an outcome of `put` of crate `unification`, with the page as it is at exit.
use Rattle.std.specs.Prelude.{◌≡◌, ℕ, Result, Ok, Err}
use Rattle.meter.specs.Meter.{Out, spent, halt, done, broken, full}
use Rattle.unification.specs.Put.{Page, Sheet}
use Rattle.unifier.specs.declared.Halt.{Halt}
use Rattle.unifier.specs.declared.Halt.TheVariants as H
use Rattle.write.specs.declared.WriteError.{WriteError}
use Rattle.write.specs.declared.WriteError.TheVariants.{Full, Spent, Broken}

abbrev pub error_of : Halt → WriteError
error_of H.Spent = Spent
error_of H.Broken = Broken

abbrev pub laid : Result ℕ WriteError → ℕ → Page → Out Page Sheet
laid (Ok at) l p = done (at, p) l
laid (Err Full) l p = halt full p
laid (Err Spent) l p = spent p
laid (Err Broken) l p = halt broken p

-- where nothing is answered, the budget is what it was
abbrev pub spared : Result ℕ WriteError → ℕ → ℕ → Type 0
spared (Ok at) b l = Unit
spared (Err e) b l = l ≡ b
