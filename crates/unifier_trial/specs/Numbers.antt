-- The host's numbers, read as outcomes of unification and of the test for unknowns: what is left of the budget, and the words, are those at exit.
use Rattle.std.specs.Prelude.{ℕ, Bool, true, false, eqb}
use Rattle.meter.specs.Meter.{Out, spent, halt, done, broken}
use Rattle.unification.specs.Arena.{Words, U, unified, mismatch, circular, Answer}

abbrev pub pick : {A : Type 0} → Bool → A → A → A
pick true a b = a
pick false a b = b

unfoldable pub unified_as : ℕ → ℕ → Words → Out Words Answer
unified_as r left ws =
    pick (eqb r 0) (done (unified, ws) left)
    (pick (eqb r 100) (done (mismatch, ws) left)
    (pick (eqb r 101) (done (circular, ws) left)
    (pick (eqb r 7) (spent ws) (halt broken ws))))

unfoldable pub told_as : ℕ → ℕ → Out U Bool
told_as r left =
    pick (eqb r 0) (done true left)
    (pick (eqb r 1) (done false left)
    (pick (eqb r 7) (spent tt) (halt broken tt)))
