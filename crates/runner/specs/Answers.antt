-- What each case of the answer means: its number, place, length and steps. Every promise about inference speaks through `told`.
-- After this file a reader knows what a call leaves behind: `called` puts together what is returned and what memory then holds.
use Rattle.std.specs.Prelude.{ℕ, List, Result, Ok, Err}
use Rattle.inference.specs.Answer as I
use Rattle.inference.specs.Infer.{output_after, work_after}
use Rattle.runner.specs.declared.Verdict.{Verdict}
use Rattle.runner.specs.declared.Verdict.TheVariants.{Typed, Problems}
use Rattle.runner.specs.declared.Outcome.{Outcome}
use Rattle.runner.specs.declared.Refusal.{Refusal}
use Rattle.runner.specs.declared.Refusal.TheVariants.{Oversized, BadEnvironment, BadFormula, Beyond, Full, Spent, NoRoom}

-- an answer: an outcome or a refusal
abbrev pub Answer : Type 0
Answer = Result Outcome Refusal

-- what is returned
pub record Told : Type 0 where
  pub number : ℕ
  pub place : ℕ
  pub size : ℕ  -- the length
  pub steps : ℕ

abbrev pub refusal : ℕ → ℕ → Told
refusal n p = record { number = n; place = p; size = 0; steps = 0 }

unfoldable pub number_of : Verdict → ℕ
number_of Typed = 0
number_of Problems = 1

unfoldable pub told : Answer → Told
told (Ok o) = record { number = number_of o.verdict; place = 0; size = o.length; steps = o.steps }
told (Err Oversized) = refusal 2 0
told (Err (BadEnvironment p)) = refusal 3 p.0
told (Err (BadFormula p)) = refusal 4 p.0
told (Err (Beyond p)) = refusal 5 p.0
told (Err Full) = refusal 6 0
told (Err Spent) = refusal 7 0
told (Err NoRoom) = refusal 8 0

-- the definition's answer, less its bytes
unfoldable pub brief : I.Answer → Told
brief a = record { number = a.number; place = a.place; size = a.size; steps = a.steps }

-- what is returned, and what output and work hold then
pub record Call : Type 0 where
  pub told : Told
  pub output : List ℕ
  pub work : List ℕ

unfoldable pub called : Answer → List ℕ → List ℕ → Call
called a output work = record { told = told a; output = output; work = work }

-- a call of the definition's answer, from what output and work held
unfoldable pub call_of : I.Answer → List ℕ → List ℕ → Call
call_of a output work = record { told = brief a; output = output_after a output; work = work_after a work }
