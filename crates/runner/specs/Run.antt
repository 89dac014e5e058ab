-- Inference step by step, as the code goes: the walk, the tests, the verdict, the refusals of form.
-- What all of it comes to is `infer_of` of crate `inference`; crate `assembly` has the proof.
use Rattle.std.specs.Prelude.{ℕ, ◌-◌, List, eqb, Ok, Err}
use Rattle.types.specs.declared.Place.{Place}
use Rattle.types.specs.declared.Fault.{Fault}
use Rattle.types.specs.declared.Fault.TheVariants as F
use Rattle.machine.specs.State.{State}
use Rattle.machine.specs.declared.Stop.{Stop}
use Rattle.machine.specs.declared.Stop.TheVariants as St
use Rattle.forms.specs.Forms.{test, then}
use Rattle.machine.specs.Machine.{Mach, mach, start_of}
use Rattle.memory.specs.Memory.{cleared}
use Rattle.walker.specs.Root.{formula_of}
use Rattle.finisher.specs.Finisher.{finish_of, write_answer_of}
use Rattle.runner.specs.Begin.{entered_of}
use Rattle.runner.specs.declared.Verdict.{Verdict}
use Rattle.runner.specs.declared.Verdict.TheVariants.{Typed, Problems}
use Rattle.runner.specs.declared.Input.{Input}
use Rattle.runner.specs.declared.Input.TheVariants.{Environment, Formula}
use Rattle.runner.specs.declared.Refusal.{Refusal}
use Rattle.runner.specs.declared.Refusal.TheVariants.{Oversized, BadEnvironment, BadFormula, Beyond, Full, Spent, NoRoom}
use Rattle.runner.specs.Answers.{Answer}

unfoldable pub run_of : List ℕ → List ℕ → List ℕ → ℕ → ℕ → List ℕ → List ℕ → Mach
run_of s env types size budget work out =
    then (entered_of types (mach size (start_of budget) (cleared size work) out)) λ a.
    then (formula_of s env a) λ b.
    finish_of b

-- what a state says once it is final
unfoldable pub verdict_of : Verdict → ℕ → State → Answer
verdict_of verdict budget v =
    test (eqb v.stop 6) (λ _. Err Full)
    (λ _. test (eqb v.stop 7) (λ _. Err Spent)
    (λ _. test (eqb v.stop 0)
    (λ _. test v.over (λ _. Err NoRoom) (λ _. Ok (record { verdict = verdict; length = v.bytes; steps = budget - v.budget })))
    (λ _. Err Oversized)))

-- what a walk that stops is refused with
abbrev pub refused_by : Stop → Refusal
refused_by St.Full = Full
refused_by St.Spent = Spent
refused_by St.Broken = Oversized

-- an answer, and the output then
pub record Judged : Type 0 where
  pub answer : Answer
  pub out : List ℕ

abbrev pub judged : Answer → List ℕ → Judged
judged a out = record { answer = a; out = out }

unfoldable pub judge_of : ℕ → Mach → Judged
judge_of budget m =
    test (eqb m.st.stop 0)
    (λ _. test m.st.over (λ _. judged (verdict_of Problems budget m.st) m.out)
    (λ _. test (eqb m.st.bytes 0)
    (λ _. then (write_answer_of m) λ w. judged (verdict_of Typed budget w.st) w.out)
    (λ _. judged (verdict_of Problems budget m.st) m.out)))
    (λ _. judged (verdict_of Problems budget m.st) m.out)

-- a fault of form, of the environment or of the formula
unfoldable pub fault_of : Input → Fault Place → Refusal
fault_of Environment (F.Malformed p) = BadEnvironment p
fault_of Environment (F.Beyond p) = Beyond p
fault_of Formula (F.Malformed p) = BadFormula p
fault_of Formula (F.Beyond p) = Beyond p
