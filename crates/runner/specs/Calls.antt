-- A whole call step by step, as the entry goes: by the environment's form, then by the formula's, then the walk.
-- What it comes to is `infer_of` of crate `inference`.
use Rattle.std.specs.Prelude.{ℕ, ◌+◌, ◌*◌, List, take, Ok, Err}
use Rattle.types.specs.Limits.{book}
use Rattle.formula.specs.Parse.{Form}
use Rattle.formula.specs.declared.FormError.{FormError}
use Rattle.formula.specs.declared.FormError.TheVariants.{TooLong, At}
use Rattle.memory.specs.Memory.{cleared}
use Rattle.runner.specs.declared.Input.{Input}
use Rattle.runner.specs.declared.Input.TheVariants.{Environment, Formula}
use Rattle.runner.specs.declared.Refusal.TheVariants.{Oversized}
use Rattle.runner.specs.Answers.{told, Call, called}
use Rattle.runner.specs.Run.{Judged, judged, run_of, judge_of, fault_of}

-- zeros after the answer's bytes, and in all of the work slice
unfoldable pub closed : Judged → List ℕ → Call
closed j work = called j.answer (cleared (told j.answer).size j.out) (cleared 0 work)

-- what a form that is refused comes to
unfoldable pub refused_call : Input → FormError → List ℕ → List ℕ → Call
refused_call input TooLong out work = called (Err Oversized) out work
refused_call input (At f) out work = closed (judged (Err (fault_of input f)) out) work

unfoldable pub formula_call : Form → List ℕ → List ℕ → List ℕ → ℕ → ℕ → List ℕ → List ℕ → Call
formula_call (Err TooLong) s env types capacity budget out work = called (Err Oversized) out work
formula_call (Err (At f)) s env types capacity budget out work = closed (judged (Err (fault_of Formula f)) out) work
formula_call (Ok u) s env types capacity budget out work = closed (judge_of budget (run_of s env types (capacity * 3) budget (take (capacity * 3 + book) work) out)) work

unfoldable pub environment_call : Form → Form → List ℕ → List ℕ → List ℕ → ℕ → ℕ → List ℕ → List ℕ → Call
environment_call (Err TooLong) form s env types capacity budget out work = called (Err Oversized) out work
environment_call (Err (At f)) form s env types capacity budget out work = closed (judged (Err (fault_of Environment f)) out) work
environment_call (Ok u) form s env types capacity budget out work = formula_call form s env types capacity budget out work
