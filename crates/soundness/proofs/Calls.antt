-- The theorems of specs/Calls.antt: `outcome-verdict`.
use Rattle.std.specs.Prelude.{ℕ, ◌≤◌, List}
use Rattle.formula.specs.Tree.{Formula}
use Rattle.formula.specs.Environment.{Entries, lookup}
use Rattle.inference.specs.Infer.{infer_of}
use Rattle.inference.proofs.Budget.{outcome, outcome-holds}
use Rattle.soundness.specs.Verdict.{Verdict}
use Rattle.soundness.proofs.Verdict.{verdict}
use Rattle.soundness.specs.Calls.{Reads}

module _ (formula environment : List ℕ) (names capacity budget room work : ℕ) (es : Entries) (f : Formula) (reads : Reads formula environment names es f) where
  module _ (judged : (infer_of formula environment names capacity budget room work).number ≤ 1) where
    pub outcome-verdict : Verdict (lookup es) f (outcome (lookup es) f)
    outcome-verdict = verdict (lookup es) f (outcome (lookup es) f) (outcome-holds (lookup es) f)
