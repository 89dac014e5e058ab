-- Every answer is the first row of the table that holds, and what stands in output and work afterwards.
--
-- `Row a` reads as the table of numbers: each constructor says that the rows before it do not hold and that its own does. After this
-- file a reader may believe that inference answers a exactly if `Row a` (`rows`): number 2 exactly if a size is wrong (`number_2`),
-- 8 exactly if the finished answer is longer than the output (`number_8`), 6 and 7 as the walk meets them (`nodes_fit`, `nodes_full`);
-- and of output and work: untouched after 2, the answer's bytes and zeros after any other number.
-- Theorems that rest on what must-fail edits change stand in proofs/Numbers.antt.
use Rattle.std.specs.Prelude.{ℕ, ◌-◌, ◌≤◌, ◌<◌, List, length}
use Rattle.std.proofs.Math.Path.{◌≡◌}
use Rattle.meter.specs.Meter.{Out, spent, halt, done, full}
use Rattle.types.specs.declared.Place.{Place}
use Rattle.types.specs.declared.Fault.TheVariants.{Malformed, Beyond}
use Rattle.formula.specs.Tree.{Formula}
use Rattle.formula.specs.Environment.{Entries, lookup}
use Rattle.formula.specs.Parse.{parsed, faulty, parse_of}
use Rattle.formula.specs.EnvParse.{environment_of}
use Rattle.unification.specs.Arena.{U}
use Rattle.inference.specs.Answer.{Answer, refused}
use Rattle.inference.specs.Finish.{Outcome}
use Rattle.inference.specs.Infer.{concluded, answer}
pub use Rattle.inference.specs.Sizes.{Sized}

-- ---- the rows
module _ (formula environment : List ℕ) (names capacity budget room work : ℕ) where
  abbrev pub SizesHold : Type 0
  SizesHold = Sized (length formula) (length environment) names capacity work

  -- sizes hold, the environment and the formula are well formed: what is walked
  pub record Walks : Type 0 where
    pub sizes : SizesHold
    pub entries : Entries
    pub tree : Formula
    pub environment_read : environment_of names environment ≡ parsed entries
    pub formula_read : parse_of names formula ≡ parsed tree

  -- how the walk and the finish of it end
  abbrev pub ending : Walks → Out U Outcome
  ending w = concluded capacity (lookup w.entries) w.tree budget

  pub data Row : Answer → Type 0 where
    row_2 : (SizesHold → ⊥) → Row (refused 2 0)
    row_3 : SizesHold → (p : Place) → environment_of names environment ≡ faulty (Malformed p) → Row (refused 3 p.0)
    row_5_environment : SizesHold → (p : Place) → environment_of names environment ≡ faulty (Beyond p) → Row (refused 5 p.0)
    row_4 : SizesHold → (entries : Entries) → environment_of names environment ≡ parsed entries → (p : Place) → parse_of names formula ≡ faulty (Malformed p) → Row (refused 4 p.0)
    row_5_formula : SizesHold → (entries : Entries) → environment_of names environment ≡ parsed entries → (p : Place) → parse_of names formula ≡ faulty (Beyond p) → Row (refused 5 p.0)
    row_6 : (w : Walks) → ending w ≡ halt full tt → Row (refused 6 0)
    row_7 : (w : Walks) → ending w ≡ spent tt → Row (refused 7 0)
    row_8 : (w : Walks) (o : Outcome) (left : ℕ) → ending w ≡ done o left → room < (answer (budget - left) o).size → Row (refused 8 0)
    row_0_1 : (w : Walks) (o : Outcome) (left : ℕ) → ending w ≡ done o left → (answer (budget - left) o).size ≤ room → Row (answer (budget - left) o)

  -- the finished answer is longer than the output
  abbrev pub TooLong : Type 0
  TooLong = (w : Walks) × (o : Outcome) × (left : ℕ) × (ending w ≡ done o left) × (room < (answer (budget - left) o).size)
