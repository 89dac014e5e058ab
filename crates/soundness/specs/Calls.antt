-- Calls whose bytes are well formed. After this file a reader knows what `Spells` means, and that the answer of such a call, where it
-- is not refused, is the outcome of the very entries and tree that the bytes spell, at the price of that outcome.
-- Theorems that rest on what must-fail edits change stand in proofs/Calls.antt.
use Rattle.std.specs.Prelude.{ℕ, ◌≤◌, ◌<◌, ◌≡◌, List, length, get_or}
use Rattle.std.proofs.Common.{sym, ◌∙◌, ap₂}
use Rattle.formula.specs.Tree.{Formula}
use Rattle.formula.specs.Environment.{Entries, lookup}
use Rattle.formula.specs.Parse.{parsed, parse_of}
use Rattle.formula.specs.EnvParse.{environment_of}
use Rattle.formula_laws.specs.Exact.{Spelled}
use Rattle.formula_laws.proofs.Exact.{spelled-is-parsed, parsed-is-spelled}
use Rattle.formula_laws.specs.ExactEnvironment.{SpelledEntries}
use Rattle.formula_laws.proofs.ExactEnvironment.{spelled-entries-parsed, parsed-entries-spelled}
use Rattle.inference.specs.Infer.{answer, infer_of}
use Rattle.inference.specs.Numbers.{Sized, Walks}
use Rattle.inference.proofs.Budget.{price, outcome, given}

-- the environment's bytes spell the entries es, the formula's the tree f, inside the limits
pub record Spells (formula environment : List ℕ) (names : ℕ) (es : Entries) (f : Formula) : Type 0 where
  pub environment_spelled : SpelledEntries names environment es
  pub formula_spelled : Spelled names formula f

-- they are parsed as es and f
pub record Reads (formula environment : List ℕ) (names : ℕ) (es : Entries) (f : Formula) : Type 0 where
  pub environment_read : environment_of names environment ≡ parsed es
  pub formula_read : parse_of names formula ≡ parsed f

pub spelled-read : {formula environment : List ℕ} {names : ℕ} {es : Entries} {f : Formula} → Spells formula environment names es f → Reads formula environment names es f
spelled-read s = record { environment_read = spelled-entries-parsed _ _ _ s.environment_spelled; formula_read = spelled-is-parsed _ _ _ s.formula_spelled }

-- a list of bytes
abbrev pub Bytes : List ℕ → Type 0
Bytes s = (i : ℕ) → get_or s i 0 < 256

-- whatever is answered, is answered of bytes that spell an environment and a formula
pub answered-spells : (formula environment : List ℕ) → Bytes formula → Bytes environment → (names capacity budget room work : ℕ) → (infer_of formula environment names capacity budget room work).number ≤ 1
    → (es : Entries) × (f : Formula) × Spells formula environment names es f
answered-spells formula environment bf be names capacity budget room work judged =
    let w = (given formula environment names capacity budget room work judged).walks in
    (w.entries, w.tree, record { environment_spelled = parsed-entries-spelled names environment be w.entries w.environment_read; formula_spelled = parsed-is-spelled names formula bf w.tree w.formula_read })

module _ (formula environment : List ℕ) (names capacity budget room work : ℕ) (es : Entries) (f : Formula) (reads : Reads formula environment names es f) where
  -- with the sizes of row 2, such a call is walked
  abbrev pub walks : Sized (length formula) (length environment) names capacity work → Walks formula environment names capacity budget room work
  walks s = record { sizes = s; entries = es; tree = f; environment_read = reads.environment_read; formula_read = reads.formula_read }

  parsed-same : {A : Type 0} {a a' : A} → parsed a ≡ parsed a' → a ≡ a'
  parsed-same e = cc

  module _ (judged : (infer_of formula environment names capacity budget room work).number ≤ 1) where
    abbrev W : Walks formula environment names capacity budget room work
    W = (given formula environment names capacity budget room work judged).walks

    same_entries : W.entries ≡ es
    same_entries = parsed-same (sym W.environment_read ∙ reads.environment_read)

    same-tree : W.tree ≡ f
    same-tree = parsed-same (sym W.formula_read ∙ reads.formula_read)

    pub answer-is : infer_of formula environment names capacity budget room work ≡ answer (price (lookup es) f) (outcome (lookup es) f)
    answer-is = (given formula environment names capacity budget room work judged).is
        ∙ ap₂ (λ (ds : Entries) (g : Formula). answer (price (lookup ds) g) (outcome (lookup ds) g)) same_entries same-tree
