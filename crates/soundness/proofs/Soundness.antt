-- What an answer of type inference says of a formula's typings, and what its steps mean, from end to end.
--
-- How to read this file. `infer_of formula environment names capacity budget room work` is the answer of the entry on these bytes, with
-- an output of `room` bytes and a work slice of `work` words: a number, a place, a length (`size`), steps, and the bytes written. It
-- is the definition that the code's contract names (crates/inference/specs/Infer.antt); `output_after` there says how the bytes stand
-- in the output. Each statement below is the type written after its name; what follows the second mention of the name is its proof,
-- which the checker has checked and a reader may skip. The words in the statements, each one step away:
--   `Spells`, the bytes spell these entries and this tree, inside the limits (Calls.antt; bytes of a tree: `spell_formula` in
--     crates/formula/specs/Spell.antt; places: `PlacedFormula` there; limits: crates/formula_laws/specs/Fits.antt);
--   `Typing`, `One`, `None`, `Several`, the declarative rules and how many typings there are (crates/typing/specs/Rules.antt and
--     Typings.antt): no unknowns, no order of work, no memory;
--   `name_entries`, the names that the environment lacks, in order of first meeting, each with its type; `slot_entries`, the places of
--     the slots in stream order, each with its type (Typings.antt); `spell_entries`, `spell_slots`, the 50 and 51 entries as bytes;
--   `Lists a ps`, the answer is number 1 and its bytes are the 60 entries of ps; `Clash`, `Untyped`, problem 0 or 1, problem 2 or 3
--     (Listing.antt);
--   `excluded_of f`, the dangling indices, applications and ascriptions to 4F of f, as problem and place (Typings.antt).
-- The only side conditions are those of the demand: the bytes are well formed, the call is not refused (number at most 1), and, where a
-- statement says so, the formula excludes nothing. Formula, environment, count of names, capacity, budget and lengths are any; and
-- every call that is not refused has well formed bytes (`judged-spells`).
--
-- Assumed: that the checker is right, and that a program behaves as the language's abstract machine says. Not covered: the machine
-- stack, and any code in Rust, the host's included.
use Rattle.std.specs.Prelude.{ℕ, ◌+◌, ◌*◌, ◌-◌, ◌≤◌, ◌<◌, ◌≡◌, ◌⊎◌, ◌↔◌, List, [], ◌++◌, length}
use Rattle.std.proofs.Common.{sym, ◌∙◌, ap, subst, arith}
use Rattle.types.specs.Ty.{Ty}
use Rattle.formula.specs.Tree.{Formula}
use Rattle.formula.specs.Environment.{Env, Entries, lookup, spell_entries}
use Rattle.typing.specs.Rules.{Typing}
use Rattle.typing.specs.Typings.{One, None, Several, name_entries, slot_entries, excluded_of}
use Rattle.meter.specs.Meter.{done, exact-done}
use Rattle.unification.specs.Arena.{Direction}
use Rattle.unification.specs.Ops.{Bench}
use Rattle.unification.specs.Direction.{OneBinding}
use Rattle.walk.specs.Walk.{walked}
use Rattle.walk.proofs.Excluded.{typed_allowed}
use Rattle.inference.specs.Answer.{Problem, spell_slots, Answer, refused}
use Rattle.inference.specs.Finish.{Outcome, finish}
use Rattle.inference.specs.Infer.{answer, infer_of, output_after, zeros}
use Rattle.inference.specs.Numbers.{Sized}
use Rattle.inference.proofs.Numbers.{after-other}
use Rattle.inference.specs.Conclude.{size}
use Rattle.inference.proofs.Budget.{price, outcome, fill, answer-steps}
use Rattle.inference.specs.AnyDirection.{Leaves}
use Rattle.inference.proofs.AnyDirection.{outcome-found}
use Rattle.soundness.specs.Listing.{Lists, AllOf, SomeOf, Clash, Untyped, Among, among_in, problem_of}
use Rattle.soundness.specs.Excluded.{excluded_kinds}
use Rattle.soundness.specs.Verdict.{Verdict}
use Rattle.soundness.specs.Calls.{Spells, spelled-read, Bytes, answered-spells, answer-is}
use Rattle.soundness.proofs.Calls.{outcome-verdict}
use Rattle.soundness.proofs.Judge.{number-one, bytes_typing, listing-clash, listing_untyped, listing_excluded}
use Rattle.soundness.specs.Price.{more_same, fewer_seven, least_steps, fits-answered, fits_seven, fits_six, full_seven, full_six, steps-price}

-- what is answered 0 or 1 spells some environment and some formula
pub judged-spells : (formula environment : List ℕ) → Bytes formula → Bytes environment → (names capacity budget room work : ℕ) → (infer_of formula environment names capacity budget room work).number ≤ 1
    → (es : Entries) × (f : Formula) × Spells formula environment names es f
judged-spells = answered-spells

module _ (formula environment : List ℕ) (names capacity budget room work : ℕ) (es : Entries) (f : Formula) (spelled : Spells formula environment names es f) (judged : (infer_of formula environment names capacity budget room work).number ≤ 1) where
  -- the answer, and the environment that the bytes spell
  abbrev A : Answer
  A = infer_of formula environment names capacity budget room work

  abbrev Γ : Env
  Γ = lookup es

  -- (for the proofs: the answer is the outcome's, and the outcome's verdict is known)
  as_outcome : (P : Answer → Type 0) → P (answer (price Γ f) (outcome Γ f)) → P A
  as_outcome P h = subst P (sym (answer-is formula environment names capacity budget room work es f (spelled-read spelled) judged)) h

  verdict : Verdict Γ f (outcome Γ f)
  verdict = outcome-verdict formula environment names capacity budget room work es f (spelled-read spelled) judged

  -- ---- E3: number 0 exactly if there is one and only one typing
  pub typed_exactly : (A.number ≡ 0) ↔ One Γ f
  typed_exactly = as_outcome (λ a. (a.number ≡ 0) ↔ One Γ f) (number-one Γ f (price Γ f) (outcome Γ f) verdict)

  -- E3: and the bytes spell that typing
  pub typed-spelt : A.number ≡ 0 → (τ ρ : ℕ → Ty) → Typing Γ f τ ρ → A.bytes ≡ spell_entries (name_entries Γ f ρ) ++ spell_slots (slot_entries f τ)
  typed-spelt = as_outcome (λ a. a.number ≡ 0 → (τ ρ : ℕ → Ty) → Typing Γ f τ ρ → a.bytes ≡ spell_entries (name_entries Γ f ρ) ++ spell_slots (slot_entries f τ)) (bytes_typing Γ f (price Γ f) (outcome Γ f) verdict)

  -- E3: so the output, whatever it held, begins with them, and zeros follow
  pub typed-output : (output : List ℕ) → A.number ≡ 0 → (τ ρ : ℕ → Ty) → Typing Γ f τ ρ
      → output_after A output ≡ (spell_entries (name_entries Γ f ρ) ++ spell_slots (slot_entries f τ)) ++ zeros (length output - length (spell_entries (name_entries Γ f ρ) ++ spell_slots (slot_entries f τ)))
  typed-output output e τ ρ t = (after-other A (λ q. omega arith) output []).0 ∙ ap (λ (bs : List ℕ). bs ++ zeros (length output - length bs)) (typed-spelt e τ ρ t)

  -- ---- E4: where the formula excludes nothing, a problem 0 or 1 is listed exactly if there is no typing
  pub clash_exactly : excluded_of f ≡ [] → ((ps : List Problem) × Lists A ps × SomeOf Clash ps) ↔ None Γ f
  clash_exactly = as_outcome (λ a. excluded_of f ≡ [] → ((ps : List Problem) × Lists a ps × SomeOf Clash ps) ↔ None Γ f) (listing-clash Γ f (price Γ f) (outcome Γ f) verdict)

  -- ---- E5: only problems 2 and 3 are listed exactly if there are several typings, of which two different ones are exhibited
  pub untyped_exactly : ((ps : List Problem) × Lists A ps × AllOf Untyped ps) ↔ Several Γ f
  untyped_exactly = as_outcome (λ a. ((ps : List Problem) × Lists a ps × AllOf Untyped ps) ↔ Several Γ f) (listing_untyped Γ f (price Γ f) (outcome Γ f) verdict)

  -- ---- E6: a formula that excludes something has no typing
  pub excluded_none : (z : ℕ × ℕ) → Among z (excluded_of f) → None Γ f
  excluded_none z i t = subst (λ (zs : List (ℕ × ℕ)). Among z zs) (typed_allowed Γ f t) i

  -- E6: and its answer is problems, each thing excluded among them at its place: 4 an index, 5 an application, 0 an ascription to 4F
  pub excluded_listed : (z : ℕ × ℕ) → Among z (excluded_of f) → ((z.0 ≡ 0) ⊎ (z.0 ≡ 4) ⊎ (z.0 ≡ 5)) × ((ps : List Problem) × Lists A ps × SomeOf (λ p. p ≡ problem_of z) ps)
  excluded_listed z i =
      let h = among_in z (excluded_of f) i in
      (excluded_kinds f z h, as_outcome (λ a. (ps : List Problem) × Lists a ps × SomeOf (λ p. p ≡ problem_of z) ps) (listing_excluded Γ f (price Γ f) (outcome Γ f) verdict (excluded_none z i) z h))

  -- ---- E8: the answer does not depend on which of two unknowns is bound. Let the formula's operations be run by the unifier's rules in any direction, the Rust's
  -- (`left_bound`) or another: types, problems, their order and places are those of this answer. (`Leaves`: the arena after that run; there is one, `outcome-run`,
  -- and the finish answers over it from some budget on, `outcome-found`: crates/inference/specs/AnyDirection.antt)
  pub any_direction : (by : Direction) (one : OneBinding by) (t : Bench) → Leaves Γ f by t → (budget' left : ℕ) (o : Outcome) → finish Γ (walked Γ f).row (walked Γ f).slots t budget' ≡ done o left → A ≡ answer A.steps o
  any_direction by one t run budget' left o e =
      let q : o ≡ outcome Γ f = exact-done (outcome-found Γ f by one t run) budget' o left e in
      subst (λ (u : Outcome). A ≡ answer A.steps u) (sym q) (as_outcome (λ a. a ≡ answer a.steps (outcome Γ f)) (ap (λ (n : ℕ). answer n (outcome Γ f)) (sym (answer-steps (price Γ f) (outcome Γ f)))))

-- ---- E7: the steps of an answer 0 or 1
module _ (formula environment : List ℕ) (names capacity budget room work : ℕ) (judged : (infer_of formula environment names capacity budget room work).number ≤ 1) where
  abbrev B : Answer
  B = infer_of formula environment names capacity budget room work

  -- they are the least budget with this answer: the budgets that give it are those from the steps on
  pub steps_least : (budget' : ℕ) → (infer_of formula environment names capacity budget' room work ≡ B) ↔ (B.steps ≤ budget')
  steps_least budget' = least_steps formula environment names capacity budget room work judged budget'

  -- every smaller budget is refused 7
  pub steps-below : (budget' : ℕ) → budget' < B.steps → infer_of formula environment names capacity budget' room work ≡ refused 7 0
  steps-below budget' l = fewer_seven formula environment names capacity budget room work judged budget' l

  -- as much budget or more, as much capacity or more up to 32,768 with its work memory, as long an output or longer: the same
  -- number, place, length, steps and bytes
  pub more_changes_nothing : (capacity' budget' room' work' : ℕ) → capacity ≤ capacity' → capacity' ≤ 32768 → 3 * capacity' + 4096 ≤ work' → B.steps ≤ budget' → room ≤ room'
      → infer_of formula environment names capacity' budget' room' work' ≡ B
  more_changes_nothing capacity' budget' room' work' c m w b r = more_same formula environment names capacity budget room work judged capacity' budget' room' work' c m w b r

-- ---- E7: 7 or 6, exactly which. The bytes are well formed and the sizes of row 2 hold. `size` is how many nodes the walk of the
-- formula makes (counted record by record in crates/walk/specs/Nodes.antt); `price` and `fill` are units, and do not depend on the budget
module _ (formula environment : List ℕ) (names capacity budget room work : ℕ) (es : Entries) (f : Formula) (spelled : Spells formula environment names es f) (sizes : Sized (length formula) (length environment) names capacity work) where
  -- the nodes fit: 7 exactly below the price, never 6; and the steps of an answer are the price
  pub seven_fitting : size (lookup es) f ≤ capacity → ((infer_of formula environment names capacity budget room work).number ≡ 7) ↔ (budget < price (lookup es) f)
  seven_fitting l = fits_seven formula environment names capacity budget room work es f (spelled-read spelled) sizes l

  pub six_fitting : size (lookup es) f ≤ capacity → (infer_of formula environment names capacity budget room work).number ≡ 6 → ⊥
  six_fitting l e = fits_six formula environment names capacity budget room work es f (spelled-read spelled) sizes l e

  pub steps-fitting : (infer_of formula environment names capacity budget room work).number ≤ 1 → (infer_of formula environment names capacity budget room work).steps ≡ price (lookup es) f
  steps-fitting j = steps-price formula environment names capacity budget room work es f (spelled-read spelled) j

  -- from the price on the call is answered, unless the answer is longer than the output
  pub answered-fitting : size (lookup es) f ≤ capacity → price (lookup es) f ≤ budget
      → ((infer_of formula environment names capacity budget room work).number < 2) ⊎ ((infer_of formula environment names capacity budget room work).number ≡ 8)
  answered-fitting l b = fits-answered formula environment names capacity budget room work es f (spelled-read spelled) sizes l b

  -- they do not fit: 7 exactly until the capacity is used up, 6 from then on
  pub seven_full : (l : capacity < size (lookup es) f) → ((infer_of formula environment names capacity budget room work).number ≡ 7) ↔ (budget < fill (lookup es) f capacity l)
  seven_full l = full_seven formula environment names capacity budget room work es f (spelled-read spelled) sizes l

  pub six_full : (l : capacity < size (lookup es) f) → ((infer_of formula environment names capacity budget room work).number ≡ 6) ↔ (fill (lookup es) f capacity l ≤ budget)
  six_full l = full_six formula environment names capacity budget room work es f (spelled-read spelled) sizes l
