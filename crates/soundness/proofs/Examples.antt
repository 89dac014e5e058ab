-- The theorems at work: four of the auditor's cases, from the answer's number and bytes to what they say of the typings, and a formula that binds another unknown
-- than the Rust does.
-- After this file a reader has seen that the theorems' conditions can be met, and how each of them is used. One name, an empty
-- environment, capacity 2,048, budget 1,000, an output of 1,000 bytes.
use Rattle.std.specs.Prelude.{ℕ, ◌+◌, ◌≡◌, refl, List, [], ◌∷◌}
use Rattle.std.proofs.Common.{ap, subst, inl, arith}
use Rattle.meter.specs.Meter.{done}
use Rattle.unification.specs.Arena.{left_bound}
use Rattle.unification.specs.Ops.{Bench}
use Rattle.unification.proofs.Direction.{left_binds}
use Rattle.walk.specs.Walk.{walked}
use Rattle.formula.specs.Tree.{Formula, predicate, relational, free, atomic, bound, expression, binary, literal, extension, none, more, exprs, slots, slots_pred, slots_of}
use Rattle.formula.specs.Environment.{Env, lookup, Distinct, spell_entries}
use Rattle.formula.specs.Spell.{spell, spell_pred, spell_formula, size, Placed, PlacedPred, PlacedFormula}
use Rattle.formula_laws.specs.Fits.{Fits, FitsPred, FitsRoot, FitsFormula}
use Rattle.formula_laws.specs.ExactEnvironment.{FitsEntries}
use Rattle.typing.specs.Equations.{first_of}
use Rattle.typing.specs.Typings.{One, None, Several, index_excluded, excluded, excluded_of}
use Rattle.inference.specs.Answer.{Problem, nameless, two, four, spell_problem, spell_problems, Answer, written}
use Rattle.inference.specs.Finish.{Outcome, finish}
use Rattle.inference.specs.Infer.{answer, infer_of}
use Rattle.inference.specs.AnyDirection.{Leaves, outcome-run}
use Rattle.inference.proofs.AnyDirection.{outcome-found}
use Rattle.inference.proofs.Cases.{auditors_table, two-unknowns-answered}
use Rattle.soundness.specs.Listing.{Lists}
use Rattle.soundness.specs.Calls.{Spells}
use Rattle.soundness.proofs.Soundness.{typed_exactly, clash_exactly, untyped_exactly, excluded_none, any_direction}

abbrev nothing_held : Env
nothing_held = lookup []

-- ---- case 1, x ∈ ℤ: number 0, so there is one typing
abbrev in_integers : Formula
in_integers = predicate (relational 0 6 (free 2 0) (atomic 5 0))

in_integers-spelled : Spells (0x22 ∷ 0x06 ∷ 0x01 ∷ 0x00 ∷ 0x00 ∷ 0x04 ∷ 0x00 ∷ []) [] 1 [] in_integers
unfolding spell_formula spell spell_pred PlacedFormula Placed PlacedPred size FitsFormula FitsRoot Fits FitsPred slots_of slots slots_pred spell_entries Distinct FitsEntries
in_integers-spelled = record {
  environment_spelled = record { short = omega arith; bytes = refl; distinct = tt; fits = tt };
  formula_spelled = record { short = omega arith; bytes = refl; placed = (refl, refl, refl); fits = (omega arith, (omega arith, omega arith, (omega arith, omega arith), (omega arith, omega arith))) };
}

pub in_integers-one : One nothing_held in_integers
unfolding written
in_integers-one =
    let e = ap (λ (a : Answer). a.number) auditors_table.0 in
    (typed_exactly (0x22 ∷ 0x06 ∷ 0x01 ∷ 0x00 ∷ 0x00 ∷ 0x04 ∷ 0x00 ∷ []) [] 1 2048 1000 1000 10240 [] in_integers in_integers-spelled (omega arith)).0 e

-- ---- case 4, ∅ = ∅: two problems 2, so there are several
abbrev empty_sets : Formula
empty_sets = predicate (relational 0 0 (atomic 2 8) (atomic 4 8))

empty_sets_spelled : Spells (0x22 ∷ 0x00 ∷ 0x04 ∷ 0x08 ∷ 0x04 ∷ 0x08 ∷ []) [] 1 [] empty_sets
unfolding spell_formula spell spell_pred PlacedFormula Placed PlacedPred size FitsFormula FitsRoot Fits FitsPred slots_of slots slots_pred spell_entries Distinct FitsEntries
empty_sets_spelled = record {
  environment_spelled = record { short = omega arith; bytes = refl; distinct = tt; fits = tt };
  formula_spelled = record { short = omega arith; bytes = refl; placed = (refl, refl, refl); fits = (omega arith, (omega arith, omega arith, (omega arith, omega arith), (omega arith, omega arith))) };
}

abbrev both_open : List Problem
both_open = record { kind = 2; place = 2; name = nameless } ∷ record { kind = 2; place = 4; name = nameless } ∷ []

empty_sets_listed : Lists (infer_of (0x22 ∷ 0x00 ∷ 0x04 ∷ 0x08 ∷ 0x04 ∷ 0x08 ∷ []) [] 1 2048 1000 1000 10240) both_open
unfolding written spell_problems spell_problem four two
empty_sets_listed = let e = auditors_table.1.1.1.1.1.0 in record { problems = ap (λ (a : Answer). a.number) e; spelt = ap (λ (a : Answer). a.bytes) e }

pub empty_sets_several : Several nothing_held empty_sets
empty_sets_several =
    let e = empty_sets_listed.problems in
    (untyped_exactly (0x22 ∷ 0x00 ∷ 0x04 ∷ 0x08 ∷ 0x04 ∷ 0x08 ∷ []) [] 1 2048 1000 1000 10240 [] empty_sets empty_sets_spelled (omega arith)).0
    (both_open, empty_sets_listed, (inl refl, (inl refl, tt)))

-- ---- case 6, x ↦ TRUE = 0 ↦ 0: a problem 0, so there is none
abbrev pairs_apart : Formula
pairs_apart = predicate (relational 0 0 (binary 2 0 (free 4 0) (atomic 7 4)) (binary 9 0 (literal 11) (literal 12)))

pairs-apart-spelled : Spells (0x22 ∷ 0x00 ∷ 0x07 ∷ 0x00 ∷ 0x01 ∷ 0x00 ∷ 0x00 ∷ 0x04 ∷ 0x04 ∷ 0x07 ∷ 0x00 ∷ 0x03 ∷ 0x03 ∷ []) [] 1 [] pairs_apart
unfolding spell_formula spell spell_pred PlacedFormula Placed PlacedPred size FitsFormula FitsRoot Fits FitsPred slots_of slots slots_pred spell_entries Distinct FitsEntries
pairs-apart-spelled = record {
  environment_spelled = record { short = omega arith; bytes = refl; distinct = tt; fits = tt };
  formula_spelled = record { short = omega arith; bytes = refl; placed = (refl, (refl, refl, refl), (refl, refl, refl)); fits = (omega arith, (omega arith, omega arith, (omega arith, omega arith, (omega arith, omega arith), (omega arith, omega arith)), (omega arith, omega arith, omega arith, omega arith))) };
}

abbrev one_clash : List Problem
one_clash = record { kind = 0; place = 0; name = nameless } ∷ []

pairs-apart-listed : Lists (infer_of (0x22 ∷ 0x00 ∷ 0x07 ∷ 0x00 ∷ 0x01 ∷ 0x00 ∷ 0x00 ∷ 0x04 ∷ 0x04 ∷ 0x07 ∷ 0x00 ∷ 0x03 ∷ 0x03 ∷ []) [] 1 2048 1000 1000 10240) one_clash
unfolding written spell_problems spell_problem four two
pairs-apart-listed = let e = auditors_table.1.1.1.1.1.1.1.0 in record { problems = ap (λ (a : Answer). a.number) e; spelt = ap (λ (a : Answer). a.bytes) e }

pub pairs-apart-none : None nothing_held pairs_apart
unfolding excluded_of excluded
pairs-apart-none =
    let e = pairs-apart-listed.problems in
    (clash_exactly (0x22 ∷ 0x00 ∷ 0x07 ∷ 0x00 ∷ 0x01 ∷ 0x00 ∷ 0x00 ∷ 0x04 ∷ 0x04 ∷ 0x07 ∷ 0x00 ∷ 0x03 ∷ 0x03 ∷ []) [] 1 2048 1000 1000 10240 [] pairs_apart pairs-apart-spelled (omega arith) refl).0
    (one_clash, pairs-apart-listed, inl (omega arith))

-- ---- case 8, an index with no declaration: excluded, so there is none
abbrev dangling : Formula
dangling = expression (bound 0 0)

dangling-spelled : Spells (0x02 ∷ 0x00 ∷ 0x00 ∷ []) [] 1 [] dangling
unfolding spell_formula spell spell_pred PlacedFormula Placed PlacedPred size FitsFormula FitsRoot Fits FitsPred slots_of slots slots_pred spell_entries Distinct FitsEntries
dangling-spelled = record {
  environment_spelled = record { short = omega arith; bytes = refl; distinct = tt; fits = tt };
  formula_spelled = record { short = omega arith; bytes = refl; placed = refl; fits = (omega arith, omega arith) };
}

pub dangling-none : None nothing_held dangling
unfolding written excluded_of excluded index_excluded first_of
dangling-none =
    let e = ap (λ (a : Answer). a.number) auditors_table.1.1.1.1.1.1.1.1.1.1.0 in
    excluded_none (0x02 ∷ 0x00 ∷ 0x00 ∷ []) [] 1 2048 1000 1000 10240 [] dangling dangling-spelled (omega arith) (4, 0) (inl refl)

-- ---- {x} = ∅: an unknown of rank 1 meets one of rank 0 on its right, which is bound here; the Rust binds the left one, and the answer is the same
abbrev set_and_empty : Formula
set_and_empty = predicate (relational 0 0 (extension 2 (more (free 5 0) none)) (atomic 8 8))

set_and_empty-spelled : Spells (0x22 ∷ 0x00 ∷ 0x05 ∷ 0x01 ∷ 0x00 ∷ 0x01 ∷ 0x00 ∷ 0x00 ∷ 0x04 ∷ 0x08 ∷ []) [] 1 [] set_and_empty
unfolding spell_formula spell spell_pred PlacedFormula Placed PlacedPred size FitsFormula FitsRoot Fits FitsPred slots_of slots slots_pred spell_entries Distinct FitsEntries exprs
set_and_empty-spelled = record {
  environment_spelled = record { short = omega arith; bytes = refl; distinct = tt; fits = tt };
  formula_spelled = record { short = omega arith; bytes = refl; placed = (refl, (refl, (refl, tt)), refl); fits = (omega arith, (omega arith, omega arith, (omega arith, omega arith, ((omega arith, omega arith), tt)), (omega arith, omega arith))) };
}

abbrev open_name : List Problem
open_name = record { kind = 3; place = 5; name = 0 } ∷ []

set_and_empty-listed : Lists (infer_of (0x22 ∷ 0x00 ∷ 0x05 ∷ 0x01 ∷ 0x00 ∷ 0x01 ∷ 0x00 ∷ 0x00 ∷ 0x04 ∷ 0x08 ∷ []) [] 1 2048 1000 1000 10240) open_name
unfolding written spell_problems spell_problem four two
set_and_empty-listed = let e = two-unknowns-answered.0 in record { problems = ap (λ (a : Answer). a.number) e; spelt = ap (λ (a : Answer). a.bytes) e }

-- run in the Rust's direction, and finished over the arena that this leaves: number 1 and this list
pub set_and_empty-left : (t : Bench) × (budget : ℕ) × (o : Outcome) × Leaves nothing_held set_and_empty left_bound t × (finish nothing_held (walked nothing_held set_and_empty).row (walked nothing_held set_and_empty).slots t budget ≡ done o 0)
    × Lists (answer (infer_of (0x22 ∷ 0x00 ∷ 0x05 ∷ 0x01 ∷ 0x00 ∷ 0x01 ∷ 0x00 ∷ 0x00 ∷ 0x04 ∷ 0x08 ∷ []) [] 1 2048 1000 1000 10240).steps o) open_name
set_and_empty-left =
    let z = outcome-run nothing_held set_and_empty left_bound left_binds in
    let x = outcome-found nothing_held set_and_empty left_bound left_binds z.0 z.1 in
    let e = set_and_empty-listed.problems in
    let q = any_direction (0x22 ∷ 0x00 ∷ 0x05 ∷ 0x01 ∷ 0x00 ∷ 0x01 ∷ 0x00 ∷ 0x00 ∷ 0x04 ∷ 0x08 ∷ []) [] 1 2048 1000 1000 10240 [] set_and_empty set_and_empty-spelled (omega arith)
    left_bound left_binds z.0 z.1 (x.cost + 0) 0 x.answer (x.enough 0) in
    (z.0, x.cost + 0, x.answer, z.1, x.enough 0, subst (λ (a : Answer). Lists a open_name) q set_and_empty-listed)
