-- The limits by themselves: every record at depth 64 or less, at most 64 declarations open at once, at most 1,024 slots (d and o as in Fits).
-- Fits is exactly Shape and the limits: `shape-fits`, `fits-limited` and `fits-formula`. So Shape is what is well formed, limits aside.
-- Theorems that rest on what must-fail edits change stand in proofs/Limited.antt.
use Rattle.std.specs.Prelude.{ℕ, suc, ◌+◌, ◌≤◌, List, [], ◌∷◌}
use Rattle.types.specs.Ty as T
use Rattle.types.specs.Ty.{Ty}
use Rattle.types.specs.Limits.{max_depth, max_slots, max_opened}
use Rattle.formula.specs.Tree.{Spelling, spells, no_type, Decl, plain, typed, annotated, Expr, free, bound, literal, atomic, extension, truth, binary, associative, unary, quantified, ascribed, explicit, Exprs, none, more, Pred, constant, variable, relational, connective, junction, negation, quantification, simple, multiple, application, Preds, end, also, Target, Formula, expression, predicate, becomes, becomes_in, becomes_such, decls, slots_of}
use Rattle.formula_laws.specs.Fits.{FitsTargets}
use Rattle.formula_laws.specs.Shape.{ShapeTargets}

-- a type whose record has depth d: its deepest record
unfoldable pub LimitedTy : ℕ → Ty → Type 0
LimitedTy d t = d + T.depth t ≤ max_depth

unfoldable pub LimitedSpelling : ℕ → Spelling → Type 0
LimitedSpelling d (spells t) = LimitedTy d t
LimitedSpelling d no_type = d ≤ max_depth

unfoldable pub LimitedDecl : ℕ → Decl → Type 0
LimitedDecl d (plain p) = d ≤ max_depth
LimitedDecl d (typed p t) = (d ≤ max_depth) × LimitedTy (suc d) t
LimitedDecl d (annotated p x) = (d ≤ max_depth) × LimitedSpelling (suc d) x

unfoldable pub LimitedDecls : ℕ → List Decl → Type 0
LimitedDecls d [] = Unit {0}
LimitedDecls d (x ∷ xs) = LimitedDecl d x × LimitedDecls d xs

unfoldable mutual
  pub Limited : ℕ → ℕ → Expr → Type 0
  Limited d o (free p n) = d ≤ max_depth
  Limited d o (bound p i) = d ≤ max_depth
  Limited d o (literal p) = d ≤ max_depth
  Limited d o (atomic p op) = d ≤ max_depth
  Limited d o (extension p es) = (d ≤ max_depth) × LimitedAll (suc d) o es
  Limited d o (truth p q) = (d ≤ max_depth) × LimitedPred (suc d) o q
  Limited d o (binary p op a b) = (d ≤ max_depth) × Limited (suc d) o a × Limited (suc d) o b
  Limited d o (associative p op es) = (d ≤ max_depth) × LimitedAll (suc d) o es
  Limited d o (unary p op a) = (d ≤ max_depth) × Limited (suc d) o a
  Limited d o (quantified p op ds q a) = (d ≤ max_depth) × (o + decls ds ≤ max_opened) × LimitedDecls (suc d) ds × LimitedPred (suc d) (o + decls ds) q × Limited (suc d) (o + decls ds) a
  Limited d o (ascribed p a q x) = (d ≤ max_depth) × Limited (suc d) o a × LimitedSpelling (suc d) x
  Limited d o (explicit p t a) = (d ≤ max_depth) × LimitedTy (suc d) t × Limited (suc d) o a

  pub LimitedAll : ℕ → ℕ → Exprs → Type 0
  LimitedAll d o none = Unit {0}
  LimitedAll d o (more a es) = Limited d o a × LimitedAll d o es

  pub LimitedPred : ℕ → ℕ → Pred → Type 0
  LimitedPred d o (constant p) = d ≤ max_depth
  LimitedPred d o (variable p) = d ≤ max_depth
  LimitedPred d o (relational p op a b) = (d ≤ max_depth) × Limited (suc d) o a × Limited (suc d) o b
  LimitedPred d o (connective p a b) = (d ≤ max_depth) × LimitedPred (suc d) o a × LimitedPred (suc d) o b
  LimitedPred d o (junction p qs) = (d ≤ max_depth) × LimitedPreds (suc d) o qs
  LimitedPred d o (negation p a) = (d ≤ max_depth) × LimitedPred (suc d) o a
  LimitedPred d o (quantification p ds a) = (d ≤ max_depth) × (o + decls ds ≤ max_opened) × LimitedDecls (suc d) ds × LimitedPred (suc d) (o + decls ds) a
  LimitedPred d o (simple p a) = (d ≤ max_depth) × Limited (suc d) o a
  LimitedPred d o (multiple p es) = (d ≤ max_depth) × LimitedAll (suc d) o es
  LimitedPred d o (application p es) = (d ≤ max_depth) × LimitedAll (suc d) o es

  pub LimitedPreds : ℕ → ℕ → Preds → Type 0
  LimitedPreds d o end = Unit {0}
  LimitedPreds d o (also a qs) = LimitedPred d o a × LimitedPreds d o qs

unfoldable pub LimitedPairs : List (Target × Expr) → Type 0
LimitedPairs [] = Unit {0}
LimitedPairs (x ∷ xs) = Limited 1 0 x.1 × LimitedPairs xs

-- a formula but for its slots; the root of an assignment has depth 0, its targets 1
unfoldable pub LimitedRoot : Formula → Type 0
LimitedRoot (expression a) = Limited 0 0 a
LimitedRoot (predicate a) = LimitedPred 0 0 a
LimitedRoot (becomes p xs) = LimitedPairs xs
LimitedRoot (becomes_in p t ts a) = Limited 1 0 a
LimitedRoot (becomes_such p ts ds a) = (decls ds ≤ max_opened) × LimitedDecls 1 ds × LimitedPred 1 (decls ds) a

unfoldable pub LimitedFormula : Formula → Type 0
LimitedFormula f = (slots_of f ≤ max_slots) × LimitedRoot f

pub shape-fits-targets : (names : ℕ) (ts : List Target) → ShapeTargets names ts → FitsTargets names ts
unfolding FitsTargets ShapeTargets
shape-fits-targets names [] s = tt
shape-fits-targets names (t ∷ ts) s = (s.0, shape-fits-targets names ts s.1)
