-- The well-formed trees, limits aside: operators, names and counts in range, no 0C under 0C.
-- A tree that keeps the limits is well formed (`fits-shape`).
-- Theorems that rest on what must-fail edits change stand in proofs/Shape.antt.
use Rattle.std.specs.Prelude.{ℕ, ◌≤◌, ◌<◌, ◌≡◌, true, List, [], ◌∷◌}
use Rattle.types.specs.Ty as T
use Rattle.formula.specs.Tree.{Spelling, spells, no_type, Decl, plain, typed, annotated, Expr, free, bound, literal, atomic, extension, truth, binary, associative, unary, quantified, ascribed, explicit, Exprs, none, more, Pred, constant, variable, relational, connective, junction, negation, quantification, simple, multiple, application, Preds, end, also, Target, Formula, expression, predicate, becomes, becomes_in, becomes_such, decls, exprs, preds, targets, pairs}
use Rattle.formula_laws.specs.Fits.{is_bare, FitsTargets}

unfoldable pub ShapeSpelling : ℕ → Spelling → Type 0
ShapeSpelling names (spells t) = T.Below names t
ShapeSpelling names no_type = Unit {0}

unfoldable pub ShapeDecl : ℕ → Decl → Type 0
ShapeDecl names (plain p) = Unit {0}
ShapeDecl names (typed p t) = T.Below names t
ShapeDecl names (annotated p x) = ShapeSpelling names x

unfoldable pub ShapeDecls : ℕ → List Decl → Type 0
ShapeDecls names [] = Unit {0}
ShapeDecls names (x ∷ xs) = ShapeDecl names x × ShapeDecls names xs

unfoldable mutual
  pub Shape : ℕ → Expr → Type 0
  Shape names (free p n) = n < names
  Shape names (bound p i) = Unit {0}
  Shape names (literal p) = Unit {0}
  Shape names (atomic p op) = op < 12
  Shape names (extension p es) = (1 ≤ exprs es) × ShapeAll names es
  Shape names (truth p q) = ShapePred names q
  Shape names (binary p op a b) = (op < 27) × Shape names a × Shape names b
  Shape names (associative p op es) = (op < 7) × (2 ≤ exprs es) × ShapeAll names es
  Shape names (unary p op a) = (op < 11) × Shape names a
  Shape names (quantified p op ds q a) = (op < 3) × (1 ≤ decls ds) × ShapeDecls names ds × ShapePred names q × Shape names a
  Shape names (ascribed p a q x) = Shape names a × ShapeSpelling names x
  Shape names (explicit p t a) = T.Below names t × (is_bare a ≡ true) × Shape names a

  pub ShapeAll : ℕ → Exprs → Type 0
  ShapeAll names none = Unit {0}
  ShapeAll names (more a es) = Shape names a × ShapeAll names es

  pub ShapePred : ℕ → Pred → Type 0
  ShapePred names (constant p) = Unit {0}
  ShapePred names (variable p) = Unit {0}
  ShapePred names (relational p op a b) = (op < 12) × Shape names a × Shape names b
  ShapePred names (connective p a b) = ShapePred names a × ShapePred names b
  ShapePred names (junction p qs) = (2 ≤ preds qs) × ShapePreds names qs
  ShapePred names (negation p a) = ShapePred names a
  ShapePred names (quantification p ds a) = (1 ≤ decls ds) × ShapeDecls names ds × ShapePred names a
  ShapePred names (simple p a) = Shape names a
  ShapePred names (multiple p es) = (1 ≤ exprs es) × ShapeAll names es
  ShapePred names (application p es) = ShapeAll names es

  pub ShapePreds : ℕ → Preds → Type 0
  ShapePreds names end = Unit {0}
  ShapePreds names (also a qs) = ShapePred names a × ShapePreds names qs

unfoldable pub ShapeTargets : ℕ → List Target → Type 0
ShapeTargets names [] = Unit {0}
ShapeTargets names (t ∷ ts) = (t.name < names) × ShapeTargets names ts

unfoldable pub ShapePairs : ℕ → List (Target × Expr) → Type 0
ShapePairs names [] = Unit {0}
ShapePairs names (x ∷ xs) = (x.0.name < names) × Shape names x.1 × ShapePairs names xs

unfoldable pub ShapeFormula : ℕ → Formula → Type 0
ShapeFormula names (expression a) = Shape names a
ShapeFormula names (predicate a) = ShapePred names a
ShapeFormula names (becomes p xs) = (1 ≤ pairs xs) × ShapePairs names xs
ShapeFormula names (becomes_in p t ts a) = (t.name < names) × ShapeTargets names ts × Shape names a
ShapeFormula names (becomes_such p ts ds a) = (1 ≤ targets ts) × (targets ts ≡ decls ds) × ShapeTargets names ts × ShapeDecls names ds × ShapePred names a

pub fits-targets : (names : ℕ) (ts : List Target) → FitsTargets names ts → ShapeTargets names ts
unfolding FitsTargets ShapeTargets
fits-targets names [] f = tt
fits-targets names (t ∷ ts) f = (f.0, fits-targets names ts f.1)
