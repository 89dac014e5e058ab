-- The limits on a tree, apart from any stream: what makes a formula well formed beyond its shape.
-- d is the depth of a record: the root's is 0, a child's one more than its parent's, and every record counts: types, 4F, declarations and 0C too.
-- o is how many declarations are open at a record: from a declaration's own record to the end of its binder.
-- After this file a reader knows exactly which trees a stream may spell.
use Rattle.std.specs.Prelude.{ℕ, suc, ◌+◌, ◌≤◌, ◌<◌, ◌≡◌, Bool, true, false, List, [], ◌∷◌}
use Rattle.types.specs.Ty as T
use Rattle.types.specs.Ty.{Ty}
use Rattle.formula.specs.Tree.{Spelling, spells, no_type, Decl, plain, typed, annotated, Expr, free, bound, literal, atomic, extension, truth, binary, associative, unary, quantified, ascribed, explicit, Exprs, none, more, Pred, constant, variable, relational, connective, junction, negation, quantification, simple, multiple, application, Preds, end, also, Target, Formula, expression, predicate, becomes, becomes_in, becomes_such, decls, exprs, preds, targets, pairs, slots_of}
use Rattle.types.specs.Limits.{max_depth, max_slots, max_opened}

-- an expression that is no 0C
unfoldable pub is_bare : Expr → Bool
is_bare (free p n) = true
is_bare (bound p i) = true
is_bare (literal p) = true
is_bare (atomic p o) = true
is_bare (extension p es) = true
is_bare (truth p q) = true
is_bare (binary p o l r) = true
is_bare (associative p o es) = true
is_bare (unary p o e) = true
is_bare (quantified p o ds q e) = true
is_bare (ascribed p e q s) = true
is_bare (explicit p t e) = false

-- a type whose record has depth d: no record too deep, each given name below the count
unfoldable pub FitsTy : ℕ → ℕ → Ty → Type 0
FitsTy names d t = (d + T.depth t ≤ max_depth) × T.Below names t

unfoldable pub FitsSpelling : ℕ → ℕ → Spelling → Type 0
FitsSpelling names d (spells t) = FitsTy names d t
FitsSpelling names d no_type = d ≤ max_depth

unfoldable pub FitsDecl : ℕ → ℕ → Decl → Type 0
FitsDecl names d (plain p) = d ≤ max_depth
FitsDecl names d (typed p t) = (d ≤ max_depth) × FitsTy names (suc d) t
FitsDecl names d (annotated p s) = (d ≤ max_depth) × FitsSpelling names (suc d) s

unfoldable pub FitsDecls : ℕ → ℕ → List Decl → Type 0
FitsDecls names d [] = Unit {0}
FitsDecls names d (x ∷ xs) = FitsDecl names d x × FitsDecls names d xs

unfoldable mutual
  pub Fits : ℕ → ℕ → ℕ → Expr → Type 0
  Fits names d o (free p n) = (d ≤ max_depth) × (n < names)
  Fits names d o (bound p i) = d ≤ max_depth
  Fits names d o (literal p) = d ≤ max_depth
  Fits names d o (atomic p op) = (d ≤ max_depth) × (op < 12)
  Fits names d o (extension p es) = (d ≤ max_depth) × (1 ≤ exprs es) × FitsAll names (suc d) o es
  Fits names d o (truth p q) = (d ≤ max_depth) × FitsPred names (suc d) o q
  Fits names d o (binary p op a b) = (d ≤ max_depth) × (op < 27) × Fits names (suc d) o a × Fits names (suc d) o b
  Fits names d o (associative p op es) = (d ≤ max_depth) × (op < 7) × (2 ≤ exprs es) × FitsAll names (suc d) o es
  Fits names d o (unary p op a) = (d ≤ max_depth) × (op < 11) × Fits names (suc d) o a
  Fits names d o (quantified p op ds q a) = (d ≤ max_depth) × (op < 3) × (1 ≤ decls ds) × (o + decls ds ≤ max_opened) × FitsDecls names (suc d) ds × FitsPred names (suc d) (o + decls ds) q × Fits names (suc d) (o + decls ds) a
  Fits names d o (ascribed p a q s) = (d ≤ max_depth) × Fits names (suc d) o a × FitsSpelling names (suc d) s
  Fits names d o (explicit p t a) = (d ≤ max_depth) × FitsTy names (suc d) t × (is_bare a ≡ true) × Fits names (suc d) o a

  pub FitsAll : ℕ → ℕ → ℕ → Exprs → Type 0
  FitsAll names d o none = Unit {0}
  FitsAll names d o (more e es) = Fits names d o e × FitsAll names d o es

  pub FitsPred : ℕ → ℕ → ℕ → Pred → Type 0
  FitsPred names d o (constant p) = d ≤ max_depth
  FitsPred names d o (variable p) = d ≤ max_depth
  FitsPred names d o (relational p op a b) = (d ≤ max_depth) × (op < 12) × Fits names (suc d) o a × Fits names (suc d) o b
  FitsPred names d o (connective p a b) = (d ≤ max_depth) × FitsPred names (suc d) o a × FitsPred names (suc d) o b
  FitsPred names d o (junction p qs) = (d ≤ max_depth) × (2 ≤ preds qs) × FitsPreds names (suc d) o qs
  FitsPred names d o (negation p q) = (d ≤ max_depth) × FitsPred names (suc d) o q
  FitsPred names d o (quantification p ds q) = (d ≤ max_depth) × (1 ≤ decls ds) × (o + decls ds ≤ max_opened) × FitsDecls names (suc d) ds × FitsPred names (suc d) (o + decls ds) q
  FitsPred names d o (simple p a) = (d ≤ max_depth) × Fits names (suc d) o a
  FitsPred names d o (multiple p es) = (d ≤ max_depth) × (1 ≤ exprs es) × FitsAll names (suc d) o es
  FitsPred names d o (application p es) = (d ≤ max_depth) × FitsAll names (suc d) o es

  pub FitsPreds : ℕ → ℕ → ℕ → Preds → Type 0
  FitsPreds names d o end = Unit {0}
  FitsPreds names d o (also q qs) = FitsPred names d o q × FitsPreds names d o qs

-- each target's name is below the count
unfoldable pub FitsTargets : ℕ → List Target → Type 0
FitsTargets names [] = Unit {0}
FitsTargets names (t ∷ ts) = (t.name < names) × FitsTargets names ts

unfoldable pub FitsPairs : ℕ → List (Target × Expr) → Type 0
FitsPairs names [] = Unit {0}
FitsPairs names (x ∷ xs) = (x.0.name < names) × Fits names 1 0 x.1 × FitsPairs names xs

-- a formula but for its slots
unfoldable pub FitsRoot : ℕ → Formula → Type 0
FitsRoot names (expression a) = Fits names 0 0 a
FitsRoot names (predicate q) = FitsPred names 0 0 q
FitsRoot names (becomes p xs) = (1 ≤ pairs xs) × FitsPairs names xs
FitsRoot names (becomes_in p t ts a) = (t.name < names) × FitsTargets names ts × Fits names 1 0 a
FitsRoot names (becomes_such p ts ds q) = (1 ≤ targets ts) × (targets ts ≡ decls ds) × (decls ds ≤ max_opened) × FitsTargets names ts × FitsDecls names 1 ds × FitsPred names 1 (decls ds) q

unfoldable pub FitsFormula : ℕ → Formula → Type 0
FitsFormula names f = (slots_of f ≤ max_slots) × FitsRoot names f
