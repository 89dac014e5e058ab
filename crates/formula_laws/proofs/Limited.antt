-- The theorems of specs/Limited.antt, whose head says what they give: `shape-fits`, `fits-limited`.
use Rattle.std.specs.Prelude.{ℕ, suc, ◌+◌, List, [], ◌∷◌}
use Rattle.formula.specs.Tree.{Spelling, spells, no_type, Decl, plain, typed, annotated, Expr, free, bound, literal, atomic, extension, truth, binary, associative, unary, quantified, ascribed, explicit, Exprs, none, more, Pred, constant, variable, relational, connective, junction, negation, quantification, simple, multiple, application, Preds, end, also, Target, Formula, expression, predicate, becomes, becomes_in, becomes_such, decls}
use Rattle.formula_laws.specs.Fits.{FitsTy, FitsSpelling, FitsDecl, FitsDecls, Fits, FitsAll, FitsPred, FitsPreds, FitsPairs, FitsRoot, FitsFormula}
use Rattle.formula_laws.specs.Shape.{ShapeSpelling, ShapeDecl, ShapeDecls, Shape, ShapeAll, ShapePred, ShapePreds, ShapePairs, ShapeFormula}
use Rattle.formula_laws.specs.Limited.{LimitedTy, LimitedSpelling, LimitedDecl, LimitedDecls, Limited, LimitedAll, LimitedPred, LimitedPreds, LimitedPairs, LimitedRoot, shape-fits-targets, LimitedFormula}

-- ---- a shape inside the limits fits
pub shape-fits_spelling : (names d : ℕ) (x : Spelling) → ShapeSpelling names x → LimitedSpelling d x → FitsSpelling names d x
unfolding FitsSpelling FitsTy ShapeSpelling LimitedSpelling LimitedTy
shape-fits_spelling names d (spells t) s l = (l, s)
shape-fits_spelling names d no_type s l = l

pub shape-fits_decl : (names d : ℕ) (x : Decl) → ShapeDecl names x → LimitedDecl d x → FitsDecl names d x
unfolding FitsDecl FitsTy ShapeDecl LimitedDecl LimitedTy
shape-fits_decl names d (plain p) s l = l
shape-fits_decl names d (typed p t) s l = (l.0, (l.1, s))
shape-fits_decl names d (annotated p x) s l = (l.0, shape-fits_spelling names (suc d) x s l.1)

pub shape-fits-decls : (names d : ℕ) (xs : List Decl) → ShapeDecls names xs → LimitedDecls d xs → FitsDecls names d xs
unfolding FitsDecls ShapeDecls LimitedDecls
shape-fits-decls names d [] s l = tt
shape-fits-decls names d (x ∷ xs) s l = (shape-fits_decl names d x s.0 l.0, shape-fits-decls names d xs s.1 l.1)

mutual
  unfolding Fits FitsAll FitsPred FitsPreds FitsTy Shape ShapeAll ShapePred ShapePreds Limited LimitedAll LimitedPred LimitedPreds LimitedTy

  pub shape-fits-expr : (a : Expr) (names d o : ℕ) → Shape names a → Limited d o a → Fits names d o a
  shape-fits-expr (free p n) names d o s l = (l, s)
  shape-fits-expr (bound p i) names d o s l = l
  shape-fits-expr (literal p) names d o s l = l
  shape-fits-expr (atomic p op) names d o s l = (l, s)
  shape-fits-expr (extension p es) names d o s l = (l.0, s.0, shape-fits-all es names (suc d) o s.1 l.1)
  shape-fits-expr (truth p q) names d o s l = (l.0, shape-fits_pred q names (suc d) o s l.1)
  shape-fits-expr (binary p op a b) names d o s l = (l.0, s.0, shape-fits-expr a names (suc d) o s.1 l.1, shape-fits-expr b names (suc d) o s.2 l.2)
  shape-fits-expr (associative p op es) names d o s l = (l.0, s.0, s.1, shape-fits-all es names (suc d) o s.2 l.1)
  shape-fits-expr (unary p op a) names d o s l = (l.0, s.0, shape-fits-expr a names (suc d) o s.1 l.1)
  shape-fits-expr (quantified p op ds q a) names d o s l = (l.0, s.0, s.1, l.1, shape-fits-decls names (suc d) ds s.2 l.2, shape-fits_pred q names (suc d) (o + decls ds) s.3 l.3, shape-fits-expr a names (suc d) (o + decls ds) s.4 l.4)
  shape-fits-expr (ascribed p a q x) names d o s l = (l.0, shape-fits-expr a names (suc d) o s.0 l.1, shape-fits_spelling names (suc d) x s.1 l.2)
  shape-fits-expr (explicit p t a) names d o s l = (l.0, (l.1, s.0), s.1, shape-fits-expr a names (suc d) o s.2 l.2)

  pub shape-fits-all : (es : Exprs) (names d o : ℕ) → ShapeAll names es → LimitedAll d o es → FitsAll names d o es
  shape-fits-all none names d o s l = tt
  shape-fits-all (more a es) names d o s l = (shape-fits-expr a names d o s.0 l.0, shape-fits-all es names d o s.1 l.1)

  pub shape-fits_pred : (a : Pred) (names d o : ℕ) → ShapePred names a → LimitedPred d o a → FitsPred names d o a
  shape-fits_pred (constant p) names d o s l = l
  shape-fits_pred (variable p) names d o s l = l
  shape-fits_pred (relational p op a b) names d o s l = (l.0, s.0, shape-fits-expr a names (suc d) o s.1 l.1, shape-fits-expr b names (suc d) o s.2 l.2)
  shape-fits_pred (connective p a b) names d o s l = (l.0, shape-fits_pred a names (suc d) o s.0 l.1, shape-fits_pred b names (suc d) o s.1 l.2)
  shape-fits_pred (junction p qs) names d o s l = (l.0, s.0, shape-fits-preds qs names (suc d) o s.1 l.1)
  shape-fits_pred (negation p a) names d o s l = (l.0, shape-fits_pred a names (suc d) o s l.1)
  shape-fits_pred (quantification p ds a) names d o s l = (l.0, s.0, l.1, shape-fits-decls names (suc d) ds s.1 l.2, shape-fits_pred a names (suc d) (o + decls ds) s.2 l.3)
  shape-fits_pred (simple p a) names d o s l = (l.0, shape-fits-expr a names (suc d) o s l.1)
  shape-fits_pred (multiple p es) names d o s l = (l.0, s.0, shape-fits-all es names (suc d) o s.1 l.1)
  shape-fits_pred (application p es) names d o s l = (l.0, shape-fits-all es names (suc d) o s l.1)

  pub shape-fits-preds : (qs : Preds) (names d o : ℕ) → ShapePreds names qs → LimitedPreds d o qs → FitsPreds names d o qs
  shape-fits-preds end names d o s l = tt
  shape-fits-preds (also a qs) names d o s l = (shape-fits_pred a names d o s.0 l.0, shape-fits-preds qs names d o s.1 l.1)

pub shape-fits-pairs : (names : ℕ) (xs : List (Target × Expr)) → ShapePairs names xs → LimitedPairs xs → FitsPairs names xs
unfolding FitsPairs ShapePairs LimitedPairs
shape-fits-pairs names [] s l = tt
shape-fits-pairs names (x ∷ xs) s l = (s.0, shape-fits-expr x.1 names 1 0 s.1 l.0, shape-fits-pairs names xs s.2 l.1)

pub shape-fits-root : (names : ℕ) (f : Formula) → ShapeFormula names f → LimitedRoot f → FitsRoot names f
unfolding FitsRoot ShapeFormula LimitedRoot
shape-fits-root names (expression a) s l = shape-fits-expr a names 0 0 s l
shape-fits-root names (predicate a) s l = shape-fits_pred a names 0 0 s l
shape-fits-root names (becomes p xs) s l = (s.0, shape-fits-pairs names xs s.1 l)
shape-fits-root names (becomes_in p t ts a) s l = (s.0, shape-fits-targets names ts s.1, shape-fits-expr a names 1 0 s.2 l)
shape-fits-root names (becomes_such p ts ds a) s l = (s.0, s.1, l.0, shape-fits-targets names ts s.2, shape-fits-decls names 1 ds s.3 l.1, shape-fits_pred a names 1 (decls ds) s.4 l.2)

pub shape-fits : (names : ℕ) (f : Formula) → ShapeFormula names f → LimitedFormula f → FitsFormula names f
unfolding FitsFormula LimitedFormula
shape-fits names f s l = (l.0, shape-fits-root names f s l.1)

-- ---- what fits keeps the limits
pub fits-limited_spelling : (names d : ℕ) (x : Spelling) → FitsSpelling names d x → LimitedSpelling d x
unfolding FitsSpelling FitsTy LimitedSpelling LimitedTy
fits-limited_spelling names d (spells t) f = f.0
fits-limited_spelling names d no_type f = f

pub fits-limited_decl : (names d : ℕ) (x : Decl) → FitsDecl names d x → LimitedDecl d x
unfolding FitsDecl FitsTy LimitedDecl LimitedTy
fits-limited_decl names d (plain p) f = f
fits-limited_decl names d (typed p t) f = (f.0, f.1.0)
fits-limited_decl names d (annotated p x) f = (f.0, fits-limited_spelling names (suc d) x f.1)

pub fits-limited-decls : (names d : ℕ) (xs : List Decl) → FitsDecls names d xs → LimitedDecls d xs
unfolding FitsDecls LimitedDecls
fits-limited-decls names d [] f = tt
fits-limited-decls names d (x ∷ xs) f = (fits-limited_decl names d x f.0, fits-limited-decls names d xs f.1)

mutual
  unfolding Fits FitsAll FitsPred FitsPreds FitsTy Limited LimitedAll LimitedPred LimitedPreds LimitedTy

  pub fits-limited-expr : (a : Expr) (names d o : ℕ) → Fits names d o a → Limited d o a
  fits-limited-expr (free p n) names d o f = f.0
  fits-limited-expr (bound p i) names d o f = f
  fits-limited-expr (literal p) names d o f = f
  fits-limited-expr (atomic p op) names d o f = f.0
  fits-limited-expr (extension p es) names d o f = (f.0, fits-limited-all es names (suc d) o f.2)
  fits-limited-expr (truth p q) names d o f = (f.0, fits-limited_pred q names (suc d) o f.1)
  fits-limited-expr (binary p op a b) names d o f = (f.0, fits-limited-expr a names (suc d) o f.2, fits-limited-expr b names (suc d) o f.3)
  fits-limited-expr (associative p op es) names d o f = (f.0, fits-limited-all es names (suc d) o f.3)
  fits-limited-expr (unary p op a) names d o f = (f.0, fits-limited-expr a names (suc d) o f.2)
  fits-limited-expr (quantified p op ds q a) names d o f = (f.0, f.3, fits-limited-decls names (suc d) ds f.4, fits-limited_pred q names (suc d) (o + decls ds) f.5, fits-limited-expr a names (suc d) (o + decls ds) f.6)
  fits-limited-expr (ascribed p a q x) names d o f = (f.0, fits-limited-expr a names (suc d) o f.1, fits-limited_spelling names (suc d) x f.2)
  fits-limited-expr (explicit p t a) names d o f = (f.0, f.1.0, fits-limited-expr a names (suc d) o f.3)

  pub fits-limited-all : (es : Exprs) (names d o : ℕ) → FitsAll names d o es → LimitedAll d o es
  fits-limited-all none names d o f = tt
  fits-limited-all (more a es) names d o f = (fits-limited-expr a names d o f.0, fits-limited-all es names d o f.1)

  pub fits-limited_pred : (a : Pred) (names d o : ℕ) → FitsPred names d o a → LimitedPred d o a
  fits-limited_pred (constant p) names d o f = f
  fits-limited_pred (variable p) names d o f = f
  fits-limited_pred (relational p op a b) names d o f = (f.0, fits-limited-expr a names (suc d) o f.2, fits-limited-expr b names (suc d) o f.3)
  fits-limited_pred (connective p a b) names d o f = (f.0, fits-limited_pred a names (suc d) o f.1, fits-limited_pred b names (suc d) o f.2)
  fits-limited_pred (junction p qs) names d o f = (f.0, fits-limited-preds qs names (suc d) o f.2)
  fits-limited_pred (negation p a) names d o f = (f.0, fits-limited_pred a names (suc d) o f.1)
  fits-limited_pred (quantification p ds a) names d o f = (f.0, f.2, fits-limited-decls names (suc d) ds f.3, fits-limited_pred a names (suc d) (o + decls ds) f.4)
  fits-limited_pred (simple p a) names d o f = (f.0, fits-limited-expr a names (suc d) o f.1)
  fits-limited_pred (multiple p es) names d o f = (f.0, fits-limited-all es names (suc d) o f.2)
  fits-limited_pred (application p es) names d o f = (f.0, fits-limited-all es names (suc d) o f.1)

  pub fits-limited-preds : (qs : Preds) (names d o : ℕ) → FitsPreds names d o qs → LimitedPreds d o qs
  fits-limited-preds end names d o f = tt
  fits-limited-preds (also a qs) names d o f = (fits-limited_pred a names d o f.0, fits-limited-preds qs names d o f.1)

pub fits-limited-pairs : (names : ℕ) (xs : List (Target × Expr)) → FitsPairs names xs → LimitedPairs xs
unfolding FitsPairs LimitedPairs
fits-limited-pairs names [] f = tt
fits-limited-pairs names (x ∷ xs) f = (fits-limited-expr x.1 names 1 0 f.1, fits-limited-pairs names xs f.2)

pub fits-limited-root : (names : ℕ) (a : Formula) → FitsRoot names a → LimitedRoot a
unfolding FitsRoot LimitedRoot
fits-limited-root names (expression a) f = fits-limited-expr a names 0 0 f
fits-limited-root names (predicate a) f = fits-limited_pred a names 0 0 f
fits-limited-root names (becomes p xs) f = fits-limited-pairs names xs f.1
fits-limited-root names (becomes_in p t ts a) f = fits-limited-expr a names 1 0 f.2
fits-limited-root names (becomes_such p ts ds a) f = (f.2, fits-limited-decls names 1 ds f.4, fits-limited_pred a names 1 (decls ds) f.5)

pub fits-limited : (names : ℕ) (a : Formula) → FitsFormula names a → LimitedFormula a
unfolding FitsFormula LimitedFormula
fits-limited names a f = (f.0, fits-limited-root names a f.1)
