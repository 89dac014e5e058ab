-- The theorems of specs/Shape.antt, whose head says what they give: `fits-shape`.
use Rattle.std.specs.Prelude.{ℕ, suc, ◌+◌, List, [], ◌∷◌}
use Rattle.formula.specs.Tree.{Spelling, spells, no_type, Decl, plain, typed, annotated, Expr, free, bound, literal, atomic, extension, truth, binary, associative, unary, quantified, ascribed, explicit, Exprs, none, more, Pred, constant, variable, relational, connective, junction, negation, quantification, simple, multiple, application, Preds, end, also, decls}
use Rattle.formula_laws.specs.Fits.{FitsTy, FitsSpelling, FitsDecl, FitsDecls, Fits, FitsAll, FitsPred, FitsPreds}
use Rattle.formula_laws.specs.Shape.{ShapeSpelling, ShapeDecl, ShapeDecls, Shape, ShapeAll, ShapePred, ShapePreds}

-- ---- what keeps the limits is well formed
pub fits_spelling : (names d : ℕ) (x : Spelling) → FitsSpelling names d x → ShapeSpelling names x
unfolding FitsSpelling FitsTy ShapeSpelling
fits_spelling names d (spells t) f = f.1
fits_spelling names d no_type f = tt

pub fits_decl : (names d : ℕ) (x : Decl) → FitsDecl names d x → ShapeDecl names x
unfolding FitsDecl FitsTy ShapeDecl
fits_decl names d (plain p) f = tt
fits_decl names d (typed p t) f = f.1.1
fits_decl names d (annotated p x) f = fits_spelling names (suc d) x f.1

pub fits-decls : (names d : ℕ) (xs : List Decl) → FitsDecls names d xs → ShapeDecls names xs
unfolding FitsDecls ShapeDecls
fits-decls names d [] f = tt
fits-decls names d (x ∷ xs) f = (fits_decl names d x f.0, fits-decls names d xs f.1)

mutual
  unfolding Fits FitsAll FitsPred FitsPreds FitsTy Shape ShapeAll ShapePred ShapePreds

  pub fits-shape : (a : Expr) (names d o : ℕ) → Fits names d o a → Shape names a
  fits-shape (free p n) names d o f = f.1
  fits-shape (bound p i) names d o f = tt
  fits-shape (literal p) names d o f = tt
  fits-shape (atomic p op) names d o f = f.1
  fits-shape (extension p es) names d o f = (f.1, fits_all es names (suc d) o f.2)
  fits-shape (truth p q) names d o f = fits_pred q names (suc d) o f.1
  fits-shape (binary p op a b) names d o f = (f.1, fits-shape a names (suc d) o f.2, fits-shape b names (suc d) o f.3)
  fits-shape (associative p op es) names d o f = (f.1, f.2, fits_all es names (suc d) o f.3)
  fits-shape (unary p op a) names d o f = (f.1, fits-shape a names (suc d) o f.2)
  fits-shape (quantified p op ds q a) names d o f = (f.1, f.2, fits-decls names (suc d) ds f.4, fits_pred q names (suc d) (o + decls ds) f.5, fits-shape a names (suc d) (o + decls ds) f.6)
  fits-shape (ascribed p a q x) names d o f = (fits-shape a names (suc d) o f.1, fits_spelling names (suc d) x f.2)
  fits-shape (explicit p t a) names d o f = (f.1.1, (let h = f.2 in cc), fits-shape a names (suc d) o f.3)

  pub fits_all : (es : Exprs) (names d o : ℕ) → FitsAll names d o es → ShapeAll names es
  fits_all none names d o f = tt
  fits_all (more a es) names d o f = (fits-shape a names d o f.0, fits_all es names d o f.1)

  pub fits_pred : (a : Pred) (names d o : ℕ) → FitsPred names d o a → ShapePred names a
  fits_pred (constant p) names d o f = tt
  fits_pred (variable p) names d o f = tt
  fits_pred (relational p op a b) names d o f = (f.1, fits-shape a names (suc d) o f.2, fits-shape b names (suc d) o f.3)
  fits_pred (connective p a b) names d o f = (fits_pred a names (suc d) o f.1, fits_pred b names (suc d) o f.2)
  fits_pred (junction p qs) names d o f = (f.1, fits-preds qs names (suc d) o f.2)
  fits_pred (negation p a) names d o f = fits_pred a names (suc d) o f.1
  fits_pred (quantification p ds a) names d o f = (f.1, fits-decls names (suc d) ds f.3, fits_pred a names (suc d) (o + decls ds) f.4)
  fits_pred (simple p a) names d o f = fits-shape a names (suc d) o f.1
  fits_pred (multiple p es) names d o f = (f.1, fits_all es names (suc d) o f.2)
  fits_pred (application p es) names d o f = fits_all es names (suc d) o f.1

  pub fits-preds : (qs : Preds) (names d o : ℕ) → FitsPreds names d o qs → ShapePreds names qs
  fits-preds end names d o f = tt
  fits-preds (also a qs) names d o f = (fits_pred a names d o f.0, fits-preds qs names d o f.1)
