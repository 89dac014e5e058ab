-- A tree's size is the number of the bytes that spell it.
use Rattle.std.specs.Prelude.{ℕ, ◌+◌, ◌≡◌, refl, List, [], ◌∷◌, ◌++◌, length}
use Rattle.std.proofs.Common.{arith, ◌∙◌, length-append}
use Rattle.types.specs.Ty as T
use Rattle.types.specs.Ty.{Ty}
use Rattle.formula.specs.Tree.{Spelling, spells, no_type, Decl, plain, typed, annotated, Expr, free, bound, literal, atomic, extension, truth, binary, associative, unary, quantified, ascribed, explicit, Exprs, none, more, Pred, constant, variable, relational, connective, junction, negation, quantification, simple, multiple, application, Preds, end, also, Target, Formula, expression, predicate, becomes, becomes_in, becomes_such}
use Rattle.formula.specs.Spell.{spell_spelling, spell_decl, spell_decls, spell, spell_all, spell_pred, spell_preds, spell_target, spell_targets, spell_pairs, spell_formula, size_ty, size_spelling, size_decl, size_decls, size, size_all, size_pred, size_preds, size_targets, size_pairs, size_formula}

pub two : (x y : List ℕ) (n m : ℕ) → length x ≡ n → length y ≡ m → length (x ++ y) ≡ n + m
two x y n m h k = length-append x y ∙ (rw (h, k))

pub length_ty : (t : Ty) → length (T.spell t) ≡ size_ty t
unfolding T.spell T.spell_atom size_ty
length_ty (T.base T.bool) = refl
length_ty (T.base T.int) = refl
length_ty (T.base (T.given n)) = refl
length_ty (T.pow t) = let h = length_ty t in omega arith
length_ty (T.prod t u) = let h = two (T.spell t) (T.spell u) _ _ (length_ty t) (length_ty u) in omega arith

pub length_spelling : (x : Spelling) → length (spell_spelling x) ≡ size_spelling x
unfolding spell_spelling size_spelling
length_spelling (spells t) = length_ty t
length_spelling no_type = refl

pub length_decl : (x : Decl) → length (spell_decl x) ≡ size_decl x
unfolding spell_decl size_decl
length_decl (plain p) = refl
length_decl (typed p t) = let h = length_ty t in omega arith
length_decl (annotated p x) = let h = length_spelling x in omega arith

pub length-decls : (ds : List Decl) → length (spell_decls ds) ≡ size_decls ds
unfolding spell_decls size_decls
length-decls [] = refl
length-decls (x ∷ xs) = two (spell_decl x) (spell_decls xs) _ _ (length_decl x) (length-decls xs)

mutual
  unfolding spell spell_all spell_pred spell_preds size size_all size_pred size_preds

  pub length-expr : (e : Expr) → length (spell e) ≡ size e
  length-expr (free p n) = refl
  length-expr (bound p i) = refl
  length-expr (literal p) = refl
  length-expr (atomic p o) = refl
  length-expr (extension p es) = let h = length-all es in omega arith
  length-expr (truth p q) = let h = length_pred q in omega arith
  length-expr (binary p o a b) = let h = two (spell a) (spell b) _ _ (length-expr a) (length-expr b) in omega arith
  length-expr (associative p o es) = let h = length-all es in omega arith
  length-expr (unary p o a) = let h = length-expr a in omega arith
  length-expr (quantified p o ds q a) = let h = two (spell_decls ds) (spell_pred q ++ spell a) _ _ (length-decls ds) (two (spell_pred q) (spell a) _ _ (length_pred q) (length-expr a)) in omega arith
  length-expr (ascribed p a q x) = let h = two (spell a) (spell_spelling x) _ _ (length-expr a) (length_spelling x) in omega arith
  length-expr (explicit p t a) = let h = two (T.spell t) (spell a) _ _ (length_ty t) (length-expr a) in omega arith

  pub length-all : (es : Exprs) → length (spell_all es) ≡ size_all es
  length-all none = refl
  length-all (more e es) = two (spell e) (spell_all es) _ _ (length-expr e) (length-all es)

  pub length_pred : (q : Pred) → length (spell_pred q) ≡ size_pred q
  length_pred (constant p) = refl
  length_pred (variable p) = refl
  length_pred (relational p o a b) = let h = two (spell a) (spell b) _ _ (length-expr a) (length-expr b) in omega arith
  length_pred (connective p a b) = let h = two (spell_pred a) (spell_pred b) _ _ (length_pred a) (length_pred b) in omega arith
  length_pred (junction p qs) = let h = length-preds qs in omega arith
  length_pred (negation p q) = let h = length_pred q in omega arith
  length_pred (quantification p ds q) = let h = two (spell_decls ds) (spell_pred q) _ _ (length-decls ds) (length_pred q) in omega arith
  length_pred (simple p a) = let h = length-expr a in omega arith
  length_pred (multiple p es) = let h = length-all es in omega arith
  length_pred (application p es) = let h = length-all es in omega arith

  pub length-preds : (qs : Preds) → length (spell_preds qs) ≡ size_preds qs
  length-preds end = refl
  length-preds (also q qs) = two (spell_pred q) (spell_preds qs) _ _ (length_pred q) (length-preds qs)

pub length-targets : (ts : List Target) → length (spell_targets ts) ≡ size_targets ts
unfolding spell_targets size_targets spell_target
length-targets [] = refl
length-targets (t ∷ ts) = let h = length-targets ts in omega arith

pub length_pairs : (xs : List (Target × Expr)) → length (spell_pairs xs) ≡ size_pairs xs
unfolding spell_pairs size_pairs spell_target
length_pairs [] = refl
length_pairs (x ∷ xs) = let h = two (spell x.1) (spell_pairs xs) _ _ (length-expr x.1) (length_pairs xs) in omega arith

pub length-formula : (f : Formula) → length (spell_formula f) ≡ size_formula f
unfolding spell_formula size_formula spell_target
length-formula (expression a) = length-expr a
length-formula (predicate q) = length_pred q
length-formula (becomes p xs) = let h = length_pairs xs in omega arith
length-formula (becomes_in p t ts a) = let h = two (spell_targets ts) (spell a) _ _ (length-targets ts) (length-expr a) in omega arith
length-formula (becomes_such p ts ds q) = let h = two (spell_targets ts) (spell_decls ds ++ spell_pred q) _ _ (length-targets ts) (two (spell_decls ds) (spell_pred q) _ _ (length-decls ds) (length_pred q)) in omega arith
