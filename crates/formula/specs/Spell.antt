-- The bytes that spell a tree, how many they are, and what it means that a tree's places are the offsets of its records.
-- After this file a reader can write down the stream of any formula.
use Rattle.std.specs.Prelude.{ℕ, suc, ◌+◌, ◌/◌, ◌%◌, ◌≡◌, List, [], ◌∷◌, ◌++◌}
use Rattle.types.specs.Ty as T
use Rattle.types.specs.Ty.{Ty}
use Rattle.formula.specs.Tree.{Spelling, spells, no_type, Decl, plain, typed, annotated, Expr, free, bound, literal, atomic, extension, truth, binary, associative, unary, quantified, ascribed, explicit, Exprs, none, more, Pred, constant, variable, relational, connective, junction, negation, quantification, simple, multiple, application, Preds, end, also, Target, Formula, expression, predicate, becomes, becomes_in, becomes_such, decls, exprs, preds, targets, pairs}

-- ---- bytes. Counts, names and indices take two, the lower first; the counts of 0A, 26 and of assignments one

unfoldable pub spell_spelling : Spelling → List ℕ
spell_spelling (spells t) = T.spell t
spell_spelling no_type = 0x4F ∷ []

unfoldable pub spell_decl : Decl → List ℕ
spell_decl (plain p) = 0x10 ∷ []
spell_decl (typed p t) = 0x11 ∷ T.spell t
spell_decl (annotated p s) = 0x12 ∷ spell_spelling s

unfoldable pub spell_decls : List Decl → List ℕ
spell_decls [] = []
spell_decls (d ∷ ds) = spell_decl d ++ spell_decls ds

unfoldable mutual
  pub spell : Expr → List ℕ
  spell (free p n) = 0x01 ∷ n % 256 ∷ n / 256 ∷ []
  spell (bound p i) = 0x02 ∷ i % 256 ∷ i / 256 ∷ []
  spell (literal p) = 0x03 ∷ []
  spell (atomic p o) = 0x04 ∷ o ∷ []
  spell (extension p es) = 0x05 ∷ exprs es % 256 ∷ exprs es / 256 ∷ spell_all es
  spell (truth p q) = 0x06 ∷ spell_pred q
  spell (binary p o l r) = 0x07 ∷ o ∷ (spell l ++ spell r)
  spell (associative p o es) = 0x08 ∷ o ∷ exprs es % 256 ∷ exprs es / 256 ∷ spell_all es
  spell (unary p o e) = 0x09 ∷ o ∷ spell e
  spell (quantified p o ds q e) = 0x0A ∷ o ∷ decls ds ∷ (spell_decls ds ++ (spell_pred q ++ spell e))
  spell (ascribed p e q s) = 0x0B ∷ (spell e ++ spell_spelling s)
  spell (explicit p t e) = 0x0C ∷ (T.spell t ++ spell e)

  pub spell_all : Exprs → List ℕ
  spell_all none = []
  spell_all (more e es) = spell e ++ spell_all es

  pub spell_pred : Pred → List ℕ
  spell_pred (constant p) = 0x20 ∷ []
  spell_pred (variable p) = 0x21 ∷ []
  spell_pred (relational p o l r) = 0x22 ∷ o ∷ (spell l ++ spell r)
  spell_pred (connective p l r) = 0x23 ∷ (spell_pred l ++ spell_pred r)
  spell_pred (junction p qs) = 0x24 ∷ preds qs % 256 ∷ preds qs / 256 ∷ spell_preds qs
  spell_pred (negation p q) = 0x25 ∷ spell_pred q
  spell_pred (quantification p ds q) = 0x26 ∷ decls ds ∷ (spell_decls ds ++ spell_pred q)
  spell_pred (simple p e) = 0x27 ∷ spell e
  spell_pred (multiple p es) = 0x28 ∷ exprs es % 256 ∷ exprs es / 256 ∷ spell_all es
  spell_pred (application p es) = 0x29 ∷ exprs es % 256 ∷ exprs es / 256 ∷ spell_all es

  pub spell_preds : Preds → List ℕ
  spell_preds end = []
  spell_preds (also q qs) = spell_pred q ++ spell_preds qs

unfoldable pub spell_target : Target → List ℕ
spell_target t = 0x01 ∷ t.name % 256 ∷ t.name / 256 ∷ []

unfoldable pub spell_targets : List Target → List ℕ
spell_targets [] = []
spell_targets (t ∷ ts) = spell_target t ++ spell_targets ts

unfoldable pub spell_pairs : List (Target × Expr) → List ℕ
spell_pairs [] = []
spell_pairs (x ∷ xs) = spell_target x.0 ++ (spell x.1 ++ spell_pairs xs)

unfoldable pub spell_formula : Formula → List ℕ
spell_formula (expression e) = spell e
spell_formula (predicate q) = spell_pred q
spell_formula (becomes p xs) = 0x30 ∷ pairs xs ∷ spell_pairs xs
spell_formula (becomes_in p t ts e) = 0x31 ∷ suc (targets ts) ∷ (spell_target t ++ (spell_targets ts ++ spell e))
spell_formula (becomes_such p ts ds q) = 0x32 ∷ targets ts ∷ (spell_targets ts ++ (spell_decls ds ++ spell_pred q))

-- ---- how many bytes

unfoldable pub size_ty : Ty → ℕ
size_ty (T.base T.bool) = 1
size_ty (T.base T.int) = 1
size_ty (T.base (T.given n)) = 3
size_ty (T.pow t) = 1 + size_ty t
size_ty (T.prod t u) = 1 + (size_ty t + size_ty u)

unfoldable pub size_spelling : Spelling → ℕ
size_spelling (spells t) = size_ty t
size_spelling no_type = 1

unfoldable pub size_decl : Decl → ℕ
size_decl (plain p) = 1
size_decl (typed p t) = 1 + size_ty t
size_decl (annotated p s) = 1 + size_spelling s

unfoldable pub size_decls : List Decl → ℕ
size_decls [] = 0
size_decls (d ∷ ds) = size_decl d + size_decls ds

unfoldable mutual
  pub size : Expr → ℕ
  size (free p n) = 3
  size (bound p i) = 3
  size (literal p) = 1
  size (atomic p o) = 2
  size (extension p es) = 3 + size_all es
  size (truth p q) = 1 + size_pred q
  size (binary p o l r) = 2 + (size l + size r)
  size (associative p o es) = 4 + size_all es
  size (unary p o e) = 2 + size e
  size (quantified p o ds q e) = 3 + (size_decls ds + (size_pred q + size e))
  size (ascribed p e q s) = 1 + (size e + size_spelling s)
  size (explicit p t e) = 1 + (size_ty t + size e)

  pub size_all : Exprs → ℕ
  size_all none = 0
  size_all (more e es) = size e + size_all es

  pub size_pred : Pred → ℕ
  size_pred (constant p) = 1
  size_pred (variable p) = 1
  size_pred (relational p o l r) = 2 + (size l + size r)
  size_pred (connective p l r) = 1 + (size_pred l + size_pred r)
  size_pred (junction p qs) = 3 + size_preds qs
  size_pred (negation p q) = 1 + size_pred q
  size_pred (quantification p ds q) = 2 + (size_decls ds + size_pred q)
  size_pred (simple p e) = 1 + size e
  size_pred (multiple p es) = 3 + size_all es
  size_pred (application p es) = 3 + size_all es

  pub size_preds : Preds → ℕ
  size_preds end = 0
  size_preds (also q qs) = size_pred q + size_preds qs

unfoldable pub size_targets : List Target → ℕ
size_targets [] = 0
size_targets (t ∷ ts) = 3 + size_targets ts

unfoldable pub size_pairs : List (Target × Expr) → ℕ
size_pairs [] = 0
size_pairs (x ∷ xs) = 3 + (size x.1 + size_pairs xs)

unfoldable pub size_formula : Formula → ℕ
size_formula (expression e) = size e
size_formula (predicate q) = size_pred q
size_formula (becomes p xs) = 2 + size_pairs xs
size_formula (becomes_in p t ts e) = 2 + (3 + (size_targets ts + size e))
size_formula (becomes_such p ts ds q) = 2 + (size_targets ts + (size_decls ds + size_pred q))

-- ---- a tree stands at p: each record's place is its offset, where the tree's first byte has offset p

unfoldable pub PlacedDecl : ℕ → Decl → Type 0
PlacedDecl p (plain r) = r ≡ p
PlacedDecl p (typed r t) = r ≡ p
PlacedDecl p (annotated r s) = r ≡ p

unfoldable pub PlacedDecls : ℕ → List Decl → Type 0
PlacedDecls p [] = Unit {0}
PlacedDecls p (d ∷ ds) = PlacedDecl p d × PlacedDecls (p + size_decl d) ds

unfoldable mutual
  pub Placed : ℕ → Expr → Type 0
  Placed p (free r n) = r ≡ p
  Placed p (bound r i) = r ≡ p
  Placed p (literal r) = r ≡ p
  Placed p (atomic r o) = r ≡ p
  Placed p (extension r es) = (r ≡ p) × Placed_all (p + 3) es
  Placed p (truth r q) = (r ≡ p) × PlacedPred (p + 1) q
  Placed p (binary r o a b) = (r ≡ p) × Placed (p + 2) a × Placed (p + 2 + size a) b
  Placed p (associative r o es) = (r ≡ p) × Placed_all (p + 4) es
  Placed p (unary r o e) = (r ≡ p) × Placed (p + 2) e
  Placed p (quantified r o ds q e) = (r ≡ p) × PlacedDecls (p + 3) ds × PlacedPred (p + 3 + size_decls ds) q × Placed (p + 3 + size_decls ds + size_pred q) e
  Placed p (ascribed r e t s) = (r ≡ p) × Placed (p + 1) e × (t ≡ p + 1 + size e)
  Placed p (explicit r t e) = (r ≡ p) × Placed (p + 1 + size_ty t) e

  pub Placed_all : ℕ → Exprs → Type 0
  Placed_all p none = Unit {0}
  Placed_all p (more e es) = Placed p e × Placed_all (p + size e) es

  pub PlacedPred : ℕ → Pred → Type 0
  PlacedPred p (constant r) = r ≡ p
  PlacedPred p (variable r) = r ≡ p
  PlacedPred p (relational r o a b) = (r ≡ p) × Placed (p + 2) a × Placed (p + 2 + size a) b
  PlacedPred p (connective r a b) = (r ≡ p) × PlacedPred (p + 1) a × PlacedPred (p + 1 + size_pred a) b
  PlacedPred p (junction r qs) = (r ≡ p) × PlacedPreds (p + 3) qs
  PlacedPred p (negation r q) = (r ≡ p) × PlacedPred (p + 1) q
  PlacedPred p (quantification r ds q) = (r ≡ p) × PlacedDecls (p + 2) ds × PlacedPred (p + 2 + size_decls ds) q
  PlacedPred p (simple r e) = (r ≡ p) × Placed (p + 1) e
  PlacedPred p (multiple r es) = (r ≡ p) × Placed_all (p + 3) es
  PlacedPred p (application r es) = (r ≡ p) × Placed_all (p + 3) es

  pub PlacedPreds : ℕ → Preds → Type 0
  PlacedPreds p end = Unit {0}
  PlacedPreds p (also q qs) = PlacedPred p q × PlacedPreds (p + size_pred q) qs

unfoldable pub PlacedTargets : ℕ → List Target → Type 0
PlacedTargets p [] = Unit {0}
PlacedTargets p (t ∷ ts) = (t.place ≡ p) × PlacedTargets (p + 3) ts

unfoldable pub PlacedPairs : ℕ → List (Target × Expr) → Type 0
PlacedPairs p [] = Unit {0}
PlacedPairs p (x ∷ xs) = (x.0.place ≡ p) × Placed (p + 3) x.1 × PlacedPairs (p + 3 + size x.1) xs

unfoldable pub PlacedFormula : ℕ → Formula → Type 0
PlacedFormula p (expression e) = Placed p e
PlacedFormula p (predicate q) = PlacedPred p q
PlacedFormula p (becomes r xs) = (r ≡ p) × PlacedPairs (p + 2) xs
PlacedFormula p (becomes_in r t ts e) = (r ≡ p) × (t.place ≡ p + 2) × PlacedTargets (p + 5) ts × Placed (p + 5 + size_targets ts) e
PlacedFormula p (becomes_such r ts ds q) = (r ≡ p) × PlacedTargets (p + 2) ts × PlacedDecls (p + 2 + size_targets ts) ds × PlacedPred (p + 2 + size_targets ts + size_decls ds) q
