-- A formula as a tree, record by record, beside the table of kinds. The first number of a record is its place.
-- After this file a reader knows what trees there are, and which records own a slot, in which order.
use Rattle.std.specs.Prelude.{ℕ, suc, ◌+◌, List, [], ◌∷◌}
use Rattle.types.specs.Ty.{Ty}

-- what an annotation or an ascription spells: a type, or 4F
pub data Spelling : Type 0 where
  spells : Ty → Spelling
  no_type : Spelling

pub data Decl : Type 0 where
  plain : ℕ → Decl  -- 10
  typed : ℕ → Ty → Decl  -- 11
  annotated : ℕ → Spelling → Decl  -- 12

mutual
  pub data Expr : Type 0 where
    free : ℕ → ℕ → Expr  -- 01: name
    bound : ℕ → ℕ → Expr  -- 02: index
    literal : ℕ → Expr  -- 03
    atomic : ℕ → ℕ → Expr  -- 04: operator
    extension : ℕ → Exprs → Expr  -- 05
    truth : ℕ → Pred → Expr  -- 06
    binary : ℕ → ℕ → Expr → Expr → Expr  -- 07: operator
    associative : ℕ → ℕ → Exprs → Expr  -- 08: operator
    unary : ℕ → ℕ → Expr → Expr  -- 09: operator
    quantified : ℕ → ℕ → List Decl → Pred → Expr → Expr  -- 0A: operator
    ascribed : ℕ → Expr → ℕ → Spelling → Expr  -- 0B: place and spelling of the type
    explicit : ℕ → Ty → Expr → Expr  -- 0C

  pub data Exprs : Type 0 where
    none : Exprs
    more : Expr → Exprs → Exprs

  pub data Pred : Type 0 where
    constant : ℕ → Pred  -- 20
    variable : ℕ → Pred  -- 21
    relational : ℕ → ℕ → Expr → Expr → Pred  -- 22: operator
    connective : ℕ → Pred → Pred → Pred  -- 23
    junction : ℕ → Preds → Pred  -- 24
    negation : ℕ → Pred → Pred  -- 25
    quantification : ℕ → List Decl → Pred → Pred  -- 26
    simple : ℕ → Expr → Pred  -- 27
    multiple : ℕ → Exprs → Pred  -- 28
    application : ℕ → Exprs → Pred  -- 29

  pub data Preds : Type 0 where
    end : Preds
    also : Pred → Preds → Preds

-- a target, a record 01: place and name
pub record Target : Type 0 where
  pub place : ℕ
  pub name : ℕ

pub data Formula : Type 0 where
  expression : Expr → Formula
  predicate : Pred → Formula
  becomes : ℕ → List (Target × Expr) → Formula  -- 30
  becomes_in : ℕ → Target → List Target → Expr → Formula  -- 31
  becomes_such : ℕ → List Target → List Decl → Pred → Formula  -- 32

-- where a comparison with an expression is placed: 0C is no expression of its own
unfoldable pub place : Expr → ℕ
place (free p n) = p
place (bound p i) = p
place (literal p) = p
place (atomic p o) = p
place (extension p es) = p
place (truth p q) = p
place (binary p o l r) = p
place (associative p o es) = p
place (unary p o e) = p
place (quantified p o ds q e) = p
place (ascribed p e q s) = p
place (explicit p t e) = place e

-- ---- how many children

unfoldable pub decls : List Decl → ℕ
decls [] = 0
decls (d ∷ ds) = suc (decls ds)

unfoldable pub exprs : Exprs → ℕ
exprs none = 0
exprs (more e es) = suc (exprs es)

unfoldable pub preds : Preds → ℕ
preds end = 0
preds (also q qs) = suc (preds qs)

unfoldable pub targets : List Target → ℕ
targets [] = 0
targets (t ∷ ts) = suc (targets ts)

unfoldable pub pairs : List (Target × Expr) → ℕ
pairs [] = 0
pairs (t ∷ ts) = suc (pairs ts)

-- ---- slots: every expression but 0C, and every declaration, in stream order

unfoldable mutual
  unfolding decls

  pub slots : Expr → ℕ
  slots (free p n) = 1
  slots (bound p i) = 1
  slots (literal p) = 1
  slots (atomic p o) = 1
  slots (extension p es) = suc (slots_all es)
  slots (truth p q) = suc (slots_pred q)
  slots (binary p o l r) = suc (slots l + slots r)
  slots (associative p o es) = suc (slots_all es)
  slots (unary p o e) = suc (slots e)
  slots (quantified p o ds q e) = suc (decls ds + (slots_pred q + slots e))
  slots (ascribed p e q s) = suc (slots e)
  slots (explicit p t e) = slots e

  pub slots_all : Exprs → ℕ
  slots_all none = 0
  slots_all (more e es) = slots e + slots_all es

  pub slots_pred : Pred → ℕ
  slots_pred (constant p) = 0
  slots_pred (variable p) = 0
  slots_pred (relational p o l r) = slots l + slots r
  slots_pred (connective p l r) = slots_pred l + slots_pred r
  slots_pred (junction p ps) = slots_preds ps
  slots_pred (negation p q) = slots_pred q
  slots_pred (quantification p ds q) = decls ds + slots_pred q
  slots_pred (simple p e) = slots e
  slots_pred (multiple p es) = slots_all es
  slots_pred (application p es) = slots_all es

  pub slots_preds : Preds → ℕ
  slots_preds end = 0
  slots_preds (also q qs) = slots_pred q + slots_preds qs

-- a target owns a slot as any 01 does
unfoldable pub slots_pairs : List (Target × Expr) → ℕ
slots_pairs [] = 0
slots_pairs (t ∷ ts) = suc (slots t.1) + slots_pairs ts

unfoldable pub slots_of : Formula → ℕ
slots_of (expression e) = slots e
slots_of (predicate q) = slots_pred q
slots_of (becomes p ts) = slots_pairs ts
slots_of (becomes_in p t ts e) = suc (targets ts + slots e)
slots_of (becomes_such p ts ds q) = targets ts + (decls ds + slots_pred q)
