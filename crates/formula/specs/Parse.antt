-- What the bytes of a stream spell, read from left to right: the tree, or the first fault.
-- `left` is how many levels of records may still be opened, this record's own included. At one record a malformed head comes first,
-- then the limits (depth, slots, open declarations), then the children in stream order.
use Rattle.std.specs.Prelude.{ℕ, zero, suc, Bool, true, false, List, [], ◌∷◌, length, ltb, eqb, Option, Some, None, Result, Ok, Err}
use Rattle.types.specs.declared.Place.{Place}
use Rattle.heads.specs.declared.ExprHead.{ExprHead}
use Rattle.heads.specs.declared.ExprHead.TheVariants.{Free, Bound, Literal, Atomic, Extension, Truth, Binary, Associative, Unary, Quantified, Ascribed, Explicit}
use Rattle.heads.specs.declared.PredHead.{PredHead}
use Rattle.heads.specs.declared.PredHead.TheVariants.{Constant, Variable, Relational, Connective, Junction, Negation, Quantification, Simple, Multiple, Application}
use Rattle.heads.specs.declared.DeclHead.{DeclHead}
use Rattle.heads.specs.declared.DeclHead.TheVariants.{Plain, Typed, Annotated}
use Rattle.formula.specs.declared.St.{St}
use Rattle.types.specs.declared.Fault.{Fault}
use Rattle.types.specs.declared.Fault.TheVariants.{Malformed, Beyond}
use Rattle.formula.specs.declared.FormError.{FormError}
use Rattle.formula.specs.declared.FormError.TheVariants.{TooLong, At}
use Rattle.formula.specs.Tree.{Decl, plain, typed, annotated, Expr, free, bound, literal, atomic, extension, truth, binary, associative, unary, quantified, ascribed, explicit, Exprs, none, more, Pred, constant, variable, relational, connective, junction, negation, quantification, simple, multiple, application, Preds, end, also, Target, Formula, expression, predicate, becomes, becomes_in, becomes_such}
use Rattle.heads.specs.Heads.{pick, place, byte_at, on_part, few_at, expr_head, pred_head, decl_head, target_at}
use Rattle.formula.specs.Reader.{Got, ok, bad, and_then, on_next, many, moved, own_of, declare_of, closing, type_in, spelling_in}
use Rattle.types.specs.Limits.{max_bytes, max_depth, levels}

-- ---- declarations

unfoldable pub decl_by : ℕ → List ℕ → ℕ → St → DeclHead → Got Decl
decl_by names s left st (Plain e) = on_next (declare_of e st) λ st₁. ok st₁ (plain st.at.0)
decl_by names s left st (Typed e) = on_next (declare_of e st) λ st₁. and_then (type_in names s left st₁) λ t st₂. ok st₂ (typed st.at.0 t)
decl_by names s left st (Annotated e) = on_next (declare_of e st) λ st₁. and_then (spelling_in names s left st₁) λ x st₂. ok st₂ (annotated st.at.0 x)

-- a record by its head, where some levels are left, or none
unfoldable pub decl_if : ℕ → List ℕ → ℕ → St → Option DeclHead → Got Decl
decl_if names s left st None = bad (Malformed st.at)
decl_if names s zero st (Some h) = bad (Beyond st.at)
decl_if names s (suc left) st (Some h) = decl_by names s left st h

unfoldable pub decl_at : ℕ → List ℕ → ℕ → St → Got Decl
decl_at names s left st = decl_if names s left st (decl_head s st.at)

unfoldable pub decls_at : ℕ → List ℕ → ℕ → ℕ → St → Got (List Decl)
decls_at names s left n st = many [] ◌∷◌ (decl_at names s left) n st

-- ---- expressions and predicates. X and Q read an expression (bare: other than 0C) and a predicate one level below

module _ (names : ℕ) (s : List ℕ) (left : ℕ) (X : Bool → St → Got Expr) (Q : St → Got Pred) (st : St) where
  unfoldable pub expr_by : ExprHead → Got Expr
  expr_by (Free n e) = on_next (own_of e st) λ st₁. ok st₁ (free st.at.0 n.0)
  expr_by (Bound i e) = on_next (own_of e st) λ st₁. ok st₁ (bound st.at.0 i)
  expr_by (Literal e) = on_next (own_of e st) λ st₁. ok st₁ (literal st.at.0)
  expr_by (Atomic o e) = on_next (own_of e st) λ st₁. ok st₁ (atomic st.at.0 o)
  expr_by (Extension n e) = on_next (own_of e st) λ st₁. and_then (many none more (X false) n st₁) λ es st₂. ok st₂ (extension st.at.0 es)
  expr_by (Truth e) = on_next (own_of e st) λ st₁. and_then (Q st₁) λ q st₂. ok st₂ (truth st.at.0 q)
  expr_by (Binary o e) = on_next (own_of e st) λ st₁. and_then (X false st₁) λ a st₂. and_then (X false st₂) λ b st₃. ok st₃ (binary st.at.0 o a b)
  expr_by (Associative o n e) = on_next (own_of e st) λ st₁. and_then (many none more (X false) n st₁) λ es st₂. ok st₂ (associative st.at.0 o es)
  expr_by (Unary o e) = on_next (own_of e st) λ st₁. and_then (X false st₁) λ a st₂. ok st₂ (unary st.at.0 o a)
  expr_by (Quantified o n e) =
      closing st.opened (on_next (own_of e st) λ st₁. and_then (decls_at names s left n st₁) λ ds st₂. and_then (Q st₂) λ q st₃. and_then (X false st₃) λ a st₄. ok st₄ (quantified st.at.0 o ds q a))
  expr_by (Ascribed e) = on_next (own_of e st) λ st₁. and_then (X false st₁) λ a st₂. and_then (spelling_in names s left st₂) λ x st₃. ok st₃ (ascribed st.at.0 a st₂.at.0 x)
  expr_by (Explicit e) = and_then (type_in names s left (moved e st)) λ t st₁. and_then (X true st₁) λ a st₂. ok st₂ (explicit st.at.0 t a)

  unfoldable pub pred_by : PredHead → Got Pred
  pred_by (Constant e) = ok (moved e st) (constant st.at.0)
  pred_by (Variable e) = ok (moved e st) (variable st.at.0)
  pred_by (Relational o e) = and_then (X false (moved e st)) λ a st₁. and_then (X false st₁) λ b st₂. ok st₂ (relational st.at.0 o a b)
  pred_by (Connective e) = and_then (Q (moved e st)) λ a st₁. and_then (Q st₁) λ b st₂. ok st₂ (connective st.at.0 a b)
  pred_by (Junction n e) = and_then (many end also Q n (moved e st)) λ qs st₁. ok st₁ (junction st.at.0 qs)
  pred_by (Negation e) = and_then (Q (moved e st)) λ q st₁. ok st₁ (negation st.at.0 q)
  pred_by (Quantification n e) = closing st.opened (and_then (decls_at names s left n (moved e st)) λ ds st₁. and_then (Q st₁) λ q st₂. ok st₂ (quantification st.at.0 ds q))
  pred_by (Simple e) = and_then (X false (moved e st)) λ a st₁. ok st₁ (simple st.at.0 a)
  pred_by (Multiple n e) = and_then (many none more (X false) n (moved e st)) λ es st₁. ok st₁ (multiple st.at.0 es)
  pred_by (Application n e) = and_then (many none more (X false) n (moved e st)) λ es st₁. ok st₁ (application st.at.0 es)

  unfoldable pub expr_if : Option ExprHead → Got Expr
  expr_if None = bad (Malformed st.at)
  expr_if (Some h) = expr_by h

  unfoldable pub pred_if : Option PredHead → Got Pred
  pred_if None = bad (Malformed st.at)
  pred_if (Some h) = pred_by h

-- no level is left: a record that is well formed itself passes the limit
unfoldable pub expr_deep : St → Option ExprHead → Got Expr
expr_deep st None = bad (Malformed st.at)
expr_deep st (Some h) = bad (Beyond st.at)

unfoldable pub pred_deep : St → Option PredHead → Got Pred
pred_deep st None = bad (Malformed st.at)
pred_deep st (Some h) = bad (Beyond st.at)

unfoldable mutual
  pub expr_at : ℕ → ℕ → List ℕ → Bool → St → Got Expr
  expr_at zero names s bare st = expr_deep st (expr_head names s bare st.at)
  expr_at (suc left) names s bare st = expr_if names s left (λ b t. expr_at left names s b t) (λ t. pred_at left names s t) st (expr_head names s bare st.at)

  pub pred_at : ℕ → ℕ → List ℕ → St → Got Pred
  pred_at zero names s st = pred_deep st (pred_head s st.at)
  pred_at (suc left) names s st = pred_if names s left (λ b t. expr_at left names s b t) (λ t. pred_at left names s t) st (pred_head s st.at)

unfoldable pub exprs_at : ℕ → ℕ → List ℕ → ℕ → St → Got Exprs
exprs_at left names s n st = many none more (expr_at left names s false) n st

unfoldable pub preds_at : ℕ → ℕ → List ℕ → ℕ → St → Got Preds
preds_at left names s n st = many end also (pred_at left names s) n st

-- ---- formulas

unfoldable pub target_by : St → Option (ℕ × Place) → Got Target
target_by st None = bad (Malformed st.at)
target_by st (Some (n, e)) = on_next (own_of e st) λ st₁. ok st₁ (record { place = st.at.0; name = n })

unfoldable pub target_in : ℕ → List ℕ → St → Got Target
target_in names s st = target_by st (target_at names s st.at)

unfoldable pub pair_in : ℕ → ℕ → List ℕ → St → Got (Target × Expr)
pair_in left names s st = and_then (target_in names s st) λ t st₁. and_then (expr_at left names s false st₁) λ a st₂. ok st₂ (t, a)

unfoldable pub targets_at : ℕ → List ℕ → ℕ → St → Got (List Target)
targets_at names s n st = many [] ◌∷◌ (target_in names s) n st

unfoldable pub pairs_at : ℕ → ℕ → List ℕ → ℕ → St → Got (List (Target × Expr))
pairs_at left names s n st = many [] ◌∷◌ (pair_in left names s) n st

-- an assignment of kind k, its n targets from p on
unfoldable pub becomes_by : ℕ → ℕ → List ℕ → ℕ → Place → St → ℕ → Got Formula
becomes_by left names s zero e st k = bad (Malformed st.at)
becomes_by left names s (suc n) e st k =
    pick (eqb k 0x30) (and_then (pairs_at left names s (suc n) (moved e st)) λ xs st₁. ok st₁ (becomes st.at.0 xs))
    (pick (eqb k 0x31) (and_then (target_in names s (moved e st)) λ t st₁. and_then (targets_at names s n st₁) λ ts st₂. and_then (expr_at left names s false st₂) λ a st₃. ok st₃ (becomes_in st.at.0 t ts a))
    (pick (eqb k 0x32) (and_then (targets_at names s (suc n) (moved e st)) λ ts st₁. and_then (decls_at names s left (suc n) st₁) λ ds st₂. and_then (pred_at left names s st₂) λ q st₃. ok st₃ (becomes_such st.at.0 ts ds q))
    (bad (Malformed st.at))))

unfoldable pub becomes_at : ℕ → List ℕ → St → ℕ → Place → Got Formula
becomes_at names s st k p = on_part (bad (Malformed st.at)) (few_at s p) λ n e. becomes_by max_depth names s n e st k

-- by the kind of the root
unfoldable pub root_by : ℕ → List ℕ → St → ℕ → Place → Got Formula
root_by names s st k p =
    pick (ltb k 0x20) (and_then (expr_at levels names s false st) λ a st₁. ok st₁ (expression a))
    (pick (ltb k 0x30) (and_then (pred_at levels names s st) λ q st₁. ok st₁ (predicate q))
    (becomes_at names s st k p))

-- the start of a stream
abbrev pub start : St
start = record { at = place 0; slots = 0; opened = 0 }

unfoldable pub formula_at : ℕ → List ℕ → St → Got Formula
formula_at names s st = on_part (bad (Malformed st.at)) (byte_at s st.at) (root_by names s st)

-- bytes that are left over are malformed at the first
unfoldable pub finish : {A : Type 0} → List ℕ → St → A → Got A
finish s st a = pick (ltb st.at.0 (length s)) (bad (Malformed st.at)) (ok st a)

unfoldable pub whole : ℕ → List ℕ → Got Formula
whole names s = and_then (formula_at names s start) λ f st. finish s st f

-- what a stream is: the spelling of a formula, too long, or faulty
pub data Parsed (A : Type 0) : Type 0 where
  parsed : A → Parsed A
  too_long : Parsed A
  faulty : Fault Place → Parsed A

unfoldable pub parsed_by : {A : Type 0} → Got A → Parsed A
parsed_by (ok st a) = parsed a
parsed_by (bad f) = faulty f

unfoldable pub parse_of : ℕ → List ℕ → Parsed Formula
parse_of names s = pick (ltb max_bytes (length s)) too_long (parsed_by (whole names s))

-- what the code answers
abbrev pub Form : Type 0
Form = Result (Unit {0}) FormError

-- the tree is forgotten
unfoldable pub form_of : {A : Type 0} → Parsed A → Form
form_of (parsed a) = Ok tt
form_of too_long = Err TooLong
form_of (faulty f) = Err (At f)
