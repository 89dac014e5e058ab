-- What is due at a place of a formula's stream. A stack tells it: on top what is due next, below it what is due after that.
-- A head (`Heads`) takes what is due off the stack and puts its parts there; the state counts the slots and the open declarations.
-- No limit is asked for in that: `Goes` leads from the start over heads inside the limits, and `Passed` says that a head passes one.
-- `FaultMeans` says by this what a fault's number means.
use Rattle.std.specs.Prelude.{ℕ, zero, suc, ◌+◌, ◌≤◌, ◌<◌, ◌≡◌, ◌≢◌, Bool, true, false, List, [], ◌∷◌, ◌++◌, length, drop, ltb, eqb, Option, Some, None}
use Rattle.types.specs.declared.Place.{Place}
use Rattle.types.specs.Record.{Head, atomic, power, product, wrong, head_of}
use Rattle.types.specs.Limits.{max_depth, max_slots, max_opened}
use Rattle.heads.specs.declared.ExprHead.{ExprHead}
use Rattle.heads.specs.declared.ExprHead.TheVariants.{Free, Bound, Literal, Atomic, Extension, Truth, Binary, Associative, Unary, Quantified, Ascribed, Explicit}
use Rattle.heads.specs.declared.PredHead.{PredHead}
use Rattle.heads.specs.declared.PredHead.TheVariants.{Constant, Variable, Relational, Connective, Junction, Negation, Quantification, Simple, Multiple, Application}
use Rattle.heads.specs.declared.DeclHead.{DeclHead}
use Rattle.heads.specs.declared.DeclHead.TheVariants.{Plain, Typed, Annotated}
use Rattle.formula.specs.declared.St.{St}
use Rattle.heads.specs.Heads.{pick, place, byte_at, on_part, few_at, expr_head, pred_head, decl_head, target_at}
use Rattle.formula.specs.Reader.{moved, closed}

-- what is due, with the depth of its record; bare: an expression other than 0C
pub data Due : Type 0 where
  formula_due : Due
  target_due : Due
  expr_due : Bool → ℕ → Due
  pred_due : ℕ → Due
  decl_due : ℕ → Due
  type_due : ℕ → Due
  spelling_due : ℕ → Due
  -- a binder's end, where as many declarations are open as before it
  close_due : ℕ → Due
  end_due : Due

unfoldable pub depth_due : Due → ℕ
depth_due formula_due = 0
depth_due target_due = 1
depth_due (expr_due bare d) = d
depth_due (pred_due d) = d
depth_due (decl_due d) = d
depth_due (type_due d) = d
depth_due (spelling_due d) = d
depth_due (close_due n) = 0
depth_due end_due = 0

-- a record that limits speak of, or 4F: not a formula as a whole, nor an end
unfoldable pub Limited : Due → Type 0
Limited formula_due = ⊥
Limited target_due = Unit {0}
Limited (expr_due bare d) = Unit {0}
Limited (pred_due d) = Unit {0}
Limited (decl_due d) = Unit {0}
Limited (type_due d) = Unit {0}
Limited (spelling_due d) = Unit {0}
Limited (close_due n) = ⊥
Limited end_due = ⊥

-- what the bytes say to what is due: its parts and the state after its head; or it does not stand there
pub data Opening : Type 0 where
  opens : List Due → St → Opening
  absent : Opening

-- the state after a head whose record owns a slot, after a declaration's
unfoldable pub owned : Place → St → St
owned e st = record { at = e; slots = st.slots + 1; opened = st.opened }

unfoldable pub declared : Place → St → St
declared e st = record { at = e; slots = st.slots + 1; opened = st.opened + 1 }

unfoldable pub times : ℕ → List Due → List Due
times zero ds = []
times (suc n) ds = ds ++ times n ds

-- ---- parts, where these have depth d

unfoldable pub expr_opens : ℕ → St → Option ExprHead → Opening
expr_opens d st None = absent
expr_opens d st (Some (Free n e)) = opens [] (owned e st)
expr_opens d st (Some (Bound i e)) = opens [] (owned e st)
expr_opens d st (Some (Literal e)) = opens [] (owned e st)
expr_opens d st (Some (Atomic o e)) = opens [] (owned e st)
expr_opens d st (Some (Extension n e)) = opens (times n (expr_due false d ∷ [])) (owned e st)
expr_opens d st (Some (Truth e)) = opens (pred_due d ∷ []) (owned e st)
expr_opens d st (Some (Binary o e)) = opens (expr_due false d ∷ expr_due false d ∷ []) (owned e st)
expr_opens d st (Some (Associative o n e)) = opens (times n (expr_due false d ∷ [])) (owned e st)
expr_opens d st (Some (Unary o e)) = opens (expr_due false d ∷ []) (owned e st)
expr_opens d st (Some (Quantified o n e)) = opens (times n (decl_due d ∷ []) ++ (pred_due d ∷ expr_due false d ∷ close_due st.opened ∷ [])) (owned e st)
expr_opens d st (Some (Ascribed e)) = opens (expr_due false d ∷ spelling_due d ∷ []) (owned e st)
expr_opens d st (Some (Explicit e)) = opens (type_due d ∷ expr_due true d ∷ []) (moved e st)

unfoldable pub pred_opens : ℕ → St → Option PredHead → Opening
pred_opens d st None = absent
pred_opens d st (Some (Constant e)) = opens [] (moved e st)
pred_opens d st (Some (Variable e)) = opens [] (moved e st)
pred_opens d st (Some (Relational o e)) = opens (expr_due false d ∷ expr_due false d ∷ []) (moved e st)
pred_opens d st (Some (Connective e)) = opens (pred_due d ∷ pred_due d ∷ []) (moved e st)
pred_opens d st (Some (Junction n e)) = opens (times n (pred_due d ∷ [])) (moved e st)
pred_opens d st (Some (Negation e)) = opens (pred_due d ∷ []) (moved e st)
pred_opens d st (Some (Quantification n e)) = opens (times n (decl_due d ∷ []) ++ (pred_due d ∷ close_due st.opened ∷ [])) (moved e st)
pred_opens d st (Some (Simple e)) = opens (expr_due false d ∷ []) (moved e st)
pred_opens d st (Some (Multiple n e)) = opens (times n (expr_due false d ∷ [])) (moved e st)
pred_opens d st (Some (Application n e)) = opens (times n (expr_due false d ∷ [])) (moved e st)

unfoldable pub decl_opens : ℕ → St → Option DeclHead → Opening
decl_opens d st None = absent
decl_opens d st (Some (Plain e)) = opens [] (declared e st)
decl_opens d st (Some (Typed e)) = opens (type_due d ∷ []) (declared e st)
decl_opens d st (Some (Annotated e)) = opens (spelling_due d ∷ []) (declared e st)

unfoldable pub type_opens : ℕ → St → Head → Opening
type_opens d st wrong = absent
type_opens d st (atomic a e) = opens [] (moved (place e) st)
type_opens d st (power e) = opens (type_due d ∷ []) (moved (place e) st)
type_opens d st (product e) = opens (type_due d ∷ type_due d ∷ []) (moved (place e) st)

unfoldable pub target_opens : St → Option (ℕ × Place) → Opening
target_opens st None = absent
target_opens st (Some (n, e)) = opens [] (owned e st)

-- 4F, or a type
unfoldable pub spelling_opens : ℕ → St → Head → ℕ → Place → Opening
spelling_opens d st h k e = pick (eqb k 0x4F) (opens [] (moved e st)) (type_opens d st h)

-- an assignment of kind k with n targets, which stand from e on
unfoldable pub becomes_opens : St → ℕ → ℕ → Place → Opening
becomes_opens st k zero e = absent
becomes_opens st k (suc n) e =
    pick (eqb k 0x30) (opens (times (suc n) (target_due ∷ expr_due false 1 ∷ [])) (moved e st))
    (pick (eqb k 0x31) (opens (times (suc n) (target_due ∷ []) ++ (expr_due false 1 ∷ [])) (moved e st))
    (pick (eqb k 0x32) (opens (times (suc n) (target_due ∷ []) ++ (times (suc n) (decl_due 1 ∷ []) ++ (pred_due 1 ∷ []))) (moved e st)) absent))

-- ---- limits, where u is the state after the head of what was due

unfoldable pub Within : Due → St → Type 0
Within d u = (depth_due d ≤ max_depth) × (u.slots ≤ max_slots) × (u.opened ≤ max_opened)

-- the limit that a record passes: it lies too deep, owns a slot too many, is one open declaration too many
pub data Passed (d : Due) (u : St) : Type 0 where
  too_deep : max_depth < depth_due d → Passed d u
  too_many : max_slots < u.slots → Passed d u
  too_open : max_opened < u.opened → Passed d u

-- ---- what is due at a place

module _ (names : ℕ) (s : List ℕ) where
  -- a formula by its first byte: an expression, a predicate, an assignment
  unfoldable pub root_opens : St → ℕ → Place → Opening
  root_opens st k p =
      pick (ltb k 0x20) (opens (expr_due false 0 ∷ []) st)
      (pick (ltb k 0x30) (opens (pred_due 0 ∷ []) st)
      (on_part absent (few_at s p) (becomes_opens st k)))

  -- the head of the type record at p
  unfoldable pub type_head : Place → Head
  type_head p = head_of names p.0 (drop p.0 s)

  -- what the bytes at a state's place say to what is due
  unfoldable pub open_of : Due → St → Opening
  open_of formula_due st = on_part absent (byte_at s st.at) (root_opens st)
  open_of target_due st = target_opens st (target_at names s st.at)
  open_of (expr_due bare d) st = expr_opens (suc d) st (expr_head names s bare st.at)
  open_of (pred_due d) st = pred_opens (suc d) st (pred_head s st.at)
  open_of (decl_due d) st = decl_opens (suc d) st (decl_head s st.at)
  open_of (type_due d) st = type_opens (suc d) st (type_head st.at)
  open_of (spelling_due d) st = on_part (type_opens (suc d) st (type_head st.at)) (byte_at s st.at) (spelling_opens (suc d) st (type_head st.at))
  open_of (close_due n) st = opens [] (closed n st)
  open_of end_due st = pick (ltb st.at.0 (length s)) absent (opens [] st)

  -- from a state and a stack to a later state and what is due there: one head after the other, each where it is due and inside the limits
  pub data Goes : St → List Due → St → List Due → Type 0 where
    stay : {t : St} {k : List Due} → Goes t k t k
    onward : {t u v : St} {d : Due} {ds k m : List Due} → open_of d t ≡ opens ds u → Within d u → Goes u (ds ++ k) v m → Goes t (d ∷ k) v m

  -- ---- what is due stands at p, or does not, in the words of `Heads`

  unfoldable pub Stands : Due → Place → Type 0
  Stands formula_due p = ⊥
  Stands target_due p = (n : ℕ) × (e : Place) × (target_at names s p ≡ Some (n, e))
  Stands (expr_due bare d) p = (h : ExprHead) × (expr_head names s bare p ≡ Some h)
  Stands (pred_due d) p = (h : PredHead) × (pred_head s p ≡ Some h)
  Stands (decl_due d) p = (h : DeclHead) × (decl_head s p ≡ Some h)
  Stands (type_due d) p = type_head p ≢ wrong
  Stands (spelling_due d) p = ((e : Place) → byte_at s p ≢ Some (0x4F, e)) → type_head p ≢ wrong
  Stands (close_due n) p = ⊥
  Stands end_due p = ⊥

  -- an assignment's kind has its count behind it
  unfoldable pub Assigns : ℕ → Place → Type 0
  Assigns k e = (n : ℕ) × (q : Place) × (few_at s e ≡ Some ((suc n), q)) × (0x30 ≤ k) × (k ≤ 0x32)

  -- no formula: no byte, or one at or above 30 that begins no assignment
  unfoldable pub Lacks : Due → Place → Type 0
  Lacks formula_due p = (k : ℕ) (e : Place) → byte_at s p ≡ Some (k, e) → (0x30 ≤ k) × (Assigns k e → ⊥)
  Lacks target_due p = target_at names s p ≡ None
  Lacks (expr_due bare d) p = expr_head names s bare p ≡ None
  Lacks (pred_due d) p = pred_head s p ≡ None
  Lacks (decl_due d) p = decl_head s p ≡ None
  Lacks (type_due d) p = type_head p ≡ wrong
  Lacks (spelling_due d) p = (type_head p ≡ wrong) × ((e : Place) → byte_at s p ≢ Some (0x4F, e))
  Lacks (close_due n) p = ⊥
  Lacks end_due p = p.0 < length s
