-- What the walk over a formula's bytes does to the machine, record by record, in the code's order. A record is known by its head, the same that
-- the test of form reads; E and P walk the expressions and predicates below it. Every function takes any bytes; a stopped machine passes through.
use Rattle.std.specs.Prelude.{Option, Some, None, ℕ, zero, suc, false, List, eqb}
use Rattle.types.specs.Limits.{levels, max_names}
use Rattle.types.specs.declared.NodeRef.{NodeRef}
use Rattle.types.specs.declared.Place.{Place}
use Rattle.heads.specs.declared.ExprHead.{ExprHead}
use Rattle.heads.specs.declared.ExprHead.TheVariants.{Free, Bound, Literal, Atomic, Extension, Truth, Binary, Associative, Unary, Quantified, Ascribed, Explicit}
use Rattle.heads.specs.declared.PredHead.{PredHead}
use Rattle.heads.specs.declared.PredHead.TheVariants.{Constant, Variable, Relational, Connective, Junction, Negation, Quantification, Simple, Multiple, Application}
use Rattle.types.specs.Record.{reach}
use Rattle.heads.specs.Heads.{expr_head, pred_head}
use Rattle.machine.specs.State.{State}
use Rattle.operators.specs.declared.Script.{Script}
use Rattle.operators.specs.declared.Script.TheVariants as Sc
use Rattle.operators.specs.declared.Mode.{Mode}
use Rattle.operators.specs.declared.Mode.TheVariants.{Loose, Same, Linked}
use Rattle.operators.specs.declared.Plan.{Plan}
use Rattle.forms.specs.Forms.{test, then}
use Rattle.machine.specs.Machine.{Mach, with_st, stopped_of, placed_of, gave_of, bound_of, paid_of, enter_of, list_of, make_of, expect_of, leave_of}
use Rattle.machine.specs.Types.{skip_of, free_of, bound_identifier_of, meets_of, ascription_of, declare_of, times_of}
use Rattle.operators.specs.Operators.{check_atomic_of, check_binary_of, check_unary_of, check_quantified_of, check_relational_of, check_associative_of}
use Rattle.machine.specs.Scripts.{parts_of, play_of}

-- what cannot happen once the form is tested
abbrev pub halts : Mach → Mach
halts m = then (stopped_of 2 m.st) λ v. with_st v m

-- what follows a head: the machine stands behind it
abbrev pub onto : Place → (Mach → Mach) → Mach → Mach
onto e f m = then (placed_of e.0 m.st) λ v. f (with_st v m)

-- ---- any number of children
unfoldable pub meet_of : Mode → ℕ → ℕ → ℕ → Mach → Mach
meet_of Loose x y p m = m
meet_of Same x y p m = expect_of x y p m
meet_of Linked x y p m = expect_of x y p m

unfoldable pub next_of : Mode → NodeRef → NodeRef → NodeRef
next_of Loose y t = y
next_of Same y t = y
next_of Linked y t = t

-- one child: what it is compared with is made, it is walked, and compared
unfoldable pub child_by : (Mach → Mach) → Plan → NodeRef → Mach → Mach
child_by E plan y m =
    then (parts_of y.0 m.st.at.0 y.0 m.st.at.0 m.st.at.0 m.st) λ p.
    then (play_of plan.link p m) λ a.
    then (E a) λ b.
    meet_of plan.mode b.st.last.0 a.st.last.0 b.st.from.0 b

-- n children; the last reference is then where the last of them ended
unfoldable pub children_by : (Mach → Mach) → Plan → ℕ → NodeRef → Mach → Mach
children_by E plan zero y m = then (gave_of y.0 m.st) λ v. with_st v m
children_by E plan (suc n) y m = children_by E plan n (next_of plan.mode y (record { 0 = m.st.nodes })) (child_by E plan y m)

-- by a plan: a script, the children, a script
unfoldable pub all_by : (Mach → Mach) → Plan → ℕ → Mach → Mach
all_by E plan n m =
    then (parts_of 0 m.st.at.0 0 m.st.at.0 m.st.at.0 m.st) λ p.
    then (play_of plan.first p m) λ a.
    then (children_by E plan n a.st.last a) λ b.
    then (parts_of a.st.last.0 m.st.at.0 b.st.last.0 m.st.at.0 m.st.at.0 b.st) λ q.
    play_of plan.last q b

-- the plans of 05, 28 and 29
abbrev pub extension_plan : Plan
extension_plan = record { first = Sc.Unknown; link = Sc.Nothing; last = Sc.Power; mode = Same }

abbrev pub multiple_plan : Plan
multiple_plan = record { first = Sc.EmptySet; link = Sc.Nothing; last = Sc.Nothing; mode = Same }

abbrev pub application_plan : Plan
application_plan = record { first = Sc.Nothing; link = Sc.Nothing; last = Sc.Nothing; mode = Loose }

-- ---- one or two expressions, and a script
unfoldable pub one_by : (Mach → Mach) → Script → ℕ → Mach → Mach
one_by E script p m =
    then (E m) λ a.
    then (parts_of a.st.last.0 a.st.from.0 0 p p a.st) λ q.
    play_of script q a

unfoldable pub two_by : (Mach → Mach) → Script → ℕ → Mach → Mach
two_by E script p m =
    then (E m) λ a.
    then (E a) λ b.
    then (parts_of a.st.last.0 a.st.from.0 b.st.last.0 b.st.from.0 p b.st) λ q.
    play_of script q b

-- ---- 0A: operator o, n declarations
unfoldable pub quant_by : (Mach → Mach) → (Mach → Mach) → List ℕ → List ℕ → ℕ → ℕ → Place → Mach → Mach
quant_by E P s env o n e m =
    then (check_quantified_of o) λ k.
    then (placed_of e.0 m.st) λ v.
    then (declare_of s env n (with_st v m)) λ a.
    then (P a) λ b.
    then (one_by E k m.st.at.0 b) λ c.
    then (bound_of m.st.bound c.st) λ w. with_st w c

-- ---- 26: n declarations
unfoldable pub pred_quant_by : (Mach → Mach) → List ℕ → List ℕ → ℕ → Place → Mach → Mach
pred_quant_by P s env n e m =
    then (placed_of e.0 m.st) λ v.
    then (declare_of s env n (with_st v m)) λ a.
    then (P a) λ b.
    then (bound_of m.st.bound b.st) λ w. with_st w b

-- ---- 0B: the expression, then its ascription
unfoldable pub ascribed_by : (Mach → Mach) → List ℕ → List ℕ → Place → Mach → Mach
ascribed_by E s env e m =
    then (placed_of e.0 m.st) λ v.
    then (E (with_st v m)) λ a.
    then (ascription_of s env a.st.last.0 m.st.at.0 a) λ b.
    then (gave_of a.st.last.0 b.st) λ w. with_st w b

-- ---- 0C, once it is paid: past the type at e, the expression, and back to the type
unfoldable pub typed_by : (Mach → Mach) → List ℕ → Place → Mach → Mach
typed_by E s e m =
    then (placed_of e.0 m.st) λ a.
    then (skip_of levels s a) λ b.
    then (E (with_st b m)) λ v.
    then (placed_of e.0 v.st) λ c.
    then (meets_of s v.st.last.0 v.st.from.0 (with_st c v)) λ d.
    then (placed_of v.st.at.0 d.st) λ f.
    then (gave_of v.st.last.0 f) λ g. with_st g d

-- ---- the rule of an expression, by its head; 0C is not met here
unfoldable pub body_by : (Mach → Mach) → (Mach → Mach) → List ℕ → List ℕ → ExprHead → Mach → Mach
body_by E P s env (Free x e) m = onto e (free_of env x.0 m.st.at.0) m
body_by E P s env (Bound i e) m = onto e (bound_identifier_of i m.st.at.0) m
body_by E P s env (Literal e) m = onto e (make_of 0x41 0 0) m
body_by E P s env (Atomic o e) m = then (check_atomic_of o) λ script. then (parts_of 0 m.st.at.0 0 m.st.at.0 m.st.at.0 m.st) λ p. onto e (play_of script p) m
body_by E P s env (Extension n e) m = onto e (all_by E extension_plan n) m
body_by E P s env (Truth e) m = then (onto e P m) λ a. make_of 0x40 0 0 a
body_by E P s env (Binary o e) m = then (check_binary_of o) λ script. onto e (two_by E script m.st.at.0) m
body_by E P s env (Associative o n e) m = then (check_associative_of o) λ plan. onto e (all_by E plan n) m
body_by E P s env (Unary o e) m = then (check_unary_of o) λ script. onto e (one_by E script m.st.at.0) m
body_by E P s env (Quantified o n e) m = quant_by E P s env o n e m
body_by E P s env (Ascribed e) m = ascribed_by E s env e m
body_by E P s env (Explicit e) m = halts m

-- ---- the rule of a predicate, by its head
unfoldable pub pred_body_by : (Mach → Mach) → (Mach → Mach) → List ℕ → List ℕ → PredHead → Mach → Mach
pred_body_by E P s env (Constant e) m = onto e (λ x. x) m
pred_body_by E P s env (Variable e) m = onto e (λ x. x) m
pred_body_by E P s env (Relational o e) m = then (check_relational_of o) λ script. onto e (two_by E script m.st.at.0) m
pred_body_by E P s env (Connective e) m = onto e (times_of P 2) m
pred_body_by E P s env (Junction n e) m = onto e (times_of P n) m
pred_body_by E P s env (Negation e) m = onto e P m
pred_body_by E P s env (Quantification n e) m = pred_quant_by P s env n e m
pred_body_by E P s env (Simple e) m = onto e (one_by E Sc.Finite m.st.at.0) m
pred_body_by E P s env (Multiple n e) m = onto e (all_by E multiple_plan n) m
pred_body_by E P s env (Application n e) m = then (onto e (all_by E application_plan n) m) λ a. list_of 5 m.st.at.0 0xFFFF a

-- ---- a record entered, where f goes on once it is paid
unfoldable pub entered_by : (State → Mach) → State → Mach → Mach
entered_by f e m = test (eqb e.stop 0) (λ _. f e) (λ _. with_st e m)

-- 0C, or a predicate
unfoldable pub paid_by : (State → Mach) → Mach → Mach
paid_by f m = then (paid_of m.st) λ e. entered_by f e m

-- any other expression has a slot of its own
unfoldable pub owned_by : (State → Mach) → Mach → Mach
owned_by f m = then (enter_of m.st) λ e. entered_by f e m

-- an expression by its head: X for a 0C, whose type stands at a place, f for another one
unfoldable pub expr_by : (Place → Mach) → (ExprHead → Mach) → Option ExprHead → Mach → Mach
expr_by X f None m = halts m
expr_by X f (Some (Explicit e)) m = X e
expr_by X f (Some (Free x e)) m = f (Free x e)
expr_by X f (Some (Bound i e)) m = f (Bound i e)
expr_by X f (Some (Literal e)) m = f (Literal e)
expr_by X f (Some (Atomic o e)) m = f (Atomic o e)
expr_by X f (Some (Extension n e)) m = f (Extension n e)
expr_by X f (Some (Truth e)) m = f (Truth e)
expr_by X f (Some (Binary o e)) m = f (Binary o e)
expr_by X f (Some (Associative o n e)) m = f (Associative o n e)
expr_by X f (Some (Unary o e)) m = f (Unary o e)
expr_by X f (Some (Quantified o n e)) m = f (Quantified o n e)
expr_by X f (Some (Ascribed e)) m = f (Ascribed e)

unfoldable pub pred_by : (PredHead → Mach) → Option PredHead → Mach → Mach
pred_by f None m = halts m
pred_by f (Some h) m = f h

-- ---- the cycle, at a number of levels
unfoldable mutual
  pub expr_of : ℕ → List ℕ → List ℕ → Mach → Mach
  expr_of zero s env m =
      then (expr_head max_names (reach s) false m.st.at) λ h.
      expr_by (λ e. paid_by (λ v. halts (with_st v m)) m) (λ g. owned_by (λ v. halts (with_st v m)) m) h m
  expr_of (suc l) s env m =
      then (expr_head max_names (reach s) false m.st.at) λ h.
      expr_by
      (λ e. paid_by (λ v. typed_by (λ y. expr_of l s env y) s e (with_st v m)) m)
      (λ g. owned_by (λ v. then (body_by (λ y. expr_of l s env y) (λ y. pred_of l s env y) s env g (with_st v m)) λ w. leave_of m.st.slots m.st.at.0 w) m)
      h
      m

  pub pred_of : ℕ → List ℕ → List ℕ → Mach → Mach
  pred_of zero s env m = then (pred_head (reach s) m.st.at) λ h. pred_by (λ g. paid_by (λ v. halts (with_st v m)) m) h m
  pred_of (suc l) s env m =
      then (pred_head (reach s) m.st.at) λ h.
      pred_by (λ g. paid_by (λ v. pred_body_by (λ y. expr_of l s env y) (λ y. pred_of l s env y) s env g (with_st v m)) m) h m

-- 0C, with its type at e; and another expression, with its head
unfoldable pub explicit_of : ℕ → List ℕ → List ℕ → Place → Mach → Mach
explicit_of zero s env e m = paid_by (λ v. halts (with_st v m)) m
explicit_of (suc l) s env e m = paid_by (λ v. typed_by (expr_of l s env) s e (with_st v m)) m

unfoldable pub owned_of : ℕ → List ℕ → List ℕ → ExprHead → Mach → Mach
owned_of zero s env h m = owned_by (λ v. halts (with_st v m)) m
owned_of (suc l) s env h m = owned_by (λ v. then (body_by (expr_of l s env) (pred_of l s env) s env h (with_st v m)) λ w. leave_of m.st.slots m.st.at.0 w) m

abbrev pub body_of : ℕ → List ℕ → List ℕ → ExprHead → Mach → Mach
body_of l s env h m = body_by (expr_of l s env) (pred_of l s env) s env h m

abbrev pub pred_body_of : ℕ → List ℕ → List ℕ → PredHead → Mach → Mach
pred_body_of l s env h m = pred_body_by (expr_of l s env) (pred_of l s env) s env h m

abbrev pub one_of : ℕ → List ℕ → List ℕ → Script → ℕ → Mach → Mach
one_of l s env script p m = one_by (expr_of l s env) script p m

abbrev pub two_of : ℕ → List ℕ → List ℕ → Script → ℕ → Mach → Mach
two_of l s env script p m = two_by (expr_of l s env) script p m

abbrev pub all_of : ℕ → List ℕ → List ℕ → Plan → ℕ → Mach → Mach
all_of l s env plan n m = all_by (expr_of l s env) plan n m

abbrev pub children_of : ℕ → List ℕ → List ℕ → Plan → ℕ → NodeRef → Mach → Mach
children_of l s env plan n x m = children_by (expr_of l s env) plan n x m

abbrev pub preds_of : ℕ → List ℕ → List ℕ → ℕ → Mach → Mach
preds_of l s env n m = times_of (pred_of l s env) n m

abbrev pub quant_of : ℕ → List ℕ → List ℕ → ℕ → ℕ → Place → Mach → Mach
quant_of l s env o n e m = quant_by (expr_of l s env) (pred_of l s env) s env o n e m

abbrev pub pred_quant_of : ℕ → List ℕ → List ℕ → ℕ → Place → Mach → Mach
pred_quant_of l s env n e m = pred_quant_by (pred_of l s env) s env n e m

abbrev pub ascribed_of : ℕ → List ℕ → List ℕ → Place → Mach → Mach
ascribed_of l s env e m = ascribed_by (expr_of l s env) s env e m
