-- A stopped machine stays as it is: the walk's functions.
-- After this file a walk that has stopped anywhere is over.
use Prim.Native.Nat.{ℕ, zero, suc}
use Rattle.std.specs.Prelude.{Option, Some, None, ◌+◌, ◌-◌, ◌≡◌, List, false, eqb}
use Rattle.std.proofs.Math.Path.{refl, ap}
use Rattle.std.proofs.Common.{◌∙◌}
use Rattle.types.specs.Limits.{levels, max_names}
use Rattle.types.specs.declared.NodeRef.{NodeRef}
use Rattle.types.specs.declared.Place.{Place}
use Rattle.heads.specs.declared.ExprHead.{ExprHead}
use Rattle.heads.specs.declared.ExprHead.TheVariants.{Free, Bound, Literal, Atomic, Extension, Truth, Binary, Associative, Unary, Quantified, Ascribed, Explicit}
use Rattle.heads.specs.declared.PredHead.{PredHead}
use Rattle.heads.specs.declared.PredHead.TheVariants.{Constant, Variable, Relational, Connective, Junction, Negation, Quantification, Simple, Multiple, Application}
use Rattle.types.specs.Record.{reach}
use Rattle.heads.specs.declared.Root.{Root}
use Rattle.heads.specs.declared.Root.TheVariants.{Expression, Predicate, Becomes, BecomesIn, BecomesSuch}
use Rattle.heads.specs.Heads.{expr_head, pred_head, root_head}
use Rattle.machine.specs.State.{State}
use Rattle.operators.specs.declared.Script.{Script}
use Rattle.operators.specs.declared.Script.TheVariants as Sc
use Rattle.operators.specs.declared.Mode.{Mode}
use Rattle.operators.specs.declared.Mode.TheVariants.{Loose, Same, Linked}
use Rattle.operators.specs.declared.Plan.{Plan}
use Rattle.forms.specs.Forms.{then}
use Rattle.machine.specs.Machine.{Mach, with_st, stopped_of, placed_of, gave_of, bound_of, list_of, make_of, expect_of, leave_of}
use Rattle.machine.specs.Types.{skip_of, free_of, bound_identifier_of, meets_of, ascription_of, declare_of, times_of}
use Rattle.operators.specs.Operators.{check_atomic_of, check_binary_of, check_unary_of, check_quantified_of, check_relational_of, check_associative_of}
use Rattle.machine.specs.Scripts.{parts_of, play_of}
use Rattle.walker.specs.Walk.{meet_of, next_of, one_by, two_by, child_by, children_by, all_by, quant_by, pred_quant_by, ascribed_by, typed_by, body_by, pred_body_by, extension_plan, multiple_plan, application_plan, halts, onto, entered_by, expr_by, pred_by, paid_by, owned_by, expr_of, pred_of}
use Rattle.walker.specs.Root.{pair_by, pairs_of, product_by, products_of, belongs_of, becomes_in_of, share_by, shares_from, shares_of, such_that_of, becomes_such_of, assigned_by, root_by, formula_of}
use Rattle.types.specs.Limits.{max_depth}
use Rattle.machine.specs.Still.{test-both, Halted, still_stopped, still_placed, still_gave, still_bound, still_paid, still_enter, still_skip, still_within, still_list, still_make, still_expect, still_leave, still_free, still_identifier, still_meets, still_ascription, still_declare, still_times, still_play}

abbrev pub Still : (Mach → Mach) → Type 0
Still E = (m : Mach) → Halted m → E m ≡ m

pub still_meet : (mode : Mode) (x y p : ℕ) (m : Mach) → Halted m → meet_of mode x y p m ≡ m
unfolding meet_of
still_meet Loose x y p m h = refl
still_meet Same x y p m h = still_expect x y p m h
still_meet Linked x y p m h = still_expect x y p m h

-- a place taken, and what follows it
places : (i : Place) (F : Mach → Mach) (m : Mach) → Halted m → F m ≡ m → onto i F m ≡ m
unfolding then
places i F m h f = ap F (still_within (placed_of i.0) m (still_placed i.0 m.st h)) ∙ f

still_halts : (m : Mach) → Halted m → halts m ≡ m
unfolding then
still_halts m h = still_within (stopped_of 2) m (still_stopped 2 m.st h)

module _ (E : Mach → Mach) (e : Still E) where
  pub still_one : (n : Script) (p : ℕ) (m : Mach) → Halted m → one_by E n p m ≡ m
  unfolding one_by then
  still_one n p m h = ap (λ (a : Mach). play_of n (parts_of a.st.last.0 a.st.from.0 0 p p a.st) a) (e m h) ∙ still_play n (parts_of m.st.last.0 m.st.from.0 0 p p m.st) m h

  pub still_two : (n : Script) (p : ℕ) (m : Mach) → Halted m → two_by E n p m ≡ m
  unfolding two_by then
  still_two n p m h =
      ap (λ (a : Mach). (let b = E a in play_of n (parts_of a.st.last.0 a.st.from.0 b.st.last.0 b.st.from.0 p b.st) b)) (e m h)
      ∙ ap (λ (b : Mach). play_of n (parts_of m.st.last.0 m.st.from.0 b.st.last.0 b.st.from.0 p b.st) b) (e m h)
      ∙ still_play n (parts_of m.st.last.0 m.st.from.0 m.st.last.0 m.st.from.0 p m.st) m h

  pub still_child : (plan : Plan) (y : NodeRef) (m : Mach) → Halted m → child_by E plan y m ≡ m
  unfolding child_by then
  still_child plan y m h =
      ap (λ (a : Mach). (let b = E a in meet_of plan.mode b.st.last.0 a.st.last.0 b.st.from.0 b)) (still_play plan.link (parts_of y.0 m.st.at.0 y.0 m.st.at.0 m.st.at.0 m.st) m h)
      ∙ ap (λ (b : Mach). meet_of plan.mode b.st.last.0 m.st.last.0 b.st.from.0 b) (e m h)
      ∙ still_meet plan.mode m.st.last.0 m.st.last.0 m.st.from.0 m h

  pub still_children : (plan : Plan) (n : ℕ) (y : NodeRef) (m : Mach) → Halted m → children_by E plan n y m ≡ m
  unfolding children_by then
  still_children plan zero y m h = still_within (gave_of y.0) m (still_gave y.0 m.st h)
  still_children plan (suc n) y m h =
      ap (children_by E plan n (next_of plan.mode y (record { 0 = m.st.nodes }))) (still_child plan y m h) ∙ still_children plan n (next_of plan.mode y (record { 0 = m.st.nodes })) m h

  pub still_all : (plan : Plan) (n : ℕ) (m : Mach) → Halted m → all_by E plan n m ≡ m
  unfolding all_by then
  still_all plan n m h =
      let k : ℕ = m.st.at.0 in
      ap (λ (a : Mach). (let b = children_by E plan n a.st.last a in play_of plan.last (parts_of a.st.last.0 k b.st.last.0 k k b.st) b)) (still_play plan.first (parts_of 0 k 0 k k m.st) m h)
      ∙ ap (λ (b : Mach). play_of plan.last (parts_of m.st.last.0 k b.st.last.0 k k b.st) b) (still_children plan n m.st.last m h)
      ∙ still_play plan.last (parts_of m.st.last.0 k m.st.last.0 k k m.st) m h

  pub still_ascribed : (s env : List ℕ) (i : Place) (m : Mach) → Halted m → ascribed_by E s env i m ≡ m
  unfolding ascribed_by then
  still_ascribed s env i m h =
      let F : Mach → Mach = (λ (a : Mach). (let b = ascription_of s env a.st.last.0 m.st.at.0 a in with_st (gave_of a.st.last.0 b.st) b)) in
      ap (λ (x : Mach). F (E x)) (still_within (placed_of i.0) m (still_placed i.0 m.st h)) ∙ ap F (e m h)
      ∙ ap (λ (b : Mach). with_st (gave_of m.st.last.0 b.st) b) (still_ascription s env m.st.last.0 m.st.at.0 m h)
      ∙ still_within (gave_of m.st.last.0) m (still_gave m.st.last.0 m.st h)

  pub still_explicit : (s : List ℕ) (i : Place) (m : Mach) → Halted m → typed_by E s i m ≡ m
  unfolding typed_by then
  still_explicit s i m h =
      let G : Mach → Mach = (λ (a : Mach). (let d = meets_of s a.st.last.0 a.st.from.0 (with_st (placed_of i.0 a.st) a) in with_st (gave_of a.st.last.0 (placed_of a.st.at.0 d.st)) d)) in
      ap (λ (v : State). G (E (with_st (skip_of levels s v) m))) (still_placed i.0 m.st h)
      ∙ ap (λ (v : State). G (E (with_st v m))) (still_skip levels s m.st h)
      ∙ ap G (e m h)
      ∙ ap (λ (v : State). (let d = meets_of s m.st.last.0 m.st.from.0 (with_st v m) in with_st (gave_of m.st.last.0 (placed_of m.st.at.0 d.st)) d)) (still_placed i.0 m.st h)
      ∙ ap (λ (d : Mach). with_st (gave_of m.st.last.0 (placed_of m.st.at.0 d.st)) d) (still_meets s m.st.last.0 m.st.from.0 m h)
      ∙ ap (λ (v : State). with_st (gave_of m.st.last.0 v) m) (still_placed m.st.at.0 m.st h)
      ∙ still_within (gave_of m.st.last.0) m (still_gave m.st.last.0 m.st h)

  module _ (P : Mach → Mach) (q : Still P) (s env : List ℕ) where
    pub still_quant : (o n : ℕ) (i : Place) (m : Mach) → Halted m → quant_by E P s env o n i m ≡ m
    unfolding quant_by then
    still_quant o n i m h =
        let k : Script = check_quantified_of o in
        let C : Mach → Mach = (λ (c : Mach). with_st (bound_of m.st.bound c.st) c) in
        ap (λ (x : Mach). C (one_by E k m.st.at.0 (P (declare_of s env n x)))) (still_within (placed_of i.0) m (still_placed i.0 m.st h))
        ∙ ap (λ (x : Mach). C (one_by E k m.st.at.0 (P x))) (still_declare s env n m h)
        ∙ ap (λ (x : Mach). C (one_by E k m.st.at.0 x)) (q m h)
        ∙ ap C (still_one k m.st.at.0 m h)
        ∙ still_within (bound_of m.st.bound) m (still_bound m.st.bound m.st h)

    pub still_pquant : (n : ℕ) (i : Place) (m : Mach) → Halted m → pred_quant_by P s env n i m ≡ m
    unfolding pred_quant_by then
    still_pquant n i m h =
        let C : Mach → Mach = (λ (c : Mach). with_st (bound_of m.st.bound c.st) c) in
        ap (λ (x : Mach). C (P (declare_of s env n x))) (still_within (placed_of i.0) m (still_placed i.0 m.st h))
        ∙ ap (λ (x : Mach). C (P x)) (still_declare s env n m h)
        ∙ ap C (q m h)
        ∙ still_within (bound_of m.st.bound) m (still_bound m.st.bound m.st h)

    pub still_body : (g : ExprHead) (m : Mach) → Halted m → body_by E P s env g m ≡ m
    unfolding body_by then
    still_body (Free x i) m h = places i (free_of env x.0 m.st.at.0) m h (still_free env x.0 m.st.at.0 m h)
    still_body (Bound j i) m h = places i (bound_identifier_of j m.st.at.0) m h (still_identifier j m.st.at.0 m h)
    still_body (Literal i) m h = places i (make_of 0x41 0 0) m h (still_make 0x41 0 0 m h)
    still_body (Atomic o i) m h = let a : ℕ = m.st.at.0 in places i (play_of (check_atomic_of o) (parts_of 0 a 0 a a m.st)) m h (still_play (check_atomic_of o) (parts_of 0 a 0 a a m.st) m h)
    still_body (Extension n i) m h = places i (all_by E extension_plan n) m h (still_all extension_plan n m h)
    still_body (Truth i) m h = ap (make_of 0x40 0 0) (places i P m h (q m h)) ∙ still_make 0x40 0 0 m h
    still_body (Binary o i) m h = places i (two_by E (check_binary_of o) m.st.at.0) m h (still_two (check_binary_of o) m.st.at.0 m h)
    still_body (Associative o n i) m h = places i (all_by E (check_associative_of o) n) m h (still_all (check_associative_of o) n m h)
    still_body (Unary o i) m h = places i (one_by E (check_unary_of o) m.st.at.0) m h (still_one (check_unary_of o) m.st.at.0 m h)
    still_body (Quantified o n i) m h = still_quant o n i m h
    still_body (Ascribed i) m h = still_ascribed s env i m h
    still_body (Explicit i) m h = still_halts m h

    pub still_pbody : (g : PredHead) (m : Mach) → Halted m → pred_body_by E P s env g m ≡ m
    unfolding pred_body_by then
    still_pbody (Constant i) m h = places i (λ x. x) m h refl
    still_pbody (Variable i) m h = places i (λ x. x) m h refl
    still_pbody (Relational o i) m h = places i (two_by E (check_relational_of o) m.st.at.0) m h (still_two (check_relational_of o) m.st.at.0 m h)
    still_pbody (Connective i) m h = places i (times_of P 2) m h (still_times P m (q m h) 2)
    still_pbody (Junction n i) m h = places i (times_of P n) m h (still_times P m (q m h) n)
    still_pbody (Negation i) m h = places i P m h (q m h)
    still_pbody (Quantification n i) m h = still_pquant n i m h
    still_pbody (Simple i) m h = places i (one_by E Sc.Finite m.st.at.0) m h (still_one Sc.Finite m.st.at.0 m h)
    still_pbody (Multiple n i) m h = places i (all_by E multiple_plan n) m h (still_all multiple_plan n m h)
    still_pbody (Application n i) m h = ap (list_of 5 m.st.at.0 0xFFFF) (places i (all_by E application_plan n) m h (still_all application_plan n m h)) ∙ still_list 5 m.st.at.0 0xFFFF m h

still_enteredby : (f : State → Mach) (m : Mach) → f m.st ≡ m → entered_by f m.st m ≡ m
unfolding entered_by
still_enteredby f m e = test-both (eqb m.st.stop 0) _ _ m e refl

pub still_paidby : (f : State → Mach) (m : Mach) → Halted m → f m.st ≡ m → paid_by f m ≡ m
unfolding paid_by then
still_paidby f m h e = ap (λ (v : State). entered_by f v m) (still_paid m.st h) ∙ still_enteredby f m e

pub still_ownedby : (f : State → Mach) (m : Mach) → Halted m → f m.st ≡ m → owned_by f m ≡ m
unfolding owned_by then
still_ownedby f m h e = ap (λ (v : State). entered_by f v m) (still_enter m.st h) ∙ still_enteredby f m e

module _ (m : Mach) (h : Halted m) where
  still_exprby : (X : Place → Mach) (f : ExprHead → Mach) (a : Option ExprHead) → ((i : Place) → X i ≡ m) → ((g : ExprHead) → f g ≡ m) → expr_by X f a m ≡ m
  unfolding expr_by
  still_exprby X f None x e = still_halts m h
  still_exprby X f (Some (Explicit i)) x e = x i
  still_exprby X f (Some (Free n i)) x e = e (Free n i)
  still_exprby X f (Some (Bound j i)) x e = e (Bound j i)
  still_exprby X f (Some (Literal i)) x e = e (Literal i)
  still_exprby X f (Some (Atomic o i)) x e = e (Atomic o i)
  still_exprby X f (Some (Extension n i)) x e = e (Extension n i)
  still_exprby X f (Some (Truth i)) x e = e (Truth i)
  still_exprby X f (Some (Binary o i)) x e = e (Binary o i)
  still_exprby X f (Some (Associative o n i)) x e = e (Associative o n i)
  still_exprby X f (Some (Unary o i)) x e = e (Unary o i)
  still_exprby X f (Some (Quantified o n i)) x e = e (Quantified o n i)
  still_exprby X f (Some (Ascribed i)) x e = e (Ascribed i)

  still_predby : (f : PredHead → Mach) (a : Option PredHead) → ((g : PredHead) → f g ≡ m) → pred_by f a m ≡ m
  unfolding pred_by
  still_predby f None e = still_halts m h
  still_predby f (Some g) e = e g

mutual
  unfolding expr_of pred_of then

  pub still_expr : (l : ℕ) (s env : List ℕ) (m : Mach) → Halted m → expr_of l s env m ≡ m
  still_expr zero s env m h =
      still_exprby m h (λ i. paid_by (λ v. halts (with_st v m)) m) (λ g. owned_by (λ v. halts (with_st v m)) m) (expr_head max_names (reach s) false m.st.at)
      (λ i. still_paidby (λ v. halts (with_st v m)) m h (still_halts m h))
      (λ g. still_ownedby (λ v. halts (with_st v m)) m h (still_halts m h))
  still_expr (suc l) s env m h =
      still_exprby m h (λ i. paid_by (λ v. typed_by (λ y. expr_of l s env y) s i (with_st v m)) m)
      (λ g. owned_by (λ v. leave_of m.st.slots m.st.at.0 (body_by (λ y. expr_of l s env y) (λ y. pred_of l s env y) s env g (with_st v m))) m) (expr_head max_names (reach s) false m.st.at)
      (λ i. still_paidby (λ v. typed_by (λ y. expr_of l s env y) s i (with_st v m)) m h (still_explicit (λ z. expr_of l s env z) (λ x k. still_expr l s env x k) s i m h))
      (λ g. still_ownedby (λ v. leave_of m.st.slots m.st.at.0 (body_by (λ y. expr_of l s env y) (λ y. pred_of l s env y) s env g (with_st v m))) m h
      (ap (leave_of m.st.slots m.st.at.0) (still_body (λ y. expr_of l s env y) (λ x k. still_expr l s env x k) (λ y. pred_of l s env y) (λ x k. still_pred l s env x k) s env g m h) ∙ still_leave m.st.slots m.st.at.0 m h))

  pub still_pred : (l : ℕ) (s env : List ℕ) (m : Mach) → Halted m → pred_of l s env m ≡ m
  still_pred zero s env m h = still_predby m h (λ g. paid_by (λ v. halts (with_st v m)) m) (pred_head (reach s) m.st.at) (λ g. still_paidby (λ v. halts (with_st v m)) m h (still_halts m h))
  still_pred (suc l) s env m h =
      still_predby m h (λ g. paid_by (λ v. pred_body_by (λ y. expr_of l s env y) (λ y. pred_of l s env y) s env g (with_st v m)) m) (pred_head (reach s) m.st.at)
      (λ g. still_paidby (λ v. pred_body_by (λ y. expr_of l s env y) (λ y. pred_of l s env y) s env g (with_st v m)) m h
      (still_pbody (λ y. expr_of l s env y) (λ x k. still_expr l s env x k) (λ y. pred_of l s env y) (λ x k. still_pred l s env x k) s env g m h))

-- ---- the walk's functions at a number of levels
module _ (l : ℕ) (s env : List ℕ) where
  pub still_one_of : (k : Script) (p : ℕ) (m : Mach) → Halted m → one_by (expr_of l s env) k p m ≡ m
  still_one_of k p m h = still_one (expr_of l s env) (still_expr l s env) k p m h

  pub still_two_of : (k : Script) (p : ℕ) (m : Mach) → Halted m → two_by (expr_of l s env) k p m ≡ m
  still_two_of k p m h = still_two (expr_of l s env) (still_expr l s env) k p m h

  pub still_children_of : (plan : Plan) (n : ℕ) (y : NodeRef) (m : Mach) → Halted m → children_by (expr_of l s env) plan n y m ≡ m
  still_children_of plan n y m h = still_children (expr_of l s env) (still_expr l s env) plan n y m h

  pub still_preds_of : (n : ℕ) (m : Mach) → Halted m → times_of (pred_of l s env) n m ≡ m
  still_preds_of n m h = still_times (pred_of l s env) m (still_pred l s env m h) n

  pub still_exprs_of : (n : ℕ) (m : Mach) → Halted m → times_of (expr_of l s env) n m ≡ m
  still_exprs_of n m h = still_times (expr_of l s env) m (still_expr l s env m h) n

  still_pair : (m : Mach) → Halted m → pair_by (expr_of l s env) m ≡ m
  unfolding pair_by then
  still_pair m h =
      ap (λ (a : Mach). (let b = expr_of l s env a in expect_of b.st.last.0 a.st.last.0 b.st.from.0 b)) (still_expr l s env m h)
      ∙ ap (λ (b : Mach). expect_of b.st.last.0 m.st.last.0 b.st.from.0 b) (still_expr l s env m h)
      ∙ still_expect m.st.last.0 m.st.last.0 m.st.from.0 m h

  pub still_pairs_of : (n : ℕ) (m : Mach) → Halted m → times_of (pair_by (expr_of l s env)) n m ≡ m
  still_pairs_of n m h = still_times (pair_by (expr_of l s env)) m (still_pair m h) n

  still_product : (m : Mach) → Halted m → product_by (expr_of l s env) m ≡ m
  unfolding product_by then
  still_product m h = ap (λ (a : Mach). make_of 0x44 m.st.last.0 a.st.last.0 a) (still_expr l s env m h) ∙ still_make 0x44 m.st.last.0 m.st.last.0 m h

  pub still_products_of : (n : ℕ) (m : Mach) → Halted m → times_of (product_by (expr_of l s env)) n m ≡ m
  still_products_of n m h = still_times (product_by (expr_of l s env)) m (still_product m h) n

module _ (s env : List ℕ) where
  pub still_belongs : (m : Mach) → Halted m → belongs_of s env m ≡ m
  unfolding belongs_of then
  still_belongs m h =
      ap (λ (c : Mach). (let d = expr_of max_depth s env c in expect_of d.st.last.0 c.st.last.0 d.st.from.0 d)) (still_make 0x43 m.st.last.0 0 m h)
      ∙ ap (λ (d : Mach). expect_of d.st.last.0 m.st.last.0 d.st.from.0 d) (still_expr max_depth s env m h)
      ∙ still_expect m.st.last.0 m.st.last.0 m.st.from.0 m h

  pub still_becomes_in : (n : ℕ) (m : Mach) → Halted m → becomes_in_of s env n m ≡ m
  unfolding becomes_in_of then
  still_becomes_in n m h =
      ap (λ (a : Mach). belongs_of s env (products_of s env n a)) (still_expr max_depth s env m h)
      ∙ ap (belongs_of s env) (still_products_of max_depth s env (n - 1) m h)
      ∙ still_belongs m h

  pub still_shares : (first n p k i : ℕ) (m : Mach) → Halted m → shares_from first n p k i m ≡ m
  unfolding shares_from share_by then
  still_shares first n p zero i m h = refl
  still_shares first n p (suc k) i m h = ap (shares_from first n p k (i + 1)) (still_expect _ _ p m h) ∙ still_shares first n p k (i + 1) m h

  pub still_such_that : (first n p : ℕ) (m : Mach) → Halted m → such_that_of s env first n p m ≡ m
  unfolding such_that_of shares_of then
  still_such_that first n p m h = ap (pred_of max_depth s env) (still_shares first n p (n - 0) 0 m h) ∙ still_pred max_depth s env m h

  pub still_becomes_such : (n p : ℕ) (m : Mach) → Halted m → becomes_such_of s env n p m ≡ m
  unfolding becomes_such_of then
  still_becomes_such n p m h =
      ap (λ (a : Mach). such_that_of s env m.st.slots n p (declare_of s env n a)) (still_exprs_of max_depth s env n m h)
      ∙ ap (such_that_of s env m.st.slots n p) (still_declare s env n m h)
      ∙ still_such_that m.st.slots n p m h

  still_assigned : (f : Mach → Mach) (e : Place) (m : Mach) → Halted m → f m ≡ m → assigned_by f e m ≡ m
  unfolding then
  still_assigned f e m h g = ap (λ (v : State). f (with_st (placed_of e.0 v) m)) (still_paid m.st h) ∙ ap (λ (v : State). f (with_st v m)) (still_placed e.0 m.st h) ∙ g

  still_root : (r : Option Root) (m : Mach) → Halted m → root_by s env r m ≡ m
  unfolding root_by
  still_root None m h = still_halts m h
  still_root (Some Expression) m h = still_expr levels s env m h
  still_root (Some Predicate) m h = still_pred levels s env m h
  still_root (Some (Becomes n e)) m h = still_assigned (pairs_of s env n) e m h (still_pairs_of max_depth s env n m h)
  still_root (Some (BecomesIn n e)) m h = still_assigned (becomes_in_of s env n) e m h (still_becomes_in n m h)
  still_root (Some (BecomesSuch n e)) m h = still_assigned (becomes_such_of s env n m.st.at.0) e m h (still_becomes_such n m.st.at.0 m h)

  -- a whole formula
  pub still_formula : (m : Mach) → Halted m → formula_of s env m ≡ m
  unfolding formula_of then
  still_formula m h = still_root (root_head (reach s) m.st.at) m h

pub ruleset still = (still_ascription, still_meet, still_expr, still_pred, still_one_of, still_two_of, still_children_of, still_preds_of, still_exprs_of, still_pairs_of, still_products_of, still_belongs, still_becomes_in, still_shares, still_such_that, still_becomes_such)
