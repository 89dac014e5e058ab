-- The steps of the walk at a number of levels, and of its loops, as the code has them.
use Rattle.std.proofs.Common.{ℕ, zero, suc, ◌+◌, ◌-◌, ◌<◌, ◌≤◌, sub-one, arith, List, [], ◌∷◌, ◌≡◌, refl, false}
use Rattle.std.specs.Prelude.{Some}
use types.Run.{OneOf, miss}
use denote.Enum.Declared.{tag_of}
use Rattle.types.specs.Limits.{max_names}
use Rattle.types.specs.declared.NodeRef.{NodeRef}
use Rattle.types.specs.declared.Place.{Place}
use Rattle.heads.specs.contracts.ExprHead.{the_type}
use Rattle.heads.specs.declared.ExprHead.{ExprHead}
use Rattle.heads.specs.declared.ExprHead.TheVariants.{Free, Bound, Literal, Atomic, Extension, Truth, Binary, Associative, Unary, Quantified, Ascribed, Explicit}
use Rattle.types.specs.Record.{reach}
use Rattle.heads.specs.Heads.{expr_head, pred_head}
use Rattle.operators.specs.declared.Plan.{Plan}
use Rattle.forms.specs.Forms.{then}
use Rattle.machine.specs.Machine.{Mach, with_st, gave_of, leave_of}
use Rattle.walker.specs.Walk.{halts, expr_by, pred_by, paid_by, owned_by, typed_by, body_by, pred_body_by, expr_of, pred_of, explicit_of, owned_of, child_by, children_by, next_of}
use Rattle.walker.specs.Root.{share_by, shares_from}

-- ---- the cycle at a number of levels
pub expr_is : (l : ℕ) (s env : List ℕ) (m : Mach) → expr_of l s env m ≡ then (expr_head max_names (reach s) false m.st.at) (λ h. expr_by (λ e. explicit_of l s env e m) (λ g. owned_of l s env g m) h m)
unfolding expr_of explicit_of owned_of
expr_is zero s env m = refl
expr_is (suc l) s env m = refl

pub explicit_none : (l : ℕ) (s env : List ℕ) (p : Place) (m : Mach) → l ≡ 0 → explicit_of l s env p m ≡ paid_by (λ v. halts (with_st v m)) m
unfolding explicit_of
explicit_none l s env p m e = rw e

pub explicit_more : (l : ℕ) (s env : List ℕ) (p : Place) (m : Mach) → (l ≡ 0 → ⊥) → explicit_of l s env p m ≡ paid_by (λ v. typed_by (expr_of (l - 1) s env) s p (with_st v m)) m
unfolding explicit_of
explicit_more zero s env p m h = absurd (h refl)
explicit_more (suc l) s env p m h = rw sub-one

pub owned_none : (l : ℕ) (s env : List ℕ) (g : ExprHead) (m : Mach) → l ≡ 0 → owned_of l s env g m ≡ owned_by (λ v. halts (with_st v m)) m
unfolding owned_of
owned_none l s env g m e = rw e

pub owned_more : (l : ℕ) (s env : List ℕ) (g : ExprHead) (m : Mach) → (l ≡ 0 → ⊥)
    → owned_of l s env g m ≡ owned_by (λ v. then (body_by (expr_of (l - 1) s env) (pred_of (l - 1) s env) s env g (with_st v m)) λ w. leave_of m.st.slots m.st.at.0 w) m
unfolding owned_of
owned_more zero s env g m h = absurd (h refl)
owned_more (suc l) s env g m h = rw sub-one

pub pred_none : (l : ℕ) (s env : List ℕ) (m : Mach) → l ≡ 0 → pred_of l s env m ≡ then (pred_head (reach s) m.st.at) (λ h. pred_by (λ g. paid_by (λ v. halts (with_st v m)) m) h m)
unfolding pred_of
pred_none l s env m e = rw e

pub pred_more : (l : ℕ) (s env : List ℕ) (m : Mach) → (l ≡ 0 → ⊥)
    → pred_of l s env m ≡ then (pred_head (reach s) m.st.at) (λ h. pred_by (λ g. paid_by (λ v. pred_body_by (expr_of (l - 1) s env) (pred_of (l - 1) s env) s env g (with_st v m)) m) h m)
unfolding pred_of
pred_more zero s env m h = absurd (h refl)
pred_more (suc l) s env m h = rw sub-one

pub ruleset levels = (explicit_none, explicit_more, owned_none, owned_more, pred_none, pred_more)

-- any head but 0C
pub owned_is : (X : Place → Mach) (f : ExprHead → Mach) (g : ExprHead) (m : Mach) → OneOf (0 ∷ 1 ∷ 2 ∷ 3 ∷ 4 ∷ 5 ∷ 6 ∷ 7 ∷ 8 ∷ 9 ∷ 10 ∷ []) (tag_of the_type g) → expr_by X f (Some g) m ≡ f g
unfolding expr_by
owned_is X f (Free x e) m k = refl
owned_is X f (Bound i e) m k = refl
owned_is X f (Literal e) m k = refl
owned_is X f (Atomic o e) m k = refl
owned_is X f (Extension n e) m k = refl
owned_is X f (Truth e) m k = refl
owned_is X f (Binary o e) m k = refl
owned_is X f (Associative o n e) m k = refl
owned_is X f (Unary o e) m k = refl
owned_is X f (Quantified o n e) m k = refl
owned_is X f (Ascribed e) m k = refl
owned_is X f (Explicit e) m k = absurd (miss (0 ∷ 1 ∷ 2 ∷ 3 ∷ 4 ∷ 5 ∷ 6 ∷ 7 ∷ 8 ∷ 9 ∷ 10 ∷ []) 11 tt k)

-- ---- loops, by the turns that are left
pub children_end : (E : Mach → Mach) (plan : Plan) (n i : ℕ) (y : NodeRef) (m : Mach) → n ≤ i → children_by E plan (n - i) y m ≡ then (gave_of y.0 m.st) (λ v. with_st v m)
unfolding children_by
children_end E plan n i y m l = let e : n - i ≡ 0 = omega arith in rw e

pub children_turn : (E : Mach → Mach) (plan : Plan) (n i : ℕ) (y : NodeRef) (m : Mach) → i < n
    → children_by E plan (n - i) y m ≡ children_by E plan (n - (i + 1)) (next_of plan.mode y (record { 0 = m.st.nodes })) (child_by E plan y m)
unfolding children_by
children_turn E plan n i y m l = let e : n - i ≡ suc (n - (i + 1)) = omega arith in rw e

pub shares_end : (first n p u i : ℕ) (m : Mach) → u ≤ i → shares_from first n p (u - i) i m ≡ m
unfolding shares_from
shares_end first n p u i m l = let e : u - i ≡ 0 = omega arith in rw e

pub shares_turn : (first n p u i : ℕ) (m : Mach) → i < u → shares_from first n p (u - i) i m ≡ shares_from first n p (u - (i + 1)) (i + 1) (share_by first n p i m)
unfolding shares_from
shares_turn first n p u i m l = let e : u - i ≡ suc (u - (i + 1)) = omega arith in rw e

pub ruleset turns = (children_end, children_turn, shares_end, shares_turn)
