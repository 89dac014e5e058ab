-- The parse, step by step, as the code takes it: the code keeps the state and forgets the tree.
use Prim.Native.Nat.{ℕ, zero, suc, ◌-◌, ◌≤◌, ◌<◌}
use native.Mathlib.Omega.{arith}
use Rattle.std.proofs.Math.Decide.{ℕ_discrete, dec_lt}
use Rattle.std.proofs.Common.{sub-one, ◌∙◌}
use Rattle.std.proofs.Math.Path.{◌≡◌, refl, sym, ap}
use Rattle.std.specs.Prelude.{Bool, length, ltb, eqb, Option, Some, None, Result, Ok, Err}
use Rattle.std.proofs.Math.Bool.{true, false}
use mathlib.Core.List.{List, [], ◌∷◌}
use Rattle.std.proofs.Math.Dec.{leb}
use borrow.Author.Tests.{ne_eqb, lt-ltb, le-ltb, leb-true}
use Rattle.types.specs.declared.Place.{Place}
use Rattle.types.specs.Record.{TypeAt, got, malformed, deep, type_at, reach}
use Rattle.types.specs.Code.{end_of}
use Rattle.formula.specs.declared.FormError.TheVariants.{TooLong, At}
use Rattle.heads.specs.declared.ExprHead.{ExprHead}
use Rattle.heads.specs.declared.ExprHead.TheVariants.{Free, Bound, Literal, Atomic, Extension, Truth, Binary, Associative, Unary, Quantified, Ascribed, Explicit}
use Rattle.heads.specs.declared.PredHead.{PredHead}
use Rattle.heads.specs.declared.PredHead.TheVariants.{Constant, Variable, Relational, Connective, Junction, Negation, Quantification, Simple, Multiple, Application}
use Rattle.heads.specs.declared.DeclHead.{DeclHead}
use Rattle.heads.specs.declared.DeclHead.TheVariants.{Plain, Typed, Annotated}
use Rattle.heads.specs.declared.Root.{Root}
use Rattle.heads.specs.declared.Root.TheVariants as R
use Rattle.formula.specs.declared.St.{St}
use Rattle.types.specs.declared.Fault.{Fault}
use Rattle.types.specs.declared.Fault.TheVariants.{Malformed, Beyond}
use Rattle.formula.specs.Tree.{spells, Expr, extension, truth, binary, associative, unary, quantified, ascribed, explicit, none, more, Pred, relational, connective, junction, negation, quantification, simple, multiple, application, end, also, Formula, expression, predicate, becomes, becomes_in, becomes_such}
use Rattle.heads.specs.Reads.{reach-all, root-missing, root-expression, root-predicate, root_assignment, assignment_missing, assignment_becomes, assignment_in, assignment_such, assignment_wrong}
use Rattle.heads.specs.Heads.{pick, byte_at, on_part, few_at, expr_head, pred_head, decl_head, target_at, assignment_at, root_head}
use Rattle.formula.specs.Reader.{Got, ok, bad, and_then, forget, after, on_next, many, moved, own_of, declare_of, closing, closed_of, type_got, type_in, read_no_type, spelled_in, spelling_in, Out}
use Rattle.formula.specs.Parse.{decl_by, decl_if, decl_at, decls_at, expr_by, pred_by, expr_if, pred_if, expr_deep, pred_deep, expr_at, pred_at, target_by, target_in, pair_in, targets_at, pairs_at, becomes_by, becomes_at, root_by, start, formula_at, finish, whole, parsed_by, parse_of, Form, form_of}
use Rattle.types.specs.Limits.{max_bytes, max_depth, levels}

-- ---- forgetting

pub forget-last : {A B : Type 0} (g : Got A) (f : A → B) → forget g ≡ forget (and_then g λ a st. ok st (f a))
unfolding forget and_then
forget-last (ok st a) f = refl
forget-last (bad x) f = refl

pub forget-then : {A B C : Type 0} (g : Got A) (k : A → St → Got B) (n : St → Got C) → ((a : A) (st : St) → forget (n st) ≡ forget (k a st)) → after (forget g) n ≡ forget (and_then g k)
unfolding forget and_then after
forget-then (ok st a) k n h = h a st
forget-then (bad x) k n h = refl

pub forget-next : {A C : Type 0} (o : Out) (k : St → Got A) (n : St → Got C) → ((st : St) → forget (n st) ≡ forget (k st)) → after o n ≡ forget (on_next o k)
unfolding forget on_next after
forget-next (Ok st) k n h = h st
forget-next (Err x) k n h = refl

pub forget-own : {A : Type 0} (o : Out) (f : A) → o ≡ forget (on_next o λ st. ok st f)
unfolding forget on_next
forget-own (Ok st) f = refl
forget-own (Err x) f = refl

pub forget-closing : {A : Type 0} (opened : ℕ) (g : Got A) → closed_of opened (forget g) ≡ forget (closing opened g)
unfolding forget closing closed_of
forget-closing opened (ok st a) = refl
forget-closing opened (bad x) = refl

-- ---- n things, one after the other

module _ {A B : Type 0} (nil : B) (cons : A → B → B) (m : St → Got A) (n : ℕ) (st : St) where
  pub many_done : n ≡ 0 → Ok st ≡ forget (many nil cons m n st)
  unfolding forget many
  many_done e = rw e

  pub many_turn : (n ≡ 0 → ⊥) → after (forget (m st)) (many nil cons m (n - 1)) ≡ forget (many nil cons m n st)
  unfolding many
  many_turn h = go n h
    where
      go : (k : ℕ) → (k ≡ 0 → ⊥) → after (forget (m st)) (many nil cons m (k - 1)) ≡ forget (many nil cons m k st)
      go zero h = absurd (h refl)
      go (suc k) h = rw sub-one (forget-then (m st) (λ a st₁. and_then (many nil cons m k st₁) λ b st₂. ok st₂ (cons a b)) (many nil cons m k) (λ a st₁. forget-last (many nil cons m k st₁) (cons a)))

  module _ (h : n ≡ 0 → ⊥) where
    pub many_fault : (f : Fault Place) → forget (m st) ≡ Err f → Err f ≡ forget (many nil cons m n st)
    unfolding after
    many_fault f e = rw (← many_turn h, e)

    pub many_went : (k : ℕ) (t : St) → suc k ≡ n → forget (m st) ≡ Ok t → forget (many nil cons m k t) ≡ forget (many nil cons m n st)
    unfolding after
    many_went k t i e = let z : n - 1 ≡ k = omega arith in rw (← many_turn h, e, z)

pub ruleset many_steps = (many_done, many_fault, many_went)

-- ---- types

-- what the code answers to a type's end
unfoldable pub type_out : Result Place (Fault Place) → St → Out
type_out (Ok e) st = Ok (moved e st)
type_out (Err f) st = Err f

type-out : (x : TypeAt) (st : St) → type_out (end_of x) st ≡ forget (type_got x st)
unfolding forget type_out type_got end_of
type-out (got t e) st = refl
type-out (malformed p) st = refl
type-out (deep p) st = refl

pub type_code : (names : ℕ) (s : List ℕ) (left : ℕ) (st : St) → forget (type_in names s left st) ≡ type_out (end_of (type_at left names s st.at.0)) st
unfolding type_in
type_code names s left st = sym (type-out (type_at left names s st.at.0) st)

-- a type, or 4F, by the next byte
unfoldable pub spelling_out : ℕ → List ℕ → ℕ → St → Option (ℕ × Place) → Out
spelling_out names s left st None = forget (type_in names s left st)
spelling_out names s left st (Some x) = pick (eqb x.0 0x4F) (pick (eqb left 0) (Err (Beyond st.at)) (Ok (moved x.1 st))) (forget (type_in names s left st))

pub spelling_code : (names : ℕ) (s : List ℕ) (left : ℕ) (st : St) → forget (spelling_in names s left st) ≡ spelling_out names s left st (byte_at s st.at)
unfolding forget spelling_in spelled_in read_no_type on_part spelling_out
spelling_code names s left st = go (byte_at s st.at)
  where
    spelled : forget (spelled_in names s left st) ≡ forget (type_in names s left st)
    spelled = sym (forget-last (type_in names s left st) spells)

    no_type_out : (l : ℕ) (e : Place) → forget (read_no_type l e st) ≡ pick (eqb l 0) (Err (Beyond st.at)) (Ok (moved e st))
    no_type_out zero e = refl
    no_type_out (suc l) e = rw (ne_eqb (suc l) 0 (λ z. omega arith))

    on : (e : Place) (c : Bool) → forget (pick c (read_no_type left e st) (spelled_in names s left st)) ≡ pick c (pick (eqb left 0) (Err (Beyond st.at)) (Ok (moved e st))) (forget (type_in names s left st))
    on e true = no_type_out left e
    on e false = spelled

    go : (b : Option (ℕ × Place)) → forget (on_part (spelled_in names s left st) b λ k e. pick (eqb k 0x4F) (read_no_type left e st) (spelled_in names s left st)) ≡ spelling_out names s left st b
    go None = spelled
    go (Some x) = on x.1 (eqb x.0 0x4F)

-- ---- declarations

module _ (names : ℕ) (s : List ℕ) (left : ℕ) (st : St) where
  -- what is read below a declaration's head
  unfoldable pub decl_out : DeclHead → Out
  decl_out (Plain e) = declare_of e st
  decl_out (Typed e) = after (declare_of e st) (type_in names s left)
  decl_out (Annotated e) = after (declare_of e st) (spelling_in names s left)

  decl_by_out : (h : DeclHead) → forget (decl_by names s left st h) ≡ decl_out h
  unfolding decl_by decl_out
  decl_by_out (Plain e) = sym (forget-own (declare_of e st) _)
  decl_by_out (Typed e) = sym (forget-next (declare_of e st) _ (type_in names s left) (λ st₁. forget-last (type_in names s left st₁) _))
  decl_by_out (Annotated e) = sym (forget-next (declare_of e st) _ (spelling_in names s left) (λ st₁. forget-last (spelling_in names s left st₁) _))

-- a record by its head: malformed, then too deep, then what is read below it
unfoldable pub record_out : {H : Type 0} → ℕ → St → (H → Out) → Option H → Out
record_out left st f None = Err (Malformed st.at)
record_out left st f (Some h) = pick (eqb left 0) (Err (Beyond st.at)) (f h)

pub decl_code : (names : ℕ) (s : List ℕ) (left : ℕ) (st : St) → forget (decl_at names s left st) ≡ record_out left st (decl_out names s (left - 1) st) (decl_head s st.at)
unfolding forget decl_at decl_if record_out
decl_code names s left st = go left (decl_head s st.at)
  where
    go : (l : ℕ) (h : Option DeclHead) → forget (decl_if names s l st h) ≡ record_out l st (decl_out names s (l - 1) st) h
    go zero None = refl
    go (suc l) None = refl
    go zero (Some h) = refl
    go (suc l) (Some h) = rw (sub-one, ne_eqb (suc l) 0 (λ z. omega arith)) (decl_by_out names s l st h)

-- ---- expressions and predicates

-- one, two or three things after another
module _ {A B C D : Type 0} (o : Out) (m : St → Got A) (n : St → Got B) (l : St → Got C) where
  once : (f : A → D) → after o m ≡ forget (on_next o λ st. and_then (m st) λ a st₁. ok st₁ (f a))
  once f = forget-next o _ m (λ st. forget-last (m st) f)

  twice : (f : A → St → B → D) → after (after o m) n ≡ forget (on_next o λ st. and_then (m st) λ a st₁. and_then (n st₁) λ b st₂. ok st₂ (f a st₁ b))
  unfolding after on_next forget
  twice f = go o
    where
      go : (o : Out) → after (after o m) n ≡ forget (on_next o λ st. and_then (m st) λ a st₁. and_then (n st₁) λ b st₂. ok st₂ (f a st₁ b))
      go (Ok st) = forget-then (m st) (λ a st₁. and_then (n st₁) λ b st₂. ok st₂ (f a st₁ b)) n (λ a st₁. forget-last (n st₁) (f a st₁))
      go (Err x) = refl

  thrice : (f : A → B → C → D) → after (after (after o m) n) l ≡ forget (on_next o λ st. and_then (m st) λ a st₁. and_then (n st₁) λ b st₂. and_then (l st₂) λ c st₃. ok st₃ (f a b c))
  unfolding after on_next forget and_then
  thrice f = go o
    where
      in_two : (a : A) (st₁ : St) → after (forget (n st₁)) l ≡ forget (and_then (n st₁) λ b st₂. and_then (l st₂) λ c st₃. ok st₃ (f a b c))
      in_two a st₁ = forget-then (n st₁) (λ b st₂. and_then (l st₂) λ c st₃. ok st₃ (f a b c)) l (λ b st₂. forget-last (l st₂) (f a b))

      on : (g : Got A) → after (after (forget g) n) l ≡ forget (and_then g λ a st₁. and_then (n st₁) λ b st₂. and_then (l st₂) λ c st₃. ok st₃ (f a b c))
      on (ok st₁ a) = in_two a st₁
      on (bad x) = refl

      go : (o : Out) → after (after (after o m) n) l ≡ forget (on_next o λ st. and_then (m st) λ a st₁. and_then (n st₁) λ b st₂. and_then (l st₂) λ c st₃. ok st₃ (f a b c))
      go (Ok st) = on (m st)
      go (Err x) = refl

-- what is read below each head, where X and Q read the records below
module _ (names : ℕ) (s : List ℕ) (left : ℕ) (X : Bool → St → Got Expr) (Q : St → Got Pred) (st : St) where
  unfoldable pub expr_out : ExprHead → Out
  expr_out (Free n e) = own_of e st
  expr_out (Bound i e) = own_of e st
  expr_out (Literal e) = own_of e st
  expr_out (Atomic o e) = own_of e st
  expr_out (Extension n e) = after (own_of e st) (many none more (X false) n)
  expr_out (Truth e) = after (own_of e st) Q
  expr_out (Binary o e) = after (after (own_of e st) (X false)) (X false)
  expr_out (Associative o n e) = after (own_of e st) (many none more (X false) n)
  expr_out (Unary o e) = after (own_of e st) (X false)
  expr_out (Quantified o n e) = closed_of st.opened (after (after (after (own_of e st) (decls_at names s left n)) Q) (X false))
  expr_out (Ascribed e) = after (after (own_of e st) (X false)) (spelling_in names s left)
  expr_out (Explicit e) = after (forget (type_in names s left (moved e st))) (X true)

  expr_by_out : (h : ExprHead) → forget (expr_by names s left X Q st h) ≡ expr_out h
  unfolding expr_by expr_out
  expr_by_out (Free n e) = sym (forget-own (own_of e st) _)
  expr_by_out (Bound i e) = sym (forget-own (own_of e st) _)
  expr_by_out (Literal e) = sym (forget-own (own_of e st) _)
  expr_by_out (Atomic o e) = sym (forget-own (own_of e st) _)
  expr_by_out (Extension n e) = sym (once (own_of e st) (many none more (X false) n) Q Q (extension st.at.0))
  expr_by_out (Truth e) = sym (once (own_of e st) Q Q Q (truth st.at.0))
  expr_by_out (Binary o e) = sym (twice (own_of e st) (X false) (X false) Q (λ a t b. binary st.at.0 o a b))
  expr_by_out (Associative o n e) = sym (once (own_of e st) (many none more (X false) n) Q Q (associative st.at.0 o))
  expr_by_out (Unary o e) = sym (once (own_of e st) (X false) Q Q (unary st.at.0 o))
  expr_by_out (Quantified o n e) = sym (ap (closed_of st.opened) (thrice (own_of e st) (decls_at names s left n) Q (X false) (λ ds q a. quantified st.at.0 o ds q a)) ∙ forget-closing st.opened _)
  expr_by_out (Ascribed e) = sym (twice (own_of e st) (X false) (spelling_in names s left) Q (λ a t x. ascribed st.at.0 a t.at.0 x))
  expr_by_out (Explicit e) = sym (forget-then (type_in names s left (moved e st)) _ (X true) (λ t st₁. forget-last (X true st₁) (explicit st.at.0 t)))

  unfoldable pub pred_out : PredHead → Out
  pred_out (Constant e) = Ok (moved e st)
  pred_out (Variable e) = Ok (moved e st)
  pred_out (Relational o e) = after (forget (X false (moved e st))) (X false)
  pred_out (Connective e) = after (forget (Q (moved e st))) Q
  pred_out (Junction n e) = forget (many end also Q n (moved e st))
  pred_out (Negation e) = forget (Q (moved e st))
  pred_out (Quantification n e) = closed_of st.opened (after (forget (decls_at names s left n (moved e st))) Q)
  pred_out (Simple e) = forget (X false (moved e st))
  pred_out (Multiple n e) = forget (many none more (X false) n (moved e st))
  pred_out (Application n e) = forget (many none more (X false) n (moved e st))

  pred_by_out : (h : PredHead) → forget (pred_by names s left X Q st h) ≡ pred_out h
  unfolding forget pred_by pred_out
  pred_by_out (Constant e) = refl
  pred_by_out (Variable e) = refl
  pred_by_out (Relational o e) = sym (forget-then (X false (moved e st)) _ (X false) (λ a st₁. forget-last (X false st₁) (relational st.at.0 o a)))
  pred_by_out (Connective e) = sym (forget-then (Q (moved e st)) _ Q (λ a st₁. forget-last (Q st₁) (connective st.at.0 a)))
  pred_by_out (Junction n e) = sym (forget-last (many end also Q n (moved e st)) (junction st.at.0))
  pred_by_out (Negation e) = sym (forget-last (Q (moved e st)) (negation st.at.0))
  pred_by_out (Quantification n e) = sym (ap (closed_of st.opened) (forget-then (decls_at names s left n (moved e st)) _ Q (λ ds st₁. forget-last (Q st₁) (quantification st.at.0 ds))) ∙ forget-closing st.opened _)
  pred_by_out (Simple e) = sym (forget-last (X false (moved e st)) (simple st.at.0))
  pred_by_out (Multiple n e) = sym (forget-last (many none more (X false) n (moved e st)) (multiple st.at.0))
  pred_by_out (Application n e) = sym (forget-last (many none more (X false) n (moved e st)) (application st.at.0))

pub expr_code : (left names : ℕ) (s : List ℕ) (bare : Bool) (st : St) → forget (expr_at left names s bare st) ≡ record_out left st (expr_out names s (left - 1) (expr_at (left - 1) names s) (pred_at (left - 1) names s) st) (expr_head names s bare st.at)
unfolding forget expr_at expr_if expr_deep record_out
expr_code left names s bare st = go left (expr_head names s bare st.at) refl
  where
    go : (l : ℕ) (h : Option ExprHead) → expr_head names s bare st.at ≡ h → forget (expr_at l names s bare st) ≡ record_out l st (expr_out names s (l - 1) (expr_at (l - 1) names s) (pred_at (l - 1) names s) st) h
    go zero None e = rw e
    go (suc l) None e = rw e
    go zero (Some h) e = rw e
    go (suc l) (Some h) e = rw (sub-one, e, ne_eqb (suc l) 0 (λ z. omega arith)) (expr_by_out names s l (expr_at l names s) (pred_at l names s) st h)

pub pred_code : (left names : ℕ) (s : List ℕ) (st : St) → forget (pred_at left names s st) ≡ record_out left st (pred_out names s (left - 1) (expr_at (left - 1) names s) (pred_at (left - 1) names s) st) (pred_head s st.at)
unfolding forget pred_at pred_if pred_deep record_out
pred_code left names s st = go left (pred_head s st.at) refl
  where
    go : (l : ℕ) (h : Option PredHead) → pred_head s st.at ≡ h → forget (pred_at l names s st) ≡ record_out l st (pred_out names s (l - 1) (expr_at (l - 1) names s) (pred_at (l - 1) names s) st) h
    go zero None e = rw e
    go (suc l) None e = rw e
    go zero (Some h) e = rw e
    go (suc l) (Some h) e = rw (sub-one, e, ne_eqb (suc l) 0 (λ z. omega arith)) (pred_by_out names s l (expr_at l names s) (pred_at l names s) st h)

-- ---- formulas

module _ (names : ℕ) (s : List ℕ) where
  unfoldable pub target_out : St → Option (ℕ × Place) → Out
  target_out st None = Err (Malformed st.at)
  target_out st (Some x) = own_of x.1 st

  pub target_code : (st : St) → forget (target_in names s st) ≡ target_out st (target_at names s st.at)
  unfolding forget target_in target_by target_out
  target_code st = go (target_at names s st.at)
    where
      go : (h : Option (ℕ × Place)) → forget (target_by st h) ≡ target_out st h
      go None = refl
      go (Some x) = sym (forget-own (own_of x.1 st) _)

  pub pair_code : (left : ℕ) (st : St) → forget (pair_in left names s st) ≡ after (forget (target_in names s st)) (expr_at left names s false)
  unfolding pair_in
  pair_code left st = sym (forget-then (target_in names s st) _ (expr_at left names s false) (λ t st₁. forget-last (expr_at left names s false st₁) _))

  -- an assignment's count is at least 1
  few-some : (p : Place) (n : ℕ) (e : Place) → few_at s p ≡ Some (n, e) → n ≡ 0 → ⊥
  unfolding few_at on_part
  few-some p n e h = go (byte_at s p) refl
    where
      on : (m : ℕ) (q : Place) (b : Bool) → leb 1 m ≡ b → pick {A = Option (ℕ × Place)} b (Some (m, q)) None ≡ Some (n, e) → n ≡ 0 → ⊥
      on m q true l k z = let y : ◌≡◌ {A = ℕ × Place} (m, q) (n, e) = cc in let w = ap (λ (o : ℕ × Place). o.0) y in let x = leb-true 1 m l in omega arith
      on m q false l k z = let y : ◌≡◌ {A = ℕ} 0 1 = cc in omega arith

      go : (b : Option (ℕ × Place)) → byte_at s p ≡ b → n ≡ 0 → ⊥
      go None k z = let x : on_part {A = Option (ℕ × Place)} None None (λ m q. pick (leb 1 m) (Some (m, q)) None) ≡ Some (n, e) = rw k at h in let y : ◌≡◌ {A = ℕ} 0 1 = cc in omega arith
      go (Some (m, q)) k z = on m q (leb 1 m) refl (rw k at h) z

  becomes-wrong : (st : St) (k : ℕ) (p : Place) → few_at s p ≡ None → Err (Malformed st.at) ≡ forget (becomes_at names s st k p)
  unfolding forget becomes_at on_part
  becomes-wrong st k p e = rw e

  module _ (st : St) (k : ℕ) (p : Place) (n : ℕ) (e : Place) (w : few_at s p ≡ Some (n, e)) where
    becomes-by : (r : Out) → ((m : ℕ) → n ≡ suc m → r ≡ forget (becomes_by max_depth names s (suc m) e st k)) → r ≡ forget (becomes_at names s st k p)
    unfolding becomes_at on_part
    becomes-by r h = rw w (go n refl)
      where
        go : (i : ℕ) → n ≡ i → r ≡ forget (becomes_by max_depth names s i e st k)
        go zero z = absurd (few-some p n e w z)
        go (suc i) z = h i z

    becomes-pairs : k ≡ 0x30 → after (Ok (moved e st)) (pairs_at max_depth names s n) ≡ forget (becomes_at names s st k p)
    unfolding becomes_by on_next
    becomes-pairs h = becomes-by (after (Ok (moved e st)) (pairs_at max_depth names s n)) (λ m z. rw (h, z) (once (Ok (moved e st)) (pairs_at max_depth names s (suc m)) (pred_at 0 names s) (pred_at 0 names s) (becomes st.at.0)))

    becomes_set : k ≡ 0x31 → after (after (Ok (moved e st)) (targets_at names s n)) (expr_at max_depth names s false) ≡ forget (becomes_at names s st k p)
    unfolding becomes_by on_next after targets_at
    becomes_set h = becomes-by (after (after (Ok (moved e st)) (targets_at names s n)) (expr_at max_depth names s false))
        (λ m z. rw (h, z, ← many_turn [] ◌∷◌ (target_in names s) (suc m) (moved e st) (λ x. omega arith), sub-one)
        (thrice (Ok (moved e st)) (target_in names s) (targets_at names s m) (expr_at max_depth names s false) (λ t ts a. becomes_in st.at.0 t ts a)))

    becomes_that : k ≡ 0x32 → after (after (after (Ok (moved e st)) (targets_at names s n)) (decls_at names s max_depth n)) (pred_at max_depth names s) ≡ forget (becomes_at names s st k p)
    unfolding becomes_by on_next
    becomes_that h = becomes-by (after (after (after (Ok (moved e st)) (targets_at names s n)) (decls_at names s max_depth n)) (pred_at max_depth names s))
        (λ m z. rw (h, z) (thrice (Ok (moved e st)) (targets_at names s (suc m)) (decls_at names s max_depth (suc m)) (pred_at max_depth names s) (λ ts ds q. becomes_such st.at.0 ts ds q)))

    becomes-other : (k ≡ 0x30 → ⊥) → (k ≡ 0x31 → ⊥) → (k ≡ 0x32 → ⊥) → Err (Malformed st.at) ≡ forget (becomes_at names s st k p)
    unfolding becomes_by forget
    becomes-other a b c = becomes-by (Err (Malformed st.at)) (λ m z. rw (ne_eqb k 0x30 a, ne_eqb k 0x31 b, ne_eqb k 0x32 c))

  formula-none : (st : St) → byte_at s st.at ≡ None → Err (Malformed st.at) ≡ forget (formula_at names s st)
  unfolding forget formula_at on_part
  formula-none st e = rw e

  module _ (st : St) (k : ℕ) (p : Place) (w : byte_at s st.at ≡ Some (k, p)) where
    formula-expr : k < 0x20 → after (Ok st) (expr_at levels names s false) ≡ forget (formula_at names s st)
    unfolding formula_at on_part root_by after
    formula-expr h = rw (w, lt-ltb k 0x20 h) (forget-last (expr_at levels names s false st) expression)

    formula_pred : 0x20 ≤ k → k < 0x30 → after (Ok st) (pred_at levels names s) ≡ forget (formula_at names s st)
    unfolding formula_at on_part root_by after
    formula_pred g h = rw (w, le-ltb k 0x20 g, lt-ltb k 0x30 h) (forget-last (pred_at levels names s st) predicate)

    formula-becomes : 0x30 ≤ k → forget (becomes_at names s st k p) ≡ forget (formula_at names s st)
    unfolding formula_at on_part root_by
    formula-becomes h = rw (w, le-ltb k 0x20 (omega arith), le-ltb k 0x30 h)

  -- what is read below a root, by its head
  unfoldable pub root_out : St → Option Root → Out
  root_out st None = Err (Malformed st.at)
  root_out st (Some R.Expression) = after (Ok st) (expr_at levels names s false)
  root_out st (Some R.Predicate) = after (Ok st) (pred_at levels names s)
  root_out st (Some (R.Becomes n e)) = after (Ok (moved e st)) (pairs_at max_depth names s n)
  root_out st (Some (R.BecomesIn n e)) = after (after (Ok (moved e st)) (targets_at names s n)) (expr_at max_depth names s false)
  root_out st (Some (R.BecomesSuch n e)) = after (after (after (Ok (moved e st)) (targets_at names s n)) (decls_at names s max_depth n)) (pred_at max_depth names s)

  assignment_out : (st : St) (k : ℕ) (p : Place) → root_out st (assignment_at s k p) ≡ forget (becomes_at names s st k p)
  unfolding root_out
  assignment_out st k p = by_count (few_at s p) refl
    where
      by_kind : (n : ℕ) (e : Place) → few_at s p ≡ Some (n, e) → Dec (k ≡ 0x30) → Dec (k ≡ 0x31) → Dec (k ≡ 0x32) → root_out st (assignment_at s k p) ≡ forget (becomes_at names s st k p)
      by_kind n e h (yes a) b c = ap (root_out st) (sym (assignment_becomes s k p n e h a)) ∙ becomes-pairs st k p n e h a
      by_kind n e h (no a) (yes b) c = ap (root_out st) (sym (assignment_in s k p n e h b)) ∙ becomes_set st k p n e h b
      by_kind n e h (no a) (no b) (yes c) = ap (root_out st) (sym (assignment_such s k p n e h c)) ∙ becomes_that st k p n e h c
      by_kind n e h (no a) (no b) (no c) = ap (root_out st) (sym (assignment_wrong s k p n e h a b c)) ∙ becomes-other st k p n e h a b c

      by_count : (b : Option (ℕ × Place)) → few_at s p ≡ b → root_out st (assignment_at s k p) ≡ forget (becomes_at names s st k p)
      by_count None h = ap (root_out st) (sym (assignment_missing s k p h)) ∙ becomes-wrong st k p h
      by_count (Some (n, e)) h = by_kind n e h (ℕ_discrete k 0x30) (ℕ_discrete k 0x31) (ℕ_discrete k 0x32)

  root-out : (st : St) → root_out st (root_head s st.at) ≡ forget (formula_at names s st)
  unfolding root_out
  root-out st = by_byte (byte_at s st.at) refl
    where
      by_kind : (k : ℕ) (p : Place) → byte_at s st.at ≡ Some (k, p) → Dec (k < 0x20) → Dec (k < 0x30) → root_out st (root_head s st.at) ≡ forget (formula_at names s st)
      by_kind k p h (yes a) b = ap (root_out st) (sym (root-expression s st.at k p h a)) ∙ formula-expr st k p h a
      by_kind k p h (no a) (yes b) = ap (root_out st) (sym (root-predicate s st.at k p h (omega arith) b)) ∙ formula_pred st k p h (omega arith) b
      by_kind k p h (no a) (no b) = ap (root_out st) (sym (root_assignment s st.at k p h (omega arith))) ∙ assignment_out st k p ∙ formula-becomes st k p h (omega arith)

      by_byte : (b : Option (ℕ × Place)) → byte_at s st.at ≡ b → root_out st (root_head s st.at) ≡ forget (formula_at names s st)
      by_byte None h = ap (root_out st) (sym (root-missing s st.at h)) ∙ formula-none st h
      by_byte (Some (k, p)) h = by_kind k p h (dec_lt k 0x20) (dec_lt k 0x30)

  pub formula_code : (st : St) → forget (formula_at names s st) ≡ root_out st (root_head s st.at)
  formula_code st = sym (root-out st)

  -- the whole stream
  pub parse_long : max_bytes < length s → Err TooLong ≡ form_of (parse_of names s)
  unfolding parse_of form_of
  parse_long h = rw (lt-ltb max_bytes (length s) h)

  -- bytes that are left over are malformed at the first
  unfoldable pub whole_out : Out → Form
  whole_out (Err f) = Err (At f)
  whole_out (Ok st) = pick (ltb st.at.0 (length s)) (Err (At (Malformed st.at))) (Ok tt)

  -- every byte has a place
  pub parse_code : length s ≤ max_bytes → form_of (parse_of names s) ≡ whole_out (forget (formula_at names (reach s) start))
  unfolding parse_of form_of parsed_by whole and_then finish forget whole_out
  parse_code h = rw (le-ltb max_bytes (length s) h, reach-all s (omega arith)) (go (formula_at names s start))
    where
      left : (st : St) (x : Formula) (c : Bool) → form_of (parsed_by (pick c (bad (Malformed st.at)) (ok st x))) ≡ pick c (Err (At (Malformed st.at))) (Ok tt)
      left st x true = refl
      left st x false = refl

      go : (g : Got Formula) → form_of (parsed_by (and_then g λ x st. finish s st x)) ≡ whole_out (forget g)
      go (bad f) = refl
      go (ok st x) = left st x (ltb st.at.0 (length s))
