-- What is spelled is parsed: where the bytes spell a tree that keeps the limits and whose places are the offsets, the parse yields that tree.
-- Theorems that rest on what must-fail edits change stand in proofs/Complete.antt.
use Prim.Native.Nat.{ℕ, suc, ◌+◌, ◌*◌, ◌/◌, ◌%◌, ◌≤◌, ◌<◌}
use native.Mathlib.Omega.{arith}
use Rattle.std.specs.Prelude.{◌≡◌, Bool, Option, Some, Ok}
use Rattle.std.proofs.Math.Path.{refl, ap}
use Rattle.std.proofs.Common.{sym, ◌∙◌}
use Rattle.std.proofs.Math.Bool.{false}
use mathlib.Core.List.{List, [], ◌∷◌, ◌++◌, append_assoc}
use Rattle.std.proofs.Math.ListN.{drop}
use borrow.Author.Tests.{lt-ltb, le-leb}
use Rattle.types.specs.declared.Place.{Place}
use Rattle.types.specs.Spellings.{past}
use Rattle.heads.specs.declared.ExprHead.TheVariants.{Free, Bound, Literal, Atomic, Extension, Truth, Binary, Associative, Unary, Quantified, Ascribed, Explicit}
use Rattle.heads.specs.declared.PredHead.TheVariants.{Constant, Variable, Relational, Connective, Junction, Negation, Quantification, Simple, Multiple, Application}
use Rattle.heads.specs.declared.DeclHead.TheVariants.{Plain, Typed, Annotated}
use Rattle.heads.specs.declared.Root.{Root}
use Rattle.heads.specs.declared.Root.TheVariants as R
use Rattle.formula.specs.declared.St.{St}
use Rattle.formula.specs.Tree.{Expr, free, bound, literal, atomic, extension, truth, binary, associative, unary, quantified, ascribed, explicit, Pred, constant, variable, relational, connective, junction, negation, quantification, simple, multiple, application, Target, targets}
use Rattle.formula.specs.Spell.{spell, spell_pred, spell_target, spell_targets, size_targets, PlacedTargets}
use Rattle.heads.specs.Heads.{place, name, byte_of, byte_at, on_part, word_at, name_at, op_at, count_at, few_at, expr_body, expr_head, pred_body, pred_head, decl_body, decl_head, target_at, assignment_at, root_head}
use Rattle.heads.specs.Reads.{root-expression, root-predicate, root_assignment, assignment_becomes, assignment_in, assignment_such}
use Rattle.formula.specs.Reader.{Got, ok, and_then, on_next, many, own_of}
use Rattle.formula.specs.Parse.{target_by, target_in, targets_at}
use Rattle.types.specs.Limits.{max_slots}
use Rattle.formula_laws.specs.Fits.{FitsTargets}

abbrev pub state : ℕ → ℕ → ℕ → St
state p k o = record { at = place p; slots = k; opened = o }

-- ---- bytes at a place
module _ (s : List ℕ) (p : ℕ) where
  pub byte_here : (b : ℕ) (r : List ℕ) → drop p s ≡ b ∷ r → byte_at s (place p) ≡ Some (b, (place (p + 1)))
  unfolding byte_at byte_of
  byte_here b r h = rw h

  pub after_one : (b : ℕ) (r : List ℕ) → drop p s ≡ b ∷ r → drop (p + 1) s ≡ r
  after_one b r h = past s p (b ∷ []) r h

  pub after_two : (b c : ℕ) (r : List ℕ) → drop p s ≡ b ∷ c ∷ r → drop (p + 2) s ≡ r
  after_two b c r h = past s p (b ∷ c ∷ []) r h

  pub after-three : (b c d : ℕ) (r : List ℕ) → drop p s ≡ b ∷ c ∷ d ∷ r → drop (p + 3) s ≡ r
  after-three b c d r h = past s p (b ∷ c ∷ d ∷ []) r h

  pub after-four : (b c d e : ℕ) (r : List ℕ) → drop p s ≡ b ∷ c ∷ d ∷ e ∷ r → drop (p + 4) s ≡ r
  after-four b c d e r h = past s p (b ∷ c ∷ d ∷ e ∷ []) r h

module _ (s : List ℕ) (p : ℕ) where
  pub word-here : (n : ℕ) (r : List ℕ) → drop p s ≡ n % 256 ∷ n / 256 ∷ r → word_at s (place p) ≡ Some (n, (place (p + 2)))
  unfolding word_at on_part
  word-here n r h =
      let e : n % 256 + n / 256 * 256 ≡ n = omega arith in
      let q : p + 1 + 1 ≡ p + 2 = omega arith in
      rw (byte_here s p (n % 256) (n / 256 ∷ r) h, byte_here s (p + 1) (n / 256) r (after_one s p (n % 256) (n / 256 ∷ r) h), e, q)

  pub name-here : (names n : ℕ) (r : List ℕ) → n < names → drop p s ≡ n % 256 ∷ n / 256 ∷ r → name_at names s (place p) ≡ Some (n, (place (p + 2)))
  unfolding name_at on_part
  name-here names n r l h = rw (word-here n r h, lt-ltb n names l)

  pub count-here : (least n : ℕ) (r : List ℕ) → least ≤ n → drop p s ≡ n % 256 ∷ n / 256 ∷ r → count_at least s (place p) ≡ Some (n, (place (p + 2)))
  unfolding count_at on_part
  count-here least n r l h = rw (word-here n r h, le-leb least n l)

  pub op_here : (limit o : ℕ) (r : List ℕ) → o < limit → drop p s ≡ o ∷ r → op_at limit s (place p) ≡ Some (o, (place (p + 1)))
  unfolding op_at on_part
  op_here limit o r l h = rw (byte_here s p o r h, lt-ltb o limit l)

  pub few-here : (n : ℕ) (r : List ℕ) → 1 ≤ n → drop p s ≡ n ∷ r → few_at s (place p) ≡ Some (n, (place (p + 1)))
  unfolding few_at on_part
  few-here n r l h = rw (byte_here s p n r h, le-leb 1 n l)

-- ---- heads at a place
module _ (names : ℕ) (s : List ℕ) (bare : Bool) (p : ℕ) where
  plus : (i j k : ℕ) → i + j ≡ k → p + i + j ≡ p + k
  plus i j k h = omega arith

  module _ (k : ℕ) (r : List ℕ) (h : drop p s ≡ k ∷ r) where
    pub kind-here : expr_head names s bare (place p) ≡ expr_body names s bare k (place (p + 1))
    unfolding expr_head on_part
    kind-here = rw (byte_here s p k r h)

  pub head-free : (n : ℕ) (r : List ℕ) → n < names → drop p s ≡ 0x01 ∷ n % 256 ∷ n / 256 ∷ r → expr_head names s bare (place p) ≡ Some (Free (name n) (place (p + 3)))
  unfolding expr_body on_part
  head-free n r l h = kind-here 0x01 _ h ∙ (rw (name-here s (p + 1) names n r l (after_one s p _ _ h), plus 1 2 3 refl))

  pub head-bound : (n : ℕ) (r : List ℕ) → drop p s ≡ 0x02 ∷ n % 256 ∷ n / 256 ∷ r → expr_head names s bare (place p) ≡ Some (Bound n (place (p + 3)))
  unfolding expr_body on_part
  head-bound n r h = kind-here 0x02 _ h ∙ (rw (word-here s (p + 1) n r (after_one s p _ _ h), plus 1 2 3 refl))

  pub head-literal : (r : List ℕ) → drop p s ≡ 0x03 ∷ r → expr_head names s bare (place p) ≡ Some (Literal (place (p + 1)))
  unfolding expr_body
  head-literal r h = kind-here 0x03 r h

  pub head-atomic : (o : ℕ) (r : List ℕ) → o < 12 → drop p s ≡ 0x04 ∷ o ∷ r → expr_head names s bare (place p) ≡ Some (Atomic o (place (p + 2)))
  unfolding expr_body on_part
  head-atomic o r l h = kind-here 0x04 _ h ∙ (rw (op_here s (p + 1) 12 o r l (after_one s p _ _ h), plus 1 1 2 refl))

  pub head-extension : (n : ℕ) (r : List ℕ) → 1 ≤ n → drop p s ≡ 0x05 ∷ n % 256 ∷ n / 256 ∷ r → expr_head names s bare (place p) ≡ Some (Extension n (place (p + 3)))
  unfolding expr_body on_part
  head-extension n r l h = kind-here 0x05 _ h ∙ (rw (count-here s (p + 1) 1 n r l (after_one s p _ _ h), plus 1 2 3 refl))

  pub head-truth : (r : List ℕ) → drop p s ≡ 0x06 ∷ r → expr_head names s bare (place p) ≡ Some (Truth (place (p + 1)))
  unfolding expr_body
  head-truth r h = kind-here 0x06 r h

  pub head-binary : (o : ℕ) (r : List ℕ) → o < 27 → drop p s ≡ 0x07 ∷ o ∷ r → expr_head names s bare (place p) ≡ Some (Binary o (place (p + 2)))
  unfolding expr_body on_part
  head-binary o r l h = kind-here 0x07 _ h ∙ (rw (op_here s (p + 1) 27 o r l (after_one s p _ _ h), plus 1 1 2 refl))

  pub head-associative : (o n : ℕ) (r : List ℕ) → o < 7 → 2 ≤ n → drop p s ≡ 0x08 ∷ o ∷ n % 256 ∷ n / 256 ∷ r → expr_head names s bare (place p) ≡ Some (Associative o n (place (p + 4)))
  unfolding expr_body on_part
  head-associative o n r l m h =
      let q : p + 1 + 1 + 2 ≡ p + 4 = omega arith in
      kind-here 0x08 _ h ∙ (rw (op_here s (p + 1) 7 o _ l (after_one s p _ _ h), count-here s (p + 1 + 1) 2 n r m (after_one s (p + 1) _ _ (after_one s p _ _ h)), q))

  pub head-unary : (o : ℕ) (r : List ℕ) → o < 11 → drop p s ≡ 0x09 ∷ o ∷ r → expr_head names s bare (place p) ≡ Some (Unary o (place (p + 2)))
  unfolding expr_body on_part
  head-unary o r l h = kind-here 0x09 _ h ∙ (rw (op_here s (p + 1) 11 o r l (after_one s p _ _ h), plus 1 1 2 refl))

  pub head-quantified : (o n : ℕ) (r : List ℕ) → o < 3 → 1 ≤ n → drop p s ≡ 0x0A ∷ o ∷ n ∷ r → expr_head names s bare (place p) ≡ Some (Quantified o n (place (p + 3)))
  unfolding expr_body on_part
  head-quantified o n r l m h =
      let q : p + 1 + 1 + 1 ≡ p + 3 = omega arith in
      kind-here 0x0A _ h ∙ (rw (op_here s (p + 1) 3 o _ l (after_one s p _ _ h), few-here s (p + 1 + 1) n r m (after_one s (p + 1) _ _ (after_one s p _ _ h)), q))

  pub head-ascribed : (r : List ℕ) → drop p s ≡ 0x0B ∷ r → expr_head names s bare (place p) ≡ Some (Ascribed (place (p + 1)))
  unfolding expr_body
  head-ascribed r h = kind-here 0x0B r h

  pub head-explicit : (r : List ℕ) → bare ≡ false → drop p s ≡ 0x0C ∷ r → expr_head names s bare (place p) ≡ Some (Explicit (place (p + 1)))
  unfolding expr_body
  head-explicit r b h = kind-here 0x0C r h ∙ (rw b)

module _ (s : List ℕ) (p : ℕ) where
  more_by : (i j k : ℕ) → i + j ≡ k → p + i + j ≡ p + k
  more_by i j k h = omega arith

  pred_kind-here : (k : ℕ) (r : List ℕ) → drop p s ≡ k ∷ r → pred_head s (place p) ≡ pred_body s k (place (p + 1))
  unfolding pred_head on_part
  pred_kind-here k r h = rw (byte_here s p k r h)

  pub head-constant : (r : List ℕ) → drop p s ≡ 0x20 ∷ r → pred_head s (place p) ≡ Some (Constant (place (p + 1)))
  unfolding pred_body
  head-constant r h = pred_kind-here 0x20 r h

  pub head-variable : (r : List ℕ) → drop p s ≡ 0x21 ∷ r → pred_head s (place p) ≡ Some (Variable (place (p + 1)))
  unfolding pred_body
  head-variable r h = pred_kind-here 0x21 r h

  pub head-relational : (o : ℕ) (r : List ℕ) → o < 12 → drop p s ≡ 0x22 ∷ o ∷ r → pred_head s (place p) ≡ Some (Relational o (place (p + 2)))
  unfolding pred_body on_part
  head-relational o r l h = pred_kind-here 0x22 _ h ∙ (rw (op_here s (p + 1) 12 o r l (after_one s p _ _ h), more_by 1 1 2 refl))

  pub head-connective : (r : List ℕ) → drop p s ≡ 0x23 ∷ r → pred_head s (place p) ≡ Some (Connective (place (p + 1)))
  unfolding pred_body
  head-connective r h = pred_kind-here 0x23 r h

  pub head-junction : (n : ℕ) (r : List ℕ) → 2 ≤ n → drop p s ≡ 0x24 ∷ n % 256 ∷ n / 256 ∷ r → pred_head s (place p) ≡ Some (Junction n (place (p + 3)))
  unfolding pred_body on_part
  head-junction n r l h = pred_kind-here 0x24 _ h ∙ (rw (count-here s (p + 1) 2 n r l (after_one s p _ _ h), more_by 1 2 3 refl))

  pub head-negation : (r : List ℕ) → drop p s ≡ 0x25 ∷ r → pred_head s (place p) ≡ Some (Negation (place (p + 1)))
  unfolding pred_body
  head-negation r h = pred_kind-here 0x25 r h

  pub head-quantification : (n : ℕ) (r : List ℕ) → 1 ≤ n → drop p s ≡ 0x26 ∷ n ∷ r → pred_head s (place p) ≡ Some (Quantification n (place (p + 2)))
  unfolding pred_body on_part
  head-quantification n r l h = pred_kind-here 0x26 _ h ∙ (rw (few-here s (p + 1) n r l (after_one s p _ _ h), more_by 1 1 2 refl))

  pub head-simple : (r : List ℕ) → drop p s ≡ 0x27 ∷ r → pred_head s (place p) ≡ Some (Simple (place (p + 1)))
  unfolding pred_body
  head-simple r h = pred_kind-here 0x27 r h

  pub head-multiple : (n : ℕ) (r : List ℕ) → 1 ≤ n → drop p s ≡ 0x28 ∷ n % 256 ∷ n / 256 ∷ r → pred_head s (place p) ≡ Some (Multiple n (place (p + 3)))
  unfolding pred_body on_part
  head-multiple n r l h = pred_kind-here 0x28 _ h ∙ (rw (count-here s (p + 1) 1 n r l (after_one s p _ _ h), more_by 1 2 3 refl))

  pub head-application : (n : ℕ) (r : List ℕ) → drop p s ≡ 0x29 ∷ n % 256 ∷ n / 256 ∷ r → pred_head s (place p) ≡ Some (Application n (place (p + 3)))
  unfolding pred_body on_part
  head-application n r h = pred_kind-here 0x29 _ h ∙ (rw (word-here s (p + 1) n r (after_one s p _ _ h), more_by 1 2 3 refl))

  decl_kind-here : (k : ℕ) (r : List ℕ) → drop p s ≡ k ∷ r → decl_head s (place p) ≡ decl_body k (place (p + 1))
  unfolding decl_head on_part
  decl_kind-here k r h = rw (byte_here s p k r h)

  pub head_plain : (r : List ℕ) → drop p s ≡ 0x10 ∷ r → decl_head s (place p) ≡ Some (Plain (place (p + 1)))
  unfolding decl_body
  head_plain r h = decl_kind-here 0x10 r h

  pub head-typed : (r : List ℕ) → drop p s ≡ 0x11 ∷ r → decl_head s (place p) ≡ Some (Typed (place (p + 1)))
  unfolding decl_body
  head-typed r h = decl_kind-here 0x11 r h

  pub head-annotated : (r : List ℕ) → drop p s ≡ 0x12 ∷ r → decl_head s (place p) ≡ Some (Annotated (place (p + 1)))
  unfolding decl_body
  head-annotated r h = decl_kind-here 0x12 r h

  pub head-target : (names n : ℕ) (r : List ℕ) → n < names → drop p s ≡ 0x01 ∷ n % 256 ∷ n / 256 ∷ r → target_at names s (place p) ≡ Some (n, (place (p + 3)))
  unfolding target_at on_part
  head-target names n r l h = rw (byte_here s p 0x01 _ h, name-here s (p + 1) names n r l (after_one s p _ _ h), more_by 1 2 3 refl)

  pub head-expression : (k : ℕ) (r : List ℕ) → k < 0x20 → drop p s ≡ k ∷ r → root_head s (place p) ≡ (Some R.Expression)
  head-expression k r l h = sym (root-expression s (place p) k (place (p + 1)) (byte_here s p k r h) l)

  pub head-predicate : (k : ℕ) (r : List ℕ) → 0x20 ≤ k → k < 0x30 → drop p s ≡ k ∷ r → root_head s (place p) ≡ (Some R.Predicate)
  head-predicate k r m l h = sym (root-predicate s (place p) k (place (p + 1)) (byte_here s p k r h) m l)

  -- an assignment of kind k, with n targets
  assigns : (k n : ℕ) (r : List ℕ) (h : Option Root) → 0x30 ≤ k → 1 ≤ n → drop p s ≡ k ∷ n ∷ r → (few_at s (place (p + 1)) ≡ Some (n, (place (p + 2))) → h ≡ assignment_at s k (place (p + 1))) → root_head s (place p) ≡ h
  assigns k n r h l i e is =
      let q : few_at s (place (p + 1)) ≡ Some (n, (place (p + 2))) = few-here s (p + 1) n r i (after_one s p k (n ∷ r) e) ∙ ap (λ (j : ℕ). Some (n, (place j))) (more_by 1 1 2 refl) in
      sym (is q ∙ root_assignment s (place p) k (place (p + 1)) (byte_here s p k (n ∷ r) e) l)

  pub head-becomes : (n : ℕ) (r : List ℕ) → 1 ≤ n → drop p s ≡ 0x30 ∷ n ∷ r → root_head s (place p) ≡ Some (R.Becomes n (place (p + 2)))
  head-becomes n r i h = assigns 0x30 n r (Some (R.Becomes n (place (p + 2)))) (omega arith) i h (λ q. assignment_becomes s 0x30 (place (p + 1)) n (place (p + 2)) q refl)

  pub head-becomes_in : (n : ℕ) (r : List ℕ) → 1 ≤ n → drop p s ≡ 0x31 ∷ n ∷ r → root_head s (place p) ≡ Some (R.BecomesIn n (place (p + 2)))
  head-becomes_in n r i h = assigns 0x31 n r (Some (R.BecomesIn n (place (p + 2)))) (omega arith) i h (λ q. assignment_in s 0x31 (place (p + 1)) n (place (p + 2)) q refl)

  pub head-becomes_such : (n : ℕ) (r : List ℕ) → 1 ≤ n → drop p s ≡ 0x32 ∷ n ∷ r → root_head s (place p) ≡ Some (R.BecomesSuch n (place (p + 2)))
  head-becomes_such n r i h = assigns 0x32 n r (Some (R.BecomesSuch n (place (p + 2)))) (omega arith) i h (λ q. assignment_such s 0x32 (place (p + 1)) n (place (p + 2)) q refl)

-- ---- types and declarations
pub own-here : (e : Place) (p k o : ℕ) → k < max_slots → own_of e (state p k o) ≡ Ok (record { at = e; slots = k + 1; opened = o })
unfolding own_of
own-here e p k o h = rw (lt-ltb k max_slots h)

-- the same state by other sums
pub state-is : {A : Type 0} (p q k l o r : ℕ) (a : A) → p ≡ q → k ≡ l → o ≡ r → ◌≡◌ {A = Got A} (ok (state p k o) a) (ok (state q l r) a)
state-is p q k l o r a h i j = rw (h, i, j)

-- what an expression and a predicate begin with
pub expr-first : (a : Expr) → (b : ℕ) × (l : List ℕ) × (spell a ≡ b ∷ l) × (b < 0x20)
unfolding spell
expr-first (free p n) = (0x01, _, refl, omega arith)
expr-first (bound p i) = (0x02, _, refl, omega arith)
expr-first (literal p) = (0x03, _, refl, omega arith)
expr-first (atomic p c) = (0x04, _, refl, omega arith)
expr-first (extension p es) = (0x05, _, refl, omega arith)
expr-first (truth p x) = (0x06, _, refl, omega arith)
expr-first (binary p c a b) = (0x07, _, refl, omega arith)
expr-first (associative p c es) = (0x08, _, refl, omega arith)
expr-first (unary p c a) = (0x09, _, refl, omega arith)
expr-first (quantified p c ds x a) = (0x0A, _, refl, omega arith)
expr-first (ascribed p a q x) = (0x0B, _, refl, omega arith)
expr-first (explicit p t a) = (0x0C, _, refl, omega arith)

pub pred_first : (a : Pred) → (b : ℕ) × (l : List ℕ) × (spell_pred a ≡ b ∷ l) × (0x20 ≤ b) × (b < 0x30)
unfolding spell_pred
pred_first (constant p) = (0x20, _, refl, omega arith, omega arith)
pred_first (variable p) = (0x21, _, refl, omega arith, omega arith)
pred_first (relational p c a b) = (0x22, _, refl, omega arith, omega arith)
pred_first (connective p a b) = (0x23, _, refl, omega arith, omega arith)
pred_first (junction p qs) = (0x24, _, refl, omega arith, omega arith)
pred_first (negation p a) = (0x25, _, refl, omega arith, omega arith)
pred_first (quantification p ds a) = (0x26, _, refl, omega arith, omega arith)
pred_first (simple p a) = (0x27, _, refl, omega arith, omega arith)
pred_first (multiple p es) = (0x28, _, refl, omega arith, omega arith)
pred_first (application p es) = (0x29, _, refl, omega arith, omega arith)

module _ (names : ℕ) (s : List ℕ) where
  -- ---- formulas
  pub target-here : (t : Target) (p k o : ℕ) (r : List ℕ) → t.name < names → t.place ≡ p → k < max_slots → drop p s ≡ spell_target t ++ r → target_in names s (state p k o) ≡ ok (state (p + 3) (k + 1) o) t
  unfolding target_in target_by on_next spell_target
  target-here t p k o r f y m h = rw (head-target s p names t.name r f h, own-here (place (p + 3)) p k o m, ← y)

  pub past-target : (t : Target) (p : ℕ) (r : List ℕ) → drop p s ≡ spell_target t ++ r → drop (p + 3) s ≡ r
  unfolding spell_target
  past-target t p r h = after-three s p _ _ _ r h

  pub targets-here : (ts : List Target) (p k o : ℕ) (r : List ℕ) → FitsTargets names ts → PlacedTargets p ts → k + targets ts ≤ max_slots → drop p s ≡ spell_targets ts ++ r → targets_at names s (targets ts) (state p k o) ≡ ok (state (p + size_targets ts) (k + targets ts) o) ts
  unfolding targets_at many targets FitsTargets PlacedTargets spell_targets size_targets and_then
  targets-here [] p k o r f y m h = state-is _ _ _ _ _ _ _ (let z : p ≡ p + 0 = omega arith in z) (let z : k ≡ k + 0 = omega arith in z) refl
  targets-here (t ∷ ts) p k o r f y m h =
      let e : drop p s ≡ spell_target t ++ (spell_targets ts ++ r) = h ∙ append_assoc (spell_target t) (spell_targets ts) r in
      rw (
        target-here t p k o (spell_targets ts ++ r) f.0 y.0 (omega arith) e,
        targets-here ts (p + 3) (k + 1) o r f.1 y.1 (omega arith) (past-target t p (spell_targets ts ++ r) e),
      )
      (state-is _ _ _ _ _ _ _ (let z : p + 3 + size_targets ts ≡ p + (3 + size_targets ts) = omega arith in z) (let z : k + 1 + targets ts ≡ k + suc (targets ts) = omega arith in z) refl)
