-- The theorems of specs/Complete.antt: `type-here`, `spelling_here`, `decl_here`, `decls-here`, `expr-here`, `exprs-here` and others.
use Prim.Native.Nat.{ℕ, zero, suc, ◌+◌, ◌≤◌, ◌<◌}
use native.Mathlib.Omega.{arith}
use Rattle.std.specs.Prelude.{◌≡◌, Bool, true, eqb, Some, Ok}
use Rattle.std.proofs.Math.Path.{refl, ap}
use Rattle.std.proofs.Common.{sym, ◌∙◌}
use Rattle.std.proofs.Math.Bool.{false}
use mathlib.Core.List.{List, [], ◌∷◌, ◌++◌, append_assoc, append-nil}
use Rattle.std.proofs.Math.ListN.{drop}
use borrow.Author.Tests.{lt-ltb, le-ltb, ne_eqb}
use Rattle.types.specs.declared.Place.{Place}
use Rattle.types.specs.Ty as T
use Rattle.types.specs.Ty.{Ty}
use Rattle.types.specs.Spellings.{past, spelled-is-read}
use Rattle.heads.specs.declared.ExprHead.{ExprHead}
use Rattle.heads.specs.declared.PredHead.{PredHead}
use Rattle.heads.specs.declared.DeclHead.{DeclHead}
use Rattle.formula.specs.Tree.{Spelling, spells, no_type, Decl, plain, typed, annotated, Expr, free, bound, literal, atomic, extension, truth, binary, associative, unary, quantified, ascribed, explicit, Exprs, none, more, Pred, constant, variable, relational, connective, junction, negation, quantification, simple, multiple, application, Preds, end, also, Target, Formula, expression, predicate, becomes, becomes_in, becomes_such, decls, exprs, preds, targets, pairs, slots, slots_all, slots_pred, slots_preds, slots_pairs, slots_of}
use Rattle.formula.specs.Spell.{spell_spelling, spell_decl, spell_decls, spell, spell_all, spell_pred, spell_preds, spell_target, spell_targets, spell_pairs, spell_formula, size_ty, size_spelling, size_decl, size_decls, size, size_all, size_pred, size_preds, size_targets, size_pairs, size_formula, PlacedDecl, PlacedDecls, Placed, Placed_all, PlacedPred, PlacedPreds, PlacedTargets, PlacedPairs, PlacedFormula}
use Rattle.heads.specs.Heads.{pick, place, byte_of, byte_at, on_part, expr_head, pred_head, decl_head}
use Rattle.formula.specs.Reader.{ok, and_then, on_next, many, moved, declare_of, closed, closing, type_got, type_in, read_no_type, spelled_in, spelling_in}
use Rattle.formula.specs.Parse.{decl_by, decl_if, decl_at, decls_at, expr_by, pred_by, expr_if, pred_if, expr_at, pred_at, pair_in, targets_at, pairs_at, becomes_by, becomes_at, root_by, start, formula_at}
use Rattle.types.specs.Limits.{max_depth, max_slots, max_opened, levels}
use Rattle.formula_laws.specs.Fits.{is_bare, FitsTy, FitsSpelling, FitsDecl, FitsDecls, Fits, FitsAll, FitsPred, FitsPreds, FitsTargets, FitsPairs, FitsRoot, FitsFormula}
use Rattle.formula_laws.specs.Sizes.{length_ty, length_decl, length-decls, length-expr, length_pred, length-targets}
use Rattle.formula_laws.specs.Complete.{state, byte_here, head-annotated, head_plain, state-is, head-typed, after_one, after-three, head-binary, head-junction, head-ascribed, head-simple, head-quantified, head-relational, head-constant, head-extension, head-variable, head-connective, after-four, after_two, head-associative, head-explicit, head-free, head-negation, head-atomic, head-unary, head-bound, head-application, head-literal, own-here, head-quantification, head-truth, head-multiple, past-target, target-here, few-here, targets-here, pred_first, expr-first}

declare-here : (e : Place) (p k o : ℕ) → k < max_slots → o < max_opened → declare_of e (state p k o) ≡ Ok (record { at = e; slots = k + 1; opened = o + 1 })
unfolding declare_of
declare-here e p k o h l = rw (lt-ltb o max_opened l, lt-ltb k max_slots h)

false-true : false ≡ true → ⊥
false-true e = let z : ◌≡◌ {A = ℕ} 0 1 = cc in omega arith

-- where no 0C may stand, none does
not_bare : (bare : Bool) → (bare ≡ true → false ≡ true) → bare ≡ false
not_bare true h = absurd (false-true (h refl))
not_bare false h = refl

module _ (names : ℕ) (s : List ℕ) where
  pub type-here : (t : Ty) (d left p k o : ℕ) (r : List ℕ) → d + left ≡ levels → FitsTy names d t → drop p s ≡ T.spell t ++ r → type_in names s left (state p k o) ≡ ok (state (p + size_ty t) k o) t
  unfolding type_in type_got moved FitsTy
  type-here t d left p k o r l f h =
      let m = f.0 in
      rw (spelled-is-read names s t f.1 left p r (omega arith) h, length_ty t)

  past_ty : (t : Ty) (p : ℕ) (r : List ℕ) → drop p s ≡ T.spell t ++ r → drop (p + size_ty t) s ≡ r
  past_ty t p r h = rw (← length_ty t) (past s p (T.spell t) r h)

  -- a type never begins with 4F
  not_none : (t : Ty) (r l : List ℕ) (b : ℕ) → T.spell t ++ r ≡ b ∷ l → b ≡ 0x4F → ⊥
  unfolding T.spell T.spell_atom
  not_none (T.base T.bool) r l b e z = let y : b ≡ 0x40 = cc in omega arith
  not_none (T.base T.int) r l b e z = let y : b ≡ 0x41 = cc in omega arith
  not_none (T.base (T.given n)) r l b e z = let y : b ≡ 0x42 = cc in omega arith
  not_none (T.pow t) r l b e z = let y : b ≡ 0x43 = cc in omega arith
  not_none (T.prod t u) r l b e z = let y : b ≡ 0x44 = cc in omega arith

  spelled-here : (t : Ty) (d left p k o : ℕ) (r : List ℕ) → d + left ≡ levels → FitsTy names d t → drop p s ≡ T.spell t ++ r → spelling_in names s left (state p k o) ≡ ok (state (p + size_ty t) k o) (spells t)
  unfolding spelling_in spelled_in on_part and_then byte_at byte_of
  spelled-here t d left p k o r l f h = go (drop p s) refl
    where
      read : spelled_in names s left (state p k o) ≡ ok (state (p + size_ty t) k o) (spells t)
      read = rw (type-here t d left p k o r l f h)

      go : (x : List ℕ) → drop p s ≡ x → (on_part (spelled_in names s left (state p k o)) (byte_of p x) λ b e. pick (eqb b 0x4F) (read_no_type left e (state p k o)) (spelled_in names s left (state p k o))) ≡ ok (state (p + size_ty t) k o) (spells t)
      go [] e = read
      go (b ∷ x) e = rw (ne_eqb b 0x4F (not_none t r x b (sym h ∙ e))) read

  none_here : (d left p k o : ℕ) (r : List ℕ) → d + left ≡ levels → d ≤ max_depth → drop p s ≡ 0x4F ∷ r → spelling_in names s left (state p k o) ≡ ok (state (p + 1) k o) no_type
  unfolding spelling_in on_part read_no_type moved
  none_here d zero p k o r l f h = absurd (omega arith)
  none_here d (suc left) p k o r l f h = rw (byte_here s p 0x4F r h)

  pub spelling_here : (x : Spelling) (d left p k o : ℕ) (r : List ℕ) → d + left ≡ levels → FitsSpelling names d x → drop p s ≡ spell_spelling x ++ r → spelling_in names s left (state p k o) ≡ ok (state (p + size_spelling x) k o) x
  unfolding FitsSpelling spell_spelling size_spelling
  spelling_here (spells t) d left p k o r l f h = spelled-here t d left p k o r l f h
  spelling_here no_type d left p k o r l f h = none_here d left p k o r l f h

  decl_node : (left p k o : ℕ) (g : DeclHead) → decl_head s (place p) ≡ Some g → decl_at names s (suc left) (state p k o) ≡ decl_by names s left (state p k o) g
  unfolding decl_at decl_if
  decl_node left p k o g h = rw h

  pub decl_here : (x : Decl) (d left p k o : ℕ) (r : List ℕ) → d + left ≡ levels → FitsDecl names d x → PlacedDecl p x → k < max_slots → o < max_opened → drop p s ≡ spell_decl x ++ r → decl_at names s left (state p k o) ≡ ok (state (p + size_decl x) (k + 1) (o + 1)) x
  unfolding FitsDecl PlacedDecl spell_decl size_decl decl_by on_next and_then
  decl_here (plain q) d zero p k o r l f a i j h = absurd (omega arith)
  decl_here (typed q t) d zero p k o r l f a i j h = let m = f.0 in absurd (omega arith)
  decl_here (annotated q x) d zero p k o r l f a i j h = let m = f.0 in absurd (omega arith)
  decl_here (plain q) d (suc left) p k o r l f a i j h =
      decl_node left p k o _ (head_plain s p r h) ∙ (rw (declare-here (place (p + 1)) p k o i j, a))
  decl_here (typed q t) d (suc left) p k o r l f a i j h =
      decl_node left p k o _ (head-typed s p _ h)
      ∙ (rw (declare-here (place (p + 1)) p k o i j, type-here t (suc d) left (p + 1) (k + 1) (o + 1) r (let y : suc d + left ≡ levels = omega arith in y) f.1 (after_one s p _ _ h), a)
      (state-is _ _ _ _ _ _ _ (let y : p + 1 + size_ty t ≡ p + (1 + size_ty t) = omega arith in y) refl refl))
  decl_here (annotated q x) d (suc left) p k o r l f a i j h =
      decl_node left p k o _ (head-annotated s p _ h)
      ∙ (rw (declare-here (place (p + 1)) p k o i j, spelling_here x (suc d) left (p + 1) (k + 1) (o + 1) r (let y : suc d + left ≡ levels = omega arith in y) f.1 (after_one s p _ _ h), a)
      (state-is _ _ _ _ _ _ _ (let y : p + 1 + size_spelling x ≡ p + (1 + size_spelling x) = omega arith in y) refl refl))

  past_decl : (x : Decl) (p : ℕ) (r : List ℕ) → drop p s ≡ spell_decl x ++ r → drop (p + size_decl x) s ≡ r
  past_decl x p r h = rw (← length_decl x) (past s p (spell_decl x) r h)

  pub decls-here : (xs : List Decl) (d left p k o : ℕ) (r : List ℕ) → d + left ≡ levels → FitsDecls names d xs → PlacedDecls p xs → k + decls xs ≤ max_slots → o + decls xs ≤ max_opened → drop p s ≡ spell_decls xs ++ r
      → many [] ◌∷◌ (decl_at names s left) (decls xs) (state p k o) ≡ ok (state (p + size_decls xs) (k + decls xs) (o + decls xs)) xs
  unfolding many decls FitsDecls PlacedDecls spell_decls size_decls and_then
  decls-here [] d left p k o r l f a i j h = state-is _ _ _ _ _ _ _ (let y : p ≡ p + 0 = omega arith in y) (let y : k ≡ k + 0 = omega arith in y) (let y : o ≡ o + 0 = omega arith in y)
  decls-here (x ∷ xs) d left p k o r l f a i j h =
      let e : drop p s ≡ spell_decl x ++ (spell_decls xs ++ r) = h ∙ append_assoc (spell_decl x) (spell_decls xs) r in
      rw (
        decl_here x d left p k o (spell_decls xs ++ r) l f.0 a.0 (omega arith) (omega arith) e,
        decls-here xs d left (p + size_decl x) (k + 1) (o + 1) r l f.1 a.1 (omega arith) (omega arith) (past_decl x p (spell_decls xs ++ r) e),
      )
      (state-is _ _ _ _ _ _ _ (let y : p + size_decl x + size_decls xs ≡ p + (size_decl x + size_decls xs) = omega arith in y) (let y : k + 1 + decls xs ≡ k + suc (decls xs) = omega arith in y) (let y : o + 1 + decls xs ≡ o + suc (decls xs) = omega arith in y))

  -- ---- expressions and predicates
  past-expr : (a : Expr) (p : ℕ) (r : List ℕ) → drop p s ≡ spell a ++ r → drop (p + size a) s ≡ r
  past-expr a p r h = rw (← length-expr a) (past s p (spell a) r h)

  past_pred : (a : Pred) (p : ℕ) (r : List ℕ) → drop p s ≡ spell_pred a ++ r → drop (p + size_pred a) s ≡ r
  past_pred a p r h = rw (← length_pred a) (past s p (spell_pred a) r h)

  past-decls : (a : List Decl) (p : ℕ) (r : List ℕ) → drop p s ≡ spell_decls a ++ r → drop (p + size_decls a) s ≡ r
  past-decls a p r h = rw (← length-decls a) (past s p (spell_decls a) r h)

  expr-node : (left p k o : ℕ) (bare : Bool) (g : ExprHead) → expr_head names s bare (place p) ≡ Some g → expr_at (suc left) names s bare (state p k o) ≡ expr_by names s left (λ b t. expr_at left names s b t) (λ t. pred_at left names s t) (state p k o) g
  unfolding expr_at expr_if
  expr-node left p k o bare g h = rw h

  pred_node : (left p k o : ℕ) (g : PredHead) → pred_head s (place p) ≡ Some g → pred_at (suc left) names s (state p k o) ≡ pred_by names s left (λ b t. expr_at left names s b t) (λ t. pred_at left names s t) (state p k o) g
  unfolding pred_at pred_if
  pred_node left p k o g h = rw h

  below : (d left : ℕ) → d + suc left ≡ levels → suc d + left ≡ levels
  below d left h = omega arith

  mutual
    unfolding Fits FitsAll FitsPred FitsPreds Placed Placed_all PlacedPred PlacedPreds spell spell_all spell_pred spell_preds size size_all size_pred size_preds slots slots_all slots_pred slots_preds exprs preds expr_by pred_by on_next and_then many closing closed moved decls_at is_bare

    pub expr-here : (e : Expr) (left d p k o : ℕ) (bare : Bool) (r : List ℕ) → d + left ≡ levels → Fits names d o e → Placed p e → (bare ≡ true → is_bare e ≡ true) → k + slots e ≤ max_slots → drop p s ≡ spell e ++ r → expr_at left names s bare (state p k o) ≡ ok (state (p + size e) (k + slots e) o) e
    expr-here (free q n) zero d p k o bare r l f y g m h = absurd (let z = f.0 in omega arith)
    expr-here (bound q i) zero d p k o bare r l f y g m h = absurd (omega arith)
    expr-here (literal q) zero d p k o bare r l f y g m h = absurd (omega arith)
    expr-here (atomic q c) zero d p k o bare r l f y g m h = absurd (let z = f.0 in omega arith)
    expr-here (extension q es) zero d p k o bare r l f y g m h = absurd (let z = f.0 in omega arith)
    expr-here (truth q x) zero d p k o bare r l f y g m h = absurd (let z = f.0 in omega arith)
    expr-here (binary q c a b) zero d p k o bare r l f y g m h = absurd (let z = f.0 in omega arith)
    expr-here (associative q c es) zero d p k o bare r l f y g m h = absurd (let z = f.0 in omega arith)
    expr-here (unary q c a) zero d p k o bare r l f y g m h = absurd (let z = f.0 in omega arith)
    expr-here (quantified q c ds x a) zero d p k o bare r l f y g m h = absurd (let z = f.0 in omega arith)
    expr-here (ascribed q a w x) zero d p k o bare r l f y g m h = absurd (let z = f.0 in omega arith)
    expr-here (explicit q t a) zero d p k o bare r l f y g m h = absurd (let z = f.0 in omega arith)
    expr-here (free q n) (suc left) d p k o bare r l f y g m h =
        expr-node left p k o bare _ (head-free names s bare p n r f.1 h) ∙ (rw (own-here (place (p + 3)) p k o (omega arith), y))
    expr-here (bound q i) (suc left) d p k o bare r l f y g m h =
        expr-node left p k o bare _ (head-bound names s bare p i r h) ∙ (rw (own-here (place (p + 3)) p k o (omega arith), y))
    expr-here (literal q) (suc left) d p k o bare r l f y g m h =
        expr-node left p k o bare _ (head-literal names s bare p r h) ∙ (rw (own-here (place (p + 1)) p k o (omega arith), y))
    expr-here (atomic q c) (suc left) d p k o bare r l f y g m h =
        expr-node left p k o bare _ (head-atomic names s bare p c r f.1 h) ∙ (rw (own-here (place (p + 2)) p k o (omega arith), y))
    expr-here (extension q es) (suc left) d p k o bare r l f y g m h =
        expr-node left p k o bare _ (head-extension names s bare p (exprs es) _ f.1 h)
        ∙ (rw (own-here (place (p + 3)) p k o (omega arith), exprs-here es left (suc d) (p + 3) (k + 1) o r (below d left l) f.2 y.1 (omega arith) (after-three s p _ _ _ _ h), y.0)
        (state-is _ _ _ _ _ _ _ (let z : p + 3 + size_all es ≡ p + (3 + size_all es) = omega arith in z) (let z : k + 1 + slots_all es ≡ k + suc (slots_all es) = omega arith in z) refl))
    expr-here (truth q x) (suc left) d p k o bare r l f y g m h =
        expr-node left p k o bare _ (head-truth names s bare p _ h)
        ∙ (rw (own-here (place (p + 1)) p k o (omega arith), pred_here x left (suc d) (p + 1) (k + 1) o r (below d left l) f.1 y.1 (omega arith) (after_one s p _ _ h), y.0)
        (state-is _ _ _ _ _ _ _ (let z : p + 1 + size_pred x ≡ p + (1 + size_pred x) = omega arith in z) (let z : k + 1 + slots_pred x ≡ k + suc (slots_pred x) = omega arith in z) refl))
    expr-here (binary q c a b) (suc left) d p k o bare r l f y g m h =
        let e : drop (p + 2) s ≡ spell a ++ (spell b ++ r) = after_two s p _ _ _ h ∙ append_assoc (spell a) (spell b) r in
        expr-node left p k o bare _ (head-binary names s bare p c _ f.1 h)
        ∙ (rw (
          own-here (place (p + 2)) p k o (omega arith),
          expr-here a left (suc d) (p + 2) (k + 1) o false (spell b ++ r) (below d left l) f.2 y.1 (λ z. absurd (false-true z)) (omega arith) e,
          expr-here b left (suc d) (p + 2 + size a) (k + 1 + slots a) o false r (below d left l) f.3 y.2 (λ z. absurd (false-true z)) (omega arith) (past-expr a (p + 2) (spell b ++ r) e),
          y.0,
        )
        (state-is _ _ _ _ _ _ _ (let z : p + 2 + size a + size b ≡ p + (2 + (size a + size b)) = omega arith in z) (let z : k + 1 + slots a + slots b ≡ k + suc (slots a + slots b) = omega arith in z) refl))
    expr-here (associative q c es) (suc left) d p k o bare r l f y g m h =
        expr-node left p k o bare _ (head-associative names s bare p c (exprs es) _ f.1 f.2 h)
        ∙ (rw (own-here (place (p + 4)) p k o (omega arith), exprs-here es left (suc d) (p + 4) (k + 1) o r (below d left l) f.3 y.1 (omega arith) (after-four s p _ _ _ _ _ h), y.0)
        (state-is _ _ _ _ _ _ _ (let z : p + 4 + size_all es ≡ p + (4 + size_all es) = omega arith in z) (let z : k + 1 + slots_all es ≡ k + suc (slots_all es) = omega arith in z) refl))
    expr-here (unary q c a) (suc left) d p k o bare r l f y g m h =
        expr-node left p k o bare _ (head-unary names s bare p c _ f.1 h)
        ∙ (rw (own-here (place (p + 2)) p k o (omega arith), expr-here a left (suc d) (p + 2) (k + 1) o false r (below d left l) f.2 y.1 (λ z. absurd (false-true z)) (omega arith) (after_two s p _ _ _ h), y.0)
        (state-is _ _ _ _ _ _ _ (let z : p + 2 + size a ≡ p + (2 + size a) = omega arith in z) (let z : k + 1 + slots a ≡ k + suc (slots a) = omega arith in z) refl))
    expr-here (quantified q c ds x a) (suc left) d p k o bare r l f y g m h =
        let e : drop (p + 3) s ≡ spell_decls ds ++ (spell_pred x ++ (spell a ++ r)) = after-three s p _ _ _ _ h ∙ append_assoc (spell_decls ds) (spell_pred x ++ spell a) r ∙ ap (λ (w : List ℕ). spell_decls ds ++ w) (append_assoc (spell_pred x) (spell a) r) in
        let i : drop (p + 3 + size_decls ds) s ≡ spell_pred x ++ (spell a ++ r) = past-decls ds (p + 3) _ e in
        expr-node left p k o bare _ (head-quantified names s bare p c (decls ds) _ f.1 f.2 h)
        ∙ (rw (
          own-here (place (p + 3)) p k o (omega arith),
          decls-here ds (suc d) left (p + 3) (k + 1) o (spell_pred x ++ (spell a ++ r)) (below d left l) f.4 y.1 (omega arith) f.3 e,
          pred_here x left (suc d) (p + 3 + size_decls ds) (k + 1 + decls ds) (o + decls ds) (spell a ++ r) (below d left l) f.5 y.2 (omega arith) i,
          expr-here a left (suc d) (p + 3 + size_decls ds + size_pred x) (k + 1 + decls ds + slots_pred x) (o + decls ds) false r (below d left l) f.6 y.3 (λ z. absurd (false-true z)) (omega arith) (past_pred x (p + 3 + size_decls ds) (spell a ++ r) i),
          y.0,
        )
        (state-is _ _ _ _ _ _ _ (let z : p + 3 + size_decls ds + size_pred x + size a ≡ p + (3 + (size_decls ds + (size_pred x + size a))) = omega arith in z) (let z : k + 1 + decls ds + slots_pred x + slots a ≡ k + suc (decls ds + (slots_pred x + slots a)) = omega arith in z) refl))
    expr-here (ascribed q a w x) (suc left) d p k o bare r l f y g m h =
        let e : drop (p + 1) s ≡ spell a ++ (spell_spelling x ++ r) = after_one s p _ _ h ∙ append_assoc (spell a) (spell_spelling x) r in
        expr-node left p k o bare _ (head-ascribed names s bare p _ h)
        ∙ (rw (
          own-here (place (p + 1)) p k o (omega arith),
          expr-here a left (suc d) (p + 1) (k + 1) o false (spell_spelling x ++ r) (below d left l) f.1 y.1 (λ z. absurd (false-true z)) (omega arith) e,
          spelling_here x (suc d) left (p + 1 + size a) (k + 1 + slots a) o r (below d left l) f.2 (past-expr a (p + 1) (spell_spelling x ++ r) e),
          y.0,
          y.2,
        )
        (state-is _ _ _ _ _ _ _ (let z : p + 1 + size a + size_spelling x ≡ p + (1 + (size a + size_spelling x)) = omega arith in z) (let z : k + 1 + slots a ≡ k + suc (slots a) = omega arith in z) refl))
    expr-here (explicit q t a) (suc left) d p k o bare r l f y g m h =
        let e : drop (p + 1) s ≡ T.spell t ++ (spell a ++ r) = after_one s p _ _ h ∙ append_assoc (T.spell t) (spell a) r in
        expr-node left p k o bare _ (head-explicit names s bare p _ (not_bare bare g) h)
        ∙ (rw (
          type-here t (suc d) left (p + 1) k o (spell a ++ r) (below d left l) f.1 e,
          expr-here a left (suc d) (p + 1 + size_ty t) k o true r (below d left l) f.3 y.1 (λ z. f.2) (omega arith) (past_ty t (p + 1) (spell a ++ r) e),
          y.0,
        )
        (state-is _ _ _ _ _ _ _ (let z : p + 1 + size_ty t + size a ≡ p + (1 + (size_ty t + size a)) = omega arith in z) refl refl))

    pub exprs-here : (es : Exprs) (left d p k o : ℕ) (r : List ℕ) → d + left ≡ levels → FitsAll names d o es → Placed_all p es → k + slots_all es ≤ max_slots → drop p s ≡ spell_all es ++ r → many none more (λ t. expr_at left names s false t) (exprs es) (state p k o) ≡ ok (state (p + size_all es) (k + slots_all es) o) es
    exprs-here none left d p k o r l f y m h = state-is _ _ _ _ _ _ _ (let z : p ≡ p + 0 = omega arith in z) (let z : k ≡ k + 0 = omega arith in z) refl
    exprs-here (more a es) left d p k o r l f y m h =
        let e : drop p s ≡ spell a ++ (spell_all es ++ r) = h ∙ append_assoc (spell a) (spell_all es) r in
        rw (
          expr-here a left d p k o false (spell_all es ++ r) l f.0 y.0 (λ z. absurd (false-true z)) (omega arith) e,
          exprs-here es left d (p + size a) (k + slots a) o r l f.1 y.1 (omega arith) (past-expr a p (spell_all es ++ r) e),
        )
        (state-is _ _ _ _ _ _ _ (let z : p + size a + size_all es ≡ p + (size a + size_all es) = omega arith in z) (let z : k + slots a + slots_all es ≡ k + (slots a + slots_all es) = omega arith in z) refl)

    pub pred_here : (x : Pred) (left d p k o : ℕ) (r : List ℕ) → d + left ≡ levels → FitsPred names d o x → PlacedPred p x → k + slots_pred x ≤ max_slots → drop p s ≡ spell_pred x ++ r → pred_at left names s (state p k o) ≡ ok (state (p + size_pred x) (k + slots_pred x) o) x
    pred_here (constant q) zero d p k o r l f y m h = absurd (omega arith)
    pred_here (variable q) zero d p k o r l f y m h = absurd (omega arith)
    pred_here (relational q c a b) zero d p k o r l f y m h = absurd (let z = f.0 in omega arith)
    pred_here (connective q a b) zero d p k o r l f y m h = absurd (let z = f.0 in omega arith)
    pred_here (junction q qs) zero d p k o r l f y m h = absurd (let z = f.0 in omega arith)
    pred_here (negation q a) zero d p k o r l f y m h = absurd (let z = f.0 in omega arith)
    pred_here (quantification q ds a) zero d p k o r l f y m h = absurd (let z = f.0 in omega arith)
    pred_here (simple q a) zero d p k o r l f y m h = absurd (let z = f.0 in omega arith)
    pred_here (multiple q es) zero d p k o r l f y m h = absurd (let z = f.0 in omega arith)
    pred_here (application q es) zero d p k o r l f y m h = absurd (let z = f.0 in omega arith)
    pred_here (constant q) (suc left) d p k o r l f y m h =
        pred_node left p k o _ (head-constant s p r h) ∙ (rw y (state-is _ _ _ _ _ _ _ refl (let z : k ≡ k + 0 = omega arith in z) refl))
    pred_here (variable q) (suc left) d p k o r l f y m h =
        pred_node left p k o _ (head-variable s p r h) ∙ (rw y (state-is _ _ _ _ _ _ _ refl (let z : k ≡ k + 0 = omega arith in z) refl))
    pred_here (relational q c a b) (suc left) d p k o r l f y m h =
        let e : drop (p + 2) s ≡ spell a ++ (spell b ++ r) = after_two s p _ _ _ h ∙ append_assoc (spell a) (spell b) r in
        pred_node left p k o _ (head-relational s p c _ f.1 h)
        ∙ (rw (
          expr-here a left (suc d) (p + 2) k o false (spell b ++ r) (below d left l) f.2 y.1 (λ z. absurd (false-true z)) (omega arith) e,
          expr-here b left (suc d) (p + 2 + size a) (k + slots a) o false r (below d left l) f.3 y.2 (λ z. absurd (false-true z)) (omega arith) (past-expr a (p + 2) (spell b ++ r) e),
          y.0,
        )
        (state-is _ _ _ _ _ _ _ (let z : p + 2 + size a + size b ≡ p + (2 + (size a + size b)) = omega arith in z) (let z : k + slots a + slots b ≡ k + (slots a + slots b) = omega arith in z) refl))
    pred_here (connective q a b) (suc left) d p k o r l f y m h =
        let e : drop (p + 1) s ≡ spell_pred a ++ (spell_pred b ++ r) = after_one s p _ _ h ∙ append_assoc (spell_pred a) (spell_pred b) r in
        pred_node left p k o _ (head-connective s p _ h)
        ∙ (rw (
          pred_here a left (suc d) (p + 1) k o (spell_pred b ++ r) (below d left l) f.1 y.1 (omega arith) e,
          pred_here b left (suc d) (p + 1 + size_pred a) (k + slots_pred a) o r (below d left l) f.2 y.2 (omega arith) (past_pred a (p + 1) (spell_pred b ++ r) e),
          y.0,
        )
        (state-is _ _ _ _ _ _ _ (let z : p + 1 + size_pred a + size_pred b ≡ p + (1 + (size_pred a + size_pred b)) = omega arith in z) (let z : k + slots_pred a + slots_pred b ≡ k + (slots_pred a + slots_pred b) = omega arith in z) refl))
    pred_here (junction q qs) (suc left) d p k o r l f y m h =
        pred_node left p k o _ (head-junction s p (preds qs) _ f.1 h)
        ∙ (rw (preds-here qs left (suc d) (p + 3) k o r (below d left l) f.2 y.1 (omega arith) (after-three s p _ _ _ _ h), y.0)
        (state-is _ _ _ _ _ _ _ (let z : p + 3 + size_preds qs ≡ p + (3 + size_preds qs) = omega arith in z) refl refl))
    pred_here (negation q a) (suc left) d p k o r l f y m h =
        pred_node left p k o _ (head-negation s p _ h)
        ∙ (rw (pred_here a left (suc d) (p + 1) k o r (below d left l) f.1 y.1 (omega arith) (after_one s p _ _ h), y.0)
        (state-is _ _ _ _ _ _ _ (let z : p + 1 + size_pred a ≡ p + (1 + size_pred a) = omega arith in z) refl refl))
    pred_here (quantification q ds a) (suc left) d p k o r l f y m h =
        let e : drop (p + 2) s ≡ spell_decls ds ++ (spell_pred a ++ r) = after_two s p _ _ _ h ∙ append_assoc (spell_decls ds) (spell_pred a) r in
        pred_node left p k o _ (head-quantification s p (decls ds) _ f.1 h)
        ∙ (rw (
          decls-here ds (suc d) left (p + 2) k o (spell_pred a ++ r) (below d left l) f.3 y.1 (omega arith) f.2 e,
          pred_here a left (suc d) (p + 2 + size_decls ds) (k + decls ds) (o + decls ds) r (below d left l) f.4 y.2 (omega arith) (past-decls ds (p + 2) (spell_pred a ++ r) e),
          y.0,
        )
        (state-is _ _ _ _ _ _ _ (let z : p + 2 + size_decls ds + size_pred a ≡ p + (2 + (size_decls ds + size_pred a)) = omega arith in z) (let z : k + decls ds + slots_pred a ≡ k + (decls ds + slots_pred a) = omega arith in z) refl))
    pred_here (simple q a) (suc left) d p k o r l f y m h =
        pred_node left p k o _ (head-simple s p _ h)
        ∙ (rw (expr-here a left (suc d) (p + 1) k o false r (below d left l) f.1 y.1 (λ z. absurd (false-true z)) (omega arith) (after_one s p _ _ h), y.0)
        (state-is _ _ _ _ _ _ _ (let z : p + 1 + size a ≡ p + (1 + size a) = omega arith in z) refl refl))
    pred_here (multiple q es) (suc left) d p k o r l f y m h =
        pred_node left p k o _ (head-multiple s p (exprs es) _ f.1 h)
        ∙ (rw (exprs-here es left (suc d) (p + 3) k o r (below d left l) f.2 y.1 (omega arith) (after-three s p _ _ _ _ h), y.0)
        (state-is _ _ _ _ _ _ _ (let z : p + 3 + size_all es ≡ p + (3 + size_all es) = omega arith in z) refl refl))
    pred_here (application q es) (suc left) d p k o r l f y m h =
        pred_node left p k o _ (head-application s p (exprs es) _ h)
        ∙ (rw (exprs-here es left (suc d) (p + 3) k o r (below d left l) f.1 y.1 (omega arith) (after-three s p _ _ _ _ h), y.0)
        (state-is _ _ _ _ _ _ _ (let z : p + 3 + size_all es ≡ p + (3 + size_all es) = omega arith in z) refl refl))

    pub preds-here : (qs : Preds) (left d p k o : ℕ) (r : List ℕ) → d + left ≡ levels → FitsPreds names d o qs → PlacedPreds p qs → k + slots_preds qs ≤ max_slots → drop p s ≡ spell_preds qs ++ r → many end also (λ t. pred_at left names s t) (preds qs) (state p k o) ≡ ok (state (p + size_preds qs) (k + slots_preds qs) o) qs
    preds-here end left d p k o r l f y m h = state-is _ _ _ _ _ _ _ (let z : p ≡ p + 0 = omega arith in z) (let z : k ≡ k + 0 = omega arith in z) refl
    preds-here (also a qs) left d p k o r l f y m h =
        let e : drop p s ≡ spell_pred a ++ (spell_preds qs ++ r) = h ∙ append_assoc (spell_pred a) (spell_preds qs) r in
        rw (
          pred_here a left d p k o (spell_preds qs ++ r) l f.0 y.0 (omega arith) e,
          preds-here qs left d (p + size_pred a) (k + slots_pred a) o r l f.1 y.1 (omega arith) (past_pred a p (spell_preds qs ++ r) e),
        )
        (state-is _ _ _ _ _ _ _ (let z : p + size_pred a + size_preds qs ≡ p + (size_pred a + size_preds qs) = omega arith in z) (let z : k + slots_pred a + slots_preds qs ≡ k + (slots_pred a + slots_preds qs) = omega arith in z) refl)

  past-targets : (ts : List Target) (p : ℕ) (r : List ℕ) → drop p s ≡ spell_targets ts ++ r → drop (p + size_targets ts) s ≡ r
  past-targets ts p r h = rw (← length-targets ts) (past s p (spell_targets ts) r h)

  pub pairs-here : (xs : List (Target × Expr)) (p k : ℕ) (r : List ℕ) → FitsPairs names xs → PlacedPairs p xs → k + slots_pairs xs ≤ max_slots → drop p s ≡ spell_pairs xs ++ r → pairs_at max_depth names s (pairs xs) (state p k 0) ≡ ok (state (p + size_pairs xs) (k + slots_pairs xs) 0) xs
  unfolding pairs_at pair_in many pairs FitsPairs PlacedPairs spell_pairs size_pairs slots_pairs and_then
  pairs-here [] p k r f y m h = state-is _ _ _ _ _ _ _ (let z : p ≡ p + 0 = omega arith in z) (let z : k ≡ k + 0 = omega arith in z) refl
  pairs-here (x ∷ xs) p k r f y m h =
      let e : drop p s ≡ spell_target x.0 ++ (spell x.1 ++ (spell_pairs xs ++ r)) = h ∙ append_assoc (spell_target x.0) (spell x.1 ++ spell_pairs xs) r ∙ ap (λ (w : List ℕ). spell_target x.0 ++ w) (append_assoc (spell x.1) (spell_pairs xs) r) in
      let i : drop (p + 3) s ≡ spell x.1 ++ (spell_pairs xs ++ r) = past-target names s x.0 p _ e in
      rw (
        target-here names s x.0 p k 0 _ f.0 y.0 (omega arith) e,
        expr-here x.1 max_depth 1 (p + 3) (k + 1) 0 false (spell_pairs xs ++ r) refl f.1 y.1 (λ z. absurd (false-true z)) (omega arith) i,
        pairs-here xs (p + 3 + size x.1) (k + 1 + slots x.1) r f.2 y.2 (omega arith) (past-expr x.1 (p + 3) (spell_pairs xs ++ r) i),
      )
      (state-is _ _ _ _ _ _ _ (let z : p + 3 + size x.1 + size_pairs xs ≡ p + (3 + (size x.1 + size_pairs xs)) = omega arith in z) (let z : k + 1 + slots x.1 + slots_pairs xs ≡ k + (suc (slots x.1) + slots_pairs xs) = omega arith in z) refl)

  root-here : (k : ℕ) (l : List ℕ) → drop 0 s ≡ k ∷ l → formula_at names s start ≡ root_by names s start k (place 1)
  unfolding formula_at on_part
  root-here k l h = rw (byte_here s 0 k l h)

  becomes-here : (k n : ℕ) (l : List ℕ) → 0x30 ≤ k → 1 ≤ n → drop 0 s ≡ k ∷ n ∷ l → formula_at names s start ≡ becomes_by max_depth names s n (place 2) start k
  unfolding root_by becomes_at on_part
  becomes-here k n l m i h = root-here k (n ∷ l) h ∙ (rw (le-ltb k 0x20 (omega arith), le-ltb k 0x30 m, few-here s 1 n l i (after_one s 0 k (n ∷ l) h)))

  decl_row : (xs : List Decl) (d left p k o : ℕ) (r : List ℕ) → d + left ≡ levels → FitsDecls names d xs → PlacedDecls p xs → k + decls xs ≤ max_slots → o + decls xs ≤ max_opened → drop p s ≡ spell_decls xs ++ r → decls_at names s left (decls xs) (state p k o) ≡ ok (state (p + size_decls xs) (k + decls xs) (o + decls xs)) xs
  unfolding decls_at
  decl_row xs d left p k o r l f a i j h = decls-here xs d left p k o r l f a i j h

  becomes-pairs-here : (q : ℕ) (xs : List (Target × Expr)) → slots_pairs xs ≤ max_slots → 1 ≤ pairs xs → FitsPairs names xs → q ≡ 0 → PlacedPairs 2 xs → drop 0 s ≡ 0x30 ∷ pairs xs ∷ (spell_pairs xs ++ []) → formula_at names s start ≡ ok (state (2 + size_pairs xs) (slots_pairs xs) 0) (becomes q xs)
  unfolding becomes_by and_then moved pairs
  becomes-pairs-here q [] m i f y z h = absurd (omega arith)
  becomes-pairs-here q (x ∷ xs) m i f y z h =
      becomes-here 0x30 (pairs (x ∷ xs)) _ (omega arith) i h
      ∙ (rw (pairs-here (x ∷ xs) 2 0 [] f z (omega arith) (after_two s 0 _ _ _ h), y)
      (state-is _ _ _ _ _ _ _ refl (let w : 0 + slots_pairs (x ∷ xs) ≡ slots_pairs (x ∷ xs) = omega arith in w) refl))

  becomes_in_here : (q : ℕ) (t : Target) (ts : List Target) (a : Expr) → suc (targets ts + slots a) ≤ max_slots → t.name < names → FitsTargets names ts → Fits names 1 0 a → q ≡ 0 → t.place ≡ 2 → PlacedTargets 5 ts → Placed (5 + size_targets ts) a
      → drop 0 s ≡ 0x31 ∷ suc (targets ts) ∷ (spell_target t ++ (spell_targets ts ++ (spell a ++ []))) → formula_at names s start ≡ ok (state (2 + (3 + (size_targets ts + size a))) (suc (targets ts + slots a)) 0) (becomes_in q t ts a)
  unfolding becomes_by and_then moved
  becomes_in_here q t ts a m f g b y z w v h =
      let e : drop 2 s ≡ spell_target t ++ (spell_targets ts ++ (spell a ++ [])) = after_two s 0 _ _ _ h in
      let i : drop 5 s ≡ spell_targets ts ++ (spell a ++ []) = past-target names s t 2 _ e in
      becomes-here 0x31 (suc (targets ts)) _ (omega arith) (omega arith) h
      ∙ (rw (
        target-here names s t 2 0 0 _ f z (omega arith) e,
        targets-here names s ts 5 1 0 (spell a ++ []) g w (omega arith) i,
        expr-here a max_depth 1 (5 + size_targets ts) (1 + targets ts) 0 false [] refl b v (λ z. absurd (false-true z)) (omega arith) (past-targets ts 5 (spell a ++ []) i),
        y,
      )
      (state-is _ _ _ _ _ _ _ (let u : 5 + size_targets ts + size a ≡ 2 + (3 + (size_targets ts + size a)) = omega arith in u) (let u : 1 + targets ts + slots a ≡ suc (targets ts + slots a) = omega arith in u) refl))

  becomes_such_here : (q : ℕ) (ts : List Target) (ds : List Decl) (a : Pred) → targets ts + (decls ds + slots_pred a) ≤ max_slots → 1 ≤ targets ts → targets ts ≡ decls ds → decls ds ≤ max_opened → FitsTargets names ts → FitsDecls names 1 ds → FitsPred names 1 (decls ds) a
      → q ≡ 0 → PlacedTargets 2 ts → PlacedDecls (2 + size_targets ts) ds → PlacedPred (2 + size_targets ts + size_decls ds) a
      → drop 0 s ≡ 0x32 ∷ targets ts ∷ (spell_targets ts ++ (spell_decls ds ++ (spell_pred a ++ []))) → formula_at names s start ≡ ok (state (2 + (size_targets ts + (size_decls ds + size_pred a))) (targets ts + (decls ds + slots_pred a)) (decls ds)) (becomes_such q ts ds a)
  unfolding becomes_by and_then moved
  becomes_such_here q ts ds a m i n o f g b y z w v h =
      let e : drop 2 s ≡ spell_targets ts ++ (spell_decls ds ++ (spell_pred a ++ [])) = after_two s 0 _ _ _ h in
      let j : drop (2 + size_targets ts) s ≡ spell_decls ds ++ (spell_pred a ++ []) = past-targets ts 2 _ e in
      becomes-here 0x32 (targets ts) _ (omega arith) i h
      ∙ by_count (targets ts) refl
      ∙ (rw (
        targets-here names s ts 2 0 0 _ f z (omega arith) e,
        decls-all j,
        pred_here a max_depth 1 (2 + size_targets ts + size_decls ds) (0 + targets ts + decls ds) (0 + decls ds) [] refl (let u : 0 + decls ds ≡ decls ds = omega arith in rw u b) v (omega arith) (past-decls ds (2 + size_targets ts) (spell_pred a ++ []) j),
        y,
      )
      (state-is _ _ _ _ _ _ _ (let u : 2 + size_targets ts + size_decls ds + size_pred a ≡ 2 + (size_targets ts + (size_decls ds + size_pred a)) = omega arith in u) (let u : 0 + targets ts + decls ds + slots_pred a ≡ targets ts + (decls ds + slots_pred a) = omega arith in u) (let u : 0 + decls ds ≡ decls ds = omega arith in u)))
    where
      by_count : (c : ℕ) → targets ts ≡ c → becomes_by max_depth names s c (place 2) start 0x32 ≡ and_then (targets_at names s c (state 2 0 0)) λ xs st₁. and_then (decls_at names s max_depth c st₁) λ zs st₂. and_then (pred_at max_depth names s st₂) λ x st₃. ok st₃ (becomes_such 0 xs zs x)
      by_count zero k = absurd (omega arith)
      by_count (suc c) k = refl

      decls-all : drop (2 + size_targets ts) s ≡ spell_decls ds ++ (spell_pred a ++ []) → decls_at names s max_depth (targets ts) (state (2 + size_targets ts) (0 + targets ts) 0) ≡ ok (state (2 + size_targets ts + size_decls ds) (0 + targets ts + decls ds) (0 + decls ds)) ds
      decls-all j = ap (λ (c : ℕ). decls_at names s max_depth c (state (2 + size_targets ts) (0 + targets ts) 0)) n ∙ decl_row ds 1 max_depth (2 + size_targets ts) (0 + targets ts) 0 _ refl g w (omega arith) (omega arith) j

  -- a formula at the start of its stream: o declarations are open at its end
  pub formula-here : (a : Formula) → FitsFormula names a → PlacedFormula 0 a → drop 0 s ≡ spell_formula a ++ [] → (o : ℕ) × (formula_at names s start ≡ ok (state (size_formula a) (slots_of a) o) a)
  unfolding FitsFormula FitsRoot PlacedFormula spell_formula size_formula slots_of root_by and_then
  formula-here (expression a) f y h =
      let g = expr-first a in (
        0,
        root-here g.0 g.1 (h ∙ append-nil (spell a) ∙ g.2)
            ∙ (rw (lt-ltb g.0 0x20 g.3, expr-here a levels 0 0 0 0 false [] refl f.1 y (λ z. absurd (false-true z)) (let z = f.0 in omega arith) h)
            (state-is _ _ _ _ _ _ _ (let z : 0 + size a ≡ size a = omega arith in z) (let z : 0 + slots a ≡ slots a = omega arith in z) refl)),
      )
  formula-here (predicate a) f y h =
      let g = pred_first a in (
        0,
        root-here g.0 g.1 (h ∙ append-nil (spell_pred a) ∙ g.2)
            ∙ (rw (le-ltb g.0 0x20 g.3, lt-ltb g.0 0x30 g.4, pred_here a levels 0 0 0 0 [] refl f.1 y (let z = f.0 in omega arith) h)
            (state-is _ _ _ _ _ _ _ (let z : 0 + size_pred a ≡ size_pred a = omega arith in z) (let z : 0 + slots_pred a ≡ slots_pred a = omega arith in z) refl)),
      )
  formula-here (becomes q xs) f y h = (0, becomes-pairs-here q xs f.0 f.1.0 f.1.1 y.0 y.1 h)
  formula-here (becomes_in q t ts a) f y h =
      let e : drop 0 s ≡ 0x31 ∷ suc (targets ts) ∷ (spell_target t ++ (spell_targets ts ++ (spell a ++ []))) = h ∙ ap (λ (w : List ℕ). 0x31 ∷ suc (targets ts) ∷ w) (append_assoc (spell_target t) (spell_targets ts ++ spell a) [] ∙ ap (λ (w : List ℕ). spell_target t ++ w) (append_assoc (spell_targets ts) (spell a) [])) in
      (0, becomes_in_here q t ts a f.0 f.1.0 f.1.1 f.1.2 y.0 y.1 y.2 y.3 e)
  formula-here (becomes_such q ts ds a) f y h =
      let e : drop 0 s ≡ 0x32 ∷ targets ts ∷ (spell_targets ts ++ (spell_decls ds ++ (spell_pred a ++ []))) = h ∙ ap (λ (w : List ℕ). 0x32 ∷ targets ts ∷ w) (append_assoc (spell_targets ts) (spell_decls ds ++ spell_pred a) [] ∙ ap (λ (w : List ℕ). spell_targets ts ++ w) (append_assoc (spell_decls ds) (spell_pred a) [])) in
      (decls ds, becomes_such_here q ts ds a f.0 f.1.0 f.1.1 f.1.2 f.1.3 f.1.4 f.1.5 y.0 y.1 y.2 y.3 e)
