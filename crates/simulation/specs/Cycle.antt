-- The whole walk over expressions and predicates: where the bytes spell a tree that fits, the machine runs the tree's operations.
-- After this file `tie` and `tie_pred` hold for every expression and predicate, at every level.
use Rattle.std.specs.Prelude.{ℕ, zero, suc, ◌+◌, ◌/◌, ◌%◌, ◌≤◌, ◌≡◌, refl, false, List, [], ◌∷◌, ◌++◌, length, drop, eqb, Option, Some}
use Rattle.std.proofs.Math.Path.{sym, ap}
use Rattle.std.proofs.Common.{◌∙◌, subst, arith, eq-eqb, ne_eqb}
use Rattle.std.proofs.Math.Decide.{ℕ_discrete}
use Rattle.types.specs.Limits.{max_names}
use Rattle.types.specs.declared.Place.{Place}
use Rattle.types.specs.Ty as T
use Rattle.heads.specs.declared.ExprHead.{ExprHead}
use Rattle.heads.specs.declared.ExprHead.TheVariants.{Explicit}
use Rattle.heads.specs.declared.PredHead.{PredHead}
use Rattle.types.specs.Record.{reach}
use Rattle.heads.specs.Heads.{expr_head, pred_head}
use Rattle.heads.specs.Heads as H
use Rattle.heads.specs.Reads.{reach-all}
use Rattle.formula.specs.Environment.{Env}
use Rattle.formula.specs.Tree.{Expr, free, bound, literal, atomic, extension, truth, binary, associative, unary, quantified, ascribed, explicit, Exprs, none, more, Pred, constant, variable, relational, connective, junction, negation, quantification, simple, multiple, application, Preds, end, also, place, decls, exprs, preds}
use Rattle.formula.specs.Spell.{spell_spelling, spell_decls, spell, spell_all, spell_pred, spell_preds, size, size_all, size_pred, size_preds, size_spelling, size_decls, size_ty, Placed, Placed_all, PlacedPred, PlacedPreds}
use Rattle.formula_laws.specs.Fits.{Fits, FitsAll, FitsPred, FitsPreds}
use Rattle.formula_laws.specs.Complete.{head-free, head-bound, head-literal, head-atomic, head-extension, head-truth, head-binary, head-associative, head-unary, head-quantified, head-ascribed, head-explicit, head-constant, head-variable, head-relational, head-connective, head-junction, head-negation, head-quantification, head-simple, head-multiple, head-application}
use Rattle.formula_laws.specs.Sizes.{length_ty, length-decls, length-expr, length_pred}
use Rattle.unification.specs.Arena.{U}
use Rattle.walk.specs.Writer.{W, enter, own}
use Rattle.walk.specs.Walk.{expr, walk, walk_all, walk_pred, walk_preds}
use Rattle.forms.specs.Forms.{test, then}
use Rattle.machine.specs.Machine.{Mach, with_st, paid_of, enter_of, leave_of}
use Rattle.walker.specs.Walk.{typed_by, body_by, pred_body_by, entered_by, expr_by, pred_by, paid_by, owned_by, expr_of, pred_of}
use Rattle.simulation.specs.Relation.{Runs}
use Rattle.simulation.specs.Stand.{runs_if}
use Rattle.machine.specs.Still.{test_yes, test_no, Halted, still_leave}
use Rattle.walker.specs.StillWalk.{Still, still_body, still_pbody, still_explicit, still_expr, still_pred}
use Rattle.simulation.specs.Output.{assoc}
use Rattle.simulation.specs.Nodes.{Came, Gave}
use Rattle.simulation.specs.Bytes.{drop_past}
use Rattle.simulation.specs.Slots.{runs_enter, runs_expr}
use Rattle.simulation.specs.Decls.{paid-at, enter-at}
use Rattle.simulation.specs.Shapes.{Goes}
use Rattle.simulation.specs.Children.{AllGo}
use Rattle.simulation.specs.Bodies.{GoesP, free_body, bound_body, literal_body, atomic_body, extension_body, truth_body, binary_body, associative_body, unary_body, quantified_body, ascribed_body, explicit_body}
use Rattle.simulation.specs.Predicates.{AllGoP, constant_body, variable_body, relational_body, connective_body, junction_body, negation_body, quantification_body, simple_body, multiple_body, application_body}

module _ (s env : List ℕ) where
  abbrev pub E : ℕ → Mach → Mach
  E l x = expr_of l s env x

  abbrev pub P : ℕ → Mach → Mach
  P l x = pred_of l s env x

  pub stay_e : (l : ℕ) → Still (E l)
  stay_e l m h = still_expr l s env m h

  pub stay_p : (l : ℕ) → Still (P l)
  stay_p l m h = still_pred l s env m h

  abbrev Entered : Mach → Mach
  Entered m = with_st (enter_of m.st) m

  abbrev Paid : Mach → Mach
  Paid m = with_st (paid_of m.st) m

  -- a head of an expression other than 0C
  abbrev Owned : ExprHead → Type 0
  Owned g = (X : Place → Mach) (f : ExprHead → Mach) (m : Mach) → expr_by X f (Some g) m ≡ f g

  -- an expression other than 0C: its rule between the slot taken and the slot filled
  expr-is : (l : ℕ) (g : ExprHead) (m : Mach) → expr_head max_names (reach s) false m.st.at ≡ Some g → Owned g → expr_of (suc l) s env m ≡ leave_of m.st.slots m.st.at.0 (body_by (E l) (P l) s env g (Entered m))
  unfolding expr_of owned_by entered_by then
  expr-is l g m e o =
      let X : Place → Mach = (λ i. paid_by (λ v. typed_by (E l) s i (with_st v m)) m) in
      let f : ExprHead → Mach = (λ h. owned_by (λ v. leave_of m.st.slots m.st.at.0 (body_by (E l) (P l) s env h (with_st v m))) m) in
      ap (λ (a : Option ExprHead). expr_by X f a m) e ∙ o X f m ∙ by (ℕ_discrete (enter_of m.st).stop 0)
    where
      by : Dec ((enter_of m.st).stop ≡ 0) → test (eqb (enter_of m.st).stop 0) (λ _. leave_of m.st.slots m.st.at.0 (body_by (E l) (P l) s env g (Entered m))) (λ _. Entered m) ≡ leave_of m.st.slots m.st.at.0 (body_by (E l) (P l) s env g (Entered m))
      by (yes q) = test_yes (eqb (enter_of m.st).stop 0) _ _ (eq-eqb (enter_of m.st).stop 0 q)
      by (no q) = test_no (eqb (enter_of m.st).stop 0) _ _ (ne_eqb (enter_of m.st).stop 0 q)
          ∙ sym (ap (leave_of m.st.slots m.st.at.0) (still_body (E l) (stay_e l) (P l) (stay_p l) s env g (Entered m) q) ∙ still_leave m.st.slots m.st.at.0 (Entered m) q)

  paid-is : (R : Mach → Mach) (m : Mach) → ((x : Mach) → Halted x → R x ≡ x) → paid_by (λ v. R (with_st v m)) m ≡ R (Paid m)
  unfolding paid_by entered_by then
  paid-is R m stays = by (ℕ_discrete (paid_of m.st).stop 0)
    where
      by : Dec ((paid_of m.st).stop ≡ 0) → test (eqb (paid_of m.st).stop 0) (λ _. R (Paid m)) (λ _. Paid m) ≡ R (Paid m)
      by (yes q) = test_yes (eqb (paid_of m.st).stop 0) _ _ (eq-eqb (paid_of m.st).stop 0 q)
      by (no q) = test_no (eqb (paid_of m.st).stop 0) _ _ (ne_eqb (paid_of m.st).stop 0 q) ∙ sym (stays (Paid m) q)

  explicit-is : (l : ℕ) (i : Place) (m : Mach) → expr_head max_names (reach s) false m.st.at ≡ Some (Explicit i) → expr_of (suc l) s env m ≡ typed_by (E l) s i (Paid m)
  unfolding expr_of expr_by then
  explicit-is l i m e =
      let X : Place → Mach = (λ j. paid_by (λ v. typed_by (E l) s j (with_st v m)) m) in
      let f : ExprHead → Mach = (λ h. owned_by (λ v. leave_of m.st.slots m.st.at.0 (body_by (E l) (P l) s env h (with_st v m))) m) in
      ap (λ (a : Option ExprHead). expr_by X f a m) e ∙ paid-is (typed_by (E l) s i) m (λ x h. still_explicit (E l) (stay_e l) s i x h)

  pred_is : (l : ℕ) (g : PredHead) (m : Mach) → pred_head (reach s) m.st.at ≡ Some g → pred_of (suc l) s env m ≡ pred_body_by (E l) (P l) s env g (Paid m)
  unfolding pred_of pred_by then
  pred_is l g m e =
      ap (λ (a : Option PredHead). pred_by (λ h. paid_by (λ v. pred_body_by (E l) (P l) s env h (with_st v m)) m) a m) e
      ∙ paid-is (pred_body_by (E l) (P l) s env g) m (λ x h. still_pbody (E l) (stay_e l) (P l) (stay_p l) s env g x h)

module _ (Γ : Env) (env : List ℕ) (cap room : ℕ) (wide : cap ≤ 32768) (brief : length env ≤ 65536) (s : List ℕ) (short : length s ≤ 65536) (most : ℕ) (few : most ≤ 256) where
  abbrev G : ℕ → Expr → List ℕ → ℕ → Type 0
  G l e B p = Goes Γ env cap room wide (E s env l) e B p

  abbrev GP : ℕ → Pred → List ℕ → ℕ → Type 0
  GP l q B p = GoesP Γ env cap room wide brief s short most few (P s env l) q B p

  -- the head at p is read where the machine stands at p
  head_at : (p : ℕ) (a : Option ExprHead) (m : Mach) → expr_head max_names s false (H.place p) ≡ a → m.st.at.0 ≡ p → expr_head max_names (reach s) false m.st.at ≡ a
  head_at p a m e at0 = ap (λ (x : List ℕ). expr_head max_names x false m.st.at) (reach-all s (omega arith)) ∙ ap (λ (j : ℕ). expr_head max_names s false (H.place j)) at0 ∙ e

  pred_head-at : (p : ℕ) (a : Option PredHead) (m : Mach) → pred_head s (H.place p) ≡ a → m.st.at.0 ≡ p → pred_head (reach s) m.st.at ≡ a
  pred_head-at p a m e at0 = ap (λ (x : List ℕ). pred_head x m.st.at) (reach-all s (omega arith)) ∙ ap (λ (j : ℕ). pred_head s (H.place j)) at0 ∙ e

  -- an expression's record around its rule
  as_expr : (l p n : ℕ) (g : ExprHead) (w : W ℕ) (B : List ℕ) → expr_head max_names s false (H.place p) ≡ Some g → Owned s env g
      → ((m : Mach) → m.st.at.0 ≡ p → Runs Γ env cap room m (body_by (E s env l) (P s env l) s env g m) w B (λ _. B) (λ r v. Gave (p + n) r v))
      → (m : Mach) → m.st.at.0 ≡ p → Runs Γ env cap room m (expr_of (suc l) s env m) (enter (own p w)) B (λ _. B) (λ r v. Came (p + n) p r v)
  as_expr l p n g w B e o body m at0 =
      let m0 : Mach = with_st (enter_of m.st) m in
      let b0 : Mach = body_by (E s env l) (P s env l) s env g m0 in
      subst (λ (j : ℕ). Runs Γ env cap room m (expr_of (suc l) s env m) (enter (own j w)) B (λ _. B) (λ r v. Came (p + n) j r v)) at0
      (runs_if Γ env cap room m (expr_of (suc l) s env m) (leave_of m.st.slots m.st.at.0 b0) (enter (own m.st.at.0 w)) B (λ _. B) _ (λ _. expr-is s env l g m (head_at p (Some g) m e at0) o)
      (runs_expr Γ env cap room m b0 m.st.at.0 (p + n) w B (λ c. still_body (E s env l) (stay_e s env l) (P s env l) (stay_p s env l) s env g m0 c) (body m0 (enter-at m.st ∙ at0))))

  as_pred : (l p n : ℕ) (g : PredHead) (w : W U) (B : List ℕ) → pred_head s (H.place p) ≡ Some g
      → ((m : Mach) → m.st.at.0 ≡ p → Runs Γ env cap room m (pred_body_by (E s env l) (P s env l) s env g m) w B (λ _. B) (λ _ v. v.st.at.0 ≡ p + n))
      → (m : Mach) → m.st.at.0 ≡ p → Runs Γ env cap room m (pred_of (suc l) s env m) (enter w) B (λ _. B) (λ _ v. v.st.at.0 ≡ p + n)
  as_pred l p n g w B e body m at0 =
      let m0 : Mach = with_st (paid_of m.st) m in
      let b0 : Mach = pred_body_by (E s env l) (P s env l) s env g m0 in
      runs_if Γ env cap room m (pred_of (suc l) s env m) b0 (enter w) B (λ _. B) _ (λ _. pred_is s env l g m (pred_head-at p (Some g) m e at0))
      (runs_enter Γ env cap room m b0 w B (λ _. B) (λ _ v. v.st.at.0 ≡ p + n) (λ c. ap (λ (x : Mach). x.st.stop) (still_pbody (E s env l) (stay_e s env l) (P s env l) (stay_p s env l) s env g m0 c)) (body m0 (paid-at m.st ∙ at0)))

  as_explicit : (l p n f : ℕ) (i : Place) (w : W ℕ) (B : List ℕ) → expr_head max_names s false (H.place p) ≡ Some (Explicit i)
      → ((m : Mach) → Runs Γ env cap room m (typed_by (E s env l) s i m) w B (λ _. B) (λ r v. Came (p + n) f r v))
      → (m : Mach) → m.st.at.0 ≡ p → Runs Γ env cap room m (expr_of (suc l) s env m) (enter w) B (λ _. B) (λ r v. Came (p + n) f r v)
  as_explicit l p n f i w B e body m at0 =
      let m0 : Mach = with_st (paid_of m.st) m in
      let b0 : Mach = typed_by (E s env l) s i m0 in
      runs_if Γ env cap room m (expr_of (suc l) s env m) b0 (enter w) B (λ _. B) _ (λ _. explicit-is s env l i m (head_at p (Some (Explicit i)) m e at0))
      (runs_enter Γ env cap room m b0 w B (λ _. B) (λ r v. Came (p + n) f r v) (λ c. ap (λ (x : Mach). x.st.stop) (still_explicit (E s env l) (stay_e s env l) s i m0 c)) (body m0))

  -- the place in the tree is the place in the stream
  at-expr : (l : ℕ) (mk : ℕ → Expr) (r p : ℕ) (B : List ℕ) → r ≡ p → G l (mk p) B p → G l (mk r) B p
  at-expr l mk r p B e h = subst (λ (q : ℕ). G l (mk q) B p) (sym e) h

  at_pred : (l : ℕ) (mk : ℕ → Pred) (r p : ℕ) (B : List ℕ) → r ≡ p → GP l (mk p) B p → GP l (mk r) B p
  at_pred l mk r p B e h = subst (λ (q : ℕ). GP l (mk q) B p) (sym e) h

  -- past a part
  past : (x y : List ℕ) (n p : ℕ) → length x ≡ n → drop p s ≡ x ++ y → drop (p + n) s ≡ y
  past x y n p l e = subst (λ (k : ℕ). drop (p + k) s ≡ y) l (drop_past s x y p e)

  -- a record that fits has a level of its own
  at_level : (l d : ℕ) (X : ℕ → Type 0) → l + d ≡ 65 → d ≤ 64 → ((j : ℕ) → j + suc d ≡ 65 → X (suc j)) → X l
  at_level zero d X k f h = absurd (omega arith)
  at_level (suc j) d X k f h = h j (omega arith)

  mutual
    unfolding expr_by walk walk_all walk_pred walk_preds expr spell spell_all spell_pred spell_preds size size_all size_pred size_preds place Fits FitsAll FitsPred FitsPreds Placed Placed_all PlacedPred PlacedPreds

    pub tie : (e : Expr) (l d p : ℕ) (B rest : List ℕ) → l + d ≡ 65 → Fits most d (length B) e → Placed p e → drop p s ≡ spell e ++ rest → G l e B p
    tie (free r x) l0 d p B rest k0 f w b = at_level l0 d (λ (j : ℕ). G j (free r x) B p) k0 f.0 (λ l k. (
        at-expr (suc l) (λ q. free q x) r p B w (as_expr l p 3 _ _ B (head-free max_names s false p x rest (let q = f.1 in omega arith) b) (λ X f m. refl) (free_body Γ env cap room wide brief s short most few (E s env l) (P s env l) (stay_e s env l) (stay_p s env l) B p x (let q = f.1 in omega arith)))))
    tie (bound r i) l0 d p B rest k0 f w b = at_level l0 d (λ (j : ℕ). G j (bound r i) B p) k0 f (λ l k. (
        at-expr (suc l) (λ q. bound q i) r p B w (as_expr l p 3 _ _ B (head-bound max_names s false p i rest b) (λ X f m. refl) (bound_body Γ env cap room wide brief s short most few (E s env l) (P s env l) (stay_e s env l) (stay_p s env l) B p i))))
    tie (literal r) l0 d p B rest k0 f w b = at_level l0 d (λ (j : ℕ). G j (literal r) B p) k0 f (λ l k. (
        at-expr (suc l) (λ q. literal q) r p B w (as_expr l p 1 _ _ B (head-literal max_names s false p rest b) (λ X f m. refl) (literal_body Γ env cap room wide brief s short most few (E s env l) (P s env l) (stay_e s env l) (stay_p s env l) B p))))
    tie (atomic r o) l0 d p B rest k0 f w b = at_level l0 d (λ (j : ℕ). G j (atomic r o) B p) k0 f.0 (λ l k. (
        at-expr (suc l) (λ q. atomic q o) r p B w (as_expr l p 2 _ _ B (head-atomic max_names s false p o rest f.1 b) (λ X f m. refl) (atomic_body Γ env cap room wide brief s short most few (E s env l) (P s env l) (stay_e s env l) (stay_p s env l) B p o f.1))))
    tie (extension r es) l0 d p B rest k0 f w b = at_level l0 d (λ (j : ℕ). G j (extension r es) B p) k0 f.0 (λ l k. (
        at-expr (suc l) (λ q. extension q es) r p B w.0 (as_expr l p (3 + size_all es) _ _ B (head-extension max_names s false p (exprs es) (spell_all es ++ rest) f.1 b) (λ X f m. refl)
        (extension_body Γ env cap room wide brief s short most few (E s env l) (P s env l) (stay_e s env l) (stay_p s env l) B p es
        (tie-all es l (suc d) (p + 3) B rest k f.2 w.1 (drop_past s (0x05 ∷ exprs es % 256 ∷ exprs es / 256 ∷ []) (spell_all es ++ rest) p b))))))
    tie (truth r c) l0 d p B rest k0 f w b = at_level l0 d (λ (j : ℕ). G j (truth r c) B p) k0 f.0 (λ l k. (
        at-expr (suc l) (λ q. truth q c) r p B w.0 (as_expr l p (1 + size_pred c) _ _ B (head-truth max_names s false p (spell_pred c ++ rest) b) (λ X f m. refl)
        (truth_body Γ env cap room wide brief s short most few (E s env l) (P s env l) (stay_e s env l) (stay_p s env l) B p c (tie_pred c l (suc d) (p + 1) B rest k f.1 w.1 (drop_past s (0x06 ∷ []) (spell_pred c ++ rest) p b))))))
    tie (binary r o a c) l0 d p B rest k0 f w b = at_level l0 d (λ (j : ℕ). G j (binary r o a c) B p) k0 f.0 (λ l k. (
        let b2 : drop (p + 2) s ≡ spell a ++ (spell c ++ rest) = drop_past s (0x07 ∷ o ∷ []) ((spell a ++ spell c) ++ rest) p b ∙ assoc (spell a) (spell c) rest in
        at-expr (suc l) (λ q. binary q o a c) r p B w.0 (as_expr l p (2 + (size a + size c)) _ _ B (head-binary max_names s false p o ((spell a ++ spell c) ++ rest) f.1 b) (λ X f m. refl)
        (binary_body Γ env cap room wide brief s short most few (E s env l) (P s env l) (stay_e s env l) (stay_p s env l) B p o a c f.1
        (tie a l (suc d) (p + 2) B (spell c ++ rest) k f.2 w.1 b2)
        (tie c l (suc d) (p + 2 + size a) B rest k f.3 w.2 (past (spell a) (spell c ++ rest) (size a) (p + 2) (length-expr a) b2))))))
    tie (associative r o es) l0 d p B rest k0 f w b = at_level l0 d (λ (j : ℕ). G j (associative r o es) B p) k0 f.0 (λ l k. (
        at-expr (suc l) (λ q. associative q o es) r p B w.0 (as_expr l p (4 + size_all es) _ _ B (head-associative max_names s false p o (exprs es) (spell_all es ++ rest) f.1 f.2 b) (λ X f m. refl)
        (associative_body Γ env cap room wide brief s short most few (E s env l) (P s env l) (stay_e s env l) (stay_p s env l) B p o es f.1
        (tie-all es l (suc d) (p + 4) B rest k f.3 w.1 (drop_past s (0x08 ∷ o ∷ exprs es % 256 ∷ exprs es / 256 ∷ []) (spell_all es ++ rest) p b))))))
    tie (unary r o a) l0 d p B rest k0 f w b = at_level l0 d (λ (j : ℕ). G j (unary r o a) B p) k0 f.0 (λ l k. (
        at-expr (suc l) (λ q. unary q o a) r p B w.0 (as_expr l p (2 + size a) _ _ B (head-unary max_names s false p o (spell a ++ rest) f.1 b) (λ X f m. refl)
        (unary_body Γ env cap room wide brief s short most few (E s env l) (P s env l) (stay_e s env l) (stay_p s env l) B p o a f.1 (tie a l (suc d) (p + 2) B rest k f.2 w.1 (drop_past s (0x09 ∷ o ∷ []) (spell a ++ rest) p b))))))
    tie (quantified r o ds c a) l0 d p B rest k0 f w b = at_level l0 d (λ (j : ℕ). G j (quantified r o ds c a) B p) k0 f.0 (λ l k. (
        let tail : List ℕ = (spell_pred c ++ spell a) ++ rest in
        let b0 : drop p s ≡ 0x0A ∷ o ∷ decls ds ∷ (spell_decls ds ++ tail) = b ∙ ap (λ (x : List ℕ). 0x0A ∷ o ∷ decls ds ∷ x) (assoc (spell_decls ds) (spell_pred c ++ spell a) rest) in
        let b3 : drop (p + 3) s ≡ spell_decls ds ++ tail = drop_past s (0x0A ∷ o ∷ decls ds ∷ []) (spell_decls ds ++ tail) p b0 in
        let b4 : drop (p + 3 + size_decls ds) s ≡ spell_pred c ++ (spell a ++ rest) = past (spell_decls ds) tail (size_decls ds) (p + 3) (length-decls ds) b3 ∙ assoc (spell_pred c) (spell a) rest in
        let b5 : drop (p + 3 + size_decls ds + size_pred c) s ≡ spell a ++ rest = past (spell_pred c) (spell a ++ rest) (size_pred c) (p + 3 + size_decls ds) (length_pred c) b4 in
        at-expr (suc l) (λ q. quantified q o ds c a) r p B w.0 (as_expr l p (3 + (size_decls ds + (size_pred c + size a))) _ _ B (head-quantified max_names s false p o (decls ds) (spell_decls ds ++ tail) f.1 f.2 b0) (λ X f m. refl)
        (quantified_body Γ env cap room wide brief s short most few (E s env l) (P s env l) (stay_e s env l) (stay_p s env l) B p o (suc d) ds c a tail f.1 f.3 f.4 w.1
        (λ D n. (
          tie_pred c l (suc d) (p + 3 + size_decls ds) D (spell a ++ rest) k (subst (λ (j : ℕ). FitsPred most (suc d) j c) (sym n) f.5) w.2 b4,
          tie a l (suc d) (p + 3 + size_decls ds + size_pred c) D rest k (subst (λ (j : ℕ). Fits most (suc d) j a) (sym n) f.6) w.3 b5,
        )) b3))))
    tie (ascribed r a t z) l0 d p B rest k0 f w b = at_level l0 d (λ (j : ℕ). G j (ascribed r a t z) B p) k0 f.0 (λ l k. (
        let b1 : drop (p + 1) s ≡ spell a ++ (spell_spelling z ++ rest) = drop_past s (0x0B ∷ []) ((spell a ++ spell_spelling z) ++ rest) p b ∙ assoc (spell a) (spell_spelling z) rest in
        at-expr (suc l) (λ q. ascribed q a t z) r p B w.0 (as_expr l p (1 + (size a + size_spelling z)) _ _ B (head-ascribed max_names s false p ((spell a ++ spell_spelling z) ++ rest) b) (λ X f m. refl)
        (ascribed_body Γ env cap room wide brief s short most few (E s env l) (P s env l) (stay_e s env l) (stay_p s env l) B p (suc d) a t z rest (tie a l (suc d) (p + 1) B (spell_spelling z ++ rest) k f.1 w.1 b1) w.2 f.2
        (past (spell a) (spell_spelling z ++ rest) (size a) (p + 1) (length-expr a) b1)))))
    tie (explicit r t a) l0 d p B rest k0 f w b = at_level l0 d (λ (j : ℕ). G j (explicit r t a) B p) k0 f.0 (λ l k. (
        let b0 : drop p s ≡ 0x0C ∷ (T.spell t ++ (spell a ++ rest)) = b ∙ ap (λ (x : List ℕ). 0x0C ∷ x) (assoc (T.spell t) (spell a) rest) in
        let b1 : drop (p + 1) s ≡ T.spell t ++ (spell a ++ rest) = drop_past s (0x0C ∷ []) (T.spell t ++ (spell a ++ rest)) p b0 in
        at-expr (suc l) (λ q. explicit q t a) r p B w.0 (as_explicit l p (1 + (size_ty t + size a)) (place a) _ _ B (head-explicit max_names s false p (T.spell t ++ (spell a ++ rest)) refl b0)
        (explicit_body Γ env cap room wide brief s short most few (E s env l) (P s env l) (stay_e s env l) (stay_p s env l) B p (suc d) t a (spell a ++ rest) f.1 (tie a l (suc d) (p + 1 + size_ty t) B rest k f.3 w.1 (past (T.spell t) (spell a ++ rest) (size_ty t) (p + 1) (length_ty t) b1)) b1))))

    pub tie-all : (es : Exprs) (l d p : ℕ) (B rest : List ℕ) → l + d ≡ 65 → FitsAll most d (length B) es → Placed_all p es → drop p s ≡ spell_all es ++ rest → AllGo Γ env cap room wide (E s env l) (stay_e s env l) B es p
    tie-all none l d p B rest k f w b = tt
    tie-all (more e es) l d p B rest k f w b =
        let b0 : drop p s ≡ spell e ++ (spell_all es ++ rest) = b ∙ assoc (spell e) (spell_all es) rest in
        (tie e l d p B (spell_all es ++ rest) k f.0 w.0 b0, tie-all es l d (p + size e) B rest k f.1 w.1 (past (spell e) (spell_all es ++ rest) (size e) p (length-expr e) b0))

    pub tie_pred : (q : Pred) (l d p : ℕ) (B rest : List ℕ) → l + d ≡ 65 → FitsPred most d (length B) q → PlacedPred p q → drop p s ≡ spell_pred q ++ rest → GP l q B p
    tie_pred (constant r) l0 d p B rest k0 f w b = at_level l0 d (λ (j : ℕ). GP j (constant r) B p) k0 f (λ l k. (
        at_pred (suc l) (λ q. constant q) r p B w (as_pred l p 1 _ _ B (head-constant s p rest b) (constant_body Γ env cap room wide brief s short most few (E s env l) (P s env l) (stay_e s env l) (stay_p s env l) B p))))
    tie_pred (variable r) l0 d p B rest k0 f w b = at_level l0 d (λ (j : ℕ). GP j (variable r) B p) k0 f (λ l k. (
        at_pred (suc l) (λ q. variable q) r p B w (as_pred l p 1 _ _ B (head-variable s p rest b) (variable_body Γ env cap room wide brief s short most few (E s env l) (P s env l) (stay_e s env l) (stay_p s env l) B p))))
    tie_pred (relational r o a c) l0 d p B rest k0 f w b = at_level l0 d (λ (j : ℕ). GP j (relational r o a c) B p) k0 f.0 (λ l k. (
        let b2 : drop (p + 2) s ≡ spell a ++ (spell c ++ rest) = drop_past s (0x22 ∷ o ∷ []) ((spell a ++ spell c) ++ rest) p b ∙ assoc (spell a) (spell c) rest in
        at_pred (suc l) (λ q. relational q o a c) r p B w.0 (as_pred l p (2 + (size a + size c)) _ _ B (head-relational s p o ((spell a ++ spell c) ++ rest) f.1 b)
        (relational_body Γ env cap room wide brief s short most few (E s env l) (P s env l) (stay_e s env l) (stay_p s env l) B p o a c f.1
        (tie a l (suc d) (p + 2) B (spell c ++ rest) k f.2 w.1 b2)
        (tie c l (suc d) (p + 2 + size a) B rest k f.3 w.2 (past (spell a) (spell c ++ rest) (size a) (p + 2) (length-expr a) b2))))))
    tie_pred (connective r a c) l0 d p B rest k0 f w b = at_level l0 d (λ (j : ℕ). GP j (connective r a c) B p) k0 f.0 (λ l k. (
        let b1 : drop (p + 1) s ≡ spell_pred a ++ (spell_pred c ++ rest) = drop_past s (0x23 ∷ []) ((spell_pred a ++ spell_pred c) ++ rest) p b ∙ assoc (spell_pred a) (spell_pred c) rest in
        at_pred (suc l) (λ q. connective q a c) r p B w.0 (as_pred l p (1 + (size_pred a + size_pred c)) _ _ B (head-connective s p ((spell_pred a ++ spell_pred c) ++ rest) b)
        (connective_body Γ env cap room wide brief s short most few (E s env l) (P s env l) (stay_e s env l) (stay_p s env l) B p a c
        (tie_pred a l (suc d) (p + 1) B (spell_pred c ++ rest) k f.1 w.1 b1)
        (tie_pred c l (suc d) (p + 1 + size_pred a) B rest k f.2 w.2 (past (spell_pred a) (spell_pred c ++ rest) (size_pred a) (p + 1) (length_pred a) b1))))))
    tie_pred (junction r qs) l0 d p B rest k0 f w b = at_level l0 d (λ (j : ℕ). GP j (junction r qs) B p) k0 f.0 (λ l k. (
        at_pred (suc l) (λ q. junction q qs) r p B w.0 (as_pred l p (3 + size_preds qs) _ _ B (head-junction s p (preds qs) (spell_preds qs ++ rest) f.1 b)
        (junction_body Γ env cap room wide brief s short most few (E s env l) (P s env l) (stay_e s env l) (stay_p s env l) B p qs
        (tie-preds qs l (suc d) (p + 3) B rest k f.2 w.1 (drop_past s (0x24 ∷ preds qs % 256 ∷ preds qs / 256 ∷ []) (spell_preds qs ++ rest) p b))))))
    tie_pred (negation r a) l0 d p B rest k0 f w b = at_level l0 d (λ (j : ℕ). GP j (negation r a) B p) k0 f.0 (λ l k. (
        at_pred (suc l) (λ q. negation q a) r p B w.0 (as_pred l p (1 + size_pred a) _ _ B (head-negation s p (spell_pred a ++ rest) b)
        (negation_body Γ env cap room wide brief s short most few (E s env l) (P s env l) (stay_e s env l) (stay_p s env l) B p a (tie_pred a l (suc d) (p + 1) B rest k f.1 w.1 (drop_past s (0x25 ∷ []) (spell_pred a ++ rest) p b))))))
    tie_pred (quantification r ds c) l0 d p B rest k0 f w b = at_level l0 d (λ (j : ℕ). GP j (quantification r ds c) B p) k0 f.0 (λ l k. (
        let b0 : drop p s ≡ 0x26 ∷ decls ds ∷ (spell_decls ds ++ (spell_pred c ++ rest)) = b ∙ ap (λ (x : List ℕ). 0x26 ∷ decls ds ∷ x) (assoc (spell_decls ds) (spell_pred c) rest) in
        let b2 : drop (p + 2) s ≡ spell_decls ds ++ (spell_pred c ++ rest) = drop_past s (0x26 ∷ decls ds ∷ []) (spell_decls ds ++ (spell_pred c ++ rest)) p b0 in
        at_pred (suc l) (λ q. quantification q ds c) r p B w.0 (as_pred l p (2 + (size_decls ds + size_pred c)) _ _ B (head-quantification s p (decls ds) (spell_decls ds ++ (spell_pred c ++ rest)) f.1 b0)
        (quantification_body Γ env cap room wide brief s short most few (E s env l) (P s env l) (stay_e s env l) (stay_p s env l) B p (suc d) ds c (spell_pred c ++ rest) f.2 f.3 w.1
        (λ D n. tie_pred c l (suc d) (p + 2 + size_decls ds) D rest k (subst (λ (j : ℕ). FitsPred most (suc d) j c) (sym n) f.4) w.2 (past (spell_decls ds) (spell_pred c ++ rest) (size_decls ds) (p + 2) (length-decls ds) b2)) b2))))
    tie_pred (simple r a) l0 d p B rest k0 f w b = at_level l0 d (λ (j : ℕ). GP j (simple r a) B p) k0 f.0 (λ l k. (
        at_pred (suc l) (λ q. simple q a) r p B w.0 (as_pred l p (1 + size a) _ _ B (head-simple s p (spell a ++ rest) b)
        (simple_body Γ env cap room wide brief s short most few (E s env l) (P s env l) (stay_e s env l) (stay_p s env l) B p a (tie a l (suc d) (p + 1) B rest k f.1 w.1 (drop_past s (0x27 ∷ []) (spell a ++ rest) p b))))))
    tie_pred (multiple r es) l0 d p B rest k0 f w b = at_level l0 d (λ (j : ℕ). GP j (multiple r es) B p) k0 f.0 (λ l k. (
        at_pred (suc l) (λ q. multiple q es) r p B w.0 (as_pred l p (3 + size_all es) _ _ B (head-multiple s p (exprs es) (spell_all es ++ rest) f.1 b)
        (multiple_body Γ env cap room wide brief s short most few (E s env l) (P s env l) (stay_e s env l) (stay_p s env l) B p es
        (tie-all es l (suc d) (p + 3) B rest k f.2 w.1 (drop_past s (0x28 ∷ exprs es % 256 ∷ exprs es / 256 ∷ []) (spell_all es ++ rest) p b))))))
    tie_pred (application r es) l0 d p B rest k0 f w b = at_level l0 d (λ (j : ℕ). GP j (application r es) B p) k0 f.0 (λ l k. (
        at_pred (suc l) (λ q. application q es) r p B w.0 (as_pred l p (3 + size_all es) _ _ B (head-application s p (exprs es) (spell_all es ++ rest) b)
        (application_body Γ env cap room wide brief s short most few (E s env l) (P s env l) (stay_e s env l) (stay_p s env l) B p es
        (tie-all es l (suc d) (p + 3) B rest k f.1 w.1 (drop_past s (0x29 ∷ exprs es % 256 ∷ exprs es / 256 ∷ []) (spell_all es ++ rest) p b))))))

    pub tie-preds : (qs : Preds) (l d p : ℕ) (B rest : List ℕ) → l + d ≡ 65 → FitsPreds most d (length B) qs → PlacedPreds p qs → drop p s ≡ spell_preds qs ++ rest → AllGoP Γ env cap room wide brief s short most few (P s env l) B qs p
    tie-preds end l d p B rest k f w b = tt
    tie-preds (also q qs) l d p B rest k f w b =
        let b0 : drop p s ≡ spell_pred q ++ (spell_preds qs ++ rest) = b ∙ assoc (spell_pred q) (spell_preds qs) rest in
        (tie_pred q l d p B (spell_preds qs ++ rest) k f.0 w.0 b0, tie-preds qs l d (p + size_pred q) B rest k f.1 w.1 (past (spell_pred q) (spell_preds qs ++ rest) (size_pred q) p (length_pred q) b0))
