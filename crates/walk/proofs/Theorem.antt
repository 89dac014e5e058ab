-- The theorems of specs/Theorem.antt: `tame_walk`, `tame_all`, `tame_pred`, `tame_preds`, `sound-walk`, `sound-each` and others.
use Rattle.std.specs.Prelude.{ℕ, suc, ◌+◌, ◌≡◌, true}
use Rattle.std.proofs.Math.Path.{refl, sym, ap, ap₂, subst}
use Rattle.std.proofs.Common.{◌∙◌}
use mathlib.Core.List.{List, [], ◌∷◌, ◌++◌}
use native.Mathlib.Omega.{arith}
use Rattle.types.specs.Ty.{Ty, pow, prod}
use Rattle.formula.specs.Environment.{holds, Env}
use Rattle.formula.specs.Tree.{Expr, free, bound, literal, atomic, extension, truth, binary, associative, unary, quantified, ascribed, explicit, Exprs, none, more, Pred, constant, variable, relational, connective, junction, negation, quantification, simple, multiple, application, Preds, end, also, decls, slots, slots_all, slots_pred, slots_preds, place}
use Rattle.unification.specs.Trees.{and_left, and_right}
use Rattle.unification.specs.Good.{Assignment}
use Rattle.typing.specs.Equations.{Form, ◌≐◌, c, d, T, R, C, Rule, read, Hold, Obeys, parts, Way, forward, backward, Many, no_rule, Every, relates, Chain, Suits, first_of, look, never_typed, never-typed_obeyed}
use Rattle.typing.specs.Rules.{atomic_rules, binary_rules, associative_rules, unary_rules, quantified_rules, extension_rule, simple_rule, under, Counts, types, Typed, TypedAll, TypedPred, TypedPreds}
use Rattle.walk.specs.Writer.{W, done, UNKNOWN, BOOLEAN, INTEGER, POWER, PRODUCT}
use Rattle.walk.specs.Scripts.{Script, three, left, only, never_items, never_script, atomic_scripts, binary_scripts, unary_scripts, quantified_scripts, relational_scripts, simple_script, Gather, all_as, linked, no_script, associative_scripts}
use Rattle.walk.specs.Walk.{Mode, loose, each, links, relation, stepped, last, gather, over, script_of, walk, walk_all, walk_pred, walk_preds}
use Rattle.walk.specs.Tables.{form, put, equations, locals, claims, outcome, rule_of, quantified-table, many_of, ref_ok, scoped, fits, quantified-fits, silent, silent_nil, gathers}
use Rattle.walk.proofs.Tables.{atomic-table, binary-table, unary-table, relational-table, associative-table, atomic-fits, binary-fits, unary-fits, relational-fits, associative-fits}
use Rattle.walk.specs.Triple.{Tame, tame_eq, tame_done, tame_enter, tame_bind, tame_node, tame_same, Sound, sound-map, sound-bind, sound-enter, sound-node, sound-same, sound-done, Complete, complete_bind, complete_enter, complete_done, complete_node, complete_same, complete_map}
use Rattle.walk.proofs.Triple.{tame_problem, sound-problem}
use Rattle.walk.specs.Pieces.{tame_name, sound-name, complete_name, tame_meets, tame_expr, tame_perform, sound-meets, Seen, seen-under, PartsRead, no_parts, one-part, two-parts, hold_more, sound-items, sound_script, complete_items, complete_script, complete_meets}
use Rattle.walk.proofs.Pieces.{tame_ascription, tame_declare, tame_counted, sound-ascription, sound-counted, sound-declare, complete_ascription, complete_counted, complete_declare}
use Rattle.walk.specs.Theorem.{never-fits, sound-expr, complete_expr}

-- ---- bookkeeping
module _ (Γ : Env) where
  tame_relation : (way : Way) (s t : ℕ) → Tame Γ 0 (relation way s t)
  unfolding relation
  tame_relation forward s t = tame_bind (tame_node PRODUCT s t) (λ x. tame_node POWER x 0)
  tame_relation backward s t = tame_bind (tame_node PRODUCT t s) (λ x. tame_node POWER x 0)

  tame_stepped : {c d : ℕ} (m : Mode) (child : W ℕ) (p : ℕ) (rest : Mode → W Mode) → Tame Γ c child → ((m : Mode) → Tame Γ d (rest m)) → Tame Γ (c + d) (stepped m child p rest)
  unfolding stepped
  tame_stepped loose child p rest t u = tame_bind t (λ x. u loose)
  tame_stepped (each y) child p rest t u = tame_eq (omega arith) (tame_bind t (λ x. tame_bind (tame_same x y p) (λ _. u (each y))))
  tame_stepped (links way s) child p rest t u =
      tame_eq (omega arith) (tame_bind (tame_node UNKNOWN 0 0) (λ z. tame_bind (tame_relation way s z) (λ y. tame_bind t (λ x. tame_bind (tame_same x y p) (λ _. u (links way z))))))

  tame_gather : {c : ℕ} (g : Gather) (rest : Mode → W Mode) → ((m : Mode) → Tame Γ c (rest m)) → Tame Γ c (gather g rest)
  unfolding gather
  tame_gather (all_as s) rest u = tame_eq (omega arith) (tame_bind (tame_perform Γ s.items s.gives (three 0 0 0) (three 0 0 0)) (λ x. tame_bind (u (each x)) (λ _. tame_done x)))
  tame_gather no_script rest u = tame_eq (omega arith) (tame_bind (u loose) (λ _. tame_perform Γ never_script.items never_script.gives (three 0 0 0) (three 0 0 0)))
  tame_gather (linked way) rest u = tame_eq (omega arith) (tame_bind (tame_node UNKNOWN 0 0) (λ s. tame_bind (u (links way s)) (λ m. tame_relation way s (last m))))

  tame_script : (s : Script) (args places : ℕ → ℕ) → Tame Γ 0 (script_of Γ s args places)
  unfolding script_of
  tame_script s args places = tame_perform Γ s.items s.gives args places

  mutual
    unfolding walk slots

    pub tame_walk : (e : Expr) (B : List ℕ) → Tame Γ (slots e) (walk Γ e B)
    tame_walk (free p x) B = tame_expr Γ p (tame_name Γ x p)
    tame_walk (bound p i) B = tame_expr Γ p (tame_counted Γ B i p)
    tame_walk (literal p) B = tame_expr Γ p (tame_node INTEGER 0 0)
    tame_walk (atomic p o) B = tame_expr Γ p (tame_script _ _ _)
    tame_walk (extension p es) B = tame_expr Γ p (tame_eq (omega arith) (tame_bind (tame_node UNKNOWN 0 0) (λ x. tame_bind (tame_all es (each x) B) (λ _. tame_node POWER x 0))))
    tame_walk (truth p q) B = tame_expr Γ p (tame_eq (omega arith) (tame_bind (tame_pred q B) (λ _. tame_node BOOLEAN 0 0)))
    tame_walk (binary p o e f) B = tame_expr Γ p (tame_eq (omega arith) (tame_bind (tame_walk e B) (λ x. tame_bind (tame_walk f B) (λ y. tame_script _ _ _))))
    tame_walk (associative p o es) B = tame_expr Γ p (tame_gather _ _ (λ m. tame_all es m B))
    tame_walk (unary p o e) B = tame_expr Γ p (tame_eq (omega arith) (tame_bind (tame_walk e B) (λ x. tame_script _ _ _)))
    tame_walk (quantified p o ds q e) B = tame_expr Γ p (tame_eq (omega arith) (tame_bind (tame_declare Γ ds) (λ xs. tame_bind (tame_pred q (over xs B)) (λ _. tame_bind (tame_walk e (over xs B)) (λ x. tame_script _ _ _)))))
    tame_walk (ascribed p e q s) B = tame_expr Γ p (tame_eq (omega arith) (tame_bind (tame_walk e B) (λ x. tame_bind (tame_ascription Γ s x q p) (λ _. tame_done x))))
    tame_walk (explicit p t e) B = tame_enter (tame_eq (omega arith) (tame_bind (tame_walk e B) (λ x. tame_bind (tame_meets Γ t x (place e)) (λ _. tame_done x))))

    pub tame_all : (es : Exprs) (m : Mode) (B : List ℕ) → Tame Γ (slots_all es) (walk_all Γ es m B)
    tame_all none m B = tame_done m
    tame_all (more e es) m B = tame_stepped m (walk Γ e B) (place e) (λ m'. walk_all Γ es m' B) (tame_walk e B) (λ m'. tame_all es m' B)

    pub tame_pred : (q : Pred) (B : List ℕ) → Tame Γ (slots_pred q) (walk_pred Γ q B)
    tame_pred (constant p) B = tame_enter (tame_done tt)
    tame_pred (variable p) B = tame_enter (tame_done tt)
    tame_pred (relational p o e f) B = tame_enter (tame_eq (omega arith) (tame_bind (tame_walk e B) (λ x. tame_bind (tame_walk f B) (λ y. tame_bind (tame_perform Γ _ _ _ _) (λ _. tame_done tt)))))
    tame_pred (connective p q s) B = tame_enter (tame_bind (tame_pred q B) (λ _. tame_pred s B))
    tame_pred (junction p qs) B = tame_enter (tame_preds qs B)
    tame_pred (negation p q) B = tame_enter (tame_pred q B)
    tame_pred (quantification p ds q) B = tame_enter (tame_bind (tame_declare Γ ds) (λ xs. tame_pred q (over xs B)))
    tame_pred (simple p e) B = tame_enter (tame_eq (omega arith) (tame_bind (tame_walk e B) (λ x. tame_bind (tame_perform Γ _ _ _ _) (λ _. tame_done tt))))
    tame_pred (multiple p es) B = tame_enter (tame_eq (omega arith) (tame_bind (tame_node UNKNOWN 0 0) (λ x. tame_bind (tame_node POWER x 0) (λ s. tame_bind (tame_all es (each s) B) (λ _. tame_done tt)))))
    tame_pred (application p es) B = tame_enter (tame_eq (omega arith) (tame_bind (tame_all es loose B) (λ _. tame_problem 5 p)))

    pub tame_preds : (qs : Preds) (B : List ℕ) → Tame Γ (slots_preds qs) (walk_preds Γ qs B)
    tame_preds end B = tame_done tt
    tame_preds (also q qs) B = tame_bind (tame_pred q B) (λ _. tame_preds qs B)

-- ---- what the comparisons ask is a typing
simple-fits : scoped 1 0 simple_script ≡ true
unfolding scoped ref_ok
simple-fits = refl

simple-table : claims simple_script ≡ simple_rule
unfolding claims equations form put first_of simple_rule
simple-table = refl

never_met : (xs : ℕ → Ty) → Obeys (rule_of never_script) xs → ⊥
unfolding rule_of claims equations outcome locals form put first_of never_script never_typed
never_met xs h = never-typed_obeyed xs h

module _ (Γ : Env) (σ : Assignment) (τ ρ : ℕ → Ty) where
  abbrev Fine : Expr → List ℕ → ℕ → Type 0
  Fine e B k = (Δ : List Ty) → Seen σ B Δ → Typed Γ τ ρ e Δ k

  abbrev FineAll : Exprs → List ℕ → ℕ → Type 0
  FineAll es B k = (Δ : List Ty) → Seen σ B Δ → TypedAll Γ τ ρ es Δ k

  abbrev FinePred : Pred → List ℕ → ℕ → Type 0
  FinePred q B k = (Δ : List Ty) → Seen σ B Δ → TypedPred Γ τ ρ q Δ k

  abbrev FinePreds : Preds → List ℕ → ℕ → Type 0
  FinePreds qs B k = (Δ : List Ty) → Seen σ B Δ → TypedPreds Γ τ ρ qs Δ k

  sound-relation : (way : Way) (s t : ℕ) → Sound σ τ ρ (relation way s t) (λ k x. σ x ≡ relates way (σ s) (σ t))
  unfolding relation relates
  sound-relation forward s t = sound-map σ τ ρ (sound-bind σ τ ρ {Γ = Γ} (tame_node PRODUCT s t) (λ x. tame_node POWER x 0) (sound-node σ τ ρ PRODUCT s t) (λ x. sound-node σ τ ρ POWER x 0)) (λ k y q. q.2 ∙ ap pow q.1)
  sound-relation backward s t = sound-map σ τ ρ (sound-bind σ τ ρ {Γ = Γ} (tame_node PRODUCT t s) (λ x. tame_node POWER x 0) (sound-node σ τ ρ PRODUCT t s) (λ x. sound-node σ τ ρ POWER x 0)) (λ k y q. q.2 ∙ ap pow q.1)

  sound_rule : (k : ℕ) (s : Script) (r : Rule) (args places : ℕ → ℕ) → fits k s ≡ true → rule_of s ≡ r → Sound σ τ ρ (script_of Γ s args places) (λ j x. (xs : ℕ → Ty) → PartsRead σ k args xs → σ x ≡ xs 0 → Obeys r xs)
  unfolding script_of
  sound_rule k s r args places ok e = sound-map σ τ ρ (sound_script σ τ ρ k s args places ok) (λ j x q xs h g. subst (λ (r : Rule). Obeys r xs) e (q xs h g))

  -- the last equation of a rule
  last-holds : (ν xs : ℕ → Ty) (es : Rule) (f : Form) → Hold ν xs (es ++ ((T ≐ f) ∷ [])) → xs 0 ≡ read ν xs f
  unfolding read
  last-holds ν xs [] f h = h.0
  last-holds ν xs ((x ≐ y) ∷ es) f h = last-holds ν xs es f h.1

  any-loose : {A : Type 0} (m : W A) → Sound σ τ ρ m (λ k u. Unit {0})
  any-loose m = record { gives = λ n k row s. tt }

  sound-gather : {c : ℕ} (g : Gather) (r : Many) (rest : Mode → W Mode) (us : ℕ → List Ty) (P : ℕ → Type 0) → gathers g ≡ true → many_of g ≡ r → ((m : Mode) → Tame Γ c (rest m))
      → ((x : ℕ) → Sound σ τ ρ (rest (each x)) (λ k m. P k × Every (σ x) (us k)))
      → ((way : Way) (s : ℕ) → Sound σ τ ρ (rest (links way s)) (λ k m. P k × Chain way (σ s) (us k) (σ (last m))))
      → Sound σ τ ρ (gather g rest) (λ k x. P k × ((t : Ty) → σ x ≡ t → Suits r (us k) t))
  unfolding gather many_of gathers rule_of parts relates
  sound-gather (all_as s) r rest us P ok e u all lk = sound-map σ τ ρ
      (sound-bind σ τ ρ (tame_perform Γ s.items s.gives (three 0 0 0) (three 0 0 0)) (λ x. tame_bind (u (each x)) (λ _. tame_done x))
      (sound_script σ τ ρ 0 s (three 0 0 0) (three 0 0 0) (and_left (fits 0 s) (silent (claims s.items)) ok))
      (λ x. sound-bind σ τ ρ (u (each x)) (λ _. tame_done x) (all x) (λ _. sound-done σ τ ρ x)))
      (λ k y q. (let z : k + 0 ≡ k = omega arith in (
        subst P z q.2.1.0,
        λ t g. subst (λ (r : Many). Suits r (us k) t) e
            (let o = q.1 (parts t t t) (no_parts σ (three 0 0 0) (parts t t t)) (ap σ (sym q.2.2) ∙ g) in
            let v = last-holds o.0 (parts t t t) (claims s.items) (outcome s) o.1 in
            (o.0, subst (λ (w : Ty). Every w (us k)) (ap σ (sym q.2.2) ∙ g ∙ v) (subst (λ (i : ℕ). Every (σ q.0) (us i)) z q.2.1.1), v)),
      )))
  sound-gather no_script r rest us P ok e u all links-of = sound-map σ τ ρ
      (sound-bind σ τ ρ (u loose) (λ _. tame_perform Γ never_script.items never_script.gives (three 0 0 0) (three 0 0 0)) (any-loose (rest loose))
      (λ _. sound_script σ τ ρ 0 never_script (three 0 0 0) (three 0 0 0) never-fits))
      (λ k y q. absurd (never_met (parts (σ y) (σ y) (σ y)) (q.2 (parts (σ y) (σ y) (σ y)) (no_parts σ (three 0 0 0) (parts (σ y) (σ y) (σ y))) refl)))
  sound-gather (linked way) r rest us P ok e u all links-of = sound-map σ τ ρ
      (sound-bind σ τ ρ (tame_node UNKNOWN 0 0) (λ s. tame_bind (u (links way s)) (λ m. tame_relation Γ way s (last m))) (sound-node σ τ ρ UNKNOWN 0 0)
      (λ s. sound-bind σ τ ρ (u (links way s)) (λ m. tame_relation Γ way s (last m)) (links-of way s) (λ m. sound-relation way s (last m))))
      (λ k y q. (let z : k + 0 ≡ k = omega arith in (
        subst P z q.2.1.0,
        λ t g. subst (λ (r : Many). Suits r (us k) t) e
            (σ q.0, σ (last q.2.0), subst (λ (i : ℕ). Chain way (σ q.0) (us i) (σ (last q.2.0))) z q.2.1.1, sym g ∙ q.2.2),
      )))

  last-link : (way : Way) (s : ℕ) (m : Mode) → m ≡ links way s → σ s ≡ σ (last m)
  unfolding last
  last-link way s m e = ap (λ (m : Mode). σ (last m)) (sym e)

  no_child : Sound σ τ ρ (done {A = Unit {0}} tt) (λ k u. Unit {0})
  no_child = record { gives = λ n k row s. tt }

  step-each : {c d : ℕ} (child : W ℕ) (p y : ℕ) (rest : Mode → W Mode) (P : ℕ → Type 0) (R : ℕ → Type 0) (us : ℕ → List Ty) → Tame Γ c child → ((m : Mode) → Tame Γ d (rest m))
      → Sound σ τ ρ child (λ k x. P k × (σ x ≡ τ k)) → Sound σ τ ρ (rest (each y)) (λ k m. R k × Every (σ y) (us k))
      → Sound σ τ ρ (stepped (each y) child p rest) (λ k m. P k × R (k + c) × (τ k ≡ σ y) × Every (σ y) (us (k + c)))
  unfolding stepped
  step-each {c = c} child p y rest P R us t u g h = sound-map σ τ ρ
      (sound-bind σ τ ρ t (λ x. tame_bind (tame_same x y p) (λ _. u (each y))) g (λ x. sound-bind σ τ ρ {Γ = Γ} (tame_same x y p) (λ _. u (each y)) (sound-same σ τ ρ x y p) (λ _. h)))
      (λ k m q. (let z : k + c + 0 ≡ k + c = omega arith in
      (q.1.0, subst R z q.2.2.0, sym q.1.1 ∙ q.2.1, subst (λ (i : ℕ). Every (σ y) (us i)) z q.2.2.1)))

  step-links : {c d : ℕ} (child : W ℕ) (p : ℕ) (way : Way) (s : ℕ) (rest : Mode → W Mode) (P : ℕ → Type 0) (R : ℕ → Type 0) (us : ℕ → List Ty) → Tame Γ c child → ((m : Mode) → Tame Γ d (rest m))
      → Sound σ τ ρ child (λ k x. P k × (σ x ≡ τ k)) → ((t : ℕ) → Sound σ τ ρ (rest (links way t)) (λ k m. R k × Chain way (σ t) (us k) (σ (last m))))
      → Sound σ τ ρ (stepped (links way s) child p rest) (λ k m. P k × R (k + c) × ((x : Ty) × (τ k ≡ relates way (σ s) x) × Chain way x (us (k + c)) (σ (last m))))
  unfolding stepped
  step-links {c = c} child p way s rest P R us t u g h = sound-map σ τ ρ
      (sound-bind σ τ ρ {Γ = Γ} (tame_node UNKNOWN 0 0) (λ v. tame_bind (tame_relation Γ way s v) (λ y. tame_bind t (λ x. tame_bind (tame_same x y p) (λ _. u (links way v))))) (sound-node σ τ ρ UNKNOWN 0 0)
      (λ v. sound-bind σ τ ρ (tame_relation Γ way s v) (λ y. tame_bind t (λ x. tame_bind (tame_same x y p) (λ _. u (links way v)))) (sound-relation way s v)
      (λ y. sound-bind σ τ ρ t (λ x. tame_bind (tame_same x y p) (λ _. u (links way v))) g
      (λ x. sound-bind σ τ ρ {Γ = Γ} (tame_same x y p) (λ _. u (links way v)) (sound-same σ τ ρ x y p) (λ _. h v)))))
      (λ k m q. (let z0 : k + 0 + 0 ≡ k = omega arith in let z : k + 0 + 0 + c + 0 ≡ k + c = omega arith in
      let w = q.2.2 in (
        subst P z0 w.1.0,
        subst R z w.2.2.0,
        (σ q.0, ap τ (sym z0) ∙ sym w.1.1 ∙ w.2.1 ∙ q.2.1, subst (λ (i : ℕ). Chain way (σ q.0) (us i) (σ (last m))) z w.2.2.1),
      )))

  mutual
    unfolding walk Typed types slots read parts extension_rule

    pub sound-walk : (e : Expr) (B : List ℕ) → Sound σ τ ρ (walk Γ e B) (λ k x. Fine e B k × (σ x ≡ τ k))
    sound-walk (free p x) B = sound-map σ τ ρ (sound-expr Γ σ τ ρ p (sound-name Γ σ τ ρ x p)) (λ k y q. (λ Δ s. sym q.1 ∙ q.0, q.1))
    sound-walk (bound p i) B = sound-map σ τ ρ (sound-expr Γ σ τ ρ p (sound-counted Γ σ τ ρ B i p)) (λ k y q. (λ Δ s. subst (λ (t : Ty). Counts Γ τ ρ Δ i t) q.1 (q.0 Δ s), q.1))
    sound-walk (literal p) B = sound-map σ τ ρ (sound-expr Γ σ τ ρ p (sound-node σ τ ρ INTEGER 0 0)) (λ k y q. (λ Δ s. sym q.1 ∙ q.0, q.1))
    sound-walk (atomic p o) B = sound-map σ τ ρ (sound-expr Γ σ τ ρ p (sound_rule 0 (look atomic_scripts never_script o) (look atomic_rules never_typed o) (three 0 0 0) (three p p p) (atomic-fits o) (atomic-table o)))
        (λ k y q. (λ Δ s. q.0 (parts (τ k) (τ k) (τ k)) (no_parts σ _ _) q.1, q.1))
    sound-walk (extension p es) B = sound-map σ τ ρ (sound-expr Γ σ τ ρ p
        (sound-bind σ τ ρ {Γ = Γ} (tame_node UNKNOWN 0 0) (λ x. tame_bind (tame_all Γ es (each x) B) (λ _. tame_node POWER x 0)) (sound-node σ τ ρ UNKNOWN 0 0)
        (λ x. sound-bind σ τ ρ (tame_all Γ es (each x) B) (λ _. tame_node POWER x 0) (sound-each es x B) (λ _. sound-node σ τ ρ POWER x 0))))
        (λ k y q. (let z : suc k + 0 ≡ suc k = omega arith in (
          λ Δ s. (
            subst (λ (i : ℕ). TypedAll Γ τ ρ es Δ i) z (q.0.2.1.0 Δ s),
            (λ i. σ q.0.0, subst (λ (i : ℕ). Every (σ q.0.0) (types Γ τ ρ es i)) z q.0.2.1.1, sym q.1 ∙ q.0.2.2),
          ),
          q.1,
        )))
    sound-walk (truth p c) B = sound-map σ τ ρ (sound-expr Γ σ τ ρ p (sound-bind σ τ ρ (tame_pred Γ c B) (λ _. tame_node BOOLEAN 0 0) (sound_pred c B) (λ _. sound-node σ τ ρ BOOLEAN 0 0)))
        (λ k y q. (λ Δ s. (q.0.1 Δ s, sym q.1 ∙ q.0.2), q.1))
    sound-walk (binary p o e f) B = sound-map σ τ ρ (sound-expr Γ σ τ ρ p
        (sound-bind σ τ ρ (tame_walk Γ e B) (λ x. tame_bind (tame_walk Γ f B) (λ y. tame_script Γ _ _ _)) (sound-walk e B)
        (λ x. sound-bind σ τ ρ (tame_walk Γ f B) (λ y. tame_script Γ _ _ _) (sound-walk f B)
        (λ y. sound_rule 2 (look binary_scripts never_script o) (look binary_rules never_typed o) (three 0 x y) (three p (place e) (place f)) (binary-fits o) (binary-table o)))))
        (λ k z q. (let x = q.0.0 in let y = q.0.2.0 in (
          λ Δ s. (
            q.0.1.0 Δ s,
            q.0.2.1.0 Δ s,
            q.0.2.2 (parts (τ k) (τ (suc k)) (τ (suc k + slots e))) (two-parts σ 0 x y (τ k) (τ (suc k)) (τ (suc k + slots e)) q.0.1.1 q.0.2.1.1) q.1,
          ),
          q.1,
        )))
    sound-walk (associative p o es) B = sound-map σ τ ρ (sound-expr Γ σ τ ρ p
        (sound-gather (look associative_scripts no_script o) (look associative_rules no_rule o) (λ m. walk_all Γ es m B) (λ k. types Γ τ ρ es k) (λ k. FineAll es B k) (associative-fits o) (associative-table o)
        (λ m. tame_all Γ es m B) (λ x. sound-each es x B) (λ way s. sound-links es way s B)))
        (λ k z q. (λ Δ s. (q.0.0 Δ s, q.0.1 (τ k) q.1), q.1))
    sound-walk (unary p o e) B = sound-map σ τ ρ (sound-expr Γ σ τ ρ p
        (sound-bind σ τ ρ (tame_walk Γ e B) (λ x. tame_script Γ _ _ _) (sound-walk e B)
        (λ x. sound_rule 1 (look unary_scripts never_script o) (look unary_rules never_typed o) (three 0 x 0) (three p (place e) 0) (unary-fits o) (unary-table o))))
        (λ k z q. (λ Δ s. (q.0.1.0 Δ s, q.0.2 (parts (τ k) (τ (suc k)) (τ (suc k))) (one-part σ 0 q.0.0 0 (τ k) (τ (suc k)) (τ (suc k)) q.0.1.1) q.1), q.1))
    sound-walk (quantified p o ds c e) B = sound-map σ τ ρ (sound-expr Γ σ τ ρ p
        (sound-bind σ τ ρ (tame_declare Γ ds) (λ xs. tame_bind (tame_pred Γ c (over xs B)) (λ _. tame_bind (tame_walk Γ e (over xs B)) (λ x. tame_script Γ _ _ _))) (sound-declare Γ σ τ ρ ds)
        (λ xs. sound-bind σ τ ρ (tame_pred Γ c (over xs B)) (λ _. tame_bind (tame_walk Γ e (over xs B)) (λ x. tame_script Γ _ _ _)) (sound_pred c (over xs B))
        (λ _. sound-bind σ τ ρ (tame_walk Γ e (over xs B)) (λ x. tame_script Γ _ _ _) (sound-walk e (over xs B))
        (λ x. sound_rule 1 (look quantified_scripts never_script o) (look quantified_rules never_typed o) (three 0 x 0) (three p (place e) 0) (quantified-fits o) (quantified-table o))))))
        (λ k z q. (let w = q.0.2.2 in (
          λ Δ s. (let v = seen-under Γ τ ρ σ ds (suc k) q.0.0 B Δ q.0.1.1 s in (
            q.0.1.0,
            q.0.2.1 (under Γ τ ρ ds (suc k) Δ) v,
            w.1.0 (under Γ τ ρ ds (suc k) Δ) v,
            w.2 (parts (τ k) (τ (suc k + decls ds + slots_pred c)) (τ k)) (one-part σ 0 w.0 0 (τ k) (τ (suc k + decls ds + slots_pred c)) (τ k) w.1.1) q.1,
          )),
          q.1,
        )))
    sound-walk (ascribed p e r t) B = sound-map σ τ ρ (sound-expr Γ σ τ ρ p
        (sound-bind σ τ ρ (tame_walk Γ e B) (λ x. tame_bind (tame_ascription Γ t x r p) (λ _. tame_done x)) (sound-walk e B)
        (λ x. sound-bind σ τ ρ (tame_ascription Γ t x r p) (λ _. tame_done x) (sound-ascription Γ σ τ ρ t x r p) (λ _. sound-done σ τ ρ x))))
        (λ k y q. (λ Δ s. (q.0.1.0 Δ s, sym q.1 ∙ ap σ q.0.2.2 ∙ q.0.1.1, q.0.2.1 (suc k) q.0.1.1), q.1))
    sound-walk (explicit p t e) B = sound-map σ τ ρ (sound-enter σ τ ρ
        (sound-bind σ τ ρ (tame_walk Γ e B) (λ x. tame_bind (tame_meets Γ t x (place e)) (λ _. tame_done x)) (sound-walk e B)
        (λ x. sound-bind σ τ ρ (tame_meets Γ t x (place e)) (λ _. tame_done x) (sound-meets Γ σ τ ρ t x (place e)) (λ _. sound-done σ τ ρ x))))
        (λ k y q. (λ Δ s. (q.1.0 Δ s, sym q.1.1 ∙ q.2.1), ap σ q.2.2 ∙ q.1.1))

    pub sound-each : (es : Exprs) (x : ℕ) (B : List ℕ) → Sound σ τ ρ (walk_all Γ es (each x) B) (λ k m. FineAll es B k × Every (σ x) (types Γ τ ρ es k))
    sound-each none x B = sound-map σ τ ρ (sound-done σ τ ρ (each x)) (λ k m q. (λ Δ s. tt, tt))
    sound-each (more e es) x B = sound-map σ τ ρ
        (step-each (walk Γ e B) (place e) x (λ m. walk_all Γ es m B) (Fine e B) (FineAll es B) (λ k. types Γ τ ρ es k) (tame_walk Γ e B) (λ m. tame_all Γ es m B) (sound-walk e B) (sound-each es x B))
        (λ k m q. (λ Δ s. (q.0 Δ s, q.1 Δ s), (q.2, q.3)))

    pub sound-links : (es : Exprs) (way : Way) (s : ℕ) (B : List ℕ) → Sound σ τ ρ (walk_all Γ es (links way s) B) (λ k m. FineAll es B k × Chain way (σ s) (types Γ τ ρ es k) (σ (last m)))
    sound-links none way s B = sound-map σ τ ρ (sound-done σ τ ρ (links way s)) (λ k m q. (λ Δ h. tt, last-link way s m q))
    sound-links (more e es) way s B = sound-map σ τ ρ
        (step-links (walk Γ e B) (place e) way s (λ m. walk_all Γ es m B) (Fine e B) (FineAll es B) (λ k. types Γ τ ρ es k) (tame_walk Γ e B) (λ m. tame_all Γ es m B) (sound-walk e B) (λ t. sound-links es way t B))
        (λ k m q. (λ Δ h. (q.0 Δ h, q.1 Δ h), q.2))

    pub sound_pred : (c : Pred) (B : List ℕ) → Sound σ τ ρ (walk_pred Γ c B) (λ k u. FinePred c B k)
    sound_pred (constant p) B = sound-map σ τ ρ (any-loose (walk_pred Γ (constant p) B)) (λ k u q Δ s. tt)
    sound_pred (variable p) B = sound-map σ τ ρ (any-loose (walk_pred Γ (variable p) B)) (λ k u q Δ s. tt)
    sound_pred (relational p o e f) B = sound-map σ τ ρ (sound-enter σ τ ρ
        (sound-bind σ τ ρ (tame_walk Γ e B) (λ x. tame_bind (tame_walk Γ f B) (λ y. tame_bind (tame_perform Γ _ _ _ _) (λ _. tame_done tt))) (sound-walk e B)
        (λ x. sound-bind σ τ ρ (tame_walk Γ f B) (λ y. tame_bind (tame_perform Γ _ _ _ _) (λ _. tame_done tt)) (sound-walk f B)
        (λ y. sound-bind σ τ ρ (tame_perform Γ _ _ _ _) (λ _. tame_done tt) (sound-items σ τ ρ 2 (look relational_scripts never_items o) left (three 0 x y) (three p (place e) (place f)) (relational-fits o)) (λ _. no_child)))))
        (λ k u q Δ s. (
          q.1.0 Δ s,
          q.2.1.0 Δ s,
          subst (λ (r : Rule). Obeys r (parts (τ k) (τ k) (τ (k + slots e)))) (relational-table o)
              (q.2.2.1 (parts (τ k) (τ k) (τ (k + slots e))) (two-parts σ 0 q.0 q.2.0 (τ k) (τ k) (τ (k + slots e)) q.1.1 q.2.1.1)),
        ))
    sound_pred (connective p c d) B = sound-map σ τ ρ (sound-enter σ τ ρ (sound-bind σ τ ρ (tame_pred Γ c B) (λ _. tame_pred Γ d B) (sound_pred c B) (λ _. sound_pred d B))) (λ k u q Δ s. (q.1 Δ s, q.2 Δ s))
    sound_pred (junction p cs) B = sound-map σ τ ρ (sound-enter σ τ ρ (sound-preds cs B)) (λ k u q Δ s. q Δ s)
    sound_pred (negation p c) B = sound-map σ τ ρ (sound-enter σ τ ρ (sound_pred c B)) (λ k u q Δ s. q Δ s)
    sound_pred (quantification p ds c) B = sound-map σ τ ρ (sound-enter σ τ ρ (sound-bind σ τ ρ (tame_declare Γ ds) (λ xs. tame_pred Γ c (over xs B)) (sound-declare Γ σ τ ρ ds) (λ xs. sound_pred c (over xs B))))
        (λ k u q Δ s. (q.1.0, q.2 (under Γ τ ρ ds k Δ) (seen-under Γ τ ρ σ ds k q.0 B Δ q.1.1 s)))
    sound_pred (simple p e) B = sound-map σ τ ρ (sound-enter σ τ ρ
        (sound-bind σ τ ρ (tame_walk Γ e B) (λ x. tame_bind (tame_perform Γ _ _ _ _) (λ _. tame_done tt)) (sound-walk e B)
        (λ x. sound-bind σ τ ρ (tame_perform Γ _ _ _ _) (λ _. tame_done tt) (sound-items σ τ ρ 1 simple_script only (three 0 x 0) (three p (place e) 0) simple-fits) (λ _. no_child))))
        (λ k u q Δ s. (q.1.0 Δ s, subst (λ (r : Rule). Obeys r (parts (τ k) (τ k) (τ k))) simple-table (q.2.1 (parts (τ k) (τ k) (τ k)) (one-part σ 0 q.0 0 (τ k) (τ k) (τ k) q.1.1))))
    sound_pred (multiple p es) B = sound-map σ τ ρ (sound-enter σ τ ρ
        (sound-bind σ τ ρ {Γ = Γ} (tame_node UNKNOWN 0 0) (λ x. tame_bind (tame_node POWER x 0) (λ s. tame_bind (tame_all Γ es (each s) B) (λ _. tame_done tt))) (sound-node σ τ ρ UNKNOWN 0 0)
        (λ x. sound-bind σ τ ρ {Γ = Γ} (tame_node POWER x 0) (λ s. tame_bind (tame_all Γ es (each s) B) (λ _. tame_done tt)) (sound-node σ τ ρ POWER x 0)
        (λ s. sound-bind σ τ ρ (tame_all Γ es (each s) B) (λ _. tame_done tt) (sound-each es s B) (λ _. no_child)))))
        (λ k u q Δ s. (let z : k + 0 + 0 ≡ k = omega arith in (
          subst (λ (i : ℕ). TypedAll Γ τ ρ es Δ i) z (q.2.2.1.0 Δ s),
          (σ q.0, subst (λ (t : Ty). Every t (types Γ τ ρ es k)) q.2.1 (subst (λ (i : ℕ). Every (σ q.2.0) (types Γ τ ρ es i)) z q.2.2.1.1)),
        )))
    sound_pred (application p es) B = sound-map σ τ ρ (sound-enter σ τ ρ (sound-bind σ τ ρ (tame_all Γ es loose B) (λ _. tame_problem 5 p) (any-loose (walk_all Γ es loose B)) (λ _. sound-problem σ τ ρ 5 p))) (λ k u q Δ s. q.2)

    pub sound-preds : (cs : Preds) (B : List ℕ) → Sound σ τ ρ (walk_preds Γ cs B) (λ k u. FinePreds cs B k)
    sound-preds end B = sound-map σ τ ρ no_child (λ k u q Δ s. tt)
    sound-preds (also c cs) B = sound-map σ τ ρ (sound-bind σ τ ρ (tame_pred Γ c B) (λ _. tame_preds Γ cs B) (sound_pred c B) (λ _. sound-preds cs B)) (λ k u q Δ s. (q.1 Δ s, q.2 Δ s))

-- ---- every typing is met
module _ (Γ : Env) (τ ρ : ℕ → Ty) (agrees : (x : ℕ) (t : Ty) → Γ x ≡ holds t → ρ x ≡ t) where
  complete_relation : {k : ℕ} {C : Assignment → Type 0} (way : Way) (s t : ℕ) (u v : Ty) → ((σ : Assignment) → C σ → σ s ≡ u) → ((σ : Assignment) → C σ → σ t ≡ v) → Complete τ ρ k (relation way s t) C (λ σ x. σ x ≡ relates way u v)
  unfolding relation relates
  complete_relation forward s t u v h g = complete_bind τ ρ {Γ = Γ} (tame_node PRODUCT s t) (complete_node τ ρ PRODUCT s t (prod u v) (λ σ n c e. e ∙ ap₂ prod (sym (h σ c)) (sym (g σ c)))) (λ x. complete_node τ ρ POWER x 0 (pow (prod u v)) (λ σ n c e. e ∙ ap pow (sym c.1)))
  complete_relation backward s t u v h g = complete_bind τ ρ {Γ = Γ} (tame_node PRODUCT t s) (complete_node τ ρ PRODUCT t s (prod v u) (λ σ n c e. e ∙ ap₂ prod (sym (g σ c)) (sym (h σ c)))) (λ x. complete_node τ ρ POWER x 0 (pow (prod v u)) (λ σ n c e. e ∙ ap pow (sym c.1)))

  complete_rule : {j : ℕ} {C : Assignment → Type 0} (k : ℕ) (s : Script) (r : Rule) (args places : ℕ → ℕ) (xs : ℕ → Ty) → fits k s ≡ true → rule_of s ≡ r → ((σ : Assignment) → C σ → PartsRead σ k args xs) → Obeys r xs
      → Complete τ ρ j (script_of Γ s args places) C (λ σ x. σ x ≡ xs 0)
  unfolding script_of
  complete_rule k s r args places xs ok e h o = complete_script τ ρ k s args places xs ok h (subst (λ (r : Rule). Obeys r xs) (sym e) o)

  complete_gather : {c : ℕ} (g : Gather) (r : Many) (rest : Mode → W Mode) (us : List Ty) (t : Ty) (k : ℕ) (C : Assignment → Type 0) → gathers g ≡ true → many_of g ≡ r → ((m : Mode) → Tame Γ c (rest m)) → Suits r us t
      → ((D : Assignment → Type 0) (x : ℕ) (u : Ty) → ((σ : Assignment) → D σ → C σ) → Every u us → ((σ : Assignment) → D σ → σ x ≡ u) → Complete τ ρ (k + 0) (rest (each x)) D (λ σ m. Unit {0}))
      → ((D : Assignment → Type 0) (way : Way) (s : ℕ) (u v : Ty) → ((σ : Assignment) → D σ → C σ) → Chain way u us v → ((σ : Assignment) → D σ → σ s ≡ u) → Complete τ ρ (k + 0) (rest (links way s)) D (λ σ m. σ (last m) ≡ v))
      → Complete τ ρ k (gather g rest) C (λ σ x. σ x ≡ t)
  unfolding gather many_of gathers rule_of parts read
  complete_gather (all_as s) r rest us t k C ok e u w all lk =
      let v = subst (λ (r : Many). Suits r us t) (sym e) w in
      let quiet : claims s.items ≡ [] = silent_nil (claims s.items) (and_right (fits 0 s) (silent (claims s.items)) ok) in
      complete_bind τ ρ (tame_perform Γ s.items s.gives (three 0 0 0) (three 0 0 0))
      (complete_script τ ρ 0 s (three 0 0 0) (three 0 0 0) (parts t t t) (and_left (fits 0 s) (silent (claims s.items)) ok) (λ σ c. no_parts σ (three 0 0 0) (parts t t t))
      (v.0, hold_more v.0 (parts t t t) (claims s.items) ((T ≐ outcome s) ∷ []) (subst (λ (es : Rule). Hold v.0 (parts t t t) es) (sym quiet) tt) (v.2, tt)))
      (λ x. complete_bind τ ρ (u (each x)) (all _ x t (λ σ c. c.0) (subst (λ (z : Ty). Every z us) (sym v.2) v.1) (λ σ c. c.1)) (λ _. complete_done τ ρ x (λ σ c. c.0.1)))
  complete_gather no_script r rest us t k C ok e u w all lk = absurd (subst (λ (r : Many). Suits r us t) (sym e) w)
  complete_gather (linked way) r rest us t k C ok e u w all lk =
      let v = subst (λ (r : Many). Suits r us t) (sym e) w in
      complete_bind τ ρ {Γ = Γ} (tame_node UNKNOWN 0 0) (complete_node τ ρ UNKNOWN 0 0 v.0 (λ σ n c e. tt))
      (λ s. complete_bind τ ρ (u (links way s)) (lk _ way s v.0 v.1 (λ σ c. c.0) v.2 (λ σ c. c.1))
      (λ m. complete_map τ ρ (λ σ c. c) (λ σ x c e. e ∙ sym v.3) (complete_relation way s (last m) v.0 v.1 (λ σ c. c.0.1) (λ σ c. c.1))))

  last_of : (σ : Assignment) (way : Way) (s : ℕ) → σ (last (links way s)) ≡ σ s
  unfolding last
  last_of σ way s = refl

  step-each-met : {c : ℕ} (child : W ℕ) (p y : ℕ) (t : Ty) (k : ℕ) (rest : Mode → W Mode) (C : Assignment → Type 0) → Tame Γ c child → Complete τ ρ k child C (λ σ x. σ x ≡ τ k) → τ k ≡ t → ((σ : Assignment) → C σ → σ y ≡ t)
      → ((D : Assignment → Type 0) → ((σ : Assignment) → D σ → C σ) → Complete τ ρ (k + c + 0) (rest (each y)) D (λ σ m. Unit {0}))
      → Complete τ ρ k (stepped (each y) child p rest) C (λ σ m. Unit {0})
  unfolding stepped
  step-each-met child p y t k rest C u w e g r =
      complete_bind τ ρ u w (λ x. complete_bind τ ρ {Γ = Γ} (tame_same x y p) (complete_same τ ρ x y p (λ σ c. c.1 ∙ e ∙ sym (g σ c.0))) (λ _. r _ (λ σ c. c.0.0)))

  step-links-met : {c : ℕ} (child : W ℕ) (p : ℕ) (way : Way) (s : ℕ) (u v t : Ty) (k : ℕ) (rest : Mode → W Mode) (C : Assignment → Type 0) → Tame Γ c child
      → ((D : Assignment → Type 0) → ((σ : Assignment) → D σ → C σ) → Complete τ ρ (k + 0 + 0) child D (λ σ x. σ x ≡ τ (k + 0 + 0))) → τ k ≡ relates way u v → ((σ : Assignment) → C σ → σ s ≡ u)
      → ((D : Assignment → Type 0) (x : ℕ) → ((σ : Assignment) → D σ → C σ) → ((σ : Assignment) → D σ → σ x ≡ v) → Complete τ ρ (k + 0 + 0 + c + 0) (rest (links way x)) D (λ σ m. σ (last m) ≡ t))
      → Complete τ ρ k (stepped (links way s) child p rest) C (λ σ m. σ (last m) ≡ t)
  unfolding stepped
  step-links-met child p way s u v t k rest C tm w e g r =
      let z : k + 0 + 0 ≡ k = omega arith in
      complete_bind τ ρ {Γ = Γ} (tame_node UNKNOWN 0 0) (complete_node τ ρ UNKNOWN 0 0 v (λ σ n c e. tt))
      (λ x. complete_bind τ ρ (tame_relation Γ way s x) (complete_relation way s x u v (λ σ c. g σ c.0) (λ σ c. c.1))
      (λ y. complete_bind τ ρ tm (w _ (λ σ c. c.0.0))
      (λ d. complete_bind τ ρ {Γ = Γ} (tame_same d y p) (complete_same τ ρ d y p (λ σ c. c.1 ∙ ap τ z ∙ e ∙ sym c.0.1))
      (λ _. r _ x (λ σ c. c.0.0.0.0) (λ σ c. c.0.0.0.1)))))

  mutual
    unfolding walk Typed types slots read parts extension_rule

    pub complete_walk : (e : Expr) (C : Assignment → Type 0) (B : List ℕ) (Δ : List Ty) (k : ℕ) → Typed Γ τ ρ e Δ k → ((σ : Assignment) → C σ → Seen σ B Δ) → Complete τ ρ k (walk Γ e B) C (λ σ x. σ x ≡ τ k)
    complete_walk (free p x) C B Δ k w h = complete_expr Γ τ ρ agrees p (complete_map τ ρ (λ σ c. c) (λ σ y c e. e ∙ sym w) (complete_name Γ τ ρ agrees {C = C} x p))
    complete_walk (bound p i) C B Δ k w h = complete_expr Γ τ ρ agrees p (complete_counted Γ τ ρ agrees B Δ i p (τ k) w h)
    complete_walk (literal p) C B Δ k w h = complete_expr Γ τ ρ agrees p (complete_node τ ρ INTEGER 0 0 (τ k) (λ σ n c e. e ∙ w))
    complete_walk (atomic p o) C B Δ k w h = complete_expr Γ τ ρ agrees p (complete_rule 0 (look atomic_scripts never_script o) (look atomic_rules never_typed o) (three 0 0 0) (three p p p) (parts (τ k) (τ k) (τ k)) (atomic-fits o) (atomic-table o) (λ σ c. no_parts σ _ _) w)
    complete_walk (extension p es) C B Δ k w h = complete_expr Γ τ ρ agrees p (let z : suc k ≡ suc k + 0 = omega arith in
        complete_bind τ ρ {Γ = Γ} (tame_node UNKNOWN 0 0) (complete_node τ ρ UNKNOWN 0 0 (w.1.0 0) (λ σ n c e. tt))
        (λ x. complete_bind τ ρ (tame_all Γ es (each x) B)
        (complete_each es _ B Δ (suc k + 0) x (w.1.0 0) (subst (λ (i : ℕ). TypedAll Γ τ ρ es Δ i) z w.0) (subst (λ (i : ℕ). Every (w.1.0 0) (types Γ τ ρ es i)) z w.1.1) (λ σ c. h σ c.0) (λ σ c. c.1))
        (λ _. complete_node τ ρ POWER x 0 (τ k) (λ σ n c e. e ∙ w.1.2 ∙ ap pow (sym c.0.1)))))
    complete_walk (truth p q) C B Δ k w h = complete_expr Γ τ ρ agrees p (complete_bind τ ρ (tame_pred Γ q B) (complete_pred q C B Δ (suc k) w.0 h) (λ _. complete_node τ ρ BOOLEAN 0 0 (τ k) (λ σ n c e. e ∙ w.1)))
    complete_walk (binary p o e f) C B Δ k w h = complete_expr Γ τ ρ agrees p
        (complete_bind τ ρ (tame_walk Γ e B) (complete_walk e C B Δ (suc k) w.0 h)
        (λ x. complete_bind τ ρ (tame_walk Γ f B) (complete_walk f _ B Δ (suc k + slots e) w.1 (λ σ c. h σ c.0))
        (λ y. complete_rule 2 (look binary_scripts never_script o) (look binary_rules never_typed o) (three 0 x y) (three p (place e) (place f)) (parts (τ k) (τ (suc k)) (τ (suc k + slots e))) (binary-fits o) (binary-table o)
        (λ σ c. two-parts σ 0 x y (τ k) (τ (suc k)) (τ (suc k + slots e)) c.0.1 c.1) w.2)))
    complete_walk (associative p o es) C B Δ k w h = complete_expr Γ τ ρ agrees p (let z : suc k ≡ suc k + 0 = omega arith in
        complete_gather (look associative_scripts no_script o) (look associative_rules no_rule o) (λ m. walk_all Γ es m B) (types Γ τ ρ es (suc k)) (τ k) (suc k) C (associative-fits o) (associative-table o) (λ m. tame_all Γ es m B) w.1
        (λ D x u i v g. complete_each es D B Δ (suc k + 0) x u (subst (λ (i : ℕ). TypedAll Γ τ ρ es Δ i) z w.0) (subst (λ (i : ℕ). Every u (types Γ τ ρ es i)) z v) (λ σ c. h σ (i σ c)) g)
        (λ D way s u t i v g. complete_links es D B Δ (suc k + 0) way s u t (subst (λ (i : ℕ). TypedAll Γ τ ρ es Δ i) z w.0) (subst (λ (i : ℕ). Chain way u (types Γ τ ρ es i) t) z v) (λ σ c. h σ (i σ c)) g))
    complete_walk (unary p o e) C B Δ k w h = complete_expr Γ τ ρ agrees p
        (complete_bind τ ρ (tame_walk Γ e B) (complete_walk e C B Δ (suc k) w.0 h)
        (λ x. complete_rule 1 (look unary_scripts never_script o) (look unary_rules never_typed o) (three 0 x 0) (three p (place e) 0) (parts (τ k) (τ (suc k)) (τ (suc k))) (unary-fits o) (unary-table o)
        (λ σ c. one-part σ 0 x 0 (τ k) (τ (suc k)) (τ (suc k)) c.1) w.1))
    complete_walk (quantified p o ds q e) C B Δ k w h = complete_expr Γ τ ρ agrees p
        (complete_bind τ ρ (tame_declare Γ ds) (complete_declare Γ τ ρ agrees ds w.0)
        (λ xs. complete_bind τ ρ (tame_pred Γ q (over xs B)) (complete_pred q _ (over xs B) (under Γ τ ρ ds (suc k) Δ) (suc k + decls ds) w.1 (λ σ c. seen-under Γ τ ρ σ ds (suc k) xs B Δ c.1 (h σ c.0)))
        (λ _. complete_bind τ ρ (tame_walk Γ e (over xs B)) (complete_walk e _ (over xs B) (under Γ τ ρ ds (suc k) Δ) (suc k + decls ds + slots_pred q) w.2 (λ σ c. seen-under Γ τ ρ σ ds (suc k) xs B Δ c.0.1 (h σ c.0.0)))
        (λ x. complete_rule 1 (look quantified_scripts never_script o) (look quantified_rules never_typed o) (three 0 x 0) (three p (place e) 0) (parts (τ k) (τ (suc k + decls ds + slots_pred q)) (τ k)) (quantified-fits o) (quantified-table o)
        (λ σ c. one-part σ 0 x 0 (τ k) (τ (suc k + decls ds + slots_pred q)) (τ k) c.1) w.3))))
    complete_walk (ascribed p e r s) C B Δ k w h = complete_expr Γ τ ρ agrees p
        (complete_bind τ ρ (tame_walk Γ e B) (complete_walk e C B Δ (suc k) w.0 h)
        (λ x. complete_bind τ ρ (tame_ascription Γ s x r p) (complete_ascription Γ τ ρ agrees s x r p (suc k) w.2 (λ σ c. c.1)) (λ _. complete_done τ ρ x (λ σ c. c.0.1 ∙ sym w.1))))
    complete_walk (explicit p t e) C B Δ k w h = complete_enter τ ρ
        (complete_bind τ ρ (tame_walk Γ e B) (complete_walk e C B Δ k w.0 h)
        (λ x. complete_bind τ ρ (tame_meets Γ t x (place e)) (complete_meets Γ τ ρ agrees t x (place e) (λ σ c. c.1 ∙ w.1)) (λ _. complete_done τ ρ x (λ σ c. c.0.1))))

    pub complete_each : (es : Exprs) (C : Assignment → Type 0) (B : List ℕ) (Δ : List Ty) (k : ℕ) (y : ℕ) (t : Ty) → TypedAll Γ τ ρ es Δ k → Every t (types Γ τ ρ es k) → ((σ : Assignment) → C σ → Seen σ B Δ) → ((σ : Assignment) → C σ → σ y ≡ t)
        → Complete τ ρ k (walk_all Γ es (each y) B) C (λ σ m. Unit {0})
    complete_each none C B Δ k y t w v h g = complete_done τ ρ (each y) (λ σ c. tt)
    complete_each (more e es) C B Δ k y t w v h g = step-each-met (walk Γ e B) (place e) y t k (λ m. walk_all Γ es m B) C (tame_walk Γ e B) (complete_walk e C B Δ k w.0 h) v.0 g
        (λ D i. (let z : k + slots e ≡ k + slots e + 0 = omega arith in
        complete_each es D B Δ (k + slots e + 0) y t (subst (λ (i : ℕ). TypedAll Γ τ ρ es Δ i) z w.1) (subst (λ (i : ℕ). Every t (types Γ τ ρ es i)) z v.1) (λ σ c. h σ (i σ c)) (λ σ c. g σ (i σ c))))

    pub complete_links : (es : Exprs) (C : Assignment → Type 0) (B : List ℕ) (Δ : List Ty) (k : ℕ) (way : Way) (s : ℕ) (u t : Ty) → TypedAll Γ τ ρ es Δ k → Chain way u (types Γ τ ρ es k) t → ((σ : Assignment) → C σ → Seen σ B Δ) → ((σ : Assignment) → C σ → σ s ≡ u)
        → Complete τ ρ k (walk_all Γ es (links way s) B) C (λ σ m. σ (last m) ≡ t)
    complete_links none C B Δ k way s u t w v h g = complete_done τ ρ (links way s) (λ σ c. last_of σ way s ∙ g σ c ∙ v)
    complete_links (more e es) C B Δ k way s u t w v h g = step-links-met (walk Γ e B) (place e) way s u v.0 t k (λ m. walk_all Γ es m B) C (tame_walk Γ e B)
        (λ D i. (let z : k ≡ k + 0 + 0 = omega arith in complete_walk e D B Δ (k + 0 + 0) (subst (λ (i : ℕ). Typed Γ τ ρ e Δ i) z w.0) (λ σ c. h σ (i σ c)))) v.1 g
        (λ D x i j. (let z : k + slots e ≡ k + 0 + 0 + slots e + 0 = omega arith in
        complete_links es D B Δ (k + 0 + 0 + slots e + 0) way x v.0 t (subst (λ (i : ℕ). TypedAll Γ τ ρ es Δ i) z w.1) (subst (λ (i : ℕ). Chain way v.0 (types Γ τ ρ es i) t) z v.2) (λ σ c. h σ (i σ c)) j))

    pub complete_pred : (q : Pred) (C : Assignment → Type 0) (B : List ℕ) (Δ : List Ty) (k : ℕ) → TypedPred Γ τ ρ q Δ k → ((σ : Assignment) → C σ → Seen σ B Δ) → Complete τ ρ k (walk_pred Γ q B) C (λ σ u. Unit {0})
    complete_pred (constant p) C B Δ k w h = complete_enter τ ρ (complete_done τ ρ tt (λ σ c. tt))
    complete_pred (variable p) C B Δ k w h = complete_enter τ ρ (complete_done τ ρ tt (λ σ c. tt))
    complete_pred (relational p o e f) C B Δ k w h = complete_enter τ ρ
        (complete_bind τ ρ (tame_walk Γ e B) (complete_walk e C B Δ k w.0 h)
        (λ x. complete_bind τ ρ (tame_walk Γ f B) (complete_walk f _ B Δ (k + slots e) w.1 (λ σ c. h σ c.0))
        (λ y. complete_bind τ ρ (tame_perform Γ _ _ _ _) (complete_items τ ρ 2 (look relational_scripts never_items o) left (three 0 x y) (three p (place e) (place f)) (parts (τ k) (τ k) (τ (k + slots e))) (relational-fits o)
        (λ σ c. two-parts σ 0 x y (τ k) (τ k) (τ (k + slots e)) c.0.1 c.1) (subst (λ (r : Rule). Obeys r (parts (τ k) (τ k) (τ (k + slots e)))) (sym (relational-table o)) w.2))
        (λ _. complete_done τ ρ tt (λ σ c. tt)))))
    complete_pred (connective p q s) C B Δ k w h = complete_enter τ ρ (complete_bind τ ρ (tame_pred Γ q B) (complete_pred q C B Δ k w.0 h) (λ _. complete_pred s _ B Δ (k + slots_pred q) w.1 (λ σ c. h σ c.0)))
    complete_pred (junction p qs) C B Δ k w h = complete_enter τ ρ (complete_preds qs C B Δ k w h)
    complete_pred (negation p q) C B Δ k w h = complete_enter τ ρ (complete_pred q C B Δ k w h)
    complete_pred (quantification p ds q) C B Δ k w h = complete_enter τ ρ
        (complete_bind τ ρ (tame_declare Γ ds) (complete_declare Γ τ ρ agrees ds w.0) (λ xs. complete_pred q _ (over xs B) (under Γ τ ρ ds k Δ) (k + decls ds) w.1 (λ σ c. seen-under Γ τ ρ σ ds k xs B Δ c.1 (h σ c.0))))
    complete_pred (simple p e) C B Δ k w h = complete_enter τ ρ
        (complete_bind τ ρ (tame_walk Γ e B) (complete_walk e C B Δ k w.0 h)
        (λ x. complete_bind τ ρ (tame_perform Γ _ _ _ _) (complete_items τ ρ 1 simple_script only (three 0 x 0) (three p (place e) 0) (parts (τ k) (τ k) (τ k)) simple-fits
        (λ σ c. one-part σ 0 x 0 (τ k) (τ k) (τ k) c.1) (subst (λ (r : Rule). Obeys r (parts (τ k) (τ k) (τ k))) (sym simple-table) w.1))
        (λ _. complete_done τ ρ tt (λ σ c. tt))))
    complete_pred (multiple p es) C B Δ k w h = complete_enter τ ρ (let z : k ≡ k + 0 + 0 = omega arith in
        complete_bind τ ρ {Γ = Γ} (tame_node UNKNOWN 0 0) (complete_node τ ρ UNKNOWN 0 0 w.1.0 (λ σ n c e. tt))
        (λ x. complete_bind τ ρ {Γ = Γ} (tame_node POWER x 0) (complete_node τ ρ POWER x 0 (pow w.1.0) (λ σ n c e. e ∙ ap pow (sym c.1)))
        (λ s. complete_bind τ ρ (tame_all Γ es (each s) B)
        (complete_each es _ B Δ (k + 0 + 0) s (pow w.1.0) (subst (λ (i : ℕ). TypedAll Γ τ ρ es Δ i) z w.0) (subst (λ (i : ℕ). Every (pow w.1.0) (types Γ τ ρ es i)) z w.1.1) (λ σ c. h σ c.0.0) (λ σ c. c.1))
        (λ _. complete_done τ ρ tt (λ σ c. tt)))))
    complete_pred (application p es) C B Δ k w h = absurd w

    pub complete_preds : (qs : Preds) (C : Assignment → Type 0) (B : List ℕ) (Δ : List Ty) (k : ℕ) → TypedPreds Γ τ ρ qs Δ k → ((σ : Assignment) → C σ → Seen σ B Δ) → Complete τ ρ k (walk_preds Γ qs B) C (λ σ u. Unit {0})
    complete_preds end C B Δ k w h = complete_done τ ρ tt (λ σ c. tt)
    complete_preds (also q qs) C B Δ k w h = complete_bind τ ρ (tame_pred Γ q B) (complete_pred q C B Δ k w.0 h) (λ _. complete_preds qs _ B Δ (k + slots_pred q) w.1 (λ σ c. h σ c.0))
