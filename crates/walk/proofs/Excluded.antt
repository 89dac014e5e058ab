-- The theorems of specs/Excluded.antt: `lists_walk`, `lists_all`, `lists_pred`, `lists_preds`, `lists_formula`, `own-listed` and others.
use Prim.Native.Nat.{ℕ, zero, suc, ◌+◌}
use Rattle.std.specs.Prelude.{◌≡◌, Bool, true, false, ltb, length}
use Rattle.std.proofs.Math.Path.{refl}
use Rattle.std.proofs.Common.{sym, ◌∙◌, ap, ap₂, arith, lt-ltb, le-ltb}
use mathlib.Core.List.{List, [], ◌∷◌, ◌++◌, append-nil}
use Rattle.types.specs.Ty.{bool, int, given, Ty, base, pow, prod}
use Rattle.formula.specs.Environment.{Entry, lacks, holds, Env}
use Rattle.formula.specs.Tree.{Spelling, spells, no_type, Decl, plain, typed, annotated, Expr, free, bound, literal, atomic, extension, truth, binary, associative, unary, quantified, ascribed, explicit, Exprs, none, more, Pred, constant, variable, relational, connective, junction, negation, quantification, simple, multiple, application, Preds, end, also, Target, Formula, expression, predicate, becomes, becomes_in, becomes_such, place, decls}
use Rattle.unification.specs.Good.{Assignment}
use Rattle.unification.specs.Ops.{Op, pay, make, compare, list, Meets, listed}
use Rattle.typing.specs.Equations.{Way, forward, backward, first_of}
use Rattle.typing.specs.Typings.{Some, index_excluded, spelling_excluded, excluded, excluded_all, excluded_pred, excluded_preds, pair_excluded, excluded_of}
use Rattle.walk.specs.Writer.{Row, Found, at, absent, find, W, done, glue, ◌>>=◌, enter, own, node, UNKNOWN, BOOLEAN, INTEGER, GIVEN, POWER, PRODUCT, same, problem, enrol}
use Rattle.walk.specs.Scripts.{Ref, Item, an_unknown, a_bool, an_int, a_power, a_pair, equal, Script, play, perform, three, never_script, Gather, all_as, linked, no_script}
use Rattle.walk.specs.Walk.{Mode, loose, each, links, relation, stepped, last, gather, atom, lift, from_env, known, counted, over, name, note_of, notes, meets, spelled, claim, at_decl, declare, ascription, expr, script_of, walk, walk_all, walk_pred, walk_preds, target, pairs, products, targets_of, shares, forget, walk_formula, walked}
use Rattle.walk.proofs.Whole.{typing_met}
use Rattle.walk.specs.Excluded.{Lists, below_next, Long, over-length}

listed-append : (os qs : List Op) → listed (os ++ qs) ≡ listed os ++ listed qs
listed-append [] qs = refl
listed-append (pay ∷ os) qs = listed-append os qs
listed-append (make k a b ∷ os) qs = listed-append os qs
listed-append (compare a b p ∷ os) qs = listed-append os qs
listed-append (list q p ∷ os) qs = ap (λ (zs : List (ℕ × ℕ)). (q, p) ∷ zs) (listed-append os qs)

abbrev Any : {A : Type 0} → A → Type 0
Any x = Unit {0}

lists_bind : {A B : Type 0} {ps qs : List (ℕ × ℕ)} {m : W A} {f : A → W B} {Q : A → Type 0} {R : B → Type 0} → Lists ps m Q → ((x : A) → Q x → Lists qs (f x) R) → Lists (ps ++ qs) (m >>= f) R
unfolding ◌>>=◌ glue
lists_bind {m = m} {f = f} t u = record {
  told = λ n row. listed-append (m n row).ops _ ∙ ap₂ ◌++◌ (t.told n row) ((u (m n row).result (t.hands n row)).told _ _);
  hands = λ n row. (u (m n row).result (t.hands n row)).hands _ _;
}

lists_eq : {A : Type 0} {ps qs : List (ℕ × ℕ)} {m : W A} {Q : A → Type 0} → ps ≡ qs → Lists ps m Q → Lists qs m Q
lists_eq e t = record { told = λ n row. t.told n row ∙ e; hands = t.hands }

-- the tail lists nothing
lists_last : {A B : Type 0} {ps : List (ℕ × ℕ)} {m : W A} {f : A → W B} {Q : A → Type 0} {R : B → Type 0} → Lists ps m Q → ((x : A) → Q x → Lists [] (f x) R) → Lists ps (m >>= f) R
lists_last {ps = ps} t u = lists_eq (append-nil ps) (lists_bind t u)

lists_done : {A : Type 0} {Q : A → Type 0} (x : A) → Q x → Lists [] (done x) Q
unfolding done
lists_done x q = record { told = λ n row. refl; hands = λ n row. q }

lists_node : (k x y : ℕ) → Lists [] (node k x y) Any
unfolding node
lists_node k x y = record { told = λ n row. refl; hands = λ n row. tt }

lists_same : (x y p : ℕ) → Lists [] (same x y p) Any
unfolding same
lists_same x y p = record { told = λ n row. refl; hands = λ n row. tt }

lists_problem : (q p : ℕ) → Lists ((q, p) ∷ []) (problem q p) Any
unfolding problem
lists_problem q p = record { told = λ n row. refl; hands = λ n row. tt }

play-listed : (args places : ℕ → ℕ) (n : ℕ) (is : List Item) → listed (play args places n is) ≡ []
unfolding play
play-listed args places n [] = refl
play-listed args places n (an_unknown ∷ is) = play-listed args places n is
play-listed args places n (a_bool ∷ is) = play-listed args places n is
play-listed args places n (an_int ∷ is) = play-listed args places n is
play-listed args places n (a_power x ∷ is) = play-listed args places n is
play-listed args places n (a_pair x y ∷ is) = play-listed args places n is
play-listed args places n (equal x y w ∷ is) = play-listed args places n is

lists_perform : (is : List Item) (g : Ref) (args places : ℕ → ℕ) → Lists [] (perform is g args places) Any
unfolding perform
lists_perform is g args places = record { told = λ n row. play-listed args places n is; hands = λ n row. tt }

lists_enter : {A : Type 0} {ps : List (ℕ × ℕ)} {m : W A} {Q : A → Type 0} → Lists ps m Q → Lists ps (enter m) Q
unfolding enter
lists_enter t = record { told = t.told; hands = t.hands }

lists_own : {ps : List (ℕ × ℕ)} {m : W ℕ} (p : ℕ) → Lists ps m Any → Lists ps (own p m) Any
unfolding own
lists_own p t = record { told = t.told; hands = λ n row. tt }

lists_lift : (t : Ty) → Lists [] (lift t) Any
unfolding lift atom
lists_lift (base bool) = lists_node BOOLEAN 0 0
lists_lift (base int) = lists_node INTEGER 0 0
lists_lift (base (given x)) = lists_node GIVEN x 0
lists_lift (pow t) = lists_last (lists_lift t) (λ x q. lists_node POWER x 0)
lists_lift (prod t u) = lists_last (lists_lift t) (λ x q. lists_last (lists_lift u) (λ y w. lists_node PRODUCT x y))

lists_env : (e : Entry) → Lists [] (from_env e) Any
unfolding from_env
lists_env lacks = lists_node UNKNOWN 0 0
lists_env (holds t) = lists_lift t

lists_enrol : (x p r : ℕ) → Lists [] (enrol x p r) Any
unfolding enrol
lists_enrol x p r = record { told = λ n row. refl; hands = λ n row. tt }

-- the choice among the two lists, by the test's value
within : (p : ℕ) (c : Bool) → c ≡ true → ◌≡◌ {A = List (ℕ × ℕ)} [] (first_of c [] ((4, p) ∷ []))
unfolding first_of
within p true e = refl
within p false e = let z : ◌≡◌ {A = ℕ} 0 1 = cc in absurd (omega arith)

outside : (p : ℕ) (c : Bool) → c ≡ false → ◌≡◌ {A = List (ℕ × ℕ)} ((4, p) ∷ []) (first_of c [] ((4, p) ∷ []))
unfolding first_of
outside p true e = let z : ◌≡◌ {A = ℕ} 0 1 = cc in absurd (omega arith)
outside p false e = refl

lists_counted : (xs : List ℕ) (i p : ℕ) → Lists (index_excluded (length xs) i p) (counted xs i p) Any
unfolding counted index_excluded
lists_counted [] i p = lists_eq (outside p (ltb i 0) (le-ltb i 0 (omega arith))) (lists_last (lists_problem 4 p) (λ _ q. lists_node UNKNOWN 0 0))
lists_counted (x ∷ xs) zero p = lists_eq (within p (ltb 0 (suc (length xs))) (lt-ltb 0 (suc (length xs)) (omega arith))) (lists_done x tt)
lists_counted (x ∷ xs) (suc i) p = lists_eq (ap (λ (c : Bool). first_of c [] ((4, p) ∷ [])) (sym (below_next i (length xs)))) (lists_counted xs i p)

module _ (Γ : Env) where
  lists_name : (x p : ℕ) → Lists [] (name Γ x p) Any
  unfolding name known done
  lists_name x p = record { told = λ n row. go n row (find x row); hands = λ n row. tt }
    where
      go : (n : ℕ) (row : Row) (f : Found) → listed (known (Γ x) x p f n row).ops ≡ []
      go n row (at r) = refl
      go n row absent = (lists_last (lists_env (Γ x)) (λ r q. lists_enrol x p r)).told n row

  lists_note_of : (e : Entry) (x p : ℕ) → Lists [] (note_of Γ e x p) Any
  unfolding note_of
  lists_note_of (holds t) x p = lists_done tt tt
  lists_note_of lacks x p = lists_last (lists_name x p) (λ t _. lists_last (lists_node GIVEN x 0) (λ g _. lists_last (lists_node POWER g 0) (λ s _. lists_same t s p)))

  lists_notes : (t : Ty) (p : ℕ) → Lists [] (notes Γ t p) Any
  unfolding notes
  lists_notes (base bool) p = lists_done tt tt
  lists_notes (base int) p = lists_done tt tt
  lists_notes (base (given x)) p = lists_note_of (Γ x) x p
  lists_notes (pow t) p = lists_notes t p
  lists_notes (prod t u) p = lists_last (lists_notes t p) (λ _ _. lists_notes u p)

  lists_meets : (t : Ty) (x p : ℕ) → Lists [] (meets Γ t x p) Any
  unfolding meets
  lists_meets t x p = lists_last (lists_lift t) (λ y _. lists_same x y p)

  lists_spelled : (t : Ty) (x p q : ℕ) → Lists [] (spelled Γ t x p q) Any
  unfolding spelled
  lists_spelled t x p q = lists_last (lists_notes t p) (λ _ _. lists_meets t x q)

  lists_claim : (d : Decl) (x : ℕ) → Lists [] (claim Γ d x) Any
  unfolding claim
  lists_claim (plain p) x = lists_done tt tt
  lists_claim (typed p t) x = lists_meets t x p
  lists_claim (annotated p (spells t)) x = lists_spelled t x p p
  lists_claim (annotated p no_type) x = lists_done tt tt

  lists_ascription : (s : Spelling) (x q p : ℕ) → Lists (spelling_excluded s q) (ascription Γ s x q p) Any
  unfolding ascription spelling_excluded
  lists_ascription (spells t) x q p = lists_spelled t x q p
  lists_ascription no_type x q p = lists_problem 0 q

  lists_declare : (ds : List Decl) → Lists [] (declare Γ ds) (Long (decls ds))
  unfolding declare decls
  lists_declare [] = lists_done [] refl
  lists_declare (d ∷ ds) = lists_last (lists_enter (lists_own (at_decl Γ d) (lists_node UNKNOWN 0 0))) (λ x _. lists_last (lists_claim d x) (λ _ _. lists_last (lists_declare ds) (λ xs q. lists_done (x ∷ xs) (ap suc q))))

  lists_expr : {ps : List (ℕ × ℕ)} {m : W ℕ} (p : ℕ) → Lists ps m Any → Lists ps (expr Γ p m) Any
  unfolding expr
  lists_expr p t = lists_enter (lists_own p t)

  lists_script : (s : Script) (args places : ℕ → ℕ) → Lists [] (script_of Γ s args places) Any
  unfolding script_of
  lists_script s args places = lists_perform s.items s.gives args places

  lists_relation : (way : Way) (s t : ℕ) → Lists [] (relation way s t) Any
  unfolding relation
  lists_relation forward s t = lists_last (lists_node PRODUCT s t) (λ x _. lists_node POWER x 0)
  lists_relation backward s t = lists_last (lists_node PRODUCT t s) (λ x _. lists_node POWER x 0)

  lists_stepped : {ps qs : List (ℕ × ℕ)} (m : Mode) (child : W ℕ) (p : ℕ) (rest : Mode → W Mode) → Lists ps child Any → ((m : Mode) → Lists qs (rest m) Any) → Lists (ps ++ qs) (stepped m child p rest) Any
  unfolding stepped
  lists_stepped loose child p rest t u = lists_bind t (λ x _. u loose)
  lists_stepped (each y) child p rest t u = lists_bind t (λ x _. lists_bind (lists_same x y p) (λ _ _. u (each y)))
  lists_stepped (links way s) child p rest t u = lists_bind (lists_node UNKNOWN 0 0) (λ z _. lists_bind (lists_relation way s z) (λ y _. lists_bind t (λ x _. lists_bind (lists_same x y p) (λ _ _. u (links way z)))))

  lists_gather : {ps : List (ℕ × ℕ)} (g : Gather) (rest : Mode → W Mode) → ((m : Mode) → Lists ps (rest m) Any) → Lists ps (gather g rest) Any
  unfolding gather
  lists_gather (all_as s) rest u = lists_bind (lists_perform s.items s.gives (three 0 0 0) (three 0 0 0)) (λ x _. lists_last (u (each x)) (λ _ _. lists_done x tt))
  lists_gather no_script rest u = lists_last (u loose) (λ _ _. lists_perform never_script.items never_script.gives (three 0 0 0) (three 0 0 0))
  lists_gather (linked way) rest u = lists_bind (lists_node UNKNOWN 0 0) (λ s _. lists_last (u (links way s)) (λ m _. lists_relation way s (last m)))

  around : {n : ℕ} (ds : List Decl) (xs B : List ℕ) → Long (decls ds) xs → Long n B → Long (decls ds + n) (over xs B)
  around ds xs B h g = over-length xs B ∙ ap₂ ◌+◌ h g

  mutual
    unfolding walk excluded

    pub lists_walk : (e : Expr) (B : List ℕ) (n : ℕ) → Long n B → Lists (excluded e n) (walk Γ e B) Any
    lists_walk (free p x) B n h = lists_expr p (lists_name x p)
    lists_walk (bound p i) B n h = lists_expr p (lists_eq (ap (λ (k : ℕ). index_excluded k i p) h) (lists_counted B i p))
    lists_walk (literal p) B n h = lists_expr p (lists_node INTEGER 0 0)
    lists_walk (atomic p o) B n h = lists_expr p (lists_script _ _ _)
    lists_walk (extension p es) B n h = lists_expr p (lists_bind (lists_node UNKNOWN 0 0) (λ x _. lists_last (lists_all es (each x) B n h) (λ _ _. lists_node POWER x 0)))
    lists_walk (truth p q) B n h = lists_expr p (lists_last (lists_pred q B n h) (λ _ _. lists_node BOOLEAN 0 0))
    lists_walk (binary p o e f) B n h = lists_expr p (lists_bind (lists_walk e B n h) (λ x _. lists_last (lists_walk f B n h) (λ y _. lists_script _ _ _)))
    lists_walk (associative p o es) B n h = lists_expr p (lists_gather _ _ (λ m. lists_all es m B n h))
    lists_walk (unary p o e) B n h = lists_expr p (lists_last (lists_walk e B n h) (λ x _. lists_script _ _ _))
    lists_walk (quantified p o ds q e) B n h = lists_expr p (lists_bind (lists_declare ds) (λ xs g. lists_bind (lists_pred q (over xs B) (decls ds + n) (around ds xs B g h)) (λ _ _. lists_last (lists_walk e (over xs B) (decls ds + n) (around ds xs B g h)) (λ x _. lists_script _ _ _))))
    lists_walk (ascribed p e q s) B n h = lists_expr p (lists_bind (lists_walk e B n h) (λ x _. lists_last (lists_ascription s x q p) (λ _ _. lists_done x tt)))
    lists_walk (explicit p t e) B n h = lists_enter (lists_last (lists_walk e B n h) (λ x _. lists_last (lists_meets t x (place e)) (λ _ _. lists_done x tt)))

    pub lists_all : (es : Exprs) (m : Mode) (B : List ℕ) (n : ℕ) → Long n B → Lists (excluded_all es n) (walk_all Γ es m B) Any
    lists_all none m B n h = lists_done m tt
    lists_all (more e es) m B n h = lists_stepped m (walk Γ e B) (place e) (λ m'. walk_all Γ es m' B) (lists_walk e B n h) (λ m'. lists_all es m' B n h)

    pub lists_pred : (q : Pred) (B : List ℕ) (n : ℕ) → Long n B → Lists (excluded_pred q n) (walk_pred Γ q B) Any
    lists_pred (constant p) B n h = lists_enter (lists_done tt tt)
    lists_pred (variable p) B n h = lists_enter (lists_done tt tt)
    lists_pred (relational p o e f) B n h = lists_enter (lists_bind (lists_walk e B n h) (λ x _. lists_last (lists_walk f B n h) (λ y _. lists_last (lists_perform _ _ _ _) (λ _ _. lists_done tt tt))))
    lists_pred (connective p q s) B n h = lists_enter (lists_bind (lists_pred q B n h) (λ _ _. lists_pred s B n h))
    lists_pred (junction p qs) B n h = lists_enter (lists_preds qs B n h)
    lists_pred (negation p q) B n h = lists_enter (lists_pred q B n h)
    lists_pred (quantification p ds q) B n h = lists_enter (lists_bind (lists_declare ds) (λ xs g. lists_pred q (over xs B) (decls ds + n) (around ds xs B g h)))
    lists_pred (simple p e) B n h = lists_enter (lists_last (lists_walk e B n h) (λ x _. lists_last (lists_perform _ _ _ _) (λ _ _. lists_done tt tt)))
    lists_pred (multiple p es) B n h = lists_enter (lists_bind (lists_node UNKNOWN 0 0) (λ x _. lists_bind (lists_node POWER x 0) (λ s _. lists_last (lists_all es (each s) B n h) (λ _ _. lists_done tt tt))))
    lists_pred (application p es) B n h = lists_enter (lists_bind (lists_all es loose B n h) (λ _ _. lists_problem 5 p))

    pub lists_preds : (qs : Preds) (B : List ℕ) (n : ℕ) → Long n B → Lists (excluded_preds qs n) (walk_preds Γ qs B) Any
    lists_preds end B n h = lists_done tt tt
    lists_preds (also q qs) B n h = lists_bind (lists_pred q B n h) (λ _ _. lists_preds qs B n h)

  lists_target : (t : Target) → Lists [] (target Γ t) Any
  unfolding target
  lists_target t = lists_expr t.place (lists_name t.name t.place)

  lists_pairs : (ts : List (Target × Expr)) → Lists (pair_excluded ts) (pairs Γ ts) Any
  unfolding pairs pair_excluded
  lists_pairs [] = lists_done tt tt
  lists_pairs (t ∷ ts) = lists_bind (lists_target t.0) (λ x _. lists_bind (lists_walk t.1 [] 0 refl) (λ y _. lists_bind (lists_same y x (place t.1)) (λ _ _. lists_pairs ts)))

  lists_products : (ts : List Target) (x : ℕ) → Lists [] (products Γ ts x) Any
  unfolding products
  lists_products [] x = lists_done x tt
  lists_products (t ∷ ts) x = lists_last (lists_target t) (λ y _. lists_last (lists_node PRODUCT x y) (λ z _. lists_products ts z))

  lists_targets : (ts : List Target) → Lists [] (targets_of Γ ts) Any
  unfolding targets_of
  lists_targets [] = lists_done [] tt
  lists_targets (t ∷ ts) = lists_last (lists_target t) (λ x _. lists_last (lists_targets ts) (λ xs _. lists_done (x ∷ xs) tt))

  lists_shares : (xs ys : List ℕ) (p : ℕ) → Lists [] (shares Γ xs ys p) Any
  unfolding shares
  lists_shares [] ys p = lists_done tt tt
  lists_shares (x ∷ xs) [] p = lists_done tt tt
  lists_shares (x ∷ xs) (y ∷ ys) p = lists_last (lists_same y x p) (λ _ _. lists_shares xs ys p)

  pub lists_formula : (f : Formula) → Lists (excluded_of f) (walk_formula Γ f) Any
  unfolding walk_formula forget excluded_of
  lists_formula (expression e) = lists_last (lists_walk e [] 0 refl) (λ _ _. lists_done tt tt)
  lists_formula (predicate q) = lists_pred q [] 0 refl
  lists_formula (becomes p ts) = lists_enter (lists_pairs ts)
  lists_formula (becomes_in p t ts e) = lists_enter (lists_bind (lists_target t) (λ x _. lists_bind (lists_products ts x) (λ y _. lists_bind (lists_node POWER y 0) (λ s _. lists_last (lists_walk e [] 0 refl) (λ z _. lists_same z s (place e))))))
  lists_formula (becomes_such p ts ds q) = lists_enter (lists_bind (lists_targets ts) (λ xs _. lists_bind (lists_declare ds) (λ ys g. lists_bind (lists_shares xs ys p) (λ _ _. lists_pred q (over ys []) (decls ds + 0) (around ds ys [] g refl)))))

-- what the walk lists of its own is what the tree excludes
pub own-listed : (Γ : Env) (f : Formula) → listed (walked Γ f).ops ≡ excluded_of f
unfolding walked
own-listed Γ f = (lists_formula Γ f).told 0 []

-- operations that an assignment meets list nothing
met_unlisted : (σ : Assignment) (n : ℕ) (os : List Op) → Meets σ n os → listed os ≡ []
met_unlisted σ n [] h = refl
met_unlisted σ n (pay ∷ os) h = met_unlisted σ n os h
met_unlisted σ n (make k a b ∷ os) h = met_unlisted σ (suc n) os h.1
met_unlisted σ n (compare a b p ∷ os) h = met_unlisted σ n os h.1
met_unlisted σ n (list q p ∷ os) h = absurd h

-- a formula with a typing excludes nothing
pub typed_allowed : (Γ : Env) (f : Formula) → Some Γ f → excluded_of f ≡ []
typed_allowed Γ f t = let m = typing_met Γ f t.0 t.1 t.2 in sym (own-listed Γ f) ∙ met_unlisted m.0 0 (walked Γ f).ops m.1
