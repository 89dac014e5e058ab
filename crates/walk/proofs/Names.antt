-- The theorems of specs/Names.antt: `static_problem`, `static_walk`, `static_all`, `static_pred`, `static_preds`, `static_formula` and others.
use Prim.Native.Nat.{ℕ, zero, suc}
use Rattle.std.proofs.Math.Path.{◌≡◌, refl, sym}
use Rattle.std.proofs.Common.{◌∙◌, ap}
use Rattle.std.proofs.Math.Bool.{true}
use mathlib.Core.List.{List, [], ◌∷◌, ◌++◌, append-nil, append_assoc}
use Rattle.types.specs.Ty.{bool, int, given, Ty, base, pow, prod}
use Rattle.formula.specs.Environment.{Entry, lacks, holds, Env}
use Rattle.formula.specs.Tree.{Spelling, spells, no_type, Decl, plain, typed, annotated, Expr, free, bound, literal, atomic, extension, truth, binary, associative, unary, quantified, ascribed, explicit, Exprs, none, more, Pred, constant, variable, relational, connective, junction, negation, quantification, simple, multiple, application, Preds, end, also, Target, Formula, expression, predicate, becomes, becomes_in, becomes_such, place}
use Rattle.typing.specs.Equations.{Way, forward, backward}
use Rattle.typing.specs.Typings.{decl_places, places, places-all, places_pred, places-preds, target_places, pair_places, places_of, meeting, notings, spelling_meetings, decl_meetings, decls_meetings, meetings, meetings_all, meetings_pred, meetings_preds, target_meetings, pair_meetings, meetings_of, has, meet, meet_all, lacking}
use Rattle.walk.specs.Writer.{Row, Found, at, absent, find, W, done, glue, ◌>>=◌, UNKNOWN, BOOLEAN, INTEGER, GIVEN, POWER, PRODUCT, problem, enrol}
use Rattle.walk.specs.Scripts.{Script, three, never_script, Gather, all_as, linked, no_script}
use Rattle.walk.specs.Walk.{Mode, loose, each, links, relation, stepped, last, gather, atom, lift, from_env, known, counted, over, name, note_of, notes, meets, spelled, claim, at_decl, declare, ascription, expr, script_of, walk, walk_all, walk_pred, walk_preds, target, pairs, products, targets_of, shares, forget, walk_formula, walked}
use Rattle.walk.specs.Names.{unheld, row_lacking, Static, slot_places, static_last, static_node, has-found, first-true, first-false, has-absent, place-append, static_same, static_eq, static_done, static_bind, static_own, static_enter, static_perform, has-row}

row-append : (Γ : Env) (row new : Row) → row_lacking Γ (row ++ new) ≡ row_lacking Γ row ++ row_lacking Γ new
unfolding row_lacking
row-append Γ [] new = refl
row-append Γ (m ∷ row) new = ap (λ (zs : List (ℕ × ℕ)). unheld (Γ m.name) m ++ zs) (row-append Γ row new) ∙ sym (append_assoc (unheld (Γ m.name) m) (row_lacking Γ row) (row_lacking Γ new))

pub static_problem : {Γ : Env} (q p : ℕ) → Static Γ [] [] (problem q p)
unfolding problem slot_places meet_all
static_problem q p = record { placed = λ n row. refl; named = λ n row. refl }

static_lift : {Γ : Env} (t : Ty) → Static Γ [] [] (lift t)
unfolding lift atom
static_lift (base bool) = static_node BOOLEAN 0 0
static_lift (base int) = static_node INTEGER 0 0
static_lift (base (given x)) = static_node GIVEN x 0
static_lift (pow t) = static_last (static_lift t) (λ x. static_node POWER x 0)
static_lift (prod t u) = static_last (static_lift t) (λ x. static_last (static_lift u) (λ y. static_node PRODUCT x y))

static_env : {Γ : Env} (e : Entry) → Static Γ [] [] (from_env e)
unfolding from_env
static_env lacks = static_node UNKNOWN 0 0
static_env (holds t) = static_lift t

no_places : [] ≡ decl_places []
unfolding decl_places
no_places = refl

module _ (Γ : Env) where
  -- a name met again adds nothing, a name met for the first time joins where the environment lacks it
  met-again : (x p r : ℕ) (row : Row) → find x row ≡ at r → (e : Entry) → Γ x ≡ e → row_lacking Γ row ≡ meet_all (row_lacking Γ row) (meeting Γ e x p)
  unfolding meeting meet_all meet
  met-again x p r row h lacks l = sym (first-true (has x (row_lacking Γ row)) (row_lacking Γ row) (row_lacking Γ row ++ ((x, p) ∷ [])) (has-found Γ x row r l h))
  met-again x p r row h (holds t) l = refl

  met-first : (x p r : ℕ) (row : Row) → find x row ≡ absent → (e : Entry) → row_lacking Γ row ++ (unheld e (record { name = x; ref = r; place = p }) ++ []) ≡ meet_all (row_lacking Γ row) (meeting Γ e x p)
  unfolding meeting meet_all meet unheld
  met-first x p r row h lacks = sym (first-false (has x (row_lacking Γ row)) (row_lacking Γ row) (row_lacking Γ row ++ ((x, p) ∷ [])) (has-absent Γ x row h))
  met-first x p r row h (holds t) = append-nil (row_lacking Γ row)

  static_name : (x p : ℕ) → Static Γ [] (meeting Γ (Γ x) x p) (name Γ x p)
  unfolding name known done ◌>>=◌ glue enrol slot_places row_lacking meet_all
  static_name x p = record { placed = λ n row. go n row (find x row); named = λ n row. on n row (find x row) refl }
    where
      go : (n : ℕ) (row : Row) (f : Found) → slot_places (known (Γ x) x p f n row).slots ≡ []
      go n row (at r) = refl
      go n row absent = place-append (from_env (Γ x) n row).slots [] ∙ append-nil _ ∙ (static_env {Γ = Γ} (Γ x)).placed n row

      on : (n : ℕ) (row : Row) (f : Found) → find x row ≡ f → row_lacking Γ (known (Γ x) x p f n row).row ≡ meet_all (row_lacking Γ row) (meeting Γ (Γ x) x p)
      on n row (at r) e = met-again x p r row e (Γ x) refl
      on n row absent e = row-append Γ (from_env (Γ x) n row).row (record { name = x; ref = (from_env (Γ x) n row).result; place = p } ∷ [])
          ∙ ap (λ (zs : List (ℕ × ℕ)). zs ++ (unheld (Γ x) (record { name = x; ref = (from_env (Γ x) n row).result; place = p }) ++ [])) ((static_env {Γ = Γ} (Γ x)).named n row)
          ∙ met-first x p (from_env (Γ x) n row).result row e (Γ x)

  static_note_of : (e : Entry) (x p : ℕ) → Γ x ≡ e → Static Γ [] (meeting Γ e x p) (note_of Γ e x p)
  unfolding note_of meeting
  static_note_of (holds t) x p h = static_done tt
  static_note_of lacks x p h = static_eq refl (ap (λ (e : Entry). meeting Γ e x p) h) (static_last (static_name x p) (λ t. static_last (static_node GIVEN x 0) (λ g. static_last (static_node POWER g 0) (λ s. static_same t s p))))

  static_notes : (t : Ty) (p : ℕ) → Static Γ [] (notings Γ t p) (notes Γ t p)
  unfolding notes notings
  static_notes (base bool) p = static_done tt
  static_notes (base int) p = static_done tt
  static_notes (base (given x)) p = static_note_of (Γ x) x p refl
  static_notes (pow t) p = static_notes t p
  static_notes (prod t u) p = static_bind (static_notes t p) (λ _. static_notes u p)

  static_meets : (t : Ty) (x p : ℕ) → Static Γ [] [] (meets Γ t x p)
  unfolding meets
  static_meets t x p = static_last (static_lift t) (λ y. static_same x y p)

  static_spelled : (t : Ty) (x p q : ℕ) → Static Γ [] (notings Γ t p) (spelled Γ t x p q)
  unfolding spelled
  static_spelled t x p q = static_last (static_notes t p) (λ _. static_meets t x q)

  static_claim : (d : Decl) (x : ℕ) → Static Γ [] (decl_meetings Γ d) (claim Γ d x)
  unfolding claim decl_meetings spelling_meetings
  static_claim (plain p) x = static_done tt
  static_claim (typed p t) x = static_meets t x p
  static_claim (annotated p (spells t)) x = static_spelled t x p p
  static_claim (annotated p no_type) x = static_done tt

  static_ascription : (s : Spelling) (x q p : ℕ) → Static Γ [] (spelling_meetings Γ s q) (ascription Γ s x q p)
  unfolding ascription spelling_meetings
  static_ascription (spells t) x q p = static_spelled t x q p
  static_ascription no_type x q p = static_problem 0 q

  decl_place : (d : Decl) (ds : List Decl) → at_decl Γ d ∷ decl_places ds ≡ decl_places (d ∷ ds)
  unfolding at_decl decl_places
  decl_place (plain p) ds = refl
  decl_place (typed p t) ds = refl
  decl_place (annotated p s) ds = refl

  static_declare : (ds : List Decl) → Static Γ (decl_places ds) (decls_meetings Γ ds) (declare Γ ds)
  unfolding declare decls_meetings
  static_declare [] = static_eq no_places refl (static_done [])
  static_declare (d ∷ ds) = static_eq (decl_place d ds) refl (static_bind (static_enter (static_own (at_decl Γ d) (static_node UNKNOWN 0 0))) (λ x. static_bind (static_claim d x) (λ _. static_last (static_declare ds) (λ xs. static_done (x ∷ xs)))))

  static_counted : (xs : List ℕ) (i p : ℕ) → Static Γ [] [] (counted xs i p)
  unfolding counted
  static_counted [] i p = static_last (static_problem 4 p) (λ _. static_node UNKNOWN 0 0)
  static_counted (x ∷ xs) zero p = static_done x
  static_counted (x ∷ xs) (suc i) p = static_counted xs i p

  static_expr : {ps : List ℕ} {ns : List (ℕ × ℕ)} {m : W ℕ} (p : ℕ) → Static Γ ps ns m → Static Γ (p ∷ ps) ns (expr Γ p m)
  unfolding expr
  static_expr p t = static_enter (static_own p t)

  static_script : (s : Script) (args places : ℕ → ℕ) → Static Γ [] [] (script_of Γ s args places)
  unfolding script_of
  static_script s args places = static_perform s.items s.gives args places

  static_relation : (way : Way) (s t : ℕ) → Static Γ [] [] (relation way s t)
  unfolding relation
  static_relation forward s t = static_last (static_node PRODUCT s t) (λ x. static_node POWER x 0)
  static_relation backward s t = static_last (static_node PRODUCT t s) (λ x. static_node POWER x 0)

  static_stepped : {ps qs : List ℕ} {ns os : List (ℕ × ℕ)} (m : Mode) (child : W ℕ) (p : ℕ) (rest : Mode → W Mode) → Static Γ ps ns child → ((m : Mode) → Static Γ qs os (rest m)) → Static Γ (ps ++ qs) (ns ++ os) (stepped m child p rest)
  unfolding stepped
  static_stepped loose child p rest t u = static_bind t (λ x. u loose)
  static_stepped (each y) child p rest t u = static_bind t (λ x. static_bind (static_same x y p) (λ _. u (each y)))
  static_stepped (links way s) child p rest t u = static_bind (static_node UNKNOWN 0 0) (λ z. static_bind (static_relation way s z) (λ y. static_bind t (λ x. static_bind (static_same x y p) (λ _. u (links way z)))))

  static_gather : {ps : List ℕ} {ns : List (ℕ × ℕ)} (g : Gather) (rest : Mode → W Mode) → ((m : Mode) → Static Γ ps ns (rest m)) → Static Γ ps ns (gather g rest)
  unfolding gather
  static_gather (all_as s) rest u = static_bind (static_perform s.items s.gives (three 0 0 0) (three 0 0 0)) (λ x. static_last (u (each x)) (λ _. static_done x))
  static_gather no_script rest u = static_last (u loose) (λ _. static_perform never_script.items never_script.gives (three 0 0 0) (three 0 0 0))
  static_gather (linked way) rest u = static_bind (static_node UNKNOWN 0 0) (λ s. static_last (u (links way s)) (λ m. static_relation way s (last m)))

  mutual
    unfolding walk meetings places

    pub static_walk : (e : Expr) (B : List ℕ) → Static Γ (places e) (meetings Γ e) (walk Γ e B)
    static_walk (free p x) B = static_expr p (static_name x p)
    static_walk (bound p i) B = static_expr p (static_counted B i p)
    static_walk (literal p) B = static_expr p (static_node INTEGER 0 0)
    static_walk (atomic p o) B = static_expr p (static_script _ _ _)
    static_walk (extension p es) B = static_expr p (static_bind (static_node UNKNOWN 0 0) (λ x. static_last (static_all es (each x) B) (λ _. static_node POWER x 0)))
    static_walk (truth p q) B = static_expr p (static_last (static_pred q B) (λ _. static_node BOOLEAN 0 0))
    static_walk (binary p o e f) B = static_expr p (static_bind (static_walk e B) (λ x. static_last (static_walk f B) (λ y. static_script _ _ _)))
    static_walk (associative p o es) B = static_expr p (static_gather _ _ (λ m. static_all es m B))
    static_walk (unary p o e) B = static_expr p (static_last (static_walk e B) (λ x. static_script _ _ _))
    static_walk (quantified p o ds q e) B = static_expr p (static_bind (static_declare ds) (λ xs. static_bind (static_pred q (over xs B)) (λ _. static_last (static_walk e (over xs B)) (λ x. static_script _ _ _))))
    static_walk (ascribed p e q s) B = static_expr p (static_eq (append-nil (places e)) refl (static_bind (static_walk e B) (λ x. static_last (static_ascription s x q p) (λ _. static_done x))))
    static_walk (explicit p t e) B = static_enter (static_last (static_walk e B) (λ x. static_last (static_meets t x (place e)) (λ _. static_done x)))

    pub static_all : (es : Exprs) (m : Mode) (B : List ℕ) → Static Γ (places-all es) (meetings_all Γ es) (walk_all Γ es m B)
    static_all none m B = static_done m
    static_all (more e es) m B = static_stepped m (walk Γ e B) (place e) (λ m'. walk_all Γ es m' B) (static_walk e B) (λ m'. static_all es m' B)

    pub static_pred : (q : Pred) (B : List ℕ) → Static Γ (places_pred q) (meetings_pred Γ q) (walk_pred Γ q B)
    static_pred (constant p) B = static_enter (static_done tt)
    static_pred (variable p) B = static_enter (static_done tt)
    static_pred (relational p o e f) B = static_enter (static_bind (static_walk e B) (λ x. static_last (static_walk f B) (λ y. static_last (static_perform _ _ _ _) (λ _. static_done tt))))
    static_pred (connective p q s) B = static_enter (static_bind (static_pred q B) (λ _. static_pred s B))
    static_pred (junction p qs) B = static_enter (static_preds qs B)
    static_pred (negation p q) B = static_enter (static_pred q B)
    static_pred (quantification p ds q) B = static_enter (static_bind (static_declare ds) (λ xs. static_pred q (over xs B)))
    static_pred (simple p e) B = static_enter (static_last (static_walk e B) (λ x. static_last (static_perform _ _ _ _) (λ _. static_done tt)))
    static_pred (multiple p es) B = static_enter (static_bind (static_node UNKNOWN 0 0) (λ x. static_bind (static_node POWER x 0) (λ s. static_last (static_all es (each s) B) (λ _. static_done tt))))
    static_pred (application p es) B = static_enter (static_last (static_all es loose B) (λ _. static_problem 5 p))

    pub static_preds : (qs : Preds) (B : List ℕ) → Static Γ (places-preds qs) (meetings_preds Γ qs) (walk_preds Γ qs B)
    static_preds end B = static_done tt
    static_preds (also q qs) B = static_bind (static_pred q B) (λ _. static_preds qs B)

-- ---- whole formulas
module _ (Γ : Env) where
  static_target : (t : Target) → Static Γ (t.place ∷ []) (meeting Γ (Γ t.name) t.name t.place) (target Γ t)
  unfolding target
  static_target t = static_expr Γ t.place (static_name Γ t.name t.place)

  static_pairs : (ts : List (Target × Expr)) → Static Γ (pair_places ts) (pair_meetings Γ ts) (pairs Γ ts)
  unfolding pairs pair_places pair_meetings
  static_pairs [] = static_done tt
  static_pairs (t ∷ ts) = static_bind (static_target t.0) (λ x. static_bind (static_walk Γ t.1 []) (λ y. static_bind (static_same y x (place t.1)) (λ _. static_pairs ts)))

  static_products : (ts : List Target) (x : ℕ) → Static Γ (target_places ts) (target_meetings Γ ts) (products Γ ts x)
  unfolding products target_places target_meetings
  static_products [] x = static_done x
  static_products (t ∷ ts) x = static_bind (static_target t) (λ y. static_bind (static_node PRODUCT x y) (λ z. static_products ts z))

  static_targets : (ts : List Target) → Static Γ (target_places ts) (target_meetings Γ ts) (targets_of Γ ts)
  unfolding targets_of target_places target_meetings
  static_targets [] = static_done []
  static_targets (t ∷ ts) = static_bind (static_target t) (λ x. static_last (static_targets ts) (λ xs. static_done (x ∷ xs)))

  static_shares : (xs ys : List ℕ) (p : ℕ) → Static Γ [] [] (shares Γ xs ys p)
  unfolding shares
  static_shares [] ys p = static_done tt
  static_shares (x ∷ xs) [] p = static_done tt
  static_shares (x ∷ xs) (y ∷ ys) p = static_bind (static_same y x p) (λ _. static_shares xs ys p)

  pub static_formula : (f : Formula) → Static Γ (places_of f) (meetings_of Γ f) (walk_formula Γ f)
  unfolding walk_formula forget places_of meetings_of
  static_formula (expression e) = static_last (static_walk Γ e []) (λ _. static_done tt)
  static_formula (predicate q) = static_pred Γ q []
  static_formula (becomes p ts) = static_enter (static_pairs ts)
  static_formula (becomes_in p t ts e) = static_enter (static_bind (static_target t) (λ x. static_bind (static_products ts x) (λ y. static_bind (static_node POWER y 0) (λ s. static_last (static_walk Γ e []) (λ z. static_same z s (place e))))))
  static_formula (becomes_such p ts ds q) = static_enter (static_bind (static_targets ts) (λ xs. static_bind (static_declare Γ ds) (λ ys. static_bind (static_shares xs ys p) (λ _. static_pred Γ q (over ys [])))))

-- the walk's slots stand at the formula's slot places, in order
pub walk-places : (Γ : Env) (f : Formula) → slot_places (walked Γ f).slots ≡ places_of f
unfolding walked
walk-places Γ f = (static_formula Γ f).placed 0 []

-- the walk's row, without the names that the environment holds, has the lacking names in order of first meeting, with their first places
pub walk-names : (Γ : Env) (f : Formula) → row_lacking Γ (walked Γ f).row ≡ lacking Γ f
unfolding walked row_lacking lacking
walk-names Γ f = (static_formula Γ f).named 0 []

-- a name that the environment lacks is met by the walk exactly if the formula meets or notes it
pub met-found : (Γ : Env) (f : Formula) (x : ℕ) → has x (lacking Γ f) ≡ true → (r : ℕ) × (find x (walked Γ f).row ≡ at r)
met-found Γ f x e = has-row Γ x (walked Γ f).row (ap (has x) (walk-names Γ f) ∙ e)

pub found-met : (Γ : Env) (f : Formula) (x r : ℕ) → Γ x ≡ lacks → find x (walked Γ f).row ≡ at r → has x (lacking Γ f) ≡ true
found-met Γ f x r l e = sym (ap (has x) (walk-names Γ f)) ∙ has-found Γ x (walked Γ f).row r l e
