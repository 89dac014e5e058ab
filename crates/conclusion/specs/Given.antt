-- Names in the arena: a walk makes given sets of no other names than the formula's and the environment's, and meets no others.
-- After this file a reader knows that the names of an answer are below the count of names, and so the given names of its types.
use Prim.Native.Nat.{ℕ, zero, suc, ◌+◌, ◌<◌}
use Rattle.std.specs.Prelude.{◌≡◌, refl}
use mathlib.Core.List.{List, [], ◌∷◌, ◌++◌}
use Rattle.types.specs.Ty.{bool, int, given, Ty, base, pow, prod, Below, AtomBelow, given_below}
use Rattle.formula.specs.Environment.{Entry, lacks, holds, Env}
use Rattle.formula.specs.Tree.{Spelling, spells, no_type, Decl, plain, typed, annotated, Expr, free, bound, literal, atomic, extension, truth, binary, associative, unary, quantified, ascribed, explicit, Exprs, none, more, Pred, constant, variable, relational, connective, junction, negation, quantification, simple, multiple, application, Preds, end, also, Target, Formula, expression, predicate, becomes, becomes_in, becomes_such, place}
use Rattle.formula_laws.specs.Fits.{FitsTy, FitsSpelling, FitsDecl, FitsDecls, Fits, FitsAll, FitsPred, FitsPreds, FitsTargets, FitsPairs, FitsRoot, FitsFormula}
use Rattle.unification.specs.Arena.{Node, link, leaf, bad, decode}
use Rattle.unification.specs.Arena as A
use Rattle.unification.specs.Ops.{Op, pay, make, compare, list, nodes}
use Rattle.typing.specs.Equations.{Way, forward, backward, look}
use Rattle.walk.specs.Writer.{Met, Row, Found, at, absent, find, W, done, glue, ◌>>=◌, enter, own, node, same, problem, enrol, UNKNOWN, BOOLEAN, INTEGER, GIVEN, POWER, PRODUCT, unknown, boolean, integer, power}
use Rattle.walk.specs.Scripts.{Ref, Item, an_unknown, a_bool, an_int, a_power, a_pair, equal, Script, play, perform, three, left, only, never_items, never_script, atomic_scripts, binary_scripts, unary_scripts, quantified_scripts, relational_scripts, simple_script, Gather, all_as, linked, no_script, associative_scripts}
use Rattle.walk.specs.Walk.{Mode, loose, each, links, relation, stepped, last, gather, atom, lift, from_env, known, counted, over, name, note_of, notes, meets, spelled, claim, at_decl, declare, ascription, expr, script_of, walk, walk_all, walk_pred, walk_preds, target, pairs, products, targets_of, shares, forget, walk_formula, walked}

module _ (N : ℕ) where
  -- a node that is no given set, or one of a name below N
  abbrev pub Slim : Node → Type 0
  Slim A.free = Unit {0}
  Slim (link j) = Unit {0}
  Slim (leaf bool) = Unit {0}
  Slim (leaf int) = Unit {0}
  Slim (leaf (given g)) = g < N
  Slim (A.power x) = Unit {0}
  Slim (A.pair x y) = Unit {0}
  Slim bad = Unit {0}

  abbrev pub Slims : List Op → Type 0
  Slims [] = Unit {0}
  Slims (pay ∷ os) = Slims os
  Slims (make k a b ∷ os) = Slim (decode k a b) × Slims os
  Slims (compare a b p ∷ os) = Slims os
  Slims (list q p ∷ os) = Slims os

  slims_join : (os qs : List Op) → Slims os → Slims qs → Slims (os ++ qs)
  slims_join [] qs h g = g
  slims_join (pay ∷ os) qs h g = slims_join os qs h g
  slims_join (make k a b ∷ os) qs h g = (h.0, slims_join os qs h.1 g)
  slims_join (compare a b p ∷ os) qs h g = slims_join os qs h g
  slims_join (list q p ∷ os) qs h g = slims_join os qs h g

  -- names met are below N
  abbrev pub RowLow : Row → Type 0
  RowLow [] = Unit {0}
  RowLow (x ∷ row) = (x.name < N) × RowLow row

  row-end : (row : Row) (x : Met) → RowLow row → x.name < N → RowLow (row ++ (x ∷ []))
  row-end [] x h l = (l, tt)
  row-end (y ∷ row) x h l = (h.0, row-end row x h.1 l)

  -- a piece of a walk that keeps to these
  pub record Slender {A : Type 0} (m : W A) : Type 0 where
    pub ops : (n : ℕ) (row : Row) → Slims (m n row).ops
    pub row : (n : ℕ) (row : Row) → RowLow row → RowLow (m n row).row

  slim_bind : {A B : Type 0} {m : W A} {f : A → W B} → Slender m → ((x : A) → Slender (f x)) → Slender (m >>= f)
  unfolding ◌>>=◌ glue
  slim_bind {m = m} {f = f} g h = record {
    ops = λ n r. slims_join (m n r).ops (f (m n r).result (n + nodes (m n r).ops) (m n r).row).ops (g.ops n r) ((h (m n r).result).ops (n + nodes (m n r).ops) (m n r).row);
    row = λ n r l. (h (m n r).result).row (n + nodes (m n r).ops) (m n r).row (g.row n r l);
  }

  slim_done : {A : Type 0} (x : A) → Slender (done x)
  unfolding done
  slim_done x = record { ops = λ n r. tt; row = λ n r l. l }

  slim_enter : {A : Type 0} {m : W A} → Slender m → Slender (enter m)
  unfolding enter
  slim_enter g = record { ops = g.ops; row = g.row }

  slim_own : {m : W ℕ} (p : ℕ) → Slender m → Slender (own p m)
  unfolding own
  slim_own p g = record { ops = g.ops; row = g.row }

  slim_node : (k x y : ℕ) → Slim (decode k x y) → Slender (node k x y)
  unfolding node
  slim_node k x y h = record { ops = λ n r. (h, tt); row = λ n r l. l }

  slim_same : (x y p : ℕ) → Slender (same x y p)
  unfolding same
  slim_same x y p = record { ops = λ n r. tt; row = λ n r l. l }

  slim_problem : (q p : ℕ) → Slender (problem q p)
  unfolding problem
  slim_problem q p = record { ops = λ n r. tt; row = λ n r l. l }

  slim_enrol : (x p r : ℕ) → x < N → Slender (enrol x p r)
  unfolding enrol
  slim_enrol x p r h = record { ops = λ n r. tt; row = λ n row l. row-end row _ l h }

  -- ---- nodes
  slim_fresh : Slender (unknown)
  slim_fresh = slim_node UNKNOWN 0 0 tt

  slim_power : (x : ℕ) → Slender (power x)
  slim_power x = slim_node POWER x 0 tt

  slim_pair : (x y : ℕ) → Slender (node PRODUCT x y)
  slim_pair x y = slim_node PRODUCT x y tt

  slim_int : Slender (integer)
  slim_int = slim_node INTEGER 0 0 tt

  slim_bool : Slender (boolean)
  slim_bool = slim_node BOOLEAN 0 0 tt

  slim_given : (x : ℕ) → x < N → Slender (node GIVEN x 0)
  slim_given x h = slim_node GIVEN x 0 h

  atom-under : (x : ℕ) → AtomBelow N (given x) → x < N
  atom-under x (given_below l) = l

  slim_lift : (t : Ty) → Below N t → Slender (lift t)
  unfolding lift atom Below
  slim_lift (base bool) b = slim_bool
  slim_lift (base int) b = slim_int
  slim_lift (base (given x)) b = slim_given x (atom-under x b)
  slim_lift (pow t) b = slim_bind (slim_lift t b) (λ x. slim_power x)
  slim_lift (prod t u) b = slim_bind (slim_lift t b.0) (λ x. slim_bind (slim_lift u b.1) (λ y. slim_pair x y))

  -- ---- scripts and rows of expressions
  play_slim : (args places : ℕ → ℕ) (n : ℕ) (is : List Item) → Slims (play args places n is)
  unfolding play
  play_slim args places n [] = tt
  play_slim args places n (an_unknown ∷ is) = (tt, play_slim args places n is)
  play_slim args places n (a_bool ∷ is) = (tt, play_slim args places n is)
  play_slim args places n (an_int ∷ is) = (tt, play_slim args places n is)
  play_slim args places n (a_power x ∷ is) = (tt, play_slim args places n is)
  play_slim args places n (a_pair x y ∷ is) = (tt, play_slim args places n is)
  play_slim args places n (equal x y w ∷ is) = play_slim args places n is

  slim_perform : (is : List Item) (g : Ref) (args places : ℕ → ℕ) → Slender (perform is g args places)
  unfolding perform
  slim_perform is g args places = record { ops = λ n r. play_slim args places n is; row = λ n r l. l }

  slim_relation : (way : Way) (s t : ℕ) → Slender (relation way s t)
  unfolding relation
  slim_relation forward s t = slim_bind (slim_pair s t) (λ x. slim_power x)
  slim_relation backward s t = slim_bind (slim_pair t s) (λ x. slim_power x)

  slim_stepped : (m : Mode) (child : W ℕ) (p : ℕ) (rest : Mode → W Mode) → Slender child → ((m' : Mode) → Slender (rest m')) → Slender (stepped m child p rest)
  unfolding stepped
  slim_stepped loose child p rest g h = slim_bind g (λ x. h loose)
  slim_stepped (each y) child p rest g h = slim_bind g (λ x. slim_bind (slim_same x y p) (λ _. h (each y)))
  slim_stepped (links way s) child p rest g h = slim_bind slim_fresh (λ t. slim_bind (slim_relation way s t) (λ y. slim_bind g (λ x. slim_bind (slim_same x y p) (λ _. h (links way t)))))

  slim_gather : (g : Gather) (rest : Mode → W Mode) → ((m' : Mode) → Slender (rest m')) → Slender (gather g rest)
  unfolding gather
  slim_gather (all_as s) rest h = slim_bind (slim_perform s.items s.gives (three 0 0 0) (three 0 0 0)) (λ x. slim_bind (h (each x)) (λ _. slim_done x))
  slim_gather no_script rest h = slim_bind (h loose) (λ _. slim_perform never_script.items never_script.gives (three 0 0 0) (three 0 0 0))
  slim_gather (linked way) rest h = slim_bind slim_fresh (λ s. slim_bind (h (links way s)) (λ m. slim_relation way s (last m)))

  slim_counted : (xs : List ℕ) (i p : ℕ) → Slender (counted xs i p)
  unfolding counted
  slim_counted [] i p = slim_bind (slim_problem 4 p) (λ _. slim_fresh)
  slim_counted (x ∷ xs) zero p = slim_done x
  slim_counted (x ∷ xs) (suc i) p = slim_counted xs i p

  -- ---- names, types, declarations, over an environment whose types are below N
  module _ (Γ : Env) (low : (x : ℕ) (t : Ty) → Γ x ≡ holds t → Below N t) where
    slim_env : (x : ℕ) (e : Entry) → Γ x ≡ e → Slender (from_env e)
    unfolding from_env
    slim_env x lacks q = slim_fresh
    slim_env x (holds t) q = slim_lift t (low x t q)

    slim_known : (x p : ℕ) → x < N → (f : Found) → Slender (known (Γ x) x p f)
    unfolding known
    slim_known x p l (at r) = slim_done r
    slim_known x p l absent = slim_bind (slim_env x (Γ x) refl) (λ r. slim_enrol x p r l)

    slim_name : (x p : ℕ) → x < N → Slender (name Γ x p)
    unfolding name
    slim_name x p l = record { ops = λ n r. (slim_known x p l (find x r)).ops n r; row = λ n r h. (slim_known x p l (find x r)).row n r h }

    slim_note_of : (e : Entry) (x p : ℕ) → x < N → Slender (note_of Γ e x p)
    unfolding note_of
    slim_note_of (holds t) x p l = slim_done tt
    slim_note_of lacks x p l = slim_bind (slim_name x p l) (λ t. slim_bind (slim_given x l) (λ g. slim_bind (slim_power g) (λ s. slim_same t s p)))

    slim_notes : (t : Ty) (p : ℕ) → Below N t → Slender (notes Γ t p)
    unfolding notes Below
    slim_notes (base bool) p b = slim_done tt
    slim_notes (base int) p b = slim_done tt
    slim_notes (base (given x)) p b = slim_note_of (Γ x) x p (atom-under x b)
    slim_notes (pow t) p b = slim_notes t p b
    slim_notes (prod t u) p b = slim_bind (slim_notes t p b.0) (λ _. slim_notes u p b.1)

    slim_meets : (t : Ty) (x p : ℕ) → Below N t → Slender (meets Γ t x p)
    unfolding meets
    slim_meets t x p b = slim_bind (slim_lift t b) (λ y. slim_same x y p)

    slim_spelled : (t : Ty) (x p q : ℕ) → Below N t → Slender (spelled Γ t x p q)
    unfolding spelled
    slim_spelled t x p q b = slim_bind (slim_notes t p b) (λ _. slim_meets t x q b)

    slim_claim : (d : ℕ) (e : Decl) (x : ℕ) → FitsDecl N d e → Slender (claim Γ e x)
    unfolding claim FitsDecl FitsTy FitsSpelling
    slim_claim d (plain p) x f = slim_done tt
    slim_claim d (typed p t) x f = slim_meets t x p f.1.1
    slim_claim d (annotated p (spells t)) x f = slim_spelled t x p p f.1.1
    slim_claim d (annotated p no_type) x f = slim_done tt

    slim_declare : (d : ℕ) (ds : List Decl) → FitsDecls N d ds → Slender (declare Γ ds)
    unfolding declare FitsDecls
    slim_declare d [] f = slim_done []
    slim_declare d (e ∷ ds) f = slim_bind (slim_enter (slim_own (at_decl Γ e) slim_fresh)) (λ x. slim_bind (slim_claim d e x f.0) (λ _. slim_bind (slim_declare d ds f.1) (λ xs. slim_done (x ∷ xs))))

    slim_ascription : (d : ℕ) (s : Spelling) (x q p : ℕ) → FitsSpelling N d s → Slender (ascription Γ s x q p)
    unfolding ascription FitsSpelling FitsTy
    slim_ascription d (spells t) x q p f = slim_spelled t x q p f.1
    slim_ascription d no_type x q p f = slim_problem 0 q

    slim_expr : {m : W ℕ} (p : ℕ) → Slender m → Slender (expr Γ p m)
    unfolding expr
    slim_expr p g = slim_enter (slim_own p g)

    slim_ruled : (s : Script) (args places : ℕ → ℕ) → Slender (script_of Γ s args places)
    unfolding script_of
    slim_ruled s args places = slim_perform s.items s.gives args places

    mutual
      unfolding walk Fits FitsTy

      slim_walk : (e : Expr) (d o : ℕ) (B : List ℕ) → Fits N d o e → Slender (walk Γ e B)
      slim_walk (free p x) d o B f = slim_expr p (slim_name x p f.1)
      slim_walk (bound p i) d o B f = slim_expr p (slim_counted B i p)
      slim_walk (literal p) d o B f = slim_expr p slim_int
      slim_walk (atomic p op) d o B f = slim_expr p (slim_ruled (look atomic_scripts never_script op) (three 0 0 0) (three p p p))
      slim_walk (extension p es) d o B f = slim_expr p (slim_bind slim_fresh (λ x. slim_bind (slim_all es (suc d) o (each x) B f.2) (λ _. slim_power x)))
      slim_walk (truth p q) d o B f = slim_expr p (slim_bind (slim_pred q (suc d) o B f.1) (λ _. slim_bool))
      slim_walk (binary p op e g) d o B f = slim_expr p (slim_bind (slim_walk e (suc d) o B f.2) (λ x. slim_bind (slim_walk g (suc d) o B f.3) (λ y. slim_ruled (look binary_scripts never_script op) (three 0 x y) (three p (place e) (place g)))))
      slim_walk (associative p op es) d o B f = slim_expr p (slim_gather (look associative_scripts no_script op) (λ m. walk_all Γ es m B) (λ m. slim_all es (suc d) o m B f.3))
      slim_walk (unary p op e) d o B f = slim_expr p (slim_bind (slim_walk e (suc d) o B f.2) (λ x. slim_ruled (look unary_scripts never_script op) (three 0 x 0) (three p (place e) 0)))
      slim_walk (quantified p op ds q e) d o B f =
          slim_expr p (slim_bind (slim_declare (suc d) ds f.4) (λ xs. slim_bind (slim_pred q (suc d) _ (over xs B) f.5) (λ _. slim_bind (slim_walk e (suc d) _ (over xs B) f.6) (λ x. slim_ruled (look quantified_scripts never_script op) (three 0 x 0) (three p (place e) 0)))))
      slim_walk (ascribed p e q s) d o B f = slim_expr p (slim_bind (slim_walk e (suc d) o B f.1) (λ x. slim_bind (slim_ascription (suc d) s x q p f.2) (λ _. slim_done x)))
      slim_walk (explicit p t e) d o B f = slim_enter (slim_bind (slim_walk e (suc d) o B f.3) (λ x. slim_bind (slim_meets t x (place e) f.1.1) (λ _. slim_done x)))

      slim_all : (es : Exprs) (d o : ℕ) (m : Mode) (B : List ℕ) → FitsAll N d o es → Slender (walk_all Γ es m B)
      slim_all none d o m B f = slim_done m
      slim_all (more e es) d o m B f = slim_stepped m (walk Γ e B) (place e) (λ m'. walk_all Γ es m' B) (slim_walk e d o B f.0) (λ m'. slim_all es d o m' B f.1)

      slim_pred : (q : Pred) (d o : ℕ) (B : List ℕ) → FitsPred N d o q → Slender (walk_pred Γ q B)
      slim_pred (constant p) d o B f = slim_enter (slim_done tt)
      slim_pred (variable p) d o B f = slim_enter (slim_done tt)
      slim_pred (relational p op e g) d o B f = slim_enter (slim_bind (slim_walk e (suc d) o B f.2) (λ x. slim_bind (slim_walk g (suc d) o B f.3) (λ y. slim_bind (slim_perform (look relational_scripts never_items op) left (three 0 x y) (three p (place e) (place g))) (λ _. slim_done tt))))
      slim_pred (connective p q s) d o B f = slim_enter (slim_bind (slim_pred q (suc d) o B f.1) (λ _. slim_pred s (suc d) o B f.2))
      slim_pred (junction p qs) d o B f = slim_enter (slim_preds qs (suc d) o B f.2)
      slim_pred (negation p q) d o B f = slim_enter (slim_pred q (suc d) o B f.1)
      slim_pred (quantification p ds q) d o B f = slim_enter (slim_bind (slim_declare (suc d) ds f.3) (λ xs. slim_pred q (suc d) _ (over xs B) f.4))
      slim_pred (simple p e) d o B f = slim_enter (slim_bind (slim_walk e (suc d) o B f.1) (λ x. slim_bind (slim_perform simple_script only (three 0 x 0) (three p (place e) 0)) (λ _. slim_done tt)))
      slim_pred (multiple p es) d o B f = slim_enter (slim_bind slim_fresh (λ x. slim_bind (slim_power x) (λ s. slim_bind (slim_all es (suc d) o (each s) B f.2) (λ _. slim_done tt))))
      slim_pred (application p es) d o B f = slim_enter (slim_bind (slim_all es (suc d) o loose B f.1) (λ _. slim_problem 5 p))

      slim_preds : (qs : Preds) (d o : ℕ) (B : List ℕ) → FitsPreds N d o qs → Slender (walk_preds Γ qs B)
      slim_preds end d o B f = slim_done tt
      slim_preds (also q qs) d o B f = slim_bind (slim_pred q d o B f.0) (λ _. slim_preds qs d o B f.1)

    -- ---- assignments
    slim_target : (t : Target) → t.name < N → Slender (target Γ t)
    unfolding target
    slim_target t l = slim_expr t.place (slim_name t.name t.place l)

    slim_pairs : (ts : List (Target × Expr)) → FitsPairs N ts → Slender (pairs Γ ts)
    unfolding pairs FitsPairs
    slim_pairs [] f = slim_done tt
    slim_pairs (t ∷ ts) f = slim_bind (slim_target t.0 f.0) (λ x. slim_bind (slim_walk t.1 1 0 [] f.1) (λ y. slim_bind (slim_same y x (place t.1)) (λ _. slim_pairs ts f.2)))

    slim_products : (ts : List Target) (x : ℕ) → FitsTargets N ts → Slender (products Γ ts x)
    unfolding products FitsTargets
    slim_products [] x f = slim_done x
    slim_products (t ∷ ts) x f = slim_bind (slim_target t f.0) (λ y. slim_bind (slim_pair x y) (λ z. slim_products ts z f.1))

    slim_targets : (ts : List Target) → FitsTargets N ts → Slender (targets_of Γ ts)
    unfolding targets_of FitsTargets
    slim_targets [] f = slim_done []
    slim_targets (t ∷ ts) f = slim_bind (slim_target t f.0) (λ x. slim_bind (slim_targets ts f.1) (λ xs. slim_done (x ∷ xs)))

    slim_shares : (xs ys : List ℕ) (p : ℕ) → Slender (shares Γ xs ys p)
    unfolding shares
    slim_shares [] ys p = slim_done tt
    slim_shares (x ∷ xs) [] p = slim_done tt
    slim_shares (x ∷ xs) (y ∷ ys) p = slim_bind (slim_same y x p) (λ _. slim_shares xs ys p)

    slim_formula : (f : Formula) → FitsRoot N f → Slender (walk_formula Γ f)
    unfolding walk_formula forget FitsRoot
    slim_formula (expression e) h = slim_bind (slim_walk e 0 0 [] h) (λ _. slim_done tt)
    slim_formula (predicate q) h = slim_pred q 0 0 [] h
    slim_formula (becomes p ts) h = slim_enter (slim_pairs ts h.1)
    slim_formula (becomes_in p t ts e) h = slim_enter (slim_bind (slim_target t h.0) (λ x. slim_bind (slim_products ts x h.1) (λ y. slim_bind (slim_power y) (λ s. slim_bind (slim_walk e 1 0 [] h.2) (λ z. slim_same z s (place e))))))
    slim_formula (becomes_such p ts ds q) h = slim_enter (slim_bind (slim_targets ts h.3) (λ xs. slim_bind (slim_declare 1 ds h.4) (λ ys. slim_bind (slim_shares xs ys p) (λ _. slim_pred q 1 _ (over ys []) h.5))))

    -- every given set that the walk makes is of a name below N
    pub walked_slims : (f : Formula) → FitsFormula N f → Slims (walked Γ f).ops
    unfolding walked FitsFormula
    walked_slims f h = (slim_formula f h.1).ops 0 []

    -- every name that it meets is below N
    pub walked_row : (f : Formula) → FitsFormula N f → RowLow (walked Γ f).row
    unfolding walked FitsFormula
    walked_row f h = (slim_formula f h.1).row 0 [] tt
