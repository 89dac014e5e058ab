-- The theorems of specs/Nodes.antt: `makes-walk`, `makes-all`, `makes_pred`, `makes-preds`, `walk-nodes`.
use Prim.Native.Nat.{ℕ, zero, suc, ◌+◌, ◌*◌}
use Rattle.std.specs.Prelude.{◌≡◌, Bool, true, false, ltb, length}
use Rattle.std.proofs.Math.Path.{refl}
use Rattle.std.proofs.Common.{sym, ◌∙◌, ap, ap₂, suc-mul, lt-ltb, le-ltb}
use mathlib.Core.List.{List, [], ◌∷◌, ◌++◌}
use native.Mathlib.Omega.{arith}
use Rattle.std.proofs.Math.ListN.{length-append}
use Rattle.types.specs.Ty.{bool, int, given, Ty, base, pow, prod}
use Rattle.formula.specs.Environment.{Entry, lacks, holds, Env}
use Rattle.formula.specs.Tree.{Spelling, spells, no_type, Decl, plain, typed, annotated, Expr, free, bound, literal, atomic, extension, truth, binary, associative, unary, quantified, ascribed, explicit, Exprs, none, more, Pred, constant, variable, relational, connective, junction, negation, quantification, simple, multiple, application, Preds, end, also, Target, Formula, expression, predicate, becomes, becomes_in, becomes_such, place, decls, exprs, targets}
use Rattle.unification.specs.Ops.{nodes}
use Rattle.typing.specs.Equations.{Way, forward, backward, first_of, look}
use Rattle.typing.specs.Typings.{index_excluded, notings, meeting}
use Rattle.walk.specs.Writer.{Row, Found, at, absent, find, W, done, glue, ◌>>=◌, enter, own, node, UNKNOWN, BOOLEAN, INTEGER, GIVEN, POWER, PRODUCT, same, problem, enrol}
use Rattle.walk.specs.Scripts.{Ref, Item, an_unknown, a_bool, an_int, a_power, a_pair, equal, Script, scripted, play, perform, three, never_items, never_script, atomic_scripts, binary_scripts, unary_scripts, quantified_scripts, relational_scripts, simple_script, Gather, all_as, linked, no_script, associative_scripts}
use Rattle.walk.specs.Walk.{Mode, loose, each, links, relation, stepped, last, gather, atom, lift, from_env, known, counted, over, name, note_of, notes, meets, spelled, claim, at_decl, declare, ascription, expr, script_of, walk, walk_all, walk_pred, walk_preds, target, pairs, products, targets_of, shares, forget, walk_formula, walked}
use Rattle.walk.specs.Tables.{made, rows, look-map}
use Rattle.walk.specs.Triple.{nodes-append}
use Rattle.walk.specs.Excluded.{Long, over-length, below_next}
use Rattle.walk.specs.Nodes.{Makes, size, met_nodes, entry_nodes, atomic_nodes, binary_nodes, unary_nodes, quantified_nodes, relational_nodes, associative_nodes, mode_nodes, spelled_nodes, spelling_nodes, decl_nodes, decls_nodes, nodes_expr, nodes-all, nodes_pred, nodes-preds, pair_nodes, nodes_of}

abbrev Any : {A : Type 0} → A → Type 0
Any x = Unit {0}

makes-bind : {A B : Type 0} {Γ : Env} {c d : ℕ} {m : W A} {f : A → W B} {Q : A → Type 0} {R : B → Type 0} → Makes Γ c m Q → ((x : A) → Q x → Makes Γ d (f x) R) → Makes Γ (c + d) (m >>= f) R
unfolding ◌>>=◌ glue
makes-bind {m = m} {f = f} t u = record {
  makes = λ n row. (let e = t.makes n row in
      let g = (u (m n row).result (t.hands n row)).makes (n + nodes (m n row).ops) (m n row).row in
      let a = nodes-append (m n row).ops (f (m n row).result (n + nodes (m n row).ops) (m n row).row).ops in
      omega arith);
  hands = λ n row. (u (m n row).result (t.hands n row)).hands _ _;
}

makes_eq : {A : Type 0} {Γ : Env} {c d : ℕ} {m : W A} {Q : A → Type 0} → c ≡ d → Makes Γ c m Q → Makes Γ d m Q
makes_eq e t = record { makes = λ n row. (let g = t.makes n row in omega arith); hands = t.hands }

makes-done : {A : Type 0} {Γ : Env} {Q : A → Type 0} (x : A) → Q x → Makes Γ 0 (done x) Q
unfolding done
makes-done x q = record { makes = λ n row. refl; hands = λ n row. q }

makes-node : {Γ : Env} (k x y : ℕ) → Makes Γ 1 (node k x y) Any
unfolding node
makes-node k x y = record { makes = λ n row. refl; hands = λ n row. tt }

makes-same : {Γ : Env} (x y p : ℕ) → Makes Γ 0 (same x y p) Any
unfolding same
makes-same x y p = record { makes = λ n row. refl; hands = λ n row. tt }

makes-problem : {Γ : Env} (q p : ℕ) → Makes Γ 0 (problem q p) Any
unfolding problem
makes-problem q p = record { makes = λ n row. refl; hands = λ n row. tt }

play-nodes : (args places : ℕ → ℕ) (n : ℕ) (is : List Item) (k : ℕ) → made k is ≡ k + nodes (play args places n is)
unfolding play made
play-nodes args places n [] k = omega arith
play-nodes args places n (an_unknown ∷ is) k = let e = play-nodes args places n is (suc k) in omega arith
play-nodes args places n (a_bool ∷ is) k = let e = play-nodes args places n is (suc k) in omega arith
play-nodes args places n (an_int ∷ is) k = let e = play-nodes args places n is (suc k) in omega arith
play-nodes args places n (a_power x ∷ is) k = let e = play-nodes args places n is (suc k) in omega arith
play-nodes args places n (a_pair x y ∷ is) k = let e = play-nodes args places n is (suc k) in omega arith
play-nodes args places n (equal x y w ∷ is) k = play-nodes args places n is k

makes-perform : {Γ : Env} (is : List Item) (g : Ref) (args places : ℕ → ℕ) → Makes Γ (made 0 is) (perform is g args places) Any
unfolding perform
makes-perform is g args places = record { makes = λ n row. (let e = play-nodes args places n is 0 in omega arith); hands = λ n row. tt }

makes-enter : {A : Type 0} {Γ : Env} {c : ℕ} {m : W A} {Q : A → Type 0} → Makes Γ c m Q → Makes Γ c (enter m) Q
unfolding enter
makes-enter t = record { makes = t.makes; hands = t.hands }

makes-own : {Γ : Env} {c : ℕ} {m : W ℕ} (p : ℕ) → Makes Γ c m Any → Makes Γ c (own p m) Any
unfolding own
makes-own p t = record { makes = t.makes; hands = λ n row. tt }

makes-lift : {Γ : Env} (t : Ty) → Makes Γ (size t) (lift t) Any
unfolding lift atom size
makes-lift (base bool) = makes-node BOOLEAN 0 0
makes-lift (base int) = makes-node INTEGER 0 0
makes-lift (base (given x)) = makes-node GIVEN x 0
makes-lift (pow t) = makes_eq (omega arith) (makes-bind (makes-lift t) (λ x _. makes-node POWER x 0))
makes-lift (prod t u) = makes_eq (omega arith) (makes-bind (makes-lift t) (λ x _. makes-bind (makes-lift u) (λ y _. makes-node PRODUCT x y)))

met-append : (Γ : Env) (row new : Row) → met_nodes Γ (row ++ new) ≡ met_nodes Γ row + met_nodes Γ new
unfolding met_nodes
met-append Γ [] new = omega arith
met-append Γ (m ∷ row) new = let e = met-append Γ row new in omega arith

makes_env : {Γ : Env} (e : Entry) → Makes Γ (entry_nodes e) (from_env e) Any
unfolding from_env entry_nodes
makes_env lacks = makes-node UNKNOWN 0 0
makes_env (holds t) = makes-lift t

-- ---- an index past all declarations takes a node
dangles_out : (p : ℕ) (c : Bool) → c ≡ false → 1 ≡ length (first_of {A = List (ℕ × ℕ)} c [] ((4, p) ∷ []))
unfolding first_of
dangles_out p true e = let z : ◌≡◌ {A = ℕ} 0 1 = cc in absurd (omega arith)
dangles_out p false e = refl

dangles_in : (p : ℕ) (c : Bool) → c ≡ true → 0 ≡ length (first_of {A = List (ℕ × ℕ)} c [] ((4, p) ∷ []))
unfolding first_of
dangles_in p true e = refl
dangles_in p false e = let z : ◌≡◌ {A = ℕ} 0 1 = cc in absurd (omega arith)

makes-counted : {Γ : Env} (xs : List ℕ) (i p : ℕ) → Makes Γ (length (index_excluded (length xs) i p)) (counted xs i p) Any
unfolding counted index_excluded
makes-counted [] i p = makes_eq (dangles_out p (ltb i 0) (le-ltb i 0 (omega arith))) (makes-bind (makes-problem 4 p) (λ _ q. makes-node UNKNOWN 0 0))
makes-counted (x ∷ xs) zero p = makes_eq (dangles_in p (ltb 0 (suc (length xs))) (lt-ltb 0 (suc (length xs)) (omega arith))) (makes-done x tt)
makes-counted (x ∷ xs) (suc i) p = makes_eq (ap (λ (c : Bool). length (first_of {A = List (ℕ × ℕ)} c [] ((4, p) ∷ []))) (sym (below_next i (length xs)))) (makes-counted xs i p)

-- ---- the tables of numbers are those of the scripts
unfoldable script_nodes : Script → ℕ
script_nodes s = made 0 s.items

atomic-made : (o : ℕ) → script_nodes (look atomic_scripts never_script o) ≡ look atomic_nodes 2 o
unfolding script_nodes rows made scripted atomic_scripts never_script atomic_nodes
atomic-made o = look-map script_nodes atomic_scripts never_script o

binary-made : (o : ℕ) → script_nodes (look binary_scripts never_script o) ≡ look binary_nodes 2 o
unfolding script_nodes rows made scripted binary_scripts never_script binary_nodes
binary-made o = look-map script_nodes binary_scripts never_script o

unary-made : (o : ℕ) → script_nodes (look unary_scripts never_script o) ≡ look unary_nodes 2 o
unfolding script_nodes rows made scripted unary_scripts never_script unary_nodes
unary-made o = look-map script_nodes unary_scripts never_script o

quantified-made : (o : ℕ) → script_nodes (look quantified_scripts never_script o) ≡ look quantified_nodes 2 o
unfolding script_nodes rows made scripted quantified_scripts never_script quantified_nodes
quantified-made o = look-map script_nodes quantified_scripts never_script o

relational-made : (o : ℕ) → made 0 (look relational_scripts never_items o) ≡ look relational_nodes 2 o
unfolding rows made relational_scripts never_items relational_nodes
relational-made o = look-map (made 0) relational_scripts never_items o

-- before and after all children together, and for each child
unfoldable gather_nodes : Gather → ℕ × ℕ
unfolding script_nodes
gather_nodes (all_as s) = (script_nodes s, 0)
gather_nodes (linked way) = (3, 3)
gather_nodes no_script = (2, 0)

associative-made : (o : ℕ) → gather_nodes (look associative_scripts no_script o) ≡ look associative_nodes (2, 0) o
unfolding gather_nodes script_nodes rows made scripted associative_scripts associative_nodes
associative-made o = look-map gather_nodes associative_scripts no_script o

simple-made : made 0 simple_script ≡ 2
unfolding made
simple-made = refl

never-made : made 0 never_script.items ≡ 2
unfolding made never_script
never-made = refl

more-nodes : (m c d k : ℕ) → m + (c + (d + k * m)) ≡ c + d + suc k * m
more-nodes m c d k = let e = suc-mul k m in omega arith

no_nodes : (m : ℕ) → 0 ≡ 0 + 0 * m
no_nodes m = omega arith

each-nodes : (c k x : ℕ) → c + k * mode_nodes (each x) ≡ c
unfolding mode_nodes
each-nodes c k x = omega arith

loose-nodes : (c k : ℕ) → c + k * mode_nodes loose + 0 ≡ c
unfolding mode_nodes
loose-nodes c k = omega arith

module _ (Γ : Env) where
  makes-name : (x p : ℕ) → Makes Γ 0 (name Γ x p) Any
  unfolding name known done ◌>>=◌ glue enrol met_nodes
  makes-name x p = record { makes = λ n row. go n row (find x row); hands = λ n row. tt }
    where
      go : (n : ℕ) (row : Row) (f : Found) → nodes (known (Γ x) x p f n row).ops + met_nodes Γ row ≡ 0 + met_nodes Γ (known (Γ x) x p f n row).row
      go n row (at r) = refl
      go n row absent =
          let e = (makes_env {Γ = Γ} (Γ x)).makes n row in
          let a = nodes-append (from_env (Γ x) n row).ops [] in
          let b = met-append Γ (from_env (Γ x) n row).row (record { name = x; ref = (from_env (Γ x) n row).result; place = p } ∷ []) in
          omega arith

  makes-note_of : (e : Entry) (x p : ℕ) → Makes Γ (2 * length (meeting Γ e x 0)) (note_of Γ e x p) Any
  unfolding note_of meeting
  makes-note_of (holds t) x p = makes-done tt tt
  makes-note_of lacks x p = makes-bind (makes-name x p) (λ t _. makes-bind (makes-node GIVEN x 0) (λ g _. makes-bind (makes-node POWER g 0) (λ s _. makes-same t s p)))

  makes-notes : (t : Ty) (p : ℕ) → Makes Γ (2 * length (notings Γ t 0)) (notes Γ t p) Any
  unfolding notes notings
  makes-notes (base bool) p = makes-done tt tt
  makes-notes (base int) p = makes-done tt tt
  makes-notes (base (given x)) p = makes-note_of (Γ x) x p
  makes-notes (pow t) p = makes-notes t p
  makes-notes (prod t u) p = makes_eq (let e = length-append (notings Γ t 0) (notings Γ u 0) in omega arith) (makes-bind (makes-notes t p) (λ _ _. makes-notes u p))

  makes-meets : (t : Ty) (x p : ℕ) → Makes Γ (size t) (meets Γ t x p) Any
  unfolding meets
  makes-meets t x p = makes_eq (omega arith) (makes-bind (makes-lift t) (λ y _. makes-same x y p))

  makes-spelled : (t : Ty) (x p q : ℕ) → Makes Γ (spelled_nodes Γ t) (spelled Γ t x p q) Any
  unfolding spelled spelled_nodes
  makes-spelled t x p q = makes-bind (makes-notes t p) (λ _ _. makes-meets t x q)

  makes-claim : (d : Decl) (x : ℕ) → Makes Γ (decl_nodes Γ d) (claim Γ d x) Any
  unfolding claim decl_nodes spelling_nodes
  makes-claim (plain p) x = makes-done tt tt
  makes-claim (typed p t) x = makes-meets t x p
  makes-claim (annotated p (spells t)) x = makes-spelled t x p p
  makes-claim (annotated p no_type) x = makes-done tt tt

  makes-ascription : (s : Spelling) (x q p : ℕ) → Makes Γ (spelling_nodes Γ s) (ascription Γ s x q p) Any
  unfolding ascription spelling_nodes
  makes-ascription (spells t) x q p = makes-spelled t x q p
  makes-ascription no_type x q p = makes-problem 0 q

  makes-declare : (ds : List Decl) → Makes Γ (decls_nodes Γ ds) (declare Γ ds) (Long (decls ds))
  unfolding declare decls decls_nodes
  makes-declare [] = makes-done [] refl
  makes-declare (d ∷ ds) = makes_eq (omega arith) (makes-bind (makes-enter (makes-own (at_decl Γ d) (makes-node UNKNOWN 0 0))) (λ x _. makes-bind (makes-claim d x) (λ _ _. makes-bind (makes-declare ds) (λ xs q. makes-done (x ∷ xs) (ap suc q)))))

  makes-expr : {c : ℕ} {m : W ℕ} (p : ℕ) → Makes Γ c m Any → Makes Γ c (expr Γ p m) Any
  unfolding expr
  makes-expr p t = makes-enter (makes-own p t)

  makes_script : (s : Script) (args places : ℕ → ℕ) → Makes Γ (script_nodes s) (script_of Γ s args places) Any
  unfolding script_of script_nodes
  makes_script s args places = makes-perform s.items s.gives args places

  makes-relation : (way : Way) (s t : ℕ) → Makes Γ 2 (relation way s t) Any
  unfolding relation
  makes-relation forward s t = makes-bind (makes-node PRODUCT s t) (λ x _. makes-node POWER x 0)
  makes-relation backward s t = makes-bind (makes-node PRODUCT t s) (λ x _. makes-node POWER x 0)

  -- the rest is walked in a mode of the same kind
  makes-stepped : {c d : ℕ} (m : Mode) (child : W ℕ) (p : ℕ) (rest : Mode → W Mode) → Makes Γ c child Any → ((m' : Mode) → mode_nodes m' ≡ mode_nodes m → Makes Γ d (rest m') Any) → Makes Γ (mode_nodes m + (c + d)) (stepped m child p rest) Any
  unfolding stepped mode_nodes
  makes-stepped loose child p rest t u = makes_eq (omega arith) (makes-bind t (λ x _. u loose refl))
  makes-stepped (each y) child p rest t u = makes_eq (omega arith) (makes-bind t (λ x _. makes-bind (makes-same x y p) (λ _ _. u (each y) refl)))
  makes-stepped (links way s) child p rest t u =
      makes_eq (omega arith) (makes-bind (makes-node UNKNOWN 0 0) (λ z _. makes-bind (makes-relation way s z) (λ y _. makes-bind t (λ x _. makes-bind (makes-same x y p) (λ _ _. u (links way z) refl)))))

  makes-gather : (c k : ℕ) (g : Gather) (rest : Mode → W Mode) → ((m : Mode) → Makes Γ (c + k * mode_nodes m) (rest m) Any) → Makes Γ (c + ((gather_nodes g).0 + k * (gather_nodes g).1)) (gather g rest) Any
  unfolding gather gather_nodes script_nodes mode_nodes
  makes-gather c k (all_as s) rest u = makes_eq (omega arith) (makes-bind (makes-perform s.items s.gives (three 0 0 0) (three 0 0 0)) (λ x _. makes-bind (u (each x)) (λ _ _. makes-done x tt)))
  makes-gather c k no_script rest u = makes_eq (let e = never-made in omega arith) (makes-bind (u loose) (λ _ _. makes-perform never_script.items never_script.gives (three 0 0 0) (three 0 0 0)))
  makes-gather c k (linked way) rest u = makes_eq (omega arith) (makes-bind (makes-node UNKNOWN 0 0) (λ s _. makes-bind (u (links way s)) (λ m _. makes-relation way s (last m))))

  around : {n : ℕ} (ds : List Decl) (xs B : List ℕ) → Long (decls ds) xs → Long n B → Long (decls ds + n) (over xs B)
  around ds xs B h g = over-length xs B ∙ ap₂ ◌+◌ h g

  gathered : (c k : ℕ) (g h : ℕ × ℕ) → g ≡ h → c + (g.0 + k * g.1) ≡ c + (h.0 + k * h.1)
  gathered c k g h e = ap (λ (z : ℕ × ℕ). c + (z.0 + k * z.1)) e

  mutual
    unfolding walk nodes_expr exprs

    pub makes-walk : (e : Expr) (B : List ℕ) (n : ℕ) → Long n B → Makes Γ (nodes_expr Γ e n) (walk Γ e B) Any
    makes-walk (free p x) B n h = makes-expr p (makes-name x p)
    makes-walk (bound p i) B n h = makes-expr p (makes_eq (ap (λ (k : ℕ). length (index_excluded k i p)) h) (makes-counted B i p))
    makes-walk (literal p) B n h = makes-expr p (makes-node INTEGER 0 0)
    makes-walk (atomic p o) B n h = makes-expr p (makes_eq (atomic-made o) (makes_script _ _ _))
    makes-walk (extension p es) B n h = makes-expr p (makes_eq (omega arith) (makes-bind (makes-node UNKNOWN 0 0) (λ x _. makes-bind (makes_eq (each-nodes (nodes-all Γ es n) (exprs es) x) (makes-all es (each x) B n h)) (λ _ _. makes-node POWER x 0))))
    makes-walk (truth p q) B n h = makes-expr p (makes_eq (omega arith) (makes-bind (makes_pred q B n h) (λ _ _. makes-node BOOLEAN 0 0)))
    makes-walk (binary p o e f) B n h = makes-expr p (makes_eq (let g = binary-made o in omega arith) (makes-bind (makes-walk e B n h) (λ x _. makes-bind (makes-walk f B n h) (λ y _. makes_script _ _ _))))
    makes-walk (associative p o es) B n h = makes-expr p (makes_eq (gathered (nodes-all Γ es n) (exprs es) (gather_nodes (look associative_scripts no_script o)) (look associative_nodes (2, 0) o) (associative-made o)) (makes-gather (nodes-all Γ es n) (exprs es) (look associative_scripts no_script o) (λ m. walk_all Γ es m B) (λ m. makes-all es m B n h)))
    makes-walk (unary p o e) B n h = makes-expr p (makes_eq (let g = unary-made o in omega arith) (makes-bind (makes-walk e B n h) (λ x _. makes_script _ _ _)))
    makes-walk (quantified p o ds q e) B n h = makes-expr p (makes_eq (let g = quantified-made o in omega arith) (makes-bind (makes-declare ds) (λ xs g. makes-bind (makes_pred q (over xs B) (decls ds + n) (around ds xs B g h)) (λ _ _. makes-bind (makes-walk e (over xs B) (decls ds + n) (around ds xs B g h)) (λ x _. makes_script _ _ _)))))
    makes-walk (ascribed p e q s) B n h = makes-expr p (makes_eq (omega arith) (makes-bind (makes-walk e B n h) (λ x _. makes-bind (makes-ascription s x q p) (λ _ _. makes-done x tt))))
    makes-walk (explicit p t e) B n h = makes-enter (makes_eq (omega arith) (makes-bind (makes-walk e B n h) (λ x _. makes-bind (makes-meets t x (place e)) (λ _ _. makes-done x tt))))

    pub makes-all : (es : Exprs) (m : Mode) (B : List ℕ) (n : ℕ) → Long n B → Makes Γ (nodes-all Γ es n + exprs es * mode_nodes m) (walk_all Γ es m B) Any
    makes-all none m B n h = makes_eq (no_nodes (mode_nodes m)) (makes-done m tt)
    makes-all (more e es) m B n h = makes_eq (more-nodes (mode_nodes m) (nodes_expr Γ e n) (nodes-all Γ es n) (exprs es))
        (makes-stepped m (walk Γ e B) (place e) (λ m'. walk_all Γ es m' B) (makes-walk e B n h) (λ m' g. makes_eq (ap (λ (k : ℕ). nodes-all Γ es n + exprs es * k) g) (makes-all es m' B n h)))

    pub makes_pred : (q : Pred) (B : List ℕ) (n : ℕ) → Long n B → Makes Γ (nodes_pred Γ q n) (walk_pred Γ q B) Any
    makes_pred (constant p) B n h = makes-enter (makes-done tt tt)
    makes_pred (variable p) B n h = makes-enter (makes-done tt tt)
    makes_pred (relational p o e f) B n h = makes-enter (makes_eq (let g = relational-made o in omega arith) (makes-bind (makes-walk e B n h) (λ x _. makes-bind (makes-walk f B n h) (λ y _. makes-bind (makes-perform _ _ _ _) (λ _ _. makes-done tt tt)))))
    makes_pred (connective p q s) B n h = makes-enter (makes-bind (makes_pred q B n h) (λ _ _. makes_pred s B n h))
    makes_pred (junction p qs) B n h = makes-enter (makes-preds qs B n h)
    makes_pred (negation p q) B n h = makes-enter (makes_pred q B n h)
    makes_pred (quantification p ds q) B n h = makes-enter (makes-bind (makes-declare ds) (λ xs g. makes_pred q (over xs B) (decls ds + n) (around ds xs B g h)))
    makes_pred (simple p e) B n h = makes-enter (makes_eq (let g = simple-made in omega arith) (makes-bind (makes-walk e B n h) (λ x _. makes-bind (makes-perform _ _ _ _) (λ _ _. makes-done tt tt))))
    makes_pred (multiple p es) B n h = makes-enter (makes_eq (omega arith) (makes-bind (makes-node UNKNOWN 0 0) (λ x _. makes-bind (makes-node POWER x 0) (λ s _. makes-bind (makes_eq (each-nodes (nodes-all Γ es n) (exprs es) s) (makes-all es (each s) B n h)) (λ _ _. makes-done tt tt)))))
    makes_pred (application p es) B n h = makes-enter (makes_eq (loose-nodes (nodes-all Γ es n) (exprs es)) (makes-bind (makes-all es loose B n h) (λ _ _. makes-problem 5 p)))

    pub makes-preds : (qs : Preds) (B : List ℕ) (n : ℕ) → Long n B → Makes Γ (nodes-preds Γ qs n) (walk_preds Γ qs B) Any
    makes-preds end B n h = makes-done tt tt
    makes-preds (also q qs) B n h = makes-bind (makes_pred q B n h) (λ _ _. makes-preds qs B n h)

  makes-target : (t : Target) → Makes Γ 0 (target Γ t) Any
  unfolding target
  makes-target t = makes-expr t.place (makes-name t.name t.place)

  makes-pairs : (ts : List (Target × Expr)) → Makes Γ (pair_nodes Γ ts) (pairs Γ ts) Any
  unfolding pairs pair_nodes
  makes-pairs [] = makes-done tt tt
  makes-pairs (t ∷ ts) = makes_eq (omega arith) (makes-bind (makes-target t.0) (λ x _. makes-bind (makes-walk t.1 [] 0 refl) (λ y _. makes-bind (makes-same y x (place t.1)) (λ _ _. makes-pairs ts))))

  makes-products : (ts : List Target) (x : ℕ) → Makes Γ (targets ts) (products Γ ts x) Any
  unfolding products targets
  makes-products [] x = makes-done x tt
  makes-products (t ∷ ts) x = makes_eq (omega arith) (makes-bind (makes-target t) (λ y _. makes-bind (makes-node PRODUCT x y) (λ z _. makes-products ts z)))

  makes-targets : (ts : List Target) → Makes Γ 0 (targets_of Γ ts) Any
  unfolding targets_of
  makes-targets [] = makes-done [] tt
  makes-targets (t ∷ ts) = makes-bind (makes-target t) (λ x _. makes-bind (makes-targets ts) (λ xs _. makes-done (x ∷ xs) tt))

  makes-shares : (xs ys : List ℕ) (p : ℕ) → Makes Γ 0 (shares Γ xs ys p) Any
  unfolding shares
  makes-shares [] ys p = makes-done tt tt
  makes-shares (x ∷ xs) [] p = makes-done tt tt
  makes-shares (x ∷ xs) (y ∷ ys) p = makes-bind (makes-same y x p) (λ _ _. makes-shares xs ys p)

  makes-formula : (f : Formula) → Makes Γ (nodes_of Γ f) (walk_formula Γ f) Any
  unfolding walk_formula forget nodes_of
  makes-formula (expression e) = makes_eq (omega arith) (makes-bind (makes-walk e [] 0 refl) (λ _ _. makes-done tt tt))
  makes-formula (predicate q) = makes_pred q [] 0 refl
  makes-formula (becomes p ts) = makes-enter (makes-pairs ts)
  makes-formula (becomes_in p t ts e) = makes-enter (makes_eq (omega arith) (makes-bind (makes-target t) (λ x _. makes-bind (makes-products ts x) (λ y _. makes-bind (makes-node POWER y 0) (λ s _. makes-bind (makes-walk e [] 0 refl) (λ z _. makes-same z s (place e)))))))
  makes-formula (becomes_such p ts ds q) = makes-enter (makes_eq (omega arith) (makes-bind (makes-targets ts) (λ xs _. makes-bind (makes-declare ds) (λ ys g. makes-bind (makes-shares xs ys p) (λ _ _. makes_pred q (over ys []) (decls ds + 0) (around ds ys [] g refl))))))

-- the nodes of a formula are those of its records and, once for each name met, those of the name
pub walk-nodes : (Γ : Env) (f : Formula) → nodes (walked Γ f).ops ≡ nodes_of Γ f + met_nodes Γ (walked Γ f).row
unfolding walked met_nodes
walk-nodes Γ f = let e = (makes-formula Γ f).makes 0 [] in omega arith
