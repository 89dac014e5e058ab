-- The theorems of specs/Safe.antt: `safe-problem`, `safe-walk`, `safe-all`, `safe_pred`, `safe-preds`, `safe-formula`.
use Prim.Native.Nat.{ℕ, zero, suc, ◌+◌, ◌≤◌, ◌<◌}
use Rattle.std.specs.Prelude.{◌≡◌, true, ◌&&◌, leb}
use Rattle.std.proofs.Math.Path.{refl}
use mathlib.Core.List.{List, [], ◌∷◌}
use native.Mathlib.Omega.{arith}
use borrow.Author.Tests.{leb-true}
use Rattle.types.specs.Ty.{bool, int, given, Ty, base, pow, prod}
use Rattle.formula.specs.Environment.{Entry, lacks, holds, Env}
use Rattle.formula.specs.Tree.{Spelling, spells, no_type, Decl, plain, typed, annotated, Expr, free, bound, literal, atomic, extension, truth, binary, associative, unary, quantified, ascribed, explicit, Exprs, none, more, Pred, constant, variable, relational, connective, junction, negation, quantification, simple, multiple, application, Preds, end, also, Target, Formula, expression, predicate, becomes, becomes_in, becomes_such, place}
use Rattle.unification.specs.Trees.{and_left, and_right}
use Rattle.unification.specs.Ops.{nodes, Sound}
use Rattle.typing.specs.Equations.{b, c, d, Way, forward, backward, look}
use Rattle.walk.specs.Writer.{Row, Found, at, absent, find, W, done, problem, UNKNOWN, BOOLEAN, INTEGER, GIVEN, POWER, PRODUCT, unknown, boolean, integer, power}
use Rattle.walk.specs.Scripts.{Script, three, left, only, never_items, never_script, atomic_scripts, binary_scripts, unary_scripts, quantified_scripts, relational_scripts, simple_script, Gather, all_as, linked, no_script, associative_scripts}
use Rattle.walk.specs.Walk.{Mode, loose, each, links, relation, stepped, last, gather, from_env, known, counted, over, name, note_of, notes, meets, spelled, claim, at_decl, declare, ascription, expr, script_of, walk, walk_all, walk_pred, walk_preds, target, pairs, products, targets_of, shares, forget, walk_formula}
use Rattle.walk.specs.Tables.{claims, ref_ok, scoped, fits, quantified-fits, silent, gathers}
use Rattle.walk.proofs.Tables.{atomic-fits, binary-fits, unary-fits, relational-fits, associative-fits}
use Rattle.walk.specs.Theorem.{never-fits}
use Rattle.walk.specs.Safe.{AllIn, Safe, Nothing, safe-node, safe-lift, Below, ModeIn, safe-bind, safe-up, safe-same, safe_script, safe-done, SlotsIn, RowIn, safe-enrol, safe-own, all_up, safe-enter, safe-items}

all-over : (n : ℕ) (xs B : List ℕ) → AllIn n xs → AllIn n B → AllIn n (over xs B)
unfolding over
all-over n [] B h g = g
all-over n (x ∷ xs) B h g = all-over n xs (x ∷ B) h.1 (h.0, g)

pub safe-problem : {b : ℕ} (q p : ℕ) → Safe b (problem q p) Nothing
unfolding problem
safe-problem q p = record { safe = λ n l row r. (tt, λ z s e. (let q = r z s e in omega arith), tt, tt) }

safe_env : {b : ℕ} (e : Entry) → Safe b (from_env e) Below
unfolding from_env
safe_env lacks = safe-node UNKNOWN 0 0 (λ n l. (tt, λ _. refl))
safe_env (holds t) = safe-lift t

none_in : (b : ℕ) (args : ℕ → ℕ) (i : ℕ) → leb 1 i && leb i 0 ≡ true → args i < b
none_in b args i e = let p = leb-true 1 i (and_left (leb 1 i) (leb i 0) e) in let q = leb-true i 0 (and_right (leb 1 i) (leb i 0) e) in absurd (omega arith)

one_in : (b x : ℕ) → x < b → (i : ℕ) → leb 1 i && leb i 1 ≡ true → three 0 x 0 i < b
unfolding three
one_in b x h zero e = omega arith
one_in b x h (suc zero) e = h
one_in b x h (suc (suc i)) e = omega arith

two_in : (b x y : ℕ) → x < b → y < b → (i : ℕ) → leb 1 i && leb i 2 ≡ true → three 0 x y i < b
unfolding three
two_in b x y h g zero e = omega arith
two_in b x y h g (suc zero) e = h
two_in b x y h g (suc (suc i)) e = g

last_in : (n : ℕ) (m : Mode) → ModeIn n m → 0 < n → last m < n
unfolding last
last_in n loose h l = l
last_in n (each x) h l = h
last_in n (links way x) h l = h

safe-relation : {b : ℕ} (way : Way) (s t : ℕ) → s < b → t < b → Safe b (relation way s t) Below
unfolding relation
safe-relation forward s t h g = safe-bind (safe-node PRODUCT s t (λ n l. ((omega arith, omega arith), λ e. cc))) (λ x c l q. safe-node POWER x 0 (λ n k. (omega arith, λ _. refl)))
safe-relation backward s t h g = safe-bind (safe-node PRODUCT t s (λ n l. ((omega arith, omega arith), λ e. cc))) (λ x c l q. safe-node POWER x 0 (λ n k. (omega arith, λ _. refl)))

safe-fresh : {b : ℕ} → Safe b (unknown) Below
safe-fresh = safe-node UNKNOWN 0 0 (λ n l. (tt, λ _. refl))

safe-power : {b : ℕ} (x : ℕ) → x < b → Safe b (power x) Below
safe-power x h = safe-node POWER x 0 (λ n l. (omega arith, λ _. refl))

safe-int : {b : ℕ} → Safe b (integer) Below
safe-int = safe-node INTEGER 0 0 (λ n l. (tt, λ _. refl))

safe-bool : {b : ℕ} → Safe b (boolean) Below
safe-bool = safe-node BOOLEAN 0 0 (λ n l. (tt, λ _. refl))

mode_up : (b n : ℕ) (m : Mode) → b ≤ n → ModeIn b m → ModeIn n m
mode_up b n loose l h = tt
mode_up b n (each x) l h = omega arith
mode_up b n (links way x) l h = omega arith

safe-stepped : {b : ℕ} (m : Mode) (child : W ℕ) (p : ℕ) (rest : Mode → W Mode) → Safe b child Below → ((c : ℕ) (m' : Mode) → b ≤ c → ModeIn c m' → Safe c (rest m') ModeIn) → ModeIn b m → Safe b (stepped m child p rest) ModeIn
unfolding stepped
safe-stepped loose child p rest g h i = safe-bind g (λ x c l q. h c loose l tt)
safe-stepped (each y) child p rest g h i = safe-bind g (λ x c l q. safe-bind (safe-same x y p q (omega arith)) (λ _ d k w. h d (each y) (omega arith) (omega arith)))
safe-stepped (links way s) child p rest g h i =
    safe-bind safe-fresh (λ t c l q. safe-bind (safe-relation way s t (omega arith) q) (λ y d k w. safe-bind (safe-up (omega arith) g) (λ x f j v. safe-bind (safe-same x y p v (omega arith)) (λ _ o r u. h o (links way t) (omega arith) (omega arith)))))

safe-gather : {b : ℕ} (g : Gather) (rest : Mode → W Mode) → gathers g ≡ true → ((c : ℕ) (m' : Mode) → b ≤ c → ModeIn c m' → Safe c (rest m') ModeIn) → Safe b (gather g rest) Below
unfolding gather gathers
safe-gather {b = b} (all_as s) rest ok h = safe-bind (safe_script 0 b (three 0 0 0) (three 0 0 0) (none_in b (three 0 0 0)) s (and_left (fits 0 s) (silent (claims s.items)) ok)) (λ x c l q. safe-bind (h c (each x) l q) (λ _ d k w. safe-done x (λ n j. omega arith)))
safe-gather {b = b} no_script rest ok h = safe-bind (h b loose (omega arith) tt) (λ _ d k w. safe_script 0 d (three 0 0 0) (three 0 0 0) (none_in d (three 0 0 0)) never_script never-fits)
safe-gather (linked way) rest ok h = safe-bind safe-fresh (λ s c l q. safe-bind (h c (links way s) l q) (λ m d k w. safe-relation way s (last m) (omega arith) (last_in d m w (omega arith))))

-- ---- names, notes, declarations
module _ (Γ : Env) where
  safe-name : {b : ℕ} (x p : ℕ) → Safe b (name Γ x p) Below
  unfolding name known done
  safe-name {b = b} x p = record { safe = λ n l row r. go n l row r (find x row) refl }
    where
      go : (n : ℕ) → b ≤ n → (row : Row) → RowIn n row → (f : Found) → find x row ≡ f → Sound n (known (Γ x) x p f n row).ops × RowIn (n + nodes (known (Γ x) x p f n row).ops) (known (Γ x) x p f n row).row
          × SlotsIn (n + nodes (known (Γ x) x p f n row).ops) (known (Γ x) x p f n row).slots × ((known (Γ x) x p f n row).result < n + nodes (known (Γ x) x p f n row).ops)
      go n l row r (at s) e = (tt, λ z t q. (let w = r z t q in omega arith), tt, (let w = r x s e in omega arith))
      go n l row r absent e = (safe-bind {b = b} (safe_env (Γ x)) (λ s c k q. safe-enrol x p s q)).safe n l row r

  safe-note_of : {b : ℕ} (e : Entry) (x p : ℕ) → Safe b (note_of Γ e x p) Nothing
  unfolding note_of
  safe-note_of (holds t) x p = safe-done tt (λ n l. tt)
  safe-note_of lacks x p = safe-bind (safe-name x p) (λ t c l q. safe-bind (safe-node GIVEN x 0 (λ n k. (tt, λ _. refl))) (λ g d k w. safe-bind (safe-power g w) (λ s f j v. safe-same t s p (omega arith) v)))

  safe-notes : {b : ℕ} (t : Ty) (p : ℕ) → Safe b (notes Γ t p) Nothing
  unfolding notes
  safe-notes (base bool) p = safe-done tt (λ n l. tt)
  safe-notes (base int) p = safe-done tt (λ n l. tt)
  safe-notes (base (given x)) p = safe-note_of (Γ x) x p
  safe-notes (pow t) p = safe-notes t p
  safe-notes (prod t u) p = safe-bind (safe-notes t p) (λ _ c l q. safe-notes u p)

  safe-meets : {b : ℕ} (t : Ty) (x p : ℕ) → x < b → Safe b (meets Γ t x p) Nothing
  unfolding meets
  safe-meets t x p h = safe-bind (safe-lift t) (λ y c l q. safe-same x y p (omega arith) q)

  safe-spelled : {b : ℕ} (t : Ty) (x p q : ℕ) → x < b → Safe b (spelled Γ t x p q) Nothing
  unfolding spelled
  safe-spelled t x p q h = safe-bind (safe-notes t p) (λ _ c l w. safe-meets t x q (omega arith))

  safe-claim : {b : ℕ} (d : Decl) (x : ℕ) → x < b → Safe b (claim Γ d x) Nothing
  unfolding claim
  safe-claim (plain p) x h = safe-done tt (λ n l. tt)
  safe-claim (typed p t) x h = safe-meets t x p h
  safe-claim (annotated p (spells t)) x h = safe-spelled t x p p h
  safe-claim (annotated p no_type) x h = safe-done tt (λ n l. tt)

  safe-ascription : {b : ℕ} (s : Spelling) (x q p : ℕ) → x < b → Safe b (ascription Γ s x q p) Nothing
  unfolding ascription
  safe-ascription (spells t) x q p h = safe-spelled t x q p h
  safe-ascription no_type x q p h = safe-problem 0 q

  safe-declare : {b : ℕ} (ds : List Decl) → Safe b (declare Γ ds) AllIn
  unfolding declare
  safe-declare [] = safe-done [] (λ n l. tt)
  safe-declare (d ∷ ds) = safe-bind (safe-enter (safe-own (at_decl Γ d) safe-fresh)) (λ x c l q. safe-bind (safe-claim d x q) (λ _ e k w. safe-bind (safe-declare ds) (λ xs f j v. safe-done (x ∷ xs) (λ n i. (omega arith, all_up f n xs i v)))))

  safe-counted : {b : ℕ} (xs : List ℕ) (i p : ℕ) → AllIn b xs → Safe b (counted xs i p) Below
  unfolding counted
  safe-counted [] i p h = safe-bind (safe-problem 4 p) (λ _ c l q. safe-fresh)
  safe-counted (x ∷ xs) zero p h = let q = h.0 in safe-done x (λ n l. omega arith)
  safe-counted (x ∷ xs) (suc i) p h = safe-counted xs i p h.1

  safe-expr : {b : ℕ} {m : W ℕ} (p : ℕ) → Safe b m Below → Safe b (expr Γ p m) Below
  unfolding expr
  safe-expr p g = safe-enter (safe-own p g)

  safe_ruled : {b : ℕ} (k : ℕ) (s : Script) (args places : ℕ → ℕ) → ((i : ℕ) → leb 1 i && leb i k ≡ true → args i < b) → fits k s ≡ true → Safe b (script_of Γ s args places) Below
  unfolding script_of
  safe_ruled {b = b} k s args places h ok = safe_script k b args places h s ok

  simple-ok : scoped 1 0 simple_script ≡ true
  unfolding scoped ref_ok
  simple-ok = refl

  mutual
    unfolding walk

    pub safe-walk : (e : Expr) (b : ℕ) (B : List ℕ) → AllIn b B → Safe b (walk Γ e B) Below
    safe-walk (free p x) b B h = safe-expr p (safe-name x p)
    safe-walk (bound p i) b B h = safe-expr p (safe-counted B i p h)
    safe-walk (literal p) b B h = safe-expr p (safe-int)
    safe-walk (atomic p o) b B h = safe-expr p (safe_ruled 0 (look atomic_scripts never_script o) (three 0 0 0) (three p p p) (none_in b (three 0 0 0)) (atomic-fits o))
    safe-walk (extension p es) b B h = safe-expr p (safe-bind safe-fresh (λ x c l q. safe-bind (safe-all es c B (each x) (all_up b c B l h) q) (λ _ d k w. safe-power x (omega arith))))
    safe-walk (truth p c) b B h = safe-expr p (safe-bind (safe_pred c b B h) (λ _ d l q. safe-bool))
    safe-walk (binary p o e f) b B h = safe-expr p (safe-bind (safe-walk e b B h) (λ x c l q. safe-bind (safe-walk f c B (all_up b c B l h))
        (λ y d k w. safe_ruled 2 (look binary_scripts never_script o) (three 0 x y) (three p (place e) (place f)) (two_in d x y (omega arith) w) (binary-fits o))))
    safe-walk (associative p o es) b B h = safe-expr p (safe-gather (look associative_scripts no_script o) (λ m. walk_all Γ es m B) (associative-fits o) (λ c m l i. safe-all es c B m (all_up b c B l h) i))
    safe-walk (unary p o e) b B h = safe-expr p (safe-bind (safe-walk e b B h) (λ x c l q. safe_ruled 1 (look unary_scripts never_script o) (three 0 x 0) (three p (place e) 0) (one_in c x q) (unary-fits o)))
    safe-walk (quantified p o ds c e) b B h = safe-expr p (safe-bind (safe-declare ds) (λ xs d l q. safe-bind (safe_pred c d (over xs B) (all-over d xs B q (all_up b d B l h)))
        (λ _ f k w. safe-bind (safe-walk e f (over xs B) (all_up d f (over xs B) k (all-over d xs B q (all_up b d B l h)))) (λ x g j v. safe_ruled 1 (look quantified_scripts never_script o) (three 0 x 0) (three p (place e) 0) (one_in g x v) (quantified-fits o)))))
    safe-walk (ascribed p e r s) b B h = safe-expr p (safe-bind (safe-walk e b B h) (λ x c l q. safe-bind (safe-ascription s x r p q) (λ _ d k w. safe-done x (λ n j. omega arith))))
    safe-walk (explicit p t e) b B h = safe-enter (safe-bind (safe-walk e b B h) (λ x c l q. safe-bind (safe-meets t x (place e) q) (λ _ d k w. safe-done x (λ n j. omega arith))))

    pub safe-all : (es : Exprs) (b : ℕ) (B : List ℕ) (m : Mode) → AllIn b B → ModeIn b m → Safe b (walk_all Γ es m B) ModeIn
    safe-all none b B m h i = safe-done m (λ n l. mode_up b n m l i)
    safe-all (more e es) b B m h i = safe-stepped m (walk Γ e B) (place e) (λ m'. walk_all Γ es m' B) (safe-walk e b B h) (λ c m' l j. safe-all es c B m' (all_up b c B l h) j) i

    pub safe_pred : (c : Pred) (b : ℕ) (B : List ℕ) → AllIn b B → Safe b (walk_pred Γ c B) Nothing
    safe_pred (constant p) b B h = safe-enter (safe-done tt (λ n l. tt))
    safe_pred (variable p) b B h = safe-enter (safe-done tt (λ n l. tt))
    safe_pred (relational p o e f) b B h = safe-enter (safe-bind (safe-walk e b B h) (λ x c i q. safe-bind (safe-walk f c B (all_up b c B i h))
        (λ y d k w. safe-bind (safe-items 2 d (three 0 x y) (three p (place e) (place f)) (two_in d x y (omega arith) w) (look relational_scripts never_items o) left (relational-fits o)) (λ _ f j v. safe-done tt (λ n i. tt)))))
    safe_pred (connective p c d) b B h = safe-enter (safe-bind (safe_pred c b B h) (λ _ f l q. safe_pred d f B (all_up b f B l h)))
    safe_pred (junction p cs) b B h = safe-enter (safe-preds cs b B h)
    safe_pred (negation p c) b B h = safe-enter (safe_pred c b B h)
    safe_pred (quantification p ds c) b B h = safe-enter (safe-bind (safe-declare ds) (λ xs d l q. safe_pred c d (over xs B) (all-over d xs B q (all_up b d B l h))))
    safe_pred (simple p e) b B h = safe-enter (safe-bind (safe-walk e b B h) (λ x c k q. safe-bind (safe-items 1 c (three 0 x 0) (three p (place e) 0) (one_in c x q) simple_script only simple-ok) (λ _ f j v. safe-done tt (λ n i. tt))))
    safe_pred (multiple p es) b B h = safe-enter (safe-bind safe-fresh (λ x c l q. safe-bind (safe-power x q) (λ s d k w. safe-bind (safe-all es d B (each s) (all_up b d B (omega arith) h) w) (λ _ f j v. safe-done tt (λ n i. tt)))))
    safe_pred (application p es) b B h = safe-enter (safe-bind (safe-all es b B loose h tt) (λ _ c l q. safe-problem 5 p))

    pub safe-preds : (cs : Preds) (b : ℕ) (B : List ℕ) → AllIn b B → Safe b (walk_preds Γ cs B) Nothing
    safe-preds end b B h = safe-done tt (λ n l. tt)
    safe-preds (also c cs) b B h = safe-bind (safe_pred c b B h) (λ _ d l q. safe-preds cs d B (all_up b d B l h))

  -- ---- assignments
  safe-target : {b : ℕ} (t : Target) → Safe b (target Γ t) Below
  unfolding target
  safe-target t = safe-expr t.place (safe-name t.name t.place)

  safe-pairs : {b : ℕ} (ts : List (Target × Expr)) → Safe b (pairs Γ ts) Nothing
  unfolding pairs
  safe-pairs [] = safe-done tt (λ n l. tt)
  safe-pairs (t ∷ ts) = safe-bind (safe-target t.0) (λ x c l q. safe-bind (safe-walk t.1 c [] tt) (λ y d k w. safe-bind (safe-same y x (place t.1) w (omega arith)) (λ _ f j v. safe-pairs ts)))

  safe-products : {b : ℕ} (ts : List Target) (x : ℕ) → x < b → Safe b (products Γ ts x) Below
  unfolding products
  safe-products [] x h = safe-done x (λ n l. omega arith)
  safe-products (t ∷ ts) x h = safe-bind (safe-target t) (λ y c l q. safe-bind (safe-node PRODUCT x y (λ n k. ((omega arith, omega arith), λ e. cc))) (λ z d k w. safe-products ts z w))

  safe-targets : {b : ℕ} (ts : List Target) → Safe b (targets_of Γ ts) AllIn
  unfolding targets_of
  safe-targets [] = safe-done [] (λ n l. tt)
  safe-targets (t ∷ ts) = safe-bind (safe-target t) (λ x c l q. safe-bind (safe-targets ts) (λ xs d k w. safe-done (x ∷ xs) (λ n i. (omega arith, all_up d n xs i w))))

  safe-shares : {b : ℕ} (xs ys : List ℕ) (p : ℕ) → AllIn b xs → AllIn b ys → Safe b (shares Γ xs ys p) Nothing
  unfolding shares
  safe-shares [] ys p h g = safe-done tt (λ n l. tt)
  safe-shares (x ∷ xs) [] p h g = safe-done tt (λ n l. tt)
  safe-shares {b = b} (x ∷ xs) (y ∷ ys) p h g = safe-bind (safe-same y x p g.0 h.0) (λ _ c l q. safe-shares xs ys p (all_up b c xs l h.1) (all_up b c ys l g.1))

  pub safe-formula : (f : Formula) → Safe 0 (walk_formula Γ f) Nothing
  unfolding walk_formula forget
  safe-formula (expression e) = safe-bind (safe-walk e 0 [] tt) (λ _ c l q. safe-done tt (λ n k. tt))
  safe-formula (predicate q) = safe_pred q 0 [] tt
  safe-formula (becomes p ts) = safe-enter (safe-pairs ts)
  safe-formula (becomes_in p t ts e) = safe-enter (safe-bind (safe-target t) (λ x c l q. safe-bind (safe-products ts x q) (λ y d k w. safe-bind (safe-power y w) (λ s f j v. safe-bind (safe-walk e f [] tt) (λ z g i u. safe-same z s (place e) u (omega arith))))))
  safe-formula (becomes_such p ts ds q) = safe-enter (safe-bind (safe-targets ts) (λ xs c l h. safe-bind (safe-declare ds) (λ ys d k w. safe-bind (safe-shares xs ys p (all_up c d xs k h) w) (λ _ f j v. safe_pred q f (over ys []) (all-over f ys [] (all_up d f ys j w) tt)))))
