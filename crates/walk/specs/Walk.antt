-- The walk over a tree: what is paid, made, compared and listed, record by record, in the Rust's order.
-- It is a total function of the tree and the environment. After this file a reader knows the operations of every formula, the
-- references of its slots and of the names it meets, and the place of every comparison and problem.
use Rattle.std.specs.Prelude.{ℕ, zero, suc}
use mathlib.Core.List.{List, [], ◌∷◌}
use Rattle.types.specs.Ty.{Atom, bool, int, given, Ty, base, pow, prod}
use Rattle.formula.specs.Environment.{Entry, lacks, holds, Env}
use Rattle.formula.specs.Tree.{Spelling, spells, no_type, Decl, plain, typed, annotated, Expr, free, bound, literal, atomic, extension, truth, binary, associative, unary, quantified, ascribed, explicit, Exprs, none, more, Pred, constant, variable, relational, connective, junction, negation, quantification, simple, multiple, application, Preds, end, also, Target, Formula, expression, predicate, becomes, becomes_in, becomes_such, place}
use Rattle.typing.specs.Equations.{Way, forward, backward, look}
use Rattle.walk.specs.Writer.{Found, at, absent, find, Walk, W, done, ◌>>=◌, enter, own, node, unknown, boolean, integer, given_set, power, pair, same, problem, enrol}
use Rattle.walk.specs.Scripts.{Script, perform, three, left, only, never_items, never_script, atomic_scripts, binary_scripts, unary_scripts, quantified_scripts, relational_scripts, simple_script, Gather, all_as, linked, no_script, associative_scripts}

-- ---- rows of expressions: walked and no more, each compared with a node, or each linked to the one before it
pub data Mode : Type 0 where
  loose : Mode
  each : ℕ → Mode
  links : Way → ℕ → Mode  -- the node where the next link starts

-- a relation from s to t, or back

unfoldable pub relation : Way → ℕ → ℕ → W ℕ
unfolding ◌>>=◌ node
relation forward s t = pair s t >>= λ x. power x
relation backward s t = pair t s >>= λ x. power x

-- one child, and the rest: a comparison comes after the child's walk, at the child's place; a link's nodes come before it
unfoldable pub stepped : Mode → W ℕ → ℕ → (Mode → W Mode) → W Mode
unfolding ◌>>=◌ node relation same
stepped loose child p rest = child >>= λ x. rest loose
stepped (each y) child p rest = child >>= λ x. same x y p >>= λ _. rest (each y)
stepped (links way s) child p rest = unknown >>= λ t. relation way s t >>= λ y. child >>= λ x. same x y p >>= λ _. rest (links way t)

-- where the last link ended
unfoldable pub last : Mode → ℕ
last loose = 0
last (each x) = x
last (links way x) = x

-- 08: a script's nodes come before all children; links start from an unknown, and the whole relation is made after all children
unfoldable pub gather : Gather → (Mode → W Mode) → W ℕ
unfolding ◌>>=◌ node done relation perform three last
gather (all_as s) rest = perform s.items s.gives (three 0 0 0) (three 0 0 0) >>= λ x. rest (each x) >>= λ _. done x
gather no_script rest = rest loose >>= λ _. perform never_script.items never_script.gives (three 0 0 0) (three 0 0 0)
gather (linked way) rest = unknown >>= λ s. rest (links way s) >>= λ m. relation way s (last m)

-- ---- types, names, notes, declarations
unfoldable pub atom : Atom → W ℕ
unfolding node
atom bool = boolean
atom int = integer
atom (given x) = given_set x

-- a type's nodes: parts first, left first
unfoldable pub lift : Ty → W ℕ
unfolding atom node ◌>>=◌
lift (base p) = atom p
lift (pow t) = lift t >>= λ x. power x
lift (prod t u) = lift t >>= λ x. lift u >>= λ y. pair x y

-- the first meeting of a name: the environment's type is lifted, or an unknown is made
unfoldable pub from_env : Entry → W ℕ
unfolding lift node
from_env lacks = unknown
from_env (holds t) = lift t

-- a name met before has its reference; another joins the row
unfoldable pub known : Entry → ℕ → ℕ → Found → W ℕ
unfolding from_env done enrol ◌>>=◌
known e x p (at r) = done r
known e x p absent = from_env e >>= λ r. enrol x p r

-- an index, counted from the innermost declaration; past all of them problem 4 is listed and an unknown made
unfoldable pub counted : List ℕ → ℕ → ℕ → W ℕ
unfolding done problem node ◌>>=◌
counted [] i p = problem 4 p >>= λ _. unknown
counted (x ∷ xs) zero p = done x
counted (x ∷ xs) (suc i) p = counted xs i p

-- references of declarations, the last declared first, before those around them
unfoldable pub over : List ℕ → List ℕ → List ℕ
over [] xs = xs
over (y ∷ ys) xs = over ys (y ∷ xs)

module _ (Γ : Env) where
  -- a name met at p
  unfoldable pub name : ℕ → ℕ → W ℕ
  unfolding known find
  name x p n row = known (Γ x) x p (find x row) n row

  -- a given name is noted where the environment lacks it: it must have the type of a set of itself
  unfoldable pub note_of : Entry → ℕ → ℕ → W (Unit {0})
  unfolding done name node same ◌>>=◌
  note_of (holds t) x p = done tt
  note_of lacks x p = name x p >>= λ t. given_set x >>= λ g. power g >>= λ s. same t s p

  -- every occurrence in a spelled type, from left to right
  unfoldable pub notes : Ty → ℕ → W (Unit {0})
  unfolding done note_of ◌>>=◌
  notes (base bool) p = done tt
  notes (base int) p = done tt
  notes (base (given x)) p = note_of (Γ x) x p
  notes (pow t) p = notes t p
  notes (prod t u) p = notes t p >>= λ _. notes u p

  -- a type compared with a reference
  unfoldable pub meets : Ty → ℕ → ℕ → W (Unit {0})
  unfolding lift same ◌>>=◌
  meets t x p = lift t >>= λ y. same x y p

  -- a spelled type: notes at p, then its comparison at q
  unfoldable pub spelled : Ty → ℕ → ℕ → ℕ → W (Unit {0})
  unfolding notes meets ◌>>=◌
  spelled t x p q = notes t p >>= λ _. meets t x q

  -- 10, 11, 12: what a declaration asks of its unknown x
  unfoldable pub claim : Decl → ℕ → W (Unit {0})
  unfolding done meets spelled
  claim (plain p) x = done tt
  claim (typed p t) x = meets t x p
  claim (annotated p (spells t)) x = spelled t x p p
  claim (annotated p no_type) x = done tt

  unfoldable pub at_decl : Decl → ℕ
  at_decl (plain p) = p
  at_decl (typed p t) = p
  at_decl (annotated p s) = p

  unfoldable pub declare : List Decl → W (List ℕ)
  unfolding done enter own node claim at_decl ◌>>=◌
  declare [] = done []
  declare (d ∷ ds) = enter (own (at_decl d) (unknown)) >>= λ x. claim d x >>= λ _. declare ds >>= λ xs. done (x ∷ xs)

  -- 0B: x is the expression's reference, q where the type or 4F starts, p the record's place
  unfoldable pub ascription : Spelling → ℕ → ℕ → ℕ → W (Unit {0})
  unfolding spelled problem
  ascription (spells t) x q p = spelled t x q p
  ascription no_type x q p = problem 0 q

  -- an expression record other than 0C: its unit, its slot
  unfoldable pub expr : ℕ → W ℕ → W ℕ
  unfolding enter own
  expr p m = enter (own p m)

  unfoldable pub script_of : Script → (ℕ → ℕ) → (ℕ → ℕ) → W ℕ
  unfolding perform
  script_of s = perform s.items s.gives

  -- ---- the walk proper; B: references of the declarations around, innermost first
  unfoldable mutual
    pub walk : Expr → List ℕ → W ℕ
    walk (free p x) B = expr p (name x p)
    walk (bound p i) B = expr p (counted B i p)
    walk (literal p) B = expr p (integer)
    walk (atomic p o) B = expr p (script_of (look atomic_scripts never_script o) (three 0 0 0) (three p p p))
    walk (extension p es) B = expr p (unknown >>= λ x. walk_all es (each x) B >>= λ _. power x)
    walk (truth p q) B = expr p (walk_pred q B >>= λ _. boolean)
    walk (binary p o e f) B = expr p (walk e B >>= λ x. walk f B >>= λ y. script_of (look binary_scripts never_script o) (three 0 x y) (three p (place e) (place f)))
    walk (associative p o es) B = expr p (gather (look associative_scripts no_script o) (λ m. walk_all es m B))
    walk (unary p o e) B = expr p (walk e B >>= λ x. script_of (look unary_scripts never_script o) (three 0 x 0) (three p (place e) 0))
    walk (quantified p o ds q e) B = expr p (declare ds >>= λ xs. walk_pred q (over xs B) >>= λ _. walk e (over xs B) >>= λ x. script_of (look quantified_scripts never_script o) (three 0 x 0) (three p (place e) 0))
    walk (ascribed p e q s) B = expr p (walk e B >>= λ x. ascription s x q p >>= λ _. done x)
    walk (explicit p t e) B = enter (walk e B >>= λ x. meets t x (place e) >>= λ _. done x)

    pub walk_all : Exprs → Mode → List ℕ → W Mode
    walk_all none m B = done m
    walk_all (more e es) m B = stepped m (walk e B) (place e) (λ m'. walk_all es m' B)

    pub walk_pred : Pred → List ℕ → W (Unit {0})
    walk_pred (constant p) B = enter (done tt)
    walk_pred (variable p) B = enter (done tt)
    walk_pred (relational p o e f) B = enter (walk e B >>= λ x. walk f B >>= λ y. perform (look relational_scripts never_items o) left (three 0 x y) (three p (place e) (place f)) >>= λ _. done tt)
    walk_pred (connective p q s) B = enter (walk_pred q B >>= λ _. walk_pred s B)
    walk_pred (junction p qs) B = enter (walk_preds qs B)
    walk_pred (negation p q) B = enter (walk_pred q B)
    walk_pred (quantification p ds q) B = enter (declare ds >>= λ xs. walk_pred q (over xs B))
    walk_pred (simple p e) B = enter (walk e B >>= λ x. perform simple_script only (three 0 x 0) (three p (place e) 0) >>= λ _. done tt)
    walk_pred (multiple p es) B = enter (unknown >>= λ x. power x >>= λ s. walk_all es (each s) B >>= λ _. done tt)
    walk_pred (application p es) B = enter (walk_all es loose B >>= λ _. problem 5 p)

    pub walk_preds : Preds → List ℕ → W (Unit {0})
    walk_preds end B = done tt
    walk_preds (also q qs) B = walk_pred q B >>= λ _. walk_preds qs B

  -- ---- assignments
  unfoldable pub target : Target → W ℕ
  target t = expr t.place (name t.name t.place)

  -- 30: value against target, at the value
  unfoldable pub pairs : List (Target × Expr) → W (Unit {0})
  pairs [] = done tt
  pairs (t ∷ ts) = target t.0 >>= λ x. walk t.1 [] >>= λ y. same y x (place t.1) >>= λ _. pairs ts

  -- 31: the left-nested product, a node right after each target from the second on
  unfoldable pub products : List Target → ℕ → W ℕ
  products [] x = done x
  products (t ∷ ts) x = target t >>= λ y. pair x y >>= λ z. products ts z

  unfoldable pub targets_of : List Target → W (List ℕ)
  targets_of [] = done []
  targets_of (t ∷ ts) = target t >>= λ x. targets_of ts >>= λ xs. done (x ∷ xs)

  -- 32: each declaration against its target, at the assignment
  unfoldable pub shares : List ℕ → List ℕ → ℕ → W (Unit {0})
  shares [] ys p = done tt
  shares (x ∷ xs) [] p = done tt
  shares (x ∷ xs) (y ∷ ys) p = same y x p >>= λ _. shares xs ys p

  unfoldable pub forget : {A : Type 0} → W A → W (Unit {0})
  forget m = m >>= λ _. done tt

  unfoldable pub walk_formula : Formula → W (Unit {0})
  walk_formula (expression e) = forget (walk e [])
  walk_formula (predicate q) = walk_pred q []
  walk_formula (becomes p ts) = enter (pairs ts)
  walk_formula (becomes_in p t ts e) = enter (target t >>= λ x. products ts x >>= λ y. power y >>= λ s. walk e [] >>= λ z. same z s (place e))
  walk_formula (becomes_such p ts ds q) = enter (targets_of ts >>= λ xs. declare ds >>= λ ys. shares xs ys p >>= λ _. walk_pred q (over ys []))

  -- a formula's operations, its slots and the names met
  unfoldable pub walked : Formula → Walk (Unit {0})
  walked f = walk_formula f 0 []
