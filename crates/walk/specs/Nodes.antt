-- How many nodes a formula makes, record by record, read off its tree. After this file a reader can tell the capacity that a formula
-- needs: what its records make, and once for each name met what the environment's type of it takes, or one where it is lacking.
-- Theorems that rest on what must-fail edits change stand in proofs/Nodes.antt.
use Prim.Native.Nat.{ℕ, suc, ◌+◌, ◌*◌}
use Rattle.std.specs.Prelude.{◌≡◌, length}
use mathlib.Core.List.{List, [], ◌∷◌}
use Rattle.types.specs.Ty.{Ty, base, pow, prod}
use Rattle.formula.specs.Environment.{Entry, lacks, holds, Env}
use Rattle.formula.specs.Tree.{Spelling, spells, no_type, Decl, plain, typed, annotated, Expr, free, bound, literal, atomic, extension, truth, binary, associative, unary, quantified, ascribed, explicit, Exprs, none, more, Pred, constant, variable, relational, connective, junction, negation, quantification, simple, multiple, application, Preds, end, also, Target, Formula, expression, predicate, becomes, becomes_in, becomes_such, decls, exprs, targets}
use Rattle.unification.specs.Ops.{nodes}
use Rattle.typing.specs.Equations.{look}
use Rattle.typing.specs.Typings.{index_excluded, notings}
use Rattle.walk.specs.Writer.{Row, W}
use Rattle.walk.specs.Walk.{Mode, loose, each, links}

-- ---- the tables: the last operator number of a row, and the nodes that its operators make
unfoldable pub atomic_nodes : List (ℕ × ℕ)
atomic_nodes = (2, 2) ∷ (3, 2) ∷ (5, 1) ∷ (7, 4) ∷ (8, 2) ∷ (9, 3) ∷ (10, 5) ∷ (11, 5) ∷ []

unfoldable pub binary_nodes : List (ℕ × ℕ)
binary_nodes = (0, 1) ∷ (11, 7) ∷ (12, 2) ∷ (13, 6) ∷ (14, 10) ∷ (15, 12) ∷ (17, 5) ∷ (19, 5) ∷ (20, 2) ∷ (24, 1) ∷ (25, 4) ∷ (26, 6) ∷ []

unfoldable pub unary_nodes : List (ℕ × ℕ)
unary_nodes = (0, 3) ∷ (2, 3) ∷ (4, 3) ∷ (5, 5) ∷ (6, 5) ∷ (8, 2) ∷ (9, 6) ∷ (10, 1) ∷ []

unfoldable pub quantified_nodes : List (ℕ × ℕ)
quantified_nodes = (1, 2) ∷ (2, 1) ∷ []

unfoldable pub relational_nodes : List (ℕ × ℕ)
relational_nodes = (1, 0) ∷ (5, 1) ∷ (7, 1) ∷ (11, 2) ∷ []

-- of an associative operator: its own, and those of each child
unfoldable pub associative_nodes : List (ℕ × (ℕ × ℕ))
associative_nodes = (1, (2, 0)) ∷ (2, (4, 0)) ∷ (3, (3, 3)) ∷ (4, (3, 3)) ∷ (6, (1, 0)) ∷ []

-- ---- types and names
unfoldable pub size : Ty → ℕ
size (base p) = 1
size (pow t) = suc (size t)
size (prod t u) = suc (size t + size u)

-- a name met for the first time
unfoldable pub entry_nodes : Entry → ℕ
entry_nodes lacks = 1
entry_nodes (holds t) = size t

unfoldable pub met_nodes : Env → Row → ℕ
met_nodes Γ [] = 0
met_nodes Γ (m ∷ ms) = entry_nodes (Γ m.name) + met_nodes Γ ms

-- ---- the records; n: how many declarations are around. Names are counted apart
module _ (Γ : Env) where
  -- two for each occurrence that is noted, then the type itself
  unfoldable pub spelled_nodes : Ty → ℕ
  spelled_nodes t = 2 * length (notings Γ t 0) + size t

  unfoldable pub spelling_nodes : Spelling → ℕ
  spelling_nodes (spells t) = spelled_nodes t
  spelling_nodes no_type = 0

  unfoldable pub decl_nodes : Decl → ℕ
  decl_nodes (plain p) = 0
  decl_nodes (typed p t) = size t
  decl_nodes (annotated p s) = spelling_nodes s

  unfoldable pub decls_nodes : List Decl → ℕ
  decls_nodes [] = 0
  decls_nodes (d ∷ ds) = suc (decl_nodes d + decls_nodes ds)

  unfoldable mutual
    pub nodes_expr : Expr → ℕ → ℕ
    nodes_expr (free p x) n = 0
    nodes_expr (bound p i) n = length (index_excluded n i p)
    nodes_expr (literal p) n = 1
    nodes_expr (atomic p o) n = look atomic_nodes 2 o
    nodes_expr (extension p es) n = 2 + nodes-all es n
    nodes_expr (truth p q) n = 1 + nodes_pred q n
    nodes_expr (binary p o e f) n = nodes_expr e n + nodes_expr f n + look binary_nodes 2 o
    nodes_expr (associative p o es) n = nodes-all es n + ((look associative_nodes (2, 0) o).0 + exprs es * (look associative_nodes (2, 0) o).1)
    nodes_expr (unary p o e) n = nodes_expr e n + look unary_nodes 2 o
    nodes_expr (quantified p o ds q e) n = decls_nodes ds + nodes_pred q (decls ds + n) + nodes_expr e (decls ds + n) + look quantified_nodes 2 o
    nodes_expr (ascribed p e q s) n = nodes_expr e n + spelling_nodes s
    nodes_expr (explicit p t e) n = nodes_expr e n + size t

    pub nodes-all : Exprs → ℕ → ℕ
    nodes-all none n = 0
    nodes-all (more e es) n = nodes_expr e n + nodes-all es n

    pub nodes_pred : Pred → ℕ → ℕ
    nodes_pred (constant p) n = 0
    nodes_pred (variable p) n = 0
    nodes_pred (relational p o e f) n = nodes_expr e n + nodes_expr f n + look relational_nodes 2 o
    nodes_pred (connective p q s) n = nodes_pred q n + nodes_pred s n
    nodes_pred (junction p qs) n = nodes-preds qs n
    nodes_pred (negation p q) n = nodes_pred q n
    nodes_pred (quantification p ds q) n = decls_nodes ds + nodes_pred q (decls ds + n)
    nodes_pred (simple p e) n = nodes_expr e n + 2
    nodes_pred (multiple p es) n = 2 + nodes-all es n
    nodes_pred (application p es) n = nodes-all es n

    pub nodes-preds : Preds → ℕ → ℕ
    nodes-preds end n = 0
    nodes-preds (also q qs) n = nodes_pred q n + nodes-preds qs n

  unfoldable pub pair_nodes : List (Target × Expr) → ℕ
  pair_nodes [] = 0
  pair_nodes (t ∷ ts) = nodes_expr t.1 0 + pair_nodes ts

  unfoldable pub nodes_of : Formula → ℕ
  nodes_of (expression e) = nodes_expr e 0
  nodes_of (predicate q) = nodes_pred q 0
  nodes_of (becomes p ts) = pair_nodes ts
  nodes_of (becomes_in p t ts e) = targets ts + 1 + nodes_expr e 0
  nodes_of (becomes_such p ts ds q) = decls_nodes ds + nodes_pred q (decls ds + 0)

-- ---- a piece makes c nodes, beside those of the names it meets first, and hands on something of which Q holds
pub record Makes {A : Type 0} (Γ : Env) (c : ℕ) (m : W A) (Q : A → Type 0) : Type 0 where
  pub makes : (n : ℕ) (row : Row) → nodes (m n row).ops + met_nodes Γ row ≡ c + met_nodes Γ (m n row).row
  pub hands : (n : ℕ) (row : Row) → Q (m n row).result

-- what a mode makes for each child
unfoldable pub mode_nodes : Mode → ℕ
mode_nodes loose = 0
mode_nodes (each x) = 0
mode_nodes (links way x) = 3
