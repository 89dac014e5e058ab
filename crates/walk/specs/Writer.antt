-- How the walk is written down: a piece of it says, from the count of nodes and the names met so far, which operations it adds, what
-- it hands on, which names have been met after it and which slots it fills. What a comparison answers enters nowhere.
-- After this file a reader knows what a piece of the walk is, and how two are put one after the other.
use Rattle.std.specs.Prelude.{ℕ, ◌+◌, Bool, true, false, List, [], ◌∷◌, ◌++◌, eqb}
use Rattle.unification.specs.Ops.{Op, pay, make, compare, list, nodes}

-- ---- names as met, whether the environment holds them or not: name, reference, first place
pub record Met : Type 0 where
  pub name : ℕ
  pub ref : ℕ
  pub place : ℕ

abbrev pub Row : Type 0
Row = List Met

pub data Found : Type 0 where
  at : ℕ → Found
  absent : Found

unfoldable pub found : Bool → ℕ → Found → Found
found true r f = at r
found false r f = f

unfoldable pub find : ℕ → Row → Found
unfolding found
find x [] = absent
find x (m ∷ ms) = found (eqb x m.name) m.ref (find x ms)

-- ---- a piece of the walk: its operations, its result, the row after it, its slots (reference, place)
pub record Walk (A : Type 0) : Type 0 where
  pub ops : List Op
  pub result : A
  pub row : Row
  pub slots : List (ℕ × ℕ)

-- from the count of nodes and the row before it
abbrev pub W : Type 0 → Type 0
W A = ℕ → Row → Walk A

unfoldable pub done : {A : Type 0} → A → W A
done x n row = record { ops = []; result = x; row = row; slots = [] }

unfoldable pub glue : {A B : Type 0} → Walk A → Walk B → Walk B
glue x y = record { ops = x.ops ++ y.ops; result = y.result; row = y.row; slots = x.slots ++ y.slots }

infixl 20 ◌>>=◌
-- one piece, then another: the second counts on from the nodes of the first
unfoldable pub ◌>>=◌ : {A B : Type 0} → W A → (A → W B) → W B
unfolding glue
◌>>=◌ m f n row = glue (m n row) (f (m n row).result (n + nodes (m n row).ops) (m n row).row)

-- a record entered: its unit is paid before anything else
unfoldable pub enter : {A : Type 0} → W A → W A
enter m n row = record { ops = pay ∷ (m n row).ops; result = (m n row).result; row = (m n row).row; slots = (m n row).slots }

-- a slot of its own, at the place p, before those of its parts; it holds what the piece hands on
unfoldable pub own : ℕ → W ℕ → W ℕ
own p m n row = record { ops = (m n row).ops; result = (m n row).result; row = (m n row).row; slots = ((m n row).result, p) ∷ (m n row).slots }

-- ---- nodes: what is handed on is the new node's reference
unfoldable pub node : ℕ → ℕ → ℕ → W ℕ
node k x y n row = record { ops = make k x y ∷ []; result = n; row = row; slots = [] }

-- the kinds
abbrev pub BOOLEAN : ℕ
BOOLEAN = 0x40

abbrev pub INTEGER : ℕ
INTEGER = 0x41

abbrev pub GIVEN : ℕ
GIVEN = 0x42

abbrev pub POWER : ℕ
POWER = 0x43

abbrev pub PRODUCT : ℕ
PRODUCT = 0x44

abbrev pub UNKNOWN : ℕ
UNKNOWN = 0x4E

abbrev pub unknown : W ℕ
unknown = node UNKNOWN 0 0

abbrev pub boolean : W ℕ
boolean = node BOOLEAN 0 0

abbrev pub integer : W ℕ
integer = node INTEGER 0 0

abbrev pub given_set : ℕ → W ℕ
given_set x = node GIVEN x 0

abbrev pub power : ℕ → W ℕ
power x = node POWER x 0

abbrev pub pair : ℕ → ℕ → W ℕ
pair x y = node PRODUCT x y

-- ---- two references compared, at a place; a problem listed, at a place
unfoldable pub same : ℕ → ℕ → ℕ → W (Unit {0})
same x y p n row = record { ops = compare x y p ∷ []; result = tt; row = row; slots = [] }

unfoldable pub problem : ℕ → ℕ → W (Unit {0})
problem q p n row = record { ops = list q p ∷ []; result = tt; row = row; slots = [] }

-- a name joins the row
unfoldable pub enrol : ℕ → ℕ → ℕ → W ℕ
enrol x p r n row = record { ops = []; result = r; row = row ++ (record { name = x; ref = r; place = p } ∷ []); slots = [] }
