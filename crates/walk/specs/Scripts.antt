-- The operators' scripts: the nodes and comparisons of each, in the Rust's order, in tables by operator number.
-- A line such as `an_unknown ∷ a_power (new 0) ∷ equal left (new 1) 0 ∷ []` makes an unknown and its power, and compares the left part
-- with the power at the record's place. After this file a reader can hold each operator against its `check_` function.
use Rattle.std.specs.Prelude.{ℕ, zero, suc, ◌+◌, List, [], ◌∷◌}
use Rattle.unification.specs.Ops.{Op, make, compare}
use Rattle.typing.specs.Equations.{Way, forward, backward}
use Rattle.walk.specs.Writer.{W, UNKNOWN, BOOLEAN, INTEGER, POWER, PRODUCT}

pub data Ref : Type 0 where
  arg : ℕ → Ref  -- 1, 2: the parts
  new : ℕ → Ref  -- the script's own nodes, from 0

pub data Item : Type 0 where
  an_unknown : Item
  a_bool : Item
  an_int : Item
  a_power : Ref → Item
  a_pair : Ref → Ref → Item
  equal : Ref → Ref → ℕ → Item  -- at the place of the record (0) or of a part (1, 2)

-- the items, and what the operator's own type is
pub record Script : Type 0 where
  pub items : List Item
  pub gives : Ref

unfoldable pub scripted : List Item → Ref → Script
scripted is g = record { items = is; gives = g }

abbrev pub left : Ref
left = arg 1

abbrev pub right : Ref
right = arg 2

abbrev pub only : Ref
only = arg 1

-- ---- a script played: args are the parts' references, places the record's and the parts', n the count of nodes before it
unfoldable pub pick : (ℕ → ℕ) → ℕ → Ref → ℕ
pick args n (arg i) = args i
pick args n (new j) = n + j

unfoldable pub play : (ℕ → ℕ) → (ℕ → ℕ) → ℕ → List Item → List Op
unfolding pick
play args places n [] = []
play args places n (an_unknown ∷ is) = make UNKNOWN 0 0 ∷ play args places n is
play args places n (a_bool ∷ is) = make BOOLEAN 0 0 ∷ play args places n is
play args places n (an_int ∷ is) = make INTEGER 0 0 ∷ play args places n is
play args places n (a_power x ∷ is) = make POWER (pick args n x) 0 ∷ play args places n is
play args places n (a_pair x y ∷ is) = make PRODUCT (pick args n x) (pick args n y) ∷ play args places n is
play args places n (equal x y w ∷ is) = compare (pick args n x) (pick args n y) (places w) ∷ play args places n is

unfoldable pub perform : List Item → Ref → (ℕ → ℕ) → (ℕ → ℕ) → W ℕ
unfolding play
perform is g args places n row = record { ops = play args places n is; result = pick args n g; row = row; slots = [] }

unfoldable pub three : ℕ → ℕ → ℕ → ℕ → ℕ
three x y z zero = x
three x y z (suc zero) = y
three x y z (suc (suc i)) = z

-- ---- the tables: a row is the last operator number that it serves, and its script

-- what the tables have past their rows, where no operator is: a comparison that cannot succeed
unfoldable pub never_items : List Item
never_items = a_bool ∷ an_int ∷ equal (new 0) (new 1) 0 ∷ []

unfoldable pub never_script : Script
unfolding scripted never_items
never_script = scripted never_items (new 0)

-- 04, `check_atomic`
unfoldable pub atomic_scripts : List (ℕ × Script)
unfolding scripted
atomic_scripts =
    (2, scripted (an_int ∷ a_power (new 0) ∷ []) (new 1))  -- ℤ, ℕ, ℕ1
    ∷ (3, scripted (a_bool ∷ a_power (new 0) ∷ []) (new 1))  -- BOOL
    ∷ (5, scripted (a_bool ∷ []) (new 0))  -- TRUE, FALSE
    ∷ (7, scripted (an_int ∷ an_int ∷ a_pair (new 0) (new 1) ∷ a_power (new 2) ∷ []) (new 3))  -- pred, succ
    ∷ (8, scripted (an_unknown ∷ a_power (new 0) ∷ []) (new 1))  -- ∅
    ∷ (9, scripted (an_unknown ∷ a_pair (new 0) (new 0) ∷ a_power (new 1) ∷ []) (new 2))  -- id
    ∷ (10, scripted (an_unknown ∷ an_unknown ∷ a_pair (new 0) (new 1) ∷ a_pair (new 2) (new 0) ∷ a_power (new 3) ∷ []) (new 4))  -- prj1
    ∷ (11, scripted (an_unknown ∷ an_unknown ∷ a_pair (new 0) (new 1) ∷ a_pair (new 2) (new 1) ∷ a_power (new 3) ∷ []) (new 4))  -- prj2
    ∷ []

-- 07, `check_binary`: all after both parts
unfoldable pub binary_scripts : List (ℕ × Script)
unfolding scripted
binary_scripts =
    (0, scripted (a_pair left right ∷ []) (new 0))  -- ↦
    ∷ (
      11,
      scripted (an_unknown ∷ an_unknown ∷ a_power (new 0) ∷ a_power (new 1) ∷ equal left (new 2) 0 ∷ equal right (new 3) 0
          ∷ a_pair (new 0) (new 1) ∷ a_power (new 4) ∷ a_power (new 5) ∷ []) (new 6),
    )  -- relation and function sets
    ∷ (12, scripted (an_unknown ∷ a_power (new 0) ∷ equal left (new 1) 0 ∷ equal right (new 1) 0 ∷ []) (new 1))  -- ∖
    ∷ (
      13,
      scripted (an_unknown ∷ an_unknown ∷ a_power (new 0) ∷ a_power (new 1) ∷ equal left (new 2) 0 ∷ equal right (new 3) 0
          ∷ a_pair (new 0) (new 1) ∷ a_power (new 4) ∷ []) (new 5),
    )  -- ×
    ∷ (
      14,
      scripted (an_unknown ∷ an_unknown ∷ an_unknown ∷ a_pair (new 0) (new 1) ∷ a_power (new 3) ∷ a_pair (new 0) (new 2) ∷ a_power (new 5)
          ∷ equal left (new 4) 0 ∷ equal right (new 6) 0 ∷ a_pair (new 1) (new 2) ∷ a_pair (new 0) (new 7) ∷ a_power (new 8) ∷ []) (new 9),
    )  -- ⊗
    ∷ (
      15,
      scripted (an_unknown ∷ an_unknown ∷ an_unknown ∷ an_unknown ∷ a_pair (new 0) (new 1) ∷ a_power (new 4) ∷ a_pair (new 2) (new 3) ∷ a_power (new 6)
          ∷ equal left (new 5) 0 ∷ equal right (new 7) 0 ∷ a_pair (new 0) (new 2) ∷ a_pair (new 1) (new 3) ∷ a_pair (new 8) (new 9) ∷ a_power (new 10) ∷ []) (new 11),
    )  -- ∥
    ∷ (17, scripted (an_unknown ∷ an_unknown ∷ a_power (new 0) ∷ a_pair (new 0) (new 1) ∷ a_power (new 3) ∷ equal left (new 2) 0 ∷ equal right (new 4) 0 ∷ []) (new 4))  -- ◁, ⩤
    ∷ (19, scripted (an_unknown ∷ an_unknown ∷ a_pair (new 0) (new 1) ∷ a_power (new 2) ∷ a_power (new 1) ∷ equal left (new 3) 0 ∷ equal right (new 4) 0 ∷ []) (new 3))  -- ▷, ⩥
    ∷ (20, scripted (an_int ∷ equal left (new 0) 0 ∷ equal right (new 0) 0 ∷ a_power (new 0) ∷ []) (new 1))  -- ‥
    ∷ (24, scripted (an_int ∷ equal left (new 0) 0 ∷ equal right (new 0) 0 ∷ []) (new 0))  -- −, ÷, mod, ^
    ∷ (25, scripted (an_unknown ∷ an_unknown ∷ a_pair (new 0) (new 1) ∷ a_power (new 2) ∷ equal left (new 3) 0 ∷ equal right (new 0) 0 ∷ []) (new 1))  -- f(x)
    ∷ (26, scripted (an_unknown ∷ an_unknown ∷ a_pair (new 0) (new 1) ∷ a_power (new 2) ∷ a_power (new 0) ∷ equal left (new 3) 0 ∷ equal right (new 4) 0 ∷ a_power (new 1) ∷ []) (new 5))  -- r[S]
    ∷ []

-- 09, `check_unary`: after the part, at the part's place
unfoldable pub unary_scripts : List (ℕ × Script)
unfolding scripted
unary_scripts =
    (0, scripted (an_unknown ∷ a_power (new 0) ∷ equal only (new 1) 1 ∷ an_int ∷ []) (new 2))  -- card
    ∷ (2, scripted (an_unknown ∷ a_power (new 0) ∷ equal only (new 1) 1 ∷ a_power (new 1) ∷ []) (new 2))  -- ℙ, ℙ1
    ∷ (4, scripted (an_unknown ∷ a_power (new 0) ∷ a_power (new 1) ∷ equal only (new 2) 1 ∷ []) (new 1))  -- union, inter
    ∷ (5, scripted (an_unknown ∷ an_unknown ∷ a_pair (new 0) (new 1) ∷ a_power (new 2) ∷ equal only (new 3) 1 ∷ a_power (new 0) ∷ []) (new 4))  -- dom
    ∷ (6, scripted (an_unknown ∷ an_unknown ∷ a_pair (new 0) (new 1) ∷ a_power (new 2) ∷ equal only (new 3) 1 ∷ a_power (new 1) ∷ []) (new 4))  -- ran
    ∷ (8, scripted (an_int ∷ a_power (new 0) ∷ equal only (new 1) 1 ∷ []) (new 0))  -- min, max
    ∷ (9, scripted (an_unknown ∷ an_unknown ∷ a_pair (new 0) (new 1) ∷ a_power (new 2) ∷ equal only (new 3) 1 ∷ a_pair (new 1) (new 0) ∷ a_power (new 4) ∷ []) (new 5))  -- ∼
    ∷ (10, scripted (an_int ∷ equal only (new 0) 1 ∷ []) (new 0))  -- −
    ∷ []

-- 0A: after the declarations, the predicate and the expression, at the expression's place
unfoldable pub quantified_scripts : List (ℕ × Script)
unfolding scripted
quantified_scripts =
    (1, scripted (an_unknown ∷ a_power (new 0) ∷ equal only (new 1) 1 ∷ []) (new 1))  -- ⋃, ⋂
    ∷ (2, scripted (a_power only ∷ []) (new 0))  -- { | }
    ∷ []

-- 22, `check_pred`: membership has the set on the left of its comparison
unfoldable pub relational_scripts : List (ℕ × List Item)
relational_scripts =
    (1, equal left right 0 ∷ [])  -- =, ≠
    ∷ (5, an_int ∷ equal left (new 0) 1 ∷ equal right (new 0) 2 ∷ [])  -- <, ≤, >, ≥
    ∷ (7, a_power left ∷ equal right (new 0) 0 ∷ [])  -- ∈, ∉
    ∷ (11, an_unknown ∷ a_power (new 0) ∷ equal left (new 1) 1 ∷ equal right (new 1) 2 ∷ equal left right 0 ∷ [])  -- ⊂, ⊄, ⊆, ⊈
    ∷ []

-- 27: after its expression, at that expression's place
abbrev pub simple_script : List Item
simple_script = an_unknown ∷ a_power (new 0) ∷ equal only (new 1) 1 ∷ []

-- 08, `check_associative`: each child, after its walk, is compared with what the script gives; or the children are linked as relations
pub data Gather : Type 0 where
  all_as : Script → Gather
  linked : Way → Gather
  no_script : Gather

unfoldable pub associative_scripts : List (ℕ × Gather)
unfolding scripted
associative_scripts =
    (1, all_as (scripted (an_unknown ∷ a_power (new 0) ∷ []) (new 1)))  -- ∪, ∩
    ∷ (2, all_as (scripted (an_unknown ∷ an_unknown ∷ a_pair (new 0) (new 1) ∷ a_power (new 2) ∷ []) (new 3)))  -- override
    ∷ (3, linked forward)  -- ;
    ∷ (4, linked backward)  -- ∘
    ∷ (6, all_as (scripted (an_int ∷ []) (new 0)))  -- +, ∗
    ∷ []
