-- The scripts of the operators: what each does, one item after another, and the operand that it hands on.
use Rattle.std.specs.Prelude.{ℕ, List, [], ◌∷◌, Option, slice_get}
use Rattle.operators.specs.declared.Item.{Item}
use Rattle.operators.specs.declared.Item.TheVariants.{Unknown, Boolean, Integer, Power, Product, Equal}
use Rattle.operators.specs.declared.Operand.{Operand}
use Rattle.operators.specs.declared.Operand.TheVariants.{Left, Right, Own}
use Rattle.operators.specs.declared.Seat.TheVariants.{Whole, Near, Far}
use Rattle.operators.specs.declared.Script.{Script}
use Rattle.operators.specs.declared.Script.TheVariants as S

unfoldable pub items_in : Script → List Item
items_in S.Nothing = []
items_in S.Integers = Integer ∷ Power (Own 0) ∷ []
items_in S.Booleans = Boolean ∷ Power (Own 0) ∷ []
items_in S.Truth = Boolean ∷ []
items_in S.Succession = Integer ∷ Integer ∷ Product (Own 0) (Own 1) ∷ Power (Own 2) ∷ []
items_in S.EmptySet = Unknown ∷ Power (Own 0) ∷ []
items_in S.Identity = Unknown ∷ Product (Own 0) (Own 0) ∷ Power (Own 1) ∷ []
items_in S.FirstOf = Unknown ∷ Unknown ∷ Product (Own 0) (Own 1) ∷ Product (Own 2) (Own 0) ∷ Power (Own 3) ∷ []
items_in S.SecondOf = Unknown ∷ Unknown ∷ Product (Own 0) (Own 1) ∷ Product (Own 2) (Own 1) ∷ Power (Own 3) ∷ []
items_in S.Maplet = Product Left Right ∷ []
items_in S.Relations = Unknown ∷ Unknown ∷ Power (Own 0) ∷ Power (Own 1) ∷ Equal Left (Own 2) Whole ∷ Equal Right (Own 3) Whole ∷ Product (Own 0) (Own 1) ∷ Power (Own 4) ∷ Power (Own 5) ∷ []
items_in S.Difference = Unknown ∷ Power (Own 0) ∷ Equal Left (Own 1) Whole ∷ Equal Right (Own 1) Whole ∷ []
items_in S.Cartesian = Unknown ∷ Unknown ∷ Power (Own 0) ∷ Power (Own 1) ∷ Equal Left (Own 2) Whole ∷ Equal Right (Own 3) Whole ∷ Product (Own 0) (Own 1) ∷ Power (Own 4) ∷ []
items_in S.Direct = Unknown ∷ Unknown ∷ Unknown ∷ Product (Own 0) (Own 1) ∷ Power (Own 3) ∷ Product (Own 0) (Own 2) ∷ Power (Own 5) ∷ Equal Left (Own 4) Whole ∷ Equal Right (Own 6) Whole ∷ Product (Own 1) (Own 2) ∷ Product (Own 0) (Own 7) ∷ Power (Own 8) ∷ []
items_in S.Parallel = Unknown ∷ Unknown ∷ Unknown ∷ Unknown ∷ Product (Own 0) (Own 1) ∷ Power (Own 4) ∷ Product (Own 2) (Own 3) ∷ Power (Own 6) ∷ Equal Left (Own 5) Whole ∷ Equal Right (Own 7) Whole ∷ Product (Own 0) (Own 2) ∷ Product (Own 1) (Own 3) ∷ Product (Own 8) (Own 9) ∷ Power (Own 10) ∷ []
items_in S.DomainCut = Unknown ∷ Unknown ∷ Power (Own 0) ∷ Product (Own 0) (Own 1) ∷ Power (Own 3) ∷ Equal Left (Own 2) Whole ∷ Equal Right (Own 4) Whole ∷ []
items_in S.RangeCut = Unknown ∷ Unknown ∷ Product (Own 0) (Own 1) ∷ Power (Own 2) ∷ Power (Own 1) ∷ Equal Left (Own 3) Whole ∷ Equal Right (Own 4) Whole ∷ []
items_in S.Interval = Integer ∷ Equal Left (Own 0) Whole ∷ Equal Right (Own 0) Whole ∷ Power (Own 0) ∷ []
items_in S.Arithmetic = Integer ∷ Equal Left (Own 0) Whole ∷ Equal Right (Own 0) Whole ∷ []
items_in S.Application = Unknown ∷ Unknown ∷ Product (Own 0) (Own 1) ∷ Power (Own 2) ∷ Equal Left (Own 3) Whole ∷ Equal Right (Own 0) Whole ∷ []
items_in S.Image = Unknown ∷ Unknown ∷ Product (Own 0) (Own 1) ∷ Power (Own 2) ∷ Power (Own 0) ∷ Equal Left (Own 3) Whole ∷ Equal Right (Own 4) Whole ∷ Power (Own 1) ∷ []
items_in S.Cardinality = Unknown ∷ Power (Own 0) ∷ Equal Left (Own 1) Near ∷ Integer ∷ []
items_in S.Powerset = Unknown ∷ Power (Own 0) ∷ Equal Left (Own 1) Near ∷ Power (Own 1) ∷ []
items_in S.Generalized = Unknown ∷ Power (Own 0) ∷ Power (Own 1) ∷ Equal Left (Own 2) Near ∷ []
items_in S.Domain = Unknown ∷ Unknown ∷ Product (Own 0) (Own 1) ∷ Power (Own 2) ∷ Equal Left (Own 3) Near ∷ Power (Own 0) ∷ []
items_in S.Range = Unknown ∷ Unknown ∷ Product (Own 0) (Own 1) ∷ Power (Own 2) ∷ Equal Left (Own 3) Near ∷ Power (Own 1) ∷ []
items_in S.Extremum = Integer ∷ Power (Own 0) ∷ Equal Left (Own 1) Near ∷ []
items_in S.Converse = Unknown ∷ Unknown ∷ Product (Own 0) (Own 1) ∷ Power (Own 2) ∷ Equal Left (Own 3) Near ∷ Product (Own 1) (Own 0) ∷ Power (Own 4) ∷ []
items_in S.Minus = Integer ∷ Equal Left (Own 0) Near ∷ []
items_in S.Set = Unknown ∷ Power (Own 0) ∷ Equal Left (Own 1) Near ∷ []
items_in S.Power = Power Left ∷ []
items_in S.Equality = Equal Left Right Whole ∷ []
items_in S.Order = Integer ∷ Equal Left (Own 0) Near ∷ Equal Right (Own 0) Far ∷ []
items_in S.Membership = Power Left ∷ Equal Right (Own 0) Whole ∷ []
items_in S.Inclusion = Unknown ∷ Power (Own 0) ∷ Equal Left (Own 1) Near ∷ Equal Right (Own 1) Far ∷ Equal Left Right Whole ∷ []
items_in S.Finite = Unknown ∷ Power (Own 0) ∷ Equal Left (Own 1) Near ∷ []
items_in S.Unknown = Unknown ∷ []
items_in S.Relation = Unknown ∷ Unknown ∷ Product (Own 0) (Own 1) ∷ Power (Own 2) ∷ []
items_in S.Integer = Integer ∷ []
items_in S.Forth = Unknown ∷ Product Left (Own 0) ∷ Power (Own 1) ∷ []
items_in S.Back = Unknown ∷ Product (Own 0) Left ∷ Power (Own 1) ∷ []
items_in S.ForthAll = Product Left Right ∷ Power (Own 0) ∷ []
items_in S.BackAll = Product Right Left ∷ Power (Own 0) ∷ []

unfoldable pub given_by : Script → Operand
given_by S.Nothing = Left
given_by S.Integers = Own 1
given_by S.Booleans = Own 1
given_by S.Truth = Own 0
given_by S.Succession = Own 3
given_by S.EmptySet = Own 1
given_by S.Identity = Own 2
given_by S.FirstOf = Own 4
given_by S.SecondOf = Own 4
given_by S.Maplet = Own 0
given_by S.Relations = Own 6
given_by S.Difference = Own 1
given_by S.Cartesian = Own 5
given_by S.Direct = Own 9
given_by S.Parallel = Own 11
given_by S.DomainCut = Own 4
given_by S.RangeCut = Own 3
given_by S.Interval = Own 1
given_by S.Arithmetic = Own 0
given_by S.Application = Own 1
given_by S.Image = Own 5
given_by S.Cardinality = Own 2
given_by S.Powerset = Own 2
given_by S.Generalized = Own 1
given_by S.Domain = Own 4
given_by S.Range = Own 4
given_by S.Extremum = Own 0
given_by S.Converse = Own 5
given_by S.Minus = Own 0
given_by S.Set = Own 1
given_by S.Power = Own 0
given_by S.Equality = Left
given_by S.Order = Left
given_by S.Membership = Left
given_by S.Inclusion = Left
given_by S.Finite = Left
given_by S.Unknown = Own 0
given_by S.Relation = Own 3
given_by S.Integer = Own 0
given_by S.Forth = Own 2
given_by S.Back = Own 2
given_by S.ForthAll = Own 1
given_by S.BackAll = Own 1

-- the scripts in their order
unfoldable pub in_order : List Script
in_order = S.Nothing ∷ S.Integers ∷ S.Booleans ∷ S.Truth ∷ S.Succession ∷ S.EmptySet ∷ S.Identity ∷ S.FirstOf ∷ S.SecondOf ∷ S.Maplet ∷ S.Relations ∷ S.Difference ∷ S.Cartesian ∷ S.Direct ∷ S.Parallel ∷ S.DomainCut ∷ S.RangeCut ∷ S.Interval ∷ S.Arithmetic ∷ S.Application ∷ S.Image ∷ S.Cardinality ∷ S.Powerset ∷ S.Generalized ∷ S.Domain ∷ S.Range ∷ S.Extremum ∷ S.Converse ∷ S.Minus ∷ S.Set ∷ S.Power ∷ S.Equality ∷ S.Order ∷ S.Membership ∷ S.Inclusion ∷ S.Finite ∷ S.Unknown ∷ S.Relation ∷ S.Integer ∷ S.Forth ∷ S.Back ∷ S.ForthAll ∷ S.BackAll ∷ []

-- the script of a number, from 0 on; past the last there is none
unfoldable pub numbered : ℕ → Option Script
numbered n = slice_get in_order n
