-- The code's nodes: how one is read as a node of the arena. It is no binding, and not broken.
use Rattle.std.proofs.Math.Path.{refl}
use Rattle.types.specs.declared.Node.{Node}
use Rattle.types.specs.declared.Node.TheVariants as N
use Rattle.types.specs.Code.{atom_is}
use Rattle.unification.specs.Arena as S
use Rattle.unification.specs.Good.{Root}

abbrev pub node_is : Node → S.Node
node_is N.Unknown = S.free
node_is (N.Leaf a) = S.leaf (atom_is a)
node_is (N.Power x) = S.power x.0
node_is (N.Product x y) = S.pair x.0 y.0

-- that a node is no binding is one fact: it can stand in a type
pub root_prop : (n : S.Node) → IsProp (Root n)
root_prop S.free = λ x y. refl
root_prop (S.link j) = λ x y. absurd x
root_prop (S.leaf a) = λ x y. refl
root_prop (S.power x) = λ x y. refl
root_prop (S.pair x y) = λ x y. refl
root_prop S.bad = λ x y. absurd x
