-- What the code's answers about type records stand for.
use Rattle.std.specs.Prelude.{Option, Some, None, Result, Ok, Err}
use Rattle.types.specs.declared.Atom.{Atom}
use Rattle.types.specs.declared.Atom.TheVariants.{Bool, Integer, Given}
use Rattle.types.specs.declared.Head.{Head}
use Rattle.types.specs.declared.Head.TheVariants.{Atomic, Power, Product}
use Rattle.types.specs.declared.Place.{Place}
use Rattle.types.specs.declared.Fault.{Fault}
use Rattle.types.specs.declared.Fault.TheVariants.{Malformed, Beyond}
use Rattle.types.specs.Ty as T
use Rattle.types.specs.Record as R

unfoldable pub atom_is : Atom → T.Atom
atom_is Bool = T.bool
atom_is Integer = T.int
atom_is (Given n) = T.given n.0

unfoldable pub head_is : Option Head → R.Head
head_is (Some (Atomic a e)) = R.atomic (atom_is a) e
head_is (Some (Power e)) = R.power e
head_is (Some (Product e)) = R.product e
head_is None = R.wrong

-- the type itself is not kept
unfoldable pub end_of : R.TypeAt → Result Place (Fault Place)
end_of (R.got t e) = Ok (record { 0 = e })
end_of (R.malformed p) = Err (Malformed (record { 0 = p }))
end_of (R.deep p) = Err (Beyond (record { 0 = p }))
