-- What playing a script does.
use Rattle.std.specs.Prelude.{ℕ, ◌+◌, ltb, List, [], ◌∷◌, Option, Some, None}
use Rattle.types.specs.declared.NodeRef.{NodeRef}
use Rattle.types.specs.declared.Place.{Place}
use Rattle.operators.specs.declared.Script.{Script}
use Rattle.operators.specs.declared.Item.{Item}
use Rattle.operators.specs.declared.Item.TheVariants.{Unknown, Boolean, Integer, Power, Product, Equal}
use Rattle.operators.specs.declared.Operand.{Operand}
use Rattle.operators.specs.declared.Operand.TheVariants.{Left, Right, Own}
use Rattle.operators.specs.declared.Seat.{Seat}
use Rattle.operators.specs.declared.Seat.TheVariants.{Whole, Near, Far}
use Rattle.operators.specs.Scripts.{items_in, given_by}
use Rattle.machine.specs.State.{State}
use Rattle.machine.specs.declared.Parts.{Parts}
use Rattle.forms.specs.Forms.{test, then}
use Rattle.machine.specs.Machine.{Mach, with_st, gave_of, make_of, expect_of}

unfoldable pub parts_of : ℕ → ℕ → ℕ → ℕ → ℕ → State → Parts
parts_of l pl r pr p v = record { left = record { node = record { 0 = l }; place = record { 0 = pl } }; right = record { node = record { 0 = r }; place = record { 0 = pr } }; place = record { 0 = p }; base = v.nodes }

-- an operand: a part, or the script's own node
unfoldable pub chosen_of : Operand → Parts → NodeRef
chosen_of Left p = p.left.node
chosen_of Right p = p.right.node
chosen_of (Own j) p = test (ltb p.base 65536) (λ _. record { 0 = p.base + j }) (λ _. record { 0 = 0 })

unfoldable pub place_of : Seat → Parts → Place
place_of Whole p = p.place
place_of Near p = p.left.place
place_of Far p = p.right.place

-- one item: a node, or a comparison
unfoldable pub item_of : Item → Parts → Mach → Mach
item_of Unknown p m = make_of 0x4E 0 0 m
item_of Boolean p m = make_of 0x40 0 0 m
item_of Integer p m = make_of 0x41 0 0 m
item_of (Power x) p m = then (chosen_of x p) λ a. make_of 0x43 a.0 0 m
item_of (Product x y) p m = then (chosen_of x p) λ a. then (chosen_of y p) λ b. make_of 0x44 a.0 b.0 m
item_of (Equal x y seat) p m = then (chosen_of x p) λ a. then (chosen_of y p) λ b. then (place_of seat p) λ q. expect_of a.0 b.0 q.0 m

unfoldable pub items_of : Parts → List Item → Mach → Mach
items_of p [] m = m
items_of p (it ∷ its) m = items_of p its (item_of it p m)

unfoldable pub play_of : Script → Parts → Mach → Mach
play_of s p m =
    then (items_of p (items_in s) m) λ a.
    then (chosen_of (given_by s) p) λ g.
    then (gave_of g.0 a.st) λ v. with_st v a

-- the script of a number, if there is one; else nothing is played, and reference 0 is handed on
unfoldable pub play_numbered : Option Script → Parts → Mach → Mach
play_numbered (Some s) p m = play_of s p m
play_numbered None p m = with_st (gave_of 0 m.st) m
