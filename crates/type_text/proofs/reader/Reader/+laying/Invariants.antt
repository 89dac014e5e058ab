use Rattle.std.proofs.Common.{◌*◌, ◌+◌, ◌-◌, ◌≡◌, length}
use Rattle.name_table.specs.Table.{names}
use Rattle.type_text.specs.Lay.{Going}
use Rattle.type_text.proofs.reader.Reader.+laying.Given as goal

abbrev pub decreases-lay_operand : goal.decreases-lay_operand
decreases-lay_operand l = l.c.left * 2

abbrev pub decreases-lay_product : goal.decreases-lay_product
decreases-lay_product l = l.c.left * 2 + 1

abbrev pub invariant-lay_product-loop-q : goal.invariant-lay_product-loop-q
invariant-lay_product-loop-q l =
    Going l.fn.c.left (names l.self.table.now) l.self.text.now l.fn.c.at l.fn.page l.page l.end l.width × (length l.page ≡ length l.initial.page)

abbrev pub decreases-lay_product-loop-q : goal.decreases-lay_product-loop-q
decreases-lay_product-loop-q l = length l.self.text.now - l.end
