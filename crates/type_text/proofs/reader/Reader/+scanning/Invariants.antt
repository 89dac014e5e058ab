use Rattle.std.proofs.Common.{◌*◌, ◌+◌, ◌-◌, length}
use Rattle.name_table.specs.Table.{names}
use Rattle.type_grammar.specs.Parse.{product_of}
use Rattle.type_text.specs.Scan.{scanned_of, Scanning}
use Rattle.type_text.proofs.reader.Reader.+scanning.Given as goal

abbrev pub decreases-scan_operand : goal.decreases-scan_operand
decreases-scan_operand l = l.c.left * 2

abbrev pub decreases-scan_product : goal.decreases-scan_product
decreases-scan_product l = l.c.left * 2 + 1

abbrev pub invariant-scan_product-loop-q : goal.invariant-scan_product-loop-q
invariant-scan_product-loop-q l =
    Scanning l.fn.c.left (names l.self.table.now) l.self.text.now (scanned_of l.fn.room (product_of l.fn.c.left (names l.self.table.now) l.self.text.now l.fn.c.at)) l.found.end l.found.depth l.found.room

abbrev pub decreases-scan_product-loop-q : goal.decreases-scan_product-loop-q
decreases-scan_product-loop-q l = length l.self.text.now - l.found.end
