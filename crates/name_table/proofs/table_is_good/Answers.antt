-- `table_is_good` tests each record with its number.
use Rattle.std.proofs.Common.{refl, ◌≡◌, rules, arith, sym, ap, ◌∙◌, length, Bool, ◌&&◌, leb, false, inl}
use borrow.Author.Tests.{tests, le-leb, lt-leb}
use Rattle.std.proofs.lemmas.Iterator.Search.{all_from_yields_List}
use Rattle.std.proofs.lemmas.Iterator.Consumers.{YieldsList-from_first, YieldsList-from_enumerate}
use Rattle.std.specs.List.{list_all, enumerate_from}
use Rattle.name_table.specs.Table.{read_record, records_left, records, names}
use Rattle.name_table.specs.Steps.{good, good_record, records_short}
use Rattle.name_table.proofs.table_is_good.Goals as goal

pub all-requires-clause-can : goal.all-requires-clause-can
all-requires-clause-can c = (tt, tt, inl (omega (arith, c.enumerate.ensures.count, ap (λ r. length (records_left r)) c.enumerate.ensures.source, records_short (length c.args.table.now) c.args.table.now, c.if-table-le-MAX_BYTES.true)))

pub returns-then-table-le-MAX_BYTES : goal.returns-then-table-le-MAX_BYTES
returns-then-table-le-MAX_BYTES c =
    ap (λ (b : Bool). b && c.all.result) (sym (le-leb _ _ c.if-table-le-MAX_BYTES.true))
    ∙ good c.args.table.now c.all.result
    (all_from_yields_List (good_record (names c.args.table.now)) c.all.new.self _ c.all.result c.all.ensures.ran
    (YieldsList-from_enumerate (YieldsList-from_first read_record records_left (records c.args.table.now) (ap records_left c.enumerate.ensures.source)) c.enumerate.ensures.count)
    (λ x b q k. search (rules, tests)))

pub returns-else-table-le-MAX_BYTES : goal.returns-else-table-le-MAX_BYTES
returns-else-table-le-MAX_BYTES c =
    let z : leb (length c.args.table.now) 16384 ≡ false = lt-leb _ 16384 c.if-table-le-MAX_BYTES.false in
    z ∙ ap (λ (b : Bool). b && list_all (good_record (names c.args.table.now)) (enumerate_from 0 (records c.args.table.now))) (sym z) ∙ good c.args.table.now _ refl
