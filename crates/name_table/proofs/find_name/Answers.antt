-- `find_name`: the place of the first record of the name among the first 256.
use Rattle.std.proofs.Common.{rules, ◌∙◌, sym, take, Some, None}
use borrow.Author.Tests.{tests}
use Rattle.std.proofs.lemmas.Iterator.Search.{position_from_yields_List}
use Rattle.std.proofs.lemmas.Iterator.Adapters.{position_from-zero}
use Rattle.name_table.specs.Table.{records}
use Rattle.name_table.specs.Steps.{found, has_name}
use Rattle.name_table.proofs.FirstRecords.{first_records}
use Rattle.name_table.proofs.find_name.Goals as goal

pub returns-in_err-i : goal.returns-in_err-i
returns-in_err-i c =
    c.from_residual.ensures
    ∙ found c.args.table.now c.args.word.now None
    (sym c.in_err-i.was
    ∙ position_from_yields_List (has_name c.args.word.now) c.position.new.self _ c.position.result c.position.ensures.ran (first_records _ c.take.ensures.source c.take.ensures.count) (λ x b q k. search (rules, tests))
    ∙ position_from-zero (has_name c.args.word.now) (take 256 (records c.args.table.now)))

pub returns : goal.returns
returns c =
    found c.args.table.now c.args.word.now (Some c.in_ok-i.i)
    (sym c.in_ok-i.was
    ∙ position_from_yields_List (has_name c.args.word.now) c.position.new.self _ c.position.result c.position.ensures.ran (first_records _ c.take.ensures.source c.take.ensures.count) (λ x b q k. search (rules, tests))
    ∙ position_from-zero (has_name c.args.word.now) (take 256 (records c.args.table.now)))
