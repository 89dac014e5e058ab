-- `name_at` is the name of the record of that number among the first 256.
use Rattle.std.proofs.Common.{sym, ap, ◌∙◌}
use Rattle.std.specs.Option.{option_map}
use Rattle.std.proofs.lemmas.Iterator.Consumers.{nth_from_yields_List}
use Rattle.name_table.specs.Table.{read_record}
use Rattle.name_table.specs.Steps.{named, unnamed}
use Rattle.name_table.proofs.FirstRecords.{first_records}
use Rattle.name_table.proofs.name_at.Goals as goal

pub returns-in_err-name : goal.returns-in_err-name
returns-in_err-name c =
    rw c.from_residual.ensures
    (unnamed c.args.table.now c.args.n.0
    (ap (option_map read_record) (sym c.in_err-name.was) ∙ nth_from_yields_List c.nth.result c.nth.new.self c.args.n.0 c.nth.ensures.ran (first_records _ c.take.ensures.source c.take.ensures.count)))

pub returns : goal.returns
returns c =
    named c.args.table.now c.args.n.0 c.in_ok-name.field-0-0 c.in_ok-name.name
    (ap (option_map read_record) (sym c.in_ok-name.was) ∙ nth_from_yields_List c.nth.result c.nth.new.self c.args.n.0 c.nth.ensures.ran (first_records _ c.take.ensures.source c.take.ensures.count))
