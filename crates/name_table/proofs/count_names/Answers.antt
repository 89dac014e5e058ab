-- `count_names` counts the first 256 records.
use Rattle.std.proofs.Common.{◌∙◌}
use Rattle.std.proofs.lemmas.Iterator.Consumers.{count_from_yields_List}
use Rattle.name_table.specs.Steps.{names_counted}
use Rattle.name_table.proofs.FirstRecords.{first_records}
use Rattle.name_table.proofs.count_names.Goals as goal

pub returns : goal.returns
returns c = count_from_yields_List c.take.result _ c.count.ensures.ran (first_records _ c.take.ensures.source c.take.ensures.count) ∙ names_counted c.args.table.now
