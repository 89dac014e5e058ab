-- The first 256 records, as the code takes them, are those of the definition.
use Rattle.std.proofs.Common.{◌≡◌, take, ap}
use Rattle.std.specs.Iterator.{YieldsFirstBy}
use Rattle.std.specs.Iterator.Adapters.{take_source, take_count, take_steps}
use Rattle.std.proofs.lemmas.Iterator.{YieldsList, YieldsList-from_take}
use Rattle.std.proofs.lemmas.Iterator.Consumers.{YieldsList-from_first}
use Rattle.name_table.specs.declared.Records.{Records}
use Rattle.name_table.specs.Table.{read_record, records_left}

pub first_records : {s : _} (t : Records) → take_source s ≡ t → take_count s ≡ 256 → YieldsList (take_steps (YieldsFirstBy read_record records_left)) read_record s (take 256 (records_left t))
first_records t e n = YieldsList-from_take 256 (YieldsList-from_first read_record records_left (records_left t) (ap records_left e)) n
