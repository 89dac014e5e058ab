use Rattle.std.proofs.Common.{◌*◌, ◌+◌}
use Rattle.type_text.specs.Put.{weight}
use Rattle.type_text.proofs.writer.Writer.+put.Given as goal

abbrev pub decreases-put : goal.decreases-put
decreases-put l = l.left * 2 + weight l.side
