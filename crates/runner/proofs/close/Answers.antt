use Rattle.runner.proofs.Laws.{closes}
use Rattle.runner.proofs.close.Goals as goal

pub returns : goal.returns
returns c = closes _ _ _ _ c.args.work.now _ c.length_of.ensures c.clear_bytes.ensures c.clear_words.ensures
