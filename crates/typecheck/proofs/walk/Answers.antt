use Rattle.std.proofs.Common.{◌∙◌, ap, arith}
use Rattle.forms.specs.Forms.{then}
use Rattle.machine.specs.Seen.{still}
use Rattle.finisher.specs.Still.{still_finish}
use Rattle.memory.specs.Memory.{cleared}
use Rattle.runner.specs.Run.{run_of}
use Rattle.runner.specs.Stops.{judge_stops}
use Rattle.typecheck.proofs.Laws.{begins}
use Rattle.typecheck.proofs.walk.Goals as goal

pub returns-in_err-formula : goal.returns-in_err-formula
unfolding run_of then
returns-in_err-formula c = let e = begins c.args.size c.min-n.result c.min.result c.args.budget c.args.work.now c.clear_words.new.words c.args.output.now c.min-n.ensures c.min.ensures (c.clear_words.ensures ∙ ap (cleared 0) c.split_at_mut-arena.ensures.back) in grind (arith, still, still_finish, judge_stops, e)

pub returns-in_err-finish : goal.returns-in_err-finish
unfolding run_of then
returns-in_err-finish c = let e = begins c.args.size c.min-n.result c.min.result c.args.budget c.args.work.now c.clear_words.new.words c.args.output.now c.min-n.ensures c.min.ensures (c.clear_words.ensures ∙ ap (cleared 0) c.split_at_mut-arena.ensures.back) in grind (arith, judge_stops, e)

pub returns : goal.returns
unfolding run_of then
returns c = let e = begins c.args.size c.min-n.result c.min.result c.args.budget c.args.work.now c.clear_words.new.words c.args.output.now c.min-n.ensures c.min.ensures (c.clear_words.ensures ∙ ap (cleared 0) c.split_at_mut-arena.ensures.back) in grind (arith, e)
