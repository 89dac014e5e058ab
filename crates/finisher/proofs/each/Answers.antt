use Rattle.std.proofs.Common.{arith, sym, ◌∙◌, ◌+◌, ◌-◌}
use Rattle.machine.specs.Seen.{machine, stopped_at, stop_number, stop_number_not}
use Rattle.finisher.specs.Still.{still_each}
use Rattle.finisher.proofs.Laws.{each_end, each_turn, kept_then}
use Rattle.finisher.proofs.each.Goals as goal

pub returns-in_err-step : goal.returns-in_err-step
returns-in_err-step g c = λ f s d. let i = c.loop-j.invariant f s d in let t = d _ _ _ _ c.in_err-step.ensures in (grind (arith, i.0, t.0, each_turn f c.args.n c.loop-j.j (machine c.loop-j.walk) c.loop-j-test.true, still_each f s (c.args.n - (c.loop-j.j + 1)) (c.loop-j.j + 1) (stopped_at (stop_number c.in_err-step.field-0.0) c.step.new.arg2) (stop_number_not c.in_err-step.field-0.0)), kept_then i.1 t.1)

pub loop-j-preserved : goal.loop-j-preserved
loop-j-preserved g c = λ f s d. let i = c.loop-j.invariant f s d in let t = d _ _ _ _ c.in_ok-step.ensures in (grind (arith, i.0, t.0, each_turn f c.args.n c.loop-j.j (machine c.loop-j.walk) c.loop-j-test.true), kept_then i.1 t.1)

pub returns : goal.returns
returns g c = λ f s d. let i = c.loop-j.invariant f s d in (sym (each_end f c.args.n c.loop-j.j (machine c.loop-j.walk) (omega arith)) ∙ i.0, i.1)
