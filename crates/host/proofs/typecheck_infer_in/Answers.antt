-- `typecheck_infer_in` hands on what `typecheck::infer` answers, number, place, length and steps apart.
use Rattle.std.proofs.Common.{◌∙◌, ap}
use Rattle.runner.specs.Answers.{Call, called, call_of, brief}
use Rattle.host.proofs.typecheck_infer_in.Goals as goal

pub returns-clause-value : goal.returns-clause-value
unfolding called call_of brief
returns-clause-value c = c.tell-told.ensures.number_value ∙ ap (λ (k : Call). k.told.number) c.infer-inferred.ensures

pub returns-clause-place_after : goal.returns-clause-place_after
unfolding called call_of brief
returns-clause-place_after c = c.tell-told.ensures.place_value ∙ ap (λ (k : Call). k.told.place) c.infer-inferred.ensures

pub returns-clause-length_after : goal.returns-clause-length_after
unfolding called call_of brief
returns-clause-length_after c = c.tell-told.ensures.length_value ∙ ap (λ (k : Call). k.told.size) c.infer-inferred.ensures

pub returns-clause-steps_after : goal.returns-clause-steps_after
unfolding called call_of brief
returns-clause-steps_after c = c.tell-told.ensures.steps_value ∙ ap (λ (k : Call). k.told.steps) c.infer-inferred.ensures

pub returns-clause-output_after : goal.returns-clause-output_after
unfolding called call_of brief
returns-clause-output_after c = ap (λ (k : Call). k.output) c.infer-inferred.ensures

pub returns-clause-work_after : goal.returns-clause-work_after
unfolding called call_of brief
returns-clause-work_after c = ap (λ (k : Call). k.work) c.infer-inferred.ensures
