use Rattle.finisher.specs.Finisher.{slot_of, test_slots_of}
use Rattle.finisher.specs.Still.{still_slot}
use Rattle.finisher.proofs.test_slots.Goals as goal

pub returns-clause-value : goal.returns-clause-value
unfolding test_slots_of
returns-clause-value c = (c.each.ensures slot_of still_slot (λ w w' j r p. (p.0, p.1))).0

pub returns-clause-kept : goal.returns-clause-kept
returns-clause-kept c = (c.each.ensures slot_of still_slot (λ w w' j r p. (p.0, p.1))).1
