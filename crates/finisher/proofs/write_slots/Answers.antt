use Rattle.finisher.specs.Finisher.{type_of, write_slots_of}
use Rattle.finisher.specs.Still.{still_type}
use Rattle.finisher.proofs.write_slots.Goals as goal

pub returns-clause-value : goal.returns-clause-value
unfolding write_slots_of
returns-clause-value c = (c.each.ensures type_of still_type (λ w w' j r p. (p.0, p.1))).0

pub returns-clause-kept : goal.returns-clause-kept
returns-clause-kept c = (c.each.ensures type_of still_type (λ w w' j r p. (p.0, p.1))).1
