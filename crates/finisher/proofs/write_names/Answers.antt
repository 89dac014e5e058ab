use Rattle.finisher.specs.Finisher.{entry_of, write_names_of}
use Rattle.finisher.specs.Still.{still_entry}
use Rattle.finisher.proofs.write_names.Goals as goal

pub returns-clause-value : goal.returns-clause-value
unfolding write_names_of
returns-clause-value c = (c.each.ensures entry_of still_entry (λ w w' j r p. (p.0, p.1))).0

pub returns-clause-kept : goal.returns-clause-kept
returns-clause-kept c = (c.each.ensures entry_of still_entry (λ w w' j r p. (p.0, p.1))).1
