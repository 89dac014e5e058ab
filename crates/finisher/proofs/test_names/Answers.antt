use Rattle.finisher.specs.Finisher.{name_of, test_names_of}
use Rattle.finisher.specs.Still.{still_name}
use Rattle.finisher.proofs.test_names.Goals as goal

pub returns-clause-value : goal.returns-clause-value
unfolding test_names_of
returns-clause-value c = (c.each.ensures name_of still_name (λ w w' j r p. (p.0, p.1))).0

pub returns-clause-kept : goal.returns-clause-kept
returns-clause-kept c = (c.each.ensures name_of still_name (λ w w' j r p. (p.0, p.1))).1
