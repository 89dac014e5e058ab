-- `given_at` answers the head of a given set's record: cut short, a name below the count, or a name that is not.
use Rattle.std.proofs.Common.{rules, refl, ◌∙◌}
use Rattle.types.specs.Steps.{given-short, given-told}
use Rattle.types.proofs.given_at.Goals as goal

pub returns-then-s-at-lt3 : goal.returns-then-s-at-lt3
returns-then-s-at-lt3 c = given-short _ _ _ c.requires (search rules)

pub returns : goal.returns
returns c = given-told _ _ _ c.requires _ _ (search rules) (refl) (refl) _ (c.from-n.ensures ∙ c.from_le_bytes.ensures) _ c.then_some.ensures
