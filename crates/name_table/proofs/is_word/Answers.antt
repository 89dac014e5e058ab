-- `is_word`: a letter, then bytes of words.
use Rattle.std.proofs.Common.{rules, ap, ◌∙◌, Bool, ◌&&◌, refl}
use borrow.Author.Tests.{tests}
use Rattle.std.proofs.lemmas.Iterator.{YieldsList-from_slice}
use Rattle.std.proofs.lemmas.Iterator.Search.{all_from_yields_List}
use Rattle.std.specs.List.{list_all}
use Rattle.name_table.specs.Words.{word_byte}
use Rattle.name_table.specs.Steps.{is-word-none, is-word-some}
use Rattle.name_table.proofs.is_word.Goals as goal

pub returns-then-is_letter : goal.returns-then-is_letter
returns-then-is_letter c =
    ap (λ (b : Bool). b && c.all.result) c.if-is_letter.ensures
    ∙ is-word-some _ _ _ _ c.in-Some.ensures.cases.0 (all_from_yields_List word_byte _ _ c.all.result c.all.ensures.ran (YieldsList-from_slice c.in-Some.rest.now (cc)) (λ x b q k. search (rules, tests)))

pub returns-else-is_letter : goal.returns-else-is_letter
returns-else-is_letter c =
    c.if-is_letter.false ∙ ap (λ (b : Bool). b && list_all word_byte c.in-Some.rest.now) c.if-is_letter.ensures
    ∙ is-word-some _ _ _ _ c.in-Some.ensures.cases.0 refl

pub returns-in-None : goal.returns-in-None
returns-in-None c = is-word-none _ c.in-None.ensures.cases
