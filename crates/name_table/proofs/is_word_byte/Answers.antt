-- `is_word_byte` is the library's test, or the underscore's.
use Rattle.std.proofs.Common.{◌∙◌, sym, ap, Bool, ◌||◌, eqb}
use Rattle.name_table.specs.Steps.{word_byte_is}
use Rattle.name_table.proofs.is_word_byte.Goals as goal

pub returns-then-is_ascii_alphanumeric : goal.returns-then-is_ascii_alphanumeric
returns-then-is_ascii_alphanumeric c = let e = c.is_ascii_alphanumeric.ensures.value in let t = c.if-is_ascii_alphanumeric.true in t ∙ ap (λ (b : Bool). b || eqb c.args.c 95) (sym t ∙ e) ∙ word_byte_is c.args.c

pub returns-else-is_ascii_alphanumeric : goal.returns-else-is_ascii_alphanumeric
returns-else-is_ascii_alphanumeric c = ap (λ (b : Bool). b || eqb c.args.c 95) (sym c.if-is_ascii_alphanumeric.false ∙ c.is_ascii_alphanumeric.ensures.value) ∙ word_byte_is c.args.c
