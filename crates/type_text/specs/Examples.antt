-- Worked examples of the reader, computed: an extra bracket, a product cut short, and the limit of nesting.
use Rattle.std.specs.Prelude.{ℕ, zero, suc, ◌≡◌, refl, List, [], ◌∷◌, ◌++◌, replicate, Ok, Err}
use Rattle.types.specs.Ty.{spell, spell_atom, depth}
use Rattle.types.specs.Record.{and_then}
use Rattle.type_grammar.specs.Text.{integer, power_open, bracket_open, bracket_close, times}
use Rattle.type_grammar.specs.Parse.{product_of, product_by, operand_of, operand_by, times_by, times_on, closing}
use Rattle.type_grammar.specs.Token.{token_at, token_of, sign_token, word_token, starts}
use Rattle.name_table.specs.Words.{letter, between}
use Rattle.name_table.specs.Table.{good_table, good_from, good_on}
use Rattle.types.specs.Code.{atom_is}
use Rattle.type_text.specs.declared.Refusal.TheVariants.{At}
use Rattle.types.specs.declared.Fault.TheVariants as F
use Rattle.type_text.specs.Answer.{read_answer, read_page, record_page, read_by}

-- the text x in n pairs of ℙ( and )
unfoldable pub in_powers : ℕ → List ℕ → List ℕ
in_powers zero x = x
in_powers (suc n) x = power_open ++ (in_powers n x ++ bracket_close)

unfoldable pub page : List ℕ
page = replicate 64 0

-- (ℤ) reads as ℤ; ℤ× is refused 4 at its end; 32 nested ℙ( ) around ℤ are read, 33 refused 5 where the inner ℤ stands
pub examples :
    (read_answer (bracket_open ++ (integer ++ bracket_close)) [] page ≡ Ok 1)
    × (read_page (bracket_open ++ (integer ++ bracket_close)) [] (0 ∷ 0 ∷ []) ≡ (0x41 ∷ 0 ∷ []))
    × (read_answer (integer ++ times) [] page ≡ Err (At (F.Malformed 5)))
    × (read_answer (in_powers 32 integer) [] page ≡ Ok 33)
    × (read_answer (in_powers 33 integer) [] page ≡ Err (At (F.Beyond 132)))
unfolding read_answer read_page record_page page in_powers read_by product_of product_by operand_of operand_by times_by times_on closing token_at token_of sign_token word_token letter between starts and_then good_table good_from good_on spell spell_atom depth atom_is
examples = (refl, refl, refl, refl, refl)
