-- `token_at` tries a word, then each sign in the definition's order.
use Rattle.std.proofs.Common.{arith, sym, ◌∙◌, length-take-le}
use Rattle.type_grammar.specs.Text.{integer, power_open, bracket_open, bracket_close, times}
use Rattle.type_grammar.specs.Token.{sign_token}
use Rattle.type_grammar.specs.Steps.{sign_is, word_within, token_past, token_none, token_word, token_sign}
use Rattle.type_grammar.proofs.token_at.Goals as goal

pub returns-in_err-rest : goal.returns-in_err-rest
returns-in_err-rest c = c.from_residual.ensures ∙ token_past _ _ _ c.in_err-rest.ensures.lookup.0

pub returns-in_err-first : goal.returns-in_err-first
returns-in_err-first c = c.from_residual-in_err-first.ensures ∙ token_none _ _ _ _ c.in_ok-rest.ensures.lookup.0.2 c.in_err-first.ensures.value

pub slice_bounds-word_token-end : goal.slice_bounds-word_token-end
slice_bounds-word_token-end c = sym (length-take-le _ c.in_ok-rest.rest.now (omega (arith, c.word_width-width.ensures, word_within c.in_ok-rest.rest.now)))

pub overflow_add-at : goal.overflow_add-at
overflow_add-at c = omega (arith, c.word_width-width.ensures, word_within c.in_ok-rest.rest.now, c.in_ok-rest.ensures.lookup)

pub returns-then-is_letter : goal.returns-then-is_letter
returns-then-is_letter c = c.word_token.ensures ∙ token_word _ _ _ _ c.in_ok-rest.ensures.lookup.0.2 _ c.in_ok-first.ensures.value c.if-is_letter.ensures _ c.word_width-width.ensures

pub returns-then-starts_with : goal.returns-then-starts_with
unfolding sign_token
returns-then-starts_with c = sym (token_sign _ _ _ _ c.in_ok-rest.ensures.lookup.0.2 _ c.in_ok-first.ensures.value c.if-is_letter.ensures ∙ rw (sign_is integer _ _ c.if-starts_with.ensures.value))

pub returns-then-starts_with-2 : goal.returns-then-starts_with-2
unfolding sign_token
returns-then-starts_with-2 c = sym (token_sign _ _ _ _ c.in_ok-rest.ensures.lookup.0.2 _ c.in_ok-first.ensures.value c.if-is_letter.ensures ∙ rw (sign_is integer _ _ c.if-starts_with.ensures.value, sign_is power_open _ _ c.if-starts_with-2.ensures.value))

pub returns-then-starts_with-3 : goal.returns-then-starts_with-3
unfolding sign_token
returns-then-starts_with-3 c = sym (token_sign _ _ _ _ c.in_ok-rest.ensures.lookup.0.2 _ c.in_ok-first.ensures.value c.if-is_letter.ensures ∙ rw (sign_is integer _ _ c.if-starts_with.ensures.value, sign_is power_open _ _ c.if-starts_with-2.ensures.value, sign_is bracket_open _ _ c.if-starts_with-3.ensures.value))

pub returns-then-starts_with-4 : goal.returns-then-starts_with-4
unfolding sign_token
returns-then-starts_with-4 c = sym (token_sign _ _ _ _ c.in_ok-rest.ensures.lookup.0.2 _ c.in_ok-first.ensures.value c.if-is_letter.ensures ∙ rw (sign_is integer _ _ c.if-starts_with.ensures.value, sign_is power_open _ _ c.if-starts_with-2.ensures.value, sign_is bracket_open _ _ c.if-starts_with-3.ensures.value, sign_is bracket_close _ _ c.if-starts_with-4.ensures.value))

pub returns-then-starts_with-5 : goal.returns-then-starts_with-5
unfolding sign_token
returns-then-starts_with-5 c = sym (token_sign _ _ _ _ c.in_ok-rest.ensures.lookup.0.2 _ c.in_ok-first.ensures.value c.if-is_letter.ensures ∙ rw (sign_is integer _ _ c.if-starts_with.ensures.value, sign_is power_open _ _ c.if-starts_with-2.ensures.value, sign_is bracket_open _ _ c.if-starts_with-3.ensures.value, sign_is bracket_close _ _ c.if-starts_with-4.ensures.value, sign_is times _ _ c.if-starts_with-5.ensures.value))

pub returns : goal.returns
unfolding sign_token
returns c = sym (token_sign _ _ _ _ c.in_ok-rest.ensures.lookup.0.2 _ c.in_ok-first.ensures.value c.if-is_letter.ensures ∙ rw (sign_is integer _ _ c.if-starts_with.ensures.value, sign_is power_open _ _ c.if-starts_with-2.ensures.value, sign_is bracket_open _ _ c.if-starts_with-3.ensures.value, sign_is bracket_close _ _ c.if-starts_with-4.ensures.value, sign_is times _ _ c.if-starts_with-5.ensures.value))
