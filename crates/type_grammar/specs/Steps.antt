-- What the library's calls over a text come to, in the words of the definitions.
use Prim.Native.Nat.{ℕ, suc, ◌+◌, ◌-◌, ◌≤◌, ◌<◌}
use native.Mathlib.Omega.{arith}
use Rattle.std.specs.Prelude.{◌≡◌, refl, Bool, true, false, ◌&&◌, cond, take, drop, eqb, Option, Some, None}
use Rattle.std.specs.List.{prefix_len, slice_get, slice_range}
use Rattle.std.specs.Cmp.Lexicographic.{pointwise}
use Rattle.std.proofs.Math.Path.{sym, ap}
use Rattle.std.proofs.Common.{◌∙◌, take_all, length-drop, drop_of_length-le, ◌⊎◌, inl, inr}
use mathlib.Core.List.{List, [], ◌∷◌}
use Rattle.std.proofs.Math.ListN.{length}
use Rattle.types.specs.Record.{pick}
use Rattle.name_table.specs.Words.{letter, word_byte}
use Rattle.type_grammar.specs.Token.{starts, word_of, word_token_at, word_token, sign_token, token_of, token_at}

-- ---- signs

starts_is : (sign l : List ℕ) → pointwise eqb sign (take (length sign) l) ≡ starts sign l
unfolding starts
starts_is [] l = refl
starts_is (x ∷ sign) [] = refl
starts_is (x ∷ sign) (y ∷ l) = go (eqb x y) (starts_is sign l)
  where
    go : (b : Bool) → pointwise eqb sign (take (length sign) l) ≡ starts sign l → (b && pointwise eqb sign (take (length sign) l)) ≡ pick b (starts sign l) false
    go true h = h
    go false h = refl

-- what the library's answer says of a sign
pub sign_is : (sign l : List ℕ) (b : Bool) → b ≡ pointwise eqb sign (take (length sign) l) → starts sign l ≡ b
sign_is sign l b e = sym (e ∙ starts_is sign l)

-- ---- words

pub word_width : (l : List ℕ) → prefix_len word_byte l ≡ length (word_of l)
unfolding word_of
word_width [] = refl
word_width (c ∷ l) = go (word_byte c) (word_width l)
  where
    go : (b : Bool) → prefix_len word_byte l ≡ length (word_of l) → cond b (1 + prefix_len word_byte l) 0 ≡ length (pick b (c ∷ word_of l) [])
    go true h = omega arith
    go false h = refl

pub word_within : (l : List ℕ) → length (word_of l) ≤ length l
unfolding word_of
word_within [] = omega arith
word_within (c ∷ l) = go (word_byte c) (word_within l)
  where
    go : (b : Bool) → length (word_of l) ≤ length l → length (pick b (c ∷ word_of l) []) ≤ suc (length l)
    go true h = omega arith
    go false h = omega arith

word_taken : (l : List ℕ) → take (length (word_of l)) l ≡ word_of l
unfolding word_of
word_taken [] = refl
word_taken (c ∷ l) = go (word_byte c) (word_taken l)
  where
    go : (b : Bool) → take (length (word_of l)) l ≡ word_of l → take (length (pick b (c ∷ word_of l) [])) (c ∷ l) ≡ pick b (c ∷ word_of l) []
    go true h = ap (λ (x : List ℕ). c ∷ x) h
    go false h = refl

-- ---- the token at a place p, where the text goes on with l

none : (ns : List (List ℕ)) (p : ℕ) → None ≡ token_of ns p []
unfolding token_of
none ns p = refl

first : (ns : List (List ℕ)) (p c : ℕ) (l : List ℕ) → token_of ns p (c ∷ l) ≡ pick (letter c) (word_token ns p (word_of (c ∷ l))) (sign_token p (c ∷ l))
unfolding token_of
first ns p c l = refl

goes_on : (s l : List ℕ) (p : ℕ) → l ≡ slice_range s p (length s) → l ≡ drop p s
goes_on s l p e = e ∙ take_all (length s - p) (drop p s) (omega (arith, length-drop p s))

pub token_past : (ns : List (List ℕ)) (s : List ℕ) (p : ℕ) → (length s < p) ⊎ (length s < length s) → None ≡ token_at ns s p
unfolding token_at token_of
token_past ns s p h = sym (rw (drop_of_length-le s {i = p} (past h)))
  where
    past : (length s < p) ⊎ (length s < length s) → length s ≤ p
    past (inl a) = omega arith
    past (inr b) = omega arith

module _ (ns : List (List ℕ)) (s l : List ℕ) (p : ℕ) (el : l ≡ slice_range s p (length s)) where
  pub token_none : None ≡ slice_get l 0 → None ≡ token_at ns s p
  unfolding token_at
  token_none h = rw (← goes_on s l p el) (go l h)
    where
      go : (x : List ℕ) → ◌≡◌ {A = Option ℕ} None (slice_get x 0) → None ≡ token_of ns p x
      go [] h = none ns p
      go (c ∷ x) h = cc

  module _ (c : ℕ) (h : Some c ≡ slice_get l 0) where
    token_next : token_at ns s p ≡ pick (letter c) (word_token ns p (word_of l)) (sign_token p l)
    unfolding token_at
    token_next = rw (← goes_on s l p el) (go l h)
      where
        go : (x : List ℕ) → Some c ≡ slice_get x 0 → token_of ns p x ≡ pick (letter c) (word_token ns p (word_of x)) (sign_token p x)
        go [] h = cc
        go (d ∷ x) h = let e : c ≡ d = cc in rw e (first ns p d x)

    pub token_word : true ≡ letter c → (n : ℕ) → n ≡ length (word_of l) → word_token_at ns (p + n) (take n l) ≡ token_at ns s p
    unfolding word_token
    token_word h n e = rw e (ap (word_token_at ns (p + length (word_of l))) (word_taken l) ∙ sym (token_next ∙ rw (← h)))

    pub token_sign : false ≡ letter c → token_at ns s p ≡ sign_token p l
    token_sign h = token_next ∙ rw (← h)
