-- The token that a text goes on with: a word of the table or BOOL, ℤ, ℙ with its bracket, a bracket, ×; or nothing of the kind.
use Rattle.std.specs.Prelude.{ℕ, ◌+◌, Bool, true, false, List, [], ◌∷◌, length, drop, eqb, Option, Some, None}
use Rattle.types.specs.declared.Atom.TheVariants as A
use Rattle.types.specs.Record.{pick}
use Rattle.name_table.specs.Words.{letter, word_byte, same}
use Rattle.name_table.specs.Table.{boolean, find}
use Rattle.types.specs.declared.Name.{Name}
use Rattle.type_grammar.specs.declared.Token.{Token}
use Rattle.type_grammar.specs.declared.Token.TheVariants.{Leaf, Power, Open, Close, Times}
use Rattle.type_grammar.specs.Text.{integer, power_open, bracket_open, bracket_close, times}

-- l starts with p
unfoldable pub starts : List ℕ → List ℕ → Bool
starts [] l = true
starts (x ∷ p) [] = false
starts (x ∷ p) (y ∷ l) = pick (eqb x y) (starts p l) false

-- the longest word that l starts with
unfoldable pub word_of : List ℕ → List ℕ
word_of [] = []
word_of (c ∷ l) = pick (word_byte c) (c ∷ word_of l) []

unfoldable pub name_token : Option Name → ℕ → Option Token
name_token (Some k) e = Some (Leaf (A.Given k) e)
name_token None e = None

-- a word that ends at e: BOOL, or a name of the table, or nothing
unfoldable pub word_token_at : List (List ℕ) → ℕ → List ℕ → Option Token
word_token_at ns e w = pick (same boolean w) (Some (Leaf A.Bool e)) (name_token (find ns w) e)

unfoldable pub word_token : List (List ℕ) → ℕ → List ℕ → Option Token
word_token ns p w = word_token_at ns (p + length w) w

-- one of the fixed byte strings
unfoldable pub sign_token : ℕ → List ℕ → Option Token
sign_token p l =
    pick (starts integer l) (Some (Leaf A.Integer (p + 3)))
    (pick (starts power_open l) (Some (Power (p + 4)))
    (pick (starts bracket_open l) (Some (Open (p + 1)))
    (pick (starts bracket_close l) (Some (Close (p + 1)))
    (pick (starts times l) (Some (Times (p + 2))) None))))

-- the token at place p, where the text goes on with l
unfoldable pub token_of : List (List ℕ) → ℕ → List ℕ → Option Token
token_of ns p [] = None
token_of ns p (c ∷ l) = pick (letter c) (word_token ns p (word_of (c ∷ l))) (sign_token p (c ∷ l))

-- the token at place p of the text s
unfoldable pub token_at : List (List ℕ) → List ℕ → ℕ → Option Token
token_at ns s p = token_of ns p (drop p s)
