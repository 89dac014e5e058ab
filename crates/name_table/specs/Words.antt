-- Words: an ASCII letter, then letters, digits and underscores; and when two rows of bytes are the same.
use Rattle.std.specs.Prelude.{ℕ, Bool, true, false, ◌&&◌, ◌||◌, List, [], ◌∷◌, leb, eqb}

unfoldable pub between : ℕ → ℕ → ℕ → Bool
between a e c = leb a c && leb c e

-- A..Z or a..z
unfoldable pub letter : ℕ → Bool
letter c = between 0x41 0x5A c || between 0x61 0x7A c

-- a letter, 0..9 or _
unfoldable pub word_byte : ℕ → Bool
word_byte c = letter c || (between 0x30 0x39 c || eqb c 0x5F)

unfoldable pub all_word : List ℕ → Bool
all_word [] = true
all_word (c ∷ w) = word_byte c && all_word w

unfoldable pub is_word : List ℕ → Bool
is_word [] = false
is_word (c ∷ w) = letter c && all_word w

unfoldable pub same : List ℕ → List ℕ → Bool
same [] [] = true
same [] (y ∷ ys) = false
same (x ∷ xs) [] = false
same (x ∷ xs) (y ∷ ys) = eqb x y && same xs ys
