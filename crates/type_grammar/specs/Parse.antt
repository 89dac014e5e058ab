-- What the reader finds: a type with the place after its text, or the first fault. The order of reading is the code's.
-- `specs/Accepts` and `specs/Reads` tie it to the grammar, `specs/Places` its faults to the rule for their places.
use Rattle.std.specs.Prelude.{ℕ, zero, suc, List, length, eqb, Option, Some, None}
use Rattle.types.specs.Ty.{Ty, base, pow, prod}
use Rattle.types.specs.Record.{pick, TypeAt, got, malformed, deep, and_then}
use Rattle.types.specs.Code.{atom_is}
use Rattle.type_grammar.specs.declared.Token.{Token}
use Rattle.type_grammar.specs.declared.Token.TheVariants.{Leaf, Power, Open, Close, Times}
use Rattle.type_grammar.specs.Token.{token_at}

-- the bracket that closes, due at e
unfoldable pub closing : Ty → ℕ → Option Token → TypeAt
closing t e (Some (Close q)) = got t q
closing t e (Some (Leaf a q)) = malformed e
closing t e (Some (Power q)) = malformed e
closing t e (Some (Open q)) = malformed e
closing t e (Some (Times q)) = malformed e
closing t e None = malformed e

-- an operand whose token, at p, is known; inner reads what stands in brackets
unfoldable pub operand_by : (ℕ → TypeAt) → (ℕ → Option Token) → ℕ → Option Token → TypeAt
operand_by inner tok p (Some (Leaf a q)) = got (base (atom_is a)) q
operand_by inner tok p (Some (Power q)) = and_then (inner q) λ t e. closing (pow t) e (tok e)
operand_by inner tok p (Some (Open q)) = and_then (inner q) λ t e. closing t e (tok e)
operand_by inner tok p (Some (Close q)) = malformed p
operand_by inner tok p (Some (Times q)) = malformed p
operand_by inner tok p None = malformed p

-- after the operands so far, of type t: more reads on after ×
unfoldable pub times_on : (ℕ → TypeAt) → Ty → ℕ → Option Token → TypeAt
times_on more t e (Some (Times q)) = more q
times_on more t e (Some (Close q)) = got t e
times_on more t e (Some (Leaf a q)) = got t e
times_on more t e (Some (Power q)) = got t e
times_on more t e (Some (Open q)) = got t e
times_on more t e None = got t e

-- at most n more operands
unfoldable pub times_by : (ℕ → TypeAt) → (ℕ → Option Token) → ℕ → Ty → ℕ → TypeAt
times_by rd tok zero t e = got t e
times_by rd tok (suc n) t e =
    times_on (λ q. and_then (rd q) λ u f. times_by rd tok n (prod t u) f) t e (tok e)

-- a product: an operand, then at most n more
unfoldable pub product_by : (ℕ → TypeAt) → (ℕ → Option Token) → ℕ → ℕ → TypeAt
product_by rd tok n p = and_then (rd p) λ t e. times_by rd tok n t e

-- the operand at p, where d operands may nest, itself included: at 0 it is refused unread
unfoldable pub operand_of : ℕ → List (List ℕ) → List ℕ → ℕ → TypeAt
operand_of zero ns s p = deep p
operand_of (suc d) ns s p =
    operand_by (λ q. product_by (operand_of d ns s) (token_at ns s) (length s) q) (token_at ns s) p (token_at ns s p)

unfoldable pub product_of : ℕ → List (List ℕ) → List ℕ → ℕ → TypeAt
product_of d ns s p = product_by (operand_of d ns s) (token_at ns s) (length s) p

-- a text is read to its end: what is left over is malformed where it starts
unfoldable pub ends_at : ℕ → Ty → ℕ → TypeAt
ends_at n t e = pick (eqb e n) (got t e) (malformed e)

-- a whole text: at most 32 brackets may be open at an operand
unfoldable pub parse : List (List ℕ) → List ℕ → TypeAt
parse ns s = and_then (product_of 33 ns s 0) (ends_at (length s))
