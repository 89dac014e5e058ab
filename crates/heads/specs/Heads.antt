-- What a record begins with: its kind and body, and the place after them. Nothing here looks at a child.
-- After this file a reader knows, kind by kind, which bodies are well formed.
use Rattle.std.specs.Prelude.{ℕ, ◌+◌, ◌*◌, Bool, true, false, Option, Some, None, List, [], ◌∷◌, drop, leb, ltb, eqb}
use Rattle.types.specs.declared.Name.{Name}
use Rattle.types.specs.declared.Place.{Place}
use Rattle.heads.specs.declared.ExprHead.{ExprHead}
use Rattle.heads.specs.declared.ExprHead.TheVariants.{Free, Bound, Literal, Atomic, Extension, Truth, Binary, Associative, Unary, Quantified, Ascribed, Explicit}
use Rattle.heads.specs.declared.PredHead.{PredHead}
use Rattle.heads.specs.declared.PredHead.TheVariants.{Constant, Variable, Relational, Connective, Junction, Negation, Quantification, Simple, Multiple, Application}
use Rattle.heads.specs.declared.DeclHead.{DeclHead}
use Rattle.heads.specs.declared.DeclHead.TheVariants.{Plain, Typed, Annotated}
use Rattle.heads.specs.declared.Root.{Root}
use Rattle.heads.specs.declared.Root.TheVariants.{Expression, Predicate, Becomes, BecomesIn, BecomesSuch}
use Rattle.heads.specs.Counts.{atomic_operators, binary_operators, associative_operators, unary_operators, quantifiers, relations, least_listed, least_joined}

abbrev pub pick : {A : Type 0} → Bool → A → A → A
pick true a b = a
pick false a b = b

abbrev pub place : ℕ → Place
place p = record { 0 = p }

abbrev pub name : ℕ → Name
name n = record { 0 = n }

-- ---- parts of a body: what was read and the place after it, or nothing

unfoldable pub byte_of : ℕ → List ℕ → Option (ℕ × Place)
byte_of p [] = None
byte_of p (b ∷ l) = Some (b, place (p + 1))

-- the byte at p
unfoldable pub byte_at : List ℕ → Place → Option (ℕ × Place)
byte_at s p = byte_of p.0 (drop p.0 s)

unfoldable pub on_part : {A : Type 0} → A → Option (ℕ × Place) → (ℕ → Place → A) → A
on_part z None f = z
on_part z (Some x) f = f x.0 x.1

-- the two bytes at p, the lower first
unfoldable pub word_at : List ℕ → Place → Option (ℕ × Place)
word_at s p = on_part None (byte_at s p) λ lo q. on_part None (byte_at s q) λ hi r. Some (lo + hi * 256, r)

-- a name below the count
unfoldable pub name_at : ℕ → List ℕ → Place → Option (ℕ × Place)
name_at names s p = on_part None (word_at s p) λ n e. pick (ltb n names) (Some (n, e)) None

-- an operator below a limit
unfoldable pub op_at : ℕ → List ℕ → Place → Option (ℕ × Place)
op_at limit s p = on_part None (byte_at s p) λ o e. pick (ltb o limit) (Some (o, e)) None

-- a count of two bytes, at least so many
unfoldable pub count_at : ℕ → List ℕ → Place → Option (ℕ × Place)
count_at least s p = on_part None (word_at s p) λ n e. pick (leb least n) (Some (n, e)) None

-- a count of one byte, at least 1
unfoldable pub few_at : List ℕ → Place → Option (ℕ × Place)
few_at s p = on_part None (byte_at s p) λ n e. pick (leb 1 n) (Some (n, e)) None

-- ---- heads

-- an expression of kind k whose body stands at p; bare: where no 0C may stand
unfoldable pub expr_body : ℕ → List ℕ → Bool → ℕ → Place → Option ExprHead
expr_body names s bare k p =
    pick (eqb k 0x01) (on_part None (name_at names s p) λ n e. Some (Free (name n) e))
    (pick (eqb k 0x02) (on_part None (word_at s p) λ i e. Some (Bound i e))
    (pick (eqb k 0x03) (Some (Literal p))
    (pick (eqb k 0x04) (on_part None (op_at atomic_operators s p) λ o e. Some (Atomic o e))
    (pick (eqb k 0x05) (on_part None (count_at least_listed s p) λ n e. Some (Extension n e))
    (pick (eqb k 0x06) (Some (Truth p))
    (pick (eqb k 0x07) (on_part None (op_at binary_operators s p) λ o e. Some (Binary o e))
    (pick (eqb k 0x08) (on_part None (op_at associative_operators s p) λ o q. on_part None (count_at least_joined s q) λ n e. Some (Associative o n e))
    (pick (eqb k 0x09) (on_part None (op_at unary_operators s p) λ o e. Some (Unary o e))
    (pick (eqb k 0x0A) (on_part None (op_at quantifiers s p) λ o q. on_part None (few_at s q) λ n e. Some (Quantified o n e))
    (pick (eqb k 0x0B) (Some (Ascribed p))
    (pick (eqb k 0x0C) (pick bare None (Some (Explicit p))) None)))))))))))

unfoldable pub expr_head : ℕ → List ℕ → Bool → Place → Option ExprHead
expr_head names s bare p = on_part None (byte_at s p) (expr_body names s bare)

unfoldable pub pred_body : List ℕ → ℕ → Place → Option PredHead
pred_body s k p =
    pick (eqb k 0x20) (Some (Constant p))
    (pick (eqb k 0x21) (Some (Variable p))
    (pick (eqb k 0x22) (on_part None (op_at relations s p) λ o e. Some (Relational o e))
    (pick (eqb k 0x23) (Some (Connective p))
    (pick (eqb k 0x24) (on_part None (count_at least_joined s p) λ n e. Some (Junction n e))
    (pick (eqb k 0x25) (Some (Negation p))
    (pick (eqb k 0x26) (on_part None (few_at s p) λ n e. Some (Quantification n e))
    (pick (eqb k 0x27) (Some (Simple p))
    (pick (eqb k 0x28) (on_part None (count_at least_listed s p) λ n e. Some (Multiple n e))
    (pick (eqb k 0x29) (on_part None (word_at s p) λ n e. Some (Application n e)) None)))))))))

unfoldable pub pred_head : List ℕ → Place → Option PredHead
pred_head s p = on_part None (byte_at s p) (pred_body s)

-- the place after a predicate's head
unfoldable pub pred_end : PredHead → Place
pred_end (Constant e) = e
pred_end (Variable e) = e
pred_end (Relational o e) = e
pred_end (Connective e) = e
pred_end (Junction n e) = e
pred_end (Negation e) = e
pred_end (Quantification n e) = e
pred_end (Simple e) = e
pred_end (Multiple n e) = e
pred_end (Application n e) = e

unfoldable pub decl_body : ℕ → Place → Option DeclHead
decl_body k p = pick (eqb k 0x10) (Some (Plain p)) (pick (eqb k 0x11) (Some (Typed p)) (pick (eqb k 0x12) (Some (Annotated p)) None))

unfoldable pub decl_head : List ℕ → Place → Option DeclHead
decl_head s p = on_part None (byte_at s p) decl_body

-- the place after a declaration's head
unfoldable pub decl_end : DeclHead → Place
decl_end (Plain e) = e
decl_end (Typed e) = e
decl_end (Annotated e) = e

-- a target: a record 01 and nothing else
unfoldable pub target_at : ℕ → List ℕ → Place → Option (ℕ × Place)
target_at names s p = on_part None (byte_at s p) λ k q. pick (eqb k 0x01) (name_at names s q) None

-- an assignment of kind k whose count stands at p
unfoldable pub assignment_at : List ℕ → ℕ → Place → Option Root
assignment_at s k p =
    on_part None (few_at s p) λ n e.
    pick (eqb k 0x30) (Some (Becomes n e))
    (pick (eqb k 0x31) (Some (BecomesIn n e))
    (pick (eqb k 0x32) (Some (BecomesSuch n e)) None))

-- what a whole formula begins with
unfoldable pub root_head : List ℕ → Place → Option Root
root_head s p = on_part None (byte_at s p) λ k q. pick (ltb k 0x20) (Some Expression) (pick (ltb k 0x30) (Some Predicate) (assignment_at s k q))
