-- What the remaining arm of a match knows of a token.
use Rattle.std.proofs.Common.{ℕ, ◌≤◌, refl, arith, [], ◌∷◌, ◌≡◌, ⊎_elim, Option, Some, Ok, ap, ◌∙◌}
use types.Run.{OneOf}
use denote.Enum.Declared.{tag_of}
use Rattle.types.specs.Ty.{Ty}
use Rattle.types.specs.Record.{TypeAt, got, malformed}
use Rattle.type_grammar.specs.contracts.Token.{the_type}
use Rattle.type_grammar.specs.declared.Token.{Token}
use Rattle.type_grammar.specs.declared.Token.TheVariants.{Leaf, Power, Open, Close, Times}
use Rattle.type_grammar.specs.Parse.{operand_by, times_on}
use Rattle.type_text.specs.Scan.{Scan, found, scan_on}

not_times : OneOf (0 ∷ 1 ∷ 2 ∷ 3 ∷ []) 4 → ⊥
not_times = ⊎_elim (λ h. omega arith) (⊎_elim (λ h. omega arith) (⊎_elim (λ h. omega arith) (λ h. omega arith)))

scan_by : (e d : ℕ) (r : Option ℕ) (k : Token) → OneOf (0 ∷ 1 ∷ 2 ∷ 3 ∷ []) (tag_of the_type k) → (next : ℕ → Scan) → scan_on next e d r (Some k) ≡ Ok (found e d r)
unfolding scan_on
scan_by e d r (Leaf a q) h next = refl
scan_by e d r (Power q) h next = refl
scan_by e d r (Open q) h next = refl
scan_by e d r (Close q) h next = refl
scan_by e d r (Times q) h next = absurd (not_times h)

pub times_else : (e d : ℕ) (r : Option ℕ) (o : Option Token) (k : Token) → OneOf (0 ∷ 1 ∷ 2 ∷ 3 ∷ []) (tag_of the_type k) → o ≡ Some k → (next : ℕ → Scan) → scan_on next e d r o ≡ Ok (found e d r)
times_else e d r o k h q next = ap (scan_on next e d r) q ∙ scan_by e d r k h next

times_by : (e : ℕ) (k : Token) → OneOf (0 ∷ 1 ∷ 2 ∷ 3 ∷ []) (tag_of the_type k) → (more : ℕ → TypeAt) (u : Ty) → times_on more u e (Some k) ≡ got u e
unfolding times_on
times_by e (Leaf a q) h more u = refl
times_by e (Power q) h more u = refl
times_by e (Open q) h more u = refl
times_by e (Close q) h more u = refl
times_by e (Times q) h more u = absurd (not_times h)

pub times-over : (e : ℕ) (o : Option Token) (k : Token) → OneOf (0 ∷ 1 ∷ 2 ∷ 3 ∷ []) (tag_of the_type k) → o ≡ Some k → (more : ℕ → TypeAt) (u : Ty) → times_on more u e o ≡ got u e
times-over e o k h q more u = ap (times_on more u e) q ∙ times_by e k h more u

late : (n : ℕ) → n ≤ 2 → OneOf (3 ∷ 4 ∷ []) n → ⊥
late n z = ⊎_elim (λ h. omega arith) (λ h. omega arith)

operand_on : (inner : ℕ → TypeAt) (tok : ℕ → Option Token) (p : ℕ) (k : Token) → OneOf (3 ∷ 4 ∷ []) (tag_of the_type k) → operand_by inner tok p (Some k) ≡ malformed p
unfolding operand_by
operand_on inner tok p (Leaf a q) h = absurd (late 0 (omega arith) h)
operand_on inner tok p (Power q) h = absurd (late 1 (omega arith) h)
operand_on inner tok p (Open q) h = absurd (late 2 (omega arith) h)
operand_on inner tok p (Close q) h = refl
operand_on inner tok p (Times q) h = refl

pub operand_else : (inner : ℕ → TypeAt) (tok : ℕ → Option Token) (p : ℕ) (o : Option Token) (k : Token) → OneOf (3 ∷ 4 ∷ []) (tag_of the_type k) → o ≡ Some k → operand_by inner tok p o ≡ malformed p
operand_else inner tok p o k h q = ap (operand_by inner tok p) q ∙ operand_on inner tok p k h
