-- Worked examples, typed and untypable, at least one for each shape of rule. After this file a reader has seen the rules at work
-- on small formulas: places are the records' offsets, names 0 and 1 are read f and g, name 2 is read x, name 3 is read S.
use Rattle.std.specs.Prelude.{ℕ, zero, suc, ◌≡◌, refl, List, [], ◌∷◌}
use Rattle.std.proofs.Common.{sym, ◌∙◌, ap, arith}
use Rattle.types.specs.Ty.{bool, int, given, Ty, base, pow, prod}
use Rattle.formula.specs.Environment.{lacks, holds, Env}
use Rattle.formula.specs.Tree.{spells, no_type, plain, typed, annotated, free, bound, literal, atomic, extension, truth, binary, associative, unary, quantified, ascribed, explicit, none, more, constant, relational, junction, quantification, simple, multiple, application, end, also, Formula, expression, predicate, becomes, becomes_in, becomes_such, decls, targets, slots, slots_of}
use Rattle.typing.specs.Equations.{◌⟷◌, read, parts, relates, first_of, look, never_typed}
use Rattle.typing.specs.Rules.{atomic_rules, binary_rules, associative_rules, unary_rules, quantified_rules, relational_rules, extension_rule, simple_rule, under, types, Typed, product, Typing}
use Rattle.typing.specs.Typings.{None, Several, from_list}

abbrev B : Ty
B = base bool

abbrev Z : Ty
Z = base int

abbrev relation : Ty → Ty → Ty
relation t u = pow (prod t u)

abbrev empty : Env
empty n = lacks

-- f relates ℤ and BOOL, g relates BOOL and ℤ
unfoldable functions : Env
functions zero = holds (relation Z B)
functions (suc zero) = holds (relation B Z)
functions (suc (suc n)) = lacks

-- types of the names: f, g, then x and S
unfoldable named : Ty → ℕ → Ty
named t zero = relation Z B
named t (suc zero) = relation B Z
named t (suc (suc n)) = t

empty-agrees : (ρ : ℕ → Ty) (x : ℕ) (t : Ty) → lacks ≡ holds t → ρ x ≡ t
empty-agrees ρ x t e = let z : ◌≡◌ {A = ℕ} 0 1 = cc in absurd (omega arith)

named-agrees : (u : Ty) (x : ℕ) (t : Ty) → functions x ≡ holds t → named u x ≡ t
unfolding functions named
named-agrees u zero t e = let q : relation Z B ≡ t = cc in q
named-agrees u (suc zero) t e = let q : relation B Z ≡ t = cc in q
named-agrees u (suc (suc n)) t e = let z : ◌≡◌ {A = ℕ} 0 1 = cc in absurd (omega arith)

-- a typing by lists: the types of the slots, the type of x
abbrev By : Env → Formula → List Ty → Ty → Type 0
By Γ f ts t = Typing Γ f (from_list ts) (named t)

-- types of the letters a and b
unfoldable letters : Ty → Ty → ℕ → Ty
letters t u zero = t
letters t u (suc n) = u

-- x ∈ ℤ: x has the type ℤ
member : By empty (predicate (relational 0 6 (free 2 2) (atomic 5 0))) (Z ∷ pow Z ∷ []) Z
unfolding Typed look first_of atomic_rules relational_rules read parts from_list named slots
member = record { agrees = empty-agrees (named Z); rules = (refl, (named Z, (refl, tt)), (named Z, (refl, tt))) }

-- TRUE = 0
clash : None empty (predicate (relational 0 0 (atomic 2 4) (literal 4)))
unfolding Typed look first_of atomic_rules relational_rules read parts slots
clash t = let p = t.2.rules in let e = p.0.1.0 in let g = p.1 in let h = p.2.1.0 in let z : ◌≡◌ {A = ℕ} 0 1 = cc in omega arith

-- x ∈ x
power_of_itself : (t : Ty) → t ≡ pow t → ⊥
power_of_itself (base p) e = let z : ◌≡◌ {A = ℕ} 0 1 = cc in omega arith
power_of_itself (pow t) e = let q : t ≡ pow t = cc in power_of_itself t q
power_of_itself (prod t u) e = let z : ◌≡◌ {A = ℕ} 0 1 = cc in omega arith

circle : None empty (predicate (relational 0 6 (free 2 2) (free 5 2)))
unfolding Typed look first_of relational_rules read parts slots
circle t = let p = t.2.rules in let e = p.0 in let g = p.1 in let h = p.2.1.0 in power_of_itself (t.1 2) (sym g ∙ h ∙ ap pow e)

-- ∅ has many types, a power of any type each
several : Several empty (expression (atomic 0 8))
unfolding Typed look first_of atomic_rules read parts from_list letters slots_of slots
several = record {
  slots_one = from_list (pow Z ∷ []);
  names_one = named Z;
  slots_other = from_list (pow B ∷ []);
  names_other = named Z;
  one = record { agrees = empty-agrees (named Z); rules = (letters Z Z, (refl, tt)) };
  other = record { agrees = empty-agrees (named Z); rules = (letters B B, (refl, tt)) };
  differ = λ h. (let e : pow Z ≡ pow B = h.0 0 (omega arith) in let z : ◌≡◌ {A = ℕ} 0 1 = cc in omega arith);
}

-- prj1(1 ↦ TRUE) = 1
first_part : By empty (predicate (relational 0 0 (binary 2 25 (atomic 4 10) (binary 6 0 (literal 8) (atomic 9 4))) (literal 11)))
    (Z ∷ relation (prod Z B) Z ∷ prod Z B ∷ Z ∷ B ∷ Z ∷ []) Z
unfolding Typed look first_of atomic_rules binary_rules relational_rules ◌⟷◌ read parts from_list letters slots
first_part = record {
  agrees = empty-agrees (named Z);
  rules =
      (((letters Z B, (refl, tt)), (refl, (letters B B, (refl, tt)), (letters B B, (refl, tt))), (letters (prod Z B) Z, (refl, (refl, (refl, tt))))), refl, (letters Z Z, (refl, tt)));
}

-- {0} ◁ f
restricted : By functions (expression (binary 0 16 (extension 2 (more (literal 5) none)) (free 6 0)))
    (relation Z B ∷ pow Z ∷ Z ∷ relation Z B ∷ []) Z
unfolding Typed look first_of binary_rules ◌⟷◌ read parts from_list letters slots types extension_rule named
restricted = record {
  agrees = named-agrees Z;
  rules =
      (((refl, tt), (letters Z Z, (refl, tt), refl)), refl, (letters Z B, (refl, (refl, (refl, tt)))));
}

-- f ▷ {0}: f ends in BOOL
not_restricted : None functions (expression (binary 0 18 (free 2 0) (extension 5 (more (literal 8) none))))
unfolding Typed look first_of binary_rules ◌⟷◌ read parts slots types extension_rule functions
not_restricted t =
    let p = t.2.rules in
    let f = t.2.agrees 0 (relation Z B) refl in
    let l = p.0 in let m = p.1.0.0 in let o = p.1.1.1.0 in let s = p.1.1.2 in
    let e = p.2.1.0 in let g = p.2.1.1.0 in
    let z : ◌≡◌ {A = ℕ} 0 1 = cc in omega arith

-- f ⊗ f from ℤ to BOOL × BOOL
direct : By functions (expression (binary 0 14 (free 2 0) (free 5 0))) (relation Z (prod B B) ∷ relation Z B ∷ relation Z B ∷ []) Z
unfolding Typed look first_of binary_rules ◌⟷◌ read parts from_list letters slots named
direct = record { agrees = named-agrees Z; rules = (refl, refl, (letters Z B, (refl, (refl, (refl, tt))))) }

-- f ⊗ g: f starts in ℤ, g in BOOL
not_direct : None functions (expression (binary 0 14 (free 2 0) (free 5 1)))
unfolding Typed look first_of binary_rules ◌⟷◌ read parts slots functions
not_direct t =
    let p = t.2.rules in
    let f = t.2.agrees 0 (relation Z B) refl in let g = t.2.agrees 1 (relation B Z) refl in
    let l = p.0 in let m = p.1 in
    let e = p.2.1.0 in let h = p.2.1.1.0 in
    let z : ◌≡◌ {A = ℕ} 0 1 = cc in omega arith

-- ∅ ∪ {0}
union : By empty (expression (associative 0 0 (more (atomic 4 8) (more (extension 6 (more (literal 9) none)) none)))) (pow Z ∷ pow Z ∷ pow Z ∷ Z ∷ []) Z
unfolding Typed look first_of atomic_rules associative_rules read parts from_list letters slots types extension_rule
union = record {
  agrees = empty-agrees (named Z);
  rules =
      (((letters Z Z, (refl, tt)), (((refl, tt), (letters Z Z, (refl, tt), refl)), tt)), (letters Z Z, (refl, (refl, tt)), refl));
}

-- f ; g from ℤ to ℤ, f ∘ g from BOOL to BOOL
composed : By functions (expression (associative 0 3 (more (free 4 0) (more (free 7 1) none)))) (relation Z Z ∷ relation Z B ∷ relation B Z ∷ []) Z
unfolding Typed look first_of associative_rules relates read parts from_list slots types named
composed = record { agrees = named-agrees Z; rules = ((refl, (refl, tt)), (Z, Z, (B, refl, (Z, refl, refl)), refl)) }

composed-back : By functions (expression (associative 0 4 (more (free 4 0) (more (free 7 1) none)))) (relation B B ∷ relation Z B ∷ relation B Z ∷ []) Z
unfolding Typed look first_of associative_rules relates read parts from_list slots types named
composed-back = record { agrees = named-agrees Z; rules = ((refl, (refl, tt)), (B, B, (Z, refl, (B, refl, refl)), refl)) }

-- f ; f
not_composed : None functions (expression (associative 0 3 (more (free 4 0) (more (free 7 0) none))))
unfolding Typed look first_of associative_rules relates read parts slots types functions
not_composed t =
    let p = t.2.rules in
    let f = t.2.agrees 0 (relation Z B) refl in
    let l = p.0.0 in let m = p.0.1.0 in
    let e = p.1.2.1 in let g = p.1.2.2.1 in
    let z : ◌≡◌ {A = ℕ} 0 1 = cc in omega arith

-- dom(f) = ℤ, ran(f) = BOOL
domain : By functions (predicate (relational 0 0 (unary 2 5 (free 4 0)) (atomic 7 0))) (pow Z ∷ relation Z B ∷ pow Z ∷ []) Z
unfolding Typed look first_of atomic_rules unary_rules relational_rules ◌⟷◌ read parts from_list letters slots named
domain = record { agrees = named-agrees Z; rules = ((refl, (letters Z B, (refl, (refl, tt)))), (letters Z Z, (refl, tt)), (letters Z Z, (refl, tt))) }

range : By functions (predicate (relational 0 0 (unary 2 6 (free 4 0)) (atomic 7 3))) (pow B ∷ relation Z B ∷ pow B ∷ []) Z
unfolding Typed look first_of atomic_rules unary_rules relational_rules ◌⟷◌ read parts from_list letters slots named
range = record { agrees = named-agrees Z; rules = ((refl, (letters Z B, (refl, (refl, tt)))), (letters Z Z, (refl, tt)), (letters Z Z, (refl, tt))) }

-- {i, j · i ∈ BOOL | j ↦ i}, with j typed ℤ: index 0 is the last declared
comprehension : By empty (expression (quantified 0 2 (plain 3 ∷ typed 4 Z ∷ []) (relational 6 6 (bound 8 1) (atomic 11 3)) (binary 13 0 (bound 15 0) (bound 18 1))))
    (pow (prod Z B) ∷ B ∷ Z ∷ B ∷ pow B ∷ prod Z B ∷ Z ∷ B ∷ []) Z
unfolding Typed look first_of atomic_rules binary_rules relational_rules quantified_rules read parts from_list letters slots decls under
comprehension = record {
  agrees = empty-agrees (named Z);
  rules =
      ((tt, (refl, tt)), (refl, (letters Z Z, (refl, tt)), (letters Z Z, (refl, tt))), (refl, refl, (letters Z Z, (refl, tt))), (letters Z Z, (refl, tt)));
}

-- ∀ i ⦂ ℙ(S) · finite(i) ∧ partition(i): S has the type of a set of itself
annotation : By empty (predicate (quantification 0 (annotated 2 (spells (pow (base (given 3)))) ∷ []) (junction 7 (also (simple 10 (bound 11 0)) (also (multiple 14 (more (bound 17 0) none)) end)))))
    (pow (base (given 3)) ∷ pow (base (given 3)) ∷ pow (base (given 3)) ∷ []) (pow (base (given 3)))
unfolding Typed read parts from_list letters slots decls under types simple_rule named
annotation = record {
  agrees = empty-agrees (named (pow (base (given 3))));
  rules =
      (((refl, λ _. refl), tt), ((refl, (letters (base (given 3)) Z, (refl, tt))), (((refl, tt), (base (given 3), (refl, tt))), tt)));
}

-- the same declaration where the environment holds S, as a number: nothing is asked of S
unfoldable number : Env
number n = holds Z

held : Typing number (predicate (quantification 0 (annotated 2 (spells (pow (base (given 3)))) ∷ []) (constant 7))) (from_list (pow (base (given 3)) ∷ [])) (λ x. Z)
unfolding Typed from_list number
held = record { agrees = λ x t e. (let q : Z ≡ t = cc in q); rules = (((refl, λ e. (let z : ◌≡◌ {A = ℕ} 0 1 = cc in absurd (omega arith))), tt), tt) }

-- S ⦂ ℤ and x ⦂ S ask different types of S
not_noted : None empty (expression (binary 0 0 (ascribed 2 (free 3 3) 6 (spells Z)) (ascribed 7 (free 8 2) 11 (spells (base (given 3))))))
unfolding Typed look first_of binary_rules read parts slots
not_noted t =
    let p = t.2.rules in
    let l = p.0.0 in let m = p.0.2.0 in let n = p.1.2.1 refl in
    let z : ◌≡◌ {A = ℕ} 0 1 = cc in omega arith

-- bool(⊤), with its explicit type
truth_value : By empty (expression (explicit 0 B (truth 2 (constant 3)))) (B ∷ []) Z
unfolding Typed from_list slots
truth_value = record { agrees = empty-agrees (named Z); rules = ((tt, refl), refl) }

-- x ≔ 0; x, x :∈ succ; x :∣ x' = 0
set_to : By empty (becomes 0 ((record { place = 2; name = 2 }, literal 5) ∷ [])) (Z ∷ Z ∷ []) Z
unfolding Typed from_list slots named
set_to = record { agrees = empty-agrees (named Z); rules = (refl, refl, refl, tt) }

set-within : By empty (becomes_in 0 (record { place = 2; name = 2 }) (record { place = 5; name = 2 } ∷ []) (atomic 8 7)) (Z ∷ Z ∷ relation Z Z ∷ []) Z
unfolding Typed look first_of atomic_rules ◌⟷◌ read parts from_list slots named targets product
set-within = record { agrees = empty-agrees (named Z); rules = (refl, (refl, tt), (named Z, (refl, tt)), refl) }

set_such : By empty (becomes_such 0 (record { place = 2; name = 2 } ∷ []) (plain 5 ∷ []) (relational 6 0 (bound 8 0) (literal 11))) (Z ∷ Z ∷ Z ∷ Z ∷ []) Z
unfolding Typed look first_of relational_rules read parts from_list slots named targets decls under
set_such = record { agrees = empty-agrees (named Z); rules = ((refl, tt), (tt, tt), (refl, tt), (refl, refl, (named Z, (refl, tt)))) }

-- an index with no declaration, an application, an ascription to no type; an operator number past its table
dangling : None empty (expression (bound 0 0))
unfolding Typed
dangling t = t.2.rules

applied : None empty (predicate (application 0 none))
unfolding Typed
applied t = t.2.rules

ascribed-to-nothing : None empty (expression (ascribed 0 (literal 1) 2 no_type))
unfolding Typed
ascribed-to-nothing t = t.2.rules.2

no_operator : None empty (expression (atomic 0 12))
unfolding Typed look first_of atomic_rules never_typed read
no_operator t = let e = t.2.rules.1.0 in let z : ◌≡◌ {A = ℕ} 0 1 = cc in omega arith
