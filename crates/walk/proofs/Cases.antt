-- The walk's operations for formulas of the auditor's table, and for each kind of record that compares, computed: nodes are numbered
-- from 0 as they are made, places are offsets. After this file a reader has seen the order and the places of each kind.
use Rattle.std.specs.Prelude.{ℕ, ◌≡◌, refl, [], ◌∷◌}
use Rattle.types.specs.Ty.{int, given, base, pow}
use Rattle.formula.specs.Environment.{lacks, holds, Env}
use Rattle.formula.specs.Tree.{spells, no_type, plain, typed, annotated, free, bound, literal, atomic, extension, truth, binary, associative, unary, quantified, ascribed, explicit, none, more, constant, relational, junction, quantification, simple, multiple, application, end, also, expression, predicate, becomes, becomes_in, becomes_such, place}
use Rattle.unification.specs.Ops.{Op, pay, make, compare, list}
use Rattle.typing.specs.Equations.{first_of, look}
use Rattle.walk.specs.Writer.{found, find, done, glue, ◌>>=◌, enter, own, node, same, problem, enrol}
use Rattle.walk.specs.Scripts.{pick, play, perform, three, scripted, atomic_scripts, binary_scripts, unary_scripts, quantified_scripts, relational_scripts, associative_scripts}
use Rattle.walk.specs.Walk.{relation, stepped, last, gather, atom, lift, from_env, known, counted, over, name, note_of, notes, meets, spelled, claim, at_decl, declare, ascription, expr, script_of, walk, target, pairs, products, targets_of, shares, forget, walk_formula, walked}

-- operations that make a node
abbrev new_unknown : Op
new_unknown = make 0x4E 0 0

abbrev new_boolean : Op
new_boolean = make 0x40 0 0

abbrev new_integer : Op
new_integer = make 0x41 0 0

abbrev new_given : ℕ → Op
new_given x = make 0x42 x 0

abbrev new_power : ℕ → Op
new_power x = make 0x43 x 0

abbrev new_pair : ℕ → ℕ → Op
new_pair x y = make 0x44 x y

abbrev empty : Env
empty x = lacks

-- every name a number
abbrev numbers : Env
numbers x = holds (base int)

-- case 1: 22 06 01 00 00 04 00
case_1 : (walked empty (predicate (relational 0 6 (free 2 0) (atomic 5 0)))).ops
    ≡ pay ∷ pay ∷ new_unknown ∷ pay ∷ new_integer ∷ new_power 1 ∷ new_power 0 ∷ compare 2 3 0 ∷ []
unfolding found find done glue ◌>>=◌ enter own node same problem enrol pick play perform three scripted atomic_scripts binary_scripts unary_scripts quantified_scripts relational_scripts associative_scripts relation stepped last gather atom lift from_env known counted over name note_of notes meets spelled claim at_decl declare ascription expr script_of walk target pairs products targets_of shares forget walk_formula walked look first_of place
case_1 = refl

-- its slots: reference and place
case_1_slots : (walked empty (predicate (relational 0 6 (free 2 0) (atomic 5 0)))).slots
    ≡ (0, 2) ∷ (2, 5) ∷ []
unfolding found find done glue ◌>>=◌ enter own node same problem enrol pick play perform three scripted atomic_scripts binary_scripts unary_scripts quantified_scripts relational_scripts associative_scripts relation stepped last gather atom lift from_env known counted over name note_of notes meets spelled claim at_decl declare ascription expr script_of walk target pairs products targets_of shares forget walk_formula walked look first_of place
case_1_slots = refl

-- case 7 without its environment: 26 01 12 43 42 00 00 20
case_7 : (walked empty (predicate (quantification 0 (annotated 2 (spells (pow (base (given 0)))) ∷ []) (constant 7)))).ops
    ≡ pay ∷ pay ∷ new_unknown ∷ new_unknown ∷ new_given 0 ∷ new_power 2 ∷ compare 1 3 2 ∷ new_given 0 ∷ new_power 4 ∷ compare 0 5 2 ∷ pay ∷ []
unfolding found find done glue ◌>>=◌ enter own node same problem enrol pick play perform three scripted atomic_scripts binary_scripts unary_scripts quantified_scripts relational_scripts associative_scripts relation stepped last gather atom lift from_env known counted over name note_of notes meets spelled claim at_decl declare ascription expr script_of walk target pairs products targets_of shares forget walk_formula walked look first_of place
case_7 = refl

-- the same where the environment holds the name: it is not noted
case_7_held : (walked numbers (predicate (quantification 0 (annotated 2 (spells (pow (base (given 0)))) ∷ []) (constant 7)))).ops
    ≡ pay ∷ pay ∷ new_unknown ∷ new_given 0 ∷ new_power 1 ∷ compare 0 2 2 ∷ pay ∷ []
unfolding found find done glue ◌>>=◌ enter own node same problem enrol pick play perform three scripted atomic_scripts binary_scripts unary_scripts quantified_scripts relational_scripts associative_scripts relation stepped last gather atom lift from_env known counted over name note_of notes meets spelled claim at_decl declare ascription expr script_of walk target pairs products targets_of shares forget walk_formula walked look first_of place
case_7_held = refl

-- case 8: 02 00 00
case_8 : (walked empty (expression (bound 0 0))).ops
    ≡ pay ∷ list 4 0 ∷ new_unknown ∷ []
unfolding found find done glue ◌>>=◌ enter own node same problem enrol pick play perform three scripted atomic_scripts binary_scripts unary_scripts quantified_scripts relational_scripts associative_scripts relation stepped last gather atom lift from_env known counted over name note_of notes meets spelled claim at_decl declare ascription expr script_of walk target pairs products targets_of shares forget walk_formula walked look first_of place
case_8 = refl

-- 08 03 02 00, 01 00 00, 01 01 00: f ; g
case_chain : (walked empty (expression (associative 0 3 (more (free 4 0) (more (free 7 1) none))))).ops
    ≡ pay ∷ new_unknown ∷ new_unknown ∷ new_pair 0 1 ∷ new_power 2 ∷ pay ∷ new_unknown ∷ compare 4 3 4 ∷ new_unknown ∷ new_pair 1 5 ∷ new_power 6 ∷ pay ∷ new_unknown ∷ compare 8 7 7 ∷ new_pair 0 5 ∷ new_power 9 ∷ []
unfolding found find done glue ◌>>=◌ enter own node same problem enrol pick play perform three scripted atomic_scripts binary_scripts unary_scripts quantified_scripts relational_scripts associative_scripts relation stepped last gather atom lift from_env known counted over name note_of notes meets spelled claim at_decl declare ascription expr script_of walk target pairs products targets_of shares forget walk_formula walked look first_of place
case_chain = refl

-- 08 04 02 00, 01 00 00, 01 01 00: f ∘ g
case_back : (walked empty (expression (associative 0 4 (more (free 4 0) (more (free 7 1) none))))).ops
    ≡ pay ∷ new_unknown ∷ new_unknown ∷ new_pair 1 0 ∷ new_power 2 ∷ pay ∷ new_unknown ∷ compare 4 3 4 ∷ new_unknown ∷ new_pair 5 1 ∷ new_power 6 ∷ pay ∷ new_unknown ∷ compare 8 7 7 ∷ new_pair 5 0 ∷ new_power 9 ∷ []
unfolding found find done glue ◌>>=◌ enter own node same problem enrol pick play perform three scripted atomic_scripts binary_scripts unary_scripts quantified_scripts relational_scripts associative_scripts relation stepped last gather atom lift from_env known counted over name note_of notes meets spelled claim at_decl declare ascription expr script_of walk target pairs products targets_of shares forget walk_formula walked look first_of place
case_back = refl

-- 05 02 00, 01 00 00, 01 00 00, a held name twice: its type is lifted once
case_lifted : (walked numbers (expression (extension 0 (more (free 3 0) (more (free 6 0) none))))).ops
    ≡ pay ∷ new_unknown ∷ pay ∷ new_integer ∷ compare 1 0 3 ∷ pay ∷ compare 1 0 6 ∷ new_power 0 ∷ []
unfolding found find done glue ◌>>=◌ enter own node same problem enrol pick play perform three scripted atomic_scripts binary_scripts unary_scripts quantified_scripts relational_scripts associative_scripts relation stepped last gather atom lift from_env known counted over name note_of notes meets spelled claim at_decl declare ascription expr script_of walk target pairs products targets_of shares forget walk_formula walked look first_of place
case_lifted = refl

-- 09 00 0C 43 41 04 08: card of a set with an explicit type; the place is that of the expression inside
case_unary : (walked empty (expression (unary 0 0 (explicit 2 (pow (base int)) (atomic 5 8))))).ops
    ≡ pay ∷ pay ∷ pay ∷ new_unknown ∷ new_power 0 ∷ new_integer ∷ new_power 2 ∷ compare 1 3 5 ∷ new_unknown ∷ new_power 4 ∷ compare 1 5 5 ∷ new_integer ∷ []
unfolding found find done glue ◌>>=◌ enter own node same problem enrol pick play perform three scripted atomic_scripts binary_scripts unary_scripts quantified_scripts relational_scripts associative_scripts relation stepped last gather atom lift from_env known counted over name note_of notes meets spelled claim at_decl declare ascription expr script_of walk target pairs products targets_of shares forget walk_formula walked look first_of place
case_unary = refl

-- 07 19 01 00 00 03: f(0), compared at the record
case_binary : (walked empty (expression (binary 0 25 (free 2 0) (literal 5)))).ops
    ≡ pay ∷ pay ∷ new_unknown ∷ pay ∷ new_integer ∷ new_unknown ∷ new_unknown ∷ new_pair 2 3 ∷ new_power 4 ∷ compare 0 5 0 ∷ compare 1 2 0 ∷ []
unfolding found find done glue ◌>>=◌ enter own node same problem enrol pick play perform three scripted atomic_scripts binary_scripts unary_scripts quantified_scripts relational_scripts associative_scripts relation stepped last gather atom lift from_env known counted over name note_of notes meets spelled claim at_decl declare ascription expr script_of walk target pairs products targets_of shares forget walk_formula walked look first_of place
case_binary = refl

-- 22 02 03 03: each side at its own place
case_less : (walked empty (predicate (relational 0 2 (literal 2) (literal 3)))).ops
    ≡ pay ∷ pay ∷ new_integer ∷ pay ∷ new_integer ∷ new_integer ∷ compare 0 2 2 ∷ compare 1 2 3 ∷ []
unfolding found find done glue ◌>>=◌ enter own node same problem enrol pick play perform three scripted atomic_scripts binary_scripts unary_scripts quantified_scripts relational_scripts associative_scripts relation stepped last gather atom lift from_env known counted over name note_of notes meets spelled claim at_decl declare ascription expr script_of walk target pairs products targets_of shares forget walk_formula walked look first_of place
case_less = refl

-- 22 08 04 08 04 08: each side at its own place, then both at the record
case_subset : (walked empty (predicate (relational 0 8 (atomic 2 8) (atomic 4 8)))).ops
    ≡ pay ∷ pay ∷ new_unknown ∷ new_power 0 ∷ pay ∷ new_unknown ∷ new_power 2 ∷ new_unknown ∷ new_power 4 ∷ compare 1 5 2 ∷ compare 3 5 4 ∷ compare 1 3 0 ∷ []
unfolding found find done glue ◌>>=◌ enter own node same problem enrol pick play perform three scripted atomic_scripts binary_scripts unary_scripts quantified_scripts relational_scripts associative_scripts relation stepped last gather atom lift from_env known counted over name note_of notes meets spelled claim at_decl declare ascription expr script_of walk target pairs products targets_of shares forget walk_formula walked look first_of place
case_subset = refl

-- 0B 03 42 00 00: notes at the type, then the comparison at the record
case_ascribed : (walked empty (expression (ascribed 0 (literal 1) 2 (spells (base (given 0)))))).ops
    ≡ pay ∷ pay ∷ new_integer ∷ new_unknown ∷ new_given 0 ∷ new_power 2 ∷ compare 1 3 2 ∷ new_given 0 ∷ compare 0 4 0 ∷ []
unfolding found find done glue ◌>>=◌ enter own node same problem enrol pick play perform three scripted atomic_scripts binary_scripts unary_scripts quantified_scripts relational_scripts associative_scripts relation stepped last gather atom lift from_env known counted over name note_of notes meets spelled claim at_decl declare ascription expr script_of walk target pairs products targets_of shares forget walk_formula walked look first_of place
case_ascribed = refl

-- 0B 03 4F: problem 0 at the 4F
case_no_type : (walked empty (expression (ascribed 0 (literal 1) 2 no_type))).ops
    ≡ pay ∷ pay ∷ new_integer ∷ list 0 2 ∷ []
unfolding found find done glue ◌>>=◌ enter own node same problem enrol pick play perform three scripted atomic_scripts binary_scripts unary_scripts quantified_scripts relational_scripts associative_scripts relation stepped last gather atom lift from_env known counted over name note_of notes meets spelled claim at_decl declare ascription expr script_of walk target pairs products targets_of shares forget walk_formula walked look first_of place
case_no_type = refl

-- 0A 00 01 11 43 41 20 02 00 00: ⋃, compared at its expression
case_quantified : (walked empty (expression (quantified 0 0 (typed 3 (pow (base int)) ∷ []) (constant 6) (bound 7 0)))).ops
    ≡ pay ∷ pay ∷ new_unknown ∷ new_integer ∷ new_power 1 ∷ compare 0 2 3 ∷ pay ∷ pay ∷ new_unknown ∷ new_power 3 ∷ compare 0 4 7 ∷ []
unfolding found find done glue ◌>>=◌ enter own node same problem enrol pick play perform three scripted atomic_scripts binary_scripts unary_scripts quantified_scripts relational_scripts associative_scripts relation stepped last gather atom lift from_env known counted over name note_of notes meets spelled claim at_decl declare ascription expr script_of walk target pairs products targets_of shares forget walk_formula walked look first_of place
case_quantified = refl

-- 27 04 08, 28 01 00 04 08 and 29 01 00 03, under 24: finite after its part, partition before, an application last
case_simple : (walked empty (predicate (junction 0 (also (simple 3 (atomic 4 8)) (also (multiple 6 (more (atomic 9 8) none)) (also (application 11 (more (literal 14) none)) end)))))).ops
    ≡ pay ∷ pay ∷ pay ∷ new_unknown ∷ new_power 0 ∷ new_unknown ∷ new_power 2 ∷ compare 1 3 4 ∷ pay ∷ new_unknown ∷ new_power 4 ∷ pay ∷ new_unknown ∷ new_power 6 ∷ compare 7 5 9 ∷ pay ∷ pay ∷ new_integer ∷ list 5 11 ∷ []
unfolding found find done glue ◌>>=◌ enter own node same problem enrol pick play perform three scripted atomic_scripts binary_scripts unary_scripts quantified_scripts relational_scripts associative_scripts relation stepped last gather atom lift from_env known counted over name note_of notes meets spelled claim at_decl declare ascription expr script_of walk target pairs products targets_of shares forget walk_formula walked look first_of place
case_simple = refl

-- 30 01 01 00 00 06 20: value against target, at the value
case_becomes : (walked empty (becomes 0 ((record { place = 2; name = 0 }, truth 5 (constant 6)) ∷ []))).ops
    ≡ pay ∷ pay ∷ new_unknown ∷ pay ∷ pay ∷ new_boolean ∷ compare 1 0 5 ∷ []
unfolding found find done glue ◌>>=◌ enter own node same problem enrol pick play perform three scripted atomic_scripts binary_scripts unary_scripts quantified_scripts relational_scripts associative_scripts relation stepped last gather atom lift from_env known counted over name note_of notes meets spelled claim at_decl declare ascription expr script_of walk target pairs products targets_of shares forget walk_formula walked look first_of place
case_becomes = refl

-- 31 02 01 00 00 01 01 00 04 08: set against the power of the product, at the set
case_becomes_in : (walked empty (becomes_in 0 (record { place = 2; name = 0 }) (record { place = 5; name = 1 } ∷ []) (atomic 8 8))).ops
    ≡ pay ∷ pay ∷ new_unknown ∷ pay ∷ new_unknown ∷ new_pair 0 1 ∷ new_power 2 ∷ pay ∷ new_unknown ∷ new_power 4 ∷ compare 5 3 8 ∷ []
unfolding found find done glue ◌>>=◌ enter own node same problem enrol pick play perform three scripted atomic_scripts binary_scripts unary_scripts quantified_scripts relational_scripts associative_scripts relation stepped last gather atom lift from_env known counted over name note_of notes meets spelled claim at_decl declare ascription expr script_of walk target pairs products targets_of shares forget walk_formula walked look first_of place
case_becomes_in = refl

-- 32 01 01 00 00 10 20: declaration against target, at the assignment
case_becomes_such : (walked empty (becomes_such 0 (record { place = 2; name = 0 } ∷ []) (plain 5 ∷ []) (constant 6))).ops
    ≡ pay ∷ pay ∷ new_unknown ∷ pay ∷ new_unknown ∷ compare 1 0 0 ∷ pay ∷ []
unfolding found find done glue ◌>>=◌ enter own node same problem enrol pick play perform three scripted atomic_scripts binary_scripts unary_scripts quantified_scripts relational_scripts associative_scripts relation stepped last gather atom lift from_env known counted over name note_of notes meets spelled claim at_decl declare ascription expr script_of walk target pairs products targets_of shares forget walk_formula walked look first_of place
case_becomes_such = refl
