-- Worked streams, computed: the auditor's cases 9, 10 and 11, and one or more for each rule about places and limits.
-- A case is a stream (one name is known), its number and its place.
use Rattle.std.specs.Prelude.{ℕ, ◌≡◌, refl, List, [], ◌∷◌, ◌++◌, replicate}
use Rattle.types.specs.Record as R
use Rattle.types.specs.Record.{type_at, type_by, head_of, given_of, deep_by}
use Rattle.formula.specs.Environment.{first, lookup}
use Rattle.heads.specs.Heads.{byte_of, byte_at, on_part, word_at, name_at, op_at, count_at, few_at, expr_body, expr_head, pred_body, pred_head, decl_body, decl_head, target_at}
use Rattle.formula.specs.Reader.{and_then, on_next, many, moved, own_of, declare_of, closed, closing, type_got, type_in, read_no_type, spelled_in, spelling_in}
use Rattle.formula.specs.Parse.{decl_by, decl_if, decl_at, decls_at, expr_by, pred_by, expr_if, pred_if, expr_deep, pred_deep, expr_at, pred_at, target_by, target_in, pair_in, targets_at, pairs_at, becomes_by, becomes_at, root_by, formula_at, finish, whole, parsed_by, parse_of, form_of}
use Rattle.formula.specs.EnvParse.{entry_at, typed_by, fresh_by, entry_by, entries_from, capped, environment_of}
use Rattle.formula_laws.specs.Numbers.{number_of, formula_number, environment_number, place_of}

-- number and place of a formula, of an environment; of each in a row
abbrev formula : List ℕ → ℕ × ℕ
formula s = (formula_number (form_of (parse_of 1 s)), place_of (form_of (parse_of 1 s)))

abbrev environment : List ℕ → ℕ × ℕ
environment s = (environment_number (form_of (environment_of 1 s)), place_of (form_of (environment_of 1 s)))

abbrev each : (List ℕ → ℕ × ℕ) → List (List ℕ) → List (ℕ × ℕ)
each f [] = []
each f (s ∷ ss) = f s ∷ each f ss

abbrev formulas : List (List ℕ)
formulas =
    (0x20 ∷ [])  -- case 9
    ∷ []  -- case 9: no byte at all
    ∷ (0x05 ∷ 0x00 ∷ 0x00 ∷ [])  -- case 10: no member
    ∷ (replicate 64 0x25 ++ (0x20 ∷ []))  -- case 11: depth 64
    ∷ (replicate 65 0x25 ++ (0x20 ∷ []))  -- case 11: depth 65
    ∷ replicate 65 0x25  -- a record missing at depth 65 is missing
    ∷ (replicate 65 0x25 ++ (0x33 ∷ []))  -- malformed before too deep
    ∷ (0x26 ∷ 64 ∷ (replicate 64 0x10 ++ (0x20 ∷ [])))  -- 64 open declarations
    ∷ (0x26 ∷ 65 ∷ (replicate 65 0x10 ++ (0x20 ∷ [])))  -- the 65th
    ∷ (0x01 ∷ 0x00 ∷ [])  -- a cut record: at its start
    ∷ (0x07 ∷ 0x00 ∷ 0x03 ∷ [])  -- a missing record: at the length
    ∷ (0x20 ∷ 0x20 ∷ [])  -- bytes left over: at the first
    ∷ (0x01 ∷ 0x01 ∷ 0x00 ∷ [])  -- a name at the count
    ∷ (0x04 ∷ 12 ∷ [])  -- an operator out of range
    ∷ (0x08 ∷ 0x00 ∷ 0x01 ∷ 0x00 ∷ 0x03 ∷ [])  -- one child of an associative operator
    ∷ (0x0C ∷ 0x41 ∷ 0x0C ∷ 0x41 ∷ 0x03 ∷ [])  -- 0C under 0C
    ∷ (0x0C ∷ 0x4F ∷ 0x03 ∷ [])  -- 4F in a 0C
    ∷ (0x0B ∷ 0x03 ∷ 0x4F ∷ [])  -- 4F in an ascription
    ∷ (0x10 ∷ [])  -- a declaration at the root
    ∷ (0x25 ∷ 0x03 ∷ [])  -- an expression where a predicate is due
    ∷ (0x30 ∷ 0x01 ∷ 0x0C ∷ 0x41 ∷ 0x01 ∷ 0x00 ∷ 0x00 ∷ 0x03 ∷ [])  -- a target that is no 01
    ∷ (0x30 ∷ 0x00 ∷ [])  -- no target
    ∷ (0x31 ∷ 0x02 ∷ 0x01 ∷ 0x00 ∷ 0x00 ∷ 0x01 ∷ 0x00 ∷ 0x00 ∷ 0x04 ∷ 0x08 ∷ [])  -- a target twice
    ∷ (0x29 ∷ 0x00 ∷ 0x00 ∷ [])  -- an application of nothing
    ∷ (0x05 ∷ 0x01 ∷ 0x04 ∷ replicate 1025 0x03)  -- slot 1,025: the extension has one, and 1,024 members
    ∷ (replicate 64 0x25 ++ (0x27 ∷ 0x03 ∷ []))  -- an expression at depth 65
    ∷ (replicate 64 0x25 ++ (0x26 ∷ 0x01 ∷ 0x10 ∷ 0x20 ∷ []))  -- a declaration at depth 65
    ∷ (replicate 63 0x25 ++ (0x26 ∷ 0x01 ∷ 0x12 ∷ 0x4F ∷ 0x20 ∷ []))  -- a 4F at depth 65
    ∷ (0x05 ∷ 0x00 ∷ 0x04 ∷ (replicate 1023 0x03 ++ (0x0C ∷ 0x41 ∷ 0x03 ∷ [])))  -- 0C in front of slot 1,025: the inner record
    ∷ (0x05 ∷ 0x00 ∷ 0x04 ∷ (replicate 1023 0x03 ++ (0x20 ∷ [])))  -- malformed before slot 1,025
    ∷ (0x26 ∷ 0x01 ∷ 0x11 ∷ 0x4F ∷ 0x20 ∷ [])  -- 4F in a typed declaration
    ∷ (0x05 ∷ 0x01 ∷ 0x00 ∷ 0x20 ∷ [])  -- a predicate where an expression is due
    ∷ (0x05 ∷ 0x02 ∷ 0x00 ∷ 0x03 ∷ [])  -- the second member missing
    ∷ []

pub formula-cases :
    each formula formulas ≡
    ((0, 0) ∷ (4, 0) ∷ (4, 0) ∷ (0, 0) ∷ (5, 65) ∷ (4, 65) ∷ (4, 65) ∷ (0, 0) ∷ (5, 66) ∷ (4, 0) ∷ (4, 3) ∷ (4, 1) ∷ (4, 0) ∷ (4, 0) ∷ (4, 0) ∷ (4, 2) ∷ (4, 1) ∷ (0, 0) ∷ (4, 0) ∷ (4, 1) ∷ (4, 2) ∷ (4, 0) ∷ (0, 0) ∷ (0, 0) ∷ (5, 1026) ∷ (5, 65) ∷ (5, 66) ∷ (5, 66) ∷ (5, 1028) ∷ (4, 1026) ∷ (4, 3) ∷ (4, 3) ∷ (4, 4) ∷ [])
unfolding type_at type_by head_of given_of deep_by R.and_then byte_of byte_at on_part word_at name_at op_at count_at few_at expr_body expr_head pred_body pred_head decl_body decl_head target_at and_then on_next many moved own_of declare_of closed closing type_got type_in read_no_type spelled_in spelling_in decl_by decl_if decl_at decls_at expr_by pred_by expr_if pred_if expr_deep pred_deep expr_at pred_at target_by target_in pair_in targets_at pairs_at becomes_by becomes_at root_by formula_at finish whole parsed_by parse_of form_of number_of formula_number place_of
formula-cases = refl

abbrev environments : List (List ℕ)
environments =
    []  -- no entry
    ∷ (0x50 ∷ 0x00 ∷ 0x00 ∷ 0x41 ∷ [])  -- one
    ∷ (0x50 ∷ 0x00 ∷ 0x00 ∷ 0x41 ∷ 0x50 ∷ 0x00 ∷ 0x00 ∷ 0xFF ∷ [])  -- a name twice, before its type is looked at
    ∷ (0x50 ∷ 0x00 ∷ 0x00 ∷ 0x41 ∷ 0x20 ∷ [])  -- another byte than 50
    ∷ (0x50 ∷ 0x01 ∷ 0x00 ∷ 0x41 ∷ [])  -- a name at the count
    ∷ (0x50 ∷ 0x00 ∷ [])  -- a cut entry
    ∷ (0x50 ∷ 0x00 ∷ 0x00 ∷ [])  -- a missing type
    ∷ (0x50 ∷ 0x00 ∷ 0x00 ∷ 0x44 ∷ 0x41 ∷ 0x4F ∷ [])  -- 4F inside a type
    ∷ (0x50 ∷ 0x00 ∷ 0x00 ∷ 0x4F ∷ [])  -- 4F for a type
    ∷ (0x50 ∷ 0x00 ∷ 0x00 ∷ (replicate 63 0x43 ++ (0x41 ∷ [])))  -- a type 63 deep: depth 64
    ∷ (0x50 ∷ 0x00 ∷ 0x00 ∷ (replicate 64 0x43 ++ (0x41 ∷ [])))  -- 64 deep: depth 65
    ∷ []

pub environment-cases :
    each environment environments ≡ ((0, 0) ∷ (0, 0) ∷ (3, 4) ∷ (3, 4) ∷ (3, 0) ∷ (3, 0) ∷ (3, 3) ∷ (3, 5) ∷ (3, 3) ∷ (0, 0) ∷ (5, 67) ∷ [])
unfolding type_at type_by head_of given_of deep_by R.and_then byte_of byte_at on_part word_at name_at first lookup entry_at typed_by fresh_by entry_by entries_from capped environment_of form_of number_of environment_number place_of
environment-cases = refl
