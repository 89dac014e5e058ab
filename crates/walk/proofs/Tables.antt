-- The theorems of specs/Tables.antt: `atomic-table`, `binary-table`, `unary-table`, `relational-table`, `associative-table`, `atomic-fits` and
-- others.
use Rattle.std.specs.Prelude.{ℕ, ◌≡◌, true}
use Rattle.std.proofs.Math.Path.{refl}
use Rattle.typing.specs.Equations.{◌⟷◌, no_rule, first_of, look, never, never_typed}
use Rattle.typing.specs.Rules.{atomic_rules, binary_rules, associative_rules, unary_rules, relational_rules}
use Rattle.walk.specs.Scripts.{scripted, never_items, never_script, atomic_scripts, binary_scripts, unary_scripts, relational_scripts, no_script, associative_scripts}
use Rattle.walk.specs.Tables.{look-map, rule_of, put, claims, rows, equations, outcome, locals, form, many_of, fits, look-true, all_rows, ref_ok, scoped, made, gathers, silent}

pub atomic-table : (o : ℕ) → rule_of (look atomic_scripts never_script o) ≡ look atomic_rules never_typed o
unfolding rule_of rows claims equations outcome locals form put first_of scripted atomic_scripts never_script atomic_rules never_typed ◌⟷◌
atomic-table o = look-map rule_of atomic_scripts never_script o

pub binary-table : (o : ℕ) → rule_of (look binary_scripts never_script o) ≡ look binary_rules never_typed o
unfolding rule_of rows claims equations outcome locals form put first_of scripted binary_scripts never_script binary_rules never_typed ◌⟷◌
binary-table o = look-map rule_of binary_scripts never_script o

pub unary-table : (o : ℕ) → rule_of (look unary_scripts never_script o) ≡ look unary_rules never_typed o
unfolding rule_of rows claims equations outcome locals form put first_of scripted unary_scripts never_script unary_rules never_typed ◌⟷◌
unary-table o = look-map rule_of unary_scripts never_script o

pub relational-table : (o : ℕ) → claims (look relational_scripts never_items o) ≡ look relational_rules never o
unfolding rows claims equations form put first_of relational_scripts never_items relational_rules never
relational-table o = look-map claims relational_scripts never_items o

pub associative-table : (o : ℕ) → many_of (look associative_scripts no_script o) ≡ look associative_rules no_rule o
unfolding many_of rows outcome locals form put first_of scripted associative_scripts associative_rules ◌⟷◌
associative-table o = look-map many_of associative_scripts no_script o

pub atomic-fits : (o : ℕ) → fits 0 (look atomic_scripts never_script o) ≡ true
unfolding all_rows fits scoped ref_ok made scripted atomic_scripts never_script never_items
atomic-fits o = look-true (fits 0) atomic_scripts never_script o refl

pub binary-fits : (o : ℕ) → fits 2 (look binary_scripts never_script o) ≡ true
unfolding all_rows fits scoped ref_ok made scripted binary_scripts never_script never_items
binary-fits o = look-true (fits 2) binary_scripts never_script o refl

pub unary-fits : (o : ℕ) → fits 1 (look unary_scripts never_script o) ≡ true
unfolding all_rows fits scoped ref_ok made scripted unary_scripts never_script never_items
unary-fits o = look-true (fits 1) unary_scripts never_script o refl

pub relational-fits : (o : ℕ) → scoped 2 0 (look relational_scripts never_items o) ≡ true
unfolding all_rows scoped ref_ok relational_scripts never_items
relational-fits o = look-true (scoped 2 0) relational_scripts never_items o refl

pub associative-fits : (o : ℕ) → gathers (look associative_scripts no_script o) ≡ true
unfolding all_rows gathers silent claims equations fits scoped ref_ok made scripted associative_scripts
associative-fits o = look-true gathers associative_scripts no_script o refl
