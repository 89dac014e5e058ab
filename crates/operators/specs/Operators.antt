-- The rule of each operator: which script it plays. A reader finds an operator's script by its name here, its items in `specs/Scripts`.
use Rattle.std.specs.Prelude.{ℕ, eqb, leb}
use Rattle.forms.specs.Forms.{test}
use Rattle.operators.specs.declared.Plan.{Plan}
use Rattle.operators.specs.declared.Mode.TheVariants as M
use Rattle.operators.specs.declared.Script.{Script}
use Rattle.operators.specs.declared.Script.TheVariants as S

unfoldable pub check_atomic_of : ℕ → Script
check_atomic_of op =
    test (leb op 2) (λ _. S.Integers)
    (λ _. test (eqb op 3) (λ _. S.Booleans)
    (λ _. test (leb op 5) (λ _. S.Truth)
    (λ _. test (leb op 7) (λ _. S.Succession)
    (λ _. test (eqb op 8) (λ _. S.EmptySet)
    (λ _. test (eqb op 9) (λ _. S.Identity)
    (λ _. test (eqb op 10) (λ _. S.FirstOf) (λ _. S.SecondOf)))))))

unfoldable pub check_binary_of : ℕ → Script
check_binary_of op =
    test (eqb op 0) (λ _. S.Maplet)
    (λ _. test (leb op 11) (λ _. S.Relations)
    (λ _. test (eqb op 12) (λ _. S.Difference)
    (λ _. test (eqb op 13) (λ _. S.Cartesian)
    (λ _. test (eqb op 14) (λ _. S.Direct)
    (λ _. test (eqb op 15) (λ _. S.Parallel)
    (λ _. test (leb op 17) (λ _. S.DomainCut)
    (λ _. test (leb op 19) (λ _. S.RangeCut)
    (λ _. test (eqb op 20) (λ _. S.Interval)
    (λ _. test (leb op 24) (λ _. S.Arithmetic)
    (λ _. test (eqb op 25) (λ _. S.Application) (λ _. S.Image)))))))))))

unfoldable pub check_unary_of : ℕ → Script
check_unary_of op =
    test (eqb op 0) (λ _. S.Cardinality)
    (λ _. test (leb op 2) (λ _. S.Powerset)
    (λ _. test (leb op 4) (λ _. S.Generalized)
    (λ _. test (eqb op 5) (λ _. S.Domain)
    (λ _. test (eqb op 6) (λ _. S.Range)
    (λ _. test (leb op 8) (λ _. S.Extremum)
    (λ _. test (eqb op 9) (λ _. S.Converse) (λ _. S.Minus)))))))

unfoldable pub check_quantified_of : ℕ → Script
check_quantified_of op =
    test (leb op 1) (λ _. S.Set) (λ _. S.Power)

unfoldable pub check_relational_of : ℕ → Script
check_relational_of op =
    test (leb op 1) (λ _. S.Equality)
    (λ _. test (leb op 5) (λ _. S.Order)
    (λ _. test (leb op 7) (λ _. S.Membership) (λ _. S.Inclusion)))

unfoldable pub check_associative_of : ℕ → Plan
check_associative_of op =
    test (leb op 1) (λ _. record { first = S.EmptySet; link = S.Nothing; last = S.Nothing; mode = M.Same })
    (λ _. test (eqb op 2) (λ _. record { first = S.Relation; link = S.Nothing; last = S.Nothing; mode = M.Same })
    (λ _. test (eqb op 3) (λ _. record { first = S.Unknown; link = S.Forth; last = S.ForthAll; mode = M.Linked })
    (λ _. test (eqb op 4) (λ _. record { first = S.Unknown; link = S.Back; last = S.BackAll; mode = M.Linked }) (λ _. record { first = S.Integer; link = S.Nothing; last = S.Nothing; mode = M.Same }))))
