-- After the walk: names, then slots, are tested for unknowns, and the formula's types or its problems are settled.
-- After this file a reader knows which types and which problems an answer lists, in which order, and what the tests cost.
use Rattle.std.specs.Prelude.{ℕ, Bool, true, false, List, [], ◌∷◌, ◌++◌}
use Rattle.meter.specs.Meter.{Out, spent, halt, done, M, ret, ◌>>=◌, mapped}
use Rattle.types.specs.Ty.{Ty}
use Rattle.formula.specs.Environment.{Entry, lacks, holds, Env}
use Rattle.unification.specs.Arena.{Words, U, solved, read}
use Rattle.unification.specs.Ops.{Bench}
use Rattle.walk.specs.Writer.{Met, Row}
use Rattle.inference.specs.Answer.{Problem, nameless}

-- ---- the test of one reference

-- its type, or that an unknown remains in it
pub data Finding : Type 0 where
  found : Ty → Finding
  unsolved : Finding

-- the test's own outcome, and where it says yes the type that is read there, at the same cost
unfoldable pub finding : Out U Bool → Out U Ty → Out U Finding
finding (spent e) type = spent e
finding (halt w e) type = halt w e
finding (done false left) type = done unsolved left
finding (done true left) type = mapped found type

unfoldable pub test : Words → ℕ → ℕ → M U Finding
test ws n t b = finding (solved ws n t b) (read ws n t b)

-- ---- what is tested: a reference, the name or place that its type is answered under, and the problem it is where an unknown remains
pub record Question : Type 0 where
  pub ref : ℕ
  pub key : ℕ
  pub problem : Problem

pub record Findings : Type 0 where
  pub types : List (ℕ × Ty)
  pub problems : List Problem

unfoldable pub noted : Question → Finding → Findings → Findings
noted q (found t) f = record { types = (q.key, t) ∷ f.types; problems = f.problems }
noted q unsolved f = record { types = f.types; problems = q.problem ∷ f.problems }

-- one after the other; one that fails does not stop the row
unfoldable pub ask : Words → ℕ → List Question → M U Findings
ask ws n [] = ret (record { types = []; problems = [] })
ask ws n (q ∷ qs) = test ws n q.ref >>= λ x. ask ws n qs >>= λ f. ret (noted q x f)

-- names: those that the environment lacks, in order of first meeting; one without a type is problem 3 at its first place
unfoldable pub ask_name : Entry → Met → List Question → List Question
ask_name lacks m qs = record { ref = m.ref; key = m.name; problem = record { kind = 3; place = m.place; name = m.name } } ∷ qs
ask_name (holds t) m qs = qs

unfoldable pub names : Env → Row → List Question
names Γ [] = []
names Γ (m ∷ ms) = ask_name (Γ m.name) m (names Γ ms)

-- slots, each a reference and a place; one without a type is problem 2 at its place
unfoldable pub slots : List (ℕ × ℕ) → List Question
slots [] = []
slots (s ∷ ss) = record { ref = s.0; key = s.1; problem = record { kind = 2; place = s.1; name = nameless } } ∷ slots ss

-- ---- the outcome: the inferred environment with the slots' types, or problems in the order of listing
pub data Outcome : Type 0 where
  typed : List (ℕ × Ty) → List (ℕ × Ty) → Outcome
  failed : List Problem → Outcome

unfoldable pub settled : List Problem → List (ℕ × Ty) → List (ℕ × Ty) → Outcome
settled [] entries types = typed entries types
settled (p ∷ ps) entries types = failed (p ∷ ps)

-- slots are tested only where nothing is listed yet
unfoldable pub test_slots : List Problem → List (ℕ × Ty) → List (ℕ × ℕ) → Bench → M U Outcome
test_slots (p ∷ ps) entries ss s = ret (failed (p ∷ ps))
test_slots [] entries ss s = ask s.words s.count (slots ss) >>= λ f. ret (settled f.problems entries f.types)

-- what the walk listed
unfoldable pub walk_problems : List (ℕ × ℕ) → List Problem
walk_problems [] = []
walk_problems (q ∷ qs) = record { kind = q.0; place = q.1; name = nameless } ∷ walk_problems qs

-- names first, their problems after the walk's
unfoldable pub finish : Env → Row → List (ℕ × ℕ) → Bench → M U Outcome
finish Γ row ss s = ask s.words s.count (names Γ row) >>= λ f. test_slots (walk_problems s.problems ++ f.problems) f.types ss s
