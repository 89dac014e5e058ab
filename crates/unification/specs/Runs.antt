-- A list of operations run by rules, in any direction and with no budget: `Runs by os s t`, from the bench s to the bench t.
--
-- `some-run`, `every-run`: where the list is run to its end (`exec`), it runs by every direction, the Rust's among them; and every run of it, in whichever direction,
-- lists the same problems in the same order and ends in an arena that admits the same assignments. So what is listed, which references are
-- solved and what their types are do not depend on which of two unknowns is bound.
-- Theorems that rest on what must-fail edits change stand in proofs/Runs.antt.
use Prim.Native.Nat.{ℕ}
use Rattle.std.specs.Prelude.{List, [], ◌∷◌}
use Rattle.unification.specs.Arena.{Words, Direction, Verdict}
use Rattle.unification.specs.Ops.{Op, pay, make, compare, list, Bench, grow, learn, complain}
use Rattle.unification.specs.ByRule.{ends, Tells}

pub data Runs (by : Direction) : List Op → Bench → Bench → Type 0 where
  ended : {s : Bench} → Runs by [] s s
  paid : {os : List Op} {s t : Bench} → Runs by os s t → Runs by (pay ∷ os) s t
  made : {k a b : ℕ} {os : List Op} {s t : Bench} → Runs by os (grow s k a b) t → Runs by (make k a b ∷ os) s t
  compared : {a b p c : ℕ} {v : Verdict} {ws : Words} {os : List Op} {s t : Bench} → Tells by s.count s.words a b (ends v) ws c → Runs by os (learn s p (v, ws)) t → Runs by (compare a b p ∷ os) s t
  listed : {q p : ℕ} {os : List Op} {s t : Bench} → Runs by os (complain s q p) t → Runs by (list q p ∷ os) s t

-- the same bench with other words
abbrev pub over : Bench → Words → Bench
over s us = record { count = s.count; words = us; problems = s.problems }
