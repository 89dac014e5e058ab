-- Inference as a function of its inputs: sizes, the forms of environment and formula, the walk, the finish, the answer's room.
-- The code's contract cites this definition and the promises speak of it. After it a reader can reckon number, place, length,
-- steps and every byte of any call; nothing but the inputs enters.
-- (`[]` and `◌∷◌` serve must-fail/one_fixed_answer, which writes a list here)
use Rattle.types.specs.declared.Place.{Place}
use Rattle.std.specs.Prelude.{ℕ, ◌+◌, ◌*◌, ◌-◌, Bool, true, false, ◌&&◌, List, [], ◌∷◌, ◌++◌, length, replicate, leb, eqb}
use Rattle.types.specs.Limits.{max_bytes, max_names, max_capacity, book}
use Rattle.meter.specs.Meter.{Out, spent, halt, done, broken, full, M, ◌>>=◌}
use Rattle.types.specs.declared.Fault.{Fault}
use Rattle.types.specs.declared.Fault.TheVariants.{Malformed, Beyond}
use Rattle.formula.specs.Tree.{Formula}
use Rattle.formula.specs.Environment.{Env, Entries, lookup, spell_entries}
use Rattle.formula.specs.Parse.{Parsed, parsed, too_long, faulty, parse_of}
use Rattle.formula.specs.EnvParse.{environment_of}
use Rattle.unification.specs.Arena.{U}
use Rattle.unification.specs.Ops.{nodes, exec}
use Rattle.walk.specs.Walk.{walked}
use Rattle.walk.specs.Verdict.{start}
use Rattle.inference.specs.Answer.{Answer, refused, written, spell_problems, spell_slots}
use Rattle.inference.specs.Finish.{Outcome, typed, failed, finish}

-- the first where the test holds, else the second
unfoldable pub either : {A : Type 0} → Bool → A → A → A
either true x y = x
either false x y = y

-- n zeros
abbrev pub zeros : ℕ → List ℕ
zeros n = replicate n 0

-- ---- 2: sizes. The lengths of formula and environment, the count of names, the capacity, the length of the work slice
unfoldable pub sized : ℕ → ℕ → ℕ → ℕ → ℕ → Bool
sized formula environment names capacity work =
    leb formula max_bytes && leb environment max_bytes && leb names max_names && leb 1 capacity && leb capacity max_capacity && leb (3 * capacity + book) work

-- ---- 6 and 7: the walk's operations are run from an empty arena, at most so many nodes of it; then comes the finish
unfoldable pub concluded : ℕ → Env → Formula → M U Outcome
concluded capacity Γ f = exec capacity (walked Γ f).ops (start (zeros (3 * nodes (walked Γ f).ops))) >>= finish Γ (walked Γ f).row (walked Γ f).slots

-- ---- 8: an answer longer than the output is refused
unfoldable pub fitting : ℕ → Answer → Answer
fitting room a = either (leb a.size room) a (refused 8 0)

-- the bytes of an outcome: 50 and 51 entries, or 60 entries
unfoldable pub answer : ℕ → Outcome → Answer
answer steps (typed entries types) = written 0 steps (spell_entries entries ++ spell_slots types)
answer steps (failed problems) = written 1 steps (spell_problems problems)

-- the steps are what of the budget is not left; no reference leaves the arena, so the last case never comes up (`concluded-ends`)
unfoldable pub answered : ℕ → ℕ → Out U Outcome → Answer
answered budget room (done o left) = fitting room (answer (budget - left) o)
answered budget room (spent e) = refused 7 0
answered budget room (halt full e) = refused 6 0
answered budget room (halt broken e) = refused 2 0

-- ---- 3, 4 and 5: a fault of form, by the number of what is malformed
unfoldable pub blamed : ℕ → Fault Place → Answer
blamed number (Malformed p) = refused number p.0
blamed number (Beyond p) = refused 5 p.0

-- the environment's first fault, then the formula's, then the walk; a stream inside the sizes is not too long (`long-environment`, `long-formula`)
unfoldable pub formed : ℕ → ℕ → ℕ → Parsed Entries → Parsed Formula → Answer
formed capacity budget room too_long formula = refused 2 0
formed capacity budget room (faulty fault) formula = blamed 3 fault
formed capacity budget room (parsed entries) too_long = refused 2 0
formed capacity budget room (parsed entries) (faulty fault) = blamed 4 fault
formed capacity budget room (parsed entries) (parsed f) = answered budget room (concluded capacity (lookup entries) f budget)

-- ---- the entry. room: the output's length; work: the work slice's
unfoldable pub infer_of : (formula environment : List ℕ) (names capacity budget room work : ℕ) → Answer
infer_of formula environment names capacity budget room work =
    either (sized (length formula) (length environment) names capacity work)
    (formed capacity budget room (environment_of names environment) (parse_of names formula))
    (refused 2 0)

-- ---- output and work afterwards: after number 2 as they were; else the answer's bytes, then zeros, and all zeros
unfoldable pub output_after : Answer → List ℕ → List ℕ
output_after a output = either (eqb a.number 2) output (a.bytes ++ zeros (length output - length a.bytes))

unfoldable pub work_after : Answer → List ℕ → List ℕ
work_after a work = either (eqb a.number 2) work (zeros (length work))
