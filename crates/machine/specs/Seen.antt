-- How the machine in memory is read as the machine of the definitions.
use Rattle.std.specs.Prelude.{ℕ, ◌≡◌, Option, Some, None, Result, Ok, Err}
use Rattle.std.proofs.Common.{arith}
use Rattle.types.specs.declared.Name.{Name}
use Rattle.types.specs.declared.Node.{Node}
use Rattle.types.specs.declared.Node.TheVariants.{Unknown, Leaf, Power, Product}
use Rattle.types.specs.Code.{atom_is}
use Rattle.makers.specs.declared.MakeError.{MakeError}
use Rattle.makers.specs.declared.MakeError.TheVariants as Ma
use Rattle.unifier.specs.declared.Halt.{Halt}
use Rattle.unifier.specs.declared.Halt.TheVariants as Ha
use Rattle.machine.specs.Machine.{Mach, whole, make_of}
use Rattle.machine.specs.Types.{atom_of}
use Rattle.machine.specs.Still.{still_placed, still_gave, still_bound, still_skip, still_list, still_make, still_atom, still_expect, still_leave, still_remember, still_enrol, still_push, still_lift, still_noted, still_notes, still_meets, still_claim, still_declare, still_items, still_play}
use Rattle.machine.specs.declared.Machine.{Machine}
use Rattle.machine.specs.declared.Problem.{Problem}
use Rattle.machine.specs.declared.Problem.TheVariants as P
use Rattle.machine.specs.declared.Stop.{Stop}
use Rattle.machine.specs.declared.Stop.TheVariants as S

-- the number that a walk stops with
abbrev pub stop_number : Stop → ℕ
stop_number S.Full = 6
stop_number S.Spent = 7
stop_number S.Broken = 2

-- stopped with a number, or going on with 0
abbrev pub stopped_at : ℕ → Machine → Mach
stopped_at n m =
    whole (record { at = m.at; from = m.from; last = m.last; nodes = m.nodes; budget = m.budget; slots = m.slots; met = m.met; bound = m.bound; bytes = m.bytes; over = m.over; stop = n }) m.arena.now m.book.now m.output.now

abbrev pub machine : Machine → Mach
machine m = stopped_at 0 m

-- the machine after a step: what the step answers says whether it has stopped
abbrev pub walked : Result (Unit {0}) Stop → Machine → Mach
walked (Ok x) m = stopped_at 0 m
walked (Err e) m = stopped_at (stop_number e) m

-- a maker's refusal and the unifier's, as a stop
abbrev pub unmade : MakeError → Stop
unmade Ma.Full = S.Full
unmade Ma.Broken = S.Broken

abbrev pub halted : Halt → Stop
halted Ha.Spent = S.Spent
halted Ha.Broken = S.Broken

-- a node made
abbrev pub made_of : Node → Mach → Mach
made_of Unknown m = make_of 0x4E 0 0 m
made_of (Leaf a) m = atom_of (atom_is a) m
made_of (Power x) m = make_of 0x43 x.0 0 m
made_of (Product x y) m = make_of 0x44 x.0 y.0 m

-- what no step changes: what is read, and which memory is lent
pub record Kept (a b : Machine) : Type 0 where
  pub formula : b.formula.now ≡ a.formula.now
  pub environment : b.environment.now ≡ a.environment.now
  pub arena : b.arena.ghost_name ≡ a.arena.ghost_name
  pub book : b.book.ghost_name ≡ a.book.ghost_name
  pub output : b.output.ghost_name ≡ a.output.ghost_name

abbrev pub problem_number : Problem → ℕ
problem_number P.Mismatch = 0
problem_number P.Circular = 1
problem_number P.UntypedExpression = 2
problem_number P.UntypedName = 3
problem_number P.DanglingIndex = 4
problem_number P.Application = 5

abbrev pub name_number : Option Name → ℕ
name_number (Some x) = x.0
name_number None = 0xFFFF

-- ---- a stop passes through every step that would follow
pub stop_number_not : (e : Stop) → stop_number e ≡ 0 → ⊥
stop_number_not S.Full h = omega (arith, h)
stop_number_not S.Spent h = omega (arith, h)
stop_number_not S.Broken h = omega (arith, h)

pub ruleset still = (stop_number_not, still_placed, still_gave, still_bound, still_skip, still_list, still_make, still_atom, still_expect, still_leave, still_remember, still_enrol, still_push, still_lift, still_noted, still_notes, still_meets, still_claim, still_declare, still_items, still_play)
