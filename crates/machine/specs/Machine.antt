-- The walk's machine: what each step does to the state, the arena, the book and the output.
-- A specification is put together from two forms, `then` and `test`; crate `forms` has their laws. A stopped state passes through every step.
use Rattle.std.specs.Prelude.{ℕ, ◌+◌, ◌-◌, ◌*◌, ◌/◌, ◌%◌, true, false, List, length, get_or, take, drop, set, eqb, ltb, leb}
use Rattle.types.specs.Limits.{max_slots, max_names, max_opened}
use Rattle.meter.specs.Meter.{Out, spent, halt, done, broken, full}
use Rattle.unification.specs.Arena as A
use Rattle.unification.specs.Make.{build}
use Rattle.machine.specs.State.{State}
use Rattle.forms.specs.Forms.{test, then}

-- the state, the arena, the book behind it, and the output
pub record Mach : Type 0 where
  pub st : State
  pub arena : List ℕ
  pub book : List ℕ
  pub out : List ℕ

-- the machine of a state, the work slice and the output: the arena is the first `size` words
abbrev pub mach : ℕ → State → List ℕ → List ℕ → Mach
mach size v work out = record { st = v; arena = take size work; book = drop size work; out = out }

-- the same from its four parts
abbrev pub whole : State → List ℕ → List ℕ → List ℕ → Mach
whole v a b out = record { st = v; arena = a; book = b; out = out }

abbrev pub with_st : State → Mach → Mach
with_st v m = record { st = v; arena = m.arena; book = m.book; out = m.out }

-- a step of the state
abbrev pub on_st : (State → State) → Mach → Mach
on_st f m = with_st (f m.st) m

abbrev pub with_arena : List ℕ → Mach → Mach
with_arena ws m = record { st = m.st; arena = ws; book = m.book; out = m.out }

-- the state that a walk begins with
unfoldable pub start_of : ℕ → State
start_of budget =
    record { at = record { 0 = 0 }; from = record { 0 = 0 }; last = record { 0 = 0 }; nodes = 0; budget = budget; slots = 0; met = 0; bound = 0; bytes = 0; over = false; stop = 0 }

-- ---- steps on the state alone
-- the walk stops with a number
unfoldable pub stopped_of : ℕ → State → State
stopped_of n v = test (eqb v.stop 0) (λ _. record { at = v.at; from = v.from; last = v.last; nodes = v.nodes; budget = v.budget; slots = v.slots; met = v.met; bound = v.bound; bytes = v.bytes; over = v.over; stop = n }) (λ _. v)

-- at a place
unfoldable pub placed_of : ℕ → State → State
placed_of p v = test (eqb v.stop 0) (λ _. record { at = record { 0 = p }; from = v.from; last = v.last; nodes = v.nodes; budget = v.budget; slots = v.slots; met = v.met; bound = v.bound; bytes = v.bytes; over = v.over; stop = v.stop }) (λ _. v)

-- at the offset after a type's head, if a place can number it
unfoldable pub passed_of : ℕ → State → State
passed_of e v = test (leb e 4294967295) (λ _. placed_of e v) (λ _. stopped_of 2 v)

-- the last reference
unfoldable pub gave_of : ℕ → State → State
gave_of r v = test (eqb v.stop 0) (λ _. record { at = v.at; from = v.from; last = record { 0 = r }; nodes = v.nodes; budget = v.budget; slots = v.slots; met = v.met; bound = v.bound; bytes = v.bytes; over = v.over; stop = v.stop }) (λ _. v)

-- the place of the expression walked last
unfoldable pub arrived_of : ℕ → State → State
arrived_of p v = test (eqb v.stop 0) (λ _. record { at = v.at; from = record { 0 = p }; last = v.last; nodes = v.nodes; budget = v.budget; slots = v.slots; met = v.met; bound = v.bound; bytes = v.bytes; over = v.over; stop = v.stop }) (λ _. v)

-- the declarations around
unfoldable pub bound_of : ℕ → State → State
bound_of n v = test (eqb v.stop 0) (λ _. record { at = v.at; from = v.from; last = v.last; nodes = v.nodes; budget = v.budget; slots = v.slots; met = v.met; bound = n; bytes = v.bytes; over = v.over; stop = v.stop }) (λ _. v)

-- the names met
unfoldable pub met_of : ℕ → State → State
met_of n v = test (eqb v.stop 0) (λ _. record { at = v.at; from = v.from; last = v.last; nodes = v.nodes; budget = v.budget; slots = v.slots; met = n; bound = v.bound; bytes = v.bytes; over = v.over; stop = v.stop }) (λ _. v)

-- the budget left
unfoldable pub left_of : ℕ → State → State
left_of b v = test (eqb v.stop 0) (λ _. record { at = v.at; from = v.from; last = v.last; nodes = v.nodes; budget = b; slots = v.slots; met = v.met; bound = v.bound; bytes = v.bytes; over = v.over; stop = v.stop }) (λ _. v)

-- the bytes written
unfoldable pub bytes_of : ℕ → State → State
bytes_of n v = test (eqb v.stop 0) (λ _. record { at = v.at; from = v.from; last = v.last; nodes = v.nodes; budget = v.budget; slots = v.slots; met = v.met; bound = v.bound; bytes = n; over = v.over; stop = v.stop }) (λ _. v)

-- a byte found no room
unfoldable pub over_of : State → State
over_of v = test (eqb v.stop 0) (λ _. record { at = v.at; from = v.from; last = v.last; nodes = v.nodes; budget = v.budget; slots = v.slots; met = v.met; bound = v.bound; bytes = v.bytes; over = true; stop = v.stop }) (λ _. v)

-- a node stands at r, the last one
unfoldable pub grown_of : ℕ → State → State
grown_of r v = test (eqb v.stop 0) (λ _. test (ltb r 65536) (λ _. record { at = v.at; from = v.from; last = record { 0 = r }; nodes = r + 1; budget = v.budget; slots = v.slots; met = v.met; bound = v.bound; bytes = v.bytes; over = v.over; stop = v.stop }) (λ _. stopped_of 2 v)) (λ _. v)

-- one unit paid
unfoldable pub paid_of : State → State
paid_of v = test (eqb v.stop 0) (λ _. test (eqb v.budget 0) (λ _. stopped_of 7 v) (λ _. left_of (v.budget - 1) v)) (λ _. v)

-- a unit paid and a slot taken
unfoldable pub enter_of : State → State
enter_of v = then (paid_of v) λ w. test (eqb w.stop 0) (λ _. test (ltb w.slots max_slots) (λ _. record { at = w.at; from = w.from; last = w.last; nodes = w.nodes; budget = w.budget; slots = w.slots + 1; met = w.met; bound = w.bound; bytes = w.bytes; over = w.over; stop = w.stop }) (λ _. stopped_of 2 w)) (λ _. w)

-- ---- the book: word k of entry j of an area
abbrev pub cell : ℕ → ℕ → ℕ → ℕ → ℕ
cell area stride j k = area + j * stride + k

abbrev pub word_of : ℕ → Mach → ℕ
word_of i m = get_or m.book i 0

unfoldable pub put_of : ℕ → ℕ → Mach → Mach
put_of i x m = record { st = m.st; arena = m.arena; book = set m.book i x; out = m.out }

-- ---- the output
unfoldable pub emit_of : ℕ → Mach → Mach
emit_of b m =
    test (eqb m.st.stop 0)
    (λ _. test m.st.over (λ _. m)
    (λ _. test (ltb m.st.bytes (length m.out))
    (λ _. then (bytes_of (m.st.bytes + 1) m.st) λ v. record { st = v; arena = m.arena; book = m.book; out = set m.out m.st.bytes b })
    (λ _. then (over_of m.st) λ v. with_st v m)))
    (λ _. m)

unfoldable pub two_of : ℕ → Mach → Mach
two_of v m = then (emit_of (v % 256) m) λ a. emit_of (v / 256 % 256) a

unfoldable pub four_of : ℕ → Mach → Mach
four_of v m = then (two_of (v % 65536) m) λ a. two_of (v / 65536) a

-- a problem: 60, its number, its place, a name
unfoldable pub list_of : ℕ → ℕ → ℕ → Mach → Mach
list_of problem place name m =
    then (emit_of 0x60 m) λ a.
    then (emit_of problem a) λ b.
    then (four_of place b) λ c.
    two_of name c

-- ---- the arena
-- what a maker's outcome does: the node stands, or the walk stops with 6, or with 2
unfoldable pub grown_by : Out (List ℕ) (ℕ × List ℕ) → Mach → Mach
grown_by (done x l) m = then (grown_of x.0 m.st) λ v. with_st v (with_arena x.1 m)
grown_by (halt full ws) m = then (stopped_of 6 m.st) λ v. with_st v (with_arena ws m)
grown_by (halt broken ws) m = then (stopped_of 2 m.st) λ v. with_st v (with_arena ws m)
grown_by (spent ws) m = then (stopped_of 7 m.st) λ v. with_st v (with_arena ws m)

unfoldable pub make_of : ℕ → ℕ → ℕ → Mach → Mach
make_of k a b m =
    test (eqb m.st.stop 0)
    (λ _. grown_by (build m.arena m.st.nodes (A.decode k a b) 0) m)
    (λ _. m)

unfoldable pub judged_by : A.Verdict → ℕ → Mach → Mach
judged_by A.unified p m = m
judged_by A.mismatch p m = list_of 0 p 0xFFFF m
judged_by A.circular p m = list_of 1 p 0xFFFF m

-- what unification's outcome does: the words stand in every case
unfoldable pub settled_by : Out (List ℕ) A.Answer → ℕ → Mach → Mach
settled_by (done x l) p m = then (left_of l m.st) λ v. judged_by x.0 p (with_st v (with_arena x.1 m))
settled_by (spent ws) p m = then (stopped_of 7 m.st) λ v. with_st v (with_arena ws m)
settled_by (halt w ws) p m = then (stopped_of 2 m.st) λ v. with_st v (with_arena ws m)

unfoldable pub expect_of : ℕ → ℕ → ℕ → Mach → Mach
expect_of a b p m =
    test (eqb m.st.stop 0)
    (λ _. settled_by (A.unify m.st.nodes (m.arena, a, b) m.st.budget) p m)
    (λ _. m)

-- ---- slots, names, declarations
unfoldable pub leave_of : ℕ → ℕ → Mach → Mach
leave_of slot p m =
    test (eqb m.st.stop 0)
    (λ _. then (put_of (cell 0 2 slot 0) m.st.last.0 m) λ a.
    then (put_of (cell 0 2 slot 1) p a) λ b.
    then (arrived_of p m.st) λ v. with_st v b)
    (λ _. m)

unfoldable pub remember_of : ℕ → Mach → Mach
remember_of x m =
    test (eqb m.st.stop 0)
    (λ _. then (put_of (cell 2816 2 x 0) 1 m) λ a. put_of (cell 2816 2 x 1) m.st.last.0 a)
    (λ _. m)

unfoldable pub enrol_of : ℕ → ℕ → Mach → Mach
enrol_of x p m =
    test (eqb m.st.stop 0)
    (λ _. test (ltb m.st.met max_names)
    (λ _. then (put_of (cell 2048 3 m.st.met 0) x m) λ a.
    then (put_of (cell 2048 3 m.st.met 1) m.st.last.0 a) λ b.
    then (put_of (cell 2048 3 m.st.met 2) p b) λ c.
    then (met_of (m.st.met + 1) m.st) λ v. with_st v c)
    (λ _. then (stopped_of 2 m.st) λ v. with_st v m))
    (λ _. m)

unfoldable pub push_bound_of : Mach → Mach
push_bound_of m =
    test (eqb m.st.stop 0)
    (λ _. test (ltb m.st.bound max_opened)
    (λ _. then (put_of (cell 3328 1 m.st.bound 0) m.st.last.0 m) λ a.
    then (bound_of (m.st.bound + 1) m.st) λ v. with_st v a)
    (λ _. then (stopped_of 2 m.st) λ v. with_st v m))
    (λ _. m)
