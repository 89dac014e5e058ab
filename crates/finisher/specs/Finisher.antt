-- The finish of a walk and the answer's bytes, as steps of the walk's machine.
-- Names met are tested for unknowns, in order, then, where nothing is listed, the slots; where still nothing is listed, their types are
-- written: 50 entries, then 51 entries. A stopped machine passes through every step.
use Rattle.std.specs.Prelude.{ℕ, zero, suc, ◌+◌, Bool, true, false, eqb}
use Rattle.meter.specs.Meter.{Out, spent, halt, done, broken, full}
use Rattle.unification.specs.Arena as A
use Rattle.unification.specs.Put as P
use Rattle.machine.specs.State.{State}
use Rattle.forms.specs.Forms.{test, then}
use Rattle.machine.specs.Machine.{Mach, with_st, cell, word_of, left_of, stopped_of, bytes_of, over_of, emit_of, two_of, four_of, list_of}

-- ---- one reference

-- what the test's outcome does: nothing but its cost, or a problem, or the walk stops
unfoldable pub told_by : Out A.U Bool → ℕ → ℕ → ℕ → Mach → Mach
told_by (done true l) q p x m = then (left_of l m.st) λ v. with_st v m
told_by (done false l) q p x m = then (left_of l m.st) λ v. list_of q p x (with_st v m)
told_by (spent e) q p x m = then (stopped_of 7 m.st) λ v. with_st v m
told_by (halt w e) q p x m = then (stopped_of 2 m.st) λ v. with_st v m

-- a reference with an unknown is problem q at p, with the name x
unfoldable pub settle_of : ℕ → ℕ → ℕ → ℕ → Mach → Mach
settle_of t q p x m =
    test (eqb m.st.stop 0)
    (λ _. told_by (A.solved m.arena m.st.nodes t m.st.budget) q p x m)
    (λ _. m)

-- ---- rows: step j, for n numbers from j on
unfoldable pub each_of : (ℕ → Mach → Mach) → ℕ → ℕ → Mach → Mach
each_of f zero j m = m
each_of f (suc n) j m = each_of f n (j + 1) (f j m)

-- a name met: name, reference, place
unfoldable pub name_of : ℕ → Mach → Mach
name_of j m =
    then (word_of (cell 2048 3 j 0) m) λ x.
    then (word_of (cell 2048 3 j 1) m) λ t.
    then (word_of (cell 2048 3 j 2) m) λ p.
    settle_of t 3 p x m

-- a slot: reference, place
unfoldable pub slot_of : ℕ → Mach → Mach
slot_of j m =
    then (word_of (cell 0 2 j 0) m) λ t.
    then (word_of (cell 0 2 j 1) m) λ p.
    settle_of t 2 p 0xFFFF m

unfoldable pub test_names_of : Mach → Mach
test_names_of m = each_of name_of m.st.met 0 m

unfoldable pub test_slots_of : Mach → Mach
test_slots_of m = each_of slot_of m.st.slots 0 m

-- nothing is listed
unfoldable pub clean_of : State → Bool
clean_of v = test v.over (λ _. false) (λ _. eqb v.bytes 0)

-- names first; slots only where nothing is listed
unfoldable pub finish_of : Mach → Mach
finish_of m = then (test_names_of m) λ a. test (clean_of a.st) (λ _. test_slots_of a) (λ _. a)

-- ---- types written

-- a budget that every test so far was within
abbrev pub most : ℕ
most = 18446744073709551615

-- what the writer's outcome does: the page stands in every case
unfoldable pub laid_by : Out P.Page P.Sheet → Mach → Mach
laid_by (done x l) m = then (bytes_of x.0 m.st) λ v. record { st = v; arena = m.arena; book = m.book; out = x.1 }
laid_by (halt full p) m = then (over_of m.st) λ v. record { st = v; arena = m.arena; book = m.book; out = p }
laid_by (halt broken p) m = then (stopped_of 2 m.st) λ v. record { st = v; arena = m.arena; book = m.book; out = p }
laid_by (spent p) m = then (stopped_of 2 m.st) λ v. record { st = v; arena = m.arena; book = m.book; out = p }

-- the type at a reference, after the bytes so far
unfoldable pub spell_of : ℕ → Mach → Mach
spell_of t m =
    test (eqb m.st.stop 0)
    (λ _. test m.st.over (λ _. m)
    (λ _. laid_by (P.put m.arena m.st.nodes (m.out, m.st.bytes, t) most) m))
    (λ _. m)

-- 50: a name and its type
unfoldable pub entry_of : ℕ → Mach → Mach
entry_of j m =
    then (word_of (cell 2048 3 j 0) m) λ x.
    then (word_of (cell 2048 3 j 1) m) λ t.
    then (emit_of 0x50 m) λ a.
    then (two_of x a) λ b.
    spell_of t b

-- 51: a slot's place and its type
unfoldable pub type_of : ℕ → Mach → Mach
type_of j m =
    then (word_of (cell 0 2 j 0) m) λ t.
    then (word_of (cell 0 2 j 1) m) λ p.
    then (emit_of 0x51 m) λ a.
    then (four_of p a) λ b.
    spell_of t b

unfoldable pub write_names_of : Mach → Mach
write_names_of m = each_of entry_of m.st.met 0 m

unfoldable pub write_slots_of : Mach → Mach
write_slots_of m = each_of type_of m.st.slots 0 m

unfoldable pub write_answer_of : Mach → Mach
write_answer_of m = then (write_names_of m) λ a. write_slots_of a
