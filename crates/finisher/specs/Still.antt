-- A stopped machine stays as it is: the tests and the writing of rows.
use Rattle.std.specs.Prelude.{ℕ, zero, suc, ◌+◌, ◌≡◌, refl, eqb}
use Rattle.std.proofs.Common.{◌∙◌, ap, ne_eqb}
use Rattle.forms.specs.Forms.{test, then}
use Rattle.machine.specs.Machine.{Mach, cell, word_of, two_of, four_of}
use Rattle.machine.specs.Still.{Halted, test_no, test-both, still_emit, still_two, still_four}
use Rattle.finisher.specs.Finisher.{settle_of, name_of, slot_of, spell_of, entry_of, type_of, each_of, test_names_of, test_slots_of, clean_of, finish_of, write_names_of, write_slots_of, write_answer_of}

pub still_each : (f : ℕ → Mach → Mach) → ((j : ℕ) (m : Mach) → Halted m → f j m ≡ m) → (n j : ℕ) (m : Mach) → Halted m → each_of f n j m ≡ m
unfolding each_of
still_each f s zero j m h = refl
still_each f s (suc n) j m h = ap (each_of f n (j + 1)) (s j m h) ∙ still_each f s n (j + 1) m h

pub still_settle : (t q p x : ℕ) (m : Mach) → Halted m → settle_of t q p x m ≡ m
unfolding settle_of
still_settle t q p x m h = test_no (eqb m.st.stop 0) _ _ (ne_eqb m.st.stop 0 h)

pub still_name : (j : ℕ) (m : Mach) → Halted m → name_of j m ≡ m
unfolding name_of then
still_name j m h = still_settle _ _ _ _ m h

pub still_slot : (j : ℕ) (m : Mach) → Halted m → slot_of j m ≡ m
unfolding slot_of then
still_slot j m h = still_settle _ _ _ _ m h

still_spell : (t : ℕ) (m : Mach) → Halted m → spell_of t m ≡ m
unfolding spell_of
still_spell t m h = test_no (eqb m.st.stop 0) _ _ (ne_eqb m.st.stop 0 h)

pub still_entry : (j : ℕ) (m : Mach) → Halted m → entry_of j m ≡ m
unfolding entry_of then
still_entry j m h =
    let x = word_of (cell 2048 3 j 0) m in
    let t = word_of (cell 2048 3 j 1) m in
    ap (λ (a : Mach). spell_of t (two_of x a)) (still_emit 0x50 m h) ∙ ap (spell_of t) (still_two x m h) ∙ still_spell t m h

pub still_type : (j : ℕ) (m : Mach) → Halted m → type_of j m ≡ m
unfolding type_of then
still_type j m h =
    let t = word_of (cell 0 2 j 0) m in
    let p = word_of (cell 0 2 j 1) m in
    ap (λ (a : Mach). spell_of t (four_of p a)) (still_emit 0x51 m h) ∙ ap (spell_of t) (still_four p m h) ∙ still_spell t m h

pub still_names : (n j : ℕ) (m : Mach) → Halted m → each_of name_of n j m ≡ m
still_names n j m h = still_each name_of still_name n j m h

pub still_slots : (n j : ℕ) (m : Mach) → Halted m → each_of slot_of n j m ≡ m
still_slots n j m h = still_each slot_of still_slot n j m h

pub still_entries : (n j : ℕ) (m : Mach) → Halted m → each_of entry_of n j m ≡ m
still_entries n j m h = still_each entry_of still_entry n j m h

pub still_types : (n j : ℕ) (m : Mach) → Halted m → each_of type_of n j m ≡ m
still_types n j m h = still_each type_of still_type n j m h

pub still_tested : (m : Mach) → Halted m → test_slots_of m ≡ m
unfolding test_slots_of
still_tested m h = still_slots m.st.slots 0 m h

pub still_named : (m : Mach) → Halted m → test_names_of m ≡ m
unfolding test_names_of
still_named m h = still_names m.st.met 0 m h

pub still_finish : (m : Mach) → Halted m → finish_of m ≡ m
unfolding finish_of then
still_finish m h =
    ap (λ (a : Mach). test (clean_of a.st) (λ _. test_slots_of a) (λ _. a)) (still_named m h)
    ∙ test-both (clean_of m.st) (λ _. test_slots_of m) (λ _. m) m (still_tested m h) refl

pub still_written : (m : Mach) → Halted m → write_slots_of m ≡ m
unfolding write_slots_of
still_written m h = still_types m.st.slots 0 m h

still_listed : (m : Mach) → Halted m → write_names_of m ≡ m
unfolding write_names_of
still_listed m h = still_entries m.st.met 0 m h

pub still_answer : (m : Mach) → Halted m → write_answer_of m ≡ m
unfolding write_answer_of then
still_answer m h = ap write_slots_of (still_listed m h) ∙ still_written m h

pub ruleset still = (still_names, still_slots, still_entries, still_types, still_tested, still_finish, still_written)
