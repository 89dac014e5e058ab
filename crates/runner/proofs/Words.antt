-- Writing an answer changes the output alone: arena and book are as they were.
use Rattle.std.specs.Prelude.{ℕ, zero, suc, ◌+◌, Bool, true, false, ◌≡◌, refl, Result, Ok, Err}
use Rattle.std.proofs.Common.{◌∙◌, ap}
use Rattle.meter.specs.Meter.{Out, spent, halt, done, full, broken}
use Rattle.unification.specs.Put as P
use Rattle.forms.specs.Forms.{test, then}
use Rattle.machine.specs.Machine.{Mach, emit_of, two_of, four_of}
use Rattle.machine.specs.declared.Machine.{Machine}
use Rattle.machine.specs.declared.Stop.{Stop}
use Rattle.machine.specs.Seen.{machine, walked}
use Rattle.finisher.specs.Finisher.{each_of, laid_by, spell_of, entry_of, type_of, write_names_of, write_slots_of, write_answer_of}

pub record Words (m x : Mach) : Type 0 where
  pub arena : x.arena ≡ m.arena
  pub book : x.book ≡ m.book

same : (m x : Mach) → x.arena ≡ m.arena → x.book ≡ m.book → Words m x
same m x a b = record { arena = a; book = b }

on : {a b c : Mach} → Words a b → Words b c → Words a c
on h k = record { arena = k.arena ∙ h.arena; book = k.book ∙ h.book }

either_way : (m : Mach) (c : Bool) (x y : Unit {0} → Mach) → Words m (x tt) → Words m (y tt) → Words m (test c x y)
unfolding test
either_way m true x y h k = h
either_way m false x y h k = k

emits : (b : ℕ) (m : Mach) → Words m (emit_of b m)
unfolding emit_of then
emits b m = either_way m _ _ _ (either_way m _ _ _ (same _ _ refl refl) (either_way m _ _ _ (same _ _ refl refl) (same _ _ refl refl))) (same _ _ refl refl)

emits_two : (v : ℕ) (m : Mach) → Words m (two_of v m)
unfolding two_of then
emits_two v m = on (emits _ m) (emits _ _)

emits_four : (v : ℕ) (m : Mach) → Words m (four_of v m)
unfolding four_of then
emits_four v m = on (emits_two _ m) (emits_two _ _)

lays : (o : Out P.Page P.Sheet) (m : Mach) → Words m (laid_by o m)
unfolding laid_by then
lays (done x l) m = (same _ _ refl refl)
lays (halt full p) m = (same _ _ refl refl)
lays (halt broken p) m = (same _ _ refl refl)
lays (spent p) m = (same _ _ refl refl)

spells : (t : ℕ) (m : Mach) → Words m (spell_of t m)
unfolding spell_of
spells t m = either_way m _ _ _ (either_way m _ _ _ (same _ _ refl refl) (lays _ m)) (same _ _ refl refl)

enters : (j : ℕ) (m : Mach) → Words m (entry_of j m)
unfolding entry_of then
enters j m = on (emits _ m) (on (emits_two _ _) (spells _ _))

types : (j : ℕ) (m : Mach) → Words m (type_of j m)
unfolding type_of then
types j m = on (emits _ m) (on (emits_four _ _) (spells _ _))

each_stays : (f : ℕ → Mach → Mach) → ((j : ℕ) (m : Mach) → Words m (f j m)) → (n j : ℕ) (m : Mach) → Words m (each_of f n j m)
unfolding each_of
each_stays f h zero j m = (same _ _ refl refl)
each_stays f h (suc n) j m = on (h j m) (each_stays f h n (j + 1) (f j m))

answers : (m : Mach) → Words m (write_answer_of m)
unfolding write_answer_of write_names_of write_slots_of then
answers m = on (each_stays entry_of enters _ 0 m) (each_stays type_of types _ 0 _)

pub words_stay : (w v : Machine) (r : Result (Unit {0}) Stop) → walked r v ≡ write_answer_of (machine w) → (v.arena.now ≡ w.arena.now) × (v.book.now ≡ w.book.now)
words_stay w v (Ok x) e = (ap (λ (m : Mach). m.arena) e ∙ (answers (machine w)).arena, ap (λ (m : Mach). m.book) e ∙ (answers (machine w)).book)
words_stay w v (Err h) e = (ap (λ (m : Mach). m.arena) e ∙ (answers (machine w)).arena, ap (λ (m : Mach). m.book) e ∙ (answers (machine w)).book)
