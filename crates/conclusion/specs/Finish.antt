-- The finish: from a machine that stands for a bench and its books, the tests of names and slots end as inference's `finish` ends.
-- After this file a reader knows, of the machine after the finish: whether and with which number it stopped, what is left of the budget,
-- whether anything is listed, and the bytes written.
use Prim.Native.Nat.{ℕ, suc, ◌+◌, ◌≤◌, ◌<◌}
use Rattle.std.proofs.Math.Path.{◌≡◌, refl, sym, ap, ap₂, subst}
use Rattle.std.proofs.Common.{◌∙◌, eq-eqb, ne_eqb}
use Rattle.std.specs.Prelude.{Bool, true, false, length, get_or}
use mathlib.Core.List.{List, [], ◌∷◌, ◌++◌}
use native.Mathlib.Omega.{arith}
use Rattle.std.proofs.Math.Decide.{dec_le}
use Rattle.meter.specs.Meter.{Out, spent, halt, done, ret, on, ◌>>=◌}
use Rattle.types.specs.Ty.{Ty}
use Rattle.formula.specs.Environment.{Entry, lacks, holds, Env}
use Rattle.unification.specs.Arena.{U}
use Rattle.unification.specs.Ops.{Bench}
use Rattle.walk.specs.Writer.{Met, Row}
use Rattle.inference.specs.Answer.{Problem, spell_problem, spell_problems}
use Rattle.inference.specs.Finish.{Question, Findings, ask, ask_name, names, Outcome, typed, failed, settled, test_slots, walk_problems, finish}
use Rattle.inference.specs.Finish as F
use Rattle.machine.specs.State.{State}
use Rattle.forms.specs.Forms.{test, then}
use Rattle.machine.specs.Machine.{Mach, cell}
use Rattle.finisher.specs.Finisher.{settle_of, each_of, name_of, slot_of, test_names_of, test_slots_of, clean_of, finish_of}
use Rattle.simulation.specs.Relation.{Wrote, Stands, Listed, Filled}
use Rattle.machine.specs.Still.{test_yes, test_no}
use Rattle.simulation.specs.Output.{assoc}
use Rattle.finisher.specs.Still.{still_name, still_slot, still_named, still_tested}
use Rattle.conclusion.specs.Tests.{ended, Stood, stood_as, Tested, Asks, each_tests}

-- ---- whether anything is listed
pub clean_yes : (v : State) → v.over ≡ false → v.bytes ≡ 0 → clean_of v ≡ true
unfolding clean_of
clean_yes v e f = test_no v.over _ _ e ∙ eq-eqb v.bytes 0 f

clean-over : (v : State) → v.over ≡ true → clean_of v ≡ false
unfolding clean_of
clean-over v e = test_yes v.over _ _ e

clean-bytes : (v : State) → v.over ≡ false → (v.bytes ≡ 0 → ⊥) → clean_of v ≡ false
unfolding clean_of
clean-bytes v e f = test_no v.over _ _ e ∙ ne_eqb v.bytes 0 f

pub clean-none : (room : ℕ) (v : State) (out : List ℕ) → Wrote room [] v.bytes v.over out → clean_of v ≡ true
clean-none room v out w = let z = w.inside (omega arith) in clean_yes v z.0 z.1

pub clean-some : (room : ℕ) (v : State) (out P : List ℕ) → 0 < length P → Wrote room P v.bytes v.over out → clean_of v ≡ false
clean-some room v out P l w = by (dec_le (length P) room)
  where
    by : Dec (length P ≤ room) → clean_of v ≡ false
    by (yes k) = let z = w.inside k in let q = z.1 in clean-bytes v z.0 (λ e. omega arith)
    by (no k) = clean-over v (w.past (omega arith))

-- ---- problems as bytes
pub problems_join : (ps qs : List Problem) → spell_problems (ps ++ qs) ≡ spell_problems ps ++ spell_problems qs
unfolding spell_problems
problems_join [] qs = refl
problems_join (p ∷ ps) qs = ap (λ (l : List ℕ). spell_problem p ++ l) (problems_join ps qs) ∙ sym (assoc (spell_problem p) (spell_problems ps) (spell_problems qs))

problems-some : (p : Problem) (ps : List Problem) → 0 < length (spell_problems (p ∷ ps))
unfolding spell_problems spell_problem
problems-some p ps = omega arith

-- ---- after the names
finish_yes : (m m' : Mach) → test_names_of m ≡ m' → clean_of m'.st ≡ true → finish_of m ≡ test_slots_of m'
unfolding finish_of then
finish_yes m m' e c = ap (λ (x : Mach). test (clean_of x.st) (λ _. test_slots_of x) (λ _. x)) e ∙ test_yes (clean_of m'.st) _ _ c

finish_no : (m m' : Mach) → test_names_of m ≡ m' → clean_of m'.st ≡ false → finish_of m ≡ m'
unfolding finish_of then
finish_no m m' e c = ap (λ (x : Mach). test (clean_of x.st) (λ _. test_slots_of x) (λ _. x)) e ∙ test_no (clean_of m'.st) _ _ c

finish-stopped : (m : Mach) (n : ℕ) → (test_names_of m).st.stop ≡ n → (n ≡ 0 → ⊥) → (finish_of m).st.stop ≡ n
finish-stopped m n e h = by (clean_of (test_names_of m).st) refl
  where
    by : (c : Bool) → clean_of (test_names_of m).st ≡ c → (finish_of m).st.stop ≡ n
    by true c = ap (λ (x : Mach). x.st.stop) (finish_yes m (test_names_of m) refl c ∙ still_tested (test_names_of m) (λ z. h (sym e ∙ z))) ∙ e
    by false c = ap (λ (x : Mach). x.st.stop) (finish_no m (test_names_of m) refl c) ∙ e

-- a walk that stopped stays so
pub finish_stops : (m : Mach) (n : ℕ) → m.st.stop ≡ n → (n ≡ 0 → ⊥) → (finish_of m).st.stop ≡ n
finish_stops m n e h = finish-stopped m n (ap (λ (x : Mach). x.st.stop) (still_named m (λ z. h (sym e ∙ z))) ∙ e) h

-- ---- what the book's rows ask
module _ (Γ : Env) (env : List ℕ) (cap room : ℕ) (m : Mach) (g : m.st.stop ≡ 0) where
  -- a question of a name: problem 3, under the name itself
  abbrev Named : List Question → Type 0
  Named [] = Unit {0}
  Named (q ∷ qs) = (q.problem.kind ≡ 3) × (q.problem.name ≡ q.key) × Named qs

  named_more : (e : Entry) (x : Met) (qs : List Question) → Named qs → Named (ask_name e x qs)
  unfolding ask_name
  named_more lacks x qs h = (refl, refl, h)
  named_more (holds t) x qs h = h

  named : (row : Row) → Named (names Γ row)
  unfolding names
  named [] = tt
  named (x ∷ row) = named_more (Γ x.name) x (names Γ row) (named row)

  name-asks : (j : ℕ) (qs : List Question) → Named qs → Listed Γ env cap room m.book j qs → Asks room m g name_of still_name j qs
  unfolding name_of then
  name-asks j [] n l = tt
  name-asks j (q ∷ qs) n l =
      let j1 : suc j ≡ j + 1 = omega arith in (
        λ r k o out. ap₂ (λ (t p : ℕ). settle_of t 3 p (get_or m.book (cell 2048 3 j 0) 0) (ended r k o out m)) l.1 l.2
            ∙ ap₂ (λ (c x : ℕ). settle_of q.ref c q.problem.place x (ended r k o out m)) (sym n.0) (l.0 ∙ sym n.1),
        name-asks (j + 1) qs n.2 (subst (λ (i : ℕ). Listed Γ env cap room m.book i qs) j1 l.3),
      )

  slot_asks : (j : ℕ) (ss : List (ℕ × ℕ)) → Filled Γ env cap room m.book j ss → Asks room m g slot_of still_slot j (F.slots ss)
  unfolding slot_of then F.slots
  slot_asks j [] l = tt
  slot_asks j (s ∷ ss) l =
      let j1 : suc j ≡ j + 1 = omega arith in (
        λ r k o out. ap₂ (λ (t p : ℕ). settle_of t 2 p 0xFFFF (ended r k o out m)) l.0 l.1,
        slot_asks (j + 1) ss (subst (λ (i : ℕ). Filled Γ env cap room m.book i ss) j1 l.2),
      )

pub slots_length : (ss : List (ℕ × ℕ)) → length (F.slots ss) ≡ length ss
unfolding F.slots
slots_length [] = refl
slots_length (s ∷ ss) = ap suc (slots_length ss)

-- ---- the finish
module _ (Γ : Env) (env : List ℕ) (cap room : ℕ) (m : Mach) (b : Bench) (row : Row) (ss : List (ℕ × ℕ))
    (s : Stands Γ env cap room m b) (met : m.st.met ≡ length (names Γ row)) (rows : Listed Γ env cap room m.book 0 (names Γ row)) (u : m.st.slots ≡ length ss) (fl : Filled Γ env cap room m.book 0 ss) where
  -- how the machine ends where the finish ends so
  abbrev pub Finished : Mach → Out U Outcome → Type 0
  Finished m' (done (typed es ts) r) = (clean_of m'.st ≡ true) × Stood room m [] r m'
  Finished m' (done (failed ps) r) = (clean_of m'.st ≡ false) × Stood room m (spell_problems ps) r m'
  Finished m' (spent e) = m'.st.stop ≡ 7
  Finished m' (halt w e) = m'.st.stop ≡ 2

  names_tested : Tested room m (spell_problems (walk_problems b.problems)) (test_names_of m) (ask m.arena m.st.nodes (names Γ row) m.st.budget)
  unfolding test_names_of
  names_tested = subst (λ (n : ℕ). Tested room m (spell_problems (walk_problems b.problems)) (each_of name_of n 0 m) (ask m.arena m.st.nodes (names Γ row) m.st.budget)) (sym met)
      (each_tests room m s.going name_of still_name (names Γ row) 0 m.st.budget m.st.bytes m.st.over m.out (spell_problems (walk_problems b.problems))
      (name-asks Γ env cap room m s.going 0 (names Γ row) (named Γ env cap room m s.going row) rows) s.wrote)

  slots_tested : (r n : ℕ) (o : Bool) (out : List ℕ) → Wrote room [] n o out → Tested room m [] (test_slots_of (ended r n o out m)) (ask m.arena m.st.nodes (F.slots ss) r)
  unfolding test_slots_of
  slots_tested r n o out w = subst (λ (i : ℕ). Tested room m [] (each_of slot_of i 0 (ended r n o out m)) (ask m.arena m.st.nodes (F.slots ss) r)) (slots_length ss ∙ sym u)
      (each_tests room m s.going slot_of still_slot (F.slots ss) 0 r n o out [] (slot_asks Γ env cap room m s.going 0 ss fl) w)

  -- a machine that stands after bytes
  stood-clean : (r : ℕ) (m' : Mach) → Stood room m [] r m' → clean_of m'.st ≡ true
  stood-clean r m' z = ap (λ (x : Mach). clean_of x.st) z.is ∙ clean-none room (ended r z.bytes z.over z.out m).st z.out z.wrote

  stood_dirty : (r : ℕ) (m' : Mach) (p : Problem) (ps : List Problem) → Stood room m (spell_problems (p ∷ ps)) r m' → clean_of m'.st ≡ false
  stood_dirty r m' p ps z = ap (λ (x : Mach). clean_of x.st) z.is ∙ clean-some room (ended r z.bytes z.over z.out m).st z.out (spell_problems (p ∷ ps)) (problems-some p ps) z.wrote

  -- after the slots: a : what names had
  settled-ends : (m' : Mach) (es ts : List (ℕ × Ty)) (r : ℕ) (ps : List Problem) → Stood room m (spell_problems ps) r m' → Finished m' (done (settled ps es ts) r)
  unfolding settled spell_problems
  settled-ends m' es ts r [] z = (stood-clean r m' z, z)
  settled-ends m' es ts r (p ∷ ps) z = (stood_dirty r m' p ps z, z)

  slots_end : (m' : Mach) (es : List (ℕ × Ty)) (o : Out U Findings) → Tested room m [] m' o → Finished m' (on o (λ f. ret (settled f.problems es f.types)))
  unfolding on ret
  slots_end m' es (done f r) h = settled-ends m' es f.types r f.problems h
  slots_end m' es (spent e) h = h
  slots_end m' es (halt w e) h = h

  listed-ends : (L : List Problem) (es : List (ℕ × Ty)) (r : ℕ) → Stood room m (spell_problems L) r (test_names_of m) → Finished (finish_of m) (test_slots L es ss (record { count = m.st.nodes; words = m.arena; problems = b.problems }) r)
  unfolding test_slots ret ◌>>=◌ spell_problems
  listed-ends (p ∷ ps) es r z =
      let c = stood_dirty r (test_names_of m) p ps z in
      subst (λ (x : Mach). Finished x (done (failed (p ∷ ps)) r)) (sym (finish_no m (test_names_of m) refl c)) (c, z)
  listed-ends [] es r z =
      let c = stood-clean r (test_names_of m) z in
      let e : finish_of m ≡ test_slots_of (ended r z.bytes z.over z.out m) = finish_yes m (test_names_of m) refl c ∙ ap test_slots_of z.is in
      subst (λ (x : Mach). Finished x (on (ask m.arena m.st.nodes (F.slots ss) r) (λ f. ret (settled f.problems es f.types)))) (sym e)
      (slots_end _ es (ask m.arena m.st.nodes (F.slots ss) r) (slots_tested r z.bytes z.over z.out z.wrote))

  names-end : (o : Out U Findings) → Tested room m (spell_problems (walk_problems b.problems)) (test_names_of m) o
      → Finished (finish_of m) (on o (λ f. test_slots (walk_problems b.problems ++ f.problems) f.types ss (record { count = m.st.nodes; words = m.arena; problems = b.problems })))
  unfolding on
  names-end (done f r) h = listed-ends (walk_problems b.problems ++ f.problems) f.types r (stood_as room m _ _ r _ (sym (problems_join (walk_problems b.problems) f.problems)) h)
  names-end (spent e) h = finish-stopped m 7 h (λ z. (let y : ◌≡◌ {A = ℕ} 7 0 = z in omega arith))
  names-end (halt w e) h = finish-stopped m 2 h (λ z. (let y : ◌≡◌ {A = ℕ} 2 0 = z in omega arith))

  same-bench : b ≡ record { count = m.st.nodes; words = m.arena; problems = b.problems }
  same-bench = ap₂ (λ (c : ℕ) (w : List ℕ). record { count = c; words = w; problems = b.problems }) (sym s.count) (sym s.words)

  -- the machine ends as the finish ends
  pub finish-ends : Finished (finish_of m) (finish Γ row ss b m.st.budget)
  unfolding finish ◌>>=◌
  finish-ends = subst (λ (x : Bench). Finished (finish_of m) (finish Γ row ss x m.st.budget)) (sym same-bench)
      (names-end (ask m.arena m.st.nodes (names Γ row) m.st.budget) names_tested)
