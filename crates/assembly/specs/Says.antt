-- From what the machine holds when the tests are done to the answer that is returned and the bytes that stand in the output.
use Rattle.std.specs.Prelude.{ℕ, ◌+◌, ◌-◌, ◌≤◌, min, ◌≡◌, refl, ◌≢◌, Bool, List, ◌++◌, eqb, length, take, replicate, Ok, Err}
use Rattle.std.proofs.Common.{sym, ◌∙◌, length-append, length-take, eq-eqb, ne_eqb, le-leb}
use Rattle.std.proofs.Math.Path.{ap, ap₂, subst}
use Rattle.std.proofs.Math.Bool.{true, false}
use native.Mathlib.Omega.{arith}
use Rattle.std.proofs.Math.Decide.{dec_le}
use Rattle.std.proofs.lemmas.List.{length-replicate}
use Rattle.std.proofs.Math.Nat.{min-eq_left, min-eq_right}
use Rattle.std.proofs.lemmas.Bool.{lt-leb}
use Rattle.meter.specs.Meter.{Out, spent, halt, done, broken, full}
use Rattle.formula.specs.Environment.{spell_entries}
use Rattle.unification.specs.Arena.{U}
use Rattle.inference.specs.Answer as I
use Rattle.inference.specs.Answer.{Problem, spell_problems, spell_slots, refused, written}
use Rattle.inference.specs.Finish.{Outcome, typed, failed}
use Rattle.inference.specs.Infer.{either, zeros, fitting, answer, answered, output_after, work_after}
use Rattle.machine.specs.State.{State}
use Rattle.forms.specs.Forms.{test, then}
use Rattle.machine.specs.Machine.{Mach}
use Rattle.memory.specs.Memory.{cleared}
use Rattle.simulation.specs.Relation.{Wrote}
use Rattle.machine.specs.Still.{test_yes, test_no}
use Rattle.conclusion.specs.Conclusion.{Concludes}
use Rattle.finisher.specs.Finisher.{write_answer_of}
use Rattle.runner.specs.declared.Verdict.{Verdict}
use Rattle.runner.specs.declared.Verdict.TheVariants.{Typed, Problems}
use Rattle.runner.specs.declared.Refusal.TheVariants.{Full, Spent, NoRoom}
use Rattle.runner.specs.Answers.{Told, number_of, told, brief, called, call_of}
use Rattle.runner.specs.Run.{Judged, judged, verdict_of, judge_of}
use Rattle.runner.specs.Calls.{closed}

-- an answer and an output say what the definition's answer says
pub record Says (room : ℕ) (a : I.Answer) (j : Judged) : Type 0 where
  pub tells : told j.answer ≡ brief a
  pub holds : take a.size j.out ≡ a.bytes
  pub plain : a.number ≢ 2

-- ---- a state that is final
verdict-going : (kind : Verdict) (budget : ℕ) (v : State) → v.stop ≡ 0 → verdict_of kind budget v ≡ test v.over (λ _. Err NoRoom) (λ _. Ok (record { verdict = kind; length = v.bytes; steps = budget - v.budget }))
unfolding verdict_of
verdict-going kind budget v e =
    test_no (eqb v.stop 6) _ _ (ne_eqb v.stop 6 (λ q. omega arith))
    ∙ test_no (eqb v.stop 7) _ _ (ne_eqb v.stop 7 (λ q. omega arith))
    ∙ test_yes (eqb v.stop 0) _ _ (eq-eqb v.stop 0 e)

verdict-spent : (kind : Verdict) (budget : ℕ) (v : State) → v.stop ≡ 7 → verdict_of kind budget v ≡ Err Spent
unfolding verdict_of
verdict-spent kind budget v e = test_no (eqb v.stop 6) _ _ (ne_eqb v.stop 6 (λ q. omega arith)) ∙ test_yes (eqb v.stop 7) _ _ (eq-eqb v.stop 7 e)

verdict_full : (kind : Verdict) (budget : ℕ) (v : State) → v.stop ≡ 6 → verdict_of kind budget v ≡ Err Full
unfolding verdict_of
verdict_full kind budget v e = test_yes (eqb v.stop 6) _ _ (eq-eqb v.stop 6 e)

-- the number of an answer that is written
numbered-plain : (kind : Verdict) → number_of kind ≢ 2
unfolding number_of
numbered-plain Typed e = omega arith
numbered-plain Problems e = omega arith

-- its bytes are P, whether they fit or not
module _ (room budget r : ℕ) (kind : Verdict) (P : List ℕ) (v : State) (out : List ℕ) (going : v.stop ≡ 0) (left : v.budget ≡ r) (w : Wrote room P v.bytes v.over out) where
  final : Dec (length P ≤ room) → Says room (fitting room (written (number_of kind) (budget - r) P)) (judged (verdict_of kind budget v) out)
  unfolding fitting written brief either refused told
  final (yes l) =
      let i = w.inside l in
      let f : fitting room (written (number_of kind) (budget - r) P) ≡ written (number_of kind) (budget - r) P = ap (λ (c : Bool). either c (written (number_of kind) (budget - r) P) (refused 8 0)) (le-leb (length P) room l) in
      subst (λ (a : I.Answer). Says room a (judged (verdict_of kind budget v) out)) (sym f) (record {
        tells = ap told (verdict-going kind budget v going ∙ test_no v.over _ _ i.0)
            ∙ ap₂ (λ (n k : ℕ). record { number = number_of kind; place = 0; size = n; steps = budget - k }) i.1 left;
        holds = i.2;
        plain = numbered-plain kind;
      })
  final (no l) =
      let f : fitting room (written (number_of kind) (budget - r) P) ≡ refused 8 0 = ap (λ (c : Bool). either c (written (number_of kind) (budget - r) P) (refused 8 0)) (lt-leb (length P) room (omega arith)) in
      subst (λ (a : I.Answer). Says room a (judged (verdict_of kind budget v) out)) (sym f) (record {
        tells = ap told (verdict-going kind budget v going ∙ test_yes v.over _ _ (w.past (omega arith)));
        holds = refl;
        plain = λ e. omega arith;
      })

  pub final-says : Says room (fitting room (written (number_of kind) (budget - r) P)) (judged (verdict_of kind budget v) out)
  final-says = final (dec_le (length P) room)

-- ---- the answer of a machine whose tests are done
says_as : (room : ℕ) (a : I.Answer) (j j' : Judged) → j ≡ j' → Says room a j' → Says room a j
says_as room a j j' e s = subst (λ (x : Judged). Says room a x) (sym e) s

module _ (room budget : ℕ) (m : Mach) where
  judge_stopped : (m.st.stop ≡ 0 → ⊥) → judge_of budget m ≡ judged (verdict_of Problems budget m.st) m.out
  unfolding judge_of
  judge_stopped h = test_no (eqb m.st.stop 0) _ _ (ne_eqb m.st.stop 0 h)

  judge_over : m.st.stop ≡ 0 → m.st.over ≡ true → judge_of budget m ≡ judged (verdict_of Problems budget m.st) m.out
  unfolding judge_of
  judge_over g o = test_yes (eqb m.st.stop 0) _ _ (eq-eqb m.st.stop 0 g) ∙ test_yes m.st.over _ _ o

  judge_listed : m.st.stop ≡ 0 → m.st.over ≡ false → m.st.bytes ≢ 0 → judge_of budget m ≡ judged (verdict_of Problems budget m.st) m.out
  unfolding judge_of
  judge_listed g o b = test_yes (eqb m.st.stop 0) _ _ (eq-eqb m.st.stop 0 g) ∙ test_no m.st.over _ _ o ∙ test_no (eqb m.st.bytes 0) _ _ (ne_eqb m.st.bytes 0 b)

  judge_typed : m.st.stop ≡ 0 → m.st.over ≡ false → m.st.bytes ≡ 0 → judge_of budget m ≡ judged (verdict_of Typed budget (write_answer_of m).st) (write_answer_of m).out
  unfolding judge_of then
  judge_typed g o b = test_yes (eqb m.st.stop 0) _ _ (eq-eqb m.st.stop 0 g) ∙ test_no m.st.over _ _ o ∙ test_yes (eqb m.st.bytes 0) _ _ (eq-eqb m.st.bytes 0 b)

  -- problems listed, whether they fit or not
  listed : m.st.stop ≡ 0 → (m.st.over ≡ false → m.st.bytes ≡ 0 → ⊥) → (c : Bool) → m.st.over ≡ c → judge_of budget m ≡ judged (verdict_of Problems budget m.st) m.out
  listed g n true e = judge_over g e
  listed g n false e = judge_listed g e (n e)

  pub judge_says : (o : Out U Outcome) → Concludes room m (write_answer_of m) o → Says room (answered budget room o) (judge_of budget m)
  unfolding answered answer refused brief number_of told
  judge_says (spent e) h = says_as room (refused 7 0) _ _ (judge_stopped (λ z. omega arith)) (record { tells = ap told (verdict-spent Problems budget m.st h); holds = refl; plain = λ z. omega arith })
  judge_says (halt full e) h = says_as room (refused 6 0) _ _ (judge_stopped (λ z. omega arith)) (record { tells = ap told (verdict_full Problems budget m.st h); holds = refl; plain = λ z. omega arith })
  judge_says (halt broken e) h = absurd h
  judge_says (done (failed ps) r) h = says_as room _ _ _ (listed h.going h.some m.st.over refl) (final-says room budget r Problems (spell_problems ps) m.st m.out h.going h.left h.wrote)
  judge_says (done (typed es ts) r) h =
      says_as room _ _ _ (judge_typed h.going h.inside h.none) (final-says room budget r Typed (spell_entries es ++ spell_slots ts) (write_answer_of m).st (write_answer_of m).out h.gone h.left h.wrote)

-- ---- what is left behind: the answer's bytes and zeros; all zeros
pub cleared-long : (n : ℕ) (l : List ℕ) → length (cleared n l) ≡ length l
cleared-long n l =
    let e = length-append (take n l) (replicate (length l - n) 0) in
    let f = length-take n l in
    let g = length-replicate {A = ℕ} (length l - n) 0 in
    let h = min_add (dec_le n (length l)) in
    e ∙ ap₂ ◌+◌ f g ∙ h
  where
    min_add : Dec (n ≤ length l) → min n (length l) + (length l - n) ≡ length l
    min_add (yes q) = let m : min n (length l) ≡ n = min-eq_left q in omega arith
    min_add (no q) = let m : min n (length l) ≡ length l = min-eq_right (omega arith) in omega arith

pub closed_call : (a : I.Answer) (j : Judged) (out work work' : List ℕ) → Says (length out) a j → length j.out ≡ length out → length work' ≡ length work → length a.bytes ≡ a.size
    → closed j work' ≡ call_of a out work
unfolding closed called call_of output_after work_after either brief
closed_call a j out work work' s l k z =
    let n : (told j.answer).size ≡ a.size = ap (λ (x : Told). x.size) s.tells in
    let d : length j.out - (told j.answer).size ≡ length out - length a.bytes = omega arith in
    let f : eqb a.number 2 ≡ false = ne_eqb a.number 2 s.plain in
    let o : cleared (told j.answer).size j.out ≡ output_after a out =
    ap₂ (λ (b : List ℕ) (c : ℕ). b ++ replicate c 0) (ap (λ (c : ℕ). take c j.out) n ∙ s.holds) d
    ∙ sym (ap (λ (c : Bool). either c out (a.bytes ++ zeros (length out - length a.bytes))) f) in
    let e : length work' - 0 ≡ length work = omega arith in
    let w : cleared 0 work' ≡ work_after a work = ap (λ (c : ℕ). replicate c 0) e ∙ sym (ap (λ (c : Bool). either c work (zeros (length work))) f) in
    ap₂ (λ (x : Told) (y : List ℕ × List ℕ). record { told = x; output = y.0; work = y.1 }) s.tells (ap₂ (λ (b c : List ℕ). (b, c)) o w)
