-- What inference costs: every part of it is metered, and the test of a reference answers as `solved` does, at `solved`'s cost.
-- After this file a reader may believe that a conclusion has a price, the same at every budget, and that a smaller budget is spent.
use Rattle.std.specs.Prelude.{ℕ, ◌+◌, ◌≤◌, ◌<◌, ◌≡◌, Bool, true, false, List, [], ◌∷◌}
use Rattle.std.proofs.Math.Path.{refl, ap}
use Rattle.std.proofs.Common.{sym, ◌∙◌, subst}
use Rattle.meter.specs.Meter.{Out, spent, halt, done, Why, Shift, same, wreck, late, wait, lost, Within, w_spent, w_halt, w_done, Metered, metered_ret, metered_bind, mapped, mapped-done, mapped-shift, mapped-within}
use Rattle.types.specs.Ty.{Ty}
use Rattle.formula.specs.Environment.{Env}
use Rattle.formula.specs.Tree.{Formula}
use Rattle.unification.specs.Arena.{Words, U, solved, read}
use Rattle.unification.specs.Steps.{solved_metered, read_metered}
use Rattle.unification.specs.Twin.{read_as_solved}
use Rattle.unification.specs.Ops.{Bench}
use Rattle.unification.proofs.Ops.{exec_metered}
use Rattle.walk.specs.Writer.{Row}
use Rattle.inference.specs.Answer.{Problem}
use Rattle.inference.specs.Finish.{Finding, found, unsolved, finding, test, Question, ask, names, slots, test_slots, finish}
use Rattle.inference.specs.Infer.{concluded}

-- ---- the test

module _ (ws : Words) (n t : ℕ) where
  -- where solved says yes, the test finds a type, with as much left
  pub test_yes : (b left : ℕ) → solved ws n t b ≡ done true left → (T : Ty) × (read ws n t b ≡ done T left) × (test ws n t b ≡ done (found T) left)
  unfolding test finding
  test_yes b left e =
      let h = read_as_solved ws n t b left e in
      (h.0, h.1, ap (λ (o : Out U Bool). finding o (read ws n t b)) e ∙ ap (mapped found) h.1 ∙ mapped-done found h.0 left)

  pub test_no : (b left : ℕ) → solved ws n t b ≡ done false left → test ws n t b ≡ done unsolved left
  unfolding test finding
  test_no b left e = ap (λ (o : Out U Bool). finding o (read ws n t b)) e

  pub test-spent : (b : ℕ) → solved ws n t b ≡ spent tt → test ws n t b ≡ spent tt
  unfolding test finding
  test-spent b e = ap (λ (o : Out U Bool). finding o (read ws n t b)) e

  pub test-halt : (b : ℕ) (w : Why) → solved ws n t b ≡ halt w tt → test ws n t b ≡ halt w tt
  unfolding test finding
  test-halt b w e = ap (λ (o : Out U Bool). finding o (read ws n t b)) e

  -- spent before, a type found later
  later : (b b' left : ℕ) → left + b < b' → (T : Ty) (o : Out U Ty) → o ≡ done T left → Shift b b' (spent tt) (mapped found o)
  later b b' left l T o e = subst (λ (q : Out U Finding). Shift b b' (spent tt) q) (sym (ap (mapped found) e ∙ mapped-done found T left)) (late l)

  finding-shift : (b b' : ℕ) → b ≤ b' → (o o' : Out U Bool) → solved ws n t b ≡ o → solved ws n t b' ≡ o' → Shift b b' o o' → Shift b b' (finding o (read ws n t b)) (finding o' (read ws n t b'))
  unfolding finding
  finding-shift b b' l o o' e e' (same {a = true} p q) = mapped-shift found b b' ((read_metered ws n t).shift b b' l)
  finding-shift b b' l o o' e e' (same {a = false} p q) = same p q
  finding-shift b b' l o o' e e' wreck = wreck
  finding-shift b b' l o o' e e' (late {a = true} {r' = left} p) = let h = read_as_solved ws n t b' left e' in later b b' left p h.0 (read ws n t b') h.1
  finding-shift b b' l o o' e e' (late {a = false} p) = late p
  finding-shift b b' l o o' e e' wait = wait
  finding-shift b b' l o o' e e' lost = lost

  finding-within : (b : ℕ) (o : Out U Bool) → Within b o → Within b (finding o (read ws n t b))
  unfolding finding
  finding-within b o w_spent = w_spent
  finding-within b o w_halt = w_halt
  finding-within b o (w_done {a = true} p) = mapped-within found b ((read_metered ws n t).within b)
  finding-within b o (w_done {a = false} p) = w_done p

  pub test_metered : Metered (test ws n t)
  unfolding test
  test_metered = record {
    shift = λ b b' l. finding-shift b b' l (solved ws n t b) (solved ws n t b') refl refl ((solved_metered ws n t).shift b b' l);
    within = λ b. finding-within b (solved ws n t b) ((solved_metered ws n t).within b);
  }

-- ---- the finish and the conclusion

pub ask_metered : (ws : Words) (n : ℕ) (qs : List Question) → Metered (ask ws n qs)
unfolding ask
ask_metered ws n [] = metered_ret _
ask_metered ws n (q ∷ qs) = metered_bind (test_metered ws n q.ref) λ x. metered_bind (ask_metered ws n qs) λ f. metered_ret _

slots_metered : (ps : List Problem) (entries : List (ℕ × Ty)) (ss : List (ℕ × ℕ)) (s : Bench) → Metered (test_slots ps entries ss s)
unfolding test_slots
slots_metered (p ∷ ps) entries ss s = metered_ret _
slots_metered [] entries ss s = metered_bind (ask_metered s.words s.count (slots ss)) λ f. metered_ret _

pub finish_metered : (Γ : Env) (row : Row) (ss : List (ℕ × ℕ)) (s : Bench) → Metered (finish Γ row ss s)
unfolding finish
finish_metered Γ row ss s = metered_bind (ask_metered s.words s.count (names Γ row)) λ f. slots_metered _ _ ss s

pub concluded_metered : (capacity : ℕ) (Γ : Env) (f : Formula) → Metered (concluded capacity Γ f)
unfolding concluded
concluded_metered capacity Γ f = metered_bind (exec_metered capacity _ _) λ s. finish_metered Γ _ _ s
