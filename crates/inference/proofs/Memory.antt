-- What the arena's memory holds before the walk does not matter, nor how much more of it there is than the nodes need.
-- After this file a reader may believe that the conclusion reckoned over zeros is the one reached over any memory with room.
use Prim.Native.Nat.{ℕ, ◌*◌, ◌≤◌}
use Rattle.std.specs.Prelude.{◌≡◌, ◌⊎◌, Bool}
use Rattle.std.proofs.Math.Path.{refl, ap, ap₂}
use Rattle.std.proofs.Common.{◌∙◌, arith}
use Rattle.std.proofs.Math.Logic.{inl, inr}
use mathlib.Core.List.{List, [], ◌∷◌, ◌++◌}
use Rattle.std.proofs.Math.ListN.{length}
use Rattle.std.proofs.lemmas.List.{length-replicate}
use Rattle.meter.specs.Meter.{Out, M, ret, on, ◌>>=◌}
use Rattle.types.specs.Ty.{Ty}
use Rattle.formula.specs.Environment.{Env}
use Rattle.formula.specs.Tree.{Formula}
use Rattle.unification.specs.Arena.{Words, U}
use Rattle.unification.specs.Ops.{Bench, nodes, exec}
use Rattle.unification.specs.Frame.{Alike, solved-alike, read_alike, Like, like_spent, like_halt, like_done, Benches, Room}
use Rattle.unification.proofs.Frame.{exec-alike}
use Rattle.walk.specs.Writer.{Row}
use Rattle.walk.specs.Walk.{walked}
use Rattle.walk.specs.Verdict.{start}
use Rattle.inference.specs.Answer.{Problem}
use Rattle.inference.specs.Finish.{Finding, finding, test, Question, Findings, noted, ask, names, slots, Outcome, settled, test_slots, walk_problems, finish}
use Rattle.inference.specs.Infer.{zeros, concluded}

module _ (n : ℕ) (ws ws' : Words) (h : Alike n ws ws') where
  pub test-alike : test ws n ≡ test ws' n
  unfolding test
  test-alike = ap₂ {C = ℕ → M U Finding} (λ (s : ℕ → M U Bool) (r : ℕ → M U Ty) t b. finding (s t b) (r t b)) (solved-alike n ws ws' h) (read_alike n ws ws' h)

  pub ask-alike : (qs : List Question) → ask ws n qs ≡ ask ws' n qs
  unfolding ask
  ask-alike [] = refl
  ask-alike (q ∷ qs) = ap₂ (λ (m : M U Finding) (k : M U Findings). m >>= λ x. k >>= λ f. ret (noted q x f)) (ap (λ (t : ℕ → M U Finding). t q.ref) test-alike) (ask-alike qs)

slots-alike : (s s' : Bench) → s.count ≡ s'.count → Alike s.count s.words s'.words → (ps : List Problem) (entries : List (ℕ × Ty)) (ss : List (ℕ × ℕ)) → test_slots ps entries ss s ≡ test_slots ps entries ss s'
unfolding test_slots
slots-alike s s' e h (p ∷ ps) entries ss = refl
slots-alike s s' e h [] entries ss = ap (λ (m : M U Findings). m >>= λ f. ret (settled f.problems entries f.types)) (ask-alike s.count s.words s'.words h (slots ss) ∙ ap (λ (n : ℕ). ask s'.words n (slots ss)) e)

-- the finish sees the counted words and the problems alone
pub finish-alike : (Γ : Env) (row : Row) (ss : List (ℕ × ℕ)) (s s' : Bench) → s.count ≡ s'.count → s.problems ≡ s'.problems → Alike s.count s.words s'.words → finish Γ row ss s ≡ finish Γ row ss s'
unfolding finish
finish-alike Γ row ss s s' e p h =
    ap₂ (λ (m : M U Findings) (k : Findings → M U Outcome). m >>= k) (ask-alike s.count s.words s'.words h (names Γ row) ∙ ap (λ (n : ℕ). ask s'.words n (names Γ row)) e)
    (λ i f. (slots-alike s s' e h (walk_problems s.problems ++ f.problems) f.types ss ∙ ap (λ (qs : List (ℕ × ℕ)). test_slots (walk_problems qs ++ f.problems) f.types ss s') p) i)

module _ (Γ : Env) (f : Formula) where
  same-finish : (s s' : Bench) (o o' : Out U Bench) → Like (λ _ _. U) (Benches s s') o o' → on o (finish Γ (walked Γ f).row (walked Γ f).slots) ≡ on o' (finish Γ (walked Γ f).row (walked Γ f).slots)
  unfolding on
  same-finish s s' o o' (like_spent h) = refl
  same-finish s s' o o' (like_halt h) = refl
  same-finish s s' o o' (like_done {a = t} {a' = t'} {r = r} h) = ap (λ (m : M U Outcome). m r) (finish-alike Γ (walked Γ f).row (walked Γ f).slots t t' h.count h.problems h.words.alike)

  -- from an empty arena in any memory with room for the nodes, or for as many as the capacity allows
  pub concluded_anywhere : (capacity : ℕ) (ws : Words) → (3 * capacity ≤ length ws) ⊎ (3 * nodes (walked Γ f).ops ≤ length ws) → (budget : ℕ)
      → (exec capacity (walked Γ f).ops (start ws) >>= finish Γ (walked Γ f).row (walked Γ f).slots) budget ≡ concluded capacity Γ f budget
  unfolding concluded start ◌>>=◌
  concluded_anywhere capacity ws l budget =
      same-finish (start ws) (start (zeros (3 * nodes (walked Γ f).ops))) _ _
      (exec-alike capacity (walked Γ f).ops (start ws) (start (zeros (3 * nodes (walked Γ f).ops))) refl refl
      (record { roomy = omega arith; roomy' = omega arith; agrees = λ i q. absurd (omega arith) })
      (room l)
      (record { size = nodes (walked Γ f).ops; within = rw (length-replicate {A = ℕ} (3 * nodes (walked Γ f).ops) 0) (omega arith); enough = inr (omega arith) }) budget)
    where
      room : (3 * capacity ≤ length ws) ⊎ (3 * nodes (walked Γ f).ops ≤ length ws) → Room capacity (nodes (walked Γ f).ops) 0 ws
      room (inl q) = record { size = capacity; within = q; enough = inl (omega arith) }
      room (inr q) = record { size = nodes (walked Γ f).ops; within = q; enough = inr (omega arith) }
