-- The theorems of specs/Conclude.antt: `test-exact`, `ask-exact`, `finish-exact`, `finished`, `concluded_wider`, `concluded-exact` and others.
use Rattle.std.specs.Prelude.{ℕ, ◌+◌, ◌*◌, ◌-◌, ◌≤◌, ◌<◌, ◌≡◌, Bool, true, false}
use Rattle.std.proofs.Math.Path.{refl, ap}
use Rattle.std.proofs.Common.{sym, ◌∙◌, subst, arith}
use mathlib.Core.List.{List, [], ◌∷◌, ◌++◌}
use Rattle.std.proofs.Math.Decide.{dec_lt}
use Rattle.meter.specs.Meter.{Out, spent, halt, done, Why, full, M, on, ◌>>=◌, Exact, exact-ret, exact_eq, exact-map, exact-bind, exact-done, Ends, exact-ends, Halts}
use Rattle.types.specs.Ty.{Ty, bool, int, base}
use Rattle.formula.specs.Environment.{Env}
use Rattle.formula.specs.Tree.{Formula}
use Rattle.unification.specs.Arena.{Words, U, node_at, solved, read}
use Rattle.unification.specs.Trees.{var, eval, ground, ground_differs}
use Rattle.unification.specs.Good.{Assignment, Admits, Good, spelt, extend, extend_admits}
use Rattle.unification.specs.Readers.{solved-exact, read-exact}
use Rattle.unification.specs.Ops.{Bench, Ready, Ran}
use Rattle.unification.proofs.Ops.{exec_full, exec_wider}
use Rattle.walk.specs.Writer.{Row}
use Rattle.walk.specs.Walk.{walked}
use Rattle.walk.specs.Safe.{SlotsIn}
use Rattle.walk.specs.Verdict.{start}
use Rattle.walk.proofs.Verdict.{walk_runs}
use Rattle.inference.specs.Answer.{Problem}
use Rattle.inference.specs.Finish.{found, unsolved, test, Question, ask, names, slots, Outcome, test_slots, walk_problems, finish}
use Rattle.inference.specs.Infer.{zeros, concluded}
use Rattle.inference.proofs.Cost.{test_yes, test_no, test-spent}
use Rattle.inference.specs.Rows.{Every}
use Rattle.inference.proofs.Rows.{slots-inside, found-asked}
use Rattle.inference.specs.Conclude.{Judge, Told, told_none, told, SlotsTold, Finished, size, safe, Concluded, long, Ended, ended-spent, ended_full, ended-done}

module _ (ws : Words) (n : ℕ) (G : Good n (node_at ws n)) where
  abbrev Admit : Assignment → Type 0
  Admit σ = Admits n (node_at ws n) σ

  open_differs : (t : ℕ) → ground (G.tree t) ≡ false → Judge Admit t unsolved
  open_differs t g d =
      let ν : Assignment = λ x. base bool in
      let μ : Assignment = λ x. base int in
      ground_differs ν μ (λ x e. (let z : ◌≡◌ {A = ℕ} 0 1 = cc in omega arith)) (G.tree t) g
      (d (extend n (node_at ws n) G ν) (extend n (node_at ws n) G μ) (extend_admits n (node_at ws n) G ν) (extend_admits n (node_at ws n) G μ))

  -- the type that is read, whatever is left
  module _ (t : ℕ) (l : t < n) (x : Exact (λ _. U) (λ c. c ≡ ground (G.tree t)) (solved ws n t)) where
    yes_exact : x.answer ≡ true → Exact (λ _. U) (Judge Admit t) (test ws n t)
    yes_exact e =
        let g : ground (G.tree t) ≡ true = sym x.holds ∙ e in
        let says : (left : ℕ) → solved ws n t (x.cost + left) ≡ done true left = λ left. x.enough left ∙ ap (λ (c : Bool). done c left) e in
        let spells : (left : ℕ) (T : Ty) → read ws n t (x.cost + left) ≡ done T left → (σ : Assignment) → eval σ (G.tree t) ≡ T = λ left T q. exact-done (read-exact ws n G t l g) (x.cost + left) T left q in
        let T₀ = test_yes ws n t (x.cost + 0) 0 (says 0) in
        record {
          cost = x.cost;
          answer = found T₀.0;
          holds = λ σ A. spelt n (node_at ws n) G σ A t l ∙ spells 0 T₀.0 T₀.1 σ;
          enough = λ left. (let T₁ = test_yes ws n t (x.cost + left) left (says left) in
              T₁.2 ∙ ap (λ (T : Ty). done (found T) left) (sym (spells left T₁.0 T₁.1 (λ y. base bool)) ∙ spells 0 T₀.0 T₀.1 (λ y. base bool)));
          short = λ b q. (tt, test-spent ws n t b (x.short b q).1, tt);
        }

    no_exact : x.answer ≡ false → Exact (λ _. U) (Judge Admit t) (test ws n t)
    no_exact e = record {
      cost = x.cost;
      answer = unsolved;
      holds = open_differs t (sym x.holds ∙ e);
      enough = λ left. test_no ws n t (x.cost + left) left (x.enough left ∙ ap (λ (c : Bool). done c left) e);
      short = λ b q. (tt, test-spent ws n t b (x.short b q).1, tt);
    }

    either-exact : (c : Bool) → x.answer ≡ c → Exact (λ _. U) (Judge Admit t) (test ws n t)
    either-exact true e = yes_exact e
    either-exact false e = no_exact e

  -- over a good arena the test ends, and what it finds is so
  pub test-exact : (t : ℕ) → t < n → Exact (λ _. U) (Judge (λ σ. Admits n (node_at ws n) σ) t) (test ws n t)
  test-exact t l = let x = solved-exact ws n G t l in either-exact t l x x.answer refl

pub ask-exact : (ws : Words) (n : ℕ) (G : Good n (node_at ws n)) (qs : List Question) → Every (λ q. q.ref < n) qs
    → Exact (λ _. U) (Told (Judge (λ σ. Admits n (node_at ws n) σ)) qs) (ask ws n qs)
unfolding ask
ask-exact ws n G [] h = exact-ret _ _ told_none
ask-exact ws n G (q ∷ qs) h = exact-bind (test-exact ws n G q.ref h.0) λ x j. exact-bind (ask-exact ws n G qs h.1) λ f g. exact-ret _ _ (told j g)

-- ---- the finish: what an outcome says, s being the arena after the walk
module _ (s : Bench) where
  module _ (G : Good s.count (node_at s.words s.count)) where
    slots-exact : (ps : List Problem) (entries : List (ℕ × Ty)) (ss : List (ℕ × ℕ)) → SlotsIn s.count ss → Exact (λ _. U) (SlotsTold s ps entries ss) (test_slots ps entries ss s)
    unfolding test_slots
    slots-exact (p ∷ ps) entries ss h = exact-ret _ _ refl
    slots-exact [] entries ss h = exact-bind (ask-exact s.words s.count G (slots ss) (slots-inside s.count ss h)) λ g t. exact-ret _ _ (g, t, refl)

    pub finish-exact : (Γ : Env) (row : Row) (ss : List (ℕ × ℕ)) → Every (λ q. q.ref < s.count) (names Γ row) → SlotsIn s.count ss → Exact (λ _. U) (Finished s Γ row ss) (finish Γ row ss s)
    unfolding finish
    finish-exact Γ row ss r h = exact-bind (ask-exact s.words s.count G (names Γ row) r) λ f t.
        exact-map (λ _ u. u) (λ o q. (f, t, q)) (slots-exact (walk_problems s.problems ++ f.problems) f.types ss h)

-- ---- the conclusion
module _ (Γ : Env) (f : Formula) where
  abbrev arena : Bench
  arena = start (zeros (3 * size Γ f))

  pub finished : (s : Bench) → Ran (size Γ f) arena (walked Γ f).ops s → Exact (λ _. U) (Finished s Γ (walked Γ f).row (walked Γ f).slots) (finish Γ (walked Γ f).row (walked Γ f).slots s)
  unfolding start
  finished s ran =
      let c : s.count ≡ 0 + size Γ f = ran.counted in
      finish-exact s ran.ready.good Γ (walked Γ f).row (walked Γ f).slots
      (found-asked Γ (λ x r. r < s.count) f (λ x r l e. (let q = (safe Γ f).1 x r e in omega arith)))
      (subst (λ (n : ℕ). SlotsIn n (walked Γ f).slots) (sym c) (safe Γ f).2)

  -- every capacity that the nodes fit gives the same conclusion
  pub concluded_wider : (capacity : ℕ) → size Γ f ≤ capacity → concluded capacity Γ f ≡ concluded (size Γ f) Γ f
  unfolding concluded start
  concluded_wider capacity l = ap (λ (m : M U Bench). m >>= finish Γ (walked Γ f).row (walked Γ f).slots) (sym (exec_wider (size Γ f) capacity (walked Γ f).ops arena (omega arith) l))

  -- the nodes fit: one outcome, at one price; a smaller budget is spent
  pub concluded-exact : (capacity : ℕ) → size Γ f ≤ capacity → Exact (λ _. U) (Concluded Γ f) (concluded capacity Γ f)
  unfolding concluded
  concluded-exact capacity l = exact_eq (concluded_wider capacity l)
      (exact-bind (walk_runs Γ f (size Γ f) (zeros (3 * size Γ f)) (long Γ f) (omega arith)) λ s ran. exact-map (λ _ u. u) (λ o q. (s, ran, q)) (finished s ran))

  halts_then : {A B : Type 0} {m : M U A} (k : A → M U B) (w : Why) (c : ℕ) → Halts m w tt c → Halts (m >>= k) w tt c
  unfolding ◌>>=◌ on
  halts_then k w c x = record { from = λ r. ap (λ o. on o k) (x.from r); short = λ b l. (let y = x.short b l in (y.0, ap (λ o. on o k) y.1)) }

  -- they do not fit: full from some budget on, below it the budget is spent
  pub concluded_full : (capacity : ℕ) → capacity < size Γ f → (c : ℕ) × Halts (concluded capacity Γ f) full tt c
  unfolding concluded start
  concluded_full capacity l =
      let w = long Γ f in
      let r : Ready capacity arena = record { roomy = omega arith; good = record { tree = λ x. var x; rank = λ x. 0; fits = λ x q. absurd (omega arith) } } in
      let z = exec_full capacity (walked Γ f).ops arena r (safe Γ f).0 (omega arith) (omega arith) in
      (z.0, halts_then (finish Γ (walked Γ f).row (walked Γ f).slots) full z.0 z.1)

  full_ends : (capacity budget : ℕ) → capacity < size Γ f → (c : ℕ) → Halts (concluded capacity Γ f) full tt c → Dec (budget < c) → Ended Γ f capacity (concluded capacity Γ f budget)
  full_ends capacity budget l c h (yes q) = subst (λ (o : Out U Outcome). Ended Γ f capacity o) (sym (h.short budget q).1) ended-spent
  full_ends capacity budget l c h (no q) =
      let p : budget ≡ c + (budget - c) = omega arith in
      subst (λ (o : Out U Outcome). Ended Γ f capacity o) (sym (ap (concluded capacity Γ f) p ∙ h.from (budget - c))) (ended_full l)

  done-ends : (capacity : ℕ) → size Γ f ≤ capacity → (o : Out U Outcome) → Ends (λ _. U) (Concluded Γ f) o → Ended Γ f capacity o
  done-ends capacity l (spent e) h = ended-spent
  done-ends capacity l (halt w e) h = absurd h
  done-ends capacity l (done o left) h = ended-done l o left h

  pub concluded-ends : (capacity budget : ℕ) → Ended Γ f capacity (concluded capacity Γ f budget)
  concluded-ends capacity budget = at (dec_lt capacity (size Γ f))
    where
      at : Dec (capacity < size Γ f) → Ended Γ f capacity (concluded capacity Γ f budget)
      at (yes l) = let z = concluded_full capacity l in full_ends capacity budget l z.0 z.1 (dec_lt budget z.0)
      at (no l) = done-ends capacity (omega arith) (concluded capacity Γ f budget) (exact-ends (concluded-exact capacity (omega arith)) budget)
