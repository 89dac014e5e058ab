-- The theorems of specs/AnyDirection.antt, whose head says what they give: `outcome-found`.
use Prim.Native.Nat.{ℕ, ◌+◌, ◌<◌}
use Rattle.std.specs.Prelude.{◌≡◌, refl, List, [], ◌∷◌, ◌++◌}
use Rattle.std.proofs.Math.Path.{sym, ap, subst}
use Rattle.std.proofs.Common.{◌∙◌, ap₂, arith}
use Rattle.meter.specs.Meter.{Out, done, on, ◌>>=◌, Exact, exact-map}
use Rattle.types.specs.Ty.{bool, Ty, base}
use Rattle.formula.specs.Environment.{Env}
use Rattle.formula.specs.Tree.{Formula}
use Rattle.unification.specs.Arena.{U, node_at, Direction}
use Rattle.unification.specs.Trees.{var}
use Rattle.unification.specs.Good.{Assignment, Admits, Good, extend, extend_admits}
use Rattle.unification.specs.Ops.{Bench}
use Rattle.unification.specs.Shapes.{Same}
use Rattle.unification.specs.Direction.{OneBinding}
use Rattle.unification.proofs.Runs.{every-run}
use Rattle.walk.specs.Writer.{Row}
use Rattle.walk.specs.Walk.{walked}
use Rattle.walk.specs.Safe.{SlotsIn}
use Rattle.walk.specs.Verdict.{start}
use Rattle.inference.specs.Answer.{Problem}
use Rattle.inference.specs.Finish.{Finding, found, unsolved, Question, Findings, noted, names, slots, Outcome, settled, walk_problems, finish}
use Rattle.inference.specs.Infer.{concluded}
use Rattle.inference.proofs.Rows.{found-asked}
use Rattle.inference.specs.Conclude.{Judge, Told, told_none, told, SlotsTold, Finished, size, safe, long}
use Rattle.inference.proofs.Conclude.{finish-exact, finished}
use Rattle.inference.proofs.Budget.{outcome, outcome-only}
use Rattle.inference.specs.AnyDirection.{walk, Leaves, empty}

-- ---- what is found depends on the admitted assignments alone
module _ {A B : Assignment → Type 0} (σ : Assignment) (a : A σ) (to : (ν : Assignment) → A ν → B ν) (from : (ν : Assignment) → B ν → A ν) where
  finding-one : (t : ℕ) (x y : Finding) → Judge A t x → Judge B t y → x ≡ y
  finding-one t (found T) (found S) h g = ap found (sym (h σ a) ∙ g σ (to σ a))
  finding-one t (found T) unsolved h g = absurd (g (λ ν μ b c. h ν (from ν b) ∙ sym (h μ (from μ c))))
  finding-one t unsolved (found S) h g = absurd (h (λ ν μ b c. g ν (to ν b) ∙ sym (g μ (to μ c))))
  finding-one t unsolved unsolved h g = refl

  told-one : (qs : List Question) (f g : Findings) → Told (Judge A) qs f → Told (Judge B) qs g → f ≡ g
  told-one [] f g told_none told_none = refl
  told-one (q ∷ qs) f g (told {x = x} {f = f'} j k) (told {x = y} {f = g'} i l) = ap₂ (noted q) (finding-one q.ref x y j i) (told-one qs f' g' k l)

module _ (s t : Bench) (S : Same s.count s.words t.words) (c : t.count ≡ s.count) (ps : t.problems ≡ s.problems) where
  abbrev Left : Assignment → Type 0
  Left σ = Admits s.count (node_at s.words s.count) σ

  abbrev Right : Assignment → Type 0
  Right σ = Admits t.count (node_at t.words t.count) σ

  to_right : (σ : Assignment) → Left σ → Right σ
  to_right σ A = subst (λ (n : ℕ). Admits n (node_at t.words n) σ) (sym c) (S.to σ A)

  to_left : (σ : Assignment) → Right σ → Left σ
  to_left σ A = S.from σ (subst (λ (n : ℕ). Admits n (node_at t.words n) σ) c A)

  some : Assignment
  some = extend s.count (node_at s.words s.count) S.good (λ _. base bool)

  some_admitted : Left some
  unfolding some
  some_admitted = extend_admits s.count (node_at s.words s.count) S.good (λ _. base bool)

  slots_one : (qs : List Problem) (entries : List (ℕ × Ty)) (ss : List (ℕ × ℕ)) (o u : Outcome) → SlotsTold s qs entries ss o → SlotsTold t qs entries ss u → o ≡ u
  slots_one [] entries ss o u h g =
      let e : h.0 ≡ g.0 = told-one some some_admitted to_right to_left (slots ss) h.0 g.0 h.1 g.1 in
      h.2 ∙ ap (λ (x : Findings). settled x.problems entries x.types) e ∙ sym g.2
  slots_one (q ∷ qs) entries ss o u h g = h ∙ sym g

  finished-one : (Γ : Env) (row : Row) (ss : List (ℕ × ℕ)) (o u : Outcome) → Finished s Γ row ss o → Finished t Γ row ss u → o ≡ u
  finished-one Γ row ss o u h g =
      let e : g.0 ≡ h.0 = sym (told-one some some_admitted to_right to_left (names Γ row) h.0 g.0 h.1 g.1) in
      slots_one (walk_problems s.problems ++ h.0.problems) h.0.types ss o u h.2
      (subst (λ (x : Findings). SlotsTold t (walk_problems s.problems ++ x.problems) x.types ss u) e (subst (λ (qs : List (ℕ × ℕ)). SlotsTold t (walk_problems qs ++ g.0.problems) g.0.types ss u) ps g.2))

-- ---- the outcome of a formula
module _ (Γ : Env) (f : Formula) where
  end : Exact (λ _. U) (Finished (walk Γ f).answer Γ (walked Γ f).row (walked Γ f).slots) (finish Γ (walked Γ f).row (walked Γ f).slots (walk Γ f).answer)
  end = finished Γ f (walk Γ f).answer (walk Γ f).holds

  -- it is what the finish says of the arena that this unifier leaves
  end-outcome : end.answer ≡ outcome Γ f
  unfolding concluded ◌>>=◌ on
  end-outcome =
      let c : ℕ = (walk Γ f).cost + (end.cost + 0) in
      let e : concluded (size Γ f) Γ f ((walk Γ f).cost + (end.cost + 0)) ≡ done end.answer 0 =
      ap (λ (o : Out U Bench). on o (finish Γ (walked Γ f).row (walked Γ f).slots)) ((walk Γ f).enough (end.cost + 0)) ∙ end.enough 0 in
      (outcome-only Γ f (size Γ f) ((walk Γ f).cost + (end.cost + 0)) end.answer 0 e).1

  module _ (by : Direction) (one : OneBinding by) where
    -- from some budget on the finish answers, and whatever it answers at any budget is the outcome
    pub outcome-found : (t : Bench) → Leaves Γ f by t → Exact (λ _. U) (λ o. o ≡ outcome Γ f) (finish Γ (walked Γ f).row (walked Γ f).slots t)
    unfolding start
    outcome-found t run =
        let w = every-run by one (size Γ f) (walked Γ f).ops (empty Γ f) (long Γ f) (record { tree = λ x. var x; rank = λ x. 0; fits = λ x l. absurd (omega arith) }) (safe Γ f).0 (omega arith) ((walk Γ f).cost + 0) (walk Γ f).answer 0 ((walk Γ f).enough 0) t run in
        let n : (walk Γ f).answer.count ≡ 0 + size Γ f = (walk Γ f).holds.counted in
        let G : Good t.count (node_at t.words t.count) = subst (λ (k : ℕ). Good k (node_at t.words k)) (sym w.0) w.2.good' in
        let m = w.0 in
        exact-map (λ _ u. u) (λ o h. sym (finished-one (walk Γ f).answer t w.2 w.0 w.1 Γ (walked Γ f).row (walked Γ f).slots end.answer o end.holds h) ∙ end-outcome)
        (finish-exact t G Γ (walked Γ f).row (walked Γ f).slots (found-asked Γ (λ x r. r < t.count) f (λ x r l e. (let q = (safe Γ f).1 x r e in omega arith)))
        (subst (λ (k : ℕ). SlotsIn k (walked Γ f).slots) (sym n ∙ sym w.0) (safe Γ f).2))
