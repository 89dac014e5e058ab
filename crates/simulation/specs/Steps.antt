-- Pieces in other clothes: the same operations with another result, a step before a piece, a step after it.
-- After this file a piece of the machine may be read with the moves around it left out.
use Rattle.std.specs.Prelude.{ℕ, ◌+◌, ◌≤◌, ◌≡◌, refl, List, [], ◌∷◌, ◌++◌, length}
use Rattle.std.proofs.Common.{sym, ◌∙◌, ap, ap₂, subst, arith}
use Rattle.meter.specs.Meter.{Out, spent, halt, broken, full}
use Rattle.meter.specs.Meter as Mt
use Rattle.unification.specs.Arena.{U}
use Rattle.formula.specs.Environment.{Env}
use Rattle.unification.specs.Ops.{Op, Bench, Sound, exec}
use Rattle.walk.specs.Writer.{Row, Walk, W, done, glue, ◌>>=◌}
use Rattle.machine.specs.Machine.{Mach, with_st}
use Rattle.simulation.specs.Relation.{Stands, Books, Ended, Runs}
use Rattle.simulation.specs.Bind.{runs_bind}
use Rattle.simulation.specs.Stand.{standing, stands-standing, books_standing}

-- the same piece with another result
unfoldable pub told : {A C : Type 0} → (A → C) → W A → W C
told f w n row = record { ops = (w n row).ops; result = f (w n row).result; row = (w n row).row; slots = (w n row).slots }

pub prior_is : {A C : Type 0} (c : C) (w : W A) (n : ℕ) (row : Row) → (done c >>= λ _. w) n row ≡ w n row
unfolding done ◌>>=◌ glue
prior_is c w n row = let e : n + 0 ≡ n = omega arith in ap (λ (k : ℕ). w k row) e

pub nil_right : {A : Type 0} (l : List A) → l ++ [] ≡ l
nil_right [] = refl
nil_right (x ∷ l) = ap (λ (k : List _). x ∷ k) (nil_right l)

pub past_is : {A : Type 0} (w : W A) (n : ℕ) (row : Row) → (w >>= λ a. done a) n row ≡ w n row
unfolding done ◌>>=◌ glue
past_is w n row = ap₂ (λ (os : List Op) (ss : List (ℕ × ℕ)). record { ops = os; result = (w n row).result; row = (w n row).row; slots = ss }) (nil_right (w n row).ops) (nil_right (w n row).slots)

module _ (Γ : Env) (env : List ℕ) (cap room : ℕ) where
  -- the same piece, otherwise written
  pub runs_same : {A : Type 0} (m m' : Mach) (w w' : W A) (B : List ℕ) (B' : A → List ℕ) (Q : A → Mach → Type 0) → ((n : ℕ) (row : Row) → w n row ≡ w' n row) → Runs Γ env cap room m m' w B B' Q → Runs Γ env cap room m m' w' B B' Q
  runs_same m m' w w' B B' Q e h = record {
    ends = λ b row s o.
        subst (λ (x : Walk _). Sound b.count x.ops → m.st.slots + length x.slots ≤ 1024 → Ended Γ env cap room m m' x (B' x.result) Q (exec cap x.ops b m.st.budget)) (e b.count row) (h.ends b row s o);
  }

  told-ended : {A C : Type 0} (m m' : Mach) (f : A → C) (w : W A) (n : ℕ) (row : Row) (B : List ℕ) (Q : A → Mach → Type 0) (Q' : C → Mach → Type 0) → ((a : A) → Q a m' → Q' (f a) m')
      → (o : Out U Bench) → Ended Γ env cap room m m' (w n row) B Q o → Ended Γ env cap room m m' (told f w n row) B Q' o
  unfolding told
  told-ended m m' f w n row B Q Q' k (Mt.done b r) h = (h.0, h.1, h.2, h.3, k (w n row).result h.4)
  told-ended m m' f w n row B Q Q' k (spent e) h = h
  told-ended m m' f w n row B Q Q' k (halt full e) h = h
  told-ended m m' f w n row B Q Q' k (halt broken e) h = h

  pub runs_told : {A C : Type 0} (m m' : Mach) (f : A → C) (w : W A) (B D : List ℕ) (Q : A → Mach → Type 0) (Q' : C → Mach → Type 0) → ((a : A) → Q a m' → Q' (f a) m') → Runs Γ env cap room m m' w B (λ _. D) Q → Runs Γ env cap room m m' (told f w) B (λ _. D) Q'
  unfolding told
  runs_told m m' f w B D Q Q' k h = record { ends = λ b row s o q l. told-ended m m' f w b.count row D Q Q' k (exec cap (w b.count row).ops b m.st.budget) (h.ends b row s o q l) }

  -- a move before a piece
  rebased : {A : Type 0} (m m' : Mach) (p f r : ℕ) (x : Walk A) (B : List ℕ) (Q : A → Mach → Type 0) (o : Out U Bench) → Ended Γ env cap room (with_st (standing p f r m.st) m) m' x B Q o → Ended Γ env cap room m m' x B Q o
  rebased m m' p f r x B Q (Mt.done b t) h = (h.0, h.1, h.2, record { taken = h.3.taken; filled = h.3.filled; kept = h.3.kept }, h.4)
  rebased m m' p f r x B Q (spent e) h = h
  rebased m m' p f r x B Q (halt full e) h = h
  rebased m m' p f r x B Q (halt broken e) h = h

  pub runs_after : {A : Type 0} (m m1 m' : Mach) (p f r : ℕ) (w : W A) (B : List ℕ) (B' : A → List ℕ) (Q : A → Mach → Type 0)
      → (m.st.stop ≡ 0 → m1 ≡ with_st (standing p f r m.st) m) → (m.st.stop ≡ 0 → Runs Γ env cap room m1 m' w B B' Q) → Runs Γ env cap room m m' w B B' Q
  runs_after m m1 m' p f r w B B' Q e h = record {
    ends = λ b row s o q l. (
        let g = subst (λ (x : Mach). Runs Γ env cap room x m' w B B' Q) (e s.going) (h s.going) in
        rebased m m' p f r (w b.count row) (B' (w b.count row).result) Q (exec cap (w b.count row).ops b m.st.budget)
        (g.ends b row (stands-standing Γ env cap room m b p f r s) (books_standing Γ env cap room m row B p f r o) q l));
  }

  -- a move after a piece
  moved-ended : {A : Type 0} (m m1 m' : Mach) (x : Walk A) (B : List ℕ) (Q Q' : A → Mach → Type 0) → ((m1.st.stop ≡ 0 → ⊥) → m'.st.stop ≡ m1.st.stop)
      → ((a : A) → m1.st.stop ≡ 0 → Q a m1 → (p f r : ℕ) × (m' ≡ with_st (standing p f r m1.st) m1) × Q' a (with_st (standing p f r m1.st) m1))
      → (o : Out U Bench) → Ended Γ env cap room m m1 x B Q o → Ended Γ env cap room m m' x B Q' o
  moved-ended m m1 m' x B Q Q' t k (Mt.done b y) h =
      let z = k x.result h.0.going h.4 in
      subst (λ (n : Mach). Ended Γ env cap room m n x B Q' (Mt.done b y)) (sym z.3)
      (stands-standing Γ env cap room m1 b z.0 z.1 z.2 h.0, books_standing Γ env cap room m1 x.row B z.0 z.1 z.2 h.1, h.2, record { taken = h.3.taken; filled = h.3.filled; kept = h.3.kept }, z.4)
  moved-ended m m1 m' x B Q Q' t k (spent e) h = t (λ c. (let z : ◌≡◌ {A = ℕ} 0 7 = sym c ∙ h in omega arith)) ∙ h
  moved-ended m m1 m' x B Q Q' t k (halt full e) h = t (λ c. (let z : ◌≡◌ {A = ℕ} 0 6 = sym c ∙ h in omega arith)) ∙ h
  moved-ended m m1 m' x B Q Q' t k (halt broken e) h = absurd h

  pub runs_then : {A : Type 0} (m m1 m' : Mach) (w : W A) (B : List ℕ) (B' : A → List ℕ) (Q Q' : A → Mach → Type 0) → ((m1.st.stop ≡ 0 → ⊥) → m'.st.stop ≡ m1.st.stop)
      → ((a : A) → m1.st.stop ≡ 0 → Q a m1 → (p f r : ℕ) × (m' ≡ with_st (standing p f r m1.st) m1) × Q' a (with_st (standing p f r m1.st) m1))
      → Runs Γ env cap room m m1 w B B' Q → Runs Γ env cap room m m' w B B' Q'
  runs_then m m1 m' w B B' Q Q' t k h = record { ends = λ b row s o q l. moved-ended m m1 m' (w b.count row) (B' (w b.count row).result) Q Q' t k (exec cap (w b.count row).ops b m.st.budget) (h.ends b row s o q l) }

  -- what the machine and its books say before a piece may be used for it
  pub runs_given : {A : Type 0} (m m' : Mach) (w : W A) (B : List ℕ) (B' : A → List ℕ) (Q : A → Mach → Type 0) → ((b : Bench) (row : Row) → Stands Γ env cap room m b → Books Γ env cap room m row B → Runs Γ env cap room m m' w B B' Q) → Runs Γ env cap room m m' w B B' Q
  runs_given m m' w B B' Q h = record { ends = λ b row s o. (h b row s o).ends b row s o }

  -- a step with no operations before a piece
  pub runs_prior : {A C : Type 0} (m m1 m2 : Mach) (c : C) (w : W A) (B D : List ℕ) (B' : A → List ℕ) (Q1 : C → Mach → Type 0) (Q : A → Mach → Type 0) → ((m1.st.stop ≡ 0 → ⊥) → m2.st.stop ≡ m1.st.stop)
      → Runs Γ env cap room m m1 (done c) B (λ _. D) Q1 → ((a : C) → Q1 a m1 → Runs Γ env cap room m1 m2 w D B' Q) → Runs Γ env cap room m m2 w B B' Q
  runs_prior m m1 m2 c w B D B' Q1 Q t h g =
      runs_same m m2 (done c >>= λ _. w) w B B' Q (prior_is c w) (runs_bind Γ env cap room m m1 m2 (done c) (λ _. w) B (λ _. D) B' Q1 Q t g h)
