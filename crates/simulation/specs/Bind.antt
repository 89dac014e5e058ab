-- Pieces one after the other: where the machine runs the first and then the second, it runs both.
-- After this file `runs_bind` serves every sequence of the walk; `slots_join` serves where slots alone follow each other.
use Rattle.std.specs.Prelude.{ℕ, suc, ◌+◌, ◌*◌, ◌≤◌, ◌<◌, ◌≡◌, List, [], ◌∷◌, ◌++◌, get_or}
use Rattle.std.proofs.Common.{sym, ◌∙◌, arith}
use Rattle.std.proofs.Math.Path.{ap, subst}
use Rattle.std.proofs.Math.ListN.{length, length-append}
use Rattle.meter.specs.Meter.{Out, spent, halt, done, broken, full, M, on}
use Rattle.meter.specs.Meter as Mt
use Rattle.formula.specs.Environment.{Env}
use Rattle.unification.specs.Arena.{U}
use Rattle.unification.specs.Ops.{Bench, Sound, sound-split, nodes, exec}
use Rattle.unification.proofs.Ops.{exec-append}
use Rattle.unification.specs.Exec.{Counts}
use Rattle.unification.proofs.Exec.{exec-counts}
use Rattle.walk.specs.Writer.{Row, Walk, W, glue, ◌>>=◌}
use Rattle.machine.specs.Machine.{Mach, cell}
use Rattle.simulation.specs.Relation.{Slots, Filled, Ended, Runs}

module _ (Γ : Env) (env : List ℕ) (cap room : ℕ) where
  -- slots of two pieces
  filled_join : (book : List ℕ) (k : ℕ) (ss ts : List (ℕ × ℕ)) → Filled Γ env cap room book k ss → Filled Γ env cap room book (k + length ss) ts → Filled Γ env cap room book k (ss ++ ts)
  filled_join book k [] ts h g = let e : k + 0 ≡ k = omega arith in subst (λ (j : ℕ). Filled Γ env cap room book j ts) e g
  filled_join book k (s ∷ ss) ts h g =
      let e : k + suc (length ss) ≡ suc k + length ss = omega arith in
      (h.0, h.1, filled_join book (suc k) ss ts h.2 (subst (λ (j : ℕ). Filled Γ env cap room book j ts) e g))

  filled-kept : (book book' : List ℕ) (k : ℕ) (ss : List (ℕ × ℕ)) → ((i : ℕ) → i < 2 * (k + length ss) → get_or book' i 0 ≡ get_or book i 0) → Filled Γ env cap room book k ss → Filled Γ env cap room book' k ss
  filled-kept book book' k [] e h = tt
  filled-kept book book' k (s ∷ ss) e h =
      (e (cell 0 2 k 0) (omega arith) ∙ h.0, e (cell 0 2 k 1) (omega arith) ∙ h.1, filled-kept book book' (suc k) ss (λ i l. e i (omega arith)) h.2)

  pub slots_join : (m m1 m2 : Mach) (ss ts : List (ℕ × ℕ)) → Slots Γ env cap room m m1 ss → Slots Γ env cap room m1 m2 ts → Slots Γ env cap room m m2 (ss ++ ts)
  slots_join m m1 m2 ss ts h g =
      let l = length-append ss ts in
      let e = h.taken in
      let f = g.taken in
      record {
        taken = omega arith;
        filled = filled_join m2.book m.st.slots ss ts
            (filled-kept m1.book m2.book m.st.slots ss (λ i q. g.kept i (omega arith)) h.filled)
            (subst (λ (j : ℕ). Filled Γ env cap room m2.book j ts) e g.filled);
        kept = λ i q. g.kept i (omega arith) ∙ h.kept i q;
      }

  -- the second piece's end is the end of both
  widened : {A C : Type 0} (m m1 m2 : Mach) (x : Walk A) (y : Walk C) (B : List ℕ) (Q : C → Mach → Type 0) → Slots Γ env cap room m m1 x.slots → (o : Out U Bench)
      → Ended Γ env cap room m1 m2 y B Q o → Ended Γ env cap room m m2 (glue x y) B Q o
  unfolding glue
  widened m m1 m2 x y B Q z (done b r) h = (h.0, h.1, h.2, slots_join m m1 m2 x.slots y.slots z h.3, h.4)
  widened m m1 m2 x y B Q z (spent e) h = h
  widened m m1 m2 x y B Q z (halt full e) h = h
  widened m m1 m2 x y B Q z (halt broken e) h = h

  module _ {A C : Type 0} (m m1 m2 : Mach) (w : W A) (k : A → W C) (B : List ℕ) (B1 : A → List ℕ) (B2 : C → List ℕ) (Q1 : A → Mach → Type 0) (Q2 : C → Mach → Type 0)
      (through : (m1.st.stop ≡ 0 → ⊥) → m2.st.stop ≡ m1.st.stop)
      (g : (a : A) → Q1 a m1 → Runs Γ env cap room m1 m2 (k a) (B1 a) B2 Q2) where
    stopped-at : (n : ℕ) → (n ≡ 0 → ⊥) → m1.st.stop ≡ n → m2.st.stop ≡ n
    stopped-at n z e = through (λ q. z (sym e ∙ q)) ∙ e

    after : (b : Bench) (row : Row) (x : Walk A) (o : Out U Bench) → Counts x.ops b o
        → Ended Γ env cap room m m1 x (B1 x.result) Q1 o
        → Sound (b.count + nodes x.ops) (k x.result (b.count + nodes x.ops) x.row).ops
        → m.st.slots + length (x.slots ++ (k x.result (b.count + nodes x.ops) x.row).slots) ≤ 1024
        → Ended Γ env cap room m m2 (glue x (k x.result (b.count + nodes x.ops) x.row)) (B2 (k x.result (b.count + nodes x.ops) x.row).result) Q2
        (on o (exec cap (k x.result (b.count + nodes x.ops) x.row).ops))
    unfolding on
    after b row x (spent e) c h s l = stopped-at 7 (λ z. omega arith) h
    after b row x (halt full e) c h s l = stopped-at 6 (λ z. omega arith) h
    after b row x (halt broken e) c h s l = absurd h
    after b row x (done b1 r) c h s l =
        let y : Walk C = k x.result (b.count + nodes x.ops) x.row in
        let e : b1.count ≡ b.count + nodes x.ops = c in
        let t = h.3.taken in
        let j = length-append x.slots y.slots in
        let f = subst (λ (n : ℕ). Sound n (k x.result n x.row).ops → m1.st.slots + length (k x.result n x.row).slots ≤ 1024
        → Ended Γ env cap room m1 m2 (k x.result n x.row) (B2 (k x.result n x.row).result) Q2 (exec cap (k x.result n x.row).ops b1 m1.st.budget))
        e ((g x.result h.4).ends b1 x.row h.0 h.1) in
        widened m m1 m2 x y (B2 y.result) Q2 h.3 (exec cap y.ops b1 r)
        (subst (λ (n : ℕ). Ended Γ env cap room m1 m2 y (B2 y.result) Q2 (exec cap y.ops b1 n)) h.2 (f s (omega arith)))

    pub runs_bind : Runs Γ env cap room m m1 w B B1 Q1 → Runs Γ env cap room m m2 (w >>= k) B B2 Q2
    unfolding ◌>>=◌ glue Mt.◌>>=◌
    runs_bind h = record {
      ends = λ b row s o q l. (
          let x : Walk A = w b.count row in
          let y : Walk C = k x.result (b.count + nodes x.ops) x.row in
          let z = sound-split b.count x.ops y.ops q in
          let j = length-append x.slots y.slots in
          let e = ap (λ (f : M U Bench). f m.st.budget) (exec-append cap x.ops y.ops b) in
          subst (λ (u : Out U Bench). Ended Γ env cap room m m2 (glue x y) (B2 y.result) Q2 u) (sym e)
          (after b row x (exec cap x.ops b m.st.budget) (exec-counts cap x.ops b m.st.budget) (h.ends b row s o z.0 (omega arith)) z.1 l));
    }
