-- Nodes, comparisons and problems: each primitive of the machine runs the piece of the walk that it stands for.
-- After this file `make_of` runs a node, `expect_of` a comparison and `list_of` a problem of the walk's own.
use Rattle.std.specs.Prelude.{ℕ, ◌+◌, ◌≤◌, ◌<◌, ◌≡◌, eqb, ltb}
use Rattle.std.proofs.Math.Path.{refl, sym, ap, ap₂, subst}
use Rattle.std.proofs.Common.{◌∙◌, arith, lt-ltb, eq-eqb}
use mathlib.Core.List.{List, [], ◌∷◌}
use Rattle.std.proofs.Math.Decide.{dec_lt}
use Rattle.std.proofs.Math.ListN.{length}
use Rattle.meter.specs.Meter.{Out, spent, halt, M, ret, fail, on, forget_e, Ends, exact-ends}
use Rattle.meter.specs.Meter as Mt
use Rattle.formula.specs.Environment.{Env}
use Rattle.unification.specs.Arena.{U, Words, decode, Verdict, unified, mismatch, circular, Answer, unify}
use Rattle.unification.specs.Good.{Inside, push_at, length_push}
use Rattle.unification.specs.Make.{build, Builds, make-done, make_full}
use Rattle.unification.specs.Unifies.{Kept, Outcome}
use Rattle.unification.proofs.Unifies.{unify-exact}
use Rattle.unification.specs.Ops.{make, compare, list, Bench, Sound, exec, grow, learn, complain, noted, grown-ready, learnt_ready, complain-ready}
use Rattle.unification.specs.Exec.{grow-count, grow-words, grow-problems, learn-count, learn-words, learn-problems, complain-count, complain-words, complain-problems, noted_unified, noted_mismatch, noted_circular}
use Rattle.unification.proofs.Exec.{exec_nil, exec-made, exec_no_room, exec-compared, exec-listed}
use Rattle.walk.specs.Writer.{Row, node, same, problem}
use Rattle.inference.specs.Answer.{spell_problems}
use Rattle.inference.specs.Finish.{walk_problems}
use Rattle.machine.specs.State.{State}
use Rattle.forms.specs.Forms.{then}
use Rattle.machine.specs.Machine.{Mach, with_st, with_arena, stopped_of, left_of, grown_of, grown_by, make_of, judged_by, settled_by, expect_of, list_of}
use Rattle.simulation.specs.Relation.{Wrote, Stands, Books, Ended, Runs}
use Rattle.machine.specs.Still.{test_yes}
use Rattle.simulation.specs.Stand.{books_as, no_slots}
use Rattle.simulation.specs.Output.{spoken, Spoke, nameless_problem, list_spoke, problems-more}

-- where a piece ends: at p, having come from f; a result stands as the last reference
abbrev pub Came : ℕ → ℕ → ℕ → Mach → Type 0
Came p f r v = (v.st.at.0 ≡ p) × (v.st.from.0 ≡ f) × (v.st.last.0 ≡ r)

abbrev pub Gave : ℕ → ℕ → Mach → Type 0
Gave p r v = (v.st.at.0 ≡ p) × (v.st.last.0 ≡ r)

abbrev pub Stood : {A : Type 0} → ℕ → ℕ → A → Mach → Type 0
Stood p f a v = (v.st.at.0 ≡ p) × (v.st.from.0 ≡ f)

-- the machine after a node
abbrev pub grown : ℕ → List ℕ → Mach → Mach
grown r ws m = record {
  st = record { at = m.st.at; from = m.st.from; last = record { 0 = r }; nodes = r + 1; budget = m.st.budget; slots = m.st.slots; met = m.st.met; bound = m.st.bound; bytes = m.st.bytes; over = m.st.over; stop = m.st.stop };
  arena = ws;
  book = m.book;
  out = m.out;
}

-- the machine after a comparison
abbrev pub paired : ℕ → List ℕ → Mach → Mach
paired l ws m = record {
  st = record { at = m.st.at; from = m.st.from; last = m.st.last; nodes = m.st.nodes; budget = l; slots = m.st.slots; met = m.st.met; bound = m.st.bound; bytes = m.st.bytes; over = m.st.over; stop = m.st.stop };
  arena = ws;
  book = m.book;
  out = m.out;
}

pub stop_of : (n : ℕ) (v : State) → v.stop ≡ 0 → (stopped_of n v).stop ≡ n
unfolding stopped_of
stop_of n v e = ap (λ (w : State). w.stop) (test_yes (eqb v.stop 0) (λ _. record { at = v.at; from = v.from; last = v.last; nodes = v.nodes; budget = v.budget; slots = v.slots; met = v.met; bound = v.bound; bytes = v.bytes; over = v.over; stop = n }) (λ _. v) (eq-eqb v.stop 0 e))

module _ (Γ : Env) (env : List ℕ) (cap room : ℕ) (wide : cap ≤ 32768) where
  -- ---- a node
  module _ (k a b : ℕ) (m : Mach) (e : Builds k a b) where
    made-room : (s : Bench) → Stands Γ env cap room m s → Inside s.count (decode k a b) → s.count < cap → make_of k a b m ≡ grown s.count (push_at s.words s.count k a b) m
    unfolding make_of grown_by grown_of ret then
    made-room s h i l =
        let z = h.sized in
        let w = ap length h.words in
        test_yes (eqb m.st.stop 0) _ _ (eq-eqb m.st.stop 0 h.going)
        ∙ ap₂ (λ (ws : Words) (n : ℕ). grown_by (build ws n (decode k a b) 0) m) h.words h.count
        ∙ ap (λ (f : M Words (ℕ × Words)). grown_by (f 0) m) (e s.words s.count i ∙ make-done s.words s.count k a b (omega arith) (omega arith))
        ∙ ap (λ (v : State). with_st v (with_arena (push_at s.words s.count k a b) m)) (test_yes (eqb m.st.stop 0) _ _ (eq-eqb m.st.stop 0 h.going) ∙ test_yes (ltb s.count 65536) _ _ (lt-ltb s.count 65536 (omega arith)))

    made_full : (s : Bench) → Stands Γ env cap room m s → Inside s.count (decode k a b) → cap ≤ s.count → (make_of k a b m).st.stop ≡ 6
    unfolding make_of grown_by fail then
    made_full s h i l =
        let z = h.sized in
        let w = ap length h.words in
        let c = h.counted in
        ap (λ (x : Mach). x.st.stop) (test_yes (eqb m.st.stop 0) _ _ (eq-eqb m.st.stop 0 h.going)
        ∙ ap₂ (λ (ws : Words) (n : ℕ). grown_by (build ws n (decode k a b) 0) m) h.words h.count
        ∙ ap (λ (f : M Words (ℕ × Words)). grown_by (f 0) m) (e s.words s.count i ∙ make_full s.words s.count k a b (omega arith) (omega arith)))
        ∙ stop_of 6 m.st h.going

    make-by : (B : List ℕ) (s : Bench) (row : Row) → Stands Γ env cap room m s → Books Γ env cap room m row B → Sound s.count (make k a b ∷ []) → Dec (s.count < cap)
        → Ended Γ env cap room m (make_of k a b m) (node k a b s.count row) B (λ r v. Came m.st.at.0 m.st.from.0 r v) (exec cap (make k a b ∷ []) s m.st.budget)
    unfolding node
    make-by B s row h o q (yes l) =
        let z = h.sized in
        let w = ap length h.words in
        let c = grow-count s k a b in
        let run = exec-made cap s [] k a b l m.st.budget ∙ exec_nil cap (grow s k a b) m.st.budget in
        subst (λ (x : Mach). Ended Γ env cap room m x (node k a b s.count row) B (λ r v. Came m.st.at.0 m.st.from.0 r v) (exec cap (make k a b ∷ []) s m.st.budget)) (sym (made-room s h q.0.0 l))
        (subst (λ (y : Out U Bench). Ended Γ env cap room m (grown s.count (push_at s.words s.count k a b) m) (node k a b s.count row) B (λ r v. Came m.st.at.0 m.st.from.0 r v) y) (sym run) (
          record {
            going = h.going;
            count = omega arith;
            words = sym (grow-words s k a b);
            sized = length_push s.words s.count k a b ∙ sym w ∙ z;
            counted = omega arith;
            ready = grown-ready cap s k a b h.ready l q.0.0;
            wrote = subst (λ (ps : List (ℕ × ℕ)). Wrote room (spell_problems (walk_problems ps)) m.st.bytes m.st.over m.out) (sym (grow-problems s k a b)) h.wrote;
          },
          books_as Γ env cap room m (grown s.count (push_at s.words s.count k a b) m) row B refl refl refl o,
          refl,
          no_slots Γ env cap room m (grown s.count (push_at s.words s.count k a b) m) refl refl,
          (refl, refl, refl),
        ))
    make-by B s row h o q (no l) =
        subst (λ (y : Out U Bench). Ended Γ env cap room m (make_of k a b m) (node k a b s.count row) B (λ r v. Came m.st.at.0 m.st.from.0 r v) y)
        (sym (exec_no_room cap s [] k a b (omega arith) m.st.budget))
        (made_full s h q.0.0 (omega arith))

    pub runs_make : (B : List ℕ) → Runs Γ env cap room m (make_of k a b m) (node k a b) B (λ _. B) (λ r v. Came m.st.at.0 m.st.from.0 r v)
    unfolding node
    runs_make B = record { ends = λ s row h o q l. make-by B s row h o q (dec_lt s.count cap) }

  -- ---- a comparison
  module _ (a b p : ℕ) (m : Mach) where
    abbrev After : Mach → Type 0
    After v = Stood {A = U} m.st.at.0 m.st.from.0 tt v

    -- the verdict's problem is written
    judged : (v : Verdict) (x : Mach) (ps : List (ℕ × ℕ)) → x.st.stop ≡ 0 → Wrote room (spell_problems (walk_problems ps)) x.st.bytes x.st.over x.out → Spoke room (spell_problems (walk_problems (noted v p ps))) x (judged_by v p x)
    unfolding judged_by
    judged unified x ps g w = record { bytes = x.st.bytes; over = x.st.over; out = x.out; is = refl; wrote = subst (λ (qs : List (ℕ × ℕ)). Wrote room (spell_problems (walk_problems qs)) x.st.bytes x.st.over x.out) (sym (noted_unified p ps)) w }
    judged mismatch x ps g w = subst (λ (l : List ℕ). Spoke room l x (list_of 0 p 0xFFFF x)) (sym (ap (λ (qs : List (ℕ × ℕ)). spell_problems (walk_problems qs)) (noted_mismatch p ps) ∙ problems-more ps 0 p)) (list_spoke room (nameless_problem 0 p) x (spell_problems (walk_problems ps)) g w)
    judged circular x ps g w = subst (λ (l : List ℕ). Spoke room l x (list_of 1 p 0xFFFF x)) (sym (ap (λ (qs : List (ℕ × ℕ)). spell_problems (walk_problems qs)) (noted_circular p ps) ∙ problems-more ps 1 p)) (list_spoke room (nameless_problem 1 p) x (spell_problems (walk_problems ps)) g w)

    expect_by : (B : List ℕ) (s : Bench) (row : Row) → Stands Γ env cap room m s → Books Γ env cap room m row B → (o : Out Words Answer) → Ends (Kept s.count s.words (λ σ. σ a ≡ σ b)) (Outcome s.count s.words (λ σ. σ a ≡ σ b)) o
        → Ended Γ env cap room m (settled_by o p m) (same a b p s.count row) B (λ _ v. After v) (on (forget_e o) (λ x. exec cap [] (learn s p x)))
    unfolding same settled_by left_of then forget_e on
    expect_by B s row h o (Mt.done x l) k =
        let e : settled_by (Mt.done x l) p m ≡ judged_by x.0 p (paired l x.1 m) =
        ap (λ (v : State). judged_by x.0 p (with_st v (with_arena x.1 m))) (test_yes (eqb m.st.stop 0) _ _ (eq-eqb m.st.stop 0 h.going)) in
        let z = judged x.0 (paired l x.1 m) s.problems h.going h.wrote in
        let n = ap length h.words in
        let c = k.kept.sized in
        let d = h.sized in
        let y : Mach = spoken z.bytes z.over z.out (paired l x.1 m) in
        let u = learn-count s p x in
        let t = learn-words s p x in
        subst (λ (w : Mach). Ended Γ env cap room m w (same a b p s.count row) B (λ _ v. After v) (exec cap [] (learn s p x) l)) (sym (e ∙ z.is))
        (subst (λ (q : Out U Bench). Ended Γ env cap room m y (same a b p s.count row) B (λ _ v. After v) q) (sym (exec_nil cap (learn s p x) l)) (
          record {
            going = h.going;
            count = h.count ∙ sym u;
            words = sym t;
            sized = omega arith;
            counted = subst (λ (n : ℕ). n ≤ cap) (sym u) h.counted;
            ready = learnt_ready cap s a b p x h.ready k.kept;
            wrote = subst (λ (ps : List (ℕ × ℕ)). Wrote room (spell_problems (walk_problems ps)) z.bytes z.over z.out) (sym (learn-problems s p x)) z.wrote;
          },
          books_as Γ env cap room m y row B refl refl refl o,
          refl,
          no_slots Γ env cap room m y refl refl,
          (refl, refl),
        ))
    expect_by B s row h o (spent e) k = stop_of 7 m.st h.going
    expect_by B s row h o (halt w e) k = absurd k

    pub runs_expect : (B : List ℕ) → Runs Γ env cap room m (expect_of a b p m) (same a b p) B (λ _. B) (λ _ v. After v)
    unfolding same expect_of
    runs_expect B = record {
      ends = λ s row h o q l. (
          let x = unify-exact s.count s.words (let r = h.ready.roomy in let c = h.counted in omega arith) h.ready.good a b q.0 q.1 in
          subst (λ (y : Mach). Ended Γ env cap room m y (same a b p s.count row) B (λ _ v. After v) (exec cap (compare a b p ∷ []) s m.st.budget))
          (sym (test_yes (eqb m.st.stop 0) _ _ (eq-eqb m.st.stop 0 h.going) ∙ ap₂ (λ (n : ℕ) (ws : Words). settled_by (unify n (ws, a, b) m.st.budget) p m) h.count h.words))
          (subst (λ (u : Out U Bench). Ended Γ env cap room m (settled_by (unify s.count (s.words, a, b) m.st.budget) p m) (same a b p s.count row) B (λ _ v. After v) u) (sym (exec-compared cap s [] a b p m.st.budget))
          (expect_by B s row h o (unify s.count (s.words, a, b) m.st.budget) (exact-ends x m.st.budget))));
    }

  -- ---- a problem of the walk's own
  pub runs_list : (q p : ℕ) (m : Mach) (B : List ℕ) → Runs Γ env cap room m (list_of q p 0xFFFF m) (problem q p) B (λ _. B) (λ _ v. Stood {A = U} m.st.at.0 m.st.from.0 tt v)
  unfolding problem
  runs_list q p m B = record {
    ends = λ s row h o u l. (
        let z = list_spoke room (nameless_problem q p) m (spell_problems (walk_problems s.problems)) h.going h.wrote in
        let y : Mach = spoken z.bytes z.over z.out m in
        let run = exec-listed cap s [] q p m.st.budget ∙ exec_nil cap (complain s q p) m.st.budget in
        let c = complain-count s q p in
        subst (λ (w : Mach). Ended Γ env cap room m w (problem q p s.count row) B (λ _ v. Stood {A = U} m.st.at.0 m.st.from.0 tt v) (exec cap (list q p ∷ []) s m.st.budget)) (sym z.is)
        (subst (λ (x : Out U Bench). Ended Γ env cap room m y (problem q p s.count row) B (λ _ v. Stood {A = U} m.st.at.0 m.st.from.0 tt v) x) (sym run) (
          record {
            going = h.going;
            count = h.count ∙ sym c;
            words = h.words ∙ sym (complain-words s q p);
            sized = h.sized;
            counted = subst (λ (n : ℕ). n ≤ cap) (sym c) h.counted;
            ready = complain-ready cap s q p h.ready;
            wrote = subst (λ (l : List ℕ). Wrote room l z.bytes z.over z.out) (sym (ap (λ (ps : List (ℕ × ℕ)). spell_problems (walk_problems ps)) (complain-problems s q p) ∙ problems-more s.problems q p)) z.wrote;
          },
          books_as Γ env cap room m y row B refl refl refl o,
          refl,
          no_slots Γ env cap room m y refl refl,
          (refl, refl),
        )));
  }
