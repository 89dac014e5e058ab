-- The end of a walk that the machine took: from its bench and books to the answer's number, bytes and what is left of the budget.
-- After this file a reader knows, for the machine at the end of a formula's walk, how the finish and the writing end, outcome by outcome of
-- inference's `finish`; and that a bench which the walk's operations reach is one they ran to.
use Rattle.std.specs.Prelude.{ℕ, ◌+◌, ◌-◌, ◌*◌, ◌≤◌, ◌<◌, Bool, true, false}
use Rattle.std.proofs.Math.Path.{◌≡◌, refl, subst}
use Rattle.std.proofs.Common.{sym, ◌∙◌, ap, inl, arith}
use mathlib.Core.List.{List, [], ◌++◌}
use Rattle.std.proofs.Math.Decide.{dec_lt}
use Rattle.std.proofs.Math.ListN.{length}
use Rattle.meter.specs.Meter.{Out, spent, halt, done, broken, full, on, ◌>>=◌, within_le, Ends, exact-ends, exact-done, Halts}
use Rattle.types.specs.Ty.{Ty, Below}
use Rattle.formula.specs.Environment.{holds, Env, spell_entries}
use Rattle.formula.specs.Tree.{Formula}
use Rattle.formula_laws.specs.Fits.{FitsFormula}
use Rattle.unification.specs.Arena.{Words, U}
use Rattle.unification.specs.Trees.{var}
use Rattle.unification.specs.Ops.{Bench, Ready, Sound, Ran, nodes, exec}
use Rattle.unification.proofs.Ops.{exec_metered, exec-exact, exec_full}
use Rattle.walk.specs.Walk.{walked}
use Rattle.walk.specs.Safe.{RowIn, SlotsIn}
use Rattle.walk.proofs.Safe.{safe-formula}
use Rattle.walk.specs.Whole.{none_found}
use Rattle.walk.specs.Verdict.{start}
use Rattle.inference.specs.Answer.{Problem, spell_problems, spell_slots}
use Rattle.inference.specs.Finish.{names, Outcome, typed, failed, finish}
use Rattle.inference.proofs.Rows.{found-asked}
use Rattle.inference.proofs.Conclude.{finish-exact}
use Rattle.inference.specs.Conclude as C
use Rattle.inference.specs.Infer.{concluded}
use Rattle.inference.proofs.Memory.{concluded_anywhere}
use Rattle.machine.specs.Machine.{Mach}
use Rattle.finisher.specs.Finisher.{most, finish_of, write_answer_of}
use Rattle.simulation.specs.Relation.{Wrote, Stands, Listed, Filled}
use Rattle.simulation.specs.Whole as S
use Rattle.conclusion.specs.Tests.{Stood}
use Rattle.conclusion.specs.Finish.{Finished, finish-ends, clean_yes, finish_stops}
use Rattle.conclusion.specs.Written.{written-ends}
use Rattle.conclusion.specs.Given.{walked_slims, walked_row}
use Rattle.conclusion.specs.Narrow.{finished_narrow}

-- ---- the walk's operations, done, were run
module _ (Γ : Env) (f : Formula) where
  safe : Sound 0 (walked Γ f).ops × RowIn (0 + nodes (walked Γ f).ops) (walked Γ f).row × SlotsIn (0 + nodes (walked Γ f).ops) (walked Γ f).slots × Unit {0}
  unfolding walked
  safe = (safe-formula Γ f).safe 0 (omega arith) [] (λ x r e. absurd (none_found x r e))

  module _ (cap : ℕ) (ws : Words) (long : 3 * cap ≤ length ws) where
    ready : Ready cap (start ws)
    unfolding start
    ready = record { roomy = long; good = record { tree = λ x. var x; rank = λ x. 0; fits = λ x l. absurd (omega arith) } }

    never_done : (budget : ℕ) (b : Bench) (r c : ℕ) → Halts (exec cap (walked Γ f).ops (start ws)) full tt c → exec cap (walked Γ f).ops (start ws) budget ≡ done b r → Dec (budget < c) → ⊥
    never_done budget b r c h e (yes l) = let y : ◌≡◌ {A = Out U Bench} (spent (h.short budget l).0) (done b r) = sym (h.short budget l).1 ∙ e in let z : ◌≡◌ {A = ℕ} 0 1 = cc in omega arith
    never_done budget b r c h e (no l) =
        let p : budget ≡ c + (budget - c) = omega arith in
        let y : ◌≡◌ {A = Out U Bench} (halt full tt) (done b r) = sym (ap (exec cap (walked Γ f).ops (start ws)) p ∙ h.from (budget - c)) ∙ e in
        let z : ◌≡◌ {A = ℕ} 0 1 = cc in omega arith

    ran-by : (budget : ℕ) (b : Bench) (r : ℕ) → exec cap (walked Γ f).ops (start ws) budget ≡ done b r → Dec (cap < nodes (walked Γ f).ops) → Ran cap (start ws) (walked Γ f).ops b
    unfolding start
    ran-by budget b r e (yes l) =
        let z = exec_full cap (walked Γ f).ops (start ws) ready safe.0 (omega arith) (omega arith) in
        absurd (never_done budget b r z.0 z.1 e (dec_lt budget z.0))
    ran-by budget b r e (no l) = exact-done (exec-exact cap (walked Γ f).ops (start ws) ready safe.0 (omega arith)) budget b r e

    -- where they end with a bench, every law of running speaks of it
    pub walked-ran : (budget : ℕ) (b : Bench) (r : ℕ) → exec cap (walked Γ f).ops (start ws) budget ≡ done b r → Ran cap (start ws) (walked Γ f).ops b
    walked-ran budget b r e = ran-by budget b r e (dec_lt cap (nodes (walked Γ f).ops))

-- ---- how the machine ends: x after the finish, y after the writing
-- nothing listed, and the types written
pub record Answering (room : ℕ) (es ts : List (ℕ × Ty)) (r : ℕ) (x y : Mach) : Type 0 where
  pub going : x.st.stop ≡ 0
  pub inside : x.st.over ≡ false
  pub none : x.st.bytes ≡ 0
  pub gone : y.st.stop ≡ 0
  pub left : y.st.budget ≡ r
  pub wrote : Wrote room (spell_entries es ++ spell_slots ts) y.st.bytes y.st.over y.out

-- problems listed
pub record Listing (room : ℕ) (ps : List Problem) (r : ℕ) (x : Mach) : Type 0 where
  pub going : x.st.stop ≡ 0
  pub some : x.st.over ≡ false → x.st.bytes ≡ 0 → ⊥
  pub left : x.st.budget ≡ r
  pub wrote : Wrote room (spell_problems ps) x.st.bytes x.st.over x.out

abbrev pub Concludes : ℕ → Mach → Mach → Out U Outcome → Type 0
Concludes room x y (done (typed es ts) r) = Answering room es ts r x y
Concludes room x y (done (failed ps) r) = Listing room ps r x
Concludes room x y (spent e) = x.st.stop ≡ 7
Concludes room x y (halt full e) = x.st.stop ≡ 6
Concludes room x y (halt broken e) = ⊥

-- a machine that stands after bytes, field by field
stood-going : (room : ℕ) (m : Mach) (P : List ℕ) (r : ℕ) (x : Mach) → m.st.stop ≡ 0 → Stood room m P r x → x.st.stop ≡ 0
stood-going room m P r x g z = ap (λ (y : Mach). y.st.stop) z.is ∙ g

stood-left : (room : ℕ) (m : Mach) (P : List ℕ) (r : ℕ) (x : Mach) → Stood room m P r x → x.st.budget ≡ r
stood-left room m P r x z = ap (λ (y : Mach). y.st.budget) z.is

stood-wrote : (room : ℕ) (m : Mach) (P : List ℕ) (r : ℕ) (x : Mach) → Stood room m P r x → Wrote room P x.st.bytes x.st.over x.out
stood-wrote room m P r x z = subst (λ (y : Mach). Wrote room P y.st.bytes y.st.over y.out) (sym z.is) z.wrote

not_both : {A : Type 0} → ◌≡◌ {A = Bool} true false → A
not_both e = let z : ◌≡◌ {A = ℕ} 0 1 = cc in absurd (omega arith)

module _ (Γ : Env) (env : List ℕ) (cap room N : ℕ) (f : Formula) (small : N ≤ 65536) (low : (x : ℕ) (t : Ty) → Γ x ≡ holds t → Below N t) (fits : FitsFormula N f) where
  module _ (m : Mach) (b : Bench) (s : Stands Γ env cap room m b) (met : m.st.met ≡ length (names Γ (walked Γ f).row)) (rows : Listed Γ env cap room m.book 0 (names Γ (walked Γ f).row))
      (u : m.st.slots ≡ length (walked Γ f).slots) (fl : Filled Γ env cap room m.book 0 (walked Γ f).slots) (within : m.st.budget ≤ most) (size : ℕ) (ws : Words) (ran : Ran size (start ws) (walked Γ f).ops b) where
    abbrev ended_so : Out U Outcome
    ended_so = finish Γ (walked Γ f).row (walked Γ f).slots b m.st.budget

    -- the finish over this bench ends, and what it says is so
    exact : Ends (λ _. U) (C.Finished b Γ (walked Γ f).row (walked Γ f).slots) ended_so
    unfolding start
    exact =
        let c : b.count ≡ 0 + nodes (walked Γ f).ops = ran.counted in
        exact-ends (finish-exact b ran.ready.good Γ (walked Γ f).row (walked Γ f).slots
        (found-asked Γ (λ x r. r < b.count) f (λ x r l e. (let q = (safe Γ f).1 x r e in omega arith)))
        (subst (λ (n : ℕ). SlotsIn n (walked Γ f).slots) (sym c) (safe Γ f).2)) m.st.budget

    by : (o : Out U Outcome) → ended_so ≡ o → Ends (λ _. U) (C.Finished b Γ (walked Γ f).row (walked Γ f).slots) o
        → Finished Γ env cap room m b (walked Γ f).row (walked Γ f).slots s met rows u fl (finish_of m) o → Concludes room (finish_of m) (write_answer_of (finish_of m)) o
    by (done (typed es ts) r) e h z =
        let n = finished_narrow N small Γ size ws (walked Γ f).ops b (walked Γ f).row (walked Γ f).slots ran (walked_slims N Γ low f fits) (walked_row N Γ low f fits) es ts h in
        let w = written-ends Γ env cap room m b (walked Γ f).row (walked Γ f).slots s met rows u fl es ts r within e n.0 n.1 in
        let i = (stood-wrote room m [] r _ z.1).inside (omega arith) in
        record { going = stood-going room m [] r _ s.going z.1; inside = i.0; none = i.1; gone = stood-going room m _ r _ s.going w; left = stood-left room m _ r _ w; wrote = stood-wrote room m _ r _ w }
    by (done (failed ps) r) e h z = record {
      going = stood-going room m _ r _ s.going z.1;
      some = λ o n. not_both (sym (clean_yes (finish_of m).st o n) ∙ z.0);
      left = stood-left room m _ r _ z.1;
      wrote = stood-wrote room m _ r _ z.1;
    }
    by (spent x) e h z = z
    by (halt w x) e h z = absurd h

    -- the machine's end is the outcome's
    pub finish-concludes : Concludes room (finish_of m) (write_answer_of (finish_of m)) (finish Γ (walked Γ f).row (walked Γ f).slots b m.st.budget)
    finish-concludes = by ended_so refl exact (finish-ends Γ env cap room m b (walked Γ f).row (walked Γ f).slots s met rows u fl)

  -- ---- the whole: m before the walk, m' after it
  module _ (m m' : Mach) (within : m.st.budget ≤ most) (none : m.st.slots ≡ 0) (long : 3 * cap ≤ length m.arena) where
    after : (o : Out U Bench) → exec cap (walked Γ f).ops (start m.arena) m.st.budget ≡ o → S.Finished Γ env cap room m m' (walked Γ f) o
        → Concludes room (finish_of m') (write_answer_of (finish_of m')) (on o (finish Γ (walked Γ f).row (walked Γ f).slots))
    unfolding on
    after (done b r) e h =
        let l : r ≤ m.st.budget = within_le m.st.budget ((exec_metered cap (walked Γ f).ops (start m.arena)).within m.st.budget) b r e in
        let q : m'.st.budget ≡ r = h.2 in
        let t : m'.st.slots ≡ length (walked Γ f).slots = (let y = h.3.taken in omega arith) in
        subst (λ (i : ℕ). Concludes room (finish_of m') (write_answer_of (finish_of m')) (finish Γ (walked Γ f).row (walked Γ f).slots b i)) q
        (finish-concludes m' b h.0 h.1.met h.1.rows t (subst (λ (i : ℕ). Filled Γ env cap room m'.book i (walked Γ f).slots) none h.3.filled) (omega arith) cap m.arena
        (walked-ran Γ f cap m.arena long m.st.budget b r e))
    after (spent x) e h = finish_stops m' 7 h (λ z. (let y : ◌≡◌ {A = ℕ} 7 0 = z in omega arith))
    after (halt full x) e h = finish_stops m' 6 h (λ z. (let y : ◌≡◌ {A = ℕ} 6 0 = z in omega arith))
    after (halt broken x) e h = absurd h

    -- where the walk ends as its operations end, the finish and the writing end as inference's conclusion
    pub concludes : S.Finished Γ env cap room m m' (walked Γ f) (exec cap (walked Γ f).ops (start m.arena) m.st.budget)
        → Concludes room (finish_of m') (write_answer_of (finish_of m')) (concluded cap Γ f m.st.budget)
    unfolding ◌>>=◌
    concludes h = subst (λ (o : Out U Outcome). Concludes room (finish_of m') (write_answer_of (finish_of m')) o) (concluded_anywhere Γ f cap m.arena (inl long) m.st.budget)
        (after (exec cap (walked Γ f).ops (start m.arena) m.st.budget) refl h)
