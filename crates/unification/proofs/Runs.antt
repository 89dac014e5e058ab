-- The theorems of specs/Runs.antt, whose head says what they give: `some-run`, `every-run`.
use Prim.Native.Nat.{ℕ, zero, suc, ◌+◌, ◌*◌, ◌≤◌, ◌<◌}
use Rattle.std.specs.Prelude.{◌≡◌, refl, List, [], ◌∷◌, length}
use Rattle.std.proofs.Common.{sym, ◌∙◌, subst}
use Rattle.std.proofs.Math.Path.{ap}
use native.Mathlib.Omega.{arith}
use Rattle.std.proofs.Math.Decide.{dec_lt}
use Rattle.meter.specs.Meter.{Out, spent, halt, done, on, forget_e}
use Rattle.unification.specs.Arena.{Node, decode, Words, U, node_at, Direction, merge_at, left_bound, Verdict, Answer, unify}
use Rattle.unification.specs.Good.{Assignment, Says, Good, Inside, good_push, push_keeps, push_takes, push_at, length_push, node_push_new, node_push_old}
use Rattle.unification.specs.Unifies.{Allows}
use Rattle.unification.specs.Ops.{Op, pay, make, compare, list, Bench, noted, grow, learn, complain, exec, nodes, Sound}
use Rattle.unification.proofs.Exec.{exec_nil, exec_unpaid, exec-paid, exec-made, exec_no_room, exec-compared, exec-listed}
use Rattle.unification.specs.ByRule.{ends, Tells, told, Told}
use Rattle.unification.proofs.ByRule.{tells-run, run-tells}
use Rattle.unification.specs.BothWays.{two_ranks, left_bound_words}
use Rattle.unification.proofs.BothWays.{as_the_rust}
use Rattle.unification.specs.Shapes.{Same, same_refl, same_sym}
use Rattle.unification.specs.Direction.{OneBinding}
use Rattle.unification.proofs.Direction.{merge_binds, tells-outcome, follows_suit}
use Rattle.unification.specs.Runs.{Runs, ended, paid, made, compared, listed, over}

-- ---- a node made on both sides
module _ (n : ℕ) (ws us : Words) (k a b : ℕ) (S : Same n ws us) (r : 3 * suc n ≤ length ws) (r' : 3 * suc n ≤ length us) (i : Inside n (decode k a b)) where
  pushed-good : (vs : Words) → 3 * suc n ≤ length vs → Good n (node_at vs n) → Good (suc n) (node_at (push_at vs n k a b) (suc n))
  pushed-good vs s G = good_push n (node_at vs n) (node_at (push_at vs n k a b) (suc n)) (node_push_old vs n k a b s) G (subst (λ (d : Node). Inside n d) (sym (node_push_new vs n k a b s)) i)

  pushed-to : (vs vs' : Words) → 3 * suc n ≤ length vs → 3 * suc n ≤ length vs' → ((σ : Assignment) → Allows n vs σ → Allows n vs' σ) → (σ : Assignment) → Allows (suc n) (push_at vs n k a b) σ → Allows (suc n) (push_at vs' n k a b) σ
  pushed-to vs vs' s s' f σ A =
      let p = push_keeps n (node_at vs n) (node_at (push_at vs n k a b) (suc n)) (node_push_old vs n k a b s) σ A in
      let q : Says σ n (decode k a b) = subst (λ (d : Node). Says σ n d) (node_push_new vs n k a b s) p.1 in
      push_takes n (node_at vs' n) (node_at (push_at vs' n k a b) (suc n)) (node_push_old vs' n k a b s') σ (f σ p.0) (subst (λ (d : Node). Says σ n d) (sym (node_push_new vs' n k a b s')) q)

  same-made : Same (suc n) (push_at ws n k a b) (push_at us n k a b)
  same-made = record {
    roomy = rw (length_push ws n k a b) r;
    roomy' = rw (length_push us n k a b) r';
    good = pushed-good ws r S.good;
    good' = pushed-good us r' S.good';
    to = pushed-to ws us r r' S.to;
    from = pushed-to us ws r' r S.from;
  }

-- ---- what runs by one direction runs by another: the same count and problems, and words that admit the same
module _ (by by' : Direction) (one : OneBinding by) (one' : OneBinding by') where
  pub runs_too : {os : List Op} {s t : Bench} → Runs by os s t → (us : Words) → Same s.count s.words us → Sound s.count os → 3 * (s.count + nodes os) ≤ length s.words → 3 * (s.count + nodes os) ≤ length us
      → (us' : Words) × Runs by' os (over s us) (over t us') × Same t.count t.words us'
  unfolding grow learn complain
  runs_too ended us S w r r' = (us, ended, S)
  runs_too (paid x) us S w r r' = let z = runs_too x us S w r r' in (z.0, paid z.1, z.2)
  runs_too (made {k = k} {a = a} {b = b} {s = s} x) us S w r r' =
      let p = length_push s.words s.count k a b in
      let p' = length_push us s.count k a b in
      let z = runs_too x (push_at us s.count k a b) (same-made s.count s.words us k a b S (omega arith) (omega arith) w.0.0) w.1 (omega arith) (omega arith) in
      (z.0, made z.1, z.2)
  runs_too (compared {a = a} {b = b} {s = s} d x) us S w r r' =
      let h = tells-outcome by one s.count S.roomy S.good w.0 w.1 d in
      let y = follows_suit by by' one one' s.count d us S a b w.0 w.1 w.0 w.1 (λ σ A. refl) (λ σ A. refl) in
      let h' = tells-outcome by' one' s.count S.roomy' S.good' w.0 w.1 y.told in
      let e = h.kept.sized in
      let e' = h'.kept.sized in
      let z = runs_too x y.words y.same w.2 (omega arith) (omega arith) in
      (z.0, compared y.told z.1, z.2)
  runs_too (listed x) us S w r r' = let z = runs_too x us S w r r' in (z.0, listed z.1, z.2)

-- ---- what is run to its end is a run in this unifier's direction, and the other way round
module _ (cap : ℕ) where
  abbrev Ran : List Op → Bench → Out U Bench → Type 0
  Ran os s (spent e) = Unit {0}
  Ran os s (halt w e) = Unit {0}
  Ran os s (done t r) = Runs merge_at os s t

  ran-paid : (os : List Op) (s : Bench) (o : Out U Bench) → Ran os s o → Ran (pay ∷ os) s o
  ran-paid os s (spent e) h = tt
  ran-paid os s (halt w e) h = tt
  ran-paid os s (done t r) h = paid h

  ran-made : (k a b : ℕ) (os : List Op) (s : Bench) (o : Out U Bench) → Ran os (grow s k a b) o → Ran (make k a b ∷ os) s o
  ran-made k a b os s (spent e) h = tt
  ran-made k a b os s (halt w e) h = tt
  ran-made k a b os s (done t r) h = made h

  ran-listed : (q p : ℕ) (os : List Op) (s : Bench) (o : Out U Bench) → Ran os (complain s q p) o → Ran (list q p ∷ os) s o
  ran-listed q p os s (spent e) h = tt
  ran-listed q p os s (halt w e) h = tt
  ran-listed q p os s (done t r) h = listed h

  ran-compared : (a b p : ℕ) (os : List Op) (s : Bench) (c : ℕ) (v : Verdict) (ws : Words) → Tells merge_at s.count s.words a b (ends v) ws c → (o : Out U Bench) → Ran os (learn s p (v, ws)) o → Ran (compare a b p ∷ os) s o
  ran-compared a b p os s c v ws d (spent e) h = tt
  ran-compared a b p os s c v ws d (halt w e) h = tt
  ran-compared a b p os s c v ws d (done t r) h = compared d h

  ran-after : (a b p : ℕ) (os : List Op) (s : Bench) → ((t : Bench) (β : ℕ) → Ran os t (exec cap os t β)) → (o : Out Words Answer) → Told s.count s.words a b o → Ran (compare a b p ∷ os) s (on (forget_e o) (λ x. exec cap os (learn s p x)))
  unfolding on forget_e
  ran-after a b p os s rec (spent e) h = tt
  ran-after a b p os s rec (halt w e) h = tt
  ran-after a b p os s rec (done (v, ws) r) h = ran-compared a b p os s h.0 v ws h.1 (exec cap os (learn s p (v, ws)) r) (rec (learn s p (v, ws)) r)

  ran-make : (k a b : ℕ) (os : List Op) (s : Bench) (β : ℕ) → ((t : Bench) (β : ℕ) → Ran os t (exec cap os t β)) → Dec (s.count < cap) → Ran (make k a b ∷ os) s (exec cap (make k a b ∷ os) s β)
  ran-make k a b os s β rec (yes l) = subst (λ (o : Out U Bench). Ran (make k a b ∷ os) s o) (sym (exec-made cap s os k a b l β)) (ran-made k a b os s (exec cap os (grow s k a b) β) (rec (grow s k a b) β))
  ran-make k a b os s β rec (no l) = subst (λ (o : Out U Bench). Ran (make k a b ∷ os) s o) (sym (exec_no_room cap s os k a b (omega arith) β)) tt

  ran : (os : List Op) (s : Bench) (β : ℕ) → Ran os s (exec cap os s β)
  ran [] s β = subst (λ (o : Out U Bench). Ran [] s o) (sym (exec_nil cap s β)) ended
  ran (pay ∷ os) s zero = subst (λ (o : Out U Bench). Ran (pay ∷ os) s o) (sym (exec_unpaid cap s os)) tt
  ran (pay ∷ os) s (suc β) = subst (λ (o : Out U Bench). Ran (pay ∷ os) s o) (sym (exec-paid cap s os β)) (ran-paid os s (exec cap os s β) (ran os s β))
  ran (make k a b ∷ os) s β = ran-make k a b os s β (ran os) (dec_lt s.count cap)
  ran (compare a b p ∷ os) s β =
      subst (λ (o : Out U Bench). Ran (compare a b p ∷ os) s o) (sym (exec-compared cap s os a b p β)) (ran-after a b p os s (ran os) (unify s.count (s.words, a, b) β) (run-tells s.count s.words a b β))
  ran (list q p ∷ os) s β = subst (λ (o : Out U Bench). Ran (list q p ∷ os) s o) (sym (exec-listed cap s os q p β)) (ran-listed q p os s (exec cap os (complain s q p) β) (ran os (complain s q p) β))

  pub exec_runs : (os : List Op) (s : Bench) (β : ℕ) (t : Bench) (r : ℕ) → exec cap os s β ≡ done t r → Runs merge_at os s t
  exec_runs os s β t r e = subst (λ (o : Out U Bench). Ran os s o) e (ran os s β)

  -- a run of this unifier's has its price
  abbrev Price : List Op → Bench → Bench → Type 0
  Price os s t = (c : ℕ) × ((r : ℕ) → exec cap os s (c + r) ≡ done t r)

  pub runs_exec : {os : List Op} {s t : Bench} → Runs merge_at os s t → s.count + nodes os ≤ cap → (c : ℕ) × ((r : ℕ) → exec cap os s (c + r) ≡ done t r)
  unfolding grow learn complain told on forget_e
  runs_exec (ended {s = s}) l = (0, λ r. exec_nil cap s (0 + r) ∙ ap (done s) (omega arith))
  runs_exec (paid {os = os} {s = s} x) l = let z = runs_exec x l in (suc z.0, λ r. (let e : suc z.0 + r ≡ suc (z.0 + r) = omega arith in ap (exec cap (pay ∷ os) s) e ∙ exec-paid cap s os (z.0 + r) ∙ z.1 r))
  runs_exec (made {k = k} {a = a} {b = b} {os = os} {s = s} x) l = let z = runs_exec x (omega arith) in (z.0, λ r. exec-made cap s os k a b (omega arith) (z.0 + r) ∙ z.1 r)
  runs_exec (compared {a = a} {b = b} {p = p} {c = c} {v = v} {ws = ws} {os = os} {s = s} d x) l =
      let z = runs_exec x l in
      let q = tells-run s.count d in (
        c + z.0,
        λ r. (
            let e : c + z.0 + r ≡ c + (z.0 + r) = omega arith in
            ap (exec cap (compare a b p ∷ os) s) e ∙ exec-compared cap s os a b p (c + (z.0 + r)) ∙ ap (λ (o : Out Words Answer). on (forget_e o) (λ o. exec cap os (learn s p o))) (q.from (z.0 + r)) ∙ z.1 r),
      )
  runs_exec (listed {q = q} {p = p} {os = os} {s = s} x) l = let z = runs_exec x l in (z.0, λ r. exec-listed cap s os q p (z.0 + r) ∙ z.1 r)

  -- so there is one
  runs_once : (os : List Op) (s : Bench) → s.count + nodes os ≤ cap → (t t' : Bench) → Runs merge_at os s t → Runs merge_at os s t' → t ≡ t'
  runs_once os s l t t' x y =
      let z = runs_exec x l in
      let w = runs_exec y l in
      let e : z.0 + w.0 ≡ w.0 + z.0 = omega arith in
      let q : done t w.0 ≡ done t' z.0 = sym (z.1 w.0) ∙ ap (exec cap os s) e ∙ w.1 z.0 in
      cc

-- ---- KEY: whichever way unknowns are bound
module _ (by : Direction) (one : OneBinding by) (cap : ℕ) (os : List Op) (s : Bench) (roomy : 3 * cap ≤ length s.words) (good : Good s.count (node_at s.words s.count)) (sound : Sound s.count os) (fit : s.count + nodes os ≤ cap)
    (β : ℕ) (t : Bench) (r : ℕ) (e : exec cap os s β ≡ done t r) where
  start : Same s.count s.words s.words
  start = same_refl (omega arith) good

  -- the list runs
  pub some-run : (us : Words) × Runs by os s (over t us)
  some-run = let z = runs_too merge_at by merge_binds one (exec_runs cap os s β t r e) s.words start sound (omega arith) (omega arith) in (z.0, z.1)

  -- and however it runs, the problems are these, and the arena admits what this one admits
  pub every-run : (t' : Bench) → Runs by os s t' → (t'.count ≡ t.count) × (t'.problems ≡ t.problems) × Same t.count t.words t'.words
  every-run t' x =
      let z = runs_too by merge_at one merge_binds x s.words start sound (omega arith) (omega arith) in
      let q : over t' z.0 ≡ t = runs_once cap os s fit (over t' z.0) t z.1 (exec_runs cap os s β t r e) in
      let c : t'.count ≡ t.count = ap (λ (b : Bench). b.count) q in
      let w : z.0 ≡ t.words = ap (λ (b : Bench). b.words) q in
      (c, ap (λ (b : Bench). b.problems) q, same_sym (subst (λ (n : ℕ). Same n t'.words t.words) c (subst (λ (us : Words). Same t'.count t'.words us) w z.2)))

-- ---- a list of one comparison, in the Rust's direction: the left unknown is bound
abbrev bench : Words → Bench
bench ws = record { count = 2; words = ws; problems = [] }

pub left-run : Runs left_bound (compare 0 1 7 ∷ []) (bench two_ranks) (bench left_bound_words)
unfolding learn noted
left-run = compared as_the_rust ended
