-- The theorems of specs/Exec.antt, whose head says what they give: `exec_nil`, `exec_unpaid`, `exec-paid`, `exec-made`, `exec_no_room`,
-- `exec-compared`, `exec-listed`, `exec-counts`.
use Rattle.std.specs.Prelude.{ℕ, zero, suc, ◌+◌, ◌≤◌, ◌<◌, ◌≡◌, Bool, List, [], ◌∷◌}
use Rattle.std.proofs.Math.Path.{refl, ap}
use Rattle.std.proofs.Common.{sym, subst, arith, lt-ltb, le-ltb}
use Rattle.std.proofs.Math.Decide.{dec_lt}
use Rattle.meter.specs.Meter.{Out, spent, halt, done, full, ret, fail, tick, on, ◌>>=◌, forget_e, forget}
use Rattle.unification.specs.Arena.{U, choose, Answer, unify}
use Rattle.unification.specs.Ops.{Op, pay, make, compare, list, Bench, grow, learn, complain, exec, nodes}
use Rattle.unification.specs.Exec.{Counts, learn-count, grow-count, complain-count}

-- ---- the first operation
module _ (cap : ℕ) (s : Bench) where
  pub exec_nil : (β : ℕ) → exec cap [] s β ≡ done s β
  unfolding exec ret
  exec_nil β = refl

  module _ (os : List Op) where
    pub exec_unpaid : exec cap (pay ∷ os) s 0 ≡ spent tt
    unfolding exec tick
    exec_unpaid = refl

    pub exec-paid : (β : ℕ) → exec cap (pay ∷ os) s (suc β) ≡ exec cap os s β
    unfolding exec tick
    exec-paid β = refl

    pub exec-made : (k a b : ℕ) → s.count < cap → (β : ℕ) → exec cap (make k a b ∷ os) s β ≡ exec cap os (grow s k a b) β
    unfolding exec choose
    exec-made k a b l β = ap (λ (c : Bool). choose c (exec cap os (grow s k a b)) (fail full tt) β) (lt-ltb s.count cap l)

    pub exec_no_room : (k a b : ℕ) → cap ≤ s.count → (β : ℕ) → exec cap (make k a b ∷ os) s β ≡ halt full tt
    unfolding exec choose fail
    exec_no_room k a b l β = ap (λ (c : Bool). choose c (exec cap os (grow s k a b)) (fail full tt) β) (le-ltb s.count cap l)

    pub exec-compared : (a b p β : ℕ) → exec cap (compare a b p ∷ os) s β ≡ on (forget_e (unify s.count (s.words, a, b) β)) (λ o. exec cap os (learn s p o))
    unfolding exec ◌>>=◌ forget
    exec-compared a b p β = refl

    pub exec-listed : (q p β : ℕ) → exec cap (list q p ∷ os) s β ≡ exec cap os (complain s q p) β
    unfolding exec
    exec-listed q p β = refl

-- the first operation leaves t, and the rest is run from there
recount : (os qs : List Op) (s t : Bench) → t.count + nodes os ≡ s.count + nodes qs → (o : Out U Bench) → Counts os t o → Counts qs s o
recount os qs s t e (done s' r) h = omega arith
recount os qs s t e (spent x) h = tt
recount os qs s t e (halt w x) h = tt

module _ (cap : ℕ) where
  compared : (a b p : ℕ) (os : List Op) (s : Bench) → ((o : Answer) (β : ℕ) → Counts os (learn s p o) (exec cap os (learn s p o) β)) → (o : Out U Answer) → Counts (compare a b p ∷ os) s (on o (λ x. exec cap os (learn s p x)))
  unfolding on
  compared a b p os s h (done x r) = let e = learn-count s p x in recount os (compare a b p ∷ os) s (learn s p x) (omega arith) (exec cap os (learn s p x) r) (h x r)
  compared a b p os s h (spent e) = tt
  compared a b p os s h (halt w e) = tt

  made : (k a b : ℕ) (os : List Op) (s : Bench) (β : ℕ) → Counts os (grow s k a b) (exec cap os (grow s k a b) β) → Dec (s.count < cap) → Counts (make k a b ∷ os) s (exec cap (make k a b ∷ os) s β)
  made k a b os s β h (yes l) =
      let e = grow-count s k a b in
      subst (λ (o : Out U Bench). Counts (make k a b ∷ os) s o) (sym (exec-made cap s os k a b l β)) (recount os (make k a b ∷ os) s (grow s k a b) (omega arith) (exec cap os (grow s k a b) β) h)
  made k a b os s β h (no l) = subst (λ (o : Out U Bench). Counts (make k a b ∷ os) s o) (sym (exec_no_room cap s os k a b (omega arith) β)) tt

  pub exec-counts : (os : List Op) (s : Bench) (β : ℕ) → Counts os s (exec cap os s β)
  exec-counts [] s β = subst (λ (o : Out U Bench). Counts [] s o) (sym (exec_nil cap s β)) (omega arith)
  exec-counts (pay ∷ os) s zero = subst (λ (o : Out U Bench). Counts (pay ∷ os) s o) (sym (exec_unpaid cap s os)) tt
  exec-counts (pay ∷ os) s (suc β) = subst (λ (o : Out U Bench). Counts (pay ∷ os) s o) (sym (exec-paid cap s os β)) (recount os (pay ∷ os) s s refl (exec cap os s β) (exec-counts os s β))
  exec-counts (make k a b ∷ os) s β = made k a b os s β (exec-counts os (grow s k a b) β) (dec_lt s.count cap)
  exec-counts (compare a b p ∷ os) s β =
      subst (λ (o : Out U Bench). Counts (compare a b p ∷ os) s o) (sym (exec-compared cap s os a b p β))
      (compared a b p os s (λ o. exec-counts os (learn s p o)) (forget_e (unify s.count (s.words, a, b) β)))
  exec-counts (list q p ∷ os) s β =
      let e = complain-count s q p in
      subst (λ (o : Out U Bench). Counts (list q p ∷ os) s o) (sym (exec-listed cap s os q p β))
      (recount os (list q p ∷ os) s (complain s q p) (omega arith) (exec cap os (complain s q p) β) (exec-counts os (complain s q p) β))
