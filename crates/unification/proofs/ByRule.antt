-- The theorems of specs/ByRule.antt, whose head says what they give: `tells-run`, `run-tells`.
use Prim.Native.Nat.{ℕ, zero, suc, ◌+◌, ◌<◌}
use Rattle.std.specs.Prelude.{◌≡◌, ◌≢◌, Bool, eqb}
use Rattle.std.proofs.Math.Path.{refl, ap, subst}
use Rattle.std.proofs.Common.{sym, ◌∙◌, eq-eqb, ne_eqb}
use Rattle.std.proofs.Math.Bool.{true, false}
use native.Mathlib.Omega.{arith}
use Rattle.std.proofs.Math.Decide.{ℕ_discrete}
use Rattle.meter.specs.Meter.{Out, spent, halt, done, broken, M, ret, tick, on, ◌>>=◌, at_e, reading}
use Rattle.unification.specs.Arena.{Node, Words, U, merge_at, choose, occurs, Verdict, unified, mismatch, circular, Meeting, bindLeft, bindRight, agree, clash, down, both, meet, Answer, bound, assign, next, unify}
use Rattle.unification.specs.Tasks.{arrive, Task, same, two, task_of, take_up, perform, arrive-left}
use Rattle.unification.proofs.Tasks.{unify_tasks}
use Rattle.unification.specs.Code.{read_done, read-spent, read-halt}
use Rattle.unification.proofs.CodeLaws.{unify-left}
use Rattle.unification.specs.ByRule.{Priced, priced_eq, priced_ret, priced_at, priced_bind, ends, Follows, follows_run, outcome, priced_tick, priced_stop, breaks, Apart, Occurs, occurs-run, told, End, Tells, left_out, right-out, equal, agrees, clashes, binds_left, circles_left, breaks-left, binds_right, circles_right, breaks-right, powers, left-ends, halves, Told, Sought, run-occurs, Led, led}

priced_reading : {E A : Type 0} (e : E) {m : M U A} {a : A} {c : ℕ} → Priced m (λ r. done a r) c → Priced (reading e m) (λ r. done a r) c
priced_reading e {m} {a} {c} x = record { from = λ r. read_done e m (c + r) a r (x.from r); short = λ b l. (e, read-spent e m b (x.short b l).1) }

broken_reading : {E A : Type 0} (e : E) {m : M U A} {c : ℕ} → Priced m (λ r. halt broken tt) c → Priced (reading e m) (λ r. halt broken e) c
broken_reading e {m} {c} x = record { from = λ r. read-halt e m (c + r) broken (x.from r); short = λ b l. (e, read-spent e m b (x.short b l).1) }

module _ (n : ℕ) where
  ask : ℕ × Node → ℕ × Node → M U Task
  ask o u = choose (eqb o.0 u.0) (ret same) (ret (task_of o.0 u.0 (meet o.1 u.1)))

  takes : (ws : Words) (a b : ℕ) → take_up ws n a b ≡ tick tt (arrive ws n a >>= λ o. arrive ws n b >>= λ u. ask o u)
  unfolding take_up ask
  takes ws a b = refl

  asks-same : (o u : ℕ × Node) → o.0 ≡ u.0 → Priced (ask o u) (λ r. done same r) 0
  unfolding ask choose
  asks-same o u e = priced_eq (ap (λ (c : Bool). choose c (ret same) (ret (task_of o.0 u.0 (meet o.1 u.1)))) (eq-eqb o.0 u.0 e)) (priced_ret same)

  asks_task : (o u : ℕ × Node) → o.0 ≢ u.0 → Priced (ask o u) (λ r. done (task_of o.0 u.0 (meet o.1 u.1)) r) 0
  unfolding ask choose
  asks_task o u e = priced_eq (ap (λ (c : Bool). choose c (ret same) (ret (task_of o.0 u.0 (meet o.1 u.1)))) (ne_eqb o.0 u.0 e)) (priced_ret _)

  module _ (ws : Words) (a b : ℕ) where
    both_followed : {c d : ℕ} {o u : ℕ × Node} {j : Task} → Follows ws n a (ends o) c → Follows ws n b (ends u) d → Priced (ask o u) (λ r. done j r) 0 → Priced (take_up ws n a b) (λ r. done j r) (suc (c + d))
    unfolding outcome
    both_followed {c} {d} {o} {u} f g x = priced_eq (takes ws a b) (priced_tick tt (priced_bind (λ o. arrive ws n b >>= λ u. ask o u) (follows_run ws n f) (priced_at (omega arith) (priced_bind (λ u. ask o u) (follows_run ws n g) x))))

    first_out : {c : ℕ} → Follows ws n a breaks c → Priced (take_up ws n a b) (λ r. halt broken tt) (suc c)
    unfolding outcome
    first_out f = priced_eq (takes ws a b) (priced_tick tt (priced_stop (λ o. arrive ws n b >>= λ u. ask o u) (follows_run ws n f)))

    second-out : {c d : ℕ} {o : ℕ × Node} → Follows ws n a (ends o) c → Follows ws n b breaks d → Priced (take_up ws n a b) (λ r. halt broken tt) (suc (c + d))
    unfolding outcome
    second-out {o = o} f g = priced_eq (takes ws a b) (priced_tick tt (priced_bind (λ o. arrive ws n b >>= λ u. ask o u) (follows_run ws n f) (priced_stop (λ u. ask o u) (follows_run ws n g))))

    taken : {c : ℕ} {o u : ℕ × Node} {m : Meeting} → Apart ws n a b o u c → meet o.1 u.1 ≡ m → Priced (take_up ws n a b) (λ r. done (task_of o.0 u.0 m) r) (suc c)
    taken {c} {o} {u} {m} p e = subst (λ (k : Meeting). Priced (take_up ws n a b) (λ r. done (task_of o.0 u.0 k) r) (suc c)) e
        (priced_at (ap suc p.cost) (both_followed p.left p.right (asks_task o u p.apart)))

    carried : {j : Task} {o : ℕ → Out Words Answer} {c d : ℕ} → Priced (take_up ws n a b) (λ r. done j r) (suc c) → Priced (perform (unify n) ws n j) o d → Priced (unify n (ws, a, b)) o (suc (c + d))
    carried {c = c} {d = d} x y = priced_eq (unify_tasks ws n a b) (priced_at {c = suc c + d} {d = suc (c + d)} (omega arith) (priced_bind (perform (unify n) ws n) (priced_reading ws x) y))

    refused : {c : ℕ} → Priced (take_up ws n a b) (λ r. halt broken tt) c → Priced (unify n (ws, a, b)) (λ r. halt broken ws) c
    refused x = priced_eq (unify_tasks ws n a b) (priced_stop (perform (unify n) ws n) (broken_reading ws x))

  module _ (ws : Words) (v t d : ℕ) where
    assign_no : Occurs ws n v t (ends false) d → Priced (assign ws n v t) (λ r. done (unified, merge_at ws n v t) r) d
    unfolding outcome assign bound
    assign_no x = priced_at (omega arith) (priced_bind (bound ws n v t) (priced_reading ws (occurs-run ws n v x)) (priced_ret (unified, merge_at ws n v t)))

    assign_yes : Occurs ws n v t (ends true) d → Priced (assign ws n v t) (λ r. done (circular, ws) r) d
    unfolding outcome assign bound
    assign_yes x = priced_at (omega arith) (priced_bind (bound ws n v t) (priced_reading ws (occurs-run ws n v x)) (priced_ret (circular, ws)))

    assign-breaks : Occurs ws n v t breaks d → Priced (assign ws n v t) (λ r. halt broken ws) d
    unfolding outcome assign
    assign-breaks x = priced_stop (bound ws n v t) (broken_reading ws (occurs-run ws n v x))

  left-only : (ws ws' : Words) (x z y w d : ℕ) (e : End Verdict) → e ≢ ends unified → Priced (unify n (ws, x, z)) (told e ws') d → Priced (perform (unify n) ws n (two x z y w)) (told e ws') d
  unfolding perform told next
  left-only ws ws' x z y w d (ends unified) h q = absurd (h refl)
  left-only ws ws' x z y w d (ends mismatch) h q = priced_at (omega arith) (priced_bind (λ o. next (unify n) y w o.0 o.1) q (priced_ret (mismatch, ws')))
  left-only ws ws' x z y w d (ends circular) h q = priced_at (omega arith) (priced_bind (λ o. next (unify n) y w o.0 o.1) q (priced_ret (circular, ws')))
  left-only ws ws' x z y w d breaks h q = priced_stop (λ o. next (unify n) y w o.0 o.1) q

  -- a derivation's price, at every budget
  pub tells-run : {ws ws' : Words} {a b c : ℕ} {e : End Verdict} → Tells merge_at n ws a b e ws' c → Priced (unify n (ws, a, b)) (told e ws') c
  unfolding told perform task_of next
  tells-run (left_out {ws} {a} {b} f) = refused ws a b (first_out ws a b f)
  tells-run (right-out {ws} {a} {b} f g) = refused ws a b (second-out ws a b f g)
  tells-run (equal {ws} {a} {b} {o = o} {u = u} f g e) = priced_at (omega arith) (carried ws a b (both_followed ws a b f g (asks-same o u e)) (priced_ret (unified, ws)))
  tells-run (agrees {ws} {a} {b} p e) = priced_at (omega arith) (carried ws a b (taken ws a b p e) (priced_ret (unified, ws)))
  tells-run (clashes {ws} {a} {b} p e) = priced_at (omega arith) (carried ws a b (taken ws a b p e) (priced_ret (mismatch, ws)))
  tells-run (binds_left {ws} {a} {b} {d = d} {o = o} {u = u} p e x) = carried ws a b (taken ws a b p e) (assign_no ws o.0 u.0 d x)
  tells-run (circles_left {ws} {a} {b} {d = d} {o = o} {u = u} p e x) = carried ws a b (taken ws a b p e) (assign_yes ws o.0 u.0 d x)
  tells-run (breaks-left {ws} {a} {b} {d = d} {o = o} {u = u} p e x) = carried ws a b (taken ws a b p e) (assign-breaks ws o.0 u.0 d x)
  tells-run (binds_right {ws} {a} {b} {d = d} {o = o} {u = u} p e x) = carried ws a b (taken ws a b p e) (assign_no ws u.0 o.0 d x)
  tells-run (circles_right {ws} {a} {b} {d = d} {o = o} {u = u} p e x) = carried ws a b (taken ws a b p e) (assign_yes ws u.0 o.0 d x)
  tells-run (breaks-right {ws} {a} {b} {d = d} {o = o} {u = u} p e x) = carried ws a b (taken ws a b p e) (assign-breaks ws u.0 o.0 d x)
  tells-run (powers {ws} {a = a} {b = b} p e x) = carried ws a b (taken ws a b p e) (tells-run x)
  tells-run (left-ends {ws} {ws'} {a} {b} {d = d} {x = x} {y = y} {z = z} {w = w} {e = e} p q k h) = carried ws a b (taken ws a b p q) (left-only ws ws' x z y w d e h (tells-run k))
  tells-run (halves {ws} {a = a} {b = b} {y = y} {w = w} p q k l) = carried ws a b (taken ws a b p q) (priced_bind (λ o. next (unify n) y w o.0 o.1) (tells-run k) (tells-run l))

-- unify
module _ (n : ℕ) where
  abbrev Earlier : ℕ → Type 0
  Earlier β = (k : ℕ) → k < β → (ws : Words) (a b : ℕ) → Told n ws a b (unify n (ws, a, b) k)

  told-power : (ws : Words) (a b x y c : ℕ) (o u : ℕ × Node) → Apart ws n a b o u c → meet o.1 u.1 ≡ down x y → (q : Out Words Answer) → Told n ws x y q → Told n ws a b q
  told-power ws a b x y c o u p e (spent f) h = tt
  told-power ws a b x y c o u p e (halt w f) h = (h.0, (suc (c + h.1.0), powers p e h.1.1))
  told-power ws a b x y c o u p e (done z s) h = (suc (c + h.0), powers p e h.1)

  told-right : (ws ws' : Words) (a b x y z w c d : ℕ) (o u : ℕ × Node) → Apart ws n a b o u c → meet o.1 u.1 ≡ both x y z w → Tells merge_at n ws x z (ends unified) ws' d → (q : Out Words Answer) → Told n ws' y w q → Told n ws a b q
  told-right ws ws' a b x y z w c d o u p e g (spent f) h = tt
  told-right ws ws' a b x y z w c d o u p e g (halt i f) h = (h.0, (suc (c + (d + h.1.0)), halves p e g h.1.1))
  told-right ws ws' a b x y z w c d o u p e g (done k s) h = (suc (c + (d + h.0)), halves p e g h.1)

  no_break : ◌≢◌ {A = End Verdict} breaks (ends unified)
  no_break e = let z : ◌≡◌ {A = ℕ} 0 1 = cc in omega arith

  no_mismatch : ◌≢◌ {A = End Verdict} (ends mismatch) (ends unified)
  no_mismatch e = let z : ◌≡◌ {A = ℕ} 0 1 = cc in omega arith

  no_circular : ◌≢◌ {A = End Verdict} (ends circular) (ends unified)
  no_circular e = let z : ◌≡◌ {A = ℕ} 0 1 = cc in omega arith

  module _ (β : ℕ) (rec : Earlier β) (ws : Words) (a b c : ℕ) (o u : ℕ × Node) (p : Apart ws n a b o u c) where
    told-halves : (x y z w m : ℕ) → m < β → meet o.1 u.1 ≡ both x y z w → (q : Out Words Answer) → unify n (ws, x, z) m ≡ q → Told n ws x z q → Told n ws a b (on q (λ k. next (unify n) y w k.0 k.1))
    unfolding on next ret
    told-halves x y z w m l e (spent f) g h = tt
    told-halves x y z w m l e (halt i f) g h = (h.0, (suc (c + h.1.0), left-ends p e h.1.1 no_break))
    told-halves x y z w m l e (done (unified, ws') s) g h = let k = unify-left ws n x z m (unified, ws') s g in told-right ws ws' a b x y z w c h.0 o u p e h.1 (unify n (ws', y, w) s) (rec s (omega arith) ws' y w)
    told-halves x y z w m l e (done (mismatch, ws') s) g h = (suc (c + h.0), left-ends p e h.1 no_mismatch)
    told-halves x y z w m l e (done (circular, ws') s) g h = (suc (c + h.0), left-ends p e h.1 no_circular)

    told-left : meet o.1 u.1 ≡ bindLeft → (q : Out U Bool) → Sought ws n o.0 u.0 q → Told n ws a b (on (at_e ws q) (bound ws n o.0 u.0))
    unfolding on at_e bound ret
    told-left e (spent f) h = tt
    told-left e (halt w f) h = (h.0, (suc (c + h.1.0), breaks-left p e h.1.1))
    told-left e (done true s) h = (suc (c + h.0), circles_left p e h.1)
    told-left e (done false s) h = (suc (c + h.0), binds_left p e h.1)

    told-bind-right : meet o.1 u.1 ≡ bindRight → (q : Out U Bool) → Sought ws n u.0 o.0 q → Told n ws a b (on (at_e ws q) (bound ws n u.0 o.0))
    unfolding on at_e bound ret
    told-bind-right e (spent f) h = tt
    told-bind-right e (halt w f) h = (h.0, (suc (c + h.1.0), breaks-right p e h.1.1))
    told-bind-right e (done true s) h = (suc (c + h.0), circles_right p e h.1)
    told-bind-right e (done false s) h = (suc (c + h.0), binds_right p e h.1)

    told_task : (m : ℕ) → m < β → (k : Meeting) → meet o.1 u.1 ≡ k → Told n ws a b (perform (unify n) ws n (task_of o.0 u.0 k) m)
    unfolding perform task_of assign reading ◌>>=◌ ret
    told_task m l bindLeft e = told-left e (occurs ws n o.0 u.0 m) (run-occurs ws n o.0 u.0 m)
    told_task m l bindRight e = told-bind-right e (occurs ws n u.0 o.0 m) (run-occurs ws n u.0 o.0 m)
    told_task m l agree e = (suc c, agrees p e)
    told_task m l clash e = (suc c, clashes p e)
    told_task m l (down x y) e = told-power ws a b x y c o u p e (unify n (ws, x, y) m) (rec m l ws x y)
    told_task m l (both x y z w) e = told-halves x y z w m l e (unify n (ws, x, z) m) refl (rec m l ws x z)

  module _ (β : ℕ) (rec : Earlier β) (ws : Words) (a b : ℕ) where
    abbrev Then : Out U Task → Type 0
    Then q = Told n ws a b (on (at_e ws q) (perform (unify n) ws n))

    told-ask : (c d : ℕ) (o u : ℕ × Node) → Follows ws n a (ends o) c → Follows ws n b (ends u) d → (m : ℕ) → m < β → Dec (o.0 ≡ u.0) → Then (ask n o u m)
    unfolding ask choose ret on at_e perform
    told-ask c d o u f g m l (yes e) = subst (λ (k : Bool). Then (choose k (ret same) (ret (task_of o.0 u.0 (meet o.1 u.1))) m)) (sym (eq-eqb o.0 u.0 e)) (suc (c + d), equal f g e)
    told-ask c d o u f g m l (no e) = subst (λ (k : Bool). Then (choose k (ret same) (ret (task_of o.0 u.0 (meet o.1 u.1))) m)) (sym (ne_eqb o.0 u.0 e))
        (told_task β rec ws a b (c + d) o u (record { left_cost = c; right_cost = d; left = f; right = g; apart = e; cost = refl }) m l (meet o.1 u.1) refl)

    told-second : (c s : ℕ) (o : ℕ × Node) → s < β → Follows ws n a (ends o) c → (q : Out U (ℕ × Node)) → arrive ws n b s ≡ q → Led ws n b q → Then (on q (λ u. ask n o u))
    unfolding on at_e
    told-second c s o l f (spent e) g h = tt
    told-second c s o l f (halt w e) g h = (h.0, (suc (c + h.1.0), right-out f h.1.1))
    told-second c s o l f (done u m) g h = let k = arrive-left ws n b s u m g in told-ask c h.0 o u f h.1 m (omega arith) (ℕ_discrete o.0 u.0)

    told-first : (k : ℕ) → k < β → (q : Out U (ℕ × Node)) → arrive ws n a k ≡ q → Led ws n a q → Then (on q (λ o. arrive ws n b >>= λ u. ask n o u))
    unfolding on at_e ◌>>=◌
    told-first k l (spent e) g h = tt
    told-first k l (halt w e) g h = (h.0, (suc h.1.0, left_out h.1.1))
    told-first k l (done o s) g h = let j = arrive-left ws n a k o s g in told-second h.0 s o (omega arith) h.1 (arrive ws n b s) refl (led ws n b s)

    told-paid : (k : ℕ) → k ≡ β → Then (tick tt (arrive ws n a >>= λ o. arrive ws n b >>= λ u. ask n o u) k)
    unfolding tick on at_e ◌>>=◌
    told-paid zero e = tt
    told-paid (suc k) e = told-first k (omega arith) (arrive ws n a k) refl (led ws n a k)

  told-upto : (k β : ℕ) → β < k → (ws : Words) (a b : ℕ) → Told n ws a b (unify n (ws, a, b) β)
  unfolding ◌>>=◌ reading
  told-upto zero β l ws a b = absurd (omega arith)
  told-upto (suc k) β l ws a b = subst (λ (m : M Words Answer). Told n ws a b (m β)) (sym (unify_tasks ws n a b ∙ ap (λ (m : M U Task). reading ws m >>= perform (unify n) ws n) (takes n ws a b)))
      (told-paid β (λ c h vs x y. told-upto k c (omega arith) vs x y) ws a b β refl)

  -- on any words: an answer, or a refusal (which is always a broken node), with its derivation
  pub run-tells : (ws : Words) (a b β : ℕ) → Told n ws a b (unify n (ws, a, b) β)
  run-tells ws a b β = told-upto (suc β) β (omega arith) ws a b
