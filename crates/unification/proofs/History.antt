-- The theorems of specs/History.antt, whose head says what they give: `asked_admitted`, `admitted_asked`, `failed-none`.
use Rattle.std.specs.Prelude.{ℕ, suc, ◌*◌, ◌≤◌, ◌<◌, ◌≡◌, length}
use Rattle.std.proofs.Common.{sym, ◌∙◌, ap, subst, inl, inr, arith}
use Rattle.std.proofs.Math.Decide.{dec_lt}
use Rattle.meter.specs.Meter.{Out, spent, halt, done, Ends, exact-ends}
use Rattle.unification.specs.Arena.{Node, Words, node_at, unified, Answer, unify}
use Rattle.unification.specs.Good.{Assignment, Says, Admits, Good, push_keeps, push_takes, push_at, node_push_new, node_push_old}
use Rattle.unification.specs.Unifies.{Kept, Outcome}
use Rattle.unification.proofs.Unifies.{unify-exact}
use Rattle.unification.specs.Laws.{after, Reached, empty, made, called}
use Rattle.unification.proofs.Laws.{outside, reached-whole, unify_success, unify_failure}
use Rattle.unification.specs.History.{Asks, AllUnified, after-done, SomeFailed}

takes-ends : (n : ℕ) (ws : Words) (E : Assignment → Type 0) (o : Out Words Answer) → Ends (Kept n ws E) (Outcome n ws E) o → (σ : Assignment) → Admits n (node_at ws n) σ → E σ → Admits n (node_at (after o) n) σ
unfolding after
takes-ends n ws E (spent e) k = k.takes
takes-ends n ws E (halt c e) k = absurd k
takes-ends n ws E (done o r) k = k.kept.takes

called-takes : (n : ℕ) (ws : Words) (a b β : ℕ) → (3 * n ≤ length ws) × Good n (node_at ws n) → Dec (a < n) → Dec (b < n) → (σ : Assignment) → Admits n (node_at ws n) σ → σ a ≡ σ b → Admits n (node_at (after (unify n (ws, a, b) β)) n) σ
called-takes n ws a b β w (yes al) (yes bl) = takes-ends n ws (λ σ. σ a ≡ σ b) (unify n (ws, a, b) β) (exact-ends (unify-exact n ws w.0 w.1 a b al bl) β)
called-takes n ws a b β w (yes al) (no bl) = λ σ A q. rw (outside ws n a b β (inr (omega arith))) A
called-takes n ws a b β w (no al) (yes bl) = λ σ A q. rw (outside ws n a b β (inl (omega arith))) A
called-takes n ws a b β w (no al) (no bl) = λ σ A q. rw (outside ws n a b β (inl (omega arith))) A

-- what the history asks, the arena admits, also where a budget was spent or a comparison failed on the way
pub asked_admitted : {n : ℕ} {ws : Words} (R : Reached n ws) (σ : Assignment) → Asks R σ → Admits n (node_at ws n) σ
asked_admitted (empty ws) σ q = λ x l. absurd (omega arith)
asked_admitted (made {n = n} {ws = ws} k a b i s r) σ q = push_takes n (node_at ws n) (node_at (push_at ws n k a b) (suc n)) (node_push_old ws n k a b s) σ (asked_admitted r σ q.0)
    (subst (λ (d : Node). Says σ n d) (sym (node_push_new ws n k a b s)) q.1)
asked_admitted (called {n = n} {ws = ws} a b β r) σ q = called-takes n ws a b β (reached-whole r) (dec_lt a n) (dec_lt b n) σ (asked_admitted r σ q.0) q.1

-- where every comparison succeeded, the arena admits just what was asked
pub admitted_asked : {n : ℕ} {ws : Words} (R : Reached n ws) → AllUnified R → (σ : Assignment) → Admits n (node_at ws n) σ → Asks R σ
admitted_asked (empty ws) h σ A = tt
admitted_asked (made {n = n} {ws = ws} k a b i s r) h σ A =
    let p = push_keeps n (node_at ws n) (node_at (push_at ws n k a b) (suc n)) (node_push_old ws n k a b s) σ A in
    (admitted_asked r h σ p.0, subst (λ (d : Node). Says σ n d) (node_push_new ws n k a b s) p.1)
admitted_asked (called {n = n} {ws = ws} a b β r) h σ A =
    let e = h.1.2 in
    let B : Admits n (node_at h.1.0 n) σ = subst (λ (l : Words). Admits n (node_at l n) σ) (ap after e ∙ after-done (unified, h.1.0) h.1.1) A in
    let p = (unify_success r a b h.1.3 h.1.4 β h.1.1 h.1.0 e σ).0 B in
    (admitted_asked r h.0 σ p.0, p.1)

-- where one failed, nothing meets what was asked
pub failed-none : {n : ℕ} {ws : Words} (R : Reached n ws) → SomeFailed R → (σ : Assignment) → Asks R σ → ⊥
failed-none (empty ws) h σ q = h
failed-none (made k a b i s r) h σ q = failed-none r h σ q.0
failed-none (called a b β r) (inl h) σ q = failed-none r h σ q.0
failed-none (called a b β r) (inr h) σ q = unify_failure r a b h.5 h.6 β h.2 h.0 h.1 h.3 h.4 σ (asked_admitted r σ q.0) q.1
