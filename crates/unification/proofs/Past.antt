-- The theorems of specs/Past.antt, whose head says what they give: `reached-alike`, `retold`.
use Prim.Native.Nat.{ℕ, suc, ◌+◌, ◌*◌, ◌-◌, ◌≤◌, ◌<◌}
use Rattle.std.specs.Prelude.{◌≡◌, ◌++◌, take, drop}
use Rattle.std.proofs.Math.Path.{sym, ap}
use Rattle.std.proofs.Common.{◌∙◌, ap₂, subst, inl, inr, ext_get_or}
use native.Mathlib.Omega.{arith}
use Rattle.std.proofs.Math.Decide.{dec_lt}
use Rattle.std.proofs.Math.ListN.{length, get_or, length-append, length-drop, get_or-append}
use Rattle.std.proofs.Math.Seq.{length-take-le, get_or-take, get_or-drop, get_or-append-add}
use Rattle.meter.specs.Meter.{Out, done}
use Rattle.unification.specs.Arena.{Words, Verdict, unified, Answer, unify}
use Rattle.unification.specs.Good.{push_at, length_push, push_word}
use Rattle.unification.specs.Laws.{after, Reached, empty, made, called}
use Rattle.unification.proofs.Laws.{reached-whole}
use Rattle.unification.specs.History.{AllUnified, SomeFailed}
use Rattle.unification.specs.Frame.{Alike, Like, like_spent, like_halt, like_done, Beside, Answers, push_both, push_past}
use Rattle.unification.proofs.Frame.{unify-alike}
use Rattle.unification.specs.Past.{Retold}

-- the counted words of ws, then what lies past them in us
unfoldable joined : ℕ → Words → Words → Words
joined n ws us = take (3 * n) ws ++ drop (3 * n) us

module _ (n : ℕ) (ws us : Words) (l : 3 * n ≤ length ws) (m : 3 * n ≤ length us) where
  joined_length : length (joined n ws us) ≡ length us
  unfolding joined
  joined_length = let p = length-append (take (3 * n) ws) (drop (3 * n) us) in let q = length-take-le (3 * n) ws l in let r = length-drop (3 * n) us in omega arith

  joined-below : (i : ℕ) → i < 3 * n → get_or ws i 0 ≡ get_or (joined n ws us) i 0
  unfolding joined
  joined-below i q = let z = length-take-le (3 * n) ws l in sym (get_or-append (take (3 * n) ws) (drop (3 * n) us) 0 i (omega arith) ∙ get_or-take (3 * n) ws i 0 q)

  joined-past : (i : ℕ) → 3 * n ≤ i → get_or (joined n ws us) i 0 ≡ get_or us i 0
  unfolding joined
  joined-past i q =
      let z = length-take-le (3 * n) ws l in
      let j : ℕ = i - 3 * n in
      let e : i ≡ length (take (3 * n) ws) + j = omega arith in
      let f : 3 * n + j ≡ i = omega arith in
      ap (λ (k : ℕ). get_or (joined n ws us) k 0) e ∙ get_or-append-add (take (3 * n) ws) (drop (3 * n) us) j 0 ∙ get_or-drop (3 * n) us j 0 ∙ ap (λ (k : ℕ). get_or us k 0) f

  joined-alike : Alike n ws (joined n ws us)
  joined-alike = record { roomy = l; roomy' = rw joined_length m; agrees = joined-below }

-- the words after two comparisons side by side
after-beside : (n : ℕ) (ws us : Words) (o o' : Out Words Answer) → Like (Beside n ws us) (Answers n ws us) o o' → Beside n ws us (after o) (after o')
unfolding after
after-beside n ws us o o' (like_spent h) = h
after-beside n ws us o o' (like_halt h) = h
after-beside n ws us o o' (like_done h) = h.words

-- a node that was made stands in any words alike to its own
module _ (n : ℕ) (ws vs : Words) (k a b : ℕ) (s : 3 * suc n ≤ length ws) (h : Alike (suc n) (push_at ws n k a b) vs) where
  older_alike : Alike n ws vs
  older_alike = let l = h.roomy' in record { roomy = omega arith; roomy' = omega arith; agrees = λ i q. sym (push_word ws n k a b i q) ∙ h.agrees i (omega arith) }

  made_word : (i : ℕ) → Dec (i < 3 * suc n) → get_or (push_at vs n k a b) i 0 ≡ get_or vs i 0
  made_word i (yes l) = sym (push_both ws vs n k a b i s h.roomy' l (older_alike.agrees i)) ∙ h.agrees i l
  made_word i (no l) = push_past vs n k a b i (omega arith)

  made_again : push_at vs n k a b ≡ vs
  made_again = ext_get_or 0 (push_at vs n k a b) vs (length_push vs n k a b) (λ i l. made_word i (dec_lt i (3 * suc n)))

-- a comparison leads to any words alike to those that it left, from words alike to its own
module _ (n : ℕ) (ws vs : Words) (a b β : ℕ) (l : 3 * n ≤ length ws) (h : Alike n (after (unify n (ws, a, b) β)) vs) where
  start-alike : Alike n ws (joined n ws vs)
  start-alike = joined-alike n ws vs l h.roomy'

  both_run : Beside n ws (joined n ws vs) (after (unify n (ws, a, b) β)) (after (unify n (joined n ws vs, a, b) β))
  both_run = after-beside n ws (joined n ws vs) (unify n (ws, a, b) β) (unify n (joined n ws vs, a, b) β) (unify-alike n ws (joined n ws vs) start-alike a b β)

  called-word : (i : ℕ) → Dec (i < 3 * n) → get_or (after (unify n (joined n ws vs, a, b) β)) i 0 ≡ get_or vs i 0
  called-word i (yes q) = sym (both_run.alike.agrees i q) ∙ h.agrees i q
  called-word i (no q) = both_run.stays'.past i (omega arith) ∙ joined-past n ws vs l h.roomy' i (omega arith)

  called-again : after (unify n (joined n ws vs, a, b) β) ≡ vs
  called-again = ext_get_or 0 (after (unify n (joined n ws vs, a, b) β)) vs (both_run.stays'.long ∙ joined_length n ws vs l h.roomy') (λ i q. called-word i (dec_lt i (3 * n)))

-- two comparisons side by side answer the same
same_answer : (n : ℕ) (ws us : Words) (o o' : Out Words Answer) → Like (Beside n ws us) (Answers n ws us) o o' → (v : Verdict) (vs : Words) (left : ℕ) → o ≡ done (v, vs) left → (vs' : Words) × (o' ≡ done (v, vs') left)
same_answer n ws us o o' (like_spent h) v vs left e = let z : ◌≡◌ {A = ℕ} 0 1 = cc in absurd (omega arith)
same_answer n ws us o o' (like_halt h) v vs left e = let z : ◌≡◌ {A = ℕ} 0 1 = cc in absurd (omega arith)
same_answer n ws us o o' (like_done {a = a} {a' = a'} {r = r} h) v vs left e =
    let f : ◌≡◌ {A = Answer} a (v, vs) = cc in
    let g : r ≡ left = cc in
    (a'.1, ap₂ (λ (u : Verdict) (k : ℕ). done (u, a'.1) k) (sym h.verdict ∙ ap (λ (p : Answer). p.0) f) g)

module _ (n : ℕ) (ws : Words) (a b β : ℕ) (r : Reached n ws) (us : Words) (h : Alike n ws us) (t : Retold r us) where
  all-again : AllUnified (called a b β r) → AllUnified (called a b β t.reached)
  all-again q =
      let z = same_answer n ws us (unify n (ws, a, b) β) (unify n (us, a, b) β) (unify-alike n ws us h a b β) unified q.1.0 q.1.1 q.1.2 in
      (t.succeeds q.0, (z.0, q.1.1, z.1, q.1.3, q.1.4))

  some-again : SomeFailed (called a b β r) → SomeFailed (called a b β t.reached)
  some-again (inl q) = inl (t.fails q)
  some-again (inr q) =
      let z = same_answer n ws us (unify n (ws, a, b) β) (unify n (us, a, b) β) (unify-alike n ws us h a b β) q.0 q.1 q.2 q.4 in
      inr (q.0, z.0, q.2, q.3, z.1, q.5, q.6)

  retold_call : Retold (called a b β r) (after (unify n (us, a, b) β))
  retold_call = record {
    reached = called a b β t.reached;
    asks = λ σ. (λ q. ((t.asks σ).0 q.0, q.1), λ q. ((t.asks σ).1 q.0, q.1));
    succeeds = all-again;
    fails = some-again;
  }

-- the same calls
pub retold : {n : ℕ} {ws : Words} (R : Reached n ws) (vs : Words) → Alike n ws vs → Retold R vs
retold (empty ws) vs h = record { reached = empty vs; asks = λ σ. (λ q. q, λ q. q); succeeds = λ q. q; fails = λ q. q }
retold (made {n = n} {ws = ws} k a b i s r) vs h =
    let t = retold r vs (older_alike n ws vs k a b s h) in
    subst (λ (us : Words). Retold (made k a b i s r) us) (made_again n ws vs k a b s h) (record {
      reached = made k a b i h.roomy' t.reached;
      asks = λ σ. (λ q. ((t.asks σ).0 q.0, q.1), λ q. ((t.asks σ).1 q.0, q.1));
      succeeds = t.succeeds;
      fails = t.fails;
    })
retold (called {n = n} {ws = ws} a b β r) vs h =
    let l = (reached-whole r).0 in
    let k = start-alike n ws vs a b β l h in
    subst (λ (us : Words). Retold (called a b β r) us) (called-again n ws vs a b β l h) (retold_call n ws a b β r (joined n ws vs) k (retold r (joined n ws vs) k))

pub reached-alike : {n : ℕ} {ws : Words} → Reached n ws → (vs : Words) → Alike n ws vs → Reached n vs
reached-alike R vs h = (retold R vs h).reached
