-- The theorems of specs/Carry.antt, whose head says what they give: `unify_carries`.
use Prim.Native.Nat.{ℕ, zero, suc, ◌<◌}
use Rattle.std.specs.Prelude.{◌≡◌, ◌≢◌, Bool, eqb}
use Rattle.std.proofs.Math.Path.{refl}
use Rattle.std.proofs.Common.{sym}
use Rattle.std.proofs.Math.Bool.{true, false}
use Rattle.std.proofs.lemmas.Bool.{eqb-false}
use Rattle.meter.specs.Meter.{Out, spent, halt, done, M, ret, tick, on, ◌>>=◌, at_e, reading, iter, run}
use Rattle.unification.specs.Arena.{free, Words, U, node_at, merge_at, choose, resolve, occurs, Verdict, unified, mismatch, circular, Meeting, bindLeft, bindRight, agree, clash, down, both, meet, Pair, Answer, bound, assign, next, meeting, unify_at, unify_f, unify}
use Rattle.unification.specs.Good.{Root}
use Rattle.unification.specs.Frame.{left-unknown, right-unknown}
use Rattle.unification.specs.Laws.{after}
use Rattle.unification.specs.Carry.{resolved_root, resolved_inside}

module _ (n : ℕ) (P : Words → Type 0) (step : (ws : Words) → P ws → (v t : ℕ) → v < n → t < n → v ≢ t → node_at ws n v ≡ free → Root (node_at ws n t) → P (merge_at ws n v t)) where
  abbrev Keeps : Out Words Answer → Type 0
  Keeps (spent e) = P e
  Keeps (halt c e) = P e
  Keeps (done o r) = P o.1

  keeps_on : (k : Answer → M Words Answer) → ((a : Answer) (r : ℕ) → P a.1 → Keeps (k a r)) → (o : Out Words Answer) → Keeps o → Keeps (on o k)
  unfolding on
  keeps_on k g (spent e) h = h
  keeps_on k g (halt c e) h = h
  keeps_on k g (done a r) h = g a r h

  keeps-read : {A : Type 0} (ws : Words) → P ws → (k : A → M Words Answer) (q o : Out U A) → q ≡ o → ((a : A) (r : ℕ) → q ≡ done a r → Keeps (k a r)) → Keeps (on (at_e ws o) k)
  unfolding on at_e
  keeps-read ws h k q (spent e) eq g = h
  keeps-read ws h k q (halt c e) eq g = h
  keeps-read ws h k q (done a r) eq g = g a r eq

  keeps-tick : (ws : Words) (m : M Words Answer) → P ws → ((b : ℕ) → Keeps (m b)) → (b : ℕ) → Keeps (tick ws m b)
  unfolding tick
  keeps-tick ws m h g zero = h
  keeps-tick ws m h g (suc b) = g b

  module _ (ws : Words) (h : P ws) (v t : ℕ) (vl : v < n) (tl : t < n) (ne : v ≢ t) (fr : node_at ws n v ≡ free) (root : Root (node_at ws n t)) where
    keeps_bound : (c : Bool) (b : ℕ) → Keeps (bound ws n v t c b)
    unfolding bound ret
    keeps_bound true b = h
    keeps_bound false b = step ws h v t vl tl ne fr root

    keeps-assign : (b : ℕ) → Keeps (assign ws n v t b)
    unfolding assign ◌>>=◌ reading
    keeps-assign b = keeps-read ws h (bound ws n v t) (occurs ws n v t b) (occurs ws n v t b) refl (λ c r e. keeps_bound c r)

  module _ (rec : Pair → M Words Answer) (ih : (ws : Words) → P ws → (x y b : ℕ) → Keeps (rec (ws, x, y) b)) where
    keeps-next : (ws : Words) → P ws → (y z : ℕ) (v : Verdict) (b : ℕ) → Keeps (next rec y z v ws b)
    unfolding next ret
    keeps-next ws h y z unified b = ih ws h y z b
    keeps-next ws h y z mismatch b = h
    keeps-next ws h y z circular b = h

    module _ (ws : Words) (h : P ws) where
      keeps-meeting : (x y : ℕ) → x < n → y < n → x ≢ y → Root (node_at ws n x) → Root (node_at ws n y) → (m : Meeting) → (m ≡ bindLeft → node_at ws n x ≡ free) → (m ≡ bindRight → node_at ws n y ≡ free) → (b : ℕ) → Keeps (meeting rec ws n x y m b)
      unfolding meeting ◌>>=◌ ret
      keeps-meeting x y xl yl ne rx ry bindLeft l r b = keeps-assign ws h x y xl yl ne (l refl) ry b
      keeps-meeting x y xl yl ne rx ry bindRight l r b = keeps-assign ws h y x yl xl (λ e. ne (sym e)) (r refl) rx b
      keeps-meeting x y xl yl ne rx ry agree l r b = h
      keeps-meeting x y xl yl ne rx ry clash l r b = h
      keeps-meeting x y xl yl ne rx ry (down z w) l r b = ih ws h z w b
      keeps-meeting x y xl yl ne rx ry (both z w s t) l r b = keeps_on (λ o. next rec w t o.0 o.1) (λ o c q. keeps-next o.1 q w t o.0 c) (rec (ws, z, s) b) (ih ws h z s b)

      keeps-at : (x y : ℕ) → x < n → y < n → Root (node_at ws n x) → Root (node_at ws n y) → (c : Bool) → eqb x y ≡ c → (b : ℕ) → Keeps (choose c (ret (unified, ws)) (meeting rec ws n x y (meet (node_at ws n x) (node_at ws n y))) b)
      unfolding choose ret
      keeps-at x y xl yl rx ry true e b = h
      keeps-at x y xl yl rx ry false e b = keeps-meeting x y xl yl (eqb-false x y e) rx ry (meet (node_at ws n x) (node_at ws n y))
          (left-unknown n (node_at ws n x) (node_at ws n y)) (right-unknown n (node_at ws n x) (node_at ws n y)) b

      keeps-step : (x y b : ℕ) → Keeps (unify_f n rec (ws, x, y) b)
      unfolding unify_f unify_at ◌>>=◌ reading
      keeps-step x y b = keeps-tick ws _ h (λ c.
          keeps-read ws h _ (resolve ws n x c) (resolve ws n x c) refl (λ p d e.
          keeps-read ws h _ (resolve ws n y d) (resolve ws n y d) refl (λ q d' f.
          keeps-at p q (resolved_inside ws n x c p d e) (resolved_inside ws n y d q d' f) (resolved_root ws n x c p d e) (resolved_root ws n y d q d' f) (eqb p q) refl d'))) b

  keeps-iter : (k : ℕ) (ws : Words) → P ws → (x y b : ℕ) → Keeps (iter (λ i. i.0) (unify_f n) k (ws, x, y) b)
  unfolding iter
  keeps-iter zero ws h x y b = h
  keeps-iter (suc k) ws h x y b = keeps-step (λ j. iter (λ i. i.0) (unify_f n) k j) (keeps-iter k) ws h x y b

  keeps-after : (o : Out Words Answer) → Keeps o → P (after o)
  unfolding after
  keeps-after (spent e) h = h
  keeps-after (halt c e) h = h
  keeps-after (done a r) h = h

  pub unify_carries : (ws : Words) → P ws → (x y b : ℕ) → P (after (unify n (ws, x, y) b))
  unfolding unify run
  unify_carries ws h x y b = keeps-after (unify n (ws, x, y) b) (keeps-iter (suc b) ws h x y b)
