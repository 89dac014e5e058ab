-- The theorems of specs/Histories.antt, whose head says what they give: `build-reached`, `relate-reached`, `lift-reached`.
use Prim.Native.Nat.{ℕ, zero, suc, ◌+◌, ◌*◌, ◌≤◌}
use Rattle.std.specs.Prelude.{◌≡◌, Bool, ◌&&◌, List, length, drop}
use Rattle.std.proofs.Math.Path.{refl, subst}
use Rattle.std.proofs.Common.{sym, ◌∙◌}
use Rattle.std.proofs.Math.Bool.{true, false}
use native.Mathlib.Omega.{arith}
use Rattle.std.proofs.Math.Dec.{ltb}
use borrow.Author.Tests.{ltb-true, ltb-false}
use Rattle.meter.specs.Meter.{Out, spent, halt, done, Why, broken, full, M, ret, fail, on, ◌>>=◌}
use Rattle.types.specs.Ty.{bool, int, given}
use Rattle.types.specs.Record as R
use Rattle.types.specs.Record.{head_of}
use Rattle.unification.specs.Arena.{Node, free, link, leaf, power, pair, bad, Words, choose}
use Rattle.unification.specs.Trees.{and_left, and_right}
use Rattle.unification.specs.Good.{Proper, push_at, length_push, push_word}
use Rattle.unification.specs.Make.{make_of, build, relate}
use Rattle.unification.specs.Laws.{Reached, made}
use Rattle.unification.proofs.Laws.{reached-whole}
use Rattle.unification.specs.Lift.{Raised, crown, lift_by, lift_of}
use Rattle.unification.specs.Frame.{Alike}
use Rattle.unification.proofs.Past.{reached-alike}
use Rattle.unification.specs.Histories.{After, Keeps, Again, AfterTwo, AfterLift}

module _ (n : ℕ) (ws : Words) (R : Reached n ws) (b k x y : ℕ) (i : Proper n k x y) where
  at_last : (c : Bool) → 3 * suc n ≤ length ws → After n ws (choose c (ret (n, push_at ws n k x y)) (fail broken ws) b)
  unfolding choose ret fail
  at_last true l = (refl, made k x y i l R)
  at_last false l = refl

  at_room : (c : Bool) → ltb (length ws) (3 * n + 3) ≡ c → After n ws (choose c (fail full ws) (choose (ltb n 0xFFFFFFFF) (ret (n, push_at ws n k x y)) (fail broken ws)) b)
  unfolding choose fail
  at_room true e = refl
  at_room false e = at_last (ltb n 0xFFFFFFFF) (let q = ltb-false (length ws) (3 * n + 3) e in omega arith)

  at_count : (c : Bool) → After n ws (choose c (fail broken ws) (choose (ltb (length ws) (3 * n + 3)) (fail full ws) (choose (ltb n 0xFFFFFFFF) (ret (n, push_at ws n k x y)) (fail broken ws))) b)
  unfolding choose fail
  at_count true = refl
  at_count false = at_room (ltb (length ws) (3 * n + 3)) refl

  make-reached : After n ws (make_of ws n k x y b)
  unfolding make_of
  make-reached = at_count (ltb (length ws) (3 * n))

module _ (n : ℕ) (ws : Words) (R : Reached n ws) (b : ℕ) where
  if_power : (x : ℕ) (c : Bool) → ltb x n ≡ c → After n ws (choose c (make_of ws n 0x43 x 0) (fail broken ws) b)
  unfolding choose fail
  if_power x true e = make-reached n ws R b 0x43 x 0 (ltb-true x n e, λ _. refl)
  if_power x false e = refl

  if_pair : (x y : ℕ) (c : Bool) → ltb x n && ltb y n ≡ c → After n ws (choose c (make_of ws n 0x44 x y) (fail broken ws) b)
  unfolding choose fail
  if_pair x y true e = make-reached n ws R b 0x44 x y ((ltb-true x n (and_left (ltb x n) (ltb y n) e), ltb-true y n (and_right (ltb x n) (ltb y n) e)), λ e. cc)
  if_pair x y false e = refl

  -- every maker, at every budget
  pub build-reached : (nd : Node) → After n ws (build ws n nd b)
  unfolding build fail
  build-reached free = make-reached n ws R b 0x4E 0 0 (tt, λ _. refl)
  build-reached (link j) = refl
  build-reached (leaf bool) = make-reached n ws R b 0x40 0 0 (tt, λ _. refl)
  build-reached (leaf int) = make-reached n ws R b 0x41 0 0 (tt, λ _. refl)
  build-reached (leaf (given x)) = make-reached n ws R b 0x42 x 0 (tt, λ _. refl)
  build-reached (power x) = if_power x (ltb x n) refl
  build-reached (pair x y) = if_pair x y (ltb x n && ltb y n) refl
  build-reached bad = refl

alike_trans : (n m : ℕ) (ws us vs : Words) → n ≤ m → Alike n ws us → Alike m us vs → Alike n ws vs
alike_trans n m ws us vs l p q = let r = q.roomy' in record { roomy = p.roomy; roomy' = omega arith; agrees = λ i z. p.agrees i z ∙ q.agrees i (omega arith) }

keeps_trans : (n m : ℕ) (ws us vs : Words) → n ≤ m → Keeps n ws us → Keeps m us vs → Keeps n ws vs
keeps_trans n m ws us vs l p q = record { alike = alike_trans n m ws us vs l p.alike q.alike; long = q.long ∙ p.long }

module _ (n : ℕ) (ws : Words) (l : 3 * n ≤ length ws) where
  keeps-all : Keeps n ws ws
  keeps-all = record { alike = record { roomy = l; roomy' = l; agrees = λ i q. refl }; long = refl }

  keeps_push : (k x y : ℕ) → Keeps n ws (push_at ws n k x y)
  keeps_push k x y = record { alike = record { roomy = l; roomy' = rw (length_push ws n k x y) l; agrees = λ i q. sym (push_word ws n k x y i q) }; long = length_push ws n k x y }

-- whatever a maker of one node answers, the counted words stand
abbrev Holds : ℕ → Words → Out Words (ℕ × Words) → Type 0
Holds n ws (spent vs) = Keeps n ws vs
Holds n ws (halt w vs) = Keeps n ws vs
Holds n ws (done o r) = Keeps n ws o.1

module _ (n : ℕ) (ws : Words) (l : 3 * n ≤ length ws) (b : ℕ) where
  holds-choose : (c : Bool) (m k : M Words (ℕ × Words)) → Holds n ws (m b) → Holds n ws (k b) → Holds n ws (choose c m k b)
  unfolding choose
  holds-choose true m k p q = p
  holds-choose false m k p q = q

  holds-fail : (w : Why) → Holds n ws (fail w ws b)
  unfolding fail
  holds-fail w = keeps-all n ws l

  holds-ret : (k x y : ℕ) → Holds n ws (ret (n, push_at ws n k x y) b)
  unfolding ret
  holds-ret k x y = keeps_push n ws l k x y

  holds-make : (k x y : ℕ) → Holds n ws (make_of ws n k x y b)
  unfolding make_of
  holds-make k x y = holds-choose (ltb (length ws) (3 * n)) _ _ (holds-fail broken) (holds-choose (ltb (length ws) (3 * n + 3)) _ _ (holds-fail full) (holds-choose (ltb n 0xFFFFFFFF) _ _ (holds-ret k x y) (holds-fail broken)))

  holds-build : (nd : Node) → Holds n ws (build ws n nd b)
  unfolding build
  holds-build free = holds-make 0x4E 0 0
  holds-build (link j) = holds-fail broken
  holds-build (leaf bool) = holds-make 0x40 0 0
  holds-build (leaf int) = holds-make 0x41 0 0
  holds-build (leaf (given x)) = holds-make 0x42 x 0
  holds-build (power x) = holds-choose (ltb x n) _ _ (holds-make 0x43 x 0) (holds-fail broken)
  holds-build (pair x y) = holds-choose (ltb x n && ltb y n) _ _ (holds-make 0x44 x y) (holds-fail broken)
  holds-build bad = holds-fail broken

module _ (n : ℕ) (ws : Words) (R : Reached n ws) where
  again : (vs : Words) → Keeps n ws vs → Again n ws vs
  again vs k = (k, reached-alike R vs k.alike)

  then-power : (us : Words) → Keeps n ws us → (o : Out Words (ℕ × Words)) → After (suc n) us o → Holds (suc n) us o → AfterTwo n ws o
  then-power us k (spent vs) h q = h
  then-power us k (halt w vs) h q = again vs (keeps_trans n (suc n) ws us vs (omega arith) k q)
  then-power us k (done o r) h q = (h.0, keeps_trans n (suc n) ws us o.1 (omega arith) k q, h.1)

  from-pair : (o : Out Words (ℕ × Words)) → After n ws o → Holds n ws o → AfterTwo n ws (on o (λ o. build o.1 (o.0 + 1) (power o.0)))
  unfolding on
  from-pair (spent vs) h q = h
  from-pair (halt w vs) h q = again vs q
  from-pair (done o r) h q =
      let z = h.0 in
      let e : suc n ≡ o.0 + 1 = omega arith in
      subst (λ (m : ℕ). AfterTwo n ws (build o.1 m (power o.0) r)) e
      (then-power o.1 q (build o.1 (suc n) (power o.0) r) (build-reached (suc n) o.1 h.1 r (power o.0)) (holds-build (suc n) o.1 (reached-whole h.1).0 r (power o.0)))

  -- the power of a product, of any parts and at every budget
  pub relate-reached : (x y b : ℕ) → AfterTwo n ws (relate ws n x y b)
  unfolding relate ◌>>=◌
  relate-reached x y b = from-pair (build ws n (pair x y) b) (build-reached n ws R b (pair x y)) (holds-build n ws (reached-whole R).0 b (pair x y))

module _ (n : ℕ) (ws : Words) (R : Reached n ws) where
  lift-crown : (e : ℕ) (o : Out Words (ℕ × Words)) → After n ws o → Holds n ws o → AfterLift n ws (on o (λ o. ret (o.0, e, o.1)))
  unfolding on ret
  lift-crown e (spent vs) h q = h
  lift-crown e (halt w vs) h q = again n ws R vs q
  lift-crown e (done o r) h q = let z = h.0 in let f : suc n ≡ o.0 + 1 = omega arith in (omega arith, q, subst (λ (m : ℕ). Reached m o.1) f h.1)

  crown-reached : (nd : Node) (e b : ℕ) → AfterLift n ws (crown ws n nd e b)
  unfolding crown ◌>>=◌
  crown-reached nd e b = lift-crown e (build ws n nd b) (build-reached n ws R b nd) (holds-build n ws (reached-whole R).0 b nd)

  -- seen by a caller whose arena was smaller
  lift-from : (m : ℕ) (us : Words) → n ≤ m → Keeps n ws us → (o : Out Words Raised) → AfterLift m us o → AfterLift n ws o
  lift-from m us l k (spent vs) h = h
  lift-from m us l k (halt w vs) h = again n ws R vs (keeps_trans n m ws us vs l k h.0)
  lift-from m us l k (done o r) h = let z = h.0 in (omega arith, keeps_trans n m ws us o.2 l k h.1, h.2)

  lift-then : (o : Out Words Raised) (k : Raised → M Words Raised) → AfterLift n ws o → ((u : Raised) (b : ℕ) → Reached (u.0 + 1) u.2 → AfterLift (u.0 + 1) u.2 (k u b)) → AfterLift n ws (on o k)
  unfolding on
  lift-then (spent vs) k h g = h
  lift-then (halt w vs) k h g = h
  lift-then (done u r) k h g = let z = h.0 in lift-from (u.0 + 1) u.2 (omega arith) h.1 (k u r) (g u r h.2)

module _ (rec : Words → ℕ → ℕ → M Words Raised) (ih : (n : ℕ) (ws : Words) → Reached n ws → (p b : ℕ) → AfterLift n ws (rec ws n p b)) where
  by-reached : (n : ℕ) (ws : Words) → Reached n ws → (hd : R.Head) (b : ℕ) → AfterLift n ws (lift_by rec ws n hd b)
  unfolding lift_by fail ◌>>=◌
  by-reached n ws r R.wrong b = again n ws r ws (keeps-all n ws (reached-whole r).0)
  by-reached n ws r (R.atomic a e) b = crown-reached n ws r (leaf a) e b
  by-reached n ws r (R.power e) b = lift-then n ws r (rec ws n e b) _ (ih n ws r e b) (λ o c q. crown-reached (o.0 + 1) o.2 q (power o.0) o.1 c)
  by-reached n ws r (R.product e) b = lift-then n ws r (rec ws n e b) _ (ih n ws r e b) (λ o c q.
      lift-then (o.0 + 1) o.2 q (rec o.2 (o.0 + 1) o.1 c) _ (ih (o.0 + 1) o.2 q o.1 c) (λ u d v. crown-reached (u.0 + 1) u.2 v (pair o.0 u.0) u.1 d))

-- a type lifted, of any bytes and at every place and budget
pub lift-reached : (left names : ℕ) (s : List ℕ) (n : ℕ) (ws : Words) → Reached n ws → (p b : ℕ) → AfterLift n ws (lift_of left names s ws n p b)
unfolding lift_of fail
lift-reached zero names s n ws r p b = again n ws r ws (keeps-all n ws (reached-whole r).0)
lift-reached (suc left) names s n ws r p b = by-reached (lift_of left names s) (lift-reached left names s) n ws r (head_of names p (drop p s)) b
