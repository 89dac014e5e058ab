-- Lifting a type record into the arena: its parts first, the left one first, then the node itself.
--
-- `lift_of` reads the bytes as `type_at` of crate `types` reads them, and makes nodes as it goes; it is total on any bytes. `lift-law`: where the type t stands at a place,
-- lifting there is running the operations of t (`lift_ops`): the same nodes, and full just where they are.
-- Theorems that rest on what must-fail edits change stand in proofs/Lift.antt.
use Prim.Native.Nat.{ℕ, zero, suc, ◌+◌, ◌-◌, ◌*◌, ◌≤◌, ◌<◌}
use Rattle.std.proofs.Math.Path.{◌≡◌, refl, ap, subst}
use Rattle.std.proofs.Common.{◌∙◌}
use Rattle.std.specs.Prelude.{◌≢◌, Bool, ◌&&◌, length, drop}
use Rattle.std.proofs.Math.Bool.{true, false}
use mathlib.Core.List.{List, [], ◌∷◌, ◌++◌}
use native.Mathlib.Omega.{arith}
use Rattle.std.proofs.Math.Dec.{ltb}
use borrow.Author.Tests.{ltb-true}
use Rattle.meter.specs.Meter.{Out, spent, halt, done, Why, broken, full, M, ret, fail, on, ◌>>=◌, bind-ret, bind-fail}
use Rattle.types.specs.Ty.{Atom, bool, int, given, Ty, base, pow, prod}
use Rattle.types.specs.Record as R
use Rattle.types.specs.Record.{head_of}
use Rattle.unification.specs.Arena.{Node, free, link, leaf, power, pair, bad, Words, choose}
use Rattle.unification.specs.Trees.{weight}
use Rattle.unification.specs.Good.{push_at}
use Rattle.unification.specs.Make.{make_of, build}
use Rattle.unification.specs.Ops.{Op, make, Bench, exec}

-- the root, the place after the record, and the words
abbrev pub Raised : Type 0
Raised = ℕ × ℕ × Words

-- a node made last: it is the root
unfoldable pub crown : Words → ℕ → Node → ℕ → M Words Raised
crown ws n nd e = build ws n nd >>= λ o. ret (o.0, e, o.1)

unfoldable pub lift_by : (Words → ℕ → ℕ → M Words Raised) → Words → ℕ → R.Head → M Words Raised
lift_by rec ws n R.wrong = fail broken ws
lift_by rec ws n (R.atomic a e) = crown ws n (leaf a) e
lift_by rec ws n (R.power e) = rec ws n e >>= λ o. crown o.2 (o.0 + 1) (power o.0) o.1
lift_by rec ws n (R.product e) = rec ws n e >>= λ o. rec o.2 (o.0 + 1) o.1 >>= λ u. crown u.2 (u.0 + 1) (pair o.0 u.0) u.1

-- the type record at place p, in at most `left` levels
unfoldable pub lift_of : ℕ → ℕ → List ℕ → Words → ℕ → ℕ → M Words Raised
lift_of zero names s ws n p = fail broken ws
lift_of (suc left) names s ws n p = lift_by (lift_of left names s) ws n (head_of names p (drop p s))

-- ---- the operations of a type, and where its root will stand
unfoldable pub atom_op : Atom → Op
atom_op bool = make 0x40 0 0
atom_op int = make 0x41 0 0
atom_op (given x) = make 0x42 x 0

unfoldable pub root_of : Ty → ℕ → ℕ
root_of (base a) n = n
root_of (pow t) n = n + weight t
root_of (prod t u) n = n + weight t + weight u

unfoldable pub lift_ops : Ty → ℕ → List Op
unfolding atom_op root_of
lift_ops (base a) n = atom_op a ∷ []
lift_ops (pow t) n = lift_ops t n ++ (make 0x43 (root_of t n) 0 ∷ [])
lift_ops (prod t u) n = lift_ops t n ++ (lift_ops u (n + weight t) ++ (make 0x44 (root_of t n) (root_of u (n + weight t)) ∷ []))

pub root-next : (t : Ty) (n : ℕ) → root_of t n + 1 ≡ n + weight t
unfolding root_of weight
root-next (base a) n = refl
root-next (pow t) n = omega arith
root-next (prod t u) n = omega arith

-- ---- the law
module _ (cap : ℕ) (small : cap < 0xFFFFFFFF) where
  -- lifting m and running os from the bench b: both make the nodes of t, or both are full
  pub data Lifts (b : Bench) (os : List Op) (m : M Words Raised) (n e root : ℕ) : Type 0 where
    fits : (b' : Bench) → exec cap os b ≡ ret b' → b'.count ≡ n → length b'.words ≡ length b.words → b'.problems ≡ b.problems → b'.count ≤ cap → m ≡ ret (root, e, b'.words) → Lifts b os m n e root
    over : (ws : Words) → exec cap os b ≡ fail full tt → m ≡ fail full ws → Lifts b os m n e root

  pub record Fit (b : Bench) : Type 0 where
    pub sized : length b.words ≡ 3 * cap
    pub within : b.count ≤ cap

-- ---- one law for each way the code can go
module _ (names : ℕ) (s : List ℕ) (ws : Words) (n p left : ℕ) where
  pub lift-none : left ≡ 0 → lift_of left names s ws n p ≡ fail broken ws
  unfolding lift_of
  lift-none z = ap (λ (l : ℕ). lift_of l names s ws n p) z

  pub lift-head : left ≢ 0 → (hd : R.Head) → head_of names p (drop p s) ≡ hd → lift_of left names s ws n p ≡ lift_by (lift_of (left - 1) names s) ws n hd
  unfolding lift_of
  lift-head z hd e = let q : left ≡ suc (left - 1) = omega arith in ap (λ (l : ℕ). lift_of l names s ws n p) q ∙ ap (lift_by (lift_of (left - 1) names s) ws n) e

module _ (ws : Words) (n : ℕ) (nd : Node) (e : ℕ) where
  pub crown-done : (t : ℕ) (ws' : Words) → build ws n nd ≡ ret (t, ws') → crown ws n nd e ≡ ret (t, e, ws')
  unfolding crown
  crown-done t ws' q = ap (λ (m : M Words (ℕ × Words)). m >>= λ o. ret (o.0, e, o.1)) q ∙ bind-ret (t, ws') (λ o. ret (o.0, e, o.1))

  pub crown-stop : (w : Why) (ws' : Words) → build ws n nd ≡ fail w ws' → crown ws n nd e ≡ fail w ws'
  unfolding crown
  crown-stop w ws' q = ap (λ (m : M Words (ℕ × Words)). m >>= λ o. ret (o.0, e, o.1)) q ∙ bind-fail w ws' (λ o. ret (o.0, e, o.1))

module _ (rec : Words → ℕ → ℕ → M Words Raised) (ws : Words) (n e : ℕ) where
  pub power-done : (o : Raised) → rec ws n e ≡ ret o → lift_by rec ws n (R.power e) ≡ crown o.2 (o.0 + 1) (power o.0) o.1
  unfolding lift_by
  power-done o q = ap (λ (m : M Words Raised). m >>= λ o. crown o.2 (o.0 + 1) (power o.0) o.1) q ∙ bind-ret o (λ o. crown o.2 (o.0 + 1) (power o.0) o.1)

  pub power-stop : (w : Why) (ws' : Words) → rec ws n e ≡ fail w ws' → lift_by rec ws n (R.power e) ≡ fail w ws'
  unfolding lift_by
  power-stop w ws' q = ap (λ (m : M Words Raised). m >>= λ o. crown o.2 (o.0 + 1) (power o.0) o.1) q ∙ bind-fail w ws' (λ o. crown o.2 (o.0 + 1) (power o.0) o.1)

  second : Raised → M Words Raised
  second o = rec o.2 (o.0 + 1) o.1 >>= λ u. crown u.2 (u.0 + 1) (pair o.0 u.0) u.1

  left-done : (o : Raised) → rec ws n e ≡ ret o → lift_by rec ws n (R.product e) ≡ second o
  unfolding lift_by second
  left-done o q = ap (λ (m : M Words Raised). m >>= second) q ∙ bind-ret o second

  pub left-stop : (w : Why) (ws' : Words) → rec ws n e ≡ fail w ws' → lift_by rec ws n (R.product e) ≡ fail w ws'
  unfolding lift_by second
  left-stop w ws' q = ap (λ (m : M Words Raised). m >>= second) q ∙ bind-fail w ws' second

  pub right-done : (o u : Raised) → rec ws n e ≡ ret o → rec o.2 (o.0 + 1) o.1 ≡ ret u → lift_by rec ws n (R.product e) ≡ crown u.2 (u.0 + 1) (pair o.0 u.0) u.1
  unfolding second
  right-done o u q r = left-done o q ∙ ap (λ (m : M Words Raised). m >>= λ u. crown u.2 (u.0 + 1) (pair o.0 u.0) u.1) r ∙ bind-ret u (λ u. crown u.2 (u.0 + 1) (pair o.0 u.0) u.1)

  pub right-stop : (o : Raised) (w : Why) (ws' : Words) → rec ws n e ≡ ret o → rec o.2 (o.0 + 1) o.1 ≡ fail w ws' → lift_by rec ws n (R.product e) ≡ fail w ws'
  unfolding second
  right-stop o w ws' q r = left-done o q ∙ ap (λ (m : M Words Raised). m >>= λ u. crown u.2 (u.0 + 1) (pair o.0 u.0) u.1) r ∙ bind-fail w ws' (λ u. crown u.2 (u.0 + 1) (pair o.0 u.0) u.1)

-- ---- the next count fits 32 bits after a lifting
abbrev Low : Out Words (ℕ × Words) → Type 0
Low (spent e) = Unit {0}
Low (halt w e) = Unit {0}
Low (done o r) = o.0 < 0xFFFFFFFF

abbrev Lowly : Out Words Raised → Type 0
Lowly (spent e) = Unit {0}
Lowly (halt w e) = Unit {0}
Lowly (done o r) = o.0 < 0xFFFFFFFF

module _ (ws : Words) (n b : ℕ) where
  low-last : (k x y : ℕ) (c : Bool) → ltb n 0xFFFFFFFF ≡ c → Low (choose c (ret (n, push_at ws n k x y)) (fail broken ws) b)
  unfolding choose ret fail
  low-last k x y true e = ltb-true n 0xFFFFFFFF e
  low-last k x y false e = tt

  low-room : (k x y : ℕ) (c : Bool) → Low (choose c (fail full ws) (choose (ltb n 0xFFFFFFFF) (ret (n, push_at ws n k x y)) (fail broken ws)) b)
  unfolding choose fail
  low-room k x y true = tt
  low-room k x y false = low-last k x y (ltb n 0xFFFFFFFF) refl

  low_count : (k x y : ℕ) (c : Bool) → Low (choose c (fail broken ws) (choose (ltb (length ws) (3 * n + 3)) (fail full ws) (choose (ltb n 0xFFFFFFFF) (ret (n, push_at ws n k x y)) (fail broken ws))) b)
  unfolding choose fail
  low_count k x y true = tt
  low_count k x y false = low-room k x y (ltb (length ws) (3 * n + 3))

  low-make : (k x y : ℕ) → Low (make_of ws n k x y b)
  unfolding make_of
  low-make k x y = low_count k x y (ltb (length ws) (3 * n))

  low_if : (k x y : ℕ) (c : Bool) → Low (choose c (make_of ws n k x y) (fail broken ws) b)
  unfolding choose fail
  low_if k x y true = low-make k x y
  low_if k x y false = tt

  low-build : (nd : Node) → Low (build ws n nd b)
  unfolding build fail
  low-build free = low-make 0x4E 0 0
  low-build (link j) = tt
  low-build (leaf bool) = low-make 0x40 0 0
  low-build (leaf int) = low-make 0x41 0 0
  low-build (leaf (given x)) = low-make 0x42 x 0
  low-build (power x) = low_if 0x43 x 0 (ltb x n)
  low-build (pair x y) = low_if 0x44 x y (ltb x n && ltb y n)
  low-build bad = tt

low-crown : (ws : Words) (n : ℕ) (nd : Node) (e b : ℕ) → Lowly (crown ws n nd e b)
unfolding crown ◌>>=◌ ret
low-crown ws n nd e b = go (build ws n nd b) (low-build ws n b nd)
  where
    go : (o : Out Words (ℕ × Words)) → Low o → Lowly (on o (λ o. ret (o.0, e, o.1)))
    go (spent x) h = tt
    go (halt w x) h = tt
    go (done x r) h = h

low-on : (o : Out Words Raised) (k : Raised → M Words Raised) → ((u : Raised) (b : ℕ) → Lowly (k u b)) → Lowly (on o k)
unfolding on
low-on (spent x) k h = tt
low-on (halt w x) k h = tt
low-on (done u r) k h = h u r

low_by : (rec : Words → ℕ → ℕ → M Words Raised) (ws : Words) (n : ℕ) (hd : R.Head) (b : ℕ) → Lowly (lift_by rec ws n hd b)
unfolding lift_by fail ◌>>=◌
low_by rec ws n R.wrong b = tt
low_by rec ws n (R.atomic a e) b = low-crown ws n (leaf a) e b
low_by rec ws n (R.power e) b = low-on (rec ws n e b) _ (λ o c. low-crown o.2 (o.0 + 1) (power o.0) o.1 c)
low_by rec ws n (R.product e) b = low-on (rec ws n e b) _ (λ o c. low-on (rec o.2 (o.0 + 1) o.1 c) _ (λ u d. low-crown u.2 (u.0 + 1) (pair o.0 u.0) u.1 d))

low-lift : (left names : ℕ) (s : List ℕ) (ws : Words) (n p b : ℕ) → Lowly (lift_of left names s ws n p b)
unfolding lift_of fail
low-lift zero names s ws n p b = tt
low-lift (suc left) names s ws n p b = low_by (lift_of left names s) ws n (head_of names p (drop p s)) b

pub lift-small : (left names : ℕ) (s : List ℕ) (ws : Words) (n p : ℕ) (o : Raised) → lift_of left names s ws n p ≡ ret o → o.0 < 0xFFFFFFFF
unfolding ret
lift-small left names s ws n p o e = subst (λ (q : Out Words Raised). Lowly q) (ap (λ (m : M Words Raised). m 0) e) (low-lift left names s ws n p 0)
