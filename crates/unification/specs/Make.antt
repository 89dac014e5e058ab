-- Making a node: it stands at the count, if its three words are in the slice.
--
-- `build` is what the public makers do, for any words and count: the node's own number is answered and its words are written; or the slice has no room
-- for three words more (full, 6); or the count itself lies past the slice, a part is no node of the arena, or the next count would not fit 32 bits (broken, 2).
use Prim.Native.Nat.{ℕ, suc, ◌+◌, ◌*◌, ◌≤◌, ◌<◌}
use Rattle.std.proofs.Math.Path.{◌≡◌, refl, ap}
use Rattle.std.proofs.Common.{sym, ◌∙◌, arith}
use Rattle.std.specs.Prelude.{◌≢◌, Bool, ◌&&◌, eqb, length}
use Rattle.std.proofs.Math.Bool.{true, false}
use Rattle.std.proofs.Math.Dec.{ltb}
use borrow.Author.Tests.{lt-ltb, le-ltb, ltb-true, ne_eqb}
use Rattle.meter.specs.Meter.{Out, halt, done, Why, broken, full, M, ret, fail, ◌>>=◌, bind-ret, bind-fail}
use Rattle.types.specs.Ty.{bool, int, given}
use Rattle.unification.specs.Arena.{Node, free, link, leaf, power, pair, bad, pick, decode, Words, choose}
use Rattle.unification.specs.Good.{Inside, push_at}

-- three words for the next node
unfoldable pub make_of : Words → ℕ → ℕ → ℕ → ℕ → M Words (ℕ × Words)
unfolding choose ret fail push_at
make_of ws n k a b =
    choose (ltb (length ws) (3 * n)) (fail broken ws)
    (choose (ltb (length ws) (3 * n + 3)) (fail full ws)
    (choose (ltb n 0xFFFFFFFF) (ret (n, push_at ws n k a b)) (fail broken ws)))

unfoldable pub build : Words → ℕ → Node → M Words (ℕ × Words)
unfolding make_of choose fail
build ws n free = make_of ws n 0x4E 0 0
build ws n (link j) = fail broken ws
build ws n (leaf bool) = make_of ws n 0x40 0 0
build ws n (leaf int) = make_of ws n 0x41 0 0
build ws n (leaf (given x)) = make_of ws n 0x42 x 0
build ws n (power x) = choose (ltb x n) (make_of ws n 0x43 x 0) (fail broken ws)
build ws n (pair x y) = choose (ltb x n && ltb y n) (make_of ws n 0x44 x y) (fail broken ws)
build ws n bad = fail broken ws

-- the power of a product: the product first
unfoldable pub relate : Words → ℕ → ℕ → ℕ → M Words (ℕ × Words)
relate ws n x y = build ws n (pair x y) >>= λ o. build o.1 (o.0 + 1) (power o.0)

-- the three ways
pub make-done : (ws : Words) (n k a b : ℕ) → 3 * suc n ≤ length ws → n < 0xFFFFFFFF → make_of ws n k a b ≡ ret (n, push_at ws n k a b)
unfolding make_of choose
make-done ws n k a b l h = rw (le-ltb (length ws) (3 * n) (omega arith), le-ltb (length ws) (3 * n + 3) (omega arith), lt-ltb n 0xFFFFFFFF h) refl

pub make_full : (ws : Words) (n k a b : ℕ) → 3 * n ≤ length ws → length ws < 3 * suc n → make_of ws n k a b ≡ fail full ws
unfolding make_of choose
make_full ws n k a b l h = rw (le-ltb (length ws) (3 * n) l, lt-ltb (length ws) (3 * n + 3) (omega arith)) refl

pub make-past : (ws : Words) (n k a b : ℕ) → length ws < 3 * n → make_of ws n k a b ≡ fail broken ws
unfolding make_of choose
make-past ws n k a b l = rw (lt-ltb (length ws) (3 * n) l) refl

pub make-last : (ws : Words) (n k a b : ℕ) → 3 * suc n ≤ length ws → 0xFFFFFFFF ≤ n → make_of ws n k a b ≡ fail broken ws
unfolding make_of choose
make-last ws n k a b l h = rw (le-ltb (length ws) (3 * n) (omega arith), le-ltb (length ws) (3 * n + 3) (omega arith), le-ltb n 0xFFFFFFFF h) refl

-- the parts are nodes of the arena
pub build-power : (ws : Words) (n x : ℕ) → x < n → build ws n (power x) ≡ make_of ws n 0x43 x 0
unfolding build choose
build-power ws n x l = rw (lt-ltb x n l) refl

pub build-pair : (ws : Words) (n x y : ℕ) → x < n → y < n → build ws n (pair x y) ≡ make_of ws n 0x44 x y
unfolding build choose
build-pair ws n x y l h = rw (lt-ltb x n l, lt-ltb y n h) refl

-- a kind is built as its three words: what `make k a b` of a list of operations asks of a maker
abbrev pub Builds : ℕ → ℕ → ℕ → Type 0
Builds k a b = (ws : Words) (n : ℕ) → Inside n (decode k a b) → build ws n (decode k a b) ≡ make_of ws n k a b

pub builds_unknown : Builds 0x4E 0 0
unfolding build
builds_unknown ws n h = refl

pub builds_boolean : Builds 0x40 0 0
unfolding build
builds_boolean ws n h = refl

pub builds_integer : Builds 0x41 0 0
unfolding build
builds_integer ws n h = refl

pub builds_given : (x : ℕ) → Builds 0x42 x 0
unfolding build
builds_given x ws n h = refl

pub builds_power : (x : ℕ) → Builds 0x43 x 0
builds_power x ws n h = build-power ws n x h

pub builds_pair : (x y : ℕ) → Builds 0x44 x y
builds_pair x y ws n h = build-pair ws n x y h.0 h.1

-- of any other kind no node is made
link_or_bad : (ws : Words) (n a : ℕ) (c : Bool) → build ws n (pick c (link a) bad) ≡ fail broken ws
unfolding build
link_or_bad ws n a true = refl
link_or_bad ws n a false = refl

pub builds_no_other : (ws : Words) (n k a b : ℕ) → k ≢ 0x4E → k ≢ 0x40 → k ≢ 0x41 → k ≢ 0x42 → k ≢ 0x43 → k ≢ 0x44 → build ws n (decode k a b) ≡ fail broken ws
builds_no_other ws n k a b h0 h1 h2 h3 h4 h5 =
    rw (ne_eqb k 0x4E h0, ne_eqb k 0x40 h1, ne_eqb k 0x41 h2, ne_eqb k 0x42 h3, ne_eqb k 0x43 h4, ne_eqb k 0x44 h5) (link_or_bad ws n a (eqb k 0x4D))

-- the power of a product, step by step
module _ (ws : Words) (n x y : ℕ) where
  pub relate-done : (t : ℕ) (ws' : Words) → build ws n (pair x y) ≡ ret (t, ws') → relate ws n x y ≡ build ws' (t + 1) (power t)
  unfolding relate
  relate-done t ws' e = ap (λ (m : M Words (ℕ × Words)). m >>= λ o. build o.1 (o.0 + 1) (power o.0)) e ∙ bind-ret (t, ws') (λ o. build o.1 (o.0 + 1) (power o.0))

  pub relate-stop : (w : Why) (ws' : Words) → build ws n (pair x y) ≡ fail w ws' → relate ws n x y ≡ fail w ws'
  unfolding relate
  relate-stop w ws' e = ap (λ (m : M Words (ℕ × Words)). m >>= λ o. build o.1 (o.0 + 1) (power o.0)) e ∙ bind-fail w ws' (λ o. build o.1 (o.0 + 1) (power o.0))

-- a node that was made stands at the count, and the next count fits
module _ (ws : Words) (n : ℕ) (t : ℕ) (ws' : Words) where
  abbrev Small : Type 0
  Small = (t ≡ n) × (t < 0xFFFFFFFF)

  refuted : (w : Why) → fail {A = ℕ × Words} w ws ≡ ret (t, ws') → Small
  unfolding fail ret
  refuted w e = let q : ◌≡◌ {A = Out Words (ℕ × Words)} (halt w ws) (done (t, ws') 0) = ap (λ m. m 0) e in let z : ◌≡◌ {A = ℕ} 0 1 = cc in absurd (omega arith)

  last-test : (c : Bool) (k a b : ℕ) → ltb n 0xFFFFFFFF ≡ c → choose {A = ℕ × Words} c (ret (n, push_at ws n k a b)) (fail broken ws) ≡ ret (t, ws') → Small
  unfolding choose ret
  last-test true k a b h e =
      let q : ◌≡◌ {A = Out Words (ℕ × Words)} (done (n, push_at ws n k a b) 0) (done (t, ws') 0) = ap (λ m. m 0) e in
      let f : ◌≡◌ {A = ℕ × Words} (n, push_at ws n k a b) (t, ws') = cc in let z : n ≡ t = ap (λ (o : ℕ × Words). o.0) f in let l = ltb-true n 0xFFFFFFFF h in (sym z, omega arith)
  last-test false k a b h e = refuted broken e

  room-test : (c : Bool) (k a b : ℕ) → choose {A = ℕ × Words} c (fail full ws) (choose {A = ℕ × Words} (ltb n 0xFFFFFFFF) (ret (n, push_at ws n k a b)) (fail broken ws)) ≡ ret (t, ws') → Small
  unfolding choose
  room-test true k a b e = refuted full e
  room-test false k a b e = last-test (ltb n 0xFFFFFFFF) k a b refl e

  count-test : (c d : Bool) (k a b : ℕ) → choose {A = ℕ × Words} c (fail broken ws) (choose {A = ℕ × Words} d (fail full ws) (choose {A = ℕ × Words} (ltb n 0xFFFFFFFF) (ret (n, push_at ws n k a b)) (fail broken ws))) ≡ ret (t, ws') → Small
  unfolding choose
  count-test true d k a b e = refuted broken e
  count-test false d k a b e = room-test d k a b e

  pub make-small : (k a b : ℕ) → make_of ws n k a b ≡ ret (t, ws') → (t ≡ n) × (t < 0xFFFFFFFF)
  unfolding make_of
  make-small k a b e = count-test (ltb (length ws) (3 * n)) (ltb (length ws) (3 * n + 3)) k a b e

  if_small : (c : Bool) (k a b : ℕ) → choose c (make_of ws n k a b) (fail broken ws) ≡ ret (t, ws') → Small
  unfolding choose
  if_small true k a b e = make-small k a b e
  if_small false k a b e = refuted broken e

  pub build-small : (nd : Node) → build ws n nd ≡ ret (t, ws') → (t ≡ n) × (t < 0xFFFFFFFF)
  unfolding build
  build-small free e = make-small 0x4E 0 0 e
  build-small (link j) e = refuted broken e
  build-small (leaf bool) e = make-small 0x40 0 0 e
  build-small (leaf int) e = make-small 0x41 0 0 e
  build-small (leaf (given x)) e = make-small 0x42 x 0 e
  build-small (power x) e = if_small (ltb x n) 0x43 x 0 e
  build-small (pair x y) e = if_small (ltb x n && ltb y n) 0x44 x y e
  build-small bad e = refuted broken e
