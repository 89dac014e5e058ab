-- The theorems of specs/Merge.antt, whose head says what they give: `merged`.
use Prim.Native.Nat.{ℕ, suc, ◌+◌, ◌*◌, ◌≤◌, ◌<◌}
use Rattle.std.specs.Prelude.{◌≡◌, ◌≢◌, Bool, ◌&&◌, eqb, length, set}
use Rattle.std.proofs.Math.Path.{refl, ap}
use Rattle.std.proofs.Common.{sym, ◌∙◌, length-set}
use Rattle.std.proofs.Math.Bool.{true, false}
use native.Mathlib.Omega.{arith}
use Rattle.std.proofs.Math.Decide.{ℕ_discrete}
use Rattle.std.proofs.Math.Dec.{ltb}
use Rattle.std.proofs.Math.ListN.{get_or}
use Rattle.std.proofs.Math.Seq.{get_or-set_other}
use borrow.Author.Tests.{eq-eqb, ne_eqb, lt-ltb, le-ltb}
use Rattle.types.specs.Ty.{bool, int, given}
use Rattle.unification.specs.Arena.{Node, free, link, leaf, power, pair, bad, Words, pick, decode, inside, node_at, bind_at, unknown, rank_at, either, below, level, raised, merge_at}
use Rattle.unification.specs.Trees.{and_left}
use Rattle.unification.specs.Good.{node_as, node_in}
use Rattle.unification.proofs.Good.{length-bind, node-bind-same, node-bind-other}
use Rattle.unification.specs.Kinds.{Kind, is_free, kind_of}
use Rattle.unification.specs.Merge.{unknown-free, Binds, Merged, to_right, to_left}

-- words that are read as an unknown are read as one whatever their last two say
free-kind : (k a b : ℕ) (c : Bool) → pick c (decode k a b) bad ≡ free → (b' : ℕ) → pick c (decode k a b') bad ≡ free
free-kind k a b true e b' = kept (eqb k 0x4E) (eqb k 0x4D) (eqb k 0x40) (eqb k 0x41) (eqb k 0x42) (eqb k 0x43) (eqb k 0x44) e
  where
    kept : (c0 c1 c2 c3 c4 c5 c6 : Bool) → pick c0 free (pick c1 (link a) (pick c2 (leaf bool) (pick c3 (leaf int) (pick c4 (leaf (given a)) (pick c5 (power a) (pick c6 (pair a b) bad)))))) ≡ free → pick c0 free (pick c1 (link a) (pick c2 (leaf bool) (pick c3 (leaf int) (pick c4 (leaf (given a)) (pick c5 (power a) (pick c6 (pair a b') bad)))))) ≡ free
    kept true c1 c2 c3 c4 c5 c6 e = refl
    kept false true c2 c3 c4 c5 c6 e = e
    kept false false true c3 c4 c5 c6 e = e
    kept false false false true c4 c5 c6 e = e
    kept false false false false true c5 c6 e = e
    kept false false false false false true c6 e = e
    kept false false false false false false true e = cc
    kept false false false false false false false e = e
free-kind k a b false e b' = e

-- a rank set on an unknown changes no node
module _ (ws : Words) (n t r : ℕ) where
  inside-rank : (x : ℕ) → inside (set ws (3 * t + 2) r) n x ≡ inside ws n x
  unfolding inside
  inside-rank x = ap (λ (k : ℕ). ltb x n && ltb (3 * x + 2) k) (simp length-set)

  rank_same : node_at ws n t ≡ free → node_at (set ws (3 * t + 2) r) n t ≡ free
  unfolding node_at
  rank_same e = rw (inside-rank t, get_or-set_other ws (3 * t + 2) (3 * t) r 0 (λ e. omega arith), get_or-set_other ws (3 * t + 2) (3 * t + 1) r 0 (λ e. omega arith))
      (free-kind (get_or ws (3 * t) 0) (get_or ws (3 * t + 1) 0) (get_or ws (3 * t + 2) 0) (inside ws n t) e (get_or (set ws (3 * t + 2) r) (3 * t + 2) 0))

  rank-other : (x : ℕ) → x ≢ t → node_at (set ws (3 * t + 2) r) n x ≡ node_at ws n x
  rank-other x h = node_as ws (set ws (3 * t + 2) r) n n x (inside-rank x)
      (get_or-set_other ws (3 * t + 2) (3 * x) r 0 (λ e. omega arith)) (get_or-set_other ws (3 * t + 2) (3 * x + 1) r 0 (λ e. omega arith)) (get_or-set_other ws (3 * t + 2) (3 * x + 2) r 0 (λ e. h (omega arith)))

  rank-at : node_at ws n t ≡ free → (x : ℕ) → Dec (x ≡ t) → node_at (set ws (3 * t + 2) r) n x ≡ node_at ws n x
  rank-at e x (yes q) = ap (node_at (set ws (3 * t + 2) r) n) q ∙ rank_same e ∙ sym (ap (node_at ws n) q ∙ e)
  rank-at e x (no q) = rank-other x q

module _ (ws : Words) (n v t : ℕ) where
  pub level-free : level ws n v t ≡ true → node_at ws n t ≡ free
  unfolding level
  level-free e = unknown-free (node_at ws n t) (and_left (unknown (node_at ws n t)) (eqb (rank_at ws t) (rank_at ws v) && ltb (rank_at ws t) 32) e)

  pub below_free : below ws n v t ≡ true → node_at ws n t ≡ free
  unfolding below
  below_free e = unknown-free (node_at ws n t) (and_left (unknown (node_at ws n t)) (ltb (rank_at ws t) (rank_at ws v)) e)

  raised-length-at : (c : Bool) → length (either c (set ws (3 * t + 2) (suc (rank_at ws t))) ws) ≡ length ws
  raised-length-at true = simp length-set
  raised-length-at false = refl

  pub raised-length : length (raised ws n v t) ≡ length ws
  unfolding raised
  raised-length = raised-length-at (level ws n v t)

  raised-node-at : (c : Bool) → level ws n v t ≡ c → (x : ℕ) → node_at (either c (set ws (3 * t + 2) (suc (rank_at ws t))) ws) n x ≡ node_at ws n x
  raised-node-at true e x = rank-at ws n t (suc (rank_at ws t)) (level-free e) x (ℕ_discrete x t)
  raised-node-at false e x = refl

  pub raised-node : (x : ℕ) → node_at (raised ws n v t) n x ≡ node_at ws n x
  unfolding raised
  raised-node x = raised-node-at (level ws n v t) refl x

module _ (ws : Words) (n v t : ℕ) where
  length_merge_at : (c : Bool) → length (either c (bind_at ws t v) (bind_at (raised ws n v t) v t)) ≡ length ws
  length_merge_at true = length-bind ws t v
  length_merge_at false = length-bind (raised ws n v t) v t ∙ raised-length ws n v t

  pub length_merge : length (merge_at ws n v t) ≡ length ws
  unfolding merge_at
  length_merge = length_merge_at (below ws n v t)

module _ (ws : Words) (n v t : ℕ) (s : 3 * n ≤ length ws) (vl : v < n) (tl : t < n) where
  pub to-left_binds : Binds n ws t v (bind_at ws t v)
  to-left_binds = record { long = length-bind ws t v; here = node-bind-same ws n t v tl s; there = λ z h. node-bind-other ws n t v z h }

  pub to-right_binds : Binds n ws v t (bind_at (raised ws n v t) v t)
  to-right_binds = record {
    long = length-bind (raised ws n v t) v t ∙ raised-length ws n v t;
    here = node-bind-same (raised ws n v t) n v t vl (rw (raised-length ws n v t) s);
    there = λ z h. node-bind-other (raised ws n v t) n v t z h ∙ raised-node ws n v t z;
  }

  merged-at : (c : Bool) → below ws n v t ≡ c → Merged n ws v t (either c (bind_at ws t v) (bind_at (raised ws n v t) v t))
  merged-at true e = to_left (below_free ws n v t e) to-left_binds
  merged-at false e = to_right to-right_binds

  -- whichever is bound, it is one binding
  pub merged : Merged n ws v t (merge_at ws n v t)
  unfolding merge_at
  merged = merged-at (below ws n v t) refl

-- ---- as the code goes about it: by the kind and the two ranks
module _ (ws : Words) (n v t : ℕ) where
  not_free : (k a b : ℕ) (nd : Node) → Kind k a b nd → k ≢ 0x4E → unknown nd ≡ false
  unfolding unknown
  not_free k a b free (is_free e) h = absurd (h e)
  not_free k a b (link j) f h = refl
  not_free k a b (leaf p) f h = refl
  not_free k a b (power x) f h = refl
  not_free k a b (pair x y) f h = refl
  not_free k a b bad f h = refl

  other-kind-at : (c : Bool) → get_or ws (3 * t) 0 ≢ 0x4E → unknown (pick c (decode (get_or ws (3 * t) 0) (get_or ws (3 * t + 1) 0) (get_or ws (3 * t + 2) 0)) bad) ≡ false
  unfolding unknown
  other-kind-at true h = not_free (get_or ws (3 * t) 0) (get_or ws (3 * t + 1) 0) (get_or ws (3 * t + 2) 0) _ (kind_of (get_or ws (3 * t) 0) (get_or ws (3 * t + 1) 0) (get_or ws (3 * t + 2) 0)) h
  other-kind-at false h = refl

  other-kind : get_or ws (3 * t) 0 ≢ 0x4E → unknown (node_at ws n t) ≡ false
  unfolding node_at
  other-kind h = other-kind-at (inside ws n t) h

  -- t is no unknown: v is bound to it
  pub merge_plain : get_or ws (3 * t) 0 ≢ 0x4E → merge_at ws n v t ≡ bind_at ws v t
  unfolding merge_at below raised level
  merge_plain h = rw (other-kind h) refl

  module _ (tl : t < n) (l : 3 * t + 2 < length ws) (k : get_or ws (3 * t) 0 ≡ 0x4E) where
    this_kind : unknown (node_at ws n t) ≡ true
    unfolding unknown inside
    this_kind =
        let e : decode (get_or ws (3 * t) 0) (get_or ws (3 * t + 1) 0) (get_or ws (3 * t + 2) 0) ≡ free = rw k refl in
        let i : inside ws n t ≡ true = rw (lt-ltb t n tl, lt-ltb (3 * t + 2) (length ws) l) refl in
        ap unknown (node_in ws n t i ∙ e)

    -- of a smaller rank: t is bound to v
    pub merge_below : get_or ws (3 * t + 2) 0 < get_or ws (3 * v + 2) 0 → merge_at ws n v t ≡ bind_at ws t v
    unfolding merge_at below rank_at
    merge_below q = rw (this_kind, lt-ltb (get_or ws (3 * t + 2) 0) (get_or ws (3 * v + 2) 0) q) refl

    -- of a greater one: v is bound to t
    pub merge_above : get_or ws (3 * v + 2) 0 < get_or ws (3 * t + 2) 0 → merge_at ws n v t ≡ bind_at ws v t
    unfolding merge_at below raised level rank_at
    merge_above q = rw (this_kind, le-ltb (get_or ws (3 * t + 2) 0) (get_or ws (3 * v + 2) 0) (omega arith), ne_eqb (get_or ws (3 * t + 2) 0) (get_or ws (3 * v + 2) 0) (λ e. omega arith)) refl

    -- of the same one: v is bound to t, and the rank of t rises, up to the last one
    pub merge_last : get_or ws (3 * t + 2) 0 ≡ get_or ws (3 * v + 2) 0 → 32 ≤ get_or ws (3 * t + 2) 0 → merge_at ws n v t ≡ bind_at ws v t
    unfolding merge_at below raised level rank_at
    merge_last e q = rw (this_kind, le-ltb (get_or ws (3 * t + 2) 0) (get_or ws (3 * v + 2) 0) (omega arith), eq-eqb (get_or ws (3 * t + 2) 0) (get_or ws (3 * v + 2) 0) e, le-ltb (get_or ws (3 * t + 2) 0) 32 q) refl

    pub merge_level : get_or ws (3 * t + 2) 0 ≡ get_or ws (3 * v + 2) 0 → get_or ws (3 * t + 2) 0 < 32 → merge_at ws n v t ≡ bind_at (set ws (3 * t + 2) (get_or ws (3 * t + 2) 0 + 1)) v t
    unfolding merge_at below raised level rank_at
    merge_level e q =
        let p : suc (get_or ws (3 * t + 2) 0) ≡ get_or ws (3 * t + 2) 0 + 1 = omega arith in
        rw (this_kind, le-ltb (get_or ws (3 * t + 2) 0) (get_or ws (3 * v + 2) 0) (omega arith), eq-eqb (get_or ws (3 * t + 2) 0) (get_or ws (3 * v + 2) 0) e, lt-ltb (get_or ws (3 * t + 2) 0) 32 q)
        (ap (λ (r : ℕ). bind_at (set ws (3 * t + 2) r) v t) p)
