-- Ranked arenas: what binding by rank keeps.
--
-- `Ranked`: along a binding from unknown to unknown the rank rises, and an unknown of rank r stands for 2^r of the n nodes or more. The empty arena is ranked, a node
-- that is made keeps it (an unknown is made with rank 0), and so does every comparison, answered, refused or spent (`merge_ranked`, carried through by
-- `unify_carries`): `reached-ranked` of every arena reached by public calls, `ranked-after` after a list of operations.
-- Theorems that rest on what must-fail edits change stand in proofs/Ranked.antt.
use Prim.Native.Nat.{ℕ, suc, ◌+◌, ◌*◌, ◌^◌, ◌≤◌, ◌<◌}
use Rattle.std.specs.Prelude.{◌≡◌, eqb, length}
use Rattle.std.proofs.Math.Path.{refl, ap, subst}
use Rattle.std.proofs.Common.{sym, ◌∙◌}
use native.Mathlib.Omega.{arith}
use Rattle.std.proofs.Math.Decide.{ℕ_discrete}
use borrow.Author.Tests.{eq-eqb, ne_eqb}
use Rattle.unification.specs.Arena.{Node, free, link, leaf, power, pair, bad, decode, Words, node_at, rank_at}
use Rattle.unification.specs.Good.{Inside, Proper, push_at, node_push_new, node_push_old, push_word, push_second}
use Rattle.unification.specs.Sums.{sum, sum_same, pickℕ, summand}

abbrev pub Var : Node → Type 0
Var free = Unit {0}
Var (link j) = Unit {0}
Var (leaf p) = ⊥
Var (power a) = ⊥
Var (pair a b) = ⊥
Var bad = ⊥

abbrev pub Solid : Node → Type 0
Solid free = ⊥
Solid (link j) = ⊥
Solid (leaf p) = Unit {0}
Solid (power a) = Unit {0}
Solid (pair a b) = Unit {0}
Solid bad = Unit {0}

-- how many of the nodes one stands for: an unbound unknown for those that lead to it, a bound one for none, any other for itself
unfoldable pub share : Node → ℕ → ℕ
share free k = k
share (link j) k = 0
share (leaf p) k = 1
share (power a) k = 1
share (pair a b) k = 1
share bad k = 1

abbrev pub Stood : ℕ → Words → (ℕ → ℕ) → ℕ → Node → Type 0
Stood n ws m x free = 2 ^ rank_at ws x ≤ m x
Stood n ws m x (link j) = (j < n) × (Var (node_at ws n j) → rank_at ws x < rank_at ws j) × (Solid (node_at ws n j) → 2 ^ rank_at ws x < n)
Stood n ws m x (leaf p) = Unit {0}
Stood n ws m x (power a) = Unit {0}
Stood n ws m x (pair a b) = Unit {0}
Stood n ws m x bad = Unit {0}

pub record Ranked (n : ℕ) (ws : Words) : Type 0 where
  pub mass : ℕ → ℕ
  pub stood : (x : ℕ) → x < n → Stood n ws mass x (node_at ws n x)
  pub held : sum (λ x. share (node_at ws n x) (mass x)) n ≤ n

-- an unbound unknown has no more than there is, and beside a node that is no unknown less
module _ (n : ℕ) (ws : Words) (R : Ranked n ws) where
  abbrev pub shares : ℕ → ℕ
  shares z = share (node_at ws n z) (R.mass z)

  pub share-free : (x : ℕ) → node_at ws n x ≡ free → shares x ≡ R.mass x
  unfolding share
  share-free x e = ap (λ (k : Node). share k (R.mass x)) e

  pub part : (x : ℕ) → x < n → node_at ws n x ≡ free → R.mass x ≤ n
  part x l e = let p = summand shares x n l in let r = share-free x e in let s = R.held in omega arith

  pub stood-free : (x : ℕ) → x < n → node_at ws n x ≡ free → 2 ^ rank_at ws x ≤ R.mass x
  stood-free x l e = subst (λ (k : Node). Stood n ws R.mass x k) e (R.stood x l)

  pub stood-link : (x j : ℕ) → x < n → node_at ws n x ≡ link j → (j < n) × (Var (node_at ws n j) → rank_at ws x < rank_at ws j) × (Solid (node_at ws n j) → 2 ^ rank_at ws x < n)
  stood-link x j l e = subst (λ (k : Node). Stood n ws R.mass x k) e (R.stood x l)

-- ---- a node made: an unknown with rank 0
module _ (n : ℕ) (ws : Words) (k a b : ℕ) (s : 3 * suc n ≤ length ws) (i : Proper n k a b) (R : Ranked n ws) where
  abbrev ws'' : Words
  ws'' = push_at ws n k a b

  mass_n : ℕ → ℕ
  mass_n z = pickℕ (eqb z n) 1 (R.mass z)

  mass_n-new : mass_n n ≡ 1
  unfolding mass_n
  mass_n-new = ap (λ c. pickℕ c 1 (R.mass n)) (eq-eqb n n refl)

  mass_n_old : (z : ℕ) → z < n → mass_n z ≡ R.mass z
  unfolding mass_n
  mass_n_old z l = ap (λ c. pickℕ c 1 (R.mass z)) (ne_eqb z n (λ e. omega arith))

  rank_old : (z : ℕ) → z < n → rank_at ws'' z ≡ rank_at ws z
  unfolding rank_at
  rank_old z l = push_word ws n k a b (3 * z + 2) (omega arith)

  rank-new : rank_at ws'' n ≡ b
  unfolding rank_at
  rank-new = push_second ws n k a b s

  old_stood : (z : ℕ) → z < n → (nd : Node) → Stood n ws R.mass z nd → Stood (suc n) ws'' mass_n z nd
  old_stood z l free h = let m = mass_n_old z l in let r = ap (λ (k : ℕ). 2 ^ k) (rank_old z l) in omega arith
  old_stood z l (link j) h =
      let jl = h.0 in
      let w = h.1 in
      let g = h.2 in
      let r = ap (λ (k : ℕ). 2 ^ k) (rank_old z l) in
      let r' = rank_old z l in
      let r'' = rank_old j jl in
      (omega arith, λ v. (let q = w (subst (λ (c : Node). Var c) (node_push_old ws n k a b s j jl) v) in omega arith), λ v. (let q = g (subst (λ (c : Node). Solid c) (node_push_old ws n k a b s j jl) v) in omega arith))
  old_stood z l (leaf p) h = tt
  old_stood z l (power x) h = tt
  old_stood z l (pair x y) h = tt
  old_stood z l bad h = tt

  new-stood : (nd : Node) → decode k a b ≡ nd → Inside n nd → Stood (suc n) ws'' mass_n n nd
  new-stood free e j = let m = mass_n-new in let r : 2 ^ rank_at ws'' n ≡ 2 ^ 0 = ap (λ (k : ℕ). 2 ^ k) (rank-new ∙ i.1 e) in omega arith
  new-stood (link x) e j = absurd j
  new-stood (leaf p) e j = tt
  new-stood (power x) e j = tt
  new-stood (pair x y) e j = tt
  new-stood bad e j = tt

  stood_n : (z : ℕ) → z < suc n → Dec (z ≡ n) → Stood (suc n) ws'' mass_n z (node_at ws'' (suc n) z)
  stood_n z l (yes e) = subst (λ (y : ℕ). Stood (suc n) ws'' mass_n y (node_at ws'' (suc n) y)) (sym e)
      (subst (λ (c : Node). Stood (suc n) ws'' mass_n n c) (sym (node_push_new ws n k a b s)) (new-stood (decode k a b) refl i.0))
  stood_n z l (no h) = let q : z < n = omega arith in subst (λ (c : Node). Stood (suc n) ws'' mass_n z c) (sym (node_push_old ws n k a b s z q)) (old_stood z q (node_at ws n z) (R.stood z q))

  share-new : (nd : Node) → share nd (mass_n n) ≤ 1
  unfolding share
  share-new free = let m = mass_n-new in omega arith
  share-new (link j) = omega arith
  share-new (leaf p) = omega arith
  share-new (power x) = omega arith
  share-new (pair x y) = omega arith
  share-new bad = omega arith

  held_n : sum (λ z. share (node_at ws'' (suc n) z) (mass_n z)) (suc n) ≤ suc n
  unfolding sum
  held_n =
      let p = sum_same (λ z. share (node_at ws n z) (R.mass z)) (λ z. share (node_at ws'' (suc n) z) (mass_n z)) n
      (λ z l. ap (λ (c : Node). share c (mass_n z)) (node_push_old ws n k a b s z l) ∙ ap (share (node_at ws n z)) (mass_n_old z l)) in
      let q = share-new (node_at ws'' (suc n) n) in
      let w = R.held in
      omega arith

  pub made-ranked : Ranked (suc n) ws''
  made-ranked = record { mass = mass_n; stood = λ z l. stood_n z l (ℕ_discrete z n); held = held_n }
