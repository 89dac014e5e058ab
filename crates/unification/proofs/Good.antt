-- The theorems of specs/Good.antt: `word-other`, `length-bind`, `node-bind-same`, `node-bind-other`.
use Rattle.std.specs.Prelude.{ℕ, ◌+◌, ◌*◌, ◌≤◌, ◌<◌, ◌≡◌, ◌≢◌, ◌&&◌, ltb, length, get_or, set}
use Rattle.std.proofs.Math.Path.{refl, ap}
use Rattle.std.proofs.Common.{◌∙◌}
use native.Mathlib.Omega.{arith}
use Rattle.std.proofs.Math.ListN.{length-set}
use Rattle.std.proofs.Math.Seq.{get_or-set_same, get_or-set_other}
use Rattle.unification.specs.Arena.{link, Words, inside, node_at, bind_at}
use Rattle.unification.specs.Good.{node_in, inside_yes, node_as}

-- the words of a binding
pub word-other : (ws : Words) (v t i : ℕ) → i ≢ 3 * v → i ≢ 3 * v + 1 → get_or (bind_at ws v t) i 0 ≡ get_or ws i 0
unfolding bind_at
word-other ws v t i p q = get_or-set_other (set ws (3 * v) 0x4D) (3 * v + 1) i t 0 q ∙ get_or-set_other ws (3 * v) i 0x4D 0 p

word-kind : (ws : Words) (v t : ℕ) → 3 * v < length ws → get_or (bind_at ws v t) (3 * v) 0 ≡ 0x4D
unfolding bind_at
word-kind ws v t l = get_or-set_other (set ws (3 * v) 0x4D) (3 * v + 1) (3 * v) t 0 (λ e. omega arith) ∙ get_or-set_same ws (3 * v) 0x4D 0 l

word-link : (ws : Words) (v t : ℕ) → 3 * v + 1 < length ws → get_or (bind_at ws v t) (3 * v + 1) 0 ≡ t
unfolding bind_at
word-link ws v t l = get_or-set_same (set ws (3 * v) 0x4D) (3 * v + 1) t 0 (rw length-set l)

pub length-bind : (ws : Words) (v t : ℕ) → length (bind_at ws v t) ≡ length ws
unfolding bind_at
length-bind ws v t = simp length-set

pub node-bind-same : (ws : Words) (n v t : ℕ) → v < n → 3 * n ≤ length ws → node_at (bind_at ws v t) n v ≡ link t
node-bind-same ws n v t l s = node_in (bind_at ws v t) n v (inside_yes (bind_at ws v t) n v l (rw (length-bind ws v t) s))
    ∙ rw (word-kind ws v t (omega arith), word-link ws v t (omega arith)) refl

pub node-bind-other : (ws : Words) (n v t x : ℕ) → x ≢ v → node_at (bind_at ws v t) n x ≡ node_at ws n x
unfolding inside
node-bind-other ws n v t x h = node_as ws (bind_at ws v t) n n x (ap (λ (k : ℕ). ltb x n && ltb (3 * x + 2) k) (length-bind ws v t))
    (word-other ws v t (3 * x) (λ e. h (omega arith)) (λ e. omega arith)) (word-other ws v t (3 * x + 1) (λ e. omega arith) (λ e. h (omega arith))) (word-other ws v t (3 * x + 2) (λ e. omega arith) (λ e. omega arith))
