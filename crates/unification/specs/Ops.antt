-- Lists of operations, run over an arena: the seam to a walk, which makes and compares the same things whatever unification answers.
-- `exec-exact`: a list whose nodes fit ends, at a price, and then either nothing is listed and the arena admits just what meets the list, or something is
-- listed and nothing meets it. `exec_full`: where the capacity ends inside the list, it halts full. `exec_metered`, `exec-append`: least budgets, and parts.
-- Theorems that rest on what must-fail edits change stand in proofs/Ops.antt.
use Prim.Native.Nat.{ℕ, suc, ◌+◌, ◌*◌, ◌≤◌, ◌<◌}
use Rattle.std.specs.Prelude.{◌≡◌, ◌⊎◌, ltb}
use Rattle.std.proofs.Common.{sym}
use Rattle.std.proofs.Math.Path.{subst}
use mathlib.Core.List.{List, [], ◌∷◌, ◌++◌}
use native.Mathlib.Omega.{arith}
use Rattle.std.proofs.Math.ListN.{length}
use Rattle.meter.specs.Meter.{full, M, ret, fail, tick, ◌>>=◌, forget}
use Rattle.unification.specs.Arena.{Node, decode, Words, U, node_at, choose, Verdict, unified, mismatch, circular, Answer, unify}
use Rattle.unification.specs.Good.{Assignment, Says, Admits, Good, Inside, Proper, good_push, push_at, length_push, node_push_new, node_push_old}
use Rattle.unification.specs.Unifies.{Kept}

pub data Op : Type 0 where
  pay : Op  -- a record entered
  make : ℕ → ℕ → ℕ → Op  -- a node: kind and two words
  compare : ℕ → ℕ → ℕ → Op  -- two references, at a place
  list : ℕ → ℕ → Op  -- a problem of the walk's own, at a place: no typing

pub record Bench : Type 0 where
  pub count : ℕ
  pub words : Words
  pub problems : List (ℕ × ℕ)

unfoldable pub noted : Verdict → ℕ → List (ℕ × ℕ) → List (ℕ × ℕ)
noted unified p ps = ps
noted mismatch p ps = ps ++ ((0, p) ∷ [])
noted circular p ps = ps ++ ((1, p) ∷ [])

unfoldable pub grow : Bench → ℕ → ℕ → ℕ → Bench
grow s k a b = record { count = suc s.count; words = push_at s.words s.count k a b; problems = s.problems }

unfoldable pub learn : Bench → ℕ → Answer → Bench
learn s p o = record { count = s.count; words = o.1; problems = noted o.0 p s.problems }

unfoldable pub complain : Bench → ℕ → ℕ → Bench
complain s q p = record { count = s.count; words = s.words; problems = s.problems ++ ((q, p) ∷ []) }

-- the list is run: cap nodes at most
unfoldable pub exec : ℕ → List Op → Bench → M U Bench
unfolding ret tick choose fail grow forget unify ◌>>=◌ learn complain
exec cap [] s = ret s
exec cap (pay ∷ os) s = tick tt (exec cap os s)
exec cap (make k a b ∷ os) s = choose (ltb s.count cap) (exec cap os (grow s k a b)) (fail full tt)
exec cap (compare a b p ∷ os) s = forget (unify s.count (s.words, a, b)) >>= λ o. exec cap os (learn s p o)
exec cap (list q p ∷ os) s = exec cap os (complain s q p)

-- what the list asks of an assignment, from count n on
abbrev pub Meets : Assignment → ℕ → List Op → Type 0
Meets σ n [] = Unit {0}
Meets σ n (pay ∷ os) = Meets σ n os
Meets σ n (make k a b ∷ os) = Says σ n (decode k a b) × Meets σ (suc n) os
Meets σ n (compare a b p ∷ os) = (σ a ≡ σ b) × Meets σ n os
Meets σ n (list q p ∷ os) = ⊥

-- references inside, and unknowns of rank 0
abbrev pub Sound : ℕ → List Op → Type 0
Sound n [] = Unit {0}
Sound n (pay ∷ os) = Sound n os
Sound n (make k a b ∷ os) = Proper n k a b × Sound (suc n) os
Sound n (compare a b p ∷ os) = (a < n) × (b < n) × Sound n os
Sound n (list q p ∷ os) = Sound n os

abbrev pub nodes : List Op → ℕ
nodes [] = 0
nodes (pay ∷ os) = nodes os
nodes (make k a b ∷ os) = suc (nodes os)
nodes (compare a b p ∷ os) = nodes os
nodes (list q p ∷ os) = nodes os

-- a list in two parts
pub sound-split : (n : ℕ) (os qs : List Op) → Sound n (os ++ qs) → Sound n os × Sound (n + nodes os) qs
sound-split n [] qs h = let e : n + 0 ≡ n = omega arith in (tt, subst (λ (k : ℕ). Sound k qs) (sym e) h)
sound-split n (pay ∷ os) qs h = sound-split n os qs h
sound-split n (make k a b ∷ os) qs h =
    let z = sound-split (suc n) os qs h.1 in
    let e : suc n + nodes os ≡ n + suc (nodes os) = omega arith in
    ((h.0, z.0), subst (λ (j : ℕ). Sound j qs) e z.1)
sound-split n (compare a b p ∷ os) qs h = let z = sound-split n os qs h.2 in ((h.0, h.1, z.0), z.1)
sound-split n (list q p ∷ os) qs h = sound-split n os qs h

abbrev pub Admitted : Bench → Assignment → Type 0
Admitted s σ = Admits s.count (node_at s.words s.count) σ

pub record Ready (cap : ℕ) (s : Bench) : Type 0 where
  pub roomy : 3 * cap ≤ length s.words
  pub good : Good s.count (node_at s.words s.count)

pub data Judged (s : Bench) (os : List Op) (s' : Bench) : Type 0 where
  clean : s'.problems ≡ s.problems → ((σ : Assignment) → Admitted s' σ → Admitted s σ × Meets σ s.count os) → Judged s os s'
  hopeless : length s.problems < length s'.problems → ((σ : Assignment) → Admitted s σ → Meets σ s.count os → ⊥) → Judged s os s'

-- the walk's own problems
abbrev pub listed : List Op → List (ℕ × ℕ)
listed [] = []
listed (pay ∷ os) = listed os
listed (make k a b ∷ os) = listed os
listed (compare a b p ∷ os) = listed os
listed (list q p ∷ os) = (q, p) ∷ listed os

abbrev pub In : ℕ × ℕ → List (ℕ × ℕ) → Type 0
In z [] = ⊥
In z (y ∷ ys) = (z ≡ y) ⊎ In z ys

-- whence a problem comes: it stood there before, it is one of the walk's own, or a comparison failed (problem 0 or 1)
pub data Whence (z : ℕ × ℕ) (old new : List (ℕ × ℕ)) : Type 0 where
  before : In z old → Whence z old new
  listing : In z new → Whence z old new
  failing : z.0 < 2 → Whence z old new

pub record Ran (cap : ℕ) (s : Bench) (os : List Op) (s' : Bench) : Type 0 where
  pub ready : Ready cap s'
  pub counted : s'.count ≡ s.count + nodes os
  pub takes : (σ : Assignment) → Admitted s σ → Meets σ s.count os → Admitted s' σ
  pub judged : Judged s os s'
  pub kept : (z : ℕ × ℕ) → In z s.problems → In z s'.problems
  pub told : (z : ℕ × ℕ) → In z (listed os) → In z s'.problems
  pub whence : (z : ℕ × ℕ) → In z s'.problems → Whence z s.problems (listed os)

module _ (cap : ℕ) where
  -- a node made
  module _ (s : Bench) (k a b : ℕ) (r : Ready cap s) (l : s.count < cap) (i : Inside s.count (decode k a b)) where
    pub room : 3 * suc s.count ≤ length s.words
    room = let q = r.roomy in omega arith

    pub grown-ready : Ready cap (grow s k a b)
    unfolding grow
    grown-ready = record {
      roomy = rw (length_push s.words s.count k a b) r.roomy;
      good = good_push s.count (node_at s.words s.count) (node_at (push_at s.words s.count k a b) (suc s.count)) (node_push_old s.words s.count k a b room) r.good
          (subst (λ (d : Node). Inside s.count d) (sym (node_push_new s.words s.count k a b room)) i);
    }

  -- a problem of the walk's own
  pub complain-ready : (s : Bench) (q p : ℕ) → Ready cap s → Ready cap (complain s q p)
  unfolding complain
  complain-ready s q p r = record { roomy = r.roomy; good = r.good }

  -- a comparison
  module _ (s : Bench) (a b p : ℕ) where
    abbrev pub Eqn : Assignment → Type 0
    Eqn σ = σ a ≡ σ b

    pub learnt_ready : (o : Answer) → Ready cap s → Kept s.count s.words Eqn o.1 → Ready cap (learn s p o)
    unfolding learn
    learnt_ready o r k = record { roomy = rw k.sized r.roomy; good = k.good }
