-- The theorems of specs/Code.antt: `assign_circular`, `assign-bound`, `assign-spent`, `assign_broken`, `unify-spent`, `unify_broken` and others.
use Prim.Native.Nat.{ℕ, ◌≤◌}
use Rattle.std.proofs.Math.Path.{◌≡◌}
use Rattle.std.proofs.Common.{◌∙◌}
use Rattle.std.proofs.Math.Bool.{true, false}
use Rattle.meter.specs.Meter.{spent, halt, done, broken, ret, ◌>>=◌, reading, within_le}
use Rattle.unification.specs.Arena.{Words, merge_at, occurs, unified, mismatch, circular, Answer, bound, assign, next, unify}
use Rattle.unification.proofs.Steps.{unify_metered}
use Rattle.unification.specs.Tasks.{Task, same, differ, bind, one, two, take_up, perform}
use Rattle.unification.proofs.Tasks.{unify_tasks}
use Rattle.unification.specs.Code.{read_done, bind_done, bind-spent, read-spent, read-halt, bind-halt, at}

-- binding
module _ (ws : Words) (n v t k : ℕ) where
  pub assign_circular : (l : ℕ) → occurs ws n v t k ≡ done true l → assign ws n v t k ≡ done (circular, ws) l
  unfolding assign bound ret
  assign_circular l e = bind_done (reading ws (occurs ws n v t)) (bound ws n v t) k true l (read_done ws (occurs ws n v t) k true l e)

  pub assign-bound : (l : ℕ) → occurs ws n v t k ≡ done false l → assign ws n v t k ≡ done (unified, merge_at ws n v t) l
  unfolding assign bound ret
  assign-bound l e = bind_done (reading ws (occurs ws n v t)) (bound ws n v t) k false l (read_done ws (occurs ws n v t) k false l e)

  pub assign-spent : occurs ws n v t k ≡ spent tt → assign ws n v t k ≡ spent ws
  unfolding assign
  assign-spent e = bind-spent (reading ws (occurs ws n v t)) (bound ws n v t) k ws (read-spent ws (occurs ws n v t) k e)

  pub assign_broken : occurs ws n v t k ≡ halt broken tt → assign ws n v t k ≡ halt broken ws
  unfolding assign
  assign_broken e = bind-halt (reading ws (occurs ws n v t)) (bound ws n v t) k broken ws (read-halt ws (occurs ws n v t) k broken e)

-- unify
module _ (ws : Words) (n a b k : ℕ) where
  pub unify-spent : take_up ws n a b k ≡ spent tt → unify n (ws, a, b) k ≡ spent ws
  unify-spent e = at k (unify_tasks ws n a b) ∙ bind-spent (reading ws (take_up ws n a b)) _ k ws (read-spent ws (take_up ws n a b) k e)

  pub unify_broken : take_up ws n a b k ≡ halt broken tt → unify n (ws, a, b) k ≡ halt broken ws
  unify_broken e = at k (unify_tasks ws n a b) ∙ bind-halt (reading ws (take_up ws n a b)) _ k broken ws (read-halt ws (take_up ws n a b) k broken e)

  task : (j : Task) (l : ℕ) → take_up ws n a b k ≡ done j l → unify n (ws, a, b) k ≡ perform (unify n) ws n j l
  task j l e = at k (unify_tasks ws n a b) ∙ bind_done (reading ws (take_up ws n a b)) (perform (unify n) ws n) k j l (read_done ws (take_up ws n a b) k j l e)

  pub unify-same : (l : ℕ) → take_up ws n a b k ≡ done same l → unify n (ws, a, b) k ≡ done (unified, ws) l
  unfolding perform ret
  unify-same l e = task same l e

  pub unify-differ : (l : ℕ) → take_up ws n a b k ≡ done differ l → unify n (ws, a, b) k ≡ done (mismatch, ws) l
  unfolding perform ret
  unify-differ l e = task differ l e

  pub unify-bind : (v t l : ℕ) → take_up ws n a b k ≡ done (bind v t) l → unify n (ws, a, b) k ≡ assign ws n v t l
  unfolding perform
  unify-bind v t l e = task (bind v t) l e

  pub unify-one : (x y l : ℕ) → take_up ws n a b k ≡ done (one x y) l → unify n (ws, a, b) k ≡ unify n (ws, x, y) l
  unfolding perform
  unify-one x y l e = task (one x y) l e

  module _ (x z y w l : ℕ) (e : take_up ws n a b k ≡ done (two x z y w) l) where
    halves : unify n (ws, a, b) k ≡ (unify n (ws, x, z) >>= λ o. next (unify n) y w o.0 o.1) l
    unfolding perform
    halves = task (two x z y w) l e

    pub unify-right : (ws' : Words) (r : ℕ) → unify n (ws, x, z) l ≡ done (unified, ws') r → unify n (ws, a, b) k ≡ unify n (ws', y, w) r
    unfolding next
    unify-right ws' r f = halves ∙ bind_done (unify n (ws, x, z)) (λ o. next (unify n) y w o.0 o.1) l (unified, ws') r f

    pub unify-left_mismatch : (ws' : Words) (r : ℕ) → unify n (ws, x, z) l ≡ done (mismatch, ws') r → unify n (ws, a, b) k ≡ done (mismatch, ws') r
    unfolding next ret
    unify-left_mismatch ws' r f = halves ∙ bind_done (unify n (ws, x, z)) (λ o. next (unify n) y w o.0 o.1) l (mismatch, ws') r f

    pub unify-left_circular : (ws' : Words) (r : ℕ) → unify n (ws, x, z) l ≡ done (circular, ws') r → unify n (ws, a, b) k ≡ done (circular, ws') r
    unfolding next ret
    unify-left_circular ws' r f = halves ∙ bind_done (unify n (ws, x, z)) (λ o. next (unify n) y w o.0 o.1) l (circular, ws') r f

    pub unify-left-spent : (ws' : Words) → unify n (ws, x, z) l ≡ spent ws' → unify n (ws, a, b) k ≡ spent ws'
    unify-left-spent ws' f = halves ∙ bind-spent (unify n (ws, x, z)) (λ o. next (unify n) y w o.0 o.1) l ws' f

    pub unify-left_broken : (ws' : Words) → unify n (ws, x, z) l ≡ halt broken ws' → unify n (ws, a, b) k ≡ halt broken ws'
    unify-left_broken ws' f = halves ∙ bind-halt (unify n (ws, x, z)) (λ o. next (unify n) y w o.0 o.1) l broken ws' f

-- what is left of a budget
module _ (ws : Words) (n : ℕ) where
  pub unify-left : (a b k : ℕ) (o : Answer) (l : ℕ) → unify n (ws, a, b) k ≡ done o l → l ≤ k
  unify-left a b k o l e = within_le k ((unify_metered n (ws, a, b)).within k) o l e
