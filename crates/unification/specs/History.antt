-- A whole history of calls, failed, spent and refused ones included: what it asks of an assignment (`Asks`), and what the arena admits after it.
-- Whatever happened, what was asked is admitted (`asked_admitted`); if every comparison succeeded, nothing else is (`admitted_asked`); if one failed, nothing
-- meets what was asked (`failed-none`).
-- Theorems that rest on what must-fail edits change stand in proofs/History.antt.
use Rattle.std.specs.Prelude.{ℕ, ◌<◌, ◌≡◌, refl, ◌≢◌, ◌⊎◌}
use Rattle.meter.specs.Meter.{done}
use Rattle.unification.specs.Arena.{decode, Words, Verdict, unified, Answer, unify}
use Rattle.unification.specs.Good.{Assignment, Says}
use Rattle.unification.specs.Laws.{after, Reached, empty, made, called}

-- every node made and every comparison asked, as equations
abbrev pub Asks : {n : ℕ} {ws : Words} → Reached n ws → Assignment → Type 0
Asks (empty ws) σ = Unit {0}
Asks (made {n = n} k a b i s r) σ = Asks r σ × Says σ n (decode k a b)
Asks (called a b β r) σ = Asks r σ × (σ a ≡ σ b)

-- every comparison succeeded
abbrev pub AllUnified : {n : ℕ} {ws : Words} → Reached n ws → Type 0
AllUnified (empty ws) = Unit {0}
AllUnified (made k a b i s r) = AllUnified r
AllUnified (called {n = n} {ws = ws} a b β r) = AllUnified r × ((ws' : Words) × (left : ℕ) × (unify n (ws, a, b) β ≡ done (unified, ws') left) × (a < n) × (b < n))

-- one comparison was answered by a mismatch or a circularity
abbrev pub SomeFailed : {n : ℕ} {ws : Words} → Reached n ws → Type 0
SomeFailed (empty ws) = ⊥
SomeFailed (made k a b i s r) = SomeFailed r
SomeFailed (called {n = n} {ws = ws} a b β r) = SomeFailed r ⊎ ((o : Verdict) × (ws' : Words) × (left : ℕ) × (o ≢ unified) × (unify n (ws, a, b) β ≡ done (o, ws') left) × (a < n) × (b < n))

pub after-done : (o : Answer) (r : ℕ) → after (done o r) ≡ o.1
unfolding after
after-done o r = refl
