-- The theorems of specs/Short.antt, whose head says what they give: `resolve-short`, `exec-short`, `exec-short-within`.
use Prim.Native.Nat.{ℕ, zero, suc, ◌+◌, ◌*◌, ◌^◌, ◌≤◌, ◌<◌}
use Rattle.std.proofs.Math.Path.{◌≡◌, refl}
use Rattle.std.proofs.Common.{sym, ◌∙◌, ap, subst}
use Rattle.std.specs.Prelude.{List, length}
use native.Mathlib.Omega.{arith}
use Rattle.meter.specs.Meter.{Out, done, M, ret, fail, tick}
use Rattle.unification.specs.Arena.{Node, free, link, leaf, power, pair, bad, Words, node_at, U, follow, resolve, unify}
use Rattle.unification.specs.Steps.{resolve_eq}
use Rattle.unification.specs.Good.{Root}
use Rattle.unification.specs.Laws.{after, Reached}
use Rattle.unification.specs.Ops.{Op, Bench, exec, nodes, Sound}
use Rattle.unification.specs.Exec.{Counts}
use Rattle.unification.proofs.Exec.{exec-counts}
use Rattle.unification.specs.ByRule.{ends, Follows, at-root, along}
use Rattle.unification.specs.Ranked.{Ranked}
use Rattle.unification.proofs.Ranked.{reached-ranked, compared-ranked, ranked-after}
use Rattle.unification.specs.Short.{follows_short}

-- ---- how far a reference is from its end
module _ (n : ℕ) (ws : Words) (R : Ranked n ws) where
  -- what resolve pays, as bindings followed
  abbrev Walked : ℕ → ℕ → ℕ → Type 0
  Walked t β r = (c : ℕ) × (c + r ≡ β) × ((o : ℕ × Node) × Follows ws n t (ends o) c)

  walked-link : (t j β p r : ℕ) → node_at ws n t ≡ link j → ((b : ℕ) → suc b ≡ β → resolve ws n j b ≡ done p r → Walked j b r) → tick tt (resolve ws n j) β ≡ done p r → Walked t β r
  unfolding tick
  walked-link t j zero p r e rec h = let z : ◌≡◌ {A = ℕ} 0 1 = cc in absurd (omega arith)
  walked-link t j (suc b) p r e rec h = let w = rec b refl h in let q = w.1 in (suc w.0, omega arith, (w.2.0, along e w.2.1))

  walked-root : (t β p r : ℕ) (nd : Node) → node_at ws n t ≡ nd → Root nd → ◌≡◌ {A = Out U ℕ} (done t β) (done p r) → Walked t β r
  walked-root t β p r nd e q h = let z : β ≡ r = cc in (0, omega arith, ((t, nd), at-root e q))

  walked-node : (β p r t : ℕ) → ((b j : ℕ) → suc b ≡ β → resolve ws n j b ≡ done p r → Walked j b r) → (nd : Node) → node_at ws n t ≡ nd → follow (resolve ws n) t nd β ≡ done p r → Walked t β r
  unfolding follow ret fail
  walked-node β p r t rec free e h = walked-root t β p r free e tt h
  walked-node β p r t rec (link j) e h = walked-link t j β p r e (λ b q. rec b j q) h
  walked-node β p r t rec (leaf x) e h = walked-root t β p r (leaf x) e tt h
  walked-node β p r t rec (power x) e h = walked-root t β p r (power x) e tt h
  walked-node β p r t rec (pair x y) e h = walked-root t β p r (pair x y) e tt h
  walked-node β p r t rec bad e h = let z : ◌≡◌ {A = ℕ} 0 1 = cc in absurd (omega arith)

  walked : (k β : ℕ) → β < k → (t p r : ℕ) → resolve ws n t β ≡ done p r → Walked t β r
  walked zero β l t p r h = absurd (omega arith)
  walked (suc k) β l t p r h = walked-node β p r t (λ b j q. walked k b (omega arith) j p r) (node_at ws n t) refl (sym (ap (λ (m : M U ℕ). m β) (resolve_eq ws n t)) ∙ h)

  ranked-short : (t : ℕ) → t < n → (β p r : ℕ) → resolve ws n t β ≡ done p r → (c : ℕ) × (c + r ≡ β) × (2 ^ c < 2 * n)
  ranked-short t l β p r h = let w = walked (suc β) β (omega arith) t p r h in (w.0, w.1, follows_short n ws R l w.2.1)

-- KEY: of every arena reached, with fewer than 2^32 nodes: to follow a reference costs c units only where 2^c < 2 * n
pub resolve-short : {n : ℕ} {ws : Words} → Reached n ws → n < 2 ^ 32 → (t : ℕ) → t < n → (β p r : ℕ) → resolve ws n t β ≡ done p r → (c : ℕ) × (c + r ≡ β) × (2 ^ c < 2 * n)
resolve-short {n} {ws} H l t tl β p r h = ranked-short n ws (reached-ranked H l) t tl β p r h

-- ---- a list of operations, run from an empty arena at any capacity and budget
module _ (cap : ℕ) (os : List Op) (s : Bench) (z : s.count ≡ 0) (so : Sound 0 os) (l : nodes os < 2 ^ 32) (room : 3 * nodes os ≤ length s.words) (β : ℕ) (s' : Bench) (left : ℕ) (e : exec cap os s β ≡ done s' left) where
  -- KEY: to follow a reference after it costs c units only where 2^c < 2 * n
  pub exec-short : (t : ℕ) → t < s'.count → (γ p r : ℕ) → resolve s'.words s'.count t γ ≡ done p r → (c : ℕ) × (c + r ≡ γ) × (2 ^ c < 2 * s'.count)
  exec-short t tl γ p r h = ranked-short s'.count s'.words (ranked-after cap os s z so l room β s' left e).1 t tl γ p r h

  -- and so it does in the midst of a comparison that follows: over the words that stand where its budget ends, wherever that is, or when it is answered
  pub exec-short-within : (a b δ t : ℕ) → t < s'.count → (γ p r : ℕ) → resolve (after (unify s'.count (s'.words, a, b) δ)) s'.count t γ ≡ done p r → (c : ℕ) × (c + r ≡ γ) × (2 ^ c < 2 * s'.count)
  exec-short-within a b δ t tl γ p r h =
      let n : s'.count ≡ s.count + nodes os = subst (λ (o : Out U Bench). Counts os s o) e (exec-counts cap os s β) in
      let w = ranked-after cap os s z so l room β s' left e in
      ranked-short s'.count (after (unify s'.count (s'.words, a, b) δ)) (compared-ranked s'.count (omega arith) s'.words w.0 w.1 a b δ).1 t tl γ p r h
