-- What a layer above can conclude from the laws alone. No line here unfolds a definition of crates `meter` or `unification`.
--
-- `chain`: two comparisons that succeed admit just the assignments that equate three references. `chain-fails`: where the second one fails, none does.
-- `fixed_then`, `typed_then`: a reference that was told solved has one type in all of them, and that type is read with the same budget.
-- `eleven_bindings`: in an arena of 2,048 nodes no reference is more than 11 bindings from its end.
-- `power-made`, `power_admitted`: a list of operations that makes an unknown and its power ends at every budget, and then the second is the power of the first.
-- `left-bound_too`: a list that was run lists, where of two unknowns always the left one is bound, the same problems, and fixes the same references.
use Rattle.std.specs.Prelude.{ℕ, suc, ◌+◌, ◌*◌, ◌^◌, ◌≤◌, ◌<◌, ◌≡◌, refl, ◌≢◌, ◌↔◌, true, List, [], ◌∷◌, length}
use Rattle.std.proofs.Common.{◌∙◌, ap, subst, arith}
use Rattle.std.proofs.Math.Nat.{pow-le-pow_right}
use Rattle.std.proofs.Math.Decide.{dec_lt}
use Rattle.meter.specs.Meter.{done, Costs, exact-done}
use Rattle.types.specs.Ty.{Ty, pow}
use Rattle.unification.specs.Arena.{Words, node_at, left_bound, resolve, solved, read, Verdict, unified, unify}
use Rattle.unification.specs.Good.{Assignment, Admits}
use Rattle.unification.specs.Laws.{Reached, called, after}
use Rattle.unification.proofs.Laws.{unify_success, unify_failure, unify-steps, solved-law, read-law}
use Rattle.unification.specs.History.{after-done}
use Rattle.unification.specs.Ops.{Op, make, Bench, exec, grow, nodes, Sound, Meets, Admitted, Ready, Judged, clean, hopeless}
use Rattle.unification.proofs.Ops.{exec-exact}
use Rattle.unification.proofs.Short.{resolve-short}
use Rattle.unification.proofs.Direction.{left_binds}
use Rattle.unification.specs.Runs.{Runs}
use Rattle.unification.proofs.Runs.{every-run}
use Rattle.unification.specs.Exec.{grow-count, grow-problems}
use Rattle.unification.proofs.Exec.{exec_nil, exec-made}

-- a comparison that was answered is one more step of the history
pub compared : {n : ℕ} {ws : Words} → Reached n ws → (a b β r : ℕ) (v : Verdict) (ws' : Words) → unify n (ws, a, b) β ≡ done (v, ws') r → Reached n ws'
compared {n} R a b β r v ws' e = subst (λ (vs : Words). Reached n vs) (ap after e ∙ after-done (v, ws') r) (called a b β R)

module _ {n : ℕ} {ws : Words} (R : Reached n ws) (a b c : ℕ) (al : a < n) (bl : b < n) (cl : c < n) (β r : ℕ) (ws' : Words) (e : unify n (ws, a, b) β ≡ done (unified, ws') r) where
  pub chain : (γ s : ℕ) (ws'' : Words) → unify n (ws', b, c) γ ≡ done (unified, ws'') s → (σ : Assignment) → Admits n (node_at ws'' n) σ ↔ (Admits n (node_at ws n) σ × (σ a ≡ σ b) × (σ b ≡ σ c))
  chain γ s ws'' f σ =
      let one = unify_success R a b al bl β r ws' e σ in
      let two = unify_success (compared R a b β r unified ws' e) b c bl cl γ s ws'' f σ in
      (λ A. ((one.0 (two.0 A).0).0, (one.0 (two.0 A).0).1, (two.0 A).1), λ A. two.1 (one.1 (A.0, A.1), A.2))

  pub chain-fails : (γ s : ℕ) (v : Verdict) (ws'' : Words) → v ≢ unified → unify n (ws', b, c) γ ≡ done (v, ws'') s → (σ : Assignment) → Admits n (node_at ws n) σ → σ a ≡ σ b → σ b ≢ σ c
  chain-fails γ s v ws'' d f σ A q = unify_failure (compared R a b β r unified ws' e) b c bl cl γ s v ws'' d f σ ((unify_success R a b al bl β r ws' e σ).1 (A, q))

  -- what the first comparison took is the least budget for it
  pub first_costs : (k : ℕ) × (k + r ≡ β) × Costs (unify n (ws, a, b)) (unified, ws') k
  first_costs = unify-steps n (ws, a, b) β r (unified, ws') e

module _ {n : ℕ} {ws : Words} (R : Reached n ws) (t : ℕ) (tl : t < n) (β r : ℕ) (e : solved ws n t β ≡ done true r) where
  pub fixed_then : (σ σ' : Assignment) → Admits n (node_at ws n) σ → Admits n (node_at ws n) σ' → σ t ≡ σ' t
  fixed_then = (solved-law R t tl β r true e).0 refl

  pub typed_then : (T : Ty) × (read ws n t β ≡ done T r) × ((σ : Assignment) → Admits n (node_at ws n) σ → σ t ≡ T)
  typed_then = read-law R t tl β r e

-- what following a reference costs
pub eleven_bindings : {n : ℕ} {ws : Words} → Reached n ws → n ≤ 2048 → (t : ℕ) → t < n → (β p r : ℕ) → resolve ws n t β ≡ done p r → β ≤ 11 + r
eleven_bindings {n} R l t tl β p r e =
    let z = resolve-short R (omega arith) t tl β p r e in
    at z.0 z.1 z.2 (dec_lt 11 z.0)
  where
    at : (c : ℕ) → c + r ≡ β → 2 ^ c < 2 * n → Dec (11 < c) → β ≤ 11 + r
    at c q h (yes k) = let m = pow-le-pow_right {n = 2} (omega arith) {i = 12} {j = c} k in absurd (omega arith)
    at c q h (no k) = omega arith

-- a list that listed nothing is met by all that is admitted after it
met-after : (s : Bench) (os : List Op) (s' : Bench) → s'.problems ≡ s.problems → Judged s os s' → (σ : Assignment) → Admitted s' σ → Meets σ s.count os
met-after s os s' e (clean _ f) σ A = (f σ A).1
met-after s os s' e (hopeless l f) σ A = let z = ap length e in absurd (omega arith)

module _ (cap : ℕ) (s : Bench) (l : suc s.count < cap) where
  abbrev pub unknown_power : List Op
  unknown_power = make 0x4E 0 0 ∷ make 0x43 s.count 0 ∷ []

  abbrev pub one : Bench
  one = grow s 0x4E 0 0

  abbrev pub two : Bench
  two = grow one 0x43 s.count 0

  pub power-made : (β : ℕ) → exec cap unknown_power s β ≡ done two β
  power-made β =
      let c = grow-count s 0x4E 0 0 in
      exec-made cap s (make 0x43 s.count 0 ∷ []) 0x4E 0 0 (omega arith) β ∙ exec-made cap one [] 0x43 s.count 0 (omega arith) β ∙ exec_nil cap two β

  pub power_admitted : Ready cap s → (σ : Assignment) → Admitted two σ → σ (suc s.count) ≡ pow (σ s.count)
  power_admitted r σ A =
      let x = exec-exact cap unknown_power s r ((tt, λ _. refl), ((omega arith, λ _. refl), tt)) (omega arith) in
      let j = (exact-done x 0 two 0 (power-made 0)).judged in
      (met-after s unknown_power two (grow-problems one 0x43 s.count 0 ∙ grow-problems s 0x4E 0 0) j σ A).1.0

-- in the Rust's direction
module _ (cap : ℕ) (os : List Op) (s : Bench) (ready : Ready cap s) (sound : Sound s.count os) (fit : s.count + nodes os ≤ cap) (β : ℕ) (t : Bench) (r : ℕ) (e : exec cap os s β ≡ done t r) where
  pub left-bound_too : (t' : Bench) → Runs left_bound os s t' → (t'.problems ≡ t.problems) × ((x : ℕ) → ((σ σ' : Assignment) → Admitted t σ → Admitted t σ' → σ x ≡ σ' x) → (σ σ' : Assignment) → Admitted t' σ → Admitted t' σ' → σ x ≡ σ' x)
  left-bound_too t' run =
      let w = every-run left_bound left_binds cap os s ready.roomy ready.good sound fit β t r e t' run in
      let back : (σ : Assignment) → Admitted t' σ → Admitted t σ = λ σ A. w.2.from σ (subst (λ (n : ℕ). Admits n (node_at t'.words n) σ) w.0 A) in
      (w.1, λ x h σ σ' A A'. h σ σ' (back σ A) (back σ' A'))
