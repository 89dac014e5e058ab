-- Of any words: where `solved` says yes, `read` answers a type with as much left of the budget (`read_as_solved`).
use Prim.Native.Nat.{ℕ, zero, suc, ◌≤◌, ◌<◌}
use Rattle.std.proofs.Math.Path.{◌≡◌, refl, ap}
use Rattle.std.proofs.Common.{sym, ◌∙◌, arith}
use Rattle.std.specs.Prelude.{Bool}
use Rattle.std.proofs.Math.Bool.{true, false}
use Rattle.meter.specs.Meter.{Out, spent, halt, done, M, ret, fail, tick, on, ◌>>=◌, within_le}
use Rattle.types.specs.Ty.{Ty, base, pow, prod}
use Rattle.unification.specs.Arena.{Node, free, link, leaf, power, pair, bad, Words, U, node_at, choose, resolve, all_node, solved_f, solved, type_node, read_f, read}
use Rattle.unification.specs.Steps.{resolve_metered, solved_metered, solved_eq, read_eq}

module _ (ws : Words) (n : ℕ) where
  abbrev Typed : M U Ty → ℕ → ℕ → Type 0
  Typed m b r = (T : Ty) × (m b ≡ done T r)

  pair_twin : (x y b r : ℕ) → ((c : ℕ) → c ≤ b → (t q : ℕ) → solved ws n t c ≡ done true q → Typed (read ws n t) c q)
      → (o : Out U Bool) → solved ws n x b ≡ o → on o (λ all. choose all (solved ws n y) (ret false)) ≡ done true r → Typed (type_node (read ws n) (pair x y)) b r
  unfolding on choose ret type_node ◌>>=◌
  pair_twin x y b r ih (spent f) eo e = let z : ◌≡◌ {A = ℕ} 0 1 = cc in absurd (omega arith)
  pair_twin x y b r ih (halt w f) eo e = let z : ◌≡◌ {A = ℕ} 0 1 = cc in absurd (omega arith)
  pair_twin x y b r ih (done true c) eo e =
      let l : c ≤ b = within_le b ((solved_metered ws n x).within b) true c eo in
      let p = ih b (omega arith) x c eo in
      let q = ih c l y r e in
      (prod p.0 q.0, ap (λ o. on o (λ s. read ws n y >>= λ t. ret (prod s t))) p.1 ∙ ap (λ o. on o (λ t. ret (prod p.0 t))) q.1)
  pair_twin x y b r ih (done false c) eo e = let z : ◌≡◌ {A = ℕ} 0 1 = cc in absurd (omega arith)

  node_twin : (nd : Node) (b r : ℕ) → ((c : ℕ) → c ≤ b → (t q : ℕ) → solved ws n t c ≡ done true q → Typed (read ws n t) c q)
      → all_node (solved ws n) nd b ≡ done true r → Typed (type_node (read ws n) nd) b r
  unfolding all_node type_node ret fail ◌>>=◌ on
  node_twin free b r ih e = let z : ◌≡◌ {A = ℕ} 0 1 = cc in absurd (omega arith)
  node_twin (link j) b r ih e = let z : ◌≡◌ {A = ℕ} 0 1 = cc in absurd (omega arith)
  node_twin (leaf p) b r ih e = (base p, cc)
  node_twin (power x) b r ih e = let p = ih b (omega arith) x r e in (pow p.0, ap (λ o. on o (λ s. ret (pow s))) p.1)
  node_twin (pair x y) b r ih e = pair_twin x y b r ih (solved ws n x b) refl e
  node_twin bad b r ih e = let z : ◌≡◌ {A = ℕ} 0 1 = cc in absurd (omega arith)

  root_twin : (t b r : ℕ) → ((c : ℕ) → c < b → (t q : ℕ) → solved ws n t c ≡ done true q → Typed (read ws n t) c q) → (o : Out U ℕ) → resolve ws n t b ≡ o
      → on o (λ p. tick tt (all_node (solved ws n) (node_at ws n p))) ≡ done true r → (T : Ty) × (on o (λ p. tick tt (type_node (read ws n) (node_at ws n p))) ≡ done T r)
  unfolding on tick
  root_twin t b r ih (spent f) eo e = let z : ◌≡◌ {A = ℕ} 0 1 = cc in absurd (omega arith)
  root_twin t b r ih (halt w f) eo e = let z : ◌≡◌ {A = ℕ} 0 1 = cc in absurd (omega arith)
  root_twin t b r ih (done p zero) eo e = let z : ◌≡◌ {A = ℕ} 0 1 = cc in absurd (omega arith)
  root_twin t b r ih (done p (suc c)) eo e =
      let l : suc c ≤ b = within_le b ((resolve_metered ws n t).within b) p (suc c) eo in
      node_twin (node_at ws n p) c r (λ d q. ih d (omega arith)) e

  upto_twin : (k b : ℕ) → b < k → (t r : ℕ) → solved ws n t b ≡ done true r → Typed (read ws n t) b r
  unfolding solved_f read_f ◌>>=◌
  upto_twin zero b l t r e = absurd (omega arith)
  upto_twin (suc k) b l t r e =
      let h = root_twin t b r (λ c q. upto_twin k c (omega arith)) (resolve ws n t b) refl (sym (ap (λ (m : M U Bool). m b) (solved_eq ws n t)) ∙ e) in
      (h.0, ap (λ (m : M U Ty). m b) (read_eq ws n t) ∙ h.1)

  pub read_as_solved : (t b r : ℕ) → solved ws n t b ≡ done true r → (T : Ty) × (read ws n t b ≡ done T r)
  read_as_solved t b r e = upto_twin (suc b) b (omega arith) t r e
