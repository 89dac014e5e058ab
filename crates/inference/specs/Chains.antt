-- However long a formula's chain of equalities, no reference of its walk is ever more than a few bindings from its end.
--
-- `chains_short`: after any first part of a walk's operations, run at any capacity inside the limits and any budget, to follow a reference costs c units only where
-- 2^c is less than twice the count of nodes there. `chains_short-within`: and so it does at every point of a comparison that follows. `fifteen_bindings`, `fifteen_within`:
-- so never more than 15, the capacity being 32,768 at most.
use Rattle.std.specs.Prelude.{ℕ, ◌+◌, ◌*◌, ◌-◌, ◌^◌, ◌≤◌, ◌<◌, ◌≡◌, List, ◌++◌, length}
use Rattle.std.proofs.Math.Path.{refl, sym, subst}
use Rattle.std.proofs.Common.{◌∙◌, ap}
use native.Mathlib.Omega.{arith}
use Rattle.std.proofs.Math.Nat.{pow-le-pow_right}
use Rattle.std.proofs.Math.Decide.{dec_lt}
use Rattle.std.proofs.lemmas.List.{length-replicate}
use Rattle.meter.specs.Meter.{Out, spent, halt, done, full, M, Halts}
use Rattle.types.specs.Limits.{max_capacity}
use Rattle.formula.specs.Environment.{Env}
use Rattle.formula.specs.Tree.{Formula}
use Rattle.unification.specs.Arena.{U, resolve, unify}
use Rattle.unification.specs.Trees.{var}
use Rattle.unification.specs.Laws.{after}
use Rattle.unification.specs.Ops.{Op, Bench, Ready, Sound, sound-split, nodes, exec}
use Rattle.unification.proofs.Ops.{exec_full}
use Rattle.unification.specs.Exec.{Counts}
use Rattle.unification.proofs.Exec.{exec-counts}
use Rattle.unification.proofs.Short.{exec-short, exec-short-within}
use Rattle.walk.specs.Walk.{walked}
use Rattle.walk.specs.Triple.{nodes-append}
use Rattle.walk.specs.Verdict.{start}
use Rattle.inference.specs.Infer.{zeros}
use Rattle.inference.specs.Conclude.{size, safe}

-- what is used up or spent is not run to its end
never_done : (m : M U Bench) (c : ℕ) → Halts m full tt c → (budget : ℕ) (s : Bench) (left : ℕ) → m budget ≡ done s left → ⊥
never_done m c h budget s left e = at (dec_lt budget c)
  where
    at : Dec (budget < c) → ⊥
    at (yes l) = let q : spent tt ≡ done s left = sym (h.short budget l).1 ∙ e in let z : ◌≡◌ {A = ℕ} 0 1 = cc in omega arith
    at (no l) =
        let p : budget ≡ c + (budget - c) = omega arith in
        let q : halt full tt ≡ done s left = sym (ap m p ∙ h.from (budget - c)) ∙ e in
        let z : ◌≡◌ {A = ℕ} 0 1 = cc in
        omega arith

module _ (Γ : Env) (f : Formula) (os qs : List Op) (parts : (walked Γ f).ops ≡ os ++ qs) (capacity : ℕ) (limit : capacity ≤ max_capacity) (budget : ℕ) (s : Bench) (left : ℕ) (run : exec capacity os (start (zeros (3 * size Γ f))) budget ≡ done s left) where
  sound : Sound 0 os
  sound = (sound-split 0 os qs (subst (λ (ps : List Op). Sound 0 ps) parts (safe Γ f).0)).0

  part : nodes os ≤ size Γ f
  part = let e = ap nodes parts in let z = nodes-append os qs in omega arith

  long : 3 * size Γ f ≡ length (start (zeros (3 * size Γ f))).words
  unfolding start
  long = sym (length-replicate {A = ℕ} (3 * size Γ f) 0)

  -- what was made fits the capacity
  few : nodes os ≤ capacity
  unfolding start
  few = at (dec_lt capacity (nodes os))
    where
      at : Dec (capacity < nodes os) → nodes os ≤ capacity
      at (yes l) =
          let e = long in
          let p = part in
          let r : Ready capacity (start (zeros (3 * size Γ f))) = record { roomy = omega arith; good = record { tree = λ x. var x; rank = λ x. 0; fits = λ x q. absurd (omega arith) } } in
          let z = exec_full capacity os (start (zeros (3 * size Γ f))) r sound (omega arith) (omega arith) in
          absurd (never_done (exec capacity os (start (zeros (3 * size Γ f)))) z.0 z.1 budget s left run)
      at (no l) = omega arith

  -- after the last of these operations
  pub chains_short : (t : ℕ) → t < s.count → (β p r : ℕ) → resolve s.words s.count t β ≡ done p r → (c : ℕ) × (c + r ≡ β) × (2 ^ c < 2 * s.count)
  unfolding start
  chains_short =
      let e = long in
      let w = part in
      let l = few in
      exec-short capacity os (start (zeros (3 * size Γ f))) refl sound (omega arith) (omega arith) budget s left run

  -- in the midst of a comparison that follows, after any number of its units
  pub chains_short-within : (a b units t : ℕ) → t < s.count → (β p r : ℕ) → resolve (after (unify s.count (s.words, a, b) units)) s.count t β ≡ done p r → (c : ℕ) × (c + r ≡ β) × (2 ^ c < 2 * s.count)
  unfolding start
  chains_short-within =
      let e = long in
      let w = part in
      let l = few in
      exec-short-within capacity os (start (zeros (3 * size Γ f))) refl sound (omega arith) (omega arith) budget s left run

  -- as many nodes as were made
  counted : s.count ≡ nodes os
  unfolding start
  counted = let e = subst (λ (o : Out U Bench). Counts os (start (zeros (3 * size Γ f))) o) run (exec-counts capacity os (start (zeros (3 * size Γ f))) budget) in omega arith

  -- within the limit of 32,768 nodes
  fifteen : (c : ℕ) → 2 ^ c < 2 * s.count → c ≤ 15
  fifteen c q = at (dec_lt 15 c)
    where
      at : Dec (15 < c) → c ≤ 15
      at (yes l) = let m = pow-le-pow_right {n = 2} (omega arith) {i = 16} {j = c} l in let e = counted in let k = few in absurd (omega arith)
      at (no l) = omega arith

  pub fifteen_within : (a b units t : ℕ) → t < s.count → (β p r : ℕ) → resolve (after (unify s.count (s.words, a, b) units)) s.count t β ≡ done p r → (c : ℕ) × (c + r ≡ β) × (c ≤ 15)
  fifteen_within a b units t tl β p r h = let z = chains_short-within a b units t tl β p r h in (z.0, z.1, fifteen z.0 z.2)

  pub fifteen_bindings : (t : ℕ) → t < s.count → (β p r : ℕ) → resolve s.words s.count t β ≡ done p r → (c : ℕ) × (c + r ≡ β) × (c ≤ 15)
  fifteen_bindings t tl β p r h = let z = chains_short t tl β p r h in let k = fifteen z.0 z.2 in (z.0, z.1, omega arith)
