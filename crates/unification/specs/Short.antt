-- How short the chains of bindings are.
--
-- In a ranked arena of n nodes c bindings are followed from a reference only where 2^c < 2 * n (`follows_short`): with 2,048 nodes never more than 11, however long the
-- chain of equalities. `resolve-short`: so in every arena reached by public calls. `exec-short`, `exec-short-within`: after every list of operations, and at every point
-- of a comparison that follows it.
-- Theorems that rest on what must-fail edits change stand in proofs/Short.antt.
use Prim.Native.Nat.{ℕ, suc, ◌+◌, ◌*◌, ◌^◌, ◌<◌}
use Rattle.std.proofs.Math.Path.{◌≡◌, refl}
use Rattle.std.proofs.Common.{sym, ap, subst}
use native.Mathlib.Omega.{arith}
use Rattle.std.proofs.Math.Nat.{pow-succ', pow-le-pow_right}
use Rattle.unification.specs.Arena.{Node, free, link, leaf, power, pair, bad, Words, node_at, rank_at}
use Rattle.unification.specs.Good.{Root}
use Rattle.unification.specs.ByRule.{End, Follows, at-root, outside, along}
use Rattle.unification.specs.Ranked.{Ranked, Var, Solid, part, stood-free, stood-link}

-- ---- how far a reference is from its end
module _ (n : ℕ) (ws : Words) (R : Ranked n ws) where
  abbrev Chain : ℕ → ℕ → Node → Type 0
  Chain t c free = 2 ^ (rank_at ws t + c) < 2 * n
  Chain t c (link j) = 2 ^ (rank_at ws t + c) < 2 * n
  Chain t c (leaf p) = c ≡ 0
  Chain t c (power x) = c ≡ 0
  Chain t c (pair x y) = c ≡ 0
  Chain t c bad = c ≡ 0

  at-end : (t : ℕ) → t < n → (nd : Node) → node_at ws n t ≡ nd → Root nd → Chain t 0 nd
  at-end t l free e q =
      let p = stood-free n ws R t l e in
      let r = part n ws R t l e in
      let z : rank_at ws t + 0 ≡ rank_at ws t = omega arith in
      let w = ap (λ (k : ℕ). 2 ^ k) z in
      omega arith
  at-end t l (link j) e q = absurd q
  at-end t l (leaf p) e q = refl
  at-end t l (power x) e q = refl
  at-end t l (pair x y) e q = refl
  at-end t l bad e q = absurd q

  -- one binding more: to a node that is no unknown, or up in rank
  past_all : (t c : ℕ) → 2 ^ rank_at ws t < n → c ≡ 0 → 2 ^ (rank_at ws t + suc c) < 2 * n
  past_all t c l h = let e : rank_at ws t + suc c ≡ suc (rank_at ws t) = omega arith in let w = ap (λ (k : ℕ). 2 ^ k) e in let z = pow-succ' 2 (rank_at ws t) in omega arith

  up_one : (t j c : ℕ) → rank_at ws t < rank_at ws j → 2 ^ (rank_at ws j + c) < 2 * n → 2 ^ (rank_at ws t + suc c) < 2 * n
  up_one t j c l h = let m = pow-le-pow_right {n = 2} (omega arith) {i = rank_at ws t + suc c} {j = rank_at ws j + c} (omega arith) in omega arith

  further : (t j c : ℕ) (nd : Node) → (Var nd → rank_at ws t < rank_at ws j) → (Solid nd → 2 ^ rank_at ws t < n) → Chain j c nd → 2 ^ (rank_at ws t + suc c) < 2 * n
  further t j c free up few h = up_one t j c (up tt) h
  further t j c (link x) up few h = up_one t j c (up tt) h
  further t j c (leaf p) up few h = past_all t c (few tt) h
  further t j c (power x) up few h = past_all t c (few tt) h
  further t j c (pair x y) up few h = past_all t c (few tt) h
  further t j c bad up few h = past_all t c (few tt) h

  chained : {t c : ℕ} {e : End (ℕ × Node)} → t < n → Follows ws n t e c → Chain t c (node_at ws n t)
  chained l (at-root {t} {nd} e q) = subst (λ (k : Node). Chain t 0 k) (sym e) (at-end t l nd e q)
  chained l (outside {t} e) = subst (λ (k : Node). Chain t 0 k) (sym e) refl
  chained l (along {t} {j} {c} e f) =
      let w = stood-link n ws R t j l e in
      subst (λ (k : Node). Chain t (suc c) k) (sym e) (further t j c (node_at ws n j) w.1 w.2 (chained w.0 f))

  bounded : (t c : ℕ) → t < n → (nd : Node) → Chain t c nd → 2 ^ c < 2 * n
  bounded t c l free h = let m = pow-le-pow_right {n = 2} (omega arith) {i = c} {j = rank_at ws t + c} (omega arith) in omega arith
  bounded t c l (link j) h = let m = pow-le-pow_right {n = 2} (omega arith) {i = c} {j = rank_at ws t + c} (omega arith) in omega arith
  bounded t c l (leaf p) h = let m : 2 ^ c ≡ 2 ^ 0 = ap (λ (k : ℕ). 2 ^ k) h in omega arith
  bounded t c l (power x) h = let m : 2 ^ c ≡ 2 ^ 0 = ap (λ (k : ℕ). 2 ^ k) h in omega arith
  bounded t c l (pair x y) h = let m : 2 ^ c ≡ 2 ^ 0 = ap (λ (k : ℕ). 2 ^ k) h in omega arith
  bounded t c l bad h = let m : 2 ^ c ≡ 2 ^ 0 = ap (λ (k : ℕ). 2 ^ k) h in omega arith

  -- c bindings are followed from t only where 2^c < 2 * n
  pub follows_short : {t c : ℕ} {e : End (ℕ × Node)} → t < n → Follows ws n t e c → 2 ^ c < 2 * n
  follows_short {t} {c} l f = bounded t c l (node_at ws n t) (chained l f)
