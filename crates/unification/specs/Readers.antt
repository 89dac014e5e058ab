-- Over an arena in solved form `resolve`, `occurs`, `solved` and `read` end, each at a price of its own, and what they answer: the root of the same tree; whether
-- the unknown stands in the tree; whether the tree is ground; the type that every valuation gives it.
use Prim.Native.Nat.{ℕ, zero, suc, ◌≤◌, ◌<◌}
use Rattle.std.proofs.Math.Path.{◌≡◌, refl, sym, ap, ap₂}
use Rattle.std.proofs.Common.{◌∙◌, subst, arith}
use Rattle.std.specs.Prelude.{Bool, ◌&&◌, ◌||◌, eqb}
use Rattle.std.proofs.Math.Bool.{true, false}
use borrow.Author.Tests.{eqb-true, eq-eqb}
use Rattle.meter.specs.Meter.{M, ret, Exact, exact-ret, exact-tick, exact_eq, exact-map, exact-bind}
use Rattle.types.specs.Ty.{Ty, base, pow, prod}
use Rattle.unification.specs.Arena.{Node, free, link, leaf, power, pair, bad, Words, U, node_at, choose, follow, resolve, in_node, occurs_f, occurs, all_node, solved_f, solved, type_node, read_f, read}
use Rattle.unification.specs.Trees.{Tm, var, tprod, eval, has, ground, size, and_left, and_right}
use Rattle.unification.specs.Good.{Fits, Good, Root, Step, good_ind}
use Rattle.unification.specs.Steps.{resolve_eq, occurs_eq, solved_eq, read_eq}

module _ (ws : Words) (n : ℕ) (G : Good n (node_at ws n)) where
  pub record Rooted (t r : ℕ) : Type 0 where
    pub inside : r < n
    pub root : Root (node_at ws n r)
    pub same : G.tree r ≡ G.tree t

  abbrev Resolves : ℕ → Type 0
  Resolves t = Exact (λ _. U) (Rooted t) (resolve ws n t)

  at-root : (t : ℕ) → t < n → (nd : Node) → node_at ws n t ≡ nd → Root nd → follow (resolve ws n) t nd ≡ ret t → Resolves t
  at-root t l nd e q h = exact_eq (resolve_eq ws n t ∙ ap (follow (resolve ws n) t) e ∙ h) (exact-ret (Rooted t) t (record { inside = l; root = subst (λ (k : Node). Root k) (sym e) q; same = refl }))

  resolve-step : (t : ℕ) → t < n → (nd : Node) → node_at ws n t ≡ nd → Fits n G.tree G.rank t nd → Step Resolves t nd
  unfolding follow
  resolve-step t l free e f = at-root t l free e tt refl
  resolve-step t l (link j) e f = λ q. exact_eq (resolve_eq ws n t ∙ ap (follow (resolve ws n) t) e)
      (exact-tick tt tt (exact-map (λ _ s. s) (λ r h. record { inside = h.inside; root = h.root; same = h.same ∙ sym f.1 }) q))
  resolve-step t l (leaf p) e f = at-root t l (leaf p) e tt refl
  resolve-step t l (power y) e f = λ _. at-root t l (power y) e tt refl
  resolve-step t l (pair y z) e f = λ _ _. at-root t l (pair y z) e tt refl
  resolve-step t l bad e f = tt

  pub resolve-exact : (t : ℕ) → t < n → Exact (λ _. U) (Rooted t) (resolve ws n t)
  resolve-exact = good_ind n (node_at ws n) G Resolves (λ t l. resolve-step t l (node_at ws n t) refl (G.fits t l))

  -- occurs v t ends; where v is an unbound unknown it answers whether v stands in the tree of t
  module _ (v : ℕ) where
    abbrev pub Found : Tm → Bool → Type 0
    Found T c = G.tree v ≡ var v → c ≡ has v T

    abbrev Finds : Tm → M U Bool → Type 0
    Finds T m = Exact (λ _. U) (Found T) m

    or_step : (x y : Tm) (c : Bool) {m : M U Bool} → Found x c → Finds y m → Finds (tprod x y) (choose c (ret true) m)
    unfolding choose has
    or_step x y true h q = exact-ret _ true (λ fr. ap (λ d. d || has v y) (h fr))
    or_step x y false h q = exact-map (λ _ s. s) (λ d g fr. g fr ∙ ap (λ d. d || has v y) (h fr)) q

    occurs-node : (r k : ℕ) → size (G.tree r) ≤ k → eqb r v ≡ false → ((t : ℕ) → t < n → size (G.tree t) < k → Finds (G.tree t) (occurs ws n v t))
        → (nd : Node) → Fits n G.tree G.rank r nd → Root nd → Finds (G.tree r) (in_node (occurs ws n v) nd)
    unfolding in_node has size
    occurs-node r k s e rec free f q = exact-ret _ false (λ fr. sym (ap (has v) f ∙ e))
    occurs-node r k s e rec (link j) f q = absurd q
    occurs-node r k s e rec (leaf p) f q = exact-ret _ false (λ fr. sym (ap (has v) f))
    occurs-node r k s e rec (power y) f q = let z = rw f.1 at s in exact-map (λ _ u. u) (λ c h fr. h fr ∙ sym (ap (has v) f.1)) (rec y f.0 (omega arith))
    occurs-node r k s e rec (pair x y) f q = let z = rw f.2 at s in
        exact-map (λ _ u. u) (λ c h fr. h fr ∙ sym (ap (has v) f.2))
        (exact-bind (rec x f.0 (omega arith)) (λ c h. or_step (G.tree x) (G.tree y) c h (rec y f.1 (omega arith))))
    occurs-node r k s e rec bad f q = absurd q

    occurs-at : (r k : ℕ) → r < n → Root (node_at ws n r) → size (G.tree r) ≤ k → ((t : ℕ) → t < n → size (G.tree t) < k → Finds (G.tree t) (occurs ws n v t))
        → (c : Bool) → eqb r v ≡ c → Finds (G.tree r) (choose c (ret true) (in_node (occurs ws n v) (node_at ws n r)))
    unfolding choose has
    occurs-at r k l q s rec true e = exact-ret _ true (λ fr. sym (ap (λ (y : ℕ). has v (G.tree y)) (eqb-true r v e) ∙ ap (has v) fr ∙ eq-eqb v v refl))
    occurs-at r k l q s rec false e = occurs-node r k s e rec (node_at ws n r) (G.fits r l) q

    occurs-upto : (k t : ℕ) → t < n → size (G.tree t) < k → Finds (G.tree t) (occurs ws n v t)
    unfolding occurs_f
    occurs-upto zero t l s = absurd (omega arith)
    occurs-upto (suc k) t l s = exact_eq (occurs_eq ws n v t) (exact-bind (resolve-exact t l) λ r h.
        exact-tick tt tt (exact-map (λ _ u. u) (λ c g fr. g fr ∙ ap (has v) h.same)
        (occurs-at r k h.inside h.root (rw h.same (omega arith)) (occurs-upto k) (eqb r v) refl)))

    pub occurs-exact : (t : ℕ) → t < n → Exact (λ _. U) (λ c. G.tree v ≡ var v → c ≡ has v (G.tree t)) (occurs ws n v t)
    occurs-exact t l = occurs-upto (suc (size (G.tree t))) t l (omega arith)

  -- solved t answers whether the tree of t has no unknown
  abbrev Grounds : ℕ → M U Bool → Type 0
  Grounds t m = Exact (λ _. U) (λ c. c ≡ ground (G.tree t)) m

  and_step : (x y : Tm) (c : Bool) {m : M U Bool} → c ≡ ground x → Exact (λ _. U) (λ d. d ≡ ground y) m → Exact (λ _. U) (λ d. d ≡ ground x && ground y) (choose c m (ret false))
  unfolding choose
  and_step x y true h q = exact-map (λ _ s. s) (λ d g. g ∙ ap (λ d. d && ground y) h) q
  and_step x y false h q = exact-ret _ false (ap (λ d. d && ground y) h)

  solved-node : (r k : ℕ) → size (G.tree r) ≤ k → ((t : ℕ) → t < n → size (G.tree t) < k → Grounds t (solved ws n t))
      → (nd : Node) → Fits n G.tree G.rank r nd → Root nd → Grounds r (all_node (solved ws n) nd)
  unfolding all_node ground size
  solved-node r k s rec free f q = exact-ret _ false (sym (ap ground f))
  solved-node r k s rec (link j) f q = absurd q
  solved-node r k s rec (leaf p) f q = exact-ret _ true (sym (ap ground f))
  solved-node r k s rec (power y) f q = let z = rw f.1 at s in exact-map (λ _ u. u) (λ c h. h ∙ sym (ap ground f.1)) (rec y f.0 (omega arith))
  solved-node r k s rec (pair x y) f q = let z = rw f.2 at s in
      exact-map (λ _ u. u) (λ c h. h ∙ sym (ap ground f.2))
      (exact-bind (rec x f.0 (omega arith)) (λ c h. and_step (G.tree x) (G.tree y) c h (rec y f.1 (omega arith))))
  solved-node r k s rec bad f q = absurd q

  solved-upto : (k t : ℕ) → t < n → size (G.tree t) < k → Grounds t (solved ws n t)
  unfolding solved_f
  solved-upto zero t l s = absurd (omega arith)
  solved-upto (suc k) t l s = exact_eq (solved_eq ws n t) (exact-bind (resolve-exact t l) λ r h.
      exact-tick tt tt (exact-map (λ _ u. u) (λ c g. g ∙ ap ground h.same)
      (solved-node r k (rw h.same (omega arith)) (solved-upto k) (node_at ws n r) (G.fits r h.inside) h.root)))

  pub solved-exact : (t : ℕ) → t < n → Exact (λ _. U) (λ c. c ≡ ground (G.tree t)) (solved ws n t)
  solved-exact t l = solved-upto (suc (size (G.tree t))) t l (omega arith)

  -- read t answers the type that every valuation gives the tree of t
  abbrev Types : ℕ → M U Ty → Type 0
  Types t m = Exact (λ _. U) (λ T. (σ : ℕ → Ty) → eval σ (G.tree t) ≡ T) m

  read-node : (r k : ℕ) → size (G.tree r) ≤ k → ground (G.tree r) ≡ true → ((t : ℕ) → t < n → size (G.tree t) < k → ground (G.tree t) ≡ true → Types t (read ws n t))
      → (nd : Node) → Fits n G.tree G.rank r nd → Root nd → Types r (type_node (read ws n) nd)
  unfolding type_node ground size eval
  read-node r k s g rec free f q = let h = rw f at g in let z : ◌≡◌ {A = ℕ} 0 1 = cc in absurd (omega arith)
  read-node r k s g rec (link j) f q = absurd q
  read-node r k s g rec (leaf p) f q = exact-ret _ (base p) (λ σ. ap (eval σ) f)
  read-node r k s g rec (power y) f q = let z = rw f.1 at s in let h = rw f.1 at g in
      exact-bind (rec y f.0 (omega arith) h) (λ T e. exact-ret _ (pow T) (λ σ. ap (eval σ) f.1 ∙ ap pow (e σ)))
  read-node r k s g rec (pair x y) f q = let z = rw f.2 at s in let h = rw f.2 at g in
      exact-bind (rec x f.0 (omega arith) (and_left (ground (G.tree x)) (ground (G.tree y)) h)) (λ S d.
      exact-bind (rec y f.1 (omega arith) (and_right (ground (G.tree x)) (ground (G.tree y)) h)) (λ T e.
      exact-ret _ (prod S T) (λ σ. ap (eval σ) f.2 ∙ ap₂ prod (d σ) (e σ))))
  read-node r k s g rec bad f q = absurd q

  read-upto : (k t : ℕ) → t < n → size (G.tree t) < k → ground (G.tree t) ≡ true → Types t (read ws n t)
  unfolding read_f
  read-upto zero t l s g = absurd (omega arith)
  read-upto (suc k) t l s g = exact_eq (read_eq ws n t) (exact-bind (resolve-exact t l) λ r h.
      exact-tick tt tt (exact-map (λ _ u. u) (λ T e σ. ap (eval σ) (sym h.same) ∙ e σ)
      (read-node r k (rw h.same (omega arith)) (rw h.same g) (read-upto k) (node_at ws n r) (G.fits r h.inside) h.root)))

  pub read-exact : (t : ℕ) → t < n → ground (G.tree t) ≡ true → Exact (λ _. U) (λ T. (σ : ℕ → Ty) → eval σ (G.tree t) ≡ T) (read ws n t)
  read-exact t l g = read-upto (suc (size (G.tree t))) t l (omega arith) g
