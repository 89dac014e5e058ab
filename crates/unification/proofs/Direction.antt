-- The theorems of specs/Direction.antt, whose head says what they give: `tells-outcome`, `follows_suit`.
use Rattle.std.specs.Prelude.{ℕ, zero, suc, ◌+◌, ◌*◌, ◌≤◌, ◌<◌, refl, ◌≢◌, Bool, true, false, eqb, length}
use Rattle.std.proofs.Math.Path.{◌≡◌, ap}
use Rattle.std.proofs.Common.{sym, ◌∙◌, ap₂, subst, eq-eqb, ne_eqb}
use native.Mathlib.Omega.{arith}
use Rattle.std.proofs.Math.Decide.{ℕ_discrete}
use Rattle.meter.specs.Meter.{Out, exact-done}
use Rattle.types.specs.Ty.{Atom, bool, int, given, Ty, base, pow}
use Rattle.unification.specs.Arena.{Node, free, link, leaf, power, pair, bad, Words, U, node_at, Direction, merge_at, left_bound, Verdict, unified, mismatch, circular, Meeting, bindLeft, bindRight, agree, clash, down, both, same_atom, verdict_of, meet}
use Rattle.unification.specs.Trees.{var, has, size}
use Rattle.unification.specs.Good.{Assignment, Says, Fits, Good, Root, Step, good_ind, extend, extend_admits, extend-free}
use Rattle.unification.proofs.Good.{length-bind, node-bind-same, node-bind-other}
use Rattle.unification.specs.Merge.{to_right}
use Rattle.unification.proofs.Merge.{merged}
use Rattle.unification.specs.Readers.{occurs-exact}
use Rattle.unification.specs.Frame.{left-unknown, right-unknown}
use Rattle.unification.specs.Unifies.{Allows, Outcome, kept_refl, outcome-map, never, merging, left_half, right_half}
use Rattle.unification.specs.ByRule.{ends, Follows, at-root, along, Occurs, Apart, Tells, equal, agrees, clashes, binds_left, circles_left, binds_right, circles_right, powers, left-ends, halves, outcome, occurs-run, Sought, run-occurs}
use Rattle.unification.specs.Shapes.{agree-says, clash-says, down-powers, both-pairs, Same, same_refl, Matched, unknowns, atoms, powers as alike-powers, pairs as alike-pairs, matched, Alike, meets-alike, alike-left, alike_right, alike-agree, alike-clash, alike-down, alike_both}
use Rattle.unification.specs.Direction.{OneBinding, Reaches, Also}

pub merge_binds : OneBinding merge_at
merge_binds ws n v t s vl tl = merged ws n v t s vl tl

pub left_binds : OneBinding left_bound
unfolding left_bound
left_binds ws n v t s vl tl = to_right (record { long = length-bind ws v t; here = node-bind-same ws n v t vl s; there = λ z h. node-bind-other ws n v t z h })

-- ---- what the rules of following and of the occurs check say in an arena in solved form
module _ (n : ℕ) (ws : Words) (G : Good n (node_at ws n)) where
  reaches : {t c : ℕ} {o : ℕ × Node} → t < n → Follows ws n t (ends o) c → Reaches n ws G t o
  reaches l (at-root e q) = record { inside = l; node = e; root = q; tree = refl; equal = λ σ A. refl }
  reaches {t} l (along {j = j} e f) =
      let w : Fits n G.tree G.rank t (link j) = subst (λ (k : Node). Fits n G.tree G.rank t k) e (G.fits t l) in
      let r = reaches w.0 f in
      record { inside = r.inside; node = r.node; root = r.root; tree = r.tree ∙ sym w.1; equal = λ σ A. subst (λ (k : Node). Says σ t k) e (A t l) ∙ r.equal σ A }

  abbrev Leads : ℕ → Type 0
  Leads t = (o : ℕ × Node) × (c : ℕ) × Follows ws n t (ends o) c

  leads-step : (t : ℕ) (nd : Node) → node_at ws n t ≡ nd → Step Leads t nd
  leads-step t free e = ((t, free), 0, at-root e tt)
  leads-step t (link j) e = λ q. (q.0, suc q.1, along e q.2)
  leads-step t (leaf p) e = ((t, leaf p), 0, at-root e tt)
  leads-step t (power x) e = λ _. ((t, power x), 0, at-root e tt)
  leads-step t (pair x y) e = λ _ _. ((t, pair x y), 0, at-root e tt)
  leads-step t bad e = tt

  leads : (t : ℕ) → t < n → (o : ℕ × Node) × (c : ℕ) × Follows ws n t (ends o) c
  leads = good_ind n (node_at ws n) G Leads (λ t l. leads-step t (node_at ws n t) refl)

  sought : (v t : ℕ) → t < n → (c : Bool) × (d : ℕ) × Occurs ws n v t (ends c) d
  sought v t l =
      let x = occurs-exact ws n G v t l in
      let s = subst (λ (o : Out U Bool). Sought ws n v t o) (x.enough 0) (run-occurs ws n v t (x.cost + 0)) in
      (x.answer, s.0, s.1)

  found_in : (v t : ℕ) → t < n → {c : Bool} {d : ℕ} → Occurs ws n v t (ends c) d → G.tree v ≡ var v → c ≡ has v (G.tree t)
  unfolding outcome
  found_in v t l {c} {d} x = exact-done (occurs-exact ws n G v t l) (d + 0) c 0 ((occurs-run ws n v x).from 0)

-- ---- whatever the direction: what a derivation's verdict means
module _ (by : Direction) (one : OneBinding by) (n : ℕ) where
  abbrev Asks : ℕ → ℕ → Assignment → Type 0
  Asks a b σ = σ a ≡ σ b

  module _ (ws : Words) (s : 3 * n ≤ length ws) (G : Good n (node_at ws n)) (a b : ℕ) (o u : ℕ × Node) (A : Reaches n ws G a o) (B : Reaches n ws G b u) where
    at_roots : {ws' : Words} {v : Verdict} → Outcome n ws (Asks o.0 u.0) (v, ws') → Outcome n ws (Asks a b) (v, ws')
    at_roots h = outcome-map n (λ σ q e. sym (A.equal σ q) ∙ e ∙ B.equal σ q) (λ σ q e. A.equal σ q ∙ e ∙ sym (B.equal σ q)) h

    says-left : (nd : Node) → o.1 ≡ nd → (σ : Assignment) → Allows n ws σ → Says σ o.0 nd
    says-left nd e σ q = subst (λ (k : Node). Says σ o.0 k) (A.node ∙ e) (q o.0 A.inside)

    says-right : (nd : Node) → u.1 ≡ nd → (σ : Assignment) → Allows n ws σ → Says σ u.0 nd
    says-right nd e σ q = subst (λ (k : Node). Says σ u.0 k) (B.node ∙ e) (q u.0 B.inside)

    one_already : ((σ : Assignment) → Allows n ws σ → σ o.0 ≡ σ u.0) → Outcome n ws (Asks o.0 u.0) (unified, ws)
    one_already h = record { kept = kept_refl n ws (Asks o.0 u.0) G; judged = h }

    never-one : ((σ : Assignment) → Allows n ws σ → σ o.0 ≡ σ u.0 → ⊥) → Outcome n ws (Asks o.0 u.0) (mismatch, ws)
    never-one h = record { kept = kept_refl n ws (Asks o.0 u.0) G; judged = h }

  free-tree : (ws : Words) (G : Good n (node_at ws n)) (v : ℕ) → v < n → node_at ws n v ≡ free → G.tree v ≡ var v
  free-tree ws G v l e = subst (λ (k : Node). Fits n G.tree G.rank v k) e (G.fits v l)

  -- an unknown against another root
  module _ (ws : Words) (s : 3 * n ≤ length ws) (G : Good n (node_at ws n)) (v t : ℕ) (vl : v < n) (tl : t < n) (fr : node_at ws n v ≡ free) (root : Root (node_at ws n t)) (ne : v ≢ t) {d : ℕ} where
    bound-outcome : Occurs ws n v t (ends false) d → Outcome n ws (Asks v t) (unified, by ws n v t)
    bound-outcome x = merging n ws s G v t vl tl fr root ne (by ws n v t) (one ws n v t s vl tl) (sym (found_in n ws G v t tl x (free-tree ws G v vl fr)))

    circle-outcome : Occurs ws n v t (ends true) d → Outcome n ws (Asks v t) (circular, ws)
    circle-outcome x = record { kept = kept_refl n ws (Asks v t) G; judged = never n ws s G v t vl tl fr root ne (sym (found_in n ws G v t tl x (free-tree ws G v vl fr))) }

  turned : {ws ws' : Words} {v : Verdict} {x y : ℕ} → Outcome n ws (Asks y x) (v, ws') → Outcome n ws (Asks x y) (v, ws')
  turned h = outcome-map n (λ σ q e. sym e) (λ σ q e. sym e) h

  pub tells-outcome : {ws ws' : Words} {a b c : ℕ} {v : Verdict} → 3 * n ≤ length ws → Good n (node_at ws n) → a < n → b < n → Tells by n ws a b (ends v) ws' c → Outcome n ws (λ σ. σ a ≡ σ b) (v, ws')
  tells-outcome {ws} {a = a} {b = b} s G al bl (equal {o = o} {u = u} f g e) =
      let A = reaches n ws G al f in
      let B = reaches n ws G bl g in
      at_roots ws s G a b o u A B (one_already ws s G a b o u A B (λ σ q. ap σ e))
  tells-outcome {ws} {a = a} {b = b} s G al bl (agrees {o = o} {u = u} p e) =
      let A = reaches n ws G al p.left in
      let B = reaches n ws G bl p.right in
      at_roots ws s G a b o u A B (one_already ws s G a b o u A B
      (λ σ q. agree-says o.1 u.1 A.root B.root e σ o.0 u.0 (says-left ws s G a b o u A B o.1 refl σ q) (says-right ws s G a b o u A B u.1 refl σ q)))
  tells-outcome {ws} {a = a} {b = b} s G al bl (clashes {o = o} {u = u} p e) =
      let A = reaches n ws G al p.left in
      let B = reaches n ws G bl p.right in
      at_roots ws s G a b o u A B (never-one ws s G a b o u A B
      (λ σ q. clash-says o.1 u.1 A.root B.root e σ o.0 u.0 (says-left ws s G a b o u A B o.1 refl σ q) (says-right ws s G a b o u A B u.1 refl σ q)))
  tells-outcome {ws} {a = a} {b = b} s G al bl (binds_left {o = o} {u = u} p e x) =
      let A = reaches n ws G al p.left in
      let B = reaches n ws G bl p.right in
      at_roots ws s G a b o u A B (bound-outcome ws s G o.0 u.0 A.inside B.inside (A.node ∙ left-unknown n o.1 u.1 e) (subst (λ (k : Node). Root k) (sym B.node) B.root) p.apart x)
  tells-outcome {ws} {a = a} {b = b} s G al bl (circles_left {o = o} {u = u} p e x) =
      let A = reaches n ws G al p.left in
      let B = reaches n ws G bl p.right in
      at_roots ws s G a b o u A B (circle-outcome ws s G o.0 u.0 A.inside B.inside (A.node ∙ left-unknown n o.1 u.1 e) (subst (λ (k : Node). Root k) (sym B.node) B.root) p.apart x)
  tells-outcome {ws} {a = a} {b = b} s G al bl (binds_right {o = o} {u = u} p e x) =
      let A = reaches n ws G al p.left in
      let B = reaches n ws G bl p.right in
      at_roots ws s G a b o u A B (turned (bound-outcome ws s G u.0 o.0 B.inside A.inside (B.node ∙ right-unknown n o.1 u.1 e) (subst (λ (k : Node). Root k) (sym A.node) A.root) (λ q. p.apart (sym q)) x))
  tells-outcome {ws} {a = a} {b = b} s G al bl (circles_right {o = o} {u = u} p e x) =
      let A = reaches n ws G al p.left in
      let B = reaches n ws G bl p.right in
      at_roots ws s G a b o u A B (turned (circle-outcome ws s G u.0 o.0 B.inside A.inside (B.node ∙ right-unknown n o.1 u.1 e) (subst (λ (k : Node). Root k) (sym A.node) A.root) (λ q. p.apart (sym q)) x))
  tells-outcome {ws} {a = a} {b = b} s G al bl (powers {x = x} {y = y} {o = o} {u = u} p e t) =
      let A = reaches n ws G al p.left in
      let B = reaches n ws G bl p.right in
      let w = down-powers o.1 u.1 A.root B.root e in
      let l = subst (λ (k : Node). Fits n G.tree G.rank o.0 k) (A.node ∙ w.0) (G.fits o.0 A.inside) in
      let r = subst (λ (k : Node). Fits n G.tree G.rank u.0 k) (B.node ∙ w.1) (G.fits u.0 B.inside) in
      at_roots ws s G a b o u A B (outcome-map n
      (λ σ q h. (let i : σ o.0 ≡ pow (σ x) = says-left ws s G a b o u A B (power x) w.0 σ q in let j : σ u.0 ≡ pow (σ y) = says-right ws s G a b o u A B (power y) w.1 σ q in cc))
      (λ σ q h. (let i : σ o.0 ≡ pow (σ x) = says-left ws s G a b o u A B (power x) w.0 σ q in let j : σ u.0 ≡ pow (σ y) = says-right ws s G a b o u A B (power y) w.1 σ q in cc))
      (tells-outcome s G l.0 r.0 t))
  tells-outcome {ws} {ws'} {a} {b} {v = v} s G al bl (left-ends {x = x} {y = y} {z = z} {w = w} {o = o} {u = u} p e t h) =
      let A = reaches n ws G al p.left in
      let B = reaches n ws G bl p.right in
      let k = both-pairs o.1 u.1 A.root B.root e in
      let l = subst (λ (i : Node). Fits n G.tree G.rank o.0 i) (A.node ∙ k.0) (G.fits o.0 A.inside) in
      let r = subst (λ (i : Node). Fits n G.tree G.rank u.0 i) (B.node ∙ k.1) (G.fits u.0 B.inside) in
      at_roots ws s G a b o u A B (left_half n ws o.0 u.0 A.inside B.inside x y z w (A.node ∙ k.0) (B.node ∙ k.1) v ws' (λ q. h (ap ends q)) (tells-outcome s G l.0 r.0 t))
  tells-outcome {ws} {ws'} {a} {b} {v = v} s G al bl (halves {ws' = ws₁} {x = x} {y = y} {z = z} {w = w} {o = o} {u = u} p e t t') =
      let A = reaches n ws G al p.left in
      let B = reaches n ws G bl p.right in
      let k = both-pairs o.1 u.1 A.root B.root e in
      let l = subst (λ (i : Node). Fits n G.tree G.rank o.0 i) (A.node ∙ k.0) (G.fits o.0 A.inside) in
      let r = subst (λ (i : Node). Fits n G.tree G.rank u.0 i) (B.node ∙ k.1) (G.fits u.0 B.inside) in
      let h = tells-outcome s G l.0 r.0 t in
      at_roots ws s G a b o u A B (right_half n ws o.0 u.0 A.inside B.inside x y z w (A.node ∙ k.0) (B.node ∙ k.1) ws₁ (v, ws') h (tells-outcome (rw h.kept.sized s) h.kept.good l.1 r.1 t'))

-- ---- two references that all admitted assignments equate are found equal, and nothing is bound
atom-same : (p q : Atom) → p ≡ q → same_atom p q ≡ true
unfolding same_atom
atom-same bool bool e = refl
atom-same bool int e = let z : ◌≡◌ {A = ℕ} 0 1 = cc in absurd (omega arith)
atom-same bool (given y) e = let z : ◌≡◌ {A = ℕ} 0 1 = cc in absurd (omega arith)
atom-same int bool e = let z : ◌≡◌ {A = ℕ} 0 1 = cc in absurd (omega arith)
atom-same int int e = refl
atom-same int (given y) e = let z : ◌≡◌ {A = ℕ} 0 1 = cc in absurd (omega arith)
atom-same (given x) bool e = let z : ◌≡◌ {A = ℕ} 0 1 = cc in absurd (omega arith)
atom-same (given x) int e = let z : ◌≡◌ {A = ℕ} 0 1 = cc in absurd (omega arith)
atom-same (given x) (given y) e = eq-eqb x y (cc)

pick_ty : Bool → Ty
pick_ty true = base bool
pick_ty false = base int

module _ (by : Direction) (n : ℕ) (us : Words) (s : 3 * n ≤ length us) (G : Good n (node_at us n)) where
  abbrev Equal : ℕ → ℕ → Type 0
  Equal a b = (σ : Assignment) → Allows n us σ → σ a ≡ σ b

  abbrev Agreed : ℕ → ℕ → Type 0
  Agreed a b = (c : ℕ) × Tells by n us a b (ends unified) us c

  -- two unknowns are not equated by all
  two_unknowns : (p q : ℕ) → p < n → q < n → p ≢ q → node_at us n p ≡ free → node_at us n q ≡ free → Equal p q → ⊥
  unfolding pick_ty
  two_unknowns p q pl ql ne fp fq h =
      let ν : Assignment = λ z. pick_ty (eqb z p) in
      let u : extend n (node_at us n) G ν p ≡ base bool = extend-free n (node_at us n) G ν p pl fp ∙ ap pick_ty (eq-eqb p p refl) in
      let w : extend n (node_at us n) G ν q ≡ base int = extend-free n (node_at us n) G ν q ql fq ∙ ap pick_ty (ne_eqb q p (λ e. ne (sym e))) in
      let e = h (extend n (node_at us n) G ν) (extend_admits n (node_at us n) G ν) in
      let z : ◌≡◌ {A = ℕ} 0 1 = cc in
      omega arith

  module _ (k : ℕ) (rec : (a b : ℕ) → size (G.tree a) < k → a < n → b < n → Equal a b → Agreed a b) (a b : ℕ) (sz : size (G.tree a) ≤ k) (o u : ℕ × Node) (A : Reaches n us G a o) (B : Reaches n us G b u)
      (d : ℕ) (p : Apart us n a b o u d) where
    fits-left : (nd : Node) → o.1 ≡ nd → Fits n G.tree G.rank o.0 nd
    fits-left nd e = subst (λ (i : Node). Fits n G.tree G.rank o.0 i) (A.node ∙ e) (G.fits o.0 A.inside)

    fits-right : (nd : Node) → u.1 ≡ nd → Fits n G.tree G.rank u.0 nd
    fits-right nd e = subst (λ (i : Node). Fits n G.tree G.rank u.0 i) (B.node ∙ e) (G.fits u.0 B.inside)

    agreed_at : Equal o.0 u.0 → (x y : Node) → o.1 ≡ x → u.1 ≡ y → Matched (λ σ. Allows n us σ) x y → Agreed a b
    unfolding meet verdict_of size
    agreed_at h free free e f unknowns = absurd (two_unknowns o.0 u.0 A.inside B.inside p.apart (A.node ∙ e) (B.node ∙ f) h)
    agreed_at h (leaf i) (leaf j) e f (atoms q) = (suc d, agrees p (ap₂ meet e f ∙ ap verdict_of (atom-same i j q)))
    agreed_at h (power i) (power j) e f (alike-powers q) =
        let l = fits-left (power i) e in
        let r = fits-right (power j) f in
        let t = ap size (sym l.1 ∙ A.tree) in
        let w = rec i j (omega arith) l.0 r.0 q in
        (suc (d + w.0), powers p (ap₂ meet e f) w.1)
    agreed_at h (pair i j) (pair m q) e f (alike-pairs g g') =
        let l = fits-left (pair i j) e in
        let r = fits-right (pair m q) f in
        let t = ap size (sym l.2 ∙ A.tree) in
        let w = rec i m (omega arith) l.0 r.0 g in
        let w' = rec j q (omega arith) l.1 r.1 g' in
        (suc (d + (w.0 + w'.0)), halves p (ap₂ meet e f) w.1 w'.1)
    agreed_at h free (link _) e f x8 = elim x8 [ ]
    agreed_at h free (leaf j) e f x8 = elim x8 [ ]
    agreed_at h free (power j) e f x9 = elim x9 [ ]
    agreed_at h free (pair m q) e f x10 = elim x10 [ ]
    agreed_at h free bad e f x11 = elim x11 [ ]
    agreed_at h (link _) y e f x6 = elim x6 [ ]
    agreed_at h (leaf i) free e f x7 = elim x7 [ ]
    agreed_at h (leaf i) (link _) e f x9 = elim x9 [ ]
    agreed_at h (leaf i) (power j) e f x9 = elim x9 [ ]
    agreed_at h (leaf i) (pair m q) e f x10 = elim x10 [ ]
    agreed_at h (leaf i) bad e f x11 = elim x11 [ ]
    agreed_at h (power i) free e f x8 = elim x8 [ ]
    agreed_at h (power i) (link _) e f x10 = elim x10 [ ]
    agreed_at h (power i) (leaf j) e f x10 = elim x10 [ ]
    agreed_at h (power i) (pair m q) e f x11 = elim x11 [ ]
    agreed_at h (power i) bad e f x12 = elim x12 [ ]
    agreed_at h (pair i j) free e f x9 = elim x9 [ ]
    agreed_at h (pair i j) (link _) e f x11 = elim x11 [ ]
    agreed_at h (pair i j) (leaf _) e f x12 = elim x12 [ ]
    agreed_at h (pair i j) (power _) e f x13 = elim x13 [ ]
    agreed_at h (pair i j) bad e f x13 = elim x13 [ ]
    agreed_at h bad y e f x9 = elim x9 [ ]

  agreed_roots : (k : ℕ) → ((a b : ℕ) → size (G.tree a) < k → a < n → b < n → Equal a b → Agreed a b) → (a b : ℕ) → size (G.tree a) ≤ k → a < n → b < n → Equal a b
      → (x : Leads n us G a) (y : Leads n us G b) → Dec (x.0.0 ≡ y.0.0) → Agreed a b
  agreed_roots k rec a b sz al bl h x y (yes e) = (suc (x.1 + y.1), equal x.2 y.2 e)
  agreed_roots k rec a b sz al bl h x y (no e) =
      let A = reaches n us G al x.2 in
      let B = reaches n us G bl y.2 in
      let q : Equal x.0.0 y.0.0 = λ σ w. sym (A.equal σ w) ∙ h σ w ∙ B.equal σ w in
      let m = matched n us us (same_refl s G) x.0.0 y.0.0 A.inside B.inside q (subst (λ (i : Node). Root i) (sym A.node) A.root) (subst (λ (i : Node). Root i) (sym B.node) B.root) in
      agreed_at k rec a b sz x.0 y.0 A B (x.1 + y.1) (record { left_cost = x.1; right_cost = y.1; left = x.2; right = y.2; apart = e; cost = refl }) q
      (node_at us n x.0.0) (node_at us n y.0.0) (sym A.node) (sym B.node) m

  agreed_upto : (k a b : ℕ) → size (G.tree a) < k → a < n → b < n → Equal a b → Agreed a b
  agreed_upto zero a b l al bl h = absurd (omega arith)
  agreed_upto (suc k) a b l al bl h = let x = leads n us G a al in let y = leads n us G b bl in agreed_roots k (agreed_upto k) a b (omega arith) al bl h x y (ℕ_discrete x.0.0 y.0.0)

  agreed : (a b : ℕ) → a < n → b < n → ((σ : Assignment) → Allows n us σ → σ a ≡ σ b) → (c : ℕ) × Tells by n us a b (ends unified) us c
  agreed a b al bl h = agreed_upto (suc (size (G.tree a))) a b (omega arith) al bl h

-- ---- what is derived by one direction is derived by another
module _ (by by' : Direction) (one : OneBinding by) (one' : OneBinding by') (n : ℕ) where
  module _ (ws us : Words) (S : Same n ws us) (a b a' b' : ℕ) (al : a < n) (bl : b < n) (al' : a' < n) (bl' : b' < n)
      (ea : (σ : Assignment) → Allows n ws σ → σ a ≡ σ a') (eb : (σ : Assignment) → Allows n ws σ → σ b ≡ σ b') where
    abbrev Here : Verdict → Words → Type 0
    Here v ws' = Outcome n ws (λ σ. σ a ≡ σ b) (v, ws')

    abbrev There : Verdict → Words → Type 0
    There v us' = Outcome n us (λ σ. σ a' ≡ σ b') (v, us')

    over : (σ : Assignment) → Allows n ws σ → σ a ≡ σ b → σ a' ≡ σ b'
    over σ A e = sym (ea σ A) ∙ e ∙ eb σ A

    back : (σ : Assignment) → Allows n ws σ → σ a' ≡ σ b' → σ a ≡ σ b
    back σ A e = ea σ A ∙ e ∙ sym (eb σ A)

    -- two successes
    both_unified : (ws' us' : Words) → Here unified ws' → There unified us' → Same n ws' us'
    both_unified ws' us' h g = record {
      roomy = rw h.kept.sized S.roomy;
      roomy' = rw g.kept.sized S.roomy';
      good = h.kept.good;
      good' = g.kept.good;
      to = λ σ A. (let B = h.kept.keeps σ A in g.kept.takes σ (S.to σ B) (over σ B (h.judged σ A)));
      from = λ σ A. (let B = S.from σ (g.kept.keeps σ A) in h.kept.takes σ B (back σ B (g.judged σ A)));
    }

    -- a success here and a failure there, or the other way round, cannot be
    no_failure_there : (ws' : Words) → Here unified ws' → ((σ : Assignment) → Allows n us σ → σ a' ≡ σ b' → ⊥) → ⊥
    no_failure_there ws' h g =
        let σ : Assignment = extend n (node_at ws' n) h.kept.good (λ _. base bool) in
        let A = extend_admits n (node_at ws' n) h.kept.good (λ _. base bool) in
        let B = h.kept.keeps σ A in
        g σ (S.to σ B) (over σ B (h.judged σ A))

    no_success_there : (us' : Words) → There unified us' → ((σ : Assignment) → Allows n ws σ → σ a ≡ σ b → ⊥) → ⊥
    no_success_there us' g h =
        let σ : Assignment = extend n (node_at us' n) g.kept.good (λ _. base bool) in
        let A = extend_admits n (node_at us' n) g.kept.good (λ _. base bool) in
        let B = S.from σ (g.kept.keeps σ A) in
        h σ B (back σ B (g.judged σ A))

    -- all admitted assignments equate the two: a success, and nothing was bound that they did not obey
    nothing-new : (v : Verdict) (ws' : Words) → Here v ws' → ((σ : Assignment) → Allows n ws σ → σ a ≡ σ b) → (v ≡ unified) × Same n ws' us
    nothing-new unified ws' h g = (
      refl,
      record {
        roomy = rw h.kept.sized S.roomy;
        roomy' = S.roomy';
        good = h.kept.good;
        good' = S.good';
        to = λ σ A. S.to σ (h.kept.keeps σ A);
        from = λ σ A. (let B = S.from σ A in h.kept.takes σ B (g σ B));
      },
    )
    nothing-new mismatch ws' h g = absurd (
        let A = extend_admits n (node_at ws n) S.good (λ _. base bool) in
        h.judged (extend n (node_at ws n) S.good (λ _. base bool)) A (g (extend n (node_at ws n) S.good (λ _. base bool)) A))
    nothing-new circular ws' h g = absurd (
        let A = extend_admits n (node_at ws n) S.good (λ _. base bool) in
        h.judged (extend n (node_at ws n) S.good (λ _. base bool)) A (g (extend n (node_at ws n) S.good (λ _. base bool)) A))

    -- there the two references lead to one node, or to two
    decide-at : (v : Verdict) (ws' : Words) → Here v ws' → ((o u : ℕ × Node) (c : ℕ) → Reaches n us S.good' a' o → Reaches n us S.good' b' u → Apart us n a' b' o u c → Also by by' one one' n us a' b' v ws')
        → (x : Leads n us S.good' a') (y : Leads n us S.good' b') → Dec (x.0.0 ≡ y.0.0) → Also by by' one one' n us a' b' v ws'
    decide-at v ws' h k x y (yes e) =
        let A = reaches n us S.good' al' x.2 in
        let B = reaches n us S.good' bl' y.2 in
        let w = nothing-new v ws' h (λ σ q. back σ q (A.equal σ (S.to σ q) ∙ ap σ e ∙ sym (B.equal σ (S.to σ q)))) in
        subst (λ (i : Verdict). Also by by' one one' n us a' b' i ws') (sym w.0) (record { words = us; price = suc (x.1 + y.1); told = equal x.2 y.2 e; same = w.1 })
    decide-at v ws' h k x y (no e) =
        k x.0 y.0 (x.1 + y.1) (reaches n us S.good' al' x.2) (reaches n us S.good' bl' y.2) (record { left_cost = x.1; right_cost = y.1; left = x.2; right = y.2; apart = e; cost = refl })

    decide : (v : Verdict) (ws' : Words) → Here v ws' → ((o u : ℕ × Node) (c : ℕ) → Reaches n us S.good' a' o → Reaches n us S.good' b' u → Apart us n a' b' o u c → Also by by' one one' n us a' b' v ws') → Also by by' one one' n us a' b' v ws'
    decide v ws' h k = let x = leads n us S.good' a' al' in let y = leads n us S.good' b' bl' in decide-at v ws' h k x y (ℕ_discrete x.0.0 y.0.0)

    -- the nodes met here and there
    module _ (o u o' u' : ℕ × Node) (A : Reaches n ws S.good a o) (B : Reaches n ws S.good b u) (A' : Reaches n us S.good' a' o') (B' : Reaches n us S.good' b' u') where
      match : (x y : ℕ) (z w : ℕ × Node) → Reaches n ws S.good x z → Reaches n us S.good' y w → ((σ : Assignment) → Allows n ws σ → σ x ≡ σ y) → Matched (λ σ. Allows n ws σ) z.1 w.1
      match x y z w X Y h =
          let m = matched n ws us S z.0 w.0 X.inside Y.inside (λ σ q. sym (X.equal σ q) ∙ h σ q ∙ Y.equal σ (S.to σ q))
          (subst (λ (i : Node). Root i) (sym X.node) X.root) (subst (λ (i : Node). Root i) (sym Y.node) Y.root) in
          subst (λ (i : Node). Matched (λ σ. Allows n ws σ) z.1 i) Y.node (subst (λ (i : Node). Matched (λ σ. Allows n ws σ) i (node_at us n w.0)) X.node m)

      meet-there : (m : Meeting) → meet o.1 u.1 ≡ m → Alike (λ σ. Allows n ws σ) m (meet o'.1 u'.1)
      meet-there m e = subst (λ (i : Meeting). Alike (λ σ. Allows n ws σ) i (meet o'.1 u'.1)) e (meets-alike (match a a' o o' A A' ea) (match b b' u u' B B' eb))

    -- an unknown is met: bound here, so bound there; a circle here, so a circle there
    module _ (o u : ℕ × Node) (c : ℕ) (P : Apart us n a' b' o u c) where
      left_bound_lem : (ws' : Words) → Here unified ws' → meet o.1 u.1 ≡ bindLeft → (f : Bool) (d : ℕ) → Occurs us n o.0 u.0 (ends f) d → Also by by' one one' n us a' b' unified ws'
      left_bound_lem ws' h e false d x = record {
        words = by' us n o.0 u.0;
        price = suc (c + d);
        told = binds_left P e x;
        same = both_unified ws' (by' us n o.0 u.0) h (tells-outcome by' one' n S.roomy' S.good' al' bl' (binds_left P e x));
      }
      left_bound_lem ws' h e true d x = absurd (no_failure_there ws' h (tells-outcome by' one' n S.roomy' S.good' al' bl' (circles_left P e x)).judged)

      right_bound : (ws' : Words) → Here unified ws' → meet o.1 u.1 ≡ bindRight → (f : Bool) (d : ℕ) → Occurs us n u.0 o.0 (ends f) d → Also by by' one one' n us a' b' unified ws'
      right_bound ws' h e false d x = record {
        words = by' us n u.0 o.0;
        price = suc (c + d);
        told = binds_right P e x;
        same = both_unified ws' (by' us n u.0 o.0) h (tells-outcome by' one' n S.roomy' S.good' al' bl' (binds_right P e x));
      }
      right_bound ws' h e true d x = absurd (no_failure_there ws' h (tells-outcome by' one' n S.roomy' S.good' al' bl' (circles_right P e x)).judged)

      left-circle : Here circular ws → meet o.1 u.1 ≡ bindLeft → (f : Bool) (d : ℕ) → Occurs us n o.0 u.0 (ends f) d → Also by by' one one' n us a' b' circular ws
      left-circle h e true d x = record { words = us; price = suc (c + d); told = circles_left P e x; same = S }
      left-circle h e false d x = absurd (no_success_there (by' us n o.0 u.0) (tells-outcome by' one' n S.roomy' S.good' al' bl' (binds_left P e x)) h.judged)

      right-circle : Here circular ws → meet o.1 u.1 ≡ bindRight → (f : Bool) (d : ℕ) → Occurs us n u.0 o.0 (ends f) d → Also by by' one one' n us a' b' circular ws
      right-circle h e true d x = record { words = us; price = suc (c + d); told = circles_right P e x; same = S }
      right-circle h e false d x = absurd (no_success_there (by' us n u.0 o.0) (tells-outcome by' one' n S.roomy' S.good' al' bl' (binds_right P e x)) h.judged)

  -- the parts of a power or of a product lie inside
  power-inside : (ws : Words) (G : Good n (node_at ws n)) (t : ℕ) (o : ℕ × Node) (x : ℕ) → Reaches n ws G t o → o.1 ≡ power x → x < n
  power-inside ws G t o x A e = (subst (λ (i : Node). Fits n G.tree G.rank o.0 i) (A.node ∙ e) (G.fits o.0 A.inside)).0

  pair_inside : (ws : Words) (G : Good n (node_at ws n)) (t : ℕ) (o : ℕ × Node) (x y : ℕ) → Reaches n ws G t o → o.1 ≡ pair x y → (x < n) × (y < n)
  pair_inside ws G t o x y A e = let f = subst (λ (i : Node). Fits n G.tree G.rank o.0 i) (A.node ∙ e) (G.fits o.0 A.inside) in (f.0, f.1)

  -- KEY: by every direction the same verdict, and arenas that admit the same
  pub follows_suit : {ws ws' : Words} {a b c : ℕ} {v : Verdict} → Tells by n ws a b (ends v) ws' c → (us : Words) → Same n ws us → (a' b' : ℕ) → a < n → b < n → a' < n → b' < n
      → ((σ : Assignment) → Allows n ws σ → σ a ≡ σ a') → ((σ : Assignment) → Allows n ws σ → σ b ≡ σ b') → Also by by' one one' n us a' b' v ws'
  follows_suit {ws} {a = a} {b = b} (equal {o = o} {u = u} f g e) us S a' b' al bl al' bl' ea eb =
      let A = reaches n ws S.good al f in
      let B = reaches n ws S.good bl g in
      let t = agreed by' n us S.roomy' S.good' a' b' al' bl' (λ σ q. (let i = S.from σ q in over ws us S a b a' b' al bl al' bl' ea eb σ i (A.equal σ i ∙ ap σ e ∙ sym (B.equal σ i)))) in
      record { words = us; price = t.0; told = t.1; same = S }
  follows_suit {ws} {a = a} {b = b} (agrees {o = o} {u = u} p e) us S a' b' al bl al' bl' ea eb =
      let A = reaches n ws S.good al p.left in
      let B = reaches n ws S.good bl p.right in
      decide ws us S a b a' b' al bl al' bl' ea eb unified ws (tells-outcome by one n S.roomy S.good al bl (agrees p e))
      (λ o' u' c A' B' P. record { words = us; price = suc c; told = agrees P (alike-agree (meet-there ws us S a b a' b' al bl al' bl' ea eb o u o' u' A B A' B' agree e)); same = S })
  follows_suit {ws} {a = a} {b = b} (clashes {o = o} {u = u} p e) us S a' b' al bl al' bl' ea eb =
      let A = reaches n ws S.good al p.left in
      let B = reaches n ws S.good bl p.right in
      decide ws us S a b a' b' al bl al' bl' ea eb mismatch ws (tells-outcome by one n S.roomy S.good al bl (clashes p e))
      (λ o' u' c A' B' P. record { words = us; price = suc c; told = clashes P (alike-clash (meet-there ws us S a b a' b' al bl al' bl' ea eb o u o' u' A B A' B' clash e)); same = S })
  follows_suit {ws} {a = a} {b = b} (binds_left {o = o} {u = u} p e x) us S a' b' al bl al' bl' ea eb =
      let A = reaches n ws S.good al p.left in
      let B = reaches n ws S.good bl p.right in
      let h = tells-outcome by one n S.roomy S.good al bl (binds_left p e x) in
      decide ws us S a b a' b' al bl al' bl' ea eb unified (by ws n o.0 u.0) h
      (λ o' u' c A' B' P. (let y = sought n us S.good' o'.0 u'.0 B'.inside in
      left_bound_lem ws us S a b a' b' al bl al' bl' ea eb o' u' c P (by ws n o.0 u.0) h (alike-left (meet-there ws us S a b a' b' al bl al' bl' ea eb o u o' u' A B A' B' bindLeft e)) y.0 y.1 y.2))
  follows_suit {ws} {a = a} {b = b} (circles_left {o = o} {u = u} p e x) us S a' b' al bl al' bl' ea eb =
      let A = reaches n ws S.good al p.left in
      let B = reaches n ws S.good bl p.right in
      let h = tells-outcome by one n S.roomy S.good al bl (circles_left p e x) in
      decide ws us S a b a' b' al bl al' bl' ea eb circular ws h
      (λ o' u' c A' B' P. (let y = sought n us S.good' o'.0 u'.0 B'.inside in
      left-circle ws us S a b a' b' al bl al' bl' ea eb o' u' c P h (alike-left (meet-there ws us S a b a' b' al bl al' bl' ea eb o u o' u' A B A' B' bindLeft e)) y.0 y.1 y.2))
  follows_suit {ws} {a = a} {b = b} (binds_right {o = o} {u = u} p e x) us S a' b' al bl al' bl' ea eb =
      let A = reaches n ws S.good al p.left in
      let B = reaches n ws S.good bl p.right in
      let h = tells-outcome by one n S.roomy S.good al bl (binds_right p e x) in
      decide ws us S a b a' b' al bl al' bl' ea eb unified (by ws n u.0 o.0) h
      (λ o' u' c A' B' P. (let y = sought n us S.good' u'.0 o'.0 A'.inside in
      right_bound ws us S a b a' b' al bl al' bl' ea eb o' u' c P (by ws n u.0 o.0) h (alike_right (meet-there ws us S a b a' b' al bl al' bl' ea eb o u o' u' A B A' B' bindRight e)) y.0 y.1 y.2))
  follows_suit {ws} {a = a} {b = b} (circles_right {o = o} {u = u} p e x) us S a' b' al bl al' bl' ea eb =
      let A = reaches n ws S.good al p.left in
      let B = reaches n ws S.good bl p.right in
      let h = tells-outcome by one n S.roomy S.good al bl (circles_right p e x) in
      decide ws us S a b a' b' al bl al' bl' ea eb circular ws h
      (λ o' u' c A' B' P. (let y = sought n us S.good' u'.0 o'.0 A'.inside in
      right-circle ws us S a b a' b' al bl al' bl' ea eb o' u' c P h (alike_right (meet-there ws us S a b a' b' al bl al' bl' ea eb o u o' u' A B A' B' bindRight e)) y.0 y.1 y.2))
  follows_suit {ws} {ws'} {a} {b} {v = v} (powers {x = x} {y = y} {o = o} {u = u} p e t) us S a' b' al bl al' bl' ea eb =
      let A = reaches n ws S.good al p.left in
      let B = reaches n ws S.good bl p.right in
      let k = down-powers o.1 u.1 A.root B.root e in
      decide ws us S a b a' b' al bl al' bl' ea eb v ws' (tells-outcome by one n S.roomy S.good al bl (powers p e t))
      (λ o' u' c A' B' P. (let w = alike-down (meet-there ws us S a b a' b' al bl al' bl' ea eb o u o' u' A B A' B' (down x y) e) in
      let k' = down-powers o'.1 u'.1 A'.root B'.root w.meets in
      let r = follows_suit t us S w.left w.right (power-inside ws S.good a o x A k.0) (power-inside ws S.good b u y B k.1)
      (power-inside us S.good' a' o' w.left A' k'.0) (power-inside us S.good' b' u' w.right B' k'.1) w.left_equal w.right_equal in
      record { words = r.words; price = suc (c + r.price); told = powers P w.meets r.told; same = r.same }))
  follows_suit {ws} {ws'} {a} {b} {v = v} (left-ends {x = x} {y = y} {z = z} {w = q} {o = o} {u = u} p e t h) us S a' b' al bl al' bl' ea eb =
      let A = reaches n ws S.good al p.left in
      let B = reaches n ws S.good bl p.right in
      let k = both-pairs o.1 u.1 A.root B.root e in
      decide ws us S a b a' b' al bl al' bl' ea eb v ws' (tells-outcome by one n S.roomy S.good al bl (left-ends p e t h))
      (λ o' u' c A' B' P. (let w = alike_both (meet-there ws us S a b a' b' al bl al' bl' ea eb o u o' u' A B A' B' (both x y z q) e) in
      let k' = both-pairs o'.1 u'.1 A'.root B'.root w.meets in
      let r = follows_suit t us S w.first w.third (pair_inside ws S.good a o x y A k.0).0 (pair_inside ws S.good b u z q B k.1).0
      (pair_inside us S.good' a' o' w.first w.second A' k'.0).0 (pair_inside us S.good' b' u' w.third w.fourth B' k'.1).0 w.first_equal w.third_equal in
      record { words = r.words; price = suc (c + r.price); told = left-ends P w.meets r.told h; same = r.same }))
  follows_suit {ws} {ws'} {a} {b} {v = v} (halves {x = x} {y = y} {z = z} {w = q} {o = o} {u = u} p e t t') us S a' b' al bl al' bl' ea eb =
      let A = reaches n ws S.good al p.left in
      let B = reaches n ws S.good bl p.right in
      let k = both-pairs o.1 u.1 A.root B.root e in
      let l = pair_inside ws S.good a o x y A k.0 in
      let m = pair_inside ws S.good b u z q B k.1 in
      let h = tells-outcome by one n S.roomy S.good l.0 m.0 t in
      decide ws us S a b a' b' al bl al' bl' ea eb v ws' (tells-outcome by one n S.roomy S.good al bl (halves p e t t'))
      (λ o' u' c A' B' P. (let w = alike_both (meet-there ws us S a b a' b' al bl al' bl' ea eb o u o' u' A B A' B' (both x y z q) e) in
      let k' = both-pairs o'.1 u'.1 A'.root B'.root w.meets in
      let l' = pair_inside us S.good' a' o' w.first w.second A' k'.0 in
      let m' = pair_inside us S.good' b' u' w.third w.fourth B' k'.1 in
      let r = follows_suit t us S w.first w.third l.0 m.0 l'.0 m'.0 w.first_equal w.third_equal in
      let r' = follows_suit t' r.words r.same w.second w.fourth l.1 m.1 l'.1 m'.1
      (λ σ i. w.second_equal σ (h.kept.keeps σ i)) (λ σ i. w.fourth_equal σ (h.kept.keeps σ i)) in
      record { words = r'.words; price = suc (c + (r.price + r'.price)); told = halves P w.meets r.told r'.told; same = r'.same }))
