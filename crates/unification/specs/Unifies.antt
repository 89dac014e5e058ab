-- Over an arena in solved form `unify` ends, and at every budget what stands is in solved form again: `unify-exact`.
-- `Kept` says what stands in any outcome (no assignment is gained; none that obeys the equation is lost); `Judges` what each verdict means: a success admits only
-- assignments that obey the equation, a failure is given only where none does.
-- Theorems that rest on what must-fail edits change stand in proofs/Unifies.antt.
use Rattle.std.specs.Prelude.{ℕ, ◌*◌, ◌≤◌, ◌<◌, ◌≢◌, length}
use Rattle.std.proofs.Math.Path.{◌≡◌, refl, sym, ap, subst}
use Rattle.std.proofs.Common.{◌∙◌, arith}
use Rattle.std.proofs.Math.Bool.{true, false}
use borrow.Author.Tests.{eqb-true, eqb-false, ne_eqb}
use Rattle.meter.specs.Meter.{M, Exact}
use Rattle.types.specs.Ty.{Atom, bool, int, given, prod}
use Rattle.unification.specs.Arena.{Node, free, link, leaf, power, pair, bad, Words, node_at, Verdict, unified, mismatch, circular, same_atom, Answer}
use Rattle.unification.specs.Trees.{var, eval, has, weight, has_proper}
use Rattle.unification.specs.Good.{Assignment, Says, Admits, Fits, Good, Root, spelt, good-bind, bind-keeps, bind-makes, bind-takes, frees, frees-bind}
use Rattle.unification.specs.Merge.{Binds, Merged, to_right, to_left}

pub same-atom : (p q : Atom) → same_atom p q ≡ true → p ≡ q
unfolding same_atom
same-atom bool bool e = refl
same-atom bool int e = cc
same-atom bool (given y) e = cc
same-atom int bool e = cc
same-atom int int e = refl
same-atom int (given y) e = cc
same-atom (given x) bool e = cc
same-atom (given x) int e = cc
same-atom (given x) (given y) e = ap given (eqb-true x y e)

pub other-atom : (p q : Atom) → same_atom p q ≡ false → p ≢ q
unfolding same_atom
other-atom bool bool h e = let z : ◌≡◌ {A = ℕ} 0 1 = cc in omega arith
other-atom bool int h e = let z : ◌≡◌ {A = ℕ} 0 1 = cc in omega arith
other-atom bool (given y) h e = let z : ◌≡◌ {A = ℕ} 0 1 = cc in omega arith
other-atom int bool h e = let z : ◌≡◌ {A = ℕ} 0 1 = cc in omega arith
other-atom int int h e = let z : ◌≡◌ {A = ℕ} 0 1 = cc in omega arith
other-atom int (given y) h e = let z : ◌≡◌ {A = ℕ} 0 1 = cc in omega arith
other-atom (given x) bool h e = let z : ◌≡◌ {A = ℕ} 0 1 = cc in omega arith
other-atom (given x) int h e = let z : ◌≡◌ {A = ℕ} 0 1 = cc in omega arith
other-atom (given x) (given y) h e = eqb-false x y h (cc)

module _ (n : ℕ) where
  abbrev pub Allows : Words → Assignment → Type 0
  Allows ws σ = Admits n (node_at ws n) σ

  pub data Moved (ws ws' : Words) : Type 0 where
    stayed : ws' ≡ ws → Moved ws ws'
    fewer : frees (node_at ws' n) n < frees (node_at ws n) n → Moved ws ws'

  -- what stands after unify, in every outcome: E is the equation asked
  pub record Kept (ws : Words) (E : Assignment → Type 0) (ws' : Words) : Type 0 where
    pub sized : length ws' ≡ length ws
    pub good : Good n (node_at ws' n)
    pub keeps : (σ : Assignment) → Allows ws' σ → Allows ws σ
    pub takes : (σ : Assignment) → Allows ws σ → E σ → Allows ws' σ
    pub moved : Moved ws ws'

  abbrev pub Judges : Words → (Assignment → Type 0) → Words → Verdict → Type 0
  Judges ws E ws' unified = (σ : Assignment) → Allows ws' σ → E σ
  Judges ws E ws' mismatch = (σ : Assignment) → Allows ws σ → E σ → ⊥
  Judges ws E ws' circular = (σ : Assignment) → Allows ws σ → E σ → ⊥

  pub record Outcome (ws : Words) (E : Assignment → Type 0) (o : Answer) : Type 0 where
    pub kept : Kept ws E o.1
    pub judged : Judges ws E o.1 o.0

  abbrev pub Does : Words → (Assignment → Type 0) → M Words Answer → Type 0
  Does ws E m = Exact (Kept ws E) (Outcome ws E) m

  pub kept_refl : (ws : Words) (E : Assignment → Type 0) → Good n (node_at ws n) → Kept ws E ws
  kept_refl ws E G = record { sized = refl; good = G; keeps = λ σ A. A; takes = λ σ A q. A; moved = stayed refl }

  pub kept_map : {ws ws' : Words} {E E' : Assignment → Type 0} → ((σ : Assignment) → Allows ws σ → E σ → E' σ) → Kept ws E' ws' → Kept ws E ws'
  kept_map f k = record { sized = k.sized; good = k.good; keeps = k.keeps; takes = λ σ A q. k.takes σ A (f σ A q); moved = k.moved }

  pub judges_map : {ws ws' : Words} {E E' : Assignment → Type 0} → ((σ : Assignment) → Allows ws σ → E σ → E' σ) → ((σ : Assignment) → Allows ws σ → E' σ → E σ)
      → Kept ws E' ws' → (o : Verdict) → Judges ws E' ws' o → Judges ws E ws' o
  judges_map f g k unified j = λ σ A. g σ (k.keeps σ A) (j σ A)
  judges_map f g k mismatch j = λ σ A q. j σ A (f σ A q)
  judges_map f g k circular j = λ σ A q. j σ A (f σ A q)

  -- the same equation in other words
  pub outcome-map : {ws : Words} {E E' : Assignment → Type 0} {o : Answer} → ((σ : Assignment) → Allows ws σ → E σ → E' σ) → ((σ : Assignment) → Allows ws σ → E' σ → E σ) → Outcome ws E' o → Outcome ws E o
  outcome-map {o = o} f g h = record { kept = kept_map f h.kept; judged = judges_map f g h.kept o.0 h.judged }

  moved_trans : {ws ws₁ ws₂ : Words} → Moved ws ws₁ → Moved ws₁ ws₂ → Moved ws ws₂
  moved_trans (stayed p) (stayed q) = stayed (q ∙ p)
  moved_trans {ws} {ws₁} {ws₂} (stayed p) (fewer q) = fewer (rw p at q)
  moved_trans {ws} {ws₁} {ws₂} (fewer p) (stayed q) = fewer (rw q p)
  moved_trans (fewer p) (fewer q) = fewer (omega arith)

  pub kept_trans : {ws ws₁ ws₂ : Words} {E E₁ E₂ : Assignment → Type 0} → ((σ : Assignment) → Allows ws σ → E σ → E₁ σ × E₂ σ) → Kept ws E₁ ws₁ → Kept ws₁ E₂ ws₂ → Kept ws E ws₂
  kept_trans f k l = record {
    sized = l.sized ∙ k.sized;
    good = l.good;
    keeps = λ σ A. k.keeps σ (l.keeps σ A);
    takes = λ σ A q. l.takes σ (k.takes σ A (f σ A q).0) (f σ A q).1;
    moved = moved_trans k.moved l.moved;
  }

  -- binding
  module _ (ws : Words) (s : 3 * n ≤ length ws) (G : Good n (node_at ws n)) (v t : ℕ) (vl : v < n) (tl : t < n)
      (fr : node_at ws n v ≡ free) (root : Root (node_at ws n t)) (ne : v ≢ t) where
    abbrev pub Bound : Assignment → Type 0
    Bound σ = σ v ≡ σ t

    pub tree_v : G.tree v ≡ var v
    tree_v = subst (λ (k : Node). Fits n G.tree G.rank v k) fr (G.fits v vl)

    not_var : (nd : Node) → Fits n G.tree G.rank t nd → Root nd → G.tree t ≢ var v
    not_var free f q e = ne (cc)
    not_var (link j) f q e = q
    not_var (leaf p) f q e = let z : ◌≡◌ {A = ℕ} 0 1 = cc in omega arith
    not_var (power y) f q e = let w = f.1 in let z : ◌≡◌ {A = ℕ} 0 1 = cc in omega arith
    not_var (pair y z) f q e = let w = f.2 in let u : ◌≡◌ {A = ℕ} 0 1 = cc in omega arith
    not_var bad f q e = q

    pub never : has v (G.tree t) ≡ true → (σ : Assignment) → Allows ws σ → σ v ≡ σ t → ⊥
    never h σ A e =
        let p = has_proper σ v (G.tree t) h (not_var (node_at ws n t) (G.fits t tl) root) in
        let q : weight (σ v) ≡ weight (eval σ (G.tree t)) = ap weight (e ∙ spelt n (node_at ws n) G σ A t tl) in
        omega arith

    -- an unknown that is bound to what it does not occur in
    binding : (x y : ℕ) (ws' : Words) → Binds n ws x y ws' → x < n → y < n → node_at ws n x ≡ free → Root (node_at ws n y) → G.tree x ≡ var x → has x (G.tree y) ≡ false → x ≢ y → Outcome ws (λ σ. σ x ≡ σ y) (unified, ws')
    binding x y ws' B xl yl fx ry tx ab d =
        let here = B.here in
        let there = B.there in
        let k : Kept ws (λ σ. σ x ≡ σ y) ws' = record {
          sized = B.long;
          good = good-bind n (node_at ws n) (node_at ws' n) x y here there G yl ry tx ab d;
          keeps = bind-keeps n (node_at ws n) (node_at ws' n) x y here there xl fx;
          takes = bind-takes n (node_at ws n) (node_at ws' n) x y here there xl fx;
          moved = (let q = frees-bind (node_at ws n) (node_at ws' n) x y here there fx n xl in fewer (omega arith));
        } in
        record { kept = k; judged = bind-makes n (node_at ws n) (node_at ws' n) x y here there xl fx }

    tree_t : node_at ws n t ≡ free → G.tree t ≡ var t
    tree_t e = subst (λ (k : Node). Fits n G.tree G.rank t k) e (G.fits t tl)

    pub merging : (ws' : Words) → Merged n ws v t ws' → has v (G.tree t) ≡ false → Outcome ws Bound (unified, ws')
    unfolding has
    merging ws' (to_right B) h = binding v t ws' B vl tl fr root tree_v h ne
    merging ws' (to_left e B) h =
        let o = binding t v ws' B tl vl e (subst (λ (k : Node). Root k) (sym fr) tt) (tree_t e) (ap (has t) tree_v ∙ ne_eqb v t ne) (λ q. ne (sym q)) in
        record { kept = kept_map (λ σ A q. sym q) o.kept; judged = λ σ A. sym (o.judged σ A) }

  -- a pair met a pair: the equation splits, and joins again
  module _ (ws : Words) (a b : ℕ) (al : a < n) (bl : b < n) (x y z w : ℕ) (ea : node_at ws n a ≡ pair x y) (eb : node_at ws n b ≡ pair z w) where
    left-says : (σ : Assignment) → Allows ws σ → σ a ≡ prod (σ x) (σ y)
    left-says σ A = subst (λ (k : Node). Says σ a k) ea (A a al)

    right-says : (σ : Assignment) → Allows ws σ → σ b ≡ prod (σ z) (σ w)
    right-says σ A = subst (λ (k : Node). Says σ b k) eb (A b bl)

    pub split : (σ : Assignment) → Allows ws σ → σ a ≡ σ b → (σ x ≡ σ z) × (σ y ≡ σ w)
    split σ A q = let u = left-says σ A in let v = right-says σ A in (cc, cc)

    join : (σ : Assignment) → Allows ws σ → σ x ≡ σ z → σ y ≡ σ w → σ a ≡ σ b
    join σ A p q = let u = left-says σ A in let v = right-says σ A in cc

    judges_next : (ws' ws'' : Words) → Kept ws (λ σ. σ x ≡ σ z) ws' → Judges ws (λ σ. σ x ≡ σ z) ws' unified → Kept ws' (λ σ. σ y ≡ σ w) ws'' → (o : Verdict) → Judges ws' (λ σ. σ y ≡ σ w) ws'' o → Judges ws (λ σ. σ a ≡ σ b) ws'' o
    judges_next ws' ws'' k j l unified i = λ σ A. (let B = l.keeps σ A in join σ (k.keeps σ B) (j σ B) (i σ A))
    judges_next ws' ws'' k j l mismatch i = λ σ A q. (let e = split σ A q in i σ (k.takes σ A e.0) e.1)
    judges_next ws' ws'' k j l circular i = λ σ A q. (let e = split σ A q in i σ (k.takes σ A e.0) e.1)

    -- the left halves are one: the right halves decide
    pub right_half : (ws' : Words) (o : Answer) → Outcome ws (λ σ. σ x ≡ σ z) (unified, ws') → Outcome ws' (λ σ. σ y ≡ σ w) o → Outcome ws (λ σ. σ a ≡ σ b) o
    right_half ws' o h g = record { kept = kept_trans split h.kept g.kept; judged = judges_next ws' o.1 h.kept h.judged g.kept o.0 g.judged }

    -- the left halves fail: the right ones are not looked at
    pub left_half : (o : Verdict) (ws' : Words) → o ≢ unified → Outcome ws (λ σ. σ x ≡ σ z) (o, ws') → Outcome ws (λ σ. σ a ≡ σ b) (o, ws')
    left_half unified ws' d h = absurd (d refl)
    left_half mismatch ws' d h = record { kept = kept_map (λ σ A e. (split σ A e).0) h.kept; judged = λ σ A e. h.judged σ A (split σ A e).0 }
    left_half circular ws' d h = record { kept = kept_map (λ σ A e. (split σ A e).0) h.kept; judged = λ σ A e. h.judged σ A (split σ A e).0 }
