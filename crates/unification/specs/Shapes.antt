-- What the assignments that an arena admits tell of the node that a reference leads to: its kind, its name, and what its parts are.
--
-- `Same`: two arenas in solved form that admit the same assignments, whatever is bound to what in them. There a reference leads in both to an unknown, to the
-- same atom, or to powers or products of parts that are equal again (`matched`), so two references meet in the one as they meet in the other (`meets-alike`).
-- Before that, what a meeting of two nodes says of them and of an assignment (`agree-says`, `clash-says`, `down-powers`, ..).
use Rattle.std.specs.Prelude.{ℕ, ◌*◌, ◌≤◌, ◌<◌, ◌≡◌, refl, Bool, length}
use Rattle.std.proofs.Common.{sym, ◌∙◌, ap, ap₂, arith}
use Rattle.std.proofs.Math.Path.{subst}
use Rattle.std.proofs.Math.Bool.{true, false}
use Rattle.types.specs.Ty.{Atom, bool, Ty, base, pow, prod}
use Rattle.unification.specs.Arena.{Node, free, link, leaf, power, pair, bad, Words, node_at, Meeting, bindLeft, bindRight, agree, clash, down, both, same_atom, verdict_of, meet}
use Rattle.unification.specs.Good.{Assignment, Says, Good, Root, extend, extend_admits, extend-free}
use Rattle.unification.specs.Unifies.{Allows, same-atom, other-atom}

-- ---- a meeting, and what it says
data Sees : Node → Node → Meeting → Type 0 where
  sees_left : {y : Node} → Sees free y bindLeft
  sees_right : {x : Node} → Sees x free bindRight
  sees_agree : {p q : Atom} → p ≡ q → Sees (leaf p) (leaf q) agree
  sees_clash : {x y : Node} → ((σ : Assignment) (a b : ℕ) → Says σ a x → Says σ b y → σ a ≡ σ b → ⊥) → Sees x y clash
  sees_down : {x y : ℕ} → Sees (power x) (power y) (down x y)
  sees_both : {x y z w : ℕ} → Sees (pair x y) (pair z w) (both x y z w)

atoms_see : (p q : Atom) (c : Bool) → same_atom p q ≡ c → Sees (leaf p) (leaf q) (verdict_of c)
unfolding verdict_of
atoms_see p q true e = sees_agree (same-atom p q e)
atoms_see p q false e = sees_clash {x = leaf p} {y = leaf q} (λ σ a b u w h. (let k : base p ≡ base q = sym u ∙ h ∙ w in other-atom p q e (cc)))

sees : (x y : Node) → Root x → Root y → Sees x y (meet x y)
unfolding meet
sees free y rx ry = sees_left
sees (link j) y rx ry = absurd rx
sees (leaf p) free rx ry = sees_right
sees (leaf p) (link j) rx ry = absurd ry
sees (leaf p) (leaf q) rx ry = atoms_see p q (same_atom p q) refl
sees (leaf p) (power y) rx ry = sees_clash {x = leaf p} {y = power y} (λ σ a b u w h. (let z : ◌≡◌ {A = ℕ} 0 1 = cc in omega arith))
sees (leaf p) (pair y z) rx ry = sees_clash {x = leaf p} {y = pair y z} (λ σ a b u w h. (let z : ◌≡◌ {A = ℕ} 0 1 = cc in omega arith))
sees (leaf p) bad rx ry = absurd ry
sees (power x) free rx ry = sees_right
sees (power x) (link j) rx ry = absurd ry
sees (power x) (leaf q) rx ry = sees_clash {x = power x} {y = leaf q} (λ σ a b u w h. (let z : ◌≡◌ {A = ℕ} 0 1 = cc in omega arith))
sees (power x) (power y) rx ry = sees_down
sees (power x) (pair y z) rx ry = sees_clash {x = power x} {y = pair y z} (λ σ a b u w h. (let z : ◌≡◌ {A = ℕ} 0 1 = cc in omega arith))
sees (power x) bad rx ry = absurd ry
sees (pair x y) free rx ry = sees_right
sees (pair x y) (link j) rx ry = absurd ry
sees (pair x y) (leaf q) rx ry = sees_clash {x = pair x y} {y = leaf q} (λ σ a b u w h. (let z : ◌≡◌ {A = ℕ} 0 1 = cc in omega arith))
sees (pair x y) (power z) rx ry = sees_clash {x = pair x y} {y = power z} (λ σ a b u w h. (let z : ◌≡◌ {A = ℕ} 0 1 = cc in omega arith))
sees (pair x y) (pair z w) rx ry = sees_both
sees (pair x y) bad rx ry = absurd ry
sees bad y rx ry = absurd rx

-- what is known of two nodes by how they meet
module _ (x y : Node) (rx : Root x) (ry : Root y) where
  seen : {m : Meeting} → meet x y ≡ m → Sees x y m
  seen e = subst (λ (k : Meeting). Sees x y k) e (sees x y rx ry)

  pub agree-says : meet x y ≡ agree → (σ : Assignment) (a b : ℕ) → Says σ a x → Says σ b y → σ a ≡ σ b
  agree-says e = go (seen e)
    where
      go : {x y : Node} → Sees x y agree → (σ : Assignment) (a b : ℕ) → Says σ a x → Says σ b y → σ a ≡ σ b
      go (sees_agree e) σ a b u w = u ∙ ap base e ∙ sym w

  pub clash-says : meet x y ≡ clash → (σ : Assignment) (a b : ℕ) → Says σ a x → Says σ b y → σ a ≡ σ b → ⊥
  clash-says e = go (seen e)
    where
      go : {x y : Node} → Sees x y clash → (σ : Assignment) (a b : ℕ) → Says σ a x → Says σ b y → σ a ≡ σ b → ⊥
      go (sees_clash h) = h

  pub down-powers : {i j : ℕ} → meet x y ≡ down i j → (x ≡ power i) × (y ≡ power j)
  down-powers e = go (seen e)
    where
      go : {x y : Node} {i j : ℕ} → Sees x y (down i j) → (x ≡ power i) × (y ≡ power j)
      go sees_down = (refl, refl)

  pub both-pairs : {i j k l : ℕ} → meet x y ≡ both i j k l → (x ≡ pair i j) × (y ≡ pair k l)
  both-pairs e = go (seen e)
    where
      go : {x y : Node} {i j k l : ℕ} → Sees x y (both i j k l) → (x ≡ pair i j) × (y ≡ pair k l)
      go sees_both = (refl, refl)

-- ---- two arenas that admit the same assignments
pub record Same (n : ℕ) (ws us : Words) : Type 0 where
  pub roomy : 3 * n ≤ length ws
  pub roomy' : 3 * n ≤ length us
  pub good : Good n (node_at ws n)
  pub good' : Good n (node_at us n)
  pub to : (σ : Assignment) → Allows n ws σ → Allows n us σ
  pub from : (σ : Assignment) → Allows n us σ → Allows n ws σ

pub same_refl : {n : ℕ} {ws : Words} → 3 * n ≤ length ws → Good n (node_at ws n) → Same n ws ws
same_refl s G = record { roomy = s; roomy' = s; good = G; good' = G; to = λ σ A. A; from = λ σ A. A }

pub same_sym : {n : ℕ} {ws us : Words} → Same n ws us → Same n us ws
same_sym S = record { roomy = S.roomy'; roomy' = S.roomy; good = S.good'; good' = S.good; to = S.from; from = S.to }

-- ---- two nodes that all of them give the same types, where only unknowns stand for any
pub data Matched (A : Assignment → Type 0) : Node → Node → Type 0 where
  unknowns : Matched A free free
  atoms : {p q : Atom} → p ≡ q → Matched A (leaf p) (leaf q)
  powers : {x y : ℕ} → ((σ : Assignment) → A σ → σ x ≡ σ y) → Matched A (power x) (power y)
  pairs : {x y z w : ℕ} → ((σ : Assignment) → A σ → σ x ≡ σ z) → ((σ : Assignment) → A σ → σ y ≡ σ w) → Matched A (pair x y) (pair z w)

-- an unknown of one arena is an unknown of the other: it takes every type
module _ (n : ℕ) (ws us : Words) (S : Same n ws us) (p q : ℕ) (pl : p < n) (ql : q < n) (fp : node_at ws n p ≡ free) (eq : (σ : Assignment) → Allows n ws σ → σ p ≡ σ q) where
  -- the assignment in which every unknown is t
  abbrev all : Ty → Assignment
  all t = extend n (node_at ws n) S.good (λ _. t)

  takes : (t : Ty) → all t q ≡ t
  takes t = sym (eq (all t) (extend_admits n (node_at ws n) S.good (λ _. t))) ∙ extend-free n (node_at ws n) S.good (λ _. t) p pl fp

  says : (t : Ty) (nd : Node) → node_at us n q ≡ nd → Says (all t) q nd
  says t nd e = subst (λ (k : Node). Says (all t) q k) e (S.to (all t) (extend_admits n (node_at ws n) S.good (λ _. t)) q ql)

  pub unknown-both : (nd : Node) → Root nd → node_at us n q ≡ nd → nd ≡ free
  unknown-both free r e = refl
  unknown-both (link j) r e = absurd r
  unknown-both (leaf b) r e = let u : all (pow (base bool)) q ≡ base b = says (pow (base bool)) (leaf b) e in let w = takes (pow (base bool)) in let z : ◌≡◌ {A = ℕ} 0 1 = cc in absurd (omega arith)
  unknown-both (power x) r e = let u : all (base bool) q ≡ pow (all (base bool) x) = says (base bool) (power x) e in let w = takes (base bool) in let z : ◌≡◌ {A = ℕ} 0 1 = cc in absurd (omega arith)
  unknown-both (pair x y) r e = let u : all (base bool) q ≡ prod (all (base bool) x) (all (base bool) y) = says (base bool) (pair x y) e in let w = takes (base bool) in let z : ◌≡◌ {A = ℕ} 0 1 = cc in absurd (omega arith)
  unknown-both bad r e = absurd r

module _ (n : ℕ) (ws us : Words) (S : Same n ws us) (p q : ℕ) (pl : p < n) (ql : q < n) (eq : (σ : Assignment) → Allows n ws σ → σ p ≡ σ q) where
  abbrev Admitted : Assignment → Type 0
  Admitted σ = Allows n ws σ

  some : Assignment
  some = extend n (node_at ws n) S.good (λ _. base bool)

  some_admitted : Allows n ws some
  unfolding some
  some_admitted = extend_admits n (node_at ws n) S.good (λ _. base bool)

  left-says : (nd : Node) → node_at ws n p ≡ nd → (σ : Assignment) → Allows n ws σ → Says σ p nd
  left-says nd e σ A = subst (λ (k : Node). Says σ p k) e (A p pl)

  right-says : (nd : Node) → node_at us n q ≡ nd → (σ : Assignment) → Allows n ws σ → Says σ q nd
  right-says nd e σ A = subst (λ (k : Node). Says σ q k) e (S.to σ A q ql)

  no_unknown : node_at us n q ≡ free → (nd : Node) → Root nd → node_at ws n p ≡ nd → nd ≡ free
  no_unknown f nd r e = unknown-both n us ws (same_sym S) q p ql pl f (λ σ A. sym (eq σ (S.from σ A))) nd r e

  differ : (nd nd' : Node) → node_at ws n p ≡ nd → node_at us n q ≡ nd' → ((σ : Assignment) (a b : ℕ) → Says σ a nd → Says σ b nd' → σ a ≡ σ b → ⊥) → Matched Admitted nd nd'
  differ nd nd' e f h = absurd (h some p q (left-says nd e some some_admitted) (right-says nd' f some some_admitted) (eq some some_admitted))

  matched-at : (nd nd' : Node) → Root nd → Root nd' → node_at ws n p ≡ nd → node_at us n q ≡ nd' → Matched Admitted nd nd'
  matched-at free nd' r s e f = subst (λ (k : Node). Matched Admitted free k) (sym (unknown-both n ws us S p q pl ql e eq nd' s f)) unknowns
  matched-at (link j) nd' r s e f = absurd r
  matched-at (leaf a) free r s e f = subst (λ (k : Node). Matched Admitted k free) (sym (no_unknown f (leaf a) r e)) unknowns
  matched-at (leaf a) (link j) r s e f = absurd s
  matched-at (leaf a) (leaf b) r s e f =
      let u : some p ≡ base a = left-says (leaf a) e some some_admitted in
      let w : some q ≡ base b = right-says (leaf b) f some some_admitted in
      let h = eq some some_admitted in
      let k : a ≡ b = cc in
      atoms k
  matched-at (leaf a) (power y) r s e f = differ (leaf a) (power y) e f (λ σ a b u w h. (let z : ◌≡◌ {A = ℕ} 0 1 = cc in omega arith))
  matched-at (leaf a) (pair y z) r s e f = differ (leaf a) (pair y z) e f (λ σ a b u w h. (let z : ◌≡◌ {A = ℕ} 0 1 = cc in omega arith))
  matched-at (leaf a) bad r s e f = absurd s
  matched-at (power x) free r s e f = subst (λ (k : Node). Matched Admitted k free) (sym (no_unknown f (power x) r e)) unknowns
  matched-at (power x) (link j) r s e f = absurd s
  matched-at (power x) (leaf b) r s e f = differ (power x) (leaf b) e f (λ σ a b u w h. (let z : ◌≡◌ {A = ℕ} 0 1 = cc in omega arith))
  matched-at (power x) (power y) r s e f = powers {x = x} {y = y} (λ σ A. (
      let u : σ p ≡ pow (σ x) = left-says (power x) e σ A in
      let w : σ q ≡ pow (σ y) = right-says (power y) f σ A in
      let h = eq σ A in cc))
  matched-at (power x) (pair y z) r s e f = differ (power x) (pair y z) e f (λ σ a b u w h. (let z : ◌≡◌ {A = ℕ} 0 1 = cc in omega arith))
  matched-at (power x) bad r s e f = absurd s
  matched-at (pair x y) free r s e f = subst (λ (k : Node). Matched Admitted k free) (sym (no_unknown f (pair x y) r e)) unknowns
  matched-at (pair x y) (link j) r s e f = absurd s
  matched-at (pair x y) (leaf b) r s e f = differ (pair x y) (leaf b) e f (λ σ a b u w h. (let z : ◌≡◌ {A = ℕ} 0 1 = cc in omega arith))
  matched-at (pair x y) (power z) r s e f = differ (pair x y) (power z) e f (λ σ a b u w h. (let z : ◌≡◌ {A = ℕ} 0 1 = cc in omega arith))
  matched-at (pair x y) (pair z w) r s e f = pairs {x = x} {y = y} {z = z} {w = w}
      (λ σ A. (let u : σ p ≡ prod (σ x) (σ y) = left-says (pair x y) e σ A in let v : σ q ≡ prod (σ z) (σ w) = right-says (pair z w) f σ A in let h = eq σ A in cc))
      (λ σ A. (let u : σ p ≡ prod (σ x) (σ y) = left-says (pair x y) e σ A in let v : σ q ≡ prod (σ z) (σ w) = right-says (pair z w) f σ A in let h = eq σ A in cc))
  matched-at (pair x y) bad r s e f = absurd s
  matched-at bad nd' r s e f = absurd r

  pub matched : Root (node_at ws n p) → Root (node_at us n q) → Matched (λ σ. Allows n ws σ) (node_at ws n p) (node_at us n q)
  matched r s = matched-at (node_at ws n p) (node_at us n q) r s refl refl

-- ---- two pairs of such nodes meet alike
pub data Alike (A : Assignment → Type 0) : Meeting → Meeting → Type 0 where
  both_left : Alike A bindLeft bindLeft
  both_right : Alike A bindRight bindRight
  both-agree : Alike A agree agree
  both-clash : Alike A clash clash
  both-down : {x y x' y' : ℕ} → ((σ : Assignment) → A σ → σ x ≡ σ x') → ((σ : Assignment) → A σ → σ y ≡ σ y') → Alike A (down x y) (down x' y')
  both-both : {x y z w x' y' z' w' : ℕ} → ((σ : Assignment) → A σ → σ x ≡ σ x') → ((σ : Assignment) → A σ → σ y ≡ σ y') → ((σ : Assignment) → A σ → σ z ≡ σ z') → ((σ : Assignment) → A σ → σ w ≡ σ w')
      → Alike A (both x y z w) (both x' y' z' w')

module _ {A : Assignment → Type 0} where
  verdicts_alike : (c : Bool) → Alike A (verdict_of c) (verdict_of c)
  unfolding verdict_of
  verdicts_alike true = both-agree
  verdicts_alike false = both-clash

  pub meets-alike : {x x' y y' : Node} → Matched A x x' → Matched A y y' → Alike A (meet x y) (meet x' y')
  unfolding meet
  meets-alike unknowns m = both_left
  meets-alike (atoms e) unknowns = both_right
  meets-alike (atoms {p = p} e) (atoms {p = r} f) = subst (λ (c : Bool). Alike A (verdict_of (same_atom p r)) (verdict_of c)) (ap₂ same_atom e f) (verdicts_alike (same_atom p r))
  meets-alike (atoms e) (powers f) = both-clash
  meets-alike (atoms e) (pairs f g) = both-clash
  meets-alike (powers e) unknowns = both_right
  meets-alike (powers e) (atoms f) = both-clash
  meets-alike (powers e) (powers f) = both-down e f
  meets-alike (powers e) (pairs f g) = both-clash
  meets-alike (pairs e f) unknowns = both_right
  meets-alike (pairs e f) (atoms g) = both-clash
  meets-alike (pairs e f) (powers g) = both-clash
  meets-alike (pairs e f) (pairs g h) = both-both e f g h

  -- how the second pair meets, from how the first does
  pub alike-left : {m : Meeting} → Alike A bindLeft m → m ≡ bindLeft
  alike-left both_left = refl

  pub alike_right : {m : Meeting} → Alike A bindRight m → m ≡ bindRight
  alike_right both_right = refl

  pub alike-agree : {m : Meeting} → Alike A agree m → m ≡ agree
  alike-agree both-agree = refl

  pub alike-clash : {m : Meeting} → Alike A clash m → m ≡ clash
  alike-clash both-clash = refl

-- the parts of the second node, and that they are those of the first
pub record Powers (A : Assignment → Type 0) (x y : ℕ) (m : Meeting) : Type 0 where
  pub left : ℕ
  pub right : ℕ
  pub meets : m ≡ down left right
  pub left_equal : (σ : Assignment) → A σ → σ x ≡ σ left
  pub right_equal : (σ : Assignment) → A σ → σ y ≡ σ right

pub alike-down : {A : Assignment → Type 0} {x y : ℕ} {m : Meeting} → Alike A (down x y) m → Powers A x y m
alike-down (both-down {x' = x'} {y' = y'} e f) = record { left = x'; right = y'; meets = refl; left_equal = e; right_equal = f }

pub record Pairs (A : Assignment → Type 0) (x y z w : ℕ) (m : Meeting) : Type 0 where
  pub first : ℕ
  pub second : ℕ
  pub third : ℕ
  pub fourth : ℕ
  pub meets : m ≡ both first second third fourth
  pub first_equal : (σ : Assignment) → A σ → σ x ≡ σ first
  pub second_equal : (σ : Assignment) → A σ → σ y ≡ σ second
  pub third_equal : (σ : Assignment) → A σ → σ z ≡ σ third
  pub fourth_equal : (σ : Assignment) → A σ → σ w ≡ σ fourth

pub alike_both : {A : Assignment → Type 0} {x y z w : ℕ} {m : Meeting} → Alike A (both x y z w) m → Pairs A x y z w m
alike_both (both-both {x' = x'} {y' = y'} {z' = z'} {w' = w'} e f g h) = record { first = x'; second = y'; third = z'; fourth = w'; meets = refl; first_equal = e; second_equal = f; third_equal = g; fourth_equal = h }
