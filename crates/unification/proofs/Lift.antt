-- The theorems of specs/Lift.antt, whose head says what they give: `lift-law`.
use Prim.Native.Nat.{ℕ, zero, suc, ◌+◌, ◌*◌, ◌≤◌, ◌<◌}
use Rattle.std.proofs.Math.Path.{◌≡◌, refl, sym, ap, subst}
use Rattle.std.proofs.Common.{◌∙◌}
use Rattle.std.specs.Prelude.{Bool, length, drop}
use mathlib.Core.List.{List, [], ◌∷◌, ◌++◌}
use native.Mathlib.Omega.{arith}
use Rattle.std.proofs.Math.Decide.{dec_lt}
use borrow.Author.Tests.{lt-ltb, le-ltb}
use Rattle.meter.specs.Meter.{full, M, ret, fail, ◌>>=◌, bind-ret, bind-fail}
use Rattle.types.specs.Ty.{Atom, bool, int, given, Ty, base, pow, prod}
use Rattle.types.specs.Record as R
use Rattle.types.specs.Record.{head_of, type_at, type_by, and_then, deep_by}
use Rattle.unification.specs.Arena.{Node, leaf, power, pair, Words, U, choose}
use Rattle.unification.specs.Trees.{weight}
use Rattle.unification.specs.Good.{push_at, length_push}
use Rattle.unification.specs.Make.{make_of, build, make-done, make_full, build-power, build-pair}
use Rattle.unification.specs.Ops.{Op, make, Bench, grow, exec}
use Rattle.unification.proofs.Ops.{exec-append}
use Rattle.unification.specs.Lift.{Fit, Lifts, fits, over, crown, Raised, root_of, lift_ops, lift_of, atom_op, root-next, lift_by}

-- ---- the law
module _ (cap : ℕ) (small : cap < 0xFFFFFFFF) where
  module _ (b : Bench) (h : Fit cap small b) (k x y e : ℕ) where
    made-fits : b.count < cap → exec cap (make k x y ∷ []) b ≡ ret (grow b k x y)
    unfolding exec choose
    made-fits l = ap (λ (c : Bool). choose c (ret (grow b k x y)) (fail full tt)) (lt-ltb b.count cap l)

    made-over : cap ≤ b.count → exec cap (make k x y ∷ []) b ≡ fail full tt
    unfolding exec choose
    made-over l = ap (λ (c : Bool). choose c (ret (grow b k x y)) (fail full tt)) (le-ltb b.count cap l)

    one-node : (nd : Node) → build b.words b.count nd ≡ make_of b.words b.count k x y → Dec (b.count < cap) → Lifts cap small b (make k x y ∷ []) (crown b.words b.count nd e) (b.count + 1) e b.count
    unfolding crown grow
    one-node nd q (yes l) =
        let s = h.sized in
        fits (grow b k x y) (made-fits l) (omega arith) (length_push b.words b.count k x y) refl (omega arith)
        (ap (λ (m : M Words (ℕ × Words)). m >>= λ o. ret (o.0, e, o.1)) (q ∙ make-done b.words b.count k x y (omega arith) (omega arith)) ∙ bind-ret (b.count, push_at b.words b.count k x y) (λ o. ret (o.0, e, o.1)))
    one-node nd q (no l) =
        let s = h.sized in let w = h.within in
        over b.words (made-over (omega arith)) (ap (λ (m : M Words (ℕ × Words)). m >>= λ o. ret (o.0, e, o.1)) (q ∙ make_full b.words b.count k x y (omega arith) (omega arith)) ∙ bind-fail full b.words (λ o. ret (o.0, e, o.1)))

  lifts_as : {b : Bench} {os : List Op} {m m' : M Words Raised} {n n' e root root' : ℕ} → m' ≡ m → n ≡ n' → root ≡ root' → Lifts cap small b os m n e root → Lifts cap small b os m' n' e root'
  lifts_as {e = e} q i j (fits b' x c l p w f) = fits b' x (c ∙ i) l p w (q ∙ f ∙ ap (λ (r : ℕ). ret (r, e, b'.words)) j)
  lifts_as q i j (over ws x f) = over ws x (q ∙ f)

  -- one after the other
  module _ (b : Bench) (os qs : List Op) (m : M Words Raised) (k : Raised → M Words Raised) (n e root n' e' root' : ℕ) where
    after-fits : (b' : Bench) → exec cap os b ≡ ret b' → length b'.words ≡ length b.words → b'.problems ≡ b.problems → m ≡ ret (root, e, b'.words) → Lifts cap small b' qs (k (root, e, b'.words)) n' e' root' → Lifts cap small b (os ++ qs) (m >>= k) n' e' root'
    after-fits b' x l p f (fits b'' y c i j w g) = fits b'' (exec-append cap os qs b ∙ ap (λ (r : M U Bench). r >>= exec cap qs) x ∙ bind-ret b' (exec cap qs) ∙ y) c (i ∙ l) (j ∙ p) w
        (ap (λ (r : M Words Raised). r >>= k) f ∙ bind-ret (root, e, b'.words) k ∙ g)
    after-fits b' x l p f (over ws y g) = over ws (exec-append cap os qs b ∙ ap (λ (r : M U Bench). r >>= exec cap qs) x ∙ bind-ret b' (exec cap qs) ∙ y)
        (ap (λ (r : M Words Raised). r >>= k) f ∙ bind-ret (root, e, b'.words) k ∙ g)

    then : Fit cap small b → Lifts cap small b os m n e root → ((b' : Bench) → Fit cap small b' → b'.count ≡ n → Lifts cap small b' qs (k (root, e, b'.words)) n' e' root') → Lifts cap small b (os ++ qs) (m >>= k) n' e' root'
    then h (fits b' x c l p w f) g = after-fits b' x l p f (g b' (record { sized = l ∙ h.sized; within = w }) c)
    then h (over ws x f) g = over ws (exec-append cap os qs b ∙ ap (λ (r : M U Bench). r >>= exec cap qs) x ∙ bind-fail full tt (exec cap qs)) (ap (λ (r : M Words Raised). r >>= k) f ∙ bind-fail full ws k)

  -- a type that was found: both its parts were
  and_inv : (o : R.TypeAt) (k : Ty → ℕ → R.TypeAt) (t : Ty) (e : ℕ) → and_then o k ≡ R.got t e → (u : Ty) × (f : ℕ) × (o ≡ R.got u f) × (k u f ≡ R.got t e)
  unfolding and_then
  and_inv (R.got u f) k t e q = (u, f, refl, q)
  and_inv (R.malformed p) k t e q = let z : ◌≡◌ {A = ℕ} 0 1 = cc in absurd (omega arith)
  and_inv (R.deep p) k t e q = let z : ◌≡◌ {A = ℕ} 0 1 = cc in absurd (omega arith)

  module _ (names : ℕ) (s : List ℕ) where
    abbrev Here : ℕ → ℕ → Ty → ℕ → Bench → Type 0
    Here left p t e b = Lifts cap small b (lift_ops t b.count) (lift_of left names s b.words b.count p) (b.count + weight t) e (root_of t b.count)

    abbrev Law : ℕ → Type 0
    Law left = (p : ℕ) (t : Ty) (e : ℕ) → type_at left names s p ≡ R.got t e → (b : Bench) → Fit cap small b → Here left p t e b

    atom-node : (a : Atom) (e : ℕ) (b : Bench) → Fit cap small b → Lifts cap small b (atom_op a ∷ []) (crown b.words b.count (leaf a) e) (b.count + 1) e b.count
    unfolding atom_op build
    atom-node bool e b h = one-node b h 0x40 0 0 e (leaf bool) refl (dec_lt b.count cap)
    atom-node int e b h = one-node b h 0x41 0 0 e (leaf int) refl (dec_lt b.count cap)
    atom-node (given x) e b h = one-node b h 0x42 x 0 e (leaf (given x)) refl (dec_lt b.count cap)

    power-node : (t : Ty) (n e : ℕ) (b : Bench) → Fit cap small b → b.count ≡ n + weight t → Lifts cap small b (make 0x43 (root_of t n) 0 ∷ []) (crown b.words (root_of t n + 1) (power (root_of t n)) e) (n + weight (pow t)) e (root_of (pow t) n)
    unfolding weight root_of
    power-node t n e b h c =
        let q = root-next t n in
        lifts_as (ap (λ (i : ℕ). crown b.words i (power (root_of t n)) e) (q ∙ sym c)) (omega arith) c
        (one-node b h 0x43 (root_of t n) 0 e (power (root_of t n)) (build-power b.words b.count (root_of t n) (omega arith)) (dec_lt b.count cap))

    pair-node : (t u : Ty) (n e : ℕ) (b : Bench) → Fit cap small b → b.count ≡ n + weight t + weight u → Lifts cap small b (make 0x44 (root_of t n) (root_of u (n + weight t)) ∷ []) (crown b.words (root_of u (n + weight t) + 1) (pair (root_of t n) (root_of u (n + weight t))) e) (n + weight (prod t u)) e (root_of (prod t u) n)
    unfolding weight root_of
    pair-node t u n e b h c =
        let q = root-next t n in let r = root-next u (n + weight t) in
        lifts_as (ap (λ (i : ℕ). crown b.words i (pair (root_of t n) (root_of u (n + weight t))) e) (r ∙ sym c)) (omega arith) c
        (one-node b h 0x44 (root_of t n) (root_of u (n + weight t)) e (pair (root_of t n) (root_of u (n + weight t))) (build-pair b.words b.count (root_of t n) (root_of u (n + weight t)) (omega arith) (omega arith)) (dec_lt b.count cap))

    at_count : (left p : ℕ) (t : Ty) (e i : ℕ) (b : Bench) → b.count ≡ i → Here left p t e b → Lifts cap small b (lift_ops t i) (lift_of left names s b.words i p) (i + weight t) e (root_of t i)
    at_count left p t e i b c h = subst (λ (j : ℕ). Lifts cap small b (lift_ops t j) (lift_of left names s b.words j p) (j + weight t) e (root_of t j)) c h

    power-all : (left f : ℕ) (t : Ty) (e : ℕ) (b : Bench) → Fit cap small b → Here left f t e b
        → Lifts cap small b (lift_ops (pow t) b.count) (lift_of left names s b.words b.count f >>= λ o. crown o.2 (o.0 + 1) (power o.0) o.1) (b.count + weight (pow t)) e (root_of (pow t) b.count)
    unfolding lift_ops
    power-all left f t e b h x = then b (lift_ops t b.count) (make 0x43 (root_of t b.count) 0 ∷ []) (lift_of left names s b.words b.count f) (λ o. crown o.2 (o.0 + 1) (power o.0) o.1)
        (b.count + weight t) e (root_of t b.count) (b.count + weight (pow t)) e (root_of (pow t) b.count) h x (λ b' h' c. power-node t b.count e b' h' c)

    pair-all : (left f : ℕ) (t : Ty) (g : ℕ) (u : Ty) (e : ℕ) (b : Bench) → Fit cap small b → Here left f t g b → ((b' : Bench) → Fit cap small b' → Here left g u e b')
        → Lifts cap small b (lift_ops (prod t u) b.count) (lift_of left names s b.words b.count f >>= λ o. lift_of left names s o.2 (o.0 + 1) o.1 >>= λ v. crown v.2 (v.0 + 1) (pair o.0 v.0) v.1) (b.count + weight (prod t u)) e (root_of (prod t u) b.count)
    unfolding lift_ops
    pair-all left f t g u e b h x y =
        let n : ℕ = b.count in
        let last : List Op = make 0x44 (root_of t b.count) (root_of u (b.count + weight t)) ∷ [] in
        then b (lift_ops t b.count) (lift_ops u (b.count + weight t) ++ last) (lift_of left names s b.words b.count f) (λ o. lift_of left names s o.2 (o.0 + 1) o.1 >>= λ v. crown v.2 (v.0 + 1) (pair o.0 v.0) v.1)
        (b.count + weight t) g (root_of t b.count) (b.count + weight (prod t u)) e (root_of (prod t u) b.count) h x
        (λ b' h' c. lifts_as (ap (λ (i : ℕ). lift_of left names s b'.words i g >>= λ v. crown v.2 (v.0 + 1) (pair (root_of t b.count) v.0) v.1) (root-next t b.count)) refl refl
        (then b' (lift_ops u (b.count + weight t)) last (lift_of left names s b'.words (b.count + weight t) g) (λ v. crown v.2 (v.0 + 1) (pair (root_of t b.count) v.0) v.1)
        (b.count + weight t + weight u) e (root_of u (b.count + weight t)) (b.count + weight (prod t u)) e (root_of (prod t u) b.count) h'
        (at_count left g u e (b.count + weight t) b' c (y b' h')) (λ b'' h'' d. pair-node t u b.count e b'' h'' d)))

    by-head : (left : ℕ) → Law left → (p : ℕ) (hd : R.Head) (t : Ty) (e : ℕ) → type_by (type_at left names s) p hd ≡ R.got t e → (b : Bench) → Fit cap small b
        → Lifts cap small b (lift_ops t b.count) (lift_by (lift_of left names s) b.words b.count hd) (b.count + weight t) e (root_of t b.count)
    unfolding type_by lift_by lift_ops weight root_of
    by-head left rec p R.wrong t e q b h = let z : ◌≡◌ {A = ℕ} 0 1 = cc in absurd (omega arith)
    by-head left rec p (R.atomic a f) t e q b h =
        let i : base a ≡ t = cc in let j : f ≡ e = cc in
        subst (λ (u : Ty). Lifts cap small b (lift_ops u b.count) (crown b.words b.count (leaf a) f) (b.count + weight u) e (root_of u b.count)) i
        (subst (λ (g : ℕ). Lifts cap small b (atom_op a ∷ []) (crown b.words b.count (leaf a) f) (b.count + 1) g b.count) j (atom-node a f b h))
    by-head left rec p (R.power f) t e q b h =
        let w = and_inv (type_at left names s f) (λ t g. R.got (pow t) g) t e q in
        let i : pow w.0 ≡ t = cc in let j : w.1 ≡ e = cc in
        subst (λ (u : Ty). Lifts cap small b (lift_ops u b.count) (lift_of left names s b.words b.count f >>= λ o. crown o.2 (o.0 + 1) (power o.0) o.1) (b.count + weight u) e (root_of u b.count)) i
        (subst (λ (g : ℕ). Lifts cap small b (lift_ops (pow w.0) b.count) (lift_of left names s b.words b.count f >>= λ o. crown o.2 (o.0 + 1) (power o.0) o.1) (b.count + weight (pow w.0)) g (root_of (pow w.0) b.count)) j
        (power-all left f w.0 w.1 b h (rec f w.0 w.1 w.2 b h)))
    by-head left rec p (R.product f) t e q b h =
        let w = and_inv (type_at left names s f) (λ t g. and_then (type_at left names s g) λ u k. R.got (prod t u) k) t e q in
        let v = and_inv (type_at left names s w.1) (λ u k. R.got (prod w.0 u) k) t e w.3 in
        let i : prod w.0 v.0 ≡ t = cc in let j : v.1 ≡ e = cc in
        subst (λ (u : Ty). Lifts cap small b (lift_ops u b.count) (lift_of left names s b.words b.count f >>= λ o. lift_of left names s o.2 (o.0 + 1) o.1 >>= λ u. crown u.2 (u.0 + 1) (pair o.0 u.0) u.1) (b.count + weight u) e (root_of u b.count)) i
        (subst (λ (g : ℕ). Lifts cap small b (lift_ops (prod w.0 v.0) b.count) (lift_of left names s b.words b.count f >>= λ o. lift_of left names s o.2 (o.0 + 1) o.1 >>= λ u. crown u.2 (u.0 + 1) (pair o.0 u.0) u.1) (b.count + weight (prod w.0 v.0)) g (root_of (prod w.0 v.0) b.count)) j
        (pair-all left f w.0 w.1 v.0 v.1 b h (rec f w.0 w.1 w.2 b h) (rec w.1 v.0 v.1 v.2)))

    none_at_zero : (p : ℕ) (hd : R.Head) (t : Ty) (e : ℕ) → deep_by p hd ≡ R.got t e → ⊥
    unfolding deep_by
    none_at_zero p R.wrong t e q = let z : ◌≡◌ {A = ℕ} 0 1 = cc in omega arith
    none_at_zero p (R.atomic a f) t e q = let z : ◌≡◌ {A = ℕ} 0 1 = cc in omega arith
    none_at_zero p (R.power f) t e q = let z : ◌≡◌ {A = ℕ} 0 1 = cc in omega arith
    none_at_zero p (R.product f) t e q = let z : ◌≡◌ {A = ℕ} 0 1 = cc in omega arith

    law : (left : ℕ) → Law left
    unfolding type_at lift_of
    law zero p t e q b h = absurd (none_at_zero p (head_of names p (drop p s)) t e q)
    law (suc left) p t e q b h = by-head left (law left) p (head_of names p (drop p s)) t e q b h

    -- where t stands at p, lifting is running t's operations: they fit and give its root and the same words, or the capacity ends inside them
    pub lift-law : (left p : ℕ) (t : Ty) (e : ℕ) → type_at left names s p ≡ R.got t e → (b : Bench) → length b.words ≡ 3 * cap → b.count ≤ cap
        → Lifts cap small b (lift_ops t b.count) (lift_of left names s b.words b.count p) (b.count + weight t) e (root_of t b.count)
    lift-law left p t e q b l w = law left p t e q b (record { sized = l; within = w })
