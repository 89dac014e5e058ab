-- The theorems of specs/Unifies.antt, whose head says what they give: `unify-exact`.
use Rattle.std.specs.Prelude.{ℕ, zero, suc, ◌*◌, ◌≤◌, ◌<◌, ◌≢◌, Bool, eqb, length}
use Rattle.std.proofs.Math.Path.{◌≡◌, refl, sym, ap, subst}
use Rattle.std.proofs.Common.{◌∙◌, arith}
use Rattle.std.proofs.Math.Bool.{true, false}
use borrow.Author.Tests.{eqb-true, eqb-false}
use Rattle.meter.specs.Meter.{M, ret, Exact, exact-ret, exact-tick, exact_eq, exact-map, exact-bind, exact-reading}
use Rattle.types.specs.Ty.{Atom, base, pow}
use Rattle.unification.specs.Arena.{Node, free, link, leaf, power, pair, bad, Words, node_at, merge_at, choose, Verdict, unified, mismatch, circular, same_atom, verdict_of, meet, Answer, bound, assign, next, meeting, unify_at, unify_f, unify}
use Rattle.unification.specs.Trees.{eval, has, size}
use Rattle.unification.specs.Good.{Assignment, Says, Fits, Good, Root, spelt, frees}
use Rattle.unification.proofs.Merge.{merged}
use Rattle.unification.proofs.Steps.{unify_eq}
use Rattle.unification.specs.Readers.{Rooted, resolve-exact, occurs-exact}
use Rattle.unification.specs.Unifies.{kept_map, Allows, Does, outcome-map, Judges, kept_refl, Bound, merging, never, tree_v, Moved, stayed, fewer, split, Outcome, left_half, right_half, kept_trans, same-atom, other-atom, Kept}

module _ (n : ℕ) where
  does_map : {ws : Words} {E E' : Assignment → Type 0} {m : M Words Answer} → ((σ : Assignment) → Allows n ws σ → E σ → E' σ) → ((σ : Assignment) → Allows n ws σ → E' σ → E σ)
      → Does n ws E' m → Does n ws E m
  does_map f g x = exact-map (λ e k. kept_map n f k) (λ o h. outcome-map n f g h) x

  -- a call that changes nothing
  answers : (ws : Words) (E : Assignment → Type 0) (o : Verdict) → Good n (node_at ws n) → Judges n ws E ws o → Does n ws E (ret (o, ws))
  answers ws E o G j = exact-ret _ (o, ws) (record { kept = kept_refl n ws E G; judged = j })

  -- binding
  module _ (ws : Words) (s : 3 * n ≤ length ws) (G : Good n (node_at ws n)) (v t : ℕ) (vl : v < n) (tl : t < n)
      (fr : node_at ws n v ≡ free) (root : Root (node_at ws n t)) (ne : v ≢ t) where
    bound_does : (c : Bool) → c ≡ has v (G.tree t) → Does n ws (Bound n ws s G v t vl tl fr root ne) (bound ws n v t c)
    unfolding bound
    bound_does true h = answers ws (Bound n ws s G v t vl tl fr root ne) circular G (never n ws s G v t vl tl fr root ne (sym h))
    bound_does false h = exact-ret _ (unified, merge_at ws n v t) (merging n ws s G v t vl tl fr root ne (merge_at ws n v t) (merged ws n v t s vl tl) (sym h))

    assign_does : Does n ws (Bound n ws s G v t vl tl fr root ne) (assign ws n v t)
    unfolding assign
    assign_does = exact-bind (exact-reading ws (kept_refl n ws (Bound n ws s G v t vl tl fr root ne) G) (occurs-exact ws n G v t tl)) (λ c h. bound_does c (h (tree_v n ws s G v t vl tl fr root ne)))

  not_mismatch : ◌≢◌ {A = Verdict} mismatch unified
  not_mismatch e = let z : ◌≡◌ {A = ℕ} 0 1 = cc in omega arith

  not_circular : ◌≢◌ {A = Verdict} circular unified
  not_circular e = let z : ◌≡◌ {A = ℕ} 0 1 = cc in omega arith

  -- the nodes met
  module _ (ws : Words) (s : 3 * n ≤ length ws) (G : Good n (node_at ws n)) (a b : ℕ) (al : a < n) (bl : b < n) (ne : a ≢ b)
      (rec : (x y : ℕ) → x < n → y < n → size (G.tree x) < size (G.tree a) → Does n ws (λ σ. σ x ≡ σ y) (unify n (ws, x, y)))
      (less : (ws' : Words) → 3 * n ≤ length ws' → Good n (node_at ws' n) → frees (node_at ws' n) n < frees (node_at ws n) n → (x y : ℕ) → x < n → y < n → Does n ws' (λ σ. σ x ≡ σ y) (unify n (ws', x, y))) where
    abbrev Same : Assignment → Type 0
    Same σ = σ a ≡ σ b

    clashes : (na nb : Node) → node_at ws n a ≡ na → node_at ws n b ≡ nb → ((σ : Assignment) → Says σ a na → Says σ b nb → σ a ≡ σ b → ⊥) → Does n ws Same (ret (mismatch, ws))
    clashes na nb ea eb h = answers ws Same mismatch G (λ σ A q. h σ (subst (λ (k : Node). Says σ a k) ea (A a al)) (subst (λ (k : Node). Says σ b k) eb (A b bl)) q)

    leaves : (p q : Atom) → node_at ws n a ≡ leaf p → node_at ws n b ≡ leaf q → (c : Bool) → (c ≡ true → p ≡ q) → (c ≡ false → p ≢ q) → Does n ws Same (meeting (unify n) ws n a b (verdict_of c))
    unfolding meeting verdict_of
    leaves p q ea eb true f g = answers ws Same unified G (λ σ A. (
        let u : σ a ≡ base p = subst (λ (k : Node). Says σ a k) ea (A a al) in
        let w : σ b ≡ base q = subst (λ (k : Node). Says σ b k) eb (A b bl) in
        let e = f refl in cc))
    leaves p q ea eb false f g = clashes (leaf p) (leaf q) ea eb (λ σ u w e. g refl (cc))

    right-after : (y w : ℕ) → y < n → w < n → size (G.tree y) < size (G.tree a) → (ws' : Words) → 3 * n ≤ length ws' → Good n (node_at ws' n) → Moved n ws ws' → Does n ws' (λ σ. σ y ≡ σ w) (unify n (ws', y, w))
    right-after y w yl wl q ws' s' G' (stayed e) = subst (λ (l : Words). Does n l (λ σ. σ y ≡ σ w) (unify n (l, y, w))) (sym e) (rec y w yl wl q)
    right-after y w yl wl q ws' s' G' (fewer f) = less ws' s' G' f y w yl wl

    next_does : (x y z w : ℕ) → node_at ws n a ≡ pair x y → node_at ws n b ≡ pair z w → y < n → w < n → size (G.tree y) < size (G.tree a) → (o : Verdict) (ws' : Words) → Outcome n ws (λ σ. σ x ≡ σ z) (o, ws') → Does n ws Same (next (unify n) y w o ws')
    unfolding next
    next_does x y z w ea eb yl wl q unified ws' h = exact-map (λ e k. kept_trans n (split n ws a b al bl x y z w ea eb) h.kept k) (λ o g. right_half n ws a b al bl x y z w ea eb ws' o h g)
        (right-after y w yl wl q ws' (rw h.kept.sized s) h.kept.good h.kept.moved)
    next_does x y z w ea eb yl wl q mismatch ws' h = exact-ret _ (mismatch, ws') (left_half n ws a b al bl x y z w ea eb mismatch ws' not_mismatch h)
    next_does x y z w ea eb yl wl q circular ws' h = exact-ret _ (circular, ws') (left_half n ws a b al bl x y z w ea eb circular ws' not_circular h)

    left-free : node_at ws n a ≡ free → Root (node_at ws n b) → Does n ws Same (assign ws n a b)
    left-free ea rb = assign_does ws s G a b al bl ea rb ne

    right-free : node_at ws n b ≡ free → Root (node_at ws n a) → Does n ws Same (assign ws n b a)
    right-free eb ra = does_map (λ σ A e. sym e) (λ σ A e. sym e) (assign_does ws s G b a bl al eb ra (λ e. ne (sym e)))

    meeting_does : Root (node_at ws n a) → Root (node_at ws n b) → (na nb : Node) → node_at ws n a ≡ na → node_at ws n b ≡ nb
        → Fits n G.tree G.rank a na → Fits n G.tree G.rank b nb → Does n ws Same (meeting (unify n) ws n a b (meet na nb))
    unfolding meeting meet size
    meeting_does ra rb free nb ea eb fa fb = left-free ea rb
    meeting_does ra rb (link j) nb ea eb fa fb = absurd (subst (λ (k : Node). Root k) ea ra)
    meeting_does ra rb (leaf p) free ea eb fa fb = right-free eb ra
    meeting_does ra rb (leaf p) (link j) ea eb fa fb = absurd (subst (λ (k : Node). Root k) eb rb)
    meeting_does ra rb (leaf p) (leaf q) ea eb fa fb = leaves p q ea eb (same_atom p q) (same-atom p q) (other-atom p q)
    meeting_does ra rb (leaf p) (power y) ea eb fa fb = clashes (leaf p) (power y) ea eb (λ σ u w e. (let z : ◌≡◌ {A = ℕ} 0 1 = cc in omega arith))
    meeting_does ra rb (leaf p) (pair y z) ea eb fa fb = clashes (leaf p) (pair y z) ea eb (λ σ u w e. (let z : ◌≡◌ {A = ℕ} 0 1 = cc in omega arith))
    meeting_does ra rb (leaf p) bad ea eb fa fb = absurd fb
    meeting_does ra rb (power x) free ea eb fa fb = right-free eb ra
    meeting_does ra rb (power x) (link j) ea eb fa fb = absurd (subst (λ (k : Node). Root k) eb rb)
    meeting_does ra rb (power x) (leaf q) ea eb fa fb = clashes (power x) (leaf q) ea eb (λ σ u w e. (let z : ◌≡◌ {A = ℕ} 0 1 = cc in omega arith))
    meeting_does ra rb (power x) (power y) ea eb fa fb =
        let t = ap size fa.1 in
        does_map (λ σ A e. (let u : σ a ≡ pow (σ x) = subst (λ (k : Node). Says σ a k) ea (A a al) in let w : σ b ≡ pow (σ y) = subst (λ (k : Node). Says σ b k) eb (A b bl) in cc))
        (λ σ A e. (let u : σ a ≡ pow (σ x) = subst (λ (k : Node). Says σ a k) ea (A a al) in let w : σ b ≡ pow (σ y) = subst (λ (k : Node). Says σ b k) eb (A b bl) in cc))
        (rec x y fa.0 fb.0 (omega arith))
    meeting_does ra rb (power x) (pair y z) ea eb fa fb = clashes (power x) (pair y z) ea eb (λ σ u w e. (let z : ◌≡◌ {A = ℕ} 0 1 = cc in omega arith))
    meeting_does ra rb (power x) bad ea eb fa fb = absurd fb
    meeting_does ra rb (pair x y) free ea eb fa fb = right-free eb ra
    meeting_does ra rb (pair x y) (link j) ea eb fa fb = absurd (subst (λ (k : Node). Root k) eb rb)
    meeting_does ra rb (pair x y) (leaf q) ea eb fa fb = clashes (pair x y) (leaf q) ea eb (λ σ u w e. (let z : ◌≡◌ {A = ℕ} 0 1 = cc in omega arith))
    meeting_does ra rb (pair x y) (power z) ea eb fa fb = clashes (pair x y) (power z) ea eb (λ σ u w e. (let z : ◌≡◌ {A = ℕ} 0 1 = cc in omega arith))
    meeting_does ra rb (pair x y) (pair z w) ea eb fa fb =
        let t = ap size fa.2 in
        exact-bind (exact-map (λ e k. kept_map n (λ σ A q. (split n ws a b al bl x y z w ea eb σ A q).0) k) (λ o h. h) (rec x z fa.0 fb.0 (omega arith)))
        (λ o h. next_does x y z w ea eb fa.1 fb.1 (omega arith) o.0 o.1 h)
    meeting_does ra rb (pair x y) bad ea eb fa fb = absurd fb
    meeting_does ra rb bad nb ea eb fa fb = absurd fa

  -- unify at one level of the induction
  module _ (ws : Words) (s : 3 * n ≤ length ws) (G : Good n (node_at ws n)) (a b : ℕ) (al : a < n) (bl : b < n)
      (rec : (x y : ℕ) → x < n → y < n → size (G.tree x) < size (G.tree a) → Does n ws (λ σ. σ x ≡ σ y) (unify n (ws, x, y)))
      (less : (ws' : Words) → 3 * n ≤ length ws' → Good n (node_at ws' n) → frees (node_at ws' n) n < frees (node_at ws n) n → (x y : ℕ) → x < n → y < n → Does n ws' (λ σ. σ x ≡ σ y) (unify n (ws', x, y))) where
    same-root : (t r : ℕ) → t < n → Rooted ws n G t r → (σ : Assignment) → Allows n ws σ → σ t ≡ σ r
    same-root t r l h σ A = spelt n (node_at ws n) G σ A t l ∙ ap (eval σ) (sym h.same) ∙ sym (spelt n (node_at ws n) G σ A r h.inside)

    at_does : (p q : ℕ) → Rooted ws n G a p → Rooted ws n G b q → (c : Bool) → eqb p q ≡ c
        → Does n ws (λ σ. σ p ≡ σ q) (choose c (ret (unified, ws)) (meeting (unify n) ws n p q (meet (node_at ws n p) (node_at ws n q))))
    unfolding choose
    at_does p q hp hq true e = answers ws (λ σ. σ p ≡ σ q) unified G (λ σ A. ap σ (eqb-true p q e))
    at_does p q hp hq false e = meeting_does ws s G p q hp.inside hq.inside (eqb-false p q e)
        (λ x y xl yl l. rec x y xl yl (rw hp.same at l)) less
        hp.root hq.root (node_at ws n p) (node_at ws n q) refl refl (G.fits p hp.inside) (G.fits q hq.inside)

    step_does : Does n ws (λ σ. σ a ≡ σ b) (unify n (ws, a, b))
    unfolding unify_f unify_at
    step_does = exact_eq (unify_eq n (ws, a, b)) (exact-tick ws (kept_refl n ws _ G)
        (exact-bind (exact-reading ws (kept_refl n ws _ G) (resolve-exact ws n G a al)) λ p hp.
        exact-bind (exact-reading ws (kept_refl n ws _ G) (resolve-exact ws n G b bl)) λ q hq.
        does_map (λ σ A e. sym (same-root a p al hp σ A) ∙ e ∙ same-root b q bl hq σ A) (λ σ A e. same-root a p al hp σ A ∙ e ∙ sym (same-root b q bl hq σ A))
        (at_does p q hp hq (eqb p q) refl)))

  by_size : (k : ℕ) → ((ws : Words) → 3 * n ≤ length ws → Good n (node_at ws n) → frees (node_at ws n) n < k → (a b : ℕ) → a < n → b < n → Does n ws (λ σ. σ a ≡ σ b) (unify n (ws, a, b)))
      → (z : ℕ) (ws : Words) → 3 * n ≤ length ws → (G : Good n (node_at ws n)) → frees (node_at ws n) n ≤ k → (a b : ℕ) → a < n → b < n → size (G.tree a) < z → Does n ws (λ σ. σ a ≡ σ b) (unify n (ws, a, b))
  by_size k less zero ws s G f a b al bl l = absurd (omega arith)
  by_size k less (suc z) ws s G f a b al bl l = step_does ws s G a b al bl
      (λ x y xl yl q. by_size k less z ws s G f x y xl yl (omega arith))
      (λ ws' s' G' q x y xl yl. less ws' s' G' (omega arith) x y xl yl)

  by-frees : (k : ℕ) (ws : Words) → 3 * n ≤ length ws → Good n (node_at ws n) → frees (node_at ws n) n < k → (a b : ℕ) → a < n → b < n → Does n ws (λ σ. σ a ≡ σ b) (unify n (ws, a, b))
  by-frees zero ws s G f a b al bl = absurd (omega arith)
  by-frees (suc k) ws s G f a b al bl = by_size k (by-frees k) (suc (size (G.tree a))) ws s G (omega arith) a b al bl (omega arith)

  -- the whole for unify
  pub unify-exact : (ws : Words) → 3 * n ≤ length ws → Good n (node_at ws n) → (a b : ℕ) → a < n → b < n → Exact (Kept n ws (λ σ. σ a ≡ σ b)) (Outcome n ws (λ σ. σ a ≡ σ b)) (unify n (ws, a, b))
  unify-exact ws s G a b al bl = by-frees (suc (frees (node_at ws n) n)) ws s G (omega arith) a b al bl
