-- The theorems of specs/Laws.antt, whose head says what they give: `unify_success`, `unify_exactly`, `unknowns-free`, `solved-law`, `read-law`.
use Rattle.std.specs.Prelude.{ℕ, zero, suc, ◌+◌, ◌*◌, ◌≤◌, ◌<◌, ◌≡◌, refl, ◌≢◌, ◌↔◌, ◌⊎◌, Bool, true, false, length}
use Rattle.std.proofs.Common.{sym, ◌∙◌, ap, subst, inl, inr, arith}
use Rattle.std.proofs.Math.Decide.{dec_lt}
use Rattle.meter.specs.Meter.{Out, spent, halt, done, Why, broken, M, fail, tick, on, ◌>>=◌, at_e, reading, Ends, exact-ends, exact-done, Costs, done_costs, Halts, halt_costs}
use Rattle.types.specs.Ty.{bool, int, Ty, base}
use Rattle.unification.specs.Arena.{Node, free, bad, decode, Words, U, node_at, follow, resolve, occurs, solved, read, Verdict, unified, mismatch, circular, Pair, Answer, unify_f, unify}
use Rattle.unification.specs.Trees.{var, ground, ground-same, ground_differs}
use Rattle.unification.specs.Good.{Assignment, Admits, Good, Inside, spelt, extend, extend_admits, extend-free, good_push, push_at, length_push, node_push_new, node_push_old, inside_no, node-out}
use Rattle.unification.specs.Steps.{resolve_eq}
use Rattle.unification.proofs.Steps.{unify_metered, unify_eq}
use Rattle.unification.specs.Readers.{resolve-exact, occurs-exact, solved-exact, read-exact}
use Rattle.unification.specs.Twin.{read_as_solved}
use Rattle.unification.specs.Unifies.{Kept, Outcome}
use Rattle.unification.proofs.Unifies.{unify-exact}
use Rattle.unification.specs.Laws.{after, Reached, empty, made, called, Determined}

pub unify-steps : (n : ℕ) (i : Pair) (β r : ℕ) (o : Answer) → unify n i β ≡ done o r → (c : ℕ) × (c + r ≡ β) × Costs (unify n i) o c
unify-steps n i β r o e = done_costs (unify_metered n i) β o r e

pub unify-refused : (n : ℕ) (i : Pair) (β : ℕ) (w : Why) (ws : Words) → unify n i β ≡ halt w ws → (c : ℕ) × (c ≤ β) × Halts (unify n i) w ws c
unify-refused n i β w ws q = halt_costs (unify_metered n i) w ws β q

-- a reference outside is refused, and the words stand
out-node : (ws : Words) (n t : ℕ) → n ≤ t → node_at ws n t ≡ bad
out-node ws n t l = node-out ws n t (inside_no ws n t l)

out-resolve : (ws : Words) (n t : ℕ) → n ≤ t → resolve ws n t ≡ fail broken tt
unfolding follow
out-resolve ws n t l = resolve_eq ws n t ∙ ap (follow (resolve ws n) t) (out-node ws n t l)

stands : (ws : Words) (k : ℕ → M Words Answer) → ((p r : ℕ) → after (k p r) ≡ ws) → (o : Out U ℕ) → after (on (at_e ws o) k) ≡ ws
unfolding after on at_e
stands ws k h (spent e) = refl
stands ws k h (halt c e) = refl
stands ws k h (done p r) = h p r

refused : (ws : Words) (n t : ℕ) → n ≤ t → (k : ℕ → M Words Answer) (b : ℕ) → after ((reading ws (resolve ws n t) >>= k) b) ≡ ws
unfolding after on at_e reading ◌>>=◌ fail
refused ws n t l k b = rw (out-resolve ws n t l) refl

out_step : (ws : Words) (n a b β : ℕ) (k : ℕ → ℕ → M Words Answer) → n ≤ a ⊎ n ≤ b → after (tick ws (reading ws (resolve ws n a) >>= λ p. reading ws (resolve ws n b) >>= k p) β) ≡ ws
unfolding after tick reading ◌>>=◌
out_step ws n a b zero k h = refl
out_step ws n a b (suc β) k (inl l) = refused ws n a l (λ p. reading ws (resolve ws n b) >>= k p) β
out_step ws n a b (suc β) k (inr l) = stands ws (λ p. reading ws (resolve ws n b) >>= k p) (λ p r. refused ws n b l (k p) r) (resolve ws n a β)

pub outside : (ws : Words) (n a b β : ℕ) → n ≤ a ⊎ n ≤ b → after (unify n (ws, a, b) β) ≡ ws
unfolding unify_f
outside ws n a b β h = ap (λ (m : M Words Answer). after (m β)) (unify_eq n (ws, a, b)) ∙ out_step ws n a b β _ h

abbrev Whole : ℕ → Words → Type 0
Whole n ws = (3 * n ≤ length ws) × Good n (node_at ws n)

ends-whole : (n : ℕ) (ws : Words) (E : Assignment → Type 0) (o : Out Words Answer) → 3 * n ≤ length ws → Ends (Kept n ws E) (Outcome n ws E) o → Whole n (after o)
unfolding after
ends-whole n ws E (spent e) s k = (rw k.sized s, k.good)
ends-whole n ws E (halt c e) s k = absurd k
ends-whole n ws E (done o r) s k = (rw k.kept.sized s, k.kept.good)

called-whole : (n : ℕ) (ws : Words) (a b β : ℕ) → Whole n ws → Dec (a < n) → Dec (b < n) → Whole n (after (unify n (ws, a, b) β))
called-whole n ws a b β w (yes al) (yes bl) = ends-whole n ws (λ σ. σ a ≡ σ b) (unify n (ws, a, b) β) w.0 (exact-ends (unify-exact n ws w.0 w.1 a b al bl) β)
called-whole n ws a b β w (yes al) (no bl) = rw (outside ws n a b β (inr (omega arith))) w
called-whole n ws a b β w (no al) (yes bl) = rw (outside ws n a b β (inl (omega arith))) w
called-whole n ws a b β w (no al) (no bl) = rw (outside ws n a b β (inl (omega arith))) w

made-whole : (n : ℕ) (ws : Words) (k a b : ℕ) → Inside n (decode k a b) → 3 * suc n ≤ length ws → Whole n ws → Whole (suc n) (push_at ws n k a b)
made-whole n ws k a b i s w = (
  rw (length_push ws n k a b) s,
  good_push n (node_at ws n) (node_at (push_at ws n k a b) (suc n)) (node_push_old ws n k a b s) w.1
      (subst (λ (d : Node). Inside n d) (sym (node_push_new ws n k a b s)) i),
)

-- every arena reached is whole
pub reached-whole : {n : ℕ} {ws : Words} → Reached n ws → (3 * n ≤ length ws) × Good n (node_at ws n)
reached-whole (empty ws) = (omega arith, record { tree = λ x. var x; rank = λ x. 0; fits = λ x l. absurd (omega arith) })
reached-whole (made {n = n} {ws = ws} k a b i s r) = made-whole n ws k a b i.0 s (reached-whole r)
reached-whole (called {n = n} {ws = ws} a b β r) = called-whole n ws a b β (reached-whole r) (dec_lt a n) (dec_lt b n)

-- a budget that suffices, and from it on the same answer
module _ {n : ℕ} {ws : Words} (R : Reached n ws) where
  G : Good n (node_at ws n)
  G = (reached-whole R).1

  pub resolve-ends : (t : ℕ) → t < n → (r : ℕ) × (c : ℕ) × Costs (resolve ws n t) r c
  resolve-ends t l = let x = resolve-exact ws n G t l in (x.answer, x.cost, record { enough = x.enough; short = λ b q. (let y = x.short b q in (y.0, y.1)) })

  pub occurs-ends : (v t : ℕ) → t < n → (r : Bool) × (c : ℕ) × Costs (occurs ws n v t) r c
  occurs-ends v t l = let x = occurs-exact ws n G v t l in (x.answer, x.cost, record { enough = x.enough; short = λ b q. (let y = x.short b q in (y.0, y.1)) })

  pub solved-ends : (t : ℕ) → t < n → (r : Bool) × (c : ℕ) × Costs (solved ws n t) r c
  solved-ends t l = let x = solved-exact ws n G t l in (x.answer, x.cost, record { enough = x.enough; short = λ b q. (let y = x.short b q in (y.0, y.1)) })

  pub unify-ends : (a b : ℕ) → a < n → b < n → (r : Answer) × (c : ℕ) × Costs (unify n (ws, a, b)) r c
  unify-ends a b al bl = let x = unify-exact n ws (reached-whole R).0 G a b al bl in (x.answer, x.cost, record { enough = x.enough; short = λ e q. (let y = x.short e q in (y.0, y.1)) })

  -- what a success admits
  pub unify_success : (a b : ℕ) → a < n → b < n → (β r : ℕ) (ws' : Words) → unify n (ws, a, b) β ≡ done (unified, ws') r
      → (σ : Assignment) → Admits n (node_at ws' n) σ ↔ (Admits n (node_at ws n) σ × (σ a ≡ σ b))
  unify_success a b al bl β r ws' e σ =
      let o : Outcome n ws (λ σ. σ a ≡ σ b) (unified, ws') = exact-done (unify-exact n ws (reached-whole R).0 G a b al bl) β (unified, ws') r e in
      (λ A. (o.kept.keeps σ A, o.judged σ A), λ A. o.kept.takes σ A.0 A.1)

  -- a mismatch or a circularity is given only where no assignment equates the two
  pub unify_failure : (a b : ℕ) → a < n → b < n → (β r : ℕ) (o : Verdict) (ws' : Words) → o ≢ unified → unify n (ws, a, b) β ≡ done (o, ws') r
      → (σ : Assignment) → Admits n (node_at ws n) σ → σ a ≢ σ b
  unify_failure a b al bl β r unified ws' d e = absurd (d refl)
  unify_failure a b al bl β r mismatch ws' d e = (exact-done (unify-exact n ws (reached-whole R).0 G a b al bl) β (mismatch, ws') r e).judged
  unify_failure a b al bl β r circular ws' d e = (exact-done (unify-exact n ws (reached-whole R).0 G a b al bl) β (circular, ws') r e).judged

  -- exactly: where the budget suffices, a failure is given just where no assignment equates the two
  pub unify_exactly : (a b : ℕ) → a < n → b < n → (β r : ℕ) (o : Verdict) (ws' : Words) → unify n (ws, a, b) β ≡ done (o, ws') r
      → (o ≢ unified) ↔ ((σ : Assignment) → Admits n (node_at ws n) σ → σ a ≢ σ b)
  unify_exactly a b al bl β r o ws' e = (
    λ d. unify_failure a b al bl β r o ws' d e,
    λ h q. (
        let u : Outcome n ws (λ σ. σ a ≡ σ b) (o, ws') = exact-done (unify-exact n ws (reached-whole R).0 G a b al bl) β (o, ws') r e in
        let f = (unify_success a b al bl β r ws' (e ∙ ap (λ (v : Verdict). done (v, ws') r) q) (extend n (node_at ws' n) u.kept.good (λ x. base bool))).0 (extend_admits n (node_at ws' n) u.kept.good (λ x. base bool)) in
        h (extend n (node_at ws' n) u.kept.good (λ x. base bool)) f.0 f.1),
  )

  -- every valuation of the unbound unknowns extends to an admitted assignment
  pub unknowns-free : (ν : Assignment) → (σ : Assignment) × Admits n (node_at ws n) σ × ((x : ℕ) → x < n → node_at ws n x ≡ free → σ x ≡ ν x)
  unknowns-free ν = (extend n (node_at ws n) G ν, extend_admits n (node_at ws n) G ν, extend-free n (node_at ws n) G ν)

  -- an assignment's tree at t, read at two assignments that agree on t's ground tree
  solved_yes : (t : ℕ) → t < n → ground (G.tree t) ≡ true → Determined R t
  solved_yes t l g σ σ' A A' = spelt n (node_at ws n) G σ A t l ∙ ground-same σ σ' (G.tree t) g ∙ sym (spelt n (node_at ws n) G σ' A' t l)

  solved_no : (t : ℕ) → t < n → ground (G.tree t) ≡ false → Determined R t → ⊥
  solved_no t l g d =
      let ν : Assignment = λ x. base bool in
      let μ : Assignment = λ x. base int in
      ground_differs ν μ (λ x e. (let z : ◌≡◌ {A = ℕ} 0 1 = cc in omega arith)) (G.tree t) g
      (d (extend n (node_at ws n) G ν) (extend n (node_at ws n) G μ) (extend_admits n (node_at ws n) G ν) (extend_admits n (node_at ws n) G μ))

  solved-cases : (t : ℕ) → t < n → (c : Bool) → c ≡ ground (G.tree t) → (c ≡ true) ↔ Determined R t
  solved-cases t l true h = (λ _. solved_yes t l (sym h), λ _. refl)
  solved-cases t l false h = (λ e. (let z : ◌≡◌ {A = ℕ} 0 1 = cc in absurd (omega arith)), λ d. absurd (solved_no t l (sym h) d))

  pub solved-law : (t : ℕ) → t < n → (β r : ℕ) (c : Bool) → solved ws n t β ≡ done c r → (c ≡ true) ↔ Determined R t
  solved-law t l β r c e = solved-cases t l c (exact-done (solved-exact ws n G t l) β c r e)

  -- the type of a solved reference
  pub read-law : (t : ℕ) → t < n → (β r : ℕ) → solved ws n t β ≡ done true r → (T : Ty) × (read ws n t β ≡ done T r) × ((σ : Assignment) → Admits n (node_at ws n) σ → σ t ≡ T)
  read-law t l β r e =
      let g : true ≡ ground (G.tree t) = exact-done (solved-exact ws n G t l) β true r e in
      let w = read_as_solved ws n t β r e in
      let d = exact-done (read-exact ws n G t l (sym g)) β w.0 r w.1 in
      (w.0, w.1, λ σ A. spelt n (node_at ws n) G σ A t l ∙ d σ)
