-- The theorems of specs/Whole.antt: `tame_formula`, `sound-formula`, `complete_formula`, `met_typing`, `typing_met`, `exactly` and others.
use Prim.Native.Nat.{ℕ, suc, ◌+◌}
use Rattle.std.specs.Prelude.{◌≡◌, refl, ◌↔◌}
use Rattle.std.proofs.Math.Path.{sym, ap, ap₂, subst}
use Rattle.std.proofs.Common.{◌∙◌}
use mathlib.Core.List.{List, [], ◌∷◌}
use native.Mathlib.Omega.{arith}
use Rattle.types.specs.Ty.{Ty, pow, prod}
use Rattle.formula.specs.Environment.{Entry, lacks, holds, Env}
use Rattle.formula.specs.Tree.{Decl, Expr, Target, Formula, expression, predicate, becomes, becomes_in, becomes_such, decls, targets, slots, slots_pairs, slots_of, place}
use Rattle.unification.specs.Good.{Assignment}
use Rattle.unification.specs.Ops.{Meets}
use Rattle.typing.specs.Equations.{a, c, d, C}
use Rattle.typing.specs.Rules.{DeclRules, under, Typed, TypedPred, TypedTargets, TypedPairs, product, Shared, TypedFormula, Agrees, Typing}
use Rattle.typing.specs.Typings.{from_list}
use Rattle.walk.specs.Writer.{Found, at, find, done, POWER, PRODUCT}
use Rattle.walk.specs.Walk.{over, target, pairs, products, targets_of, shares, forget, walk_formula, walked}
use Rattle.walk.specs.Triple.{slot_types, Lifted, Tame, tame_eq, tame_done, tame_enter, tame_bind, tame_node, tame_same, Sound, sound-map, sound-bind, sound-enter, sound-node, sound-same, sound-done, Complete, complete_bind, complete_enter, complete_done, complete_node, complete_same, complete_map}
use Rattle.walk.specs.Pieces.{tame_name, sound-name, complete_name, tame_expr, Declared, seen-under}
use Rattle.walk.proofs.Pieces.{tame_declare, sound-declare, complete_declare}
use Rattle.walk.specs.Theorem.{sound-expr, complete_expr}
use Rattle.walk.proofs.Theorem.{tame_walk, tame_pred, sound-walk, sound_pred, complete_walk, complete_pred}
use Rattle.walk.specs.Whole.{ReadsAs, none_found, carries_own, entry_type, found_type, names_read, slots_read}

module _ (Γ : Env) where
  tame_target : (t : Target) → Tame Γ 1 (target Γ t)
  unfolding target
  tame_target t = tame_expr Γ t.place (tame_name Γ t.name t.place)

  tame_pairs : (ts : List (Target × Expr)) → Tame Γ (slots_pairs ts) (pairs Γ ts)
  unfolding pairs slots_pairs
  tame_pairs [] = tame_done tt
  tame_pairs (t ∷ ts) = tame_eq (omega arith) (tame_bind (tame_target t.0) (λ x. tame_bind (tame_walk Γ t.1 []) (λ y. tame_bind (tame_same y x (place t.1)) (λ _. tame_pairs ts))))

  tame_products : (ts : List Target) (x : ℕ) → Tame Γ (targets ts) (products Γ ts x)
  unfolding products targets
  tame_products [] x = tame_done x
  tame_products (t ∷ ts) x = tame_eq (omega arith) (tame_bind (tame_target t) (λ y. tame_bind (tame_node PRODUCT x y) (λ z. tame_products ts z)))

  tame_targets : (ts : List Target) → Tame Γ (targets ts) (targets_of Γ ts)
  unfolding targets_of targets
  tame_targets [] = tame_done []
  tame_targets (t ∷ ts) = tame_eq (omega arith) (tame_bind (tame_target t) (λ x. tame_bind (tame_targets ts) (λ xs. tame_done (x ∷ xs))))

  tame_shares : (xs ys : List ℕ) (p : ℕ) → Tame Γ 0 (shares Γ xs ys p)
  unfolding shares
  tame_shares [] ys p = tame_done tt
  tame_shares (x ∷ xs) [] p = tame_done tt
  tame_shares (x ∷ xs) (y ∷ ys) p = tame_bind (tame_same y x p) (λ _. tame_shares xs ys p)

  pub tame_formula : (f : Formula) → Tame Γ (slots_of f) (walk_formula Γ f)
  unfolding walk_formula slots_of forget
  tame_formula (expression e) = tame_eq (omega arith) (tame_bind (tame_walk Γ e []) (λ _. tame_done tt))
  tame_formula (predicate q) = tame_pred Γ q []
  tame_formula (becomes p ts) = tame_enter (tame_pairs ts)
  tame_formula (becomes_in p t ts e) = tame_enter (tame_eq (omega arith) (tame_bind (tame_target t) (λ x. tame_bind (tame_products ts x) (λ y. tame_bind (tame_node POWER y 0) (λ s. tame_bind (tame_walk Γ e []) (λ z. tame_same z s (place e)))))))
  tame_formula (becomes_such p ts ds q) = tame_enter (tame_eq (omega arith) (tame_bind (tame_targets ts) (λ xs. tame_bind (tame_declare Γ ds) (λ ys. tame_bind (tame_shares xs ys p) (λ _. tame_pred Γ q (over ys []))))))

-- references xs have the types of the slots from k on, one for each target
abbrev Marked : (ℕ → Ty) → Assignment → List Target → ℕ → List ℕ → Type 0
Marked τ σ [] k [] = Unit {0}
Marked τ σ [] k (x ∷ xs) = ⊥
Marked τ σ (t ∷ ts) k [] = ⊥
Marked τ σ (t ∷ ts) k (x ∷ xs) = (σ x ≡ τ k) × Marked τ σ ts (suc k) xs

abbrev Paired : Assignment → List ℕ → List ℕ → Type 0
Paired σ [] ys = Unit {0}
Paired σ (x ∷ xs) [] = Unit {0}
Paired σ (x ∷ xs) (y ∷ ys) = (σ y ≡ σ x) × Paired σ xs ys

shared_of : (Γ : Env) (τ ρ : ℕ → Ty) (σ : Assignment) (ts : List Target) (ds : List Decl) (j k : ℕ) (xs ys : List ℕ) → Marked τ σ ts j xs → Declared τ σ ds k ys → Paired σ xs ys → Shared Γ τ ρ ts ds j k
shared_of Γ τ ρ σ [] ds j k xs ys m d p = tt
shared_of Γ τ ρ σ (t ∷ ts) [] j k xs ys m d p = tt
shared_of Γ τ ρ σ (t ∷ ts) (e ∷ ds) j k [] ys m d p = absurd m
shared_of Γ τ ρ σ (t ∷ ts) (e ∷ ds) j k (x ∷ xs) [] m d p = absurd d
shared_of Γ τ ρ σ (t ∷ ts) (e ∷ ds) j k (x ∷ xs) (y ∷ ys) m d p = (sym d.0 ∙ p.0 ∙ m.0, shared_of Γ τ ρ σ ts ds (suc j) (suc k) xs ys m.1 d.1 p.1)

paired_of : (Γ : Env) (τ ρ : ℕ → Ty) (σ : Assignment) (ts : List Target) (ds : List Decl) (j k : ℕ) (xs ys : List ℕ) → Marked τ σ ts j xs → Declared τ σ ds k ys → Shared Γ τ ρ ts ds j k → Paired σ xs ys
paired_of Γ τ ρ σ ts ds j k [] ys m d p = tt
paired_of Γ τ ρ σ ts ds j k (x ∷ xs) [] m d p = tt
paired_of Γ τ ρ σ [] ds j k (x ∷ xs) (y ∷ ys) m d p = absurd m
paired_of Γ τ ρ σ (t ∷ ts) [] j k (x ∷ xs) (y ∷ ys) m d p = absurd d
paired_of Γ τ ρ σ (t ∷ ts) (e ∷ ds) j k (x ∷ xs) (y ∷ ys) m d p = (d.0 ∙ p.0 ∙ sym m.0, paired_of Γ τ ρ σ ts ds (suc j) (suc k) xs ys m.1 d.1 p.1)

module _ (Γ : Env) (σ : Assignment) (τ ρ : ℕ → Ty) where
  sound-target : (t : Target) → Sound σ τ ρ (target Γ t) (λ k x. (τ k ≡ ρ t.name) × (σ x ≡ τ k))
  unfolding target
  sound-target t = sound-map σ τ ρ (sound-expr Γ σ τ ρ t.place (sound-name Γ σ τ ρ t.name t.place)) (λ k x q. (sym q.1 ∙ q.0, q.1))

  sound-pairs : (ts : List (Target × Expr)) → Sound σ τ ρ (pairs Γ ts) (λ k u. TypedPairs Γ τ ρ ts k)
  unfolding pairs
  sound-pairs [] = record { gives = λ n k row s. tt }
  sound-pairs (t ∷ ts) = sound-map σ τ ρ
      (sound-bind σ τ ρ (tame_target Γ t.0) (λ x. tame_bind (tame_walk Γ t.1 []) (λ y. tame_bind (tame_same y x (place t.1)) (λ _. tame_pairs Γ ts))) (sound-target t.0)
      (λ x. sound-bind σ τ ρ (tame_walk Γ t.1 []) (λ y. tame_bind (tame_same y x (place t.1)) (λ _. tame_pairs Γ ts)) (sound-walk Γ σ τ ρ t.1 [])
      (λ y. sound-bind σ τ ρ {Γ = Γ} (tame_same y x (place t.1)) (λ _. tame_pairs Γ ts) (sound-same σ τ ρ y x (place t.1)) (λ _. sound-pairs ts))))
      (λ k u q. (let z : k + 1 ≡ suc k = omega arith in let z2 : k + 1 + slots t.1 + 0 ≡ suc k + slots t.1 = omega arith in
      (q.1.0, subst (λ (i : ℕ). Typed Γ τ ρ t.1 [] i) z (q.2.1.0 [] tt), ap τ (sym z) ∙ sym q.2.1.1 ∙ q.2.2.1 ∙ q.1.1, subst (λ (i : ℕ). TypedPairs Γ τ ρ ts i) z2 q.2.2.2)))

  sound-products : (ts : List Target) (x : ℕ) → Sound σ τ ρ (products Γ ts x) (λ k y. TypedTargets Γ τ ρ ts k × ((u : Ty) → σ x ≡ u → σ y ≡ product Γ τ ρ u ts k))
  unfolding products product
  sound-products [] x = sound-map σ τ ρ (sound-done σ τ ρ x) (λ k y q. (tt, λ u e. ap σ q ∙ e))
  sound-products (t ∷ ts) x = sound-map σ τ ρ
      (sound-bind σ τ ρ (tame_target Γ t) (λ y. tame_bind (tame_node PRODUCT x y) (λ z. tame_products Γ ts z)) (sound-target t)
      (λ y. sound-bind σ τ ρ {Γ = Γ} (tame_node PRODUCT x y) (λ z. tame_products Γ ts z) (sound-node σ τ ρ PRODUCT x y) (λ z. sound-products ts z)))
      (λ k w q. (let z : k + 1 + 0 ≡ suc k = omega arith in (
        (q.1.0, subst (λ (i : ℕ). TypedTargets Γ τ ρ ts i) z q.2.2.0),
        λ u e. subst (λ (i : ℕ). σ w ≡ product Γ τ ρ (prod u (τ k)) ts i) z (q.2.2.1 (prod u (τ k)) (q.2.1 ∙ ap₂ prod e q.1.1)),
      )))

  sound-targets : (ts : List Target) → Sound σ τ ρ (targets_of Γ ts) (λ k xs. TypedTargets Γ τ ρ ts k × Marked τ σ ts k xs)
  unfolding targets_of
  sound-targets [] = sound-map σ τ ρ (sound-done σ τ ρ []) (λ k xs q. (tt, subst (λ (ys : List ℕ). Marked τ σ [] k ys) (sym q) tt))
  sound-targets (t ∷ ts) = sound-map σ τ ρ
      (sound-bind σ τ ρ (tame_target Γ t) (λ x. tame_bind (tame_targets Γ ts) (λ xs. tame_done (x ∷ xs))) (sound-target t)
      (λ x. sound-bind σ τ ρ (tame_targets Γ ts) (λ xs. tame_done (x ∷ xs)) (sound-targets ts) (λ xs. sound-done σ τ ρ (x ∷ xs))))
      (λ k ys q. (let z : k + 1 ≡ suc k = omega arith in (
        (q.1.0, subst (λ (i : ℕ). TypedTargets Γ τ ρ ts i) z q.2.1.0),
        subst (λ (zs : List ℕ). Marked τ σ (t ∷ ts) k zs) (sym q.2.2) (q.1.1, subst (λ (i : ℕ). Marked τ σ ts i q.2.0) z q.2.1.1),
      )))

  sound-shares : (xs ys : List ℕ) (p : ℕ) → Sound σ τ ρ (shares Γ xs ys p) (λ k u. Paired σ xs ys)
  unfolding shares
  sound-shares [] ys p = record { gives = λ n k row s. tt }
  sound-shares (x ∷ xs) [] p = record { gives = λ n k row s. tt }
  sound-shares (x ∷ xs) (y ∷ ys) p = sound-map σ τ ρ (sound-bind σ τ ρ {Γ = Γ} (tame_same y x p) (λ _. tame_shares Γ xs ys p) (sound-same σ τ ρ y x p) (λ _. sound-shares xs ys p)) (λ k u q. (q.1, q.2))

  any-end : Sound σ τ ρ (done {A = Unit {0}} tt) (λ k u. Unit {0})
  any-end = record { gives = λ n k row s. tt }

  -- the slots start at 0
  pub sound-formula : (f : Formula) → Sound σ τ ρ (walk_formula Γ f) (λ k u. k ≡ 0 → TypedFormula Γ τ ρ f)
  unfolding walk_formula forget
  sound-formula (expression e) = sound-map σ τ ρ (sound-bind σ τ ρ (tame_walk Γ e []) (λ _. tame_done tt) (sound-walk Γ σ τ ρ e []) (λ _. any-end))
      (λ k u q z. subst (λ (i : ℕ). Typed Γ τ ρ e [] i) z (q.1.0 [] tt))
  sound-formula (predicate c) = sound-map σ τ ρ (sound_pred Γ σ τ ρ c []) (λ k u q z. subst (λ (i : ℕ). TypedPred Γ τ ρ c [] i) z (q [] tt))
  sound-formula (becomes p ts) = sound-map σ τ ρ (sound-enter σ τ ρ (sound-pairs ts)) (λ k u q z. subst (λ (i : ℕ). TypedPairs Γ τ ρ ts i) z q)
  sound-formula (becomes_in p t ts e) = sound-map σ τ ρ (sound-enter σ τ ρ
      (sound-bind σ τ ρ (tame_target Γ t) (λ x. tame_bind (tame_products Γ ts x) (λ y. tame_bind (tame_node POWER y 0) (λ s. tame_bind (tame_walk Γ e []) (λ z. tame_same z s (place e))))) (sound-target t)
      (λ x. sound-bind σ τ ρ (tame_products Γ ts x) (λ y. tame_bind (tame_node POWER y 0) (λ s. tame_bind (tame_walk Γ e []) (λ z. tame_same z s (place e)))) (sound-products ts x)
      (λ y. sound-bind σ τ ρ {Γ = Γ} (tame_node POWER y 0) (λ s. tame_bind (tame_walk Γ e []) (λ z. tame_same z s (place e))) (sound-node σ τ ρ POWER y 0)
      (λ s. sound-bind σ τ ρ (tame_walk Γ e []) (λ z. tame_same z s (place e)) (sound-walk Γ σ τ ρ e []) (λ z. sound-same σ τ ρ z s (place e)))))))
      (λ k u q z. (let i1 : k + 1 ≡ 1 = omega arith in let i2 : k + 1 + targets ts + 0 ≡ 1 + targets ts = omega arith in
      let w = q.2.2.2 in (
        subst (λ (i : ℕ). τ i ≡ ρ t.name) z q.1.0,
        subst (λ (i : ℕ). TypedTargets Γ τ ρ ts i) i1 q.2.1.0,
        subst (λ (i : ℕ). Typed Γ τ ρ e [] i) i2 (w.1.0 [] tt),
        ap τ (sym i2) ∙ sym w.1.1 ∙ w.2 ∙ q.2.2.1 ∙ ap pow (q.2.1.1 (τ 0) (q.1.1 ∙ ap τ z) ∙ ap (λ (i : ℕ). product Γ τ ρ (τ 0) ts i) i1),
      )))
  sound-formula (becomes_such p ts ds c) = sound-map σ τ ρ (sound-enter σ τ ρ
      (sound-bind σ τ ρ (tame_targets Γ ts) (λ xs. tame_bind (tame_declare Γ ds) (λ ys. tame_bind (tame_shares Γ xs ys p) (λ _. tame_pred Γ c (over ys [])))) (sound-targets ts)
      (λ xs. sound-bind σ τ ρ (tame_declare Γ ds) (λ ys. tame_bind (tame_shares Γ xs ys p) (λ _. tame_pred Γ c (over ys []))) (sound-declare Γ σ τ ρ ds)
      (λ ys. sound-bind σ τ ρ (tame_shares Γ xs ys p) (λ _. tame_pred Γ c (over ys [])) (sound-shares xs ys p) (λ _. sound_pred Γ σ τ ρ c (over ys []))))))
      (λ k u q z. (let i1 : k + targets ts ≡ targets ts = omega arith in let i2 : k + targets ts + decls ds + 0 ≡ targets ts + decls ds = omega arith in
      let m = subst (λ (i : ℕ). Marked τ σ ts i q.0) z q.1.1 in let d = subst (λ (i : ℕ). Declared τ σ ds i q.2.0) i1 q.2.1.1 in (
        subst (λ (i : ℕ). TypedTargets Γ τ ρ ts i) z q.1.0,
        subst (λ (i : ℕ). DeclRules Γ τ ρ ds i) i1 q.2.1.0,
        shared_of Γ τ ρ σ ts ds 0 (targets ts) q.0 q.2.0 m d q.2.2.1,
        subst (λ (i : ℕ). TypedPred Γ τ ρ c (under Γ τ ρ ds (targets ts) []) i) i2 (q.2.2.2 (under Γ τ ρ ds (targets ts) []) (seen-under Γ τ ρ σ ds (targets ts) q.2.0 [] [] d tt)),
      )))

module _ (Γ : Env) (τ ρ : ℕ → Ty) (agrees : Agrees Γ ρ) where
  complete_target : {k : ℕ} {C : Assignment → Type 0} (t : Target) → τ k ≡ ρ t.name → Complete τ ρ k (target Γ t) C (λ σ x. σ x ≡ τ k)
  unfolding target
  complete_target {C = C} t w = complete_expr Γ τ ρ agrees t.place (complete_map τ ρ (λ σ c. c) (λ σ y c e. e ∙ sym w) (complete_name Γ τ ρ agrees {C = C} t.name t.place))

  complete_pairs : (ts : List (Target × Expr)) (C : Assignment → Type 0) (k : ℕ) → TypedPairs Γ τ ρ ts k → Complete τ ρ k (pairs Γ ts) C (λ σ u. Unit {0})
  unfolding pairs
  complete_pairs [] C k w = complete_done τ ρ tt (λ σ c. tt)
  complete_pairs (t ∷ ts) C k w = let z : suc k ≡ k + 1 = omega arith in let z2 : suc k + slots t.1 ≡ k + 1 + slots t.1 + 0 = omega arith in
      complete_bind τ ρ (tame_target Γ t.0) (complete_target t.0 w.0)
      (λ x. complete_bind τ ρ (tame_walk Γ t.1 []) (complete_walk Γ τ ρ agrees t.1 _ [] [] (k + 1) (subst (λ (i : ℕ). Typed Γ τ ρ t.1 [] i) z w.1) (λ σ c. tt))
      (λ y. complete_bind τ ρ {Γ = Γ} (tame_same y x (place t.1)) (complete_same τ ρ y x (place t.1) (λ σ c. c.1 ∙ ap τ (sym z) ∙ w.2 ∙ sym c.0.1))
      (λ _. complete_pairs ts _ (k + 1 + slots t.1 + 0) (subst (λ (i : ℕ). TypedPairs Γ τ ρ ts i) z2 w.3))))

  complete_products : (ts : List Target) (x : ℕ) (u : Ty) (C : Assignment → Type 0) (k : ℕ) → TypedTargets Γ τ ρ ts k → ((σ : Assignment) → C σ → σ x ≡ u) → Complete τ ρ k (products Γ ts x) C (λ σ y. σ y ≡ product Γ τ ρ u ts k)
  unfolding products product
  complete_products [] x u C k w h = complete_done τ ρ x h
  complete_products (t ∷ ts) x u C k w h = let z : suc k ≡ k + 1 + 0 = omega arith in
      complete_bind τ ρ (tame_target Γ t) (complete_target t w.0)
      (λ y. complete_bind τ ρ {Γ = Γ} (tame_node PRODUCT x y) (complete_node τ ρ PRODUCT x y (prod u (τ k)) (λ σ n c e. e ∙ ap₂ prod (sym (h σ c.0)) (sym c.1)))
      (λ v. complete_map τ ρ (λ σ c. c) (λ σ y c e. e ∙ ap (λ (i : ℕ). product Γ τ ρ (prod u (τ k)) ts i) (sym z)) (complete_products ts v (prod u (τ k)) _ (k + 1 + 0) (subst (λ (i : ℕ). TypedTargets Γ τ ρ ts i) z w.1) (λ σ c. c.1))))

  complete_targets : (ts : List Target) (C : Assignment → Type 0) (k : ℕ) → TypedTargets Γ τ ρ ts k → Complete τ ρ k (targets_of Γ ts) C (λ σ xs. Marked τ σ ts k xs)
  unfolding targets_of
  complete_targets [] C k w = complete_done τ ρ [] (λ σ c. tt)
  complete_targets (t ∷ ts) C k w = let z : suc k ≡ k + 1 = omega arith in
      complete_bind τ ρ (tame_target Γ t) (complete_target t w.0)
      (λ x. complete_bind τ ρ (tame_targets Γ ts) (complete_targets ts _ (k + 1) (subst (λ (i : ℕ). TypedTargets Γ τ ρ ts i) z w.1))
      (λ xs. complete_done τ ρ (x ∷ xs) (λ σ c. (c.0.1, subst (λ (i : ℕ). Marked τ σ ts i xs) (sym z) c.1))))

  complete_shares : {k : ℕ} (xs ys : List ℕ) (p : ℕ) (C : Assignment → Type 0) → ((σ : Assignment) → C σ → Paired σ xs ys) → Complete τ ρ k (shares Γ xs ys p) C (λ σ u. Unit {0})
  unfolding shares
  complete_shares [] ys p C h = complete_done τ ρ tt (λ σ c. tt)
  complete_shares (x ∷ xs) [] p C h = complete_done τ ρ tt (λ σ c. tt)
  complete_shares {k = k} (x ∷ xs) (y ∷ ys) p C h = complete_bind τ ρ {Γ = Γ} (tame_same y x p) (complete_same τ ρ y x p (λ σ c. (h σ c).0)) (λ _. complete_shares {k = k + 0} xs ys p _ (λ σ c. (h σ c.0).1))

  abbrev Any : Assignment → Type 0
  Any σ = Unit {0}

  pub complete_formula : (f : Formula) → TypedFormula Γ τ ρ f → Complete τ ρ 0 (walk_formula Γ f) Any (λ σ u. Unit {0})
  unfolding walk_formula forget
  complete_formula (expression e) w = complete_bind τ ρ (tame_walk Γ e []) (complete_walk Γ τ ρ agrees e Any [] [] 0 w (λ σ c. tt)) (λ _. complete_done τ ρ tt (λ σ c. tt))
  complete_formula (predicate q) w = complete_pred Γ τ ρ agrees q Any [] [] 0 w (λ σ c. tt)
  complete_formula (becomes p ts) w = complete_enter τ ρ (complete_pairs ts Any 0 w)
  complete_formula (becomes_in p t ts e) w = complete_enter τ ρ (let i2 : 1 + targets ts ≡ 1 + targets ts + 0 = omega arith in
      complete_bind τ ρ (tame_target Γ t) (complete_target t w.0)
      (λ x. complete_bind τ ρ (tame_products Γ ts x) (complete_products ts x (τ 0) _ 1 w.1 (λ σ c. c.1))
      (λ y. complete_bind τ ρ {Γ = Γ} (tame_node POWER y 0) (complete_node τ ρ POWER y 0 (pow (product Γ τ ρ (τ 0) ts 1)) (λ σ n c e. e ∙ ap pow (sym c.1)))
      (λ s. complete_bind τ ρ (tame_walk Γ e []) (complete_walk Γ τ ρ agrees e _ [] [] (1 + targets ts + 0) (subst (λ (i : ℕ). Typed Γ τ ρ e [] i) i2 w.2) (λ σ c. tt))
      (λ z. complete_same τ ρ z s (place e) (λ σ c. c.1 ∙ ap τ (sym i2) ∙ w.3 ∙ sym c.0.1))))))
  complete_formula (becomes_such p ts ds q) w = complete_enter τ ρ
      (let i1 : targets ts ≡ 0 + targets ts = omega arith in let i2 : targets ts + decls ds ≡ 0 + targets ts + decls ds + 0 = omega arith in
      complete_bind τ ρ (tame_targets Γ ts) (complete_targets ts Any 0 w.0)
      (λ xs. complete_bind τ ρ (tame_declare Γ ds) (complete_declare Γ τ ρ agrees ds (subst (λ (i : ℕ). DeclRules Γ τ ρ ds i) i1 w.1))
      (λ ys. complete_bind τ ρ (tame_shares Γ xs ys p)
      (complete_shares xs ys p _ (λ σ c. paired_of Γ τ ρ σ ts ds 0 (targets ts) xs ys c.0.1 (subst (λ (i : ℕ). Declared τ σ ds i ys) (sym i1) c.1) w.2))
      (λ _. complete_pred Γ τ ρ agrees q _ (over ys []) (under Γ τ ρ ds (targets ts) []) (0 + targets ts + decls ds + 0) (subst (λ (i : ℕ). TypedPred Γ τ ρ q (under Γ τ ρ ds (targets ts) []) i) i2 w.3)
      (λ σ c. seen-under Γ τ ρ σ ds (targets ts) ys [] [] (subst (λ (i : ℕ). Declared τ σ ds i ys) (sym i1) c.0.1) tt)))))

-- an assignment that meets the operations reads as a typing
pub met_typing : (Γ : Env) (f : Formula) (σ : Assignment) (τ ρ : ℕ → Ty) → Meets σ 0 (walked Γ f).ops → ReadsAs Γ f σ τ ρ → Agrees Γ ρ → Typing Γ f τ ρ
unfolding walked
met_typing Γ f σ τ ρ m r a = record { agrees = a; rules = (sound-formula Γ σ τ ρ f).gives 0 0 [] (record { met = m; filled = r.slots; named = r.names }) refl }

-- every typing is read off some assignment that meets the operations
pub typing_met : (Γ : Env) (f : Formula) (τ ρ : ℕ → Ty) → Typing Γ f τ ρ → (σ : Assignment) × Meets σ 0 (walked Γ f).ops × ReadsAs Γ f σ τ ρ
unfolding walked
typing_met Γ f τ ρ t =
    let p = (complete_formula Γ τ ρ t.agrees f t.rules).takes 0 [] in
    let q = p.2 (from_list p.0) (carries_own p.0) (λ x r e. absurd (none_found x r e)) tt in
    (from_list p.0, q.0.met, record { slots = q.0.filled; names = q.0.named })

-- E2: the operations are met, reading as τ and ρ, exactly if τ and ρ are a typing
pub exactly : (Γ : Env) (f : Formula) (τ ρ : ℕ → Ty) → Agrees Γ ρ → Typing Γ f τ ρ ↔ ((σ : Assignment) × Meets σ 0 (walked Γ f).ops × ReadsAs Γ f σ τ ρ)
exactly Γ f τ ρ a = (λ t. typing_met Γ f τ ρ t, λ s. met_typing Γ f s.0 τ ρ s.1 s.2 a)

holds_same : (e : Entry) (t u : Ty) → e ≡ holds t → entry_type e u ≡ t
unfolding entry_type
holds_same lacks t u h = let z : ◌≡◌ {A = ℕ} 0 1 = cc in absurd (omega arith)
holds_same (holds v) t u h = let z : v ≡ t = cc in z

pub read-agrees : (Γ : Env) (f : Formula) (σ : Assignment) → Agrees Γ (names_read Γ f σ)
unfolding names_read
read-agrees Γ f σ x t h = holds_same (Γ x) t (found_type σ (find x (walked Γ f).row)) h

pub read_as : (Γ : Env) (f : Formula) (σ : Assignment) → Meets σ 0 (walked Γ f).ops → ReadsAs Γ f σ (slots_read Γ f σ) (names_read Γ f σ)
unfolding slots_read names_read walked found_type entry_type
read_as Γ f σ m = record { slots = carries_own (slot_types σ (walked Γ f).slots); names = λ x r e. go x r e (Γ x) refl }
  where
    lifted : Lifted Γ σ (walked Γ f).row
    lifted = (tame_formula Γ f).lifts 0 [] σ (λ x r t e h. absurd (none_found x r e)) m

    at-type : (r : ℕ) (g : Found) → g ≡ at r → found_type σ g ≡ σ r
    at-type r g e = ap (found_type σ) e

    go : (x r : ℕ) → find x (walked Γ f).row ≡ at r → (e : Entry) → Γ x ≡ e → σ r ≡ entry_type e (found_type σ (find x (walked Γ f).row))
    go x r h lacks q = sym (at-type r (find x (walked Γ f).row) h)
    go x r h (holds t) q = lifted x r t h q

pub met_some : (Γ : Env) (f : Formula) (σ : Assignment) → Meets σ 0 (walked Γ f).ops → Typing Γ f (slots_read Γ f σ) (names_read Γ f σ)
met_some Γ f σ m = met_typing Γ f σ (slots_read Γ f σ) (names_read Γ f σ) m (read_as Γ f σ m) (read-agrees Γ f σ)
