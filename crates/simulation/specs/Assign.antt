-- Assignments: targets each with a value, and the product of targets against a set.
-- After this file the rules of 30 and 31 run the walk's pieces; that of 32 stands in `Shares`.
use Prim.Native.Nat.{ℕ, suc, ◌+◌, ◌-◌, ◌≤◌, ◌<◌}
use Rattle.std.specs.Prelude.{◌≡◌, length}
use Rattle.std.proofs.Math.Path.{refl, ap, ap₂}
use Rattle.std.proofs.Common.{sym, ◌∙◌, subst}
use mathlib.Core.List.{List, [], ◌∷◌, ◌++◌}
use native.Mathlib.Omega.{arith}
use Rattle.std.proofs.Math.ListN.{drop}
use Rattle.formula.specs.Environment.{Env}
use Rattle.formula.specs.Tree.{Expr, free, Target, place, targets, pairs}
use Rattle.formula.specs.Spell.{spell, spell_target, spell_targets, spell_pairs, size, size_targets, size_pairs, Placed, PlacedTargets, PlacedPairs}
use Rattle.formula_laws.specs.Fits.{Fits, FitsTargets, FitsPairs}
use Rattle.formula_laws.specs.Sizes.{length-expr, length-targets}
use Rattle.unification.specs.Arena.{U}
use Rattle.unification.specs.Make.{builds_power, builds_pair}
use Rattle.walk.specs.Writer.{◌>>=◌, same, power, pair}
use Rattle.walk.specs.Walk.{name, walk, target, products}
use Rattle.walk.specs.Walk as K
use Rattle.forms.specs.Forms.{then}
use Rattle.machine.specs.Machine.{Mach, make_of, expect_of}
use Rattle.machine.specs.Types.{times_of}
use Rattle.walker.specs.Walk.{expr_of}
use Rattle.walker.specs.Root.{pair_by, product_by, belongs_of, becomes_in_of}
use Rattle.simulation.specs.Relation.{Runs}
use Rattle.simulation.specs.Bind.{runs_bind}
use Rattle.simulation.specs.Stand.{runs_if, runs_map, runs_stand}
use Rattle.machine.specs.Still.{still_make, still_expect, still_times}
use Rattle.walker.specs.StillWalk.{Still, still_expr}
use Rattle.simulation.specs.Output.{assoc}
use Rattle.simulation.specs.Nodes.{Came, Gave, runs_make, runs_expect}
use Rattle.simulation.specs.Bytes.{drop_past}
use Rattle.simulation.specs.Cycle.{tie}

pub expect_as : (a a' b b' p p' : ℕ) (m : Mach) → a ≡ a' → b ≡ b' → p ≡ p' → expect_of a b p m ≡ expect_of a' b' p' m
expect_as a a' b b' p p' m e f g = ap (λ (i : ℕ). expect_of i b p m) e ∙ ap (λ (i : ℕ). expect_of a' i p m) f ∙ ap (λ (i : ℕ). expect_of a' b' i m) g

module _ (Γ : Env) (env : List ℕ) (cap room : ℕ) (wide : cap ≤ 32768) (brief : length env ≤ 65536) (s : List ℕ) (short : length s ≤ 65536) (most : ℕ) (few : most ≤ 256) where
  abbrev X : Mach → Mach
  X x = expr_of 64 s env x

  abbrev stays : Still X
  stays m h = still_expr 64 s env m h

  pub past : (x y : List ℕ) (n p : ℕ) → length x ≡ n → drop p s ≡ x ++ y → drop (p + n) s ≡ y
  past x y n p l e = subst (λ (k : ℕ). drop (p + k) s ≡ y) l (drop_past s x y p e)

  -- a target is a record 01
  pub goes-target : (t : Target) (p : ℕ) (B rest : List ℕ) → t.name < most → t.place ≡ p → drop p s ≡ spell_target t ++ rest → (m : Mach) → m.st.at.0 ≡ p → Runs Γ env cap room m (X m) (target Γ t) B (λ _. B) (λ r v. Came (p + 3) t.place r v)
  unfolding target walk size place spell_target spell Fits Placed
  goes-target t p B rest l w b m at0 = tie Γ env cap room wide brief s short most few (free t.place t.name) 64 1 p B rest refl (omega arith, l) w b m at0

  goes_value : (e : Expr) (p : ℕ) (B rest : List ℕ) → Fits most 1 (length B) e → Placed p e → drop p s ≡ spell e ++ rest → (m : Mach) → m.st.at.0 ≡ p → Runs Γ env cap room m (X m) (walk Γ e B) B (λ _. B) (λ r v. Came (p + size e) (place e) r v)
  goes_value e p B rest f w b m at0 = tie Γ env cap room wide brief s short most few e 64 1 p B rest refl f w b m at0

  pub target-long : (t : Target) → length (spell_target t) ≡ 3
  unfolding spell_target
  target-long t = refl

  pub still_pair : (y : Mach) → (y.st.stop ≡ 0 → ⊥) → pair_by (expr_of 64 s env) y ≡ y
  unfolding pair_by then
  still_pair y h =
      ap (λ (a : Mach). (let b = X a in expect_of b.st.last.0 a.st.last.0 b.st.from.0 b)) (stays y h)
      ∙ ap (λ (b : Mach). expect_of b.st.last.0 y.st.last.0 b.st.from.0 b) (stays y h)
      ∙ still_expect y.st.last.0 y.st.last.0 y.st.from.0 y h

  abbrev Q : ℕ → U → Mach → Type 0
  Q p _ v = v.st.at.0 ≡ p

  -- ---- 30
  pub runs_pairs : (xs : List (Target × Expr)) (p : ℕ) (rest : List ℕ) → FitsPairs most xs → PlacedPairs p xs → drop p s ≡ spell_pairs xs ++ rest → (m : Mach) → m.st.at.0 ≡ p
      → Runs Γ env cap room m (times_of (pair_by (expr_of 64 s env)) (pairs xs) m) (K.pairs Γ xs) [] (λ _. []) (Q (p + size_pairs xs))
  unfolding pairs K.pairs times_of pair_by then spell_pairs size_pairs FitsPairs PlacedPairs
  runs_pairs [] p rest f w b m at0 = let z : m.st.at.0 ≡ p + 0 = omega arith in runs_stand Γ env cap room m m.st.at.0 m.st.from.0 m.st.last.0 tt [] (Q (p + 0)) z
  runs_pairs (x ∷ xs) p rest f w b m at0 =
      let t : Target = x.0 in
      let e : Expr = x.1 in
      let rest1 : List ℕ = (spell e ++ spell_pairs xs) ++ rest in
      let b0 : drop p s ≡ spell_target t ++ rest1 = b ∙ assoc (spell_target t) (spell e ++ spell_pairs xs) rest in
      let b1 : drop (p + 3) s ≡ spell e ++ (spell_pairs xs ++ rest) = past (spell_target t) rest1 3 p (target-long t) b0 ∙ assoc (spell e) (spell_pairs xs) rest in
      let b2 : drop (p + 3 + size e) s ≡ spell_pairs xs ++ rest = past (spell e) (spell_pairs xs ++ rest) (size e) (p + 3) (length-expr e) b1 in
      let M1 : Mach = X m in
      let M2 : Mach = X M1 in
      let M3 : Mach = expect_of M2.st.last.0 M1.st.last.0 M2.st.from.0 M2 in
      let F : Mach = times_of (pair_by (expr_of 64 s env)) (pairs xs) M3 in
      let N : ℕ = p + (3 + (size e + size_pairs xs)) in
      let stillF : (y : Mach) → (y.st.stop ≡ 0 → ⊥) → times_of (pair_by (expr_of 64 s env)) (pairs xs) y ≡ y = (λ y h. still_times (pair_by (expr_of 64 s env)) y (still_pair y h) (pairs xs)) in
      runs_bind Γ env cap room m M1 F (target Γ t) (λ r. walk Γ e [] >>= λ y. same y r (place e) >>= λ _. K.pairs Γ xs) [] (λ _. []) (λ _. []) (λ r v. Came (p + 3) t.place r v) (Q N)
      (λ h. ap (λ (y : Mach). y.st.stop) (
      let e2 : M2 ≡ M1 = stays M1 h in
      ap (λ (y : Mach). times_of (pair_by (expr_of 64 s env)) (pairs xs) (expect_of y.st.last.0 M1.st.last.0 y.st.from.0 y)) e2
      ∙ ap (times_of (pair_by (expr_of 64 s env)) (pairs xs)) (still_expect M1.st.last.0 M1.st.last.0 M1.st.from.0 M1 h) ∙ stillF M1 h))
      (λ r c. runs_bind Γ env cap room M1 M2 F (walk Γ e []) (λ y. same y r (place e) >>= λ _. K.pairs Γ xs) [] (λ _. []) (λ _. []) (λ y v. Came (p + 3 + size e) (place e) y v) (Q N)
      (λ h. ap (λ (y : Mach). y.st.stop) (ap (times_of (pair_by (expr_of 64 s env)) (pairs xs)) (still_expect M2.st.last.0 M1.st.last.0 M2.st.from.0 M2 h) ∙ stillF M2 h))
      (λ y k. runs_bind Γ env cap room M2 M3 F (same y r (place e)) (λ _. K.pairs Γ xs) [] (λ _. []) (λ _. []) (Q (p + 3 + size e)) (Q N)
      (λ h. ap (λ (z : Mach). z.st.stop) (stillF M3 h))
      (λ _ a3. runs_map Γ env cap room M3 F (K.pairs Γ xs) [] (λ _. []) _ _ (λ _ z. z ∙ omega arith) (runs_pairs xs (p + 3 + size e) rest f.2 w.2 b2 M3 a3))
      (runs_if Γ env cap room M2 M3 (expect_of y r (place e) M2) (same y r (place e)) [] (λ _. []) _ (λ g. expect_as M2.st.last.0 y M1.st.last.0 r M2.st.from.0 (place e) M2 k.2 c.2 k.1)
      (runs_map Γ env cap room M2 (expect_of y r (place e) M2) (same y r (place e)) [] (λ _. []) _ _ (λ _ z. z.0 ∙ k.0) (runs_expect Γ env cap room wide y r (place e) M2 []))))
      (goes_value e (p + 3) [] (spell_pairs xs ++ rest) f.1 w.1 b1 M1 c.0))
      (goes-target t p [] rest1 f.0 w.0 b0 m at0)

  -- ---- 31
  still_product : (y : Mach) → (y.st.stop ≡ 0 → ⊥) → product_by (expr_of 64 s env) y ≡ y
  unfolding product_by then
  still_product y h = ap (λ (a : Mach). make_of 0x44 y.st.last.0 a.st.last.0 a) (stays y h) ∙ still_make 0x44 y.st.last.0 y.st.last.0 y h

  runs_products : (ts : List Target) (p x : ℕ) (rest : List ℕ) → FitsTargets most ts → PlacedTargets p ts → drop p s ≡ spell_targets ts ++ rest → (m : Mach) → m.st.at.0 ≡ p → m.st.last.0 ≡ x
      → Runs Γ env cap room m (times_of (product_by (expr_of 64 s env)) (targets ts) m) (products Γ ts x) [] (λ _. []) (λ r v. Gave (p + size_targets ts) r v)
  unfolding targets products times_of product_by then spell_targets size_targets FitsTargets PlacedTargets
  runs_products [] p x rest f w b m at0 lx = let z : m.st.at.0 ≡ p + 0 = omega arith in runs_stand Γ env cap room m m.st.at.0 m.st.from.0 m.st.last.0 x [] (λ r v. Gave (p + 0) r v) (z, lx)
  runs_products (t ∷ ts) p x rest f w b m at0 lx =
      let b0 : drop p s ≡ spell_target t ++ (spell_targets ts ++ rest) = b ∙ assoc (spell_target t) (spell_targets ts) rest in
      let b1 : drop (p + 3) s ≡ spell_targets ts ++ rest = past (spell_target t) (spell_targets ts ++ rest) 3 p (target-long t) b0 in
      let M1 : Mach = X m in
      let M2 : Mach = make_of 0x44 m.st.last.0 M1.st.last.0 M1 in
      let G : Mach → Mach = (λ (y : Mach). times_of (product_by (expr_of 64 s env)) (targets ts) y) in
      let F : Mach = G M2 in
      let N : ℕ = p + (3 + size_targets ts) in
      let stillF : (y : Mach) → (y.st.stop ≡ 0 → ⊥) → times_of (product_by (expr_of 64 s env)) (targets ts) y ≡ y = (λ y h. still_times (product_by (expr_of 64 s env)) y (still_product y h) (targets ts)) in
      runs_bind Γ env cap room m M1 F (target Γ t) (λ y. pair x y >>= λ z. products Γ ts z) [] (λ _. []) (λ _. []) (λ r v. Came (p + 3) t.place r v) (λ r v. Gave N r v)
      (λ h. ap (λ (y : Mach). y.st.stop) (ap G (still_make 0x44 m.st.last.0 M1.st.last.0 M1 h) ∙ stillF M1 h))
      (λ y c. runs_bind Γ env cap room M1 M2 F (pair x y) (λ z. products Γ ts z) [] (λ _. []) (λ _. []) (λ r v. Gave (p + 3) r v) (λ r v. Gave N r v)
      (λ h. ap (λ (z : Mach). z.st.stop) (stillF M2 h))
      (λ z k. runs_map Γ env cap room M2 F (products Γ ts z) [] (λ _. []) _ _ (λ r u. (u.0 ∙ omega arith, u.1)) (runs_products ts (p + 3) z rest f.1 w.1 b1 M2 k.0 k.1))
      (runs_if Γ env cap room M1 M2 (make_of 0x44 x y M1) (pair x y) [] (λ _. []) _ (λ g. ap₂ (λ (i j : ℕ). make_of 0x44 i j M1) lx c.2)
      (runs_map Γ env cap room M1 (make_of 0x44 x y M1) (pair x y) [] (λ _. []) _ _ (λ r u. (u.0 ∙ c.0, u.2)) (runs_make Γ env cap room wide 0x44 x y M1 (builds_pair x y) []))))
      (goes-target t p [] (spell_targets ts ++ rest) f.0 w.0 b0 m at0)

  pub runs_becomes_in : (t : Target) (ts : List Target) (e : Expr) (p n : ℕ) (rest : List ℕ) → n ≡ suc (targets ts) → t.name < most → FitsTargets most ts → Fits most 1 0 e → t.place ≡ p → PlacedTargets (p + 3) ts → Placed (p + 3 + size_targets ts) e
      → drop p s ≡ spell_target t ++ (spell_targets ts ++ (spell e ++ rest)) → (m : Mach) → m.st.at.0 ≡ p
      → Runs Γ env cap room m (becomes_in_of s env n m) (target Γ t >>= λ x. products Γ ts x >>= λ y. power y >>= λ z. walk Γ e [] >>= λ u. same u z (place e)) [] (λ _. []) (Q (p + 3 + size_targets ts + size e))
  unfolding becomes_in_of belongs_of then
  runs_becomes_in t ts e p n rest en fx ft fe wx wt we b m at0 =
      let b1 : drop (p + 3) s ≡ spell_targets ts ++ (spell e ++ rest) = past (spell_target t) (spell_targets ts ++ (spell e ++ rest)) 3 p (target-long t) b in
      let b2 : drop (p + 3 + size_targets ts) s ≡ spell e ++ rest = past (spell_targets ts) (spell e ++ rest) (size_targets ts) (p + 3) (length-targets ts) b1 in
      let nn : n - 1 ≡ targets ts = omega arith in
      let M1 : Mach = X m in
      let R : Mach → Mach = (λ (y : Mach). times_of (product_by (expr_of 64 s env)) (n - 1) y) in
      let M2 : Mach = R M1 in
      let M3 : Mach = make_of 0x43 M2.st.last.0 0 M2 in
      let M4 : Mach = X M3 in
      let F : Mach = expect_of M4.st.last.0 M3.st.last.0 M4.st.from.0 M4 in
      let N : ℕ = p + 3 + size_targets ts + size e in
      let last2 : (y : Mach) → Mach = (λ (y : Mach). (let d = X y in expect_of d.st.last.0 y.st.last.0 d.st.from.0 d)) in
      let still4 : (y : Mach) → (y.st.stop ≡ 0 → ⊥) → last2 y ≡ y = (λ y h. ap (λ (d : Mach). expect_of d.st.last.0 y.st.last.0 d.st.from.0 d) (stays y h) ∙ still_expect y.st.last.0 y.st.last.0 y.st.from.0 y h) in
      let still3 : (y : Mach) → (y.st.stop ≡ 0 → ⊥) → last2 (make_of 0x43 y.st.last.0 0 y) ≡ y = (λ y h. ap last2 (still_make 0x43 y.st.last.0 0 y h) ∙ still4 y h) in
      runs_bind Γ env cap room m M1 F (target Γ t) (λ x. products Γ ts x >>= λ y. power y >>= λ z. walk Γ e [] >>= λ u. same u z (place e)) [] (λ _. []) (λ _. []) (λ r v. Came (p + 3) t.place r v) (Q N)
      (λ h. ap (λ (y : Mach). y.st.stop) (ap (λ (y : Mach). last2 (make_of 0x43 y.st.last.0 0 y)) (still_times (product_by (expr_of 64 s env)) M1 (still_product M1 h) (n - 1)) ∙ still3 M1 h))
      (λ x c. runs_bind Γ env cap room M1 M2 F (products Γ ts x) (λ y. power y >>= λ z. walk Γ e [] >>= λ u. same u z (place e)) [] (λ _. []) (λ _. []) (λ r v. Gave (p + 3 + size_targets ts) r v) (Q N)
      (λ h. ap (λ (y : Mach). y.st.stop) (still3 M2 h))
      (λ y k. runs_bind Γ env cap room M2 M3 F (power y) (λ z. walk Γ e [] >>= λ u. same u z (place e)) [] (λ _. []) (λ _. []) (λ r v. Gave (p + 3 + size_targets ts) r v) (Q N)
      (λ h. ap (λ (z : Mach). z.st.stop) (still4 M3 h))
      (λ z j. runs_bind Γ env cap room M3 M4 F (walk Γ e []) (λ u. same u z (place e)) [] (λ _. []) (λ _. []) (λ r v. Came (p + 3 + size_targets ts + size e) (place e) r v) (Q N)
      (λ h. ap (λ (q : Mach). q.st.stop) (still_expect M4.st.last.0 M3.st.last.0 M4.st.from.0 M4 h))
      (λ u i. runs_if Γ env cap room M4 F (expect_of u z (place e) M4) (same u z (place e)) [] (λ _. []) _ (λ g. expect_as M4.st.last.0 u M3.st.last.0 z M4.st.from.0 (place e) M4 i.2 j.1 i.1)
      (runs_map Γ env cap room M4 (expect_of u z (place e) M4) (same u z (place e)) [] (λ _. []) _ _ (λ _ q. q.0 ∙ i.0) (runs_expect Γ env cap room wide u z (place e) M4 [])))
      (goes_value e (p + 3 + size_targets ts) [] rest fe we b2 M3 j.0))
      (runs_if Γ env cap room M2 M3 (make_of 0x43 y 0 M2) (power y) [] (λ _. []) _ (λ g. ap (λ (i : ℕ). make_of 0x43 i 0 M2) k.1)
      (runs_map Γ env cap room M2 (make_of 0x43 y 0 M2) (power y) [] (λ _. []) _ _ (λ r u. (u.0 ∙ k.0, u.2)) (runs_make Γ env cap room wide 0x43 y 0 M2 (builds_power y) []))))
      (subst (λ (j : ℕ). Runs Γ env cap room M1 (times_of (product_by (expr_of 64 s env)) j M1) (products Γ ts x) [] (λ _. []) (λ r v. Gave (p + 3 + size_targets ts) r v)) (sym nn)
      (runs_products ts (p + 3) x (spell e ++ rest) ft wt b1 M1 c.0 c.2)))
      (goes-target t p [] (spell_targets ts ++ (spell e ++ rest)) fx wx b m at0)

  pub still_becomes_in : (n : ℕ) (m : Mach) → (m.st.stop ≡ 0 → ⊥) → becomes_in_of s env n m ≡ m
  unfolding becomes_in_of belongs_of then
  still_becomes_in n m h =
      let last2 : Mach → Mach = (λ (y : Mach). (let d = X y in expect_of d.st.last.0 y.st.last.0 d.st.from.0 d)) in
      ap (λ (a : Mach). (let b = times_of (product_by (expr_of 64 s env)) (n - 1) a in last2 (make_of 0x43 b.st.last.0 0 b))) (stays m h)
      ∙ ap (λ (b : Mach). last2 (make_of 0x43 b.st.last.0 0 b)) (still_times (product_by (expr_of 64 s env)) m (still_product m h) (n - 1))
      ∙ ap last2 (still_make 0x43 m.st.last.0 0 m h)
      ∙ ap (λ (d : Mach). expect_of d.st.last.0 m.st.last.0 d.st.from.0 d) (stays m h) ∙ still_expect m.st.last.0 m.st.last.0 m.st.from.0 m h
