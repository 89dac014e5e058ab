-- Rows of expressions: walked and no more, each compared with a node, or linked one to the next; by a plan.
-- After this file `all_by` runs what the walk does with the children of 05, 08, 28 and 29.
use Prim.Native.Nat.{ℕ, ◌+◌, ◌≤◌}
use Rattle.std.specs.Prelude.{◌≡◌, refl, List, length}
use Rattle.std.proofs.Common.{sym, ◌∙◌, subst}
use Rattle.std.proofs.Math.Path.{ap}
use native.Mathlib.Omega.{arith}
use Rattle.types.specs.declared.NodeRef.{NodeRef}
use Rattle.formula.specs.Environment.{Env}
use Rattle.formula.specs.Tree.{Expr, Exprs, none, more, exprs, place}
use Rattle.formula.specs.Spell.{size, size_all}
use Rattle.typing.specs.Equations.{Way}
use Rattle.unification.specs.Arena.{U}
use Rattle.unification.specs.Ops.{Sound, exec}
use Rattle.walk.specs.Writer.{Walk, W, done, ◌>>=◌, same, unknown}
use Rattle.walk.specs.Scripts.{pick, three}
use Rattle.walk.specs.Walk.{Mode, loose, each, links, relation, stepped, walk, walk_all}
use Rattle.machine.specs.State.{State}
use Rattle.operators.specs.declared.Script as MS
use Rattle.operators.specs.declared.Script.TheVariants as S
use Rattle.operators.specs.declared.Mode as MM
use Rattle.operators.specs.declared.Mode.TheVariants.{Loose, Same, Linked}
use Rattle.operators.specs.declared.Plan.{Plan}
use Rattle.forms.specs.Forms.{then}
use Rattle.machine.specs.Machine.{Mach, with_st, gave_of, expect_of}
use Rattle.machine.specs.Scripts.{parts_of, play_of}
use Rattle.walker.specs.Walk.{meet_of, next_of, child_by, children_by, all_by}
use Rattle.simulation.specs.Relation.{Ended, Runs}
use Rattle.simulation.specs.Bind.{runs_bind}
use Rattle.simulation.specs.Stand.{standing, gave_eq, runs_if, runs_map, runs_stand}
use Rattle.machine.specs.Still.{still_play}
use Rattle.walker.specs.StillWalk.{Still, still_meet, still_children}
use Rattle.simulation.specs.Steps.{told, runs_after}
use Rattle.simulation.specs.Nodes.{Came, Gave, Stood, runs_expect}
use Rattle.simulation.specs.Play.{Tied, items, runs_script}
use Rattle.simulation.specs.Perform.{three_chosen}
use Rattle.simulation.specs.Shapes.{Moded, Goes, link_script, link_as, link-tied, linked-is, play-nothing, parts-base}

next-same : (mode : MM.Mode) (y t : NodeRef) → mode ≡ Same → next_of mode y t ≡ y
unfolding next_of
next-same mode y t h = rw h refl

next-link : (mode : MM.Mode) (y t : NodeRef) → mode ≡ Linked → next_of mode y t ≡ t
unfolding next_of
next-link mode y t h = rw h refl

meet-none : (mode : MM.Mode) (x y p : ℕ) (m : Mach) → mode ≡ Loose → meet_of mode x y p m ≡ m
unfolding meet_of
meet-none mode x y p m h = rw h refl

-- a mode that compares
unfoldable Meets : MM.Mode → Type 0
Meets Loose = ⊥
Meets Same = Unit {0}
Meets Linked = Unit {0}

same-meets : (mode : MM.Mode) → mode ≡ Same → Meets mode
unfolding Meets
same-meets mode h = subst Meets (sym h) tt

link-meets : (mode : MM.Mode) → mode ≡ Linked → Meets mode
unfolding Meets
link-meets mode h = subst Meets (sym h) tt

meet-some : (mode : MM.Mode) (x y p : ℕ) (m : Mach) → Meets mode → meet_of mode x y p m ≡ expect_of x y p m
unfolding Meets meet_of
meet-some Loose x y p m h = absurd h
meet-some Same x y p m h = refl
meet-some Linked x y p m h = refl

module _ (Γ : Env) (env : List ℕ) (cap room : ℕ) (wide : cap ≤ 32768) (E : Mach → Mach) (stays : Still E) (B : List ℕ) where
  -- the children's walks, from p on
  abbrev pub AllGo : Exprs → ℕ → Type 0
  AllGo none p = Unit {0}
  AllGo (more e es) p = Goes Γ env cap room wide E e B p × AllGo es (p + size e)

  module _ (e : Expr) (p : ℕ) (goes : Goes Γ env cap room wide E e B p) (plan : Plan) (y : NodeRef) (m : Mach) (at0 : m.st.at.0 ≡ p)
      (final : Mach) (Q : Mode → Mach → Type 0) where
    abbrev K : ℕ
    K = m.st.at.0

    abbrev Ma : Mach
    Ma = play_of plan.link (parts_of y.0 K y.0 K K m.st) m

    abbrev Mb : Mach
    Mb = E Ma

    abbrev Mc : Mach
    Mc = meet_of plan.mode Mb.st.last.0 Ma.st.last.0 Mb.st.from.0 Mb

    nothing_eq : plan.link ≡ S.Nothing → m.st.stop ≡ 0 → Ma ≡ with_st (standing K m.st.from.0 y.0 m.st) m
    nothing_eq e0 g = ap (λ (k : MS.Script). play_of k (parts_of y.0 K y.0 K K m.st) m) e0 ∙ play-nothing y.0 K y.0 K K m.st m ∙ ap (λ (v : State). with_st v m) (gave_eq y.0 m.st g)

    -- the comparison after the child's walk, and what comes then
    compared : (x z : ℕ) (rest : W Mode) → Meets plan.mode → Came (p + size e) (place e) x Mb → Ma.st.last.0 ≡ z → ((Mc.st.stop ≡ 0 → ⊥) → final.st.stop ≡ Mc.st.stop)
        → (Mc.st.at.0 ≡ p + size e → Runs Γ env cap room Mc final rest B (λ _. B) Q) → Runs Γ env cap room Mb final (same x z (place e) >>= λ _. rest) B (λ _. B) Q
    compared x z rest h c f thr k =
        let is : Mc ≡ expect_of x z (place e) Mb = meet-some plan.mode Mb.st.last.0 Ma.st.last.0 Mb.st.from.0 Mb h ∙ rw (c.2, f, c.1) refl in
        runs_bind Γ env cap room Mb Mc final (same x z (place e)) (λ _. rest) B (λ _. B) (λ _. B) (λ _ v. Stood {A = U} Mb.st.at.0 Mb.st.from.0 tt v) Q thr
        (λ _ q. k (q.0 ∙ c.0))
        (runs_if Γ env cap room Mb Mc (expect_of x z (place e) Mb) (same x z (place e)) B (λ _. B) _ (λ g. is) (runs_expect Γ env cap room wide x z (place e) Mb B))

    child_loose : (rest : W Mode) → plan.link ≡ S.Nothing → plan.mode ≡ Loose → ((Mc.st.stop ≡ 0 → ⊥) → final.st.stop ≡ Mc.st.stop) → (Mc.st.at.0 ≡ p + size e → Runs Γ env cap room Mc final rest B (λ _. B) Q)
        → Runs Γ env cap room m final (walk Γ e B >>= λ x. rest) B (λ _. B) Q
    child_loose rest e0 e1 thr k =
        let is : Mc ≡ Mb = meet-none plan.mode Mb.st.last.0 Ma.st.last.0 Mb.st.from.0 Mb e1 in
        runs_after Γ env cap room m Ma final K m.st.from.0 y.0 (walk Γ e B >>= λ x. rest) B (λ _. B) Q (λ g. nothing_eq e0 g)
        (λ g. runs_bind Γ env cap room Ma Mb final (walk Γ e B) (λ x. rest) B (λ _. B) (λ _. B) (λ r v. Came (p + size e) (place e) r v) Q
        (λ h. subst (λ (z : Mach). (z.st.stop ≡ 0 → ⊥) → final.st.stop ≡ z.st.stop) is thr h)
        (λ x c. subst (λ (z : Mach). Runs Γ env cap room z final rest B (λ _. B) Q) is (k (ap (λ (z : Mach). z.st.at.0) is ∙ c.0)))
        (goes Ma (ap (λ (z : Mach). z.st.at.0) (nothing_eq e0 g) ∙ at0)))

    child_each : (z : ℕ) (rest : W Mode) → plan.link ≡ S.Nothing → plan.mode ≡ Same → y.0 ≡ z → ((Mc.st.stop ≡ 0 → ⊥) → final.st.stop ≡ Mc.st.stop) → (Mc.st.at.0 ≡ p + size e → Runs Γ env cap room Mc final rest B (λ _. B) Q)
        → Runs Γ env cap room m final (walk Γ e B >>= λ x. same x z (place e) >>= λ _. rest) B (λ _. B) Q
    child_each z rest e0 e1 e2 thr k =
        runs_after Γ env cap room m Ma final K m.st.from.0 y.0 (walk Γ e B >>= λ x. same x z (place e) >>= λ _. rest) B (λ _. B) Q (λ g. nothing_eq e0 g)
        (λ g. runs_bind Γ env cap room Ma Mb final (walk Γ e B) (λ x. same x z (place e) >>= λ _. rest) B (λ _. B) (λ _. B) (λ r v. Came (p + size e) (place e) r v) Q
        (λ h. (let u = still_meet plan.mode Mb.st.last.0 Ma.st.last.0 Mb.st.from.0 Mb h in thr (λ q. h (ap (λ (w : Mach). w.st.stop) (sym u) ∙ q)) ∙ ap (λ (w : Mach). w.st.stop) u))
        (λ x c. compared x z rest (same-meets plan.mode e1) c (ap (λ (w : Mach). w.st.last.0) (nothing_eq e0 g) ∙ e2) thr k)
        (goes Ma (ap (λ (w : Mach). w.st.at.0) (nothing_eq e0 g) ∙ at0)))

    child_links : (way : Way) (z : ℕ) (rest : ℕ → W Mode) → plan.link ≡ link_script way → plan.mode ≡ Linked → y.0 ≡ z → ((Mc.st.stop ≡ 0 → ⊥) → final.st.stop ≡ Mc.st.stop)
        → (Mc.st.at.0 ≡ p + size e → Runs Γ env cap room Mc final (rest m.st.nodes) B (λ _. B) Q)
        → Runs Γ env cap room m final (unknown >>= λ t. relation way z t >>= λ w. walk Γ e B >>= λ x. same x w (place e) >>= λ _. rest t) B (λ _. B) Q
    child_links way z rest e0 e1 e2 thr k = record {
      ends = λ b row s o. (
          let n0 : ℕ = m.st.nodes in
          let pl : ℕ → ℕ = three 0 0 0 in
          let w1 : W ℕ = told (λ _. pick (three 0 z z) n0 (link_as way).gives) (items (three 0 z z) pl n0 (link_as way).items) in
          let kk : ℕ → W Mode = (λ w. walk Γ e B >>= λ x. same x w (place e) >>= λ _. rest n0) in
          let c = s.count in
          let d = s.counted in
          let first = runs_script Γ env cap room wide (parts_of y.0 K y.0 K K m.st) (three 0 z z) pl 3 0 n0 (parts-base y.0 K y.0 K K m.st) (omega arith)
          (λ i l. three_chosen y.0 K y.0 K K m.st i l ∙ ap (λ (j : ℕ). three 0 j j i) e2) (λ i l. absurd (omega arith)) B plan.link (link_as way) m
          (subst (λ (j : MS.Script). Tied 3 0 j (link_as way)) (sym e0) (link-tied way)) in
          subst (λ (x : Walk Mode). Sound b.count x.ops → m.st.slots + length x.slots ≤ 1024 → Ended Γ env cap room m final x B Q (exec cap x.ops b m.st.budget))
          (linked-is way z pl (λ t w. walk Γ e B >>= λ x. same x w (place e) >>= λ _. rest t) n0 b.count row s.count)
          ((runs_bind Γ env cap room m Ma final w1 kk B (λ _. B) (λ _. B) (λ r v. Came K m.st.from.0 r v) Q
          (λ h. (
          let u1 : Mb ≡ Ma = stays Ma h in
          let u : Mc ≡ Ma = ap (λ (q : Mach). meet_of plan.mode q.st.last.0 Ma.st.last.0 q.st.from.0 q) u1 ∙ still_meet plan.mode Ma.st.last.0 Ma.st.last.0 Ma.st.from.0 Ma h in
          thr (λ q. h (ap (λ (g : Mach). g.st.stop) (sym u) ∙ q)) ∙ ap (λ (g : Mach). g.st.stop) u))
          (λ w c1. runs_bind Γ env cap room Ma Mb final (walk Γ e B) (λ x. same x w (place e) >>= λ _. rest n0) B (λ _. B) (λ _. B) (λ r v. Came (p + size e) (place e) r v) Q
          (λ h. (let u = still_meet plan.mode Mb.st.last.0 Ma.st.last.0 Mb.st.from.0 Mb h in thr (λ q. h (ap (λ (g : Mach). g.st.stop) (sym u) ∙ q)) ∙ ap (λ (g : Mach). g.st.stop) u))
          (λ x c2. compared x w (rest n0) (link-meets plan.mode e1) c2 c1.2 thr k)
          (goes Ma (c1.0 ∙ at0)))
          first).ends b row s o));
    }

  -- ---- the row
  pub runs_children : (es : Exprs) (mode : Mode) (plan : Plan) (y : NodeRef) (p : ℕ) → AllGo es p → Moded plan y.0 mode → (m : Mach) → m.st.at.0 ≡ p
      → Runs Γ env cap room m (children_by E plan (exprs es) y m) (walk_all Γ es mode B) B (λ _. B) (λ md v. (v.st.at.0 ≡ p + size_all es) × Moded plan v.st.last.0 md)
  unfolding walk_all exprs size_all children_by then stepped Moded child_by
  runs_children none mode plan y p go h m at0 =
      let z : m.st.at.0 ≡ p + 0 = omega arith in
      runs_if Γ env cap room m (with_st (gave_of y.0 m.st) m) (with_st (standing m.st.at.0 m.st.from.0 y.0 m.st) m) (done mode) B (λ _. B) _ (λ g. ap (λ (v : State). with_st v m) (gave_eq y.0 m.st g))
      (runs_stand Γ env cap room m m.st.at.0 m.st.from.0 y.0 mode B (λ md v. (v.st.at.0 ≡ p + 0) × Moded plan v.st.last.0 md) (z, h))
  runs_children (more e es) loose plan y p go h m at0 =
      let t : NodeRef = record { 0 = m.st.nodes } in
      let C : Mach = child_by E plan y m in
      let F : Mach = children_by E plan (exprs es) (next_of plan.mode y t) C in
      child_loose e p go.0 plan y m at0 F _ (walk_all Γ es loose B) h.0 h.1 (λ k. ap (λ (x : Mach). x.st.stop) (still_children E stays plan (exprs es) (next_of plan.mode y t) C k))
      (λ a. runs_map Γ env cap room C F (walk_all Γ es loose B) B (λ _. B) _ _ (λ md q. (q.0 ∙ omega arith, q.1)) (runs_children es loose plan (next_of plan.mode y t) (p + size e) go.1 h C a))
  runs_children (more e es) (each x) plan y p go h m at0 =
      let t : NodeRef = record { 0 = m.st.nodes } in
      let C : Mach = child_by E plan y m in
      let F : Mach = children_by E plan (exprs es) (next_of plan.mode y t) C in
      let n : (next_of plan.mode y t).0 ≡ x = ap (λ (r : NodeRef). r.0) (next-same plan.mode y t h.1) ∙ h.2 in
      child_each e p go.0 plan y m at0 F _ x (walk_all Γ es (each x) B) h.0 h.1 h.2 (λ k. ap (λ (z : Mach). z.st.stop) (still_children E stays plan (exprs es) (next_of plan.mode y t) C k))
      (λ a. runs_map Γ env cap room C F (walk_all Γ es (each x) B) B (λ _. B) _ _ (λ md q. (q.0 ∙ omega arith, q.1)) (runs_children es (each x) plan (next_of plan.mode y t) (p + size e) go.1 (h.0, h.1, n) C a))
  runs_children (more e es) (links way x) plan y p go h m at0 =
      let t : NodeRef = record { 0 = m.st.nodes } in
      let C : Mach = child_by E plan y m in
      let F : Mach = children_by E plan (exprs es) (next_of plan.mode y t) C in
      let n : (next_of plan.mode y t).0 ≡ m.st.nodes = ap (λ (r : NodeRef). r.0) (next-link plan.mode y t h.1) in
      child_links e p go.0 plan y m at0 F _ way x (λ j. walk_all Γ es (links way j) B) h.0 h.1 h.2 (λ k. ap (λ (z : Mach). z.st.stop) (still_children E stays plan (exprs es) (next_of plan.mode y t) C k))
      (λ a. runs_map Γ env cap room C F (walk_all Γ es (links way m.st.nodes) B) B (λ _. B) _ _ (λ md q. (q.0 ∙ omega arith, q.1)) (runs_children es (links way m.st.nodes) plan (next_of plan.mode y t) (p + size e) go.1 (h.0, h.1, n) C a))

  -- ---- a plan: what comes first, the row, what comes last
  pub runs_all : {C : Type 0} (es : Exprs) (plan : Plan) (p : ℕ) → AllGo es p → (m : Mach) → m.st.at.0 ≡ p → (w1 : W ℕ) (md : ℕ → Mode) (k : ℕ → Mode → W C) (Q : C → Mach → Type 0)
      → ((a : Mach) → a ≡ play_of plan.first (parts_of 0 m.st.at.0 0 m.st.at.0 m.st.at.0 m.st) m → Runs Γ env cap room m a w1 B (λ _. B) (λ r v. Gave p r v))
      → ((x : ℕ) → Moded plan x (md x))
      → ((b : Mach) (x : ℕ) (z : ℕ) (mo : Mode) → z ≡ x → b.st.at.0 ≡ p + size_all es → Moded plan b.st.last.0 mo
      → Runs Γ env cap room b (play_of plan.last (parts_of z m.st.at.0 b.st.last.0 m.st.at.0 m.st.at.0 b.st) b) (k x mo) B (λ _. B) Q)
      → Runs Γ env cap room m (all_by E plan (exprs es) m) (w1 >>= λ x. walk_all Γ es (md x) B >>= λ mo. k x mo) B (λ _. B) Q
  unfolding all_by then
  runs_all es plan p go m at0 w1 md k Q first fits end =
      let K : ℕ = m.st.at.0 in
      let a : Mach = play_of plan.first (parts_of 0 K 0 K K m.st) m in
      let b : Mach = children_by E plan (exprs es) a.st.last a in
      let F : Mach = play_of plan.last (parts_of a.st.last.0 K b.st.last.0 K K b.st) b in
      runs_bind Γ env cap room m a F w1 (λ x. walk_all Γ es (md x) B >>= λ mo. k x mo) B (λ _. B) (λ _. B) (λ r v. Gave p r v) Q
      (λ h. ap (λ (z : Mach). z.st.stop) (ap (λ (y : Mach). play_of plan.last (parts_of a.st.last.0 K y.st.last.0 K K y.st) y) (still_children E stays plan (exprs es) a.st.last a h) ∙ still_play plan.last (parts_of a.st.last.0 K a.st.last.0 K K a.st) a h))
      (λ x c. runs_bind Γ env cap room a b F (walk_all Γ es (md x) B) (λ mo. k x mo) B (λ _. B) (λ _. B) (λ mo v. (v.st.at.0 ≡ p + size_all es) × Moded plan v.st.last.0 mo) Q
      (λ h. ap (λ (z : Mach). z.st.stop) (still_play plan.last (parts_of a.st.last.0 K b.st.last.0 K K b.st) b h))
      (λ mo q. end b x a.st.last.0 mo c.1 q.0 q.1)
      (runs_children es (md x) plan a.st.last p go (subst (λ (j : ℕ). Moded plan j (md x)) (sym c.1) (fits x)) a c.0))
      (first a refl)
