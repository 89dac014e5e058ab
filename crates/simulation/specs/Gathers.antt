-- The rows of 05, 08, 28 and 29: their plans, and what the walk does with their children.
-- After this file each plan of the machine runs its piece of the walk, for any number of children.
use Rattle.std.specs.Prelude.{ℕ, ◌+◌, ◌≤◌, List, [], ◌∷◌}
use Rattle.std.proofs.Math.Path.{◌≡◌, refl, ap, subst}
use Rattle.std.proofs.Common.{sym, ◌∙◌, ap₂, arith}
use Rattle.formula.specs.Environment.{Env}
use Rattle.formula.specs.Tree.{Exprs, exprs}
use Rattle.formula.specs.Spell.{size_all}
use Rattle.typing.specs.Equations.{Way, forward, backward}
use Rattle.unification.specs.Arena.{U}
use Rattle.walk.specs.Writer.{W, done, ◌>>=◌, unknown, power, problem}
use Rattle.walk.specs.Scripts.{Script, scripted, new, an_unknown, a_power, left, perform, three, Gather, all_as, linked, no_script}
use Rattle.walk.specs.Walk.{Mode, loose, each, links, relation, last, gather, walk_all}
use Rattle.machine.specs.State.{State}
use Rattle.operators.specs.declared.Script as MS
use Rattle.operators.specs.declared.Script.TheVariants as S
use Rattle.operators.specs.declared.Mode as MM
use Rattle.operators.specs.declared.Mode.TheVariants.{Loose, Same, Linked}
use Rattle.operators.specs.declared.Plan.{Plan}
use Rattle.operators.specs.Scripts.{items_in, given_by}
use Rattle.machine.specs.Machine.{Mach, with_st, list_of}
use Rattle.machine.specs.Scripts.{parts_of, play_of}
use Rattle.walker.specs.Walk.{all_by}
use Rattle.simulation.specs.Relation.{Runs}
use Rattle.simulation.specs.Bind.{runs_bind}
use Rattle.simulation.specs.Stand.{standing, gave_eq, runs_if, runs_map, runs_stand}
use Rattle.machine.specs.Still.{still_list}
use Rattle.walker.specs.StillWalk.{Still}
use Rattle.simulation.specs.Steps.{runs_same, prior_is, past_is}
use Rattle.simulation.specs.Nodes.{Gave, runs_list}
use Rattle.simulation.specs.Play.{ref_of, seat_of, item_as, items_as, script_as, within, fits, all_fit, script_fits, Tied}
use Rattle.simulation.specs.Perform.{Planned, set-tied, three_chosen, runs_perform}
use Rattle.simulation.specs.Shapes.{Moded, unknown-is, power-is, set_is, relation-is, ends_as, end_script, end-tied, link_script, play-nothing, parts-base}
use Rattle.simulation.specs.Children.{AllGo, runs_all}

unknown-tied : Tied 3 0 S.Unknown (scripted (an_unknown ∷ []) (new 0))
unfolding script_as items_as item_as ref_of seat_of items_in given_by script_fits all_fit fits within scripted
unknown-tied = (refl, refl)

power-tied : Tied 3 0 S.Power (scripted (a_power left ∷ []) (new 0))
unfolding script_as items_as item_as ref_of seat_of items_in given_by script_fits all_fit fits within scripted
power-tied = (refl, refl)

abbrev beginning : W ℕ
beginning = done 0

-- the walk's own text
gather-alike : (sc : Script) (rest : Mode → W Mode) → gather (all_as sc) rest ≡ (perform sc.items sc.gives (three 0 0 0) (three 0 0 0) >>= λ x. rest (each x) >>= λ _. done x)
unfolding gather
gather-alike sc rest = refl

gather-linked : (way : Way) (rest : Mode → W Mode) → gather (linked way) rest ≡ (unknown >>= λ x. rest (links way x) >>= λ mo. relation way x (last mo))
unfolding gather
gather-linked way rest = refl

last_of : (plan : Plan) (y : ℕ) (mo : Mode) → plan.mode ≡ Linked → Moded plan y mo → y ≡ last mo
unfolding Moded last
last_of plan y loose e h = let z : ◌≡◌ {A = MM.Mode} Linked Loose = sym e ∙ h.1 in absurd cc
last_of plan y (each x) e h = let z : ◌≡◌ {A = MM.Mode} Linked Same = sym e ∙ h.1 in absurd cc
last_of plan y (links way x) e h = h.2

module _ (Γ : Env) (env : List ℕ) (cap room : ℕ) (wide : cap ≤ 32768) (E : Mach → Mach) (stays : Still E) (B : List ℕ) where
  -- the first script of a row: no part, no place
  first_runs : (n : MS.Script) (sc : Script) (m a : Mach) (p : ℕ) → Tied 3 0 n sc → m.st.at.0 ≡ p → a ≡ play_of n (parts_of 0 m.st.at.0 0 m.st.at.0 m.st.at.0 m.st) m
      → Runs Γ env cap room m a (perform sc.items sc.gives (three 0 0 0) (three 0 0 0)) B (λ _. B) (λ r v. Gave p r v)
  first_runs n sc m a p t at0 e =
      let K : ℕ = m.st.at.0 in
      let z = parts_of 0 K 0 K K m.st in
      runs_if Γ env cap room m a (play_of n z m) (perform sc.items sc.gives (three 0 0 0) (three 0 0 0)) B (λ _. B) _ (λ _. e)
      (runs_map Γ env cap room m (play_of n z m) (perform sc.items sc.gives (three 0 0 0) (three 0 0 0)) B (λ _. B) _ _ (λ r y. (y.0 ∙ at0, y.2))
      (runs_perform Γ env cap room wide n sc z (three 0 0 0) (three 0 0 0) 0 m B t (parts-base 0 K 0 K K m.st) (λ i l. three_chosen 0 K 0 K K m.st i l) (λ i l. absurd (omega arith))))

  -- the last script: the first reference and the last
  last_runs : (n : MS.Script) (sc : Script) (b : Mach) (z x y K p : ℕ) → Tied 3 0 n sc → z ≡ x → b.st.last.0 ≡ y → b.st.at.0 ≡ p
      → Runs Γ env cap room b (play_of n (parts_of z K b.st.last.0 K K b.st) b) (perform sc.items sc.gives (three 0 x y) (three 0 0 0)) B (λ _. B) (λ r v. Gave p r v)
  last_runs n sc b z x y K p t e f at0 =
      let q = parts_of z K b.st.last.0 K K b.st in
      runs_map Γ env cap room b (play_of n q b) (perform sc.items sc.gives (three 0 x y) (three 0 0 0)) B (λ _. B) _ _ (λ r u. (u.0 ∙ at0, u.2))
      (runs_perform Γ env cap room wide n sc q (three 0 x y) (three 0 0 0) 0 b B t (parts-base z K b.st.last.0 K K b.st)
      (λ i l. three_chosen z K b.st.last.0 K K b.st i l ∙ ap₂ (λ (j k : ℕ). three 0 j k i) e f) (λ i l. absurd (omega arith)))

  -- nothing at the end: the first reference is given
  nothing_runs : {A : Type 0} (n : MS.Script) (c : A) (b : Mach) (z K p : ℕ) (Q : A → Mach → Type 0) → n ≡ S.Nothing → b.st.at.0 ≡ p → ((v : Mach) → Gave p z v → Q c v)
      → Runs Γ env cap room b (play_of n (parts_of z K b.st.last.0 K K b.st) b) (done c) B (λ _. B) Q
  nothing_runs n c b z K p Q e at0 h =
      runs_if Γ env cap room b (play_of n (parts_of z K b.st.last.0 K K b.st) b) (with_st (standing b.st.at.0 b.st.from.0 z b.st) b) (done c) B (λ _. B) Q
      (λ g. ap (λ (k : MS.Script). play_of k (parts_of z K b.st.last.0 K K b.st) b) e ∙ play-nothing z K b.st.last.0 K K b.st b ∙ ap (λ (v : State). with_st v b) (gave_eq z b.st g))
      (runs_stand Γ env cap room b b.st.at.0 b.st.from.0 z c B Q (h (with_st (standing b.st.at.0 b.st.from.0 z b.st) b) (at0, refl)))

  module _ (es : Exprs) (p : ℕ) (go : AllGo Γ env cap room wide E stays B es p) (m : Mach) (at0 : m.st.at.0 ≡ p) where
    abbrev Q : ℕ → Mach → Type 0
    Q r v = Gave (p + size_all es) r v

    gather_as : (sc : Script) (plan : Plan) → Tied 3 0 plan.first sc → plan.link ≡ S.Nothing → plan.last ≡ S.Nothing → plan.mode ≡ Same
        → Runs Γ env cap room m (all_by E plan (exprs es) m) (gather (all_as sc) (λ mo. walk_all Γ es mo B)) B (λ _. B) (λ r v. Q r v)
    unfolding Moded
    gather_as sc plan t e0 e1 e2 =
        subst (λ (w : W ℕ). Runs Γ env cap room m (all_by E plan (exprs es) m) w B (λ _. B) (λ r v. Q r v)) (sym (gather-alike sc (λ mo. walk_all Γ es mo B)))
        (runs_all Γ env cap room wide E stays B es plan p go m at0 (perform sc.items sc.gives (three 0 0 0) (three 0 0 0)) each (λ x _. done x) (λ r v. Q r v)
        (λ a e. first_runs plan.first sc m a p t at0 e)
        (λ x. (e0, e2, refl))
        (λ b x z mo e f h. nothing_runs plan.last x b z m.st.at.0 (p + size_all es) (λ r v. Q r v) e1 f (λ v y. (y.0, y.1 ∙ e))))

    gather-links : (way : Way) (plan : Plan) → plan.first ≡ S.Unknown → plan.link ≡ link_script way → plan.last ≡ end_script way → plan.mode ≡ Linked
        → Runs Γ env cap room m (all_by E plan (exprs es) m) (gather (linked way) (λ mo. walk_all Γ es mo B)) B (λ _. B) (λ r v. Q r v)
    unfolding Moded scripted
    gather-links way plan e e0 e1 e2 =
        subst (λ (w : W ℕ). Runs Γ env cap room m (all_by E plan (exprs es) m) w B (λ _. B) (λ r v. Q r v)) (sym (gather-linked way (λ mo. walk_all Γ es mo B)))
        (runs_all Γ env cap room wide E stays B es plan p go m at0 unknown (links way) (λ x mo. relation way x (last mo)) (λ r v. Q r v)
        (λ a q. runs_same Γ env cap room m a (perform (an_unknown ∷ []) (new 0) (three 0 0 0) (three 0 0 0)) unknown B (λ _. B) _ (unknown-is (three 0 0 0) (three 0 0 0))
        (first_runs plan.first (scripted (an_unknown ∷ []) (new 0)) m a p (subst (λ (k : MS.Script). Tied 3 0 k (scripted (an_unknown ∷ []) (new 0))) (sym e) unknown-tied) at0 q))
        (λ x. (e0, e2, refl))
        (λ b x z mo q f h. runs_same Γ env cap room b _ (perform (ends_as way).items (ends_as way).gives (three 0 x (last mo)) (three 0 0 0)) (relation way x (last mo)) B (λ _. B) _ (relation-is way x (last mo) (three 0 0 0))
        (last_runs plan.last (ends_as way) b z x (last mo) m.st.at.0 (p + size_all es) (subst (λ (k : MS.Script). Tied 3 0 k (ends_as way)) (sym e1) (end-tied way)) q (last_of plan b.st.last.0 mo e2 h) f)))

    -- 08
    pub runs_gather : (g : Gather) (plan : Plan) → Planned plan g → Runs Γ env cap room m (all_by E plan (exprs es) m) (gather g (λ mo. walk_all Γ es mo B)) B (λ _. B) (λ r v. Gave (p + size_all es) r v)
    unfolding Planned link_script end_script
    runs_gather (all_as sc) plan h = gather_as sc plan h.0 h.1 h.2 h.3
    runs_gather (linked forward) plan h = gather-links forward plan h.0 h.1 h.2 h.3
    runs_gather (linked backward) plan h = gather-links backward plan h.0 h.1 h.2 h.3
    runs_gather no_script plan h = absurd h

    -- 05
    pub runs_extension : Runs Γ env cap room m (all_by E (record { first = S.Unknown; link = S.Nothing; last = S.Power; mode = Same }) (exprs es) m) (unknown >>= λ x. walk_all Γ es (each x) B >>= λ _. power x) B (λ _. B) (λ r v. Gave (p + size_all es) r v)
    unfolding Moded scripted
    runs_extension =
        runs_all Γ env cap room wide E stays B es (record { first = S.Unknown; link = S.Nothing; last = S.Power; mode = Same }) p go m at0 unknown each (λ x _. power x) (λ r v. Q r v)
        (λ a q. runs_same Γ env cap room m a (perform (an_unknown ∷ []) (new 0) (three 0 0 0) (three 0 0 0)) unknown B (λ _. B) _ (unknown-is (three 0 0 0) (three 0 0 0))
        (first_runs S.Unknown (scripted (an_unknown ∷ []) (new 0)) m a p unknown-tied at0 q))
        (λ x. (refl, refl, refl))
        (λ b x z mo q f h. runs_same Γ env cap room b _ (perform (a_power left ∷ []) (new 0) (three 0 x b.st.last.0) (three 0 0 0)) (power x) B (λ _. B) _ (power-is x b.st.last.0 (three 0 0 0))
        (last_runs S.Power (scripted (a_power left ∷ []) (new 0)) b z x b.st.last.0 m.st.at.0 (p + size_all es) power-tied q refl f))

    abbrev Past : U → Mach → Type 0
    Past _ v = v.st.at.0 ≡ p + size_all es

    -- 28
    pub runs_multiple : Runs Γ env cap room m (all_by E (record { first = S.EmptySet; link = S.Nothing; last = S.Nothing; mode = Same }) (exprs es) m) (unknown >>= λ x. power x >>= λ z. walk_all Γ es (each z) B >>= λ _. done tt) B (λ _. B) Past
    unfolding Moded scripted
    runs_multiple =
        runs_same Γ env cap room m (all_by E (record { first = S.EmptySet; link = S.Nothing; last = S.Nothing; mode = Same }) (exprs es) m) (perform (an_unknown ∷ a_power (new 0) ∷ []) (new 1) (three 0 0 0) (three 0 0 0) >>= λ z. walk_all Γ es (each z) B >>= λ _. done tt) _ B (λ _. B) Past
        (set_is (three 0 0 0) (three 0 0 0) (λ z. walk_all Γ es (each z) B >>= λ _. done tt))
        (runs_all Γ env cap room wide E stays B es (record { first = S.EmptySet; link = S.Nothing; last = S.Nothing; mode = Same }) p go m at0 (perform (an_unknown ∷ a_power (new 0) ∷ []) (new 1) (three 0 0 0) (three 0 0 0)) each (λ x _. done tt) Past
        (λ a q. first_runs S.EmptySet (scripted (an_unknown ∷ a_power (new 0) ∷ []) (new 1)) m a p set-tied at0 q)
        (λ x. (refl, refl, refl))
        (λ b x z mo q f h. nothing_runs S.Nothing tt b z m.st.at.0 (p + size_all es) Past refl f (λ v y. y.0)))

    abbrev plain : Plan
    plain = record { first = S.Nothing; link = S.Nothing; last = S.Nothing; mode = Loose }

    -- 29
    pub runs_application : (q : ℕ) → Runs Γ env cap room m (list_of 5 q 0xFFFF (all_by E plain (exprs es) m)) (walk_all Γ es loose B >>= λ _. problem 5 q) B (λ _. B) Past
    unfolding Moded
    runs_application q =
        let F : Mach = all_by E plain (exprs es) m in
        let all : Runs Γ env cap room m F (beginning >>= λ x. walk_all Γ es loose B >>= λ mo. done mo) B (λ _. B) (λ _ v. v.st.at.0 ≡ p + size_all es) =
        runs_all Γ env cap room wide E stays B es plain p go m at0 (done 0) (λ _. loose) (λ x mo. done mo) (λ _ v. v.st.at.0 ≡ p + size_all es)
        (λ a e. runs_if Γ env cap room m a (with_st (standing m.st.at.0 m.st.from.0 0 m.st) m) (done 0) B (λ _. B) _
        (λ g. e ∙ play-nothing 0 m.st.at.0 0 m.st.at.0 m.st.at.0 m.st m ∙ ap (λ (v : State). with_st v m) (gave_eq 0 m.st g))
        (runs_stand Γ env cap room m m.st.at.0 m.st.from.0 0 0 B (λ r v. Gave p r v) (at0, refl)))
        (λ x. (refl, refl))
        (λ b x z mo e f h. nothing_runs S.Nothing mo b z m.st.at.0 (p + size_all es) (λ _ v. v.st.at.0 ≡ p + size_all es) refl f (λ v y. y.0)) in
        runs_bind Γ env cap room m F (list_of 5 q 0xFFFF F) (walk_all Γ es loose B) (λ _. problem 5 q) B (λ _. B) (λ _. B) (λ _ v. v.st.at.0 ≡ p + size_all es) Past
        (λ h. ap (λ (x : Mach). x.st.stop) (still_list 5 q 0xFFFF F h))
        (λ _ c. runs_map Γ env cap room F (list_of 5 q 0xFFFF F) (problem 5 q) B (λ _. B) _ _ (λ _ y. y.0 ∙ c) (runs_list Γ env cap room wide 5 q F B))
        (runs_same Γ env cap room m F (beginning >>= λ x. walk_all Γ es loose B >>= λ mo. done mo) (walk_all Γ es loose B) B (λ _. B) _ (λ n row. prior_is {C = ℕ} 0 (walk_all Γ es loose B >>= λ mo. done mo) n row ∙ past_is (walk_all Γ es loose B) n row) all)
