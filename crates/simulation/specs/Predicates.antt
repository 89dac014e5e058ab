-- The rules of predicates, kind by kind, for any walks one level below.
-- After this file a predicate's rule is known from its parts'.
use Prim.Native.Nat.{ℕ, ◌+◌, ◌≤◌, ◌<◌}
use Rattle.std.specs.Prelude.{◌≡◌}
use Rattle.std.proofs.Math.Path.{refl, ap}
use Rattle.std.proofs.Common.{sym, ◌∙◌, ap₂, subst}
use mathlib.Core.List.{List, ◌++◌}
use native.Mathlib.Omega.{arith}
use Rattle.std.proofs.Math.ListN.{length, drop}
use Rattle.heads.specs.declared.PredHead.{PredHead}
use Rattle.heads.specs.declared.PredHead.TheVariants.{Constant, Variable, Relational, Connective, Junction, Negation, Quantification, Simple, Multiple, Application}
use Rattle.heads.specs.Heads as H
use Rattle.formula.specs.Environment.{Env}
use Rattle.formula.specs.Tree.{Decl, Expr, Exprs, Pred, Preds, end, also, place, decls, exprs, preds}
use Rattle.formula.specs.Spell.{spell_decls, size, size_all, size_pred, size_preds, size_decls, PlacedDecls}
use Rattle.formula_laws.specs.Fits.{FitsDecls}
use Rattle.typing.specs.Equations.{look}
use Rattle.unification.specs.Arena.{U}
use Rattle.unification.specs.Ops.{Op, nodes}
use Rattle.walk.specs.Writer.{Row, Walk, W, done, glue, ◌>>=◌, unknown, power, problem}
use Rattle.walk.specs.Scripts.{scripted, perform, three, left, only, never_items, relational_scripts, simple_script}
use Rattle.walk.specs.Walk.{loose, each, declare, over, walk, walk_all, walk_pred, walk_preds}
use Rattle.forms.specs.Forms.{then}
use Rattle.machine.specs.Machine.{Mach, with_st, bound_of, list_of}
use Rattle.machine.specs.Types.{declare_of, times_of}
use Rattle.operators.specs.declared.Script.TheVariants as Sc
use Rattle.operators.specs.Operators.{check_relational_of}
use Rattle.walker.specs.Walk.{one_by, two_by, all_by, multiple_plan, application_plan, pred_quant_by, pred_body_by}
use Rattle.simulation.specs.Relation.{Runs}
use Rattle.simulation.specs.Bind.{runs_bind}
use Rattle.simulation.specs.Stand.{runs_map, runs_stand}
use Rattle.machine.specs.Still.{still_bound, still_within, still_times}
use Rattle.walker.specs.StillWalk.{Still}
use Rattle.simulation.specs.Steps.{told, nil_right, runs_same, runs_given, runs_told}
use Rattle.simulation.specs.Decls.{runs_declare}
use Rattle.simulation.specs.Perform.{relational-tied, simple-tied}
use Rattle.simulation.specs.Shapes.{Goes, runs_one, runs_two}
use Rattle.simulation.specs.Children.{AllGo}
use Rattle.simulation.specs.Gathers.{runs_multiple, runs_application}
use Rattle.simulation.specs.Bodies.{over-length, runs_close, stood, on-from, GoesP}

-- a piece whose result is let go, otherwise written
abbrev gone : ℕ → U
gone _ = tt

one_dropped : (A : W ℕ) (C : ℕ → W ℕ) (n : ℕ) (row : Row) → told gone (A >>= C) n row ≡ (A >>= λ x. C x >>= λ _. done {A = U} tt) n row
unfolding told ◌>>=◌ glue done
one_dropped A C n row =
    let a : Walk ℕ = A n row in
    let c : Walk ℕ = C a.result (n + nodes a.ops) a.row in
    ap₂ (λ (os : List Op) (ss : List (ℕ × ℕ)). record { ops = a.ops ++ os; result = tt; row = c.row; slots = a.slots ++ ss }) (sym (nil_right c.ops)) (sym (nil_right c.slots))

two_dropped : (A Z : W ℕ) (C : ℕ → ℕ → W ℕ) (n : ℕ) (row : Row) → told gone (A >>= λ x. Z >>= λ y. C x y) n row ≡ (A >>= λ x. Z >>= λ y. C x y >>= λ _. done {A = U} tt) n row
unfolding told ◌>>=◌ glue done
two_dropped A Z C n row =
    let a : Walk ℕ = A n row in
    let z : Walk ℕ = Z (n + nodes a.ops) a.row in
    let c : Walk ℕ = C a.result z.result (n + nodes a.ops + nodes z.ops) z.row in
    ap₂ (λ (os : List Op) (ss : List (ℕ × ℕ)). record { ops = a.ops ++ (z.ops ++ os); result = tt; row = c.row; slots = a.slots ++ (z.slots ++ ss) }) (sym (nil_right c.ops)) (sym (nil_right c.slots))

module _ (Γ : Env) (env : List ℕ) (cap room : ℕ) (wide : cap ≤ 32768) (brief : length env ≤ 65536) (s : List ℕ) (short : length s ≤ 65536) (most : ℕ) (few : most ≤ 256) where
  abbrev GoesPred : (Mach → Mach) → Pred → List ℕ → ℕ → Type 0
  GoesPred P q B p = GoesP Γ env cap room wide brief s short most few P q B p

  -- predicates in a row
  abbrev pub AllGoP : (Mach → Mach) → List ℕ → Preds → ℕ → Type 0
  AllGoP P B end p = Unit {0}
  AllGoP P B (also q qs) p = GoesPred P q B p × AllGoP P B qs (p + size_pred q)

  module _ (P : Mach → Mach) (stay_p : Still P) (B : List ℕ) where
    pub runs_preds : (qs : Preds) (p : ℕ) → AllGoP P B qs p → (m : Mach) → m.st.at.0 ≡ p → Runs Γ env cap room m (times_of P (preds qs) m) (walk_preds Γ qs B) B (λ _. B) (λ _ v. v.st.at.0 ≡ p + size_preds qs)
    unfolding walk_preds preds size_preds times_of
    runs_preds end p go m at0 =
        let z : m.st.at.0 ≡ p + 0 = omega arith in
        runs_stand Γ env cap room m m.st.at.0 m.st.from.0 m.st.last.0 tt B (λ _ v. v.st.at.0 ≡ p + 0) z
    runs_preds (also q qs) p go m at0 =
        let M1 : Mach = P m in
        runs_bind Γ env cap room m M1 (times_of P (preds qs) M1) (walk_pred Γ q B) (λ _. walk_preds Γ qs B) B (λ _. B) (λ _. B) (λ _ v. v.st.at.0 ≡ p + size_pred q) (λ _ v. v.st.at.0 ≡ p + (size_pred q + size_preds qs))
        (λ h. ap (λ (x : Mach). x.st.stop) (still_times P M1 (stay_p M1 h) (preds qs)))
        (λ _ c. runs_map Γ env cap room M1 (times_of P (preds qs) M1) (walk_preds Γ qs B) B (λ _. B) _ _ (λ _ y. y ∙ omega arith) (runs_preds qs (p + size_pred q) go.1 M1 c))
        (go.0 m at0)

  module _ (E P : Mach → Mach) (stays : Still E) (stay_p : Still P) (B : List ℕ) (p : ℕ) where
    abbrev Body : PredHead → W U → ℕ → Type 0
    Body h w n = (m : Mach) → m.st.at.0 ≡ p → Runs Γ env cap room m (pred_body_by E P s env h m) w B (λ _. B) (λ _ v. v.st.at.0 ≡ p + n)

    -- a head and nothing more
    leaf : (m m' : Mach) → m.st.at.0 ≡ p → m' ≡ stood (p + 1) m → Runs Γ env cap room m m' (done {A = U} tt) B (λ _. B) (λ _ v. v.st.at.0 ≡ p + 1)
    leaf m m' at0 is =
        let m1 : Mach = stood (p + 1) m in
        on-from Γ env cap room (p + 1) p (λ _ y. y) m m' (done {A = U} tt) B (λ _. B) (λ _ v. v.st.at.0 ≡ p + 1) at0 is
        (λ g a. runs_stand Γ env cap room m1 m1.st.at.0 m1.st.from.0 m1.st.last.0 tt B (λ _ v. v.st.at.0 ≡ p + 1) a)

    pub constant_body : Body (Constant (H.place (p + 1))) (done tt) 1
    unfolding pred_body_by then
    constant_body m at0 = leaf m _ at0 refl

    pub variable_body : Body (Variable (H.place (p + 1))) (done tt) 1
    unfolding pred_body_by then
    variable_body m at0 = leaf m _ at0 refl

    pub relational_body : (o : ℕ) (a b : Expr) → o < 12 → Goes Γ env cap room wide E a B (p + 2) → Goes Γ env cap room wide E b B (p + 2 + size a)
        → Body (Relational o (H.place (p + 2))) (walk Γ a B >>= λ x. walk Γ b B >>= λ y. perform (look relational_scripts never_items o) left (three 0 x y) (three p (place a) (place b)) >>= λ _. done tt) (2 + (size a + size b))
    unfolding pred_body_by then scripted
    relational_body o a b l ga gb m at0 =
        let m1 : Mach = stood (p + 2) m in
        let F : Mach = two_by E (check_relational_of o) p m1 in
        let C : ℕ → ℕ → W ℕ = (λ x y. perform (look relational_scripts never_items o) left (three 0 x y) (three p (place a) (place b))) in
        on-from Γ env cap room (p + 2) p (two_by E (check_relational_of o)) m _ _ B (λ _. B) (λ _ v. v.st.at.0 ≡ p + (2 + (size a + size b))) at0 refl
        (λ g a1. runs_same Γ env cap room m1 F (told gone (walk Γ a B >>= λ x. walk Γ b B >>= λ y. C x y)) (walk Γ a B >>= λ x. walk Γ b B >>= λ y. C x y >>= λ _. done tt) B (λ _. B) _ (two_dropped (walk Γ a B) (walk Γ b B) C)
        (runs_told Γ env cap room m1 F gone (walk Γ a B >>= λ x. walk Γ b B >>= λ y. C x y) B B _ _ (λ r y. y.0 ∙ omega arith)
        (runs_two Γ env cap room wide E stays B a b (p + 2) ga gb (check_relational_of o) (scripted (look relational_scripts never_items o) left) p (relational-tied o l) m1 a1)))

    pub connective_body : (a b : Pred) → GoesPred P a B (p + 1) → GoesPred P b B (p + 1 + size_pred a) → Body (Connective (H.place (p + 1))) (walk_pred Γ a B >>= λ _. walk_pred Γ b B) (1 + (size_pred a + size_pred b))
    unfolding pred_body_by times_of then
    connective_body a b ga gb m at0 =
        let m1 : Mach = stood (p + 1) m in
        let M1 : Mach = P m1 in
        let F : Mach = P M1 in
        on-from Γ env cap room (p + 1) p (λ _ y. P (P y)) m _ (walk_pred Γ a B >>= λ _. walk_pred Γ b B) B (λ _. B) (λ _ v. v.st.at.0 ≡ p + (1 + (size_pred a + size_pred b))) at0 refl
        (λ g a1. runs_bind Γ env cap room m1 M1 F (walk_pred Γ a B) (λ _. walk_pred Γ b B) B (λ _. B) (λ _. B) (λ _ v. v.st.at.0 ≡ p + 1 + size_pred a) (λ _ v. v.st.at.0 ≡ p + (1 + (size_pred a + size_pred b)))
        (λ h. ap (λ (x : Mach). x.st.stop) (stay_p M1 h))
        (λ _ c. runs_map Γ env cap room M1 F (walk_pred Γ b B) B (λ _. B) _ _ (λ _ y. y ∙ omega arith) (gb M1 c))
        (ga m1 a1))

    pub junction_body : (qs : Preds) → AllGoP P B qs (p + 3) → Body (Junction (preds qs) (H.place (p + 3))) (walk_preds Γ qs B) (3 + size_preds qs)
    unfolding pred_body_by then
    junction_body qs go m at0 =
        let m1 : Mach = stood (p + 3) m in
        on-from Γ env cap room (p + 3) p (λ _. times_of P (preds qs)) m _ (walk_preds Γ qs B) B (λ _. B) (λ _ v. v.st.at.0 ≡ p + (3 + size_preds qs)) at0 refl
        (λ g a1. runs_map Γ env cap room m1 (times_of P (preds qs) m1) (walk_preds Γ qs B) B (λ _. B) _ _ (λ _ y. y ∙ omega arith) (runs_preds P stay_p B qs (p + 3) go m1 a1))

    pub negation_body : (a : Pred) → GoesPred P a B (p + 1) → Body (Negation (H.place (p + 1))) (walk_pred Γ a B) (1 + size_pred a)
    unfolding pred_body_by then
    negation_body a ga m at0 =
        let m1 : Mach = stood (p + 1) m in
        on-from Γ env cap room (p + 1) p (λ _. P) m _ (walk_pred Γ a B) B (λ _. B) (λ _ v. v.st.at.0 ≡ p + (1 + size_pred a)) at0 refl
        (λ g a1. runs_map Γ env cap room m1 (P m1) (walk_pred Γ a B) B (λ _. B) _ _ (λ _ y. y ∙ omega arith) (ga m1 a1))

    pub quantification_body : (d : ℕ) (ds : List Decl) (c : Pred) (rest : List ℕ) → length B + decls ds ≤ 64 → FitsDecls most d ds → PlacedDecls (p + 2) ds
        → ((D : List ℕ) → length D ≡ length B + decls ds → GoesPred P c D (p + 2 + size_decls ds)) → drop (p + 2) s ≡ spell_decls ds ++ rest
        → Body (Quantification (decls ds) (H.place (p + 2))) (declare Γ ds >>= λ xs. walk_pred Γ c (over xs B)) (2 + (size_decls ds + size_pred c))
    unfolding pred_body_by pred_quant_by then
    quantification_body d ds c rest fit fits placed go e m at0 =
        let m1 : Mach = stood (p + 2) m in
        let A1 : Mach = declare_of s env (decls ds) m1 in
        let A2 : Mach = P A1 in
        let close : Mach → Mach = (λ (y : Mach). with_st (bound_of m.st.bound y.st) y) in
        let F : Mach = close A2 in
        let N : ℕ = p + (2 + (size_decls ds + size_pred c)) in
        runs_given Γ env cap room m _ _ B (λ _. B) _ (λ bn row st o. (
        let bd = o.bound in
        on-from Γ env cap room (p + 2) p (λ _ y. close (P (declare_of s env (decls ds) y))) m _ (declare Γ ds >>= λ xs. walk_pred Γ c (over xs B)) B (λ _. B) (λ _ v. v.st.at.0 ≡ N) at0 refl
        (λ g a1. runs_bind Γ env cap room m1 A1 F (declare Γ ds) (λ xs. walk_pred Γ c (over xs B)) B (λ xs. over xs B) (λ _. B)
        (λ xs v. (v.st.at.0 ≡ m1.st.at.0 + size_decls ds) × (length xs ≡ decls ds)) (λ _ v. v.st.at.0 ≡ N)
        (λ h. ap (λ (y : Mach). y.st.stop) (ap close (stay_p A1 h) ∙ still_within (bound_of m.st.bound) A1 (still_bound m.st.bound A1.st h)))
        (λ xs k. (
        let D : List ℕ = over xs B in
        let k0 = k.0 in
        let gs = go D (over-length xs B ∙ ap (λ (j : ℕ). length B + j) k.1) in
        runs_close Γ env cap room A1 A2 xs B m.st.bound bd (λ _ v. v.st.at.0 ≡ N) (λ _ y. y) (walk_pred Γ c D) D
        (runs_map Γ env cap room A1 A2 (walk_pred Γ c D) D (λ _. D) _ _ (λ _ y. y ∙ omega arith) (gs A1 (omega arith)))))
        (runs_declare Γ env cap room wide brief s short most few ds d m1 B rest fit fits (subst (λ (j : ℕ). PlacedDecls j ds) (sym a1) placed) (ap (λ (j : ℕ). drop j s) a1 ∙ e)))))

    pub simple_body : (a : Expr) → Goes Γ env cap room wide E a B (p + 1)
        → Body (Simple (H.place (p + 1))) (walk Γ a B >>= λ x. perform simple_script only (three 0 x 0) (three p (place a) 0) >>= λ _. done tt) (1 + size a)
    unfolding pred_body_by then scripted
    simple_body a ga m at0 =
        let m1 : Mach = stood (p + 1) m in
        let F : Mach = one_by E Sc.Finite p m1 in
        let C : ℕ → W ℕ = (λ x. perform simple_script only (three 0 x 0) (three p (place a) 0)) in
        on-from Γ env cap room (p + 1) p (one_by E Sc.Finite) m _ _ B (λ _. B) (λ _ v. v.st.at.0 ≡ p + (1 + size a)) at0 refl
        (λ g a1. runs_same Γ env cap room m1 F (told gone (walk Γ a B >>= C)) (walk Γ a B >>= λ x. C x >>= λ _. done tt) B (λ _. B) _ (one_dropped (walk Γ a B) C)
        (runs_told Γ env cap room m1 F gone (walk Γ a B >>= C) B B _ _ (λ r y. y.0 ∙ omega arith)
        (runs_one Γ env cap room wide E stays B a (p + 1) ga Sc.Finite (scripted simple_script only) p simple-tied m1 a1)))

    pub multiple_body : (es : Exprs) → AllGo Γ env cap room wide E stays B es (p + 3)
        → Body (Multiple (exprs es) (H.place (p + 3))) (unknown >>= λ x. power x >>= λ z. walk_all Γ es (each z) B >>= λ _. done tt) (3 + size_all es)
    unfolding pred_body_by then
    multiple_body es go m at0 =
        let m1 : Mach = stood (p + 3) m in
        on-from Γ env cap room (p + 3) p (λ _. all_by E multiple_plan (exprs es)) m _ (unknown >>= λ x. power x >>= λ z. walk_all Γ es (each z) B >>= λ _. done tt) B (λ _. B) (λ _ v. v.st.at.0 ≡ p + (3 + size_all es)) at0 refl
        (λ g a1. runs_map Γ env cap room m1 (all_by E multiple_plan (exprs es) m1) _ B (λ _. B) _ _ (λ _ y. y ∙ omega arith) (runs_multiple Γ env cap room wide E stays B es (p + 3) go m1 a1))

    pub application_body : (es : Exprs) → AllGo Γ env cap room wide E stays B es (p + 3)
        → Body (Application (exprs es) (H.place (p + 3))) (walk_all Γ es loose B >>= λ _. problem 5 p) (3 + size_all es)
    unfolding pred_body_by then
    application_body es go m at0 =
        let m1 : Mach = stood (p + 3) m in
        on-from Γ env cap room (p + 3) p (λ k y. list_of 5 k 0xFFFF (all_by E application_plan (exprs es) y)) m _ (walk_all Γ es loose B >>= λ _. problem 5 p) B (λ _. B) (λ _ v. v.st.at.0 ≡ p + (3 + size_all es)) at0 refl
        (λ g a1. runs_map Γ env cap room m1 (list_of 5 p 0xFFFF (all_by E application_plan (exprs es) m1)) _ B (λ _. B) _ _ (λ _ y. y ∙ omega arith) (runs_application Γ env cap room wide E stays B es (p + 3) go m1 a1 p))
