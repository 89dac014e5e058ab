-- The rules of expressions, kind by kind, for any walks one level below: where a record has a head, its rule runs the walk's piece.
-- After this file an expression's rule is known from its children's.
use Prim.Native.Nat.{ℕ, ◌+◌, ◌≤◌, ◌<◌}
use Rattle.std.specs.Prelude.{◌≡◌, eqb}
use Rattle.std.proofs.Math.Path.{refl, sym, ap}
use Rattle.std.proofs.Common.{◌∙◌, subst, eq-eqb}
use mathlib.Core.List.{List, [], ◌∷◌, ◌++◌}
use native.Mathlib.Omega.{arith}
use Rattle.std.proofs.Math.ListN.{length, drop}
use Rattle.meter.specs.Meter.{Out, spent, halt, broken, full}
use Rattle.meter.specs.Meter as Mt
use Rattle.types.specs.Ty as T
use Rattle.types.specs.Ty.{Ty}
use Rattle.types.specs.Limits.{levels}
use Rattle.heads.specs.declared.ExprHead.{ExprHead}
use Rattle.heads.specs.declared.ExprHead.TheVariants.{Free, Bound, Literal, Atomic, Extension, Truth, Binary, Associative, Unary, Quantified, Ascribed}
use Rattle.heads.specs.Heads as H
use Rattle.formula.specs.Environment.{Env}
use Rattle.formula.specs.Tree.{Spelling, Decl, Expr, Exprs, Pred, place, decls, exprs}
use Rattle.formula.specs.Spell.{spell_spelling, spell_decls, size, size_all, size_pred, size_spelling, size_decls, size_ty, PlacedDecls}
use Rattle.formula_laws.specs.Fits.{FitsTy, FitsSpelling, FitsDecls}
use Rattle.formula_laws.specs.Sizes.{length_ty, length_spelling}
use Rattle.typing.specs.Equations.{look}
use Rattle.unification.specs.Arena.{U}
use Rattle.unification.specs.Ops.{Bench, exec}
use Rattle.unification.specs.Make.{builds_boolean, builds_integer}
use Rattle.walk.specs.Writer.{Walk, W, done, ◌>>=◌, unknown, boolean, integer, power}
use Rattle.walk.specs.Scripts.{Script, perform, three, never_script, atomic_scripts, binary_scripts, unary_scripts, quantified_scripts, no_script, associative_scripts}
use Rattle.walk.specs.Walk.{each, gather, counted, name, meets, ascription, declare, over, script_of, walk, walk_all, walk_pred}
use Rattle.machine.specs.State.{State}
use Rattle.forms.specs.Forms.{then}
use Rattle.machine.specs.Machine.{Mach, with_st, placed_of, gave_of, bound_of, make_of}
use Rattle.machine.specs.Types.{skip_of, free_of, bound_identifier_of, meets_of, ascription_of, declare_of}
use Rattle.operators.specs.declared.Script as MS
use Rattle.operators.specs.Operators.{check_atomic_of, check_binary_of, check_unary_of, check_quantified_of, check_associative_of}
use Rattle.machine.specs.Scripts.{parts_of, play_of}
use Rattle.walker.specs.Walk.{one_by, two_by, all_by, extension_plan, quant_by, ascribed_by, typed_by, body_by}
use Rattle.simulation.specs.Relation.{Opened, Ended, Runs}
use Rattle.simulation.specs.Bind.{runs_bind}
use Rattle.simulation.specs.Stand.{standing, placed_eq, gave_eq, runs_if, runs_map, runs_stand}
use Rattle.machine.specs.Still.{test_yes, still_make, still_ascription, still_gave, still_placed, still_meets, still_bound, still_within}
use Rattle.walker.specs.StillWalk.{Still, still_one}
use Rattle.simulation.specs.Steps.{runs_given, runs_after}
use Rattle.simulation.specs.Nodes.{Came, Gave, Stood, runs_make}
use Rattle.simulation.specs.Names.{runs_free, runs_identifier}
use Rattle.simulation.specs.Stream.{skip_eq, runs_meets}
use Rattle.simulation.specs.Decls.{fits-deep, fits_below, runs_ascription, runs_declare}
use Rattle.simulation.specs.Perform.{atomic-tied, binary-tied, unary-tied, quantified-tied, associative-planned, three_chosen, three-placed, runs_perform}
use Rattle.simulation.specs.Shapes.{Goes, runs_one, runs_two, parts-base}
use Rattle.simulation.specs.Children.{AllGo}
use Rattle.simulation.specs.Gathers.{runs_gather, runs_extension}

-- ---- declarations closed
pub over-length : (xs B : List ℕ) → length (over xs B) ≡ length B + length xs
unfolding over
over-length [] B = omega arith
over-length (x ∷ xs) B = over-length xs (x ∷ B) ∙ omega arith

module _ (Γ : Env) (env : List ℕ) (cap room : ℕ) where
  over-opened : (c xs B : List ℕ) → Opened Γ env cap room c (over xs B) → Opened Γ env cap room c B
  unfolding over
  over-opened c [] B h = h
  over-opened c (x ∷ xs) B h = (over-opened c xs (x ∷ B) h).1

  abbrev pub closed : ℕ → Mach → Mach
  closed k m = record {
    st = record { at = m.st.at; from = m.st.from; last = m.st.last; nodes = m.st.nodes; budget = m.st.budget; slots = m.st.slots; met = m.st.met; bound = k; bytes = m.st.bytes; over = m.st.over; stop = m.st.stop };
    arena = m.arena;
    book = m.book;
    out = m.out;
  }

  module _ {A : Type 0} (m m1 : Mach) (xs B : List ℕ) (k : ℕ) (is : k ≡ length B) (Q : A → Mach → Type 0) (keeps : (a : A) → Q a m1 → Q a (closed k m1)) where
    pub close_eq : m1.st.stop ≡ 0 → with_st (bound_of k m1.st) m1 ≡ closed k m1
    unfolding bound_of
    close_eq e = ap (λ (v : State). with_st v m1) (test_yes (eqb m1.st.stop 0) _ _ (eq-eqb m1.st.stop 0 e))

    close_ended : (x : Walk A) (o : Out U Bench) → Ended Γ env cap room m m1 x (over xs B) Q o → Ended Γ env cap room m (with_st (bound_of k m1.st) m1) x B Q o
    close_ended x (Mt.done b t) h =
        let s = h.0 in
        let c = h.1 in
        let n = over-length xs B in
        let w = c.shallow in
        subst (λ (y : Mach). Ended Γ env cap room m y x B Q (Mt.done b t)) (sym (close_eq s.going)) (
          record { going = s.going; count = s.count; words = s.words; sized = s.sized; counted = s.counted; ready = s.ready; wrote = s.wrote },
          record { long = c.long; refs = c.refs; met = c.met; spare = c.spare; rows = c.rows; bound = is; shallow = omega arith; opened = over-opened m1.book xs B c.opened; entries = c.entries },
          h.2,
          record { taken = h.3.taken; filled = h.3.filled; kept = h.3.kept },
          keeps x.result h.4,
        )
    close_ended x (spent e) h = ap (λ (v : State). v.stop) (still_bound k m1.st (λ c. (let z : ◌≡◌ {A = ℕ} 0 7 = sym c ∙ h in omega arith))) ∙ h
    close_ended x (halt full e) h = ap (λ (v : State). v.stop) (still_bound k m1.st (λ c. (let z : ◌≡◌ {A = ℕ} 0 6 = sym c ∙ h in omega arith))) ∙ h
    close_ended x (halt broken e) h = absurd h

    pub runs_close : (w : W A) (D : List ℕ) → Runs Γ env cap room m m1 w D (λ _. over xs B) Q → Runs Γ env cap room m (with_st (bound_of k m1.st) m1) w D (λ _. B) Q
    runs_close w D h = record { ends = λ b row s o q l. close_ended (w b.count row) (exec cap (w b.count row).ops b m.st.budget) (h.ends b row s o q l) }

-- ---- the rule of each kind, by its head

-- the machine at a place
abbrev pub stood : ℕ → Mach → Mach
stood q m = with_st (placed_of q m.st) m

stood-at : (q : ℕ) (m : Mach) → m.st.stop ≡ 0 → stood q m ≡ with_st (standing q m.st.from.0 m.st.last.0 m.st) m
stood-at q m e = ap (λ (v : State). with_st v m) (placed_eq q m.st e)

module _ (Γ : Env) (env : List ℕ) (cap room : ℕ) where
  -- what goes on at q behind the head of a record at p
  pub on-from : {A : Type 0} (q p : ℕ) (G : ℕ → Mach → Mach) (m m' : Mach) (w : W A) (B : List ℕ) (B' : A → List ℕ) (Q : A → Mach → Type 0) → m.st.at.0 ≡ p → m' ≡ G m.st.at.0 (stood q m)
      → (m.st.stop ≡ 0 → (stood q m).st.at.0 ≡ q → Runs Γ env cap room (stood q m) (G p (stood q m)) w B B' Q) → Runs Γ env cap room m m' w B B' Q
  on-from q p G m m' w B B' Q at0 is h =
      runs_if Γ env cap room m m' (G p (stood q m)) w B B' Q (λ g. is ∙ ap (λ (k : ℕ). G k (stood q m)) at0)
      (runs_after Γ env cap room m (stood q m) (G p (stood q m)) q m.st.from.0 m.st.last.0 w B B' Q (λ g. stood-at q m g) (λ g. h g (ap (λ (x : Mach). x.st.at.0) (stood-at q m g))))

module _ (Γ : Env) (env : List ℕ) (cap room : ℕ) (wide : cap ≤ 32768) (brief : length env ≤ 65536) (s : List ℕ) (short : length s ≤ 65536) (most : ℕ) (few : most ≤ 256) where
  -- a predicate's walk at p
  abbrev pub GoesP : (Mach → Mach) → Pred → List ℕ → ℕ → Type 0
  GoesP P q B p = (m : Mach) → m.st.at.0 ≡ p → Runs Γ env cap room m (P m) (walk_pred Γ q B) B (λ _. B) (λ _ v. v.st.at.0 ≡ p + size_pred q)

  module _ (E P : Mach → Mach) (stays : Still E) (stay_p : Still P) (B : List ℕ) (p : ℕ) where
    abbrev Body : ExprHead → W ℕ → ℕ → Type 0
    Body h w n = (m : Mach) → m.st.at.0 ≡ p → Runs Γ env cap room m (body_by E P s env h m) w B (λ _. B) (λ r v. Gave (p + n) r v)

    pub free_body : (x : ℕ) → x < 256 → Body (Free (H.name x) (H.place (p + 3))) (name Γ x p) 3
    unfolding body_by then
    free_body x l m at0 =
        let m1 : Mach = stood (p + 3) m in
        on-from Γ env cap room (p + 3) p (free_of env x) m _ (name Γ x p) B (λ _. B) (λ r v. Gave (p + 3) r v) at0 refl
        (λ g a. runs_map Γ env cap room m1 (free_of env x p m1) (name Γ x p) B (λ _. B) _ _ (λ r y. (y.0 ∙ a, y.2)) (runs_free Γ env cap room wide brief x p m1 B l))

    pub bound_body : (i : ℕ) → Body (Bound i (H.place (p + 3))) (counted B i p) 3
    unfolding body_by then
    bound_body i m at0 =
        let m1 : Mach = stood (p + 3) m in
        on-from Γ env cap room (p + 3) p (bound_identifier_of i) m _ (counted B i p) B (λ _. B) (λ r v. Gave (p + 3) r v) at0 refl
        (λ g a. runs_map Γ env cap room m1 (bound_identifier_of i p m1) (counted B i p) B (λ _. B) _ _ (λ r y. (y.0 ∙ a, y.2)) (runs_identifier Γ env cap room wide brief i p m1 B))

    pub literal_body : Body (Literal (H.place (p + 1))) integer 1
    unfolding body_by then
    literal_body m at0 =
        let m1 : Mach = stood (p + 1) m in
        on-from Γ env cap room (p + 1) p (λ _. make_of 0x41 0 0) m _ integer B (λ _. B) (λ r v. Gave (p + 1) r v) at0 refl
        (λ g a. runs_map Γ env cap room m1 (make_of 0x41 0 0 m1) integer B (λ _. B) _ _ (λ r y. (y.0 ∙ a, y.2)) (runs_make Γ env cap room wide 0x41 0 0 m1 builds_integer B))

    pub atomic_body : (o : ℕ) → o < 12 → Body (Atomic o (H.place (p + 2))) (script_of Γ (look atomic_scripts never_script o) (three 0 0 0) (three p p p)) 2
    unfolding body_by then script_of
    atomic_body o l m at0 =
        let sc : Script = look atomic_scripts never_script o in
        let m1 : Mach = stood (p + 2) m in
        let z = parts_of 0 p 0 p p m.st in
        on-from Γ env cap room (p + 2) p (λ k. play_of (check_atomic_of o) (parts_of 0 k 0 k k m.st)) m _ (perform sc.items sc.gives (three 0 0 0) (three p p p)) B (λ _. B) (λ r v. Gave (p + 2) r v) at0 refl
        (λ g a. runs_map Γ env cap room m1 (play_of (check_atomic_of o) z m1) (perform sc.items sc.gives (three 0 0 0) (three p p p)) B (λ _. B) _ _ (λ r y. (y.0 ∙ a, y.2))
        (runs_perform Γ env cap room wide (check_atomic_of o) sc z (three 0 0 0) (three p p p) 3 m1 B (atomic-tied o l) (parts-base 0 p 0 p p m.st ∙ sym (ap (λ (x : Mach). x.st.nodes) (stood-at (p + 2) m g)))
        (three_chosen 0 p 0 p p m.st) (three-placed 0 p 0 p p m.st)))

    pub extension_body : (es : Exprs) → AllGo Γ env cap room wide E stays B es (p + 3) → Body (Extension (exprs es) (H.place (p + 3))) (unknown >>= λ x. walk_all Γ es (each x) B >>= λ _. power x) (3 + size_all es)
    unfolding body_by then
    extension_body es go m at0 =
        let m1 : Mach = stood (p + 3) m in
        on-from Γ env cap room (p + 3) p (λ _. all_by E extension_plan (exprs es)) m _ (unknown >>= λ x. walk_all Γ es (each x) B >>= λ _. power x) B (λ _. B) (λ r v. Gave (p + (3 + size_all es)) r v) at0 refl
        (λ g a. runs_map Γ env cap room m1 (all_by E extension_plan (exprs es) m1) _ B (λ _. B) _ _ (λ r y. (y.0 ∙ omega arith, y.1)) (runs_extension Γ env cap room wide E stays B es (p + 3) go m1 a))

    pub truth_body : (c : Pred) → GoesP P c B (p + 1) → Body (Truth (H.place (p + 1))) (walk_pred Γ c B >>= λ _. boolean) (1 + size_pred c)
    unfolding body_by then
    truth_body c go m at0 =
        let m1 : Mach = stood (p + 1) m in
        let M1 : Mach = P m1 in
        let F : Mach = make_of 0x40 0 0 M1 in
        on-from Γ env cap room (p + 1) p (λ _ y. make_of 0x40 0 0 (P y)) m _ (walk_pred Γ c B >>= λ _. boolean) B (λ _. B) (λ r v. Gave (p + (1 + size_pred c)) r v) at0 refl
        (λ g a. runs_bind Γ env cap room m1 M1 F (walk_pred Γ c B) (λ _. boolean) B (λ _. B) (λ _. B) (λ _ v. v.st.at.0 ≡ p + 1 + size_pred c) (λ r v. Gave (p + (1 + size_pred c)) r v)
        (λ h. ap (λ (x : Mach). x.st.stop) (still_make 0x40 0 0 M1 h))
        (λ _ k. runs_map Γ env cap room M1 F boolean B (λ _. B) _ _ (λ r y. (y.0 ∙ omega arith, y.2)) (runs_make Γ env cap room wide 0x40 0 0 M1 builds_boolean B))
        (go m1 a))

    pub binary_body : (o : ℕ) (a b : Expr) → o < 27 → Goes Γ env cap room wide E a B (p + 2) → Goes Γ env cap room wide E b B (p + 2 + size a)
        → Body (Binary o (H.place (p + 2))) (walk Γ a B >>= λ x. walk Γ b B >>= λ y. script_of Γ (look binary_scripts never_script o) (three 0 x y) (three p (place a) (place b))) (2 + (size a + size b))
    unfolding body_by then script_of
    binary_body o a b l ga gb m at0 =
        let m1 : Mach = stood (p + 2) m in
        on-from Γ env cap room (p + 2) p (two_by E (check_binary_of o)) m _ _ B (λ _. B) (λ r v. Gave (p + (2 + (size a + size b))) r v) at0 refl
        (λ g a1. runs_map Γ env cap room m1 (two_by E (check_binary_of o) p m1) _ B (λ _. B) _ _ (λ r y. (y.0 ∙ omega arith, y.1)) (runs_two Γ env cap room wide E stays B a b (p + 2) ga gb (check_binary_of o) (look binary_scripts never_script o) p (binary-tied o l) m1 a1))

    pub associative_body : (o : ℕ) (es : Exprs) → o < 7 → AllGo Γ env cap room wide E stays B es (p + 4)
        → Body (Associative o (exprs es) (H.place (p + 4))) (gather (look associative_scripts no_script o) (λ mo. walk_all Γ es mo B)) (4 + size_all es)
    unfolding body_by then
    associative_body o es l go m at0 =
        let m1 : Mach = stood (p + 4) m in
        on-from Γ env cap room (p + 4) p (λ _. all_by E (check_associative_of o) (exprs es)) m _ (gather (look associative_scripts no_script o) (λ mo. walk_all Γ es mo B)) B (λ _. B) (λ r v. Gave (p + (4 + size_all es)) r v) at0 refl
        (λ g a. runs_map Γ env cap room m1 (all_by E (check_associative_of o) (exprs es) m1) _ B (λ _. B) _ _ (λ r y. (y.0 ∙ omega arith, y.1)) (runs_gather Γ env cap room wide E stays B es (p + 4) go m1 a (look associative_scripts no_script o) (check_associative_of o) (associative-planned o l)))

    pub unary_body : (o : ℕ) (a : Expr) → o < 11 → Goes Γ env cap room wide E a B (p + 2)
        → Body (Unary o (H.place (p + 2))) (walk Γ a B >>= λ x. script_of Γ (look unary_scripts never_script o) (three 0 x 0) (three p (place a) 0)) (2 + size a)
    unfolding body_by then script_of
    unary_body o a l ga m at0 =
        let m1 : Mach = stood (p + 2) m in
        on-from Γ env cap room (p + 2) p (one_by E (check_unary_of o)) m _ _ B (λ _. B) (λ r v. Gave (p + (2 + size a)) r v) at0 refl
        (λ g a1. runs_map Γ env cap room m1 (one_by E (check_unary_of o) p m1) _ B (λ _. B) _ _ (λ r y. (y.0 ∙ omega arith, y.1)) (runs_one Γ env cap room wide E stays B a (p + 2) ga (check_unary_of o) (look unary_scripts never_script o) p (unary-tied o l) m1 a1))

    pub quantified_body : (o d : ℕ) (ds : List Decl) (c : Pred) (a : Expr) (rest : List ℕ) → o < 3 → length B + decls ds ≤ 64 → FitsDecls most d ds → PlacedDecls (p + 3) ds
        → ((D : List ℕ) → length D ≡ length B + decls ds → GoesP P c D (p + 3 + size_decls ds) × Goes Γ env cap room wide E a D (p + 3 + size_decls ds + size_pred c))
        → drop (p + 3) s ≡ spell_decls ds ++ rest
        → Body (Quantified o (decls ds) (H.place (p + 3))) (declare Γ ds >>= λ xs. walk_pred Γ c (over xs B) >>= λ _. walk Γ a (over xs B) >>= λ x. script_of Γ (look quantified_scripts never_script o) (three 0 x 0) (three p (place a) 0)) (3 + (size_decls ds + (size_pred c + size a)))
    unfolding body_by quant_by then script_of
    quantified_body o d ds c a rest l fit fits placed go e m at0 =
        let sc : Script = look quantified_scripts never_script o in
        let n : MS.Script = check_quantified_of o in
        let m1 : Mach = stood (p + 3) m in
        let A1 : Mach = declare_of s env (decls ds) m1 in
        let A2 : Mach = P A1 in
        let A3 : Mach = one_by E n p A2 in
        let F : Mach = with_st (bound_of m.st.bound A3.st) A3 in
        let N : ℕ = p + (3 + (size_decls ds + (size_pred c + size a))) in
        let close : Mach → Mach = (λ (y : Mach). with_st (bound_of m.st.bound y.st) y) in
        runs_given Γ env cap room m _ _ B (λ _. B) _ (λ bn row st bk. (
        let bd = bk.bound in
        on-from Γ env cap room (p + 3) p (λ k y. close (one_by E n k (P (declare_of s env (decls ds) y)))) m _ _ B (λ _. B) (λ r v. Gave N r v) at0 refl
        (λ g a1. runs_bind Γ env cap room m1 A1 F (declare Γ ds) (λ xs. walk_pred Γ c (over xs B) >>= λ _. walk Γ a (over xs B) >>= λ x. perform sc.items sc.gives (three 0 x 0) (three p (place a) 0)) B (λ xs. over xs B) (λ _. B)
        (λ xs v. (v.st.at.0 ≡ m1.st.at.0 + size_decls ds) × (length xs ≡ decls ds)) (λ r v. Gave N r v)
        (λ h. ap (λ (y : Mach). y.st.stop) (ap (λ (y : Mach). close (one_by E n p y)) (stay_p A1 h) ∙ ap close (still_one E stays n p A1 h) ∙ still_within (bound_of m.st.bound) A1 (still_bound m.st.bound A1.st h)))
        (λ xs k. (
        let D : List ℕ = over xs B in
        let k0 = k.0 in
        let gs = go D (over-length xs B ∙ ap (λ (j : ℕ). length B + j) k.1) in
        runs_bind Γ env cap room A1 A2 F (walk_pred Γ c D) (λ _. walk Γ a D >>= λ x. perform sc.items sc.gives (three 0 x 0) (three p (place a) 0)) D (λ _. D) (λ _. B) (λ _ v. v.st.at.0 ≡ p + 3 + size_decls ds + size_pred c) (λ r v. Gave N r v)
        (λ h. ap (λ (y : Mach). y.st.stop) (ap close (still_one E stays n p A2 h) ∙ still_within (bound_of m.st.bound) A2 (still_bound m.st.bound A2.st h)))
        (λ _ k2. runs_close Γ env cap room A2 A3 xs B m.st.bound bd (λ r v. Gave N r v) (λ _ y. y) (walk Γ a D >>= λ x. perform sc.items sc.gives (three 0 x 0) (three p (place a) 0)) D
        (runs_map Γ env cap room A2 A3 _ D (λ _. D) _ _ (λ r y. (y.0 ∙ omega arith, y.1)) (runs_one Γ env cap room wide E stays D a (p + 3 + size_decls ds + size_pred c) gs.1 n sc p (quantified-tied o l) A2 k2)))
        (gs.0 A1 (omega arith))))
        (runs_declare Γ env cap room wide brief s short most few ds d m1 B rest fit fits (subst (λ (j : ℕ). PlacedDecls j ds) (sym a1) placed) (ap (λ (j : ℕ). drop j s) a1 ∙ e)))))

    pub ascribed_body : (d : ℕ) (a : Expr) (r : ℕ) (z : Spelling) (rest : List ℕ) → Goes Γ env cap room wide E a B (p + 1) → r ≡ p + 1 + size a → FitsSpelling most d z
        → drop (p + 1 + size a) s ≡ spell_spelling z ++ rest → Body (Ascribed (H.place (p + 1))) (walk Γ a B >>= λ x. ascription Γ z x r p >>= λ _. done x) (1 + (size a + size_spelling z))
    unfolding body_by ascribed_by then
    ascribed_body d a r z rest ga w fits e m at0 =
        let m1 : Mach = stood (p + 1) m in
        let A1 : Mach = E m1 in
        let A2 : Mach = ascription_of s env A1.st.last.0 p A1 in
        let F : Mach = with_st (gave_of A1.st.last.0 A2.st) A2 in
        let N : ℕ = p + (1 + (size a + size_spelling z)) in
        let ls = length_spelling z in
        on-from Γ env cap room (p + 1) p (λ k y. with_st (gave_of (E y).st.last.0 (ascription_of s env (E y).st.last.0 k (E y)).st) (ascription_of s env (E y).st.last.0 k (E y))) m _ _ B (λ _. B) (λ x v. Gave N x v) at0 refl
        (λ g a1. runs_bind Γ env cap room m1 A1 F (walk Γ a B) (λ x. ascription Γ z x r p >>= λ _. done x) B (λ _. B) (λ _. B) (λ x v. Came (p + 1 + size a) (place a) x v) (λ x v. Gave N x v)
        (λ h. ap (λ (y : Mach). y.st.stop) (ap (λ (y : Mach). with_st (gave_of A1.st.last.0 y.st) y) (still_ascription s env A1.st.last.0 p A1 h) ∙ still_within (gave_of A1.st.last.0) A1 (still_gave A1.st.last.0 A1.st h)))
        (λ x k. (
        let k0 = k.0 in
        let rr : A1.st.at.0 ≡ r = k.0 ∙ sym w in
        runs_bind Γ env cap room A1 A2 F (ascription Γ z x r p) (λ _. done x) B (λ _. B) (λ _. B) (λ _ v. v.st.at.0 ≡ N) (λ y v. Gave N y v)
        (λ h. ap (λ (v : State). v.stop) (still_gave A1.st.last.0 A2.st h))
        (λ _ k2. runs_if Γ env cap room A2 F (with_st (standing A2.st.at.0 A2.st.from.0 A1.st.last.0 A2.st) A2) (done x) B (λ _. B) _ (λ h. ap (λ (v : State). with_st v A2) (gave_eq A1.st.last.0 A2.st h))
        (runs_stand Γ env cap room A2 A2.st.at.0 A2.st.from.0 A1.st.last.0 x B (λ y v. Gave N y v) (k2, k.2)))
        (runs_map Γ env cap room A1 A2 (ascription Γ z x r p) B (λ _. B) _ _ (λ _ y. y.0 ∙ omega arith)
        (subst (λ (j : ℕ). Runs Γ env cap room A1 A2 (ascription Γ z x j p) B (λ _. B) (λ _ v. Stood {A = U} (A1.st.at.0 + length (spell_spelling z)) A1.st.from.0 tt v)) rr
        (subst (λ (j : ℕ). Runs Γ env cap room A1 (ascription_of s env j p A1) (ascription Γ z x A1.st.at.0 p) B (λ _. B) (λ _ v. Stood {A = U} (A1.st.at.0 + length (spell_spelling z)) A1.st.from.0 tt v)) (sym k.2)
        (runs_ascription Γ env cap room wide brief s short most few z d x p A1 B rest fits (ap (λ (j : ℕ). drop j s) k.0 ∙ e)))))))
        (ga m1 a1))

    -- 0C: past the type, the expression, then back to the type
    pub explicit_body : (d : ℕ) (t : Ty) (a : Expr) (rest : List ℕ) → FitsTy most d t → Goes Γ env cap room wide E a B (p + 1 + size_ty t) → drop (p + 1) s ≡ T.spell t ++ rest
        → (m : Mach) → Runs Γ env cap room m (typed_by E s (H.place (p + 1)) m) (walk Γ a B >>= λ x. meets Γ t x (place a) >>= λ _. done x) B (λ _. B) (λ x v. Came (p + (1 + (size_ty t + size a))) (place a) x v)
    unfolding typed_by then
    explicit_body d t a rest fits ga e m =
        let lt = length_ty t in
        let m1 : Mach = with_st (skip_of levels s (placed_of (p + 1) m.st)) m in
        let A1 : Mach = E m1 in
        let A2 : Mach = stood (p + 1) A1 in
        let A3 : Mach = meets_of s A1.st.last.0 A1.st.from.0 A2 in
        let F : Mach = with_st (gave_of A1.st.last.0 (placed_of A1.st.at.0 A3.st)) A3 in
        let N : ℕ = p + (1 + (size_ty t + size a)) in
        let w : ℕ → W ℕ = (λ x. meets Γ t x (place a) >>= λ _. done x) in
        let Q : ℕ → Mach → Type 0 = (λ x v. Came N (place a) x v) in
        let back : Mach → Mach = (λ (y : Mach). with_st (gave_of A1.st.last.0 (placed_of A1.st.at.0 y.st)) y) in
        let past : m.st.stop ≡ 0 → m1 ≡ with_st (standing (p + 1 + length (T.spell t)) m.st.from.0 m.st.last.0 m.st) m =
        (λ g. ap (λ (v : State). with_st (skip_of levels s v) m) (placed_eq (p + 1) m.st g)
        ∙ ap (λ (v : State). with_st v m) (skip_eq s short t levels (standing (p + 1) m.st.from.0 m.st.last.0 m.st) rest (fits-deep most d t fits) (fits_below most d t few fits) g e)) in
        runs_after Γ env cap room m m1 F (p + 1 + length (T.spell t)) m.st.from.0 m.st.last.0 (walk Γ a B >>= w) B (λ _. B) Q past
        (λ g. (
        let m1at : m1.st.at.0 ≡ p + 1 + size_ty t = ap (λ (x : Mach). x.st.at.0) (past g) ∙ omega arith in
        runs_bind Γ env cap room m1 A1 F (walk Γ a B) w B (λ _. B) (λ _. B) (λ x v. Came (p + 1 + size_ty t + size a) (place a) x v) Q
        (λ h. ap (λ (x : Mach). x.st.stop) (
        ap (λ (v : State). back (meets_of s A1.st.last.0 A1.st.from.0 (with_st v A1))) (still_placed (p + 1) A1.st h)
        ∙ ap back (still_meets s A1.st.last.0 A1.st.from.0 A1 h)
        ∙ ap (λ (v : State). with_st (gave_of A1.st.last.0 v) A1) (still_placed A1.st.at.0 A1.st h)
        ∙ still_within (gave_of A1.st.last.0) A1 (still_gave A1.st.last.0 A1.st h)))
        (λ x k. (
        let k0 = k.0 in
        runs_after Γ env cap room A1 A2 F (p + 1) A1.st.from.0 A1.st.last.0 (w x) B (λ _. B) Q (λ h. stood-at (p + 1) A1 h)
        (λ h. (
        let u = stood-at (p + 1) A1 h in
        let A2at : A2.st.at.0 ≡ p + 1 = ap (λ (n : Mach). n.st.at.0) u in
        let A2from : A2.st.from.0 ≡ place a = ap (λ (n : Mach). n.st.from.0) u ∙ k.1 in
        runs_bind Γ env cap room A2 A3 F (meets Γ t x (place a)) (λ _. done x) B (λ _. B) (λ _. B) (λ _ v. Stood {A = U} (A2.st.at.0 + length (T.spell t)) A2.st.from.0 tt v) Q
        (λ j. ap (λ (n : Mach). n.st.stop) (ap (λ (v : State). with_st (gave_of A1.st.last.0 v) A3) (still_placed A1.st.at.0 A3.st j) ∙ still_within (gave_of A1.st.last.0) A3 (still_gave A1.st.last.0 A3.st j)))
        (λ _ k2. runs_if Γ env cap room A3 F (with_st (standing A1.st.at.0 A3.st.from.0 A1.st.last.0 A3.st) A3) (done x) B (λ _. B) _
        (λ j. ap (λ (v : State). with_st (gave_of A1.st.last.0 v) A3) (placed_eq A1.st.at.0 A3.st j) ∙ ap (λ (v : State). with_st v A3) (gave_eq A1.st.last.0 (standing A1.st.at.0 A3.st.from.0 A3.st.last.0 A3.st) j))
        (runs_stand Γ env cap room A3 A1.st.at.0 A3.st.from.0 A1.st.last.0 x B Q (k.0 ∙ omega arith, k2.1 ∙ A2from, k.2)))
        (subst (λ (j : ℕ). Runs Γ env cap room A2 (meets_of s j A1.st.from.0 A2) (meets Γ t x (place a)) B (λ _. B) (λ _ v. Stood {A = U} (A2.st.at.0 + length (T.spell t)) A2.st.from.0 tt v)) (sym k.2)
        (subst (λ (j : ℕ). Runs Γ env cap room A2 (meets_of s x j A2) (meets Γ t x (place a)) B (λ _. B) (λ _ v. Stood {A = U} (A2.st.at.0 + length (T.spell t)) A2.st.from.0 tt v)) (sym k.1)
        (runs_meets Γ env cap room wide brief s short B t x (place a) A2 rest (fits-deep most d t fits) (fits_below most d t few fits) (ap (λ (j : ℕ). drop j s) A2at ∙ e))))))))
        (ga m1 m1at)))
