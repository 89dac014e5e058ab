-- Types in the stream: passed over, noted, compared.
-- After this file `skip_of` goes past a spelled type and does nothing else, and `notes_of`, `meets_of` and `spelled_of` run the pieces of the walk that
-- bear their names where the bytes spell the type.
use Prim.Native.Nat.{ℕ, zero, suc, ◌+◌, ◌≤◌, ◌<◌}
use Rattle.std.specs.Prelude.{◌≡◌, get_or, eqb}
use Rattle.std.proofs.Math.Path.{refl, ap, subst}
use Rattle.std.proofs.Common.{sym, ◌∙◌, eq-eqb, ne_eqb}
use mathlib.Core.List.{List, [], ◌∷◌, ◌++◌}
use native.Mathlib.Omega.{arith}
use Rattle.std.proofs.Math.ListN.{length, drop, length-append}
use Rattle.types.specs.Ty.{Atom, bool, int, given, Ty, base, pow, prod, depth, spell, spell_atom, AtomBelow, given_below, Below}
use Rattle.types.specs.Limits.{max_names}
use Rattle.types.specs.Record.{Head}
use Rattle.types.specs.Record as R
use Rattle.formula.specs.Environment.{Entry, lacks, holds, Env}
use Rattle.unification.specs.Arena.{U}
use Rattle.unification.specs.Ops.{Bench}
use Rattle.unification.specs.Make.{builds_given, builds_power}
use Rattle.walk.specs.Writer.{Row, W, done, ◌>>=◌, same, given_set, power}
use Rattle.walk.specs.Walk.{lift, name, notes, meets, spelled}
use Rattle.walk.specs.Walk as K
use Rattle.machine.specs.State.{State}
use Rattle.forms.specs.Forms.{then}
use Rattle.machine.specs.Machine.{Mach, with_st, cell, placed_of, passed_of, make_of, expect_of}
use Rattle.machine.specs.Types.{type_head, skip_by, skip_of, lift_of, free_of, note_of, noted_of, notes_by, notes_of, meets_of, spelled_of}
use Rattle.simulation.specs.Relation.{Stands, Entered, Books, Runs}
use Rattle.simulation.specs.Bind.{runs_bind}
use Rattle.simulation.specs.Stand.{standing, placed_eq, passed_eq, runs_if, runs_map, runs_stand}
use Rattle.machine.specs.Still.{test_yes, test_no, still_make, still_expect, still_notes, still_meets, still_placed}
use Rattle.simulation.specs.Steps.{runs_given, runs_after}
use Rattle.simulation.specs.Output.{assoc}
use Rattle.simulation.specs.Nodes.{Came, Stood, runs_make, runs_expect}
use Rattle.simulation.specs.Bytes.{drop_past, end-inside}
use Rattle.simulation.specs.Lift.{passed, passed-at, atom-bytes, type-atom, type-power, type-product, runs_lift}
use Rattle.simulation.specs.Names.{runs_free}

below-name : (n x : ℕ) → AtomBelow n (given x) → x < n
below-name n x (given_below l) = l

module _ (env : List ℕ) (p : ℕ) (f : Mach → Mach) (e : ℕ) (m : Mach) where
  notes-atom : (a : Atom) → notes_by f env p (R.atomic a e) m ≡ noted_of env p a (passed e m)
  unfolding notes_by then
  notes-atom a = refl

  notes-pow : notes_by f env p (R.power e) m ≡ f (passed e m)
  unfolding notes_by then
  notes-pow = refl

  notes-prod : notes_by f env p (R.product e) m ≡ f (f (passed e m))
  unfolding notes_by then
  notes-prod = refl

module _ (f : State → State) (e : ℕ) (v : State) where
  skip_atom : (a : Atom) → skip_by f (R.atomic a e) v ≡ passed_of e v
  unfolding skip_by then
  skip_atom a = refl

  skip_pow : skip_by f (R.power e) v ≡ f (passed_of e v)
  unfolding skip_by then
  skip_pow = refl

  skip_prod : skip_by f (R.product e) v ≡ f (f (passed_of e v))
  unfolding skip_by then
  skip_prod = refl

module _ (s : List ℕ) (short : length s ≤ 65536) where
  abbrev on : ℕ → State → State
  on p v = standing p v.from.0 v.last.0 v

  skip_step : (l : ℕ) (v : State) (h : Head) → v.stop ≡ 0 → type_head s v.at.0 ≡ h → skip_of (suc l) s v ≡ skip_by (λ x. skip_of l s x) h v
  unfolding skip_of then
  skip_step l v h g e = test_yes (eqb v.stop 0) _ _ (eq-eqb v.stop 0 g) ∙ ap (λ (k : Head). skip_by (λ x. skip_of l s x) k v) e

  -- past a type, and nothing else
  pub skip_eq : (t : Ty) (l : ℕ) (v : State) (rest : List ℕ) → depth t < l → Below max_names t → v.stop ≡ 0 → drop v.at.0 s ≡ spell t ++ rest → skip_of l s v ≡ on (v.at.0 + length (spell t)) v
  unfolding spell depth Below
  skip_eq t zero v rest d k g e = absurd (omega arith)
  skip_eq (base a) (suc l) v rest d k g e =
      let E : ℕ = v.at.0 + length (spell_atom a) in
      let q = end-inside s (spell_atom a) rest v.at.0 (atom-bytes a) e in
      skip_step l v (R.atomic a E) g (type-atom s v.at.0 a rest k e) ∙ skip_atom (λ x. skip_of l s x) E v a ∙ passed_eq E v g (omega arith)
  skip_eq (pow t) (suc l) v rest d k g e =
      let q = end-inside s (0x43 ∷ []) (spell t ++ rest) v.at.0 (omega arith) e in
      let e1 = drop_past s (0x43 ∷ []) (spell t ++ rest) v.at.0 e in
      let z : v.at.0 + 1 + length (spell t) ≡ v.at.0 + suc (length (spell t)) = omega arith in
      skip_step l v (R.power (v.at.0 + 1)) g (type-power s v.at.0 (spell t ++ rest) e) ∙ skip_pow (λ x. skip_of l s x) (v.at.0 + 1) v ∙ ap (λ (u : State). skip_of l s u) (passed_eq (v.at.0 + 1) v g (omega arith))
      ∙ skip_eq t l (on (v.at.0 + 1) v) rest (omega arith) k g e1 ∙ ap (λ (j : ℕ). on j v) z
  skip_eq (prod t u) (suc l) v rest d k g e =
      let e0 : drop v.at.0 s ≡ 0x44 ∷ (spell t ++ (spell u ++ rest)) = e ∙ ap (λ (j : List ℕ). 0x44 ∷ j) (assoc (spell t) (spell u) rest) in
      let q = end-inside s (0x44 ∷ []) (spell t ++ (spell u ++ rest)) v.at.0 (omega arith) e0 in
      let e1 = drop_past s (0x44 ∷ []) (spell t ++ (spell u ++ rest)) v.at.0 e0 in
      let e2 = drop_past s (spell t) (spell u ++ rest) (v.at.0 + 1) e1 in
      let ll = length-append (spell t) (spell u) in
      let z : v.at.0 + 1 + length (spell t) + length (spell u) ≡ v.at.0 + suc (length (spell t ++ spell u)) = omega arith in
      skip_step l v (R.product (v.at.0 + 1)) g (type-product s v.at.0 (spell t ++ (spell u ++ rest)) e0) ∙ skip_prod (λ x. skip_of l s x) (v.at.0 + 1) v ∙ ap (λ (w : State). skip_of l s (skip_of l s w)) (passed_eq (v.at.0 + 1) v g (omega arith))
      ∙ ap (λ (w : State). skip_of l s w) (skip_eq t l (on (v.at.0 + 1) v) (spell u ++ rest) (omega arith) k.0 g e1)
      ∙ skip_eq u l (on (v.at.0 + 1 + length (spell t)) v) rest (omega arith) k.1 g e2 ∙ ap (λ (j : ℕ). on j v) z

module _ (Γ : Env) (env : List ℕ) (cap room : ℕ) (wide : cap ≤ 32768) (brief : length env ≤ 65536) where
  -- ---- a given name noted
  module _ (x p : ℕ) (m : Mach) (B : List ℕ) (below : x < 256) where
    abbrev S : ℕ → U → Mach → Type 0
    S a _ v = Stood {A = U} a m.st.from.0 tt v

    note_held : (q : ℕ) → m.st.stop ≡ 0 → get_or m.book (cell 3392 1 x 0) 0 ≡ suc q → note_of env x p m ≡ m
    unfolding note_of then
    note_held q e f = test_yes (eqb m.st.stop 0) _ _ (eq-eqb m.st.stop 0 e) ∙ test_no (eqb (get_or m.book (cell 3392 1 x 0) 0) 0) _ _ (ne_eqb (get_or m.book (cell 3392 1 x 0) 0) 0 (λ k. omega arith))

    abbrev A1 : Mach
    A1 = free_of env x p m

    abbrev A2 : Mach
    A2 = make_of 0x42 x 0 A1

    abbrev A3 : Mach
    A3 = make_of 0x43 A2.st.last.0 0 A2

    note_lacks : m.st.stop ≡ 0 → get_or m.book (cell 3392 1 x 0) 0 ≡ 0 → note_of env x p m ≡ expect_of A1.st.last.0 A3.st.last.0 p A3
    unfolding note_of then
    note_lacks e f = test_yes (eqb m.st.stop 0) _ _ (eq-eqb m.st.stop 0 e) ∙ test_yes (eqb (get_or m.book (cell 3392 1 x 0) 0) 0) _ _ (eq-eqb (get_or m.book (cell 3392 1 x 0) 0) 0 f)

    note_by : (b : Bench) (row : Row) → Stands Γ env cap room m b → Books Γ env cap room m row B → (e : Entry) → Γ x ≡ e → Runs Γ env cap room m (note_of env x p m) (K.note_of Γ e x p) B (λ _. B) (S m.st.at.0)
    unfolding K.note_of
    note_by b row s o (holds t) h =
        let entry = subst (λ (f : Entry). Entered Γ env cap room m.book x f) h (o.entries x below) in
        runs_if Γ env cap room m (note_of env x p m) m (done tt) B (λ _. B) (S m.st.at.0) (λ g. note_held entry.0 g entry.2)
        (runs_stand Γ env cap room m m.st.at.0 m.st.from.0 m.st.last.0 tt B (S m.st.at.0) (refl, refl))
    note_by b row s o lacks h =
        let entry = subst (λ (f : Entry). Entered Γ env cap room m.book x f) h (o.entries x below) in
        let m4 : Mach = expect_of A1.st.last.0 A3.st.last.0 p A3 in
        let C : ℕ → Mach → Type 0 = (λ r v. Came m.st.at.0 m.st.from.0 r v) in
        runs_if Γ env cap room m (note_of env x p m) m4 (name Γ x p >>= λ t. given_set x >>= λ g. power g >>= λ q. same t q p) B (λ _. B) (S m.st.at.0) (λ g. note_lacks g entry)
        (runs_bind Γ env cap room m A1 m4 (name Γ x p) (λ t. given_set x >>= λ g. power g >>= λ q. same t q p) B (λ _. B) (λ _. B) C (S m.st.at.0)
        (λ k. ap (λ (y : Mach). y.st.stop) (
        let e2 : A2 ≡ A1 = still_make 0x42 x 0 A1 k in
        let e3 : A3 ≡ A1 = ap (λ (y : Mach). make_of 0x43 y.st.last.0 0 y) e2 ∙ still_make 0x43 A1.st.last.0 0 A1 k in
        ap (λ (y : Mach). expect_of A1.st.last.0 y.st.last.0 p y) e3 ∙ still_expect A1.st.last.0 A1.st.last.0 p A1 k))
        (λ t c1. runs_bind Γ env cap room A1 A2 m4 (given_set x) (λ g. power g >>= λ q. same t q p) B (λ _. B) (λ _. B) C (S m.st.at.0)
        (λ k. ap (λ (y : Mach). y.st.stop) (
        let e3 : A3 ≡ A2 = still_make 0x43 A2.st.last.0 0 A2 k in
        ap (λ (y : Mach). expect_of A1.st.last.0 y.st.last.0 p y) e3 ∙ still_expect A1.st.last.0 A2.st.last.0 p A2 k))
        (λ g c2. runs_bind Γ env cap room A2 A3 m4 (power g) (λ q. same t q p) B (λ _. B) (λ _. B) C (S m.st.at.0)
        (λ k. ap (λ (y : Mach). y.st.stop) (still_expect A1.st.last.0 A3.st.last.0 p A3 k))
        (λ q c3. subst (λ (j : ℕ). Runs Γ env cap room A3 (expect_of j A3.st.last.0 p A3) (same t q p) B (λ _. B) (S m.st.at.0)) (sym c1.2)
        (subst (λ (j : ℕ). Runs Γ env cap room A3 (expect_of t j p A3) (same t q p) B (λ _. B) (S m.st.at.0)) (sym c3.2)
        (runs_map Γ env cap room A3 (expect_of t q p A3) (same t q p) B (λ _. B) _ _ (λ _ y. (y.0 ∙ c3.0, y.1 ∙ c3.1)) (runs_expect Γ env cap room wide t q p A3 B))))
        (subst (λ (j : ℕ). Runs Γ env cap room A2 (make_of 0x43 j 0 A2) (power g) B (λ _. B) C) (sym c2.2)
        (runs_map Γ env cap room A2 (make_of 0x43 g 0 A2) (power g) B (λ _. B) _ _ (λ _ y. (y.0 ∙ c2.0, y.1 ∙ c2.1, y.2)) (runs_make Γ env cap room wide 0x43 g 0 A2 (builds_power g) B))))
        (runs_map Γ env cap room A1 A2 (given_set x) B (λ _. B) _ _ (λ _ y. (y.0 ∙ c1.0, y.1 ∙ c1.1, y.2)) (runs_make Γ env cap room wide 0x42 x 0 A1 (builds_given x) B)))
        (runs_free Γ env cap room wide brief x p m B below))

    pub runs_note : Runs Γ env cap room m (note_of env x p m) (K.note_of Γ (Γ x) x p) B (λ _. B) (S m.st.at.0)
    runs_note = runs_given Γ env cap room m (note_of env x p m) (K.note_of Γ (Γ x) x p) B (λ _. B) _ (λ b row s o. note_by b row s o (Γ x) refl)

  module _ (s : List ℕ) (short : length s ≤ 65536) (B : List ℕ) where
    -- past a type's head, before a piece
    after-passed : {A : Type 0} (e : ℕ) (m m' : Mach) (w : W A) (D : List ℕ) (B' : A → List ℕ) (Q : A → Mach → Type 0) → e ≤ 65536
        → (m.st.stop ≡ 0 → (passed e m).st.at.0 ≡ e → (passed e m).st.from.0 ≡ m.st.from.0 → Runs Γ env cap room (passed e m) m' w D B' Q) → Runs Γ env cap room m m' w D B' Q
    after-passed e m m' w D B' Q l h =
        runs_after Γ env cap room m (passed e m) m' e m.st.from.0 m.st.last.0 w D B' Q (λ g. passed-at e m g l)
        (λ g. h g (ap (λ (x : Mach). x.st.at.0) (passed-at e m g l)) (ap (λ (x : Mach). x.st.from.0) (passed-at e m g l)))

    notes-step : (l p : ℕ) (m : Mach) (h : Head) → m.st.stop ≡ 0 → type_head s m.st.at.0 ≡ h → notes_of (suc l) s env p m ≡ notes_by (λ x. notes_of l s env p x) env p h m
    unfolding notes_of then
    notes-step l p m h g e = test_yes (eqb m.st.stop 0) _ _ (eq-eqb m.st.stop 0 g) ∙ ap (λ (k : Head). notes_by (λ x. notes_of l s env p x) env p k m) e

    abbrev To : Mach → ℕ → U → Mach → Type 0
    To m n _ v = Stood {A = U} (m.st.at.0 + n) m.st.from.0 tt v

    -- a type without parts
    runs_noted : (a : Atom) (p : ℕ) (m : Mach) → AtomBelow max_names a → Runs Γ env cap room m (noted_of env p a m) (notes Γ (base a) p) B (λ _. B) (λ _ v. Stood {A = U} m.st.at.0 m.st.from.0 tt v)
    unfolding notes noted_of
    runs_noted bool p m k = runs_stand Γ env cap room m m.st.at.0 m.st.from.0 m.st.last.0 tt B _ (refl, refl)
    runs_noted int p m k = runs_stand Γ env cap room m m.st.at.0 m.st.from.0 m.st.last.0 tt B _ (refl, refl)
    runs_noted (given x) p m k = runs_note x p m B (below-name max_names x k)

    pub runs_notes : (t : Ty) (l p : ℕ) (m : Mach) (rest : List ℕ) → depth t < l → Below max_names t → drop m.st.at.0 s ≡ spell t ++ rest
        → Runs Γ env cap room m (notes_of l s env p m) (notes Γ t p) B (λ _. B) (To m (length (spell t)))
    unfolding notes spell depth Below
    runs_notes t zero p m rest d k e = absurd (omega arith)
    runs_notes (base a) (suc l) p m rest d k e =
        let E : ℕ = m.st.at.0 + length (spell_atom a) in
        let q = end-inside s (spell_atom a) rest m.st.at.0 (atom-bytes a) e in
        runs_if Γ env cap room m (notes_of (suc l) s env p m) (noted_of env p a (passed E m)) (notes Γ (base a) p) B (λ _. B) (To m (length (spell_atom a)))
        (λ g. notes-step l p m (R.atomic a E) g (type-atom s m.st.at.0 a rest k e) ∙ notes-atom env p (λ x. notes_of l s env p x) E m a)
        (after-passed E m (noted_of env p a (passed E m)) (notes Γ (base a) p) B (λ _. B) (To m (length (spell_atom a))) (omega arith)
        (λ g h f. runs_map Γ env cap room (passed E m) (noted_of env p a (passed E m)) (notes Γ (base a) p) B (λ _. B) _ _ (λ _ y. (y.0 ∙ h, y.1 ∙ f)) (runs_noted a p (passed E m) k)))
    runs_notes (pow t) (suc l) p m rest d k e =
        let q = end-inside s (0x43 ∷ []) (spell t ++ rest) m.st.at.0 (omega arith) e in
        let m1 : Mach = passed (m.st.at.0 + 1) m in
        runs_if Γ env cap room m (notes_of (suc l) s env p m) (notes_of l s env p m1) (notes Γ t p) B (λ _. B) (To m (suc (length (spell t))))
        (λ g. notes-step l p m (R.power (m.st.at.0 + 1)) g (type-power s m.st.at.0 (spell t ++ rest) e) ∙ notes-pow env p (λ y. notes_of l s env p y) (m.st.at.0 + 1) m)
        (after-passed (m.st.at.0 + 1) m (notes_of l s env p m1) (notes Γ t p) B (λ _. B) (To m (suc (length (spell t)))) (omega arith)
        (λ g a f. runs_map Γ env cap room m1 (notes_of l s env p m1) (notes Γ t p) B (λ _. B) _ _ (λ _ y. (y.0 ∙ omega arith, y.1 ∙ f))
        (runs_notes t l p m1 rest (omega arith) k (ap (λ (j : ℕ). drop j s) a ∙ drop_past s (0x43 ∷ []) (spell t ++ rest) m.st.at.0 e))))
    runs_notes (prod t u) (suc l) p m rest d k e =
        let e0 : drop m.st.at.0 s ≡ 0x44 ∷ (spell t ++ (spell u ++ rest)) = e ∙ ap (λ (j : List ℕ). 0x44 ∷ j) (assoc (spell t) (spell u) rest) in
        let q = end-inside s (0x44 ∷ []) (spell t ++ (spell u ++ rest)) m.st.at.0 (omega arith) e0 in
        let ll = length-append (spell t) (spell u) in
        let m1 : Mach = passed (m.st.at.0 + 1) m in
        let m2 : Mach = notes_of l s env p m1 in
        let m3 : Mach = notes_of l s env p m2 in
        let P1 : ℕ = 1 + length (spell t) in
        let P : ℕ = suc (length (spell t ++ spell u)) in
        runs_if Γ env cap room m (notes_of (suc l) s env p m) m3 (notes Γ t p >>= λ _. notes Γ u p) B (λ _. B) (To m P)
        (λ g. notes-step l p m (R.product (m.st.at.0 + 1)) g (type-product s m.st.at.0 (spell t ++ (spell u ++ rest)) e0) ∙ notes-prod env p (λ y. notes_of l s env p y) (m.st.at.0 + 1) m)
        (after-passed (m.st.at.0 + 1) m m3 (notes Γ t p >>= λ _. notes Γ u p) B (λ _. B) (To m P) (omega arith)
        (λ g a f. (
        let e1 : drop m1.st.at.0 s ≡ spell t ++ (spell u ++ rest) = ap (λ (j : ℕ). drop j s) a ∙ drop_past s (0x44 ∷ []) (spell t ++ (spell u ++ rest)) m.st.at.0 e0 in
        runs_bind Γ env cap room m1 m2 m3 (notes Γ t p) (λ _. notes Γ u p) B (λ _. B) (λ _. B) (To m P1) (To m P)
        (λ h. ap (λ (x : Mach). x.st.stop) (still_notes l s env p m2 h))
        (λ _ c. (
        let c0 = c.0 in
        let z : m2.st.at.0 ≡ m1.st.at.0 + length (spell t) = omega arith in
        runs_map Γ env cap room m2 m3 (notes Γ u p) B (λ _. B) _ _ (λ _ y. (y.0 ∙ omega arith, y.1 ∙ c.1))
        (runs_notes u l p m2 rest (omega arith) k.1 (ap (λ (j : ℕ). drop j s) z ∙ drop_past s (spell t) (spell u ++ rest) m1.st.at.0 e1))))
        (runs_map Γ env cap room m1 m2 (notes Γ t p) B (λ _. B) _ _ (λ _ y. (y.0 ∙ omega arith, y.1 ∙ f)) (runs_notes t l p m1 (spell u ++ rest) (omega arith) k.0 e1)))))

    -- ---- a type compared with a reference
    pub runs_meets : (t : Ty) (x p : ℕ) (m : Mach) (rest : List ℕ) → depth t < 65 → Below max_names t → drop m.st.at.0 s ≡ spell t ++ rest
        → Runs Γ env cap room m (meets_of s x p m) (meets Γ t x p) B (λ _. B) (To m (length (spell t)))
    unfolding meets meets_of then
    runs_meets t x p m rest d k e =
        let m1 : Mach = lift_of 65 s m in
        let m2 : Mach = expect_of x m1.st.last.0 p m1 in
        runs_bind Γ env cap room m m1 m2 (lift t) (λ y. same x y p) B (λ _. B) (λ _. B) (λ r v. Came (m.st.at.0 + length (spell t)) m.st.from.0 r v) (To m (length (spell t)))
        (λ h. ap (λ (y : Mach). y.st.stop) (still_expect x m1.st.last.0 p m1 h))
        (λ y c. subst (λ (j : ℕ). Runs Γ env cap room m1 (expect_of x j p m1) (same x y p) B (λ _. B) (To m (length (spell t)))) (sym c.2)
        (runs_map Γ env cap room m1 (expect_of x y p m1) (same x y p) B (λ _. B) _ _ (λ _ z. (z.0 ∙ c.0, z.1 ∙ c.1)) (runs_expect Γ env cap room wide x y p m1 B)))
        (runs_lift Γ env cap room wide s short B t 65 m rest d k e)

    pub runs_spelled : (t : Ty) (x q p : ℕ) (m : Mach) (rest : List ℕ) → depth t < 65 → Below max_names t → drop m.st.at.0 s ≡ spell t ++ rest
        → Runs Γ env cap room m (spelled_of s env x q p m) (spelled Γ t x q p) B (λ _. B) (To m (length (spell t)))
    unfolding spelled spelled_of then
    runs_spelled t x q p m rest d k e =
        let m1 : Mach = notes_of 65 s env q m in
        let m2 : Mach = with_st (placed_of m.st.at.0 m1.st) m1 in
        let m3 : Mach = meets_of s x p m2 in
        runs_bind Γ env cap room m m1 m3 (notes Γ t q) (λ _. meets Γ t x p) B (λ _. B) (λ _. B) (To m (length (spell t))) (To m (length (spell t)))
        (λ h. ap (λ (y : Mach). y.st.stop) (ap (λ (v : State). meets_of s x p (with_st v m1)) (still_placed m.st.at.0 m1.st h) ∙ still_meets s x p m1 h))
        (λ _ c. runs_after Γ env cap room m1 m2 m3 m.st.at.0 m1.st.from.0 m1.st.last.0 (meets Γ t x p) B (λ _. B) (To m (length (spell t))) (λ g. ap (λ (v : State). with_st v m1) (placed_eq m.st.at.0 m1.st g))
        (λ g. (
        let z = ap (λ (v : State). with_st v m1) (placed_eq m.st.at.0 m1.st g) in
        let a : m2.st.at.0 ≡ m.st.at.0 = ap (λ (y : Mach). y.st.at.0) z in
        let f : m2.st.from.0 ≡ m.st.from.0 = ap (λ (y : Mach). y.st.from.0) z ∙ c.1 in
        runs_map Γ env cap room m2 m3 (meets Γ t x p) B (λ _. B) _ _ (λ _ y. (y.0 ∙ ap (λ (j : ℕ). j + length (spell t)) a, y.1 ∙ f)) (runs_meets t x p m2 rest d k (ap (λ (j : ℕ). drop j s) a ∙ e)))))
        (runs_notes t 65 q m rest d k e)
