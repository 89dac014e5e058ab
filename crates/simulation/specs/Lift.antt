-- A type's record read as nodes.
-- After this file `lift_of` at a spelled type runs the walk's `lift`, and goes past the type.
use Prim.Native.Nat.{ℕ, zero, suc, ◌+◌, ◌≤◌, ◌<◌}
use Rattle.std.specs.Prelude.{◌≡◌, eqb}
use Rattle.std.proofs.Math.Path.{refl, ap, subst}
use Rattle.std.proofs.Common.{sym, ◌∙◌, eq-eqb}
use mathlib.Core.List.{List, [], ◌∷◌, ◌++◌}
use native.Mathlib.Omega.{arith}
use Rattle.std.proofs.Math.ListN.{length, drop, length-append}
use Rattle.types.specs.Ty.{Atom, bool, int, given, Ty, base, pow, prod, depth, spell, spell_atom, AtomBelow, Below}
use Rattle.types.specs.Limits.{max_names}
use Rattle.types.specs.Record.{Head, head_of}
use Rattle.types.specs.Record as R
use Rattle.types.specs.Spellings.{head-atom, head-power, head-product}
use Rattle.formula.specs.Environment.{Env}
use Rattle.unification.specs.Make.{builds_boolean, builds_integer, builds_given, builds_power, builds_pair}
use Rattle.walk.specs.Writer.{◌>>=◌, power, pair}
use Rattle.walk.specs.Walk.{atom, lift}
use Rattle.machine.specs.State.{State}
use Rattle.forms.specs.Forms.{then}
use Rattle.machine.specs.Machine.{Mach, with_st, passed_of, make_of}
use Rattle.machine.specs.Types.{type_head, atom_of, lift_by, lift_of}
use Rattle.simulation.specs.Relation.{Runs}
use Rattle.simulation.specs.Bind.{runs_bind}
use Rattle.simulation.specs.Stand.{standing, passed_eq, runs_if, runs_map}
use Rattle.machine.specs.Still.{test_yes, still_make, still_lift}
use Rattle.simulation.specs.Steps.{runs_after}
use Rattle.simulation.specs.Output.{assoc}
use Rattle.simulation.specs.Nodes.{Came, runs_make}
use Rattle.simulation.specs.Bytes.{drop_past, end-inside}

-- the machine at the offset after a type's head
abbrev pub passed : ℕ → Mach → Mach
passed e m = with_st (passed_of e m.st) m

pub passed-at : (e : ℕ) (m : Mach) → m.st.stop ≡ 0 → e ≤ 65536 → passed e m ≡ with_st (standing e m.st.from.0 m.st.last.0 m.st) m
passed-at e m g l = ap (λ (v : State). with_st v m) (passed_eq e m.st g l)

-- ---- the head of a spelled type
pub atom-bytes : (a : Atom) → 0 < length (spell_atom a)
unfolding spell_atom
atom-bytes bool = omega arith
atom-bytes int = omega arith
atom-bytes (given x) = omega arith

module _ (s : List ℕ) (p : ℕ) where
  pub type-atom : (a : Atom) (rest : List ℕ) → AtomBelow max_names a → drop p s ≡ spell_atom a ++ rest → type_head s p ≡ R.atomic a (p + length (spell_atom a))
  type-atom a rest k e = ap (head_of max_names p) e ∙ head-atom max_names k p rest

  pub type-power : (rest : List ℕ) → drop p s ≡ 0x43 ∷ rest → type_head s p ≡ R.power (p + 1)
  type-power rest e = ap (head_of max_names p) e ∙ head-power max_names p rest

  pub type-product : (rest : List ℕ) → drop p s ≡ 0x44 ∷ rest → type_head s p ≡ R.product (p + 1)
  type-product rest e = ap (head_of max_names p) e ∙ head-product max_names p rest

module _ (f : Mach → Mach) (e : ℕ) (m : Mach) where
  lift-atom : (a : Atom) → lift_by f (R.atomic a e) m ≡ atom_of a (passed e m)
  unfolding lift_by then
  lift-atom a = refl

  lift-pow : lift_by f (R.power e) m ≡ make_of 0x43 (f (passed e m)).st.last.0 0 (f (passed e m))
  unfolding lift_by then
  lift-pow = refl

  lift-prod : lift_by f (R.product e) m ≡ make_of 0x44 (f (passed e m)).st.last.0 (f (f (passed e m))).st.last.0 (f (f (passed e m)))
  unfolding lift_by then
  lift-prod = refl

module _ (Γ : Env) (env : List ℕ) (cap room : ℕ) (wide : cap ≤ 32768) (s : List ℕ) (short : length s ≤ 65536) (B : List ℕ) where
  lift-step : (l : ℕ) (m : Mach) (h : Head) → m.st.stop ≡ 0 → type_head s m.st.at.0 ≡ h → lift_of (suc l) s m ≡ lift_by (λ x. lift_of l s x) h m
  unfolding lift_of then
  lift-step l m h g e = test_yes (eqb m.st.stop 0) _ _ (eq-eqb m.st.stop 0 g) ∙ ap (λ (k : Head). lift_by (λ x. lift_of l s x) k m) e

  -- a type without parts
  runs_atom : (a : Atom) (m : Mach) → Runs Γ env cap room m (atom_of a m) (atom a) B (λ _. B) (λ r v. Came m.st.at.0 m.st.from.0 r v)
  unfolding atom atom_of
  runs_atom bool m = runs_make Γ env cap room wide 0x40 0 0 m builds_boolean B
  runs_atom int m = runs_make Γ env cap room wide 0x41 0 0 m builds_integer B
  runs_atom (given x) m = runs_make Γ env cap room wide 0x42 x 0 m (builds_given x) B

  pub runs_lift : (t : Ty) (l : ℕ) (m : Mach) (rest : List ℕ) → depth t < l → Below max_names t → drop m.st.at.0 s ≡ spell t ++ rest
      → Runs Γ env cap room m (lift_of l s m) (lift t) B (λ _. B) (λ r v. Came (m.st.at.0 + length (spell t)) m.st.from.0 r v)
  unfolding lift spell depth Below
  runs_lift t zero m rest d k e = absurd (omega arith)
  runs_lift (base a) (suc l) m rest d k e =
      let E : ℕ = m.st.at.0 + length (spell_atom a) in
      let q = end-inside s (spell_atom a) rest m.st.at.0 (atom-bytes a) e in
      let m1 : Mach = passed E m in
      runs_if Γ env cap room m (lift_of (suc l) s m) (atom_of a m1) (atom a) B (λ _. B) _ (λ g. lift-step l m (R.atomic a E) g (type-atom s m.st.at.0 a rest k e) ∙ lift-atom (λ x. lift_of l s x) E m a)
      (runs_after Γ env cap room m m1 (atom_of a m1) E m.st.from.0 m.st.last.0 (atom a) B (λ _. B) _ (λ g. passed-at E m g (omega arith))
      (λ g. runs_map Γ env cap room m1 (atom_of a m1) (atom a) B (λ _. B) _ _
      (λ r y. (let z = passed-at E m g (omega arith) in (y.0 ∙ ap (λ (x : Mach). x.st.at.0) z, y.1 ∙ ap (λ (x : Mach). x.st.from.0) z, y.2))) (runs_atom a m1)))
  runs_lift (pow t) (suc l) m rest d k e =
      let q = end-inside s (0x43 ∷ []) (spell t ++ rest) m.st.at.0 (omega arith) e in
      let m1 : Mach = passed (m.st.at.0 + 1) m in
      let m2 : Mach = lift_of l s m1 in
      let m3 : Mach = make_of 0x43 m2.st.last.0 0 m2 in
      let P : ℕ = m.st.at.0 + suc (length (spell t)) in
      runs_if Γ env cap room m (lift_of (suc l) s m) m3 (lift t >>= λ x. power x) B (λ _. B) _ (λ g. lift-step l m (R.power (m.st.at.0 + 1)) g (type-power s m.st.at.0 (spell t ++ rest) e) ∙ lift-pow (λ y. lift_of l s y) (m.st.at.0 + 1) m)
      (runs_after Γ env cap room m m1 m3 (m.st.at.0 + 1) m.st.from.0 m.st.last.0 (lift t >>= λ x. power x) B (λ _. B) _ (λ g. passed-at (m.st.at.0 + 1) m g (omega arith))
      (λ g. (
      let z = passed-at (m.st.at.0 + 1) m g (omega arith) in
      let at1 : m1.st.at.0 ≡ m.st.at.0 + 1 = ap (λ (x : Mach). x.st.at.0) z in
      let from1 : m1.st.from.0 ≡ m.st.from.0 = ap (λ (x : Mach). x.st.from.0) z in
      let e1 : drop m1.st.at.0 s ≡ spell t ++ rest = ap (λ (k : ℕ). drop k s) at1 ∙ drop_past s (0x43 ∷ []) (spell t ++ rest) m.st.at.0 e in
      runs_bind Γ env cap room m1 m2 m3 (lift t) (λ x. power x) B (λ _. B) (λ _. B) (λ r v. Came P m.st.from.0 r v) (λ r v. Came P m.st.from.0 r v)
      (λ h. ap (λ (x : Mach). x.st.stop) (still_make 0x43 m2.st.last.0 0 m2 h))
      (λ a c. subst (λ (k : ℕ). Runs Γ env cap room m2 (make_of 0x43 k 0 m2) (power a) B (λ _. B) (λ r v. Came P m.st.from.0 r v)) (sym c.2)
      (runs_map Γ env cap room m2 (make_of 0x43 a 0 m2) (power a) B (λ _. B) _ _ (λ r y. (y.0 ∙ c.0, y.1 ∙ c.1, y.2)) (runs_make Γ env cap room wide 0x43 a 0 m2 (builds_power a) B)))
      (runs_map Γ env cap room m1 m2 (lift t) B (λ _. B) _ _ (λ r y. (y.0 ∙ omega arith, y.1 ∙ from1, y.2)) (runs_lift t l m1 rest (omega arith) k e1)))))
  runs_lift (prod t u) (suc l) m rest d k e =
      let e0 : drop m.st.at.0 s ≡ 0x44 ∷ (spell t ++ (spell u ++ rest)) = e ∙ ap (λ (k : List ℕ). 0x44 ∷ k) (assoc (spell t) (spell u) rest) in
      let q = end-inside s (0x44 ∷ []) (spell t ++ (spell u ++ rest)) m.st.at.0 (omega arith) e0 in
      let m1 : Mach = passed (m.st.at.0 + 1) m in
      let m2 : Mach = lift_of l s m1 in
      let m3 : Mach = lift_of l s m2 in
      let m4 : Mach = make_of 0x44 m2.st.last.0 m3.st.last.0 m3 in
      let P1 : ℕ = m.st.at.0 + 1 + length (spell t) in
      let P : ℕ = m.st.at.0 + suc (length (spell t ++ spell u)) in
      let ll = length-append (spell t) (spell u) in
      runs_if Γ env cap room m (lift_of (suc l) s m) m4 (lift t >>= λ x. lift u >>= λ y. pair x y) B (λ _. B) _ (λ g. lift-step l m (R.product (m.st.at.0 + 1)) g (type-product s m.st.at.0 (spell t ++ (spell u ++ rest)) e0) ∙ lift-prod (λ y. lift_of l s y) (m.st.at.0 + 1) m)
      (runs_after Γ env cap room m m1 m4 (m.st.at.0 + 1) m.st.from.0 m.st.last.0 (lift t >>= λ x. lift u >>= λ y. pair x y) B (λ _. B) _ (λ g. passed-at (m.st.at.0 + 1) m g (omega arith))
      (λ g. (
      let z = passed-at (m.st.at.0 + 1) m g (omega arith) in
      let at1 : m1.st.at.0 ≡ m.st.at.0 + 1 = ap (λ (x : Mach). x.st.at.0) z in
      let from1 : m1.st.from.0 ≡ m.st.from.0 = ap (λ (x : Mach). x.st.from.0) z in
      let e1 : drop m1.st.at.0 s ≡ spell t ++ (spell u ++ rest) = ap (λ (k : ℕ). drop k s) at1 ∙ drop_past s (0x44 ∷ []) (spell t ++ (spell u ++ rest)) m.st.at.0 e0 in
      runs_bind Γ env cap room m1 m2 m4 (lift t) (λ x. lift u >>= λ y. pair x y) B (λ _. B) (λ _. B) (λ r v. Came P1 m.st.from.0 r v) (λ r v. Came P m.st.from.0 r v)
      (λ h. ap (λ (x : Mach). x.st.stop) (ap (λ (x : Mach). make_of 0x44 m2.st.last.0 x.st.last.0 x) (still_lift l s m2 h) ∙ still_make 0x44 m2.st.last.0 m2.st.last.0 m2 h))
      (λ a c. (
      let e2 : drop m2.st.at.0 s ≡ spell u ++ rest = ap (λ (k : ℕ). drop k s) (c.0 ∙ ap (λ (k : ℕ). k + length (spell t)) (sym at1)) ∙ drop_past s (spell t) (spell u ++ rest) m1.st.at.0 e1 in
      runs_bind Γ env cap room m2 m3 m4 (lift u) (λ y. pair a y) B (λ _. B) (λ _. B) (λ r v. Came P m.st.from.0 r v) (λ r v. Came P m.st.from.0 r v)
      (λ h. ap (λ (x : Mach). x.st.stop) (still_make 0x44 m2.st.last.0 m3.st.last.0 m3 h))
      (λ b c2. subst (λ (j : ℕ). Runs Γ env cap room m3 (make_of 0x44 j m3.st.last.0 m3) (pair a b) B (λ _. B) (λ r v. Came P m.st.from.0 r v)) (sym c.2)
      (subst (λ (j : ℕ). Runs Γ env cap room m3 (make_of 0x44 a j m3) (pair a b) B (λ _. B) (λ r v. Came P m.st.from.0 r v)) (sym c2.2)
      (runs_map Γ env cap room m3 (make_of 0x44 a b m3) (pair a b) B (λ _. B) _ _ (λ r y. (y.0 ∙ c2.0, y.1 ∙ c2.1, y.2)) (runs_make Γ env cap room wide 0x44 a b m3 (builds_pair a b) B))))
      (runs_map Γ env cap room m2 m3 (lift u) B (λ _. B) _ _ (λ r y. (y.0 ∙ (let cc0 = c.0 in omega arith), y.1 ∙ c.1, y.2)) (runs_lift u l m2 rest (omega arith) k.1 e2))))
      (runs_map Γ env cap room m1 m2 (lift t) B (λ _. B) _ _ (λ r y. (y.0 ∙ omega arith, y.1 ∙ from1, y.2)) (runs_lift t l m1 (spell u ++ rest) (omega arith) k.0 e1)))))
