-- Ascriptions and declarations: what a spelled type or 4F asks, and declarations one after the other, the last declared innermost.
-- After this file `ascription_of` and `declare_of` run the walk's `ascription` and `declare` where the bytes spell them.
use Rattle.types.specs.declared.Place.{Place}
use Prim.Native.Nat.{ℕ, suc, ◌+◌, ◌-◌, ◌≤◌, ◌<◌}
use Rattle.std.specs.Prelude.{◌≡◌, Bool, true, false, get_or, eqb, ltb, Option, Some}
use Rattle.std.proofs.Math.Path.{refl, sym, ap, subst}
use Rattle.std.proofs.Common.{◌∙◌, length-set, get_or-set_same, lt-ltb, eq-eqb, ne_eqb}
use mathlib.Core.List.{List, [], ◌∷◌, ◌++◌}
use native.Mathlib.Omega.{arith}
use Rattle.std.proofs.Math.ListN.{length, drop, set}
use Rattle.std.proofs.Math.Seq.{get_or-set_other}
use Rattle.types.specs.Ty.{Atom, bool, int, given, Ty, base, pow, prod, depth, spell, spell_atom, AtomBelow, bool-below, int-below, given_below, Below}
use Rattle.formula.specs.Environment.{Env}
use Rattle.formula.specs.Tree.{Spelling, spells, no_type, Decl, plain, typed, annotated, decls}
use Rattle.formula.specs.Spell.{spell_spelling, spell_decl, spell_decls, size_decl, size_decls, PlacedDecl, PlacedDecls}
use Rattle.formula_laws.specs.Fits.{FitsTy, FitsSpelling, FitsDecl, FitsDecls}
use Rattle.formula_laws.specs.Sizes.{length_decl}
use Rattle.formula_laws.specs.Complete.{byte_here, head_plain, head-typed, head-annotated}
use Rattle.heads.specs.declared.DeclHead.{DeclHead}
use Rattle.heads.specs.declared.DeclHead.TheVariants.{Plain, Typed, Annotated}
use Rattle.types.specs.Record.{reach}
use Rattle.heads.specs.Heads.{place, byte_at, decl_head, decl_end}
use Rattle.heads.specs.Reads.{reach-all}
use Rattle.meter.specs.Meter.{Out}
use Rattle.unification.specs.Arena.{U}
use Rattle.unification.specs.Make.{builds_unknown}
use Rattle.unification.specs.Ops.{Bench, exec}
use Rattle.unification.proofs.Exec.{exec_nil}
use Rattle.walk.specs.Writer.{Row, find, done, ◌>>=◌, enter, own, unknown, problem}
use Rattle.walk.specs.Walk.{meets, spelled, ascription, claim, at_decl, declare, over}
use Rattle.inference.specs.Finish.{names}
use Rattle.machine.specs.State.{State}
use Rattle.forms.specs.Forms.{test, then}
use Rattle.machine.specs.Machine.{Mach, with_st, cell, put_of, stopped_of, placed_of, arrived_of, bound_of, left_of, paid_of, enter_of, make_of, list_of, leave_of, push_bound_of}
use Rattle.machine.specs.Types.{meets_of, spelled_of, ascription_by, ascription_of, annotation_by, claim_of, declaration_by, declaration_of, times_of, declare_of}
use Rattle.simulation.specs.Relation.{Books, Ended, Runs}
use Rattle.simulation.specs.Bind.{runs_bind}
use Rattle.simulation.specs.Stand.{standing, placed_eq, runs_if, runs_map, runs_stand}
use Rattle.machine.specs.Still.{test_yes, test_no, still_make, still_placed, still_claim, still_push, still_declare, still_within}
use Rattle.simulation.specs.Steps.{runs_after, runs_then, runs_prior}
use Rattle.simulation.specs.Output.{assoc}
use Rattle.simulation.specs.Nodes.{Came, Gave, Stood, runs_make, runs_list}
use Rattle.simulation.specs.Bytes.{drop_past}
use Rattle.simulation.specs.Slots.{noted-kept, listed_kept, opened-kept, entered_kept, runs_expr}
use Rattle.simulation.specs.Stream.{runs_meets, runs_spelled}

-- ---- what a step of the state keeps
pub test-keeps : {A : Type 0} {C : Type 0} (f : A → C) (c : Bool) (x y : Unit {0} → A) (z : C) → f (x tt) ≡ z → f (y tt) ≡ z → f (test c x y) ≡ z
unfolding test
test-keeps f true x y z e g = e
test-keeps f false x y z e g = g

module _ {C : Type 0} (f : State → C) (v : State)
    (stops : (n : ℕ) → f (stopped_of n v) ≡ f v) (leaves : (b : ℕ) → f (left_of b v) ≡ f v) where
  paid-keeps : f (paid_of v) ≡ f v
  unfolding paid_of
  paid-keeps = test-keeps f (eqb v.stop 0) _ _ (f v) (test-keeps f (eqb v.budget 0) _ _ (f v) (stops 7) (leaves (v.budget - 1))) refl

pub paid-at : (v : State) → (paid_of v).at.0 ≡ v.at.0
unfolding stopped_of left_of
paid-at v = paid-keeps (λ (w : State). w.at.0) v (λ n. test-keeps (λ (w : State). w.at.0) (eqb v.stop 0) _ _ v.at.0 refl refl) (λ b. test-keeps (λ (w : State). w.at.0) (eqb v.stop 0) _ _ v.at.0 refl refl)

pub enter-at : (v : State) → (enter_of v).at.0 ≡ v.at.0
unfolding enter_of then stopped_of
enter-at v = let w : State = paid_of v in test-keeps (λ (u : State). u.at.0) (eqb w.stop 0) _ _ v.at.0 (test-keeps (λ (u : State). u.at.0) (ltb w.slots 1024) _ _ v.at.0 (paid-at v) (test-keeps (λ (u : State). u.at.0) (eqb w.stop 0) _ _ v.at.0 (paid-at v) (paid-at v))) (paid-at v)

pub leave_last : (k p : ℕ) (m : Mach) → (leave_of k p m).st.last.0 ≡ m.st.last.0
unfolding leave_of arrived_of put_of then
leave_last k p m = test-keeps (λ (x : Mach). x.st.last.0) (eqb m.st.stop 0) _ _ m.st.last.0 (test-keeps (λ (v : State). v.last.0) (eqb m.st.stop 0) _ _ m.st.last.0 refl refl) refl

-- ---- limits
atom-up : (n k : ℕ) (a : Atom) → n ≤ k → AtomBelow n a → AtomBelow k a
atom-up n k bool l h = bool-below
atom-up n k int l h = int-below
atom-up n k (given x) l (given_below q) = given_below {n = x} (omega arith)

pub below_up : (n k : ℕ) (t : Ty) → n ≤ k → Below n t → Below k t
unfolding Below
below_up n k (base a) l h = atom-up n k a l h
below_up n k (pow t) l h = below_up n k t l h
below_up n k (prod t u) l h = (below_up n k t l h.0, below_up n k u l h.1)

pub fits-deep : (n d : ℕ) (t : Ty) → FitsTy n d t → depth t < 65
unfolding FitsTy
fits-deep n d t h = let q = h.0 in omega arith

pub fits_below : (n d : ℕ) (t : Ty) → n ≤ 256 → FitsTy n d t → Below 256 t
unfolding FitsTy
fits_below n d t l h = below_up n 256 t l h.1

-- a declaration's kind and the bytes after it
unfoldable pub kind : Decl → ℕ
kind (plain p) = 0x10
kind (typed p t) = 0x11
kind (annotated p s) = 0x12

unfoldable pub after_kind : Decl → List ℕ
after_kind (plain p) = []
after_kind (typed p t) = spell t
after_kind (annotated p s) = spell_spelling s

-- and the head that they say, whose end is e
unfoldable opening : Decl → ℕ → DeclHead
opening (plain p) e = Plain (place e)
opening (typed p t) e = Typed (place e)
opening (annotated p s) e = Annotated (place e)

opening-end : (d : Decl) (e : ℕ) → (decl_end (opening d e)).0 ≡ e
unfolding opening decl_end
opening-end (plain p) e = refl
opening-end (typed p t) e = refl
opening-end (annotated p s) e = refl

decl_bytes : (d : Decl) → spell_decl d ≡ kind d ∷ after_kind d
unfolding spell_decl kind after_kind
decl_bytes (plain p) = refl
decl_bytes (typed p t) = refl
decl_bytes (annotated p s) = refl

module _ (Γ : Env) (env : List ℕ) (cap room : ℕ) (wide : cap ≤ 32768) (brief : length env ≤ 65536) (s : List ℕ) (short : length s ≤ 65536) (most : ℕ) (few : most ≤ 256) where
  abbrev To : Mach → ℕ → U → Mach → Type 0
  To m n _ v = Stood {A = U} (m.st.at.0 + n) m.st.from.0 tt v

  -- the machine at a place
  abbrev placed : ℕ → Mach → Mach
  placed e m = with_st (placed_of e m.st) m

  placed_at : (e : ℕ) (m : Mach) → m.st.stop ≡ 0 → placed e m ≡ with_st (standing e m.st.from.0 m.st.last.0 m.st) m
  placed_at e m g = ap (λ (v : State). with_st v m) (placed_eq e m.st g)

  -- ---- heads where the bytes are known
  byte_first : (p k : ℕ) (l : List ℕ) → drop p s ≡ k ∷ l → byte_at (reach s) (place p) ≡ Some (k, place (p + 1))
  byte_first p k l e = ap (λ (z : List ℕ). byte_at z (place p)) (reach-all s (omega arith)) ∙ byte_here s p k l e

  decl_first : (z : Decl) (p : ℕ) (rest : List ℕ) → drop p s ≡ kind z ∷ rest → decl_head (reach s) (place p) ≡ Some (opening z (p + 1))
  unfolding kind opening
  decl_first (plain r) p rest e = ap (λ (z : List ℕ). decl_head z (place p)) (reach-all s (omega arith)) ∙ head_plain s p rest e
  decl_first (typed r t) p rest e = ap (λ (z : List ℕ). decl_head z (place p)) (reach-all s (omega arith)) ∙ head-typed s p rest e
  decl_first (annotated r x) p rest e = ap (λ (z : List ℕ). decl_head z (place p)) (reach-all s (omega arith)) ∙ head-annotated s p rest e

  -- a type's first byte is not 4F
  type-first : (t : Ty) (rest : List ℕ) (p : ℕ) → drop p s ≡ spell t ++ rest → (k : ℕ) × (byte_at (reach s) (place p) ≡ Some (k, place (p + 1))) × (k ≡ 0x4F → ⊥)
  unfolding spell spell_atom
  type-first (base bool) rest p e = (0x40, byte_first p 0x40 rest e, λ q. omega arith)
  type-first (base int) rest p e = (0x41, byte_first p 0x41 rest e, λ q. omega arith)
  type-first (base (given x)) rest p e = (0x42, byte_first p 0x42 _ e, λ q. omega arith)
  type-first (pow t) rest p e = (0x43, byte_first p 0x43 (spell t ++ rest) e, λ q. omega arith)
  type-first (prod t u) rest p e = (0x44, byte_first p 0x44 ((spell t ++ spell u) ++ rest) e, λ q. omega arith)

  -- ---- an ascription
  asc_none : (x p : ℕ) (m : Mach) → byte_at (reach s) m.st.at ≡ Some (0x4F, place (m.st.at.0 + 1)) → ascription_of s env x p m ≡ placed (m.st.at.0 + 1) (list_of 0 m.st.at.0 0xFFFF m)
  unfolding ascription_of ascription_by then test
  asc_none x p m e = ap (λ (b : Option (ℕ × Place)). ascription_by s env x p b m) e

  asc_type : (x p k : ℕ) (m : Mach) → byte_at (reach s) m.st.at ≡ Some (k, place (m.st.at.0 + 1)) → (k ≡ 0x4F → ⊥) → ascription_of s env x p m ≡ spelled_of s env x m.st.at.0 p m
  unfolding ascription_of ascription_by then
  asc_type x p k m e h = ap (λ (b : Option (ℕ × Place)). ascription_by s env x p b m) e ∙ test_no (eqb k 0x4F) _ _ (ne_eqb k 0x4F h)

  pub runs_ascription : (z : Spelling) (d x p : ℕ) (m : Mach) (B rest : List ℕ) → FitsSpelling most d z → drop m.st.at.0 s ≡ spell_spelling z ++ rest
      → Runs Γ env cap room m (ascription_of s env x p m) (ascription Γ z x m.st.at.0 p) B (λ _. B) (To m (length (spell_spelling z)))
  unfolding ascription spell_spelling FitsSpelling
  runs_ascription (spells t) d x p m B rest f e =
      runs_if Γ env cap room m (ascription_of s env x p m) (spelled_of s env x m.st.at.0 p m) (spelled Γ t x m.st.at.0 p) B (λ _. B) _ (λ g. (let h = type-first t rest m.st.at.0 e in asc_type x p h.0 m h.1 h.2))
      (runs_spelled Γ env cap room wide brief s short B t x m.st.at.0 p m rest (fits-deep most d t f) (fits_below most d t few f) e)
  runs_ascription no_type d x p m B rest f e =
      let m1 : Mach = list_of 0 m.st.at.0 0xFFFF m in
      let E : ℕ = m.st.at.0 + 1 in
      runs_if Γ env cap room m (ascription_of s env x p m) (placed E m1) (problem 0 m.st.at.0) B (λ _. B) _ (λ g. asc_none x p m (byte_first m.st.at.0 0x4F rest e))
      (runs_then Γ env cap room m m1 (placed E m1) (problem 0 m.st.at.0) B (λ _. B) (λ _ v. Stood {A = U} m.st.at.0 m.st.from.0 tt v) (To m 1)
      (λ h. ap (λ (v : State). v.stop) (still_placed E m1.st h))
      (λ _ g c. (E, m1.st.from.0, m1.st.last.0, placed_at E m1 g, (refl, c.1)))
      (runs_list Γ env cap room wide 0 m.st.at.0 m B))

  -- ---- what a declaration's head asks
  claim-plain : (e : ℕ) (x p : ℕ) (m : Mach) → claim_of s env (Plain (place e)) x p m ≡ m
  unfolding claim_of
  claim-plain e x p m = refl

  claim-typed : (e : ℕ) (x p : ℕ) (m : Mach) → claim_of s env (Typed (place e)) x p m ≡ meets_of s x p m
  unfolding claim_of
  claim-typed e x p m = refl

  claim-none : (e x p : ℕ) (m : Mach) → byte_at (reach s) m.st.at ≡ Some (0x4F, place (m.st.at.0 + 1)) → claim_of s env (Annotated (place e)) x p m ≡ placed (m.st.at.0 + 1) m
  unfolding claim_of annotation_by then test
  claim-none e x p m h = ap (λ (b : Option (ℕ × Place)). annotation_by s env x p b m) h

  claim-spelled : (e x p k : ℕ) (m : Mach) → byte_at (reach s) m.st.at ≡ Some (k, place (m.st.at.0 + 1)) → (k ≡ 0x4F → ⊥) → claim_of s env (Annotated (place e)) x p m ≡ spelled_of s env x p p m
  unfolding claim_of annotation_by then
  claim-spelled e x p k m h n = ap (λ (b : Option (ℕ × Place)). annotation_by s env x p b m) h ∙ test_no (eqb k 0x4F) _ _ (ne_eqb k 0x4F n)

  runs_claim : (z : Decl) (d x p n : ℕ) (m : Mach) (B rest : List ℕ) → FitsDecl most d z → PlacedDecl p z → drop m.st.at.0 s ≡ after_kind z ++ rest
      → Runs Γ env cap room m (claim_of s env (opening z n) x p m) (claim Γ z x) B (λ _. B) (To m (length (after_kind z)))
  unfolding claim opening after_kind FitsDecl PlacedDecl FitsSpelling spell_spelling
  runs_claim (plain r) d x p n m B rest f w e =
      let z : m.st.at.0 ≡ m.st.at.0 + 0 = omega arith in
      runs_if Γ env cap room m (claim_of s env (Plain (place n)) x p m) m (done tt) B (λ _. B) (To m 0) (λ g. claim-plain n x p m)
      (runs_stand Γ env cap room m m.st.at.0 m.st.from.0 m.st.last.0 tt B (To m 0) (z, refl))
  runs_claim (typed r t) d x p n m B rest f w e =
      subst (λ (q : ℕ). Runs Γ env cap room m (claim_of s env (Typed (place n)) x p m) (meets Γ t x q) B (λ _. B) (To m (length (spell t)))) (sym w)
      (runs_if Γ env cap room m (claim_of s env (Typed (place n)) x p m) (meets_of s x p m) (meets Γ t x p) B (λ _. B) (To m (length (spell t))) (λ g. claim-typed n x p m)
      (runs_meets Γ env cap room wide brief s short B t x p m rest (fits-deep most (suc d) t f.1) (fits_below most (suc d) t few f.1) e))
  runs_claim (annotated r (spells t)) d x p n m B rest f w e =
      subst (λ (q : ℕ). Runs Γ env cap room m (claim_of s env (Annotated (place n)) x p m) (spelled Γ t x q q) B (λ _. B) (To m (length (spell t)))) (sym w)
      (runs_if Γ env cap room m (claim_of s env (Annotated (place n)) x p m) (spelled_of s env x p p m) (spelled Γ t x p p) B (λ _. B) (To m (length (spell t))) (λ g. (let h = type-first t rest m.st.at.0 e in claim-spelled n x p h.0 m h.1 h.2))
      (runs_spelled Γ env cap room wide brief s short B t x p p m rest (fits-deep most (suc d) t f.1) (fits_below most (suc d) t few f.1) e))
  runs_claim (annotated r no_type) d x p n m B rest f w e =
      runs_if Γ env cap room m (claim_of s env (Annotated (place n)) x p m) (with_st (standing (m.st.at.0 + 1) m.st.from.0 m.st.last.0 m.st) m) (done tt) B (λ _. B) (To m 1)
      (λ g. claim-none n x p m (byte_first m.st.at.0 0x4F rest e) ∙ placed_at (m.st.at.0 + 1) m g)
      (runs_stand Γ env cap room m (m.st.at.0 + 1) m.st.from.0 m.st.last.0 tt B (To m 1) (refl, refl))

  -- ---- a declaration opened
  abbrev pushed : Mach → Mach
  pushed m = record {
    st = record { at = m.st.at; from = m.st.from; last = m.st.last; nodes = m.st.nodes; budget = m.st.budget; slots = m.st.slots; met = m.st.met; bound = m.st.bound + 1; bytes = m.st.bytes; over = m.st.over; stop = m.st.stop };
    arena = m.arena;
    book = set m.book (cell 3328 1 m.st.bound 0) m.st.last.0;
    out = m.out;
  }

  push_eq : (m : Mach) → m.st.stop ≡ 0 → m.st.bound < 64 → push_bound_of m ≡ pushed m
  unfolding push_bound_of put_of bound_of then
  push_eq m e l = test_yes (eqb m.st.stop 0) _ _ (eq-eqb m.st.stop 0 e) ∙ test_yes (ltb m.st.bound 64) _ _ (lt-ltb m.st.bound 64 l)
      ∙ ap (λ (v : State). record { st = v; arena = m.arena; book = set m.book (cell 3328 1 m.st.bound 0) m.st.last.0; out = m.out }) (test_yes (eqb m.st.stop 0) _ _ (eq-eqb m.st.stop 0 e))

  books_pushed : (m : Mach) (row : Row) (B : List ℕ) → length B < 64 → Books Γ env cap room m row B → Books Γ env cap room (pushed m) row (m.st.last.0 ∷ B)
  books_pushed m row B l o =
      let k = o.bound in
      let n = o.long in
      let i0 : ℕ = cell 3328 1 m.st.bound 0 in
      let r : ℕ = m.st.last.0 in
      let z : length B ≡ m.st.bound = sym k in
      record {
        long = length-set m.book i0 r ∙ o.long;
        refs = λ x b. noted-kept Γ env cap room m.book (pushed m).book x (λ i u v. get_or-set_other m.book i0 i r 0 (λ e. omega arith)) (find x row) (o.refs x b);
        met = o.met;
        spare = o.spare;
        rows = listed_kept Γ env cap room m.book (pushed m).book 0 (names Γ row) (λ i u v. (let q = o.spare in get_or-set_other m.book i0 i r 0 (λ e. omega arith))) o.rows;
        bound = omega arith;
        shallow = l;
        opened = (
          ap (λ (j : ℕ). get_or (pushed m).book (cell 3328 1 j 0) 0) z ∙ get_or-set_same m.book i0 r 0 (omega arith),
          opened-kept Γ env cap room m.book (pushed m).book B (λ i u v. get_or-set_other m.book i0 i r 0 (λ e. omega arith)) o.opened,
        );
        entries = λ x b. entered_kept Γ env cap room m.book (pushed m).book x (get_or-set_other m.book i0 (cell 3392 1 x 0) r 0 (λ e. omega arith)) (Γ x) (o.entries x b);
      }

  runs_push : (m : Mach) (B : List ℕ) → length B < 64 → Runs Γ env cap room m (push_bound_of m) (done tt) B (λ _. m.st.last.0 ∷ B) (To m 0)
  unfolding done
  runs_push m B l = record {
    ends = λ b row s1 o q fit. (
        let k = o.bound in
        let z : m.st.at.0 ≡ m.st.at.0 + 0 = omega arith in
        subst (λ (y : Mach). Ended Γ env cap room m y (done tt b.count row) (m.st.last.0 ∷ B) (To m 0) (exec cap [] b m.st.budget)) (sym (push_eq m s1.going (omega arith)))
        (subst (λ (x : Out U Bench). Ended Γ env cap room m (pushed m) (done tt b.count row) (m.st.last.0 ∷ B) (To m 0) x) (sym (exec_nil cap b m.st.budget)) (
          record { going = s1.going; count = s1.count; words = s1.words; sized = s1.sized; counted = s1.counted; ready = s1.ready; wrote = s1.wrote },
          books_pushed m row B l o,
          refl,
          record { taken = omega arith; filled = tt; kept = λ i u. get_or-set_other m.book (cell 3328 1 m.st.bound 0) i m.st.last.0 0 (λ e. omega arith) },
          (z, refl),
        )));
  }

  -- ---- declarations, one after the other
  abbrev Started : Mach → Mach
  Started m = with_st (enter_of m.st) m

  abbrev Fresh : Mach → Mach
  Fresh m = make_of 0x4E 0 0 (placed (m.st.at.0 + 1) (Started m))

  abbrev Owned : Mach → Mach
  Owned m = leave_of m.st.slots m.st.at.0 (Fresh m)

  declaration_is : (m : Mach) (h : DeclHead) → decl_head (reach s) m.st.at ≡ Some h → (decl_end h).0 ≡ m.st.at.0 + 1 → declaration_of s env m ≡ claim_of s env h (Fresh m).st.last.0 m.st.at.0 (push_bound_of (Owned m))
  unfolding declaration_of declaration_by then
  declaration_is m h e q =
      ap (λ (k : Option DeclHead). declaration_by s env k m) e
      ∙ ap (λ (j : ℕ). (let b = make_of 0x4E 0 0 (placed j (Started m)) in claim_of s env h b.st.last.0 m.st.at.0 (push_bound_of (leave_of m.st.slots m.st.at.0 b)))) q

  owned_runs : (m : Mach) (B : List ℕ) → Runs Γ env cap room m (Owned m) (enter (own m.st.at.0 unknown)) B (λ _. B) (λ r v. Came (m.st.at.0 + 1) m.st.at.0 r v)
  owned_runs m B =
      let m0 : Mach = Started m in
      let E : ℕ = m.st.at.0 + 1 in
      runs_expr Γ env cap room m (Fresh m) m.st.at.0 E unknown B
      (λ h. ap (make_of 0x4E 0 0) (still_within (placed_of E) m0 (still_placed E m0.st h)) ∙ still_make 0x4E 0 0 m0 h)
      (runs_after Γ env cap room m0 (placed E m0) (Fresh m) E m0.st.from.0 m0.st.last.0 unknown B (λ _. B) (λ r v. Gave E r v) (λ g. placed_at E m0 g)
      (λ g. runs_map Γ env cap room (placed E m0) (Fresh m) unknown B (λ _. B) _ _ (λ r y. (y.0 ∙ ap (λ (x : Mach). x.st.at.0) (placed_at E m0 g), y.2)) (runs_make Γ env cap room wide 0x4E 0 0 (placed E m0) builds_unknown B)))

  abbrev Declared : Mach → List Decl → List ℕ → Mach → Type 0
  Declared m ds xs v = (v.st.at.0 ≡ m.st.at.0 + size_decls ds) × (length xs ≡ decls ds)

  listed-last : (e : Mach) (x p k : ℕ) (xs B : List ℕ) → e.st.at.0 ≡ p → length xs ≡ k → Runs Γ env cap room e e (done (x ∷ xs)) (over xs (x ∷ B)) (λ ys. over ys B) (λ ys v. (v.st.at.0 ≡ p) × (length ys ≡ suc k))
  unfolding over done
  listed-last e x p k xs B a n = record { ends = λ b row s1 o q l. (runs_stand Γ env cap room e e.st.at.0 e.st.from.0 e.st.last.0 (x ∷ xs) (over xs (x ∷ B)) (λ ys v. (v.st.at.0 ≡ p) × (length ys ≡ suc k)) (a, ap suc n)).ends b row s1 o q l }

  listed-none : (m : Mach) (B : List ℕ) → Runs Γ env cap room m m (done []) B (λ xs. over xs B) (λ xs v. (v.st.at.0 ≡ m.st.at.0 + 0) × (length xs ≡ 0))
  unfolding over done
  listed-none m B = let z : m.st.at.0 ≡ m.st.at.0 + 0 = omega arith in record { ends = λ b row s1 o q l. (runs_stand Γ env cap room {A = List ℕ} m m.st.at.0 m.st.from.0 m.st.last.0 [] B (λ xs v. (v.st.at.0 ≡ m.st.at.0 + 0) × (length xs ≡ 0)) (z, refl)).ends b row s1 o q l }

  at-placed : (z : Decl) (p : ℕ) → PlacedDecl p z → at_decl Γ z ≡ p
  unfolding at_decl PlacedDecl
  at-placed (plain r) p e = e
  at-placed (typed r t) p e = e
  at-placed (annotated r x) p e = e

  pub runs_declare : (ds : List Decl) (d : ℕ) (m : Mach) (B rest : List ℕ) → length B + decls ds ≤ 64 → FitsDecls most d ds → PlacedDecls m.st.at.0 ds → drop m.st.at.0 s ≡ spell_decls ds ++ rest
      → Runs Γ env cap room m (declare_of s env (decls ds) m) (declare Γ ds) B (λ xs. over xs B) (λ xs v. Declared m ds xs v)
  unfolding declare decls times_of spell_decls size_decls FitsDecls PlacedDecls
  runs_declare [] d m B rest l f w e = listed-none m B
  runs_declare (z ∷ ds) d m B rest l f w e =
      let P : ℕ = m.st.at.0 in
      let e0 : drop P s ≡ kind z ∷ (after_kind z ++ (spell_decls ds ++ rest)) = e ∙ assoc (spell_decl z) (spell_decls ds) rest ∙ ap (λ (k : List ℕ). k ++ (spell_decls ds ++ rest)) (decl_bytes z) in
      let e1 : drop (P + 1) s ≡ after_kind z ++ (spell_decls ds ++ rest) = drop_past s (kind z ∷ []) (after_kind z ++ (spell_decls ds ++ rest)) P e0 in
      let M1 : Mach = Owned m in
      let M2 : Mach = push_bound_of M1 in
      let D : Mach = declaration_of s env m in
      let F : Mach = declare_of s env (decls ds) D in
      let DI = declaration_is m (opening z (P + 1)) (decl_first z P (after_kind z ++ (spell_decls ds ++ rest)) e0) (opening-end z (P + 1)) in
      let sz : suc (length (after_kind z)) ≡ size_decl z = sym (ap length (decl_bytes z)) ∙ length_decl z in
      runs_bind Γ env cap room m M1 F (enter (own (at_decl Γ z) unknown)) (λ x. claim Γ z x >>= λ _. declare Γ ds >>= λ xs. done (x ∷ xs)) B (λ _. B) (λ xs. over xs B) (λ r v. Came (P + 1) P r v) (λ xs v. Declared m (z ∷ ds) xs v)
      (λ h. ap (λ (y : Mach). y.st.stop) (
      let p1 : M2 ≡ M1 = still_push M1 h in
      let p2 : D ≡ M1 = DI ∙ ap (claim_of s env (opening z (P + 1)) (Fresh m).st.last.0 P) p1 ∙ still_claim s env (opening z (P + 1)) (Fresh m).st.last.0 P M1 h in
      ap (declare_of s env (decls ds)) p2 ∙ still_declare s env (decls ds) M1 h))
      (λ x c. (
      let DD : D ≡ claim_of s env (opening z (P + 1)) x P M2 = DI ∙ ap (λ (r : ℕ). claim_of s env (opening z (P + 1)) r P M2) (sym (leave_last m.st.slots P (Fresh m)) ∙ c.2) in
      let c0 = c.0 in
      runs_prior Γ env cap room M1 M2 F tt (claim Γ z x >>= λ _. declare Γ ds >>= λ xs. done (x ∷ xs)) B (x ∷ B) (λ xs. over xs B) (To M1 0) (λ xs v. Declared m (z ∷ ds) xs v)
      (λ h. ap (λ (y : Mach). y.st.stop) (
      let p2 : D ≡ M2 = DD ∙ still_claim s env (opening z (P + 1)) x P M2 h in
      ap (declare_of s env (decls ds)) p2 ∙ still_declare s env (decls ds) M2 h))
      (subst (λ (r : ℕ). Runs Γ env cap room M1 M2 (done tt) B (λ _. r ∷ B) (To M1 0)) c.2 (runs_push M1 B (omega arith)))
      (λ _ c2. (
      let c20 = c2.0 in
      let a2 : M2.st.at.0 ≡ P + 1 = omega arith in
      runs_bind Γ env cap room M2 D F (claim Γ z x) (λ _. declare Γ ds >>= λ xs. done (x ∷ xs)) (x ∷ B) (λ _. x ∷ B) (λ xs. over xs B) (To M2 (length (after_kind z))) (λ xs v. Declared m (z ∷ ds) xs v)
      (λ h. ap (λ (y : Mach). y.st.stop) (still_declare s env (decls ds) D h))
      (λ _ c3. (
      let c30 = c3.0 in
      let a3 : D.st.at.0 ≡ P + size_decl z = omega arith in
      let a3' : D.st.at.0 ≡ P + 1 + length (after_kind z) = omega arith in
      runs_bind Γ env cap room D F F (declare Γ ds) (λ xs. done (x ∷ xs)) (x ∷ B) (λ xs. over xs (x ∷ B)) (λ xs. over xs B) (λ xs v. Declared D ds xs v) (λ xs v. Declared m (z ∷ ds) xs v)
      (λ h. refl)
      (λ xs c4. (let c40 = c4.0 in listed-last F x (P + (size_decl z + size_decls ds)) (decls ds) xs B (omega arith) c4.1))
      (runs_declare ds d D (x ∷ B) rest (omega arith) f.1 (subst (λ (k : ℕ). PlacedDecls k ds) (sym a3) w.1) (ap (λ (k : ℕ). drop k s) a3' ∙ drop_past s (after_kind z) (spell_decls ds ++ rest) (P + 1) e1))))
      (runs_if Γ env cap room M2 D (claim_of s env (opening z (P + 1)) x P M2) (claim Γ z x) (x ∷ B) (λ _. x ∷ B) (To M2 (length (after_kind z))) (λ g. DD)
      (runs_claim z d x P (P + 1) M2 (x ∷ B) (spell_decls ds ++ rest) f.0 w.0 (ap (λ (k : ℕ). drop k s) a2 ∙ e1)))))))
      (subst (λ (k : ℕ). Runs Γ env cap room m M1 (enter (own k unknown)) B (λ _. B) (λ r v. Came (P + 1) P r v)) (sym (at-placed z P w.0)) (owned_runs m B))
