-- A stopped machine stays as it is: every step of it is then no step.
-- After this file a sequence of steps may be cut after its first stop: what comes later changes nothing.
use Rattle.std.specs.Prelude.{Option, Some, None, ℕ, zero, suc, ◌+◌, ◌/◌, ◌%◌, ◌≡◌, refl, Bool, true, false, List, [], ◌∷◌, eqb, ltb, leb, ◌<◌, ◌≤◌}
use Rattle.std.proofs.Common.{◌∙◌, ap, eq-eqb, ne_eqb, lt-ltb, le-ltb, le-leb}
use Rattle.std.proofs.lemmas.Bool.{lt-leb}
use Rattle.heads.specs.declared.DeclHead.{DeclHead}
use Rattle.heads.specs.declared.DeclHead.TheVariants.{Plain, Typed, Annotated}
use Rattle.types.specs.declared.Place.{Place}
use Rattle.types.specs.Record.{reach}
use Rattle.types.specs.Ty.{Atom, bool, int, given}
use Rattle.heads.specs.Heads.{byte_at, decl_head, decl_end}
use Rattle.machine.specs.State.{State}
use Rattle.operators.specs.declared.Script.{Script}
use Rattle.operators.specs.declared.Item.{Item}
use Rattle.operators.specs.declared.Item.TheVariants.{Unknown, Boolean, Integer, Power, Product, Equal}
use Rattle.machine.specs.declared.Parts.{Parts}
use Rattle.forms.specs.Forms.{test, then}
use Rattle.machine.specs.Machine.{Mach, with_st, stopped_of, placed_of, gave_of, bound_of, paid_of, enter_of, emit_of, two_of, four_of, list_of, make_of, expect_of, leave_of, remember_of, enrol_of, push_bound_of}
use Rattle.machine.specs.Types.{skip_of, atom_of, lift_of, note_of, noted_of, free_of, bound_identifier_of, notes_of, meets_of, spelled_of, ascription_by, ascription_of, annotation_by, claim_of, declaration_by, declaration_of, times_of, declare_of}
use Rattle.operators.specs.Scripts.{items_in, given_by}
use Rattle.machine.specs.Scripts.{chosen_of, place_of, item_of, items_of, play_of}

-- a test whose outcome is known
pub test_yes : {A : Type 0} (c : Bool) (x y : Unit {0} → A) → c ≡ true → test c x y ≡ x tt
unfolding test
test_yes c x y e = rw e refl

pub test_no : {A : Type 0} (c : Bool) (x y : Unit {0} → A) → c ≡ false → test c x y ≡ y tt
unfolding test
test_no c x y e = rw e refl

-- the same for a test of numbers
pub test_true : {A : Type 0} (x y : Unit {0} → A) → test true x y ≡ x tt
unfolding test
test_true x y = refl

pub test_eq : {A : Type 0} (m n : ℕ) (x y : Unit {0} → A) → m ≡ n → test (eqb m n) x y ≡ x tt
test_eq m n x y h = test_yes (eqb m n) x y (eq-eqb m n h)

pub test_ne : {A : Type 0} (m n : ℕ) (x y : Unit {0} → A) → (m ≡ n → ⊥) → test (eqb m n) x y ≡ y tt
test_ne m n x y h = test_no (eqb m n) x y (ne_eqb m n h)

pub test_lt : {A : Type 0} (m n : ℕ) (x y : Unit {0} → A) → m < n → test (ltb m n) x y ≡ x tt
test_lt m n x y h = test_yes (ltb m n) x y (lt-ltb m n h)

pub test_ge : {A : Type 0} (m n : ℕ) (x y : Unit {0} → A) → n ≤ m → test (ltb m n) x y ≡ y tt
test_ge m n x y h = test_no (ltb m n) x y (le-ltb m n h)

pub test_le : {A : Type 0} (m n : ℕ) (x y : Unit {0} → A) → m ≤ n → test (leb m n) x y ≡ x tt
test_le m n x y h = test_yes (leb m n) x y (le-leb m n h)

pub test_gt : {A : Type 0} (m n : ℕ) (x y : Unit {0} → A) → n < m → test (leb m n) x y ≡ y tt
test_gt m n x y h = test_no (leb m n) x y (lt-leb m n h)

pub ruleset tests = (test_true, test_yes, test_no, test_eq, test_ne, test_lt, test_ge, test_le, test_gt)

-- either way
pub test-both : {A : Type 0} (c : Bool) (x y : Unit {0} → A) (z : A) → x tt ≡ z → y tt ≡ z → test c x y ≡ z
unfolding test
test-both true x y z e f = e
test-both false x y z e f = f

abbrev pub Stopped : State → Type 0
Stopped v = v.stop ≡ 0 → ⊥

-- ---- the state alone
pub still_stopped : (n : ℕ) (v : State) → Stopped v → stopped_of n v ≡ v
unfolding stopped_of
still_stopped n v h = test_no (eqb v.stop 0) _ _ (ne_eqb v.stop 0 h)

pub still_placed : (n : ℕ) (v : State) → Stopped v → placed_of n v ≡ v
unfolding placed_of
still_placed n v h = test_no (eqb v.stop 0) _ _ (ne_eqb v.stop 0 h)

pub still_gave : (n : ℕ) (v : State) → Stopped v → gave_of n v ≡ v
unfolding gave_of
still_gave n v h = test_no (eqb v.stop 0) _ _ (ne_eqb v.stop 0 h)

pub still_bound : (n : ℕ) (v : State) → Stopped v → bound_of n v ≡ v
unfolding bound_of
still_bound n v h = test_no (eqb v.stop 0) _ _ (ne_eqb v.stop 0 h)

pub still_paid : (v : State) → Stopped v → paid_of v ≡ v
unfolding paid_of
still_paid v h = test_no (eqb v.stop 0) _ _ (ne_eqb v.stop 0 h)

pub still_enter : (v : State) → Stopped v → enter_of v ≡ v
unfolding enter_of then
still_enter v h = ap (λ (w : State). test (eqb w.stop 0) (λ _. test (ltb w.slots 1024) (λ _. record { at = w.at; from = w.from; last = w.last; nodes = w.nodes; budget = w.budget; slots = w.slots + 1; met = w.met; bound = w.bound; bytes = w.bytes; over = w.over; stop = w.stop }) (λ _. stopped_of 2 w)) (λ _. w)) (still_paid v h)
    ∙ test_no (eqb v.stop 0) _ _ (ne_eqb v.stop 0 h)

pub still_skip : (l : ℕ) (s : List ℕ) (v : State) → Stopped v → skip_of l s v ≡ v
unfolding skip_of
still_skip zero s v h = test_no (eqb v.stop 0) _ _ (ne_eqb v.stop 0 h)
still_skip (suc l) s v h = test_no (eqb v.stop 0) _ _ (ne_eqb v.stop 0 h)

-- ---- the machine
abbrev pub Halted : Mach → Type 0
Halted m = Stopped m.st

-- a step of the state within the machine
pub still_within : (f : State → State) (m : Mach) → f m.st ≡ m.st → with_st (f m.st) m ≡ m
still_within f m e = ap (λ (v : State). with_st v m) e

pub still_emit : (b : ℕ) (m : Mach) → Halted m → emit_of b m ≡ m
unfolding emit_of
still_emit b m h = test_no (eqb m.st.stop 0) _ _ (ne_eqb m.st.stop 0 h)

pub still_two : (v : ℕ) (m : Mach) → Halted m → two_of v m ≡ m
unfolding two_of then
still_two v m h = ap (emit_of (v / 256 % 256)) (still_emit (v % 256) m h) ∙ still_emit (v / 256 % 256) m h

pub still_four : (v : ℕ) (m : Mach) → Halted m → four_of v m ≡ m
unfolding four_of then
still_four v m h = ap (two_of (v / 65536)) (still_two (v % 65536) m h) ∙ still_two (v / 65536) m h

pub still_list : (q p x : ℕ) (m : Mach) → Halted m → list_of q p x m ≡ m
unfolding list_of then
still_list q p x m h =
    ap (λ (a : Mach). two_of x (four_of p (emit_of q a))) (still_emit 0x60 m h)
    ∙ ap (λ (a : Mach). two_of x (four_of p a)) (still_emit q m h) ∙ ap (two_of x) (still_four p m h) ∙ still_two x m h

pub still_make : (k a b : ℕ) (m : Mach) → Halted m → make_of k a b m ≡ m
unfolding make_of
still_make k a b m h = test_no (eqb m.st.stop 0) _ _ (ne_eqb m.st.stop 0 h)

pub still_atom : (a : Atom) (m : Mach) → Halted m → atom_of a m ≡ m
unfolding atom_of
still_atom bool m h = still_make 0x40 0 0 m h
still_atom int m h = still_make 0x41 0 0 m h
still_atom (given x) m h = still_make 0x42 x 0 m h

pub still_expect : (a b p : ℕ) (m : Mach) → Halted m → expect_of a b p m ≡ m
unfolding expect_of
still_expect a b p m h = test_no (eqb m.st.stop 0) _ _ (ne_eqb m.st.stop 0 h)

pub still_leave : (k p : ℕ) (m : Mach) → Halted m → leave_of k p m ≡ m
unfolding leave_of
still_leave k p m h = test_no (eqb m.st.stop 0) _ _ (ne_eqb m.st.stop 0 h)

pub still_remember : (x : ℕ) (m : Mach) → Halted m → remember_of x m ≡ m
unfolding remember_of
still_remember x m h = test_no (eqb m.st.stop 0) _ _ (ne_eqb m.st.stop 0 h)

pub still_enrol : (x p : ℕ) (m : Mach) → Halted m → enrol_of x p m ≡ m
unfolding enrol_of
still_enrol x p m h = test_no (eqb m.st.stop 0) _ _ (ne_eqb m.st.stop 0 h)

pub still_push : (m : Mach) → Halted m → push_bound_of m ≡ m
unfolding push_bound_of
still_push m h = test_no (eqb m.st.stop 0) _ _ (ne_eqb m.st.stop 0 h)

pub still_lift : (l : ℕ) (s : List ℕ) (m : Mach) → Halted m → lift_of l s m ≡ m
unfolding lift_of
still_lift zero s m h = test_no (eqb m.st.stop 0) _ _ (ne_eqb m.st.stop 0 h)
still_lift (suc l) s m h = test_no (eqb m.st.stop 0) _ _ (ne_eqb m.st.stop 0 h)

pub still_free : (env : List ℕ) (x p : ℕ) (m : Mach) → Halted m → free_of env x p m ≡ m
unfolding free_of
still_free env x p m h = test_no (eqb m.st.stop 0) _ _ (ne_eqb m.st.stop 0 h)

pub still_identifier : (i p : ℕ) (m : Mach) → Halted m → bound_identifier_of i p m ≡ m
unfolding bound_identifier_of
still_identifier i p m h = test_no (eqb m.st.stop 0) _ _ (ne_eqb m.st.stop 0 h)

pub still_noted : (env : List ℕ) (p : ℕ) (a : Atom) (m : Mach) → Halted m → noted_of env p a m ≡ m
unfolding noted_of note_of
still_noted env p bool m h = refl
still_noted env p int m h = refl
still_noted env p (given x) m h = test_no (eqb m.st.stop 0) _ _ (ne_eqb m.st.stop 0 h)

pub still_notes : (l : ℕ) (s env : List ℕ) (p : ℕ) (m : Mach) → Halted m → notes_of l s env p m ≡ m
unfolding notes_of
still_notes zero s env p m h = test_no (eqb m.st.stop 0) _ _ (ne_eqb m.st.stop 0 h)
still_notes (suc l) s env p m h = test_no (eqb m.st.stop 0) _ _ (ne_eqb m.st.stop 0 h)

pub still_meets : (s : List ℕ) (x p : ℕ) (m : Mach) → Halted m → meets_of s x p m ≡ m
unfolding meets_of then
still_meets s x p m h = ap (λ (a : Mach). expect_of x a.st.last.0 p a) (still_lift 65 s m h) ∙ still_expect x m.st.last.0 p m h

pub still_spelled : (s env : List ℕ) (x q p : ℕ) (m : Mach) → Halted m → spelled_of s env x q p m ≡ m
unfolding spelled_of then
still_spelled s env x q p m h =
    ap (λ (a : Mach). meets_of s x p (with_st (placed_of m.st.at.0 a.st) a)) (still_notes 65 s env q m h)
    ∙ ap (λ (v : State). meets_of s x p (with_st v m)) (still_placed m.st.at.0 m.st h) ∙ still_meets s x p m h

still_asked : (s env : List ℕ) (x p : ℕ) (b : Option (ℕ × Place)) (m : Mach) → Halted m → ascription_by s env x p b m ≡ m
unfolding ascription_by then
still_asked s env x p None m h = still_within (stopped_of 2) m (still_stopped 2 m.st h)
still_asked s env x p (Some b) m h =
    test-both (eqb b.0 0x4F) _ _ m
    (ap (λ (a : Mach). with_st (placed_of b.1.0 a.st) a) (still_list 0 m.st.at.0 0xFFFF m h) ∙ still_within (placed_of b.1.0) m (still_placed b.1.0 m.st h))
    (still_spelled s env x m.st.at.0 p m h)

pub still_ascription : (s env : List ℕ) (x p : ℕ) (m : Mach) → Halted m → ascription_of s env x p m ≡ m
unfolding ascription_of then
still_ascription s env x p m h = still_asked s env x p (byte_at (reach s) m.st.at) m h

still_annotation : (s env : List ℕ) (x p : ℕ) (b : Option (ℕ × Place)) (m : Mach) → Halted m → annotation_by s env x p b m ≡ m
unfolding annotation_by then
still_annotation s env x p None m h = still_within (stopped_of 2) m (still_stopped 2 m.st h)
still_annotation s env x p (Some b) m h = test-both (eqb b.0 0x4F) _ _ m (still_within (placed_of b.1.0) m (still_placed b.1.0 m.st h)) (still_spelled s env x p p m h)

pub still_claim : (s env : List ℕ) (k : DeclHead) (x p : ℕ) (m : Mach) → Halted m → claim_of s env k x p m ≡ m
unfolding claim_of then
still_claim s env (Plain e) x p m h = refl
still_claim s env (Typed e) x p m h = still_meets s x p m h
still_claim s env (Annotated e) x p m h = still_annotation s env x p (byte_at (reach s) m.st.at) m h

still_headed : (s env : List ℕ) (k : Option DeclHead) (m : Mach) → Halted m → declaration_by s env k m ≡ m
unfolding declaration_by then
still_headed s env None m h = still_within (stopped_of 2) m (still_stopped 2 m.st h)
still_headed s env (Some k) m h =
    let q : ℕ = (decl_end k).0 in
    ap (λ (v : State). (let b = make_of 0x4E 0 0 (with_st (placed_of q v) m) in claim_of s env k b.st.last.0 m.st.at.0 (push_bound_of (leave_of m.st.slots m.st.at.0 b)))) (still_enter m.st h)
    ∙ ap (λ (v : State). (let b = make_of 0x4E 0 0 (with_st v m) in claim_of s env k b.st.last.0 m.st.at.0 (push_bound_of (leave_of m.st.slots m.st.at.0 b)))) (still_placed q m.st h)
    ∙ ap (λ (b : Mach). claim_of s env k b.st.last.0 m.st.at.0 (push_bound_of (leave_of m.st.slots m.st.at.0 b))) (still_make 0x4E 0 0 m h)
    ∙ ap (λ (b : Mach). claim_of s env k m.st.last.0 m.st.at.0 (push_bound_of b)) (still_leave m.st.slots m.st.at.0 m h)
    ∙ ap (λ (b : Mach). claim_of s env k m.st.last.0 m.st.at.0 b) (still_push m h)
    ∙ still_claim s env k m.st.last.0 m.st.at.0 m h

pub still_declaration : (s env : List ℕ) (m : Mach) → Halted m → declaration_of s env m ≡ m
unfolding declaration_of then
still_declaration s env m h = still_headed s env (decl_head (reach s) m.st.at) m h

pub still_times : (f : Mach → Mach) (m : Mach) → f m ≡ m → (n : ℕ) → times_of f n m ≡ m
unfolding times_of
still_times f m e zero = refl
still_times f m e (suc n) = ap (times_of f n) e ∙ still_times f m e n

pub still_declare : (s env : List ℕ) (n : ℕ) (m : Mach) → Halted m → declare_of s env n m ≡ m
still_declare s env n m h = still_times (declaration_of s env) m (still_declaration s env m h) n

pub still_item : (it : Item) (p : Parts) (m : Mach) → Halted m → item_of it p m ≡ m
unfolding item_of then
still_item Unknown p m h = still_make 0x4E 0 0 m h
still_item Boolean p m h = still_make 0x40 0 0 m h
still_item Integer p m h = still_make 0x41 0 0 m h
still_item (Power x) p m h = still_make 0x43 (chosen_of x p).0 0 m h
still_item (Product x y) p m h = still_make 0x44 (chosen_of x p).0 (chosen_of y p).0 m h
still_item (Equal x y seat) p m h = still_expect (chosen_of x p).0 (chosen_of y p).0 (place_of seat p).0 m h

pub still_items : (p : Parts) (its : List Item) (m : Mach) → Halted m → items_of p its m ≡ m
unfolding items_of
still_items p [] m h = refl
still_items p (it ∷ its) m h = ap (items_of p its) (still_item it p m h) ∙ still_items p its m h

pub still_play : (n : Script) (p : Parts) (m : Mach) → Halted m → play_of n p m ≡ m
unfolding play_of then
still_play n p m h =
    ap (λ (a : Mach). with_st (gave_of (chosen_of (given_by n) p).0 a.st) a) (still_items p (items_in n) m h)
    ∙ still_within (gave_of (chosen_of (given_by n) p).0) m (still_gave (chosen_of (given_by n) p).0 m.st h)
