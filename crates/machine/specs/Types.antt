-- Types in the stream, names, notes and declarations, as the machine meets them. A record is known by its head, the same that the test of form
-- reads. A type is read level by level: `left` levels are allowed.
use Rattle.std.specs.Prelude.{Option, Some, None, ℕ, zero, suc, ◌-◌, List, drop, eqb, ltb}
use Rattle.types.specs.declared.Place.{Place}
use Rattle.types.specs.Limits.{levels, max_names}
use Rattle.types.specs.Ty.{Atom, bool, int, given}
use Rattle.types.specs.Record.{Head, atomic, power, product, wrong, head_of, reach}
use Rattle.heads.specs.declared.DeclHead.{DeclHead}
use Rattle.heads.specs.declared.DeclHead.TheVariants.{Plain, Typed, Annotated}
use Rattle.heads.specs.Heads.{byte_at, decl_head, decl_end}
use Rattle.machine.specs.State.{State}
use Rattle.forms.specs.Forms.{test, then}
use Rattle.machine.specs.Machine.{Mach, with_st, cell, word_of, stopped_of, placed_of, passed_of, gave_of, enter_of, list_of, make_of, expect_of, leave_of, remember_of, enrol_of, push_bound_of}

-- the head of the type record at a place
abbrev pub type_head : List ℕ → ℕ → Head
type_head s p = head_of max_names p (drop p s)

-- past a type record, where f goes past a part
unfoldable pub skip_by : (State → State) → Head → State → State
skip_by f (atomic a e) v = passed_of e v
skip_by f (power e) v = then (passed_of e v) λ x. f x
skip_by f (product e) v = then (passed_of e v) λ x. then (f x) λ y. f y
skip_by f wrong v = stopped_of 2 v

unfoldable pub skip_of : ℕ → List ℕ → State → State
skip_of zero s v = test (eqb v.stop 0) (λ _. stopped_of 2 v) (λ _. v)
skip_of (suc l) s v = test (eqb v.stop 0) (λ _. then (type_head s v.at.0) λ h. skip_by (λ x. skip_of l s x) h v) (λ _. v)

-- a type without parts, as a node
unfoldable pub atom_of : Atom → Mach → Mach
atom_of bool m = make_of 0x40 0 0 m
atom_of int m = make_of 0x41 0 0 m
atom_of (given x) m = make_of 0x42 x 0 m

-- a type record as nodes
unfoldable pub lift_by : (Mach → Mach) → Head → Mach → Mach
lift_by f (atomic a e) m = then (passed_of e m.st) λ v. atom_of a (with_st v m)
lift_by f (power e) m = then (passed_of e m.st) λ v. then (f (with_st v m)) λ a. make_of 0x43 a.st.last.0 0 a
lift_by f (product e) m = then (passed_of e m.st) λ v. then (f (with_st v m)) λ a. then (f a) λ b. make_of 0x44 a.st.last.0 b.st.last.0 b
lift_by f wrong m = then (stopped_of 2 m.st) λ v. with_st v m

unfoldable pub lift_of : ℕ → List ℕ → Mach → Mach
lift_of zero s m = test (eqb m.st.stop 0) (λ _. then (stopped_of 2 m.st) λ v. with_st v m) (λ _. m)
lift_of (suc l) s m = test (eqb m.st.stop 0) (λ _. then (type_head s m.st.at.0) λ h. lift_by (λ x. lift_of l s x) h m) (λ _. m)

-- a free name: the reference it has, or an unknown of its own, or its environment type
unfoldable pub free_of : List ℕ → ℕ → ℕ → Mach → Mach
free_of env x p m =
    test (eqb m.st.stop 0)
    (λ _. then (word_of (cell 2816 2 x 0) m) λ known.
    test (eqb known 0)
    (λ _. then (word_of (cell 3392 1 x 0) m) λ entry.
    test (eqb entry 0)
    (λ _. then (make_of 0x4E 0 0 m) λ a. then (remember_of x a) λ b. enrol_of x p b)
    (λ _. then (placed_of (entry - 1) m.st) λ v.
    then (lift_of levels env (with_st v m)) λ b.
    then (remember_of x b) λ c.
    then (placed_of m.st.at.0 c.st) λ v. with_st v c))
    (λ _. then (word_of (cell 2816 2 x 1) m) λ r. then (gave_of r m.st) λ v. with_st v m))
    (λ _. m)

-- an index, counted from the innermost declaration
unfoldable pub bound_identifier_of : ℕ → ℕ → Mach → Mach
bound_identifier_of i p m =
    test (eqb m.st.stop 0)
    (λ _. test (ltb i m.st.bound)
    (λ _. then (word_of (cell 3328 1 (m.st.bound - 1 - i) 0) m) λ r. then (gave_of r m.st) λ v. with_st v m)
    (λ _. then (list_of 4 p 0xFFFF m) λ a. make_of 0x4E 0 0 a))
    (λ _. m)

-- a given name of a spelled type: where the environment lacks it, it has the type of its own power set
unfoldable pub note_of : List ℕ → ℕ → ℕ → Mach → Mach
note_of env x p m =
    test (eqb m.st.stop 0)
    (λ _. then (word_of (cell 3392 1 x 0) m) λ entry.
    test (eqb entry 0)
    (λ _. then (free_of env x p m) λ a.
    then (make_of 0x42 x 0 a) λ b.
    then (make_of 0x43 b.st.last.0 0 b) λ c.
    expect_of a.st.last.0 c.st.last.0 p c)
    (λ _. m))
    (λ _. m)

unfoldable pub noted_of : List ℕ → ℕ → Atom → Mach → Mach
noted_of env p bool m = m
noted_of env p int m = m
noted_of env p (given x) m = note_of env x p m

unfoldable pub notes_by : (Mach → Mach) → List ℕ → ℕ → Head → Mach → Mach
notes_by f env p (atomic a e) m = then (passed_of e m.st) λ v. noted_of env p a (with_st v m)
notes_by f env p (power e) m = then (passed_of e m.st) λ v. f (with_st v m)
notes_by f env p (product e) m = then (passed_of e m.st) λ v. then (f (with_st v m)) λ a. f a
notes_by f env p wrong m = then (stopped_of 2 m.st) λ v. with_st v m

unfoldable pub notes_of : ℕ → List ℕ → List ℕ → ℕ → Mach → Mach
notes_of zero s env p m = test (eqb m.st.stop 0) (λ _. then (stopped_of 2 m.st) λ v. with_st v m) (λ _. m)
notes_of (suc l) s env p m = test (eqb m.st.stop 0) (λ _. then (type_head s m.st.at.0) λ h. notes_by (λ x. notes_of l s env p x) env p h m) (λ _. m)

-- a type record against a reference
unfoldable pub meets_of : List ℕ → ℕ → ℕ → Mach → Mach
meets_of s x p m = then (lift_of levels s m) λ a. expect_of x a.st.last.0 p a

-- a spelled type: noted at q first, then read again
unfoldable pub spelled_of : List ℕ → List ℕ → ℕ → ℕ → ℕ → Mach → Mach
spelled_of s env x q p m =
    then (notes_of levels s env q m) λ a.
    then (placed_of m.st.at.0 a.st) λ v.
    meets_of s x p (with_st v a)

-- an ascription by its first byte: 4F stands for what is no type, and is listed
unfoldable pub ascription_by : List ℕ → List ℕ → ℕ → ℕ → Option (ℕ × Place) → Mach → Mach
ascription_by s env x p None m = then (stopped_of 2 m.st) λ v. with_st v m
ascription_by s env x p (Some b) m =
    test (eqb b.0 0x4F)
    (λ _. then (list_of 0 m.st.at.0 0xFFFF m) λ a. then (placed_of b.1.0 a.st) λ v. with_st v a)
    (λ _. spelled_of s env x m.st.at.0 p m)

unfoldable pub ascription_of : List ℕ → List ℕ → ℕ → ℕ → Mach → Mach
ascription_of s env x p m = then (byte_at (reach s) m.st.at) λ b. ascription_by s env x p b m

-- an annotation by its first byte: 4F says nothing
unfoldable pub annotation_by : List ℕ → List ℕ → ℕ → ℕ → Option (ℕ × Place) → Mach → Mach
annotation_by s env x p None m = then (stopped_of 2 m.st) λ v. with_st v m
annotation_by s env x p (Some b) m =
    test (eqb b.0 0x4F) (λ _. then (placed_of b.1.0 m.st) λ v. with_st v m)
    (λ _. spelled_of s env x p p m)

-- what a declaration's head says of its reference
unfoldable pub claim_of : List ℕ → List ℕ → DeclHead → ℕ → ℕ → Mach → Mach
claim_of s env (Plain e) x p m = m
claim_of s env (Typed e) x p m = meets_of s x p m
claim_of s env (Annotated e) x p m = then (byte_at (reach s) m.st.at) λ b. annotation_by s env x p b m

unfoldable pub declaration_by : List ℕ → List ℕ → Option DeclHead → Mach → Mach
declaration_by s env None m = then (stopped_of 2 m.st) λ v. with_st v m
declaration_by s env (Some h) m =
    then (enter_of m.st) λ e.
    then (decl_end h) λ q.
    then (placed_of q.0 e) λ v.
    then (make_of 0x4E 0 0 (with_st v m)) λ b.
    then (leave_of m.st.slots m.st.at.0 b) λ c.
    then (push_bound_of c) λ d.
    claim_of s env h b.st.last.0 m.st.at.0 d

unfoldable pub declaration_of : List ℕ → List ℕ → Mach → Mach
declaration_of s env m = then (decl_head (reach s) m.st.at) λ h. declaration_by s env h m

-- a step taken n times
unfoldable pub times_of : (Mach → Mach) → ℕ → Mach → Mach
times_of f zero m = m
times_of f (suc n) m = times_of f n (f m)

abbrev pub declare_of : List ℕ → List ℕ → ℕ → Mach → Mach
declare_of s env n m = times_of (declaration_of s env) n m
