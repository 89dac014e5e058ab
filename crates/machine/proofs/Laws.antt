-- Laws that the proofs of the machine's steps cite: what the unifier's answers do, and the recursive
-- readers at a number of levels.
use Rattle.std.proofs.Common.{ℕ, zero, suc, ◌+◌, ◌-◌, ◌/◌, ◌%◌, ◌≤◌, ◌<◌, sym, arith, sub-one, List, ◌≡◌, ap, ◌∙◌, refl, eqb, length, drop, set, drop_of_length-le}
use Rattle.std.proofs.Math.Seq.{set_out}
use Rattle.std.proofs.lemmas.List.{drop_more}
use Rattle.meter.specs.Meter.{Out, M, ret, fail}
use Rattle.unification.specs.Arena as A
use Rattle.unification.specs.Make.{build}
use Rattle.unification.specs.Nodes.{node_is}
use Rattle.types.specs.declared.NodeRef.{NodeRef}
use Rattle.types.specs.declared.Node.{Node}
use Rattle.types.specs.declared.Node.TheVariants.{Unknown, Leaf, Power, Product}
use Rattle.types.specs.declared.Atom.TheVariants as At
use Rattle.types.specs.Code.{atom_is}
use Rattle.makers.specs.declared.MakeError.{MakeError}
use Rattle.makers.specs.declared.MakeError.TheVariants as Ma
use Rattle.unifier.specs.declared.Halt.{Halt}
use Rattle.unifier.specs.declared.Halt.TheVariants as Ha
use Rattle.unifier.specs.declared.Verdict.{Verdict}
use Rattle.unifier.specs.declared.Verdict.TheVariants as Ve
use Rattle.machine.specs.Still.{test_eq, still_items}
use Rattle.std.specs.Prelude.{Result, Ok, Err, get_or}
use Rattle.makers.specs.Answers.{made}
use Rattle.unifier.specs.Answers.{settled}
use Rattle.machine.specs.State.{State}
use Rattle.forms.specs.Forms.{test, then}
use Rattle.operators.specs.declared.Item.{Item}
use Rattle.machine.specs.declared.Parts.{Parts}
use Rattle.machine.specs.Seen.{machine, made_of, unmade, halted, stop_number}
use Rattle.machine.specs.declared.Machine.{Machine}
use Rattle.machine.specs.Types.{atom_of, type_head, skip_by, skip_of, lift_by, lift_of, notes_by, notes_of, times_of}
use Rattle.machine.specs.Scripts.{item_of, items_of}
use Rattle.machine.specs.Machine.{Mach, whole, with_st, on_st, expect_of, stopped_of, grown_of, left_of, grown_by, settled_by, judged_by, list_of, make_of, emit_of, two_of, four_of}

-- ---- four bytes, the lowest first
pub four_bytes : (v : ℕ) (m : Mach) → four_of v m ≡ emit_of (v / 16777216 % 256) (emit_of (v / 65536 % 256) (emit_of (v / 256 % 256) (emit_of (v % 256) m)))
unfolding four_of two_of then
four_bytes v m =
    let a : v % 65536 % 256 ≡ v % 256 = omega arith in
    let b : v % 65536 / 256 % 256 ≡ v / 256 % 256 = omega arith in
    let d : v / 65536 / 256 % 256 ≡ v / 16777216 % 256 = omega arith in
    rw a (rw b (rw d refl))

-- ---- what the unifier's answers do: m is the machine before, w the arena after
abbrev pub made_next : Result NodeRef MakeError → Mach → Mach
made_next (Ok t) m = on_st (grown_of t.0) m
made_next (Err e) m = on_st (stopped_of (stop_number (unmade e))) m

by_made : (x : Result NodeRef MakeError) (a c b out : List ℕ) (v : State) → grown_by (made x c 0) (whole v a b out) ≡ made_next x (whole v c b out)
unfolding grown_by then ret fail
by_made (Ok t) a c b out v = refl
by_made (Err Ma.Full) a c b out v = refl
by_made (Err Ma.Broken) a c b out v = refl

made_by : (node : Node) (m : Mach) → m.st.stop ≡ 0 → made_of node m ≡ grown_by (build m.arena m.st.nodes (node_is node) 0) m
unfolding make_of atom_of atom_is
made_by Unknown m h = test_eq m.st.stop 0 _ _ h
made_by (Leaf At.Bool) m h = test_eq m.st.stop 0 _ _ h
made_by (Leaf At.Integer) m h = test_eq m.st.stop 0 _ _ h
made_by (Leaf (At.Given x)) m h = test_eq m.st.stop 0 _ _ h
made_by (Power x) m h = test_eq m.st.stop 0 _ _ h
made_by (Product x y) m h = test_eq m.st.stop 0 _ _ h

pub makes : (m : Machine) (node : Node) (x : Result NodeRef MakeError) (w : List ℕ) → made x w ≡ build m.arena.now m.nodes (node_is node)
    → made_of node (machine m) ≡ made_next x (whole (machine m).st w m.book.now m.output.now)
makes m node x w e =
    made_by node (machine m) refl ∙ ap (λ (f : M (List ℕ) (ℕ × List ℕ)). grown_by (f 0) (machine m)) (sym e)
    ∙ by_made x m.arena.now w m.book.now m.output.now (machine m).st

abbrev pub verdict_next : Verdict → ℕ → Mach → Mach
verdict_next Ve.Done p m = m
verdict_next Ve.Mismatch p m = list_of 0 p 0xFFFF m
verdict_next Ve.Circular p m = list_of 1 p 0xFFFF m

abbrev pub settled_next : Result Verdict Halt → ℕ → ℕ → Mach → Mach
settled_next (Ok v) l p m = verdict_next v p (on_st (left_of l) m)
settled_next (Err h) l p m = on_st (stopped_of (stop_number (halted h))) m

by_settled : (x : Result Verdict Halt) (r p : ℕ) (a c b out : List ℕ) (v : State) → settled_by (settled x r c) p (whole v a b out) ≡ settled_next x r p (whole v c b out)
unfolding settled_by judged_by then
by_settled (Ok Ve.Done) r p a c b out v = refl
by_settled (Ok Ve.Mismatch) r p a c b out v = refl
by_settled (Ok Ve.Circular) r p a c b out v = refl
by_settled (Err Ha.Spent) r p a c b out v = refl
by_settled (Err Ha.Broken) r p a c b out v = refl

pub expects : (m : Machine) (a b p : ℕ) (x : Result Verdict Halt) (left : ℕ) (w : List ℕ) → settled x left w ≡ A.unify m.nodes (m.arena.now, a, b) m.budget
    → expect_of a b p (machine m) ≡ settled_next x left p (whole (machine m).st w m.book.now m.output.now)
unfolding expect_of test
expects m a b p x left w e =
    ap (λ (o : Out (List ℕ) A.Answer). settled_by o p (machine m)) (sym e)
    ∙ by_settled x left p m.arena.now w m.book.now m.output.now (machine m).st

-- ---- the book
pub set_outside : (w : List ℕ) (i x : ℕ) → length w ≤ i → set w i x ≡ w
set_outside = set_out

-- ---- the recursive readers, at a number of levels
pub skip_none : (l : ℕ) (s : List ℕ) (v : State) → l ≡ 0 → skip_of l s v ≡ test (eqb v.stop 0) (λ _. stopped_of 2 v) (λ _. v)
unfolding skip_of
skip_none l s v e = rw e

pub skip_more : (l : ℕ) (s : List ℕ) (v : State) → (l ≡ 0 → ⊥) → skip_of l s v ≡ test (eqb v.stop 0) (λ _. then (type_head s v.at.0) λ h. skip_by (λ y. skip_of (l - 1) s y) h v) (λ _. v)
unfolding skip_of
skip_more zero s v h = absurd (h refl)
skip_more (suc l) s v h = rw sub-one

pub lift_none : (l : ℕ) (s : List ℕ) (m : Mach) → l ≡ 0 → lift_of l s m ≡ test (eqb m.st.stop 0) (λ _. then (stopped_of 2 m.st) λ v. with_st v m) (λ _. m)
unfolding lift_of
lift_none l s m e = rw e

pub lift_more : (l : ℕ) (s : List ℕ) (m : Mach) → (l ≡ 0 → ⊥) → lift_of l s m ≡ test (eqb m.st.stop 0) (λ _. then (type_head s m.st.at.0) λ h. lift_by (λ y. lift_of (l - 1) s y) h m) (λ _. m)
unfolding lift_of
lift_more zero s m h = absurd (h refl)
lift_more (suc l) s m h = rw sub-one

pub notes_none : (l : ℕ) (s env : List ℕ) (p : ℕ) (m : Mach) → l ≡ 0 → notes_of l s env p m ≡ test (eqb m.st.stop 0) (λ _. then (stopped_of 2 m.st) λ v. with_st v m) (λ _. m)
unfolding notes_of
notes_none l s env p m e = rw e

pub notes_more : (l : ℕ) (s env : List ℕ) (p : ℕ) (m : Mach) → (l ≡ 0 → ⊥)
    → notes_of l s env p m ≡ test (eqb m.st.stop 0) (λ _. then (type_head s m.st.at.0) λ h. notes_by (λ y. notes_of (l - 1) s env p y) env p h m) (λ _. m)
unfolding notes_of
notes_more zero s env p m h = absurd (h refl)
notes_more (suc l) s env p m h = rw sub-one

pub ruleset levels = (skip_none, skip_more, lift_none, lift_more, notes_none, notes_more)

-- ---- loops, by the turns that are left: f is what a turn does to m
pub times_end : (f : Mach → Mach) (n i : ℕ) (m : Mach) → n ≤ i → times_of f (n - i) m ≡ m
unfolding times_of
times_end f n i m l = let e : n - i ≡ 0 = omega arith in rw e

pub times_turn : (f : Mach → Mach) (n i : ℕ) (m : Mach) → i < n → times_of f (n - i) m ≡ times_of f (n - (i + 1)) (f m)
unfolding times_of
times_turn f n i m l = let e : n - i ≡ suc (n - (i + 1)) = omega arith in rw e

pub items_end : (p : Parts) (its : List Item) (i : ℕ) (m : Mach) → length its ≤ i → items_of p (drop i its) m ≡ m
unfolding items_of
items_end p its i m l = ap (λ (k : List Item). items_of p k m) (drop_of_length-le its {i = i} l)

pub items_turn : (p : Parts) (its : List Item) (i : ℕ) (d : Item) (m : Mach) → i < length its → items_of p (drop i its) m ≡ items_of p (drop (i + 1) its) (item_of (get_or its i d) p m)
unfolding items_of
items_turn p its i d m l = ap (λ (k : List Item). items_of p k m) (drop_more its i d l)

-- a script that stops at an item
pub items_stop : (p : Parts) (its : List Item) (i : ℕ) (d : Item) (m x z : Mach) → i < length its → x ≡ item_of (get_or its i d) p m → (x.st.stop ≡ 0 → ⊥) → items_of p (drop i its) m ≡ z → z ≡ x
items_stop p its i d m x z l e h q = sym q ∙ items_turn p its i d m l ∙ ap (items_of p (drop (i + 1) its)) (sym e) ∙ still_items p (drop (i + 1) its) x h

pub ruleset turns = (times_end, times_turn, items_end, items_turn)
