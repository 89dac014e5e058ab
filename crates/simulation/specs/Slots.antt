-- A record entered: its unit is paid first; an expression's slot is taken before its parts' and filled after them.
-- After this file `runs_enter` serves every predicate, and `runs_expr` every expression but 0C.
use Prim.Native.Nat.{ℕ, zero, suc, ◌+◌, ◌-◌, ◌*◌, ◌≤◌, ◌<◌}
use Rattle.std.proofs.Math.Path.{◌≡◌, refl, sym, ap, subst}
use Rattle.std.proofs.Common.{◌∙◌, lt-ltb, eq-eqb, ne_eqb}
use mathlib.Core.List.{List, [], ◌∷◌}
use native.Mathlib.Omega.{arith}
use Rattle.std.specs.Prelude.{length, eqb, ltb}
use Rattle.std.proofs.Math.ListN.{get_or, set, length-set}
use Rattle.std.proofs.Math.Seq.{get_or-set_same, get_or-set_other}
use Rattle.meter.specs.Meter.{Out, spent, halt, broken, full}
use Rattle.meter.specs.Meter as Mt
use Rattle.formula.specs.Environment.{Entry, lacks, holds, Env}
use Rattle.unification.specs.Arena.{U}
use Rattle.unification.specs.Ops.{pay, Bench, Sound, exec}
use Rattle.unification.proofs.Exec.{exec_unpaid, exec-paid}
use Rattle.walk.specs.Writer.{Row, Found, at, absent, find, W, enter, own}
use Rattle.inference.specs.Finish.{Question, names}
use Rattle.machine.specs.State.{State}
use Rattle.forms.specs.Forms.{test, then}
use Rattle.machine.specs.Machine.{Mach, with_st, cell, put_of, stopped_of, left_of, arrived_of, paid_of, enter_of, leave_of}
use Rattle.simulation.specs.Relation.{Stands, Noted, Listed, Opened, Entered, Filled, Books, Ended, Runs}
use Rattle.simulation.specs.Stand.{books_as}
use Rattle.machine.specs.Still.{test_yes, test_no, still_leave}
use Rattle.simulation.specs.Nodes.{Came, Gave, stop_of}

-- the state with another budget and count of slots
abbrev pub charged : ℕ → ℕ → State → State
charged r k v = record { at = v.at; from = v.from; last = v.last; nodes = v.nodes; budget = r; slots = k; met = v.met; bound = v.bound; bytes = v.bytes; over = v.over; stop = v.stop }

pub paid_eq : (v : State) (r : ℕ) → v.stop ≡ 0 → v.budget ≡ suc r → paid_of v ≡ charged r v.slots v
unfolding paid_of left_of
paid_eq v r e f =
    let z : v.budget - 1 ≡ r = omega arith in
    test_yes (eqb v.stop 0) _ _ (eq-eqb v.stop 0 e) ∙ test_no (eqb v.budget 0) _ _ (ne_eqb v.budget 0 (λ q. omega arith)) ∙ test_yes (eqb v.stop 0) _ _ (eq-eqb v.stop 0 e)
    ∙ ap (λ (k : ℕ). charged k v.slots v) z

pub paid-none : (v : State) → v.stop ≡ 0 → v.budget ≡ 0 → (paid_of v).stop ≡ 7
unfolding paid_of
paid-none v e f = ap (λ (w : State). w.stop) (test_yes (eqb v.stop 0) _ _ (eq-eqb v.stop 0 e) ∙ test_yes (eqb v.budget 0) _ _ (eq-eqb v.budget 0 f)) ∙ stop_of 7 v e

pub enter_eq : (v : State) (r : ℕ) → v.stop ≡ 0 → v.budget ≡ suc r → v.slots < 1024 → enter_of v ≡ charged r (v.slots + 1) v
unfolding enter_of then
enter_eq v r e f l =
    ap (λ (w : State). test (eqb w.stop 0) (λ _. test (ltb w.slots 1024) (λ _. record { at = w.at; from = w.from; last = w.last; nodes = w.nodes; budget = w.budget; slots = w.slots + 1; met = w.met; bound = w.bound; bytes = w.bytes; over = w.over; stop = w.stop }) (λ _. stopped_of 2 w)) (λ _. w)) (paid_eq v r e f)
    ∙ test_yes (eqb v.stop 0) _ _ (eq-eqb v.stop 0 e) ∙ test_yes (ltb v.slots 1024) _ _ (lt-ltb v.slots 1024 l)

pub enter-none : (v : State) → v.stop ≡ 0 → v.budget ≡ 0 → (enter_of v).stop ≡ 7
unfolding enter_of then
enter-none v e f = let z = paid-none v e f in ap (λ (w : State). w.stop) (test_no (eqb (paid_of v).stop 0) _ _ (ne_eqb (paid_of v).stop 0 (λ q. omega arith))) ∙ z

-- two words set, another read
pub two_others : (c : List ℕ) (a b x y i : ℕ) → (i ≡ a → ⊥) → (i ≡ b → ⊥) → get_or (set (set c a x) b y) i 0 ≡ get_or c i 0
two_others c a b x y i e f = get_or-set_other (set c a x) b i y 0 f ∙ get_or-set_other c a i x 0 e

module _ (Γ : Env) (env : List ℕ) (cap room : ℕ) where
  -- ---- words of the book that are kept
  pub noted-kept : (c d : List ℕ) (x : ℕ) → ((i : ℕ) → 2816 + x * 2 ≤ i → i < 2818 + x * 2 → get_or d i 0 ≡ get_or c i 0) → (f : Found) → Noted Γ env cap room c x f → Noted Γ env cap room d x f
  noted-kept c d x e (at r) h = (e (cell 2816 2 x 0) (omega arith) (omega arith) ∙ h.0, e (cell 2816 2 x 1) (omega arith) (omega arith) ∙ h.1)
  noted-kept c d x e absent h = e (cell 2816 2 x 0) (omega arith) (omega arith) ∙ h

  pub listed_kept : (c d : List ℕ) (j : ℕ) (qs : List Question) → ((i : ℕ) → 2048 + j * 3 ≤ i → i < 2048 + (j + length qs) * 3 → get_or d i 0 ≡ get_or c i 0) → Listed Γ env cap room c j qs → Listed Γ env cap room d j qs
  listed_kept c d j [] e h = tt
  listed_kept c d j (q ∷ qs) e h = (
    e (cell 2048 3 j 0) (omega arith) (omega arith) ∙ h.0,
    e (cell 2048 3 j 1) (omega arith) (omega arith) ∙ h.1,
    e (cell 2048 3 j 2) (omega arith) (omega arith) ∙ h.2,
    listed_kept c d (suc j) qs (λ i k l. e i (omega arith) (omega arith)) h.3,
  )

  pub opened-kept : (c d : List ℕ) (rs : List ℕ) → ((i : ℕ) → 3328 ≤ i → i < 3328 + length rs → get_or d i 0 ≡ get_or c i 0) → Opened Γ env cap room c rs → Opened Γ env cap room d rs
  opened-kept c d [] e h = tt
  opened-kept c d (r ∷ rs) e h = (e (cell 3328 1 (length rs) 0) (omega arith) (omega arith) ∙ h.0, opened-kept c d rs (λ i k l. e i k (omega arith)) h.1)

  pub entered_kept : (c d : List ℕ) (x : ℕ) → get_or d (cell 3392 1 x 0) 0 ≡ get_or c (cell 3392 1 x 0) 0 → (f : Entry) → Entered Γ env cap room c x f → Entered Γ env cap room d x f
  entered_kept c d x e lacks h = e ∙ h
  entered_kept c d x e (holds t) h = (h.0, h.1, e ∙ h.2, h.3, h.4, h.5)

  pub filled-kept : (c d : List ℕ) (k : ℕ) (ss : List (ℕ × ℕ)) → ((i : ℕ) → 2 * k ≤ i → i < 2 * (k + length ss) → get_or d i 0 ≡ get_or c i 0) → Filled Γ env cap room c k ss → Filled Γ env cap room d k ss
  filled-kept c d k [] e h = tt
  filled-kept c d k (s ∷ ss) e h =
      (e (cell 0 2 k 0) (omega arith) (omega arith) ∙ h.0, e (cell 0 2 k 1) (omega arith) (omega arith) ∙ h.1, filled-kept c d (suc k) ss (λ i j l. e i (omega arith) (omega arith)) h.2)

  -- the books are kept where all words from the names on are
  pub books_above : (m m' : Mach) (row : Row) (B : List ℕ) → length m'.book ≡ length m.book → ((i : ℕ) → 2048 ≤ i → get_or m'.book i 0 ≡ get_or m.book i 0) → m'.st.met ≡ m.st.met → m'.st.bound ≡ m.st.bound → Books Γ env cap room m row B → Books Γ env cap room m' row B
  books_above m m' row B n e f g o = record {
    long = n ∙ o.long;
    refs = λ x l. noted-kept m.book m'.book x (λ i j k. e i (omega arith)) (find x row) (o.refs x l);
    met = f ∙ o.met;
    spare = o.spare;
    rows = listed_kept m.book m'.book 0 (names Γ row) (λ i j k. e i (omega arith)) o.rows;
    bound = g ∙ o.bound;
    shallow = o.shallow;
    opened = opened-kept m.book m'.book B (λ i j k. e i (omega arith)) o.opened;
    entries = λ x l. entered_kept m.book m'.book x (e (cell 3392 1 x 0) (omega arith)) (Γ x) (o.entries x l);
  }

  -- ---- a unit paid
  module _ {A : Type 0} (m m2 : Mach) (w : W A) (B : List ℕ) (B' : A → List ℕ) (Q : A → Mach → Type 0) where
    entered_ended : (r : ℕ) (n : ℕ) (row : Row) (D : List ℕ) (o : Out U Bench) → Ended Γ env cap room (with_st (charged r m.st.slots m.st) m) m2 (w n row) D Q o → Ended Γ env cap room m m2 (enter w n row) D Q o
    unfolding enter
    entered_ended r n row D (Mt.done b t) h = (h.0, h.1, h.2, record { taken = h.3.taken; filled = h.3.filled; kept = h.3.kept }, h.4)
    entered_ended r n row D (spent e) h = h
    entered_ended r n row D (halt full e) h = h
    entered_ended r n row D (halt broken e) h = h

    enter-by : (through : ((paid_of m.st).stop ≡ 0 → ⊥) → m2.st.stop ≡ (paid_of m.st).stop) → Runs Γ env cap room (with_st (paid_of m.st) m) m2 w B B' Q
        → (b : Bench) (row : Row) → Stands Γ env cap room m b → Books Γ env cap room m row B → Sound b.count (w b.count row).ops → m.st.slots + length (w b.count row).slots ≤ 1024
        → (β : ℕ) → m.st.budget ≡ β → Ended Γ env cap room m m2 (enter w b.count row) (B' (w b.count row).result) Q (exec cap (pay ∷ (w b.count row).ops) b β)
    enter-by through h b row s o q l zero e =
        let z = paid-none m.st s.going e in
        subst (λ (x : Out U Bench). Ended Γ env cap room m m2 (enter w b.count row) (B' (w b.count row).result) Q x) (sym (exec_unpaid cap b (w b.count row).ops)) (through (λ c. omega arith) ∙ z)
    enter-by through h b row s o q l (suc r) e =
        let m1 : Mach = with_st (charged r m.st.slots m.st) m in
        let g = subst (λ (v : State). Runs Γ env cap room (with_st v m) m2 w B B' Q) (paid_eq m.st r s.going e) h in
        subst (λ (x : Out U Bench). Ended Γ env cap room m m2 (enter w b.count row) (B' (w b.count row).result) Q x) (sym (exec-paid cap b (w b.count row).ops r))
        (entered_ended r b.count row (B' (w b.count row).result) (exec cap (w b.count row).ops b r)
        (g.ends b row (record { going = s.going; count = s.count; words = s.words; sized = s.sized; counted = s.counted; ready = s.ready; wrote = s.wrote })
        (books_as Γ env cap room m m1 row B refl refl refl o) q l))

    pub runs_enter : (((paid_of m.st).stop ≡ 0 → ⊥) → m2.st.stop ≡ (paid_of m.st).stop) → Runs Γ env cap room (with_st (paid_of m.st) m) m2 w B B' Q → Runs Γ env cap room m m2 (enter w) B B' Q
    unfolding enter
    runs_enter through h = record { ends = λ b row s o q l. enter-by through h b row s o q l m.st.budget refl }

  -- ---- a slot filled
  abbrev slotted : ℕ → ℕ → ℕ → Mach → Mach
  slotted k r p m = record {
    st = record { at = m.st.at; from = record { 0 = p }; last = m.st.last; nodes = m.st.nodes; budget = m.st.budget; slots = m.st.slots; met = m.st.met; bound = m.st.bound; bytes = m.st.bytes; over = m.st.over; stop = m.st.stop };
    arena = m.arena;
    book = set (set m.book (cell 0 2 k 0) r) (cell 0 2 k 1) p;
    out = m.out;
  }

  leave_eq : (k p : ℕ) (m : Mach) → m.st.stop ≡ 0 → leave_of k p m ≡ slotted k m.st.last.0 p m
  unfolding leave_of put_of arrived_of then
  leave_eq k p m e = test_yes (eqb m.st.stop 0) _ _ (eq-eqb m.st.stop 0 e)
      ∙ ap (λ (v : State). record { st = v; arena = m.arena; book = set (set m.book (cell 0 2 k 0) m.st.last.0) (cell 0 2 k 1) p; out = m.out }) (test_yes (eqb m.st.stop 0) _ _ (eq-eqb m.st.stop 0 e))

  module _ (m v : Mach) (p a : ℕ) (w : W ℕ) (B : List ℕ) where
    abbrev From : State → Mach
    From u = with_st u m

    left_ended : (r n : ℕ) (row : Row) (o : Out U Bench) → m.st.slots < 1024 → length (w n row).slots ≤ 1024 → Ended Γ env cap room (From (charged r (m.st.slots + 1) m.st)) v (w n row) B (λ x y. Gave a x y) o
        → Ended Γ env cap room m (leave_of m.st.slots p v) (enter (own p w) n row) B (λ x y. Came a p x y) o
    unfolding enter own
    left_ended r n row (Mt.done b t) room' fit h =
        let k : ℕ = m.st.slots in
        let r' : ℕ = v.st.last.0 in
        let c : List ℕ = set v.book (cell 0 2 k 0) r' in
        let d : List ℕ = set c (cell 0 2 k 1) p in
        let long = h.1.long in
        let other : (i : ℕ) → (i ≡ cell 0 2 k 0 → ⊥) → (i ≡ cell 0 2 k 1 → ⊥) → get_or d i 0 ≡ get_or v.book i 0 = two_others v.book (cell 0 2 k 0) (cell 0 2 k 1) r' p in
        let lc = length-set v.book (cell 0 2 k 0) r' in
        let ld = length-set c (cell 0 2 k 1) p in
        let tk = h.3.taken in
        let s = h.0 in
        subst (λ (y : Mach). Ended Γ env cap room m y (enter (own p w) n row) B (λ x z. Came a p x z) (Mt.done b t)) (sym (leave_eq k p v s.going)) (
          record { going = s.going; count = s.count; words = s.words; sized = s.sized; counted = s.counted; ready = s.ready; wrote = s.wrote },
          books_above v (slotted k r' p v) (w n row).row B (ld ∙ lc) (λ i j. other i (λ e. omega arith) (λ e. omega arith)) refl refl h.1,
          h.2,
          record {
            taken = omega arith;
            filled = (
              get_or-set_other c (cell 0 2 k 1) (cell 0 2 k 0) p 0 (λ e. omega arith) ∙ get_or-set_same v.book (cell 0 2 k 0) r' 0 (omega arith) ∙ h.4.1,
              get_or-set_same c (cell 0 2 k 1) p 0 (omega arith),
              filled-kept v.book d (suc k) (w n row).slots (λ i j l. other i (λ e. omega arith) (λ e. omega arith))
                  (subst (λ (i : ℕ). Filled Γ env cap room v.book i (w n row).slots) (plus k) h.3.filled),
            );
            kept = λ i l. other i (λ e. omega arith) (λ e. omega arith) ∙ h.3.kept i (omega arith);
          },
          (h.4.0, refl, h.4.1),
        )
      where
        plus : (k : ℕ) → k + 1 ≡ suc k
        plus k = omega arith
    left_ended r n row (spent e) room' fit h = ap (λ (y : Mach). y.st.stop) (still_leave m.st.slots p v (λ c. (let z : ◌≡◌ {A = ℕ} 0 7 = sym c ∙ h in omega arith))) ∙ h
    left_ended r n row (halt full e) room' fit h = ap (λ (y : Mach). y.st.stop) (still_leave m.st.slots p v (λ c. (let z : ◌≡◌ {A = ℕ} 0 6 = sym c ∙ h in omega arith))) ∙ h
    left_ended r n row (halt broken e) room' fit h = absurd h

    expr-by : (through : ((enter_of m.st).stop ≡ 0 → ⊥) → v ≡ From (enter_of m.st)) → Runs Γ env cap room (From (enter_of m.st)) v w B (λ _. B) (λ x y. Gave a x y)
        → (b : Bench) (row : Row) → Stands Γ env cap room m b → Books Γ env cap room m row B → Sound b.count (w b.count row).ops → m.st.slots + suc (length (w b.count row).slots) ≤ 1024
        → (β : ℕ) → m.st.budget ≡ β → Ended Γ env cap room m (leave_of m.st.slots p v) (enter (own p w) b.count row) B (λ x y. Came a p x y) (exec cap (pay ∷ (w b.count row).ops) b β)
    expr-by through h b row s o q l zero e =
        let z = enter-none m.st s.going e in
        let u = through (λ c. omega arith) in
        let y : v.st.stop ≡ 7 = ap (λ (x : Mach). x.st.stop) u ∙ z in
        subst (λ (x : Out U Bench). Ended Γ env cap room m (leave_of m.st.slots p v) (enter (own p w) b.count row) B (λ x y. Came a p x y) x) (sym (exec_unpaid cap b (w b.count row).ops))
        (ap (λ (x : Mach). x.st.stop) (still_leave m.st.slots p v (λ c. omega arith)) ∙ y)
    expr-by through h b row s o q l (suc r) e =
        let m1 : Mach = From (charged r (m.st.slots + 1) m.st) in
        let g = subst (λ (u : State). Runs Γ env cap room (From u) v w B (λ _. B) (λ x y. Gave a x y)) (enter_eq m.st r s.going e (omega arith)) h in
        subst (λ (x : Out U Bench). Ended Γ env cap room m (leave_of m.st.slots p v) (enter (own p w) b.count row) B (λ x y. Came a p x y) x) (sym (exec-paid cap b (w b.count row).ops r))
        (left_ended r b.count row (exec cap (w b.count row).ops b r) (omega arith) (omega arith)
        (g.ends b row (record { going = s.going; count = s.count; words = s.words; sized = s.sized; counted = s.counted; ready = s.ready; wrote = s.wrote })
        (books_as Γ env cap room m m1 row B refl refl refl o) q (omega arith)))

    pub runs_expr : (((enter_of m.st).stop ≡ 0 → ⊥) → v ≡ From (enter_of m.st)) → Runs Γ env cap room (From (enter_of m.st)) v w B (λ _. B) (λ x y. Gave a x y)
        → Runs Γ env cap room m (leave_of m.st.slots p v) (enter (own p w)) B (λ _. B) (λ x y. Came a p x y)
    unfolding enter own
    runs_expr through h = record { ends = λ b row s o q l. expr-by through h b row s o q l m.st.budget refl }
