-- Names and indices: a free name's first meeting and its later ones, a bound name by its index.
-- After this file `free_of` runs the walk's `name`, and `bound_identifier_of` its `counted`.
use Prim.Native.Nat.{ℕ, zero, suc, ◌+◌, ◌-◌, ◌≤◌, ◌<◌}
use Rattle.std.proofs.Math.Path.{◌≡◌, refl, sym, ap, subst}
use Rattle.std.proofs.Common.{◌∙◌, ap₂, length-set, length-append, get_or-set_same, get_or-set_other, lt-ltb, le-ltb, eq-eqb, ne_eqb}
use Rattle.std.specs.Prelude.{Bool, true, false, length, drop, eqb, ltb}
use mathlib.Core.List.{List, [], ◌∷◌, ◌++◌}
use native.Mathlib.Omega.{arith}
use Rattle.std.proofs.Math.Decide.{dec_lt, ℕ_discrete}
use Rattle.std.proofs.Math.ListN.{get_or, set}
use Rattle.meter.specs.Meter.{Out, spent, halt, broken, full}
use Rattle.meter.specs.Meter as Mt
use Rattle.types.specs.Ty.{Ty, base, pow, prod, bool, int, given, spell}
use Rattle.formula.specs.Environment.{Entry, lacks, holds, Env}
use Rattle.unification.specs.Arena.{U}
use Rattle.unification.specs.Ops.{Op, Bench, Sound, exec}
use Rattle.unification.specs.Make.{builds_unknown}
use Rattle.walk.specs.Writer.{Met, Row, Found, at, absent, found, find, Walk, W, done, glue, ◌>>=◌, node, unknown, problem, enrol}
use Rattle.walk.specs.Walk.{atom, lift, from_env, known, counted, name}
use Rattle.inference.specs.Finish.{Question, ask_name, names}
use Rattle.machine.specs.State.{State}
use Rattle.forms.specs.Forms.{test, then}
use Rattle.machine.specs.Machine.{Mach, with_st, cell, put_of, placed_of, gave_of, met_of, make_of, list_of, remember_of, enrol_of}
use Rattle.machine.specs.Types.{lift_of, free_of, bound_identifier_of}
use Rattle.simulation.specs.Relation.{Stands, Noted, Listed, Opened, Entered, Books, Ended, Runs, unmet, missing}
use Rattle.simulation.specs.Bind.{runs_bind}
use Rattle.simulation.specs.Stand.{standing, placed_eq, gave_eq, stands-standing, books_standing, runs_if, runs_map, runs_stand}
use Rattle.machine.specs.Still.{test_yes, test_no, still_make, still_remember, still_enrol, still_placed}
use Rattle.simulation.specs.Steps.{nil_right, runs_given, runs_after}
use Rattle.simulation.specs.Nodes.{Came, Stood, runs_make, runs_list}
use Rattle.simulation.specs.Slots.{noted-kept, listed_kept, opened-kept, entered_kept, filled-kept, two_others}
use Rattle.simulation.specs.Lift.{runs_lift}

-- ---- a row with one name more
abbrev pub joining : ℕ → ℕ → ℕ → Met
joining x r p = record { name = x; ref = r; place = p }

found-absent : (c : Bool) (r : ℕ) (f : Found) → found c r f ≡ absent → (c ≡ false) × (f ≡ absent)
unfolding found
found-absent true r f e = let z : ◌≡◌ {A = ℕ} 0 1 = cc in absurd (omega arith)
found-absent false r f e = (refl, e)

find-new : (row : Row) (x r p : ℕ) → find x row ≡ absent → find x (row ++ (joining x r p ∷ [])) ≡ at r
unfolding find found
find-new [] x r p e = ap (λ (c : Bool). found c r absent) (eq-eqb x x refl)
find-new (m ∷ ms) x r p e =
    let z = found-absent (eqb x m.name) m.ref (find x ms) e in
    ap (λ (c : Bool). found c m.ref (find x (ms ++ (joining x r p ∷ [])))) z.0 ∙ find-new ms x r p z.1

find-other : (row : Row) (y x r p : ℕ) → (y ≡ x → ⊥) → find y (row ++ (joining x r p ∷ [])) ≡ find y row
unfolding find found
find-other [] y x r p h = ap (λ (c : Bool). found c r absent) (ne_eqb y x h)
find-other (m ∷ ms) y x r p h = ap (found (eqb y m.name) m.ref) (find-other ms y x r p h)

unmet-at : (f : Found) (r : ℕ) → f ≡ at r → unmet f ≡ 0
unfolding unmet
unmet-at f r e = ap unmet e

unmet-absent : (f : Found) → f ≡ absent → unmet f ≡ 1
unfolding unmet
unmet-absent f e = ap unmet e

missing-past : (n : ℕ) (row : Row) (x r p : ℕ) → n ≤ x → missing n (row ++ (joining x r p ∷ [])) ≡ missing n row
unfolding missing
missing-past zero row x r p l = refl
missing-past (suc n) row x r p l = ap₂ (λ (f : Found) (k : ℕ). unmet f + k) (find-other row n x r p (λ e. omega arith)) (missing-past n row x r p (omega arith))

missing-new : (n : ℕ) (row : Row) (x r p : ℕ) → find x row ≡ absent → x < n → suc (missing n (row ++ (joining x r p ∷ []))) ≡ missing n row
unfolding missing
missing-new zero row x r p e l = absurd (omega arith)
missing-new (suc n) row x r p e l = by (ℕ_discrete x n) (λ k. missing-new n row x r p e k)
  where
    here : x ≡ n → suc (unmet (find n (row ++ (joining x r p ∷ []))) + missing n (row ++ (joining x r p ∷ []))) ≡ unmet (find n row) + missing n row
    here q =
        let a : unmet (find n (row ++ (joining x r p ∷ []))) ≡ 0 = unmet-at _ r (subst (λ (k : ℕ). find k (row ++ (joining x r p ∷ [])) ≡ at r) q (find-new row x r p e)) in
        let b : unmet (find n row) ≡ 1 = unmet-absent _ (subst (λ (k : ℕ). find k row ≡ absent) q e) in
        let c = missing-past n row x r p (omega arith) in
        omega arith

    by : Dec (x ≡ n) → (x < n → suc (missing n (row ++ (joining x r p ∷ []))) ≡ missing n row) → suc (unmet (find n (row ++ (joining x r p ∷ []))) + missing n (row ++ (joining x r p ∷ []))) ≡ unmet (find n row) + missing n row
    by (yes q) rec = here q
    by (no q) rec = let a = rec (omega arith) in let b = ap unmet (find-other row n x r p (λ z. omega arith)) in omega arith

pub missing-none : (n : ℕ) → missing n [] ≡ n
unfolding missing unmet find
missing-none zero = refl
missing-none (suc n) = let e = missing-none n in omega arith

ask-append : (e : Entry) (m : Met) (qs rs : List Question) → ask_name e m (qs ++ rs) ≡ ask_name e m qs ++ rs
unfolding ask_name
ask-append lacks m qs rs = refl
ask-append (holds t) m qs rs = refl

names_more : (Γ : Env) (row : Row) (m : Met) → names Γ (row ++ (m ∷ [])) ≡ names Γ row ++ ask_name (Γ m.name) m []
unfolding names
names_more Γ [] m = refl
names_more Γ (k ∷ row) m = ap (ask_name (Γ k.name) k) (names_more Γ row m) ∙ ask-append (Γ k.name) k (names Γ row) (ask_name (Γ m.name) m [])

names-held : (Γ : Env) (row : Row) (m : Met) (t : Ty) → Γ m.name ≡ holds t → names Γ (row ++ (m ∷ [])) ≡ names Γ row
unfolding ask_name
names-held Γ row m t e = names_more Γ row m ∙ ap (λ (k : Entry). names Γ row ++ ask_name k m []) e ∙ nil_right (names Γ row)

abbrev asking : Met → Question
asking m = record { ref = m.ref; key = m.name; problem = record { kind = 3; place = m.place; name = m.name } }

names-lacking : (Γ : Env) (row : Row) (m : Met) → Γ m.name ≡ lacks → names Γ (row ++ (m ∷ [])) ≡ names Γ row ++ (asking m ∷ [])
unfolding ask_name
names-lacking Γ row m e = names_more Γ row m ∙ ap (λ (k : Entry). names Γ row ++ ask_name k m []) e

-- ---- a piece and then a name that joins the row
unfoldable joined : W ℕ → ℕ → ℕ → ℕ → Row → Walk ℕ
joined w x p n row = record { ops = (w n row).ops; result = (w n row).result; row = (w n row).row ++ (joining x (w n row).result p ∷ []); slots = (w n row).slots }

joined_is : (w : W ℕ) (x p n : ℕ) (row : Row) → joined w x p n row ≡ (w >>= λ r. enrol x p r) n row
unfolding joined ◌>>=◌ glue enrol
joined_is w x p n row = ap₂ (λ (os : List Op) (ss : List (ℕ × ℕ)). record { ops = os; result = (w n row).result; row = (w n row).row ++ (joining x (w n row).result p ∷ []); slots = ss }) (sym (nil_right (w n row).ops)) (sym (nil_right (w n row).slots))

lift-row : (t : Ty) (n : ℕ) (row : Row) → (lift t n row).row ≡ row
unfolding lift atom node ◌>>=◌ glue
lift-row (base bool) n row = refl
lift-row (base int) n row = refl
lift-row (base (given x)) n row = refl
lift-row (pow t) n row = lift-row t n row
lift-row (prod t u) n row = lift-row u _ _ ∙ lift-row t n row

module _ (Γ : Env) (env : List ℕ) (cap room : ℕ) where
  listed_more : (c : List ℕ) (j : ℕ) (qs : List Question) (q : Question) → Listed Γ env cap room c j qs
      → get_or c (cell 2048 3 (j + length qs) 0) 0 ≡ q.key → get_or c (cell 2048 3 (j + length qs) 1) 0 ≡ q.ref → get_or c (cell 2048 3 (j + length qs) 2) 0 ≡ q.problem.place → Listed Γ env cap room c j (qs ++ (q ∷ []))
  listed_more c j [] q h e f g =
      let z : j + 0 ≡ j = omega arith in
      (subst (λ (k : ℕ). get_or c (cell 2048 3 k 0) 0 ≡ q.key) z e, subst (λ (k : ℕ). get_or c (cell 2048 3 k 1) 0 ≡ q.ref) z f, subst (λ (k : ℕ). get_or c (cell 2048 3 k 2) 0 ≡ q.problem.place) z g, tt)
  listed_more c j (y ∷ qs) q h e f g =
      let z : j + suc (length qs) ≡ suc j + length qs = omega arith in
      (h.0, h.1, h.2, listed_more c (suc j) qs q h.3 (subst (λ (k : ℕ). get_or c (cell 2048 3 k 0) 0 ≡ q.key) z e) (subst (λ (k : ℕ). get_or c (cell 2048 3 k 1) 0 ≡ q.ref) z f) (subst (λ (k : ℕ). get_or c (cell 2048 3 k 2) 0 ≡ q.problem.place) z g))

  -- the books after a name has joined
  module _ (m m' : Mach) (row : Row) (B : List ℕ) (x r p : ℕ) (o : Books Γ env cap room m row B) (below : x < 256) (new : find x row ≡ absent)
      (long : length m'.book ≡ length m.book)
      (flag : get_or m'.book (cell 2816 2 x 0) 0 ≡ 1) (ref : get_or m'.book (cell 2816 2 x 1) 0 ≡ r)
      (other : (i : ℕ) → 2816 ≤ i → (i ≡ cell 2816 2 x 0 → ⊥) → (i ≡ cell 2816 2 x 1 → ⊥) → get_or m'.book i 0 ≡ get_or m.book i 0) where
    refs-by : (y : ℕ) → y < 256 → Dec (y ≡ x) → Noted Γ env cap room m'.book y (find y (row ++ (joining x r p ∷ [])))
    refs-by y l (yes e) = subst (λ (z : ℕ). Noted Γ env cap room m'.book z (find z (row ++ (joining x r p ∷ [])))) (sym e) (subst (λ (f : Found). Noted Γ env cap room m'.book x f) (sym (find-new row x r p new)) (flag, ref))
    refs-by y l (no e) = subst (λ (f : Found). Noted Γ env cap room m'.book y f) (sym (find-other row y x r p e))
        (noted-kept Γ env cap room m.book m'.book y (λ i j k. other i (omega arith) (λ q. omega arith) (λ q. omega arith)) (find y row) (o.refs y l))

    books_joined : Listed Γ env cap room m'.book 0 (names Γ (row ++ (joining x r p ∷ []))) → m'.st.met ≡ length (names Γ (row ++ (joining x r p ∷ []))) → length (names Γ (row ++ (joining x r p ∷ []))) ≤ suc (length (names Γ row)) → m'.st.bound ≡ m.st.bound
        → Books Γ env cap room m' (row ++ (joining x r p ∷ [])) B
    books_joined rows met more bound =
        let u = missing-new 256 row x r p new below in
        let v = o.spare in
        record {
          long = long ∙ o.long;
          refs = λ y l. refs-by y l (ℕ_discrete y x);
          met = met;
          spare = omega arith;
          rows = rows;
          bound = bound ∙ o.bound;
          shallow = o.shallow;
          opened = opened-kept Γ env cap room m.book m'.book B (λ i j k. (let z = o.shallow in other i (omega arith) (λ q. omega arith) (λ q. omega arith))) o.opened;
          entries = λ y l. entered_kept Γ env cap room m.book m'.book y (other (cell 3392 1 y 0) (omega arith) (λ q. omega arith) (λ q. omega arith)) (Γ y) (o.entries y l);
        }

  -- ---- the machine after a reference is remembered, and after a name is enrolled
  abbrev known_by : ℕ → Mach → Mach
  known_by x m = record { st = m.st; arena = m.arena; book = set (set m.book (cell 2816 2 x 0) 1) (cell 2816 2 x 1) m.st.last.0; out = m.out }

  remember_eq : (x : ℕ) (m : Mach) → m.st.stop ≡ 0 → remember_of x m ≡ known_by x m
  unfolding remember_of put_of then
  remember_eq x m e = test_yes (eqb m.st.stop 0) _ _ (eq-eqb m.st.stop 0 e)

  abbrev rowed : ℕ → ℕ → Mach → Mach
  rowed x p m = record {
    st = record { at = m.st.at; from = m.st.from; last = m.st.last; nodes = m.st.nodes; budget = m.st.budget; slots = m.st.slots; met = m.st.met + 1; bound = m.st.bound; bytes = m.st.bytes; over = m.st.over; stop = m.st.stop };
    arena = m.arena;
    book = set (set (set m.book (cell 2048 3 m.st.met 0) x) (cell 2048 3 m.st.met 1) m.st.last.0) (cell 2048 3 m.st.met 2) p;
    out = m.out;
  }

  enrol_eq : (x p : ℕ) (m : Mach) → m.st.stop ≡ 0 → m.st.met < 256 → enrol_of x p m ≡ rowed x p m
  unfolding enrol_of put_of met_of then
  enrol_eq x p m e l = test_yes (eqb m.st.stop 0) _ _ (eq-eqb m.st.stop 0 e) ∙ test_yes (ltb m.st.met 256) _ _ (lt-ltb m.st.met 256 l)
      ∙ ap (λ (v : State). with_st v (record { st = m.st; arena = m.arena; book = set (set (set m.book (cell 2048 3 m.st.met 0) x) (cell 2048 3 m.st.met 1) m.st.last.0) (cell 2048 3 m.st.met 2) p; out = m.out })) (test_yes (eqb m.st.stop 0) _ _ (eq-eqb m.st.stop 0 e))

  -- a name that the environment holds
  module _ (m : Mach) (row : Row) (B : List ℕ) (x r p : ℕ) (o : Books Γ env cap room m row B) (below : x < 256) (new : find x row ≡ absent) (is : m.st.last.0 ≡ r) where
    known_flag : get_or (known_by x m).book (cell 2816 2 x 0) 0 ≡ 1
    known_flag = let l = o.long in get_or-set_other (set m.book (cell 2816 2 x 0) 1) (cell 2816 2 x 1) (cell 2816 2 x 0) m.st.last.0 0 (λ e. omega arith) ∙ get_or-set_same m.book (cell 2816 2 x 0) 1 0 (omega arith)

    known-ref : get_or (known_by x m).book (cell 2816 2 x 1) 0 ≡ r
    known-ref = let l = o.long in let z = length-set m.book (cell 2816 2 x 0) 1 in get_or-set_same (set m.book (cell 2816 2 x 0) 1) (cell 2816 2 x 1) m.st.last.0 0 (omega arith) ∙ is

    known-other : (i : ℕ) → (i ≡ cell 2816 2 x 0 → ⊥) → (i ≡ cell 2816 2 x 1 → ⊥) → get_or (known_by x m).book i 0 ≡ get_or m.book i 0
    known-other i e f = two_others m.book (cell 2816 2 x 0) (cell 2816 2 x 1) 1 m.st.last.0 i e f

    known-long : length (known_by x m).book ≡ length m.book
    known-long = length-set (set m.book (cell 2816 2 x 0) 1) (cell 2816 2 x 1) m.st.last.0 ∙ length-set m.book (cell 2816 2 x 0) 1

    books_held : (t : Ty) → Γ x ≡ holds t → Books Γ env cap room (known_by x m) (row ++ (joining x r p ∷ [])) B
    books_held t h =
        let e = names-held Γ row (joining x r p) t h in
        let n = ap length e in
        let f = o.spare in
        books_joined m (known_by x m) row B x r p o below new known-long known_flag known-ref (λ i j. known-other i)
        (subst (λ (qs : List Question). Listed Γ env cap room (known_by x m).book 0 qs) (sym e) (listed_kept Γ env cap room m.book (known_by x m).book 0 (names Γ row) (λ i j k. known-other i (λ q. omega arith) (λ q. omega arith)) o.rows))
        (o.met ∙ sym n) (omega arith) refl

    -- a name that it lacks
    abbrev M3 : Mach
    M3 = rowed x p (known_by x m)

    few : m.st.met < 256
    few = let u = missing-new 256 row x r p new below in let v = o.spare in let w = o.met in omega arith

    row_other : (i : ℕ) → (i ≡ cell 2048 3 m.st.met 0 → ⊥) → (i ≡ cell 2048 3 m.st.met 1 → ⊥) → (i ≡ cell 2048 3 m.st.met 2 → ⊥) → get_or M3.book i 0 ≡ get_or (known_by x m).book i 0
    row_other i e f g = get_or-set_other (set (set (known_by x m).book (cell 2048 3 m.st.met 0) x) (cell 2048 3 m.st.met 1) m.st.last.0) (cell 2048 3 m.st.met 2) i p 0 g
        ∙ two_others (known_by x m).book (cell 2048 3 m.st.met 0) (cell 2048 3 m.st.met 1) x m.st.last.0 i e f

    row-long : length M3.book ≡ length m.book
    row-long = length-set (set (set (known_by x m).book (cell 2048 3 m.st.met 0) x) (cell 2048 3 m.st.met 1) m.st.last.0) (cell 2048 3 m.st.met 2) p
        ∙ length-set (set (known_by x m).book (cell 2048 3 m.st.met 0) x) (cell 2048 3 m.st.met 1) m.st.last.0
        ∙ length-set (known_by x m).book (cell 2048 3 m.st.met 0) x ∙ known-long

    row_0 : get_or M3.book (cell 2048 3 m.st.met 0) 0 ≡ x
    row_0 =
        let k = known-long in let l = o.long in let f = few in
        get_or-set_other (set (set (known_by x m).book (cell 2048 3 m.st.met 0) x) (cell 2048 3 m.st.met 1) m.st.last.0) (cell 2048 3 m.st.met 2) (cell 2048 3 m.st.met 0) p 0 (λ e. omega arith)
        ∙ get_or-set_other (set (known_by x m).book (cell 2048 3 m.st.met 0) x) (cell 2048 3 m.st.met 1) (cell 2048 3 m.st.met 0) m.st.last.0 0 (λ e. omega arith)
        ∙ get_or-set_same (known_by x m).book (cell 2048 3 m.st.met 0) x 0 (omega arith)

    row_1 : get_or M3.book (cell 2048 3 m.st.met 1) 0 ≡ r
    row_1 =
        let k = known-long in let l = o.long in let f = few in
        let z = length-set (known_by x m).book (cell 2048 3 m.st.met 0) x in
        get_or-set_other (set (set (known_by x m).book (cell 2048 3 m.st.met 0) x) (cell 2048 3 m.st.met 1) m.st.last.0) (cell 2048 3 m.st.met 2) (cell 2048 3 m.st.met 1) p 0 (λ e. omega arith)
        ∙ get_or-set_same (set (known_by x m).book (cell 2048 3 m.st.met 0) x) (cell 2048 3 m.st.met 1) m.st.last.0 0 (omega arith) ∙ is

    row_2 : get_or M3.book (cell 2048 3 m.st.met 2) 0 ≡ p
    row_2 =
        let k = known-long in let l = o.long in let f = few in
        let z = length-set (known_by x m).book (cell 2048 3 m.st.met 0) x in
        let y = length-set (set (known_by x m).book (cell 2048 3 m.st.met 0) x) (cell 2048 3 m.st.met 1) m.st.last.0 in
        get_or-set_same (set (set (known_by x m).book (cell 2048 3 m.st.met 0) x) (cell 2048 3 m.st.met 1) m.st.last.0) (cell 2048 3 m.st.met 2) p 0 (omega arith)

    books_lacking : Γ x ≡ lacks → Books Γ env cap room M3 (row ++ (joining x r p ∷ [])) B
    books_lacking h =
        let e = names-lacking Γ row (joining x r p) h in
        let n : length (names Γ (row ++ (joining x r p ∷ []))) ≡ length (names Γ row) + 1 = ap length e ∙ length-append (names Γ row) (asking (joining x r p) ∷ []) in
        let f = few in
        let c = o.met in
        let z : 0 + length (names Γ row) ≡ m.st.met = omega arith in
        books_joined m M3 row B x r p o below new row-long
        (row_other (cell 2816 2 x 0) (λ q. omega arith) (λ q. omega arith) (λ q. omega arith) ∙ known_flag)
        (row_other (cell 2816 2 x 1) (λ q. omega arith) (λ q. omega arith) (λ q. omega arith) ∙ known-ref)
        (λ i j a b. row_other i (λ q. omega arith) (λ q. omega arith) (λ q. omega arith) ∙ known-other i a b)
        (subst (λ (qs : List Question). Listed Γ env cap room M3.book 0 qs) (sym e)
        (listed_more M3.book 0 (names Γ row) (asking (joining x r p))
        (listed_kept Γ env cap room m.book M3.book 0 (names Γ row) (λ i j k. row_other i (λ q. omega arith) (λ q. omega arith) (λ q. omega arith) ∙ known-other i (λ q. omega arith) (λ q. omega arith)) o.rows)
        (ap (λ (k : ℕ). get_or M3.book (cell 2048 3 k 0) 0) z ∙ row_0) (ap (λ (k : ℕ). get_or M3.book (cell 2048 3 k 1) 0) z ∙ row_1) (ap (λ (k : ℕ). get_or M3.book (cell 2048 3 k 2) 0) z ∙ row_2)))
        (omega arith) (omega arith) refl

  -- ---- a first meeting: the piece that makes the reference, and then the name joins
  module _ (m m1 m3 : Mach) (w : W ℕ) (n : ℕ) (row : Row) (B : List ℕ) (x p a1 a f : ℕ) (fit : m.st.slots + length (w n row).slots ≤ 1024) (kept_row : (w n row).row ≡ row)
      (through : (m1.st.stop ≡ 0 → ⊥) → m3.st.stop ≡ m1.st.stop)
      (ext : (b : Bench) → Stands Γ env cap room m1 b → Books Γ env cap room m1 row B → Came a1 f (w n row).result m1
      → Stands Γ env cap room m3 b × Books Γ env cap room m3 (row ++ (joining x (w n row).result p ∷ [])) B × (m3.st.budget ≡ m1.st.budget) × (m3.st.slots ≡ m1.st.slots) × ((i : ℕ) → i < 2048 → get_or m3.book i 0 ≡ get_or m1.book i 0) × Came a f (w n row).result m3) where
    joined-ended : (o : Out U Bench) → Ended Γ env cap room m m1 (w n row) B (λ r v. Came a1 f r v) o → Ended Γ env cap room m m3 (joined w x p n row) B (λ r v. Came a f r v) o
    unfolding joined
    joined-ended (Mt.done b t) h =
        let z = ext b h.0 (subst (λ (k : Row). Books Γ env cap room m1 k B) kept_row h.1) h.4 in
        let tk = h.3.taken in
        let same-slots = z.3 in (
          z.0,
          subst (λ (k : Row). Books Γ env cap room m3 (k ++ (joining x (w n row).result p ∷ [])) B) (sym kept_row) z.1,
          z.2 ∙ h.2,
          record { taken = omega arith; filled = filled-kept Γ env cap room m1.book m3.book m.st.slots (w n row).slots (λ i j l. z.4 i (omega arith)) h.3.filled; kept = λ i l. z.4 i (omega arith) ∙ h.3.kept i l },
          z.5,
        )
    joined-ended (spent e) h = through (λ c. (let z : ◌≡◌ {A = ℕ} 0 7 = sym c ∙ h in omega arith)) ∙ h
    joined-ended (halt full e) h = through (λ c. (let z : ◌≡◌ {A = ℕ} 0 6 = sym c ∙ h in omega arith)) ∙ h
    joined-ended (halt broken e) h = absurd h

module _ (Γ : Env) (env : List ℕ) (cap room : ℕ) (wide : cap ≤ 32768) (brief : length env ≤ 65536) where
  module _ (x p : ℕ) (m : Mach) (B : List ℕ) (below : x < 256) where
    free-known : (r : ℕ) → m.st.stop ≡ 0 → get_or m.book (cell 2816 2 x 0) 0 ≡ 1 → get_or m.book (cell 2816 2 x 1) 0 ≡ r → free_of env x p m ≡ with_st (gave_of r m.st) m
    unfolding free_of then test
    free-known r e f g = test_yes (eqb m.st.stop 0) _ _ (eq-eqb m.st.stop 0 e) ∙ rw (f, g) refl

    free-lacks : m.st.stop ≡ 0 → get_or m.book (cell 2816 2 x 0) 0 ≡ 0 → get_or m.book (cell 3392 1 x 0) 0 ≡ 0 → free_of env x p m ≡ enrol_of x p (remember_of x (make_of 0x4E 0 0 m))
    unfolding free_of then test
    free-lacks e f g = test_yes (eqb m.st.stop 0) _ _ (eq-eqb m.st.stop 0 e) ∙ rw (f, g) refl

    abbrev At : ℕ → Mach
    At q = with_st (placed_of q m.st) m

    abbrev Back : Mach → Mach
    Back c = with_st (placed_of m.st.at.0 c.st) c

    free-holds : (q : ℕ) → m.st.stop ≡ 0 → get_or m.book (cell 2816 2 x 0) 0 ≡ 0 → get_or m.book (cell 3392 1 x 0) 0 ≡ suc q → free_of env x p m ≡ Back (remember_of x (lift_of 65 env (At q)))
    unfolding free_of then
    free-holds q e f g =
        let z : get_or m.book (cell 3392 1 x 0) 0 - 1 ≡ q = omega arith in
        test_yes (eqb m.st.stop 0) _ _ (eq-eqb m.st.stop 0 e) ∙ test_yes (eqb (get_or m.book (cell 2816 2 x 0) 0) 0) _ _ (eq-eqb (get_or m.book (cell 2816 2 x 0) 0) 0 f)
        ∙ test_no (eqb (get_or m.book (cell 3392 1 x 0) 0) 0) _ _ (ne_eqb (get_or m.book (cell 3392 1 x 0) 0) 0 (λ k. omega arith))
        ∙ ap (λ (k : ℕ). Back (remember_of x (lift_of 65 env (At k)))) z

    abbrev Q : ℕ → Mach → Type 0
    Q r v = Came m.st.at.0 m.st.from.0 r v

    module _ (b : Bench) (row : Row) (s : Stands Γ env cap room m b) (o : Books Γ env cap room m row B) where
      abbrev Does : Walk ℕ → Type 0
      Does y = Sound b.count y.ops → m.st.slots + length y.slots ≤ 1024 → Ended Γ env cap room m (free_of env x p m) y B (λ r v. Q r v) (exec cap y.ops b m.st.budget)

      met-before : (r : ℕ) → find x row ≡ at r → Does (done r b.count row)
      met-before r e =
          let z = subst (λ (f : Found). Noted Γ env cap room m.book x f) e (o.refs x below) in
          (runs_if Γ env cap room m (free_of env x p m) (with_st (standing m.st.at.0 m.st.from.0 r m.st) m) (done r) B (λ _. B) (λ u v. Q u v) (λ g. free-known r g z.0 z.1 ∙ ap (λ (v : State). with_st v m) (gave_eq r m.st g))
          (runs_stand Γ env cap room m m.st.at.0 m.st.from.0 r r B (λ u v. Q u v) (refl, refl, refl))).ends b row s o

      -- the environment lacks it
      ext_lacks : (m1 : Mach) (r : ℕ) (new : find x row ≡ absent) → Γ x ≡ lacks → (c : Bench) → Stands Γ env cap room m1 c → Books Γ env cap room m1 row B → Q r m1
          → Stands Γ env cap room (enrol_of x p (remember_of x m1)) c × Books Γ env cap room (enrol_of x p (remember_of x m1)) (row ++ (joining x r p ∷ [])) B × ((enrol_of x p (remember_of x m1)).st.budget ≡ m1.st.budget) × ((enrol_of x p (remember_of x m1)).st.slots ≡ m1.st.slots)
          × ((i : ℕ) → i < 2048 → get_or (enrol_of x p (remember_of x m1)).book i 0 ≡ get_or m1.book i 0) × Q r (enrol_of x p (remember_of x m1))
      ext_lacks m1 r new h c s1 o1 q =
          let e : enrol_of x p (remember_of x m1) ≡ rowed Γ env cap room x p (known_by Γ env cap room x m1) =
          ap (enrol_of x p) (remember_eq Γ env cap room x m1 s1.going) ∙ enrol_eq Γ env cap room x p (known_by Γ env cap room x m1) s1.going (few Γ env cap room m1 row B x r p o1 below new q.2) in
          subst (λ (y : Mach). Stands Γ env cap room y c × Books Γ env cap room y (row ++ (joining x r p ∷ [])) B × (y.st.budget ≡ m1.st.budget) × (y.st.slots ≡ m1.st.slots) × ((i : ℕ) → i < 2048 → get_or y.book i 0 ≡ get_or m1.book i 0) × Q r y) (sym e) (
            record { going = s1.going; count = s1.count; words = s1.words; sized = s1.sized; counted = s1.counted; ready = s1.ready; wrote = s1.wrote },
            books_lacking Γ env cap room m1 row B x r p o1 below new q.2 h,
            refl,
            refl,
            (λ i l. row_other Γ env cap room m1 row B x r p o1 below new q.2 i (λ z. omega arith) (λ z. omega arith) (λ z. omega arith) ∙ known-other Γ env cap room m1 row B x r p o1 below new q.2 i (λ z. omega arith) (λ z. omega arith)),
            (q.0, q.1, q.2),
          )

      first-met : (m1 m3 : Mach) (w : W ℕ) (a1 : ℕ) → Runs Γ env cap room m m1 w B (λ _. B) (λ r v. Came a1 m.st.from.0 r v) → (w b.count row).row ≡ row → ((m1.st.stop ≡ 0 → ⊥) → m3.st.stop ≡ m1.st.stop)
          → ((c : Bench) → Stands Γ env cap room m1 c → Books Γ env cap room m1 row B → Came a1 m.st.from.0 (w b.count row).result m1
          → Stands Γ env cap room m3 c × Books Γ env cap room m3 (row ++ (joining x (w b.count row).result p ∷ [])) B × (m3.st.budget ≡ m1.st.budget) × (m3.st.slots ≡ m1.st.slots) × ((i : ℕ) → i < 2048 → get_or m3.book i 0 ≡ get_or m1.book i 0) × Q (w b.count row).result m3)
          → free_of env x p m ≡ m3 → Does ((w >>= λ r. enrol x p r) b.count row)
      unfolding joined
      first-met m1 m3 w a1 h k t ext e =
          subst (λ (y : Walk ℕ). Does y) (joined_is w x p b.count row)
          (λ q l. subst (λ (y : Mach). Ended Γ env cap room m y (joined w x p b.count row) B (λ r v. Q r v) (exec cap (w b.count row).ops b m.st.budget)) (sym e)
          (joined-ended Γ env cap room m m1 m3 w b.count row B x p a1 m.st.at.0 m.st.from.0 l k t ext (exec cap (w b.count row).ops b m.st.budget) (h.ends b row s o q l)))

      met-lacking : find x row ≡ absent → Γ x ≡ lacks → Does ((unknown >>= λ r. enrol x p r) b.count row)
      unfolding node
      met-lacking new h =
          let m1 : Mach = make_of 0x4E 0 0 m in
          let m3 : Mach = enrol_of x p (remember_of x m1) in
          let flag = subst (λ (f : Found). Noted Γ env cap room m.book x f) new (o.refs x below) in
          let entry = subst (λ (f : Entry). Entered Γ env cap room m.book x f) h (o.entries x below) in
          first-met m1 m3 unknown m.st.at.0 (runs_make Γ env cap room wide 0x4E 0 0 m builds_unknown B) refl
          (λ k. ap (λ (y : Mach). y.st.stop) (ap (enrol_of x p) (still_remember x m1 k) ∙ still_enrol x p m1 k))
          (λ c s1 o1 q. ext_lacks m1 b.count new h c s1 o1 q)
          (free-lacks s.going flag entry)

      -- the environment holds it
      ext_holds : (m1 : Mach) (r a1 : ℕ) (t : Ty) (new : find x row ≡ absent) → Γ x ≡ holds t → (c : Bench) → Stands Γ env cap room m1 c → Books Γ env cap room m1 row B → Came a1 m.st.from.0 r m1
          → Stands Γ env cap room (Back (remember_of x m1)) c × Books Γ env cap room (Back (remember_of x m1)) (row ++ (joining x r p ∷ [])) B × ((Back (remember_of x m1)).st.budget ≡ m1.st.budget) × ((Back (remember_of x m1)).st.slots ≡ m1.st.slots)
          × ((i : ℕ) → i < 2048 → get_or (Back (remember_of x m1)).book i 0 ≡ get_or m1.book i 0) × Q r (Back (remember_of x m1))
      ext_holds m1 r a1 t new h c s1 o1 q =
          let m2 : Mach = known_by Γ env cap room x m1 in
          let e : Back (remember_of x m1) ≡ with_st (standing m.st.at.0 m1.st.from.0 m1.st.last.0 m1.st) m2 =
          ap Back (remember_eq Γ env cap room x m1 s1.going) ∙ ap (λ (v : State). with_st v m2) (placed_eq m.st.at.0 m1.st s1.going) in
          let s2 : Stands Γ env cap room m2 c = record { going = s1.going; count = s1.count; words = s1.words; sized = s1.sized; counted = s1.counted; ready = s1.ready; wrote = s1.wrote } in
          subst (λ (y : Mach). Stands Γ env cap room y c × Books Γ env cap room y (row ++ (joining x r p ∷ [])) B × (y.st.budget ≡ m1.st.budget) × (y.st.slots ≡ m1.st.slots) × ((i : ℕ) → i < 2048 → get_or y.book i 0 ≡ get_or m1.book i 0) × Q r y) (sym e) (
            stands-standing Γ env cap room m2 c m.st.at.0 m1.st.from.0 m1.st.last.0 s2,
            books_standing Γ env cap room m2 (row ++ (joining x r p ∷ [])) B m.st.at.0 m1.st.from.0 m1.st.last.0 (books_held Γ env cap room m1 row B x r p o1 below new q.2 t h),
            refl,
            refl,
            (λ i l. known-other Γ env cap room m1 row B x r p o1 below new q.2 i (λ z. omega arith) (λ z. omega arith)),
            (refl, q.1, q.2),
          )

      met-held : (t : Ty) → find x row ≡ absent → Γ x ≡ holds t → Does ((lift t >>= λ r. enrol x p r) b.count row)
      met-held t new h =
          let flag = subst (λ (f : Found). Noted Γ env cap room m.book x f) new (o.refs x below) in
          let entry = subst (λ (f : Entry). Entered Γ env cap room m.book x f) h (o.entries x below) in
          let m0 : Mach = At entry.0 in
          let m1 : Mach = lift_of 65 env m0 in
          let m3 : Mach = Back (remember_of x m1) in
          let z : m0 ≡ with_st (standing entry.0 m.st.from.0 m.st.last.0 m.st) m = ap (λ (v : State). with_st v m) (placed_eq entry.0 m.st s.going) in
          let at0 : m0.st.at.0 ≡ entry.0 = ap (λ (y : Mach). y.st.at.0) z in
          let from0 : m0.st.from.0 ≡ m.st.from.0 = ap (λ (y : Mach). y.st.from.0) z in
          let e0 : drop m0.st.at.0 env ≡ spell t ++ entry.1 = ap (λ (k : ℕ). drop k env) at0 ∙ entry.3 in
          first-met m1 m3 (lift t) (entry.0 + length (spell t))
          (runs_after Γ env cap room m m0 m1 entry.0 m.st.from.0 m.st.last.0 (lift t) B (λ _. B) _ (λ g. z)
          (λ g. runs_map Γ env cap room m0 m1 (lift t) B (λ _. B) _ _ (λ r y. (y.0 ∙ ap (λ (k : ℕ). k + length (spell t)) at0, y.1 ∙ from0, y.2)) (runs_lift Γ env cap room wide env brief B t 65 m0 entry.1 entry.4 entry.5 e0)))
          (lift-row t b.count row)
          (λ k. ap (λ (y : Mach). y.st.stop) (ap Back (still_remember x m1 k) ∙ ap (λ (v : State). with_st v m1) (still_placed m.st.at.0 m1.st k)))
          (λ c s1 o1 q. ext_holds m1 (lift t b.count row).result (entry.0 + length (spell t)) t new h c s1 o1 q)
          (free-holds entry.0 s.going flag entry.2)

      free-by : (f : Found) → find x row ≡ f → (e : Entry) → Γ x ≡ e → Does (known e x p f b.count row)
      unfolding known from_env
      free-by (at r) n e h = met-before r n
      free-by absent n lacks h = met-lacking n h
      free-by absent n (holds t) h = met-held t n h

    pub runs_free : Runs Γ env cap room m (free_of env x p m) (name Γ x p) B (λ _. B) (λ r v. Came m.st.at.0 m.st.from.0 r v)
    unfolding name
    runs_free = record { ends = λ b row s o. free-by b row s o (find x row) refl (Γ x) refl }

  -- ---- an index
  counted_in : (B : List ℕ) (i p : ℕ) → i < length B → counted B i p ≡ done (get_or B i 0)
  unfolding counted
  counted_in [] i p l = absurd (omega arith)
  counted_in (x ∷ B) zero p l = refl
  counted_in (x ∷ B) (suc i) p l = counted_in B i p (omega arith)

  counted-out : (B : List ℕ) (i p : ℕ) → length B ≤ i → counted B i p ≡ (problem 4 p >>= λ _. unknown)
  unfolding counted
  counted-out [] i p l = refl
  counted-out (x ∷ B) zero p l = absurd (omega arith)
  counted-out (x ∷ B) (suc i) p l = counted-out B i p (omega arith)

  opened-at : (c : List ℕ) (B : List ℕ) (i : ℕ) → i < length B → Opened Γ env cap room c B → get_or c (cell 3328 1 (length B - 1 - i) 0) 0 ≡ get_or B i 0
  opened-at c [] i l h = absurd (omega arith)
  opened-at c (r ∷ B) zero l h = let z : suc (length B) - 1 - 0 ≡ length B = omega arith in ap (λ (k : ℕ). get_or c (cell 3328 1 k 0) 0) z ∙ h.0
  opened-at c (r ∷ B) (suc i) l h = let z : suc (length B) - 1 - suc i ≡ length B - 1 - i = omega arith in ap (λ (k : ℕ). get_or c (cell 3328 1 k 0) 0) z ∙ opened-at c B i (omega arith) h.1

  module _ (i p : ℕ) (m : Mach) (B : List ℕ) where
    index_in : (r : ℕ) → m.st.stop ≡ 0 → i < m.st.bound → get_or m.book (cell 3328 1 (m.st.bound - 1 - i) 0) 0 ≡ r → bound_identifier_of i p m ≡ with_st (gave_of r m.st) m
    unfolding bound_identifier_of then
    index_in r e l f = test_yes (eqb m.st.stop 0) _ _ (eq-eqb m.st.stop 0 e) ∙ test_yes (ltb i m.st.bound) _ _ (lt-ltb i m.st.bound l) ∙ ap (λ (k : ℕ). with_st (gave_of k m.st) m) f

    index_out : m.st.stop ≡ 0 → m.st.bound ≤ i → bound_identifier_of i p m ≡ make_of 0x4E 0 0 (list_of 4 p 0xFFFF m)
    unfolding bound_identifier_of then
    index_out e l = test_yes (eqb m.st.stop 0) _ _ (eq-eqb m.st.stop 0 e) ∙ test_no (ltb i m.st.bound) _ _ (le-ltb i m.st.bound l)

    abbrev Qi : ℕ → Mach → Type 0
    Qi r v = Came m.st.at.0 m.st.from.0 r v

    index_by : (b : Bench) (row : Row) → Stands Γ env cap room m b → Books Γ env cap room m row B → Dec (i < length B) → Runs Γ env cap room m (bound_identifier_of i p m) (counted B i p) B (λ _. B) (λ r v. Qi r v)
    index_by b row s o (yes l) =
        let e = o.bound in
        let r : ℕ = get_or B i 0 in
        let f : get_or m.book (cell 3328 1 (m.st.bound - 1 - i) 0) 0 ≡ r = ap (λ (k : ℕ). get_or m.book (cell 3328 1 (k - 1 - i) 0) 0) e ∙ opened-at m.book B i l o.opened in
        subst (λ (w : W ℕ). Runs Γ env cap room m (bound_identifier_of i p m) w B (λ _. B) (λ x v. Qi x v)) (sym (counted_in B i p l))
        (runs_if Γ env cap room m (bound_identifier_of i p m) (with_st (standing m.st.at.0 m.st.from.0 r m.st) m) (done r) B (λ _. B) (λ u v. Qi u v) (λ g. index_in r g (omega arith) f ∙ ap (λ (v : State). with_st v m) (gave_eq r m.st g))
        (runs_stand Γ env cap room m m.st.at.0 m.st.from.0 r r B (λ u v. Qi u v) (refl, refl, refl)))
    index_by b row s o (no l) =
        let e = o.bound in
        let m1 : Mach = list_of 4 p 0xFFFF m in
        let m2 : Mach = make_of 0x4E 0 0 m1 in
        subst (λ (w : W ℕ). Runs Γ env cap room m (bound_identifier_of i p m) w B (λ _. B) (λ x v. Qi x v)) (sym (counted-out B i p (omega arith)))
        (runs_if Γ env cap room m (bound_identifier_of i p m) m2 (problem 4 p >>= λ _. unknown) B (λ _. B) (λ u v. Qi u v) (λ g. index_out g (omega arith))
        (runs_bind Γ env cap room m m1 m2 (problem 4 p) (λ _. unknown) B (λ _. B) (λ _. B) (λ _ v. Stood {A = U} m.st.at.0 m.st.from.0 tt v) (λ u v. Qi u v)
        (λ k. ap (λ (y : Mach). y.st.stop) (still_make 0x4E 0 0 m1 k))
        (λ _ c. runs_map Γ env cap room m1 m2 unknown B (λ _. B) _ _ (λ r y. (y.0 ∙ c.0, y.1 ∙ c.1, y.2)) (runs_make Γ env cap room wide 0x4E 0 0 m1 builds_unknown B))
        (runs_list Γ env cap room wide 4 p m B)))

    pub runs_identifier : Runs Γ env cap room m (bound_identifier_of i p m) (counted B i p) B (λ _. B) (λ r v. Came m.st.at.0 m.st.from.0 r v)
    runs_identifier = runs_given Γ env cap room m (bound_identifier_of i p m) (counted B i p) B (λ _. B) _ (λ b row s o. index_by b row s o (dec_lt i (length B)))
