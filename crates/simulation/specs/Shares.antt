-- 32: targets, then declarations, each compared with its target; their references are read back from the slots.
-- After this file the rule of 32 runs the walk's piece.
use Prim.Native.Nat.{ℕ, zero, suc, ◌+◌, ◌-◌, ◌*◌, ◌/◌, ◌%◌, ◌≤◌, ◌<◌}
use Rattle.std.specs.Prelude.{◌≡◌, eqb, ltb}
use Rattle.std.proofs.Math.Path.{refl, ap, ap₂}
use Rattle.std.proofs.Common.{sym, ◌∙◌, subst}
use mathlib.Core.List.{List, [], ◌∷◌, ◌++◌}
use native.Mathlib.Omega.{arith}
use Rattle.std.proofs.Math.ListN.{length, get_or, drop}
use Rattle.meter.specs.Meter.{Out, spent, halt, broken, full}
use Rattle.meter.specs.Meter as Mt
use Rattle.types.specs.Ty.{Ty, base, pow, prod, bool, int, given}
use Rattle.formula.specs.Environment.{Entry, lacks, holds, Env}
use Rattle.formula.specs.Tree.{spells, no_type, Decl, plain, typed, annotated, Pred, Target, decls, targets}
use Rattle.formula.specs.Spell.{spell_decls, spell_pred, spell_target, spell_targets, size_decls, size_pred, size_targets, PlacedDecls, PlacedPred, PlacedTargets}
use Rattle.formula_laws.specs.Fits.{FitsDecls, FitsPred, FitsTargets}
use Rattle.formula_laws.specs.Sizes.{length-decls, length-targets}
use Rattle.unification.specs.Arena.{U, Words, Answer, Verdict, unified, mismatch, circular}
use Rattle.unification.specs.Arena as A
use Rattle.unification.specs.Ops.{Bench, exec}
use Rattle.unification.specs.Ops as Ops
use Rattle.walk.specs.Writer.{Row, Found, at, absent, find, Walk, W, done, glue, ◌>>=◌, enter, own, node, same, enrol}
use Rattle.walk.specs.Walk.{atom, lift, from_env, known, name, notes, meets, spelled, claim, declare, over, expr, walk_pred, target, targets_of, shares}
use Rattle.walk.specs.Walk as K
use Rattle.forms.specs.Forms.{then}
use Rattle.machine.specs.Machine.{Mach, with_st, with_arena, cell, left_of, bound_of, emit_of, two_of, four_of, list_of, judged_by, settled_by, expect_of}
use Rattle.machine.specs.Types.{declare_of, times_of}
use Rattle.walker.specs.Walk.{expr_of, pred_of}
use Rattle.walker.specs.Root.{share_by, shares_from, shares_of, such_that_of, becomes_such_of}
use Rattle.simulation.specs.Relation.{Filled, Ended, Runs}
use Rattle.simulation.specs.Bind.{runs_bind}
use Rattle.simulation.specs.Stand.{runs_if, runs_map, runs_stand}
use Rattle.machine.specs.Still.{still_expect, still_times, still_declare, still_bound, still_within}
use Rattle.walker.specs.StillWalk.{Still, still_expr, still_pred}
use Rattle.simulation.specs.Steps.{nil_right}
use Rattle.simulation.specs.Output.{assoc}
use Rattle.simulation.specs.Nodes.{Came, runs_expect}
use Rattle.simulation.specs.Decls.{test-keeps, runs_declare}
use Rattle.simulation.specs.Bodies.{over-length, runs_close}
use Rattle.simulation.specs.Cycle.{tie_pred}
use Rattle.simulation.specs.Assign.{past, target-long, goes-target}

-- ---- a comparison leaves the book
emit_book : (b : ℕ) (m : Mach) → (emit_of b m).book ≡ m.book
unfolding emit_of then
emit_book b m = test-keeps (λ (x : Mach). x.book) (eqb m.st.stop 0) _ _ m.book (test-keeps (λ (x : Mach). x.book) m.st.over _ _ m.book refl (test-keeps (λ (x : Mach). x.book) (ltb m.st.bytes (length m.out)) _ _ m.book refl refl)) refl

two-book : (v : ℕ) (m : Mach) → (two_of v m).book ≡ m.book
unfolding two_of then
two-book v m = emit_book (v / 256 % 256) (emit_of (v % 256) m) ∙ emit_book (v % 256) m

list-book : (q p x : ℕ) (m : Mach) → (list_of q p x m).book ≡ m.book
unfolding list_of four_of then
list-book q p x m =
    two-book x (two_of (p / 65536) (two_of (p % 65536) (emit_of q (emit_of 0x60 m)))) ∙ two-book (p / 65536) (two_of (p % 65536) (emit_of q (emit_of 0x60 m))) ∙ two-book (p % 65536) (emit_of q (emit_of 0x60 m)) ∙ emit_book q (emit_of 0x60 m) ∙ emit_book 0x60 m

judged-book : (v : Verdict) (p : ℕ) (m : Mach) → (judged_by v p m).book ≡ m.book
unfolding judged_by
judged-book unified p m = refl
judged-book mismatch p m = list-book 0 p 0xFFFF m
judged-book circular p m = list-book 1 p 0xFFFF m

settled-book : (o : Out Words Answer) (p : ℕ) (m : Mach) → (settled_by o p m).book ≡ m.book
unfolding settled_by then
settled-book (Mt.done x l) p m = judged-book x.0 p (with_st (left_of l m.st) (with_arena x.1 m))
settled-book (spent w) p m = refl
settled-book (halt w e) p m = refl

expect_book : (a b p : ℕ) (m : Mach) → (expect_of a b p m).book ≡ m.book
unfolding expect_of
expect_book a b p m = test-keeps (λ (x : Mach). x.book) (eqb m.st.stop 0) _ _ m.book (settled-book (A.unify m.st.nodes (m.arena, a, b) m.st.budget) p m) refl

-- ---- pieces without slots
nil_join : (a b : List (ℕ × ℕ)) → a ≡ [] → b ≡ [] → a ++ b ≡ []
nil_join a b e f = ap₂ (λ (x y : List (ℕ × ℕ)). x ++ y) e f

quiet_bind : {A C : Type 0} (w : W A) (k : A → W C) → ((n : ℕ) (row : Row) → (w n row).slots ≡ []) → ((a : A) (n : ℕ) (row : Row) → (k a n row).slots ≡ []) → (n : ℕ) (row : Row) → ((w >>= k) n row).slots ≡ []
unfolding ◌>>=◌ glue
quiet_bind w k e f n row = nil_join (w n row).slots _ (e n row) (f (w n row).result _ (w n row).row)

quiet_node : (k a b n : ℕ) (row : Row) → (node k a b n row).slots ≡ []
unfolding node
quiet_node k a b n row = refl

quiet_same : (a b p n : ℕ) (row : Row) → (same a b p n row).slots ≡ []
unfolding same
quiet_same a b p n row = refl

quiet_done : {A : Type 0} (a : A) (n : ℕ) (row : Row) → (done a n row).slots ≡ []
unfolding done
quiet_done a n row = refl

quiet_lift : (t : Ty) (n : ℕ) (row : Row) → (lift t n row).slots ≡ []
unfolding lift atom
quiet_lift (base bool) n row = quiet_node 0x40 0 0 n row
quiet_lift (base int) n row = quiet_node 0x41 0 0 n row
quiet_lift (base (given x)) n row = quiet_node 0x42 x 0 n row
quiet_lift (pow t) n row = quiet_bind (lift t) (λ x. node 0x43 x 0) (quiet_lift t) (λ x. quiet_node 0x43 x 0) n row
quiet_lift (prod t u) n row = quiet_bind (lift t) (λ x. lift u >>= λ y. node 0x44 x y) (quiet_lift t) (λ x. quiet_bind (lift u) (λ y. node 0x44 x y) (quiet_lift u) (λ y. quiet_node 0x44 x y)) n row

quiet_env : (e : Entry) (n : ℕ) (row : Row) → (from_env e n row).slots ≡ []
unfolding from_env
quiet_env lacks n row = quiet_node 0x4E 0 0 n row
quiet_env (holds t) n row = quiet_lift t n row

quiet_enrol : (x p r n : ℕ) (row : Row) → (enrol x p r n row).slots ≡ []
unfolding enrol
quiet_enrol x p r n row = refl

quiet_known : (e : Entry) (x p : ℕ) (f : Found) (n : ℕ) (row : Row) → (known e x p f n row).slots ≡ []
unfolding known
quiet_known e x p (at r) n row = quiet_done r n row
quiet_known e x p absent n row = quiet_bind (from_env e) (λ r. enrol x p r) (quiet_env e) (λ r. quiet_enrol x p r) n row

module _ (Γ : Env) where
  quiet_name : (x p n : ℕ) (row : Row) → (name Γ x p n row).slots ≡ []
  unfolding name
  quiet_name x p n row = quiet_known (Γ x) x p (find x row) n row

  quiet_note : (e : Entry) (x p n : ℕ) (row : Row) → (K.note_of Γ e x p n row).slots ≡ []
  unfolding K.note_of
  quiet_note (holds t) x p n row = quiet_done {A = U} tt n row
  quiet_note lacks x p n row = quiet_bind (name Γ x p) (λ t. node 0x42 x 0 >>= λ g. node 0x43 g 0 >>= λ q. same t q p) (quiet_name x p)
      (λ t. quiet_bind (node 0x42 x 0) (λ g. node 0x43 g 0 >>= λ q. same t q p) (quiet_node 0x42 x 0) (λ g. quiet_bind (node 0x43 g 0) (λ q. same t q p) (quiet_node 0x43 g 0) (λ q. quiet_same t q p))) n row

  quiet_notes : (t : Ty) (p n : ℕ) (row : Row) → (notes Γ t p n row).slots ≡ []
  unfolding notes
  quiet_notes (base bool) p n row = quiet_done {A = U} tt n row
  quiet_notes (base int) p n row = quiet_done {A = U} tt n row
  quiet_notes (base (given x)) p n row = quiet_note (Γ x) x p n row
  quiet_notes (pow t) p n row = quiet_notes t p n row
  quiet_notes (prod t u) p n row = quiet_bind (notes Γ t p) (λ _. notes Γ u p) (quiet_notes t p) (λ _. quiet_notes u p) n row

  quiet_meets : (t : Ty) (x p n : ℕ) (row : Row) → (meets Γ t x p n row).slots ≡ []
  unfolding meets
  quiet_meets t x p n row = quiet_bind (lift t) (λ y. same x y p) (quiet_lift t) (λ y. quiet_same x y p) n row

  quiet_spelled : (t : Ty) (x p q n : ℕ) (row : Row) → (spelled Γ t x p q n row).slots ≡ []
  unfolding spelled
  quiet_spelled t x p q n row = quiet_bind (notes Γ t p) (λ _. meets Γ t x q) (quiet_notes t p) (λ _. quiet_meets t x q) n row

  quiet_claim : (d : Decl) (x n : ℕ) (row : Row) → (claim Γ d x n row).slots ≡ []
  unfolding claim
  quiet_claim (plain p) x n row = quiet_done {A = U} tt n row
  quiet_claim (typed p t) x n row = quiet_meets t x p n row
  quiet_claim (annotated p (spells t)) x n row = quiet_spelled t x p p n row
  quiet_claim (annotated p no_type) x n row = quiet_done {A = U} tt n row

  -- ---- the references of the slots are what targets and declarations hand on
  abbrev pub refs : List (ℕ × ℕ) → List ℕ
  refs [] = []
  refs (z ∷ zs) = z.0 ∷ refs zs

  targets-own : (ts : List Target) (n : ℕ) (row : Row) → refs (targets_of Γ ts n row).slots ≡ (targets_of Γ ts n row).result
  unfolding targets_of target expr enter own ◌>>=◌ glue done
  targets-own [] n row = refl
  targets-own (t ∷ ts) n row =
      let a : Walk ℕ = name Γ t.name t.place n row in
      let w : Walk ℕ = target Γ t n row in
      let c : Walk (List ℕ) = targets_of Γ ts (n + Ops.nodes w.ops) w.row in
      ap (λ (zs : List (ℕ × ℕ)). a.result ∷ refs (zs ++ (c.slots ++ []))) (quiet_name t.name t.place n row)
      ∙ ap (λ (zs : List (ℕ × ℕ)). a.result ∷ refs zs) (nil_right c.slots) ∙ ap (λ (xs : List ℕ). a.result ∷ xs) (targets-own ts (n + Ops.nodes w.ops) w.row)

  declare-own : (ds : List Decl) (n : ℕ) (row : Row) → refs (declare Γ ds n row).slots ≡ (declare Γ ds n row).result
  unfolding declare enter own ◌>>=◌ glue done node
  declare-own [] n row = refl
  declare-own (d ∷ ds) n row =
      let k : Walk U = claim Γ d n (n + 1) row in
      let c : Walk (List ℕ) = declare Γ ds (n + 1 + Ops.nodes k.ops) k.row in
      ap (λ (zs : List (ℕ × ℕ)). n ∷ refs (zs ++ (c.slots ++ []))) (quiet_claim d n (n + 1) row)
      ∙ ap (λ (zs : List (ℕ × ℕ)). n ∷ refs zs) (nil_right c.slots) ∙ ap (λ (xs : List ℕ). n ∷ xs) (declare-own ds (n + 1 + Ops.nodes k.ops) k.row)

  abbrev Held : List ℕ → ℕ → List ℕ → Type 0
  Held c k [] = Unit {0}
  Held c k (x ∷ xs) = (get_or c (cell 0 2 k 0) 0 ≡ x) × Held c (suc k) xs

  held_kept : (c d : List ℕ) (k : ℕ) (xs : List ℕ) → ((i : ℕ) → i < 2 * (k + length xs) → get_or d i 0 ≡ get_or c i 0) → Held c k xs → Held d k xs
  held_kept c d k [] e h = tt
  held_kept c d k (x ∷ xs) e h = (e (cell 0 2 k 0) (omega arith) ∙ h.0, held_kept c d (suc k) xs (λ i l. e i (omega arith)) h.1)

  refs-long : (ss : List (ℕ × ℕ)) → length (refs ss) ≡ length ss
  refs-long [] = refl
  refs-long (z ∷ ss) = ap suc (refs-long ss)

  module _ (env : List ℕ) (cap room : ℕ) where
    filled-held : (c : List ℕ) (k : ℕ) (ss : List (ℕ × ℕ)) → Filled Γ env cap room c k ss → Held c k (refs ss)
    filled-held c k [] h = tt
    filled-held c k (z ∷ ss) h = (h.0, filled-held c (suc k) ss h.2)

    -- what a piece whose slots hold its results leaves in the book
    abbrev Left : Mach → List ℕ → Mach → Type 0
    Left m xs v = (v.st.slots ≡ m.st.slots + length xs) × Held v.book m.st.slots xs × ((i : ℕ) → i < 2 * m.st.slots → get_or v.book i 0 ≡ get_or m.book i 0)

    left_ended : (m m1 : Mach) (x : Walk (List ℕ)) (B : List ℕ) (Q : List ℕ → Mach → Type 0) → refs x.slots ≡ x.result → (o : Out U Bench) → Ended Γ env cap room m m1 x B Q o → Ended Γ env cap room m m1 x B (λ a v. Q a v × Left m a v) o
    left_ended m m1 x B Q e (Mt.done b t) h =
        let l = refs-long x.slots in
        let z = h.3.taken in
        let f = filled-held m1.book m.st.slots x.slots h.3.filled in
        let n : m1.st.slots ≡ m.st.slots + length (refs x.slots) = omega arith in
        (h.0, h.1, h.2, h.3, (h.4, (subst (λ (xs : List ℕ). m1.st.slots ≡ m.st.slots + length xs) e n, subst (λ (xs : List ℕ). Held m1.book m.st.slots xs) e f, h.3.kept)))
    left_ended m m1 x B Q e (spent y) h = h
    left_ended m m1 x B Q e (halt full y) h = h
    left_ended m m1 x B Q e (halt broken y) h = h

    runs_left : (m m1 : Mach) (w : W (List ℕ)) (B : List ℕ) (B' : List ℕ → List ℕ) (Q : List ℕ → Mach → Type 0) → ((n : ℕ) (row : Row) → refs (w n row).slots ≡ (w n row).result) → Runs Γ env cap room m m1 w B B' Q → Runs Γ env cap room m m1 w B B' (λ a v. Q a v × Left m a v)
    runs_left m m1 w B B' Q e h = record { ends = λ b row s o q l. left_ended m m1 (w b.count row) (B' (w b.count row).result) Q (e b.count row) (exec cap (w b.count row).ops b m.st.budget) (h.ends b row s o q l) }

module _ (Γ : Env) (env : List ℕ) (cap room : ℕ) (wide : cap ≤ 32768) (brief : length env ≤ 65536) (s : List ℕ) (short : length s ≤ 65536) (most : ℕ) (few : most ≤ 256) where
  abbrev X : Mach → Mach
  X x = expr_of 64 s env x

  abbrev stays : Still X
  stays m h = still_expr 64 s env m h

  -- ---- the targets
  runs_targets : (ts : List Target) (p : ℕ) (rest : List ℕ) → FitsTargets most ts → PlacedTargets p ts → drop p s ≡ spell_targets ts ++ rest → (m : Mach) → m.st.at.0 ≡ p
      → Runs Γ env cap room m (times_of (expr_of 64 s env) (targets ts) m) (targets_of Γ ts) [] (λ _. []) (λ xs v. (v.st.at.0 ≡ p + size_targets ts) × (length xs ≡ targets ts))
  unfolding targets targets_of times_of spell_targets size_targets FitsTargets PlacedTargets
  runs_targets [] p rest f w b m at0 = let z : m.st.at.0 ≡ p + 0 = omega arith in runs_stand Γ env cap room m m.st.at.0 m.st.from.0 m.st.last.0 [] [] (λ xs v. (v.st.at.0 ≡ p + 0) × (length xs ≡ 0)) (z, refl)
  runs_targets (t ∷ ts) p rest f w b m at0 =
      let b0 : drop p s ≡ spell_target t ++ (spell_targets ts ++ rest) = b ∙ assoc (spell_target t) (spell_targets ts) rest in
      let b1 : drop (p + 3) s ≡ spell_targets ts ++ rest = past Γ env cap room wide brief s short most few (spell_target t) (spell_targets ts ++ rest) 3 p (target-long Γ env cap room wide brief s short most few t) b0 in
      let M1 : Mach = X m in
      let F : Mach = times_of (expr_of 64 s env) (targets ts) M1 in
      let N : ℕ = p + (3 + size_targets ts) in
      runs_bind Γ env cap room m M1 F (target Γ t) (λ x. targets_of Γ ts >>= λ xs. done (x ∷ xs)) [] (λ _. []) (λ _. []) (λ r v. Came (p + 3) t.place r v) (λ xs v. (v.st.at.0 ≡ N) × (length xs ≡ suc (targets ts)))
      (λ h. ap (λ (y : Mach). y.st.stop) (still_times (expr_of 64 s env) M1 (stays M1 h) (targets ts)))
      (λ x c. runs_bind Γ env cap room M1 F F (targets_of Γ ts) (λ xs. done (x ∷ xs)) [] (λ _. []) (λ _. []) (λ xs v. (v.st.at.0 ≡ p + 3 + size_targets ts) × (length xs ≡ targets ts)) (λ xs v. (v.st.at.0 ≡ N) × (length xs ≡ suc (targets ts)))
      (λ h. refl)
      (λ xs k. runs_stand Γ env cap room F F.st.at.0 F.st.from.0 F.st.last.0 (x ∷ xs) [] (λ ys v. (v.st.at.0 ≡ N) × (length ys ≡ suc (targets ts))) (k.0 ∙ omega arith, ap suc k.1))
      (runs_targets ts (p + 3) rest f.1 w.1 b1 M1 c.0))
      (goes-target Γ env cap room wide brief s short most few t p [] (spell_targets ts ++ rest) f.0 w.0 b0 m at0)

  -- ---- each declaration against its target
  still_share : (first n p i : ℕ) (m : Mach) → (m.st.stop ≡ 0 → ⊥) → share_by first n p i m ≡ m
  unfolding share_by then
  still_share first n p i m h = still_expect _ _ p m h

  still_shares : (first n p k i : ℕ) (m : Mach) → (m.st.stop ≡ 0 → ⊥) → shares_from first n p k i m ≡ m
  unfolding shares_from
  still_shares first n p zero i m h = refl
  still_shares first n p (suc k) i m h = ap (shares_from first n p k (i + 1)) (still_share first n p i m h) ∙ still_shares first n p k (i + 1) m h

  share-is : (first n p i : ℕ) (m : Mach) (x y : ℕ) → get_or m.book (cell 0 2 first (i * 2)) 0 ≡ x → get_or m.book (cell 0 2 first ((n + i) * 2)) 0 ≡ y → share_by first n p i m ≡ expect_of y x p m
  unfolding share_by then
  share-is first n p i m x y e f = ap₂ (λ (a b : ℕ). expect_of b a p m) e f

  runs_shares : (xs ys D : List ℕ) (first n p i q : ℕ) → length xs ≡ length ys → (m : Mach) → m.st.at.0 ≡ q → Held Γ m.book (first + i) xs → Held Γ m.book (first + (n + i)) ys
      → Runs Γ env cap room m (shares_from first n p (length xs) i m) (shares Γ xs ys p) D (λ _. D) (λ _ v. v.st.at.0 ≡ q)
  unfolding shares shares_from
  runs_shares [] ys D first n p i q l m at0 hx hy = runs_stand Γ env cap room m m.st.at.0 m.st.from.0 m.st.last.0 tt D (λ _ v. v.st.at.0 ≡ q) at0
  runs_shares (x ∷ xs) [] D first n p i q l m at0 hx hy = absurd (omega arith)
  runs_shares (x ∷ xs) (y ∷ ys) D first n p i q l m at0 hx hy =
      let M1 : Mach = share_by first n p i m in
      let ex : cell 0 2 first (i * 2) ≡ cell 0 2 (first + i) 0 = omega arith in
      let ey : cell 0 2 first ((n + i) * 2) ≡ cell 0 2 (first + (n + i)) 0 = omega arith in
      let is : M1 ≡ expect_of y x p m = share-is first n p i m x y (ap (λ (k : ℕ). get_or m.book k 0) ex ∙ hx.0) (ap (λ (k : ℕ). get_or m.book k 0) ey ∙ hy.0) in
      let bk : M1.book ≡ m.book = ap (λ (z : Mach). z.book) is ∙ expect_book y x p m in
      let ax : suc (first + i) ≡ first + (i + 1) = omega arith in
      let ay : suc (first + (n + i)) ≡ first + (n + (i + 1)) = omega arith in
      runs_bind Γ env cap room m M1 (shares_from first n p (length xs) (i + 1) M1) (same y x p) (λ _. shares Γ xs ys p) D (λ _. D) (λ _. D) (λ _ v. v.st.at.0 ≡ q) (λ _ v. v.st.at.0 ≡ q)
      (λ h. ap (λ (z : Mach). z.st.stop) (still_shares first n p (length xs) (i + 1) M1 h))
      (λ _ c. runs_shares xs ys D first n p (i + 1) q (omega arith) M1 c
      (subst (λ (k : ℕ). Held Γ M1.book k xs) ax (subst (λ (w : List ℕ). Held Γ w (suc (first + i)) xs) (sym bk) hx.1))
      (subst (λ (k : ℕ). Held Γ M1.book k ys) ay (subst (λ (w : List ℕ). Held Γ w (suc (first + (n + i))) ys) (sym bk) hy.1)))
      (runs_if Γ env cap room m M1 (expect_of y x p m) (same y x p) D (λ _. D) _ (λ g. is)
      (runs_map Γ env cap room m (expect_of y x p m) (same y x p) D (λ _. D) _ _ (λ _ z. z.0 ∙ at0) (runs_expect Γ env cap room wide y x p m D)))

  -- ---- 32
  abbrev pub Closed : Mach → Mach
  Closed y = with_st (bound_of 0 y.st) y

  pub runs_becomes_such : (ts : List Target) (ds : List Decl) (c : Pred) (p n pl : ℕ) (rest : List ℕ) → n ≡ targets ts → targets ts ≡ decls ds → decls ds ≤ 64 → FitsTargets most ts → FitsDecls most 1 ds → FitsPred most 1 (decls ds) c
      → PlacedTargets p ts → PlacedDecls (p + size_targets ts) ds → PlacedPred (p + size_targets ts + size_decls ds) c
      → drop p s ≡ spell_targets ts ++ (spell_decls ds ++ (spell_pred c ++ rest)) → (m : Mach) → m.st.at.0 ≡ p
      → Runs Γ env cap room m (Closed (becomes_such_of s env n pl m)) (targets_of Γ ts >>= λ xs. declare Γ ds >>= λ ys. shares Γ xs ys pl >>= λ _. walk_pred Γ c (over ys [])) [] (λ _. []) (λ _ v. v.st.at.0 ≡ p + size_targets ts + size_decls ds + size_pred c)
  unfolding becomes_such_of such_that_of shares_of then
  runs_becomes_such ts ds c p n pl rest en et el ft fd fc wt wd wc b m at0 =
      let b1 : drop (p + size_targets ts) s ≡ spell_decls ds ++ (spell_pred c ++ rest) = past Γ env cap room wide brief s short most few (spell_targets ts) (spell_decls ds ++ (spell_pred c ++ rest)) (size_targets ts) p (length-targets ts) b in
      let b2 : drop (p + size_targets ts + size_decls ds) s ≡ spell_pred c ++ rest = past Γ env cap room wide brief s short most few (spell_decls ds) (spell_pred c ++ rest) (size_decls ds) (p + size_targets ts) (length-decls ds) b1 in
      let first : ℕ = m.st.slots in
      let M1 : Mach = times_of (expr_of 64 s env) n m in
      let M2 : Mach = declare_of s env n M1 in
      let Sh : Mach → Mach = (λ (y : Mach). shares_from first n pl (n - 0) 0 y) in
      let M3 : Mach = Sh M2 in
      let M4 : Mach = pred_of 64 s env M3 in
      let Z : Mach = Closed M4 in
      let N : ℕ = p + size_targets ts + size_decls ds + size_pred c in
      let Qz : U → Mach → Type 0 = (λ _ v. v.st.at.0 ≡ N) in
      let still3 : (y : Mach) → (y.st.stop ≡ 0 → ⊥) → Closed (pred_of 64 s env y) ≡ y = (λ y h. ap Closed (still_pred 64 s env y h) ∙ still_within (bound_of 0) y (still_bound 0 y.st h)) in
      let still2 : (y : Mach) → (y.st.stop ≡ 0 → ⊥) → Closed (pred_of 64 s env (Sh y)) ≡ y = (λ y h. ap (λ (z : Mach). Closed (pred_of 64 s env z)) (still_shares first n pl (n - 0) 0 y h) ∙ still3 y h) in
      let still1 : (y : Mach) → (y.st.stop ≡ 0 → ⊥) → Closed (pred_of 64 s env (Sh (declare_of s env n y))) ≡ y = (λ y h. ap (λ (z : Mach). Closed (pred_of 64 s env (Sh z))) (still_declare s env n y h) ∙ still2 y h) in
      let nd : n ≡ decls ds = en ∙ et in
      let Q1 : List ℕ → Mach → Type 0 = (λ xs v. (v.st.at.0 ≡ p + size_targets ts) × (length xs ≡ targets ts)) in
      let Q2 : List ℕ → Mach → Type 0 = (λ ys v. (v.st.at.0 ≡ M1.st.at.0 + size_decls ds) × (length ys ≡ decls ds)) in
      runs_bind Γ env cap room m M1 Z (targets_of Γ ts) (λ xs. declare Γ ds >>= λ ys. shares Γ xs ys pl >>= λ _. walk_pred Γ c (over ys [])) [] (λ _. []) (λ _. []) (λ xs v. Q1 xs v × Left Γ env cap room m xs v) Qz
      (λ h. ap (λ (y : Mach). y.st.stop) (still1 M1 h))
      (λ xs k. (
      let a1 = k.0.0 in
      let n1 = k.0.1 in
      let s1 = k.1.0 in
      runs_bind Γ env cap room M1 M2 Z (declare Γ ds) (λ ys. shares Γ xs ys pl >>= λ _. walk_pred Γ c (over ys [])) [] (λ ys. over ys []) (λ _. []) (λ ys v. Q2 ys v × Left Γ env cap room M1 ys v) Qz
      (λ h. ap (λ (y : Mach). y.st.stop) (still2 M2 h))
      (λ ys j. (
      let D : List ℕ = over ys [] in
      let a2 = j.0.0 in
      let n2 = j.0.1 in
      let hx : Held Γ M2.book first xs = held_kept Γ M1.book M2.book first xs (λ i l. j.1.2 i (omega arith)) k.1.1 in
      let z0 : first ≡ first + 0 = omega arith in
      let z1 : M1.st.slots ≡ first + (n + 0) = omega arith in
      let z2 : n - 0 ≡ length xs = omega arith in
      let dl : length D ≡ decls ds = over-length ys [] ∙ omega arith in
      runs_bind Γ env cap room M2 M3 Z (shares Γ xs ys pl) (λ _. walk_pred Γ c D) D (λ _. D) (λ _. []) (λ _ v. v.st.at.0 ≡ p + size_targets ts + size_decls ds) Qz
      (λ h. ap (λ (y : Mach). y.st.stop) (still3 M3 h))
      (λ _ a3. runs_close Γ env cap room M3 M4 ys [] 0 refl Qz (λ _ y. y) (walk_pred Γ c D) D
      (tie_pred Γ env cap room wide brief s short most few c 64 1 (p + size_targets ts + size_decls ds) D rest refl (subst (λ (i : ℕ). FitsPred most 1 i c) (sym dl) fc) wc b2 M3 a3))
      (subst (λ (i : ℕ). Runs Γ env cap room M2 (shares_from first n pl i 0 M2) (shares Γ xs ys pl) D (λ _. D) (λ _ v. v.st.at.0 ≡ p + size_targets ts + size_decls ds)) (sym z2)
      (runs_shares xs ys D first n pl 0 (p + size_targets ts + size_decls ds) (omega arith) M2 (omega arith) (subst (λ (i : ℕ). Held Γ M2.book i xs) z0 hx) (subst (λ (i : ℕ). Held Γ M2.book i ys) z1 j.1.1)))))
      (subst (λ (i : ℕ). Runs Γ env cap room M1 (declare_of s env i M1) (declare Γ ds) [] (λ ys. over ys []) (λ ys v. Q2 ys v × Left Γ env cap room M1 ys v)) (sym nd)
      (runs_left Γ env cap room M1 (declare_of s env (decls ds) M1) (declare Γ ds) [] (λ ys. over ys []) Q2 (declare-own Γ ds)
      (runs_declare Γ env cap room wide brief s short most few ds 1 M1 [] (spell_pred c ++ rest) (omega arith) fd (subst (λ (i : ℕ). PlacedDecls i ds) (sym a1) wd) (ap (λ (i : ℕ). drop i s) a1 ∙ b1))))))
      (subst (λ (i : ℕ). Runs Γ env cap room m (times_of (expr_of 64 s env) i m) (targets_of Γ ts) [] (λ _. []) (λ xs v. Q1 xs v × Left Γ env cap room m xs v)) (sym en)
      (runs_left Γ env cap room m (times_of (expr_of 64 s env) (targets ts) m) (targets_of Γ ts) [] (λ _. []) Q1 (targets-own Γ ts)
      (runs_targets ts p (spell_decls ds ++ (spell_pred c ++ rest)) ft wt b m at0)))

  pub still_becomes_such : (n pl : ℕ) (m : Mach) → (m.st.stop ≡ 0 → ⊥) → becomes_such_of s env n pl m ≡ m
  unfolding becomes_such_of such_that_of shares_of then
  still_becomes_such n pl m h =
      let Sh : Mach → Mach = (λ (y : Mach). shares_from m.st.slots n pl (n - 0) 0 y) in
      ap (λ (y : Mach). pred_of 64 s env (Sh (declare_of s env n y))) (still_times (expr_of 64 s env) m (stays m h) n)
      ∙ ap (λ (y : Mach). pred_of 64 s env (Sh y)) (still_declare s env n m h) ∙ ap (λ (y : Mach). pred_of 64 s env y) (still_shares m.st.slots n pl (n - 0) 0 m h) ∙ still_pred 64 s env m h
