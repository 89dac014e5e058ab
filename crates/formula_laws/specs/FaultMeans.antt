-- What the number of a formula's fault means, by what is due at its place (`Due`). Every head before the place stands where it is due, inside the limits.
-- `beyond_means`: of a limit, what is due there stands there and passes the limit. So a limit is told only of a record that is well formed itself.
-- `malformed_means_formula`: of a malformed record, what is due there does not stand there, or bytes are left over. No limit has a part in it.
-- `fault-told` and `told-fault` say both at once, exactly: a stream that is not too long has the fault that is told of what is due, and no other.
use Rattle.heads.specs.Reads.{same_part}
use Prim.Native.Nat.{ℕ, zero, suc, ◌+◌, ◌≤◌, ◌<◌}
use native.Mathlib.Omega.{arith}
use Rattle.std.proofs.Math.Path.{◌≡◌, refl, sym, ap}
use Rattle.std.proofs.Common.{◌∙◌}
use Rattle.std.specs.Prelude.{◌≢◌, Bool, length, drop, Option, Some, None, Ok, Err}
use Rattle.std.proofs.Math.Bool.{true, false}
use mathlib.Core.List.{List, [], ◌∷◌, ◌++◌, append_assoc}
use Rattle.std.proofs.Math.Dec.{ltb, eqb}
use borrow.Author.Tests.{le-ltb, ltb-true, ltb-false, eqb-true, eqb-false}
use Rattle.types.specs.declared.Place.{Place}
use Rattle.types.specs.Ty.{Ty, base, pow, prod}
use Rattle.types.specs.Record as R
use Rattle.types.specs.Record.{Head, atomic, power, product, wrong, head_of, TypeAt, got, malformed, deep, deep_by, type_by, type_at}
use Rattle.types.specs.Limits.{max_bytes, max_depth, max_slots, max_opened, levels}
use Rattle.heads.specs.declared.ExprHead.{ExprHead}
use Rattle.heads.specs.declared.ExprHead.TheVariants.{Free, Bound, Literal, Atomic, Extension, Truth, Binary, Associative, Unary, Quantified, Ascribed, Explicit}
use Rattle.heads.specs.declared.PredHead.{PredHead}
use Rattle.heads.specs.declared.PredHead.TheVariants.{Constant, Variable, Relational, Connective, Junction, Negation, Quantification, Simple, Multiple, Application}
use Rattle.heads.specs.declared.DeclHead.{DeclHead}
use Rattle.heads.specs.declared.DeclHead.TheVariants.{Plain, Typed, Annotated}
use Rattle.formula.specs.declared.St.{St}
use Rattle.types.specs.declared.Fault.{Fault}
use Rattle.types.specs.declared.Fault.TheVariants.{Malformed, Beyond}
use Rattle.formula.specs.Tree.{Spelling, spells, no_type, Decl, Expr, none, more, Pred, end, also, Target, Formula, expression, predicate, becomes, becomes_in, becomes_such}
use Rattle.heads.specs.Heads.{pick, place, byte_at, on_part, few_at, expr_head, pred_head, decl_head, target_at}
use Rattle.formula.specs.Reader.{Got, ok, bad, and_then, on_next, many, moved, own_of, declare_of, closed, closing, type_got, type_in, read_no_type, spelled_in, spelling_in}
use Rattle.formula.specs.Parse.{decl_by, decl_if, decl_at, decls_at, expr_by, pred_by, expr_if, pred_if, expr_deep, pred_deep, expr_at, pred_at, target_by, target_in, pair_in, targets_at, pairs_at, becomes_by, becomes_at, root_by, start, formula_at, finish, whole, too_long, faulty, parsed_by, parse_of}
use Rattle.formula_laws.specs.Due.{Due, formula_due, target_due, expr_due, pred_due, decl_due, type_due, spelling_due, close_due, end_due, depth_due, Limited, Opening, opens, absent, owned, declared, times, expr_opens, pred_opens, decl_opens, type_opens, target_opens, becomes_opens, root_opens, spelling_opens, type_head, open_of, Within, Stands, Assigns, Lacks, Goes, stay, onward, Passed, too_deep, too_many, too_open}

module _ (names : ℕ) (s : List ℕ) where
  -- what is due stands there and passes a limit
  pub record Passes (d : Due) (t : St) : Type 0 where
    pub limited : Limited d
    pub parts : List Due
    pub next : St
    pub stands : open_of names s d t ≡ opens parts next
    pub passed : Passed d next

  -- a fault told of what is due in a state
  unfoldable pub Meant : Due → St → Fault Place → Type 0
  Meant d t (Malformed p) = (t.at ≡ p) × (open_of names s d t ≡ absent)
  Meant d t (Beyond p) = (t.at ≡ p) × Passes d t

  -- from a state and a stack some state is reached of which the fault is told
  pub record Told (t : St) (k : List Due) (f : Fault Place) : Type 0 where
    pub state : St
    pub due : Due
    pub later : List Due
    pub goes : Goes names s t k state (due ∷ later)
    pub meant : Meant due state f

  -- a state inside the limits
  unfoldable Low : St → Type 0
  Low t = (t.slots ≤ max_slots) × (t.opened ≤ max_opened)

  -- from a state inside the limits a reading takes what is due off the stack, or its fault is told
  unfoldable Reads : {A : Type 0} → List Due → St → Got A → Type 0
  Reads ds t (ok u a) = Low t → Low u × ((k : List Due) → Goes names s t (ds ++ k) u k)
  Reads ds t (bad f) = Low t → (k : List Due) → Told t (ds ++ k) f

  -- ---- laws

  goes_join : {t u v : St} {k l m : List Due} → Goes names s t k u l → Goes names s u l v m → Goes names s t k v m
  goes_join stay h = h
  goes_join (onward e w g) h = onward e w (goes_join g h)

  told_join : {t u : St} {k l : List Due} {f : Fault Place} → Goes names s t k u l → Told u l f → Told t k f
  told_join g h = record { state = h.state; due = h.due; later = h.later; goes = goes_join g h.goes; meant = h.meant }

  reads_none : {A : Type 0} (t : St) (a : A) → Reads [] t (ok t a)
  unfolding Reads
  reads_none t a = λ w. (w, λ k. stay)

  reads_on : {A : Type 0} (ds es : List Due) (t u : St) (x : Got A) → (Low t → Low u × ((k : List Due) → Goes names s t (ds ++ k) u k)) → Reads es u x → Reads (ds ++ es) t x
  unfolding Reads
  reads_on ds es t u (ok v b) h n = λ w. let y = h w in let z = n y.0 in (z.0, λ k. rw (append_assoc ds es k) (goes_join (y.1 (es ++ k)) (z.1 k)))
  reads_on ds es t u (bad f) h n = λ w k. let y = h w in rw (append_assoc ds es k) (told_join (y.1 (es ++ k)) (n y.0 k))

  reads_then : {A B : Type 0} (ds es : List Due) (t : St) (g : Got A) (c : A → St → Got B) → Reads ds t g → ((a : A) (u : St) → Reads es u (c a u)) → Reads (ds ++ es) t (and_then g c)
  unfolding Reads and_then
  reads_then ds es t (ok u a) c h n = reads_on ds es t u (c a u) h (n a u)
  reads_then ds es t (bad f) c h n = λ w k. rw (append_assoc ds es k) (h w (es ++ k))

  reads-last : {A B : Type 0} (ds : List Due) (t : St) (g : Got A) (f : A → B) → Reads ds t g → Reads ds t (and_then g λ a u. ok u (f a))
  unfolding Reads and_then
  reads-last ds t (ok u a) f h = h
  reads-last ds t (bad x) f h = h

  reads-many : {A B : Type 0} (nil : B) (cons : A → B → B) (m : St → Got A) (ds : List Due) → ((t : St) → Reads ds t (m t)) → (n : ℕ) (t : St) → Reads (times n ds) t (many nil cons m n t)
  unfolding times many
  reads-many nil cons m ds h zero t = reads_none t nil
  reads-many nil cons m ds h (suc n) t = reads_then ds (times n ds) t (m t) _ (h t) (λ a u. reads-last (times n ds) u (many nil cons m n u) (cons a) (reads-many nil cons m ds h n u))

  reads-closing : {A : Type 0} (ds es : List Due) (t : St) (g : Got A) → Reads (ds ++ es) t g → Reads (ds ++ (es ++ (close_due t.opened ∷ []))) t (closing t.opened g)
  unfolding Reads Low Within closing closed open_of depth_due Limited
  reads-closing ds es t (ok u a) h =
      λ w.
      let y = h w in
      ((y.0.0, w.1), λ k. rw (← append_assoc ds es (close_due t.opened ∷ []), append_assoc (ds ++ es) (close_due t.opened ∷ []) k) (goes_join (y.1 (close_due t.opened ∷ k)) (onward refl (omega arith, y.0.0, w.1) stay)))
  reads-closing ds es t (bad f) h = λ w k. rw (← append_assoc ds es (close_due t.opened ∷ []), append_assoc (ds ++ es) (close_due t.opened ∷ []) k) (h w (close_due t.opened ∷ k))

  -- what is due opens, does not stand there, passes a limit
  reads_open : {A : Type 0} (d : Due) (ds : List Due) (t u : St) (g : Got A) → open_of names s d t ≡ opens ds u → (Low t → Within d u) → Reads ds u g → Reads (d ∷ []) t g
  unfolding Reads Low Within
  reads_open d ds t u (ok v a) e i h = λ w. let y = i w in let z = h (y.1, y.2) in (z.0, λ k. onward e y (z.1 k))
  reads_open d ds t u (bad f) e i h = λ w k. let y = i w in told_join (onward e y stay) (h (y.1, y.2) k)

  reads-move : {A : Type 0} (d : Due) (ds : List Due) (e : Place) (t : St) (g : Got A) → depth_due d ≤ max_depth → open_of names s d t ≡ opens ds (moved e t) → Reads ds (moved e t) g → Reads (d ∷ []) t g
  unfolding Low Within moved
  reads-move d ds e t g l i h = reads_open d ds t (moved e t) g i (λ w. (l, w.0, w.1)) h

  reads-absent : (A : Type 0) (d : Due) (t : St) → open_of names s d t ≡ absent → Reads {A = A} (d ∷ []) t (bad (Malformed t.at))
  unfolding Reads Meant
  reads-absent A d t e = λ w k. record { state = t; due = d; later = k; goes = stay; meant = (refl, e) }

  reads-passed : (A : Type 0) (d : Due) → Limited d → (ds : List Due) (t u : St) → open_of names s d t ≡ opens ds u → Passed d u → Reads {A = A} (d ∷ []) t (bad (Beyond t.at))
  unfolding Reads Meant
  reads-passed A d i ds t u e h = λ w k. record { state = t; due = d; later = k; goes = stay; meant = (refl, record { limited = i; parts = ds; next = u; stands = e; passed = h }) }

  -- a slot is owned, or none is left
  module _ (d : Due) (r : Limited d) (ds : List Due) (e : Place) (t : St) (l : depth_due d ≤ max_depth) where
    own-low : ltb t.slots max_slots ≡ true → Low t → Within d (owned e t)
    unfolding Low Within owned
    own-low k w = let z = ltb-true t.slots max_slots k in (l, omega arith, w.1)

    own-passed : ltb t.slots max_slots ≡ false → Passed d (owned e t)
    unfolding owned
    own-passed k = too_many (let z = ltb-false t.slots max_slots k in omega arith)

    reads-own : {A : Type 0} (c : St → Got A) → open_of names s d t ≡ opens ds (owned e t) → Reads ds (owned e t) (c (owned e t)) → Reads (d ∷ []) t (on_next (own_of e t) c)
    unfolding own_of on_next owned
    reads-own {A} c i h = go (ltb t.slots max_slots) refl
      where
        go : (b : Bool) → ltb t.slots max_slots ≡ b → Reads (d ∷ []) t (on_next (pick b (Ok (owned e t)) (Err (Beyond t.at))) c)
        go true k = reads_open d ds t (owned e t) _ i (own-low k) h
        go false k = reads-passed A d r ds t (owned e t) i (own-passed k)

    reads-own-closing : {A : Type 0} (n : ℕ) (c : St → Got A) → open_of names s d t ≡ opens ds (owned e t) → Reads ds (owned e t) (closing n (c (owned e t))) → Reads (d ∷ []) t (closing n (on_next (own_of e t) c))
    unfolding own_of on_next owned closing
    reads-own-closing {A} n c i h = go (ltb t.slots max_slots) refl
      where
        go : (b : Bool) → ltb t.slots max_slots ≡ b → Reads (d ∷ []) t (closing n (on_next (pick b (Ok (owned e t)) (Err (Beyond t.at))) c))
        go true k = reads_open d ds t (owned e t) _ i (own-low k) h
        go false k = reads-passed A d r ds t (owned e t) i (own-passed k)

    reads-declare : {A : Type 0} (c : St → Got A) → open_of names s d t ≡ opens ds (declared e t) → Reads ds (declared e t) (c (declared e t)) → Reads (d ∷ []) t (on_next (declare_of e t) c)
    unfolding declare_of on_next declared Low Within
    reads-declare {A} c i h = go (ltb t.opened max_opened) (ltb t.slots max_slots) refl refl
      where
        go : (b x : Bool) → ltb t.opened max_opened ≡ b → ltb t.slots max_slots ≡ x → Reads (d ∷ []) t (on_next (pick b (pick x (Ok (declared e t)) (Err (Beyond t.at))) (Err (Beyond t.at))) c)
        go true true k j = reads_open d ds t (declared e t) _ i (λ w. (l, (let z = ltb-true t.slots max_slots j in omega arith), (let z = ltb-true t.opened max_opened k in omega arith))) h
        go true false k j = reads-passed A d r ds t (declared e t) i (too_many (let z = ltb-false t.slots max_slots j in omega arith))
        go false x k j = reads-passed A d r ds t (declared e t) i (too_open (let z = ltb-false t.opened max_opened k in omega arith))

  -- ---- types and declarations

  type-then : (ds es : List Due) (t st : St) (x : TypeAt) (f : Ty → ℕ → TypeAt) → Reads ds t (type_got x st) → ((a : Ty) (e : ℕ) → Reads es (moved (place e) st) (type_got (f a e) st)) → Reads (ds ++ es) t (type_got (R.and_then x f) st)
  unfolding Reads type_got R.and_then
  type-then ds es t st (got a e) f h n = reads_on ds es t (moved (place e) st) (type_got (f a e) st) h (n a e)
  type-then ds es t st (malformed p) f h n = λ w k. rw (append_assoc ds es k) (h w (es ++ k))
  type-then ds es t st (deep p) f h n = λ w k. rw (append_assoc ds es k) (h w (es ++ k))

  type-last : (ds : List Due) (t st : St) (x : TypeAt) (f : Ty → Ty) → Reads ds t (type_got x st) → Reads ds t (type_got (R.and_then x λ a e. got (f a) e) st)
  unfolding Reads type_got R.and_then
  type-last ds t st (got a e) f h = h
  type-last ds t st (malformed p) f h = h
  type-last ds t st (deep p) f h = h

  -- a type, or a spelling other than 4F: what is due opens as the type's head says
  type-deep : (r : Due) → Limited r → (d : ℕ) → max_depth < depth_due r → (st : St) (p : ℕ) (h : Head) → open_of names s r (moved (place p) st) ≡ type_opens d (moved (place p) st) h → Reads (r ∷ []) (moved (place p) st) (type_got (deep_by p h) st)
  unfolding type_got deep_by type_opens moved
  type-deep r y d l st p wrong q = reads-absent Ty r (moved (place p) st) q
  type-deep r y d l st p (atomic a e) q = reads-passed Ty r y _ (moved (place p) st) _ q (too_deep l)
  type-deep r y d l st p (power e) q = reads-passed Ty r y _ (moved (place p) st) _ q (too_deep l)
  type-deep r y d l st p (product e) q = reads-passed Ty r y _ (moved (place p) st) _ q (too_deep l)

  type-by : (r : Due) (d left : ℕ) → depth_due r ≤ max_depth → (st : St) → ((p : ℕ) → Reads (type_due d ∷ []) (moved (place p) st) (type_got (type_at left names s p) st)) → (p : ℕ) (h : Head) → open_of names s r (moved (place p) st) ≡ type_opens d (moved (place p) st) h → Reads (r ∷ []) (moved (place p) st) (type_got (type_by (type_at left names s) p h) st)
  unfolding type_got type_by type_opens moved
  type-by r d left l st c p wrong q = reads-absent Ty r (moved (place p) st) q
  type-by r d left l st c p (atomic a e) q = reads-move r [] (place e) (moved (place p) st) _ l q (reads_none (moved (place e) st) (base a))
  type-by r d left l st c p (power e) q = reads-move r _ (place e) (moved (place p) st) _ l q (type-last _ _ st (type_at left names s e) pow (c e))
  type-by r d left l st c p (product e) q =
      reads-move r _ (place e) (moved (place p) st) _ l q
      (type-then (type_due d ∷ []) (type_due d ∷ []) _ st (type_at left names s e) _ (c e) (λ a f. type-last _ _ st (type_at left names s f) (prod a) (c f)))

  type_reads : (left d : ℕ) → d + left ≡ levels → (st : St) (p : ℕ) → Reads (type_due d ∷ []) (moved (place p) st) (type_got (type_at left names s p) st)
  unfolding type_at open_of type_head moved depth_due Limited
  type_reads zero d l st p = type-deep (type_due d) tt (suc d) (omega arith) st p (head_of names p (drop p s)) refl
  type_reads (suc left) d l st p = type-by (type_due d) (suc d) left (omega arith) st (type_reads left (suc d) (omega arith) st) p (head_of names p (drop p s)) refl

  type_in_lem : (left d : ℕ) → d + left ≡ levels → (st : St) → Reads (type_due d ∷ []) st (type_in names s left st)
  unfolding type_in moved
  type_in_lem left d l st = type_reads left d l st st.at.0

  spelled-reads : (left d : ℕ) → d + left ≡ levels → (st : St) → open_of names s (spelling_due d) st ≡ type_opens (suc d) st (type_head names s st.at) → Reads (spelling_due d ∷ []) st (spelled_in names s left st)
  unfolding spelled_in type_in type_at type_head moved depth_due Limited
  spelled-reads zero d l st i = reads-last _ st (type_in names s zero st) spells (type-deep (spelling_due d) tt (suc d) (omega arith) st st.at.0 (head_of names st.at.0 (drop st.at.0 s)) i)
  spelled-reads (suc left) d l st i = reads-last _ st (type_in names s (suc left) st) spells (type-by (spelling_due d) (suc d) left (omega arith) st (type_reads left (suc d) (omega arith) st) st.at.0 (head_of names st.at.0 (drop st.at.0 s)) i)

  none_reads : (left d : ℕ) → d + left ≡ levels → (st : St) (e : Place) → open_of names s (spelling_due d) st ≡ opens [] (moved e st) → Reads (spelling_due d ∷ []) st (read_no_type left e st)
  unfolding read_no_type depth_due Limited
  none_reads zero d l st e i = reads-passed Spelling (spelling_due d) tt [] st (moved e st) i (too_deep (omega arith))
  none_reads (suc left) d l st e i = reads-move (spelling_due d) [] e st _ (omega arith) i (reads_none (moved e st) no_type)

  spelling_reads : (left d : ℕ) → d + left ≡ levels → (st : St) → Reads (spelling_due d ∷ []) st (spelling_in names s left st)
  unfolding spelling_in on_part open_of spelling_opens
  spelling_reads left d l st = by_byte (byte_at s st.at) refl
    where
      said : Option (ℕ × Place) → Opening
      said b = on_part (type_opens (suc d) st (type_head names s st.at)) b (spelling_opens (suc d) st (type_head names s st.at))

      kind : (e : Place) → Bool → Opening
      kind e c = pick c (opens [] (moved e st)) (type_opens (suc d) st (type_head names s st.at))

      by_kind : (k : ℕ) (e : Place) → open_of names s (spelling_due d) st ≡ kind e (eqb k 0x4F) → (c : Bool) → eqb k 0x4F ≡ c → Reads (spelling_due d ∷ []) st (pick c (read_no_type left e st) (spelled_in names s left st))
      by_kind k e i true j = none_reads left d l st e (i ∙ ap (kind e) j)
      by_kind k e i false j = spelled-reads left d l st (i ∙ ap (kind e) j)

      by_byte : (b : Option (ℕ × Place)) → byte_at s st.at ≡ b → Reads (spelling_due d ∷ []) st (on_part (spelled_in names s left st) b λ k e. pick (eqb k 0x4F) (read_no_type left e st) (spelled_in names s left st))
      by_byte None i = spelled-reads left d l st (ap said i)
      by_byte (Some (k, e)) i = by_kind k e (ap said i) (eqb k 0x4F) refl

  decl_by_lem : (left d : ℕ) → suc d + left ≡ levels → (st : St) (h : DeclHead) → decl_head s st.at ≡ Some h → Reads (decl_due d ∷ []) st (decl_by names s left st h)
  unfolding decl_by open_of decl_opens depth_due Limited
  decl_by_lem left d l st (Plain e) q = reads-declare (decl_due d) tt [] e st (omega arith) _ (ap (decl_opens (suc d) st) q) (reads_none _ _)
  decl_by_lem left d l st (Typed e) q = reads-declare (decl_due d) tt _ e st (omega arith) _ (ap (decl_opens (suc d) st) q) (reads-last _ _ (type_in names s left (declared e st)) _ (type_in_lem left (suc d) l (declared e st)))
  decl_by_lem left d l st (Annotated e) q = reads-declare (decl_due d) tt _ e st (omega arith) _ (ap (decl_opens (suc d) st) q) (reads-last _ _ (spelling_in names s left (declared e st)) _ (spelling_reads left (suc d) l (declared e st)))

  decl_deep : (d : ℕ) → max_depth < d → (st : St) (h : DeclHead) → decl_head s st.at ≡ Some h → Reads {A = Decl} (decl_due d ∷ []) st (bad (Beyond st.at))
  unfolding open_of decl_opens depth_due Limited
  decl_deep d l st (Plain e) q = reads-passed Decl (decl_due d) tt _ st _ (ap (decl_opens (suc d) st) q) (too_deep l)
  decl_deep d l st (Typed e) q = reads-passed Decl (decl_due d) tt _ st _ (ap (decl_opens (suc d) st) q) (too_deep l)
  decl_deep d l st (Annotated e) q = reads-passed Decl (decl_due d) tt _ st _ (ap (decl_opens (suc d) st) q) (too_deep l)

  decl_reads : (left d : ℕ) → d + left ≡ levels → (st : St) → Reads (decl_due d ∷ []) st (decl_at names s left st)
  unfolding decl_at decl_if open_of decl_opens
  decl_reads left d l st = go left l (decl_head s st.at) refl
    where
      go : (left : ℕ) → d + left ≡ levels → (h : Option DeclHead) → decl_head s st.at ≡ h → Reads (decl_due d ∷ []) st (decl_if names s left st h)
      go left l None q = reads-absent Decl (decl_due d) st (ap (decl_opens (suc d) st) q)
      go zero l (Some h) q = decl_deep d (omega arith) st h q
      go (suc left) l (Some h) q = decl_by_lem left d (let i : suc d + left ≡ levels = omega arith in i) st h q

  decls-reads : (left d : ℕ) → d + left ≡ levels → (n : ℕ) (st : St) → Reads (times n (decl_due d ∷ [])) st (decls_at names s left n st)
  unfolding decls_at
  decls-reads left d l n st = reads-many [] ◌∷◌ (decl_at names s left) (decl_due d ∷ []) (decl_reads left d l) n st

  -- ---- expressions and predicates

  module _ (left d : ℕ) (l : suc d + left ≡ levels) (X : Bool → St → Got Expr) (Q : St → Got Pred) (x : (b : Bool) (t : St) → Reads (expr_due b (suc d) ∷ []) t (X b t)) (y : (t : St) → Reads (pred_due (suc d) ∷ []) t (Q t)) (st : St) where
    expr-by : (bare : Bool) (h : ExprHead) → expr_head names s bare st.at ≡ Some h → Reads (expr_due bare d ∷ []) st (expr_by names s left X Q st h)
    unfolding expr_by open_of expr_opens depth_due Limited owned
    expr-by bare (Free n e) q = reads-own (expr_due bare d) tt [] e st (omega arith) _ (ap (expr_opens (suc d) st) q) (reads_none _ _)
    expr-by bare (Bound i e) q = reads-own (expr_due bare d) tt [] e st (omega arith) _ (ap (expr_opens (suc d) st) q) (reads_none _ _)
    expr-by bare (Literal e) q = reads-own (expr_due bare d) tt [] e st (omega arith) _ (ap (expr_opens (suc d) st) q) (reads_none _ _)
    expr-by bare (Atomic o e) q = reads-own (expr_due bare d) tt [] e st (omega arith) _ (ap (expr_opens (suc d) st) q) (reads_none _ _)
    expr-by bare (Extension n e) q = reads-own (expr_due bare d) tt _ e st (omega arith) _ (ap (expr_opens (suc d) st) q) (reads-last _ _ (many none more (X false) n (owned e st)) _ (reads-many none more (X false) _ (x false) n (owned e st)))
    expr-by bare (Truth e) q = reads-own (expr_due bare d) tt _ e st (omega arith) _ (ap (expr_opens (suc d) st) q) (reads-last _ _ (Q (owned e st)) _ (y (owned e st)))
    expr-by bare (Binary o e) q =
        reads-own (expr_due bare d) tt _ e st (omega arith) _ (ap (expr_opens (suc d) st) q)
        (reads_then (expr_due false (suc d) ∷ []) (expr_due false (suc d) ∷ []) _ (X false (owned e st)) _ (x false (owned e st)) (λ a t. reads-last _ t (X false t) _ (x false t)))
    expr-by bare (Associative o n e) q = reads-own (expr_due bare d) tt _ e st (omega arith) _ (ap (expr_opens (suc d) st) q) (reads-last _ _ (many none more (X false) n (owned e st)) _ (reads-many none more (X false) _ (x false) n (owned e st)))
    expr-by bare (Unary o e) q = reads-own (expr_due bare d) tt _ e st (omega arith) _ (ap (expr_opens (suc d) st) q) (reads-last _ _ (X false (owned e st)) _ (x false (owned e st)))
    expr-by bare (Quantified o n e) q =
        reads-own-closing (expr_due bare d) tt _ e st (omega arith) st.opened _ (ap (expr_opens (suc d) st) q)
        (reads-closing (times n (decl_due (suc d) ∷ [])) (pred_due (suc d) ∷ expr_due false (suc d) ∷ []) _ _
        (reads_then (times n (decl_due (suc d) ∷ [])) (pred_due (suc d) ∷ expr_due false (suc d) ∷ []) _ (decls_at names s left n (owned e st)) _ (decls-reads left (suc d) l n (owned e st))
        (λ ds t. reads_then (pred_due (suc d) ∷ []) (expr_due false (suc d) ∷ []) t (Q t) _ (y t) (λ a u. reads-last _ u (X false u) _ (x false u)))))
    expr-by bare (Ascribed e) q =
        reads-own (expr_due bare d) tt _ e st (omega arith) _ (ap (expr_opens (suc d) st) q)
        (reads_then (expr_due false (suc d) ∷ []) (spelling_due (suc d) ∷ []) _ (X false (owned e st)) _ (x false (owned e st)) (λ a t. reads-last _ t (spelling_in names s left t) _ (spelling_reads left (suc d) l t)))
    expr-by bare (Explicit e) q =
        reads-move (expr_due bare d) _ e st _ (omega arith) (ap (expr_opens (suc d) st) q)
        (reads_then (type_due (suc d) ∷ []) (expr_due true (suc d) ∷ []) _ (type_in names s left (moved e st)) _ (type_in_lem left (suc d) l (moved e st)) (λ a t. reads-last _ t (X true t) _ (x true t)))

    pred_by_lem : (h : PredHead) → pred_head s st.at ≡ Some h → Reads (pred_due d ∷ []) st (pred_by names s left X Q st h)
    unfolding pred_by open_of pred_opens depth_due Limited moved
    pred_by_lem (Constant e) q = reads-move (pred_due d) [] e st _ (omega arith) (ap (pred_opens (suc d) st) q) (reads_none _ _)
    pred_by_lem (Variable e) q = reads-move (pred_due d) [] e st _ (omega arith) (ap (pred_opens (suc d) st) q) (reads_none _ _)
    pred_by_lem (Relational o e) q =
        reads-move (pred_due d) _ e st _ (omega arith) (ap (pred_opens (suc d) st) q)
        (reads_then (expr_due false (suc d) ∷ []) (expr_due false (suc d) ∷ []) _ (X false (moved e st)) _ (x false (moved e st)) (λ a t. reads-last _ t (X false t) _ (x false t)))
    pred_by_lem (Connective e) q =
        reads-move (pred_due d) _ e st _ (omega arith) (ap (pred_opens (suc d) st) q)
        (reads_then (pred_due (suc d) ∷ []) (pred_due (suc d) ∷ []) _ (Q (moved e st)) _ (y (moved e st)) (λ a t. reads-last _ t (Q t) _ (y t)))
    pred_by_lem (Junction n e) q = reads-move (pred_due d) _ e st _ (omega arith) (ap (pred_opens (suc d) st) q) (reads-last _ _ (many end also Q n (moved e st)) _ (reads-many end also Q _ y n (moved e st)))
    pred_by_lem (Negation e) q = reads-move (pred_due d) _ e st _ (omega arith) (ap (pred_opens (suc d) st) q) (reads-last _ _ (Q (moved e st)) _ (y (moved e st)))
    pred_by_lem (Quantification n e) q =
        reads-move (pred_due d) _ e st _ (omega arith) (ap (pred_opens (suc d) st) q)
        (reads-closing (times n (decl_due (suc d) ∷ [])) (pred_due (suc d) ∷ []) _ _
        (reads_then (times n (decl_due (suc d) ∷ [])) (pred_due (suc d) ∷ []) _ (decls_at names s left n (moved e st)) _ (decls-reads left (suc d) l n (moved e st)) (λ ds t. reads-last _ t (Q t) _ (y t))))
    pred_by_lem (Simple e) q = reads-move (pred_due d) _ e st _ (omega arith) (ap (pred_opens (suc d) st) q) (reads-last _ _ (X false (moved e st)) _ (x false (moved e st)))
    pred_by_lem (Multiple n e) q = reads-move (pred_due d) _ e st _ (omega arith) (ap (pred_opens (suc d) st) q) (reads-last _ _ (many none more (X false) n (moved e st)) _ (reads-many none more (X false) _ (x false) n (moved e st)))
    pred_by_lem (Application n e) q = reads-move (pred_due d) _ e st _ (omega arith) (ap (pred_opens (suc d) st) q) (reads-last _ _ (many none more (X false) n (moved e st)) _ (reads-many none more (X false) _ (x false) n (moved e st)))

    expr_if_lem : (bare : Bool) (h : Option ExprHead) → expr_head names s bare st.at ≡ h → Reads (expr_due bare d ∷ []) st (expr_if names s left X Q st h)
    unfolding expr_if open_of expr_opens
    expr_if_lem bare None q = reads-absent Expr (expr_due bare d) st (ap (expr_opens (suc d) st) q)
    expr_if_lem bare (Some h) q = expr-by bare h q

    pred_if_lem : (h : Option PredHead) → pred_head s st.at ≡ h → Reads (pred_due d ∷ []) st (pred_if names s left X Q st h)
    unfolding pred_if open_of pred_opens
    pred_if_lem None q = reads-absent Pred (pred_due d) st (ap (pred_opens (suc d) st) q)
    pred_if_lem (Some h) q = pred_by_lem h q

  -- a head that is well formed opens
  Opens : Opening → Type 0
  Opens o = (ds : List Due) × (u : St) × (o ≡ opens ds u)

  expr-opens-is : (d : ℕ) (st : St) (h : ExprHead) → Opens (expr_opens d st (Some h))
  unfolding Opens expr_opens
  expr-opens-is d st (Free n e) = (_, _, refl)
  expr-opens-is d st (Bound i e) = (_, _, refl)
  expr-opens-is d st (Literal e) = (_, _, refl)
  expr-opens-is d st (Atomic o e) = (_, _, refl)
  expr-opens-is d st (Extension n e) = (_, _, refl)
  expr-opens-is d st (Truth e) = (_, _, refl)
  expr-opens-is d st (Binary o e) = (_, _, refl)
  expr-opens-is d st (Associative o n e) = (_, _, refl)
  expr-opens-is d st (Unary o e) = (_, _, refl)
  expr-opens-is d st (Quantified o n e) = (_, _, refl)
  expr-opens-is d st (Ascribed e) = (_, _, refl)
  expr-opens-is d st (Explicit e) = (_, _, refl)

  pred_opens-is : (d : ℕ) (st : St) (h : PredHead) → Opens (pred_opens d st (Some h))
  unfolding Opens pred_opens
  pred_opens-is d st (Constant e) = (_, _, refl)
  pred_opens-is d st (Variable e) = (_, _, refl)
  pred_opens-is d st (Relational o e) = (_, _, refl)
  pred_opens-is d st (Connective e) = (_, _, refl)
  pred_opens-is d st (Junction n e) = (_, _, refl)
  pred_opens-is d st (Negation e) = (_, _, refl)
  pred_opens-is d st (Quantification n e) = (_, _, refl)
  pred_opens-is d st (Simple e) = (_, _, refl)
  pred_opens-is d st (Multiple n e) = (_, _, refl)
  pred_opens-is d st (Application n e) = (_, _, refl)

  expr-deep : (d : ℕ) → max_depth < d → (bare : Bool) (st : St) (h : Option ExprHead) → expr_head names s bare st.at ≡ h → Reads (expr_due bare d ∷ []) st (expr_deep st h)
  unfolding expr_deep open_of expr_opens depth_due Limited Opens
  expr-deep d l bare st None q = reads-absent Expr (expr_due bare d) st (ap (expr_opens (suc d) st) q)
  expr-deep d l bare st (Some h) q = let z = expr-opens-is (suc d) st h in reads-passed Expr (expr_due bare d) tt z.0 st z.1 (ap (expr_opens (suc d) st) q ∙ z.2) (too_deep l)

  pred_deep_lem : (d : ℕ) → max_depth < d → (st : St) (h : Option PredHead) → pred_head s st.at ≡ h → Reads (pred_due d ∷ []) st (pred_deep st h)
  unfolding pred_deep open_of pred_opens depth_due Limited Opens
  pred_deep_lem d l st None q = reads-absent Pred (pred_due d) st (ap (pred_opens (suc d) st) q)
  pred_deep_lem d l st (Some h) q = let z = pred_opens-is (suc d) st h in reads-passed Pred (pred_due d) tt z.0 st z.1 (ap (pred_opens (suc d) st) q ∙ z.2) (too_deep l)

  mutual
    unfolding expr_at pred_at

    expr-reads : (left d : ℕ) → d + left ≡ levels → (bare : Bool) (st : St) → Reads (expr_due bare d ∷ []) st (expr_at left names s bare st)
    expr-reads zero d l bare st = expr-deep d (omega arith) bare st (expr_head names s bare st.at) refl
    expr-reads (suc left) d l bare st =
        let i : suc d + left ≡ levels = omega arith in
        expr_if_lem left d i _ _ (λ b t. expr-reads left (suc d) i b t) (λ t. pred_reads left (suc d) i t) st bare (expr_head names s bare st.at) refl

    pred_reads : (left d : ℕ) → d + left ≡ levels → (st : St) → Reads (pred_due d ∷ []) st (pred_at left names s st)
    pred_reads zero d l st = pred_deep_lem d (omega arith) st (pred_head s st.at) refl
    pred_reads (suc left) d l st =
        let i : suc d + left ≡ levels = omega arith in
        pred_if_lem left d i _ _ (λ b t. expr-reads left (suc d) i b t) (λ t. pred_reads left (suc d) i t) st (pred_head s st.at) refl

  -- ---- formulas

  target-reads : (st : St) → Reads (target_due ∷ []) st (target_in names s st)
  unfolding target_in target_by open_of target_opens depth_due Limited
  target-reads st = go (target_at names s st.at) refl
    where
      go : (w : Option (ℕ × Place)) → target_at names s st.at ≡ w → Reads (target_due ∷ []) st (target_by st w)
      go None q = reads-absent Target target_due st (ap (target_opens st) q)
      go (Some (n, e)) q = reads-own target_due tt [] e st (omega arith) _ (ap (target_opens st) q) (reads_none _ _)

  pair_reads : (st : St) → Reads (target_due ∷ expr_due false 1 ∷ []) st (pair_in max_depth names s st)
  unfolding pair_in
  pair_reads st = reads_then (target_due ∷ []) (expr_due false 1 ∷ []) st (target_in names s st) _ (target-reads st) (λ t u. reads-last _ u (expr_at max_depth names s false u) _ (expr-reads max_depth 1 refl false u))

  pairs-reads : (n : ℕ) (st : St) → Reads (times n (target_due ∷ expr_due false 1 ∷ [])) st (pairs_at max_depth names s n st)
  unfolding pairs_at
  pairs-reads n st = reads-many [] ◌∷◌ (pair_in max_depth names s) _ pair_reads n st

  targets-reads : (n : ℕ) (st : St) → Reads (times n (target_due ∷ [])) st (targets_at names s n st)
  unfolding targets_at
  targets-reads n st = reads-many [] ◌∷◌ (target_in names s) _ target-reads n st

  becomes-by : (n : ℕ) (e : Place) (st : St) (k : ℕ) → open_of names s formula_due st ≡ becomes_opens st k n e → Reads (formula_due ∷ []) st (becomes_by max_depth names s n e st k)
  unfolding becomes_by becomes_opens times depth_due Limited
  becomes-by zero e st k i = reads-absent Formula formula_due st i
  becomes-by (suc n) e st k i = go (eqb k 0x30) (eqb k 0x31) (eqb k 0x32) i
    where
      go : (a b c : Bool)
          → open_of names s formula_due st
          ≡ pick a (opens (times (suc n) (target_due ∷ expr_due false 1 ∷ [])) (moved e st))
          (pick b (opens (times (suc n) (target_due ∷ []) ++ (expr_due false 1 ∷ [])) (moved e st))
          (pick c (opens (times (suc n) (target_due ∷ []) ++ (times (suc n) (decl_due 1 ∷ []) ++ (pred_due 1 ∷ []))) (moved e st)) absent))
          → Reads (formula_due ∷ []) st
          (pick a (and_then (pairs_at max_depth names s (suc n) (moved e st)) λ xs st₁. ok st₁ (becomes st.at.0 xs))
          (pick b (and_then (target_in names s (moved e st)) λ t st₁. and_then (targets_at names s n st₁) λ ts st₂. and_then (expr_at max_depth names s false st₂) λ x st₃. ok st₃ (becomes_in st.at.0 t ts x))
          (pick c (and_then (targets_at names s (suc n) (moved e st)) λ ts st₁. and_then (decls_at names s max_depth (suc n) st₁) λ ds st₂. and_then (pred_at max_depth names s st₂) λ q st₃. ok st₃ (becomes_such st.at.0 ts ds q))
          (bad (Malformed st.at)))))
      go true b c i = reads-move formula_due _ e st _ (omega arith) i (reads-last _ _ (pairs_at max_depth names s (suc n) (moved e st)) _ (pairs-reads (suc n) (moved e st)))
      go false true c i =
          reads-move formula_due _ e st _ (omega arith) i
          (reads_then (target_due ∷ []) (times n (target_due ∷ []) ++ (expr_due false 1 ∷ [])) _ (target_in names s (moved e st)) _ (target-reads (moved e st))
          (λ t u. reads_then (times n (target_due ∷ [])) (expr_due false 1 ∷ []) u (targets_at names s n u) _ (targets-reads n u)
          (λ ts v. reads-last _ v (expr_at max_depth names s false v) _ (expr-reads max_depth 1 refl false v))))
      go false false true i =
          reads-move formula_due _ e st _ (omega arith) i
          (reads_then (times (suc n) (target_due ∷ [])) (times (suc n) (decl_due 1 ∷ []) ++ (pred_due 1 ∷ [])) _ (targets_at names s (suc n) (moved e st)) _ (targets-reads (suc n) (moved e st))
          (λ ts u. reads_then (times (suc n) (decl_due 1 ∷ [])) (pred_due 1 ∷ []) u (decls_at names s max_depth (suc n) u) _ (decls-reads max_depth 1 refl (suc n) u)
          (λ ds v. reads-last _ v (pred_at max_depth names s v) _ (pred_reads max_depth 1 refl v))))
      go false false false i = reads-absent Formula formula_due st i

  becomes-at : (st : St) (k : ℕ) (p : Place) → open_of names s formula_due st ≡ on_part absent (few_at s p) (becomes_opens st k) → Reads (formula_due ∷ []) st (becomes_at names s st k p)
  unfolding becomes_at on_part
  becomes-at st k p i = go (few_at s p) i
    where
      go : (b : Option (ℕ × Place)) → open_of names s formula_due st ≡ on_part absent b (becomes_opens st k) → Reads (formula_due ∷ []) st (on_part (bad (Malformed st.at)) b λ n e. becomes_by max_depth names s n e st k)
      go None i = reads-absent Formula formula_due st i
      go (Some (n, e)) i = becomes-by n e st k i

  root_by_lem : (st : St) (k : ℕ) (p : Place) → open_of names s formula_due st ≡ root_opens names s st k p → Reads (formula_due ∷ []) st (root_by names s st k p)
  unfolding root_by root_opens Low Within depth_due Limited
  root_by_lem st k p i = go (ltb k 0x20) (ltb k 0x30) i
    where
      go : (a b : Bool)
          → open_of names s formula_due st ≡ pick a (opens (expr_due false 0 ∷ []) st) (pick b (opens (pred_due 0 ∷ []) st) (on_part absent (few_at s p) (becomes_opens st k)))
          → Reads (formula_due ∷ []) st (pick a (and_then (expr_at levels names s false st) λ x st₁. ok st₁ (expression x)) (pick b (and_then (pred_at levels names s st) λ q st₁. ok st₁ (predicate q)) (becomes_at names s st k p)))
      go true b i = reads_open formula_due _ st st _ i (λ w. (omega arith, w.0, w.1)) (reads-last _ st (expr_at levels names s false st) _ (expr-reads levels 0 refl false st))
      go false true i = reads_open formula_due _ st st _ i (λ w. (omega arith, w.0, w.1)) (reads-last _ st (pred_at levels names s st) _ (pred_reads levels 0 refl st))
      go false false i = becomes-at st k p i

  formula-reads : (st : St) → Reads (formula_due ∷ []) st (formula_at names s st)
  unfolding formula_at on_part open_of
  formula-reads st = go (byte_at s st.at) refl
    where
      go : (b : Option (ℕ × Place)) → byte_at s st.at ≡ b → Reads (formula_due ∷ []) st (on_part (bad (Malformed st.at)) b (root_by names s st))
      go None q = reads-absent Formula formula_due st (ap (λ (b : Option (ℕ × Place)). on_part absent b (root_opens names s st)) q)
      go (Some (k, p)) q = root_by_lem st k p (ap (λ (b : Option (ℕ × Place)). on_part absent b (root_opens names s st)) q)

  finish-reads : (a : Formula) (st : St) → Reads (end_due ∷ []) st (finish s st a)
  unfolding finish open_of Low Within depth_due Limited
  finish-reads a st = go (ltb st.at.0 (length s)) refl
    where
      go : (c : Bool) → ltb st.at.0 (length s) ≡ c → Reads (end_due ∷ []) st (pick c (bad (Malformed st.at)) (ok st a))
      go true q = reads-absent Formula end_due st (ap (λ (c : Bool). pick c absent (opens [] st)) q)
      go false q = reads_open end_due [] st st _ (ap (λ (c : Bool). pick c absent (opens [] st)) q) (λ w. (omega arith, w.0, w.1)) (reads_none st a)

  whole-reads : Reads (formula_due ∷ end_due ∷ []) start (whole names s)
  unfolding whole
  whole-reads = reads_then (formula_due ∷ []) (end_due ∷ []) start (formula_at names s start) _ (formula-reads start) finish-reads

  -- ---- what a fault means

  -- at the start of a stream a formula is due, and then the end
  abbrev pub all_due : List Due
  all_due = formula_due ∷ end_due ∷ []

  by_whole : (f : Fault Place) (g : Got Formula) → Reads all_due start g → parsed_by g ≡ faulty f → Told start all_due f
  unfolding Reads Low parsed_by
  by_whole f (ok t a) h e = absurd (let z : ◌≡◌ {A = ℕ} 0 1 = cc in omega arith)
  by_whole f (bad x) h e = let z : x ≡ f = cc in rw (← z) (h (omega arith, omega arith) [])

  pub fault-told : (f : Fault Place) → parse_of names s ≡ faulty f → Told start all_due f
  unfolding parse_of
  fault-told f e = go (ltb max_bytes (length s)) e
    where
      go : (c : Bool) → pick c too_long (parsed_by (whole names s)) ≡ faulty f → Told start all_due f
      go true e = absurd (let z : ◌≡◌ {A = ℕ} 0 1 = cc in omega arith)
      go false e = by_whole f (whole names s) whole-reads e

  -- ---- one fault alone

  -- where a fault is told nothing opens inside the limits
  told_stops : (d : Due) (t u : St) (f : Fault Place) (ds : List Due) → Meant d t f → open_of names s d t ≡ opens ds u → Within d u → ⊥
  unfolding Meant Within
  told_stops d t u (Malformed p) ds h e w = let z : ◌≡◌ {A = ℕ} 0 1 = let x : absent ≡ opens ds u = sym h.1 ∙ e in cc in omega arith
  told_stops d t u (Beyond p) ds h e w =
      let x : opens h.1.parts h.1.next ≡ opens ds u = sym h.1.stands ∙ e in
      let y : h.1.next ≡ u = cc in
      no (rw y at h.1.passed)
    where
      no : Passed d u → ⊥
      no (too_deep l) = let z = w.0 in omega arith
      no (too_many l) = let z = w.1 in omega arith
      no (too_open l) = let z = w.2 in omega arith

  same-fault : (d : Due) (t : St) (f g : Fault Place) → Meant d t f → Meant d t g → f ≡ g
  unfolding Meant
  same-fault d t (Malformed p) (Malformed q) h k = ap Malformed (sym h.0 ∙ k.0)
  same-fault d t (Malformed p) (Beyond q) h k = absurd (let x : absent ≡ opens k.1.parts k.1.next = sym h.1 ∙ k.1.stands in let z : ◌≡◌ {A = ℕ} 0 1 = cc in omega arith)
  same-fault d t (Beyond p) (Malformed q) h k = absurd (let x : absent ≡ opens h.1.parts h.1.next = sym k.1 ∙ h.1.stands in let z : ◌≡◌ {A = ℕ} 0 1 = cc in omega arith)
  same-fault d t (Beyond p) (Beyond q) h k = ap Beyond (sym h.0 ∙ k.0)

  -- a head opens in one way
  again : {u v y : St} {ds es m : List Due} (k : List Due) → opens ds u ≡ opens es v → Goes names s u (ds ++ k) y m → Goes names s v (es ++ k) y m
  again {u} {v} {y} {ds} {es} k o b = let p : ds ≡ es = cc in let q : u ≡ v = cc in rw (← p, ← q) b

  one-fault : {t u v : St} {k m n : List Due} {d e : Due} (f g : Fault Place) → Goes names s t k u (d ∷ m) → Goes names s t k v (e ∷ n) → Meant d u f → Meant e v g → f ≡ g
  one-fault f g stay stay h i = same-fault _ _ f g h i
  one-fault f g stay (onward e w b) h i = absurd (told_stops _ _ _ f _ h e w)
  one-fault f g (onward e w a) stay h i = absurd (told_stops _ _ _ g _ i e w)
  one-fault f g (onward {k = k} e w a) (onward j x b) h i = one-fault f g a (again k (sym j ∙ e) b) h i

  no_end : {t u v : St} {k m : List Due} {d : Due} (f : Fault Place) → Goes names s t k u (d ∷ m) → Meant d u f → Goes names s t k v [] → ⊥
  no_end f stay h (onward e w b) = told_stops _ _ _ f _ h e w
  no_end f (onward {k = k} e w a) h (onward j x b) = no_end f a h (again k (sym j ∙ e) b)

  to_whole : (f : Fault Place) → Told start all_due f → (g : Got Formula) → Reads all_due start g → parsed_by g ≡ faulty f
  unfolding Reads Low parsed_by
  to_whole f x (ok t a) h = absurd (no_end f x.goes x.meant ((h (omega arith, omega arith)).1 []))
  to_whole f x (bad g) h = let y = h (omega arith, omega arith) [] in ap faulty (one-fault g f y.goes x.goes y.meant x.meant)

  -- and no other fault is told
  pub told-fault : (f : Fault Place) → length s ≤ max_bytes → Told start all_due f → parse_of names s ≡ faulty f
  unfolding parse_of
  told-fault f l x = rw (le-ltb max_bytes (length s) l) (to_whole f x (whole names s) whole-reads)

  -- ---- in the words of `Heads`

  opens-stands : (d : Due) → Limited d → (t u : St) (ds : List Due) → open_of names s d t ≡ opens ds u → Stands names s d t.at
  unfolding Limited open_of Stands target_opens expr_opens pred_opens decl_opens type_opens spelling_opens on_part
  opens-stands target_due i t u ds e = go (target_at names s t.at) e
    where
      go : (w : Option (ℕ × Place)) → target_opens t w ≡ opens ds u → (n : ℕ) × (e : Place) × (w ≡ Some (n, e))
      go None e = absurd (let z : ◌≡◌ {A = ℕ} 0 1 = cc in omega arith)
      go (Some (n, q)) e = (n, q, refl)
  opens-stands (expr_due bare d) i t u ds e = go (expr_head names s bare t.at) e
    where
      go : (w : Option ExprHead) → expr_opens (suc d) t w ≡ opens ds u → (h : ExprHead) × (w ≡ Some h)
      go None e = absurd (let z : ◌≡◌ {A = ℕ} 0 1 = cc in omega arith)
      go (Some h) e = (h, refl)
  opens-stands (pred_due d) i t u ds e = go (pred_head s t.at) e
    where
      go : (w : Option PredHead) → pred_opens (suc d) t w ≡ opens ds u → (h : PredHead) × (w ≡ Some h)
      go None e = absurd (let z : ◌≡◌ {A = ℕ} 0 1 = cc in omega arith)
      go (Some h) e = (h, refl)
  opens-stands (decl_due d) i t u ds e = go (decl_head s t.at) e
    where
      go : (w : Option DeclHead) → decl_opens (suc d) t w ≡ opens ds u → (h : DeclHead) × (w ≡ Some h)
      go None e = absurd (let z : ◌≡◌ {A = ℕ} 0 1 = cc in omega arith)
      go (Some h) e = (h, refl)
  opens-stands (type_due d) i t u ds e = λ x. let y : absent ≡ opens ds u = sym (ap (type_opens (suc d) t) x) ∙ e in let z : ◌≡◌ {A = ℕ} 0 1 = cc in omega arith
  opens-stands (spelling_due d) i t u ds e = go (byte_at s t.at) e
    where
      kind : (k : ℕ) (q : Place) → ((r : Place) → ◌≢◌ {A = Option (ℕ × Place)} (Some (k, q)) (Some (0x4F, r))) → (c : Bool) → eqb k 0x4F ≡ c → pick c (opens [] (moved q t)) (type_opens (suc d) t (type_head names s t.at)) ≡ opens ds u → type_head names s t.at ≢ wrong
      kind k q n true j e = absurd (n q (ap (λ (x : ℕ). Some (x, q)) (eqb-true k 0x4F j)))
      kind k q n false j e = λ x. let y : absent ≡ opens ds u = sym (ap (type_opens (suc d) t) x) ∙ e in let z : ◌≡◌ {A = ℕ} 0 1 = cc in omega arith

      go : (b : Option (ℕ × Place)) → on_part (type_opens (suc d) t (type_head names s t.at)) b (spelling_opens (suc d) t (type_head names s t.at)) ≡ opens ds u → ((r : Place) → b ≢ Some (0x4F, r)) → type_head names s t.at ≢ wrong
      go None e n = λ x. let y : absent ≡ opens ds u = sym (ap (type_opens (suc d) t) x) ∙ e in let z : ◌≡◌ {A = ℕ} 0 1 = cc in omega arith
      go (Some (k, q)) e n = kind k q n (eqb k 0x4F) refl e
  opens-stands formula_due i t u ds e = absurd i
  opens-stands (close_due n) i t u ds e = absurd i
  opens-stands end_due i t u ds e = absurd i

  no_type-head : (d : ℕ) (t : St) (h : Head) → type_opens d t h ≡ absent → h ≡ wrong
  unfolding type_opens
  no_type-head d t wrong e = refl
  no_type-head d t (atomic a q) e = absurd (let z : ◌≡◌ {A = ℕ} 0 1 = cc in omega arith)
  no_type-head d t (power q) e = absurd (let z : ◌≡◌ {A = ℕ} 0 1 = cc in omega arith)
  no_type-head d t (product q) e = absurd (let z : ◌≡◌ {A = ℕ} 0 1 = cc in omega arith)

  no_becomes : (t : St) (k n : ℕ) (q : Place) → becomes_opens t k (suc n) q ≡ absent → 0x30 ≤ k → k ≤ 0x32 → ⊥
  unfolding becomes_opens
  no_becomes t k n q e l m = go (eqb k 0x30) (eqb k 0x31) (eqb k 0x32) refl refl refl e
    where
      go : (a b c : Bool) → eqb k 0x30 ≡ a → eqb k 0x31 ≡ b → eqb k 0x32 ≡ c → pick a (opens (times (suc n) (target_due ∷ expr_due false 1 ∷ [])) (moved q t)) (pick b (opens (times (suc n) (target_due ∷ []) ++ (expr_due false 1 ∷ [])) (moved q t)) (pick c (opens (times (suc n) (target_due ∷ []) ++ (times (suc n) (decl_due 1 ∷ []) ++ (pred_due 1 ∷ []))) (moved q t)) absent)) ≡ absent → ⊥
      go true b c x y z e = let o : ◌≡◌ {A = ℕ} 0 1 = cc in omega arith
      go false true c x y z e = let o : ◌≡◌ {A = ℕ} 0 1 = cc in omega arith
      go false false true x y z e = let o : ◌≡◌ {A = ℕ} 0 1 = cc in omega arith
      go false false false x y z e = let f = eqb-false k 0x30 x in let g = eqb-false k 0x31 y in let h = eqb-false k 0x32 z in omega arith

  no_formula : (t : St) (k : ℕ) (q : Place) → root_opens names s t k q ≡ absent → (0x30 ≤ k) × (Assigns names s k q → ⊥)
  unfolding root_opens Assigns on_part
  no_formula t k q e = go (ltb k 0x20) (ltb k 0x30) refl e
    where
      go : (a b : Bool) → ltb k 0x30 ≡ b → pick a (opens (expr_due false 0 ∷ []) t) (pick b (opens (pred_due 0 ∷ []) t) (on_part absent (few_at s q) (becomes_opens t k))) ≡ absent → (0x30 ≤ k) × (Assigns names s k q → ⊥)
      go true b j e = absurd (let z : ◌≡◌ {A = ℕ} 0 1 = cc in omega arith)
      go false true j e = absurd (let z : ◌≡◌ {A = ℕ} 0 1 = cc in omega arith)
      go false false j e = (ltb-false k 0x30 j, λ x. no_becomes t k x.0 x.1 (sym (ap (λ (b : Option (ℕ × Place)). on_part absent b (becomes_opens t k)) x.2) ∙ e) x.3 x.4)

  absent-lacks : (d : Due) (t : St) → open_of names s d t ≡ absent → Lacks names s d t.at
  unfolding open_of Lacks Assigns Opens target_opens expr_opens pred_opens decl_opens type_opens spelling_opens root_opens becomes_opens on_part
  absent-lacks target_due t e = go (target_at names s t.at) e
    where
      go : (w : Option (ℕ × Place)) → target_opens t w ≡ absent → w ≡ None
      go None e = refl
      go (Some (n, q)) e = absurd (let z : ◌≡◌ {A = ℕ} 0 1 = cc in omega arith)
  absent-lacks (expr_due bare d) t e = go (expr_head names s bare t.at) e
    where
      go : (w : Option ExprHead) → expr_opens (suc d) t w ≡ absent → w ≡ None
      go None e = refl
      go (Some h) e = absurd (let y = expr-opens-is (suc d) t h in let x : opens y.0 y.1 ≡ absent = sym y.2 ∙ e in let z : ◌≡◌ {A = ℕ} 0 1 = cc in omega arith)
  absent-lacks (pred_due d) t e = go (pred_head s t.at) e
    where
      go : (w : Option PredHead) → pred_opens (suc d) t w ≡ absent → w ≡ None
      go None e = refl
      go (Some h) e = absurd (let y = pred_opens-is (suc d) t h in let x : opens y.0 y.1 ≡ absent = sym y.2 ∙ e in let z : ◌≡◌ {A = ℕ} 0 1 = cc in omega arith)
  absent-lacks (decl_due d) t e = go (decl_head s t.at) e
    where
      go : (w : Option DeclHead) → decl_opens (suc d) t w ≡ absent → w ≡ None
      go None e = refl
      go (Some (Plain q)) e = absurd (let z : ◌≡◌ {A = ℕ} 0 1 = cc in omega arith)
      go (Some (Typed q)) e = absurd (let z : ◌≡◌ {A = ℕ} 0 1 = cc in omega arith)
      go (Some (Annotated q)) e = absurd (let z : ◌≡◌ {A = ℕ} 0 1 = cc in omega arith)
  absent-lacks (type_due d) t e = no_type-head (suc d) t (type_head names s t.at) e
  absent-lacks (spelling_due d) t e = go (byte_at s t.at) e
    where
      kind : (k : ℕ) (q : Place) (c : Bool) → eqb k 0x4F ≡ c → pick c (opens [] (moved q t)) (type_opens (suc d) t (type_head names s t.at)) ≡ absent → (type_head names s t.at ≡ wrong) × ((r : Place) → ◌≢◌ {A = Option (ℕ × Place)} (Some (k, q)) (Some (0x4F, r)))
      kind k q true j e = absurd (let z : ◌≡◌ {A = ℕ} 0 1 = cc in omega arith)
      kind k q false j e = (no_type-head (suc d) t (type_head names s t.at) e, λ r x. eqb-false k 0x4F j (same_part k 0x4F q r x).0)

      go : (b : Option (ℕ × Place)) → on_part (type_opens (suc d) t (type_head names s t.at)) b (spelling_opens (suc d) t (type_head names s t.at)) ≡ absent → (type_head names s t.at ≡ wrong) × ((r : Place) → b ≢ Some (0x4F, r))
      go None e = (no_type-head (suc d) t (type_head names s t.at) e, λ r x. let z : ◌≡◌ {A = ℕ} 0 1 = cc in omega arith)
      go (Some (k, q)) e = kind k q (eqb k 0x4F) refl e
  absent-lacks formula_due t e = λ k q j. no_formula t k q (sym (ap (λ (b : Option (ℕ × Place)). on_part absent b (root_opens names s t)) j) ∙ e)
  absent-lacks (close_due n) t e = absurd (let z : ◌≡◌ {A = ℕ} 0 1 = cc in omega arith)
  absent-lacks end_due t e = go (ltb t.at.0 (length s)) refl e
    where
      go : (c : Bool) → ltb t.at.0 (length s) ≡ c → pick c absent (opens [] t) ≡ absent → t.at.0 < length s
      go true j e = ltb-true t.at.0 (length s) j
      go false j e = absurd (let z : ◌≡◌ {A = ℕ} 0 1 = cc in omega arith)

  -- ---- the two numbers

  goes-low : {t u : St} {k l : List Due} → Goes names s t k u l → Low t → Low u
  unfolding Low Within
  goes-low stay w = w
  goes-low (onward e i g) w = goes-low g (i.1, i.2)

  -- no limit is passed up to a state that is reached; so the head that passes one is the first
  pub goes-inside : {t : St} {k : List Due} → Goes names s start all_due t k → (t.slots ≤ max_slots) × (t.opened ≤ max_opened)
  unfolding Low
  goes-inside g = goes-low g (omega arith, omega arith)

  -- a limit: inside the limits a state is reached at p; what is due there stands there, and passes a limit
  pub beyond_means : (p : Place) → parse_of names s ≡ faulty (Beyond p) → (t : St) × (d : Due) × (k : List Due) × Goes names s start all_due t (d ∷ k) × (t.at ≡ p) × Stands names s d p × Passes d t
  unfolding Meant
  beyond_means p e =
      let h = fault-told (Beyond p) e in
      let m = h.meant in
      let y = opens-stands h.due m.1.limited h.state m.1.next m.1.parts m.1.stands in
      (h.state, h.due, h.later, h.goes, m.0, (rw m.0 at y), m.1)

  -- malformed: inside the limits a state is reached at p, and what is due there does not stand there
  pub malformed_means_formula : (p : Place) → parse_of names s ≡ faulty (Malformed p) → (t : St) × (d : Due) × (k : List Due) × Goes names s start all_due t (d ∷ k) × (t.at ≡ p) × Lacks names s d p
  unfolding Meant
  malformed_means_formula p e =
      let h = fault-told (Malformed p) e in
      let m = h.meant in
      let y = absent-lacks h.due h.state m.1 in
      (h.state, h.due, h.later, h.goes, m.0, (rw m.0 at y))
