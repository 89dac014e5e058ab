-- A fault stays: a stream that begins with the same bytes, up to the fault's place and four bytes more (no head is longer), has the same fault
-- at the same place (`fault-stays`). So with four bytes of the record there, no bytes after them help.
use Prim.Native.Nat.{ℕ, zero, suc, ◌+◌, ◌≤◌, ◌<◌}
use native.Mathlib.Omega.{arith}
use Rattle.std.proofs.Math.Path.{◌≡◌, refl, sym, ap}
use Rattle.std.proofs.Common.{◌∙◌, drop-cons, lt-ltb, le-ltb}
use Rattle.std.specs.Prelude.{Bool, length, get_or, drop, leb, ltb, eqb, Option, Some, None, Ok, Err}
use Rattle.std.proofs.Math.Bool.{true, false}
use mathlib.Core.List.{List, [], ◌∷◌}
use Rattle.std.proofs.Math.Decide.{dec_le}
use Rattle.types.specs.Record as R
use Rattle.types.specs.declared.Place.{Place}
use Rattle.types.specs.Ty as T
use Rattle.types.specs.Ty.{Ty}
use Rattle.types.specs.Record.{TypeAt, got, malformed, deep, type_at}
use Rattle.types.specs.Spellings.{bytes-at, bytes_drop, Begins, head-begins}
use Rattle.heads.specs.declared.ExprHead.{ExprHead}
use Rattle.heads.specs.declared.ExprHead.TheVariants.{Free, Bound, Literal, Atomic, Extension, Truth, Binary, Associative, Unary, Quantified, Ascribed, Explicit}
use Rattle.heads.specs.declared.PredHead.{PredHead}
use Rattle.heads.specs.declared.PredHead.TheVariants.{Constant, Variable, Relational, Connective, Junction, Negation, Quantification, Simple, Multiple, Application}
use Rattle.heads.specs.declared.DeclHead.{DeclHead}
use Rattle.heads.specs.declared.DeclHead.TheVariants.{Plain, Typed, Annotated}
use Rattle.formula.specs.declared.St.{St}
use Rattle.types.specs.declared.Fault.{Fault}
use Rattle.types.specs.declared.Fault.TheVariants.{Malformed, Beyond}
use Rattle.formula.specs.Tree.{Spelling, spells, no_type, Decl, Expr, none, more, Pred, end, also, Target, Formula, expression, predicate, becomes, becomes_in, becomes_such}
use Rattle.heads.specs.Reads.{byte_in, same_part}
use Rattle.heads.specs.Heads.{pick, place, byte_of, byte_at, on_part, word_at, name_at, op_at, count_at, few_at, expr_body, expr_head, pred_body, pred_head, decl_head, target_at}
use Rattle.formula.specs.Reader.{Got, ok, bad, and_then, on_next, many, moved, own_of, declare_of, closed, closing, type_got, type_in, read_no_type, spelled_in, spelling_in}
use Rattle.formula.specs.Parse.{decl_by, decl_if, decl_at, decls_at, expr_by, pred_by, expr_if, pred_if, expr_deep, pred_deep, expr_at, pred_at, target_by, target_in, pair_in, targets_at, pairs_at, becomes_by, becomes_at, root_by, start, formula_at, finish, whole, faulty, parsed_by, parse_of}
use Rattle.types.specs.Limits.{max_bytes, max_depth, max_slots, max_opened, levels}
use Rattle.formula_laws.specs.Says.{ExprSays, PredSays, DeclSays, TargetSays, expr-says, pred_says, decl_says, target-says}

-- where a fault is
unfoldable pub at_fault : Fault Place → ℕ
at_fault (Malformed p) = p.0
at_fault (Beyond p) = p.0

-- g' is what g is, as far as m bytes show it; and g goes no way back behind p
unfoldable pub Rep : {A : Type 0} → ℕ → ℕ → Got A → Got A → Type 0
Rep m p (ok t a) g' = (p ≤ t.at.0) × (t.at.0 + 4 ≤ m → g' ≡ ok t a)
Rep m p (bad f) g' = (p ≤ at_fault f) × (at_fault f + 4 ≤ m → g' ≡ bad f)

module _ {A : Type 0} (m : ℕ) where
  rep_low : (p q : ℕ) (g g' : Got A) → p ≤ q → Rep m q g g' → Rep m p g g'
  unfolding Rep
  rep_low p q (ok t a) g' h r = (let i = r.0 in omega arith, r.1)
  rep_low p q (bad f) g' h r = (let i = r.0 in omega arith, r.1)

  -- past the bytes that are the same nothing is claimed
  rep_far : (p : ℕ) (g g' g'' : Got A) → m < p + 4 → Rep m p g g' → Rep m p g g''
  unfolding Rep
  rep_far p (ok t a) g' g'' h r = (r.0, λ l. absurd (let i = r.0 in omega arith))
  rep_far p (bad f) g' g'' h r = (r.0, λ l. absurd (let i = r.0 in omega arith))

  rep_ok : (p : ℕ) (t : St) (a : A) → p ≤ t.at.0 → Rep m p (ok t a) (ok t a)
  unfolding Rep
  rep_ok p t a h = (h, λ l. refl)

  rep_closing : (n p : ℕ) (g g' : Got A) → Rep m p g g' → Rep m p (closing n g) (closing n g')
  unfolding Rep closing closed
  rep_closing n p (ok t a) g' r = (r.0, λ l. rw (r.1 l))
  rep_closing n p (bad f) g' r = (r.0, λ l. rw (r.1 l))

rep_bad : (A : Type 0) (m p : ℕ) (f : Fault Place) → p ≤ at_fault f → Rep {A = A} m p (bad f) (bad f)
unfolding Rep
rep_bad A m p f h = (h, λ l. refl)

on_then : {A B : Type 0} (m p : ℕ) (t : St) (a : A) (g' : Got A) (k' : A → St → Got B) → p ≤ t.at.0 → (t.at.0 + 4 ≤ m → g' ≡ ok t a) → (x : Got B) → Rep m t.at.0 x (k' a t) → Rep m p x (and_then g' k')
unfolding Rep and_then
on_then m p t a g' k' i r (ok u b) w = (let j = w.0 in omega arith, λ l. rw (r (let j = w.0 in omega arith)) (w.1 l))
on_then m p t a g' k' i r (bad f) w = (let j = w.0 in omega arith, λ l. rw (r (let j = w.0 in omega arith)) (w.1 l))

rep_then : {A B : Type 0} (m p : ℕ) (g g' : Got A) (k k' : A → St → Got B) → Rep m p g g' → ((a : A) (t : St) → Rep m t.at.0 (k a t) (k' a t)) → Rep m p (and_then g k) (and_then g' k')
unfolding Rep and_then
rep_then m p (bad f) g' k k' r h = (r.0, λ l. rw (r.1 l))
rep_then m p (ok t a) g' k k' r h = on_then m p t a g' k' r.0 r.1 (k a t) (h a t)

rep_last : {A B : Type 0} (m p : ℕ) (g g' : Got A) (f : A → B) → Rep m p g g' → Rep m p (and_then g λ a t. ok t (f a)) (and_then g' λ a t. ok t (f a))
rep_last m p g g' f r = rep_then m p g g' _ _ r (λ a t. rep_ok m t.at.0 t (f a) (omega arith))

rep_own : (B : Type 0) (m : ℕ) (e : Place) (st : St) (k k' : St → Got B) → st.at.0 ≤ e.0 → ((t : St) → Rep m t.at.0 (k t) (k' t)) → Rep m st.at.0 (on_next (own_of e st) k) (on_next (own_of e st) k')
unfolding own_of on_next at_fault
rep_own B m e st k k' h c = go (ltb st.slots max_slots)
  where
    go : (b : Bool) → Rep m st.at.0 (on_next (pick b (Ok (record { at = e; slots = st.slots + 1; opened = st.opened })) (Err (Beyond st.at))) k) (on_next (pick b (Ok (record { at = e; slots = st.slots + 1; opened = st.opened })) (Err (Beyond st.at))) k')
    go true = rep_low m st.at.0 e.0 _ _ h (c (record { at = e; slots = st.slots + 1; opened = st.opened }))
    go false = rep_bad B m st.at.0 (Beyond st.at) (omega arith)

rep_declare : (B : Type 0) (m : ℕ) (e : Place) (st : St) (k k' : St → Got B) → st.at.0 ≤ e.0 → ((t : St) → Rep m t.at.0 (k t) (k' t)) → Rep m st.at.0 (on_next (declare_of e st) k) (on_next (declare_of e st) k')
unfolding declare_of on_next at_fault
rep_declare B m e st k k' h c = go (ltb st.opened max_opened) (ltb st.slots max_slots)
  where
    stop : Rep m st.at.0 (on_next (Err (Beyond st.at)) k) (on_next (Err (Beyond st.at)) k')
    stop = rep_bad B m st.at.0 (Beyond st.at) (omega arith)

    go : (b d : Bool) → Rep m st.at.0 (on_next (pick b (pick d (Ok (record { at = e; slots = st.slots + 1; opened = st.opened + 1 })) (Err (Beyond st.at))) (Err (Beyond st.at))) k) (on_next (pick b (pick d (Ok (record { at = e; slots = st.slots + 1; opened = st.opened + 1 })) (Err (Beyond st.at))) (Err (Beyond st.at))) k')
    go true true = rep_low m st.at.0 e.0 _ _ h (c (record { at = e; slots = st.slots + 1; opened = st.opened + 1 }))
    go true false = stop
    go false true = stop
    go false false = stop

rep_many : {A C : Type 0} (m : ℕ) (nil : C) (cons : A → C → C) (x x' : St → Got A) → ((st : St) → Rep m st.at.0 (x st) (x' st)) → (n : ℕ) (st : St) → Rep m st.at.0 (many nil cons x n st) (many nil cons x' n st)
unfolding many
rep_many m nil cons x x' h zero st = rep_ok m st.at.0 st nil (omega arith)
rep_many m nil cons x x' h (suc n) st =
    rep_then m st.at.0 (x st) (x' st) _ _ (h st) (λ a t. rep_last m t.at.0 (many nil cons x n t) (many nil cons x' n t) (cons a) (rep_many m nil cons x x' h n t))

-- ---- the same bytes, the same heads

byte_ends : (s : List ℕ) (p : Place) (b : ℕ) (e : Place) → byte_at s p ≡ Some (b, e) → p.0 ≤ e.0
unfolding byte_at byte_of
byte_ends s p b e = go (drop p.0 s)
  where
    go : (l : List ℕ) → byte_of p.0 l ≡ Some (b, e) → p.0 ≤ e.0
    go [] h = absurd (let z : ◌≡◌ {A = ℕ} 0 1 = cc in omega arith)
    go (x ∷ l) h = let y = ap (λ (q : Place). q.0) (same_part x b (place (p.0 + 1)) e h).1 in omega arith

byte_most : (s : List ℕ) (p : Place) (b : ℕ) (e : Place) → byte_at s p ≡ Some (b, e) → e.0 ≤ p.0 + 1
unfolding byte_at byte_of
byte_most s p b e = go (drop p.0 s)
  where
    go : (l : List ℕ) → byte_of p.0 l ≡ Some (b, e) → e.0 ≤ p.0 + 1
    go [] h = absurd (let z : ◌≡◌ {A = ℕ} 0 1 = cc in omega arith)
    go (x ∷ l) h = let y = ap (λ (q : Place). q.0) (same_part x b (place (p.0 + 1)) e h).1 in omega arith

part_cong : {A : Type 0} (z : A) (f : ℕ → Place → A) (w v : Option (ℕ × Place)) → w ≡ v → on_part z w f ≡ on_part z v f
part_cong z f w v e = rw e

module _ (names : ℕ) (s s' : List ℕ) (m : ℕ) (short : m ≤ length s) (short' : m ≤ length s') (agree : (i : ℕ) → i < m → get_or s i 0 ≡ get_or s' i 0) (bytes : (i : ℕ) → get_or s i 0 < 256) where
  pub on_byte_same : {A : Type 0} (z : A) (p : Place) (f f' : ℕ → Place → A) → p.0 < m → ((b : ℕ) (e : Place) → e.0 ≡ p.0 + 1 → f b e ≡ f' b e) → on_part z (byte_at s p) f ≡ on_part z (byte_at s' p) f'
  unfolding on_part
  on_byte_same z p f f' h c =
      rw (← byte_in s p (omega arith), ← byte_in s' p (omega arith))
      (c (get_or s p.0 0) (place (p.0 + 1)) refl ∙ ap (λ (b : ℕ). f' b (place (p.0 + 1))) (agree p.0 h))

  word_same : (p : Place) → p.0 + 1 < m → word_at s p ≡ word_at s' p
  unfolding word_at
  word_same p h = on_byte_same None p _ _ (omega arith) (λ lo q e. on_byte_same None q _ _ (omega arith) (λ hi r i. refl))

  pub name-same : (p : Place) → p.0 + 1 < m → name_at names s p ≡ name_at names s' p
  unfolding name_at
  name-same p h = ap (λ (w : Option (ℕ × Place)). on_part None w λ n e. pick (ltb n names) (Some (n, e)) None) (word_same p h)

  count_same : (least : ℕ) (p : Place) → p.0 + 1 < m → count_at least s p ≡ count_at least s' p
  unfolding count_at
  count_same least p h = ap (λ (w : Option (ℕ × Place)). on_part None w λ n e. pick (leb least n) (Some (n, e)) None) (word_same p h)

  op_same : (limit : ℕ) (p : Place) → p.0 < m → op_at limit s p ≡ op_at limit s' p
  unfolding op_at
  op_same limit p h = on_byte_same None p _ _ h (λ o e i. refl)

  few-same : (p : Place) → p.0 < m → few_at s p ≡ few_at s' p
  unfolding few_at
  few-same p h = on_byte_same None p _ _ h (λ o e i. refl)

  -- an operator's end
  op_end : {A : Type 0} (z : A) (limit : ℕ) (p : Place) (f f' : ℕ → Place → A) → p.0 < m → ((b : ℕ) (e : Place) → e.0 ≡ p.0 + 1 → f b e ≡ f' b e) → on_part z (op_at limit s p) f ≡ on_part z (op_at limit s' p) f'
  unfolding op_at on_part
  op_end z limit p f f' h c =
      rw (← byte_in s p (omega arith), ← byte_in s' p (omega arith), agree p.0 h) (go (ltb (get_or s' p.0 0) limit))
    where
      go : (b : Bool) → on_part z (pick b (Some ((get_or s' p.0 0), (place (p.0 + 1)))) None) f ≡ on_part z (pick b (Some ((get_or s' p.0 0), (place (p.0 + 1)))) None) f'
      go true = c (get_or s' p.0 0) (place (p.0 + 1)) refl
      go false = refl

  pick_same : {A : Type 0} (c : Bool) (x x' y y' : A) → x ≡ x' → y ≡ y' → pick c x y ≡ pick c x' y'
  pick_same c x x' y y' h k = rw (h, k)

  body_same : (bare : Bool) (k : ℕ) (p : Place) → p.0 + 3 ≤ m → expr_body names s bare k p ≡ expr_body names s' bare k p
  unfolding expr_body
  body_same bare k p h =
      pick_same (eqb k 0x01) _ _ _ _ (part_cong None _ _ _ (name-same p (omega arith)))
      (pick_same (eqb k 0x02) _ _ _ _ (part_cong None _ _ _ (word_same p (omega arith)))
      (pick_same (eqb k 0x03) _ _ _ _ refl
      (pick_same (eqb k 0x04) _ _ _ _ (part_cong None _ _ _ (op_same 12 p (omega arith)))
      (pick_same (eqb k 0x05) _ _ _ _ (part_cong None _ _ _ (count_same 1 p (omega arith)))
      (pick_same (eqb k 0x06) _ _ _ _ refl
      (pick_same (eqb k 0x07) _ _ _ _ (part_cong None _ _ _ (op_same 27 p (omega arith)))
      (pick_same (eqb k 0x08) _ _ _ _ (op_end None 7 p _ _ (omega arith) (λ o q i. part_cong None _ _ _ (count_same 2 q (omega arith))))
      (pick_same (eqb k 0x09) _ _ _ _ (part_cong None _ _ _ (op_same 11 p (omega arith)))
      (pick_same (eqb k 0x0A) _ _ _ _ (op_end None 3 p _ _ (omega arith) (λ o q i. part_cong None _ _ _ (few-same q (omega arith))))
      refl)))))))))

  expr-head-same : (bare : Bool) (p : Place) → p.0 + 4 ≤ m → expr_head names s bare p ≡ expr_head names s' bare p
  unfolding expr_head
  expr-head-same bare p h = on_byte_same None p _ _ (omega arith) (λ k q e. body_same bare k q (omega arith))

  pred_body_same : (k : ℕ) (p : Place) → p.0 + 3 ≤ m → pred_body s k p ≡ pred_body s' k p
  unfolding pred_body
  pred_body_same k p h =
      pick_same (eqb k 0x20) _ _ _ _ refl
      (pick_same (eqb k 0x21) _ _ _ _ refl
      (pick_same (eqb k 0x22) _ _ _ _ (part_cong None _ _ _ (op_same 12 p (omega arith)))
      (pick_same (eqb k 0x23) _ _ _ _ refl
      (pick_same (eqb k 0x24) _ _ _ _ (part_cong None _ _ _ (count_same 2 p (omega arith)))
      (pick_same (eqb k 0x25) _ _ _ _ refl
      (pick_same (eqb k 0x26) _ _ _ _ (part_cong None _ _ _ (few-same p (omega arith)))
      (pick_same (eqb k 0x27) _ _ _ _ refl
      (pick_same (eqb k 0x28) _ _ _ _ (part_cong None _ _ _ (count_same 1 p (omega arith)))
      (pick_same (eqb k 0x29) _ _ _ _ (part_cong None _ _ _ (word_same p (omega arith))) refl)))))))))

  pred_head-same : (p : Place) → p.0 + 4 ≤ m → pred_head s p ≡ pred_head s' p
  unfolding pred_head
  pred_head-same p h = on_byte_same None p _ _ (omega arith) (λ k q e. pred_body_same k q (omega arith))

  decl_head-same : (p : Place) → p.0 + 4 ≤ m → decl_head s p ≡ decl_head s' p
  unfolding decl_head
  decl_head-same p h = on_byte_same None p _ _ (omega arith) (λ k q e. refl)

  target-same : (p : Place) → p.0 + 4 ≤ m → target_at names s p ≡ target_at names s' p
  unfolding target_at
  target-same p h = on_byte_same None p _ _ (omega arith) (λ k q e. pick_same (eqb k 0x01) _ _ _ _ (name-same q (omega arith)) refl)

  -- ---- types

  -- a type's reading, as far as m bytes show it
  unfoldable pub RepT : ℕ → TypeAt → TypeAt → Type 0
  RepT p (got t e) x = (p ≤ e) × (e + 4 ≤ m → x ≡ got t e)
  RepT p (malformed q) x = (p ≤ q) × (q + 4 ≤ m → x ≡ malformed q)
  RepT p (deep q) x = (p ≤ q) × (q + 4 ≤ m → x ≡ deep q)

  rept_then : (p : ℕ) (x y : TypeAt) (k l : Ty → ℕ → TypeAt) → RepT p x y → ((t : Ty) (e : ℕ) → RepT e (k t e) (l t e)) → RepT p (R.and_then x k) (R.and_then y l)
  unfolding RepT R.and_then
  rept_then p (malformed q) y k l r h = (r.0, λ i. rw (r.1 i))
  rept_then p (deep q) y k l r h = (r.0, λ i. rw (r.1 i))
  rept_then p (got t e) y k l r h = on (k t e) (h t e)
    where
      on : (x : TypeAt) → RepT e x (l t e) → RepT p x (R.and_then y l)
      on (got u f) w = (let i = r.0 in let j = w.0 in omega arith, λ i. rw (r.1 (let j = w.0 in omega arith)) (w.1 i))
      on (malformed q) w = (let i = r.0 in let j = w.0 in omega arith, λ i. rw (r.1 (let j = w.0 in omega arith)) (w.1 i))
      on (deep q) w = (let i = r.0 in let j = w.0 in omega arith, λ i. rw (r.1 (let j = w.0 in omega arith)) (w.1 i))

  rept_far : (p : ℕ) (x y z : TypeAt) → m < p + 4 → RepT p x y → RepT p x z
  unfolding RepT
  rept_far p (got t e) y z h r = (r.0, λ i. absurd (let j = r.0 in omega arith))
  rept_far p (malformed q) y z h r = (r.0, λ i. absurd (let j = r.0 in omega arith))
  rept_far p (deep q) y z h r = (r.0, λ i. absurd (let j = r.0 in omega arith))

  rept_low : (p q : ℕ) (x y : TypeAt) → p ≤ q → RepT q x y → RepT p x y
  unfolding RepT
  rept_low p q (got t e) y h r = (let j = r.0 in omega arith, r.1)
  rept_low p q (malformed e) y h r = (let j = r.0 in omega arith, r.1)
  rept_low p q (deep e) y h r = (let j = r.0 in omega arith, r.1)

  three-same : (p a b c : ℕ) (r r' : List ℕ) → R.head_of names p (a ∷ b ∷ c ∷ r) ≡ R.head_of names p (a ∷ b ∷ c ∷ r')
  unfolding R.head_of R.given_of
  three-same p a b c r r' = refl

  three-bytes : (l : List ℕ) (p : ℕ) → p + 3 ≤ length l → drop p l ≡ get_or l p 0 ∷ get_or l (suc p) 0 ∷ get_or l (suc (suc p)) 0 ∷ drop (suc (suc (suc p))) l
  three-bytes l p h = drop-cons l p 0 (omega arith) ∙ ap (λ (x : List ℕ). get_or l p 0 ∷ x) (drop-cons l (suc p) 0 (omega arith) ∙ ap (λ (x : List ℕ). get_or l (suc p) 0 ∷ x) (drop-cons l (suc (suc p)) 0 (omega arith)))

  type-head-same : (p : ℕ) → p + 4 ≤ m → R.head_of names p (drop p s) ≡ R.head_of names p (drop p s')
  type-head-same p h =
      ap (R.head_of names p) (three-bytes s p (omega arith))
      ∙ (rw (agree p (omega arith), agree (suc p) (omega arith), agree (suc (suc p)) (omega arith)) (three-same p _ _ _ _ _))
      ∙ ap (R.head_of names p) (sym (three-bytes s' p (omega arith)))

  rept_got : (p : ℕ) (t : Ty) (e : ℕ) → p ≤ e → RepT p (got t e) (got t e)
  unfolding RepT
  rept_got p t e h = (h, λ i. refl)

  rept_wrong : (p : ℕ) → RepT p (malformed p) (malformed p)
  unfolding RepT
  rept_wrong p = (omega arith, λ i. refl)

  type-by_rep : (rd rd' : ℕ → TypeAt) → ((q : ℕ) → RepT q (rd q) (rd' q)) → (p : ℕ) (h : R.Head) → Begins names p (drop p s) h → RepT p (R.type_by rd p h) (R.type_by rd' p h)
  unfolding R.type_by Begins
  type-by_rep rd rd' k p R.wrong b = rept_wrong p
  type-by_rep rd rd' k p (R.atomic a e) b = rept_got p (T.base a) e (let i = b.1 in omega arith)
  type-by_rep rd rd' k p (R.power e) b = rept_low p e _ _ (let i = b.0 in omega arith) (rept_then e (rd e) (rd' e) _ _ (k e) (λ t f. rept_got f (T.pow t) f (omega arith)))
  type-by_rep rd rd' k p (R.product e) b = rept_low p e _ _ (let i = b.0 in omega arith) (rept_then e (rd e) (rd' e) _ _ (k e) (λ t f. rept_then f (rd f) (rd' f) _ _ (k f) (λ u g. rept_got g (T.prod t u) g (omega arith))))

  deep-by_rep : (p : ℕ) (h : R.Head) → RepT p (R.deep_by p h) (R.deep_by p h)
  unfolding R.deep_by RepT
  deep-by_rep p R.wrong = (omega arith, λ i. refl)
  deep-by_rep p (R.atomic a e) = (omega arith, λ i. refl)
  deep-by_rep p (R.power e) = (omega arith, λ i. refl)
  deep-by_rep p (R.product e) = (omega arith, λ i. refl)

  pub type_rep : (left p : ℕ) → RepT p (type_at left names s p) (type_at left names s' p)
  unfolding type_at
  type_rep zero p = go (dec_le (p + 4) m)
    where
      go : Dec (p + 4 ≤ m) → RepT p (R.deep_by p (R.head_of names p (drop p s))) (R.deep_by p (R.head_of names p (drop p s')))
      go (yes h) = rw (← type-head-same p h) (deep-by_rep p (R.head_of names p (drop p s)))
      go (no h) = rept_far p _ _ _ (omega arith) (deep-by_rep p (R.head_of names p (drop p s)))
  type_rep (suc left) p = go (type_at left names s) (type_at left names s') (type_rep left) (dec_le (p + 4) m)
    where
      go : (rd rd' : ℕ → TypeAt) → ((q : ℕ) → RepT q (rd q) (rd' q)) → Dec (p + 4 ≤ m) → RepT p (R.type_by rd p (R.head_of names p (drop p s))) (R.type_by rd' p (R.head_of names p (drop p s')))
      go rd rd' k (yes h) = rw (← type-head-same p h) (type-by_rep rd rd' k p (R.head_of names p (drop p s)) (head-begins names p (drop p s) (bytes_drop s (bytes-at s bytes) p)))
      go rd rd' k (no h) = rept_far p _ _ _ (omega arith) (type-by_rep rd rd' k p (R.head_of names p (drop p s)) (head-begins names p (drop p s) (bytes_drop s (bytes-at s bytes) p)))

  got_rep : (x y : TypeAt) (st : St) → RepT st.at.0 x y → Rep m st.at.0 (type_got x st) (type_got y st)
  unfolding RepT Rep type_got moved at_fault
  got_rep (got t e) y st r = (r.0, λ i. rw (r.1 i))
  got_rep (malformed q) y st r = (r.0, λ i. rw (r.1 i))
  got_rep (deep q) y st r = (r.0, λ i. rw (r.1 i))

  type_in_rep : (left : ℕ) (st : St) → Rep m st.at.0 (type_in names s left st) (type_in names s' left st)
  unfolding type_in
  type_in_rep left st = got_rep _ _ st (type_rep left st.at.0)

  -- ---- spellings and declarations

  spelled_rep : (left : ℕ) (st : St) → Rep m st.at.0 (spelled_in names s left st) (spelled_in names s' left st)
  unfolding spelled_in
  spelled_rep left st = rep_last m st.at.0 (type_in names s left st) (type_in names s' left st) spells (type_in_rep left st)

  none_rep : (left : ℕ) (e : Place) (st : St) → st.at.0 ≤ e.0 → Rep m st.at.0 (read_no_type left e st) (read_no_type left e st)
  unfolding read_no_type moved at_fault
  none_rep zero e st h = rep_bad Spelling m st.at.0 (Beyond st.at) (omega arith)
  none_rep (suc left) e st h = rep_ok m st.at.0 _ no_type h

  spelling_by : (left : ℕ) (st : St) (b : Option (ℕ × Place)) → byte_at s st.at ≡ b → Rep m st.at.0 (on_part (spelled_in names s left st) b λ k e. pick (eqb k 0x4F) (read_no_type left e st) (spelled_in names s left st)) (on_part (spelled_in names s' left st) b λ k e. pick (eqb k 0x4F) (read_no_type left e st) (spelled_in names s' left st))
  unfolding on_part
  spelling_by left st None h = spelled_rep left st
  spelling_by left st (Some (k, e)) h = go (eqb k 0x4F)
    where
      ends : st.at.0 ≤ e.0
      ends = byte_ends s st.at k e h

      go : (c : Bool) → Rep m st.at.0 (pick c (read_no_type left e st) (spelled_in names s left st)) (pick c (read_no_type left e st) (spelled_in names s' left st))
      go true = none_rep left e st ends
      go false = spelled_rep left st

  byte_same : (p : Place) → p.0 < m → byte_at s p ≡ byte_at s' p
  byte_same p h = sym (byte_in s p (omega arith)) ∙ ap (λ (b : ℕ). Some (b, (place (p.0 + 1)))) (agree p.0 h) ∙ byte_in s' p (omega arith)

  spelling_rep : (left : ℕ) (st : St) → Rep m st.at.0 (spelling_in names s left st) (spelling_in names s' left st)
  unfolding spelling_in
  spelling_rep left st = go (dec_le (st.at.0 + 4) m)
    where
      go : Dec (st.at.0 + 4 ≤ m) → Rep m st.at.0 (on_part (spelled_in names s left st) (byte_at s st.at) λ k e. pick (eqb k 0x4F) (read_no_type left e st) (spelled_in names s left st)) (on_part (spelled_in names s' left st) (byte_at s' st.at) λ k e. pick (eqb k 0x4F) (read_no_type left e st) (spelled_in names s' left st))
      go (yes h) = rw (← byte_same st.at (omega arith)) (spelling_by left st (byte_at s st.at) refl)
      go (no h) = rep_far m st.at.0 _ _ _ (omega arith) (spelling_by left st (byte_at s st.at) refl)

  decl_by_rep : (left : ℕ) (st : St) (h : DeclHead) → DeclSays s st.at.0 (Some h) → Rep m st.at.0 (decl_by names s left st h) (decl_by names s' left st h)
  unfolding decl_by DeclSays
  decl_by_rep left st (Plain e) x = rep_declare Decl m e st _ _ (let i = x.ends in omega arith) (λ t. rep_ok m t.at.0 t _ (omega arith))
  decl_by_rep left st (Typed e) x = rep_declare Decl m e st _ _ (let i = x.ends in omega arith) (λ t. rep_last m t.at.0 (type_in names s left t) (type_in names s' left t) _ (type_in_rep left t))
  decl_by_rep left st (Annotated e) x = rep_declare Decl m e st _ _ (let i = x.ends in omega arith) (λ t. rep_last m t.at.0 (spelling_in names s left t) (spelling_in names s' left t) _ (spelling_rep left t))

  decl_if_rep : (left : ℕ) (st : St) (h : Option DeclHead) → DeclSays s st.at.0 h → Rep m st.at.0 (decl_if names s left st h) (decl_if names s' left st h)
  unfolding decl_if at_fault
  decl_if_rep left st None x = rep_bad Decl m st.at.0 (Malformed st.at) (omega arith)
  decl_if_rep zero st (Some h) x = rep_bad Decl m st.at.0 (Beyond st.at) (omega arith)
  decl_if_rep (suc left) st (Some h) x = decl_by_rep left st h x

  decl_rep : (left : ℕ) (st : St) → Rep m st.at.0 (decl_at names s left st) (decl_at names s' left st)
  unfolding decl_at
  decl_rep left st = go (dec_le (st.at.0 + 4) m)
    where
      go : Dec (st.at.0 + 4 ≤ m) → Rep m st.at.0 (decl_if names s left st (decl_head s st.at)) (decl_if names s' left st (decl_head s' st.at))
      go (yes h) = rw (← decl_head-same st.at h) (decl_if_rep left st (decl_head s st.at) (decl_says names s bytes st.at))
      go (no h) = rep_far m st.at.0 _ _ _ (omega arith) (decl_if_rep left st (decl_head s st.at) (decl_says names s bytes st.at))

  decls_rep : (left n : ℕ) (st : St) → Rep m st.at.0 (decls_at names s left n st) (decls_at names s' left n st)
  unfolding decls_at
  decls_rep left n st = rep_many m [] ◌∷◌ (decl_at names s left) (decl_at names s' left) (decl_rep left) n st

  -- ---- expressions and predicates

  module _ (left : ℕ) (X X' : Bool → St → Got Expr) (Q Q' : St → Got Pred) (hX : (b : Bool) (t : St) → Rep m t.at.0 (X b t) (X' b t)) (hQ : (t : St) → Rep m t.at.0 (Q t) (Q' t)) (st : St) where
    all_rep : (n : ℕ) (t : St) → Rep m t.at.0 (many none more (X false) n t) (many none more (X' false) n t)
    all_rep n t = rep_many m none more (X false) (X' false) (hX false) n t

    preds_rep : (n : ℕ) (t : St) → Rep m t.at.0 (many end also Q n t) (many end also Q' n t)
    preds_rep n t = rep_many m end also Q Q' hQ n t

    type-moved : (e : Place) → Rep m e.0 (type_in names s left (moved e st)) (type_in names s' left (moved e st))
    unfolding moved
    type-moved e = type_in_rep left (record { at = e; slots = st.slots; opened = st.opened })

    expr-moved : (b : Bool) (e : Place) → Rep m e.0 (X b (moved e st)) (X' b (moved e st))
    unfolding moved
    expr-moved b e = hX b (record { at = e; slots = st.slots; opened = st.opened })

    pred_moved : (e : Place) → Rep m e.0 (Q (moved e st)) (Q' (moved e st))
    unfolding moved
    pred_moved e = hQ (record { at = e; slots = st.slots; opened = st.opened })

    all_moved : (n : ℕ) (e : Place) → Rep m e.0 (many none more (X false) n (moved e st)) (many none more (X' false) n (moved e st))
    unfolding moved
    all_moved n e = all_rep n (record { at = e; slots = st.slots; opened = st.opened })

    preds-moved : (n : ℕ) (e : Place) → Rep m e.0 (many end also Q n (moved e st)) (many end also Q' n (moved e st))
    unfolding moved
    preds-moved n e = preds_rep n (record { at = e; slots = st.slots; opened = st.opened })

    decls-moved : (n : ℕ) (e : Place) → Rep m e.0 (decls_at names s left n (moved e st)) (decls_at names s' left n (moved e st))
    unfolding moved
    decls-moved n e = decls_rep left n (record { at = e; slots = st.slots; opened = st.opened })

    ok-moved : (e : Place) (a : Pred) → st.at.0 ≤ e.0 → Rep m st.at.0 (ok (moved e st) a) (ok (moved e st) a)
    unfolding moved
    ok-moved e a h = rep_ok m st.at.0 (record { at = e; slots = st.slots; opened = st.opened }) a h

    expr-by_rep : (bare : Bool) (h : ExprHead) → ExprSays names s bare st.at.0 (Some h) → Rep m st.at.0 (expr_by names s left X Q st h) (expr_by names s' left X' Q' st h)
    unfolding expr_by ExprSays
    expr-by_rep bare (Free n e) x = rep_own Expr m e st _ _ (let i = x.1.ends in omega arith) (λ t. rep_ok m t.at.0 t _ (omega arith))
    expr-by_rep bare (Bound i e) x = rep_own Expr m e st _ _ (let i = x.ends in omega arith) (λ t. rep_ok m t.at.0 t _ (omega arith))
    expr-by_rep bare (Literal e) x = rep_own Expr m e st _ _ (let i = x.ends in omega arith) (λ t. rep_ok m t.at.0 t _ (omega arith))
    expr-by_rep bare (Atomic c e) x = rep_own Expr m e st _ _ (let i = x.1.ends in omega arith) (λ t. rep_ok m t.at.0 t _ (omega arith))
    expr-by_rep bare (Extension n e) x = rep_own Expr m e st _ _ (let i = x.1.ends in omega arith) (λ t. rep_last m t.at.0 (many none more (X false) n t) (many none more (X' false) n t) _ (all_rep n t))
    expr-by_rep bare (Truth e) x = rep_own Expr m e st _ _ (let i = x.ends in omega arith) (λ t. rep_last m t.at.0 (Q t) (Q' t) _ (hQ t))
    expr-by_rep bare (Binary c e) x = rep_own Expr m e st _ _ (let i = x.1.ends in omega arith) (λ t. rep_then m t.at.0 (X false t) (X' false t) _ _ (hX false t) (λ a u. rep_last m u.at.0 (X false u) (X' false u) _ (hX false u)))
    expr-by_rep bare (Associative c n e) x = rep_own Expr m e st _ _ (let i = x.2.ends in omega arith) (λ t. rep_last m t.at.0 (many none more (X false) n t) (many none more (X' false) n t) _ (all_rep n t))
    expr-by_rep bare (Unary c e) x = rep_own Expr m e st _ _ (let i = x.1.ends in omega arith) (λ t. rep_last m t.at.0 (X false t) (X' false t) _ (hX false t))
    expr-by_rep bare (Quantified c n e) x = rep_closing m st.opened st.at.0 _ _ (rep_own Expr m e st _ _ (let i = x.2.ends in omega arith) (λ t. rep_then m t.at.0 (decls_at names s left n t) (decls_at names s' left n t) _ _ (decls_rep left n t) (λ ds u. rep_then m u.at.0 (Q u) (Q' u) _ _ (hQ u) (λ a v. rep_last m v.at.0 (X false v) (X' false v) _ (hX false v)))))
    expr-by_rep bare (Ascribed e) x = rep_own Expr m e st _ _ (let i = x.ends in omega arith) (λ t. rep_then m t.at.0 (X false t) (X' false t) _ _ (hX false t) (λ a u. rep_then m u.at.0 (spelling_in names s left u) (spelling_in names s' left u) _ _ (spelling_rep left u) (λ b v. rep_ok m v.at.0 v _ (omega arith))))
    expr-by_rep bare (Explicit e) x = rep_low m st.at.0 e.0 _ _ (let i = x.1.ends in omega arith) (rep_then m e.0 (type_in names s left (moved e st)) (type_in names s' left (moved e st)) _ _ (type-moved e) (λ a t. rep_last m t.at.0 (X true t) (X' true t) _ (hX true t)))

    pred_by_rep : (h : PredHead) → PredSays s st.at.0 (Some h) → Rep m st.at.0 (pred_by names s left X Q st h) (pred_by names s' left X' Q' st h)
    unfolding pred_by PredSays
    pred_by_rep (Constant e) x = ok-moved e _ (let i = x.ends in omega arith)
    pred_by_rep (Variable e) x = ok-moved e _ (let i = x.ends in omega arith)
    pred_by_rep (Relational c e) x = rep_low m st.at.0 e.0 _ _ (let i = x.1.ends in omega arith) (rep_then m e.0 (X false (moved e st)) (X' false (moved e st)) _ _ (expr-moved false e) (λ a u. rep_last m u.at.0 (X false u) (X' false u) _ (hX false u)))
    pred_by_rep (Connective e) x = rep_low m st.at.0 e.0 _ _ (let i = x.ends in omega arith) (rep_then m e.0 (Q (moved e st)) (Q' (moved e st)) _ _ (pred_moved e) (λ a u. rep_last m u.at.0 (Q u) (Q' u) _ (hQ u)))
    pred_by_rep (Junction n e) x = rep_low m st.at.0 e.0 _ _ (let i = x.1.ends in omega arith) (rep_last m e.0 (many end also Q n (moved e st)) (many end also Q' n (moved e st)) _ (preds-moved n e))
    pred_by_rep (Negation e) x = rep_low m st.at.0 e.0 _ _ (let i = x.ends in omega arith) (rep_last m e.0 (Q (moved e st)) (Q' (moved e st)) _ (pred_moved e))
    pred_by_rep (Quantification n e) x = rep_closing m st.opened st.at.0 _ _ (rep_low m st.at.0 e.0 _ _ (let i = x.1.ends in omega arith) (rep_then m e.0 (decls_at names s left n (moved e st)) (decls_at names s' left n (moved e st)) _ _ (decls-moved n e) (λ ds u. rep_last m u.at.0 (Q u) (Q' u) _ (hQ u))))
    pred_by_rep (Simple e) x = rep_low m st.at.0 e.0 _ _ (let i = x.ends in omega arith) (rep_last m e.0 (X false (moved e st)) (X' false (moved e st)) _ (expr-moved false e))
    pred_by_rep (Multiple n e) x = rep_low m st.at.0 e.0 _ _ (let i = x.1.ends in omega arith) (rep_last m e.0 (many none more (X false) n (moved e st)) (many none more (X' false) n (moved e st)) _ (all_moved n e))
    pred_by_rep (Application n e) x = rep_low m st.at.0 e.0 _ _ (let i = x.ends in omega arith) (rep_last m e.0 (many none more (X false) n (moved e st)) (many none more (X' false) n (moved e st)) _ (all_moved n e))

    expr_if_rep : (bare : Bool) (h : Option ExprHead) → ExprSays names s bare st.at.0 h → Rep m st.at.0 (expr_if names s left X Q st h) (expr_if names s' left X' Q' st h)
    unfolding expr_if at_fault
    expr_if_rep bare None x = rep_bad Expr m st.at.0 (Malformed st.at) (omega arith)
    expr_if_rep bare (Some h) x = expr-by_rep bare h x

    pred_if_rep : (h : Option PredHead) → PredSays s st.at.0 h → Rep m st.at.0 (pred_if names s left X Q st h) (pred_if names s' left X' Q' st h)
    unfolding pred_if at_fault
    pred_if_rep None x = rep_bad Pred m st.at.0 (Malformed st.at) (omega arith)
    pred_if_rep (Some h) x = pred_by_rep h x

  expr-deep_rep : (st : St) (h : Option ExprHead) → Rep m st.at.0 (expr_deep st h) (expr_deep st h)
  unfolding expr_deep at_fault
  expr-deep_rep st None = rep_bad Expr m st.at.0 (Malformed st.at) (omega arith)
  expr-deep_rep st (Some h) = rep_bad Expr m st.at.0 (Beyond st.at) (omega arith)

  pred_deep_rep : (st : St) (h : Option PredHead) → Rep m st.at.0 (pred_deep st h) (pred_deep st h)
  unfolding pred_deep at_fault
  pred_deep_rep st None = rep_bad Pred m st.at.0 (Malformed st.at) (omega arith)
  pred_deep_rep st (Some h) = rep_bad Pred m st.at.0 (Beyond st.at) (omega arith)

  -- a record whose head is the same, or lies too far on
  by-head : {A H : Type 0} (st : St) (f f' : H → Got A) (h h' : H) → (st.at.0 + 4 ≤ m → h ≡ h') → Rep m st.at.0 (f h) (f' h) → Rep m st.at.0 (f h) (f' h')
  by-head st f f' h h' e r = go (dec_le (st.at.0 + 4) m)
    where
      go : Dec (st.at.0 + 4 ≤ m) → Rep m st.at.0 (f h) (f' h')
      go (yes l) = rw (← e l) r
      go (no l) = rep_far m st.at.0 _ _ _ (omega arith) r

  mutual
    unfolding expr_at pred_at

    expr_rep : (left : ℕ) (bare : Bool) (st : St) → Rep m st.at.0 (expr_at left names s bare st) (expr_at left names s' bare st)
    expr_rep zero bare st = by-head st (expr_deep st) (expr_deep st) (expr_head names s bare st.at) (expr_head names s' bare st.at) (expr-head-same bare st.at) (expr-deep_rep st (expr_head names s bare st.at))
    expr_rep (suc left) bare st =
        by-head st (expr_if names s left (λ b t. expr_at left names s b t) (λ t. pred_at left names s t) st) (expr_if names s' left (λ b t. expr_at left names s' b t) (λ t. pred_at left names s' t) st) (expr_head names s bare st.at) (expr_head names s' bare st.at) (expr-head-same bare st.at)
        (expr_if_rep left (λ b t. expr_at left names s b t) (λ b t. expr_at left names s' b t) (λ t. pred_at left names s t) (λ t. pred_at left names s' t) (λ b t. expr_rep left b t) (λ t. pred_rep left t) st bare (expr_head names s bare st.at) (expr-says names s bytes bare st.at))

    pred_rep : (left : ℕ) (st : St) → Rep m st.at.0 (pred_at left names s st) (pred_at left names s' st)
    pred_rep zero st = by-head st (pred_deep st) (pred_deep st) (pred_head s st.at) (pred_head s' st.at) (pred_head-same st.at) (pred_deep_rep st (pred_head s st.at))
    pred_rep (suc left) st =
        by-head st (pred_if names s left (λ b t. expr_at left names s b t) (λ t. pred_at left names s t) st) (pred_if names s' left (λ b t. expr_at left names s' b t) (λ t. pred_at left names s' t) st) (pred_head s st.at) (pred_head s' st.at) (pred_head-same st.at)
        (pred_if_rep left (λ b t. expr_at left names s b t) (λ b t. expr_at left names s' b t) (λ t. pred_at left names s t) (λ t. pred_at left names s' t) (λ b t. expr_rep left b t) (λ t. pred_rep left t) st (pred_head s st.at) (pred_says names s bytes st.at))

  -- ---- formulas

  rep_pick : {A : Type 0} (p : ℕ) (c : Bool) (x x' y y' : Got A) → Rep m p x x' → Rep m p y y' → Rep m p (pick c x y) (pick c x' y')
  rep_pick p true x x' y y' h k = h
  rep_pick p false x x' y y' h k = k

  target-by_rep : (st : St) (w : Option (ℕ × Place)) → TargetSays names s st.at.0 w → Rep m st.at.0 (target_by st w) (target_by st w)
  unfolding target_by TargetSays at_fault
  target-by_rep st None x = rep_bad Target m st.at.0 (Malformed st.at) (omega arith)
  target-by_rep st (Some (n, e)) x = rep_own Target m e st _ _ (let i = x.1.ends in omega arith) (λ t. rep_ok m t.at.0 t _ (omega arith))

  target_rep : (st : St) → Rep m st.at.0 (target_in names s st) (target_in names s' st)
  unfolding target_in
  target_rep st = by-head st (target_by st) (target_by st) (target_at names s st.at) (target_at names s' st.at) (target-same st.at) (target-by_rep st (target_at names s st.at) (target-says names s bytes st.at))

  targets_rep : (n : ℕ) (st : St) → Rep m st.at.0 (targets_at names s n st) (targets_at names s' n st)
  unfolding targets_at
  targets_rep n st = rep_many m [] ◌∷◌ (target_in names s) (target_in names s') target_rep n st

  pair_rep : (st : St) → Rep m st.at.0 (pair_in max_depth names s st) (pair_in max_depth names s' st)
  unfolding pair_in
  pair_rep st = rep_then m st.at.0 (target_in names s st) (target_in names s' st) _ _ (target_rep st) (λ a t. rep_last m t.at.0 (expr_at max_depth names s false t) (expr_at max_depth names s' false t) _ (expr_rep max_depth false t))

  pairs_rep : (n : ℕ) (st : St) → Rep m st.at.0 (pairs_at max_depth names s n st) (pairs_at max_depth names s' n st)
  unfolding pairs_at
  pairs_rep n st = rep_many m [] ◌∷◌ (pair_in max_depth names s) (pair_in max_depth names s') pair_rep n st

  -- an assignment, read on from t
  becomes_rep : (n : ℕ) (t : St) (p k : ℕ) → p ≤ t.at.0 → (f : Fault Place) → p ≤ at_fault f → (r : ℕ) → Rep m p
      (pick (eqb k 0x30) (and_then (pairs_at max_depth names s (suc n) t) λ xs st₁. ok st₁ (becomes r xs))
      (pick (eqb k 0x31) (and_then (target_in names s t) λ a st₁. and_then (targets_at names s n st₁) λ ts st₂. and_then (expr_at max_depth names s false st₂) λ b st₃. ok st₃ (becomes_in r a ts b))
      (pick (eqb k 0x32) (and_then (targets_at names s (suc n) t) λ ts st₁. and_then (decls_at names s max_depth (suc n) st₁) λ ds st₂. and_then (pred_at max_depth names s st₂) λ q st₃. ok st₃ (becomes_such r ts ds q)) (bad f))))
      (pick (eqb k 0x30) (and_then (pairs_at max_depth names s' (suc n) t) λ xs st₁. ok st₁ (becomes r xs))
      (pick (eqb k 0x31) (and_then (target_in names s' t) λ a st₁. and_then (targets_at names s' n st₁) λ ts st₂. and_then (expr_at max_depth names s' false st₂) λ b st₃. ok st₃ (becomes_in r a ts b))
      (pick (eqb k 0x32) (and_then (targets_at names s' (suc n) t) λ ts st₁. and_then (decls_at names s' max_depth (suc n) st₁) λ ds st₂. and_then (pred_at max_depth names s' st₂) λ q st₃. ok st₃ (becomes_such r ts ds q)) (bad f))))
  becomes_rep n t p k h f l r =
      rep_pick p (eqb k 0x30) _ _ _ _ (rep_low m p t.at.0 _ _ h (rep_last m t.at.0 (pairs_at max_depth names s (suc n) t) (pairs_at max_depth names s' (suc n) t) (becomes r) (pairs_rep (suc n) t)))
      (rep_pick p (eqb k 0x31) _ _ _ _ (rep_low m p t.at.0 _ _ h (rep_then m t.at.0 (target_in names s t) (target_in names s' t) _ _ (target_rep t) (λ a u. rep_then m u.at.0 (targets_at names s n u) (targets_at names s' n u) _ _ (targets_rep n u) (λ ts v. rep_last m v.at.0 (expr_at max_depth names s false v) (expr_at max_depth names s' false v) (becomes_in r a ts) (expr_rep max_depth false v)))))
      (rep_pick p (eqb k 0x32) _ _ _ _ (rep_low m p t.at.0 _ _ h (rep_then m t.at.0 (targets_at names s (suc n) t) (targets_at names s' (suc n) t) _ _ (targets_rep (suc n) t) (λ ts u. rep_then m u.at.0 (decls_at names s max_depth (suc n) u) (decls_at names s' max_depth (suc n) u) _ _ (decls_rep max_depth (suc n) u) (λ ds v. rep_last m v.at.0 (pred_at max_depth names s v) (pred_at max_depth names s' v) (becomes_such r ts ds) (pred_rep max_depth v)))))
      (rep_bad Formula m p f l)))

  becomes-by_rep : (n : ℕ) (e : Place) (st : St) (k : ℕ) → st.at.0 ≤ e.0 → Rep m st.at.0 (becomes_by max_depth names s n e st k) (becomes_by max_depth names s' n e st k)
  unfolding becomes_by moved at_fault
  becomes-by_rep zero e st k h = rep_bad Formula m st.at.0 (Malformed st.at) (omega arith)
  becomes-by_rep (suc n) e st k h = becomes_rep n (record { at = e; slots = st.slots; opened = st.opened }) st.at.0 k h (Malformed st.at) (omega arith) st.at.0

  few-ends : (p : Place) (n : ℕ) (e : Place) → few_at s p ≡ Some (n, e) → p.0 ≤ e.0
  unfolding few_at on_part
  few-ends p n e = go (byte_at s p) refl
    where
      on : (b : ℕ) (q : Place) → byte_at s p ≡ Some (b, q) → (c : Bool) → pick {A = Option (ℕ × Place)} c (Some (b, q)) None ≡ Some (n, e) → p.0 ≤ e.0
      on b q k true h = rw (← (same_part b n q e h).1) (byte_ends s p b q k)
      on b q k false h = absurd (let z : ◌≡◌ {A = ℕ} 0 1 = cc in omega arith)

      go : (x : Option (ℕ × Place)) → byte_at s p ≡ x → (on_part {A = Option (ℕ × Place)} None x λ b q. pick (leb 1 b) (Some (b, q)) None) ≡ Some (n, e) → p.0 ≤ e.0
      go None k h = absurd (let z : ◌≡◌ {A = ℕ} 0 1 = cc in omega arith)
      go (Some (b, q)) k h = on b q k (leb 1 b) h

  by-few : (st : St) (k : ℕ) (p : Place) → st.at.0 ≤ p.0 → (b : Option (ℕ × Place)) → few_at s p ≡ b → Rep m st.at.0 (on_part (bad (Malformed st.at)) b λ n e. becomes_by max_depth names s n e st k) (on_part (bad (Malformed st.at)) b λ n e. becomes_by max_depth names s' n e st k)
  unfolding on_part at_fault
  by-few st k p h None i = rep_bad Formula m st.at.0 (Malformed st.at) (omega arith)
  by-few st k p h (Some (n, e)) i = becomes-by_rep n e st k (let j = few-ends p n e i in omega arith)

  becomes-at_rep : (st : St) (k : ℕ) (p : Place) → st.at.0 ≤ p.0 → p.0 ≤ st.at.0 + 1 → Rep m st.at.0 (becomes_at names s st k p) (becomes_at names s' st k p)
  unfolding becomes_at
  becomes-at_rep st k p h l =
      by-head st (λ (b : Option (ℕ × Place)). on_part (bad (Malformed st.at)) b λ n e. becomes_by max_depth names s n e st k) (λ (b : Option (ℕ × Place)). on_part (bad (Malformed st.at)) b λ n e. becomes_by max_depth names s' n e st k) (few_at s p) (few_at s' p) (λ i. few-same p (omega arith)) (by-few st k p h (few_at s p) refl)

  root_rep : (st : St) (k : ℕ) (p : Place) → st.at.0 ≤ p.0 → p.0 ≤ st.at.0 + 1 → Rep m st.at.0 (root_by names s st k p) (root_by names s' st k p)
  unfolding root_by
  root_rep st k p h l =
      rep_pick st.at.0 (ltb k 0x20) _ _ _ _ (rep_last m st.at.0 (expr_at levels names s false st) (expr_at levels names s' false st) expression (expr_rep levels false st))
      (rep_pick st.at.0 (ltb k 0x30) _ _ _ _ (rep_last m st.at.0 (pred_at levels names s st) (pred_at levels names s' st) predicate (pred_rep levels st)) (becomes-at_rep st k p h l))

  by_byte : (st : St) (b : Option (ℕ × Place)) → byte_at s st.at ≡ b → Rep m st.at.0 (on_part (bad (Malformed st.at)) b (root_by names s st)) (on_part (bad (Malformed st.at)) b (root_by names s' st))
  unfolding on_part at_fault
  by_byte st None i = rep_bad Formula m st.at.0 (Malformed st.at) (omega arith)
  by_byte st (Some (k, p)) i = root_rep st k p (byte_ends s st.at k p i) (byte_most s st.at k p i)

  formula_rep : (st : St) → Rep m st.at.0 (formula_at names s st) (formula_at names s' st)
  unfolding formula_at
  formula_rep st = by-head st (λ (b : Option (ℕ × Place)). on_part (bad (Malformed st.at)) b (root_by names s st)) (λ (b : Option (ℕ × Place)). on_part (bad (Malformed st.at)) b (root_by names s' st)) (byte_at s st.at) (byte_at s' st.at) (λ i. byte_same st.at (omega arith)) (by_byte st (byte_at s st.at) refl)

  finish-self : (st : St) (a : Formula) (c : Bool) → Rep m st.at.0 (pick c (bad (Malformed st.at)) (ok st a)) (pick c (bad (Malformed st.at)) (ok st a))
  unfolding at_fault
  finish-self st a true = rep_bad Formula m st.at.0 (Malformed st.at) (omega arith)
  finish-self st a false = rep_ok m st.at.0 st a (omega arith)

  finish_rep : (st : St) (a : Formula) → Rep m st.at.0 (finish s st a) (finish s' st a)
  unfolding finish
  finish_rep st a = go (dec_le (st.at.0 + 4) m)
    where
      self : (c : Bool) → Rep m st.at.0 (pick c (bad (Malformed st.at)) (ok st a)) (pick c (bad (Malformed st.at)) (ok st a))
      self c = finish-self st a c

      go : Dec (st.at.0 + 4 ≤ m) → Rep m st.at.0 (pick (ltb st.at.0 (length s)) (bad (Malformed st.at)) (ok st a)) (pick (ltb st.at.0 (length s')) (bad (Malformed st.at)) (ok st a))
      go (yes h) = rw (lt-ltb st.at.0 (length s) (omega arith), lt-ltb st.at.0 (length s') (omega arith)) (finish-self st a true)
      go (no h) = rep_far m st.at.0 _ _ _ (omega arith) (self (ltb st.at.0 (length s)))

  whole_rep : Rep m 0 (whole names s) (whole names s')
  unfolding whole
  whole_rep = rep_then m 0 (formula_at names s start) (formula_at names s' start) _ _ (formula_rep start) (λ f st. finish_rep st f)

  by_whole : (f : Fault Place) → at_fault f + 4 ≤ m → (g g' : Got Formula) → Rep m 0 g g' → parsed_by g ≡ faulty f → parsed_by g' ≡ faulty f
  unfolding Rep parsed_by
  by_whole f h (ok t a) g' r e = absurd (let z : ◌≡◌ {A = ℕ} 0 1 = cc in omega arith)
  by_whole f h (bad x) g' r e =
      let z : x ≡ f = cc in
      let i : at_fault x + 4 ≤ m = rw z h in
      rw (r.1 i) e

  -- the same fault
  pub fault-stays : (f : Fault Place) → at_fault f + 4 ≤ m → length s ≤ max_bytes → length s' ≤ max_bytes → parse_of names s ≡ faulty f → parse_of names s' ≡ faulty f
  unfolding parse_of
  fault-stays f h l l' e =
      let e' : parsed_by (whole names s) ≡ faulty f = sym (rw (le-ltb max_bytes (length s) l)) ∙ e in
      rw (le-ltb max_bytes (length s') l') (by_whole f h (whole names s) (whole names s') whole_rep e')
