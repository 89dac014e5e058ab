-- The answer's bytes: where the finish finds every type, the machine writes the 50 and 51 entries that inference says, or has no room for them.
-- After this file a reader knows the output after a formula that is typed.
use Prim.Native.Nat.{ℕ, suc, ◌+◌, ◌/◌, ◌%◌, ◌≤◌, ◌<◌}
use Rattle.std.proofs.Math.Path.{◌≡◌, sym, ap, ap₂, subst}
use Rattle.std.specs.Prelude.{refl, Bool, length, get_or}
use Rattle.std.proofs.Common.{◌∙◌}
use mathlib.Core.List.{List, [], ◌∷◌, ◌++◌}
use native.Mathlib.Omega.{arith}
use Rattle.meter.specs.Meter.{Out, done, ret, within_le}
use Rattle.types.specs.Ty.{Ty, spell, Below}
use Rattle.formula.specs.Environment.{Env, spell_entry, spell_entries}
use Rattle.unification.specs.Arena.{U, read}
use Rattle.unification.specs.Ops.{Bench}
use Rattle.unification.specs.Put.{bind_inv, bytes-spell}
use Rattle.unification.specs.Put as Put
use Rattle.walk.specs.Writer.{Row}
use Rattle.inference.specs.Answer.{Problem, two, four, spell_slot, spell_slots}
use Rattle.inference.specs.Finish.{Question, Findings, ask, names, Outcome, typed, failed, settled, test_slots, walk_problems, finish}
use Rattle.inference.specs.Finish as F
use Rattle.inference.proofs.Cost.{ask_metered}
use Rattle.forms.specs.Forms.{then}
use Rattle.machine.specs.Machine.{Mach, cell, emit_of, two_of, four_of}
use Rattle.finisher.specs.Finisher.{most, each_of, spell_of, entry_of, type_of, finish_of, write_names_of, write_slots_of, write_answer_of}
use Rattle.simulation.specs.Relation.{Wrote, Stands, Listed, Filled}
use Rattle.simulation.specs.Steps.{nil_right}
use Rattle.simulation.specs.Output.{spoken, Spoke, assoc, spoke_emit, spoke_start, spoke_two, spoke_four}
use Rattle.conclusion.specs.Bytes.{spell_spoke}
use Rattle.conclusion.specs.Tests.{ended, Stood, stood_as}
use Rattle.conclusion.specs.Finish.{Finished, finish-ends, slots_length}
use Rattle.conclusion.specs.Reads.{Reads, ask-reads}

-- ---- entries as they are written: a name in two bytes
unfoldable pub entry_bytes : ℕ × Ty → List ℕ
entry_bytes e = 0x50 ∷ (two e.0 ++ Put.bytes e.1)

unfoldable pub slot_bytes : ℕ × Ty → List ℕ
slot_bytes s = 0x51 ∷ (four s.0 ++ Put.bytes s.1)

unfoldable pub all : (ℕ × Ty → List ℕ) → List (ℕ × Ty) → List ℕ
all f [] = []
all f (t ∷ ts) = f t ++ all f ts

-- names below 65,536, and types whose given names are
abbrev pub Narrow : List (ℕ × Ty) → Type 0
Narrow [] = Unit {0}
Narrow (e ∷ es) = (e.0 < 65536) × Below 65536 e.1 × Narrow es

abbrev pub Low : List (ℕ × Ty) → Type 0
Low [] = Unit {0}
Low (t ∷ ts) = Below 65536 t.1 × Low ts

half : (x : ℕ) → x < 65536 → x / 256 % 256 ≡ x / 256
half x l = omega arith

-- these are the format's bytes
pub entries-spell : (es : List (ℕ × Ty)) → Narrow es → all entry_bytes es ≡ spell_entries es
unfolding all entry_bytes spell_entries spell_entry two
entries-spell [] h = refl
entries-spell (e ∷ es) h =
    ap₂ (λ (i : ℕ) (l : List ℕ). (0x50 ∷ e.0 % 256 ∷ i ∷ l) ++ all entry_bytes es) (half e.0 h.0) (bytes-spell 65536 (omega arith) e.1 h.1)
    ∙ ap (λ (l : List ℕ). (0x50 ∷ e.0 % 256 ∷ e.0 / 256 ∷ spell e.1) ++ l) (entries-spell es h.2)

pub slots-spell : (ts : List (ℕ × Ty)) → Low ts → all slot_bytes ts ≡ spell_slots ts
unfolding all slot_bytes spell_slots spell_slot
slots-spell [] h = refl
slots-spell (t ∷ ts) h =
    ap₂ (λ (l k : List ℕ). (0x51 ∷ (four t.0 ++ l)) ++ k) (bytes-spell 65536 (omega arith) t.1 h.0) (slots-spell ts h.1)

-- ---- a type after other bytes
spoke_spell : (room : ℕ) (m h : Mach) (Q : List ℕ) → m.st.stop ≡ 0 → Spoke room Q m h → (t : ℕ) (T : Ty) (r : ℕ) → read m.arena m.st.nodes t most ≡ done T r → Spoke room (Q ++ Put.bytes T) m (spell_of t h)
spoke_spell room m h Q g s t T r e =
    let z = spell_spoke room (spoken s.bytes s.over s.out m) g t T r e Q s.wrote in
    record { bytes = z.bytes; over = z.over; out = z.out; is = ap (spell_of t) s.is ∙ z.is; wrote = z.wrote }

-- ---- a row
module _ (room : ℕ) (m : Mach) (f : ℕ → Mach → Mach) (E : ℕ × Ty → List ℕ) where
  -- from number j on, f writes the entries of these questions
  abbrev Writes : ℕ → List Question → Type 0
  Writes j [] = Unit {0}
  Writes j (q ∷ qs) =
      ((n : ℕ) (o : Bool) (out P : List ℕ) (T : Ty) (r : ℕ) → read m.arena m.st.nodes q.ref most ≡ done T r → Wrote room P n o out → Spoke room (P ++ E (q.key, T)) m (f j (spoken n o out m))) × Writes (j + 1) qs

  each_writes : (qs : List Question) (ts : List (ℕ × Ty)) (j n : ℕ) (o : Bool) (out P : List ℕ) → Writes j qs → Reads m.arena m.st.nodes most qs ts → Wrote room P n o out
      → Spoke room (P ++ all E ts) m (each_of f (length qs) j (spoken n o out m))
  unfolding each_of all
  each_writes [] [] j n o out P h r w = record { bytes = n; over = o; out = out; is = refl; wrote = subst (λ (l : List ℕ). Wrote room l n o out) (sym (nil_right P)) w }
  each_writes [] (t ∷ ts) j n o out P h r w = absurd r
  each_writes (q ∷ qs) [] j n o out P h r w = absurd r
  each_writes (q ∷ qs) (t ∷ ts) j n o out P h r w =
      let a : Spoke room (P ++ E (q.key, t.1)) m (f j (spoken n o out m)) = h.0 n o out P t.1 r.1.0 r.1.1 w in
      let b = each_writes qs ts (j + 1) a.bytes a.over a.out (P ++ E (q.key, t.1)) h.1 r.2 a.wrote in
      let c : (P ++ E (q.key, t.1)) ++ all E ts ≡ P ++ (E t ++ all E ts) = assoc P (E (q.key, t.1)) (all E ts) ∙ ap (λ (x : ℕ). P ++ (E (x, t.1) ++ all E ts)) (sym r.0) in
      subst (λ (l : List ℕ). Spoke room l m (each_of f (length qs) (j + 1) (f j (spoken n o out m)))) c
      (record { bytes = b.bytes; over = b.over; out = b.out; is = ap (each_of f (length qs) (j + 1)) a.is ∙ b.is; wrote = b.wrote })

-- ---- what the book's rows write
module _ (Γ : Env) (env : List ℕ) (cap room : ℕ) (m : Mach) (g : m.st.stop ≡ 0) where
  entry_spoke : (j x t : ℕ) → get_or m.book (cell 2048 3 j 0) 0 ≡ x → get_or m.book (cell 2048 3 j 1) 0 ≡ t
      → (n : ℕ) (o : Bool) (out P : List ℕ) (T : Ty) (r : ℕ) → read m.arena m.st.nodes t most ≡ done T r → Wrote room P n o out → Spoke room (P ++ entry_bytes (x, T)) m (entry_of j (spoken n o out m))
  unfolding entry_of then entry_bytes
  entry_spoke j x t ex et n o out P T r e w =
      let m1 : Mach = spoken n o out m in
      let a = spoke_emit room 0x50 (spoken n o out m) (spoken n o out m) P g (spoke_start room (spoken n o out m) P w) in
      let b = spoke_two room x (spoken n o out m) (emit_of 0x50 (spoken n o out m)) (P ++ (0x50 ∷ [])) g a in
      let c = spoke_spell room (spoken n o out m) (two_of x (emit_of 0x50 (spoken n o out m))) ((P ++ (0x50 ∷ [])) ++ two x) g b t T r e in
      let d : ((P ++ (0x50 ∷ [])) ++ two x) ++ Put.bytes T ≡ P ++ (0x50 ∷ (two x ++ Put.bytes T)) = assoc (P ++ (0x50 ∷ [])) (two x) (Put.bytes T) ∙ assoc P (0x50 ∷ []) (two x ++ Put.bytes T) in
      let i : entry_of j (spoken n o out m) ≡ spell_of t (two_of x (emit_of 0x50 (spoken n o out m))) = ap₂ (λ (y u : ℕ). spell_of u (two_of y (emit_of 0x50 (spoken n o out m)))) ex et in
      record { bytes = c.bytes; over = c.over; out = c.out; is = i ∙ c.is; wrote = subst (λ (l : List ℕ). Wrote room l c.bytes c.over c.out) d c.wrote }

  type_spoke : (j t p : ℕ) → get_or m.book (cell 0 2 j 0) 0 ≡ t → get_or m.book (cell 0 2 j 1) 0 ≡ p
      → (n : ℕ) (o : Bool) (out P : List ℕ) (T : Ty) (r : ℕ) → read m.arena m.st.nodes t most ≡ done T r → Wrote room P n o out → Spoke room (P ++ slot_bytes (p, T)) m (type_of j (spoken n o out m))
  unfolding type_of then slot_bytes
  type_spoke j t p et ep n o out P T r e w =
      let a = spoke_emit room 0x51 (spoken n o out m) (spoken n o out m) P g (spoke_start room (spoken n o out m) P w) in
      let b = spoke_four room p (spoken n o out m) (emit_of 0x51 (spoken n o out m)) (P ++ (0x51 ∷ [])) g a in
      let c = spoke_spell room (spoken n o out m) (four_of p (emit_of 0x51 (spoken n o out m))) ((P ++ (0x51 ∷ [])) ++ four p) g b t T r e in
      let d : ((P ++ (0x51 ∷ [])) ++ four p) ++ Put.bytes T ≡ P ++ (0x51 ∷ (four p ++ Put.bytes T)) = assoc (P ++ (0x51 ∷ [])) (four p) (Put.bytes T) ∙ assoc P (0x51 ∷ []) (four p ++ Put.bytes T) in
      let i : type_of j (spoken n o out m) ≡ spell_of t (four_of p (emit_of 0x51 (spoken n o out m))) = ap₂ (λ (u y : ℕ). spell_of u (four_of y (emit_of 0x51 (spoken n o out m)))) et ep in
      record { bytes = c.bytes; over = c.over; out = c.out; is = i ∙ c.is; wrote = subst (λ (l : List ℕ). Wrote room l c.bytes c.over c.out) d c.wrote }

  name_writes : (j : ℕ) (qs : List Question) → Listed Γ env cap room m.book j qs → Writes room m entry_of entry_bytes j qs
  name_writes j [] l = tt
  name_writes j (q ∷ qs) l =
      let j1 : suc j ≡ j + 1 = omega arith in
      (entry_spoke j q.key q.ref l.0 l.1, name_writes (j + 1) qs (subst (λ (i : ℕ). Listed Γ env cap room m.book i qs) j1 l.3))

  slot_writes : (j : ℕ) (ss : List (ℕ × ℕ)) → Filled Γ env cap room m.book j ss → Writes room m type_of slot_bytes j (F.slots ss)
  unfolding F.slots
  slot_writes j [] l = tt
  slot_writes j (s ∷ ss) l =
      let j1 : suc j ≡ j + 1 = omega arith in
      (type_spoke j s.0 s.1 l.0 l.1, slot_writes (j + 1) ss (subst (λ (i : ℕ). Filled Γ env cap room m.book i ss) j1 l.2))

-- ---- the answer
module _ (Γ : Env) (env : List ℕ) (cap room : ℕ) (m : Mach) (b : Bench) (row : Row) (ss : List (ℕ × ℕ))
    (s : Stands Γ env cap room m b) (met : m.st.met ≡ length (names Γ row)) (rows : Listed Γ env cap room m.book 0 (names Γ row)) (u : m.st.slots ≡ length ss) (fl : Filled Γ env cap room m.book 0 ss) where
  -- the machine with r units left: rows, arena and book are the same
  abbrev at_left : ℕ → Mach
  at_left r = ended r m.st.bytes m.st.over m.out m

  names-written : (r : ℕ) (es : List (ℕ × Ty)) (n : ℕ) (o : Bool) (out P : List ℕ) → Reads m.arena m.st.nodes most (names Γ row) es → Wrote room P n o out
      → Spoke room (P ++ all entry_bytes es) (at_left r) (write_names_of (ended r n o out m))
  unfolding write_names_of
  names-written r es n o out P h w = subst (λ (i : ℕ). Spoke room (P ++ all entry_bytes es) (at_left r) (each_of entry_of i 0 (ended r n o out m))) (sym met)
      (each_writes room (at_left r) entry_of entry_bytes (names Γ row) es 0 n o out P (name_writes Γ env cap room (at_left r) s.going 0 (names Γ row) rows) h w)

  slots-written : (r : ℕ) (ts : List (ℕ × Ty)) (n : ℕ) (o : Bool) (out P : List ℕ) → Reads m.arena m.st.nodes most (F.slots ss) ts → Wrote room P n o out
      → Spoke room (P ++ all slot_bytes ts) (at_left r) (write_slots_of (ended r n o out m))
  unfolding write_slots_of
  slots-written r ts n o out P h w = subst (λ (i : ℕ). Spoke room (P ++ all slot_bytes ts) (at_left r) (each_of type_of i 0 (ended r n o out m))) (slots_length ss ∙ sym u)
      (each_writes room (at_left r) type_of slot_bytes (F.slots ss) ts 0 n o out P (slot_writes Γ env cap room (at_left r) s.going 0 ss fl) h w)

  answer-written : (r : ℕ) (es ts : List (ℕ × Ty)) (x : Mach) → Reads m.arena m.st.nodes most (names Γ row) es → Reads m.arena m.st.nodes most (F.slots ss) ts → Stood room m [] r x
      → Stood room m (all entry_bytes es ++ all slot_bytes ts) r (write_answer_of x)
  unfolding write_answer_of then
  answer-written r es ts x h i z =
      let a : Spoke room (all entry_bytes es) (at_left r) (write_names_of (ended r z.bytes z.over z.out m)) = names-written r es z.bytes z.over z.out [] h z.wrote in
      let c : Spoke room (all entry_bytes es ++ all slot_bytes ts) (at_left r) (write_slots_of (ended r a.bytes a.over a.out m)) = slots-written r ts a.bytes a.over a.out (all entry_bytes es) i a.wrote in
      record { bytes = c.bytes; over = c.over; out = c.out; is = ap (λ (y : Mach). write_slots_of (write_names_of y)) z.is ∙ ap write_slots_of a.is ∙ c.is; wrote = c.wrote }

  -- ---- a typed outcome: what its types are
  none_left : (ps qs : List Problem) → ps ++ qs ≡ [] → qs ≡ []
  none_left [] qs e = e
  none_left (p ∷ ps) qs e = let z : ◌≡◌ {A = ℕ} 0 1 = cc in absurd (omega arith)

  abbrev Both : List (ℕ × Ty) → List (ℕ × Ty) → Type 0
  Both es ts = Reads b.words b.count most (names Γ row) es × Reads b.words b.count most (F.slots ss) ts

  settled-typed : (ps : List Problem) (es fs : List (ℕ × Ty)) (ts gs : List (ℕ × Ty)) (r l : ℕ) → ◌≡◌ {A = Out U Outcome} (done (settled ps fs gs) l) (done (typed es ts) r) → (ps ≡ []) × (fs ≡ es) × (gs ≡ ts)
  unfolding settled
  settled-typed [] es fs ts gs r l e = (refl, cc, cc)
  settled-typed (p ∷ ps) es fs ts gs r l e = let z : ◌≡◌ {A = ℕ} 0 1 = cc in absurd (omega arith)

  slots-typed : (L : List Problem) (fs es ts : List (ℕ × Ty)) (l r : ℕ) → l ≤ most → test_slots L fs ss b l ≡ done (typed es ts) r → (L ≡ []) × (fs ≡ es) × Reads b.words b.count most (F.slots ss) ts
  unfolding test_slots ret
  slots-typed [] fs es ts l r h e =
      let v = bind_inv (ask b.words b.count (F.slots ss)) (λ f. ret (settled f.problems fs f.types)) l (typed es ts) r e in
      let q = settled-typed v.0.problems es fs ts v.0.types r v.1 v.3 in
      (refl, q.1, subst (λ (x : List (ℕ × Ty)). Reads b.words b.count most (F.slots ss) x) q.2 (ask-reads b.words b.count most (F.slots ss) l v.0 v.1 h v.2 q.0))
  slots-typed (p ∷ ps) fs es ts l r h e = let z : ◌≡◌ {A = ℕ} 0 1 = cc in absurd (omega arith)

  typed-reads : (es ts : List (ℕ × Ty)) (r : ℕ) → m.st.budget ≤ most → finish Γ row ss b m.st.budget ≡ done (typed es ts) r → Both es ts
  unfolding finish
  typed-reads es ts r h e =
      let v = bind_inv (ask b.words b.count (names Γ row)) (λ f. test_slots (walk_problems b.problems ++ f.problems) f.types ss b) m.st.budget (typed es ts) r e in
      let l : v.1 ≤ m.st.budget = within_le m.st.budget ((ask_metered b.words b.count (names Γ row)).within m.st.budget) v.0 v.1 v.2 in
      let q = slots-typed (walk_problems b.problems ++ v.0.problems) v.0.types es ts v.1 r (omega arith) v.3 in (
        subst (λ (x : List (ℕ × Ty)). Reads b.words b.count most (names Γ row) x) q.1
            (ask-reads b.words b.count most (names Γ row) m.st.budget v.0 v.1 h v.2 (none_left (walk_problems b.problems) v.0.problems q.0)),
        q.2,
      )

  -- the answer of a typed formula is written, or counted as over
  pub written-ends : (es ts : List (ℕ × Ty)) (r : ℕ) → m.st.budget ≤ most → finish Γ row ss b m.st.budget ≡ done (typed es ts) r → Narrow es → Low ts
      → Stood room m (spell_entries es ++ spell_slots ts) r (write_answer_of (finish_of m))
  written-ends es ts r h e ne nt =
      let q = typed-reads es ts r h e in
      let z = subst (λ (o : Out U Outcome). Finished Γ env cap room m b row ss s met rows u fl (finish_of m) o) e (finish-ends Γ env cap room m b row ss s met rows u fl) in
      let q0 : Reads m.arena m.st.nodes most (names Γ row) es = rw (s.words, s.count) q.0 in
      let q1 : Reads m.arena m.st.nodes most (F.slots ss) ts = rw (s.words, s.count) q.1 in
      stood_as room m _ _ r _ (ap₂ (λ (x y : List ℕ). x ++ y) (entries-spell es ne) (slots-spell ts nt)) (answer-written r es ts (finish_of m) q0 q1 z.1)
