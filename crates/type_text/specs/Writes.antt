-- The writer's answer, whole: each answer exactly when its condition is the first to hold.
-- The record's faults are told by `Leads` of `types`: everything before the faulty record belongs to a type.
use Rattle.std.specs.Prelude.{ℕ, ◌+◌, ◌-◌, ◌≤◌, ◌<◌, ◌≡◌, ◌≢◌, Bool, List, length, drop, Ok, Err}
use Rattle.std.proofs.Common.{arith, ◌∙◌, subst}
use Rattle.std.proofs.Math.Path.{refl, sym}
use Rattle.std.proofs.Math.Bool.{true, false}
use Rattle.std.proofs.Math.Dec.{leb, eqb}
use borrow.Author.Tests.{eq-eqb, ne_eqb, eqb-true, eqb-false, le-leb, lt-leb, leb-true, leb-false}
use Rattle.types.specs.Ty.{Ty}
use Rattle.types.specs.Record.{pick, TypeAt, got, malformed, deep, head_of, wrong, type_at}
use Rattle.types.specs.Spellings.{Bytes, Stands, read-stands, stands-is-read}
use Rattle.types.specs.Faults.{Leads, level, malformed_means, deep_means, means_malformed, means_deep}
use Rattle.name_table.specs.Table.{names, good_table}
use Rattle.type_grammar.specs.Text.{text}
use Rattle.type_text.specs.declared.Refusal.TheVariants.{Bad, At, NoRoom}
use Rattle.types.specs.declared.Fault.TheVariants as F
use Rattle.type_text.specs.Answer.{Answer, written_by, write_answer}
use Rattle.type_text.specs.Entries.{write_bad-table, write_bad_position, write_by_record}

-- the table is good and the position is in the page
pub record Ready (tab page : List ℕ) (pos : ℕ) : Type 0 where
  pub good : good_table tab ≡ true
  pub inside : pos ≤ length page

pub data Writes (r tab page : List ℕ) (pos : ℕ) : Answer → Type 0 where
  table-bad : good_table tab ≡ false → Writes r tab page pos (Err Bad)
  position_bad : length page < pos → Writes r tab page pos (Err Bad)
  record_malformed : {p : ℕ} → Ready tab page pos → Leads 65 (length (names tab)) r 0 p → head_of (length (names tab)) p (drop p r) ≡ wrong → Writes r tab page pos (Err (At (F.Malformed p)))
  record_deep : {p : ℕ} → Ready tab page pos → (l : Leads 65 (length (names tab)) r 0 p) → level l.way ≡ 65 → head_of (length (names tab)) p (drop p r) ≢ wrong → Writes r tab page pos (Err (At (F.Beyond p)))
  left_over : {t : Ty} {e : ℕ} → Ready tab page pos → Stands 65 (length (names tab)) r 0 t e → e ≢ length r → Writes r tab page pos (Err (At (F.Malformed e)))
  page-short : {t : Ty} → Ready tab page pos → Stands 65 (length (names tab)) r 0 t (length r) → length page < pos + length (text (names tab) t) → Writes r tab page pos (Err NoRoom)
  text-put : {t : Ty} → Ready tab page pos → Stands 65 (length (names tab)) r 0 t (length r) → pos + length (text (names tab) t) ≤ length page → Writes r tab page pos (Ok (length (text (names tab) t)))

module _ (r tab page : List ℕ) (pos : ℕ) where
  module _ (ready : Ready tab page pos) where
    by_record : write_answer r tab page pos ≡ written_by (names tab) (length r) (length page - pos) (type_at 65 (length (names tab)) r 0)
    by_record = write_by_record r tab page pos ready.good ready.inside

    is-malformed : (p : ℕ) → type_at 65 (length (names tab)) r 0 ≡ malformed p → Err (At (F.Malformed p)) ≡ write_answer r tab page pos
    unfolding written_by
    is-malformed p h = sym (by_record ∙ rw h)

    is-deep : (p : ℕ) → type_at 65 (length (names tab)) r 0 ≡ deep p → Err (At (F.Beyond p)) ≡ write_answer r tab page pos
    unfolding written_by
    is-deep p h = sym (by_record ∙ rw h)

    module _ (t : Ty) (e : ℕ) (w : Stands 65 (length (names tab)) r 0 t e) where
      stands : type_at 65 (length (names tab)) r 0 ≡ got t e
      stands = stands-is-read 65 (length (names tab)) r 0 t e w

      is-left-over : e ≢ length r → Err (At (F.Malformed e)) ≡ write_answer r tab page pos
      unfolding written_by
      is-left-over n = sym (by_record ∙ rw (stands, ne_eqb e (length r) n))

      is-short : e ≡ length r → length page < pos + length (text (names tab) t) → Err NoRoom ≡ write_answer r tab page pos
      unfolding written_by
      is-short h l = let i = ready.inside in sym (by_record ∙ rw (stands, eq-eqb e (length r) h, lt-leb (length (text (names tab) t)) (length page - pos) (omega arith)))

      is-put : e ≡ length r → pos + length (text (names tab) t) ≤ length page → Ok (length (text (names tab) t)) ≡ write_answer r tab page pos
      unfolding written_by
      is-put h l = sym (by_record ∙ rw (stands, eq-eqb e (length r) h, le-leb (length (text (names tab) t)) (length page - pos) (omega arith)))

  pub writes_one : (a : Answer) → Writes r tab page pos a → a ≡ write_answer r tab page pos
  writes_one (Err Bad) (table-bad b) = sym (write_bad-table r tab page pos b)
  writes_one (Err Bad) (position_bad b) = sym (write_bad_position r tab page pos b)
  writes_one (Err (At (F.Malformed p))) (record_malformed ready l h) = is-malformed ready p (means_malformed 65 (length (names tab)) r 0 p l h)
  writes_one (Err (At (F.Beyond p))) (record_deep ready l d h) = is-deep ready p (means_deep 65 (length (names tab)) r 0 p l d h)
  writes_one (Err (At (F.Malformed p))) (left_over {t} {e} ready w n) = is-left-over ready t e w n
  writes_one (Err NoRoom) (page-short {t} ready w l) = is-short ready t (length r) w refl l
  writes_one (Ok n) (text-put {t} ready w l) = is-put ready t (length r) w refl l

  writes_by : Bytes r → (ready : Ready tab page pos) (x : TypeAt) → type_at 65 (length (names tab)) r 0 ≡ x → Writes r tab page pos (written_by (names tab) (length r) (length page - pos) x)
  unfolding written_by
  writes_by b ready (malformed p) h = let m = malformed_means 65 (length (names tab)) r b 0 p h in record_malformed {p = p} ready m.0 m.1
  writes_by b ready (deep p) h = let m = deep_means 65 (length (names tab)) r b 0 p h in record_deep {p = p} ready m.0 m.1 m.2
  writes_by b ready (got t e) h = pass (eqb e (length r)) refl (leb (length (text (names tab) t)) (length page - pos)) refl (read-stands 65 (length (names tab)) r b 0 t e h)
    where
      pass : (c : Bool) → eqb e (length r) ≡ c → (d : Bool) → leb (length (text (names tab) t)) (length page - pos) ≡ d → Stands 65 (length (names tab)) r 0 t e → Writes r tab page pos (pick c (pick d (Ok (length (text (names tab) t))) (Err NoRoom)) (Err (At (F.Malformed e))))
      pass true i true j w = let q = ready.inside in text-put ready (subst (λ (f : ℕ). Stands 65 (length (names tab)) r 0 t f) (eqb-true e (length r) i) w) (omega (arith, leb-true (length (text (names tab) t)) (length page - pos) j))
      pass true i false j w = let q = ready.inside in page-short ready (subst (λ (f : ℕ). Stands 65 (length (names tab)) r 0 t f) (eqb-true e (length r) i) w) (omega (arith, leb-false (length (text (names tab) t)) (length page - pos) j))
      pass false i d j w = left_over {t = t} {e = e} ready w (eqb-false e (length r) i)

  pub write_answers : Bytes r → Writes r tab page pos (write_answer r tab page pos)
  write_answers b = pass (good_table tab) refl (leb pos (length page)) refl
    where
      pass : (c : Bool) → good_table tab ≡ c → (d : Bool) → leb pos (length page) ≡ d → Writes r tab page pos (write_answer r tab page pos)
      pass true g true i =
          let ready : Ready tab page pos = record { good = g; inside = leb-true pos (length page) i } in
          subst (λ (a : Answer). Writes r tab page pos a) (sym (by_record ready)) (writes_by b ready (type_at 65 (length (names tab)) r 0) refl)
      pass true g false i = let h = leb-false pos (length page) i in subst (λ (a : Answer). Writes r tab page pos a) (sym (write_bad_position r tab page pos h)) (position_bad h)
      pass false g d i = subst (λ (a : Answer). Writes r tab page pos a) (sym (write_bad-table r tab page pos g)) (table-bad g)
