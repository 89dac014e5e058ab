-- The writer's entry, step by step.
use Rattle.std.specs.Prelude.{◌++◌, take, drop, ℕ, ◌-◌, ◌≤◌, ◌<◌, ◌≡◌, Bool, true, false, not, List, length, leb, Option, Some, Ok, Err}
use Rattle.std.proofs.Common.{arith, ◌∙◌}
use Rattle.std.proofs.Math.Path.{refl, sym, ap}
use borrow.Author.Tests.{eq-eqb, ne_eqb, le-leb, lt-leb, leb-true, not-true, not-false}
use Rattle.types.specs.Ty.{Ty}
use Rattle.types.specs.Record.{TypeAt, got, malformed, deep, type_at}
use Rattle.name_table.specs.Table.{names, good_table}
use Rattle.type_grammar.specs.Text.{text}
use Rattle.types.specs.declared.Fault.{Fault}
use Rattle.types.specs.declared.Fault.TheVariants as F
use Rattle.type_text.specs.declared.writer.Measured.{Measured}
use Rattle.type_text.specs.declared.writer.Side.{Side}
use Rattle.type_text.specs.declared.writer.Side.TheVariants.{Plain}
use Rattle.type_text.specs.declared.Refusal.TheVariants.{Bad, At, NoRoom}
use Rattle.std.specs.Option.{is_some}
use Rattle.type_text.specs.Page.{spend_of, spent-over, spent-left, none_is, some_is}
use Rattle.type_text.specs.Measure.{Measure, text_in, in_plain, measured_at, measured_of}
use Rattle.type_text.specs.Put.{Ready, Written, lent-end}
use Rattle.type_text.specs.Answer.{Answer, written_by, write_answer, written_page, write_page}

-- a refusal leaves the page as it was
fault-page : (ns : List (List ℕ)) (page : List ℕ) (pos : ℕ) (f : Fault ℕ) (x : TypeAt) → page ≡ written_page ns page pos (Err (At f)) x
unfolding written_page
fault-page ns page pos (F.Malformed p) x = refl
fault-page ns page pos (F.Beyond p) x = refl

-- what measuring found stands there
measured_type : (ns : List (List ℕ)) (room : Option ℕ) (x : TypeAt) (o : Measured) → Ok o ≡ measured_of ns Plain room x → (t : Ty) × (x ≡ got t o.end) × (o.room ≡ spend_of room (length (text ns t)))
unfolding measured_of
measured_type ns room (malformed p) o h = absurd (let z : ◌≡◌ {A = ℕ} 0 1 = cc in omega arith)
measured_type ns room (deep p) o h = absurd (let z : ◌≡◌ {A = ℕ} 0 1 = cc in omega arith)
measured_type ns room (got t f) o h =
    let is : o ≡ measured_at f (spend_of room (length (text_in ns Plain t))) = cc in
    (t, ap (λ (x : Measured). got t x.end) (sym is), ap (λ (x : Measured). x.room) is ∙ ap (λ (x : List ℕ). spend_of room (length x)) (sym (in_plain ns t)))

-- a fault that it found is the answer
measured_fault : (ns : List (List ℕ)) (side : Side) (room : Option ℕ) (n left : ℕ) (x : TypeAt) (f : Fault ℕ) → Err f ≡ measured_of ns side room x → Err (At f) ≡ written_by ns n left x
unfolding measured_of written_by
measured_fault ns side room n left (malformed q) f h = let a : f ≡ F.Malformed q = cc in rw a
measured_fault ns side room n left (deep q) f h = let a : f ≡ F.Beyond q = cc in rw a
measured_fault ns side room n left (got t e) f h = absurd (let z : ◌≡◌ {A = ℕ} 0 1 = cc in omega arith)

module _ (r tab page : List ℕ) (pos : ℕ) where
  -- an answer, and the page that goes with it
  ends : (a : Answer) (new : List ℕ) → a ≡ write_answer r tab page pos → new ≡ written_page (names tab) page pos a (type_at 65 (length (names tab)) r 0) → (a ≡ write_answer r tab page pos) × (new ≡ write_page r tab page pos)
  unfolding write_page
  ends a new h g = (h, g ∙ ap (λ (x : Answer). written_page (names tab) page pos x (type_at 65 (length (names tab)) r 0)) h)

  module _ (g : Bool) (eg : g ≡ good_table tab) where
    pub write_table : not g ≡ true → (Err Bad ≡ write_answer r tab page pos) × (page ≡ write_page r tab page pos)
    unfolding write_answer written_page
    write_table h = ends (Err Bad) page (sym (rw (sym eg ∙ not-true g h))) refl

    module _ (hg : not g ≡ false) where
      pub write_position : length page < pos → (Err Bad ≡ write_answer r tab page pos) × (page ≡ write_page r tab page pos)
      unfolding write_answer written_page
      write_position h = ends (Err Bad) page (sym (rw (sym eg ∙ not-false g hg, lt-leb pos (length page) h))) refl

      module _ (hp : pos ≤ length page) (count : ℕ) (ec : count ≡ length (names tab)) (m : Measure) (em : m ≡ measured_of (names tab) Plain (Some (length page - pos)) (type_at 65 count r 0)) where
        at_count : type_at 65 count r 0 ≡ type_at 65 (length (names tab)) r 0
        at_count = ap (λ (n : ℕ). type_at 65 n r 0) ec

        measured : m ≡ measured_of (names tab) Plain (Some (length page - pos)) (type_at 65 (length (names tab)) r 0)
        measured = em ∙ ap (measured_of (names tab) Plain (Some (length page - pos))) at_count

        answer-is : write_answer r tab page pos ≡ written_by (names tab) (length r) (length page - pos) (type_at 65 (length (names tab)) r 0)
        unfolding write_answer
        answer-is = rw (sym eg ∙ not-false g hg, le-leb pos (length page) hp)

        pub write_fault : (f : Fault ℕ) (a : Answer) → m ≡ Err f → a ≡ Err (At f) → (a ≡ write_answer r tab page pos) × (page ≡ write_page r tab page pos)
        write_fault f a h ea =
            ends a page (ea ∙ measured_fault (names tab) Plain (Some (length page - pos)) (length r) (length page - pos) (type_at 65 (length (names tab)) r 0) f (sym h ∙ measured) ∙ sym answer-is)
            (rw ea (fault-page (names tab) page pos f (type_at 65 (length (names tab)) r 0)))

        module _ (x : Measured) (h : m ≡ Ok x) where
          stands : (t : Ty) × (type_at 65 (length (names tab)) r 0 ≡ got t x.end) × (x.room ≡ spend_of (Some (length page - pos)) (length (text (names tab) t)))
          stands = measured_type (names tab) (Some (length page - pos)) (type_at 65 (length (names tab)) r 0) x (sym h ∙ measured)

          pub write_left-over : (x.end ≡ length r → ⊥) → (Err (At (F.Malformed x.end)) ≡ write_answer r tab page pos) × (page ≡ write_page r tab page pos)
          unfolding written_page written_by
          write_left-over n = ends (Err (At (F.Malformed x.end))) page (sym (answer-is ∙ rw (stands.1, ne_eqb x.end (length r) n))) refl

          module _ (he : x.end ≡ length r) where
            pub write_no_room : is_some x.room ≡ false → (Err NoRoom ≡ write_answer r tab page pos) × (page ≡ write_page r tab page pos)
            unfolding written_page written_by
            write_no_room o =
                ends (Err NoRoom) page (sym (answer-is ∙ rw (stands.1, eq-eqb x.end (length r) he, spent-over _ _ (sym (none_is x.room o) ∙ stands.2)))) refl

            module _ (o : is_some x.room ≡ true) where
              room : leb (length (text (names tab) stands.0)) (length page - pos) ≡ true
              room = let k = some_is x.room o in spent-left _ _ k.0 (sym k.1 ∙ stands.2)

              pub write_ready : Ready (names tab) count r 0 65 Plain pos (length page)
              write_ready =
                  record {
                    type = stands.0;
                    end = x.end;
                    stands = at_count ∙ stands.1;
                    fits = omega (arith, leb-true (length (text (names tab) stands.0)) (length page - pos) room, ap length (in_plain (names tab) stands.0));
                  }

              pub write_done : (part : List ℕ) (f n : ℕ) → Written (names tab) count r 0 65 Plain 0 (take (length page - pos) (drop pos page)) part f n → (Ok n ≡ write_answer r tab page pos) × (take pos page ++ (part ++ drop (length page - pos) (drop pos page)) ≡ write_page r tab page pos)
              unfolding written_page written_by Written text_in
              write_done part f n w =
                  let s = (lent-end page write_ready part f n w stands.0 x.end (at_count ∙ stands.1)).1 in
                  ends (Ok n) _ (sym (answer-is ∙ rw (stands.1, eq-eqb x.end (length r) he, room, ← s.count))) (s.page ∙ sym (rw stands.1))
