-- The reader's entry, step by step.
use Rattle.std.specs.Prelude.{ℕ, ◌+◌, ◌≤◌, ◌<◌, min, ◌≡◌, Bool, true, false, not, List, leb, Option, Some, Ok, Err}
use native.Mathlib.Omega.{arith}
use Rattle.std.proofs.Math.Path.{refl, ap}
use Rattle.std.proofs.Common.{sym, ◌∙◌}
use Rattle.std.proofs.Math.ListN.{length}
use borrow.Author.Tests.{eq-eqb, ne_eqb, le-leb, lt-leb, leb-true, not-true, not-false}
use Rattle.types.specs.Ty.{Ty, spell, depth}
use Rattle.types.specs.Record.{TypeAt, got, malformed, deep}
use Rattle.name_table.specs.Table.{names, good_table}
use Rattle.type_grammar.specs.Parse.{product_of}
use Rattle.types.specs.declared.Fault.{Fault}
use Rattle.types.specs.declared.Fault.TheVariants as F
use Rattle.type_text.specs.declared.Refusal.TheVariants.{Bad, At, NoRoom}
use Rattle.type_text.specs.declared.reader.Scanned.{Scanned}
use Rattle.std.specs.Option.{is_some}
use Rattle.type_text.specs.Page.{spend_of, spent-over, spent-left, none_is, some_is}
use Rattle.type_text.specs.Scan.{Scan, scanned_of, type-malformed, type-deep, type-got}
use Rattle.type_text.specs.Lay.{LayReady, Laid}
use Rattle.type_text.specs.Answer.{Answer, read_by, read_answer, record_page, read_page}

-- a refusal leaves the page as it was
fault-page : (page : List ℕ) (f : Fault ℕ) (x : TypeAt) → page ≡ record_page page (Err (At f)) x
unfolding record_page
fault-page page (F.Malformed p) x = refl
fault-page page (F.Beyond p) x = refl

scanned_type : (room : Option ℕ) (x : TypeAt) (o : Scanned) → Ok o ≡ scanned_of room x → (t : Ty) × (x ≡ got t o.end) × (o.depth ≡ min (depth t) 65) × (o.room ≡ spend_of room (length (spell t)))
scanned_type room (malformed p) o h = absurd (type-malformed room o p h)
scanned_type room (deep p) o h = absurd (type-deep room o p h)
scanned_type room (got t f) o h = let w = type-got room t f o h in (t, ap (got t) (sym w.0), w.1, w.2)

scanned_fault : (room : Option ℕ) (n left : ℕ) (x : TypeAt) (f : Fault ℕ) → Err f ≡ scanned_of room x → Err (At f) ≡ read_by n left x
unfolding scanned_of read_by
scanned_fault room n left (malformed q) f h = let a : f ≡ F.Malformed q = cc in rw a
scanned_fault room n left (deep q) f h = let a : f ≡ F.Beyond q = cc in rw a
scanned_fault room n left (got t e) f h = absurd (let z : ◌≡◌ {A = ℕ} 0 1 = cc in omega arith)

module _ (s tab page : List ℕ) where
  -- an answer, and the page that goes with it
  ends : (a : Answer) (new : List ℕ) → a ≡ read_answer s tab page → new ≡ record_page page a (product_of 33 (names tab) s 0) → (a ≡ read_answer s tab page) × (new ≡ read_page s tab page)
  unfolding read_page
  ends a new h g = (h, g ∙ ap (λ (x : Answer). record_page page x (product_of 33 (names tab) s 0)) h)

  module _ (g : Bool) (eg : g ≡ good_table tab) where
    pub read_table : not g ≡ true → (Err Bad ≡ read_answer s tab page) × (page ≡ read_page s tab page)
    unfolding read_answer record_page
    read_table h = ends (Err Bad) page (sym (rw (sym eg ∙ not-true g h))) refl

    module _ (hg : not g ≡ false) (at left : ℕ) (ec : (at ≡ 0) × (left ≡ 33)) (m : Scan) (em : m ≡ scanned_of (Some (length page)) (product_of left (names tab) s at)) where
      at_start : product_of left (names tab) s at ≡ product_of 33 (names tab) s 0
      at_start = ap (λ (x : ℕ). product_of left (names tab) s x) ec.0 ∙ ap (λ (x : ℕ). product_of x (names tab) s 0) ec.1

      found : m ≡ scanned_of (Some (length page)) (product_of 33 (names tab) s 0)
      found = em ∙ ap (scanned_of (Some (length page))) at_start

      answer-is : read_answer s tab page ≡ read_by (length s) (length page) (product_of 33 (names tab) s 0)
      unfolding read_answer
      answer-is = rw (sym eg ∙ not-false g hg)

      pub read-stop : (f : Fault ℕ) (a : Answer) → m ≡ Err f → a ≡ Err (At f) → (a ≡ read_answer s tab page) × (page ≡ read_page s tab page)
      read-stop f a h ea =
          ends a page (ea ∙ scanned_fault (Some (length page)) (length s) (length page) (product_of 33 (names tab) s 0) f (sym h ∙ found) ∙ sym answer-is)
          (rw ea (fault-page page f (product_of 33 (names tab) s 0)))

      module _ (x : Scanned) (h : m ≡ Ok x) where
        stands : (t : Ty) × (product_of 33 (names tab) s 0 ≡ got t x.end) × (x.depth ≡ min (depth t) 65) × (x.room ≡ spend_of (Some (length page)) (length (spell t)))
        stands = scanned_type (Some (length page)) (product_of 33 (names tab) s 0) x (sym h ∙ found)

        pub read-left-over : (x.end ≡ length s → ⊥) → (Err (At (F.Malformed x.end)) ≡ read_answer s tab page) × (page ≡ read_page s tab page)
        unfolding record_page read_by
        read-left-over n = ends (Err (At (F.Malformed x.end))) page (sym (answer-is ∙ rw (stands.1, ne_eqb x.end (length s) n))) refl

        module _ (he : x.end ≡ length s) where
          pub read-deep : 64 < x.depth → (Err (At (F.Beyond 0)) ≡ read_answer s tab page) × (page ≡ read_page s tab page)
          unfolding record_page read_by
          read-deep n = ends (Err (At (F.Beyond 0))) page (sym (answer-is ∙ rw (stands.1, eq-eqb x.end (length s) he, lt-leb (depth stands.0) 64 (omega (arith, stands.2))))) refl

          module _ (hd : x.depth ≤ 64) where
            shallow : leb (depth stands.0) 64 ≡ true
            shallow = le-leb (depth stands.0) 64 (omega (arith, stands.2))

            pub read_no_room : is_some x.room ≡ false → (Err NoRoom ≡ read_answer s tab page) × (page ≡ read_page s tab page)
            unfolding record_page read_by
            read_no_room o = ends (Err NoRoom) page (sym (answer-is ∙ rw (stands.1, eq-eqb x.end (length s) he, shallow, spent-over _ _ (sym (none_is x.room o) ∙ stands.3)))) refl

            module _ (o : is_some x.room ≡ true) where
              fits : leb (length (spell stands.0)) (length page) ≡ true
              fits = let k = some_is x.room o in spent-left _ _ k.0 (sym k.1 ∙ stands.3)

              pub read-ready : LayReady (product_of left (names tab) s at) 0 (length page)
              read-ready =
                  record {
                    type = stands.0;
                    end = x.end;
                    stands = at_start ∙ stands.1;
                    fits = omega (arith, leb-true (length (spell stands.0)) (length page) fits);
                  }

              pub read_done : (new : List ℕ) (f n : ℕ) → Laid (product_of left (names tab) s at) 0 page new f n → (Ok n ≡ read_answer s tab page) × (new ≡ read_page s tab page)
              unfolding record_page read_by Laid
              read_done new f n w =
                  let st : product_of left (names tab) s at ≡ got stands.0 x.end = at_start ∙ stands.1 in
                  let z = (w stands.0 x.end st).1 in
                  let y : 0 + length (spell stands.0) ≡ length (spell stands.0) = omega arith in
                  ends (Ok n) new (sym (answer-is ∙ rw (stands.1, eq-eqb x.end (length s) he, shallow, fits, ← z.count))) (z.page ∙ rw y (sym (rw stands.1)))
