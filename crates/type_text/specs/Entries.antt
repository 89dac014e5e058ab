-- What the two entries promise, through `number_of`, `place_of` and `length_of`: refusals leave the page, successes change nothing outside what they
-- wrote, number 2 means a bad table or position, the reader's answer is the parse's, and reading what was written gives the record back.
use Rattle.std.specs.Prelude.{ℕ, ◌+◌, ◌-◌, ◌≤◌, ◌<◌, ◌≢◌, Bool, take, drop, eqb, Ok, Err}
use native.Mathlib.Omega.{arith}
use Rattle.std.proofs.Common.{◌∙◌, subst, drop_at, length-take-le}
use Rattle.std.proofs.Math.Path.{◌≡◌, refl, sym, ap}
use Rattle.std.proofs.Math.Bool.{true, false}
use mathlib.Core.List.{List, [], ◌++◌, append-nil}
use Rattle.std.proofs.Math.ListN.{length}
use Rattle.std.proofs.Math.Seq.{take-append_seam, drop-length}
use Rattle.std.proofs.Math.Dec.{leb}
use borrow.Author.Tests.{eq-eqb, eqb-true, le-leb, lt-leb, leb-true, leb-false}
use Rattle.types.specs.Ty.{Ty, spell, depth, Below}
use Rattle.types.specs.Record.{pick, TypeAt, got, malformed, deep, and_then, type_at}
use Rattle.types.specs.Spellings.{Bytes, read-stands, spelled-is-read}
use Rattle.name_table.specs.Table.{names, good_table}
use Rattle.name_table.specs.Laws.{Usable, table-usable, good-is-table}
use Rattle.type_grammar.specs.Text.{text, nest}
use Rattle.type_grammar.specs.Grammar.{Denotes, whole}
use Rattle.type_grammar.specs.Parse.{product_of, ends_at, parse}
use Rattle.type_grammar.specs.Reads.{whole-is-read, denoted_is-read}
use Rattle.type_grammar.specs.Accepts.{and_first, ends-got, accepted_denotes}
use Rattle.type_grammar.proofs.Canonical.{text-denotes}
use Rattle.type_grammar.specs.Places.{misfit, too_deep, verdict, judged, place_rule}
use Rattle.type_text.specs.declared.Refusal.TheVariants.{Bad, At, NoRoom}
use Rattle.types.specs.declared.Fault.TheVariants as F
use Rattle.type_text.specs.Answer.{Answer, number_of, written_by, write_answer, written_page, write_page, read_by, read_answer, record_page, read_page}

-- ---- a refusal leaves the page as it was

refused_record : (page : List ℕ) (a : Answer) (x : TypeAt) → number_of a ≢ 0 → record_page page a x ≡ page
unfolding record_page
refused_record page (Ok n) x h = absurd (h refl)
refused_record page (Err Bad) x h = refl
refused_record page (Err (At (F.Malformed p))) x h = refl
refused_record page (Err (At (F.Beyond p))) x h = refl
refused_record page (Err NoRoom) x h = refl

pub read-refused : (s tab page : List ℕ) → number_of (read_answer s tab page) ≢ 0 → read_page s tab page ≡ page
unfolding read_page
read-refused s tab page h = refused_record page (read_answer s tab page) (product_of 33 (names tab) s 0) h

refused-text : (ns : List (List ℕ)) (page : List ℕ) (pos : ℕ) (a : Answer) (x : TypeAt) → number_of a ≢ 0 → written_page ns page pos a x ≡ page
unfolding written_page
refused-text ns page pos (Ok n) x h = absurd (h refl)
refused-text ns page pos (Err Bad) x h = refl
refused-text ns page pos (Err (At (F.Malformed p))) x h = refl
refused-text ns page pos (Err (At (F.Beyond p))) x h = refl
refused-text ns page pos (Err NoRoom) x h = refl

pub write_refused : (r tab page : List ℕ) (pos : ℕ) → number_of (write_answer r tab page pos) ≢ 0 → write_page r tab page pos ≡ page
unfolding write_page
write_refused r tab page pos h = refused-text (names tab) page pos (write_answer r tab page pos) (type_at 65 (length (names tab)) r 0) h

-- ---- the reader's answer, by the parse

-- a text that denotes t, where room bytes are left for the record
unfoldable pub answered : ℕ → TypeAt → Answer
answered room (malformed p) = Err (At (F.Malformed p))
answered room (deep p) = Err (At (F.Beyond p))
answered room (got t e) = pick (leb (depth t) 64) (pick (leb (length (spell t)) room) (Ok (length (spell t))) (Err NoRoom)) (Err (At (F.Beyond 0)))

by_end : (n room : ℕ) (t : Ty) (e : ℕ) (b : Bool) → eqb e n ≡ b → read_by n room (got t e) ≡ answered room (ends_at n t e)
unfolding read_by answered ends_at
by_end n room t e true h = rw h
by_end n room t e false h = rw h

by-parse : (n room : ℕ) (x : TypeAt) → read_by n room x ≡ answered room (and_then x (ends_at n))
unfolding and_then read_by answered
by-parse n room (got t e) = by_end n room t e (eqb e n) refl
by-parse n room (malformed p) = refl
by-parse n room (deep p) = refl

module _ (s tab page : List ℕ) where
  -- 2 exactly for a bad table
  pub read-bad : good_table tab ≡ false → read_answer s tab page ≡ Err Bad
  unfolding read_answer
  read-bad h = rw h

  pub read-by-parse : good_table tab ≡ true → read_answer s tab page ≡ answered (length page) (parse (names tab) s)
  unfolding read_answer parse
  read-by-parse h = rw h (by-parse (length s) (length page) (product_of 33 (names tab) s 0))

  not_bad : (x : TypeAt) (room : ℕ) → answered room x ≢ Err Bad
  unfolding answered
  not_bad (malformed p) room e = let z : ◌≡◌ {A = ℕ} 0 1 = cc in omega arith
  not_bad (deep p) room e = let z : ◌≡◌ {A = ℕ} 0 1 = cc in omega arith
  not_bad (got t q) room e = go (leb (depth t) 64) (leb (length (spell t)) room) e
    where
      go : (a b : Bool) → pick a (pick b (Ok (length (spell t))) (Err NoRoom)) (Err (At (F.Beyond 0))) ≡ Err Bad → ⊥
      go true true h = let z : ◌≡◌ {A = ℕ} 0 1 = cc in omega arith
      go true false h = let z : ◌≡◌ {A = ℕ} 0 1 = cc in omega arith
      go false b h = let z : ◌≡◌ {A = ℕ} 0 1 = cc in omega arith

  pub bad-read : read_answer s tab page ≡ Err Bad → good_table tab ≡ false
  bad-read e = go (good_table tab) refl
    where
      go : (b : Bool) → good_table tab ≡ b → b ≡ false
      go true h = absurd (not_bad (parse (names tab) s) (length page) (sym (read-by-parse h) ∙ e))
      go false h = refl

  -- what was read: the text denotes a type of depth at most 64, whose record now stands at the page's start, all else unchanged
  pub record WasRead (n : ℕ) : Type 0 where
    pub good : good_table tab ≡ true
    pub type : Ty
    pub denotes : Denotes (names tab) whole 32 s type
    pub shallow : depth type ≤ 64
    pub count : n ≡ length (spell type)
    pub fits : n ≤ length page
    pub written : read_page s tab page ≡ spell type ++ drop n page

  answered-done : (room n : ℕ) (x : TypeAt) → answered room x ≡ Ok n → (t : Ty) × (e : ℕ) × (x ≡ got t e) × (depth t ≤ 64) × (n ≡ length (spell t)) × (n ≤ room)
  unfolding answered
  answered-done room n (malformed p) e = absurd (let z : ◌≡◌ {A = ℕ} 0 1 = cc in omega arith)
  answered-done room n (deep p) e = absurd (let z : ◌≡◌ {A = ℕ} 0 1 = cc in omega arith)
  answered-done room n (got t q) e = go (leb (depth t) 64) refl (leb (length (spell t)) room) refl e
    where
      go : (a : Bool) → leb (depth t) 64 ≡ a → (b : Bool) → leb (length (spell t)) room ≡ b → pick a (pick b (Ok (length (spell t))) (Err NoRoom)) (Err (At (F.Beyond 0))) ≡ Ok n → (u : Ty) × (f : ℕ) × (got t q ≡ got u f) × (depth u ≤ 64) × (n ≡ length (spell u)) × (n ≤ room)
      go true g true h k = let z : n ≡ length (spell t) = cc in (t, q, refl, leb-true (depth t) 64 g, z, omega (arith, leb-true (length (spell t)) room h))
      go true g false h k = absurd (let z : ◌≡◌ {A = ℕ} 0 1 = cc in omega arith)
      go false g b h k = absurd (let z : ◌≡◌ {A = ℕ} 0 1 = cc in omega arith)

  good-done : (n : ℕ) → read_answer s tab page ≡ Ok n → good_table tab ≡ true
  good-done n e = go (good_table tab) refl
    where
      go : (b : Bool) → good_table tab ≡ b → b ≡ true
      go true h = refl
      go false h = absurd (let y = read-bad h in let z : ◌≡◌ {A = ℕ} 0 1 = cc in omega arith)

  read-leaves : (n : ℕ) (t : Ty) (e : ℕ) → read_answer s tab page ≡ Ok n → product_of 33 (names tab) s 0 ≡ got t e → n ≡ length (spell t) → read_page s tab page ≡ spell t ++ drop n page
  unfolding read_page record_page
  read-leaves n t e h g c = rw (h, g, c)

  pub was_read : (n : ℕ) → read_answer s tab page ≡ Ok n → WasRead n
  unfolding parse
  was_read n h =
      let good = good-done n h in
      let r = answered-done (length page) n (parse (names tab) s) (sym (read-by-parse good) ∙ h) in
      let first = and_first (product_of 33 (names tab) s 0) (ends_at (length s)) r.0 r.1 r.2 in
      let ends = ends-got (length s) first.0 first.1 r.0 r.1 first.3 in
      record {
        good = good;
        type = r.0;
        denotes = (accepted_denotes (names tab) s r.0 r.1 r.2).1;
        shallow = r.3;
        count = r.4;
        fits = r.5;
        written = read-leaves n r.0 first.1 h (first.2 ∙ ap (λ (u : Ty). got u first.1) ends.1) r.4;
      }

  pub is_read : good_table tab ≡ true → (t : Ty) → Denotes (names tab) whole 32 s t → depth t ≤ 64 → length (spell t) ≤ length page → read_answer s tab page ≡ Ok (length (spell t))
  unfolding answered
  is_read good t w d room =
      read-by-parse good
      ∙ rw (denoted_is-read (names tab) (table-usable tab (names tab) (good-is-table tab good)) s t w, le-leb (depth t) 64 d, le-leb (length (spell t)) (length page) room)

-- ---- the writer

left_over : (ns : List (List ℕ)) (n room k : ℕ) (x : TypeAt) → written_by ns n room x ≡ Ok k → (t : Ty) × (x ≡ got t n) × (k ≡ length (text ns t)) × (k ≤ room)
unfolding written_by
left_over ns n room k (malformed p) h = absurd (let z : ◌≡◌ {A = ℕ} 0 1 = cc in omega arith)
left_over ns n room k (deep p) h = absurd (let z : ◌≡◌ {A = ℕ} 0 1 = cc in omega arith)
left_over ns n room k (got t e) h = go (eqb e n) refl (leb (length (text ns t)) room) refl h
  where
    go : (a : Bool) → eqb e n ≡ a → (b : Bool) → leb (length (text ns t)) room ≡ b → pick a (pick b (Ok (length (text ns t))) (Err NoRoom)) (Err (At (F.Malformed e))) ≡ Ok k → (u : Ty) × (got t e ≡ got u n) × (k ≡ length (text ns u)) × (k ≤ room)
    go true f true g i = let z : k ≡ length (text ns t) = cc in (t, ap (got t) (eqb-true e n f), z, omega (arith, leb-true (length (text ns t)) room g))
    go true f false g i = absurd (let z : ◌≡◌ {A = ℕ} 0 1 = cc in omega arith)
    go false f b g i = absurd (let z : ◌≡◌ {A = ℕ} 0 1 = cc in omega arith)

module _ (r tab page : List ℕ) (pos : ℕ) where
  pub write_bad-table : good_table tab ≡ false → write_answer r tab page pos ≡ Err Bad
  unfolding write_answer
  write_bad-table h = rw h

  pub write_bad_position : length page < pos → write_answer r tab page pos ≡ Err Bad
  unfolding write_answer
  write_bad_position h = go (good_table tab)
    where
      go : (b : Bool) → pick b (pick (leb pos (length page)) (written_by (names tab) (length r) (length page - pos) (type_at 65 (length (names tab)) r 0)) (Err Bad)) (Err Bad) ≡ Err Bad
      go true = rw (lt-leb pos (length page) h)
      go false = refl

  pub write_by_record : good_table tab ≡ true → pos ≤ length page → write_answer r tab page pos ≡ written_by (names tab) (length r) (length page - pos) (type_at 65 (length (names tab)) r 0)
  unfolding write_answer
  write_by_record g h = rw (g, le-leb pos (length page) h)

  -- what was written: the record spells a type of depth at most 64 and of known names; its text now stands at the position, all else unchanged
  pub record WasWritten (n : ℕ) : Type 0 where
    pub good : good_table tab ≡ true
    pub type : Ty
    pub spells : r ≡ spell type
    pub below : Below (length (names tab)) type
    pub shallow : depth type ≤ 64
    pub count : n ≡ length (text (names tab) type)
    pub fits : pos + n ≤ length page
    pub written : write_page r tab page pos ≡ take pos page ++ (text (names tab) type ++ drop (pos + n) page)

  good_position : (n : ℕ) → write_answer r tab page pos ≡ Ok n → (good_table tab ≡ true) × (pos ≤ length page)
  good_position n e = go (good_table tab) refl (leb pos (length page)) refl
    where
      go : (a : Bool) → good_table tab ≡ a → (b : Bool) → leb pos (length page) ≡ b → (good_table tab ≡ true) × (pos ≤ length page)
      go true h true g = (h, leb-true pos (length page) g)
      go true h false g = absurd (let y = write_bad_position (leb-false pos (length page) g) in let z : ◌≡◌ {A = ℕ} 0 1 = cc in omega arith)
      go false h b g = absurd (let y = write_bad-table h in let z : ◌≡◌ {A = ℕ} 0 1 = cc in omega arith)

  write_leaves : (n : ℕ) (t : Ty) (e : ℕ) → write_answer r tab page pos ≡ Ok n → type_at 65 (length (names tab)) r 0 ≡ got t e → n ≡ length (text (names tab) t) → write_page r tab page pos ≡ take pos page ++ (text (names tab) t ++ drop (pos + n) page)
  unfolding write_page written_page
  write_leaves n t e h g c = rw (h, g, c)

  pub was_written : Bytes r → (n : ℕ) → write_answer r tab page pos ≡ Ok n → WasWritten n
  was_written w n h =
      let g = good_position n h in
      let x = left_over (names tab) (length r) (length page - pos) n (type_at 65 (length (names tab)) r 0) (sym (write_by_record g.0 g.1) ∙ h) in
      let st = read-stands 65 (length (names tab)) r w 0 x.0 (length r) x.1 in
      record {
        good = g.0;
        type = x.0;
        spells = st.bytes ∙ ap (λ (l : List ℕ). spell x.0 ++ l) (drop-length r) ∙ append-nil (spell x.0);
        below = st.below;
        shallow = let z = st.shallow in omega arith;
        count = x.2;
        fits = let z = g.1 in let y = x.3 in omega arith;
        written = write_leaves n x.0 (length r) h x.1 x.2;
      }

module _ (tab : List ℕ) (good : good_table tab ≡ true) (t : Ty) (below : Below (length (names tab)) t) (page : List ℕ) where
  -- the writer takes the record of every type of depth at most 64 and of known names
  pub is-written : (pos : ℕ) → depth t ≤ 64 → pos + length (text (names tab) t) ≤ length page → write_answer (spell t) tab page pos ≡ Ok (length (text (names tab) t))
  unfolding written_by
  is-written pos d room =
      let z : 0 + length (spell t) ≡ length (spell t) = omega arith in
      write_by_record (spell t) tab page pos good (omega arith)
      ∙ rw (
        spelled-is-read (length (names tab)) (spell t) t below 65 0 [] (omega arith) (sym (append-nil (spell t))),
        z,
        eq-eqb (length (spell t)) (length (spell t)) refl,
        le-leb (length (text (names tab) t)) (length page - pos) (omega arith),
      )

  -- the reader takes the canonical text of every type inside both depth limits
  pub text-is-taken : nest t ≤ 32 → depth t ≤ 64 → length (spell t) ≤ length page → read_answer (text (names tab) t) tab page ≡ Ok (length (spell t))
  text-is-taken n d room = is_read (text (names tab) t) tab page good t (text-denotes (names tab) t below 32 n) d room

  -- so reading what was written gives the record back
  pub round_trip : (pos : ℕ) (other : List ℕ) → nest t ≤ 32 → depth t ≤ 64 → pos + length (text (names tab) t) ≤ length page → length (spell t) ≤ length other
      → read_page (take (length (text (names tab) t)) (drop pos (write_page (spell t) tab page pos))) tab other ≡ spell t ++ drop (length (spell t)) other
  round_trip pos other n d room space =
      let ns = names tab in
      let x = text ns t in
      let stands = spelled-is-read (length ns) (spell t) t below 65 0 [] (omega arith) (sym (append-nil (spell t))) in
      let w : write_page (spell t) tab page pos ≡ take pos page ++ (x ++ drop (pos + length x) page) =
      write_leaves (spell t) tab page pos (length x) t (0 + length (spell t)) (is-written pos d room) stands refl in
      let back : take (length x) (drop pos (write_page (spell t) tab page pos)) ≡ x =
      ap (λ (l : List ℕ). take (length x) (drop pos l)) w
      ∙ ap (take (length x)) (drop_at (take pos page) (x ++ drop (pos + length x) page) pos (length-take-le pos page (omega arith)))
      ∙ take-append_seam x (drop (pos + length x) page) in
      let den = text-denotes ns t below 32 n in
      ap (λ (l : List ℕ). read_page l tab other) back
      ∙ read-leaves x tab other (length (spell t)) t (length x) (is_read x tab other good t den d space)
      (whole-is-read ns (table-usable tab ns (good-is-table tab good)) 32 x t den) refl

-- ---- the reader's answer, whole

-- each answer exactly when its condition is the first to hold: a bad table; a token that does not fit or an operand under 33 brackets, whichever
-- the place rule meets; a type deeper than 64; a record longer than the page
pub data Answers (s tab page : List ℕ) : Answer → Type 0 where
  table-bad : good_table tab ≡ false → Answers s tab page (Err Bad)
  token_misfits : {p : ℕ} → good_table tab ≡ true → verdict (names tab) s ≡ misfit p → Answers s tab page (Err (At (F.Malformed p)))
  nested_deep : {p : ℕ} → good_table tab ≡ true → verdict (names tab) s ≡ too_deep p → Answers s tab page (Err (At (F.Beyond p)))
  type-deep : {t : Ty} → good_table tab ≡ true → Denotes (names tab) whole 32 s t → 64 < depth t → Answers s tab page (Err (At (F.Beyond 0)))
  page-short : {t : Ty} → good_table tab ≡ true → Denotes (names tab) whole 32 s t → depth t ≤ 64 → length page < length (spell t) → Answers s tab page (Err NoRoom)
  record_laid : {t : Ty} → good_table tab ≡ true → Denotes (names tab) whole 32 s t → depth t ≤ 64 → length (spell t) ≤ length page → Answers s tab page (Ok (length (spell t)))

judged-misfit : (ns : List (List ℕ)) (u : Usable ns) (s : List ℕ) (x : TypeAt) (p : ℕ) → judged ns u s x ≡ misfit p → x ≡ malformed p
unfolding judged
judged-misfit ns u s (got t e) p h = absurd (let z : ◌≡◌ {A = ℕ} 0 1 = cc in omega arith)
judged-misfit ns u s (malformed q) p h = ap malformed (let z : q ≡ p = cc in z)
judged-misfit ns u s (deep q) p h = absurd (let z : ◌≡◌ {A = ℕ} 0 1 = cc in omega arith)

judged-deep : (ns : List (List ℕ)) (u : Usable ns) (s : List ℕ) (x : TypeAt) (p : ℕ) → judged ns u s x ≡ too_deep p → x ≡ deep p
unfolding judged
judged-deep ns u s (got t e) p h = absurd (let z : ◌≡◌ {A = ℕ} 0 1 = cc in omega arith)
judged-deep ns u s (malformed q) p h = absurd (let z : ◌≡◌ {A = ℕ} 0 1 = cc in omega arith)
judged-deep ns u s (deep q) p h = ap deep (let z : q ≡ p = cc in z)

module _ (s tab page : List ℕ) where
  module _ (good : good_table tab ≡ true) where
    usable : Usable (names tab)
    usable = table-usable tab (names tab) (good-is-table tab good)

    refused-misfit : (p : ℕ) → verdict (names tab) s ≡ misfit p → Err (At (F.Malformed p)) ≡ read_answer s tab page
    unfolding answered
    refused-misfit p v = sym (read-by-parse s tab page good ∙ rw (judged-misfit (names tab) usable s (parse (names tab) s) p (place_rule (names tab) usable s ∙ v)))

    refused-deep : (p : ℕ) → verdict (names tab) s ≡ too_deep p → Err (At (F.Beyond p)) ≡ read_answer s tab page
    unfolding answered
    refused-deep p v = sym (read-by-parse s tab page good ∙ rw (judged-deep (names tab) usable s (parse (names tab) s) p (place_rule (names tab) usable s ∙ v)))

    module _ (t : Ty) (w : Denotes (names tab) whole 32 s t) where
      refused-type : 64 < depth t → Err (At (F.Beyond 0)) ≡ read_answer s tab page
      unfolding answered
      refused-type d = sym (read-by-parse s tab page good ∙ rw (denoted_is-read (names tab) usable s t w, lt-leb (depth t) 64 d))

      refused-page : depth t ≤ 64 → length page < length (spell t) → Err NoRoom ≡ read_answer s tab page
      unfolding answered
      refused-page d l = sym (read-by-parse s tab page good ∙ rw (denoted_is-read (names tab) usable s t w, le-leb (depth t) 64 d, lt-leb (length (spell t)) (length page) l))

    answers_by : (x : TypeAt) → parse (names tab) s ≡ x → Answers s tab page (answered (length page) x)
    unfolding answered judged
    answers_by (malformed p) e = token_misfits {p = p} good (sym (place_rule (names tab) usable s) ∙ rw e)
    answers_by (deep p) e = nested_deep {p = p} good (sym (place_rule (names tab) usable s) ∙ rw e)
    answers_by (got t q) e = pass (leb (depth t) 64) refl (leb (length (spell t)) (length page)) refl (accepted_denotes (names tab) s t q e).1
      where
        pass : (a : Bool) → leb (depth t) 64 ≡ a → (b : Bool) → leb (length (spell t)) (length page) ≡ b → Denotes (names tab) whole 32 s t → Answers s tab page (pick a (pick b (Ok (length (spell t))) (Err NoRoom)) (Err (At (F.Beyond 0))))
        pass true h true g w = record_laid good w (leb-true (depth t) 64 h) (leb-true (length (spell t)) (length page) g)
        pass true h false g w = page-short good w (leb-true (depth t) 64 h) (leb-false (length (spell t)) (length page) g)
        pass false h b g w = type-deep good w (leb-false (depth t) 64 h)

  pub answers_one : (a : Answer) → Answers s tab page a → a ≡ read_answer s tab page
  answers_one (Err Bad) (table-bad b) = sym (read-bad s tab page b)
  answers_one (Err (At (F.Malformed p))) (token_misfits good v) = refused-misfit good p v
  answers_one (Err (At (F.Beyond p))) (nested_deep good v) = refused-deep good p v
  answers_one (Err (At (F.Beyond p))) (type-deep {t} good w d) = refused-type good t w d
  answers_one (Err NoRoom) (page-short {t} good w d l) = refused-page good t w d l
  answers_one (Ok n) (record_laid {t} good w d l) = sym (is_read s tab page good t w d l)

  pub read-answers : Answers s tab page (read_answer s tab page)
  read-answers = pass (good_table tab) refl
    where
      pass : (b : Bool) → good_table tab ≡ b → Answers s tab page (read_answer s tab page)
      pass true h = subst (λ (a : Answer). Answers s tab page a) (sym (read-by-parse s tab page h)) (answers_by h (parse (names tab) s) refl)
      pass false h = subst (λ (a : Answer). Answers s tab page a) (sym (read-bad s tab page h)) (table-bad h)
