-- What the text entries answer, and the page after them.
-- `number_of`, `place_of` and `length_of` are the one definition of each answer's number, place and length.
use Rattle.std.specs.Prelude.{ℕ, ◌+◌, ◌-◌, List, ◌++◌, length, take, drop, leb, eqb, Ok, Err, Result}
use Rattle.types.specs.Limits.{levels, max_depth}
use Rattle.types.specs.Ty.{spell, depth}
use Rattle.types.specs.Record.{pick, TypeAt, got, malformed, deep, type_at}
use Rattle.name_table.specs.Table.{names, good_table}
use Rattle.type_grammar.specs.Text.{text}
use Rattle.type_grammar.specs.Parse.{product_of}
use Rattle.types.specs.declared.Fault.TheVariants as F
use Rattle.type_text.specs.declared.Refusal.{Refusal}
use Rattle.type_text.specs.declared.Refusal.TheVariants.{Bad, At, NoRoom}

-- the bytes written, or why nothing was
abbrev pub Answer : Type 0
Answer = Result ℕ Refusal

abbrev pub number_of : Answer → ℕ
number_of (Ok n) = 0
number_of (Err Bad) = 2
number_of (Err (At (F.Malformed p))) = 4
number_of (Err (At (F.Beyond p))) = 5
number_of (Err NoRoom) = 8

abbrev pub place_of : Answer → ℕ
place_of (Ok n) = 0
place_of (Err Bad) = 0
place_of (Err (At (F.Malformed p))) = p
place_of (Err (At (F.Beyond p))) = p
place_of (Err NoRoom) = 0

-- the bytes written
abbrev pub length_of : Answer → ℕ
length_of (Ok n) = n
length_of (Err Bad) = 0
length_of (Err (At (F.Malformed p))) = 0
length_of (Err (At (F.Beyond p))) = 0
length_of (Err NoRoom) = 0

-- ---- the writer: 2 for the table or the position, then the record's fault, then 8

-- a record of n bytes in all, where room bytes are left for its text; left-over bytes are malformed at the first
unfoldable pub written_by : List (List ℕ) → ℕ → ℕ → TypeAt → Answer
written_by ns n room (malformed p) = Err (At (F.Malformed p))
written_by ns n room (deep p) = Err (At (F.Beyond p))
written_by ns n room (got t e) =
    pick (eqb e n) (pick (leb (length (text ns t)) room) (Ok (length (text ns t))) (Err NoRoom)) (Err (At (F.Malformed e)))

-- a type on its own may be 64 deep: 65 levels of records
unfoldable pub write_answer : List ℕ → List ℕ → List ℕ → ℕ → Answer
write_answer r table page pos =
    pick (good_table table)
    (pick (leb pos (length page)) (written_by (names table) (length r) (length page - pos) (type_at levels (length (names table)) r 0)) (Err Bad))
    (Err Bad)

-- the page after: the text stands from the position on if all is done; else nothing has changed
unfoldable pub written_page : List (List ℕ) → List ℕ → ℕ → Answer → TypeAt → List ℕ
written_page ns page pos (Ok n) (got t e) = take pos page ++ (text ns t ++ drop (pos + length (text ns t)) page)
written_page ns page pos (Ok n) (malformed p) = page
written_page ns page pos (Ok n) (deep p) = page
written_page ns page pos (Err Bad) x = page
written_page ns page pos (Err (At (F.Malformed p))) x = page
written_page ns page pos (Err (At (F.Beyond p))) x = page
written_page ns page pos (Err NoRoom) x = page

unfoldable pub write_page : List ℕ → List ℕ → List ℕ → ℕ → List ℕ
write_page r table page pos = written_page (names table) page pos (write_answer r table page pos) (type_at levels (length (names table)) r 0)

-- ---- the reader: 2 for the table, then the text's fault, then 5 at place 0 for a type deeper than 64, then 8

-- a text of n bytes in all, where room bytes are left for the record
unfoldable pub read_by : ℕ → ℕ → TypeAt → Answer
read_by n room (malformed p) = Err (At (F.Malformed p))
read_by n room (deep p) = Err (At (F.Beyond p))
read_by n room (got t e) =
    pick (eqb e n)
    (pick (leb (depth t) max_depth) (pick (leb (length (spell t)) room) (Ok (length (spell t))) (Err NoRoom)) (Err (At (F.Beyond 0))))
    (Err (At (F.Malformed e)))

unfoldable pub read_answer : List ℕ → List ℕ → List ℕ → Answer
read_answer s table page =
    pick (good_table table) (read_by (length s) (length page) (product_of 33 (names table) s 0)) (Err Bad)

-- the page after: the record stands at its start if all is done; else nothing has changed
unfoldable pub record_page : List ℕ → Answer → TypeAt → List ℕ
record_page page (Ok n) (got t e) = spell t ++ drop (length (spell t)) page
record_page page (Ok n) (malformed p) = page
record_page page (Ok n) (deep p) = page
record_page page (Err Bad) x = page
record_page page (Err (At (F.Malformed p))) x = page
record_page page (Err (At (F.Beyond p))) x = page
record_page page (Err NoRoom) x = page

unfoldable pub read_page : List ℕ → List ℕ → List ℕ → List ℕ
read_page s table page = record_page page (read_answer s table page) (product_of 33 (names table) s 0)
