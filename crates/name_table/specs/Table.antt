-- Name tables. `Table bytes ns` says what a good table is and which names it numbers: that is what to believe.
-- The rest is what the code computes on any bytes; `specs/Laws` shows that the two agree, both ways.
use Rattle.std.specs.Prelude.{ℕ, zero, suc, ◌+◌, ◌-◌, ◌≤◌, ◌<◌, ◌≡◌, ◌≢◌, Bool, true, false, ◌&&◌, not, Option, Some, None, List, [], ◌∷◌, ◌++◌, length, get_or, take, drop, leb, eqb}
use denote.Ref.{Bor}
use Rattle.types.specs.Limits.{max_bytes, max_names}
use Rattle.name_table.specs.Words.{between, is_word, same}
use Rattle.types.specs.declared.Name.{Name}
use Rattle.name_table.specs.declared.Records.{Records}

-- BOOL: no name of a table
abbrev pub boolean : List ℕ
boolean = 0x42 ∷ 0x4F ∷ 0x4F ∷ 0x4C ∷ []

-- the bytes of a table: each name's record is one byte, 80 and its length, then the name
unfoldable pub table_of : List (List ℕ) → List ℕ
table_of [] = []
table_of (n ∷ ns) = (0x80 + length n) ∷ (n ++ table_of ns)

-- a good table and its names, in the order of their numbers
pub record Table (bytes : List ℕ) (ns : List (List ℕ)) : Type 0 where
  pub spells : bytes ≡ table_of ns
  pub small : length bytes ≤ max_bytes
  pub few : length ns ≤ max_names
  pub word : (k : ℕ) → k < length ns → is_word (get_or ns k []) ≡ true
  pub short : (k : ℕ) → k < length ns → length (get_or ns k []) ≤ 64
  pub unreserved : (k : ℕ) → k < length ns → get_or ns k [] ≢ boolean
  pub distinct : (j k : ℕ) → j < k → k < length ns → get_or ns j [] ≢ get_or ns k []

-- ---- what the code computes of any bytes

-- at most f records: each a kind, and the name behind it
unfoldable pub records_of : ℕ → List ℕ → List (ℕ × List ℕ)
records_of zero l = []
records_of (suc f) [] = []
records_of (suc f) (k ∷ l) = (k, take (k - 128) l) ∷ records_of f (drop (k - 128) l)

abbrev pub records : List ℕ → List (ℕ × List ℕ)
records bytes = records_of (length bytes) bytes

-- what the code's records are still to give, and what each of them says
abbrev pub records_left : Records → List (ℕ × List ℕ)
records_left it = records it.0.now

abbrev pub read_record : ℕ × Bor (List ℕ) → ℕ × List ℕ
read_record r = (r.0, r.1.now)

-- the names of at most f records
unfoldable pub names_of : ℕ → List ℕ → List (List ℕ)
names_of zero l = []
names_of (suc f) [] = []
names_of (suc f) (k ∷ l) = take (k - 128) l ∷ names_of f (drop (k - 128) l)

abbrev pub names : List ℕ → List (List ℕ)
names bytes = names_of max_names bytes

-- the number of a word in a row of names: the first that is the same
abbrev pub at : ℕ → Option Name
at k = Some (record { 0 = k })

unfoldable pub shift : ℕ → Option Name → Option Name
shift i (Some k) = at (i + k.0)
shift i None = None

unfoldable pub seek : Bool → Option Name → Option Name
seek true f = at 0
seek false f = shift 1 f

unfoldable pub find : List (List ℕ) → List ℕ → Option Name
find [] w = None
find (n ∷ ns) w = seek (same n w) (find ns w)

-- name i, in a row whose names are ns, is good, and no earlier one is the same
unfoldable pub is_at : ℕ → Option Name → Bool
is_at i (Some k) = eqb k.0 i
is_at i None = false

unfoldable pub good_name : List (List ℕ) → ℕ → List ℕ → Bool
good_name ns i w = is_word w && (not (same boolean w) && is_at i (find ns w))

-- at most f records, from number i on, are good
unfoldable pub good_on : List (List ℕ) → (ℕ → List ℕ → Bool) → ℕ → List ℕ → Bool
good_on ns more i [] = true
good_on ns more i (k ∷ l) =
    (between 0x81 0xC0 k && leb (k - 128) (length l))
    && (good_name ns i (take (k - 128) l) && more (i + 1) (drop (k - 128) l))

unfoldable pub good_from : List (List ℕ) → ℕ → ℕ → List ℕ → Bool
good_from ns zero i [] = true
good_from ns zero i (k ∷ l) = false
good_from ns (suc f) i l = good_on ns (good_from ns f) i l

unfoldable pub good_table : List ℕ → Bool
good_table bytes = leb (length bytes) max_bytes && good_from (names bytes) max_names 0 bytes

-- w is a part of the bytes: what stands there from some a up to some e
unfoldable pub Part : List ℕ → List ℕ → Type 0
Part bytes w = (a : ℕ) × (e : ℕ) × (a ≤ e) × (e ≤ length bytes) × (take (e - a) (drop a bytes) ≡ w)

-- w is name n and a part of the table, or there is no such name
unfoldable pub Named : List ℕ → ℕ → Option (Bor (List ℕ)) → Type 0
Named bytes n None = length (names bytes) ≤ n
Named bytes n (Some w) = (n < length (names bytes)) × (w.now ≡ get_or (names bytes) n []) × Part bytes w.now
