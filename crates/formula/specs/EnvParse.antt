-- What the bytes of an environment spell, read entry by entry: its entries, or the first fault.
-- At one entry a byte other than 50, a cut body, a name at or above the count and a name that already has an entry come first, then its type's faults.
-- After this file a reader knows which streams are environments, and what the table of places says.
use Rattle.std.specs.Prelude.{ℕ, zero, suc, ◌+◌, ◌<◌, ◌≡◌, List, [], ◌∷◌, ◌++◌, length, get_or, set, ltb, eqb, Option, Some, None}
use Rattle.types.specs.declared.Place.{Place}
use Rattle.types.specs.Record.{TypeAt, got, malformed, deep, type_at}
use Rattle.types.specs.declared.Fault.TheVariants.{Malformed, Beyond}
use Rattle.formula.specs.Environment.{Entry, lacks, holds, Entries, lookup, spell_entry}
use Rattle.heads.specs.Heads.{pick, place, byte_at, on_part, name_at}
use Rattle.formula.specs.Parse.{Parsed, parsed, too_long, faulty}
use Rattle.types.specs.Limits.{max_bytes, max_depth, max_names}

-- an entry's head: 50 and a name below the count
unfoldable pub entry_at : ℕ → List ℕ → Place → Option (ℕ × Place)
entry_at names s p = on_part None (byte_at s p) λ k q. pick (eqb k 0x50) (name_at names s q) None

-- the type of the name n; k reads on after it
unfoldable pub typed_by : (Entries → ℕ → Parsed Entries) → Entries → ℕ → TypeAt → Parsed Entries
typed_by k seen n (got t f) = k (seen ++ ((n, t) ∷ [])) f
typed_by k seen n (malformed q) = faulty (Malformed (place q))
typed_by k seen n (deep q) = faulty (Beyond (place q))

-- a name that has an entry already is malformed at its second entry
unfoldable pub fresh_by : ℕ → List ℕ → (Entries → ℕ → Parsed Entries) → Entries → ℕ → ℕ → Place → Entry → Parsed Entries
fresh_by names s k seen p n e (holds t) = faulty (Malformed (place p))
fresh_by names s k seen p n e lacks = typed_by k seen n (type_at max_depth names s e.0)

unfoldable pub entry_by : ℕ → List ℕ → (Entries → ℕ → Parsed Entries) → Entries → ℕ → Option (ℕ × Place) → Parsed Entries
entry_by names s k seen p None = faulty (Malformed (place p))
entry_by names s k seen p (Some (n, e)) = fresh_by names s k seen p n e (lookup seen n)

-- the entries from p on, after those seen; turns: as many as there can be
unfoldable pub entries_from : ℕ → ℕ → List ℕ → Entries → ℕ → Parsed Entries
entries_from zero names s seen p = pick (ltb p (length s)) (faulty (Malformed (place p))) (parsed seen)
entries_from (suc turns) names s seen p = pick (ltb p (length s)) (entry_by names s (λ es q. entries_from turns names s es q) seen p (entry_at names s (place p))) (parsed seen)

-- a count of names over the largest counts as the largest
unfoldable pub capped : ℕ → ℕ
capped names = pick (ltb max_names names) max_names names

unfoldable pub environment_of : ℕ → List ℕ → Parsed Entries
environment_of names s = pick (ltb max_bytes (length s)) too_long (entries_from (length s) (capped names) s [] 0)

-- ---- the table of places

-- the cells with the entries es put in, the first of which begins at p: at each name one more than the place of its type
unfoldable pub places_from : ℕ → Entries → List ℕ → List ℕ
places_from p [] cells = cells
places_from p (e ∷ es) cells = places_from (p + length (spell_entry e)) es (set cells e.0 (p + 4))

-- a cell: 0 where the environment lacks the name, else one more than the place of its type
unfoldable pub Cell : ℕ → List ℕ → Entry → ℕ → Type 0
Cell names s lacks w = w ≡ 0
Cell names s (holds t) w = (p : ℕ) × (f : ℕ) × (w ≡ suc p) × (type_at max_depth names s p ≡ got t f)

pub record Table (names : ℕ) (s : List ℕ) (es : Entries) (cells : List ℕ) : Type 0 where
  pub tells : (n : ℕ) → n < max_names → Cell names s (lookup es n) (get_or cells n 0)
