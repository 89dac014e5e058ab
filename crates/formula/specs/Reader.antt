-- What one record does to the reader's state: the slot it owns, the declaration it opens, the type it holds.
-- A fault passes through everything that would come after it.
use Rattle.std.specs.Prelude.{ℕ, zero, suc, ◌+◌, List, ltb, eqb, Result, Ok, Err}
use Rattle.types.specs.declared.Place.{Place}
use Rattle.types.specs.Ty.{Ty}
use Rattle.types.specs.Record.{TypeAt, got, malformed, deep, type_at}
use Rattle.formula.specs.declared.St.{St}
use Rattle.types.specs.declared.Fault.{Fault}
use Rattle.types.specs.declared.Fault.TheVariants.{Malformed, Beyond}
use Rattle.formula.specs.Tree.{Spelling, spells, no_type}
use Rattle.heads.specs.Heads.{pick, place, byte_at, on_part}
use Rattle.types.specs.Limits.{max_slots, max_opened}

-- what the code answers: the state after a reading, or its first fault
abbrev pub Out : Type 0
Out = Result St (Fault Place)

-- how the code answers it: the state stands where it was lent, or there is a fault
unfoldable pub stood : Result Unit (Fault Place) → St → Out
stood (Ok u) st = Ok st
stood (Err f) st = Err f

-- ---- reading: a value and the state after it, or the first fault

pub data Got (A : Type 0) : Type 0 where
  ok : St → A → Got A
  bad : Fault Place → Got A

unfoldable pub and_then : {A B : Type 0} → Got A → (A → St → Got B) → Got B
and_then (ok st a) k = k a st
and_then (bad f) k = bad f

-- what is left when the value is forgotten
unfoldable pub forget : {A : Type 0} → Got A → Out
forget (ok st a) = Ok st
forget (bad f) = Err f

-- reading goes on after an outcome
unfoldable pub after : {A : Type 0} → Out → (St → Got A) → Out
after (Ok st) m = forget (m st)
after (Err f) m = Err f

unfoldable pub on_next : {A : Type 0} → Out → (St → Got A) → Got A
on_next (Ok st) k = k st
on_next (Err f) k = bad f

-- n things, one after the other, joined by cons
unfoldable pub many : {A B : Type 0} → B → (A → B → B) → (St → Got A) → ℕ → St → Got B
many nil cons m zero st = ok st nil
many nil cons m (suc n) st = and_then (m st) λ a st₁. and_then (many nil cons m n st₁) λ b st₂. ok st₂ (cons a b)

-- ---- the state

-- the state at another place
unfoldable pub moved : Place → St → St
moved e st = record { at = e; slots = st.slots; opened = st.opened }

-- a record that owns a slot, and whose head ends at e
unfoldable pub own_of : Place → St → Out
own_of e st =
    pick (ltb st.slots max_slots)
    (Ok (record { at = e; slots = st.slots + 1; opened = st.opened }))
    (Err (Beyond st.at))

-- a declaration owns a slot and is open from here on
unfoldable pub declare_of : Place → St → Out
declare_of e st =
    pick (ltb st.opened max_opened)
    (pick (ltb st.slots max_slots)
    (Ok (record { at = e; slots = st.slots + 1; opened = st.opened + 1 }))
    (Err (Beyond st.at)))
    (Err (Beyond st.at))

-- at a binder's end its declarations are closed: as many are open as before it
unfoldable pub closed : ℕ → St → St
closed opened st = record { at = st.at; slots = st.slots; opened = opened }

unfoldable pub closing : {A : Type 0} → ℕ → Got A → Got A
closing opened (ok st a) = ok (closed opened st) a
closing opened (bad f) = bad f

unfoldable pub closed_of : ℕ → Out → Out
closed_of opened (Ok st) = Ok (closed opened st)
closed_of opened (Err f) = Err f

-- ---- types

unfoldable pub type_got : TypeAt → St → Got Ty
type_got (got t e) st = ok (moved (place e) st) t
type_got (malformed p) st = bad (Malformed (place p))
type_got (deep p) st = bad (Beyond (place p))

-- a type in at most `left` levels of records
unfoldable pub type_in : ℕ → List ℕ → ℕ → St → Got Ty
type_in names s left st = type_got (type_at left names s st.at.0) st

unfoldable pub read_no_type : ℕ → Place → St → Got Spelling
read_no_type zero e st = bad (Beyond st.at)
read_no_type (suc left) e st = ok (moved e st) no_type

unfoldable pub spelled_in : ℕ → List ℕ → ℕ → St → Got Spelling
spelled_in names s left st = and_then (type_in names s left st) λ t st₁. ok st₁ (spells t)

-- a type, or 4F
unfoldable pub spelling_in : ℕ → List ℕ → ℕ → St → Got Spelling
spelling_in names s left st = on_part (spelled_in names s left st) (byte_at s st.at) λ k e. pick (eqb k 0x4F) (read_no_type left e st) (spelled_in names s left st)
