-- The limits, each once; the code has them at the head of crate `types`. After this file a reader knows where a larger checker begins.
use Rattle.std.specs.Prelude.{ℕ}

-- the bytes of a formula, of an environment or of a name table
abbrev pub max_bytes : ℕ
max_bytes = 16384

-- the deepest record's depth, where the root, an environment's entry or a type on its own has depth 0
abbrev pub max_depth : ℕ
max_depth = 64

-- the levels of records: one more, since the root counts 0
abbrev pub levels : ℕ
levels = 65

abbrev pub max_slots : ℕ
max_slots = 1024

-- declarations open at one place
abbrev pub max_opened : ℕ
max_opened = 64

-- the names that an environment or a table can hold
abbrev pub max_names : ℕ
max_names = 256

-- the nodes of an arena
abbrev pub max_capacity : ℕ
max_capacity = 32768

-- the words of the book, behind the arena's three words a node
abbrev pub book : ℕ
book = 4096
