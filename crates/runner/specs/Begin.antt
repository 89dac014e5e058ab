-- How a walk begins: the environment's types by name in the book.
use Rattle.std.specs.Prelude.{ℕ, zero, suc, ◌+◌, List, get_or}
use Rattle.types.specs.Limits.{max_names}
use Rattle.machine.specs.Machine.{Mach, cell, put_of}

-- the environment's types by name, k of them from x on, into the book
unfoldable pub entered_from : List ℕ → ℕ → ℕ → Mach → Mach
entered_from types x zero m = m
entered_from types x (suc k) m = entered_from types (x + 1) k (put_of (cell 3392 1 x 0) (get_or types x 0) m)

abbrev pub entered_of : List ℕ → Mach → Mach
entered_of types m = entered_from types 0 max_names m
