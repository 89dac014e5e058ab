use Rattle.std.proofs.Common.{◌≡◌, ◌≤◌, ℕ, List, length, take, arith, sym, length-take-le}
use Rattle.form_cases.proofs.entries.Goals as goal

-- the first n bytes of the page
front : (n : ℕ) (page : List ℕ) → length page ≡ 16385 → n ≤ 16385 → n ≡ length (take n page)
front n page e l = sym (length-take-le n page (omega arith))

pub slice_bounds-environment_case-end : goal.slice_bounds-environment_case-end
slice_bounds-environment_case-end g c = front 16320 c.put_entries.new.page c.put_entries.array_long (omega arith)

pub slice_bounds-environment_case-end-3 : goal.slice_bounds-environment_case-end-3
slice_bounds-environment_case-end-3 g c = front 16383 c.put_entries.new.page c.put_entries.array_long (omega arith)

pub slice_bounds-environment_case-end-5 : goal.slice_bounds-environment_case-end-5
slice_bounds-environment_case-end-5 g c = front 16384 c.put_entries.new.page c.put_entries.array_long (omega arith)

pub slice_bounds-environment_case-end-7 : goal.slice_bounds-environment_case-end-7
slice_bounds-environment_case-end-7 g c = front 16384 c.put_entries.new.page c.put_entries.array_long (omega arith)

pub slice_bounds-environment_case-end-9 : goal.slice_bounds-environment_case-end-9
slice_bounds-environment_case-end-9 g c = front 16384 c.put_entries.new.page c.put_entries.array_long (omega arith)
