-- How a walk begins: the machine over words whose book is cleared, with the environment's types entered, is fresh.
use Rattle.std.specs.Prelude.{ℕ, zero, suc, ◌+◌, ◌-◌, ◌*◌, ◌≤◌, ◌<◌, ◌≡◌, refl, List, get_or, take, replicate}
use Rattle.std.proofs.Common.{sym, ◌∙◌, arith, length-set, get_or-set_same, get_or-set_other}
use Rattle.std.proofs.Math.Path.{ap}
use Rattle.std.proofs.Math.Decide.{ℕ_discrete}
use Rattle.std.proofs.Math.ListN.{length, drop}
use Rattle.std.proofs.lemmas.List.{length-replicate, get_or-replicate}
use Rattle.std.proofs.Math.Seq.{length-take-le, take-append_seam, drop-append_seam}
use Rattle.types.specs.Spellings.{Bytes, read-stands}
use Rattle.formula.specs.Environment.{Entry, lacks, holds, Entries, lookup}
use Rattle.formula.specs.EnvParse.{Cell, Table}
use Rattle.types.specs.Limits.{max_names, max_depth}
use Rattle.simulation.specs.Relation.{Entered}
use Rattle.simulation.specs.Decls.{below_up}
use Rattle.simulation.specs.Whole.{Fresh}
use Rattle.machine.specs.State.{State}
use Rattle.machine.specs.Machine.{Mach, mach, cell, put_of}
use Rattle.memory.specs.Memory.{cleared}
use Rattle.runner.specs.Begin.{entered_from, entered_of}
use Rattle.machine.specs.Machine.{start_of}

-- ---- what entering the types does to the book
entered_state : (types : List ℕ) (x k : ℕ) (m : Mach) → (entered_from types x k m).st ≡ m.st
unfolding entered_from put_of
entered_state types x zero m = refl
entered_state types x (suc k) m = entered_state types (x + 1) k _

entered_arena : (types : List ℕ) (x k : ℕ) (m : Mach) → (entered_from types x k m).arena ≡ m.arena
unfolding entered_from put_of
entered_arena types x zero m = refl
entered_arena types x (suc k) m = entered_arena types (x + 1) k _

entered_out : (types : List ℕ) (x k : ℕ) (m : Mach) → (entered_from types x k m).out ≡ m.out
unfolding entered_from put_of
entered_out types x zero m = refl
entered_out types x (suc k) m = entered_out types (x + 1) k _

entered_long : (types : List ℕ) (x k : ℕ) (m : Mach) → length (entered_from types x k m).book ≡ length m.book
unfolding entered_from put_of
entered_long types x zero m = refl
entered_long types x (suc k) m = entered_long types (x + 1) k _ ∙ length-set m.book (cell 3392 1 x 0) (get_or types x 0)

-- below the cells from x on nothing changes
entered_before : (types : List ℕ) (x k : ℕ) (m : Mach) (i : ℕ) → i < cell 3392 1 x 0 → get_or (entered_from types x k m).book i 0 ≡ get_or m.book i 0
unfolding entered_from put_of
entered_before types x zero m i l = refl
entered_before types x (suc k) m i l = entered_before types (x + 1) k _ i (omega arith) ∙ get_or-set_other m.book (cell 3392 1 x 0) i (get_or types x 0) 0 (λ e. omega arith)

entered_at : (types : List ℕ) (x k : ℕ) (m : Mach) → cell 3392 1 (x + k) 0 ≤ length m.book → (j : ℕ) → x ≤ j → j < x + k → get_or (entered_from types x k m).book (cell 3392 1 j 0) 0 ≡ get_or types j 0
unfolding entered_from put_of
entered_at types x zero m long j l h = absurd (omega arith)
entered_at types x (suc k) m long j l h = go (ℕ_discrete j x) (λ q. entered_at types (x + 1) k m' longer j q (omega arith))
  where
    m' : Mach
    m' = put_of (cell 3392 1 x 0) (get_or types x 0) m

    longer : cell 3392 1 (x + 1 + k) 0 ≤ length m'.book
    longer = let e = length-set m.book (cell 3392 1 x 0) (get_or types x 0) in omega arith

    go : Dec (j ≡ x) → (x + 1 ≤ j → get_or (entered_from types (x + 1) k m').book (cell 3392 1 j 0) 0 ≡ get_or types j 0) → get_or (entered_from types (x + 1) k m').book (cell 3392 1 j 0) 0 ≡ get_or types j 0
    go (yes e) rec = ap (λ (i : ℕ). get_or (entered_from types (x + 1) k m').book (cell 3392 1 i 0) 0) e
        ∙ entered_before types (x + 1) k m' (cell 3392 1 x 0) (omega arith)
        ∙ get_or-set_same m.book (cell 3392 1 x 0) (get_or types x 0) 0 (omega arith)
        ∙ ap (λ (i : ℕ). get_or types i 0) (sym e)
    go (no e) rec = rec (omega arith)

-- ---- cleared words: the arena as it was, and a book of zeros
module _ (cap : ℕ) (work : List ℕ) (sized : length work ≡ cap * 3 + 4096) where
  front : length (take (cap * 3) work) ≡ cap * 3
  front = length-take-le (cap * 3) work (omega arith)

  behind : length work - cap * 3 ≡ 4096
  behind = omega arith

  pub cleared-arena : take (cap * 3) (cleared (cap * 3) work) ≡ take (cap * 3) work
  cleared-arena = ap (λ (n : ℕ). take n (cleared (cap * 3) work)) (sym front) ∙ take-append_seam (take (cap * 3) work) (replicate (length work - cap * 3) 0)

  pub cleared-book : drop (cap * 3) (cleared (cap * 3) work) ≡ replicate 4096 0
  cleared-book = ap (λ (n : ℕ). drop n (cleared (cap * 3) work)) (sym front) ∙ drop-append_seam (take (cap * 3) work) (replicate (length work - cap * 3) 0) ∙ ap (λ (n : ℕ). replicate n 0) behind

module _ (es : Entries) (env types : List ℕ) (cap budget : ℕ) (work out : List ℕ) (sized : length work ≡ cap * 3 + 4096) where
  -- the machine that the walk begins with
  abbrev pub begun : Mach
  begun = entered_of types (mach (cap * 3) (start_of budget) (cleared (cap * 3) work) out)

  begun-arena : begun.arena ≡ take (cap * 3) work
  begun-arena = entered_arena types 0 256 (mach (cap * 3) (start_of budget) (cleared (cap * 3) work) out) ∙ cleared-arena cap work sized

  begun-state : begun.st ≡ start_of budget
  begun-state = entered_state types 0 256 (mach (cap * 3) (start_of budget) (cleared (cap * 3) work) out)

  -- the book before the entries' cells is zero, and the cells hold the table
  book-long : length begun.book ≡ 4096
  book-long = entered_long types 0 256 (mach (cap * 3) (start_of budget) (cleared (cap * 3) work) out) ∙ ap length (cleared-book cap work sized) ∙ length-replicate {A = ℕ} 4096 0

  book-zero : (i : ℕ) → i < 3392 → get_or begun.book i 0 ≡ 0
  book-zero i l = entered_before types 0 256 (mach (cap * 3) (start_of budget) (cleared (cap * 3) work) out) i (omega arith) ∙ ap (λ (b : List ℕ). get_or b i 0) (cleared-book cap work sized) ∙ get_or-replicate 4096 i 0 0 (omega arith)

  book-cell : (x : ℕ) → x < 256 → get_or begun.book (cell 3392 1 x 0) 0 ≡ get_or types x 0
  book-cell x l = entered_at types 0 256 (mach (cap * 3) (start_of budget) (cleared (cap * 3) work) out) (let e = ap length (cleared-book cap work sized) ∙ length-replicate {A = ℕ} 4096 0 in omega arith) x (omega arith) (omega arith)

  -- a cell of the environment's table, as the walk reads it
  entered_cell : (count x : ℕ) → count ≤ max_names → Bytes env → (e : Entry) → Cell count env e (get_or types x 0) → get_or begun.book (cell 3392 1 x 0) 0 ≡ get_or types x 0 → Entered (lookup es) env cap (length out) begun.book x e
  unfolding Cell
  entered_cell count x few b lacks c g = g ∙ c
  entered_cell count x few b (holds t) c g =
      let s = read-stands max_depth count env b c.0 t c.1 c.3 in
      (c.0, drop c.1 env, g ∙ c.2, s.bytes, (let q = s.shallow in omega arith), below_up count max_names t few s.below)

  pub begun_fresh : (count : ℕ) → count ≤ max_names → Bytes env → Table count env es types → Fresh (lookup es) env cap (length out) begun
  unfolding start_of
  begun_fresh count few b h =
      let l : length (take (cap * 3) work) ≡ cap * 3 = length-take-le (cap * 3) work (omega arith) in
      record {
        going = ap (λ (v : State). v.stop) begun-state;
        start_at = ap (λ (v : State). v.at.0) begun-state;
        no_nodes = ap (λ (v : State). v.nodes) begun-state;
        no_slots = ap (λ (v : State). v.slots) begun-state;
        no_names = ap (λ (v : State). v.met) begun-state;
        no_decls = ap (λ (v : State). v.bound) begun-state;
        no_bytes = ap (λ (v : State). v.bytes) begun-state;
        not_over = ap (λ (v : State). v.over) begun-state;
        sized = ap length begun-arena ∙ l ∙ omega arith;
        output = ap length (entered_out types 0 256 (mach (cap * 3) (start_of budget) (cleared (cap * 3) work) out));
        long = book-long;
        unmet = λ x q. book-zero (cell 2816 2 x 0) (omega arith);
        entries = λ x q. entered_cell count x few b (lookup es x) (h.tells x q) (book-cell x q);
      }

  pub begun-budget : begun.st.budget ≡ budget
  unfolding start_of
  begun-budget = ap (λ (v : State). v.budget) begun-state
