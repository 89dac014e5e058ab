-- How the walk's machine stands for a bench of the unifier and the books of a walk.
-- The machine keeps its books in words; a walk is written over lists. After this file a reader knows what it means that
-- a machine holds a bench (`Stands`), a row of names and the declarations around (`Books`), and that it went from one state
-- to another as a piece of a walk says (`Runs`): the piece's operations run over the bench end as the machine ends.
use Rattle.std.specs.Prelude.{ℕ, zero, suc, ◌+◌, ◌*◌, ◌≤◌, ◌<◌, ◌≡◌, Bool, true, false, List, [], ◌∷◌, ◌++◌, length, get_or, take, drop}
use Rattle.meter.specs.Meter.{Out, spent, halt, done, broken, full}
use Rattle.types.specs.Ty.{spell, depth, Below}
use Rattle.types.specs.Limits.{max_names}
use Rattle.formula.specs.Environment.{Entry, lacks, holds, Env}
use Rattle.unification.specs.Arena.{U}
use Rattle.unification.specs.Ops.{Bench, Ready, Sound, exec}
use Rattle.walk.specs.Writer.{Row, Found, at, absent, find, Walk, W}
use Rattle.inference.specs.Answer.{spell_problems}
use Rattle.inference.specs.Finish.{Question, names, walk_problems}
use Rattle.machine.specs.Machine.{Mach, cell}

-- ---- the output: the bytes P so far, where the output has `room` bytes; past its end they are counted as over
pub record Wrote (room : ℕ) (P : List ℕ) (bytes : ℕ) (over : Bool) (out : List ℕ) : Type 0 where
  pub long : length out ≡ room
  pub inside : length P ≤ room → (over ≡ false) × (bytes ≡ length P) × (take (length P) out ≡ P)
  pub past : room < length P → over ≡ true

-- how many names below n a row lacks
unfoldable pub unmet : Found → ℕ
unmet (at r) = 0
unmet absent = 1

unfoldable pub missing : ℕ → Row → ℕ
missing zero row = 0
missing (suc n) row = unmet (find n row) + missing n row

module _ (Γ : Env) (env : List ℕ) (cap room : ℕ) where
  -- the machine goes on and holds this bench
  pub record Stands (m : Mach) (b : Bench) : Type 0 where
    pub going : m.st.stop ≡ 0
    pub count : m.st.nodes ≡ b.count
    pub words : m.arena ≡ b.words
    pub sized : length m.arena ≡ 3 * cap
    pub counted : b.count ≤ cap
    pub ready : Ready cap b
    pub wrote : Wrote room (spell_problems (walk_problems b.problems)) m.st.bytes m.st.over m.out

  -- a name's reference by its number: a flag and the reference
  abbrev pub Noted : List ℕ → ℕ → Found → Type 0
  Noted book x (at r) = (get_or book (cell 2816 2 x 0) 0 ≡ 1) × (get_or book (cell 2816 2 x 1) 0 ≡ r)
  Noted book x absent = get_or book (cell 2816 2 x 0) 0 ≡ 0

  -- an environment's entry by its name: where its type stands, plus 1
  abbrev pub Entered : List ℕ → ℕ → Entry → Type 0
  Entered book x lacks = get_or book (cell 3392 1 x 0) 0 ≡ 0
  Entered book x (holds t) = (p : ℕ) × (rest : List ℕ) × (get_or book (cell 3392 1 x 0) 0 ≡ suc p) × (drop p env ≡ spell t ++ rest) × (depth t < 65) × Below max_names t

  -- the row of the names that the environment lacks, as they will be tested, from entry j on
  abbrev pub Listed : List ℕ → ℕ → List Question → Type 0
  Listed book j [] = Unit {0}
  Listed book j (q ∷ qs) =
      (get_or book (cell 2048 3 j 0) 0 ≡ q.key) × (get_or book (cell 2048 3 j 1) 0 ≡ q.ref) × (get_or book (cell 2048 3 j 2) 0 ≡ q.problem.place) × Listed book (suc j) qs

  -- the declarations around, innermost first: the innermost lies last
  abbrev pub Opened : List ℕ → List ℕ → Type 0
  Opened book [] = Unit {0}
  Opened book (r ∷ rs) = (get_or book (cell 3328 1 (length rs) 0) 0 ≡ r) × Opened book rs

  -- slots, from number k on: reference and place
  abbrev pub Filled : List ℕ → ℕ → List (ℕ × ℕ) → Type 0
  Filled book k [] = Unit {0}
  Filled book k (s ∷ ss) = (get_or book (cell 0 2 k 0) 0 ≡ s.0) × (get_or book (cell 0 2 k 1) 0 ≡ s.1) × Filled book (suc k) ss

  pub record Books (m : Mach) (row : Row) (B : List ℕ) : Type 0 where
    pub long : length m.book ≡ 4096
    pub refs : (x : ℕ) → x < 256 → Noted m.book x (find x row)
    pub met : m.st.met ≡ length (names Γ row)
    pub spare : length (names Γ row) + missing 256 row ≤ 256
    pub rows : Listed m.book 0 (names Γ row)
    pub bound : m.st.bound ≡ length B
    pub shallow : length B ≤ 64
    pub opened : Opened m.book B
    pub entries : (x : ℕ) → x < 256 → Entered m.book x (Γ x)

  -- slots taken between two states: filled from the first state's count on, those before untouched
  pub record Slots (m m' : Mach) (ss : List (ℕ × ℕ)) : Type 0 where
    pub taken : m'.st.slots ≡ m.st.slots + length ss
    pub filled : Filled m'.book m.st.slots ss
    pub kept : (i : ℕ) → i < 2 * m.st.slots → get_or m'.book i 0 ≡ get_or m.book i 0

  -- where a piece ends: with its bench and books, or stopped as the operations stop
  abbrev pub Ended : {A : Type 0} → Mach → Mach → Walk A → List ℕ → (A → Mach → Type 0) → Out U Bench → Type 0
  Ended m m' x B Q (done b r) = Stands m' b × Books m' x.row B × (m'.st.budget ≡ r) × Slots m m' x.slots × Q x.result m'
  Ended m m' x B Q (spent e) = m'.st.stop ≡ 7
  Ended m m' x B Q (halt full e) = m'.st.stop ≡ 6
  Ended m m' x B Q (halt broken e) = ⊥

  -- from m to m' as the piece w says, from declarations B to B'; Q speaks of the result and of the machine then
  pub record Runs {A : Type 0} (m m' : Mach) (w : W A) (B : List ℕ) (B' : A → List ℕ) (Q : A → Mach → Type 0) : Type 0 where
    pub ends : (b : Bench) (row : Row) → Stands m b → Books m row B → Sound b.count (w b.count row).ops
        → m.st.slots + length (w b.count row).slots ≤ 1024
        → Ended m m' (w b.count row) (B' (w b.count row).result) Q (exec cap (w b.count row).ops b m.st.budget)
