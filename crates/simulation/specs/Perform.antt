-- The operators' scripts against the walk's tables: each script that the machine plays for an operator is the walk's.
-- After this file every operator of the format plays as the walk performs it; the agreement of the tables is computed, row by row.
use Rattle.std.specs.Prelude.{ℕ, zero, suc, ◌+◌, ◌≤◌, ◌<◌, ◌≡◌, refl, Bool, true, List, [], ◌∷◌, length}
use Rattle.std.proofs.Common.{sym, ◌∙◌, ap, subst, arith}
use Rattle.std.proofs.Math.Decide.{ℕ_discrete}
use Rattle.formula.specs.Environment.{Env}
use Rattle.unification.specs.Trees.{and_left, and_right}
use Rattle.unification.specs.Ops.{Sound, exec}
use Rattle.typing.specs.Equations.{look, first_of, forward, backward}
use Rattle.walk.specs.Writer.{Row, Walk}
use Rattle.walk.specs.Scripts.{Ref, Item, an_unknown, a_power, new, Script, scripted, pick, perform, three, left, only, never_items, never_script, atomic_scripts, binary_scripts, unary_scripts, quantified_scripts, relational_scripts, simple_script, Gather, all_as, linked, no_script, associative_scripts}
use Rattle.machine.specs.State.{State}
use Rattle.operators.specs.declared.Script as MS
use Rattle.operators.specs.declared.Script.TheVariants as S
use Rattle.operators.specs.declared.Mode.TheVariants.{Same, Linked}
use Rattle.operators.specs.declared.Plan.{Plan}
use Rattle.operators.specs.Scripts.{items_in, given_by}
use Rattle.machine.specs.declared.Parts.{Parts}
use Rattle.forms.specs.Forms.{test}
use Rattle.machine.specs.Machine.{Mach}
use Rattle.operators.specs.Operators.{check_atomic_of, check_binary_of, check_unary_of, check_quantified_of, check_relational_of, check_associative_of}
use Rattle.machine.specs.Scripts.{parts_of, play_of}
use Rattle.simulation.specs.Relation.{Ended, Runs}
use Rattle.simulation.specs.Steps.{told}
use Rattle.simulation.specs.Nodes.{Came}
use Rattle.simulation.specs.Play.{ref_of, seat_of, item_as, items_as, script_as, within, fits, all_fit, script_fits, Tied, part_at, seat_at, every, items, runs_script}

-- ---- one number below n
pub every-at : (n : ℕ) (f : ℕ → Bool) → every n f ≡ true → (o : ℕ) → o < n → f o ≡ true
unfolding every
every-at zero f e o l = absurd (omega arith)
every-at (suc n) f e o l = by (ℕ_discrete o n) (λ k. every-at n f (and_right (f n) (every n f) e) o k)
  where
    by : Dec (o ≡ n) → (o < n → f o ≡ true) → f o ≡ true
    by (yes q) rec = ap f q ∙ and_left (f n) (every n f) e
    by (no q) rec = rec (omega arith)

-- the same on both sides, for every number below n
unfoldable column : {A : Type 0} → ℕ → (ℕ → A) → List A
column zero f = []
column (suc n) f = f n ∷ column n f

column-at : (n : ℕ) (f g : ℕ → Script) → column n f ≡ column n g → (o : ℕ) → o < n → f o ≡ g o
unfolding column
column-at zero f g e o l = absurd (omega arith)
column-at (suc n) f g e o l =
    let first : f n ≡ g n = cc in
    let rest : column n f ≡ column n g = cc in
    by first (ℕ_discrete o n) (λ k. column-at n f g rest o k)
  where
    by : f n ≡ g n → Dec (o ≡ n) → (o < n → f o ≡ g o) → f o ≡ g o
    by z (yes q) rec = subst (λ (k : ℕ). f k ≡ g k) (sym q) z
    by z (no q) rec = rec (omega arith)

-- ---- the tables agree
atomic-all : column 12 (λ o. script_as (check_atomic_of o)) ≡ column 12 (λ o. look atomic_scripts never_script o)
unfolding column script_as items_as item_as ref_of seat_of items_in given_by test look first_of scripted never_script never_items atomic_scripts check_atomic_of
atomic-all = refl

atomic-fit : every 12 (λ o. script_fits 3 3 (check_atomic_of o)) ≡ true
unfolding every script_fits all_fit fits within seat_of items_in given_by test check_atomic_of
atomic-fit = refl

pub atomic-tied : (o : ℕ) → o < 12 → Tied 3 3 (check_atomic_of o) (look atomic_scripts never_script o)
atomic-tied o l = (column-at 12 (λ k. script_as (check_atomic_of k)) (λ k. look atomic_scripts never_script k) atomic-all o l, every-at 12 (λ k. script_fits 3 3 (check_atomic_of k)) atomic-fit o l)

binary-all : column 27 (λ o. script_as (check_binary_of o)) ≡ column 27 (λ o. look binary_scripts never_script o)
unfolding column script_as items_as item_as ref_of seat_of items_in given_by test look first_of scripted never_script never_items binary_scripts check_binary_of
binary-all = refl

binary-fit : every 27 (λ o. script_fits 3 3 (check_binary_of o)) ≡ true
unfolding every script_fits all_fit fits within seat_of items_in given_by test check_binary_of
binary-fit = refl

pub binary-tied : (o : ℕ) → o < 27 → Tied 3 3 (check_binary_of o) (look binary_scripts never_script o)
binary-tied o l = (column-at 27 (λ k. script_as (check_binary_of k)) (λ k. look binary_scripts never_script k) binary-all o l, every-at 27 (λ k. script_fits 3 3 (check_binary_of k)) binary-fit o l)

unary-all : column 11 (λ o. script_as (check_unary_of o)) ≡ column 11 (λ o. look unary_scripts never_script o)
unfolding column script_as items_as item_as ref_of seat_of items_in given_by test look first_of scripted never_script never_items unary_scripts check_unary_of
unary-all = refl

unary-fit : every 11 (λ o. script_fits 3 2 (check_unary_of o)) ≡ true
unfolding every script_fits all_fit fits within seat_of items_in given_by test check_unary_of
unary-fit = refl

pub unary-tied : (o : ℕ) → o < 11 → Tied 3 2 (check_unary_of o) (look unary_scripts never_script o)
unary-tied o l = (column-at 11 (λ k. script_as (check_unary_of k)) (λ k. look unary_scripts never_script k) unary-all o l, every-at 11 (λ k. script_fits 3 2 (check_unary_of k)) unary-fit o l)

quantified-all : column 3 (λ o. script_as (check_quantified_of o)) ≡ column 3 (λ o. look quantified_scripts never_script o)
unfolding column script_as items_as item_as ref_of seat_of items_in given_by test look first_of scripted never_script never_items quantified_scripts check_quantified_of
quantified-all = refl

quantified-fit : every 3 (λ o. script_fits 3 2 (check_quantified_of o)) ≡ true
unfolding every script_fits all_fit fits within seat_of items_in given_by test check_quantified_of
quantified-fit = refl

pub quantified-tied : (o : ℕ) → o < 3 → Tied 3 2 (check_quantified_of o) (look quantified_scripts never_script o)
quantified-tied o l = (column-at 3 (λ k. script_as (check_quantified_of k)) (λ k. look quantified_scripts never_script k) quantified-all o l, every-at 3 (λ k. script_fits 3 2 (check_quantified_of k)) quantified-fit o l)

relational-all : column 12 (λ o. script_as (check_relational_of o)) ≡ column 12 (λ o. scripted (look relational_scripts never_items o) left)
unfolding column script_as items_as item_as ref_of seat_of items_in given_by test look first_of scripted never_items relational_scripts check_relational_of
relational-all = refl

relational-fit : every 12 (λ o. script_fits 3 3 (check_relational_of o)) ≡ true
unfolding every script_fits all_fit fits within seat_of items_in given_by test check_relational_of
relational-fit = refl

pub relational-tied : (o : ℕ) → o < 12 → Tied 3 3 (check_relational_of o) (scripted (look relational_scripts never_items o) left)
relational-tied o l = (column-at 12 (λ k. script_as (check_relational_of k)) (λ k. scripted (look relational_scripts never_items k) left) relational-all o l, every-at 12 (λ k. script_fits 3 3 (check_relational_of k)) relational-fit o l)

pub simple-tied : Tied 3 2 S.Finite (scripted simple_script only)
unfolding script_as items_as item_as ref_of seat_of items_in given_by script_fits all_fit fits within scripted
simple-tied = (refl, refl)

-- an unknown and its power: the first of a multiple predicate
pub set-tied : Tied 3 0 S.EmptySet (scripted (an_unknown ∷ a_power (new 0) ∷ []) (new 1))
unfolding script_as items_as item_as ref_of seat_of items_in given_by script_fits all_fit fits within scripted
set-tied = (refl, refl)

-- what gathers the children: the plan's scripts
unfoldable pub Planned : Plan → Gather → Type 0
Planned p (all_as s) = Tied 3 0 p.first s × (p.link ≡ S.Nothing) × (p.last ≡ S.Nothing) × (p.mode ≡ Same)
Planned p (linked forward) = (p.first ≡ S.Unknown) × (p.link ≡ S.Forth) × (p.last ≡ S.ForthAll) × (p.mode ≡ Linked)
Planned p (linked backward) = (p.first ≡ S.Unknown) × (p.link ≡ S.Back) × (p.last ≡ S.BackAll) × (p.mode ≡ Linked)
Planned p no_script = ⊥

-- for every number below n
unfoldable Every : ℕ → (ℕ → Type 0) → Type 0
Every zero P = Unit {0}
Every (suc n) P = P n × Every n P

Every-at : (n : ℕ) (P : ℕ → Type 0) → Every n P → (o : ℕ) → o < n → P o
unfolding Every
Every-at zero P e o l = absurd (omega arith)
Every-at (suc n) P e o l = by (ℕ_discrete o n) (λ k. Every-at n P e.1 o k)
  where
    by : Dec (o ≡ n) → (o < n → P o) → P o
    by (yes q) rec = subst P (sym q) e.0
    by (no q) rec = rec (omega arith)

associative-all : Every 7 (λ o. Planned (check_associative_of o) (look associative_scripts no_script o))
unfolding Every Planned script_as items_as item_as ref_of seat_of items_in given_by script_fits all_fit fits within test look first_of scripted associative_scripts check_associative_of
associative-all = (
  ((refl, refl), refl, refl, refl),
  (((refl, refl), refl, refl, refl), ((refl, refl, refl, refl), ((refl, refl, refl, refl), (((refl, refl), refl, refl, refl), (((refl, refl), refl, refl, refl), (((refl, refl), refl, refl, refl), tt)))))),
)

pub associative-planned : (o : ℕ) → o < 7 → Planned (check_associative_of o) (look associative_scripts no_script o)
associative-planned o l = Every-at 7 (λ k. Planned (check_associative_of k) (look associative_scripts no_script k)) associative-all o l

-- ---- the parts that a script is played with
pub three_chosen : (x pl y pr q : ℕ) (v : State) (i : ℕ) → i < 3 → part_at (parts_of x pl y pr q v) i ≡ three 0 x y i
unfolding part_at parts_of three
three_chosen x pl y pr q v zero l = refl
three_chosen x pl y pr q v (suc zero) l = refl
three_chosen x pl y pr q v (suc (suc zero)) l = refl
three_chosen x pl y pr q v (suc (suc (suc i))) l = absurd (omega arith)

pub three-placed : (x pl y pr q : ℕ) (v : State) (i : ℕ) → i < 3 → seat_at (parts_of x pl y pr q v) i ≡ three q pl pr i
unfolding seat_at parts_of three
three-placed x pl y pr q v zero l = refl
three-placed x pl y pr q v (suc zero) l = refl
three-placed x pl y pr q v (suc (suc zero)) l = refl
three-placed x pl y pr q v (suc (suc (suc i))) l = absurd (omega arith)

pub two-placed : (x pl y pr q z : ℕ) (v : State) (i : ℕ) → i < 2 → seat_at (parts_of x pl y pr q v) i ≡ three q pl z i
unfolding seat_at parts_of three
two-placed x pl y pr q z v zero l = refl
two-placed x pl y pr q z v (suc zero) l = refl
two-placed x pl y pr q z v (suc (suc i)) l = absurd (omega arith)

perform-is : (is : List Item) (g : Ref) (args places : ℕ → ℕ) (n0 n : ℕ) (row : Row) → n0 ≡ n → told (λ _. pick args n0 g) (items args places n0 is) n row ≡ perform is g args places n row
unfolding told items perform
perform-is is g args places n0 n row e = subst (λ (k : ℕ). told (λ _. pick args k g) (items args places k is) n row ≡ perform is g args places n row) (sym e) refl

module _ (Γ : Env) (env : List ℕ) (cap room : ℕ) (wide : cap ≤ 32768) where
  pub runs_perform : (n : MS.Script) (s : Script) (p : Parts) (args places : ℕ → ℕ) (kp : ℕ) (m : Mach) (B : List ℕ) → Tied 3 kp n s → p.base ≡ m.st.nodes
      → ((i : ℕ) → i < 3 → part_at p i ≡ args i) → ((i : ℕ) → i < kp → seat_at p i ≡ places i)
      → Runs Γ env cap room m (play_of n p m) (perform s.items s.gives args places) B (λ _. B) (λ r v. Came m.st.at.0 m.st.from.0 r v)
  runs_perform n s p args places kp m B e f given seats = record {
    ends = λ b row h o. (
        let c = h.count in
        let k = h.counted in
        subst (λ (x : Walk ℕ). Sound b.count x.ops → m.st.slots + length x.slots ≤ 1024 → Ended Γ env cap room m (play_of n p m) x B (λ r v. Came m.st.at.0 m.st.from.0 r v) (exec cap x.ops b m.st.budget))
        (perform-is s.items s.gives args places m.st.nodes b.count row h.count)
        ((runs_script Γ env cap room wide p args places 3 kp m.st.nodes f (omega arith) given seats B n s m e).ends b row h o));
  }
