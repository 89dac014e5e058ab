-- The theorem: from a fresh machine, the walk of a formula's bytes ends as the formula's operations end.
-- Fresh: nothing in the arena, the books empty but for the entries of the environment, no output, at place 0. Where the operations end, the machine
-- holds their bench (`Stands`), the names that they met (`Named`) and their slots (`Slots`, `Filled`), with what is left of the budget; where they are
-- spent it has stopped with 7, where the arena is full with 6. Nothing else can happen.
use Rattle.std.specs.Prelude.{ℕ, ◌+◌, ◌*◌, ◌≤◌, ◌<◌, ◌≡◌, refl, false, length, get_or, eqb}
use Rattle.std.proofs.Math.Path.{sym, ap}
use Rattle.std.proofs.Common.{◌∙◌, subst, arith, eq-eqb}
use mathlib.Core.List.{List, [], ◌++◌}
use Rattle.std.proofs.Math.ListN.{drop}
use Rattle.meter.specs.Meter.{Out, spent, halt, broken, full}
use Rattle.meter.specs.Meter as Mt
use Rattle.formula.specs.Environment.{Env}
use Rattle.formula.specs.Tree.{Formula}
use Rattle.formula.specs.Spell.{spell_formula, size_formula, PlacedFormula}
use Rattle.formula_laws.specs.Fits.{FitsFormula}
use Rattle.unification.specs.Arena.{U}
use Rattle.unification.specs.Trees.{var}
use Rattle.unification.specs.Ops.{Bench, exec}
use Rattle.walk.specs.Writer.{Row, find, Walk}
use Rattle.walk.specs.Walk.{walk_formula, walked}
use Rattle.walk.specs.Safe.{RowIn}
use Rattle.walk.proofs.Safe.{safe-formula}
use Rattle.walk.proofs.Whole.{tame_formula}
use Rattle.walk.specs.Verdict.{start}
use Rattle.inference.specs.Answer.{spell_problems}
use Rattle.inference.specs.Finish.{names, walk_problems}
use Rattle.machine.specs.State.{State}
use Rattle.machine.specs.Machine.{Mach, with_st, cell, bound_of}
use Rattle.walker.specs.Root.{formula_of}
use Rattle.simulation.specs.Relation.{Stands, Noted, Listed, Entered, Books, Slots, Ended}
use Rattle.machine.specs.Still.{test_yes}
use Rattle.simulation.specs.Names.{missing-none}
use Rattle.simulation.specs.Steps.{nil_right}
use Rattle.simulation.specs.Decls.{test-keeps}
use Rattle.simulation.specs.Bodies.{closed}
use Rattle.simulation.specs.Root.{tie-formula}

bound-stop : (k : ℕ) (v : State) → (bound_of k v).stop ≡ v.stop
unfolding bound_of
bound-stop k v = test-keeps (λ (w : State). w.stop) (eqb v.stop 0) _ _ v.stop refl refl

none_in : RowIn 0 []
unfolding find
none_in x r e = let z : ◌≡◌ {A = ℕ} 0 1 = cc in absurd (omega arith)

module _ (Γ : Env) (env : List ℕ) (cap room : ℕ) where
  -- before the walk
  pub record Fresh (m : Mach) : Type 0 where
    pub going : m.st.stop ≡ 0
    pub start_at : m.st.at.0 ≡ 0
    pub no_nodes : m.st.nodes ≡ 0
    pub no_slots : m.st.slots ≡ 0
    pub no_names : m.st.met ≡ 0
    pub no_decls : m.st.bound ≡ 0
    pub no_bytes : m.st.bytes ≡ 0
    pub not_over : m.st.over ≡ false
    pub sized : length m.arena ≡ 3 * cap
    pub output : length m.out ≡ room
    pub long : length m.book ≡ 4096
    pub unmet : (x : ℕ) → x < 256 → get_or m.book (cell 2816 2 x 0) 0 ≡ 0
    pub entries : (x : ℕ) → x < 256 → Entered Γ env cap room m.book x (Γ x)

  fresh-stands : (m : Mach) → Fresh m → Stands Γ env cap room m (start m.arena)
  unfolding start spell_problems walk_problems
  fresh-stands m h =
      let z = h.sized in
      record {
        going = h.going;
        count = h.no_nodes;
        words = refl;
        sized = h.sized;
        counted = omega arith;
        ready = record { roomy = omega arith; good = record { tree = λ x. var x; rank = λ x. 0; fits = λ x l. absurd (omega arith) } };
        wrote = record { long = h.output; inside = λ q. (h.not_over, h.no_bytes, refl); past = λ q. absurd (omega arith) };
      }

  fresh_books : (m : Mach) → Fresh m → Books Γ env cap room m [] []
  unfolding find names
  fresh_books m h =
      let z = missing-none 256 in
      record { long = h.long; refs = λ x l. h.unmet x l; met = h.no_names; spare = omega arith; rows = tt; bound = h.no_decls; shallow = omega arith; opened = tt; entries = h.entries }

  -- the names of a row, as the machine has them
  pub record Named (m : Mach) (row : Row) : Type 0 where
    pub long : length m.book ≡ 4096
    pub met : m.st.met ≡ length (names Γ row)
    pub few : length (names Γ row) ≤ 256
    pub rows : Listed Γ env cap room m.book 0 (names Γ row)
    pub refs : (x : ℕ) → x < 256 → Noted Γ env cap room m.book x (find x row)
    pub entries : (x : ℕ) → x < 256 → Entered Γ env cap room m.book x (Γ x)

  abbrev pub Finished : Mach → Mach → Walk U → Out U Bench → Type 0
  Finished m m' x (Mt.done b r) = Stands Γ env cap room m' b × Named m' x.row × (m'.st.budget ≡ r) × Slots Γ env cap room m m' x.slots
  Finished m m' x (spent e) = m'.st.stop ≡ 7
  Finished m m' x (halt full e) = m'.st.stop ≡ 6
  Finished m m' x (halt broken e) = ⊥

  shut_eq : (y : Mach) → y.st.stop ≡ 0 → with_st (bound_of 0 y.st) y ≡ closed Γ env cap room 0 y
  unfolding bound_of
  shut_eq y e = ap (λ (v : State). with_st v y) (test_yes (eqb y.st.stop 0) _ _ (eq-eqb y.st.stop 0 e))

  -- what was closed at the end may be left open
  reopened : (m y : Mach) (x : Walk U) (Q : U → Mach → Type 0) (o : Out U Bench) → Ended Γ env cap room m (with_st (bound_of 0 y.st) y) x [] Q o → Finished m y x o
  reopened m y x Q (Mt.done b r) h =
      let g : y.st.stop ≡ 0 = sym (bound-stop 0 y.st) ∙ h.0.going in
      let e : with_st (bound_of 0 y.st) y ≡ closed Γ env cap room 0 y = shut_eq y g in
      let k = subst (λ (z : Mach). Ended Γ env cap room m z x [] Q (Mt.done b r)) e h in
      let s = k.0 in
      let o = k.1 in
      let sp = o.spare in (
        record { going = s.going; count = s.count; words = s.words; sized = s.sized; counted = s.counted; ready = s.ready; wrote = s.wrote },
        record { long = o.long; met = o.met; few = omega arith; rows = o.rows; refs = o.refs; entries = o.entries },
        k.2,
        record { taken = k.3.taken; filled = k.3.filled; kept = k.3.kept },
      )
  reopened m y x Q (spent e) h = sym (bound-stop 0 y.st) ∙ h
  reopened m y x Q (halt full e) h = sym (bound-stop 0 y.st) ∙ h
  reopened m y x Q (halt broken e) h = absurd h

module _ (Γ : Env) (env : List ℕ) (cap room : ℕ) (wide : cap ≤ 32768) (brief : length env ≤ 65536) (s : List ℕ) (short : length s ≤ 65536) (most : ℕ) (few : most ≤ 256) where
  -- THE THEOREM
  pub walk_ends : (f : Formula) (m : Mach) → Fresh Γ env cap room m → FitsFormula most f → PlacedFormula 0 f → s ≡ spell_formula f
      → Finished Γ env cap room m (formula_of s env m) (walked Γ f) (exec cap (walked Γ f).ops (start m.arena) m.st.budget)
  unfolding walked start FitsFormula
  walk_ends f m h fits placed spelled =
      let b : drop 0 s ≡ spell_formula f ++ [] = spelled ∙ sym (nil_right (spell_formula f)) in
      let r = tie-formula Γ env cap room wide brief s short most few f 0 [] fits.1 placed b m h.start_at in
      let n = (tame_formula Γ f).counts 0 [] in
      let z = h.no_slots in
      let l = fits.0 in
      reopened Γ env cap room m (formula_of s env m) (walk_formula Γ f 0 []) (λ x v. v.st.at.0 ≡ 0 + size_formula f) (exec cap (walk_formula Γ f 0 []).ops (start m.arena) m.st.budget)
      (r.ends (start m.arena) [] (fresh-stands Γ env cap room m h) (fresh_books Γ env cap room m h) ((safe-formula Γ f).safe 0 (omega arith) [] none_in).0 (omega arith))
