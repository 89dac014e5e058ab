-- Steps that only move the walk: the place it stands at, the expression it comes from, the last reference.
-- After this file such a step runs the empty piece, and a step may be replaced by what it is while the walk goes on.
use Rattle.std.specs.Prelude.{ℕ, ◌≤◌, ◌≡◌, List, [], length, get_or, eqb, leb}
use Rattle.std.proofs.Math.Path.{refl, subst}
use Rattle.std.proofs.Common.{sym, ◌∙◌, ap, arith, le-leb, eq-eqb}
use Rattle.meter.specs.Meter.{Out, spent, halt, broken, full}
use Rattle.meter.specs.Meter as Mt
use Rattle.unification.specs.Arena.{U}
use Rattle.formula.specs.Environment.{Env}
use Rattle.unification.specs.Ops.{Bench, exec}
use Rattle.unification.proofs.Exec.{exec_nil}
use Rattle.walk.specs.Writer.{Row, find, Walk, W, done}
use Rattle.inference.specs.Finish.{names}
use Rattle.machine.specs.State.{State}
use Rattle.machine.specs.Machine.{Mach, with_st, placed_of, passed_of, gave_of}
use Rattle.machine.specs.Still.{test_yes}
use Rattle.simulation.specs.Relation.{Stands, Noted, Listed, Opened, Entered, Books, Slots, Ended, Runs}

-- the state with another place, origin and last reference
abbrev pub standing : ℕ → ℕ → ℕ → State → State
standing p f r v =
    record { at = record { 0 = p }; from = record { 0 = f }; last = record { 0 = r }; nodes = v.nodes; budget = v.budget; slots = v.slots; met = v.met; bound = v.bound; bytes = v.bytes; over = v.over; stop = v.stop }

-- the moves of a walk that goes on
pub placed_eq : (p : ℕ) (v : State) → v.stop ≡ 0 → placed_of p v ≡ standing p v.from.0 v.last.0 v
unfolding placed_of
placed_eq p v e = test_yes (eqb v.stop 0) _ _ (eq-eqb v.stop 0 e)

pub passed_eq : (e : ℕ) (v : State) → v.stop ≡ 0 → e ≤ 65536 → passed_of e v ≡ standing e v.from.0 v.last.0 v
unfolding passed_of
passed_eq e v g l = test_yes (leb e 4294967295) _ _ (le-leb e 4294967295 (omega arith)) ∙ placed_eq e v g

pub gave_eq : (r : ℕ) (v : State) → v.stop ≡ 0 → gave_of r v ≡ standing v.at.0 v.from.0 r v
unfolding gave_of
gave_eq r v e = test_yes (eqb v.stop 0) _ _ (eq-eqb v.stop 0 e)

module _ (Γ : Env) (env : List ℕ) (cap room : ℕ) where
  pub stands-standing : (m : Mach) (b : Bench) (p f r : ℕ) → Stands Γ env cap room m b → Stands Γ env cap room (with_st (standing p f r m.st) m) b
  stands-standing m b p f r s = record { going = s.going; count = s.count; words = s.words; sized = s.sized; counted = s.counted; ready = s.ready; wrote = s.wrote }

  -- the books are kept where their words and their counts are
  pub books_as : (m m' : Mach) (row : Row) (B : List ℕ) → m'.book ≡ m.book → m'.st.met ≡ m.st.met → m'.st.bound ≡ m.st.bound → Books Γ env cap room m row B → Books Γ env cap room m' row B
  books_as m m' row B e f g o = record {
    long = ap length e ∙ o.long;
    refs = λ x l. subst (λ (w : List ℕ). Noted Γ env cap room w x (find x row)) (sym e) (o.refs x l);
    met = f ∙ o.met;
    spare = o.spare;
    rows = subst (λ (w : List ℕ). Listed Γ env cap room w 0 (names Γ row)) (sym e) o.rows;
    bound = g ∙ o.bound;
    shallow = o.shallow;
    opened = subst (λ (w : List ℕ). Opened Γ env cap room w B) (sym e) o.opened;
    entries = λ x l. subst (λ (w : List ℕ). Entered Γ env cap room w x (Γ x)) (sym e) (o.entries x l);
  }

  pub books_standing : (m : Mach) (row : Row) (B : List ℕ) (p f r : ℕ) → Books Γ env cap room m row B → Books Γ env cap room (with_st (standing p f r m.st) m) row B
  books_standing m row B p f r o = books_as m (with_st (standing p f r m.st) m) row B refl refl refl o

  -- no slot is taken
  pub no_slots : (m m' : Mach) → m'.book ≡ m.book → m'.st.slots ≡ m.st.slots → Slots Γ env cap room m m' []
  no_slots m m' e f = record { taken = f ∙ omega arith; filled = tt; kept = λ i l. ap (λ (w : List ℕ). get_or w i 0) e }

  -- a piece of another machine term that is the same while the walk goes on
  pub runs_if : {A : Type 0} (m m' m'' : Mach) (w : W A) (B : List ℕ) (B' : A → List ℕ) (Q : A → Mach → Type 0) → (m.st.stop ≡ 0 → m' ≡ m'') → Runs Γ env cap room m m'' w B B' Q → Runs Γ env cap room m m' w B B' Q
  runs_if m m' m'' w B B' Q e h = record {
    ends = λ b row s o q l.
        subst (λ (x : Mach). Ended Γ env cap room m x (w b.count row) (B' (w b.count row).result) Q (exec cap (w b.count row).ops b m.st.budget)) (sym (e s.going)) (h.ends b row s o q l);
  }

  -- what holds at the end may be weakened
  weakened : {A : Type 0} (m m' : Mach) (x : Walk A) (B : List ℕ) (Q Q' : A → Mach → Type 0) → ((a : A) → Q a m' → Q' a m') → (o : Out U Bench) → Ended Γ env cap room m m' x B Q o → Ended Γ env cap room m m' x B Q' o
  weakened m m' x B Q Q' f (Mt.done b r) h = (h.0, h.1, h.2, h.3, f x.result h.4)
  weakened m m' x B Q Q' f (spent e) h = h
  weakened m m' x B Q Q' f (halt full e) h = h
  weakened m m' x B Q Q' f (halt broken e) h = h

  pub runs_map : {A : Type 0} (m m' : Mach) (w : W A) (B : List ℕ) (B' : A → List ℕ) (Q Q' : A → Mach → Type 0) → ((a : A) → Q a m' → Q' a m') → Runs Γ env cap room m m' w B B' Q → Runs Γ env cap room m m' w B B' Q'
  runs_map m m' w B B' Q Q' f h = record { ends = λ b row s o q l. weakened m m' (w b.count row) (B' (w b.count row).result) Q Q' f (exec cap (w b.count row).ops b m.st.budget) (h.ends b row s o q l) }

  -- the empty piece
  pub runs_stand : {A : Type 0} (m : Mach) (p f r : ℕ) (a : A) (B : List ℕ) (Q : A → Mach → Type 0) → Q a (with_st (standing p f r m.st) m) → Runs Γ env cap room m (with_st (standing p f r m.st) m) (done a) B (λ _. B) Q
  unfolding done
  runs_stand m p f r a B Q h = record {
    ends = λ b row s o q l.
        subst (λ (x : Out U Bench). Ended Γ env cap room m (with_st (standing p f r m.st) m) (done a b.count row) B Q x) (sym (exec_nil cap b m.st.budget))
        (stands-standing m b p f r s, books_standing m row B p f r o, refl, record { taken = omega arith; filled = tt; kept = λ i z. refl }, h);
  }
