-- The laws of unification, as the layer above sees them.
--
-- Of any words: `*-steps` and `*-refused`, least budgets of answers and of refusals. Of every arena reached from the empty one by making nodes and
-- comparing references, whatever the outcomes (`Reached`): `unify_success` and `unify_exactly`, what a comparison means for the assignments that the arena
-- admits; `unknowns-free`, every valuation of the unknowns extends; `solved-law` and `read-law`, solved references are those on which all assignments agree.
-- Theorems that rest on what must-fail edits change stand in proofs/Laws.antt.
use Rattle.std.specs.Prelude.{ℕ, suc, ◌+◌, ◌*◌, ◌≤◌, ◌≡◌, Bool, length}
use Rattle.meter.specs.Meter.{Out, spent, halt, done, Why, Costs, done_costs, Halts, halt_costs}
use Rattle.unification.specs.Arena.{Words, U, node_at, resolve, occurs, solved, Answer, unify}
use Rattle.unification.specs.Good.{Assignment, Admits, Proper, push_at}
use Rattle.unification.specs.Steps.{resolve_metered, occurs_metered, solved_metered}

-- the words that stand after a call of unify, whatever the outcome
unfoldable pub after : Out Words Answer → Words
after (spent e) = e
after (halt c e) = e
after (done o r) = o.1

-- of any words at all: the steps of an answer are the least budget for it, and a larger one changes nothing
pub resolve-steps : (ws : Words) (n t β r a : ℕ) → resolve ws n t β ≡ done a r → (c : ℕ) × (c + r ≡ β) × Costs (resolve ws n t) a c
resolve-steps ws n t β r a e = done_costs (resolve_metered ws n t) β a r e

pub occurs-steps : (ws : Words) (n v t β r : ℕ) (a : Bool) → occurs ws n v t β ≡ done a r → (c : ℕ) × (c + r ≡ β) × Costs (occurs ws n v t) a c
occurs-steps ws n v t β r a e = done_costs (occurs_metered ws n v t) β a r e

pub solved-steps : (ws : Words) (n t β r : ℕ) (a : Bool) → solved ws n t β ≡ done a r → (c : ℕ) × (c + r ≡ β) × Costs (solved ws n t) a c
solved-steps ws n t β r a e = done_costs (solved_metered ws n t) β a r e

-- and so is a refusal's: from a least budget on it is given, and below it the budget is spent
pub resolve-refused : (ws : Words) (n t β : ℕ) (w : Why) (e : U) → resolve ws n t β ≡ halt w e → (c : ℕ) × (c ≤ β) × Halts (resolve ws n t) w e c
resolve-refused ws n t β w e q = halt_costs (resolve_metered ws n t) w e β q

pub occurs-refused : (ws : Words) (n v t β : ℕ) (w : Why) (e : U) → occurs ws n v t β ≡ halt w e → (c : ℕ) × (c ≤ β) × Halts (occurs ws n v t) w e c
occurs-refused ws n v t β w e q = halt_costs (occurs_metered ws n v t) w e β q

pub solved-refused : (ws : Words) (n t β : ℕ) (w : Why) (e : U) → solved ws n t β ≡ halt w e → (c : ℕ) × (c ≤ β) × Halts (solved ws n t) w e c
solved-refused ws n t β w e q = halt_costs (solved_metered ws n t) w e β q

-- the arenas reached from the empty one by public calls; every node made is an unknown of rank 0, BOOL, ℤ, given, power or product
pub data Reached : ℕ → Words → Type 0 where
  empty : (ws : Words) → Reached 0 ws
  made : {n : ℕ} {ws : Words} (k a b : ℕ) → Proper n k a b → 3 * suc n ≤ length ws → Reached n ws → Reached (suc n) (push_at ws n k a b)
  called : {n : ℕ} {ws : Words} (a b budget : ℕ) → Reached n ws → Reached n (after (unify n (ws, a, b) budget))

-- a budget that suffices, and from it on the same answer
module _ {n : ℕ} {ws : Words} (R : Reached n ws) where
  -- all admitted assignments agree on t
  abbrev pub Determined : ℕ → Type 0
  Determined t = (σ σ' : Assignment) → Admits n (node_at ws n) σ → Admits n (node_at ws n) σ' → σ t ≡ σ' t
