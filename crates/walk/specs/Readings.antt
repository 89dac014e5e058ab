-- Typings and the assignments they are read off. After this file a reader knows that a typing is nothing but what it gives to the
-- slots and to the lacking names, and that two assignments which differ at one of those are read as two different typings.
-- Theorems that rest on what must-fail edits change stand in proofs/Readings.antt.
use Rattle.std.specs.Prelude.{ℕ, ◌≡◌, ◌⊎◌, List, [], ◌∷◌}
use Rattle.types.specs.Ty.{Ty}
use Rattle.formula.specs.Environment.{lacks, Env}
use Rattle.formula.specs.Tree.{Formula}
use Rattle.unification.specs.Good.{Assignment}
use Rattle.typing.specs.Typings.{AtMostOne, Several}
use Rattle.walk.specs.Writer.{at, find}
use Rattle.walk.specs.Walk.{walked}

-- ---- the references that are read: the slots', and those of the lacking names
abbrev pub SlotAt : ℕ → List (ℕ × ℕ) → Type 0
SlotAt r [] = ⊥
SlotAt r (s ∷ ss) = (r ≡ s.0) ⊎ SlotAt r ss

pub data Asked (Γ : Env) (f : Formula) (r : ℕ) : Type 0 where
  slot_asked : SlotAt r (walked Γ f).slots → Asked Γ f r
  name_asked : (x : ℕ) → find x (walked Γ f).row ≡ at r → Γ x ≡ lacks → Asked Γ f r

pub several_not_one : (Γ : Env) (f : Formula) → Several Γ f → AtMostOne Γ f → ⊥
several_not_one Γ f v h = v.differ (h v.slots_one v.names_one v.slots_other v.names_other v.one v.other)

-- ---- how the slots of a typing are told: place and type, one after the other
unfoldable pub told_slots : Assignment → List (ℕ × ℕ) → List (ℕ × Ty)
told_slots σ [] = []
told_slots σ (s ∷ ss) = (s.1, σ s.0) ∷ told_slots σ ss
