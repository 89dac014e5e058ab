-- The names that are tested are the names that the walk finds: what holds of every name found in the walk's row that the
-- environment lacks holds of every question about names, and the other way.
-- Theorems that rest on what must-fail edits change stand in proofs/Rows.antt.
use Rattle.std.specs.Prelude.{ℕ}
use Rattle.std.proofs.Math.Path.{◌≡◌}
use Rattle.std.proofs.Math.Bool.{false}
use mathlib.Core.List.{List, [], ◌∷◌}
use Rattle.formula.specs.Environment.{lacks, Env}
use Rattle.typing.specs.Typings.{has}
use Rattle.walk.specs.Writer.{Row, at, find}
use Rattle.inference.specs.Finish.{Question}

-- ---- no name twice
abbrev pub Once : List (ℕ × ℕ) → Type 0
Once [] = Unit {0}
Once (m ∷ ms) = (has m.0 ms ≡ false) × Once ms

-- ---- of every question
abbrev pub Every : (Question → Type 0) → List Question → Type 0
Every P [] = Unit {0}
Every P (q ∷ qs) = P q × Every P qs

pub every_map : {P Q : Question → Type 0} → ((q : Question) → P q → Q q) → (qs : List Question) → Every P qs → Every Q qs
every_map f [] h = tt
every_map f (q ∷ qs) h = (f q h.0, every_map f qs h.1)

module _ (Γ : Env) (P : ℕ → ℕ → Type 0) where
  abbrev pub OfNames : Row → Type 0
  OfNames row = (x r : ℕ) → Γ x ≡ lacks → find x row ≡ at r → P x r
