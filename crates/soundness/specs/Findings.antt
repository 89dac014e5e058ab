-- What a row of findings amounts to: where no problem was found every question has its type, and where one was found its question
-- has none. After this file a reader knows what the types and the problems of the finish say of its questions.
use Rattle.std.specs.Prelude.{ℕ}
use Rattle.std.proofs.Math.Path.{◌≡◌, refl, ap, ap₂}
use Rattle.std.proofs.Common.{sym, ◌∙◌, inl, inr, arith}
use mathlib.Core.List.{List, [], ◌∷◌, ◌++◌}
use Rattle.types.specs.Ty.{Ty}
use Rattle.formula.specs.Environment.{Entry, lacks, holds, Env}
use Rattle.formula.specs.Tree.{Formula}
use Rattle.typing.specs.Typings.{named_entries, name_entries}
use Rattle.unification.specs.Good.{Assignment}
use Rattle.walk.specs.Writer.{Met, Row, at, find}
use Rattle.walk.specs.Walk.{walked}
use Rattle.walk.specs.Names.{unheld, row_lacking}
use Rattle.walk.proofs.Names.{walk-names}
use Rattle.walk.specs.Readings.{SlotAt, told_slots}
use Rattle.inference.specs.Answer.{Problem}
use Rattle.inference.specs.Finish.{Finding, found, unsolved, Question, Findings, noted, ask_name, names, slots}
use Rattle.inference.specs.Rows.{Every}
use Rattle.inference.proofs.Rows.{found-asked}
use Rattle.inference.specs.Conclude.{Judge, Told, told_none, told}
use Rattle.soundness.specs.Listing.{AllOf}

-- ---- the problems found are problems of the questions
pub told-problems : {J : ℕ → Finding → Type 0} (P : Problem → Type 0) (qs : List Question) (f : Findings) → Told J qs f → Every (λ q. P q.problem) qs → AllOf P f.problems
unfolding noted
told-problems P [] f told_none h = tt
told-problems P (q ∷ qs) g (told {x = found t} {f = f} j k) h = told-problems P qs f k h.1
told-problems P (q ∷ qs) g (told {x = unsolved} {f = f} j k) h = (h.0, told-problems P qs f k h.1)

-- ---- where a problem was found, some question has no type
pub record Untold (J : ℕ → Finding → Type 0) (P : Question → Type 0) : Type 0 where
  pub question : Question
  pub asked : P question
  pub open_still : J question.ref unsolved

pub told-unsolved : {J : ℕ → Finding → Type 0} {P : Question → Type 0} (qs : List Question) (f : Findings) (p : Problem) (ps : List Problem) → Told J qs f → f.problems ≡ p ∷ ps → Every P qs → Untold J P
unfolding noted
told-unsolved [] f p ps told_none e h = let z : ◌≡◌ {A = ℕ} 0 1 = cc in absurd (omega arith)
told-unsolved (q ∷ qs) g p ps (told {x = found t} {f = f} j k) e h = told-unsolved qs f p ps k e h.1
told-unsolved (q ∷ qs) g p ps (told {x = unsolved} {f = f} j k) e h = record { question = q; asked = h.0; open_still = j }

-- ---- where none was found, every question has the type that the admitted assignments give
unfoldable pub told_types : Assignment → List Question → List (ℕ × Ty)
told_types σ [] = []
told_types σ (q ∷ qs) = (q.key, σ q.ref) ∷ told_types σ qs

module _ {A : Assignment → Type 0} where
  pub all_found : (qs : List Question) (f : Findings) → Told (Judge A) qs f → f.problems ≡ [] → Every (λ q. (t : Ty) × Judge A q.ref (found t)) qs
  unfolding noted
  all_found [] f told_none e = tt
  all_found (q ∷ qs) g (told {x = found t} {f = f} j k) e = ((t, j), all_found qs f k e)
  all_found (q ∷ qs) g (told {x = unsolved} {f = f} j k) e = let z : ◌≡◌ {A = ℕ} 0 1 = cc in absurd (omega arith)

  pub types-found : (σ : Assignment) → A σ → (qs : List Question) (f : Findings) → Told (Judge A) qs f → f.problems ≡ [] → f.types ≡ told_types σ qs
  unfolding noted told_types
  types-found σ a [] f told_none e = refl
  types-found σ a (q ∷ qs) g (told {x = found t} {f = f} j k) e = ap₂ ◌∷◌ (ap (λ (u : Ty). (q.key, u)) (sym (j σ a))) (types-found σ a qs f k e)
  types-found σ a (q ∷ qs) g (told {x = unsolved} {f = f} j k) e = let z : ◌≡◌ {A = ℕ} 0 1 = cc in absurd (omega arith)

-- ---- the questions about slots
pub slots-types : (σ : Assignment) (ss : List (ℕ × ℕ)) → told_types σ (slots ss) ≡ told_slots σ ss
unfolding told_types slots told_slots
slots-types σ [] = refl
slots-types σ (s ∷ ss) = ap (λ (zs : List (ℕ × Ty)). (s.1, σ s.0) ∷ zs) (slots-types σ ss)

slots-within : (all ss : List (ℕ × ℕ)) → ((r : ℕ) → SlotAt r ss → SlotAt r all) → Every (λ q. SlotAt q.ref all) (slots ss)
unfolding slots
slots-within all [] h = tt
slots-within all (s ∷ ss) h = (h s.0 (inl refl), slots-within all ss (λ r i. h r (inr i)))

pub slots-asked : (ss : List (ℕ × ℕ)) → Every (λ q. SlotAt q.ref ss) (slots ss)
slots-asked ss = slots-within ss ss (λ r i. i)

-- a slot without a type is problem 2, a name without one problem 3
pub slots_untyped : (ss : List (ℕ × ℕ)) → Every (λ q. q.problem.kind ≡ 2) (slots ss)
unfolding slots
slots_untyped [] = tt
slots_untyped (s ∷ ss) = (refl, slots_untyped ss)

-- ---- the questions about names
name_untyped : (Γ : Env) (row : Row) (m : Met) (e : Entry) → Every (λ q. q.problem.kind ≡ 3) (names Γ row) → Every (λ q. q.problem.kind ≡ 3) (ask_name e m (names Γ row))
unfolding ask_name
name_untyped Γ row m lacks h = (refl, h)
name_untyped Γ row m (holds t) h = h

pub names_untyped : (Γ : Env) (row : Row) → Every (λ q. q.problem.kind ≡ 3) (names Γ row)
unfolding names
names_untyped Γ [] = tt
names_untyped Γ (m ∷ row) = name_untyped Γ row m (Γ m.name) (names_untyped Γ row)

module _ (Γ : Env) (ρ : ℕ → Ty) (σ : Assignment) where
  head-types : (m : Met) (row : Row) (e : Entry) → Every (λ q. σ q.ref ≡ ρ q.key) (ask_name e m (names Γ row))
      → (Every (λ q. σ q.ref ≡ ρ q.key) (names Γ row) → told_types σ (names Γ row) ≡ named_entries ρ (row_lacking Γ row))
      → told_types σ (ask_name e m (names Γ row)) ≡ named_entries ρ (unheld e m ++ row_lacking Γ row)
  unfolding ask_name unheld told_types named_entries
  head-types m row lacks h rec = ap₂ ◌∷◌ (ap (λ (t : Ty). (m.name, t)) h.0) (rec h.1)
  head-types m row (holds t) h rec = rec h

  row-types : (row : Row) → Every (λ q. σ q.ref ≡ ρ q.key) (names Γ row) → told_types σ (names Γ row) ≡ named_entries ρ (row_lacking Γ row)
  unfolding names row_lacking told_types named_entries
  row-types [] h = refl
  row-types (m ∷ row) h = head-types m row (Γ m.name) h (row-types row)

  -- told in the order of first meeting
  pub names-types : (f : Formula) → ((x r : ℕ) → Γ x ≡ lacks → find x (walked Γ f).row ≡ at r → σ r ≡ ρ x) → told_types σ (names Γ (walked Γ f).row) ≡ name_entries Γ f ρ
  unfolding name_entries
  names-types f h = row-types (walked Γ f).row (found-asked Γ (λ x r. σ r ≡ ρ x) f h) ∙ ap (named_entries ρ) (walk-names Γ f)
