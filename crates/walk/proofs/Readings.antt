-- The theorems of specs/Readings.antt: `slots-long`, `same_typing`, `same_read`, `several-read`, `slots-told`.
use Rattle.std.specs.Prelude.{ℕ, suc, ◌+◌, ◌<◌, ◌≡◌, refl, List, [], ◌∷◌, length}
use Rattle.std.proofs.Common.{sym, ◌∙◌, ap, ap₂, inl, inr, arith}
use Rattle.types.specs.Ty.{Ty}
use Rattle.formula.specs.Environment.{Entry, lacks, holds, Env}
use Rattle.formula.specs.Tree.{Formula, slots_of}
use Rattle.unification.specs.Good.{Assignment}
use Rattle.unification.specs.Ops.{Meets}
use Rattle.typing.specs.Rules.{Agrees, Typing}
use Rattle.typing.specs.Typings.{Same, Several, placed_entries, slot_entries, from_list}
use Rattle.walk.specs.Writer.{at, find}
use Rattle.walk.specs.Walk.{walked}
use Rattle.walk.specs.Tables.{Carries}
use Rattle.walk.specs.Triple.{slot_types, slot_types-length}
use Rattle.walk.specs.Names.{slot_places}
use Rattle.walk.proofs.Names.{walk-places, found-met}
use Rattle.walk.specs.Whole.{found_type, entry_type, slots_read, names_read}
use Rattle.walk.proofs.Whole.{tame_formula, met_typing, typing_met, met_some}
use Rattle.walk.specs.Readings.{SlotAt, Asked, slot_asked, name_asked, told_slots}

-- as many slots as the tree says
pub slots-long : (Γ : Env) (f : Formula) (σ : Assignment) → length (slot_types σ (walked Γ f).slots) ≡ slots_of f
unfolding walked
slots-long Γ f σ = slot_types-length σ (walked Γ f).slots ∙ (tame_formula Γ f).counts 0 []

-- ---- a typing is what it gives to the slots and to the lacking names
carries_as : (τ τ' : ℕ → Ty) (k : ℕ) (us : List Ty) → ((i : ℕ) → i < k + length us → τ i ≡ τ' i) → Carries τ k us → Carries τ' k us
carries_as τ τ' k [] h c = tt
carries_as τ τ' k (u ∷ us) h c = (sym (h k (omega arith)) ∙ c.0, carries_as τ τ' (suc k) us (λ i l. h i (omega arith)) c.1)

pub same_typing : (Γ : Env) (f : Formula) (τ ρ τ' ρ' : ℕ → Ty) → Typing Γ f τ ρ → Agrees Γ ρ' → Same Γ f τ ρ τ' ρ' → Typing Γ f τ' ρ'
same_typing Γ f τ ρ τ' ρ' t a h =
    let m = typing_met Γ f τ ρ t in
    let l = slots-long Γ f m.0 in
    met_typing Γ f m.0 τ' ρ' m.1
    (record {
      slots = carries_as τ τ' 0 (slot_types m.0 (walked Γ f).slots) (λ i q. h.0 i (omega arith)) m.2.slots;
      names = λ x r e. m.2.names x r e ∙ name-same x r e (Γ x) refl;
    })
    a
  where
    name-same : (x r : ℕ) → find x (walked Γ f).row ≡ at r → (e : Entry) → Γ x ≡ e → ρ x ≡ ρ' x
    name-same x r w lacks q = h.1 x (found-met Γ f x r q w)
    name-same x r w (holds u) q = t.agrees x u q ∙ sym (a x u q)

slot_agrees : (σ σ' : Assignment) (r : ℕ) (ss : List (ℕ × ℕ)) → slot_types σ ss ≡ slot_types σ' ss → SlotAt r ss → σ r ≡ σ' r
unfolding slot_types
slot_agrees σ σ' r [] e h = absurd h
slot_agrees σ σ' r (s ∷ ss) e (inl q) = let w : σ s.0 ≡ σ' s.0 = cc in ap σ q ∙ w ∙ ap σ' (sym q)
slot_agrees σ σ' r (s ∷ ss) e (inr h) = let w : slot_types σ ss ≡ slot_types σ' ss = cc in slot_agrees σ σ' r ss w h

lists_agree : (us vs : List Ty) → length us ≡ length vs → ((i : ℕ) → i < length us → from_list us i ≡ from_list vs i) → us ≡ vs
unfolding from_list
lists_agree [] [] e h = refl
lists_agree [] (v ∷ vs) e h = absurd (omega arith)
lists_agree (u ∷ us) [] e h = absurd (omega arith)
lists_agree (u ∷ us) (v ∷ vs) e h = ap₂ ◌∷◌ (h 0 (omega arith)) (lists_agree us vs (omega arith) (λ i l. h (suc i) (omega arith)))

name-read : (Γ : Env) (f : Formula) (σ : Assignment) (x r : ℕ) → find x (walked Γ f).row ≡ at r → Γ x ≡ lacks → names_read Γ f σ x ≡ σ r
unfolding names_read entry_type found_type
name-read Γ f σ x r e h = ap (λ (z : Entry). entry_type z (found_type σ (find x (walked Γ f).row))) h ∙ ap (found_type σ) e

-- assignments that are read as one typing agree wherever they are read
pub same_read : (Γ : Env) (f : Formula) (σ σ' : Assignment) → Same Γ f (slots_read Γ f σ) (names_read Γ f σ) (slots_read Γ f σ') (names_read Γ f σ') → (r : ℕ) → Asked Γ f r → σ r ≡ σ' r
unfolding slots_read
same_read Γ f σ σ' h r (slot_asked i) =
    let l = slots-long Γ f σ in
    let l' = slots-long Γ f σ' in
    slot_agrees σ σ' r (walked Γ f).slots (lists_agree (slot_types σ (walked Γ f).slots) (slot_types σ' (walked Γ f).slots) (omega arith) (λ j q. h.0 j (omega arith))) i
same_read Γ f σ σ' h r (name_asked x e l) = sym (name-read Γ f σ x r e l) ∙ h.1 x (found-met Γ f x r l e) ∙ name-read Γ f σ' x r e l

-- two assignments that meet the operations and differ where they are read: two typings
pub several-read : (Γ : Env) (f : Formula) (σ σ' : Assignment) → Meets σ 0 (walked Γ f).ops → Meets σ' 0 (walked Γ f).ops → (r : ℕ) → Asked Γ f r → (σ r ≡ σ' r → ⊥) → Several Γ f
several-read Γ f σ σ' m m' r a d = record {
  slots_one = slots_read Γ f σ;
  names_one = names_read Γ f σ;
  slots_other = slots_read Γ f σ';
  names_other = names_read Γ f σ';
  one = met_some Γ f σ m;
  other = met_some Γ f σ' m';
  differ = λ h. d (same_read Γ f σ σ' h r a);
}

placed-told : (σ : Assignment) (τ : ℕ → Ty) (k : ℕ) (ss : List (ℕ × ℕ)) → Carries τ k (slot_types σ ss) → placed_entries τ k (slot_places ss) ≡ told_slots σ ss
unfolding placed_entries slot_places slot_types told_slots
placed-told σ τ k [] c = refl
placed-told σ τ k (s ∷ ss) c = ap₂ ◌∷◌ (ap (λ (t : Ty). (s.1, t)) c.0) (placed-told σ τ (suc k) ss c.1)

pub slots-told : (Γ : Env) (f : Formula) (σ : Assignment) (τ : ℕ → Ty) → Carries τ 0 (slot_types σ (walked Γ f).slots) → slot_entries f τ ≡ told_slots σ (walked Γ f).slots
unfolding slot_entries
slots-told Γ f σ τ c = ap (placed_entries τ 0) (sym (walk-places Γ f)) ∙ placed-told σ τ 0 (walked Γ f).slots c
