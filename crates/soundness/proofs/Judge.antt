-- From the outcome to the answer: each thing that an answer's number and bytes can say, and what it says of the typings.
use Rattle.std.specs.Prelude.{ℕ, ◌≡◌, ◌⊎◌, ◌↔◌}
use Rattle.std.proofs.Math.Path.{refl, ap₂}
use Rattle.std.proofs.Common.{sym, inl, inr, arith}
use mathlib.Core.List.{List, [], ◌++◌}
use Rattle.types.specs.Ty.{Ty}
use Rattle.formula.specs.Environment.{Env, spell_entries}
use Rattle.formula.specs.Tree.{Formula}
use Rattle.typing.specs.Rules.{Typing}
use Rattle.typing.specs.Typings.{One, None, Several, name_entries, slot_entries, excluded_of}
use Rattle.walk.specs.Readings.{several_not_one}
use Rattle.unification.specs.Ops.{In}
use Rattle.inference.specs.Answer.{Problem, spell_problems, spell_slots, written}
use Rattle.inference.specs.Finish.{Outcome, typed, failed}
use Rattle.inference.specs.Infer.{answer}
use Rattle.soundness.specs.Listing.{Lists, AllOf, SomeOf, Clash, Untyped, problem_of, all-some, same-all}
use Rattle.soundness.specs.Verdict.{OfWalk, Verdict, one, several, none}

module _ (Γ : Env) (f : Formula) (steps : ℕ) where
  typed_one : (o : Outcome) → Verdict Γ f o → (answer steps o).number ≡ 0 → One Γ f
  unfolding answer written
  typed_one o (one es ss h k) e = h
  typed_one o (several ps h k) e = absurd (omega arith)
  typed_one o (none ps h k l m) e = absurd (omega arith)

  one_typed : (o : Outcome) → Verdict Γ f o → One Γ f → (answer steps o).number ≡ 0
  unfolding answer written
  one_typed o (one es ss h k) g = refl
  one_typed o (several ps h k) g = absurd (several_not_one Γ f h g.1)
  one_typed o (none ps h k l m) g = absurd (h g.0)

  pub number-one : (o : Outcome) → Verdict Γ f o → ((answer steps o).number ≡ 0) ↔ One Γ f
  number-one o v = (typed_one o v, one_typed o v)

  pub bytes_typing : (o : Outcome) → Verdict Γ f o → (answer steps o).number ≡ 0 → (τ ρ : ℕ → Ty) → Typing Γ f τ ρ
      → (answer steps o).bytes ≡ spell_entries (name_entries Γ f ρ) ++ spell_slots (slot_entries f τ)
  unfolding answer written
  bytes_typing o (one es ss h k) e τ ρ t = let q = k τ ρ t in ap₂ (λ (x y : List (ℕ × Ty)). spell_entries x ++ spell_slots y) q.0 q.1
  bytes_typing o (several ps h k) e τ ρ t = absurd (omega arith)
  bytes_typing o (none ps h k l m) e τ ρ t = absurd (omega arith)

  -- ---- what is listed
  failed_lists : (ps : List Problem) → Lists (answer steps (failed ps)) ps
  unfolding answer written
  failed_lists ps = record { problems = refl; spelt = refl }

  same-list : (ps qs : List Problem) → Lists (answer steps (failed ps)) qs → spell_problems ps ≡ spell_problems qs
  unfolding answer written
  same-list ps qs l = l.spelt

  typed_lists : {A : Type 0} (es ss : List (ℕ × Ty)) (qs : List Problem) → Lists (answer steps (typed es ss)) qs → A
  unfolding answer written
  typed_lists es ss qs l = let e = l.problems in absurd (omega arith)

  abbrev Listing : (Problem → Type 0) → Outcome → Type 0
  Listing P o = (ps : List Problem) × Lists (answer steps o) ps × SomeOf P ps

  clash_untyped : (p : Problem) → Untyped p → Clash p → ⊥
  clash_untyped p (inl e) l = omega arith
  clash_untyped p (inr e) l = omega arith

  clash-none : (o : Outcome) → Verdict Γ f o → Listing Clash o → None Γ f
  clash-none o (one es ss h k) (ps, l, c) = typed_lists es ss ps l
  clash-none o (several qs h k) (ps, l, c) = absurd (all-some Untyped Clash clash_untyped ps (same-all (λ n. (n ≡ 2) ⊎ (n ≡ 3)) qs ps (same-list qs ps l) k) c)
  clash-none o (none qs h k m n) (ps, l, c) = h

  none-clash : (o : Outcome) → Verdict Γ f o → excluded_of f ≡ [] → None Γ f → Listing Clash o
  none-clash o (one es ss h k) e g = absurd (g h.0)
  none-clash o (several qs h k) e g = absurd (g (h.slots_one, h.names_one, h.one))
  none-clash o (none qs h k m n) e g = (qs, failed_lists qs, m e)

  pub listing-clash : (o : Outcome) → Verdict Γ f o → excluded_of f ≡ [] → Listing Clash o ↔ None Γ f
  listing-clash o v e = (clash-none o v, none-clash o v e)

  abbrev AllListed : (Problem → Type 0) → Outcome → Type 0
  AllListed P o = (ps : List Problem) × Lists (answer steps o) ps × AllOf P ps

  walk_untyped : (p : Problem) → Untyped p → OfWalk p → ⊥
  walk_untyped p (inl e) (inl l) = omega arith
  walk_untyped p (inr e) (inl l) = omega arith
  walk_untyped p (inl e) (inr (inl l)) = omega arith
  walk_untyped p (inr e) (inr (inl l)) = omega arith
  walk_untyped p (inl e) (inr (inr l)) = omega arith
  walk_untyped p (inr e) (inr (inr l)) = omega arith

  untyped_several : (o : Outcome) → Verdict Γ f o → AllListed Untyped o → Several Γ f
  untyped_several o (one es ss h k) (ps, l, c) = typed_lists es ss ps l
  untyped_several o (several qs h k) (ps, l, c) = h
  untyped_several o (none qs h k m n) (ps, l, c) = absurd (all-some Untyped OfWalk walk_untyped qs (same-all (λ n. (n ≡ 2) ⊎ (n ≡ 3)) ps qs (sym (same-list qs ps l)) c) k)

  several_untyped : (o : Outcome) → Verdict Γ f o → Several Γ f → AllListed Untyped o
  several_untyped o (one es ss h k) g = absurd (several_not_one Γ f g h.1)
  several_untyped o (several qs h k) g = (qs, failed_lists qs, k)
  several_untyped o (none qs h k m n) g = absurd (h (g.slots_one, g.names_one, g.one))

  pub listing_untyped : (o : Outcome) → Verdict Γ f o → AllListed Untyped o ↔ Several Γ f
  listing_untyped o v = (untyped_several o v, several_untyped o v)

  -- ---- what the formula excludes
  pub listing_excluded : (o : Outcome) → Verdict Γ f o → None Γ f → (z : ℕ × ℕ) → In z (excluded_of f) → (ps : List Problem) × Lists (answer steps o) ps × SomeOf (λ p. p ≡ problem_of z) ps
  listing_excluded o (one es ss h k) g z i = absurd (g h.0)
  listing_excluded o (several qs h k) g z i = absurd (g (h.slots_one, h.names_one, h.one))
  listing_excluded o (none qs h k m n) g z i = (qs, failed_lists qs, n z i)
