-- The theorems of specs/Verdict.antt: `verdict`.
use Rattle.std.specs.Prelude.{ℕ, ◌+◌, ◌*◌, ◌<◌, ◌≡◌, ◌⊎◌, Bool, true, false}
use Rattle.std.proofs.Math.Path.{refl, sym, subst}
use Rattle.std.proofs.Common.{◌∙◌, ap, arith}
use Rattle.std.proofs.Math.Logic.{inl, inr}
use mathlib.Core.List.{List, [], ◌∷◌, ◌++◌}
use Rattle.meter.specs.Meter.{done, Exact}
use Rattle.types.specs.Ty.{Ty, base, bool}
use Rattle.formula.specs.Environment.{Env}
use Rattle.formula.specs.Tree.{Formula}
use Rattle.typing.specs.Rules.{Typing}
use Rattle.typing.specs.Typings.{Several, name_entries, slot_entries}
use Rattle.unification.specs.Arena.{U, solved}
use Rattle.unification.specs.Trees.{ground}
use Rattle.unification.specs.Good.{Assignment}
use Rattle.unification.specs.Readers.{solved-exact}
use Rattle.unification.specs.Ops.{Bench, Ran, Admitted, Whence, before, listing, failing, In, listed}
use Rattle.walk.specs.Walk.{walked}
use Rattle.walk.specs.Safe.{RowIn, SlotsIn}
use Rattle.walk.proofs.Safe.{safe-formula}
use Rattle.walk.specs.Whole.{none_found}
use Rattle.walk.proofs.Excluded.{own-listed}
use Rattle.walk.specs.Readings.{SlotAt, Asked, slot_asked, name_asked}
use Rattle.walk.proofs.Readings.{slots-told}
use Rattle.walk.specs.Verdict.{start, SlotsFixed, NamesFixed, AllFixed, reading}
use Rattle.walk.proofs.Verdict.{typings_exist, excluded_listed, clash_kinds, one_typing, typing_spelt, reading_admitted, solved_fixed, unsolved-several}
use Rattle.inference.specs.Answer.{Problem}
use Rattle.inference.specs.Finish.{found, unsolved, Findings, names, slots, Outcome, typed, failed, settled, walk_problems}
use Rattle.inference.specs.Infer.{zeros}
use Rattle.inference.specs.Rows.{Every, every_map}
use Rattle.inference.proofs.Rows.{found-asked, asked-found}
use Rattle.inference.specs.Conclude.{Told, Judged, SlotsTold, Finished, size, Concluded}
use Rattle.soundness.specs.Listing.{AllOf, SomeOf, Clash, Untyped, problem_of, some-map, walk-listed}
use Rattle.soundness.specs.Findings.{told-problems, told-unsolved, all_found, types-found, slots-types, slots-asked, slots_untyped, names_untyped, names-types}
use Rattle.soundness.specs.Excluded.{excluded_kinds}
use Rattle.soundness.specs.Verdict.{Verdict, one, OfWalk, none, several}

module _ (Γ : Env) (f : Formula) (s : Bench) (ran : Ran (size Γ f) (start (zeros (3 * size Γ f))) (walked Γ f).ops s) where
  -- ---- what is asked lies inside the arena
  slot_inside : (n : ℕ) (ss : List (ℕ × ℕ)) → SlotsIn n ss → (r : ℕ) → SlotAt r ss → r < n
  slot_inside n [] h r i = absurd i
  slot_inside n (x ∷ ss) h r (inl e) = let q = h.0 in omega arith
  slot_inside n (x ∷ ss) h r (inr i) = slot_inside n ss h.1 r i

  asked-inside : (r : ℕ) → Asked Γ f r → r < s.count
  unfolding walked start
  asked-inside r a = go a
    where
      safe : RowIn (0 + size Γ f) (walked Γ f).row × SlotsIn (0 + size Γ f) (walked Γ f).slots
      safe = let w = (safe-formula Γ f).safe 0 (omega arith) [] (λ x r e. absurd (none_found x r e)) in (w.1, w.2)

      go : Asked Γ f r → r < s.count
      go (slot_asked i) = let q = slot_inside (0 + size Γ f) (walked Γ f).slots safe.1 r i in let c = ran.counted in omega arith
      go (name_asked x e l) = let q = safe.0 x r e in let c = ran.counted in omega arith

  -- ---- something asked has no type: two typings
  unsolved-two : s.problems ≡ [] → (r : ℕ) → Asked Γ f r → Judged s r unsolved → Several Γ f
  unsolved-two e r a j = go (solved-exact s.words s.count ran.ready.good r (asked-inside r a))
    where
      at-answer : (x : Exact (λ _. U) (λ c. c ≡ ground (ran.ready.good.tree r)) (solved s.words s.count r)) → (c : Bool) → x.answer ≡ c → Several Γ f
      at-answer x true q = absurd (j ((solved_fixed Γ f (size Γ f) (zeros (3 * size Γ f)) s ran r (asked-inside r a) (x.cost + 0) 0 true (x.enough 0 ∙ ap (λ (c : Bool). done c 0) q)).0 refl))
      at-answer x false q = unsolved-several Γ f (size Γ f) (zeros (3 * size Γ f)) s ran e r a (asked-inside r a) (x.cost + 0) 0 (x.enough 0 ∙ ap (λ (c : Bool). done c 0) q)

      go : Exact (λ _. U) (λ c. c ≡ ground (ran.ready.good.tree r)) (solved s.words s.count r) → Several Γ f
      go x = at-answer x x.answer refl

  -- a name without a type
  open_name : s.problems ≡ [] → (g : Findings) → Told (Judged s) (names Γ (walked Γ f).row) g → (p : Problem) (ps : List Problem) → g.problems ≡ p ∷ ps → Several Γ f
  open_name e g t p ps q =
      let u = told-unsolved (names Γ (walked Γ f).row) g p ps t q (found-asked Γ (λ x r. Asked Γ f r) f (λ x r l h. name_asked x h l)) in
      unsolved-two e u.question.ref u.asked u.open_still

  -- a slot without a type
  open_slot : s.problems ≡ [] → (g : Findings) → Told (Judged s) (slots (walked Γ f).slots) g → (p : Problem) (ps : List Problem) → g.problems ≡ p ∷ ps → Several Γ f
  open_slot e g t p ps q =
      let u = told-unsolved (slots (walked Γ f).slots) g p ps t q (slots-asked (walked Γ f).slots) in
      unsolved-two e u.question.ref (slot_asked u.asked) u.open_still

  -- ---- everything asked has a type: one typing, and this is it
  agreed : (r : ℕ) (t : Ty) → Judged s r (found t) → (σ σ' : Assignment) → Admitted s σ → Admitted s σ' → σ r ≡ σ' r
  agreed r t j σ σ' A A' = j σ A ∙ sym (j σ' A')

  slots_fixed : (ss : List (ℕ × ℕ)) → Every (λ q. (t : Ty) × Judged s q.ref (found t)) (slots ss) → SlotsFixed Γ f (size Γ f) (zeros (3 * size Γ f)) s ran ss
  unfolding slots
  slots_fixed [] h = tt
  slots_fixed (x ∷ ss) h = (agreed x.0 h.0.0 h.0.1, slots_fixed ss h.1)

  names_fixed : Every (λ q. (t : Ty) × Judged s q.ref (found t)) (names Γ (walked Γ f).row) → NamesFixed Γ f (size Γ f) (zeros (3 * size Γ f)) s ran
  names_fixed h x r e l = let j = asked-found Γ (λ x r. (t : Ty) × Judged s r (found t)) (walked Γ f).row h x r l e in agreed r j.0 j.1

  module _ (e : s.problems ≡ []) (n : Findings) (tn : Told (Judged s) (names Γ (walked Γ f).row) n) (en : n.problems ≡ []) (g : Findings) (tg : Told (Judged s) (slots (walked Γ f).slots) g) (eg : g.problems ≡ []) where
    all_fixed : AllFixed Γ f (size Γ f) (zeros (3 * size Γ f)) s ran
    all_fixed = (slots_fixed (walked Γ f).slots (all_found (slots (walked Γ f).slots) g tg eg), names_fixed (all_found (names Γ (walked Γ f).row) n tn en))

    some_reading : Assignment
    some_reading = reading Γ f (size Γ f) (zeros (3 * size Γ f)) s ran (base bool)

    some_admitted : Admitted s some_reading
    unfolding some_reading
    some_admitted = reading_admitted Γ f (size Γ f) (zeros (3 * size Γ f)) s ran (base bool)

    told_typing : (τ ρ : ℕ → Ty) → Typing Γ f τ ρ → (n.types ≡ name_entries Γ f ρ) × (g.types ≡ slot_entries f τ)
    told_typing τ ρ t =
        let w = typing_spelt Γ f (size Γ f) (zeros (3 * size Γ f)) s ran all_fixed τ ρ t some_reading some_admitted in (
          types-found some_reading some_admitted (names Γ (walked Γ f).row) n tn en ∙ names-types Γ ρ some_reading f (λ x r l h. sym (w.1 x r h l)),
          types-found some_reading some_admitted (slots (walked Γ f).slots) g tg eg ∙ slots-types some_reading (walked Γ f).slots ∙ sym (slots-told Γ f some_reading τ w.0),
        )

    all_typed : Verdict Γ f (typed n.types g.types)
    all_typed = one n.types g.types ((typings_exist Γ f (size Γ f) (zeros (3 * size Γ f)) s ran).0 e, (one_typing Γ f (size Γ f) (zeros (3 * size Γ f)) s ran e).0 all_fixed) told_typing

  -- ---- the walk listed something: no typing
  kind_of : (z : ℕ × ℕ) → In z s.problems → OfWalk (problem_of z)
  unfolding start
  kind_of z h = go (ran.whence z h)
    where
      own : (z.0 ≡ 0) ⊎ (z.0 ≡ 4) ⊎ (z.0 ≡ 5) → OfWalk (problem_of z)
      own (inl q) = inl (omega arith)
      own (inr q) = inr q

      go : Whence z [] (listed (walked Γ f).ops) → OfWalk (problem_of z)
      go (before i) = absurd i
      go (listing i) = own (excluded_kinds f z (subst (In z) (own-listed Γ f) i))
      go (failing l) = inl (omega arith)

  some_as : (P : Problem → Type 0) (z : ℕ × ℕ) (ps : List Problem) → P (problem_of z) → SomeOf (λ p. p ≡ problem_of z) ps → SomeOf P ps
  some_as P z ps h i = some-map (λ p. p ≡ problem_of z) P (λ p e. subst P (sym e) h) ps i

  listed-none : (z : ℕ × ℕ) (zs : List (ℕ × ℕ)) → s.problems ≡ z ∷ zs → (ps : List Problem) → Verdict Γ f (failed (walk_problems s.problems ++ ps))
  listed-none z zs e ps =
      let i : In z s.problems = subst (In z) (sym e) (inl refl) in
      none (walk_problems s.problems ++ ps)
      (λ t. nothing (sym e ∙ (typings_exist Γ f (size Γ f) (zeros (3 * size Γ f)) s ran).1 t))
      (some_as OfWalk z (walk_problems s.problems ++ ps) (kind_of z i) (walk-listed z s.problems ps i))
      (λ x. some_as Clash z (walk_problems s.problems ++ ps) (let l = clash_kinds Γ f (size Γ f) (zeros (3 * size Γ f)) s ran x z i in omega arith) (walk-listed z s.problems ps i))
      (λ y h. walk-listed y s.problems ps (excluded_listed Γ f (size Γ f) (zeros (3 * size Γ f)) s ran y h))
    where
      nothing : z ∷ zs ≡ [] → ⊥
      nothing q = let y : ◌≡◌ {A = ℕ} 0 1 = cc in omega arith

  -- ---- the three, by what the walk, the names and the slots list
  by_slots : s.problems ≡ [] → (n : Findings) → Told (Judged s) (names Γ (walked Γ f).row) n → n.problems ≡ [] → (g : Findings) → Told (Judged s) (slots (walked Γ f).slots) g
      → (ps : List Problem) → g.problems ≡ ps → Verdict Γ f (settled ps n.types g.types)
  unfolding settled
  by_slots e n tn en g tg [] q = all_typed e n tn en g tg q
  by_slots e n tn en g tg (p ∷ ps) q = several (p ∷ ps) (open_slot e g tg p ps q)
      (subst (AllOf Untyped) q (told-problems Untyped (slots (walked Γ f).slots) g tg (every_map (λ k h. inl h) (slots (walked Γ f).slots) (slots_untyped (walked Γ f).slots))))

  by_names : s.problems ≡ [] → (n : Findings) → Told (Judged s) (names Γ (walked Γ f).row) n → (ps : List Problem) → n.problems ≡ ps → (o : Outcome) → SlotsTold s ps n.types (walked Γ f).slots o → Verdict Γ f o
  by_names e n tn [] q o t = subst (Verdict Γ f) (sym t.2) (by_slots e n tn q t.0 t.1 t.0.problems refl)
  by_names e n tn (p ∷ ps) q o t = subst (Verdict Γ f) (sym t) (several (p ∷ ps) (open_name e n tn p ps q)
      (subst (AllOf Untyped) q (told-problems Untyped (names Γ (walked Γ f).row) n tn (every_map (λ k h. inr h) (names Γ (walked Γ f).row) (names_untyped Γ (walked Γ f).row)))))

  listed-first : (z : ℕ × ℕ) (zs : List (ℕ × ℕ)) (ps : List Problem) (entries : List (ℕ × Ty)) (o : Outcome) → SlotsTold s (walk_problems (z ∷ zs) ++ ps) entries (walked Γ f).slots o → o ≡ failed (walk_problems (z ∷ zs) ++ ps)
  unfolding walk_problems
  listed-first z zs ps entries o t = t

  by-walk : (zs : List (ℕ × ℕ)) → s.problems ≡ zs → (o : Outcome) (n : Findings) → Told (Judged s) (names Γ (walked Γ f).row) n → SlotsTold s (walk_problems zs ++ n.problems) n.types (walked Γ f).slots o → Verdict Γ f o
  unfolding walk_problems
  by-walk [] e o n tn t = by_names e n tn n.problems refl o t
  by-walk (z ∷ zs) e o n tn t = subst (Verdict Γ f)
      (ap (λ (ys : List (ℕ × ℕ)). failed (walk_problems ys ++ n.problems)) e ∙ sym (listed-first z zs n.problems n.types o t))
      (listed-none z zs e n.problems)

  finished-verdict : (o : Outcome) → Finished s Γ (walked Γ f).row (walked Γ f).slots o → Verdict Γ f o
  finished-verdict o h = by-walk s.problems refl o h.0 h.1 h.2

pub verdict : (Γ : Env) (f : Formula) (o : Outcome) → Concluded Γ f o → Verdict Γ f o
verdict Γ f o h = finished-verdict Γ f h.0 h.1 o h.2
