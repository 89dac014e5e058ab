-- The theorems of specs/Verdict.antt: `walk_runs`, `admits_met`, `met_admitted`, `typings_exist`, `own-problems`, `excluded_listed` and others.
use Rattle.std.specs.Prelude.{ℕ, suc, ◌+◌, ◌*◌, ◌≤◌, ◌<◌, ◌↔◌, Bool, true}
use Rattle.std.proofs.Math.Path.{◌≡◌, refl, sym, ap, ap₂, subst}
use Rattle.std.proofs.Common.{◌∙◌, inl, arith}
use Rattle.std.proofs.Math.Bool.{false}
use mathlib.Core.List.{List, [], ◌∷◌}
use Rattle.std.proofs.Math.Decide.{ℕ_discrete}
use Rattle.std.proofs.Math.ListN.{length}
use Rattle.types.specs.Ty.{bool, int, Ty, base}
use Rattle.formula.specs.Environment.{Entry, lacks, holds, Env}
use Rattle.formula.specs.Tree.{Formula, slots_of}
use Rattle.meter.specs.Meter.{done, Exact, exact-done}
use Rattle.unification.specs.Arena.{Words, U, node_at, solved}
use Rattle.unification.specs.Trees.{var, ground, ground-same, ground_differs}
use Rattle.unification.specs.Good.{Assignment, spelt, extend, extend_admits}
use Rattle.unification.specs.Readers.{solved-exact}
use Rattle.unification.specs.Ops.{nodes, Meets, Bench, Admitted, Ready, Judged, clean, hopeless, Ran, Whence, before, listing, failing, In, listed, exec}
use Rattle.unification.proofs.Ops.{exec-exact}
use Rattle.typing.specs.Rules.{Agrees, Typing}
use Rattle.typing.specs.Typings.{excluded_of, Some, AtMostOne, None, Several, from_list}
use Rattle.walk.specs.Writer.{at, find}
use Rattle.walk.specs.Walk.{walked}
use Rattle.walk.specs.Tables.{Carries}
use Rattle.walk.specs.Triple.{slot_types, slot_types-length}
use Rattle.walk.proofs.Names.{met-found, found-met}
use Rattle.walk.proofs.Safe.{safe-formula}
use Rattle.walk.proofs.Excluded.{own-listed}
use Rattle.walk.specs.Readings.{Asked}
use Rattle.walk.proofs.Readings.{several-read}
use Rattle.walk.specs.Whole.{none_found, found_type, entry_type, slots_read, names_read}
use Rattle.walk.proofs.Whole.{tame_formula, typing_met, met_some}
use Rattle.walk.specs.Verdict.{start, SlotsFixed, NamesFixed, G, Fixed, AllFixed, reading}

start-ready : (cap : ℕ) (ws : Words) → 3 * cap ≤ length ws → Ready cap (start ws)
unfolding start
start-ready cap ws l = record { roomy = l; good = record { tree = λ x. var x; rank = λ x. 0; fits = λ x l. absurd (omega arith) } }

pub walk_runs : (Γ : Env) (f : Formula) (cap : ℕ) (ws : Words) → 3 * cap ≤ length ws → nodes (walked Γ f).ops ≤ cap → Exact (λ _. U) (Ran cap (start ws) (walked Γ f).ops) (exec cap (walked Γ f).ops (start ws))
unfolding start walked
walk_runs Γ f cap ws l n = exec-exact cap (walked Γ f).ops (start ws) (start-ready cap ws l) ((safe-formula Γ f).safe 0 (omega arith) [] (λ x r e. absurd (none x r e))).0 (omega arith)
  where
    none : (x r : ℕ) → find x [] ≡ at r → ⊥
    none x r e = none_found x r e

module _ (Γ : Env) (f : Formula) (cap : ℕ) (ws : Words) (s : Bench) (ran : Ran cap (start ws) (walked Γ f).ops s) where
  first_admits : (σ : Assignment) → Admitted (start ws) σ
  unfolding start
  first_admits σ x l = absurd (omega arith)

  -- what the arena after the walk admits, and what it asks
  pub admits_met : (σ : Assignment) → Meets σ 0 (walked Γ f).ops → Admitted s σ
  unfolding start
  admits_met σ m = ran.takes σ (first_admits σ) m

  pub met_admitted : s.problems ≡ [] → (σ : Assignment) → Admitted s σ → Meets σ 0 (walked Γ f).ops
  unfolding start
  met_admitted e σ A = go ran.judged
    where
      go : Judged (start ws) (walked Γ f).ops s → Meets σ 0 (walked Γ f).ops
      go (clean q h) = (h σ A).1
      go (hopeless q h) = let z = ap length e in absurd (omega arith)

  -- E4: nothing is listed by the walk exactly if there is a typing
  pub typings_exist : (s.problems ≡ []) ↔ Some Γ f
  unfolding start
  typings_exist = (
    λ e. (let σ : Assignment = extend s.count (node_at s.words s.count) ran.ready.good (λ x. base bool) in
        (slots_read Γ f σ, names_read Γ f σ, met_some Γ f σ (met_admitted e σ (extend_admits s.count (node_at s.words s.count) ran.ready.good (λ x. base bool))))),
    λ t. go t ran.judged,
  )
    where
      go : Some Γ f → Judged (start ws) (walked Γ f).ops s → s.problems ≡ []
      go t (clean q h) = q
      go t (hopeless q h) = let m = typing_met Γ f t.0 t.1 t.2 in absurd (h m.0 (first_admits m.0) m.1)

  -- E6: what the walk lists of its own (dangling index, application, 4F ascription) is among the problems, and there is no typing
  pub own-problems : (z : ℕ × ℕ) → In z (listed (walked Γ f).ops) → In z s.problems × (Some Γ f → ⊥)
  unfolding start
  own-problems z h = (ran.told z h, λ t. no_problem (typings_exist.1 t) (ran.told z h))
    where
      no_problem : {ps : List (ℕ × ℕ)} → ps ≡ [] → In z ps → ⊥
      no_problem e i = subst (In z) e i

  pub excluded_listed : (z : ℕ × ℕ) → In z (excluded_of f) → In z s.problems
  excluded_listed z h = ran.told z (subst (In z) (sym (own-listed Γ f)) h)

  -- where the tree excludes nothing, every problem of the walk is a comparison's: 0 or 1
  pub clash_kinds : excluded_of f ≡ [] → (z : ℕ × ℕ) → In z s.problems → z.0 < 2
  unfolding start
  clash_kinds e z h = go (ran.whence z h)
    where
      go : Whence z [] (listed (walked Γ f).ops) → z.0 < 2
      go (before i) = absurd i
      go (listing i) = absurd (subst (In z) (own-listed Γ f ∙ e) i)
      go (failing l) = l

  -- E4: where the tree excludes nothing, a problem 0 or 1 is listed by the walk exactly if there is no typing
  pub clash-none : excluded_of f ≡ [] → ((z : ℕ × ℕ) × In z s.problems × (z.0 < 2)) ↔ None Γ f
  clash-none e = (λ h t. no_problem h.0 (typings_exist.1 t) h.1, λ n. some-problem s.problems refl n)
    where
      no_problem : (z : ℕ × ℕ) {ps : List (ℕ × ℕ)} → ps ≡ [] → In z ps → ⊥
      no_problem z q i = subst (In z) q i

      some-problem : (ps : List (ℕ × ℕ)) → s.problems ≡ ps → None Γ f → (z : ℕ × ℕ) × In z s.problems × (z.0 < 2)
      some-problem [] q n = absurd (n (typings_exist.0 q))
      some-problem (z ∷ ps) q n = let i : In z s.problems = subst (In z) (sym q) (inl refl) in (z, i, clash_kinds e z i)

  same-types : (xs : List (ℕ × ℕ)) → SlotsFixed Γ f cap ws s ran xs → (σ σ' : Assignment) → Admitted s σ → Admitted s σ' → slot_types σ xs ≡ slot_types σ' xs
  unfolding slot_types
  same-types [] h σ σ' A A' = refl
  same-types (x ∷ xs) h σ σ' A A' = ap₂ ◌∷◌ (h.0 σ σ' A A') (same-types xs h.1 σ σ' A A')

  carries_same : (us : List Ty) (τ τ' : ℕ → Ty) (k i : ℕ) → Carries τ k us → Carries τ' k us → k ≤ i → i < k + length us → τ i ≡ τ' i
  carries_same [] τ τ' k i c c' l h = absurd (omega arith)
  carries_same (u ∷ us) τ τ' k i c c' l h = go (carries_same us τ τ' (suc k) i c.1 c'.1) (ℕ_discrete i k)
    where
      go : (suc k ≤ i → i < suc k + length us → τ i ≡ τ' i) → Dec (i ≡ k) → τ i ≡ τ' i
      go ih (yes e) = ap τ e ∙ c.0 ∙ sym c'.0 ∙ ap τ' (sym e)
      go ih (no e) = ih (omega arith) (omega arith)

  held_same : (ρ ρ' : ℕ → Ty) → Agrees Γ ρ → Agrees Γ ρ' → (x : ℕ) → (Γ x ≡ lacks → ρ x ≡ ρ' x) → ρ x ≡ ρ' x
  held_same ρ ρ' a a' x h = go (Γ x) refl
    where
      go : (e : Entry) → Γ x ≡ e → ρ x ≡ ρ' x
      go lacks q = h q
      go (holds t) q = a x t q ∙ sym (a' x t q)

  fixed_one : SlotsFixed Γ f cap ws s ran (walked Γ f).slots × NamesFixed Γ f cap ws s ran → AtMostOne Γ f
  unfolding walked
  fixed_one h τ ρ τ' ρ' t t' =
      let m = typing_met Γ f τ ρ t in
      let m' = typing_met Γ f τ' ρ' t' in
      let A = admits_met m.0 m.1 in
      let A' = admits_met m'.0 m'.1 in
      let e = same-types (walked Γ f).slots h.0 m.0 m'.0 A A' in
      let c : length (slot_types m.0 (walked Γ f).slots) ≡ slots_of f = slot_types-length m.0 (walked Γ f).slots ∙ (tame_formula Γ f).counts 0 [] in (
        (λ i l. carries_same (slot_types m.0 (walked Γ f).slots) τ τ' 0 i m.2.slots (subst (Carries τ' 0) (sym e) m'.2.slots) (omega arith) (omega arith)),
        (λ x g. (let w = met-found Γ f x g in held_same ρ ρ' t.agrees t'.agrees x (λ z. sym (m.2.names x w.0 w.1) ∙ h.1 x w.0 w.1 z m.0 m'.0 A A' ∙ m'.2.names x w.0 w.1))),
      )

  -- the other way: a slot's type is read off a typing
  slots_apart : (xs : List (ℕ × ℕ)) → ((σ σ' : Assignment) → Admitted s σ → Admitted s σ' → slot_types σ xs ≡ slot_types σ' xs) → SlotsFixed Γ f cap ws s ran xs
  unfolding slot_types
  slots_apart [] h = tt
  slots_apart (x ∷ xs) h = ((λ σ σ' A A'. first (h σ σ' A A')), slots_apart xs (λ σ σ' A A'. rest (h σ σ' A A')))
    where
      first : {u v : Ty} {us vs : List Ty} → u ∷ us ≡ v ∷ vs → u ≡ v
      first e = cc

      rest : {u v : Ty} {us vs : List Ty} → u ∷ us ≡ v ∷ vs → us ≡ vs
      rest e = cc

  lists_same : (us vs : List Ty) → length us ≡ length vs → ((i : ℕ) → i < length us → from_list us i ≡ from_list vs i) → us ≡ vs
  unfolding from_list
  lists_same [] [] e h = refl
  lists_same [] (v ∷ vs) e h = absurd (omega arith)
  lists_same (u ∷ us) [] e h = absurd (omega arith)
  lists_same (u ∷ us) (v ∷ vs) e h = ap₂ ◌∷◌ (h 0 (omega arith)) (lists_same us vs (omega arith) (λ i l. h (suc i) (omega arith)))

  found-read : (σ : Assignment) (x r : ℕ) → find x (walked Γ f).row ≡ at r → Γ x ≡ lacks → names_read Γ f σ x ≡ σ r
  unfolding names_read entry_type found_type
  found-read σ x r e h = ap (λ (z : Entry). entry_type z (found_type σ (find x (walked Γ f).row))) h ∙ ap (found_type σ) e

  one_fixed : s.problems ≡ [] → AtMostOne Γ f → SlotsFixed Γ f cap ws s ran (walked Γ f).slots × NamesFixed Γ f cap ws s ran
  unfolding slots_read walked
  one_fixed e h = (
    slots_apart (walked Γ f).slots (λ σ σ' A A'. (
        let q = h (slots_read Γ f σ) (names_read Γ f σ) (slots_read Γ f σ') (names_read Γ f σ') (met_some Γ f σ (met_admitted e σ A)) (met_some Γ f σ' (met_admitted e σ' A')) in
        let c : length (slot_types σ (walked Γ f).slots) ≡ slots_of f = slot_types-length σ (walked Γ f).slots ∙ (tame_formula Γ f).counts 0 [] in
        let c' : length (slot_types σ' (walked Γ f).slots) ≡ slots_of f = slot_types-length σ' (walked Γ f).slots ∙ (tame_formula Γ f).counts 0 [] in
        lists_same (slot_types σ (walked Γ f).slots) (slot_types σ' (walked Γ f).slots) (omega arith) (λ i l. q.0 i (omega arith)))),
    λ x r w z σ σ' A A'. (
        let q = h (slots_read Γ f σ) (names_read Γ f σ) (slots_read Γ f σ') (names_read Γ f σ') (met_some Γ f σ (met_admitted e σ A)) (met_some Γ f σ' (met_admitted e σ' A')) in
        sym (found-read σ x r w z) ∙ q.1 x (found-met Γ f x r z w) ∙ found-read σ' x r w z),
  )

  -- E3, E5: where nothing is listed by the walk, every slot and every name is solved exactly if there is one typing only
  pub one_typing : s.problems ≡ [] → (SlotsFixed Γ f cap ws s ran (walked Γ f).slots × NamesFixed Γ f cap ws s ran) ↔ AtMostOne Γ f
  one_typing e = (fixed_one, one_fixed e)

  -- E3: what any admitted assignment reads is the one typing
  pub typing_spelt : SlotsFixed Γ f cap ws s ran (walked Γ f).slots × NamesFixed Γ f cap ws s ran → (τ ρ : ℕ → Ty) → Typing Γ f τ ρ → (σ : Assignment) → Admitted s σ
      → Carries τ 0 (slot_types σ (walked Γ f).slots) × ((x r : ℕ) → find x (walked Γ f).row ≡ at r → Γ x ≡ lacks → ρ x ≡ σ r)
  typing_spelt h τ ρ t σ A =
      let m = typing_met Γ f τ ρ t in
      let A' = admits_met m.0 m.1 in (
        subst (Carries τ 0) (same-types (walked Γ f).slots h.0 m.0 σ A' A) m.2.slots,
        λ x r e z. sym (m.2.names x r e) ∙ h.1 x r e z m.0 σ A' A,
      )

  fixed_cases : (t : ℕ) → t < s.count → (c : Bool) → c ≡ ground ((G Γ f cap ws s ran).tree t) → (c ≡ true) ↔ Fixed Γ f cap ws s ran t
  fixed_cases t l true h = (λ _ σ σ' A A'. spelt s.count (node_at s.words s.count) (G Γ f cap ws s ran) σ A t l ∙ ground-same σ σ' ((G Γ f cap ws s ran).tree t) (sym h) ∙ sym (spelt s.count (node_at s.words s.count) (G Γ f cap ws s ran) σ' A' t l), λ _. refl)
  fixed_cases t l false h = (
    λ e. (let z : ◌≡◌ {A = ℕ} 0 1 = cc in absurd (omega arith)),
    λ d.
        (let ν : Assignment = λ x. base bool in
        let μ : Assignment = λ x. base int in
        absurd (ground_differs ν μ (λ x e. (let z : ◌≡◌ {A = ℕ} 0 1 = cc in omega arith)) ((G Γ f cap ws s ran).tree t) (sym h)
        (d (extend s.count (node_at s.words s.count) (G Γ f cap ws s ran) ν) (extend s.count (node_at s.words s.count) (G Γ f cap ws s ran) μ) (extend_admits s.count (node_at s.words s.count) (G Γ f cap ws s ran) ν) (extend_admits s.count (node_at s.words s.count) (G Γ f cap ws s ran) μ)))),
  )

  pub solved_fixed : (t : ℕ) → t < s.count → (β r : ℕ) (c : Bool) → solved s.words s.count t β ≡ done c r → (c ≡ true) ↔ Fixed Γ f cap ws s ran t
  solved_fixed t l β r c e = fixed_cases t l c (exact-done (solved-exact s.words s.count (G Γ f cap ws s ran) t l) β c r e)

  pub verdict-one : ((s.problems ≡ []) × AllFixed Γ f cap ws s ran) ↔ (Some Γ f × AtMostOne Γ f)
  verdict-one = (λ h. (typings_exist.0 h.0, fixed_one h.1), λ h. (let e = typings_exist.1 h.0 in (e, one_fixed e h.1)))

  pub verdict-none : (s.problems ≡ [] → ⊥) ↔ (Some Γ f → ⊥)
  verdict-none = (λ h t. h (typings_exist.1 t), λ h e. h (typings_exist.0 e))

  pub verdict-several : ((s.problems ≡ []) × (AllFixed Γ f cap ws s ran → ⊥)) ↔ (Some Γ f × (AtMostOne Γ f → ⊥))
  verdict-several = (λ h. (typings_exist.0 h.0, λ o. h.1 (one_fixed h.0 o)), λ h. (typings_exist.1 h.0, λ a. h.1 (fixed_one a)))

  pub reading_admitted : (t : Ty) → Admitted s (reading Γ f cap ws s ran t)
  unfolding reading
  reading_admitted t = extend_admits s.count (node_at s.words s.count) (G Γ f cap ws s ran) (λ x. t)

  pub reading_typing : s.problems ≡ [] → (t : Ty) → Typing Γ f (slots_read Γ f (reading Γ f cap ws s ran t)) (names_read Γ f (reading Γ f cap ws s ran t))
  unfolding reading
  reading_typing e t = met_some Γ f (reading Γ f cap ws s ran t) (met_admitted e (reading Γ f cap ws s ran t) (extend_admits s.count (node_at s.words s.count) (G Γ f cap ws s ran) (λ x. t)))

  pub readings_differ : (x : ℕ) → x < s.count → (β r : ℕ) → solved s.words s.count x β ≡ done false r → reading Γ f cap ws s ran (base int) x ≡ reading Γ f cap ws s ran (base bool) x → ⊥
  unfolding reading
  readings_differ x l β r e = ground_differs (λ y. base int) (λ y. base bool) (λ y q. (let z : ◌≡◌ {A = ℕ} 0 1 = cc in omega arith)) ((G Γ f cap ws s ran).tree x) (sym (exact-done (solved-exact s.words s.count (G Γ f cap ws s ran) x l) β false r e))

  -- E5: a slot or a lacking name that is not solved gives two different typings
  pub unsolved-several : s.problems ≡ [] → (x : ℕ) → Asked Γ f x → x < s.count → (β r : ℕ) → solved s.words s.count x β ≡ done false r → Several Γ f
  unsolved-several e x a l β r q = several-read Γ f (reading Γ f cap ws s ran (base int)) (reading Γ f cap ws s ran (base bool)) (meets (base int)) (meets (base bool)) x a (readings_differ x l β r q)
    where
      meets : (t : Ty) → Meets (reading Γ f cap ws s ran t) 0 (walked Γ f).ops
      meets t = met_admitted e (reading Γ f cap ws s ran t) (reading_admitted t)
