-- What is parsed is spelled: a tree that the parse yields is spelled by the bytes it read, its places are the offsets of its records, and it keeps the limits.
-- Theorems that rest on what must-fail edits change stand in proofs/Sound.antt.
use Prim.Native.Nat.{ℕ, zero, suc, ◌+◌, ◌≤◌, ◌<◌}
use native.Mathlib.Omega.{arith}
use Rattle.std.proofs.Math.Path.{◌≡◌, refl, ap}
use Rattle.std.specs.Prelude.{Bool, get_or, Option, Some, None, Ok, Err}
use Rattle.std.proofs.Math.Bool.{true, false}
use mathlib.Core.List.{List, [], ◌∷◌, ◌++◌}
use Rattle.std.proofs.Math.Dec.{ltb}
use borrow.Author.Tests.{ltb-true}
use Rattle.types.specs.declared.Place.{Place}
use Rattle.types.specs.Ty as T
use Rattle.types.specs.Ty.{Ty}
use Rattle.formula.specs.declared.St.{St}
use Rattle.types.specs.declared.Fault.TheVariants.{Beyond}
use Rattle.formula.specs.Tree.{Spelling, Decl, Expr, Exprs, Pred, Preds, Target, Formula, decls, exprs, preds, targets, pairs, slots, slots_all, slots_pred, slots_preds, slots_pairs, slots_of}
use Rattle.formula.specs.Spell.{spell_spelling, spell_decl, spell_decls, spell, spell_all, spell_pred, spell_preds, spell_target, spell_targets, spell_pairs, spell_formula, PlacedDecl, PlacedDecls, Placed, Placed_all, PlacedPred, PlacedPreds, PlacedTargets, PlacedPairs, PlacedFormula}
use Rattle.heads.specs.Heads.{pick, target_at}
use Rattle.formula.specs.Reader.{Got, ok, bad, and_then, on_next, many, moved, own_of, declare_of, Out}
use Rattle.formula.specs.Parse.{target_by, target_in, targets_at}
use Rattle.types.specs.Limits.{max_slots, max_opened}
use Rattle.formula_laws.specs.Fits.{is_bare, FitsTy, FitsSpelling, FitsDecl, FitsDecls, Fits, FitsAll, FitsPred, FitsPreds, FitsTargets, FitsPairs, FitsRoot}
use Rattle.formula_laws.specs.Says.{Stand, stand_join, TargetSays, target-says}

-- ---- what holds of a reading's value, where there is one
unfoldable pub Holds : {A : Type 0} → (St → A → Type 0) → Got A → Type 0
Holds R (ok st a) = R st a
Holds R (bad f) = Unit {0}

pub holds_then : {A B : Type 0} (R : St → A → Type 0) (S : St → B → Type 0) (g : Got A) (k : A → St → Got B) → Holds R g → ((a : A) (t : St) → R t a → Holds S (k a t)) → Holds S (and_then g k)
unfolding Holds and_then
holds_then R S (ok t a) k h f = f a t h
holds_then R S (bad x) k h f = tt

pub holds-next : {B : Type 0} (S : St → B → Type 0) (o : Out) (k : St → Got B) → ((t : St) → o ≡ Ok t → Holds S (k t)) → Holds S (on_next o k)
unfolding Holds on_next
holds-next S (Ok t) k f = f t refl
holds-next S (Err x) k f = tt

pub holds-many : {A C : Type 0} (nil : C) (cons : A → C → C) (m : St → Got A) (R : St → A → St → Type 0) (S : ℕ → St → C → St → Type 0)
    → ((st : St) → S 0 st nil st) → ((n : ℕ) (st t u : St) (a : A) (b : C) → R st a t → S n t b u → S (suc n) st (cons a b) u)
    → ((st : St) → Holds (λ t a. R st a t) (m st)) → (n : ℕ) (st : St) → Holds (λ t b. S n st b t) (many nil cons m n st)
unfolding many Holds
holds-many nil cons m R S z c h zero st = z st
holds-many nil cons m R S z c h (suc n) st =
    holds_then (λ t a. R st a t) (λ u b. S (suc n) st b u) (m st) _ (h st)
    (λ a t r. holds_then (λ u b. S n t b u) (λ u b. S (suc n) st b u) (many nil cons m n t) _ (holds-many nil cons m R S z c h n t) (λ b u q. c n st t u a b r q))

-- ---- one step of reading: bytes x, k slots, o declarations opened
pub record Step (s : List ℕ) (st : St) (x : List ℕ) (k o : ℕ) (t : St) : Type 0 where
  pub stand : Stand s st.at.0 x t.at.0
  pub owns : t.slots ≡ st.slots + k
  pub limit : st.slots ≤ max_slots → t.slots ≤ max_slots
  pub opens : t.opened ≡ st.opened + o

module _ (s : List ℕ) where
  pub step-none : (st : St) → Step s st [] 0 0 st
  step-none st = record { stand = record { ends = omega arith; bytes = refl }; owns = omega arith; limit = λ h. h; opens = omega arith }

  pub step_join : {st t u : St} {x y : List ℕ} {k l o q : ℕ} → Step s st x k o t → Step s t y l q u → Step s st (x ++ y) (k + l) (o + q) u
  step_join {st} {t} {u} {x} {y} a b =
      record {
        stand = stand_join s st.at.0 t.at.0 u.at.0 x y a.stand b.stand;
        owns = let h = a.owns in let k = b.owns in omega arith;
        limit = λ h. b.limit (a.limit h);
        opens = let h = a.opens in let k = b.opens in omega arith;
      }

  pub step_as : {st t : St} {x : List ℕ} {k l o q : ℕ} → Step s st x k o t → k ≡ l → o ≡ q → Step s st x l q t
  step_as a h k = record { stand = a.stand; owns = let i = a.owns in omega arith; limit = a.limit; opens = let i = a.opens in omega arith }

  pub step-moved : (st : St) (x : List ℕ) (e : Place) → Stand s st.at.0 x e.0 → Step s st x 0 0 (moved e st)
  unfolding moved
  step-moved st x e h = record { stand = h; owns = omega arith; limit = λ l. l; opens = omega arith }

  pub step-own : (e : Place) (st t : St) (x : List ℕ) → own_of e st ≡ Ok t → Stand s st.at.0 x e.0 → Step s st x 1 0 t
  unfolding own_of
  step-own e st t x h y = go (ltb st.slots max_slots) refl h
    where
      go : (c : Bool) → ltb st.slots max_slots ≡ c → pick c (Ok (record { at = e; slots = st.slots + 1; opened = st.opened })) (Err (Beyond st.at)) ≡ Ok t → Step s st x 1 0 t
      go true k z =
          let w = ltb-true st.slots max_slots k in
          let i : record { at = e; slots = st.slots + 1; opened = st.opened } ≡ t = cc in
          rw (← i) (record { stand = y; owns = refl; limit = λ l. omega arith; opens = omega arith })
      go false k z = let i : ◌≡◌ {A = ℕ} 0 1 = cc in absurd (omega arith)

  -- a declaration: one slot, and one more open, at most as many as there may be
  pub step-declare : (e : Place) (st t : St) (x : List ℕ) → declare_of e st ≡ Ok t → Stand s st.at.0 x e.0 → Step s st x 1 1 t × (t.opened ≤ max_opened)
  unfolding declare_of
  step-declare e st t x h y = go (ltb st.opened max_opened) refl (ltb st.slots max_slots) refl h
    where
      go : (b : Bool) → ltb st.opened max_opened ≡ b → (c : Bool) → ltb st.slots max_slots ≡ c → pick b (pick c (Ok (record { at = e; slots = st.slots + 1; opened = st.opened + 1 })) (Err (Beyond st.at))) (Err (Beyond st.at)) ≡ Ok t → Step s st x 1 1 t × (t.opened ≤ max_opened)
      go true j true k z =
          let v = ltb-true st.opened max_opened j in
          let w = ltb-true st.slots max_slots k in
          let i : record { at = e; slots = st.slots + 1; opened = st.opened + 1 } ≡ t = cc in
          rw (← i) (record { stand = y; owns = refl; limit = λ l. omega arith; opens = refl }, omega arith)
      go true j false k z = let i : ◌≡◌ {A = ℕ} 0 1 = cc in absurd (omega arith)
      go false j true k z = let i : ◌≡◌ {A = ℕ} 0 1 = cc in absurd (omega arith)
      go false j false k z = let i : ◌≡◌ {A = ℕ} 0 1 = cc in absurd (omega arith)

-- ---- types and declarations
module _ (names : ℕ) (s : List ℕ) (bytes : (i : ℕ) → get_or s i 0 < 256) where
  pub record TypeRead (d : ℕ) (st : St) (a : Ty) (t : St) : Type 0 where
    pub step : Step s st (T.spell a) 0 0 t
    pub fits : FitsTy names d a

  pub record SpellingRead (d : ℕ) (st : St) (a : Spelling) (t : St) : Type 0 where
    pub step : Step s st (spell_spelling a) 0 0 t
    pub fits : FitsSpelling names d a

  pub record DeclRead (d : ℕ) (st : St) (a : Decl) (t : St) : Type 0 where
    pub step : Step s st (spell_decl a) 1 1 t
    pub placed : PlacedDecl st.at.0 a
    pub fits : FitsDecl names d a
    pub most : t.opened ≤ max_opened

  pub record DeclsRead (d n : ℕ) (st : St) (a : List Decl) (t : St) : Type 0 where
    pub step : Step s st (spell_decls a) (decls a) (decls a) t
    pub count : decls a ≡ n
    pub placed : PlacedDecls st.at.0 a
    pub fits : FitsDecls names d a
    pub most : 1 ≤ decls a → t.opened ≤ max_opened

  -- ---- expressions and predicates
  pub record ExprRead (d : ℕ) (bare : Bool) (st : St) (a : Expr) (t : St) : Type 0 where
    pub step : Step s st (spell a) (slots a) 0 t
    pub placed : Placed st.at.0 a
    pub fits : Fits names d st.opened a
    pub plain_one : bare ≡ true → is_bare a ≡ true

  pub record ExprsRead (d n : ℕ) (st : St) (a : Exprs) (t : St) : Type 0 where
    pub step : Step s st (spell_all a) (slots_all a) 0 t
    pub count : exprs a ≡ n
    pub placed : Placed_all st.at.0 a
    pub fits : FitsAll names d st.opened a

  pub record PredRead (d : ℕ) (st : St) (a : Pred) (t : St) : Type 0 where
    pub step : Step s st (spell_pred a) (slots_pred a) 0 t
    pub placed : PlacedPred st.at.0 a
    pub fits : FitsPred names d st.opened a

  pub record PredsRead (d n : ℕ) (st : St) (a : Preds) (t : St) : Type 0 where
    pub step : Step s st (spell_preds a) (slots_preds a) 0 t
    pub count : preds a ≡ n
    pub placed : PlacedPreds st.at.0 a
    pub fits : FitsPreds names d st.opened a

  -- ---- formulas
  pub record TargetRead (st : St) (a : Target) (t : St) : Type 0 where
    pub step : Step s st (spell_target a) 1 0 t
    pub placed : a.place ≡ st.at.0
    pub fits : a.name < names

  target-by : (st : St) (w : Option (ℕ × Place)) → TargetSays names s st.at.0 w → Holds (λ t a. TargetRead st a t) (target_by st w)
  unfolding target_by TargetSays Holds spell_target
  target-by st None x = tt
  target-by st (Some (n, e)) x = holds-next (λ t a. TargetRead st a t) (own_of e st) _ (λ t o. record { step = step-own s e st t _ o x.1; placed = refl; fits = x.0 })

  pub sound-target : (st : St) → Holds (λ t a. TargetRead st a t) (target_in names s st)
  unfolding target_in
  sound-target st = target-by st (target_at names s st.at) (target-says names s bytes st.at)

  pub record TargetsRead (n : ℕ) (st : St) (a : List Target) (t : St) : Type 0 where
    pub step : Step s st (spell_targets a) (targets a) 0 t
    pub count : targets a ≡ n
    pub placed : PlacedTargets st.at.0 a
    pub fits : FitsTargets names a

  targets-none : (st : St) → TargetsRead 0 st [] st
  unfolding spell_targets targets PlacedTargets FitsTargets
  targets-none st = record { step = step-none s st; count = refl; placed = tt; fits = tt }

  targets-more : (n : ℕ) (st t u : St) (a : Target) (b : List Target) → TargetRead st a t → TargetsRead n t b u → TargetsRead (suc n) st (a ∷ b) u
  unfolding spell_targets spell_target targets PlacedTargets FitsTargets
  targets-more n st t u a b r q =
      let i : t.at.0 ≡ st.at.0 + 3 = r.step.stand.ends in
      record { step = step_as s (step_join s r.step q.step) (omega arith) refl; count = ap suc q.count; placed = (r.placed, rw i at q.placed); fits = (r.fits, q.fits) }

  pub sound-targets : (n : ℕ) (st : St) → Holds (λ t a. TargetsRead n st a t) (targets_at names s n st)
  unfolding targets_at
  sound-targets n st = holds-many [] ◌∷◌ (target_in names s) TargetRead TargetsRead targets-none targets-more sound-target n st

  pub record PairRead (st : St) (a : Target × Expr) (t : St) : Type 0 where
    pub step : Step s st (spell_target a.0 ++ spell a.1) (1 + slots a.1) 0 t
    pub target_placed : a.0.place ≡ st.at.0
    pub target_fits : a.0.name < names
    pub placed : Placed (st.at.0 + 3) a.1
    pub fits : Fits names 1 st.opened a.1

  pub record PairsRead (n : ℕ) (st : St) (a : List (Target × Expr)) (t : St) : Type 0 where
    pub step : Step s st (spell_pairs a) (slots_pairs a) 0 t
    pub count : pairs a ≡ n
    pub placed : PlacedPairs st.at.0 a
    pub fits : st.opened ≡ 0 → FitsPairs names a

  -- a formula at the start of a stream
  pub record FormulaRead (st : St) (a : Formula) (t : St) : Type 0 where
    pub stand : Stand s st.at.0 (spell_formula a) t.at.0
    pub owns : t.slots ≡ st.slots + slots_of a
    pub limit : st.slots ≤ max_slots → t.slots ≤ max_slots
    pub placed : PlacedFormula st.at.0 a
    pub fits : FitsRoot names a
