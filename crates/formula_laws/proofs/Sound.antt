-- The theorems of specs/Sound.antt: `sound-type`, `sound_spelling`, `sound_decl`, `sound-decls`, `all_read`, `preds-read` and others.
use Prim.Native.Nat.{ℕ, zero, suc, ◌+◌, ◌≤◌, ◌<◌}
use native.Mathlib.Omega.{arith}
use Rattle.std.proofs.Math.Path.{◌≡◌, refl, sym, ap}
use Rattle.std.proofs.Common.{◌∙◌}
use Rattle.std.specs.Prelude.{Bool, get_or, Option, Some, None}
use Rattle.std.proofs.Math.Bool.{true, false}
use mathlib.Core.List.{List, [], ◌∷◌}
use Rattle.std.proofs.Math.Dec.{ltb}
use Rattle.types.specs.declared.Place.{Place}
use Rattle.types.specs.Ty as T
use Rattle.types.specs.Record.{TypeAt, got, malformed, deep, type_at}
use Rattle.types.specs.Spellings.{read-stands, bytes-at}
use Rattle.heads.specs.declared.ExprHead.{ExprHead}
use Rattle.heads.specs.declared.ExprHead.TheVariants.{Free, Bound, Literal, Atomic, Extension, Truth, Binary, Associative, Unary, Quantified, Ascribed, Explicit}
use Rattle.heads.specs.declared.PredHead.{PredHead}
use Rattle.heads.specs.declared.PredHead.TheVariants.{Constant, Variable, Relational, Connective, Junction, Negation, Quantification, Simple, Multiple, Application}
use Rattle.heads.specs.declared.DeclHead.{DeclHead}
use Rattle.heads.specs.declared.DeclHead.TheVariants.{Plain, Typed, Annotated}
use Rattle.formula.specs.declared.St.{St}
use Rattle.types.specs.declared.Fault.TheVariants.{Malformed}
use Rattle.formula.specs.Tree.{Spelling, Decl, Expr, Exprs, none, more, Pred, Preds, end, also, Target, Formula, expression, predicate, decls, exprs, preds, targets, pairs, slots, slots_all, slots_pred, slots_preds, slots_pairs, slots_of}
use Rattle.formula.specs.Spell.{spell_spelling, spell_decl, spell_decls, spell, spell_all, spell_pred, spell_preds, spell_target, spell_targets, spell_pairs, spell_formula, size_ty, size_decl, size_decls, size, size_pred, size_targets, PlacedDecl, PlacedDecls, Placed, Placed_all, PlacedPred, PlacedPreds, PlacedTargets, PlacedPairs, PlacedFormula}
use Rattle.heads.specs.Heads.{pick, place, expr_head, pred_head, decl_head}
use Rattle.formula.specs.Reader.{Got, ok, bad, and_then, on_next, many, moved, own_of, declare_of, closed, closing, type_got, type_in, read_no_type, spelled_in, spelling_in}
use Rattle.formula.specs.Parse.{decl_by, decl_if, decl_at, decls_at, expr_by, pred_by, expr_if, pred_if, expr_deep, pred_deep, expr_at, pred_at, target_in, pair_in, targets_at, pairs_at, becomes_by, becomes_at, root_by, formula_at}
use Rattle.types.specs.Limits.{max_depth, max_opened, levels}
use Rattle.formula_laws.specs.Fits.{is_bare, FitsTy, FitsSpelling, FitsDecl, FitsDecls, Fits, FitsAll, FitsPred, FitsPreds, FitsPairs, FitsRoot}
use Rattle.formula_laws.specs.Sizes.{length_ty, length_decl, length-decls, length-expr, length_pred, length-targets}
use Rattle.formula_laws.specs.Says.{Stand, stand_join, on_byte_lem, on-few, choose, ExprSays, PredSays, DeclSays, expr-says, pred_says, decl_says}
use Rattle.formula_laws.specs.Sound.{Holds, Step, step-moved, TypeRead, SpellingRead, holds_then, holds-next, DeclRead, step-declare, step_join, step-none, DeclsRead, step_as, holds-many, ExprRead, ExprsRead, PredRead, PredsRead, step-own, PairRead, sound-target, TargetRead, PairsRead, FormulaRead, sound-targets, TargetsRead}

holds-closing : {A : Type 0} (S : St → A → Type 0) (n : ℕ) (g : Got A) → Holds (λ t a. S (closed n t) a) g → Holds S (closing n g)
unfolding Holds closing
holds-closing S n (ok t a) h = h
holds-closing S n (bad x) h = tt

not_so : true ≡ false → ⊥
not_so e = let z : ◌≡◌ {A = ℕ} 0 1 = cc in omega arith

module _ (s : List ℕ) where
  -- the declarations of a binder are closed at its end
  step-closed : {st t : St} {x : List ℕ} {k o : ℕ} → Step s st x k o t → Step s st x k 0 (closed st.opened t)
  unfolding closed
  step-closed a = record { stand = a.stand; owns = a.owns; limit = a.limit; opens = omega arith }

-- ---- types and declarations
module _ (names : ℕ) (s : List ℕ) (bytes : (i : ℕ) → get_or s i 0 < 256) where
  pub sound-type : (d left : ℕ) → d + left ≡ levels → (st : St) → Holds (λ t a. TypeRead names s bytes d st a t) (type_in names s left st)
  unfolding type_in type_got Holds FitsTy
  sound-type d left h st = go (type_at left names s st.at.0) refl
    where
      go : (x : TypeAt) → type_at left names s st.at.0 ≡ x → Holds (λ t a. TypeRead names s bytes d st a t) (type_got x st)
      go (got a e) k =
          let w = read-stands left names s (bytes-at s bytes) st.at.0 a e k in
          let q = w.shallow in
          record { step = step-moved s st (T.spell a) (place e) (record { ends = w.ends; bytes = w.bytes }); fits = (omega arith, w.below) }
      go (malformed e) k = tt
      go (deep e) k = tt

  sound-spelled : (d left : ℕ) → d + left ≡ levels → (st : St) → Holds (λ t a. SpellingRead names s bytes d st a t) (spelled_in names s left st)
  unfolding spelled_in Holds spell_spelling FitsSpelling
  sound-spelled d left h st = holds_then (λ t a. TypeRead names s bytes d st a t) (λ t a. SpellingRead names s bytes d st a t) (type_in names s left st) _ (sound-type d left h st) (λ a t r. record { step = r.step; fits = r.fits })

  none-spelled : (d left : ℕ) → d + left ≡ levels → (st : St) (e : Place) → Stand s st.at.0 (0x4F ∷ []) e.0 → Holds (λ t a. SpellingRead names s bytes d st a t) (read_no_type left e st)
  unfolding read_no_type Holds spell_spelling FitsSpelling
  none-spelled d zero h st e x = tt
  none-spelled d (suc left) h st e x = record { step = step-moved s st (0x4F ∷ []) e x; fits = omega arith }

  pub sound_spelling : (d left : ℕ) → d + left ≡ levels → (st : St) → Holds (λ t a. SpellingRead names s bytes d st a t) (spelling_in names s left st)
  unfolding spelling_in
  sound_spelling d left h st =
      on_byte_lem s bytes Q (spelled_in names s left st) st.at _ (sound-spelled d left h st)
      (λ k e l x. choose Q k 0x4F _ _ (λ z. none-spelled d left h st e (rw z at x)) (sound-spelled d left h st))
    where
      Q : Got Spelling → Type 0
      Q = Holds (λ t a. SpellingRead names s bytes d st a t)

  decl_by_lem : (d left : ℕ) → suc d + left ≡ levels → (st : St) (h : DeclHead) → DeclSays s st.at.0 (Some h) → Holds (λ t a. DeclRead names s bytes d st a t) (decl_by names s left st h)
  unfolding decl_by DeclSays Holds spell_decl PlacedDecl FitsDecl
  decl_by_lem d left l st (Plain e) x =
      holds-next (λ t a. DeclRead names s bytes d st a t) (declare_of e st) _
      (λ t o. let w = step-declare s e st t (0x10 ∷ []) o x in record { step = w.0; placed = refl; fits = omega arith; most = w.1 })
  decl_by_lem d left l st (Typed e) x =
      holds-next (λ t a. DeclRead names s bytes d st a t) (declare_of e st) _
      (λ t o. holds_then (λ u a. TypeRead names s bytes (suc d) t a u) (λ t a. DeclRead names s bytes d st a t) (type_in names s left t) _ (sound-type (suc d) left l t)
      (λ a u r. let w = step-declare s e st t (0x11 ∷ []) o x in
      record { step = step_join s w.0 r.step; placed = refl; fits = (omega arith, r.fits); most = let i = r.step.opens in let j = w.1 in omega arith }))
  decl_by_lem d left l st (Annotated e) x =
      holds-next (λ t a. DeclRead names s bytes d st a t) (declare_of e st) _
      (λ t o. holds_then (λ u a. SpellingRead names s bytes (suc d) t a u) (λ t a. DeclRead names s bytes d st a t) (spelling_in names s left t) _ (sound_spelling (suc d) left l t)
      (λ a u r. let w = step-declare s e st t (0x12 ∷ []) o x in
      record { step = step_join s w.0 r.step; placed = refl; fits = (omega arith, r.fits); most = let i = r.step.opens in let j = w.1 in omega arith }))

  pub sound_decl : (d left : ℕ) → d + left ≡ levels → (st : St) → Holds (λ t a. DeclRead names s bytes d st a t) (decl_at names s left st)
  unfolding decl_at decl_if Holds
  sound_decl d left l st = go left l (decl_head s st.at) (decl_says names s bytes st.at)
    where
      go : (left : ℕ) → d + left ≡ levels → (h : Option DeclHead) → DeclSays s st.at.0 h → Holds (λ t a. DeclRead names s bytes d st a t) (decl_if names s left st h)
      go left l None x = tt
      go zero l (Some h) x = tt
      go (suc left) l (Some h) x = decl_by_lem d left (let i : suc d + left ≡ levels = omega arith in i) st h x

  decls-none : (d : ℕ) (st : St) → DeclsRead names s bytes d 0 st [] st
  unfolding spell_decls decls PlacedDecls FitsDecls
  decls-none d st = record { step = step-none s st; count = refl; placed = tt; fits = tt; most = λ h. absurd (omega arith) }

  decls-more : (d n : ℕ) (st t u : St) (a : Decl) (b : List Decl) → DeclRead names s bytes d st a t → DeclsRead names s bytes d n t b u → DeclsRead names s bytes d (suc n) st (a ∷ b) u
  unfolding spell_decls decls PlacedDecls FitsDecls
  decls-more d n st t u a b r q =
      let i : t.at.0 ≡ st.at.0 + size_decl a = let j = r.step.stand.ends in let k = length_decl a in omega arith in
      record {
        step = step_as s (step_join s r.step q.step) (omega arith) (omega arith);
        count = ap suc q.count;
        placed = (r.placed, rw i at q.placed);
        fits = (r.fits, q.fits);
        most = λ h. go (decls b) refl;
      }
    where
      go : (m : ℕ) → decls b ≡ m → u.opened ≤ max_opened
      go zero k = let i = q.step.opens in let j = r.most in omega arith
      go (suc m) k = q.most (omega arith)

  pub sound-decls : (d left : ℕ) → d + left ≡ levels → (n : ℕ) (st : St) → Holds (λ t a. DeclsRead names s bytes d n st a t) (decls_at names s left n st)
  unfolding decls_at
  sound-decls d left l n st = holds-many [] ◌∷◌ (decl_at names s left) (DeclRead names s bytes d) (DeclsRead names s bytes d) (decls-none d) (decls-more d) (sound_decl d left l) n st

  -- the same at a place and a number of open declarations that are known
  expr-at : {d : ℕ} {bare : Bool} {st t : St} {a : Expr} → ExprRead names s bytes d bare st a t → (p o : ℕ) → st.at.0 ≡ p → st.opened ≡ o → Placed p a × Fits names d o a
  expr-at r p o h k = (rw h at r.placed, rw k at r.fits)

  exprs-at : {d n : ℕ} {st t : St} {a : Exprs} → ExprsRead names s bytes d n st a t → (p o : ℕ) → st.at.0 ≡ p → st.opened ≡ o → Placed_all p a × FitsAll names d o a
  exprs-at r p o h k = (rw h at r.placed, rw k at r.fits)

  pred_at_lem : {d : ℕ} {st t : St} {a : Pred} → PredRead names s bytes d st a t → (p o : ℕ) → st.at.0 ≡ p → st.opened ≡ o → PlacedPred p a × FitsPred names d o a
  pred_at_lem r p o h k = (rw h at r.placed, rw k at r.fits)

  preds-at : {d n : ℕ} {st t : St} {a : Preds} → PredsRead names s bytes d n st a t → (p o : ℕ) → st.at.0 ≡ p → st.opened ≡ o → PlacedPreds p a × FitsPreds names d o a
  preds-at r p o h k = (rw h at r.placed, rw k at r.fits)

  exprs-none : (d : ℕ) (st : St) → ExprsRead names s bytes d 0 st none st
  unfolding spell_all slots_all exprs Placed_all FitsAll
  exprs-none d st = record { step = step-none s st; count = refl; placed = tt; fits = tt }

  exprs-more : (d n : ℕ) (st t u : St) (a : Expr) (b : Exprs) → ExprRead names s bytes d false st a t → ExprsRead names s bytes d n t b u → ExprsRead names s bytes d (suc n) st (more a b) u
  unfolding spell_all slots_all exprs Placed_all FitsAll
  exprs-more d n st t u a b r q =
      let i : t.at.0 ≡ st.at.0 + size a = let j = r.step.stand.ends in let k = length-expr a in omega arith in
      let o : t.opened ≡ st.opened = let j = r.step.opens in omega arith in
      let w = exprs-at q (st.at.0 + size a) st.opened i o in
      record { step = step_join s r.step q.step; count = ap suc q.count; placed = (r.placed, w.0); fits = (r.fits, w.1) }

  preds-none : (d : ℕ) (st : St) → PredsRead names s bytes d 0 st end st
  unfolding spell_preds slots_preds preds PlacedPreds FitsPreds
  preds-none d st = record { step = step-none s st; count = refl; placed = tt; fits = tt }

  preds_more : (d n : ℕ) (st t u : St) (a : Pred) (b : Preds) → PredRead names s bytes d st a t → PredsRead names s bytes d n t b u → PredsRead names s bytes d (suc n) st (also a b) u
  unfolding spell_preds slots_preds preds PlacedPreds FitsPreds
  preds_more d n st t u a b r q =
      let i : t.at.0 ≡ st.at.0 + size_pred a = let j = r.step.stand.ends in let k = length_pred a in omega arith in
      let o : t.opened ≡ st.opened = let j = r.step.opens in omega arith in
      let w = preds-at q (st.at.0 + size_pred a) st.opened i o in
      record { step = step_join s r.step q.step; count = ap suc q.count; placed = (r.placed, w.0); fits = (r.fits, w.1) }

  -- one record, where X and Q read those below it
  module _ (d left : ℕ) (l : suc d + left ≡ levels) (X : Bool → St → Got Expr) (Q : St → Got Pred)
      (hX : (b : Bool) (t : St) → Holds (λ u a. ExprRead names s bytes (suc d) b t a u) (X b t)) (hQ : (t : St) → Holds (λ u a. PredRead names s bytes (suc d) t a u) (Q t)) (st : St) where
    pub all_read : (n : ℕ) (t : St) → Holds (λ u a. ExprsRead names s bytes (suc d) n t a u) (many none more (X false) n t)
    all_read n t = holds-many none more (X false) (ExprRead names s bytes (suc d) false) (ExprsRead names s bytes (suc d)) (exprs-none (suc d)) (exprs-more (suc d)) (hX false) n t

    pub preds-read : (n : ℕ) (t : St) → Holds (λ u a. PredsRead names s bytes (suc d) n t a u) (many end also Q n t)
    preds-read n t = holds-many end also Q (PredRead names s bytes (suc d)) (PredsRead names s bytes (suc d)) (preds-none (suc d)) (preds_more (suc d)) hQ n t

    deep-most : d ≤ max_depth
    deep-most = omega arith

    pub expr-by : (bare : Bool) (h : ExprHead) → ExprSays names s bare st.at.0 (Some h) → Holds (λ t a. ExprRead names s bytes d bare st a t) (expr_by names s left X Q st h)
    unfolding expr_by ExprSays Holds spell slots Placed Fits is_bare
    expr-by bare (Free n e) x =
        holds-next (λ t a. ExprRead names s bytes d bare st a t) (own_of e st) _ (λ t o. record { step = step-own s e st t _ o x.1; placed = refl; fits = (deep-most, x.0); plain_one = λ z. refl })
    expr-by bare (Bound i e) x =
        holds-next (λ t a. ExprRead names s bytes d bare st a t) (own_of e st) _ (λ t o. record { step = step-own s e st t _ o x; placed = refl; fits = deep-most; plain_one = λ z. refl })
    expr-by bare (Literal e) x =
        holds-next (λ t a. ExprRead names s bytes d bare st a t) (own_of e st) _ (λ t o. record { step = step-own s e st t _ o x; placed = refl; fits = deep-most; plain_one = λ z. refl })
    expr-by bare (Atomic p e) x =
        holds-next (λ t a. ExprRead names s bytes d bare st a t) (own_of e st) _ (λ t o. record { step = step-own s e st t _ o x.1; placed = refl; fits = (deep-most, x.0); plain_one = λ z. refl })
    expr-by bare (Extension n e) x =
        holds-next (λ t a. ExprRead names s bytes d bare st a t) (own_of e st) _
        (λ t o. holds_then (λ u a. ExprsRead names s bytes (suc d) n t a u) (λ t a. ExprRead names s bytes d bare st a t) (many none more (X false) n t) _ (all_read n t)
        (λ a u r.
        let w = step-own s e st t _ o x.1 in
        let y = exprs-at r (st.at.0 + 3) st.opened w.stand.ends (let i = w.opens in let j : t.opened ≡ st.opened = omega arith in j) in
        let c = r.count in
        record { step = rw c (step_as s (step_join s w r.step) (omega arith) (omega arith)); placed = (refl, y.0); fits = (deep-most, rw c x.0, y.1); plain_one = λ z. refl }))
    expr-by bare (Truth e) x =
        holds-next (λ t a. ExprRead names s bytes d bare st a t) (own_of e st) _
        (λ t o. holds_then (λ u a. PredRead names s bytes (suc d) t a u) (λ t a. ExprRead names s bytes d bare st a t) (Q t) _ (hQ t)
        (λ a u r.
        let w = step-own s e st t _ o x in
        let y = pred_at_lem r (st.at.0 + 1) st.opened w.stand.ends (let i = w.opens in let j : t.opened ≡ st.opened = omega arith in j) in
        record { step = step_as s (step_join s w r.step) (omega arith) (omega arith); placed = (refl, y.0); fits = (deep-most, y.1); plain_one = λ z. refl }))
    expr-by bare (Binary p e) x =
        holds-next (λ t a. ExprRead names s bytes d bare st a t) (own_of e st) _
        (λ t o. holds_then (λ u a. ExprRead names s bytes (suc d) false t a u) (λ t a. ExprRead names s bytes d bare st a t) (X false t) _ (hX false t)
        (λ a u r. holds_then (λ v b. ExprRead names s bytes (suc d) false u b v) (λ t a. ExprRead names s bytes d bare st a t) (X false u) _ (hX false u)
        (λ b v q.
        let w = step-own s e st t _ o x.1 in
        let wo = w.opens in let ro = r.step.opens in let we = w.stand.ends in let re = r.step.stand.ends in let ra = length-expr a in
        let y = expr-at r (st.at.0 + 2) st.opened we (let j : t.opened ≡ st.opened = omega arith in j) in
        let z = expr-at q (st.at.0 + 2 + size a) st.opened (let j : u.at.0 ≡ st.at.0 + 2 + size a = omega arith in j) (let j : u.opened ≡ st.opened = omega arith in j) in
        record { step = step_as s (step_join s w (step_join s r.step q.step)) (omega arith) (omega arith); placed = (refl, y.0, z.0); fits = (deep-most, x.0, y.1, z.1); plain_one = λ z. refl })))
    expr-by bare (Associative p n e) x =
        holds-next (λ t a. ExprRead names s bytes d bare st a t) (own_of e st) _
        (λ t o. holds_then (λ u a. ExprsRead names s bytes (suc d) n t a u) (λ t a. ExprRead names s bytes d bare st a t) (many none more (X false) n t) _ (all_read n t)
        (λ a u r.
        let w = step-own s e st t _ o x.2 in
        let y = exprs-at r (st.at.0 + 4) st.opened w.stand.ends (let i = w.opens in let j : t.opened ≡ st.opened = omega arith in j) in
        let c = r.count in
        record { step = rw c (step_as s (step_join s w r.step) (omega arith) (omega arith)); placed = (refl, y.0); fits = (deep-most, x.0, rw c x.1, y.1); plain_one = λ z. refl }))
    expr-by bare (Unary p e) x =
        holds-next (λ t a. ExprRead names s bytes d bare st a t) (own_of e st) _
        (λ t o. holds_then (λ u a. ExprRead names s bytes (suc d) false t a u) (λ t a. ExprRead names s bytes d bare st a t) (X false t) _ (hX false t)
        (λ a u r.
        let w = step-own s e st t _ o x.1 in
        let y = expr-at r (st.at.0 + 2) st.opened w.stand.ends (let i = w.opens in let j : t.opened ≡ st.opened = omega arith in j) in
        record { step = step_as s (step_join s w r.step) (omega arith) (omega arith); placed = (refl, y.0); fits = (deep-most, x.0, y.1); plain_one = λ z. refl }))
    expr-by bare (Quantified p n e) x =
        holds-closing (λ t a. ExprRead names s bytes d bare st a t) st.opened (on_next (own_of e st) _)
        (holds-next (λ t a. ExprRead names s bytes d bare st a (closed st.opened t)) (own_of e st) _
        (λ t o. holds_then (λ u a. DeclsRead names s bytes (suc d) n t a u) (λ t a. ExprRead names s bytes d bare st a (closed st.opened t)) (decls_at names s left n t) _ (sound-decls (suc d) left l n t)
        (λ ds u g. holds_then (λ v b. PredRead names s bytes (suc d) u b v) (λ t a. ExprRead names s bytes d bare st a (closed st.opened t)) (Q u) _ (hQ u)
        (λ a v r. holds_then (λ w b. ExprRead names s bytes (suc d) false v b w) (λ t a. ExprRead names s bytes d bare st a (closed st.opened t)) (X false v) _ (hX false v)
        (λ b k q.
        let w = step-own s e st t _ o x.2 in
        let c = g.count in
        let wo = w.opens in let go = g.step.opens in let ro = r.step.opens in
        let we = w.stand.ends in let ge = g.step.stand.ends in let re = r.step.stand.ends in
        let gl = length-decls ds in let rl = length_pred a in
        let i : t.at.0 ≡ st.at.0 + 3 = we in
        let pd : PlacedDecls (st.at.0 + 3) ds = rw i at g.placed in
        let y = pred_at_lem r (st.at.0 + 3 + size_decls ds) (st.opened + decls ds) (let j : u.at.0 ≡ st.at.0 + 3 + size_decls ds = omega arith in j) (let j : u.opened ≡ st.opened + decls ds = omega arith in j) in
        let z = expr-at q (st.at.0 + 3 + size_decls ds + size_pred a) (st.opened + decls ds) (let j : v.at.0 ≡ st.at.0 + 3 + size_decls ds + size_pred a = omega arith in j) (let j : v.opened ≡ st.opened + decls ds = omega arith in j) in
        record { step = step-closed s {o = decls ds} (rw c (step_as s (step_join s w (step_join s g.step (step_join s r.step q.step))) (omega arith) (omega arith))); placed = (refl, pd, y.0, z.0); fits = (deep-most, x.0, rw c x.1, (let m = g.most (rw c x.1) in omega arith), g.fits, y.1, z.1); plain_one = λ z. refl })))))
    expr-by bare (Ascribed e) x =
        holds-next (λ t a. ExprRead names s bytes d bare st a t) (own_of e st) _
        (λ t o. holds_then (λ u a. ExprRead names s bytes (suc d) false t a u) (λ t a. ExprRead names s bytes d bare st a t) (X false t) _ (hX false t)
        (λ a u r. holds_then (λ v b. SpellingRead names s bytes (suc d) u b v) (λ t a. ExprRead names s bytes d bare st a t) (spelling_in names s left u) _ (sound_spelling (suc d) left l u)
        (λ b v q.
        let w = step-own s e st t _ o x in
        let wo = w.opens in let we = w.stand.ends in let re = r.step.stand.ends in let ra = length-expr a in
        let y = expr-at r (st.at.0 + 1) st.opened we (let j : t.opened ≡ st.opened = omega arith in j) in
        record { step = step_as s (step_join s w (step_join s r.step q.step)) (omega arith) (omega arith); placed = (refl, y.0, (let j : u.at.0 ≡ st.at.0 + 1 + size a = omega arith in j)); fits = (deep-most, y.1, q.fits); plain_one = λ z. refl })))
    expr-by bare (Explicit e) x =
        holds_then (λ t a. TypeRead names s bytes (suc d) (moved e st) a t) (λ t a. ExprRead names s bytes d bare st a t) (type_in names s left (moved e st)) _ (sound-type (suc d) left l (moved e st))
        (λ a t r. holds_then (λ u b. ExprRead names s bytes (suc d) true t b u) (λ t a. ExprRead names s bytes d bare st a t) (X true t) _ (hX true t)
        (λ b u q.
        let w = step-moved s st _ e x.1 in
        let ro = (step_join s w r.step).opens in let re = (step_join s w r.step).stand.ends in let ra = length_ty a in
        let z = expr-at q (st.at.0 + 1 + size_ty a) st.opened (let j : t.at.0 ≡ st.at.0 + 1 + size_ty a = omega arith in j) (let j : t.opened ≡ st.opened = omega arith in j) in
        record { step = step_as s (step_join s w (step_join s r.step q.step)) (omega arith) (omega arith); placed = (refl, z.0); fits = (deep-most, r.fits, q.plain_one refl, z.1); plain_one = λ y. let j : ◌≡◌ {A = Bool} true false = sym y ∙ x.0 in absurd (not_so j) }))

    pub pred_by_lem : (h : PredHead) → PredSays s st.at.0 (Some h) → Holds (λ t a. PredRead names s bytes d st a t) (pred_by names s left X Q st h)
    unfolding pred_by PredSays Holds spell_pred slots_pred PlacedPred FitsPred
    pred_by_lem (Constant e) x = record { step = step-moved s st _ e x; placed = refl; fits = deep-most }
    pred_by_lem (Variable e) x = record { step = step-moved s st _ e x; placed = refl; fits = deep-most }
    pred_by_lem (Relational p e) x =
        holds_then (λ u a. ExprRead names s bytes (suc d) false (moved e st) a u) (λ t a. PredRead names s bytes d st a t) (X false (moved e st)) _ (hX false (moved e st))
        (λ a u r. holds_then (λ v b. ExprRead names s bytes (suc d) false u b v) (λ t a. PredRead names s bytes d st a t) (X false u) _ (hX false u)
        (λ b v q.
        let w = step-moved s st _ e x.1 in
        let wo = w.opens in let ro = r.step.opens in let we = w.stand.ends in let re = r.step.stand.ends in let ra = length-expr a in
        let y = expr-at r (st.at.0 + 2) st.opened we (let j : (moved e st).opened ≡ st.opened = omega arith in j) in
        let z = expr-at q (st.at.0 + 2 + size a) st.opened (let j : u.at.0 ≡ st.at.0 + 2 + size a = omega arith in j) (let j : u.opened ≡ st.opened = omega arith in j) in
        record { step = step_as s (step_join s w (step_join s r.step q.step)) (omega arith) (omega arith); placed = (refl, y.0, z.0); fits = (deep-most, x.0, y.1, z.1) }))
    pred_by_lem (Connective e) x =
        holds_then (λ u a. PredRead names s bytes (suc d) (moved e st) a u) (λ t a. PredRead names s bytes d st a t) (Q (moved e st)) _ (hQ (moved e st))
        (λ a u r. holds_then (λ v b. PredRead names s bytes (suc d) u b v) (λ t a. PredRead names s bytes d st a t) (Q u) _ (hQ u)
        (λ b v q.
        let w = step-moved s st _ e x in
        let wo = w.opens in let ro = r.step.opens in let we = w.stand.ends in let re = r.step.stand.ends in let ra = length_pred a in
        let y = pred_at_lem r (st.at.0 + 1) st.opened we (let j : (moved e st).opened ≡ st.opened = omega arith in j) in
        let z = pred_at_lem q (st.at.0 + 1 + size_pred a) st.opened (let j : u.at.0 ≡ st.at.0 + 1 + size_pred a = omega arith in j) (let j : u.opened ≡ st.opened = omega arith in j) in
        record { step = step_as s (step_join s w (step_join s r.step q.step)) (omega arith) (omega arith); placed = (refl, y.0, z.0); fits = (deep-most, y.1, z.1) }))
    pred_by_lem (Junction n e) x =
        holds_then (λ u a. PredsRead names s bytes (suc d) n (moved e st) a u) (λ t a. PredRead names s bytes d st a t) (many end also Q n (moved e st)) _ (preds-read n (moved e st))
        (λ a u r.
        let w = step-moved s st _ e x.1 in
        let y = preds-at r (st.at.0 + 3) st.opened w.stand.ends (let i = w.opens in let j : (moved e st).opened ≡ st.opened = omega arith in j) in
        let c = r.count in
        record { step = rw c (step_as s (step_join s w r.step) (omega arith) (omega arith)); placed = (refl, y.0); fits = (deep-most, rw c x.0, y.1) })
    pred_by_lem (Negation e) x =
        holds_then (λ u a. PredRead names s bytes (suc d) (moved e st) a u) (λ t a. PredRead names s bytes d st a t) (Q (moved e st)) _ (hQ (moved e st))
        (λ a u r.
        let w = step-moved s st _ e x in
        let y = pred_at_lem r (st.at.0 + 1) st.opened w.stand.ends (let i = w.opens in let j : (moved e st).opened ≡ st.opened = omega arith in j) in
        record { step = step_as s (step_join s w r.step) (omega arith) (omega arith); placed = (refl, y.0); fits = (deep-most, y.1) })
    pred_by_lem (Quantification n e) x =
        holds-closing (λ t a. PredRead names s bytes d st a t) st.opened (and_then (decls_at names s left n (moved e st)) _)
        (holds_then (λ u a. DeclsRead names s bytes (suc d) n (moved e st) a u) (λ t a. PredRead names s bytes d st a (closed st.opened t)) (decls_at names s left n (moved e st)) _ (sound-decls (suc d) left l n (moved e st))
        (λ ds u g. holds_then (λ v b. PredRead names s bytes (suc d) u b v) (λ t a. PredRead names s bytes d st a (closed st.opened t)) (Q u) _ (hQ u)
        (λ a v r.
        let w = step-moved s st _ e x.1 in
        let c = g.count in
        let wo = w.opens in let go = g.step.opens in
        let we = w.stand.ends in let ge = g.step.stand.ends in let gl = length-decls ds in
        let i : (moved e st).at.0 ≡ st.at.0 + 2 = we in
        let pd : PlacedDecls (st.at.0 + 2) ds = rw i at g.placed in
        let y = pred_at_lem r (st.at.0 + 2 + size_decls ds) (st.opened + decls ds) (let j : u.at.0 ≡ st.at.0 + 2 + size_decls ds = omega arith in j) (let j : u.opened ≡ st.opened + decls ds = omega arith in j) in
        record { step = step-closed s {o = decls ds} (rw c (step_as s (step_join s w (step_join s g.step r.step)) (omega arith) (omega arith))); placed = (refl, pd, y.0); fits = (deep-most, rw c x.0, (let m = g.most (rw c x.0) in omega arith), g.fits, y.1) })))
    pred_by_lem (Simple e) x =
        holds_then (λ u a. ExprRead names s bytes (suc d) false (moved e st) a u) (λ t a. PredRead names s bytes d st a t) (X false (moved e st)) _ (hX false (moved e st))
        (λ a u r.
        let w = step-moved s st _ e x in
        let y = expr-at r (st.at.0 + 1) st.opened w.stand.ends (let i = w.opens in let j : (moved e st).opened ≡ st.opened = omega arith in j) in
        record { step = step_as s (step_join s w r.step) (omega arith) (omega arith); placed = (refl, y.0); fits = (deep-most, y.1) })
    pred_by_lem (Multiple n e) x =
        holds_then (λ u a. ExprsRead names s bytes (suc d) n (moved e st) a u) (λ t a. PredRead names s bytes d st a t) (many none more (X false) n (moved e st)) _ (all_read n (moved e st))
        (λ a u r.
        let w = step-moved s st _ e x.1 in
        let y = exprs-at r (st.at.0 + 3) st.opened w.stand.ends (let i = w.opens in let j : (moved e st).opened ≡ st.opened = omega arith in j) in
        let c = r.count in
        record { step = rw c (step_as s (step_join s w r.step) (omega arith) (omega arith)); placed = (refl, y.0); fits = (deep-most, rw c x.0, y.1) })
    pred_by_lem (Application n e) x =
        holds_then (λ u a. ExprsRead names s bytes (suc d) n (moved e st) a u) (λ t a. PredRead names s bytes d st a t) (many none more (X false) n (moved e st)) _ (all_read n (moved e st))
        (λ a u r.
        let w = step-moved s st _ e x in
        let y = exprs-at r (st.at.0 + 3) st.opened w.stand.ends (let i = w.opens in let j : (moved e st).opened ≡ st.opened = omega arith in j) in
        let c = r.count in
        record { step = rw c (step_as s (step_join s w r.step) (omega arith) (omega arith)); placed = (refl, y.0); fits = (deep-most, y.1) })

    pub expr_if_lem : (bare : Bool) (h : Option ExprHead) → ExprSays names s bare st.at.0 h → Holds (λ t a. ExprRead names s bytes d bare st a t) (expr_if names s left X Q st h)
    unfolding expr_if Holds
    expr_if_lem bare None x = tt
    expr_if_lem bare (Some h) x = expr-by bare h x

    pub pred_if_lem : (h : Option PredHead) → PredSays s st.at.0 h → Holds (λ t a. PredRead names s bytes d st a t) (pred_if names s left X Q st h)
    unfolding pred_if Holds
    pred_if_lem None x = tt
    pred_if_lem (Some h) x = pred_by_lem h x

  expr-deep : (d : ℕ) (bare : Bool) (st : St) (h : Option ExprHead) → Holds (λ t a. ExprRead names s bytes d bare st a t) (expr_deep st h)
  unfolding expr_deep Holds
  expr-deep d bare st None = tt
  expr-deep d bare st (Some h) = tt

  pred_deep_lem : (d : ℕ) (st : St) (h : Option PredHead) → Holds (λ t a. PredRead names s bytes d st a t) (pred_deep st h)
  unfolding pred_deep Holds
  pred_deep_lem d st None = tt
  pred_deep_lem d st (Some h) = tt

  mutual
    unfolding expr_at pred_at

    pub sound-expr : (left d : ℕ) → d + left ≡ levels → (bare : Bool) (st : St) → Holds (λ t a. ExprRead names s bytes d bare st a t) (expr_at left names s bare st)
    sound-expr zero d l bare st = expr-deep d bare st (expr_head names s bare st.at)
    sound-expr (suc left) d l bare st =
        expr_if_lem d left (let i : suc d + left ≡ levels = omega arith in i) (λ b t. expr_at left names s b t) (λ t. pred_at left names s t)
        (λ b t. sound-expr left (suc d) (let i : suc d + left ≡ levels = omega arith in i) b t) (λ t. sound_pred left (suc d) (let i : suc d + left ≡ levels = omega arith in i) t)
        st bare (expr_head names s bare st.at) (expr-says names s bytes bare st.at)

    pub sound_pred : (left d : ℕ) → d + left ≡ levels → (st : St) → Holds (λ t a. PredRead names s bytes d st a t) (pred_at left names s st)
    sound_pred zero d l st = pred_deep_lem d st (pred_head s st.at)
    sound_pred (suc left) d l st =
        pred_if_lem d left (let i : suc d + left ≡ levels = omega arith in i) (λ b t. expr_at left names s b t) (λ t. pred_at left names s t)
        (λ b t. sound-expr left (suc d) (let i : suc d + left ≡ levels = omega arith in i) b t) (λ t. sound_pred left (suc d) (let i : suc d + left ≡ levels = omega arith in i) t)
        st (pred_head s st.at) (pred_says names s bytes st.at)

  pub sound-pair : (st : St) → Holds (λ t a. PairRead names s bytes st a t) (pair_in max_depth names s st)
  unfolding pair_in Holds spell_target
  sound-pair st =
      holds_then (λ t a. TargetRead names s bytes st a t) (λ t a. PairRead names s bytes st a t) (target_in names s st) _ (sound-target names s bytes st)
      (λ a t r. holds_then (λ u b. ExprRead names s bytes 1 false t b u) (λ t a. PairRead names s bytes st a t) (expr_at max_depth names s false t) _ (sound-expr max_depth 1 refl false t)
      (λ b u q.
      let ro = r.step.opens in
      let y = expr-at q (st.at.0 + 3) st.opened r.step.stand.ends (let j : t.opened ≡ st.opened = omega arith in j) in
      record { step = step_join s r.step q.step; target_placed = r.placed; target_fits = r.fits; placed = y.0; fits = y.1 }))

  pairs-none : (st : St) → PairsRead names s bytes 0 st [] st
  unfolding spell_pairs slots_pairs pairs PlacedPairs FitsPairs
  pairs-none st = record { step = step-none s st; count = refl; placed = tt; fits = λ z. tt }

  pairs-more : (n : ℕ) (st t u : St) (a : Target × Expr) (b : List (Target × Expr)) → PairRead names s bytes st a t → PairsRead names s bytes n t b u → PairsRead names s bytes (suc n) st (a ∷ b) u
  unfolding spell_pairs spell_target slots_pairs pairs PlacedPairs FitsPairs
  pairs-more n st t u a b r q =
      let e = r.step.stand.ends in let l = length-expr a.1 in let o = r.step.opens in
      let i : t.at.0 ≡ st.at.0 + 3 + size a.1 = omega arith in
      record {
        step = step_as s (step_join s r.step q.step) (omega arith) refl;
        count = ap suc q.count;
        placed = (r.target_placed, r.placed, rw i at q.placed);
        fits = λ z. (r.target_fits, rw z at r.fits, q.fits (omega arith));
      }

  sound-pairs : (n : ℕ) (st : St) → Holds (λ t a. PairsRead names s bytes n st a t) (pairs_at max_depth names s n st)
  unfolding pairs_at
  sound-pairs n st = holds-many [] ◌∷◌ (pair_in max_depth names s) (PairRead names s bytes) (PairsRead names s bytes) pairs-none pairs-more sound-pair n st

  module _ (st : St) (none_open : st.opened ≡ 0) where
    becomes-by : (n : ℕ) (e : Place) (k : ℕ) → Stand s st.at.0 (k ∷ n ∷ []) e.0 → Holds (λ t a. FormulaRead names s bytes st a t) (becomes_by max_depth names s n e st k)
    unfolding becomes_by Holds spell_formula slots_of PlacedFormula FitsRoot spell_targets PlacedTargets spell_target
    becomes-by zero e k x = tt
    becomes-by (suc n) e k x =
        choose S k 0x30 _ _
        (λ h. holds_then (λ u a. PairsRead names s bytes (suc n) (moved e st) a u) (λ t a. FormulaRead names s bytes st a t) (pairs_at max_depth names s (suc n) (moved e st)) _ (sound-pairs (suc n) (moved e st))
        (λ a u r.
        let w = step-moved s st (0x30 ∷ suc n ∷ []) e (rw h at x) in
        let y = step_join s w r.step in
        let i : (moved e st).at.0 ≡ st.at.0 + 2 = w.stand.ends in
        let c = r.count in let o = w.opens in
        record { stand = rw c y.stand; owns = let j = y.owns in omega arith; limit = y.limit; placed = (refl, rw i at r.placed); fits = ((let j : 1 ≤ pairs a = omega arith in j), r.fits (omega arith)) }))
        (choose S k 0x31 _ _
        (λ h. holds_then (λ u a. TargetRead names s bytes (moved e st) a u) (λ t a. FormulaRead names s bytes st a t) (target_in names s (moved e st)) _ (sound-target names s bytes (moved e st))
        (λ a u r. holds_then (λ v b. TargetsRead names s bytes n u b v) (λ t a. FormulaRead names s bytes st a t) (targets_at names s n u) _ (sound-targets names s bytes n u)
        (λ b v q. holds_then (λ z f. ExprRead names s bytes 1 false v f z) (λ t a. FormulaRead names s bytes st a t) (expr_at max_depth names s false v) _ (sound-expr max_depth 1 refl false v)
        (λ f z g.
        let w = step-moved s st (0x31 ∷ suc n ∷ []) e (rw h at x) in
        let y = step_join s w (step_join s r.step (step_join s q.step g.step)) in
        let i : (moved e st).at.0 ≡ st.at.0 + 2 = w.stand.ends in
        let re = r.step.stand.ends in let qe = q.step.stand.ends in let ql = length-targets b in
        let wo = w.opens in let ro = r.step.opens in let qo = q.step.opens in
        let j : u.at.0 ≡ st.at.0 + 5 = three u.at.0 (moved e st).at.0 st.at.0 re i in
        let c = q.count in
        let p = expr-at g (st.at.0 + 5 + size_targets b) 0 (let m : v.at.0 ≡ st.at.0 + 5 + size_targets b = omega arith in m) (let m : v.opened ≡ 0 = omega arith in m) in
        record { stand = rw c y.stand; owns = let m = y.owns in omega arith; limit = y.limit; placed = (refl, r.placed ∙ i, rw j at q.placed, p.0); fits = (r.fits, q.fits, p.1) }))))
        (choose S k 0x32 _ _
        (λ h. holds_then (λ u a. TargetsRead names s bytes (suc n) (moved e st) a u) (λ t a. FormulaRead names s bytes st a t) (targets_at names s (suc n) (moved e st)) _ (sound-targets names s bytes (suc n) (moved e st))
        (λ a u r. holds_then (λ v b. DeclsRead names s bytes 1 (suc n) u b v) (λ t a. FormulaRead names s bytes st a t) (decls_at names s max_depth (suc n) u) _ (sound-decls 1 max_depth refl (suc n) u)
        (λ b v q. holds_then (λ z f. PredRead names s bytes 1 v f z) (λ t a. FormulaRead names s bytes st a t) (pred_at max_depth names s v) _ (sound_pred max_depth 1 refl v)
        (λ f z g.
        let w = step-moved s st (0x32 ∷ suc n ∷ []) e (rw h at x) in
        let y = step_join s w (step_join s r.step (step_join s q.step g.step)) in
        let i : (moved e st).at.0 ≡ st.at.0 + 2 = w.stand.ends in
        let re = r.step.stand.ends in let qe = q.step.stand.ends in let rl = length-targets a in let ql = length-decls b in
        let wo = w.opens in let ro = r.step.opens in let qo = q.step.opens in
        let c = r.count in let m = q.count in
        let j : u.at.0 ≡ st.at.0 + 2 + size_targets a = omega arith in
        let p = pred_at_lem g (st.at.0 + 2 + size_targets a + size_decls b) (decls b) (let m : v.at.0 ≡ st.at.0 + 2 + size_targets a + size_decls b = omega arith in m) (let m : v.opened ≡ decls b = omega arith in m) in
        let most = q.most (omega arith) in
        record {
          stand = rw c y.stand;
          owns = let m = y.owns in omega arith;
          limit = y.limit;
          placed = (refl, rw i at r.placed, rw j at q.placed, p.0);
          fits = ((let m : 1 ≤ targets a = omega arith in m), c ∙ sym m, (let m : decls b ≤ max_opened = omega arith in m), r.fits, q.fits, p.1);
        })))) tt))
      where
        S : Got Formula → Type 0
        S = Holds (λ t a. FormulaRead names s bytes st a t)

        three : (p q r : ℕ) → p ≡ q + 3 → q ≡ r + 2 → p ≡ r + 5
        three p q r h k = omega arith

    becomes-at : (k : ℕ) (q : Place) → Stand s st.at.0 (k ∷ []) q.0 → Holds (λ t a. FormulaRead names s bytes st a t) (becomes_at names s st k q)
    unfolding becomes_at Holds
    becomes-at k q x = on-few s bytes (Holds (λ t a. FormulaRead names s bytes st a t)) (bad (Malformed st.at)) q _ tt (λ n e l y. becomes-by n e k (stand_join s st.at.0 q.0 e.0 (k ∷ []) (n ∷ []) x y))

    root_by_lem : (k : ℕ) (q : Place) → Stand s st.at.0 (k ∷ []) q.0 → Holds (λ t a. FormulaRead names s bytes st a t) (root_by names s st k q)
    unfolding root_by Holds spell_formula slots_of PlacedFormula FitsRoot
    root_by_lem k q x = go (ltb k 0x20) (ltb k 0x30)
      where
        as_expr : Holds (λ t a. FormulaRead names s bytes st a t) (and_then (expr_at levels names s false st) λ a st₁. ok st₁ (expression a))
        as_expr =
            holds_then (λ u a. ExprRead names s bytes 0 false st a u) (λ t a. FormulaRead names s bytes st a t) (expr_at levels names s false st) _ (sound-expr levels 0 refl false st)
            (λ a u r. record { stand = r.step.stand; owns = r.step.owns; limit = r.step.limit; placed = r.placed; fits = rw none_open at r.fits })

        as_pred : Holds (λ t a. FormulaRead names s bytes st a t) (and_then (pred_at levels names s st) λ q st₁. ok st₁ (predicate q))
        as_pred =
            holds_then (λ u a. PredRead names s bytes 0 st a u) (λ t a. FormulaRead names s bytes st a t) (pred_at levels names s st) _ (sound_pred levels 0 refl st)
            (λ a u r. record { stand = r.step.stand; owns = r.step.owns; limit = r.step.limit; placed = r.placed; fits = rw none_open at r.fits })

        go : (b c : Bool) → Holds (λ t a. FormulaRead names s bytes st a t) (pick b (and_then (expr_at levels names s false st) λ a st₁. ok st₁ (expression a)) (pick c (and_then (pred_at levels names s st) λ q st₁. ok st₁ (predicate q)) (becomes_at names s st k q)))
        go true true = as_expr
        go true false = as_expr
        go false true = as_pred
        go false false = becomes-at k q x

    pub sound-formula : Holds (λ t a. FormulaRead names s bytes st a t) (formula_at names s st)
    unfolding formula_at Holds
    sound-formula = on_byte_lem s bytes (Holds (λ t a. FormulaRead names s bytes st a t)) (bad (Malformed st.at)) st.at (root_by names s st) tt (λ k q l x. root_by_lem k q x)
