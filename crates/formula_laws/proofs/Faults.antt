-- The theorems of specs/Faults.antt: `expr-fails`, `pred_fails`, `formula-fails`.
use Prim.Native.Nat.{ℕ, zero, suc, ◌+◌, ◌≤◌, ◌<◌}
use native.Mathlib.Omega.{arith}
use Rattle.std.specs.Prelude.{◌≡◌, Bool, get_or, ltb, Option, Some, None, Ok, Err}
use Rattle.std.proofs.Math.Path.{refl, sym, ap}
use Rattle.std.proofs.Common.{◌∙◌, get_or-drop, ltb-false}
use Rattle.std.proofs.Math.Bool.{true, false}
use mathlib.Core.List.{List, [], ◌∷◌, ◌++◌, append_assoc}
use Rattle.types.specs.declared.Place.{Place}
use Rattle.types.specs.Ty as T
use Rattle.types.specs.Ty.{Ty}
use Rattle.types.specs.Record.{TypeAt, got, malformed, deep, type_at}
use Rattle.types.specs.Spellings.{bytes-at}
use Rattle.types.specs.Faults.{malformed_means, deep_means}
use Rattle.heads.specs.declared.ExprHead.{ExprHead}
use Rattle.heads.specs.declared.ExprHead.TheVariants.{Free, Bound, Literal, Atomic, Extension, Truth, Binary, Associative, Unary, Quantified, Ascribed, Explicit}
use Rattle.heads.specs.declared.PredHead.{PredHead}
use Rattle.heads.specs.declared.PredHead.TheVariants.{Constant, Variable, Relational, Connective, Junction, Negation, Quantification, Simple, Multiple, Application}
use Rattle.heads.specs.declared.DeclHead.{DeclHead}
use Rattle.heads.specs.declared.DeclHead.TheVariants.{Plain, Typed, Annotated}
use Rattle.formula.specs.declared.St.{St}
use Rattle.types.specs.declared.Fault.TheVariants.{Malformed, Beyond}
use Rattle.formula.specs.Tree.{Spelling, spells, no_type, Decl, plain, typed, annotated, Expr, literal, extension, truth, binary, associative, unary, quantified, ascribed, explicit, Exprs, none, more, Pred, constant, relational, connective, junction, negation, quantification, simple, multiple, application, Preds, end, also, Target, Formula, expression, predicate, becomes, becomes_in, becomes_such, decls, exprs, preds, targets, pairs}
use Rattle.formula.specs.Spell.{spell_spelling, spell_decl, spell_decls, spell, spell_all, spell_pred, spell_preds, spell_target, spell_targets, spell_pairs, spell_formula}
use Rattle.heads.specs.Heads.{pick, expr_head, pred_head, decl_head, target_at}
use Rattle.formula.specs.Reader.{Got, ok, bad, and_then, on_next, many, moved, own_of, declare_of, closing, type_got, type_in, read_no_type, spelled_in, spelling_in, Out}
use Rattle.formula.specs.Parse.{decl_by, decl_if, decl_at, decls_at, expr_by, pred_by, expr_if, pred_if, expr_deep, pred_deep, expr_at, pred_at, target_by, target_in, pair_in, targets_at, pairs_at, becomes_by, becomes_at, root_by, formula_at}
use Rattle.types.specs.Limits.{max_depth, max_slots, max_opened, levels}
use Rattle.formula_laws.specs.Fits.{is_bare, FitsTy}
use Rattle.formula_laws.specs.Says.{Stand, stand_join, on_byte_lem, on-few, choose, ExprSays, PredSays, DeclSays, expr-says, pred_says, decl_says}
use Rattle.formula_laws.specs.Shape.{ShapeSpelling, ShapeDecl, ShapeDecls, Shape, ShapeAll, ShapePred, ShapePreds, ShapeTargets, ShapePairs, ShapeFormula, fits-targets}
use Rattle.formula_laws.proofs.Shape.{fits_decl, fits-decls, fits-shape, fits_pred}
use Rattle.formula_laws.specs.Sound.{Holds, TypeRead, SpellingRead, DeclRead, DeclsRead, ExprRead, ExprsRead, PredRead, PredsRead, TargetRead, TargetsRead, PairRead, step-own, step-declare, step-moved, sound-target, sound-targets}
use Rattle.formula_laws.proofs.Sound.{sound-type, sound_spelling, sound_decl, sound-decls, sound-expr, sound_pred, sound-pair, all_read, preds-read}
use Rattle.formula_laws.specs.Faults.{Fails, lead_up, TypeUp, SpellingUp, upto-here, DeclUp, upto-after, DeclsUp, upto-first, ExprUp, PredUp, ExprsUp, PredsUp, FormulaUp, TargetUp, TargetsUp, PairUp, PairsUp}

unfoldable Faulty : (ℕ → Type 0) → Out → Type 0
Faulty U (Ok t) = Unit {0}
Faulty U (Err (Malformed p)) = U p.0
Faulty U (Err (Beyond p)) = U p.0

holds-any : {A : Type 0} (g : Got A) → Holds (λ t a. Unit {0}) g
unfolding Holds
holds-any (ok t a) = tt
holds-any (bad f) = tt

fails-then : {A B : Type 0} (R : St → A → Type 0) (Z U : ℕ → Type 0) (g : Got A) (k : A → St → Got B) → Holds R g → Fails Z g → ((q : ℕ) → Z q → U q) → ((a : A) (t : St) → R t a → Fails U (k a t)) → Fails U (and_then g k)
unfolding Holds Fails and_then
fails-then R Z U (ok t a) k h v f c = c a t h
fails-then R Z U (bad (Malformed p)) k h v f c = f p.0 v
fails-then R Z U (bad (Beyond p)) k h v f c = f p.0 v

fails-next : {B : Type 0} (U : ℕ → Type 0) (o : Out) (k : St → Got B) → Faulty U o → ((t : St) → o ≡ Ok t → Fails U (k t)) → Fails U (on_next o k)
unfolding Fails on_next Faulty
fails-next U (Ok t) k z c = c t refl
fails-next U (Err (Malformed p)) k z c = z
fails-next U (Err (Beyond p)) k z c = z

own-faulty : (U : ℕ → Type 0) (e : Place) (st : St) → U st.at.0 → Faulty U (own_of e st)
unfolding own_of Faulty
own-faulty U e st z = go (ltb st.slots max_slots)
  where
    go : (b : Bool) → Faulty U (pick b (Ok (record { at = e; slots = st.slots + 1; opened = st.opened })) (Err (Beyond st.at)))
    go true = tt
    go false = z

declare-faulty : (U : ℕ → Type 0) (e : Place) (st : St) → U st.at.0 → Faulty U (declare_of e st)
unfolding declare_of Faulty
declare-faulty U e st z = go (ltb st.opened max_opened) (ltb st.slots max_slots)
  where
    go : (b c : Bool) → Faulty U (pick b (pick c (Ok (record { at = e; slots = st.slots + 1; opened = st.opened + 1 })) (Err (Beyond st.at))) (Err (Beyond st.at)))
    go true true = tt
    go true false = z
    go false true = z
    go false false = z

fails-closing : {A : Type 0} (U : ℕ → Type 0) (n : ℕ) (g : Got A) → Fails U g → Fails U (closing n g)
unfolding Fails closing
fails-closing U n (ok t a) h = tt
fails-closing U n (bad (Malformed p)) h = h
fails-closing U n (bad (Beyond p)) h = h

fails-last : {A B : Type 0} (R : St → A → Type 0) (Z U : ℕ → Type 0) (g : Got A) (f : A → B) → Holds R g → Fails Z g → ((q : ℕ) → Z q → U q) → Fails U (and_then g λ a t. ok t (f a))
unfolding Fails
fails-last R Z U g f h v c = fails-then R Z U g _ h v c (λ a t r. tt)

fails-many : {A C : Type 0} (nil : C) (cons : A → C → C) (m : St → Got A) (R : St → A → St → Type 0) (Z : St → ℕ → Type 0) (W : ℕ → St → ℕ → Type 0)
    → ((st : St) → Holds (λ t a. R st a t) (m st)) → ((st : St) → Fails (Z st) (m st))
    → ((n : ℕ) (st : St) (q : ℕ) → Z st q → W (suc n) st q) → ((n : ℕ) (st t : St) (a : A) (q : ℕ) → R st a t → W n t q → W (suc n) st q)
    → (n : ℕ) (st : St) → Fails (W n st) (many nil cons m n st)
unfolding many Fails
fails-many nil cons m R Z W h v x y zero st = tt
fails-many nil cons m R Z W h v x y (suc n) st =
    fails-then (λ t a. R st a t) (Z st) (W (suc n) st) (m st) _ (h st) (v st) (x n st)
    (λ a t r. fails-then (λ u b. Unit {0}) (W n t) (W (suc n) st) (many nil cons m n t) _ (holds-any (many nil cons m n t)) (fails-many nil cons m R Z W h v x y n t) (λ q w. y n st t a q r w) (λ b u z. tt))

module _ (names : ℕ) (s : List ℕ) (bytes : (i : ℕ) → get_or s i 0 < 256) where
  type-fails : (left : ℕ) (st : St) → Fails (TypeUp names s bytes st) (type_in names s left st)
  unfolding type_in type_got Fails
  type-fails left st = go (type_at left names s st.at.0) refl
    where
      go : (x : TypeAt) → type_at left names s st.at.0 ≡ x → Fails (TypeUp names s bytes st) (type_got x st)
      go (got t e) k = tt
      go (malformed q) k = lead_up names s bytes left st q (malformed_means left names s (bytes-at s bytes) st.at.0 q k).0
      go (deep q) k = lead_up names s bytes left st q (deep_means left names s (bytes-at s bytes) st.at.0 q k).0

  spelled-fails : (left : ℕ) (st : St) (d : ℕ) → d + left ≡ levels → Fails (SpellingUp names s bytes st) (spelled_in names s left st)
  unfolding spelled_in SpellingUp TypeUp ShapeSpelling spell_spelling
  spelled-fails left st d l = fails-last (λ t a. TypeRead names s bytes d st a t) (TypeUp names s bytes st) (SpellingUp names s bytes st) (type_in names s left st) spells (sound-type names s bytes d left l st) (type-fails left st) (λ q u. (spells u.0, u.1, u.2))

  none-fails : (left : ℕ) (st : St) (e : Place) → Fails (SpellingUp names s bytes st) (read_no_type left e st)
  unfolding read_no_type Fails SpellingUp ShapeSpelling
  none-fails zero st e = (no_type, tt, upto-here s st.at.0 _)
  none-fails (suc left) st e = tt

  spelling_fails : (left : ℕ) (st : St) (d : ℕ) → d + left ≡ levels → Fails (SpellingUp names s bytes st) (spelling_in names s left st)
  unfolding spelling_in
  spelling_fails left st d l =
      on_byte_lem s bytes Q (spelled_in names s left st) st.at _ (spelled-fails left st d l)
      (λ k e b x. choose Q k 0x4F _ _ (λ z. none-fails left st e) (spelled-fails left st d l))
    where
      Q : Got Spelling → Type 0
      Q = Fails (SpellingUp names s bytes st)

  decl_start : (st : St) → DeclUp names s bytes st st.at.0
  unfolding DeclUp ShapeDecl
  decl_start st = (plain 0, tt, upto-here s st.at.0 _)

  decl_by-fails : (left d : ℕ) → suc d + left ≡ levels → (st : St) (h : DeclHead) → DeclSays s st.at.0 (Some h) → Fails (DeclUp names s bytes st) (decl_by names s left st h)
  unfolding decl_by DeclSays Fails DeclUp TypeUp SpellingUp ShapeDecl spell_decl
  decl_by-fails left d l st (Plain e) x = fails-next (DeclUp names s bytes st) (declare_of e st) _ (declare-faulty (DeclUp names s bytes st) e st (decl_start st)) (λ t o. tt)
  decl_by-fails left d l st (Typed e) x =
      fails-next (DeclUp names s bytes st) (declare_of e st) _ (declare-faulty (DeclUp names s bytes st) e st (decl_start st))
      (λ t o. fails-last (λ u a. TypeRead names s bytes (suc d) t a u) (TypeUp names s bytes t) (DeclUp names s bytes st) (type_in names s left t) (typed st.at.0) (sound-type names s bytes (suc d) left l t) (type-fails left t)
      (λ q u. (typed 0 u.0, u.1, upto-after s (step-declare s e st t _ o x).0.stand u.2)))
  decl_by-fails left d l st (Annotated e) x =
      fails-next (DeclUp names s bytes st) (declare_of e st) _ (declare-faulty (DeclUp names s bytes st) e st (decl_start st))
      (λ t o. fails-last (λ u a. SpellingRead names s bytes (suc d) t a u) (SpellingUp names s bytes t) (DeclUp names s bytes st) (spelling_in names s left t) (annotated st.at.0) (sound_spelling names s bytes (suc d) left l t) (spelling_fails left t (suc d) l)
      (λ q u. (annotated 0 u.0, u.1, upto-after s (step-declare s e st t _ o x).0.stand u.2)))

  decl_fails : (left d : ℕ) → d + left ≡ levels → (st : St) → Fails (DeclUp names s bytes st) (decl_at names s left st)
  unfolding decl_at decl_if Fails
  decl_fails left d l st = go left l (decl_head s st.at) (decl_says names s bytes st.at)
    where
      go : (left : ℕ) → d + left ≡ levels → (h : Option DeclHead) → DeclSays s st.at.0 h → Fails (DeclUp names s bytes st) (decl_if names s left st h)
      go left l None x = decl_start st
      go zero l (Some h) x = decl_start st
      go (suc left) l (Some h) x = decl_by-fails left d (let i : suc d + left ≡ levels = omega arith in i) st h x

  -- a row of declarations, the rest of them plain
  plains : ℕ → List Decl
  plains zero = []
  plains (suc n) = plain 0 ∷ plains n

  plains-good : (n : ℕ) → (decls (plains n) ≡ n) × ShapeDecls names (plains n)
  unfolding plains decls ShapeDecls ShapeDecl
  plains-good zero = (refl, tt)
  plains-good (suc n) = let h = plains-good n in (ap suc h.0, (tt, h.1))

  decls-first : (n : ℕ) (st : St) (q : ℕ) → DeclUp names s bytes st q → DeclsUp names s bytes (suc n) st q
  unfolding DeclUp DeclsUp ShapeDecls decls spell_decls
  decls-first n st q u = let h = plains-good n in (u.0 ∷ plains n, ap suc h.0, (u.1, h.1), upto-first s u.2 (spell_decls (plains n)))

  decls-later : (d n : ℕ) (st t : St) (a : Decl) (q : ℕ) → DeclRead names s bytes d st a t → DeclsUp names s bytes n t q → DeclsUp names s bytes (suc n) st q
  unfolding DeclsUp ShapeDecls decls spell_decls
  decls-later d n st t a q r w = (a ∷ w.0, ap suc w.1, (fits_decl names d a r.fits, w.2), upto-after s r.step.stand w.3)

  decls-fails : (left d : ℕ) → d + left ≡ levels → (n : ℕ) (st : St) → Fails (DeclsUp names s bytes n st) (decls_at names s left n st)
  unfolding decls_at
  decls-fails left d l n st =
      fails-many [] ◌∷◌ (decl_at names s left) (DeclRead names s bytes d) (DeclUp names s bytes) (DeclsUp names s bytes) (sound_decl names s bytes d left l) (decl_fails left d l) decls-first (decls-later d) n st

  expr-start : (bare : Bool) (st : St) → ExprUp names s bytes bare st st.at.0
  unfolding ExprUp Shape is_bare
  expr-start bare st = (literal 0, (λ z. refl), tt, upto-here s st.at.0 _)

  pred_start : (st : St) → PredUp names s bytes st st.at.0
  unfolding PredUp ShapePred
  pred_start st = (constant 0, tt, upto-here s st.at.0 _)

  -- n literals, n constants
  literals : ℕ → Exprs
  literals zero = none
  literals (suc n) = more (literal 0) (literals n)

  literals-good : (n : ℕ) → (exprs (literals n) ≡ n) × ShapeAll names (literals n)
  unfolding literals exprs ShapeAll Shape
  literals-good zero = (refl, tt)
  literals-good (suc n) = let h = literals-good n in (ap suc h.0, (tt, h.1))

  constants : ℕ → Preds
  constants zero = end
  constants (suc n) = also (constant 0) (constants n)

  constants-good : (n : ℕ) → (preds (constants n) ≡ n) × ShapePreds names (constants n)
  unfolding constants preds ShapePreds ShapePred
  constants-good zero = (refl, tt)
  constants-good (suc n) = let h = constants-good n in (ap suc h.0, (tt, h.1))

  exprs-first : (n : ℕ) (st : St) (q : ℕ) → ExprUp names s bytes false st q → ExprsUp names s bytes (suc n) st q
  unfolding ExprUp ExprsUp ShapeAll exprs spell_all
  exprs-first n st q u = let h = literals-good n in (more u.0 (literals n), ap suc h.0, (u.2, h.1), upto-first s u.3 (spell_all (literals n)))

  exprs-later : (d n : ℕ) (st t : St) (a : Expr) (q : ℕ) → ExprRead names s bytes d false st a t → ExprsUp names s bytes n t q → ExprsUp names s bytes (suc n) st q
  unfolding ExprsUp ShapeAll exprs spell_all
  exprs-later d n st t a q r w = (more a w.0, ap suc w.1, (fits-shape a names d st.opened r.fits, w.2), upto-after s r.step.stand w.3)

  preds-first : (n : ℕ) (st : St) (q : ℕ) → PredUp names s bytes st q → PredsUp names s bytes (suc n) st q
  unfolding PredUp PredsUp ShapePreds preds spell_preds
  preds-first n st q u = let h = constants-good n in (also u.0 (constants n), ap suc h.0, (u.1, h.1), upto-first s u.2 (spell_preds (constants n)))

  preds-later : (d n : ℕ) (st t : St) (a : Pred) (q : ℕ) → PredRead names s bytes d st a t → PredsUp names s bytes n t q → PredsUp names s bytes (suc n) st q
  unfolding PredsUp ShapePreds preds spell_preds
  preds-later d n st t a q r w = (also a w.0, ap suc w.1, (fits_pred a names d st.opened r.fits, w.2), upto-after s r.step.stand w.3)

  -- small facts for the clauses below
  literal-shape : Shape names (literal 0)
  unfolding Shape
  literal-shape = tt

  constant-shape : ShapePred names (constant 0)
  unfolding ShapePred
  constant-shape = tt

  none-shape : ShapeSpelling names no_type
  unfolding ShapeSpelling
  none-shape = tt

  not_here : (bare : Bool) → bare ≡ false → bare ≡ true → false ≡ true
  not_here bare h k = sym h ∙ k

  type-below : {d : ℕ} {st t : St} {a : Ty} → TypeRead names s bytes d st a t → T.Below names a
  unfolding FitsTy
  type-below r = r.fits.1

  -- one record, where X and Q read those below it
  module _ (d left : ℕ) (l : suc d + left ≡ levels) (X : Bool → St → Got Expr) (Q : St → Got Pred)
      (hX : (b : Bool) (t : St) → Holds (λ u a. ExprRead names s bytes (suc d) b t a u) (X b t)) (hQ : (t : St) → Holds (λ u a. PredRead names s bytes (suc d) t a u) (Q t))
      (fX : (b : Bool) (t : St) → Fails (ExprUp names s bytes b t) (X b t)) (fQ : (t : St) → Fails (PredUp names s bytes t) (Q t)) (st : St) where
    all-fails : (n : ℕ) (t : St) → Fails (ExprsUp names s bytes n t) (many none more (X false) n t)
    all-fails n t = fails-many none more (X false) (ExprRead names s bytes (suc d) false) (ExprUp names s bytes false) (ExprsUp names s bytes) (hX false) (fX false) exprs-first (exprs-later (suc d)) n t

    preds-fails : (n : ℕ) (t : St) → Fails (PredsUp names s bytes n t) (many end also Q n t)
    preds-fails n t = fails-many end also Q (PredRead names s bytes (suc d)) (PredUp names s bytes) (PredsUp names s bytes) hQ fQ preds-first (preds-later (suc d)) n t

    shape_of : {b : Bool} {t u : St} {a : Expr} → ExprRead names s bytes (suc d) b t a u → Shape names a
    shape_of {t = t} {a = a} r = fits-shape a names (suc d) t.opened r.fits

    shape_pred_of : {t u : St} {a : Pred} → PredRead names s bytes (suc d) t a u → ShapePred names a
    shape_pred_of {t = t} {a = a} r = fits_pred a names (suc d) t.opened r.fits

    expr-by-fails : (bare : Bool) (h : ExprHead) → ExprSays names s bare st.at.0 (Some h) → Fails (ExprUp names s bytes bare st) (expr_by names s left X Q st h)
    unfolding expr_by ExprSays Fails ExprUp PredUp ExprsUp DeclsUp SpellingUp TypeUp Shape spell is_bare
    expr-by-fails bare (Free n e) x = fails-next (ExprUp names s bytes bare st) (own_of e st) _ (own-faulty (ExprUp names s bytes bare st) e st (expr-start bare st))
        (λ t o. tt)
    expr-by-fails bare (Bound i e) x = fails-next (ExprUp names s bytes bare st) (own_of e st) _ (own-faulty (ExprUp names s bytes bare st) e st (expr-start bare st))
        (λ t o. tt)
    expr-by-fails bare (Literal e) x = fails-next (ExprUp names s bytes bare st) (own_of e st) _ (own-faulty (ExprUp names s bytes bare st) e st (expr-start bare st))
        (λ t o. tt)
    expr-by-fails bare (Atomic c e) x = fails-next (ExprUp names s bytes bare st) (own_of e st) _ (own-faulty (ExprUp names s bytes bare st) e st (expr-start bare st))
        (λ t o. tt)
    expr-by-fails bare (Extension n e) x =
        fails-next (ExprUp names s bytes bare st) (own_of e st) _ (own-faulty (ExprUp names s bytes bare st) e st (expr-start bare st))
        (λ t o. fails-last (λ u a. ExprsRead names s bytes (suc d) n t a u) (ExprsUp names s bytes n t) (ExprUp names s bytes bare st) (many none more (X false) n t) (extension st.at.0) (all_read names s bytes d left l X Q hX hQ st n t) (all-fails n t)
        (λ q u. (extension 0 u.0, (λ z. refl), (rw u.1 x.0, u.2), rw u.1 (upto-after s (step-own s e st t _ o x.1).stand u.3))))
    expr-by-fails bare (Truth e) x =
        fails-next (ExprUp names s bytes bare st) (own_of e st) _ (own-faulty (ExprUp names s bytes bare st) e st (expr-start bare st))
        (λ t o. fails-last (λ u a. PredRead names s bytes (suc d) t a u) (PredUp names s bytes t) (ExprUp names s bytes bare st) (Q t) (truth st.at.0) (hQ t) (fQ t)
        (λ q u. (truth 0 u.0, (λ z. refl), u.1, upto-after s (step-own s e st t _ o x).stand u.2)))
    expr-by-fails bare (Binary c e) x =
        fails-next (ExprUp names s bytes bare st) (own_of e st) _ (own-faulty (ExprUp names s bytes bare st) e st (expr-start bare st))
        (λ t o. fails-then (λ u a. ExprRead names s bytes (suc d) false t a u) (ExprUp names s bytes false t) (ExprUp names s bytes bare st) (X false t) _ (hX false t) (fX false t)
        (λ q u. (binary 0 c u.0 (literal 0), (λ z. refl), (x.0, u.2, tt), upto-after s (step-own s e st t _ o x.1).stand (upto-first s u.3 (0x03 ∷ []))))
        (λ a v r. fails-last (λ u b. ExprRead names s bytes (suc d) false v b u) (ExprUp names s bytes false v) (ExprUp names s bytes bare st) (X false v) (binary st.at.0 c a) (hX false v) (fX false v)
        (λ q u. (binary 0 c a u.0, (λ z. refl), (x.0, shape_of r, u.2), upto-after s (step-own s e st t _ o x.1).stand (upto-after s r.step.stand u.3)))))
    expr-by-fails bare (Associative c n e) x =
        fails-next (ExprUp names s bytes bare st) (own_of e st) _ (own-faulty (ExprUp names s bytes bare st) e st (expr-start bare st))
        (λ t o. fails-last (λ u a. ExprsRead names s bytes (suc d) n t a u) (ExprsUp names s bytes n t) (ExprUp names s bytes bare st) (many none more (X false) n t) (associative st.at.0 c) (all_read names s bytes d left l X Q hX hQ st n t) (all-fails n t)
        (λ q u. (associative 0 c u.0, (λ z. refl), (x.0, rw u.1 x.1, u.2), rw u.1 (upto-after s (step-own s e st t _ o x.2).stand u.3))))
    expr-by-fails bare (Unary c e) x =
        fails-next (ExprUp names s bytes bare st) (own_of e st) _ (own-faulty (ExprUp names s bytes bare st) e st (expr-start bare st))
        (λ t o. fails-last (λ u a. ExprRead names s bytes (suc d) false t a u) (ExprUp names s bytes false t) (ExprUp names s bytes bare st) (X false t) (unary st.at.0 c) (hX false t) (fX false t)
        (λ q u. (unary 0 c u.0, (λ z. refl), (x.0, u.2), upto-after s (step-own s e st t _ o x.1).stand u.3)))
    expr-by-fails bare (Quantified c n e) x =
        fails-closing (ExprUp names s bytes bare st) st.opened (on_next (own_of e st) _)
        (fails-next (ExprUp names s bytes bare st) (own_of e st) _ (own-faulty (ExprUp names s bytes bare st) e st (expr-start bare st))
        (λ t o. fails-then (λ u a. DeclsRead names s bytes (suc d) n t a u) (DeclsUp names s bytes n t) (ExprUp names s bytes bare st) (decls_at names s left n t) _ (sound-decls names s bytes (suc d) left l n t) (decls-fails left (suc d) l n t)
        (λ q u. (quantified 0 c u.0 (constant 0) (literal 0), (λ z. refl), (x.0, rw u.1 x.1, u.2, tt, tt), rw u.1 (upto-after s (step-own s e st t _ o x.2).stand (upto-first s u.3 (0x20 ∷ 0x03 ∷ [])))))
        (λ ds v g. fails-then (λ u b. PredRead names s bytes (suc d) v b u) (PredUp names s bytes v) (ExprUp names s bytes bare st) (Q v) _ (hQ v) (fQ v)
        (λ q u. (quantified 0 c ds u.0 (literal 0), (λ z. refl), (x.0, rw g.count x.1, fits-decls names (suc d) ds g.fits, u.1, tt), rw g.count (upto-after s (step-own s e st t _ o x.2).stand (upto-after s g.step.stand (upto-first s u.2 (0x03 ∷ []))))))
        (λ b w r. fails-last (λ u a. ExprRead names s bytes (suc d) false w a u) (ExprUp names s bytes false w) (ExprUp names s bytes bare st) (X false w) (quantified st.at.0 c ds b) (hX false w) (fX false w)
        (λ q u. (quantified 0 c ds b u.0, (λ z. refl), (x.0, rw g.count x.1, fits-decls names (suc d) ds g.fits, shape_pred_of r, u.2), rw g.count (upto-after s (step-own s e st t _ o x.2).stand (upto-after s g.step.stand (upto-after s r.step.stand u.3)))))))))
    expr-by-fails bare (Ascribed e) x =
        fails-next (ExprUp names s bytes bare st) (own_of e st) _ (own-faulty (ExprUp names s bytes bare st) e st (expr-start bare st))
        (λ t o. fails-then (λ u a. ExprRead names s bytes (suc d) false t a u) (ExprUp names s bytes false t) (ExprUp names s bytes bare st) (X false t) _ (hX false t) (fX false t)
        (λ q u. (ascribed 0 u.0 0 no_type, (λ z. refl), (u.2, none-shape), upto-after s (step-own s e st t _ o x).stand (upto-first s u.3 _)))
        (λ a v r. fails-then (λ u b. SpellingRead names s bytes (suc d) v b u) (SpellingUp names s bytes v) (ExprUp names s bytes bare st) (spelling_in names s left v) _ (sound_spelling names s bytes (suc d) left l v) (spelling_fails left v (suc d) l)
        (λ q u. (ascribed 0 a 0 u.0, (λ z. refl), (shape_of r, u.1), upto-after s (step-own s e st t _ o x).stand (upto-after s r.step.stand u.2))) (λ b w q. tt)))
    expr-by-fails bare (Explicit e) x =
        fails-then (λ t a. TypeRead names s bytes (suc d) (moved e st) a t) (TypeUp names s bytes (moved e st)) (ExprUp names s bytes bare st) (type_in names s left (moved e st)) _ (sound-type names s bytes (suc d) left l (moved e st)) (type-fails left (moved e st))
        (λ q u. (explicit 0 u.0 (literal 0), not_here bare x.0, (u.1, refl, tt), upto-after s (step-moved s st _ e x.1).stand (upto-first s u.2 (0x03 ∷ []))))
        (λ a t r. fails-last (λ u b. ExprRead names s bytes (suc d) true t b u) (ExprUp names s bytes true t) (ExprUp names s bytes bare st) (X true t) (explicit st.at.0 a) (hX true t) (fX true t)
        (λ q u. (explicit 0 a u.0, not_here bare x.0, (type-below r, (let z = u.1 refl in cc), u.2), upto-after s (step-moved s st _ e x.1).stand (upto-after s r.step.stand u.3))))

    pred_by-fails : (h : PredHead) → PredSays s st.at.0 (Some h) → Fails (PredUp names s bytes st) (pred_by names s left X Q st h)
    unfolding pred_by PredSays Fails ExprUp PredUp ExprsUp PredsUp DeclsUp ShapePred spell_pred
    pred_by-fails (Constant e) x = tt
    pred_by-fails (Variable e) x = tt
    pred_by-fails (Relational c e) x =
        fails-then (λ u a. ExprRead names s bytes (suc d) false (moved e st) a u) (ExprUp names s bytes false (moved e st)) (PredUp names s bytes st) (X false (moved e st)) _ (hX false (moved e st)) (fX false (moved e st))
        (λ q u. (relational 0 c u.0 (literal 0), (x.0, u.2, literal-shape), upto-after s (step-moved s st _ e x.1).stand (upto-first s u.3 _)))
        (λ a v r. fails-last (λ u b. ExprRead names s bytes (suc d) false v b u) (ExprUp names s bytes false v) (PredUp names s bytes st) (X false v) (relational st.at.0 c a) (hX false v) (fX false v)
        (λ q u. (relational 0 c a u.0, (x.0, shape_of r, u.2), upto-after s (step-moved s st _ e x.1).stand (upto-after s r.step.stand u.3))))
    pred_by-fails (Connective e) x =
        fails-then (λ u a. PredRead names s bytes (suc d) (moved e st) a u) (PredUp names s bytes (moved e st)) (PredUp names s bytes st) (Q (moved e st)) _ (hQ (moved e st)) (fQ (moved e st))
        (λ q u. (connective 0 u.0 (constant 0), (u.1, tt), upto-after s (step-moved s st _ e x).stand (upto-first s u.2 (0x20 ∷ []))))
        (λ a v r. fails-last (λ u b. PredRead names s bytes (suc d) v b u) (PredUp names s bytes v) (PredUp names s bytes st) (Q v) (connective st.at.0 a) (hQ v) (fQ v)
        (λ q u. (connective 0 a u.0, (shape_pred_of r, u.1), upto-after s (step-moved s st _ e x).stand (upto-after s r.step.stand u.2))))
    pred_by-fails (Junction n e) x =
        fails-last (λ u a. PredsRead names s bytes (suc d) n (moved e st) a u) (PredsUp names s bytes n (moved e st)) (PredUp names s bytes st) (many end also Q n (moved e st)) (junction st.at.0) (preds-read names s bytes d left l X Q hX hQ st n (moved e st)) (preds-fails n (moved e st))
        (λ q u. (junction 0 u.0, (rw u.1 x.0, u.2), rw u.1 (upto-after s (step-moved s st _ e x.1).stand u.3)))
    pred_by-fails (Negation e) x =
        fails-last (λ u a. PredRead names s bytes (suc d) (moved e st) a u) (PredUp names s bytes (moved e st)) (PredUp names s bytes st) (Q (moved e st)) (negation st.at.0) (hQ (moved e st)) (fQ (moved e st))
        (λ q u. (negation 0 u.0, u.1, upto-after s (step-moved s st _ e x).stand u.2))
    pred_by-fails (Quantification n e) x =
        fails-closing (PredUp names s bytes st) st.opened (and_then (decls_at names s left n (moved e st)) _)
        (fails-then (λ u a. DeclsRead names s bytes (suc d) n (moved e st) a u) (DeclsUp names s bytes n (moved e st)) (PredUp names s bytes st) (decls_at names s left n (moved e st)) _ (sound-decls names s bytes (suc d) left l n (moved e st)) (decls-fails left (suc d) l n (moved e st))
        (λ q u. (quantification 0 u.0 (constant 0), (rw u.1 x.0, u.2, tt), rw u.1 (upto-after s (step-moved s st _ e x.1).stand (upto-first s u.3 (0x20 ∷ [])))))
        (λ ds v g. fails-last (λ u b. PredRead names s bytes (suc d) v b u) (PredUp names s bytes v) (PredUp names s bytes st) (Q v) (quantification st.at.0 ds) (hQ v) (fQ v)
        (λ q u. (quantification 0 ds u.0, (rw g.count x.0, fits-decls names (suc d) ds g.fits, u.1), rw g.count (upto-after s (step-moved s st _ e x.1).stand (upto-after s g.step.stand u.2))))))
    pred_by-fails (Simple e) x =
        fails-last (λ u a. ExprRead names s bytes (suc d) false (moved e st) a u) (ExprUp names s bytes false (moved e st)) (PredUp names s bytes st) (X false (moved e st)) (simple st.at.0) (hX false (moved e st)) (fX false (moved e st))
        (λ q u. (simple 0 u.0, u.2, upto-after s (step-moved s st _ e x).stand u.3))
    pred_by-fails (Multiple n e) x =
        fails-last (λ u a. ExprsRead names s bytes (suc d) n (moved e st) a u) (ExprsUp names s bytes n (moved e st)) (PredUp names s bytes st) (many none more (X false) n (moved e st)) (multiple st.at.0) (all_read names s bytes d left l X Q hX hQ st n (moved e st)) (all-fails n (moved e st))
        (λ q u. (multiple 0 u.0, (rw u.1 x.0, u.2), rw u.1 (upto-after s (step-moved s st _ e x.1).stand u.3)))
    pred_by-fails (Application n e) x =
        fails-last (λ u a. ExprsRead names s bytes (suc d) n (moved e st) a u) (ExprsUp names s bytes n (moved e st)) (PredUp names s bytes st) (many none more (X false) n (moved e st)) (application st.at.0) (all_read names s bytes d left l X Q hX hQ st n (moved e st)) (all-fails n (moved e st))
        (λ q u. (application 0 u.0, u.2, rw u.1 (upto-after s (step-moved s st _ e x).stand u.3)))

    expr_if_fails : (bare : Bool) (h : Option ExprHead) → ExprSays names s bare st.at.0 h → Fails (ExprUp names s bytes bare st) (expr_if names s left X Q st h)
    unfolding expr_if Fails
    expr_if_fails bare None x = expr-start bare st
    expr_if_fails bare (Some h) x = expr-by-fails bare h x

    pred_if_fails : (h : Option PredHead) → PredSays s st.at.0 h → Fails (PredUp names s bytes st) (pred_if names s left X Q st h)
    unfolding pred_if Fails
    pred_if_fails None x = pred_start st
    pred_if_fails (Some h) x = pred_by-fails h x

  expr-deep-fails : (bare : Bool) (st : St) (h : Option ExprHead) → Fails (ExprUp names s bytes bare st) (expr_deep st h)
  unfolding expr_deep Fails
  expr-deep-fails bare st None = expr-start bare st
  expr-deep-fails bare st (Some h) = expr-start bare st

  pred_deep-fails : (st : St) (h : Option PredHead) → Fails (PredUp names s bytes st) (pred_deep st h)
  unfolding pred_deep Fails
  pred_deep-fails st None = pred_start st
  pred_deep-fails st (Some h) = pred_start st

  mutual
    unfolding expr_at pred_at

    pub expr-fails : (left d : ℕ) → d + left ≡ levels → (bare : Bool) (st : St) → Fails (ExprUp names s bytes bare st) (expr_at left names s bare st)
    expr-fails zero d l bare st = expr-deep-fails bare st (expr_head names s bare st.at)
    expr-fails (suc left) d l bare st =
        expr_if_fails d left (let i : suc d + left ≡ levels = omega arith in i) (λ b t. expr_at left names s b t) (λ t. pred_at left names s t)
        (λ b t. sound-expr names s bytes left (suc d) (let i : suc d + left ≡ levels = omega arith in i) b t) (λ t. sound_pred names s bytes left (suc d) (let i : suc d + left ≡ levels = omega arith in i) t)
        (λ b t. expr-fails left (suc d) (let i : suc d + left ≡ levels = omega arith in i) b t) (λ t. pred_fails left (suc d) (let i : suc d + left ≡ levels = omega arith in i) t)
        st bare (expr_head names s bare st.at) (expr-says names s bytes bare st.at)

    pub pred_fails : (left d : ℕ) → d + left ≡ levels → (st : St) → Fails (PredUp names s bytes st) (pred_at left names s st)
    pred_fails zero d l st = pred_deep-fails st (pred_head s st.at)
    pred_fails (suc left) d l st =
        pred_if_fails d left (let i : suc d + left ≡ levels = omega arith in i) (λ b t. expr_at left names s b t) (λ t. pred_at left names s t)
        (λ b t. sound-expr names s bytes left (suc d) (let i : suc d + left ≡ levels = omega arith in i) b t) (λ t. sound_pred names s bytes left (suc d) (let i : suc d + left ≡ levels = omega arith in i) t)
        (λ b t. expr-fails left (suc d) (let i : suc d + left ≡ levels = omega arith in i) b t) (λ t. pred_fails left (suc d) (let i : suc d + left ≡ levels = omega arith in i) t)
        st (pred_head s st.at) (pred_says names s bytes st.at)

  formula-start : (st : St) → FormulaUp names s bytes st st.at.0
  unfolding FormulaUp ShapeFormula ShapePred
  formula-start st = (predicate (constant 0), tt, upto-here s st.at.0 _)

  -- assignments, where a name is known
  module _ (some : 0 < names) where
    target-start : (st : St) → TargetUp names s bytes some st st.at.0
    unfolding TargetUp
    target-start st = (record { place = 0; name = 0 }, some, upto-here s st.at.0 _)

    target-fails : (st : St) → Fails (TargetUp names s bytes some st) (target_in names s st)
    unfolding target_in target_by Fails
    target-fails st = go (target_at names s st.at)
      where
        go : (w : Option (ℕ × Place)) → Fails (TargetUp names s bytes some st) (target_by st w)
        go None = target-start st
        go (Some (n, e)) = fails-next (TargetUp names s bytes some st) (own_of e st) _ (own-faulty (TargetUp names s bytes some st) e st (target-start st)) (λ t o. tt)

    -- n targets that are the first name, n pairs of it and a literal
    zeroths : ℕ → List Target
    zeroths zero = []
    zeroths (suc n) = record { place = 0; name = 0 } ∷ zeroths n

    zeroths-good : (n : ℕ) → (targets (zeroths n) ≡ n) × ShapeTargets names (zeroths n)
    unfolding zeroths targets ShapeTargets
    zeroths-good zero = (refl, tt)
    zeroths-good (suc n) = let h = zeroths-good n in (ap suc h.0, (some, h.1))

    targets-first : (n : ℕ) (st : St) (q : ℕ) → TargetUp names s bytes some st q → TargetsUp names s bytes some (suc n) st q
    unfolding TargetUp TargetsUp ShapeTargets targets spell_targets
    targets-first n st q u = let h = zeroths-good n in (u.0 ∷ zeroths n, ap suc h.0, (u.1, h.1), upto-first s u.2 (spell_targets (zeroths n)))

    targets-later : (n : ℕ) (st t : St) (a : Target) (q : ℕ) → TargetRead names s bytes st a t → TargetsUp names s bytes some n t q → TargetsUp names s bytes some (suc n) st q
    unfolding TargetsUp ShapeTargets targets spell_targets
    targets-later n st t a q r w = (a ∷ w.0, ap suc w.1, (r.fits, w.2), upto-after s r.step.stand w.3)

    targets-fails : (n : ℕ) (st : St) → Fails (TargetsUp names s bytes some n st) (targets_at names s n st)
    unfolding targets_at
    targets-fails n st = fails-many [] ◌∷◌ (target_in names s) (TargetRead names s bytes) (TargetUp names s bytes some) (TargetsUp names s bytes some) (sound-target names s bytes) target-fails targets-first targets-later n st

    pair-fails : (st : St) → Fails (PairUp names s bytes some st) (pair_in max_depth names s st)
    unfolding pair_in PairUp TargetUp ExprUp
    pair-fails st =
        fails-then (λ t a. TargetRead names s bytes st a t) (TargetUp names s bytes some st) (PairUp names s bytes some st) (target_in names s st) _ (sound-target names s bytes st) (target-fails st)
        (λ q u. ((u.0, literal 0), u.1, literal-shape, upto-first s u.2 (spell (literal 0))))
        (λ a t r. fails-last (λ u b. ExprRead names s bytes 1 false t b u) (ExprUp names s bytes false t) (PairUp names s bytes some st) (expr_at max_depth names s false t) (λ b. (a, b)) (sound-expr names s bytes max_depth 1 refl false t) (expr-fails max_depth 1 refl false t)
        (λ q u. ((a, u.0), r.fits, u.2, upto-after s r.step.stand u.3)))

    pairs_of : ℕ → List (Target × Expr)
    pairs_of zero = []
    pairs_of (suc n) = (record { place = 0; name = 0 }, literal 0) ∷ pairs_of n

    pairs_of_good : (n : ℕ) → (pairs (pairs_of n) ≡ n) × ShapePairs names (pairs_of n)
    unfolding pairs_of pairs ShapePairs
    pairs_of_good zero = (refl, tt)
    pairs_of_good (suc n) = let h = pairs_of_good n in (ap suc h.0, (some, literal-shape, h.1))

    same_row : (x y z : List ℕ) → x ++ (y ++ z) ≡ (x ++ y) ++ z
    same_row x y z = sym (append_assoc x y z)

    pairs_first : (n : ℕ) (st : St) (q : ℕ) → PairUp names s bytes some st q → PairsUp names s bytes some (suc n) st q
    unfolding PairUp PairsUp ShapePairs pairs spell_pairs
    pairs_first n st q u =
        let h = pairs_of_good n in
        (u.0 ∷ pairs_of n, ap suc h.0, (u.1, u.2, h.1), rw (same_row (spell_target u.0.0) (spell u.0.1) (spell_pairs (pairs_of n))) (upto-first s u.3 (spell_pairs (pairs_of n))))

    pairs-later : (n : ℕ) (st t : St) (a : Target × Expr) (q : ℕ) → PairRead names s bytes st a t → PairsUp names s bytes some n t q → PairsUp names s bytes some (suc n) st q
    unfolding PairsUp ShapePairs pairs spell_pairs
    pairs-later n st t a q r w =
        (a ∷ w.0, ap suc w.1, (r.target_fits, fits-shape a.1 names 1 st.opened r.fits, w.2), rw (same_row (spell_target a.0) (spell a.1) (spell_pairs w.0)) (upto-after s r.step.stand w.3))

    pairs-fails : (n : ℕ) (st : St) → Fails (PairsUp names s bytes some n st) (pairs_at max_depth names s n st)
    unfolding pairs_at
    pairs-fails n st = fails-many [] ◌∷◌ (pair_in max_depth names s) (PairRead names s bytes) (PairUp names s bytes some) (PairsUp names s bytes some) (sound-pair names s bytes) pair-fails pairs_first pairs-later n st

    module _ (st : St) where
      becomes-by-fails : (n : ℕ) (e : Place) (k : ℕ) → Stand s st.at.0 (k ∷ n ∷ []) e.0 → Fails (FormulaUp names s bytes st) (becomes_by max_depth names s n e st k)
      unfolding becomes_by Fails FormulaUp PairsUp TargetUp TargetsUp DeclsUp ExprUp PredUp ShapeFormula spell_formula
      becomes-by-fails zero e k x = formula-start st
      becomes-by-fails (suc n) e k x =
          choose S k 0x30 _ _
          (λ h. fails-last (λ u a. Unit {0}) (PairsUp names s bytes some (suc n) (moved e st)) (FormulaUp names s bytes st) (pairs_at max_depth names s (suc n) (moved e st)) (becomes st.at.0) (holds-any (pairs_at max_depth names s (suc n) (moved e st))) (pairs-fails (suc n) (moved e st))
          (λ q u. (becomes 0 u.0, (least u.1, u.2), rw u.1 (upto-after s (head 0x30 h) u.3))))
          (choose S k 0x31 _ _
          (λ h. fails-then (λ u a. TargetRead names s bytes (moved e st) a u) (TargetUp names s bytes some (moved e st)) (FormulaUp names s bytes st) (target_in names s (moved e st)) _ (sound-target names s bytes (moved e st)) (target-fails (moved e st))
          (λ q u. let z = zeroths-good n in (becomes_in 0 u.0 (zeroths n) (literal 0), (u.1, z.1, literal-shape), rw z.0 (upto-after s (head 0x31 h) (upto-first s u.2 (spell_targets (zeroths n) ++ spell (literal 0))))))
          (λ a v r. fails-then (λ u b. TargetsRead names s bytes n v b u) (TargetsUp names s bytes some n v) (FormulaUp names s bytes st) (targets_at names s n v) _ (sound-targets names s bytes n v) (targets-fails n v)
          (λ q u. (becomes_in 0 a u.0 (literal 0), (r.fits, u.2, literal-shape), rw u.1 (upto-after s (head 0x31 h) (upto-after s r.step.stand (upto-first s u.3 (spell (literal 0)))))))
          (λ b w g. fails-last (λ u f. ExprRead names s bytes 1 false w f u) (ExprUp names s bytes false w) (FormulaUp names s bytes st) (expr_at max_depth names s false w) (becomes_in st.at.0 a b) (sound-expr names s bytes max_depth 1 refl false w) (expr-fails max_depth 1 refl false w)
          (λ q u. (becomes_in 0 a b u.0, (r.fits, fits-targets names b g.fits, u.2), rw g.count (upto-after s (head 0x31 h) (upto-after s r.step.stand (upto-after s g.step.stand u.3))))))))
          (choose S k 0x32 _ _
          (λ h. fails-then (λ u a. TargetsRead names s bytes (suc n) (moved e st) a u) (TargetsUp names s bytes some (suc n) (moved e st)) (FormulaUp names s bytes st) (targets_at names s (suc n) (moved e st)) _ (sound-targets names s bytes (suc n) (moved e st)) (targets-fails (suc n) (moved e st))
          (λ q u. let z = plains-good (suc n) in (becomes_such 0 u.0 (plains (suc n)) (constant 0), (least u.1, u.1 ∙ sym z.0, u.2, z.1, constant-shape), rw u.1 (upto-after s (head 0x32 h) (upto-first s u.3 (spell_decls (plains (suc n)) ++ spell_pred (constant 0))))))
          (λ a v r. fails-then (λ u b. DeclsRead names s bytes 1 (suc n) v b u) (DeclsUp names s bytes (suc n) v) (FormulaUp names s bytes st) (decls_at names s max_depth (suc n) v) _ (sound-decls names s bytes 1 max_depth refl (suc n) v) (decls-fails max_depth 1 refl (suc n) v)
          (λ q u. (becomes_such 0 a u.0 (constant 0), (least r.count, r.count ∙ sym u.1, fits-targets names a r.fits, u.2, constant-shape), rw r.count (upto-after s (head 0x32 h) (upto-after s r.step.stand (upto-first s u.3 (spell_pred (constant 0)))))))
          (λ b w g. fails-last (λ u f. PredRead names s bytes 1 w f u) (PredUp names s bytes w) (FormulaUp names s bytes st) (pred_at max_depth names s w) (becomes_such st.at.0 a b) (sound_pred names s bytes max_depth 1 refl w) (pred_fails max_depth 1 refl w)
          (λ q u. (becomes_such 0 a b u.0, (least r.count, r.count ∙ sym g.count, fits-targets names a r.fits, fits-decls names 1 b g.fits, u.1), rw r.count (upto-after s (head 0x32 h) (upto-after s r.step.stand (upto-after s g.step.stand u.2)))))))) (formula-start st)))
        where
          S : Got Formula → Type 0
          S = Fails (FormulaUp names s bytes st)

          head : (v : ℕ) → k ≡ v → Stand s st.at.0 (v ∷ suc n ∷ []) (moved e st).at.0
          head v h = (step-moved s st (v ∷ suc n ∷ []) e (rw h at x)).stand

          least : {m : ℕ} → m ≡ suc n → 1 ≤ m
          least h = omega arith

      becomes-at-fails : (k : ℕ) (q : Place) → Stand s st.at.0 (k ∷ []) q.0 → Fails (FormulaUp names s bytes st) (becomes_at names s st k q)
      unfolding becomes_at Fails
      becomes-at-fails k q x = on-few s bytes (Fails (FormulaUp names s bytes st)) (bad (Malformed st.at)) q _ (formula-start st) (λ n e l y. becomes-by-fails n e k (stand_join s st.at.0 q.0 e.0 (k ∷ []) (n ∷ []) x y))

  stand-first : (k p e : ℕ) → Stand s p (k ∷ []) e → get_or s p 0 ≡ k
  stand-first k p e x =
      let z : p ≡ p + 0 = omega arith in
      ap (λ (i : ℕ). get_or s i 0) z ∙ sym (get_or-drop p s 0 0) ∙ ap (λ (l : List ℕ). get_or l 0 0) x.bytes

  module _ (st : St) where
    root-by-fails : (k : ℕ) (q : Place) → Stand s st.at.0 (k ∷ []) q.0 → (0x30 ≤ k → 0 < names) → Fails (FormulaUp names s bytes st) (root_by names s st k q)
    unfolding root_by FormulaUp ExprUp PredUp ShapeFormula spell_formula
    root-by-fails k q x some = go (ltb k 0x20) (ltb k 0x30) refl
      where
        as_expr : Fails (FormulaUp names s bytes st) (and_then (expr_at levels names s false st) λ a st₁. ok st₁ (expression a))
        as_expr = fails-last (λ u a. ExprRead names s bytes 0 false st a u) (ExprUp names s bytes false st) (FormulaUp names s bytes st) (expr_at levels names s false st) expression (sound-expr names s bytes levels 0 refl false st) (expr-fails levels 0 refl false st) (λ q u. (expression u.0, u.2, u.3))

        as_pred : Fails (FormulaUp names s bytes st) (and_then (pred_at levels names s st) λ q st₁. ok st₁ (predicate q))
        as_pred = fails-last (λ u a. PredRead names s bytes 0 st a u) (PredUp names s bytes st) (FormulaUp names s bytes st) (pred_at levels names s st) predicate (sound_pred names s bytes levels 0 refl st) (pred_fails levels 0 refl st) (λ q u. (predicate u.0, u.1, u.2))

        go : (b c : Bool) → ltb k 0x30 ≡ c → Fails (FormulaUp names s bytes st) (pick b (and_then (expr_at levels names s false st) λ a st₁. ok st₁ (expression a)) (pick c (and_then (pred_at levels names s st) λ q st₁. ok st₁ (predicate q)) (becomes_at names s st k q)))
        go true true e = as_expr
        go true false e = as_expr
        go false true e = as_pred
        go false false e = becomes-at-fails (some (ltb-false k 0x30 e)) st k q x

    pub formula-fails : (0x30 ≤ get_or s st.at.0 0 → 0 < names) → Fails (FormulaUp names s bytes st) (formula_at names s st)
    unfolding formula_at Fails
    formula-fails some = on_byte_lem s bytes (Fails (FormulaUp names s bytes st)) (bad (Malformed st.at)) st.at (root_by names s st) (formula-start st) (λ k q l x. root-by-fails k q x (λ h. some (rw (stand-first k st.at.0 q.0 x) h)))
