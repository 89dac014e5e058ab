-- What the place of a fault means. Everything before it can be completed: the bytes from the start up to it begin the spelling of a well-formed
-- formula, limits aside (`fault_completes`). So no byte before the place is at fault; with the record there, or where none stands, the stream is refused.
-- (An assignment's targets need a name: where none is known, no assignment can be completed. So a name is asked for where the first byte is 0x30 or above.)
-- Theorems that rest on what must-fail edits change stand in proofs/Faults.antt.
use Prim.Native.Nat.{ℕ, zero, suc, ◌<◌}
use native.Mathlib.Omega.{arith}
use Rattle.std.specs.Prelude.{◌≡◌, Bool, get_or}
use Rattle.std.proofs.Math.Path.{refl, sym, ap}
use Rattle.std.proofs.Common.{◌∙◌}
use Rattle.std.proofs.Math.Bool.{true}
use mathlib.Core.List.{List, [], ◌∷◌, ◌++◌, append_assoc}
use Rattle.types.specs.Ty as T
use Rattle.types.specs.Ty.{Ty}
use Rattle.types.specs.Faults as TF
use Rattle.types.specs.Faults.{Way, Leads}
use Rattle.formula.specs.declared.St.{St}
use Rattle.types.specs.declared.Fault.TheVariants.{Malformed, Beyond}
use Rattle.formula.specs.Tree.{Spelling, Decl, Expr, Exprs, Pred, Preds, Target, Formula, decls, exprs, preds, targets, pairs}
use Rattle.formula.specs.Spell.{spell_spelling, spell_decl, spell_decls, spell, spell_all, spell_pred, spell_preds, spell_target, spell_targets, spell_pairs, spell_formula}
use Rattle.formula.specs.Reader.{Got, ok, bad}
use Rattle.formula_laws.specs.Fits.{is_bare}
use Rattle.formula_laws.specs.Says.{Stand, stand_join}
use Rattle.formula_laws.specs.Shape.{ShapeSpelling, ShapeDecl, ShapeDecls, Shape, ShapeAll, ShapePred, ShapePreds, ShapeTargets, ShapePairs, ShapeFormula}

-- the bytes from p up to q begin the word w
pub record UpTo (s : List ℕ) (p q : ℕ) (w : List ℕ) : Type 0 where
  pub read : List ℕ
  pub rest : List ℕ
  pub stand : Stand s p read q
  pub word : w ≡ read ++ rest

module _ (s : List ℕ) where
  pub upto-here : (p : ℕ) (w : List ℕ) → UpTo s p p w
  upto-here p w = record { read = []; rest = w; stand = record { ends = omega arith; bytes = refl }; word = refl }

  pub upto-first : {p q : ℕ} {w : List ℕ} → UpTo s p q w → (y : List ℕ) → UpTo s p q (w ++ y)
  upto-first u y = record { read = u.read; rest = u.rest ++ y; stand = u.stand; word = ap (λ (x : List ℕ). x ++ y) u.word ∙ append_assoc u.read u.rest y }

  pub upto-after : {p t q : ℕ} {h w : List ℕ} → Stand s p h t → UpTo s t q w → UpTo s p q (h ++ w)
  upto-after {p} {t} {q} {h} x u = record { read = h ++ u.read; rest = u.rest; stand = stand_join s p t q h u.read x u.stand; word = ap (λ (y : List ℕ). h ++ y) u.word ∙ sym (append_assoc h u.read u.rest) }

-- what a fault's place is, where there is a fault
unfoldable pub Fails : {A : Type 0} → (ℕ → Type 0) → Got A → Type 0
Fails U (ok st a) = Unit {0}
Fails U (bad (Malformed p)) = U p.0
Fails U (bad (Beyond p)) = U p.0

-- ---- types and declarations
-- a type that goes the way: what is still open is ℤ
fill : Way → Ty
fill TF.here = T.base T.int
fill (TF.into w) = T.pow (fill w)
fill (TF.first w) = T.prod (fill w) (T.base T.int)
fill (TF.second t w) = T.prod t (fill w)

fill-below : (left names : ℕ) (w : Way) → TF.Clear left names w → T.Below names (fill w)
unfolding fill TF.Clear T.Below
fill-below left names TF.here c = T.int-below
fill-below zero names (TF.into w) c = absurd c
fill-below zero names (TF.first w) c = absurd c
fill-below zero names (TF.second t w) c = absurd c
fill-below (suc left) names (TF.into w) c = fill-below left names w c
fill-below (suc left) names (TF.first w) c = (fill-below left names w c, T.int-below)
fill-below (suc left) names (TF.second t w) c = (c.1, fill-below left names w c.2)

fill-word : (w : Way) → (y : List ℕ) × (T.spell (fill w) ≡ TF.before w ++ y)
unfolding fill TF.before T.spell T.spell_atom
fill-word TF.here = (0x41 ∷ [], refl)
fill-word (TF.into w) = let h = fill-word w in (h.0, ap (λ (x : List ℕ). 0x43 ∷ x) h.1)
fill-word (TF.first w) = let h = fill-word w in (h.0 ++ (0x41 ∷ []), ap (λ (x : List ℕ). 0x44 ∷ x) (ap (λ (x : List ℕ). x ++ (0x41 ∷ [])) h.1 ∙ append_assoc (TF.before w) h.0 (0x41 ∷ [])))
fill-word (TF.second t w) = let h = fill-word w in (h.0, ap (λ (x : List ℕ). 0x44 ∷ x) (ap (λ (x : List ℕ). T.spell t ++ x) h.1 ∙ sym (append_assoc (T.spell t) (TF.before w) h.0)))

module _ (names : ℕ) (s : List ℕ) (bytes : (i : ℕ) → get_or s i 0 < 256) where
  unfoldable pub TypeUp : St → ℕ → Type 0
  TypeUp st q = (t : Ty) × T.Below names t × UpTo s st.at.0 q (T.spell t)

  pub lead_up : (left : ℕ) (st : St) (q : ℕ) → Leads left names s st.at.0 q → TypeUp st q
  unfolding TypeUp
  lead_up left st q l =
      let h = fill-word l.way in
      (fill l.way, fill-below left names l.way l.clear, record { read = TF.before l.way; rest = h.0; stand = record { ends = l.place; bytes = l.bytes }; word = h.1 })

  -- a spelling, a declaration
  unfoldable pub SpellingUp : St → ℕ → Type 0
  SpellingUp st q = (x : Spelling) × ShapeSpelling names x × UpTo s st.at.0 q (spell_spelling x)

  unfoldable pub DeclUp : St → ℕ → Type 0
  DeclUp st q = (x : Decl) × ShapeDecl names x × UpTo s st.at.0 q (spell_decl x)

  unfoldable pub DeclsUp : ℕ → St → ℕ → Type 0
  DeclsUp n st q = (xs : List Decl) × (decls xs ≡ n) × ShapeDecls names xs × UpTo s st.at.0 q (spell_decls xs)

  -- ---- expressions and predicates
  unfoldable pub ExprUp : Bool → St → ℕ → Type 0
  ExprUp bare st q = (a : Expr) × (bare ≡ true → is_bare a ≡ true) × Shape names a × UpTo s st.at.0 q (spell a)

  unfoldable pub PredUp : St → ℕ → Type 0
  PredUp st q = (a : Pred) × ShapePred names a × UpTo s st.at.0 q (spell_pred a)

  unfoldable pub ExprsUp : ℕ → St → ℕ → Type 0
  ExprsUp n st q = (es : Exprs) × (exprs es ≡ n) × ShapeAll names es × UpTo s st.at.0 q (spell_all es)

  unfoldable pub PredsUp : ℕ → St → ℕ → Type 0
  PredsUp n st q = (qs : Preds) × (preds qs ≡ n) × ShapePreds names qs × UpTo s st.at.0 q (spell_preds qs)

  -- ---- formulas
  unfoldable pub FormulaUp : St → ℕ → Type 0
  FormulaUp st q = (a : Formula) × ShapeFormula names a × UpTo s st.at.0 q (spell_formula a)

  -- assignments, where a name is known
  module _ (some : 0 < names) where
    unfoldable pub TargetUp : St → ℕ → Type 0
    TargetUp st q = (a : Target) × (a.name < names) × UpTo s st.at.0 q (spell_target a)

    unfoldable pub TargetsUp : ℕ → St → ℕ → Type 0
    TargetsUp n st q = (ts : List Target) × (targets ts ≡ n) × ShapeTargets names ts × UpTo s st.at.0 q (spell_targets ts)

    unfoldable pub PairUp : St → ℕ → Type 0
    PairUp st q = (a : Target × Expr) × (a.0.name < names) × Shape names a.1 × UpTo s st.at.0 q (spell_target a.0 ++ spell a.1)

    unfoldable pub PairsUp : ℕ → St → ℕ → Type 0
    PairsUp n st q = (xs : List (Target × Expr)) × (pairs xs ≡ n) × ShapePairs names xs × UpTo s st.at.0 q (spell_pairs xs)
