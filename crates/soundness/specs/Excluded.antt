-- What a formula excludes is told as problem 4, 5 or 0, and as nothing else: 4 for an index with no declaration, 5 for an
-- application, 0 for an ascription to 4F.
use Rattle.std.specs.Prelude.{ℕ, ◌+◌, ◌≡◌, refl, ◌⊎◌, Bool, true, false, List, [], ◌∷◌, ◌++◌, ltb}
use Rattle.std.proofs.Common.{sym, subst, inl, inr}
use Rattle.formula.specs.Tree.{Spelling, spells, no_type, Expr, free, bound, literal, atomic, extension, truth, binary, associative, unary, quantified, ascribed, explicit, Exprs, none, more, Pred, constant, variable, relational, connective, junction, negation, quantification, simple, multiple, application, Preds, end, also, Target, Formula, expression, predicate, becomes, becomes_in, becomes_such, decls}
use Rattle.typing.specs.Equations.{first_of}
use Rattle.typing.specs.Typings.{index_excluded, spelling_excluded, excluded, excluded_all, excluded_pred, excluded_preds, pair_excluded, excluded_of}
use Rattle.unification.specs.Ops.{In}

abbrev Own : ℕ → Type 0
Own k = (k ≡ 0) ⊎ (k ≡ 4) ⊎ (k ≡ 5)

abbrev Owns : List (ℕ × ℕ) → Type 0
Owns [] = Unit {0}
Owns (z ∷ zs) = Own z.0 × Owns zs

owns_join : (xs ys : List (ℕ × ℕ)) → Owns xs → Owns ys → Owns (xs ++ ys)
owns_join [] ys h g = g
owns_join (x ∷ xs) ys h g = (h.0, owns_join xs ys h.1 g)

owns_index : (n i p : ℕ) → Owns (index_excluded n i p)
unfolding index_excluded first_of
owns_index n i p = go (ltb i n)
  where
    go : (c : Bool) → Owns (first_of c [] ((4, p) ∷ []))
    go true = tt
    go false = (inr (inl refl), tt)

owns_spelling : (s : Spelling) (q : ℕ) → Owns (spelling_excluded s q)
unfolding spelling_excluded
owns_spelling (spells t) q = tt
owns_spelling no_type q = (inl refl, tt)

mutual
  unfolding excluded

  owns : (e : Expr) (n : ℕ) → Owns (excluded e n)
  owns (free p x) n = tt
  owns (bound p i) n = owns_index n i p
  owns (literal p) n = tt
  owns (atomic p o) n = tt
  owns (extension p es) n = owns-all es n
  owns (truth p q) n = owns_pred q n
  owns (binary p o e f) n = owns_join (excluded e n) (excluded f n) (owns e n) (owns f n)
  owns (associative p o es) n = owns-all es n
  owns (unary p o e) n = owns e n
  owns (quantified p o ds q e) n = owns_join (excluded_pred q (decls ds + n)) (excluded e (decls ds + n)) (owns_pred q (decls ds + n)) (owns e (decls ds + n))
  owns (ascribed p e q s) n = owns_join (excluded e n) (spelling_excluded s q) (owns e n) (owns_spelling s q)
  owns (explicit p t e) n = owns e n

  owns-all : (es : Exprs) (n : ℕ) → Owns (excluded_all es n)
  owns-all none n = tt
  owns-all (more e es) n = owns_join (excluded e n) (excluded_all es n) (owns e n) (owns-all es n)

  owns_pred : (q : Pred) (n : ℕ) → Owns (excluded_pred q n)
  owns_pred (constant p) n = tt
  owns_pred (variable p) n = tt
  owns_pred (relational p o e f) n = owns_join (excluded e n) (excluded f n) (owns e n) (owns f n)
  owns_pred (connective p q s) n = owns_join (excluded_pred q n) (excluded_pred s n) (owns_pred q n) (owns_pred s n)
  owns_pred (junction p qs) n = owns-preds qs n
  owns_pred (negation p q) n = owns_pred q n
  owns_pred (quantification p ds q) n = owns_pred q (decls ds + n)
  owns_pred (simple p e) n = owns e n
  owns_pred (multiple p es) n = owns-all es n
  owns_pred (application p es) n = owns_join (excluded_all es n) ((5, p) ∷ []) (owns-all es n) (inr (inr refl), tt)

  owns-preds : (qs : Preds) (n : ℕ) → Owns (excluded_preds qs n)
  owns-preds end n = tt
  owns-preds (also q qs) n = owns_join (excluded_pred q n) (excluded_preds qs n) (owns_pred q n) (owns-preds qs n)

owns-pairs : (ts : List (Target × Expr)) → Owns (pair_excluded ts)
unfolding pair_excluded
owns-pairs [] = tt
owns-pairs (t ∷ ts) = owns_join (excluded t.1 0) (pair_excluded ts) (owns t.1 0) (owns-pairs ts)

owns-formula : (f : Formula) → Owns (excluded_of f)
unfolding excluded_of
owns-formula (expression e) = owns e 0
owns-formula (predicate q) = owns_pred q 0
owns-formula (becomes p ts) = owns-pairs ts
owns-formula (becomes_in p t ts e) = owns e 0
owns-formula (becomes_such p ts ds q) = owns_pred q (decls ds + 0)

in_owns : (z : ℕ × ℕ) (zs : List (ℕ × ℕ)) → Owns zs → In z zs → Own z.0
in_owns z [] h i = absurd i
in_owns z (y ∷ zs) h (inl e) = subst (λ (w : ℕ × ℕ). Own w.0) (sym e) h.0
in_owns z (y ∷ zs) h (inr i) = in_owns z zs h.1 i

pub excluded_kinds : (f : Formula) (z : ℕ × ℕ) → In z (excluded_of f) → (z.0 ≡ 0) ⊎ (z.0 ≡ 4) ⊎ (z.0 ≡ 5)
excluded_kinds f z i = in_owns z (excluded_of f) (owns-formula f) i
