-- The typing rules of Event-B's mathematical language, record by record: the definition of a typing.
-- No unknowns, no order of work, no memory. Each record's rule speaks of its own type, of its parts' types and of the names it
-- mentions; a rule takes its parts' rules along. A number in front of a comment is the operator's, then come its sign and its
-- name in the Rust. After this file a reader knows which formulas have a typing, and which typings they have.
use Rattle.std.specs.Prelude.{ℕ, zero, suc, ◌+◌, ◌≡◌}
use mathlib.Core.List.{List, [], ◌∷◌}
use Rattle.types.specs.Ty.{bool, int, given, Ty, base, pow, prod}
use Rattle.formula.specs.Environment.{lacks, holds, Env}
use Rattle.formula.specs.Tree.{Spelling, spells, no_type, Decl, plain, typed, annotated, Expr, free, bound, literal, atomic, extension, truth, binary, associative, unary, quantified, ascribed, explicit, Exprs, none, more, Pred, constant, variable, relational, connective, junction, negation, quantification, simple, multiple, application, Preds, end, also, Target, Formula, expression, predicate, becomes, becomes_in, becomes_such, decls, targets, slots, slots_pred}
use Rattle.typing.specs.Equations.{BOOL, ℤ, ℙ, ◌⨯◌, ◌⟷◌, ◌≐◌, a, b, c, d, T, L, R, C, Rule, Obeys, parts, Every, forward, backward, Many, alike, chain, no_rule, Suits, look, never, never_typed}

-- ---- the operators' rules. T: the record's type, L and R: its left and right part's, C: its only part's; a, b, c, d: any types
-- 04
unfoldable pub atomic_rules : List (ℕ × Rule)
unfolding ◌⟷◌
atomic_rules =
    (2, T ≐ ℙ ℤ ∷ [])  -- 0 ℤ Integer, 1 ℕ Natural, 2 ℕ1 Natural1
    ∷ (3, T ≐ ℙ BOOL ∷ [])  -- 3 BOOL Bool
    ∷ (5, T ≐ BOOL ∷ [])  -- 4 TRUE True, 5 FALSE False
    ∷ (7, T ≐ ℤ ⟷ ℤ ∷ [])  -- 6 pred KPred, 7 succ KSucc
    ∷ (8, T ≐ ℙ a ∷ [])  -- 8 ∅ EmptySet
    ∷ (9, T ≐ a ⟷ a ∷ [])  -- 9 id KIdGen
    ∷ (10, T ≐ (a ⨯ b) ⟷ a ∷ [])  -- 10 prj1 KPrj1Gen
    ∷ (11, T ≐ (a ⨯ b) ⟷ b ∷ [])  -- 11 prj2 KPrj2Gen
    ∷ []

-- 07
unfoldable pub binary_rules : List (ℕ × Rule)
unfolding ◌⟷◌
binary_rules =
    (0, T ≐ L ⨯ R ∷ [])  -- 0 ↦ Mapsto
    ∷ (11, L ≐ ℙ a ∷ R ≐ ℙ b ∷ T ≐ ℙ (a ⟷ b) ∷ [])  -- 1 ↔ Rel, 2 total TRel, 3 surjective SRel, 4 both STRel, 5 ⇸ PFun, 6 → TFun, 7 ⤔ PInj, 8 ↣ TInj, 9 ⤀ PSur, 10 ↠ TSur, 11 ⤖ TBij
    ∷ (12, L ≐ ℙ a ∷ R ≐ ℙ a ∷ T ≐ ℙ a ∷ [])  -- 12 ∖ SetMinus
    ∷ (13, L ≐ ℙ a ∷ R ≐ ℙ b ∷ T ≐ a ⟷ b ∷ [])  -- 13 × CProd
    ∷ (14, L ≐ a ⟷ b ∷ R ≐ a ⟷ c ∷ T ≐ a ⟷ (b ⨯ c) ∷ [])  -- 14 ⊗ DProd
    ∷ (15, L ≐ a ⟷ b ∷ R ≐ c ⟷ d ∷ T ≐ (a ⨯ c) ⟷ (b ⨯ d) ∷ [])  -- 15 ∥ PProd
    ∷ (17, L ≐ ℙ a ∷ R ≐ a ⟷ b ∷ T ≐ a ⟷ b ∷ [])  -- 16 ◁ DomRes, 17 ⩤ DomSub
    ∷ (19, L ≐ a ⟷ b ∷ R ≐ ℙ b ∷ T ≐ a ⟷ b ∷ [])  -- 18 ▷ RanRes, 19 ⩥ RanSub
    ∷ (20, L ≐ ℤ ∷ R ≐ ℤ ∷ T ≐ ℙ ℤ ∷ [])  -- 20 ‥ UpTo
    ∷ (24, L ≐ ℤ ∷ R ≐ ℤ ∷ T ≐ ℤ ∷ [])  -- 21 − Minus, 22 ÷ Div, 23 mod Mod, 24 ^ Expn
    ∷ (25, L ≐ a ⟷ b ∷ R ≐ a ∷ T ≐ b ∷ [])  -- 25 f(x) FunImage
    ∷ (26, L ≐ a ⟷ b ∷ R ≐ ℙ a ∷ T ≐ ℙ b ∷ [])  -- 26 r[S] RelImage
    ∷ []

-- 08: the children's types, then the record's; p;q;r has its children forward, p∘q∘r backward
unfoldable pub associative_rules : List (ℕ × Many)
unfolding ◌⟷◌
associative_rules =
    (1, alike (ℙ a) (ℙ a))  -- 0 ∪ BUnion, 1 ∩ BInter
    ∷ (2, alike (a ⟷ b) (a ⟷ b))  -- 2 override Ovr
    ∷ (3, chain forward)  -- 3 ; FComp
    ∷ (4, chain backward)  -- 4 ∘ BComp
    ∷ (6, alike ℤ ℤ)  -- 5 + Plus, 6 ∗ Mul
    ∷ []

-- 09
unfoldable pub unary_rules : List (ℕ × Rule)
unfolding ◌⟷◌
unary_rules =
    (0, C ≐ ℙ a ∷ T ≐ ℤ ∷ [])  -- 0 card KCard
    ∷ (2, C ≐ ℙ a ∷ T ≐ ℙ (ℙ a) ∷ [])  -- 1 ℙ Pow, 2 ℙ1 Pow1
    ∷ (4, C ≐ ℙ (ℙ a) ∷ T ≐ ℙ a ∷ [])  -- 3 union KUnion, 4 inter KInter
    ∷ (5, C ≐ a ⟷ b ∷ T ≐ ℙ a ∷ [])  -- 5 dom KDom
    ∷ (6, C ≐ a ⟷ b ∷ T ≐ ℙ b ∷ [])  -- 6 ran KRan
    ∷ (8, C ≐ ℙ ℤ ∷ T ≐ ℤ ∷ [])  -- 7 min KMin, 8 max KMax
    ∷ (9, C ≐ a ⟷ b ∷ T ≐ b ⟷ a ∷ [])  -- 9 ∼ Converse
    ∷ (10, C ≐ ℤ ∷ T ≐ ℤ ∷ [])  -- 10 − UnMinus
    ∷ []

-- 0A: the part is the expression
unfoldable pub quantified_rules : List (ℕ × Rule)
quantified_rules =
    (1, C ≐ ℙ a ∷ T ≐ ℙ a ∷ [])  -- 0 ⋃ QUnion, 1 ⋂ QInter
    ∷ (2, T ≐ ℙ C ∷ [])  -- 2 { | } CSet
    ∷ []

-- 22: a predicate has no type of its own
unfoldable pub relational_rules : List (ℕ × Rule)
relational_rules =
    (1, L ≐ R ∷ [])  -- 0 = Equal, 1 ≠ NotEqual
    ∷ (5, L ≐ ℤ ∷ R ≐ ℤ ∷ [])  -- 2 < Lt, 3 ≤ Le, 4 > Gt, 5 ≥ Ge
    ∷ (7, R ≐ ℙ L ∷ [])  -- 6 ∈ In, 7 ∉ NotIn
    ∷ (11, L ≐ ℙ a ∷ R ≐ ℙ a ∷ L ≐ R ∷ [])  -- 8 ⊂ Subset, 9 ⊄ NotSubset, 10 ⊆ SubsetEq, 11 ⊈ NotSubsetEq
    ∷ []

-- 05: the members' type, then the record's
unfoldable pub extension_rule : Many
extension_rule = alike a (ℙ a)

-- 27: finite
unfoldable pub simple_rule : Rule
simple_rule = C ≐ ℙ a ∷ []

-- ---- the records. Γ: the environment; τ: the types of the slots, numbered in stream order; ρ: the types of the names
module _ (Γ : Env) (τ : ℕ → Ty) (ρ : ℕ → Ty) where
  -- every given name that is spelled and that the environment lacks has the type of a set of itself
  abbrev pub Noted : Ty → Type 0
  Noted (base bool) = Unit {0}
  Noted (base int) = Unit {0}
  Noted (base (given x)) = Γ x ≡ lacks → ρ x ≡ pow (base (given x))
  Noted (pow t) = Noted t
  Noted (prod t u) = Noted t × Noted u

  -- 10, 11, 12: k is the declaration's slot; an annotation by 4F asks nothing
  abbrev pub DeclRule : Decl → ℕ → Type 0
  DeclRule (plain p) k = Unit {0}
  DeclRule (typed p t) k = τ k ≡ t
  DeclRule (annotated p (spells t)) k = (τ k ≡ t) × Noted t
  DeclRule (annotated p no_type) k = Unit {0}

  abbrev pub DeclRules : List Decl → ℕ → Type 0
  DeclRules [] k = Unit {0}
  DeclRules (d ∷ ds) k = DeclRule d k × DeclRules ds (suc k)

  -- the types of the declarations, the last declared first, before those around them
  unfoldable pub under : List Decl → ℕ → List Ty → List Ty
  under [] k Δ = Δ
  under (d ∷ ds) k Δ = under ds (suc k) (τ k ∷ Δ)

  -- t is the type that the index i counts to; an index that counts past all declarations has none
  abbrev pub Counts : List Ty → ℕ → Ty → Type 0
  Counts [] i t = ⊥
  Counts (u ∷ us) zero t = t ≡ u
  Counts (u ∷ us) (suc i) t = Counts us i t

  -- an ascription to a type, k being the expression's slot; one to 4F has no typing
  abbrev pub Ascribes : Spelling → ℕ → Type 0
  Ascribes (spells t) k = (τ k ≡ t) × Noted t
  Ascribes no_type k = ⊥

  -- the types of a row of expressions, the first of which has the slot k
  unfoldable pub types : Exprs → ℕ → List Ty
  unfolding slots
  types none k = []
  types (more e es) k = τ k ∷ types es (k + slots e)

  -- Δ: the types of the declarations around, innermost first
  unfoldable mutual
    -- k: the first slot, which is the expression's own (0C owns none: it stands for its expression)
    pub Typed : Expr → List Ty → ℕ → Type 0
    Typed (free p n) Δ k = τ k ≡ ρ n
    Typed (bound p i) Δ k = Counts Δ i (τ k)
    Typed (literal p) Δ k = τ k ≡ base int
    Typed (atomic p o) Δ k = Obeys (look atomic_rules never_typed o) (parts (τ k) (τ k) (τ k))
    Typed (extension p es) Δ k = TypedAll es Δ (suc k) × Suits extension_rule (types es (suc k)) (τ k)
    Typed (truth p q) Δ k = TypedPred q Δ (suc k) × (τ k ≡ base bool)
    Typed (binary p o l r) Δ k = Typed l Δ (suc k) × Typed r Δ (suc k + slots l)
        × Obeys (look binary_rules never_typed o) (parts (τ k) (τ (suc k)) (τ (suc k + slots l)))
    Typed (associative p o es) Δ k = TypedAll es Δ (suc k) × Suits (look associative_rules no_rule o) (types es (suc k)) (τ k)
    Typed (unary p o e) Δ k = Typed e Δ (suc k) × Obeys (look unary_rules never_typed o) (parts (τ k) (τ (suc k)) (τ (suc k)))
    Typed (quantified p o ds q e) Δ k = DeclRules ds (suc k) × TypedPred q (under ds (suc k) Δ) (suc k + decls ds)
        × Typed e (under ds (suc k) Δ) (suc k + decls ds + slots_pred q)
        × Obeys (look quantified_rules never_typed o) (parts (τ k) (τ (suc k + decls ds + slots_pred q)) (τ k))
    Typed (ascribed p e q s) Δ k = Typed e Δ (suc k) × (τ k ≡ τ (suc k)) × Ascribes s (suc k)
    Typed (explicit p t e) Δ k = Typed e Δ k × (τ k ≡ t)

    -- a row of expressions; k: the first's slot
    pub TypedAll : Exprs → List Ty → ℕ → Type 0
    TypedAll none Δ k = Unit {0}
    TypedAll (more e es) Δ k = Typed e Δ k × TypedAll es Δ (k + slots e)

    -- k: the first slot inside; an application has no typing
    pub TypedPred : Pred → List Ty → ℕ → Type 0
    TypedPred (constant p) Δ k = Unit {0}
    TypedPred (variable p) Δ k = Unit {0}
    TypedPred (relational p o l r) Δ k = Typed l Δ k × Typed r Δ (k + slots l)
        × Obeys (look relational_rules never o) (parts (τ k) (τ k) (τ (k + slots l)))
    TypedPred (connective p l r) Δ k = TypedPred l Δ k × TypedPred r Δ (k + slots_pred l)
    TypedPred (junction p qs) Δ k = TypedPreds qs Δ k
    TypedPred (negation p q) Δ k = TypedPred q Δ k
    TypedPred (quantification p ds q) Δ k = DeclRules ds k × TypedPred q (under ds k Δ) (k + decls ds)
    TypedPred (simple p e) Δ k = Typed e Δ k × Obeys simple_rule (parts (τ k) (τ k) (τ k))
    TypedPred (multiple p es) Δ k = TypedAll es Δ k × ((t : Ty) × Every (pow t) (types es k))
    TypedPred (application p es) Δ k = ⊥

    pub TypedPreds : Preds → List Ty → ℕ → Type 0
    TypedPreds end Δ k = Unit {0}
    TypedPreds (also q qs) Δ k = TypedPred q Δ k × TypedPreds qs Δ (k + slots_pred q)

  -- ---- assignments
  abbrev pub TypedTargets : List Target → ℕ → Type 0
  TypedTargets [] k = Unit {0}
  TypedTargets (t ∷ ts) k = (τ k ≡ ρ t.name) × TypedTargets ts (suc k)

  -- 30: each value has its target's type
  abbrev pub TypedPairs : List (Target × Expr) → ℕ → Type 0
  TypedPairs [] k = Unit {0}
  TypedPairs (t ∷ ts) k = (τ k ≡ ρ t.0.name) × Typed t.1 [] (suc k) × (τ (suc k) ≡ τ k) × TypedPairs ts (suc k + slots t.1)

  -- 31: the product of s and the targets' types, leaning left
  unfoldable pub product : Ty → List Target → ℕ → Ty
  product s [] k = s
  product s (t ∷ ts) k = product (prod s (τ k)) ts (suc k)

  -- 32: the declarations from slot k on have the types of the targets from slot j on, one by one
  abbrev pub Shared : List Target → List Decl → ℕ → ℕ → Type 0
  Shared [] ds j k = Unit {0}
  Shared (t ∷ ts) [] j k = Unit {0}
  Shared (t ∷ ts) (d ∷ ds) j k = (τ k ≡ τ j) × Shared ts ds (suc j) (suc k)

  abbrev pub TypedFormula : Formula → Type 0
  TypedFormula (expression e) = Typed e [] 0
  TypedFormula (predicate q) = TypedPred q [] 0
  TypedFormula (becomes p ts) = TypedPairs ts 0
  TypedFormula (becomes_in p t ts e) = (τ 0 ≡ ρ t.name) × TypedTargets ts 1 × Typed e [] (1 + targets ts) × (τ (1 + targets ts) ≡ pow (product (τ 0) ts 1))
  TypedFormula (becomes_such p ts ds q) = TypedTargets ts 0 × DeclRules ds (targets ts) × Shared ts ds 0 (targets ts) × TypedPred q (under ds (targets ts) []) (targets ts + decls ds)

-- ---- a typing
-- a name that the environment holds has the environment's type
abbrev pub Agrees : Env → (ℕ → Ty) → Type 0
Agrees Γ ρ = (x : ℕ) (t : Ty) → Γ x ≡ holds t → ρ x ≡ t

-- slot types τ and name types ρ are a typing of f under Γ
pub record Typing (Γ : Env) (f : Formula) (τ ρ : ℕ → Ty) : Type 0 where
  pub agrees : Agrees Γ ρ
  pub rules : TypedFormula Γ τ ρ f
