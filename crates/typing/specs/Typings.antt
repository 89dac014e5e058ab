-- What there is to say of a formula's typings: which slots and names a typing types, when two typings are one, and whether there
-- are none, one or several. After this file a reader knows what "one and only one typing" means, in which order its types are
-- told, and which records keep a formula from having any.
use Rattle.std.specs.Prelude.{ℕ, zero, suc, ◌+◌, ◌<◌, ◌≡◌, Bool, true, false, List, [], ◌∷◌, ◌++◌, eqb, ltb}
use Rattle.types.specs.Ty.{bool, int, given, Ty, base, pow, prod}
use Rattle.formula.specs.Environment.{Entry, lacks, holds, Env}
use Rattle.formula.specs.Tree.{Spelling, spells, no_type, Decl, plain, typed, annotated, Expr, free, bound, literal, atomic, extension, truth, binary, associative, unary, quantified, ascribed, explicit, Exprs, none, more, Pred, constant, variable, relational, connective, junction, negation, quantification, simple, multiple, application, Preds, end, also, Target, Formula, expression, predicate, becomes, becomes_in, becomes_such, decls, slots_of}
use Rattle.typing.specs.Equations.{first_of}
use Rattle.typing.specs.Rules.{Typing}

-- ---- the places of the slots, in stream order
unfoldable pub decl_places : List Decl → List ℕ
decl_places [] = []
decl_places (plain p ∷ ds) = p ∷ decl_places ds
decl_places (typed p t ∷ ds) = p ∷ decl_places ds
decl_places (annotated p s ∷ ds) = p ∷ decl_places ds

unfoldable mutual
  pub places : Expr → List ℕ
  places (free p x) = p ∷ []
  places (bound p i) = p ∷ []
  places (literal p) = p ∷ []
  places (atomic p o) = p ∷ []
  places (extension p es) = p ∷ places-all es
  places (truth p q) = p ∷ places_pred q
  places (binary p o e f) = p ∷ places e ++ places f
  places (associative p o es) = p ∷ places-all es
  places (unary p o e) = p ∷ places e
  places (quantified p o ds q e) = p ∷ decl_places ds ++ (places_pred q ++ places e)
  places (ascribed p e q s) = p ∷ places e
  places (explicit p t e) = places e

  pub places-all : Exprs → List ℕ
  places-all none = []
  places-all (more e es) = places e ++ places-all es

  pub places_pred : Pred → List ℕ
  places_pred (constant p) = []
  places_pred (variable p) = []
  places_pred (relational p o e f) = places e ++ places f
  places_pred (connective p q s) = places_pred q ++ places_pred s
  places_pred (junction p qs) = places-preds qs
  places_pred (negation p q) = places_pred q
  places_pred (quantification p ds q) = decl_places ds ++ places_pred q
  places_pred (simple p e) = places e
  places_pred (multiple p es) = places-all es
  places_pred (application p es) = places-all es

  pub places-preds : Preds → List ℕ
  places-preds end = []
  places-preds (also q qs) = places_pred q ++ places-preds qs

unfoldable pub target_places : List Target → List ℕ
target_places [] = []
target_places (t ∷ ts) = t.place ∷ target_places ts

unfoldable pub pair_places : List (Target × Expr) → List ℕ
pair_places [] = []
pair_places (t ∷ ts) = t.0.place ∷ places t.1 ++ pair_places ts

unfoldable pub places_of : Formula → List ℕ
places_of (expression e) = places e
places_of (predicate q) = places_pred q
places_of (becomes p ts) = pair_places ts
places_of (becomes_in p t ts e) = t.place ∷ target_places ts ++ places e
places_of (becomes_such p ts ds q) = target_places ts ++ (decl_places ds ++ places_pred q)

-- ---- names that the environment lacks: every meeting, as name and place, in the order of the walk.
-- A 01 record meets its name; an annotation or ascription notes each given name it spells, the first at its declaration, the
-- second where its type starts. 0C and 11 note nothing.
module _ (Γ : Env) where
  unfoldable pub meeting : Entry → ℕ → ℕ → List (ℕ × ℕ)
  meeting lacks x p = (x, p) ∷ []
  meeting (holds t) x p = []

  unfoldable pub notings : Ty → ℕ → List (ℕ × ℕ)
  notings (base bool) p = []
  notings (base int) p = []
  notings (base (given x)) p = meeting (Γ x) x p
  notings (pow t) p = notings t p
  notings (prod t u) p = notings t p ++ notings u p

  unfoldable pub spelling_meetings : Spelling → ℕ → List (ℕ × ℕ)
  spelling_meetings (spells t) p = notings t p
  spelling_meetings no_type p = []

  unfoldable pub decl_meetings : Decl → List (ℕ × ℕ)
  decl_meetings (plain p) = []
  decl_meetings (typed p t) = []
  decl_meetings (annotated p s) = spelling_meetings s p

  unfoldable pub decls_meetings : List Decl → List (ℕ × ℕ)
  decls_meetings [] = []
  decls_meetings (d ∷ ds) = decl_meetings d ++ decls_meetings ds

  unfoldable mutual
    pub meetings : Expr → List (ℕ × ℕ)
    meetings (free p x) = meeting (Γ x) x p
    meetings (bound p i) = []
    meetings (literal p) = []
    meetings (atomic p o) = []
    meetings (extension p es) = meetings_all es
    meetings (truth p q) = meetings_pred q
    meetings (binary p o e f) = meetings e ++ meetings f
    meetings (associative p o es) = meetings_all es
    meetings (unary p o e) = meetings e
    meetings (quantified p o ds q e) = decls_meetings ds ++ (meetings_pred q ++ meetings e)
    meetings (ascribed p e q s) = meetings e ++ spelling_meetings s q
    meetings (explicit p t e) = meetings e

    pub meetings_all : Exprs → List (ℕ × ℕ)
    meetings_all none = []
    meetings_all (more e es) = meetings e ++ meetings_all es

    pub meetings_pred : Pred → List (ℕ × ℕ)
    meetings_pred (constant p) = []
    meetings_pred (variable p) = []
    meetings_pred (relational p o e f) = meetings e ++ meetings f
    meetings_pred (connective p q s) = meetings_pred q ++ meetings_pred s
    meetings_pred (junction p qs) = meetings_preds qs
    meetings_pred (negation p q) = meetings_pred q
    meetings_pred (quantification p ds q) = decls_meetings ds ++ meetings_pred q
    meetings_pred (simple p e) = meetings e
    meetings_pred (multiple p es) = meetings_all es
    meetings_pred (application p es) = meetings_all es

    pub meetings_preds : Preds → List (ℕ × ℕ)
    meetings_preds end = []
    meetings_preds (also q qs) = meetings_pred q ++ meetings_preds qs

  unfoldable pub target_meetings : List Target → List (ℕ × ℕ)
  target_meetings [] = []
  target_meetings (t ∷ ts) = meeting (Γ t.name) t.name t.place ++ target_meetings ts

  unfoldable pub pair_meetings : List (Target × Expr) → List (ℕ × ℕ)
  pair_meetings [] = []
  pair_meetings (t ∷ ts) = meeting (Γ t.0.name) t.0.name t.0.place ++ (meetings t.1 ++ pair_meetings ts)

  unfoldable pub meetings_of : Formula → List (ℕ × ℕ)
  meetings_of (expression e) = meetings e
  meetings_of (predicate q) = meetings_pred q
  meetings_of (becomes p ts) = pair_meetings ts
  meetings_of (becomes_in p t ts e) = meeting (Γ t.name) t.name t.place ++ (target_meetings ts ++ meetings e)
  meetings_of (becomes_such p ts ds q) = target_meetings ts ++ (decls_meetings ds ++ meetings_pred q)

unfoldable pub has : ℕ → List (ℕ × ℕ) → Bool
unfolding first_of
has x [] = false
has x (m ∷ ms) = first_of (eqb x m.0) true (has x ms)

-- a name joins the row at its first meeting, and keeps that place
unfoldable pub meet : List (ℕ × ℕ) → ℕ × ℕ → List (ℕ × ℕ)
unfolding first_of
meet ms m = first_of (has m.0 ms) ms (ms ++ (m ∷ []))

unfoldable pub meet_all : List (ℕ × ℕ) → List (ℕ × ℕ) → List (ℕ × ℕ)
meet_all ms [] = ms
meet_all ms (n ∷ ns) = meet_all (meet ms n) ns

-- the names met or noted that the environment lacks, in order of first meeting, each with its first place
unfoldable pub lacking : Env → Formula → List (ℕ × ℕ)
lacking Γ f = meet_all [] (meetings_of Γ f)

-- ---- none, one or several typings
abbrev pub Some : Env → Formula → Type 0
Some Γ f = (τ : ℕ → Ty) × (ρ : ℕ → Ty) × Typing Γ f τ ρ

-- two typings are one if they agree on the slots and on the names that the environment lacks
abbrev pub Same : Env → Formula → (τ ρ τ' ρ' : ℕ → Ty) → Type 0
Same Γ f τ ρ τ' ρ' = ((i : ℕ) → i < slots_of f → τ i ≡ τ' i) × ((x : ℕ) → has x (lacking Γ f) ≡ true → ρ x ≡ ρ' x)

abbrev pub AtMostOne : Env → Formula → Type 0
AtMostOne Γ f = (τ ρ τ' ρ' : ℕ → Ty) → Typing Γ f τ ρ → Typing Γ f τ' ρ' → Same Γ f τ ρ τ' ρ'

abbrev pub One : Env → Formula → Type 0
One Γ f = Some Γ f × AtMostOne Γ f

abbrev pub None : Env → Formula → Type 0
None Γ f = Some Γ f → ⊥

-- two typings that differ
pub record Several (Γ : Env) (f : Formula) : Type 0 where
  pub slots_one : ℕ → Ty
  pub names_one : ℕ → Ty
  pub slots_other : ℕ → Ty
  pub names_other : ℕ → Ty
  pub one : Typing Γ f slots_one names_one
  pub other : Typing Γ f slots_other names_other
  pub differ : Same Γ f slots_one names_one slots_other names_other → ⊥

-- ---- how a typing is told: name and type of each lacking name, then place and type of each slot
unfoldable pub named_entries : (ℕ → Ty) → List (ℕ × ℕ) → List (ℕ × Ty)
named_entries ρ [] = []
named_entries ρ (m ∷ ms) = (m.0, ρ m.0) ∷ named_entries ρ ms

unfoldable pub placed_entries : (ℕ → Ty) → ℕ → List ℕ → List (ℕ × Ty)
placed_entries τ k [] = []
placed_entries τ k (p ∷ ps) = (p, τ k) ∷ placed_entries τ (suc k) ps

unfoldable pub name_entries : Env → Formula → (ℕ → Ty) → List (ℕ × Ty)
name_entries Γ f ρ = named_entries ρ (lacking Γ f)

unfoldable pub slot_entries : Formula → (ℕ → Ty) → List (ℕ × Ty)
slot_entries f τ = placed_entries τ 0 (places_of f)

-- ---- records that keep a formula from having a typing, as problem and place in the order of the walk: an index with no
-- declaration (4), an application (5), an ascription to 4F (0, at the 4F). n: how many declarations are around
unfoldable pub index_excluded : ℕ → ℕ → ℕ → List (ℕ × ℕ)
unfolding first_of
index_excluded n i p = first_of (ltb i n) [] ((4, p) ∷ [])

unfoldable pub spelling_excluded : Spelling → ℕ → List (ℕ × ℕ)
spelling_excluded (spells t) q = []
spelling_excluded no_type q = (0, q) ∷ []

unfoldable mutual
  pub excluded : Expr → ℕ → List (ℕ × ℕ)
  excluded (free p x) n = []
  excluded (bound p i) n = index_excluded n i p
  excluded (literal p) n = []
  excluded (atomic p o) n = []
  excluded (extension p es) n = excluded_all es n
  excluded (truth p q) n = excluded_pred q n
  excluded (binary p o e f) n = excluded e n ++ excluded f n
  excluded (associative p o es) n = excluded_all es n
  excluded (unary p o e) n = excluded e n
  excluded (quantified p o ds q e) n = excluded_pred q (decls ds + n) ++ excluded e (decls ds + n)
  excluded (ascribed p e q s) n = excluded e n ++ spelling_excluded s q
  excluded (explicit p t e) n = excluded e n

  pub excluded_all : Exprs → ℕ → List (ℕ × ℕ)
  excluded_all none n = []
  excluded_all (more e es) n = excluded e n ++ excluded_all es n

  pub excluded_pred : Pred → ℕ → List (ℕ × ℕ)
  excluded_pred (constant p) n = []
  excluded_pred (variable p) n = []
  excluded_pred (relational p o e f) n = excluded e n ++ excluded f n
  excluded_pred (connective p q s) n = excluded_pred q n ++ excluded_pred s n
  excluded_pred (junction p qs) n = excluded_preds qs n
  excluded_pred (negation p q) n = excluded_pred q n
  excluded_pred (quantification p ds q) n = excluded_pred q (decls ds + n)
  excluded_pred (simple p e) n = excluded e n
  excluded_pred (multiple p es) n = excluded_all es n
  excluded_pred (application p es) n = excluded_all es n ++ ((5, p) ∷ [])

  pub excluded_preds : Preds → ℕ → List (ℕ × ℕ)
  excluded_preds end n = []
  excluded_preds (also q qs) n = excluded_pred q n ++ excluded_preds qs n

unfoldable pub pair_excluded : List (Target × Expr) → List (ℕ × ℕ)
pair_excluded [] = []
pair_excluded (t ∷ ts) = excluded t.1 0 ++ pair_excluded ts

unfoldable pub excluded_of : Formula → List (ℕ × ℕ)
excluded_of (expression e) = excluded e 0
excluded_of (predicate q) = excluded_pred q 0
excluded_of (becomes p ts) = pair_excluded ts
excluded_of (becomes_in p t ts e) = excluded e 0
excluded_of (becomes_such p ts ds q) = excluded_pred q (decls ds + 0)

-- a function with the values of a list, BOOL past its end
unfoldable pub from_list : List Ty → ℕ → Ty
from_list [] i = base bool
from_list (v ∷ vs) zero = v
from_list (v ∷ vs) (suc i) = from_list vs i
