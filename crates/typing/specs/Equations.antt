-- Equations between types, in which the rules of the operators are written, and tables of them by operator number.
-- After this file a reader knows what a line such as `L ≐ ℙ a ∷ R ≐ ℙ b ∷ T ≐ a ⟷ b ∷ []` says of three types:
-- there are types a and b with which all its equations hold.
use Rattle.std.specs.Prelude.{ℕ, zero, suc, ◌≡◌, Bool, true, false, List, [], ◌∷◌, leb}
use Rattle.std.proofs.Common.{arith}
use Rattle.types.specs.Ty.{bool, int, Ty, base, pow, prod}

-- ---- what stands on the sides of an equation
pub data Form : Type 0 where
  letter : ℕ → Form
  part : ℕ → Form
  BOOL : Form
  ℤ : Form
  ℙ : Form → Form
  ◌⨯◌ : Form → Form → Form

pub data Equation : Type 0 where
  ◌≐◌ : Form → Form → Equation

infixl 90 ◌⨯◌
infixl 85 ◌⟷◌
infixl 80 ◌≐◌
-- the type of relations between x and y
unfoldable pub ◌⟷◌ : Form → Form → Form
x ⟷ y = ℙ (x ⨯ y)

-- letters: some types, the same in all equations of one rule
abbrev pub a : Form
a = letter 0

abbrev pub b : Form
b = letter 1

abbrev pub c : Form
c = letter 2

abbrev pub d : Form
d = letter 3

-- the type of the record itself, of its left and right parts, of its only part
abbrev pub T : Form
T = part 0

abbrev pub L : Form
L = part 1

abbrev pub R : Form
R = part 2

abbrev pub C : Form
C = part 1

abbrev pub Rule : Type 0
Rule = List Equation

-- ---- what a rule says; ν gives the letters types, xs the parts
unfoldable pub read : (ℕ → Ty) → (ℕ → Ty) → Form → Ty
read ν xs (letter i) = ν i
read ν xs (part i) = xs i
read ν xs BOOL = base bool
read ν xs ℤ = base int
read ν xs (ℙ f) = pow (read ν xs f)
read ν xs (f ⨯ g) = prod (read ν xs f) (read ν xs g)

abbrev pub Hold : (ℕ → Ty) → (ℕ → Ty) → Rule → Type 0
Hold ν xs [] = Unit {0}
Hold ν xs ((f ≐ g) ∷ es) = (read ν xs f ≡ read ν xs g) × Hold ν xs es

-- for some types of the letters all equations hold
abbrev pub Obeys : Rule → (ℕ → Ty) → Type 0
Obeys r xs = (ν : ℕ → Ty) × Hold ν xs r

-- the types of a record, of its left and of its right part
unfoldable pub parts : Ty → Ty → Ty → ℕ → Ty
parts t l r zero = t
parts t l r (suc zero) = l
parts t l r (suc (suc i)) = r

-- ---- rules for any number of children
pub data Way : Type 0 where
  forward : Way
  backward : Way

pub data Many : Type 0 where
  alike : Form → Form → Many  -- every child has the first type, the record the second
  chain : Way → Many  -- relations, each child taking up where the one before it ends
  no_rule : Many

-- every type of a row is t
abbrev pub Every : Ty → List Ty → Type 0
Every t [] = Unit {0}
Every t (u ∷ us) = (u ≡ t) × Every t us

-- a relation from s to t, or back
unfoldable pub relates : Way → Ty → Ty → Ty
relates forward s t = pow (prod s t)
relates backward s t = pow (prod t s)

-- from s to t: the first child relates s and some x, the next x and some y, and so on to t
abbrev pub Chain : Way → Ty → List Ty → Ty → Type 0
Chain way s [] t = s ≡ t
Chain way s (u ∷ us) t = (x : Ty) × (u ≡ relates way s x) × Chain way x us t

-- children of the types us, a record of type t
abbrev pub Suits : Many → List Ty → Ty → Type 0
Suits (alike child own) us t = (ν : ℕ → Ty) × Every (read ν (parts t t t) child) us × (t ≡ read ν (parts t t t) own)
Suits (chain way) us t = (x : Ty) × (y : Ty) × Chain way x us y × (t ≡ relates way x y)
Suits no_rule us t = ⊥

-- ---- tables: a row is the last operator number that it serves, and what it says; `otherwise` stands for the numbers past all rows
unfoldable pub first_of : {A : Type 0} → Bool → A → A → A
first_of true x y = x
first_of false x y = y

unfoldable pub look : {A : Type 0} → List (ℕ × A) → A → ℕ → A
unfolding first_of
look [] otherwise o = otherwise
look (r ∷ rs) otherwise o = first_of (leb o r.0) r.1 (look rs otherwise o)

-- what the tables of rules have past their rows: equations that hold for no types
unfoldable pub never : Rule
never = BOOL ≐ ℤ ∷ []

unfoldable pub never_typed : Rule
never_typed = BOOL ≐ ℤ ∷ T ≐ BOOL ∷ []

different : base bool ≡ base int → ⊥
different e = let z : ◌≡◌ {A = ℕ} 0 1 = cc in omega arith

pub never_obeyed : (xs : ℕ → Ty) → Obeys never xs → ⊥
unfolding never read
never_obeyed xs h = different h.1.0

pub never-typed_obeyed : (xs : ℕ → Ty) → Obeys never_typed xs → ⊥
unfolding never_typed read
never-typed_obeyed xs h = different h.1.0
