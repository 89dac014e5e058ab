-- What an answer lists. After this file a reader knows what it means that an answer lists problems, that a problem is among them,
-- and that the bytes leave no choice: two lists with the same bytes have the same problem numbers.
use Rattle.std.specs.Prelude.{ℕ, ◌<◌, ◌≡◌, ◌⊎◌, List, [], ◌∷◌, ◌++◌}
use Rattle.std.proofs.Common.{sym, ap, subst, inl, inr, arith}
use Rattle.unification.specs.Ops.{In}
use Rattle.inference.specs.Answer.{Problem, nameless, two, four, spell_problem, spell_problems, Answer}
use Rattle.inference.specs.Finish.{walk_problems}

-- the answer is problems, and its bytes are theirs
pub record Lists (a : Answer) (ps : List Problem) : Type 0 where
  pub problems : a.number ≡ 1
  pub spelt : a.bytes ≡ spell_problems ps

-- of every problem of a list, of some
abbrev pub AllOf : (Problem → Type 0) → List Problem → Type 0
AllOf P [] = Unit {0}
AllOf P (p ∷ ps) = P p × AllOf P ps

abbrev pub SomeOf : (Problem → Type 0) → List Problem → Type 0
SomeOf P [] = ⊥
SomeOf P (p ∷ ps) = P p ⊎ SomeOf P ps

-- 0 or 1: types that do not match, a circularity
abbrev pub Clash : Problem → Type 0
Clash p = p.kind < 2

-- 2 or 3: an expression or a name whose type is open
abbrev pub Untyped : Problem → Type 0
Untyped p = (p.kind ≡ 2) ⊎ (p.kind ≡ 3)

-- 4 or 5: a dangling index, an application
abbrev pub Unfit : Problem → Type 0
Unfit p = (p.kind ≡ 4) ⊎ (p.kind ≡ 5)

-- a problem and a place, among others
abbrev pub Among : ℕ × ℕ → List (ℕ × ℕ) → Type 0
Among z [] = ⊥
Among z (y ∷ ys) = (z ≡ y) ⊎ Among z ys

pub among_in : (z : ℕ × ℕ) (zs : List (ℕ × ℕ)) → Among z zs → In z zs
among_in z [] h = h
among_in z (y ∷ zs) (inl e) = inl e
among_in z (y ∷ zs) (inr h) = inr (among_in z zs h)

-- as a problem that names no name
abbrev pub problem_of : ℕ × ℕ → Problem
problem_of z = record { kind = z.0; place = z.1; name = nameless }

pub all_map : (P Q : Problem → Type 0) → ((p : Problem) → P p → Q p) → (ps : List Problem) → AllOf P ps → AllOf Q ps
all_map P Q f [] h = tt
all_map P Q f (p ∷ ps) h = (f p h.0, all_map P Q f ps h.1)

pub some-map : (P Q : Problem → Type 0) → ((p : Problem) → P p → Q p) → (ps : List Problem) → SomeOf P ps → SomeOf Q ps
some-map P Q f [] h = absurd h
some-map P Q f (p ∷ ps) (inl h) = inl (f p h)
some-map P Q f (p ∷ ps) (inr h) = inr (some-map P Q f ps h)

-- what all have, none lacks
pub all-some : (P Q : Problem → Type 0) → ((p : Problem) → P p → Q p → ⊥) → (ps : List Problem) → AllOf P ps → SomeOf Q ps → ⊥
all-some P Q f [] h k = k
all-some P Q f (p ∷ ps) h (inl k) = f p h.0 k
all-some P Q f (p ∷ ps) h (inr k) = all-some P Q f ps h.1 k

-- a problem of the walk is among the listed ones
pub walk-listed : (z : ℕ × ℕ) (zs : List (ℕ × ℕ)) (ps : List Problem) → In z zs → SomeOf (λ p. p ≡ problem_of z) (walk_problems zs ++ ps)
unfolding walk_problems
walk-listed z [] ps h = absurd h
walk-listed z (y ∷ zs) ps (inl e) = inl (ap problem_of (sym e))
walk-listed z (y ∷ zs) ps (inr h) = inr (walk-listed z zs ps h)

-- ---- the bytes tell the numbers
spelt-nothing : (p : Problem) (ps : List Problem) → [] ≡ spell_problem p ++ spell_problems ps → ⊥
unfolding spell_problem four two
spelt-nothing p ps e = let z : ◌≡◌ {A = ℕ} 0 1 = cc in omega arith

spelt-kind : (p q : Problem) (xs ys : List ℕ) → spell_problem p ++ xs ≡ spell_problem q ++ ys → p.kind ≡ q.kind
unfolding spell_problem four two
spelt-kind p q xs ys e = cc

spelt-rest : (p q : Problem) (xs ys : List ℕ) → spell_problem p ++ xs ≡ spell_problem q ++ ys → xs ≡ ys
unfolding spell_problem four two
spelt-rest p q xs ys e = cc

-- what depends on the problem's number alone passes from a list to any other with these bytes
pub same-all : (P : ℕ → Type 0) (ps qs : List Problem) → spell_problems ps ≡ spell_problems qs → AllOf (λ p. P p.kind) ps → AllOf (λ p. P p.kind) qs
unfolding spell_problems
same-all P [] [] e h = tt
same-all P [] (q ∷ qs) e h = absurd (spelt-nothing q qs e)
same-all P (p ∷ ps) [] e h = tt
same-all P (p ∷ ps) (q ∷ qs) e h = (
  subst P (spelt-kind p q (spell_problems ps) (spell_problems qs) e) h.0,
  same-all P ps qs (spelt-rest p q (spell_problems ps) (spell_problems qs) e) h.1,
)

pub same_some : (P : ℕ → Type 0) (ps qs : List Problem) → spell_problems ps ≡ spell_problems qs → SomeOf (λ p. P p.kind) ps → SomeOf (λ p. P p.kind) qs
unfolding spell_problems
same_some P [] qs e h = absurd h
same_some P (p ∷ ps) [] e h = absurd (spelt-nothing p ps (sym e))
same_some P (p ∷ ps) (q ∷ qs) e (inl h) = inl (subst P (spelt-kind p q (spell_problems ps) (spell_problems qs) e) h)
same_some P (p ∷ ps) (q ∷ qs) e (inr h) = inr (same_some P ps qs (spelt-rest p q (spell_problems ps) (spell_problems qs) e) h)
