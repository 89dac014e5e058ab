-- The theorems of specs/Arenas.antt, whose head says what they give: `bool`.
use Rattle.std.specs.Prelude.{ℕ, ◌≡◌, refl, [], ◌∷◌, ◌++◌}
use Rattle.meter.specs.Meter.{spent, halt, done, broken}
use Rattle.unification.specs.Arena.{Words, merge_at, left_bound, unified, mismatch, circular, unify}
use Rattle.unification.specs.Arenas.{member, member_bound, power_of, unknown, int, bound, bound_of}

-- an unknown of rank r, and one that is bound
abbrev ranked : ℕ → Words
ranked r = 0x4E ∷ 0 ∷ r ∷ []

abbrev bool : Words
bool = 0x40 ∷ 0 ∷ 0 ∷ []

abbrev given : ℕ → Words
given x = 0x42 ∷ x ∷ 0 ∷ []

abbrev product : ℕ → ℕ → Words
product x y = 0x44 ∷ x ∷ y ∷ []

case_1 : unify 4 (member, 2, 3) 3 ≡ done (unified, member_bound) 0
unfolding unify
case_1 = refl

case_1_short : unify 4 (member, 2, 3) 2 ≡ spent member
unfolding unify
case_1_short = refl

-- the auditor's case 5, x ∈ x: the unknown against its own power; the pair, the power reached, the unknown reached
case_5 : unify 2 (unknown ++ power_of 0, 0, 1) 1000 ≡ done (circular, unknown ++ power_of 0) 997
unfolding unify
case_5 = refl

-- a product whose right half clashes: what the left half bound stands. 0 unknown, 1 BOOL, 2 ℤ, 3 = 0 × 1, 4 = 2 × 2
right-clashes : unify 5 (unknown ++ (bool ++ (int ++ (product 0 1 ++ product 2 2))), 3, 4) 10 ≡ done (mismatch, bound 2 ++ (bool ++ (int ++ (product 0 1 ++ product 2 2)))) 6
unfolding unify
right-clashes = refl

-- the same where the budget ends in the right half: what the left half bound stands too
bound-then-spent : unify 5 (unknown ++ (bool ++ (int ++ (product 0 1 ++ product 2 2))), 3, 4) 3 ≡ spent (bound 2 ++ (bool ++ (int ++ (product 0 1 ++ product 2 2))))
unfolding unify
bound-then-spent = refl

-- two unknowns of one rank: the left one is bound, and the right one's rank rises
left-first : unify 2 (unknown ++ unknown, 0, 1) 10 ≡ done (unified, bound 1 ++ ranked 1) 8
unfolding unify
left-first = refl

-- a left one of a greater rank: the right one is bound to it, for the same units; of a smaller rank: the left one, and no rank changes
greater_left : unify 2 (ranked 1 ++ unknown, 0, 1) 10 ≡ done (unified, ranked 1 ++ bound 0) 8
unfolding unify
greater_left = refl

smaller-left : unify 2 (unknown ++ ranked 1, 0, 1) 10 ≡ done (unified, bound 1 ++ ranked 1) 8
unfolding unify
smaller-left = refl

-- the chain x0 = x1, x1 = x2, x2 = x3: no reference is ever more than one binding from its end
chain_2 : unify 4 (bound 1 ++ (ranked 1 ++ (unknown ++ unknown)), 1, 2) 10 ≡ done (unified, bound 1 ++ (ranked 1 ++ (bound 1 ++ unknown))) 8
unfolding unify
chain_2 = refl

chain_3 : unify 4 (bound 1 ++ (ranked 1 ++ (bound 1 ++ unknown)), 2, 3) 10 ≡ done (unified, bound 1 ++ (ranked 1 ++ (bound 1 ++ bound 1))) 7
unfolding unify
chain_3 = refl

-- the second of these equalities in the two directions: x2 is bound here, x1 in the Rust
here_x2 : merge_at (bound 1 ++ (ranked 1 ++ unknown)) 3 1 2 ≡ bound 1 ++ (ranked 1 ++ bound 1)
unfolding merge_at
here_x2 = refl

there_x1 : left_bound (bound 1 ++ (ranked 1 ++ unknown)) 3 1 2 ≡ bound 1 ++ (bound_of 1 2 ++ unknown)
unfolding left_bound merge_at
there_x1 = refl

-- four unknowns equated two by two, then ℤ: three bindings from the first to its end, which is as many as five nodes allow
two-by-two : unify 5 (bound 1 ++ (ranked 1 ++ (bound 3 ++ (ranked 1 ++ int))), 1, 3) 10 ≡ done (unified, bound 1 ++ (bound_of 1 3 ++ (bound 3 ++ (ranked 2 ++ int)))) 8
unfolding unify
two-by-two = refl

then-int : unify 5 (bound 1 ++ (bound_of 1 3 ++ (bound 3 ++ (ranked 2 ++ int))), 3, 4) 10 ≡ done (unified, bound 1 ++ (bound_of 1 3 ++ (bound 3 ++ (bound_of 2 4 ++ int)))) 8
unfolding unify
then-int = refl

-- the rank before the last one rises; at the last nothing does
rank_31 : unify 2 (ranked 31 ++ ranked 31, 0, 1) 10 ≡ done (unified, bound_of 31 1 ++ ranked 32) 8
unfolding unify
rank_31 = refl

last-rank : unify 2 (ranked 32 ++ ranked 32, 0, 1) 10 ≡ done (unified, bound_of 32 1 ++ ranked 32) 8
unfolding unify
last-rank = refl

-- a left node against an unknown: the right one is bound
right_bound : unify 2 (int ++ unknown, 0, 1) 10 ≡ done (unified, int ++ bound 0) 8
unfolding unify
right_bound = refl

-- names: equal ones agree, others do not
names-agree : unify 2 (given 7 ++ given 7, 0, 1) 1 ≡ done (unified, given 7 ++ given 7) 0
unfolding unify
names-agree = refl

names-differ : unify 2 (given 7 ++ given 8, 0, 1) 1 ≡ done (mismatch, given 7 ++ given 8) 0
unfolding unify
names-differ = refl

-- equal references: the pair is paid, and each binding followed, on both sides
same_end : unify 3 (int ++ (bound 0 ++ bound 1), 2, 1) 10 ≡ done (unified, int ++ (bound 0 ++ bound 1)) 6
unfolding unify
same_end = refl

-- outside: a reference at the count, one whose words are cut, a kind that is none, a binding that leads out. What was bound before stands
at_the_count : unify 1 (int ++ int, 0, 1) 10 ≡ halt broken (int ++ int)
unfolding unify
at_the_count = refl

-- 0 unknown, 1 ℤ, 2 bound to nowhere, 3 = 0 × 2, 4 = 1 × 1
bound-then_broken : unify 5 (unknown ++ (int ++ (bound 9 ++ (product 0 2 ++ product 1 1))), 3, 4) 10 ≡ halt broken (bound 1 ++ (int ++ (bound 9 ++ (product 0 2 ++ product 1 1))))
unfolding unify
bound-then_broken = refl
