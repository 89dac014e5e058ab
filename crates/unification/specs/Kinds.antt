-- Nodes by their kind: `kind_of` reads three words once for all, and the small laws below say what two kinds make of each other.
use Rattle.std.specs.Prelude.{ℕ, ◌+◌, ◌*◌, ◌≤◌, ◌<◌, ◌≡◌, ◌≢◌, ◌⊎◌, Bool, true, false, eqb, length, get_or}
use Rattle.std.proofs.Math.Path.{refl, sym}
use Rattle.std.proofs.Common.{◌∙◌, inl, inr, arith, eqb-true, lt-ltb}
use Rattle.std.proofs.lemmas.Bool.{eqb-false}
use Rattle.types.specs.Ty.{bool, int, given}
use Rattle.unification.specs.Arena.{Node, free, link, leaf, power, pair, bad, pick, decode, inside, node_at, Words, bindRight, agree, clash, same_atom, verdict_of, meet}
use Rattle.unification.specs.Good.{Root, node_in}

pub data Kind (k a b : ℕ) : Node → Type 0 where
  is_free : k ≡ 0x4E → Kind k a b free
  is-link : k ≡ 0x4D → Kind k a b (link a)
  is-bool : k ≡ 0x40 → Kind k a b (leaf bool)
  is-int : k ≡ 0x41 → Kind k a b (leaf int)
  is-given : k ≡ 0x42 → Kind k a b (leaf (given a))
  is-power : k ≡ 0x43 → Kind k a b (power a)
  is-pair : k ≡ 0x44 → Kind k a b (pair a b)
  is_none : k ≢ 0x4E → k ≢ 0x4D → k ≢ 0x40 → k ≢ 0x41 → k ≢ 0x42 → k ≢ 0x43 → k ≢ 0x44 → Kind k a b bad

five : (k : ℕ) → k ≢ 0x40 → k ≢ 0x41 → k ≢ 0x42 → k ≢ 0x43 → k ≢ 0x44 → 0x40 ≤ k → k ≤ 0x44 → ⊥
five k r s t u v l h = omega arith

two : (k : ℕ) → k ≢ 0x40 → k ≢ 0x41 → 0x40 ≤ k → k ≤ 0x41 → ⊥
two k r s l h = omega arith

module _ (k a b : ℕ) where
  at_pair : k ≢ 0x4E → k ≢ 0x4D → k ≢ 0x40 → k ≢ 0x41 → k ≢ 0x42 → k ≢ 0x43 → (c : Bool) → eqb k 0x44 ≡ c → Kind k a b (pick c (pair a b) bad)
  at_pair p q r s t u true e = is-pair (eqb-true k 0x44 e)
  at_pair p q r s t u false e = is_none p q r s t u (eqb-false k 0x44 e)

  at-power : k ≢ 0x4E → k ≢ 0x4D → k ≢ 0x40 → k ≢ 0x41 → k ≢ 0x42 → (c : Bool) → eqb k 0x43 ≡ c → Kind k a b (pick c (power a) (pick (eqb k 0x44) (pair a b) bad))
  at-power p q r s t true e = is-power (eqb-true k 0x43 e)
  at-power p q r s t false e = at_pair p q r s t (eqb-false k 0x43 e) (eqb k 0x44) refl

  at-given : k ≢ 0x4E → k ≢ 0x4D → k ≢ 0x40 → k ≢ 0x41 → (c : Bool) → eqb k 0x42 ≡ c → Kind k a b (pick c (leaf (given a)) (pick (eqb k 0x43) (power a) (pick (eqb k 0x44) (pair a b) bad)))
  at-given p q r s true e = is-given (eqb-true k 0x42 e)
  at-given p q r s false e = at-power p q r s (eqb-false k 0x42 e) (eqb k 0x43) refl

  at-int : k ≢ 0x4E → k ≢ 0x4D → k ≢ 0x40 → (c : Bool) → eqb k 0x41 ≡ c → Kind k a b (pick c (leaf int) (pick (eqb k 0x42) (leaf (given a)) (pick (eqb k 0x43) (power a) (pick (eqb k 0x44) (pair a b) bad))))
  at-int p q r true e = is-int (eqb-true k 0x41 e)
  at-int p q r false e = at-given p q r (eqb-false k 0x41 e) (eqb k 0x42) refl

  at-bool : k ≢ 0x4E → k ≢ 0x4D → (c : Bool) → eqb k 0x40 ≡ c → Kind k a b (pick c (leaf bool) (pick (eqb k 0x41) (leaf int) (pick (eqb k 0x42) (leaf (given a)) (pick (eqb k 0x43) (power a) (pick (eqb k 0x44) (pair a b) bad)))))
  at-bool p q true e = is-bool (eqb-true k 0x40 e)
  at-bool p q false e = at-int p q (eqb-false k 0x40 e) (eqb k 0x41) refl

  at-link : k ≢ 0x4E → (c : Bool) → eqb k 0x4D ≡ c → Kind k a b (pick c (link a) (pick (eqb k 0x40) (leaf bool) (pick (eqb k 0x41) (leaf int) (pick (eqb k 0x42) (leaf (given a)) (pick (eqb k 0x43) (power a) (pick (eqb k 0x44) (pair a b) bad))))))
  at-link p true e = is-link (eqb-true k 0x4D e)
  at-link p false e = at-bool p (eqb-false k 0x4D e) (eqb k 0x40) refl

  at-free : (c : Bool) → eqb k 0x4E ≡ c → Kind k a b (pick c free (pick (eqb k 0x4D) (link a) (pick (eqb k 0x40) (leaf bool) (pick (eqb k 0x41) (leaf int) (pick (eqb k 0x42) (leaf (given a)) (pick (eqb k 0x43) (power a) (pick (eqb k 0x44) (pair a b) bad)))))))
  at-free true e = is_free (eqb-true k 0x4E e)
  at-free false e = at-link (eqb-false k 0x4E e) (eqb k 0x4D) refl

  -- three words, read
  pub kind_of : Kind k a b (decode k a b)
  kind_of = at-free (eqb k 0x4E) refl

  in_range : (nd : Node) → Kind k a b nd → 0x40 ≤ k → k ≤ 0x44 → Root nd
  in_range free h l u = tt
  in_range (link j) (is-link e) l u = absurd (omega arith)
  in_range (leaf p) h l u = tt
  in_range (power x) h l u = tt
  in_range (pair x y) h l u = tt
  in_range bad (is_none p q r s t v w) l u = absurd (five k r s t v w l u)

  -- the kinds 40 to 44 are no binding
  pub root-range : 0x40 ≤ k → k ≤ 0x44 → Root (decode k a b)
  root-range l u = in_range (decode k a b) kind_of l u

  out_of_range : (nd : Node) → Kind k a b nd → k ≢ 0x4D → k ≢ 0x4E → k < 0x40 → nd ≡ bad
  out_of_range free (is_free e) p q l = absurd (q e)
  out_of_range (link j) (is-link e) p q l = absurd (p e)
  out_of_range (leaf bool) (is-bool e) p q l = absurd (omega arith)
  out_of_range (leaf int) (is-int e) p q l = absurd (omega arith)
  out_of_range (leaf (given x)) (is-given e) p q l = absurd (omega arith)
  out_of_range (power x) (is-power e) p q l = absurd (omega arith)
  out_of_range (pair x y) (is-pair e) p q l = absurd (omega arith)
  out_of_range bad h p q l = refl

  above_range : (nd : Node) → Kind k a b nd → k ≢ 0x4D → k ≢ 0x4E → 0x44 < k → nd ≡ bad
  above_range free (is_free e) p q l = absurd (q e)
  above_range (link j) (is-link e) p q l = absurd (p e)
  above_range (leaf bool) (is-bool e) p q l = absurd (omega arith)
  above_range (leaf int) (is-int e) p q l = absurd (omega arith)
  above_range (leaf (given x)) (is-given e) p q l = absurd (omega arith)
  above_range (power x) (is-power e) p q l = absurd (omega arith)
  above_range (pair x y) (is-pair e) p q l = absurd (omega arith)
  above_range bad h p q l = refl

  -- no other kind is a node
  pub bad-below : k ≢ 0x4D → k ≢ 0x4E → k < 0x40 → decode k a b ≡ bad
  bad-below p q l = out_of_range (decode k a b) kind_of p q l

  pub bad_above : k ≢ 0x4D → k ≢ 0x4E → 0x44 < k → decode k a b ≡ bad
  bad_above p q l = above_range (decode k a b) kind_of p q l

module _ (k a b : ℕ) (m c d : ℕ) where
  right-free : (nd : Node) → Kind k a b nd → Root nd → k ≢ 0x4E → meet nd free ≡ bindRight
  unfolding meet
  right-free free (is_free e) q h = absurd (h e)
  right-free (link j) f q h = absurd q
  right-free (leaf p) f q h = refl
  right-free (power x) f q h = refl
  right-free (pair x y) f q h = refl
  right-free bad f q h = absurd q

  -- an unknown on the right is bound, where the left is none
  pub meet_right : Root (decode k a b) → k ≢ 0x4E → meet (decode k a b) free ≡ bindRight
  meet_right q h = right-free (decode k a b) (kind_of k a b) q h

  differ-at : (nd : Node) → Kind k a b nd → (me : Node) → Kind m c d me → k ≢ 0x4E → m ≢ 0x4E → k ≢ m → meet nd me ≡ clash
  unfolding meet same_atom verdict_of
  differ-at free (is_free e) me g p q h = absurd (p e)
  differ-at (link j) f me g p q h = refl
  differ-at (leaf x) f free (is_free e) p q h = absurd (q e)
  differ-at (leaf x) f (link j) g p q h = refl
  differ-at (leaf bool) (is-bool e) (leaf bool) (is-bool i) p q h = absurd (h (e ∙ sym i))
  differ-at (leaf bool) (is-bool e) (leaf int) g p q h = refl
  differ-at (leaf bool) (is-bool e) (leaf (given y)) g p q h = refl
  differ-at (leaf int) (is-int e) (leaf bool) g p q h = refl
  differ-at (leaf int) (is-int e) (leaf int) (is-int i) p q h = absurd (h (e ∙ sym i))
  differ-at (leaf int) (is-int e) (leaf (given y)) g p q h = refl
  differ-at (leaf (given x)) (is-given e) (leaf bool) g p q h = refl
  differ-at (leaf (given x)) (is-given e) (leaf int) g p q h = refl
  differ-at (leaf (given x)) (is-given e) (leaf (given y)) (is-given i) p q h = absurd (h (e ∙ sym i))
  differ-at (leaf x) f (power y) g p q h = refl
  differ-at (leaf x) f (pair y z) g p q h = refl
  differ-at (leaf x) f bad g p q h = refl
  differ-at (power x) f free (is_free e) p q h = absurd (q e)
  differ-at (power x) f (link j) g p q h = refl
  differ-at (power x) f (leaf y) g p q h = refl
  differ-at (power x) (is-power e) (power y) (is-power i) p q h = absurd (h (e ∙ sym i))
  differ-at (power x) f (pair y z) g p q h = refl
  differ-at (power x) f bad g p q h = refl
  differ-at (pair x y) f free (is_free e) p q h = absurd (q e)
  differ-at (pair x y) f (link j) g p q h = refl
  differ-at (pair x y) f (leaf z) g p q h = refl
  differ-at (pair x y) f (power z) g p q h = refl
  differ-at (pair x y) (is-pair e) (pair z w) (is-pair i) p q h = absurd (h (e ∙ sym i))
  differ-at (pair x y) f bad g p q h = refl
  differ-at bad f me g p q h = refl

  -- two kinds, neither an unknown, that are not the same
  pub meet-differ : k ≢ 0x4E → m ≢ 0x4E → k ≢ m → meet (decode k a b) (decode m c d) ≡ clash
  meet-differ p q h = differ-at (decode k a b) (kind_of k a b) (decode m c d) (kind_of m c d) p q h

-- BOOL with BOOL, ℤ with ℤ
module _ (k a b c d : ℕ) where
  plain_at : (nd me : Node) → Kind k a b nd → Kind k c d me → 0x40 ≤ k → k ≤ 0x41 → meet nd me ≡ agree
  unfolding meet same_atom verdict_of
  plain_at free me (is_free e) g l u = absurd (omega arith)
  plain_at (link j) me (is-link e) g l u = absurd (omega arith)
  plain_at (leaf bool) free f (is_free e) l u = absurd (omega arith)
  plain_at (leaf bool) (link j) f (is-link e) l u = absurd (omega arith)
  plain_at (leaf bool) (leaf bool) f g l u = refl
  plain_at (leaf bool) (leaf int) (is-bool e) (is-int i) l u = absurd (omega arith)
  plain_at (leaf bool) (leaf (given y)) f (is-given i) l u = absurd (omega arith)
  plain_at (leaf bool) (power y) f (is-power i) l u = absurd (omega arith)
  plain_at (leaf bool) (pair y z) f (is-pair i) l u = absurd (omega arith)
  plain_at (leaf bool) bad (is-bool e) (is_none p q r s t v w) l u = absurd (r e)
  plain_at (leaf int) free f (is_free e) l u = absurd (omega arith)
  plain_at (leaf int) (link j) f (is-link e) l u = absurd (omega arith)
  plain_at (leaf int) (leaf bool) (is-int e) (is-bool i) l u = absurd (omega arith)
  plain_at (leaf int) (leaf int) f g l u = refl
  plain_at (leaf int) (leaf (given y)) f (is-given i) l u = absurd (omega arith)
  plain_at (leaf int) (power y) f (is-power i) l u = absurd (omega arith)
  plain_at (leaf int) (pair y z) f (is-pair i) l u = absurd (omega arith)
  plain_at (leaf int) bad (is-int e) (is_none p q r s t v w) l u = absurd (s e)
  plain_at (leaf (given x)) me (is-given e) g l u = absurd (omega arith)
  plain_at (power x) me (is-power e) g l u = absurd (omega arith)
  plain_at (pair x y) me (is-pair e) g l u = absurd (omega arith)
  plain_at bad me (is_none p q r s t v w) g l u = absurd (two k r s l u)

  pub meet-plain : 0x40 ≤ k → k ≤ 0x41 → meet (decode k a b) (decode k c d) ≡ agree
  meet-plain l u = plain_at (decode k a b) (decode k c d) (kind_of k a b) (kind_of k c d) l u

-- what stands at a reference that is inside
pub node-here : (ws : Words) (n x : ℕ) → x < n → 3 * x + 2 < length ws → node_at ws n x ≡ decode (get_or ws (3 * x) 0) (get_or ws (3 * x + 1) 0) (get_or ws (3 * x + 2) 0)
unfolding inside
node-here ws n x l s = node_in ws n x (rw (lt-ltb x n l, lt-ltb (3 * x + 2) (length ws) s) refl)

-- a node that is no binding has one of six kinds
module _ (k a b : ℕ) where
  six_at : (nd : Node) → Kind k a b nd → Root nd → k ≢ 0x4E → k ≢ 0x42 → k ≢ 0x43 → k ≢ 0x44 → (k < 0x40) ⊎ (0x42 ≤ k) → ⊥
  six_at free (is_free e) q f g h i l = f e
  six_at (link j) z q f g h i l = q
  six_at (leaf bool) (is-bool e) q f g h i (inl l) = omega arith
  six_at (leaf bool) (is-bool e) q f g h i (inr l) = omega arith
  six_at (leaf int) (is-int e) q f g h i (inl l) = omega arith
  six_at (leaf int) (is-int e) q f g h i (inr l) = omega arith
  six_at (leaf (given x)) (is-given e) q f g h i l = g e
  six_at (power x) (is-power e) q f g h i l = h e
  six_at (pair x y) (is-pair e) q f g h i l = i e
  six_at bad z q f g h i l = q

  pub no_seventh : Root (decode k a b) → k ≢ 0x4E → k ≢ 0x42 → k ≢ 0x43 → k ≢ 0x44 → (k < 0x40) ⊎ (0x42 ≤ k) → ⊥
  no_seventh q f g h i l = six_at (decode k a b) (kind_of k a b) q f g h i l
