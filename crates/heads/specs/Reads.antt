-- The parts of a body as the code reads them: one byte at a time, up to the last place that can be numbered.
use Rattle.std.specs.Prelude.{ℕ, ◌+◌, ◌≤◌, ◌<◌, ◌≡◌, List, get_or, Option, Some, None}
use native.Mathlib.Omega.{arith}
use Rattle.std.proofs.Math.Decide.{dec_le}
use Rattle.std.proofs.Common.{sym, ◌∙◌, drop_of_length-le, drop-cons, take_all, get_or-take}
use Rattle.std.proofs.Math.Path.{ap}
use Rattle.std.proofs.Math.ListN.{length}
use borrow.Author.Tests.{lt-ltb, le-ltb, ne_eqb}
use Rattle.std.proofs.Math.Seq.{length-take-le}
use Rattle.types.specs.declared.Place.{Place}
use Rattle.heads.specs.declared.Root.TheVariants as R
use Rattle.types.specs.Record.{reach}
use Rattle.heads.specs.Heads.{place, byte_of, byte_at, on_part, few_at, assignment_at, root_head}

-- a stream within reach is its own reach
pub reach-all : (s : List ℕ) → length s ≤ 4294967295 → reach s ≡ s
unfolding reach
reach-all s h = take_all 4294967295 s h

pub byte_in : (s : List ℕ) (p : Place) → p.0 < length s → Some (get_or s p.0 0, place (p.0 + 1)) ≡ byte_at s p
unfolding byte_at byte_of
byte_in s p h = rw (drop-cons s p.0 0 h)

byte_out : (s : List ℕ) (p : Place) → length s ≤ p.0 → None ≡ byte_at s p
unfolding byte_at byte_of
byte_out s p h = rw (drop_of_length-le s h)

module _ (s : List ℕ) (p : Place) where
  pub byte_reached : p.0 < length s → p.0 < 4294967295 → Some (get_or s p.0 0, place (p.0 + 1)) ≡ byte_at (reach s) p
  unfolding reach
  byte_reached h l = ap (λ (b : ℕ). Some (b, place (p.0 + 1))) (sym (get_or-take 4294967295 s p.0 0 l)) ∙ byte_in (reach s) p (inside (dec_le (length s) 4294967295))
    where
      inside : Dec (length s ≤ 4294967295) → p.0 < length (reach s)
      inside (yes q) = let e = ap length (reach-all s q) in omega arith
      inside (no q) = let e = length-take-le 4294967295 s (omega arith) in omega arith

  -- past the stream's end
  pub byte_ended : p.0 ≤ 4294967295 → length s ≤ p.0 → None ≡ byte_at (reach s) p
  byte_ended l h = let e = ap length (reach-all s (omega arith)) in byte_out (reach s) p (omega arith)

  -- past the last place
  pub byte_beyond : 4294967295 ≤ p.0 → p.0 < length s → None ≡ byte_at (reach s) p
  unfolding reach
  byte_beyond l h = let e = length-take-le 4294967295 s (omega arith) in byte_out (reach s) p (omega arith)

-- what was read, by its parts
pub same_part : (m n : ℕ) (q e : Place) → ◌≡◌ {A = Option (ℕ × Place)} (Some (m, q)) (Some (n, e)) → (m ≡ n) × (q ≡ e)
same_part m n q e h = let w : ◌≡◌ {A = ℕ × Place} (m, q) (n, e) = cc in (ap (λ (o : ℕ × Place). o.0) w, ap (λ (o : ℕ × Place). o.1) w)

-- what a formula begins with, by its first byte and its count
pub root-missing : (s : List ℕ) (p : Place) → byte_at s p ≡ None → None ≡ root_head s p
unfolding root_head on_part
root-missing s p h = rw h

pub assignment_missing : (s : List ℕ) (k : ℕ) (p : Place) → few_at s p ≡ None → None ≡ assignment_at s k p
unfolding assignment_at on_part
assignment_missing s k p h = rw h

module _ (s : List ℕ) (p : Place) (k : ℕ) (q : Place) (h : byte_at s p ≡ Some (k, q)) where
  pub root-expression : k < 0x20 → Some R.Expression ≡ root_head s p
  unfolding root_head on_part
  root-expression l = rw (h, lt-ltb k 0x20 l)

  pub root-predicate : 0x20 ≤ k → k < 0x30 → Some R.Predicate ≡ root_head s p
  unfolding root_head on_part
  root-predicate g l = rw (h, le-ltb k 0x20 g, lt-ltb k 0x30 l)

  pub root_assignment : 0x30 ≤ k → assignment_at s k q ≡ root_head s p
  unfolding root_head on_part
  root_assignment g = rw (h, le-ltb k 0x20 (omega arith), le-ltb k 0x30 g)

module _ (s : List ℕ) (k : ℕ) (p : Place) (n : ℕ) (e : Place) (h : few_at s p ≡ Some (n, e)) where
  pub assignment_becomes : k ≡ 0x30 → Some (R.Becomes n e) ≡ assignment_at s k p
  unfolding assignment_at on_part
  assignment_becomes i = rw (h, i)

  pub assignment_in : k ≡ 0x31 → Some (R.BecomesIn n e) ≡ assignment_at s k p
  unfolding assignment_at on_part
  assignment_in i = rw (h, i)

  pub assignment_such : k ≡ 0x32 → Some (R.BecomesSuch n e) ≡ assignment_at s k p
  unfolding assignment_at on_part
  assignment_such i = rw (h, i)

  pub assignment_wrong : (k ≡ 0x30 → ⊥) → (k ≡ 0x31 → ⊥) → (k ≡ 0x32 → ⊥) → None ≡ assignment_at s k p
  unfolding assignment_at on_part
  assignment_wrong x y z = rw (h, ne_eqb k 0x30 x, ne_eqb k 0x31 y, ne_eqb k 0x32 z)
