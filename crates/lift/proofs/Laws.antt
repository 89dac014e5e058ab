-- The code's path, read off: the record's head, and what was not made, there or in a part.
use Rattle.std.proofs.Common.{ℕ, Option, Err, List, drop, ◌≡◌, ◌≢◌, ◌+◌, ◌-◌, sym, ap, ◌∙◌}
use Rattle.meter.specs.Meter.{M, ret, broken, full}
use Rattle.types.specs.declared.Head.{Head}
use Rattle.types.specs.Record.{power, product, head_of}
use Rattle.types.specs.Code.{head_is}
use Rattle.unification.specs.Arena.{Words, Node}
use Rattle.unification.specs.Make.{build}
use Rattle.unification.specs.Lift.{Raised, crown, lift_by, lift_of, lift-head, crown-stop, power-stop, left-stop, right-stop}
use Rattle.makers.specs.declared.MakeError.{MakeError}
use Rattle.makers.specs.declared.MakeError.TheVariants.{Full, Broken}
use Rattle.makers.specs.Answers.{made}
use Rattle.lift.specs.Answers.{raised}

pub headed : (names : ℕ) (s : List ℕ) (ws : Words) (n p left : ℕ) → left ≢ 0 → (h k : Option Head) → head_is h ≡ head_of names p (drop p s) → h ≡ k → lift_by (lift_of (left - 1) names s) ws n (head_is k) ≡ lift_of left names s ws n p
headed names s ws n p left z h k e q = sym (lift-head names s ws n p left z (head_is k) (sym e ∙ ap head_is q))

pub crown-error : (ws ws' : Words) (n e : ℕ) (nd : Node) (w : MakeError) → made (Err w) ws' ≡ build ws n nd → raised (Err w) ws' ≡ crown ws n nd e
crown-error ws ws' n e nd Full q = sym (crown-stop ws n nd e full ws' (sym q))
crown-error ws ws' n e nd Broken q = sym (crown-stop ws n nd e broken ws' (sym q))

module _ (rec : Words → ℕ → ℕ → M Words Raised) (ws ws' : Words) (n e : ℕ) where
  pub power-error : (w : MakeError) → raised (Err w) ws' ≡ rec ws n e → raised (Err w) ws' ≡ lift_by rec ws n (power e)
  power-error Full q = sym (power-stop rec ws n e full ws' (sym q))
  power-error Broken q = sym (power-stop rec ws n e broken ws' (sym q))

  pub left-error : (w : MakeError) → raised (Err w) ws' ≡ rec ws n e → raised (Err w) ws' ≡ lift_by rec ws n (product e)
  left-error Full q = sym (left-stop rec ws n e full ws' (sym q))
  left-error Broken q = sym (left-stop rec ws n e broken ws' (sym q))

  pub right-error : (o : Raised) (w : MakeError) → ret o ≡ rec ws n e → raised (Err w) ws' ≡ rec o.2 (o.0 + 1) o.1 → raised (Err w) ws' ≡ lift_by rec ws n (product e)
  right-error o Full p q = sym (right-stop rec ws n e o full ws' (sym p) (sym q))
  right-error o Broken p q = sym (right-stop rec ws n e o broken ws' (sym p) (sym q))
