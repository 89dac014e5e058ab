-- The rule for a refusal's place, apart from how the reader nests its calls: a text is read token by token, and all that matters between two
-- tokens is whether an operand is due or done, and how many brackets are open (`State`). The first token that does not fit is the place;
-- an operand due under 33 brackets is refused before its first byte is read. `place_rule` shows that the reader's refusals are these.
use Prim.Native.Nat.{ℕ, zero, suc, ◌+◌, ◌-◌, ◌≤◌, ◌<◌}
use native.Mathlib.Omega.{arith}
use Rattle.std.proofs.Math.Path.{◌≡◌, refl, sym, ap}
use Rattle.std.proofs.Common.{◌∙◌, length-append, length-drop, drop_of_length-le}
use Rattle.std.specs.Prelude.{Bool, List, [], ◌++◌, drop, get_or, leb, Option, Some, None}
use Rattle.std.proofs.Math.Bool.{true, false}
use Rattle.std.proofs.Math.ListN.{length}
use Rattle.std.proofs.Math.Dec.{eqb}
use borrow.Author.Tests.{le-leb, lt-leb, eq-eqb, eqb-true}
use Rattle.types.specs.Ty.{Atom, Ty, pow, prod, AtomBelow, bool-below, int-below, given_below}
use Rattle.types.specs.Record.{pick, TypeAt, got, malformed, deep, and_then}
use Rattle.types.specs.Code.{atom_is}
use Rattle.name_table.specs.Laws.{Usable, word_some}
use Rattle.type_grammar.specs.declared.Token.{Token}
use Rattle.type_grammar.specs.declared.Token.TheVariants.{Leaf, Power, Open, Close, Times}
use Rattle.type_grammar.specs.Text.{power_open, bracket_open, bracket_close, times, text_atom}
use Rattle.type_grammar.specs.Token.{token_of, token_at}
use Rattle.type_grammar.specs.Parse.{closing, operand_by, times_by, times_on, product_by, operand_of, product_of, ends_at, parse}
use Rattle.type_grammar.specs.Accepts.{Begins, token_stands, operand-denotes}

-- ---- the rule

-- between two tokens: an operand is due, or has been read, with so many brackets open
pub data State : Type 0 where
  due : ℕ → State
  done : ℕ → State

pub data Verdict : Type 0 where
  fits : Verdict
  misfit : ℕ → Verdict
  too_deep : ℕ → Verdict

-- where an operand is due: an atom, or an opening bracket
unfoldable pub due_by : (ℕ → State → Verdict) → ℕ → ℕ → Option Token → Verdict
due_by next b p (Some (Leaf a q)) = next q (done b)
due_by next b p (Some (Power q)) = next q (due (suc b))
due_by next b p (Some (Open q)) = next q (due (suc b))
due_by next b p (Some (Close q)) = misfit p
due_by next b p (Some (Times q)) = misfit p
due_by next b p None = misfit p

-- a closing bracket closes an open one
unfoldable pub close_by : (ℕ → State → Verdict) → ℕ → ℕ → ℕ → Verdict
close_by next zero p q = misfit p
close_by next (suc b) p q = next q (done b)

-- a text of n bytes ends where no bracket is open
unfoldable pub end_by : ℕ → ℕ → ℕ → Verdict
end_by n zero p = pick (eqb p n) fits (misfit p)
end_by n (suc b) p = misfit p

-- after an operand: ×, a closing bracket, or the end
unfoldable pub done_by : (ℕ → State → Verdict) → ℕ → ℕ → ℕ → Option Token → Verdict
done_by next n b p (Some (Times q)) = next q (due b)
done_by next n b p (Some (Close q)) = close_by next b p q
done_by next n b p (Some (Leaf a q)) = misfit p
done_by next n b p (Some (Power q)) = misfit p
done_by next n b p (Some (Open q)) = misfit p
done_by next n b p None = end_by n b p

unfoldable pub step_by : (ℕ → State → Verdict) → (ℕ → Option Token) → ℕ → ℕ → State → Verdict
step_by next tok n p (due b) = pick (leb b 32) (due_by next b p (tok p)) (too_deep p)
step_by next tok n p (done b) = done_by next n b p (tok p)

-- at most f tokens
unfoldable pub run_by : (ℕ → Option Token) → ℕ → ℕ → ℕ → State → Verdict
run_by tok n zero p st = misfit p
run_by tok n (suc f) p st = step_by (λ q u. run_by tok n f q u) tok n p st

-- a whole text; each token has a byte, so its length and one more are turns enough
unfoldable pub verdict : List (List ℕ) → List ℕ → Verdict
verdict ns s = run_by (token_at ns s) (length s) (suc (length s)) 0 (due 0)

-- ---- the number of turns does not matter

-- a token moves on, and stays within n bytes
unfoldable pub Onward : ℕ → ℕ → Option Token → Type 0
Onward n p (Some (Leaf a q)) = (p < q) × (q ≤ n)
Onward n p (Some (Power q)) = (p < q) × (q ≤ n)
Onward n p (Some (Open q)) = (p < q) × (q ≤ n)
Onward n p (Some (Close q)) = (p < q) × (q ≤ n)
Onward n p (Some (Times q)) = (p < q) × (q ≤ n)
Onward n p None = Unit {0}

module _ (n p : ℕ) (f g : ℕ → State → Verdict) (h : (q : ℕ) (st : State) → p < q → q ≤ n → f q st ≡ g q st) where
  due-same : (b : ℕ) (k : Option Token) → Onward n p k → due_by f b p k ≡ due_by g b p k
  unfolding due_by Onward
  due-same b (Some (Leaf a q)) o = h q (done b) o.0 o.1
  due-same b (Some (Power q)) o = h q (due (suc b)) o.0 o.1
  due-same b (Some (Open q)) o = h q (due (suc b)) o.0 o.1
  due-same b (Some (Close q)) o = refl
  due-same b (Some (Times q)) o = refl
  due-same b None o = refl

  close_same : (b q : ℕ) → p < q → q ≤ n → close_by f b p q ≡ close_by g b p q
  unfolding close_by
  close_same zero q a c = refl
  close_same (suc b) q a c = h q (done b) a c

  done-same : (b : ℕ) (k : Option Token) → Onward n p k → done_by f n b p k ≡ done_by g n b p k
  unfolding done_by Onward
  done-same b (Some (Times q)) o = h q (due b) o.0 o.1
  done-same b (Some (Close q)) o = close_same b q o.0 o.1
  done-same b (Some (Leaf a q)) o = refl
  done-same b (Some (Power q)) o = refl
  done-same b (Some (Open q)) o = refl
  done-same b None o = refl

  step_same : (tok : ℕ → Option Token) → Onward n p (tok p) → (st : State) → step_by f tok n p st ≡ step_by g tok n p st
  unfolding step_by
  step_same tok o (due b) = ap (λ (x : Verdict). pick (leb b 32) x (too_deep p)) (due-same b (tok p) o)
  step_same tok o (done b) = done-same b (tok p) o

-- what comes after a reading
unfoldable pub then_run : TypeAt → (ℕ → Verdict) → Verdict
then_run (got t e) k = k e
then_run (malformed p) k = misfit p
then_run (deep p) k = too_deep p

module _ (tok : ℕ → Option Token) (n : ℕ) (onward : (p : ℕ) → Onward n p (tok p)) where
  stable : (f g p : ℕ) (st : State) → n - p < f → n - p < g → run_by tok n f p st ≡ run_by tok n g p st
  unfolding run_by
  stable zero g p st a b = absurd (omega arith)
  stable (suc f) zero p st a b = absurd (omega arith)
  stable (suc f) (suc g) p st a b =
      step_same n p (λ q u. run_by tok n f q u) (λ q u. run_by tok n g q u) (λ q u l m. stable f g q u (omega arith) (omega arith)) tok (onward p) st

  -- as many turns as there can be tokens
  unfoldable pub go : ℕ → State → Verdict
  go p st = run_by tok n (suc (n - p)) p st

  go_step : (p : ℕ) (st : State) → go p st ≡ step_by go tok n p st
  unfolding go run_by
  go_step p st =
      step_same n p (λ q u. run_by tok n (n - p) q u) go (λ q u l m. stable (n - p) (suc (n - q)) q u (omega arith) (omega arith)) tok (onward p) st

  -- ---- the reader follows the rule

  -- after a product: no × follows
  unfoldable pub shut : ℕ → ℕ → Option Token → Verdict
  shut b p (Some (Times q)) = misfit p
  shut b p (Some (Close q)) = close_by go b p q
  shut b p (Some (Leaf a q)) = misfit p
  shut b p (Some (Power q)) = misfit p
  shut b p (Some (Open q)) = misfit p
  shut b p None = end_by n b p

  times-past : (e q : ℕ) → tok e ≡ Some (Times q) → e < q
  unfolding Onward
  times-past e q k = let o : Onward n e (Some (Times q)) = rw k at (onward e) in o.0

  module _ (over : (p : ℕ) → n ≤ p → tok p ≡ None) where
    module _ (b : ℕ) (rd : ℕ → TypeAt) (first : (q : ℕ) → go q (due b) ≡ then_run (rd q) (λ e. go e (done b))) (grows : (q : ℕ) (u : Ty) (f : ℕ) → rd q ≡ got u f → q ≤ f) where
      times-step : (m : ℕ) (t : Ty) (q : ℕ) (x : TypeAt) → rd q ≡ x → n ≤ m + q → ((u : Ty) (f : ℕ) → n ≤ m + f → go f (done b) ≡ then_run (times_by rd tok m (prod t u) f) (λ e. shut b e (tok e))) → then_run x (λ e. go e (done b)) ≡ then_run (and_then x (λ u f. times_by rd tok m (prod t u) f)) (λ e. shut b e (tok e))
      unfolding then_run and_then
      times-step m t q (got u f) h l rec = rec u f (let z = grows q u f h in omega arith)
      times-step m t q (malformed p) h l rec = refl
      times-step m t q (deep p) h l rec = refl

      times-on : (more : ℕ → TypeAt) (t : Ty) (e : ℕ) (k : Option Token) → ((q : ℕ) → k ≡ Some (Times q) → go q (due b) ≡ then_run (more q) (λ f. shut b f (tok f))) → tok e ≡ k → done_by go n b e k ≡ then_run (times_on more t e k) (λ f. shut b f (tok f))
      unfolding done_by times_on then_run shut
      times-on more t e (Some (Times q)) h k = h q refl
      times-on more t e (Some (Close q)) h k = sym (rw k)
      times-on more t e (Some (Leaf a q)) h k = sym (rw k)
      times-on more t e (Some (Power q)) h k = sym (rw k)
      times-on more t e (Some (Open q)) h k = sym (rw k)
      times-on more t e None h k = sym (rw k)

      ended : (e : ℕ) → tok e ≡ None → done_by go n b e (tok e) ≡ shut b e (tok e)
      unfolding done_by shut
      ended e h = rw h

      times-run : (m : ℕ) (t : Ty) (e : ℕ) → n ≤ m + e → go e (done b) ≡ then_run (times_by rd tok m t e) (λ f. shut b f (tok f))
      unfolding times_by then_run step_by
      times-run zero t e l = go_step e (done b) ∙ ended e (over e (omega arith))
      times-run (suc m) t e l =
          go_step e (done b)
          ∙ times-on (λ q. and_then (rd q) λ u f. times_by rd tok m (prod t u) f) t e (tok e)
          (λ q k. first q ∙ times-step m t q (rd q) refl (let z = times-past e q k in omega arith) (λ u f g. times-run m (prod t u) f g))
          refl

      product-run : (q : ℕ) → go q (due b) ≡ then_run (product_by rd tok n q) (λ e. shut b e (tok e))
      unfolding product_by then_run and_then
      product-run q = first q ∙ after (rd q)
        where
          after : (x : TypeAt) → then_run x (λ e. go e (done b)) ≡ then_run (and_then x (λ t e. times_by rd tok n t e)) (λ e. shut b e (tok e))
          after (got t e) = times-run n t e (omega arith)
          after (malformed p) = refl
          after (deep p) = refl

    -- the closing bracket after a product in brackets
    close_run : (b : ℕ) (t : Ty) (e : ℕ) (k : Option Token) → shut (suc b) e k ≡ then_run (closing t e k) (λ f. go f (done b))
    unfolding shut closing then_run close_by end_by
    close_run b t e (Some (Close q)) = refl
    close_run b t e (Some (Times q)) = refl
    close_run b t e (Some (Leaf a q)) = refl
    close_run b t e (Some (Power q)) = refl
    close_run b t e (Some (Open q)) = refl
    close_run b t e None = refl

    nested_run : (b : ℕ) (wrap : Ty → Ty) (x : TypeAt) → then_run x (λ e. shut (suc b) e (tok e)) ≡ then_run (and_then x (λ t e. closing (wrap t) e (tok e))) (λ f. go f (done b))
    unfolding then_run and_then
    nested_run b wrap (got t e) = close_run b (wrap t) e (tok e)
    nested_run b wrap (malformed p) = refl
    nested_run b wrap (deep p) = refl

    operand-by : (b : ℕ) (inner : ℕ → TypeAt) → ((q : ℕ) → go q (due (suc b)) ≡ then_run (inner q) (λ e. shut (suc b) e (tok e))) → (p : ℕ) (k : Option Token) → due_by go b p k ≡ then_run (operand_by inner tok p k) (λ e. go e (done b))
    unfolding due_by operand_by then_run
    operand-by b inner h p (Some (Leaf a q)) = refl
    operand-by b inner h p (Some (Power q)) = h q ∙ nested_run b pow (inner q)
    operand-by b inner h p (Some (Open q)) = h q ∙ nested_run b (λ t. t) (inner q)
    operand-by b inner h p (Some (Close q)) = refl
    operand-by b inner h p (Some (Times q)) = refl
    operand-by b inner h p None = refl

-- ---- for the tokens of a text

text-some : (ns : List (List ℕ)) → Usable ns → {a : Atom} → AtomBelow (length ns) a → 1 ≤ length (text_atom ns a)
unfolding text_atom
text-some ns u bool-below = omega arith
text-some ns u int-below = omega arith
text-some ns u (given_below {n} k) = word_some (get_or ns n []) (u.word n k)

within : (s : List ℕ) (p : ℕ) (x rest : List ℕ) → 1 ≤ length x → drop p s ≡ x ++ rest → p + length x ≤ length s
within s p x rest h e = omega (arith, length-append x rest, ap length e, length-drop p s)

module _ (ns : List (List ℕ)) (u : Usable ns) (s : List ℕ) where
  moves : (p : ℕ) (k : Option Token) → Begins ns p (drop p s) k → Onward (length s) p k
  unfolding Begins Onward
  moves p (Some (Leaf a q)) b = let z = b.1 in let y = text-some ns u b.0 in let w = within s p (text_atom ns (atom_is a)) _ y b.2 in (omega arith, omega arith)
  moves p (Some (Power q)) b = let z = b.0 in let w = within s p power_open _ (omega arith) b.1 in (omega arith, omega arith)
  moves p (Some (Open q)) b = let z = b.0 in let w = within s p bracket_open _ (omega arith) b.1 in (omega arith, omega arith)
  moves p (Some (Close q)) b = let z = b.0 in let w = within s p bracket_close _ (omega arith) b.1 in (omega arith, omega arith)
  moves p (Some (Times q)) b = let z = b.0 in let w = within s p times _ (omega arith) b.1 in (omega arith, omega arith)
  moves p None b = tt

  onward : (p : ℕ) → Onward (length s) p (token_at ns s p)
  onward p = moves p (token_at ns s p) (token_stands ns s p (token_at ns s p) refl)

  nothing : (p : ℕ) → length s ≤ p → token_at ns s p ≡ None
  unfolding token_at token_of
  nothing p h = rw (drop_of_length-le s h)

  abbrev run : ℕ → State → Verdict
  run p st = go (token_at ns s) (length s) onward p st

  grows : (l q : ℕ) (t : Ty) (f : ℕ) → operand_of l ns s q ≡ got t f → q ≤ f
  unfolding operand_of
  grows zero q t f h = absurd (let z : ◌≡◌ {A = ℕ} 0 1 = cc in omega arith)
  grows (suc d) q t f h = let r = operand-denotes ns s d q t f h in let z = r.ends in omega arith

  due-deep : (b p : ℕ) → 32 < b → run p (due b) ≡ too_deep p
  unfolding step_by
  due-deep b p h = go_step (token_at ns s) (length s) onward p (due b) ∙ rw (lt-leb b 32 h)

  due_open : (b p : ℕ) → b ≤ 32 → run p (due b) ≡ due_by (go (token_at ns s) (length s) onward) b p (token_at ns s p)
  unfolding step_by
  due_open b p h = go_step (token_at ns s) (length s) onward p (due b) ∙ rw (le-leb b 32 h)

  -- an operand, where l operands may nest and b brackets are open
  operand-run : (l b p : ℕ) → b + l ≡ 33 → run p (due b) ≡ then_run (operand_of l ns s p) (λ e. run e (done b))
  unfolding operand_of then_run
  operand-run zero b p h = due-deep b p (omega arith)
  operand-run (suc l) b p h =
      due_open b p (omega arith)
      ∙ operand-by (token_at ns s) (length s) onward nothing b (λ q. product_by (operand_of l ns s) (token_at ns s) (length s) q)
      (λ q. product-run (token_at ns s) (length s) onward nothing (suc b) (operand_of l ns s) (λ r. operand-run l (suc b) r (omega arith)) (grows l) q)
      p (token_at ns s p)

  -- a reading as a verdict
  unfoldable pub judged : TypeAt → Verdict
  judged (got t e) = fits
  judged (malformed p) = misfit p
  judged (deep p) = too_deep p

  other-end : (e : ℕ) (k : Option Token) → (k ≡ None → eqb e (length s) ≡ false) → shut (token_at ns s) (length s) onward 0 e k ≡ misfit e
  unfolding shut close_by end_by
  other-end e (Some (Times q)) h = refl
  other-end e (Some (Close q)) h = refl
  other-end e (Some (Leaf a q)) h = refl
  other-end e (Some (Power q)) h = refl
  other-end e (Some (Open q)) h = refl
  other-end e None h = rw (h refl)

  at-end : (e : ℕ) → e ≡ length s → shut (token_at ns s) (length s) onward 0 e (token_at ns s e) ≡ fits
  unfolding shut end_by
  at-end e h = rw (nothing e (omega arith), eq-eqb e (length s) h)

  whole_run : (x : TypeAt) → then_run x (λ e. shut (token_at ns s) (length s) onward 0 e (token_at ns s e)) ≡ judged (and_then x (ends_at (length s)))
  unfolding then_run and_then ends_at judged
  whole_run (got t e) = end (eqb e (length s)) refl
    where
      end : (b : Bool) → eqb e (length s) ≡ b → shut (token_at ns s) (length s) onward 0 e (token_at ns s e) ≡ judged (pick b (got t e) (malformed e))
      end true h = at-end e (eqb-true e (length s) h)
      end false h = other-end e (token_at ns s e) (λ k. h)
  whole_run (malformed p) = refl
  whole_run (deep p) = refl

  -- the reader accepts where the rule lets a text end, and refuses where and as the rule refuses
  pub place_rule : judged (parse ns s) ≡ verdict ns s
  unfolding parse product_of verdict go
  place_rule =
      sym (whole_run (product_by (operand_of 33 ns s) (token_at ns s) (length s) 0))
      ∙ sym (product-run (token_at ns s) (length s) onward nothing 0 (operand_of 33 ns s) (λ r. operand-run 33 0 r (omega arith)) (grows 33) 0)
      ∙ ap (λ (f : ℕ). run_by (token_at ns s) (length s) (suc f) 0 (due 0)) (let z : length s - 0 ≡ length s = omega arith in z)
