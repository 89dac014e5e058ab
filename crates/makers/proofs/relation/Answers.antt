use Rattle.std.proofs.Common.{ℕ, ◌≡◌, Result, Err, arith, ◌∙◌, sym}
use Rattle.std.proofs.lemmas.Result.{err_from_is_err_and}
use Rattle.meter.specs.Meter.{full, broken}
use Rattle.unification.specs.Arena.{Words, pair}
use Rattle.unification.specs.Make.{build, relate, relate-done, relate-stop, build-small}
use Rattle.makers.specs.declared.MakeError.{MakeError}
use Rattle.makers.specs.declared.MakeError.TheVariants.{Full, Broken}
use Rattle.makers.specs.Answers.{made}
use Rattle.makers.proofs.relation.Goals as goal

relate-error : (ws ws' : Words) (n x y : ℕ) (e : MakeError) → made (Err e) ws' ≡ build ws n (pair x y) → made (Err e) ws' ≡ relate ws n x y
relate-error ws ws' n x y Full h = sym (relate-stop ws n x y full ws' (sym h))
relate-error ws ws' n x y Broken h = sym (relate-stop ws n x y broken ws' (sym h))

pub returns-in_err-product : goal.returns-in_err-product
returns-in_err-product c = let p = err_from_is_err_and c.from_residual.result c.from_residual.ensures.1 in rw (p.1, p.2) (relate-error _ _ _ _ _ _ c.in_err-product.ensures)

pub overflow_add-product : goal.overflow_add-product
overflow_add-product c = omega (arith, (build-small _ _ _ _ _ (sym c.in_ok-product.ensures)).1)

pub returns : goal.returns
returns c = c.pow.ensures ∙ sym (relate-done _ _ _ _ _ _ (sym c.in_ok-product.ensures))
