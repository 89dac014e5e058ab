use Rattle.std.proofs.Common.{◌≡◌, ◌≢◌, Err, refl, sym, arith, ◌∙◌, rules}
use Rattle.unification.specs.Code.{take-inside, take_left}
use Rattle.unification.proofs.CodeLaws.{unify-left, unify-same, unify-differ, unify-bind, unify-one}
use Rattle.unifier.specs.declared.Verdict.TheVariants.{Done}
use Rattle.unifier.proofs.Laws.{asks, unify-halted, unify-left-halted, unify-left-ended, unify-left-done}
use Rattle.unifier.proofs.+join.Goals as goal

pub loop-v-init : goal.loop-v-init
loop-v-init t c = (refl, omega arith)

pub returns-in_err-take_up : goal.returns-in_err-take_up
returns-in_err-take_up t c =
    let r : c.from_residual.result ≡ Err c.in_err-take_up.field-0.0 = grind arith in
    rw r (unify-halted _ _ _ _ _ _ c.in_err-take_up.ensures ∙ c.loop-v.invariant.0)

pub returns-in-Same : goal.returns-in-Same
returns-in-Same t c = sym (unify-same _ _ _ _ _ _ (asks _ _ _ _ _ _ _ _ c.in_ok-take_up.ensures c.in-Same.is)) ∙ c.loop-v.invariant.0

pub returns-in-Clash : goal.returns-in-Clash
returns-in-Clash t c = sym (unify-differ _ _ _ _ _ _ (asks _ _ _ _ _ _ _ _ c.in_ok-take_up.ensures c.in-Clash.is)) ∙ c.loop-v.invariant.0

pub bind-requires : goal.bind-requires
bind-requires t c =
    let l = take-inside _ _ _ _ _ _ _ _ (asks _ _ _ _ _ _ _ _ c.in_ok-take_up.ensures c.in-Bind.is) in
    record { v_in_bounds = l.0.1; t_lt_count = l.1.0; t_in_bounds = l.1.1 }

pub returns-in-Bind : goal.returns-in-Bind
returns-in-Bind t c = c.bind.ensures ∙ sym (unify-bind _ _ _ _ _ _ _ _ (asks _ _ _ _ _ _ _ _ c.in_ok-take_up.ensures c.in-Bind.is)) ∙ c.loop-v.invariant.0

pub loop-v-smaller-in-One : goal.loop-v-smaller-in-One
loop-v-smaller-in-One t c = take_left _ _ _ _ _ _ _ (sym c.in_ok-take_up.ensures)

pub loop-v-preserved-in-One : goal.loop-v-preserved-in-One
loop-v-preserved-in-One t c = (
  sym (unify-one _ _ _ _ _ _ _ _ (asks _ _ _ _ _ _ _ _ c.in_ok-take_up.ensures c.in-One.is)) ∙ c.loop-v.invariant.0,
  omega (arith, take_left _ _ _ _ _ _ _ (sym c.in_ok-take_up.ensures), c.loop-v.invariant.1),
)

pub join-requires : goal.join-requires
join-requires t c = (omega (arith, take_left _ _ _ _ _ _ _ (sym c.in_ok-take_up.ensures), c.loop-v.invariant.1, c.decreases), tt)

pub returns-in_err-first-in-Two : goal.returns-in_err-first-in-Two
returns-in_err-first-in-Two t c =
    let r : c.from_residual-in_err-first-in-Two.result ≡ Err c.in_err-first-in-Two.field-0.0 = grind arith in
    rw r (unify-left-halted _ _ _ _ _ _ _ _ _ _ _ (asks _ _ _ _ _ _ _ _ c.in_ok-take_up.ensures c.in-Two.is) _ c.in_err-first-in-Two.ensures ∙ c.loop-v.invariant.0)

pub returns-then-ne : goal.returns-then-ne
returns-then-ne t c =
    let f : c.in_ok-first-in-Two.first ≢ Done = search rules in
    unify-left-ended _ _ _ _ _ _ _ _ _ _ _ (asks _ _ _ _ _ _ _ _ c.in_ok-take_up.ensures c.in-Two.is) _ _ f c.in_ok-first-in-Two.ensures ∙ c.loop-v.invariant.0

pub loop-v-smaller : goal.loop-v-smaller
loop-v-smaller t c = omega (arith, take_left _ _ _ _ _ _ _ (sym c.in_ok-take_up.ensures), unify-left _ _ _ _ _ _ _ (sym c.in_ok-first-in-Two.ensures))

pub loop-v-preserved : goal.loop-v-preserved
loop-v-preserved t c =
    let f : c.in_ok-first-in-Two.first ≡ Done = search rules in (
      unify-left-done _ _ _ _ _ _ _ _ _ _ _ (asks _ _ _ _ _ _ _ _ c.in_ok-take_up.ensures c.in-Two.is) c.in_ok-first-in-Two.first _ f c.in_ok-first-in-Two.ensures ∙ c.loop-v.invariant.0,
      omega (arith, take_left _ _ _ _ _ _ _ (sym c.in_ok-take_up.ensures), unify-left _ _ _ _ _ _ _ (sym c.in_ok-first-in-Two.ensures), c.loop-v.invariant.1),
    )
