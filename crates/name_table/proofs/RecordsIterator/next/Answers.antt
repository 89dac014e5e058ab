-- `next` takes the first record off what is left.
use Rattle.std.proofs.Common.{arith, length, ap}
use Rattle.name_table.specs.Steps.{record-first, records-none}
use Rattle.name_table.proofs.RecordsIterator.next.Goals as goal

pub returns-in_err-kind-clause-steps : goal.returns-in_err-kind-clause-steps
returns-in_err-kind-clause-steps c = rw c.from_residual.ensures (records-none _ c.in_err-kind.ensures.cases, records-none _ c.in_err-kind.ensures.cases)

pub returns-clause-steps : goal.returns-clause-steps
returns-clause-steps c = record-first _ _ c.in_ok-kind.rest.now _ _ _ c.in_ok-kind.ensures.cases.0 (rw (c.min.ensures, c.saturating_sub.ensures, c.from.ensures)) c.split_at.ensures.front c.split_at.ensures.back

pub returns-clause-goes : goal.returns-clause-goes
returns-clause-goes c =
    let first = record-first _ _ c.in_ok-kind.rest.now _ _ _ c.in_ok-kind.ensures.cases.0 (rw (c.min.ensures, c.saturating_sub.ensures, c.from.ensures)) c.split_at.ensures.front c.split_at.ensures.back in
    record { on = λ _. (tt, tt, omega (arith, ap length first)); keeps = tt; rests = λ _. tt }
