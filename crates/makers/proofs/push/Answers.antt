use Rattle.std.proofs.Common.{sym, arith}
use Rattle.unification.specs.Good.{push_at}
use Rattle.unification.specs.Make.{make-done, make_full, make-past, make-last}
use Rattle.makers.proofs.push.Goals as goal

pub returns-then-words-at : goal.returns-then-words-at
returns-then-words-at c = sym (make-past _ _ _ _ _ c.if-words-at.true)

pub returns-then-words-at-lt3 : goal.returns-then-words-at-lt3
returns-then-words-at-lt3 c = sym (make_full _ _ _ _ _ c.if-words-at.false (omega (arith, c.if-words-at-lt3.true, c.if-words-at.false)))

pub returns-then-count-eq4294967295 : goal.returns-then-count-eq4294967295
returns-then-count-eq4294967295 c = sym (make-last _ _ _ _ _ (omega (arith, c.if-words-at-lt3.false, c.if-words-at.false)) (omega (arith, c.if-count-eq4294967295.true)))

pub returns : goal.returns
unfolding push_at
returns c = sym (make-done _ _ _ _ _ (omega (arith, c.if-words-at-lt3.false, c.if-words-at.false)) (omega (arith, c.if-count-eq4294967295.false)))
