-- `type_end` is `end_at` on the bytes that places can number.
use Rattle.std.proofs.Common.{sym, ap, rules, ◌∙◌}
use Rattle.types.specs.Record.{reach}
use Rattle.types.specs.Code.{end_of}
use Rattle.types.specs.Steps.{in_reach, taken, taken-all}
use Rattle.types.proofs.type_end.Goals as goal

pub slice_bounds-end_at-end : goal.slice_bounds-end_at-end
slice_bounds-end_at-end c = taken-all 4294967295 c.args.s.now c.if-s.true

pub end_at-requires : goal.end_at-requires
end_at-requires c = taken 4294967295 c.args.s.now

pub returns-then-s : goal.returns-then-s
unfolding reach
returns-then-s c = search rules

pub returns : goal.returns
returns c = c.end_at-2.ensures ∙ ap end_of (sym (in_reach _ _ _ _ (search rules)))
