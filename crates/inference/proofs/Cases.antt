-- The theorems of specs/Cases.antt: `auditors_table`, `two-unknowns-answered`.
use Rattle.std.specs.Prelude.{refl, [], ◌∷◌}
use Rattle.meter.specs.Meter.{ret, fail, tick, on, ◌>>=◌, at_e, reading, mapped, iter, run, forget_e, forget}
use Rattle.types.specs.Ty.{spell_atom, spell}
use Rattle.types.specs.Record as R
use Rattle.types.specs.Record.{type_at, type_by, head_of, given_of}
use Rattle.formula.specs.Environment.{first, lookup, spell_entry, spell_entries}
use Rattle.formula.specs.Tree.{place}
use Rattle.heads.specs.Heads.{byte_of, byte_at, on_part, word_at, name_at, op_at, count_at, few_at, expr_body, expr_head, pred_body, pred_head, decl_body, decl_head, target_at}
use Rattle.formula.specs.Reader.{and_then, on_next, many, moved, own_of, declare_of, closed, closing, type_got, type_in, read_no_type, spelled_in, spelling_in}
use Rattle.formula.specs.Parse.{decl_by, decl_if, decl_at, decls_at, expr_by, pred_by, expr_if, pred_if, expr_deep, pred_deep, expr_at, pred_at, target_by, target_in, pair_in, targets_at, pairs_at, becomes_by, becomes_at, root_by, formula_at, finish, whole, parsed_by, parse_of}
use Rattle.formula.specs.EnvParse.{entry_at, typed_by, fresh_by, entry_by, entries_from, capped, environment_of}
use Rattle.unification.specs.Arena.{inside, node_at, bind_at, choose, follow, resolve_f, resolve, in_node, occurs_f, occurs, all_node, solved_f, solved, type_node, read_f, read, same_atom, verdict_of, meet, bound, assign, next, meeting, unify_at, unify_f, unify}
use Rattle.unification.specs.Arena as Un
use Rattle.unification.specs.Good.{push_at}
use Rattle.unification.specs.Ops as Ops
use Rattle.unification.specs.Ops.{grow, learn, complain, exec}
use Rattle.typing.specs.Equations.{first_of, look}
use Rattle.walk.specs.Writer as W
use Rattle.walk.specs.Writer.{found, find, glue, enter, own, node, same, problem, enrol}
use Rattle.walk.specs.Scripts.{pick, play, perform, three, scripted, atomic_scripts, binary_scripts, unary_scripts, quantified_scripts, relational_scripts, associative_scripts}
use Rattle.walk.specs.Walk as K
use Rattle.walk.specs.Walk.{relation, stepped, last, gather, atom, lift, from_env, known, counted, over, name, note_of, notes, meets, spelled, claim, at_decl, declare, ascription, expr, script_of, walk, walk_formula, walked}
use Rattle.walk.specs.Verdict.{start}
use Rattle.inference.specs.Answer.{two, four, spell_problem, spell_problems, spell_slot, spell_slots, refused, written}
use Rattle.inference.specs.Finish as F
use Rattle.inference.specs.Finish.{finding, test, noted, ask, ask_name, names, slots, settled, test_slots, walk_problems}
use Rattle.inference.specs.Infer.{either, sized, concluded, fitting, answer, answered, blamed, formed, infer_of}
use Rattle.inference.specs.Cases.{Case, cases, Answered}

-- beside the table: {x} = ∅, in which an unknown of rank 1 meets one of rank 0 that stands to its right
abbrev two_unknowns : Case
two_unknowns = record {
  formula = 0x22 ∷ 0x00 ∷ 0x05 ∷ 0x01 ∷ 0x00 ∷ 0x01 ∷ 0x00 ∷ 0x00 ∷ 0x04 ∷ 0x08 ∷ [];
  environment = [];
  capacity = 2048;
  budget = 1000;
  answer = written 1 11 (0x60 ∷ 0x03 ∷ 0x05 ∷ 0x00 ∷ 0x00 ∷ 0x00 ∷ 0x00 ∷ 0x00 ∷ []);
}

computed : Answered cases × Answered (two_unknowns ∷ [])
unfolding ret fail tick on ◌>>=◌ at_e reading iter run forget_e forget spell_atom spell first lookup spell_entry spell_entries place byte_of byte_at on_part word_at name_at op_at count_at few_at expr_body expr_head pred_body pred_head decl_body decl_head target_at and_then on_next many moved own_of declare_of closed closing type_got type_in read_no_type spelled_in spelling_in decl_by decl_if decl_at decls_at expr_by pred_by expr_if pred_if expr_deep pred_deep expr_at pred_at target_by target_in pair_in targets_at pairs_at becomes_by becomes_at root_by formula_at finish whole inside node_at bind_at Un.unknown Un.rank_at Un.below Un.level Un.raised Un.merge_at choose follow resolve_f resolve in_node occurs_f occurs all_node solved_f solved type_node read_f read same_atom verdict_of meet bound assign next meeting unify_at unify_f unify push_at Ops.noted grow learn complain exec mapped first_of look W.done W.◌>>=◌ found find glue enter own node same problem enrol pick play perform three scripted atomic_scripts binary_scripts unary_scripts quantified_scripts relational_scripts associative_scripts relation stepped last gather atom lift from_env known counted over name note_of notes meets spelled claim at_decl declare ascription expr script_of walk K.forget walk_formula walked start two four spell_problem spell_problems spell_slot spell_slots refused written parsed_by parse_of entry_at typed_by fresh_by entry_by entries_from capped environment_of finding test noted ask ask_name names slots settled test_slots walk_problems F.finish either sized concluded fitting answer answered blamed formed infer_of type_at type_by head_of R.and_then given_of
computed = ((refl, (refl, (refl, (refl, (refl, (refl, (refl, (refl, (refl, (refl, (refl, (refl, (refl, (refl, tt)))))))))))))), (refl, tt))

pub auditors_table : Answered cases
auditors_table = computed.0

pub two-unknowns-answered : Answered (two_unknowns ∷ [])
two-unknowns-answered = computed.1
