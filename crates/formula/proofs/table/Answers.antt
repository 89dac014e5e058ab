use Rattle.formula.specs.EnvSteps.{Going, entered_at, going_start, turn-next, told_end, told_wrong, told_long, told_whole}
use Rattle.formula.specs.Parse.{Parsed}
use Rattle.formula.specs.Environment.{Entries}
use Rattle.formula.specs.declared.Entered.{Entered}
use Rattle.types.specs.Record.{reach}
use Rattle.heads.specs.Heads.{place}
use Rattle.std.proofs.Common.{ℕ, ◌+◌, ◌<◌, ◌≤◌, ◌≡◌, List, length, get_or, set, min, Ok, Fits, w8, arith, sym, ◌∙◌, rules}
use Rattle.std.proofs.lemmas.Result.{err_from_is_err_and}
use Rattle.formula.proofs.table.Goals as goal

-- one turn, from what the code knows there
turned : (names n : ℕ) (s : List ℕ) (all : Parsed Entries) (cells : List ℕ) (p : ℕ) → Going n s all cells p → p < length s → n ≡ min names 256 → ((i : ℕ) → Fits w8 (get_or s i 0)) → length s ≤ 16384 → (x : Entered) → entered_at n (reach s) cells (place p) ≡ Ok x → (x.name < 256) × (x.at.0 ≤ 16384) × (p < x.end.0) × Going n s all (set cells x.name (x.at.0 + 1)) x.end.0
turned names n s all cells p g l e bytes short x k =
    let h = turn-next n s all cells p g l (omega arith) (λ i. let z = bytes i in omega arith) short x k in
    let i = h.0 in let j = h.1 in (omega arith, omega arith, h.2, h.3)

pub returns-then-s-gt-MAX_BYTES : goal.returns-then-s-gt-MAX_BYTES
returns-then-s-gt-MAX_BYTES c = sym (told_long _ _ (omega (arith, c.if-s-gt-MAX_BYTES.true)))

pub loop-at-init : goal.loop-at-init
loop-at-init c = going_start _ _

pub overflow_add-types : goal.overflow_add-types
overflow_add-types c = let h = turned _ _ _ _ _ _ c.loop-at.invariant c.loop-at-test.true c.min-names.ensures c.type_inv.s c.if-s-gt-MAX_BYTES.false _ (sym c.read_entry.ensures ∙ c.in_ok-entered.was) in let i = h.1 in search rules

pub bounds-types-from : goal.bounds-types-from
bounds-types-from c = let h = turned _ _ _ _ _ _ c.loop-at.invariant c.loop-at-test.true c.min-names.ensures c.type_inv.s c.if-s-gt-MAX_BYTES.false _ (sym c.read_entry.ensures ∙ c.in_ok-entered.was) in let i = h.0 in omega (arith, c.from.ensures)

pub loop-at-smaller : goal.loop-at-smaller
loop-at-smaller c = let h = turned _ _ _ _ _ _ c.loop-at.invariant c.loop-at-test.true c.min-names.ensures c.type_inv.s c.if-s-gt-MAX_BYTES.false _ (sym c.read_entry.ensures ∙ c.in_ok-entered.was) in let i = h.2 in omega (arith, c.loop-at-test.true)

pub loop-at-preserved : goal.loop-at-preserved
loop-at-preserved c = rw c.from.ensures (turned _ _ _ _ _ _ c.loop-at.invariant c.loop-at-test.true c.min-names.ensures c.type_inv.s c.if-s-gt-MAX_BYTES.false _ (sym c.read_entry.ensures ∙ c.in_ok-entered.was)).3

pub returns-in_err-entered : goal.returns-in_err-entered
returns-in_err-entered c =
    let n = c.min-names.ensures in
    let p = err_from_is_err_and c.from_residual.result c.from_residual.ensures.1 in
    rw (p.1, p.2) (told_wrong _ _ _ _ _ c.loop-at.invariant c.loop-at-test.true (omega arith) (λ i. let z = c.type_inv.s i in omega arith) c.if-s-gt-MAX_BYTES.false _ (sym c.read_entry.ensures ∙ c.in_err-entered.was)
    ∙ told_whole _ _ _ c.min-names.ensures c.if-s-gt-MAX_BYTES.false)

pub returns : goal.returns
returns c = told_end _ _ _ _ _ c.loop-at.invariant c.loop-at-test.false ∙ told_whole _ _ _ c.min-names.ensures c.if-s-gt-MAX_BYTES.false
