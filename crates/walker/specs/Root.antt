-- Assignments, and a whole formula.
use Rattle.std.specs.Prelude.{Option, Some, None, ℕ, zero, suc, ◌+◌, ◌-◌, ◌*◌, List}
use Rattle.types.specs.Limits.{max_depth, levels}
use Rattle.types.specs.declared.Place.{Place}
use Rattle.heads.specs.declared.Root.{Root}
use Rattle.heads.specs.declared.Root.TheVariants.{Expression, Predicate, Becomes, BecomesIn, BecomesSuch}
use Rattle.types.specs.Record.{reach}
use Rattle.heads.specs.Heads.{root_head}
use Rattle.forms.specs.Forms.{then}
use Rattle.machine.specs.Machine.{Mach, with_st, cell, word_of, placed_of, paid_of, make_of, expect_of}
use Rattle.machine.specs.Types.{declare_of, times_of}
use Rattle.walker.specs.Walk.{halts, expr_of, pred_of}

-- a target and its value
unfoldable pub pair_by : (Mach → Mach) → Mach → Mach
pair_by E m = then (E m) λ a. then (E a) λ b. expect_of b.st.last.0 a.st.last.0 b.st.from.0 b

abbrev pub pairs_of : List ℕ → List ℕ → ℕ → Mach → Mach
pairs_of s env n m = times_of (pair_by (expr_of max_depth s env)) n m

-- one target more: the product of what came before with it
unfoldable pub product_by : (Mach → Mach) → Mach → Mach
product_by E m = then (E m) λ a. make_of 0x44 m.st.last.0 a.st.last.0 a

abbrev pub products_of : List ℕ → List ℕ → ℕ → Mach → Mach
products_of s env n m = times_of (product_by (expr_of max_depth s env)) (n - 1) m

-- a set against the power of what was walked last
unfoldable pub belongs_of : List ℕ → List ℕ → Mach → Mach
belongs_of s env m =
    then (make_of 0x43 m.st.last.0 0 m) λ c.
    then (expr_of max_depth s env c) λ d.
    expect_of d.st.last.0 c.st.last.0 d.st.from.0 d

unfoldable pub becomes_in_of : List ℕ → List ℕ → ℕ → Mach → Mach
becomes_in_of s env n m =
    then (expr_of max_depth s env m) λ a.
    then (products_of s env n a) λ b.
    belongs_of s env b

abbrev pub targets_of : List ℕ → List ℕ → ℕ → Mach → Mach
targets_of s env n m = times_of (expr_of max_depth s env) n m

-- declaration i against target i, of n: their references stand in the slots
unfoldable pub share_by : ℕ → ℕ → ℕ → ℕ → Mach → Mach
share_by first n p i m =
    then (word_of (cell 0 2 first (i * 2)) m) λ x.
    then (word_of (cell 0 2 first ((n + i) * 2)) m) λ y.
    expect_of y x p m

unfoldable pub shares_from : ℕ → ℕ → ℕ → ℕ → ℕ → Mach → Mach
shares_from first n p zero i m = m
shares_from first n p (suc k) i m = shares_from first n p k (i + 1) (share_by first n p i m)

unfoldable pub shares_of : ℕ → ℕ → ℕ → Mach → Mach
shares_of first n p m = then n λ u. shares_from first u p (u - 0) 0 m

unfoldable pub such_that_of : List ℕ → List ℕ → ℕ → ℕ → ℕ → Mach → Mach
such_that_of s env first n p m = then (shares_of first n p m) λ c. pred_of max_depth s env c

unfoldable pub becomes_such_of : List ℕ → List ℕ → ℕ → ℕ → Mach → Mach
becomes_such_of s env n p m =
    then (targets_of s env n m) λ a.
    then (declare_of s env n a) λ b.
    such_that_of s env m.st.slots n p b

-- an assignment, once it is paid: the machine stands at its first target, and f does the rest
abbrev pub assigned_by : (Mach → Mach) → Place → Mach → Mach
assigned_by f e m =
    then (paid_of m.st) λ v.
    then (placed_of e.0 v) λ w. f (with_st w m)

-- a formula by its head
unfoldable pub root_by : List ℕ → List ℕ → Option Root → Mach → Mach
root_by s env None m = halts m
root_by s env (Some Expression) m = expr_of levels s env m
root_by s env (Some Predicate) m = pred_of levels s env m
root_by s env (Some (Becomes n e)) m = assigned_by (pairs_of s env n) e m
root_by s env (Some (BecomesIn n e)) m = assigned_by (becomes_in_of s env n) e m
root_by s env (Some (BecomesSuch n e)) m = assigned_by (becomes_such_of s env n m.st.at.0) e m

unfoldable pub formula_of : List ℕ → List ℕ → Mach → Mach
formula_of s env m = then (root_head (reach s) m.st.at) λ h. root_by s env h m
