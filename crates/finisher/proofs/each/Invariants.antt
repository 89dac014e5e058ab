use Rattle.std.proofs.Common.{◌≡◌, ◌-◌, ℕ}
use Rattle.machine.specs.Machine.{Mach}
use Rattle.machine.specs.Still.{Halted}
use Rattle.machine.specs.Seen.{machine, walked, Kept}
use Rattle.finisher.specs.Finisher.{each_of}
use Rattle.finisher.proofs.each.Given as goal

abbrev pub invariant-loop-j : goal.invariant-loop-j
invariant-loop-j g l = (f : ℕ → Mach → Mach) → ((j : ℕ) (m : Mach) → Halted m → f j m ≡ m) → ((w : _) (w' : _) (j : ℕ) (r : _) → goal.F-post g l.step w j r w' → (walked r w'.now ≡ f j (machine w.now)) × Kept w.now w'.now) → (each_of f (l.n - l.j) l.j (machine l.walk) ≡ each_of f l.n 0 (machine l.initial.walk)) × Kept l.initial.walk l.walk
