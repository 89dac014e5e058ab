-- The theorems of specs/FaultPlace.antt, whose head says what they give: `fault_completes`, `faulty-none`.
use Rattle.types.specs.declared.Place.{Place}
use Rattle.std.specs.Prelude.{ℕ, ◌+◌, ◌≤◌, ◌<◌, refl, Bool, List, [], ◌∷◌, ◌++◌, length, get_or, take, drop, ltb}
use Rattle.std.proofs.Common.{arith, ap, ◌∙◌, append-nil, length-append, take_at}
use Rattle.std.proofs.Math.Path.{◌≡◌, sym}
use Rattle.std.proofs.Math.Bool.{true, false}
use Rattle.types.specs.declared.Fault.{Fault}
use Rattle.types.specs.declared.Fault.TheVariants.{Malformed, Beyond}
use Rattle.formula.specs.Tree.{Target, Expr, Formula, expression, predicate, becomes, becomes_in, becomes_such, decls}
use Rattle.formula.specs.Spell.{spell_formula}
use Rattle.heads.specs.Heads.{pick}
use Rattle.formula.specs.Reader.{Got, ok, bad, and_then}
use Rattle.formula.specs.Parse.{formula_at, start, finish, whole, parsed, too_long, faulty, parsed_by, parse_of}
use Rattle.types.specs.Limits.{max_bytes}
use Rattle.formula_laws.specs.Fits.{FitsPairs, FitsRoot}
use Rattle.formula_laws.specs.Sound.{Holds, FormulaRead}
use Rattle.formula_laws.proofs.Sound.{sound-formula}
use Rattle.formula_laws.specs.Exact.{Spelled}
use Rattle.formula_laws.proofs.Exact.{spelled-is-parsed}
use Rattle.formula_laws.specs.Shape.{ShapePairs, ShapeFormula, fits-targets}
use Rattle.formula_laws.proofs.Shape.{fits-decls, fits-shape, fits_pred}
use Rattle.formula_laws.specs.Faults.{UpTo, Fails, FormulaUp}
use Rattle.formula_laws.proofs.Faults.{formula-fails}
use Rattle.formula_laws.specs.FaultPlace.{Completes, fault_place}

from_start : (names : ℕ) (s : List ℕ) (q : ℕ) (a : Formula) → ShapeFormula names a → UpTo s 0 q (spell_formula a) → Completes names s q
from_start names s q a h u =
    let e = u.stand.ends in
    let b : s ≡ u.read ++ drop q s = u.stand.bytes in
    let l : length s ≡ length u.read + length (drop q s) = ap length b ∙ length-append u.read (drop q s) in
    let t : take q s ≡ u.read = ap (take q) b ∙ take_at u.read (drop q s) q (let z : length u.read ≡ q = omega arith in z) in
    record { formula = a; more = u.rest; shape = h; bytes = ap (λ (x : List ℕ). x ++ u.rest) t ∙ sym u.word; inside = omega arith }

fits-pairs : (names : ℕ) (xs : List (Target × Expr)) → FitsPairs names xs → ShapePairs names xs
unfolding FitsPairs ShapePairs
fits-pairs names [] f = tt
fits-pairs names (x ∷ xs) f = (f.0, fits-shape x.1 names 1 0 f.1, fits-pairs names xs f.2)

pub fits-formula : (names : ℕ) (a : Formula) → FitsRoot names a → ShapeFormula names a
unfolding FitsRoot ShapeFormula
fits-formula names (expression a) f = fits-shape a names 0 0 f
fits-formula names (predicate a) f = fits_pred a names 0 0 f
fits-formula names (becomes p xs) f = (f.0, fits-pairs names xs f.1)
fits-formula names (becomes_in p t ts a) f = (f.0, fits-targets names ts f.1, fits-shape a names 1 0 f.2)
fits-formula names (becomes_such p ts ds a) f = (f.0, f.1, fits-targets names ts f.3, fits-decls names 1 ds f.4, fits_pred a names 1 (decls ds) f.5)

module _ (names : ℕ) (s : List ℕ) (some : 0x30 ≤ get_or s 0 0 → 0 < names) (bytes : (i : ℕ) → get_or s i 0 < 256) (f : Fault Place) where
  by-fault : (g : Fault Place) → Fails {A = Formula} (FormulaUp names s bytes start) (bad g) → g ≡ f → Completes names s (fault_place f)
  unfolding Fails FormulaUp fault_place
  by-fault (Malformed p) u e = rw (← e) (from_start names s p.0 u.0 u.1 u.2)
  by-fault (Beyond p) u e = rw (← e) (from_start names s p.0 u.0 u.1 u.2)

  whole_completes : (g : Got Formula) → Holds (λ t b. FormulaRead names s bytes start b t) g → Fails (FormulaUp names s bytes start) g → parsed_by (and_then g λ x st. finish s st x) ≡ faulty f → Completes names s (fault_place f)
  unfolding Holds and_then finish parsed_by fault_place
  whole_completes (bad g) h u e = by-fault g u (let z : g ≡ f = cc in z)
  whole_completes (ok st b) h u e = go (ltb st.at.0 (length s)) e
    where
      go : (c : Bool) → parsed_by (pick c (bad (Malformed st.at)) (ok st b)) ≡ faulty f → Completes names s (fault_place f)
      go true e =
          let z : Malformed st.at ≡ f = cc in
          rw (← z) (from_start names s st.at.0 b (fits-formula names b h.fits) (record { read = spell_formula b; rest = []; stand = h.stand; word = sym (append-nil (spell_formula b)) }))
      go false e = absurd (let z : ◌≡◌ {A = ℕ} 0 1 = cc in omega arith)

  pub fault_completes : parse_of names s ≡ faulty f → Completes names s (fault_place f)
  unfolding parse_of whole
  fault_completes e = go (ltb max_bytes (length s)) e
    where
      go : (c : Bool) → pick c too_long (parsed_by (and_then (formula_at names s start) λ x st. finish s st x)) ≡ faulty f → Completes names s (fault_place f)
      go true e = absurd (let z : ◌≡◌ {A = ℕ} 0 1 = cc in omega arith)
      go false e = whole_completes (formula_at names s start) (sound-formula names s bytes start refl) (formula-fails names s bytes start some) e

pub faulty-none : (names : ℕ) (s : List ℕ) (f : Fault Place) → parse_of names s ≡ faulty f → (a : Formula) → Spelled names s a → ⊥
faulty-none names s f e a w =
    let h = spelled-is-parsed names s a w in
    let k : faulty f ≡ parsed a = sym e ∙ h in
    let z : ◌≡◌ {A = ℕ} 0 1 = cc in
    omega arith
