-- The theorems of specs/Exact.antt: `spelled-is-parsed`, `parsed-is-spelled`, `spelled_once`, `good-is-spelled`, `spelled-is-good`.
use Rattle.std.specs.Prelude.{ℕ, ◌≤◌, ◌<◌, Bool, length, get_or, Ok}
use native.Mathlib.Omega.{arith}
use Rattle.std.proofs.Math.Path.{◌≡◌, refl, ap}
use Rattle.std.proofs.Common.{sym, ◌∙◌, le-ltb, ltb-false}
use Rattle.std.proofs.Math.Bool.{true, false}
use mathlib.Core.List.{List, [], ◌++◌, append-nil}
use Rattle.std.proofs.Math.ListN.{drop, drop_of_length-le}
use Rattle.std.proofs.Math.Dec.{ltb}
use Rattle.formula.specs.Tree.{Formula}
use Rattle.formula.specs.Spell.{spell_formula, size_formula}
use Rattle.heads.specs.Heads.{pick}
use Rattle.formula.specs.Reader.{Got, ok, bad, and_then}
use Rattle.formula.specs.Parse.{formula_at, start, finish, whole, Parsed, parsed, too_long, faulty, parsed_by, parse_of, form_of}
use Rattle.types.specs.Limits.{max_bytes}
use Rattle.formula_laws.specs.Fits.{FitsFormula}
use Rattle.formula_laws.specs.Sizes.{length-formula}
use Rattle.formula_laws.specs.Sound.{Holds, FormulaRead}
use Rattle.formula_laws.proofs.Sound.{sound-formula}
use Rattle.formula_laws.proofs.Complete.{formula-here}
use Rattle.formula_laws.specs.Exact.{Spelled}

pub spelled-is-parsed : (names : ℕ) (s : List ℕ) (a : Formula) → Spelled names s a → parse_of names s ≡ parsed a
unfolding parse_of whole and_then finish parsed_by
spelled-is-parsed names s a w =
    let h = formula-here names s a w.fits w.placed (w.bytes ∙ sym (append-nil (spell_formula a))) in
    let l : length s ≡ size_formula a = ap length w.bytes ∙ length-formula a in
    rw (le-ltb max_bytes (length s) w.short, h.1, le-ltb (size_formula a) (length s) (omega arith))

module _ (names : ℕ) (s : List ℕ) (bytes : (i : ℕ) → get_or s i 0 < 256) (a : Formula) where
  whole-spelled : (g : Got Formula) → Holds (λ t b. FormulaRead names s bytes start b t) g → length s ≤ max_bytes → parsed_by (and_then g λ f st. finish s st f) ≡ parsed a → Spelled names s a
  unfolding Holds and_then finish parsed_by FitsFormula
  whole-spelled (bad f) h l e = absurd (let z : ◌≡◌ {A = ℕ} 0 1 = cc in omega arith)
  whole-spelled (ok st b) h l e = go (ltb st.at.0 (length s)) refl e
    where
      go : (c : Bool) → ltb st.at.0 (length s) ≡ c → parsed_by (pick c (bad (Rattle.types.specs.declared.Fault.TheVariants.Malformed st.at)) (ok st b)) ≡ parsed a → Spelled names s a
      go true k e = absurd (let z : ◌≡◌ {A = ℕ} 0 1 = cc in omega arith)
      go false k e =
          let i : b ≡ a = cc in
          let end : drop st.at.0 s ≡ [] = drop_of_length-le s (ltb-false st.at.0 (length s) k) in
          let o = h.owns in
          let m = h.limit (omega arith) in
          rw (← i) (record { short = l; bytes = h.stand.bytes ∙ ap (λ (x : List ℕ). spell_formula b ++ x) end ∙ append-nil (spell_formula b); placed = h.placed; fits = (omega arith, h.fits) })

  pub parsed-is-spelled : parse_of names s ≡ parsed a → Spelled names s a
  unfolding parse_of whole
  parsed-is-spelled e = go (ltb max_bytes (length s)) refl e
    where
      go : (c : Bool) → ltb max_bytes (length s) ≡ c → pick c too_long (parsed_by (and_then (formula_at names s start) λ f st. finish s st f)) ≡ parsed a → Spelled names s a
      go true k e = absurd (let z : ◌≡◌ {A = ℕ} 0 1 = cc in omega arith)
      go false k e = whole-spelled (formula_at names s start) (sound-formula names s bytes start refl) (ltb-false max_bytes (length s) k) e

-- one formula at most
pub spelled_once : (names : ℕ) (s : List ℕ) (a b : Formula) → Spelled names s a → Spelled names s b → a ≡ b
spelled_once names s a b v w =
    let h = spelled-is-parsed names s a v in
    let k = spelled-is-parsed names s b w in
    let e : parsed a ≡ parsed b = sym h ∙ k in
    cc

-- Good exactly where the stream spells a formula
good-parsed : (x : Parsed Formula) → form_of x ≡ Ok tt → (a : Formula) × (x ≡ parsed a)
unfolding form_of
good-parsed (parsed a) e = (a, refl)
good-parsed too_long e = absurd (let z : ◌≡◌ {A = ℕ} 0 1 = cc in omega arith)
good-parsed (faulty f) e = absurd (let z : ◌≡◌ {A = ℕ} 0 1 = cc in omega arith)

pub good-is-spelled : (names : ℕ) (s : List ℕ) → ((i : ℕ) → get_or s i 0 < 256) → form_of (parse_of names s) ≡ Ok tt → (a : Formula) × Spelled names s a
good-is-spelled names s bytes e =
    let h = good-parsed (parse_of names s) e in
    (h.0, parsed-is-spelled names s bytes h.0 h.1)

pub spelled-is-good : (names : ℕ) (s : List ℕ) (a : Formula) → Spelled names s a → form_of (parse_of names s) ≡ Ok tt
unfolding form_of
spelled-is-good names s a w = rw (spelled-is-parsed names s a w)
