-- Row 2 of the table: the sizes. `sized-holds` reads the test as its six conditions; a stream inside them is never too long to be read.
-- Theorems that rest on what must-fail edits change stand in proofs/Sizes.antt.
use Rattle.std.specs.Prelude.{ℕ, zero, suc, ◌+◌, ◌*◌, ◌≤◌, ◌≡◌, Bool, true, false, List, [], ◌∷◌, ◌++◌, ltb, length, Option, Some, None}
use Rattle.std.proofs.Common.{sym, ◌∙◌, ap, subst, le-ltb}
use Rattle.types.specs.declared.Place.{Place}
use Rattle.types.specs.Record.{TypeAt, got, malformed, deep, type_at}
use Rattle.formula.specs.Environment.{Entry, lacks, holds, Entries, lookup}
use Rattle.heads.specs.Heads.{pick, place}
use Rattle.types.specs.Limits.{max_bytes, max_depth, max_names, max_capacity, book}
use Rattle.formula.specs.Reader.{Got, ok, bad}
use Rattle.formula.specs.Parse.{Parsed, parsed, too_long, faulty, parsed_by, whole, parse_of}
use Rattle.formula.specs.EnvParse.{entry_at, typed_by, fresh_by, entry_by, entries_from, capped, environment_of}

-- ---- the sizes of row 2: lengths of formula and environment, count of names, capacity, length of the work slice
pub record Sized (formula environment names capacity work : ℕ) : Type 0 where
  pub formula_short : formula ≤ max_bytes
  pub environment_short : environment ≤ max_bytes
  pub names_few : names ≤ max_names
  pub capacity_some : 1 ≤ capacity
  pub capacity_small : capacity ≤ max_capacity
  pub work_long : 3 * capacity + book ≤ work

-- ---- what is read is too long only past the limit
abbrev Short : {A : Type 0} → Parsed A → Type 0
Short (parsed a) = Unit {0}
Short too_long = ⊥
Short (faulty f) = Unit {0}

short-pick : {A : Type 0} (c : Bool) (x y : Parsed A) → Short x → Short y → Short (pick c x y)
short-pick true x y h g = h
short-pick false x y h g = g

past-limit : {A : Type 0} (n : ℕ) (x : Parsed A) → Short x → pick (ltb max_bytes n) too_long x ≡ too_long → n ≤ max_bytes → ⊥
past-limit {A = A} n x h e l = subst {A = Parsed A} Short (sym (ap (λ (c : Bool). pick c too_long x) (le-ltb max_bytes n l)) ∙ e) h

short-got : {A : Type 0} (g : Got A) → Short (parsed_by g)
unfolding parsed_by
short-got (ok st a) = tt
short-got (bad f) = tt

pub long-formula : (names : ℕ) (s : List ℕ) → parse_of names s ≡ too_long → length s ≤ 16384 → ⊥
unfolding parse_of
long-formula names s e l = past-limit (length s) (parsed_by (whole names s)) (short-got (whole names s)) e l

module _ (names : ℕ) (s : List ℕ) (k : Entries → ℕ → Parsed Entries) (h : (es : Entries) (p : ℕ) → Short (k es p)) where
  short-typed : (seen : Entries) (n : ℕ) (t : TypeAt) → Short (typed_by k seen n t)
  unfolding typed_by
  short-typed seen n (got t f) = h (seen ++ ((n, t) ∷ [])) f
  short-typed seen n (malformed q) = tt
  short-typed seen n (deep q) = tt

  short-fresh : (seen : Entries) (p n : ℕ) (e : Place) (x : Entry) → Short (fresh_by names s k seen p n e x)
  unfolding fresh_by
  short-fresh seen p n e (holds t) = tt
  short-fresh seen p n e lacks = short-typed seen n (type_at max_depth names s e.0)

  short-entry : (seen : Entries) (p : ℕ) (w : Option (ℕ × Place)) → Short (entry_by names s k seen p w)
  unfolding entry_by
  short-entry seen p None = tt
  short-entry seen p (Some (n, e)) = short-fresh seen p n e (lookup seen n)

short-entries : (turns names : ℕ) (s : List ℕ) (seen : Entries) (p : ℕ) → Short (entries_from turns names s seen p)
unfolding entries_from
short-entries zero names s seen p = short-pick (ltb p (length s)) _ _ tt tt
short-entries (suc turns) names s seen p = short-pick (ltb p (length s)) _ _ (short-entry names s (λ es q. entries_from turns names s es q) (λ es q. short-entries turns names s es q) seen p (entry_at names s (place p))) tt

pub long-environment : (names : ℕ) (s : List ℕ) → environment_of names s ≡ too_long → length s ≤ 16384 → ⊥
unfolding environment_of
long-environment names s e l = past-limit (length s) (entries_from (length s) (capped names) s [] 0) (short-entries (length s) (capped names) s [] 0) e l
