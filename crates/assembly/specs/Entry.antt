-- The entry, put together: a call, step by step as the code goes, is the call that `infer_of` defines.
-- After this file `calls_infer` is all that the entry's proof needs: it speaks of bytes, lengths and the environment's table, and of nothing inside.
use Rattle.types.specs.declared.Place.{Place}
use Rattle.std.specs.Prelude.{ℕ, ◌+◌, ◌*◌, ◌≤◌, ◌<◌, ◌≡◌, Bool, true, false, List, [], ◌∷◌, eqb, length, take, get_or, Err}
use Rattle.std.proofs.Math.Path.{refl, sym}
use Rattle.std.proofs.Common.{◌∙◌, ap, subst, arith, length-take-le, le-ltb}
use Rattle.meter.specs.Meter.{Out, spent, halt, done, broken, full}
use Rattle.types.specs.Ty.{Ty, Below}
use Rattle.types.specs.Spellings.{bytes-at}
use Rattle.types.specs.declared.Fault.{Fault}
use Rattle.types.specs.declared.Fault.TheVariants as F
use Rattle.formula.specs.Environment.{holds, first, Entries, lookup}
use Rattle.formula.specs.EnvParse.{capped, environment_of, Table}
use Rattle.formula.specs.EnvSteps.{capped-most}
use Rattle.heads.specs.Heads.{pick}
use Rattle.types.specs.Limits.{max_names}
use Rattle.formula.specs.Parse.{Parsed, parsed, too_long, faulty, parse_of, form_of}
use Rattle.formula.specs.Tree.{Formula}
use Rattle.formula_laws.specs.Fits.{FitsTy}
use Rattle.formula_laws.specs.Exact.{Spelled}
use Rattle.formula_laws.proofs.Exact.{parsed-is-spelled}
use Rattle.formula_laws.specs.ExactEnvironment.{FitsEntries, SpelledEntries}
use Rattle.formula_laws.proofs.ExactEnvironment.{parsed-entries-spelled}
use Rattle.unification.specs.Arena.{U}
use Rattle.inference.specs.Answer as I
use Rattle.inference.specs.Answer.{refused, written}
use Rattle.inference.specs.Finish.{Outcome, typed, failed}
use Rattle.inference.specs.Infer.{either, sized, concluded, fitting, answer, answered, blamed, formed, infer_of, output_after, work_after}
use Rattle.inference.specs.Sizes.{Sized}
use Rattle.inference.proofs.Sizes.{sized-holds}
use Rattle.machine.specs.Machine.{Mach}
use Rattle.forms.specs.Forms.{then}
use Rattle.walker.specs.Root.{formula_of}
use Rattle.finisher.specs.Finisher.{most, finish_of, write_answer_of}
use Rattle.simulation.specs.Whole.{walk_ends}
use Rattle.conclusion.specs.Conclusion.{Concludes, concludes}
use Rattle.runner.specs.declared.Input.TheVariants as In
use Rattle.runner.specs.declared.Refusal.TheVariants.{Oversized}
use Rattle.runner.specs.Answers.{Answer, told, brief, called, call_of}
use Rattle.runner.specs.Run.{judged, run_of, judge_of, fault_of}
use Rattle.runner.specs.Calls.{closed, formula_call, environment_call}
use Rattle.assembly.specs.Start.{begun, begun_fresh, begun-budget}
use Rattle.assembly.specs.Says.{Says, judge_says, closed_call, cleared-long}

-- ---- entries whose types are below the count
held_below : (n : ℕ) (es : Entries) → FitsEntries n es → (x : ℕ) (t : Ty) → lookup es x ≡ holds t → Below n t
unfolding lookup FitsEntries FitsTy first
held_below n [] h x t e = let z : ◌≡◌ {A = ℕ} 0 1 = cc in absurd (omega arith)
held_below n (e ∷ es) h x t q = go (eqb e.0 x) q (held_below n es h.2 x t)
  where
    go : (c : Bool) → first c (holds e.1) (lookup es x) ≡ holds t → (lookup es x ≡ holds t → Below n t) → Below n t
    go true w rec = let y : e.1 ≡ t = cc in subst (Below n) y h.1.1
    go false w rec = rec w

few-capped : (names : ℕ) → names ≤ 256 → capped names ≡ names
unfolding capped
few-capped names l = ap (λ (c : Bool). pick c max_names names) (le-ltb max_names names l)

-- the length that an answer tells is that of its bytes
sized-either : (c : Bool) (number steps : ℕ) (bytes : List ℕ) → length (either c (written number steps bytes) (refused 8 0)).bytes ≡ (either c (written number steps bytes) (refused 8 0)).size
unfolding either written refused
sized-either true number steps bytes = refl
sized-either false number steps bytes = refl

told-size : (budget room : ℕ) (o : Out U Outcome) → length (answered budget room o).bytes ≡ (answered budget room o).size
unfolding answered fitting answer refused
told-size budget room (done (typed es ts) left) = sized-either _ _ _ _
told-size budget room (done (failed ps) left) = sized-either _ _ _ _
told-size budget room (spent e) = refl
told-size budget room (halt full e) = refl
told-size budget room (halt broken e) = refl

-- ---- a well-formed formula under a well-formed environment
module _ (s env types : List ℕ) (names cap budget : ℕ) (out work : List ℕ) (es : Entries) (f : Formula)
    (bs : (i : ℕ) → get_or s i 0 < 256) (be : (i : ℕ) → get_or env i 0 < 256) (ok : Sized (length s) (length env) names cap (length work)) (within : budget ≤ most)
    (e : environment_of names env ≡ parsed es) (g : parse_of names s ≡ parsed f) (table : Table (capped names) env es types) where
  abbrev lent : List ℕ
  lent = take (cap * 3 + 4096) work

  pub lent-long : length lent ≡ cap * 3 + 4096
  lent-long = length-take-le (cap * 3 + 4096) work (let l = ok.work_long in omega arith)

  abbrev start : Mach
  start = begun es env types cap budget lent out lent-long

  spelled : Spelled names s f
  spelled = parsed-is-spelled names s bs f g

  entries : SpelledEntries names env es
  entries = parsed-entries-spelled names env be es e

  low : (x : ℕ) (t : Ty) → lookup es x ≡ holds t → Below names t
  low x t q = subst (λ (n : ℕ). Below n t) (few-capped names ok.names_few) (held_below (capped names) es entries.fits x t q)

  pub run-says : Says (length out) (answered budget (length out) (concluded cap (lookup es) f budget)) (judge_of budget (finish_of (formula_of s env start)))
  run-says =
      let fresh = begun_fresh es env types cap budget lent out lent-long (capped names) (capped-most names) (bytes-at env be) table in
      let l = fresh.sized in
      let w = walk_ends (lookup es) env cap (length out) ok.capacity_small (let q = ok.environment_short in omega arith) s (let q = ok.formula_short in omega arith) names ok.names_few f start fresh spelled.fits spelled.placed spelled.bytes in
      let b = begun-budget es env types cap budget lent out lent-long in
      let c = concludes (lookup es) env cap (length out) names f (let q = ok.names_few in omega arith) low spelled.fits start (formula_of s env start) (omega arith) fresh.no_slots (omega arith) w in
      judge_says (length out) budget (finish_of (formula_of s env start)) (concluded cap (lookup es) f budget)
      (subst (λ (n : ℕ). Concludes (length out) (finish_of (formula_of s env start)) (write_answer_of (finish_of (formula_of s env start))) (concluded cap (lookup es) f n)) b c)

  -- the call that the code makes
  pub call_infers : length (judge_of budget (run_of s env types (cap * 3) budget (take (cap * 3 + 4096) work) out)).out ≡ length out
      → closed (judge_of budget (run_of s env types (cap * 3) budget (take (cap * 3 + 4096) work) out)) work ≡ call_of (answered budget (length out) (concluded cap (lookup es) f budget)) out work
  unfolding run_of then
  call_infers l =
      closed_call (answered budget (length out) (concluded cap (lookup es) f budget)) (judge_of budget (finish_of (formula_of s env start))) out work work run-says l refl (told-size budget (length out) (concluded cap (lookup es) f budget))

-- ---- refusals of form, and what cannot happen
oversized : (out work : List ℕ) → called (Err Oversized) out work ≡ call_of (refused 2 0) out work
unfolding called call_of told brief refused output_after work_after either
oversized out work = refl

blamed_call : (a : Answer) (i : I.Answer) (out work : List ℕ) → told a ≡ brief i → i.bytes ≡ [] → i.size ≡ 0 → (i.number ≡ 2 → ⊥) → closed (judged a out) work ≡ call_of i out work
blamed_call a i out work t b z n =
    closed_call i (judged a out) out work work (record { tells = t; holds = ap (λ (k : ℕ). take k out) z ∙ sym b; plain = n }) refl refl (ap length b ∙ sym z)

environment-blamed : (fault : Fault Place) (out work : List ℕ) → closed (judged (Err (fault_of In.Environment fault)) out) work ≡ call_of (blamed 3 fault) out work
unfolding blamed fault_of told brief refused
environment-blamed (F.Malformed p) out work = blamed_call _ (refused 3 p.0) out work refl refl refl (λ e. omega arith)
environment-blamed (F.Beyond p) out work = blamed_call _ (refused 5 p.0) out work refl refl refl (λ e. omega arith)

formula-blamed : (fault : Fault Place) (out work : List ℕ) → closed (judged (Err (fault_of In.Formula fault)) out) work ≡ call_of (blamed 4 fault) out work
unfolding blamed fault_of told brief refused
formula-blamed (F.Malformed p) out work = blamed_call _ (refused 4 p.0) out work refl refl refl (λ e. omega arith)
formula-blamed (F.Beyond p) out work = blamed_call _ (refused 5 p.0) out work refl refl refl (λ e. omega arith)

-- ---- the whole call
module _ (s env types : List ℕ) (names cap budget : ℕ) (out work : List ℕ)
    (bs : (i : ℕ) → get_or s i 0 < 256) (be : (i : ℕ) → get_or env i 0 < 256) (within : budget ≤ most)
    (table : (es : Entries) → environment_of names env ≡ parsed es → Table (capped names) env es types) where
  inner : Sized (length s) (length env) names cap (length work) → (pe : Parsed Entries) (pf : Parsed Formula) → environment_of names env ≡ pe → parse_of names s ≡ pf
      → length (environment_call (form_of pe) (form_of pf) s env types cap budget out work).output ≡ length out
      → environment_call (form_of pe) (form_of pf) s env types cap budget out work ≡ call_of (formed cap budget (length out) pe pf) out work
  unfolding environment_call formula_call form_of formed closed called
  inner ok too_long pf e g l = oversized out work
  inner ok (faulty fault) pf e g l = environment-blamed fault out work
  inner ok (parsed es) too_long e g l = oversized out work
  inner ok (parsed es) (faulty fault) e g l = formula-blamed fault out work
  inner ok (parsed es) (parsed f) e g l =
      call_infers s env types names cap budget out work es f bs be ok within e g (table es e)
      (sym (cleared-long (told (judge_of budget (run_of s env types (cap * 3) budget (take (cap * 3 + 4096) work) out)).answer).size _) ∙ l)

  -- sizes in order: the call by the forms of environment and formula
  pub calls_infer : sized (length s) (length env) names cap (length work) ≡ true
      → length (environment_call (form_of (environment_of names env)) (form_of (parse_of names s)) s env types cap budget out work).output ≡ length out
      → environment_call (form_of (environment_of names env)) (form_of (parse_of names s)) s env types cap budget out work ≡ call_of (infer_of s env names cap budget (length out) (length work)) out work
  unfolding infer_of either
  calls_infer ok l =
      inner ((sized-holds (length s) (length env) names cap (length work)).1 ok) (environment_of names env) (parse_of names s) refl refl l
      ∙ sym (ap (λ (c : Bool). call_of (either c (formed cap budget (length out) (environment_of names env) (parse_of names s)) (refused 2 0)) out work) ok)

-- sizes out of order
pub oversized_call : (s env : List ℕ) (names cap budget : ℕ) (out work : List ℕ) → sized (length s) (length env) names cap (length work) ≡ false
    → called (Err Oversized) out work ≡ call_of (infer_of s env names cap budget (length out) (length work)) out work
unfolding infer_of either
oversized_call s env names cap budget out work e =
    oversized out work ∙ sym (ap (λ (c : Bool). call_of (either c (formed cap budget (length out) (environment_of names env) (parse_of names s)) (refused 2 0)) out work) e)
