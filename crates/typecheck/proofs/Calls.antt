-- How the entry's ways add up to one call.
use Rattle.std.proofs.Common.{ℕ, ◌+◌, ◌-◌, ◌*◌, ◌≤◌, ◌<◌, subst, List, ◌≡◌, refl, sym, ap, ◌∙◌, true, length, take, replicate, get_or}
use Rattle.std.specs.Prelude.{Ok, Err}
use Rattle.formula.specs.Parse.{Form}
use Rattle.formula.specs.declared.FormError.{FormError}
use Rattle.formula.specs.declared.FormError.TheVariants.{TooLong, At}
use Rattle.formula.specs.declared.Environment.{Environment}
use Rattle.formula.specs.EnvParse.{capped, environment_of, Table}
use Rattle.formula.specs.EnvTold.{answer_of}
use Rattle.formula.specs.EnvSteps.{answer-form, answer-table}
use Rattle.formula.specs.Environment.{Entries}
use Rattle.formula.specs.Parse.{parsed, parse_of, form_of}
use Rattle.inference.specs.Infer.{sized, infer_of}
use Rattle.finisher.specs.Finisher.{most}
use Rattle.memory.specs.Memory.{cleared}
use Rattle.runner.specs.declared.Input.TheVariants as In
use Rattle.runner.specs.Answers.{Answer, told, Call, called, call_of}
use Rattle.runner.specs.Run.{Judged, judged, run_of, judge_of}
use Rattle.runner.specs.Calls.{closed, refused_call, formula_call, environment_call}
use Rattle.assembly.specs.Entry.{calls_infer}

-- ---- by the formula's form
module _ (form : Form) (s env types : List ℕ) (cap budget : ℕ) (out work : List ℕ) where
  refused_formula : (x : FormError) → refused_call In.Formula x out work ≡ formula_call (Err x) s env types cap budget out work
  unfolding refused_call formula_call
  refused_formula TooLong = refl
  refused_formula (At f) = refl

  pub formula-refused : (x : FormError) (r : Answer) (out' work' : List ℕ) → form ≡ Err x → called r out' work' ≡ refused_call In.Formula x out work → called r out' work' ≡ formula_call form s env types cap budget out work
  formula-refused x r out' work' e c = c ∙ refused_formula x ∙ sym (ap (λ (g : Form). formula_call g s env types cap budget out work) e)

  pub formula-good : (a r : Answer) (out₁ work₁ out' work' : List ℕ) → form ≡ Ok tt → judged a out₁ ≡ judge_of budget (run_of s env types (cap * 3) budget (take (cap * 3 + 4096) work) out) → length work₁ ≡ length work
      → called r out' work' ≡ called a (cleared (told a).size out₁) (cleared 0 work₁) → called r out' work' ≡ formula_call form s env types cap budget out work
  unfolding formula_call closed
  formula-good a r out₁ work₁ out' work' e j l c =
      c ∙ ap (λ (n : ℕ). called a (cleared (told a).size out₁) (replicate (n - 0) 0)) l
      ∙ ap (λ (x : Judged). called x.answer (cleared (told x.answer).size x.out) (cleared 0 work)) j
      ∙ sym (ap (λ (g : Form). formula_call g s env types cap budget out work) e)

-- ---- by the environment's form
module _ (s env : List ℕ) (names cap budget : ℕ) (out work : List ℕ) (t : Environment) (h : t ≡ answer_of (environment_of names env))
    (bs : (i : ℕ) → get_or s i 0 < 256) (be : (i : ℕ) → get_or env i 0 < 256) (within : budget ≤ most) (ok : sized (length s) (length env) names cap (length work) ≡ true) where
  form-told : t.form ≡ form_of (environment_of names env)
  form-told = ap (λ (x : Environment). x.form) h ∙ answer-form (environment_of names env)

  table-told : (es : Entries) → environment_of names env ≡ parsed es → Table (capped names) env es t.types
  table-told es k = subst (λ (x : Environment). Table (capped names) env es x.types) (sym h) (answer-table names env be es k)

  infers : (x : Call) → x ≡ environment_call t.form (form_of (parse_of names s)) s env t.types cap budget out work → length x.output ≡ length out
      → x ≡ call_of (infer_of s env names cap budget (length out) (length work)) out work
  infers x e l =
      let f = e ∙ ap (λ (g : Form). environment_call g (form_of (parse_of names s)) s env t.types cap budget out work) form-told in
      f ∙ calls_infer s env t.types names cap budget out work bs be within table-told ok (sym (ap (λ (y : Call). length y.output) f) ∙ l)

  refused_environment : (x : FormError) → refused_call In.Environment x out work ≡ environment_call (Err x) (form_of (parse_of names s)) s env t.types cap budget out work
  unfolding refused_call environment_call
  refused_environment TooLong = refl
  refused_environment (At f) = refl

  pub infer_refused : (x : FormError) (r : Answer) (out' work' : List ℕ) → t.form ≡ Err x → called r out' work' ≡ refused_call In.Environment x out work → length out' ≡ length out
      → called r out' work' ≡ call_of (infer_of s env names cap budget (length out) (length work)) out work
  unfolding called
  infer_refused x r out' work' e c l =
      infers (called r out' work') (c ∙ refused_environment x ∙ sym (ap (λ (g : Form). environment_call g (form_of (parse_of names s)) s env t.types cap budget out work) e)) l

  pub infer_good : (r : Answer) (out' work' : List ℕ) → t.form ≡ Ok tt → called r out' work' ≡ formula_call (form_of (parse_of names s)) s env t.types cap budget out work → length out' ≡ length out
      → called r out' work' ≡ call_of (infer_of s env names cap budget (length out) (length work)) out work
  unfolding environment_call called
  infer_good r out' work' e c l =
      infers (called r out' work') (c ∙ sym (ap (λ (g : Form). environment_call g (form_of (parse_of names s)) s env t.types cap budget out work) e)) l
