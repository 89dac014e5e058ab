-- The walk of a whole formula, root and all; `Whole` starts it from a fresh machine.
-- After this file `tie-formula` says of every formula that fits: where the bytes spell it, the walk from any machine that stands there runs its operations
-- and ends behind it.
use Prim.Native.Nat.{ℕ, suc, ◌+◌, ◌≤◌, ◌<◌}
use Rattle.std.specs.Prelude.{◌≡◌, length, Option, Some}
use Rattle.std.proofs.Math.Path.{refl, ap}
use Rattle.std.proofs.Common.{sym, ◌∙◌, ap₂, subst}
use mathlib.Core.List.{List, [], ◌∷◌, ◌++◌}
use native.Mathlib.Omega.{arith}
use Rattle.std.proofs.Math.ListN.{drop}
use Rattle.types.specs.Limits.{levels, max_depth}
use Rattle.heads.specs.declared.Root.{Root}
use Rattle.heads.specs.declared.Root.TheVariants.{Expression, Predicate, Becomes, BecomesIn, BecomesSuch}
use Rattle.heads.specs.Heads.{root_head}
use Rattle.heads.specs.Heads as H
use Rattle.heads.specs.Reads.{reach-all}
use Rattle.formula.specs.Environment.{Env}
use Rattle.formula.specs.Tree.{Formula, expression, predicate, becomes, becomes_in, becomes_such, targets, pairs, place}
use Rattle.formula.specs.Spell.{spell_decls, spell, spell_pred, spell_target, spell_targets, spell_pairs, spell_formula, size, size_pred, size_decls, size_targets, size_pairs, size_formula, Placed, PlacedTargets, PlacedFormula}
use Rattle.formula_laws.specs.Fits.{FitsRoot}
use Rattle.formula_laws.specs.Complete.{head-expression, head-predicate, head-becomes, head-becomes_in, head-becomes_such, expr-first, pred_first}
use Rattle.unification.specs.Arena.{U}
use Rattle.unification.specs.Ops.{Op}
use Rattle.walk.specs.Writer.{Row, W, done, glue, ◌>>=◌, enter}
use Rattle.walk.specs.Walk.{over, walk, walk_pred, forget, walk_formula}
use Rattle.walk.specs.Walk as K
use Rattle.forms.specs.Forms.{then}
use Rattle.machine.specs.Machine.{Mach, with_st, placed_of, bound_of, paid_of}
use Rattle.walker.specs.Walk.{expr_of, pred_of}
use Rattle.walker.specs.Root.{pair_by, pairs_of, becomes_in_of, becomes_such_of, root_by, formula_of}
use Rattle.simulation.specs.Relation.{Runs}
use Rattle.simulation.specs.Stand.{runs_if, runs_map}
use Rattle.machine.specs.Still.{Halted, still_placed, still_times, still_bound, still_within}
use Rattle.simulation.specs.Steps.{told, nil_right, runs_same, runs_told}
use Rattle.simulation.specs.Output.{assoc}
use Rattle.simulation.specs.Nodes.{Came}
use Rattle.simulation.specs.Bytes.{drop_past}
use Rattle.simulation.specs.Slots.{runs_enter}
use Rattle.simulation.specs.Decls.{paid-at}
use Rattle.simulation.specs.Bodies.{closed, runs_close, stood, on-from}
use Rattle.simulation.specs.Cycle.{tie, tie_pred}
use Rattle.simulation.specs.Assign.{still_pair, runs_pairs, still_becomes_in, runs_becomes_in}
use Rattle.simulation.specs.Shares.{still_becomes_such, runs_becomes_such}

-- ---- the head says what kind of formula it is
abbrev Paid : Mach → Mach
Paid m = with_st (paid_of m.st) m

module _ (s env : List ℕ) (short : length s ≤ 65536) (m : Mach) (p : ℕ) (at0 : m.st.at.0 ≡ p) where
  root_is : (h : Option Root) → root_head s (H.place p) ≡ h → formula_of s env m ≡ root_by s env h m
  unfolding formula_of then
  root_is h e =
      ap (λ (x : List ℕ). root_by s env (root_head x m.st.at) m) (reach-all s (omega arith))
      ∙ ap (λ (j : ℕ). root_by s env (root_head s (H.place j)) m) at0
      ∙ ap (λ (g : Option Root). root_by s env g m) e

  formula-expr : (k : ℕ) (rest : List ℕ) → k < 0x20 → drop p s ≡ k ∷ rest → formula_of s env m ≡ expr_of levels s env m
  unfolding root_by
  formula-expr k rest l e = root_is (Some Expression) (head-expression s p k rest l e)

  formula_pred : (k : ℕ) (rest : List ℕ) → 0x20 ≤ k → k < 0x30 → drop p s ≡ k ∷ rest → formula_of s env m ≡ pred_of levels s env m
  unfolding root_by
  formula_pred k rest h l e = root_is (Some Predicate) (head-predicate s p k rest h l e)

  formula-becomes : (n : ℕ) (rest : List ℕ) → 1 ≤ n → drop p s ≡ 0x30 ∷ n ∷ rest → formula_of s env m ≡ pairs_of s env n (stood (p + 2) (Paid m))
  unfolding root_by then
  formula-becomes n rest i e = root_is (Some (Becomes n (H.place (p + 2)))) (head-becomes s p n rest i e)

  formula-becomes_in : (n : ℕ) (rest : List ℕ) → 1 ≤ n → drop p s ≡ 0x31 ∷ n ∷ rest → formula_of s env m ≡ becomes_in_of s env n (stood (p + 2) (Paid m))
  unfolding root_by then
  formula-becomes_in n rest i e = root_is (Some (BecomesIn n (H.place (p + 2)))) (head-becomes_in s p n rest i e)

  formula-becomes_such : (n : ℕ) (rest : List ℕ) → 1 ≤ n → drop p s ≡ 0x32 ∷ n ∷ rest → formula_of s env m ≡ becomes_such_of s env n p (stood (p + 2) (Paid m))
  unfolding root_by then
  formula-becomes_such n rest i e = root_is (Some (BecomesSuch n (H.place (p + 2)))) (head-becomes_such s p n rest i e) ∙ ap (λ (j : ℕ). becomes_such_of s env n j (stood (p + 2) (Paid m))) at0

abbrev gone : ℕ → U
gone _ = tt

forgotten : (Γ : Env) (w : W ℕ) (n : ℕ) (row : Row) → told gone w n row ≡ forget Γ w n row
unfolding told forget ◌>>=◌ glue done
forgotten Γ w n row = ap₂ (λ (os : List Op) (ss : List (ℕ × ℕ)). record { ops = os; result = tt; row = (w n row).row; slots = ss }) (sym (nil_right (w n row).ops)) (sym (nil_right (w n row).slots))

module _ (Γ : Env) (env : List ℕ) (cap room : ℕ) (wide : cap ≤ 32768) (brief : length env ≤ 65536) (s : List ℕ) (short : length s ≤ 65536) (most : ℕ) (few : most ≤ 256) where
  abbrev Shut : Mach → Mach
  Shut y = with_st (bound_of 0 y.st) y

  abbrev At : ℕ → U → Mach → Type 0
  At p _ v = v.st.at.0 ≡ p

  -- nothing is declared, and nothing to close
  shut : {A : Type 0} (m y : Mach) (w : W A) (Q : A → Mach → Type 0) → ((a : A) → Q a y → Q a (closed Γ env cap room 0 y)) → Runs Γ env cap room m y w [] (λ _. []) Q → Runs Γ env cap room m (Shut y) w [] (λ _. []) Q
  unfolding over
  shut m y w Q k h = runs_close Γ env cap room m y [] [] 0 refl Q k w [] h

  still_shut : (y : Mach) → Halted y → Shut y ≡ y
  still_shut y h = still_within (bound_of 0) y (still_bound 0 y.st h)

  -- an assignment's record: its unit, and two bytes
  as_assignment : (p N : ℕ) (w : W U) (G : Mach → Mach) → ((m : Mach) → m.st.at.0 ≡ p → formula_of s env m ≡ G (stood (p + 2) (Paid m))) → ((y : Mach) → Halted y → G y ≡ y)
      → ((m : Mach) → m.st.at.0 ≡ p + 2 → Runs Γ env cap room m (Shut (G m)) w [] (λ _. []) (At N))
      → (m : Mach) → m.st.at.0 ≡ p → Runs Γ env cap room m (Shut (formula_of s env m)) (enter w) [] (λ _. []) (At N)
  as_assignment p N w G is still body m at0 =
      let m0 : Mach = Paid m in
      let F : Mach = Shut (G (stood (p + 2) m0)) in
      runs_if Γ env cap room m (Shut (formula_of s env m)) F (enter w) [] (λ _. []) (At N) (λ _. ap Shut (is m at0))
      (runs_enter Γ env cap room m F w [] (λ _. []) (At N)
      (λ h. ap (λ (x : Mach). x.st.stop) (ap (λ (x : Mach). Shut (G x)) (still_within (placed_of (p + 2)) m0 (still_placed (p + 2) m0.st h)) ∙ ap Shut (still m0 h) ∙ still_shut m0 h))
      (on-from Γ env cap room (p + 2) p (λ _ y. Shut (G y)) m0 F w [] (λ _. []) (At N) (paid-at m.st ∙ at0) refl (λ g a. body (stood (p + 2) m0) a)))

  abbrev GF : Formula → ℕ → Type 0
  GF f p = (m : Mach) → m.st.at.0 ≡ p → Runs Γ env cap room m (Shut (formula_of s env m)) (walk_formula Γ f) [] (λ _. []) (At (p + size_formula f))

  at-formula : (mk : ℕ → Formula) (r p : ℕ) → r ≡ p → GF (mk p) p → GF (mk r) p
  at-formula mk r p e h = subst (λ (q : ℕ). GF (mk q) p) (sym e) h

  pub tie-formula : (f : Formula) (p : ℕ) (rest : List ℕ) → FitsRoot most f → PlacedFormula p f → drop p s ≡ spell_formula f ++ rest → GF f p
  unfolding walk_formula spell_formula size_formula FitsRoot PlacedFormula
  tie-formula (expression e) p rest f w b = λ m at0. (
      let g = expr-first e in
      let F : Mach = expr_of levels s env m in
      runs_if Γ env cap room m (Shut (formula_of s env m)) (Shut F) (forget Γ (walk Γ e [])) [] (λ _. []) (At (p + size e)) (λ _. ap Shut (formula-expr s env short m p at0 g.0 (g.1 ++ rest) g.3 (b ∙ ap (λ (x : List ℕ). x ++ rest) g.2)))
      (shut m F (forget Γ (walk Γ e [])) (At (p + size e)) (λ _ y. y)
      (runs_same Γ env cap room m F (told gone (walk Γ e [])) (forget Γ (walk Γ e [])) [] (λ _. []) (At (p + size e)) (forgotten Γ (walk Γ e []))
      (runs_told Γ env cap room m F gone (walk Γ e []) [] [] (λ r v. Came (p + size e) (place e) r v) (At (p + size e)) (λ r y. y.0) (tie Γ env cap room wide brief s short most few e levels 0 p [] rest refl f w b m at0)))))
  tie-formula (predicate c) p rest f w b = λ m at0. (
      let g = pred_first c in
      let F : Mach = pred_of levels s env m in
      runs_if Γ env cap room m (Shut (formula_of s env m)) (Shut F) (walk_pred Γ c []) [] (λ _. []) (At (p + size_pred c)) (λ _. ap Shut (formula_pred s env short m p at0 g.0 (g.1 ++ rest) g.3 g.4 (b ∙ ap (λ (x : List ℕ). x ++ rest) g.2)))
      (shut m F (walk_pred Γ c []) (At (p + size_pred c)) (λ _ y. y) (tie_pred Γ env cap room wide brief s short most few c levels 0 p [] rest refl f w b m at0)))
  tie-formula (becomes r xs) p rest f w b =
      let b2 : drop (p + 2) s ≡ spell_pairs xs ++ rest = drop_past s (0x30 ∷ pairs xs ∷ []) (spell_pairs xs ++ rest) p b in
      let G : Mach → Mach = (λ (y : Mach). pairs_of s env (pairs xs) y) in
      at-formula (λ q. becomes q xs) r p w.0 (
      as_assignment p (p + (2 + size_pairs xs)) (K.pairs Γ xs) G (λ y a. formula-becomes s env short y p a (pairs xs) (spell_pairs xs ++ rest) f.0 b)
      (λ y h. still_times (pair_by (expr_of max_depth s env)) y (still_pair Γ env cap room wide brief s short most few y h) (pairs xs))
      (λ y a. shut y (G y) (K.pairs Γ xs) (At (p + (2 + size_pairs xs))) (λ _ z. z)
      (runs_map Γ env cap room y (G y) (K.pairs Γ xs) [] (λ _. []) _ _ (λ _ z. z ∙ omega arith) (runs_pairs Γ env cap room wide brief s short most few xs (p + 2) rest f.1 w.1 b2 y a))))
  tie-formula (becomes_in r t ts e) p rest f w b =
      let n : ℕ = suc (targets ts) in
      let tail : List ℕ = spell_target t ++ (spell_targets ts ++ (spell e ++ rest)) in
      let b0 : drop p s ≡ 0x31 ∷ n ∷ tail = b ∙ ap (λ (x : List ℕ). 0x31 ∷ n ∷ x) (assoc (spell_target t) (spell_targets ts ++ spell e) rest ∙ ap (λ (x : List ℕ). spell_target t ++ x) (assoc (spell_targets ts) (spell e) rest)) in
      let b2 : drop (p + 2) s ≡ tail = drop_past s (0x31 ∷ n ∷ []) tail p b0 in
      let G : Mach → Mach = (λ (y : Mach). becomes_in_of s env n y) in
      let N : ℕ = p + (2 + (3 + (size_targets ts + size e))) in
      let z3 : p + 5 ≡ p + 2 + 3 = omega arith in
      at-formula (λ q. becomes_in q t ts e) r p w.0 (
      as_assignment p N _ G (λ y a. formula-becomes_in s env short y p a n tail (omega arith) b0) (λ y h. still_becomes_in Γ env cap room wide brief s short most few n y h)
      (λ y a. shut y (G y) _ (At N) (λ _ z. z)
      (runs_map Γ env cap room y (G y) _ [] (λ _. []) _ _ (λ _ z. z ∙ omega arith)
      (runs_becomes_in Γ env cap room wide brief s short most few t ts e (p + 2) n rest refl f.0 f.1 f.2 w.1 (subst (λ (k : ℕ). PlacedTargets k ts) z3 w.2) (subst (λ (k : ℕ). Placed (k + size_targets ts) e) z3 w.3) b2 y a))))
  tie-formula (becomes_such r ts ds c) p rest f w b =
      let n : ℕ = targets ts in
      let tail : List ℕ = spell_targets ts ++ (spell_decls ds ++ (spell_pred c ++ rest)) in
      let b0 : drop p s ≡ 0x32 ∷ n ∷ tail = b ∙ ap (λ (x : List ℕ). 0x32 ∷ n ∷ x) (assoc (spell_targets ts) (spell_decls ds ++ spell_pred c) rest ∙ ap (λ (x : List ℕ). spell_targets ts ++ x) (assoc (spell_decls ds) (spell_pred c) rest)) in
      let b2 : drop (p + 2) s ≡ tail = drop_past s (0x32 ∷ n ∷ []) tail p b0 in
      let G : Mach → Mach = (λ (y : Mach). becomes_such_of s env n p y) in
      let N : ℕ = p + (2 + (size_targets ts + (size_decls ds + size_pred c))) in
      at-formula (λ q. becomes_such q ts ds c) r p w.0 (
      as_assignment p N _ G (λ y a. formula-becomes_such s env short y p a n tail f.0 b0) (λ y h. still_becomes_such Γ env cap room wide brief s short most few n p y h)
      (λ y a. runs_map Γ env cap room y (Shut (G y)) _ [] (λ _. []) _ _ (λ _ z. z ∙ omega arith)
      (runs_becomes_such Γ env cap room wide brief s short most few ts ds c (p + 2) n p rest refl f.1 f.2 f.3 f.4 f.5 w.1 w.2 w.3 b2 y a)))
