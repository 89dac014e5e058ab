-- Types found are types read: where the tests list nothing, each reference's type is read at every budget from theirs on.
-- After this file a reader knows what the answer's writer will meet at each reference.
use Rattle.std.specs.Prelude.{ℕ, ◌+◌, ◌-◌, ◌≤◌, refl, Bool, true, false}
use Rattle.std.proofs.Math.Path.{◌≡◌, subst}
use Rattle.std.proofs.Common.{sym, ◌∙◌, ap}
use mathlib.Core.List.{List, [], ◌∷◌}
use native.Mathlib.Omega.{arith}
use Rattle.meter.specs.Meter.{Out, spent, halt, done, ret, ◌>>=◌, within_le, done_costs}
use Rattle.types.specs.Ty.{Ty}
use Rattle.unification.specs.Arena.{Words, U, solved, read}
use Rattle.unification.specs.Steps.{read_metered}
use Rattle.unification.specs.Put.{bind_inv}
use Rattle.inference.specs.Finish.{Finding, found, unsolved, Question, Findings, noted, ask}
use Rattle.inference.specs.Finish as F
use Rattle.inference.proofs.Cost as C

module _ (ws : Words) (n top : ℕ) where
  -- the types of these questions, in order, under their keys
  abbrev pub Reads : List Question → List (ℕ × Ty) → Type 0
  Reads [] [] = Unit {0}
  Reads [] (t ∷ ts) = ⊥
  Reads (q ∷ qs) [] = ⊥
  Reads (q ∷ qs) (t ∷ ts) = (t.0 ≡ q.key) × ((r : ℕ) × (read ws n q.ref top ≡ done t.1 r)) × Reads qs ts

  -- what the test found is what is read
  found-read : (t b : ℕ) (T : Ty) (l : ℕ) → F.test ws n t b ≡ done (found T) l → (c : Out U Bool) → solved ws n t b ≡ c → read ws n t b ≡ done T l
  found-read t b T l e (done true r) q =
      let y = C.test_yes ws n t b r q in
      let z : ◌≡◌ {A = Out U Finding} (done (found y.0) r) (done (found T) l) = sym y.2 ∙ e in
      let i : y.0 ≡ T = cc in
      let j : r ≡ l = cc in
      y.1 ∙ ap (λ (S : Ty). done S r) i ∙ ap (λ (k : ℕ). done T k) j
  found-read t b T l e (done false r) q = let z : ◌≡◌ {A = Out U Finding} (done unsolved r) (done (found T) l) = sym (C.test_no ws n t b r q) ∙ e in cc
  found-read t b T l e (spent u) q = let z : ◌≡◌ {A = Out U Finding} (spent tt) (done (found T) l) = sym (C.test-spent ws n t b q) ∙ e in cc
  found-read t b T l e (halt w u) q = let z : ◌≡◌ {A = Out U Finding} (halt w tt) (done (found T) l) = sym (C.test-halt ws n t b w q) ∙ e in cc

  -- a larger budget reads the same
  read_more : (t b : ℕ) (T : Ty) (l : ℕ) → b ≤ top → read ws n t b ≡ done T l → (r : ℕ) × (read ws n t top ≡ done T r)
  read_more t b T l h e =
      let z = done_costs (read_metered ws n t) b T l e in
      let c : ℕ = z.0 in
      let q : z.0 + l ≡ b = z.1 in
      let i : top ≡ z.0 + (top - z.0) = omega arith in
      (top - z.0, ap (read ws n t) i ∙ z.2.enough (top - z.0))

  -- one question: q, with what was found, and the rest
  one-read : (q : Question) (qs : List Question) (b l : ℕ) (x : Finding) (f : Findings) → b ≤ top → F.test ws n q.ref b ≡ done x l → (noted q x f).problems ≡ [] → (f.problems ≡ [] → Reads qs f.types) → Reads (q ∷ qs) (noted q x f).types
  unfolding noted
  one-read q qs b l (found T) f h e p rec = (refl, read_more q.ref b T l h (found-read q.ref b T l e (solved ws n q.ref b) refl), rec p)
  one-read q qs b l unsolved f h e p rec = let z : ◌≡◌ {A = ℕ} 0 1 = cc in absurd (omega arith)

  pub ask-reads : (qs : List Question) (b : ℕ) (f : Findings) (r : ℕ) → b ≤ top → ask ws n qs b ≡ done f r → f.problems ≡ [] → Reads qs f.types
  unfolding ask ret
  ask-reads [] b f r h e p = let z : record { types = []; problems = [] } ≡ f = cc in subst (λ (x : Findings). Reads [] x.types) z tt
  ask-reads (q ∷ qs) b f r h e p =
      let v = bind_inv (F.test ws n q.ref) (λ x. ask ws n qs >>= λ f. ret (noted q x f)) b f r e in
      let w = bind_inv (ask ws n qs) (λ f. ret (noted q v.0 f)) v.1 f r v.3 in
      let z : noted q v.0 w.0 ≡ f = cc in
      let l : v.1 ≤ b = within_le b ((C.test_metered ws n q.ref).within b) v.0 v.1 v.2 in
      let k : v.1 ≤ top = omega arith in
      subst (λ (x : Findings). Reads (q ∷ qs) x.types) z
      (one-read q qs b v.1 v.0 w.0 h v.2 (ap (λ (x : Findings). x.problems) z ∙ p) (λ y. ask-reads qs v.1 w.0 w.1 k w.2 y))
