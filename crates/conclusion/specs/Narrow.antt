-- The types of an outcome hold no other given names than the walk's nodes.
-- An assignment that the walk's operations admit stays admitted where every name past a count is replaced: so a type that all of them agree on
-- holds none. After this file a reader knows that two bytes hold every name of an answer.
use Rattle.std.specs.Prelude.{ℕ, suc, ◌≤◌, ◌<◌, Bool, List, [], ◌∷◌, ◌++◌, ltb}
use Rattle.std.proofs.Math.Path.{◌≡◌, refl, ap}
use Rattle.std.proofs.Common.{sym, ◌∙◌, subst, lt-ltb, ltb-true}
use Rattle.std.proofs.Math.Bool.{true, false}
use native.Mathlib.Omega.{arith}
use Rattle.std.proofs.Math.ListN.{length}
use Rattle.types.specs.Ty.{Atom, bool, int, given, Ty, base, pow, prod, Below, AtomBelow, bool-below, int-below, given_below}
use Rattle.formula.specs.Environment.{Entry, lacks, holds, Env}
use Rattle.unification.specs.Arena.{Node, link, leaf, bad, decode, Words, node_at}
use Rattle.unification.specs.Arena as A
use Rattle.unification.specs.Good.{Assignment, Says, extend, extend_admits}
use Rattle.unification.specs.Ops.{Op, pay, make, compare, list, Bench, Meets, Admitted, Judged, clean, hopeless, Ran}
use Rattle.walk.specs.Writer.{Met, Row}
use Rattle.walk.specs.Verdict.{start}
use Rattle.inference.specs.Answer.{Problem}
use Rattle.inference.specs.Finish.{Finding, found, unsolved, Question, Findings, noted, ask_name, names, Outcome, typed, failed, settled, walk_problems}
use Rattle.inference.specs.Finish as F
use Rattle.inference.specs.Rows.{Every}
use Rattle.inference.specs.Conclude.{Judge, Told, told_none, told, SlotsTold, Finished}
use Rattle.inference.specs.Conclude as C
use Rattle.conclusion.specs.Given.{Slim, Slims, RowLow}
use Rattle.conclusion.specs.Written.{Narrow, Low}

module _ (N : ℕ) where
  unfoldable kept : Bool → ℕ → Atom
  kept true g = given g
  kept false g = bool

  -- names from N on give way to BOOL
  unfoldable squash : Ty → Ty
  unfolding kept
  squash (base bool) = base bool
  squash (base int) = base int
  squash (base (given g)) = base (kept (ltb g N) g)
  squash (pow t) = pow (squash t)
  squash (prod t u) = prod (squash t) (squash u)

  squash-low : (g : ℕ) → g < N → squash (base (given g)) ≡ base (given g)
  unfolding squash kept
  squash-low g l = ap (λ (c : Bool). base (kept c g)) (lt-ltb g N l)

  -- a type that stays holds no such name
  kept_same : (g : ℕ) (c : Bool) → ltb g N ≡ c → base (kept c g) ≡ base (given g) → Below N (base (given g))
  unfolding kept Below
  kept_same g true q e = given_below (ltb-true g N q)
  kept_same g false q e = let z : ◌≡◌ {A = ℕ} 0 1 = cc in absurd (omega arith)

  squash-same : (t : Ty) → squash t ≡ t → Below N t
  unfolding squash Below
  squash-same (base bool) e = bool-below
  squash-same (base int) e = int-below
  squash-same (base (given g)) e = kept_same g (ltb g N) refl e
  squash-same (pow t) e = squash-same t cc
  squash-same (prod t u) e = (squash-same t cc, squash-same u cc)

  abbrev shrunk : Assignment → Assignment
  shrunk σ = λ x. squash (σ x)

  shrunk-says : (σ : Assignment) (x : ℕ) (nd : Node) → Slim N nd → Says σ x nd → Says (shrunk σ) x nd
  unfolding squash
  shrunk-says σ x A.free s h = tt
  shrunk-says σ x (link j) s h = ap squash h
  shrunk-says σ x (leaf bool) s h = ap squash h
  shrunk-says σ x (leaf int) s h = ap squash h
  shrunk-says σ x (leaf (given g)) s h = ap squash h ∙ squash-low g s
  shrunk-says σ x (A.power y) s h = ap squash h
  shrunk-says σ x (A.pair y z) s h = ap squash h
  shrunk-says σ x bad s h = tt

  shrunk-meets : (σ : Assignment) (n : ℕ) (os : List Op) → Slims N os → Meets σ n os → Meets (shrunk σ) n os
  shrunk-meets σ n [] s h = tt
  shrunk-meets σ n (pay ∷ os) s h = shrunk-meets σ n os s h
  shrunk-meets σ n (make k a b ∷ os) s h = (shrunk-says σ n (decode k a b) s.0 h.0, shrunk-meets σ (suc n) os s.1 h.1)
  shrunk-meets σ n (compare a b p ∷ os) s h = (ap squash h.0, shrunk-meets σ n os s h.1)
  shrunk-meets σ n (list q p ∷ os) s h = absurd h

  module _ (cap : ℕ) (ws : Words) (os : List Op) (b : Bench) (ran : Ran cap (start ws) os b) (slim : Slims N os) (none : b.problems ≡ []) where
    -- an assignment that is admitted, shrunk, is admitted
    still_admitted : (σ : Assignment) → Admitted b σ → Judged (start ws) os b → Admitted b (shrunk σ)
    unfolding start
    still_admitted σ a (clean e f) = ran.takes (shrunk σ) (λ x l. absurd (omega arith)) (shrunk-meets σ 0 os slim (f σ a).1)
    still_admitted σ a (hopeless l f) = let z = ap length none in absurd (omega arith)

    pub judged-below : (t : ℕ) (T : Ty) → Judge (λ σ. Admitted b σ) t (found T) → Below N T
    judged-below t T h =
        let G = ran.ready.good in
        let σ : Assignment = extend b.count (node_at b.words b.count) G (λ x. base bool) in
        let a : Admitted b σ = extend_admits b.count (node_at b.words b.count) G (λ x. base bool) in
        squash-same T (ap squash (sym (h σ a)) ∙ h (shrunk σ) (still_admitted σ a ran.judged))

    -- ---- findings
    told-low : (qs : List Question) (f : Findings) → Told (Judge (λ σ. Admitted b σ)) qs f → N ≤ 65536 → ((t : Ty) → Below N t → Below 65536 t) → Low f.types
    unfolding noted
    told-low qs f told_none l up = tt
    told-low qs f (told {x = found T} j g) l up = (up T (judged-below _ T j), told-low _ _ g l up)
    told-low qs f (told {x = unsolved} j g) l up = told-low _ _ g l up

    told_narrow : (qs : List Question) (f : Findings) → Told (Judge (λ σ. Admitted b σ)) qs f → Every (λ q. q.key < N) qs → N ≤ 65536 → ((t : Ty) → Below N t → Below 65536 t) → Narrow f.types
    unfolding noted
    told_narrow qs f told_none k l up = tt
    told_narrow qs f (told {x = found T} j g) k l up = (let q = k.0 in omega arith, up T (judged-below _ T j), told_narrow _ _ g k.1 l up)
    told_narrow qs f (told {x = unsolved} j g) k l up = told_narrow _ _ g k.1 l up

-- ---- names tested are names met
ask_name-low : (N : ℕ) (e : Entry) (x : Met) (qs : List Question) → x.name < N → Every (λ q. q.key < N) qs → Every (λ q. q.key < N) (ask_name e x qs)
unfolding ask_name
ask_name-low N lacks x qs l h = (l, h)
ask_name-low N (holds t) x qs l h = h

pub names-low : (N : ℕ) (Γ : Env) (row : Row) → RowLow N row → Every (λ q. q.key < N) (names Γ row)
unfolding names
names-low N Γ [] h = tt
names-low N Γ (x ∷ row) h = ask_name-low N (Γ x.name) x (names Γ row) h.0 (names-low N Γ row h.1)

atom-up : (N M : ℕ) → N ≤ M → (a : Atom) → AtomBelow N a → AtomBelow M a
atom-up N M l bool h = bool-below
atom-up N M l int h = int-below
atom-up N M l (given g) (given_below q) = given_below {n = g} (omega arith)

below_up : (N M : ℕ) → N ≤ M → (t : Ty) → Below N t → Below M t
unfolding Below
below_up N M l (base a) h = atom-up N M l a h
below_up N M l (pow t) h = below_up N M l t h
below_up N M l (prod t u) h = (below_up N M l t h.0, below_up N M l u h.1)

-- ---- a typed outcome
no_problems : (ps : List (ℕ × ℕ)) (qs : List Problem) → walk_problems ps ++ qs ≡ [] → ps ≡ []
unfolding walk_problems
no_problems [] qs e = refl
no_problems (p ∷ ps) qs e = let z : ◌≡◌ {A = ℕ} 0 1 = cc in absurd (omega arith)

settled_as : (ps : List Problem) (es fs gs ts : List (ℕ × Ty)) → typed es ts ≡ settled ps fs gs → (fs ≡ es) × (gs ≡ ts)
unfolding settled
settled_as [] es fs gs ts e = (cc, cc)
settled_as (p ∷ ps) es fs gs ts e = let z : ◌≡◌ {A = ℕ} 0 1 = cc in absurd (omega arith)

module _ (N : ℕ) (small : N ≤ 65536) (Γ : Env) (cap : ℕ) (ws : Words) (os : List Op) (b : Bench) (row : Row) (ss : List (ℕ × ℕ)) (ran : Ran cap (start ws) os b) (slim : Slims N os) (low : RowLow N row) where
  slots_narrow : (L : List Problem) (f : Findings) (es ts : List (ℕ × Ty)) → L ≡ walk_problems b.problems ++ f.problems → Told (C.Judged b) (names Γ row) f → SlotsTold b L f.types ss (typed es ts) → Narrow es × Low ts
  slots_narrow [] f es ts e h k =
      let none : b.problems ≡ [] = no_problems b.problems f.problems (sym e) in
      let q = settled_as k.0.problems es f.types k.0.types ts k.2 in (
        subst Narrow q.0 (told_narrow N cap ws os b ran slim none (names Γ row) f h (names-low N Γ row low) small (below_up N 65536 small)),
        subst Low q.1 (told-low N cap ws os b ran slim none (F.slots ss) k.0 k.1 small (below_up N 65536 small)),
      )
  slots_narrow (p ∷ ps) f es ts e h k = let z : ◌≡◌ {A = ℕ} 0 1 = cc in absurd (omega arith)

  pub finished_narrow : (es ts : List (ℕ × Ty)) → Finished b Γ row ss (typed es ts) → Narrow es × Low ts
  finished_narrow es ts h = slots_narrow (walk_problems b.problems ++ h.0.problems) h.0 es ts refl h.1 h.2
