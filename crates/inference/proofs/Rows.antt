-- The theorems of specs/Rows.antt: `slots-inside`, `found-asked`, `asked-found`.
use Rattle.std.specs.Prelude.{ℕ, ◌<◌, Bool}
use Rattle.std.proofs.Math.Path.{◌≡◌, refl, subst}
use Rattle.std.proofs.Common.{sym, ◌∙◌, ap, arith, eqb-true, eq-eqb}
use Rattle.std.proofs.Math.Bool.{true, false}
use mathlib.Core.List.{List, [], ◌∷◌, ◌++◌}
use Rattle.std.proofs.Math.Dec.{eqb}
use Rattle.formula.specs.Environment.{Entry, lacks, holds, Env}
use Rattle.formula.specs.Tree.{Formula}
use Rattle.typing.specs.Equations.{first_of}
use Rattle.typing.specs.Typings.{meetings_of, has, meet, meet_all, lacking}
use Rattle.walk.specs.Writer.{Met, Row, at, found, find}
use Rattle.walk.specs.Walk.{walked}
use Rattle.walk.specs.Names.{unheld, row_lacking, has-found}
use Rattle.walk.proofs.Names.{walk-names}
use Rattle.walk.specs.Safe.{SlotsIn}
use Rattle.inference.specs.Finish.{ask_name, names, slots}
use Rattle.inference.specs.Rows.{Once, Every, OfNames}

clash : {A : Type 0} → ◌≡◌ {A = Bool} true false → A
clash e = let z : ◌≡◌ {A = ℕ} 0 1 = cc in absurd (omega arith)

-- the name of m is not x, and the rest has no x
has_cons : (x y : ℕ) (p : ℕ) (ms : List (ℕ × ℕ)) → has x ((y, p) ∷ ms) ≡ false → (eqb x y ≡ false) × (has x ms ≡ false)
unfolding has first_of
has_cons x y p ms e = go (eqb x y) refl e
  where
    go : (c : Bool) → eqb x y ≡ c → first_of c true (has x ms) ≡ false → (eqb x y ≡ false) × (has x ms ≡ false)
    go true q h = clash h
    go false q h = (q, h)

has_skip : (x y : ℕ) (p : ℕ) (ms : List (ℕ × ℕ)) → eqb x y ≡ false → has x ((y, p) ∷ ms) ≡ has x ms
unfolding has first_of
has_skip x y p ms e = rw e refl

has_end : (x : ℕ) (ms : List (ℕ × ℕ)) (n : ℕ × ℕ) → has x ms ≡ false → eqb x n.0 ≡ false → has x (ms ++ (n ∷ [])) ≡ false
unfolding has
has_end x [] n h e = has_skip x n.0 n.1 [] e
has_end x (m ∷ ms) n h e = let q = has_cons x m.0 m.1 ms h in has_skip x m.0 m.1 (ms ++ (n ∷ [])) q.0 ∙ has_end x ms n q.1 e

eqb_swap : (x y : ℕ) → eqb x y ≡ false → eqb y x ≡ false
eqb_swap x y e = go (eqb y x) refl
  where
    go : (c : Bool) → eqb y x ≡ c → eqb y x ≡ false
    go true q = clash (sym (eq-eqb x y (sym (eqb-true y x q))) ∙ e)
    go false q = q

once_end : (ms : List (ℕ × ℕ)) (n : ℕ × ℕ) → Once ms → has n.0 ms ≡ false → Once (ms ++ (n ∷ []))
unfolding has
once_end [] n o h = (refl, tt)
once_end (m ∷ ms) n o h = let q = has_cons n.0 m.0 m.1 ms h in (has_end m.0 ms n o.0 (eqb_swap n.0 m.0 q.0), once_end ms n o.1 q.1)

once_meet : (ms : List (ℕ × ℕ)) (n : ℕ × ℕ) → Once ms → Once (meet ms n)
unfolding meet first_of
once_meet ms n o = go (has n.0 ms) refl
  where
    go : (c : Bool) → has n.0 ms ≡ c → Once (first_of c ms (ms ++ (n ∷ [])))
    go true e = o
    go false e = once_end ms n o e

once_all : (ms ns : List (ℕ × ℕ)) → Once ms → Once (meet_all ms ns)
unfolding meet_all
once_all ms [] o = o
once_all ms (n ∷ ns) o = once_all (meet ms n) ns (once_meet ms n o)

pub slots-inside : (n : ℕ) (ss : List (ℕ × ℕ)) → SlotsIn n ss → Every (λ q. q.ref < n) (slots ss)
unfolding slots
slots-inside n [] h = tt
slots-inside n (s ∷ ss) h = (h.0, slots-inside n ss h.1)

module _ (Γ : Env) (P : ℕ → ℕ → Type 0) where
  tail_of : (m : Met) (row : Row) (x r : ℕ) → OfNames Γ P (m ∷ row) → Γ x ≡ lacks → find x row ≡ at r → eqb x m.name ≡ false → P x r
  unfolding find found
  tail_of m row x r h l e q = h x r l (ap (λ (c : Bool). found c m.ref (find x row)) q ∙ e)

  -- a name that the environment holds is not x, which it lacks
  held-other : (m : Met) (x : ℕ) → (e : Entry) → Γ m.name ≡ e → (t : e ≡ lacks → ⊥) → Γ x ≡ lacks → eqb x m.name ≡ false
  held-other m x e p t l = go (eqb x m.name) refl
    where
      go : (c : Bool) → eqb x m.name ≡ c → eqb x m.name ≡ false
      go true q = absurd (t (sym p ∙ ap Γ (sym (eqb-true x m.name q)) ∙ l))
      go false q = q

  once_other : (m : Met) (row : Row) (x r : ℕ) → has m.name (row_lacking Γ row) ≡ false → Γ x ≡ lacks → find x row ≡ at r → eqb x m.name ≡ false
  once_other m row x r o l e = go (eqb x m.name) refl
    where
      go : (c : Bool) → eqb x m.name ≡ c → eqb x m.name ≡ false
      go true q = clash (sym (has-found Γ x row r l e) ∙ ap (λ (y : ℕ). has y (row_lacking Γ row)) (eqb-true x m.name q) ∙ o)
      go false q = q

  head_of : (m : Met) (row : Row) → OfNames Γ P (m ∷ row) → Γ m.name ≡ lacks → P m.name m.ref
  unfolding find found
  head_of m row h l = h m.name m.ref l (ap (λ (c : Bool). found c m.ref (find m.name row)) (eq-eqb m.name m.name refl))

  every_cons : (m : Met) (row : Row) (e : Entry) → Γ m.name ≡ e → Once (unheld e m ++ row_lacking Γ row) → OfNames Γ P (m ∷ row)
      → (Once (row_lacking Γ row) → OfNames Γ P row → Every (λ q. P q.key q.ref) (names Γ row)) → Every (λ q. P q.key q.ref) (ask_name e m (names Γ row))
  unfolding unheld ask_name
  every_cons m row lacks p o h rec = (head_of m row h p, rec o.1 (λ x r l e. tail_of m row x r h l e (once_other m row x r o.0 l e)))
  every_cons m row (holds t) p o h rec = rec o (λ x r l e. tail_of m row x r h l e (held-other m x (holds t) p (λ c. (let z : ◌≡◌ {A = ℕ} 0 1 = cc in omega arith)) l))

  every-name : (row : Row) → Once (row_lacking Γ row) → OfNames Γ P row → Every (λ q. P q.key q.ref) (names Γ row)
  unfolding names row_lacking
  every-name [] o h = tt
  every-name (m ∷ row) o h = every_cons m row (Γ m.name) refl o h (every-name row)

  -- of the names found, of the questions asked
  pub found-asked : (f : Formula) → OfNames Γ P (walked Γ f).row → Every (λ q. P q.key q.ref) (names Γ (walked Γ f).row)
  unfolding lacking
  found-asked f h = every-name (walked Γ f).row (subst Once (sym (walk-names Γ f)) (once_all [] (meetings_of Γ f) tt)) h

  -- of the questions asked, of the names found
  here : (m : Met) (row : Row) (e : Entry) → Γ m.name ≡ e → Every (λ q. P q.key q.ref) (ask_name e m (names Γ row)) → (Every (λ q. P q.key q.ref) (names Γ row) → OfNames Γ P row) → OfNames Γ P (m ∷ row)
  unfolding find found ask_name
  here m row lacks p h rec x r l e = go (eqb x m.name) refl e
    where
      go : (c : Bool) → eqb x m.name ≡ c → found c m.ref (find x row) ≡ at r → P x r
      go true q k = let y : m.ref ≡ r = cc in subst (λ (z : ℕ). P z r) (sym (eqb-true x m.name q)) (subst (λ (z : ℕ). P m.name z) y h.0)
      go false q k = rec h.1 x r l k
  here m row (holds t) p h rec x r l e = rec h x r l (sym (ap (λ (c : Bool). found c m.ref (find x row)) (held-other m x (holds t) p (λ c. (let z : ◌≡◌ {A = ℕ} 0 1 = cc in omega arith)) l)) ∙ e)

  pub asked-found : (row : Row) → Every (λ q. P q.key q.ref) (names Γ row) → OfNames Γ P row
  unfolding names find
  asked-found [] h = λ x r l e. (let z : ◌≡◌ {A = ℕ} 0 1 = cc in absurd (omega arith))
  asked-found (m ∷ row) h = here m row (Γ m.name) refl h (asked-found row)
