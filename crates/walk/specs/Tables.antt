-- A script amounts to a rule, and the tables of scripts amount to the tables of rules: shown once for all operators.
-- After this file a reader knows that every operator's nodes and comparisons say exactly what its typing rule says.
-- Theorems that rest on what must-fail edits change stand in proofs/Tables.antt.
use Rattle.std.specs.Prelude.{ℕ, suc, ◌+◌, ◌<◌, ◌≡◌, Bool, true, false, ◌&&◌, eqb, ltb, leb, length}
use Rattle.std.proofs.Math.Path.{refl, sym, ap, ap₂}
use Rattle.std.proofs.Common.{◌∙◌, arith, eq-eqb, ne_eqb, ltb-true}
use mathlib.Core.List.{List, [], ◌∷◌, ◌++◌}
use Rattle.std.proofs.Math.Decide.{ℕ_discrete}
use Rattle.types.specs.Ty.{bool, int, Ty, base, pow, prod}
use Rattle.unification.specs.Trees.{and_left, and_right}
use Rattle.unification.specs.Good.{Assignment}
use Rattle.unification.specs.Ops.{nodes, Meets}
use Rattle.typing.specs.Equations.{Form, letter, part, BOOL, ℤ, ℙ, ◌⨯◌, ◌≐◌, ◌⟷◌, c, d, T, Rule, read, Hold, Many, alike, chain, no_rule, first_of, look, never_typed}
use Rattle.typing.specs.Rules.{quantified_rules}
use Rattle.walk.specs.Scripts.{Ref, arg, new, Item, an_unknown, a_bool, an_int, a_power, a_pair, equal, Script, pick, play, scripted, never_items, never_script, quantified_scripts, Gather, all_as, linked, no_script}

-- f holds the types vs from k on
abbrev pub Carries : (ℕ → Ty) → ℕ → List Ty → Type 0
Carries f k [] = Unit {0}
Carries f k (v ∷ vs) = (f k ≡ v) × Carries f (suc k) vs

-- ---- what a script's nodes stand for
unfoldable pub form : (ℕ → Form) → Ref → Form
form acc (arg i) = part i
form acc (new j) = acc j

unfoldable pub put : (ℕ → Form) → ℕ → Form → ℕ → Form
unfolding first_of
put acc m f j = first_of (eqb j m) f (acc j)

unfoldable pub equations : (ℕ → Form) → ℕ → List Item → Rule
unfolding form put
equations acc m [] = []
equations acc m (an_unknown ∷ is) = equations (put acc m (letter m)) (suc m) is
equations acc m (a_bool ∷ is) = equations (put acc m BOOL) (suc m) is
equations acc m (an_int ∷ is) = equations (put acc m ℤ) (suc m) is
equations acc m (a_power x ∷ is) = equations (put acc m (ℙ (form acc x))) (suc m) is
equations acc m (a_pair x y ∷ is) = equations (put acc m (form acc x ⨯ form acc y)) (suc m) is
equations acc m (equal x y w ∷ is) = (form acc x ≐ form acc y) ∷ equations acc m is

unfoldable pub locals : (ℕ → Form) → ℕ → List Item → ℕ → Form
unfolding form put
locals acc m [] = acc
locals acc m (an_unknown ∷ is) = locals (put acc m (letter m)) (suc m) is
locals acc m (a_bool ∷ is) = locals (put acc m BOOL) (suc m) is
locals acc m (an_int ∷ is) = locals (put acc m ℤ) (suc m) is
locals acc m (a_power x ∷ is) = locals (put acc m (ℙ (form acc x))) (suc m) is
locals acc m (a_pair x y ∷ is) = locals (put acc m (form acc x ⨯ form acc y)) (suc m) is
locals acc m (equal x y w ∷ is) = locals acc m is

unfoldable pub made : ℕ → List Item → ℕ
made m [] = m
made m (an_unknown ∷ is) = made (suc m) is
made m (a_bool ∷ is) = made (suc m) is
made m (an_int ∷ is) = made (suc m) is
made m (a_power x ∷ is) = made (suc m) is
made m (a_pair x y ∷ is) = made (suc m) is
made m (equal x y w ∷ is) = made m is

abbrev pub blank : ℕ → Form
blank j = letter j

-- the rule that a script amounts to
unfoldable pub claims : List Item → Rule
unfolding equations
claims is = equations blank 0 is

unfoldable pub outcome : Script → Form
unfolding form locals
outcome s = form (locals blank 0 s.items) s.gives

unfoldable pub rule_of : Script → Rule
unfolding claims outcome
rule_of s = claims s.items ++ ((T ≐ outcome s) ∷ [])

-- ---- the tables of scripts are the tables of rules
unfoldable pub rows : {A B : Type 0} → (A → B) → List (ℕ × A) → List (ℕ × B)
rows f [] = []
rows f (x ∷ xs) = (x.0, f x.1) ∷ rows f xs

first_of-map : {A B : Type 0} (f : A → B) (c : Bool) (x y : A) → f (first_of c x y) ≡ first_of c (f x) (f y)
unfolding first_of
first_of-map f true x y = refl
first_of-map f false x y = refl

pub look-map : {A B : Type 0} (f : A → B) (xs : List (ℕ × A)) (z : A) (o : ℕ) → f (look xs z o) ≡ look (rows f xs) (f z) o
unfolding look rows
look-map f [] z o = refl
look-map f (x ∷ xs) z o = first_of-map f (leb o x.0) x.1 (look xs z o) ∙ ap (first_of (leb o x.0) (f x.1)) (look-map f xs z o)

pub quantified-table : (o : ℕ) → rule_of (look quantified_scripts never_script o) ≡ look quantified_rules never_typed o
unfolding rule_of rows claims equations outcome locals form put first_of scripted quantified_scripts never_script quantified_rules never_typed ◌⟷◌
quantified-table o = look-map rule_of quantified_scripts never_script o

unfoldable pub many_of : Gather → Many
unfolding outcome
many_of (all_as s) = alike (outcome s) (outcome s)
many_of (linked way) = chain way
many_of no_script = no_rule

-- ---- references stay inside: parts up to the arity, own nodes already made
unfoldable pub ref_ok : ℕ → ℕ → Ref → Bool
ref_ok k m (arg i) = leb 1 i && leb i k
ref_ok k m (new j) = ltb j m

unfoldable pub scoped : ℕ → ℕ → List Item → Bool
unfolding ref_ok
scoped k m [] = true
scoped k m (an_unknown ∷ is) = scoped k (suc m) is
scoped k m (a_bool ∷ is) = scoped k (suc m) is
scoped k m (an_int ∷ is) = scoped k (suc m) is
scoped k m (a_power x ∷ is) = ref_ok k m x && scoped k (suc m) is
scoped k m (a_pair x y ∷ is) = ref_ok k m x && (ref_ok k m y && scoped k (suc m) is)
scoped k m (equal x y w ∷ is) = ref_ok k m x && (ref_ok k m y && scoped k m is)

unfoldable pub fits : ℕ → Script → Bool
unfolding scoped ref_ok made
fits k s = scoped k 0 s.items && ref_ok k (made 0 s.items) s.gives

unfoldable pub all_rows : {A : Type 0} → (A → Bool) → List (ℕ × A) → A → Bool
all_rows f [] z = f z
all_rows f (x ∷ xs) z = f x.1 && all_rows f xs z

first_of-true : {A : Type 0} (f : A → Bool) (c : Bool) (x y : A) → f x ≡ true → f y ≡ true → f (first_of c x y) ≡ true
unfolding first_of
first_of-true f true x y e h = e
first_of-true f false x y e h = h

pub look-true : {A : Type 0} (f : A → Bool) (xs : List (ℕ × A)) (z : A) (o : ℕ) → all_rows f xs z ≡ true → f (look xs z o) ≡ true
unfolding look all_rows
look-true f [] z o e = e
look-true f (x ∷ xs) z o e = first_of-true f (leb o x.0) x.1 (look xs z o) (and_left (f x.1) (all_rows f xs z) e) (look-true f xs z o (and_right (f x.1) (all_rows f xs z) e))

pub quantified-fits : (o : ℕ) → fits 1 (look quantified_scripts never_script o) ≡ true
unfolding all_rows fits scoped ref_ok made scripted quantified_scripts never_script never_items
quantified-fits o = look-true (fits 1) quantified_scripts never_script o refl

unfoldable pub silent : Rule → Bool
silent [] = true
silent (e ∷ es) = false

pub silent_nil : (es : Rule) → silent es ≡ true → es ≡ []
unfolding silent
silent_nil [] e = refl
silent_nil (x ∷ es) e = cc

-- a script that stands before children compares nothing
unfoldable pub gathers : Gather → Bool
unfolding fits silent claims
gathers (all_as s) = fits 0 s && silent (claims s.items)
gathers (linked way) = true
gathers no_script = true

-- ---- both directions, for types ν of the letters and xs of the parts
module _ (σ : Assignment) (ν xs : ℕ → Ty) (args places : ℕ → ℕ) (n k : ℕ) (parts-read : (i : ℕ) → leb 1 i && leb i k ≡ true → σ (args i) ≡ xs i) where
  -- the first m nodes are what their forms say
  abbrev Known : (ℕ → Form) → ℕ → Type 0
  Known acc m = (j : ℕ) → j < m → σ (n + j) ≡ read ν xs (acc j)

  pub form-read : (acc : ℕ → Form) (m : ℕ) → Known acc m → (x : Ref) → ref_ok k m x ≡ true → σ (pick args n x) ≡ read ν xs (form acc x)
  unfolding pick form ref_ok read
  form-read acc m h (arg i) e = parts-read i e
  form-read acc m h (new j) e = h j (ltb-true j m e)

  put-at : (acc : ℕ → Form) (m j : ℕ) (f : Form) → j ≡ m → put acc m f j ≡ f
  unfolding put first_of
  put-at acc m j f e = rw (eq-eqb j m e) refl

  put_off : (acc : ℕ → Form) (m j : ℕ) (f : Form) → (j ≡ m → ⊥) → put acc m f j ≡ acc j
  unfolding put first_of
  put_off acc m j f e = rw (ne_eqb j m e) refl

  put-known : (acc : ℕ → Form) (m : ℕ) (f : Form) → Known acc m → σ (n + m) ≡ read ν xs f → Known (put acc m f) (suc m)
  put-known acc m f h e j q = go (ℕ_discrete j m)
    where
      go : Dec (j ≡ m) → σ (n + j) ≡ read ν xs (put acc m f j)
      go (yes d) = ap (λ (z : ℕ). σ (n + z)) d ∙ e ∙ ap (read ν xs) (sym (put-at acc m j f d))
      go (no d) = h j (omega arith) ∙ ap (read ν xs) (sym (put_off acc m j f d))

  here : (c m : ℕ) → c ≡ n + m → (t : Ty) → σ c ≡ t → σ (n + m) ≡ t
  here c m e t h = ap σ (sym e) ∙ h

  -- letters stand for the script's unknowns: what the operations ask is what the rule says
  module _ (own : (j : ℕ) → ν j ≡ σ (n + j)) where
    pub played : (is : List Item) (acc : ℕ → Form) (m c : ℕ) → c ≡ n + m → scoped k m is ≡ true → Known acc m → Meets σ c (play args places n is) → Hold ν xs (equations acc m is) × Known (locals acc m is) (made m is)
    unfolding play equations locals made scoped read
    played [] acc m c e s h q = (tt, h)
    played (an_unknown ∷ is) acc m c e s h q = played is (put acc m (letter m)) (suc m) (suc c) (omega arith) s (put-known acc m (letter m) h (sym (own m))) q.1
    played (a_bool ∷ is) acc m c e s h q = played is (put acc m BOOL) (suc m) (suc c) (omega arith) s (put-known acc m BOOL h (here c m e _ q.0)) q.1
    played (an_int ∷ is) acc m c e s h q = played is (put acc m ℤ) (suc m) (suc c) (omega arith) s (put-known acc m ℤ h (here c m e _ q.0)) q.1
    played (a_power x ∷ is) acc m c e s h q =
        let ox = and_left (ref_ok k m x) (scoped k (suc m) is) s in
        played is (put acc m (ℙ (form acc x))) (suc m) (suc c) (omega arith) (and_right (ref_ok k m x) (scoped k (suc m) is) s)
        (put-known acc m (ℙ (form acc x)) h (here c m e _ (q.0 ∙ ap pow (form-read acc m h x ox)))) q.1
    played (a_pair x y ∷ is) acc m c e s h q =
        let ox = and_left (ref_ok k m x) (ref_ok k m y && scoped k (suc m) is) s in
        let so = and_right (ref_ok k m x) (ref_ok k m y && scoped k (suc m) is) s in
        let oy = and_left (ref_ok k m y) (scoped k (suc m) is) so in
        played is (put acc m (form acc x ⨯ form acc y)) (suc m) (suc c) (omega arith) (and_right (ref_ok k m y) (scoped k (suc m) is) so)
        (put-known acc m (form acc x ⨯ form acc y) h (here c m e _ (q.0 ∙ ap₂ prod (form-read acc m h x ox) (form-read acc m h y oy)))) q.1
    played (equal x y w ∷ is) acc m c e s h q =
        let ox = and_left (ref_ok k m x) (ref_ok k m y && scoped k m is) s in
        let so = and_right (ref_ok k m x) (ref_ok k m y && scoped k m is) s in
        let oy = and_left (ref_ok k m y) (scoped k m is) so in
        let p = played is acc m c e (and_right (ref_ok k m y) (scoped k m is) so) h q.1 in
        ((sym (form-read acc m h x ox) ∙ q.0 ∙ form-read acc m h y oy, p.0), p.1)

-- the types of a script's nodes, in order
unfoldable pub values : (ℕ → Ty) → (ℕ → Ty) → (ℕ → Form) → ℕ → List Item → List Ty
unfolding read form put
values ν xs acc m [] = []
values ν xs acc m (an_unknown ∷ is) = ν m ∷ values ν xs (put acc m (letter m)) (suc m) is
values ν xs acc m (a_bool ∷ is) = base bool ∷ values ν xs (put acc m BOOL) (suc m) is
values ν xs acc m (an_int ∷ is) = base int ∷ values ν xs (put acc m ℤ) (suc m) is
values ν xs acc m (a_power x ∷ is) = read ν xs (ℙ (form acc x)) ∷ values ν xs (put acc m (ℙ (form acc x))) (suc m) is
values ν xs acc m (a_pair x y ∷ is) = read ν xs (form acc x ⨯ form acc y) ∷ values ν xs (put acc m (form acc x ⨯ form acc y)) (suc m) is
values ν xs acc m (equal x y w ∷ is) = values ν xs acc m is

pub values_length : (ν xs : ℕ → Ty) (args places : ℕ → ℕ) (n : ℕ) (is : List Item) (acc : ℕ → Form) (m : ℕ) → length (values ν xs acc m is) ≡ nodes (play args places n is)
unfolding values play
values_length ν xs args places n [] acc m = refl
values_length ν xs args places n (an_unknown ∷ is) acc m = ap suc (values_length ν xs args places n is _ (suc m))
values_length ν xs args places n (a_bool ∷ is) acc m = ap suc (values_length ν xs args places n is _ (suc m))
values_length ν xs args places n (an_int ∷ is) acc m = ap suc (values_length ν xs args places n is _ (suc m))
values_length ν xs args places n (a_power x ∷ is) acc m = ap suc (values_length ν xs args places n is _ (suc m))
values_length ν xs args places n (a_pair x y ∷ is) acc m = ap suc (values_length ν xs args places n is _ (suc m))
values_length ν xs args places n (equal x y w ∷ is) acc m = values_length ν xs args places n is acc m

module _ (σ : Assignment) (ν xs : ℕ → Ty) (args places : ℕ → ℕ) (n k : ℕ) (parts-read : (i : ℕ) → leb 1 i && leb i k ≡ true → σ (args i) ≡ xs i) where
  pub plays : (is : List Item) (acc : ℕ → Form) (m c : ℕ) → c ≡ n + m → scoped k m is ≡ true → ((j : ℕ) → j < m → σ (n + j) ≡ read ν xs (acc j)) → Hold ν xs (equations acc m is) → Carries σ c (values ν xs acc m is)
      → Meets σ c (play args places n is) × ((j : ℕ) → j < made m is → σ (n + j) ≡ read ν xs (locals acc m is j))
  unfolding play equations locals made scoped read values
  plays [] acc m c e s h q v = (tt, h)
  plays (an_unknown ∷ is) acc m c e s h q v =
      let p = plays is (put acc m (letter m)) (suc m) (suc c) (omega arith) s (put-known σ ν xs args places n k parts-read acc m (letter m) h (here σ ν xs args places n k parts-read c m e _ v.0)) q v.1 in
      ((tt, p.0), p.1)
  plays (a_bool ∷ is) acc m c e s h q v =
      let p = plays is (put acc m BOOL) (suc m) (suc c) (omega arith) s (put-known σ ν xs args places n k parts-read acc m BOOL h (here σ ν xs args places n k parts-read c m e _ v.0)) q v.1 in
      ((v.0, p.0), p.1)
  plays (an_int ∷ is) acc m c e s h q v =
      let p = plays is (put acc m ℤ) (suc m) (suc c) (omega arith) s (put-known σ ν xs args places n k parts-read acc m ℤ h (here σ ν xs args places n k parts-read c m e _ v.0)) q v.1 in
      ((v.0, p.0), p.1)
  plays (a_power x ∷ is) acc m c e s h q v =
      let ox = and_left (ref_ok k m x) (scoped k (suc m) is) s in
      let p = plays is (put acc m (ℙ (form acc x))) (suc m) (suc c) (omega arith) (and_right (ref_ok k m x) (scoped k (suc m) is) s) (put-known σ ν xs args places n k parts-read acc m (ℙ (form acc x)) h (here σ ν xs args places n k parts-read c m e _ v.0)) q v.1 in
      ((v.0 ∙ ap pow (sym (form-read σ ν xs args places n k parts-read acc m h x ox)), p.0), p.1)
  plays (a_pair x y ∷ is) acc m c e s h q v =
      let ox = and_left (ref_ok k m x) (ref_ok k m y && scoped k (suc m) is) s in
      let so = and_right (ref_ok k m x) (ref_ok k m y && scoped k (suc m) is) s in
      let oy = and_left (ref_ok k m y) (scoped k (suc m) is) so in
      let p = plays is (put acc m (form acc x ⨯ form acc y)) (suc m) (suc c) (omega arith) (and_right (ref_ok k m y) (scoped k (suc m) is) so) (put-known σ ν xs args places n k parts-read acc m (form acc x ⨯ form acc y) h (here σ ν xs args places n k parts-read c m e _ v.0)) q v.1 in
      ((v.0 ∙ ap₂ prod (sym (form-read σ ν xs args places n k parts-read acc m h x ox)) (sym (form-read σ ν xs args places n k parts-read acc m h y oy)), p.0), p.1)
  plays (equal x y w ∷ is) acc m c e s h q v =
      let ox = and_left (ref_ok k m x) (ref_ok k m y && scoped k m is) s in
      let so = and_right (ref_ok k m x) (ref_ok k m y && scoped k m is) s in
      let oy = and_left (ref_ok k m y) (scoped k m is) so in
      let p = plays is acc m c e (and_right (ref_ok k m y) (scoped k m is) so) h q.1 v in
      ((form-read σ ν xs args places n k parts-read acc m h x ox ∙ q.0 ∙ sym (form-read σ ν xs args places n k parts-read acc m h y oy), p.0), p.1)
