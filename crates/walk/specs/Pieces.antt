-- Names, types, notes, declarations and scripts: what each piece of the walk asks, in both directions.
-- Theorems that rest on what must-fail edits change stand in proofs/Pieces.antt.
use Prim.Native.Nat.{ℕ, zero, suc, ◌+◌}
use Rattle.std.specs.Prelude.{◌≡◌, true, ◌&&◌, leb}
use Rattle.std.proofs.Math.Path.{refl, sym, ap, ap₂}
use Rattle.std.proofs.Common.{◌∙◌, leb-true}
use mathlib.Core.List.{List, [], ◌∷◌, ◌++◌}
use native.Mathlib.Omega.{arith}
use Rattle.std.proofs.Math.ListN.{length}
use Rattle.types.specs.Ty.{bool, int, given, Ty, base, pow, prod}
use Rattle.formula.specs.Environment.{Entry, lacks, holds, Env}
use Rattle.formula.specs.Tree.{Decl}
use Rattle.unification.specs.Trees.{and_left, and_right}
use Rattle.unification.specs.Good.{Assignment}
use Rattle.unification.specs.Ops.{make, nodes, Meets}
use Rattle.typing.specs.Equations.{◌≐◌, a, b, d, T, C, Rule, read, Hold, Obeys, parts}
use Rattle.typing.specs.Rules.{under}
use Rattle.walk.specs.Writer.{Row, Found, at, absent, find, W, done, glue, ◌>>=◌, node, enrol, UNKNOWN, BOOLEAN, INTEGER, GIVEN, POWER, PRODUCT}
use Rattle.walk.specs.Scripts.{Ref, Item, Script, perform, three}
use Rattle.walk.specs.Walk.{atom, lift, from_env, known, over, name, note_of, meets, expr}
use Rattle.walk.specs.Tables.{Carries, locals, made, blank, claims, outcome, rule_of, ref_ok, scoped, fits, form-read, played, values, values_length, plays}
use Rattle.walk.specs.Triple.{meets-split, slot_types, find-left, find-new, Either, find-either, Reads, Lifted, Tame, tame_done, tame_enter, tame_bind, tame_own, tame_node, tame_same, Sat, Sound, sound-map, sound-bind, sound-same, Complete, complete_bind, complete_node, complete_same, complete_map, there, here}

-- ---- types
pub lift-row : (t : Ty) (n : ℕ) (row : Row) → (lift t n row).row ≡ row
unfolding lift atom node ◌>>=◌ glue
lift-row (base bool) n row = refl
lift-row (base int) n row = refl
lift-row (base (given x)) n row = refl
lift-row (pow t) n row = lift-row t n row
lift-row (prod t u) n row = lift-row u _ _ ∙ lift-row t n row

pub lift-met : (t : Ty) (σ : Assignment) (n : ℕ) (row : Row) → Meets σ n (lift t n row).ops → σ (lift t n row).result ≡ t
unfolding lift atom node ◌>>=◌ glue
lift-met (base bool) σ n row q = q.0
lift-met (base int) σ n row q = q.0
lift-met (base (given x)) σ n row q = q.0
lift-met (pow t) σ n row q = let p = meets-split σ n (lift t n row).ops _ q in p.1.0 ∙ ap pow (lift-met t σ n row p.0)
lift-met (prod t u) σ n row q =
    let p = meets-split σ n (lift t n row).ops _ q in
    let w = meets-split σ (n + nodes (lift t n row).ops) (lift u (n + nodes (lift t n row).ops) (lift t n row).row).ops (make PRODUCT (lift t n row).result (lift u (n + nodes (lift t n row).ops) (lift t n row).row).result ∷ []) p.1 in
    w.1.0 ∙ ap₂ prod (lift-met t σ n row p.0) (lift-met u σ _ _ w.0)

module _ {Γ : Env} where
  pub tame_lift : (t : Ty) → Tame Γ 0 (lift t)
  unfolding lift atom
  tame_lift (base bool) = tame_node BOOLEAN 0 0
  tame_lift (base int) = tame_node INTEGER 0 0
  tame_lift (base (given x)) = tame_node GIVEN x 0
  tame_lift (pow t) = tame_bind (tame_lift t) (λ x. tame_node POWER x 0)
  tame_lift (prod t u) = tame_bind (tame_lift t) (λ x. tame_bind (tame_lift u) (λ y. tame_node PRODUCT x y))

module _ (σ : Assignment) (τ ρ : ℕ → Ty) where
  pub sound-lift : (t : Ty) → Sound σ τ ρ (lift t) (λ k x. σ x ≡ t)
  sound-lift t = record { gives = λ n k row s. lift-met t σ n row s.met }

module _ (Γ : Env) (τ ρ : ℕ → Ty) where
  pub complete_lift : {k : ℕ} {C : Assignment → Type 0} (t : Ty) → Complete τ ρ k (lift t) C (λ σ x. σ x ≡ t)
  unfolding lift atom
  complete_lift (base bool) = complete_node τ ρ BOOLEAN 0 0 (base bool) (λ σ n c e. e)
  complete_lift (base int) = complete_node τ ρ INTEGER 0 0 (base int) (λ σ n c e. e)
  complete_lift (base (given x)) = complete_node τ ρ GIVEN x 0 (base (given x)) (λ σ n c e. e)
  complete_lift (pow t) = complete_bind τ ρ (tame_lift {Γ = Γ} t) (complete_lift t) (λ x. complete_node τ ρ POWER x 0 (pow t) (λ σ n c e. e ∙ ap pow (sym c.1)))
  complete_lift {k = k} (prod t u) = complete_bind τ ρ (tame_lift {Γ = Γ} t) (complete_lift {k = k} t) (λ x. complete_bind τ ρ (tame_lift {Γ = Γ} u) (complete_lift {k = k + 0} u)
      (λ y. complete_node τ ρ PRODUCT x y (prod t u) (λ σ n c e. e ∙ ap₂ prod (sym c.0.1) (sym c.1))))

-- ---- names
env_row : (e : Entry) (n : ℕ) (row : Row) → (from_env e n row).row ≡ row
unfolding from_env node
env_row lacks n row = refl
env_row (holds t) n row = lift-row t n row

holds-one : (t u : Ty) → holds t ≡ holds u → t ≡ u
holds-one t u e = cc

env_met : (e : Entry) (t : Ty) → e ≡ holds t → (σ : Assignment) (n : ℕ) (row : Row) → Meets σ n (from_env e n row).ops → σ (from_env e n row).result ≡ t
unfolding from_env
env_met lacks t h σ n row q = let z : ◌≡◌ {A = ℕ} 0 1 = cc in absurd (omega arith)
env_met (holds u) t h σ n row q = lift-met u σ n row q ∙ holds-one u t h

module _ (Γ : Env) where
  tame_env : (e : Entry) → Tame Γ 0 (from_env e)
  unfolding from_env
  tame_env lacks = tame_node UNKNOWN 0 0
  tame_env (holds t) = tame_lift t

  tame_met : (e : Entry) (x p : ℕ) → Γ x ≡ e → Tame Γ 0 (from_env e >>= λ r. enrol x p r)
  unfolding ◌>>=◌ glue enrol
  tame_met e x p h = record {
    counts = λ n row. counts-one e n row;
    keeps = λ n row y r q. find-left y r (from_env e n row).row _ ((tame_env e).keeps n row y r q);
    lifts = λ n row σ l q. (let w = meets-split σ n (from_env e n row).ops [] q in
        λ y r t f g. go n row σ ((tame_env e).lifts n row σ l w.0) w.0 y r t g (find-either y r (from_env e n row).row _ f));
  }
    where
      nothing-more : {A : Type 0} (xs : List A) → length (xs ++ []) ≡ length xs
      nothing-more [] = refl
      nothing-more (x ∷ xs) = ap suc (nothing-more xs)

      counts-one : (e : Entry) (n : ℕ) (row : Row) → length ((from_env e n row).slots ++ []) ≡ 0
      counts-one e n row = nothing-more (from_env e n row).slots ∙ (tame_env e).counts n row

      go : (n : ℕ) (row : Row) (σ : Assignment) → Lifted Γ σ (from_env e n row).row → Meets σ n (from_env e n row).ops → (y r : ℕ) (t : Ty) → Γ y ≡ holds t → Either y r (from_env e n row).row (record { name = x; ref = (from_env e n row).result; place = p }) → σ r ≡ t
      go n row σ l q y r t g (there f) = l y r t f g
      go n row σ l q y r t g (here a b) = ap σ b ∙ env_met e t (sym h ∙ ap Γ (sym a) ∙ g) σ n row q

  tame_known : (x p : ℕ) (f : Found) → Tame Γ 0 (known (Γ x) x p f)
  unfolding known
  tame_known x p (at r) = tame_done r
  tame_known x p absent = tame_met (Γ x) x p refl

  pub tame_name : (x p : ℕ) → Tame Γ 0 (name Γ x p)
  unfolding name
  tame_name x p = record {
    counts = λ n row. (tame_known x p (find x row)).counts n row;
    keeps = λ n row. (tame_known x p (find x row)).keeps n row;
    lifts = λ n row. (tame_known x p (find x row)).lifts n row;
  }

module _ (Γ : Env) (σ : Assignment) (τ ρ : ℕ → Ty) where
  sound-known : (x p n k : ℕ) (row : Row) (f : Found) → find x row ≡ f → Sat σ τ ρ n k (known (Γ x) x p f n row) → σ (known (Γ x) x p f n row).result ≡ ρ x
  unfolding known done ◌>>=◌ glue enrol
  sound-known x p n k row (at r) e s = s.named x r e
  sound-known x p n k row absent e s = s.named x (from_env (Γ x) n row).result (find-new x (from_env (Γ x) n row).result p (from_env (Γ x) n row).row (ap (find x) (env_row (Γ x) n row) ∙ e))

  pub sound-name : (x p : ℕ) → Sound σ τ ρ (name Γ x p) (λ k r. σ r ≡ ρ x)
  unfolding name
  sound-name x p = record { gives = λ n k row s. sound-known x p n k row (find x row) refl s }

module _ (Γ : Env) (τ ρ : ℕ → Ty) (agrees : (x : ℕ) (t : Ty) → Γ x ≡ holds t → ρ x ≡ t) where
  complete_env : {k : ℕ} {C : Assignment → Type 0} (x : ℕ) (e : Entry) → Γ x ≡ e → Complete τ ρ k (from_env e) C (λ σ r. σ r ≡ ρ x)
  unfolding from_env
  complete_env x lacks h = complete_node τ ρ UNKNOWN 0 0 (ρ x) (λ σ n c e. tt)
  complete_env x (holds t) h = complete_map τ ρ (λ σ c. c) (λ σ r c e. e ∙ sym (agrees x t h)) (complete_lift Γ τ ρ t)

  reads_more : (σ : Assignment) (x p r : ℕ) (row : Row) → Reads σ ρ row → σ r ≡ ρ x → Reads σ ρ (row ++ (record { name = x; ref = r; place = p } ∷ []))
  reads_more σ x p r row h e y s f = go (find-either y s row _ f)
    where
      go : Either y s row (record { name = x; ref = r; place = p }) → σ s ≡ ρ y
      go (there g) = h y s g
      go (here a b) = ap σ b ∙ e ∙ ap ρ (sym a)

  complete_enrol : {k : ℕ} {C : Assignment → Type 0} (x p r : ℕ) → Complete τ ρ k (enrol x p r) (λ σ. C σ × (σ r ≡ ρ x)) (λ σ r'. σ r' ≡ ρ x)
  unfolding enrol slot_types
  complete_enrol x p r = record { takes = λ n row. ([], refl, λ σ v h c. (record { met = tt; filled = tt; named = reads_more σ x p r row h c.1 }, c.1)) }

  pub complete_name : {k : ℕ} {C : Assignment → Type 0} (x p : ℕ) → Complete τ ρ k (name Γ x p) C (λ σ r. σ r ≡ ρ x)
  unfolding name known done slot_types
  complete_name {k = k} {C = C} x p = record { takes = λ n row. go n row (find x row) refl }
    where
      go : (n : ℕ) (row : Row) (f : Found) → find x row ≡ f → (vs : List Ty) × (length vs ≡ nodes (known (Γ x) x p f n row).ops)
          × ((σ : Assignment) → Carries σ n vs → Reads σ ρ row → C σ → Sat σ τ ρ n k (known (Γ x) x p f n row) × (σ (known (Γ x) x p f n row).result ≡ ρ x))
      go n row (at r) e = ([], refl, λ σ v h c. (record { met = tt; filled = tt; named = h }, h x r e))
      go n row absent e = (complete_bind τ ρ {C = C} (tame_env Γ (Γ x)) (complete_env x (Γ x) refl) (λ r. complete_enrol {C = C} x p r)).takes n row

-- ---- notes, declared and spelled types
module _ (Γ : Env) where
  pub tame_note_of : (e : Entry) (x p : ℕ) → Tame Γ 0 (note_of Γ e x p)
  unfolding note_of
  tame_note_of (holds t) x p = tame_done tt
  tame_note_of lacks x p = tame_bind (tame_name Γ x p) (λ t. tame_bind (tame_node GIVEN x 0) (λ g. tame_bind (tame_node POWER g 0) (λ s. tame_same t s p)))

  pub tame_meets : (t : Ty) (x p : ℕ) → Tame Γ 0 (meets Γ t x p)
  unfolding meets
  tame_meets t x p = tame_bind (tame_lift t) (λ y. tame_same x y p)

  pub tame_expr : {c : ℕ} {m : W ℕ} (p : ℕ) → Tame Γ c m → Tame Γ (suc c) (expr Γ p m)
  unfolding expr
  tame_expr p t = tame_enter (tame_own p t)

  pub tame_perform : (is : List Item) (g : Ref) (args places : ℕ → ℕ) → Tame Γ 0 (perform is g args places)
  unfolding perform
  tame_perform is g args places = record { counts = λ n row. refl; keeps = λ n row x r h. h; lifts = λ n row σ h q. h }

module _ (Γ : Env) (σ : Assignment) (τ ρ : ℕ → Ty) where
  pub sound-meets : (t : Ty) (x p : ℕ) → Sound σ τ ρ (meets Γ t x p) (λ k u. σ x ≡ t)
  unfolding meets
  sound-meets t x p = sound-map σ τ ρ (sound-bind σ τ ρ (tame_lift {Γ = Γ} t) (λ y. tame_same x y p) (sound-lift σ τ ρ t) (λ y. sound-same σ τ ρ x y p)) (λ k u q. q.2 ∙ q.1)

-- ---- declarations around: references xs have the types Δ, one by one
abbrev pub Seen : Assignment → List ℕ → List Ty → Type 0
Seen σ [] [] = Unit {0}
Seen σ [] (t ∷ Δ) = ⊥
Seen σ (x ∷ xs) [] = ⊥
Seen σ (x ∷ xs) (t ∷ Δ) = (σ x ≡ t) × Seen σ xs Δ

-- references xs have the types of the slots from k on, one for each declaration
abbrev pub Declared : (ℕ → Ty) → Assignment → List Decl → ℕ → List ℕ → Type 0
Declared τ σ [] k [] = Unit {0}
Declared τ σ [] k (x ∷ xs) = ⊥
Declared τ σ (d ∷ ds) k [] = ⊥
Declared τ σ (d ∷ ds) k (x ∷ xs) = (σ x ≡ τ k) × Declared τ σ ds (suc k) xs

pub seen-under : (Γ : Env) (τ ρ : ℕ → Ty) (σ : Assignment) (ds : List Decl) (k : ℕ) (xs B : List ℕ) (Δ : List Ty) → Declared τ σ ds k xs → Seen σ B Δ → Seen σ (over xs B) (under Γ τ ρ ds k Δ)
unfolding over under
seen-under Γ τ ρ σ [] k [] B Δ h s = s
seen-under Γ τ ρ σ [] k (x ∷ xs) B Δ h s = absurd h
seen-under Γ τ ρ σ (d ∷ ds) k [] B Δ h s = absurd h
seen-under Γ τ ρ σ (d ∷ ds) k (x ∷ xs) B Δ h s = seen-under Γ τ ρ σ ds (suc k) xs (x ∷ B) (τ k ∷ Δ) h.1 (h.0, s)

-- ---- scripts
abbrev pub PartsRead : Assignment → ℕ → (ℕ → ℕ) → (ℕ → Ty) → Type 0
PartsRead σ k args xs = (i : ℕ) → leb 1 i && leb i k ≡ true → σ (args i) ≡ xs i

pub no_parts : (σ : Assignment) (args : ℕ → ℕ) (xs : ℕ → Ty) → PartsRead σ 0 args xs
no_parts σ args xs i e =
    let p = leb-true 1 i (and_left (leb 1 i) (leb i 0) e) in
    let q = leb-true i 0 (and_right (leb 1 i) (leb i 0) e) in absurd (omega arith)

pub one-part : (σ : Assignment) (x y z : ℕ) (t u v : Ty) → σ y ≡ u → PartsRead σ 1 (three x y z) (parts t u v)
unfolding three parts
one-part σ x y z t u v h zero e = let p = leb-true 1 0 (and_left (leb 1 0) (leb 0 1) e) in absurd (omega arith)
one-part σ x y z t u v h (suc zero) e = h
one-part σ x y z t u v h (suc (suc i)) e = let p = leb-true (suc (suc i)) 1 (and_right (leb 1 (suc (suc i))) (leb (suc (suc i)) 1) e) in absurd (omega arith)

pub two-parts : (σ : Assignment) (x y z : ℕ) (t u v : Ty) → σ y ≡ u → σ z ≡ v → PartsRead σ 2 (three x y z) (parts t u v)
unfolding three parts
two-parts σ x y z t u v h g zero e = let p = leb-true 1 0 (and_left (leb 1 0) (leb 0 2) e) in absurd (omega arith)
two-parts σ x y z t u v h g (suc zero) e = h
two-parts σ x y z t u v h g (suc (suc i)) e = g

pub hold_more : (ν xs : ℕ → Ty) (es fs : Rule) → Hold ν xs es → Hold ν xs fs → Hold ν xs (es ++ fs)
hold_more ν xs [] fs h g = g
hold_more ν xs ((x ≐ y) ∷ es) fs h g = (h.0, hold_more ν xs es fs h.1 g)

hold_less : (ν xs : ℕ → Ty) (es fs : Rule) → Hold ν xs (es ++ fs) → Hold ν xs es × Hold ν xs fs
hold_less ν xs [] fs h = (tt, h)
hold_less ν xs ((x ≐ y) ∷ es) fs h = let p = hold_less ν xs es fs h.1 in ((h.0, p.0), p.1)

module _ (σ : Assignment) (τ ρ : ℕ → Ty) where
  pub sound-items : (k : ℕ) (is : List Item) (g : Ref) (args places : ℕ → ℕ) → scoped k 0 is ≡ true → Sound σ τ ρ (perform is g args places) (λ j x. (xs : ℕ → Ty) → PartsRead σ k args xs → Obeys (claims is) xs)
  unfolding perform claims
  sound-items k is g args places ok = record {
    gives = λ n j row s xs h.
        (λ i. σ (n + i), (played σ (λ i. σ (n + i)) xs args places n k h (λ i. refl) is blank 0 n (omega arith) ok (λ i l. absurd (omega arith)) s.met).0);
  }

  pub sound_script : (k : ℕ) (s : Script) (args places : ℕ → ℕ) → fits k s ≡ true → Sound σ τ ρ (perform s.items s.gives args places) (λ j x. (xs : ℕ → Ty) → PartsRead σ k args xs → σ x ≡ xs 0 → Obeys (rule_of s) xs)
  unfolding perform claims fits rule_of outcome read
  sound_script k s args places ok = record {
    gives = λ n j row q xs h e.
        (let w = played σ (λ i. σ (n + i)) xs args places n k h (λ i. refl) s.items blank 0 n (omega arith) (and_left (scoped k 0 s.items) (ref_ok k (made 0 s.items) s.gives) ok) (λ i l. absurd (omega arith)) q.met in (
          λ i. σ (n + i),
          hold_more (λ i. σ (n + i)) xs (claims s.items) ((T ≐ outcome s) ∷ []) w.0
              (sym e ∙ form-read σ (λ i. σ (n + i)) xs args places n k h (locals blank 0 s.items) (made 0 s.items) w.1 s.gives (and_right (scoped k 0 s.items) (ref_ok k (made 0 s.items) s.gives) ok), tt),
        ));
  }

module _ (τ ρ : ℕ → Ty) where
  pub complete_items : {j : ℕ} {C : Assignment → Type 0} (k : ℕ) (is : List Item) (g : Ref) (args places : ℕ → ℕ) (xs : ℕ → Ty) → scoped k 0 is ≡ true → ((σ : Assignment) → C σ → PartsRead σ k args xs) → Obeys (claims is) xs
      → Complete τ ρ j (perform is g args places) C (λ σ x. Unit {0})
  unfolding perform claims slot_types
  complete_items k is g args places xs ok h o = record {
    takes = λ n row. (
      values o.0 xs blank 0 is,
      values_length o.0 xs args places n is blank 0,
      λ σ v r c. (record { met = (plays σ o.0 xs args places n k (h σ c) is blank 0 n (omega arith) ok (λ i l. absurd (omega arith)) o.1 v).0; filled = tt; named = r }, tt),
    );
  }

  pub complete_script : {j : ℕ} {C : Assignment → Type 0} (k : ℕ) (s : Script) (args places : ℕ → ℕ) (xs : ℕ → Ty) → fits k s ≡ true → ((σ : Assignment) → C σ → PartsRead σ k args xs) → Obeys (rule_of s) xs
      → Complete τ ρ j (perform s.items s.gives args places) C (λ σ x. σ x ≡ xs 0)
  unfolding perform claims slot_types fits rule_of outcome read
  complete_script k s args places xs ok h o =
      let p = hold_less o.0 xs (claims s.items) ((T ≐ outcome s) ∷ []) o.1 in
      record {
        takes = λ n row. (
          values o.0 xs blank 0 s.items,
          values_length o.0 xs args places n s.items blank 0,
          λ σ v r c. (
              let w = plays σ o.0 xs args places n k (h σ c) s.items blank 0 n (omega arith) (and_left (scoped k 0 s.items) (ref_ok k (made 0 s.items) s.gives) ok) (λ i l. absurd (omega arith)) p.0 v in (
                record { met = w.0; filled = tt; named = r },
                form-read σ o.0 xs args places n k (h σ c) (locals blank 0 s.items) (made 0 s.items) w.1 s.gives (and_right (scoped k 0 s.items) (ref_ok k (made 0 s.items) s.gives) ok) ∙ sym p.1.0,
              )),
        );
      }

-- ---- the other way, for names and types
module _ (Γ : Env) (τ ρ : ℕ → Ty) (agrees : (x : ℕ) (t : Ty) → Γ x ≡ holds t → ρ x ≡ t) where
  pub complete_meets : {k : ℕ} {C : Assignment → Type 0} (t : Ty) (x p : ℕ) → ((σ : Assignment) → C σ → σ x ≡ t) → Complete τ ρ k (meets Γ t x p) C (λ σ u. Unit {0})
  unfolding meets
  complete_meets t x p h = complete_bind τ ρ (tame_lift {Γ = Γ} t) (complete_lift Γ τ ρ t) (λ y. complete_same τ ρ x y p (λ σ c. h σ c.0 ∙ sym c.1))
