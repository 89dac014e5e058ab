-- Scripts: playing a script of the machine runs the walk's script, for every operator at once.
-- After this file `runs_script` serves every operator; that the scripts and the walk's tables agree is computed.
use Prim.Native.Nat.{ℕ, zero, suc, ◌+◌, ◌≤◌, ◌<◌}
use Rattle.std.specs.Prelude.{◌≡◌, Bool, true, ◌&&◌, ltb}
use Rattle.std.proofs.Math.Path.{refl, ap, ap₂, subst}
use Rattle.std.proofs.Common.{◌∙◌}
use mathlib.Core.List.{List, [], ◌∷◌, ◌++◌}
use native.Mathlib.Omega.{arith}
use borrow.Author.Tests.{ltb-true, lt-ltb}
use Rattle.types.specs.declared.NodeRef.{NodeRef}
use Rattle.formula.specs.Environment.{Env}
use Rattle.unification.specs.Arena.{U}
use Rattle.unification.specs.Trees.{and_left, and_right}
use Rattle.unification.specs.Ops.{Op}
use Rattle.unification.specs.Make.{builds_unknown, builds_boolean, builds_integer, builds_power, builds_pair}
use Rattle.walk.specs.Writer.{Row, W, done, glue, ◌>>=◌, node, same}
use Rattle.walk.specs.Scripts.{Ref, arg, new, Item, an_unknown, a_bool, an_int, a_power, a_pair, equal, Script, scripted, pick, play}
use Rattle.machine.specs.State.{State}
use Rattle.operators.specs.declared.Script as MS
use Rattle.operators.specs.declared.Item as MI
use Rattle.operators.specs.declared.Item.TheVariants as I
use Rattle.operators.specs.declared.Operand.{Operand}
use Rattle.operators.specs.declared.Operand.TheVariants.{Left, Right, Own}
use Rattle.operators.specs.declared.Seat.{Seat}
use Rattle.operators.specs.declared.Seat.TheVariants.{Whole, Near, Far}
use Rattle.machine.specs.declared.Parts.{Parts}
use Rattle.forms.specs.Forms.{then}
use Rattle.machine.specs.Machine.{Mach, with_st, gave_of, make_of, expect_of}
use Rattle.operators.specs.Scripts.{items_in, given_by}
use Rattle.machine.specs.Scripts.{chosen_of, place_of, item_of, items_of, play_of}
use Rattle.simulation.specs.Relation.{Runs}
use Rattle.simulation.specs.Bind.{runs_bind}
use Rattle.simulation.specs.Stand.{gave_eq, runs_if, runs_map, runs_stand}
use Rattle.machine.specs.Still.{test_yes, still_items, still_gave}
use Rattle.simulation.specs.Steps.{told, runs_same, runs_told, runs_then}
use Rattle.simulation.specs.Nodes.{Came, Stood, runs_make, runs_expect}

-- ---- what a script of the machine is in the walk's words
unfoldable pub ref_of : Operand → Ref
ref_of Left = arg 1
ref_of Right = arg 2
ref_of (Own j) = new j

unfoldable pub seat_of : Seat → ℕ
seat_of Whole = 0
seat_of Near = 1
seat_of Far = 2

unfoldable pub item_as : MI.Item → Item
item_as I.Unknown = an_unknown
item_as I.Boolean = a_bool
item_as I.Integer = an_int
item_as (I.Power x) = a_power (ref_of x)
item_as (I.Product x y) = a_pair (ref_of x) (ref_of y)
item_as (I.Equal x y seat) = equal (ref_of x) (ref_of y) (seat_of seat)

unfoldable pub items_as : List MI.Item → List Item
items_as [] = []
items_as (it ∷ its) = item_as it ∷ items_as its

unfoldable pub script_as : MS.Script → Script
script_as n = scripted (items_as (items_in n)) (ref_of (given_by n))

-- the parts that a script may name: ka references and kp places
unfoldable pub within : ℕ → Operand → Bool
within k Left = ltb 1 k
within k Right = ltb 2 k
within k (Own j) = true

unfoldable pub fits : ℕ → ℕ → MI.Item → Bool
fits ka kp I.Unknown = true
fits ka kp I.Boolean = true
fits ka kp I.Integer = true
fits ka kp (I.Power x) = within ka x
fits ka kp (I.Product x y) = within ka x && within ka y
fits ka kp (I.Equal x y seat) = within ka x && (within ka y && ltb (seat_of seat) kp)

unfoldable pub all_fit : ℕ → ℕ → List MI.Item → Bool
all_fit ka kp [] = true
all_fit ka kp (it ∷ its) = fits ka kp it && all_fit ka kp its

unfoldable pub script_fits : ℕ → ℕ → MS.Script → Bool
script_fits ka kp n = within ka (given_by n) && all_fit ka kp (items_in n)

-- script n of the machine is these items and this result
abbrev pub Tied : ℕ → ℕ → MS.Script → Script → Type 0
Tied ka kp n s = (script_as n ≡ s) × (script_fits ka kp n ≡ true)

-- the parts by number: references from 0, none; places from 0, the record's
unfoldable pub part_at : Parts → ℕ → ℕ
part_at p zero = 0
part_at p (suc zero) = p.left.node.0
part_at p (suc (suc i)) = p.right.node.0

unfoldable pub seat_at : Parts → ℕ → ℕ
seat_at p zero = p.place.0
seat_at p (suc zero) = p.left.place.0
seat_at p (suc (suc i)) = p.right.place.0

-- for every number below n
unfoldable pub every : ℕ → (ℕ → Bool) → Bool
every zero f = true
every (suc n) f = f n && every n f

module _ (args places : ℕ → ℕ) (n0 : ℕ) where
  -- the items alone, from a fixed base
  unfoldable pub items : List Item → W U
  items is n row = record { ops = play args places n0 is; result = tt; row = row; slots = [] }

  items_nil : (n : ℕ) (row : Row) → done {A = U} tt n row ≡ items [] n row
  unfolding done items play
  items_nil n row = refl

  same_item : (x y : Ref) (w n : ℕ) (row : Row) → same (pick args n0 x) (pick args n0 y) (places w) n row ≡ items (equal x y w ∷ []) n row
  unfolding same items play
  same_item x y w n row = refl

  play_cons : (it : Item) (is : List Item) → play args places n0 (it ∷ []) ++ play args places n0 is ≡ play args places n0 (it ∷ is)
  unfolding play
  play_cons an_unknown is = refl
  play_cons a_bool is = refl
  play_cons an_int is = refl
  play_cons (a_power x) is = refl
  play_cons (a_pair x y) is = refl
  play_cons (equal x y w) is = refl

  pub items_cons : (it : Item) (is : List Item) (n : ℕ) (row : Row) → (items (it ∷ []) >>= λ _. items is) n row ≡ items (it ∷ is) n row
  unfolding items ◌>>=◌ glue
  items_cons it is n row = ap (λ (os : List Op). record { ops = os; result = tt; row = row; slots = [] }) (play_cons it is)

module _ (Γ : Env) (env : List ℕ) (cap room : ℕ) (wide : cap ≤ 32768)
    (p : Parts) (args places : ℕ → ℕ) (ka kp n0 : ℕ) (base : p.base ≡ n0) (low : n0 < 65536)
    (given : (i : ℕ) → i < ka → part_at p i ≡ args i) (seats : (i : ℕ) → i < kp → seat_at p i ≡ places i) where
  chosen : (o : Operand) → within ka o ≡ true → (chosen_of o p).0 ≡ pick args n0 (ref_of o)
  unfolding chosen_of within ref_of pick part_at
  chosen Left e = given 1 (ltb-true 1 ka e)
  chosen Right e = given 2 (ltb-true 2 ka e)
  chosen (Own j) e = ap (λ (r : NodeRef). r.0) (test_yes (ltb p.base 65536) _ _ (lt-ltb p.base 65536 (omega arith))) ∙ ap (λ (b : ℕ). b + j) base

  placed : (seat : Seat) → ltb (seat_of seat) kp ≡ true → (place_of seat p).0 ≡ places (seat_of seat)
  unfolding place_of seat_of seat_at
  placed Whole e = seats 0 (ltb-true 0 kp e)
  placed Near e = seats 1 (ltb-true 1 kp e)
  placed Far e = seats 2 (ltb-true 2 kp e)

  module _ (B : List ℕ) where
    abbrev Stays : Mach → Mach → W U → Type 0
    Stays m m' w = Runs Γ env cap room m m' w B (λ _. B) (λ _ v. Stood {A = U} m.st.at.0 m.st.from.0 tt v)

    as_node : (m m' : Mach) (k a b : ℕ) (w : W U) → ((n : ℕ) (row : Row) → told (λ _. tt) (node k a b) n row ≡ w n row) → m' ≡ make_of k a b m → Runs Γ env cap room m (make_of k a b m) (node k a b) B (λ _. B) (λ r v. Came m.st.at.0 m.st.from.0 r v) → Stays m m' w
    as_node m m' k a b w f e h =
        runs_if Γ env cap room m m' (make_of k a b m) w B (λ _. B) _ (λ _. e)
        (runs_same Γ env cap room m (make_of k a b m) (told (λ _. tt) (node k a b)) w B (λ _. B) _ f
        (runs_told Γ env cap room m (make_of k a b m) (λ _. tt) (node k a b) B B (λ r v. Came m.st.at.0 m.st.from.0 r v) (λ _ v. Stood {A = U} m.st.at.0 m.st.from.0 tt v) (λ r z. (z.0, z.1)) h))

    one_item : (it : MI.Item) (m : Mach) → fits ka kp it ≡ true → Stays m (item_of it p m) (items args places n0 (item_as it ∷ []))
    unfolding fits item_as item_of then items play told node
    one_item I.Unknown m e = as_node m _ 0x4E 0 0 (items args places n0 (an_unknown ∷ [])) (λ n row. refl) refl (runs_make Γ env cap room wide 0x4E 0 0 m builds_unknown B)
    one_item I.Boolean m e = as_node m _ 0x40 0 0 (items args places n0 (a_bool ∷ [])) (λ n row. refl) refl (runs_make Γ env cap room wide 0x40 0 0 m builds_boolean B)
    one_item I.Integer m e = as_node m _ 0x41 0 0 (items args places n0 (an_int ∷ [])) (λ n row. refl) refl (runs_make Γ env cap room wide 0x41 0 0 m builds_integer B)
    one_item (I.Power x) m e =
        let a : ℕ = pick args n0 (ref_of x) in
        as_node m _ 0x43 a 0 (items args places n0 (a_power (ref_of x) ∷ [])) (λ n row. refl) (ap (λ (k : ℕ). make_of 0x43 k 0 m) (chosen x e)) (runs_make Γ env cap room wide 0x43 a 0 m (builds_power a) B)
    one_item (I.Product x y) m e =
        let a : ℕ = pick args n0 (ref_of x) in
        let b : ℕ = pick args n0 (ref_of y) in
        as_node m _ 0x44 a b (items args places n0 (a_pair (ref_of x) (ref_of y) ∷ [])) (λ n row. refl)
        (ap₂ (λ (j k : ℕ). make_of 0x44 j k m) (chosen x (and_left (within ka x) _ e)) (chosen y (and_right (within ka x) _ e)))
        (runs_make Γ env cap room wide 0x44 a b m (builds_pair a b) B)
    one_item (I.Equal x y seat) m e =
        let a : ℕ = pick args n0 (ref_of x) in
        let b : ℕ = pick args n0 (ref_of y) in
        let q : ℕ = places (seat_of seat) in
        let h = and_right (within ka x) _ e in
        let f : expect_of (chosen_of x p).0 (chosen_of y p).0 (place_of seat p).0 m ≡ expect_of a b q m = rw (chosen x (and_left (within ka x) _ e), chosen y (and_left (within ka y) _ h), placed seat (and_right (within ka y) _ h)) refl in
        runs_if Γ env cap room m _ (expect_of a b q m) (items args places n0 (equal (ref_of x) (ref_of y) (seat_of seat) ∷ [])) B (λ _. B) _ (λ _. f)
        (runs_same Γ env cap room m (expect_of a b q m) (same a b q) (items args places n0 (equal (ref_of x) (ref_of y) (seat_of seat) ∷ [])) B (λ _. B) _ (same_item args places n0 (ref_of x) (ref_of y) (seat_of seat))
        (runs_expect Γ env cap room wide a b q m B))

    pub runs_items : (is : List MI.Item) (m : Mach) → all_fit ka kp is ≡ true → Stays m (items_of p is m) (items args places n0 (items_as is))
    unfolding all_fit items_of items_as
    runs_items [] m e = runs_same Γ env cap room m m (done tt) (items args places n0 []) B (λ _. B) _ (items_nil args places n0) (runs_stand Γ env cap room m m.st.at.0 m.st.from.0 m.st.last.0 tt B (λ _ v. Stood {A = U} m.st.at.0 m.st.from.0 tt v) (refl, refl))
    runs_items (it ∷ is) m e =
        let m1 : Mach = item_of it p m in
        runs_same Γ env cap room m (items_of p is m1) (items args places n0 (item_as it ∷ []) >>= λ _. items args places n0 (items_as is)) (items args places n0 (item_as it ∷ items_as is)) B (λ _. B) _ (items_cons args places n0 (item_as it) (items_as is))
        (runs_bind Γ env cap room m m1 (items_of p is m1) (items args places n0 (item_as it ∷ [])) (λ _. items args places n0 (items_as is)) B (λ _. B) (λ _. B) (λ _ v. Stood {A = U} m.st.at.0 m.st.from.0 tt v) (λ _ v. Stood {A = U} m.st.at.0 m.st.from.0 tt v)
        (λ h. ap (λ (x : Mach). x.st.stop) (still_items p is m1 h))
        (λ _ z. runs_map Γ env cap room m1 (items_of p is m1) (items args places n0 (items_as is)) B (λ _. B) _ _ (λ _ y. (y.0 ∙ z.0, y.1 ∙ z.1)) (runs_items is m1 (and_right (fits ka kp it) _ e)))
        (one_item it m (and_left (fits ka kp it) _ e)))

    -- a script played
    own_script : (n : MS.Script) (m : Mach) → script_fits ka kp n ≡ true → Runs Γ env cap room m (play_of n p m) (told (λ _. pick args n0 (ref_of (given_by n))) (items args places n0 (items_as (items_in n)))) B (λ _. B) (λ r v. Came m.st.at.0 m.st.from.0 r v)
    unfolding script_fits play_of then
    own_script n m e =
        let r : ℕ = pick args n0 (ref_of (given_by n)) in
        let c : ℕ = (chosen_of (given_by n) p).0 in
        let g : c ≡ r = chosen (given_by n) (and_left (within ka (given_by n)) _ e) in
        let m1 : Mach = items_of p (items_in n) m in
        let h = runs_items (items_in n) m (and_right (within ka (given_by n)) _ e) in
        runs_told Γ env cap room m (with_st (gave_of c m1.st) m1) (λ _. r) (items args places n0 (items_as (items_in n))) B B (λ _ v. Came m.st.at.0 m.st.from.0 r v) (λ r v. Came m.st.at.0 m.st.from.0 r v) (λ _ z. z)
        (runs_then Γ env cap room m m1 (with_st (gave_of c m1.st) m1) (items args places n0 (items_as (items_in n))) B (λ _. B) (λ _ v. Stood {A = U} m.st.at.0 m.st.from.0 tt v) (λ _ v. Came m.st.at.0 m.st.from.0 r v)
        (λ k. ap (λ (v : State). v.stop) (still_gave c m1.st k))
        (λ _ k z. (m1.st.at.0, m1.st.from.0, c, ap (λ (v : State). with_st v m1) (gave_eq c m1.st k), (z.0, z.1, g)))
        h)

    pub runs_script : (n : MS.Script) (s : Script) (m : Mach) → Tied ka kp n s → Runs Γ env cap room m (play_of n p m) (told (λ _. pick args n0 s.gives) (items args places n0 s.items)) B (λ _. B) (λ r v. Came m.st.at.0 m.st.from.0 r v)
    unfolding script_as scripted
    runs_script n s m e = subst (λ (x : Script). Runs Γ env cap room m (play_of n p m) (told (λ _. pick args n0 x.gives) (items args places n0 x.items)) B (λ _. B) (λ r v. Came m.st.at.0 m.st.from.0 r v)) e.0 (own_script n m e.1)
