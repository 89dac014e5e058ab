-- The shapes of the walk's rules: one expression and a script, two and a script. Rows of expressions stand in `Children` and `Gathers`.
-- Each is shown for any walk of an expression one level below.
use Rattle.std.specs.Prelude.{ℕ, ◌+◌, ◌≤◌, ◌≡◌, refl, List, [], ◌∷◌}
use Rattle.std.proofs.Common.{sym, ◌∙◌, subst, arith}
use Rattle.std.proofs.Math.Path.{ap, ap₂}
use Rattle.formula.specs.Environment.{Env}
use Rattle.formula.specs.Tree.{Expr, place}
use Rattle.formula.specs.Spell.{size}
use Rattle.typing.specs.Equations.{Way, forward, backward}
use Rattle.unification.specs.Ops.{make}
use Rattle.walk.specs.Writer.{Row, W, glue, ◌>>=◌, node, unknown, power, UNKNOWN, POWER, PRODUCT}
use Rattle.walk.specs.Scripts.{new, an_unknown, a_power, a_pair, Script, scripted, pick, play, perform, three, left, right}
use Rattle.walk.specs.Walk.{Mode, loose, each, links, relation, walk}
use Rattle.machine.specs.State.{State}
use Rattle.operators.specs.declared.Script as MS
use Rattle.operators.specs.declared.Script.TheVariants as S
use Rattle.operators.specs.declared.Mode.TheVariants.{Loose, Same, Linked}
use Rattle.operators.specs.declared.Plan.{Plan}
use Rattle.operators.specs.Scripts.{items_in, given_by}
use Rattle.forms.specs.Forms.{then}
use Rattle.machine.specs.Machine.{Mach, with_st, gave_of}
use Rattle.machine.specs.Scripts.{chosen_of, parts_of, items_of, play_of}
use Rattle.walker.specs.Walk.{one_by, two_by}
use Rattle.simulation.specs.Relation.{Runs}
use Rattle.simulation.specs.Bind.{runs_bind}
use Rattle.simulation.specs.Stand.{runs_map}
use Rattle.machine.specs.Still.{still_play}
use Rattle.walker.specs.StillWalk.{Still}
use Rattle.simulation.specs.Steps.{told}
use Rattle.simulation.specs.Nodes.{Came, Gave}
use Rattle.simulation.specs.Play.{ref_of, seat_of, item_as, items_as, script_as, within, fits, all_fit, script_fits, Tied, items}
use Rattle.simulation.specs.Perform.{three_chosen, three-placed, two-placed, runs_perform}

-- ---- pieces that a script performs, otherwise written
pub unknown-is : (args places : ℕ → ℕ) (n : ℕ) (row : Row) → perform (an_unknown ∷ []) (new 0) args places n row ≡ unknown n row
unfolding perform play pick node
unknown-is args places n row = let z : n + 0 ≡ n = omega arith in ap (λ (k : ℕ). record { ops = make UNKNOWN 0 0 ∷ []; result = k; row = row; slots = [] }) z

pub power-is : (x y : ℕ) (places : ℕ → ℕ) (n : ℕ) (row : Row) → perform (a_power left ∷ []) (new 0) (three 0 x y) places n row ≡ power x n row
unfolding perform play pick node three
power-is x y places n row = let z : n + 0 ≡ n = omega arith in ap (λ (k : ℕ). record { ops = make POWER x 0 ∷ []; result = k; row = row; slots = [] }) z

pub set_is : {A : Type 0} (args places : ℕ → ℕ) (K : ℕ → W A) (n : ℕ) (row : Row) → (perform (an_unknown ∷ a_power (new 0) ∷ []) (new 1) args places >>= K) n row ≡ (unknown >>= λ x. power x >>= K) n row
unfolding perform play pick node ◌>>=◌ glue
set_is {A = A} args places K n row =
    let a : n + 0 ≡ n = omega arith in
    let b : n + 2 ≡ n + 1 + 1 = omega arith in
    ap₂ (λ (i j : ℕ). record { ops = make UNKNOWN 0 0 ∷ make POWER i 0 ∷ (K (n + 1) j row).ops; result = (K (n + 1) j row).result; row = (K (n + 1) j row).row; slots = (K (n + 1) j row).slots }) a b

unfoldable pub ends_as : Way → Script
ends_as forward = scripted (a_pair left right ∷ a_power (new 0) ∷ []) (new 1)
ends_as backward = scripted (a_pair right left ∷ a_power (new 0) ∷ []) (new 1)

pub relation-is : (way : Way) (s t : ℕ) (places : ℕ → ℕ) (n : ℕ) (row : Row) → perform (ends_as way).items (ends_as way).gives (three 0 s t) places n row ≡ relation way s t n row
unfolding perform play pick node ◌>>=◌ glue relation ends_as scripted three
relation-is forward s t places n row = let a : n + 0 ≡ n = omega arith in ap (λ (i : ℕ). record { ops = make PRODUCT s t ∷ make POWER i 0 ∷ []; result = n + 1; row = row; slots = [] }) a
relation-is backward s t places n row = let a : n + 0 ≡ n = omega arith in ap (λ (i : ℕ). record { ops = make PRODUCT t s ∷ make POWER i 0 ∷ []; result = n + 1; row = row; slots = [] }) a

-- a link: an unknown where it ends, and the relation to it
unfoldable pub link_as : Way → Script
link_as forward = scripted (an_unknown ∷ a_pair left (new 0) ∷ a_power (new 1) ∷ []) (new 2)
link_as backward = scripted (an_unknown ∷ a_pair (new 0) left ∷ a_power (new 1) ∷ []) (new 2)

unfoldable pub link_script : Way → MS.Script
link_script forward = S.Forth
link_script backward = S.Back

unfoldable pub end_script : Way → MS.Script
end_script forward = S.ForthAll
end_script backward = S.BackAll

pub link-tied : (way : Way) → Tied 3 0 (link_script way) (link_as way)
unfolding script_as items_as item_as ref_of seat_of items_in given_by script_fits all_fit fits within scripted link_as link_script
link-tied forward = (refl, refl)
link-tied backward = (refl, refl)

pub end-tied : (way : Way) → Tied 3 0 (end_script way) (ends_as way)
unfolding script_as items_as item_as ref_of seat_of items_in given_by script_fits all_fit fits within scripted ends_as end_script
end-tied forward = (refl, refl)
end-tied backward = (refl, refl)

linked-at : {A : Type 0} (way : Way) (s : ℕ) (places : ℕ → ℕ) (K : ℕ → ℕ → W A) (n : ℕ) (row : Row)
    → (told (λ _. pick (three 0 s s) n (link_as way).gives) (items (three 0 s s) places n (link_as way).items) >>= λ y. K n y) n row ≡ (unknown >>= λ t. relation way s t >>= λ y. K t y) n row
unfolding told items play pick node ◌>>=◌ glue relation link_as scripted three
linked-at forward s places K n row =
    let a : n + 0 ≡ n = omega arith in
    let b : n + 2 ≡ n + 1 + 1 = omega arith in
    let c : n + 3 ≡ n + 1 + 2 = omega arith in
    ap (λ (i : ℕ). record { ops = make UNKNOWN 0 0 ∷ make PRODUCT s i ∷ make POWER (n + 1) 0 ∷ (K n (n + 2) (n + 3) row).ops; result = (K n (n + 2) (n + 3) row).result; row = (K n (n + 2) (n + 3) row).row; slots = (K n (n + 2) (n + 3) row).slots }) a
    ∙ ap₂ (λ (y k : ℕ). record { ops = make UNKNOWN 0 0 ∷ make PRODUCT s n ∷ make POWER (n + 1) 0 ∷ (K n y k row).ops; result = (K n y k row).result; row = (K n y k row).row; slots = (K n y k row).slots }) b c
linked-at backward s places K n row =
    let a : n + 0 ≡ n = omega arith in
    let b : n + 2 ≡ n + 1 + 1 = omega arith in
    let c : n + 3 ≡ n + 1 + 2 = omega arith in
    ap (λ (i : ℕ). record { ops = make UNKNOWN 0 0 ∷ make PRODUCT i s ∷ make POWER (n + 1) 0 ∷ (K n (n + 2) (n + 3) row).ops; result = (K n (n + 2) (n + 3) row).result; row = (K n (n + 2) (n + 3) row).row; slots = (K n (n + 2) (n + 3) row).slots }) a
    ∙ ap₂ (λ (y k : ℕ). record { ops = make UNKNOWN 0 0 ∷ make PRODUCT n s ∷ make POWER (n + 1) 0 ∷ (K n y k row).ops; result = (K n y k row).result; row = (K n y k row).row; slots = (K n y k row).slots }) b c

pub linked-is : {A : Type 0} (way : Way) (s : ℕ) (places : ℕ → ℕ) (K : ℕ → ℕ → W A) (n0 n : ℕ) (row : Row) → n0 ≡ n
    → (told (λ _. pick (three 0 s s) n0 (link_as way).gives) (items (three 0 s s) places n0 (link_as way).items) >>= λ y. K n0 y) n row ≡ (unknown >>= λ t. relation way s t >>= λ y. K t y) n row
linked-is way s places K n0 n row e =
    subst (λ (k : ℕ). (told (λ _. pick (three 0 s s) k (link_as way).gives) (items (three 0 s s) places k (link_as way).items) >>= λ y. K k y) n row ≡ (unknown >>= λ t. relation way s t >>= λ y. K t y) n row) (sym e) (linked-at way s places K n row)

-- the script of no items gives the left part
pub play-nothing : (x pl y pr q : ℕ) (v : State) (m : Mach) → play_of S.Nothing (parts_of x pl y pr q v) m ≡ with_st (gave_of x m.st) m
unfolding play_of items_in given_by items_of chosen_of parts_of then
play-nothing x pl y pr q v m = refl

pub parts-base : (x pl y pr q : ℕ) (v : State) → (parts_of x pl y pr q v).base ≡ v.nodes
unfolding parts_of
parts-base x pl y pr q v = refl

-- ---- how a plan's child is compared
unfoldable pub Moded : Plan → ℕ → Mode → Type 0
Moded p y loose = (p.link ≡ S.Nothing) × (p.mode ≡ Loose)
Moded p y (each x) = (p.link ≡ S.Nothing) × (p.mode ≡ Same) × (y ≡ x)
Moded p y (links way x) = (p.link ≡ link_script way) × (p.mode ≡ Linked) × (y ≡ x)

module _ (Γ : Env) (env : List ℕ) (cap room : ℕ) (wide : cap ≤ 32768) where
  -- an expression's walk at p
  abbrev pub Goes : (Mach → Mach) → Expr → List ℕ → ℕ → Type 0
  Goes E e B p = (m : Mach) → m.st.at.0 ≡ p → Runs Γ env cap room m (E m) (walk Γ e B) B (λ _. B) (λ r v. Came (p + size e) (place e) r v)

  module _ (E : Mach → Mach) (stays : Still E) (B : List ℕ) where
    pub runs_one : (e : Expr) (p : ℕ) → Goes E e B p → (n : MS.Script) (sc : Script) (q : ℕ) → Tied 3 2 n sc → (m : Mach) → m.st.at.0 ≡ p
        → Runs Γ env cap room m (one_by E n q m) (walk Γ e B >>= λ x. perform sc.items sc.gives (three 0 x 0) (three q (place e) 0)) B (λ _. B) (λ r v. Gave (p + size e) r v)
    unfolding one_by then
    runs_one e p goes n sc q t m at0 =
        let a : Mach = E m in
        let z = parts_of a.st.last.0 a.st.from.0 0 q q a.st in
        runs_bind Γ env cap room m a (play_of n z a) (walk Γ e B) (λ x. perform sc.items sc.gives (three 0 x 0) (three q (place e) 0)) B (λ _. B) (λ _. B) (λ r v. Came (p + size e) (place e) r v) (λ r v. Gave (p + size e) r v)
        (λ h. ap (λ (y : Mach). y.st.stop) (still_play n z a h))
        (λ x c. runs_map Γ env cap room a (play_of n z a) (perform sc.items sc.gives (three 0 x 0) (three q (place e) 0)) B (λ _. B) _ _ (λ r y. (y.0 ∙ c.0, y.2))
        (runs_perform Γ env cap room wide n sc z (three 0 x 0) (three q (place e) 0) 2 a B t (parts-base a.st.last.0 a.st.from.0 0 q q a.st)
        (λ i l. three_chosen a.st.last.0 a.st.from.0 0 q q a.st i l ∙ ap (λ (k : ℕ). three 0 k 0 i) c.2)
        (λ i l. two-placed a.st.last.0 a.st.from.0 0 q q 0 a.st i l ∙ ap (λ (k : ℕ). three q k 0 i) c.1)))
        (goes m at0)

    pub runs_two : (e f : Expr) (p : ℕ) → Goes E e B p → Goes E f B (p + size e) → (n : MS.Script) (sc : Script) (q : ℕ) → Tied 3 3 n sc → (m : Mach) → m.st.at.0 ≡ p
        → Runs Γ env cap room m (two_by E n q m) (walk Γ e B >>= λ x. walk Γ f B >>= λ y. perform sc.items sc.gives (three 0 x y) (three q (place e) (place f))) B (λ _. B) (λ r v. Gave (p + size e + size f) r v)
    unfolding two_by then
    runs_two e f p goes goes' n sc q t m at0 =
        let a : Mach = E m in
        let b : Mach = E a in
        let z = parts_of a.st.last.0 a.st.from.0 b.st.last.0 b.st.from.0 q b.st in
        let F : Mach = play_of n z b in
        runs_bind Γ env cap room m a F (walk Γ e B) (λ x. walk Γ f B >>= λ y. perform sc.items sc.gives (three 0 x y) (three q (place e) (place f))) B (λ _. B) (λ _. B) (λ r v. Came (p + size e) (place e) r v) (λ r v. Gave (p + size e + size f) r v)
        (λ h. ap (λ (y : Mach). y.st.stop) (ap (λ (y : Mach). play_of n (parts_of a.st.last.0 a.st.from.0 y.st.last.0 y.st.from.0 q y.st) y) (stays a h) ∙ still_play n (parts_of a.st.last.0 a.st.from.0 a.st.last.0 a.st.from.0 q a.st) a h))
        (λ x c. runs_bind Γ env cap room a b F (walk Γ f B) (λ y. perform sc.items sc.gives (three 0 x y) (three q (place e) (place f))) B (λ _. B) (λ _. B) (λ r v. Came (p + size e + size f) (place f) r v) (λ r v. Gave (p + size e + size f) r v)
        (λ h. ap (λ (y : Mach). y.st.stop) (still_play n z b h))
        (λ y k. runs_map Γ env cap room b F (perform sc.items sc.gives (three 0 x y) (three q (place e) (place f))) B (λ _. B) _ _ (λ r u. (u.0 ∙ k.0, u.2))
        (runs_perform Γ env cap room wide n sc z (three 0 x y) (three q (place e) (place f)) 3 b B t (parts-base a.st.last.0 a.st.from.0 b.st.last.0 b.st.from.0 q b.st)
        (λ i l. three_chosen a.st.last.0 a.st.from.0 b.st.last.0 b.st.from.0 q b.st i l ∙ ap₂ (λ (u v : ℕ). three 0 u v i) c.2 k.2)
        (λ i l. three-placed a.st.last.0 a.st.from.0 b.st.last.0 b.st.from.0 q b.st i l ∙ ap₂ (λ (u v : ℕ). three q u v i) c.1 k.1)))
        (goes' a c.0))
        (goes m at0)
