-- The unifier as rules, with no budget in them: each line is a line of the Rust but for which of two unknowns is bound, and each derivation has its price in units.
--
-- `Follows`: where the bindings from a reference lead. `Occurs`: whether an unknown occurs. `Tells`: how two references are made equal, which of mismatch and
-- circularity a failure is, and which words stand. `breaks` is a refusal: a link or reference outside, or an unknown kind, was met there.
-- What is bound to what is the rules' parameter: `merge_at` is what this unifier does, `left_bound` what the Rust does. That nothing which is answered depends on it
-- is `follows_suit` in `Direction`.
-- `tells-run`: at a budget of its price or more a derivation is what `unify` answers, with what is over left; below its price the budget is spent.
-- `run-tells`: whatever `unify` answers or refuses, on any words, has a derivation. So the rules say exactly which answer is given and which refusal.
-- Theorems that rest on what must-fail edits change stand in proofs/ByRule.antt.
use Prim.Native.Nat.{ℕ, zero, suc, ◌+◌, ◌-◌, ◌≤◌, ◌<◌}
use Rattle.std.specs.Prelude.{◌≡◌, ◌≢◌, Bool, eqb}
use Rattle.std.proofs.Math.Path.{refl, ap, subst}
use Rattle.std.proofs.Common.{sym, ◌∙◌, eq-eqb, ne_eqb}
use Rattle.std.proofs.Math.Bool.{true, false}
use native.Mathlib.Omega.{arith}
use Rattle.std.proofs.Math.Decide.{dec_lt, ℕ_discrete}
use Rattle.meter.specs.Meter.{Out, spent, halt, done, Why, broken, M, ret, fail, tick, on, ◌>>=◌}
use Rattle.unification.specs.Arena.{Node, free, link, leaf, power, pair, bad, Words, U, node_at, Direction, merge_at, choose, in_node, occurs, Verdict, unified, mismatch, circular, bindLeft, bindRight, agree, clash, down, both, meet, Answer}
use Rattle.unification.specs.Good.{Root}
use Rattle.unification.specs.Tasks.{arrive, reach, arrive-root, arrive-bad, arrive-link, reach-arrive, occurs-reach, arrive-left, arrive-stands}
use Rattle.unification.specs.Code.{bind_done, bind-spent, bind-halt, occurs-left}

-- an answer, or a refusal
pub data End (A : Type 0) : Type 0 where
  ends : A → End A
  breaks : End A

-- ---- where bindings lead: to a node that is no binding, or out
pub data Follows (ws : Words) (n : ℕ) : ℕ → End (ℕ × Node) → ℕ → Type 0 where
  at-root : {t : ℕ} {nd : Node} → node_at ws n t ≡ nd → Root nd → Follows ws n t (ends (t, nd)) 0
  outside : {t : ℕ} → node_at ws n t ≡ bad → Follows ws n t breaks 0
  along : {t j c : ℕ} {e : End (ℕ × Node)} → node_at ws n t ≡ link j → Follows ws n j e c → Follows ws n t e (suc c)

-- a node without parts
abbrev pub Plain : Node → Type 0
Plain free = Unit {0}
Plain (link j) = ⊥
Plain (leaf p) = Unit {0}
Plain (power x) = ⊥
Plain (pair x y) = ⊥
Plain bad = ⊥

-- ---- whether the unknown v occurs: one unit for the node arrived at
pub data Occurs (ws : Words) (n v : ℕ) : ℕ → End Bool → ℕ → Type 0 where
  nowhere : {t c : ℕ} → Follows ws n t breaks c → Occurs ws n v t breaks c
  found : {t c : ℕ} {nd : Node} → Follows ws n t (ends (v, nd)) c → Occurs ws n v t (ends true) (c + 1)
  absent : {t r c : ℕ} {nd : Node} → Follows ws n t (ends (r, nd)) c → r ≢ v → Plain nd → Occurs ws n v t (ends false) (c + 1)
  in_power_lem : {t r x c d : ℕ} {e : End Bool} → Follows ws n t (ends (r, power x)) c → r ≢ v → Occurs ws n v x e d → Occurs ws n v t e (c + suc d)
  in_left : {t r x y c d : ℕ} → Follows ws n t (ends (r, pair x y)) c → r ≢ v → Occurs ws n v x (ends true) d → Occurs ws n v t (ends true) (c + suc d)
  left-breaks : {t r x y c d : ℕ} → Follows ws n t (ends (r, pair x y)) c → r ≢ v → Occurs ws n v x breaks d → Occurs ws n v t breaks (c + suc d)
  in_right : {t r x y c d f : ℕ} {e : End Bool} → Follows ws n t (ends (r, pair x y)) c → r ≢ v → Occurs ws n v x (ends false) d → Occurs ws n v y e f → Occurs ws n v t e (c + suc (d + f))

-- two references followed to two nodes that are not one
pub record Apart (ws : Words) (n a b : ℕ) (o u : ℕ × Node) (c : ℕ) : Type 0 where
  pub left_cost : ℕ
  pub right_cost : ℕ
  pub left : Follows ws n a (ends o) left_cost
  pub right : Follows ws n b (ends u) right_cost
  pub apart : o.0 ≢ u.0
  pub cost : left_cost + right_cost ≡ c

-- ---- how a is made equal to b: one unit for the pair; what is bound stands. `by` says which of two unknowns that is
pub data Tells (by : Direction) (n : ℕ) : Words → ℕ → ℕ → End Verdict → Words → ℕ → Type 0 where
  left_out : {ws : Words} {a b c : ℕ} → Follows ws n a breaks c → Tells by n ws a b breaks ws (suc c)
  right-out : {ws : Words} {a b c d : ℕ} {o : ℕ × Node} → Follows ws n a (ends o) c → Follows ws n b breaks d → Tells by n ws a b breaks ws (suc (c + d))
  equal : {ws : Words} {a b c d : ℕ} {o u : ℕ × Node} → Follows ws n a (ends o) c → Follows ws n b (ends u) d → o.0 ≡ u.0 → Tells by n ws a b (ends unified) ws (suc (c + d))
  agrees : {ws : Words} {a b c : ℕ} {o u : ℕ × Node} → Apart ws n a b o u c → meet o.1 u.1 ≡ agree → Tells by n ws a b (ends unified) ws (suc c)
  clashes : {ws : Words} {a b c : ℕ} {o u : ℕ × Node} → Apart ws n a b o u c → meet o.1 u.1 ≡ clash → Tells by n ws a b (ends mismatch) ws (suc c)
  binds_left : {ws : Words} {a b c d : ℕ} {o u : ℕ × Node} → Apart ws n a b o u c → meet o.1 u.1 ≡ bindLeft → Occurs ws n o.0 u.0 (ends false) d → Tells by n ws a b (ends unified) (by ws n o.0 u.0) (suc (c + d))
  circles_left : {ws : Words} {a b c d : ℕ} {o u : ℕ × Node} → Apart ws n a b o u c → meet o.1 u.1 ≡ bindLeft → Occurs ws n o.0 u.0 (ends true) d → Tells by n ws a b (ends circular) ws (suc (c + d))
  breaks-left : {ws : Words} {a b c d : ℕ} {o u : ℕ × Node} → Apart ws n a b o u c → meet o.1 u.1 ≡ bindLeft → Occurs ws n o.0 u.0 breaks d → Tells by n ws a b breaks ws (suc (c + d))
  binds_right : {ws : Words} {a b c d : ℕ} {o u : ℕ × Node} → Apart ws n a b o u c → meet o.1 u.1 ≡ bindRight → Occurs ws n u.0 o.0 (ends false) d → Tells by n ws a b (ends unified) (by ws n u.0 o.0) (suc (c + d))
  circles_right : {ws : Words} {a b c d : ℕ} {o u : ℕ × Node} → Apart ws n a b o u c → meet o.1 u.1 ≡ bindRight → Occurs ws n u.0 o.0 (ends true) d → Tells by n ws a b (ends circular) ws (suc (c + d))
  breaks-right : {ws : Words} {a b c d : ℕ} {o u : ℕ × Node} → Apart ws n a b o u c → meet o.1 u.1 ≡ bindRight → Occurs ws n u.0 o.0 breaks d → Tells by n ws a b breaks ws (suc (c + d))
  powers : {ws ws' : Words} {a b c d x y : ℕ} {o u : ℕ × Node} {e : End Verdict} → Apart ws n a b o u c → meet o.1 u.1 ≡ down x y → Tells by n ws x y e ws' d → Tells by n ws a b e ws' (suc (c + d))
  left-ends : {ws ws' : Words} {a b c d x y z w : ℕ} {o u : ℕ × Node} {e : End Verdict} → Apart ws n a b o u c → meet o.1 u.1 ≡ both x y z w → Tells by n ws x z e ws' d → e ≢ ends unified → Tells by n ws a b e ws' (suc (c + d))
  halves : {ws ws' ws'' : Words} {a b c d f x y z w : ℕ} {o u : ℕ × Node} {e : End Verdict} → Apart ws n a b o u c → meet o.1 u.1 ≡ both x y z w → Tells by n ws x z (ends unified) ws' d → Tells by n ws' y w e ws'' f → Tells by n ws a b e ws'' (suc (c + (d + f)))

-- ---- a price: from it on this outcome, below it spent
pub record Priced {E A : Type 0} (m : M E A) (o : ℕ → Out E A) (c : ℕ) : Type 0 where
  pub from : (r : ℕ) → m (c + r) ≡ o r
  pub short : (b : ℕ) → b < c → (e : E) × (m b ≡ spent e)

unfoldable pub outcome : {E A : Type 0} → E → End A → ℕ → Out E A
outcome e (ends a) r = done a r
outcome e breaks r = halt broken e

pub priced_eq : {E A : Type 0} {m m' : M E A} {o : ℕ → Out E A} {c : ℕ} → m ≡ m' → Priced m' o c → Priced m o c
priced_eq e x = rw e x

pub priced_at : {E A : Type 0} {m : M E A} {o : ℕ → Out E A} {c d : ℕ} → c ≡ d → Priced m o c → Priced m o d
priced_at {m = m} {o = o} e x = subst (λ (k : ℕ). Priced m o k) e x

pub priced_ret : {E A : Type 0} (a : A) → Priced {E = E} (ret a) (λ r. done a r) 0
unfolding ret
priced_ret a = record { from = λ r. ap (done a) (omega arith); short = λ b l. absurd (omega arith) }

priced_fail : {E A : Type 0} (w : Why) (e : E) → Priced {A = A} (fail w e) (λ r. halt w e) 0
unfolding fail
priced_fail w e = record { from = λ r. refl; short = λ b l. absurd (omega arith) }

module _ {E A : Type 0} (f : E) {m : M E A} {o : ℕ → Out E A} {c : ℕ} (x : Priced m o c) where
  tick-short : (b : ℕ) → b < suc c → (g : E) × (tick f m b ≡ spent g)
  unfolding tick
  tick-short zero l = (f, refl)
  tick-short (suc b) l = x.short b (omega arith)

  pub priced_tick : Priced (tick f m) o (suc c)
  unfolding tick
  priced_tick = record { from = λ r. (let q : suc c + r ≡ suc (c + r) = omega arith in ap (tick f m) q ∙ x.from r); short = tick-short }

module _ {E A B : Type 0} {m : M E A} (k : A → M E B) {a : A} {o : ℕ → Out E B} {c d : ℕ} (x : Priced m (λ r. done a r) c) (y : Priced (k a) o d) where
  bind-short : (b : ℕ) → b < c + d → Dec (b < c) → (f : E) × ((m >>= k) b ≡ spent f)
  bind-short b l (yes q) = let z = x.short b q in (z.0, bind-spent m k b z.0 z.1)
  bind-short b l (no q) =
      let j : ℕ = b - c in
      let z = y.short j (omega arith) in
      let p : b ≡ c + j = omega arith in
      (z.0, ap (λ (i : ℕ). (m >>= k) i) p ∙ bind_done m k (c + j) a j (x.from j) ∙ z.1)

  pub priced_bind : Priced (m >>= k) o (c + d)
  priced_bind = record {
    from = λ r. (let p : (c + d) + r ≡ c + (d + r) = omega arith in ap (λ (i : ℕ). (m >>= k) i) p ∙ bind_done m k (c + (d + r)) a (d + r) (x.from (d + r)) ∙ y.from r);
    short = λ b l. bind-short b l (dec_lt b c);
  }

pub priced_stop : {E A B : Type 0} {m : M E A} (k : A → M E B) {w : Why} {e : E} {c : ℕ} → Priced m (λ r. halt w e) c → Priced (m >>= k) (λ r. halt w e) c
priced_stop {m = m} k {w} {e} {c} x = record { from = λ r. bind-halt m k (c + r) w e (x.from r); short = λ b l. (let z = x.short b l in (z.0, bind-spent m k b z.0 z.1)) }

-- ---- a derivation is what is run
module _ (ws : Words) (n : ℕ) where
  pub follows_run : {t c : ℕ} {e : End (ℕ × Node)} → Follows ws n t e c → Priced (arrive ws n t) (outcome tt e) c
  unfolding outcome
  follows_run (at-root {t} {nd} e q) = priced_eq (arrive-root ws n t nd e q) (priced_ret (t, nd))
  follows_run (outside {t} e) = priced_eq (arrive-bad ws n t e) (priced_fail broken tt)
  follows_run (along {t} {j} e f) = priced_eq (arrive-link ws n t j e) (priced_tick tt (follows_run f))

  reached : {t c : ℕ} {o : ℕ × Node} → Follows ws n t (ends o) c → Priced (reach ws n t) (λ r. done o r) (c + 1)
  unfolding outcome
  reached {t} {c} {o} f = priced_eq (reach-arrive ws n t) (priced_bind (λ u. tick tt (ret u)) (follows_run f) (priced_tick tt (priced_ret o)))

  unreached : {t c : ℕ} → Follows ws n t breaks c → Priced (reach ws n t) (λ r. halt broken tt) c
  unfolding outcome
  unreached {t} f = priced_eq (reach-arrive ws n t) (priced_stop (λ u. tick tt (ret u)) (follows_run f))

  module _ (v : ℕ) where
    look : ℕ × Node → M U Bool
    look o = choose (eqb o.0 v) (ret true) (in_node (occurs ws n v) o.1)

    looks : (t : ℕ) → occurs ws n v t ≡ reach ws n t >>= look
    unfolding look
    looks t = occurs-reach ws n v t

    here : (nd : Node) → Priced (look (v, nd)) (λ r. done true r) 0
    unfolding look choose
    here nd = priced_eq (ap (λ (c : Bool). choose c (ret true) (in_node (occurs ws n v) nd)) (eq-eqb v v refl)) (priced_ret true)

    under : (r : ℕ) (nd : Node) → r ≢ v → look (r, nd) ≡ in_node (occurs ws n v) nd
    unfolding look choose
    under r nd h = ap (λ (c : Bool). choose c (ret true) (in_node (occurs ws n v) nd)) (ne_eqb r v h)

    plain_in : (nd : Node) → Plain nd → Priced (in_node (occurs ws n v) nd) (λ r. done false r) 0
    unfolding in_node
    plain_in free q = priced_ret false
    plain_in (link j) q = absurd q
    plain_in (leaf p) q = priced_ret false
    plain_in (power x) q = absurd q
    plain_in (pair x y) q = absurd q
    plain_in bad q = absurd q

    below-run : {t r c d : ℕ} {nd : Node} {o : ℕ → Out U Bool} → Follows ws n t (ends (r, nd)) c → r ≢ v → Priced (in_node (occurs ws n v) nd) o d → Priced (occurs ws n v t) o (c + suc d)
    below-run {t} {r} {c} {d} {nd} f h x = priced_eq (looks t) (priced_at (omega arith) (priced_bind look (reached f) (priced_eq (under r nd h) x)))

    pub occurs-run : {t c : ℕ} {e : End Bool} → Occurs ws n v t e c → Priced (occurs ws n v t) (outcome tt e) c
    unfolding outcome in_node choose
    occurs-run (nowhere {t} f) = priced_eq (looks t) (priced_stop look (unreached f))
    occurs-run (found {t} {c} {nd} f) = priced_eq (looks t) (priced_at (omega arith) (priced_bind look (reached f) (here nd)))
    occurs-run (absent {t} {r} {c} {nd} f h q) = priced_at (omega arith) (below-run f h (plain_in nd q))
    occurs-run (in_power_lem f h x) = below-run f h (occurs-run x)
    occurs-run (in_left {y = y} {d = d} f h x) = below-run f h (priced_at (omega arith) (priced_bind (λ c. choose c (ret true) (occurs ws n v y)) (occurs-run x) (priced_ret true)))
    occurs-run (left-breaks {y = y} f h x) = below-run f h (priced_stop (λ c. choose c (ret true) (occurs ws n v y)) (occurs-run x))
    occurs-run (in_right {y = y} f h x z) = below-run f h (priced_bind (λ c. choose c (ret true) (occurs ws n v y)) (occurs-run x) (occurs-run z))

-- unify's outcome: the verdict and the words that stand, or a refusal and the words that stand
unfoldable pub told : End Verdict → Words → ℕ → Out Words Answer
told (ends v) ws r = done (v, ws) r
told breaks ws r = halt broken ws

-- ---- whatever is answered or refused has a derivation
abbrev pub Led : Words → ℕ → ℕ → Out U (ℕ × Node) → Type 0
Led ws n t (spent e) = Unit {0}
Led ws n t (halt w e) = (w ≡ broken) × ((c : ℕ) × Follows ws n t breaks c)
Led ws n t (done o r) = (c : ℕ) × Follows ws n t (ends o) c

abbrev pub Sought : Words → ℕ → ℕ → ℕ → Out U Bool → Type 0
Sought ws n v t (spent e) = Unit {0}
Sought ws n v t (halt w e) = (w ≡ broken) × ((c : ℕ) × Occurs ws n v t breaks c)
Sought ws n v t (done x r) = (c : ℕ) × Occurs ws n v t (ends x) c

abbrev pub Told : ℕ → Words → ℕ → ℕ → Out Words Answer → Type 0
Told n ws a b (spent e) = Unit {0}
Told n ws a b (halt w ws') = (w ≡ broken) × ((c : ℕ) × Tells merge_at n ws a b breaks ws' c)
Told n ws a b (done x r) = (c : ℕ) × Tells merge_at n ws a b (ends x.0) x.1 c

module _ (ws : Words) (n : ℕ) where
  led-along : (t j : ℕ) → node_at ws n t ≡ link j → (o : Out U (ℕ × Node)) → Led ws n j o → Led ws n t o
  led-along t j e (spent x) h = tt
  led-along t j e (halt w x) h = (h.0, (suc h.1.0, along e h.1.1))
  led-along t j e (done u r) h = (suc h.0, along e h.1)

  led-link : (t j b : ℕ) → node_at ws n t ≡ link j → ((c : ℕ) → suc c ≡ b → Led ws n j (arrive ws n j c)) → Led ws n t (tick tt (arrive ws n j) b)
  unfolding tick
  led-link t j zero e rec = tt
  led-link t j (suc c) e rec = led-along t j e (arrive ws n j c) (rec c refl)

  led-root : (t b : ℕ) (nd : Node) → node_at ws n t ≡ nd → Root nd → Led ws n t (arrive ws n t b)
  unfolding ret
  led-root t b nd e q = subst (λ (m : M U (ℕ × Node)). Led ws n t (m b)) (sym (arrive-root ws n t nd e q)) (0, at-root e q)

  led-node : (b : ℕ) → ((c : ℕ) → suc c ≡ b → (j : ℕ) → Led ws n j (arrive ws n j c)) → (t : ℕ) (nd : Node) → node_at ws n t ≡ nd → Led ws n t (arrive ws n t b)
  unfolding fail
  led-node b rec t free e = led-root t b free e tt
  led-node b rec t (link j) e = subst (λ (m : M U (ℕ × Node)). Led ws n t (m b)) (sym (arrive-link ws n t j e)) (led-link t j b e (λ c q. rec c q j))
  led-node b rec t (leaf p) e = led-root t b (leaf p) e tt
  led-node b rec t (power x) e = led-root t b (power x) e tt
  led-node b rec t (pair x y) e = led-root t b (pair x y) e tt
  led-node b rec t bad e = subst (λ (m : M U (ℕ × Node)). Led ws n t (m b)) (sym (arrive-bad ws n t e)) (refl, (0, outside e))

  led-upto : (k b : ℕ) → b < k → (t : ℕ) → Led ws n t (arrive ws n t b)
  led-upto zero b l t = absurd (omega arith)
  led-upto (suc k) b l t = led-node b (λ c q j. led-upto k c (omega arith) j) t (node_at ws n t) refl

  pub led : (t b : ℕ) → Led ws n t (arrive ws n t b)
  led t b = led-upto (suc b) b (omega arith) t

  -- the occurs check
  module _ (v : ℕ) where
    sought_power : (t r x c : ℕ) → Follows ws n t (ends (r, power x)) c → r ≢ v → (o : Out U Bool) → Sought ws n v x o → Sought ws n v t o
    sought_power t r x c f h (spent e) q = tt
    sought_power t r x c f h (halt w e) q = (q.0, (c + suc q.1.0, in_power_lem f h q.1.1))
    sought_power t r x c f h (done y s) q = (c + suc q.0, in_power_lem f h q.1)

    sought_right : (t r x y c d : ℕ) → Follows ws n t (ends (r, pair x y)) c → r ≢ v → Occurs ws n v x (ends false) d → (o : Out U Bool) → Sought ws n v y o → Sought ws n v t o
    sought_right t r x y c d f h g (spent e) q = tt
    sought_right t r x y c d f h g (halt w e) q = (q.0, (c + suc (d + q.1.0), in_right f h g q.1.1))
    sought_right t r x y c d f h g (done z s) q = (c + suc (d + q.0), in_right f h g q.1)

    sought_pair : (b t r x y c m : ℕ) → m < b → ((k : ℕ) → k < b → (u : ℕ) → Sought ws n v u (occurs ws n v u k)) → Follows ws n t (ends (r, pair x y)) c → r ≢ v → (o : Out U Bool) → occurs ws n v x m ≡ o → Sought ws n v x o
        → Sought ws n v t (on o (λ f. choose f (ret true) (occurs ws n v y)))
    unfolding on choose ret
    sought_pair b t r x y c m l rec f h (spent e) g q = tt
    sought_pair b t r x y c m l rec f h (halt w e) g q = (q.0, (c + suc q.1.0, left-breaks f h q.1.1))
    sought_pair b t r x y c m l rec f h (done true s) g q = (c + suc q.0, in_left f h q.1)
    sought_pair b t r x y c m l rec f h (done false s) g q = let k = occurs-left ws n v x m false s g in sought_right t r x y c q.0 f h q.1 (occurs ws n v y s) (rec s (omega arith) y)

    sought_node : (b t r c m : ℕ) → m < b → ((k : ℕ) → k < b → (u : ℕ) → Sought ws n v u (occurs ws n v u k)) → (nd : Node) → Follows ws n t (ends (r, nd)) c → Root nd → r ≢ v → Sought ws n v t (in_node (occurs ws n v) nd m)
    unfolding in_node ret ◌>>=◌
    sought_node b t r c m l rec free f q h = (c + 1, absent f h tt)
    sought_node b t r c m l rec (link j) f q h = absurd q
    sought_node b t r c m l rec (leaf p) f q h = (c + 1, absent f h tt)
    sought_node b t r c m l rec (power x) f q h = sought_power t r x c f h (occurs ws n v x m) (rec m l x)
    sought_node b t r c m l rec (pair x y) f q h = sought_pair b t r x y c m l rec f h (occurs ws n v x m) refl (rec m l x)
    sought_node b t r c m l rec bad f q h = absurd q

    sought_look : (b t r c m : ℕ) (nd : Node) → m < b → ((k : ℕ) → k < b → (u : ℕ) → Sought ws n v u (occurs ws n v u k)) → Follows ws n t (ends (r, nd)) c → Root nd → Dec (r ≡ v) → Sought ws n v t (look ws n v (r, nd) m)
    unfolding look choose ret
    sought_look b t r c m nd l rec f q (yes e) =
        subst (λ (d : Bool). Sought ws n v t (choose d (ret true) (in_node (occurs ws n v) nd) m)) (sym (eq-eqb r v e)) (c + 1, found (subst (λ (i : ℕ). Follows ws n t (ends (i, nd)) c) e f))
    sought_look b t r c m nd l rec f q (no e) =
        subst (λ (d : Bool). Sought ws n v t (choose d (ret true) (in_node (occurs ws n v) nd) m)) (sym (ne_eqb r v e)) (sought_node b t r c m l rec nd f q e)

    sought_paid : (b t r c s : ℕ) (nd : Node) → s ≤ b → ((k : ℕ) → k < b → (u : ℕ) → Sought ws n v u (occurs ws n v u k)) → Follows ws n t (ends (r, nd)) c → Root nd → Sought ws n v t (on (tick tt (ret (r, nd)) s) (look ws n v))
    unfolding on tick ret
    sought_paid b t r c zero nd l rec f q = tt
    sought_paid b t r c (suc m) nd l rec f q = sought_look b t r c m nd (omega arith) rec f q (ℕ_discrete r v)

    sought_out : (b t : ℕ) → ((k : ℕ) → k < b → (u : ℕ) → Sought ws n v u (occurs ws n v u k)) → (o : Out U (ℕ × Node)) → arrive ws n t b ≡ o → Led ws n t o → Sought ws n v t (on (on o (λ u. tick tt (ret u))) (look ws n v))
    unfolding on
    sought_out b t rec (spent e) g q = tt
    sought_out b t rec (halt w e) g q = (q.0, (q.1.0, nowhere q.1.1))
    sought_out b t rec (done u s) g q = sought_paid b t u.0 q.0 s u.1 (arrive-left ws n t b u s g) rec q.1 (arrive-stands ws n t b u s g).1

    sought_upto : (k b : ℕ) → b < k → (t : ℕ) → Sought ws n v t (occurs ws n v t b)
    unfolding ◌>>=◌
    sought_upto zero b l t = absurd (omega arith)
    sought_upto (suc k) b l t = subst (λ (m : M U Bool). Sought ws n v t (m b)) (sym (looks ws n v t ∙ ap (λ (m : M U (ℕ × Node)). m >>= look ws n v) (reach-arrive ws n t)))
        (sought_out b t (λ c h u. sought_upto k c (omega arith) u) (arrive ws n t b) refl (led t b))

    pub run-occurs : (t b : ℕ) → Sought ws n v t (occurs ws n v t b)
    run-occurs t b = sought_upto (suc b) b (omega arith) t
