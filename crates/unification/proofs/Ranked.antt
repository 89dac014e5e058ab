-- The theorems of specs/Ranked.antt, whose head says what they give: `merge_ranked`, `reached-ranked`, `ranked-after`.
use Prim.Native.Nat.{ℕ, zero, suc, ◌+◌, ◌*◌, ◌^◌, ◌≤◌, ◌<◌}
use Rattle.std.specs.Prelude.{◌≡◌, ◌≢◌, Bool, ◌&&◌, eqb, length, get_or, set}
use Rattle.std.proofs.Math.Path.{refl, ap, subst}
use Rattle.std.proofs.Common.{sym, ◌∙◌}
use Rattle.std.proofs.Math.Bool.{true, false}
use mathlib.Core.List.{List, [], ◌∷◌}
use native.Mathlib.Omega.{arith}
use Rattle.std.proofs.Math.Nat.{pow-succ', pow-le-pow_right}
use Rattle.std.proofs.Math.Decide.{ℕ_discrete, dec_lt}
use Rattle.std.proofs.Math.Dec.{ltb}
use Rattle.std.proofs.Math.Seq.{get_or-set_same, get_or-set_other}
use borrow.Author.Tests.{eq-eqb, ne_eqb, eqb-true, eqb-false, lt-ltb, ltb-true, ltb-false}
use Rattle.meter.specs.Meter.{Out, spent, halt, done, on, forget_e}
use Rattle.unification.specs.Arena.{Node, free, link, leaf, power, pair, bad, Words, node_at, bind_at, unknown, rank_at, either, below, level, raised, merge_at, U, Answer, unify}
use Rattle.unification.specs.Trees.{and_left, and_right}
use Rattle.unification.specs.Good.{Root, Proper, length_push}
use Rattle.unification.proofs.Good.{word-other}
use Rattle.unification.specs.Merge.{Binds}
use Rattle.unification.proofs.Merge.{below_free, level-free, to-left_binds, to-right_binds, length_merge}
use Rattle.unification.specs.Laws.{after, Reached, empty, made, called}
use Rattle.unification.proofs.Laws.{reached-whole}
use Rattle.unification.proofs.Carry.{unify_carries}
use Rattle.unification.specs.Ops.{Op, pay, make, compare, list, Bench, grow, learn, complain, exec, nodes, Sound}
use Rattle.unification.proofs.Exec.{exec_nil, exec_unpaid, exec-paid, exec-made, exec_no_room, exec-compared, exec-listed}
use Rattle.unification.specs.Sums.{sum, pickℕ, summands, sum_moved}
use Rattle.unification.specs.Ranked.{Ranked, Solid, share, shares, share-free, Var, Stood, stood-free, part, made-ranked}

-- an unbound unknown has no more than there is, and beside a node that is no unknown less
module _ (n : ℕ) (ws : Words) (R : Ranked n ws) where
  share_solid : (y : ℕ) (nd : Node) → node_at ws n y ≡ nd → Solid nd → shares n ws R y ≡ 1
  unfolding share
  share_solid y free e q = absurd q
  share_solid y (link j) e q = absurd q
  share_solid y (leaf p) e q = ap (λ (k : Node). share k (R.mass y)) e
  share_solid y (power a) e q = ap (λ (k : Node). share k (R.mass y)) e
  share_solid y (pair a b) e q = ap (λ (k : Node). share k (R.mass y)) e
  share_solid y bad e q = ap (λ (k : Node). share k (R.mass y)) e

  less : (x y : ℕ) → x < n → y < n → x ≢ y → node_at ws n x ≡ free → Solid (node_at ws n y) → R.mass x < n
  less x y xl yl ne e q = let p = summands (shares n ws R) x y n xl yl ne in let r = share-free n ws R x e in let t = share_solid y (node_at ws n y) refl q in let s = R.held in omega arith

-- ---- one binding, of the unknown x to y; only the rank of y may have risen
module _ (n : ℕ) (ws ws' : Words) (R : Ranked n ws) (x y : ℕ) (xl : x < n) (yl : y < n) (ne : x ≢ y) (fx : node_at ws n x ≡ free) (ry : Root (node_at ws n y)) (B : Binds n ws x y ws')
    (same : (z : ℕ) → z ≢ y → rank_at ws' z ≡ rank_at ws z) (rise : rank_at ws y ≤ rank_at ws' y)
    (up : node_at ws n y ≡ free → rank_at ws x < rank_at ws' y) (enough : node_at ws n y ≡ free → 2 ^ rank_at ws' y ≤ R.mass x + R.mass y) where
  mass' : ℕ → ℕ
  mass' z = pickℕ (eqb z y) (R.mass x + R.mass y) (R.mass z)

  mass_y : mass' y ≡ R.mass x + R.mass y
  unfolding mass'
  mass_y = ap (λ c. pickℕ c (R.mass x + R.mass y) (R.mass y)) (eq-eqb y y refl)

  mass-other : (z : ℕ) → z ≢ y → mass' z ≡ R.mass z
  unfolding mass'
  mass-other z h = ap (λ c. pickℕ c (R.mass x + R.mass y) (R.mass z)) (ne_eqb z y h)

  rises : (z : ℕ) → Dec (z ≡ y) → rank_at ws z ≤ rank_at ws' z
  rises z (yes e) = subst (λ (k : ℕ). rank_at ws k ≤ rank_at ws' k) (sym e) rise
  rises z (no e) = let h = same z e in omega arith

  -- what is an unknown now, bound or not, was one
  was_var : (z : ℕ) → Dec (z ≡ x) → Var (node_at ws' n z) → Var (node_at ws n z)
  was_var z (yes e) v = subst (λ (k : Node). Var k) (sym (ap (node_at ws n) e ∙ fx)) tt
  was_var z (no e) v = subst (λ (k : Node). Var k) (B.there z e) v

  was_solid : (z : ℕ) → Dec (z ≡ x) → Solid (node_at ws' n z) → Solid (node_at ws n z)
  was_solid z (yes e) v = absurd (subst (λ (k : Node). Solid k) (ap (node_at ws' n) e ∙ B.here) v)
  was_solid z (no e) v = subst (λ (k : Node). Solid k) (B.there z e) v

  root-var : (nd : Node) → Root nd → Var nd → nd ≡ free
  root-var free r v = refl
  root-var (link j) r v = absurd r
  root-var (leaf p) r v = absurd v
  root-var (power a) r v = absurd v
  root-var (pair a b) r v = absurd v
  root-var bad r v = absurd r

  at_y : (nd : Node) → Root nd → node_at ws n y ≡ nd → Stood n ws' mass' y nd
  at_y free r e = let h = enough e in let m = mass_y in omega arith
  at_y (link j) r e = absurd r
  at_y (leaf p) r e = tt
  at_y (power a) r e = tt
  at_y (pair a b) r e = tt
  at_y bad r e = tt

  at_other : (z : ℕ) → z ≢ y → (nd : Node) → Stood n ws R.mass z nd → Stood n ws' mass' z nd
  at_other z h free s = let m = mass-other z h in let r = ap (λ (k : ℕ). 2 ^ k) (same z h) in omega arith
  at_other z h (link j) s =
      let r = ap (λ (k : ℕ). 2 ^ k) (same z h) in
      let q = same z h in
      let w = s.1 in
      let l = s.2 in
      (s.0, λ v. (let a = w (was_var j (ℕ_discrete j x) v) in let b = rises j (ℕ_discrete j y) in omega arith), λ v. (let a = l (was_solid j (ℕ_discrete j x) v) in omega arith))
  at_other z h (leaf p) s = tt
  at_other z h (power a) s = tt
  at_other z h (pair a b) s = tt
  at_other z h bad s = tt

  at_x : Stood n ws' mass' x (link y)
  at_x =
      let r = ap (λ (k : ℕ). 2 ^ k) (same x ne) in
      let q = same x ne in
      let f = stood-free n ws R x xl fx in
      (yl, λ v. (let a = up (root-var (node_at ws n y) ry (was_var y (ℕ_discrete y x) v)) in omega arith), λ v. (let g = less n ws R x y xl yl ne fx (was_solid y (ℕ_discrete y x) v) in omega arith))

  stood' : (z : ℕ) → z < n → Dec (z ≡ x) → Dec (z ≡ y) → Stood n ws' mass' z (node_at ws' n z)
  stood' z l (yes e) d = subst (λ (k : ℕ). Stood n ws' mass' k (node_at ws' n k)) (sym e) (subst (λ (k : Node). Stood n ws' mass' x k) (sym B.here) at_x)
  stood' z l (no h) (yes e) = subst (λ (k : ℕ). Stood n ws' mass' k (node_at ws' n k)) (sym e)
      (subst (λ (k : Node). Stood n ws' mass' y k) (sym (B.there y (λ q. ne (sym q)))) (at_y (node_at ws n y) ry refl))
  stood' z l (no h) (no g) = subst (λ (k : Node). Stood n ws' mass' z k) (sym (B.there z h)) (at_other z g (node_at ws n z) (R.stood z l))

  shared_y : (nd : Node) → share nd (mass' y) ≤ R.mass x + share nd (R.mass y)
  unfolding share
  shared_y free = let m = mass_y in omega arith
  shared_y (link j) = omega arith
  shared_y (leaf p) = omega arith
  shared_y (power a) = omega arith
  shared_y (pair a b) = omega arith
  shared_y bad = omega arith

  held' : sum (λ z. share (node_at ws' n z) (mass' z)) n ≤ n
  unfolding share
  held' =
      let e = B.there y (λ q. ne (sym q)) in
      let fx' : share (node_at ws n x) (R.mass x) ≡ R.mass x = ap (λ (k : Node). share k (R.mass x)) fx in
      let gx : share (node_at ws' n x) (mass' x) ≡ 0 = ap (λ (k : Node). share k (mass' x)) B.here in
      let gy : share (node_at ws' n y) (mass' y) ≡ share (node_at ws n y) (mass' y) = ap (λ (k : Node). share k (mass' y)) e in
      let p = shared_y (node_at ws n y) in
      let q = sum_moved (λ z. share (node_at ws n z) (R.mass z)) (λ z. share (node_at ws' n z) (mass' z)) x y n xl yl ne gx (omega arith)
      (λ z h g. ap (λ (k : Node). share k (mass' z)) (B.there z h) ∙ ap (share (node_at ws n z)) (mass-other z g)) in
      let r = R.held in
      omega arith

  bound-ranked : Ranked n ws'
  bound-ranked = record { mass = mass'; stood = λ z l. stood' z l (ℕ_discrete z x) (ℕ_discrete z y); held = held' }

-- ---- a merge
module _ (ws : Words) (x y : ℕ) where
  bind-rank : (z : ℕ) → rank_at (bind_at ws x y) z ≡ rank_at ws z
  unfolding rank_at
  bind-rank z = word-other ws x y (3 * z + 2) (λ e. omega arith) (λ e. omega arith)

module _ (n : ℕ) (ws : Words) (v t : ℕ) where
  below_less : below ws n v t ≡ true → rank_at ws t < rank_at ws v
  unfolding below
  below_less e = ltb-true (rank_at ws t) (rank_at ws v) (and_right (unknown (node_at ws n t)) (ltb (rank_at ws t) (rank_at ws v)) e)

  not_below : below ws n v t ≡ false → node_at ws n t ≡ free → rank_at ws v ≤ rank_at ws t
  unfolding below unknown
  not_below e f = ltb-false (rank_at ws t) (rank_at ws v) (sym (ap (λ (k : Node). unknown k && ltb (rank_at ws t) (rank_at ws v)) f) ∙ e)

  level-same : level ws n v t ≡ true → rank_at ws t ≡ rank_at ws v
  unfolding level
  level-same e = eqb-true (rank_at ws t) (rank_at ws v)
      (and_left (eqb (rank_at ws t) (rank_at ws v)) (ltb (rank_at ws t) 32) (and_right (unknown (node_at ws n t)) (eqb (rank_at ws t) (rank_at ws v) && ltb (rank_at ws t) 32) e))

  not_both : (a b : Bool) → a && b ≡ false → b ≡ true → a ≡ false
  not_both true true e h = e
  not_both true false e h = cc
  not_both false b e h = refl

  not_level : level ws n v t ≡ false → node_at ws n t ≡ free → rank_at ws t < 32 → rank_at ws t ≢ rank_at ws v
  unfolding level unknown
  not_level e f l = eqb-false (rank_at ws t) (rank_at ws v)
      (not_both (eqb (rank_at ws t) (rank_at ws v)) (ltb (rank_at ws t) 32) (sym (ap (λ (k : Node). unknown k && (eqb (rank_at ws t) (rank_at ws v) && ltb (rank_at ws t) 32)) f) ∙ e) (lt-ltb (rank_at ws t) 32 l))

module _ (n : ℕ) (small : n < 2 ^ 32) (ws : Words) (s : 3 * n ≤ length ws) (R : Ranked n ws) (v t : ℕ) (vl : v < n) (tl : t < n) (ne : v ≢ t) (fr : node_at ws n v ≡ free) (root : Root (node_at ws n t)) where
  few : node_at ws n t ≡ free → rank_at ws t < 32
  few e = at (dec_lt (rank_at ws t) 32)
    where
      at : Dec (rank_at ws t < 32) → rank_at ws t < 32
      at (yes l) = l
      at (no l) =
          let p = pow-le-pow_right {n = 2} (omega arith) {i = 32} {j = rank_at ws t} (omega arith) in
          let q = stood-free n ws R t tl e in
          let r = part n ws R t tl e in
          absurd (omega arith)

  to_the_left : below ws n v t ≡ true → Ranked n (bind_at ws t v)
  to_the_left e =
      let f = below_free ws n v t e in
      let l = below_less n ws v t e in
      let q = bind-rank ws t v v in
      let m = stood-free n ws R v vl fr in
      let r = ap (λ (k : ℕ). 2 ^ k) q in
      bound-ranked n ws (bind_at ws t v) R t v tl vl (λ z. ne (sym z)) f (subst (λ (k : Node). Root k) (sym fr) tt) (to-left_binds ws n v t s vl tl)
      (λ z h. bind-rank ws t v z) (omega arith) (λ _. omega arith) (λ _. omega arith)

  risen : rank_at (set ws (3 * t + 2) (suc (rank_at ws t))) t ≡ suc (rank_at ws t)
  unfolding rank_at
  risen = get_or-set_same ws (3 * t + 2) (suc (get_or ws (3 * t + 2) 0)) 0 (omega arith)

  unrisen : (z : ℕ) → z ≢ t → rank_at (set ws (3 * t + 2) (suc (rank_at ws t))) z ≡ rank_at ws z
  unfolding rank_at
  unrisen z h = get_or-set_other ws (3 * t + 2) (3 * z + 2) (suc (get_or ws (3 * t + 2) 0)) 0 (λ e. h (omega arith))

  -- the words that the right unknown's rank may have risen in
  to_the_right-at : below ws n v t ≡ false → (c : Bool) → level ws n v t ≡ c → (us : Words) → us ≡ either c (set ws (3 * t + 2) (suc (rank_at ws t))) ws → Binds n ws v t (bind_at us v t) → Ranked n (bind_at us v t)
  to_the_right-at e true g us u B =
      let f = level-free ws n v t g in
      let w = level-same n ws v t g in
      let q : rank_at (bind_at us v t) t ≡ suc (rank_at ws t) = bind-rank us v t t ∙ ap (λ (k : Words). rank_at k t) u ∙ risen in
      let m = stood-free n ws R v vl fr in
      let m' = stood-free n ws R t tl f in
      let p = ap (λ (k : ℕ). 2 ^ k) q in
      let p' = pow-succ' 2 (rank_at ws t) in
      let p'' = ap (λ (k : ℕ). 2 ^ k) w in
      bound-ranked n ws (bind_at us v t) R v t vl tl ne fr root B
      (λ z h. bind-rank us v t z ∙ ap (λ (k : Words). rank_at k z) u ∙ unrisen z h) (omega arith) (λ _. omega arith) (λ _. omega arith)
  to_the_right-at e false g us u B =
      let q : rank_at (bind_at us v t) t ≡ rank_at ws t = bind-rank us v t t ∙ ap (λ (k : Words). rank_at k t) u in
      let p = ap (λ (k : ℕ). 2 ^ k) q in
      bound-ranked n ws (bind_at us v t) R v t vl tl ne fr root B
      (λ z h. bind-rank us v t z ∙ ap (λ (k : Words). rank_at k z) u) (omega arith)
      (λ f. (let a = not_below n ws v t e f in let b = not_level n ws v t g f (few f) in omega arith))
      (λ f. (let m = stood-free n ws R t tl f in omega arith))

  merge_ranked-at : (c : Bool) → below ws n v t ≡ c → Ranked n (either c (bind_at ws t v) (bind_at (raised ws n v t) v t))
  unfolding raised
  merge_ranked-at true e = to_the_left e
  merge_ranked-at false e = to_the_right-at e (level ws n v t) refl (raised ws n v t) refl (to-right_binds ws n v t s vl tl)

  pub merge_ranked : Ranked n (merge_at ws n v t)
  unfolding merge_at
  merge_ranked = merge_ranked-at (below ws n v t) refl

-- ---- every arena reached
-- as many words, and ranked
abbrev Still : ℕ → Words → Words → Type 0
Still n ws us = (length us ≡ length ws) × Ranked n us

-- after a comparison, whatever its outcome
pub compared-ranked : (n : ℕ) → n < 2 ^ 32 → (ws : Words) → 3 * n ≤ length ws → Ranked n ws → (a b β : ℕ) → (length (after (unify n (ws, a, b) β)) ≡ length ws) × Ranked n (after (unify n (ws, a, b) β))
compared-ranked n l ws s R a b β = unify_carries n (λ us. Still n ws us)
    (λ us h v t vl tl ne fr root. (length_merge us n v t ∙ h.0, merge_ranked n l us (rw h.0 s) h.1 v t vl tl ne fr root)) ws (refl, R) a b β

empty-ranked : (ws : Words) → Ranked 0 ws
unfolding sum
empty-ranked ws = record { mass = λ x. 0; stood = λ x q. absurd (omega arith); held = omega arith }

pub reached-ranked : {n : ℕ} {ws : Words} → Reached n ws → n < 2 ^ 32 → Ranked n ws
reached-ranked (empty ws) l = empty-ranked ws
reached-ranked (made {n = n} {ws = ws} k a b i s r) l = made-ranked n ws k a b s i (reached-ranked r (omega arith))
reached-ranked (called {n = n} {ws = ws} a b β r) l = (compared-ranked n l ws (reached-whole r).0 (reached-ranked r l) a b β).1

-- ---- a list of operations: ranked before it, ranked after it
module _ (cap : ℕ) where
  abbrev Fine : Out U Bench → Type 0
  Fine (spent e) = Unit {0}
  Fine (halt w e) = Unit {0}
  Fine (done s r) = (3 * s.count ≤ length s.words) × Ranked s.count s.words

  abbrev Ran : List Op → Type 0
  Ran os = (s : Bench) → Sound s.count os → s.count + nodes os < 2 ^ 32 → 3 * (s.count + nodes os) ≤ length s.words → Ranked s.count s.words → (β : ℕ) → Fine (exec cap os s β)

  ran-make : (k a b : ℕ) (os : List Op) → Ran os → (s : Bench) → Proper s.count k a b → Sound (suc s.count) os → suc s.count + nodes os < 2 ^ 32
      → 3 * (suc s.count + nodes os) ≤ length s.words → Ranked s.count s.words → (β : ℕ) → Dec (s.count < cap) → Fine (exec cap (make k a b ∷ os) s β)
  unfolding grow
  ran-make k a b os rec s i so l room R β (yes q) =
      let e = length_push s.words s.count k a b in
      subst (λ (o : Out U Bench). Fine o) (sym (exec-made cap s os k a b q β))
      (rec (grow s k a b) so l (omega arith) (made-ranked s.count s.words k a b (omega arith) i R) β)
  ran-make k a b os rec s i so l room R β (no q) = subst (λ (o : Out U Bench). Fine o) (sym (exec_no_room cap s os k a b (omega arith) β)) tt

  ran_on : (p : ℕ) (os : List Op) → Ran os → (s : Bench) → Sound s.count os → s.count + nodes os < 2 ^ 32 → 3 * (s.count + nodes os) ≤ length s.words
      → (o : Out Words Answer) → Still s.count s.words (after o) → Fine (on (forget_e o) (λ x. exec cap os (learn s p x)))
  unfolding on forget_e after learn
  ran_on p os rec s so l room (spent e) h = tt
  ran_on p os rec s so l room (halt w e) h = tt
  ran_on p os rec s so l room (done x r) h = rec (learn s p x) so l (rw h.0 room) h.1 r

  exec-ranked : (os : List Op) → Ran os
  unfolding complain
  exec-ranked [] s so l room R β = subst (λ (o : Out U Bench). Fine o) (sym (exec_nil cap s β)) (omega arith, R)
  exec-ranked (pay ∷ os) s so l room R zero = subst (λ (o : Out U Bench). Fine o) (sym (exec_unpaid cap s os)) tt
  exec-ranked (pay ∷ os) s so l room R (suc β) = subst (λ (o : Out U Bench). Fine o) (sym (exec-paid cap s os β)) (exec-ranked os s so l room R β)
  exec-ranked (make k a b ∷ os) s so l room R β = ran-make k a b os (exec-ranked os) s so.0 so.1 (omega arith) (omega arith) R β (dec_lt s.count cap)
  exec-ranked (compare a b p ∷ os) s so l room R β =
      subst (λ (o : Out U Bench). Fine o) (sym (exec-compared cap s os a b p β))
      (ran_on p os (exec-ranked os) s so.2 l room (unify s.count (s.words, a, b) β) (compared-ranked s.count (omega arith) s.words (omega arith) R a b β))
  exec-ranked (list q p ∷ os) s so l room R β = subst (λ (o : Out U Bench). Fine o) (sym (exec-listed cap s os q p β)) (exec-ranked os (complain s q p) so l room R β)

  -- run from an empty arena
  pub ranked-after : (os : List Op) (s : Bench) → s.count ≡ 0 → Sound 0 os → nodes os < 2 ^ 32 → 3 * nodes os ≤ length s.words → (β : ℕ) (s' : Bench) (left : ℕ) → exec cap os s β ≡ done s' left
      → (3 * s'.count ≤ length s'.words) × Ranked s'.count s'.words
  ranked-after os s z so l room β s' left e =
      let R : Ranked s.count s.words = subst (λ (n : ℕ). Ranked n s.words) (sym z) (empty-ranked s.words) in
      subst (λ (o : Out U Bench). Fine o) e (exec-ranked os s (subst (λ (n : ℕ). Sound n os) (sym z) so) (omega arith) (omega arith) R β)
