-- The theorems of specs/Ops.antt, whose head says what they give: `exec-exact`, `exec_full`, `exec_metered`, `exec-append`.
use Prim.Native.Nat.{ℕ, suc, ◌+◌, ◌≤◌, ◌<◌}
use Rattle.std.specs.Prelude.{◌≡◌, refl, ◌⊎◌, Bool, true, false, ltb}
use Rattle.std.proofs.Common.{sym, ◌∙◌, ap₂, inl, inr, lt-ltb, le-ltb}
use Rattle.std.proofs.Math.Path.{ap, subst, fun_ext}
use mathlib.Core.List.{List, [], ◌∷◌, ◌++◌}
use native.Mathlib.Omega.{arith}
use Rattle.std.proofs.Math.ListN.{length, length-append}
use Rattle.std.proofs.Math.Decide.{dec_lt}
use Rattle.meter.specs.Meter.{full, M, fail, tick, ◌>>=◌, forget, Metered, metered_ret, metered_fail, metered_tick, metered_bind, metered_forget, Exact, exact-ret, exact-tick, exact_eq, exact-map, exact-bind, exact-forget, bind_assoc, bind-ret, bind-fail, tick-bind, Halts, halts-fail, halts_eq, halts-tick, halts-bind}
use Rattle.unification.specs.Arena.{Node, decode, Words, U, node_at, choose, Verdict, unified, mismatch, circular, Answer, unify}
use Rattle.unification.specs.Good.{Assignment, Says, Inside, push_keeps, push_takes, push_at, node_push_new, node_push_old}
use Rattle.unification.specs.Steps.{choose_metered}
use Rattle.unification.proofs.Steps.{unify_metered}
use Rattle.unification.specs.Unifies.{Kept, Outcome, Judges}
use Rattle.unification.proofs.Unifies.{unify-exact}
use Rattle.unification.specs.Ops.{complain, exec, grow, Op, pay, make, compare, list, Bench, learn, In, noted, Whence, before, listing, failing, Ran, clean, Ready, room, Admitted, Judged, hopeless, listed, Eqn, learnt_ready, nodes, grown-ready, complain-ready, Sound}

-- metered
pub exec_metered : (cap : ℕ) (os : List Op) (s : Bench) → Metered (exec cap os s)
unfolding exec
exec_metered cap [] s = metered_ret s
exec_metered cap (pay ∷ os) s = metered_tick tt (exec_metered cap os s)
exec_metered cap (make k a b ∷ os) s = choose_metered (ltb s.count cap) (exec_metered cap os (grow s k a b)) (metered_fail full tt)
exec_metered cap (compare a b p ∷ os) s = metered_bind (metered_forget (unify_metered s.count (s.words, a, b))) λ o. exec_metered cap os (learn s p o)
exec_metered cap (list q p ∷ os) s = exec_metered cap os (complain s q p)

-- a walk in two parts
choose-bind : {E A B : Type 0} (c : Bool) (m m' : M E A) (k : A → M E B) → choose c m m' >>= k ≡ choose c (m >>= k) (m' >>= k)
unfolding choose
choose-bind true m m' k = refl
choose-bind false m m' k = refl

pub exec-append : (cap : ℕ) (os qs : List Op) (s : Bench) → exec cap (os ++ qs) s ≡ exec cap os s >>= exec cap qs
unfolding exec
exec-append cap [] qs s = sym (bind-ret s (exec cap qs))
exec-append cap (pay ∷ os) qs s = ap (tick tt) (exec-append cap os qs s) ∙ sym (tick-bind tt (exec cap os s) (exec cap qs))
exec-append cap (make k a b ∷ os) qs s =
    ap₂ (choose (ltb s.count cap)) (exec-append cap os qs (grow s k a b)) (sym (bind-fail full tt (exec cap qs)))
    ∙ sym (choose-bind (ltb s.count cap) (exec cap os (grow s k a b)) (fail full tt) (exec cap qs))
exec-append cap (compare a b p ∷ os) qs s =
    ap (λ (k : Answer → M U Bench). forget (unify s.count (s.words, a, b)) >>= k) (fun_ext λ o. exec-append cap os qs (learn s p o))
    ∙ sym (bind_assoc (forget (unify s.count (s.words, a, b))) (λ o. exec cap os (learn s p o)) (exec cap qs))
exec-append cap (list q p ∷ os) qs s = exec-append cap os qs (complain s q p)

in_left : (z : ℕ × ℕ) (xs ys : List (ℕ × ℕ)) → In z xs → In z (xs ++ ys)
in_left z [] ys h = absurd h
in_left z (x ∷ xs) ys (inl e) = inl e
in_left z (x ∷ xs) ys (inr h) = inr (in_left z xs ys h)

in_end : (z : ℕ × ℕ) (xs : List (ℕ × ℕ)) → In z (xs ++ (z ∷ []))
in_end z [] = inl refl
in_end z (x ∷ xs) = inr (in_end z xs)

in_noted : (v : Verdict) (p : ℕ) (z : ℕ × ℕ) (ps : List (ℕ × ℕ)) → In z ps → In z (noted v p ps)
unfolding noted
in_noted unified p z ps h = h
in_noted mismatch p z ps h = in_left z ps ((0, p) ∷ []) h
in_noted circular p z ps h = in_left z ps ((1, p) ∷ []) h

in_split : (z y : ℕ × ℕ) (xs : List (ℕ × ℕ)) → In z (xs ++ (y ∷ [])) → In z xs ⊎ (z ≡ y)
in_split z y [] (inl e) = inr e
in_split z y [] (inr h) = absurd h
in_split z y (x ∷ xs) (inl e) = inl (inl e)
in_split z y (x ∷ xs) (inr h) = go (in_split z y xs h)
  where
    go : In z xs ⊎ (z ≡ y) → In z (x ∷ xs) ⊎ (z ≡ y)
    go (inl i) = inl (inr i)
    go (inr e) = inr e

whence-listed : (z y : ℕ × ℕ) (old new : List (ℕ × ℕ)) → Whence z (old ++ (y ∷ [])) new → Whence z old (y ∷ new)
whence-listed z y old new (before i) = go (in_split z y old i)
  where
    go : In z old ⊎ (z ≡ y) → Whence z old (y ∷ new)
    go (inl h) = before h
    go (inr e) = listing (inl e)
whence-listed z y old new (listing i) = listing (inr i)
whence-listed z y old new (failing l) = failing l

whence-failed : (z y : ℕ × ℕ) (old new : List (ℕ × ℕ)) → y.0 < 2 → Whence z (old ++ (y ∷ [])) new → Whence z old new
whence-failed z y old new k (before i) = go (in_split z y old i)
  where
    go : In z old ⊎ (z ≡ y) → Whence z old new
    go (inl h) = before h
    go (inr e) = failing (let q : z.0 ≡ y.0 = ap (λ (w : ℕ × ℕ). w.0) e in omega arith)
whence-failed z y old new k (listing i) = listing i
whence-failed z y old new k (failing l) = failing l

whence-noted : (v : Verdict) (p : ℕ) (z : ℕ × ℕ) (old new : List (ℕ × ℕ)) → Whence z (noted v p old) new → Whence z old new
unfolding noted
whence-noted unified p z old new h = h
whence-noted mismatch p z old new h = whence-failed z (0, p) old new (omega arith) h
whence-noted circular p z old new h = whence-failed z (1, p) old new (omega arith) h

module _ (cap : ℕ) where
  abbrev Runs : List Op → Bench → Type 0
  Runs os s = Exact (λ _. U) (Ran cap s os) (exec cap os s)

  ran_nil : (s : Bench) → Ready cap s → Ran cap s [] s
  ran_nil s r = record { ready = r; counted = omega arith; takes = λ σ A m. A; judged = clean refl (λ σ A. (A, tt)); kept = λ z h. h; told = λ z h. absurd h; whence = λ z h. before h }

  -- a node made
  module _ (s : Bench) (k a b : ℕ) (r : Ready cap s) (l : s.count < cap) (i : Inside s.count (decode k a b)) where
    grown-takes : (σ : Assignment) → Admitted s σ → Says σ s.count (decode k a b) → Admitted (grow s k a b) σ
    unfolding grow
    grown-takes σ A q = push_takes s.count (node_at s.words s.count) (node_at (push_at s.words s.count k a b) (suc s.count)) (node_push_old s.words s.count k a b (room cap s k a b r l i)) σ A
        (subst (λ (d : Node). Says σ s.count d) (sym (node_push_new s.words s.count k a b (room cap s k a b r l i))) q)

    grown-keeps : (σ : Assignment) → Admitted (grow s k a b) σ → Admitted s σ × Says σ s.count (decode k a b)
    unfolding grow
    grown-keeps σ A =
        let p = push_keeps s.count (node_at s.words s.count) (node_at (push_at s.words s.count k a b) (suc s.count)) (node_push_old s.words s.count k a b (room cap s k a b r l i)) σ A in
        (p.0, subst (λ (d : Node). Says σ s.count d) (node_push_new s.words s.count k a b (room cap s k a b r l i)) p.1)

    grown-judged : (os : List Op) (s' : Bench) → Judged (grow s k a b) os s' → Judged s (make k a b ∷ os) s'
    unfolding grow
    grown-judged os s' (clean e f) = clean e (λ σ A. (let p = f σ A in let q = grown-keeps σ p.0 in (q.0, (q.1, p.1))))
    grown-judged os s' (hopeless e f) = hopeless e (λ σ A m. f σ (grown-takes σ A m.0) m.1)

    grown-ran : (os : List Op) (s' : Bench) → Ran cap (grow s k a b) os s' → Ran cap s (make k a b ∷ os) s'
    unfolding grow
    grown-ran os s' h = record { ready = h.ready; counted = (let q = h.counted in omega arith); takes = λ σ A m. h.takes σ (grown-takes σ A m.0) m.1; judged = grown-judged os s' h.judged; kept = h.kept; told = h.told; whence = h.whence }

  complain-ran : (s : Bench) (q p : ℕ) (os : List Op) (s' : Bench) → Ran cap (complain s q p) os s' → Ran cap s (list q p ∷ os) s'
  unfolding complain
  complain-ran s q p os s' h = record { ready = h.ready; counted = h.counted; takes = λ σ A m. absurd m; judged = hopeless (more h.judged) (λ σ A m. m); kept = λ z i. h.kept z (in_left z s.problems ((q, p) ∷ []) i); told = λ z i. say z i; whence = λ z i. whence-listed z (q, p) s.problems (listed os) (h.whence z i) }
    where
      say : (z : ℕ × ℕ) → In z ((q, p) ∷ listed os) → In z s'.problems
      say z (inl e) = h.kept z (subst (λ (y : ℕ × ℕ). In y (s.problems ++ ((q, p) ∷ []))) (sym e) (in_end (q, p) s.problems))
      say z (inr i) = h.told z i

      more : Judged (complain s q p) os s' → length s.problems < length s'.problems
      more (clean e f) = let z = length-append s.problems ((q, p) ∷ []) in let y = ap length e in omega arith
      more (hopeless e f) = let z = length-append s.problems ((q, p) ∷ []) in omega arith

  -- a comparison
  module _ (s : Bench) (a b p : ℕ) where
    failed-judged : (os : List Op) (v : Verdict) (ws' : Words) (s' : Bench) → ((σ : Assignment) → Admitted s σ → Eqn cap s a b p σ → ⊥) → length s.problems < length (noted v p s.problems) → Judged (learn s p (v, ws')) os s' → Judged s (compare a b p ∷ os) s'
    unfolding learn
    failed-judged os v ws' s' n l (clean e f) = let y = ap length e in hopeless (omega arith) (λ σ A m. n σ A m.0)
    failed-judged os v ws' s' n l (hopeless e f) = hopeless (omega arith) (λ σ A m. n σ A m.0)

    learnt_judged : (os : List Op) (v : Verdict) (ws' : Words) → Kept s.count s.words (Eqn cap s a b p) ws' → Judges s.count s.words (Eqn cap s a b p) ws' v → (s' : Bench) → Judged (learn s p (v, ws')) os s' → Judged s (compare a b p ∷ os) s'
    unfolding learn noted
    learnt_judged os unified ws' k j s' (clean e f) = clean e (λ σ A. (let q = f σ A in (k.keeps σ q.0, (j σ q.0, q.1))))
    learnt_judged os unified ws' k j s' (hopeless e f) = hopeless e (λ σ A m. f σ (k.takes σ A m.0) m.1)
    learnt_judged os mismatch ws' k j s' h = failed-judged os mismatch ws' s' j (let z = length-append s.problems ((0, p) ∷ []) in omega arith) h
    learnt_judged os circular ws' k j s' h = failed-judged os circular ws' s' j (let z = length-append s.problems ((1, p) ∷ []) in omega arith) h

    learnt_ran : (os : List Op) (o : Answer) → Outcome s.count s.words (Eqn cap s a b p) o → (s' : Bench) → Ran cap (learn s p o) os s' → Ran cap s (compare a b p ∷ os) s'
    unfolding learn
    learnt_ran os o g s' h = record { ready = h.ready; counted = h.counted; takes = λ σ A m. h.takes σ (g.kept.takes σ A m.0) m.1; judged = learnt_judged os o.0 o.1 g.kept g.judged s' h.judged; kept = λ z i. h.kept z (in_noted o.0 p z s.problems i); told = h.told; whence = λ z i. whence-noted o.0 p z s.problems (listed os) (h.whence z i) }

  pay-judged : (s : Bench) (os : List Op) (s' : Bench) → Judged s os s' → Judged s (pay ∷ os) s'
  pay-judged s os s' (clean e f) = clean e f
  pay-judged s os s' (hopeless e f) = hopeless e f

  -- a list whose nodes fit: what it costs, and what stands after it (`Ran`)
  pub exec-exact : (os : List Op) (s : Bench) → Ready cap s → Sound s.count os → s.count + nodes os ≤ cap → Exact (λ _. U) (Ran cap s os) (exec cap os s)
  unfolding exec choose grow learn complain
  exec-exact [] s r w l = exact-ret _ s (ran_nil s r)
  exec-exact (pay ∷ os) s r w l = exact-tick tt tt (exact-map (λ _ u. u) (λ s' h. record { ready = h.ready; counted = h.counted; takes = h.takes; judged = pay-judged s os s' h.judged; kept = h.kept; told = h.told; whence = h.whence }) (exec-exact os s r w l))
  exec-exact (make k a b ∷ os) s r w l =
      let q : s.count < cap = omega arith in
      exact_eq (ap (λ (c : Bool). choose c (exec cap os (grow s k a b)) (fail full tt)) (lt-ltb s.count cap q))
      (exact-map (λ _ u. u) (λ s' h. grown-ran s k a b r q w.0.0 os s' h) (exec-exact os (grow s k a b) (grown-ready cap s k a b r q w.0.0) w.1 (omega arith)))
  exec-exact (compare a b p ∷ os) s r w l =
      exact-bind (exact-forget (unify-exact s.count s.words (let q = r.roomy in omega arith) r.good a b w.0 w.1))
      (λ o g. exact-map (λ _ u. u) (λ s' h. learnt_ran s a b p os o g s' h) (exec-exact os (learn s p o) (learnt_ready cap s a b p o r g.kept) w.2 l))
  exec-exact (list q p ∷ os) s r w l = exact-map (λ _ u. u) (λ s' h. complain-ran s q p os s' h) (exec-exact os (complain s q p) (complain-ready cap s q p r) w l)

  -- the capacity ends inside the list: it halts full from some budget on, and below that it is spent; nothing else can happen
  pub exec_full : (os : List Op) (s : Bench) → Ready cap s → Sound s.count os → s.count ≤ cap → cap < s.count + nodes os → (c : ℕ) × Halts (exec cap os s) full tt c
  unfolding exec choose grow learn complain
  exec_full [] s r w l f = absurd (omega arith)
  exec_full (pay ∷ os) s r w l f = let z = exec_full os s r w l f in (suc z.0, halts-tick tt z.1)
  exec_full (make k a b ∷ os) s r w l f = at-make (dec_lt s.count cap) (λ q. exec_full os (grow s k a b) (grown-ready cap s k a b r q w.0.0) w.1 (omega arith) (omega arith))
    where
      at-make : Dec (s.count < cap) → (s.count < cap → (c : ℕ) × Halts (exec cap os (grow s k a b)) full tt c) → (c : ℕ) × Halts (choose (ltb s.count cap) (exec cap os (grow s k a b)) (fail full tt)) full tt c
      at-make (yes q) rec = let z = rec q in (z.0, halts_eq (ap (λ (c : Bool). choose c (exec cap os (grow s k a b)) (fail full tt)) (lt-ltb s.count cap q)) z.1)
      at-make (no q) rec = (0, halts_eq (ap (λ (c : Bool). choose c (exec cap os (grow s k a b)) (fail full tt)) (le-ltb s.count cap (omega arith))) (halts-fail full tt))
  exec_full (compare a b p ∷ os) s r w l f =
      let x = exact-forget (unify-exact s.count s.words (let q = r.roomy in omega arith) r.good a b w.0 w.1) in
      let z = exec_full os (learn s p x.answer) (learnt_ready cap s a b p x.answer r x.holds.kept) w.2 l f in
      (x.cost + z.0, halts-bind (λ o. exec cap os (learn s p o)) x z.1)
  exec_full (list q p ∷ os) s r w l f = exec_full os (complain s q p) (complain-ready cap s q p r) w l f

-- the same bench and a larger capacity: a list whose nodes fit runs as before
pub exec_wider : (cap cap' : ℕ) (os : List Op) (s : Bench) → s.count + nodes os ≤ cap → cap ≤ cap' → exec cap os s ≡ exec cap' os s
unfolding exec grow learn complain
exec_wider cap cap' [] s l h = refl
exec_wider cap cap' (pay ∷ os) s l h = ap (tick tt) (exec_wider cap cap' os s l h)
exec_wider cap cap' (make k a b ∷ os) s l h =
    ap₂ (λ (c : Bool) (m : M U Bench). choose c m (fail full tt)) (lt-ltb s.count cap (omega arith) ∙ sym (lt-ltb s.count cap' (omega arith))) (exec_wider cap cap' os (grow s k a b) (omega arith) h)
exec_wider cap cap' (compare a b p ∷ os) s l h =
    ap (λ (k : Answer → M U Bench). forget (unify s.count (s.words, a, b)) >>= k) (fun_ext λ o. exec_wider cap cap' os (learn s p o) l h)
exec_wider cap cap' (list q p ∷ os) s l h = exec_wider cap cap' os (complain s q p) l h
