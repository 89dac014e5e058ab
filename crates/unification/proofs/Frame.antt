-- The theorems of specs/Frame.antt, whose head says what they give: `unify-alike`, `exec-alike`, `unify-beside`, `exec-beside`.
use Prim.Native.Nat.{ℕ, zero, suc, ◌+◌, ◌*◌, ◌-◌, ◌≤◌, ◌<◌}
use Rattle.std.proofs.Math.Path.{◌≡◌, refl, ap, ap₂, subst}
use Rattle.std.proofs.Common.{sym, ◌∙◌, inl, inr, arith, length-append, length-set, get_or-set_other, get_or-append-add, ext_get_or, lt-ltb, le-ltb}
use Rattle.std.specs.Prelude.{◌⊎◌, Bool, ltb, eqb, get_or, set}
use Rattle.std.proofs.Math.Bool.{true, false}
use mathlib.Core.List.{List, [], ◌∷◌, ◌++◌}
use Rattle.std.proofs.Math.Decide.{dec_lt}
use Rattle.std.proofs.Math.ListN.{length, get_or-append}
use Rattle.meter.specs.Meter.{Out, spent, halt, done, full, M, ret, fail, tick, on, ◌>>=◌, at_e, reading, mapped, run, iter, forget_e, forget}
use Rattle.unification.specs.Arena.{Node, free, bad, Words, U, node_at, bind_at, unknown, rank_at, either, below, level, raised, merge_at, choose, resolve, occurs, Verdict, unified, mismatch, circular, Meeting, bindLeft, bindRight, agree, clash, down, both, meet, Pair, Answer, bound, assign, next, meeting, unify_at, unify_f, unify}
use Rattle.unification.specs.Good.{inside_no, node-out, push_at, length_push}
use Rattle.unification.proofs.Good.{length-bind}
use Rattle.unification.proofs.Merge.{below_free, level-free}
use Rattle.unification.specs.Ops.{Op, pay, make, compare, list, Bench, noted, grow, learn, complain, exec, nodes}
use Rattle.unification.specs.Frame.{Like, like_spent, like_halt, like_done, set_both, Beside, stays-refl, Alike, stays_trans, Stays, Answers, node_alike, occurs-alike, right-unknown, left-unknown, resolve-alike, Benches, stays-more, push_past, push_both, Room, widened, beside}

module _ {E A : Type 0} {S : E → E → Type 0} where
  like_map : {D : A → A → Type 0} {S' : E → E → Type 0} {D' : A → A → Type 0} {o o' : Out E A} → ((e e' : E) → S e e' → S' e e') → ((a a' : A) → D a a' → D' a a') → Like S D o o' → Like S' D' o o'
  like_map f g (like_spent {e = e} {e' = e'} s) = like_spent (f e e' s)
  like_map f g (like_halt {e = e} {e' = e'} s) = like_halt (f e e' s)
  like_map f g (like_done {a = a} {a' = a'} d) = like_done (g a a' d)

  like_on : {B : Type 0} {D : A → A → Type 0} {D' : B → B → Type 0} {o o' : Out E A} (k k' : A → M E B) → ((a a' : A) → D a a' → (r : ℕ) → Like S D' (k a r) (k' a' r)) → Like S D o o' → Like S D' (on o k) (on o' k')
  unfolding on
  like_on k k' g (like_spent s) = like_spent s
  like_on k k' g (like_halt s) = like_halt s
  like_on k k' g (like_done {a = a} {a' = a'} {r = r} d) = g a a' d r

  -- one reader, run where two states stand
  like_reading : {B : Type 0} {D : B → B → Type 0} (e e' : E) → S e e' → (k k' : A → M E B) → ((a : A) (r : ℕ) → Like S D (k a r) (k' a r)) → (o : Out U A) → Like S D (on (at_e e o) k) (on (at_e e' o) k')
  unfolding on at_e
  like_reading e e' s k k' g (spent _) = like_spent s
  like_reading e e' s k k' g (halt w _) = like_halt s
  like_reading e e' s k k' g (done a r) = g a r

  like_tick : {D : A → A → Type 0} (e e' : E) → S e e' → (m m' : M E A) → ((b : ℕ) → Like S D (m b) (m' b)) → (b : ℕ) → Like S D (tick e m b) (tick e' m' b)
  unfolding tick
  like_tick e e' s m m' g zero = like_spent s
  like_tick e e' s m m' g (suc b) = g b

  like_choose : {D : A → A → Type 0} (c : Bool) (m m' k k' : M E A) (b : ℕ) → Like S D (m b) (m' b) → Like S D (k b) (k' b) → Like S D (choose c m k b) (choose c m' k' b)
  unfolding choose
  like_choose true m m' k k' b p q = p
  like_choose false m m' k k' b p q = q

-- a binding
bind_word : (ws : Words) (v t i : ℕ) → 3 * suc v ≤ i → get_or (bind_at ws v t) i 0 ≡ get_or ws i 0
unfolding bind_at
bind_word ws v t i l = get_or-set_other (set ws (3 * v) 0x4D) (3 * v + 1) i t 0 (λ e. omega arith) ∙ get_or-set_other ws (3 * v) i 0x4D 0 (λ e. omega arith)

bind-both : (ws ws' : Words) (v t i : ℕ) → 3 * suc v ≤ length ws → 3 * suc v ≤ length ws' → get_or ws i 0 ≡ get_or ws' i 0 → get_or (bind_at ws v t) i 0 ≡ get_or (bind_at ws' v t) i 0
unfolding bind_at
bind-both ws ws' v t i p q e =
    set_both (set ws (3 * v) 0x4D) (set ws' (3 * v) 0x4D) (3 * v + 1) t i (rw length-set (omega arith)) (rw length-set (omega arith)) λ _.
    set_both ws ws' (3 * v) 0x4D i (omega arith) (omega arith) λ _. e

module _ (n : ℕ) where
  beside-refl : (ws ws' : Words) → Alike n ws ws' → Beside n ws ws' ws ws'
  beside-refl ws ws' h = record { alike = h; stays = stays-refl n ws; stays' = stays-refl n ws' }

  beside_trans : (ws ws' vs vs' us us' : Words) → Beside n ws ws' vs vs' → Beside n vs vs' us us' → Beside n ws ws' us us'
  beside_trans ws ws' vs vs' us us' p q = record { alike = q.alike; stays = stays_trans n ws vs us p.stays q.stays; stays' = stays_trans n ws' vs' us' p.stays' q.stays' }

  bind-stays : (ws : Words) (v t : ℕ) → v < n → Stays n ws (bind_at ws v t)
  bind-stays ws v t l = record { long = length-bind ws v t; past = λ i q. bind_word ws v t i (omega arith) }

  bind-beside : (ws ws' : Words) → Alike n ws ws' → (v t : ℕ) → v < n → Beside n ws ws' (bind_at ws v t) (bind_at ws' v t)
  bind-beside ws ws' h v t l =
      let p = h.roomy in
      let q = h.roomy' in
      record {
        alike = record {
          roomy = rw (length-bind ws v t) p;
          roomy' = rw (length-bind ws' v t) q;
          agrees = λ i z. bind-both ws ws' v t i (omega arith) (omega arith) (h.agrees i z);
        };
        stays = bind-stays ws v t l;
        stays' = bind-stays ws' v t l;
      }

  abbrev Sides : Words → Words → Out Words Answer → Out Words Answer → Type 0
  Sides ws ws' o o' = Like (Beside n ws ws') (Answers n ws ws') o o'

  sides_ret : (v : Verdict) (ws ws' : Words) → Alike n ws ws' → (b : ℕ) → Sides ws ws' (ret (v, ws) b) (ret (v, ws') b)
  unfolding ret
  sides_ret v ws ws' h b = like_done (record { verdict = refl; words = beside-refl ws ws' h })

  -- from words reached on the way
  sides_from : (ws ws' vs vs' : Words) → Beside n ws ws' vs vs' → (o o' : Out Words Answer) → Sides vs vs' o o' → Sides ws ws' o o'
  sides_from ws ws' vs vs' p o o' x = like_map (λ e e' q. beside_trans ws ws' vs vs' e e' p q) (λ a a' q. record { verdict = q.verdict; words = beside_trans ws ws' vs vs' a.1 a'.1 p q.words }) x

  -- what is bound is an unknown of the arena
  unknown-inside : (ws : Words) (x : ℕ) → node_at ws n x ≡ free → x < n
  unknown-inside ws x e = at (dec_lt x n)
    where
      at : Dec (x < n) → x < n
      at (yes l) = l
      at (no l) = let z : bad ≡ free = sym (node-out ws n x (inside_no ws n x (omega arith))) ∙ e in let y : ◌≡◌ {A = ℕ} 0 1 = cc in absurd (omega arith)

  -- two unknowns made equal, side by side: the ranks that are compared are words of the nodes
  module _ (ws ws' : Words) (h : Alike n ws ws') (v t : ℕ) (vl : v < n) where
    same_rank : (x : ℕ) → x < n → rank_at ws x ≡ rank_at ws' x
    unfolding rank_at
    same_rank x l = h.agrees (3 * x + 2) (omega arith)

    same-unknown : unknown (node_at ws n t) ≡ unknown (node_at ws' n t)
    same-unknown = ap (λ (at : ℕ → Node). unknown (at t)) (node_alike n ws ws' h)

    no_unknown : (us : Words) → n ≤ t → unknown (node_at us n t) ≡ false
    unfolding unknown
    no_unknown us l = ap unknown (node-out us n t (inside_no us n t l))

    same-below : Dec (t < n) → below ws n v t ≡ below ws' n v t
    unfolding below
    same-below (yes l) = rw (same-unknown, same_rank t l, same_rank v vl) refl
    same-below (no l) = rw (no_unknown ws (omega arith), no_unknown ws' (omega arith)) refl

    same-level : Dec (t < n) → level ws n v t ≡ level ws' n v t
    unfolding level
    same-level (yes l) = rw (same-unknown, same_rank t l, same_rank v vl) refl
    same-level (no l) = rw (no_unknown ws (omega arith), no_unknown ws' (omega arith)) refl

    rank-stays : (us : Words) (r : ℕ) → t < n → Stays n us (set us (3 * t + 2) r)
    rank-stays us r l = record { long = simp length-set; past = λ i q. get_or-set_other us (3 * t + 2) i r 0 (λ e. omega arith) }

    raised-beside-at : (c : Bool) → level ws n v t ≡ c → Beside n ws ws' (either c (set ws (3 * t + 2) (suc (rank_at ws t))) ws) (either c (set ws' (3 * t + 2) (suc (rank_at ws' t))) ws')
    raised-beside-at true e =
        let l : t < n = unknown-inside ws t (level-free ws n v t e) in
        let p = h.roomy in
        let q = h.roomy' in
        subst (λ (r : ℕ). Beside n ws ws' (set ws (3 * t + 2) (suc (rank_at ws t))) (set ws' (3 * t + 2) (suc r))) (same_rank t l)
        (record {
          alike = record {
            roomy = rw length-set p;
            roomy' = rw length-set q;
            agrees = λ i z. set_both ws ws' (3 * t + 2) (suc (rank_at ws t)) i (omega arith) (omega arith) (λ _. h.agrees i z);
          };
          stays = rank-stays ws (suc (rank_at ws t)) l;
          stays' = rank-stays ws' (suc (rank_at ws t)) l;
        })
    raised-beside-at false e = beside-refl ws ws' h

    raised-beside : Beside n ws ws' (raised ws n v t) (raised ws' n v t)
    unfolding raised
    raised-beside = subst (λ (c : Bool). Beside n ws ws' (raised ws n v t) (either c (set ws' (3 * t + 2) (suc (rank_at ws' t))) ws')) (same-level (dec_lt t n)) (raised-beside-at (level ws n v t) refl)

    merge_beside-at : (c : Bool) → below ws n v t ≡ c → Beside n ws ws' (either c (bind_at ws t v) (bind_at (raised ws n v t) v t)) (either c (bind_at ws' t v) (bind_at (raised ws' n v t) v t))
    merge_beside-at true e = bind-beside ws ws' h t v (unknown-inside ws t (below_free ws n v t e))
    merge_beside-at false e = beside_trans ws ws' (raised ws n v t) (raised ws' n v t) (bind_at (raised ws n v t) v t) (bind_at (raised ws' n v t) v t)
        raised-beside (bind-beside (raised ws n v t) (raised ws' n v t) raised-beside.alike v t vl)

    merge_beside : Beside n ws ws' (merge_at ws n v t) (merge_at ws' n v t)
    unfolding merge_at
    merge_beside = subst (λ (c : Bool). Beside n ws ws' (merge_at ws n v t) (either c (bind_at ws' t v) (bind_at (raised ws' n v t) v t))) (same-below (dec_lt t n)) (merge_beside-at (below ws n v t) refl)

  sides_bound : (ws ws' : Words) → Alike n ws ws' → (v t : ℕ) → v < n → (c : Bool) (b : ℕ) → Sides ws ws' (bound ws n v t c b) (bound ws' n v t c b)
  unfolding bound
  sides_bound ws ws' h v t l true b = sides_ret circular ws ws' h b
  sides_bound ws ws' h v t l false b = sides_from ws ws' (merge_at ws n v t) (merge_at ws' n v t) (merge_beside ws ws' h v t l) _ _ (sides_ret unified (merge_at ws n v t) (merge_at ws' n v t) (merge_beside ws ws' h v t l).alike b)

  sides_assign : (ws ws' : Words) → Alike n ws ws' → (v t : ℕ) → v < n → (b : ℕ) → Sides ws ws' (assign ws n v t b) (assign ws' n v t b)
  unfolding assign ◌>>=◌ reading
  sides_assign ws ws' h v t l b =
      subst (λ (m : ℕ → M U Bool). Sides ws ws' (on (at_e ws (occurs ws n v t b)) (bound ws n v t)) (on (at_e ws' (m t b)) (bound ws' n v t))) (occurs-alike n ws ws' h v)
      (like_reading ws ws' (beside-refl ws ws' h) (bound ws n v t) (bound ws' n v t) (sides_bound ws ws' h v t l) (occurs ws n v t b))

  -- unification by its recursion
  module _ (rec : Pair → M Words Answer) (ih : (ws ws' : Words) → Alike n ws ws' → (x y b : ℕ) → Sides ws ws' (rec (ws, x, y) b) (rec (ws', x, y) b)) where
    sides_next : (vs vs' : Words) → Alike n vs vs' → (y z : ℕ) (v : Verdict) (b : ℕ) → Sides vs vs' (next rec y z v vs b) (next rec y z v vs' b)
    unfolding next
    sides_next vs vs' h y z unified b = ih vs vs' h y z b
    sides_next vs vs' h y z mismatch b = sides_ret mismatch vs vs' h b
    sides_next vs vs' h y z circular b = sides_ret circular vs vs' h b

    module _ (ws ws' : Words) (h : Alike n ws ws') where
      sides_then : (y z : ℕ) (o o' : Answer) → Answers n ws ws' o o' → (b : ℕ) → Sides ws ws' (next rec y z o.0 o.1 b) (next rec y z o'.0 o'.1 b)
      sides_then y z o o' q b =
          subst (λ (v : Verdict). Sides ws ws' (next rec y z o.0 o.1 b) (next rec y z v o'.1 b)) q.verdict
          (sides_from ws ws' o.1 o'.1 q.words _ _ (sides_next o.1 o'.1 q.words.alike y z o.0 b))

      sides_meeting : (x y : ℕ) (m : Meeting) → (m ≡ bindLeft → x < n) → (m ≡ bindRight → y < n) → (b : ℕ) → Sides ws ws' (meeting rec ws n x y m b) (meeting rec ws' n x y m b)
      unfolding meeting ◌>>=◌
      sides_meeting x y bindLeft l r b = sides_assign ws ws' h x y (l refl) b
      sides_meeting x y bindRight l r b = sides_assign ws ws' h y x (r refl) b
      sides_meeting x y agree l r b = sides_ret unified ws ws' h b
      sides_meeting x y clash l r b = sides_ret mismatch ws ws' h b
      sides_meeting x y (down z w) l r b = ih ws ws' h z w b
      sides_meeting x y (both z w s t) l r b = like_on (λ o. next rec w t o.0 o.1) (λ o. next rec w t o.0 o.1) (λ o o' q c. sides_then w t o o' q c) (ih ws ws' h z s b)

      sides_at : (x y b : ℕ) → Sides ws ws' (unify_at rec ws n x y b) (unify_at rec ws' n x y b)
      unfolding unify_at
      sides_at x y b =
          like_choose (eqb x y) (ret (unified, ws)) (ret (unified, ws')) _ _ b (sides_ret unified ws ws' h b)
          (subst (λ (at : ℕ → Node). Sides ws ws' (meeting rec ws n x y (meet (node_at ws n x) (node_at ws n y)) b) (meeting rec ws' n x y (meet (at x) (at y)) b)) (node_alike n ws ws' h)
          (sides_meeting x y (meet (node_at ws n x) (node_at ws n y)) (λ e. unknown-inside ws x (left-unknown n (node_at ws n x) (node_at ws n y) e)) (λ e. unknown-inside ws y (right-unknown n (node_at ws n x) (node_at ws n y) e)) b))

      sides_step : (x y b : ℕ) → Sides ws ws' (unify_f n rec (ws, x, y) b) (unify_f n rec (ws', x, y) b)
      unfolding unify_f ◌>>=◌ reading
      sides_step x y b =
          like_tick ws ws' (beside-refl ws ws' h) _ _ (λ c.
          subst (λ (m : ℕ → M U ℕ). Sides ws ws'
          (on (at_e ws (resolve ws n x c)) (λ p. reading ws (resolve ws n y) >>= λ q. unify_at rec ws n p q))
          (on (at_e ws' (m x c)) (λ p. reading ws' (m y) >>= λ q. unify_at rec ws' n p q))) (resolve-alike n ws ws' h)
          (like_reading ws ws' (beside-refl ws ws' h) _ _ (λ p d.
          like_reading ws ws' (beside-refl ws ws' h) _ _ (λ q d'. sides_at p q d') (resolve ws n y d)) (resolve ws n x c))) b

  sides_iter : (k : ℕ) (ws ws' : Words) → Alike n ws ws' → (x y b : ℕ) → Sides ws ws' (iter (λ i. i.0) (unify_f n) k (ws, x, y) b) (iter (λ i. i.0) (unify_f n) k (ws', x, y) b)
  unfolding iter
  sides_iter zero ws ws' h x y b = like_spent (beside-refl ws ws' h)
  sides_iter (suc k) ws ws' h x y b = sides_step (λ j. iter (λ i. i.0) (unify_f n) k j) (sides_iter k) ws ws' h x y b

  -- of any words that are alike, good or not
  pub unify-alike : (ws ws' : Words) → Alike n ws ws' → (x y b : ℕ) → Like (Beside n ws ws') (Answers n ws ws') (unify n (ws, x, y) b) (unify n (ws', x, y) b)
  unfolding unify run
  unify-alike ws ws' h x y b = sides_iter (suc b) ws ws' h x y b

abbrev bench : ℕ → Words → List (ℕ × ℕ) → Bench
bench n ws ps = record { count = n; words = ws; problems = ps }

benches : (n m : ℕ) (ws ws' vs vs' : Words) (ps qs : List (ℕ × ℕ)) → n ≤ m → Beside m ws ws' vs vs' → Benches (bench n ws ps) (bench n ws' ps) (bench m vs qs) (bench m vs' qs)
benches n m ws ws' vs vs' ps qs l h = record { count = refl; problems = refl; grows = l; words = h }

benches_trans : (s s' t t' u u' : Bench) → Benches s s' t t' → Benches t t' u u' → Benches s s' u u'
benches_trans s s' t t' u u' p q =
    let l = p.grows in
    let m = q.grows in
    record {
      count = q.count;
      problems = q.problems;
      grows = omega arith;
      words = record {
        alike = q.words.alike;
        stays = stays_trans u.count s.words t.words u.words (stays-more t.count u.count s.words t.words m p.words.stays) q.words.stays;
        stays' = stays_trans u.count s'.words t'.words u'.words (stays-more t.count u.count s'.words t'.words m p.words.stays') q.words.stays';
      };
    }

push_stays : (ws : Words) (n k a b : ℕ) → Stays (suc n) ws (push_at ws n k a b)
push_stays ws n k a b = record { long = length_push ws n k a b; past = push_past ws n k a b }

push_beside : (ws ws' : Words) (n k a b : ℕ) → 3 * suc n ≤ length ws → 3 * suc n ≤ length ws' → Alike n ws ws' → Beside (suc n) ws ws' (push_at ws n k a b) (push_at ws' n k a b)
push_beside ws ws' n k a b p q h = record {
  alike = record {
    roomy = rw (length_push ws n k a b) p;
    roomy' = rw (length_push ws' n k a b) q;
    agrees = λ i l. push_both ws ws' n k a b i p q l (h.agrees i);
  };
  stays = push_stays ws n k a b;
  stays' = push_stays ws' n k a b;
}

-- room is kept
room_next : (cap m n : ℕ) (ws vs : Words) → length vs ≡ length ws → Room cap m n ws → Room cap m n vs
room_next cap m n ws vs e h = record { size = h.size; within = rw e h.within; enough = h.enough }

room_fits : (cap n m size : ℕ) → n < cap → cap ≤ size ⊎ n + suc m ≤ size → suc n ≤ size
room_fits cap n m size l (inl q) = omega arith
room_fits cap n m size l (inr q) = omega arith

room-left : (cap n m size : ℕ) → cap ≤ size ⊎ n + suc m ≤ size → cap ≤ size ⊎ suc n + m ≤ size
room-left cap n m size (inl q) = inl q
room-left cap n m size (inr q) = inr (omega arith)

like_forget : {E A : Type 0} {S : E → E → Type 0} {D : A → A → Type 0} {o o' : Out E A} → Like S D o o' → Like (λ _ _. U) D (forget_e o) (forget_e o')
unfolding forget_e
like_forget (like_spent s) = like_spent tt
like_forget (like_halt s) = like_halt tt
like_forget (like_done d) = like_done d

module _ (cap : ℕ) where
  abbrev Runs : Bench → Bench → Out U Bench → Out U Bench → Type 0
  Runs s s' o o' = Like (λ _ _. U) (Benches s s') o o'

  runs_from : (s s' t t' : Bench) → Benches s s' t t' → (o o' : Out U Bench) → Runs t t' o o' → Runs s s' o o'
  runs_from s s' t t' p o o' x = like_map (λ _ _ u. u) (λ u u' q. benches_trans s s' t t' u u' p q) x

  at-make : (s s' : Bench) (n : ℕ) (m m' : M U Bench) (b : ℕ) → Dec (n < cap) → (n < cap → Runs s s' (m b) (m' b)) → Runs s s' (choose (ltb n cap) m (fail full tt) b) (choose (ltb n cap) m' (fail full tt) b)
  unfolding choose fail
  at-make s s' n m m' b (yes l) rec = rw (lt-ltb n cap l) (rec l)
  at-make s s' n m m' b (no l) rec = rw (le-ltb n cap (omega arith)) (like_halt tt)

  exec-same : (os : List Op) (n : ℕ) (ws ws' : Words) (ps : List (ℕ × ℕ)) → Alike n ws ws' → Room cap (nodes os) n ws → Room cap (nodes os) n ws' → (b : ℕ) → Runs (bench n ws ps) (bench n ws' ps) (exec cap os (bench n ws ps) b) (exec cap os (bench n ws' ps) b)
  unfolding exec ret grow learn complain ◌>>=◌ forget fail
  exec-same [] n ws ws' ps h r r' b = like_done (benches n n ws ws' ws ws' ps ps (omega arith) (beside-refl n ws ws' h))
  exec-same (pay ∷ os) n ws ws' ps h r r' b = like_tick tt tt tt (exec cap os (bench n ws ps)) (exec cap os (bench n ws' ps)) (λ c. exec-same os n ws ws' ps h r r' c) b
  exec-same (make k x y ∷ os) n ws ws' ps h r r' b =
      at-make (bench n ws ps) (bench n ws' ps) n (exec cap os (bench (suc n) (push_at ws n k x y) ps)) (exec cap os (bench (suc n) (push_at ws' n k x y) ps)) b (dec_lt n cap) (λ l. (
      let f = room_fits cap n (nodes os) r.size l r.enough in
      let f' = room_fits cap n (nodes os) r'.size l r'.enough in
      let w = r.within in
      let w' = r'.within in
      let p = push_beside ws ws' n k x y (omega arith) (omega arith) h in
      runs_from (bench n ws ps) (bench n ws' ps) (bench (suc n) (push_at ws n k x y) ps) (bench (suc n) (push_at ws' n k x y) ps)
      (benches n (suc n) ws ws' (push_at ws n k x y) (push_at ws' n k x y) ps ps (omega arith) p) _ _
      (exec-same os (suc n) (push_at ws n k x y) (push_at ws' n k x y) ps p.alike
      (record { size = r.size; within = rw (length_push ws n k x y) w; enough = room-left cap n (nodes os) r.size r.enough })
      (record { size = r'.size; within = rw (length_push ws' n k x y) w'; enough = room-left cap n (nodes os) r'.size r'.enough }) b)))
  exec-same (compare x y p ∷ os) n ws ws' ps h r r' b =
      like_on (λ o. exec cap os (learn (bench n ws ps) p o)) (λ o. exec cap os (learn (bench n ws' ps) p o))
      (λ o o' q c. (
      let e : length o.1 ≡ length ws = q.words.stays.long in
      let e' : length o'.1 ≡ length ws' = q.words.stays'.long in
      subst (λ (v : Verdict). Runs (bench n ws ps) (bench n ws' ps) (exec cap os (bench n o.1 (noted o.0 p ps)) c) (exec cap os (bench n o'.1 (noted v p ps)) c)) q.verdict
      (runs_from (bench n ws ps) (bench n ws' ps) (bench n o.1 (noted o.0 p ps)) (bench n o'.1 (noted o.0 p ps)) (benches n n ws ws' o.1 o'.1 ps (noted o.0 p ps) (omega arith) q.words) _ _
      (exec-same os n o.1 o'.1 (noted o.0 p ps) q.words.alike (room_next cap (nodes os) n ws o.1 e r) (room_next cap (nodes os) n ws' o'.1 e' r') c))))
      (like_forget (unify-alike n ws ws' h x y b))
  exec-same (list q p ∷ os) n ws ws' ps h r r' b = runs_from (bench n ws ps) (bench n ws' ps) (bench n ws (ps ++ ((q, p) ∷ []))) (bench n ws' (ps ++ ((q, p) ∷ [])))
      (benches n n ws ws' ws ws' ps (ps ++ ((q, p) ∷ [])) (omega arith) (beside-refl n ws ws' h)) _ _
      (exec-same os n ws ws' (ps ++ ((q, p) ∷ [])) h r r' b)

  -- of any two benches with the same count and problems, whose counted words agree, and with room
  pub exec-alike : (os : List Op) (s s' : Bench) → s.count ≡ s'.count → s.problems ≡ s'.problems → Alike s.count s.words s'.words
      → Room cap (nodes os) s.count s.words → Room cap (nodes os) s'.count s'.words → (b : ℕ) → Like (λ _ _. U) (Benches s s') (exec cap os s b) (exec cap os s' b)
  exec-alike os s s' e f h r r' b =
      let e' : s' ≡ bench s.count s'.words s.problems = ap₂ (λ (n : ℕ) (ps : List (ℕ × ℕ)). bench n s'.words ps) (sym e) (sym f) in
      subst (λ (t : Bench). Runs s t (exec cap os s b) (exec cap os t b)) (sym e')
      (exec-same os s.count s.words s'.words s.problems h r (subst (λ (n : ℕ). Room cap (nodes os) n s'.words) (sym e) r') b)

front-alike : (n : ℕ) (ws rest : Words) → 3 * n ≤ length ws → Alike n ws (ws ++ rest)
front-alike n ws rest l = record {
  roomy = l;
  roomy' = (let e = length-append ws rest in omega arith);
  agrees = λ i q. sym (get_or-append ws rest 0 i (omega arith));
}

-- the larger memory afterwards: the smaller one's words, then the rest as it was
module _ (n : ℕ) (ws rest vs us : Words) (h : Beside n ws (ws ++ rest) vs us) where
  same_length : length us ≡ length (vs ++ rest)
  same_length = let p = h.stays.long in let q = h.stays'.long in let e = length-append ws rest in let f = length-append vs rest in omega arith

  front-word : (i : ℕ) → i < length vs → Dec (i < 3 * n) → get_or us i 0 ≡ get_or vs i 0
  front-word i l (yes q) = sym (h.alike.agrees i q)
  front-word i l (no q) =
      let p = h.stays.long in
      h.stays'.past i (omega arith) ∙ get_or-append ws rest 0 i (omega arith) ∙ sym (h.stays.past i (omega arith))

  rest-word : (i : ℕ) → length vs ≤ i → get_or us i 0 ≡ get_or (vs ++ rest) i 0
  rest-word i l =
      let p : length vs ≡ length ws = h.stays.long in
      let q = h.alike.roomy in
      let j : ℕ = i - length vs in
      let e : i ≡ length vs + j = omega arith in
      let f : i ≡ length ws + j = omega arith in
      h.stays'.past i (omega arith) ∙ ap (λ (k : ℕ). get_or (ws ++ rest) k 0) f ∙ get_or-append-add ws rest j 0
      ∙ sym (ap (λ (k : ℕ). get_or (vs ++ rest) k 0) e ∙ get_or-append-add vs rest j 0)

  word_at : (i : ℕ) → Dec (i < length vs) → get_or us i 0 ≡ get_or (vs ++ rest) i 0
  word_at i (yes l) = front-word i l (dec_lt i (3 * n)) ∙ sym (get_or-append vs rest 0 i l)
  word_at i (no l) = rest-word i (omega arith)

  front-words : us ≡ vs ++ rest
  front-words = ext_get_or 0 us (vs ++ rest) same_length (λ i l. word_at i (dec_lt i (length vs)))

wide_outcome : (n : ℕ) (ws rest : Words) (o o' : Out Words Answer) → Like (Beside n ws (ws ++ rest)) (Answers n ws (ws ++ rest)) o o' → o' ≡ widened rest o
unfolding widened
wide_outcome n ws rest o o' (like_spent {e = e} {e' = e'} h) = ap spent (front-words n ws rest e e' h)
wide_outcome n ws rest o o' (like_halt {w = w} {e = e} {e' = e'} h) = ap (halt w) (front-words n ws rest e e' h)
wide_outcome n ws rest o o' (like_done {a = a} {a' = a'} {r = r} h) = ap₂ (λ (v : Verdict) (us : Words). done (v, us) r) (sym h.verdict) (front-words n ws rest a.1 a'.1 h.words)

pub unify-beside : (n : ℕ) (ws rest : Words) → 3 * n ≤ length ws → (x y b : ℕ) → unify n (ws ++ rest, x, y) b ≡ widened rest (unify n (ws, x, y) b)
unify-beside n ws rest l x y b = wide_outcome n ws rest (unify n (ws, x, y) b) (unify n (ws ++ rest, x, y) b) (unify-alike n ws (ws ++ rest) (front-alike n ws rest l) x y b)

-- a list of operations in the front
beside-outcome : (s : Bench) (rest : Words) (o o' : Out U Bench) → Like (λ _ _. U) (Benches s (beside rest s)) o o' → o' ≡ mapped (beside rest) o
unfolding mapped beside
beside-outcome s rest o o' (like_spent h) = refl
beside-outcome s rest o o' (like_halt h) = refl
beside-outcome s rest o o' (like_done {a = t} {a' = t'} {r = r} h) =
    ap (λ (u : Bench). done u r) (λ i. record { count = sym h.count i; words = front-words t.count s.words rest t.words t'.words h.words i; problems = sym h.problems i })

pub exec-beside : (cap : ℕ) (os : List Op) (s : Bench) (rest : Words) → 3 * s.count ≤ length s.words → Room cap (nodes os) s.count s.words
    → (b : ℕ) → exec cap os (beside rest s) b ≡ mapped (beside rest) (exec cap os s b)
unfolding beside
exec-beside cap os s rest l r b = beside-outcome s rest (exec cap os s b) (exec cap os (beside rest s) b)
    (exec-alike cap os s (beside rest s) refl refl (front-alike s.count s.words rest l) r
    (record { size = r.size; within = (let w = r.within in let e = length-append s.words rest in omega arith); enough = r.enough }) b)
