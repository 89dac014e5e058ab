-- The theorems of specs/Steps.antt: `unify_metered`, `unify_eq`.
use Rattle.std.specs.Prelude.{ℕ, ◌≡◌, Bool, true, false, eqb}
use Rattle.meter.specs.Meter.{M, Metered, Paid, metered_ret, metered_tick, metered_bind, metered_reading, Agree, agree_refl, agree-tick, agree-bind, run_metered, run_eq}
use Rattle.unification.specs.Arena.{node_at, Verdict, unified, mismatch, circular, Meeting, bindLeft, bindRight, agree, clash, down, both, meet, Words, Pair, Answer, bound, assign, next, meeting, unify_at, unify_f, unify}
use Rattle.unification.specs.Steps.{occurs_metered, resolve_metered, choose-agree, choose_metered}

-- unify
bound_metered : (ws : Words) (n v t : ℕ) (c : Bool) → Metered (bound ws n v t c)
unfolding bound
bound_metered ws n v t true = metered_ret _
bound_metered ws n v t false = metered_ret _

assign_metered : (ws : Words) (n v t : ℕ) → Metered (assign ws n v t)
unfolding assign
assign_metered ws n v t = metered_bind (metered_reading ws (occurs_metered ws n v t)) (bound_metered ws n v t)

next_metered : (rec : Pair → M Words Answer) → ((i : Pair) → Metered (rec i)) → (y z : ℕ) (o : Verdict) (ws : Words) → Metered (next rec y z o ws)
unfolding next
next_metered rec h y z unified ws = h (ws, y, z)
next_metered rec h y z mismatch ws = metered_ret _
next_metered rec h y z circular ws = metered_ret _

meeting_metered : (rec : Pair → M Words Answer) → ((i : Pair) → Metered (rec i)) → (ws : Words) (n a b : ℕ) (k : Meeting) → Metered (meeting rec ws n a b k)
unfolding meeting
meeting_metered rec h ws n a b bindLeft = assign_metered ws n a b
meeting_metered rec h ws n a b bindRight = assign_metered ws n b a
meeting_metered rec h ws n a b agree = metered_ret _
meeting_metered rec h ws n a b clash = metered_ret _
meeting_metered rec h ws n a b (down x y) = h (ws, x, y)
meeting_metered rec h ws n a b (both x y z w) = metered_bind (h (ws, x, z)) λ o. next_metered rec h y w o.0 o.1

next-guards : (n : ℕ) (rec rec' : Pair → M Words Answer) → ((i : Pair) → Agree n (rec i) (rec' i)) → (y z : ℕ) (o : Verdict) (ws : Words) → Agree n (next rec y z o ws) (next rec' y z o ws)
unfolding next
next-guards n rec rec' g y z unified ws = g (ws, y, z)
next-guards n rec rec' g y z mismatch ws = agree_refl n _
next-guards n rec rec' g y z circular ws = agree_refl n _

meeting-guards : (c : ℕ) (rec rec' : Pair → M Words Answer) → ((i : Pair) → Metered (rec i)) → ((i : Pair) → Agree c (rec i) (rec' i)) → (ws : Words) (n a b : ℕ) (k : Meeting) → Agree c (meeting rec ws n a b k) (meeting rec' ws n a b k)
unfolding meeting
meeting-guards c rec rec' h g ws n a b bindLeft = agree_refl c _
meeting-guards c rec rec' h g ws n a b bindRight = agree_refl c _
meeting-guards c rec rec' h g ws n a b agree = agree_refl c _
meeting-guards c rec rec' h g ws n a b clash = agree_refl c _
meeting-guards c rec rec' h g ws n a b (down x y) = g (ws, x, y)
meeting-guards c rec rec' h g ws n a b (both x y z w) = agree-bind c (h (ws, x, z)) (g (ws, x, z)) λ o. next-guards c rec rec' g y w o.0 o.1

unify-paid : (n : ℕ) → Paid (unify_f n)
unfolding unify_f unify_at
unify-paid n = record {
  keeps = λ rec h i. metered_tick i.0 (metered_bind (metered_reading i.0 (resolve_metered i.0 n i.1)) λ a.
      metered_bind (metered_reading i.0 (resolve_metered i.0 n i.2)) λ b.
      choose_metered (eqb a b) (metered_ret _) (meeting_metered rec h i.0 n a b (meet (node_at i.0 n a) (node_at i.0 n b))));
  guards = λ c rec rec' h g i. agree-tick i.0 c (agree-bind c (metered_reading i.0 (resolve_metered i.0 n i.1)) (agree_refl c _) λ a.
      agree-bind c (metered_reading i.0 (resolve_metered i.0 n i.2)) (agree_refl c _) λ b.
      choose-agree c (eqb a b) (agree_refl c _) (meeting-guards c rec rec' h g i.0 n a b (meet (node_at i.0 n a) (node_at i.0 n b))));
}

pub unify_metered : (n : ℕ) (i : Pair) → Metered (unify n i)
unfolding unify
unify_metered n i = run_metered (λ i. i.0) (unify-paid n) i

pub unify_eq : (n : ℕ) (i : Pair) → unify n i ≡ unify_f n (unify n) i
unfolding unify
unify_eq n i = run_eq (λ i. i.0) (unify-paid n) i
