-- The theorems of specs/Tasks.antt, whose head says what they give: `unify_tasks`.
use Prim.Native.Nat.{ℕ}
use Rattle.std.proofs.Math.Path.{◌≡◌, refl, sym, ap, fun_ext}
use Rattle.std.proofs.Common.{◌∙◌}
use Rattle.std.specs.Prelude.{Bool, eqb}
use Rattle.std.proofs.Math.Bool.{true, false}
use Rattle.meter.specs.Meter.{M, ret, tick, ◌>>=◌, reading, bind_assoc, bind-ret, tick-bind, reading-ret, reading-tick, reading-bind}
use Rattle.unification.specs.Arena.{Words, U, node_at, choose, resolve, unified, Meeting, bindLeft, bindRight, agree, clash, down, both, meet, Answer, meeting, unify_at, unify_f, unify}
use Rattle.unification.proofs.Steps.{unify_eq}
use Rattle.unification.specs.Tasks.{task_of, perform, Task, same, then-node, take_up, arrive}

module _ (ws : Words) (n : ℕ) where
  -- a meeting is its task
  meeting_task : (p q : ℕ) (m : Meeting) → meeting (unify n) ws n p q m ≡ perform (unify n) ws n (task_of p q m)
  unfolding meeting perform task_of
  meeting_task p q bindLeft = refl
  meeting_task p q bindRight = refl
  meeting_task p q agree = refl
  meeting_task p q clash = refl
  meeting_task p q (down x y) = refl
  meeting_task p q (both x y z w) = refl

  chosen : (c : Bool) (t : Task) → reading ws (choose c (ret same) (ret t)) >>= perform (unify n) ws n ≡ choose c (ret (unified, ws)) (perform (unify n) ws n t)
  unfolding choose perform
  chosen true t = ap (λ (m : M Words Task). m >>= perform (unify n) ws n) (reading-ret ws same) ∙ bind-ret same (perform (unify n) ws n)
  chosen false t = ap (λ (m : M Words Task). m >>= perform (unify n) ws n) (reading-ret ws t) ∙ bind-ret t (perform (unify n) ws n)

  ask : ℕ → ℕ → M U Task
  ask p q = choose (eqb p q) (ret same) (ret (task_of p q (meet (node_at ws n p) (node_at ws n q))))

  asked : (p q : ℕ) → reading ws (ask p q) >>= perform (unify n) ws n ≡ unify_at (unify n) ws n p q
  unfolding ask unify_at
  asked p q = chosen (eqb p q) (task_of p q (meet (node_at ws n p) (node_at ws n q))) ∙ ap (choose (eqb p q) (ret (unified, ws))) (sym (meeting_task p q (meet (node_at ws n p) (node_at ws n q))))

  take-up_eq : (a b : ℕ) → take_up ws n a b ≡ tick tt (resolve ws n a >>= λ p. resolve ws n b >>= λ q. ask p q)
  unfolding take_up ask
  take-up_eq a b = ap (tick tt) (then-node ws n a (λ o. arrive ws n b >>= λ u. choose (eqb o.0 u.0) (ret same) (ret (task_of o.0 u.0 (meet o.1 u.1))))
      ∙ ap (λ (f : ℕ → M U Task). resolve ws n a >>= f) (fun_ext λ p. then-node ws n b (λ u. choose (eqb p u.0) (ret same) (ret (task_of p u.0 (meet (node_at ws n p) u.1))))))

  second : (b p : ℕ) → reading ws (resolve ws n b >>= λ q. ask p q) >>= perform (unify n) ws n ≡ reading ws (resolve ws n b) >>= λ q. unify_at (unify n) ws n p q
  second b p = ap (λ (m : M Words Task). m >>= perform (unify n) ws n) (reading-bind ws (resolve ws n b) (ask p)) ∙ bind_assoc (reading ws (resolve ws n b)) (λ q. reading ws (ask p q)) (perform (unify n) ws n)
      ∙ ap (λ (f : ℕ → M Words Answer). reading ws (resolve ws n b) >>= f) (fun_ext λ q. asked p q)

  -- a pair is taken up, and the task it gives is carried out
  pub unify_tasks : (a b : ℕ) → unify n (ws, a, b) ≡ reading ws (take_up ws n a b) >>= perform (unify n) ws n
  unfolding unify_f
  unify_tasks a b = unify_eq n (ws, a, b) ∙ sym (
      ap (λ (m : M U Task). reading ws m >>= perform (unify n) ws n) (take-up_eq a b)
      ∙ ap (λ (m : M Words Task). m >>= perform (unify n) ws n) (reading-tick ws (resolve ws n a >>= λ p. resolve ws n b >>= λ q. ask p q))
      ∙ tick-bind ws (reading ws (resolve ws n a >>= λ p. resolve ws n b >>= λ q. ask p q)) (perform (unify n) ws n)
      ∙ ap (tick ws) (ap (λ (m : M Words Task). m >>= perform (unify n) ws n) (reading-bind ws (resolve ws n a) (λ p. resolve ws n b >>= λ q. ask p q))
      ∙ bind_assoc (reading ws (resolve ws n a)) (λ p. reading ws (resolve ws n b >>= λ q. ask p q)) (perform (unify n) ws n)
      ∙ ap (λ (f : ℕ → M Words Answer). reading ws (resolve ws n a) >>= f) (fun_ext λ p. second b p)))
