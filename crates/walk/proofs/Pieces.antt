-- The theorems of specs/Pieces.antt: `tame_notes`, `tame_spelled`, `tame_claim`, `tame_ascription`, `tame_declare`, `tame_counted` and others.
use Prim.Native.Nat.{ℕ, zero, suc, ◌+◌}
use Rattle.std.specs.Prelude.{◌≡◌}
use Rattle.std.proofs.Math.Path.{refl, sym, ap}
use Rattle.std.proofs.Common.{◌∙◌}
use mathlib.Core.List.{List, [], ◌∷◌}
use native.Mathlib.Omega.{arith}
use Rattle.types.specs.Ty.{bool, int, given, Ty, base, pow, prod}
use Rattle.formula.specs.Environment.{Entry, lacks, holds, Env}
use Rattle.formula.specs.Tree.{Spelling, spells, no_type, Decl, plain, typed, annotated, decls}
use Rattle.unification.specs.Good.{Assignment}
use Rattle.typing.specs.Equations.{d}
use Rattle.typing.specs.Rules.{Noted, DeclRule, DeclRules, Counts, Ascribes}
use Rattle.walk.specs.Writer.{done, glue, ◌>>=◌, node, problem, UNKNOWN, GIVEN, POWER}
use Rattle.walk.specs.Walk.{counted, note_of, notes, spelled, claim, at_decl, declare, ascription}
use Rattle.walk.specs.Triple.{slot_types, Tame, tame_eq, tame_done, tame_enter, tame_bind, tame_own, tame_node, tame_same, Sound, sound-map, sound-bind, sound-enter, sound-own, sound-node, sound-same, sound-done, Complete, complete_bind, complete_enter, complete_own, complete_done, complete_node, complete_same}
use Rattle.walk.proofs.Triple.{tame_problem, sound-problem}
use Rattle.walk.specs.Pieces.{tame_note_of, tame_meets, tame_name, sound-name, sound-meets, Seen, Declared, complete_name, complete_meets}

-- ---- notes, declared and spelled types
module _ (Γ : Env) where
  pub tame_notes : (t : Ty) (p : ℕ) → Tame Γ 0 (notes Γ t p)
  unfolding notes
  tame_notes (base bool) p = tame_done tt
  tame_notes (base int) p = tame_done tt
  tame_notes (base (given x)) p = tame_note_of Γ (Γ x) x p
  tame_notes (pow t) p = tame_notes t p
  tame_notes (prod t u) p = tame_bind (tame_notes t p) (λ _. tame_notes u p)

  pub tame_spelled : (t : Ty) (x p q : ℕ) → Tame Γ 0 (spelled Γ t x p q)
  unfolding spelled
  tame_spelled t x p q = tame_bind (tame_notes t p) (λ _. tame_meets Γ t x q)

  pub tame_claim : (d : Decl) (x : ℕ) → Tame Γ 0 (claim Γ d x)
  unfolding claim
  tame_claim (plain p) x = tame_done tt
  tame_claim (typed p t) x = tame_meets Γ t x p
  tame_claim (annotated p (spells t)) x = tame_spelled t x p p
  tame_claim (annotated p no_type) x = tame_done tt

  pub tame_ascription : (s : Spelling) (x q p : ℕ) → Tame Γ 0 (ascription Γ s x q p)
  unfolding ascription
  tame_ascription (spells t) x q p = tame_spelled t x q p
  tame_ascription no_type x q p = tame_problem 0 q

  pub tame_declare : (ds : List Decl) → Tame Γ (decls ds) (declare Γ ds)
  unfolding declare decls
  tame_declare [] = tame_done []
  tame_declare (d ∷ ds) = tame_eq (omega arith) (tame_bind (tame_enter (tame_own (at_decl Γ d) (tame_node UNKNOWN 0 0))) (λ x. tame_bind (tame_claim d x) (λ _. tame_bind (tame_declare ds) (λ xs. tame_done (x ∷ xs)))))

  pub tame_counted : (xs : List ℕ) (i p : ℕ) → Tame Γ 0 (counted xs i p)
  unfolding counted
  tame_counted [] i p = tame_bind (tame_problem 4 p) (λ _. tame_node UNKNOWN 0 0)
  tame_counted (x ∷ xs) zero p = tame_done x
  tame_counted (x ∷ xs) (suc i) p = tame_counted xs i p

no_lacks : (t : Ty) → holds t ≡ lacks → ⊥
no_lacks t e = let z : ◌≡◌ {A = ℕ} 0 1 = cc in omega arith

module _ (Γ : Env) (σ : Assignment) (τ ρ : ℕ → Ty) where
  sound-note_of : (e : Entry) (x p : ℕ) → Γ x ≡ e → Sound σ τ ρ (note_of Γ e x p) (λ k u. Γ x ≡ lacks → ρ x ≡ pow (base (given x)))
  unfolding note_of
  sound-note_of (holds t) x p h = sound-map σ τ ρ (sound-done σ τ ρ tt) (λ k u _ g. absurd (no_lacks t (sym h ∙ g)))
  sound-note_of lacks x p h = sound-map σ τ ρ
      (sound-bind σ τ ρ (tame_name Γ x p) (λ t. tame_bind (tame_node GIVEN x 0) (λ g. tame_bind (tame_node POWER g 0) (λ s. tame_same t s p))) (sound-name Γ σ τ ρ x p)
      (λ t. sound-bind σ τ ρ {Γ = Γ} (tame_node GIVEN x 0) (λ g. tame_bind (tame_node POWER g 0) (λ s. tame_same t s p)) (sound-node σ τ ρ GIVEN x 0)
      (λ g. sound-bind σ τ ρ {Γ = Γ} (tame_node POWER g 0) (λ s. tame_same t s p) (sound-node σ τ ρ POWER g 0) (λ s. sound-same σ τ ρ t s p))))
      (λ k u q _. sym q.1 ∙ q.2.2.2 ∙ q.2.2.1 ∙ ap pow q.2.1)

  pub sound-notes : (t : Ty) (p : ℕ) → Sound σ τ ρ (notes Γ t p) (λ k u. Noted Γ τ ρ t)
  unfolding notes
  sound-notes (base bool) p = sound-map σ τ ρ (sound-done σ τ ρ tt) (λ k u q. tt)
  sound-notes (base int) p = sound-map σ τ ρ (sound-done σ τ ρ tt) (λ k u q. tt)
  sound-notes (base (given x)) p = sound-note_of (Γ x) x p refl
  sound-notes (pow t) p = sound-notes t p
  sound-notes (prod t u) p = sound-map σ τ ρ (sound-bind σ τ ρ (tame_notes Γ t p) (λ _. tame_notes Γ u p) (sound-notes t p) (λ _. sound-notes u p)) (λ k w q. (q.1, q.2))

  pub sound-spelled : (t : Ty) (x p q : ℕ) → Sound σ τ ρ (spelled Γ t x p q) (λ k u. Noted Γ τ ρ t × (σ x ≡ t))
  unfolding spelled
  sound-spelled t x p q = sound-map σ τ ρ (sound-bind σ τ ρ (tame_notes Γ t p) (λ _. tame_meets Γ t x q) (sound-notes t p) (λ _. sound-meets Γ σ τ ρ t x q)) (λ k u q. (q.1, q.2))

  -- j: the slot that has the type of x
  pub sound-claim : (d : Decl) (x : ℕ) → Sound σ τ ρ (claim Γ d x) (λ k u. (j : ℕ) → σ x ≡ τ j → DeclRule Γ τ ρ d j)
  unfolding claim
  sound-claim (plain p) x = sound-map σ τ ρ (sound-done σ τ ρ tt) (λ k u q j e. tt)
  sound-claim (typed p t) x = sound-map σ τ ρ (sound-meets Γ σ τ ρ t x p) (λ k u q j e. sym e ∙ q)
  sound-claim (annotated p (spells t)) x = sound-map σ τ ρ (sound-spelled t x p p) (λ k u q j e. (sym e ∙ q.1, q.0))
  sound-claim (annotated p no_type) x = sound-map σ τ ρ (sound-done σ τ ρ tt) (λ k u q j e. tt)

  pub sound-ascription : (s : Spelling) (x q p : ℕ) → Sound σ τ ρ (ascription Γ s x q p) (λ k u. (j : ℕ) → σ x ≡ τ j → Ascribes Γ τ ρ s j)
  unfolding ascription
  sound-ascription (spells t) x q p = sound-map σ τ ρ (sound-spelled t x q p) (λ k u q j e. (sym e ∙ q.1, q.0))
  sound-ascription no_type x q p = sound-map σ τ ρ (sound-problem σ τ ρ 0 q) (λ k u q j e. q)

module _ (Γ : Env) (σ : Assignment) (τ ρ : ℕ → Ty) where
  pub sound-counted : (xs : List ℕ) (i p : ℕ) → Sound σ τ ρ (counted xs i p) (λ k x. (Δ : List Ty) → Seen σ xs Δ → Counts Γ τ ρ Δ i (σ x))
  unfolding counted
  sound-counted [] i p = sound-map σ τ ρ (sound-bind σ τ ρ {Γ = Γ} (tame_problem 4 p) (λ _. tame_node UNKNOWN 0 0) (sound-problem σ τ ρ 4 p) (λ _. sound-node σ τ ρ UNKNOWN 0 0)) (λ k x q. absurd q.1)
  sound-counted (x ∷ xs) zero p = sound-map σ τ ρ (sound-done σ τ ρ x) (λ k y e. here-counts y e)
    where
      here-counts : (y : ℕ) → y ≡ x → (Δ : List Ty) → Seen σ (x ∷ xs) Δ → Counts Γ τ ρ Δ zero (σ y)
      here-counts y e [] h = h
      here-counts y e (t ∷ Δ) h = ap σ e ∙ h.0
  sound-counted (x ∷ xs) (suc i) p = sound-map σ τ ρ (sound-counted xs i p) (λ k y q. on y q)
    where
      on : (y : ℕ) → ((Δ : List Ty) → Seen σ xs Δ → Counts Γ τ ρ Δ i (σ y)) → (Δ : List Ty) → Seen σ (x ∷ xs) Δ → Counts Γ τ ρ Δ (suc i) (σ y)
      on y q [] h = h
      on y q (t ∷ Δ) h = q Δ h.1

  pub sound-declare : (ds : List Decl) → Sound σ τ ρ (declare Γ ds) (λ k xs. DeclRules Γ τ ρ ds k × Declared τ σ ds k xs)
  unfolding declare
  sound-declare [] = sound-map σ τ ρ (sound-done σ τ ρ []) (λ k xs e. (tt, rw e tt))
  sound-declare (d ∷ ds) = sound-map σ τ ρ
      (sound-bind σ τ ρ (tame_enter (tame_own (at_decl Γ d) (tame_node UNKNOWN 0 0))) (λ x. tame_bind (tame_claim Γ d x) (λ _. tame_bind (tame_declare Γ ds) (λ xs. tame_done (x ∷ xs))))
      (sound-enter σ τ ρ (sound-own σ τ ρ (at_decl Γ d) (sound-node σ τ ρ UNKNOWN 0 0)))
      (λ x. sound-bind σ τ ρ (tame_claim Γ d x) (λ _. tame_bind (tame_declare Γ ds) (λ xs. tame_done (x ∷ xs))) (sound-claim Γ σ τ ρ d x)
      (λ _. sound-bind σ τ ρ (tame_declare Γ ds) (λ xs. tame_done (x ∷ xs)) (sound-declare ds) (λ xs. sound-done σ τ ρ (x ∷ xs)))))
      (λ k ys q. (let w = q.2.2 in let k' : k + 1 + 0 ≡ suc k = omega arith in
      ((q.2.1 k q.1.1, rw (sym k') w.1.0), rw w.2 (q.1.1, rw (sym k') w.1.1))))

-- ---- the other way, for names and types
module _ (Γ : Env) (τ ρ : ℕ → Ty) (agrees : (x : ℕ) (t : Ty) → Γ x ≡ holds t → ρ x ≡ t) where
  complete_note_of : {k : ℕ} {C : Assignment → Type 0} (e : Entry) (x p : ℕ) → (e ≡ lacks → ρ x ≡ pow (base (given x))) → Complete τ ρ k (note_of Γ e x p) C (λ σ u. Unit {0})
  unfolding note_of
  complete_note_of (holds t) x p h = complete_done τ ρ tt (λ σ c. tt)
  complete_note_of lacks x p h =
      complete_bind τ ρ (tame_name Γ x p) (complete_name Γ τ ρ agrees x p)
      (λ t. complete_bind τ ρ {Γ = Γ} (tame_node GIVEN x 0) (complete_node τ ρ GIVEN x 0 (base (given x)) (λ σ n c e. e))
      (λ g. complete_bind τ ρ {Γ = Γ} (tame_node POWER g 0) (complete_node τ ρ POWER g 0 (pow (base (given x))) (λ σ n c e. e ∙ ap pow (sym c.1)))
      (λ s. complete_same τ ρ t s p (λ σ c. c.0.0.1 ∙ h refl ∙ sym c.1))))

  pub complete_notes : {k : ℕ} {C : Assignment → Type 0} (t : Ty) (p : ℕ) → Noted Γ τ ρ t → Complete τ ρ k (notes Γ t p) C (λ σ u. Unit {0})
  unfolding notes
  complete_notes (base bool) p h = complete_done τ ρ tt (λ σ c. tt)
  complete_notes (base int) p h = complete_done τ ρ tt (λ σ c. tt)
  complete_notes (base (given x)) p h = complete_note_of (Γ x) x p h
  complete_notes (pow t) p h = complete_notes t p h
  complete_notes {k = k} (prod t u) p h = complete_bind τ ρ (tame_notes Γ t p) (complete_notes {k = k} t p h.0) (λ _. complete_notes {k = k + 0} u p h.1)

  pub complete_spelled : {k : ℕ} {C : Assignment → Type 0} (t : Ty) (x p q : ℕ) → Noted Γ τ ρ t → ((σ : Assignment) → C σ → σ x ≡ t) → Complete τ ρ k (spelled Γ t x p q) C (λ σ u. Unit {0})
  unfolding spelled
  complete_spelled t x p q w h = complete_bind τ ρ (tame_notes Γ t p) (complete_notes t p w) (λ _. complete_meets Γ τ ρ agrees t x q (λ σ c. h σ c.0))

  pub complete_claim : {k : ℕ} {C : Assignment → Type 0} (d : Decl) (x j : ℕ) → DeclRule Γ τ ρ d j → ((σ : Assignment) → C σ → σ x ≡ τ j) → Complete τ ρ k (claim Γ d x) C (λ σ u. Unit {0})
  unfolding claim
  complete_claim (plain p) x j w h = complete_done τ ρ tt (λ σ c. tt)
  complete_claim (typed p t) x j w h = complete_meets Γ τ ρ agrees t x p (λ σ c. h σ c ∙ w)
  complete_claim (annotated p (spells t)) x j w h = complete_spelled t x p p w.1 (λ σ c. h σ c ∙ w.0)
  complete_claim (annotated p no_type) x j w h = complete_done τ ρ tt (λ σ c. tt)

  pub complete_ascription : {k : ℕ} {C : Assignment → Type 0} (s : Spelling) (x q p j : ℕ) → Ascribes Γ τ ρ s j → ((σ : Assignment) → C σ → σ x ≡ τ j) → Complete τ ρ k (ascription Γ s x q p) C (λ σ u. Unit {0})
  unfolding ascription
  complete_ascription (spells t) x q p j w h = complete_spelled t x q p w.1 (λ σ c. h σ c ∙ w.0)
  complete_ascription no_type x q p j w h = absurd w

  pub complete_counted : {k : ℕ} {C : Assignment → Type 0} (xs : List ℕ) (Δ : List Ty) (i p : ℕ) (t : Ty) → Counts Γ τ ρ Δ i t → ((σ : Assignment) → C σ → Seen σ xs Δ) → Complete τ ρ k (counted xs i p) C (λ σ x. σ x ≡ t)
  unfolding counted ◌>>=◌ glue problem node slot_types done
  complete_counted [] [] i p t w h = absurd w
  complete_counted [] (u ∷ Δ) i p t w h = record { takes = λ n row. (base bool ∷ [], refl, λ σ v r c. absurd (h σ c)) }
  complete_counted (x ∷ xs) [] i p t w h = absurd w
  complete_counted (x ∷ xs) (u ∷ Δ) zero p t w h = complete_done τ ρ x (λ σ c. (h σ c).0 ∙ sym w)
  complete_counted (x ∷ xs) (u ∷ Δ) (suc i) p t w h = complete_counted xs Δ i p t w (λ σ c. (h σ c).1)

  pub complete_declare : {k : ℕ} {C : Assignment → Type 0} (ds : List Decl) → DeclRules Γ τ ρ ds k → Complete τ ρ k (declare Γ ds) C (λ σ xs. Declared τ σ ds k xs)
  unfolding declare
  complete_declare [] w = complete_done τ ρ [] (λ σ c. tt)
  complete_declare {k = k} (d ∷ ds) w =
      complete_bind τ ρ {Γ = Γ} (tame_enter (tame_own (at_decl Γ d) (tame_node UNKNOWN 0 0))) (complete_enter τ ρ (complete_own τ ρ (at_decl Γ d) (complete_node τ ρ UNKNOWN 0 0 (τ k) (λ σ n c e. tt))))
      (λ x. complete_bind τ ρ (tame_claim Γ d x) (complete_claim d x k w.0 (λ σ c. c.1))
      (λ _. complete_bind τ ρ (tame_declare Γ ds) (complete_declare {k = k + 1 + 0} ds (let k' : k + 1 + 0 ≡ suc k = omega arith in rw k' w.1))
      (λ xs. complete_done τ ρ (x ∷ xs) (λ σ c. (c.0.0.1, (let k' : k + 1 + 0 ≡ suc k = omega arith in rw (sym k') c.1))))))
