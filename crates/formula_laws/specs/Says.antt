-- What a head says of the bytes: the kind and the body that stand at its place, and where they end.
use Rattle.heads.specs.declared.DeclHead.{DeclHead}
use Rattle.heads.specs.declared.PredHead.{PredHead}
use Rattle.heads.specs.declared.ExprHead.{ExprHead}
use Rattle.std.specs.Prelude.{ℕ, ◌+◌, ◌*◌, ◌/◌, ◌%◌, ◌≤◌, ◌<◌, ◌≡◌, Bool, eqb, Option, Some, None}
use native.Mathlib.Omega.{arith}
use Rattle.std.proofs.Math.Path.{refl, sym, ap}
use Rattle.std.proofs.Common.{◌∙◌, drop-drop, get_or-drop, ltb-true, leb-true, eqb-true}
use Rattle.std.proofs.Math.Bool.{true, false}
use mathlib.Core.List.{List, [], ◌∷◌, ◌++◌}
use lib.ListN.{length, get_or, drop}
use Rattle.std.proofs.Math.Dec.{leb, ltb}
use Rattle.types.specs.declared.Place.{Place}
use Rattle.heads.specs.declared.ExprHead.TheVariants.{Free, Bound, Literal, Atomic, Extension, Truth, Binary, Associative, Unary, Quantified, Ascribed, Explicit}
use Rattle.heads.specs.declared.PredHead.TheVariants.{Constant, Variable, Relational, Connective, Junction, Negation, Quantification, Simple, Multiple, Application}
use Rattle.heads.specs.declared.DeclHead.TheVariants.{Plain, Typed, Annotated}
use Rattle.heads.specs.Heads.{pick, byte_of, byte_at, on_part, word_at, name_at, op_at, count_at, few_at, expr_body, expr_head, pred_body, pred_head, decl_body, decl_head, target_at}

-- the bytes x stand at p and end at e
pub record Stand (s : List ℕ) (p : ℕ) (x : List ℕ) (e : ℕ) : Type 0 where
  pub ends : e ≡ p + length x
  pub bytes : drop p s ≡ x ++ drop e s

pub stand_join : (s : List ℕ) (p q e : ℕ) (x y : List ℕ) → Stand s p x q → Stand s q y e → Stand s p (x ++ y) e
stand_join s p q e x y a b =
    record {
      ends = let h = a.ends in let k = b.ends in let l = lib.ListN.length-append x y in omega arith;
      bytes = a.bytes ∙ ap (λ (l : List ℕ). x ++ l) b.bytes ∙ sym (mathlib.Core.List.append_assoc x y (drop e s));
    }

-- what a part of a body says
unfoldable pub ByteSays : List ℕ → Place → Option (ℕ × Place) → Type 0
ByteSays s p None = Unit {0}
ByteSays s p (Some (b, e)) = (b < 256) × Stand s p.0 (b ∷ []) e.0

unfoldable pub WordSays : List ℕ → Place → Option (ℕ × Place) → Type 0
WordSays s p None = Unit {0}
WordSays s p (Some (w, e)) = Stand s p.0 (w % 256 ∷ w / 256 ∷ []) e.0

module _ (s : List ℕ) (bytes : (i : ℕ) → get_or s i 0 < 256) where
  pub byte_says : (p : Place) → ByteSays s p (byte_at s p)
  unfolding ByteSays byte_at byte_of
  byte_says p = go (drop p.0 s) refl
    where
      go : (l : List ℕ) → drop p.0 s ≡ l → ByteSays s p (byte_of p.0 l)
      go [] k = tt
      go (b ∷ l) k =
          let first : get_or (drop p.0 s) 0 0 ≡ b = rw k in
          let at : get_or s (p.0 + 0) 0 ≡ b = sym (get_or-drop p.0 s 0 0) ∙ first in
          let small : b < 256 = rw at at (bytes (p.0 + 0)) in
          let rest : drop (p.0 + 1) s ≡ l = sym (drop-drop 1 p.0 s) ∙ ap (drop 1) k in
          (small, record { ends = refl; bytes = k ∙ ap (λ (m : List ℕ). b ∷ m) (sym rest) })

  -- by what a byte says
  pub on_byte_lem : {A : Type 0} (Q : A → Type 0) (z : A) (p : Place) (f : ℕ → Place → A) → Q z → ((b : ℕ) (e : Place) → b < 256 → Stand s p.0 (b ∷ []) e.0 → Q (f b e)) → Q (on_part z (byte_at s p) f)
  unfolding ByteSays on_part
  on_byte_lem Q z p f n h = go (byte_at s p) (byte_says p)
    where
      go : (b : Option (ℕ × Place)) → ByteSays s p b → Q (on_part z b f)
      go None k = n
      go (Some (b, e)) k = h b e k.0 k.1

  pub word-says : (p : Place) → WordSays s p (word_at s p)
  unfolding word_at WordSays
  word-says p =
      on_byte_lem (WordSays s p) None p (λ lo q. on_part None (byte_at s q) λ hi r. Some ((lo + hi * 256), r)) tt
      (λ lo q a x. on_byte_lem (WordSays s p) None q (λ hi r. Some ((lo + hi * 256), r)) tt
      (λ hi r b y.
      let u : (lo + hi * 256) % 256 ≡ lo = omega arith in
      let v : (lo + hi * 256) / 256 ≡ hi = omega arith in
      rw (u, v) (stand_join s p.0 q.0 r.0 (lo ∷ []) (hi ∷ []) x y)))

  pub on-word : {A : Type 0} (Q : A → Type 0) (z : A) (p : Place) (f : ℕ → Place → A) → Q z → ((w : ℕ) (e : Place) → Stand s p.0 (w % 256 ∷ w / 256 ∷ []) e.0 → Q (f w e)) → Q (on_part z (word_at s p) f)
  unfolding WordSays on_part
  on-word Q z p f n h = go (word_at s p) (word-says p)
    where
      go : (b : Option (ℕ × Place)) → WordSays s p b → Q (on_part z b f)
      go None k = n
      go (Some (w, e)) k = h w e k

  -- names, operators and counts
  pub on-name : {A : Type 0} (Q : A → Type 0) (z : A) (names : ℕ) (p : Place) (f : ℕ → Place → A) → Q z → ((w : ℕ) (e : Place) → w < names → Stand s p.0 (w % 256 ∷ w / 256 ∷ []) e.0 → Q (f w e)) → Q (on_part z (name_at names s p) f)
  unfolding name_at on_part
  on-name Q z names p f n h = on-word (λ (x : Option (ℕ × Place)). Q (on_part z x f)) None p (λ w e. pick (ltb w names) (Some (w, e)) None) n (λ w e x. go w e x (ltb w names) refl)
    where
      go : (w : ℕ) (e : Place) → Stand s p.0 (w % 256 ∷ w / 256 ∷ []) e.0 → (c : Bool) → ltb w names ≡ c → Q (on_part z (pick c (Some (w, e)) None) f)
      go w e x true k = h w e (ltb-true w names k) x
      go w e x false k = n

  pub on-count : {A : Type 0} (Q : A → Type 0) (z : A) (least : ℕ) (p : Place) (f : ℕ → Place → A) → Q z → ((w : ℕ) (e : Place) → least ≤ w → Stand s p.0 (w % 256 ∷ w / 256 ∷ []) e.0 → Q (f w e)) → Q (on_part z (count_at least s p) f)
  unfolding count_at on_part
  on-count Q z least p f n h = on-word (λ (x : Option (ℕ × Place)). Q (on_part z x f)) None p (λ w e. pick (leb least w) (Some (w, e)) None) n (λ w e x. go w e x (leb least w) refl)
    where
      go : (w : ℕ) (e : Place) → Stand s p.0 (w % 256 ∷ w / 256 ∷ []) e.0 → (c : Bool) → leb least w ≡ c → Q (on_part z (pick c (Some (w, e)) None) f)
      go w e x true k = h w e (leb-true least w k) x
      go w e x false k = n

  pub on_op : {A : Type 0} (Q : A → Type 0) (z : A) (limit : ℕ) (p : Place) (f : ℕ → Place → A) → Q z → ((b : ℕ) (e : Place) → b < limit → Stand s p.0 (b ∷ []) e.0 → Q (f b e)) → Q (on_part z (op_at limit s p) f)
  unfolding op_at on_part
  on_op Q z limit p f n h = on_byte_lem (λ (x : Option (ℕ × Place)). Q (on_part z x f)) None p (λ b e. pick (ltb b limit) (Some (b, e)) None) n (λ b e l x. go b e x (ltb b limit) refl)
    where
      go : (b : ℕ) (e : Place) → Stand s p.0 (b ∷ []) e.0 → (c : Bool) → ltb b limit ≡ c → Q (on_part z (pick c (Some (b, e)) None) f)
      go b e x true k = h b e (ltb-true b limit k) x
      go b e x false k = n

  pub on-few : {A : Type 0} (Q : A → Type 0) (z : A) (p : Place) (f : ℕ → Place → A) → Q z → ((b : ℕ) (e : Place) → 1 ≤ b → Stand s p.0 (b ∷ []) e.0 → Q (f b e)) → Q (on_part z (few_at s p) f)
  unfolding few_at on_part
  on-few Q z p f n h = on_byte_lem (λ (x : Option (ℕ × Place)). Q (on_part z x f)) None p (λ b e. pick (leb 1 b) (Some (b, e)) None) n (λ b e l x. go b e x (leb 1 b) refl)
    where
      go : (b : ℕ) (e : Place) → Stand s p.0 (b ∷ []) e.0 → (c : Bool) → leb 1 b ≡ c → Q (on_part z (pick c (Some (b, e)) None) f)
      go b e x true k = h b e (leb-true 1 b k) x
      go b e x false k = n

pub same_word : (Q : Option (ℕ × Place) → Type 0) (w : Option (ℕ × Place)) → Q (on_part None w λ n e. Some (n, e)) → Q w
unfolding on_part
same_word Q None h = h
same_word Q (Some (n, e)) h = h

-- a choice by the kind
pub choose : {A : Type 0} (Q : A → Type 0) (k v : ℕ) (x y : A) → (k ≡ v → Q x) → Q y → Q (pick (eqb k v) x y)
choose Q k v x y h n = go (eqb k v) refl
  where
    go : (c : Bool) → eqb k v ≡ c → Q (pick c x y)
    go true e = h (eqb-true k v e)
    go false e = n

-- ---- what each head says

unfoldable pub ExprSays : ℕ → List ℕ → Bool → ℕ → Option ExprHead → Type 0
ExprSays names s bare p None = Unit {0}
ExprSays names s bare p (Some (Free n e)) = (n.0 < names) × Stand s p (0x01 ∷ n.0 % 256 ∷ n.0 / 256 ∷ []) e.0
ExprSays names s bare p (Some (Bound i e)) = Stand s p (0x02 ∷ i % 256 ∷ i / 256 ∷ []) e.0
ExprSays names s bare p (Some (Literal e)) = Stand s p (0x03 ∷ []) e.0
ExprSays names s bare p (Some (Atomic o e)) = (o < 12) × Stand s p (0x04 ∷ o ∷ []) e.0
ExprSays names s bare p (Some (Extension n e)) = (1 ≤ n) × Stand s p (0x05 ∷ n % 256 ∷ n / 256 ∷ []) e.0
ExprSays names s bare p (Some (Truth e)) = Stand s p (0x06 ∷ []) e.0
ExprSays names s bare p (Some (Binary o e)) = (o < 27) × Stand s p (0x07 ∷ o ∷ []) e.0
ExprSays names s bare p (Some (Associative o n e)) = (o < 7) × (2 ≤ n) × Stand s p (0x08 ∷ o ∷ n % 256 ∷ n / 256 ∷ []) e.0
ExprSays names s bare p (Some (Unary o e)) = (o < 11) × Stand s p (0x09 ∷ o ∷ []) e.0
ExprSays names s bare p (Some (Quantified o n e)) = (o < 3) × (1 ≤ n) × Stand s p (0x0A ∷ o ∷ n ∷ []) e.0
ExprSays names s bare p (Some (Ascribed e)) = Stand s p (0x0B ∷ []) e.0
ExprSays names s bare p (Some (Explicit e)) = (bare ≡ false) × Stand s p (0x0C ∷ []) e.0

unfoldable pub PredSays : List ℕ → ℕ → Option PredHead → Type 0
PredSays s p None = Unit {0}
PredSays s p (Some (Constant e)) = Stand s p (0x20 ∷ []) e.0
PredSays s p (Some (Variable e)) = Stand s p (0x21 ∷ []) e.0
PredSays s p (Some (Relational o e)) = (o < 12) × Stand s p (0x22 ∷ o ∷ []) e.0
PredSays s p (Some (Connective e)) = Stand s p (0x23 ∷ []) e.0
PredSays s p (Some (Junction n e)) = (2 ≤ n) × Stand s p (0x24 ∷ n % 256 ∷ n / 256 ∷ []) e.0
PredSays s p (Some (Negation e)) = Stand s p (0x25 ∷ []) e.0
PredSays s p (Some (Quantification n e)) = (1 ≤ n) × Stand s p (0x26 ∷ n ∷ []) e.0
PredSays s p (Some (Simple e)) = Stand s p (0x27 ∷ []) e.0
PredSays s p (Some (Multiple n e)) = (1 ≤ n) × Stand s p (0x28 ∷ n % 256 ∷ n / 256 ∷ []) e.0
PredSays s p (Some (Application n e)) = Stand s p (0x29 ∷ n % 256 ∷ n / 256 ∷ []) e.0

unfoldable pub DeclSays : List ℕ → ℕ → Option DeclHead → Type 0
DeclSays s p None = Unit {0}
DeclSays s p (Some (Plain e)) = Stand s p (0x10 ∷ []) e.0
DeclSays s p (Some (Typed e)) = Stand s p (0x11 ∷ []) e.0
DeclSays s p (Some (Annotated e)) = Stand s p (0x12 ∷ []) e.0

unfoldable pub TargetSays : ℕ → List ℕ → ℕ → Option (ℕ × Place) → Type 0
TargetSays names s p None = Unit {0}
TargetSays names s p (Some (n, e)) = (n < names) × Stand s p (0x01 ∷ n % 256 ∷ n / 256 ∷ []) e.0

module _ (names : ℕ) (s : List ℕ) (bytes : (i : ℕ) → get_or s i 0 < 256) where
  -- the kind k stands before q
  module _ (p k q : ℕ) (x : Stand s p (k ∷ []) q) where
    lead : (v : ℕ) → k ≡ v → Stand s p (v ∷ []) q
    lead v e = rw e at x

    lead-on : (v : ℕ) → k ≡ v → (y : List ℕ) (e : ℕ) → Stand s q y e → Stand s p (v ∷ y) e
    lead-on v h y e z = stand_join s p q e (v ∷ []) y (lead v h) z

  body_says : (bare : Bool) (p k : ℕ) (q : Place) → Stand s p (k ∷ []) q.0 → ExprSays names s bare p (expr_body names s bare k q)
  unfolding expr_body ExprSays
  body_says bare p k q x =
      choose Q k 0x01 _ _ (λ h. on-name s bytes Q None names q _ tt (λ n e a z. (a, lead-on p k q.0 x 0x01 h _ e.0 z)))
      (choose Q k 0x02 _ _ (λ h. on-word s bytes Q None q _ tt (λ i e z. lead-on p k q.0 x 0x02 h _ e.0 z))
      (choose Q k 0x03 _ _ (λ h. lead p k q.0 x 0x03 h)
      (choose Q k 0x04 _ _ (λ h. on_op s bytes Q None 12 q _ tt (λ o e a z. (a, lead-on p k q.0 x 0x04 h _ e.0 z)))
      (choose Q k 0x05 _ _ (λ h. on-count s bytes Q None 1 q _ tt (λ n e a z. (a, lead-on p k q.0 x 0x05 h _ e.0 z)))
      (choose Q k 0x06 _ _ (λ h. lead p k q.0 x 0x06 h)
      (choose Q k 0x07 _ _ (λ h. on_op s bytes Q None 27 q _ tt (λ o e a z. (a, lead-on p k q.0 x 0x07 h _ e.0 z)))
      (choose Q k 0x08 _ _ (λ h. on_op s bytes Q None 7 q _ tt (λ o r a y. on-count s bytes Q None 2 r _ tt (λ n e b z. (a, b, lead-on p k q.0 x 0x08 h _ e.0 (stand_join s q.0 r.0 e.0 _ _ y z)))))
      (choose Q k 0x09 _ _ (λ h. on_op s bytes Q None 11 q _ tt (λ o e a z. (a, lead-on p k q.0 x 0x09 h _ e.0 z)))
      (choose Q k 0x0A _ _ (λ h. on_op s bytes Q None 3 q _ tt (λ o r a y. on-few s bytes Q None r _ tt (λ n e b z. (a, b, lead-on p k q.0 x 0x0A h _ e.0 (stand_join s q.0 r.0 e.0 _ _ y z)))))
      (choose Q k 0x0B _ _ (λ h. lead p k q.0 x 0x0B h)
      (choose Q k 0x0C _ _ (λ h. on_bare h bare refl) tt)))))))))))
    where
      Q : Option ExprHead → Type 0
      Q = ExprSays names s bare p

      on_bare : k ≡ 0x0C → (c : Bool) → bare ≡ c → ExprSays names s bare p (pick c None (Some (Explicit q)))
      on_bare h true e = tt
      on_bare h false e = (e, lead p k q.0 x 0x0C h)

  pub expr-says : (bare : Bool) (p : Place) → ExprSays names s bare p.0 (expr_head names s bare p)
  unfolding expr_head ExprSays
  expr-says bare p = on_byte_lem s bytes (ExprSays names s bare p.0) None p (expr_body names s bare) tt (λ k q a x. body_says bare p.0 k q x)

  pred_body_says : (p k : ℕ) (q : Place) → Stand s p (k ∷ []) q.0 → PredSays s p (pred_body s k q)
  unfolding pred_body PredSays
  pred_body_says p k q x =
      choose Q k 0x20 _ _ (λ h. lead p k q.0 x 0x20 h)
      (choose Q k 0x21 _ _ (λ h. lead p k q.0 x 0x21 h)
      (choose Q k 0x22 _ _ (λ h. on_op s bytes Q None 12 q _ tt (λ o e a z. (a, lead-on p k q.0 x 0x22 h _ e.0 z)))
      (choose Q k 0x23 _ _ (λ h. lead p k q.0 x 0x23 h)
      (choose Q k 0x24 _ _ (λ h. on-count s bytes Q None 2 q _ tt (λ n e a z. (a, lead-on p k q.0 x 0x24 h _ e.0 z)))
      (choose Q k 0x25 _ _ (λ h. lead p k q.0 x 0x25 h)
      (choose Q k 0x26 _ _ (λ h. on-few s bytes Q None q _ tt (λ n e a z. (a, lead-on p k q.0 x 0x26 h _ e.0 z)))
      (choose Q k 0x27 _ _ (λ h. lead p k q.0 x 0x27 h)
      (choose Q k 0x28 _ _ (λ h. on-count s bytes Q None 1 q _ tt (λ n e a z. (a, lead-on p k q.0 x 0x28 h _ e.0 z)))
      (choose Q k 0x29 _ _ (λ h. on-word s bytes Q None q _ tt (λ n e z. lead-on p k q.0 x 0x29 h _ e.0 z)) tt)))))))))
    where
      Q : Option PredHead → Type 0
      Q = PredSays s p

  pub pred_says : (p : Place) → PredSays s p.0 (pred_head s p)
  unfolding pred_head PredSays
  pred_says p = on_byte_lem s bytes (PredSays s p.0) None p (pred_body s) tt (λ k q a x. pred_body_says p.0 k q x)

  decl_body_says : (p k : ℕ) (q : Place) → Stand s p (k ∷ []) q.0 → DeclSays s p (decl_body k q)
  unfolding decl_body DeclSays
  decl_body_says p k q x =
      choose (DeclSays s p) k 0x10 _ _ (λ h. lead p k q.0 x 0x10 h)
      (choose (DeclSays s p) k 0x11 _ _ (λ h. lead p k q.0 x 0x11 h)
      (choose (DeclSays s p) k 0x12 _ _ (λ h. lead p k q.0 x 0x12 h) tt))

  pub decl_says : (p : Place) → DeclSays s p.0 (decl_head s p)
  unfolding decl_head DeclSays
  decl_says p = on_byte_lem s bytes (DeclSays s p.0) None p decl_body tt (λ k q a x. decl_body_says p.0 k q x)

  pub target-says : (p : Place) → TargetSays names s p.0 (target_at names s p)
  unfolding target_at TargetSays
  target-says p =
      on_byte_lem s bytes (TargetSays names s p.0) None p (λ k q. pick (eqb k 0x01) (name_at names s q) None) tt
      (λ k q a x. choose (TargetSays names s p.0) k 0x01 _ _ (λ h. same_word (TargetSays names s p.0) (name_at names s q) (on-name s bytes (TargetSays names s p.0) None names q (λ n e. Some (n, e)) tt (λ n e b z. (b, lead-on p.0 k q.0 x 0x01 h _ e.0 z)))) tt)
