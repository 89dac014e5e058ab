-- The theorems of specs/Sizes.antt, whose head says what they give: `sized-holds`.
use Rattle.std.specs.Prelude.{ℕ, ◌≡◌, refl, ◌↔◌, Bool, true, ◌&&◌}
use Rattle.std.proofs.Common.{arith, leb-true, le-leb}
use Rattle.unification.specs.Trees.{and_left, and_right}
use Rattle.inference.specs.Infer.{sized}
use Rattle.inference.specs.Sizes.{Sized}

six : (a b c d e f : Bool) → a && b && c && d && e && f ≡ true → (a ≡ true) × (b ≡ true) × (c ≡ true) × (d ≡ true) × (e ≡ true) × (f ≡ true)
six a b c d e f t =
    let t₅ = and_left (a && b && c && d && e) f t in
    let t₄ = and_left (a && b && c && d) e t₅ in
    let t₃ = and_left (a && b && c) d t₄ in
    let t₂ = and_left (a && b) c t₃ in
    (and_left a b t₂, and_right a b t₂, and_right (a && b) c t₃, and_right (a && b && c) d t₄, and_right (a && b && c && d) e t₅, and_right (a && b && c && d && e) f t)

all_six : (a b c d e f : Bool) → a ≡ true → b ≡ true → c ≡ true → d ≡ true → e ≡ true → f ≡ true → a && b && c && d && e && f ≡ true
all_six a b c d e f h i j k l m = rw (h, i, j, k, l, m) refl

pub sized-holds : (f e n c w : ℕ) → Sized f e n c w ↔ (sized f e n c w ≡ true)
unfolding sized
sized-holds f e n c w = (
  λ s. all_six _ _ _ _ _ _ (le-leb f _ s.formula_short) (le-leb e _ s.environment_short) (le-leb n _ s.names_few) (le-leb _ c (omega (arith, s.capacity_some))) (le-leb c _ s.capacity_small) (le-leb _ w s.work_long),
  λ t. (
      let h = six _ _ _ _ _ _ t in
      record {
        formula_short = leb-true f _ h.0;
        environment_short = leb-true e _ h.1;
        names_few = leb-true n _ h.2;
        capacity_some = omega (arith, leb-true _ c h.3);
        capacity_small = leb-true c _ h.4;
        work_long = leb-true _ w h.5;
      }),
)
