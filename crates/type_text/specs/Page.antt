-- A lent page: what is left of it, and what putting bytes into it does.
-- `Splice` says that exactly the bytes x were put, from a place on, and that no other byte changed.
use Rattle.std.specs.Prelude.{ℕ, ◌+◌, ◌-◌, ◌≤◌, ◌≡◌, refl, Bool, true, false, List, [], ◌++◌, length, take, drop, leb, Option, Some, None}
use Rattle.std.proofs.Common.{arith, ap, ◌∙◌, append_assoc, append-nil, drop_of_length-le, length-drop, length-append, drop-drop, take_all, take_at, drop_at, length-take-le}
use Rattle.std.proofs.Math.Path.{sym}
use borrow.Author.Tests.{le-leb, lt-leb, leb-true, leb-false}
use Rattle.std.specs.Option.{is_some}
use Rattle.types.specs.Record.{pick}

unfoldable pub spend_of : Option ℕ → ℕ → Option ℕ
spend_of (Some k) n = pick (leb n k) (Some (k - n)) None
spend_of None n = None

-- x stands in a page from a place on, and nothing else was changed
pub record Splice (from : ℕ) (x old new : List ℕ) (n : ℕ) : Type 0 where
  pub count : n ≡ length x
  pub room : from + length x ≤ length old
  pub page : new ≡ take from old ++ (x ++ drop (from + length x) old)

-- ---- room

-- spending twice is spending the sum
pub spend_twice : (room : Option ℕ) (a b : ℕ) → spend_of (spend_of room a) b ≡ spend_of room (a + b)
unfolding spend_of
spend_twice None a b = refl
spend_twice (Some k) a b = go (leb a k) refl (leb b (k - a)) refl
  where
    go : (x : Bool) → leb a k ≡ x → (y : Bool) → leb b (k - a) ≡ y → spend_of (pick (leb a k) (Some (k - a)) None) b ≡ pick (leb (a + b) k) (Some (k - (a + b))) None
    go true h true g =
        let e : k - a - b ≡ k - (a + b) = omega arith in
        rw (h, g, le-leb (a + b) k (omega (arith, leb-true a k h, leb-true b (k - a) g)), e)
    go true h false g = rw (h, g, lt-leb (a + b) k (omega (arith, leb-true a k h, leb-false b (k - a) g)))
    go false h y g = rw (h, lt-leb (a + b) k (omega (arith, leb-false a k h)))

pub none_is : (o : Option ℕ) → is_some o ≡ false → o ≡ None
none_is None e = refl
none_is (Some k) e = absurd (let z : ◌≡◌ {A = ℕ} 0 1 = cc in omega arith)

pub some_is : (o : Option ℕ) → is_some o ≡ true → (k : ℕ) × (o ≡ Some k)
some_is None e = absurd (let z : ◌≡◌ {A = ℕ} 0 1 = cc in omega arith)
some_is (Some k) e = (k, refl)

pub spent-over : (k n : ℕ) → None ≡ spend_of (Some k) n → leb n k ≡ false
unfolding spend_of
spent-over k n e = go (leb n k) e
  where
    go : (b : Bool) → None ≡ pick b (Some (k - n)) None → b ≡ false
    go true h = absurd (let z : ◌≡◌ {A = ℕ} 0 1 = cc in omega arith)
    go false h = refl

pub spent-left : (k n j : ℕ) → Some j ≡ spend_of (Some k) n → leb n k ≡ true
unfolding spend_of
spent-left k n j e = go (leb n k) e
  where
    go : (b : Bool) → Some j ≡ pick b (Some (k - n)) None → b ≡ true
    go true h = refl
    go false h = absurd (let z : ◌≡◌ {A = ℕ} 0 1 = cc in omega arith)

-- ---- putting bytes into a page

module _ (from : ℕ) (x old new : List ℕ) (n : ℕ) (s : Splice from x old new n) where
  pub splice_as : (y : List ℕ) → x ≡ y → Splice from y old new n
  splice_as y e = rw e at s

  pub splice_length : length new ≡ length old
  splice_length =
      ap length s.page
      ∙ length-append (take from old) (x ++ drop (from + length x) old)
      ∙ omega (arith, s.room, length-take-le from old (omega (arith, s.room)), length-append x (drop (from + length x) old), length-drop (from + length x) old)

  -- what is put right behind
  pub splice_join : (y last : List ℕ) (f m : ℕ) → f ≡ from + n → Splice f y new last m → Splice from (x ++ y) old last (n + m)
  splice_join y last f m ef z =
      let c = s.count in
      let g : f ≡ from + length x = omega arith in
      let head : length (take from old) ≡ from = length-take-le from old (omega (arith, s.room)) in
      let p : length (take from old ++ x) ≡ f = length-append (take from old) x ∙ omega arith in
      let split : new ≡ (take from old ++ x) ++ drop (from + length x) old = s.page ∙ sym (append_assoc (take from old) x (drop (from + length x) old)) in
      let t1 : take f new ≡ take from old ++ x = ap (take f) split ∙ take_at (take from old ++ x) (drop (from + length x) old) f p in
      let t2 : drop f new ≡ drop (from + length x) old = ap (drop f) split ∙ drop_at (take from old ++ x) (drop (from + length x) old) f p in
      let t3 : drop (f + length y) new ≡ drop (from + length (x ++ y)) old =
      sym (drop-drop (length y) f new) ∙ ap (drop (length y)) t2 ∙ drop-drop (length y) (from + length x) old
      ∙ ap (λ (k : ℕ). drop k old) (let e : from + length x + length y ≡ from + length (x ++ y) = omega (arith, length-append x y) in e) in
      record {
        count = omega (arith, z.count, length-append x y);
        room = omega (arith, z.room, splice_length, length-append x y);
        page = z.page ∙ rw (t1, t3) (append_assoc (take from old) x (y ++ drop (from + length (x ++ y)) old)
            ∙ ap (λ (l : List ℕ). take from old ++ l) (sym (append_assoc x y (drop (from + length (x ++ y)) old))));
      }

pub splice_nothing : (x old : List ℕ) → x ≡ [] → Splice 0 x old old 0
splice_nothing x old e = record { count = sym (ap length e); room = omega (arith, ap length e); page = sym (rw e) }

-- a part that was lent, from a place to the page's end, comes back
pub splice_lent : (from : ℕ) (x old part new : List ℕ) (n : ℕ) → from ≤ length old → Splice 0 x (take (length old - from) (drop from old)) part n → new ≡ take from old ++ (part ++ drop (length old - from) (drop from old)) → Splice from x old new n
splice_lent from x old part new n h s e =
    let all : take (length old - from) (drop from old) ≡ drop from old = take_all (length old - from) (drop from old) (omega (arith, length-drop from old)) in
    let s' : Splice 0 x (drop from old) part n = rw all at s in
    let none : drop (length old - from) (drop from old) ≡ [] = drop_of_length-le (drop from old) {i = length old - from} (omega (arith, length-drop from old)) in
    let z : 0 + length x ≡ length x = omega arith in
    record {
      count = s'.count;
      room = omega (arith, s'.room, length-drop from old);
      page = e ∙ rw (none, append-nil part, s'.page, z, drop-drop (length x) from old);
    }

pub fits_as : (x y : List ℕ) (n : ℕ) → x ≡ y → length y ≤ n → 0 + length x ≤ n
fits_as x y n e h = rw e (omega arith)
