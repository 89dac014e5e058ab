-- Writing the type at a reference into a page, as a record, from a place on.
--
-- The walk is that of `read`: units are paid the same way, so that whoever was told that a reference is solved can have it written with that budget
-- (and any larger one). `put-done`: where `read` answers a type and its record fits, the page holds the record from the place on, and is otherwise as it was.
-- `put_full`: where the record does not fit, the writing halts full. Nothing else can happen there.
use Prim.Native.Nat.{ℕ, zero, suc, ◌+◌, ◌/◌, ◌%◌, ◌≤◌, ◌<◌}
use Rattle.std.proofs.Math.Path.{◌≡◌, refl, sym, ap, ap₂, subst, fun_ext}
use Rattle.std.proofs.Common.{◌∙◌, append-nil, append_assoc, take-suc-set, lt-ltb, le-ltb}
use Rattle.std.specs.Prelude.{◌≢◌, Bool, List, [], ◌∷◌, ◌++◌, ltb, take}
use native.Mathlib.Omega.{arith}
use Rattle.std.proofs.Math.Decide.{dec_lt, dec_le}
use Rattle.std.proofs.Math.ListN.{length, set, length-append, length-set}
use Rattle.meter.specs.Meter.{Out, spent, halt, done, Why, broken, full, M, ret, fail, tick, on, ◌>>=◌, reading, run, Metered, Paid, metered_ret, metered_fail, metered_tick, metered_bind, metered_reading, Agree, agree_refl, agree-tick, agree-bind, run_metered, run_eq, bind-ret, bind_assoc, reading-bind, reading-tick, reading-ret, tick-bind, within_le}
use Rattle.types.specs.Ty.{Atom, bool, int, given, Ty, base, pow, prod, spell_atom, spell, AtomBelow, given_below, Below}
use Rattle.unification.specs.Arena.{Node, free, link, leaf, power, pair, bad, decode, Words, U, node_at, choose, resolve, type_node, read}
use Rattle.unification.specs.Steps.{resolve_metered, choose_metered, choose-agree, read_metered}
use Rattle.unification.specs.Kinds.{Kind, is-bool, is-int, is-given, is-power, is-pair, kind_of}
use Rattle.unification.specs.Tasks.{reach, read-reach}
use Rattle.unification.specs.Code.{bind_done, bind-spent, bind-halt, read_done, read-spent, read-halt, reach-left}

abbrev pub Page : Type 0
Page = List ℕ

-- the place after what was written, and the page
abbrev pub Sheet : Type 0
Sheet = ℕ × Page

-- k bytes must find room from `at` on
unfoldable pub room : {A : Type 0} → Page → ℕ → ℕ → M Page A → M Page A
unfolding choose fail
room p at k m = choose (ltb (length p) (at + k)) (fail full p) m

unfoldable pub put_atom : Page → ℕ → Atom → M Page Sheet
unfolding room ret
put_atom p at bool = ret (at + 1, set p at 0x40)
put_atom p at int = ret (at + 1, set p at 0x41)
put_atom p at (given g) = room p at 3 (ret (at + 3, set (set (set p at 0x42) (at + 1) (g % 256)) (at + 2) (g / 256 % 256)))

-- a page, a place on it, and a reference
abbrev pub Job : Type 0
Job = Page × ℕ × ℕ

-- a byte has room at `at`
unfoldable pub put_node : (Job → M Page Sheet) → Page → ℕ → Node → M Page Sheet
unfolding room put_atom fail ◌>>=◌
put_node rec p at free = fail broken p
put_node rec p at (link j) = fail broken p
put_node rec p at (leaf a) = put_atom p at a
put_node rec p at (power x) = rec (set p at 0x43, at + 1, x)
put_node rec p at (pair x y) = rec (set p at 0x44, at + 1, x) >>= λ o. rec (o.1, o.0, y)
put_node rec p at bad = fail broken p

unfoldable pub put_f : Words → ℕ → (Job → M Page Sheet) → Job → M Page Sheet
put_f ws n rec i = room i.0 i.1 1 (reading i.0 (resolve ws n i.2) >>= λ r. tick i.0 (put_node rec i.0 i.1 (node_at ws n r)))

unfoldable pub put : Words → ℕ → Job → M Page Sheet
unfolding run put_f
put ws n = run (λ i. i.0) (put_f ws n)

-- metered, and its equation
room_metered : {A : Type 0} (p : Page) (at k : ℕ) {m : M Page A} → Metered m → Metered (room p at k m)
unfolding room
room_metered p at k h = choose_metered (ltb (length p) (at + k)) (metered_fail full p) h

room-agree : {A : Type 0} (c : ℕ) (p : Page) (at k : ℕ) {m m' : M Page A} → Agree c m m' → Agree c (room p at k m) (room p at k m')
unfolding room
room-agree c p at k h = choose-agree c (ltb (length p) (at + k)) (agree_refl c (fail full p)) h

atom_metered : (p : Page) (at : ℕ) (a : Atom) → Metered (put_atom p at a)
unfolding put_atom
atom_metered p at bool = metered_ret _
atom_metered p at int = metered_ret _
atom_metered p at (given g) = room_metered p at 3 (metered_ret _)

node_metered : (rec : Job → M Page Sheet) → ((i : Job) → Metered (rec i)) → (p : Page) (at : ℕ) (nd : Node) → Metered (put_node rec p at nd)
unfolding put_node
node_metered rec h p at free = metered_fail broken p
node_metered rec h p at (link j) = metered_fail broken p
node_metered rec h p at (leaf a) = atom_metered p at a
node_metered rec h p at (power x) = h (set p at 0x43, at + 1, x)
node_metered rec h p at (pair x y) = metered_bind (h (set p at 0x44, at + 1, x)) λ o. h (o.1, o.0, y)
node_metered rec h p at bad = metered_fail broken p

node-agree : (c : ℕ) (rec rec' : Job → M Page Sheet) → ((i : Job) → Metered (rec i)) → ((i : Job) → Agree c (rec i) (rec' i)) → (p : Page) (at : ℕ) (nd : Node) → Agree c (put_node rec p at nd) (put_node rec' p at nd)
unfolding put_node
node-agree c rec rec' m h p at free = agree_refl c _
node-agree c rec rec' m h p at (link j) = agree_refl c _
node-agree c rec rec' m h p at (leaf a) = agree_refl c _
node-agree c rec rec' m h p at (power x) = h (set p at 0x43, at + 1, x)
node-agree c rec rec' m h p at (pair x y) = agree-bind c (m (set p at 0x44, at + 1, x)) (h (set p at 0x44, at + 1, x)) λ o. h (o.1, o.0, y)
node-agree c rec rec' m h p at bad = agree_refl c _

module _ (ws : Words) (n : ℕ) where
  put-paid : Paid (put_f ws n)
  unfolding put_f
  put-paid = record {
    keeps = λ rec h i. room_metered i.0 i.1 1 (metered_bind (metered_reading i.0 (resolve_metered ws n i.2)) λ r. metered_tick i.0 (node_metered rec h i.0 i.1 (node_at ws n r)));
    guards = λ c rec rec' h g i. room-agree (suc c) i.0 i.1 1 (agree-bind (suc c) (metered_reading i.0 (resolve_metered ws n i.2)) (agree_refl (suc c) _) λ r. agree-tick i.0 c (node-agree c rec rec' h g i.0 i.1 (node_at ws n r)));
  }

  pub put_metered : (i : Job) → Metered (put ws n i)
  unfolding put
  put_metered i = run_metered (λ i. i.0) put-paid i

  put_eq : (i : Job) → put ws n i ≡ put_f ws n (put ws n) i
  unfolding put
  put_eq i = run_eq (λ i. i.0) put-paid i

  paid-then : (p : Page) (r : ℕ) (k : ℕ × Node → M Page Sheet) → reading p (tick tt (ret (r, node_at ws n r))) >>= k ≡ tick p (k (r, node_at ws n r))
  paid-then p r k = ap (λ (m : M Page (ℕ × Node)). m >>= k) (reading-tick p (ret (r, node_at ws n r)) ∙ ap (tick p) (reading-ret p (r, node_at ws n r))) ∙ tick-bind p (ret (r, node_at ws n r)) k ∙ ap (tick p) (bind-ret (r, node_at ws n r) k)

  reach-then : (p : Page) (t : ℕ) (k : ℕ × Node → M Page Sheet) → reading p (resolve ws n t) >>= (λ r. tick p (k (r, node_at ws n r))) ≡ reading p (reach ws n t) >>= k
  unfolding reach
  reach-then p t k = sym (
      ap (λ (m : M Page (ℕ × Node)). m >>= k) (reading-bind p (resolve ws n t) (λ r. tick tt (ret (r, node_at ws n r))))
      ∙ bind_assoc (reading p (resolve ws n t)) (λ r. reading p (tick tt (ret (r, node_at ws n r)))) k
      ∙ ap (λ (f : ℕ → M Page Sheet). reading p (resolve ws n t) >>= f) (fun_ext λ r. paid-then p r k))

  -- a byte has room; the node is reached and paid for; and then written
  pub put-reach : (p : Page) (at t : ℕ) → put ws n (p, at, t) ≡ room p at 1 (reading p (reach ws n t) >>= λ o. put_node (put ws n) p at o.1)
  unfolding put_f
  put-reach p at t = put_eq (p, at, t) ∙ ap (room p at 1) (reach-then p t (λ o. put_node (put ws n) p at o.1))

-- one law for each way the code can go
module _ (ws : Words) (n : ℕ) (p : Page) (at t b : ℕ) where
  pub put-none : length p ≤ at → put ws n (p, at, t) b ≡ halt full p
  unfolding room choose fail
  put-none l = ap (λ (m : M Page Sheet). m b) (put-reach ws n p at t) ∙ ap (λ (c : Bool). choose c (fail full p) (reading p (reach ws n t) >>= λ o. put_node (put ws n) p at o.1) b) (lt-ltb (length p) (at + 1) (omega arith))

  module _ (l : at < length p) where
    inner : put ws n (p, at, t) b ≡ (reading p (reach ws n t) >>= λ o. put_node (put ws n) p at o.1) b
    unfolding room choose
    inner = ap (λ (m : M Page Sheet). m b) (put-reach ws n p at t) ∙ ap (λ (c : Bool). choose c (fail full p) (reading p (reach ws n t) >>= λ o. put_node (put ws n) p at o.1) b) (le-ltb (length p) (at + 1) (omega arith))

    pub put-spent : reach ws n t b ≡ spent tt → put ws n (p, at, t) b ≡ spent p
    put-spent e = inner ∙ bind-spent (reading p (reach ws n t)) _ b p (read-spent p (reach ws n t) b e)

    pub put_broken : reach ws n t b ≡ halt broken tt → put ws n (p, at, t) b ≡ halt broken p
    put_broken e = inner ∙ bind-halt (reading p (reach ws n t)) _ b broken p (read-halt p (reach ws n t) b broken e)

    put-at : (r m : ℕ) (nd : Node) → reach ws n t b ≡ done (r, nd) m → put ws n (p, at, t) b ≡ put_node (put ws n) p at nd m
    put-at r m nd e = inner ∙ bind_done (reading p (reach ws n t)) (λ o. put_node (put ws n) p at o.1) b (r, nd) m (read_done p (reach ws n t) b (r, nd) m e)

    module _ (r m k x y : ℕ) (e : reach ws n t b ≡ done (r, decode k x y) m) where
      to : (nd : Node) → decode k x y ≡ nd → put ws n (p, at, t) b ≡ put_node (put ws n) p at nd m
      to nd q = put-at r m (decode k x y) e ∙ ap (λ (d : Node). put_node (put ws n) p at d m) q

      pub put-bool : k ≡ 0x40 → put ws n (p, at, t) b ≡ done (at + 1, set p at 0x40) m
      unfolding put_node put_atom ret
      put-bool z = to (leaf bool) (rw z refl)

      pub put-int : k ≡ 0x41 → put ws n (p, at, t) b ≡ done (at + 1, set p at 0x41) m
      unfolding put_node put_atom ret
      put-int z = to (leaf int) (rw z refl)

      named : k ≡ 0x42 → put ws n (p, at, t) b ≡ room p at 3 (ret (at + 3, set (set (set p at 0x42) (at + 1) (x % 256)) (at + 2) (x / 256 % 256))) m
      unfolding put_node put_atom
      named z = to (leaf (given x)) (rw z refl)

      pub put-given : k ≡ 0x42 → at + 3 ≤ length p → put ws n (p, at, t) b ≡ done (at + 3, set (set (set p at 0x42) (at + 1) (x % 256)) (at + 2) (x / 256 % 256)) m
      unfolding room choose ret
      put-given z h = named z ∙ ap (λ (c : Bool). choose c (fail full p) (ret (at + 3, set (set (set p at 0x42) (at + 1) (x % 256)) (at + 2) (x / 256 % 256))) m) (le-ltb (length p) (at + 3) h)

      pub put-given_full : k ≡ 0x42 → length p < at + 3 → put ws n (p, at, t) b ≡ halt full p
      unfolding room choose fail
      put-given_full z h = named z ∙ ap (λ (c : Bool). choose c (fail full p) (ret (at + 3, set (set (set p at 0x42) (at + 1) (x % 256)) (at + 2) (x / 256 % 256))) m) (lt-ltb (length p) (at + 3) h)

      pub put-power : k ≡ 0x43 → put ws n (p, at, t) b ≡ put ws n (set p at 0x43, at + 1, x) m
      unfolding put_node
      put-power z = to (power x) (rw z refl)

      both : k ≡ 0x44 → put ws n (p, at, t) b ≡ (put ws n (set p at 0x44, at + 1, x) >>= λ o. put ws n (o.1, o.0, y)) m
      unfolding put_node
      both z = to (pair x y) (rw z refl)

      pub put_right : k ≡ 0x44 → (a l : ℕ) (q : Page) → put ws n (set p at 0x44, at + 1, x) m ≡ done (a, q) l → put ws n (p, at, t) b ≡ put ws n (q, a, y) l
      put_right z a l q f = both z ∙ bind_done (put ws n (set p at 0x44, at + 1, x)) (λ o. put ws n (o.1, o.0, y)) m (a, q) l f

      pub put-left-spent : k ≡ 0x44 → (q : Page) → put ws n (set p at 0x44, at + 1, x) m ≡ spent q → put ws n (p, at, t) b ≡ spent q
      put-left-spent z q f = both z ∙ bind-spent (put ws n (set p at 0x44, at + 1, x)) (λ o. put ws n (o.1, o.0, y)) m q f

      pub put-left-halt : k ≡ 0x44 → (w : Why) (q : Page) → put ws n (set p at 0x44, at + 1, x) m ≡ halt w q → put ws n (p, at, t) b ≡ halt w q
      put-left-halt z w q f = both z ∙ bind-halt (put ws n (set p at 0x44, at + 1, x)) (λ o. put ws n (o.1, o.0, y)) m w q f

      other : (nd : Node) → Kind k x y nd → k ≢ 0x40 → k ≢ 0x41 → k ≢ 0x42 → k ≢ 0x43 → k ≢ 0x44 → put_node (put ws n) p at nd m ≡ halt broken p
      unfolding put_node fail
      other free f g h i j o = refl
      other (link z) f g h i j o = refl
      other (leaf bool) (is-bool q) g h i j o = absurd (g q)
      other (leaf int) (is-int q) g h i j o = absurd (h q)
      other (leaf (given z)) (is-given q) g h i j o = absurd (i q)
      other (power z) (is-power q) g h i j o = absurd (j q)
      other (pair z w) (is-pair q) g h i j o = absurd (o q)
      other bad f g h i j o = refl

      pub put_other : k ≢ 0x40 → k ≢ 0x41 → k ≢ 0x42 → k ≢ 0x43 → k ≢ 0x44 → put ws n (p, at, t) b ≡ halt broken p
      put_other g h i j o = put-at r m (decode k x y) e ∙ other (decode k x y) (kind_of k x y) g h i j o

pub put-left : (ws : Words) (n : ℕ) (i : Job) (b : ℕ) (o : Sheet) (l : ℕ) → put ws n i b ≡ done o l → l ≤ b
put-left ws n i b o l e = within_le b ((put_metered ws n i).within b) o l e

-- bytes laid on a page from a place on
unfoldable pub lay : Page → ℕ → List ℕ → Page
lay p at [] = p
lay p at (b ∷ bs) = lay (set p at b) (at + 1) bs

pub lay-length : (p : Page) (at : ℕ) (bs : List ℕ) → length (lay p at bs) ≡ length p
unfolding lay
lay-length p at [] = refl
lay-length p at (b ∷ bs) = lay-length (set p at b) (at + 1) bs ∙ simp length-set

pub lay-append : (p : Page) (at : ℕ) (xs ys : List ℕ) → lay p at (xs ++ ys) ≡ lay (lay p at xs) (at + length xs) ys
unfolding lay
lay-append p at [] ys = ap (λ (i : ℕ). lay p i ys) (omega arith)
lay-append p at (x ∷ xs) ys = lay-append (set p at x) (at + 1) xs ys ∙ ap (λ (i : ℕ). lay (lay (set p at x) (at + 1) xs) i ys) (omega arith)

-- where they fit, they stand after what stood before
pub lay-take : (p : Page) (at : ℕ) (bs : List ℕ) → at + length bs ≤ length p → take (at + length bs) (lay p at bs) ≡ take at p ++ bs
unfolding lay
lay-take p at [] l = let e : at + 0 ≡ at = omega arith in ap (λ (i : ℕ). take i p) e ∙ sym (append-nil (take at p))
lay-take p at (b ∷ bs) l =
    let k : length (set p at b) ≡ length p = length-set p at b in
    let e : at + suc (length bs) ≡ (at + 1) + length bs = omega arith in
    let j : at + 1 ≡ suc at = omega arith in
    ap (λ (i : ℕ). take i (lay (set p at b) (at + 1) bs)) e
    ∙ lay-take (set p at b) (at + 1) bs (omega arith)
    ∙ ap (λ (i : ℕ). take i (set p at b) ++ bs) j
    ∙ ap (λ (i : List ℕ). i ++ bs) (take-suc-set p at b (omega arith))
    ∙ append_assoc (take at p) (b ∷ []) bs

-- the bytes of a type as they are written: a name in two bytes
unfoldable pub atom_bytes : Atom → List ℕ
atom_bytes bool = 0x40 ∷ []
atom_bytes int = 0x41 ∷ []
atom_bytes (given g) = 0x42 ∷ g % 256 ∷ g / 256 % 256 ∷ []

unfoldable pub bytes : Ty → List ℕ
unfolding atom_bytes
bytes (base a) = atom_bytes a
bytes (pow t) = 0x43 ∷ bytes t
bytes (prod t u) = 0x44 ∷ (bytes t ++ bytes u)

small_half : (g : ℕ) → g < 65536 → g / 256 % 256 ≡ g / 256
small_half g l = omega arith

atom-spelt : (names : ℕ) → names ≤ 65536 → (a : Atom) → AtomBelow names a → atom_bytes a ≡ spell_atom a
unfolding atom_bytes spell_atom
atom-spelt names l bool b = refl
atom-spelt names l int b = refl
atom-spelt names l (given g) (given_below h) = ap (λ (i : ℕ). 0x42 ∷ g % 256 ∷ i ∷ []) (small_half g (omega arith))

-- where names fit two bytes, they are the type's spelling
pub bytes-spell : (names : ℕ) → names ≤ 65536 → (t : Ty) → Below names t → bytes t ≡ spell t
unfolding bytes spell Below
bytes-spell names l (base a) b = atom-spelt names l a b
bytes-spell names l (pow t) b = ap (◌∷◌ 0x43) (bytes-spell names l t b)
bytes-spell names l (prod t u) b = ap₂ (λ xs ys. 0x44 ∷ (xs ++ ys)) (bytes-spell names l t b.0) (bytes-spell names l u b.1)

-- ---- what is written is the type that is read
on_inv : {E A B : Type 0} (k : A → M E B) (o : Out E A) (c : B) (r : ℕ) → on o k ≡ done c r → (a : A) × (l : ℕ) × (o ≡ done a l) × (k a l ≡ done c r)
unfolding on
on_inv k (spent e) c r q = let z : ◌≡◌ {A = ℕ} 0 1 = cc in absurd (omega arith)
on_inv k (halt w e) c r q = let z : ◌≡◌ {A = ℕ} 0 1 = cc in absurd (omega arith)
on_inv k (done a l) c r q = (a, l, refl, q)

-- a bind that is done: both its parts are
pub bind_inv : {E A B : Type 0} (m : M E A) (k : A → M E B) (b : ℕ) (c : B) (r : ℕ) → (m >>= k) b ≡ done c r → (a : A) × (l : ℕ) × (m b ≡ done a l) × (k a l ≡ done c r)
unfolding ◌>>=◌
bind_inv m k b c r q = on_inv k (m b) c r q

module _ (ws : Words) (n : ℕ) where
  -- the record of T is laid from `at` on, with r units left
  abbrev Fits : Page → ℕ → Ty → Type 0
  Fits p at T = at + length (bytes T) ≤ length p

  abbrev Laid : ℕ → ℕ → Ty → ℕ → Page → ℕ → Type 0
  Laid b t T r p at = Fits p at T → put ws n (p, at, t) b ≡ done (at + length (bytes T), lay p at (bytes T)) r

  abbrev Lays : ℕ → Type 0
  Lays b = (t : ℕ) (T : Ty) (r : ℕ) → read ws n t b ≡ done T r → (p : Page) (at : ℕ) → Laid b t T r p at

  atom-size : (a : Atom) → 1 ≤ length (atom_bytes a)
  unfolding atom_bytes
  atom-size bool = omega arith
  atom-size int = omega arith
  atom-size (given g) = omega arith

  bytes-size : (T : Ty) → 1 ≤ length (bytes T)
  unfolding bytes
  bytes-size (base a) = atom-size a
  bytes-size (pow T) = omega arith
  bytes-size (prod T S) = omega arith

  atom-laid : (p : Page) (at m : ℕ) (a : Atom) → at + length (atom_bytes a) ≤ length p → put_atom p at a m ≡ done (at + length (atom_bytes a), lay p at (atom_bytes a)) m
  unfolding put_atom room choose ret atom_bytes lay
  atom-laid p at m bool l = refl
  atom-laid p at m int l = refl
  atom-laid p at m (given g) l = ap (λ (c : Bool). choose c (fail full p) (ret (at + 3, set (set (set p at 0x42) (at + 1) (g % 256)) (at + 2) (g / 256 % 256))) m) (le-ltb (length p) (at + 3) l)
      ∙ ap (λ (i : ℕ). done (at + 3, set (set (set p at 0x42) (at + 1) (g % 256)) i (g / 256 % 256)) m) (omega arith)

  laid_as : (p : Page) (i j r : ℕ) → i ≡ j → ◌≡◌ {A = Out Page Sheet} (done (i, p) r) (done (j, p) r)
  laid_as p i j r e = ap (λ (k : ℕ). done (k, p) r) e

  module _ (b t x m : ℕ) (rec : (c : ℕ) → c < b → Lays c) where
    node-laid : (nd : Node) → reach ws n t b ≡ done (x, nd) m → (T : Ty) (r : ℕ) → type_node (read ws n) nd m ≡ done T r → (p : Page) (at : ℕ) → Laid b t T r p at
    unfolding type_node fail ret bytes put_node lay
    node-laid free e T r q p at f = let z : ◌≡◌ {A = ℕ} 0 1 = cc in absurd (omega arith)
    node-laid (link j) e T r q p at f = let z : ◌≡◌ {A = ℕ} 0 1 = cc in absurd (omega arith)
    node-laid (leaf a) e T r q p at f =
        let s : base a ≡ T = cc in
        let g : Fits p at (base a) = subst (λ (S : Ty). Fits p at S) (sym s) f in
        let h = atom-size a in
        put-at ws n p at t b (omega arith) x m (leaf a) e ∙ atom-laid p at m a g
        ∙ ap₂ (λ (S : Ty) (l : ℕ). done (at + length (bytes S), lay p at (bytes S)) l) s (cc)
    node-laid (power y) e T r q p at f =
        let w = bind_inv (read ws n y) (λ S. ret (pow S)) m T r q in
        let s : pow w.0 ≡ T = cc in
        let g : Fits p at (pow w.0) = subst (λ (S : Ty). Fits p at S) (sym s) f in
        let h = bytes-size w.0 in
        let k : length (set p at 0x43) ≡ length p = simp length-set in
        let u = reach-left ws n t b (x, power y) m e in
        put-at ws n p at t b (omega arith) x m (power y) e
        ∙ rec m u y w.0 w.1 w.2 (set p at 0x43) (at + 1) (omega arith)
        ∙ laid_as (lay p at (bytes (pow w.0))) (at + 1 + length (bytes w.0)) (at + length (bytes (pow w.0))) w.1 (omega arith)
        ∙ ap₂ (λ (S : Ty) (l : ℕ). done (at + length (bytes S), lay p at (bytes S)) l) s (cc)
    node-laid (pair y z) e T r q p at f =
        let w = bind_inv (read ws n y) (λ S. read ws n z >>= λ S'. ret (prod S S')) m T r q in
        let v = bind_inv (read ws n z) (λ S'. ret (prod w.0 S')) w.1 T r w.3 in
        let s : prod w.0 v.0 ≡ T = cc in
        let g : Fits p at (prod w.0 v.0) = subst (λ (S : Ty). Fits p at S) (sym s) f in
        let d = length-append (bytes w.0) (bytes v.0) in
        let k : length (set p at 0x44) ≡ length p = simp length-set in
        let u = reach-left ws n t b (x, pair y z) m e in
        let c = within_le m ((read_metered ws n y).within m) w.0 w.1 w.2 in
        let first : Page = lay (set p at 0x44) (at + 1) (bytes w.0) in
        let i = lay-length (set p at 0x44) (at + 1) (bytes w.0) in
        put-at ws n p at t b (omega arith) x m (pair y z) e
        ∙ bind_done (put ws n (set p at 0x44, at + 1, y)) (λ o. put ws n (o.1, o.0, z)) m (at + 1 + length (bytes w.0), first) w.1
        (rec m u y w.0 w.1 w.2 (set p at 0x44) (at + 1) (omega arith))
        ∙ rec w.1 (omega arith) z v.0 v.1 v.2 first (at + 1 + length (bytes w.0)) (omega arith)
        ∙ ap₂ (λ (j : ℕ) (P : Page). done (j, P) v.1) (omega arith) (sym (lay-append (set p at 0x44) (at + 1) (bytes w.0) (bytes v.0)))
        ∙ ap₂ (λ (S : Ty) (l : ℕ). done (at + length (bytes S), lay p at (bytes S)) l) s (cc)
    node-laid bad e T r q p at f = let z : ◌≡◌ {A = ℕ} 0 1 = cc in absurd (omega arith)

  lays_upto : (k b : ℕ) → b < k → Lays b
  lays_upto zero b l = absurd (omega arith)
  lays_upto (suc k) b l = λ t T r q p at f.
      (let w = bind_inv (reach ws n t) (λ o. type_node (read ws n) o.1) b T r (sym (ap (λ (m : M U Ty). m b) (read-reach ws n t)) ∙ q) in
      node-laid b t w.0.0 w.1 (λ c h. lays_upto k c (omega arith)) w.0.1 w.2 T r w.3 p at f)

  -- where a type is read and its record fits, the record is laid from the place on, at the same cost
  pub put-done : (t b : ℕ) (T : Ty) (r : ℕ) → read ws n t b ≡ done T r → (p : Page) (at : ℕ) → at + length (bytes T) ≤ length p
      → put ws n (p, at, t) b ≡ done (at + length (bytes T), lay p at (bytes T)) r
  put-done t b T r q p at f = lays_upto (suc b) b (omega arith) t T r q p at f

  -- ---- and where it does not fit
  abbrev Short : Page → ℕ → Ty → Type 0
  Short p at T = length p < at + length (bytes T)

  abbrev Stops : ℕ → ℕ → Page → ℕ → Type 0
  Stops b t p at = (q : Page) × (put ws n (p, at, t) b ≡ halt full q) × (length q ≡ length p)

  abbrev Lacks : ℕ → Type 0
  Lacks b = (t : ℕ) (T : Ty) (r : ℕ) → read ws n t b ≡ done T r → (p : Page) (at : ℕ) → Short p at T → Stops b t p at

  atom_full : (p : Page) (at m : ℕ) (a : Atom) → at < length p → length p < at + length (atom_bytes a) → put_atom p at a m ≡ halt full p
  unfolding put_atom room choose fail atom_bytes
  atom_full p at m bool l h = absurd (omega arith)
  atom_full p at m int l h = absurd (omega arith)
  atom_full p at m (given g) l h = ap (λ (c : Bool). choose c (fail full p) (ret (at + 3, set (set (set p at 0x42) (at + 1) (g % 256)) (at + 2) (g / 256 % 256))) m) (lt-ltb (length p) (at + 3) h)

  module _ (b t x m : ℕ) (rec : (c : ℕ) → c < b → Lacks c) where
    pair_full : (y z : ℕ) → reach ws n t b ≡ done (x, pair y z) m → (S S' : Ty) (l r : ℕ) → read ws n y m ≡ done S l → read ws n z l ≡ done S' r → (p : Page) (at : ℕ) → at < length p
        → length p < at + length (bytes (prod S S')) → Dec (at + 1 + length (bytes S) ≤ length p) → Stops b t p at
    unfolding put_node bytes
    pair_full y z e S S' l r q q' p at h f (yes g) =
        let k : length (set p at 0x44) ≡ length p = simp length-set in
        let d = length-append (bytes S) (bytes S') in
        let u = reach-left ws n t b (x, pair y z) m e in
        let c = within_le m ((read_metered ws n y).within m) S l q in
        let first : Page = lay (set p at 0x44) (at + 1) (bytes S) in
        let i = lay-length (set p at 0x44) (at + 1) (bytes S) in
        let w = rec l (omega arith) z S' r q' first (at + 1 + length (bytes S)) (omega arith) in (
          w.0,
          put-at ws n p at t b h x m (pair y z) e
              ∙ bind_done (put ws n (set p at 0x44, at + 1, y)) (λ o. put ws n (o.1, o.0, z)) m (at + 1 + length (bytes S), first) l (put-done y m S l q (set p at 0x44) (at + 1) (omega arith))
              ∙ w.1,
          w.2 ∙ i ∙ k,
        )
    pair_full y z e S S' l r q q' p at h f (no g) =
        let k : length (set p at 0x44) ≡ length p = simp length-set in
        let u = reach-left ws n t b (x, pair y z) m e in
        let w = rec m u y S l q (set p at 0x44) (at + 1) (omega arith) in
        (w.0, put-at ws n p at t b h x m (pair y z) e ∙ bind-halt (put ws n (set p at 0x44, at + 1, y)) (λ o. put ws n (o.1, o.0, z)) m full w.0 w.1, w.2 ∙ k)

    node_full : (nd : Node) → reach ws n t b ≡ done (x, nd) m → (T : Ty) (r : ℕ) → type_node (read ws n) nd m ≡ done T r → (p : Page) (at : ℕ) → at < length p → Short p at T → Stops b t p at
    unfolding type_node fail ret bytes put_node
    node_full free e T r q p at h f = let z : ◌≡◌ {A = ℕ} 0 1 = cc in absurd (omega arith)
    node_full (link j) e T r q p at h f = let z : ◌≡◌ {A = ℕ} 0 1 = cc in absurd (omega arith)
    node_full (leaf a) e T r q p at h f =
        let s : base a ≡ T = cc in
        let g : Short p at (base a) = subst (λ (S : Ty). Short p at S) (sym s) f in
        (p, put-at ws n p at t b h x m (leaf a) e ∙ atom_full p at m a h g, refl)
    node_full (power y) e T r q p at h f =
        let w = bind_inv (read ws n y) (λ S. ret (pow S)) m T r q in
        let s : pow w.0 ≡ T = cc in
        let g : Short p at (pow w.0) = subst (λ (S : Ty). Short p at S) (sym s) f in
        let k : length (set p at 0x43) ≡ length p = simp length-set in
        let u = reach-left ws n t b (x, power y) m e in
        let v = rec m u y w.0 w.1 w.2 (set p at 0x43) (at + 1) (omega arith) in
        (v.0, put-at ws n p at t b h x m (power y) e ∙ v.1, v.2 ∙ k)
    node_full (pair y z) e T r q p at h f =
        let w = bind_inv (read ws n y) (λ S. read ws n z >>= λ S'. ret (prod S S')) m T r q in
        let v = bind_inv (read ws n z) (λ S'. ret (prod w.0 S')) w.1 T r w.3 in
        let s : prod w.0 v.0 ≡ T = cc in
        pair_full y z e w.0 v.0 w.1 v.1 w.2 v.2 p at h (subst (λ (S : Ty). Short p at S) (sym s) f) (dec_le (at + 1 + length (bytes w.0)) (length p))
    node_full bad e T r q p at h f = let z : ◌≡◌ {A = ℕ} 0 1 = cc in absurd (omega arith)

  full_at : (k b : ℕ) → ((c : ℕ) → c < b → Lacks c) → (t : ℕ) (T : Ty) (r : ℕ) → read ws n t b ≡ done T r → (p : Page) (at : ℕ) → Short p at T → Dec (at < length p) → Stops b t p at
  full_at k b rec t T r q p at f (yes h) =
      let w = bind_inv (reach ws n t) (λ o. type_node (read ws n) o.1) b T r (sym (ap (λ (m : M U Ty). m b) (read-reach ws n t)) ∙ q) in
      node_full b t w.0.0 w.1 rec w.0.1 w.2 T r w.3 p at h f
  full_at k b rec t T r q p at f (no h) = (p, put-none ws n p at t b (omega arith), refl)

  lacks-upto : (k b : ℕ) → b < k → Lacks b
  lacks-upto zero b l = absurd (omega arith)
  lacks-upto (suc k) b l = λ t T r q p at f. full_at k b (λ c h. lacks-upto k c (omega arith)) t T r q p at f (dec_lt at (length p))

  pub put_full : (t b : ℕ) (T : Ty) (r : ℕ) → read ws n t b ≡ done T r → (p : Page) (at : ℕ) → length p < at + length (bytes T) → (q : Page) × (put ws n (p, at, t) b ≡ halt full q) × (length q ≡ length p)
  put_full t b T r q p at f = lacks-upto (suc b) b (omega arith) t T r q p at f
