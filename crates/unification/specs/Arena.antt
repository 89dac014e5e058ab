-- The arena: nodes as words, and the metered functions over them. Definitions alone.
--
-- A node is three words. `node_at` says what stands at a reference, for any words whatever: a node, or `bad` where the reference is outside
-- or the kind is none. `resolve`, `occurs`, `solved`, `read` and `unify` then say, for any words, references and budget, what is answered,
-- what is left of the budget, and (for `unify`) which words stand in every outcome. Order and short cuts are those of the Rust, but for which of two
-- unknowns is bound (`merge_at`): one unit for each binding followed, one for each node that `occurs` and `solved` stand on after following, one for each pair before it is followed.
use Rattle.std.specs.Prelude.{ℕ, suc, ◌+◌, ◌*◌, Bool, true, false, ◌&&◌, List, ltb, eqb, length, get_or, set}
use Rattle.types.specs.Ty.{Atom, bool, int, given, Ty, base, pow, prod}
use Rattle.meter.specs.Meter.{broken, M, ret, fail, tick, ◌>>=◌, reading, run}

pub data Node : Type 0 where
  free : Node
  link : ℕ → Node
  leaf : Atom → Node
  power : ℕ → Node
  pair : ℕ → ℕ → Node
  bad : Node

-- the first where the test holds, else the second
abbrev pub pick : Bool → Node → Node → Node
pick true x y = x
pick false x y = y

-- three words as a node. Kinds: 40 BOOL, 41 ℤ, 42 given, 43 power, 44 product, 4E an unknown, 4D an unknown bound to a.
-- This is vocabulary, as `Node` is: what is said of a node that is made is said of `decode k a b`. So it computes wherever it stands
-- and is none of the definitions behind the laws.
abbrev pub decode : ℕ → ℕ → ℕ → Node
decode kind a b =
    pick (eqb kind 0x4E) free
    (pick (eqb kind 0x4D) (link a)
    (pick (eqb kind 0x40) (leaf bool)
    (pick (eqb kind 0x41) (leaf int)
    (pick (eqb kind 0x42) (leaf (given a))
    (pick (eqb kind 0x43) (power a)
    (pick (eqb kind 0x44) (pair a b) bad))))))

-- words: three a node; n: the count of nodes. A reference is inside if it is below the count and its three words are in the slice
unfoldable pub inside : List ℕ → ℕ → ℕ → Bool
inside ws n x = ltb x n && ltb (3 * x + 2) (length ws)

unfoldable pub node_at : List ℕ → ℕ → ℕ → Node
unfolding inside
node_at ws n x = pick (inside ws n x) (decode (get_or ws (3 * x) 0) (get_or ws (3 * x + 1) 0) (get_or ws (3 * x + 2) 0)) bad

-- the words after the unknown at v is bound to t
unfoldable pub bind_at : List ℕ → ℕ → ℕ → List ℕ
bind_at ws v t = set (set ws (3 * v) 0x4D) (3 * v + 1) t

-- Two unknowns that are made equal: which of them is bound. The third word of an unknown is its rank, 0 when it is made; a binding leaves it.
-- The rank is never less than the longest chain of bindings between unknowns that leads there. The left unknown is bound to the right one, and where
-- both have one rank the right one's rises by 1; only where the right one's rank is the smaller is the right one bound to the left one.
-- (32 is never passed: a rank of r takes 2^r unknowns, and references have 32 bits.)
unfoldable pub unknown : Node → Bool
unknown free = true
unknown (link j) = false
unknown (leaf p) = false
unknown (power x) = false
unknown (pair x y) = false
unknown bad = false

unfoldable pub rank_at : List ℕ → ℕ → ℕ
rank_at ws x = get_or ws (3 * x + 2) 0

abbrev pub either : Bool → List ℕ → List ℕ → List ℕ
either true x y = x
either false x y = y

-- t is an unknown too, of a smaller rank than v's; of the same rank
unfoldable pub below : List ℕ → ℕ → ℕ → ℕ → Bool
unfolding unknown node_at rank_at
below ws n v t = unknown (node_at ws n t) && ltb (rank_at ws t) (rank_at ws v)

unfoldable pub level : List ℕ → ℕ → ℕ → ℕ → Bool
unfolding unknown node_at rank_at
level ws n v t = unknown (node_at ws n t) && (eqb (rank_at ws t) (rank_at ws v) && ltb (rank_at ws t) 32)

unfoldable pub raised : List ℕ → ℕ → ℕ → ℕ → List ℕ
unfolding level rank_at
raised ws n v t = either (level ws n v t) (set ws (3 * t + 2) (suc (rank_at ws t))) ws

-- what is done with an unknown v and a node t that are to be one: from the words, the count, v and t to the words after it
abbrev pub Direction : Type 0
Direction = List ℕ → ℕ → ℕ → ℕ → List ℕ

-- the unknown v is made equal to t, which may be anything that is no binding
unfoldable pub merge_at : Direction
unfolding below raised bind_at
merge_at ws n v t = either (below ws n v t) (bind_at ws t v) (bind_at (raised ws n v t) v t)

-- the Rust's direction: of two unknowns it binds the left one, which is the one that is taken up as v
unfoldable pub left_bound : Direction
unfolding bind_at
left_bound ws n v t = bind_at ws v t

abbrev pub U : Type 0
U = Unit {0}

unfoldable pub choose : {E A : Type 0} → Bool → M E A → M E A → M E A
choose true m k = m
choose false m k = k

-- resolve: one unit for each binding followed
unfoldable pub follow : (ℕ → M U ℕ) → ℕ → Node → M U ℕ
unfolding ret fail tick
follow rec t free = ret t
follow rec t (link j) = tick tt (rec j)
follow rec t (leaf p) = ret t
follow rec t (power x) = ret t
follow rec t (pair x y) = ret t
follow rec t bad = fail broken tt

unfoldable pub resolve_f : List ℕ → ℕ → (ℕ → M U ℕ) → ℕ → M U ℕ
unfolding follow node_at
resolve_f ws n rec t = follow rec t (node_at ws n t)

unfoldable pub resolve : List ℕ → ℕ → ℕ → M U ℕ
unfolding run resolve_f
resolve ws n = run (λ _. tt) (resolve_f ws n)

-- occurs: resolve, then one unit for the node reached
unfoldable pub in_node : (ℕ → M U Bool) → Node → M U Bool
unfolding ret fail ◌>>=◌ choose
in_node rec free = ret false
in_node rec (link j) = fail broken tt
in_node rec (leaf p) = ret false
in_node rec (power x) = rec x
in_node rec (pair x y) = rec x >>= λ found. choose found (ret true) (rec y)
in_node rec bad = fail broken tt

unfoldable pub occurs_f : List ℕ → ℕ → ℕ → (ℕ → M U Bool) → ℕ → M U Bool
unfolding resolve ◌>>=◌ tick choose ret in_node node_at
occurs_f ws n v rec t = resolve ws n t >>= λ r. tick tt (choose (eqb r v) (ret true) (in_node rec (node_at ws n r)))

unfoldable pub occurs : List ℕ → ℕ → ℕ → ℕ → M U Bool
unfolding run occurs_f
occurs ws n v = run (λ _. tt) (occurs_f ws n v)

-- solved: resolve, then one unit for the node reached
unfoldable pub all_node : (ℕ → M U Bool) → Node → M U Bool
unfolding ret fail ◌>>=◌ choose
all_node rec free = ret false
all_node rec (link j) = fail broken tt
all_node rec (leaf p) = ret true
all_node rec (power x) = rec x
all_node rec (pair x y) = rec x >>= λ all. choose all (rec y) (ret false)
all_node rec bad = fail broken tt

unfoldable pub solved_f : List ℕ → ℕ → (ℕ → M U Bool) → ℕ → M U Bool
unfolding resolve ◌>>=◌ tick all_node node_at
solved_f ws n rec t = resolve ws n t >>= λ r. tick tt (all_node rec (node_at ws n r))

unfoldable pub solved : List ℕ → ℕ → ℕ → M U Bool
unfolding run solved_f
solved ws n = run (λ _. tt) (solved_f ws n)

-- read: the type itself, walked as solved walks it (it halts at an unknown)
unfoldable pub type_node : (ℕ → M U Ty) → Node → M U Ty
unfolding ret fail ◌>>=◌
type_node rec free = fail broken tt
type_node rec (link j) = fail broken tt
type_node rec (leaf p) = ret (base p)
type_node rec (power x) = rec x >>= λ s. ret (pow s)
type_node rec (pair x y) = rec x >>= λ s. rec y >>= λ t. ret (prod s t)
type_node rec bad = fail broken tt

unfoldable pub read_f : List ℕ → ℕ → (ℕ → M U Ty) → ℕ → M U Ty
unfolding resolve ◌>>=◌ tick type_node node_at
read_f ws n rec t = resolve ws n t >>= λ r. tick tt (type_node rec (node_at ws n r))

unfoldable pub read : List ℕ → ℕ → ℕ → M U Ty
unfolding run read_f
read ws n = run (λ _. tt) (read_f ws n)

-- unify: one unit for the pair, both resolved; the words stand as they are in every outcome
pub data Verdict : Type 0 where
  unified mismatch circular : Verdict

pub data Meeting : Type 0 where
  bindLeft bindRight agree clash : Meeting
  down : ℕ → ℕ → Meeting
  both : ℕ → ℕ → ℕ → ℕ → Meeting

unfoldable pub same_atom : Atom → Atom → Bool
same_atom bool bool = true
same_atom bool int = false
same_atom bool (given x) = false
same_atom int bool = false
same_atom int int = true
same_atom int (given x) = false
same_atom (given x) bool = false
same_atom (given x) int = false
same_atom (given x) (given y) = eqb x y

unfoldable pub verdict_of : Bool → Meeting
verdict_of true = agree
verdict_of false = clash

unfoldable pub meet : Node → Node → Meeting
unfolding same_atom verdict_of
meet free k = bindLeft
meet (link j) k = clash
meet (leaf p) free = bindRight
meet (leaf p) (link j) = clash
meet (leaf p) (leaf q) = verdict_of (same_atom p q)
meet (leaf p) (power x) = clash
meet (leaf p) (pair x y) = clash
meet (leaf p) bad = clash
meet (power x) free = bindRight
meet (power x) (link j) = clash
meet (power x) (leaf q) = clash
meet (power x) (power y) = down x y
meet (power x) (pair y z) = clash
meet (power x) bad = clash
meet (pair x y) free = bindRight
meet (pair x y) (link j) = clash
meet (pair x y) (leaf q) = clash
meet (pair x y) (power z) = clash
meet (pair x y) (pair z w) = both x y z w
meet (pair x y) bad = clash
meet bad k = clash

abbrev pub Words : Type 0
Words = List ℕ

abbrev pub Pair : Type 0
Pair = Words × ℕ × ℕ

abbrev pub Answer : Type 0
Answer = Verdict × Words

unfoldable pub bound : Words → ℕ → ℕ → ℕ → Bool → M Words Answer
unfolding ret merge_at
bound ws n v t true = ret (circular, ws)
bound ws n v t false = ret (unified, merge_at ws n v t)

unfoldable pub assign : Words → ℕ → ℕ → ℕ → M Words Answer
unfolding bound reading occurs ◌>>=◌
assign ws n v t = reading ws (occurs ws n v t) >>= bound ws n v t

unfoldable pub next : (Pair → M Words Answer) → ℕ → ℕ → Verdict → Words → M Words Answer
unfolding ret
next rec y z unified ws = rec (ws, y, z)
next rec y z mismatch ws = ret (mismatch, ws)
next rec y z circular ws = ret (circular, ws)

unfoldable pub meeting : (Pair → M Words Answer) → Words → ℕ → ℕ → ℕ → Meeting → M Words Answer
unfolding ret assign next ◌>>=◌
meeting rec ws n a b bindLeft = assign ws n a b
meeting rec ws n a b bindRight = assign ws n b a
meeting rec ws n a b agree = ret (unified, ws)
meeting rec ws n a b clash = ret (mismatch, ws)
meeting rec ws n a b (down x y) = rec (ws, x, y)
meeting rec ws n a b (both x y z w) = rec (ws, x, z) >>= λ o. next rec y w o.0 o.1

unfoldable pub unify_at : (Pair → M Words Answer) → Words → ℕ → ℕ → ℕ → M Words Answer
unfolding ret choose meeting meet node_at
unify_at rec ws n a b = choose (eqb a b) (ret (unified, ws)) (meeting rec ws n a b (meet (node_at ws n a) (node_at ws n b)))

unfoldable pub unify_f : ℕ → (Pair → M Words Answer) → Pair → M Words Answer
unfolding tick reading resolve ◌>>=◌ unify_at
unify_f n rec i = tick i.0 (reading i.0 (resolve i.0 n i.1) >>= λ a. reading i.0 (resolve i.0 n i.2) >>= λ b. unify_at rec i.0 n a b)

unfoldable pub unify : ℕ → Pair → M Words Answer
unfolding run unify_f
unify n = run (λ i. i.0) (unify_f n)
