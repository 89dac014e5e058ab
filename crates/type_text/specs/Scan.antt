-- The reader's first pass: of a type it keeps the depth, up to 65, and the room that its record leaves. Else it is the parse.
use Rattle.std.specs.Prelude.{ℕ, zero, suc, ◌+◌, ◌-◌, ◌≤◌, ◌<◌, min, max, ◌≡◌, refl, List, ◌++◌, length, Option, Some, None, Ok, Err, Result}
use Rattle.std.proofs.Common.{arith, ap, ◌∙◌, length-append}
use Rattle.std.proofs.Math.Path.{sym}
use Rattle.types.specs.Ty.{Ty, pow, prod, depth, spell, spell_atom}
use Rattle.types.specs.Record.{TypeAt, got, malformed, deep, and_then}
use Rattle.types.specs.Code.{atom_is}
use Rattle.types.specs.declared.Atom.{Atom}
use Rattle.type_grammar.specs.declared.Token.{Token}
use Rattle.type_grammar.specs.declared.Token.TheVariants.{Leaf, Power, Open, Close, Times}
use Rattle.type_grammar.specs.Token.{token_at}
use Rattle.type_grammar.specs.Parse.{closing, operand_by, times_by, times_on, product_by, operand_of, product_of}
use Rattle.type_grammar.specs.Accepts.{times_moves, operand_moves}
use Rattle.types.specs.declared.Fault.{Fault}
use Rattle.types.specs.declared.Fault.TheVariants as F
use Rattle.type_text.specs.declared.reader.Scanned.{Scanned}
use Rattle.type_text.specs.Page.{spend_of, spend_twice}

-- one level more, where 65 stands for any more
abbrev pub deeper_of : ℕ → ℕ
deeper_of d = min (d + 1) 65

-- the place after a type's text, its depth and the room that its record leaves; or the first fault
abbrev pub Scan : Type 0
Scan = Result Scanned (Fault ℕ)

abbrev pub found : ℕ → ℕ → Option ℕ → Scanned
found e d r = record { end = e; depth = d; room = r }

unfoldable pub scanned_of : Option ℕ → TypeAt → Scan
scanned_of room (got t e) = Ok (found e (min (depth t) 65) (spend_of room (length (spell t))))
scanned_of room (malformed p) = Err (F.Malformed p)
scanned_of room (deep p) = Err (F.Beyond p)

-- the place after the bracket that closes, due at e
unfoldable pub closed_at : ℕ → Option Token → Result ℕ (Fault ℕ)
closed_at e (Some (Close q)) = Ok q
closed_at e (Some (Leaf a q)) = Err (F.Malformed e)
closed_at e (Some (Power q)) = Err (F.Malformed e)
closed_at e (Some (Open q)) = Err (F.Malformed e)
closed_at e (Some (Times q)) = Err (F.Malformed e)
closed_at e None = Err (F.Malformed e)

-- the operands after the first, of which at most n are read
unfoldable pub scan_next : (ℕ → ℕ → Option ℕ → Scan) → ℕ → Scan → Scan
scan_next more d (Err f) = Err f
scan_next more d (Ok s) = more s.end (deeper_of (max d s.depth)) s.room

unfoldable pub scan_on : (ℕ → Scan) → ℕ → ℕ → Option ℕ → Option Token → Scan
scan_on next e d r (Some (Times q)) = next q
scan_on next e d r (Some (Close q)) = Ok (found e d r)
scan_on next e d r (Some (Leaf a q)) = Ok (found e d r)
scan_on next e d r (Some (Power q)) = Ok (found e d r)
scan_on next e d r (Some (Open q)) = Ok (found e d r)
scan_on next e d r None = Ok (found e d r)

unfoldable pub scan_times_by : (ℕ → TypeAt) → (ℕ → Option Token) → ℕ → ℕ → ℕ → Option ℕ → Scan
scan_times_by rd tok zero e d r = Ok (found e d r)
scan_times_by rd tok (suc n) e d r =
    scan_on (λ q. scan_next (λ f g m. scan_times_by rd tok n f g m) d (scanned_of (spend_of r 1) (rd q))) e d r (tok e)

unfoldable pub scan_times_of : ℕ → List (List ℕ) → List ℕ → ℕ → ℕ → ℕ → Option ℕ → Scan
scan_times_of left ns s n e d r = scan_times_by (operand_of left ns s) (token_at ns s) n e d r

-- ---- the pass is the parse, with all but depth and length forgotten

fault-type : (f : Fault ℕ) (o : Scanned) → ◌≡◌ {A = Scan} (Err f) (Ok o) → ⊥
fault-type f o h = let y : ◌≡◌ {A = ℕ} 0 1 = cc in omega arith

pub type-malformed : (room : Option ℕ) (o : Scanned) (p : ℕ) → Ok o ≡ scanned_of room (malformed p) → ⊥
unfolding scanned_of
type-malformed room o p h = fault-type (F.Malformed p) o (sym h)

pub type-deep : (room : Option ℕ) (o : Scanned) (p : ℕ) → Ok o ≡ scanned_of room (deep p) → ⊥
unfolding scanned_of
type-deep room o p h = fault-type (F.Beyond p) o (sym h)

pub type-got : (room : Option ℕ) (t : Ty) (f : ℕ) (o : Scanned) → Ok o ≡ scanned_of room (got t f) → (o.end ≡ f) × (o.depth ≡ min (depth t) 65) × (o.room ≡ spend_of room (length (spell t)))
unfolding scanned_of
type-got room t f o h =
    let e : o ≡ found f (min (depth t) 65) (spend_of room (length (spell t))) = cc in
    (ap (λ (x : Scanned). x.end) e, ap (λ (x : Scanned). x.depth) e, ap (λ (x : Scanned). x.room) e)

closed-ok : (t : Ty) (e : ℕ) (k : Option Token) (q : ℕ) → Ok q ≡ closed_at e k → closing t e k ≡ got t q
unfolding closed_at closing
closed-ok t e (Some (Close p)) q h = let z : q ≡ p = cc in rw z
closed-ok t e (Some (Leaf a p)) q h = absurd (let z : ◌≡◌ {A = ℕ} 0 1 = cc in omega arith)
closed-ok t e (Some (Power p)) q h = absurd (let z : ◌≡◌ {A = ℕ} 0 1 = cc in omega arith)
closed-ok t e (Some (Open p)) q h = absurd (let z : ◌≡◌ {A = ℕ} 0 1 = cc in omega arith)
closed-ok t e (Some (Times p)) q h = absurd (let z : ◌≡◌ {A = ℕ} 0 1 = cc in omega arith)
closed-ok t e None q h = absurd (let z : ◌≡◌ {A = ℕ} 0 1 = cc in omega arith)

closed-err : (room : Option ℕ) (t : Ty) (e : ℕ) (k : Option Token) (f : Fault ℕ) → Err f ≡ closed_at e k → Err f ≡ scanned_of room (closing t e k)
unfolding closed_at closing scanned_of
closed-err room t e (Some (Close p)) f h = absurd (let z : ◌≡◌ {A = ℕ} 0 1 = cc in omega arith)
closed-err room t e (Some (Leaf a p)) f h = let z : f ≡ F.Malformed e = cc in rw z
closed-err room t e (Some (Power p)) f h = let z : f ≡ F.Malformed e = cc in rw z
closed-err room t e (Some (Open p)) f h = let z : f ≡ F.Malformed e = cc in rw z
closed-err room t e (Some (Times p)) f h = let z : f ≡ F.Malformed e = cc in rw z
closed-err room t e None f h = let z : f ≡ F.Malformed e = cc in rw z

first-stop : (room more : Option ℕ) (x : TypeAt) (f : Ty → ℕ → TypeAt) (k : Fault ℕ) → Err k ≡ scanned_of more x → Err k ≡ scanned_of room (and_then x f)
unfolding scanned_of and_then
first-stop room more (malformed p) f k h = h
first-stop room more (deep p) f k h = h
first-stop room more (got t e) f k h = absurd (fault-type k (found e (min (depth t) 65) (spend_of more (length (spell t)))) h)

-- what stands in brackets, and what the brackets make of its type
module _ (room more : Option ℕ) (wrap : Ty → Ty) (lift : ℕ → ℕ) (lifts : (t : Ty) (q : ℕ) → scanned_of room (got (wrap t) q) ≡ Ok (found q (lift (min (depth t) 65)) (spend_of more (length (spell t))))) (tok : ℕ → Option Token) where
  nested-open : (x : TypeAt) (o : Scanned) → Ok o ≡ scanned_of more x → (f : Fault ℕ) → Err f ≡ closed_at o.end (tok o.end) → Err f ≡ scanned_of room (and_then x (λ t e. closing (wrap t) e (tok e)))
  unfolding and_then
  nested-open (malformed p) o h f g = absurd (type-malformed more o p h)
  nested-open (deep p) o h f g = absurd (type-deep more o p h)
  nested-open (got t e) o h f g = let w = type-got more t e o h in closed-err room (wrap t) e (tok e) f (g ∙ ap (λ (n : ℕ). closed_at n (tok n)) w.0)

  nested-done : (x : TypeAt) (o : Scanned) → Ok o ≡ scanned_of more x → (q : ℕ) → Ok q ≡ closed_at o.end (tok o.end) → Ok (found q (lift o.depth) o.room) ≡ scanned_of room (and_then x (λ t e. closing (wrap t) e (tok e)))
  unfolding and_then
  nested-done (malformed p) o h q g = absurd (type-malformed more o p h)
  nested-done (deep p) o h q g = absurd (type-deep more o p h)
  nested-done (got t e) o h q g =
      let w = type-got more t e o h in
      rw (w.1, w.2) (sym (ap (scanned_of room) (closed-ok (wrap t) e (tok e) q (g ∙ ap (λ (n : ℕ). closed_at n (tok n)) w.0)) ∙ lifts t q))

lifts_power : (room more : Option ℕ) → more ≡ spend_of room 1 → (t : Ty) (q : ℕ) → scanned_of room (got (pow t) q) ≡ Ok (found q (deeper_of (min (depth t) 65)) (spend_of more (length (spell t))))
unfolding scanned_of depth spell
lifts_power room more h t q =
    let a : deeper_of (min (depth t) 65) ≡ min (suc (depth t)) 65 = omega arith in
    let z : 1 + length (spell t) ≡ suc (length (spell t)) = omega arith in
    rw (a, h, spend_twice room 1 (length (spell t)), z)

lifts_open : (room : Option ℕ) (t : Ty) (q : ℕ) → scanned_of room (got t q) ≡ Ok (found q (min (depth t) 65) (spend_of room (length (spell t))))
unfolding scanned_of
lifts_open room t q = refl

-- after operands of type t
times-step : (rd : ℕ → TypeAt) (tok : ℕ → Option Token) (n : ℕ) (room : Option ℕ) (t : Ty) (e : ℕ) (x : TypeAt) → ((b : Ty) (f : ℕ) → scan_times_by rd tok n f (min (depth (prod t b)) 65) (spend_of room (length (spell (prod t b)))) ≡ scanned_of room (times_by rd tok n (prod t b) f)) → scan_next (λ f g m. scan_times_by rd tok n f g m) (min (depth t) 65) (scanned_of (spend_of (spend_of room (length (spell t))) 1) x) ≡ scanned_of room (and_then x (λ b f. times_by rd tok n (prod t b) f))
unfolding scan_next scanned_of and_then depth spell
times-step rd tok n room t e (malformed p) ih = refl
times-step rd tok n room t e (deep p) ih = refl
times-step rd tok n room t e (got b f) ih =
    ap (λ (g : ℕ). scan_times_by rd tok n f g (spend_of (spend_of (spend_of room (length (spell t))) 1) (length (spell b)))) d
    ∙ ap (scan_times_by rd tok n f (min (suc (max (depth t) (depth b))) 65)) (spend_twice _ 1 (length (spell b)) ∙ spend_twice room (length (spell t)) (1 + length (spell b)) ∙ ap (spend_of room) w)
    ∙ ih b f
  where
    d : deeper_of (max (min (depth t) 65) (min (depth b) 65)) ≡ min (suc (max (depth t) (depth b))) 65
    d = omega arith

    w : length (spell t) + (1 + length (spell b)) ≡ suc (length (spell t ++ spell b))
    w = omega (arith, length-append (spell t) (spell b))

times-on : (rd : ℕ → TypeAt) (tok : ℕ → Option Token) (room : Option ℕ) (t : Ty) (e : ℕ) (next : ℕ → Scan) (more : ℕ → TypeAt) (k : Option Token) → ((q : ℕ) → next q ≡ scanned_of room (more q)) → scan_on next e (min (depth t) 65) (spend_of room (length (spell t))) k ≡ scanned_of room (times_on more t e k)
unfolding scan_on times_on scanned_of
times-on rd tok room t e next more (Some (Times q)) h = h q
times-on rd tok room t e next more (Some (Close q)) h = refl
times-on rd tok room t e next more (Some (Leaf a q)) h = refl
times-on rd tok room t e next more (Some (Power q)) h = refl
times-on rd tok room t e next more (Some (Open q)) h = refl
times-on rd tok room t e next more None h = refl

scan_times : (rd : ℕ → TypeAt) (tok : ℕ → Option Token) (n : ℕ) (room : Option ℕ) (t : Ty) (e : ℕ) → scan_times_by rd tok n e (min (depth t) 65) (spend_of room (length (spell t))) ≡ scanned_of room (times_by rd tok n t e)
unfolding scan_times_by times_by scanned_of
scan_times rd tok zero room t e = refl
scan_times rd tok (suc n) room t e = times-on rd tok room t e _ _ (tok e) (λ q. times-step rd tok n room t e (rd q) (λ b f. scan_times rd tok n room (prod t b) f))

-- ---- the steps of the first pass

pub operand-deep : (left : ℕ) (ns : List (List ℕ)) (s : List ℕ) (p : ℕ) (room : Option ℕ) → left ≡ 0 → Err (F.Beyond p) ≡ scanned_of room (operand_of left ns s p)
unfolding operand_of scanned_of
operand-deep left ns s p room z = sym (rw z)

operand-suc : (d : ℕ) (ns : List (List ℕ)) (s : List ℕ) (p : ℕ) → operand_of (suc d) ns s p ≡ operand_by (product_of d ns s) (token_at ns s) p (token_at ns s p)
unfolding operand_of product_of
operand-suc d ns s p = refl

module _ (left : ℕ) (ns : List (List ℕ)) (s : List ℕ) (p : ℕ) (z : left ≡ 0 → ⊥) (k : Option Token) (ek : k ≡ token_at ns s p) where
  pub operand_at : operand_of left ns s p ≡ operand_by (product_of (left - 1) ns s) (token_at ns s) p k
  operand_at =
      let e : left ≡ suc (left - 1) = omega (arith, z) in
      ap (λ (n : ℕ). operand_of n ns s p) e ∙ operand-suc (left - 1) ns s p ∙ ap (operand_by (product_of (left - 1) ns s) (token_at ns s) p) (sym ek)

  module _ (room : Option ℕ) where
    pub operand-leaf : (a : Atom) (e w : ℕ) (more : Option ℕ) → k ≡ Some (Leaf a e) → w ≡ length (spell_atom (atom_is a)) → more ≡ spend_of room w → Ok (found e 0 more) ≡ scanned_of room (operand_of left ns s p)
    unfolding operand_by scanned_of depth spell
    operand-leaf a e w more h g m = sym (rw (operand_at, h, ← g, ← m))

    pub operand-none : operand_by (product_of (left - 1) ns s) (token_at ns s) p k ≡ malformed p → Err (F.Malformed p) ≡ scanned_of room (operand_of left ns s p)
    unfolding scanned_of
    operand-none h = sym (rw (operand_at, h))

    module _ (q : ℕ) (h : k ≡ Some (Power q)) (more : Option ℕ) (g : more ≡ spend_of room 1) (m : Scan) (em : m ≡ scanned_of more (product_of (left - 1) ns s q)) where
      power_at : scanned_of room (operand_of left ns s p) ≡ scanned_of room (and_then (product_of (left - 1) ns s q) (λ t e. closing (pow t) e (token_at ns s e)))
      unfolding operand_by
      power_at = ap (scanned_of room) (operand_at ∙ rw h)

      pub power-stop : (f : Fault ℕ) → m ≡ Err f → Err f ≡ scanned_of room (operand_of left ns s p)
      power-stop f e = first-stop room more (product_of (left - 1) ns s q) _ f (sym e ∙ em) ∙ sym power_at

      module _ (o : Scanned) (eo : m ≡ Ok o) (c : Result ℕ (Fault ℕ)) (ec : c ≡ closed_at o.end (token_at ns s o.end)) where
        pub power-open : (f : Fault ℕ) → c ≡ Err f → Err f ≡ scanned_of room (operand_of left ns s p)
        power-open f e = nested-open room more pow deeper_of (lifts_power room more g) (token_at ns s) (product_of (left - 1) ns s q) o (sym eo ∙ em) f (sym e ∙ ec) ∙ sym power_at

        pub power-done : (e d : ℕ) → c ≡ Ok e → d ≡ deeper_of o.depth → Ok (found e d o.room) ≡ scanned_of room (operand_of left ns s p)
        power-done e d h g' = rw g' (nested-done room more pow deeper_of (lifts_power room more g) (token_at ns s) (product_of (left - 1) ns s q) o (sym eo ∙ em) e (sym h ∙ ec) ∙ sym power_at)

    module _ (q : ℕ) (h : k ≡ Some (Open q)) (m : Scan) (em : m ≡ scanned_of room (product_of (left - 1) ns s q)) where
      open_at : scanned_of room (operand_of left ns s p) ≡ scanned_of room (and_then (product_of (left - 1) ns s q) (λ t e. closing t e (token_at ns s e)))
      unfolding operand_by
      open_at = ap (scanned_of room) (operand_at ∙ rw h)

      pub open-stop : (f : Fault ℕ) → m ≡ Err f → Err f ≡ scanned_of room (operand_of left ns s p)
      open-stop f e = first-stop room room (product_of (left - 1) ns s q) _ f (sym e ∙ em) ∙ sym open_at

      module _ (o : Scanned) (eo : m ≡ Ok o) (c : Result ℕ (Fault ℕ)) (ec : c ≡ closed_at o.end (token_at ns s o.end)) where
        pub open-open : (f : Fault ℕ) → c ≡ Err f → Err f ≡ scanned_of room (operand_of left ns s p)
        open-open f e = nested-open room room (λ t. t) (λ d. d) (lifts_open room) (token_at ns s) (product_of (left - 1) ns s q) o (sym eo ∙ em) f (sym e ∙ ec) ∙ sym open_at

        pub open-done : (e : ℕ) → c ≡ Ok e → Ok (found e o.depth o.room) ≡ scanned_of room (operand_of left ns s p)
        open-done e h = nested-done room room (λ t. t) (λ d. d) (lifts_open room) (token_at ns s) (product_of (left - 1) ns s q) o (sym eo ∙ em) e (sym h ∙ ec) ∙ sym open_at

pub product_is : (left : ℕ) (ns : List (List ℕ)) (s : List ℕ) (p : ℕ) → product_of left ns s p ≡ and_then (operand_of left ns s p) (λ t e. times_by (operand_of left ns s) (token_at ns s) (length s) t e)
unfolding product_of product_by
product_is left ns s p = refl

-- so far: what is still to come makes the whole answer
unfoldable pub Scanning : ℕ → List (List ℕ) → List ℕ → Scan → ℕ → ℕ → Option ℕ → Type 0
Scanning left ns s total e d r = (n : ℕ) × (length s ≤ e + n) × (total ≡ scan_times_of left ns s n e d r)

first-go : (rd : ℕ → TypeAt) (tok : ℕ → Option Token) (n : ℕ) (room : Option ℕ) (x : TypeAt) (o : Scanned) → Ok o ≡ scanned_of room x → scan_times_by rd tok n o.end o.depth o.room ≡ scanned_of room (and_then x (λ t f. times_by rd tok n t f))
unfolding and_then
first-go rd tok n room (malformed p) o h = absurd (type-malformed room o p h)
first-go rd tok n room (deep p) o h = absurd (type-deep room o p h)
first-go rd tok n room (got t f) o h =
    let w = type-got room t f o h in
    rw (w.0, w.1, w.2) (scan_times rd tok n room t f)

module _ (left : ℕ) (ns : List (List ℕ)) (s : List ℕ) (p : ℕ) (room : Option ℕ) (m : Scan) (em : m ≡ scanned_of room (operand_of left ns s p)) where
  pub product-stop : (k : Fault ℕ) → m ≡ Err k → Err k ≡ scanned_of room (product_of left ns s p)
  product-stop k h = first-stop room room (operand_of left ns s p) _ k (sym h ∙ em) ∙ sym (ap (scanned_of room) (product_is left ns s p))

  pub product-go : (o : Scanned) → m ≡ Ok o → Scanning left ns s (scanned_of room (product_of left ns s p)) o.end o.depth o.room
  unfolding Scanning scan_times_of
  product-go o h =
      (length s, omega arith, ap (scanned_of room) (product_is left ns s p) ∙ sym (first-go (operand_of left ns s) (token_at ns s) (length s) room (operand_of left ns s p) o (sym h ∙ em)))

times_done : (left : ℕ) (ns : List (List ℕ)) (s : List ℕ) (e d : ℕ) (r : Option ℕ) → scan_times_of left ns s 0 e d r ≡ Ok (found e d r)
unfolding scan_times_of scan_times_by
times_done left ns s e d r = refl

scan_suc : (left : ℕ) (ns : List (List ℕ)) (s : List ℕ) (n e d : ℕ) (r : Option ℕ) → scan_times_of left ns s (suc n) e d r ≡ scan_on (λ q. scan_next (λ f g m. scan_times_of left ns s n f g m) d (scanned_of (spend_of r 1) (operand_of left ns s q))) e d r (token_at ns s e)
unfolding scan_times_of scan_times_by
scan_suc left ns s n e d r = refl

module _ (left : ℕ) (ns : List (List ℕ)) (s : List ℕ) (total : Scan) (e d : ℕ) (r : Option ℕ) (k : Option Token) (ek : k ≡ token_at ns s e) where
  times_at : (n : ℕ) → total ≡ scan_times_of left ns s (suc n) e d r → total ≡ scan_on (λ q. scan_next (λ f g m. scan_times_of left ns s n f g m) d (scanned_of (spend_of r 1) (operand_of left ns s q))) e d r k
  times_at n h = h ∙ scan_suc left ns s n e d r ∙ ap (scan_on _ e d r) (sym ek)

  pub times-other : Scanning left ns s total e d r → ((next : ℕ → Scan) → scan_on next e d r k ≡ Ok (found e d r)) → Ok (found e d r) ≡ total
  unfolding Scanning
  times-other G h = go G.0 G.2
    where
      go : (n : ℕ) → total ≡ scan_times_of left ns s n e d r → Ok (found e d r) ≡ total
      go zero g = sym (g ∙ times_done left ns s e d r)
      go (suc n) g = sym (times_at n g ∙ h _)

  module _ (q : ℕ) (h : k ≡ Some (Times q)) (G : Scanning left ns s total e d r) (more : Option ℕ) (em : more ≡ spend_of r 1) (m : Scan) (es : m ≡ scanned_of more (operand_of left ns s q)) where
    inside : (e < q) × (q ≤ length s)
    inside = times_moves ns s e q (sym ek ∙ h)

    next : (n : ℕ) × (length s ≤ e + suc n) × (total ≡ scan_next (λ f g l. scan_times_of left ns s n f g l) d m)
    unfolding Scanning scan_on
    next = go G.0 G.1 G.2
      where
        go : (n : ℕ) → length s ≤ e + n → total ≡ scan_times_of left ns s n e d r → (n : ℕ) × (length s ≤ e + suc n) × (total ≡ scan_next (λ f g l. scan_times_of left ns s n f g l) d m)
        go zero a g = absurd (omega (arith, inside))
        go (suc n) a g = (n, a, times_at n g ∙ rw (h, ← em, ← es))

    pub times-stop : (j : Fault ℕ) → m ≡ Err j → Err j ≡ total
    unfolding scan_next
    times-stop j g = sym (next.2 ∙ ap (scan_next (λ f g l. scan_times_of left ns s next.0 f g l) d) g)

    module _ (o : Scanned) (a : m ≡ Ok o) where
      pub times-further : e < o.end
      times-further = go (operand_of left ns s q) refl (sym a ∙ es)
        where
          go : (x : TypeAt) → operand_of left ns s q ≡ x → Ok o ≡ scanned_of more x → e < o.end
          go (malformed p) i j = absurd (type-malformed more o p j)
          go (deep p) i j = absurd (type-deep more o p j)
          go (got t f) i j = let w = type-got more t f o j in omega (arith, w.0, inside, operand_moves left ns s q t f i)

      pub times-within : length s - o.end < length s - e
      times-within = omega (arith, times-further, inside)

      pub times-go : (l g : ℕ) → l ≡ max d o.depth → g ≡ deeper_of l → Scanning left ns s total o.end g o.room
      unfolding Scanning scan_next
      times-go l g b c = (next.0, omega (arith, next.1, times-further), next.2 ∙ ap (scan_next (λ f g l. scan_times_of left ns s next.0 f g l) d) a ∙ ap (λ (x : ℕ). scan_times_of left ns s next.0 o.end x o.room) (sym (c ∙ ap deeper_of b)))
