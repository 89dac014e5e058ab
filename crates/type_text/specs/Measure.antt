-- What measuring finds: a type's text is counted operand by operand, without being written.
use Rattle.std.specs.Prelude.{ℕ, ◌+◌, ◌≡◌, refl, length, drop, Option, Ok, Err, Result, Some, None}
use Rattle.std.proofs.Common.{arith, ap, ◌∙◌, length-append}
use Rattle.std.proofs.Math.Path.{sym}
use mathlib.Core.List.{List, [], ◌++◌}
use Rattle.std.proofs.Math.ListN.{get_or-eq_default}
use Rattle.types.specs.Ty.{Ty, base, pow, prod}
use Rattle.types.specs.Ty as T
use Rattle.std.specs.Option.{ok_or}
use Rattle.types.specs.Record.{TypeAt, got, malformed, deep, and_then, head_of, type_at}
use Rattle.types.specs.Code.{atom_is, head_is}
use Rattle.types.specs.Steps.{type-wrong}
use Rattle.types.specs.declared.Head.{Head}
use Rattle.types.specs.declared.Atom.{Atom}
use Rattle.types.specs.declared.Atom.TheVariants as A
use denote.Ref.{Bor}
use Rattle.types.specs.declared.Name.{Name}
use Rattle.name_table.specs.Table.{boolean, names, Named}
use Rattle.type_grammar.specs.Text.{integer, power_open, bracket_open, bracket_close, times, text_atom, bracketed, text}
use Rattle.types.specs.declared.Fault.{Fault}
use Rattle.types.specs.declared.Fault.TheVariants as F
use Rattle.type_text.specs.declared.writer.Measured.{Measured}
use Rattle.type_text.specs.declared.writer.Side.{Side}
use Rattle.type_text.specs.declared.writer.Side.TheVariants.{Right, Plain}
use Rattle.type_text.specs.Page.{spend_of, spend_twice}

-- the text of a type as a right operand, or as any other
unfoldable pub text_in : List (List ℕ) → Side → Ty → List ℕ
text_in ns Right t = bracketed t (text ns t)
text_in ns Plain t = text ns t

-- the bytes of a product's text that are neither operand's
abbrev pub signs_of : Side → ℕ
signs_of Right = 4
signs_of Plain = 2

abbrev pub Measure : Type 0
Measure = Result Measured (Fault ℕ)

abbrev pub measured_at : ℕ → Option ℕ → Measured
measured_at e r = record { end = e; room = r }

-- of a record: where it ends and the room that its text leaves
unfoldable pub measured_of : List (List ℕ) → Side → Option ℕ → TypeAt → Measure
measured_of ns side room (got t e) = Ok (measured_at e (spend_of room (length (text_in ns side t))))
measured_of ns side room (malformed p) = Err (F.Malformed p)
measured_of ns side room (deep p) = Err (F.Beyond p)

-- ---- atoms

module _ (t : List ℕ) (a : Atom) (n : Name) (ea : a ≡ A.Given n) (q : Option (Bor (List ℕ))) (l : Named t n.0 q) where
  pub text-missing : q ≡ None → text_atom (names t) (atom_is a) ≡ []
  unfolding text_atom atom_is Named
  text-missing e =
      let l' : Named t n.0 None = rw e at l in
      rw ea (get_or-eq_default (names t) [] l')

  pub text-given : (w : Bor (List ℕ)) → q ≡ Some w → w.now ≡ text_atom (names t) (atom_is a)
  unfolding text_atom atom_is Named
  text-given w e = let l' : Named t n.0 (Some w) = rw e at l in l'.1 ∙ sym (rw ea)

module _ (ns : List (List ℕ)) (a : Atom) where
  pub text-bool : a ≡ A.Bool → boolean ≡ text_atom ns (atom_is a)
  unfolding text_atom atom_is
  text-bool e = sym (rw e)

  pub text-integer : a ≡ A.Integer → integer ≡ text_atom ns (atom_is a)
  unfolding text_atom atom_is
  text-integer e = sym (rw e)

-- ---- measuring

pub text_in-atom : (ns : List (List ℕ)) (side : Side) (a : T.Atom) → text_in ns side (base a) ≡ text_atom ns a
unfolding text_in text bracketed
text_in-atom ns Right a = refl
text_in-atom ns Plain a = refl

pub text_in-power : (ns : List (List ℕ)) (side : Side) (t : Ty) → text_in ns side (pow t) ≡ power_open ++ (text ns t ++ bracket_close)
unfolding text_in text bracketed
text_in-power ns Right t = refl
text_in-power ns Plain t = refl

pub text_in-right : (ns : List (List ℕ)) (a b : Ty) → text_in ns Right (prod a b) ≡ bracket_open ++ (text ns (prod a b) ++ bracket_close)
unfolding text_in text bracketed
text_in-right ns a b = refl

pub text_in-product : (ns : List (List ℕ)) (a b : Ty) → text_in ns Plain (prod a b) ≡ text ns a ++ (times ++ text_in ns Right b)
unfolding text_in text
text_in-product ns a b = refl

pub in_plain : (ns : List (List ℕ)) (t : Ty) → text ns t ≡ text_in ns Plain t
unfolding text_in
in_plain ns t = refl

width_product : (ns : List (List ℕ)) (side : Side) (a b : Ty) → length (text_in ns side (prod a b)) ≡ signs_of side + (length (text ns a) + length (text_in ns Right b))
width_product ns Right a b =
    ap length (text_in-right ns a b)
    ∙ omega (arith, length-append (text ns (prod a b)) bracket_close, ap length (text_in_product' a b), length-append (text ns a) (times ++ text_in ns Right b))
  where
    text_in_product' : (a b : Ty) → text ns (prod a b) ≡ text ns a ++ (times ++ text_in ns Right b)
    text_in_product' a b = in_plain ns (prod a b) ∙ text_in-product ns a b
width_product ns Plain a b = ap length (text_in-product ns a b) ∙ omega (arith, length-append (text ns a) (times ++ text_in ns Right b))

module _ (ns : List (List ℕ)) (side : Side) (room : Option ℕ) (m : Measure) where
  pub measured_as : (x y : TypeAt) → x ≡ y → m ≡ measured_of ns side room y → m ≡ measured_of ns side room x
  measured_as x y e h = h ∙ ap (measured_of ns side room) (sym e)

pub measured_missing : (ns : List (List ℕ)) (side : Side) (room : Option ℕ) (left count : ℕ) (r : List ℕ) (p : ℕ) (h : Option Head) → head_is h ≡ head_of count p (drop p r) → (f : Fault ℕ) → ok_or h (F.Malformed p) ≡ Err f → Err f ≡ measured_of ns side room (type_at left count r p)
unfolding measured_of
measured_missing ns side room left count r p None e f g =
    let z : F.Malformed p ≡ f = cc in
    rw (type-wrong left count r p None e refl, z)
measured_missing ns side room left count r p (Some k) e f g = absurd (let z : ◌≡◌ {A = ℕ} 0 1 = cc in omega arith)

pub measured_deep : (ns : List (List ℕ)) (side : Side) (room : Option ℕ) (p : ℕ) → Err (F.Beyond p) ≡ measured_of ns side room (deep p)
unfolding measured_of
measured_deep ns side room p = refl

pub measured_atom : (ns : List (List ℕ)) (side : Side) (room : Option ℕ) (a : Atom) (e w : ℕ) (more : Option ℕ) → w ≡ length (text_atom ns (atom_is a)) → more ≡ spend_of room w → Ok (measured_at e more) ≡ measured_of ns side room (got (base (atom_is a)) e)
unfolding measured_of
measured_atom ns side room a e w more h g = ap (λ (z : Option ℕ). Ok (measured_at e z)) (g ∙ ap (spend_of room) (h ∙ ap length (sym (text_in-atom ns side (atom_is a)))))

pub measured_power : (ns : List (List ℕ)) (side : Side) (room more : Option ℕ) (m : Measure) (x : TypeAt) → more ≡ spend_of room 5 → m ≡ measured_of ns Plain more x → m ≡ measured_of ns side room (and_then x (λ t f. got (pow t) f))
unfolding measured_of and_then
measured_power ns side room more m (malformed p) h g = g
measured_power ns side room more m (deep p) h g = g
measured_power ns side room more m (got t f) h g =
    g ∙ ap (λ (z : Option ℕ). Ok (measured_at f z)) (ap (λ (z : Option ℕ). spend_of z (length (text_in ns Plain t))) h ∙ spend_twice room 5 (length (text_in ns Plain t)) ∙ ap (spend_of room) w)
  where
    w : 5 + length (text_in ns Plain t) ≡ length (text_in ns side (pow t))
    w = omega (arith, ap length (text_in-power ns side t), ap length (in_plain ns t), length-append (text ns t) bracket_close)

left-stop : (ns : List (List ℕ)) (side : Side) (room more : Option ℕ) (x : TypeAt) (y : ℕ → TypeAt) (f : Fault ℕ) → Err f ≡ measured_of ns Plain more x → Err f ≡ measured_of ns side room (and_then x (λ a f. and_then (y f) (λ b e. got (prod a b) e)))
unfolding measured_of and_then
left-stop ns side room more (malformed q) y k e = e
left-stop ns side room more (deep q) y k e = e
left-stop ns side room more (got t f) y k e = absurd (let z : ◌≡◌ {A = ℕ} 0 1 = cc in omega arith)

right_end : (ns : List (List ℕ)) (side : Side) (room more rest : Option ℕ) (a : Ty) (x : TypeAt) (n : ℕ) (l : Measure) → n ≡ signs_of side → more ≡ spend_of room n → rest ≡ spend_of more (length (text_in ns Plain a)) → l ≡ measured_of ns Right rest x → l ≡ measured_of ns side room (and_then x (λ b e. got (prod a b) e))
unfolding measured_of and_then
right_end ns side room more rest a (malformed p) n l en h g e = e
right_end ns side room more rest a (deep p) n l en h g e = e
right_end ns side room more rest a (got b f) n l en h g e =
    e ∙ ap (λ (z : Option ℕ). Ok (measured_at f z)) (ap (λ (z : Option ℕ). spend_of z (length (text_in ns Right b))) (g ∙ ap (λ (z : Option ℕ). spend_of z (length (text_in ns Plain a))) h ∙ spend_twice room n _) ∙ spend_twice room _ _ ∙ ap (spend_of room) w)
  where
    w : n + length (text_in ns Plain a) + length (text_in ns Right b) ≡ length (text_in ns side (prod a b))
    w = omega (arith, en, width_product ns side a b, ap length (in_plain ns a))

right_measured : (ns : List (List ℕ)) (side : Side) (room more : Option ℕ) (x : TypeAt) (y : ℕ → TypeAt) (n : ℕ) → n ≡ signs_of side → more ≡ spend_of room n → (o : Measured) (l : Measure) → Ok o ≡ measured_of ns Plain more x → l ≡ measured_of ns Right o.room (y o.end) → l ≡ measured_of ns side room (and_then x (λ a f. and_then (y f) (λ b e. got (prod a b) e)))
unfolding measured_of and_then
right_measured ns side room more (malformed q) y n en h o l e k = absurd (let z : ◌≡◌ {A = ℕ} 0 1 = cc in omega arith)
right_measured ns side room more (deep q) y n en h o l e k = absurd (let z : ◌≡◌ {A = ℕ} 0 1 = cc in omega arith)
right_measured ns side room more (got a f) y n en h o l e k =
    let is : o ≡ measured_at f (spend_of more (length (text_in ns Plain a))) = cc in
    right_end ns side room more o.room a (y f) n l en h (ap (λ (x : Measured). x.room) is) (k ∙ ap (λ (x : Measured). measured_of ns Right o.room (y x.end)) is)

module _ (ns : List (List ℕ)) (side : Side) (room more : Option ℕ) (m : Measure) (x : TypeAt) (n : ℕ) (en : n ≡ signs_of side) (h : more ≡ spend_of room n) (g : m ≡ measured_of ns Plain more x) (y : ℕ → TypeAt) where
  pub measured_left-stop : (k : Fault ℕ) → m ≡ Err k → Err k ≡ measured_of ns side room (and_then x (λ a f. and_then (y f) (λ b e. got (prod a b) e)))
  measured_left-stop k e = left-stop ns side room more x y k (sym e ∙ g)

  pub measured_product : (o : Measured) (l : Measure) → m ≡ Ok o → l ≡ measured_of ns Right o.room (y o.end) → l ≡ measured_of ns side room (and_then x (λ a f. and_then (y f) (λ b e. got (prod a b) e)))
  measured_product o l e k = right_measured ns side room more x y n en h o l (sym e ∙ g) k
