-- What the writer makes of the node that it reached, and of a half that was not written.
use Rattle.std.proofs.Common.{Ok, ℕ, Err, ◌≡◌, ◌+◌, ◌%◌, ◌/◌, ◌<◌, ◌≤◌, length, set, sym, ap, ◌∙◌, refl, arith}
use Rattle.meter.specs.Meter.{Out, halt, done, broken, full}
use Rattle.types.specs.declared.Atom.{Atom}
use Rattle.types.specs.declared.Atom.TheVariants.{Bool, Integer, Given}
use Rattle.types.specs.declared.Name.{Name}
use Rattle.types.specs.declared.Node.{Node}
use Rattle.types.specs.declared.Node.TheVariants.{Unknown, Leaf, Power, Product}
use Rattle.types.specs.declared.NodeRef.{NodeRef}
use Rattle.types.specs.Code.{atom_is}
use Rattle.unification.specs.Arena as A
use Rattle.unification.specs.Arena.{Words, U}
use Rattle.unification.specs.Nodes.{node_is}
use Rattle.unification.specs.Tasks.{reach}
use Rattle.unification.specs.Put.{Page, put, put-spent, put_broken, put-bool, put-int, put-given, put-given_full, put-power, put_right, put-left-spent, put-left-halt, put_other}
use Rattle.unifier.specs.declared.Halt.{Halt}
use Rattle.unifier.specs.declared.Halt.TheVariants as H
use Rattle.unifier.specs.declared.Reached.{Reached}
use Rattle.unifier.specs.Answers.{stem_is, arrived}
use Rattle.write.specs.declared.WriteError.{WriteError}
use Rattle.write.specs.declared.WriteError.TheVariants.{Full, Spent, Broken}
use Rattle.write.specs.Answers.{error_of, laid}

pub seen : (r : Reached) (x : Node) (o : Out U (ℕ × A.Node)) → node_is x ≡ A.decode r.node.kind r.node.a r.node.b → arrived (Ok r) ≡ o → done (r.at.0, node_is x) r.left ≡ o
unfolding arrived stem_is
seen r x o h e = ap (λ (y : A.Node). done (r.at.0, y) r.left) h ∙ e

module _ (ws : Words) (n : ℕ) (p : Page) (at t b m : ℕ) (l : at < length p) where
  pub put-halted : (h : Halt) → arrived (Err h) ≡ reach ws n t b → laid (Err (error_of h)) m p ≡ put ws n (p, at, t) b
  unfolding arrived
  put-halted H.Spent e = sym (put-spent ws n p at t b l (sym e))
  put-halted H.Broken e = sym (put_broken ws n p at t b l (sym e))

  module _ (r : ℕ) (nd : Node) (e : done (r, node_is nd) m ≡ reach ws n t b) where
    reached : (x : Node) → nd ≡ x → reach ws n t b ≡ done (r, node_is x) m
    reached x q = sym e ∙ ap (λ (y : Node). done (r, node_is y) m) q

    pub put_unknown : nd ≡ Unknown → halt broken p ≡ put ws n (p, at, t) b
    put_unknown q = sym (put_other ws n p at t b l r m 0x4E 0 0 (reached Unknown q) (omega arith) (omega arith) (omega arith) (omega arith) (omega arith))

    module _ (a : Atom) (q : nd ≡ Leaf a) where
      pub put_boolean : a ≡ Bool → done (at + 1, set p at 0x40) m ≡ put ws n (p, at, t) b
      unfolding atom_is
      put_boolean f = sym (put-bool ws n p at t b l r m 0x40 0 0 (reached (Leaf Bool) (q ∙ ap Leaf f)) refl)

      pub put_integer : a ≡ Integer → done (at + 1, set p at 0x41) m ≡ put ws n (p, at, t) b
      unfolding atom_is
      put_integer f = sym (put-int ws n p at t b l r m 0x41 0 0 (reached (Leaf Integer) (q ∙ ap Leaf f)) refl)

      module _ (x : Name) (f : a ≡ Given x) where
        pub put_named : at + 3 ≤ length p → done (at + 3, set (set (set p at 0x42) (at + 1) (x.0 % 256)) (at + 2) (x.0 / 256 % 256)) m ≡ put ws n (p, at, t) b
        unfolding atom_is
        put_named h = sym (put-given ws n p at t b l r m 0x42 x.0 0 (reached (Leaf (Given x)) (q ∙ ap Leaf f)) refl h)

        pub put-named_full : length p < at + 3 → halt full p ≡ put ws n (p, at, t) b
        unfolding atom_is
        put-named_full h = sym (put-given_full ws n p at t b l r m 0x42 x.0 0 (reached (Leaf (Given x)) (q ∙ ap Leaf f)) refl h)

    pub put_power : (x : NodeRef) → nd ≡ Power x → put ws n (set p at 0x43, at + 1, x.0) m ≡ put ws n (p, at, t) b
    put_power x q = sym (put-power ws n p at t b l r m 0x43 x.0 0 (reached (Power x) q) refl)

    module _ (x y : NodeRef) (q : nd ≡ Product x y) where
      pub put_product : (i k : ℕ) (page : Page) → done (i, page) k ≡ put ws n (set p at 0x44, at + 1, x.0) m → put ws n (page, i, y.0) k ≡ put ws n (p, at, t) b
      put_product i k page f = sym (put_right ws n p at t b l r m 0x44 x.0 y.0 (reached (Product x y) q) refl i k page (sym f))

      pub put-left-error : (w : WriteError) (k : ℕ) (page : Page) → laid (Err w) k page ≡ put ws n (set p at 0x44, at + 1, x.0) m → laid (Err w) k page ≡ put ws n (p, at, t) b
      put-left-error Full k page f = sym (put-left-halt ws n p at t b l r m 0x44 x.0 y.0 (reached (Product x y) q) refl full page (sym f))
      put-left-error Spent k page f = sym (put-left-spent ws n p at t b l r m 0x44 x.0 y.0 (reached (Product x y) q) refl page (sym f))
      put-left-error Broken k page f = sym (put-left-halt ws n p at t b l r m 0x44 x.0 y.0 (reached (Product x y) q) refl broken page (sym f))
