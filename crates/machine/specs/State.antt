-- What the walk carries. `stop` is 0 while it goes on, else the number it stops with: 6, 7, or 2 for what cannot happen once the form is tested.
use Rattle.std.specs.Prelude.{ℕ, Bool}
use Rattle.types.specs.declared.NodeRef.{NodeRef}
use Rattle.types.specs.declared.Place.{Place}

pub record State : Type 0 where
  pub at : Place
  pub from : Place
  pub last : NodeRef
  pub nodes : ℕ
  pub budget : ℕ
  pub slots : ℕ
  pub met : ℕ
  pub bound : ℕ
  pub bytes : ℕ
  pub over : Bool
  pub stop : ℕ
