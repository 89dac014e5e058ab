-- The number and the place that each answer of the two tests stands for.
use Rattle.std.specs.Prelude.{ℕ, Ok, Err}
use Rattle.types.specs.declared.Fault.TheVariants.{Malformed, Beyond}
use Rattle.formula.specs.Parse.{Form}
use Rattle.formula.specs.declared.FormError.TheVariants.{TooLong, At}

-- malformed: 3 for an environment, 4 for a formula
unfoldable pub number_of : ℕ → Form → ℕ
number_of malformed (Ok tt) = 0
number_of malformed (Err TooLong) = 2
number_of malformed (Err (At (Malformed p))) = malformed
number_of malformed (Err (At (Beyond p))) = 5

unfoldable pub formula_number : Form → ℕ
unfolding number_of
formula_number f = number_of 4 f

unfoldable pub environment_number : Form → ℕ
unfolding number_of
environment_number f = number_of 3 f

unfoldable pub place_of : Form → ℕ
place_of (Ok tt) = 0
place_of (Err TooLong) = 0
place_of (Err (At (Malformed p))) = p.0
place_of (Err (At (Beyond p))) = p.0
