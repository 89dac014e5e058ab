-- What `check_environment` answers: the form of the stream, and the table of places.
-- The table of a stream that is no environment is empty: 256 zeros.
use Rattle.std.specs.Prelude.{ℕ, ◌≡◌, List, replicate, Result, Ok, Err}
use Rattle.std.proofs.Common.{refl}
use Rattle.formula.specs.declared.FormError.{FormError}
use Rattle.formula.specs.declared.FormError.TheVariants.{TooLong, At}
use Rattle.formula.specs.declared.Environment.{Environment}
use Rattle.formula.specs.Environment.{Entries}
use Rattle.formula.specs.Parse.{Form, Parsed, parsed, too_long, faulty}
use Rattle.formula.specs.EnvParse.{places_from}
use Rattle.types.specs.Limits.{max_names}

abbrev pub empty : List ℕ
empty = replicate max_names 0

unfoldable pub blank : Form → Environment
blank form = record { form = form; types = empty }

unfoldable pub answer_of : Parsed Entries → Environment
answer_of (parsed es) = record { form = Ok tt; types = places_from 0 es empty }
answer_of too_long = blank (Err TooLong)
answer_of (faulty f) = blank (Err (At f))

-- the table alone, or why there is none
unfoldable pub told_of : Parsed Entries → Result (List ℕ) FormError
told_of (parsed es) = Ok (places_from 0 es empty)
told_of too_long = Err TooLong
told_of (faulty f) = Err (At f)

unfoldable pub answer_by : Result (List ℕ) FormError → Environment
answer_by (Ok cells) = record { form = Ok tt; types = cells }
answer_by (Err e) = blank (Err e)

pub answer_told : (x : Parsed Entries) → answer_of x ≡ answer_by (told_of x)
unfolding answer_of told_of answer_by
answer_told (parsed es) = refl
answer_told too_long = refl
answer_told (faulty f) = refl
