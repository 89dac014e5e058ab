-- What a walk that stopped comes to.
use Rattle.std.specs.Prelude.{ℕ, ◌≡◌, refl, Err}
use Rattle.forms.specs.Forms.{test}
use Rattle.machine.specs.declared.Machine.{Machine}
use Rattle.machine.specs.declared.Stop.{Stop}
use Rattle.machine.specs.declared.Stop.TheVariants.{Full, Spent, Broken}
use Rattle.machine.specs.Seen.{stop_number, stopped_at}
use Rattle.runner.specs.declared.Verdict.{Verdict}
use Rattle.runner.specs.Run.{verdict_of, refused_by, judged, judge_of}

pub verdict_stops : (v : Verdict) (budget : ℕ) (e : Stop) (m : Machine) → verdict_of v budget (stopped_at (stop_number e) m).st ≡ Err (refused_by e)
unfolding verdict_of test
verdict_stops v budget Full m = refl
verdict_stops v budget Spent m = refl
verdict_stops v budget Broken m = refl

pub judge_stops : (budget : ℕ) (e : Stop) (m : Machine) → judge_of budget (stopped_at (stop_number e) m) ≡ judged (Err (refused_by e)) m.output.now
unfolding judge_of verdict_of test
judge_stops budget Full m = refl
judge_stops budget Spent m = refl
judge_stops budget Broken m = refl
