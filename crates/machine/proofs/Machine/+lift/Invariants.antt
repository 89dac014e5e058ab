use Rattle.machine.proofs.Machine.+lift.Given as goal

abbrev pub decreases-lift : goal.decreases-lift
decreases-lift l = l.left
