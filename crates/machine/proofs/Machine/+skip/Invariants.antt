use Rattle.machine.proofs.Machine.+skip.Given as goal

abbrev pub decreases-skip : goal.decreases-skip
decreases-skip l = l.left
