use Rattle.machine.proofs.Machine.+note_spelled_givens.Given as goal

abbrev pub decreases-note_spelled_givens : goal.decreases-note_spelled_givens
decreases-note_spelled_givens l = l.left
