use Rattle.write.proofs.+lay.Given as goal

abbrev pub decreases-lay : goal.decreases-lay
decreases-lay l = l.left.now
