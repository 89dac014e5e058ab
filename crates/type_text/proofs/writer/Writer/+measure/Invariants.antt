use Rattle.type_text.proofs.writer.Writer.+measure.Given as goal

abbrev pub decreases-measure : goal.decreases-measure
decreases-measure l = l.left
