use Rattle.table_values.proofs.reader.Reader.+atom.Given as goal

abbrev pub decreases-atom : goal.decreases-atom
decreases-atom l = l.levels
