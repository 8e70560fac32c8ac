use Rattle.table_values.proofs.reader.Reader.+layout.Given as goal

abbrev pub decreases-layout : goal.decreases-layout
decreases-layout l = l.levels
