use Rattle.table_values.proofs.reader.Reader.+sequence.Given as goal

abbrev pub decreases-sequence : goal.decreases-sequence
decreases-sequence l = l.levels
