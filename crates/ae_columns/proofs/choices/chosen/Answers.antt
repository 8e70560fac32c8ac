use Rattle.ae_clocked.proofs.Belonging.{belongs_grows, keeps_same}
use Rattle.ae_columns.proofs.choices.chosen.Goals as goal

pub returns-clause-belongs : goal.returns-clause-belongs
returns-clause-belongs c = belongs_grows _ _ _ c.in_ok-y.ensures.adds.grows c.requires.belongs

pub returns-clause-keeps : goal.returns-clause-keeps
returns-clause-keeps c = keeps_same _
