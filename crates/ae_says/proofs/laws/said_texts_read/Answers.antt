use Rattle.ae_says.proofs.laws.said_texts_read.Goals as goal
use Rattle.ae_says.proofs.Back.{back}

pub returns : goal.returns
returns c = back
