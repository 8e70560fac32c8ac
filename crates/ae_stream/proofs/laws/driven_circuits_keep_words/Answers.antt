use Rattle.ae_stream.proofs.Staying.{keeps}
use Rattle.ae_stream.proofs.laws.driven_circuits_keep_words.Goals as goal

pub returns : goal.returns
returns c x g row ends run start slowdown q r inputs outputs h shown = keeps x ends run start h.any h.queue shown
