use Rattle.std.proofs.Common.{arith}
use Rattle.std.proofs.lemmas.Grind.{common_steps}
use Rattle.ae_parse.specs.StateView.{known_of}
use Rattle.ae_parse.proofs.parser.node_named.Goals as goal

pub returns : goal.returns
returns c = grind (arith, common_steps, c.node_with.ensures (known_of c.args.known.now))
