use Rattle.std.proofs.Common.{refl, subst}
use Rattle.ae_tool.specs.Commands.{word_bytes, IsCommand}
use Rattle.ae_tool.specs.Answers.{Made}
use Rattle.ae_tool.proofs.serve.serve.Goals as goal

-- a demo takes nothing
pub returns-in-Some-demo_size : goal.returns-in-Some-demo_size
returns-in-Some-demo_size g c =
    Made c.in-Some-demo_size.size (subst (IsCommand (word_bytes c.args.words.now)) c.in-Some-demo_size.ensures c.in-Some.ensures) refl c.make.ensures

pub returns-in-None-demo_size : goal.returns-in-None-demo_size
returns-in-None-demo_size g c = c.read_and_reply.ensures (word_bytes c.args.words.now) c.in-Some.ensures
