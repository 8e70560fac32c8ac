use Rattle.ae_clocked.proofs.Connecting.{connects}
use Rattle.ae_clocked.proofs.registers.close.Goals as goal

pub returns : goal.returns
returns c = connects _ c.connect.new.self c.args.r c.args.next _ c.requires.register c.connect.ensures
