use Rattle.std.proofs.Common.{sym}
use Rattle.ae_vtoken.proofs.Fronts.{many_ahead}
use Rattle.ae_vtoken.proofs.cursor.Tokens.len.Goals as goal

pub returns : goal.returns
returns c = sym (many_ahead c.args.self)
