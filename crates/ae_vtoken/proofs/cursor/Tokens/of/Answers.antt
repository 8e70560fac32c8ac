use Rattle.ae_vtoken.specs.Ahead.{ahead}
use Rattle.ae_vtoken.proofs.Exact.{gives_tokens, gives_place}
use Rattle.ae_vtoken.proofs.cursor.Tokens.of.Goals as goal

pub returns-clause-every_list : goal.returns-clause-every_list
returns-clause-every_list c ts are = gives_tokens ahead c.args.text.now ts c.start.result c.start.ensures.tokens c.start.ensures.fault are

pub returns-clause-every_place : goal.returns-clause-every_place
returns-clause-every_place c at bad = gives_place ahead c.args.text.now at c.start.result c.start.ensures.tokens c.start.ensures.fault bad
