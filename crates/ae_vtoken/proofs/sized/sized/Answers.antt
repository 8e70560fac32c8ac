use Rattle.std.proofs.Common.{subst, sym}
use Rattle.ae_vtoken.specs.Scan.{TokenAt}
use Rattle.ae_vtoken.proofs.SizedLemmas.{sized_by}
use Rattle.ae_vtoken.proofs.sized.sized.Goals as goal

pub returns : goal.returns
returns c =
    let end = c.based_end-end.ensures in
    let here = sized_by c.args.text.now c.args.from c.args.quote c.based_end-end.result c.base_of-base.result c.base_of-base.ensures c.requires.sized
    c.requires.first c.requires.digits end.within.0 end.within.1 end.all end.ends in
    subst (TokenAt c.args.text.now c.args.from c.based_end-end.result) (sym (c.constant.ensures _ _ c.capped-size.ensures c.based_value-value.ensures)) here
