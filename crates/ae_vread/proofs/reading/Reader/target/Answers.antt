use Rattle.std.proofs.Common.{sym, ap}
use Rattle.ae_vtoken.specs.Ahead.{ahead}
use Rattle.ae_vmodule.specs.ModuleTree as m
use Rattle.ae_vmodule.specs.Numbered as n
use Rattle.ae_vmodule.specs.Held.{held}
use Rattle.ae_vread.proofs.Meanings.{extends_same, named_later}
use Rattle.ae_vread.proofs.StmtSteps.{target_set, reads_from, reads_under}
use Rattle.ae_vread.proofs.reading.Reader.target.Goals as goal

pub returns-clause-read : goal.returns-clause-read
returns-clause-read c name word =
    let none = c.mark.ensures in
    let x = c.in_ok-depth.ensures.read in
    let to_x = extends_same _ _ _ x.3 (sym none.words) in
    reads_from _ _ _ c.set.new.self c.set.result _ _
    (target_set name (ahead c.args.self.now.tokens) _ x.0 (none.none c.if-mark.false) (sym (ap ahead (none.tokens c.if-mark.false))) x.1)
    to_x (reads_under _ _ _ c.set.new.self c.set.result _ (ap held none.stack) (c.set.ensures.read name x.0 _ (named_later _ _ c.args.name name word to_x) x.2))
