-- All registers and memories are held.
use Rattle.ae_stall.proofs.Whole.{are_whole, is_held}
use Rattle.ae_stall.proofs.hold.hold_copy.Goals as goal

pub returns-clause-held : goal.returns-clause-held
returns-clause-held c =
    is_held c.args.how.more c.args.how.by.0 c.args.nl.now c.args.new.now c.hold_all.new.new c.formed.ensures.cells c.in_ok-hold_all.ensures.held
    c.in_ok-hold_all.ensures.outlets

pub returns-clause-whole : goal.returns-clause-whole
returns-clause-whole c =
    are_whole c.args.how.more c.args.how.by.0 c.args.nl.now.cells c.args.new.now.cells c.hold_all.new.new.cells c.in_ok-hold_all.ensures.held
    c.formed.ensures.cells
