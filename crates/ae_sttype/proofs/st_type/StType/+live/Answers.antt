use Rattle.std.proofs.Common.{ap, ◌/◌, ◌<◌, ◌≤◌, arith}
use Rattle.std.proofs.lemmas.Bool.Decides.{nat_tests}
use Rattle.ae_sttype.specs.StTree.{st_tree}
use Rattle.ae_sttype.proofs.Lively.{live_atom, live_then, live_else, live_across}
use Rattle.ae_sttype.proofs.st_type.StType.+live.Goals as goal

pub returns-in-Atom : goal.returns-in-Atom
returns-in-Atom t c = live_atom _ _ _ (ap st_tree c.in-Atom.is)

pub returns-then-is_valid_slot : goal.returns-then-is_valid_slot
returns-then-is_valid_slot t c =
    let valid : c.args.clock / c.time-time.result < c.in-T.n = grind (arith, nat_tests) in
    live_then _ (st_tree c.deref-of.result.now) c.in-T.n c.in-T.i c.time-time.result c.args.clock _
    (cc (ap st_tree c.in-T.is)) c.time-time.ensures c.requires.lengths valid c.live.ensures

pub returns-else-is_valid_slot : goal.returns-else-is_valid_slot
returns-else-is_valid_slot t c =
    let invalid : c.in-T.n ≤ c.args.clock / c.time-time.result = grind (arith, nat_tests) in
    rw c.is_valid_slot.ensures
    (live_else _ (st_tree c.deref-of.result.now) c.in-T.n c.in-T.i c.time-time.result c.args.clock
    (cc (ap st_tree c.in-T.is)) c.time-time.ensures c.requires.lengths invalid)

pub returns-in-S : goal.returns-in-S
returns-in-S t c =
    live_across (st_tree c.args.self.now) (st_tree c.deref.result.now) c.in-S.n c.args.clock _
    (cc (ap st_tree c.in-S.is)) c.requires.lengths c.live-in-S.ensures
