-- One more look.
use Rattle.std.proofs.Common.{◌≡◌, ◌^◌, inl, arith}
use Rattle.ae_netlist.specs.Circuit.{width_of}
use Rattle.ae_netlist.proofs.Growing.{net_width}
use Rattle.ae_netlist.specs.Counts.{is_register}
use Rattle.ae_gates.specs.Cells.{is_test}
use Rattle.ae_gates.proofs.Adding.{counted, uncounted}
use Rattle.ae_gates.proofs.Added.{own_net}
use Rattle.ae_clocked.proofs.Storing.{added_peek, peek_net, peek_words}
use Rattle.ae_clocked.proofs.ring.look.Goals as goal

pub push-requires-clause-allowed : goal.push-requires-clause-allowed
push-requires-clause-allowed c =
    let wide : width_of c.args.nl.now.cells c.args.at.0 ≡ c.args.bits = net_width c.requires.place in
    record { depth = 2 ^ c.args.bits; memory = c.requires.memory; address = record { net = own_net c.requires.place; inside = inl (rw wide (omega arith)) } }

pub returns-clause-adds : goal.returns-clause-adds
returns-clause-adds c =
    let wide : width_of c.args.nl.now.cells c.args.at.0 ≡ c.args.bits = net_width c.requires.place in
    added_peek _ c.push.new.self c.push.result c.args.width (2 ^ c.args.bits) c.args.m c.args.at c.formed.ensures.cells c.requires.memory
    (own_net c.requires.place) (rw wide (omega arith)) c.push.ensures.added

pub returns-clause-net : goal.returns-clause-net
returns-clause-net c = peek_net _ c.push.new.self c.push.result c.args.width c.args.m c.args.at (c.push.ensures.ok, c.push.ensures.added)

pub returns-clause-words : goal.returns-clause-words
returns-clause-words c = peek_words _ c.push.new.self c.push.result c.args.width c.args.m c.args.at (c.push.ensures.ok, c.push.ensures.added)

pub returns-clause-registers : goal.returns-clause-registers
returns-clause-registers c = uncounted c.push.result _ _ (counted is_register _ c.push.new.self c.push.result _ c.push.ensures.added)

pub returns-clause-tests : goal.returns-clause-tests
returns-clause-tests c = uncounted c.push.result _ _ (counted is_test _ c.push.new.self c.push.result _ c.push.ensures.added)
