-- The word of another counter is one of its own.
use Rattle.std.proofs.Common.{◌≡◌, ◌∙◌, ◌+◌, ◌-◌, ◌%◌, ◌<◌, ◌≤◌, ◌^◌, arith}
use Rattle.ae_netlist.proofs.Growing.{net_width}
use Rattle.ae_gates.proofs.Added.{own_net}
use Rattle.ae_clocked.proofs.marks.at_phase.Goals as goal

pub width_at-width-requires : goal.width_at-width-requires
width_at-width-requires c = own_net c.requires.counter.1.is_net

pub at_word-requires-clause-net : goal.at_word-requires-clause-net
at_word-requires-clause-net c =
    let wide : c.width_at-width.result ≡ c.requires.counter.1.width = c.width_at-width.ensures ∙ net_width c.requires.counter.1.is_net in
    rw wide c.requires.counter.1.is_net

pub at_word-requires-clause-fits : goal.at_word-requires-clause-fits
at_word-requires-clause-fits c =
    let wide : c.width_at-width.result ≡ c.requires.counter.1.width = c.width_at-width.ensures ∙ net_width c.requires.counter.1.is_net in
    let room : c.args.period ≤ 2 ^ c.requires.counter.1.width = c.requires.counter.1.holds.enough in
    let some : c.args.at < c.args.period = c.requires.begins in
    let small : (c.args.q + (c.args.offset + c.args.period - c.args.at)) % c.args.period < c.args.period = omega arith in
    rw wide (omega arith)
