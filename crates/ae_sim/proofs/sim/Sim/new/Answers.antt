-- What is held before the first clock is the fill.
use Rattle.std.proofs.Common.{◌≡◌, length, arith}
use Rattle.ae_sim.proofs.Begun.{is_filled, begun, planned}
use Rattle.ae_sim.proofs.sim.Sim.new.Goals as goal

pub invariant_of-result : goal.invariant_of-result
invariant_of-result c =
    let long : length c.in_ok-words.words.items ≡ length c.args.nl.now.cells = grind (arith, c.in_ok-words.ensures, c.len.ensures) in
    planned c.args.nl.now.cells c.in_ok-numbers.numbers.items c.in_ok-words.words.items c.args.fill c.in_ok-registers.registers.items
    c.in_ok-memories.memories.items c.in_ok-numbers.ensures.long c.in_ok-numbers.ensures.counts long c.in_ok-registers.ensures c.in_ok-memories.ensures

pub returns-clause-begins : goal.returns-clause-begins
returns-clause-begins c =
    begun c.args.nl.now.cells c.args.nl.now.outlets c.args.fill c.in_ok-words.words.items c.in_ok-registers.registers.items c.in_ok-memories.memories.items
    (is_filled c.args.nl.now.cells c.args.fill c.in_ok-registers.registers.items c.in_ok-memories.memories.items c.in_ok-registers.ensures
    c.in_ok-memories.ensures)
