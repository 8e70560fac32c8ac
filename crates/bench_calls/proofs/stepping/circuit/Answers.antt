use Rattle.std.proofs.Common.{◌∙◌, ap, arith, length}
use Rattle.ae_netlist.specs.Circuit.{Circuit}
use Rattle.ae_netlist.specs.Counts.{count_of, is_input}
use Rattle.ae_netlist.proofs.Growing.{net_later}
use Rattle.bench_calls.proofs.Inputs.{own_width}
use Rattle.bench_calls.proofs.stepping.circuit.Goals as goal

pub loop-made-init : goal.loop-made-init
loop-made-init c =
    let a = c.in_ok-first.ensures.adds in
    let b = c.in_ok-second.ensures.adds in
    record {
      left = net_later b.grows.extends c.in_ok-first.ensures.net;
      right = c.in_ok-second.ensures.net;
      inputs = b.grows.inputs ∙ a.grows.inputs ∙ ap (λ (n : Circuit). count_of is_input n.cells) c.new-nl.ensures;
      outlets = ap length (b.grows.outlets ∙ a.grows.outlets) ∙ ap (λ (n : Circuit). length n.outlets) c.new-nl.ensures;
      cells = omega (arith, b.cells, a.cells, ap (λ (n : Circuit). length n.cells) c.new-nl.ensures);
      limit = b.grows.limit ∙ a.grows.limit ∙ ap (λ (n : Circuit). n.limit) c.new-nl.ensures;
    }

pub add_output-requires-clause-net : goal.add_output-requires-clause-net
add_output-requires-clause-net c = own_width c.loop-made.nl.cells c.loop-made.pair.right.0 16 c.loop-made.invariant.right
