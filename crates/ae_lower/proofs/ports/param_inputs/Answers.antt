-- One lane more.
use Rattle.std.proofs.Common.{IsTrue, ◌≡◌, ◌*◌, length, map, ap, arith, sym, ◌∙◌, subst}
use Rattle.ae_word.specs.AtomTree.{AtomTree, WordKind, atom_in_size, atom_kinds, atom_tree, atom_words}
use Rattle.ae_netlist.specs.declared.cell.Port.TheVariants.{In}
use Rattle.ae_sttype.specs.StTree.{element_words, st_tree}
use Rattle.ae_ops.specs.Blocks.{stream_of}
use Rattle.ae_ports.specs.Ports.{lane_ports}
use Rattle.ae_lower.proofs.Inputs.{inputs_limit, inputs_long, lanes_more, length-lane_ports}
use Rattle.ae_lower.proofs.Outputs.{lane_inside}
use Rattle.ae_lower.proofs.ports.param_inputs.Goals as goal
use Rattle.ae_sttype.proofs.Bounds.{sized_atom}
use Rattle.ae_ports.proofs.Columns.{element_columns as widths_long}

pub lane_inputs-requires-clause-in_size : goal.lane_inputs-requires-clause-in_size
lane_inputs-requires-clause-in_size c =
    subst (λ (a : AtomTree). IsTrue (atom_in_size a)) (sym c.atom.ensures) (sized_atom (st_tree c.args.layout.now) c.requires.in_size.lengths)

pub lane_inputs-requires-clause-room : goal.lane_inputs-requires-clause-room
lane_inputs-requires-clause-room c =
    let t = st_tree c.args.layout.now in
    let inside = lane_inside t c.loop-lane.lane c.requires.in_size (omega arith) in
    let words : atom_words (atom_tree c.atom.result.now) ≡ element_words t = ap atom_words c.atom.ensures in
    let lanes : length (lane_ports (In c.args.param) (stream_of t).widths c.loop-lane.lane) ≡ c.loop-lane.lane * element_words t =
    length-lane_ports (In c.args.param) (stream_of t).widths c.loop-lane.lane ∙ ap (λ n. c.loop-lane.lane * n) (widths_long t) in
    omega (arith, inputs_long c.loop-lane.invariant, inputs_limit c.loop-lane.invariant, lanes, words, inside.0, inside.1, c.requires.room)

pub loop-lane-preserved : goal.loop-lane-preserved
loop-lane-preserved c =
    lanes_more _ _ _ _ _ _ (In c.args.param) (stream_of (st_tree c.args.layout.now)).widths _ c.loop-lane.lane
    (ap (λ (a : AtomTree). map (λ (k : WordKind). k.width) (atom_kinds a)) c.atom.ensures) c.loop-lane.invariant c.in_ok-lane_inputs.ensures
