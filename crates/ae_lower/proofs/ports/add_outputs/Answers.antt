-- One lane more, until there are no more.
use Rattle.std.proofs.Common.{◌≡◌, ◌≤◌, ◌+◌, ◌-◌, ◌*◌, length, take, drop, arith, rules, sym, ap, ◌∙◌, subst, List}
use Rattle.std.proofs.lemmas.List.{take_all}
use Rattle.ae_netlist.specs.declared.cell.NetId.{NetId}
use Rattle.ae_netlist.specs.declared.cell.SizedCell.{SizedCell}
use Rattle.ae_netlist.specs.declared.cell.Port.TheVariants.{Out}
use Rattle.ae_sttype.specs.StTree.{element_words, lanes, st_tree}
use Rattle.ae_ops.specs.Waves.{AreNets, HaveOwnWidths}
use Rattle.ae_ops.specs.Blocks.{stream_of, stream_widths}
use Rattle.ae_ports.specs.Ports.{lane_ports}
use Rattle.ae_lower.specs.PortNets.{AddsOutputs}
use Rattle.ae_lower.proofs.Outputs.{columns_long, lane_inside, lanes_more, outputs_cells, own_widths, stretch_own}
use Rattle.ae_lower.proofs.ports.add_outputs.Goals as goal
use Rattle.ae_ports.proofs.Columns.{element_columns as widths_long}

pub offset_bounds-nets-first : goal.offset_bounds-nets-first
offset_bounds-nets-first c =
    let t = st_tree c.args.layout.now in
    let inside = lane_inside t c.loop-lane.lane c.requires.in_size (omega arith) in
    rw c.element_words-words.ensures (omega (arith, inside))

pub slice_bounds-lane_outputs-end : goal.slice_bounds-lane_outputs-end
slice_bounds-lane_outputs-end c =
    let t = st_tree c.args.layout.now in
    let inside = lane_inside t c.loop-lane.lane c.requires.in_size (omega arith) in
    let long = columns_long c.args.nl.now.cells t c.args.bundle.now c.requires.nets in
    search rules

pub lane_outputs-requires-clause-nets : goal.lane_outputs-requires-clause-nets
lane_outputs-requires-clause-nets c =
    let t = st_tree c.args.layout.now in
    let words = c.element_words-words.result in
    let first = c.loop-lane.lane * words in
    let inside = lane_inside t c.loop-lane.lane c.requires.in_size (omega arith) in
    let nets : AreNets c.args.nl.now.cells (stream_widths (stream_of t)) c.nets-nets.result.now = rw c.nets-nets.ensures c.requires.nets in
    let long = columns_long c.args.nl.now.cells t c.nets-nets.result.now nets in
    let size : words ≡ element_words t = c.element_words-words.ensures in
    let ends : c.loop-lane.lane * words + words ≤ length c.nets-nets.result.now = rw size (omega (arith, inside, long)) in
    let own : HaveOwnWidths c.args.nl.now.cells (take (first + words - first) (drop first c.nets-nets.result.now)) =
    stretch_own c.args.nl.now.cells c.nets-nets.result.now first (first + words - first) (omega (arith, ends)) (own_widths nets) in
    subst (λ (cells : List SizedCell). HaveOwnWidths cells (take (first + words - first) (drop first c.nets-nets.result.now)))
    (sym (outputs_cells c.loop-lane.invariant)) own

pub loop-lane-preserved : goal.loop-lane-preserved
loop-lane-preserved c =
    let t = st_tree c.args.layout.now in
    let words = c.element_words-words.result in
    let first = c.loop-lane.lane * words in
    let nets : AreNets c.args.nl.now.cells (stream_widths (stream_of t)) c.nets-nets.result.now = rw c.nets-nets.ensures c.requires.nets in
    let cut : first + words - first ≡ words = omega arith in
    lanes_more _ _ _ (Out c.args.number) (stream_of t).widths (lanes t) c.loop-lane.lane words c.nets-nets.result.now _
    (c.element_words-words.ensures ∙ sym (widths_long t)) (omega arith) nets (ap (λ n. take n (drop first c.nets-nets.result.now)) cut)
    c.loop-lane.invariant c.in_ok-lane_outputs.ensures

pub returns : goal.returns
returns c =
    let t = st_tree c.args.layout.now in
    let long = columns_long c.args.nl.now.cells t c.args.bundle.now c.requires.nets in
    let all : c.loop-lane.lane ≡ lanes t = omega (arith, c.loop-lane.auto.lane-end, c.loop-lane-test.false, c.lanes-lane-end.ensures) in
    let size : lanes t * c.element_words-words.result ≡ length c.args.bundle.now = rw c.element_words-words.ensures (omega (arith, long)) in
    let P : List NetId → Type 0 = λ ns. AddsOutputs c.args.nl.now c.loop-lane.nl (lane_ports (Out c.args.number) (stream_of t).widths (lanes t)) ns in
    let is : take (lanes t * c.element_words-words.result) c.nets-nets.result.now ≡ c.args.bundle.now =
    ap (take (lanes t * c.element_words-words.result)) c.nets-nets.ensures ∙
    take_all (lanes t * c.element_words-words.result) c.args.bundle.now (omega (arith, size)) in
    subst P is (rw all at c.loop-lane.invariant)
