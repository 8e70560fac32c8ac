use Rattle.std.proofs.Common.{ℕ, ◌≡◌, true, false, ◌∙◌, ◌<◌, length, get_or, arith, ap, sym}
use Rattle.std.proofs.lemmas.List.{get_or_read}
use Rattle.ae_netlist.specs.Circuit.{Circuit}
use Rattle.ae_gates.proofs.Adding.{grows_refl}
use Rattle.ae_clocked.proofs.Belonging.{keeps_same}
use Rattle.ae_sttype.specs.StTree.{StTree, st_tree}
use Rattle.ae_gather.specs.Gathers.{gather_part, move_of}
use Rattle.ae_reduce.specs.Reduces.{reduce_part}
use Rattle.ae_rewrite.specs.StProgramTree.{st_func_tree, st_node_tree, st_op_tree}
use Rattle.ae_rewrite.specs.Sound.{item_layout, item_layouts}
use Rattle.ae_delay.specs.Moving.{constant_move, op_move}
use Rattle.ae_lower.specs.Growth.{GrowsBy}
use Rattle.ae_lower.specs.Parts.{part_behind}
use Rattle.ae_lower.proofs.Placing.{node_adds, node_built, node_bundles, node_grows, node_room}
use Rattle.ae_lower.proofs.Folded.{fold_typed}
use Rattle.ae_lower.proofs.Ready.{argument_at, fixed_node, fold_follows, fold_node, fold_shape, fold_short, move_node, only_low, ready_below, ready_item, ready_move, ready_some, scan_node, raw_fold}
use Rattle.ae_lower.proofs.WireNodes.{join_built, part_built}
use Rattle.ae_lower.proofs.nodes.build.Goals as goal

-- ---- where no cell is added

none_added : (a : Circuit) (load : ℕ) → GrowsBy a a load
none_added a load = record { grows = grows_refl a; cells = omega arith }

-- ---- constants

pub place-requires-in-Fixed-clause-does : goal.place-requires-in-Fixed-clause-does
place-requires-in-Fixed-clause-does c =
    fixed_node _ (st_func_tree c.args.s.now) (st_node_tree c.args.node.now) _ c.in-Fixed.words.items (move_of c.in_ok-stage-in-Fixed.stage) c.requires.ready
    (ap st_op_tree c.in-Fixed.is)
    (c.in_ok-stage-in-Fixed.ensures.is ∙ ap (λ ws. constant_move ws (st_tree c.args.node.now.ty)) c.deref.ensures.value)

-- ---- moves

pub layout-requires : goal.layout-requires
layout-requires c =
    let only = ready_move _ (st_func_tree c.args.s.now) (st_node_tree c.args.node.now) _ c.in-Move.how c.requires.ready (ap st_op_tree c.in-Move.is) in
    let low : 0 < length c.args.node.now.args.items = only_low c.args.node.now.args.items only.0 in
    let first : c.index.result.now ≡ get_or c.args.node.now.args.items 0 0 = get_or_read c.args.node.now.args.items 0 c.index.result.now low c.index.ensures
    0 in
    rw first (ready_below _ (st_func_tree c.args.s.now) (st_node_tree c.args.node.now) _ 0 c.requires.ready low)

pub moving-requires-clause-arg : goal.moving-requires-clause-arg
moving-requires-clause-arg c =
    let only = ready_move _ (st_func_tree c.args.s.now) (st_node_tree c.args.node.now) _ c.in-Move.how c.requires.ready (ap st_op_tree c.in-Move.is) in
    let low : 0 < length c.args.node.now.args.items = only_low c.args.node.now.args.items only.0 in
    let first : c.index.result.now ≡ get_or c.args.node.now.args.items 0 0 = get_or_read c.args.node.now.args.items 0 c.index.result.now low c.index.ensures
    0 in
    rw (c.layout.ensures, first) (ready_item _ (st_func_tree c.args.s.now) (st_node_tree c.args.node.now) _ 0 c.requires.ready low).size

pub moving-requires-clause-time : goal.moving-requires-clause-time
moving-requires-clause-time c =
    let only = ready_move _ (st_func_tree c.args.s.now) (st_node_tree c.args.node.now) _ c.in-Move.how c.requires.ready (ap st_op_tree c.in-Move.is) in
    let low : 0 < length c.args.node.now.args.items = only_low c.args.node.now.args.items only.0 in
    let first : c.index.result.now ≡ get_or c.args.node.now.args.items 0 0 = get_or_read c.args.node.now.args.items 0 c.index.result.now low c.index.ensures
    0 in
    rw (c.layout.ensures, first) ((ready_item _ (st_func_tree c.args.s.now) (st_node_tree c.args.node.now) _ 0 c.requires.ready low).time ∙
    sym c.requires.ready.layout.time)

pub place-requires-in-Move-clause-does : goal.place-requires-in-Move-clause-does
place-requires-in-Move-clause-does c =
    let only = ready_move _ (st_func_tree c.args.s.now) (st_node_tree c.args.node.now) _ c.in-Move.how c.requires.ready (ap st_op_tree c.in-Move.is) in
    let low : 0 < length c.args.node.now.args.items = only_low c.args.node.now.args.items only.0 in
    let first : c.index.result.now ≡ get_or c.args.node.now.args.items 0 0 = get_or_read c.args.node.now.args.items 0 c.index.result.now low c.index.ensures
    0 in
    let own : st_tree c.layout.result.now ≡ argument_at (st_func_tree c.args.s.now) (st_node_tree c.args.node.now) 0 = c.layout.ensures ∙
    ap (item_layout (item_layouts (st_func_tree c.args.s.now))) first in
    move_node _ (st_func_tree c.args.s.now) (st_node_tree c.args.node.now) _ c.in-Move.how (move_of c.reading-reader.result) c.requires.ready
    (ap st_op_tree c.in-Move.is)
    (c.reading-reader.ensures ∙ c.in_ok-stage-in-Move.ensures.is ∙ ap (λ (a : StTree). op_move c.in-Move.how a (st_tree c.args.node.now.ty)) own)

-- ---- folds

pub reducing-requires-clause-raw : goal.reducing-requires-clause-raw
reducing-requires-clause-raw c =
    (raw_fold _ (st_func_tree c.args.s.now) (st_node_tree c.args.node.now) _ c.in-Fold.op c.in-Fold.slots c.in-Fold.lanes
    (st_tree c.in-Fold.raw) c.requires.ready (ap st_op_tree c.in-Fold.is)).0.layout.size

pub reducing-requires-clause-some : goal.reducing-requires-clause-some
reducing-requires-clause-some c = ready_some _ (st_func_tree c.args.s.now) (st_node_tree c.args.node.now) _ c.requires.ready

pub fold_and_move-requires-clause-bundles : goal.fold_and_move-requires-clause-bundles
fold_and_move-requires-clause-bundles c =
    node_bundles _ (st_func_tree c.args.s.now) (st_node_tree c.args.node.now)
    (part_behind (reduce_part c.in_ok-fold-in-Fold.fold) (gather_part (move_of c.in_ok-moved-in-Fold.moved))) _
    (fold_node _ (st_func_tree c.args.s.now) (st_node_tree c.args.node.now) _ c.in-Fold.op c.in-Fold.slots c.in-Fold.lanes
    (st_tree c.in-Fold.raw) c.in_ok-fold-in-Fold.fold (move_of c.in_ok-moved-in-Fold.moved) c.requires.ready
    (ap st_op_tree c.in-Fold.is) c.in_ok-fold-in-Fold.ensures.is c.in_ok-moved-in-Fold.ensures.is)
    c.requires.ready.bundles

pub fold_and_move-requires-clause-follows : goal.fold_and_move-requires-clause-follows
fold_and_move-requires-clause-follows c =
    fold_follows (st_tree c.in-Fold.raw) (st_tree c.args.node.now.ty) c.in_ok-fold-in-Fold.fold
    (move_of c.in_ok-moved-in-Fold.moved) c.in_ok-fold-in-Fold.ensures.is.4 c.in_ok-moved-in-Fold.ensures.is

pub fold_and_move-requires-clause-typed : goal.fold_and_move-requires-clause-typed
fold_and_move-requires-clause-typed c = λ vs h.
    let shape =
    fold_shape _ (st_func_tree c.args.s.now) (st_node_tree c.args.node.now) _ c.in-Fold.op c.in-Fold.slots c.in-Fold.lanes
    (st_tree c.in-Fold.raw) c.in_ok-fold-in-Fold.fold c.requires.ready (ap st_op_tree c.in-Fold.is)
    c.in_ok-fold-in-Fold.ensures.is in
    fold_typed c.in_ok-fold-in-Fold.fold vs shape.0 shape.1 shape.2 shape.3 h

pub fold_and_move-requires-clause-short : goal.fold_and_move-requires-clause-short
fold_and_move-requires-clause-short c =
    fold_short _ (st_func_tree c.args.s.now) (st_node_tree c.args.node.now) _ c.in-Fold.op c.in-Fold.slots c.in-Fold.lanes
    (st_tree c.in-Fold.raw) c.in_ok-fold-in-Fold.fold c.requires.ready (ap st_op_tree c.in-Fold.is)
    c.in_ok-fold-in-Fold.ensures.is

pub returns-in_ok-out-in-Fold-clause-grows : goal.returns-in_ok-out-in-Fold-clause-grows
returns-in_ok-out-in-Fold-clause-grows c =
    node_grows _ _ (st_func_tree c.args.s.now) (st_node_tree c.args.node.now)
    (part_behind (reduce_part c.in_ok-fold-in-Fold.fold) (gather_part (move_of c.in_ok-moved-in-Fold.moved)))
    (fold_node _ (st_func_tree c.args.s.now) (st_node_tree c.args.node.now) _ c.in-Fold.op c.in-Fold.slots c.in-Fold.lanes
    (st_tree c.in-Fold.raw) c.in_ok-fold-in-Fold.fold (move_of c.in_ok-moved-in-Fold.moved) c.requires.ready
    (ap st_op_tree c.in-Fold.is) c.in_ok-fold-in-Fold.ensures.is c.in_ok-moved-in-Fold.ensures.is)
    c.in_ok-out-in-Fold.ensures.grows c.in_ok-out-in-Fold.ensures.cells

pub returns-in_ok-out-in-Fold-clause-adds : goal.returns-in_ok-out-in-Fold-clause-adds
returns-in_ok-out-in-Fold-clause-adds c =
    node_adds _ _ (st_func_tree c.args.s.now) (st_node_tree c.args.node.now)
    (part_behind (reduce_part c.in_ok-fold-in-Fold.fold) (gather_part (move_of c.in_ok-moved-in-Fold.moved)))
    (fold_node _ (st_func_tree c.args.s.now) (st_node_tree c.args.node.now) _ c.in-Fold.op c.in-Fold.slots c.in-Fold.lanes
    (st_tree c.in-Fold.raw) c.in_ok-fold-in-Fold.fold (move_of c.in_ok-moved-in-Fold.moved) c.requires.ready
    (ap st_op_tree c.in-Fold.is) c.in_ok-fold-in-Fold.ensures.is c.in_ok-moved-in-Fold.ensures.is)
    c.in_ok-out-in-Fold.ensures.muls c.in_ok-out-in-Fold.ensures.memories c.in_ok-out-in-Fold.ensures.whole

pub returns-in_ok-out-in-Fold-clause-built : goal.returns-in_ok-out-in-Fold-clause-built
returns-in_ok-out-in-Fold-clause-built c =
    node_built _ _ _ (st_func_tree c.args.s.now) (st_node_tree c.args.node.now)
    (part_behind (reduce_part c.in_ok-fold-in-Fold.fold) (gather_part (move_of c.in_ok-moved-in-Fold.moved))) _ c.in_ok-out-in-Fold.out
    (fold_node _ (st_func_tree c.args.s.now) (st_node_tree c.args.node.now) _ c.in-Fold.op c.in-Fold.slots c.in-Fold.lanes
    (st_tree c.in-Fold.raw) c.in_ok-fold-in-Fold.fold (move_of c.in_ok-moved-in-Fold.moved) c.requires.ready
    (ap st_op_tree c.in-Fold.is) c.in_ok-fold-in-Fold.ensures.is c.in_ok-moved-in-Fold.ensures.is)
    c.in_ok-out-in-Fold.ensures.bundle c.in_ok-out-in-Fold.ensures.law

-- ---- scans

pub scanning-requires-clause-some : goal.scanning-requires-clause-some
scanning-requires-clause-some c = ready_some _ (st_func_tree c.args.s.now) (st_node_tree c.args.node.now) _ c.requires.ready

pub place-requires-in-Scan-clause-does : goal.place-requires-in-Scan-clause-does
place-requires-in-Scan-clause-does c =
    scan_node _ (st_func_tree c.args.s.now) (st_node_tree c.args.node.now) _ c.in-Scan.op c.in-Scan.slots c.in-Scan.lanes c.in_ok-stage-in-Scan.stage
    c.requires.ready (ap st_op_tree c.in-Scan.is) c.in_ok-stage-in-Scan.ensures.is

-- ---- wires

pub returns-in_ok-out-in-Join-clause-built : goal.returns-in_ok-out-in-Join-clause-built
returns-in_ok-out-in-Join-clause-built c =
    λ known. join_built known (st_func_tree c.args.s.now)
    (st_node_tree c.args.node.now) c.args.nl.now c.args.clocks.now.rst c.args.at c.args.args.now c.in_ok-out-in-Join.out c.requires.ready
    (ap st_op_tree c.in-Join.is) c.in_ok-out-in-Join.ensures.pairs

pub returns-in_ok-out-in-First-clause-built : goal.returns-in_ok-out-in-First-clause-built
returns-in_ok-out-in-First-clause-built c =
    λ known. part_built known (st_func_tree c.args.s.now)
    (st_node_tree c.args.node.now) c.args.nl.now c.args.clocks.now.rst c.args.at c.args.args.now true c.in_ok-out-in-First.out c.requires.ready
    (ap st_op_tree c.in-First.is) c.in_ok-out-in-First.ensures.parts

pub returns-in_ok-out-in-Second-clause-built : goal.returns-in_ok-out-in-Second-clause-built
returns-in_ok-out-in-Second-clause-built c =
    λ known. part_built known (st_func_tree c.args.s.now)
    (st_node_tree c.args.node.now) c.args.nl.now c.args.clocks.now.rst c.args.at c.args.args.now false c.in_ok-out-in-Second.out c.requires.ready
    (ap st_op_tree c.in-Second.is) c.in_ok-out-in-Second.ensures.parts

pub returns-in_ok-out-in-Join-clause-keeps : goal.returns-in_ok-out-in-Join-clause-keeps
returns-in_ok-out-in-Join-clause-keeps c = keeps_same _

pub returns-in_ok-out-in-Join-clause-grows : goal.returns-in_ok-out-in-Join-clause-grows
returns-in_ok-out-in-Join-clause-grows c = none_added _ _

pub returns-in_ok-out-in-First-clause-keeps : goal.returns-in_ok-out-in-First-clause-keeps
returns-in_ok-out-in-First-clause-keeps c = keeps_same _

pub returns-in_ok-out-in-First-clause-grows : goal.returns-in_ok-out-in-First-clause-grows
returns-in_ok-out-in-First-clause-grows c = none_added _ _

pub returns-in_ok-out-in-Second-clause-keeps : goal.returns-in_ok-out-in-Second-clause-keeps
returns-in_ok-out-in-Second-clause-keeps c = keeps_same _

pub returns-in_ok-out-in-Second-clause-grows : goal.returns-in_ok-out-in-Second-clause-grows
returns-in_ok-out-in-Second-clause-grows c = none_added _ _

pub fold_and_move-requires-clause-room : goal.fold_and_move-requires-clause-room
fold_and_move-requires-clause-room c =
    node_room c.args.nl.now (st_func_tree c.args.s.now) (st_node_tree c.args.node.now)
    (part_behind (reduce_part c.in_ok-fold-in-Fold.fold) (gather_part (move_of c.in_ok-moved-in-Fold.moved)))
    (fold_node _ (st_func_tree c.args.s.now) (st_node_tree c.args.node.now) _ c.in-Fold.op c.in-Fold.slots c.in-Fold.lanes
    (st_tree c.in-Fold.raw) c.in_ok-fold-in-Fold.fold (move_of c.in_ok-moved-in-Fold.moved) c.requires.ready
    (ap st_op_tree c.in-Fold.is) c.in_ok-fold-in-Fold.ensures.is c.in_ok-moved-in-Fold.ensures.is) c.requires.room
