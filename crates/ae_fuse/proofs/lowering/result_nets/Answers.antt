-- A move, and its delay.
use Rattle.std.proofs.Common.{◌-◌, ◌*◌, arith, length, subst, sym}
use Rattle.ae_netlist.specs.Room.{HasRoom}
use Rattle.ae_moves.specs.Rings.{rings}
use Rattle.ae_moves.specs.Origins.{move_latency}
use Rattle.ae_gather.specs.Gathers.{move_of}
use Rattle.ae_ops.specs.Waves.{AreLate, AreNets}
use Rattle.ae_ops.specs.Blocks.{stream_of, stream_widths}
use Rattle.ae_lower.specs.Growth.{AddsMulsAndMemories, GrowsBy}
use Rattle.ae_lower.proofs.Outputs.{own_widths}
use Rattle.ae_fuse.proofs.LateResults.{delay_small, part_small, result_adds, result_grows, result_late}
use Rattle.ae_fuse.proofs.lowering.result_nets.Goals as goal
use Rattle.ae_clocked.proofs.InRow.{keeps_trans}

pub later-requires-clause-nets : goal.later-requires-clause-nets
later-requires-clause-nets c = let there = c.in_ok-bundle.ensures.bundle in own_widths there

-- no move takes more cells than there is room for
pub build-requires-clause-room : goal.build-requires-clause-room
build-requires-clause-room c = omega (arith, c.requires.room, part_small (move_of c.args.gather) c.args.whole)

pub later-requires-clause-room : goal.later-requires-clause-room
later-requires-clause-room c =
    let nets = c.in_ok-bundle.bundle in
    let there = c.in_ok-bundle.ensures.bundle in
    let fits = delay_small c.build.new.nl.cells (move_of c.args.gather) c.args.whole nets there in
    let room : HasRoom c.build.new.nl (16 * ((c.args.whole - move_latency (move_of c.args.gather)) * length nets)) = omega (
      arith,
      c.requires.room,
      c.in_ok-bundle.ensures.cells,
      c.in_ok-bundle.ensures.grows.limit,
      fits,
    ) in
    subst (λ d. HasRoom c.build.new.nl (16 * ((c.args.whole - d) * length nets))) (sym c.latency.ensures) room

pub returns-clause-keeps : goal.returns-clause-keeps
returns-clause-keeps c = keeps_trans c.in_ok-bundle.ensures.keeps c.in_ok-late.ensures.keeps

pub returns-clause-grows : goal.returns-clause-grows
returns-clause-grows c =
    let nets = c.in_ok-bundle.bundle in
    let there = c.in_ok-bundle.ensures.bundle in
    let mid = c.build.new.nl in
    let more = subst (λ d. GrowsBy mid c.later.new.nl ((c.args.whole - d) * length nets)) c.latency.ensures c.in_ok-late.ensures.grows in
    result_grows c.args.nl.now mid c.later.new.nl (move_of c.args.gather) c.args.whole nets c.requires.latest there c.in_ok-bundle.ensures.grows
    c.in_ok-bundle.ensures.cells more

pub returns-clause-moved : goal.returns-clause-moved
returns-clause-moved c =
    let m = move_of c.args.gather in
    let nets = c.in_ok-bundle.bundle in
    let mid = c.build.new.nl in
    let new = c.later.new.nl in
    let there : AreNets mid.cells (stream_widths (stream_of m.out)) nets = c.in_ok-bundle.ensures.bundle in
    let law = c.in_ok-bundle.ensures.law in
    let delayed = c.in_ok-late.ensures.late in
    let stand = c.in_ok-late.ensures.nets in
    let late : AreLate new.cells c.build.new.clocks.rst (c.args.whole - move_latency m) nets c.in_ok-late.late = subst
    (λ d. AreLate new.cells c.build.new.clocks.rst (c.args.whole - d) nets c.in_ok-late.late) c.latency.ensures delayed in
    result_late mid new c.args.clocks.now.rst c.build.new.clocks.rst m c.args.whole c.args.args.now nets c.in_ok-late.late c.requires.moves c.requires.latest
    c.in_ok-bundle.ensures.keeps.rst c.in_ok-late.ensures.grows.grows.extends
    there law (stand (stream_widths (stream_of m.out)) there) late

pub returns-clause-adds : goal.returns-clause-adds
returns-clause-adds c =
    let there = c.in_ok-bundle.ensures.bundle in
    let muls = c.in_ok-bundle.ensures.muls in
    let memories = c.in_ok-bundle.ensures.memories in
    let whole = c.in_ok-bundle.ensures.whole in
    let added = c.in_ok-late.ensures.adds in
    let more = subst (λ d. AddsMulsAndMemories c.build.new.nl c.later.new.nl 0 (length c.in_ok-bundle.bundle * rings (c.args.whole - d))) c.latency.ensures
    added in
    result_adds c.args.nl.now c.build.new.nl c.later.new.nl
    (move_of c.args.gather) c.args.whole c.in_ok-bundle.bundle there muls memories whole more
