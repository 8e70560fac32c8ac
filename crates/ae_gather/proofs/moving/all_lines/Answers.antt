-- One line more.
use Rattle.std.proofs.Common.{ap, ℕ, ◌≡◌, ◌+◌, ◌≤◌, length, slice_get, Some, refl, arith, rules}
use Rattle.std.proofs.lemmas.Option.{slice_get_read}
use Rattle.ae_netlist.specs.Circuit.{width_of}
use Rattle.ae_netlist.proofs.Growing.{net_later}
use Rattle.ae_clocked.specs.Delays.{AreTaps, line_cells}
use Rattle.ae_gates.proofs.Adding.{grows_refl, grows_trans}
use Rattle.ae_gates.proofs.Added.{own_net}
use Rattle.ae_clocked.proofs.Belonging.{keeps_same}
use Rattle.ae_columns.specs.Columns.{net_of}
use Rattle.ae_moves.proofs.Lists.{sum_next, sum_part}
use Rattle.ae_columns.specs.Plans.{line_mems}
use Rattle.ae_gather.proofs.Building.{lines_begin, lines_more, lines_whole}
use Rattle.ae_gather.specs.Counts.{line_registers}
use Rattle.ae_columns.proofs.Counted.{counted_most, counted_none}
use Rattle.ae_gather.proofs.moving.all_lines.Goals as goal
use Rattle.ae_clocked.proofs.InRow.{keeps_trans}

pub ring_line-requires-clause-belongs : goal.ring_line-requires-clause-belongs
ring_line-requires-clause-belongs c = c.loop-q.invariant.belongs

pub returns-clause-belongs : goal.returns-clause-belongs
returns-clause-belongs c = c.loop-q.invariant.belongs

pub returns-clause-keeps : goal.returns-clause-keeps
returns-clause-keeps c = c.loop-q.invariant.keeps

pub returns-clause-grows : goal.returns-clause-grows
returns-clause-grows c = c.loop-q.invariant.grows

pub returns-clause-muls : goal.returns-clause-muls
returns-clause-muls c = c.loop-q.invariant.muls

pub returns-clause-whole : goal.returns-clause-whole
returns-clause-whole c = c.loop-q.invariant.whole

pub loop-q-init : goal.loop-q-init
loop-q-init c =
    record {
      belongs = c.requires.belongs;
      keeps = keeps_same _;
      grows = grows_refl _;
      cells = omega arith;
      muls = refl;
      memories = omega arith;
      counted = counted_none _ _;
      whole = λ h. h;
      lines = lines_begin _ _ _ _ (search rules);
    }

pub ring_line-requires-clause-net : goal.ring_line-requires-clause-net
ring_line-requires-clause-net c =
    own_net (net_later c.loop-q.invariant.grows.extends (c.requires.nets c.loop-q.q (omega (arith, c.loop-q-test.true, c.requires.long))).1)

pub ring_line-requires-clause-few : goal.ring_line-requires-clause-few
ring_line-requires-clause-few c =
    let there : slice_get c.args.ages.now c.loop-q.q ≡ Some c.index-ages-q.result = slice_get_read c.args.ages.now
    (length c.args.ages.now) c.loop-q.q c.index-ages-q.result refl c.loop-q-test.true c.index-ages-q.is in
    rw c.all.ensures (c.requires.few c.loop-q.q _ there)

pub loop-q-preserved : goal.loop-q-preserved
loop-q-preserved c =
    let was = c.loop-q.invariant in
    let more = c.in_ok-tapped.ensures in
    let there : slice_get c.args.ages.now c.loop-q.q ≡ Some c.index-ages-q.result = slice_get_read c.args.ages.now
    (length c.args.ages.now) c.loop-q.q c.index-ages-q.result refl c.loop-q-test.true c.index-ages-q.is in
    let x : ℕ = net_of c.args.ins.now c.loop-q.q in
    let taps : AreTaps c.ring_line.new.nl.cells c.args.clocks.now.rst
    (width_of c.loop-q.nl.cells x) x c.index-ages-q.result c.in_ok-tapped.tapped = rw (was.keeps.rst, c.all.ensures) at more.taps in
    let cost : length c.ring_line.new.nl.cells ≤ length c.loop-q.nl.cells + line_cells c.index-ages-q.result = rw c.all.ensures at more.cells in
    let mems = rw c.all.ensures at more.memories in
    record {
      belongs = more.belongs;
      keeps = keeps_trans was.keeps more.keeps;
      grows = grows_trans was.grows more.grows;
      cells = omega (arith, was.cells, cost, sum_next line_cells c.args.ages.now c.loop-q.q _ there);
      muls = omega (arith, was.muls, more.muls);
      memories = omega (arith, was.memories, mems, sum_next line_mems c.args.ages.now c.loop-q.q _ there);
      counted = (let registers = rw c.all.ensures at more.registers in record {
        registers = omega (arith, was.counted.registers, registers, sum_next line_registers c.args.ages.now c.loop-q.q _ there);
        tests = omega (arith, was.counted.tests, more.tests);
      });
      whole = λ h. more.whole (was.whole h);
      lines = rw c.in_ok-push.ensures.items
          (lines_more c.loop-q.nl.cells c.ring_line.new.nl.cells _ _ x c.loop-q.q c.args.ins.now c.args.ages.now _ _ _ more.grows.extends was.lines there refl
          (own_net (net_later was.grows.extends (c.requires.nets c.loop-q.q (omega (arith, c.loop-q-test.true, c.requires.long))).1)) taps);
    }

pub returns-clause-cells : goal.returns-clause-cells
returns-clause-cells c = omega (arith, c.loop-q.invariant.cells, sum_part line_cells c.args.ages.now c.loop-q.q)

pub returns-clause-counted : goal.returns-clause-counted
returns-clause-counted c = counted_most _ _ (sum_part line_registers c.args.ages.now c.loop-q.q) (omega arith) c.loop-q.invariant.counted

pub returns-clause-lines : goal.returns-clause-lines
returns-clause-lines c = lines_whole _ _ c.loop-q.q _ c.args.ages.now _ (omega (arith, c.loop-q-test.false)) c.loop-q.invariant.lines

pub returns-clause-memories : goal.returns-clause-memories
returns-clause-memories c = omega (arith, c.loop-q.invariant.memories, sum_part line_mems c.args.ages.now c.loop-q.q)

pub ring_line-requires-clause-room : goal.ring_line-requires-clause-room
ring_line-requires-clause-room c =
    let there : slice_get c.args.ages.now c.loop-q.q ≡ Some c.index-ages-q.result = slice_get_read c.args.ages.now
    (length c.args.ages.now) c.loop-q.q c.index-ages-q.result refl c.loop-q-test.true c.index-ages-q.is in
    let taps = ap line_cells c.all.ensures in
    omega (
      arith,
      c.requires.room,
      c.loop-q.invariant.cells,
      c.loop-q.invariant.grows.limit,
      taps,
      sum_next line_cells c.args.ages.now c.loop-q.q _ there,
      sum_part line_cells c.args.ages.now (c.loop-q.q + 1),
    )
