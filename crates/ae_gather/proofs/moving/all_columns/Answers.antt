-- One column more.
use Rattle.std.proofs.Common.{ap, ◌≡◌, ◌+◌, length, slice_get, get_or, false, if◌then◌else◌, Some, refl, arith, rules}
use Rattle.std.proofs.lemmas.Option.{slice_get_read, slice_get-get_or}
use Rattle.ae_gates.proofs.Adding.{adds_most, adds_none, adds_trans}
use Rattle.ae_gates.specs.Cells.{Adds}
use Rattle.ae_columns.specs.Plans.{choice_in, steps_cells}
use Rattle.ae_clocked.specs.Phases.{made_of}
use Rattle.ae_clocked.proofs.Belonging.{keeps_same}
use Rattle.ae_clocked.proofs.InRow.{keeps_trans}
use Rattle.ae_columns.specs.Counts.{Counted, steps_tests}
use Rattle.ae_columns.proofs.Counted.{counted_most, counted_none, counted_trans}
use Rattle.ae_columns.specs.Early.{IsMade, counter_for, is_early}
use Rattle.ae_columns.proofs.Choosing.{all_ready_grows, phase_grows}
use Rattle.ae_moves.proofs.Lists.{sum_next, sum_part}
use Rattle.ae_gather.proofs.Building.{columns_begin, columns_more, columns_whole}
use Rattle.ae_gather.proofs.moving.all_columns.Goals as goal

pub loop-q-init : goal.loop-q-init
loop-q-init c = record {
  belongs = c.requires.belongs;
  keeps = keeps_same _;
  counted = counted_none _ _;
  adds = adds_none _;
  within = omega arith;
  columns = columns_begin _ _ _ _ _ _ _ (search rules);
}

pub column-requires-clause-phase : goal.column-requires-clause-phase
column-requires-clause-phase c =
    rw (c.counter_for.ensures, c.loop-q.invariant.keeps.rst) (phase_grows c.loop-q.invariant.adds.grows.extends
    (c.requires.phases c.loop-q.q c.loop-q-test.true))

pub column-requires-clause-begun : goal.column-requires-clause-begun
column-requires-clause-begun c =
    let there : slice_get c.args.columns.now c.loop-q.q ≡ Some c.index-columns-q.result = slice_get_read c.args.columns.now
    (length c.args.columns.now) c.loop-q.q c.index-columns-q.result refl c.loop-q-test.true c.index-columns-q.is in
    rw c.all.ensures (c.requires.begun c.loop-q.q _ there)

pub column-requires-clause-ready : goal.column-requires-clause-ready
column-requires-clause-ready c =
    let there : slice_get c.args.columns.now c.loop-q.q ≡ Some c.index-columns-q.result = slice_get_read c.args.columns.now
    (length c.args.columns.now) c.loop-q.q c.index-columns-q.result refl c.loop-q-test.true c.index-columns-q.is in
    let wide = slice_get-get_or c.args.widths.now c.loop-q.q 0 (omega (arith, c.loop-q-test.true, c.requires.long)) in
    rw (c.all.ensures, c.counter_for.ensures, c.loop-q.invariant.keeps.rst) (all_ready_grows _ _ _ _ _ _ _ _ c.loop-q.invariant.adds.grows.extends
    (c.requires.ready c.loop-q.q _ _ there wide))

pub loop-q-preserved : goal.loop-q-preserved
loop-q-preserved c =
    let there : slice_get c.args.columns.now c.loop-q.q ≡ Some c.index-columns-q.result = slice_get_read c.args.columns.now
    (length c.args.columns.now) c.loop-q.q c.index-columns-q.result refl c.loop-q-test.true c.index-columns-q.is in
    let wide = slice_get-get_or c.args.widths.now c.loop-q.q 0 (omega (arith, c.loop-q-test.true, c.requires.long)) in
    let new : IsMade (is_early c.args.early.now c.loop-q.q) c.column.new.nl.cells c.args.clocks.now.rst (get_or c.args.widths.now c.loop-q.q 0)
    (counter_for (is_early c.args.early.now c.loop-q.q) c.args.counters) c.args.ins.now (λ p. choice_in p c.index-columns-q.result) c.in_ok-net.net.0 =
    rw (c.all.ensures, c.counter_for.ensures, c.loop-q.invariant.keeps.rst) at c.in_ok-net.ensures.column in
    let cost : Adds c.loop-q.nl c.column.new.nl (steps_cells c.index-columns-q.result + 3) 0 = rw c.all.ensures at c.in_ok-net.ensures.adds in
    let told : Counted c.loop-q.nl c.column.new.nl (made_of c.loop-q.clocks) (made_of c.column.new.clocks)
    (if get_or c.args.early.now c.loop-q.q false then 1 else 0) (steps_tests c.index-columns-q.result) = rw c.all.ensures at c.in_ok-net.ensures.counted in
    let own = slice_get-get_or c.args.early.now c.loop-q.q false (omega (arith, c.loop-q-test.true, c.requires.early)) in
    record {
      belongs = c.in_ok-net.ensures.belongs;
      keeps = keeps_trans c.loop-q.invariant.keeps c.in_ok-net.ensures.keeps;
      counted = counted_most _ _ (omega (arith, sum_next (λ is. if is then 1 else 0) c.args.early.now c.loop-q.q _ own))
          (omega (arith, sum_next steps_tests c.args.columns.now c.loop-q.q _ there)) (counted_trans c.loop-q.invariant.counted told);
      adds = adds_most _ (omega (arith, sum_next steps_cells c.args.columns.now c.loop-q.q _ there)) (adds_trans c.loop-q.invariant.adds cost);
      within = omega (arith, c.loop-q-test.true);
      columns = rw c.in_ok-push.ensures.items
          (columns_more _ _ _ c.loop-q.q _ c.args.counters c.args.ins.now c.args.widths.now c.args.early.now c.args.columns.now _ _ _
          c.in_ok-net.ensures.adds.grows.extends c.loop-q.invariant.columns there wide new);
    }

pub returns-clause-adds : goal.returns-clause-adds
returns-clause-adds c = adds_most _ (omega (arith, sum_part steps_cells c.args.columns.now c.loop-q.q, c.loop-q.invariant.within)) c.loop-q.invariant.adds

pub returns-clause-columns : goal.returns-clause-columns
returns-clause-columns c = columns_whole _ _ c.loop-q.q _ _ _ _ c.args.columns.now _ (omega (arith, c.loop-q-test.false)) c.loop-q.invariant.columns

pub returns-clause-belongs : goal.returns-clause-belongs
returns-clause-belongs c = c.loop-q.invariant.belongs

pub returns-clause-keeps : goal.returns-clause-keeps
returns-clause-keeps c = c.loop-q.invariant.keeps

pub returns-clause-counted : goal.returns-clause-counted
returns-clause-counted c =
    counted_most _ _ (sum_part (λ is. if is then 1 else 0) c.args.early.now c.loop-q.q) (sum_part steps_tests c.args.columns.now c.loop-q.q)
    c.loop-q.invariant.counted

pub column-requires-clause-room : goal.column-requires-clause-room
column-requires-clause-room c =
    let there : slice_get c.args.columns.now c.loop-q.q ≡ Some c.index-columns-q.result = slice_get_read c.args.columns.now
    (length c.args.columns.now) c.loop-q.q c.index-columns-q.result refl c.loop-q-test.true c.index-columns-q.is in
    let steps = ap steps_cells c.all.ensures in
    omega (
      arith,
      c.requires.room,
      c.loop-q.invariant.adds.cells,
      c.loop-q.invariant.adds.grows.limit,
      steps,
      sum_next steps_cells c.args.columns.now c.loop-q.q _ there,
      sum_part steps_cells c.args.columns.now (c.loop-q.q + 1),
      c.loop-q-test.true,
    )
