-- One column more.
use Rattle.std.proofs.Common.{ℕ, ◌≡◌, ◌+◌, ◌-◌, cond, List, ◌++◌, length, arith, ap, ◌∙◌}
use Rattle.ae_netlist.specs.declared.cell.NetId.{NetId}
use Rattle.ae_netlist.proofs.Growing.{net_later}
use Rattle.ae_gates.proofs.Added.{own_net}
use Rattle.ae_gates.proofs.Adding.{adds_most, adds_none, adds_trans}
use Rattle.ae_clocked.proofs.Belonging.{keeps_same}
use Rattle.ae_moves.proofs.Held.{sum_more}
use Rattle.ae_columns.specs.Held.{is_kept}
use Rattle.ae_columns.proofs.Keeping.{kept_begin, kept_more, kept_whole}
use Rattle.ae_columns.proofs.Parts.{sums_part}
use Rattle.ae_columns.proofs.Counted.{counted_most, counted_none, counted_trans}
use Rattle.ae_columns.proofs.held.all_nets.Goals as goal
use Rattle.ae_clocked.proofs.InRow.{keeps_trans}

pub kept_net-requires-clause-belongs : goal.kept_net-requires-clause-belongs
kept_net-requires-clause-belongs c = c.loop-q.invariant.belongs

pub returns-clause-belongs : goal.returns-clause-belongs
returns-clause-belongs c = c.loop-q.invariant.belongs

pub returns-clause-keeps : goal.returns-clause-keeps
returns-clause-keeps c = c.loop-q.invariant.keeps

pub loop-q-init : goal.loop-q-init
loop-q-init c =
    record {
      belongs = c.requires.belongs;
      keeps = keeps_same _;
      adds = adds_none _;
      counted = counted_none _ _;
      kept = kept_begin _ _ _ _ _ _ _ _ (c.in_ok-extend_from_slice.ensures.items ∙ ap (λ (xs : List NetId). xs ++ c.args.ins.now) c.new-all.ensures.items);
    }

pub kept_net-requires-clause-net : goal.kept_net-requires-clause-net
kept_net-requires-clause-net c =
    own_net (net_later c.loop-q.invariant.adds.grows.extends (c.requires.nets c.loop-q.q (omega (arith, c.loop-q-test.true, c.requires.long))).1)

pub loop-q-preserved : goal.loop-q-preserved
loop-q-preserved c =
    let was = c.loop-q.invariant in
    let more = c.in_ok-net.ensures in
    record {
      belongs = more.belongs;
      keeps = keeps_trans was.keeps more.keeps;
      adds = (let one = sum_more (λ (q : ℕ). cond (is_kept c.args.held.now q) 1 0) c.loop-q.q in
          adds_most _ (omega (arith, one)) (adds_trans was.adds more.adds));
      counted = (let one = sum_more (λ (q : ℕ). cond (is_kept c.args.held.now q) 1 0) c.loop-q.q in
          counted_most _ _ (omega (arith, one)) (omega (arith, one)) (counted_trans was.counted more.counted));
      kept = rw c.in_ok-push.ensures.items (kept_more c.loop-q.q _ _ _ _ _ _ _ _ _ _ more.adds.grows.extends was.kept (rw was.keeps.rst at more.keeps_word));
    }

pub returns-clause-adds : goal.returns-clause-adds
returns-clause-adds c =
    let rest : c.loop-q.q + (length c.args.held.now - c.loop-q.q) ≡ length c.args.held.now = omega arith in
    let part = rw rest at (sums_part (λ (q : ℕ). cond (is_kept c.args.held.now q) 1 0) c.loop-q.q (length c.args.held.now - c.loop-q.q)) in
    adds_most _ (omega (arith, part)) c.loop-q.invariant.adds

pub returns-clause-counted : goal.returns-clause-counted
returns-clause-counted c =
    let rest : c.loop-q.q + (length c.args.held.now - c.loop-q.q) ≡ length c.args.held.now = omega arith in
    let part = rw rest at (sums_part (λ (q : ℕ). cond (is_kept c.args.held.now q) 1 0) c.loop-q.q (length c.args.held.now - c.loop-q.q)) in
    counted_most _ _ part part c.loop-q.invariant.counted

pub returns-clause-kept : goal.returns-clause-kept
returns-clause-kept c = kept_whole c.loop-q.q _ _ _ _ _ _ _ _ (omega (arith, c.loop-q-test.false)) c.requires.long c.loop-q.invariant.kept

pub kept_net-requires-clause-room : goal.kept_net-requires-clause-room
kept_net-requires-clause-room c =
    let one = sum_more (λ (q : ℕ). cond (is_kept c.args.held.now q) 1 0) c.loop-q.q in
    let rest : c.loop-q.q + 1 + (length c.args.held.now - (c.loop-q.q + 1)) ≡ length c.args.held.now = omega (arith, c.loop-q-test.true) in
    let part = rw rest at (sums_part (λ (q : ℕ). cond (is_kept c.args.held.now q) 1 0) (c.loop-q.q + 1) (length c.args.held.now - (c.loop-q.q + 1))) in
    omega (arith, c.requires.room, c.loop-q.invariant.adds.cells, c.loop-q.invariant.adds.grows.limit, one, part)
