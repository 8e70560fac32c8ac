-- One counter or two.
use Rattle.std.proofs.Common.{ℕ, ◌*◌, min, ◌≡◌, ◌+◌, ◌-◌, ◌%◌, ◌≤◌, false, length, arith, rules, ap, ◌∙◌}
use Rattle.ae_gates.proofs.Adding.{adds_most, adds_trans}
use Rattle.ae_columns.specs.Columns.{IsPhaseNet}
use Rattle.ae_columns.specs.Early.{is_early}
use Rattle.ae_columns.proofs.Choosing.{phase_grows}
use Rattle.ae_columns.proofs.Earliness.{all_false, all_true, two_flags}
use Rattle.ae_columns.proofs.Scheduled.{has_either, has_later, has_sooner}
use Rattle.ae_columns.proofs.Counted.{counted_trans}
use Rattle.ae_columns.proofs.phases.counters.Goals as goal
use Rattle.ae_clocked.proofs.InRow.{keeps_trans}

pub returns-then-not-has-clause-belongs : goal.returns-then-not-has-clause-belongs
returns-then-not-has-clause-belongs c = c.in_ok-only.ensures.belongs

pub returns-then-not-has-clause-keeps : goal.returns-then-not-has-clause-keeps
returns-then-not-has-clause-keeps c = c.in_ok-only.ensures.keeps

pub returns-then-not-has-2-clause-belongs : goal.returns-then-not-has-2-clause-belongs
returns-then-not-has-2-clause-belongs c = c.in_ok-only-2.ensures.belongs

pub returns-then-not-has-2-clause-keeps : goal.returns-then-not-has-2-clause-keeps
returns-then-not-has-2-clause-keeps c = c.in_ok-only-2.ensures.keeps

pub returns-clause-belongs : goal.returns-clause-belongs
returns-clause-belongs c = c.in_ok-sooner.ensures.belongs

pub returns-then-not-has-clause-counters : goal.returns-then-not-has-clause-counters
returns-then-not-has-clause-counters c = λ q l.
    let off : c.has.result ≡ false = search rules in
    has_later _ _ _ _ _ _ (is_early c.args.early.now q) (all_false c.args.early.now (c.has.ensures.none off) q l) c.in_ok-only.ensures.counts
    c.in_ok-only.ensures.periodic c.in_ok-only.ensures.limits (c.in_ok-only.ensures.offsets ∙ c.offset-begin.ensures)

pub returns-then-not-has-2-clause-counters : goal.returns-then-not-has-2-clause-counters
returns-then-not-has-2-clause-counters c = λ q l.
    let off : c.has-2.result ≡ false = search rules in
    has_sooner _ _ _ _ _ _ (is_early c.args.early.now q) (all_true c.args.early.now (c.has-2.ensures.none off) q l) c.in_ok-only-2.ensures.counts
    c.in_ok-only-2.ensures.periodic c.in_ok-only-2.ensures.limits
    (c.in_ok-only-2.ensures.offsets ∙ c.offset-ahead.ensures ∙ ap (λ n. (n + (c.args.period - 1)) % c.args.period) c.offset-begin.ensures)

pub returns-clause-keeps : goal.returns-clause-keeps
returns-clause-keeps c = keeps_trans c.in_ok-later.ensures.keeps c.in_ok-sooner.ensures.keeps

pub returns-clause-adds : goal.returns-clause-adds
returns-clause-adds c =
    let p = c.has.ensures.found (search rules) in
    let q = c.has-2.ensures.found (search rules) in
    let two : 2 ≤ length c.args.early.now = two_flags c.args.early.now p.0 q.0 p.1 q.1 in
    adds_most _ (omega arith) (adds_trans c.in_ok-later.ensures.adds c.in_ok-sooner.ensures.adds)

pub returns-clause-counters : goal.returns-clause-counters
returns-clause-counters c = λ q l.
    let later = phase_grows c.in_ok-sooner.ensures.adds.grows.extends c.in_ok-later.ensures.counts in
    let sooner : IsPhaseNet c.counting-3.new.nl.cells c.args.clocks.now.rst c.in_ok-sooner.sooner = rw c.in_ok-later.ensures.keeps.rst at
    c.in_ok-sooner.ensures.counts in
    has_either _ _ _ _ _ _ (is_early c.args.early.now q) later c.in_ok-later.ensures.periodic c.in_ok-later.ensures.limits
    (c.in_ok-later.ensures.offsets ∙ c.offset-begin.ensures)
    sooner c.in_ok-sooner.ensures.periodic c.in_ok-sooner.ensures.limits
    (c.in_ok-sooner.ensures.offsets ∙ c.offset-ahead.ensures ∙ ap (λ n. (n + (c.args.period - 1)) % c.args.period) c.offset-begin.ensures)

-- one counter takes no more than there is room for
one_room : (n : ℕ) → 1 ≤ n → 12 ≤ 12 * min 2 n
one_room n h = omega arith

pub returns-then-not-has-clause-adds : goal.returns-then-not-has-clause-adds
returns-then-not-has-clause-adds c = adds_most _ (one_room _ c.requires.some) c.in_ok-only.ensures.adds

pub returns-then-not-has-2-clause-adds : goal.returns-then-not-has-2-clause-adds
returns-then-not-has-2-clause-adds c = adds_most _ (one_room _ c.requires.some) c.in_ok-only-2.ensures.adds

pub returns-then-not-has-clause-counted : goal.returns-then-not-has-clause-counted
returns-then-not-has-clause-counted c = c.in_ok-only.ensures.counted

pub returns-then-not-has-2-clause-counted : goal.returns-then-not-has-2-clause-counted
returns-then-not-has-2-clause-counted c = c.in_ok-only-2.ensures.counted

pub returns-clause-counted : goal.returns-clause-counted
returns-clause-counted c = counted_trans c.in_ok-later.ensures.counted c.in_ok-sooner.ensures.counted

pub counting-requires-clause-room : goal.counting-requires-clause-room
counting-requires-clause-room c = omega (arith, c.requires.room, one_room _ c.requires.some)

pub counting-requires-2-clause-room : goal.counting-requires-2-clause-room
counting-requires-2-clause-room c = omega (arith, c.requires.room, one_room _ c.requires.some)

pub counting-requires-3-clause-room : goal.counting-requires-3-clause-room
counting-requires-3-clause-room c =
    let p = c.has.ensures.found (search rules) in
    let q = c.has-2.ensures.found (search rules) in
    let two : 2 ≤ length c.args.early.now = two_flags c.args.early.now p.0 q.0 p.1 q.1 in
    omega (arith, c.requires.room, c.in_ok-later.ensures.adds.cells, c.in_ok-later.ensures.adds.grows.limit, two)
