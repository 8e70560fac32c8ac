use Rattle.std.proofs.Common.{refl, ℕ, ◌≡◌, ◌*◌, ◌<◌, ◌≤◌, nat_lt, not, true, false, rules, arith}
use Rattle.ae_scan.proofs.Sweeping.{join_both, join_one}
use Rattle.ae_word.specs.WordTable.{bit}
use Rattle.ae_netlist.specs.Circuit.{Circuit}
use Rattle.ae_gates.specs.Cells.{Adds}
use Rattle.ae_fold.proofs.Feeding.{adds_is}
use Rattle.ae_scan.proofs.sweep.join.Goals as goal

adds_alone : {a b : Circuit} (q reach own : ℕ) → q < reach → Adds a b 1 0 → Adds a b 9 (bit (not (nat_lt q reach)) * own)
adds_alone q reach own less h = let t : nat_lt q reach ≡ true = search rules in rw t (adds_is (omega arith) (omega arith) h)

adds_two : {a b : Circuit} (q reach own : ℕ) → reach ≤ q → Adds a b 9 own → Adds a b 9 (bit (not (nat_lt q reach)) * own)
adds_two q reach own past h = let t : nat_lt q reach ≡ false = search rules in rw t (adds_is (omega arith) (omega arith) h)

pub returns-in_ok-both-clause-join : goal.returns-in_ok-both-clause-join
returns-in_ok-both-clause-join c =
    join_both _ c.args.fold c.args.nets.now c.args.q c.args.reach _ _ c.in_ok-both.both c.if-q-reach.false refl refl c.in_ok-both.ensures.net
    c.in_ok-both.ensures.words

pub returns-in_ok-later-clause-join : goal.returns-in_ok-later-clause-join
returns-in_ok-later-clause-join c =
    join_one _ _ c.args.fold c.args.nets.now c.args.q c.args.reach _ c.in_ok-later.later c.if-q-reach.true refl c.in_ok-later.ensures.net
    c.in_ok-later.ensures.words

pub delayed-requires-clause-net : goal.delayed-requires-clause-net
delayed-requires-clause-net c = c.requires.own

pub returns-in_ok-later-clause-adds : goal.returns-in_ok-later-clause-adds
returns-in_ok-later-clause-adds c = adds_alone c.args.q c.args.reach _ c.if-q-reach.true c.in_ok-later.ensures.adds

pub returns-in_ok-both-clause-adds : goal.returns-in_ok-both-clause-adds
returns-in_ok-both-clause-adds c = adds_two c.args.q c.args.reach _ c.if-q-reach.false c.in_ok-both.ensures.adds
