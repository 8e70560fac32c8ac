use Rattle.std.proofs.Common.{length, refl, ℕ, ◌≡◌, ◌+◌, ◌*◌, ◌<◌, ◌≤◌, nat_lt, true, false, rules, arith}
use Rattle.ae_reduce.proofs.Treeing.{pair_both, pair_one}
use Rattle.ae_word.specs.WordTable.{bit}
use Rattle.ae_netlist.specs.Circuit.{Circuit}
use Rattle.ae_gates.specs.Cells.{Adds}
use Rattle.ae_fold.proofs.Feeding.{adds_is}
use Rattle.ae_reduce.proofs.tree.pair.Goals as goal

adds_alone : {a b : Circuit} (right total own : ℕ) → total ≤ right → Adds a b 1 0 → Adds a b (1 + 8 * bit (nat_lt right total)) (bit (nat_lt right total) * own)
adds_alone right total own past h = let t : nat_lt right total ≡ false = search rules in rw t (adds_is (omega arith) (omega arith) h)

adds_two : {a b : Circuit} (right total own : ℕ) → right < total → Adds a b 9 own → Adds a b (1 + 8 * bit (nat_lt right total)) (bit (nat_lt right total) * own)
adds_two right total own less h = let t : nat_lt right total ≡ true = search rules in rw t (adds_is (omega arith) (omega arith) h)

pub returns-in_ok-both-clause-pair : goal.returns-in_ok-both-clause-pair
returns-in_ok-both-clause-pair c =
    pair_both _ c.args.fold c.args.nets.now c.args.left c.args.right _ _ c.in_ok-both.both c.if-right-nets.true refl refl c.in_ok-both.ensures.net
    c.in_ok-both.ensures.words

pub returns-in_ok-later-clause-pair : goal.returns-in_ok-later-clause-pair
returns-in_ok-later-clause-pair c =
    pair_one _ _ c.args.fold c.args.nets.now c.args.left c.args.right _ c.in_ok-later.later c.if-right-nets.false refl c.in_ok-later.ensures.net
    c.in_ok-later.ensures.words

pub returns-in_ok-later-clause-adds : goal.returns-in_ok-later-clause-adds
returns-in_ok-later-clause-adds c = adds_alone c.args.right _ _ c.if-right-nets.false c.in_ok-later.ensures.adds

pub returns-in_ok-both-clause-adds : goal.returns-in_ok-both-clause-adds
returns-in_ok-both-clause-adds c = adds_two c.args.right _ _ c.if-right-nets.true c.in_ok-both.ensures.adds

pub joined-requires-clause-room : goal.joined-requires-clause-room
joined-requires-clause-room c =
    let two : nat_lt c.args.right (length c.args.nets.now) ≡ true = search rules in
    let room = rw two at c.requires.room in
    omega (arith, room)
