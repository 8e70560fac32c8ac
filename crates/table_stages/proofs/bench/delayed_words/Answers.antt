use Rattle.std.proofs.Common.{◌*◌, ◌+◌, ◌≤◌, arith}
use Rattle.std.proofs.Math.Nat.{mul-le-mul_right}
use Rattle.table_stages.proofs.bench.delayed_words.Goals as goal

pub show_inputs-requires : goal.show_inputs-requires
show_inputs-requires c =
    let few : c.args.lanes ≤ 100 = omega (arith, c.if-lanes-gt100.false) in
    let most : c.args.lanes * (8 * c.args.slack + 4) ≤ 100 * (8 * c.args.slack + 4) = mul-le-mul_right (8 * c.args.slack + 4) few in
    rw c.new-nl.ensures (omega (arith, few, most, c.if-slack-gt1000.false))
