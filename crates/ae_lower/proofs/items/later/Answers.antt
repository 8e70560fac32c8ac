use Rattle.std.proofs.Common.{ℕ, ◌≢◌, ◌+◌, ◌*◌, ◌≤◌, length, arith}
use Rattle.ae_lower.proofs.items.later.Goals as goal

slack_room : (n slack : ℕ) → slack ≢ 0 → n * (8 * slack + 4) ≤ 16 * (slack * n)
slack_room n slack some = grind (arith, some)

pub delay-requires-clause-room : goal.delay-requires-clause-room
delay-requires-clause-room c = omega (arith, c.requires.room, slack_room (length c.args.bundle.now) c.args.slack c.if-slack-eq0.false)
