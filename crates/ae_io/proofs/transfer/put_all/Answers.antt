use Rattle.std.proofs.Common.{ℕ, ◌-◌, ◌≤◌, length, take, drop, arith, rules, length-take}
use Rattle.ae_io.proofs.TellingLemmas.{appends_part}
use Rattle.ae_io.proofs.transfer.put_all.Goals as goal

pub loop-at-preserved : goal.loop-at-preserved
loop-at-preserved g c =
    let n = c.in_ok-at.field-0 in
    let room : ℕ = length c.args.bytes.now - c.loop-at.at in
    let within : n ≤ length (take room (drop c.loop-at.at c.args.bytes.now)) = c.in_ok-at.ensures.count in
    let few : n ≤ room = omega (arith, length-take room (drop c.loop-at.at c.args.bytes.now)) in
    record {
      within = omega arith;
      given = appends_part _ _ _ c.args.bytes.now c.loop-at.at n room c.loop-at.invariant.given c.in_ok-at.ensures.appended few;
      no_end = search rules;
      no_fault = search rules;
      no_want = search rules;
    }
