use Rattle.std.proofs.Common.{◌≡◌}
use Rattle.bench_calls.proofs.stepping.run.Given as goal

abbrev pub invariant-loop : goal.invariant-loop
invariant-loop l = (l.sim.cells ≡ l.fn.nl.cells) × (l.sim.outlets ≡ l.fn.nl.outlets)
