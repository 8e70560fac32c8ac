-- How large costs may be.
use Rattle.std.specs.Prelude.{◌≤◌}
use Rattle.ae_delay.specs.declared.moves.MoveCosts.{MoveCosts}
use Rattle.ae_delay.specs.declared.own.OwnCosts.{OwnCosts}

-- those of a move of at most 16,384 words
pub record AreSmall (m : MoveCosts) : Type 0 where
  pub latency : m.latency ≤ 4096
  pub delay : m.delay ≤ 268435456
  pub runs : m.runs ≤ 268435456
  pub mems : m.mems ≤ m.delay

-- nothing is more than the load
pub record IsBounded (c : OwnCosts) : Type 0 where
  pub latency : c.latency ≤ c.load
  pub muls : c.muls ≤ c.load
  pub mems : c.mems ≤ c.load
  pub load : c.load ≤ 1000000000000000
