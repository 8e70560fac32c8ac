-- Sources and sinks, as their calls see them.
use Rattle.std.specs.Prelude.{ℕ, Bool, ◌==◌, List}
use Rattle.std.specs.List.{list_any}

-- the call of this number is one of those that fail
abbrev pub fails : (failing : List ℕ) (call : ℕ) → Bool
fails failing call = list_any (λ f. f == call) failing

-- the bytes left, the most that a call gives, the numbers of the calls that fail, how many calls there were, and how many failed
pub record SourceState : Type 0 where
  pub left : List ℕ
  pub piece : ℕ
  pub failing : List ℕ
  pub calls : ℕ
  pub faults : ℕ

-- the bytes written, the most that a call takes, the numbers of the calls that fail, how many calls there were, and how many failed, were refused memory, and ended
pub record SinkState : Type 0 where
  pub written : List ℕ
  pub piece : ℕ
  pub failing : List ℕ
  pub calls : ℕ
  pub faults : ℕ
  pub wants : ℕ
  pub ends : ℕ

-- the bytes written, how often memory was refused, and how often it ended
pub record SureState : Type 0 where
  pub written : List ℕ
  pub wants : ℕ
  pub ends : ℕ

-- how many calls of a sink over std's writer failed, and how often it ended
pub record EdgeState : Type 0 where
  pub faults : ℕ
  pub ends : ℕ
