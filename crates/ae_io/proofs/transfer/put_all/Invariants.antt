use Rattle.std.proofs.Common.{◌≡◌, ◌-◌, ◌≤◌, length, take}
use Rattle.ae_io.specs.Told.{Appends}
use Rattle.ae_io.proofs.transfer.put_all.Given as goal

abbrev pub invariant-loop-at : goal.invariant-loop-at
invariant-loop-at g l = record {
  within : l.at ≤ length l.bytes;
  given : Appends (g.K.Sink.written l.initial.sink) (g.K.Sink.written l.sink) (take l.at l.bytes);
  no_end : g.K.Sink.ends l.sink ≡ g.K.Sink.ends l.initial.sink;
  no_fault : g.K.Sink.faults l.sink ≡ g.K.Sink.faults l.initial.sink;
  no_want : g.K.Sink.wants l.sink ≡ g.K.Sink.wants l.initial.sink;
}

abbrev pub decreases-loop-at : goal.decreases-loop-at
decreases-loop-at g l = length l.bytes - l.at
