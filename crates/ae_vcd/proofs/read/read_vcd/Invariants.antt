use Rattle.std.proofs.Common.{◌+◌, ◌≤◌, length}
use Rattle.ae_vcd.proofs.Loops.{HasReached}
use Rattle.ae_vcd.proofs.read.read_vcd.Given as goal

abbrev pub invariant-loop-word : goal.invariant-loop-word
invariant-loop-word l = record {
  reached : HasReached l.text l.at l.rest l.reader;
  room : l.at + length l.rest ≤ length l.text;
  count : l.reader.recorded.count ≤ l.at;
}

abbrev pub decreases-loop-word : goal.decreases-loop-word
decreases-loop-word l = length l.rest
