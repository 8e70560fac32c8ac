use Rattle.std.proofs.Common.{◌≡◌, ◌++◌, take}
use Rattle.ae_vcd.specs.Held.{row}
use Rattle.ae_vcd.proofs.body.Recorded.push_row.Given as goal

abbrev pub invariant-loop-number : goal.invariant-loop-number
invariant-loop-number l = record {
  words : l.self.words.items ≡ l.fn.self.words.items ++ row l.fn.self.latest.items (take l.number-index l.numbers);
  now : l.self.latest ≡ l.fn.self.latest;
  count : l.self.count ≡ l.fn.self.count;
  last : l.self.last ≡ l.fn.self.last;
  times : l.self.times ≡ l.fn.self.times;
}
