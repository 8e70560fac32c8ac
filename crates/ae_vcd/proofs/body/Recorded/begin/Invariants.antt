use Rattle.std.proofs.Common.{◌≡◌, ◌++◌, replicate}
use Rattle.ae_vcd.proofs.body.Recorded.begin.Given as goal

abbrev pub invariant-loop-code : goal.invariant-loop-code
invariant-loop-code l = record {
  now : l.self.latest.items ≡ l.fn.self.latest.items ++ replicate l._code 0;
  count : l.self.count ≡ l.fn.self.count;
  last : l.self.last ≡ l.fn.self.last;
  times : l.self.times ≡ l.fn.self.times;
  words : l.self.words ≡ l.fn.self.words;
}
