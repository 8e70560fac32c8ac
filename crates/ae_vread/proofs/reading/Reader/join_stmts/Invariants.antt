use Rattle.std.proofs.Common.{◌≡◌, ◌+◌, ◌≤◌}
use Rattle.ae_vmodule.specs.Held.{held}
use Rattle.ae_vread.specs.ReadStmt.{gather_stmts}
use Rattle.ae_vread.specs.ReadExpr.{used}
use Rattle.ae_vread.proofs.reading.Reader.join_stmts.Given as goal

abbrev pub invariant-more : goal.invariant-more
invariant-more l = record {
  pieces : held l.self.stack ≡ gather_stmts l.turn (held l.fn.self.stack);
  tokens : l.self.tokens ≡ l.fn.self.tokens;
  words : l.self.words ≡ l.fn.self.words;
  few : used l.self ≤ used l.fn.self + l.turn + 1;
}
