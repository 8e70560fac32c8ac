use Rattle.std.proofs.Common.{◌≡◌, ◌+◌, ◌-◌, ◌*◌, ◌≤◌, [], length}
use Rattle.ae_vtoken.specs.Ahead.{ahead}
use Rattle.ae_vmodule.specs.Held.{held}
use Rattle.ae_vmodule.specs.Words.{Extends}
use Rattle.ae_vread.specs.StmtReading.{Body, statement, body, body_of}
use Rattle.ae_vread.specs.ReadExpr.{used}
use Rattle.ae_vread.specs.ReadStmt.{HoldsBody}
use Rattle.ae_vread.proofs.reading.Reader.+statements.Given as goal

abbrev pub decreases-statement : goal.decreases-statement
decreases-statement l = 4 * l.budget

abbrev pub decreases-statement_at : goal.decreases-statement_at
decreases-statement_at l = 4 * l.budget + 3

abbrev pub decreases-choice_from : goal.decreases-choice_from
decreases-choice_from l = 4 * l.budget + 2

abbrev pub decreases-block : goal.decreases-block
decreases-block l = 4 * l.budget + 1

-- what is left to do is what there was to do
abbrev pub invariant-block-next : goal.invariant-block-next
invariant-block-next l =
    (b : Body) × HoldsBody (held l.fn.self.stack) l.self l.depth l.count b × Extends l.fn.self.words l.self.words
    × (body (statement l.budget) (length (ahead l.fn.self.tokens)) (body_of [] 0 (ahead l.fn.self.tokens))
    ≡ body (statement l.budget) (length (ahead l.fn.self.tokens) - l.turn) b)
    × (used l.self + l.count ≤ used l.fn.self) × (l.count ≤ l.turn)
