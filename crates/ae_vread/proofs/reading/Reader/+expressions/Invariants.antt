use Rattle.std.proofs.Common.{◌≡◌, ◌+◌, ◌-◌, ◌*◌, ◌≤◌, [], length}
use Rattle.ae_vtoken.specs.Ahead.{ahead}
use Rattle.ae_vmodule.specs.Held.{held}
use Rattle.ae_vmodule.specs.Words.{Extends}
use Rattle.ae_vread.specs.Reading.{Found, Parts, expression, joined_at, operators, parts, parts_of}
use Rattle.ae_vread.specs.ReadExpr.{Holds, used}
use Rattle.ae_vread.specs.Parts.{HoldsParts}
use Rattle.ae_vread.proofs.reading.Reader.+expressions.Given as goal

abbrev pub decreases-expression : goal.decreases-expression
decreases-expression l = 8 * l.budget

abbrev pub decreases-joined_at : goal.decreases-joined_at
decreases-joined_at l = 8 * l.budget + 7

abbrev pub decreases-unary_at : goal.decreases-unary_at
decreases-unary_at l = 8 * l.budget + 6

abbrev pub decreases-operand : goal.decreases-operand
decreases-operand l = 8 * l.budget + 5

abbrev pub decreases-named : goal.decreases-named
decreases-named l = 8 * l.budget + 4

abbrev pub decreases-selected : goal.decreases-selected
decreases-selected l = 8 * l.budget + 3

abbrev pub decreases-braces : goal.decreases-braces
decreases-braces l = 8 * l.budget + 2

abbrev pub decreases-chosen : goal.decreases-chosen
decreases-chosen l = 8 * l.budget + 1

-- what is left to do is what there was to do
abbrev pub invariant-joined_at-turn : goal.invariant-joined_at-turn
invariant-joined_at-turn l =
    (x : Found) × Holds (held l.fn.self.stack) l.self l.depth x × Extends l.fn.self.words l.self.words
    × (joined_at (expression l.budget) l.least (ahead l.fn.self.tokens) ≡ operators (expression l.budget) (256 - l.turn) l.least x)
    × (used l.self ≤ used l.fn.self)

abbrev pub invariant-braces-part : goal.invariant-braces-part
invariant-braces-part l =
    (p : Parts) × HoldsParts (held l.fn.self.stack) l.self l.depth l.count p × Extends l.fn.self.words l.self.words
    × (parts (expression l.budget) (length (ahead l.fn.self.tokens)) (parts_of [] 0 (ahead l.fn.self.tokens))
    ≡ parts (expression l.budget) (length (ahead l.fn.self.tokens) - l.turn) p)
    × (used l.self + l.count ≤ used l.fn.self) × (l.count ≤ l.turn)
