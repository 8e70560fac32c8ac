use Rattle.std.proofs.Common.{◌≡◌, ◌≤◌, ◌-◌, List, length}
use Rattle.ae_vtoken.specs.Tokens.{TokenTree}
use Rattle.ae_vtoken.specs.Scan.{ReadTo}
use Rattle.ae_vtoken.proofs.cursor.count.Given as goal

abbrev pub invariant-scan : goal.invariant-scan
invariant-scan l = (ts : List TokenTree) × ReadTo l.text l.i ts × (length ts ≡ l.count) × (l.count ≤ l.i)

abbrev pub decreases-scan : goal.decreases-scan
decreases-scan l = length l.text - l.i
