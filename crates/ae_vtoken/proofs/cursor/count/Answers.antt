use Rattle.std.proofs.Common.{◌≡◌, ◌+◌, length, ◌++◌, ◌∷◌, [], arith, ◌∙◌, length-append}
use Rattle.ae_vtoken.specs.Scan.{token_view}
use Rattle.ae_vtoken.proofs.Passing.{read_more, read_all, read_stuck}
use Rattle.ae_vtoken.proofs.cursor.count.Goals as goal

-- nothing is left
pub returns-then-at-text-clause-ok : goal.returns-then-at-text-clause-ok
returns-then-at-text-clause-ok c =
    let read = c.scan.invariant in
    (read.0, read_all c.args.text.now c.scan.i c.gap_end-at.result read.0 read.1 c.gap_end-at.ensures.rest (omega arith), read.2)

-- no token stands here
pub returns-in_default-clause-fault : goal.returns-in_default-clause-fault
returns-in_default-clause-fault c =
    let read = c.scan.invariant in
    read_stuck c.args.text.now c.scan.i c.gap_end-at.result read.0 read.1 c.gap_end-at.ensures.rest (omega arith) c.in_default.ensures.none

-- one token more
pub scan-preserved : goal.scan-preserved
scan-preserved c =
    let read = c.scan.invariant in
    let found = c.in-Some.ensures.found in
    let t = token_view c.in-Some._token in
    let past = found.past in
    let gap = c.gap_end-at.ensures.within in (
      read.0 ++ t ∷ [],
      read_more c.args.text.now c.scan.i c.gap_end-at.result c.in-Some.end t read.0 read.1 c.gap_end-at.ensures.rest found,
      length-append read.0 (t ∷ []) ∙ (let e : length read.0 + 1 ≡ c.scan.count + 1 = omega (arith, read.2) in e),
      omega (arith, read.3, past, gap.0),
    )
