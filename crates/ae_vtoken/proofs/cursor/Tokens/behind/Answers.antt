use Rattle.std.proofs.Common.{drop, ap, ◌∙◌}
use Rattle.ae_vtoken.specs.Scan.{token_view}
use Rattle.ae_vtoken.proofs.Fronts.{token_first, none_first, end_first}
use Rattle.ae_vtoken.proofs.cursor.Tokens.behind.Goals as goal

pub returns-then-at-text : goal.returns-then-at-text
returns-then-at-text c =
    let text = c.args.text.now in
    end_first c.args.left text c.args.from (c.gap_end-at.ensures.rest ∙ ap (λ n. drop n text) c.if-at-text.true)

pub returns-in_default : goal.returns-in_default
returns-in_default c = none_first c.args.left c.args.text.now c.args.from c.gap_end-at.result c.gap_end-at.ensures.rest c.in_default.ensures.none

pub returns : goal.returns
returns c =
    token_first c.args.left c.args.text.now c.args.from c.gap_end-at.result c.in-Some.past (token_view c.in-Some.first) c.gap_end-at.ensures.rest
    c.in-Some.ensures.found
