use Rattle.std.proofs.Common.{arith, sym, ◌∙◌}
use Rattle.ae_vtoken.proofs.GapLemmas.{block_goes, block_ends, block_opens}
use Rattle.ae_vtoken.proofs.gaps.block_end.Goals as goal

pub block-init : goal.block-init
block-init c = (omega arith, omega (arith, c.requires), λ slash. block_opens slash c.args.text.now c.args.from c.requires)

-- the comment ends here
pub returns-then-two_at-clause-within : goal.returns-then-two_at-clause-within
returns-then-two_at-clause-within c =
    let more = c.two_at.ensures.within c.if-two_at.true in
    (omega (arith, c.block.invariant.0), omega (arith, more))

pub returns-then-two_at-clause-rest : goal.returns-then-two_at-clause-rest
returns-then-two_at-clause-rest c slash =
    c.block.invariant.2 slash ∙ block_ends slash c.args.text.now c.block.i (c.two_at.ensures.within c.if-two_at.true)
    (sym c.two_at.ensures.is ∙ c.if-two_at.true)

-- one byte more
pub block-preserved : goal.block-preserved
block-preserved c = (
  omega (arith, c.block.invariant.0),
  omega (arith, c.block-test.true),
  λ slash. c.block.invariant.2 slash ∙ block_goes slash c.args.text.now c.block.i c.block-test.true (sym c.two_at.ensures.is ∙ c.if-two_at.false),
)
