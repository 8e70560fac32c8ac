use Rattle.std.proofs.Common.{◌≡◌, ◌+◌, sym, ap, subst, ◌∙◌, arith, suc}
use Rattle.ae_vmodule.specs.Held.{held}
use Rattle.ae_vmodule.specs.Postfix.{step}
use Rattle.ae_vread.specs.ReadStmt.{gather_stmts}
use Rattle.ae_vmodule.specs.Stacks.{HasStmts}
use Rattle.ae_vmodule.specs.declared.symbols.Symbol.TheVariants.{Then}
use Rattle.ae_vread.proofs.StmtParts.{all_gathered, more_stmts_there}
use Rattle.ae_vread.proofs.reading.Reader.join_stmts.Goals as goal

pub then-requires-clause-some : goal.then-requires-clause-some
then-requires-clause-some c =
    subst HasStmts (sym c.more.invariant.pieces) (more_stmts_there c.args.count c.more.turn (held c.args.self.now.stack) c.requires.some c.more-test.true)

pub more-preserved : goal.more-preserved
more-preserved c =
    let old = held c.args.self.now.stack in
    let h = more_stmts_there c.args.count c.more.turn old c.requires.some c.more-test.true in
    let next : suc c.more.turn ≡ c.more.turn + 1 = omega arith in
    record {
      pieces = c.in_ok-then.ensures.pieces h.0 h.1 h.2 (c.more.invariant.pieces ∙ h.3) ∙ sym (ap (step (Then 0)) h.3) ∙ ap (λ k. gather_stmts k old) next;
      tokens = c.more.invariant.tokens;
      words = c.more.invariant.words;
      few = omega (arith, c.in_ok-then.ensures.few, c.more.invariant.few);
    }

pub returns-clause-pieces : goal.returns-clause-pieces
returns-clause-pieces c ss below many is =
    c.more.invariant.pieces ∙ ap (gather_stmts c.more.turn) is
    ∙ all_gathered ss c.more.turn below (omega (arith, many, c.more-test.false, c.more.auto.turn-end))
