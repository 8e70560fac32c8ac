use Rattle.std.proofs.Common.{◌≡◌, ◌+◌, ◌-◌, refl, sym, ap, subst, ◌∙◌, arith, suc}
use Rattle.ae_vmodule.specs.Held.{held}
use Rattle.ae_vmodule.specs.Postfix.{step}
use Rattle.ae_vread.specs.Parts.{gather}
use Rattle.ae_vmodule.specs.Stacks.{HasExprs}
use Rattle.ae_vmodule.specs.declared.symbols.Symbol.TheVariants.{One, More}
use Rattle.ae_vread.proofs.PartLaws.{all_gathered, more_parts_there, some_part}
use Rattle.ae_vread.proofs.reading.Reader.join_parts.Goals as goal

pub one-requires : goal.one-requires
one-requires c = record { some = some_part c.args.count (held c.args.self.now.stack) c.requires.some }

pub more-init : goal.more-init
more-init c =
    let h = some_part c.args.count (held c.args.self.now.stack) c.requires.some in
    record {
      pieces = c.in_ok-one.ensures.pieces h.0 h.1 h.2 ∙ sym (ap (step One) h.2);
      tokens = refl;
      words = refl;
      few = omega (arith, c.in_ok-one.ensures.few);
    }

pub more-requires-clause-some : goal.more-requires-clause-some
more-requires-clause-some c =
    subst HasExprs (sym c.more.invariant.pieces)
    (more_parts_there c.args.count (c.more.turn - 1) (held c.args.self.now.stack) c.requires.some (omega (arith, c.more-test.true, c.more.auto.turn)))

pub more-preserved : goal.more-preserved
more-preserved c =
    let old = held c.args.self.now.stack in
    let n = c.more.turn - 1 in
    let h = more_parts_there c.args.count n old c.requires.some (omega (arith, c.more-test.true, c.more.auto.turn)) in
    let next : suc n ≡ c.more.turn + 1 - 1 = omega (arith, c.more.auto.turn) in
    record {
      pieces = c.in_ok-more.ensures.pieces h.0 h.1 h.2 (c.more.invariant.pieces ∙ h.3) ∙ sym (ap (step (More 0)) h.3) ∙ ap (λ k. gather k old) next;
      tokens = c.more.invariant.tokens;
      words = c.more.invariant.words;
      few = omega (arith, c.in_ok-more.ensures.few, c.more.invariant.few);
    }

pub returns-clause-pieces : goal.returns-clause-pieces
returns-clause-pieces c ps below many is =
    c.more.invariant.pieces ∙ ap (gather (c.more.turn - 1)) is
    ∙ all_gathered ps (c.more.turn - 1) below (omega (arith, many, c.more-test.false, c.more.auto.turn, c.more.auto.turn-end, c.requires.some.2))
