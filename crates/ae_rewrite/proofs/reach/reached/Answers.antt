use Rattle.std.proofs.Common.{◌≡◌, ◌+◌, ◌-◌, arith}
use Rattle.std.proofs.lemmas.List.{length-map}
use Rattle.ae_seq.specs.ProgramTree.{program_tree}
use Rattle.ae_rewrite.specs.Planned.{number_lists, Reaches}
use Rattle.ae_rewrite.proofs.Budgets.{reaches-start, reaches-more}
use Rattle.ae_rewrite.proofs.Reached.{reached-within}
use Rattle.ae_rewrite.proofs.reach.reached.Goals as goal

pub loop-func-init : goal.loop-func-init
loop-func-init c = record {
  reaches = reaches-start (program_tree c.args.p.now) c.args.clocks c.main_of-main.result (number_lists c.in_ok-needs.needs.items) _
      (rw c.program.ensures.program at c.main_of-main.ensures.main)
      (rw length-map c.in_ok-needs.ensures.count) c.in_ok-needs.ensures.empty c.in_ok-visit.ensures.added c.in_ok-visit.ensures.closed;
  low = omega arith;
}

pub visit_all-requires-clause-positive : goal.visit_all-requires-clause-positive
visit_all-requires-clause-positive c = λ u a.
    (reached-within (program_tree c.args.p.now) c.args.clocks _ u c.requires.time (c.loop-func.invariant.reaches.reached _ u a)).0

pub loop-func-preserved : goal.loop-func-preserved
loop-func-preserved c =
    let e : c.loop-func.func ≡ c.loop-func.func - 1 + 1 = omega arith in
    let old : Reaches (program_tree c.args.p.now) c.args.clocks (c.loop-func.func - 1 + 1)
    (number_lists c.loop-func.needs.items) = rw (← e) c.loop-func.invariant.reaches in
    record {
      reaches = reaches-more (program_tree c.args.p.now) c.args.clocks (c.loop-func.func - 1)
          (number_lists c.loop-func.needs.items) _ old c.in_ok-visit_all.ensures.added c.in_ok-visit_all.ensures.closed;
      low = omega (arith, c.loop-func.invariant.low);
    }

pub returns : goal.returns
returns c = let e : c.loop-func.func ≡ 0 = omega arith in rw e at c.loop-func.invariant.reaches
