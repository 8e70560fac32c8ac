use Rattle.std.proofs.Common.{sym, length}
use Rattle.std.proofs.lemmas.List.{length-map}
use Rattle.ae_seq.specs.ProgramTree.{program_tree, node_tree}
use Rattle.ae_rewrite.specs.Planned.{number_lists}
use Rattle.ae_rewrite.proofs.Budgets.{call-below, call-adds, among-new}
use Rattle.ae_rewrite.proofs.reach.visit_node.Goals as goal

pub add_call-requires : goal.add_call-requires
add_call-requires c =
    record {
      there = call-below (program_tree c.args.p.now) c.args.func c.args.budget (length c.args.needs.now.items)
          (node_tree c.args.node.now) c.in-Some.call c.requires.formed c.requires.there (sym c.in-Some.ensures) c.requires.below;
    }

pub returns-in_ok-add_call-clause-added : goal.returns-in_ok-add_call-clause-added
returns-in_ok-add_call-clause-added c =
    call-adds (program_tree c.args.p.now) c.args.func c.args.budget (node_tree c.args.node.now) c.in-Some.call
    (number_lists c.args.needs.now.items) _ c.requires.formed c.requires.there (sym c.in-Some.ensures)
    (rw length-map c.requires.below) c.in_ok-add_call.ensures

pub returns-in_ok-add_call-clause-called : goal.returns-in_ok-add_call-clause-called
returns-in_ok-add_call-clause-called c =
    let below = call-below (program_tree c.args.p.now) c.args.func c.args.budget (length c.args.needs.now.items)
    (node_tree c.args.node.now) c.in-Some.call c.requires.formed c.requires.there (sym c.in-Some.ensures) c.requires.below in
    rw (← c.in-Some.ensures) (among-new (number_lists c.args.needs.now.items) _ c.in-Some.call.func c.in-Some.call.budget
    (rw length-map below) c.in_ok-add_call.ensures)
