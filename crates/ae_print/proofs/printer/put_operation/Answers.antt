use Rattle.std.proofs.Common.{◌≡◌, ◌++◌, List, ℕ, map, OnOk, subst, ap, ◌∙◌}
use Rattle.std.specs.String.{string_bytes}
use Rattle.ae_seq.specs.Formed.{func_names, node_names, param_names}
use Rattle.ae_seq.specs.ProgramTree.{op_tree}
use Rattle.ae_seq.specs.Trees.{func_trees, node_trees, param_trees}
use Rattle.ae_print.specs.Printed.{name_at, op_fields, spaced}
use Rattle.ae_print.proofs.PrintLemmas.{two-parts}
use Rattle.ae_print.proofs.printer.put_operation.Goals as goal

pub returns-clause-written : goal.returns-clause-written
returns-clause-written c =
    let ops = op_fields (func_names (func_trees c.args.funcs.now)) (op_tree c.args.node.now.op) in
    let named : List ℕ → List (List ℕ) = map (name_at (param_names (param_trees c.args.params.now) ++ node_names (node_trees c.args.nodes.now))) in
    let two = two-parts (string_bytes c.args.out.now) (string_bytes c.put_op.new.out) ops (named c.deref.result.now) c.in_ok-put_op.ensures.written in
    subst (λ (y : List ℕ). OnOk c.put_items.result (string_bytes c.put_items.new.out ≡ y))
    (two ∙ ap (λ ks. string_bytes c.args.out.now ++ spaced (ops ++ named ks)) c.deref.ensures.value) c.put_items.ensures
