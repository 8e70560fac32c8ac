use Rattle.std.proofs.Common.{◌≡◌, ◌++◌, ◌∷◌, [], List, ℕ, map, OnOk, subst, ◌∙◌}
use Rattle.std.specs.String.{string_bytes}
use Rattle.ae_seq.specs.Formed.{func_names, node_names, param_names}
use Rattle.ae_seq.specs.declared.program.Param.{Param}
use Rattle.ae_seq.specs.declared.program.Node.{Node}
use Rattle.ae_seq.specs.ProgramTree.{func_tree, FuncTree}
use Rattle.ae_seq.specs.Trees.{func_trees, node_trees, param_trees}
use Rattle.ae_print.specs.Printed.{end_fields, head_fields, node_fields, text_of}
use Rattle.ae_print.proofs.PrintLemmas.{two-texts}
use Rattle.ae_print.proofs.printer.put_func.Goals as goal

pub returns-clause-written : goal.returns-clause-written
returns-clause-written c =
    let f : FuncTree = func_tree c.args.func.now in
    let old : List ℕ = string_bytes c.args.out.now in
    let all = func_names (func_trees c.args.funcs.now) in
    let names : List Param → List Node → List (List ℕ) = λ ps ns. param_names (param_trees ps) ++ node_names (node_trees ns) in
    let nodes_of : List Param → List Node → List (List (List ℕ)) = λ ps ns. map (node_fields all (names ps ns)) (node_trees ns) in
    let end_of : List Param → List Node → List ℕ → List (List (List ℕ)) = λ ps ns rs. end_fields (names ps ns) rs ∷ [] in
    let nodes : List (List (List ℕ)) = nodes_of c.args.func.now.params.items c.args.func.now.nodes.items in
    let head : List (List (List ℕ)) = head_fields f ∷ [] in
    let last : List (List (List ℕ)) = end_of c.args.func.now.params.items c.args.func.now.nodes.items c.args.func.now.results.items in
    let front = c.in_ok-put_nodes.ensures.written
    ∙ (λ i. string_bytes c.put_head.new.out ++ text_of (nodes_of (c.deref.ensures.value i) (c.deref-2.ensures.value i)))
    ∙ two-texts old (string_bytes c.put_head.new.out) head nodes c.in_ok-put_head.ensures in
    let back = (λ i. string_bytes c.put_nodes.new.out ++ text_of (end_of (c.deref-3.ensures.value i) (c.deref-4.ensures.value i) (c.deref-5.ensures.value i)))
    ∙ two-texts old (string_bytes c.put_nodes.new.out) (head ++ nodes) last front in
    subst (λ (y : List ℕ). OnOk c.put_end.result (string_bytes c.put_end.new.out ≡ y)) back c.put_end.ensures
