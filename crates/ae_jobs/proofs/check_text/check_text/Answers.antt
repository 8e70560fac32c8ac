use Rattle.std.proofs.Common.{◌≡◌, ◌≤◌, length, map, Some, slice_get, ap, sym, ◌∙◌, arith}
use Rattle.ae_seq.specs.ProgramTree.{FuncTree, param_tree, node_tree, func_tree, program_tree}
use Rattle.ae_rewrite.proofs.Forms.{formed-of, few-nodes, few-funcs}
use Rattle.ae_jobs.proofs.Pieces.{at_index, length_mapped}
use Rattle.ae_jobs.proofs.check_text.check_text.Goals as goal

pub write_func-requires : goal.write_func-requires
write_func-requires c =
    let p = program_tree c.args.p.now in
    let f : FuncTree = func_tree c.func-item.result in
    let i = c.loop-func.func-index in
    let at : slice_get p.funcs i ≡ Some f = ap (λ fs. slice_get (map func_tree fs) i) (sym c.loop-func.invariant.2) ∙
    at_index func_tree _ i c.func-item.result c.loop-func-test.true c.func-item.is in
    let params : length f.params ≡ length c.func-item.result.params.items = length_mapped param_tree c.func-item.result.params.items in
    let nodes : length f.nodes ≡ length c.func-item.result.nodes.items = length_mapped node_tree c.func-item.result.nodes.items in
    let few : length f.params ≤ 8 = (formed-of p i f c.program.ensures.is_formed at).few_params in
    let less : length f.nodes ≤ 4096 = few-nodes p i f c.program.ensures.is_formed at in
    omega (arith, params, nodes, few, less)

pub overflow_add-number : goal.overflow_add-number
overflow_add-number c =
    let p = program_tree c.args.p.now in
    let few : length p.funcs ≤ 4096 = few-funcs p c.program.ensures.is_formed in
    let long : length p.funcs ≡ length c.args.p.now.funcs.items = length_mapped func_tree c.args.p.now.funcs.items in
    let same = ap length c.loop-func.invariant.2 in
    omega (arith, few, long, same, c.loop-func.invariant.1, c.loop-func-test.true)
