use Rattle.std.proofs.Common.{◌≡◌, ◌-◌, ◌<◌, ◌≤◌, ◌∙◌, List, length, map, get_or, arith, sym, subst}
use Rattle.std.proofs.lemmas.List.{length-map}
use Rattle.ae_seq.specs.declared.program.Node.{Node}
use Rattle.ae_seq.specs.declared.program.Param.{Param}
use Rattle.ae_seq.specs.ProgramTree.{node_tree, param_tree}
use Rattle.ae_seq.specs.Formed.{node_names}
use Rattle.ae_compile.proofs.ItemNames.{behind_params, node_at, param_at}
use Rattle.ae_compile.proofs.notes.item_name.Goals as goal

pub returns-then-item-params : goal.returns-then-item-params
returns-then-item-params c =
    let f = c.args.func.now in
    let q = c.index-params-item.result in
    let same = c.as_slice-params.ensures.value in
    let below : c.args.item < length f.params.items = subst (λ (ps : List Param). c.args.item < length ps) same c.if-item-params.true in
    let found : q ≡ get_or f.params.items c.args.item q = subst (λ (ps : List Param). q ≡ get_or ps c.args.item q) same c.index-params-item.is in
    c.as_str.ensures.value ∙ sym (param_at f.params.items (node_names (map node_tree f.nodes.items)) c.args.item q below found)

pub returns : goal.returns
returns c =
    let f = c.args.func.now in
    let n = c.index-nodes-item.result in
    let same = c.as_slice-params.ensures.value in
    let above : length f.params.items ≤ c.args.item = subst (λ (ps : List Param). length ps ≤ c.args.item) same c.if-item-params.false in
    let first : n ≡ get_or f.nodes.items (c.args.item - length c.as_slice-params.result.now) n =
    subst (λ (ns : List Node). n ≡ get_or ns (c.args.item - length c.as_slice-params.result.now) n) c.as_slice-nodes.ensures.value c.index-nodes-item.is in
    let found : n ≡ get_or f.nodes.items (c.args.item - length f.params.items) n = subst
    (λ (ps : List Param). n ≡ get_or f.nodes.items (c.args.item - length ps) n) same first in
    let below : c.args.item - length f.params.items < length
    f.nodes.items = omega (arith, c.requires, above, length-map f.params.items param_tree, length-map f.nodes.items node_tree) in
    c.as_str-2.ensures.value
    ∙ sym (behind_params f.params.items (node_names (map node_tree f.nodes.items)) c.args.item above ∙
    node_at f.nodes.items (c.args.item - length f.params.items) n below found)
