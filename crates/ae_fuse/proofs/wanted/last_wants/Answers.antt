use Rattle.std.proofs.Common.{◌≡◌, ◌∙◌, ℕ, ◌+◌, inl, inr, List, Some, slice_get, length, ap, arith, sym, length-append}
use Rattle.std.proofs.lemmas.Bool.{cases_lt}
use Rattle.std.proofs.lemmas.List.{length-map}
use Rattle.std.proofs.lemmas.Option.{same_Some, slice_get_within}
use Rattle.ae_sttype.specs.StTree.{st_tree}
use Rattle.ae_moves.proofs.Lists.{get_mapped}
use Rattle.ae_rewrite.specs.Scheduled.{node_layouts}
use Rattle.ae_rewrite.specs.Sound.{item_layouts}
use Rattle.ae_rewrite.specs.StProgramTree.{StNodeTree, st_func_tree, st_node_tree}
use Rattle.ae_fuse.proofs.wanted.last_wants.Goals as goal

pub raise-requires : goal.raise-requires
raise-requires c i a at =
    let s = c.args.s.now in
    let j = c.loop-j.j in
    let found : slice_get (st_func_tree s).nodes j ≡ Some
    (st_node_tree c.node_at.result.now) = get_mapped st_node_tree s.nodes.items j c.node_at.result.now c.node_at.ensures in
    let here : slice_get c.node_at.result.now.args.items i ≡ Some a = ap (λ (xs : List ℕ). slice_get xs i) (sym c.as_slice.ensures.value) ∙ at in
    let low = c.requires.moves.args j i a (st_node_tree c.node_at.result.now) found here in
    omega (arith, low, length-map s.ins.items st_tree, c.loop-j-test.true, c.loop-j.invariant.long)

pub loop-j-preserved : goal.loop-j-preserved
loop-j-preserved c =
    let s = c.args.s.now in
    let j = c.loop-j.j in
    let own : StNodeTree = st_node_tree c.node_at.result.now in
    let here : slice_get (st_func_tree s).nodes j ≡ Some own = get_mapped st_node_tree s.nodes.items j c.node_at.result.now c.node_at.ensures in
    record {
      long = c.raise.ensures.long ∙ c.loop-j.invariant.long;
      nodes = λ k i a n below found at. elim (cases_lt k j) [
        | inl lt ↦ omega (arith, c.loop-j.invariant.nodes k i a n lt found at, c.raise.ensures.keeps a)
        | inr ge ↦
            let e : k ≡ j = omega (arith, ge, below) in
            let same : own ≡ n = same_Some own n (sym here ∙ ap (slice_get (st_func_tree s).nodes) (sym e) ∙ found) in
            let arg : slice_get c.as_slice.result.now i ≡ Some a = ap (λ (xs : List ℕ). slice_get xs i) c.as_slice.ensures.value ∙
            ap (λ (m : StNodeTree). slice_get m.args i) same ∙ at in
            omega (arith, c.raise.ensures.raised i a arg, e)
      ];
      within = omega (arith, c.loop-j-test.true);
    }

pub returns : goal.returns
returns c =
    let s = c.args.s.now in
    let t = st_func_tree s in
    let nodes : length t.nodes ≡ length s.nodes.items = length-map s.nodes.items st_node_tree in
    let ins : length t.ins ≡ length s.ins.items = length-map s.ins.items st_tree in
    let layouts : length (node_layouts t.nodes) ≡ length t.nodes = length-map t.nodes (λ (n : StNodeTree). n.type) in
    let all : length (item_layouts t) ≡ length t.ins + length (node_layouts t.nodes) = length-append t.ins (node_layouts t.nodes) in
    record {
      many = omega (arith, c.raise-2.ensures.long, c.loop-j.invariant.long, nodes, ins, layouts, all);
      nodes = λ j i a n found at.
          (let low = slice_get_within t.nodes j n found in
          omega (arith, c.loop-j.invariant.nodes j i a n (omega (arith, low, nodes, c.loop-j-test.false)) found at, c.raise-2.ensures.keeps a));
      results = λ r a found.
          (let arg : slice_get c.as_slice-2.result.now r ≡ Some a = ap (λ (xs : List ℕ). slice_get xs r) c.as_slice-2.ensures.value ∙ found in
          omega (arith, c.raise-2.ensures.raised r a arg, nodes));
    }
