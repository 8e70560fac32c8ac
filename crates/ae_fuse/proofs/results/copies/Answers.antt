use Rattle.std.proofs.Common.{◌≡◌, ◌∙◌, ◌∷◌, [], ◌++◌, Some, slice_get, length, take, ap, sym, arith, refl}
use Rattle.std.proofs.lemmas.List.{map_push, take_all}
use Rattle.std.proofs.lemmas.Option.{slice_get_read}
use Rattle.ae_sttype.specs.StTree.{st_tree}
use Rattle.ae_moves.proofs.Lists.{take_push}
use Rattle.ae_rewrite.specs.StProgramTree.{st_trees}
use Rattle.ae_fuse.proofs.results.copies.Goals as goal

pub loop-k-preserved : goal.loop-k-preserved
loop-k-preserved c =
    let k = c.loop-k.k in
    let ls = c.args.layouts.now in
    let t = c.index-layouts-k.result in
    let found : slice_get ls k ≡ Some t = slice_get_read ls (length ls) k t refl (omega arith) c.index-layouts-k.is in
    record {
      trees = ap st_trees c.in_ok-push.ensures.items ∙ map_push st_tree c.loop-k.copied.items c.in_ok-layout.layout
          ∙ (λ i. c.loop-k.invariant.trees i ++ c.in_ok-layout.ensures i ∷ []) ∙ sym (map_push st_tree (take k ls) t) ∙
          ap st_trees (sym (take_push ls k t found));
      within = omega arith;
    }

pub returns : goal.returns
returns c = c.loop-k.invariant.trees ∙ ap st_trees (take_all c.loop-k.k c.args.layouts.now (omega (arith, c.loop-k.invariant.within, c.loop-k-test.false)))
