use Rattle.std.proofs.Common.{◌∙◌, map, get_or, ap, arith}
use Rattle.std.proofs.lemmas.List.{take_all}
use Rattle.std.proofs.lemmas.Option.{slice_get-get_or}
use Rattle.ae_rewrite.specs.StProgramTree.{st_trees}
use Rattle.ae_fuse.specs.Labels.{labelled_origin}
use Rattle.ae_fuse.proofs.NumberSteps.{origins-more}
use Rattle.ae_fuse.proofs.numbers.label_origins.Goals as goal

pub loop-label-preserved : goal.loop-label-preserved
loop-label-preserved c =
    let k = c.loop-label.label-index in
    let ls = c.args.labels.now in
    rw c.in_ok-push.ensures.items
    (origins-more (st_trees c.args.ins.now) ls k (get_or ls k 0) _ c.origin.result
    (slice_get-get_or ls k 0 c.loop-label-test.true) c.loop-label.invariant c.origin.ensures)

pub returns : goal.returns
returns c =
    c.loop-label.invariant ∙ ap (map (labelled_origin (st_trees c.args.ins.now)))
    (take_all c.loop-label.label-index c.args.labels.now (omega (arith, c.loop-label-test.false)))
