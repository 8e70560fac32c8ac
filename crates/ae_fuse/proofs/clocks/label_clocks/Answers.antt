use Rattle.std.proofs.Common.{◌≡◌, ◌∙◌, Some, slice_get, length, arith, ap, refl}
use Rattle.std.proofs.lemmas.List.{take_all}
use Rattle.std.proofs.lemmas.Option.{slice_get_read}
use Rattle.ae_rewrite.specs.StProgramTree.{st_trees}
use Rattle.ae_fuse.specs.Clocks.{label_clocks}
use Rattle.ae_fuse.proofs.ClockSteps.{words-next}
use Rattle.ae_fuse.proofs.clocks.label_clocks.Goals as goal

pub add_layout-requires : goal.add_layout-requires
add_layout-requires c =
    let k = c.loop-layout.layout-index in
    let ls = c.args.ins.now in
    let t = c.layout-item.result in
    c.requires.sizes k t (slice_get_read ls (length ls) k t refl c.loop-layout-test.true c.layout-item.is)

pub loop-layout-preserved : goal.loop-layout-preserved
loop-layout-preserved c =
    let k = c.loop-layout.layout-index in
    let ls = c.args.ins.now in
    let t = c.layout-item.result in
    let found : slice_get ls k ≡ Some t = slice_get_read ls (length ls) k t refl c.loop-layout-test.true c.layout-item.is in
    words-next ls k t c.loop-layout.clocks.items _ found c.loop-layout.invariant c.in_ok-add_layout.ensures

pub returns : goal.returns
returns c =
    c.loop-layout.invariant ∙ ap (λ ls. label_clocks (st_trees ls))
    (take_all c.loop-layout.layout-index c.args.ins.now (omega (arith, c.loop-layout-test.false)))
