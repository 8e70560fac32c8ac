-- One parameter more.
use Rattle.std.proofs.Common.{◌≡◌, Some, slice_get, length, ap, arith, refl}
use Rattle.std.proofs.lemmas.Option.{slice_get_read}
use Rattle.ae_netlist.specs.Circuit.{Circuit}
use Rattle.ae_lower.proofs.Inputs.{bundles_more, params_more, params_most}
use Rattle.ae_lower.proofs.ports.add_inputs.Goals as goal

pub param_inputs-requires-clause-room : goal.param_inputs-requires-clause-room
param_inputs-requires-clause-room c =
    let limit : c.loop-k.nl.limit ≡ c.args.nl.now.limit = ap (λ (n : Circuit). n.limit) c.loop-k.invariant.cells in
    omega (arith, limit, c.loop-k.invariant.most, c.loop-k-test.true, c.requires.room)

pub loop-k-preserved : goal.loop-k-preserved
loop-k-preserved c =
    let t = c.index-layouts-k.result in
    let found : slice_get c.args.layouts.now c.loop-k.k ≡ Some t = slice_get_read c.args.layouts.now (length c.args.layouts.now) c.loop-k.k t refl
    (omega arith) c.index-layouts-k.is in
    let one = c.in_ok-bundle.ensures in
    record {
      cells = params_more _ _ _ c.args.layouts.now c.loop-k.k t c.in_ok-bundle.bundle found c.loop-k.invariant.cells one;
      bundles = bundles_more _ _ _ c.args.layouts.now c.loop-k.k t c.in_ok-bundle.bundle _ _ found c.loop-k.invariant.cells one c.in_ok-push.ensures.items
          c.loop-k.invariant.bundles;
      most = omega (arith, c.loop-k.invariant.most, params_most _ _ c.loop-k.k t c.in_ok-bundle.bundle (c.requires.in_size c.loop-k.k t found) one);
    }
