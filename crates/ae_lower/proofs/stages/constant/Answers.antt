use Rattle.std.proofs.Common.{◌≡◌, map, arith}
use Rattle.ae_sttype.specs.StTree.{st_tree}
use Rattle.ae_sttype.specs.Moves.{fixed}
use Rattle.ae_moves.specs.Trees.{origin_tree}
use Rattle.ae_delay.proofs.Sourced.{all_fixed, constant_is_move}
use Rattle.ae_lower.proofs.stages.constant.Goals as goal

pub of_move-requires : goal.of_move-requires
of_move-requires c =
    let e : map origin_tree c.in_ok-source.source.items ≡ map fixed c.args.fixed.now = all_fixed c.args.fixed.now c.in_ok-source.source.items
    c.in_ok-source.ensures in
    let t : st_tree c.in_ok-layout.layout ≡ st_tree c.args.out.now = c.in_ok-layout.ensures in
    rw (e, t, c.new.ensures.items) (record {
      move = constant_is_move c.args.fixed.now (st_tree c.args.out.now) c.requires.out
          c.requires.fits;
      few = omega arith;
    })

pub returns : goal.returns
returns c =
    let e : map origin_tree c.in_ok-source.source.items ≡ map fixed c.args.fixed.now = all_fixed c.args.fixed.now c.in_ok-source.source.items
    c.in_ok-source.ensures in
    let t : st_tree c.in_ok-layout.layout ≡ st_tree c.args.out.now = c.in_ok-layout.ensures in
    record { is = rw (e, t, c.new.ensures.items) at c.of_move.ensures }
