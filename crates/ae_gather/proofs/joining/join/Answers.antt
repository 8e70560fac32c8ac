use Rattle.std.proofs.Common.{◌≡◌, length, refl, arith, rules}
use Rattle.std.proofs.lemmas.Option.{slice_get_read}
use Rattle.ae_moves.proofs.Lists.{sum_part}
use Rattle.ae_gather.proofs.OneList.{joined_all, joined_next, joined_none}
use Rattle.ae_gather.proofs.joining.join.Goals as goal

pub overflow_cast-len : goal.overflow_cast-len
overflow_cast-len c = omega (arith, c.loop-k.invariant.joined.long, sum_part length c.args.ins.now c.loop-k.k, c.requires.few)

pub returns-clause-few : goal.returns-clause-few
returns-clause-few c = omega (arith, c.loop-k.invariant.joined.long, sum_part length c.args.ins.now c.loop-k.k, c.requires.few)

pub loop-k-init : goal.loop-k-init
loop-k-init c = record { joined = joined_none _ _ _ (search rules) (search rules); within = omega arith }

pub loop-k-preserved : goal.loop-k-preserved
loop-k-preserved c =
    let at = slice_get_read c.args.ins.now (length c.args.ins.now) c.loop-k.k c.index-ins-k.result refl c.loop-k-test.true c.index-ins-k.is in
    let counted : c.len.result ≡ length c.loop-k.nets.items = first_of (search rules, omega (arith, c.len.ensures, c.loop-k.nets.ok.0)) in
    record {
      joined = rw (c.in_ok-extend_from_slice.ensures.items, c.in_ok-push.ensures.items, c.nets.ensures)
          (joined_next c.loop-k.k _ c.args.ins.now c.loop-k.nets.items c.index-ins-k.result c.loop-k.firsts.items c.loop-k.invariant.joined at counted);
      within = omega (arith, c.loop-k-test.true);
    }

pub returns-clause-joined : goal.returns-clause-joined
returns-clause-joined c =
    joined_all c.loop-k.k c.args.ins.now c.loop-k.nets.items c.loop-k.firsts.items
    (omega (arith, c.loop-k-test.false, c.loop-k.invariant.within)) c.loop-k.invariant.joined
