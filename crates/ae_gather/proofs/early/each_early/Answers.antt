use Rattle.std.proofs.Common.{◌≡◌, ◌+◌, length, slice_get, Some, refl, arith, ap, ◌∙◌}
use Rattle.std.proofs.lemmas.List.{length_push}
use Rattle.std.proofs.lemmas.Option.{slice_get_read, slice_get_within}
use Rattle.ae_columns.proofs.Earliness.{early_push}
use Rattle.ae_gather.proofs.early.each_early.Goals as goal

pub loop-q-preserved : goal.loop-q-preserved
loop-q-preserved c =
    let there : slice_get c.args.columns.now c.loop-q.q ≡ Some c.index-columns-q.result = slice_get_read c.args.columns.now
    (length c.args.columns.now) c.loop-q.q c.index-columns-q.result refl c.loop-q-test.true c.index-columns-q.is in
    let own = rw c.all.ensures at c.is_chosen_early.ensures in
    record {
      long = rw c.in_ok-push.ensures.items (length_push c.loop-q.early.items c.is_chosen_early.result ∙ ap (λ n. n + 1) c.loop-q.invariant.long);
      late = rw c.in_ok-push.ensures.items (early_push c.loop-q.early.items c.is_chosen_early.result c.args.columns.now c.loop-q.q c.index-columns-q.result
          c.loop-q.invariant.long there own c.loop-q.invariant.late);
    }

pub returns-clause-late : goal.returns-clause-late
returns-clause-late c = λ q steps f on. c.loop-q.invariant.late q steps (omega (arith, slice_get_within c.args.columns.now q steps f, c.loop-q-test.false)) f on
