-- One mark more is placed.
use Rattle.std.proofs.Common.{ℕ, ◌≡◌, Some, slice_get, get_or, arith}
use Rattle.std.proofs.lemmas.Option.{slice_get-get_or}
use Rattle.ae_tidy.proofs.Cutting.{cut_more, marks_push, sure_more}
use Rattle.ae_tidy.proofs.moved.all_moved.Goals as goal

pub loop-mark-preserved : goal.loop-mark-preserved
loop-mark-preserved c =
    let marks = c.args.marks.now in
    let index : ℕ = c.loop-mark.mark-index in
    let mark : ℕ = get_or marks index 0 in
    let place : ℕ = c.made_before-count.result in
    let here : slice_get marks index ≡ Some mark = slice_get-get_or marks index 0 (omega (arith, c.loop-mark-test.true)) in
    record {
      within = c.made_before-count.ensures.within;
      placed = marks_push c.loop-mark.count index place c.loop-mark.places.items c.push.new.self.items c.made_before-count.ensures.more
          c.in_ok-push.ensures.items c.loop-mark.invariant.placed;
      sure = λ cells count a. sure_more c.args.made.now cells count place marks index mark a here
          (c.made_before-count.ensures.cut ((c.loop-mark.invariant.sure cells count a).each index mark (omega arith) here));
      cut = λ cells count a. cut_more c.args.made.now marks c.loop-mark.places.items c.push.new.self.items index mark place c.in_ok-push.ensures.items
          c.loop-mark.invariant.placed.long here
          (c.made_before-count.ensures.cut ((c.loop-mark.invariant.sure cells count a).each index mark (omega arith) here))
          (c.loop-mark.invariant.cut cells count a);
    }
