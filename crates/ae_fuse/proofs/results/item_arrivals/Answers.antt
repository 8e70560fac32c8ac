use Rattle.std.proofs.Common.{◌≡◌, ◌∙◌, ℕ, List, Vec, Global, slice_get, length, map, ap, sym, subst, arith}
use Rattle.std.specs.List.{range_with_len}
use Rattle.std.proofs.lemmas.List.{length-map}
use Rattle.ae_sttype.specs.declared.st_type.StType.{StType}
use Rattle.ae_sttype.specs.Size.{IsInSize}
use Rattle.ae_moves.specs.Origins.{IsMove, move_latency}
use Rattle.ae_rewrite.specs.StProgramTree.{st_func_tree, st_trees}
use Rattle.ae_flow.specs.Flow.{layout_words}
use Rattle.ae_fuse.specs.Clocks.{label_clocks}
use Rattle.ae_fuse.specs.Labels.{labelled_origin}
use Rattle.ae_fuse.specs.Moved.{own_move}
use Rattle.ae_fuse.proofs.ItemSteps.{input-sized}
use Rattle.ae_fuse.proofs.ResultSteps.{a_move, arrivals-next}
use Rattle.ae_fuse.proofs.results.item_arrivals.Goals as goal

pub label_clocks-requires : goal.label_clocks-requires
label_clocks-requires c =
    record {
      sizes = λ k t found. input-sized c.args.s.now k t c.requires.moves
          (ap (λ (ts : List StType). slice_get ts k) (sym c.deref.ensures.value) ∙ found);
    }

pub item_arrival-requires-clause-size : goal.item_arrival-requires-clause-size
item_arrival-requires-clause-size c = subst IsInSize (sym c.layout.ensures) (c.requires.each c.loop-i.i (omega arith)).out

pub item_arrival-requires-clause-long : goal.item_arrival-requires-clause-long
item_arrival-requires-clause-long c =
    let s = st_func_tree c.args.s.now in
    let ls : List (List ℕ) = map (λ (w : Vec ℕ Global). w.items) c.args.labels.now in
    let moves : IsMove (own_move s ls c.loop-i.i) = c.requires.each c.loop-i.i (omega arith) in
    ap length c.labels_at.ensures ∙ sym (length-map _ (labelled_origin s.ins)) ∙ moves.count ∙ ap layout_words (sym c.layout.ensures)

pub loop-i-preserved : goal.loop-i-preserved
loop-i-preserved c =
    let s = st_func_tree c.args.s.now in
    let ls : List (List ℕ) = map (λ (w : Vec ℕ Global). w.items) c.args.labels.now in
    let i = c.loop-i.i in
    let own : c.in_ok-arrival.arrival ≡ move_latency (own_move s ls i) =
    c.in_ok-arrival.ensures s.ins (c.deref-in-loop-i.ensures.value ∙ c.in_ok-sources.ensures ∙
    ap (λ (ts : List StType). label_clocks (st_trees ts)) c.deref.ensures.value)
    ∙ (λ j. move_latency (a_move s.ins (c.layout.ensures j) (map (labelled_origin s.ins) (c.labels_at.ensures j)))) in
    record {
      arrivals = rw c.in_ok-push.ensures.items (arrivals-next
          (λ k. move_latency (own_move s ls k)) i c.in_ok-arrival.arrival c.loop-i.arrivals.items c.loop-i.invariant.arrivals own);
      within = omega (arith, c.loop-i-test.true);
    }

pub returns : goal.returns
returns c =
    let s = st_func_tree c.args.s.now in
    let ls : List (List ℕ) = map (λ (w : Vec ℕ Global). w.items) c.args.labels.now in
    let e : c.loop-i.i ≡ length c.args.labels.now = omega (arith, c.loop-i.invariant.within, c.loop-i-test.false) in
    c.loop-i.invariant.arrivals ∙ ap (λ n. map (λ i. move_latency (own_move s ls i)) (range_with_len 0 n)) e
