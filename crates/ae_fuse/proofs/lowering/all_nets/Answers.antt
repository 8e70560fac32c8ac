-- One result more.
use Rattle.std.proofs.Common.{ℕ, ◌≡◌, ◌≤◌, ◌+◌, ◌++◌, ◌∷◌, [], ◌∙◌, List, Some, slice_get, length, map, take, arith, ap, refl, subst, sym}
use Rattle.std.proofs.lemmas.List.{length-map, take_all}
use Rattle.std.proofs.lemmas.Option.{slice_get_read}
use Rattle.ae_sttype.specs.StTree.{st_tree}
use Rattle.ae_moves.specs.Origins.{IsMove, Move, move_latency}
use Rattle.ae_moves.proofs.Lists.{get_mapped, sum_part}
use Rattle.ae_ops.specs.Blocks.{AreBundles}
use Rattle.ae_ports.specs.Ports.{streams_of}
use Rattle.ae_rewrite.specs.StProgramTree.{st_trees}
use Rattle.ae_tidy.specs.Places.{AreMarks}
use Rattle.ae_tidy.proofs.Placing.{marks_more}
use Rattle.ae_lower.proofs.Growing.{adds_trans, adds_up, by_trans}
use Rattle.ae_lower.proofs.Instances.{bundles_grow}
use Rattle.ae_lower.proofs.Stretches.{extends_long}
use Rattle.ae_lower.specs.Growth.{AddsMulsAndMemories, GrowsBy}
use Rattle.ae_gather.specs.Gathers.{move_of}
use Rattle.ae_fuse.specs.Costing.{result_load, result_mems}
use Rattle.ae_results.specs.Results.{result_move}
use Rattle.ae_fuse.specs.Lowered.{IsLateResult}
use Rattle.ae_fuse.proofs.LateResults.{load_next, mems_next, results_next}
use Rattle.ae_fuse.proofs.lowering.all_nets.Goals as goal
use Rattle.ae_clocked.proofs.InRow.{keeps_trans}

same_end : (k n : ℕ) → k ≤ n → n ≤ k → k ≡ n
same_end k n h l = omega arith

pub returns-clause-grows : goal.returns-clause-grows
returns-clause-grows c =
    let ms : List Move = map (result_move (st_trees c.args.ins.now)) c.args.results.now in
    let long : length ms ≤ c.loop-k.k = rw (length-map c.args.results.now (result_move (st_trees c.args.ins.now))) c.loop-k-test.false in
    let all : take c.loop-k.k ms ≡ ms = take_all c.loop-k.k ms long in
    rw all at c.loop-k.invariant.grows

pub returns-clause-adds : goal.returns-clause-adds
returns-clause-adds c =
    let ms : List Move = map (result_move (st_trees c.args.ins.now)) c.args.results.now in
    let long : length ms ≤ c.loop-k.k = rw (length-map c.args.results.now (result_move (st_trees c.args.ins.now))) c.loop-k-test.false in
    let all : take c.loop-k.k ms ≡ ms = take_all c.loop-k.k ms long in
    rw all at c.loop-k.invariant.adds

pub returns-clause-moved : goal.returns-clause-moved
returns-clause-moved c = rw (same_end _ _ c.loop-k.invariant.within c.loop-k-test.false) at c.loop-k.invariant.moved

pub returns-clause-marks : goal.returns-clause-marks
returns-clause-marks c = rw (same_end _ _ c.loop-k.invariant.within c.loop-k-test.false) at c.loop-k.invariant.marks

pub result_nets-requires-clause-belongs : goal.result_nets-requires-clause-belongs
result_nets-requires-clause-belongs c = c.loop-k.invariant.belongs

pub stage-requires : goal.stage-requires
stage-requires c =
    let found = slice_get_read c.args.results.now (length c.args.results.now) c.loop-k.k c.index-results-k.result refl (omega arith) c.index-results-k.is in
    record { move = c.requires.moves c.loop-k.k c.index-results-k.result found; few = omega (arith, c.requires.few, length-map c.args.ins.now st_tree) }

pub result_nets-requires-clause-args : goal.result_nets-requires-clause-args
result_nets-requires-clause-args c =
    subst (λ (m : Move). AreBundles c.loop-k.nl.cells (streams_of m.ins) c.args.args.now) (sym c.in_ok-gather.ensures)
    (bundles_grow (streams_of (st_trees c.args.ins.now)) c.args.args.now c.loop-k.invariant.grows.grows.extends c.requires.args)

pub result_nets-requires-clause-room : goal.result_nets-requires-clause-room
result_nets-requires-clause-room c =
    let k = c.loop-k.k in
    let rs = c.args.results.now in
    let own = c.index-results-k.result in
    let ins = st_trees c.args.ins.now in
    let ms : List Move = map (result_move ins) rs in
    let found = slice_get_read rs (length rs) k own refl (omega arith) c.index-results-k.is in
    let here : slice_get ms k ≡ Some (result_move ins own) = get_mapped (result_move ins) rs k own found in
    let load : result_load c.args.whole (move_of c.in_ok-gather.gather) ≡ result_load c.args.whole (result_move ins own) = ap
    (result_load c.args.whole) c.in_ok-gather.ensures in
    let was = c.loop-k.invariant.grows in
    omega (
      arith,
      load,
      was.cells,
      was.grows.limit,
      load_next ms k c.args.whole (result_move ins own) here,
      sum_part (result_load c.args.whole) ms (k + 1),
      c.requires.room,
    )

pub result_nets-requires-clause-moves : goal.result_nets-requires-clause-moves
result_nets-requires-clause-moves c =
    let found = slice_get_read c.args.results.now (length c.args.results.now) c.loop-k.k c.index-results-k.result refl (omega arith) c.index-results-k.is in
    subst IsMove (sym c.in_ok-gather.ensures) (c.requires.moves c.loop-k.k c.index-results-k.result found)

pub result_nets-requires-clause-latest : goal.result_nets-requires-clause-latest
result_nets-requires-clause-latest c =
    let found = slice_get_read c.args.results.now (length c.args.results.now) c.loop-k.k c.index-results-k.result refl (omega arith) c.index-results-k.is in
    subst (λ (m : Move). move_latency m ≤ c.args.whole) (sym c.in_ok-gather.ensures) (c.requires.latest c.loop-k.k c.index-results-k.result found)

pub loop-k-preserved : goal.loop-k-preserved
loop-k-preserved c =
    let k = c.loop-k.k in
    let rs = c.args.results.now in
    let own = c.index-results-k.result in
    let ins = st_trees c.args.ins.now in
    let ms : List Move = map (result_move ins) rs in
    let found = slice_get_read rs (length rs) k own refl (omega arith) c.index-results-k.is in
    let here : slice_get ms k ≡ Some (result_move ins own) = get_mapped (result_move ins) rs k own found in
    let was = c.loop-k.invariant in
    let made = c.in_ok-bundle.ensures in
    let is = c.in_ok-gather.ensures in
    let new = c.result_nets.new.nl in
    let grown : GrowsBy c.loop-k.nl new (result_load c.args.whole (result_move ins own)) = subst
    (λ (m : Move). GrowsBy c.loop-k.nl new (result_load c.args.whole m)) is made.grows in
    let added : AddsMulsAndMemories c.loop-k.nl new 0 (result_mems c.args.whole (result_move ins own)) = subst
    (λ (m : Move). AddsMulsAndMemories c.loop-k.nl new 0 (result_mems c.args.whole m)) is made.adds in
    let moved : IsLateResult new.cells c.loop-k.clocks.rst c.args.whole (result_move ins own) c.args.args.now c.in_ok-bundle.bundle = subst
    (λ (m : Move). IsLateResult new.cells c.loop-k.clocks.rst c.args.whole m c.args.args.now c.in_ok-bundle.bundle) is made.moved in
    let longer : length c.loop-k.nl.cells ≤ length c.result_nets.new.nl.cells = extends_long _ _ made.grows.grows.extends in
    let z : 0 + (k + 1) ≡ k + 1 = omega arith in
    let y : k ≡ 0 + k = omega arith in
    record {
      within = omega arith;
      belongs = made.belongs;
      keeps = keeps_trans was.keeps made.keeps;
      grows = by_trans _ (load_next ms k c.args.whole (result_move ins own) here) was.grows grown;
      adds = adds_up (omega arith) (mems_next ms k c.args.whole (result_move ins own) here) (adds_trans was.adds added);
      moved = results_next c.loop-k.nl c.result_nets.new.nl c.args.clocks.now.rst c.loop-k.clocks.rst c.args.whole ms k
          (result_move ins own) c.args.args.now c.loop-k.bundles.items c.push.new.self.items c.in_ok-bundle.bundle here was.keeps.rst c.in_ok-push.ensures.items
          made.grows.grows.extends was.moved moved;
      marks = subst (λ n. AreMarks (length c.result_nets.new.nl.cells) n c.push-in-loop-k.new.self.items) z
          (marks_more (length c.loop-k.nl.cells) (length c.result_nets.new.nl.cells) 0 k c.loop-k.marks.items c.push-in-loop-k.new.self.items longer
          (c.in_ok-push-2.ensures.items ∙ ap (λ n. c.loop-k.marks.items ++ n ∷ []) c.len-mark.ensures)
          (subst (λ n. AreMarks (length c.loop-k.nl.cells) n c.loop-k.marks.items) y was.marks));
    }
