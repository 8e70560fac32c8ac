-- One result more, until one has such a word.
use Rattle.std.proofs.Common.{◌≡◌, ℕ, List, Some, slice_get, length, map, arith, refl}
use Rattle.std.proofs.lemmas.List.{length-map}
use Rattle.std.proofs.lemmas.Option.{slice_get_read, slice_get_within}
use Rattle.ae_moves.specs.Origins.{Move}
use Rattle.ae_moves.proofs.Lists.{get_mapped}
use Rattle.ae_rewrite.specs.StProgramTree.{st_trees}
use Rattle.ae_results.specs.Certified.{AreEarly, word_count}
use Rattle.ae_results.specs.Results.{result_move}
use Rattle.ae_results.proofs.Certifying.{moves-next, never-early, none-in}
use Rattle.ae_results.proofs.certificate.certify.Goals as goal

pub loop-k-preserved : goal.loop-k-preserved
loop-k-preserved c =
    let k = c.loop-k.k in
    let rs = c.args.moves.now in
    let ins = st_trees c.args.ins.now in
    let own = c.index-moves-k.result in
    let ms : List Move = map (result_move ins) rs in
    let found : slice_get rs k ≡ Some own = slice_get_read rs (length rs) k own refl (omega arith) c.index-moves-k.is in
    let here : slice_get ms k ≡ Some (result_move ins own) = get_mapped (result_move ins) rs k own found in
    record {
      within = omega arith;
      early = moves-next c.args.latest ms k (result_move ins own) here c.loop-k.invariant.early
          (none-in c.args.latest (result_move ins own) c.first_in-found.result c.is_some.result c.is_some.ensures c.if-is_some.false
          c.first_in-found.ensures.first);
    }

pub returns-clause-none : goal.returns-clause-none
returns-clause-none c =
    let rs = c.args.moves.now in
    let ms : List Move = map (result_move (st_trees c.args.ins.now)) rs in
    let all : (j : ℕ) (x : Move) → slice_get ms j ≡ Some x → AreEarly c.args.latest x (word_count x) =
    λ j x here. c.loop-k.invariant.early j x (let low = slice_get_within ms j x here in
    omega (arith, low, length-map rs (result_move (st_trees c.args.ins.now)), c.loop-k.invariant.within, c.loop-k-test.false)) here in
    absurd (never-early c.args.latest ms (omega arith) c.requires.latest all)
