-- One word more, until one is late enough.
use Rattle.std.proofs.Common.{◌≡◌, ◌<◌, ◌-◌, ◌∙◌, List, Some, slice_get, length, arith, refl, sym, subst}
use Rattle.std.proofs.lemmas.Option.{get_or_from_slice_get, same_Some, slice_get_read}
use Rattle.ae_sttype.specs.StTree.{st_tree}
use Rattle.ae_moves.specs.declared.trip.Origin.{Origin}
use Rattle.ae_moves.specs.declared.trip.Origin.TheVariants.{Word}
use Rattle.ae_moves.specs.Trees.{origin_tree}
use Rattle.ae_moves.specs.Origins.{HasOrigin}
use Rattle.ae_moves.proofs.CodeLaws.{sizes_in, there_at, words_below}
use Rattle.ae_moves.proofs.Lists.{get_mapped}
use Rattle.ae_rewrite.specs.StProgramTree.{st_trees}
use Rattle.ae_results.specs.declared.certificate.Certificate.{Certificate}
use Rattle.ae_results.specs.Results.{result_move}
use Rattle.ae_results.proofs.Certifying.{early-next, early-way, late-in}
use Rattle.ae_results.proofs.certificate.first_in.Goals.{in-Some+else-lead-late, in-None}
use Rattle.ae_results.proofs.certificate.first_in.Goals as goal

pub way-found-requires-clause-sizes : goal.way-found-requires-clause-sizes
way-found-requires-clause-sizes c = sizes_in c.args.ins.now _ _ c.requires.moves

pub way-found-requires-clause-there : goal.way-found-requires-clause-there
way-found-requires-clause-there c =
    let source : List Origin = c.args.own.now.source.items in
    let o = c.loop-o.o in
    let found : slice_get source o ≡ Some c.index.result.now = slice_get_read source (length source) o c.index.result.now refl (omega arith) c.index.ensures in
    let x = there_at (st_trees c.args.ins.now) (st_tree c.args.own.now.out) source o (Word 0 0 0) c.requires.moves (omega arith) in (
      x.0,
      subst (λ (y : Origin). HasOrigin (st_trees c.args.ins.now) x.0 (origin_tree y))
          (get_or_from_slice_get source o c.index.result.now (Word 0 0 0) found) x.1,
    )

pub returns-then-lead-late-clause-first : goal.returns-then-lead-late-clause-first
returns-then-lead-late-clause-first c =
    let source : List Origin = c.args.own.now.source.items in
    let o = c.loop-o.o in
    let found : slice_get source o ≡ Some c.index.result.now = slice_get_read source (length source) o c.index.result.now refl (omega arith) c.index.ensures in
    let m = result_move (st_trees c.args.ins.now) c.args.own.now in
    let here : slice_get m.origins o ≡ Some (origin_tree c.index.result.now) = get_mapped origin_tree source o c.index.result.now found in
    late-in c.args.late m o (origin_tree c.index.result.now) c.in-Some.c (words_below _ _ source o c.requires.moves (omega arith)) here c.in-Some.ensures.way
    (omega (arith, c.saturating_sub-lead.ensures, c.if-lead-late.true)) c.loop-o.invariant.early

pub loop-o-preserved : goal.loop-o-preserved
loop-o-preserved c =
    let source : List Origin = c.args.own.now.source.items in
    let o = c.loop-o.o in
    let found : slice_get source o ≡ Some c.index.result.now = slice_get_read source (length source) o c.index.result.now refl (omega arith) c.index.ensures in
    let m = result_move (st_trees c.args.ins.now) c.args.own.now in
    let here : slice_get m.origins o ≡ Some (origin_tree c.index.result.now) = get_mapped origin_tree source o c.index.result.now found in
    let less : (x : Certificate) → c.way-found.result ≡ Some x → x.from_clock - x.clock < c.args.late = elim c.match-found.branch [
      | in-Some+else-lead-late w ↦ λ x e.
          (let same : w.in-Some.c ≡ x = same_Some w.in-Some.c x (sym w.in-Some.is ∙ e) in
          let low : w.in-Some.c.from_clock - w.in-Some.c.clock < c.args.late = omega (arith, w.saturating_sub-lead.ensures, w.if-lead-late.false) in
          subst (λ (y : Certificate). y.from_clock - y.clock < c.args.late) same low)
      | in-None w ↦ λ x e. (let no = w.in-None.is in absurd (cc))
    ] in
    record {
      within = omega arith;
      early = early-next c.args.late m o c.loop-o.invariant.early
          (early-way m o c.args.late (origin_tree c.index.result.now) c.way-found.result here c.requires.some c.way-found.ensures.way less);
    }
