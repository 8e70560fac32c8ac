-- The circuit of a fused program, from its parts.
use Rattle.std.proofs.Common.{ℕ, ◌≡◌, ◌-◌, ◌<◌, ◌≤◌, List, [], ◌∷◌, length, map, sum_by, take, Some, get_or, slice_get, refl, arith, sym, ap, ◌∙◌, subst}
use Rattle.std.proofs.lemmas.List.{length-map}
use Rattle.std.proofs.lemmas.Option.{same_Some, slice_get-get_or, slice_get_within}
use Rattle.ae_sttype.specs.declared.st_type.StType.{StType}
use Rattle.ae_sttype.specs.StTree.{StTree, st_tree, time}
use Rattle.ae_sttype.specs.Moves.{OriginTree}
use Rattle.ae_sttype.specs.Size.{HasLengths, IsInSize}
use Rattle.ae_netlist.specs.declared.cell.NetId.{NetId}
use Rattle.ae_netlist.specs.declared.cell.SizedCell.{SizedCell}
use Rattle.ae_netlist.specs.Circuit.{Circuit, HaveNets, IsFormed}
use Rattle.ae_ops.specs.Blocks.{KeepsLaw, Stream, stream_of, stream_widths}
use Rattle.ae_moves.specs.Origins.{Move, move_latency}
use Rattle.ae_moves.specs.Trees.{origin_tree}
use Rattle.ae_moves.proofs.Lists.{get_mapped}
use Rattle.ae_gather.specs.Gathers.{origin_word}
use Rattle.ae_seqtype.specs.SeqTree.{SeqTree}
use Rattle.ae_seq.specs.ProgramTree.{FuncTree, ProgramTree}
use Rattle.ae_seq.specs.Meaning.{at}
use Rattle.ae_eval.specs.Stack.{IsTyped}
use Rattle.ae_rewrite.specs.Interface.{HaveLayouts, parameter_types}
use Rattle.ae_rewrite.specs.Scheduled.{IsSchedule}
use Rattle.ae_rewrite.specs.Sound.{IsSound, item_layout, item_layouts}
use Rattle.ae_rewrite.specs.StProgramTree.{StFuncTree, st_trees}
use Rattle.ae_delay.specs.declared.own.OwnCosts.{OwnCosts}
use Rattle.ae_delay.proofs.Instances.{all_items}
use Rattle.ae_tidy.specs.Needed.{IsLean}
use Rattle.ae_tidy.specs.Tidied.{IsTidied}
use Rattle.ae_ports.specs.CircuitFor.{IsCircuitFor}
use Rattle.ae_ports.specs.Ports.{columns_in, output_ports, streams_of}
use Rattle.ae_ports.proofs.Columns.{map_map}
use Rattle.ae_lower.specs.Growth.{AddsMulsAndMemories, GrowsBy}
use Rattle.ae_lower.specs.PortNets.{AddsOutputs, bundles_from}
use Rattle.ae_lower.specs.Ported.{HasBegun, IsPorted}
use Rattle.ae_lower.proofs.Blocks.{program_instance, result_at}
use Rattle.ae_lower.proofs.Growing.{adds_up}
use Rattle.ae_lower.proofs.Outputs.{all_nets, outputs_cells}
use Rattle.ae_lower.proofs.Programs.{layouts}
use Rattle.ae_lower.proofs.Results.{outputs_law}
use Rattle.ae_lower.proofs.Tidied.{ShowsLaw, tidied_law, tidied_ported}
use Rattle.ae_lower.proofs.Whole.{ported_made}
use Rattle.ae_trace.specs.Traces.{trace, traced_move, traced_moves}
use Rattle.ae_trace.proofs.Firsts.{below-greatest, move-of}
use Rattle.ae_trace.proofs.Typed.{mapped-from}
use Rattle.ae_results.specs.declared.result.FusedResult.{FusedResult}
use Rattle.ae_fuse.specs.Costing.{item_move, moves_latency, result_load, result_mems}
use Rattle.ae_results.specs.Results.{result_move}
use Rattle.ae_fuse.specs.Fused.{FusedView, IsFusedOf, costs_in, moves_in, outs_of}
use Rattle.ae_fuse.specs.Lowered.{AreLateResults, IsFusedCircuit, IsWhole, MakesMoves, late_part, outs_in, result_stream}
use Rattle.ae_fuse.proofs.Main.{is-main, moves-traced}
use Rattle.ae_fuse.proofs.Making.{moves-make-blocks}

-- ---- by the moves

-- what a result's move makes of words
abbrev pub result_words : (ins : List StTree) → FusedResult → List (List ℕ) → List ℕ
result_words ins r vs = map (origin_word ins vs) (map origin_tree r.source.items)

-- the ports, and the law of each result's move on its outputs
pub record ShowsMoves (f : FusedView) (n : Circuit) : Type 0 where
  pub ported : IsPorted (st_trees f.ins) (map result_stream f.results) (costs_in f) n
  pub laws : (r : ℕ) (own : FusedResult) → slice_get f.results r ≡ Some own
      → ShowsLaw (st_trees f.ins) (time (st_tree own.out)) f.latency (result_stream own) (result_words (st_trees f.ins) own)
      (columns_in (take r (map result_stream f.results))) n

module _ (f : FusedView) (whole : IsWhole f) where
  abbrev ins : List StTree
  ins = st_trees f.ins

  abbrev ss : List Stream
  ss = map result_stream f.results

  pub whole-latency : f.latency ≡ moves_latency (moves_in f)
  whole-latency = ap (λ (o : OwnCosts). o.latency) whole.costs

  pub whole-load : sum_by (result_load f.latency) (moves_in f) ≡ f.load
  whole-load = ap (λ n. sum_by (result_load n) (moves_in f)) whole-latency ∙ sym (ap (λ (o : OwnCosts). o.load) whole.costs)

  pub whole-mems : sum_by (result_mems f.latency) (moves_in f) ≡ f.mems
  whole-mems = ap (λ n. sum_by (result_mems n) (moves_in f)) whole-latency ∙ sym (ap (λ (o : OwnCosts). o.mems) whole.costs)

  pub in-size : (j : ℕ) (t : StTree) → slice_get ins j ≡ Some t → IsInSize t
  in-size j t found =
      let none : FusedResult = get_or f.results 0 (first-of f.results whole.some) in
      let here : slice_get f.results 0 ≡ Some none = slice_get-get_or f.results 0 (first-of f.results whole.some) whole.some in
      ((whole.moves 0 none here).types j t found).0
    where
      first-of : (rs : List FusedResult) → 0 < length rs → FusedResult
      first-of [] low = absurd (omega arith)
      first-of (r ∷ rs) low = r

  sized : (j : ℕ) (t : StTree) → slice_get ins j ≡ Some t → HasLengths t
  sized j t found = (in-size j t found).lengths

  pub type-sized : (j : ℕ) (t : StType) → slice_get f.ins j ≡ Some t → IsInSize (st_tree t)
  type-sized j t found = in-size j (st_tree t) (get_mapped st_tree f.ins j t found)

  move-at : (r : ℕ) (own : FusedResult) → slice_get f.results r ≡ Some own → slice_get (moves_in f) r ≡ Some (result_move ins own)
  move-at r own found = get_mapped (result_move ins) f.results r own found

  pub at-most-latest : (r : ℕ) (own : FusedResult) → slice_get f.results r ≡ Some own → move_latency (result_move ins own) ≤ f.latency
  at-most-latest r own found = (let low = (below-greatest move_latency (moves_in f) 0 r (result_move ins own) (move-at r own found)).1 in
      omega (arith, low, whole-latency))

  module _ (a b c : Circuit) (bundles : List (List NetId)) (begun : HasBegun ins a) (grown : GrowsBy a b (sum_by (result_load f.latency) (moves_in f)))
      (adds : AddsMulsAndMemories a b 0 (sum_by (result_mems f.latency) (moves_in f)))
      (moved : AreLateResults b.cells 0 f.latency (moves_in f) (length f.results) (bundles_from 1 (streams_of ins)) bundles)
      (shown : AddsOutputs b c (output_ports ss) (all_nets bundles)) (formed : IsFormed c.cells) (have : HaveNets c.cells c.outlets) where
    made : IsPorted ins ss (costs_in f) c × (map (λ o. o.net) c.outlets ≡ all_nets bundles)
    made = ported_made ins ss (costs_in f) a b c bundles begun (subst (GrowsBy a b) whole-load grown)
        (adds_up refl (omega (arith, whole-mems)) adds) shown formed have

    long-at : (r : ℕ) (s : Stream) (nets : List NetId) → slice_get ss r ≡ Some s → slice_get bundles r ≡ Some nets → length nets ≡ length (stream_widths s)
    long-at r s nets found has =
        let m = mapped-from result_stream f.results r s found in
        (moved.each r (result_move ins m.0) nets (move-at r m.0 m.1) has).there.long ∙ ap (λ (y : Stream). length (stream_widths y)) m.2

    pub shows-raw : ShowsMoves f c
    shows-raw = record {
      ported = made.0;
      laws = λ r own found.
          (let inside : r < length bundles = (let low = slice_get_within f.results r own found in omega (arith, low, moved.long)) in
          let nets : List NetId = get_or bundles r [] in
          let has : slice_get bundles r ≡ Some nets = slice_get-get_or bundles r [] inside in
          let is = moved.each r (result_move ins own) nets (move-at r own found) has in
          let kept : c.cells ≡ b.cells = outputs_cells shown in
          let law : KeepsLaw c.cells 0 0 (late_part f.latency (result_move ins own)) (bundles_from 1 (streams_of ins)) nets =
          subst (λ cells. KeepsLaw cells 0 0 (late_part f.latency (result_move ins own)) (bundles_from 1 (streams_of ins)) nets) (sym kept) is.law in
          outputs_law ins ss c bundles sized long-at (moved.long ∙ sym (length-map f.results result_stream)) made.1 r (time (st_tree own.out)) f.latency
          (st_tree own.out) nets (result_words ins own)
          (whole.moves r own found).out.lengths (get_mapped result_stream f.results r own found) has law);
    }

  pub shows-tidied : (c n : Circuit) → ShowsMoves f c → IsTidied c n → ShowsMoves f n
  shows-tidied c n h t = record {
    ported = tidied_ported ins ss (costs_in f) c n h.ported t;
    laws = λ r own found.
        tidied_law ins ss (costs_in f) c n sized h.ported t (time (st_tree own.out)) f.latency (result_stream own) (result_words ins own)
        (columns_in (take r ss)) (h.laws r own found);
  }

-- the same nets by equal numbers and lists
pub late-same : {cells : List SizedCell} {rst rst2 whole whole2 count count2 : ℕ} {ms ms2 : List Move} {args args2 bundles : List (List NetId)} → rst ≡ rst2
    → whole ≡ whole2 → ms ≡ ms2 → count ≡ count2 → args ≡ args2
    → AreLateResults cells rst whole ms count args bundles → AreLateResults cells rst2 whole2 ms2 count2 args2 bundles
late-same {cells} {rst} {rst2} {whole} {whole2} {count} {count2} {ms} {ms2} {args} {args2} {bundles} e1 e2 e3 e4 e5 h =
    subst (λ r. AreLateResults cells r whole2 ms2 count2 args2 bundles) e1
    (subst (λ w. AreLateResults cells rst w ms2 count2 args2 bundles) e2
    (subst (λ m. AreLateResults cells rst whole m count2 args2 bundles) e3
    (subst (λ n. AreLateResults cells rst whole ms n args2 bundles) e4 (subst (λ a. AreLateResults cells rst whole ms count a bundles) e5 h))))

-- ---- by the program

-- the layouts of the results are those of the instance
pub outs-same : (f : FusedView) (p : ProgramTree) (slowdown : ℕ) (instances : List StFuncTree) → IsTyped p → IsSchedule p slowdown instances
    → (is : IsFusedOf p instances f) → outs_in f ≡ outs_of is.instance
outs-same f p slowdown instances typed h is =
    let s = is.instance in
    let m = is-main p slowdown instances is.func s is.movement typed h is.there is.last in
    let results : s.results ≡ is.func.results = m.instance.results ∙
    ap (λ (g : FuncTree). g.results) (same_Some m.instance.of is.func (sym m.instance.known ∙ ap (slice_get p.funcs) m.is_main ∙ is.there)) in
    sym (map_map (λ (x : Move). x.out) (result_move (st_trees f.ins)) f.results)
    ∙ ap (map (λ (x : Move). x.out)) is.moves
    ∙ map_map (λ (x : Move). x.out) (item_move is.func s) is.func.results
    ∙ ap (map (item_layout (item_layouts s))) (sym results)

module _ (f : FusedView) (n : Circuit) (shows : ShowsMoves f n) (lean : IsLean n) (p : ProgramTree) (slowdown : ℕ) (instances : List StFuncTree)
    (typed : IsTyped p) (some : 0 < slowdown) (few : slowdown ≤ 4096)
    (h : IsSchedule p slowdown instances) (sound : IsSound instances) (is : IsFusedOf p instances f) where
  abbrev s : StFuncTree
  s = is.instance

  abbrev given : List StTree
  given = st_trees f.ins

  abbrev types : List SeqTree
  types = parameter_types p

  all-moves : moves_in f ≡ traced_moves types s.ins (outs_of s) (trace p)
  all-moves = is.moves ∙ sym (moves-traced p slowdown instances is.func s is.movement typed h is.there is.last)

  same-outs : outs_in f ≡ outs_of s
  same-outs = outs-same f p slowdown instances typed h is

  laid : HaveLayouts p slowdown given (outs_in f)
  laid = subst (λ ss. HaveLayouts p slowdown ss (outs_in f)) (sym is.ins)
      (subst (HaveLayouts p slowdown s.ins) (sym same-outs) (layouts p slowdown instances s typed h sound is.last))

  in-time : (r : ℕ) (t : StTree) → slice_get (outs_of s) r ≡ Some t → time t ≡ slowdown
  in-time r t found =
      let e = result_at s r t found in
      let own = sound.each (length instances - 1) s is.last in
      let fill = all_items (length instances - 1) s own e.item (own.results r e.item e.found) in
      sym (ap time e.is) ∙ fill.time ∙ (program_instance p slowdown instances s h is.last).budget

  makes : MakesMoves p slowdown f.latency given (outs_in f) n
  makes run start is_run reset r t found =
      let m = mapped-from (λ (x : FusedResult). st_tree x.out) f.results r t found in
      let own : FusedResult = m.0 in
      let here : slice_get (traced_moves types s.ins (outs_of s) (trace p)) r ≡ Some (result_move given own) = ap (λ ms. slice_get ms r) (sym all-moves) ∙
      get_mapped (result_move given) f.results r own m.1 in
      let x = move-of types s.ins (outs_of s) (trace p) r (result_move given own) here in
      let origins : map origin_tree own.source.items ≡ (traced_move types given t (at (trace p) r)).origins = ap (λ (y : Move). y.origins) x.2 in
      let clocks : time (st_tree own.out) ≡ slowdown = ap time m.2 ∙ in-time r t (ap (λ ts. slice_get ts r) (sym same-outs) ∙ found) in
      let place : columns_in (take r (map result_stream f.results)) ≡ columns_in (take r (streams_of (outs_in f))) = ap (λ ss. columns_in (take r ss))
      (sym (map_map stream_of (λ (y : FusedResult). st_tree y.out) f.results)) in
      let P : ℕ → StTree → List OriginTree → ℕ → Type 0 = λ T o os c. ShowsLaw given T f.latency (stream_of o) (λ vs. map (origin_word given vs) os) c n in
      let law : P (time (st_tree own.out)) (st_tree own.out) (map origin_tree own.source.items)
      (columns_in (take r (map result_stream f.results))) = shows.laws r own m.1 in
      let moved : P slowdown t (traced_move types given t (at (trace p) r)).origins (columns_in (take r (streams_of (outs_in f)))) =
      subst (λ T. P T t (traced_move types given t (at (trace p) r)).origins (columns_in (take r (streams_of (outs_in f))))) clocks
      (subst (λ o. P (time (st_tree own.out)) o (traced_move types given t (at (trace p) r)).origins (columns_in (take r (streams_of (outs_in f))))) m.2
      (subst (λ os. P (time (st_tree own.out)) (st_tree own.out) os (columns_in (take r (streams_of (outs_in f))))) origins
      (subst (λ c. P (time (st_tree own.out)) (st_tree own.out) (map origin_tree own.source.items) c) place law))) in
      moved run start is_run reset

  pub circuit-for : HaveLayouts p slowdown given (outs_in f) × IsCircuitFor p slowdown (costs_in f) given (outs_in f) n
  circuit-for = (
    laid,
    record {
      inputs = shows.ported.inputs;
      no_others = shows.ported.no_others;
      outputs = shows.ported.outputs ∙ ap output_ports (sym (map_map stream_of (λ (y : FusedResult). st_tree y.out) f.results));
      makes = moves-make-blocks p slowdown f.latency given (outs_in f) n is.movement typed some laid makes;
      formed = shows.ported.formed;
      shown = shows.ported.shown;
      whole = shows.ported.whole;
      small = shows.ported.small;
      muls = shows.ported.muls;
      memories = shows.ported.memories;
      lean = lean;
    },
  )

pub fused-circuit : (f : FusedView) (n : Circuit) → ShowsMoves f n → IsLean n → IsFusedCircuit f n
fused-circuit f n shows lean p slowdown instances typed some few h sound is = circuit-for f n shows lean p slowdown instances typed some few h sound is
