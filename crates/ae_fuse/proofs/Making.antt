-- One move for each result makes the blocks of a movement program.
use Rattle.std.proofs.Common.{ℕ, suc, ◌≡◌, ◌+◌, ◌*◌, ◌<◌, ◌≤◌, true, List, [], ◌∷◌, length, map, take, Some, IsTrue, slice_get, refl, arith, sym, subst}
use Rattle.ae_seqtype.specs.SeqTree.{SeqTree, in_size}
use Rattle.ae_seqtype.specs.ValueTree.{ValueTree, flat}
use Rattle.ae_sttype.specs.StTree.{StTree, element_words}
use Rattle.ae_sttype.specs.Slots.{slots}
use Rattle.ae_sttype.specs.Holds.{Holds}
use Rattle.ae_sttype.specs.Moves.{first_column}
use Rattle.ae_netlist.specs.Circuit.{Circuit}
use Rattle.ae_netlist.specs.Runs.{Clock, IsReset, IsRun}
use Rattle.ae_ops.specs.Waves.{Wave}
use Rattle.ae_ops.specs.Blocks.{AllHold, HoldsWords, stream_of}
use Rattle.ae_seq.specs.ProgramTree.{ProgramTree}
use Rattle.ae_seq.specs.Meaning.{at, mean}
use Rattle.ae_rewrite.specs.LayoutRule.{lay_of}
use Rattle.ae_rewrite.specs.Interface.{AreValues, HaveLayouts, main_of, parameter_types}
use Rattle.ae_rewrite.specs.Blocks.{InputsHold, MakesBlocks, output_wave}
use Rattle.ae_flow.proofs.MeaningLayouts.{AllLaidOut, lays-out}
use Rattle.ae_ports.specs.Ports.{columns_in, input_waves, streams_of}
use Rattle.ae_ports.proofs.Columns.{element_columns, first_columns}
use Rattle.ae_lower.proofs.Layouts.{all_words, as_many_values}
use Rattle.ae_lower.proofs.Blocks.{inputs_held}
use Rattle.ae_gather.specs.Gathers.{origin_word}
use Rattle.ae_trace.specs.Traces.{is_movement, trace, traced_move}
use Rattle.ae_trace.proofs.Typed.{are-laid, param-sized}
use Rattle.ae_fuse.proofs.Words.{words-by-trace}
use Rattle.ae_fuse.specs.Lowered.{MakesMoves, MovesMakeBlocks}
use Rattle.ae_flow.proofs.MeaningProgram.{whole-sized}

all-out : (slowdown : ℕ) (ts : List SeqTree) (ss : List StTree) → ((i : ℕ) (t : SeqTree) → slice_get ts i ≡ Some t → IsTrue (in_size t))
    → map (λ t. lay_of t slowdown) ts ≡ map (λ (s : StTree). Some s) ss → AllLaidOut ts ss
all-out slowdown [] [] sized h = tt
all-out slowdown [] (s ∷ ss) sized h = absurd (let e : [] ≡ Some s ∷ map (λ s. Some s) ss = h in cc)
all-out slowdown (t ∷ ts) [] sized h = absurd (let e : lay_of t slowdown ∷ map (λ t. lay_of t slowdown) ts ≡ [] = h in cc)
all-out slowdown (t ∷ ts) (s ∷ ss) sized h =
    let e : lay_of t slowdown ∷ map (λ t. lay_of t slowdown) ts ≡ Some s ∷ map (λ s. Some s) ss = h in
    let first : lay_of t slowdown ≡ Some s = cc in
    let rest : map (λ t. lay_of t slowdown) ts ≡ map (λ s. Some s) ss = cc in
    (lays-out t slowdown s (whole-sized t (sized 0 t refl)) first, all-out slowdown ts ss (λ i u f. sized (suc i) u f) rest)

module _ (p : ProgramTree) (slowdown latency : ℕ) (ins outs : List StTree) (n : Circuit) (moves : is_movement p ≡ true) (some : 0 < slowdown)
    (layouts : HaveLayouts p slowdown ins outs)
    (sized : (i : ℕ) (t : SeqTree) → slice_get (parameter_types p) i ≡ Some t → IsTrue (in_size t)) (makes : MakesMoves p slowdown latency ins outs n) where
  laid : AllLaidOut (parameter_types p) ins
  laid = all-out slowdown (parameter_types p) ins sized layouts.parameters

  result_holds : (run : List Clock) (start b r : ℕ) (s : StTree) (block : List ValueTree) → IsRun n.cells run → IsReset run 0 start → slice_get outs r ≡ Some s
      → start + (latency + (b + 1) * slowdown) ≤ length run → AreValues (parameter_types p) block → InputsHold run start (b * slowdown) ins block
      → Holds (output_wave run n.outlets start (first_column outs r)) (latency + b * slowdown) (element_words s) (slots s) (flat (at (mean p block) r))
  result_holds run start b r s block runs reset found room values held =
      let law = makes run start runs reset r s found in
      let z : 0 + b * slowdown ≡ b * slowdown = omega arith in
      let y : 0 + latency + b * slowdown ≡ latency + b * slowdown = omega arith in
      let ours : AllHold (b * slowdown) (streams_of ins) (input_waves run start 1 (streams_of ins)) (map flat block) = inputs_held run start
      (b * slowdown) ins block (as_many_values (parameter_types p) ins block laid values) held in
      let args : AllHold (0 + b * slowdown) (streams_of ins) (input_waves run start 1 (streams_of ins)) (map flat block) = subst
      (λ k. AllHold k (streams_of ins) (input_waves run start 1 (streams_of ins)) (map flat block)) (sym z) ours in
      let made = law.makes b (map flat block) (omega arith) (all_words (parameter_types p) ins block laid values) args in
      let own : List ℕ = map (origin_word ins (map flat block)) (traced_move (parameter_types p) ins s (at (trace p) r)).origins in
      let words : own ≡ flat (at (mean p block) r) = words-by-trace p slowdown ins block moves
      (are-laid slowdown some (parameter_types p) ins sized layouts.parameters) values r in
      let out : ℕ → Wave = λ c. output_wave run n.outlets start c in
      let first : columns_in (take r (streams_of outs)) ≡ first_column outs r = sym (first_columns outs r) in
      let here : HoldsWords (latency + b * slowdown) (stream_of s) (out (first_column outs r)) (flat (at (mean p block) r)) =
      subst (λ c. HoldsWords (latency + b * slowdown) (stream_of s) (out c) (flat (at (mean p block) r))) first
      (subst (λ ws. HoldsWords (latency + b * slowdown) (stream_of s) (out (columns_in (take r (streams_of outs)))) ws) words
      (subst (λ k. HoldsWords k (stream_of s) (out (columns_in (take r (streams_of outs)))) own) y made)) in
      subst (λ w. Holds (out (first_column outs r)) (latency + b * slowdown) w (slots s) (flat (at (mean p block) r))) (element_columns s) here

  makes-blocks : MakesBlocks n p slowdown latency ins outs
  makes-blocks = record {
    makes = λ run start b block runs reset room values held.
        record { each = λ r s found. result_holds run start b r s block runs reset found room values held };
  }

pub moves-make-blocks : MovesMakeBlocks
moves-make-blocks p slowdown latency ins outs n moves typed some layouts makes =
    makes-blocks p slowdown latency ins outs n moves some layouts (λ i t f. param-sized p typed.accepted (slice_get p.funcs (main_of p)) refl i t f) makes
