-- A circuit that makes of words what a schedule does makes the blocks of its program.
use Rattle.std.proofs.Common.{ℕ, suc, ◌≡◌, ◌+◌, ◌*◌, ◌<◌, ◌≤◌, List, [], ◌∷◌, length, map, take, Some, slice_get, arith, refl, ap, sym, ◌∙◌, subst}
use Rattle.std.proofs.lemmas.List.{length-map}
use Rattle.std.proofs.lemmas.List.Sums.{sum_by-cons}
use Rattle.std.proofs.lemmas.Option.{same_Some, slice_get_within, slice_get-map}
use Rattle.std.specs.Option.{option_map}
use Rattle.ae_seqtype.specs.ValueTree.{ValueTree, flat}
use Rattle.ae_sttype.specs.StTree.{StTree, element_words}
use Rattle.ae_sttype.specs.Slots.{slots}
use Rattle.ae_sttype.specs.Holds.{Holds}
use Rattle.ae_sttype.specs.Moves.{first_column}
use Rattle.ae_netlist.specs.Circuit.{Circuit}
use Rattle.ae_netlist.specs.Runs.{Clock, IsReset, IsRun}
use Rattle.ae_ops.specs.Waves.{Wave}
use Rattle.ae_ops.specs.Blocks.{Stream, AllHold, HoldsWords, stream_of, stream_widths}
use Rattle.ae_seq.specs.ProgramTree.{ProgramTree}
use Rattle.ae_seq.specs.Meaning.{at, mean}
use Rattle.ae_eval.specs.Stack.{IsTyped}
use Rattle.ae_eval.proofs.Items.{entry-at}
use Rattle.ae_rewrite.specs.Blocks.{InputsHold, MakesBlocks, input_wave, output_wave}
use Rattle.ae_rewrite.specs.Interface.{AreValues, main_of, parameter_types}
use Rattle.ae_rewrite.specs.StProgramTree.{StFuncTree}
use Rattle.ae_rewrite.specs.Scheduled.{Keys, HasKey, IsInstance, IsSchedule}
use Rattle.ae_rewrite.specs.Sound.{item_layout, item_layouts}
use Rattle.ae_flow.specs.Flow.{flow, words_at}
use Rattle.ae_ports.specs.Ports.{streams_of, input_waves, columns_in}
use Rattle.ae_flow.specs.Laws.{FlowsMean}
use Rattle.ae_flow.proofs.MeaningLayouts.{AllLaidOut}
use Rattle.ae_lower.specs.Circuits.{IsCircuitOf, IsCircuitThat, MakesResults, last_of, result_streams, results_of}
use Rattle.ae_lower.specs.Lowering.{instance_costs}
use Rattle.ae_lower.proofs.Layouts.{all_words, as_many_values, input_types_are, inputs_laid, words_flat}
use Rattle.ae_ports.proofs.Columns.{element_columns, map_map, first_columns}

-- ---- columns

pub results_streams : (s : StFuncTree) → result_streams s ≡ streams_of (results_of s)
results_streams s = sym (map_map stream_of (item_layout (item_layouts s)) s.results)

-- ---- the words of all parameters

all_hold : (run : List Clock) (start k first : ℕ) (ss : List StTree) (block : List ValueTree) → length block ≡ length ss
    → ((q : ℕ) (s : StTree) → slice_get ss q ≡ Some s → HoldsWords k (stream_of s) (input_wave run start (first + columns_in (take q (streams_of ss))))
    (flat (at block q)))
    → AllHold k (streams_of ss) (input_waves run start first (streams_of ss)) (map flat block)
all_hold run start k first [] [] many each = tt
all_hold run start k first [] (v ∷ block) many each = absurd (omega (arith, many))
all_hold run start k first (s ∷ ss) [] many each = absurd (omega (arith, many))
all_hold run start k first (s ∷ ss) (v ∷ block) many each =
    let z : first + columns_in (take 0 (streams_of (s ∷ ss))) ≡ first = omega arith in
    let own : HoldsWords k (stream_of s) (input_wave run start first) (flat v) = subst (λ i. HoldsWords k (stream_of s) (input_wave run start i) (flat v)) z
    (each 0 s refl) in (
      own,
      all_hold run start k (first + length (stream_widths (stream_of s))) ss block (omega (arith, many)) (λ q t found.
          let place : first + columns_in (take (suc q) (streams_of (s ∷ ss))) ≡ first + length (stream_widths (stream_of s)) + columns_in
          (take q (streams_of ss)) =
          omega (arith, sum_by-cons (λ (x : Stream). length (stream_widths x)) (stream_of s) (take q (streams_of ss))) in
          subst (λ i. HoldsWords k (stream_of t) (input_wave run start i) (flat (at block q))) place (each (suc q) t found)),
    )

pub inputs_held : (run : List Clock) (start k : ℕ) (ss : List StTree) (block : List ValueTree) → length block ≡ length ss → InputsHold run start k ss block
    → AllHold k (streams_of ss) (input_waves run start 1 (streams_of ss)) (map flat block)
inputs_held run start k ss block many held =
    all_hold run start k 1 ss block many (λ q s found.
    let ws : List ℕ = flat (at block q) in
    let own : HoldsWords k (stream_of s) (input_wave run start (1 + first_column ss q)) ws =
    subst (λ n. Holds (input_wave run start (1 + first_column ss q)) k n (slots s) ws) (sym (element_columns s)) (held.each q s found) in
    subst (λ i. HoldsWords k (stream_of s) (input_wave run start (1 + i)) ws) (first_columns ss q) own)

-- ---- the program's instance

abbrev pub keys_of : List StFuncTree → Keys
keys_of instances = HasKey (take (last_of instances) instances)

-- the last instance is the program function's, at the slowdown
pub record IsProgramInstance (p : ProgramTree) (slowdown : ℕ) (instances : List StFuncTree) (s : StFuncTree) : Type 0 where
  pub is : IsInstance p (keys_of instances) s
  pub last : s.func ≡ main_of p
  pub budget : s.budget ≡ slowdown

pub program_instance : (p : ProgramTree) (slowdown : ℕ) (instances : List StFuncTree) (s : StFuncTree) → IsSchedule p slowdown instances
    → slice_get instances (last_of instances) ≡ Some s
    → IsProgramInstance p slowdown instances s
program_instance p slowdown instances s h found =
    let key = h.last in
    let e : key.instance ≡ s = same_Some key.instance s (sym key.here ∙ found) in
    record {
      is = h.right (last_of instances) s found;
      last = subst (λ (x : StFuncTree). x.func ≡ main_of p) e key.is_func;
      budget = subst (λ (x : StFuncTree). x.budget ≡ slowdown) e key.is_budget;
    }

pub record IsResult (s : StFuncTree) (r : ℕ) (t : StTree) : Type 0 where
  pub item : ℕ
  pub found : slice_get s.results r ≡ Some item
  pub is : item_layout (item_layouts s) item ≡ t

pub result_at : (s : StFuncTree) (r : ℕ) (t : StTree) → slice_get (results_of s) r ≡ Some t → IsResult s r t
result_at s r t h =
    let within : r < length (results_of s) = slice_get_within (results_of s) r t h in
    let e = entry-at s.results r (omega (arith, within, length-map s.results (item_layout (item_layouts s)))) in
    record {
      item = e.0;
      found = e.1;
      is = same_Some _ t (sym
          (slice_get-map (item_layout (item_layouts s)) s.results r ∙ ap (option_map (item_layout (item_layouts s))) e.1) ∙ h);
    }

-- ---- blocks

module _ (instances : List StFuncTree) (s : StFuncTree) (n : Circuit) (means : FlowsMean) (found : slice_get instances (last_of instances) ≡ Some s)
    (makes : MakesResults instances s n) (p : ProgramTree) (slowdown : ℕ) (typed : IsTyped p)
    (schedule : IsSchedule p slowdown instances) where
  abbrev latency : ℕ
  latency = (instance_costs instances (last_of instances)).latency

  own : IsProgramInstance p slowdown instances s
  own = program_instance p slowdown instances s schedule found

  laid : AllLaidOut (parameter_types p) s.ins
  laid = inputs_laid p (keys_of instances) s typed own.is own.last

  -- what the block law says of a result's words
  law_holds : (run : List Clock) (start b r i : ℕ) (block : List ValueTree) → IsRun n.cells run → IsReset run 0 start → slice_get s.results r ≡ Some i
      → start + (latency + (b + 1) * s.budget) ≤ length run → AreValues (parameter_types p) block → InputsHold run start (b * s.budget) s.ins block
      → HoldsWords (latency + b * s.budget) (stream_of (item_layout (item_layouts s) i))
      (output_wave run n.outlets start (columns_in (take r (result_streams s)))) (flat (at (mean p block) r))
  law_holds run start b r i block runs reset item room values held =
      let law = makes run start runs reset r i item in
      let z : 0 + b * s.budget ≡ b * s.budget = omega arith in
      let y : 0 + latency + b * s.budget ≡ latency + b * s.budget = omega arith in
      let ours : AllHold (b * s.budget) (streams_of s.ins) (input_waves run start 1 (streams_of s.ins)) (map flat block) =
      inputs_held run start (b * s.budget) s.ins block (as_many_values (parameter_types p) s.ins block laid values) held in
      let args : AllHold (0 + b * s.budget) (streams_of s.ins) (input_waves run start 1 (streams_of s.ins)) (map flat block) =
      subst (λ k. AllHold k (streams_of s.ins) (input_waves run start 1 (streams_of s.ins)) (map flat block)) (sym z) ours in
      let made = law.makes b (map flat block) (omega arith) (all_words (parameter_types p) s.ins block laid values) args in
      let meant = means p slowdown instances block typed schedule
      (subst (λ ts. AreValues ts block) (input_types_are p (keys_of instances) s typed own.is own.last) values) in
      let words : words_at (flow instances (map flat block)) r ≡ flat (at (mean p block) r) = ap (λ vs. words_at vs r) meant ∙ words_flat (mean p block) r in
      let out : Wave = output_wave run n.outlets start (columns_in (take r (result_streams s))) in
      let S : Stream = stream_of (item_layout (item_layouts s) i) in
      subst (λ ws. HoldsWords (latency + b * s.budget) S out ws) words (subst (λ k. HoldsWords k S out (words_at (flow instances (map flat block)) r)) y made)

  -- the same of the outputs' columns
  outputs_held : (run : List Clock) (start k r i : ℕ) (ws : List ℕ)
      → HoldsWords k (stream_of (item_layout (item_layouts s) i)) (output_wave run n.outlets start (columns_in (take r (result_streams s)))) ws
      → Holds (output_wave run n.outlets start (first_column (results_of s) r)) k (element_words (item_layout (item_layouts s) i))
      (slots (item_layout (item_layouts s) i)) ws
  outputs_held run start k r i ws held =
      let t : StTree = item_layout (item_layouts s) i in
      let place : columns_in (take r (result_streams s)) ≡ first_column (results_of s) r = ap (λ ss. columns_in (take r ss)) (results_streams s) ∙
      sym (first_columns (results_of s) r) in
      let there : HoldsWords k (stream_of t) (output_wave run n.outlets start (first_column (results_of s) r)) ws =
      subst (λ c. HoldsWords k (stream_of t) (output_wave run n.outlets start c) ws) place held in
      subst (λ w. Holds (output_wave run n.outlets start (first_column (results_of s) r)) k w (slots t) ws) (element_columns t) there

  at_budget : MakesBlocks n p s.budget latency s.ins (results_of s)
  at_budget = record {
    makes = λ run start b block runs reset room values held. record {
      each = λ r t at_r.
          (let e = result_at s r t at_r in
          let made = law_holds run start b r e.item block runs reset e.found room values held in
          let P : StTree → Type 0 = λ x. Holds (output_wave run n.outlets start (first_column (results_of s) r)) (latency + b * s.budget) (element_words x)
          (slots x) (flat (at (mean p block) r)) in
          subst P e.is (outputs_held run start (latency + b * s.budget) r e.item (flat (at (mean p block) r)) made));
    };
  }

  pub makes_blocks : MakesBlocks n p slowdown (instance_costs instances (last_of instances)).latency s.ins (results_of s)
  makes_blocks = subst (λ d. MakesBlocks n p d latency s.ins (results_of s)) own.budget at_budget

-- the circuit of a schedule is one of its program
pub program_circuit : (instances : List StFuncTree) (s : StFuncTree) (n : Circuit) → FlowsMean → slice_get instances (last_of instances) ≡ Some s
    → IsCircuitThat MakesResults instances s n → IsCircuitOf instances s n
program_circuit instances s n means found c = record {
  inputs = c.inputs;
  no_others = c.no_others;
  outputs = c.outputs;
  makes = makes_blocks instances s n means found c.makes;
  formed = c.formed;
  shown = c.shown;
  whole = c.whole;
  small = c.small;
  muls = c.muls;
  memories = c.memories;
}
