-- What a circuit shows of a run on blocks, its module shows.
use Rattle.std.proofs.Common.{ℕ, zero, suc, All, ◌≡◌, ◌+◌, ◌*◌, ◌<◌, ◌≤◌, List, [], length, map, take, get_or, Option, Some, slice_get, arith, refl, ap, sym, ◌∙◌, subst}
use Rattle.std.specs.Prelude.{codes, unwrap_or}
use Rattle.std.proofs.lemmas.List.Elements.{All-get_or}
use Rattle.std.proofs.lemmas.Nat.{row_fits}
use Rattle.std.proofs.lemmas.Option.{slice_get_within}
use Rattle.ae_seqtype.specs.ValueTree.{ValueTree, flat}
use Rattle.ae_sttype.specs.declared.st_type.Slot.{Slot}
use Rattle.ae_sttype.specs.StTree.{StTree, time, lanes, st_atoms, element_words}
use Rattle.ae_sttype.specs.Slots.{slots}
use Rattle.ae_sttype.proofs.Places.{slot_at, slot_of, slot_below, length-slots}
use Rattle.ae_netlist.specs.Circuit.{Circuit}
use Rattle.ae_netlist.specs.Runs.{Clock}
use Rattle.ae_netlist.specs.Rows.{AreInputs, IsRunWith, filled}
use Rattle.ae_vmodule.specs.ModuleTree.{ModuleTree}
use Rattle.ae_runs.specs.Values.{ModuleClock}
use Rattle.ae_runs.specs.Runs.{clock_at, IsModuleRun}
use Rattle.ae_runs.specs.SameRuns.{BeginAlike, HasSameRuns, HaveEqualOutputs, output_words}
use Rattle.ae_verilog.specs.NetlistModule.{netlist_module}
use Rattle.ae_ops.specs.Blocks.{stream_of, stream_widths}
use Rattle.ae_seq.specs.ProgramTree.{ProgramTree}
use Rattle.ae_seq.specs.Meaning.{at}
use Rattle.ae_eval.specs.Lines.{input_types}
use Rattle.ae_delay.specs.declared.own.OwnCosts.{OwnCosts}
use Rattle.ae_ports.specs.CircuitFor.{IsCircuitFor}
use Rattle.ae_ports.specs.Ports.{streams_of, columns_in}
use Rattle.ae_rewrite.specs.Interface.{AreValues}
use Rattle.ae_play.specs.Fed.{clock_row, fed_rows}
use Rattle.ae_play.specs.Lines.{clock_count, shown_words}
use Rattle.ae_correct.specs.Correct.{param_ports, wave}
use Rattle.ae_correct.specs.ClockTexts.{fill_word, IsFed, IsTaken}
use Rattle.ae_correct.specs.Laws.{IsLaidOut, IsShownAs, RunsAreShown}
use Rattle.ae_correct.proofs.Nets.{HavePorts}
use Rattle.ae_correct.proofs.Laid.{as_many, ins_filling}
use Rattle.ae_correct.proofs.Keeps.{circuit_ports, ins_of, outs_of}
use Rattle.ae_correct.proofs.FedRows.{FillAll, AreWhole, length_rows, row_later, small_column, stands_in_row, free_in_row}
use Rattle.ae_correct.proofs.FirstWords.{begins}
use Rattle.ae_correct.proofs.TakenRows.{net_inputs}
use Rattle.ae_correct.proofs.FedInputs.{reset_row, input_row}

-- ---- clocks

count_is : (slowdown latency k : ℕ) → 0 < k → clock_count slowdown latency k ≡ latency + k * slowdown
count_is slowdown latency zero h = absurd (omega (arith, h))
count_is slowdown latency (suc k) h = refl

-- ---- the whole

module _ (lines : ℕ → ℕ) (p : ProgramTree) (slowdown : ℕ) (costs : OwnCosts) (ins outs : List StTree) (n : Circuit) (laid : IsLaidOut p slowdown ins outs)
    (c : IsCircuitFor p slowdown costs ins outs n)
    (same : HasSameRuns (netlist_module lines n.cells n.outlets (length outs)) n) (latency fill : ℕ) (blocks : List (List ValueTree))
    (values : (b : ℕ) (block : List ValueTree) → slice_get blocks b ≡ Some block → AreValues (input_types p) block) where
  abbrev many : ℕ
  many = length outs

  abbrev own : ModuleTree
  own = netlist_module lines n.cells n.outlets (length outs)

  abbrev count : ℕ
  count = clock_count slowdown latency (length blocks)

  abbrev fed : List (List ℕ)
  fed = fed_rows slowdown fill ins (map (map flat) blocks) (clock_count slowdown latency (length blocks))

  sizes : FillAll slowdown ins
  sizes = ins_filling p slowdown ins outs laid

  whole : AreWhole ins blocks
  whole b block there = as_many p slowdown ins outs block laid (values b block there)

  module _ (run : List ModuleClock) (other : List Clock) (runs : IsModuleRun own run) (with_rows : IsRunWith n.cells fed (filled n.cells fill) other)
      (alike : BeginAlike own n run other) (equal : HaveEqualOutputs own n run other) where
    rows_long : length fed ≡ 1 + count
    rows_long = length_rows slowdown fill ins (map (map flat) blocks) count

    run_long : length run ≡ 1 + count
    run_long = alike.long ∙ with_rows.long ∙ rows_long

    later : (k : ℕ) → k < count → get_or fed (suc k) [] ≡ clock_row slowdown fill ins (map (map flat) blocks) k
    later = row_later slowdown fill ins (map (map flat) blocks) count

    abbrev have : HavePorts n.cells n.outlets (ins_of ins) (outs_of outs)
    have = circuit_ports p slowdown costs ins outs n c

    reset : (t : ℕ) → t < length run → (clock_at run t).word (codes "rst") ≡ get_or (get_or fed t []) 0 0
    reset = reset_row lines n many ins (outs_of outs) have run other fed alike with_rows.takes with_rows.long

    high : (t : ℕ) → t < 1 → t < length run → (clock_at run t).word (codes "rst") ≡ 1
    high zero early below = reset 0 below
    high (suc t) early below = absurd (omega (arith, early))

    low : (t : ℕ) → 1 ≤ t → t < length run → (clock_at run t).word (codes "rst") ≡ 0
    low zero late below = absurd (omega (arith, late))
    low (suc t) late below = reset (suc t) below ∙ ap (λ r. get_or r 0 0) (later t (omega (arith, below, run_long)))

    -- the words on the inputs are those of the rows
    on_inputs : (start k q column : ℕ) (x : StTree) → start + k < length run → slice_get ins q ≡ Some x → column < length (stream_widths (stream_of x))
        → wave run start (param_ports q x) k column ≡ get_or (get_or fed (start + k) []) (suc (columns_in (take q (streams_of ins)) + column)) 0
    on_inputs start k q column x below found small = input_row lines n many ins (outs_of outs) have run other fed alike with_rows.takes with_rows.long
        (start + k) q column x below found small

    holds_at : (b q e j : ℕ) (x : StTree) (w : Slot) (block : List ValueTree) → slice_get blocks b ≡ Some block → slice_get ins q ≡ Some x
        → slice_get (slots x) e ≡ Some w → j < element_words x
        → wave run 1 (param_ports q x) (b * slowdown + w.clock) (w.lane * element_words x + j) ≡ unwrap_or
        (slice_get (flat (at block q)) (e * element_words x + j)) 0
    holds_at b q e j x w block there found slot word =
        let f = sizes q x found in
        let inside : e < st_atoms x = omega (arith, slice_get_within (slots x) e w slot, length-slots x) in
        let is : slot_of x e ≡ w = ap (λ (o : Option Slot). unwrap_or o (slot_at 0 0)) slot in
        let bounds = slot_below x f.size.lengths e inside in
        let clock : w.clock < time x = subst (λ (y : Slot). y.clock < time x) is bounds.0 in
        let lane : w.lane < lanes x = subst (λ (y : Slot). y.lane < lanes x) is bounds.1 in
        let before : b < length blocks = slice_get_within blocks b block there in
        let fits : b * slowdown + slowdown ≤ length blocks * slowdown = row_fits b slowdown (length blocks) slowdown before (omega arith) in
        let counted : count ≡ latency + length blocks * slowdown = count_is slowdown latency (length blocks) (omega (arith, before)) in
        let shown : b * slowdown + w.clock < count = omega (arith, fits, counted, clock, f.time) in
        let column : ℕ = w.lane * element_words x + j in
        let next : 1 + (b * slowdown + w.clock) ≡ suc (b * slowdown + w.clock) = omega arith in
        on_inputs 1 (b * slowdown + w.clock) q column x (omega (arith, shown, run_long)) found (small_column x w.lane j lane word)
        ∙ ap (λ t. get_or (get_or fed t []) (suc (columns_in (take q (streams_of ins)) + column)) 0) next
        ∙ ap (λ r. get_or r (suc (columns_in (take q (streams_of ins)) + column)) 0) (later (b * slowdown + w.clock) shown)
        ∙ stands_in_row slowdown fill ins blocks count sizes whole b q e j x w block there found slot word clock lane

    free_at : (q l j t : ℕ) (x : StTree) → slice_get ins q ≡ Some x → l < lanes x → j < element_words x → t < length run
        → (IsTaken x slowdown (length blocks) l t → ⊥)
        → wave run 0 (param_ports q x) t (l * element_words x + j) ≡ fill_word fill x j
    free_at q l j t x found lane word below free =
        let z : 0 + t ≡ t = omega arith in
        let column : ℕ = l * element_words x + j in
        on_inputs 0 t q column x (omega (arith, below)) found (small_column x l j lane word)
        ∙ ap (λ i. get_or (get_or fed i []) (suc (columns_in (take q (streams_of ins)) + column)) 0) z
        ∙ free_in_row slowdown fill ins blocks count sizes whole q l j t x found lane word (omega (arith, below, run_long, rows_long)) free

    is_fed : IsFed own slowdown fill ins blocks run
    is_fed = record {
      reset = record { run_of = runs; some = omega arith; high = high; low = low };
      begins = λ first. begins own n run other fill same alike with_rows.begins first;
      holds = λ b block there. (record { each = λ q x found e j w slot word. holds_at b q e j x w block there found slot word });
      elsewhere = record { each = λ q l j t x found lane word below free. free_at q l j t x found lane word below free };
    }

    alike_words : (k : ℕ) → k < count → shown_words n.outlets other (1 + k) ≡ output_words own (clock_at run (1 + k))
    alike_words k below = sym (equal.outputs (1 + k) (omega (arith, below, run_long)))

    -- the module's run has the same words
    pub is_shown : All (AreInputs n.cells) fed → IsShownAs own n slowdown latency fill ins blocks other
    is_shown fits = record {
      shown = run;
      long = run_long;
      fed = is_fed;
      inputs = λ k below.
          let next : 1 + k ≡ suc k = omega arith in
          let within : 1 + k < length fed = omega (arith, below, rows_long) in
          sym (ap (λ t. get_or fed t []) next ∙ later k below)
          ∙ sym (net_inputs n fed (filled n.cells fill) other (1 + k) with_rows within (All-get_or (AreInputs n.cells) fed (1 + k) [] within fits))
          ∙ sym (alike.inputs (1 + k) (omega (arith, below, run_long)));
      outputs = alike_words;
    }

pub shown : RunsAreShown
shown lines p slowdown costs ins outs n latency fill blocks run laid circuit same values fits with_rows =
    let r = same.of_netlist run with_rows.runs in
    is_shown lines p slowdown costs ins outs n laid circuit same latency fill blocks values r.0 run r.1 with_rows r.2 r.3 fits
