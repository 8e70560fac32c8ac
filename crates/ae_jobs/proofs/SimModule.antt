-- From the lines of a netlist's run to those of the module with the same runs.
use Rattle.std.proofs.Common.{ℕ, zero, suc, ◌≡◌, ◌+◌, ◌*◌, ◌<◌, ◌≤◌, Bool, not, ◌&&◌, List, [], ◌++◌, length, Option, Some, None, Err, All, arith, refl, ap, sym, ◌∙◌, subst}
use Rattle.std.specs.List.{count_by}
use Rattle.std.proofs.lemmas.List.{length-map, get_or-map}
use Rattle.std.proofs.lemmas.List.Elements.{All-get_or}
use Rattle.std.proofs.lemmas.List.Sums.{length-filter, count_by-le-length}
use Rattle.std.proofs.lemmas.Option.{unwrap_or-slice_get}
use Rattle.ae_fields.specs.Rows.{bad_row}
use Rattle.ae_netlist.specs.declared.cell.Outlet.{Outlet}
use Rattle.ae_netlist.specs.Circuit.{Circuit, width_of}
use Rattle.ae_netlist.specs.Counts.{is_input, count_of}
use Rattle.ae_netlist.specs.Rows.{AreInputs, filled}
use Rattle.ae_vmodule.specs.ModuleTree.{NetTree, ModuleTree}
use Rattle.ae_judge.specs.Names.{is_input_kind, is_clock}
use Rattle.ae_judge.specs.Weight.{weight}
use Rattle.ae_judge.specs.Faults.{IsWellFormed}
use Rattle.ae_runs.specs.Values.{ModuleClock}
use Rattle.ae_runs.specs.Runs.{clock_at}
use Rattle.ae_runs.specs.SameRuns.{inputs_of, outputs_of, output_words, HasSameRuns, BeginAlike, HaveEqualOutputs}
use Rattle.ae_jobs.specs.declared.status.Status.{Status}
use Rattle.ae_jobs.specs.declared.status.Status.TheVariants.{Ok, Usage, BadLine, BadType, TooLarge, NoSchedule, BadWords, BadModule, LongRun, ReadFault, WriteFault, TooLong, Memory, BadWave, NotMoves}
use Rattle.ae_jobs.specs.RunTexts.{run_limit}
use Rattle.ae_play.specs.Lines.{shown_words}
use Rattle.ae_vread.specs.Spells.{Spells}
use Rattle.ae_vread.specs.Refusals.{HasFault, IsFaultOf, GivesModule}
use Rattle.ae_vread.specs.declared.reader.VFault.{VFault}
use Rattle.ae_vread.specs.declared.reader.VFault.TheVariants as v
use Rattle.ae_jobs.specs.SimTexts.{SpellsOnly, IsModuleOf, text_kind, Unread, Misformed, IsSimulated, or_bit, row_widths, taken_words, words_of_clock, words_of_clocks, sim_size, IsSimText, IsSimOf}
use Rattle.ae_jobs.specs.SimPlaying.{cell_widths, input_rows, IsNetText, net_size, IsNetSim, IsRefusedAs, IsModuleReply, Refused, Played}
use Rattle.ae_jobs.proofs.SimRows.{inputs_long, rows_fit}
use Rattle.ae_correct.proofs.FirstWords.{begins}
use Rattle.ae_correct.proofs.TakenRows.{input_widths, net_inputs}

-- ---- the module

pub same_widths : (m : ModuleTree) (n : Circuit) → HasSameRuns m n → row_widths m ≡ cell_widths n.cells
same_widths m n same = ap or_bit (same.inputs ∙ input_widths 0 n.cells)

same_count : (m : ModuleTree) (n : Circuit) → HasSameRuns m n → length (inputs_of m) ≡ count_of is_input n.cells
same_count m n same =
    sym (length-map (inputs_of m) (λ (x : NetTree). x.width)) ∙ ap length (same.inputs ∙ input_widths 0 n.cells) ∙ inputs_long n.cells

same_outputs : (m : ModuleTree) (n : Circuit) → HasSameRuns m n → length (outputs_of m) ≡ length n.outlets
same_outputs m n same =
    sym (length-map (outputs_of m) (λ (x : NetTree). x.width)) ∙ ap length same.outputs ∙ length-map n.outlets (λ (o : Outlet). width_of n.cells o.net.0)

pub few_inputs : (m : ModuleTree) (n : Circuit) → IsWellFormed m → HasSameRuns m n → count_of is_input n.cells ≤ 10000000
few_inputs m n formed same =
    let p : NetTree → Bool = λ x. is_input_kind x.kind && not (is_clock m x.name) in
    let kept : length (inputs_of m) ≡ count_by p m.nets = length-filter p m.nets in
    let most : count_by p m.nets ≤ length m.nets = count_by-le-length p m.nets in
    let count : length (inputs_of m) ≡ count_of is_input n.cells = same_count m n same in
    let small : weight m ≤ 10000000 = formed.small in
    omega (arith, kept, most, count, small)

-- equal words give equal lines
same_lines : (f g : ℕ → List ℕ) (count : ℕ) → ((c : ℕ) → c < count → f c ≡ g c) → words_of_clocks f count ≡ words_of_clocks g count
same_lines f g zero h = refl
same_lines f g (suc c) h =
    λ i. same_lines f g c (λ k below. h k (omega arith)) i ++ words_of_clock c (h c (omega arith) i)

sim_text : (m : ModuleTree) (n : Circuit) (fill : ℕ) (table : List (List (List ℕ))) (text : List ℕ) → HasSameRuns m n
    → All (AreInputs n.cells) (input_rows n.cells table) → IsNetText n fill table text
    → IsSimText m fill table text
sim_text m n fill table text same fit h =
    let g : List (List ℕ) → List ℕ = λ r. taken_words (count_of is_input n.cells) r in
    let rs : List (List ℕ) = input_rows n.cells table in
    let all : length rs ≡ length table = length-map table g in
    let w = same.of_netlist h.run h.runs.runs in
    let run : List ModuleClock = w.0 in
    let alike : BeginAlike m n run h.run = w.2 in
    let shown : HaveEqualOutputs m n run h.run = w.3 in
    let long : length run ≡ length table = alike.long ∙ h.runs.long ∙ all in
    let count : length (inputs_of m) ≡ count_of is_input n.cells = same_count m n same in
    record {
      run = run;
      is_run = record {
        long = long;
        runs = w.1;
        takes = λ t below.
            (let within : t < length rs = omega (arith, below, long, all) in
            let inside : t < length table = omega (arith, below, long) in
            alike.inputs t below
            ∙ net_inputs n rs (filled n.cells fill) h.run t h.runs within (All-get_or (AreInputs n.cells) rs t [] within fit)
            ∙ get_or-map g table t [] [] inside
            ∙ (λ i. taken_words (sym count i) (sym (unwrap_or-slice_get table t []) i)));
        begins = λ below. begins m n run h.run fill same alike h.runs.begins below;
      };
      lines = h.lines ∙ same_lines (λ c. shown_words n.outlets h.run c) (λ c. output_words m (clock_at run c)) (length table)
          (λ c below. sym (shown.outputs c (omega (arith, below, long))));
    }

pub sim_of : (m : ModuleTree) (n : Circuit) (fill : ℕ) (table : List (List (List ℕ))) (status : Status) (text : List ℕ) → HasSameRuns m n
    → IsNetSim fill n table status text → IsSimOf fill m table status text
sim_of m n fill table status text same h = by status h
  where
    widths : cell_widths n.cells ≡ row_widths m
    widths = sym (same_widths m n same)

    size : net_size n table ≡ sim_size m table
    size = ap (λ k. length table * (1 + k)) (sym (same_outputs m n same))

    row : (o : Option (ℕ × ℕ)) → bad_row 1 (cell_widths n.cells) table ≡ o → bad_row 1 (row_widths m) table ≡ o
    row o e = ap (λ ws. bad_row 1 ws table) (sym widths) ∙ e

    by : (status : Status) → IsNetSim fill n table status text → IsSimOf fill m table status text
    by Ok w = (row None w.0, subst (λ k. k ≤ run_limit) size w.1, sim_text m n fill table text same (rows_fit n.cells table w.0) w.2)
    by (BadWords r column) w = (row (Some (r, column)) w.0, w.1)
    by (LongRun s) w = (row None w.0, w.1, w.2 ∙ size, w.3)
    by Usage w = absurd w
    by (BadLine line) w = absurd w
    by (BadType line) w = absurd w
    by (TooLarge line) w = absurd w
    by (NoSchedule line) w = absurd w
    by (BadModule fault) w = absurd w
    by ReadFault w = absurd w
    by WriteFault w = absurd w
    by TooLong w = absurd w
    by Memory w = absurd w
    by (BadWave at) w = absurd w
    by (NotMoves line) w = absurd w

-- ---- the text

-- what is answered for a module is answered for the text that spells it
pub simulated : (fill : ℕ) (part : List ℕ) (table : List (List (List ℕ))) (m : ModuleTree) (status : Status) (text : List ℕ) → SpellsOnly part m
    → IsModuleReply fill m table status text → IsSimulated fill part table status text
simulated fill part table m status text s (Refused fault is r) =
    let here : IsSimulated fill part table (BadModule r.0) text = (Misformed m fault r.1 s is, r.3) in
    subst (λ x. IsSimulated fill part table x text) (sym r.2) here
simulated fill part table m status text s (Played formed w) = by status w
  where
    module_of : IsModuleOf part m
    module_of = record { spells = s; formed = formed }

    by : (status : Status) → IsSimOf fill m table status text → IsSimulated fill part table status text
    by Ok w = (m, module_of, w)
    by (BadWords row column) w = (m, module_of, w)
    by (LongRun size) w = (m, module_of, w)
    by Usage w = absurd w
    by (BadLine line) w = absurd w
    by (BadType line) w = absurd w
    by (TooLarge line) w = absurd w
    by (NoSchedule line) w = absurd w
    by (BadModule kind) w = absurd w
    by ReadFault w = absurd w
    by WriteFault w = absurd w
    by TooLong w = absurd w
    by Memory w = absurd w
    by (BadWave at) w = absurd w
    by (NotMoves line) w = absurd w

unread_as : (fill : ℕ) (part : List ℕ) (table : List (List (List ℕ))) (fault : VFault) (status : Status) (text : List ℕ)
    → IsRefusedAs (text_kind fault) status text → HasFault part fault
    → ((m : ModuleTree) → Spells part m → ⊥) → IsSimulated fill part table status text
unread_as fill part table fault status text r is none =
    let here : IsSimulated fill part table (BadModule r.0) text = (Unread fault r.1 is none, r.3) in
    subst (λ x. IsSimulated fill part table x text) (sym r.2) here

-- a text that spells no module
pub unread : (fill : ℕ) (part : List ℕ) (table : List (List (List ℕ))) (fault : VFault) (status : Status) (text : List ℕ)
    → IsRefusedAs (text_kind fault) status text → IsFaultOf part fault
    → ((m : ModuleTree) → Spells part m → GivesModule m (Err fault)) → IsSimulated fill part table status text
unread fill part table (v.BadToken at) status text r is none = unread_as fill part table (v.BadToken at) status text r is none
unread fill part table v.BadHeader status text r is none = unread_as fill part table v.BadHeader status text r is none
unread fill part table (v.BadItem item) status text r is none = unread_as fill part table (v.BadItem item) status text r is none
unread fill part table v.Memory status text r is none = absurd (none_some r.1)
  where
    none_some : (text_kind v.Memory ≡ Some r.0) → ⊥
    none_some e = cc
