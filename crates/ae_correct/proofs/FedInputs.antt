-- The words on a module's inputs, where its netlist takes rows.
use Rattle.std.proofs.Common.{ℕ, zero, suc, ◌≡◌, ◌+◌, ◌<◌, ◌≤◌, false, cond, List, [], ◌∷◌, length, map, take, get_or, Some, slice_get, arith, refl, ap, sym, ◌∙◌}
use Rattle.std.specs.Prelude.{codes, unwrap_or}
use Rattle.std.proofs.lemmas.List.Sums.{sum_by-cons}
use Rattle.std.proofs.lemmas.Option.{slice_get_within}
use Rattle.ae_netlist.specs.declared.cell.Port.{Port}
use Rattle.ae_netlist.specs.declared.cell.Port.TheVariants.{In}
use Rattle.ae_netlist.specs.declared.cell.SizedCell.{SizedCell}
use Rattle.ae_netlist.specs.Circuit.{Circuit}
use Rattle.ae_netlist.specs.Counts.{count_of, is_input}
use Rattle.ae_netlist.specs.Runs.{Clock, word_at}
use Rattle.ae_netlist.specs.Rows.{TakesRows}
use Rattle.ae_runs.specs.Values.{ModuleClock}
use Rattle.ae_runs.specs.Runs.{clock_at}
use Rattle.ae_runs.specs.SameRuns.{BeginAlike}
use Rattle.ae_sttype.specs.StTree.{StTree}
use Rattle.ae_ops.specs.Blocks.{stream_of, stream_widths}
use Rattle.ae_eval.proofs.Items.{slice_get-take}
use Rattle.ae_ports.specs.Ports.{streams_of, SizedPort, input_cell, reset_port, stream_ports, columns_in}
use Rattle.ae_ports.specs.Ports as net_side
use Rattle.ae_correct.specs.Correct.{param_ports, name_of}
use Rattle.ae_correct.proofs.Places.{port_there}
use Rattle.ae_correct.proofs.Nets.{HaveInputs, HavePorts, tree}
use Rattle.ae_correct.proofs.ModulePorts.{mapped_at, column_at}
use Rattle.ae_correct.proofs.Clocks.{input_alike, column_in}

-- ---- the number of an input

pub count_first : (cells : List SizedCell) (ports : List SizedPort) (k : ℕ) → take (length ports) cells ≡ map input_cell ports → k ≤ length ports
    → count_of is_input (take k cells) ≡ k
count_first cells ports zero h below = refl
count_first cells [] (suc k) h below = absurd (omega (arith, below))
count_first [] (p ∷ ports) (suc k) h below = cc
count_first (c ∷ cells) (p ∷ ports) (suc k) h below =
    let head : c ≡ input_cell p = cc in
    let rest : take (length ports) cells ≡ map input_cell ports = cc in
    let counted : SizedCell → ℕ = λ x. cond (is_input x.cell) 1 0 in
    let one : counted c ≡ 1 = ap counted head in
    omega (arith, sum_by-cons counted c (take k cells), one, count_first cells ports k rest (omega (arith, below)))

-- a word of an input is that of its number in the row
taken : (cells : List SizedCell) (ports : List SizedPort) (rows : List (List ℕ)) (other : List Clock) (t k : ℕ) (p : SizedPort) → HaveInputs cells ports
    → TakesRows cells rows other → t < length rows → slice_get ports k ≡ Some p
    → word_at other t k ≡ get_or (get_or rows t []) k 0
taken cells ports rows other t k p h takes below at =
    let within : k < length ports = slice_get_within ports k p at in
    let there : slice_get cells k ≡ Some (input_cell p) = sym (slice_get-take (length ports) k cells within) ∙ ap (λ cs. slice_get cs k) h.first ∙
    mapped_at input_cell ports k p at in
    takes.each t k (input_cell p) below there refl ∙ ap (λ i. get_or (get_or rows t []) i 0) (count_first cells ports k h.first (omega (arith, within)))

module _ (lines : ℕ → ℕ) (n : Circuit) (many : ℕ) (ss : List StTree) (outs : List SizedPort)
    (h : HavePorts n.cells n.outlets (reset_port ∷ net_side.input_ports (streams_of ss)) outs) (run : List ModuleClock) (other : List Clock)
    (rows : List (List ℕ))
    (alike : BeginAlike (tree lines n.cells n.outlets many (reset_port ∷ net_side.input_ports (streams_of ss)) outs h) n run other)
    (takes : TakesRows n.cells rows other) (long : length other ≡ length rows) where
  pub reset_row : (t : ℕ) → t < length run → (clock_at run t).word (codes "rst") ≡ get_or (get_or rows t []) 0 0
  reset_row t below =
      let room : t < length rows = omega (arith, below, alike.long, long) in
      input_alike lines n many (reset_port ∷ net_side.input_ports (streams_of ss)) outs h run other alike t 0 reset_port below refl
      ∙ taken n.cells (reset_port ∷ net_side.input_ports (streams_of ss)) rows other t 0 reset_port h.inputs takes room refl

  pub input_row : (t q column : ℕ) (s : StTree) → t < length run → slice_get ss q ≡ Some s → column < length (stream_widths (stream_of s))
      → (clock_at run t).word (unwrap_or (slice_get (map name_of (param_ports q s)) column) []) ≡ get_or (get_or rows t [])
      (suc (columns_in (take q (streams_of ss)) + column)) 0
  input_row t q column s below found small =
      let room : t < length rows = omega (arith, below, alike.long, long) in
      let at : ℕ → ℕ → ℕ → Port = λ param lane word. In param lane word in
      let c = column_at 1 false (at q) s column small in
      let z : q ≡ 0 + q = omega arith in
      let there : slice_get (net_side.input_ports (streams_of ss)) (columns_in (take q (streams_of ss)) + column) ≡ Some c.port =
      port_there at 0 (streams_of ss) q column (stream_of s) c.port (mapped_at stream_of ss q s found)
      (ap (λ i. slice_get (stream_ports (at i) (stream_of s)) column) (sym z) ∙ c.here) in
      let place : 1 + columns_in (take q (streams_of ss)) + column ≡ suc (columns_in (take q (streams_of ss)) + column) = omega arith in
      column_in lines n many ss outs h run other alike t q column s below found small
      ∙ ap (word_at other t) place
      ∙ taken n.cells (reset_port ∷ net_side.input_ports (streams_of ss)) rows other t
      (suc (columns_in (take q (streams_of ss)) + column)) c.port h.inputs takes room there
