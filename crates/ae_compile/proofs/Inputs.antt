-- The inputs of a program's circuit are the reset and the columns of its parameters' layouts.
use Rattle.std.proofs.Common.{ℕ, zero, suc, ◌≡◌, ◌+◌, Bool, List, [], ◌∷◌, ◌++◌, length, length-append, map, take, drop, flat_map, arith, refl, ap, sym, ◌∙◌}
use Rattle.std.specs.List.{filter}
use Rattle.std.proofs.lemmas.List.{append-nil, length-map, map-append, nil_from_length, take-append-drop}
use Rattle.std.proofs.lemmas.List.Concat.{flat_map-cons}
use Rattle.std.proofs.lemmas.List.Elements.{filter-append}
use Rattle.std.proofs.lemmas.List.Sums.{length-filter}
use Rattle.ae_word.specs.AtomTree.{WordKind, atom_kinds}
use Rattle.ae_seqtype.specs.SeqTree.{repeated}
use Rattle.ae_seqtype.proofs.Stands.{repeated-push}
use Rattle.ae_sttype.specs.StTree.{StTree, lanes, element_atom}
use Rattle.ae_netlist.specs.declared.cell.Port.{Port}
use Rattle.ae_netlist.specs.declared.cell.Port.TheVariants.{In}
use Rattle.ae_netlist.specs.declared.cell.SizedCell.{SizedCell}
use Rattle.ae_netlist.specs.Circuit.{Circuit}
use Rattle.ae_netlist.specs.Counts.{count_of, is_input}
use Rattle.ae_ports.specs.Ports.{streams_of, SizedPort, input_cell, input_ports, lane_ports, ports_from, reset_port, word_ports}
use Rattle.ae_ports.specs.CircuitFor.{IsCircuitFor}
use Rattle.ae_delay.specs.declared.own.OwnCosts.{OwnCosts}
use Rattle.ae_seq.specs.ProgramTree.{ProgramTree}
use Rattle.ae_play.specs.Fits.{HasColumns, lane_kinds}
use Rattle.ae_correct.proofs.Nets.{inputs_kept}

abbrev port_widths : List SizedPort → List ℕ
port_widths ps = map (λ (p : SizedPort). p.width) ps

abbrev kind_widths : List WordKind → List ℕ
kind_widths ks = map (λ (k : WordKind). k.width) ks

word_widths : (at : ℕ → Port) (k : ℕ) (ws : List ℕ) → port_widths (word_ports at k ws) ≡ ws
word_widths at k [] = refl
word_widths at k (w ∷ ws) = ap (λ vs. w ∷ vs) (word_widths at (k + 1) ws)

one_more : {A : Type 0} (n : ℕ) (xs : List A) → repeated n xs ++ xs ≡ repeated (suc n) xs
one_more n xs = let s : n + 1 ≡ suc n = omega arith in sym (repeated-push n xs) ∙ ap (λ k. repeated k xs) s

lane_widths : (at : ℕ → ℕ → Port) (ws : List ℕ) (lanes : ℕ) → port_widths (lane_ports at ws lanes) ≡ repeated lanes ws
lane_widths at ws zero = refl
lane_widths at ws (suc l) =
    map-append (λ (p : SizedPort). p.width) (lane_ports at ws l) (word_ports (at l) 0 ws)
    ∙ ap (λ vs. vs ++ port_widths (word_ports (at l) 0 ws)) (lane_widths at ws l)
    ∙ ap (λ vs. repeated l ws ++ vs) (word_widths (at l) 0 ws)
    ∙ one_more l ws

repeated_widths : (n : ℕ) (ks : List WordKind) → kind_widths (repeated n ks) ≡ repeated n (kind_widths ks)
repeated_widths zero ks = refl
repeated_widths (suc n) ks = map-append (λ (k : WordKind). k.width) ks (repeated n ks) ∙ ap (λ ws. kind_widths ks ++ ws) (repeated_widths n ks)

all_widths : (at : ℕ → ℕ → ℕ → Port) (k : ℕ) (ss : List StTree) → port_widths (ports_from at k (streams_of ss)) ≡ kind_widths (flat_map lane_kinds ss)
all_widths at k [] = refl
all_widths at k (s ∷ ss) =
    map-append (λ (p : SizedPort). p.width) (lane_ports (at k) (kind_widths (atom_kinds (element_atom s))) (lanes s)) (ports_from at (k + 1) (streams_of ss))
    ∙ ap (λ vs. vs ++ port_widths (ports_from at (k + 1) (streams_of ss)))
    (lane_widths (at k) (kind_widths (atom_kinds (element_atom s))) (lanes s) ∙ sym (repeated_widths (lanes s) (atom_kinds (element_atom s))))
    ∙ ap (λ vs. kind_widths (lane_kinds s) ++ vs) (all_widths at (k + 1) ss)
    ∙ sym (ap kind_widths (flat_map-cons lane_kinds s ss) ∙ map-append (λ (k : WordKind). k.width) (lane_kinds s) (flat_map lane_kinds ss))

abbrev input_test : SizedCell → Bool
input_test c = is_input c.cell

inputs_first : (cells : List SizedCell) (ports : List SizedPort) → take (length ports) cells ≡ map input_cell ports → count_of is_input cells ≡ length ports
    → filter input_test cells ≡ map input_cell ports
inputs_first cells ports first count =
    let rest : List SizedCell = drop (length ports) cells in
    let whole : map input_cell ports ++ rest ≡ cells = ap (λ cs. cs ++ rest) (sym first) ∙ take-append-drop (length ports) cells in
    let many : length (filter input_test cells) ≡ length ports = length-filter input_test cells ∙ count in
    let parts : filter input_test cells ≡ map input_cell ports ++ filter input_test rest =
    ap (filter input_test) (sym whole) ∙ filter-append input_test (map input_cell ports) rest ∙ ap (λ cs. cs ++ filter input_test rest) (inputs_kept ports) in
    let none : filter input_test rest ≡ [] = nil_from_length (filter input_test rest)
    (omega (arith, many, ap length parts, length-append (map input_cell ports) (filter input_test rest), length-map ports input_cell)) in
    parts ∙ ap (λ cs. map input_cell ports ++ cs) none ∙ append-nil (map input_cell ports)

cell_widths : (ports : List SizedPort) → map (λ (c : SizedCell). c.width) (map input_cell ports) ≡ port_widths ports
cell_widths [] = refl
cell_widths (p ∷ ports) = ap (λ ws. p.width ∷ ws) (cell_widths ports)

pub circuit_columns : (p : ProgramTree) (slowdown : ℕ) (costs : OwnCosts) (ins outs : List StTree) (n : Circuit) → IsCircuitFor p slowdown costs ins outs n
    → HasColumns n.cells ins
circuit_columns p slowdown costs ins outs n c =
    let ports : List SizedPort = reset_port ∷ input_ports (streams_of ins) in
    let long : 1 + length (input_ports (streams_of ins)) ≡ length ports = omega arith in
    ap (map (λ (x : SizedCell). x.width)) (inputs_first n.cells ports (ap (λ k. take k n.cells) (sym long) ∙ c.inputs) (c.no_others ∙ long))
    ∙ cell_widths ports
    ∙ ap (λ ws. 1 ∷ ws) (all_widths (λ param lane word. In param lane word) 0 ins)
