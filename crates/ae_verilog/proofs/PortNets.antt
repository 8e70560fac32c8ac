-- The ports of a netlist's module.
use Rattle.std.proofs.Common.{ℕ, ◌≡◌, ◌+◌, ◌<◌, ◌≤◌, List, [], ◌∷◌, ◌++◌, length, map, take, get_or, sym, ap, ◌∙◌, append_assoc, subst}
use Rattle.std.specs.Prelude.{string_bytes}
use Rattle.std.specs.List.{flat_map}
use Rattle.std.proofs.lemmas.List.{append-nil, map-append, take_all, take_more}
use Rattle.std.proofs.lemmas.Grind.{flat_map-append}
use Rattle.ae_netlist.specs.declared.cell.SizedCell.{SizedCell}
use Rattle.ae_netlist.specs.declared.cell.Outlet.{Outlet}
use Rattle.ae_vmodule.specs.ModuleTree.{NetTree}
use Rattle.ae_verilog.specs.declared.interface.PortList.{PortList}
use Rattle.ae_verilog.specs.NetlistModule.{input_nets}
use Rattle.ae_verilog.specs.PortNets.{HasNets, input_ports}

abbrev name_of : NetTree → List ℕ
name_of x = x.name

abbrev width_of_net : NetTree → ℕ
width_of_net x = x.width

pub one_port : (before : List NetTree) (old new : PortList) (x : NetTree) → map string_bytes new.names.items ≡ map string_bytes old.names.items ++ x.name ∷ []
    → new.widths.items ≡ old.widths.items ++ x.width ∷ []
    → HasNets before old → HasNets (before ++ x ∷ []) new
one_port before old new x named wide h = record {
  names = named ∙ ap (λ ns. ns ++ x.name ∷ []) h.names ∙ sym (map-append name_of before (x ∷ []));
  widths = wide ∙ ap (λ ws. ws ++ x.width ∷ []) h.widths ∙ sym (map-append width_of_net before (x ∷ []));
}

pub no_port : (before : List NetTree) (ports : PortList) → HasNets before ports → HasNets (before ++ []) ports
no_port before ports h = subst (λ ns. HasNets ns ports) (sym (append-nil before)) h

inputs_more : (cells : List SizedCell) (i : ℕ) (d : SizedCell) → i < length cells → input_ports (take (i + 1) cells) ≡ input_ports (take i cells)
    ++ input_nets (get_or cells i d).width (get_or cells i d).cell
inputs_more cells i d inside =
    let f : SizedCell → List NetTree = λ sized. input_nets sized.width sized.cell in
    ap (flat_map f) (take_more cells i d inside) ∙ flat_map-append f (take i cells) (get_or cells i d ∷ []) ∙
    ap (λ l. flat_map f (take i cells) ++ l) (append-nil (f (get_or cells i d)))

-- behind the ports of the first cells, and of the first outputs, those of one more
pub input_behind : (before : List NetTree) (ports : PortList) (cells : List SizedCell) (i : ℕ) (d : SizedCell) → i < length cells
    → HasNets ((before ++ input_ports (take i cells)) ++ input_nets (get_or cells i d).width (get_or cells i d).cell) ports
    → HasNets (before ++ input_ports (take (i + 1) cells)) ports
input_behind before ports cells i d inside h =
    subst (λ ns. HasNets ns ports) (append_assoc before (input_ports (take i cells)) (input_nets (get_or cells i d).width (get_or cells i d).cell) ∙
    ap (λ ns. before ++ ns) (sym (inputs_more cells i d inside))) h

outputs_more : (f : Outlet → NetTree) (outlets : List Outlet) (i : ℕ) (d : Outlet) → i < length outlets → map f (take (i + 1) outlets) ≡ map f (take i outlets)
    ++ f (get_or outlets i d) ∷ []
outputs_more f outlets i d inside = ap (map f) (take_more outlets i d inside) ∙ map-append f (take i outlets) (get_or outlets i d ∷ [])

pub output_behind : (before : List NetTree) (old new : PortList) (f : Outlet → NetTree) (outlets : List Outlet) (i : ℕ) (d : Outlet) → i < length outlets
    → map string_bytes new.names.items ≡ map string_bytes old.names.items ++ (f (get_or outlets i d)).name ∷ [] → new.widths.items ≡ old.widths.items
    ++ (f (get_or outlets i d)).width ∷ []
    → HasNets (before ++ map f (take i outlets)) old → HasNets (before ++ map f (take (i + 1) outlets)) new
output_behind before old new f outlets i d inside named wide h =
    subst (λ ns. HasNets ns new) (append_assoc before (map f (take i outlets)) (f (get_or outlets i d) ∷ []) ∙
    ap (λ ns. before ++ ns) (sym (outputs_more f outlets i d inside)))
    (one_port (before ++ map f (take i outlets)) old new (f (get_or outlets i d)) named wide h)

pub inputs_whole : (before : List NetTree) (ports : PortList) (cells : List SizedCell) (i : ℕ) → length cells ≤ i
    → HasNets (before ++ input_ports (take i cells)) ports → HasNets (before ++ input_ports cells) ports
inputs_whole before ports cells i past h = subst (λ (cs : List SizedCell). HasNets (before ++ input_ports cs) ports) (take_all i cells past) h

pub outputs_whole : (before : List NetTree) (ports : PortList) (f : Outlet → NetTree) (outlets : List Outlet) (i : ℕ) → length outlets ≤ i
    → HasNets (before ++ map f (take i outlets)) ports → HasNets (before ++ map f outlets) ports
outputs_whole before ports f outlets i past h = subst (λ (os : List Outlet). HasNets (before ++ map f os) ports) (take_all i outlets past) h
