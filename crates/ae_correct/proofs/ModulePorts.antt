-- The ports of a module, by those of its netlist: the same in order, with their names.
use Rattle.std.proofs.Common.{ℕ, zero, suc, ◌≡◌, ◌+◌, ◌<◌, Bool, List, [], ◌∷◌, ◌++◌, length, map, Option, Some, slice_get, arith, refl, ap, sym, ◌∙◌}
use Rattle.std.specs.Option.{option_map}
use Rattle.std.specs.Prelude.{unwrap_or}
use Rattle.std.proofs.lemmas.List.{map-append}
use Rattle.std.proofs.lemmas.Option.{slice_get-map}
use Rattle.ae_word.specs.AtomTree.{WordKind, atom_kinds}
use Rattle.ae_netlist.specs.declared.cell.Port.{Port}
use Rattle.ae_sttype.specs.StTree.{StTree, lanes, element_atom}
use Rattle.ae_verilog.specs.NetlistModule.{port_name}
use Rattle.ae_ops.specs.Blocks.{stream_of, stream_widths}
use Rattle.ae_eval.proofs.Items.{entry-at}
use Rattle.ae_ports.specs.Ports.{streams_of, SizedPort, word_ports, lane_ports, stream_ports, ports_from}
use Rattle.ae_correct.specs.Correct.{ModulePort, bundle_ports, name_of}
use Rattle.ae_correct.specs.Correct as module_side
use Rattle.ae_correct.proofs.Places.{length_stream}

abbrev pub module_port : (outs : ℕ) → Bool → SizedPort → ModulePort
module_port outs out p = record { name = port_name outs p.port; width = p.width; is_output = out }

abbrev widths_of : List WordKind → List ℕ
widths_of ks = map (λ (k : WordKind). k.width) ks

words_are : (outs : ℕ) (out : Bool) (at : ℕ → Port) (k : ℕ) (ks : List WordKind)
    → map (module_port outs out) (word_ports at k (widths_of ks)) ≡ module_side.ports_of_words (λ j. port_name outs (at j)) out k ks
words_are outs out at k [] = refl
words_are outs out at k (w ∷ ks) = ap (λ ps. record { name = port_name outs (at k); width = w.width; is_output = out } ∷ ps) (words_are outs out at (k + 1) ks)

lanes_are : (outs : ℕ) (out : Bool) (at : ℕ → ℕ → Port) (ks : List WordKind) (l : ℕ)
    → map (module_port outs out) (lane_ports at (widths_of ks) l) ≡ module_side.ports_of_lanes (λ lane word. port_name outs (at lane word)) out ks l
lanes_are outs out at ks zero = refl
lanes_are outs out at ks (suc l) =
    map-append (module_port outs out) (lane_ports at (widths_of ks) l) (word_ports (at l) 0 (widths_of ks))
    ∙ (λ i. lanes_are outs out at ks l i ++ words_are outs out (at l) 0 ks i)

pub bundle_are : (outs : ℕ) (out : Bool) (at : ℕ → ℕ → Port) (s : StTree)
    → map (module_port outs out) (stream_ports at (stream_of s)) ≡ bundle_ports (λ lane word. port_name outs (at lane word)) out s
bundle_are outs out at s = lanes_are outs out at (atom_kinds (element_atom s)) (lanes s)

pub from_are : (outs : ℕ) (out : Bool) (at : ℕ → ℕ → ℕ → Port) (k : ℕ) (ss : List StTree)
    → map (module_port outs out) (ports_from at k (streams_of ss)) ≡ module_side.bundles_from
    (λ q. bundle_ports (λ lane word. port_name outs (at q lane word)) out) k ss
from_are outs out at k [] = refl
from_are outs out at k (s ∷ ss) =
    map-append (module_port outs out) (stream_ports (at k) (stream_of s)) (ports_from at (k + 1) (streams_of ss))
    ∙ (λ i. bundle_are outs out (at k) s i ++ from_are outs out at (k + 1) ss i)

pub mapped_at : {A B : Type 0} (f : A → B) (xs : List A) (k : ℕ) (x : A) → slice_get xs k ≡ Some x → slice_get (map f xs) k ≡ Some (f x)
mapped_at f xs k x h = slice_get-map f xs k ∙ ap (option_map f) h

-- the port of a column
pub record IsColumn (outs : ℕ) (out : Bool) (at : ℕ → ℕ → Port) (s : StTree) (column : ℕ) : Type 0 where
  pub port : SizedPort
  pub here : slice_get (stream_ports at (stream_of s)) column ≡ Some port
  pub named : unwrap_or (slice_get (map name_of (bundle_ports (λ lane word. port_name outs (at lane word)) out s)) column) [] ≡ port_name outs port.port

pub column_at : (outs : ℕ) (out : Bool) (at : ℕ → ℕ → Port) (s : StTree) (column : ℕ) → column < length (stream_widths (stream_of s))
    → IsColumn outs out at s column
column_at outs out at s column below =
    let ports : List SizedPort = stream_ports at (stream_of s) in
    let e = entry-at ports column (omega (arith, below, length_stream at (stream_of s))) in
    let p = e.0 in
    let own : slice_get (bundle_ports (λ lane word. port_name outs (at lane word)) out s) column ≡ Some (module_port outs out p) =
    ap (λ ps. slice_get ps column) (sym (bundle_are outs out at s)) ∙ mapped_at (module_port outs out) ports column p e.1 in
    record {
      port = p;
      here = e.1;
      named = ap (λ (o : Option (List ℕ)). unwrap_or o [])
          (mapped_at name_of (bundle_ports (λ lane word. port_name outs (at lane word)) out s) column (module_port outs out p) own);
    }
