-- The ports of a circuit, and the words that stand on them.
use Rattle.std.specs.Prelude.{ℕ, zero, suc, ◌+◌, List, [], ◌∷◌, ◌++◌, length, map, sum_by}
use Rattle.ae_netlist.specs.declared.cell.Port.{Port}
use Rattle.ae_netlist.specs.declared.cell.Port.TheVariants.{Reset, In, Out}
use Rattle.ae_netlist.specs.declared.cell.Cell.TheVariants.{Input}
use Rattle.ae_netlist.specs.declared.cell.SizedCell.{SizedCell}
use Rattle.ae_netlist.specs.declared.cell.Outlet.{Outlet}
use Rattle.ae_netlist.specs.Circuit.{width_of}
use Rattle.ae_netlist.specs.Runs.{Clock}
use Rattle.ae_rewrite.specs.Blocks.{input_wave}
use Rattle.ae_ops.specs.Waves.{Wave}
use Rattle.ae_ops.specs.Blocks.{Stream, stream_of, stream_widths}
use Rattle.ae_sttype.specs.StTree.{StTree}

-- ---- columns

-- where the words of these layouts stand
abbrev pub streams_of : List StTree → List Stream
streams_of ss = map stream_of ss

-- how many columns these streams have
abbrev pub columns_in : List Stream → ℕ
columns_in ss = sum_by (λ (s : Stream). length (stream_widths s)) ss

-- ---- ports

-- a port and its width, in bits
pub record SizedPort : Type 0 where
  pub port : Port
  pub width : ℕ

-- a port for each word of a lane, from word number k on
abbrev pub word_ports : (at : ℕ → Port) (k : ℕ) → (widths : List ℕ) → List SizedPort
word_ports at k [] = []
word_ports at k (w ∷ ws) = record { port = at k; width = w } ∷ word_ports at (k + 1) ws

-- those of the first lanes, lane by lane and in it word by word
abbrev pub lane_ports : (at : ℕ → ℕ → Port) (widths : List ℕ) → (lanes : ℕ) → List SizedPort
lane_ports at ws zero = []
lane_ports at ws (suc l) = lane_ports at ws l ++ word_ports (at l) 0 ws

abbrev pub stream_ports : (at : ℕ → ℕ → Port) → Stream → List SizedPort
stream_ports at s = lane_ports at s.widths s.lanes

-- those of each stream in turn, where the first has number k
abbrev pub ports_from : (at : ℕ → ℕ → ℕ → Port) (k : ℕ) → List Stream → List SizedPort
ports_from at k [] = []
ports_from at k (s ∷ ss) = stream_ports (at k) s ++ ports_from at (k + 1) ss

abbrev pub input_ports : List Stream → List SizedPort
input_ports ss = ports_from (λ param lane word. In param lane word) 0 ss

abbrev pub output_ports : List Stream → List SizedPort
output_ports ss = ports_from (λ result lane word. Out result lane word) 0 ss

abbrev pub reset_port : SizedPort
reset_port = record { port = Reset; width = 1 }

-- the cell of an input, and the port of an output
abbrev pub input_cell : SizedPort → SizedCell
input_cell p = record { width = p.width; cell = Input p.port }

abbrev pub outlet_port : List SizedCell → Outlet → SizedPort
outlet_port cells o = record { port = o.port; width = width_of cells o.net.0 }

-- ---- words

-- the words of the inputs of each stream in turn
abbrev pub input_waves : List Clock → (start first : ℕ) → List Stream → List Wave
input_waves run start first [] = []
input_waves run start first (s ∷ ss) = input_wave run start first ∷ input_waves run start (first + length (stream_widths s)) ss
