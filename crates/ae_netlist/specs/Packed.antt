-- A cell as a netlist keeps it: what it is, and its numbers.
use Rattle.std.specs.Prelude.{ℕ, zero, suc, ◌+◌, ◌*◌, ◌^◌, List, [], ◌∷◌, ◌++◌}
use Rattle.ae_word.specs.declared.op.WordOp.{WordOp}
use Rattle.ae_word.specs.declared.op.WordOp.TheVariants.{Add, Sub, Mul, And, Or, Xor, Not, Min, Max, Eq, Lt, Mux, Shl, Shr, Cast, SLt, SMin, SMax, Sar, SCast}
use Rattle.ae_netlist.specs.declared.cell.NetId.{NetId}
use Rattle.ae_netlist.specs.declared.cell.Port.TheVariants.{Reset, Enable, Stream, In, Out, Plain}
use Rattle.ae_netlist.specs.declared.cell.Handshake.TheVariants.{SourceValid, SourceReady, SinkValid, SinkReady}
use Rattle.ae_netlist.specs.declared.cell.Cell.{Cell}
use Rattle.ae_netlist.specs.declared.cell.Cell.TheVariants.{Input, Const, Op, Reg, Mem, Peek}
use Rattle.ae_netlist.specs.declared.packed.Kind.{Kind}
use Rattle.ae_netlist.specs.declared.packed.Kind.TheVariants as k
use Rattle.ae_netlist.specs.declared.packed.OpName.{OpName}
use Rattle.ae_netlist.specs.declared.packed.OpName.TheVariants as n

-- an operator by its name and its number
abbrev pub op_in : OpName → ℕ → WordOp
op_in n.Add number = Add
op_in n.Sub number = Sub
op_in n.Mul number = Mul
op_in n.And number = And
op_in n.Or number = Or
op_in n.Xor number = Xor
op_in n.Not number = Not
op_in n.Min number = Min
op_in n.Max number = Max
op_in n.Eq number = Eq
op_in n.Lt number = Lt
op_in n.Mux number = Mux
op_in n.Shl number = Shl number
op_in n.Shr number = Shr number
op_in n.Cast number = Cast number
op_in n.SLt number = SLt
op_in n.SMin number = SMin
op_in n.SMax number = SMax
op_in n.Sar number = Sar number
op_in n.SCast number = SCast number

abbrev pub net : ℕ → NetId
net k = record { 0 = k }

-- a cell by what it is, an operator's name, and its numbers
abbrev pub cell_in : Kind → OpName → (number first second third : ℕ) → Cell
cell_in k.Reset op number first second third = Input Reset
cell_in k.Enable op number first second third = Input Enable
cell_in k.SourceValid op number first second third = Input (Stream SourceValid)
cell_in k.SourceReady op number first second third = Input (Stream SourceReady)
cell_in k.SinkValid op number first second third = Input (Stream SinkValid)
cell_in k.SinkReady op number first second third = Input (Stream SinkReady)
cell_in k.In op number first second third = Input (In first second third)
cell_in k.Out op number first second third = Input (Out first second third)
cell_in k.Plain op number first second third = Input (Plain first)
cell_in k.Const op number first second third = Const (second * 2 ^ 32 + first)
cell_in k.Op op number first second third = Op (op_in op number) (net first ∷ net second ∷ net third ∷ [])
cell_in k.Reg op number first second third = Reg (net first)
cell_in k.Mem op number first second third = Mem number (net first) (net second) (net third)
cell_in k.Peek op number first second third = Peek (net first) (net second)

-- so many nets from the first on
abbrev pub first_nets : ℕ → List NetId
first_nets zero = []
first_nets (suc k) = first_nets k ++ net k ∷ []
