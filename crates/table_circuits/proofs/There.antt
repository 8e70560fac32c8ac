-- What the calls require of nets, from what a look at their cells tells.
use Rattle.std.proofs.Common.{ℕ, ◌≡◌, List, [], Some, slice_get, Result, Ok, Err, OnOk, OnErr, ap}
use Rattle.ae_netlist.specs.declared.cell.NetId.{NetId}
use Rattle.ae_netlist.specs.declared.cell.Cell.{Cell}
use Rattle.ae_netlist.specs.declared.cell.Cell.TheVariants.{Input, Reg, Mem}
use Rattle.ae_netlist.specs.declared.cell.Port.{Port}
use Rattle.ae_netlist.specs.declared.cell.Port.TheVariants.{Reset}
use Rattle.ae_netlist.specs.declared.cell.SizedCell.{SizedCell}
use Rattle.ae_netlist.specs.declared.netlist.NetFault.{NetFault}
use Rattle.ae_netlist.specs.Circuit.{Circuit, IsAddress, IsMemory, IsNet, IsPlain, IsRegister, IsWritten, depth_of, depth_in, width_of, width_in}
use Rattle.ae_clocked.specs.Phases.{Belongs}
use Rattle.ae_stall.specs.Copies.{reset_cell}

pub net_there : (cells : List SizedCell) (n w : ℕ) (sized : SizedCell) → slice_get cells n ≡ Some sized → sized.width ≡ w → IsPlain sized.cell → IsNet cells n w
net_there cells n w sized found wide plain = record { sized = sized; found = found; plain = plain; wide = wide }

pub register_there : (cells : List SizedCell) (n w v : ℕ) (cell : Cell) (next : NetId) → slice_get cells n ≡ Some (record { width = v; cell = cell }) → v ≡ w
    → cell ≡ Reg next → IsRegister cells n w
register_there cells n w v cell next found wide is = record { next = next; found = rw (wide, is) at found }

pub memory_there : (cells : List SizedCell) (n w depth v : ℕ) (cell : Cell) (at next enable : NetId)
    → slice_get cells n ≡ Some (record { width = v; cell = cell }) → v ≡ w → cell ≡ Mem depth at next enable
    → IsMemory cells n w depth
memory_there cells n w depth v cell at next enable found wide is = record { at = at; next = next; enable = enable; found = rw (wide, is) at found }

memory_width : (cells : List SizedCell) (m w depth : ℕ) → IsMemory cells m w depth → width_of cells m ≡ w
unfolding width_of
memory_width cells m w depth h = ap width_in h.found

memory_depth : (cells : List SizedCell) (m w depth : ℕ) → IsMemory cells m w depth → depth_of cells m ≡ depth
unfolding depth_of
memory_depth cells m w depth h = ap depth_in h.found

pub own_memory : {cells : List SizedCell} {m w depth : ℕ} → IsMemory cells m w depth → IsMemory cells m (width_of cells m) (depth_of cells m)
own_memory {cells} {m} {w} {depth} h = rw (memory_width cells m w depth h, memory_depth cells m w depth h) h

pub written_there : {cells : List SizedCell} {m w depth at next enable : ℕ} → IsMemory cells m w depth → IsAddress cells at depth → IsNet cells next w
    → IsNet cells enable 1
    → IsWritten cells (width_of cells m) (depth_of cells m) at next enable
written_there {cells} {m} {w} {depth} h a n e =
    rw (memory_width cells m w depth h, memory_depth cells m w depth h) (record { address = a; word = n; bit = e })

pub belongs_new : (cells : List SizedCell) (rst : ℕ) → IsNet cells rst 1 → Belongs (record { rst = rst; counters = []; marks = [] }) cells
belongs_new cells rst h = record { rst = h; counters = λ phase net found. cc; marks = λ mark net found. cc }

pub reset_there : (cells : List SizedCell) (v : ℕ) (cell : Cell) (port : Port) → slice_get cells 0 ≡ Some (record { width = v; cell = cell }) → v ≡ 1
    → cell ≡ Input port → port ≡ Reset
    → slice_get cells 0 ≡ Some reset_cell
reset_there cells v cell port found wide is named = rw (wide, is, named) at found

-- an added cell leaves the limit
pub same_limit : (old new : Circuit) (r : Result NetId NetFault) (cells : List SizedCell) → OnOk r (new ≡ record old { cells = cells }) → OnErr r (new ≡ old)
    → new.limit ≡ old.limit
same_limit old new (Ok n) cells added kept = ap (λ (c : Circuit). c.limit) added
same_limit old new (Err e) cells added kept = ap (λ (c : Circuit). c.limit) kept
