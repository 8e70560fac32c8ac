-- Reports, notes and netlists whose listing is short.
use Rattle.std.specs.Prelude.{◌≡◌, ℕ, ◌+◌, ◌*◌, ◌≤◌, List, length, Some, slice_get}
use Rattle.ae_sttype.specs.StTree.{StTree}
use Rattle.ae_sttype.specs.Size.{IsInSize}
use Rattle.ae_netlist.specs.declared.cell.SizedCell.{SizedCell}
use Rattle.ae_netlist.specs.declared.cell.Outlet.{Outlet}
use Rattle.ae_verilog.specs.ReportLines.{ReportTree}
use Rattle.ae_verilog.specs.Notes.{NoteTree}

-- each layout is in size
abbrev pub AreInSize : List StTree → Type 0
AreInSize ts = (k : ℕ) (t : StTree) → slice_get ts k ≡ Some t → IsInSize t

-- at most eight parameters and results, and 4,096 notes, as a program has; names of at most 32 bytes; and a netlist that is
-- not too large to be elaborated
pub record IsShort (r : ReportTree) (notes : List NoteTree) (cells : List SizedCell)
    (outlets : List Outlet) : Type 0 where
  pub few_ins : length r.ins ≤ 8
  pub few_outs : length r.outs ≤ 8
  pub ins : AreInSize r.ins
  pub outs : AreInSize r.outs
  pub few_notes : length notes ≤ 4096
  pub names : (i : ℕ) (n : NoteTree) → slice_get notes i ≡ Some n → length n.name ≤ 32
  pub layouts : (i : ℕ) (n : NoteTree) → slice_get notes i ≡ Some n → IsInSize n.layout
  pub small : 1 + 4 * length cells + 4 * length outlets ≤ 10000000
