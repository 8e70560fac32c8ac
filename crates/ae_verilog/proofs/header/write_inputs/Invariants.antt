use Rattle.std.proofs.Common.{◌≡◌, ◌++◌, take, string_bytes}
use Rattle.std.specs.List.{flat_map}
use Rattle.ae_verilog.specs.Text.{input_text, CellPortFits}
use Rattle.ae_verilog.proofs.Joining.{OfFirst}
use Rattle.ae_verilog.proofs.header.write_inputs.Given as goal

abbrev pub invariant-loop-packed : goal.invariant-loop-packed
invariant-loop-packed l =
    (string_bytes l.out ≡ string_bytes l.fn.out ++ flat_map (λ sized. input_text sized.width sized.cell) (take l.packed-index l.cells))
    × OfFirst (λ sized. CellPortFits sized.cell) l.cells l.packed-index
