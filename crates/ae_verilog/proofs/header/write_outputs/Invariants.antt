use Rattle.std.proofs.Common.{◌≡◌, ◌++◌, take, string_bytes}
use Rattle.std.specs.List.{flat_map}
use Rattle.ae_verilog.specs.Text.{output_text, PortFits}
use Rattle.ae_verilog.proofs.Joining.{OfFirst}
use Rattle.ae_verilog.proofs.header.write_outputs.Given as goal

abbrev pub invariant-loop-outlet : goal.invariant-loop-outlet
invariant-loop-outlet l =
    (string_bytes l.out ≡ string_bytes l.fn.out ++ flat_map (output_text l.cells l.outs) (take l.outlet-index l.outlets))
    × OfFirst (λ outlet. PortFits outlet.port) l.outlets l.outlet-index
