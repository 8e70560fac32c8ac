use Rattle.std.proofs.Common.{◌≡◌, drop}
use Rattle.std.specs.List.{list_all}
use Rattle.ae_vcd.specs.Forms.{is_binary_digit}
use Rattle.ae_vcd.proofs.shapes.are_binary.Given as goal

abbrev pub invariant-loop-byte : goal.invariant-loop-byte
invariant-loop-byte l = list_all is_binary_digit (drop l.byte-index l.bytes) ≡ list_all is_binary_digit l.bytes
