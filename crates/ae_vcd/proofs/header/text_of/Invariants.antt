use Rattle.std.proofs.Common.{◌≡◌, take, drop, true}
use Rattle.std.specs.Prelude.{string_bytes}
use Rattle.std.specs.List.{list_all}
use Rattle.ae_vcd.specs.Waves.{is_graphic}
use Rattle.ae_vcd.proofs.header.text_of.Given as goal

abbrev pub invariant-loop-byte : goal.invariant-loop-byte
invariant-loop-byte l = record {
  text : string_bytes l.text ≡ take l.byte-index l.name;
  rest : list_all is_graphic (drop l.byte-index l.name) ≡ true;
}
