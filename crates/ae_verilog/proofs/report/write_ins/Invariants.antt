use Rattle.std.proofs.Common.{◌≡◌, ◌++◌, map, drop, string_bytes}
use Rattle.ae_sttype.specs.StTree.{st_tree}
use Rattle.ae_verilog.specs.NetlistModule.{each_numbered}
use Rattle.ae_verilog.specs.ReportLines.{in_line}
use Rattle.ae_verilog.proofs.report.write_ins.Given as goal

abbrev pub invariant-loop-k : goal.invariant-loop-k
invariant-loop-k l =
    string_bytes l.out ++ each_numbered in_line l.k (map st_tree (drop l.k l.ins)) ≡ string_bytes l.fn.out ++ each_numbered in_line 0 (map st_tree l.ins)
