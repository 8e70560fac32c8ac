use Rattle.std.proofs.Common.{◌≡◌, ◌++◌, map, length, drop, string_bytes}
use Rattle.ae_sttype.specs.StTree.{st_tree}
use Rattle.ae_verilog.specs.NetlistModule.{each_numbered}
use Rattle.ae_verilog.specs.ReportLines.{out_line}
use Rattle.ae_verilog.proofs.report.write_outs.Given as goal

abbrev pub invariant-loop-k : goal.invariant-loop-k
invariant-loop-k l =
    string_bytes l.out ++ each_numbered (out_line (length l.outs)) l.k (map st_tree (drop l.k l.outs)) ≡ string_bytes l.fn.out
    ++ each_numbered (out_line (length l.outs)) 0 (map st_tree l.outs)
