-- The comment lines before a module.
use Rattle.std.specs.Prelude.{ℕ, Bool, not, ◌&&◌, ◌==◌, List, [], ◌++◌, map, length, codes, decimal, if◌then◌else◌}
use Rattle.ae_sttype.specs.StTree.{StTree, st_tree}
use Rattle.ae_sttype.specs.TypeText.{st_text}
use Rattle.ae_verilog.specs.declared.report.Report.{Report}
use Rattle.ae_verilog.specs.NetlistModule.{each_numbered}

-- what is told of a module, apart from where its types lie
pub record ReportTree : Type 0 where
  pub slowdown : ℕ
  pub latency : ℕ
  pub muls : ℕ
  pub load : ℕ
  pub enable : Bool
  pub ins : List StTree
  pub outs : List StTree

-- the tree of a report of the code
abbrev pub report_tree : Report → ReportTree
report_tree r = record {
  slowdown = r.slowdown;
  latency = r.latency;
  muls = r.muls;
  load = r.load;
  enable = r.enable;
  ins = map st_tree r.ins.items;
  outs = map st_tree r.outs.items;
}

-- a number behind its name, as `// slowdown 4`
abbrev pub number_line : (name : List ℕ) → ℕ → List ℕ
number_line name n = codes "// " ++ (name ++ (codes " " ++ (decimal n ++ codes "\n")))

-- that a module has an enable
abbrev pub enable_line : Bool → List ℕ
enable_line b = if b then codes "// enable\n" else []

-- the layout of a parameter, as `// in 0 TSeq 4 0 u8`
abbrev pub in_line : ℕ → StTree → List ℕ
in_line k t = codes "// in " ++ (decimal k ++ (codes " " ++ (st_text t ++ codes "\n")))

-- the layout of a result, numbered where there are several
abbrev pub out_line : (outs : ℕ) → ℕ → StTree → List ℕ
out_line outs k t = if outs == 1 then codes "// out " ++ (st_text t ++ codes "\n")
    else codes "// out " ++ (decimal k ++ (codes " " ++ (st_text t ++ codes "\n")))

-- the version of these lines, the costs, whether there is an enable, and the layouts of parameters and results
unfoldable pub report_lines : ReportTree → List ℕ
report_lines r = codes "// aeth 1\n"
    ++ (number_line (codes "slowdown") r.slowdown
    ++ (number_line (codes "latency") r.latency
    ++ (number_line (codes "muls") r.muls
    ++ (number_line (codes "load") r.load
    ++ (enable_line r.enable
    ++ (each_numbered in_line 0 r.ins
    ++ each_numbered (out_line (length r.outs)) 0 r.outs))))))

-- neither `%` nor `$`
abbrev pub is_clean : ℕ → Bool
is_clean b = not (b == 37) && not (b == 36)
