-- The table of `cost`: for each node line of the program function what it costs, or for the end line of one that only moves
-- words, as comma-separated values (RFC 4180).
use Rattle.std.specs.Prelude.{◌≡◌, ℕ, true, List, [], ◌∷◌, ◌++◌, map, codes, if◌then◌else◌}
use Rattle.std.specs.Fmt.{decimal}
use Rattle.ae_seq.specs.ProgramTree.{NodeTree, FuncTree, ProgramTree}
use Rattle.ae_seq.specs.Formed.{all_name_bytes}
use Rattle.ae_print.specs.Printed.{op_word}
use Rattle.ae_rewrite.specs.StProgramTree.{StFuncTree}
use Rattle.ae_delay.specs.declared.own.OwnCosts.{OwnCosts}
use Rattle.ae_delay.specs.declared.weighing.Cost.{Cost}
use Rattle.ae_delay.specs.Costs.{NodeTiming}
use Rattle.ae_delay.specs.Weighing.{cost_of}
use Rattle.ae_trace.specs.Traces.{is_movement}
use Rattle.ae_fuse.specs.Costing.{fused_costing}

-- fields with commas between them, and LF behind the last
abbrev pub more_fields : List (List ℕ) → List ℕ
more_fields [] = 10 ∷ []
more_fields (f ∷ fs) = 44 ∷ (f ++ more_fields fs)

abbrev pub comma_line : List (List ℕ) → List ℕ
comma_line [] = []
comma_line (f ∷ fs) = f ++ more_fields fs

-- fields of letters, digits and `_` alone
abbrev pub ArePlain : List (List ℕ) → Type 0
ArePlain [] = Unit {0}
ArePlain (f ∷ fs) = (all_name_bytes f ≡ true) × ArePlain fs

abbrev pub table_head : List ℕ
table_head = codes "line,name,op,latency,load,muls\n"

abbrev pub cost_row : NodeTree → Cost → List ℕ
cost_row n c =
    comma_line (decimal n.line ∷ n.name ∷ op_word n.op ∷ decimal c.latency ∷ decimal c.load ∷ decimal c.muls ∷ [])

-- one record for each node
abbrev pub cost_rows : List NodeTree → List Cost → List ℕ
cost_rows [] cs = []
cost_rows (n ∷ ns) [] = []
cost_rows (n ∷ ns) (c ∷ cs) = cost_row n c ++ cost_rows ns cs

abbrev pub cost_table : List NodeTree → List Cost → List ℕ
cost_table ns cs = table_head ++ cost_rows ns cs

-- of a program that only moves words one record, for the end line
abbrev pub fused_table : (line : ℕ) → OwnCosts → List ℕ
fused_table line c =
    table_head ++ comma_line (decimal line ∷ codes "end" ∷ codes "fused" ∷ decimal c.latency ∷ decimal c.load
    ∷ decimal c.muls ∷ [])

-- by the kind of the program
abbrev pub table_text : ProgramTree → FuncTree → StFuncTree → List NodeTiming → List ℕ
table_text p f s ts =
    if is_movement p then fused_table f.end_line (fused_costing f s).costs else cost_table f.nodes (map cost_of ts)
