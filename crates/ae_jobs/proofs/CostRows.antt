-- The records of the node lines, one after the other.
use Rattle.std.proofs.Common.{ℕ, zero, suc, ◌≡◌, ◌+◌, ◌<◌, List, [], ◌∷◌, ◌++◌, length, map, drop, get_or, true, Some, slice_get, ap, sym, ◌∙◌, arith, add-one, append_assoc}
use Rattle.std.proofs.lemmas.Option.{none-some, same_Some}
use Rattle.ae_seq.specs.declared.program.Node.{Node}
use Rattle.ae_seq.specs.ProgramTree.{node_tree}
use Rattle.ae_seq.specs.Formed.{all_name_bytes}
use Rattle.ae_delay.specs.declared.weighing.Cost.{Cost}
use Rattle.ae_compile.specs.LineNotes.{AllNamed}
use Rattle.ae_jobs.specs.CostTables.{cost_row, cost_rows}

pub named_at : (ns : List Node) (i : ℕ) (n : Node) → AllNamed (map node_tree ns) → i < length ns → n ≡ get_or ns i n → all_name_bytes (node_tree n).name ≡ true
named_at [] i n h l e = absurd (omega arith)
named_at (m ∷ ns) zero n h l e = ap (λ (x : Node). all_name_bytes (node_tree x).name) e ∙ h.0
named_at (m ∷ ns) (suc i) n h l e = named_at ns i n h.1 (omega arith) e

rows_from : (ns : List Node) (cs : List Cost) (i : ℕ) (n : Node) (c : Cost) → i < length ns → n ≡ get_or ns i n → slice_get cs i ≡ Some c
    → cost_rows (map node_tree (drop i ns)) (drop i cs) ≡ cost_row (node_tree n) c ++ cost_rows (map node_tree (drop (suc i) ns)) (drop (suc i) cs)
rows_from [] cs i n c l e g = absurd (omega arith)
rows_from (m ∷ ns) [] i n c l e g = absurd (none-some c g)
rows_from (m ∷ ns) (d ∷ cs) zero n c l e g =
    ap (λ (x : Node). cost_row (node_tree x) d ++ cost_rows (map node_tree ns) cs) (sym e) ∙
    ap (λ (x : Cost). cost_row (node_tree n) x ++ cost_rows (map node_tree ns) cs) (same_Some d c g)
rows_from (m ∷ ns) (d ∷ cs) (suc i) n c l e g = rows_from ns cs i n c (omega arith) e g

pub rows_next : (out new table : List ℕ) (ns : List Node) (cs : List Cost) (i : ℕ) (n : Node) (c : Cost) → i < length ns → n ≡ get_or ns i n
    → slice_get cs i ≡ Some c
    → out ++ cost_rows (map node_tree (drop i ns)) (drop i cs) ≡ table → new ≡ out ++ cost_row (node_tree n) c → new
    ++ cost_rows (map node_tree (drop (i + 1) ns)) (drop (i + 1) cs) ≡ table
rows_next out new table ns cs i n c l e g h more =
    let rest = cost_rows (map node_tree (drop (suc i) ns)) (drop (suc i) cs) in
    rw add-one (ap (λ xs. xs ++ rest) more ∙ append_assoc out (cost_row (node_tree n) c) rest ∙ ap (λ ys. out ++ ys) (sym (rows_from ns cs i n c l e g)) ∙ h)
