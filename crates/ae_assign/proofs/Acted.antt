-- What a statement makes of what is next, from what its parts make of it.
use Rattle.std.proofs.Common.{ℕ, ◌==◌, ◌&&◌, ◌+◌, ◌*◌, Bool, not, List, Option, Some, Result, Ok, Err, OnOk, refl, arith}
use Rattle.ae_word.specs.WordTable.{bit}
use Rattle.ae_netlist.specs.declared.cell.NetId.{NetId}
use Rattle.ae_netlist.specs.Circuit.{Circuit}
use Rattle.ae_netlist.specs.Runs.{Clock}
use Rattle.ae_vmodule.specs.ModuleTree.{ExprTree, StmtTree, when, either, block_end, NetTree}
use Rattle.ae_judge.specs.Names.{stmt_targets}
use Rattle.ae_judge.specs.Weight.{expr_weight, stmt_weight}
use Rattle.ae_runs.specs.Values.{own_value}
use Rattle.ae_gates.specs.Cells.{AddsGates, IsWord}
use Rattle.ae_runs.specs.Named.{AreNamed, read}
use Rattle.ae_assign.specs.Edges.{Acts, FitNexts, IsActed, IsGuard, OthersKeep}
use Rattle.ae_assign.specs.declared.statements.Next.{Next}
use Rattle.ae_gates.proofs.Words.{adds_sum, adds_within, grows_refl}
use Rattle.ae_assign.proofs.EdgeLaws.{when_acts, either_acts}
use Rattle.ae_assign.proofs.EdgeFits.{others_both, weight_more}

module _ (from : ℕ) (ns : List NetTree) (ys : List (Option NetId)) (guard : Option NetId) where
  -- a call that says so clause by clause
  pub acted : {A E : Type 0} (r : Result A E) (old new : Circuit) (before after : List Next) (s : StmtTree)
      → OnOk r (AddsGates old new (8 * stmt_weight 0 s)) → OnOk r (FitNexts ns after new.cells) → OnOk r (OthersKeep ns before after (stmt_targets s))
      → OnOk r (Acts from ns ys guard old.cells new.cells before after s) → OnOk r (IsActed from ns ys guard old new before after s)
  acted (Ok x) old new before after s adds nexts others acts = record { adds = adds; nexts = nexts; others = others; acts = acts }
  acted (Err e) old new before after s adds nexts others acts = tt

  -- no statement
  pub none_acted : (nl : Circuit) (nexts : List Next) → FitNexts ns nexts nl.cells → IsActed from ns ys guard nl nl nexts nexts block_end
  none_acted nl nexts fits = record {
    adds = record { grows = grows_refl nl; more = omega arith; few = omega arith };
    nexts = fits;
    others = λ n none. refl;
    acts = λ at g named guards all k run is t l. refl;
  }

  -- one branch, reached where the test is not 0
  pub when_acted : (m0 m1 m2 m3 : Circuit) (before after : List Next) (test : ExprTree) (s : StmtTree) (none first : NetId)
      → AddsGates m0 m1 (8 * expr_weight test + 3) → AddsGates m1 m2 2
      → ((at : List ℕ → ℕ) → AreNamed ns ys at → IsWord from m1.cells none.0 1 (λ run t. bit (own_value ns (read at run t) test == 0)))
      → ((g b : List Clock → ℕ → Bool) → IsGuard from m1.cells guard g → IsWord from m1.cells none.0 1 (λ run t. bit (b run t))
      → IsWord from m2.cells first.0 1 (λ run t. bit (g run t && not (b run t))))
      → IsActed from ns ys (Some first) m2 m3 before after s → IsActed from ns ys guard m0 m3 before after (when test s)
  when_acted m0 m1 m2 m3 before after test s none first p q fails unless h =
      let heavier = weight_more 0 s in
      record {
        adds = adds_within (omega arith) (adds_sum p (adds_sum q h.adds));
        nexts = h.nexts;
        others = h.others;
        acts = when_acts from ns ys guard m0 m1 m2 m3 before after test s none first p.grows fails unless h.acts;
      }

  -- two branches
  pub either_acted : (m0 m1 m2 m3 m4 m5 : Circuit) (before mid after : List Next) (test : ExprTree) (s u : StmtTree) (none first second : NetId)
      → AddsGates m0 m1 (8 * expr_weight test + 3) → AddsGates m1 m2 2
      → AddsGates m2 m3 1
      → ((at : List ℕ → ℕ) → AreNamed ns ys at → IsWord from m1.cells none.0 1 (λ run t. bit (own_value ns (read at run t) test == 0)))
      → ((g b : List Clock → ℕ → Bool) → IsGuard from m1.cells guard g → IsWord from m1.cells none.0 1 (λ run t. bit (b run t))
      → IsWord from m2.cells first.0 1 (λ run t. bit (g run t && not (b run t))))
      → ((g b : List Clock → ℕ → Bool) → IsGuard from m2.cells guard g → IsWord from m2.cells none.0 1 (λ run t. bit (b run t))
      → IsWord from m3.cells second.0 1 (λ run t. bit (g run t && b run t)))
      → IsActed from ns ys (Some first) m3 m4 before mid s → IsActed from ns ys (Some second) m4 m5 mid after u
      → IsActed from ns ys guard m0 m5 before after (either test s u)
  either_acted m0 m1 m2 m3 m4 m5 before mid after test s u none first second p q r fails unless also h i =
      let heavier = weight_more 0 s in
      let heavier_too = weight_more 0 u in
      record {
        adds = adds_within (omega arith) (adds_sum p (adds_sum q (adds_sum r (adds_sum h.adds i.adds))));
        nexts = i.nexts;
        others = others_both ns before mid after (stmt_targets s) (stmt_targets u) h.others i.others;
        acts = either_acts from ns ys guard m0 m1 m2 m3 m4 m5 before mid after test s u none first second p.grows q.grows r.grows h.adds.grows i.adds.grows
            fails unless also h.acts i.acts;
      }
