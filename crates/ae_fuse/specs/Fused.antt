-- A movement program as one move for each result, and what is known of it.
use Rattle.std.specs.Prelude.{◌≡◌, ◌↔◌, ℕ, ◌-◌, ◌<◌, ◌≤◌, true, List, [], length, map, IfSome, None, Option, Some, slice_get}
use Rattle.std.specs.List.{range_with_len}
use Rattle.ae_sttype.specs.declared.st_type.StType.{StType}
use Rattle.ae_sttype.specs.StTree.{StTree}
use Rattle.ae_moves.specs.Origins.{IsMove, Move, move_latency}
use Rattle.ae_seq.specs.ProgramTree.{FuncTree, ProgramTree}
use Rattle.ae_rewrite.specs.Interface.{main_of}
use Rattle.ae_rewrite.specs.Sound.{item_layout, item_layouts}
use Rattle.ae_rewrite.specs.StProgramTree.{StFuncTree, st_trees}
use Rattle.ae_delay.specs.declared.own.OwnCosts.{OwnCosts}
use Rattle.ae_trace.specs.Traces.{is_movement}
use Rattle.ae_trace.specs.Certificates.{IsCertificate}
use Rattle.ae_results.specs.declared.certificate.Certificate.{Certificate}
use Rattle.ae_results.specs.declared.result.FusedResult.{FusedResult}
use Rattle.ae_flow.specs.Flow.{item_words}
use Rattle.ae_results.specs.Certified.{IsFirstOf, certificate_tree}
use Rattle.ae_fuse.specs.Costing.{fused_costing, fused_costs, result_moves}
use Rattle.ae_fuse.specs.Labels.{MovesWords, layout_numbers}
use Rattle.ae_fuse.specs.Moved.{own_move}
use Rattle.ae_results.specs.Results.{result_move}

-- what contracts see of a fused program
pub record FusedView : Type 0 where
  pub ins : List StType
  pub results : List FusedResult
  pub arrivals : List ℕ
  pub latency : ℕ
  pub load : ℕ
  pub mems : ℕ
  pub certificate : Option Certificate

abbrev pub moves_in : FusedView → List Move
moves_in f = map (result_move (st_trees f.ins)) f.results

abbrev pub costs_in : FusedView → OwnCosts
costs_in f = record { latency = f.latency; load = f.load; muls = 0; mems = f.mems }

-- the layouts of an instance's results
abbrev pub outs_of : StFuncTree → List StTree
outs_of s = map (item_layout (item_layouts s)) s.results

-- the moves, the arrivals and the costs are those of the program, by its trace; where its latency is above 0, the certificate
-- shows that it is the least
pub record IsFusedOf (p : ProgramTree) (instances : List StFuncTree) (f : FusedView) : Type 0 where
  pub movement : is_movement p ≡ true
  pub func : FuncTree
  pub there : slice_get p.funcs (main_of p) ≡ Some func
  pub instance : StFuncTree
  pub last : slice_get instances (length instances - 1) ≡ Some instance
  pub ins : st_trees f.ins ≡ instance.ins
  pub moves : moves_in f ≡ result_moves func instance
  pub arrivals : f.arrivals ≡ (fused_costing func instance).arrivals
  pub costs : costs_in f ≡ (fused_costing func instance).costs
  pub none : f.certificate ≡ None ↔ f.latency ≡ 0
  pub certificate : IfSome f.certificate (λ c. IsCertificate p instance.ins (outs_of instance) (certificate_tree c))

-- an instance whose items could all be moved straight from the parameters
pub record IsMovable (s : StFuncTree) : Type 0 where
  pub words : MovesWords s
  pub moves : (i : ℕ) → i < length (item_layouts s) → IsMove (own_move s (item_words [] s (layout_numbers 1 s.ins)) i)
  pub results : (r i : ℕ) → slice_get s.results r ≡ Some i → i < length (item_layouts s)
  pub some_results : 1 ≤ length s.results
  pub few_results : length s.results ≤ 8

-- the moves, the arrivals and the costs are those of the instance, by the numbers of its words
pub record IsFusedBy (s : StFuncTree) (f : FusedView) : Type 0 where
  pub ins : st_trees f.ins ≡ s.ins
  pub moves : moves_in f ≡ map (own_move s (item_words [] s (layout_numbers 1 s.ins))) s.results
  pub arrivals : f.arrivals ≡ map (λ i. move_latency (own_move s (item_words [] s (layout_numbers 1 s.ins)) i))
      (range_with_len 0 (length (item_layouts s)))
  pub costs : costs_in f ≡ fused_costs (map (own_move s (item_words [] s (layout_numbers 1 s.ins))) s.results)
  pub none : f.certificate ≡ None ↔ f.latency ≡ 0
  pub certificate : IfSome f.certificate (λ c. IsFirstOf f.latency
      (map (own_move s (item_words [] s (layout_numbers 1 s.ins))) s.results) c)
