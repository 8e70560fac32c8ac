-- What is the same of a movement program under every slowdown, and what it costs under one.
use Rattle.std.specs.Prelude.{◌≡◌, ℕ, ◌-◌, true, List, [], length, Some, slice_get}
use Rattle.ae_seqtype.specs.ValueTree.{flat}
use Rattle.ae_seq.specs.ProgramTree.{FuncTree, ProgramTree}
use Rattle.ae_seq.specs.Typing.{param_types}
use Rattle.ae_seq.specs.Meaning.{at, item_values}
use Rattle.ae_eval.specs.Stack.{IsTyped}
use Rattle.ae_rewrite.specs.Interface.{main_of}
use Rattle.ae_rewrite.specs.StProgramTree.{StFuncTree}
use Rattle.ae_flow.specs.Flow.{words_at}
use Rattle.ae_delay.specs.declared.own.OwnCosts.{OwnCosts}
use Rattle.ae_trace.specs.Traces.{is_movement, numbered}
use Rattle.ae_results.specs.declared.costs.FusedCosts.{FusedCosts}
use Rattle.ae_fuse.specs.Costing.{fused_costing}
use Rattle.ae_fuse.specs.Fused.{IsMovable}

-- a list for each item of the program function, which has for each result the numbers of its words, where those of the parameters
-- are numbered from 1 on
pub record AreLabels (p : ProgramTree) (labels : List (List ℕ)) : Type 0 where
  pub movement : is_movement p ≡ true
  pub func : FuncTree
  pub there : slice_get p.funcs (main_of p) ≡ Some func
  pub many : length labels ≡ length (item_values [] func (numbered 1 (param_types func)))
  pub results : (r i : ℕ) → slice_get func.results r ≡ Some i
      → words_at labels i ≡ flat (at (item_values [] func (numbered 1 (param_types func))) i)

-- no multiplier is among them
abbrev pub told_costs : FusedCosts → OwnCosts
told_costs c = record { latency = c.latency; load = c.load; muls = 0; mems = c.mems }

-- those of the program's moves by these instances
pub record AreCostsUnder (p : ProgramTree) (instances : List StFuncTree) (c : FusedCosts) : Type 0 where
  pub func : FuncTree
  pub there : slice_get p.funcs (main_of p) ≡ Some func
  pub instance : StFuncTree
  pub last : slice_get instances (length instances - 1) ≡ Some instance
  pub are : told_costs c ≡ (fused_costing func instance).costs

-- the instance of the program function of a movement program
pub record IsMovableMain (p : ProgramTree) (instances : List StFuncTree) (s : StFuncTree) : Type 0 where
  pub movement : is_movement p ≡ true
  pub typed : IsTyped p
  pub func : FuncTree
  pub there : slice_get p.funcs (main_of p) ≡ Some func
  pub last : slice_get instances (length instances - 1) ≡ Some s
  pub movable : IsMovable s
