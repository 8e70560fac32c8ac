-- The parameters and the results of a program: their types, and their layouts in space and time.
use Rattle.std.specs.Prelude.{◌≡◌, ℕ, ◌-◌, List, [], ◌∷◌, length, map, Option, Some, None, slice_get}
use Rattle.ae_seqtype.specs.SeqTree.{SeqTree}
use Rattle.ae_seqtype.specs.ValueTree.{ValueTree, Stands}
use Rattle.ae_seq.specs.ProgramTree.{FuncTree, ParamTree, ProgramTree}
use Rattle.ae_seq.specs.Typing.{◌>>=◌, type_at}
use Rattle.ae_sttype.specs.StTree.{StTree}
use Rattle.ae_rewrite.specs.LayoutRule.{lay_of}

-- ---- types

abbrev pub main_of : ProgramTree → ℕ
main_of p = length p.funcs - 1

abbrev pub types_in : Option FuncTree → List SeqTree
types_in None = []
types_in (Some f) = map (λ (p : ParamTree). p.type) f.params

abbrev pub results_in : Option FuncTree → List ℕ
results_in None = []
results_in (Some f) = f.results

-- the types of the program function's parameters, and of its results
abbrev pub parameter_types : ProgramTree → List SeqTree
parameter_types p = types_in (slice_get p.funcs (main_of p))

abbrev pub result_types : ProgramTree → List (Option SeqTree)
result_types p = map (type_at p (main_of p)) (results_in (slice_get p.funcs (main_of p)))

-- ---- values and layouts

-- a value of each type
abbrev pub AreValues : List SeqTree → List ValueTree → Type 0
AreValues [] [] = Unit {0}
AreValues (t ∷ ts) (v ∷ vs) = ((ws : List ℕ) × Stands t ws v) × AreValues ts vs
AreValues _ _ = ⊥

-- each parameter and each result has this layout, in as many clocks as the slowdown says
pub record HaveLayouts (p : ProgramTree) (slowdown : ℕ) (inputs outputs : List StTree) : Type 0 where
  pub parameters : map (λ t. lay_of t slowdown) (parameter_types p) ≡ map Some inputs
  pub results : map (λ o. o >>= λ t. lay_of t slowdown) (result_types p) ≡ map Some outputs
