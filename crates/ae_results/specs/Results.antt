-- What the move of one result costs, and what all of them do.
use Rattle.std.specs.Prelude.{◌≡◌, ℕ, ◌+◌, ◌-◌, ◌*◌, ◌<◌, ◌≤◌, List, length, map, sum_by, Some, slice_get}
use Rattle.ae_sttype.specs.StTree.{StTree, st_tree}
use Rattle.ae_sttype.specs.Moves.{columns_of, first_column}
use Rattle.ae_moves.specs.Origins.{Move, move_latency}
use Rattle.ae_moves.specs.Rings.{rings}
use Rattle.ae_delay.specs.Moving.{costs_of_move}
use Rattle.ae_delay.specs.OwnCosts.{moved_costs}
use Rattle.ae_moves.specs.Trees.{origin_tree}
use Rattle.ae_results.specs.declared.costs.ResultCosts.{ResultCosts}
use Rattle.ae_results.specs.declared.result.FusedResult.{FusedResult}

-- the first column of each parameter, and how many columns all have
pub record AreColumns (ins : List StTree) (firsts : List ℕ) (count : ℕ) : Type 0 where
  pub each : (i : ℕ) → i < length ins → slice_get firsts i ≡ Some (first_column ins i)
  pub all : count ≡ sum_by columns_of ins
  pub few : count ≤ 131072

-- costs that are not too large to be summed
pub record IsLight (c : ResultCosts) : Type 0 where
  pub latency : c.latency ≤ 4096
  pub load : c.load ≤ 4294967296
  pub mems : c.mems ≤ 4294967296
  pub columns : c.columns ≤ 16384

abbrev pub AreLight : List ResultCosts → Type 0
AreLight cs = (k : ℕ) (c : ResultCosts) → slice_get cs k ≡ Some c → IsLight c

-- what a move costs by itself
pub record AreCostsOf (m : Move) (c : ResultCosts) : Type 0 where
  pub latency : c.latency ≡ move_latency m
  pub load : c.load ≡ (moved_costs (costs_of_move m)).load
  pub mems : c.mems ≡ (costs_of_move m).mems
  pub columns : c.columns ≡ columns_of m.out
  pub light : IsLight c

-- ---- the sums, where all results leave with the latest

abbrev pub own_latency : ResultCosts → ℕ
own_latency c = c.latency

abbrev pub own_load : (whole : ℕ) → ResultCosts → ℕ
own_load whole c = c.load + (whole - c.latency) * c.columns

abbrev pub own_mems : (whole : ℕ) → ResultCosts → ℕ
own_mems whole c = c.mems + c.columns * rings (whole - c.latency)

-- the move of a result from all parameters
abbrev pub result_move : (ins : List StTree) → FusedResult → Move
result_move ins r = record { ins = ins; out = st_tree r.out; origins = map origin_tree r.source.items }

-- the costs of each move
pub record AreAllCosts (ms : List Move) (cs : List ResultCosts) : Type 0 where
  pub long : length cs ≡ length ms
  pub each : (k : ℕ) (m : Move) (c : ResultCosts) → slice_get ms k ≡ Some m → slice_get cs k ≡ Some c → AreCostsOf m c
