-- Nets taken from others, without a cell.
use Rattle.std.specs.Prelude.{◌≡◌, ℕ, ◌+◌, ◌*◌, ◌<◌, List, length, slice_get}
use Rattle.ae_netlist.specs.declared.cell.NetId.{NetId}

-- of each of n stretches of k nets, l nets from number o on
pub record AreParts (nets : List NetId) (n k o l : ℕ) (out : List NetId) : Type 0 where
  pub long : length out ≡ n * l
  pub each : (e j : ℕ) → e < n → j < l → slice_get out (e * l + j) ≡ slice_get nets (e * k + (o + j))

-- n times k nets of the one and l of the other
pub record ArePairs (first second : List NetId) (n k l : ℕ) (out : List NetId) : Type 0 where
  pub long : length out ≡ n * (k + l)
  pub firsts : (e j : ℕ) → e < n → j < k → slice_get out (e * (k + l) + j) ≡ slice_get first (e * k + j)
  pub seconds : (e j : ℕ) → e < n → j < l → slice_get out (e * (k + l) + (k + j)) ≡ slice_get second (e * l + j)
