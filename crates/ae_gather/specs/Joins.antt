-- The nets of bundles, one bundle after the other.
use Rattle.std.specs.Prelude.{◌≡◌, ℕ, ◌+◌, ◌<◌, List, length, sum_by, take, Some, slice_get}
use Rattle.ae_netlist.specs.declared.cell.NetId.{NetId}

-- where a net of the joined list comes from
pub record ComesFrom (bundles : List (List NetId)) (net : NetId) : Type 0 where
  pub bundle : ℕ
  pub place : ℕ
  pub nets : List NetId
  pub there : slice_get bundles bundle ≡ Some nets
  pub found : slice_get nets place ≡ Some net

-- the first so many bundles are joined, and the numbers say where each begins
pub record AreJoinedTo (count : ℕ) (bundles : List (List NetId)) (nets : List NetId) (firsts : List ℕ) : Type 0 where
  pub long : length nets ≡ sum_by length (take count bundles)
  pub begins : length firsts ≡ count
  pub starts : (i first : ℕ) → slice_get firsts i ≡ Some first → first ≡ sum_by length (take i bundles)
  pub each : (i p : ℕ) (own : List NetId) (net : NetId) → i < count → slice_get bundles i ≡ Some own
      → slice_get own p ≡ Some net → slice_get nets (sum_by length (take i bundles) + p) ≡ Some net
  pub from : (q : ℕ) (net : NetId) → slice_get nets q ≡ Some net → ComesFrom bundles net

abbrev pub AreJoined : List (List NetId) → List NetId → List ℕ → Type 0
AreJoined bundles nets firsts = AreJoinedTo (length bundles) bundles nets firsts
