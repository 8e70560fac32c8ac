-- Nets that may be missing, each by the number of its cell.
use Rattle.std.specs.Prelude.{◌≡◌, ℕ, Option, Some, None}
use Rattle.ae_netlist.specs.declared.cell.NetId.{NetId}

abbrev pub numbered_net : Option ℕ → Option NetId
numbered_net None = None
numbered_net (Some k) = Some (record { 0 = k })

abbrev pub net_number : Option NetId → Option ℕ
net_number None = None
net_number (Some net) = Some net.0

-- no number is lost
pub net_number_again : (o : Option ℕ) → net_number (numbered_net o) ≡ o
net_number_again None = λ i. None
net_number_again (Some k) = λ i. Some k
