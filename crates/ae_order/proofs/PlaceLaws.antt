-- Where a declaration stands.
use Rattle.std.proofs.Common.{ℕ, ◌≡◌, List, slice_get, sym, ◌∙◌}
use Rattle.ae_vmodule.specs.ModuleTree.{NetTree}
use Rattle.ae_judge.specs.Names.{net_named}
use Rattle.ae_runs.specs.Named.{IsNamed, place_of}
use Rattle.ae_runs.proofs.Declared.{named_net}

-- where a declaration stands is its place
pub place_found : (ns : List NetTree) (n : List ℕ) (p : ℕ) → IsNamed ns n → slice_get ns p ≡ net_named ns n → p ≡ place_of ns n
place_found ns n p h e = sym (h.only p h.net (e ∙ h.found) (named_net ns n h.net h.found).1)
