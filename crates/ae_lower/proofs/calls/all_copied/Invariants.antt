use Rattle.std.proofs.Common.{◌≡◌, take}
use Rattle.ae_lower.proofs.calls.all_copied.Given as goal

abbrev pub invariant-loop-bundle : goal.invariant-loop-bundle
invariant-loop-bundle l = l.all.items ≡ take l.bundle-index l.bundles
