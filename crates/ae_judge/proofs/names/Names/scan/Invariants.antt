use Rattle.std.proofs.Common.{◌≡◌, drop}
use Rattle.ae_judge.specs.Places.{place_named}
use Rattle.ae_judge.proofs.PlaceLemmas.{behind}
use Rattle.ae_judge.proofs.names.Names.scan.Given as goal

-- the first of those that are left is the first of all
abbrev pub invariant-net : goal.invariant-net
invariant-net l = behind l.place (place_named (drop l.place l.self.nets) l.word) ≡ place_named l.self.nets l.word
