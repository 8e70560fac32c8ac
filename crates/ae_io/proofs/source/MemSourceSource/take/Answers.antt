use Rattle.std.proofs.Common.{◌≡◌, take, drop, arith, ap}
use Rattle.std.proofs.lemmas.Grind.{common_steps}
use Rattle.ae_io.specs.States.{SourceState}
use Rattle.ae_io.proofs.TellingLemmas.{takes_cursor}
use Rattle.ae_io.proofs.source.MemSourceSource.take.Goals as goal

pub returns-clause-taken : goal.returns-clause-taken
returns-clause-taken c =
    let n = c.give_front-n.result in
    let given : take n (drop c.self.inside.at c.self.inside.bytes.items) ≡ take n c.give_front-n.new.buf = grind (arith, common_steps) in
    takes_cursor _ _ _ c.self.inside.at n (ap (λ (s : SourceState). s.left) c.self.view_is) given
