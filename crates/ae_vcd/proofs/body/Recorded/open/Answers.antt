use Rattle.std.proofs.Common.{List, ℕ, ◌++◌, ◌∷◌, [], length, if◌then◌else◌, Vec, sym, ap, ◌∙◌}
use Rattle.std.specs.declared.alloc.Global.{Global}
use Rattle.ae_vcd.specs.Held.{is_small}
use Rattle.ae_vcd.proofs.Times.{times_open}
use Rattle.ae_vcd.proofs.body.Recorded.open.Goals as goal

pub returns-clause-answer : goal.returns-clause-answer
returns-clause-answer c = λ vs ps digits h m r e later.
    let items : Vec ℕ Global → List ℕ = λ v. v.items in (
      times_open c.args.self.now c.close.new.self c.push_time.new.self vs ps digits c.args.numbers.now c.args.time h m r e later
          c.in_ok-close.ensures c.push_time.ensures.count c.push_time.ensures.last (ap items c.push_time.ensures.words)
          (c.in_ok-push_time.ensures.times ∙ (λ i. if is_small (sym c.push_time.ensures.count i) (length c.args.numbers.now) then c.close.new.self.times.items
          ++ c.args.time ∷ [] else c.close.new.self.times.items)),
      ap items c.push_time.ensures.now ∙ c.in_ok-close.ensures.now,
    )
