use Rattle.std.proofs.Common.{Some, set, rules, ap, ◌∙◌}
use Rattle.ae_order.specs.Sparses.{sparse}
use Rattle.ae_order.proofs.SparseLaws.{filled_index, filled_same, place_within}
use Rattle.ae_order.proofs.sparse.Sparse.set.Goals as goal

pub invariant_of-self : goal.invariant_of-self
invariant_of-self g c = filled_index c.self.inside.count c.self.inside.index.items c.fill.new.index.items _ c.in_err-fill.ensures.filled c.self.invariant

pub returns-in_err-fill-clause-err : goal.returns-in_err-fill-clause-err
returns-in_err-fill-clause-err g c =
    let s = c.self.inside in
    search (rules, filled_same s.count s.index.items c.fill.new.index.items s.items.items c.in_err-fill.ensures.filled ∙ c.self.view_is)

pub put-requires-clause-index : goal.put-requires-clause-index
put-requires-clause-index g c =
    filled_index c.self.inside.count c.self.inside.index.items c.fill.new.index.items _ c.in_ok-fill.ensures.filled c.self.invariant

pub put-requires-clause-inside : goal.put-requires-clause-inside
put-requires-clause-inside g c =
    let s = c.self.inside in
    place_within s.count s.index.items s.items.items c.args.self.now c.self.view_is c.args.place c.requires.inside

pub returns-in_err-put-clause-err : goal.returns-in_err-put-clause-err
returns-in_err-put-clause-err g c =
    let s = c.self.inside in
    search (
      rules,
      c.in_err-put.ensures.same
          ∙ filled_same s.count s.index.items c.fill.new.index.items s.items.items c.in_ok-fill.ensures.filled ∙ c.self.view_is,
    )

pub returns-clause-ok : goal.returns-clause-ok
returns-clause-ok g c =
    let s = c.self.inside in
    c.in_ok-put.ensures.put
    ∙ ap (λ vs. set vs c.args.place (Some c.args.item))
    (filled_same s.count s.index.items c.fill.new.index.items s.items.items c.in_ok-fill.ensures.filled ∙ c.self.view_is)
