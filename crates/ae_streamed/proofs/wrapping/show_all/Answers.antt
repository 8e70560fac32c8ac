-- Each turn shows one queue more.
use Rattle.std.proofs.Common.{◌+◌, ◌*◌, ap, sym, ◌∙◌, arith, subst}
use Rattle.ae_netlist.specs.Circuit.{Circuit, IsNet, width_of}
use Rattle.ae_streamed.proofs.Copied.{all_shown, shown_more, shown_none}
use Rattle.ae_streamed.proofs.wrapping.show_all.Goals as goal
use Rattle.ae_gates.proofs.Added.{net_within, own_net as own_width}

pub show-requires-clause-net : goal.show-requires-clause-net
show-requires-clause-net c = own_width c.requires.asks

pub show-requires-2-clause-net : goal.show-requires-2-clause-net
show-requires-2-clause-net c =
    subst (λ v. IsNet v c.args.c.one.0 (width_of v c.args.c.one.0)) (sym (ap (λ (v : Circuit). v.cells) c.in_ok-show.ensures)) (own_width c.requires.one)

pub loop-k-init : goal.loop-k-init
loop-k-init c = record {
  all = c.outputs-k-end.ensures;
  cells = ap (λ (v : Circuit). v.cells) c.in_ok-show-2.ensures ∙ ap (λ (v : Circuit). v.cells) c.in_ok-show.ensures;
  limit = ap (λ (v : Circuit). v.limit) c.in_ok-show-2.ensures ∙ ap (λ (v : Circuit). v.limit) c.in_ok-show.ensures;
  shown = shown_none c.args.c c.args.at c.args.nl.now.outlets c.args.new.now.outlets c.show.new.new.outlets c.show-2.new.new.outlets c.requires.none
      (ap (λ (v : Circuit). v.outlets) c.in_ok-show.ensures) (ap (λ (v : Circuit). v.outlets) c.in_ok-show-2.ensures);
}

pub overflow_add-at : goal.overflow_add-at
overflow_add-at c =
    omega (
      arith,
      net_within (c.requires.nets c.loop-k.k (omega (arith, c.loop-k-test.true, c.loop-k.invariant.all))),
      c.formed.ensures.limit,
      c.formed.ensures.small,
    )

pub show-requires-in-loop-k-clause-net : goal.show-requires-in-loop-k-clause-net
show-requires-in-loop-k-clause-net c =
    subst (λ v. IsNet v (c.args.at + 4 * c.loop-k.k) (width_of v (c.args.at + 4 * c.loop-k.k))) (sym c.loop-k.invariant.cells)
    (c.requires.nets c.loop-k.k (omega (arith, c.loop-k-test.true, c.loop-k.invariant.all)))

pub show-requires-in-loop-k-clause-room : goal.show-requires-in-loop-k-clause-room
show-requires-in-loop-k-clause-room c = omega (arith, c.loop-k.invariant.shown.long, c.loop-k-test.true, c.loop-k.invariant.all, c.requires.few)

pub loop-k-preserved : goal.loop-k-preserved
loop-k-preserved c = record {
  all = c.loop-k.invariant.all;
  cells = ap (λ (v : Circuit). v.cells) c.in_ok-show-3.ensures ∙ c.loop-k.invariant.cells;
  limit = ap (λ (v : Circuit). v.limit) c.in_ok-show-3.ensures ∙ c.loop-k.invariant.limit;
  shown = shown_more c.args.c c.args.at c.loop-k.k c.args.nl.now.outlets c.loop-k.new.outlets c.show-in-loop-k.new.new.outlets c.outlet_at-outlet.result
      c.outlet_at-outlet.ensures c.loop-k.invariant.shown (ap (λ (v : Circuit). v.outlets) c.in_ok-show-3.ensures);
}

pub returns-clause-shown : goal.returns-clause-shown
returns-clause-shown c =
    all_shown c.args.c c.args.at c.loop-k.k c.args.nl.now.outlets c.loop-k.new.outlets
    (omega (arith, c.loop-k.invariant.all, c.loop-k-test.false, c.loop-k.auto.k-end)) c.loop-k.invariant.shown
