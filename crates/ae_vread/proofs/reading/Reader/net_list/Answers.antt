use Rattle.std.proofs.Common.{◌+◌, ◌-◌, ◌++◌, refl, sym, ap, ◌∙◌, true, false, arith}
use Rattle.ae_vtoken.specs.Ahead.{ahead}
use Rattle.ae_vmodule.specs.View.{net_tree}
use Rattle.ae_vread.specs.ItemReading.{net_by, one_net, comma_net, net_list}
use Rattle.ae_vread.proofs.ListSteps.{list_begins, list_next, list_ends, added_more, added_same, went}
use Rattle.ae_vread.proofs.reading.Reader.net_list.Goals as goal

pub next-init : goal.next-init
next-init c =
    let e = c.in_ok-one_net.ensures.read in (
      e.0,
      e.2,
      list_begins (one_net (net_by c.args.high c.args.kind c.args.item)) (comma_net (net_by c.args.high c.args.kind c.args.item))
          (ahead c.args.self.now.tokens) e.0 e.1,
      c.in_ok-one_net.ensures.few,
      c.in_ok-one_net.ensures.stack,
    )

pub next-preserved : goal.next-preserved
next-preserved c =
    let e = c.next.invariant in
    let w = went net_tree c.next.nets.items c.comma_net.new.nets.items c.next.self.words c.comma_net.new.self c.in_ok-comma_net.field-0 true _
    (ahead c.next.self.tokens) c.if-not-branch.false c.in_ok-comma_net.ensures.read in (
      (e.0.0 ++ w.0.0, w.0.1),
      added_more net_tree _ _ _ _ _ c.next.self _ e.0 w.0 e.1 refl w.2,
      list_next _ (comma_net (net_by c.args.high c.args.kind c.args.item)) _ c.next.turn e.0 w.0 (omega (arith, c.next-test.true, c.len-most.ensures)) e.2
          (ap (comma_net (net_by c.args.high c.args.kind c.args.item)) (sym e.1.rest) ∙ w.1),
      omega (arith, e.3, c.in_ok-comma_net.ensures.few),
      c.in_ok-comma_net.ensures.stack ∙ e.4,
    )

pub returns-then-not-branch-clause-read : goal.returns-then-not-branch-clause-read
returns-then-not-branch-clause-read c =
    let e = c.next.invariant in
    let w = went net_tree c.next.nets.items c.comma_net.new.nets.items c.next.self.words c.comma_net.new.self c.in_ok-comma_net.field-0 false _
    (ahead c.next.self.tokens) c.if-not-branch.true c.in_ok-comma_net.ensures.read in (
      e.0,
      list_ends _ (comma_net (net_by c.args.high c.args.kind c.args.item)) _ c.next.turn e.0 (omega (arith, c.next-test.true, c.len-most.ensures)) e.2
          (ap (comma_net (net_by c.args.high c.args.kind c.args.item)) (sym e.1.rest) ∙ w.0),
      added_same net_tree _ _ _ _ c.next.self _ e.0 e.1 w.1 w.2 w.3,
    )
