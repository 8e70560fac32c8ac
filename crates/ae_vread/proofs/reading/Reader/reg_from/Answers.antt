use Rattle.std.proofs.Common.{◌-◌, [], ◌∷◌, refl, sym, ap, ◌∙◌, true, false}
use Rattle.ae_vtoken.specs.Ahead.{ahead}
use Rattle.ae_vread.specs.Read.{net_of}
use Rattle.ae_vmodule.specs.declared.module.NetKind.TheVariants.{Reg, Memory}
use Rattle.ae_vread.specs.ItemReading.{net_by, reg_from, one_more}
use Rattle.ae_vread.proofs.Meanings.{no_more, extends_same, named_kept}
use Rattle.ae_vread.proofs.ListSteps.{net_means, reg_is, memory_is}
use Rattle.ae_vread.proofs.reading.Reader.reg_from.Goals as goal

pub returns-then-not-mark-clause-read : goal.returns-then-not-mark-clause-read
returns-then-not-mark-clause-read c name word =
    let none = c.mark.ensures in (
      (net_by c.args.high Reg c.args.item name ∷ [], ahead c.args.self.now.tokens),
      reg_is c.args.high c.args.item name (ahead c.args.self.now.tokens) (none.none c.if-not-mark.true),
      record {
        more = c.net.result ∷ [];
        items = c.in_ok-push.ensures.items;
        means = λ ws g. λ i. net_means ws c.net.result c.args.name c.args.high Reg c.args.item name c.net.ensures
            (named_kept _ ws c.args.name name word (extends_same _ _ ws g (sym none.words))) i ∷ [];
        rest = ap ahead (none.tokens c.if-not-mark.true);
        extends = extends_same _ _ _ (no_more _) (sym none.words);
      },
    )

pub returns-clause-read : goal.returns-clause-read
returns-clause-read c name word =
    let opened = c.mark.ensures in
    let zeroed = c.in_ok-want_zero.ensures in
    let colon = c.in_ok-want_mark.ensures in
    let last = c.in_ok-last.ensures in
    let closed = c.in_ok-want_mark-2.ensures in
    let words = closed.words ∙ last.words ∙ colon.words ∙ zeroed.words ∙ opened.words in
    let kind = Memory (one_more 65537 c.in_ok-last.last) in (
      (net_by c.args.high kind c.args.item name ∷ [], ahead c.want_mark-2.new.self.tokens),
      memory_is c.args.high c.args.item name (ahead c.args.self.now.tokens) _ _ _ _ _ c.in_ok-last.last
          (opened.there c.if-not-mark.false) zeroed.read colon.read last.read closed.read,
      record {
        more = c.net-2.result ∷ [];
        items = c.in_ok-push-2.ensures.items;
        means = λ ws g. λ i. net_means ws c.net-2.result c.args.name c.args.high kind c.args.item name
            (c.net-2.ensures ∙ ap (λ l. net_of c.args.name c.args.high (Memory l) c.args.item) c.one_more.ensures)
            (named_kept _ ws c.args.name name word (extends_same _ _ ws g (sym words))) i ∷ [];
        rest = refl;
        extends = extends_same _ _ _ (no_more _) (sym words);
      },
    )
