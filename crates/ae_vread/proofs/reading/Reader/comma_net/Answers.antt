use Rattle.std.proofs.Common.{◌-◌, [], ◌∷◌, refl, sym, true}
use Rattle.ae_vtoken.specs.Ahead.{ahead}
use Rattle.ae_vread.specs.ItemReading.{net_by, comma_net}
use Rattle.ae_vread.proofs.Meanings.{extends_same, named_kept}
use Rattle.ae_vread.proofs.ListSteps.{net_means, comma_net_is, there_is}
use Rattle.ae_vread.proofs.reading.Reader.comma_net.Goals as goal

pub returns-in-Some-clause-read : goal.returns-in-Some-clause-read
returns-in-Some-clause-read c =
    let comma = c.mark.ensures in
    let name = there_is _ c.in-Some.name _ c.in-Some.is c.in_ok-found.ensures.there in (
      (net_by c.args.high c.args.kind c.args.item name.0 ∷ [], ahead c.name.new.self.tokens),
      comma_net_is (net_by c.args.high c.args.kind c.args.item) (ahead c.args.self.now.tokens) _ _ name.0 (comma.there c.if-mark.true) name.1,
      record {
        more = c.net.result ∷ [];
        items = c.in_ok-push.ensures.items;
        means = λ ws g. λ i. net_means ws c.net.result c.in-Some.name c.args.high c.args.kind c.args.item name.0 c.net.ensures
            (named_kept _ ws c.in-Some.name name.0 name.2 g) i ∷ [];
        rest = refl;
        extends = extends_same _ _ _ c.in_ok-found.ensures.words (sym comma.words);
      },
    )
