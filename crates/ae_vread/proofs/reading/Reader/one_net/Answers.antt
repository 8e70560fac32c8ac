use Rattle.std.proofs.Common.{◌-◌, [], ◌∷◌, refl}
use Rattle.ae_vtoken.specs.Ahead.{ahead}
use Rattle.ae_vread.specs.ItemReading.{net_by, one_net}
use Rattle.ae_vread.proofs.Meanings.{named_kept}
use Rattle.ae_vread.proofs.ListSteps.{net_means, one_net_is}
use Rattle.ae_vread.proofs.reading.Reader.one_net.Goals as goal

pub returns-clause-read : goal.returns-clause-read
returns-clause-read c =
    let name = c.in_ok-name.ensures.there in (
      (net_by c.args.high c.args.kind c.args.item name.0 ∷ [], ahead c.want_name.new.self.tokens),
      one_net_is (net_by c.args.high c.args.kind c.args.item) (ahead c.args.self.now.tokens) _ name.0 name.1,
      record {
        more = c.net.result ∷ [];
        items = c.in_ok-push.ensures.items;
        means = λ ws g. λ i. net_means ws c.net.result c.in_ok-name.name c.args.high c.args.kind c.args.item name.0 c.net.ensures
            (named_kept _ ws c.in_ok-name.name name.0 name.2 g) i ∷ [];
        rest = refl;
        extends = c.in_ok-name.ensures.words;
      },
    )
