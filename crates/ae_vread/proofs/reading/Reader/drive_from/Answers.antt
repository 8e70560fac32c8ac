use Rattle.std.proofs.Common.{◌-◌, [], ◌∷◌, ap, ◌∙◌}
use Rattle.ae_vtoken.specs.Ahead.{ahead}
use Rattle.ae_vmodule.specs.declared.module.Drive.{Drive}
use Rattle.ae_vmodule.specs.View.{expr_tree}
use Rattle.ae_vread.proofs.Meanings.{extends_by, named_kept}
use Rattle.ae_vread.proofs.ListSteps.{drive_is}
use Rattle.ae_vread.proofs.reading.Reader.drive_from.Goals as goal

pub returns-clause-read : goal.returns-clause-read
returns-clause-read c name word =
    let x = c.in_ok-whole_expression.ensures.read in
    let value = c.in_ok-value.ensures in
    let drive : Drive = record { name = c.args.name; value = c.in_ok-value.value } in (
      (record { name = name; value = x.0.tree } ∷ [], x.0.rest),
      drive_is name (ahead c.args.self.now.tokens) x.0 x.1,
      record {
        more = drive ∷ [];
        items = c.in_ok-push.ensures.items;
        means = λ ws g. λ i. record {
          name = named_kept _ ws c.args.name name word (extends_by _ _ ws x.3 g) i;
          value = (ap (expr_tree ws) (value.code x.2.top _ x.2.pieces) ∙ x.2.means ws g) i;
        } ∷ [];
        rest = x.2.rest;
        extends = x.3;
      },
    )
