use Rattle.std.proofs.Common.{◌-◌, sym, ap, ◌∙◌}
use Rattle.ae_vtoken.specs.Ahead.{ahead}
use Rattle.ae_vtoken.specs.declared.token.Sign.TheVariants.{Close}
use Rattle.ae_vmodule.specs.View.{net_tree}
use Rattle.ae_vread.specs.TokenTests.{after_mark}
use Rattle.ae_vread.specs.ItemReading.{header_found}
use Rattle.ae_vread.proofs.Meanings.{extends_same, extends_to, named_later}
use Rattle.ae_vread.proofs.ItemSteps.{header_is, added_rest, added_from}
use Rattle.ae_vread.proofs.reading.Reader.header.Goals as goal

pub returns-clause-read : goal.returns-clause-read
returns-clause-read c =
    let name = c.in_ok-name.ensures.there in
    let opened = c.in_ok-want_mark.ensures in
    let e = c.in_ok-port_list.ensures.read in
    let close = c.in_ok-want_mark-2.ensures in
    let end = c.in_ok-want_mark-3.ensures in
    let from = extends_to _ _ _ (extends_same _ _ _ c.in_ok-name.ensures.words (sym c.in_ok-want_word.ensures.words)) opened.words in
    let kept = extends_to _ _ _ (extends_same _ _ _ e.2.extends (sym opened.words)) (end.words ∙ close.words) in (
      header_found name.0 e.0.0 (ahead c.want_mark-3.new.self.tokens),
      header_is (ahead c.args.self.now.tokens) _ _ _ _ _ name.0 e.0 c.in_ok-want_word.ensures.read name.1 opened.read e.1
          (ap (after_mark Close) (sym e.2.rest) ∙ close.read) end.read,
      added_from net_tree _ _ _ _ _ _ (added_rest net_tree _ _ _ c.port_list.new.self c.want_mark-3.new.self e.0 e.2 (end.words ∙ close.words)) from,
      named_later _ _ c.in_ok-name.name name.0 name.2 kept,
    )
