use Rattle.std.proofs.Common.{◌∙◌, ap}
use Rattle.ae_seqtype.specs.ValueTree.{after}
use Rattle.ae_seqtype.specs.SeqTree.{kinds}
use Rattle.ae_seqtype.specs.SeqTree.{seq_tree}
use Rattle.ae_seqtype.proofs.Values.{fits-some, fits-none}
use Rattle.ae_seqtype.proofs.value.Value.fits.Goals as goal

pub returns-in-Some : goal.returns-in-Some
returns-in-Some c =
    let w = kinds (seq_tree c.args.t.now) in
    let words = c.deref.ensures.value ∙ c.self.view_is in
    fits-some w c.args.self.now c.in-Some.rest.now c.is_empty.result (c.in-Some.ensures ∙ ap (λ x. after w x) words) c.is_empty.ensures

pub returns-in-None : goal.returns-in-None
returns-in-None c =
    let w = kinds (seq_tree c.args.t.now) in
    let words = c.deref.ensures.value ∙ c.self.view_is in
    fits-none w c.args.self.now (c.in-None.ensures ∙ ap (λ x. after w x) words)
