-- The reset and the inputs are the first cells of the copy.
use Rattle.std.proofs.Common.{◌∙◌, ap}
use Rattle.ae_stall.proofs.Copying.{copied_none}
use Rattle.ae_stall.proofs.copy.copy_with.Goals as goal

pub loop-n-init : goal.loop-n-init
loop-n-init c = record {
  all = c.len-n-end.ensures;
  copied = rw c.in_ok-begin.ensures.cells (copied_none c.args.ports.now c.args.nl.now.cells c.requires.reset);
  outlets = c.in_ok-begin.ensures.outlets ∙ ap (λ v. v.outlets) c.new-new.ensures;
  limit = c.in_ok-begin.ensures.limit ∙ ap (λ v. v.limit) c.new-new.ensures;
}
