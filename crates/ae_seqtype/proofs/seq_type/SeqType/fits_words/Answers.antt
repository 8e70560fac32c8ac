-- The words fit where nothing is left.
use Rattle.std.proofs.Common.{arith}
use Rattle.std.proofs.lemmas.Grind.{common_steps}
use Rattle.ae_seqtype.specs.SeqTree.{kinds, seq_tree}
use Rattle.ae_seqtype.proofs.Values.{fit_kinds-some, fit_kinds-none}
use Rattle.ae_seqtype.proofs.seq_type.SeqType.fits_words.Goals as goal

pub returns-in-Some : goal.returns-in-Some
returns-in-Some c =
    let ended = fit_kinds-some (kinds (seq_tree c.args.self.now)) c.args.words.now c.in-Some.rest.now c.in-Some.ensures in
    grind (arith, common_steps, ended)

pub returns-in-None : goal.returns-in-None
returns-in-None c = fit_kinds-none (kinds (seq_tree c.args.self.now)) c.args.words.now c.in-None.ensures
