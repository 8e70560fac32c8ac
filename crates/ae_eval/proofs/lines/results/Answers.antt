use Rattle.std.proofs.Common.{◌∙◌, ap, get_or}
use Rattle.ae_seq.specs.declared.program.Program.{Program}
use Rattle.ae_eval.proofs.Items.{results-read}
use Rattle.ae_eval.proofs.lines.results.Goals as goal

pub returns-clause-some : goal.returns-clause-some
returns-clause-some c =
    let f = c.index.result.now in
    (results-read c.args.p.now c.args.func f c.requires.typed c.requires.known
    (c.index.ensures ∙ ap (λ (q : Program). get_or q.funcs.items c.args.func f) c.program.ensures.program)).1

pub returns-clause-there : goal.returns-clause-there
returns-clause-there c =
    let f = c.index.result.now in
    (results-read c.args.p.now c.args.func f c.requires.typed c.requires.known
    (c.index.ensures ∙ ap (λ (q : Program). get_or q.funcs.items c.args.func f) c.program.ensures.program)).2
