use Rattle.std.proofs.Common.{◌∙◌, ap, arith, get_or}
use Rattle.ae_seq.specs.declared.program.Program.{Program}
use Rattle.ae_eval.proofs.Items.{counts-read}
use Rattle.ae_eval.proofs.starts.count_items.Goals as goal

pub overflow_cast-result : goal.overflow_cast-result
overflow_cast-result c =
    let f = c.index-func.result.now in
    let r = counts-read c.args.p.now c.args.func f c.requires.typed c.requires.known
    (c.index-func.ensures ∙ ap (λ (q : Program). get_or q.funcs.items c.args.func f) c.program.ensures.program) in
    omega (arith, r.1, c.len.ensures, c.len-2.ensures, f.params.ok, f.nodes.ok)

pub returns-clause-count : goal.returns-clause-count
returns-clause-count c =
    let f = c.index-func.result.now in
    let r = counts-read c.args.p.now c.args.func f c.requires.typed c.requires.known
    (c.index-func.ensures ∙ ap (λ (q : Program). get_or q.funcs.items c.args.func f) c.program.ensures.program) in
    omega (arith, r.0, c.len.ensures, c.len-2.ensures, f.params.ok, f.nodes.ok)

pub returns-clause-few : goal.returns-clause-few
returns-clause-few c =
    let f = c.index-func.result.now in
    let r = counts-read c.args.p.now c.args.func f c.requires.typed c.requires.known
    (c.index-func.ensures ∙ ap (λ (q : Program). get_or q.funcs.items c.args.func f) c.program.ensures.program) in
    omega (arith, r.1, c.len.ensures, c.len-2.ensures, f.params.ok, f.nodes.ok)
