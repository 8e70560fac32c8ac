use Rattle.std.proofs.Common.{rules, ◌≡◌, ◌+◌, ◌∙◌, ap, refl, replicate, length}
use Rattle.ae_delay.proofs.Items.{begun}
use Rattle.ae_delay.proofs.weighing.start.Goals as goal

pub returns-clause-progress : goal.returns-clause-progress
returns-clause-progress c = λ limit.
    let ins : c.len.result ≡ length c.args.s.now.ins.items = search (rules) in
    let ins' : c.len-2.result ≡ length c.args.s.now.ins.items = search (rules) in
    let nodes : c.len-3.result ≡ length c.args.s.now.nodes.items = search (rules) in
    let all : c.len-2.result + c.len-3.result ≡ length c.args.s.now.ins.items + length c.args.s.now.nodes.items = rw (ins', nodes) refl in
    begun c.args.s.now limit _ (c.in_ok-vec.ensures.items_if_clones_equal (λ y h. h) ∙ ap (λ n. replicate n 0) ins)
    (c.in_ok-vec-2.ensures.items_if_clones_equal (λ y h. h) ∙ ap (λ n. replicate n 0) all)
    c.new-2.ensures.items refl refl refl
