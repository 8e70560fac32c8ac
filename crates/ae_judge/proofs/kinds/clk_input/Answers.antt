use Rattle.std.proofs.Common.{rules, ◌≡◌, sym, ap, ◌∙◌}
use Rattle.std.specs.Prelude.{codes}
use Rattle.ae_vmodule.specs.View.{net_tree, word_at}
use Rattle.ae_judge.proofs.PlaceLemmas.{named_is}
use Rattle.ae_judge.proofs.kinds.clk_input.Goals as goal

pub returns-then-width-eq1 : goal.returns-then-width-eq1
returns-then-width-eq1 c =
    let ws = c.args.names.now.words in
    let nets = c.args.names.now.nets in
    let word : word_at ws c.name.result ≡ codes "clk" =
    ap (word_at ws) c.name.ensures ∙ named_is nets (codes "clk") (net_tree ws c.in-Some.net.now) (sym c.in-Some.ensures) in
    search (rules, word)
