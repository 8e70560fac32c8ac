use Rattle.std.proofs.Common.{◌+◌, ◌-◌, ◌∙◌, ◌&&◌, sym, ap, drop, length, length-drop, arith}
use Rattle.std.proofs.lemmas.List.{drop_all, take_all}
use Rattle.ae_seq.specs.Formed.{formed_func, formed_funcs, most_results}
use Rattle.ae_seq.specs.ProgramTree.{func_tree}
use Rattle.ae_seq.specs.Trees.{func_trees}
use Rattle.ae_seq.proofs.Judging.{drop-read}
use Rattle.ae_seq.proofs.formed.formed_funcs.Goals as goal

pub returns-then-not-formed_func : goal.returns-then-not-formed_func
returns-then-not-formed_func c =
    let i = c.loop-i.i in
    let later = func_trees (drop (i + 1) c.args.funcs.now) in
    let step = drop-read c.args.funcs.now i c.index-funcs-i.result c.loop-i-test.true c.index-funcs-i.is in
    let rest = take_all (length c.args.funcs.now - (i + 1)) (drop (i + 1) c.args.funcs.now) (omega (arith, length-drop (i + 1) c.args.funcs.now)) in
    let results = c.most_results.ensures ∙ ap (λ fs. most_results c.args.version (func_trees fs)) rest in
    let own = ap (λ k. formed_func c.args.version i k (func_tree c.index-funcs-i.result)) (sym results) ∙ sym c.formed_func.ensures ∙
    c.if-not-formed_func.true in
    sym (ap (λ b. b && formed_funcs c.args.version (i + 1) later) own) ∙ (rw step at c.loop-i.invariant)

pub loop-i-preserved : goal.loop-i-preserved
loop-i-preserved c =
    let i = c.loop-i.i in
    let later = func_trees (drop (i + 1) c.args.funcs.now) in
    let step = drop-read c.args.funcs.now i c.index-funcs-i.result c.loop-i-test.true c.index-funcs-i.is in
    let rest = take_all (length c.args.funcs.now - (i + 1)) (drop (i + 1) c.args.funcs.now) (omega (arith, length-drop (i + 1) c.args.funcs.now)) in
    let results = c.most_results.ensures ∙ ap (λ fs. most_results c.args.version (func_trees fs)) rest in
    let own = ap (λ k. formed_func c.args.version i k (func_tree c.index-funcs-i.result)) (sym results) ∙ sym c.formed_func.ensures ∙
    c.if-not-formed_func.false in
    sym (ap (λ b. b && formed_funcs c.args.version (i + 1) later) own) ∙ (rw step at c.loop-i.invariant)

pub returns : goal.returns
returns c =
    let over = drop_all c.loop-i.i c.args.funcs.now c.loop-i-test.false in
    rw over at c.loop-i.invariant
