use Rattle.std.proofs.Common.{◌≡◌, ◌∙◌, ℕ, List, Vec, Global, IfSome, length, map, ap, sym, subst, arith}
use Rattle.std.proofs.lemmas.List.{length-map}
use Rattle.ae_delay.specs.declared.own.OwnCosts.{OwnCosts}
use Rattle.ae_moves.specs.Origins.{Move}
use Rattle.ae_rewrite.specs.StProgramTree.{st_func_tree, st_trees}
use Rattle.ae_results.specs.Certified.{IsFirstOf}
use Rattle.ae_fuse.specs.Costing.{fused_costs, moves_latency}
use Rattle.ae_results.specs.Results.{result_move}
use Rattle.ae_fuse.proofs.Fusing.{few-at, made-by, many-at, moves-at, result-at, sized-at}
use Rattle.ae_fuse.proofs.whole.fuse_instance.Goals as goal

pub result_moves-requires-clause-many : goal.result_moves-requires-clause-many
result_moves-requires-clause-many c =
    omega (
      arith,
      ap length c.deref.ensures.value,
      length-map c.in_ok-traced.traced.labels.items (λ (w : Vec ℕ Global). w.items),
      c.in_ok-traced.ensures.results.many,
    )

pub result_moves-requires-clause-results : goal.result_moves-requires-clause-results
result_moves-requires-clause-results c r i at =
    omega (
      arith,
      c.requires.movable.results r i at,
      ap length c.deref.ensures.value,
      length-map c.in_ok-traced.traced.labels.items (λ (w : Vec ℕ Global). w.items),
      c.in_ok-traced.ensures.results.many,
    )

pub together-requires-clause-sizes : goal.together-requires-clause-sizes
together-requires-clause-sizes c =
    let s = st_func_tree c.args.s.now in
    let ins : st_trees c.deref-3.result.now ≡ s.ins = ap st_trees c.deref-3.ensures.value ∙ c.in_ok-ins.ensures ∙ ap st_trees c.deref-2.ensures.value in
    sized-at s c.requires.movable c.deref-3.result.now ins

pub together-requires-clause-few : goal.together-requires-clause-few
together-requires-clause-few c =
    let s = st_func_tree c.args.s.now in
    let ins : st_trees c.deref-3.result.now ≡ s.ins = ap st_trees c.deref-3.ensures.value ∙ c.in_ok-ins.ensures ∙ ap st_trees c.deref-2.ensures.value in
    few-at s c.requires.movable c.deref-3.result.now ins

pub together-requires-clause-few_moves : goal.together-requires-clause-few_moves
together-requires-clause-few_moves c =
    let s = st_func_tree c.args.s.now in
    let made = made-by s c.requires.movable c.in_ok-traced.traced.labels.items c.deref.result.now c.in_ok-results.results.items c.in_ok-traced.ensures.results
    c.deref.ensures.value c.in_ok-results.ensures in
    omega (arith, ap length c.deref-4.ensures.value, many-at s c.requires.movable c.in_ok-results.results.items made, c.requires.movable.few_results)

pub together-requires-clause-moves : goal.together-requires-clause-moves
together-requires-clause-moves c k r found =
    let s = st_func_tree c.args.s.now in
    let ins : st_trees c.deref-3.result.now ≡ s.ins = ap st_trees c.deref-3.ensures.value ∙ c.in_ok-ins.ensures ∙ ap st_trees c.deref-2.ensures.value in
    let made = made-by s c.requires.movable c.in_ok-traced.traced.labels.items c.deref.result.now c.in_ok-results.results.items c.in_ok-traced.ensures.results
    c.deref.ensures.value c.in_ok-results.ensures in
    result-at s c.requires.movable (st_trees c.deref-3.result.now) c.deref-4.result.now ins
    (ap (map (result_move s.ins)) c.deref-4.ensures.value ∙ made) k r found

pub certify-certificate-requires-clause-few : goal.certify-certificate-requires-clause-few
certify-certificate-requires-clause-few c =
    let s = st_func_tree c.args.s.now in
    let made = made-by s c.requires.movable c.in_ok-traced.traced.labels.items c.deref.result.now c.in_ok-results.results.items c.in_ok-traced.ensures.results
    c.deref.ensures.value c.in_ok-results.ensures in
    omega (arith, ap length c.deref-6.ensures.value, many-at s c.requires.movable c.in_ok-results.results.items made, c.requires.movable.few_results)

pub certify-certificate-requires-clause-moves : goal.certify-certificate-requires-clause-moves
certify-certificate-requires-clause-moves c k r found =
    let s = st_func_tree c.args.s.now in
    let ins : st_trees c.deref-5.result.now ≡ s.ins = ap st_trees c.deref-5.ensures.value ∙ c.in_ok-ins.ensures ∙ ap st_trees c.deref-2.ensures.value in
    let made = made-by s c.requires.movable c.in_ok-traced.traced.labels.items c.deref.result.now c.in_ok-results.results.items c.in_ok-traced.ensures.results
    c.deref.ensures.value c.in_ok-results.ensures in
    result-at s c.requires.movable (st_trees c.deref-5.result.now) c.deref-6.result.now ins
    (ap (map (result_move s.ins)) c.deref-6.ensures.value ∙ made) k r found

pub certify-certificate-requires-clause-latest : goal.certify-certificate-requires-clause-latest
certify-certificate-requires-clause-latest c =
    let ins = c.deref-3.ensures.value ∙ sym c.deref-5.ensures.value in
    let moves = c.deref-4.ensures.value ∙ sym c.deref-6.ensures.value in
    ap (λ (o : OwnCosts). o.latency) c.in_ok-costs.ensures ∙ (λ i. moves_latency (map (result_move (st_trees (ins i))) (moves i)))

pub invariant_of-result : goal.invariant_of-result
invariant_of-result c =
    let s = st_func_tree c.args.s.now in
    let plain : st_trees c.in_ok-ins.ins.items ≡ s.ins = c.in_ok-ins.ensures ∙ ap st_trees c.deref-2.ensures.value in
    let made = made-by s c.requires.movable c.in_ok-traced.traced.labels.items c.deref.result.now c.in_ok-results.results.items c.in_ok-traced.ensures.results
    c.deref.ensures.value c.in_ok-results.ensures in
    let same = many-at s c.requires.movable c.in_ok-results.results.items made in
    record {
      moves = result-at s c.requires.movable (st_trees c.in_ok-ins.ins.items) c.in_ok-results.results.items plain made;
      few_ins = few-at s c.requires.movable c.in_ok-ins.ins.items plain;
      some = omega (arith, same, c.requires.movable.some_results);
      few = omega (arith, same, c.requires.movable.few_results);
      costs = c.in_ok-costs.ensures ∙ (λ i. fused_costs (map (result_move (st_trees (c.deref-3.ensures.value i))) (c.deref-4.ensures.value i)));
    }

pub returns : goal.returns
returns c =
    let s = st_func_tree c.args.s.now in
    let plain : st_trees c.in_ok-ins.ins.items ≡ s.ins = c.in_ok-ins.ensures ∙ ap st_trees c.deref-2.ensures.value in
    let made = made-by s c.requires.movable c.in_ok-traced.traced.labels.items c.deref.result.now c.in_ok-results.results.items c.in_ok-traced.ensures.results
    c.deref.ensures.value c.in_ok-results.ensures in
    let ins : st_trees c.deref-3.result.now ≡ s.ins = ap st_trees c.deref-3.ensures.value ∙ plain in
    let last : st_trees c.deref-5.result.now ≡ s.ins = ap st_trees c.deref-5.ensures.value ∙ plain in
    record {
      ins = plain;
      moves = moves-at s c.requires.movable (st_trees c.in_ok-ins.ins.items) c.in_ok-results.results.items plain made;
      arrivals = c.in_ok-traced.ensures.arrivals;
      none = c.certify-certificate.ensures.none;
      certificate = subst (λ (xs : List Move). IfSome c.certify-certificate.result (λ x. IsFirstOf c.in_ok-costs.costs.latency xs x))
          (moves-at s c.requires.movable (st_trees c.deref-5.result.now) c.deref-6.result.now last
          (ap (map (result_move s.ins)) c.deref-6.ensures.value ∙ made)) c.certify-certificate.ensures.first;
      costs = c.in_ok-costs.ensures ∙ ap fused_costs (moves-at s c.requires.movable (st_trees c.deref-3.result.now) c.deref-4.result.now ins
          (ap (map (result_move s.ins)) c.deref-4.ensures.value ∙ made));
    }
