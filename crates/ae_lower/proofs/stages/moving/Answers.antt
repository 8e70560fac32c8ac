use Rattle.std.proofs.Common.{◌≡◌, ◌∙◌, ◌++◌, [], ◌∷◌, List, map, ap, arith}
use Rattle.ae_sttype.specs.declared.st_type.StType.{StType}
use Rattle.ae_sttype.specs.StTree.{StTree, st_tree}
use Rattle.ae_moves.specs.Trees.{origin_tree}
use Rattle.ae_delay.specs.Moving.{op_move}
use Rattle.ae_delay.proofs.Sourced.{op_is_move}
use Rattle.ae_lower.proofs.stages.moving.Goals as goal

pub of_move-requires : goal.of_move-requires
of_move-requires c =
    let e : map origin_tree c.in_ok-source.source.items ≡ (op_move c.args.how (st_tree c.args.arg.now)
    (st_tree c.args.out.now)).origins = c.in_ok-source.ensures in
    let t : st_tree c.in_ok-layout.layout ≡ st_tree c.args.out.now = c.in_ok-layout.ensures in
    let i : map st_tree c.push.new.self.items ≡ st_tree c.args.arg.now ∷ [] =
    ap (map st_tree) c.in_ok-push.ensures.items ∙ (ap (λ (v : List StType). map st_tree (v ++ c.in_ok-copy.field-0 ∷ [])) c.new-ins.ensures.items
    ∙ ap (λ (x : StTree). x ∷ []) c.in_ok-copy.ensures) in
    rw (e, t, i)
    (record {
      move = op_is_move c.args.how (st_tree c.args.arg.now) (st_tree c.args.out.now) c.requires.arg c.requires.out c.requires.time
          c.requires.fits.0 c.requires.fits.1;
      few = omega arith;
    })

pub returns : goal.returns
returns c =
    let e : map origin_tree c.in_ok-source.source.items ≡ (op_move c.args.how (st_tree c.args.arg.now)
    (st_tree c.args.out.now)).origins = c.in_ok-source.ensures in
    let t : st_tree c.in_ok-layout.layout ≡ st_tree c.args.out.now = c.in_ok-layout.ensures in
    let i : map st_tree c.push.new.self.items ≡ st_tree c.args.arg.now ∷ [] =
    ap (map st_tree) c.in_ok-push.ensures.items ∙ (ap (λ (v : List StType). map st_tree (v ++ c.in_ok-copy.field-0 ∷ [])) c.new-ins.ensures.items
    ∙ ap (λ (x : StTree). x ∷ []) c.in_ok-copy.ensures) in
    record { is = rw (e, t, i) at c.of_move.ensures }
