use Rattle.std.proofs.Common.{◌∙◌, sym}
use Rattle.ae_sttype.specs.StTree.{st_tree}
use Rattle.ae_delay.proofs.AlikeMoves.{like_costs}
use Rattle.ae_delay.proofs.known.KnownMove.is_like.Goals.{then-same_op, else-same_op}
use Rattle.ae_delay.proofs.known.KnownMove.is_like.Goals as goal

pub returns-then-is_near : goal.returns-then-is_near
returns-then-is_near c = λ told.
    let slots = c.has_slots.ensures told in
    elim c.if-same_op.branch [
      | then-same_op w ↦
          like_costs c.args.self.now.how c.args.how (st_tree c.args.self.now.arg) (st_tree c.args.self.now.out) (st_tree c.args.arg.now)
          (st_tree c.args.out.now)
          c.args.self.now.costs c.args.self.now.period c.args.period c.args.self.now.right c.args.self.now.timed c.requires
          (c.same_op.ensures w.if-same_op.true)
          (w.is_near.ensures (sym w.value-is ∙ c.if-is_near.true)) slots.0 slots.1
      | else-same_op w ↦ cc
    ]
