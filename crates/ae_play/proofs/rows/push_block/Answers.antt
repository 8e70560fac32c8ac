use Rattle.std.proofs.Common.{◌+◌, ◌*◌, drop, map, length, arith, ◌∙◌}
use Rattle.ae_sttype.specs.StTree.{st_tree}
use Rattle.ae_play.proofs.Layouts.{block_more, part_there, product_is, sliced, taken}
use Rattle.ae_play.proofs.rows.push_block.Goals as goal

pub atoms-requires : goal.atoms-requires
atoms-requires c =
    (part_there c.args.ins.now c.loop-s.first (length c.args.words.now) c.loop-s.s-index c.s-item.result c.loop-s-test.true c.s-item.is c.requires.sized
    c.loop-s.invariant.left).sized

pub element_words-requires : goal.element_words-requires
element_words-requires c =
    (part_there c.args.ins.now c.loop-s.first (length c.args.words.now) c.loop-s.s-index c.s-item.result c.loop-s-test.true c.s-item.is c.requires.sized
    c.loop-s.invariant.left).sized

pub overflow_mul-size : goal.overflow_mul-size
overflow_mul-size c =
    let part = part_there c.args.ins.now c.loop-s.first (length c.args.words.now) c.loop-s.s-index c.s-item.result c.loop-s-test.true c.s-item.is
    c.requires.sized c.loop-s.invariant.left in
    omega (arith, part.sized.in_words, product_is _ _ _ _ c.atoms.ensures c.element_words.ensures)

pub overflow_add-first : goal.overflow_add-first
overflow_add-first c =
    let part = part_there c.args.ins.now c.loop-s.first (length c.args.words.now) c.loop-s.s-index c.s-item.result c.loop-s-test.true c.s-item.is
    c.requires.sized c.loop-s.invariant.left in
    omega (arith, part.left, product_is _ _ _ _ c.atoms.ensures c.element_words.ensures)

pub slice_bounds-push_layout-end : goal.slice_bounds-push_layout-end
slice_bounds-push_layout-end c =
    let part = part_there c.args.ins.now c.loop-s.first (length c.args.words.now) c.loop-s.s-index c.s-item.result c.loop-s-test.true c.s-item.is
    c.requires.sized c.loop-s.invariant.left in
    omega (arith, part.left, product_is _ _ _ _ c.atoms.ensures c.element_words.ensures)

pub push_layout-requires-clause-sized : goal.push_layout-requires-clause-sized
push_layout-requires-clause-sized c =
    (part_there c.args.ins.now c.loop-s.first (length c.args.words.now) c.loop-s.s-index c.s-item.result c.loop-s-test.true c.s-item.is c.requires.sized
    c.loop-s.invariant.left).sized

pub push_layout-requires-clause-value : goal.push_layout-requires-clause-value
push_layout-requires-clause-value c = λ clock is.
    let part = part_there c.args.ins.now c.loop-s.first (length c.args.words.now) c.loop-s.s-index c.s-item.result c.loop-s-test.true c.s-item.is
    c.requires.sized c.loop-s.invariant.left in
    let size = product_is _ _ _ _ c.atoms.ensures c.element_words.ensures in
    taken c.loop-s.first (c.atoms.result * c.element_words.result) c.args.words.now (omega (arith, part.left, size)) ∙ size

pub loop-s-preserved : goal.loop-s-preserved
loop-s-preserved c =
    let ss = map st_tree c.args.ins.now in
    let part = part_there c.args.ins.now c.loop-s.first (length c.args.words.now) c.loop-s.s-index c.s-item.result c.loop-s-test.true c.s-item.is
    c.requires.sized c.loop-s.invariant.left in
    let size = product_is _ _ _ _ c.atoms.ensures c.element_words.ensures in
    record {
      rest = rw (size) (block_more c.args.fill c.args.clock c.loop-s.first (st_tree c.s-item.result) (drop c.loop-s.s-index ss)
          (drop (c.loop-s.s-index + 1) ss) c.args.words.now _ c.loop-s.row.items c.push_layout.new.row.items _
          part.next (sliced c.loop-s.first (c.atoms.result * c.element_words.result) _ c.args.words.now size) c.in_ok-push_layout.ensures
          c.loop-s.invariant.rest);
      left = omega (arith, part.left, size);
    }
