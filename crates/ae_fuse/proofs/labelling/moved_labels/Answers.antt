use Rattle.std.proofs.Common.{◌≡◌, ◌*◌, ◌/◌, ◌%◌, ◌∙◌, ap, arith, map}
use Rattle.std.specs.List.{range_with_len}
use Rattle.ae_sttype.specs.StTree.{st_tree}
use Rattle.ae_delay.specs.Moving.{origin_from}
use Rattle.ae_fuse.specs.Labels.{label_from}
use Rattle.ae_fuse.proofs.LabelSteps.{moved-all}
use Rattle.ae_fuse.proofs.ResultSteps.{arrivals-next}
use Rattle.ae_fuse.proofs.labelling.moved_labels.Goals as goal

pub loop-o-preserved : goal.loop-o-preserved
loop-o-preserved c =
    let w = c.element_words-words.result in
    record {
      moved = rw c.in_ok-push.ensures.items
          (arrivals-next (λ o. label_from c.args.labels.now w (origin_from c.args.how c.atoms-arg_atoms.result c.atoms-out_atoms.result (o / w) (o % w)))
          c.loop-o.o c.moved_label.result c.loop-o.moved.items c.loop-o.invariant.moved c.moved_label.ensures);
      within = omega (arith, c.loop-o-test.true);
    }

pub returns : goal.returns
returns c =
    let w = c.element_words-words.result in
    let e : c.loop-o.o ≡ c.atoms-out_atoms.result * w = omega (arith, c.loop-o-test.false, c.loop-o.invariant.within) in
    moved-all c.args.how (st_tree c.args.arg.now) (st_tree c.args.out.now) c.args.labels.now c.loop-o.moved.items c.atoms-arg_atoms.result
    c.atoms-out_atoms.result w c.requires.fits c.atoms-arg_atoms.ensures c.atoms-out_atoms.ensures c.element_words-words.ensures
    (c.loop-o.invariant.moved ∙ ap (λ n. map (λ o. label_from c.args.labels.now w
    (origin_from c.args.how c.atoms-arg_atoms.result c.atoms-out_atoms.result (o / w) (o % w))) (range_with_len 0 n)) e)
