-- One word more, until there are no more.
use Rattle.std.proofs.Common.{◌≡◌, ◌<◌, length, map, take, arith, ◌∙◌}
use Rattle.std.proofs.lemmas.List.{length-map, length-take-le, take_all}
use Rattle.std.proofs.lemmas.Option.{slice_get-map}
use Rattle.ae_word.specs.AtomTree.{WordKind, atom_kinds, atom_tree, atom_words}
use Rattle.ae_word.proofs.Sizes.{length-atom_kinds}
use Rattle.ae_netlist.specs.declared.cell.Port.TheVariants.{In}
use Rattle.ae_lower.proofs.Inputs.{inputs_limit, inputs_long, lane_more, length-word_ports}
use Rattle.ae_lower.proofs.ports.lane_inputs.Goals as goal

pub word_width-requires-clause-there : goal.word_width-requires-clause-there
word_width-requires-clause-there c = omega (arith, length-atom_kinds (atom_tree c.args.atom.now))

pub add_input-requires : goal.add_input-requires
add_input-requires c =
    let widths = map (λ (k : WordKind). k.width) (atom_kinds (atom_tree c.args.atom.now)) in
    let all : length widths ≡ atom_words (atom_tree c.args.atom.now) = length-map (atom_kinds (atom_tree c.args.atom.now)) (λ (k : WordKind). k.width) ∙
    length-atom_kinds (atom_tree c.args.atom.now) in
    let below : c.loop-word.word < atom_words (atom_tree c.args.atom.now) = omega arith in
    let few : length (take c.loop-word.word widths) ≡ c.loop-word.word = length-take-le c.loop-word.word widths (omega (arith, all, below)) in
    omega (
      arith,
      inputs_long c.loop-word.invariant,
      inputs_limit c.loop-word.invariant,
      length-word_ports (In c.args.param c.args.lane) 0 (take c.loop-word.word widths),
      few,
      below,
      c.requires.room,
    )

pub loop-word-preserved : goal.loop-word-preserved
loop-word-preserved c =
    lane_more _ _ _ _ _ _ (In c.args.param c.args.lane) (map (λ (k : WordKind). k.width) (atom_kinds (atom_tree c.args.atom.now))) c.loop-word.word
    c.word_width.result c.in_ok-net.net
    (slice_get-map (λ (k : WordKind). k.width) (atom_kinds (atom_tree c.args.atom.now)) c.loop-word.word ∙ c.word_width.ensures) c.in_ok-net.ensures.added
    c.in_ok-net.ensures.net c.in_ok-push.ensures.items c.loop-word.invariant

pub returns : goal.returns
returns c =
    let long = length-map (atom_kinds (atom_tree c.args.atom.now)) (λ (k : WordKind). k.width) in
    rw (take_all c.loop-word.word (map (λ (k : WordKind). k.width) (atom_kinds (atom_tree c.args.atom.now)))
    (omega (arith, long, length-atom_kinds (atom_tree c.args.atom.now)))) at c.loop-word.invariant
