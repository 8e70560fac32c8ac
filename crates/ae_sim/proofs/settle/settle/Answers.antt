-- Each step gives the word of its cell.
use Rattle.std.proofs.Common.{◌≡◌, ◌<◌, ◌≤◌, ◌∙◌, List, length, length-set, map, Some, slice_get, cond, sym, arith}
use Rattle.std.proofs.lemmas.List.{length-map}
use Rattle.std.proofs.lemmas.Option.{get_or_from_slice_get}
use Rattle.ae_netlist.specs.declared.cell.SizedCell.{SizedCell}
use Rattle.ae_netlist.specs.Counts.{is_input, is_register}
use Rattle.ae_netlist.specs.Rows.{Firsts}
use Rattle.ae_netlist.proofs.Given.{store_in, word_in}
use Rattle.ae_netlist.proofs.Settled.{cell_word}
use Rattle.ae_sim.specs.Planned.{Gives, held_of, step_for}
use Rattle.ae_sim.proofs.Making.{IsMade, made_all, made_more, made_so_far, free_fits, stores_fit, gives_word, is_ready}
use Rattle.ae_sim.proofs.Planning.{number_next, sized_there}
use Rattle.ae_sim.proofs.settle.settle.Goals as goal

pub word_of-word-requires : goal.word_of-word-requires
word_of-word-requires c =
    let same : c.cells-cells.result.now ≡ c.args.nl.now.cells = c.cells-cells.ensures in
    let there : c.loop-n.n < length c.args.nl.now.cells = rw same at c.loop-n-test.true in
    let at = sized_there c.args.nl.now.cells c.loop-n.n there in
    let registers : length (map (λ r. r.held) c.args.registers.now) ≡ length c.args.registers.now = length-map c.args.registers.now (λ r. r.held) in
    let memories : length (map (λ m. m.words.items) c.args.memories.now) ≡ length c.args.memories.now = length-map c.args.memories.now (λ m. m.words.items) in
    let read : slice_get c.cells-cells.result.now c.loop-n.n ≡ Some at.0 = rw same at.1 in
    let is : c.sized-sized.result ≡ at.0 = c.sized-sized.ensures ∙
    (c.index-cells-n.is ∙ get_or_from_slice_get c.cells-cells.result.now c.loop-n.n at.0 _ read) in
    let step : c.step_of-step.result ≡ step_for c.args.nl.now.cells c.loop-n.n at.0.width at.0.cell = rw (same, is) at c.step_of-step.ensures in
    rw (step, c.as_slice.ensures.value)
    (record {
      ready = is_ready c.args.nl.now.cells c.loop-n.n at.0.width (length c.loop-n.words.items) (length c.args.inputs.now) (length c.args.registers.now)
          (length c.args.memories.now) at.0.cell
          c.formed.ensures.cells at.1 c.loop-n.invariant.long c.requires.inputs.long (sym registers ∙ c.requires.held.registers)
          (sym memories ∙ c.requires.held.memories);
    })

pub loop-n-preserved : goal.loop-n-preserved
loop-n-preserved c =
    let cells : List SizedCell = c.args.nl.now.cells in
    let held : Firsts = held_of c.args.registers.now c.args.memories.now in
    let same : c.cells-cells.result.now ≡ cells = c.cells-cells.ensures in
    let at = sized_there cells c.loop-n.n (rw same at c.loop-n-test.true) in
    let read : slice_get c.cells-cells.result.now c.loop-n.n ≡ Some at.0 = rw same at.1 in
    let now : c.sized-sized.result ≡ at.0 = c.sized-sized.ensures ∙
    (c.index-cells-n.is ∙ get_or_from_slice_get c.cells-cells.result.now c.loop-n.n at.0 _ read) in
    let taken : c.one_if_input-taken.result ≡ cond (is_input at.0.cell) 1 0 = rw now at c.one_if_input-taken.ensures in
    let kept : c.one_if_register-kept.result ≡ cond (is_register at.0.cell) 1 0 = rw now at c.one_if_register-kept.ensures in
    let step : c.step_of-step.result ≡ step_for cells c.loop-n.n at.0.width at.0.cell = rw (same, now) at c.step_of-step.ensures in
    let gives : Gives (step_for cells c.loop-n.n at.0.width at.0.cell) c.loop-n.words.items c.args.inputs.now held c.word_of-word.result =
    rw (step, c.as_slice.ensures.value) at c.word_of-word.ensures.gives in
    let is : c.word_of-word.result ≡ cell_word cells (word_in cells held c.args.inputs.now)
    (store_in cells held) c.loop-n.words.items c.loop-n.n at.0.cell =
    gives_word cells held c.args.inputs.now c.loop-n.words.items c.loop-n.n at.0.width c.word_of-word.result at.0.cell c.formed.ensures.cells
    c.loop-n.invariant.made.fits at.1 gives in
    record {
      taken = omega (arith, number_next is_input cells c.loop-n.n at.0 at.1, taken, c.loop-n.invariant.taken);
      kept = omega (arith, number_next is_register cells c.loop-n.n at.0 at.1, kept, c.loop-n.invariant.kept);
      long = length-set c.loop-n.words.items c.loop-n.n c.word_of-word.result ∙ c.loop-n.invariant.long;
      made = made_more cells (word_in cells held c.args.inputs.now)
          (store_in cells held) c.loop-n.words.items c.loop-n.n c.word_of-word.result at.0 c.formed.ensures.cells c.loop-n.invariant.long at.1
          (free_fits cells held c.args.inputs.now c.requires.inputs c.requires.held)
          (stores_fit cells held c.args.inputs.now c.requires.inputs c.requires.held) is c.loop-n.invariant.made;
    }

pub returns : goal.returns
returns c =
    let cells : List SizedCell = c.args.nl.now.cells in
    let held : Firsts = held_of c.args.registers.now c.args.memories.now in
    let same : c.cells-cells.result.now ≡ cells = c.cells-cells.ensures in
    let past : length cells ≤ c.loop-n.n = rw same at c.loop-n-test.false in
    let before : c.loop-n.n ≤ length cells = rw same at c.loop-n.auto.n-end in
    let made : IsMade cells (word_in cells held c.args.inputs.now) (store_in cells held) c.loop-n.words.items
    (length cells) = made_so_far _ _ _ _ _ _ (omega (arith, past, before)) c.loop-n.invariant.made in
    record { long = c.loop-n.invariant.long; settled = made_all _ _ _ _ made; fits = made.fits }
