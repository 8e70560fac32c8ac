use Rattle.std.proofs.Common.{ℕ, List, ◌≡◌, ◌≤◌, ◌+◌, ◌*◌, ◌++◌, length}
use Rattle.ae_netlist.specs.Circuit.{IsNet}
use Rattle.ae_vmodule.specs.ModuleTree.{concat_more}
use Rattle.ae_vmodule.specs.Numbered.{parts_in}
use Rattle.ae_vmodule.specs.Roots.{numbered}
use Rattle.ae_vmodule.specs.View.{expr_tree}
use Rattle.ae_judge.specs.Widths.{own_width}
use Rattle.ae_judge.specs.Weight.{expr_weight}
use Rattle.ae_gates.specs.Cells.{GrowsByGates}
use Rattle.ae_runs.specs.Named.{AreNamed, AreNets}
use Rattle.ae_order.specs.Sound.{IsReadyFor, IsSound}
use Rattle.ae_express.specs.Asked.{EndsWith, part_widths}
use Rattle.ae_express.proofs.PartLaws.{SoFar}
use Rattle.ae_express.proofs.expressions.+lowering.Given as goal

abbrev pub decreases-lower : goal.decreases-lower
decreases-lower l = 2 * parts_in (numbered l.e)

abbrev pub decreases-lower_unary : goal.decreases-lower_unary
decreases-lower_unary l = 2 * parts_in (numbered l.a) + 1

abbrev pub decreases-lower_parts : goal.decreases-lower_parts
decreases-lower_parts l = 2 * (parts_in (numbered l.first) + parts_in (numbered l.rest)) + 1

-- the word of the parts so far, and what is left of them; the first leaves 7 of its cells
abbrev pub invariant-lower_parts-part : goal.invariant-lower_parts-part
invariant-lower_parts-part l =
    let ns = l.names.nets in
    let tree = expr_tree l.names.words in
    let whole = concat_more (tree (numbered l.fn.first)) (tree (numbered l.fn.rest)) in
    let left = tree (numbered l.parts) in
    record {
      grows : GrowsByGates l.fn.nl l.nl;
      more : length l.fn.nl.cells ≤ length l.nl.cells;
      few : length l.nl.cells + 8 * expr_weight left + 7 ≤ length l.fn.nl.cells + 8 * expr_weight whole;
      own : l.own + own_width ns left ≡ own_width ns whole;
      low : 1 ≤ l.own;
      net : IsNet l.nl.cells l.x.0 l.own;
      nets : AreNets ns l.nets l.nl.cells;
      sound : IsSound ns left;
      ready : IsReadyFor ns l.nets left;
      widths : EndsWith l.widths.items (part_widths ns left);
      taken : (rest : List ℕ) → l.widths.items ≡ rest ++ part_widths ns left → l.fn.widths.items ≡ rest ++ part_widths ns whole;
      word : (at : List ℕ → ℕ) → AreNamed ns l.nets at → SoFar l.from l.nl.cells l.x.0 l.own ns at left whole;
      fewer : parts_in (numbered l.parts) ≤ parts_in (numbered l.fn.rest);
    }

abbrev pub decreases-lower_parts-part : goal.decreases-lower_parts-part
decreases-lower_parts-part l = parts_in (numbered l.parts)
