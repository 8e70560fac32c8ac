-- The cell at the input's net is the input of that number.
use Rattle.std.proofs.Common.{ℕ, List, Option, ◌≡◌, ◌∙◌, ◌<◌, ◌≤◌, refl, sym, ap, arith, Some, None, slice_get, length}
use Rattle.std.specs.Option.{option_map}
use Rattle.std.proofs.lemmas.Option.{slice_get_within, get_or_from_slice_get}
use Rattle.ae_netlist.specs.declared.cell.SizedCell.{SizedCell}
use Rattle.ae_netlist.specs.Circuit.{Circuit}
use Rattle.ae_netlist.specs.Counts.{cells_of, is_input, IsNumbered}
use Rattle.ae_netlist.proofs.FirstNets.{past_end}
use Rattle.ae_netlist.proofs.Counting.{cell_numbered, none_numbered}
use Rattle.ae_netlist.proofs.netlist.Netlist.input_width.Goals as goal

width_numbered : (a b : List SizedCell) (k : ℕ) (sized found : SizedCell) → a ≡ b → found ≡ sized → slice_get (cells_of is_input a) k ≡ Some sized
    → Some found.width ≡ option_map (λ (x : SizedCell). x.width) (slice_get (cells_of is_input b) k)
width_numbered a b k sized found same is h = rw (← same, h, is) refl

no_width : (a b : List SizedCell) (k : ℕ) → a ≡ b → slice_get (cells_of is_input a) k ≡ None → let none : Option ℕ = None in
    none ≡ option_map (λ (x : SizedCell). x.width) (slice_get (cells_of is_input b) k)
no_width a b k same h = rw (← same, h) refl

pub index-requires : goal.index-requires
index-requires c =
    let h : slice_get c.self.inside.inputs c.args.k ≡ Some c.in-Some.n = sym c.in-Some.ensures in
    let n : IsNumbered is_input c.self.inside.cells.items c.args.k c.in-Some.n.0 = c.self.invariant.3.each c.args.k c.in-Some.n h in
    let b : c.in-Some.n.0 < length c.self.inside.cells.items = slice_get_within c.self.inside.cells.items c.in-Some.n.0 n.sized n.found in
    grind (arith, b)

pub returns-in-Some : goal.returns-in-Some
returns-in-Some c =
    let h : slice_get c.self.inside.inputs c.args.k ≡ Some c.in-Some.n = sym c.in-Some.ensures in
    let n : IsNumbered is_input c.self.inside.cells.items c.args.k c.in-Some.n.0 = c.self.invariant.3.each c.args.k c.in-Some.n h in
    let same : c.self.inside.cells.items ≡ c.args.self.now.cells = ap (λ (v : Circuit). v.cells) c.self.view_is in
    let is : c.index.result.now ≡ n.sized = c.index.ensures ∙
    get_or_from_slice_get c.self.inside.cells.items c.in-Some.n.0 n.sized c.index.result.now n.found in
    rw c.width.ensures (width_numbered c.self.inside.cells.items c.args.self.now.cells c.args.k n.sized c.index.result.now same is
    (cell_numbered is_input c.self.inside.cells.items c.args.k c.in-Some.n.0 n))

pub returns-in-None : goal.returns-in-None
returns-in-None c =
    let same : c.self.inside.cells.items ≡ c.args.self.now.cells = ap (λ (v : Circuit). v.cells) c.self.view_is in
    let past : length c.self.inside.inputs ≤ c.args.k = past_end c.self.inside.inputs c.args.k (sym c.in-None.ensures) in
    no_width c.self.inside.cells.items c.args.self.now.cells c.args.k same
    (none_numbered is_input c.self.inside.cells.items c.args.k (omega (arith, c.self.invariant.3.long, past)))
