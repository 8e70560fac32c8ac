-- The ports of a written module are those of its netlist.
use Rattle.std.proofs.Common.{ℕ, ◌≡◌, ◌+◌, List, [], ◌∷◌, ◌++◌, sym, ap, ◌∙◌, refl}
use Rattle.std.specs.List.{flat_map}
use Rattle.std.proofs.lemmas.List.Concat.{flat_map-cons}
use Rattle.ae_netlist.specs.declared.cell.SizedCell.{SizedCell}
use Rattle.ae_netlist.specs.Circuit.{Circuit}
use Rattle.ae_verilog.specs.NetlistModule.{input_nets, each_numbered}
use Rattle.ae_verilog.specs.Written.{IsWritableNetlist}
use Rattle.ae_spelled.specs.ModulePorts.{ArePorts}
use Rattle.ae_spelled.proofs.LawSame.{inputs_are, outputs_are}

numbered_alike : {X A : Type 0} (f : X → List A) (k : ℕ) (xs : List X) → each_numbered (λ _. f) k xs ≡ flat_map f xs
numbered_alike f k [] = refl
numbered_alike f k (x ∷ xs) = ap (λ ys. f x ++ ys) (numbered_alike f (k + 1) xs) ∙ sym (flat_map-cons f x xs)

pub are_ports : (lines : ℕ → ℕ) (n : Circuit) (outs : ℕ) → IsWritableNetlist n.cells n.outlets outs → ArePorts lines n outs
are_ports lines n outs ok =
    λ i. (inputs_are lines n.cells n.outlets outs ok ∙ numbered_alike (λ (sized : SizedCell). input_nets sized.width sized.cell) 0 n.cells) i
    ++ outputs_are lines n.cells n.outlets outs ok i
