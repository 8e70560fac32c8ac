-- The outputs of a module, one name after the other.
use Rattle.std.proofs.Common.{ℕ, ◌≡◌, ◌+◌, ◌<◌, ◌≤◌, inl, inr, Bool, true, false, List, [], ◌∷◌, ◌++◌, length, get_or, map, Option, Some, None, slice_get, arith, refl, sym, ap, ◌∙◌, length-append}
use Rattle.std.proofs.lemmas.List.{map-append}
use Rattle.std.proofs.lemmas.Option.{slice_get_within, slice_get-get_or}
use Rattle.ae_netlist.specs.declared.cell.NetId.{NetId}
use Rattle.ae_netlist.specs.declared.cell.Port.TheVariants.{Plain}
use Rattle.ae_netlist.specs.declared.cell.SizedCell.{SizedCell}
use Rattle.ae_netlist.specs.declared.cell.Outlet.{Outlet}
use Rattle.ae_netlist.specs.Circuit.{IsNet, width_of}
use Rattle.ae_netlist.proofs.Gets.{get_push_cases}
use Rattle.ae_vmodule.specs.declared.module.NetKind.{NetKind}
use Rattle.ae_vmodule.specs.declared.module.NetKind.TheVariants.{Input, Wire, OutWire, Reg, OutReg, Memory}
use Rattle.ae_vmodule.specs.ModuleTree.{NetTree}
use Rattle.ae_judge.specs.Names.{is_output_kind}
use Rattle.ae_runs.specs.Named.{StandsFor}
use Rattle.ae_elab.specs.Declaring.{ArePlainOutlets, is_output, shown, with_nets}
use Rattle.ae_elab.proofs.Declaring.{with_nets_push}
use Rattle.ae_express.proofs.NetLaws.{own_net}

-- an output is no memory
pub output_net : (k : NetKind) (cells : List SizedCell) (n w : ℕ) → is_output_kind k ≡ true → StandsFor k cells n w → IsNet cells n (width_of cells n)
output_net Input cells n w t h = own_net h
output_net Wire cells n w t h = own_net h
output_net OutWire cells n w t h = own_net h
output_net Reg cells n w t h = own_net h
output_net OutReg cells n w t h = own_net h
output_net (Memory depth) cells n w t h = absurd (cc)

-- a name more
pub shown_more : (ns more : List NetTree) (nets most : List (Option NetId)) (x : NetTree) (net : Option NetId) (outlets : List Outlet)
    → length nets ≡ length ns → more ≡ ns ++ x ∷ [] → most ≡ nets ++ net ∷ []
    → (is_output x ≡ true → (y : NetId) × (net ≡ Some y)) → map (λ (o : Outlet). o.net.0) outlets ≡ with_nets is_output (λ n x. n) ns nets
    → map (λ (o : Outlet). o.net.0) (shown (is_output_kind x.kind) net outlets) ≡ with_nets is_output (λ n x. n) more most
shown_more ns more nets most x net outlets l e f has h = rw (e, f) (either (is_output_kind x.kind) refl)
  where
    either : (b : Bool) → is_output_kind x.kind ≡ b → map (λ (o : Outlet). o.net.0) (shown (is_output_kind x.kind) net outlets) ≡ with_nets is_output
        (λ n x. n) (ns ++ x ∷ []) (nets ++ net ∷ [])
    either false t = rw t (h ∙ sym (with_nets_push is_output (λ n x. n) ns nets x net l ∙ rw t refl))
    either true t =
        let y = has t in
        rw (t, y.1)
        (map-append (λ (o : Outlet). o.net.0) outlets ((record { port = Plain (length outlets); net = y.0 }) ∷ []) ∙ ap (λ (ks : List ℕ). ks ++ y.0.0 ∷ []) h
        ∙ sym (with_nets_push is_output (λ n x. n) ns nets x (Some y.0) l ∙ rw t refl))

pub shown_plain : (b : Bool) (net : Option NetId) (outlets : List Outlet) → ArePlainOutlets outlets → ArePlainOutlets (shown b net outlets)
shown_plain false net outlets h = h
shown_plain true None outlets h = h
shown_plain true (Some y) outlets h = λ k o g. elim (get_push_cases outlets (record { port = Plain (length outlets); net = y }) k o g) [
  | inl w ↦ h k o w.0
  | inr w ↦ ap (λ (u : Outlet). u.port) (sym w.1) ∙ ap Plain (sym w.0)
]

pub shown_few : (b : Bool) (net : Option NetId) (outlets : List Outlet) (k : ℕ) → length outlets ≤ k → length (shown b net outlets) ≤ k + 1
shown_few false net outlets k h = omega arith
shown_few true None outlets k h = omega arith
shown_few true (Some y) outlets k h = let e = length-append outlets ((record { port = Plain (length outlets); net = y }) ∷ []) in omega arith

-- what the code reads, and what it then has
pub read_there : {X : Type 0} (xs : List X) (i : ℕ) (x y : X) → i < length xs → x ≡ get_or xs i x → y ≡ x → slice_get xs i ≡ Some y
read_there xs i x y l h e = slice_get-get_or xs i x l ∙ ap Some (sym h ∙ sym e)

pub got_or : {X : Type 0} (xs : List X) (i : ℕ) (d x : X) → slice_get xs i ≡ Some x → get_or xs i d ≡ x
got_or xs i d x h =
    let l = slice_get_within xs i x h in
    let e : Some (get_or xs i d) ≡ Some x = sym (slice_get-get_or xs i d l) ∙ h in
    cc
