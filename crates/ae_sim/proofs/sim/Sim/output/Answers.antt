-- The output's net is there, and its word is that of the run.
use Rattle.std.proofs.Common.{ℕ, zero, suc, [], ◌∷◌, ◌≡◌, ◌<◌, ◌-◌, ◌∙◌, ap, sym, arith, List, Some, None, slice_get, length, get_or}
use Rattle.std.specs.Option.{option_copied}
use Rattle.std.proofs.lemmas.Option.{slice_get_within, slice_get-get_or, get_or_from_slice_get}
use Rattle.ae_netlist.specs.declared.cell.Outlet.{Outlet}
use Rattle.ae_netlist.specs.Runs.{word_at}
use Rattle.ae_sim.specs.Playing.{Simulated}
use Rattle.ae_sim.proofs.sim.Sim.output.Goals as goal

no_none : {X : Type 0} (xs : List X) (k : ℕ) → k < length xs → slice_get xs k ≡ None → ⊥
no_none [] k l h = absurd (omega arith)
no_none (x ∷ xs) zero l h = cc
no_none (x ∷ xs) (suc k) l h = no_none xs k (omega arith) h

pub index-requires : goal.index-requires
index-requires c =
    let found : slice_get c.self.inside.nl.now.outlets c.args.k ≡ Some c.in-Some.outlet.now = sym c.output.ensures ∙ ap option_copied c.in-Some.is in
    let net = c.formed.ensures.outlets.each c.args.k c.in-Some.outlet.now found in
    let b : c.in-Some.outlet.now.net.0 < length c.self.inside.words.items = omega (
      arith,
      slice_get_within c.self.inside.nl.now.cells c.in-Some.outlet.now.net.0 net.sized net.found,
      c.self.invariant.long,
    ) in
    grind (arith, b)

pub unreachable-requires : goal.unreachable-requires
unreachable-requires c =
    let outlets : c.self.inside.nl.now.outlets ≡ c.args.self.now.outlets = ap (λ (v : Simulated). v.outlets) c.self.view_is in
    let none : slice_get c.args.self.now.outlets c.args.k ≡ None = ap (λ xs. slice_get xs c.args.k) (sym outlets) ∙
    (sym c.output.ensures ∙ ap option_copied c.in-None.is) in
    no_none c.args.self.now.outlets c.args.k c.requires none

pub returns : goal.returns
returns c = λ outlet fill rows run found played some plays.
    let outlets : c.self.inside.nl.now.outlets ≡ c.args.self.now.outlets = ap (λ (v : Simulated). v.outlets) c.self.view_is in
    let cells : c.self.inside.nl.now.cells ≡ c.args.self.now.cells = ap (λ (v : Simulated). v.cells) c.self.view_is in
    let words : c.self.inside.words.items ≡ c.args.self.now.words = ap (λ (v : Simulated). v.words) c.self.view_is in
    let mine : slice_get c.args.self.now.outlets c.args.k ≡ Some c.in-Some.outlet.now = ap (λ xs. slice_get xs c.args.k) (sym outlets) ∙
    (sym c.output.ensures ∙ ap option_copied c.in-Some.is) in
    let same : Some outlet ≡ Some c.in-Some.outlet.now = sym found ∙ mine in
    let is : outlet ≡ c.in-Some.outlet.now = cc in
    let net = c.formed.ensures.outlets.each c.args.k c.in-Some.outlet.now (ap (λ xs. slice_get xs c.args.k) outlets ∙ mine) in
    let place : c.in-Some.outlet.now.net.0 < length c.self.inside.nl.now.cells = slice_get_within c.self.inside.nl.now.cells c.in-Some.outlet.now.net.0
    net.sized net.found in
    let word : c.index.result.now ≡ get_or c.args.self.now.words c.in-Some.outlet.now.net.0 0 =
    (c.index.ensures ∙ get_or_from_slice_get c.self.inside.words.items c.in-Some.outlet.now.net.0 _ c.index.result.now
    (slice_get-get_or c.self.inside.words.items c.in-Some.outlet.now.net.0 0 (omega (arith, place, c.self.invariant.long)))) ∙
    ap (λ xs. get_or xs c.in-Some.outlet.now.net.0 0) words in
    let run_word = played.words run c.in-Some.outlet.now.net.0 plays some (rw cells at place) in
    word ∙ (run_word ∙ ap (λ (o : Outlet). word_at run (length rows - 1) o.net.0) (sym is))
