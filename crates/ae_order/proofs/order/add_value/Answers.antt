-- The names that the symbols read are those of the value.
use Rattle.std.proofs.Common.{◌≡◌, ◌++◌, List, ℕ, IfSome, OnOk, map, ap, subst, sym, ◌∙◌}
use Rattle.ae_vmodule.specs.Roots.{numbered}
use Rattle.ae_vmodule.specs.View.{expr_tree}
use Rattle.ae_vmodule.specs.declared.symbols.Expr.{Expr}
use Rattle.ae_judge.specs.Names.{Among}
use Rattle.ae_judge.specs.Symbols.{words_read}
use Rattle.ae_runs.specs.Named.{place_of}
use Rattle.ae_order.specs.Drives.{names_read, places_in, value_tree}
use Rattle.ae_order.specs.Sound.{IsSound}
use Rattle.ae_order.proofs.SymbolNames.{coded_names, sound_named}
use Rattle.ae_order.proofs.order.add_value.Goals as goal

pub add_names-requires-clause-named : goal.add_names-requires-clause-named
add_names-requires-clause-named c n a =
    let ns = c.args.names.now.nets in
    let ws = c.args.names.now.words in
    let e : Expr = c.in-Some.e in
    let names : words_read ws c.symbols.result.now ≡ names_read (expr_tree ws (numbered e)) =
    ap (words_read ws) c.symbols.ensures ∙ coded_names ws (numbered e) in
    let sound : IsSound ns (expr_tree ws (numbered e)) =
    subst (λ v. IfSome v (λ (x : Expr). IsSound ns (expr_tree ws (numbered x)))) c.in-Some.is c.requires.sound in
    sound_named ns (expr_tree ws (numbered e)) n sound (subst (Among n) names a)

pub returns-in-Some : goal.returns-in-Some
returns-in-Some c =
    let ns = c.args.names.now.nets in
    let ws = c.args.names.now.words in
    let e : Expr = c.in-Some.e in
    let places : map (place_of ns) (words_read ws c.symbols.result.now) ≡ places_in ns (value_tree ws c.args.value) =
    ap (λ ss. map (place_of ns) (words_read ws ss)) c.symbols.ensures ∙ ap (map (place_of ns)) (coded_names ws (numbered e))
    ∙ ap (λ v. places_in ns (value_tree ws v)) (sym c.in-Some.is) in
    subst (λ (ps : List ℕ). OnOk c.add_names.result (c.add_names.new.targets.items ≡ c.args.targets.now.items ++ ps)) places c.add_names.ensures
