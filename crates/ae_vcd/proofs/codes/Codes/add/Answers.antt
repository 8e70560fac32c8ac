use Rattle.std.specs.Str.{bytes_eq}
use Rattle.std.proofs.Common.{◌≡◌, ◌∙◌, sym, ap, is_some, false, refl, List, ℕ, ◌∷◌, [], ◌++◌, Vec}
use Rattle.ae_vcd.specs.Codes.{codes_of, is_known}
use Rattle.ae_vcd.proofs.CodeTable.{Entry, insert-codes, known-by-place}
use Rattle.std.specs.declared.alloc.Global.{Global}
use Rattle.indexmap.specs.IndexMap.{insert_entry}
use Rattle.ae_vcd.proofs.codes.Codes.add.Goals as goal

pub returns : goal.returns
returns c =
    let es : List Entry = c.self.inside.numbers.entries in
    let key : Vec ℕ Global = c.extend_from_slice.new.self in
    let v : c.args.self.now ≡ codes_of es = sym c.self.view_is in
    let i : key.items ≡ c.args.code.now = c.in_ok-extend_from_slice.ensures.items ∙ ap (λ (xs : List ℕ). xs ++ c.args.code.now) c.new-key.ensures.items in
    let e : c.insert.new.self.entries ≡ insert_entry (λ (x y : Vec ℕ Global). bytes_eq x.items y.items) es key tt = c.in_ok-insert.ensures.entries in
    let absent : is_known c.args.code.now c.args.self.now ≡ false = sym (known-by-place (bytes_eq c.args.code.now) c.args.self.now) ∙ ap is_some c.requires in
    let none : is_known key.items (codes_of es) ≡ false = (λ j. is_known (i j) (sym v j)) ∙ absent in
    ap codes_of e ∙ insert-codes es key (λ (x y : Vec ℕ Global). bytes_eq x.items y.items) (λ x. refl) none
    ∙ (λ j. sym v j ++ i j ∷ [])
