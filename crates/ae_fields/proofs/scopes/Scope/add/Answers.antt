use Rattle.std.specs.Str.{bytes_eq}
use Rattle.std.proofs.Common.{◌≡◌, ◌∙◌, sym, ap, is_some, not, true, false, refl, List, ℕ, ◌∷◌, [], ◌++◌, if◌then◌else◌}
use Rattle.ae_fields.specs.Scopes.{is_known, names_of}
use Rattle.ae_fields.proofs.ScopeLemmas.{Entry, known-by-place, insert-names}
use Rattle.std.proofs.Common.{Vec}
use Rattle.std.specs.declared.alloc.Global.{Global}
use Rattle.indexmap.specs.IndexMap.{insert_entry}
use Rattle.ae_fields.proofs.scopes.Scope.add.Goals as goal

known : (c : goal.Then-is_some) → is_known c.args.name.now c.args.self.now ≡ true
known c = sym (known-by-place (bytes_eq c.args.name.now) c.args.self.now) ∙ sym (ap is_some c.find.ensures) ∙ sym c.is_some.ensures ∙ c.if-is_some.true

pub returns-then-is_some-clause-added : goal.returns-then-is_some-clause-added
returns-then-is_some-clause-added c = sym (ap not (known c))

pub returns-then-is_some-clause-names : goal.returns-then-is_some-clause-names
returns-then-is_some-clause-names c = sym (ap (λ b. if b then c.args.self.now else c.args.self.now ++ c.args.name.now ∷ []) (known c))

new : (c : goal.In_ok-insert) → is_known c.args.name.now c.args.self.now ≡ false
new c = sym (known-by-place (bytes_eq c.args.name.now) c.args.self.now) ∙ sym (ap is_some c.find.ensures) ∙ sym c.is_some.ensures ∙ c.if-is_some.false

pub returns-clause-added : goal.returns-clause-added
returns-clause-added c = sym (ap not (new c))

pub returns-clause-names : goal.returns-clause-names
returns-clause-names c =
    let es : List Entry = c.self.inside.names.entries in
    let key : Vec ℕ Global = c.extend_from_slice.new.self in
    let v : c.args.self.now ≡ names_of es = sym c.self.view_is in
    let i : key.items ≡ c.args.name.now = c.in_ok-extend_from_slice.ensures.items ∙ ap (λ (xs : List ℕ). xs ++ c.args.name.now) c.new-key.ensures.items in
    let e : c.insert.new.self.entries ≡ insert_entry (λ (x y : Vec ℕ Global). bytes_eq x.items y.items) es key tt = c.in_ok-insert.ensures.entries in
    let none : is_known key.items (names_of es) ≡ false = (λ j. is_known (i j) (sym v j)) ∙ new c in
    ap names_of e ∙ insert-names es key (λ (x y : Vec ℕ Global). bytes_eq x.items y.items) (λ x. refl) none
    ∙ (λ j. sym v j ++ i j ∷ []) ∙ ap (λ b. if b then c.args.self.now else c.args.self.now ++ c.args.name.now ∷ []) (sym (new c))
