use Rattle.std.specs.Str.{bytes_eq}
use Rattle.std.proofs.Common.{◌≡◌, ◌∙◌, sym, ap}
use Rattle.ae_fields.specs.Scopes.{place, names_of}
use Rattle.ae_fields.proofs.ScopeLemmas.{position-names}
use Rattle.ae_fields.proofs.scopes.Scope.find.Goals as goal

pub returns : goal.returns
returns c =
    let v : c.args.self.now ≡ names_of c.self.inside.names.entries = sym c.self.view_is in
    c.get_index_of.ensures.index ∙ position-names (bytes_eq c.args.name.now) c.self.inside.names.entries ∙ ap (place c.args.name.now) (sym v)
