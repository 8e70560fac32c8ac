use Rattle.std.specs.Str.{bytes_eq}
use Rattle.std.proofs.Common.{◌≡◌, ◌∙◌, sym, ap}
use Rattle.ae_vcd.specs.Codes.{place, codes_of}
use Rattle.ae_vcd.proofs.CodeTable.{position-codes}
use Rattle.ae_vcd.proofs.codes.Codes.find.Goals as goal

pub returns : goal.returns
returns c =
    let v : c.args.self.now ≡ codes_of c.self.inside.numbers.entries = sym c.self.view_is in
    c.get_index_of.ensures.index ∙ position-codes (bytes_eq c.args.code.now) c.self.inside.numbers.entries ∙ ap (place c.args.code.now) (sym v)
