use Rattle.std.proofs.lemmas.Str.{IsUtf8-from_ascii}
use Rattle.ae_fields.proofs.NameLemmas.{name-bytes, name-bytes-ascii}
use Rattle.ae_fields.proofs.names.name_text.Goals as goal

pub unreachable-requires : goal.unreachable-requires
unreachable-requires c = c.in-Err.ensures.cases.0 (IsUtf8-from_ascii _ (name-bytes-ascii _ (name-bytes c.args.name.now c.requires)))
