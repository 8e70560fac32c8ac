use Rattle.std.proofs.lemmas.Str.{IsUtf8-from_ascii}
use Rattle.ae_vtoken.proofs.Spans.{word_bytes_ascii}
use Rattle.ae_vtoken.proofs.words.name_text.Goals as goal

pub unreachable-requires : goal.unreachable-requires
unreachable-requires c = c.in-Err.ensures.cases.0 (IsUtf8-from_ascii _ (word_bytes_ascii _ c.requires))
