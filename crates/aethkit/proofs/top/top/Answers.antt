use Rattle.std.proofs.Common.{string_bytes}
use Rattle.aethkit.proofs.top.top.Goals as goal

pub returns : goal.returns
returns c = record {
  renamed = string_bytes c.in_ok-text.text;
  build = c.in_ok-text.ensures;
  wrapper = c.as_str.result.now;
  whole = c.in_ok-push_str.ensures.bytes;
}
