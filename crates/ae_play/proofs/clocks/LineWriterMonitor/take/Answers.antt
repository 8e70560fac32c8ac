use Rattle.std.proofs.Common.{◌++◌, map, ap, ◌∙◌}
use Rattle.std.specs.Prelude.{string_bytes}
use Rattle.ae_sttype.specs.StTree.{st_tree}
use Rattle.ae_play.specs.Lines.{mark}
use Rattle.ae_play.proofs.WordLines.{line_is}
use Rattle.ae_play.proofs.clocks.LineWriterMonitor.take.Goals as goal

pub returns-clause-takes : goal.returns-clause-takes
returns-clause-takes c =
    let m = c.args.self.now in
    line_is c.args.clock (map (mark m.slowdown m.latency c.args.clock) (map st_tree m.outs.now)) c.args.words.now
    (string_bytes c.args.out.now) (string_bytes c.push_str.new.self) (string_bytes c.push_str-2.new.self) (string_bytes c.write_marks.new.out)
    (string_bytes c.write_words.new.out) (string_bytes c.push_str-3.new.self)
    (c.in_ok-push_str.ensures.bytes ∙ ap (λ x. string_bytes c.args.out.now ++ x) c.format.ensures.text)
    c.in_ok-push_str-2.ensures.bytes
    c.in_ok-write_marks.ensures
    c.in_ok-write_words.ensures
    c.in_ok-push_str-3.ensures.bytes
