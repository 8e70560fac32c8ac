use Rattle.std.proofs.Common.{◌≡◌, ◌*◌, ◌+◌, ◌≤◌, ℕ, List, length, sym, ap, ◌∙◌, subst, arith, Vec}
use Rattle.std.specs.Prelude.{String}
use Rattle.std.specs.declared.alloc.Global.{Global}
use Rattle.ae_vcd.specs.Waves.{WaveTree, bytes_of, size_limit, wave_tree}
use Rattle.ae_vcd.specs.Held.{IsClosed}
use Rattle.ae_vcd.specs.Forms.{variables}
use Rattle.ae_vcd.specs.Readings.{IsVcd, wave_of}
use Rattle.ae_vcd.specs.Reads.{size_of_wave}
use Rattle.ae_vcd.proofs.BodySteps.{time_numbers}
use Rattle.ae_vcd.proofs.Endings.{end_early, end_size, end_vcd, end_wave}
use Rattle.ae_vcd.proofs.read.finish.Goals as goal

pub returns-in_default : goal.returns-in_default
returns-in_default c = λ text s e f is. end_early c.args.reader text s c.args.at e f c.in_default.not-PieceHead is

pub returns-then-size-gt-SIZE_LIMIT : goal.returns-then-size-gt-SIZE_LIMIT
returns-then-size-gt-SIZE_LIMIT c = λ text s e f is.
    let here = c.in-PieceHead.is in
    let n : c.len.result ≡ length c.args.reader.declared.numbers.items = omega (arith, c.len.ensures, c.args.reader.declared.numbers.ok.0) in (
      wave_of (variables s.commands) s.pieces,
      end_vcd c.args.reader text s e f here,
      ap (λ k. c.args.reader.recorded.count * (1 + k)) n ∙
          end_size c.args.reader s f here,
      c.if-size-gt-SIZE_LIMIT.true,
    )

pub close-requires : goal.close-requires
close-requires c = time_numbers c.args.reader c.deref.result.now c.deref.ensures.value c.requires.reader c.in-PieceHead.is

pub returns-in-Ok : goal.returns-in-Ok
returns-in-Ok c = λ text s e f is.
    let here = c.in-PieceHead.is in
    let n : c.len.result ≡ length c.args.reader.declared.numbers.items = omega (arith, c.len.ensures, c.args.reader.declared.numbers.ok.0) in
    let small : c.args.reader.recorded.count * (1 + length c.args.reader.declared.numbers.items) ≤ size_limit = subst
    (λ k. c.args.reader.recorded.count * (1 + k) ≤ size_limit) n c.if-size-gt-SIZE_LIMIT.false in
    let closed : IsClosed c.args.reader.recorded c.close.new.self c.args.reader.declared.numbers.items = subst
    (λ (l : List ℕ). IsClosed c.args.reader.recorded c.close.new.self l) c.deref.ensures.value c.in-Ok.ensures in
    let w : WaveTree = wave_tree c.wave_of.result in
    let q : w ≡ wave_of (variables s.commands) s.pieces = end_wave c.args.reader s c.close.new.self (wave_tree c.wave_of.result) f here closed small
    (ap (λ (v : Vec (String Global) Global). bytes_of v.items) c.wave_of.ensures.names) (ap (λ (v : Vec ℕ Global). v.items) c.wave_of.ensures.widths)
    (ap (λ (v : Vec ℕ Global). v.items) c.wave_of.ensures.times) (ap (λ (v : Vec ℕ Global). v.items) c.wave_of.ensures.words) in (
      subst (λ (w : WaveTree). IsVcd text w) (sym q) (end_vcd c.args.reader text s e f here),
      subst (λ k. k ≤ size_limit) (end_size c.args.reader s f here ∙ ap size_of_wave (sym q)) small,
    )
