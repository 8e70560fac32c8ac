-- What a reading ends in.
use Rattle.std.proofs.Common.{◌≡◌, ℕ, ◌+◌, ◌*◌, ◌<◌, ◌≤◌, true, false, ◌&&◌, List, [], ◌∷◌, ◌++◌, length, length-append, Option, Some, None, is_some, if◌then◌else◌, refl, sym, ap, ◌∙◌, subst}
use Rattle.std.specs.List.{flat_map}
use Rattle.std.proofs.lemmas.List.{length-map}
use Rattle.ae_vcd.specs.declared.expected.Expected.TheVariants.{PieceHead}
use Rattle.ae_vcd.specs.declared.body.Recorded.{Recorded}
use Rattle.ae_vcd.specs.declared.reader.Reader.{Reader}
use Rattle.std.specs.Prelude.{IfOk, Result, Ok, Err}
use Rattle.ae_vcd.specs.Waves.{IsFormedWave, WaveTree, bytes_of, size_limit, wave_size, wave_tree}
use Rattle.ae_vcd.specs.TextWords.{text_words}
use Rattle.ae_vcd.specs.Forms.{Variable, variables}
use Rattle.ae_vcd.specs.Machine.{Between, Body, Code, Inside, Kind, Last, Mode, Name, Remark, State, Value, Width, at, go_on, is_done, start, time_of}
use Rattle.ae_vcd.specs.Readings.{IsBadWord, IsVcd, times_from, wave_of, words_at_time}
use Rattle.ae_vcd.specs.Rows.{words_now}
use Rattle.ae_vcd.specs.Reads.{EndsIn, size_of_wave}
use Rattle.ae_vcd.specs.declared.read.VcdFault.{VcdFault}
use Rattle.ae_vcd.specs.declared.read.VcdFault.TheVariants.{BadWord, Large}
use Rattle.ae_vcd.specs.declared.wave.Wave.{Wave}
use Rattle.ae_vcd.proofs.Sized.{wave_formed}
use Rattle.ae_vcd.specs.Held.{Follows, IsClosed, Keeps, expected_in, is_small, row}
use Rattle.ae_vcd.proofs.Sound.{read_dump}
use Rattle.ae_vcd.proofs.Viable.{bad_end}
use Rattle.ae_vcd.proofs.Meant.{quiet_times}
use Rattle.ae_vcd.proofs.Rows.{rows_end}
use Rattle.ae_vcd.proofs.Bodies.{present}
use Rattle.ae_vcd.proofs.Times.{small_true}
use Rattle.ae_vcd.proofs.BodySteps.{InBody, in_body}
use Rattle.ae_vcd.proofs.Steps.{body_place}

not_done : (mode : Mode) → (expected_in mode ≡ PieceHead → ⊥) → is_done mode ≡ false
not_done Between h = refl
not_done Kind h = refl
not_done (Width kind) h = refl
not_done (Code kind digits) h = refl
not_done (Name kind digits code) h = refl
not_done (Inside begun) h = refl
not_done Last h = refl
not_done Body h = absurd (h refl)
not_done (Value letter digits) h = refl
not_done (Remark begun) h = refl

-- the text ends too early
pub end_early : (r : Reader) (text : List ℕ) (s : State) (at : ℕ) → go_on (Some start) (text_words text) ≡ Some s → Follows r s → (r.expected ≡ PieceHead → ⊥)
    → at ≡ length (text_words text) → IsBadWord (text_words text) at
end_early r text s at e f off is =
    subst (λ k. IsBadWord (text_words text) k) (sym is) (bad_end (text_words text) s e (not_done s.mode (λ q. off (f.expected ∙ q))))

-- the text is a dump
pub end_vcd : (r : Reader) (text : List ℕ) (s : State) → go_on (Some start) (text_words text) ≡ Some s → Follows r s → r.expected ≡ PieceHead
    → IsVcd text (wave_of (variables s.commands) s.pieces)
end_vcd r text s e f here =
    let m : s.mode ≡ Body = body_place (λ mode. mode ≡ Body) s.mode (sym f.expected ∙ here) refl in
    let d = read_dump (text_words text) s.commands s.pieces (e ∙ ap (λ mode. Some (at s.commands s.pieces mode)) m) in
    record { dump = d.0; wave = λ i. wave_of (variables (sym d.1 i)) (sym d.2 i) }

-- its size
pub end_size : (r : Reader) (s : State) → Follows r s → r.expected ≡ PieceHead
    → r.recorded.count * (1 + length r.declared.numbers.items) ≡ size_of_wave (wave_of (variables s.commands) s.pieces)
end_size r s f here =
    let i = in_body r s f here in
    λ j. i.records.times.count j * (1 + (i.declares.table.many ∙ sym (length-map (variables s.commands) (λ (v : Variable). v.name))) j)

-- its wave, where the size is within the limit
pub end_wave : (r : Reader) (s : State) (closed : Recorded) (w : WaveTree) → Follows r s → r.expected ≡ PieceHead
    → IsClosed r.recorded closed r.declared.numbers.items → r.recorded.count * (1 + length r.declared.numbers.items) ≤ size_limit
    → w.names ≡ bytes_of r.declared.names.items → w.widths ≡ r.declared.widths.items → w.times ≡ closed.times.items → w.words ≡ closed.words.items
    → w ≡ wave_of (variables s.commands) s.pieces
end_wave r s closed w f here c small names widths times words =
    let i = in_body r s f here in
    let vs : List Variable = variables s.commands in
    let shown : row r.recorded.latest.items r.declared.numbers.items ≡ words_now
    (variables s.commands) s.pieces = present r.declared.codes r.declared.code_widths.items r.declared.numbers.items r.recorded.latest.items
    (variables s.commands) s.pieces i.declares.table i.records.now in
    let k = kept (time_of None s.pieces) i.records.times.last i.records.times.kept i shown in
    λ j. record {
      names = (names ∙ i.declares.names) j;
      widths = (widths ∙ i.declares.widths) j;
      times = (times ∙ (c.times ∙ k.0)) j;
      words = (words ∙ (c.words ∙ k.1)) j;
    }
  where
    kept : (o : Option ℕ) → r.recorded.last ≡ o → Keeps o r.recorded (variables s.commands) s.pieces → InBody r s
        → row r.recorded.latest.items r.declared.numbers.items ≡ words_now (variables s.commands) s.pieces
        → (r.recorded.times.items ≡ times_from None s.pieces)
        × ((if is_some r.recorded.last && is_small r.recorded.count (length r.declared.numbers.items) then r.recorded.words.items
        ++ row r.recorded.latest.items r.declared.numbers.items else r.recorded.words.items) ≡ flat_map (words_at_time (variables s.commands) s.pieces)
        (times_from None s.pieces))
    kept None e k i shown =
        let none : times_from None s.pieces ≡ [] = quiet_times None s.pieces k.0 in (
          k.1 ∙ sym none,
          ap (λ o. if is_some o && is_small r.recorded.count (length r.declared.numbers.items) then r.recorded.words.items
              ++ row r.recorded.latest.items r.declared.numbers.items else r.recorded.words.items) e
              ∙ (k.2 ∙ ap (flat_map (words_at_time (variables s.commands) s.pieces)) (sym none)),
        )
    kept (Some last) e k i shown =
        let long : length (k.0 ++ last ∷ []) ≡ length k.0 + 1 = length-append k.0 (last ∷ []) in
        let count : r.recorded.count ≡ length k.0 + 1 = i.records.times.count ∙ (ap (λ (l : List ℕ). length l) k.2.times ∙ long) in
        let fits : wave_size (length k.0 + 1) (length (variables s.commands)) ≤ size_limit = subst (λ n. n ≤ size_limit)
        (λ j. count j * (1 + i.declares.table.many j)) small in
        let g = k.3 fits in
        let size : is_small r.recorded.count (length r.declared.numbers.items) ≡ true = small_true r.recorded.count (length r.declared.numbers.items) small in (
          g.0 ∙ sym k.2.times,
          ap (λ o. if is_some o && is_small r.recorded.count (length r.declared.numbers.items) then r.recorded.words.items
              ++ row r.recorded.latest.items r.declared.numbers.items else r.recorded.words.items) e
              ∙ (ap (λ b. if b then r.recorded.words.items ++ row r.recorded.latest.items r.declared.numbers.items else r.recorded.words.items) size
              ∙ ((λ j. g.1 j ++ shown j) ∙ sym (rows_end (variables s.commands) s.pieces k.0 last k.1 k.2))),
        )

-- ---- what is told of it

pub ends_wave : (text : List ℕ) (r : Result Wave VcdFault) → EndsIn text r → IfOk r (λ w. IsVcd text (wave_tree w) × IsFormedWave (wave_tree w))
ends_wave text (Ok w) h = (h.0, wave_formed text (wave_tree w) h.0 h.1)
ends_wave text (Err f) h = tt

pub ends_bad : (text : List ℕ) (r : Result Wave VcdFault) → EndsIn text r → (at : ℕ) → r ≡ Err (BadWord at) → IsBadWord (text_words text) at
ends_bad text r h at e = subst (λ (x : Result Wave VcdFault). EndsIn text x) e h

pub ends_large : (text : List ℕ) (r : Result Wave VcdFault) → EndsIn text r → (size : ℕ) → r ≡ Err (Large size) → (w : WaveTree) × IsVcd text w
    × (size ≡ size_of_wave w) × (size_limit < size)
ends_large text r h size e = subst (λ (x : Result Wave VcdFault). EndsIn text x) e h
