use Rattle.std.proofs.Common.{◌≡◌, ℕ, ◌+◌, ◌<◌, false, if◌then◌else◌, List, ◌∷◌, Option, Some, None, Result, Ok, Err, IfOk, IfSome, IsTrue, option_map, length, sym, ap, ◌∙◌, arith}
use Rattle.ae_seq.specs.ProgramTree.{program_tree}
use Rattle.ae_seq.specs.Formed.{formed}
use Rattle.ae_seq.specs.declared.program.Program.{Program}
use Rattle.ae_fields.specs.Cut.{lines, fields, said}
use Rattle.ae_fields.specs.Parts.{is_mark}
use Rattle.ae_fields.specs.Grammar.{State, at_end, program, after_line, by_state, reading, reading_from}
use Rattle.ae_parse.specs.StateView.{state_of, part_of}
use Rattle.ae_parse.specs.declared.parser.Part.{Part as PartCode}
use Rattle.ae_parse.specs.declared.program_text.ParseFault.{ParseFault}
use Rattle.ae_parse.proofs.Soundness.{Sound, few-names, few-items, whole-formed, line-sound}
use Rattle.ae_parse.proofs.program_text.parse.Goals as goal

ok-formed : (r : Result Program ParseFault) (n : ℕ) (s : State) → Sound n s → IfOk r (λ p. at_end n s ≡ program (program_tree p))
    → IfOk r (λ p. IsTrue (formed (program_tree p)))
ok-formed (Ok p) n s h e = whole-formed n s (program_tree p) h e
ok-formed (Err f) n s h e = tt

part-few : (o : Option PartCode) → IfSome (option_map part_of o) (λ p. length p.items < 4294967296) → IfSome o (λ p. length p.items < 4294967296)
part-few None h = tt
part-few (Some p) h = h

pub returns-then-is_mark-clause-formed : goal.returns-then-is_mark-clause-formed
returns-then-is_mark-clause-formed c =
    ok-formed c.finished.result c.loop-line.number (state_of c.loop-line.parser) c.loop-line.invariant.sound c.finished.ensures.program

pub returns-clause-formed : goal.returns-clause-formed
returns-clause-formed c =
    ok-formed c.finished-2.result c.loop-line.number (state_of c.loop-line.parser) c.loop-line.invariant.sound c.finished-2.ensures.program

pub after_line-requires-clause-few_names : goal.after_line-requires-clause-few_names
after_line-requires-clause-few_names c = few-names c.loop-line.number (state_of c.loop-line.parser) c.loop-line.invariant.sound

pub after_line-requires-clause-few_items : goal.after_line-requires-clause-few_items
after_line-requires-clause-few_items c =
    part-few c.loop-line.parser.part (few-items c.loop-line.number (state_of c.loop-line.parser) c.loop-line.invariant.sound)

read-more : (text line rest after : List ℕ) (n : ℕ) (s t : State) → reading_from (lines rest) n s ≡ reading text → lines rest ≡ line ∷ lines after
    → is_mark (fields (said line)) ≡ false
    → after_line n s (said line) ≡ Some t → reading_from (lines after) (n + 1) t ≡ reading text
read-more text line rest after n s t so cut other e =
    sym (ap (λ ls. reading_from ls n s) cut ∙ ap (λ b. if b then at_end n s else by_state n (after_line n s (said line)) (reading_from (lines after) (n + 1)))
    other
    ∙ ap (λ o. by_state n o (reading_from (lines after) (n + 1))) e) ∙ so

pub loop-line-preserved : goal.loop-line-preserved
loop-line-preserved c =
    let n = c.loop-line.number in
    let s = state_of c.loop-line.parser in
    let e : after_line n s (said c.in-Some.line.now) ≡ Some (state_of c.in-Some-2.next) = ap (after_line n s) (sym c.said.ensures) ∙ sym c.in_ok-next.ensures ∙
    ap (option_map state_of) c.in-Some-2.is in
    record {
      read = read-more c.args.text.now c.in-Some.line.now c.loop-line.rest.now c.in-Some.after.now n s
          (state_of c.in-Some-2.next) c.loop-line.invariant.read c.in-Some.ensures.cases
          (sym c.is_mark.ensures ∙ c.if-is_mark.false) e;
      fits = omega (arith, c.in-Some.ensures.shorter, c.loop-line.invariant.fits);
      sound = line-sound n s (state_of c.in-Some-2.next) (said c.in-Some.line.now) c.loop-line.invariant.sound e;
    }
