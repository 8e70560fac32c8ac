use Rattle.std.proofs.Common.{◌+◌, ◌++◌, [], ◌∷◌, drop, get_or, sym, ap, ◌∙◌, arith, append_assoc, append-nil}
use Rattle.std.specs.Str.Parse.{digits_value}
use Rattle.ae_fields.specs.Cut.{fields}
use Rattle.ae_fields.specs.Rows.{is_right, row_words, wrong_column}
use Rattle.ae_fields.proofs.RowLemmas.{column-without-field, field-without-column, no-column-left, read-right, read-value, read-wrong, right-column, wrong-column}
use Rattle.ae_fields.proofs.rows.read_row.Goals as goal

pub returns-then-column-widths-clause-column : goal.returns-then-column-widths-clause-column
returns-then-column-widths-clause-column c =
    let k = c.loop-field.column in
    let ws = c.args.widths.now in
    sym (field-without-column (k + 1) k ws c.in-Some.field.now (fields c.in-Some.after.now) c.if-column-widths.true)
    ∙ ap (wrong_column (k + 1) (drop k ws)) (sym c.in-Some.ensures.cases)
    ∙ c.loop-field.invariant.wrong

pub word-requires : goal.word-requires
word-requires c = c.requires.small c.loop-field.column 0 c.if-column-widths.false

pub returns-in_default-word-clause-column : goal.returns-in_default-word-clause-column
returns-in_default-word-clause-column c =
    let k = c.loop-field.column in
    let ws = c.args.widths.now in
    let f = c.in-Some.field.now in
    let wrong = read-wrong (is_right (get_or ws k 0) f) (digits_value 10 f) (sym c.in_default-word.is ∙ c.word.ensures) in
    sym (wrong-column (k + 1) k ws f (fields c.in-Some.after.now) c.if-column-widths.false wrong)
    ∙ ap (wrong_column (k + 1) (drop k ws)) (sym c.in-Some.ensures.cases)
    ∙ c.loop-field.invariant.wrong

pub loop-field-smaller : goal.loop-field-smaller
loop-field-smaller c = c.in-Some.ensures.shorter

pub loop-field-preserved : goal.loop-field-preserved
loop-field-preserved c =
    let k = c.loop-field.column in
    let ws = c.args.widths.now in
    let f = c.in-Some.field.now in
    let after = fields c.in-Some.after.now in
    let read = sym c.in-Some-word.is ∙ c.word.ensures in
    let right = read-right (is_right (get_or ws k 0) f) (digits_value 10 f) c.in-Some-word.word read in
    let value = read-value (is_right (get_or ws k 0) f) (digits_value 10 f) c.in-Some-word.word read in
    record {
      within = omega (arith, c.if-column-widths.false);
      wrong = sym (right-column (k + 1) k ws f after c.if-column-widths.false right) ∙ ap (wrong_column (k + 1) (drop k ws)) (sym c.in-Some.ensures.cases)
          ∙ c.loop-field.invariant.wrong;
      read = ap (λ xs. xs ++ row_words after) c.in_ok-push.ensures.items ∙ append_assoc c.loop-field.words.items (c.in-Some-word.word ∷ []) (row_words after)
          ∙ ap (λ w. c.loop-field.words.items ++ w ∷ row_words after) value ∙ ap (λ fs. c.loop-field.words.items ++ row_words fs) (sym c.in-Some.ensures.cases)
          ∙ c.loop-field.invariant.read;
    }

pub returns-then-column-widths-2-clause-column : goal.returns-then-column-widths-2-clause-column
returns-then-column-widths-2-clause-column c =
    let k = c.loop-field.column in
    let ws = c.args.widths.now in
    sym (column-without-field (k + 1) k ws c.if-column-widths-2.true)
    ∙ ap (wrong_column (k + 1) (drop k ws)) (sym c.in_default.ensures.cases)
    ∙ c.loop-field.invariant.wrong

pub returns-else-column-widths-2-clause-column : goal.returns-else-column-widths-2-clause-column
returns-else-column-widths-2-clause-column c =
    let k = c.loop-field.column in
    let ws = c.args.widths.now in
    sym (no-column-left (k + 1) k ws c.if-column-widths-2.false)
    ∙ ap (wrong_column (k + 1) (drop k ws)) (sym c.in_default.ensures.cases)
    ∙ c.loop-field.invariant.wrong

pub returns-else-column-widths-2-clause-words : goal.returns-else-column-widths-2-clause-words
returns-else-column-widths-2-clause-words c =
    sym (append-nil c.loop-field.words.items)
    ∙ ap (λ fs. c.loop-field.words.items ++ row_words fs) (sym c.in_default.ensures.cases)
    ∙ c.loop-field.invariant.read
