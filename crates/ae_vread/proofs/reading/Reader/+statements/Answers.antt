use Rattle.std.proofs.Common.{◌≡◌, ◌+◌, ◌-◌, [], ◌∷◌, ◌++◌, Some, refl, sym, ap, ◌∙◌, arith, length, length-append, max}
use Rattle.std.specs.Prelude.{slice_get, option_map}
use Rattle.ae_vtoken.specs.Ahead.{ahead}
use Rattle.ae_vtoken.specs.Tokens.{Word}
use Rattle.ae_vtoken.specs.Scan.{token_view}
use Rattle.ae_vtoken.specs.declared.token.Key.TheVariants.{If, Else, End}
use Rattle.ae_vmodule.specs.ModuleTree as m
use Rattle.ae_vmodule.specs.Numbered as n
use Rattle.ae_vmodule.specs.Held.{held}
use Rattle.ae_vmodule.specs.Stacks.{codes}
use Rattle.ae_vread.specs.TokenTests.{after_word}
use Rattle.ae_vread.specs.StmtReading.{stmt_found, body, body_of, block_of, statement, statement_at, test_then}
use Rattle.ae_vread.specs.ReadStmt.{block_parts}
use Rattle.ae_vread.proofs.Meanings.{no_more, extends_by, extends_same, extends_to}
use Rattle.ae_vread.proofs.ExprSteps.{means_later}
use Rattle.ae_vread.proofs.StmtParts.{pushed_last}
use Rattle.ae_vread.proofs.StmtSteps.{reads_from, reads_under, stmt_means_later, statement_is, if_is, with_else_is, alone_is, next_stmt, last_stmt, block_is, block_means, mean_more_stmts}
use Rattle.ae_vread.proofs.reading.Reader.+statements.Goals as goal

pub statement-returns-clause-read : goal.statement-returns-clause-read
statement-returns-clause-read t c =
    reads_from _ _ _ c.statement_at.new.self c.statement_at.result _ _ (statement_is c.args.budget _ c.if-budget-eq0.false) (no_more _)
    c.statement_at.ensures.read

pub statement_at-returns-in_ok-test-in-Some-Word-If-clause-read : goal.statement_at-returns-in_ok-test-in-Some-Word-If-clause-read
statement_at-returns-in_ok-test-in-Some-Word-If-clause-read t c =
    let ts = ahead c.args.self.now.tokens in
    let k = c.in-Some-Word-If in
    let step = c.skip.ensures in
    let first : slice_get ts 0 ≡ Some (Word If) = sym c.first.ensures ∙ ap (option_map token_view) k.is
    ∙ ap (λ x. Some (token_view x)) k.field-0-is ∙ ap (λ x. Some (Word x)) k.field-0-0-is in
    let x = c.in_ok-test-in-Some-Word-If.ensures.read in
    let to_x = extends_same _ _ _ x.3 (sym step.words) in
    reads_from _ _ _ c.choice_from.new.self c.choice_from.result _ _
    (if_is (statement c.args.budget) ts x.0 first (ap test_then (sym step.tokens) ∙ x.1)) to_x
    (reads_under _ _ _ c.choice_from.new.self c.choice_from.result _ (ap held step.stack) (c.choice_from.ensures.read x.0 _ x.2))

pub choice_from-returns-then-word-clause-read : goal.choice_from-returns-then-word-clause-read
choice_from-returns-then-word-clause-read t c x below h =
    let y = c.in_ok-first.ensures.read in
    let step = c.word.ensures in
    let z = c.in_ok-second.ensures.read in
    let to_z = extends_same _ _ _ z.3 (sym step.words) in
    reads_from _ _ _ c.either.new.self c.either.result _ _
    (with_else_is (statement c.args.budget) x y.0 z.0 _ (ap (statement c.args.budget) (sym h.rest) ∙ y.1)
    (ap (after_word Else) (sym y.2.rest) ∙ step.there c.if-word.true) z.1)
    (extends_by _ _ _ y.3 to_z)
    (c.either.ensures.read x y.0 z.0 below (record {
      test = h.top;
      then = y.2.top;
      otherwise = z.2.top;
      pieces = z.2.pieces ∙ ap (λ ps. n.stmt z.2.top ∷ ps) (ap held step.stack ∙ y.2.pieces ∙ ap (λ ps. n.stmt y.2.top ∷ ps) h.pieces);
      means_x = means_later _ _ h.top x.tree (extends_by _ _ _ y.3 to_z) h.means;
      means_y = stmt_means_later _ _ y.2.top y.0.tree to_z y.2.means;
      means_z = z.2.means;
      is_x = h.deep;
      is_y = y.2.deep;
      is_z = z.2.deep;
      rest = z.2.rest;
    }))

pub choice_from-returns-clause-read : goal.choice_from-returns-clause-read
choice_from-returns-clause-read t c x below h =
    let y = c.in_ok-first.ensures.read in
    let step = c.word.ensures in
    let words = step.words in
    let to_y = extends_to _ _ _ y.3 words in
    reads_from _ _ _ c.alone.new.self c.alone.result _ _
    (alone_is (statement c.args.budget) x y.0 (ap (statement c.args.budget) (sym h.rest) ∙ y.1)
    (ap (after_word Else) (sym y.2.rest) ∙ step.none c.if-word.false))
    to_y
    (c.alone.ensures.read x y.0 below (record {
      test = h.top;
      then = y.2.top;
      pieces = ap held step.stack ∙ y.2.pieces ∙ ap (λ ps. n.stmt y.2.top ∷ ps) h.pieces;
      means_x = means_later _ _ h.top x.tree to_y h.means;
      means_y = λ ws g. y.2.means ws (extends_same _ _ ws g (sym words));
      is_x = h.deep;
      is_y = y.2.deep;
      rest = ap ahead (step.tokens c.if-word.false) ∙ y.2.rest;
    }))

pub block-next-init : goal.block-next-init
block-next-init t c =
    let ts = ahead c.args.self.now.tokens in (
      body_of [] 0 ts,
      record { stmts = []; many = refl; pieces = refl; means = λ ws g. refl; deep = refl; rest = refl },
      no_more _,
      ap (λ k. body (statement c.args.budget) k (body_of [] 0 ts)) (let e : length ts ≡ length ts - 0 = omega arith in e),
      omega arith,
      omega arith,
    )

pub block-next-preserved : goal.block-next-preserved
block-next-preserved t c =
    let b = c.next.invariant in
    let step = c.word.ensures in
    let x = c.in_ok-next.ensures.read in
    let read = statement c.args.budget in
    let to_x = extends_same _ _ _ x.3 (sym step.words) in
    let mean = mean_more_stmts _ _ b.1.stmts b.0.trees x.2.top x.0.tree to_x b.1.means x.2.means in (
      body_of (b.0.trees ++ x.0.tree ∷ []) (max b.0.depth x.0.depth) x.0.rest,
      record {
        stmts = b.1.stmts ++ x.2.top ∷ [];
        many = omega (arith, length-append b.1.stmts (x.2.top ∷ []), b.1.many);
        pieces = x.2.pieces ∙ ap (λ ps. n.stmt x.2.top ∷ ps) (ap held step.stack ∙ b.1.pieces)
            ∙ sym (pushed_last b.1.stmts x.2.top (held c.args.self.now.stack));
        means = mean;
        deep = c.max-depth.ensures ∙ (λ i. max (b.1.deep i) (x.2.deep i));
        rest = x.2.rest;
      },
      extends_by _ _ _ b.2 to_x,
      next_stmt _ read _ c.next.turn b.0 x.0 (omega (arith, c.next-test.true, c.len-turn-end.ensures)) b.3
          (ap (after_word End) (sym b.1.rest) ∙ step.none c.if-word.false) (ap read (sym b.1.rest ∙ sym (ap ahead (step.tokens c.if-word.false))) ∙ x.1),
      omega (arith, b.4, c.in_ok-next.ensures.few, ap (λ s. length (codes (held s))) step.stack, ap (λ ts. length (ahead ts)) (step.tokens c.if-word.false)),
      omega (arith, b.5),
    )

pub block-returns-then-word-clause-read : goal.block-returns-then-word-clause-read
block-returns-then-word-clause-read t c =
    let b = c.next.invariant in
    let step = c.word.ensures in
    let below = held c.args.self.now.stack in
    let read = statement c.args.budget in
    let words = c.in_ok-join_stmts.ensures.words ∙ step.words in
    let all = last_stmt _ read _ c.next.turn b.0 _ (omega (arith, c.next-test.true, c.len-turn-end.ensures)) b.3
    (ap (after_word End) (sym b.1.rest) ∙ step.there c.if-word.true) in (
      stmt_found (block_of b.0.trees) c.in_ok-depth.depth (ahead c.word.new.self.tokens),
      block_is read (ahead c.args.self.now.tokens) _ c.next.depth c.in_ok-depth.depth all b.1.deep c.in_ok-depth.ensures,
      record {
        top = block_parts b.1.stmts;
        pieces = c.in_ok-join_stmts.ensures.pieces b.1.stmts below b.1.many (ap held step.stack ∙ b.1.pieces);
        means = λ ws g. block_means _ b.1.stmts b.0.trees b.1.means ws (extends_same _ _ ws g (sym words));
        deep = refl;
        rest = ap ahead c.in_ok-join_stmts.ensures.tokens;
      },
      extends_to _ _ _ b.2 words,
    )
