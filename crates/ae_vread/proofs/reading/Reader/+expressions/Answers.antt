use Rattle.std.proofs.Common.{drop, ◌≡◌, ◌+◌, ◌-◌, [], ◌∷◌, ◌++◌, Some, refl, sym, ap, ◌∙◌, arith, length, length-append, max}
use Rattle.std.proofs.lemmas.Result.{err_from_is_err_and}
use Rattle.ae_vtoken.specs.Ahead.{ahead}
use Rattle.ae_vtoken.specs.declared.token.Sign.TheVariants.{CloseBrace, Colon, Comma, Question, Open, Tilde}
use Rattle.ae_vmodule.specs.ModuleTree as m
use Rattle.ae_vmodule.specs.Numbered as n
use Rattle.std.specs.Prelude.{slice_get, option_map}
use Rattle.ae_vtoken.specs.Tokens.{Sized, Mark}
use Rattle.ae_vtoken.specs.Scan.{token_view}
use Rattle.ae_vmodule.specs.Stacks.{codes}
use Rattle.ae_vmodule.specs.Held.{held}
use Rattle.ae_vread.specs.TokenTests.{after_mark}
use Rattle.ae_vread.specs.Reading.{found, parts, parts_of, concat_of, expression, infix_at, named}
use Rattle.ae_vread.specs.Parts.{concat_parts}
use Rattle.ae_vread.proofs.Meanings.{no_more, extends_by, extends_same, extends_to, named_kept, named_later}
use Rattle.ae_vread.proofs.PartLaws.{pushed_last}
use Rattle.ae_vread.proofs.ExprSteps.{reads_from, reads_under, weak, means_later, selected_is, constant_is, paren_is, not_is, flip_is, chosen_is, expression_is, next_turn, failed_turn, failed_join, last_turn, with, next_part, last_part, braces_are, braces_fail, concat_means, mean_more}
use Rattle.ae_vread.proofs.reading.Reader.+expressions.Goals as goal

pub expression-returns-clause-read : goal.expression-returns-clause-read
expression-returns-clause-read t c =
    let h = c.in_ok-depth.ensures.read in
    reads_from _ _ _ c.chosen.new.self c.chosen.result _ _ (expression_is c.args.budget c.args.least _ h.0 c.if-budget-eq0.false h.1) h.3
    (c.chosen.ensures.read h.0 _ h.2)

pub chosen-returns-clause-read : goal.chosen-returns-clause-read
chosen-returns-clause-read t c x below h =
    let old = c.args.self.now in
    let question = c.mark.ensures in
    let y = c.in_ok-first.ensures.read in
    let colon = c.in_ok-want_mark.ensures in
    let z = c.in_ok-second.ensures.read in
    let to_y = extends_same _ _ _ y.3 (sym question.words) in
    let to_z = extends_same _ _ _ z.3 (sym colon.words) in
    let is = chosen_is (expression c.args.budget) c.args.least x y.0 z.0 _ _ (weak c.args.least c.if-least-gt1.false)
    (ap (after_mark Question) (sym h.rest) ∙ question.there c.if-not-mark.false)
    y.1 (ap (after_mark Colon) (sym y.2.rest) ∙ colon.read) z.1 in
    reads_from below old.words _ c.choose.new.self c.choose.result _ _ is (extends_by _ _ _ to_y to_z)
    (c.choose.ensures.read x y.0 z.0 below (record {
      test = h.top;
      first = y.2.top;
      second = z.2.top;
      pieces = z.2.pieces ∙ ap (λ ps. n.expr z.2.top ∷ ps) (ap held colon.stack ∙ y.2.pieces
          ∙ ap (λ ps. n.expr y.2.top ∷ ps) (ap held question.stack ∙ h.pieces));
      means_x = means_later _ _ h.top x.tree (extends_by _ _ _ to_y to_z) h.means;
      means_y = means_later _ _ y.2.top y.0.tree to_z y.2.means;
      means_z = z.2.means;
      is_x = h.deep;
      is_y = y.2.deep;
      is_z = z.2.deep;
      rest = z.2.rest;
    }))

-- the right side is none
pub joined_at-returns-in_err-right-clause-read : goal.joined_at-returns-in_err-right-clause-read
joined_at-returns-in_err-right-clause-read t c =
    let exit = err_from_is_err_and c.from_residual-in_err-right.result c.from_residual-in_err-right.ensures.1 in
    let so_far = c.turn.invariant in
    rw (exit.1, exit.2)
    (failed_turn c.in_err-right.field-0.0 _ (expression c.args.budget) c.turn.turn c.args.least so_far.0 c.in-Some.op c.above.result
    (ahead c.infix.new.self.tokens) c.turn-test.true c.above.ensures so_far.3 (ap (infix_at c.args.least) (sym so_far.1.rest) ∙ c.in-Some.ensures.there)
    c.in_err-right.ensures.read)

-- both sides are too deep
pub joined_at-returns-in_err-depth-2-clause-read : goal.joined_at-returns-in_err-depth-2-clause-read
joined_at-returns-in_err-depth-2-clause-read t c =
    let exit = err_from_is_err_and c.from_residual-in_err-depth-2.result c.from_residual-in_err-depth-2.ensures.1 in
    let so_far = c.turn.invariant in
    let y = c.in_ok-right.ensures.read in
    let to_y = extends_same _ _ _ y.3 (sym c.infix.ensures.words) in
    rw (exit.1, exit.2)
    (failed_join c.in_err-depth-2.field-0.0 _ (expression c.args.budget) c.turn.turn c.args.least so_far.0 y.0 c.in-Some.op c.above.result
    (ahead c.infix.new.self.tokens) c.turn-test.true c.above.ensures so_far.3 (ap (infix_at c.args.least) (sym so_far.1.rest) ∙ c.in-Some.ensures.there)
    y.1 (c.in_err-depth-2.ensures.read so_far.0 y.0 _ (record {
      first = so_far.1.top;
      second = y.2.top;
      pieces = y.2.pieces ∙ ap (λ ps. n.expr y.2.top ∷ ps) (ap held c.infix.ensures.stack ∙ so_far.1.pieces);
      means_x = means_later _ _ so_far.1.top so_far.0.tree to_y so_far.1.means;
      means_y = y.2.means;
      is_x = so_far.1.deep;
      is_y = y.2.deep;
      rest = y.2.rest;
    })))

-- one operator more
pub joined_at-turn-preserved : goal.joined_at-turn-preserved
joined_at-turn-preserved t c =
    let so_far = c.turn.invariant in
    let y = c.in_ok-right.ensures.read in
    let to_y = extends_same _ _ _ y.3 (sym c.infix.ensures.words) in
    let z = c.in_ok-depth-2.ensures.read so_far.0 y.0 _ (record {
      first = so_far.1.top;
      second = y.2.top;
      pieces = y.2.pieces ∙ ap (λ ps. n.expr y.2.top ∷ ps) (ap held c.infix.ensures.stack ∙ so_far.1.pieces);
      means_x = means_later _ _ so_far.1.top so_far.0.tree to_y so_far.1.means;
      means_y = y.2.means;
      is_x = so_far.1.deep;
      is_y = y.2.deep;
      rest = y.2.rest;
    }) in (
      z.0,
      z.2,
      extends_by _ _ _ so_far.2 (extends_by _ _ _ to_y z.3),
      next_turn _ (expression c.args.budget) c.turn.turn c.args.least so_far.0 y.0 z.0 c.in-Some.op c.above.result
          (ahead c.infix.new.self.tokens) c.turn-test.true c.above.ensures so_far.3 (ap (infix_at c.args.least) (sym so_far.1.rest) ∙ c.in-Some.ensures.there)
          y.1 z.1,
      omega (
        arith,
        c.in_ok-depth-2.ensures.few,
        c.in_ok-right.ensures.few,
        so_far.4,
        c.in-Some.ensures.shorter,
        ap (λ s. length (codes (held s))) c.infix.ensures.stack,
      ),
    )

pub joined_at-returns-clause-read : goal.joined_at-returns-clause-read
joined_at-returns-clause-read t c =
    last_turn _ (expression c.args.budget) c.turn.turn c.args.least c.turn.invariant.0 (omega (arith, c.turn-test.false)) c.turn.invariant.3

pub named-returns-clause-read : goal.named-returns-clause-read
named-returns-clause-read t c name word =
    let old = c.args.self.now in
    let none = c.mark.ensures.none c.if-mark.false in
    let tokens = c.mark.ensures.tokens c.if-mark.false in
    let words = c.mark.ensures.words in (
      found (m.name name) 1 (ahead old.tokens),
      ap (named (expression c.args.budget) name (ahead old.tokens)) none,
      record {
        top = n.name c.args.name;
        pieces = c.in_ok-name.ensures.pieces ∙ ap (λ s. n.expr (n.name c.args.name) ∷ held s) c.mark.ensures.stack;
        means = λ ws g. ap m.name (named_kept old.words ws c.args.name name word (extends_same _ _ ws g (sym words)));
        deep = refl;
        rest = ap ahead tokens;
      },
      extends_same _ _ _ (no_more _) (sym words),
    )

pub operand-returns-in_ok-constant-in-Some-Sized-clause-read : goal.operand-returns-in_ok-constant-in-Some-Sized-clause-read
operand-returns-in_ok-constant-in-Some-Sized-clause-read t c =
    let ts = ahead c.args.self.now.tokens in
    let k = c.in-Some-Sized in
    let first : slice_get ts 0 ≡ Some (Sized k.size k.value k.fits) = sym c.first.ensures ∙ ap (option_map token_view) k.is ∙
    ap (λ x. Some (token_view x)) k.field-0-is in (
      found (m.constant k.size k.value k.fits) 1 (drop 1 ts),
      constant_is (expression c.args.budget) ts k.size k.value k.fits first,
      record {
        top = n.constant k.size k.value k.fits;
        pieces = c.in_ok-constant-in-Some-Sized.ensures.pieces ∙ ap (λ s. n.expr (n.constant k.size k.value k.fits) ∷ held s) c.skip.ensures.stack;
        means = λ ws g. refl;
        deep = refl;
        rest = c.skip.ensures.tokens;
      },
      extends_same _ _ _ (no_more _) (sym c.skip.ensures.words),
    )

pub operand-returns-in_ok-depth-in-Some-Mark-Open-clause-read : goal.operand-returns-in_ok-depth-in-Some-Mark-Open-clause-read
operand-returns-in_ok-depth-in-Some-Mark-Open-clause-read t c =
    let ts = ahead c.args.self.now.tokens in
    let step = c.skip-in-Some-Mark-Open.ensures in
    let first : slice_get ts 0 ≡ Some (Mark Open) = sym c.first.ensures ∙ ap (option_map token_view) c.in-Some-Mark-Open.is
    ∙ ap (λ x. Some (token_view x)) c.in-Some-Mark-Open.field-0-is ∙ ap (λ x. Some (Mark x)) c.in-Some-Mark-Open.field-0-0-is in
    let x = c.in_ok-depth-in-Some-Mark-Open.ensures.read in
    let to_x = extends_same _ _ _ x.3 (sym step.words) in
    reads_from _ _ _ c.close.new.self c.close.result _ _
    (paren_is (expression c.args.budget) ts x.0 first (ap (expression c.args.budget 1) (sym step.tokens) ∙ x.1)) to_x
    (reads_under _ _ _ c.close.new.self c.close.result _ (ap held step.stack) (c.close.ensures.read x.0 _ x.2))

pub selected-returns-in_ok-depth-in-None-clause-read : goal.selected-returns-in_ok-depth-in-None-clause-read
selected-returns-in_ok-depth-in-None-clause-read t c name word =
    let none = c.in-None.ensures in
    let x = c.in_ok-depth-in-None.ensures.read in
    let to_x = extends_same _ _ _ x.3 (sym none.words) in
    reads_from _ _ _ c.index.new.self c.index.result _ _
    (selected_is (expression c.args.budget) name (ahead c.args.self.now.tokens) x.0 none.none
    (ap (λ ts. expression c.args.budget 1 (ahead ts)) (sym none.tokens) ∙ x.1))
    to_x (reads_under _ _ _ c.index.new.self c.index.result _ (ap held none.stack)
    (c.index.ensures.read name x.0 _ (named_later _ _ c.args.name name word to_x) x.2))

pub unary_at-returns-in_ok-depth-clause-read : goal.unary_at-returns-in_ok-depth-clause-read
unary_at-returns-in_ok-depth-clause-read t c =
    let x = c.in_ok-depth.ensures.read in
    let to_x = extends_same _ _ _ x.3 (sym c.mark.ensures.words) in
    reads_from _ _ _ c.prefix.new.self c.prefix.result _ _
    (not_is (expression c.args.budget) (ahead c.args.self.now.tokens) _ x.0 (c.mark.ensures.there c.if-mark.true) x.1) to_x
    (reads_under _ _ _ c.prefix.new.self c.prefix.result _ (ap held c.mark.ensures.stack) (c.prefix.ensures.read x.0 _ x.2))

pub unary_at-returns-in_ok-depth-2-clause-read : goal.unary_at-returns-in_ok-depth-2-clause-read
unary_at-returns-in_ok-depth-2-clause-read t c =
    let first = c.mark.ensures in
    let second = c.mark-else-mark.ensures in
    let x = c.in_ok-depth-2.ensures.read in
    let to_x = extends_same _ _ _ x.3 (sym (second.words ∙ first.words)) in
    reads_from _ _ _ c.prefix-then-mark-2.new.self c.prefix-then-mark-2.result _ _
    (flip_is (expression c.args.budget) (ahead c.args.self.now.tokens) _ x.0
    (ap (λ ts. after_mark Tilde (ahead ts)) (sym (first.tokens c.if-mark.false)) ∙ second.there c.if-mark-2.true) x.1) to_x
    (reads_under _ _ _ c.prefix-then-mark-2.new.self c.prefix-then-mark-2.result _ (ap held (second.stack ∙ first.stack))
    (c.prefix-then-mark-2.ensures.read x.0 _ x.2))

pub braces-part-init : goal.braces-part-init
braces-part-init t c =
    let ts = ahead c.args.self.now.tokens in (
      parts_of [] 0 ts,
      record { exprs = []; many = refl; pieces = refl; means = λ ws g. refl; deep = refl; rest = refl },
      no_more _,
      ap (λ k. parts (expression c.args.budget) k (parts_of [] 0 ts)) (let e : length ts ≡ length ts - 0 = omega arith in e),
      omega arith,
      omega arith,
    )

pub braces-returns-in_err-depth-clause-read : goal.braces-returns-in_err-depth-clause-read
braces-returns-in_err-depth-clause-read t c =
    let exit = err_from_is_err_and c.from_residual-in_err-depth.result c.from_residual-in_err-depth.ensures.1 in
    let p = c.part.invariant in
    let x = c.in_ok-part.ensures.read in
    let read = expression c.args.budget in
    let all = last_part _ read _ c.part.turn p.0 x.0 _ (omega (arith, c.part-test.true, c.len-turn-end.ensures)) p.3
    (ap (read 1) (sym p.1.rest) ∙ x.1) (ap (after_mark Comma) (sym x.2.rest) ∙ c.mark.ensures.none c.if-not-mark.true)
    (ap (after_mark CloseBrace) (sym x.2.rest) ∙ ap (λ ts. after_mark CloseBrace (ahead ts)) (sym (c.mark.ensures.tokens c.if-not-mark.true))
    ∙ c.in_ok-want_mark.ensures.read) in
    rw (exit.1, exit.2)
    (braces_fail c.in_err-depth.field-0.0 read (ahead c.args.self.now.tokens) _ c.max-depth.result all
    (c.max-depth.ensures ∙ (λ i. max (p.1.deep i) (x.2.deep i))) c.in_err-depth.ensures)

pub braces-join_parts-requires-clause-some : goal.braces-join_parts-requires-clause-some
braces-join_parts-requires-clause-some t c =
    let p = c.part.invariant in
    let x = c.in_ok-part.ensures.read in
    let stack = c.in_ok-want_mark.ensures.stack ∙ c.mark.ensures.stack in (
      p.1.exprs ++ x.2.top ∷ [],
      held c.args.self.now.stack,
      omega arith,
      omega (arith, length-append p.1.exprs (x.2.top ∷ []), p.1.many),
      ap held stack ∙ x.2.pieces ∙ ap (λ ps. n.expr x.2.top ∷ ps) p.1.pieces ∙ sym (pushed_last p.1.exprs x.2.top (held c.args.self.now.stack)),
    )

pub braces-returns-then-not-mark-clause-read : goal.braces-returns-then-not-mark-clause-read
braces-returns-then-not-mark-clause-read t c =
    let p = c.part.invariant in
    let x = c.in_ok-part.ensures.read in
    let read = expression c.args.budget in
    let below = held c.args.self.now.stack in
    let ps = p.1.exprs ++ x.2.top ∷ [] in
    let stack = c.in_ok-want_mark.ensures.stack ∙ c.mark.ensures.stack in
    let words = c.in_ok-join_parts.ensures.words ∙ c.in_ok-want_mark.ensures.words ∙ c.mark.ensures.words in
    let long : length ps ≡ c.part.count + 1 = omega (arith, length-append p.1.exprs (x.2.top ∷ []), p.1.many) in
    let all = last_part _ read _ c.part.turn p.0 x.0 _ (omega (arith, c.part-test.true, c.len-turn-end.ensures)) p.3
    (ap (read 1) (sym p.1.rest) ∙ x.1) (ap (after_mark Comma) (sym x.2.rest) ∙ c.mark.ensures.none c.if-not-mark.true)
    (ap (after_mark CloseBrace) (sym x.2.rest) ∙ ap (λ ts. after_mark CloseBrace (ahead ts)) (sym (c.mark.ensures.tokens c.if-not-mark.true))
    ∙ c.in_ok-want_mark.ensures.read) in
    let mean = mean_more _ _ p.1.exprs p.0.trees x.2.top x.0.tree x.3 p.1.means x.2.means in (
      found (concat_of (p.0.trees ++ x.0.tree ∷ [])) c.in_ok-depth.depth (ahead c.want_mark.new.self.tokens),
      braces_are read (ahead c.args.self.now.tokens) _ c.max-depth.result c.in_ok-depth.depth all
          (c.max-depth.ensures ∙ (λ i. max (p.1.deep i) (x.2.deep i))) c.in_ok-depth.ensures,
      record {
        top = concat_parts ps;
        pieces = c.in_ok-join_parts.ensures.pieces ps below long
            (ap held stack ∙ x.2.pieces ∙ ap (λ qs. n.expr x.2.top ∷ qs) p.1.pieces ∙ sym (pushed_last p.1.exprs x.2.top below));
        means = λ ws g. concat_means _ ps _ (omega (arith, long)) mean ws (extends_same _ _ ws g (sym words));
        deep = refl;
        rest = ap ahead c.in_ok-join_parts.ensures.tokens;
      },
      extends_by _ _ _ p.2 (extends_to _ _ _ x.3 words),
    )

pub braces-part-preserved : goal.braces-part-preserved
braces-part-preserved t c =
    let p = c.part.invariant in
    let x = c.in_ok-part.ensures.read in
    let read = expression c.args.budget in
    let mean = mean_more _ _ p.1.exprs p.0.trees x.2.top x.0.tree x.3 p.1.means x.2.means in (
      with p.0 x.0 (ahead c.mark.new.self.tokens),
      record {
        exprs = p.1.exprs ++ x.2.top ∷ [];
        many = omega (arith, length-append p.1.exprs (x.2.top ∷ []), p.1.many);
        pieces = ap held c.mark.ensures.stack ∙ x.2.pieces ∙ ap (λ ps. n.expr x.2.top ∷ ps) p.1.pieces
            ∙ sym (pushed_last p.1.exprs x.2.top (held c.args.self.now.stack));
        means = λ ws g. mean ws (extends_same _ _ ws g (sym c.mark.ensures.words));
        deep = c.max-depth.ensures ∙ (λ i. max (p.1.deep i) (x.2.deep i));
        rest = refl;
      },
      extends_by _ _ _ p.2 (extends_to _ _ _ x.3 c.mark.ensures.words),
      next_part _ read _ c.part.turn p.0 x.0 _ (omega (arith, c.part-test.true, c.len-turn-end.ensures)) p.3
          (ap (read 1) (sym p.1.rest) ∙ x.1) (ap (after_mark Comma) (sym x.2.rest) ∙ c.mark.ensures.there c.if-not-mark.false),
      omega (arith, p.4, c.in_ok-part.ensures.few, c.mark.ensures.shorter c.if-not-mark.false, ap (λ s. length (codes (held s))) c.mark.ensures.stack),
      omega (arith, p.5),
    )
