-- The list has what the table gives when it is taken apart: its keys in order.
use Rattle.std.proofs.Common.{◌≡◌, ◌∙◌, subst, sym, ap}
use Rattle.std.specs.List.{IsDistinct}
use Rattle.std.specs.Prelude.{bytes_eq}
use Rattle.indexmap.proofs.CallerLemmas.{Drains-YieldsInOrder}
use Rattle.ae_vmodule.specs.Words.{words_of}
use Rattle.ae_vmodule.proofs.WordLaws.{distinct_words}
use Rattle.ae_vmodule.proofs.words.Words.listed.Goals as goal

pub invariant_of-result : goal.invariant_of-result
invariant_of-result c =
    let ran = c.in_ok-words.ensures.ran in
    let items : c.in_ok-words.words.items ≡ c.self.inside.numbers.keys = ran.4.0 ∙
    (Drains-YieldsInOrder _ _ ran.0 ran.1 ran.2.2 ((ran.3.2 tt).0, (ran.3.0, ran.3.1, (ran.3.2 tt).1)) ∙ ran.2.0) in
    subst (λ ks. IsDistinct bytes_eq (words_of ks)) (sym items) (distinct_words c.self.inside.numbers.keys ran.2.3)

pub returns : goal.returns
returns c =
    let ran = c.in_ok-words.ensures.ran in
    let items : c.in_ok-words.words.items ≡ c.self.inside.numbers.keys = ran.4.0 ∙
    (Drains-YieldsInOrder _ _ ran.0 ran.1 ran.2.2 ((ran.3.2 tt).0, (ran.3.0, ran.3.1, (ran.3.2 tt).1)) ∙ ran.2.0) in
    ap words_of items ∙ c.self.view_is
