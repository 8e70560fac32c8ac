use Rattle.std.proofs.Common.{ℕ, List, ◌++◌, ◌∷◌, [], map, max, ap, ◌∙◌}
use Rattle.std.specs.Prelude.{string_bytes}
use Rattle.std.proofs.lemmas.List.{map-append}
use Rattle.ae_vcd.proofs.Tables.{put_declared}
use Rattle.ae_vcd.proofs.header.Declared.add.Goals as goal

pub returns : goal.returns
returns c = λ vs t a n.
    let h = c.in_ok-number.ensures in
    put_declared c.args.self.now _ vs _ c.in_ok-number.number t a n h.put
    (c.in_ok-push.ensures.items ∙ ap (λ (l : List ℕ). l ++ c.in_ok-number.number ∷ []) h.numbers)
    (ap (map string_bytes) c.in_ok-push-2.ensures.items ∙
    (map-append string_bytes c.number_of.new.self.names.items (c.in_ok-text_of.field-0 ∷ []) ∙
    (λ i. map string_bytes (h.names i) ++ c.in_ok-text_of.ensures i ∷ [])))
    (c.in_ok-push-3.ensures.items ∙ ap (λ (l : List ℕ). l ++ c.args.width ∷ []) h.widths)
    (c.max-self.ensures ∙ ap (λ w. max w c.args.width) h.most)
