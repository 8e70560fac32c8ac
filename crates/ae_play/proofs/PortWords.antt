-- The words of all ports, clock by clock.
use Rattle.std.proofs.Common.{ℕ, zero, suc, ◌≡◌, ◌+◌, List, ◌++◌, arith, ap, sym, ◌∙◌, append_assoc}
use Rattle.std.proofs.lemmas.List.{append-nil}
use Rattle.ae_play.specs.Keeps.{Keeps}
use Rattle.ae_play.specs.Words.{port_words}
use Rattle.ae_play.proofs.Summing.{words_next}

pub words_kept : {K : Type 0} (content : K → List ℕ) (row shown : ℕ → List ℕ) (first : K) (n : ℕ) (last : K)
    → Keeps (λ c r ws old new. content new ≡ (content old ++ r) ++ ws) row shown first n last → content last ≡ content first ++ port_words row shown n
words_kept content row shown first zero last k = ap content k ∙ sym (append-nil (content first))
words_kept content row shown first (suc c) last k =
    let before = port_words row shown c in
    let next : c + 1 ≡ suc c = omega arith in
    k.2
    ∙ ap (λ x. (x ++ row c) ++ shown c) (words_kept content row shown first c k.0 k.1)
    ∙ append_assoc (content first ++ before) (row c) (shown c)
    ∙ append_assoc (content first) before (row c ++ shown c)
    ∙ ap (λ x. content first ++ x) (sym (words_next (λ m. row m ++ shown m) c) ∙ ap (port_words row shown) next)
