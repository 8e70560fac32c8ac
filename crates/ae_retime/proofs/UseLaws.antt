-- The differences to a clock, with that of one item more.
use Rattle.std.proofs.Common.{◌≡◌, ℕ, ◌+◌, ◌-◌, ◌<◌, List, [], ◌∷◌, ◌++◌, length, map, take, get_or, sym, ap, ◌∙◌}
use Rattle.std.proofs.lemmas.List.{map-append, take_more}

pub slacks_push : (arrivals : List ℕ) (most : ℕ) (items now new : List ℕ) (i slack : ℕ) → i < length items →
    now ≡ map (λ a. most - get_or arrivals a 0) (take i items) →
    slack ≡ most - get_or arrivals (get_or items i 0) 0 → new ≡ now ++ slack ∷ [] → new ≡ map (λ a. most - get_or arrivals a 0) (take (i + 1) items)
slacks_push arrivals most items now new i slack l e is pushed =
    let f : ℕ → ℕ = λ a. most - get_or arrivals a 0 in
    let more : map f (take (i + 1) items) ≡ map f (take i items) ++ f (get_or items i 0) ∷ [] =
    ap (map f) (take_more items i 0 l) ∙ map-append f (take i items) (get_or items i 0 ∷ [])
    in
    pushed ∙ ap (λ xs. xs ++ slack ∷ []) e ∙ ap (λ s. map f (take i items) ++ s ∷ []) is ∙ sym more
