-- The lines of `unwave`.
use Rattle.std.proofs.Common.{ℕ, ◌≡◌, ◌+◌, List, [], ◌∷◌, ◌++◌, map, arith, ap, sym, ◌∙◌, append_assoc, subst}
use Rattle.std.specs.Fmt.{decimal}
use Rattle.std.specs.List.{range_with_len}
use Rattle.std.proofs.lemmas.Grind.{flat_map-append}
use Rattle.std.proofs.lemmas.List.{append-nil}
use Rattle.std.proofs.lemmas.List.FromFn.{map-range_with_len_more}
use Rattle.ae_play.specs.Lines.{spaced}
use Rattle.ae_jobs.specs.declared.status.Status.{Status}
use Rattle.ae_jobs.specs.UnwaveTexts.{IsUnwaved}

spaced_more : (ws : List ℕ) (w : ℕ) → spaced (ws ++ w ∷ []) ≡ spaced ws ++ (32 ∷ decimal w)
spaced_more ws w = flat_map-append (λ v. 32 ∷ decimal v) ws (w ∷ []) ∙ ap (λ l. spaced ws ++ l) (append-nil (32 ∷ decimal w))

-- one word more
pub row_more : (f : ℕ → ℕ) (k word : ℕ) (old now spacing new : List ℕ) → word ≡ f k → now ≡ old ++ spaced (map f (range_with_len 0 k)) → spacing ≡ now ++ 32
    ∷ [] → new ≡ spacing ++ decimal word
    → new ≡ old ++ spaced (map f (range_with_len 0 (k + 1)))
row_more f k word old now spacing new is now_is spacing_is new_is =
    let before : List ℕ = spaced (map f (range_with_len 0 k)) in
    new_is
    ∙ ap (λ x. x ++ decimal word) (spacing_is ∙ ap (λ x. x ++ 32 ∷ []) now_is)
    ∙ append_assoc (old ++ before) (32 ∷ []) (decimal word)
    ∙ append_assoc old before (32 ∷ decimal word)
    ∙ ap (λ x. old ++ x) (ap (λ v. before ++ 32 ∷ decimal v) is ∙ sym (spaced_more (map f (range_with_len 0 k)) (f k)) ∙
    ap spaced (sym (map-range_with_len_more f 0 k k (omega arith))))

-- an answer by its status
pub unwaved_by : (part : List ℕ) (status other : Status) (text : List ℕ) → status ≡ other → IsUnwaved part other text → IsUnwaved part status text
unwaved_by part status other text e h = subst (λ (s : Status). IsUnwaved part s text) (sym e) h
