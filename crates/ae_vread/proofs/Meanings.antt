-- What stays where names are put behind others, and steps of readers.
use Rattle.std.proofs.Common.{◌≡◌, ℕ, ◌<◌, List, [], ◌++◌, Option, Some, sym, ap, ◌∙◌, append-nil, append_assoc, arith, length, length-append}
use Rattle.std.specs.Prelude.{slice_get}
use Rattle.std.proofs.lemmas.List.{get_or_append_left}
use Rattle.std.proofs.lemmas.Option.{slice_get_within, get_or_from_slice_get, slice_get-get_or}
use Rattle.ae_vmodule.specs.Words.{Extends}
use Rattle.ae_vread.specs.TokenTests.{◌>>=◌}
use Rattle.ae_vread.specs.Reading.{deeper}
use Rattle.ae_vmodule.specs.View.{word_at}

pub no_more : (ws : List (List ℕ)) → Extends ws ws
no_more ws = ([], sym (append-nil ws))

pub extends_by : (ws vs us : List (List ℕ)) → Extends ws vs → Extends vs us → Extends ws us
extends_by ws vs us first second =
    (first.0 ++ second.0, second.1 ∙ ap (λ xs. xs ++ second.0) first.1 ∙ append_assoc ws first.0 second.0)

pub extends_same : (ws vs us : List (List ℕ)) → Extends ws us → vs ≡ ws → Extends vs us
extends_same ws vs us h same = (h.0, h.1 ∙ ap (λ xs. xs ++ h.0) (sym same))

pub extends_to : (ws us vs : List (List ℕ)) → Extends ws us → vs ≡ us → Extends ws vs
extends_to ws us vs h same = (h.0, same ∙ h.1)

word_front : (ws more : List (List ℕ)) (k : ℕ) (n : List ℕ) → slice_get ws k ≡ Some n → word_at (ws ++ more) k ≡ n
word_front ws more k n h = get_or_append_left ws more [] k (slice_get_within ws k n h) ∙ get_or_from_slice_get ws k n [] h

-- a number has its name, whatever names are still to come
pub named_kept : (ws us : List (List ℕ)) (k : ℕ) (n : List ℕ) → slice_get ws k ≡ Some n → Extends ws us → word_at us k ≡ n
named_kept ws us k n h e = ap (λ xs. word_at xs k) e.1 ∙ word_front ws e.0 k n h

pub named_later : (ws us : List (List ℕ)) (k : ℕ) (n : List ℕ) → slice_get ws k ≡ Some n → Extends ws us → slice_get us k ≡ Some n
named_later ws us k n h e =
    let within : k < length us = omega (arith, slice_get_within ws k n h, ap length e.1, length-append ws e.0) in
    slice_get-get_or us k [] within ∙ ap Some (named_kept ws us k n h e)

pub deep_then : {X : Type 0} (f : ℕ → Option X) (d d' e : ℕ) → d ≡ d' → deeper d ≡ Some e → (deeper d' >>= f) ≡ f e
deep_then f d d' e same h = ap (λ n. deeper n >>= f) (sym same) ∙ ap (λ o. o >>= f) h

pub then_is : {X Y : Type 0} (f : X → Option Y) (o : Option X) (x : X) → o ≡ Some x → (o >>= f) ≡ f x
then_is f o x h = ap (λ p. p >>= f) h
