-- Names that are put behind others.
use Rattle.std.proofs.Common.{◌≡◌, ℕ, List, [], ◌∷◌, ◌++◌, Bool, true, false, Some, sym, ap, ◌∙◌, Bor, append-nil}
use Rattle.std.specs.Prelude.{slice_get, option_map, bytes_eq, if◌then◌else◌}
use Rattle.std.specs.List.{AllByRecursion, IsDistinct, list_any}
use Rattle.std.proofs.lemmas.Option.{slice_get-map}
use Rattle.std.proofs.lemmas.List.{map-append}
use Rattle.std.proofs.lemmas.Slice.Eq.{bytes_eq-Decides}
use Rattle.indexmap.specs.IndexSet.{insert_key}
use Rattle.ae_vmodule.specs.Words.{words_of, Extends}

inserted : (b : Bool) (ks : List (Bor (List ℕ))) (k : Bor (List ℕ)) → Extends (words_of ks) (words_of (if b then ks else ks ++ k ∷ []))
inserted true ks k = ([], sym (append-nil (words_of ks)))
inserted false ks k = (k.now ∷ [], map-append _ ks (k ∷ []))

pub number_extends : (eq : Bor (List ℕ) → Bor (List ℕ) → Bool) (ks : List (Bor (List ℕ))) (k : Bor (List ℕ))
    → Extends (words_of ks) (words_of (insert_key eq ks k))
number_extends eq ks k = inserted (list_any (eq k) ks) ks k

pub number_there : (ks : List (Bor (List ℕ))) (w k : Bor (List ℕ)) (i : ℕ) → slice_get ks i ≡ Some k → bytes_eq w.now k.now ≡ true
    → slice_get (words_of ks) i ≡ Some w.now
number_there ks w k i there same =
    slice_get-map _ ks i ∙ ap (option_map (λ (x : Bor (List ℕ)). x.now)) there ∙ ap Some (sym ((bytes_eq-Decides w.now k.now).0 same))

all_words : (w : List ℕ) (ks : List (Bor (List ℕ))) → AllByRecursion (λ (k : Bor (List ℕ)). bytes_eq w k.now ≡ false) ks
    → AllByRecursion (λ v. bytes_eq w v ≡ false) (words_of ks)
all_words w [] h = tt
all_words w (k ∷ ks) h = (h.0, all_words w ks h.1)

-- names of which no two are equal in the table
pub distinct_words : (ks : List (Bor (List ℕ))) → IsDistinct (λ (x y : Bor (List ℕ)). bytes_eq x.now y.now) ks → IsDistinct bytes_eq (words_of ks)
unfolding IsDistinct
distinct_words [] h = tt
distinct_words (k ∷ ks) h = (all_words k.now ks h.0, distinct_words ks h.1)
