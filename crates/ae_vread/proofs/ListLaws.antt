-- Lists of entries with commas between them: what is written is read again, and what is read is written so.
use Rattle.std.proofs.Common.{◌≡◌, ℕ, zero, suc, ◌+◌, ◌<◌, ◌≤◌, List, [], ◌∷◌, ◌++◌, length, length-append, Option, Some, None, refl, sym, ap, ◌∙◌, subst, arith, append_assoc, append-nil, map}
use Rattle.std.specs.List.{flat_map, AllByRecursion}
use Rattle.ae_vtoken.specs.Tokens.{TokenTree, Mark}
use Rattle.ae_vtoken.specs.declared.token.Sign.TheVariants.{Comma}
use Rattle.ae_vread.specs.Forms.{comma_tokens}
use Rattle.ae_vread.specs.TokenTests.{◌>>=◌, after_mark}
use Rattle.ae_vread.specs.ItemReading.{Entries, Step, by_entry, entries, listed, comma_of, with_comma}
use Rattle.ae_vread.proofs.TokenFronts.{bind_some, mark_was}
use Rattle.ae_vread.proofs.ExprSound.{some_same}

pub singles : {X Y : Type 0} (g : X → Y) (xs : List X) → flat_map (λ x. g x ∷ []) xs ≡ map g xs
singles g [] = refl
singles g (x ∷ xs) = ap (λ l. g x ∷ l) (singles g xs)

-- one entry in front
pub record IsEntry {X F : Type 0} (tokens : F → List TokenTree) (out : F → List X) (Fits : F → Type 0) (ts : List TokenTree) (e : Entries X) : Type 0 where
  pub form : F
  pub fits : Fits form
  pub whole : ts ≡ tokens form ++ e.1
  pub same : out form ≡ e.0

-- a list in front
pub record IsList {X F : Type 0} (tokens : F → List TokenTree) (out : F → List X) (Fits : F → Type 0) (ts : List TokenTree) (e : Entries X) : Type 0 where
  pub first : F
  pub more : List F
  pub fits : AllByRecursion Fits (first ∷ more)
  pub whole : ts ≡ tokens first ++ (comma_tokens tokens more ++ e.1)
  pub same : flat_map out (first ∷ more) ≡ e.0

record AreEntries {X F : Type 0} (tokens : F → List TokenTree) (out : F → List X) (Fits : F → Type 0) (before : List X) (ts : List TokenTree)
    (e : Entries X) : Type 0 where
  forms : List F
  fits : AllByRecursion Fits forms
  whole : ts ≡ comma_tokens tokens forms ++ e.1
  same : before ++ flat_map out forms ≡ e.0

module _ {X F : Type 0} (tokens : F → List TokenTree) (out : F → List X) (Fits : F → Type 0)
    -- what may stand behind an entry
    (Behind : List TokenTree → Type 0)
    (read : List TokenTree → Option (Entries X)) (step : Step X) where
  abbrev pub IsReadAgain : Type 0
  IsReadAgain = (f : F) (rest : List TokenTree) → Fits f → Behind rest → read (tokens f ++ rest) ≡ Some (out f, rest)

  abbrev pub IsStepAgain : Type 0
  IsStepAgain = (f : F) (rest : List TokenTree) → Fits f → Behind rest → step (Mark Comma ∷ (tokens f ++ rest)) ≡ Some (Some (out f, rest))

  module _ (again : IsReadAgain) (stepped : IsStepAgain)
      (goes_on : (f : F) (ts : List TokenTree) → Behind (Mark Comma ∷ (tokens f ++ ts)))
      (some : (f : F) → 1 ≤ length (tokens f)) where
    behind : (fs : List F) (rest : List TokenTree) → Behind rest → Behind (comma_tokens tokens fs ++ rest)
    behind [] rest h = h
    behind (f ∷ fs) rest h = subst Behind (ap (λ l. Mark Comma ∷ l) (sym (append_assoc (tokens f) (comma_tokens tokens fs) rest)))
        (goes_on f (comma_tokens tokens fs ++ rest))

    entries_again : (fs : List F) (k : ℕ) (before : List X) (rest : List TokenTree) → AllByRecursion Fits fs → Behind rest → step rest ≡ Some None
        → length fs < k → entries step k before (comma_tokens tokens fs ++ rest) ≡ Some (before ++ flat_map out fs, rest)
    entries_again fs zero before rest fits ends stop few = absurd (omega arith)
    entries_again [] (suc k) before rest fits ends stop few = ap (λ o. o >>= by_entry (entries step k) before rest) stop ∙
        ap (λ l. Some (l, rest)) (sym (append-nil before))
    entries_again (f ∷ fs) (suc k) before rest fits ends stop few =
        ap (λ l. entries step (suc k) before (Mark Comma ∷ l)) (append_assoc (tokens f) (comma_tokens tokens fs) rest)
        ∙ ap (λ o. o >>= by_entry (entries step k) before (Mark Comma ∷ (tokens f ++ (comma_tokens tokens fs ++ rest))))
        (stepped f (comma_tokens tokens fs ++ rest) fits.0 (behind fs rest ends))
        ∙ entries_again fs k (before ++ out f) rest fits.1 ends stop (omega arith)
        ∙ ap (λ l. Some (l, rest)) (append_assoc before (out f) (flat_map out fs))

    count_below : (fs : List F) → length fs ≤ length (comma_tokens tokens fs)
    count_below [] = omega arith
    count_below (f ∷ fs) = omega (arith, count_below fs, length-append (tokens f) (comma_tokens tokens fs))

    pub listed_again : (f : F) (fs : List F) (rest : List TokenTree) → AllByRecursion Fits (f ∷ fs) → Behind rest → step rest ≡ Some None
        → listed read step (tokens f ++ (comma_tokens tokens fs ++ rest)) ≡ Some (flat_map out (f ∷ fs), rest)
    listed_again f fs rest fits ends stop =
        let ts : List TokenTree = tokens f ++ (comma_tokens tokens fs ++ rest) in
        ap (λ o. o >>= λ x. entries step (length ts) x.0 x.1) (again f (comma_tokens tokens fs ++ rest) fits.0 (behind fs rest ends))
        ∙ entries_again fs (length ts) (out f) rest fits.1 ends stop
        (omega (arith, some f, count_below fs, length-append (tokens f) (comma_tokens tokens fs ++ rest), length-append (comma_tokens tokens fs) rest))

  module _ (sound : (ts : List TokenTree) (e : Entries X) → read ts ≡ Some e → IsEntry tokens out Fits ts e)
      (step_sound : (ts : List TokenTree) (e : Entries X) → step ts ≡ Some (Some e) → (us : List TokenTree) × (ts ≡ Mark Comma ∷ us)
      × IsEntry tokens out Fits us e) where
    entries_sound : (k : ℕ) (before : List X) (ts : List TokenTree) (e : Entries X) → entries step k before ts ≡ Some e → AreEntries tokens out Fits before ts e
    entries_sound zero before ts e h = absurd (let e' : None ≡ Some e = h in cc)
    entries_sound (suc k) before ts e h =
        let stepped = bind_some (step ts) (by_entry (entries step k) before ts) e h in
        elim stepped.0 as (λ o. step ts ≡ Some o → by_entry (entries step k) before ts o ≡ Some e → AreEntries tokens out Fits before ts e) [
          | None ↦ λ is h.
              let same : (before, ts) ≡ e = some_same _ _ h in
              record {
                forms = [];
                fits = tt;
                whole = ap (λ (p : Entries X). p.1) same;
                same = append-nil before ∙ ap (λ (p : Entries X). p.0) same;
              }
          | Some x ↦ λ is h.
              let entry = step_sound ts x is in
              let one : IsEntry tokens out Fits entry.0 x = entry.2 in
              let more : AreEntries tokens out Fits (before ++ x.0) x.1 e = entries_sound k (before ++ x.0) x.1 e h in
              record {
                forms = one.form ∷ more.forms;
                fits = (one.fits, more.fits);
                whole = entry.1 ∙ ap (λ l. Mark Comma ∷ l) (one.whole ∙ ap (λ l. tokens one.form ++ l) more.whole ∙
                    sym (append_assoc (tokens one.form) (comma_tokens tokens more.forms) e.1));
                same = ap (λ l. before ++ (l ++ flat_map out more.forms)) one.same ∙ sym (append_assoc before x.0 (flat_map out more.forms)) ∙ more.same;
              }
        ] stepped.1 stepped.2

    pub listed_sound : (ts : List TokenTree) (e : Entries X) → listed read step ts ≡ Some e → IsList tokens out Fits ts e
    listed_sound ts e h =
        let first = bind_some (read ts) (λ x. entries step (length ts) x.0 x.1) e h in
        let one : IsEntry tokens out Fits ts first.0 = sound ts first.0 first.1 in
        let more : AreEntries tokens out Fits first.0.0 first.0.1 e = entries_sound (length ts) first.0.0 first.0.1 e first.2 in
        record {
          first = one.form;
          more = more.forms;
          fits = (one.fits, more.fits);
          whole = one.whole ∙ ap (λ l. tokens one.form ++ l) more.whole;
          same = ap (λ l. l ++ flat_map out more.forms) one.same ∙ more.same;
        }

-- the steps where behind a comma an entry has to stand
module _ {X F : Type 0} (tokens : F → List TokenTree) (out : F → List X) (Fits : F → Type 0) (read : List TokenTree → Option (Entries X)) where
  pub comma_again : (f : F) (rest : List TokenTree) → read (tokens f ++ rest) ≡ Some (out f, rest)
      → with_comma read (Mark Comma ∷ (tokens f ++ rest)) ≡ Some (Some (out f, rest))
  comma_again f rest h = ap (λ o. o >>= λ x. Some (Some x)) h

  pub comma_sound : ((ts : List TokenTree) (e : Entries X) → read ts ≡ Some e → IsEntry tokens out Fits ts e) → (ts : List TokenTree) (e : Entries X)
      → with_comma read ts ≡ Some (Some e) → (us : List TokenTree) × (ts ≡ Mark Comma ∷ us) × IsEntry tokens out Fits us e
  comma_sound sound ts e h = elim (after_mark Comma ts) as
      (λ o. after_mark Comma ts ≡ o → comma_of read o ≡ Some (Some e) → (us : List TokenTree) × (ts ≡ Mark Comma ∷ us) × IsEntry tokens out Fits us e) [
        | None ↦ λ is h. absurd (let e' : Some None ≡ Some (Some e) = h in cc)
        | Some us ↦ λ is h.
            let inner = bind_some (read us) (λ x. Some (Some x)) (Some e) h in
            let same : inner.0 ≡ e = let e' : Some (Some inner.0) ≡ Some (Some e) = inner.2 in cc in
            (us, mark_was Comma ts us is, sound us e (inner.1 ∙ ap Some same))
      ] refl h
