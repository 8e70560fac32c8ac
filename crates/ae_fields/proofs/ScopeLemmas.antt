-- The entries of the map as a list of names.
use Rattle.std.proofs.Common.{◌≡◌, ℕ, ◌+◌, Bool, true, false, cond, not, suc, ◌||◌, List, [], ◌∷◌, ◌++◌, length, position, nat_lt, Some, None, is_some, refl, sym, ap, ◌∙◌, true≢false, if◌then◌else◌, arith, Vec}
use Rattle.std.proofs.lemmas.Grind.{common_steps}
use Rattle.std.specs.Str.{bytes_eq}
use Rattle.std.specs.List.{list_any, position_or_len}
use Rattle.std.specs.Map.{keys_of}
use Rattle.std.specs.declared.alloc.Global.{Global}
use Rattle.indexmap.specs.IndexMap.{insert_entry}
use Rattle.ae_fields.specs.Scopes.{is_known, names_of}

abbrev pub Entry : Type 0
Entry = Vec ℕ Global × Unit {0}

abbrev on_key : (List ℕ → Bool) → Vec ℕ Global → Bool
on_key p k = p k.items

prefix-names : (p : List ℕ → Bool) (es : List Entry) → position_or_len (on_key p) (keys_of es) ≡ position_or_len p (names_of es)
prefix-names p [] = refl
prefix-names p (e ∷ es) = ap (λ n. cond (not (p e.0.items)) (1 + n) 0) (prefix-names p es)

length-names : (es : List Entry) → length (keys_of es) ≡ length (names_of es)
length-names [] = refl
length-names (e ∷ es) = ap suc (length-names es)

-- the index of a key is the number of its name
pub position-names : (p : List ℕ → Bool) (es : List Entry) → position (on_key p) (keys_of es) ≡ position p (names_of es)
position-names p es = λ i. cond (nat_lt (prefix-names p es i) (length-names es i)) (Some (prefix-names p es i)) None

some-if : (b : Bool) (k : ℕ) → is_some (cond b (Some k) None) ≡ b
some-if true k = refl
some-if false k = refl

lt-first : (m : ℕ) → nat_lt 0 (suc m) ≡ true
lt-first m = grind (arith, common_steps)

lt-later : (k m : ℕ) → nat_lt (1 + k) (suc m) ≡ nat_lt k m
lt-later k m = grind (arith, common_steps)

lt-known : (p : List ℕ → Bool) (ns : List (List ℕ)) → nat_lt (position_or_len p ns) (length ns) ≡ list_any p ns
lt-known p [] = refl
lt-known p (n ∷ ns) = by (p n) (lt-known p ns)
  where
    by : (b : Bool) → nat_lt (position_or_len p ns) (length ns) ≡ list_any p ns
        → nat_lt (cond (not b) (1 + position_or_len p ns) 0) (suc (length ns)) ≡ (b || list_any p ns)
    by true rest = lt-first (length ns)
    by false rest = lt-later (position_or_len p ns) (length ns) ∙ rest

-- a name is known where it has a number
pub known-by-place : (p : List ℕ → Bool) (ns : List (List ℕ)) → is_some (position p ns) ≡ list_any p ns
known-by-place p ns = some-if _ _ ∙ lt-known p ns

-- a new name goes last
pub insert-names : (es : List Entry) (k : Vec ℕ Global) (eq : Vec ℕ Global → Vec ℕ Global → Bool) → ((x : Vec ℕ Global) → eq k x ≡ bytes_eq k.items x.items)
    → is_known k.items (names_of es) ≡ false → names_of (insert_entry eq es k tt) ≡ names_of es ++ k.items ∷ []
insert-names [] k eq same none = refl
insert-names (e ∷ es) k eq same none = by (bytes_eq k.items e.0.items) refl (insert-names es k eq same)
  where
    by : (b : Bool) → bytes_eq k.items e.0.items ≡ b → (is_known k.items (names_of es) ≡ false → names_of (insert_entry eq es k tt) ≡ names_of es ++ k.items
        ∷ []) → names_of (insert_entry eq (e ∷ es) k tt) ≡ names_of (e ∷ es) ++ k.items ∷ []
    by true h rest = absurd (true≢false (sym (ap (λ c. c || is_known k.items (names_of es)) h) ∙ none))
    by false h rest =
        ap (λ c. names_of (if c then (e.0, tt) ∷ es else e ∷ insert_entry eq es k tt)) (same e.0 ∙ h)
        ∙ ap (λ ns. e.0.items ∷ ns) (rest (sym (ap (λ c. c || is_known k.items (names_of es)) h) ∙ none))
