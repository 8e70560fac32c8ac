-- Names are ASCII.
use Rattle.std.proofs.Common.{◌≡◌, ℕ, zero, suc, ◌<◌, Bool, true, false, ◌&&◌, ◌||◌, ◌==◌, not, nat_le, List, [], ◌∷◌, length, refl, arith, codes}
use Rattle.std.proofs.lemmas.Bool.{leb-true, eqb-true}
use Rattle.std.specs.Str.{IsAscii}
use Rattle.ae_seq.specs.Formed.{all_name_bytes, begins_with_letter, is_name, is_name_byte, is_letter, same_bytes, within}
use Rattle.ae_seq.proofs.Judging.{left as and-first, right as and-second}

pub or-elim : {P : Type 0} (a b : Bool) → (a || b) ≡ true → (a ≡ true → P) → (b ≡ true → P) → P
or-elim true b h f g = f refl
or-elim false b h f g = g h

pub name-byte-small : (b : ℕ) → is_name_byte b ≡ true → b < 128
name-byte-small b h =
    or-elim (is_letter b) (within 48 57 b) h
    (λ h1. or-elim (within 97 122 b || within 65 90 b) (b == 95) h1
    (λ h2. or-elim (within 97 122 b) (within 65 90 b) h2
    (λ e. let l = leb-true b 122 (and-second (nat_le 97 b) _ e) in omega arith)
    (λ e. let l = leb-true b 90 (and-second (nat_le 65 b) _ e) in omega arith))
    (λ e. let l = eqb-true b 95 e in omega arith))
    (λ e. let l = leb-true b 57 (and-second (nat_le 48 b) _ e) in omega arith)

pub name-bytes-ascii : (bs : List ℕ) → all_name_bytes bs ≡ true → IsAscii bs
name-bytes-ascii [] h i = omega arith
name-bytes-ascii (b ∷ bs) h zero = name-byte-small b (and-first _ _ h)
name-bytes-ascii (b ∷ bs) h (suc i) = name-bytes-ascii bs (and-second (is_name_byte b) _ h) i

pub name-bytes : (bs : List ℕ) → is_name bs ≡ true → all_name_bytes bs ≡ true
name-bytes bs h =
    let no_end = and-first _ (not (same_bytes bs (codes "end"))) h in
    let no_fn = and-first _ (not (same_bytes bs (codes "fn"))) no_end in
    and-second (nat_le (length bs) 32 && begins_with_letter bs) _ no_fn
