-- How calls that take or append one after another join.
use Rattle.std.proofs.Common.{◌≡◌, ℕ, ◌+◌, ◌≤◌, List, ◌++◌, length, take, drop, OnErr, Result, Ok, Err, Option, None, Some, refl, sym, ap, ◌∙◌, subst, append_assoc, arith, length-append}
use Rattle.std.proofs.lemmas.List.{take-append-drop, drop_at, drop-drop, length-take-le, take-take}
use Rattle.std.proofs.Math.Seq.{take-add}
use Rattle.ae_io.specs.Told.{Takes, TakesCount, Appends}

-- the first n bytes were taken
pub takes_front : (left rest bytes : List ℕ) (n : ℕ) → take n left ≡ bytes → drop n left ≡ rest → Takes (Some left) (Some rest) bytes
takes_front left rest bytes n front back =
    (rest, sym (take-append-drop n left) ∙ ap (λ xs. xs ++ drop n left) front ∙ ap (λ xs. bytes ++ xs) back, refl)

-- what was taken first, and what was taken then
pub takes_more : (old mid new : Option (List ℕ)) (first more : List ℕ) → Takes old mid first → Takes mid new more → Takes old new (first ++ more)
takes_more None mid new first more t u = tt
takes_more (Some left) mid new first more t u =
    let v : Takes (Some t.0) new more = subst (λ m. Takes m new more) t.2 u in
    (v.0, t.1 ∙ ap (λ xs. first ++ xs) v.1 ∙ sym (append_assoc first more v.0), v.2)

-- how many were taken
pub takes_count : (old new : Option (List ℕ)) (bytes : List ℕ) (n : ℕ) → length bytes ≡ n → Takes old new bytes → TakesCount old new n
takes_count None new bytes n len t = tt
takes_count (Some left) new bytes n len t =
    let whole : length left ≡ length bytes + length t.0 = ap length t.1 ∙ length-append bytes t.0 in
    let rest : drop n left ≡ t.0 = ap (drop n) t.1 ∙ drop_at bytes t.0 n len in
    (omega arith, t.2 ∙ ap Some (sym rest))

pub appends_more : (old mid new : Option (List ℕ)) (first more : List ℕ) → Appends old mid first → Appends mid new more → Appends old new (first ++ more)
appends_more None mid new first more t u = tt
appends_more (Some written) mid new first more t u =
    let v : Appends (Some (written ++ first)) new more = subst (λ m. Appends m new more) t u in
    v ∙ ap Some (append_assoc written first more)

-- a source over bytes from a place on gave n of them
pub takes_cursor : (bytes left front : List ℕ) (at n : ℕ) → drop at bytes ≡ left → take n (drop at bytes) ≡ front
    → Takes (Some left) (Some (drop (at + n) bytes)) front
takes_cursor bytes left front at n is given =
    takes_front left (drop (at + n) bytes) front n (ap (take n) (sym is) ∙ given) (ap (drop n) (sym is) ∙ drop-drop n at bytes)

-- n bytes of a buffer were taken after others: k bytes in all
pub takes_count_more : (old mid new : Option (List ℕ)) (had buf : List ℕ) (n k : ℕ) → Takes old mid had → Takes mid new (take n buf) → n ≤ length buf
    → length had + n ≡ k → TakesCount old new k
takes_count_more old mid new had buf n k t u within sum =
    takes_count old new (had ++ take n buf) k (length-append had (take n buf) ∙ ap (λ m. length had + m) (length-take-le n buf within) ∙ sum)
    (takes_more old mid new had (take n buf) t u)

-- a fact that holds anyhow holds of each error
pub on_err : {T E : Type 0} (r : Result T E) (P : Type 0) → P → OnErr r P
on_err (Ok x) P p = tt
on_err (Err e) P p = p

-- one more part of a list was appended
pub appends_part : (old mid new : Option (List ℕ)) (bytes : List ℕ) (at n m : ℕ) → Appends old mid (take at bytes)
    → Appends mid new (take n (take m (drop at bytes))) → n ≤ m → Appends old new (take (at + n) bytes)
appends_part old mid new bytes at n m had more within =
    let joined : take at bytes ++ take n (take m (drop at bytes)) ≡ take (at + n) bytes =
    ap (λ xs. take at bytes ++ xs) (take-take n m (drop at bytes) within) ∙ sym (take-add at n bytes) in
    subst (λ xs. Appends old new xs) joined (appends_more old mid new (take at bytes) (take n (take m (drop at bytes))) had more)
