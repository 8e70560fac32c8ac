-- The words that codes have, as pieces come.
use Rattle.std.proofs.Common.{◌≡◌, ◌≢◌, ℕ, ◌<◌, true, List, [], ◌∷◌, ◌++◌, length, map, get_or, set, replicate, Option, Some, None, if◌then◌else◌, refl, sym, ap, ◌∙◌, arith, inl, inr, ◌⊎◌, Vec}
use Rattle.std.specs.List.{All}
use Rattle.std.specs.Str.{bytes_eq}
use Rattle.std.specs.declared.alloc.Global.{Global}
use Rattle.std.proofs.lemmas.Bool.{cases_Bool, cases_eq}
use Rattle.std.proofs.lemmas.List.{ext_get_or, get_or-map, get_or-replicate, get_or-set_other, get_or-set_same, length-map, length-replicate, length-set}
use Rattle.std.proofs.lemmas.List.Elements.{All-from_get_or}
use Rattle.std.proofs.lemmas.Slice.Eq.{bytes_eq-Decides}
use Rattle.ae_vcd.specs.declared.body.Recorded.{Recorded}
use Rattle.ae_vcd.specs.Codes.{place}
use Rattle.ae_vcd.specs.Forms.{Piece, Variable}
use Rattle.ae_vcd.specs.Readings.{given, last_given}
use Rattle.ae_vcd.specs.Rows.{is_quiet, words_now}
use Rattle.ae_vcd.specs.Machine.{time_of}
use Rattle.ae_vcd.specs.Held.{HasTimes, IsTable, Keeps, Records, code_at, row}
use Rattle.ae_vcd.proofs.Meant.{last_append}
use Rattle.ae_vcd.proofs.Tables.{place_is}
use Rattle.ae_vcd.proofs.Times.{times_quiet}

-- before the first piece
pub records_begin : (r : Recorded) (known : List (List ℕ)) (vs : List Variable) → r.latest.items ≡ replicate (length known) 0 → r.count ≡ 0 → r.last ≡ None
    → r.times.items ≡ [] → r.words.items ≡ [] → Records r known vs []
records_begin r known vs now count last times words = record {
  now = λ i l. ap (λ (x : List ℕ). get_or x i 0) now ∙ get_or-replicate (length known) i 0 0 l;
  each = ap (λ (x : List ℕ). length x) now ∙ length-replicate (length known) 0;
  times = record { count = count; last = last; kept = (tt, times, words) };
}

-- a piece that gives no code a word
pub records_silent : (r : Recorded) (known : List (List ℕ)) (vs : List Variable) (ps : List Piece) (p : Piece) → is_quiet (p ∷ [])
    → ((code : List ℕ) (was : ℕ) → given code p was ≡ was) → Records r known vs ps → Records r known vs (ps ++ p ∷ [])
records_silent r known vs ps p q same h = record {
  now = λ i l. h.now i l ∙ (sym (same (get_or known i []) (last_given (get_or known i []) 0 ps)) ∙ sym (last_append (get_or known i []) 0 ps (p ∷ [])));
  each = h.each;
  times = times_quiet r vs ps (p ∷ []) q h.times;
}

-- a time
pub records_time : (r more : Recorded) (known : List (List ℕ)) (vs : List Variable) (ps : List Piece) (p : Piece)
    → ((code : List ℕ) (was : ℕ) → given code p was ≡ was) → more.latest.items ≡ r.latest.items → HasTimes more vs (ps ++ p ∷ []) → Records r known vs ps
    → Records more known vs (ps ++ p ∷ [])
records_time r more known vs ps p same now times h = record {
  now = λ i l. ap (λ (x : List ℕ). get_or x i 0) now ∙ (h.now i l ∙
      (sym (same (get_or known i []) (last_given (get_or known i []) 0 ps)) ∙ sym (last_append (get_or known i []) 0 ps (p ∷ []))));
  each = ap (λ (x : List ℕ). length x) now ∙ h.each;
  times = times;
}

-- a piece that gives a code a word
pub records_given : (r : Recorded) (now : Vec ℕ Global) (known : List (List ℕ)) (widths numbers : List ℕ) (vs all : List Variable) (ps : List Piece)
    (p : Piece) (own : List ℕ) (n word : ℕ) → is_quiet (p ∷ []) → ((code : List ℕ) (was : ℕ) → given code p was ≡ (if bytes_eq own code then word else was))
    → IsTable known widths numbers all → place own known ≡ Some n → now.items ≡ set r.latest.items n word → Records r known vs ps
    → Records (record r { latest = now }) known vs (ps ++ p ∷ [])
records_given r now known widths numbers vs all ps p own n word q gives t e is h =
    let o = place_is own known n e in
    record {
      now = λ i l. ap (λ (x : List ℕ). get_or x i 0) is ∙ (one i l (cases_eq i n) ∙
          (sym (gives (get_or known i []) (last_given (get_or known i []) 0 ps)) ∙ sym (last_append (get_or known i []) 0 ps (p ∷ []))));
      each = ap (λ (x : List ℕ). length x) is ∙ (length-set r.latest.items n word ∙ h.each);
      times = times_quiet (record r { latest = now }) vs ps (p ∷ []) q
          (record { count = h.times.count; last = h.times.last; kept = same (time_of None ps) h.times.kept });
    }
  where
    same : (o : Option ℕ) → Keeps o r vs ps → Keeps o (record r { latest = now }) vs ps
    same None k = k
    same (Some last) k = k

    one : (i : ℕ) → i < length known → (i ≡ n) ⊎ (i ≢ n) → get_or
        (set r.latest.items n word) i 0 ≡ (if bytes_eq own (get_or known i []) then word else last_given (get_or known i []) 0 ps)
    one i l (inl s) =
        let o = place_is own known n e in
        let b : bytes_eq own (get_or known i []) ≡ true = (bytes_eq-Decides own (get_or known i [])).1 (sym (ap (λ j. get_or known j []) s ∙ o.1)) in
        ap (λ j. get_or (set r.latest.items n word) j 0) s ∙
        (get_or-set_same r.latest.items n word 0 (let m = o.0 in omega (arith, h.each)) ∙
        ap (λ c. if c then word else last_given (get_or known i []) 0 ps) (sym b))
    one i l (inr s) = elim (cases_Bool (bytes_eq own (get_or known i []))) [
      | inl b ↦ absurd (
          let c : own ≡ get_or known i [] = (bytes_eq-Decides own (get_or known i [])).0 b in
          let f : Some n ≡ Some i = sym e ∙ (ap (λ x. place x known) c ∙ t.once i l) in
          let g : n ≡ i = cc in
          s (sym g))
      | inr b ↦ get_or-set_other r.latest.items n i word 0 s ∙ (h.now i l ∙ ap (λ c. if c then word else last_given (get_or known i []) 0 ps) (sym b))
    ]

-- the present words of the variables, by the numbers of their codes
pub present : (known : List (List ℕ)) (widths numbers now : List ℕ) (vs : List Variable) (ps : List Piece) → IsTable known widths numbers vs
    → ((i : ℕ) → i < length known → get_or now i 0 ≡ last_given (get_or known i []) 0 ps) → row now numbers ≡ words_now vs ps
present known widths numbers now vs ps t h = ext_get_or 0 (row now numbers) (words_now vs ps) long each
  where
    long : length (row now numbers) ≡ length (words_now vs ps)
    long = length-map numbers (λ n. get_or now n 0) ∙ (t.many ∙ sym (length-map vs (λ (v : Variable). last_given v.code 0 ps)))

    by_code : (us : List Variable) → map (λ (v : Variable). last_given v.code 0 ps) us ≡ map (λ c. last_given c 0 ps) (map (λ (v : Variable). v.code) us)
    by_code [] = refl
    by_code (u ∷ us) = ap (λ l. last_given u.code 0 ps ∷ l) (by_code us)

    each : (k : ℕ) → k < length (row now numbers) → get_or (row now numbers) k 0 ≡ get_or (words_now vs ps) k 0
    each k l =
        let b : k < length numbers = omega (arith, length-map numbers (λ n. get_or now n 0)) in
        let m : k < length vs = omega (arith, t.many) in
        let p = place_is (code_at vs k) known (get_or numbers k 0) (t.found k m) in
        get_or-map (λ n. get_or now n 0) numbers k 0 0 b
        ∙ (h (get_or numbers k 0) p.0
        ∙ (ap (λ c. last_given c 0 ps) p.1
        ∙ (sym (get_or-map (λ c. last_given c 0 ps) (map (λ (v : Variable). v.code) vs) k [] 0 (omega (arith, length-map vs (λ (v : Variable). v.code))))
        ∙ ap (λ (x : List ℕ). get_or x k 0) (sym (by_code vs)))))

-- the numbers are those of words
pub in_reach : (known : List (List ℕ)) (widths numbers now : List ℕ) (vs : List Variable) → IsTable known widths numbers vs → length now ≡ length known
    → All (λ n. n < length now) numbers
in_reach known widths numbers now vs t e =
    All-from_get_or (λ n. n < length now) numbers 0 (λ k l.
    (let p = place_is (code_at vs k) known (get_or numbers k 0) (t.found k (omega (arith, t.many))) in let q = p.0 in omega arith))
