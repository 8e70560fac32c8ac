-- Times as they come: what is kept of them.
use Rattle.std.proofs.Common.{◌≡◌, ℕ, ◌+◌, ◌*◌, ◌<◌, ◌≤◌, true, false, ◌&&◌, nat_le, List, [], ◌∷◌, ◌++◌, length, length-append, Option, Some, None, is_some, if◌then◌else◌, refl, sym, ap, ◌∙◌, subst, arith}
use Rattle.std.specs.Str.Parse.{digits_value}
use Rattle.std.proofs.Math.Nat.{mul-le-mul_right}
use Rattle.std.proofs.lemmas.Bool.{false_from_ne_true, le-leb, leb-true}
use Rattle.ae_vcd.specs.declared.body.Recorded.{Recorded}
use Rattle.ae_vcd.specs.Waves.{size_limit, wave_size}
use Rattle.ae_vcd.specs.Forms.{Piece, Time, Variable, is_after}
use Rattle.ae_vcd.specs.Machine.{time_of}
use Rattle.ae_vcd.specs.Readings.{times_from}
use Rattle.ae_vcd.specs.Rows.{HasRows, is_quiet, words_now}
use Rattle.ae_vcd.specs.Held.{HasTimes, IsClosed, IsLater, Keeps, is_small, row}
use Rattle.ae_vcd.proofs.Reading.{append_none}
use Rattle.ae_vcd.proofs.Meant.{quiet_append, quiet_time, quiet_times, time_append, times_append}
use Rattle.ae_vcd.proofs.Rows.{rows_again, rows_first, rows_later, rows_quiet}

same_times : (ps qs : List Piece) → is_quiet qs → times_from None (ps ++ qs) ≡ times_from None ps
same_times ps qs q = times_append None ps qs ∙ (ap (λ l. times_from None ps ++ l) (quiet_times (time_of None ps) qs q) ∙ append_none (times_from None ps))

same_time : (ps qs : List Piece) → is_quiet qs → time_of None (ps ++ qs) ≡ time_of None ps
same_time ps qs q = time_append None ps qs ∙ quiet_time (time_of None ps) qs q

-- pieces that are no times
pub times_quiet : (r : Recorded) (vs : List Variable) (ps qs : List Piece) → is_quiet qs → HasTimes r vs ps → HasTimes r vs (ps ++ qs)
times_quiet r vs ps qs q h = record {
  count = h.count ∙ ap (λ (l : List ℕ). length l) (sym (same_times ps qs q));
  last = h.last ∙ sym (same_time ps qs q);
  kept = subst (λ o. Keeps o r vs (ps ++ qs)) (sym (same_time ps qs q)) (kept (time_of None ps) h.kept);
}
  where
    kept : (o : Option ℕ) → Keeps o r vs ps → Keeps o r vs (ps ++ qs)
    kept None k = (quiet_append ps qs k.0 q, k.1, k.2)
    kept (Some last) k = (k.0, k.1, rows_quiet vs ps qs k.0 last k.1 q k.2, k.3)

-- the same time again
pub times_again : (r : Recorded) (vs : List Variable) (ps : List Piece) (digits : List ℕ) (last : ℕ) → digits_value 10 digits ≡ last
    → time_of None ps ≡ Some last → HasTimes r vs ps → HasTimes r vs (ps ++ Time digits ∷ [])
times_again r vs ps digits last e t h =
    let k : Keeps (Some last) r vs ps = subst (λ o. Keeps o r vs ps) t h.kept in
    let again : HasRows vs (ps ++ Time digits ∷ []) k.0 last k.1 = rows_again vs ps digits k.0 last k.1 e k.2 in
    record {
      count = h.count ∙ ap (λ (l : List ℕ). length l) (k.2.times ∙ sym again.times);
      last = h.last ∙ (t ∙ sym again.time);
      kept = subst (λ o. Keeps o r vs (ps ++ Time digits ∷ [])) (sym again.time) (k.0, k.1, again, k.3);
    }

pub small_true : (times variables : ℕ) → wave_size times variables ≤ size_limit → is_small times variables ≡ true
small_true times variables l = le-leb (wave_size times variables) size_limit l

fewer : (a b n : ℕ) → a ≤ b → wave_size b n ≤ size_limit → wave_size a n ≤ size_limit
fewer a b n l s = (let m : a * (1 + n) ≤ b * (1 + n) = mul-le-mul_right (1 + n) l in omega arith)

-- a later time, behind the row of the last
pub times_open : (old closed new : Recorded) (vs : List Variable) (ps : List Piece) (digits numbers : List ℕ) (time : ℕ) → HasTimes old vs ps
    → length numbers ≡ length vs → row old.latest.items numbers ≡ words_now vs ps → time ≡ digits_value 10 digits → IsLater (time_of None ps) time
    → IsClosed old closed numbers → new.count ≡ closed.count + 1 → new.last ≡ Some time → new.words.items ≡ closed.words.items
    → new.times.items ≡ (if is_small new.count (length numbers) then closed.times.items ++ time ∷ [] else closed.times.items)
    → HasTimes new vs (ps ++ Time digits ∷ [])
times_open old closed new vs ps digits numbers time h many present value later c count last words times = cases (time_of None ps) h.last h.kept later
  where
    now : ℕ
    now = digits_value 10 digits

    more : old.count + 1 ≡ new.count
    more = sym (count ∙ ap (λ n. n + 1) c.count)

    open_with : (earlier rows : List ℕ) → HasRows vs (ps ++ Time digits ∷ []) earlier (digits_value 10 digits) rows → length earlier ≡ old.count
        → (wave_size (length earlier + 1) (length vs) ≤ size_limit → (old.times.items ≡ earlier) × (closed.words.items ≡ rows))
        → HasTimes new vs (ps ++ Time digits ∷ [])
    open_with earlier rows r l f = record {
      count = (let n : length (earlier ++ digits_value 10 digits ∷ []) ≡ length earlier + 1 = length-append earlier (digits_value 10 digits ∷ []) in sym more ∙
          (ap (λ n. n + 1) (sym l) ∙ (sym n ∙ ap (λ (l : List ℕ). length l) (sym r.times))));
      last = last ∙ (ap (λ n. Some n) value ∙ sym r.time);
      kept = subst (λ o. Keeps o new vs (ps ++ Time digits ∷ [])) (sym r.time) (
        earlier,
        rows,
        r,
        λ s. (
            let g = f s in
            let size : is_small new.count (length numbers) ≡ true = (λ i. is_small (sym more i) (many i)) ∙
            (ap (λ n. is_small (n + 1) (length vs)) (sym l) ∙ small_true (length earlier + 1) (length vs) s) in (
              times ∙ (ap (λ b. if b then closed.times.items ++ time ∷ [] else closed.times.items) size ∙ (λ i. (c.times ∙ g.0) i ++ value i ∷ [])),
              words ∙
                  g.1,
            )),
      );
    }

    cases : (o : Option ℕ) → old.last ≡ o → Keeps o old vs ps → IsLater o time → HasTimes new vs (ps ++ Time digits ∷ [])
    cases None e k l =
        let none : old.count ≡ 0 = h.count ∙ ap (λ (l : List ℕ). length l) (quiet_times None ps k.0) in
        open_with [] [] (rows_first vs ps digits k.0) (sym none)
        (λ s. (
          k.1,
          c.words ∙ (ap (λ o. if is_some o && is_small old.count (length numbers) then old.words.items
              ++ row old.latest.items numbers else old.words.items) e ∙ k.2),
        ))
    cases (Some was) e k l =
        let before : old.count ≡ length (k.0 ++ was ∷ []) = h.count ∙ ap (λ (l : List ℕ). length l) k.2.times in
        let long : length (k.0 ++ was ∷ []) ≡ length k.0 + 1 = length-append k.0 (was ∷ []) in
        open_with (k.0 ++ was ∷ []) (k.1 ++ words_now vs ps) (rows_later vs ps digits k.0 was k.1 (omega arith) k.2) (sym before)
        (λ s.
        let fits : wave_size (length k.0 + 1) (length vs) ≤ size_limit = fewer (length k.0 + 1) (length (k.0 ++ was ∷ []) + 1) (length vs) (omega arith) s in
        let g = k.3 fits in
        let size : is_small old.count (length numbers) ≡ true = (λ i. is_small ((before ∙ long) i) (many i)) ∙ small_true (length k.0 + 1) (length vs) fits in (
          g.0,
          c.words ∙ (ap (λ o. if is_some o && is_small old.count (length numbers) then old.words.items
              ++ row old.latest.items numbers else old.words.items) e ∙
              (ap (λ b. if b then old.words.items ++ row old.latest.items numbers else old.words.items) size ∙ (λ i. g.1 i ++ present i))),
        ))

pub not_after : (last time : ℕ) → time < last → is_after (Some last) time ≡ false
not_after last time l = false_from_ne_true (nat_le last time) (λ t. (let q : last ≤ time = leb-true last time t in let f : ⊥ = omega arith in f))

pub after : (last time : ℕ) → last ≤ time → is_after (Some last) time ≡ true
after last time l = le-leb last time l

pub is_none : {X : Type 0} (o : Option X) → ((x : X) → o ≡ Some x → ⊥) → o ≡ None
is_none None h = refl
is_none (Some x) h = absurd (h x refl)
