-- Sequences whose elements come on lanes and in slots: how they are spread, and that folds and scans of them fit.
use Rattle.std.proofs.Common.{◌≡◌, ℕ, ◌-◌, ◌*◌, ◌/◌, ◌%◌, ◌<◌, ◌≤◌, nat_eq, nat_lt, cond, Bool, true, false, Option, Some, refl, ap, sym, ◌∙◌, arith, inl, inr, IsTrue}
use Rattle.std.specs.Option.{option_map}
use Rattle.std.proofs.Math.Nat.{mod_self}
use Rattle.std.proofs.lemmas.Bool.{cases_eq, eq-eqb, false≢true}
use Rattle.std.proofs.lemmas.Bool.Decides.{nat_tests}
use Rattle.std.proofs.lemmas.Option.{same_Some}
use Rattle.ae_word.specs.declared.op.WordOp.{WordOp}
use Rattle.ae_word.specs.WordTable.{folds}
use Rattle.ae_seqtype.specs.SeqTree.{SeqTree, seq, in_size, parts_in_size}
use Rattle.ae_seq.specs.ProgramTree.{ProgramTree}
use Rattle.ae_seq.specs.Typing.{type_at, ◌>>=◌}
use Rattle.ae_sttype.specs.StTree.{StTree, tseq, sseq, time}
use Rattle.ae_ops.specs.Blocks.{stream_of}
use Rattle.ae_rewrite.specs.declared.cases.Case.{Case}
use Rattle.ae_rewrite.specs.declared.cases.Case.TheVariants.{Parallel, Spread, Grouped, Padded, Folded}
use Rattle.ae_rewrite.specs.LayoutRule.{arranged, case_of, folded_by, greatest_divisor, inner_of, lanes_of, slots_of, rounds_of, lay_of}
use Rattle.ae_rewrite.specs.Calls.{spread, spread_at, fold_of, scan_of, raw_layout}
use Rattle.ae_rewrite.specs.StProgramTree.{StOpTree, fold, scan}
use Rattle.ae_rewrite.proofs.Applies.{Applies, applies, whole, quotient_pos, inner_pos}
use Rattle.ae_rewrite.proofs.Laid.{laid}
use Rattle.ae_flow.specs.Fitted.{IsOneOf, IsArranged, FitsFold, FitsScan, elements_stream}
use Rattle.ae_flow.proofs.Streams.{IsArrangedBy, seq_laid, arranged_stream, some_slots, few_slots, whole_rounds}
use Rattle.ae_flow.proofs.Placed.{IsLaidAs}

-- ---- what is known of a sequence's elements

seq_parts : (n : ℕ) (t : SeqTree) → IsTrue (in_size (seq n t)) → (0 < n) × IsTrue (parts_in_size t)
seq_parts n t h = let a : 0 < n = grind (arith, nat_tests) in let b : IsTrue (parts_in_size t) = grind (arith, nat_tests) in (a, b)

pub record IsSpreadOver (n : ℕ) (t : SeqTree) (budget : ℕ) (s : StTree) : Type 0 where
  pub arranged : IsArrangedBy n t budget s
  pub some : 0 < n
  pub applies : Applies n budget arranged.case
  pub inner : 0 < inner_of n budget arranged.case
  pub some_slots : 1 ≤ slots_of n budget arranged.case
  pub few_slots : slots_of n budget arranged.case ≤ rounds_of n budget arranged.case
  pub whole : rounds_of n budget arranged.case * inner_of n budget arranged.case ≡ budget
  pub room : slots_of n budget arranged.case * time arranged.of ≤ budget
  pub ins : stream_of s ≡ elements_stream (slots_of n budget arranged.case) (lanes_of n budget arranged.case) arranged.of

rooms : (a b c m : ℕ) → a ≤ b → b * c ≡ m → a * c ≤ m
rooms a b c m h e = grind arith

pub spread_over : (n : ℕ) (t : SeqTree) (budget : ℕ) (s : StTree) → 0 < budget → IsLaidAs (seq n t) budget s → IsSpreadOver n t budget s
spread_over n t budget s some h =
    let size = seq_parts n t h.sized in
    let a = seq_laid n t budget s h.laid in
    let by = applies n budget a.case some a.applies in
    let inner = inner_pos n budget a.case size.0 some by in
    let few = few_slots n budget a.case by in
    let rounds = whole_rounds n budget a.case size.0 by in
    let clocks = (laid t (inner_of n budget a.case) a.of size.1 inner a.laid).time in
    record {
      arranged = a;
      some = size.0;
      applies = by;
      inner = inner;
      some_slots = some_slots n budget a.case size.0 some by;
      few_slots = few;
      whole = rounds;
      room = rooms (slots_of n budget a.case) (rounds_of n budget a.case) (time a.of) budget few (ap (λ x. rounds_of n budget a.case * x) clocks ∙ rounds);
      ins = ap stream_of (sym a.is) ∙ arranged_stream n budget a.case a.of;
    }

-- how it is spread, as the rewriting sees it
pub spread_is : (p : ProgramTree) (f budget a n : ℕ) (t : SeqTree) (s : StTree) (h : IsArrangedBy n t budget s) → type_at p f a ≡ Some (seq n t)
    → spread_at p f budget a ≡ Some (record { count = n; of = t; case = h.case })
spread_is p f budget a n t s h type =
    ap (λ o. o >>= λ u. spread u budget) type ∙ ap (option_map (λ (c : Case). record { count = n; of = t; case = c })) h.applies

-- ---- folds

one_by : (b : Bool) (rest : ℕ) (t : StTree) → IsOneOf t (cond b (sseq 1 t) (tseq 1 rest t))
one_by true rest t = inl refl
one_by false rest t = inr (rest, refl)

pub fold_fits : (p : ProgramTree) (f budget a n : ℕ) (op : WordOp) (t : SeqTree) (x s : StTree) (made : StOpTree) (Fits : StOpTree → Type 0) → 0 < budget
    → folds op ≡ true → type_at p f a ≡ Some (seq n t) → IsLaidAs (seq n t) budget x
    → ((slots lanes : ℕ) (raw : StTree) → FitsFold budget op slots lanes raw x s → Fits (fold op slots lanes raw))
    → (spread_at p f budget a >>= fold_of op budget) ≡ Some made → Fits made
fold_fits p f budget a n op t x s made Fits some is_fold type laid goal plain =
    let h = spread_over n t budget x some laid in
    let c = h.arranged.case in
    let slots : ℕ = slots_of n budget c in
    let lanes : ℕ = lanes_of n budget c in
    let raw : StTree = raw_layout budget (inner_of n budget c) h.arranged.of in
    let m : fold op slots lanes raw ≡ made =
    same_Some _ made (sym (ap (λ o. o >>= fold_of op budget) (spread_is p f budget a n t x h.arranged type) ∙
    ap (option_map (λ y. fold op slots lanes (raw_layout budget (inner_of n budget c) y))) h.arranged.laid) ∙ plain) in
    rw (← m) (goal slots lanes raw (record {
      element = h.arranged.of;
      one = one_by (nat_eq budget 1) (budget / inner_of n budget c - 1) h.arranged.of;
      foldable = is_fold;
      room = h.room;
      ins = h.ins;
    }))

-- ---- scans

-- which case comes before which
grouped_after : (o s g p : Bool) (last : Option Case) → cond o (Some Parallel)
    (cond s (Some Spread) (cond g (Some Grouped) (cond p (Some Padded) last))) ≡ Some Grouped → s ≡ false
grouped_after true s g p last h = cc
grouped_after false true g p last h = cc
grouped_after false false g p last h = refl

folded_after : (o s g p : Bool) (last : Option Case) (d : ℕ)
    → cond o (Some Parallel) (cond s (Some Spread) (cond g (Some Grouped) (cond p (Some Padded) last))) ≡ Some (Folded d) → p ≡ false
folded_after true s g p last d h = cc
folded_after false true g p last d h = cc
folded_after false false true p last d h = cc
folded_after false false false true last d h = cc
folded_after false false false false last d h = refl

two_of : (q : ℕ) → 0 < q → (q ≡ 1 → ⊥) → 2 ≤ q
two_of q p h = elim (cases_eq q 1) [ inl e ↦ absurd (h e) | inr ne ↦ omega arith ]

grouped_many : (n clocks : ℕ) → 0 < n → 0 < clocks → n % clocks ≡ 0 → case_of n clocks ≡ Some Grouped → 2 ≤ n / clocks
grouped_many n clocks p q h is = two_of (n / clocks) (quotient_pos n clocks p q h) (λ one.
    let w : clocks * (n / clocks) ≡ n = whole n clocks q h in
    let e : clocks ≡ n = omega (arith, w, ap (λ x. clocks * x) one) in
    let none : clocks % n ≡ 0 = ap (λ x. clocks % x) (sym e) ∙ mod_self clocks in
    let spread = grouped_after (nat_eq clocks 1) (nat_eq (clocks % n) 0) (nat_eq (n % clocks) 0) (nat_lt n clocks)
    (folded_by (greatest_divisor n (clocks - 1))) is in
    false≢true (sym spread ∙ eq-eqb (clocks % n) 0 none))

folded_many : (n clocks d : ℕ) → 0 < n → 1 < d → n % d ≡ 0 → d < clocks → case_of n clocks ≡ Some (Folded d) → 2 ≤ n / d
folded_many n clocks d p b h less is =
    let some : 0 < d = omega arith in
    two_of (n / d) (quotient_pos n d p some h) (λ one.
    let w : d * (n / d) ≡ n = whole n d some h in
    let e : d ≡ n = omega (arith, w, ap (λ x. d * x) one) in
    let padded = folded_after (nat_eq clocks 1) (nat_eq (clocks % n) 0) (nat_eq (n % clocks) 0) (nat_lt n clocks)
    (folded_by (greatest_divisor n (clocks - 1))) d is in
    let high : clocks ≤ n = grind (arith, nat_tests, padded) in
    absurd (omega arith))

pub arranged_is : (n clocks : ℕ) (c : Case) (t : StTree) → 0 < n → 0 < clocks → Applies n clocks c → case_of n clocks ≡ Some c
    → IsArranged (slots_of n clocks c) (lanes_of n clocks c) t (arranged n clocks c t)
arranged_is n clocks Parallel t p q h is = inl (refl, refl)
arranged_is n clocks Spread t p q h is = inr (inl (refl, (0, refl)))
arranged_is n clocks Grouped t p q h is = inr (inr (grouped_many n clocks p q h is, (0, refl)))
arranged_is n clocks Padded t p q h is = inr (inl (refl, (clocks - n, refl)))
arranged_is n clocks (Folded d) t p q h is = inr (inr (folded_many n clocks d p h.0 h.1 h.2 is, (clocks - d, refl)))

pub scan_fits : (p : ProgramTree) (f budget a n : ℕ) (op : WordOp) (t : SeqTree) (x s : StTree) (made : StOpTree) (Fits : StOpTree → Type 0) → 0 < budget
    → folds op ≡ true → type_at p f a ≡ Some (seq n t) → IsLaidAs (seq n t) budget x → lay_of (seq n t) budget ≡ Some s
    → ((slots lanes : ℕ) → FitsScan budget op slots lanes x s → Fits (scan op slots lanes))
    → option_map (scan_of op budget) (spread_at p f budget a) ≡ Some made → Fits made
scan_fits p f budget a n op t x s made Fits some is_fold type laid out goal plain =
    let h = spread_over n t budget x some laid in
    let c = h.arranged.case in
    let slots : ℕ = slots_of n budget c in
    let lanes : ℕ = lanes_of n budget c in
    let same : arranged n budget c h.arranged.of ≡ s = h.arranged.is ∙ same_Some x s (sym laid.laid ∙ out) in
    let m : scan op slots lanes ≡ made = same_Some _ made (sym (ap (option_map (scan_of op budget)) (spread_is p f budget a n t x h.arranged type)) ∙ plain) in
    rw (← m) (goal slots lanes (record {
      element = h.arranged.of;
      arranged = rw (← same) (arranged_is n budget c h.arranged.of h.some some h.applies h.arranged.applies);
      foldable = is_fold;
      room = h.room;
      ins = h.ins;
    }))
