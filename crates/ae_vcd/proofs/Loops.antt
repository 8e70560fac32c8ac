-- A reading from word to word.
use Rattle.std.proofs.Common.{◌≡◌, ℕ, ◌+◌, ◌-◌, ◌<◌, ◌≤◌, true, false, List, [], ◌∷◌, ◌++◌, length, take, drop, get_or, length-drop, Option, Some, None, refl, sym, ap, ◌∙◌, subst, arith, inl, inr}
use Rattle.std.proofs.lemmas.Bool.{cases_lt}
use Rattle.std.proofs.lemmas.List.{drop_more, take_more}
use Rattle.std.proofs.Math.Seq.{take-length}
use Rattle.ae_vcd.specs.declared.reader.Reader.{Reader}
use Rattle.ae_vcd.specs.Waves.{most_variables}
use Rattle.ae_vcd.specs.TextWords.{text_words}
use Rattle.ae_vcd.specs.Forms.{HeaderCommand, Declare, Other, Piece, Variable, variables}
use Rattle.ae_vcd.specs.Machine.{Inside, Mode, State, go_on, start, step}
use Rattle.ae_vcd.specs.Readings.{IsBadWord}
use Rattle.ae_vcd.specs.Held.{Answers, Follows, begun_in}
use Rattle.ae_vcd.proofs.Reading.{append_none, go_append}
use Rattle.ae_vcd.proofs.Sound.{HasRead, IsMode, has_read, start_valid}
use Rattle.ae_vcd.proofs.Viable.{bad_step}
use Rattle.ae_vcd.proofs.Sized.{few_variables, more_few}

-- the reader has read the first words of the text, and the others are those of the rest
pub record HasReached (text : List ℕ) (at : ℕ) (rest : List ℕ) (r : Reader) : Type 0 where
  pub state : State
  pub read : go_on (Some start) (take at (text_words text)) ≡ Some state
  pub follows : Follows r state
  pub others : drop at (text_words text) ≡ text_words rest
  pub within : at ≤ length (text_words text)

record HasHead (ws : List (List ℕ)) (k : ℕ) (x : List ℕ) (ys : List (List ℕ)) : Type 0 where
  pub within : k < length ws
  pub head : get_or ws k [] ≡ x
  pub tail : drop (k + 1) ws ≡ ys

drop_head : (ws : List (List ℕ)) (k : ℕ) (x : List ℕ) (ys : List (List ℕ)) → drop k ws ≡ x ∷ ys → HasHead ws k x ys
drop_head ws k x ys e = elim (cases_lt k (length ws)) [
  | inl l ↦ (
      let m : drop k ws ≡ get_or ws k [] ∷ drop (k + 1) ws = drop_more ws k [] l in
      let q : get_or ws k [] ∷ drop (k + 1) ws ≡ x ∷ ys = sym m ∙ e in
      let h : get_or ws k [] ≡ x = cc in
      let t : drop (k + 1) ws ≡ ys = cc in
      record { within = l; head = h; tail = t })
  | inr l ↦ absurd (
      let a : length (drop k ws) ≡ length ws - k = length-drop k ws in
      let b : length (drop k ws) ≡ length (x ∷ ys) = ap (λ (l : List (List ℕ)). length l) e in
      let f : ⊥ = omega arith in f)
]

record HasTaken (r : Reader) (o : Option State) : Type 0 where
  pub state : State
  pub is : o ≡ Some state
  pub follows : Follows r state

taken : (r : Reader) (o : Option State) → Answers true r o → HasTaken r o
taken r None h = absurd h
taken r (Some t) h = record { state = t; is = refl; follows = h }

not_taken : (r : Reader) (o : Option State) → Answers false r o → o ≡ None
not_taken r None h = refl
not_taken r (Some t) h = absurd h

-- a word that is taken
pub reach_more : (text : List ℕ) (at : ℕ) (rest word after : List ℕ) (r more : Reader) → HasReached text at rest r → text_words rest ≡ word ∷ text_words after
    → ((s : State) → Follows r s → Answers true more (step s word)) → HasReached text (at + 1) after more
reach_more text at rest word after r more h e f =
    let d = drop_head (text_words text) at word (text_words after) (h.others ∙ e) in
    let t = taken more (step h.state word) (f h.state h.follows) in
    record {
      state = t.state;
      read = ap (go_on (Some start)) (take_more (text_words text) at [] d.within) ∙
          (go_append (Some start) (take at (text_words text)) (get_or (text_words text) at [] ∷ []) ∙ ((λ i. go_on (h.read i) (d.head i ∷ [])) ∙ t.is));
      follows = t.follows;
      others = d.tail;
      within = (let l = d.within in omega arith);
    }

-- a word that is not taken is the first bad one
pub reach_bad : (text : List ℕ) (at : ℕ) (rest word after : List ℕ) (r more : Reader) → HasReached text at rest r → text_words rest ≡ word ∷ text_words after
    → ((s : State) → Follows r s → Answers false more (step s word)) → IsBadWord (text_words text) at
reach_bad text at rest word after r more h e f =
    let d = drop_head (text_words text) at word (text_words after) (h.others ∙ e) in
    bad_step (text_words text) at h.state d.within h.read (ap (step h.state) d.head ∙ not_taken more (step h.state word) (f h.state h.follows))

-- at the end all words are read
pub record HasEnded (text : List ℕ) (at : ℕ) (r : Reader) : Type 0 where
  pub state : State
  pub read : go_on (Some start) (text_words text) ≡ Some state
  pub follows : Follows r state
  pub all : at ≡ length (text_words text)

pub reach_end : (text : List ℕ) (at : ℕ) (rest : List ℕ) (r : Reader) → HasReached text at rest r → text_words rest ≡ [] → HasEnded text at r
reach_end text at rest r h e =
    let n : length (drop at (text_words text)) ≡ 0 = ap (λ (l : List (List ℕ)). length l) (h.others ∙ e) in
    let m : length (drop at (text_words text)) ≡ length (text_words text) - at = length-drop at (text_words text) in
    let all : at ≡ length (text_words text) = (let w = h.within in omega arith) in
    record {
      state = h.state;
      read = ap (go_on (Some start)) (sym (ap (λ k. take k (text_words text)) all ∙ take-length (text_words text))) ∙ h.read;
      follows = h.follows;
      all = all;
    }

-- ---- how many variables there are

few_begun : (cs : List HeaderCommand) (ps : List Piece) (mode : Mode) → IsMode mode cs ps → length (variables cs) ≤ most_variables
    → length (variables cs ++ begun_in mode) ≤ most_variables
few_begun cs ps (Inside (Declare kind digits code name rest)) m l = more_few (variables cs) (Declare kind digits code name rest) m.1 l
few_begun cs ps (Inside (Other word rest)) m l = subst (λ (x : List Variable). length x ≤ most_variables) (sym (append_none (variables cs))) l
few_begun cs ps mode m l = subst (λ (x : List Variable). length x ≤ most_variables) (sym (append_none (variables cs))) l

pub few_numbers : (ws : List (List ℕ)) (r : Reader) (s : State) → go_on (Some start) ws ≡ Some s → Follows r s
    → length r.declared.numbers.items ≤ most_variables
few_numbers ws r s e f =
    let h : HasRead start ws s = has_read start ws s start_valid e in
    let a : length (variables s.commands) ≤ most_variables = few_variables [] s.commands h.valid.commands (omega arith) in
    let b : length (variables s.commands ++ begun_in s.mode) ≤ most_variables = few_begun s.commands s.pieces s.mode h.valid.mode a in
    let m = f.declares.table.many in
    omega arith
