-- Operators on words fit the layouts of their operands and their own.
use Rattle.std.proofs.Common.{◌≡◌, ℕ, ◌≤◌, Bool, true, false, List, [], ◌∷◌, map, replicate, Some, refl, ap, sym, ◌∙◌, arith, IsTrue}
use Rattle.std.proofs.lemmas.Bool.{false≢true}
use Rattle.std.proofs.lemmas.Bool.Decides.{nat_tests}
use Rattle.ae_word.specs.declared.op.WordOp.{WordOp}
use Rattle.ae_word.specs.declared.op.WordOp.TheVariants.{Mux, Cast, SCast}
use Rattle.ae_word.specs.AtomTree.{WordKind, word, unsigned_word, signed_word}
use Rattle.ae_word.specs.WordTable.{HasRange, arity_of, result_width_of, op_for, row_of}
use Rattle.ae_seqtype.specs.SeqTree.{SeqTree, atom}
use Rattle.ae_seq.specs.ProgramTree.{ProgramTree}
use Rattle.ae_seq.specs.Formed.{is_word_line, within}
use Rattle.ae_seq.specs.Typing.{type_at, word_type, one_word, as_word}
use Rattle.ae_eval.proofs.Items.{option-both}
use Rattle.ae_eval.proofs.Wording.{one-line, two-line, choice-line, sized-word as kind_sized}
use Rattle.ae_sttype.specs.StTree.{StTree}
use Rattle.ae_ops.specs.Blocks.{stream_of}
use Rattle.ae_ops.specs.Words.{operand_widths, word_stream}
use Rattle.ae_rewrite.specs.Calls.{op_by, is_signed_type, deciding_argument, head}
use Rattle.ae_flow.specs.Flow.{width_of, main_argument, first_width}
use Rattle.ae_flow.specs.Fitted.{FitsWord}
use Rattle.ae_ports.specs.Ports.{streams_of}
use Rattle.ae_flow.proofs.Streams.{atom_laid}
use Rattle.ae_flow.proofs.Placed.{IsLaidAs}

-- ---- the layout of a word

pub record IsOneWord (k : WordKind) (s : StTree) : Type 0 where
  pub stream : stream_of s ≡ word_stream k.width
  pub width : first_width s ≡ k.width
  pub low : 1 ≤ k.width
  pub high : k.width ≤ 64

pub word_laid : (k : WordKind) (budget : ℕ) (s : StTree) → IsLaidAs (atom (word k)) budget s → IsOneWord k s
word_laid k budget s h =
    let a = atom_laid (word k) budget s h.laid in
    let size = kind_sized k h.sized in
    record { stream = rw (a.slots, a.lanes, a.atom) refl; width = rw a.atom refl; low = size.0; high = size.1 }

-- ---- the operators

by_cases : (P : Bool → Type 0) → P true → P false → (b : Bool) → P b
by_cases P yes_case no_case true = yes_case
by_cases P yes_case no_case false = no_case

in_range : (v : ℕ) → IsTrue (within 1 64 v) → (1 ≤ v) × (v ≤ 64)
in_range v h = let a : 1 ≤ v = grind (arith, nat_tests) in let b : v ≤ 64 = grind (arith, nat_tests) in (a, b)

range_of : (b : Bool) (op : WordOp) → IsTrue (is_word_line op) → HasRange (op_for b op)
range_of true (Cast v) h = in_range v h
range_of false (Cast v) h = in_range v h
range_of true (SCast v) h = absurd (false≢true h)
range_of false (SCast v) h = absurd (false≢true h)
range_of true _ h = tt
range_of false _ h = tt

-- all but a choice take operands of one width
widths_of : (b : Bool) (op : WordOp) (w : ℕ) → arity_of op ≤ 2 → operand_widths (op_for b op) w ≡ replicate (arity_of op) w
widths_of true Mux w h = absurd (omega arith)
widths_of false Mux w h = absurd (omega arith)
widths_of true _ w h = refl
widths_of false _ w h = refl

main_of : (b : Bool) (op : WordOp) → arity_of op ≤ 2 → main_argument (op_for b op) ≡ 0
main_of true Mux h = absurd (omega arith)
main_of false Mux h = absurd (omega arith)
main_of true _ h = refl
main_of false _ h = refl

operand_of : (op : WordOp) (args : List ℕ) → arity_of op ≤ 2 → deciding_argument op args ≡ head args
operand_of Mux args h = absurd (omega arith)
operand_of _ args h = refl

-- ---- an operator on words of a kind

-- the operator by the kind of the deciding_argument
op_of : (p : ProgramTree) (f : ℕ) (op : WordOp) (args : List ℕ) (k : WordKind) → type_at p f (deciding_argument op args) ≡ Some (atom (word k))
    → op_by p f op args ≡ op_for k.signed op
op_of p f op args k type = ap (λ o. op_for (is_signed_type o) op) type

fits_by : (op : WordOp) (w : ℕ) (ins : List StTree) (s : StTree) → HasRange op → 1 ≤ w → w ≤ 64 → width_of op ins ≡ w
    → streams_of ins ≡ map word_stream (operand_widths op w) → stream_of s ≡ word_stream (result_width_of op w) → FitsWord op ins s
fits_by op w ins s range low high is streams out = record { range = range; low = rw is low; high = rw is high; ins = rw is streams; out = rw is out }

pub one_fits : (p : ProgramTree) (f budget : ℕ) (op : WordOp) (a : ℕ) (t : SeqTree) (k r : WordKind) (x s : StTree) → arity_of op ≡ 1
    → IsTrue (is_word_line op) → type_at p f a ≡ Some t → t ≡ atom (word k) → IsLaidAs t budget x → IsLaidAs (atom (word r)) budget s
    → result_width_of (op_for k.signed op) k.width ≡ r.width → FitsWord (op_by p f op (a ∷ [])) (x ∷ []) s
one_fits p f budget op a t k r x s arity line type is laid out wide =
    let few : arity_of op ≤ 2 = omega arith in
    let l = word_laid k budget x (rw is at laid) in
    let o = word_laid r budget s out in
    let by = op_of p f op (a ∷ []) k (ap (type_at p f) (operand_of op (a ∷ []) few) ∙ (type ∙ ap Some is)) in
    let width : width_of (op_for k.signed op) (x ∷ []) ≡ k.width = rw (main_of k.signed op few) l.width in
    let ins : streams_of (x ∷ []) ≡ map word_stream (operand_widths (op_for k.signed op) k.width) = rw (widths_of k.signed op k.width few, arity, l.stream)
    refl in
    rw by (fits_by (op_for k.signed op) k.width (x ∷ []) s (range_of k.signed op line) l.low l.high width ins (o.stream ∙ ap word_stream (sym wide)))

pub word_one : (p : ProgramTree) (f budget : ℕ) (op : WordOp) (a : ℕ) (t u : SeqTree) (x s : StTree) → arity_of op ≡ 1 → IsTrue (is_word_line op)
    → type_at p f a ≡ Some t → IsLaidAs t budget x → word_type op (t ∷ []) ≡ Some u → IsLaidAs u budget s
    → FitsWord (op_by p f op (a ∷ [])) (x ∷ []) s
word_one p f budget op a t u x s arity line type laid is out =
    let l = one-line op t u is in
    one_fits p f budget op a t l.kind ((row_of op).result l.kind) x s arity line type l.first laid (rw l.result at out) l.wide

pub word_two : (p : ProgramTree) (f budget : ℕ) (op : WordOp) (a b : ℕ) (t v u : SeqTree) (x y s : StTree) → arity_of op ≡ 2 → IsTrue (is_word_line op)
    → type_at p f a ≡ Some t → IsLaidAs t budget x → IsLaidAs v budget y
    → word_type op (t ∷ v ∷ []) ≡ Some u → IsLaidAs u budget s → FitsWord (op_by p f op (a ∷ b ∷ [])) (x ∷ y ∷ []) s
word_two p f budget op a b t v u x y s arity line type laid laid_too is out =
    let l = two-line op t v u is in
    let k = l.kind in
    let few : arity_of op ≤ 2 = omega arith in
    let i = word_laid k budget x (rw l.first at laid) in
    let j = word_laid k budget y (rw l.second at laid_too) in
    let o = word_laid ((row_of op).result k) budget s (rw l.result at out) in
    let by = op_of p f op (a ∷ b ∷ []) k (ap (type_at p f) (operand_of op (a ∷ b ∷ []) few) ∙ (type ∙ ap Some l.first)) in
    let width : width_of (op_for k.signed op) (x ∷ y ∷ []) ≡ k.width = rw (main_of k.signed op few) i.width in
    let ins : streams_of (x ∷ y ∷ []) ≡ map word_stream (operand_widths (op_for k.signed op) k.width) = rw (
      widths_of k.signed op k.width few,
      arity,
      i.stream,
      j.stream,
    ) refl in
    rw by (fits_by (op_for k.signed op) k.width (x ∷ y ∷ []) s (range_of k.signed op line) i.low i.high width ins (o.stream ∙ ap word_stream (sym l.wide)))

choice_by : (b : Bool) (k : WordKind) (x y z s : StTree) → IsOneWord (record { signed = false; width = 1 }) x → IsOneWord k y → IsOneWord k z → IsOneWord k s
    → FitsWord (op_for b Mux) (x ∷ y ∷ z ∷ []) s
choice_by b k x y z s c i j o = by_cases (λ v. FitsWord (op_for v Mux) (x ∷ y ∷ z ∷ []) s) choice choice b
  where
    choice : FitsWord Mux (x ∷ y ∷ z ∷ []) s
    choice = fits_by Mux k.width (x ∷ y ∷ z ∷ []) s tt i.low i.high i.width (rw (c.stream, i.stream, j.stream) refl) o.stream

pub word_three : (p : ProgramTree) (f budget : ℕ) (op : WordOp) (a b c : ℕ) (t v w u : SeqTree) (x y z s : StTree) → type_at p f b ≡ Some v
    → IsLaidAs t budget x → IsLaidAs v budget y → IsLaidAs w budget z
    → word_type op (t ∷ v ∷ w ∷ []) ≡ Some u → IsLaidAs u budget s → FitsWord (op_by p f op (a ∷ b ∷ c ∷ [])) (x ∷ y ∷ z ∷ []) s
word_three p f budget op a b c t v w u x y z s type laid laid_y laid_z is out =
    let l = choice-line op t v w u is in
    let k = l.kind in
    let test = word_laid (record { signed = false; width = 1 }) budget x (rw l.test at laid) in
    let i = word_laid k budget y (rw l.first at laid_y) in
    let j = word_laid k budget z (rw l.second at laid_z) in
    let o = word_laid k budget s (rw l.result at out) in
    let made = choice_by k.signed k x y z s test i j o in
    let by : op_by p f Mux (a ∷ b ∷ c ∷ []) ≡ op_for k.signed Mux = op_of p f Mux (a ∷ b ∷ c ∷ []) k (type ∙ ap Some l.first) in
    rw (l.is, by) made

-- a cast to a signed word
pub cast_fits : (p : ProgramTree) (f budget v : ℕ) (a : ℕ) (t u : SeqTree) (x s : StTree) → IsTrue (within 1 64 v) → type_at p f a ≡ Some t
    → IsLaidAs t budget x → as_word (signed_word v) (one_word (t ∷ [])) ≡ Some u → IsLaidAs u budget s
    → FitsWord (op_by p f (Cast v) (a ∷ [])) (x ∷ []) s
cast_fits p f budget v a t u x s line type laid is out =
    let r = option-both (one_word (t ∷ [])) (λ (z : SeqTree). Some (atom (signed_word v))) u is in
    let e : atom (signed_word v) ≡ u = cc in
    let l = one-line (Cast v) t (atom (unsigned_word v)) (ap (as_word (unsigned_word v)) r.1) in
    one_fits p f budget (Cast v) a t l.kind (record { signed = true; width = v }) x s refl line type l.first laid (rw (← e) at out) l.wide
