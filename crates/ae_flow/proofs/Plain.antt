-- Operators that call nothing fit the layouts of their arguments and their own.
use Rattle.std.proofs.Common.{◌≡◌, ℕ, ◌+◌, ◌*◌, ◌<◌, ◌≤◌, ◌==◌, nat_le, nat_lt, List, [], ◌∷◌, length, Some, refl, ap, sym, ◌∙◌, arith, IsTrue, mul_assoc, option_map}
use Rattle.std.proofs.Math.Nat.{mul-le-mul_right, add-mul}
use Rattle.std.proofs.lemmas.Bool.{eqb-true, leb-true, ltb-true}
use Rattle.std.proofs.lemmas.Option.{none-some, same_Some}
use Rattle.ae_word.specs.AtomTree.{AtomTree, word as atom_word, pair as atom_pair}
use Rattle.ae_word.specs.declared.op.WordOp.{WordOp}
use Rattle.ae_word.specs.WordTable.{arity_of, folds}
use Rattle.ae_seqtype.specs.SeqTree.{SeqTree, atom, seq, atoms, kinds}
use Rattle.ae_seqtype.specs.ValueTree.{fit_kinds}
use Rattle.ae_seq.specs.ProgramTree.{ProgramTree, OpTree, word, cast_int, pair, fst, snd, const, zip, call, each, each_two, reduce, scan, shift, up, select, partition, unpartition}
use Rattle.ae_seq.specs.Formed.{is_line, has_arguments, is_word_line, within}
use Rattle.ae_seq.specs.Typing.{Signature, type_at, op_type, word_type, pair_type, fst_type, snd_type, zip_type, zipped_type, reduce_type, scan_type, shift_type, up_type, select_type, partition_type, unpartition_type, ◌>>=◌}
use Rattle.ae_eval.proofs.Items.{and-both}
use Rattle.ae_eval.proofs.Moving.{where_ok-some}
use Rattle.ae_sttype.specs.StTree.{StTree, atom as st_atom, st_atoms}
use Rattle.ae_rewrite.specs.declared.st_program.MoveOp.TheVariants.{Shift, Up, Select, Same}
use Rattle.ae_rewrite.specs.LayoutRule.{lay_of}
use Rattle.ae_rewrite.specs.Calls.{plain_op, op_by, shift_of, spread_at, fold_of, scan_of}
use Rattle.ae_rewrite.specs.StProgramTree.{StOpTree, word as st_word, join, first, second, fixed, move, StFuncTree}
use Rattle.ae_rewrite.proofs.Laid.{Laid, laid_whole}
use Rattle.ae_flow.specs.Fitted.{FitsOp, FitsWord, FitsPair, FitsFirst, FitsSecond, FitsMove}
use Rattle.ae_flow.proofs.Fixed.{fixed_fits}
use Rattle.ae_flow.proofs.Streams.{IsOneAtom, one_atom, atom_laid, same_place, zipped}
use Rattle.ae_flow.proofs.Placed.{IsLaidAs, AreLaidAs}
use Rattle.ae_flow.proofs.Words.{word_one, word_two, word_three, cast_fits}
use Rattle.ae_flow.proofs.Spreading.{fold_fits, scan_fits}

-- ---- pairs

pair_fits : (a b : AtomTree) (x y s : StTree) → IsOneAtom a x → IsOneAtom b y → IsOneAtom (atom_pair a b) s → FitsPair x y s
pair_fits a b x y s h g o = record {
  first = same_place a (atom_pair a b) x s h o;
  second = same_place b (atom_pair a b) y s g o;
  kinds = rw (o.atom, h.atom, g.atom) refl;
}

zip_fits : (t u v : SeqTree) (budget : ℕ) (x y s : StTree) → zipped_type t u ≡ Some v → lay_of t budget ≡ Some x → lay_of u budget ≡ Some y
    → lay_of v budget ≡ Some s → FitsPair x y s
zip_fits t u v budget x y s h p q r =
    let z = zipped t u v budget x y s h p q r in
    record {
      first = record { slots = z.first.slots; lanes = z.first.lanes };
      second = record { slots = z.second.slots; lanes = z.second.lanes };
      kinds = z.kinds;
    }

-- ---- the types of a node's arguments

abbrev pub HaveTypes : ProgramTree → (f : ℕ) → List ℕ → List SeqTree → Type 0
HaveTypes p f [] [] = Unit {0}
HaveTypes p f (a ∷ args) (t ∷ ts) = (type_at p f a ≡ Some t) × HaveTypes p f args ts
HaveTypes p f _ _ = ⊥

whole_laid : (t : SeqTree) (budget : ℕ) (s : StTree) → 0 < budget → IsLaidAs t budget s → Laid t budget s
whole_laid t budget s some h = laid_whole t budget s h.sized some h.laid

-- ---- a node's arguments, each with its type and its layout

pub one_argument : (p : ProgramTree) (f budget : ℕ) (P : List ℕ → List SeqTree → List StTree → Type 0) (args : List ℕ) (ts : List SeqTree) (ins : List StTree)
    → length args ≡ 1 → HaveTypes p f args ts → AreLaidAs ts budget ins
    → ((a : ℕ) (u : SeqTree) (x : StTree) → type_at p f a ≡ Some u → IsLaidAs u budget x → P (a ∷ []) (u ∷ []) (x ∷ [])) → P args ts ins
one_argument p f budget P [] ts ins n h l g = absurd (omega arith)
one_argument p f budget P (a ∷ []) [] ins n h l g = absurd h
one_argument p f budget P (a ∷ []) (u ∷ []) [] n h l g = absurd l
one_argument p f budget P (a ∷ []) (u ∷ []) (x ∷ []) n h l g = g a u x h.0 l.0
one_argument p f budget P (a ∷ []) (u ∷ []) (x ∷ y ∷ ins) n h l g = absurd l.1
one_argument p f budget P (a ∷ []) (u ∷ w ∷ ts) ins n h l g = absurd h.1
one_argument p f budget P (a ∷ b ∷ args) ts ins n h l g = absurd (omega arith)

pub two_arguments : (p : ProgramTree) (f budget : ℕ) (P : List ℕ → List SeqTree → List StTree → Type 0) (args : List ℕ) (ts : List SeqTree) (ins : List StTree)
    → length args ≡ 2 → HaveTypes p f args ts → AreLaidAs ts budget ins
    → ((a b : ℕ) (u w : SeqTree) (x y : StTree) → type_at p f a ≡ Some u → type_at p f b ≡ Some w → IsLaidAs u budget x → IsLaidAs w budget y
    → P (a ∷ b ∷ []) (u ∷ w ∷ []) (x ∷ y ∷ []))
    → P args ts ins
two_arguments p f budget P [] ts ins n h l g = absurd (omega arith)
two_arguments p f budget P (a ∷ args) [] ins n h l g = absurd h
two_arguments p f budget P (a ∷ args) (u ∷ ts) [] n h l g = absurd l
two_arguments p f budget P (a ∷ args) (u ∷ ts) (x ∷ ins) n h l g =
    one_argument p f budget (λ ks us xs. P (a ∷ ks) (u ∷ us) (x ∷ xs)) args ts ins (omega arith) h.1 l.1 (λ b w y i j. g a b u w x y h.0 i l.0 j)

three_arguments : (p : ProgramTree) (f budget : ℕ) (P : List ℕ → List SeqTree → List StTree → Type 0) (args : List ℕ) (ts : List SeqTree) (ins : List StTree)
    → length args ≡ 3 → HaveTypes p f args ts → AreLaidAs ts budget ins
    → ((a b c : ℕ) (u w z : SeqTree) (x y i : StTree) → type_at p f b ≡ Some w → IsLaidAs u budget x → IsLaidAs w budget y → IsLaidAs z budget i
    → P (a ∷ b ∷ c ∷ []) (u ∷ w ∷ z ∷ []) (x ∷ y ∷ i ∷ []))
    → P args ts ins
three_arguments p f budget P [] ts ins n h l g = absurd (omega arith)
three_arguments p f budget P (a ∷ args) [] ins n h l g = absurd h
three_arguments p f budget P (a ∷ args) (u ∷ ts) [] n h l g = absurd l
three_arguments p f budget P (a ∷ args) (u ∷ ts) (x ∷ ins) n h l g =
    two_arguments p f budget (λ ks us xs. P (a ∷ ks) (u ∷ us) (x ∷ xs)) args ts ins (omega arith) h.1 l.1
    (λ b c w z y i typed known laid last. g a b c u w z x y i typed l.0 laid last)

-- ---- operator by operator: by the type of the argument

-- a word has one to three operands
some_arity : (op : WordOp) → 1 ≤ arity_of op
some_arity op = search arith

few_arity : (op : WordOp) → arity_of op ≤ 3
few_arity op = search arith

abbrev FitsTyped : (p : ProgramTree) (f : ℕ) (op : WordOp) (t : SeqTree) (s : StTree) → List ℕ → List SeqTree → List StTree → Type 0
FitsTyped p f op t s args ts ins = word_type op ts ≡ Some t → FitsWord (op_by p f op args) ins s

word_fits : (p : ProgramTree) (f budget : ℕ) (op : WordOp) (args : List ℕ) (ts : List SeqTree) (ins : List StTree) (t : SeqTree) (s : StTree)
    → IsTrue (is_word_line op) → length args ≡ arity_of op → HaveTypes p f args ts → AreLaidAs ts budget ins → word_type op ts ≡ Some t → IsLaidAs t budget s
    → FitsWord (op_by p f op args) ins s
word_fits p f budget op [] ts ins t s line arity h l is out = absurd (omega (arith, some_arity op))
word_fits p f budget op (a ∷ []) ts ins t s line arity h l is out =
    one_argument p f budget (FitsTyped p f op t s) (a ∷ []) ts ins refl h l
    (λ a u x typed laid is. word_one p f budget op a u t x s (sym arity) line typed laid is out) is
word_fits p f budget op (a ∷ b ∷ []) ts ins t s line arity h l is out =
    two_arguments p f budget (FitsTyped p f op t s) (a ∷ b ∷ []) ts ins refl h l
    (λ a b u w x y typed known laid last is. word_two p f budget op a b u w t x y s (sym arity) line typed laid last is out) is
word_fits p f budget op (a ∷ b ∷ c ∷ []) ts ins t s line arity h l is out =
    three_arguments p f budget (FitsTyped p f op t s) (a ∷ b ∷ c ∷ []) ts ins refl h l
    (λ a b c u w z x y i typed laid_u laid_w laid_z is. word_three p f budget op a b c u w z t x y i s typed laid_u laid_w laid_z is out) is
word_fits p f budget op (a ∷ b ∷ c ∷ d ∷ args) ts ins t s line arity h l is out = absurd (omega (arith, few_arity op))

join_fits : (budget : ℕ) (u w t : SeqTree) (x y s : StTree) → IsLaidAs u budget x → IsLaidAs w budget y → pair_type u w ≡ Some t → IsLaidAs t budget s
    → FitsPair x y s
join_fits budget (atom i) (atom j) t x y s l k is out =
    let o : IsLaidAs (atom (atom_pair i j)) budget s = rw (← same_Some (atom (atom_pair i j)) t is) at out in
    pair_fits i j x y s (atom_laid i budget x l.laid) (atom_laid j budget y k.laid) (atom_laid (atom_pair i j) budget s o.laid)
join_fits budget (atom i) (seq n w) t x y s l k is out = absurd (none-some t is)
join_fits budget (seq n u) w t x y s l k is out = absurd (none-some t is)

first_fits : (budget : ℕ) (u t : SeqTree) (x s : StTree) → IsLaidAs u budget x → fst_type u ≡ Some t → IsLaidAs t budget s → FitsFirst s x
first_fits budget (atom (atom_pair i j)) t x s l is out =
    let o : IsLaidAs (atom i) budget s = rw (← same_Some (atom i) t is) at out in
    record { other = st_atom j; pair = pair_fits i j s (st_atom j) x (atom_laid i budget s o.laid) (one_atom j) (atom_laid (atom_pair i j) budget x l.laid) }
first_fits budget (atom (atom_word k)) t x s l is out = absurd (none-some t is)
first_fits budget (seq n u) t x s l is out = absurd (none-some t is)

second_fits : (budget : ℕ) (u t : SeqTree) (x s : StTree) → IsLaidAs u budget x → snd_type u ≡ Some t → IsLaidAs t budget s → FitsSecond s x
second_fits budget (atom (atom_pair i j)) t x s l is out =
    let o : IsLaidAs (atom j) budget s = rw (← same_Some (atom j) t is) at out in
    record { other = st_atom i; pair = pair_fits i j (st_atom i) s x (one_atom i) (atom_laid j budget s o.laid) (atom_laid (atom_pair i j) budget x l.laid) }
second_fits budget (atom (atom_word k)) t x s l is out = absurd (none-some t is)
second_fits budget (seq n u) t x s l is out = absurd (none-some t is)

both_fit : (budget : ℕ) (u w t : SeqTree) (x y s : StTree) → IsLaidAs u budget x → IsLaidAs w budget y → zip_type u w ≡ Some t → IsLaidAs t budget s
    → FitsPair x y s
both_fit budget (seq n u) (seq k w) t x y s l j is out = zip_fits (seq n u) (seq k w) t budget x y s is l.laid j.laid out.laid
both_fit budget (seq n u) (atom j) t x y s l k is out = absurd (none-some t is)
both_fit budget (atom i) w t x y s l k is out = absurd (none-some t is)

reduce_fits : (p : ProgramTree) (f budget copies : ℕ) (before : List StFuncTree) (op : WordOp) (a : ℕ) (u t : SeqTree) (x s : StTree) (made : StOpTree)
    → 0 < budget → IsTrue (folds op) → type_at p f a ≡ Some u → IsLaidAs u budget x → reduce_type u ≡ Some t
    → (spread_at p f budget a >>= fold_of op budget) ≡ Some made → FitsOp before budget copies (x ∷ []) s made
reduce_fits p f budget copies before op a (seq n u) t x s made some line h l is plain =
    fold_fits p f budget a n op u x s made (FitsOp before budget copies (x ∷ []) s) some line h l (λ slots lanes raw fits. fits) plain
reduce_fits p f budget copies before op a (atom i) t x s made some line h l is plain = absurd (none-some t is)

running_fits : (p : ProgramTree) (f budget copies : ℕ) (before : List StFuncTree) (op : WordOp) (a : ℕ) (u t : SeqTree) (x s : StTree) (made : StOpTree)
    → 0 < budget → IsTrue (folds op) → type_at p f a ≡ Some u → IsLaidAs u budget x → scan_type u ≡ Some t → IsLaidAs t budget s
    → option_map (scan_of op budget) (spread_at p f budget a) ≡ Some made → FitsOp before budget copies (x ∷ []) s made
running_fits p f budget copies before op a (seq n u) t x s made some line h l is out plain =
    scan_fits p f budget a n op u x s made (FitsOp before budget copies (x ∷ []) s) some line h l (rw (← same_Some (seq n u) t is) at out.laid)
    (λ slots lanes fits. fits) plain
running_fits p f budget copies before op a (atom i) t x s made some line h l is out plain = absurd (none-some t is)

shift_fits : (c budget copies : ℕ) (before : List StFuncTree) (u t : SeqTree) (x s : StTree) (made : StOpTree) → 0 < budget → IsLaidAs u budget x
    → shift_type c u ≡ Some t → IsLaidAs t budget s → shift_of c u ≡ Some made → FitsOp before budget copies (x ∷ []) s made
shift_fits c budget copies before (seq n u) t x s made some l is out plain =
    let i = whole_laid (seq n u) budget x some l in
    let o = where_ok-some (nat_le c n) (Some (seq n u)) t is in
    let low : c ≤ n = leb-true c n o.0 in
    let e : seq n u ≡ t = same_Some (seq n u) t o.1 in
    let z : Laid (seq n u) budget s = rw (← e) at (whole_laid t budget s some out) in
    rw (← same_Some (move (Shift (c * atoms u))) made plain) (i.atom ∙ sym z.atom, (i.atoms ∙ sym z.atoms, rw z.atoms (mul-le-mul_right (atoms u) low)))
shift_fits c budget copies before (atom i) t x s made some l is out plain = absurd (none-some t is)

up_fits : (c budget : ℕ) (u t : SeqTree) (x s : StTree) → 0 < budget → IsLaidAs u budget x → up_type c u ≡ Some t → IsLaidAs t budget s → FitsMove (Up c) x s
up_fits c budget (seq n u) t x s some l is out =
    let i = whole_laid (seq n u) budget x some l in
    let o = where_ok-some (n == 1) (Some (seq c u)) t is in
    let one : n ≡ 1 = eqb-true n 1 o.0 in
    let e : seq c u ≡ t = same_Some (seq c u) t o.1 in
    let z : Laid (seq c u) budget s = rw (← e) at (whole_laid t budget s some out) in
    let at : st_atoms x ≡ atoms u = i.atoms ∙ (ap (λ y. y * atoms u) one ∙ omega arith) in
    (i.atom ∙ sym z.atom, z.atoms ∙ ap (λ y. c * y) (sym at))
up_fits c budget (atom i) t x s some l is out = absurd (none-some t is)

select_fits : (c budget : ℕ) (u t : SeqTree) (x s : StTree) → 0 < budget → IsLaidAs u budget x → select_type c u ≡ Some t → IsLaidAs t budget s
    → FitsMove (Select c) x s
select_fits c budget (seq n u) t x s some l is out =
    let i = whole_laid (seq n u) budget x some l in
    let o = where_ok-some (nat_lt c n) (Some (seq 1 u)) t is in
    let low : c + 1 ≤ n = (let lt : c < n = ltb-true c n o.0 in omega arith) in
    let e : seq 1 u ≡ t = same_Some (seq 1 u) t o.1 in
    let z : Laid (seq 1 u) budget s = rw (← e) at (whole_laid t budget s some out) in
    let own : st_atoms s ≡ atoms u = z.atoms ∙ omega arith in
    let part : c * atoms u + atoms u ≡ (c + 1) * atoms u = sym (add-mul c 1 (atoms u) ∙ ap (λ y. c * atoms u + y) (omega arith)) in
    (i.atom ∙ sym z.atom, rw (own, i.atoms, part) (mul-le-mul_right (atoms u) low))
select_fits c budget (atom i) t x s some l is out = absurd (none-some t is)

partition_fits : (c d budget : ℕ) (u t : SeqTree) (x s : StTree) → 0 < budget → IsLaidAs u budget x → partition_type c d u ≡ Some t → IsLaidAs t budget s
    → FitsMove Same x s
partition_fits c d budget (seq n u) t x s some l is out =
    let i = whole_laid (seq n u) budget x some l in
    let o = where_ok-some (n == c * d) (Some (seq c (seq d u))) t is in
    let all : n ≡ c * d = eqb-true n (c * d) o.0 in
    let e : seq c (seq d u) ≡ t = same_Some (seq c (seq d u)) t o.1 in
    let z : Laid (seq c (seq d u)) budget s = rw (← e) at (whole_laid t budget s some out) in
    (i.atom ∙ sym z.atom, i.atoms ∙ (ap (λ y. y * atoms u) all ∙ (mul_assoc c d (atoms u) ∙ sym z.atoms)))
partition_fits c d budget (atom i) t x s some l is out = absurd (none-some t is)

unpartition_fits : (budget : ℕ) (u t : SeqTree) (x s : StTree) → 0 < budget → IsLaidAs u budget x → unpartition_type u ≡ Some t → IsLaidAs t budget s
    → FitsMove Same x s
unpartition_fits budget (seq n (seq k u)) t x s some l is out =
    let i = whole_laid (seq n (seq k u)) budget x some l in
    let e : seq (n * k) u ≡ t = same_Some (seq (n * k) u) t is in
    let z : Laid (seq (n * k) u) budget s = rw (← e) at (whole_laid t budget s some out) in
    (i.atom ∙ sym z.atom, i.atoms ∙ (sym (mul_assoc n k (atoms u)) ∙ sym z.atoms))
unpartition_fits budget (seq n (atom i)) t x s some l is out = absurd (none-some t is)
unpartition_fits budget (atom i) t x s some l is out = absurd (none-some t is)

fixed_too : (budget copies : ℕ) (before : List StFuncTree) (known : List Signature) (u : SeqTree) (ws : List ℕ)
    (ts : List SeqTree) (ins : List StTree) (t : SeqTree) (s : StTree)
    → 0 < budget → AreLaidAs ts budget ins → op_type known (const u ws) ts ≡ Some t → IsLaidAs t budget s → FitsOp before budget copies ins s (fixed ws)
fixed_too budget copies before known u ws [] [] t s some l is out =
    let o = where_ok-some (fit_kinds ws (kinds u)) (Some u) t is in
    let e : u ≡ t = same_Some u t o.1 in
    (refl, fixed_fits t budget s ws (whole_laid t budget s some out) (rw e at o.0))
fixed_too budget copies before known u ws [] (x ∷ ins) t s some l is out = absurd l
fixed_too budget copies before known u ws (v ∷ ts) ins t s some l is out = absurd (none-some t is)

-- ---- a line

-- what has to be shown of arguments
abbrev Fits : (p : ProgramTree) (f budget copies : ℕ) (before : List StFuncTree) (known : List Signature)
    (op : OpTree) (t : SeqTree) (s : StTree) (made : StOpTree)
    → List ℕ → List SeqTree → List StTree → Type 0
Fits p f budget copies before known op t s made args ts ins =
    op_type known op ts ≡ Some t → plain_op p f budget op args ≡ Some made → FitsOp before budget copies ins s made

pub plain_fits : (p : ProgramTree) (f budget v m copies : ℕ) (before : List StFuncTree) (known : List Signature) (op : OpTree) (args : List ℕ)
    (ts : List SeqTree) (ins : List StTree) (t : SeqTree) (s : StTree) (made : StOpTree) → 0 < budget
    → IsTrue (is_line v m op) → IsTrue (has_arguments op (length args)) → HaveTypes p f args ts → AreLaidAs ts budget ins → op_type known op ts ≡ Some t
    → IsLaidAs t budget s → plain_op p f budget op args ≡ Some made → FitsOp before budget copies ins s made
plain_fits p f budget v m copies before known (word op) args ts ins t s made some line arity h l is out plain =
    rw (← same_Some (st_word (op_by p f op args)) made plain)
    (word_fits p f budget op args ts ins t s line (eqb-true (length args) (arity_of op) arity) h l is out)
plain_fits p f budget v m copies before known (cast_int w) args ts ins t s made some line arity h l is out plain =
    one_argument p f budget (Fits p f budget copies before known (cast_int w) t s made) args ts ins (eqb-true (length args) 1 arity) h l
    (λ a u x typed laid is plain. rw (← same_Some _ made plain)
    (cast_fits p f budget w a u t x s (and-both (v == 2) (within 1 64 w) line).1 typed laid is out)) is plain
plain_fits p f budget v m copies before known pair args ts ins t s made some line arity h l is out plain =
    two_arguments p f budget (Fits p f budget copies before known pair t s made) args ts ins (eqb-true (length args) 2 arity) h l
    (λ a b u w x y typed too laid last is plain. rw (← same_Some join made plain) (join_fits budget u w t x y s laid last is out)) is plain
plain_fits p f budget v m copies before known zip args ts ins t s made some line arity h l is out plain =
    two_arguments p f budget (Fits p f budget copies before known zip t s made) args ts ins (eqb-true (length args) 2 arity) h l
    (λ a b u w x y typed too laid last is plain. rw (← same_Some join made plain) (both_fit budget u w t x y s laid last is out)) is plain
plain_fits p f budget v m copies before known (const u ws) args ts ins t s made some line arity h l is out plain =
    rw (← same_Some (fixed ws) made plain) (fixed_too budget copies before known u ws ts ins t s some l is out)
plain_fits p f budget v m copies before known fst args ts ins t s made some line arity h l is out plain =
    one_argument p f budget (Fits p f budget copies before known fst t s made) args ts ins (eqb-true (length args) 1 arity) h l
    (λ a u x typed laid is plain. rw (← same_Some first made plain) (first_fits budget u t x s laid is out)) is plain
plain_fits p f budget v m copies before known snd args ts ins t s made some line arity h l is out plain =
    one_argument p f budget (Fits p f budget copies before known snd t s made) args ts ins (eqb-true (length args) 1 arity) h l
    (λ a u x typed laid is plain. rw (← same_Some second made plain) (second_fits budget u t x s laid is out)) is plain
plain_fits p f budget v m copies before known (reduce op) args ts ins t s made some line arity h l is out plain =
    one_argument p f budget (Fits p f budget copies before known (reduce op) t s made) args ts ins (eqb-true (length args) 1 arity) h l
    (λ a u x typed laid is plain. reduce_fits p f budget copies before op a u t x s made some line typed laid is plain) is plain
plain_fits p f budget v m copies before known (scan op) args ts ins t s made some line arity h l is out plain =
    one_argument p f budget (Fits p f budget copies before known (scan op) t s made) args ts ins (eqb-true (length args) 1 arity) h l
    (λ a u x typed laid is plain. running_fits p f budget copies before op a u t x s made some
    (and-both (v == 2) (folds op) line).1 typed laid is out plain) is plain
plain_fits p f budget v m copies before known (shift c) args ts ins t s made some line arity h l is out plain =
    one_argument p f budget (Fits p f budget copies before known (shift c) t s made) args ts ins (eqb-true (length args) 1 arity) h l
    (λ a u x typed laid is plain. shift_fits c budget copies before u t x s made some laid is out (sym (ap (λ q. q >>= shift_of c) typed) ∙ plain)) is plain
plain_fits p f budget v m copies before known (up c) args ts ins t s made some line arity h l is out plain =
    one_argument p f budget (Fits p f budget copies before known (up c) t s made) args ts ins (eqb-true (length args) 1 arity) h l
    (λ a u x typed laid is plain. rw (← same_Some (move (Up c)) made plain) (up_fits c budget u t x s some laid is out)) is plain
plain_fits p f budget v m copies before known (select c) args ts ins t s made some line arity h l is out plain =
    one_argument p f budget (Fits p f budget copies before known (select c) t s made) args ts ins (eqb-true (length args) 1 arity) h l
    (λ a u x typed laid is plain. rw (← same_Some (move (Select c)) made plain) (select_fits c budget u t x s some laid is out)) is plain
plain_fits p f budget v m copies before known (partition c d) args ts ins t s made some line arity h l is out plain =
    one_argument p f budget (Fits p f budget copies before known (partition c d) t s made) args ts ins (eqb-true (length args) 1 arity) h l
    (λ a u x typed laid is plain. rw (← same_Some (move Same) made plain) (partition_fits c d budget u t x s some laid is out)) is plain
plain_fits p f budget v m copies before known unpartition args ts ins t s made some line arity h l is out plain =
    one_argument p f budget (Fits p f budget copies before known unpartition t s made) args ts ins (eqb-true (length args) 1 arity) h l
    (λ a u x typed laid is plain. rw (← same_Some (move Same) made plain) (unpartition_fits budget u t x s some laid is out)) is plain
plain_fits p f budget v m copies before known (call g) args ts ins t s made some line arity h l is out plain = absurd (none-some made plain)
plain_fits p f budget v m copies before known (each g) args ts ins t s made some line arity h l is out plain = absurd (none-some made plain)
plain_fits p f budget v m copies before known (each_two g) args ts ins t s made some line arity h l is out plain = absurd (none-some made plain)
