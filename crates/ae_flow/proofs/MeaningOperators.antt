-- Each operator that calls nothing makes of the words of its arguments those of the value that the line has.
use Rattle.std.proofs.Common.{◌≡◌, ℕ, ◌+◌, ◌-◌, ◌*◌, ◌/◌, ◌%◌, ◌<◌, ◌≤◌, ◌==◌, nat_le, nat_lt, Bool, List, [], ◌∷◌, ◌++◌, length, take, drop, map, replicate, Option, Some, None, IsSome, IsTrue, refl, arith, sym, ap, ◌∙◌, subst, mul_assoc, mul-div_cancel}
use Rattle.std.specs.Option.{option_map}
use Rattle.std.proofs.lemmas.Bool.Decides.{nat_tests}
use Rattle.std.proofs.lemmas.Option.{none-some, same_Some, option_and_then_some}
use Rattle.ae_word.specs.declared.op.WordOp.{WordOp}
use Rattle.ae_word.specs.declared.op.WordOp.TheVariants.{Add, Mux, Cast}
use Rattle.ae_word.specs.AtomTree.{AtomTree, atom_kinds, atom_words}
use Rattle.ae_word.specs.WordTable.{folds}
use Rattle.ae_seqtype.specs.SeqTree.{SeqTree, atom, seq, atoms, atom_of, words, in_size}
use Rattle.ae_seqtype.specs.ValueTree.{ValueTree, listed, elements, value_of, Fit, Stands}
use Rattle.ae_seqtype.proofs.Stands.{length-Fit}
use Rattle.ae_seq.specs.ProgramTree.{ProgramTree, OpTree, word, cast_int, pair, fst, snd, const, zip, call, each, each_two, reduce, scan, shift, up, select, partition, unpartition}
use Rattle.ae_seq.specs.Typing.{type_at, op_type, word_type, Signature, where_ok, ◌>>=◌}
use Rattle.ae_seq.specs.Meaning.{Meaning, op_value, wordwise, fold_all, folds_up_to}
use Rattle.ae_sttype.specs.StTree.{StTree, st_atoms, element_words}
use Rattle.ae_fold.specs.Folding.{fold_by, word_fold}
use Rattle.ae_rewrite.specs.declared.cases.Case.{Case}
use Rattle.ae_rewrite.specs.declared.st_program.MoveOp.TheVariants.{Shift, Up, Select, Same}
use Rattle.ae_rewrite.specs.LayoutRule.{case_of, inner_of, lanes_of, slots_of, lay_of}
use Rattle.ae_rewrite.specs.Calls.{Spreading, spread, spread_at, head, deciding_argument, is_signed_type, op_by, plain_op, fold_of, scan_of, shift_of, raw_layout}
use Rattle.ae_rewrite.specs.StProgramTree.{StOpTree, word as st_word, join, first, second, fixed, move, fold}
use Rattle.ae_eval.specs.Stack.{AreFolds, paired, values_of}
use Rattle.ae_eval.proofs.Moving.{where_ok-some, shift-room}
use Rattle.ae_eval.proofs.Pieces.{count-elements, piece-ends}
use Rattle.ae_eval.proofs.Wording.{choice-line}
use Rattle.ae_eval.proofs.Zips.{words-atoms}
use Rattle.ae_flow.specs.Flow.{Callee, layout_words, op_words, fold_words, scan_words, parts}
use Rattle.ae_flow.proofs.MeaningTables.{table}
use Rattle.ae_flow.proofs.MeaningFolds.{folds_of, folded_words, reduce-stands, scan-stands}
use Rattle.ae_flow.proofs.MeaningLayouts.{LaysOut, element-size, layout-size, map-some, spread-all}
use Rattle.ae_flow.proofs.MeaningMoves.{moved_words, shift-words, up-words, select-words, same-words, shift-stands, up-stands, select-stands, partition-stands, unpartition-stands}
use Rattle.ae_flow.proofs.MeaningWords.{IsSign, one-no-choice, two-no-choice, one-words, two-words, choice-words, cast-words, pair-words, zip-words, first-words, second-words, constant-words}

-- ---- arguments

-- an item with its type, its layout and the words of a value
pub record Arg (p : ProgramTree) (f i : ℕ) (u : SeqTree) (a : StTree) (ws : List ℕ) : Type 0 where
  pub type : type_at p f i ≡ Some u
  pub sized : IsTrue (in_size u)
  pub layout : LaysOut u a
  pub fits : Fit u ws

abbrev pub Args : (p : ProgramTree) (f : ℕ) → List ℕ → List SeqTree → List StTree → List (List ℕ) → Type 0
Args p f [] [] [] [] = Unit {0}
Args p f (i ∷ is) (u ∷ us) (a ∷ layouts) (ws ∷ wss) = Arg p f i u a ws × Args p f is us layouts wss
Args p f _ _ _ _ = ⊥

module _ (p : ProgramTree) (f : ℕ) (P : List ℕ → List StTree → List (List ℕ) → Type 0) where
  by-none : (is : List ℕ) (layouts : List StTree) (wss : List (List ℕ)) → Args p f is [] layouts wss → P [] [] [] → P is layouts wss
  by-none [] [] [] h k = k
  by-none [] [] (ws ∷ wss) h k = absurd h
  by-none [] (a ∷ layouts) wss h k = absurd h
  by-none (i ∷ is) layouts wss h k = absurd h

  by-some : (is : List ℕ) (u : SeqTree) (us : List SeqTree) (layouts : List StTree) (wss : List (List ℕ)) → Args p f is (u ∷ us) layouts wss
      → ((i : ℕ) (js : List ℕ) (a : StTree) (bs : List StTree) (ws : List ℕ) (xss : List (List ℕ)) → Arg p f i u a ws → Args p f js us bs xss
      → P (i ∷ js) (a ∷ bs) (ws ∷ xss)) → P is layouts wss
  by-some [] u us layouts wss h k = absurd h
  by-some (i ∷ is) u us [] wss h k = absurd h
  by-some (i ∷ is) u us (a ∷ layouts) [] h k = absurd h
  by-some (i ∷ is) u us (a ∷ layouts) (ws ∷ wss) h k = k i is a layouts ws wss h.0 h.1

module _ (p : ProgramTree) (f : ℕ) (P : List ℕ → List StTree → List (List ℕ) → Type 0) where
  pub by-one : (is : List ℕ) (u : SeqTree) (layouts : List StTree) (wss : List (List ℕ)) → Args p f is (u ∷ []) layouts wss
      → ((i : ℕ) (a : StTree) (ws : List ℕ) → Arg p f i u a ws → P (i ∷ []) (a ∷ []) (ws ∷ [])) → P is layouts wss
  by-one is u layouts wss h k = by-some p f P is u [] layouts wss h
      (λ i js a bs ws xss x r. by-none p f (λ is layouts wss. P (i ∷ is) (a ∷ layouts) (ws ∷ wss)) js bs xss r (k i a ws x))

module _ (p : ProgramTree) (f : ℕ) (P : List ℕ → List StTree → List (List ℕ) → Type 0) where
  pub by-two : (is : List ℕ) (u z : SeqTree) (layouts : List StTree) (wss : List (List ℕ)) → Args p f is (u ∷ z ∷ []) layouts wss
      → ((i j : ℕ) (a b : StTree) (ws us : List ℕ) → Arg p f i u a ws → Arg p f j z b us → P (i ∷ j ∷ []) (a ∷ b ∷ []) (ws ∷ us ∷ [])) → P is layouts wss
  by-two is u z layouts wss h k = by-some p f P is u (z ∷ []) layouts wss h
      (λ i js a bs ws xss x r. by-one p f (λ is layouts wss. P (i ∷ is) (a ∷ layouts) (ws ∷ wss)) js z bs xss r (λ j b us y. k i j a b ws us x y))

module _ (p : ProgramTree) (f : ℕ) (P : List ℕ → List StTree → List (List ℕ) → Type 0) where
  by-three : (is : List ℕ) (u z w : SeqTree) (layouts : List StTree) (wss : List (List ℕ)) → Args p f is (u ∷ z ∷ w ∷ []) layouts wss
      → ((i j l : ℕ) (a b c : StTree) (ws us vs : List ℕ) → Arg p f i u a ws → Arg p f j z b us → Arg p f l w c vs
      → P (i ∷ j ∷ l ∷ []) (a ∷ b ∷ c ∷ []) (ws ∷ us ∷ vs ∷ [])) → P is layouts wss
  by-three is u z w layouts wss h k = by-some p f P is u (z ∷ w ∷ []) layouts wss h
      (λ i js a bs ws xss x r. by-two p f (λ is layouts wss. P (i ∷ is) (a ∷ layouts) (ws ∷ wss)) js z w bs xss r
      (λ j l b c us vs y v. k i j l a b c ws us vs x y v))

-- ---- the operator of a node

operand-plain : (op : WordOp) (is : List ℕ) → (op ≡ Mux → ⊥) → deciding_argument op is ≡ head is
operand-plain Mux is h = absurd (h refl)
operand-plain _ is h = refl

sign-of : (p : ProgramTree) (f i : ℕ) (u : SeqTree) (op : WordOp) (is : List ℕ) → deciding_argument op is ≡ i → type_at p f i ≡ Some u
    → IsSign u (is_signed_type (type_at p f (deciding_argument op is)))
sign-of p f i u op is e type k same = ap (λ j. is_signed_type (type_at p f j)) e ∙ ap is_signed_type (type ∙ ap (λ (z : SeqTree). Some z) same)

no-operands : (op : WordOp) (t : SeqTree) → word_type op [] ≡ Some t → ⊥
no-operands Add t h = none-some t h
no-operands _ t h = none-some t h

no-choice : (t : SeqTree) (o : Option SeqTree) (b : Bool) → o ≡ None → where_ok b o ≡ Some t → ⊥
no-choice t o b e h = none-some t (sym e ∙ (where_ok-some b o t h).1)

many-operands : (op : WordOp) (a b c d : SeqTree) (us : List SeqTree) (t : SeqTree) → word_type op (a ∷ b ∷ c ∷ d ∷ us) ≡ Some t → ⊥
many-operands Mux a b c d us t h = no-choice t None _ refl h
many-operands _ a b c d us t h = none-some t h

-- ---- the sizes of what goes in and comes out

record Sizes (u : SeqTree) (a : StTree) (t : SeqTree) (s : StTree) (ws : List ℕ) : Type 0 where
  element : element_words a ≡ element_words s
  long : length ws ≡ st_atoms a * element_words s

sizes : (u t : SeqTree) (a s : StTree) (ws : List ℕ) → atom_of u ≡ atom_of t → LaysOut u a → LaysOut t s → Fit u ws → Sizes u a t s ws
sizes u t a s ws e l o h =
    let same : element_words a ≡ element_words s = element-size u a l ∙ ap atom_words e ∙ sym (element-size t s o) in
    record { element = same; long = length-Fit u ws h ∙ sym (layout-size u a l) ∙ ap (λ k. st_atoms a * k) same }

some-elements : (n : ℕ) (u : SeqTree) → IsTrue (in_size (seq n u)) → 0 < n
some-elements n u h = grind (arith, nat_tests)

-- ---- folds and scans

fold-form : (op : WordOp) (u : SeqTree) (n m : ℕ) (s : StTree) (ws : List ℕ) → LaysOut (seq 1 u) s → m ≡ n
    → folded_words op u ws (n - 1) ≡ fold_words op s (layout_words s) m ws
fold-form op u n m s ws l e =
    let size : layout_words s ≡ words u = layout-size (seq 1 u) s l ∙ omega arith in
    sym (ap (λ a. table (layout_words s) (λ q. word_fold (map (fold_by op) (atom_kinds a)) (layout_words s) ws q (m - 1))) l.atom
    ∙ ap (λ k. table k (λ q. word_fold (folds_of op (atom_of u)) k ws q (m - 1))) size
    ∙ ap (λ k. folded_words op u ws (k - 1)) e)

-- the folds of so many elements of a size, by the atom of the elements
abbrev scan_by : WordOp → AtomTree → (size n : ℕ) → List ℕ → List ℕ
scan_by op a k n ws = table (n * k) (λ q. word_fold (folds_of op a) k ws (q % k) (q / k))

scan-form : (op : WordOp) (u : SeqTree) (n m : ℕ) (s : StTree) (ws : List ℕ) → LaysOut (seq n u) s → m ≡ n → 0 < n
    → scan_by op (atom_of u) (words u) n ws ≡ scan_words op s (layout_words s / m) m ws
scan-form op u n m s ws l e some =
    let turn : n * words u ≡ words u * n = omega arith in
    let size : layout_words s / m ≡ words u = ap (λ k. k / m) (layout-size (seq n u) s l) ∙ ap (λ k. n * words u / k) e ∙ ap (λ k. k / n) turn ∙
    mul-div_cancel (words u) some in
    sym (ap (λ a. scan_by op a (layout_words s / m) m ws) l.atom ∙ ap (λ k. scan_by op (atom_of u) k m ws) size ∙
    ap (λ k. scan_by op (atom_of u) (words u) k ws) e)

-- how the first argument is spread
spread-case : (p : ProgramTree) (f budget i n : ℕ) (u : SeqTree) (s : Spreading) → type_at p f i ≡ Some (seq n u) → spread_at p f budget i ≡ Some s
    → (c : Case) × (case_of n budget ≡ Some c) × (record { count = n; of = u; case = c } ≡ s)
spread-case p f budget i n u s type h =
    let own : spread (seq n u) budget ≡ Some s = sym (ap (λ o. o >>= λ t. spread t budget) type) ∙ h in
    map-some (λ (c : Case). record { count = n; of = u; case = c }) (case_of n budget) s own

-- slots and lanes together have all elements
lanes-all : (n budget : ℕ) (u : SeqTree) (c : Case) (s : Spreading) → 0 < n → case_of n budget ≡ Some c → record { count = n; of = u; case = c } ≡ s
    → slots_of s.count budget s.case * lanes_of s.count budget s.case ≡ n
lanes-all n budget u c s some at e =
    sym (ap (λ (x : Spreading). slots_of x.count budget x.case * lanes_of x.count budget x.case) e) ∙ spread-all n budget c some at

module _ (known : List Callee) (means : List Meaning) where
  reduce-op : (p : ProgramTree) (f budget i n : ℕ) (op : WordOp) (u t : SeqTree) (a s : StTree) (ws : List ℕ) (made : StOpTree) → IsTrue (folds op)
      → Arg p f i (seq n u) a ws → seq 1 u ≡ t → LaysOut t s
      → (spread_at p f budget i >>= fold_of op budget) ≡ Some made
      → Stands t (op_words known (a ∷ []) s made (ws ∷ [])) (op_value means (reduce op) (value_of (seq n u) ws ∷ []))
  reduce-op p f budget i n op u t a s ws made fo x e l plain =
      option_and_then_some (fold_of op budget) (spread_at p f budget i) made plain (λ d at found.
      let some = some-elements n u x.sized in
      let r = spread-case p f budget i n u d x.type at in
      let m = map-some (λ y. fold op (slots_of d.count budget d.case) (lanes_of d.count budget d.case) (raw_layout budget (inner_of d.count budget d.case) y))
      (lay_of d.of (inner_of d.count budget d.case)) made found in
      let out : LaysOut (seq 1 u) s = subst (λ z. LaysOut z s) (sym e) l in
      let form = fold-form op u n (slots_of d.count budget d.case * lanes_of d.count budget d.case) s ws out (lanes-all n budget u r.0 d some r.1 r.2) in
      let v = listed (fold_all (wordwise op) (elements (value_of (seq n u) ws)) ∷ []) in
      rw (← m.2, ← e) (subst (λ us. Stands (seq 1 u) us v) form (reduce-stands op u n ws fo some x.fits)))

  scan-op : (p : ProgramTree) (f budget i n : ℕ) (op : WordOp) (u t : SeqTree) (a s : StTree) (ws : List ℕ) (made : StOpTree) → IsTrue (folds op)
      → Arg p f i (seq n u) a ws → seq n u ≡ t → LaysOut t s
      → option_map (scan_of op budget) (spread_at p f budget i) ≡ Some made
      → Stands t (op_words known (a ∷ []) s made (ws ∷ [])) (op_value means (scan op) (value_of (seq n u) ws ∷ []))
  scan-op p f budget i n op u t a s ws made fo x e l plain =
      let d = map-some (scan_of op budget) (spread_at p f budget i) made plain in
      let some = some-elements n u x.sized in
      let r = spread-case p f budget i n u d.0 x.type d.1 in
      let out : LaysOut (seq n u) s = subst (λ z. LaysOut z s) (sym e) l in
      let form = scan-form op u n (slots_of d.0.count budget d.0.case * lanes_of d.0.count budget d.0.case) s ws out
      (lanes-all n budget u r.0 d.0 some r.1 r.2) some in
      let xs = elements (value_of (seq n u) ws) in
      let P : ℕ → Type 0 = λ k. Stands (seq n u) (scan_words op s (layout_words s / (slots_of d.0.count budget d.0.case * lanes_of d.0.count budget d.0.case))
      (slots_of d.0.count budget d.0.case * lanes_of d.0.count budget d.0.case) ws) (listed (folds_up_to (wordwise op) k xs)) in
      rw (← d.2, ← e) (subst P (sym (count-elements n u ws))
      (subst (λ us. Stands (seq n u) us (listed (folds_up_to (wordwise op) n xs))) form (scan-stands op u n ws fo x.fits)))

-- ---- moves

shift-op : (c n : ℕ) (u t : SeqTree) (a s : StTree) (ws : List ℕ) → LaysOut (seq n u) a → Fit (seq n u) ws → op_type [] (shift c) (seq n u ∷ []) ≡ Some t
    → LaysOut t s
    → Stands t (moved_words (Shift (c * atoms u)) a s ws) (op_value [] (shift c) (value_of (seq n u) ws ∷ []))
shift-op c n u t a s ws l h type o =
    let same : seq n u ≡ t = same_Some _ t (where_ok-some (nat_le c n) (Some (seq n u)) t type).1 in
    let own : LaysOut (seq n u) s = subst (λ z. LaysOut z s) (sym same) o in
    let z = sizes (seq n u) (seq n u) a s ws refl l own h in
    let k : c * atoms u * element_words s ≡ c * words u = ap (λ j. c * atoms u * j) (element-size (seq n u) s own) ∙
    mul_assoc c (atoms u) (atom_words (atom_of u)) ∙ ap (λ j. c * j) (sym (words-atoms u)) in
    let long : length ws ≡ st_atoms s * element_words s = length-Fit (seq n u) ws h ∙ sym (layout-size (seq n u) s own) in
    let there : IsSome (op_type [] (shift c) (seq n u ∷ [])) = rw type refl in
    let room = shift-room c n (words u) (seq n u) u refl refl there in
    let size = length-Fit (seq n u) ws h in
    let form = shift-words (c * atoms u) a s ws z.element long (omega (arith, k, room, size)) in
    let whole : replicate (c * words u) 0 ++ take (length ws - c * words u) ws ≡ moved_words (Shift (c * atoms u)) a s ws = ap
    (λ j. replicate j 0 ++ take (length ws - j) ws) (sym k) ∙ form in
    subst (λ us. Stands t us (op_value [] (shift c) (value_of (seq n u) ws ∷ []))) whole (shift-stands c n u t ws type h)

up-op : (c m : ℕ) (u t : SeqTree) (a s : StTree) (ws : List ℕ) → LaysOut (seq m u) a → Fit (seq m u) ws → op_type [] (up c) (seq m u ∷ []) ≡ Some t
    → LaysOut t s
    → Stands t (moved_words (Up c) a s ws) (op_value [] (up c) (value_of (seq m u) ws ∷ []))
up-op c m u t a s ws l h type o =
    let ok = where_ok-some (m == 1) (Some (seq c u)) t type in
    let one : m ≡ 1 = grind (arith, nat_tests, ok.0) in
    let own : LaysOut (seq c u) s = subst (λ z. LaysOut z s) (sym (same_Some _ t ok.1)) o in
    let z = sizes (seq m u) (seq c u) a s ws refl l own h in
    let part : m * atoms u ≡ atoms u = ap (λ k. k * atoms u) one ∙ omega arith in
    let count : st_atoms s ≡ c * st_atoms a = own.atoms ∙ ap (λ k. c * k) (sym (l.atoms ∙ part)) in
    subst (λ us. Stands t us (op_value [] (up c) (value_of (seq m u) ws ∷ []))) (up-words c a s ws z.element count z.long) (up-stands c (seq m u) t ws type h)

select-op : (c n : ℕ) (u t : SeqTree) (a s : StTree) (ws : List ℕ) → LaysOut (seq n u) a → Fit (seq n u) ws → op_type [] (select c) (seq n u ∷ []) ≡ Some t
    → LaysOut t s
    → Stands t (moved_words (Select c) a s ws) (op_value [] (select c) (value_of (seq n u) ws ∷ []))
select-op c n u t a s ws l h type o =
    let ok = where_ok-some (nat_lt c n) (Some (seq 1 u)) t type in
    let within : c < n = grind (arith, nat_tests, ok.0) in
    let own : LaysOut (seq 1 u) s = subst (λ z. LaysOut z s) (sym (same_Some _ t ok.1)) o in
    let z = sizes (seq n u) (seq 1 u) a s ws refl l own h in
    let k : layout_words s ≡ words u = layout-size (seq 1 u) s own ∙ omega arith in
    let room : c * words u + words u ≤ length ws = (let e = piece-ends n c (words u) within in let size = length-Fit (seq n u) ws h in omega arith) in
    let form = select-words c a s ws z.element (subst (λ j. c * j + j ≤ length ws) (sym k) room) in
    let whole : take (words u) (drop (c * words u) ws) ≡ moved_words (Select c) a s ws = ap (λ j. take j (drop (c * j) ws)) (sym k) ∙ form in
    subst (λ us. Stands t us (op_value [] (select c) (value_of (seq n u) ws ∷ []))) whole (select-stands c n u t ws type h)

-- all words as they are
same-op : (u t : SeqTree) (a s : StTree) (ws : List ℕ) (v : ValueTree) → atom_of u ≡ atom_of t → LaysOut u a → LaysOut t s → Fit u ws → Stands t ws v
    → Stands t (moved_words Same a s ws) v
same-op u t a s ws v e l o h st =
    let z = sizes u t a s ws e l o h in
    let long : length ws ≡ st_atoms s * element_words s = length-Fit t ws st.fits ∙ sym (layout-size t s o) in
    subst (λ us. Stands t us v) (same-words a s ws z.element long) st

-- ---- a pair of two arguments

join-form : (u z t : SeqTree) (a b s : StTree) (ws us : List ℕ) → LaysOut u a → LaysOut z b → LaysOut t s
    → paired (atoms t) (atom_words (atom_of u)) (atom_words (atom_of z)) ws us ≡ paired (st_atoms s) (element_words a) (element_words b) ws us
join-form u z t a b s ws us l m o =
    ap (λ n. paired n (atom_words (atom_of u)) (atom_words (atom_of z)) ws us) (sym o.atoms) ∙
    ap (λ n. paired (st_atoms s) n (atom_words (atom_of z)) ws us) (sym (element-size u a l))
    ∙ ap (λ n. paired (st_atoms s) (element_words a) n ws us) (sym (element-size z b m))

first-form : (u t : SeqTree) (a s : StTree) (ws : List ℕ) → LaysOut u a → LaysOut t s
    → parts (atoms t) (atom_words (atom_of u)) 0 (atom_words (atom_of t)) ws ≡ parts (st_atoms s) (element_words a) 0 (element_words s) ws
first-form u t a s ws l o =
    ap (λ n. parts n (atom_words (atom_of u)) 0 (atom_words (atom_of t)) ws) (sym o.atoms) ∙
    ap (λ n. parts (st_atoms s) n 0 (atom_words (atom_of t)) ws) (sym (element-size u a l))
    ∙ ap (λ n. parts (st_atoms s) (element_words a) 0 n ws) (sym (element-size t s o))

second-form : (u t : SeqTree) (a s : StTree) (ws : List ℕ) → LaysOut u a → LaysOut t s
    → parts (atoms t) (atom_words (atom_of u)) (atom_words (atom_of u) - atom_words (atom_of t)) (atom_words (atom_of t)) ws ≡ parts (st_atoms s)
    (element_words a) (element_words a - element_words s) (element_words s) ws
second-form u t a s ws l o =
    ap (λ n. parts n (atom_words (atom_of u)) (atom_words (atom_of u) - atom_words (atom_of t)) (atom_words (atom_of t)) ws) (sym o.atoms)
    ∙ ap (λ n. parts (st_atoms s) n (n - atom_words (atom_of t)) (atom_words (atom_of t)) ws) (sym (element-size u a l))
    ∙ ap (λ n. parts (st_atoms s) (element_words a) (element_words a - n) n ws) (sym (element-size t s o))

-- ---- every operator that calls nothing

module _ (known : List Callee) (means : List Meaning) (sigs : List Signature) (p : ProgramTree) (f budget : ℕ) (t : SeqTree) (s : StTree) (made : StOpTree)
    (l : LaysOut t s) where
  -- what is shown of a line with arguments of these types
  abbrev Makes : OpTree → List SeqTree → List ℕ → List StTree → List (List ℕ) → Type 0
  Makes op us is layouts wss = plain_op p f budget op is ≡ Some made → Stands t (op_words known layouts s made wss) (op_value means op (values_of us wss))

  pub plain-stands : (op : OpTree) (is : List ℕ) (us : List SeqTree) (layouts : List StTree) (wss : List (List ℕ)) → AreFolds op → Args p f is us layouts wss
      → op_type sigs op us ≡ Some t → Makes op us is layouts wss
  plain-stands (word op) is [] layouts wss fo h type = absurd (no-operands op t type)
  plain-stands (word op) is (u ∷ []) layouts wss fo h type = by-one p f (Makes (word op) (u ∷ [])) is u layouts wss h (λ i a ws x plain.
      let sign = sign-of p f i u op (i ∷ []) (operand-plain op (i ∷ []) (one-no-choice op u t type)) x.type in
      rw (← same_Some (st_word (op_by p f op (i ∷ []))) made plain)
      (one-words op (is_signed_type (type_at p f (deciding_argument op (i ∷ [])))) u t a ws type sign x.layout x.fits))
  plain-stands (word op) is (u ∷ z ∷ []) layouts wss fo h type = by-two p f (Makes (word op) (u ∷ z ∷ [])) is u z layouts wss h (λ i j a b ws us x y plain.
      let sign = sign-of p f i u op (i ∷ j ∷ []) (operand-plain op (i ∷ j ∷ []) (two-no-choice op u z t type)) x.type in
      rw (← same_Some (st_word (op_by p f op (i ∷ j ∷ []))) made plain)
      (two-words op (is_signed_type (type_at p f (deciding_argument op (i ∷ j ∷ [])))) u z t a b ws us type sign x.layout x.fits y.fits))
  plain-stands (word op) is (u ∷ z ∷ w ∷ []) layouts wss fo h type = by-three p f (Makes (word op) (u ∷ z ∷ w ∷ [])) is u z w layouts wss h
      (λ i j m a b d ws us vs x y q plain.
      let arm : deciding_argument op (i ∷ j ∷ m ∷ []) ≡ j = ap (λ o. deciding_argument o (i ∷ j ∷ m ∷ [])) (choice-line op u z w t type).is in
      let sign = sign-of p f j z op (i ∷ j ∷ m ∷ []) arm y.type in
      rw (← same_Some (st_word (op_by p f op (i ∷ j ∷ m ∷ []))) made plain)
      (choice-words op (is_signed_type (type_at p f (deciding_argument op (i ∷ j ∷ m ∷ [])))) u z w t a b d ws us vs type sign y.layout x.fits y.fits
      q.fits))
  plain-stands (word op) is (a ∷ b ∷ d ∷ e ∷ us) layouts wss fo h type = absurd (many-operands op a b d e us t type)
  plain-stands (cast_int v) is (u ∷ []) layouts wss fo h type = by-one p f (Makes (cast_int v) (u ∷ [])) is u layouts wss h (λ i a ws x plain.
      let sign = sign-of p f i u (Cast v) (i ∷ []) refl x.type in
      rw (← same_Some (st_word (op_by p f (Cast v) (i ∷ []))) made plain) (cast-words v (is_signed_type (type_at p f i)) u t a ws type sign x.layout x.fits))
  plain-stands (cast_int v) is [] layouts wss fo h type = absurd (none-some t type)
  plain-stands (cast_int v) is (u ∷ z ∷ us) layouts wss fo h type = absurd (none-some t type)
  plain-stands pair is (u ∷ z ∷ []) layouts wss fo h type = by-two p f (Makes pair (u ∷ z ∷ [])) is u z layouts wss h (λ i j a b ws us x y plain.
      rw (← same_Some join made plain) (subst (λ xs. Stands t xs (op_value means pair (value_of u ws ∷ value_of z us ∷ [])))
      (join-form u z t a b s ws us x.layout y.layout l) (pair-words u z t ws us type x.fits y.fits)))
  plain-stands pair is [] layouts wss fo h type = absurd (none-some t type)
  plain-stands pair is (u ∷ []) layouts wss fo h type = absurd (none-some t type)
  plain-stands pair is (u ∷ z ∷ w ∷ us) layouts wss fo h type = absurd (none-some t type)
  plain-stands zip is (u ∷ z ∷ []) layouts wss fo h type = by-two p f (Makes zip (u ∷ z ∷ [])) is u z layouts wss h (λ i j a b ws us x y plain.
      rw (← same_Some join made plain) (subst (λ xs. Stands t xs (op_value means zip (value_of u ws ∷ value_of z us ∷ [])))
      (join-form u z t a b s ws us x.layout y.layout l) (zip-words u z t ws us type x.fits y.fits)))
  plain-stands zip is [] layouts wss fo h type = absurd (none-some t type)
  plain-stands zip is (u ∷ []) layouts wss fo h type = absurd (none-some t type)
  plain-stands zip is (u ∷ z ∷ w ∷ us) layouts wss fo h type = absurd (none-some t type)
  plain-stands fst is (u ∷ []) layouts wss fo h type = by-one p f (Makes fst (u ∷ [])) is u layouts wss h (λ i a ws x plain.
      rw (← same_Some first made plain) (subst (λ xs. Stands t xs (op_value means fst (value_of u ws ∷ []))) (first-form u t a s ws x.layout l)
      (first-words u t ws type x.fits)))
  plain-stands fst is [] layouts wss fo h type = absurd (none-some t type)
  plain-stands fst is (u ∷ z ∷ us) layouts wss fo h type = absurd (none-some t type)
  plain-stands snd is (u ∷ []) layouts wss fo h type = by-one p f (Makes snd (u ∷ [])) is u layouts wss h (λ i a ws x plain.
      rw (← same_Some second made plain) (subst (λ xs. Stands t xs (op_value means snd (value_of u ws ∷ []))) (second-form u t a s ws x.layout l)
      (second-words u t ws type x.fits)))
  plain-stands snd is [] layouts wss fo h type = absurd (none-some t type)
  plain-stands snd is (u ∷ z ∷ us) layouts wss fo h type = absurd (none-some t type)
  plain-stands (const v ws) is [] layouts wss fo h type = by-none p f (Makes (const v ws) []) is layouts wss h (λ plain.
      rw (← same_Some (fixed ws) made plain) (constant-words v t ws type))
  plain-stands (const v ws) is (u ∷ us) layouts wss fo h type = absurd (none-some t type)
  plain-stands (call g) is us layouts wss fo h type = λ plain. absurd (none-some made plain)
  plain-stands (each g) is us layouts wss fo h type = λ plain. absurd (none-some made plain)
  plain-stands (each_two g) is us layouts wss fo h type = λ plain. absurd (none-some made plain)
  plain-stands (reduce op) is (seq n u ∷ []) layouts wss fo h type = by-one p f (Makes (reduce op) (seq n u ∷ [])) is (seq n u) layouts wss h (λ i a ws x plain.
      reduce-op known means p f budget i n op u t a s ws made fo x (same_Some (seq 1 u) t type) l plain)
  plain-stands (reduce op) is [] layouts wss fo h type = absurd (none-some t type)
  plain-stands (reduce op) is (atom b ∷ []) layouts wss fo h type = absurd (none-some t type)
  plain-stands (reduce op) is (u ∷ z ∷ us) layouts wss fo h type = absurd (none-some t type)
  plain-stands (scan op) is (seq n u ∷ []) layouts wss fo h type = by-one p f (Makes (scan op) (seq n u ∷ [])) is (seq n u) layouts wss h (λ i a ws x plain.
      scan-op known means p f budget i n op u t a s ws made fo x (same_Some (seq n u) t type) l plain)
  plain-stands (scan op) is [] layouts wss fo h type = absurd (none-some t type)
  plain-stands (scan op) is (atom b ∷ []) layouts wss fo h type = absurd (none-some t type)
  plain-stands (scan op) is (u ∷ z ∷ us) layouts wss fo h type = absurd (none-some t type)
  plain-stands (shift c) is (seq n u ∷ []) layouts wss fo h type = by-one p f (Makes (shift c) (seq n u ∷ [])) is (seq n u) layouts wss h (λ i a ws x plain.
      let m : move (Shift (c * atoms u)) ≡ made = same_Some _ made (sym (ap (λ o. o >>= shift_of c) x.type) ∙ plain) in
      rw (← m) (shift-op c n u t a s ws x.layout x.fits type l))
  plain-stands (shift c) is [] layouts wss fo h type = absurd (none-some t type)
  plain-stands (shift c) is (atom b ∷ []) layouts wss fo h type = absurd (none-some t type)
  plain-stands (shift c) is (u ∷ z ∷ us) layouts wss fo h type = absurd (none-some t type)
  plain-stands (up c) is (seq n u ∷ []) layouts wss fo h type = by-one p f (Makes (up c) (seq n u ∷ [])) is (seq n u) layouts wss h (λ i a ws x plain.
      rw (← same_Some (move (Up c)) made plain) (up-op c n u t a s ws x.layout x.fits type l))
  plain-stands (up c) is [] layouts wss fo h type = absurd (none-some t type)
  plain-stands (up c) is (atom b ∷ []) layouts wss fo h type = absurd (none-some t type)
  plain-stands (up c) is (u ∷ z ∷ us) layouts wss fo h type = absurd (none-some t type)
  plain-stands (select c) is (seq n u ∷ []) layouts wss fo h type = by-one p f (Makes (select c) (seq n u ∷ [])) is (seq n u) layouts wss h (λ i a ws x plain.
      rw (← same_Some (move (Select c)) made plain) (select-op c n u t a s ws x.layout x.fits type l))
  plain-stands (select c) is [] layouts wss fo h type = absurd (none-some t type)
  plain-stands (select c) is (atom b ∷ []) layouts wss fo h type = absurd (none-some t type)
  plain-stands (select c) is (u ∷ z ∷ us) layouts wss fo h type = absurd (none-some t type)
  plain-stands (partition c d) is (seq n u ∷ []) layouts wss fo h type = by-one p f (Makes (partition c d) (seq n u ∷ [])) is (seq n u) layouts wss h
      (λ i a ws x plain.
      let same : seq c (seq d u) ≡ t = same_Some _ t (where_ok-some (n == c * d) (Some (seq c (seq d u))) t type).1 in
      rw (← same_Some (move Same) made plain) (same-op (seq n u) t a s ws _ (ap atom_of same) x.layout l x.fits
      (partition-stands c d (seq n u) t ws type x.fits)))
  plain-stands (partition c d) is [] layouts wss fo h type = absurd (none-some t type)
  plain-stands (partition c d) is (atom b ∷ []) layouts wss fo h type = absurd (none-some t type)
  plain-stands (partition c d) is (u ∷ z ∷ us) layouts wss fo h type = absurd (none-some t type)
  plain-stands unpartition is (seq n (seq m u) ∷ []) layouts wss fo h type = by-one p f (Makes unpartition (seq n (seq m u) ∷ [])) is
      (seq n (seq m u)) layouts wss h (λ i a ws x plain.
      rw (← same_Some (move Same) made plain) (same-op (seq n (seq m u)) t a s ws _ (ap atom_of (same_Some (seq (n * m) u) t type)) x.layout l x.fits
      (unpartition-stands (seq n (seq m u)) t ws type x.fits)))
  plain-stands unpartition is [] layouts wss fo h type = absurd (none-some t type)
  plain-stands unpartition is (atom b ∷ []) layouts wss fo h type = absurd (none-some t type)
  plain-stands unpartition is (seq n (atom b) ∷ []) layouts wss fo h type = absurd (none-some t type)
  plain-stands unpartition is (u ∷ z ∷ us) layouts wss fo h type = absurd (none-some t type)
