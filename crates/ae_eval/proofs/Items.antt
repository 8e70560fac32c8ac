-- What is known of the lines of a typed program.
use Rattle.std.proofs.Common.{◌≡◌, ℕ, zero, suc, ◌+◌, ◌*◌, ◌<◌, ◌≤◌, ◌==◌, ◌&&◌, nat_le, nat_lt, Bool, true, false, List, [], ◌∷◌, ◌++◌, length, take, drop, map, get_or, Option, Some, None, IsTrue, slice_get, All, refl, arith, sym, ap, ◌∙◌, subst, length-append, append_assoc}
use Rattle.std.proofs.lemmas.List.{length-map, take-take, take_all, drop_more}
use Rattle.std.proofs.lemmas.Option.{slice_get-map, slice_get_within, get_or_from_slice_get}
use Rattle.std.proofs.lemmas.Bool.Decides.{nat_tests}
use Rattle.std.proofs.Math.Seq.{take-append_seam}
use Rattle.ae_word.specs.AtomTree.{AtomTree, word, pair, same_atom}
use Rattle.ae_seqtype.specs.SeqTree.{SeqTree, atom, seq, in_size, same_type}
use Rattle.ae_seq.specs.declared.program.Program.{Program}
use Rattle.ae_seq.specs.declared.program.Func.{Func}
use Rattle.ae_seq.specs.ProgramTree.{FuncTree, NodeTree, ProgramTree, func_tree, program_tree}
use Rattle.ae_seq.specs.Formed.{all_distinct, formed, formed_func, formed_funcs, formed_nodes, formed_params, func_names, is_name, named_items, within, all_below, has_arguments, is_line, item_count, func_lines, line_count, most_results}
use Rattle.ae_seq.specs.Typing.{Signature, called, grown, item_types, node_type, op_type, param_types, same_types, signature, signatures, types_at, where_ok, ◌>>=◌}
use Rattle.ae_seq.specs.Meaning.{meanings, meaning}
use Rattle.ae_seq.proofs.Judging.{signature-known}
use Rattle.ae_seq.proofs.Types.{item-sized, slice_get-view, some-item as some-type, front}
use Rattle.ae_eval.specs.Stack.{IsTyped, first_type, params_for, params_in, result_of, types_in}
use Rattle.ae_eval.specs.Lines.{ItemsHave, item_of, nodes_for, nodes_in, results_for, results_in}
use Rattle.ae_eval.proofs.Wording.{same-kind}
use Rattle.ae_eval.proofs.Moving.{where_ok-some}
use Rattle.ae_eval.proofs.Accepting.{func-types}
use Rattle.ae_eval.proofs.Starting.{count-items}
use Rattle.ae_eval.proofs.Framing.{grown-first, slice_get-seam, types-first, types-step}

pub and-both : (a b : Bool) → (a && b) ≡ true → (a ≡ true) × (b ≡ true)
and-both true b h = (refl, h)
and-both false b h = cc

and-four : (a b c d : Bool) → (a && b && c && d) ≡ true → (a ≡ true) × (b ≡ true) × (c ≡ true) × (d ≡ true)
and-four false b c d h = cc
and-four true false c d h = cc
and-four true true false d h = cc
and-four true true true d h = (refl, refl, refl, h)

and-five : (a b c d e : Bool) → (a && b && c && d && e) ≡ true → (a ≡ true) × (b ≡ true) × (c ≡ true) × (d ≡ true) × (e ≡ true)
and-five false b c d e h = cc
and-five true false c d e h = cc
and-five true true false d e h = cc
and-five true true true false e h = cc
and-five true true true true e h = (refl, refl, refl, refl, h)

and-seven : (a b c d e f g : Bool) → (a && b && c && d && e && f && g) ≡ true → (a ≡ true) × (b ≡ true) × (c ≡ true) × (d ≡ true) × (e ≡ true) × (f ≡ true)
    × (g ≡ true)
and-seven false b c d e f g h = cc
and-seven true false c d e f g h = cc
and-seven true true false d e f g h = cc
and-seven true true true false e f g h = cc
and-seven true true true true false f g h = cc
and-seven true true true true true false g h = cc
and-seven true true true true true true g h = (refl, refl, refl, refl, refl, refl, h)

-- what there is at a place within a list
pub entry-at : {A : Type 0} (xs : List A) (k : ℕ) → k < length xs → (x : A) × (slice_get xs k ≡ Some x)
entry-at [] k h = absurd (omega arith)
entry-at (x ∷ xs) zero h = (x, refl)
entry-at (x ∷ xs) (suc k) h = entry-at xs k (omega arith)

pub slice_get-take : {A : Type 0} (n i : ℕ) (xs : List A) → i < n → slice_get (take n xs) i ≡ slice_get xs i
slice_get-take zero i xs h = absurd (omega arith)
slice_get-take (suc n) i [] h = refl
slice_get-take (suc n) zero (x ∷ xs) h = refl
slice_get-take (suc n) (suc i) (x ∷ xs) h = slice_get-take n i xs (omega arith)

pub drop-at : {A : Type 0} (xs : List A) (i : ℕ) (x : A) → slice_get xs i ≡ Some x → drop i xs ≡ x ∷ drop (i + 1) xs
drop-at xs i x h =
    let within = slice_get_within xs i x h in
    drop_more xs i x within ∙ ap (λ y. y ∷ drop (i + 1) xs) (get_or_from_slice_get xs i x x h)

-- ---- what grows entry by entry

take-grown-from : {A B : Type 0} (step : List B → A → B) (known : List B) (xs : List A) (c : ℕ)
    → take (length known + c) (grown step known xs) ≡ grown step known (take c xs)
take-grown-from step known [] zero = take_all (length known + zero) known (omega arith)
take-grown-from step known [] (suc c) = take_all (length known + suc c) known (omega arith)
take-grown-from step known (x ∷ xs) zero =
    let r = grown-first step (known ++ step known x ∷ []) xs in
    let none : length known + 0 ≡ length known = omega arith in
    let all : grown step (known ++ step known x ∷ []) xs ≡ known ++ (step known x ∷ r.0) = r.1 ∙ append_assoc known (step known x ∷ []) r.0 in
    ap (λ n. take n (grown step (known ++ step known x ∷ []) xs)) none ∙ ap (take (length known)) all ∙ take-append_seam known (step known x ∷ r.0)
take-grown-from step known (x ∷ xs) (suc c) =
    let more : length known + suc c ≡ length (known ++ step known x ∷ []) + c = omega (arith, length-append known (step known x ∷ [])) in
    ap (λ n. take n (grown step (known ++ step known x ∷ []) xs)) more ∙ take-grown-from step (known ++ step known x ∷ []) xs c

pub take-grown : {A B : Type 0} (step : List B → A → B) (xs : List A) (c : ℕ) → take c (grown step [] xs) ≡ grown step [] (take c xs)
take-grown step xs c =
    let none : c ≡ 0 + c = omega arith in
    ap (λ n. take n (grown step [] xs)) none ∙ take-grown-from step [] xs c

entry-grown-from : {A B : Type 0} (step : List B → A → B) (known : List B) (xs : List A) (c : ℕ) (x : A) → slice_get xs c ≡ Some x
    → slice_get (grown step known xs) (length known + c) ≡ Some (step (grown step known (take c xs)) x)
entry-grown-from step known [] c x h = cc
entry-grown-from step known (y ∷ xs) zero x h =
    let same : y ≡ x = cc in
    let r = grown-first step (known ++ step known y ∷ []) xs in
    let all : grown step (known ++ step known y ∷ []) xs ≡ known ++ (step known y ∷ r.0) = r.1 ∙ append_assoc known (step known y ∷ []) r.0 in
    ap (λ ys. slice_get ys (length known + 0)) all ∙ slice_get-seam known r.0 (step known y) (length known + 0) (omega arith) ∙
    ap (λ z. Some (step known z)) same
entry-grown-from step known (y ∷ xs) (suc c) x h =
    let more : length known + suc c ≡ length (known ++ step known y ∷ []) + c = omega (arith, length-append known (step known y ∷ [])) in
    ap (slice_get (grown step (known ++ step known y ∷ []) xs)) more ∙ entry-grown-from step (known ++ step known y ∷ []) xs c x h

pub entry-grown : {A B : Type 0} (step : List B → A → B) (xs : List A) (c : ℕ) (x : A) → slice_get xs c ≡ Some x
    → slice_get (grown step [] xs) c ≡ Some (step (grown step [] (take c xs)) x)
entry-grown step xs c x h =
    let none : c ≡ 0 + c = omega arith in
    ap (slice_get (grown step [] xs)) none ∙ entry-grown-from step [] xs c x h

-- ---- the same types

same-atom : (a b : AtomTree) → same_atom a b ≡ true → a ≡ b
same-atom (word k) (word l) h = ap word (same-kind k l h)
same-atom (word k) (pair c d) h = cc
same-atom (pair a b) (word l) h = cc
same-atom (pair a b) (pair c d) h =
    let r = and-both (same_atom a c) (same_atom b d) h in
    let p = same-atom a c r.0 in
    let q = same-atom b d r.1 in
    rw (p, q) refl

same-type : (t u : SeqTree) → same_type t u ≡ true → t ≡ u
same-type (atom a) (atom b) h = ap atom (same-atom a b h)
same-type (atom a) (seq m u) h = cc
same-type (seq n t) (atom b) h = cc
same-type (seq n t) (seq m u) h =
    let r = and-both (n == m) (same_type t u) h in
    let p : n ≡ m = grind (arith, nat_tests, r.0) in
    let q = same-type t u r.1 in
    rw (p, q) refl

same-types : (ts us : List SeqTree) → same_types ts us ≡ true → ts ≡ us
same-types [] [] h = refl
same-types [] (u ∷ us) h = cc
same-types (t ∷ ts) [] h = cc
same-types (t ∷ ts) (u ∷ us) h =
    let r = and-both (same_type t u) (same_types ts us) h in
    let p = same-type t u r.0 in
    let q = same-types ts us r.1 in
    rw (p, q) refl

-- ---- a call of a function above

pub record CallFacts (p : ProgramTree) (c : ℕ) (us : List SeqTree) (u : SeqTree) : Type 0 where
  pub known : c < length p.funcs
  pub params : params_in p c ≡ us
  pub result : result_of p c ≡ Some u

called-some : (o : Option Signature) (s : Signature) (us : List SeqTree) (u : SeqTree) → o ≡ Some s
    → (o >>= λ s. where_ok (same_types s.params us) s.result) ≡ Some u → (s.params ≡ us) × (s.result ≡ Some u)
called-some None s us u e h = cc
called-some (Some z) s us u e h =
    let same : z ≡ s = cc in
    let P : Signature → Type 0 = λ y. where_ok (same_types y.params us) y.result ≡ Some u in
    let r = where_ok-some (same_types s.params us) s.result u (subst P same h) in
    (same-types s.params us r.0, r.1)

pub call-facts : (p : ProgramTree) (k c : ℕ) (us : List SeqTree) (u : SeqTree) → IsTyped p → c < k → k < length p.funcs
    → called (signatures (take k p.funcs)) c us ≡ Some u → CallFacts p c us u
call-facts p k c us u h below known e =
    let inside : c < length p.funcs = omega arith in
    let at-c = entry-at p.funcs c inside in
    let f = at-c.0 in
    let own = func-types p c f h at-c.1 in
    let above = signatures (take c p.funcs) in
    let first : take c (take k p.funcs) ≡ take c p.funcs = take-take c k p.funcs (omega arith) in
    let there : slice_get (take k p.funcs) c ≡ Some f = slice_get-take k c p.funcs below ∙ at-c.1 in
    let entry : slice_get (signatures (take k p.funcs)) c ≡ Some (signature above f) =
    entry-grown signature (take k p.funcs) c f there ∙ ap (λ fs. Some (signature (signatures fs) f)) first in
    let sig = signature-known above f (types_in p c) own.all in
    let r = called-some (slice_get (signatures (take k p.funcs)) c) (signature above f) us u entry e in
    record {
      known = inside;
      params = ap params_for at-c.1 ∙ r.0;
      result = ap (first_type (types_in p c)) at-c.1 ∙ sym (ap (λ (s : Signature). s.result) sig) ∙ r.1;
    }

-- ---- the meanings of the functions above

pub meaning-of : (p : ProgramTree) (k : ℕ) (f : FuncTree) → slice_get p.funcs k ≡ Some f
    → slice_get (meanings p.funcs) k ≡ Some (meaning (take k (meanings p.funcs)) f)
meaning-of p k f h =
    entry-grown meaning p.funcs k f h ∙ ap (λ ms. Some (meaning ms f)) (sym (take-grown meaning p.funcs k))

-- ---- formed lines

pub record FormedLine (v k n : ℕ) (l : NodeTree) : Type 0 where
  pub line : is_line v k l.op ≡ true
  pub arity : has_arguments l.op (length l.args) ≡ true
  pub below : all_below n l.args ≡ true

formed-line : (v k i : ℕ) (ls : List NodeTree) (j : ℕ) (l : NodeTree) → formed_nodes v k i ls ≡ true → slice_get ls j ≡ Some l → FormedLine v k (i + j) l
formed-line v k i [] j l h e = cc
formed-line v k i (m ∷ ls) zero l h e =
    let same : m ≡ l = cc in
    let none : i ≡ i + 0 = omega arith in
    let r = and-four (is_line v k m.op) (has_arguments m.op (length m.args)) (all_below i m.args) (formed_nodes v k (i + 1) ls) h in
    let P : NodeTree → Type 0 = λ x. FormedLine v k (i + 0) x in
    let Q : ℕ → Type 0 = λ x. FormedLine v k x m in
    subst P same (subst Q none (record { line = r.0; arity = r.1; below = r.2 }))
formed-line v k i (m ∷ ls) (suc j) l h e =
    let r = and-four (is_line v k m.op) (has_arguments m.op (length m.args)) (all_below i m.args) (formed_nodes v k (i + 1) ls) h in
    let more : i + 1 + j ≡ i + suc j = omega arith in
    let Q : ℕ → Type 0 = λ x. FormedLine v k x l in
    subst Q more (formed-line v k (i + 1) ls j l r.3 e)

pub record FormedFunc (v k : ℕ) (f : FuncTree) : Type 0 where
  pub few-params : length f.params ≤ 8
  pub nodes : formed_nodes v k (length f.params) f.nodes ≡ true
  pub some : 1 ≤ length f.results
  pub below : all_below (item_count f) f.results ≡ true

func-formed : (v k m : ℕ) (f : FuncTree) → formed_func v k m f ≡ true → FormedFunc v k f
func-formed v k m f h =
    let r = and-seven (is_name f.name) (within 1 8 (length f.params)) (formed_params v f.params) (formed_nodes v k (length f.params) f.nodes)
    (within 1 m (length f.results)) (all_below (item_count f) f.results) (named_items f) h in
    let few = and-both (nat_le 1 (length f.params)) (nat_le (length f.params) 8) r.1 in
    let one = and-both (nat_le 1 (length f.results)) (nat_le (length f.results) m) r.4 in
    record {
      few-params = grind (arith, nat_tests, few.1);
      nodes = r.3;
      some = grind (arith, nat_tests, one.0);
      below = r.5;
    }

funcs-formed : (v i : ℕ) (fs : List FuncTree) (k : ℕ) (f : FuncTree) → formed_funcs v i fs ≡ true → slice_get fs k ≡ Some f → FormedFunc v (i + k) f
funcs-formed v i [] k f h e = cc
funcs-formed v i (g ∷ fs) zero f h e =
    let same : g ≡ f = cc in
    let none : i ≡ i + 0 = omega arith in
    let a = and-both (formed_func v i (most_results v fs) g) _ h in
    let P : FuncTree → Type 0 = λ x. FormedFunc v (i + 0) x in
    let Q : ℕ → Type 0 = λ x. FormedFunc v x g in
    subst P same (subst Q none (func-formed v i (most_results v fs) g a.0))
funcs-formed v i (g ∷ fs) (suc k) f h e =
    let a = and-both (formed_func v i (most_results v fs) g) _ h in
    let more : i + 1 + k ≡ i + suc k = omega arith in
    let Q : ℕ → Type 0 = λ x. FormedFunc v x f in
    subst Q more (funcs-formed v (i + 1) fs k f a.1 e)

-- what a formed program's functions and lines are
pub record FormedProgram (p : ProgramTree) : Type 0 where
  pub funcs : formed_funcs p.version 0 p.funcs ≡ true
  pub lines : func_lines p.funcs ≤ 4096
  pub some : 1 ≤ length p.funcs

program-formed : (p : ProgramTree) → formed p ≡ true → FormedProgram p
program-formed p h =
    let r = and-five (within 1 2 p.version) (nat_le 1 (length p.funcs)) (nat_le (line_count p) 4096) (all_distinct (func_names p.funcs))
    (formed_funcs p.version 0 p.funcs) h in
    let lines : line_count p ≤ 4096 = grind (arith, nat_tests, r.2) in
    record {
      funcs = r.4;
      lines = omega (arith, lines);
      some = grind (arith, nat_tests, r.1);
    }

pub formed-at : (p : ProgramTree) (k : ℕ) (f : FuncTree) → IsTyped p → slice_get p.funcs k ≡ Some f → FormedFunc p.version k f
formed-at p k f h e =
    let r = program-formed p h.is_formed in
    let none : 0 + k ≡ k = omega arith in
    let Q : ℕ → Type 0 = λ x. FormedFunc p.version x f in
    subst Q none (funcs-formed p.version 0 p.funcs k f r.funcs e)

two-lines : (fs : List FuncTree) → 2 * length fs ≤ func_lines fs
two-lines [] = omega arith
two-lines (f ∷ fs) = omega (arith, two-lines fs)

pub few-funcs : (p : ProgramTree) → IsTyped p → (length p.funcs ≤ 2048) × (1 ≤ length p.funcs)
few-funcs p h =
    let r = program-formed p h.is_formed in
    let t = two-lines p.funcs in
    (omega (arith, t, r.lines), r.some)

lines-within : (fs : List FuncTree) (k : ℕ) (f : FuncTree) → slice_get fs k ≡ Some f → 2 + length f.nodes ≤ func_lines fs
lines-within [] k f h = cc
lines-within (g ∷ fs) zero f h = let same : g ≡ f = cc in rw (← same) (omega arith)
lines-within (g ∷ fs) (suc k) f h = omega (arith, lines-within fs k f h)

pub few-items : (p : ProgramTree) (k : ℕ) (f : FuncTree) → IsTyped p → slice_get p.funcs k ≡ Some f → (length f.params ≤ 8) × (length f.nodes ≤ 4094)
few-items p k f h e =
    let r = program-formed p h.is_formed in
    let t = lines-within p.funcs k f e in
    ((formed-at p k f h e).few-params, omega (arith, t, r.lines))

-- ---- typed lines

-- the first argument and the others
record Front (o : Option (Option SeqTree)) (r : Option (List SeqTree)) (us : List SeqTree) : Type 0 where
  first : SeqTree
  rest : List SeqTree
  first_is : o ≡ Some (Some first)
  rest_is : r ≡ Some rest
  whole : first ∷ rest ≡ us

types-there : (ts : List SeqTree) (is : List ℕ) (us : List SeqTree) → types_at (map (λ (t : SeqTree). Some t) ts) is ≡ Some us → ItemsHave ts is us
types-there ts [] us h = let e : [] ≡ us = cc in rw (← e) tt
types-there ts (i ∷ is) us h =
    let f = front (slice_get (map (λ (t : SeqTree). Some t) ts) i) (types_at (map (λ (t : SeqTree). Some t) ts) is) us h in
    let here = some-type (slice_get ts i) f.first (sym (slice_get-map {B = Option SeqTree} (λ x. Some x) ts i) ∙ f.first_is) in
    rw (← f.whole) (here, types-there ts is f.rest f.rest_is)

items-take : (n : ℕ) (ts : List SeqTree) (is : List ℕ) (us : List SeqTree) → all_below n is ≡ true → ItemsHave (take n ts) is us → ItemsHave ts is us
items-take n ts [] [] h g = tt
items-take n ts [] (u ∷ us) h g = absurd g
items-take n ts (i ∷ is) [] h g = absurd g
items-take n ts (i ∷ is) (u ∷ us) h g =
    let r = and-both (nat_lt i n) (all_below n is) h in
    let below : i < n = grind (arith, nat_tests, r.0) in
    (sym (slice_get-take n i ts below) ∙ g.0, items-take n ts is us r.1 g.1)

pub record LineFacts (p : ProgramTree) (k j : ℕ) (l : NodeTree) : Type 0 where
  pub type : SeqTree
  pub own : slice_get (types_in p k) (item_of p k j) ≡ Some type
  pub sized : IsTrue (in_size type)
  pub args : List SeqTree
  pub have : ItemsHave (types_in p k) l.args args
  pub typed : op_type (signatures (take k p.funcs)) l.op args ≡ Some type
  pub line : is_line p.version k l.op ≡ true
  pub arity : has_arguments l.op (length l.args) ≡ true
  pub below : all_below (item_of p k j) l.args ≡ true

params-first : (sigs : List Signature) (f : FuncTree) (ts : List SeqTree) → item_types sigs f ≡ map (λ (t : SeqTree). Some t) ts
    → take (length (param_types f)) ts ≡ param_types f
params-first sigs f ts h =
    let ps = param_types f in
    let g = grown-first (node_type sigs) (map (λ (t : SeqTree). Some t) ps) f.nodes in
    let split = types-first ps ts g.0 (sym h ∙ g.1) in
    ap (λ zs. take (length ps) zs) split.1 ∙ take-append_seam ps split.0

-- the types of the rest, by those of the items above
types-from : (sigs : List Signature) (f : FuncTree) (ts : List SeqTree) (j : ℕ) → item_types sigs f ≡ map (λ (t : SeqTree). Some t) ts
    → length ts ≡ length (param_types f) + length f.nodes → j ≤ length f.nodes
    → grown (node_type sigs) (map (λ (t : SeqTree). Some t) (take (length (param_types f) + j) ts)) (drop j f.nodes) ≡ map (λ (t : SeqTree). Some t) ts
types-from sigs f ts zero h e lt =
    let none : length (param_types f) + 0 ≡ length (param_types f) = omega arith in
    rw (none, params-first sigs f ts h) h
types-from sigs f ts (suc j) h e lt =
    let there = entry-at f.nodes j (omega arith) in
    let l = there.0 in
    let n = length (param_types f) + j in
    let before = types-from sigs f ts j h e (omega arith) in
    let form = drop-at f.nodes j l there.1 in
    let P : List NodeTree → Type 0 = λ ls. grown (node_type sigs) (map (λ (t : SeqTree). Some t) (take n ts)) ls ≡ map (λ (t : SeqTree). Some t) ts in
    let s = types-step sigs ts n l (drop (j + 1) f.nodes) (omega arith) (subst P form before) in
    let a : length (param_types f) + suc j ≡ n + 1 = omega arith in
    let b : suc j ≡ j + 1 = omega arith in
    rw (a, b) s.later

pub option-both : {A B : Type 0} (o : Option A) (g : A → Option B) (y : B) → (o >>= g) ≡ Some y → (x : A) × (o ≡ Some x) × (g x ≡ Some y)
option-both None g y h = cc
option-both (Some x) g y h = (x, refl, h)

pub line-facts : (p : ProgramTree) (k j : ℕ) (l : NodeTree) → IsTyped p → k < length p.funcs → slice_get (nodes_in p k) j ≡ Some l → LineFacts p k j l
line-facts p k j l h known e =
    let at-k = entry-at p.funcs k known in
    let f = at-k.0 in
    let ts = types_in p k in
    let sigs = signatures (take k p.funcs) in
    let own = func-types p k f h at-k.1 in
    let count = count-items p k f h at-k.1 in
    let number : length (param_types f) ≡ length f.params = length-map f.params _ in
    let inside : slice_get f.nodes j ≡ Some l = ap (λ o. slice_get (nodes_for o) j) (sym at-k.1) ∙ e in
    let within = slice_get_within f.nodes j l inside in
    let n = length (param_types f) + j in
    let item : n ≡ item_of p k j = ap (λ o. length (params_for o) + j) (sym at-k.1) in
    let from = types-from sigs f ts j own.all (omega (arith, count, number)) (omega arith) in
    let P : List NodeTree → Type 0 = λ ls. grown (node_type sigs) (map (λ (t : SeqTree). Some t) (take n ts)) ls ≡ map (λ (t : SeqTree). Some t) ts in
    let s = types-step sigs ts n l (drop (j + 1) f.nodes) (omega (arith, count, number)) (subst P (drop-at f.nodes j l inside) from) in
    let o = option-both (types_at (map (λ (t : SeqTree). Some t) (take n ts)) l.args) (op_type sigs l.op) s.type s.node_is in
    let line = formed-line p.version k (length f.params) f.nodes j l (formed-at p k f h at-k.1).nodes inside in
    let place : length f.params + j ≡ n = omega (arith, number) in
    let B : ℕ → Type 0 = λ m. all_below m l.args ≡ true in
    let below : all_below n l.args ≡ true = subst B place line.below in
    let S : ℕ → Type 0 = λ m. slice_get ts m ≡ Some s.type in
    record {
      type = s.type;
      own = subst S item s.own;
      sized = item-sized ts n s.type own.sized s.own;
      args = o.0;
      have = items-take n ts l.args o.0 below (types-there (take n ts) l.args o.0 o.1);
      typed = o.2;
      line = line.line;
      arity = line.arity;
      below = subst B item below;
    }

-- ---- what the code reads of a program

pub func-read : (p : Program) (k : ℕ) (f : Func) → k < length (program_tree p).funcs → f ≡ get_or p.funcs.items k f
    → slice_get (program_tree p).funcs k ≡ Some (func_tree f)
func-read p k f h e = slice_get-view func_tree p.funcs.items k f (simp length-map at h) e

pub counts-read : (p : Program) (k : ℕ) (f : Func) → IsTyped (program_tree p) → k < length (program_tree p).funcs → f ≡ get_or p.funcs.items k f
    → (length f.params.items + length f.nodes.items ≡ length (types_in (program_tree p) k)) × (length f.params.items + length f.nodes.items ≤ 4104)
counts-read p k f h known e =
    let read = func-read p k f known e in
    let count = count-items (program_tree p) k (func_tree f) h read in
    let few = few-items (program_tree p) k (func_tree f) h read in
    let a : length (func_tree f).params ≡ length f.params.items = length-map f.params.items _ in
    let b : length (func_tree f).nodes ≡ length f.nodes.items = length-map f.nodes.items _ in
    (omega (arith, count, a, b), omega (arith, few.0, few.1, a, b))

pub arg-below : (n i d : ℕ) (is : List ℕ) → all_below n is ≡ true → i < length is → get_or is i d < n
arg-below n i d [] h lt = absurd (omega arith)
arg-below n zero d (k ∷ is) h lt = let r = and-both (nat_lt k n) (all_below n is) h in grind (arith, nat_tests, r.0)
arg-below n (suc i) d (k ∷ is) h lt = let r = and-both (nat_lt k n) (all_below n is) h in arg-below n i d is r.1 (omega arith)

pub results-read : (p : Program) (k : ℕ) (f : Func) → IsTyped (program_tree p) → k < length (program_tree p).funcs → f ≡ get_or p.funcs.items k f
    → (results_in (program_tree p) k ≡ f.results.items) × (1 ≤ length (results_in (program_tree p) k))
    × All (λ (i : ℕ). i < length (types_in (program_tree p) k)) (results_in (program_tree p) k)
results-read p k f h known e =
    let read = func-read p k f known e in
    let is : results_in (program_tree p) k ≡ f.results.items = ap results_for read in
    let count = count-items (program_tree p) k (func_tree f) h read in
    let form = formed-at (program_tree p) k (func_tree f) h read in
    (is, rw is form.some, rw is (λ i d lt. let q = arg-below (item_count (func_tree f)) i d f.results.items form.below lt in omega arith))

pub funcs-count : (p q : Program) (n : ℕ) → q ≡ p → n ≡ q.funcs.len → IsTyped (program_tree p) → (n ≡ length (program_tree p).funcs) × (1 ≤ n)
funcs-count p q n e h typed =
    let a = ap (λ (z : Program). length z.funcs.items) e in
    let b : length (program_tree p).funcs ≡ length p.funcs.items = length-map p.funcs.items func_tree in
    let some = (few-funcs (program_tree p) typed).1 in
    (omega (arith, h, a, b, q.funcs.ok), omega (arith, h, a, b, some, q.funcs.ok))
