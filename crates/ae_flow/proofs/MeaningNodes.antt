-- Each node of an instance makes the words of the value of its line.
use Rattle.std.proofs.Common.{◌≡◌, ℕ, zero, suc, ◌+◌, ◌*◌, ◌<◌, ◌==◌, true, List, [], ◌∷◌, ◌++◌, length, take, map, Option, Some, None, IsTrue, slice_get, refl, arith, sym, ap, ◌∙◌, subst, inl, inr, length-append}
use Rattle.std.proofs.lemmas.Bool.{cases_lt}
use Rattle.std.proofs.lemmas.Bool.Decides.{nat_tests}
use Rattle.std.proofs.lemmas.List.{get_or_append_left, get_or_push}
use Rattle.std.proofs.lemmas.Option.{none-some, same_Some, unwrap_or-slice_get}
use Rattle.ae_seqtype.specs.SeqTree.{SeqTree, atom, seq, atoms, in_size, parts_in_size}
use Rattle.ae_seqtype.specs.ValueTree.{ValueTree, end, elements, listed, value_of, Stands}
use Rattle.ae_seq.specs.ProgramTree.{ProgramTree, NodeTree, OpTree, call, each, each_two, reduce, scan}
use Rattle.ae_seq.specs.Formed.{all_below, is_line}
use Rattle.ae_seq.specs.Typing.{type_at, op_type, called, each_type, each_two_type, signatures, grown, ◌>>=◌}
use Rattle.ae_seq.specs.Meaning.{Meaning, applied, at, map_two, meanings, node_value, op_value}
use Rattle.ae_sttype.specs.StTree.{StTree}
use Rattle.ae_rewrite.specs.declared.calls.Call.{Call}
use Rattle.ae_rewrite.specs.LayoutRule.{lay_of}
use Rattle.ae_rewrite.specs.Calls.{Spreading, spread_at, head, call_of, each_call, called_by, plain_op}
use Rattle.ae_rewrite.specs.StProgramTree.{StOpTree, body, StNodeTree}
use Rattle.ae_rewrite.specs.Scheduled.{Keys, IsOp, IsBody, IsStNode, AreStNodes}
use Rattle.ae_rewrite.specs.Sound.{item_layout}
use Rattle.ae_eval.specs.Stack.{AllFit, AreFolds, IsTyped, params_in, types_in, values_of}
use Rattle.ae_eval.specs.Lines.{ItemsHave, item_of, nodes_in}
use Rattle.ae_eval.proofs.Calling.{applied-above}
use Rattle.ae_eval.proofs.Items.{call-facts, line-facts, option-both}
use Rattle.ae_eval.proofs.Moving.{where_ok-some}
use Rattle.ae_eval.proofs.Typing.{type-at-is}
use Rattle.ae_flow.specs.Flow.{Callee, callee_at, node_words, op_words, words_at, mapped, element_count}
use Rattle.ae_flow.proofs.MeaningLayouts.{LaysOut, lays-out}
use Rattle.ae_flow.proofs.MeaningBodies.{Computes, call-words, each-words, each-two-words}
use Rattle.ae_flow.proofs.MeaningOperators.{Args, by-one, by-two, plain-stands}

-- ---- items one after another

-- the first n items of these types have words, and values that these stand for
pub record Standing (ts : List SeqTree) (n : ℕ) (wss : List (List ℕ)) (vs : List ValueTree) : Type 0 where
  pub words : length wss ≡ n
  pub values : length vs ≡ n
  pub each : (i : ℕ) (t : SeqTree) → i < n → slice_get ts i ≡ Some t → Stands t (words_at wss i) (at vs i)

standing-push : (ts : List SeqTree) (n : ℕ) (wss : List (List ℕ)) (vs : List ValueTree) (ws : List ℕ) (v : ValueTree) → Standing ts n wss vs
    → ((t : SeqTree) → slice_get ts n ≡ Some t → Stands t ws v) → Standing ts (n + 1) (wss ++ ws ∷ []) (vs ++ v ∷ [])
standing-push ts n wss vs ws v h one =
    let a = h.words in
    let b = h.values in
    record {
      words = omega (arith, length-append wss (ws ∷ []));
      values = omega (arith, length-append vs (v ∷ []));
      each = λ i t lt e. elim (cases_lt i n) [
        | inl low ↦
            let P : List ℕ → Type 0 = λ us. Stands t us (at (vs ++ v ∷ []) i) in
            let Q : ValueTree → Type 0 = λ y. Stands t (words_at wss i) y in
            subst P (sym (get_or_append_left wss (ws ∷ []) [] i (omega arith)))
            (subst Q (sym (unwrap_or-slice_get (vs ++ v ∷ []) i end ∙ (get_or_append_left vs (v ∷ []) end i (omega arith)
            ∙ sym (unwrap_or-slice_get vs i end)))) (h.each i t low e))
        | inr high ↦
            let last : n ≡ i = omega arith in
            let P : List ℕ → Type 0 = λ us. Stands t us (at (vs ++ v ∷ []) i) in
            let Q : ValueTree → Type 0 = λ y. Stands t ws y in
            subst P (sym (get_or_push wss ws [] i (a ∙ last)))
            (subst Q (sym (unwrap_or-slice_get (vs ++ v ∷ []) i end ∙ get_or_push vs v end i (b ∙ last)))
            (one t (subst (λ j. slice_get ts j ≡ Some t) (sym last) e)))
      ];
    }

-- what each node adds
module _ (ts : List SeqTree) (p : ProgramTree) (keys : Keys) (f u : ℕ) (W : List (List ℕ) → StNodeTree → List ℕ)
    (V : List ValueTree → NodeTree → ValueTree) where
  abbrev pub Adds : (i : ℕ) → List NodeTree → Type 0
  Adds i ns =
      (q : ℕ) (n : NodeTree) (s : StNodeTree) (wss : List (List ℕ)) (vs : List ValueTree) (t : SeqTree) → slice_get ns q ≡ Some n
      → IsStNode p keys f u (i + q) n s → Standing ts (i + q) wss vs → slice_get ts (i + q) ≡ Some t
      → Stands t (W wss s) (V vs n)

  pub grown-stands : (i : ℕ) (ns : List NodeTree) (ss : List StNodeTree) (wss : List (List ℕ)) (vs : List ValueTree) → Adds i ns
      → AreStNodes p keys f u i ns ss → Standing ts i wss vs → Standing ts (i + length ns) (grown W wss ss) (grown V vs ns)
  grown-stands i [] [] wss vs add h st = let e : i ≡ i + 0 = omega arith in subst (λ k. Standing ts k wss vs) e st
  grown-stands i [] (s ∷ ss) wss vs add h st = absurd h
  grown-stands i (n ∷ ns) [] wss vs add h st = absurd h
  grown-stands i (n ∷ ns) (s ∷ ss) wss vs add h st =
      let none : i ≡ i + 0 = omega arith in
      let own : (t : SeqTree) → slice_get ts i ≡ Some t → Stands t (W wss s) (V vs n) =
      λ t e. add 0 n s wss vs t refl (subst (λ k. IsStNode p keys f u k n s) none h.0) (subst (λ k. Standing ts k wss vs) none st)
      (subst (λ k. slice_get ts k ≡ Some t) none e) in
      let more : Adds (i + 1) ns = λ q m x us ys t e is at type.
      (let sum : i + 1 + q ≡ i + suc q = omega arith in
      add (suc q) m x us ys t e (subst (λ k. IsStNode p keys f u k m x) sum is) (subst (λ k. Standing ts k us ys) sum at)
      (subst (λ k. slice_get ts k ≡ Some t) sum type)) in
      let next = grown-stands (i + 1) ns ss (wss ++ W wss s ∷ []) (vs ++ V vs n ∷ []) more h.1 (standing-push ts i wss vs (W wss s) (V vs n) st own) in
      let sum : i + 1 + length ns ≡ i + length (n ∷ ns) = omega arith in
      subst (λ k. Standing ts k (grown W (wss ++ W wss s ∷ []) ss) (grown V (vs ++ V vs n ∷ []) ns)) sum next

-- ---- the arguments of a node

-- each item's layout lays out its type
abbrev pub LaidItems : List SeqTree → List StTree → Type 0
LaidItems ts layouts = (i : ℕ) (t : SeqTree) → slice_get ts i ≡ Some t → LaysOut t (item_layout layouts i)

abbrev pub SizedItems : List SeqTree → Type 0
SizedItems ts = (i : ℕ) (t : SeqTree) → slice_get ts i ≡ Some t → IsTrue (in_size t)

record ArgsOf (p : ProgramTree) (f : ℕ) (layouts : List StTree) (wss : List (List ℕ)) (vs : List ValueTree) (is : List ℕ) (us : List SeqTree) : Type 0 where
  all : Args p f is us (map (item_layout layouts) is) (map (words_at wss) is)
  values : map (at vs) is ≡ values_of us (map (words_at wss) is)

args-of : (p : ProgramTree) (f n : ℕ) (layouts : List StTree) (wss : List (List ℕ)) (vs : List ValueTree) (is : List ℕ) (us : List SeqTree) → IsTyped p
    → LaidItems (types_in p f) layouts → SizedItems (types_in p f) → Standing (types_in p f) n wss vs
    → all_below n is ≡ true → ItemsHave (types_in p f) is us → ArgsOf p f layouts wss vs is us
args-of p f n layouts wss vs [] [] h laid sized st below have = record { all = tt; values = refl }
args-of p f n layouts wss vs [] (u ∷ us) h laid sized st below have = absurd have
args-of p f n layouts wss vs (i ∷ is) [] h laid sized st below have = absurd have
args-of p f n layouts wss vs (i ∷ is) (u ∷ us) h laid sized st below have =
    let low : i < n = grind (arith, nat_tests) in
    let rest : all_below n is ≡ true = grind (arith, nat_tests) in
    let r = args-of p f n layouts wss vs is us h laid sized st rest have.1 in
    let one = st.each i u low have.0 in
    record {
      all = (record { type = type-at-is p f i h ∙ have.0; sized = sized i u have.0; layout = laid i u have.0; fits = one.fits }, r.all);
      values = ap (λ v. v ∷ map (at vs) is) (sym one.value) ∙ ap (λ ys. value_of u (words_at wss i) ∷ ys) r.values;
    }

all-fit : (p : ProgramTree) (f : ℕ) (is : List ℕ) (us : List SeqTree) (layouts : List StTree) (wss : List (List ℕ)) → Args p f is us layouts wss → AllFit us wss
all-fit p f [] [] [] [] h = tt
all-fit p f [] [] [] (ws ∷ wss) h = absurd h
all-fit p f [] [] (a ∷ layouts) wss h = absurd h
all-fit p f [] (u ∷ us) layouts wss h = absurd h
all-fit p f (i ∷ is) [] layouts wss h = absurd h
all-fit p f (i ∷ is) (u ∷ us) [] wss h = absurd h
all-fit p f (i ∷ is) (u ∷ us) (a ∷ layouts) [] h = absurd h
all-fit p f (i ∷ is) (u ∷ us) (a ∷ layouts) (ws ∷ wss) h = (h.0.fits, all-fit p f is us layouts wss h.1)

-- ---- nodes that call a function

times-some : (n m : ℕ) → 0 < n → 0 < m → 0 < n * m
times-some zero m a b = absurd (omega arith)
times-some (suc n) m a b = omega arith

some-atoms : (t : SeqTree) → IsTrue (parts_in_size t) → 0 < atoms t
some-atoms (atom a) h = omega arith
some-atoms (seq n t) h =
    let some : 0 < n = grind (arith, nat_tests) in
    let part : IsTrue (parts_in_size t) = grind (arith, nat_tests) in
    times-some n (atoms t) some (some-atoms t part)

sized-atoms : (t : SeqTree) → IsTrue (in_size t) → 0 < atoms t
sized-atoms t h = some-atoms t (grind (arith, nat_tests))

element-atoms : (n : ℕ) (t : SeqTree) → IsTrue (in_size (seq n t)) → 0 < atoms t
element-atoms n t h = some-atoms t (grind (arith, nat_tests))

map-same : (g k : ValueTree → ValueTree) → ((v : ValueTree) → g v ≡ k v) → (xs : List ValueTree) → map g xs ≡ map k xs
map-same g k h [] = refl
map-same g k h (x ∷ xs) = ap (λ y. y ∷ map g xs) (h x) ∙ ap (λ ys. k x ∷ ys) (map-same g k h xs)

map_two-same : (g k : ValueTree → ValueTree → ValueTree) → ((v w : ValueTree) → g v w ≡ k v w) → (xs ys : List ValueTree) → map_two g xs ys ≡ map_two k xs ys
map_two-same g k h [] ys = refl
map_two-same g k h (x ∷ xs) [] = refl
map_two-same g k h (x ∷ xs) (y ∷ ys) = ap (λ z. z ∷ map_two g xs ys) (h x y) ∙ ap (λ zs. k x y ∷ zs) (map_two-same g k h xs ys)

-- the callees of a function's bodies are those of the functions below it
abbrev pub AllCompute : (p : ProgramTree) (keys : Keys) → List Callee → Type 0
AllCompute p keys known = (k func budget : ℕ) → keys k func budget → Computes p func (callee_at known k)

record Calls (p : ProgramTree) (known : List Callee) (g : ℕ) (made : StOpTree) : Type 0 where
  at : ℕ
  is : made ≡ body at
  computes : Computes p g (callee_at known at)

calls-by : (p : ProgramTree) (keys : Keys) (known : List Callee) (g : ℕ) (c : Call) (made : StOpTree) → AllCompute p keys known → g ≡ c.func
    → IsBody keys c made → Calls p known g made
calls-by p keys known g c made all e b =
    record { at = b.at; is = b.is; computes = subst (λ j. Computes p j (callee_at known b.at)) (sym e) (all b.at c.func c.budget b.key) }

func-of-each : (g budget : ℕ) (o : Option Spreading) (c : Call) → each_call g budget o ≡ Some c → g ≡ c.func
func-of-each g budget None c h = absurd (none-some c h)
func-of-each g budget (Some s) c h = ap (λ (x : Call). x.func) (same_Some _ c h)

module _ (p : ProgramTree) (keys : Keys) (known : List Callee) (f : ℕ) (typed : IsTyped p) (inside : f < length p.funcs) (all : AllCompute p keys known)
    (t : SeqTree) (s : StTree) (made : StOpTree) (sized : IsTrue (in_size t)) (l : LaysOut t s) where
  abbrev means : List Meaning
  means = take f (meanings p.funcs)

  abbrev Bodies : OpTree → List SeqTree → List StTree → List (List ℕ) → Type 0
  Bodies op us layouts wss = Stands t (op_words known layouts s made wss) (op_value means op (values_of us wss))

  call-stands : (g : ℕ) (is : List ℕ) (us : List SeqTree) (layouts : List StTree) (wss : List (List ℕ)) → g < f → Args p f is us layouts wss
      → called (signatures (take f p.funcs)) g us ≡ Some t → Calls p known g made → Bodies (call g) us layouts wss
  call-stands g is us layouts wss below h type calls =
      let facts = call-facts p f g us t typed below inside type in
      let fit = all-fit p f is us layouts wss h in
      let st = call-words p g (callee_at known calls.at) t s wss calls.computes facts.result (sized-atoms t sized) l
      (subst (λ ts. AllFit ts wss) (sym facts.params) fit) in
      let value : applied (meanings p.funcs) g (values_of (params_in p g) wss) ≡ applied means g (values_of us wss) = ap
      (λ ts. applied (meanings p.funcs) g (values_of ts wss)) facts.params ∙ sym (applied-above p f g (values_of us wss) below) in
      rw calls.is (subst (λ v. Stands t (mapped (callee_at known calls.at) (element_count (callee_at known calls.at) s) wss) v) value st)

  each-core : (g n : ℕ) (x y : SeqTree) (is : List ℕ) (layouts : List StTree) (wss : List (List ℕ)) → g < f → Args p f is (seq n x ∷ []) layouts wss
      → called (signatures (take f p.funcs)) g (x ∷ []) ≡ Some y → seq n y ≡ t → Calls p known g made
      → Bodies (each g) (seq n x ∷ []) layouts wss
  each-core g n x y is layouts wss below h type same calls = by-one p f (λ is layouts wss. Bodies (each g) (seq n x ∷ []) layouts wss) is
      (seq n x) layouts wss h (λ i a ws arg.
      let facts = call-facts p f g (x ∷ []) y typed below inside type in
      let some = element-atoms n y (subst (λ z. IsTrue (in_size z)) (sym same) sized) in
      let st = each-words p g n (callee_at known calls.at) x y s ws calls.computes facts.result facts.params some
      (subst (λ z. LaysOut z s) (sym same) l) arg.fits in
      let value = map-same (λ v. applied (meanings p.funcs) g (v ∷ [])) (λ v. applied means g (v ∷ [])) (λ v. sym (applied-above p f g (v ∷ []) below))
      (elements (value_of (seq n x) ws)) in
      rw (calls.is, ← same) (subst (λ vs. Stands (seq n y) (mapped (callee_at known calls.at) (element_count (callee_at known calls.at) s) (ws ∷ []))
      (listed vs)) value st))

  each-stands : (g : ℕ) (z : SeqTree) (is : List ℕ) (layouts : List StTree) (wss : List (List ℕ)) → g < f → Args p f is (z ∷ []) layouts wss
      → each_type (signatures (take f p.funcs)) g z ≡ Some t → Calls p known g made → Bodies (each g) (z ∷ []) layouts wss
  each-stands g (atom a) is layouts wss below h type calls = absurd (none-some t type)
  each-stands g (seq n x) is layouts wss below h type calls =
      let r = option-both (called (signatures (take f p.funcs)) g (x ∷ [])) (λ (y : SeqTree). Some (seq n y)) t type in
      each-core g n x r.0 is layouts wss below h r.1 (same_Some _ t r.2) calls

  each-two-core : (g n : ℕ) (x z y : SeqTree) (is : List ℕ) (layouts : List StTree) (wss : List (List ℕ)) → g < f
      → Args p f is (seq n x ∷ seq n z ∷ []) layouts wss → called (signatures (take f p.funcs)) g (x ∷ z ∷ []) ≡ Some y → seq n y ≡ t → Calls p known g made
      → Bodies (each_two g) (seq n x ∷ seq n z ∷ []) layouts wss
  each-two-core g n x z y is layouts wss below h type same calls = by-two p f (λ is layouts wss. Bodies (each_two g) (seq n x ∷ seq n z ∷ []) layouts wss) is
      (seq n x) (seq n z) layouts wss h (λ i j a b ws us first second.
      let facts = call-facts p f g (x ∷ z ∷ []) y typed below inside type in
      let some = element-atoms n y (subst (λ w. IsTrue (in_size w)) (sym same) sized) in
      let st = each-two-words p g n (callee_at known calls.at) x z y s ws us calls.computes facts.result facts.params some
      (subst (λ w. LaysOut w s) (sym same) l) first.fits second.fits in
      let value = map_two-same (λ v w. applied (meanings p.funcs) g (v ∷ w ∷ [])) (λ v w. applied means g (v ∷ w ∷ []))
      (λ v w. sym (applied-above p f g (v ∷ w ∷ []) below)) (elements (value_of (seq n x) ws)) (elements (value_of (seq n z) us)) in
      rw (calls.is, ← same) (subst (λ vs. Stands (seq n y) (mapped (callee_at known calls.at) (element_count (callee_at known calls.at) s) (ws ∷ us ∷ []))
      (listed vs)) value st))

  each-two-stands : (g : ℕ) (v w : SeqTree) (is : List ℕ) (layouts : List StTree) (wss : List (List ℕ)) → g < f → Args p f is (v ∷ w ∷ []) layouts wss
      → each_two_type (signatures (take f p.funcs)) g v w ≡ Some t → Calls p known g made
      → Bodies (each_two g) (v ∷ w ∷ []) layouts wss
  each-two-stands g (atom a) w is layouts wss below h type calls = absurd (none-some t type)
  each-two-stands g (seq n x) (atom b) is layouts wss below h type calls = absurd (none-some t type)
  each-two-stands g (seq n x) (seq m z) is layouts wss below h type calls =
      let ok = where_ok-some (n == m) (called (signatures (take f p.funcs)) g (x ∷ z ∷ []) >>= λ y. Some (seq n y)) t type in
      let r = option-both (called (signatures (take f p.funcs)) g (x ∷ z ∷ [])) (λ (y : SeqTree). Some (seq n y)) t ok.1 in
      let e : n ≡ m = grind (arith, nat_tests, ok.0) in
      let P : ℕ → Type 0 = λ k. Args p f is (seq n x ∷ seq k z ∷ []) layouts wss → Bodies (each_two g) (seq n x ∷ seq k z ∷ []) layouts wss in
      subst P e (λ k. each-two-core g n x z r.0 is layouts wss below k r.1 (same_Some _ t r.2) calls) h

  body-stands : (v budget : ℕ) (o : Option Spreading) (c : Call) (op : OpTree) (is : List ℕ) (us : List SeqTree) (layouts : List StTree) (wss : List (List ℕ))
      → is_line v f op ≡ true → call_of op budget o ≡ Some c → IsBody keys c made → Args p f is us layouts wss
      → op_type (signatures (take f p.funcs)) op us ≡ Some t → Bodies op us layouts wss
  body-stands v budget o c (call g) is us layouts wss line by b h type =
      let below : g < f = grind (arith, nat_tests) in
      call-stands g is us layouts wss below h type (calls-by p keys known g c made all (ap (λ (x : Call). x.func) (same_Some _ c by)) b)
  body-stands v budget o c (each g) is (z ∷ []) layouts wss line by b h type =
      let below : g < f = grind (arith, nat_tests) in
      each-stands g z is layouts wss below h type (calls-by p keys known g c made all (func-of-each g budget o c by) b)
  body-stands v budget o c (each_two g) is (z ∷ w ∷ []) layouts wss line by b h type =
      let below : g < f = grind (arith, nat_tests) in
      each-two-stands g z w is layouts wss below h type (calls-by p keys known g c made all (func-of-each g budget o c by) b)
  body-stands v budget o c (each g) is [] layouts wss line by b h type = absurd (none-some t type)
  body-stands v budget o c (each g) is (z ∷ w ∷ us) layouts wss line by b h type = absurd (none-some t type)
  body-stands v budget o c (each_two g) is [] layouts wss line by b h type = absurd (none-some t type)
  body-stands v budget o c (each_two g) is (z ∷ []) layouts wss line by b h type = absurd (none-some t type)
  body-stands v budget o c (each_two g) is (z ∷ w ∷ x ∷ us) layouts wss line by b h type = absurd (none-some t type)
  body-stands v budget o c _ is us layouts wss line by b h type = absurd (none-some c by)

-- ---- every node

folds-in-line : (v n : ℕ) (op : OpTree) → is_line v n op ≡ true → AreFolds op
folds-in-line v n (reduce op) h = h
folds-in-line v n (scan op) h = grind (arith, nat_tests)
folds-in-line v n _ h = tt

-- a node calls, or it does something else
by-call : (p : ProgramTree) (keys : Keys) (known : List Callee) (f budget : ℕ) (typed : IsTyped p) (inside : f < length p.funcs)
    (all : AllCompute p keys known) (t : SeqTree) (s : StTree) (made : StOpTree) → IsTrue (in_size t) → LaysOut t s
    → (op : OpTree) (is : List ℕ) (us : List SeqTree) (layouts : List StTree) (wss : List (List ℕ)) → is_line p.version f op ≡ true
    → Args p f is us layouts wss → op_type (signatures (take f p.funcs)) op us ≡ Some t
    → (spread : Option Spreading) (o : Option Call) → call_of op budget spread ≡ o → IsOp keys o (plain_op p f budget op is) made
    → Stands t (op_words known layouts s made wss) (op_value (take f (meanings p.funcs)) op (values_of us wss))
by-call p keys known f budget typed inside all t s made sized l op is us layouts wss line h type spread None e is_op =
    plain-stands known (take f (meanings p.funcs)) (signatures (take f p.funcs)) p f budget t s made l op is us layouts wss
    (folds-in-line p.version f op line) h type is_op
by-call p keys known f budget typed inside all t s made sized l op is us layouts wss line h type spread (Some c) e is_op =
    body-stands p keys known f typed inside all t s made sized l p.version budget spread c op is us layouts wss line e is_op h type

pub node-stands : (p : ProgramTree) (keys : Keys) (known : List Callee) (f budget : ℕ) (layouts : List StTree) → IsTyped p → f < length p.funcs
    → AllCompute p keys known → LaidItems (types_in p f) layouts → SizedItems (types_in p f)
    → (q : ℕ) (n : NodeTree) (s : StNodeTree) (wss : List (List ℕ)) (vs : List ValueTree) (t : SeqTree) → slice_get (nodes_in p f) q ≡ Some n
    → IsStNode p keys f budget (item_of p f q) n s → Standing (types_in p f) (item_of p f q) wss vs
    → slice_get (types_in p f) (item_of p f q) ≡ Some t → Stands t (node_words known layouts wss s) (node_value (take f (meanings p.funcs)) vs n)
node-stands p keys known f budget layouts typed inside all laid sized q n s wss vs t here is st own =
    let facts = line-facts p f q n typed inside here in
    let same : facts.type ≡ t = same_Some _ t (sym facts.own ∙ own) in
    let small = sized (item_of p f q) t own in
    let at : type_at p f (item_of p f q) ≡ Some t = type-at-is p f (item_of p f q) typed ∙ own in
    let lay : lay_of t budget ≡ Some s.type = sym (ap (λ o. o >>= λ z. lay_of z budget) at) ∙ is.type in
    let l = lays-out t budget s.type (grind (arith, nat_tests)) lay in
    let args = args-of p f (item_of p f q) layouts wss vs n.args facts.args typed laid sized st facts.below facts.have in
    let type : op_type (signatures (take f p.funcs)) n.op facts.args ≡ Some t = facts.typed ∙ ap (λ (z : SeqTree). Some z) same in
    let made = by-call p keys known f budget typed inside all t s.type s.op small l n.op n.args facts.args (map (item_layout layouts) n.args)
    (map (words_at wss) n.args) facts.line args.all type (spread_at p f budget (head n.args)) (called_by p f budget n) refl is.op in
    let P : List ValueTree → Type 0 = λ ys. Stands t (op_words known (map (item_layout layouts) n.args) s.type s.op (map (words_at wss) n.args))
    (op_value (take f (meanings p.funcs)) n.op ys) in
    let Q : List ℕ → Type 0 = λ is. Stands t (op_words known (map (item_layout layouts) is) s.type s.op (map (words_at wss) is))
    (node_value (take f (meanings p.funcs)) vs n) in
    subst Q (sym is.args) (subst P (sym args.values) made)
