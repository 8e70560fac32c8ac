-- The operators that call no function, on the arguments of a node.
use Rattle.std.proofs.Common.{◌≡◌, ℕ, ◌+◌, ◌<◌, ◌≤◌, ◌==◌, ◌^◌, nat_lt, true, List, [], ◌∷◌, ◌++◌, length, take, map, get_or, Option, Some, None, IsSome, IsTrue, slice_get, Vec, refl, arith, sym, ap, ◌∙◌, subst}
use Rattle.std.proofs.lemmas.Bool.Decides.{nat_tests}
use Rattle.ae_word.specs.declared.op.WordOp.{WordOp}
use Rattle.std.specs.declared.alloc.Global.{Global}
use Rattle.ae_word.specs.declared.op.WordOp.TheVariants.{Add, Sub, Mul, And, Or, Xor, Not, Min, Max, Eq, Lt, Mux, Shl, Shr, Cast, SLt, SMin, SMax, Sar, SCast}
use Rattle.ae_word.specs.AtomTree.{WordKind}
use Rattle.ae_word.specs.WordTable.{arity_of, folds}
use Rattle.ae_seqtype.specs.SeqTree.{SeqTree, in_size, kinds}
use Rattle.ae_seqtype.specs.ValueTree.{ValueTree, value_of, Fit, FitKinds, fit_kinds, Stands}
use Rattle.ae_seqtype.specs.declared.seq_type.SeqType.{SeqType}
use Rattle.ae_seq.specs.declared.program.Node.{Node}
use Rattle.ae_seq.specs.declared.program.Op.{Op}
use Rattle.ae_seq.specs.declared.program.Op.TheVariants.{Word, CastInt, Pair, Fst, Snd, Const, Zip, Call, Map, Map2, Reduce, Scan, Shift, Up, Select, Partition, Unpartition}
use Rattle.ae_seq.specs.ProgramTree.{node_tree, op_tree, OpTree, word, cast_int, pair, fst, snd, const, zip, call, each, each_two, reduce, scan, shift, up, select, partition, unpartition, NodeTree, ProgramTree}
use Rattle.ae_seq.specs.Formed.{has_arguments, is_line}
use Rattle.ae_seq.specs.Typing.{Signature, op_type, signatures}
use Rattle.ae_seq.specs.Meaning.{Meaning, at, meanings, op_value}
use Rattle.ae_eval.specs.Stack.{AreFolds, FitAt, IsTyped, Pushed, takes_one, takes_two, types_in, window, words_of}
use Rattle.ae_eval.specs.Lines.{IsPlain, IsPlainFor, ItemsHave, Laid, args_for, args_of, is_plain, item_of, line_value, nodes_in, value_for, values_at}
use Rattle.ae_eval.proofs.Items.{and-both, line-facts}
use Rattle.ae_eval.proofs.Moving.{where_ok-some}
use Rattle.ae_eval.proofs.Placing.{arg-placed, arg-there}
use Rattle.ae_eval.proofs.Windows.{pushed-on}

-- ---- operators that call no function

plain-type : (known : List Signature) (op : OpTree) (us : List SeqTree) → is_plain op ≡ true → op_type known op us ≡ op_type [] op us
plain-type known (word op) us h = refl
plain-type known (cast_int v) us h = refl
plain-type known pair us h = refl
plain-type known fst us h = refl
plain-type known snd us h = refl
plain-type known (const t ws) us h = refl
plain-type known zip us h = refl
plain-type known (call f) us h = cc
plain-type known (each f) us h = cc
plain-type known (each_two f) us h = cc
plain-type known (reduce op) us h = refl
plain-type known (scan op) us h = refl
plain-type known (shift k) us h = refl
plain-type known (up n) us h = refl
plain-type known (select k) us h = refl
plain-type known (partition n m) us h = refl
plain-type known unpartition us h = refl

plain-value : (known : List Meaning) (op : OpTree) (vs : List ValueTree) → is_plain op ≡ true → op_value known op vs ≡ op_value [] op vs
plain-value known (word op) vs h = refl
plain-value known (cast_int v) vs h = refl
plain-value known pair vs h = refl
plain-value known fst vs h = refl
plain-value known snd vs h = refl
plain-value known (const t ws) vs h = refl
plain-value known zip vs h = refl
plain-value known (call f) vs h = cc
plain-value known (each f) vs h = cc
plain-value known (each_two f) vs h = cc
plain-value known (reduce op) vs h = refl
plain-value known (scan op) vs h = refl
plain-value known (shift k) vs h = refl
plain-value known (up n) vs h = refl
plain-value known (select k) vs h = refl
plain-value known (partition n m) vs h = refl
plain-value known unpartition vs h = refl

one-for : (op : OpTree) → has_arguments op 1 ≡ true → is_plain op ≡ true → IsTrue (takes_one op)
one-for (word op) h g = grind (arith, nat_tests)
one-for (cast_int v) h g = refl
one-for pair h g = cc
one-for fst h g = refl
one-for snd h g = refl
one-for (const t ws) h g = cc
one-for zip h g = cc
one-for (call f) h g = cc
one-for (each f) h g = refl
one-for (each_two f) h g = cc
one-for (reduce op) h g = refl
one-for (scan op) h g = refl
one-for (shift k) h g = refl
one-for (up n) h g = refl
one-for (select k) h g = refl
one-for (partition n m) h g = refl
one-for unpartition h g = refl

two-for : (op : OpTree) → has_arguments op 2 ≡ true → is_plain op ≡ true → IsTrue (takes_two op)
two-for (word op) h g = grind (arith, nat_tests)
two-for (cast_int v) h g = cc
two-for pair h g = refl
two-for fst h g = cc
two-for snd h g = cc
two-for (const t ws) h g = cc
two-for zip h g = refl
two-for (call f) h g = cc
two-for (each f) h g = cc
two-for (each_two f) h g = refl
two-for (reduce op) h g = cc
two-for (scan op) h g = cc
two-for (shift k) h g = cc
two-for (up n) h g = cc
two-for (select k) h g = cc
two-for (partition n m) h g = cc
two-for unpartition h g = cc

folds-for : (v k : ℕ) (op : OpTree) → is_line v k op ≡ true → AreFolds op
folds-for v k (word op) h = tt
folds-for v k (cast_int w) h = tt
folds-for v k pair h = tt
folds-for v k fst h = tt
folds-for v k snd h = tt
folds-for v k (const t ws) h = tt
folds-for v k zip h = tt
folds-for v k (call f) h = tt
folds-for v k (each f) h = tt
folds-for v k (each_two f) h = tt
folds-for v k (reduce op) h = h
folds-for v k (scan op) h = (and-both (v == 2) (folds op) h).1
folds-for v k (shift c) h = tt
folds-for v k (up n) h = tt
folds-for v k (select c) h = tt
folds-for v k (partition n m) h = tt
folds-for v k unpartition h = tt

-- an operator on three arguments is one on words
pub word-of-three : (op : OpTree) → has_arguments op 3 ≡ true → is_plain op ≡ true → (o : WordOp) × (op ≡ word o)
word-of-three (word op) h g = (op, refl)
word-of-three (cast_int v) h g = cc
word-of-three pair h g = cc
word-of-three fst h g = cc
word-of-three snd h g = cc
word-of-three (const t ws) h g = cc
word-of-three zip h g = cc
word-of-three (call f) h g = cc
word-of-three (each f) h g = cc
word-of-three (each_two f) h g = cc
word-of-three (reduce op) h g = cc
word-of-three (scan op) h g = cc
word-of-three (shift k) h g = cc
word-of-three (up n) h g = cc
word-of-three (select k) h g = cc
word-of-three (partition n m) h g = cc
word-of-three unpartition h g = cc

-- ---- how many arguments there are

pub one-shape : (xs : List ℕ) → length xs ≡ 1 → xs ≡ get_or xs 0 0 ∷ []
one-shape [] h = absurd (omega arith)
one-shape (x ∷ []) h = refl
one-shape (x ∷ y ∷ xs) h = absurd (omega arith)

pub two-shape : (xs : List ℕ) → length xs ≡ 2 → xs ≡ get_or xs 0 0 ∷ get_or xs 1 0 ∷ []
two-shape [] h = absurd (omega arith)
two-shape (x ∷ []) h = absurd (omega arith)
two-shape (x ∷ y ∷ []) h = refl
two-shape (x ∷ y ∷ z ∷ xs) h = absurd (omega arith)

pub three-shape : (xs : List ℕ) → length xs ≡ 3 → xs ≡ get_or xs 0 0 ∷ get_or xs 1 0 ∷ get_or xs 2 0 ∷ []
three-shape [] h = absurd (omega arith)
three-shape (x ∷ []) h = absurd (omega arith)
three-shape (x ∷ y ∷ []) h = absurd (omega arith)
three-shape (x ∷ y ∷ z ∷ []) h = refl
three-shape (x ∷ y ∷ z ∷ w ∷ xs) h = absurd (omega arith)

-- items have one list of types
pub same-items : (ts : List SeqTree) (is : List ℕ) (us vs : List SeqTree) → ItemsHave ts is us → ItemsHave ts is vs → us ≡ vs
same-items ts [] [] [] h g = refl
same-items ts [] [] (v ∷ vs) h g = absurd g
same-items ts [] (u ∷ us) vs h g = absurd h
same-items ts (i ∷ is) [] vs h g = absurd h
same-items ts (i ∷ is) (u ∷ us) [] h g = absurd g
same-items ts (i ∷ is) (u ∷ us) (v ∷ vs) h g =
    let a = h.0 in
    let b = g.0 in
    let p : u ≡ v = cc in
    let q = same-items ts is us vs h.1 g.1 in
    rw (p, q) refl

-- ---- a node's value from its operator's

value-is : (p : ProgramTree) (k j : ℕ) (l : NodeTree) (vs : List ValueTree) → slice_get (nodes_in p k) j ≡ Some l
    → line_value p k j vs ≡ op_value (take k (meanings p.funcs)) l.op (map (at vs) l.args)
value-is p k j l vs e = ap (value_for (take k (meanings p.funcs)) vs) e

-- the value of an operator on arguments of these types is that of the node
pub node-pushed : (p : ProgramTree) (k j : ℕ) (l : NodeTree) (args : List SeqTree) (given vs : List ValueTree) (old new : List ℕ) → IsTyped p
    → k < length p.funcs → slice_get (nodes_in p k) j ≡ Some l → is_plain l.op ≡ true
    → ItemsHave (types_in p k) l.args args → map (at vs) l.args ≡ given → Pushed (op_type [] l.op args) old new (op_value [] l.op given)
    → Pushed (slice_get (types_in p k) (item_of p k j)) old new (line_value p k j vs)
node-pushed p k j l args given vs old new h known node plain have values push =
    let facts = line-facts p k j l h known node in
    let same = same-items (types_in p k) l.args args facts.args have facts.have in
    let type : op_type [] l.op args ≡ slice_get (types_in p k) (item_of p k j) =
    sym (plain-type (signatures (take k p.funcs)) l.op args plain) ∙ ap (op_type (signatures (take k p.funcs)) l.op) same ∙ facts.typed ∙ sym facts.own in
    let value : op_value [] l.op given ≡ line_value p k j vs =
    sym (plain-value (take k (meanings p.funcs)) l.op given plain) ∙ ap (op_value (take k (meanings p.funcs)) l.op) (sym values) ∙
    sym (value-is p k j l vs node) in
    let P : Option SeqTree → Type 0 = λ o. Pushed o old new (line_value p k j vs) in
    let Q : ValueTree → Type 0 = λ v. Pushed (op_type [] l.op args) old new v in
    subst P type (subst Q value push)

-- what is known of an operator's arguments
record Typed (l : NodeTree) (args : List SeqTree) : Type 0 where
  fine : IsSome (op_type [] l.op args)
  result : (u : SeqTree) → op_type [] l.op args ≡ Some u → IsTrue (in_size u)

some-there : (o : Option SeqTree) (u : SeqTree) → o ≡ Some u → IsSome o
some-there (Some t) u h = refl
some-there None u h = cc

typed-args : (p : ProgramTree) (k j : ℕ) (l : NodeTree) (args : List SeqTree) → IsTyped p → k < length p.funcs → slice_get (nodes_in p k) j ≡ Some l
    → is_plain l.op ≡ true → ItemsHave (types_in p k) l.args args → Typed l args
typed-args p k j l args h known node plain have =
    let facts = line-facts p k j l h known node in
    let same = same-items (types_in p k) l.args args facts.args have facts.have in
    let type : op_type [] l.op args ≡ Some facts.type =
    sym (plain-type (signatures (take k p.funcs)) l.op args plain) ∙ ap (op_type (signatures (take k p.funcs)) l.op) same ∙ facts.typed in
    record {
      fine = some-there (op_type [] l.op args) facts.type type;
      result = λ u e. let s = facts.sized in let same : facts.type ≡ u = cc in subst (λ z. IsTrue (in_size z)) same s;
    }

pub plain-node : (p : ProgramTree) (k j : ℕ) (l : NodeTree) → slice_get (nodes_in p k) j ≡ Some l → IsPlain p k j → is_plain l.op ≡ true
plain-node p k j l e h = subst IsPlainFor e h

-- ---- one argument

pub record OneArg (p : ProgramTree) (k j : ℕ) (op : OpTree) (base start : ℕ) (old : List ℕ) (t : SeqTree) : Type 0 where
  pub fits : FitAt t start old
  pub one : IsTrue (takes_one op)
  pub fine : IsSome (op_type [] op (t ∷ []))
  pub result : (u : SeqTree) → op_type [] op (t ∷ []) ≡ Some u → IsTrue (in_size u)
  pub folding : AreFolds op
  pub pushed : (new : List ℕ) → Pushed (op_type [] op (t ∷ [])) old new (op_value [] op (value_of t (window t start old) ∷ []))
      → Pushed (slice_get (types_in p k) (item_of p k j)) old new (line_value p k j (values_at p k (item_of p k j) base old))

pub one-arg : (p : ProgramTree) (k j : ℕ) (l : NodeTree) (base start : ℕ) (old : List ℕ) (t : SeqTree) → IsTyped p → k < length p.funcs
    → slice_get (nodes_in p k) j ≡ Some l → is_plain l.op ≡ true → Laid p k (item_of p k j) base old
    → length l.args ≡ 1 → slice_get (types_in p k) (get_or l.args 0 0) ≡ Some t → start ≡ base + words_of (take (get_or l.args 0 0) (types_in p k))
    → OneArg p k j l.op base start old t
one-arg p k j l base start old t h known node plain laid count e es =
    let ts = types_in p k in
    let vs = values_at p k (item_of p k j) base old in
    let facts = line-facts p k j l h known node in
    let shape = one-shape l.args count in
    let q = arg-placed p k j base 0 old l t h known node laid (omega arith) e in
    let have : ItemsHave ts l.args (t ∷ []) = subst (λ xs. ItemsHave ts xs (t ∷ [])) (sym shape) (e, tt) in
    let typed = typed-args p k j l (t ∷ []) h known node plain have in
    let F : ℕ → Type 0 = λ s. FitAt t s old in
    let value : at vs (get_or l.args 0 0) ≡ value_of t (window t start old) = q.value ∙ ap (λ s. value_of t (window t s old)) (sym es) in
    let values : map (at vs) l.args ≡ value_of t (window t start old) ∷ [] = ap (map (at vs)) shape ∙ ap (λ v. v ∷ []) value in
    record {
      fits = subst F (sym es) q.fits;
      one = one-for l.op (subst (λ n. has_arguments l.op n ≡ true) count facts.arity) plain;
      fine = typed.fine;
      result = typed.result;
      folding = folds-for p.version k l.op facts.line;
      pushed = λ new push. node-pushed p k j l (t ∷ []) (value_of t (window t start old) ∷ []) vs old new h known node plain have values push;
    }

-- ---- two arguments

pub record TwoArgs (p : ProgramTree) (k j : ℕ) (op : OpTree) (base start place : ℕ) (old : List ℕ) (t u : SeqTree) : Type 0 where
  pub fits : FitAt t start old
  pub fits_too : FitAt u place old
  pub two : IsTrue (takes_two op)
  pub fine : IsSome (op_type [] op (t ∷ u ∷ []))
  pub pushed : (new : List ℕ) → Pushed (op_type [] op (t ∷ u ∷ [])) old new
      (op_value [] op (value_of t (window t start old) ∷ value_of u (window u place old) ∷ []))
      → Pushed (slice_get (types_in p k) (item_of p k j)) old new (line_value p k j (values_at p k (item_of p k j) base old))

pub two-args : (p : ProgramTree) (k j : ℕ) (l : NodeTree) (base start place : ℕ) (old : List ℕ) (t u : SeqTree) → IsTyped p → k < length p.funcs
    → slice_get (nodes_in p k) j ≡ Some l → is_plain l.op ≡ true → Laid p k (item_of p k j) base old
    → length l.args ≡ 2
    → slice_get (types_in p k) (get_or l.args 0 0) ≡ Some t → start ≡ base + words_of (take (get_or l.args 0 0) (types_in p k))
    → slice_get (types_in p k) (get_or l.args 1 0) ≡ Some u → place ≡ base + words_of (take (get_or l.args 1 0) (types_in p k))
    → TwoArgs p k j l.op base start place old t u
two-args p k j l base start place old t u h known node plain laid count e es f fs =
    let ts = types_in p k in
    let vs = values_at p k (item_of p k j) base old in
    let facts = line-facts p k j l h known node in
    let shape = two-shape l.args count in
    let q = arg-placed p k j base 0 old l t h known node laid (omega arith) e in
    let r = arg-placed p k j base 1 old l u h known node laid (omega arith) f in
    let have : ItemsHave ts l.args (t ∷ u ∷ []) = subst (λ xs. ItemsHave ts xs (t ∷ u ∷ [])) (sym shape) (e, (f, tt)) in
    let typed = typed-args p k j l (t ∷ u ∷ []) h known node plain have in
    let F : ℕ → Type 0 = λ s. FitAt t s old in
    let G : ℕ → Type 0 = λ s. FitAt u s old in
    let first : at vs (get_or l.args 0 0) ≡ value_of t (window t start old) = q.value ∙ ap (λ s. value_of t (window t s old)) (sym es) in
    let second : at vs (get_or l.args 1 0) ≡ value_of u (window u place old) = r.value ∙ ap (λ s. value_of u (window u s old)) (sym fs) in
    let values : map (at vs) l.args ≡ value_of t (window t start old) ∷ value_of u (window u place old) ∷ [] =
    ap (map (at vs)) shape ∙ ap (λ v. v ∷ at vs (get_or l.args 1 0) ∷ []) first ∙ ap (λ v. value_of t (window t start old) ∷ v ∷ []) second in
    record {
      fits = subst F (sym es) q.fits;
      fits_too = subst G (sym fs) r.fits;
      two = two-for l.op (subst (λ n. has_arguments l.op n ≡ true) count facts.arity) plain;
      fine = typed.fine;
      pushed = λ new push. node-pushed p k j l (t ∷ u ∷ [])
          (value_of t (window t start old) ∷ value_of u (window u place old) ∷ []) vs old new h known node plain have values push;
    }

-- ---- three arguments

pub record ThreeArgs (p : ProgramTree) (k j : ℕ) (op : OpTree) (base x y z : ℕ) (old : List ℕ) (s t u : SeqTree) : Type 0 where
  pub test_fits : FitAt s x old
  pub first_fits : FitAt t y old
  pub second_fits : FitAt u z old
  pub fine : IsSome (op_type [] op (s ∷ t ∷ u ∷ []))
  pub pushed : (new : List ℕ) → Pushed (op_type [] op (s ∷ t ∷ u ∷ [])) old new
      (op_value [] op (value_of s (window s x old) ∷ value_of t (window t y old) ∷ value_of u (window u z old) ∷ []))
      → Pushed (slice_get (types_in p k) (item_of p k j)) old new (line_value p k j (values_at p k (item_of p k j) base old))

pub three-args : (p : ProgramTree) (k j : ℕ) (l : NodeTree) (base x y z : ℕ) (old : List ℕ) (s t u : SeqTree) → IsTyped p → k < length p.funcs
    → slice_get (nodes_in p k) j ≡ Some l → is_plain l.op ≡ true → Laid p k (item_of p k j) base old
    → length l.args ≡ 3
    → slice_get (types_in p k) (get_or l.args 0 0) ≡ Some s → x ≡ base + words_of (take (get_or l.args 0 0) (types_in p k))
    → slice_get (types_in p k) (get_or l.args 1 0) ≡ Some t → y ≡ base + words_of (take (get_or l.args 1 0) (types_in p k))
    → slice_get (types_in p k) (get_or l.args 2 0) ≡ Some u → z ≡ base + words_of (take (get_or l.args 2 0) (types_in p k))
    → ThreeArgs p k j l.op base x y z old s t u
three-args p k j l base x y z old s t u h known node plain laid count e ex f ey g ez =
    let ts = types_in p k in
    let vs = values_at p k (item_of p k j) base old in
    let shape = three-shape l.args count in
    let a = arg-placed p k j base 0 old l s h known node laid (omega arith) e in
    let b = arg-placed p k j base 1 old l t h known node laid (omega arith) f in
    let c = arg-placed p k j base 2 old l u h known node laid (omega arith) g in
    let have : ItemsHave ts l.args (s ∷ t ∷ u ∷ []) = subst (λ xs. ItemsHave ts xs (s ∷ t ∷ u ∷ [])) (sym shape) (e, (f, (g, tt))) in
    let typed = typed-args p k j l (s ∷ t ∷ u ∷ []) h known node plain have in
    let A : ℕ → Type 0 = λ i. FitAt s i old in
    let B : ℕ → Type 0 = λ i. FitAt t i old in
    let C : ℕ → Type 0 = λ i. FitAt u i old in
    let first : at vs (get_or l.args 0 0) ≡ value_of s (window s x old) = a.value ∙ ap (λ i. value_of s (window s i old)) (sym ex) in
    let second : at vs (get_or l.args 1 0) ≡ value_of t (window t y old) = b.value ∙ ap (λ i. value_of t (window t i old)) (sym ey) in
    let third : at vs (get_or l.args 2 0) ≡ value_of u (window u z old) = c.value ∙ ap (λ i. value_of u (window u i old)) (sym ez) in
    let values : map (at vs) l.args ≡ value_of s (window s x old) ∷ value_of t (window t y old) ∷ value_of u (window u z old) ∷ [] =
    ap (map (at vs)) shape ∙ ap (λ v. v ∷ at vs (get_or l.args 1 0) ∷ at vs (get_or l.args 2 0) ∷ []) first
    ∙ ap (λ v. value_of s (window s x old) ∷ v ∷ at vs (get_or l.args 2 0) ∷ []) second
    ∙ ap (λ v. value_of s (window s x old) ∷ value_of t (window t y old) ∷ v ∷ []) third in
    record {
      test_fits = subst A (sym ex) a.fits;
      first_fits = subst B (sym ey) b.fits;
      second_fits = subst C (sym ez) c.fits;
      fine = typed.fine;
      pushed = λ new push. node-pushed p k j l (s ∷ t ∷ u ∷ [])
          (value_of s (window s x old) ∷ value_of t (window t y old) ∷ value_of u (window u z old) ∷ []) vs old new h known node plain have values push;
    }

-- ---- constants

no-items : (ts : List SeqTree) (is : List ℕ) (us : List SeqTree) → length is ≡ 0 → ItemsHave ts is us → us ≡ []
no-items ts [] [] h g = refl
no-items ts [] (u ∷ us) h g = absurd g
no-items ts (i ∷ is) us h g = absurd (omega arith)

fit-words : (ks : List WordKind) (ws : List ℕ) → fit_kinds ws ks ≡ true → FitKinds ws ks
fit-words [] [] h = tt
fit-words [] (x ∷ ws) h = cc
fit-words (k ∷ ks) [] h = cc
fit-words (k ∷ ks) (x ∷ ws) h =
    let r = and-both (nat_lt x (2 ^ k.width)) (fit_kinds ws ks) h in
    (grind (arith, nat_tests, r.0), fit-words ks ws r.1)

pub constant-pushed : (p : ProgramTree) (k j : ℕ) (l : NodeTree) (t : SeqTree) (ws : List ℕ) (vs : List ValueTree) (old new : List ℕ) → IsTyped p
    → k < length p.funcs → slice_get (nodes_in p k) j ≡ Some l → l.op ≡ const t ws → new ≡ old ++ ws
    → Pushed (slice_get (types_in p k) (item_of p k j)) old new (line_value p k j vs)
constant-pushed p k j l t ws vs old new h known node eo en =
    let facts = line-facts p k j l h known node in
    let none : length l.args ≡ 0 = (let a = subst (λ o. has_arguments o (length l.args) ≡ true) eo facts.arity in grind (arith, nat_tests, a)) in
    let args = no-items (types_in p k) l.args facts.args none facts.have in
    let typed : op_type [] (const t ws) [] ≡ Some facts.type = ap (λ o. op_type (signatures (take k p.funcs)) o []) (sym eo) ∙
    ap (op_type (signatures (take k p.funcs)) l.op) (sym args) ∙ facts.typed in
    let r = where_ok-some (fit_kinds ws (kinds t)) (Some t) facts.type typed in
    let fits : Fit t ws = fit-words (kinds t) ws r.0 in
    let value : value_of t ws ≡ line_value p k j vs = ap (λ o. op_value (take k (meanings p.funcs)) o (map (at vs) l.args)) (sym eo) ∙
    sym (value-is p k j l vs node) in
    pushed-on (slice_get (types_in p k) (item_of p k j)) old new ws (line_value p k j vs) en
    (λ u g.
    let own = facts.own in
    let is = r.1 in
    let same : t ≡ u = cc in
    let P : SeqTree → Type 0 = λ z. Stands z ws (line_value p k j vs) in
    subst P same (record { fits = fits; value = value }))

-- ---- the same by the arguments that the code reads

module _ (p : ProgramTree) (k j : ℕ) (l : NodeTree) (args : List ℕ) (base : ℕ) (old : List ℕ) (h : IsTyped p) (known : k < length p.funcs)
    (node : slice_get (nodes_in p k) j ≡ Some l) (same : args ≡ l.args) (laid : Laid p k (item_of p k j) base old) where
  pub read-there : (i : ℕ) → i < length l.args → (get_or args i 0 < length (types_in p k))
      × (base + words_of (take (get_or args i 0) (types_in p k)) ≤ length old)
  read-there i within = subst (λ xs. (get_or xs i 0 < length (types_in p k)) × (base + words_of (take (get_or xs i 0) (types_in p k)) ≤ length old)) (sym same)
      (arg-there p k j base i old l h known node laid within)

  pub read-one : (start : ℕ) (t : SeqTree) → is_plain l.op ≡ true → length l.args ≡ 1 → slice_get (types_in p k) (get_or args 0 0) ≡ Some t
      → start ≡ base + words_of (take (get_or args 0 0) (types_in p k)) → OneArg p k j l.op base start old t
  read-one start t plain count = subst (λ xs. slice_get (types_in p k) (get_or xs 0 0) ≡ Some t → start ≡ base + words_of (take (get_or xs 0 0) (types_in p k))
      → OneArg p k j l.op base start old t) (sym same) (one-arg p k j l base start old t h known node plain laid count)

  pub read-two : (start place : ℕ) (t u : SeqTree) → is_plain l.op ≡ true → length l.args ≡ 2
      → slice_get (types_in p k) (get_or args 0 0) ≡ Some t → start ≡ base + words_of (take (get_or args 0 0) (types_in p k))
      → slice_get (types_in p k) (get_or args 1 0) ≡ Some u → place ≡ base + words_of (take (get_or args 1 0) (types_in p k))
      → TwoArgs p k j l.op base start place old t u
  read-two start place t u plain count = subst (λ xs. slice_get (types_in p k) (get_or xs 0 0) ≡ Some t
      → start ≡ base + words_of (take (get_or xs 0 0) (types_in p k)) → slice_get (types_in p k) (get_or xs 1 0) ≡ Some u
      → place ≡ base + words_of (take (get_or xs 1 0) (types_in p k)) → TwoArgs p k j l.op base start place old t u) (sym same)
      (two-args p k j l base start place old t u h known node plain laid count)

  pub read-three : (x y z : ℕ) (s t u : SeqTree) → is_plain l.op ≡ true → length l.args ≡ 3
      → slice_get (types_in p k) (get_or args 0 0) ≡ Some s → x ≡ base + words_of (take (get_or args 0 0) (types_in p k))
      → slice_get (types_in p k) (get_or args 1 0) ≡ Some t → y ≡ base + words_of (take (get_or args 1 0) (types_in p k))
      → slice_get (types_in p k) (get_or args 2 0) ≡ Some u → z ≡ base + words_of (take (get_or args 2 0) (types_in p k))
      → ThreeArgs p k j l.op base x y z old s t u
  read-three x y z s t u plain count = subst (λ xs. slice_get (types_in p k) (get_or xs 0 0) ≡ Some s
      → x ≡ base + words_of (take (get_or xs 0 0) (types_in p k)) → slice_get (types_in p k) (get_or xs 1 0) ≡ Some t
      → y ≡ base + words_of (take (get_or xs 1 0) (types_in p k)) → slice_get (types_in p k) (get_or xs 2 0) ≡ Some u
      → z ≡ base + words_of (take (get_or xs 2 0) (types_in p k)) → ThreeArgs p k j l.op base x y z old s t u) (sym same)
      (three-args p k j l base x y z old s t u h known node plain laid count)

-- how many arguments a node has, as the code reads it
pub count-read : (p : ProgramTree) (k j n : ℕ) (l : NodeTree) → slice_get (nodes_in p k) j ≡ Some l → length (args_of p k j) ≡ n → length l.args ≡ n
count-read p k j n l e h = ap (λ o. length (args_for o)) (sym e) ∙ h

-- ---- the code's operators

pub word-op : (o : Op) (w : WordOp) → op_tree o ≡ word w → o ≡ Word w
word-op (Word op) w h = let e : op ≡ w = cc in ap Word e
word-op (CastInt k) w h = cc
word-op Pair w h = cc
word-op Fst w h = cc
word-op Snd w h = cc
word-op (Const t ws) w h = cc
word-op Zip w h = cc
word-op (Call f) w h = cc
word-op (Map f) w h = cc
word-op (Map2 f) w h = cc
word-op (Reduce op) w h = cc
word-op (Scan op) w h = cc
word-op (Shift k) w h = cc
word-op (Up n) w h = cc
word-op (Select k) w h = cc
word-op (Partition n m) w h = cc
word-op Unpartition w h = cc

-- an operator that is no constant and calls no function has one argument, two or three
word-arity : (op : WordOp) (n : ℕ) → (n == arity_of op) ≡ true → (n ≡ 1 → ⊥) → (n ≡ 2 → ⊥) → n ≡ 3
word-arity Add n h a b = absurd (b (grind (arith, nat_tests, h)))
word-arity Sub n h a b = absurd (b (grind (arith, nat_tests, h)))
word-arity Mul n h a b = absurd (b (grind (arith, nat_tests, h)))
word-arity And n h a b = absurd (b (grind (arith, nat_tests, h)))
word-arity Or n h a b = absurd (b (grind (arith, nat_tests, h)))
word-arity Xor n h a b = absurd (b (grind (arith, nat_tests, h)))
word-arity Not n h a b = absurd (a (grind (arith, nat_tests, h)))
word-arity Min n h a b = absurd (b (grind (arith, nat_tests, h)))
word-arity Max n h a b = absurd (b (grind (arith, nat_tests, h)))
word-arity Eq n h a b = absurd (b (grind (arith, nat_tests, h)))
word-arity Lt n h a b = absurd (b (grind (arith, nat_tests, h)))
word-arity Mux n h a b = grind (arith, nat_tests, h)
word-arity (Shl k) n h a b = absurd (a (grind (arith, nat_tests, h)))
word-arity (Shr k) n h a b = absurd (a (grind (arith, nat_tests, h)))
word-arity (Cast v) n h a b = absurd (a (grind (arith, nat_tests, h)))
word-arity SLt n h a b = absurd (b (grind (arith, nat_tests, h)))
word-arity SMin n h a b = absurd (b (grind (arith, nat_tests, h)))
word-arity SMax n h a b = absurd (b (grind (arith, nat_tests, h)))
word-arity (Sar k) n h a b = absurd (a (grind (arith, nat_tests, h)))
word-arity (SCast v) n h a b = absurd (a (grind (arith, nat_tests, h)))

is-one : (n : ℕ) → (n == 1) ≡ true → n ≡ 1
is-one n h = grind (arith, nat_tests, h)

is-two : (n : ℕ) → (n == 2) ≡ true → n ≡ 2
is-two n h = grind (arith, nat_tests, h)

pub three-left : (o : Op) (n : ℕ) → has_arguments (op_tree o) n ≡ true → is_plain (op_tree o) ≡ true → ((x : SeqType) (y : Vec ℕ Global) → o ≡ Const x y → ⊥)
    → (n ≡ 1 → ⊥) → (n ≡ 2 → ⊥) → n ≡ 3
three-left (Word op) n h g z a b = word-arity op n h a b
three-left (CastInt k) n h g z a b = absurd (a (is-one n h))
three-left Pair n h g z a b = absurd (b (is-two n h))
three-left Fst n h g z a b = absurd (a (is-one n h))
three-left Snd n h g z a b = absurd (a (is-one n h))
three-left (Const t ws) n h g z a b = absurd (z t ws refl)
three-left Zip n h g z a b = absurd (b (is-two n h))
three-left (Call f) n h g z a b = cc
three-left (Map f) n h g z a b = cc
three-left (Map2 f) n h g z a b = cc
three-left (Reduce op) n h g z a b = absurd (a (is-one n h))
three-left (Scan op) n h g z a b = absurd (a (is-one n h))
three-left (Shift k) n h g z a b = absurd (a (is-one n h))
three-left (Up m) n h g z a b = absurd (a (is-one n h))
three-left (Select k) n h g z a b = absurd (a (is-one n h))
three-left (Partition m k) n h g z a b = absurd (a (is-one n h))
three-left Unpartition n h g z a b = absurd (a (is-one n h))

pub never-other : (p : ProgramTree) (k j : ℕ) (n : Node) → IsTyped p → k < length p.funcs → slice_get (nodes_in p k) j ≡ Some (node_tree n) → IsPlain p k j
    → length (args_of p k j) ≡ 3 → ((w : WordOp) → n.op ≡ Word w → ⊥) → ⊥
never-other p k j n h known node plain three other =
    let facts = line-facts p k j (node_tree n) h known node in
    let count = count-read p k j 3 (node_tree n) node three in
    let arity = subst (λ m. has_arguments (op_tree n.op) m ≡ true) count facts.arity in
    let w = word-of-three (op_tree n.op) arity (plain-node p k j (node_tree n) node plain) in
    other w.0 (word-op n.op w.0 w.1)

pub ternary-left : (p : ProgramTree) (k j : ℕ) (n : Node) (m : ℕ) → IsTyped p → k < length p.funcs → slice_get (nodes_in p k) j ≡ Some (node_tree n)
    → IsPlain p k j → m ≡ length n.args.items → ((x : SeqType) (y : Vec ℕ Global) → n.op ≡ Const x y → ⊥) → (m ≡ 1 → ⊥) → (m ≡ 2 → ⊥)
    → length (args_of p k j) ≡ 3
ternary-left p k j n m h known node plain count no-const no-one no-two =
    let facts = line-facts p k j (node_tree n) h known node in
    let arity = subst (λ i. has_arguments (op_tree n.op) i ≡ true) (sym count) facts.arity in
    ap (λ o. length (args_for o)) node ∙ sym count ∙ three-left n.op m arity (plain-node p k j (node_tree n) node plain) no-const no-one no-two
