-- Types of items, and what a node's operator needs of its first argument.
use Rattle.std.proofs.Common.{◌≡◌, ℕ, ◌+◌, ◌<◌, List, [], ◌∷◌, length, map, take, Option, Some, None, option_and_then, refl, ap, sym, ◌∙◌, arith, slice_get, IsTrue}
use Rattle.std.specs.Option.{option_map}
use Rattle.std.proofs.lemmas.Bool.Decides.{nat_tests}
use Rattle.std.proofs.lemmas.List.{length-map}
use Rattle.std.proofs.lemmas.Option.{slice_get-map, none-some, option_and_then_some}
use Rattle.ae_seqtype.specs.SeqTree.{SeqTree, atom, seq}
use Rattle.ae_seq.specs.ProgramTree.{ProgramTree, FuncTree, NodeTree, ParamTree, OpTree, word, cast_int, pair, fst, snd, const, zip, call, each, each_two, reduce, scan, shift, up, select, partition, unpartition}
use Rattle.ae_seq.specs.Formed.{formed, is_line, has_arguments}
use Rattle.ae_seq.specs.Typing.{type_at, item_types, node_type, types_at, op_type, signatures, Signature, param_types, ◌>>=◌}
use Rattle.ae_sttype.specs.StTree.{StTree}
use Rattle.ae_rewrite.specs.declared.cases.Case.{Case}
use Rattle.ae_rewrite.specs.LayoutRule.{case_of, inner_of, lanes_of, slots_of, lay_of, arranged}
use Rattle.ae_rewrite.specs.Calls.{spread, spread_at, head, call_of, plain_op, layout_at, called_by, fold_of, scan_of, shift_of, raw_layout}
use Rattle.ae_rewrite.specs.StProgramTree.{fold}
use Rattle.ae_rewrite.specs.Planned.{AreLaid, IsNodeAt}
use Rattle.ae_rewrite.specs.Spreads.{IsShiftOfFew}
use Rattle.ae_rewrite.proofs.Grown.{grown-front, entry}
use Rattle.ae_rewrite.proofs.Forms.{node-of, below-at}

-- ---- types

abbrev sigs : ProgramTree → ℕ → List Signature
sigs p f = signatures (take f p.funcs)

type-in : (p : ProgramTree) (f i : ℕ) (of : FuncTree) → slice_get p.funcs f ≡ Some of → type_at p f i ≡ (slice_get (item_types (sigs p f) of) i >>= λ o. o)
type-in p f i of at = ap (λ o. o >>= λ g. slice_get (item_types (sigs p f) g) i >>= λ t. t) at

-- a parameter has the type that is written
pub param-type : (p : ProgramTree) (f i : ℕ) (of : FuncTree) (q : ParamTree) → slice_get p.funcs f ≡ Some of → slice_get of.params i ≡ Some q
    → type_at p f i ≡ Some q.type
param-type p f i of q at here =
    let known = map (λ (t : SeqTree). Some t) (param_types of) in
    let first : slice_get known i ≡ Some (Some q.type) = slice_get-map (λ (t : SeqTree). Some t) (param_types of) i ∙
    ap (option_map (λ (t : SeqTree). Some t)) (slice_get-map (λ (x : ParamTree). x.type) of.params i ∙ ap (option_map (λ (x : ParamTree). x.type)) here) in
    type-in p f i of at ∙ ap (λ o. o >>= λ t. t) (grown-front (node_type (sigs p f)) known of.nodes i (Some q.type) first)

-- the types of a node's arguments, and its own
pub record TypedNode (p : ProgramTree) (f : ℕ) (n : NodeTree) (t : SeqTree) : Type 0 where
  pub known : List Signature
  pub before : List (Option SeqTree)
  pub is : (types_at before n.args >>= op_type known n.op) ≡ Some t
  pub same : (i : ℕ) (u : SeqTree) → slice_get before i ≡ Some (Some u) → type_at p f i ≡ Some u

pub typed-node : (p : ProgramTree) (f : ℕ) (of : FuncTree) (k : ℕ) (n : NodeTree) (t : SeqTree) → slice_get p.funcs f ≡ Some of → slice_get of.nodes k ≡ Some n
    →
    type_at p f (length of.params + k) ≡ Some t → TypedNode p f n t
typed-node p f of k n t at here is =
    let known = map (λ (t : SeqTree). Some t) (param_types of) in
    let e = entry (node_type (sigs p f)) known of.nodes k n here in
    let long : length known + k ≡ length of.params + k = simp length-map in
    record {
      known = sigs p f;
      before = e.before;
      is = sym (ap (λ o. o >>= λ t. t) (rw long at e.is)) ∙ (sym (type-in p f (length of.params + k) of at) ∙ is);
      same = λ i u read. type-in p f i of at ∙ ap (λ o. o >>= λ t. t) (e.same i (Some u) read);
    }

-- ---- the first argument

pub record IsSequence (p : ProgramTree) (f a : ℕ) : Type 0 where
  pub count : ℕ
  pub of : SeqTree
  pub is : type_at p f a ≡ Some (seq count of)

abbrev pub IsTaking : OpTree → Type 0
IsTaking (each g) = Unit {0}
IsTaking (each_two g) = Unit {0}
IsTaking (reduce op) = Unit {0}
IsTaking (scan op) = Unit {0}
IsTaking (shift k) = Unit {0}
IsTaking _ = ⊥

record FirstSeq (ts : List SeqTree) : Type 0 where
  count : ℕ
  of : SeqTree
  rest : List SeqTree
  is : ts ≡ seq count of ∷ rest

first-seq : (known : List Signature) (op : OpTree) (ts : List SeqTree) (u : SeqTree) → IsTaking op → op_type known op ts ≡ Some u → FirstSeq ts
first-seq known (each g) [] u h is = absurd (none-some u is)
first-seq known (each g) (atom a ∷ []) u h is = absurd (none-some u is)
first-seq known (each g) (seq n t ∷ []) u h is = record { count = n; of = t; rest = []; is = refl }
first-seq known (each g) (v ∷ w ∷ ts) u h is = absurd (none-some u is)
first-seq known (reduce op) [] u h is = absurd (none-some u is)
first-seq known (reduce op) (atom a ∷ []) u h is = absurd (none-some u is)
first-seq known (reduce op) (seq n t ∷ []) u h is = record { count = n; of = t; rest = []; is = refl }
first-seq known (reduce op) (v ∷ w ∷ ts) u h is = absurd (none-some u is)
first-seq known (scan op) [] u h is = absurd (none-some u is)
first-seq known (scan op) (atom a ∷ []) u h is = absurd (none-some u is)
first-seq known (scan op) (seq n t ∷ []) u h is = record { count = n; of = t; rest = []; is = refl }
first-seq known (scan op) (v ∷ w ∷ ts) u h is = absurd (none-some u is)
first-seq known (shift k) [] u h is = absurd (none-some u is)
first-seq known (shift k) (atom a ∷ []) u h is = absurd (none-some u is)
first-seq known (shift k) (seq n t ∷ []) u h is = record { count = n; of = t; rest = []; is = refl }
first-seq known (shift k) (v ∷ w ∷ ts) u h is = absurd (none-some u is)
first-seq known (each_two g) [] u h is = absurd (none-some u is)
first-seq known (each_two g) (v ∷ []) u h is = absurd (none-some u is)
first-seq known (each_two g) (atom a ∷ v ∷ []) u h is = absurd (none-some u is)
first-seq known (each_two g) (seq n t ∷ v ∷ []) u h is = record { count = n; of = t; rest = v ∷ []; is = refl }
first-seq known (each_two g) (v ∷ w ∷ x ∷ ts) u h is = absurd (none-some u is)
first-seq known _ ts u h is = absurd h

-- the head of the arguments, where the types of all are there
record HeadType (before : List (Option SeqTree)) (args : List ℕ) (t : SeqTree) : Type 0 where
  is : slice_get before (head args) ≡ Some (Some t)
  some : 0 < length args

head-type : (before : List (Option SeqTree)) (args : List ℕ) (t : SeqTree) (rest : List SeqTree) → types_at before args ≡ Some (t ∷ rest)
    → HeadType before args t
head-type before [] t rest h = cc
head-type before (a ∷ args) t rest h =
    option_and_then_some (λ o. o >>= λ u. types_at before args >>= λ us. Some (u ∷ us)) (slice_get before a) (t ∷ rest) h (λ o at h2.
    option_and_then_some (λ u. types_at before args >>= λ us. Some (u ∷ us)) o (t ∷ rest) h2 (λ u is h3.
    option_and_then_some (λ us. Some (u ∷ us)) (types_at before args) (t ∷ rest) h3 (λ us all h4.
    let e : u ≡ t = cc in record { is = at ∙ ap Some (is ∙ ap Some e); some = omega arith })))

pub first-argument : (p : ProgramTree) (f : ℕ) (n : NodeTree) (t : SeqTree) → TypedNode p f n t → IsTaking n.op → IsSequence p f (head n.args)
first-argument p f n t typed taking =
    option_and_then_some (op_type typed.known n.op) (types_at typed.before n.args) t typed.is (λ ts all is.
    let s = first-seq typed.known n.op ts t taking is in
    let h = head-type typed.before n.args (seq s.count s.of) s.rest (all ∙ ap Some s.is) in
    record { count = s.count; of = s.of; is = typed.same (head n.args) (seq s.count s.of) h.is })

-- ---- a sequence that is laid out is spread

pub record IsSpreadAt (p : ProgramTree) (f u a : ℕ) : Type 0 where
  pub count : ℕ
  pub of : SeqTree
  pub case : Case
  pub layout : StTree
  pub type : type_at p f a ≡ Some (seq count of)
  pub applies : case_of count u ≡ Some case
  pub laid : lay_of of (inner_of count u case) ≡ Some layout

laid-inner : (p : ProgramTree) (f u a n : ℕ) (t : SeqTree) (c : Case) → type_at p f a ≡ Some (seq n t) → case_of n u ≡ Some c →
    (o : Option StTree) → lay_of t (inner_of n u c) ≡ o → (option_map (arranged n u c) o ≡ None → ⊥) → IsSpreadAt p f u a
laid-inner p f u a n t c is e None l h = absurd (h refl)
laid-inner p f u a n t c is e (Some s) l h = record { count = n; of = t; case = c; layout = s; type = is; applies = e; laid = l }

laid-case : (p : ProgramTree) (f u a n : ℕ) (t : SeqTree) → type_at p f a ≡ Some (seq n t) → (o : Option Case) → case_of n u ≡ o →
    (option_and_then (λ c. option_map (arranged n u c) (lay_of t (inner_of n u c))) o ≡ None → ⊥) → IsSpreadAt p f u a
laid-case p f u a n t is None e h = absurd (h refl)
laid-case p f u a n t is (Some c) e h = laid-inner p f u a n t c is e (lay_of t (inner_of n u c)) refl h

pub laid-spread : (p : ProgramTree) (f u a : ℕ) → IsSequence p f a → (layout_at p f u a ≡ None → ⊥) → IsSpreadAt p f u a
laid-spread p f u a s h =
    laid-case p f u a s.count s.of s.is (case_of s.count u) refl (λ e. h (ap (λ o. o >>= λ t. lay_of t u) s.is ∙ e))

spread-is : (p : ProgramTree) (f u a : ℕ) (s : IsSpreadAt p f u a) → spread_at p f u a ≡ Some (record { count = s.count; of = s.of; case = s.case })
spread-is p f u a s = ap (λ o. o >>= λ t. spread t u) s.type ∙ ap (option_map (λ (c : Case). record { count = s.count; of = s.of; case = c })) s.applies

-- ---- a node calls, or does something

some-none : {A : Type 0} (x : A) (o : Option A) → o ≡ Some x → o ≡ None → ⊥
some-none x o e h = none-some x (sym h ∙ e)

there : (p : ProgramTree) (f u : ℕ) (op : OpTree) (args : List ℕ) → (IsTaking op → IsSpreadAt p f u (head args))
    → call_of op u (spread_at p f u (head args)) ≡ None → plain_op p f u op args ≡ None → ⊥
there p f u (word op) args s c h = cc
there p f u (cast_int v) args s c h = cc
there p f u pair args s c h = cc
there p f u fst args s c h = cc
there p f u snd args s c h = cc
there p f u (const t ws) args s c h = cc
there p f u zip args s c h = cc
there p f u (call g) args s c h = cc
there p f u (each g) args s c h = some-none _ _ (ap (call_of (each g) u) (spread-is p f u (head args) (s tt))) c
there p f u (each_two g) args s c h = some-none _ _ (ap (call_of (each_two g) u) (spread-is p f u (head args) (s tt))) c
there p f u (reduce op) args s c h =
    let d = s tt in
    some-none _ _ (ap (λ o. o >>= fold_of op u) (spread-is p f u (head args) d) ∙
    ap (option_map (λ t. fold op (slots_of d.count u d.case) (lanes_of d.count u d.case) (raw_layout u (inner_of d.count u d.case) t))) d.laid) h
there p f u (scan op) args s c h = some-none _ _ (ap (option_map (scan_of op u)) (spread-is p f u (head args) (s tt))) h
there p f u (shift k) args s c h = some-none _ _ (ap (λ o. o >>= shift_of k) (s tt).type) h
there p f u (up n) args s c h = cc
there p f u (select k) args s c h = cc
there p f u (partition n m) args s c h = cc
there p f u unpartition args s c h = cc

one-argument : (op : OpTree) (m : ℕ) → IsTaking op → IsTrue (has_arguments op m) → 0 < m
one-argument (each g) m t h = grind (arith, nat_tests)
one-argument (each_two g) m t h = grind (arith, nat_tests)
one-argument (reduce op) m t h = grind (arith, nat_tests)
one-argument (scan op) m t h = grind (arith, nat_tests)
one-argument (shift k) m t h = grind (arith, nat_tests)
one-argument _ m t h = absurd t

first-of : (args : List ℕ) → 0 < length args → slice_get args 0 ≡ Some (head args)
first-of [] h = absurd (omega arith)
first-of (a ∷ args) h = refl

-- a node whose arguments have layouts calls a function, or does something else
plain-typed : (p : ProgramTree) (f u : ℕ) (of : FuncTree) (k : ℕ) (n : NodeTree) (t : SeqTree) → IsTrue (formed p) → slice_get p.funcs f ≡ Some of
    → slice_get of.nodes k ≡ Some n →
    type_at p f (length of.params + k) ≡ Some t → AreLaid p f u (length of.params + k) → called_by p f u n ≡ None → plain_op p f u n.op n.args ≡ None → ⊥
plain-typed p f u of k n t formed at here is laid = there p f u n.op n.args (λ taking.
    let form = node-of p f of k n formed at here in
    let some = one-argument n.op (length n.args) taking form.arguments in
    let below = below-at (length of.params + k) n.args 0 (head n.args) form.below (first-of n.args some) in
    laid-spread p f u (head n.args) (first-argument p f n t (typed-node p f of k n t at here is) taking) (laid (head n.args) below))

pub plain-there : (p : ProgramTree) (f u i : ℕ) (n : NodeTree) (s : StTree) → IsTrue (formed p) → IsNodeAt p f i n → layout_at p f u i ≡ Some s
    → AreLaid p f u i →
    called_by p f u n ≡ None → plain_op p f u n.op n.args ≡ None → ⊥
plain-there p f u i n s formed at is laid c h =
    let layout = rw at.is at is in
    option_and_then_some (λ t. lay_of t u) (type_at p f (length at.of.params + at.k)) s layout (λ t type some.
    plain-typed p f u at.of at.k n t formed at.known at.here type (rw at.is at laid) c h)

few-shift : (v m : ℕ) (op : OpTree) → IsTrue (is_line v m op) → IsShiftOfFew op
few-shift v m (shift k) h = grind (arith, nat_tests)
few-shift v m _ h = tt

pub shift-of-few : (p : ProgramTree) (f i : ℕ) (n : NodeTree) → IsTrue (formed p) → IsNodeAt p f i n → IsShiftOfFew n.op
shift-of-few p f i n formed at = few-shift p.version f n.op (node-of p f at.of at.k n formed at.known at.here).line
