-- Layouts of parameters and of nodes, one after the other.
use Rattle.std.proofs.Common.{◌≡◌, ℕ, zero, suc, ◌+◌, ◌<◌, ◌≤◌, List, [], ◌∷◌, ◌++◌, length, map, take, drop, get_or, Option, Some, None, Bool, true, false, is_some, ◌&&◌, refl, ap, sym, ◌∙◌, arith, inl, inr, slice_get, IsTrue, option_and_then, cond}
use Rattle.std.specs.Option.{option_map}
use Rattle.std.proofs.lemmas.List.{length-map, drop_more, take_more, map-append, length-take-le}
use Rattle.std.proofs.lemmas.Option.{slice_get-map, none-some, same_Some, slice_get_within, slice_get_read, get_or_from_slice_get}
use Rattle.std.proofs.lemmas.Bool.{cases_eq}
use Rattle.ae_seq.specs.declared.program.Func.{Func}
use Rattle.ae_seq.specs.declared.program.Node.{Node}
use Rattle.ae_seq.specs.declared.program.Param.{Param}
use Rattle.ae_seq.specs.ProgramTree.{ProgramTree, FuncTree, NodeTree, ParamTree, node_tree, param_tree, func_tree}
use Rattle.ae_seq.specs.Trees.{node_trees, param_trees}
use Rattle.ae_sttype.specs.StTree.{StTree}
use Rattle.ae_rewrite.specs.LayoutRule.{lay_of}
use Rattle.ae_rewrite.specs.Calls.{layout_at, called_by}
use Rattle.ae_rewrite.specs.FailingLine.{node_line, nodes_line, params_laid, or_line, unless_laid, call_line, failing}
use Rattle.ae_seq.specs.Formed.{formed}
use Rattle.ae_rewrite.proofs.Lines.{failing_is}
use Rattle.ae_rewrite.specs.Planned.{AreLaid, IfCalled}
use Rattle.ae_rewrite.specs.declared.calls.Call.{Call}
use Rattle.ae_rewrite.specs.Scheduled.{Keys, IsStNode, AreStNodes, IsInstance, param_layouts, IsFilling, AreFilling, node_layouts}
use Rattle.ae_rewrite.proofs.Budgets.{get_of_push}
use Rattle.ae_rewrite.proofs.Forms.{formed-of, few-nodes}
use Rattle.ae_rewrite.specs.StProgramTree.{StNodeTree}
use Rattle.ae_rewrite.proofs.Items.{param-type}

-- ---- parameters

pub laid-all : (clocks : ℕ) (ps : List ParamTree) (ss : List StTree) → param_layouts clocks ps ≡ map (λ (s : StTree). Some s) ss → params_laid clocks ps ≡ true
laid-all clocks [] ss h = refl
laid-all clocks (q ∷ ps) [] h = cc
laid-all clocks (q ∷ ps) (s ∷ ss) h =
    let e : lay_of q.type clocks ≡ Some s = cc in
    let f : param_layouts clocks ps ≡ map (λ (s : StTree). Some s) ss = cc in
    ap (λ o. is_some o && params_laid clocks ps) e ∙ laid-all clocks ps ss f

and-false : (b : Bool) → (b && false) ≡ false
and-false true = refl
and-false false = refl

-- one more element
pub take-at : {A : Type 0} (xs : List A) (i : ℕ) (x : A) → slice_get xs i ≡ Some x → take (i + 1) xs ≡ take i xs ++ x ∷ []
take-at xs i x at =
    let h = slice_get_within xs i x at in
    take_more xs i x h ∙ ap (λ y. take i xs ++ y ∷ []) (get_or_from_slice_get xs i x x at)

pub not-laid : (clocks : ℕ) (ps : List ParamTree) (i : ℕ) (q : ParamTree) → slice_get ps i ≡ Some q → lay_of q.type clocks ≡ None
    → params_laid clocks ps ≡ false
not-laid clocks [] i q at h = absurd (none-some q at)
not-laid clocks (r ∷ ps) zero q at h = ap (λ o. is_some o && params_laid clocks ps) (ap (λ (x : ParamTree). lay_of x.type clocks) (same_Some r q at) ∙ h)
not-laid clocks (r ∷ ps) (suc i) q at h =
    ap (λ b. is_some (lay_of r.type clocks) && b) (not-laid clocks ps i q at h) ∙ and-false (is_some (lay_of r.type clocks))

-- parameter number i of a function
pub param-there : (ps : List Param) (i : ℕ) → i < length ps → (q : ParamTree) × (slice_get (param_trees ps) i ≡ Some q)
param-there [] i h = absurd (omega arith)
param-there (q ∷ ps) zero h = (param_tree q, refl)
param-there (q ∷ ps) (suc i) h = param-there ps i (omega arith)

-- its layout is that of its type
pub param-layout : (p : ProgramTree) (f u i : ℕ) (of : FuncTree) (q : ParamTree) → slice_get p.funcs f ≡ Some of → slice_get of.params i ≡ Some q
    → layout_at p f u i ≡ lay_of q.type u
param-layout p f u i of q at here = ap (λ o. option_and_then (λ t. lay_of t u) o) (param-type p f i of q at here)

-- one more parameter
pub layouts-push : (clocks : ℕ) (ps : List ParamTree) (i : ℕ) (q : ParamTree) (ss : List StTree) (s : StTree) → slice_get ps i ≡ Some q
    → lay_of q.type clocks ≡ Some s →
    param_layouts clocks (take i ps) ≡ map (λ (s : StTree). Some s) ss → param_layouts clocks (take (i + 1) ps) ≡ map (λ (s : StTree). Some s) (ss ++ s ∷ [])
layouts-push clocks ps i q ss s at is h =
    ap (param_layouts clocks) (take-at ps i q at)
    ∙ map-append (λ (q : ParamTree). lay_of q.type clocks) (take i ps) (q ∷ [])
    ∙ ap (λ xs. xs ++ lay_of q.type clocks ∷ []) h
    ∙ ap (λ o. map (λ (s : StTree). Some s) ss ++ o ∷ []) is
    ∙ sym (map-append (λ (s : StTree). Some s) ss (s ∷ []))

-- ---- nodes

abbrev pub Known : Type 0
Known = ℕ → ℕ → Option ℕ

pub drop-at : {A : Type 0} (xs : List A) (i : ℕ) (x : A) → slice_get xs i ≡ Some x → drop i xs ≡ x ∷ drop (i + 1) xs
drop-at xs i x at =
    let h = slice_get_within xs i x at in
    drop_more xs i x h ∙ ap (λ y. y ∷ drop (i + 1) xs) (get_or_from_slice_get xs i x x at)

-- where the loop is: the nodes made so far, the line of the rest, and the items that have a layout
pub record Nodes (p : ProgramTree) (keys : Keys) (known : Known) (f u params : ℕ) (ns : List NodeTree) (k : ℕ) (made : List StNodeTree) : Type 0 where
  pub nodes : AreStNodes p keys f u params (take k ns) made
  pub line : nodes_line p known f u (params + k) (drop k ns) ≡ nodes_line p known f u params ns
  pub laid : AreLaid p f u (params + k)
  pub filling : AreFilling u (node_layouts made)

-- one more layout
pub filling-more : (u : ℕ) (ss : List StTree) (s : StTree) → AreFilling u ss → IsFilling u s → AreFilling u (ss ++ s ∷ [])
filling-more u ss s all one i x at = elim (get_of_push ss s i x at) [
  | inl old ↦ all i x old
  | inr new ↦ rw new.1 one
]

pub filling-none : (u : ℕ) → AreFilling u []
filling-none u i s at = absurd (none-some s at)

pub nodes-start : (p : ProgramTree) (keys : Keys) (known : Known) (f u params : ℕ) (ns : List NodeTree) → AreLaid p f u params
    → Nodes p keys known f u params ns 0 []
nodes-start p keys known f u params ns laid =
    let z : params + 0 ≡ params = omega arith in
    record { nodes = tt; line = ap (λ i. nodes_line p known f u i ns) z; laid = rw z laid; filling = filling-none u }

nodes-push : (p : ProgramTree) (keys : Keys) (f u i : ℕ) (ns : List NodeTree) (made : List StNodeTree) (n : NodeTree) (s : StNodeTree)
    → AreStNodes p keys f u i ns made →
    IsStNode p keys f u (i + length ns) n s → AreStNodes p keys f u i (ns ++ n ∷ []) (made ++ s ∷ [])
nodes-push p keys f u i [] [] n s all one = let z : i + 0 ≡ i = omega arith in (rw z at one, tt)
nodes-push p keys f u i [] (t ∷ made) n s all one = absurd all
nodes-push p keys f u i (m ∷ ns) [] n s all one = absurd all
nodes-push p keys f u i (m ∷ ns) (t ∷ made) n s all one =
    let e : i + length (m ∷ ns) ≡ i + 1 + length ns = omega arith in
    (all.0, nodes-push p keys f u (i + 1) ns made n s all.1 (rw e at one))

below-next : (p : ProgramTree) (f u m : ℕ) → AreLaid p f u m → (layout_at p f u m ≡ None → ⊥) → AreLaid p f u (m + 1)
below-next p f u m laid here i h e = elim (cases_eq i m) [
  | inl is ↦ here (rw is at e)
  | inr ne ↦ laid i (omega arith) e
]

laid-of-line : (o : Option StTree) (line : ℕ) (later : Option ℕ) → unless_laid o line later ≡ None → o ≡ None → ⊥
laid-of-line None line later h e = none-some line (sym h)
laid-of-line (Some s) line later h e = none-some s (sym e)

pub nodes-more : (p : ProgramTree) (keys : Keys) (known : Known) (f u params : ℕ) (ns : List NodeTree) (k : ℕ) (made : List StNodeTree) (n : NodeTree)
    (s : StNodeTree) →
    Nodes p keys known f u params ns k made → slice_get ns k ≡ Some n → IsStNode p keys f u (params + k) n s → node_line p known f u (params + k) n ≡ None →
    IsFilling u s.type → Nodes p keys known f u params ns (k + 1) (made ++ s ∷ [])
nodes-more p keys known f u params ns k made n s l at one fine fill =
    let inside = slice_get_within ns k n at in
    let long : length (take k ns) ≡ k = length-take-le k ns (omega arith) in
    let next : params + k + 1 ≡ params + (k + 1) = omega arith in
    record {
      nodes = rw (take-at ns k n at) (nodes-push p keys f u params (take k ns) made n s l.nodes (rw long one));
      line =
          ap (λ i. nodes_line p known f u i (drop (k + 1) ns)) (sym next)
          ∙ ap (λ o. or_line o (nodes_line p known f u (params + k + 1) (drop (k + 1) ns))) (sym fine)
          ∙ ap (nodes_line p known f u (params + k)) (sym (drop-at ns k n at))
          ∙ l.line;
      laid = rw next at (below-next p f u (params + k) l.laid (laid-of-line (layout_at p f u (params + k)) n.line (call_line known (called_by p f u n)) fine));
      filling = rw (map-append (λ (m : StNodeTree). m.type) made (s ∷ [])) (filling-more u (node_layouts made) s.type l.filling fill);
    }

pub nodes-fail : (p : ProgramTree) (keys : Keys) (known : Known) (f u params : ℕ) (ns : List NodeTree) (k : ℕ) (made : List StNodeTree) (n : NodeTree)
    (line : ℕ) →
    Nodes p keys known f u params ns k made → slice_get ns k ≡ Some n → node_line p known f u (params + k) n ≡ Some line
    → nodes_line p known f u params ns ≡ Some line
nodes-fail p keys known f u params ns k made n line l at some =
    sym l.line
    ∙ ap (nodes_line p known f u (params + k)) (drop-at ns k n at)
    ∙ ap (λ o. or_line o (nodes_line p known f u (params + k + 1) (drop (k + 1) ns))) some

-- node number k of the code
pub node-there : (ns : List Node) (k : ℕ) (n : Node) → k < length ns → n ≡ get_or ns k n → slice_get (node_trees ns) k ≡ Some (node_tree n)
node-there ns k n h is = slice_get-map node_tree ns k ∙ ap (option_map node_tree) (slice_get_read ns (length ns) k n refl h is)

-- what is said of a call, where it is there
pub if-called : (o : Option Call) (P : Call → Type 0) → ((c : Call) → o ≡ Some c → P c) → IfCalled o P
if-called None P h = tt
if-called (Some c) P h = h c refl

-- ---- functions

pub params-fail : (p : ProgramTree) (f u : ℕ) (of : FuncTree) → IsTrue (formed p) → slice_get p.funcs f ≡ Some of → params_laid u of.params ≡ false
    → failing p f u ≡ Some of.line
params-fail p f u of h at bare = failing_is p f u of h at ∙ ap (λ b. cond b (nodes_line p (failing p) f u (length of.params) of.nodes) (Some of.line)) bare

pub laid-line : (p : ProgramTree) (f u : ℕ) (of : FuncTree) (o : Option ℕ) → IsTrue (formed p) → slice_get p.funcs f ≡ Some of → params_laid u of.params ≡ true
    →
    nodes_line p (failing p) f u (length of.params) of.nodes ≡ o → failing p f u ≡ o
laid-line p f u of o h at laid is =
    failing_is p f u of h at ∙ ap (λ b. cond b (nodes_line p (failing p) f u (length of.params) of.nodes) (Some of.line)) laid ∙ is

map-get : (u : ℕ) (ps : List ParamTree) (ss : List StTree) (i : ℕ) → param_layouts u ps ≡ map (λ (s : StTree). Some s) ss → i < length ps → (q : ParamTree)
    × (slice_get ps i ≡ Some q) × (lay_of q.type u ≡ None → ⊥)
map-get u [] ss i h p = absurd (omega arith)
map-get u (q ∷ ps) [] i h p = cc
map-get u (q ∷ ps) (s ∷ ss) zero h p = let e : lay_of q.type u ≡ Some s = cc in (q, refl, λ none. none-some s (sym none ∙ e))
map-get u (q ∷ ps) (s ∷ ss) (suc i) h p = let f : param_layouts u ps ≡ map (λ (s : StTree). Some s) ss = cc in map-get u ps ss i f (omega arith)

-- the parameters have layouts
pub params-are-laid : (p : ProgramTree) (f u : ℕ) (of : FuncTree) (ss : List StTree) → slice_get p.funcs f ≡ Some of
    → param_layouts u of.params ≡ map (λ (s : StTree). Some s) ss → AreLaid p f u (length of.params)
params-are-laid p f u of ss at h i below e =
    let q = map-get u of.params ss i h below in
    q.2 (sym (param-layout p f u i of q.0 at q.1) ∙ e)

-- a function of the code, as the program has it
pub length-params : (f : Func) → length (func_tree f).params ≡ length f.params.items
length-params f = simp length-map

pub length-nodes : (f : Func) → length (func_tree f).nodes ≡ length f.nodes.items
length-nodes f = simp length-map

pub few-params-of : (p : ProgramTree) (k : ℕ) (f : Func) → IsTrue (formed p) → slice_get p.funcs k ≡ Some (func_tree f) → length f.params.items ≤ 8
few-params-of p k f h at = rw length-params at (formed-of p k (func_tree f) h at).few_params

pub few-nodes-of : (p : ProgramTree) (k : ℕ) (f : Func) → IsTrue (formed p) → slice_get p.funcs k ≡ Some (func_tree f) → length f.nodes.items ≤ 4096
few-nodes-of p k f h at = rw length-nodes at (few-nodes p k (func_tree f) h at)

-- the instance, once its parts are there
pub instance-of : (p : ProgramTree) (keys : Keys) (f u : ℕ) (of : Func) (ss : List StTree) (nodes : List StNodeTree) (results : List ℕ)
    → slice_get p.funcs f ≡ Some (func_tree of) →
    param_layouts u (param_trees of.params.items) ≡ map (λ (s : StTree). Some s) ss
    → AreStNodes p keys f u (length of.params.items) (node_trees of.nodes.items) nodes → results ≡ of.results.items →
    IsInstance p keys (record { func = f; budget = u; ins = ss; nodes = nodes; results = results; end_line = of.end_line })
instance-of p keys f u of ss nodes results at ins are same = record {
  of = func_tree of;
  known = at;
  ins = ins;
  nodes = rw length-params are;
  results = same;
  end_line = refl;
}
