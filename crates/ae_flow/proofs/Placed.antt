-- The items of an instance in a schedule: each has the type of its line, and that type's layout in the instance's budget.
use Rattle.std.proofs.Common.{◌≡◌, ℕ, zero, suc, ◌+◌, ◌-◌, ◌<◌, List, [], ◌∷◌, length, length-append, map, get_or, Some, refl, ap, sym, ◌∙◌, arith, inl, inr, slice_get, IsTrue}
use Rattle.std.specs.Option.{option_map}
use Rattle.std.proofs.lemmas.Bool.{cases_lt}
use Rattle.std.proofs.lemmas.List.{length-map}
use Rattle.std.proofs.lemmas.Option.{slice_get-map, slice_get_within, slice_get-get_or, none-some, same_Some}
use Rattle.std.specs.Prelude.{unwrap_or}
use Rattle.ae_word.specs.AtomTree.{unsigned_word}
use Rattle.ae_seqtype.specs.SeqTree.{SeqTree, in_size}
use Rattle.ae_seq.specs.ProgramTree.{ProgramTree, NodeTree, ParamTree}
use Rattle.ae_seq.specs.Typing.{type_at, ◌>>=◌}
use Rattle.ae_seq.proofs.Types.{item-sized}
use Rattle.ae_sttype.specs.StTree.{StTree, atom as st_atom, sseq}
use Rattle.ae_rewrite.specs.LayoutRule.{lay_of}
use Rattle.ae_rewrite.specs.Calls.{layout_at}
use Rattle.ae_rewrite.specs.StProgramTree.{join, StNodeTree, StFuncTree}
use Rattle.ae_rewrite.specs.Scheduled.{Keys, IsStNode, AreStNodes, IsInstance, node_layouts, param_layouts}
use Rattle.ae_rewrite.specs.Sound.{item_layout, item_layouts}
use Rattle.ae_rewrite.proofs.Grown.{get_in_front}
use Rattle.ae_rewrite.proofs.Items.{param-type}
use Rattle.ae_fold.proofs.Kinding.{get_right}
use Rattle.ae_eval.specs.Stack.{IsTyped, types_in}
use Rattle.ae_eval.specs.Lines.{ItemsHave}
use Rattle.ae_eval.proofs.Accepting.{func-types}
use Rattle.ae_eval.proofs.Typing.{type-at-is}

-- ---- nodes and parameters, and what they come from

pub record NodeAt (p : ProgramTree) (keys : Keys) (f u i : ℕ) (ns : List NodeTree) (j : ℕ) (s : StNodeTree) : Type 0 where
  pub node : NodeTree
  pub here : slice_get ns j ≡ Some node
  pub is : IsStNode p keys f u (i + j) node s

pub node_at : (p : ProgramTree) (keys : Keys) (f u i : ℕ) (ns : List NodeTree) (ss : List StNodeTree) (j : ℕ) (s : StNodeTree) → AreStNodes p keys f u i ns ss
    → slice_get ss j ≡ Some s → NodeAt p keys f u i ns j s
node_at p keys f u i [] [] j s h at = absurd (none-some s at)
node_at p keys f u i [] (t ∷ ss) j s h at = absurd h
node_at p keys f u i (n ∷ ns) [] j s h at = absurd h
node_at p keys f u i (n ∷ ns) (t ∷ ss) zero s h at =
    let e : t ≡ s = same_Some t s at in
    let z : i + 0 ≡ i = omega arith in
    record { node = n; here = refl; is = rw (z, ← e) h.0 }
node_at p keys f u i (n ∷ ns) (t ∷ ss) (suc j) s h at =
    let r = node_at p keys f u (i + 1) ns ss j s h.1 at in
    let e : i + 1 + j ≡ i + suc j = omega arith in
    record { node = r.node; here = r.here; is = rw (← e) r.is }

pub nodes_many : (p : ProgramTree) (keys : Keys) (f u i : ℕ) (ns : List NodeTree) (ss : List StNodeTree) → AreStNodes p keys f u i ns ss → length ss ≡ length ns
nodes_many p keys f u i [] [] h = refl
nodes_many p keys f u i [] (t ∷ ss) h = absurd h
nodes_many p keys f u i (n ∷ ns) [] h = absurd h
nodes_many p keys f u i (n ∷ ns) (t ∷ ss) h = omega (arith, nodes_many p keys f u (i + 1) ns ss h.1)

param_at : (clocks : ℕ) (ps : List ParamTree) (ss : List StTree) (i : ℕ) (s : StTree) → param_layouts clocks ps ≡ map (λ (x : StTree). Some x) ss
    → slice_get ss i ≡ Some s → (q : ParamTree) × (slice_get ps i ≡ Some q) × (lay_of q.type clocks ≡ Some s)
param_at clocks ps [] i s h at = absurd (none-some s at)
param_at clocks [] (t ∷ ss) i s h at = cc
param_at clocks (q ∷ ps) (t ∷ ss) zero s h at =
    let a : lay_of q.type clocks ≡ Some t = cc in
    (q, refl, a ∙ at)
param_at clocks (q ∷ ps) (t ∷ ss) (suc i) s h at =
    let rest : param_layouts clocks ps ≡ map (λ (x : StTree). Some x) ss = cc in
    param_at clocks ps ss i s rest at

pub as_many : (clocks : ℕ) (ps : List ParamTree) (ss : List StTree) → param_layouts clocks ps ≡ map (λ (x : StTree). Some x) ss → length ss ≡ length ps
as_many clocks ps ss h = sym (length-map ss (λ (x : StTree). Some x)) ∙ (ap length (sym h) ∙ length-map ps (λ (q : ParamTree). lay_of q.type clocks))

pub item_count_is : (p : ProgramTree) (keys : Keys) (s : StFuncTree) (h : IsInstance p keys s)
    → length (item_layouts s) ≡ length h.of.params + length h.of.nodes
item_count_is p keys s h =
    let count : length s.ins ≡ length h.of.params = as_many s.budget h.of.params s.ins h.ins in
    let nodes : length s.nodes ≡ length h.of.nodes = nodes_many p keys s.func s.budget (length h.of.params) h.of.nodes s.nodes h.nodes in
    length-append s.ins (node_layouts s.nodes) ∙ omega (arith, count, nodes, length-map s.nodes (λ (x : StNodeTree). x.type))

-- ---- each item's layout is that of its type

layout_is : (p : ProgramTree) (f budget a : ℕ) (layouts : List StTree) (s : StTree) → layout_at p f budget a ≡ Some s → slice_get layouts a ≡ Some s
    → layout_at p f budget a ≡ Some (item_layout layouts a)
layout_is p f budget a layouts s is at = is ∙ ap Some (sym (ap (λ o. unwrap_or o (sseq 0 (st_atom (unsigned_word 1)))) at))

pub item_laid : (p : ProgramTree) (keys : Keys) (s : StFuncTree) (h : IsInstance p keys s) (a : ℕ) → a < length (item_layouts s)
    → layout_at p s.func s.budget a ≡ Some (item_layout (item_layouts s) a)
item_laid p keys s h a below =
    let count : length s.ins ≡ length h.of.params = as_many s.budget h.of.params s.ins h.ins in
    let long : length (item_layouts s) ≡ length s.ins + length s.nodes = length-append s.ins (node_layouts s.nodes) ∙
    omega (arith, length-map s.nodes (λ (x : StNodeTree). x.type)) in
    elim (cases_lt a (length s.ins)) [
      | inl lt ↦
          let x : StTree = get_or s.ins a (sseq 0 (st_atom (unsigned_word 1))) in
          let at : slice_get s.ins a ≡ Some x = slice_get-get_or s.ins a (sseq 0 (st_atom (unsigned_word 1))) lt in
          let q = param_at s.budget h.of.params s.ins a x h.ins at in
          layout_is p s.func s.budget a (item_layouts s) x (ap (λ o. o >>= λ t. lay_of t s.budget) (param-type p s.func a h.of q.0 h.known q.1) ∙ q.2)
          (get_in_front s.ins (node_layouts s.nodes) a x at)
      | inr ge ↦
          let j : ℕ = a - length s.ins in
          let e : length s.ins + j ≡ a = omega (arith, ge) in
          let blank : StNodeTree = record { op = join; args = []; type = sseq 0 (st_atom (unsigned_word 1)); copies = 0; line = 0 } in
          let m : StNodeTree = get_or s.nodes j blank in
          let at : slice_get s.nodes j ≡ Some m = slice_get-get_or s.nodes j blank (omega (arith, ge, below, long)) in
          let n = node_at p keys s.func s.budget (length h.of.params) h.of.nodes s.nodes j m h.nodes at in
          let there : slice_get (item_layouts s) a ≡ Some m.type = ap (slice_get (item_layouts s)) (sym e) ∙
          (get_right s.ins (node_layouts s.nodes) j ∙ (slice_get-map (λ (x : StNodeTree). x.type) s.nodes j ∙
          ap (option_map (λ (x : StNodeTree). x.type)) at)) in
          let place : length h.of.params + j ≡ a = omega (arith, count, e) in
          layout_is p s.func s.budget a (item_layouts s) m.type (rw place at n.is.type) there
    ]

pub record IsLaidAs (t : SeqTree) (budget : ℕ) (s : StTree) : Type 0 where
  pub sized : IsTrue (in_size t)
  pub laid : lay_of t budget ≡ Some s

-- an item of a type that is known
pub typed_item : (p : ProgramTree) (keys : Keys) (s : StFuncTree) (h : IsInstance p keys s) (a : ℕ) (t : SeqTree) → IsTyped p
    → slice_get (types_in p s.func) a ≡ Some t → a < length (item_layouts s)
    → IsLaidAs t s.budget (item_layout (item_layouts s) a)
typed_item p keys s h a t typed is below =
    let type : type_at p s.func a ≡ Some t = type-at-is p s.func a typed ∙ is in
    record {
      sized = item-sized (types_in p s.func) a t (func-types p s.func h.of typed h.known).sized is;
      laid = sym (ap (λ o. o >>= λ u. lay_of u s.budget) type) ∙ item_laid p keys s h a below;
    }

-- ---- several items

-- each layout is that of its type
abbrev pub AreLaidAs : List SeqTree → (budget : ℕ) → List StTree → Type 0
AreLaidAs [] budget [] = Unit {0}
AreLaidAs (t ∷ ts) budget (a ∷ layouts) = IsLaidAs t budget a × AreLaidAs ts budget layouts
AreLaidAs _ budget _ = ⊥

pub typed_items : (p : ProgramTree) (keys : Keys) (s : StFuncTree) (h : IsInstance p keys s) (args : List ℕ) (ts : List SeqTree) → IsTyped p
    → length (item_layouts s) ≡ length (types_in p s.func)
    → ItemsHave (types_in p s.func) args ts → AreLaidAs ts s.budget (map (item_layout (item_layouts s)) args)
typed_items p keys s h [] [] typed long have = tt
typed_items p keys s h [] (t ∷ ts) typed long have = absurd have
typed_items p keys s h (a ∷ args) [] typed long have = absurd have
typed_items p keys s h (a ∷ args) (t ∷ ts) typed long have =
    let inside = slice_get_within (types_in p s.func) a t have.0 in
    (typed_item p keys s h a t typed have.0 (omega (arith, inside, long)), typed_items p keys s h args ts typed long have.1)
