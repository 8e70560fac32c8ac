-- In the schedule of a typed program each operator fits its layouts.
use Rattle.std.proofs.Common.{◌≡◌, ℕ, ◌+◌, ◌<◌, List, [], ◌∷◌, length, map, take, Option, Some, None, refl, ap, sym, ◌∙◌, arith, slice_get, IsTrue}
use Rattle.std.proofs.lemmas.List.{length-map}
use Rattle.std.proofs.lemmas.Option.{slice_get_within}
use Rattle.ae_seqtype.specs.SeqTree.{SeqTree}
use Rattle.ae_seq.specs.ProgramTree.{ProgramTree, OpTree, ParamTree}
use Rattle.ae_seq.specs.Formed.{is_line, has_arguments}
use Rattle.ae_seq.specs.Typing.{type_at, op_type, signatures, ◌>>=◌}
use Rattle.ae_eval.specs.Stack.{IsTyped, types_in, params_for}
use Rattle.ae_eval.specs.Lines.{ItemsHave, item_of, nodes_in, nodes_for}
use Rattle.ae_eval.proofs.Items.{line-facts}
use Rattle.ae_eval.proofs.Starting.{count-items}
use Rattle.ae_eval.proofs.Typing.{type-at-is}
use Rattle.ae_sttype.specs.StTree.{StTree}
use Rattle.ae_rewrite.specs.declared.calls.Call.{Call}
use Rattle.ae_rewrite.specs.LayoutRule.{lay_of}
use Rattle.ae_rewrite.specs.Calls.{called_by, call_of, spread_at, head, plain_op}
use Rattle.ae_rewrite.specs.StProgramTree.{StOpTree, StNodeTree, StFuncTree}
use Rattle.ae_rewrite.specs.Scheduled.{HasKey, IsOp, IsSchedule, copies_of}
use Rattle.ae_rewrite.specs.Sound.{item_layout, item_layouts}
use Rattle.ae_rewrite.proofs.Reached.{reached-within}
use Rattle.ae_flow.specs.Fitted.{FitsOp, FitsNode, AreFitted}
use Rattle.ae_flow.proofs.Placed.{IsLaidAs, AreLaidAs, node_at, item_count_is, typed_items}
use Rattle.ae_flow.proofs.Plain.{HaveTypes, plain_fits}
use Rattle.ae_flow.proofs.Calls.{call_fits}

have_types : (p : ProgramTree) (f : ℕ) (args : List ℕ) (ts : List SeqTree) → IsTyped p → ItemsHave (types_in p f) args ts → HaveTypes p f args ts
have_types p f [] [] typed h = tt
have_types p f [] (t ∷ ts) typed h = absurd h
have_types p f (a ∷ args) [] typed h = absurd h
have_types p f (a ∷ args) (t ∷ ts) typed h = (type-at-is p f a typed ∙ h.0, have_types p f args ts typed h.1)

op_fits : (p : ProgramTree) (slowdown k : ℕ) (all : List StFuncTree) (f budget copies : ℕ) (op : OpTree) (args : List ℕ) (ts : List SeqTree)
    (ins : List StTree) (t : SeqTree) (s : StTree) (made : StOpTree) (o : Option Call) (plain : Option StOpTree)
    → IsTyped p → IsSchedule p slowdown all → f < length p.funcs → 0 < budget → IsTrue (is_line p.version f op) → IsTrue (has_arguments op (length args))
    → HaveTypes p f args ts → AreLaidAs ts budget ins → op_type (signatures (take f p.funcs)) op ts ≡ Some t → IsLaidAs t budget s
    → call_of op budget (spread_at p f budget (head args)) ≡ o → plain_op p f budget op args ≡ plain → IsOp (HasKey (take k all)) o plain made
    → copies ≡ copies_of o → FitsOp (take k all) budget copies ins s made
op_fits p slowdown k all f budget copies op args ts ins t s made None plain typed schedule known some line arity h l is out at own made_is many =
    plain_fits p f budget p.version f copies (take k all) (signatures (take f p.funcs)) op args ts ins t s made some line arity h l is out (own ∙ made_is)
op_fits p slowdown k all f budget copies op args ts ins t s made (Some c) plain typed schedule known some line arity h l is out at own made_is many =
    call_fits p slowdown k all f budget p.version copies op args ts ins t s c made typed schedule known some line h l is out.laid at many made_is

node_fits : (p : ProgramTree) (slowdown k j : ℕ) (all : List StFuncTree) (s : StFuncTree) (n : StNodeTree) → IsTyped p → 0 < slowdown
    → IsSchedule p slowdown all → slice_get all k ≡ Some s → slice_get s.nodes j ≡ Some n → FitsNode (take k all) s n
node_fits p slowdown k j all s n typed some schedule at here =
    let keys = HasKey (take k all) in
    let own = schedule.right k s at in
    let key : HasKey all k s.func s.budget = record { instance = s; here = at; is_func = refl; is_budget = refl } in
    let clocks : 0 < s.budget = (reached-within p slowdown s.func s.budget some (schedule.reached k s.func s.budget key)).0 in
    let known : s.func < length p.funcs = slice_get_within p.funcs s.func own.of own.known in
    let from = node_at p keys s.func s.budget (length own.of.params) own.of.nodes s.nodes j n own.nodes here in
    let line : slice_get (nodes_in p s.func) j ≡ Some from.node = ap (λ o. slice_get (nodes_for o) j) own.known ∙ from.here in
    let facts = line-facts p s.func j from.node typed known line in
    let item : item_of p s.func j ≡ length own.of.params + j = ap (λ o. length (params_for o) + j) own.known ∙
    omega (arith, length-map own.of.params (λ (q : ParamTree). q.type)) in
    let long : length (item_layouts s) ≡ length (types_in p s.func) = item_count_is p keys s own ∙ sym (count-items p s.func own.of typed own.known) in
    let type : type_at p s.func (length own.of.params + j) ≡ Some facts.type = type-at-is p s.func (length own.of.params + j) typed ∙
    (ap (slice_get (types_in p s.func)) (sym item) ∙ facts.own) in
    let laid : lay_of facts.type s.budget ≡ Some n.type = sym (ap (λ o. o >>= λ t. lay_of t s.budget) type) ∙ from.is.type in
    rw from.is.args (op_fits p slowdown k all s.func s.budget n.copies from.node.op from.node.args facts.args
    (map (item_layout (item_layouts s)) from.node.args) facts.type n.type n.op (called_by p s.func s.budget from.node)
    (plain_op p s.func s.budget from.node.op from.node.args)
    typed schedule known clocks facts.line facts.arity (have_types p s.func from.node.args facts.args typed facts.have)
    (typed_items p keys s own from.node.args facts.args typed long facts.have) facts.typed
    (record { sized = facts.sized; laid = laid }) refl refl from.is.op from.is.copies)

pub schedules_fit_by : (p : ProgramTree) (slowdown : ℕ) (all : List StFuncTree) → IsTyped p → 0 < slowdown → IsSchedule p slowdown all → AreFitted all
schedules_fit_by p slowdown all typed some schedule = record { each = λ k j s n at here. node_fits p slowdown k j all s n typed some schedule at here }
