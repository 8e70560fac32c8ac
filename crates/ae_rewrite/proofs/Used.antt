-- Each instance of a schedule is used.
use Rattle.std.proofs.Common.{◌≡◌, ℕ, zero, suc, ◌+◌, ◌-◌, List, [], ◌∷◌, length, take, Option, Some, slice_get, refl, sym, ◌∙◌, arith, subst}
use Rattle.std.proofs.lemmas.Option.{none-some, same_Some}
use Rattle.ae_seq.specs.ProgramTree.{ProgramTree, NodeTree}
use Rattle.ae_rewrite.specs.declared.calls.Call.{Call}
use Rattle.ae_rewrite.specs.Calls.{called_by, plain_op}
use Rattle.ae_rewrite.specs.StProgramTree.{StNodeTree, StFuncTree}
use Rattle.ae_rewrite.specs.Scheduled.{Keys, HasKey, IsBody, IsOp, IsReached, IsStNode, AreStNodes, IsInstance, IsSchedule, as_program, as_called}
use Rattle.ae_rewrite.specs.Sound.{IsUsed, as_last, as_called as used_call}

of_take : {A : Type 0} (i : ℕ) (xs : List A) (j : ℕ) (x : A) → slice_get (take i xs) j ≡ Some x → slice_get xs j ≡ Some x
of_take zero xs j x h = absurd (none-some x h)
of_take (suc i) [] j x h = absurd (none-some x h)
of_take (suc i) (y ∷ ys) zero x h = h
of_take (suc i) (y ∷ ys) (suc j) x h = of_take i ys j x h

-- what comes of a node
record HasStNode (p : ProgramTree) (keys : Keys) (f u i : ℕ) (n : NodeTree) (ss : List StNodeTree) (j : ℕ) : Type 0 where
  node : StNodeTree
  here : slice_get ss j ≡ Some node
  is : IsStNode p keys f u (i + j) n node

st_node_of : (p : ProgramTree) (keys : Keys) (f u i : ℕ) (ns : List NodeTree) (ss : List StNodeTree) (j : ℕ) (n : NodeTree) → AreStNodes p keys f u i ns ss
    → slice_get ns j ≡ Some n → HasStNode p keys f u i n ss j
st_node_of p keys f u i [] [] j n h at = absurd (none-some n at)
st_node_of p keys f u i [] (t ∷ ss) j n h at = absurd h
st_node_of p keys f u i (m ∷ ns) [] j n h at = absurd h
st_node_of p keys f u i (m ∷ ns) (t ∷ ss) zero n h at =
    let e : m ≡ n = same_Some m n at in
    let z : i + 0 ≡ i = omega arith in
    record { node = t; here = refl; is = rw (z, ← e) h.0 }
st_node_of p keys f u i (m ∷ ns) (t ∷ ss) (suc j) n h at =
    let r = st_node_of p keys f u (i + 1) ns ss j n h.1 at in
    let e : i + 1 + j ≡ i + suc j = omega arith in
    record { node = r.node; here = r.here; is = rw (← e) r.is }

-- the function has a used instance under the budget
record HasUsed (all : List StFuncTree) (func budget : ℕ) : Type 0 where
  at : ℕ
  key : HasKey all at func budget
  used : IsUsed all at

reached_used : (p : ProgramTree) (slowdown : ℕ) (all : List StFuncTree) → IsSchedule p slowdown all → (func budget : ℕ) → IsReached p slowdown func budget
    → HasUsed all func budget
reached_used p slowdown all h func budget (as_program g v is_f is_u) =
    record { at = length all - 1; key = rw (is_f, is_u) h.last; used = as_last (length all - 1) refl }
reached_used p slowdown all h func budget (as_called g v caller clocks k of n c r known here is is_f is_u) =
    let above = reached_used p slowdown all h caller clocks r in
    let s : StFuncTree = above.key.instance in
    let own : IsInstance p (HasKey (take above.at all)) s = h.right above.at s above.key.here in
    let same : own.of ≡ of = same_Some own.of of (sym own.known ∙ rw above.key.is_func known) in
    let there : slice_get own.of.nodes k ≡ Some n = rw same here in
    let from = st_node_of p (HasKey (take above.at all)) s.func s.budget (length own.of.params) own.of.nodes s.nodes k n own.nodes there in
    let called : called_by p s.func s.budget n ≡ Some c = rw (above.key.is_func, above.key.is_budget) is in
    let b : IsBody (HasKey (take above.at all)) c from.node.op = subst
    (λ (o : Option Call). IsOp (HasKey (take above.at all)) o (plain_op p s.func s.budget n.op n.args) from.node.op) called from.is.op in
    record {
      at = b.at;
      key = record {
        instance = b.key.instance;
        here = of_take above.at all b.at b.key.instance b.key.here;
        is_func = b.key.is_func ∙ sym is_f;
        is_budget = b.key.is_budget ∙ sym is_u;
      };
      used = used_call b.at above.at k s from.node above.used above.key.here from.here b.is;
    }

pub schedule_used : (p : ProgramTree) (slowdown : ℕ) (all : List StFuncTree) → IsSchedule p slowdown all → (k : ℕ) (s : StFuncTree) → slice_get all k ≡ Some s
    → IsUsed all k
schedule_used p slowdown all h k s at =
    let key : HasKey all k s.func s.budget = record { instance = s; here = at; is_func = refl; is_budget = refl } in
    let u = reached_used p slowdown all h s.func s.budget (h.reached k s.func s.budget key) in
    subst (IsUsed all) (h.once u.at k s.func s.budget u.key key) u.used
