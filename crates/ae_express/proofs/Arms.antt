-- The value of each form of expression, from those of its parts.
use Rattle.std.proofs.Common.{ℕ, ◌≡◌, ◌==◌, if◌then◌else◌, true, List, get_or, Option, Result, IfOk, sym, ap, ◌∙◌}
use Rattle.std.proofs.lemmas.Bool.{cond-true}
use Rattle.std.proofs.lemmas.Option.{unwrap_or-slice_get}
use Rattle.ae_word.specs.declared.op.WordOp.TheVariants as op
use Rattle.ae_word.specs.WordTable.{bit, word_result}
use Rattle.ae_netlist.specs.declared.cell.NetId.{NetId}
use Rattle.ae_netlist.specs.declared.cell.SizedCell.{SizedCell}
use Rattle.ae_netlist.specs.Circuit.{Circuit}
use Rattle.ae_netlist.specs.Runs.{Clock}
use Rattle.ae_vmodule.specs.declared.module.UnOp.TheVariants.{Not, Flip}
use Rattle.ae_vmodule.specs.declared.module.BinOp.{BinOp}
use Rattle.ae_vmodule.specs.ModuleTree.{ExprTree, name, constant, place, part, index, unary, binary, choice, concat_one, concat_more, NetTree}
use Rattle.ae_judge.specs.Names.{is_memory_name}
use Rattle.ae_judge.specs.Widths.{own_width}
use Rattle.ae_runs.specs.Values.{ModuleClock, left_width, right_width, binary_result, value_at}
use Rattle.ae_gates.specs.declared.compounds.Way.{Way}
use Rattle.ae_gates.specs.Shifts.{moved}
use Rattle.ae_express.specs.Forms.{IsShiftForm}
use Rattle.ae_express.specs.ConstantValue.{IsConstantOf}
use Rattle.ae_gates.specs.Cells.{GrowsByGates, IsWord}
use Rattle.ae_runs.specs.Named.{AreNamed, read}
use Rattle.ae_gates.proofs.Words.{word_grows, same_word}
use Rattle.ae_order.proofs.Answered.{ok_map}

-- the net has the value of the expression at a width
abbrev pub Has : ℕ → List NetTree → List (Option NetId) → List SizedCell → (net width : ℕ) → ExprTree → Type 0
Has from ns nets cells y w e = (at : List ℕ → ℕ) → AreNamed ns nets at → IsWord from cells y w (λ run t. value_at ns (read at run t) w e)

constant_is : (ns : List NetTree) (c : ModuleClock) (w k : ℕ) (e : ExprTree) → IsConstantOf k e → k ≡ value_at ns c w e
constant_is ns c w k (constant size value fits) h = h
constant_is ns c w k (name n) h = absurd h
constant_is ns c w k (place n) h = absurd h
constant_is ns c w k (part n high low) h = absurd h
constant_is ns c w k (index n at) h = absurd h
constant_is ns c w k (unary op a) h = absurd h
constant_is ns c w k (binary op a b) h = absurd h
constant_is ns c w k (choice test a b) h = absurd h
constant_is ns c w k (concat_one a) h = absurd h
constant_is ns c w k (concat_more a rest) h = absurd h

module _ (from : ℕ) (ns : List NetTree) (nets : List (Option NetId)) where
  pub index_arm : {E : Type 0} (before cells : List SizedCell) (r : Result NetId E) (n : List ℕ) (x u w : ℕ) (a : ExprTree) → is_memory_name ns n ≡ true
      → u ≡ own_width ns a → Has from ns nets before x u a
      → IfOk r (λ y. (at : List ℕ → ℕ) (f : List Clock → ℕ → ℕ) → AreNamed ns nets at → IsWord from before x u f
      → IsWord from cells y.0 w (λ run t. get_or ((read at run t).store n) (f run t) 0))
      → IfOk r (λ y. Has from ns nets cells y.0 w (index n a))
  index_arm before cells r n x u w a memory e p = ok_map r (λ y h at named. same_word _ _
      (λ run t. ap (λ k. get_or ((read at run t).store n) (value_at ns (read at run t) k a) 0) e
      ∙ (sym (unwrap_or-slice_get ((read at run t).store n) (value_at ns (read at run t) (own_width ns a) a) 0) ∙ sym (cond-true _ _ _ memory)))
      (h at _ named (p at named)))

  pub not_arm : {E : Type 0} (m1 m2 m3 : List SizedCell) (r : Result NetId E) (x z u w : ℕ) (a : ExprTree) → u ≡ own_width ns a → Has from ns nets m1 x u a
      → ((f : List Clock → ℕ → ℕ) → IsWord from m1 x u f → IsWord from m2 z 1 (λ run t. bit (f run t == 0)))
      → IfOk r (λ y. (f : List Clock → ℕ → ℕ) → IsWord from m2 z 1 f → IsWord from m3 y.0 w f)
      → IfOk r (λ y. Has from ns nets m3 y.0 w (unary Not a))
  not_arm m1 m2 m3 r x z u w a e p zero = ok_map r (λ y h at named. same_word _ _
      (λ run t. ap (λ k. bit (value_at ns (read at run t) k a == 0)) e)
      (h _ (zero _ (p at named))))

  pub flip_arm : {E : Type 0} (m1 m2 : List SizedCell) (r : Result NetId E) (x w : ℕ) (a : ExprTree) → Has from ns nets m1 x w a
      → IfOk r (λ y. (f g : List Clock → ℕ → ℕ) → IsWord from m1 x w f → IsWord from m1 x w g
      → IsWord from m2 y.0 w (λ run t. word_result op.Not w (f run t) (g run t) (f run t)))
      → IfOk r (λ y. Has from ns nets m2 y.0 w (unary Flip a))
  flip_arm m1 m2 r x w a p = ok_map r (λ y h at named. h _ _ (p at named) (p at named))

  -- operands at widths that are equal to those handed down
  operands_at : (op : BinOp) (c : ModuleClock) (w u v : ℕ) (a b : ExprTree) → u ≡ left_width op w (own_width ns a) (own_width ns b)
      → v ≡ right_width op w (own_width ns a) (own_width ns b)
      → binary_result op w (value_at ns c u a) (value_at ns c v b) ≡ value_at ns c w (binary op a b)
  operands_at op c w u v a b p q = ap (λ k. binary_result op w (value_at ns c k a) (value_at ns c v b)) p ∙
      ap (λ k. binary_result op w (value_at ns c (left_width op w (own_width ns a) (own_width ns b)) a) (value_at ns c k b)) q

  pub constant_arm : {E : Type 0} (m1 m2 : Circuit) (r : Result NetId E) (op : BinOp) (way : Way) (x k w : ℕ) (a b : ExprTree) → IsShiftForm op way
      → IsConstantOf k b
      → Has from ns nets m1.cells x w a
      → IfOk r (λ z. (f : List Clock → ℕ → ℕ) → IsWord from m1.cells x w f → IsWord from m2.cells z.0 w (λ run t. moved way w (f run t) k))
      → IfOk r (λ z. Has from ns nets m2.cells z.0 w (binary op a b))
  constant_arm m1 m2 r op way x k w a b form is p = ok_map r (λ z h at named. same_word _ _
      (λ run t. form.value w _ k ∙ ap (binary_result op w (value_at ns (read at run t) w a)) (constant_is ns (read at run t) (own_width ns b) k b is) ∙
      operands_at op (read at run t) w w (own_width ns b) a b (sym (form.left w _ _)) (sym (form.right w _ _)))
      (h _ (p at named)))

  pub binary_arm : {E : Type 0} (m1 m2 m3 : Circuit) (r : Result NetId E) (op : BinOp) (x y u v w : ℕ) (a b : ExprTree)
      → u ≡ left_width op w (own_width ns a) (own_width ns b) → v ≡ right_width op w (own_width ns a) (own_width ns b) → GrowsByGates m1 m2
      → Has from ns nets m1.cells x u a → Has from ns nets m2.cells y v b
      → IfOk r (λ z. (f g : List Clock → ℕ → ℕ) → IsWord from m2.cells x u f → IsWord from m2.cells y v g
      → IsWord from m3.cells z.0 w (λ run t. binary_result op w (f run t) (g run t)))
      → IfOk r (λ z. Has from ns nets m3.cells z.0 w (binary op a b))
  binary_arm m1 m2 m3 r op x y u v w a b e d g p q = ok_map r (λ z h at named. same_word _ _
      (λ run t. operands_at op (read at run t) w u v a b e d)
      (h _ _ (word_grows g (p at named)) (q at named)))

  pub choice_arm : {E : Type 0} (m1 m2 m3 m4 : Circuit) (r : Result NetId E) (k x y u w : ℕ) (test a b : ExprTree) → u ≡ own_width ns test → GrowsByGates m1 m2
      → GrowsByGates m2 m3
      → Has from ns nets m1.cells k u test → Has from ns nets m2.cells x w a → Has from ns nets m3.cells y w b
      → IfOk r (λ z. (h f g : List Clock → ℕ → ℕ) → IsWord from m3.cells k u h → IsWord from m3.cells x w f → IsWord from m3.cells y w g
      → IsWord from m4.cells z.0 w (λ run t. if h run t == 0 then g run t else f run t))
      → IfOk r (λ z. Has from ns nets m4.cells z.0 w (choice test a b))
  choice_arm m1 m2 m3 m4 r k x y u w test a b e g1 g2 p q s = ok_map r (λ z h at named. same_word _ _
      (λ run t. ap (λ i. if value_at ns (read at run t) i test == 0 then value_at ns (read at run t) w b else value_at ns (read at run t) w a) e)
      (h _ _ _ (word_grows g2 (word_grows g1 (p at named))) (word_grows g2 (q at named)) (s at named)))

  pub one_arm : {E : Type 0} (m1 m2 : List SizedCell) (r : Result NetId E) (x u w : ℕ) (a : ExprTree) → u ≡ own_width ns a → Has from ns nets m1 x u a
      → IfOk r (λ y. (f : List Clock → ℕ → ℕ) → IsWord from m1 x u f → IsWord from m2 y.0 w f)
      → IfOk r (λ y. Has from ns nets m2 y.0 w (concat_one a))
  one_arm m1 m2 r x u w a own p = ok_map r (λ y h at named. same_word _ _ (λ run t. ap (λ k. value_at ns (read at run t) k a) own) (h _ (p at named)))

  -- a concatenation has one value at every width
  pub more_arm : {E : Type 0} (m1 m2 : List SizedCell) (r : Result NetId E) (x u w : ℕ) (a rest : ExprTree) → Has from ns nets m1 x u (concat_more a rest)
      → IfOk r (λ y. (f : List Clock → ℕ → ℕ) → IsWord from m1 x u f → IsWord from m2 y.0 w f)
      → IfOk r (λ y. Has from ns nets m2 y.0 w (concat_more a rest))
  more_arm m1 m2 r x u w a rest p = ok_map r (λ y h at named. h _ (p at named))
