-- How an expression is lowered, one call behind the other.
use Rattle.std.proofs.Common.{ℕ, ◌≡◌, ◌==◌, ◌+◌, ◌*◌, ◌≤◌, if◌then◌else◌, List, length, get_or, true, Option, Result, Ok, Err, IfOk, OnOk, refl, arith}
use Rattle.ae_word.specs.declared.op.WordOp.TheVariants as op
use Rattle.ae_word.specs.WordTable.{bit, word_result}
use Rattle.ae_netlist.specs.declared.cell.NetId.{NetId}
use Rattle.ae_netlist.specs.Circuit.{Circuit, IsNet}
use Rattle.ae_netlist.specs.Runs.{Clock}
use Rattle.ae_vmodule.specs.declared.module.UnOp.TheVariants.{Not, Flip}
use Rattle.ae_vmodule.specs.declared.module.BinOp.{BinOp}
use Rattle.ae_vmodule.specs.ModuleTree.{ExprTree, name, constant, place, part, index, unary, binary, choice, concat_one, concat_more, NetTree}
use Rattle.ae_judge.specs.Names.{is_memory_name}
use Rattle.ae_judge.specs.Widths.{own_width}
use Rattle.ae_judge.specs.Weight.{expr_weight, operator_weight, shift_weight}
use Rattle.ae_runs.specs.Values.{left_width, right_width, binary_result}
use Rattle.ae_gates.specs.declared.compounds.Way.{Way}
use Rattle.ae_gates.specs.Shifts.{moved}
use Rattle.ae_express.specs.Forms.{IsShiftForm, most_cells}
use Rattle.ae_express.specs.ConstantValue.{IsConstantOf}
use Rattle.ae_gates.specs.Cells.{AddsGates, GrowsByGates, IsWord}
use Rattle.ae_runs.specs.Named.{AreNamed, AreNets, read}
use Rattle.ae_express.specs.Lowered.{IsLowered}
use Rattle.ae_gates.proofs.Words.{grows_refl, grows_trans}
use Rattle.ae_express.proofs.NetLaws.{nets_grow}
use Rattle.ae_express.proofs.Arms.{Has, index_arm, not_arm, flip_arm, constant_arm, binary_arm, choice_arm, one_arm, more_arm}

-- a call that adds at most k cells
pub record AddsNet {E : Type 0} (r : Result NetId E) (old new : Circuit) (k w : ℕ) : Type 0 where
  pub adds : OnOk r (AddsGates old new k)
  pub net : IfOk r (λ y. IsNet new.cells y.0 w)

-- what was done before, and then such a call
pub lowered : {E : Type 0} (from : ℕ) (ns : List NetTree) (nets : List (Option NetId)) (old mid new : Circuit) (r : Result NetId E) (k most w : ℕ)
    (e : ExprTree)
    → GrowsByGates old mid → length old.cells ≤ length mid.cells → length mid.cells + k ≤ length old.cells + most → AreNets ns nets mid.cells
    → AddsNet r mid new k w → IfOk r (λ y. Has from ns nets new.cells y.0 w e) → IfOk r (λ y. IsLowered from ns nets old new most y.0 w e)
lowered from ns nets old mid new (Ok y) k most w e before more room ready adds word =
    let m = adds.adds.more in
    let f = adds.adds.few in
    record {
      grows = grows_trans before adds.adds.grows;
      more = omega arith;
      few = omega arith;
      net = adds.net;
      nets = nets_grow adds.adds.grows ready;
      word = word;
    }
lowered from ns nets old mid new (Err x) k most w e before more room ready adds word = tt

-- a constant amount weighs 1
fixed_weight : (k : ℕ) (b : ExprTree) → IsConstantOf k b → shift_weight b ≡ 1
fixed_weight k (constant size value fits) h = refl
fixed_weight k (name n) h = absurd h
fixed_weight k (place n) h = absurd h
fixed_weight k (part n high low) h = absurd h
fixed_weight k (index n at) h = absurd h
fixed_weight k (unary op a) h = absurd h
fixed_weight k (binary op a b) h = absurd h
fixed_weight k (choice test a b) h = absurd h
fixed_weight k (concat_one a) h = absurd h
fixed_weight k (concat_more a rest) h = absurd h

module _ {E : Type 0} (from : ℕ) (ns : List NetTree) (nets : List (Option NetId)) where
  -- a call alone
  pub at_once : (old new : Circuit) (r : Result NetId E) (k most w : ℕ) (e : ExprTree) → k ≤ most → AreNets ns nets old.cells
      → AddsNet r old new k w → IfOk r (λ y. Has from ns nets new.cells y.0 w e) → IfOk r (λ y. IsLowered from ns nets old new most y.0 w e)
  at_once old new r k most w e room ready adds word = lowered from ns nets old old new r k most w e (grows_refl old) (omega arith) (omega arith) ready adds word

  pub index_lowered : (old mid new : Circuit) (r : Result NetId E) (n : List ℕ) (x u w : ℕ) (a : ExprTree) → is_memory_name ns n ≡ true → u ≡ own_width ns a
      → IsLowered from ns nets old mid (8 * expr_weight a + 1) x u a → AddsNet r mid new 2 w
      → IfOk r (λ y. (at : List ℕ → ℕ) (f : List Clock → ℕ → ℕ) → AreNamed ns nets at → IsWord from mid.cells x u f
      → IsWord from new.cells y.0 w (λ run t. get_or ((read at run t).store n) (f run t) 0))
      → IfOk r (λ y. IsLowered from ns nets old new (8 * expr_weight (index n a) + 1) y.0 w (index n a))
  index_lowered old mid new r n x u w a memory own p adds word =
      lowered from ns nets old mid new r 2 _ w (index n a) p.grows p.more (omega arith) p.nets adds
      (index_arm from ns nets mid.cells new.cells r n x u w a memory own p.word word)

  pub not_lowered : (m0 m1 m2 m3 : Circuit) (r : Result NetId E) (x z u w : ℕ) (a : ExprTree) → u ≡ own_width ns a
      → IsLowered from ns nets m0 m1 (8 * expr_weight a + 1) x u a → GrowsByGates m1 m2 → length m1.cells ≤ length m2.cells
      → length m2.cells ≤ length m1.cells + 2
      → AddsNet r m2 m3 1 w
      → ((f : List Clock → ℕ → ℕ) → IsWord from m1.cells x u f → IsWord from m2.cells z 1 (λ run t. bit (f run t == 0)))
      → IfOk r (λ y. (f : List Clock → ℕ → ℕ) → IsWord from m2.cells z 1 f → IsWord from m3.cells y.0 w f)
      → IfOk r (λ y. IsLowered from ns nets m0 m3 (8 * expr_weight (unary Not a) + 1) y.0 w (unary Not a))
  not_lowered m0 m1 m2 m3 r x z u w a own p g more few adds zero word =
      lowered from ns nets m0 m2 m3 r 1 _ w (unary Not a) (grows_trans p.grows g) (omega arith) (omega arith) (nets_grow g p.nets) adds
      (not_arm from ns nets m1.cells m2.cells m3.cells r x z u w a own p.word zero word)

  pub flip_lowered : (m0 m1 m2 : Circuit) (r : Result NetId E) (x w : ℕ) (a : ExprTree)
      → IsLowered from ns nets m0 m1 (8 * expr_weight a + 1) x w a → AddsNet r m1 m2 1 w
      → IfOk r (λ y. (f g : List Clock → ℕ → ℕ) → IsWord from m1.cells x w f → IsWord from m1.cells x w g
      → IsWord from m2.cells y.0 w (λ run t. word_result op.Not w (f run t) (g run t) (f run t)))
      → IfOk r (λ y. IsLowered from ns nets m0 m2 (8 * expr_weight (unary Flip a) + 1) y.0 w (unary Flip a))
  flip_lowered m0 m1 m2 r x w a p adds word =
      lowered from ns nets m0 m1 m2 r 1 _ w (unary Flip a) p.grows p.more (omega arith) p.nets adds
      (flip_arm from ns nets m1.cells m2.cells r x w a p.word word)

  pub constant_lowered : (m0 m1 m2 : Circuit) (r : Result NetId E) (op : BinOp) (way : Way) (x k w : ℕ) (a b : ExprTree) → IsShiftForm op way → IsConstantOf k b
      → IsLowered from ns nets m0 m1 (8 * expr_weight a + 1) x w a → AddsNet r m1 m2 1 w
      → IfOk r (λ z. (f : List Clock → ℕ → ℕ) → IsWord from m1.cells x w f → IsWord from m2.cells z.0 w (λ run t. moved way w (f run t) k))
      → IfOk r (λ z. IsLowered from ns nets m0 m2 (8 * expr_weight (binary op a b) + 1) z.0 w (binary op a b))
  constant_lowered m0 m1 m2 r op way x k w a b form is p adds word =
      let one = fixed_weight k b is in
      let weighs = form.weighs b in
      lowered from ns nets m0 m1 m2 r 1 _ w (binary op a b) p.grows p.more (omega arith) p.nets adds
      (constant_arm from ns nets m1 m2 r op way x k w a b form is p.word word)

  pub binary_lowered : (m0 m1 m2 m3 : Circuit) (r : Result NetId E) (op : BinOp) (x y u v w : ℕ) (a b : ExprTree)
      → u ≡ left_width op w (own_width ns a) (own_width ns b) → v ≡ right_width op w (own_width ns a) (own_width ns b)
      → 8 * operator_weight op b ≡ most_cells op + 1
      → IsLowered from ns nets m0 m1 (8 * expr_weight a + 1) x u a → IsLowered from ns nets m1 m2 (8 * expr_weight b + 1) y v b
      → AddsNet r m2 m3 (most_cells op) w
      → IfOk r (λ z. (f g : List Clock → ℕ → ℕ) → IsWord from m2.cells x u f → IsWord from m2.cells y v g
      → IsWord from m3.cells z.0 w (λ run t. binary_result op w (f run t) (g run t)))
      → IfOk r (λ z. IsLowered from ns nets m0 m3 (8 * expr_weight (binary op a b) + 1) z.0 w (binary op a b))
  binary_lowered m0 m1 m2 m3 r op x y u v w a b left right weighs p q adds word =
      lowered from ns nets m0 m2 m3 r (most_cells op) _ w (binary op a b) (grows_trans p.grows q.grows) (omega arith) (omega arith) q.nets adds
      (binary_arm from ns nets m1 m2 m3 r op x y u v w a b left right q.grows p.word q.word word)

  pub choice_lowered : (m0 m1 m2 m3 m4 : Circuit) (r : Result NetId E) (k x y u w : ℕ) (test a b : ExprTree) → u ≡ own_width ns test
      → IsLowered from ns nets m0 m1 (8 * expr_weight test + 1) k u test → IsLowered from ns nets m1 m2 (8 * expr_weight a + 1) x w a
      → IsLowered from ns nets m2 m3 (8 * expr_weight b + 1) y w b → AddsNet r m3 m4 3 w
      → IfOk r (λ z. (h f g : List Clock → ℕ → ℕ) → IsWord from m3.cells k u h → IsWord from m3.cells x w f → IsWord from m3.cells y w g
      → IsWord from m4.cells z.0 w (λ run t. if h run t == 0 then g run t else f run t))
      → IfOk r (λ z. IsLowered from ns nets m0 m4 (8 * expr_weight (choice test a b) + 1) z.0 w (choice test a b))
  choice_lowered m0 m1 m2 m3 m4 r k x y u w test a b own p q s adds word =
      lowered from ns nets m0 m3 m4 r 3 _ w (choice test a b) (grows_trans p.grows (grows_trans q.grows s.grows)) (omega arith) (omega arith) s.nets adds
      (choice_arm from ns nets m1 m2 m3 m4 r k x y u w test a b own q.grows s.grows p.word q.word s.word word)

  pub one_lowered : (m0 m1 m2 : Circuit) (r : Result NetId E) (x u w : ℕ) (a : ExprTree) → u ≡ own_width ns a
      → IsLowered from ns nets m0 m1 (8 * expr_weight a + 1) x u a → AddsNet r m1 m2 1 w
      → IfOk r (λ y. (f : List Clock → ℕ → ℕ) → IsWord from m1.cells x u f → IsWord from m2.cells y.0 w f)
      → IfOk r (λ y. IsLowered from ns nets m0 m2 (8 * expr_weight (concat_one a) + 1) y.0 w (concat_one a))
  one_lowered m0 m1 m2 r x u w a own p adds word =
      lowered from ns nets m0 m1 m2 r 1 _ w (concat_one a) p.grows p.more (omega arith) p.nets adds
      (one_arm from ns nets m1.cells m2.cells r x u w a own p.word word)

  pub more_lowered : (m0 m1 m2 : Circuit) (r : Result NetId E) (x u w : ℕ) (a rest : ExprTree)
      → IsLowered from ns nets m0 m1 (8 * expr_weight (concat_more a rest)) x u (concat_more a rest) → AddsNet r m1 m2 1 w
      → IfOk r (λ y. (f : List Clock → ℕ → ℕ) → IsWord from m1.cells x u f → IsWord from m2.cells y.0 w f)
      → IfOk r (λ y. IsLowered from ns nets m0 m2 (8 * expr_weight (concat_more a rest) + 1) y.0 w (concat_more a rest))
  more_lowered m0 m1 m2 r x u w a rest p adds word =
      lowered from ns nets m0 m1 m2 r 1 _ w (concat_more a rest) p.grows p.more (omega arith) p.nets adds
      (more_arm from ns nets m1.cells m2.cells r x u w a rest p.word word)
