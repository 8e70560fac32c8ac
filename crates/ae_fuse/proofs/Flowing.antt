-- The schedule of a movement program has one instance that calls nothing, and it does the same whatever the words are.
use Rattle.std.proofs.Common.{◌≡◌, ℕ, zero, suc, ◌+◌, ◌-◌, ◌*◌, ◌<◌, inl, inr, true, List, [], ◌∷◌, ◌++◌, length, take, drop, map, Option, None, Some, slice_get, get_or, refl, arith, sym, ap, ◌∙◌, subst}
use Rattle.std.specs.Prelude.{flat_map, nat_lt, ◌&&◌}
use Rattle.std.specs.List.{range_with_len}
use Rattle.std.proofs.lemmas.Bool.{and_parts, cases_Bool, cond-true, cond-false}
use Rattle.std.proofs.lemmas.List.{map-append}
use Rattle.std.proofs.lemmas.List.Concat.{flat_map-cons}
use Rattle.std.proofs.lemmas.Option.{none-some, same_Some, option_and_then_some}
use Rattle.ae_seqtype.specs.SeqTree.{SeqTree, atom, seq}
use Rattle.ae_seqtype.proofs.Cuts.{take-map, drop-map}
use Rattle.ae_seq.specs.ProgramTree.{OpTree, pair, fst, snd, zip, shift, up, select, partition, unpartition, NodeTree, FuncTree, ProgramTree}
use Rattle.ae_seq.specs.Typing.{grown, type_at}
use Rattle.ae_word.specs.AtomTree.{unsigned_word}
use Rattle.ae_sttype.specs.StTree.{StTree, atom as st_atom, sseq as st_sseq, st_atoms, element_words}
use Rattle.ae_sttype.specs.Moves.{from_input, fixed}
use Rattle.ae_eval.specs.Stack.{paired}
use Rattle.ae_rewrite.specs.declared.st_program.MoveOp.{MoveOp}
use Rattle.ae_rewrite.specs.declared.st_program.MoveOp.TheVariants.{Shift, Up, Select, Same}
use Rattle.ae_rewrite.specs.declared.calls.Call.{Call}
use Rattle.ae_rewrite.specs.Calls.{Spreading, call_of, called_by, plain_op, head, shift_of}
use Rattle.ae_rewrite.specs.StProgramTree.{StOpTree, join, first, second, move, StNodeTree, StFuncTree}
use Rattle.ae_rewrite.specs.Scheduled.{Keys, HasKey, IsReached, as_program, as_called, IsOp, AreStNodes, IsSchedule}
use Rattle.ae_rewrite.specs.Interface.{main_of}
use Rattle.ae_rewrite.specs.Sound.{item_layout, item_layouts}
use Rattle.ae_delay.specs.Moving.{op_move, origin_from, origin_number}
use Rattle.ae_gather.specs.Gathers.{origin_word}
use Rattle.ae_flow.specs.Flow.{Callee, words_at, parts, op_words, node_words, item_words}
use Rattle.ae_trace.specs.Traces.{is_movement_op, are_movements}
use Rattle.ae_fuse.specs.Labels.{is_moving, are_moving}
use Rattle.ae_trace.proofs.Natural.{map-map, map-same}

-- ---- movement nodes call nothing

pub calls-none : (op : OpTree) (clocks : ℕ) (o : Option Spreading) → is_movement_op op ≡ true → call_of op clocks o ≡ None
calls-none pair clocks o h = refl
calls-none fst clocks o h = refl
calls-none snd clocks o h = refl
calls-none zip clocks o h = refl
calls-none (shift k) clocks o h = refl
calls-none (up n) clocks o h = refl
calls-none (select k) clocks o h = refl
calls-none (partition n m) clocks o h = refl
calls-none unpartition clocks o h = refl
calls-none _ clocks o h = absurd (cc)

node-moves : (ns : List NodeTree) (k : ℕ) (n : NodeTree) → are_movements ns ≡ true → slice_get ns k ≡ Some n → is_movement_op n.op ≡ true
node-moves [] k n h f = absurd (none-some n f)
node-moves (x ∷ ns) zero n h f = (let p = and_parts _ _ h in let e : x ≡ n = same_Some x n f in ap (λ (y : NodeTree). is_movement_op y.op) (sym e) ∙ p.0)
node-moves (x ∷ ns) (suc k) n h f = node-moves ns k n (and_parts _ _ h).1 f

module _ (p : ProgramTree) (slowdown : ℕ) (g : FuncTree) (there : slice_get p.funcs (main_of p) ≡ Some g) (moves : are_movements g.nodes ≡ true) where
  -- so the program function alone is reached
  pub only-main : (func budget : ℕ) → IsReached p slowdown func budget → (func ≡ main_of p) × (budget ≡ slowdown)
  only-main func budget (as_program a b is_func is_budget) = (is_func, is_budget)
  only-main func budget (as_called a b caller clocks k f n c reached found node called is_func is_budget) =
      let up_there = only-main caller clocks reached in
      let same : f ≡ g = same_Some f g (sym found ∙ ap (slice_get p.funcs) up_there.0 ∙ there) in
      let op = node-moves g.nodes k n moves (ap (λ (x : FuncTree). slice_get x.nodes k) (sym same) ∙ node) in
      absurd (none-some c (sym (calls-none n.op clocks _ op) ∙ called))

  -- no instance stands before the last one
  pub none-before : (instances : List StFuncTree) → IsSchedule p slowdown instances → (k func budget : ℕ)
      → HasKey (take (length instances - 1) instances) k func budget → ⊥
  none-before instances h k func budget key =
      let inside = taken-within (length instances - 1) instances k key.instance key.here in
      let own : HasKey instances k func budget = record { instance = key.instance; here = inside.1; is_func = key.is_func; is_budget = key.is_budget } in
      let r = only-main func budget (h.reached k func budget own) in
      let as_last : HasKey instances (length instances - 1) func budget = subst (λ x. HasKey instances (length instances - 1) x budget) (sym r.0)
      (subst (HasKey instances (length instances - 1) (main_of p)) (sym r.1) h.last) in
      let same : k ≡ length instances - 1 = h.once k (length instances - 1) func budget own as_last in
      let low = inside.0 in
      omega arith
    where
      taken-within : (n : ℕ) (xs : List StFuncTree) (k : ℕ) (x : StFuncTree) → slice_get (take n xs) k ≡ Some x → (k < n) × (slice_get xs k ≡ Some x)
      taken-within zero xs k x f = absurd (none-some x f)
      taken-within (suc n) [] k x f = absurd (none-some x f)
      taken-within (suc n) (y ∷ xs) zero x f = (omega arith, f)
      taken-within (suc n) (y ∷ xs) (suc k) x f = (let r = taken-within n xs k x f in (omega (arith, r.0), r.1))

-- ---- what its nodes are in space and time

shift-moves : (k : ℕ) (t : SeqTree) (x : StOpTree) → shift_of k t ≡ Some x → is_moving x ≡ true
shift-moves k (atom a) x h = absurd (none-some x h)
shift-moves k (seq n t) x h = ap is_moving (sym (same_Some _ x h))

plain-moves : (p : ProgramTree) (f clocks : ℕ) (op : OpTree) (args : List ℕ) (x : StOpTree) → is_movement_op op ≡ true → plain_op p f clocks op args ≡ Some x
    → is_moving x ≡ true
plain-moves p f clocks pair args x h e = ap is_moving (sym (same_Some _ x e))
plain-moves p f clocks fst args x h e = ap is_moving (sym (same_Some _ x e))
plain-moves p f clocks snd args x h e = ap is_moving (sym (same_Some _ x e))
plain-moves p f clocks zip args x h e = ap is_moving (sym (same_Some _ x e))
plain-moves p f clocks (shift k) args x h e = option_and_then_some (shift_of k) (type_at p f (head args)) x e (λ t at is. shift-moves k t x is)
plain-moves p f clocks (up n) args x h e = ap is_moving (sym (same_Some _ x e))
plain-moves p f clocks (select k) args x h e = ap is_moving (sym (same_Some _ x e))
plain-moves p f clocks (partition n m) args x h e = ap is_moving (sym (same_Some _ x e))
plain-moves p f clocks unpartition args x h e = ap is_moving (sym (same_Some _ x e))
plain-moves p f clocks _ args x h e = absurd (cc)

op-moves : (p : ProgramTree) (keys : Keys) (f clocks : ℕ) (n : NodeTree) (x : StOpTree) (o : Option Call) → is_movement_op n.op ≡ true → o ≡ None
    → IsOp keys o (plain_op p f clocks n.op n.args) x → is_moving x ≡ true
op-moves p keys f clocks n x None h e is = plain-moves p f clocks n.op n.args x h is
op-moves p keys f clocks n x (Some c) h e is = absurd (none-some c (sym e))

pub nodes-moving : (p : ProgramTree) (keys : Keys) (f clocks i : ℕ) (ns : List NodeTree) (ss : List StNodeTree) → are_movements ns ≡ true
    → AreStNodes p keys f clocks i ns ss → are_moving ss ≡ true
nodes-moving p keys f clocks i [] [] h is = refl
nodes-moving p keys f clocks i [] (s ∷ ss) h is = absurd is
nodes-moving p keys f clocks i (n ∷ ns) [] h is = absurd is
nodes-moving p keys f clocks i (n ∷ ns) (s ∷ ss) h is =
    let parts_of = and_parts _ _ h in
    let here = op-moves p keys f clocks n s.op (called_by p f clocks n) parts_of.0 (calls-none n.op clocks _ parts_of.0) is.0.op in
    let rest = nodes-moving p keys f clocks (i + 1) ns ss parts_of.1 is.1 in
    ap (λ b. b && are_moving ss) here ∙ rest

-- ---- and they do the same whatever the words are

module _ (f : ℕ → ℕ) (kept : f 0 ≡ 0) where
  abbrev all : List (List ℕ) → List (List ℕ)
  all wss = map (map f) wss

  at-all : (wss : List (List ℕ)) (k : ℕ) → words_at (all wss) k ≡ map f (words_at wss k)
  at-all [] k = refl
  at-all (ws ∷ wss) zero = refl
  at-all (ws ∷ wss) (suc k) = at-all wss k

  index-kept : (ws : List ℕ) (k : ℕ) → get_or (map f ws) k 0 ≡ f (get_or ws k 0)
  index-kept [] k = sym kept
  index-kept (w ∷ ws) zero = refl
  index-kept (w ∷ ws) (suc k) = index-kept ws k

  paired-all : (n k l : ℕ) (us vs : List ℕ) → paired n k l (map f us) (map f vs) ≡ map f (paired n k l us vs)
  paired-all zero k l us vs = refl
  paired-all (suc n) k l us vs =
      (λ i. (take-map f k us i ++ take-map f l vs i) ++ paired n k l (drop-map f k us i) (drop-map f l vs i))
      ∙ (λ i. sym (map-append f (take k us) (take l vs)) i ++ paired-all n k l (drop k us) (drop l vs) i)
      ∙ sym (map-append f (take k us ++ take l vs) (paired n k l (drop k us) (drop l vs)))

  flat-all : (g h : ℕ → List ℕ) (ns : List ℕ) → ((n : ℕ) → h n ≡ map f (g n)) → flat_map h ns ≡ map f (flat_map g ns)
  flat-all g h ns e = flat-by g h ns e
    where
      flat-by : (g h : ℕ → List ℕ) (ns : List ℕ) → ((n : ℕ) → h n ≡ map f (g n)) → flat_map h ns ≡ map f (flat_map g ns)
      flat-by g h [] e = refl
      flat-by g h (n ∷ ns) e = flat_map-cons h n ns ∙ (λ i. e n i ++ flat-by g h ns e i) ∙ sym (map-append f (g n) (flat_map g ns)) ∙
          ap (map f) (sym (flat_map-cons g n ns))

  parts-all : (n k o l : ℕ) (ws : List ℕ) → parts n k o l (map f ws) ≡ map f (parts n k o l ws)
  parts-all n k o l ws = flat-all (λ e. take l (drop (e * k + o) ws)) (λ e. take l (drop (e * k + o) (map f ws))) (range_with_len 0 n)
      (λ e. ap (take l) (drop-map f (e * k + o) ws) ∙ take-map f l (drop (e * k + o) ws))

  input-all : (ins : List StTree) (wss : List (List ℕ)) (i e j : ℕ) → origin_word ins (all wss) (from_input i e j) ≡ f (origin_word ins wss (from_input i e j))
  input-all ins wss i e j =
      let o = e * element_words (get_or ins i (st_sseq 0 (st_atom (unsigned_word 1)))) + j in
      ap (λ ws. get_or ws o 0) (at-all wss i) ∙ index-kept (words_at wss i) o

  from-all : (ins : List StTree) (wss : List (List ℕ)) (how : MoveOp) (n m e j : ℕ)
      → origin_word ins (all wss) (origin_from how n m e j) ≡ f (origin_word ins wss (origin_from how n m e j))
  from-all ins wss (Shift k) n m e j = elim (cases_Bool (nat_lt e k)) [
    | inl t ↦ (let o : origin_from (Shift k) n m e j ≡ fixed 0 = cond-true _ _ _ t in ap (origin_word ins (all wss)) o ∙ sym kept ∙
        sym (ap (λ x. f (origin_word ins wss x)) o))
    | inr t ↦ (let o : origin_from (Shift k) n m e j ≡ from_input 0 (e - k) j = cond-false _ _ _ t in ap (origin_word ins (all wss)) o ∙
        input-all ins wss 0 (e - k) j ∙ sym (ap (λ x. f (origin_word ins wss x)) o))
  ]
  from-all ins wss (Up c) n m e j = input-all ins wss 0 _ j
  from-all ins wss (Select k) n m e j = input-all ins wss 0 _ j
  from-all ins wss Same n m e j = input-all ins wss 0 e j

  move-all : (how : MoveOp) (a s : StTree) (wss : List (List ℕ))
      → map (origin_word (a ∷ []) (all wss)) (op_move how a s).origins ≡ map f (map (origin_word (a ∷ []) wss) (op_move how a s).origins)
  move-all how a s wss =
      let number = origin_number how a s in
      let own = range_with_len 0 _ in
      map-map (origin_word (a ∷ []) (all wss)) number own
      ∙ map-same (λ o. origin_word (a ∷ []) (all wss) (number o)) (λ o. f (origin_word (a ∷ []) wss (number o))) own (λ o. from-all (a ∷ []) wss how _ _ _ _)
      ∙ sym (map-map (λ o. f o) (λ o. origin_word (a ∷ []) wss (number o)) own)
      ∙ ap (map f) (sym (map-map (origin_word (a ∷ []) wss) number own))

  op-all : (known : List Callee) (args : List StTree) (s : StTree) (op : StOpTree) (wss : List (List ℕ)) → is_moving op ≡ true
      → op_words known args s op (all wss) ≡ map f (op_words known args s op wss)
  op-all known args s join wss h =
      let k = element_words (item_layout args 0) in
      let l = element_words (item_layout args 1) in
      (λ i. paired (st_atoms s) k l (at-all wss 0 i) (at-all wss 1 i)) ∙ paired-all (st_atoms s) k l (words_at wss 0) (words_at wss 1)
  op-all known args s first wss h =
      let k = element_words (item_layout args 0) in
      ap (parts (st_atoms s) k 0 (element_words s)) (at-all wss 0) ∙ parts-all (st_atoms s) k 0 (element_words s) (words_at wss 0)
  op-all known args s second wss h =
      let k = element_words (item_layout args 0) in
      ap (parts (st_atoms s) k (k - element_words s) (element_words s)) (at-all wss 0) ∙
      parts-all (st_atoms s) k (k - element_words s) (element_words s) (words_at wss 0)
  op-all known args s (move how) wss h = move-all how (item_layout args 0) s wss
  op-all known args s _ wss h = absurd (cc)

  ats-all : (wss : List (List ℕ)) (ks : List ℕ) → map (words_at (all wss)) ks ≡ all (map (words_at wss) ks)
  ats-all wss ks = map-same (words_at (all wss)) (λ k. map f (words_at wss k)) ks (at-all wss) ∙ sym (map-map (map f) (words_at wss) ks)

  node-all : (known : List Callee) (layouts : List StTree) (wss : List (List ℕ)) (n : StNodeTree) → is_moving n.op ≡ true
      → node_words known layouts (all wss) n ≡ map f (node_words known layouts wss n)
  node-all known layouts wss n h = ap (op_words known (map (item_layout layouts) n.args) n.type n.op) (ats-all wss n.args) ∙
      op-all known (map (item_layout layouts) n.args) n.type n.op (map (words_at wss) n.args) h

  grown-all : (known : List Callee) (layouts : List StTree) (wss : List (List ℕ)) (ns : List StNodeTree) → are_moving ns ≡ true
      → grown (node_words known layouts) (all wss) ns ≡ all (grown (node_words known layouts) wss ns)
  grown-all known layouts wss [] h = refl
  grown-all known layouts wss (n ∷ ns) h =
      let own = and_parts _ _ h in
      ap (λ ws. grown (node_words known layouts) (all wss ++ ws ∷ []) ns) (node-all known layouts wss n own.0)
      ∙ ap (λ ys. grown (node_words known layouts) ys ns) (sym (map-append (map f) wss (node_words known layouts wss n ∷ [])))
      ∙ grown-all known layouts (wss ++ node_words known layouts wss n ∷ []) ns own.1

  pub items-all : (known : List Callee) (s : StFuncTree) (wss : List (List ℕ)) → are_moving s.nodes ≡ true
      → item_words known s (all wss) ≡ all (item_words known s wss)
  items-all known s wss h = grown-all known (item_layouts s) wss s.nodes h

  pub at-all-words : (wss : List (List ℕ)) (k : ℕ) → words_at (all wss) k ≡ map f (words_at wss k)
  at-all-words wss k = at-all wss k
