use Rattle.std.proofs.Common.{◌≡◌, ◌∙◌, ℕ, ◌+◌, ◌<◌, ◌∷◌, [], ◌++◌, List, Vec, Global, Some, slice_get, length, map, ap, arith, sym, subst, length-append}
use Rattle.std.specs.List.{range_with_len}
use Rattle.std.proofs.lemmas.List.{length-map, map_push}
use Rattle.ae_sttype.specs.declared.st_type.StType.{StType}
use Rattle.ae_sttype.specs.StTree.{st_tree}
use Rattle.ae_moves.specs.Origins.{move_latency}
use Rattle.ae_moves.proofs.Lists.{get_mapped}
use Rattle.ae_rewrite.specs.StProgramTree.{st_func_tree, st_node_tree, st_trees}
use Rattle.ae_flow.specs.Flow.{words_at}
use Rattle.ae_fuse.specs.Labels.{layout_numbers}
use Rattle.ae_fuse.specs.Moved.{own_labels, own_move}
use Rattle.ae_fuse.specs.Wanted.{KeepWanted}
use Rattle.ae_fuse.proofs.ItemSteps.{input-sized, numbers-many}
use Rattle.ae_fuse.proofs.NodeSteps.{arrivals-agree, front, live-next, move-agree}
use Rattle.ae_fuse.proofs.ResultSteps.{arrivals-next}
use Rattle.ae_fuse.proofs.tracing.traced.Goals as goal
use Rattle.ae_retime.proofs.Lists.{layouts_long as count-items}

pub label_clocks-requires : goal.label_clocks-requires
label_clocks-requires c =
    record {
      sizes = λ k t found. input-sized c.args.s.now k t c.requires.movable.words
          (ap (λ (ts : List StType). slice_get ts k) (sym c.deref.ensures.value) ∙ found);
    }

pub first_labels-requires-clause-sizes : goal.first_labels-requires-clause-sizes
first_labels-requires-clause-sizes c k t found =
    input-sized c.args.s.now k t c.requires.movable.words (ap (λ (ts : List StType). slice_get ts k) (sym c.deref-2.ensures.value) ∙ found)

pub item_arrivals-requires-clause-many : goal.item_arrivals-requires-clause-many
item_arrivals-requires-clause-many c =
    let s = st_func_tree c.args.s.now in
    let items : Vec ℕ Global → List ℕ = λ w. w.items in
    let first : map items c.in_ok-labels.labels.items ≡ layout_numbers 1 s.ins = c.in_ok-labels.ensures ∙
    ap (λ (ts : List StType). layout_numbers 1 (st_trees ts)) c.deref-2.ensures.value in
    omega (arith, ap length c.deref-3.ensures.value, length-map c.in_ok-labels.labels.items items, ap length first, numbers-many 1 s.ins, count-items s)

pub item_arrivals-requires-clause-each : goal.item_arrivals-requires-clause-each
item_arrivals-requires-clause-each c i low =
    let s = st_func_tree c.args.s.now in
    let items : Vec ℕ Global → List ℕ = λ w. w.items in
    let first : map items c.in_ok-labels.labels.items ≡ layout_numbers 1 s.ins = c.in_ok-labels.ensures ∙
    ap (λ (ts : List StType). layout_numbers 1 (st_trees ts)) c.deref-2.ensures.value in
    let many : i < length s.ins = omega (
      arith,
      low,
      ap length c.deref-3.ensures.value,
      length-map c.in_ok-labels.labels.items items,
      ap length first,
      numbers-many 1 s.ins,
    ) in
    let same : words_at (map items c.deref-3.result.now) i ≡ words_at (own_labels s) i = ap
    (λ (ws : List (Vec ℕ Global)). words_at (map items ws) i) c.deref-3.ensures.value ∙ ap (λ (ls : List (List ℕ)). words_at ls i) first ∙
    front s c.requires.movable i many in
    move-agree s c.requires.movable (map items c.deref-3.result.now) i same (omega (arith, many, count-items s))

pub loop-j-init : goal.loop-j-init
loop-j-init c =
    let s = st_func_tree c.args.s.now in
    let items : Vec ℕ Global → List ℕ = λ w. w.items in
    let first : map items c.in_ok-labels.labels.items ≡ layout_numbers 1 s.ins = c.in_ok-labels.ensures ∙
    ap (λ (ts : List StType). layout_numbers 1 (st_trees ts)) c.deref-2.ensures.value in
    let many : length c.in_ok-labels.labels.items ≡ length s.ins = sym (length-map c.in_ok-labels.labels.items items) ∙ ap length first ∙
    numbers-many 1 s.ins in
    let ins : length s.ins ≡ length c.args.s.now.ins.items = length-map c.args.s.now.ins.items st_tree in
    let all : length c.deref-3.result.now ≡ length c.args.s.now.ins.items + 0 = omega (arith, ap length c.deref-3.ensures.value, many, ins) in
    let same : map items c.deref-3.result.now ≡ layout_numbers 1 s.ins = ap (map items) c.deref-3.ensures.value ∙ first in
    record {
      many = omega (arith, many, ins);
      live = λ a wanted low. ap (λ (ls : List (List ℕ)). words_at ls a) first ∙ front s c.requires.movable a (omega (arith, low, many));
      arrivals = c.in_ok-arrivals.ensures
          ∙ arrivals-agree s (map items c.deref-3.result.now) (length c.deref-3.result.now)
          (λ i low. ap (λ (ls : List (List ℕ)). words_at ls i) same ∙ front s c.requires.movable i (omega (arith, low, all, ins)))
          ∙ ap (λ n. map (λ i. move_latency (own_move s (own_labels s) i)) (range_with_len 0 n)) all;
      within = omega arith;
    }

pub trace_node-requires-clause-labels : goal.trace_node-requires-clause-labels
trace_node-requires-clause-labels c n i a found at =
    let items : Vec ℕ Global → List ℕ = λ w. w.items in
    let below = c.requires.movable.words.args c.loop-j.j i a n found at in
    let low : a < length c.loop-j.labels.items = omega (arith, below, length-map c.args.s.now.ins.items st_tree, c.loop-j.invariant.many) in
    ap (λ (ws : List (Vec ℕ Global)). words_at (map items ws) a) c.deref-in-loop-j-2.ensures.value ∙
    c.loop-j.invariant.live a (c.in_ok-last.ensures.nodes c.loop-j.j i a n found at) low

pub forget_all-requires-clause-inside : goal.forget_all-requires-clause-inside
forget_all-requires-clause-inside c i a at =
    let items : Vec ℕ Global → List ℕ = λ w. w.items in
    let j = c.loop-j.j in
    let found : slice_get (st_func_tree c.args.s.now).nodes j ≡ Some
    (st_node_tree c.node_at.result.now) = get_mapped st_node_tree c.args.s.now.nodes.items j c.node_at.result.now c.node_at.ensures in
    let here : slice_get c.node_at.result.now.args.items i ≡ Some a = ap (λ (xs : List ℕ). slice_get xs i) (sym c.as_slice.ensures.value) ∙ at in
    let below = c.requires.movable.words.args j i a (st_node_tree c.node_at.result.now) found here in
    let more : length c.push.new.self.items ≡ length c.loop-j.labels.items + 1 = ap length c.in_ok-push.ensures.items ∙
    length-append c.loop-j.labels.items (c.in_ok-own.own ∷ []) in
    omega (
      arith,
      below,
      length-map c.args.s.now.ins.items st_tree,
      c.loop-j.invariant.many,
      more,
      length-map c.push.new.self.items items,
      length-map c.forget.new.labels.items items,
      c.forget.ensures.many,
    )

pub loop-j-preserved : goal.loop-j-preserved
loop-j-preserved c =
    let s = st_func_tree c.args.s.now in
    let items : Vec ℕ Global → List ℕ = λ w. w.items in
    let j = c.loop-j.j in
    let ls : List (List ℕ) = map items c.loop-j.labels.items in
    let last : List ℕ = c.in_ok-last.last.items in
    let ins : length s.ins ≡ length c.args.s.now.ins.items = length-map c.args.s.now.ins.items st_tree in
    let held : length ls ≡ length c.loop-j.labels.items = length-map c.loop-j.labels.items items in
    let pushed : map items c.push.new.self.items ≡ ls ++ c.in_ok-own.own.items ∷ [] = ap (map items) c.in_ok-push.ensures.items ∙
    map_push items c.loop-j.labels.items c.in_ok-own.own in
    let freed : List (List ℕ) = map items c.forget.new.labels.items in
    let kept : List (List ℕ) = map items c.forget_all.new.labels.items in
    let one : KeepWanted last j (ls ++ c.in_ok-own.own.items ∷ []) freed = subst (λ (xs : List (List ℕ)). KeepWanted last j xs freed) pushed
    (subst (λ (us : List ℕ). KeepWanted us j (map items c.push.new.self.items) freed) c.deref-in-loop-j-3.ensures.value c.forget.ensures) in
    let two : KeepWanted last j freed kept = subst (λ (us : List ℕ). KeepWanted us j freed kept) c.deref-in-loop-j-4.ensures.value c.forget_all.ensures in
    let own : c.in_ok-own.own.items ≡ words_at (own_labels s) (length s.ins + j) = c.in_ok-own.ensures.labels ∙
    ap (λ k. words_at (own_labels s) (k + j)) (sym ins) in
    let more : length kept ≡ length ls + 1 = two.many ∙ one.many ∙ length-append ls (c.in_ok-own.own.items ∷ []) in
    let all : length c.forget_all.new.labels.items ≡ length kept = sym (length-map c.forget_all.new.labels.items items) in
    let f : ℕ → ℕ = λ i. move_latency (own_move s (own_labels s) i) in
    let next : length c.args.s.now.ins.items + j + 1 ≡ length c.args.s.now.ins.items + (j + 1) = omega arith in
    record {
      many = omega (arith, all, more, held, c.loop-j.invariant.many);
      live = λ a wanted low. live-next s c.requires.movable last j ls freed kept c.in_ok-own.own.items (omega (arith, held, c.loop-j.invariant.many, ins))
          (λ b w l. c.loop-j.invariant.live b w (omega (arith, l, held))) own one two a wanted (omega (arith, low, all));
      arrivals = c.in_ok-push-2.ensures.items ∙ arrivals-next f
          (length c.args.s.now.ins.items + j) c.in_ok-own.arrival c.loop-j.arrivals.items c.loop-j.invariant.arrivals c.in_ok-own.ensures.arrival ∙
          ap (λ n. map f (range_with_len 0 n)) next;
      within = omega (arith, c.loop-j-test.true);
    }
