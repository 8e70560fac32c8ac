-- Instances on each element give words that fit.
use Rattle.std.proofs.Common.{◌≡◌, ℕ, ◌*◌, ◌/◌, ◌<◌, List, [], ◌∷◌, length, map, take, drop, ap, sym, ◌∙◌, arith, subst, mul_assoc}
use Rattle.std.proofs.Math.Nat.{mul-div_cancel}
use Rattle.ae_seqtype.specs.SeqTree.{repeated}
use Rattle.ae_sttype.specs.StTree.{StTree, tseq, sseq, st_atoms}
use Rattle.ae_sttype.specs.Slots.{slots}
use Rattle.ae_sttype.proofs.Places.{length-slots}
use Rattle.ae_ops.specs.Blocks.{Stream, AreWords, AllAreWords, stream_of}
use Rattle.ae_rewrite.specs.Sound.{item_layout, item_layouts}
use Rattle.ae_rewrite.specs.StProgramTree.{StFuncTree, body}
use Rattle.ae_flow.specs.Flow.{Callee, callee_at, element_count, first_result, layout_words, mapped, op_words, pieces}
use Rattle.ae_flow.specs.Fitted.{FitsBody, elements_stream}
use Rattle.ae_ports.specs.Ports.{streams_of}
use Rattle.ae_flow.proofs.Widths.{FitWidths, all_fit, element_fit, fit_of, repeated_mul}
use Rattle.ae_flow.proofs.Operands.{widths_of, words_from}
use Rattle.ae_gather.proofs.GatherLaw.{length_widths as length-widths_of}

-- what callers of an instance know: words that fit its parameters give words that fit its first result
pub record GivesWords (f : StFuncTree) (c : Callee) : Type 0 where
  pub ins : c.ins ≡ f.ins
  pub out : c.out ≡ item_layout (item_layouts f) (first_result f)
  pub some : 0 < st_atoms c.out
  pub flow : (vs : List (List ℕ)) → AllAreWords (streams_of f.ins) vs → AreWords (stream_of c.out) (c.flow vs)

-- ---- elements of the arguments

many_elements : (n m : ℕ) (x : StTree) → length (slots (tseq n 0 (sseq m x))) ≡ n * m * st_atoms x
many_elements n m x = length-slots (tseq n 0 (sseq m x)) ∙ sym (mul_assoc n m (st_atoms x))

piece_fits : (n m e : ℕ) (x : StTree) (v : List ℕ) → e < n * m → AreWords (elements_stream n m x) v
    → AreWords (stream_of x) (take (layout_words x) (drop (e * layout_words x) v))
piece_fits n m e x v below h =
    let rows : FitWidths v (repeated (n * m * st_atoms x) (widths_of x)) = rw (← many_elements n m x) (fit_of (elements_stream n m x) v h) in
    words_from x (take (layout_words x) (drop (e * layout_words x) v))
    (rw (← length-widths_of x) (element_fit (n * m) (st_atoms x) e (widths_of x) v below rows))

pieces_fit : (n m e : ℕ) (xs : List StTree) (vs : List (List ℕ)) → e < n * m → AllAreWords (map (elements_stream n m) xs) vs
    → AllAreWords (streams_of xs) (pieces xs e vs)
pieces_fit n m e [] [] below h = tt
pieces_fit n m e [] (v ∷ vs) below h = absurd h
pieces_fit n m e (x ∷ xs) [] below h = absurd h
pieces_fit n m e (x ∷ xs) (v ∷ vs) below h = (piece_fits n m e x v below h.0, pieces_fit n m e xs vs below h.1)

-- ---- the instance on each

each_fits : (f : StFuncTree) (c : Callee) (n m : ℕ) (s : StTree) (vs : List (List ℕ)) → GivesWords f c → stream_of s ≡ elements_stream n m c.out
    → AllAreWords (map (elements_stream n m) f.ins) vs → AreWords (stream_of s) (mapped c (element_count c s) vs)
each_fits f c n m s vs g out fit =
    let o : StTree = c.out in
    let atoms : st_atoms s ≡ n * m * st_atoms o = sym (length-slots s) ∙ (ap (λ (z : Stream). length z.slots) out ∙ many_elements n m o) in
    let count : element_count c s ≡ n * m = ap (λ i. i / st_atoms o) atoms ∙ mul-div_cancel (n * m) g.some in
    let wide : widths_of s ≡ widths_of o = ap (λ (z : Stream). z.widths) out in
    let all : FitWidths (mapped c (n * m) vs) (repeated (n * m) (repeated (st_atoms o) (widths_of o))) = all_fit (λ e. c.flow (pieces c.ins e vs))
    (repeated (st_atoms o) (widths_of o)) 0 (n * m) (λ e low high.
    let below : e < n * m = omega (arith, high) in
    let parts : AllAreWords (streams_of f.ins) (pieces c.ins e vs) = rw g.ins (pieces_fit n m e f.ins vs below fit) in
    rw (length-slots o) at (fit_of (stream_of o) (c.flow (pieces c.ins e vs)) (g.flow (pieces c.ins e vs) parts))) in
    let rows : FitWidths (mapped c (n * m) vs) (repeated (n * m * st_atoms o) (widths_of o)) = rw (repeated_mul (n * m) (st_atoms o) (widths_of o)) all in
    words_from s (mapped c (element_count c s) vs) (rw (count, atoms, wide) rows)

pub body_words : (known : List Callee) (k budget copies : ℕ) (ins : List StTree) (s : StTree) (vs : List (List ℕ)) (f : StFuncTree)
    → GivesWords f (callee_at known k) → FitsBody budget copies ins s f → AllAreWords (streams_of ins) vs
    → AreWords (stream_of s) (op_words known ins s (body k) vs)
body_words known k budget copies ins s vs f g h fit =
    each_fits f (callee_at known k) h.slots copies s vs g (rw g.out h.out) (subst (λ (ss : List Stream). AllAreWords ss vs) h.ins fit)
