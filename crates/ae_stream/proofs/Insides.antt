-- The circuit inside is the first cells of the netlist of which a copy is held.
use Rattle.std.specs.Prelude.{slice_get, unwrap_or}
use Rattle.std.proofs.Common.{ℕ, ◌≡◌, ◌+◌, ◌<◌, ◌≤◌, ◌++◌, List, [], ◌∷◌, length, map, take, drop, arith, refl, ap, sym, ◌∙◌, subst}
use Rattle.std.specs.List.{filter}
use Rattle.std.proofs.lemmas.List.{take-take}
use Rattle.std.proofs.lemmas.Option.{unwrap_or-slice_get}
use Rattle.ae_netlist.proofs.OrElse.{shaped_at}
use Rattle.ae_netlist.specs.Circuit.{Circuit}
use Rattle.ae_netlist.specs.Runs.{Clock, no_clock, IsRun, IsShaped}
use Rattle.ae_netlist.proofs.Growing.{extends_length}
use Rattle.ae_rewrite.specs.Blocks.{outlet_net}
use Rattle.ae_stall.specs.Images.{placed}
use Rattle.ae_stall.specs.Held.{held_part, inner_clock, without_inputs}
use Rattle.ae_stall.proofs.Lists.{without_inputs_at}
use Rattle.ae_stream.specs.Streams.{Ends, bit}
use Rattle.ae_stream.specs.Control.{Control, IsInside, word_in}
use Rattle.ae_stream.specs.Inside.{IsHeldInside, first_nets}
use Rattle.ae_stream.proofs.Cutting.{first_run}

map_twice : {A B C : Type 0} (g : B → C) (f : A → B) (h : A → C) (xs : List A) → ((x : A) → g (f x) ≡ h x) → map g (map f xs) ≡ map h xs
map_twice g f h [] e = refl
map_twice g f h (x ∷ xs) e = λ i. e x i ∷ map_twice g f h xs e i

cut_nets : {X : Type 0} (n m : ℕ) (xs : List X) → n ≤ m → take n (without_inputs 2 m xs) ≡ without_inputs 2 n xs
cut_nets n m xs l = take-take n m (take 1 xs ++ drop 3 xs) l

module _ (x : Control) (ends : Ends) (n marked copied new : Circuit) (h : IsHeldInside x ends n marked copied new) (run : List Clock)
    (r : IsRun new.cells run) where
  abbrev pub inner : Clock → Clock
  inner = inner_clock 2 (length n.cells)

  many : length n.cells ≤ length marked.cells
  many = extends_length n.cells marked.cells h.first

  cut : (c : Clock) → first_nets (length n.cells) (inner_clock 2 (length marked.cells) c) ≡ inner c
  cut c = λ i. record {
    words = cut_nets (length n.cells) (length marked.cells) c.words many i;
    stores = cut_nets (length n.cells) (length marked.cells) c.stores many i;
  }

  all_cut : map (first_nets (length n.cells)) (held_part 2 x.enable (length marked.cells) run) ≡ map inner (filter (bit x.enable) run)
  unfolding held_part
  all_cut = map_twice (first_nets (length n.cells)) (inner_clock 2 (length marked.cells)) inner (filter (bit x.enable) run) cut

  runs : IsRun n.cells (map inner (filter (bit x.enable) run))
  runs = subst (IsRun n.cells) all_cut (first_run n.cells marked.cells h.formed h.first (held_part 2 x.enable (length marked.cells) run) (h.held.runs run r))

  word : (t k : ℕ) → t < length run → k < length n.cells
      → word_in k (inner (unwrap_or (slice_get run t) no_clock)) ≡ word_in (placed 2 k) (unwrap_or (slice_get run t) no_clock)
  word t k l b =
      let s : IsShaped new.cells (unwrap_or (slice_get run t) no_clock) = shaped_at r t l in
      let words : List ℕ = (unwrap_or (slice_get run t) no_clock).words in
      unwrap_or-slice_get (without_inputs 2 (length n.cells) words) k 0
      ∙ (without_inputs_at 2 (length n.cells) words k 0 b (omega (arith, s.words, h.held.longer, h.longer, many))
      ∙ sym (unwrap_or-slice_get words (placed 2 k) 0))

  pub inside : IsInside x ends n inner run
  inside = record {
    runs = runs;
    parts = λ t l. record {
      reset = word t 0 l h.some;
      ins = λ q b. (let i = h.ins q b in word t (1 + q) l i.0 ∙ ap (λ k. word_in k (unwrap_or (slice_get run t) no_clock)) (sym i.1));
      outs = λ q b. (let o = h.outs q b in word t (outlet_net n.outlets q) l o.0 ∙ ap (λ k. word_in k (unwrap_or (slice_get run t) no_clock)) (sym o.1));
    };
  }
