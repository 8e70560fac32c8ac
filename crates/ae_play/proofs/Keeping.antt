-- Stepping a circuit, and what is kept of it.
use Rattle.std.proofs.Common.{ℕ, zero, suc, ◌≡◌, ◌+◌, ◌-◌, ◌<◌, ◌≤◌, List, [], ◌∷◌, ◌++◌, length, length-append, take, drop, map, Some, slice_get, get_or, arith, refl, ap, sym, ◌∙◌, subst, append_assoc}
use Rattle.std.specs.List.{range_with_len}
use Rattle.std.proofs.Math.ListN.{get_or-append}
use Rattle.std.proofs.lemmas.List.{append-nil, length-map, take-append-drop, take_all, take_more}
use Rattle.std.proofs.lemmas.List.FromFn.{length-map-range_with_len, map-range_with_len_more, take-map-range_with_len}
use Rattle.ae_netlist.specs.declared.cell.Outlet.{Outlet}
use Rattle.ae_netlist.specs.declared.cell.SizedCell.{SizedCell}
use Rattle.ae_netlist.specs.Counts.{is_input, number_of}
use Rattle.ae_netlist.specs.Runs.{Clock, word_at}
use Rattle.ae_sim.specs.Playing.{HasPlayed, Plays, Simulated}
use Rattle.ae_play.specs.Keeps.{Keeps}
use Rattle.ae_play.specs.Lines.{shown_words}

-- ---- the words of the outputs

record IsThere {X : Type 0} (xs : List X) (k : ℕ) : Type 0 where
  x : X
  found : slice_get xs k ≡ Some x

there : {X : Type 0} (xs : List X) (k : ℕ) → k < length xs → IsThere xs k
there [] k h = absurd (omega arith)
there (x ∷ xs) zero h = record { x = x; found = refl }
there (x ∷ xs) (suc k) h = let r = there xs k (omega arith) in record { x = r.x; found = r.found }

mapped-at : {X Y : Type 0} (g : X → Y) (xs : List X) (k : ℕ) (x : X) (d : Y) → slice_get xs k ≡ Some x → get_or (map g xs) k d ≡ g x
mapped-at g [] k x d h = cc
mapped-at g (y ∷ xs) zero x d h = cc
mapped-at g (y ∷ xs) (suc k) x d h = mapped-at g xs k x d h

pub words_more : (outlets : List Outlet) (run : List Clock) (t k word : ℕ) (now new : List ℕ) → k < length outlets
    → ((o : Outlet) → slice_get outlets k ≡ Some o → word ≡ word_at run t o.net.0)
    → now ≡ take k (shown_words outlets run t) → new ≡ now ++ word ∷ [] → new ≡ take (k + 1) (shown_words outlets run t)
words_more outlets run t k word now new h is was made =
    let ws = shown_words outlets run t in
    let o = there outlets k h in
    let long : length ws ≡ length outlets = length-map outlets (λ (x : Outlet). word_at run t x.net.0) in
    let last : get_or ws k 0 ≡ word = mapped-at (λ (x : Outlet). word_at run t x.net.0) outlets k o.x 0 o.found ∙ sym (is o.x o.found) in
    made ∙ ap (λ x. x ++ word ∷ []) was ∙ ap (λ w. take k ws ++ w ∷ []) (sym last) ∙ sym (take_more ws k 0 (omega (arith, h, long)))

pub words_all : (outlets : List Outlet) (run : List Clock) (t k : ℕ) (now : List ℕ) → length outlets ≤ k → now ≡ take k (shown_words outlets run t)
    → now ≡ shown_words outlets run t
words_all outlets run t k now h e =
    let ws = shown_words outlets run t in
    let long : length ws ≡ length outlets = length-map outlets (λ (x : Outlet). word_at run t x.net.0) in
    e ∙ take_all k ws (omega (arith, h, long))

-- ---- going over the clocks

abbrev first_rows : (given : ℕ → List ℕ) → (clocks : ℕ) → List (List ℕ)
first_rows given c = map given (range_with_len 0 c)

length-first_rows : (rows : List (List ℕ)) (given : ℕ → List ℕ) (c : ℕ) → length (rows ++ first_rows given c) ≡ length rows + c
length-first_rows rows given c = length-append rows (first_rows given c) ∙ ap (λ n. length rows + n) (length-map-range_with_len given 0 c)

first_rows_more : (rows : List (List ℕ)) (given : ℕ → List ℕ) (c : ℕ) (row : List ℕ) → row ≡ given c → (rows ++ first_rows given c) ++ row ∷ [] ≡ rows
    ++ first_rows given (c + 1)
first_rows_more rows given c row is =
    append_assoc rows (first_rows given c) (row ∷ [])
    ∙ ap (λ x. rows ++ x) (ap (λ r. first_rows given c ++ r ∷ []) is ∙ sym (map-range_with_len_more given 0 c c (omega arith)))

-- the rows of fewer clocks are the first ones
split : (rows : List (List ℕ)) (given : ℕ → List ℕ) (c n : ℕ) → c ≤ n → rows ++ first_rows given n ≡ (rows ++ first_rows given c) ++ drop c (first_rows given n)
split rows given c n h =
    let all = first_rows given n in
    ap (λ x. rows ++ x) (sym (take-append-drop c all) ∙ ap (λ x. x ++ drop c all) (take-map-range_with_len given 0 n c h))
    ∙ sym (append_assoc rows (first_rows given c) (drop c all))

-- a run that plays rows plays the first of them
plays_front : (cells : List SizedCell) (fill : ℕ) (xs ys : List (List ℕ)) (run : List Clock) → Plays cells fill (xs ++ ys) run → Plays cells fill xs run
plays_front cells fill xs ys run p =
    let both : length (xs ++ ys) ≡ length xs + length ys = length-append xs ys in
    record {
      runs = p.runs;
      long = omega (arith, both, p.long);
      takes = record {
        each = λ t k sized below found is.
            p.takes.each t k sized (omega (arith, below, both)) found is
            ∙ ap (λ (ws : List ℕ). get_or ws (number_of is_input cells k) 0) (get_or-append xs ys [] t below);
      };
      begins = p.begins;
    }

plays_first : (cells : List SizedCell) (fill : ℕ) (rows : List (List ℕ)) (given : ℕ → List ℕ) (c n : ℕ) (run : List Clock) → c ≤ n
    → Plays cells fill (rows ++ first_rows given n) run → Plays cells fill (rows ++ first_rows given c) run
plays_first cells fill rows given c n run h p =
    plays_front cells fill (rows ++ first_rows given c) (drop c (first_rows given n)) run
    (subst (λ (rs : List (List ℕ)). Plays cells fill rs run) (split rows given c n h) p)

-- a simulator that went so many clocks on
pub record HasGone (begin : Simulated) (given : ℕ → List ℕ) (sim : Simulated) (c : ℕ) : Type 0 where
  pub cells_are : sim.cells ≡ begin.cells
  pub outlets_are : sim.outlets ≡ begin.outlets
  pub played : (fill : ℕ) (rows : List (List ℕ)) → HasPlayed begin fill rows → HasPlayed sim fill (rows ++ first_rows given c)

-- and what is kept of these clocks
pub record KeepsTo {K : Type 0} (begin : Simulated) (given : ℕ → List ℕ) (takes : ℕ → List ℕ → List ℕ → K → K → Type 0) (count : ℕ) (first : K)
    (sim : Simulated) (kept : K) (c : ℕ) : Type 0 where
  pub gone : HasGone begin given sim c
  pub keeps : (fill : ℕ) (rows : List (List ℕ)) (run : List Clock) → HasPlayed begin fill rows → Plays begin.cells fill (rows ++ first_rows given count) run
      → Keeps takes given (λ k. shown_words begin.outlets run (length rows + k)) first c kept

pub keeps_none : {K : Type 0} (begin : Simulated) (given : ℕ → List ℕ) (takes : ℕ → List ℕ → List ℕ → K → K → Type 0) (count : ℕ) (first : K)
    → KeepsTo begin given takes count first begin first 0
keeps_none begin given takes count first = record {
  gone = record {
    cells_are = refl;
    outlets_are = refl;
    played = λ fill rows h. subst (λ (rs : List (List ℕ)). HasPlayed begin fill rs) (sym (append-nil rows)) h;
  };
  keeps = λ fill rows run h p. refl;
}

pub gone_more : (begin : Simulated) (given : ℕ → List ℕ) (sim sim' : Simulated) (row : List ℕ) (c : ℕ) → HasGone begin given sim c → row ≡ given c
    → sim'.cells ≡ sim.cells → sim'.outlets ≡ sim.outlets
    → ((fill : ℕ) (rows : List (List ℕ)) → HasPlayed sim fill rows → HasPlayed sim' fill (rows ++ row ∷ [])) → HasGone begin given sim' (c + 1)
gone_more begin given sim sim' row c g is ce oe plays = record {
  cells_are = ce ∙ g.cells_are;
  outlets_are = oe ∙ g.outlets_are;
  played = λ fill rows h. subst (λ (rs : List (List ℕ)). HasPlayed sim' fill rs) (first_rows_more rows given c row is)
      (plays fill (rows ++ first_rows given c) (g.played fill rows h));
}

pub keeps_more : {K : Type 0} (begin : Simulated) (given : ℕ → List ℕ) (takes : ℕ → List ℕ → List ℕ → K → K → Type 0) (count : ℕ) (first : K)
    (sim sim' : Simulated) (kept kept' : K) (row taken words : List ℕ) (c : ℕ)
    → KeepsTo begin given takes count first sim kept c → c < count → row ≡ given c → taken ≡ given c → sim'.cells ≡ sim.cells → sim'.outlets ≡ sim.outlets
    → ((fill : ℕ) (rows : List (List ℕ)) → HasPlayed sim fill rows → HasPlayed sim' fill (rows ++ row ∷ []))
    → ((fill : ℕ) (rows : List (List ℕ)) (run : List Clock) → HasPlayed sim' fill rows → 1 ≤ length rows → Plays sim'.cells fill rows run
    → words ≡ shown_words sim'.outlets run (length rows - 1))
    → takes c taken words kept kept' → KeepsTo begin given takes count first sim' kept' (c + 1)
keeps_more {K} begin given takes count first sim sim' kept kept' row taken words c s below is same ce oe plays line take =
    let gone : HasGone begin given sim' (c + 1) = gone_more begin given sim sim' row c s.gone is ce oe plays in
    let next : suc c ≡ c + 1 = omega arith in
    record {
      gone = gone;
      keeps = λ fill rows run h p.
          let shown : ℕ → List ℕ = λ k. shown_words begin.outlets run (length rows + k) in
          let fed : List (List ℕ) = rows ++ first_rows given (c + 1) in
          let long : length fed ≡ length rows + (c + 1) = length-first_rows rows given (c + 1) in
          let last : length fed - 1 ≡ length rows + c = omega (arith, long) in
          let here : Plays sim'.cells fill fed run =
          subst (λ (cs : List SizedCell). Plays cs fill fed run) (sym gone.cells_are)
          (plays_first begin.cells fill rows given (c + 1) count run (omega arith) p) in
          let are : words ≡ shown c = line fill fed run (gone.played fill rows h) (omega (arith, long)) here ∙
          (λ i. shown_words (gone.outlets_are i) run (last i)) in
          let took : takes c (given c) (shown c) kept kept' = subst (λ ws. takes c (given c) ws kept kept') are
          (subst (λ r. takes c r words kept kept') same take) in
          subst (λ n. Keeps takes given shown first n kept') next (kept, s.keeps fill rows run h p, took);
    }

pub keeps_all : {K : Type 0} (begin : Simulated) (given : ℕ → List ℕ) (takes : ℕ → List ℕ → List ℕ → K → K → Type 0) (count : ℕ) (first : K) (sim : Simulated)
    (kept : K) (c : ℕ)
    → KeepsTo begin given takes count first sim kept c → c ≡ count
    → (fill : ℕ) (rows : List (List ℕ)) (run : List Clock) → HasPlayed begin fill rows → Plays begin.cells fill (rows ++ first_rows given count) run
    → Keeps takes given (λ k. shown_words begin.outlets run (length rows + k)) first count kept
keeps_all begin given takes count first sim kept c s e fill rows run h p =
    subst (λ n. Keeps takes given (λ k. shown_words begin.outlets run (length rows + k)) first n kept) e (s.keeps fill rows run h p)
